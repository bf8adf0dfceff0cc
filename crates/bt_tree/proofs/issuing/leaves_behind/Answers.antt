use Rattle.std.proofs.Common.{◌<◌, ◌≡◌, arith, drop, length, length-drop, sym}
use Rattle.bt_tree.proofs.Issues.{from_one}
use Rattle.bt_tree.proofs.Pieces.{from_two}
use Rattle.bt_tree.proofs.issuing.leaves_behind.Goals as goal

pub returns-then-j-len : goal.returns-then-j-len
returns-then-j-len c = λ given second.
    let none : length (drop c.args.j c.args.leaf.now.items) ≡ 0 = omega (arith, c.if-j-len.true, c.len.ensures, length-drop c.args.j c.args.leaf.now.items) in
    sym (from_one given second (drop c.args.j c.args.leaf.now.items) none)

pub returns : goal.returns
returns c = λ given second.
    let some : 0 < length (drop c.args.j c.args.leaf.now.items) = omega (arith, c.if-j-len.false, c.len.ensures, c.requires, length-drop c.args.j c.args.leaf.now.items) in
    sym (from_two given second (drop c.args.j c.args.leaf.now.items) some)
