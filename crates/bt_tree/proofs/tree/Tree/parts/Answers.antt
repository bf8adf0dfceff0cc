use Rattle.std.proofs.Common.{arith, drop, length, length-drop, take, ◌-◌, ◌<◌}
use Rattle.bt_tree.proofs.Pieces.{from_two, one_given, three_parts}
use Rattle.bt_tree.proofs.tree.Tree.parts.Goals as goal

pub returns-clause-parts : goal.returns-clause-parts
returns-clause-parts g c =
    let some : 0 < length (drop c.args.j c.args.leaf.items) = omega (arith, c.if-j-len.false, c.len.ensures, c.requires.1, length-drop c.args.j c.args.leaf.items) in
    three_parts _ _ _ _ _ _ _ _ _ c.in_ok-two.two c.in_ok-in_three.field-0 some c.in_ok-second_id.ensures.given (omega (arith, c.in_ok-third_id.ensures.given, one_given c.args.self.now c.leaf_id.new.self c.in_ok-second_id.ensures.noted)) c.in_ok-two.ensures c.in_ok-in_three.ensures.leaves c.in_ok-in_three.ensures.added c.in_ok-in_three.ensures.last

pub returns-clause-given : goal.returns-clause-given
returns-clause-given g c =
    let some : 0 < length (drop c.args.j c.args.leaf.items) = omega (arith, c.if-j-len.false, c.len.ensures, c.requires.1, length-drop c.args.j c.args.leaf.items) in
    omega (arith, from_two c.args.self.now.head.leaf_ids (take (c.args.j - c.args.i) (drop c.args.i c.args.leaf.items)) (drop c.args.j c.args.leaf.items) some, one_given c.leaf_id.new.self c.leaf_id-2.new.self c.in_ok-third_id.ensures.noted, one_given c.args.self.now c.leaf_id.new.self c.in_ok-second_id.ensures.noted)
