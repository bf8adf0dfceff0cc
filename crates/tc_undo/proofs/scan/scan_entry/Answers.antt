use Rattle.std.proofs.Common.{◌≡◌, ◌+◌, take, drop, ◌∙◌, sym, ap, arith, length-drop, subst, Bool, ◌&&◌, nat_le, get_or}
use Rattle.ud_log.specs.Scan.{Scanned}
use Rattle.tc_io.specs.Images.{now, Calls}
use Rattle.ud_log.specs.Undo.{length_of}
use Rattle.ud_log.proofs.Scanning.{scan_done}
use Rattle.tc_undo.proofs.EntryRead.{no_more, one_more, not_formed}
use Rattle.tc_undo.proofs.scan.scan_entry.Goals as goal

pub returns-then-left-lt20-clause-seen : goal.returns-then-left-lt20-clause-seen
returns-then-left-lt20-clause-seen g c = λ t. scan_done _ _ c.args.at c.args.fine (c.requires.scanned t) (omega (arith, c.if-left-lt20.true, c.requires.len t, length-drop c.args.at (now (g.V.Volume.calls c.args.vol.now) 1)))

pub returns-then-size-left-clause-seen : goal.returns-then-size-left-clause-seen
returns-then-size-left-clause-seen g c = λ t.
    let front = c.in_ok-read.ensures.bytes t in
    no_more _ _ c.read.new.into c.args.at c.args.len c.read_head-head.result.size c.args.fine (c.requires.scanned t) (c.requires.len t) c.requires.order front c.read_head-head.ensures.size (omega arith) (omega arith)

pub returns-then-not-is_formed-clause-broken : goal.returns-then-not-is_formed-clause-broken
returns-then-not-is_formed-clause-broken g c = λ t.
    let front = c.in_ok-read.ensures.bytes t in
    let reads = ap (λ (cs : Calls). take 4 (drop (c.args.at + 16 + c.read_head-head.result.size) (now cs 1))) (c.read.ensures.calls t) in
    let bad = not_formed _ _ c.read.new.into c.args.at c.args.len c.read_head-head.result.size c.args.fine (c.requires.scanned t) (c.requires.len t) c.requires.order front c.read_head-head.ensures.size c.read-2.new.into c.read_head-head.result.file c.read_head-head.result.at c.read_again.result (omega arith) (c.in_ok-read-2.ensures.bytes t ∙ reads) c.read_head-head.ensures.file c.read_head-head.ensures.at c.read_again.ensures.number (sym c.is_formed.ensures ∙ c.if-not-is_formed.true) in
    (c.rule.ensures, bad)

pub returns-clause-seen : goal.returns-clause-seen
returns-clause-seen g c = λ t.
    let front = c.in_ok-read.ensures.bytes t in
    let reads = ap (λ (cs : Calls). take 4 (drop (c.args.at + 16 + c.read_head-head.result.size) (now cs 1))) (c.read.ensures.calls t) in
    let inside : c.ends_inside-inside.result ≡ nat_le (c.read_head-head.result.at + c.read_head-head.result.size) (length_of c.args.lens.now c.read_head-head.result.file) = c.ends_inside-inside.ensures ∙ ap (λ k. nat_le (c.read_head-head.result.at + c.read_head-head.result.size) (get_or c.args.lens.now k 0)) c.place.ensures.place in
    subst (λ (b : Bool). Scanned (now (g.V.Volume.calls c.args.vol.now) 1) c.args.lens.now (c.args.at + 20 + c.read_head-head.result.size) (c.args.fine && b)) (sym inside)
    (one_more _ _ c.read.new.into c.args.at c.args.len c.read_head-head.result.size c.args.fine (c.requires.scanned t) (c.requires.len t) c.requires.order front c.read_head-head.ensures.size c.read-2.new.into c.read_head-head.result.file c.read_head-head.result.at c.read_again.result (omega arith) (c.in_ok-read-2.ensures.bytes t ∙ reads) c.read_head-head.ensures.file c.read_head-head.ensures.at c.read_again.ensures.number c.read_head-head.ensures.bytes c.read_again.ensures.bytes (sym c.is_formed.ensures ∙ c.if-not-is_formed.false))
