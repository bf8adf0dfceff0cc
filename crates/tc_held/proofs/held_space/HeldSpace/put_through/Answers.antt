use Rattle.std.proofs.Common.{length, ℕ, List, ap, arith}
use Rattle.tc_held.specs.Held.{over}
use Rattle.tc_held.proofs.Holding.{held_bare, one_reached, one_written, written_bare}
use Rattle.tc_held.proofs.held_space.HeldSpace.put_through.Goals as goal

pub write_all-requires-clause-reached : goal.write_all-requires-clause-reached
write_all-requires-clause-reached g c = λ t. one_reached c.args.file c.args.at c.args.bytes.now (g.S.Space.now c.flush.new.self.below) (omega (arith, c.requires.reaches.inside t, ap (λ (l : List ℕ). length l) (c.in_ok-flush.ensures.now t c.args.file)))

pub returns-clause-held : goal.returns-clause-held
returns-clause-held g c =
    let mid = c.flush.new.self in
    held_bare g.S.Space g.S.Batched.logged c.write_all.new.self mid.held c.in_ok-flush.ensures.held.tidy c.in_ok-flush.ensures.empty (g.met.S.Batched.low c.write_all.new.self c.in_ok-write_all.ensures.outcome.ok)

pub returns-clause-wrote : goal.returns-clause-wrote
returns-clause-wrote g c = λ t.
    let s = g.S.Space in
    let mid = c.flush.new.self in
    let old = c.args.self.now in
    written_bare c.args.file c.args.at c.args.bytes.now (over old.held (s.now old.below)) (s.now mid.below) (s.now c.write_all.new.self) mid.held c.in_ok-flush.ensures.empty (c.in_ok-flush.ensures.now t)
    (one_written c.args.file c.args.at c.args.bytes.now (s.now mid.below) (s.now c.write_all.new.self) (c.in_ok-write_all.ensures.wrote t))
