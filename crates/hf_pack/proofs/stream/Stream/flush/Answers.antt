use Rattle.std.proofs.Common.{rules, ◌∙◌, ◌^◌, ◌<◌, ℕ, List, arith}
use Rattle.tc_base.specs.Files.{wrote}
use Rattle.hf_pack.proofs.Streaming.{flushed}
use Rattle.hf_pack.proofs.stream.Stream.flush.Goals as goal

pub returns-clause-pushed : goal.returns-clause-pushed
returns-clause-pushed g c = λ t.
    let r : c.len.result < 2 ^ 64 = search rules in
    let inside = c.requires.reaches.inside t in
    let long = c.len.ensures t in
    let exact = c.end.ensures.exact (omega (arith, r, inside, long)) in
    let old : List ℕ = g.S.Space.now c.args.space.now c.args.file in
    flushed c.args.self.now _ old (g.S.Space.now c.write_changed.new.space c.args.file) inside (omega (arith, c.min-end.ensures, exact, inside, long)) c.clear.ensures
    ((c.in_ok-write_changed.ensures.wrote t).here ∙ (λ i. wrote (c.make_room.ensures.same.0 i) ((c.as_slice.ensures ∙ c.make_room.ensures.same.1) i) old))
