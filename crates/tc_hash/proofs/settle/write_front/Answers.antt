use Rattle.std.proofs.Common.{rules, ◌≡◌, ℕ, List, length, sym, subst}
use Rattle.tc_hash.proofs.Settled.{long_wrote, under_wrote}
use Rattle.tc_hash.specs.Bringing.{StandsUnder}
use Rattle.tc_hash.proofs.settle.write_front.Goals as goal

pub write_section-requires : goal.write_section-requires
write_section-requires g c =
    let long : length c.args.head.now ≡ 256 = search rules in
    let here = λ (t : g.S.Space.tells). (c.in_ok-write_difference.ensures.wrote t).here in
    let may = c.requires.section_may in
    record {
      sound = c.in_ok-write_difference.ensures.outcome.ok;
      inside = long_wrote g.S.Space c.args.body.now c.as_slice.result.now c.args.head.now c.args.space.now c.write_difference.new.space here long may.inside;
      under = under_wrote g.S.Space c.args.body.now c.as_slice.result.now c.args.section.now c.args.head.now c.args.space.now c.write_difference.new.space here long may.inside (subst (λ (l : List ℕ). StandsUnder g.S.Space c.args.body.now l c.args.section.now c.args.space.now) (sym c.as_slice.ensures) may.under);
    }
