use Rattle.std.proofs.Common.{◌∙◌, ℕ, List, length, ap, refl}
use Rattle.tc_fixed.specs.Cells.{with_cell}
use Rattle.tc_fixed.proofs.Celled.{long_spelled}
use Rattle.tc_fixed.proofs.Changed.{put_holds}
use Rattle.tc_fixed.proofs.fixed.Fixed.put.Goals as goal

pub write_cell-requires-clause-cell : goal.write_cell-requires-clause-cell
write_cell-requires-clause-cell g c = ap (λ (l : List ℕ). length l) (c.deref.ensures.value ∙ c.in_ok-spell.ensures) ∙ long_spelled c.args.self.now.width c.args.value.now c.args.self.now.shape.width_least c.requires.value

pub returns-clause-put : goal.returns-clause-put
returns-clause-put g c = record {
  sound = c.in_ok-write_cell.ensures.sound;
  means = λ m means.
      let t = means.0 in
      let f = c.args.self.now in
      let old = g.S.Space.now c.args.space.now 0 in (
        t,
        put_holds f.width f.limit c.args.id f.tally c.with-self.result m c.args.value.now c.deref.result.now old (g.S.Space.now c.write_cell.new.space 0) means.1 c.requires.id.0 c.requires.id.1 c.requires.value
            (c.deref.ensures.value ∙ c.in_ok-spell.ensures)
            ((c.in_ok-write_cell.ensures.wrote t).here ∙ ap (λ (l : List ℕ). with_cell f.width f.tally.greatest c.args.id c.deref.result.now l) (c.held_at.ensures.reads.files t 0))
            c.with-self.ensures.greatest
            (λ counts small now. c.with-self.ensures.counts m c.args.value.now counts small (c.in_ok-old.ensures.held m means) refl now),
      );
  others = record { same = λ t g other. (c.in_ok-write_cell.ensures.wrote t).others g other ∙ c.held_at.ensures.reads.files t g };
}

pub returns-clause-wrote : goal.returns-clause-wrote
returns-clause-wrote g c = λ t. let f = c.args.self.now in let w = c.in_ok-write_cell.ensures.wrote t in record {
  here = w.here ∙ (λ i. with_cell f.width f.tally.greatest c.args.id ((c.deref.ensures.value ∙ c.in_ok-spell.ensures) i) (c.held_at.ensures.reads.files t 0 i));
  others = λ n other. w.others n other ∙ c.held_at.ensures.reads.files t n;
}
