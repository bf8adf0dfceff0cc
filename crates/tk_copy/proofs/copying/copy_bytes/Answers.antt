use Rattle.std.proofs.Common.{◌∙◌, ◌+◌, ap, arith, length, rules, sym, take}
use Rattle.std.proofs.lemmas.List.{places}
use Rattle.tc_io.specs.Copies.{Named, copy_of}
use Rattle.tc_io.specs.Images.{Calls, now, of}
use Rattle.tk_copy.proofs.Spoiled.{stays_same, stays_then}
use Rattle.tk_copy.proofs.Steps.{changes_then}
use Rattle.tk_copy.proofs.copying.copy_bytes.Goals as goal

pub returns-in_err-len-clause-spoiled : goal.returns-in_err-len-clause-spoiled
returns-in_err-len-clause-spoiled g c = λ t. stays_same _ _ (ap (λ (n : Named). copy_of n) c.len.ensures.names)

pub loop-at-init : goal.loop-at-init
loop-at-init g c = let same = ap (λ (n : Named). copy_of n) c.len.ensures.names in record {
  low = omega arith;
  len = λ t. c.in_ok-len.ensures.len t ∙ ap (λ (d : Calls). length (now d c.args.file)) (sym (c.len.ensures.calls t));
  bound = search rules;
  so_far = λ t. ap (λ (d : Calls). now d c.args.file) same ∙ c.requires.empty t;
  others = λ t h other. ap (λ (d : Calls). of h d) same;
  spoiled = λ t. stays_same _ _ same;
  changes = search rules;
}

pub returns-in_err-copy_some-clause-spoiled : goal.returns-in_err-copy_some-clause-spoiled
returns-in_err-copy_some-clause-spoiled g c = λ t. stays_then _ (copy_of (g.V.Volume.names c.loop-at.vol)) _ (c.loop-at.invariant.spoiled t) (c.copy_some.ensures.spoiled t)

pub loop-at-preserved : goal.loop-at-preserved
loop-at-preserved g c =
    let v = g.V.Volume in
    let size = c.min-size.result in
    record {
      low = omega arith;
      len = λ t. c.loop-at.invariant.len t ∙ ap (λ (d : Calls). length (now d c.args.file)) (sym (c.copy_some.ensures.changes.files t));
      bound = search rules;
      so_far = λ t. c.in_ok-copy_some.ensures.so_far t ∙ (ap (λ n. take n (now (v.calls c.loop-at.vol) c.args.file)) (grind (arith, places)) ∙ ap (λ (d : Calls). take (c.loop-at.at + size) (now d c.args.file)) (sym (c.copy_some.ensures.changes.files t)));
      others = λ t h other. c.in_ok-copy_some.ensures.others t h other ∙ c.loop-at.invariant.others t h other;
      spoiled = λ t. stays_then _ (copy_of (v.names c.loop-at.vol)) _ (c.loop-at.invariant.spoiled t) (c.copy_some.ensures.spoiled t);
      changes = changes_then v c.args.vol.now c.loop-at.vol c.copy_some.new.vol c.loop-at.invariant.changes c.copy_some.ensures.changes;
    }
