use Rattle.std.proofs.Common.{◌∙◌, ap, inl, inr, refl, rules}
use Rattle.tc_io.specs.Copies.{Named}
use Rattle.tc_undo.specs.declared.errors.UndoErr.TheVariants as undo_err
use Rattle.tk_top.proofs.Named.{opens_over, refused_leaves, refused_rule, refused_spares, unbound_leaves}
use Rattle.tk_top.proofs.naming.open_named.Goals as goal

pub returns-in-Err-clause-unopened : goal.returns-in-Err-clause-unopened
returns-in-Err-clause-unopened g c = record {
  why = undo_err.Fault;
  is = refl;
  broken = tt;
  spares = λ t. record { stays = λ rule broken. inr (inl (c.bind.ensures.calls t)) };
  no_memory = λ is. absurd cc;
  names = record { told = search rules; copies = c.bind.ensures.copies.copies };
  caused = λ count count'. search rules;
  leaves = λ t settled. unbound_leaves _ _ (c.bind.ensures.calls t);
}

pub returns-in-Ok-open_over-clause-opened : goal.returns-in-Ok-open_over-clause-opened
returns-in-Ok-open_over-clause-opened g c = let v = g.S.V.Volume in let a = c.in-Ok-open_over.space in record {
  sound = search rules;
  untouched = search rules;
  names = search rules;
  copies = λ t. ap (λ (n : Named). n.copies) ((g.met.S.OnVolume.is_over a).names_are ∙ c.in-Ok-open_over.ensures.names) ∙ c.bind.ensures.copies.copies t;
  later = search rules;
  over = λ t. opens_over g.S.Space v.tells c.args.limit (v.calls c.args.vol) (v.calls c.bind.new.self) _ a _ _ _ _ (c.bind.ensures.calls t) (c.in-Ok-open_over.ensures.kept t) (c.in-Ok-open_over.ensures.limits t) c.in-Ok-open_over.ensures.sound c.in-Ok-open_over.ensures.untouched (c.in-Ok-open_over.ensures.moments t) (g.met.S.OnVolume.is_over a) t;
}

pub returns-in-Err-open_over-clause-unopened : goal.returns-in-Err-open_over-clause-unopened
returns-in-Err-open_over-clause-unopened g c = let v = g.S.V.Volume in let refused = c.in-Err-open_over.refused in record {
  why = refused.why;
  is = c.from.ensures;
  broken = refused_rule refused.why v.tells (v.calls c.args.vol) (v.calls c.bind.new.self) (v.calls refused.vol) c.bind.ensures.calls c.in-Err-open_over.ensures.refused;
  spares = refused_spares v.tells refused.why (v.calls c.args.vol) (v.calls c.bind.new.self) (v.calls refused.vol) c.bind.ensures.calls c.in-Err-open_over.ensures.refused;
  no_memory = λ is t. ap v.calls (c.in-Err-open_over.ensures.none is) ∙ c.bind.ensures.calls t;
  names = record { told = search rules; copies = λ t. ap (λ (n : Named). n.copies) c.in-Err-open_over.ensures.names ∙ c.bind.ensures.copies.copies t };
  caused = λ count count'. search rules;
  leaves = λ t settled. refused_leaves (v.calls c.args.vol) (v.calls c.bind.new.self) (v.calls refused.vol) (c.bind.ensures.calls t) (g.met.S.V.Volume.now_is_image c.args.vol t) (c.in-Err-open_over.ensures.refused t).stops settled;
}
