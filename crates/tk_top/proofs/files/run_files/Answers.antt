use Rattle.std.proofs.Common.{◌∙◌, inl, inr, ⊎_elim, refl, sym, ap}
use Rattle.ty_base.specs.Holding.{Laid}
use Rattle.ty_base.specs.Opening.{OpensTo}
use Rattle.tk_top.proofs.Kept.{judged_as}
use Rattle.tk_top.specs.Staying.{IsDamaged}
use Rattle.tk_top.specs.Starts.{plainly}
use Rattle.tk_top.proofs.Named.{limits_so, told_so, not_ended, stands_so, within_so}
use Rattle.tk_top.proofs.Fresh.{fresh}
use Rattle.tk_top.proofs.Staying.{breaks_so, judged_unnamed, spares_so, spares_unnamed}
use Rattle.tk_top.proofs.Stopping.{copied_so, files_run, files_unopened, full_so}
use Rattle.tk_top.proofs.Stops.{closes}
use Rattle.tk_top.proofs.files.run_files.Goals as goal

pub returns-clause-names : goal.returns-clause-names
returns-clause-names g c = let end = c.serve_files-end.new.space in
    told_so c.in-Ok.ensures.opened end _ (ap g.S.V.Volume.names c.close_over.ensures ∙ sym (g.met.S.OnVolume.is_over end).names_are) c.serve_files-end.ensures.accounted.follows.same_names

pub returns-in-Err-clause-told : goal.returns-in-Err-clause-told
returns-in-Err-clause-told g c = files_unopened g.W.Wire plainly c.args.kind g.B.Storage.reopens _ c.args.turns c.args.at.now c.args.wire.now refl c.in-Err.ensures.unopened

pub returns-clause-told : goal.returns-clause-told
returns-clause-told g c = let end = c.serve_files-end.new.space in
    files_run c.in-Ok.ensures.opened (OpensTo c.args.kind g.B.Storage.reopens) g.W.Wire plainly g.B.Storage.reopens (closes g.S.Space g.S.V.Volume g.S.OnVolume.under end _ c.close_over.ensures (g.met.S.OnVolume.is_over end)) c.serve_files-end.ensures.told

pub returns-clause-judged : goal.returns-clause-judged
returns-clause-judged g c = let o = c.in-Ok.ensures.opened in let end = c.serve_files-end.new.space in
    judged_as c.serve_files-end.result _ _ _ _ (stands_so o (OpensTo c.args.kind g.B.Storage.reopens))
    (breaks_so o (closes g.S.Space g.S.V.Volume g.S.OnVolume.under end _ c.close_over.ensures (g.met.S.OnVolume.is_over end)) (λ x. fresh g.S.Space x g.met.S.Space.only_kept g.met.S.Space.clean) (g.met.S.V.Volume.now_is_image c.args.vol) (g.B.Opens.breaks c.args.kind)) c.serve_files-end.ensures.judged

pub returns-in-Err-clause-judged : goal.returns-in-Err-clause-judged
returns-in-Err-clause-judged g c = judged_unnamed c.in-Err.ensures.unopened (g.B.Opens.breaks c.args.kind) _

pub returns-clause-full : goal.returns-clause-full
returns-clause-full g c = λ is. let o = c.in-Ok.ensures.opened in let end = c.serve_files-end.new.space in record {
  begin = c.in-Ok.space;
  space = end;
  vol_is = sym c.close_over.ensures;
  shows = g.met.S.OnVolume.shows end;
  limits = limits_so o (g.S.Space.limit end) c.serve_files-end.ensures.accounted.follows.same_limit;
  full = full_so o (OpensTo c.args.kind g.B.Storage.reopens) (g.B.Storage.fills_since c.in-Ok.space end) (g.W.Wire.transcript c.args.wire.now) (g.W.Wire.transcript c.serve_files-end.new.wire) (c.serve_files-end.ensures.full is);
}

pub returns-in-Err-clause-guards : goal.returns-in-Err-clause-guards
returns-in-Err-clause-guards g c = let u = c.in-Err.ensures.unopened in record {
  begun = inl refl;
  copied = inl u.names.copies;
  spared = spares_unnamed u (IsDamaged (OpensTo c.args.kind g.B.Storage.reopens));
  within = λ out. let other = not_ended u in absurd (⊎_elim other.0 other.1 out);
}

pub returns-clause-guards : goal.returns-clause-guards
returns-clause-guards g c = let o = c.in-Ok.ensures.opened in let end = c.serve_files-end.new.space in let over = g.met.S.OnVolume.is_over end in let opens = OpensTo c.args.kind g.B.Storage.reopens in
    let guards = c.serve_files-end.ensures.guards in record {
      begun = ⊎_elim (λ same. inl same) (λ can. inr (stands_so o opens can)) guards.begun;
      copied = ⊎_elim (λ same. inl (copied_so o opens (closes g.S.Space g.S.V.Volume g.S.OnVolume.under end _ c.close_over.ensures over) same)) (λ can. inr (stands_so o opens can)) guards.copied;
      spared = spares_so o (closes g.S.Space g.S.V.Volume g.S.OnVolume.under end _ c.close_over.ensures over) (λ x. fresh g.S.Space x g.met.S.Space.only_kept g.met.S.Space.clean) (g.met.S.V.Volume.now_is_image c.args.vol) (IsDamaged opens) c.serve_files-end.result guards.spared;
      within = λ out t. within_so o end (g.S.Space.limit end) c.serve_files-end.ensures.accounted.follows.same_limit t (ap g.S.V.Volume.calls c.close_over.ensures) (over.now_is (guards.sound out).0 (guards.sound out).1)
          (λ f is. g.met.S.Space.within end f (over.from t) (guards.sound out).0 is);
    }

pub returns-in-Err-clause-laid : goal.returns-in-Err-clause-laid
returns-in-Err-clause-laid g c = λ l. files_unopened g.W.Wire plainly c.args.kind (Laid g.B.Storage.own g.B.Storage.layout l g.B.Storage.reopens) _ c.args.turns c.args.at.now c.args.wire.now refl c.in-Err.ensures.unopened

pub returns-clause-laid : goal.returns-clause-laid
returns-clause-laid g c = λ l. let end = c.serve_files-end.new.space in
    files_run c.in-Ok.ensures.opened (OpensTo c.args.kind (Laid g.B.Storage.own g.B.Storage.layout l g.B.Storage.reopens)) g.W.Wire plainly (Laid g.B.Storage.own g.B.Storage.layout l g.B.Storage.reopens) (closes g.S.Space g.S.V.Volume g.S.OnVolume.under end _ c.close_over.ensures (g.met.S.OnVolume.is_over end)) (c.serve_files-end.ensures.laid l)
