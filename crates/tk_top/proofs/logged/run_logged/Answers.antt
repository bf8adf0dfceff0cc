use Rattle.std.proofs.Common.{◌∙◌, inl, inr, ⊎_elim, ℕ, List, sym, ap, refl, subst}
use Rattle.ty_base.specs.Holding.{Laid}
use Rattle.ty_base.specs.Opening.{OpensTo}
use Rattle.tk_top.specs.Logging.{FillsLogged, IsUnlogged, breaks_logged, logging, opens_logged}
use Rattle.tk_top.specs.Staying.{IsDamaged}
use Rattle.tk_top.proofs.Stopping.{copied_so}
use Rattle.tk_top.proofs.Fresh.{fresh}
use Rattle.tk_top.proofs.Kept.{judged_as}
use Rattle.tk_top.proofs.LoggedRuns.{breaks_logged_so, full_logged_so, logged_on, logged_unnamed, tells_none, tells_same, unopened_came, unopened_full}
use Rattle.tk_top.proofs.Named.{limits_so, not_ended, stands_so, told_so, within_so}
use Rattle.tk_top.proofs.Staying.{judged_unnamed, spares_kept, spares_so, spares_unnamed}
use Rattle.tk_top.proofs.Stops.{closes}
use Rattle.tk_top.proofs.logged.run_logged.Goals as goal

pub returns-clause-names : goal.returns-clause-names
returns-clause-names g c = let end = c.serve_logged-end.new.space in
    told_so c.in-Ok.ensures.opened end _ (ap g.S.V.Volume.names c.close_over.ensures ∙ sym (g.met.S.OnVolume.is_over end).names_are) c.serve_logged-end.ensures.accounted.follows.same_names

pub returns-in-Err-clause-told : goal.returns-in-Err-clause-told
returns-in-Err-clause-told g c =
    let x = logged_unnamed g.W.Wire (logging c.args.own c.args.master) g.B.Storage.reopens (g.B.Opens.shaped g.B.Opens.usual) c.args.kind _ c.args.turns c.args.at.now c.args.wire.now (g.K.Clock.answers c.args.clock.now) c.in-Err.ensures.unopened in
    (x.0, tells_none g.E.Sink x.0.gaps c.args.err.now x.1, inl x.1, λ is. absurd (unopened_full c.in-Err.ensures.unopened is))

pub returns-in-Err-clause-laid : goal.returns-in-Err-clause-laid
returns-in-Err-clause-laid g c = λ l.
    (logged_unnamed g.W.Wire (logging c.args.own c.args.master) (Laid g.B.Storage.own g.B.Storage.layout l g.B.Storage.reopens) (g.B.Opens.shaped g.B.Opens.usual) c.args.kind _ c.args.turns c.args.at.now c.args.wire.now (g.K.Clock.answers c.args.clock.now) c.in-Err.ensures.unopened).0

pub returns-clause-told : goal.returns-clause-told
returns-clause-told g c = let end = c.serve_logged-end.new.space in let told = c.serve_logged-end.ensures.told in
    let x = logged_on g.W.Wire (logging c.args.own c.args.master) g.B.Storage.reopens (g.B.Opens.shaped g.B.Opens.usual) c.args.kind c.in-Ok.ensures.opened c.serve_logged-end.result c.args.turns c.args.at.now c.args.wire.now c.serve_logged-end.new.wire _ _
    (closes g.S.Space g.S.V.Volume g.S.OnVolume.under end _ c.close_over.ensures (g.met.S.OnVolume.is_over end)) told.0 in (
      x.0,
      tells_same g.E.Sink x.0.gaps told.0.gaps c.args.err.now c.serve_logged-end.new.err x.1 told.1,
      ⊎_elim (λ none. inl (x.1 ∙ none)) (λ can. inr (stands_so c.in-Ok.ensures.opened (opens_logged (OpensTo c.args.kind g.B.Storage.reopens)) can)) told.2,
      λ is. let o = c.in-Ok.ensures.opened in let st = g.B.Storage in let op = g.B.Opens in
          subst (λ (ticks : List ℕ). FillsLogged g.S.V.Volume g.S.Space g.W.Wire g.S.OnVolume.under c.args.kind st.reopens (λ z. op.lacks z op.usual) st.fills_since (logging c.args.own c.args.master) c.args.limit c.args.vol c.close_over.result c.args.wire.now c.serve_logged-end.new.wire ticks) (sym x.2) (record {
            begin = c.in-Ok.space;
            space = end;
            vol_is = sym c.close_over.ensures;
            shows = g.met.S.OnVolume.shows end;
            limits = limits_so o (g.S.Space.limit end) c.serve_logged-end.ensures.accounted.follows.same_limit;
            full = full_logged_so o (OpensTo c.args.kind st.reopens) (st.fills_since c.in-Ok.space end) _ (logging c.args.own c.args.master) told.0.ticks (g.W.Wire.transcript c.args.wire.now) (g.W.Wire.transcript c.serve_logged-end.new.wire) (told.3 is);
          }),
    )

pub returns-clause-laid : goal.returns-clause-laid
returns-clause-laid g c = λ l. let end = c.serve_logged-end.new.space in
    (logged_on g.W.Wire (logging c.args.own c.args.master) (Laid g.B.Storage.own g.B.Storage.layout l g.B.Storage.reopens) (g.B.Opens.shaped g.B.Opens.usual) c.args.kind c.in-Ok.ensures.opened c.serve_logged-end.result c.args.turns c.args.at.now c.args.wire.now c.serve_logged-end.new.wire _ _
    (closes g.S.Space g.S.V.Volume g.S.OnVolume.under end _ c.close_over.ensures (g.met.S.OnVolume.is_over end)) (c.serve_logged-end.ensures.laid l)).0

pub returns-in-Err-clause-judged : goal.returns-in-Err-clause-judged
returns-in-Err-clause-judged g c = judged_unnamed c.in-Err.ensures.unopened (breaks_logged (OpensTo c.args.kind g.B.Storage.reopens) (g.B.Opens.breaks c.args.kind)) _

pub returns-clause-judged : goal.returns-clause-judged
returns-clause-judged g c = let o = c.in-Ok.ensures.opened in let end = c.serve_logged-end.new.space in let opens = OpensTo c.args.kind g.B.Storage.reopens in
    judged_as c.serve_logged-end.result _ _ _ _ (stands_so o opens)
    (breaks_logged_so o opens (closes g.S.Space g.S.V.Volume g.S.OnVolume.under end _ c.close_over.ensures (g.met.S.OnVolume.is_over end)) (λ x. fresh g.S.Space x g.met.S.Space.only_kept g.met.S.Space.clean) (g.met.S.Space.earlier end) (g.met.S.V.Volume.now_is_image c.args.vol) (g.B.Opens.breaks c.args.kind)) c.serve_logged-end.ensures.judged

pub returns-in-Err-clause-stood : goal.returns-in-Err-clause-stood
returns-in-Err-clause-stood g c = λ came. absurd (unopened_came c.in-Err.ensures.unopened came)

pub returns-clause-stood : goal.returns-clause-stood
returns-clause-stood g c = λ came. stands_so c.in-Ok.ensures.opened (opens_logged (OpensTo c.args.kind g.B.Storage.reopens)) (c.serve_logged-end.ensures.stood came)

pub returns-in-Err-clause-guards : goal.returns-in-Err-clause-guards
returns-in-Err-clause-guards g c = let u = c.in-Err.ensures.unopened in record {
  begun = inl refl;
  copied = inl u.names.copies;
  spared = spares_unnamed u (IsDamaged (opens_logged (OpensTo c.args.kind g.B.Storage.reopens)));
  within = λ out. let other = not_ended u in absurd (⊎_elim other.0 other.1 out);
}

pub returns-clause-guards : goal.returns-clause-guards
returns-clause-guards g c = let o = c.in-Ok.ensures.opened in let end = c.serve_logged-end.new.space in let over = g.met.S.OnVolume.is_over end in let opens = opens_logged (OpensTo c.args.kind g.B.Storage.reopens) in
    let guards = c.serve_logged-end.ensures.guards in record {
      begun = ⊎_elim (λ same. inl same) (λ can. inr (stands_so o opens can)) guards.begun;
      copied = ⊎_elim (λ same. inl (copied_so o opens (closes g.S.Space g.S.V.Volume g.S.OnVolume.under end _ c.close_over.ensures over) same)) (λ can. inr (stands_so o opens can)) guards.copied;
      spared = spares_so o (closes g.S.Space g.S.V.Volume g.S.OnVolume.under end _ c.close_over.ensures over) (λ x. fresh g.S.Space x g.met.S.Space.only_kept g.met.S.Space.clean) (g.met.S.V.Volume.now_is_image c.args.vol) (IsDamaged opens) c.serve_logged-end.result guards.spared;
      within = λ out t. within_so o end (g.S.Space.limit end) c.serve_logged-end.ensures.accounted.follows.same_limit t (ap g.S.V.Volume.calls c.close_over.ensures) (over.now_is (guards.sound out).0 (guards.sound out).1)
          (λ f is. g.met.S.Space.within end f (over.from t) (guards.sound out).0 is);
    }

pub returns-in-Err-clause-unlogged : goal.returns-in-Err-clause-unlogged
returns-in-Err-clause-unlogged g c = spares_unnamed c.in-Err.ensures.unopened IsUnlogged

pub returns-clause-unlogged : goal.returns-clause-unlogged
returns-clause-unlogged g c = let end = c.serve_logged-end.new.space in
    spares_kept c.in-Ok.ensures.opened (closes g.S.Space g.S.V.Volume g.S.OnVolume.under end _ c.close_over.ensures (g.met.S.OnVolume.is_over end)) (λ x. fresh g.S.Space x g.met.S.Space.only_kept g.met.S.Space.clean) (g.met.S.Space.earlier end) (g.met.S.V.Volume.now_is_image c.args.vol) IsUnlogged c.serve_logged-end.result c.serve_logged-end.ensures.unlogged
