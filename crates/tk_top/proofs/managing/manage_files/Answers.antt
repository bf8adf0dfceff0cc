use Rattle.std.proofs.Common.{◌∙◌, inl, inr, ⊎_elim, refl, subst, sym, ap}
use Rattle.tc_base.specs.Files.{Files}
use Rattle.ud_log.specs.Undo.{recovered}
use Rattle.ty_base.specs.Holding.{Laid}
use Rattle.ty_base.specs.Opening.{OpensTo}
use Rattle.tk_mgr.specs.Managing.{ArePacked, FillsTaskIn, FormedFrom, packing, said_by}
use Rattle.tk_top.specs.Staying.{IsDamaged}
use Rattle.tk_top.specs.Tasks.{IsMisplaced}
use Rattle.tk_top.proofs.Managed.{full_task_so, judged_task_as, managed_run, managed_unopened, reason_so, unbegun_early}
use Rattle.tk_top.proofs.Named.{begins_so, early_of, limits_so, names_so, same_files, stands_so}
use Rattle.tk_top.proofs.Fresh.{fresh}
use Rattle.tk_top.proofs.Staying.{breaks_so, left_alone_so, left_alone_unnamed, spares_so, spares_unnamed, task_unnamed}
use Rattle.tk_top.proofs.Stops.{closes, exit_left}
use Rattle.tk_top.proofs.managing.manage_files.Goals as goal

pub returns-clause-names : goal.returns-clause-names
returns-clause-names g c = let end = c.manage_opened-end.new.space in
    names_so c.in-Ok.ensures.opened end _ (ap g.S.V.Volume.names c.close_over.ensures ∙ sym (g.met.S.OnVolume.is_over end).names_are) c.manage_opened-end.ensures.accounted.follows.same_names

pub returns-in-Err-clause-told : goal.returns-in-Err-clause-told
returns-in-Err-clause-told g c = let b = g.B.Storage in managed_unopened g.O.Sink b.reopens b.lines b.packed c.args.task c.args.kind _ c.args.out.now c.in-Err.ensures.unopened

pub returns-clause-told : goal.returns-clause-told
returns-clause-told g c = let b = g.B.Storage in let end = c.manage_opened-end.new.space in
    managed_run g.O.Sink b.reopens b.lines b.packed c.args.task (OpensTo c.args.kind b.reopens) c.in-Ok.ensures.opened (closes g.S.Space g.S.V.Volume g.S.OnVolume.under end _ c.close_over.ensures (g.met.S.OnVolume.is_over end)) c.manage_opened-end.ensures.told

pub returns-clause-judged : goal.returns-clause-judged
returns-clause-judged g c = let o = c.in-Ok.ensures.opened in let opens = OpensTo c.args.kind g.B.Storage.reopens in let end = c.manage_opened-end.new.space in
    judged_task_as c.manage_opened-end.result _ _ _ _ _ _ (stands_so o opens)
    (breaks_so o (closes g.S.Space g.S.V.Volume g.S.OnVolume.under end _ c.close_over.ensures (g.met.S.OnVolume.is_over end)) (λ x. fresh g.S.Space x g.met.S.Space.only_kept g.met.S.Space.clean) (g.met.S.V.Volume.now_is_image c.args.vol) (g.B.Opens.breaks c.args.kind))
    (reason_so o opens c.args.task) c.manage_opened-end.ensures.judged

pub returns-in-Err-clause-judged : goal.returns-in-Err-clause-judged
returns-in-Err-clause-judged g c = task_unnamed c.in-Err.ensures.unopened (g.B.Opens.breaks c.args.kind) _ _

pub returns-clause-full : goal.returns-clause-full
returns-clause-full g c = λ is. let o = c.in-Ok.ensures.opened in let end = c.manage_opened-end.new.space in record {
  begin = c.in-Ok.space;
  first = λ t. (o.over t).files;
  space = end;
  vol_is = sym c.close_over.ensures;
  shows = g.met.S.OnVolume.shows end;
  limits = limits_so o (g.S.Space.limit end) c.manage_opened-end.ensures.accounted.follows.same_limit;
  full = full_task_so o (OpensTo c.args.kind g.B.Storage.reopens) c.args.task (FillsTaskIn g.S.Space g.B.Storage.fills_since g.B.Storage.lacks_large c.in-Ok.space end) (c.manage_opened-end.ensures.full is);
}

pub returns-in-Err-clause-guards : goal.returns-in-Err-clause-guards
returns-in-Err-clause-guards g c = let u = c.in-Err.ensures.unopened in record {
  begun = inl refl;
  spared = spares_unnamed u (IsDamaged (OpensTo c.args.kind g.B.Storage.reopens));
  misplaced = left_alone_unnamed u (IsMisplaced c.args.task);
}

pub returns-clause-guards : goal.returns-clause-guards
returns-clause-guards g c = let o = c.in-Ok.ensures.opened in let end = c.manage_opened-end.new.space in let opens = OpensTo c.args.kind g.B.Storage.reopens in
    let closed = closes g.S.Space g.S.V.Volume g.S.OnVolume.under end _ c.close_over.ensures (g.met.S.OnVolume.is_over end) in
    let guards = c.manage_opened-end.ensures.guards in record {
      begun = ⊎_elim (λ same. inl same) (λ can. inr (stands_so o opens can)) guards.begun;
      spared = spares_so o closed (λ x. fresh g.S.Space x g.met.S.Space.only_kept g.met.S.Space.clean) (g.met.S.V.Volume.now_is_image c.args.vol) (IsDamaged opens) c.manage_opened-end.result guards.spared;
      misplaced = left_alone_so o closed (λ x. fresh g.S.Space x g.met.S.Space.only_kept g.met.S.Space.clean) (IsMisplaced c.args.task) c.manage_opened-end.result guards.misplaced;
    }

pub returns-in-Err-clause-formed : goal.returns-in-Err-clause-formed
returns-in-Err-clause-formed g c = let un = unbegun_early _ (early_of c.in-Err.ensures.unopened) in record { formed = λ first h f packs done. absurd (un.not_done done) }

pub returns-clause-formed : goal.returns-clause-formed
returns-clause-formed g c = let o = c.in-Ok.ensures.opened in let end = c.manage_opened-end.new.space in let opens = OpensTo c.args.kind g.B.Storage.reopens in
    let closed = closes g.S.Space g.S.V.Volume g.S.OnVolume.under end _ c.close_over.ensures (g.met.S.OnVolume.is_over end) in record {
      formed = λ first h f packs done ims are. subst (λ (was : Files). ArePacked (FormedFrom g.B.Storage.layout was) f (recovered ims)) (sym (same_files o h.1.files h.0 h.1.is))
          (c.manage_opened-end.ensures.formed.formed first (begins_so o opens first h) f packs done (recovered ims) (exit_left closed ims are));
    }

pub returns-in-Err-clause-laid : goal.returns-in-Err-clause-laid
returns-in-Err-clause-laid g c = λ l. let b = g.B.Storage in managed_unopened g.O.Sink (Laid b.own (said_by (packing c.args.task) b.layout) l b.reopens) b.lines b.packed c.args.task c.args.kind _ c.args.out.now c.in-Err.ensures.unopened

pub returns-clause-laid : goal.returns-clause-laid
returns-clause-laid g c = λ l. let b = g.B.Storage in let end = c.manage_opened-end.new.space in let like = (Laid b.own (said_by (packing c.args.task) b.layout) l b.reopens) in
    managed_run g.O.Sink like b.lines b.packed c.args.task (OpensTo c.args.kind like) c.in-Ok.ensures.opened (closes g.S.Space g.S.V.Volume g.S.OnVolume.under end _ c.close_over.ensures (g.met.S.OnVolume.is_over end)) (c.manage_opened-end.ensures.laid l)
