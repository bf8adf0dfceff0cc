use Rattle.std.proofs.Common.{◌∙◌, sym, ap}
use Rattle.ty_base.specs.Holding.{Laid, no_layout}
use Rattle.tk_top.specs.Making.{InShape, IsThere}
use Rattle.tk_top.proofs.Made.{judged_made, made_run, made_unopened}
use Rattle.tk_top.proofs.Named.{limits_so, names_so}
use Rattle.tk_top.proofs.Fresh.{fresh}
use Rattle.tk_top.proofs.Staying.{breaks_so, left_alone_so, left_alone_unnamed, made_unnamed, there_so}
use Rattle.tk_top.proofs.Stops.{closes}
use Rattle.tk_top.proofs.making.make_files.Goals as goal

pub returns-clause-names : goal.returns-clause-names
returns-clause-names g c = let end = c.make_opened-end.new.space in
    names_so c.in-Ok.ensures.opened end _ (ap g.S.V.Volume.names c.close_over.ensures ∙ sym (g.met.S.OnVolume.is_over end).names_are) c.make_opened-end.ensures.follows.same_names

pub returns-in-Err-clause-made : goal.returns-in-Err-clause-made
returns-in-Err-clause-made g c = let shape = c.args.shape.now in made_unopened g.B.Storage.reopens (g.B.Opens.shaped shape) (g.B.Opens.anew shape) _ c.in-Err.ensures.unopened

pub returns-clause-made : goal.returns-clause-made
returns-clause-made g c = let shape = c.args.shape.now in let end = c.make_opened-end.new.space in
    made_run g.B.Storage.reopens (g.B.Opens.shaped shape) (g.B.Opens.anew shape) c.in-Ok.ensures.opened (closes g.S.Space g.S.V.Volume g.S.OnVolume.under end _ c.close_over.ensures (g.met.S.OnVolume.is_over end)) c.make_opened-end.ensures.made.stands

pub returns-in-Err-clause-shaped : goal.returns-in-Err-clause-shaped
returns-in-Err-clause-shaped g c = let shape = c.args.shape.now in made_unopened (InShape g.B.Storage.reopens (g.B.Opens.shaped shape)) (g.B.Opens.shaped shape) (g.B.Opens.anew shape) _ c.in-Err.ensures.unopened

pub returns-clause-shaped : goal.returns-clause-shaped
returns-clause-shaped g c = let shape = c.args.shape.now in let end = c.make_opened-end.new.space in
    made_run (InShape g.B.Storage.reopens (g.B.Opens.shaped shape)) (g.B.Opens.shaped shape) (g.B.Opens.anew shape) c.in-Ok.ensures.opened (closes g.S.Space g.S.V.Volume g.S.OnVolume.under end _ c.close_over.ensures (g.met.S.OnVolume.is_over end)) c.make_opened-end.ensures.made.shaped

pub returns-clause-judged : goal.returns-clause-judged
returns-clause-judged g c = let o = c.in-Ok.ensures.opened in let end = c.make_opened-end.new.space in
    judged_made c.make_opened-end.result _ _ _ _ _ _
    (λ h t. let b = o.over t in record { files = _; is = b.files; can = h b.tells })
    (there_so o (closes g.S.Space g.S.V.Volume g.S.OnVolume.under end _ c.close_over.ensures (g.met.S.OnVolume.is_over end)) (λ x. fresh g.S.Space x g.met.S.Space.only_kept g.met.S.Space.clean))
    (breaks_so o (closes g.S.Space g.S.V.Volume g.S.OnVolume.under end _ c.close_over.ensures (g.met.S.OnVolume.is_over end)) (λ x. fresh g.S.Space x g.met.S.Space.only_kept g.met.S.Space.clean) (g.met.S.V.Volume.now_is_image c.args.vol) g.B.Opens.breaks_new)
    c.make_opened-end.ensures.judged

pub returns-in-Err-clause-judged : goal.returns-in-Err-clause-judged
returns-in-Err-clause-judged g c = made_unnamed c.in-Err.ensures.unopened g.B.Opens.breaks_new _ _

pub returns-in-Err-clause-there : goal.returns-in-Err-clause-there
returns-in-Err-clause-there g c = left_alone_unnamed c.in-Err.ensures.unopened IsThere

pub returns-clause-there : goal.returns-clause-there
returns-clause-there g c = let end = c.make_opened-end.new.space in
    left_alone_so c.in-Ok.ensures.opened (closes g.S.Space g.S.V.Volume g.S.OnVolume.under end _ c.close_over.ensures (g.met.S.OnVolume.is_over end)) (λ x. fresh g.S.Space x g.met.S.Space.only_kept g.met.S.Space.clean) IsThere c.make_opened-end.result c.make_opened-end.ensures.there

pub returns-clause-full : goal.returns-clause-full
returns-clause-full g c = λ is. let o = c.in-Ok.ensures.opened in let end = c.make_opened-end.new.space in record {
  space = end;
  vol_is = sym c.close_over.ensures;
  shows = g.met.S.OnVolume.shows end;
  limits = limits_so o (g.S.Space.limit end) c.make_opened-end.ensures.follows.same_limit;
  lack = λ t. c.make_opened-end.ensures.full is (o.over t).tells;
}

pub returns-in-Err-clause-laid : goal.returns-in-Err-clause-laid
returns-in-Err-clause-laid g c = λ l. let shape = c.args.shape.now in made_unopened (Laid g.B.Storage.own no_layout l g.B.Storage.reopens) (g.B.Opens.shaped shape) (g.B.Opens.anew shape) _ c.in-Err.ensures.unopened

pub returns-clause-laid : goal.returns-clause-laid
returns-clause-laid g c = λ l. let shape = c.args.shape.now in let end = c.make_opened-end.new.space in
    made_run (Laid g.B.Storage.own no_layout l g.B.Storage.reopens) (g.B.Opens.shaped shape) (g.B.Opens.anew shape) c.in-Ok.ensures.opened (closes g.S.Space g.S.V.Volume g.S.OnVolume.under end _ c.close_over.ensures (g.met.S.OnVolume.is_over end)) (c.make_opened-end.ensures.laid l)
