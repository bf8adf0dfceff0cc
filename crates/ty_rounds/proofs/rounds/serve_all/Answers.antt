use Rattle.std.proofs.Common.{rules, refl, ◌≡◌, ◌∙◌, sym, subst, ap}
use Rattle.tc_space.specs.Frames.{keeps_then, keeps_refl}
use Rattle.ty_base.specs.Holding.{Held, leaves_nothing}
use Rattle.ty_rounds.specs.Ready.{FewUnread, FewWaiting, IsCalm}
use Rattle.ty_rounds.specs.Serving.{Halfway, fills_less}
use Rattle.ty_rounds.specs.Works.{IsFit, Work, no_work}
use Rattle.ty_rounds.proofs.Few.{each_at, each_set}
use Rattle.ty_rounds.proofs.Links.{keeps_one, keeps_refl as links_refl, keeps_then as links_then}
use Rattle.ty_rounds.proofs.ServingLaws.{begin, fills_at, more, finish, nothing_fits, numbers_kept, leaves_then}
use Rattle.ty_rounds.proofs.Spans.{round_steps, skip_back, skip_front, span_inside}
use Rattle.ty_rounds.proofs.rounds.serve_all.Goals as goal

pub loop-i-init : goal.loop-i-init
loop-i-init g c =
    let anew = sym c.requires.anew in
    record {
      numbers = refl;
      unread = λ h. h;
      waiting = λ h. h;
      calm = c.requires.calm;
      links = links_refl _;
      fit = subst (IsFit c.args.logged.now) anew (nothing_fits c.args.logged.now);
      taken = ap (λ (o : Work). o.taken) (sym anew);
      gap = ap (λ (o : Work). o.gap) (sym anew);
      round = λ d h b ks same a.
          let known = Held g.B.S.Space g.B.Storage.holds c.args.base.now c.args.space.now in
          subst (λ (o : Work). Halfway b o d known c.args.walk.now c.args.walk.now c.args.peers.now.items c.args.span.from ks) anew
          (skip_front _ c.args.span c.args.peers.now.items c.requires.calm (round_steps c.args.logged.now b no_work d known c.args.walk.now c.args.walk.now c.args.peers.now.items ks same) (begin b known d c.args.walk.now c.args.peers.now.items ks h a));
      ready = c.requires.ready;
      leaves = leaves_nothing g.B.S.Space g.B.Storage.own g.B.Storage.layout _ c.args.space.now c.requires.ready.sound;
      keeps = keeps_refl g.B.S.Space c.args.space.now;
    }

pub serve_one-requires-clause-calm : goal.serve_one-requires-clause-calm
serve_one-requires-clause-calm g c = each_at IsCalm _ c.loop-i.i c.index_mut-p.result.now (search rules) (search rules) c.loop-i.invariant.calm.calm

pub loop-i-preserved : goal.loop-i-preserved
loop-i-preserved g c =
    let s = g.B.S.Space in
    let i = c.loop-i.invariant in
    let p = c.index_mut-p.result.now in
    let q = c.serve_one.new.p in
    let one = c.in_ok-serve_one.ensures.served c.args.logged.now c.terms_of-terms.ensures in
    record {
      numbers = numbers_kept _ _ p q (search rules) (search rules) one.conn ∙ i.numbers;
      unread = λ h. let few = i.unread h in each_set FewUnread _ _ q (one.unread (each_at FewUnread _ c.loop-i.i p (search rules) (search rules) few)) few;
      waiting = λ h. let few = i.waiting h in each_set FewWaiting _ _ q (one.waiting (each_at FewWaiting _ c.loop-i.i p (search rules) (search rules) few)) few;
      calm = span_inside c.args.span _ c.loop-i.i q (search rules) (search rules) (search rules) one.calm i.calm;
      links = links_then _ _ _ i.links (keeps_one _ c.loop-i.i p q (search rules) (search rules) one.links);
      fit = one.fit i.fit i.taken;
      taken = one.link.taken_is ∙ i.taken;
      gap = one.link.gap_is ∙ i.gap;
      round = λ d h b ks same a. more c.args.logged.now b _ _ d _ _ _ _ _ _ ks c.loop-i.i p q same (i.round d h b ks same a) (search rules) (search rules) one.each;
      ready = one.ready;
      leaves = leaves_then s g.B.Storage.own g.B.Storage.layout _ _ _ c.loop-i.space _ one.rises i.leaves one.leaves;
      keeps = keeps_then s c.args.space.now c.loop-i.space c.serve_one.new.space i.keeps c.serve_one.ensures.keeps;
    }

pub returns-clause-serves : goal.returns-clause-serves
returns-clause-serves g c = let i = c.loop-i.invariant in record {
  served = record { numbers = i.numbers; unread = i.unread; waiting = i.waiting; calm = i.calm.calm; links = λ h. i.links.know c.args.logged.now h; fit = λ _. i.fit; ready = i.ready; leaves = i.leaves };
  link = (i.taken, i.gap);
  each = λ d h b ks same a.
      let n = skip_back _ c.args.span c.loop-i.peers.items c.loop-i.i i.calm (round_steps c.args.logged.now b _ d _ _ _ c.loop-i.peers.items ks same) (search rules) (i.round d h b ks same a) in
      finish b _ d _ _ _ _ ks n.0 n.2 n.1;
}

pub returns-in_err-serve_one-clause-full : goal.returns-in_err-serve_one-clause-full
returns-in_err-serve_one-clause-full g c = λ is d h b ks same a.
    let i = c.loop-i.invariant in
    let earlier = g.met.B.Storage.since_more c.args.space.now c.loop-i.space c.serve_one.new.space (i.keeps.steady h.0).past.later in
    let one = c.in_err-serve_one.ensures.full (search (rules, is)) c.args.logged.now c.terms_of-terms.ensures in
    fills_at (g.B.Storage.fills_since c.args.space.now c.serve_one.new.space) b _ d _ _ c.loop-i.walk _ ks _ c.index_mut-p.result.now (i.round d h b ks same a) (search rules) (search rules)
    (λ e he k held. fills_less b.is (g.B.Storage.fills_since c.loop-i.space c.serve_one.new.space) _ earlier.fills e c.loop-i.walk k (one e he b k same held))
