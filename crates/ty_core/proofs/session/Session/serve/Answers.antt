use Rattle.std.proofs.Common.{refl, ap}
use Rattle.std.proofs.lemmas.Result.{IfOk-weaker, on_ok_weaker}
use Rattle.ty_core.specs.Queues.{Queue}
use Rattle.ty_core.proofs.Fronts.{front_behind, front_full, front_tight}
use Rattle.ty_core.proofs.session.Session.serve.Goals as goal

pub returns-clause-served : goal.returns-clause-served
returns-clause-served g c = IfOk-weaker c.serve_taken.result _ _ (λ d served.
    front_behind g.B.S.Space g.B.Storage.holds c.args.replica c.args.logs c.in-Ok.taken d _ _ _ _ _ _ c.args.self.now.unread _ _ _ _ c.self.inside.waiting c.serve_taken.new.waiting c.self.inside.taken
    (ap (λ (q : Queue). q.unread) c.self.view_is)
    refl
    (ap (λ (q : Queue). q.waiting) c.self.view_is)
    c.self.invariant
    c.in-Ok.ensures
    served) c.serve_taken.ensures.served

pub returns-clause-full : goal.returns-clause-full
returns-clause-full g c = λ is.
    front_full g.B.S.Space g.B.Storage.holds (g.B.Storage.fills_since c.args.space.now c.serve_taken.new.space) c.args.replica c.args.logs c.in-Ok.taken c.args.base.now c.args.space.now c.args.walk.now c.args.self.now.unread _ _ (ap (λ (q : Queue). q.unread) c.self.view_is) c.in-Ok.ensures
    (c.serve_taken.ensures.full is)

pub returns-clause-tight : goal.returns-clause-tight
returns-clause-tight g c = on_ok_weaker c.serve_taken.result (λ packs.
    front_tight g.B.S.Space g.B.Storage.holds g.B.Storage.tight c.args.logs c.in-Ok.taken c.args.base.now c.serve_taken.new.base c.args.space.now c.serve_taken.new.space c.args.self.now.unread _ _ (ap (λ (q : Queue). q.unread) c.self.view_is) c.in-Ok.ensures packs) c.serve_taken.ensures.tight
