use Rattle.std.proofs.Common.{refl, rules}
use Rattle.ty_wire.proofs.UpdateTest.{updates_is}
use Rattle.ty_answers.proofs.Applying.{full_applies, leaves, serves}
use Rattle.ty_answers.proofs.database.DatabaseBase.apply.Goals as goal

pub serve-requires-clause-updating : goal.serve-requires-clause-updating
serve-requires-clause-updating g c = updates_is c.is_updating-updating.result c.args.request (λ t. c.is_updating-updating.ensures.0 t) (λ u. c.is_updating-updating.ensures.1 u)

pub returns-in_err-ok-clause-full : goal.returns-in_err-ok-clause-full
returns-in_err-ok-clause-full g c = λ is. let full = full_applies g.E.S.Space g.E.Storage.holds g.E.Storage.fills c.args.request c.args.walk.now c.args.self.now.engine c.args.space.now c.serve.new.space (c.in_err-ok.ensures.full (search (rules, is))) in record { writes = full.writes; packs = full.packs; by = full.by }

pub returns-clause-tight : goal.returns-clause-tight
returns-clause-tight g c = c.in_ok-ok.ensures.tight

pub returns-clause-applied : goal.returns-clause-applied
returns-clause-applied g c =
    serves g.E.S.Space g.E.Storage.own g.E.Storage.layout g.E.Storage.holds c.args.request c.in_ok-ok.ok c.is_updating-updating.result _ c.args.self.now.engine _ c.args.space.now c.serve.new.space c.args.walk.now c.serve.new.walk c.args.reply.now c.serve.new.reply
    (updates_is c.is_updating-updating.result c.args.request (λ t. c.is_updating-updating.ensures.0 t) (λ u. c.is_updating-updating.ensures.1 u)) refl refl c.in_ok-ok.ensures.steps

pub returns-clause-leaves : goal.returns-clause-leaves
returns-clause-leaves g c =
    leaves g.E.S.Space g.E.Storage.own g.E.Storage.layout g.E.Storage.holds c.args.request c.in_ok-ok.ok c.is_updating-updating.result _ c.args.self.now.engine c.serve.new.engine c.args.space.now c.serve.new.space c.args.walk.now c.serve.new.walk c.args.reply.now c.serve.new.reply
    (updates_is c.is_updating-updating.result c.args.request (λ t. c.is_updating-updating.ensures.0 t) (λ u. c.is_updating-updating.ensures.1 u)) (λ i. i) (λ t. let h = c.requires.ready.held t in (h.0, (t, h.1))) c.in_ok-ok.ensures.steps
