use Rattle.std.proofs.Common.{rules, ◌≡◌, false, true, ap, refl}
use Rattle.ty_base.specs.Holding.{leaves_less}
use Rattle.ty_slave.specs.declared.link.Step.TheVariants.{Take}
use Rattle.ty_rounds.specs.Works.{work}
use Rattle.ty_rounds.specs.declared.batch.Batch.{Batch}
use Rattle.ty_rounds.proofs.Looking.{deals_refused, deals_taken, redone_ready, same_round, same_taken, taken_none, taken_one}
use Rattle.ty_rounds.proofs.linking.take_off.Goals as goal

pub returns-then-is_taken-clause-deals : goal.returns-then-is_taken-clause-deals
returns-then-is_taken-clause-deals g c = deals_taken g.B.S.Space g.B.Storage.holds c.args.taken c.in_ok-is_taken.is_taken c.args.batch.now c.take.new.self _ _ _ _ _ _ c.requires.update c.in_ok-is_taken.ensures.redoes (search rules) c.take.ensures

pub returns-then-is_taken-clause-taken : goal.returns-then-is_taken-clause-taken
returns-then-is_taken-clause-taken g c = taken_one (Take c.args.taken) c.args.taken (work c.args.batch.now) (work c.take.new.self) refl (ap (λ (z : Batch). (work z).taken) c.take.ensures)

pub returns-then-is_taken-clause-same : goal.returns-then-is_taken-clause-same
returns-then-is_taken-clause-same g c = same_taken c.args.batch.now c.take.new.self c.args.taken c.take.ensures

pub returns-then-is_taken-clause-leaves : goal.returns-then-is_taken-clause-leaves
returns-then-is_taken-clause-leaves g c = leaves_less g.B.S.Space g.B.Storage.own g.B.Storage.layout (c.in_ok-is_taken.is_taken ≡ false) (c.take.new.self.commits ≡ false) _ _ (λ e. absurd (let t : c.take.new.self.commits ≡ true = ap (λ (z : Batch). z.commits) c.take.ensures in cc)) c.in_ok-is_taken.ensures.leaves

pub returns-then-is_taken-clause-ready : goal.returns-then-is_taken-clause-ready
returns-then-is_taken-clause-ready g c = redone_ready g.B.S.Space g.B.Storage.holds c.args.taken c.in_ok-is_taken.is_taken _ _ _ _ _ _ c.requires.update c.in_ok-is_taken.ensures.redoes c.requires.ready c.in_ok-is_taken.ensures.leaves.sound

pub returns-clause-deals : goal.returns-clause-deals
returns-clause-deals g c = deals_refused g.B.S.Space g.B.Storage.holds c.args.taken c.in_ok-is_taken.is_taken c.args.batch.now _ _ _ _ _ _ c.requires.update c.in_ok-is_taken.ensures.redoes (search rules)

pub returns-clause-taken : goal.returns-clause-taken
returns-clause-taken g c = taken_none (Take c.args.taken) (work c.args.batch.now) (work c.args.batch.now) refl

pub returns-clause-same : goal.returns-clause-same
returns-clause-same g c = same_round (work c.args.batch.now)

pub returns-clause-leaves : goal.returns-clause-leaves
returns-clause-leaves g c = leaves_less g.B.S.Space g.B.Storage.own g.B.Storage.layout (c.in_ok-is_taken.is_taken ≡ false) (c.args.batch.now.commits ≡ false) _ _ (λ e. search rules) c.in_ok-is_taken.ensures.leaves

pub returns-clause-ready : goal.returns-clause-ready
returns-clause-ready g c = redone_ready g.B.S.Space g.B.Storage.holds c.args.taken c.in_ok-is_taken.is_taken _ _ _ _ _ _ c.requires.update c.in_ok-is_taken.ensures.redoes c.requires.ready c.in_ok-is_taken.ensures.leaves.sound
