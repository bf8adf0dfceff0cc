use Rattle.std.proofs.Common.{false, true, ap, refl, sym, subst}
use Rattle.std.specs.Prelude.{IfOk, OnOk, Some}
use Rattle.ty_base.specs.Holding.{leaves_nothing}
use Rattle.ty_slave.specs.declared.link.Step.{Step as Look}
use Rattle.ty_world.specs.Links.{dealt}
use Rattle.ty_rounds.specs.Linking.{Deals, Taken}
use Rattle.ty_rounds.specs.Works.{work}
use Rattle.ty_rounds.proofs.Looking.{deals_gap, deals_none, not_over, same_round, taken_none}
use Rattle.ty_rounds.proofs.linking.deal.Goals as goal

pub take_off-requires-clause-update : goal.take_off-requires-clause-update
take_off-requires-clause-update g c = c.requires.takes c.in-Take.«record» c.in-Take.is

pub returns-in-Take-clause-deals : goal.returns-in-Take-clause-deals
returns-in-Take-clause-deals g c = subst (λ (z : Look). IfOk c.take_off.result (λ broken. Deals g.B.S.Space g.B.Storage.holds z (work c.args.batch.now) (work c.take_off.new.batch) broken c.args.base.now c.take_off.new.base c.args.space.now c.take_off.new.space c.args.walk.now c.take_off.new.walk)) (sym c.in-Take.is) c.take_off.ensures.deals

pub returns-in-Take-clause-taken : goal.returns-in-Take-clause-taken
returns-in-Take-clause-taken g c = subst (λ (z : Look). OnOk c.take_off.result (Taken z (work c.args.batch.now) (work c.take_off.new.batch))) (sym c.in-Take.is) c.take_off.ensures.taken

pub returns-in-Take-clause-bad : goal.returns-in-Take-clause-bad
returns-in-Take-clause-bad g c = not_over c.args.step c.in-Take.«record» c.take_off.result c.in-Take.is

pub returns-in-Take-clause-full : goal.returns-in-Take-clause-full
returns-in-Take-clause-full g c = λ is. record { taken = c.in-Take.«record»; is = c.in-Take.is; update = c.requires.takes c.in-Take.«record» c.in-Take.is; by = c.take_off.ensures.full is }

pub returns-in-Gap-clause-deals : goal.returns-in-Gap-clause-deals
returns-in-Gap-clause-deals g c = deals_gap g.B.S.Space g.B.Storage.holds c.args.step c.in-Gap.held c.in-Gap.follows (work c.args.batch.now) _ c.args.base.now c.args.space.now c.args.walk.now c.in-Gap.is refl refl

pub returns-in-Gap-clause-taken : goal.returns-in-Gap-clause-taken
returns-in-Gap-clause-taken g c = taken_none c.args.step (work c.args.batch.now) (work (record (c.args.batch.now) { gap = Some (record { held = c.in-Gap.held; follows = c.in-Gap.follows }) })) refl

pub returns-in-Gap-clause-same : goal.returns-in-Gap-clause-same
returns-in-Gap-clause-same g c = record { updates_is = refl; labels_is = refl; commits_is = λ was now. refl; taken_so = λ e. (e, refl) }

pub returns-in-Gap-clause-leaves : goal.returns-in-Gap-clause-leaves
returns-in-Gap-clause-leaves g c = leaves_nothing g.B.S.Space g.B.Storage.own g.B.Storage.layout _ c.args.space.now c.requires.ready.sound

pub returns-in-Bad-clause-deals : goal.returns-in-Bad-clause-deals
returns-in-Bad-clause-deals g c = deals_none g.B.S.Space g.B.Storage.holds c.args.step true (work c.args.batch.now) c.args.base.now c.args.space.now c.args.walk.now (λ d v. ap (λ (z : Look). dealt z d v) c.in-Bad.is)

pub returns-in-Bad-clause-taken : goal.returns-in-Bad-clause-taken
returns-in-Bad-clause-taken g c = taken_none c.args.step (work c.args.batch.now) (work c.args.batch.now) refl

pub returns-in-Bad-clause-same : goal.returns-in-Bad-clause-same
returns-in-Bad-clause-same g c = same_round (work c.args.batch.now)

pub returns-in-Bad-clause-leaves : goal.returns-in-Bad-clause-leaves
returns-in-Bad-clause-leaves g c = leaves_nothing g.B.S.Space g.B.Storage.own g.B.Storage.layout _ c.args.space.now c.requires.ready.sound

pub returns-in-Part-clause-deals : goal.returns-in-Part-clause-deals
returns-in-Part-clause-deals g c = deals_none g.B.S.Space g.B.Storage.holds c.args.step false (work c.args.batch.now) c.args.base.now c.args.space.now c.args.walk.now (λ d v. ap (λ (z : Look). dealt z d v) c.in-Part.is)

pub returns-in-Part-clause-taken : goal.returns-in-Part-clause-taken
returns-in-Part-clause-taken g c = taken_none c.args.step (work c.args.batch.now) (work c.args.batch.now) refl

pub returns-in-Part-clause-same : goal.returns-in-Part-clause-same
returns-in-Part-clause-same g c = same_round (work c.args.batch.now)

pub returns-in-Part-clause-leaves : goal.returns-in-Part-clause-leaves
returns-in-Part-clause-leaves g c = leaves_nothing g.B.S.Space g.B.Storage.own g.B.Storage.layout _ c.args.space.now c.requires.ready.sound

pub returns-in-Master-clause-deals : goal.returns-in-Master-clause-deals
returns-in-Master-clause-deals g c = deals_none g.B.S.Space g.B.Storage.holds c.args.step false (work c.args.batch.now) c.args.base.now c.args.space.now c.args.walk.now (λ d v. ap (λ (z : Look). dealt z d v) c.in-Master.is)

pub returns-in-Master-clause-taken : goal.returns-in-Master-clause-taken
returns-in-Master-clause-taken g c = taken_none c.args.step (work c.args.batch.now) (work c.args.batch.now) refl

pub returns-in-Master-clause-same : goal.returns-in-Master-clause-same
returns-in-Master-clause-same g c = same_round (work c.args.batch.now)

pub returns-in-Master-clause-leaves : goal.returns-in-Master-clause-leaves
returns-in-Master-clause-leaves g c = leaves_nothing g.B.S.Space g.B.Storage.own g.B.Storage.layout _ c.args.space.now c.requires.ready.sound

pub returns-in-Old-clause-deals : goal.returns-in-Old-clause-deals
returns-in-Old-clause-deals g c = deals_none g.B.S.Space g.B.Storage.holds c.args.step false (work c.args.batch.now) c.args.base.now c.args.space.now c.args.walk.now (λ d v. ap (λ (z : Look). dealt z d v) c.in-Old.is)

pub returns-in-Old-clause-taken : goal.returns-in-Old-clause-taken
returns-in-Old-clause-taken g c = taken_none c.args.step (work c.args.batch.now) (work c.args.batch.now) refl

pub returns-in-Old-clause-same : goal.returns-in-Old-clause-same
returns-in-Old-clause-same g c = same_round (work c.args.batch.now)

pub returns-in-Old-clause-leaves : goal.returns-in-Old-clause-leaves
returns-in-Old-clause-leaves g c = leaves_nothing g.B.S.Space g.B.Storage.own g.B.Storage.layout _ c.args.space.now c.requires.ready.sound
