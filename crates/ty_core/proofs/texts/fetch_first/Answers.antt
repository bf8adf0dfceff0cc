use Rattle.std.proofs.Common.{sym, ◌∙◌}
use Rattle.std.proofs.lemmas.Result.{IfOk-weaker, on_ok_weaker}
use Rattle.tc_space.specs.Frames.{reads_refl}
use Rattle.ty_base.specs.Holding.{Held}
use Rattle.ty_core.proofs.Texting.{fetches_first, fetches_none, ready_after}
use Rattle.ty_core.proofs.texts.fetch_first.Goals as goal

pub returns-in-Some-clause-got : goal.returns-in-Some-clause-got
returns-in-Some-clause-got g c = IfOk-weaker c.fetch.result _ _ (λ is f. fetches_first g.B.S.Space g.B.Storage.holds c.args.text.now c.in-Some.key is c.args.base.now c.args.space.now c.fetch.new.into (sym c.in-Some.is ∙ c.in_ok-key.ensures) f) c.fetch.ensures.got

pub returns-in-Some-clause-ready : goal.returns-in-Some-clause-ready
returns-in-Some-clause-ready g c = on_ok_weaker c.fetch.result (λ reads. ready_after g.B.S.Space g.B.Storage.holds c.args.base.now c.fetch.new.base c.args.space.now c.fetch.new.space c.requires.ready reads) c.fetch.ensures.reads

-- no value is asked for

pub returns-in-None-clause-got : goal.returns-in-None-clause-got
returns-in-None-clause-got g c = fetches_none g.B.S.Space g.B.Storage.holds c.args.text.now c.args.base.now c.args.space.now _ (sym c.in-None.is ∙ c.in_ok-key.ensures)

pub returns-in-None-clause-reads : goal.returns-in-None-clause-reads
returns-in-None-clause-reads g c = reads_refl g.B.S.Space (Held g.B.S.Space g.B.Storage.holds) c.args.base.now c.args.space.now c.requires.ready.sound
