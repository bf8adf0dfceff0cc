use Rattle.std.proofs.Common.{rules, sym, subst}
use Rattle.std.specs.Prelude.{All}
use Rattle.tc_space.specs.Frames.{only_writes_then}
use Rattle.ty_base.proofs.Refusals.{err_is}
use Rattle.ty_ulog.specs.Updates.{IsUpdating}
use Rattle.ty_rounds.specs.Works.{work}
use Rattle.ty_rounds.proofs.WrittenLaws.{asks_same, may_append, record_too, updates_alone, updates_fail}
use Rattle.ty_rounds.proofs.committing.write_records.Goals as goal

pub append_updates-requires-clause-noted : goal.append_updates-requires-clause-noted
append_updates-requires-clause-noted g c = subst (All IsUpdating) (sym c.as_slice.ensures.value) c.requires.fit.noted

pub returns-in_err-append_updates-clause-writes : goal.returns-in_err-append_updates-clause-writes
returns-in_err-append_updates-clause-writes g c = rw (err_is c.from_residual.result _ c.from_residual.ensures.1) (updates_fail g.S.Space (work c.args.batch.now) _ _ c.args.logged.now c.append_updates.new.self c.args.space.now c.append_updates.new.space _ _ (λ is. search (rules, is)) (asks_same g.S.Space _ _ _ _ _ _ _ _ _ _ c.as_slice.ensures.value c.append_updates.ensures.asks))

pub returns-in_default-clause-writes : goal.returns-in_default-clause-writes
returns-in_default-clause-writes g c = updates_alone g.S.Space (work c.args.batch.now) _ _ c.args.logged.now c.append_updates.new.self c.args.space.now c.append_updates.new.space _ (search rules) (asks_same g.S.Space _ _ _ _ _ _ _ _ _ _ c.as_slice.ensures.value c.in_ok-append_updates.ensures.asks)

pub append-requires-clause-next : goal.append-requires-clause-next
append-requires-clause-next g c = may_append g.S.Space (work c.args.batch.now) _ _ c.args.logged.now c.append_updates.new.self c.args.space.now c.append_updates.new.space _ _ c.requires.fit (search rules) (asks_same g.S.Space _ _ _ _ _ _ _ _ _ _ c.as_slice.ensures.value c.in_ok-append_updates.ensures.asks)

pub returns-clause-writes : goal.returns-clause-writes
returns-clause-writes g c = record_too g.S.Space (work c.args.batch.now) _ _ c.args.logged.now c.append_updates.new.self c.append.new.self c.args.space.now c.append_updates.new.space c.append.new.space _ c.append.result _ (search rules) (asks_same g.S.Space _ _ _ _ _ _ _ _ _ _ c.as_slice.ensures.value c.in_ok-append_updates.ensures.asks) c.append.ensures.notes c.append.ensures.full c.append.ensures.frame.keeps.same_limit

pub returns-clause-frame : goal.returns-clause-frame
returns-clause-frame g c = only_writes_then g.S.Space c.args.space.now c.append_updates.new.space c.append.new.space c.append_updates.ensures.frame c.append.ensures.frame
