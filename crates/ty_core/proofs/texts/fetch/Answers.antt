use Rattle.std.proofs.Common.{rules, refl}
use Rattle.std.specs.Prelude.{None}
use Rattle.tc_reach.proofs.Handed.{on_err_any}
use Rattle.ty_core.proofs.Getting.{get_fetches, get_reads, with_none}
use Rattle.ty_core.proofs.Texting.{declines_alone}
use Rattle.ty_core.proofs.texts.fetch.Goals as goal

pub returns-clause-reads : goal.returns-clause-reads
returns-clause-reads g c = get_reads g.B.S.Space g.B.Storage.holds c.args.key c.in_ok-applied.applied c.args.base.now c.apply.new.self c.args.space.now c.apply.new.space c.apply.new.walk _ _
    (with_none g.B.S.Space g.B.Storage.holds c.args.key c.in_ok-applied.applied c.args.base.now c.apply.new.self c.args.space.now c.apply.new.space _ c.apply.new.walk _ _ c.new-none.ensures c.in_ok-applied.ensures.applied) (c.in_ok-applied.ensures.leaves.reads (search rules, refl))

pub returns-clause-got : goal.returns-clause-got
returns-clause-got g c = get_fetches g.B.S.Space g.B.Storage.holds c.args.key c.in_ok-applied.applied c.args.base.now c.apply.new.self c.args.space.now c.apply.new.space c.apply.new.walk _ _ (search rules)
    (with_none g.B.S.Space g.B.Storage.holds c.args.key c.in_ok-applied.applied c.args.base.now c.apply.new.self c.args.space.now c.apply.new.space _ c.apply.new.walk _ _ c.new-none.ensures c.in_ok-applied.ensures.applied)

pub returns-in_err-applied-clause-refused : goal.returns-in_err-applied-clause-refused
returns-in_err-applied-clause-refused g c = on_err_any _ (declines_alone g.B.S.Space g.B.Storage.holds c.args.base.now c.apply.new.self c.args.space.now c.apply.new.space _ _ None c.in_err-applied.ensures.refused)

pub returns-in_err-applied-clause-not_full : goal.returns-in_err-applied-clause-not_full
returns-in_err-applied-clause-not_full g c = λ is. absurd (let w = (c.in_err-applied.ensures.full (search (rules, is))).writes in cc)
