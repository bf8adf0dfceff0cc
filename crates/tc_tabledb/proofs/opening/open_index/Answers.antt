use Rattle.std.proofs.Common.{refl}
use Rattle.tc_reach.proofs.Handed.{err_handed, if_err_handed}
use Rattle.tc_space.specs.Frames.{only_reads_then}
use Rattle.tc_table.proofs.Opened.{only_reads}
use Rattle.ty_base.proofs.Refusals.{full_from, none_broken}
use Rattle.tc_tabledb.specs.Opening.{rule_c}
use Rattle.tc_tabledb.proofs.Opened.{admits_reads, before_breaks, listed_ready, named_breaks, never_fault, never_full, opens_at, side_left, side_taken}
use Rattle.tc_tabledb.proofs.opening.open_index.Goals as goal

pub open_side-requires-clause-sound : goal.open_side-requires-clause-sound
open_side-requires-clause-sound g c = c.requires.listed.sound

pub admit-requires-clause-ready : goal.admit-requires-clause-ready
admit-requires-clause-ready g c = listed_ready g.S.Space _ c.table_stores.ensures.store _ _ c.args.table.now c.args.row_keys.now c.args.space.now c.open_side.new.space c.requires.listed c.open_side.ensures.reads

pub returns-in_err-side-clause-broken : goal.returns-in_err-side-clause-broken
returns-in_err-side-clause-broken g c = if_err_handed c.from_residual.result c.in_err-side.field-0.0 _ c.from_residual.ensures.1 (before_breaks g.S.Space _ c.table_stores.ensures.store _ _ c.args.file c.args.table.now c.as_slice.result.now c.args.space.now c.in_err-side.field-0.0 c.as_slice.ensures.value c.requires.some c.in_err-side.ensures.broken)

pub returns-in_err-side-clause-not_full : goal.returns-in_err-side-clause-not_full
returns-in_err-side-clause-not_full g c = λ full. c.in_err-side.ensures.not_full (err_handed c.from_residual.result c.in_err-side.field-0.0 _ c.from_residual.ensures.1 full)

pub returns-in_err-admit-clause-broken : goal.returns-in_err-admit-clause-broken
returns-in_err-admit-clause-broken g c = none_broken c.from_residual-in_err-admit.result c.in_err-admit.field-0.0 _ c.from_residual-in_err-admit.ensures.1

pub returns-in_err-admit-clause-not_full : goal.returns-in_err-admit-clause-not_full
returns-in_err-admit-clause-not_full g c = λ full. c.in_err-admit.ensures.cause.1 (full_from c.from_residual-in_err-admit.result c.in_err-admit.field-0.0 c.from_residual-in_err-admit.ensures.1 full)

pub returns-in_err-admit-clause-reads : goal.returns-in_err-admit-clause-reads
returns-in_err-admit-clause-reads g c = only_reads_then g.S.Space _ _ _ c.open_side.ensures.reads (only_reads g.S.Space _ c.args.table.now c.admit.new.self c.open_side.new.space c.admit.new.space c.in_err-admit.ensures.refused c.admit.ensures.keeps)

pub returns-then-not-branch-clause-broken : goal.returns-then-not-branch-clause-broken
returns-then-not-branch-clause-broken g c = named_breaks c.broken.result c.args.file (rule_c 3) _ c.broken.ensures (
  refl,
  (λ t. side_left g.S.Space _ c.table_stores.ensures.store _ _ c.args.file c.in_ok-side.side c.args.row_keys.now c.args.table.now c.admit.new.self _ c.args.space.now c.open_side.new.space c.admit.new.space c.requires.place c.requires.free c.requires.listed c.open_side.ensures.reads
      (opens_at g.S.Space _ c.table_stores.ensures.store _ _ c.args.file c.as_slice.result.now c.args.table.now.sides.items c.in_ok-side.side c.args.space.now c.open_side.new.space c.as_slice.ensures.value c.in_ok-side.ensures.opened) c.in_ok-admit.ensures.exact c.in_ok-admit.ensures.admits c.if-not-branch.true (c.requires.some t) t),
)

pub returns-then-not-branch-clause-not_full : goal.returns-then-not-branch-clause-not_full
returns-then-not-branch-clause-not_full g c = λ full. never_full c.broken.result c.args.file (rule_c 3) c.broken.ensures full

pub returns-then-not-branch-clause-cause : goal.returns-then-not-branch-clause-cause
returns-then-not-branch-clause-cause g c = λ fault. absurd (never_fault c.broken.result c.args.file (rule_c 3) c.broken.ensures fault)

pub returns-then-not-branch-clause-reads : goal.returns-then-not-branch-clause-reads
returns-then-not-branch-clause-reads g c = only_reads_then g.S.Space _ _ _ c.open_side.ensures.reads (admits_reads g.S.Space _ c.table_stores.ensures.store _ _ c.in_ok-side.side c.args.row_keys.now _ c.args.table.now c.admit.new.self c.open_side.new.space c.admit.new.space c.in_ok-admit.ensures.admits c.admit.ensures.keeps)

pub returns-clause-opened : goal.returns-clause-opened
returns-clause-opened g c = side_taken g.S.Space _ c.table_stores.ensures.store _ _ c.args.file c.in_ok-side.side c.args.row_keys.now c.args.table.now c.admit.new.self _ c.args.space.now c.open_side.new.space c.admit.new.space c.requires.place c.requires.free c.requires.listed c.open_side.ensures.reads
    (opens_at g.S.Space _ c.table_stores.ensures.store _ _ c.args.file c.as_slice.result.now c.args.table.now.sides.items c.in_ok-side.side c.args.space.now c.open_side.new.space c.as_slice.ensures.value c.in_ok-side.ensures.opened) c.in_ok-admit.ensures.exact c.in_ok-admit.ensures.admits c.if-not-branch.false

pub returns-clause-reads : goal.returns-clause-reads
returns-clause-reads g c = only_reads_then g.S.Space _ _ _ c.open_side.ensures.reads (admits_reads g.S.Space _ c.table_stores.ensures.store _ _ c.in_ok-side.side c.args.row_keys.now _ c.args.table.now c.admit.new.self c.open_side.new.space c.admit.new.space c.in_ok-admit.ensures.admits c.admit.ensures.keeps)
