use Rattle.ty_base.proofs.Refusals.{full_from, none_broken}
use Rattle.tc_treedb.proofs.Made.{broken_from}
use Rattle.tc_tabledb.specs.Opening.{rule_c}
use Rattle.tc_tabledb.proofs.Opened.{main_breaks, main_no_row, main_opens, main_ready, match_none, match_some, named_breaks, never_fault, never_full, open_never_full}
use Rattle.tc_tabledb.proofs.opening.open_rows.Goals as goal

pub open-requires-2 : goal.open-requires-2
open-requires-2 g c = main_ready g.S.Space _ c.table_stores.ensures.store c.in_ok-hash.hash c.args.space.now c.open.new.space c.in_ok-hash.ensures.file.0 c.in_ok-hash.ensures.file.1 c.in_ok-hash.ensures.stands c.in_ok-hash.ensures.holds c.open.ensures.reads.is_sound

pub returns-in_err-hash-clause-broken : goal.returns-in_err-hash-clause-broken
returns-in_err-hash-clause-broken g c = broken_from c.from_residual.result c.in_err-hash.field-0.0 _ c.from_residual.ensures.1 (λ f rule named t. main_breaks (g.S.Space.now c.args.space.now) f rule g.S.Space.tells c.in_err-hash.field-0.0 t c.requires.some c.in_err-hash.ensures.broken named)

pub returns-in_err-opened-clause-broken : goal.returns-in_err-opened-clause-broken
returns-in_err-opened-clause-broken g c = none_broken c.from_residual-in_err-opened.result c.in_err-opened.field-0.0 _ c.from_residual-in_err-opened.ensures.1

pub returns-in_default-clause-broken : goal.returns-in_default-clause-broken
returns-in_default-clause-broken g c = named_breaks c.broken.result 0 (rule_c 1) _ c.broken.ensures (λ t. main_no_row g.S.Space _ c.table_stores.ensures.store c.in_ok-hash.hash c.args.space.now c.open.new.space c.in_ok-hash.ensures.file.0 c.in_ok-hash.ensures.file.1 c.in_ok-hash.ensures.stands c.in_ok-hash.ensures.holds t (match_none _ _ c.in_ok-opened.field-0 c.in_default.is c.in_ok-opened.ensures.opened))

pub returns-clause-opened : goal.returns-clause-opened
returns-clause-opened g c = main_opens g.S.Space _ c.table_stores.ensures.store c.in_ok-hash.hash c.args.space.now c.open.new.space c.in_ok-hash.ensures.file.0 c.in_ok-hash.ensures.file.1 c.in_ok-hash.ensures.stands c.in_ok-hash.ensures.holds _ _ c.in-Some.opened.0 c.in-Some.opened.1 c.open-2.new.space (match_some _ _ c.in_ok-opened.field-0 c.in-Some.opened c.in-Some.is c.in_ok-opened.ensures.opened)

pub returns-in_err-hash-clause-not_full : goal.returns-in_err-hash-clause-not_full
returns-in_err-hash-clause-not_full g c = λ full. open_never_full c.from_residual.result c.in_err-hash.field-0.0 c.from_residual.ensures.1 full

pub returns-in_err-opened-clause-not_full : goal.returns-in_err-opened-clause-not_full
returns-in_err-opened-clause-not_full g c = λ full. c.in_err-opened.ensures.cause.1 (full_from c.from_residual-in_err-opened.result c.in_err-opened.field-0.0 c.from_residual-in_err-opened.ensures.1 full)

pub returns-in_default-clause-not_full : goal.returns-in_default-clause-not_full
returns-in_default-clause-not_full g c = λ full. never_full c.broken.result 0 (rule_c 1) c.broken.ensures full

pub returns-in_default-clause-cause : goal.returns-in_default-clause-cause
returns-in_default-clause-cause g c = λ fault. absurd (never_fault c.broken.result 0 (rule_c 1) c.broken.ensures fault)
