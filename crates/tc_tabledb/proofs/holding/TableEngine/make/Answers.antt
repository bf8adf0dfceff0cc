use Rattle.tc_space.specs.Frames.{only_reads_refl}
use Rattle.std.proofs.Common.{rules, refl, inl, inr}
use Rattle.ty_base.proofs.Refusals.{full_from, none_broken, on_err_of}
use Rattle.tc_tabledb.specs.Opening.{rule_c}
use Rattle.tc_tabledb.proofs.Anew.{all_are_places, created_as, lacks_sections, leaves_none}
use Rattle.tc_tabledb.proofs.Opened.{named_breaks, never_fault, never_full}
use Rattle.tc_tabledb.proofs.holding.TableEngine.make.Goals as goal

pub first_some-requires-clause-places : goal.first_some-requires-clause-places
first_some-requires-clause-places g c = all_are_places

pub returns-in-Some-clause-broken : goal.returns-in-Some-clause-broken
returns-in-Some-clause-broken g c = named_breaks c.broken.result c.in-Some.file (rule_c 2) _ c.broken.ensures (λ t. (refl, c.in-Some.ensures t))

pub returns-in_err-hash-clause-refused : goal.returns-in_err-hash-clause-refused
returns-in_err-hash-clause-refused g c = record { left = on_err_of _ c.in_err-hash.ensures.refused; cause = search rules; sound = none_broken c.from_residual.result c.in_err-hash.field-0.0 _ c.from_residual.ensures.1 }

pub returns-in_err-hash-clause-full : goal.returns-in_err-hash-clause-full
returns-in_err-hash-clause-full g c = λ full told. lacks_sections g.S.Space c.args.space.now c.create.new.space c.args.shape.now c.create.ensures.keeps.same_limit (c.in_err-hash.ensures.full (full_from c.from_residual.result c.in_err-hash.field-0.0 c.from_residual.ensures.1 full))

pub returns-clause-created : goal.returns-clause-created
returns-clause-created g c = created_as g.S.Space _ _ _ c.table_stores.ensures.store _ c.in_ok-hash.hash c.args.shape.now c.args.space.now c.create.new.space c.in_ok-hash.ensures.file.0 c.in_ok-hash.ensures.file.1 c.in_ok-hash.ensures.created (leaves_none g.S.Space c.args.space.now c.create.new.space c.in_default.ensures c.in_ok-hash.ensures.created.others) c.over.ensures.rows c.over.ensures.none (λ m h all. c.over.ensures.holds c.create.new.space m h all) refl

pub returns-clause-none : goal.returns-clause-none
returns-clause-none g c = leaves_none g.S.Space c.args.space.now c.create.new.space c.in_default.ensures c.in_ok-hash.ensures.created.others

pub returns-clause-usable : goal.returns-clause-usable
returns-clause-usable g c = record { sound = c.in_ok-hash.ensures.created.sound; others = record { same = λ t n other. c.in_ok-hash.ensures.created.others.same t n (λ at. other (inl at)) } }

pub returns-in-Some-clause-refused : goal.returns-in-Some-clause-refused
returns-in-Some-clause-refused g c = record { left = inr (only_reads_refl g.S.Space c.args.space.now c.requires.sound); sound = named_breaks c.broken.result c.in-Some.file (rule_c 2) _ c.broken.ensures (only_reads_refl g.S.Space c.args.space.now c.requires.sound); cause = λ fault. absurd (never_fault c.broken.result c.in-Some.file (rule_c 2) c.broken.ensures fault) }

pub returns-in-Some-clause-full : goal.returns-in-Some-clause-full
returns-in-Some-clause-full g c = λ full. absurd (never_full c.broken.result c.in-Some.file (rule_c 2) c.broken.ensures full)

pub returns-in-Some-clause-beside : goal.returns-in-Some-clause-beside
returns-in-Some-clause-beside g c = λ full. absurd (never_full c.broken.result c.in-Some.file (rule_c 2) c.broken.ensures full)

pub returns-in_err-hash-clause-broken : goal.returns-in_err-hash-clause-broken
returns-in_err-hash-clause-broken g c = none_broken c.from_residual.result c.in_err-hash.field-0.0 _ c.from_residual.ensures.1

pub returns-in_err-hash-clause-beside : goal.returns-in_err-hash-clause-beside
returns-in_err-hash-clause-beside g c = λ full t. c.in_default.ensures t
