use Rattle.std.proofs.Common.{ap, refl, rules}
use Rattle.std.specs.Prelude.{Err}
use Rattle.tc_space.specs.Frames.{keeps_then, others_then}
use Rattle.tc_space.specs.Stores.{Only}
use Rattle.ty_base.proofs.Refusals.{full_from, full_of, none_broken, on_err_of}
use Rattle.tc_treedb.proofs.Made.{created_as, gave_up, lacks_same, lacks_sections, names_no_rule, none_stood, rose_on}
use Rattle.tc_treedb.proofs.opening.TreeEngineOpens.create.Goals as goal

pub returns-in_err-hash-clause-refused : goal.returns-in_err-hash-clause-refused
returns-in_err-hash-clause-refused g c = record { left = on_err_of _ c.in_err-hash.ensures.refused; cause = search rules; sound = none_broken c.from_residual.result c.in_err-hash.field-0.0 _ c.from_residual.ensures.1 }

pub returns-in_err-hash-clause-full : goal.returns-in_err-hash-clause-full
returns-in_err-hash-clause-full g c = λ full told. lacks_sections g.S.Space c.args.space.now c.create.new.space c.args.shape.now c.create.ensures.keeps.same_limit (c.in_err-hash.ensures.full (full_from c.from_residual.result c.in_err-hash.field-0.0 c.from_residual.ensures.1 full))

pub make_tree-requires-clause-new : goal.make_tree-requires-clause-new
make_tree-requires-clause-new g c = record {
  sound = c.in_ok-hash.ensures.created.sound;
  file = c.in_ok-hash.ensures.file.0;
  new = c.in_ok-hash.ensures.file.1;
  held = c.in_ok-hash.ensures.created.held;
  made = c.in_ok-hash.ensures.created.made;
}

pub returns-in-Ok-clause-created : goal.returns-in-Ok-clause-created
returns-in-Ok-clause-created g c = λ t. created_as g.S.Space _ c.args.shape.now c.create.new.space c.make_tree.new.space refl t c.in-Ok.ensures.made

pub returns-in-Ok-clause-usable : goal.returns-in-Ok-clause-usable
returns-in-Ok-clause-usable g c = record { sound = c.in-Ok.ensures.made.sound; others = others_then g.S.Space (Only 0) _ _ _ c.in_ok-hash.ensures.created.others c.in-Ok.ensures.made.others }

pub returns-in-Ok-clause-keeps : goal.returns-in-Ok-clause-keeps
returns-in-Ok-clause-keeps g c = keeps_then g.S.Space _ _ _ c.create.ensures.keeps c.make_tree.ensures.keeps

pub returns-in-Err-clause-refused : goal.returns-in-Err-clause-refused
returns-in-Err-clause-refused g c = gave_up g.S.Space c.in-Err.e c.args.space.now c.spoil.new.self c.spoil.ensures.spoiled (λ is. rose_on _ _ _ _ c.create.ensures.keeps.later (c.in-Err.ensures.cause (ap (λ e. Err e) is)) c.spoil.ensures.faults) _ (ap (λ a. Err a) c.from.ensures)

pub returns-in-Err-clause-full : goal.returns-in-Err-clause-full
returns-in-Err-clause-full g c = λ full told. lacks_same g.S.Space c.args.shape.now c.make_tree.new.space c.spoil.new.self told c.spoil.ensures.stays.follows.same_limit (c.spoil.ensures.now told) c.spoil.ensures.log c.spoil.ensures.brought (c.in-Err.ensures.full (ap (λ e. Err e) (full_of c.in-Err.e c.from.result c.from.ensures full)) told)

pub returns-in-Err-clause-broken : goal.returns-in-Err-clause-broken
returns-in-Err-clause-broken g c = names_no_rule c.from.result c.in-Err.e _ c.from.ensures

pub returns-in-Err-clause-keeps : goal.returns-in-Err-clause-keeps
returns-in-Err-clause-keeps g c = keeps_then g.S.Space _ _ _ c.create.ensures.keeps (keeps_then g.S.Space _ _ _ c.make_tree.ensures.keeps (record {
  steady = c.spoil.ensures.stays.steady;
  same_limit = c.spoil.ensures.stays.follows.same_limit;
  same_names = c.spoil.ensures.stays.follows.same_names;
  later = c.spoil.ensures.stays.follows.later;
}))

pub returns-in-Ok-clause-stood : goal.returns-in-Ok-clause-stood
returns-in-Ok-clause-stood g c = none_stood g.S.Space c.args.space.now c.requires.empty

pub returns-in_err-hash-clause-beside : goal.returns-in_err-hash-clause-beside
returns-in_err-hash-clause-beside g c = λ full. none_stood g.S.Space c.args.space.now c.requires.empty

pub returns-in-Err-clause-beside : goal.returns-in-Err-clause-beside
returns-in-Err-clause-beside g c = λ full. none_stood g.S.Space c.args.space.now c.requires.empty
