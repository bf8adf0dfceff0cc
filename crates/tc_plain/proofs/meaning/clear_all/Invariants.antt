use Rattle.std.proofs.Common.{◌≡◌, drop}
use Rattle.std.specs.Prelude.{fold}
use Rattle.tc_model.specs.Stores.{clear}
use Rattle.tc_plain.specs.Views.{contents_of}
use Rattle.tc_plain.proofs.meaning.clear_all.Given as goal

abbrev pub invariant-loop-key : goal.invariant-loop-key
invariant-loop-key l = fold clear (contents_of l.now) (drop l.key-index l.keys) ≡ fold clear (contents_of l.initial.now) l.keys
