use Rattle.std.proofs.Common.{◌≡◌, ◌<◌, ◌*◌, ℕ, length, Some}
use Rattle.std.specs.Prelude.{slice_get}
use Rattle.tc_base.specs.Endian.{field, le_number}
use Rattle.hf_chain.specs.Heads.{capped}
use Rattle.hf_survey.proofs.naming.decode.Given as goal

abbrev pub invariant-loop-i : goal.invariant-loop-i
invariant-loop-i l = record {
  long : length l.places ≡ length l.fn.places;
  done : (j p : ℕ) → j < l.i → slice_get l.places j ≡ Some p → p ≡ capped (l.unit * le_number (field (l.width * j) l.width l.bytes));
}
