-- What a space over a volume knows between two calls, while it may be used.
use Rattle.std.specs.Prelude.{◌≡◌, ℕ, ◌+◌, ◌-◌, ◌^◌, ◌<◌, ◌≤◌, List, length, Bool, true, false, Some, Option, is_some}
use Rattle.std.proofs.Common.{inl, inr, sym, ◌∙◌, ap, subst, arith}
use Rattle.std.proofs.lemmas.Bool.Decides.{nat_tests}
use Rattle.tc_base.specs.Files.{Files}
use Rattle.tc_io.specs.Images.{Calls, now}
use Rattle.tc_space.specs.Ranges.{IsDataFile}
use Rattle.ud_log.specs.Undo.{all_short, data_of, is_data, length_of, place_of, recovered}
use Rattle.ud_state.specs.State.{IsValid}
use Rattle.ud_state.proofs.Replaying.{short_at}
use Rattle.ud_state.proofs.Valid.{data_at, valid_idle, valid_some}
use Rattle.tc_undo.specs.Changes.{KnowsLens}
use Rattle.tc_undo.specs.Room.{log_end, needs, stop_of}
use Rattle.tc_undo.specs.declared.room.Log.{Log}

pub record IsUsable (tells : Type 0) (cs : Calls) (touched : Bool) (log : Log) (lens limits : List ℕ) : Type 0 where
  pub knows : KnowsLens tells (now cs) lens
  pub limits_short : all_short limits ≡ true
  pub inside : (f : ℕ) → is_data f ≡ true → length_of lens f ≤ length_of limits f
  pub low : log.end ≤ 2 ^ 62
  -- no transaction is open where nothing was written
  pub untouched : touched ≡ false → log.active ≡ false
  pub valid : tells → IsValid log.active cs log.end log.recorded log.changed

is_there : (w : Option Files) (files : Files) → w ≡ Some files → is_some w ≡ true
is_there w files is = ap is_some is

pub data_file : (f : ℕ) → IsDataFile f → is_data f ≡ true
data_file f (inl is) = ap is_data is
data_file f (inr is) = grind (arith, nat_tests, is.0, is.1)

end_low : (b : Bool) (end : ℕ) → end ≤ 2 ^ 62 → log_end b end ≤ 2 ^ 62
end_low true end low = low
end_low false end low = omega arith

end_half : (b : Bool) (cs : Calls) (end : ℕ) (recorded : List ℕ) (changed : List Bool) → IsValid b cs end recorded changed → 2 ^ 61 ≤ log_end b end → 2 ^ 61 ≤ length (now cs 1)
end_half true cs end recorded changed v high = omega (arith, v.log, high)
end_half false cs end recorded changed v high = absurd (omega (arith, high))

pub overfills_needs : (b : Bool) (end : ℕ) (recorded lens : List ℕ) (f at size : ℕ) → 2 ^ 62 < log_end b end + needs (stop_of b recorded lens f (at + size) - at) → 2 ^ 62 < log_end b end + needs size
overfills_needs b end recorded lens f at size is = omega (arith, is)

pub usable_low : (tells : Type 0) (cs : Calls) (touched : Bool) (log : Log) (lens limits : List ℕ) → IsUsable tells cs touched log lens limits → log_end log.active log.end ≤ 2 ^ 62
usable_low tells cs touched log lens limits usable = end_low log.active log.end usable.low

pub usable_small : (tells : Type 0) (cs : Calls) (touched : Bool) (log : Log) (lens limits : List ℕ) → IsUsable tells cs touched log lens limits → (file : ℕ) → length_of limits file ≤ 2 ^ 40
usable_small tells cs touched log lens limits usable file = short_at limits (place_of file) usable.limits_short

pub usable_half : (tells : Type 0) (cs : Calls) (touched : Bool) (log : Log) (lens limits : List ℕ) → tells → IsUsable tells cs touched log lens limits → 2 ^ 61 ≤ log_end log.active log.end → 2 ^ 61 ≤ length (now cs 1)
usable_half tells cs touched log lens limits told usable high = end_half log.active cs log.end log.recorded log.changed (usable.valid told) high

module _ (tells : Type 0) (cs : Calls) (touched : Bool) (log : Log) (lens limits : List ℕ) (told : tells) (usable : IsUsable tells cs touched log lens limits) where
  pub usable_kept : is_some (recovered (now cs)) ≡ true
  usable_kept = let some = valid_some log.active cs log.end log.recorded log.changed (usable.valid told) in is_there (recovered (now cs)) some.0 some.1

  pub usable_clean : touched ≡ false → recovered (now cs) ≡ Some (data_of (now cs))
  usable_clean is = valid_idle log.active cs log.end log.recorded log.changed (usable.untouched is) (usable.valid told)

  module _ (file : ℕ) (is : IsDataFile file) where
    pub usable_within : length (data_of (now cs) file) ≤ length_of limits file
    usable_within =
        let isd = data_file file is in
        subst (λ k. k ≤ length_of limits file) ((usable.knows.are told).at file isd ∙ sym (ap length (data_at (now cs) file isd))) (usable.inside file isd)
