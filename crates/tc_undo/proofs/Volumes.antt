-- Calls of a volume, one after the other.
use Rattle.std.proofs.Common.{◌≡◌, ◌∙◌, true, arith, refl}
use Rattle.tc_io.specs.declared.volume.Volume.{Ghosts}
use Rattle.ud_state.specs.Since.{quiet_refl, quiet_then}
use Rattle.tc_undo.specs.Volumes.{OnlyReads, StaysBound, StaysQuiet}

module _ {V : Type 0} (v : Ghosts V) where
  pub stays_refl : (a : V) → v.bound a ≡ true → StaysBound v a a
  stays_refl a is = record { bound = is; names = refl; later = omega arith }

  pub stays_then : (a b c : V) → StaysBound v a b → StaysBound v b c → StaysBound v a c
  stays_then a b c first second = record { bound = second.bound; names = second.names ∙ first.names; later = omega (arith, first.later, second.later) }

  pub reads_refl : (a : V) → v.bound a ≡ true → OnlyReads v a a
  reads_refl a is = record { stays = stays_refl a is; calls = λ t. refl }

  pub reads_then : (a b c : V) → OnlyReads v a b → OnlyReads v b c → OnlyReads v a c
  reads_then a b c first second = record { stays = stays_then a b c first.stays second.stays; calls = λ t. second.calls t ∙ first.calls t }

  pub stays_quiet_refl : (a : V) → v.bound a ≡ true → StaysQuiet v a a
  stays_quiet_refl a is = record { stays = stays_refl a is; quiet = λ t. quiet_refl (v.calls a) }

  pub stays_quiet_then : (a b c : V) → StaysQuiet v a b → StaysQuiet v b c → StaysQuiet v a c
  stays_quiet_then a b c first second = record { stays = stays_then a b c first.stays second.stays; quiet = λ t. quiet_then (v.calls a) (v.calls b) (v.calls c) (first.quiet t) (second.quiet t) }
