-- A valid head, with choices in it and without.
use Rattle.std.proofs.Common.{◌≡◌, ◌≢◌, ◌⊎◌, inl, inr, ℕ, zero, suc, ◌≤◌, refl, arith}
use Rattle.tc_space.specs.Ranges.{IsDataFile}
use Rattle.hf_head.specs.declared.head.Head.{Head}
use Rattle.hf_head.specs.Heads.{IsValid, IsKind, HasKnownOptions}
use Rattle.hf_record.specs.Fields.{IsFile, HasFields}

kind_of : (k : ℕ) → k ≤ 3 → k ≢ 2 → (k ≡ 0) ⊎ ((k ≡ 1) ⊎ (k ≡ 3))
kind_of zero low off = inl refl
kind_of (suc zero) low off = inr (inl refl)
kind_of (suc (suc zero)) low off = absurd (off refl)
kind_of (suc (suc (suc zero))) low off = inr (inr refl)
kind_of (suc (suc (suc (suc k)))) low off = absurd (omega (arith, low))

options_of : (k : ℕ) → k ≤ 1 → (k ≡ 0) ⊎ (k ≡ 1)
options_of zero low = inl refl
options_of (suc zero) low = inr refl
options_of (suc (suc k)) low = absurd (omega (arith, low))

pub is_valid : (h : Head) → HasFields h → IsValid h
is_valid h f = record { is_kind = kind_of h.kind f.kind_most f.kind_known; powers = f.powers; known_options = options_of h.options f.options; numbers = f.numbers }

kind_low : (h : Head) → IsKind h → (h.kind ≤ 3) × (h.kind ≢ 2)
kind_low h (inl e) = (omega (arith, e), λ t. omega (arith, e, t))
kind_low h (inr (inl e)) = (omega (arith, e), λ t. omega (arith, e, t))
kind_low h (inr (inr e)) = (omega (arith, e), λ t. omega (arith, e, t))

options_low : (h : Head) → HasKnownOptions h → h.options ≤ 1
options_low h (inl e) = omega (arith, e)
options_low h (inr e) = omega (arith, e)

pub has_fields : (h : Head) → IsValid h → HasFields h
has_fields h v = record { kind_most = (kind_low h v.is_kind).0; kind_known = (kind_low h v.is_kind).1; powers = v.powers; options = options_low h v.known_options; numbers = v.numbers }

pub is_data : (file : ℕ) → IsFile file → IsDataFile file
is_data zero f = inl refl
is_data (suc zero) f = absurd (f.1 refl)
is_data (suc (suc n)) f = inr (omega arith, omega (arith, f.0))

pub is_file : (file : ℕ) → IsDataFile file → IsFile file
is_file file (inl e) = (omega (arith, e), λ t. omega (arith, e, t))
is_file file (inr r) = (omega (arith, r.1), λ t. omega (arith, r.0, t))
