-- A file made anew with the numbers and in the form that it has.
use Rattle.std.proofs.Common.{◌≡◌, ◌∙◌, ◌⊎◌, inl, inr, ℕ, zero, suc, ◌+◌, ◌-◌, ◌*◌, ◌%◌, ◌^◌, ◌<◌, ◌≤◌, true, false, List, [], length, replicate, take, refl, sym, ap, subst, arith, None}
use Rattle.std.specs.Prelude.{◌==◌}
use Rattle.std.specs.FinMap.{empty}
use Rattle.std.proofs.lemmas.Bool.{cases_lt}
use Rattle.std.proofs.lemmas.List.{length-replicate}
use Rattle.std.proofs.Math.Nat.{mod-eq_of_lt}
use Rattle.hf_head.specs.declared.head.Head.{Head}
use Rattle.hf_head.specs.Heads.{Spells, head_in, is_large, sections, spelled, unit, wide}
use Rattle.hf_layout.specs.Frees.{none}
use Rattle.hf_layout.specs.Layout.{LaidOut}
use Rattle.hf_layout.proofs.Segments.{rest_aligned}
use Rattle.hf_pool.specs.declared.pool.Pool.{Pool}
use Rattle.hf_pool.specs.Pools.{frees as frees_in}
use Rattle.tc_base.specs.Files.{Files}
use Rattle.tc_space.specs.Effects.{Changes}
use Rattle.tc_space.specs.Ranges.{IsDataFile}
use Rattle.tc_space.specs.declared.space.Space.{Ghosts}
use Rattle.tc_reach.specs.Limits.{AreZeros}
use Rattle.tc_hash.specs.Creating.{IsNew, MayBe, new_bytes, with_region}
use Rattle.hf_record.specs.Fields.{HasFields}
use Rattle.tc_hash.specs.Holding.{Holds, HoldsFile, IsNumbered}
use Rattle.tc_hash.specs.declared.hash.Hash.{Hash}
use Rattle.tc_hash.specs.Keeping.{ShowsRegion, Turns}
use Rattle.tc_hash.proofs.Fronted.{anew_as, numbers_is, numbers_now}
use Rattle.tc_hash.proofs.Created.{create_head, new_fields, stands_anew, zeros_are}
use Rattle.tc_hash.proofs.Kept.{holds_now}

pub may_be : (h : Head) → HasFields h → MayBe h.kind h.apow h.fpow h.buckets
may_be h f = record {
  kind_most = f.kind_most;
  kind_known = f.kind_known;
  apow_least = f.powers.0;
  apow_most = f.powers.1;
  fpow_most = f.powers.2;
  some_buckets = f.numbers.some_buckets;
  few_buckets = f.numbers.few_buckets;
}

-- a multiple less than one unit above another isn't above it
multiple_low : (u a b : ℕ) → a % u ≡ 0 → b % u ≡ 0 → a < b + u → a ≤ b
multiple_low u a b even aligned less = elim (cases_lt b a) [
  | inl past ↦ absurd (
      let rest : (a - b) % u ≡ 0 = rest_aligned u b a past aligned even in
      let small : a - b < u = omega (arith, less, past) in
      let e = mod-eq_of_lt small in
      omega (arith, e, rest, past))
  | inr le ↦ omega (arith, le)
]

-- a file made anew begins its blocks no later
pub new_first : (h new : Head) → HasFields h → IsNew h.kind h.apow h.fpow h.buckets (is_large h) new → new.first ≤ h.first
new_first h new f is =
    let units : unit new ≡ unit h = ap (λ (n : ℕ). 2 ^ n) is.apow_is in
    let behind : sections new ≡ sections h = λ i. 256 + wide (is.form i) * is.buckets_is i + (64 + 4 * 2 ^ is.fpow_is i) in
    multiple_low (unit h) new.first h.first (ap (λ (u : ℕ). new.first % u) (sym units) ∙ is.aligned) f.numbers.first_aligned (omega (arith, is.least, units, behind, f.numbers.first_behind))

pub anew_fields : (h new : Head) → HasFields h → IsNew h.kind h.apow h.fpow h.buckets (is_large h) new → HasFields new
anew_fields h new f is = new_fields h.kind h.apow h.fpow h.buckets (is_large h) new (may_be h f) is (omega (arith, is.size, new_first h new f is, f.numbers.size_least, f.numbers.size_most))

pub same_options : (a b : ℕ) → a ≤ 1 → b ≤ 1 → (a == 1) ≡ (b == 1) → a ≡ b
same_options zero zero p q e = refl
same_options zero (suc zero) p q e = absurd (let f : false ≡ true = e in cc)
same_options (suc zero) zero p q e = absurd (let f : true ≡ false = e in cc)
same_options (suc zero) (suc zero) p q e = refl
same_options (suc (suc a)) b p q e = absurd (omega (arith, p))
same_options zero (suc (suc b)) p q e = absurd (omega (arith, q))
same_options (suc zero) (suc (suc b)) p q e = absurd (omega (arith, q))

pub some_zeros : (z : List ℕ) (n : ℕ) → 0 < n → z ≡ replicate n 0 → AreZeros z
some_zeros z n some e = let long = ap length e in let all = length-replicate {A = ℕ} n 0 in record { some = omega (arith, some, long, all); are = zeros_are z n e }

pub changes_twice : {S : Type 0} (now : S → Files) (file : ℕ) (x y : List ℕ) (a b c : S) → Changes now file x a b → Changes now file y b c → Changes now file y a c
changes_twice now file x y a b c first second = record { here = second.here; others = λ g ne. second.others g ne ∙ first.others g ne }

-- a head with another region is one with the same fields
pub fields_with : (h : Head) (region : List ℕ) → HasFields h → HasFields (with_region h region)
fields_with h region f = record {
  kind_most = f.kind_most;
  kind_known = f.kind_known;
  powers = f.powers;
  options = f.options;
  numbers = record {
    some_buckets = f.numbers.some_buckets;
    few_buckets = f.numbers.few_buckets;
    first_aligned = f.numbers.first_aligned;
    first_behind = f.numbers.first_behind;
    size_aligned = f.numbers.size_aligned;
    size_least = f.numbers.size_least;
    size_most = f.numbers.size_most;
  };
}

-- nothing is held in a file whose head is written with a region
pub anew_holds : (h g : Head) (region : List ℕ) (p : Pool) (bytes : List ℕ) → HasFields h → h.records ≡ 0 → h.size ≡ h.first → g ≡ with_region h region → p.unit ≡ unit h → p.size ≡ h.size → ((q : ℕ) → frees_in p q ≡ None)
    → ((bs : List ℕ) → h.size ≤ length bs → LaidOut (unit h) h.first h.size [] (frees_in p) none bs) → Spells g (spelled g) → length (spelled g) ≡ 256 → bytes ≡ new_bytes g → Holds h p.size (frees_in p) 0 empty bytes
anew_holds h g region p bytes f zero_records ends is same sized nothing laid spells long e =
    let x : Head = with_region h region in
    let b = stands_anew x p bytes (fields_with h region f) zero_records ends same sized nothing laid (subst (λ (y : Head). Spells y (spelled y)) is spells) (subst (λ (y : Head). length (spelled y) ≡ 256) is long) (e ∙ ap new_bytes is) in
    subst (λ (n : ℕ). Holds h p.size (frees_in p) n empty bytes) zero_records (holds_now h h.records h.size region p.size h.records (frees_in p) empty bytes b.holds)

pub cleared : (h new g : Head) (region : List ℕ) (p : Pool) (bytes : List ℕ) → HasFields h → IsNew h.kind h.apow h.fpow h.buckets (is_large h) new → g ≡ with_region new region → p.unit ≡ unit new → p.size ≡ new.size → ((q : ℕ) → frees_in p q ≡ None)
    → ((bs : List ℕ) → new.size ≤ length bs → LaidOut (unit new) new.first new.size [] (frees_in p) none bs) → Spells g (spelled g) → length (spelled g) ≡ 256 → bytes ≡ new_bytes g → Holds new p.size (frees_in p) 0 empty bytes
cleared h new g region p bytes f is written same sized nothing laid spells long e = anew_holds new g region p bytes (anew_fields h new f is) is.records is.size written same sized nothing laid spells long e

-- and its head stands in front
pub numbers_anew : (h : Head) (bytes : List ℕ) → Spells h (spelled h) → length (spelled h) ≡ 256 → bytes ≡ new_bytes h → IsNumbered h bytes
numbers_anew h bytes spells long e = numbers_is h (head_in (take 256 bytes)) (create_head h h bytes refl spells long e)

-- with that region
pub head_with : (h g : Head) (region bytes : List ℕ) → g ≡ with_region h region → Spells g (spelled g) → length (spelled g) ≡ 256 → bytes ≡ new_bytes g → head_in (take 256 bytes) ≡ with_region h region
head_with h g region bytes is spells long e = create_head g (with_region h region) bytes (sym is) spells long e

pub shows_with : {S : Type 0} (v : Hash S) (h g : Head) (region bytes : List ℕ) → v.region ≡ region → g ≡ with_region h region → Spells g (spelled g) → length (spelled g) ≡ 256 → bytes ≡ new_bytes g → ShowsRegion v bytes
shows_with v h g region bytes same is spells long e = ap (λ (x : Head). x.opaque) (head_with h g region bytes is spells long e) ∙ sym same

-- bytes that the file had pass no limit
pub within_log : {S : Type 0} (s : Ghosts S) → ((a : S) (file : ℕ) → s.tells → s.sound a → IsDataFile file → length (s.now a file) ≤ s.limit a file) → (file n : ℕ) (a : S) {L : Type 0} → s.tells → s.sound a → IsDataFile file → n ≤ length (s.now a file) → (s.limit a file < n) ⊎ L → L
within_log s within file n a t sound numbered inside (inl past) = absurd (omega (arith, within a file t sound numbered, past, inside))
within_log s within file n a t sound numbered inside (inr full) = full

-- the file was made anew, with a region in its head, and nothing is held
pub emptied : {S : Type 0} (s : Ghosts S) (v v' : Hash S) (h g : Head) (region : List ℕ) (p : Pool) (a b : S) → v'.body.file ≡ v.body.file → v'.body.head ≡ h → v'.body.pool ≡ p → v'.records ≡ 0 → v'.front ≡ None → p.changed ≡ true → s.sound b
    → g ≡ with_region h region → Spells g (spelled g) → length (spelled g) ≡ 256 → (s.tells → Changes s.now v.body.file (new_bytes g) a b) → (s.tells → Holds h p.size (frees_in p) 0 empty (s.now b v.body.file)) → Turns s (λ m. empty) v v' a b
emptied s v v' h g region p a b file eh ep er ef noted sound is spells long wrote held = record {
  sound = sound;
  means = λ m w. (
    w.0,
    subst (λ (l : List ℕ). HoldsFile v' l empty) (sym (ap (s.now b) file)) (anew_as v' h p 0 (s.now b v.body.file) empty eh ep er ef noted (held w.0)
        (numbers_now h (head_in (take 256 (s.now b v.body.file))) h.records h.size region (head_with h g region (s.now b v.body.file) is spells long (wrote w.0).here))),
  );
  others = record { same = λ t f other. (wrote t).others f other };
}

pub changes_told : {S : Type 0} (tells : Type 0) (now : S → Files) (file : ℕ) (x y : List ℕ) (a b c : S) → (tells → Changes now file x a b) → (tells → Changes now file y b c) → tells → Changes now file y a c
changes_told tells now file x y a b c first second t = changes_twice now file x y a b c (first t) (second t)
