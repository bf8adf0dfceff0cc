-- What is held keeps the laws of a space.
use Rattle.std.specs.Prelude.{◌≡◌, ℕ, ◌≤◌, min, List, length, Bool, false, nat_lt, if◌then◌else◌, Option, Some}
use Rattle.std.proofs.Common.{sym, ◌∙◌, ap, subst, arith}
use Rattle.std.proofs.lemmas.Bool.{le-ltb}
use Rattle.tc_base.specs.Files.{Files}
use Rattle.tc_space.specs.declared.space.Space.{Ghosts}
use Rattle.tc_held.specs.Held.{IsBare, IsHeld, over}
use Rattle.tc_held.specs.History.{LeftFrom, moment_in, stood_at, stood_from}
use Rattle.tc_held.specs.declared.held.Held.{Held}
use Rattle.tc_held.specs.Lengths.{all_bare, laid_most}

-- at the present moment they are as they are now
pub held_present : {S : Type 0} (moment : S → ℕ) (files_at : ℕ → Files) (now : Files) (below : S) (held : Held) (n : ℕ) (x : S × Held) → files_at (moment below) ≡ now → over (if nat_lt n n then x else (below, held)).1 (files_at (moment (if nat_lt n n then x else (below, held)).0)) ≡ over held now
held_present {S} moment files_at now below held n x is =
    ap (λ (b : Bool). over (if b then x else (below, held)).1 (files_at (moment (if b then x else (below, held)).0))) (le-ltb n n (omega arith))
    ∙ ap (λ (fs : Files). over held fs) is

module _ {S : Type 0} {s : Ghosts S} where
  -- where nothing was written, nothing is held
  pub held_clean : (below : S) (held : Held) → IsBare s below held → (s.touched below ≡ false → s.kept below ≡ Some (s.now below)) → s.kept below ≡ Some (over held (s.now below))
  held_clean below held bare clean = clean bare.untouched ∙ ap (λ (fs : Files). Some fs) (sym (all_bare held (s.now below) bare.none))

  -- no file is longer than its limit
  pub held_within : {logged : S → ℕ} (below : S) (held : Held) (file : ℕ) → IsHeld s logged below held → length (s.now below file) ≤ s.limit below file → length (over held (s.now below) file) ≤ s.limit below file
  held_within below held file is low = laid_most held.bytes.items held.pieces.items (s.limit below) file (s.now below file) low is.tidy.lie is.limits

  pub held_earlier : {past : List (S × Held)} {below : S} {held : Held} (t u : ℕ) (o : Option Files) → t ≤ u → LeftFrom s past below held u o → LeftFrom s past below held t o
  held_earlier t u o le l = record { at = l.at; since = omega (arith, le, l.since); left = l.left }

module _ {S : Type 0} (s : Ghosts S) (past : List (S × Held)) (below : S) (held : Held) where
  pub stood_now : (t : ℕ) → moment_in s past below ≤ t → stood_at s past below held t ≡ (below, held)
  stood_now t le = ap (λ (b : Bool). if b then stood_from s 0 past (below, held) t else (below, held)) (le-ltb t (moment_in s past below) le)

  -- the space below stood no later than it does
  pub now_low : (t : ℕ) → moment_in s past below ≤ t → min t (s.moment (stood_at s past below held t).0) ≡ s.moment below
  now_low t le =
      let most : min t (s.moment below) ≡ s.moment below = omega (arith, le) in
      ap (λ (q : S × Held). min t (s.moment q.0)) (stood_now t le) ∙ most

-- what a stop leaves now it leaves of the space below now
pub held_left : {S : Type 0} {s : Ghosts S} {past : List (S × Held)} {below : S} {held : Held} (o : Option Files) → LeftFrom s past below held (moment_in s past below) o → s.left below (s.moment below) o
held_left {S} {s} {past} {below} {held} o l = subst (λ (n : ℕ). s.left below n o) (now_low s past below held l.at l.since) l.left
