-- Calls that leave each file an image of itself, and the files that they make.
use Rattle.std.specs.Prelude.{◌≡◌, ℕ, ◌≤◌, Bool, true, false, List, [], ◌∷◌, length, nat_eq, nat_le, ◌&&◌, if◌then◌else◌}
use Rattle.std.proofs.Common.{get_or, refl, subst, arith, inr}
use Rattle.std.proofs.lemmas.List.{places, same_lists}
use Rattle.std.proofs.lemmas.Bool.{leb-true, eqb-true}
use Rattle.tc_base.specs.Files.{wrote}
use Rattle.tc_fakes.specs.Whole.{wrote_bytes}
use Rattle.tc_io.specs.Images.{Step, loaded, written, cut_to, synced, lost, reads, Image, Torn, Calls, of, now, Images}

-- a write begins inside the file or at its end, and no call failed halfway
abbrev pub fits : Step → List ℕ → Bool
fits (loaded bytes) r = true
fits (written at bytes) r = nat_le at (length r)
fits (cut_to len) r = true
fits synced r = true
fits (lost now) r = false

abbrev pub all_fit : Calls → Bool
all_fit [] = true
all_fit (c ∷ cs) = fits c.1 (now cs c.0) && all_fit cs

-- the 19 files are what this makes of the steps of each
pub record Holds (files : List (List ℕ)) (make : List Step → List ℕ) (cs : Calls) : Type 0 where
  pub count : length files ≡ 19
  pub each : (f : ℕ) → get_or files f [] ≡ make (of f cs)

-- every file reads its only image
pub record Settled (cs : Calls) : Type 0 where
  pub only : (f : ℕ) (i : List ℕ) → Image (of f cs) i → i ≡ now cs f

-- bytes that were written whole are what a stopped write may leave
pub torn_whole : (at : ℕ) (bytes old : List ℕ) → at ≤ length old → Torn at bytes old (wrote at bytes old)
unfolding wrote
torn_whole at bytes old inside = record {
  no_shorter = grind (arith, places);
  before = same_lists _ _ (grind (arith, places)) (λ i d h. grind (arith, places));
  behind = same_lists _ _ (grind (arith, places)) (λ i d h. grind (arith, places));
  grown = λ _. same_lists _ _ (grind (arith, places)) (λ i d h. grind (arith, places));
  beyond = λ far. absurd (omega arith);
  are_bytes = wrote_bytes at bytes old;
}

both-0 : (a b : Bool) → (a && b) ≡ true → a ≡ true
both-0 true b e = refl
both-0 false b e = e

both-1 : (a b : Bool) → (a && b) ≡ true → b ≡ true
both-1 true b e = e
both-1 false b e = absurd (cc)

image_then : (step : Step) (s : List Step) → fits step (reads s) ≡ true → Image s (reads s) → Image (step ∷ s) (reads (step ∷ s))
image_then (loaded bytes) s fit i = refl
image_then (written at bytes) s fit i = (reads s, i, torn_whole at bytes (reads s) (leb-true at (length (reads s)) fit))
image_then (cut_to len) s fit i = (reads s, i, inr refl)
image_then synced s fit i = refl
image_then (lost now) s fit i = absurd cc

if_cases : (b : Bool) (P : List Step → Type 0) (s t : List Step) → (b ≡ true → P s) → P t → P (if b then s else t)
if_cases true P s t yes_s no_s = yes_s refl
if_cases false P s t yes_s no_s = no_s

-- the files as they read are images
pub honest : (cs : Calls) → all_fit cs ≡ true → Images cs (now cs)
honest [] fit f = refl
honest (c ∷ cs) fit f =
    let P : List Step → Type 0 = λ s. Image s (reads s) in
    if_cases (nat_eq c.0 f) P (c.1 ∷ of f cs) (of f cs)
    (λ e. image_then c.1 (of f cs) (subst (λ (g : ℕ). fits c.1 (now cs g) ≡ true) (eqb-true c.0 f e) (both-0 (fits c.1 (now cs c.0)) (all_fit cs) fit)) (honest cs (both-1 (fits c.1 (now cs c.0)) (all_fit cs) fit) f))
    (honest cs (both-1 (fits c.1 (now cs c.0)) (all_fit cs) fit) f)
