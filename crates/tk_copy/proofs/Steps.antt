-- Calls on a copy, one after the other.
use Rattle.std.proofs.Common.{◌≡◌, ◌∙◌, ℕ, ◌≤◌, ◌<◌, List, [], ◌∷◌, take, drop, length, ◌+◌, ap, arith, refl, sym, subst, ⊎_elim, true}
use Rattle.std.specs.Prelude.{unwrap_or}
use Rattle.std.proofs.lemmas.Bool.{cases_lt}
use Rattle.std.proofs.lemmas.List.{places, same_lists}
use Rattle.tc_base.specs.Files.{Files, wrote}
use Rattle.tc_io.specs.Copies.{label_of}
use Rattle.tc_io.specs.Images.{Step, Calls, Image, of, now, reads, written, cut_to, synced}
use Rattle.tc_io.specs.declared.volume.Volume.{Ghosts}
use Rattle.ud_log.specs.Undo.{data_of, is_data, place_of}
use Rattle.ud_log.proofs.Logs.{place_one}
use Rattle.ud_state.proofs.Transaction.{of-same, of-other}
use Rattle.ud_state.proofs.Valid.{data_at}
use Rattle.tk_copy.specs.Copying.{AreCopied, ChangesCopy, CopiesFile}

module _ {V : Type 0} (v : Ghosts V) where
  pub changes_refl : (a : V) → ChangesCopy v a a
  changes_refl a = record { bound = refl; told = refl; label = refl; files = λ t. refl; others = λ t l other. refl; later = omega arith }

  pub changes_then : (a b c : V) → ChangesCopy v a b → ChangesCopy v b c → ChangesCopy v a c
  changes_then a b c first second = record {
    bound = second.bound ∙ first.bound;
    told = second.told ∙ first.told;
    label = second.label ∙ first.label;
    files = λ t. second.files t ∙ first.files t;
    others = λ t l other. second.others t l (λ is. other (is ∙ same_label)) ∙ first.others t l other;
    later = omega (arith, first.later, second.later);
  }
    where
      same_label : label_of (v.names b) ≡ label_of (v.names a)
      same_label = ap (λ o. unwrap_or o []) first.label

-- ---- bytes of a file of a copy

joins : (whole : List ℕ) (at n : ℕ) → at + n ≤ length whole → wrote at (take n (drop at whole)) (take at whole) ≡ take (at + n) whole
unfolding wrote
joins whole at n fits = same_lists _ _ (grind (arith, places)) (λ i d h. grind (arith, places))

pub grows : (whole old bytes : List ℕ) (at n : ℕ) → old ≡ take at whole → bytes ≡ take n (drop at whole) → at + n ≤ length whole → wrote at bytes old ≡ take (at + n) whole
grows whole old bytes at n eo eb fits = (λ i. wrote at (eb i) (eo i)) ∙ joins whole at n fits

pub now_written : (cs c1 : Calls) (f at : ℕ) (bytes : List ℕ) → c1 ≡ (f, written at bytes) ∷ cs → now c1 f ≡ wrote at bytes (now cs f)
now_written cs c1 f at bytes is = ap (λ (c : Calls). now c f) is ∙ ap (λ (s : List Step). reads s) (of-same f (written at bytes) cs)

pub now_cut : (cs c1 : Calls) (f : ℕ) → c1 ≡ (f, cut_to 0) ∷ cs → now c1 f ≡ []
now_cut cs c1 f is = ap (λ (c : Calls). now c f) is ∙ ap (λ (s : List Step). reads s) (of-same f (cut_to 0) cs)

pub others_made : (cs c1 : Calls) (f : ℕ) (s : Step) → c1 ≡ (f, s) ∷ cs → (g : ℕ) → (f ≡ g → ⊥) → of g c1 ≡ of g cs
others_made cs c1 f s is g other = ap (λ (c : Calls). of g c) is ∙ of-other f g s cs other

-- a file was cut to nothing, written, and brought to the disk
pub file_copied : (cs c1 c2 c3 : Calls) (f : ℕ) (bytes : List ℕ) → c1 ≡ (f, cut_to 0) ∷ cs → ((g : ℕ) → (f ≡ g → ⊥) → of g c2 ≡ of g c1) → now c2 f ≡ bytes → c3 ≡ (f, synced) ∷ c2 → CopiesFile cs c3 f bytes
file_copied cs c1 c2 c3 f bytes cut others all is = record {
  only = λ i im. subst (λ (s : List Step). Image s i) (of-same f synced c2) (subst (λ (c : Calls). Image (of f c) i) is im) ∙ all;
  others = λ g other. others_made c2 c3 f synced is g other ∙ others g other ∙ others_made cs c1 f (cut_to 0) cut g other;
}

-- ---- one file after the other

pub none_copied : (kept : Files) (cs : Calls) → AreCopied kept cs 0
none_copied kept cs = record { each = λ f isd low. absurd (omega (arith, low)) }

pub more_copied : (files : Files) (cs c1 : Calls) (i f : ℕ) → i < 18 → place_of f ≡ i → is_data f ≡ true → AreCopied (data_of files) cs i → CopiesFile cs c1 f (files f) → AreCopied (data_of files) c1 (i + 1)
more_copied files cs c1 i f low at isf there file = record { each = each }
  where
    each : (g : ℕ) → is_data g ≡ true → place_of g < i + 1 → (j : List ℕ) → Image (of g c1) j → j ≡ data_of files g
    each g isg within j im = ⊎_elim
        (λ before. there.each g isg before j (subst (λ (s : List Step). Image s j) (file.others g (λ same. absurd (omega (arith, before, at, ap place_of same)))) im))
        (λ here.
        let same : f ≡ g = place_one f g isf isg (omega (arith, at, here, within)) in
        file.only j (subst (λ h. Image (of h c1) j) (sym same) im) ∙ ap files same ∙ sym (data_at files g isg))
        (cases_lt (place_of g) i)

pub all_copied : (kept : Files) (cs : Calls) (i : ℕ) → i ≡ 18 → AreCopied kept cs i → AreCopied kept cs 18
all_copied kept cs i is there = subst (λ k. AreCopied kept cs k) is there
