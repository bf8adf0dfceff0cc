-- What a choice picks is an image.
use Rattle.std.proofs.Common.{◌≡◌, ◌⊎◌, ⊎_elim, inl, inr, ℕ, ◌+◌, ◌-◌, ◌<◌, ◌≤◌, min, Bool, true, false, List, [], ◌∷◌, ◌++◌, length, take, drop, length-take, refl, sym, subst, ◌∙◌, arith}
use Rattle.std.specs.Prelude.{if◌then◌else◌}
use Rattle.std.proofs.lemmas.List.{places, same_lists}
use Rattle.std.proofs.lemmas.Bool.{cases_lt}
use Rattle.tc_base.specs.Bytes.{IsBytes}
use Rattle.tc_fakes.specs.Whole.{take_bytes, drop_bytes, more_bytes, same_bytes}
use Rattle.tc_io.specs.Images.{Step, loaded, written, cut_to, synced, lost, reads, Image, Torn, Calls, of, now, Images}
use Rattle.tc_fakes.specs.Chosen.{torn, torn_over, left, chosen}
use Rattle.tc_fakes.specs.declared.choice.Choice.{Choice}
use Rattle.tc_fakes.proofs.TornWrites.{torn_inside, torn_beyond, length-torn_over}

torn_image_inside : (at k : ℕ) (bytes i over : List ℕ) → at ≤ length i → (IsBytes bytes → IsBytes over) → length over ≡ min (length i - at) (length bytes) → Torn at bytes i (take at i ++ over ++ drop (at + length bytes) i ++ take k (drop (length i - at) bytes))
torn_image_inside at k bytes i over fits whole long = record {
  no_shorter = grind (arith, places);
  before = same_lists _ _ (grind (arith, places)) (λ n d h. grind (arith, places));
  behind = same_lists _ _ (grind (arith, places)) (λ n d h. grind (arith, places));
  grown = λ _. same_lists _ _ (grind (arith, places)) (λ n d h. grind (arith, places));
  beyond = λ far. absurd (omega arith);
  are_bytes = λ f g. more_bytes _ _ (more_bytes _ _ (more_bytes _ over (take_bytes at i f) (whole g)) (drop_bytes (at + length bytes) i f)) (take_bytes k _ (drop_bytes (length i - at) bytes g));
}

torn_image_beyond : (at : ℕ) (bytes i : List ℕ) → length i < at → Torn at bytes i i
torn_image_beyond at bytes i far = record {
  no_shorter = omega arith;
  before = refl;
  behind = same_lists _ _ (grind (arith, places)) (λ n d h. grind (arith, places));
  grown = λ inside. absurd (omega arith);
  beyond = λ _. refl;
  are_bytes = λ f g. f;
}

torn_over_bytes : (c : Choice) (bytes : List ℕ) → c.fill < 256 → IsBytes bytes → IsBytes (torn_over c bytes)
torn_over_bytes c bytes fill f = more_bytes (take c.keep bytes) _ (take_bytes c.keep bytes f) (same_bytes (length bytes - c.keep) c.fill fill)

pub torn_is_torn : (c : Choice) → c.fill < 256 → (at : ℕ) (bytes i : List ℕ) → Torn at bytes i (torn c at bytes i)
torn_is_torn c fill at bytes i = ⊎_elim
    (λ far. subst (λ (n : List ℕ). Torn at bytes i n) (sym (torn_beyond c at bytes i far)) (torn_image_beyond at bytes i far))
    (λ fits. subst (λ (n : List ℕ). Torn at bytes i n) (sym (torn_inside c at bytes i fits))
    (torn_image_inside at c.keep bytes i (torn_over c (take (length i - at) bytes)) fits (λ g. torn_over_bytes c _ fill (take_bytes (length i - at) bytes g)) (length-torn_over c (take (length i - at) bytes) ∙ length-take (length i - at) bytes)))
    (cases_lt (length i) at)

cut_or_not : (b : Bool) (i : List ℕ) (len : ℕ) → ((if b then take len i else i) ≡ i) ⊎ ((if b then take len i else i) ≡ take len i)
cut_or_not true i len = inr refl
cut_or_not false i len = inl refl

left_is_image : (c : Choice) → c.fill < 256 → (step : Step) (s : List Step) → Image s (chosen c s) → Image (step ∷ s) (left c step (reads s) (chosen c s))
left_is_image c fill (loaded bytes) s i = refl
left_is_image c fill (written at bytes) s i = (chosen c s, i, torn_is_torn c fill at bytes (chosen c s))
left_is_image c fill (cut_to len) s i = (chosen c s, i, cut_or_not c.cut (chosen c s) len)
left_is_image c fill synced s i = refl
left_is_image c fill (lost now) s i = i

pub chosen_is_image : (c : Choice) → c.fill < 256 → (s : List Step) → Image s (chosen c s)
chosen_is_image c fill [] = refl
chosen_is_image c fill (step ∷ s) = left_is_image c fill step s (chosen_is_image c fill s)

pub picked_are_images : (c : Choice) → c.fill < 256 → (cs ds : Calls) → ((f : ℕ) → now ds f ≡ chosen c (of f cs)) → Images cs (now ds)
picked_are_images c fill cs ds are f = subst (λ (i : List ℕ). Image (of f cs) i) (sym (are f)) (chosen_is_image c fill (of f cs))
