-- The entry that ends at a place of the log, read from its end.
use Rattle.std.proofs.Common.{◌≡◌, ◌∷◌, length-take, ℕ, ◌+◌, ◌-◌, ◌≤◌, List, ◌++◌, length, take, drop, refl, sym, ◌∙◌, ap, subst, arith, length-append, true, false, Bool, ◌&&◌, nat_le, nat_eq}
use Rattle.std.proofs.lemmas.List.{drop-drop, drop_at}
use Rattle.std.proofs.lemmas.Bool.Decides.{nat_tests}
use Rattle.tc_io.specs.Images.{Calls, now, written, IsLost}
use Rattle.ud_log.specs.Entries.{Entry}
use Rattle.ud_log.specs.Log.{number, entry_bytes}
use Rattle.ud_log.specs.Undo.{is_data}
use Rattle.ud_log.proofs.Codec.{entry_is, size_is, length-entry}
use Rattle.tc_undo.specs.Found.{IsEntryAt}
use Rattle.tc_undo.proofs.EntryRead.{part}

and_four : (a b c d : Bool) → (a && b && c && d) ≡ true → (a ≡ true) × ((b ≡ true) × ((c ≡ true) × (d ≡ true)))
and_four true true true true is = (refl, (refl, (refl, refl)))
and_four true true true false is = absurd cc
and_four true true false d is = absurd cc
and_four true false c d is = absurd cc
and_four false b c d is = absurd cc

module _ (cs : Calls) (end : ℕ) (e : Entry) (front rest : List ℕ) (is : IsEntryAt cs end e front rest) where
  abbrev log : List ℕ
  log = now cs 1

  abbrev size : ℕ
  size = length e.bytes

  parts : (is_data e.file ≡ true) × ((nat_le 1 size ≡ true) × ((nat_le size 4096 ≡ true) × (nat_eq e.again size ≡ true)))
  parts = and_four (is_data e.file) (nat_le 1 size) (nat_le size 4096) (nat_eq e.again size) is.formed

  pub few : size ≤ 4096
  few = let p = parts.1.1.0 in grind (arith, nat_tests, p)

  same : e.again ≡ size
  same = let p = parts.1.1.1 in grind (arith, nat_tests, p)

  there : drop (length front) log ≡ entry_bytes e ++ rest
  there = ap (λ (l : List ℕ). drop (length front) l) is.log ∙ drop_at front (entry_bytes e ++ rest) (length front) refl

  pub long : length log ≡ end + length rest
  long = ap length is.log ∙ length-append front (entry_bytes e ++ rest) ∙ omega (arith, length-append (entry_bytes e) rest, length-entry e, is.there)

  pub again_there : (back : List ℕ) → back ≡ take 4 (drop (end - 4) log) → number back ≡ size
  again_there back b =
      let place : end - 4 ≡ length front + (16 + size) = omega (arith, is.there) in
      ap number (b ∙ ap (λ k. take 4 (drop k log)) place ∙ ap (λ (l : List ℕ). take 4 l) (sym (drop-drop (16 + size) (length front) log) ∙ ap (λ (l : List ℕ). drop (16 + size) l) there))
      ∙ ap (λ (x : Entry). x.again) (entry_is e rest is.fits) ∙ same

  pub start_is : (n : ℕ) → n ≡ size → end - 20 - n ≡ length front
  start_is n at = omega (arith, at, is.there)

  module _ (start : ℕ) (at : start ≡ length front) (head : List ℕ) (h : head ≡ take 16 (drop start log)) where
    here : drop start log ≡ entry_bytes e ++ rest
    here = ap (λ k. drop k log) at ∙ there

    pub file_is : number (take 4 head) ≡ e.file
    file_is = ap number (part 0 4 (drop start log) head (omega arith) h) ∙ ap (λ (l : List ℕ). number (take 4 l)) here ∙ ap (λ (x : Entry). x.file) (entry_is e rest is.fits)

    pub place_is : number (take 8 (drop 4 head)) ≡ e.at
    place_is = ap number (part 4 8 (drop start log) head (omega arith) h) ∙ ap (λ (l : List ℕ). number (take 8 (drop 4 l))) here ∙ ap (λ (x : Entry). x.at) (entry_is e rest is.fits)

    pub size_there : number (take 4 (drop 12 head)) ≡ size
    size_there = ap number (part 12 4 (drop start log) head (omega arith) h) ∙ ap (λ (l : List ℕ). number (take 4 (drop 12 l))) here ∙ size_is e rest is.fits

    pub bytes_are : (n : ℕ) → n ≡ size → take n (drop (start + 16) log) ≡ e.bytes
    bytes_are n nn =
        ap (λ (l : List ℕ). take n l) (sym (drop-drop 16 start log) ∙ ap (λ (l : List ℕ). drop 16 l) here) ∙ ap (λ k. take k (drop 16 (entry_bytes e ++ rest))) nn ∙ ap (λ (x : Entry). x.bytes) (entry_is e rest is.fits)

    pub formed_is : (f n again : ℕ) → f ≡ e.file → n ≡ size → again ≡ size → (is_data f && nat_le 1 n && nat_le n 4096 && nat_eq again n) ≡ true
    formed_is f n again pf pn pa = (λ i. is_data (pf i) && nat_le 1 (pn i) && nat_le (pn i) 4096 && nat_eq ((pa ∙ sym same) i) (pn i)) ∙ is.formed

pub first_of_four : (f n : ℕ) → (is_data f && nat_le 1 n && nat_le n 4096 && nat_eq n n) ≡ true → is_data f ≡ true
first_of_four f n is = (and_four (is_data f) (nat_le 1 n) (nat_le n 4096) (nat_eq n n) is).0

pub few_of_four : (f n : ℕ) → (is_data f && nat_le 1 n && nat_le n 4096 && nat_eq n n) ≡ true → n ≤ 4096
few_of_four f n is = let p = (and_four (is_data f) (nat_le 1 n) (nat_le n 4096) (nat_eq n n) is).1.1.0 in grind (arith, nat_tests, p)

-- the same call in other words
module _ (mid old new : Calls) (f g at at' : ℕ) (bytes bytes' : List ℕ) where
  pub as_made : new ≡ (f, written at bytes) ∷ mid → mid ≡ old → f ≡ g → at ≡ at' → bytes ≡ bytes' → new ≡ (g, written at' bytes') ∷ old
  as_made made same pf pa pb = made ∙ (λ i. (pf i, written (pa i) (pb i)) ∷ same i)

  pub as_lost : IsLost mid new f (written at bytes) → mid ≡ old → f ≡ g → at ≡ at' → bytes ≡ bytes' → IsLost old new g (written at' bytes')
  as_lost lost same pf pa pb = subst (λ (cs : Calls). IsLost cs new g (written at' bytes')) same (subst (λ (k : ℕ). IsLost mid new k (written at' bytes')) pf (subst (λ (k : ℕ). IsLost mid new f (written k bytes')) pa (subst (λ (l : List ℕ). IsLost mid new f (written at l)) pb lost)))

pub short_take : (n : ℕ) (l : List ℕ) → length (take n l) ≤ n
short_take n l = omega (arith, length-take n l)
