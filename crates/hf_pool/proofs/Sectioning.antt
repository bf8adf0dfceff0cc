-- The pool section, pair by pair.
use Rattle.std.proofs.Common.{◌≡◌, ◌∙◌, ℕ, ◌+◌, ◌-◌, ◌/◌, ◌<◌, ◌≤◌, true, false, leb, List, [], ◌∷◌, ◌++◌, length, refl, sym, ap, arith, append_assoc, length-append}
use Rattle.std.proofs.lemmas.Bool.{le-leb, lt-leb}
use Rattle.std.proofs.lemmas.List.{append-nil}
use Rattle.tc_base.specs.Vnum.{vnum}
use Rattle.hf_pool.specs.Sections.{pair, pairs}

pub pairs-nil : (unit before room : ℕ) → pairs unit before room [] ≡ []
unfolding pairs
pairs-nil unit before room = refl

pub pairs-more : (unit before room : ℕ) (b : ℕ × ℕ) (rest : List (ℕ × ℕ)) → length (pair unit before b) + 2 ≤ room → pairs unit before room (b ∷ rest) ≡ pair unit before b ++ pairs unit (b.0 / unit) (room - length (pair unit before b)) rest
unfolding pairs
pairs-more unit before room b rest h = let e : leb (length (pair unit before b) + 2) room ≡ true = le-leb _ _ h in rw e refl

pub pairs-full : (unit before room : ℕ) (b : ℕ × ℕ) (rest : List (ℕ × ℕ)) → room < length (pair unit before b) + 2 → pairs unit before room (b ∷ rest) ≡ []
unfolding pairs
pairs-full unit before room b rest h = let e : leb (length (pair unit before b) + 2) room ≡ false = lt-leb _ _ h in rw e refl

-- so much of the pairs is written, and the rest fits the room
pub record Pairing (unit before room len : ℕ) (rest all : List (ℕ × ℕ)) (old new : List ℕ) : Type 0 where
  pub done : List ℕ
  pub written : new ≡ old ++ done
  pub left : done ++ pairs unit before room rest ≡ pairs unit 0 len all
  pub sum : room + length done ≡ len

pub pairing_none : (unit len : ℕ) (all : List (ℕ × ℕ)) (old : List ℕ) → Pairing unit 0 len len all all old old
pairing_none unit len all old = record { done = []; written = sym (append-nil old); left = refl; sum = omega arith }

pub pairing_more : (unit before room len : ℕ) (b : ℕ × ℕ) (rest all : List (ℕ × ℕ)) (old new : List ℕ) (n : ℕ) (mid next : List ℕ) → n ≡ length (pair unit before b) → n + 2 ≤ room → mid ≡ new ++ vnum (b.0 / unit - before) → next ≡ mid ++ vnum (b.1 / unit) → Pairing unit before room len (b ∷ rest) all old new → Pairing unit (b.0 / unit) (room - n) len rest all old next
pairing_more unit before room len b rest all old new n mid next long fits e1 e2 h =
    let p : List ℕ = pair unit before b in
    let more = pairs-more unit before room b rest (omega (arith, long, fits)) in
    let less : room - length p ≡ room - n = omega (arith, long) in
    record {
      done = h.done ++ p;
      written = e2 ∙ ap (λ (l : List ℕ). l ++ vnum (b.1 / unit)) (e1 ∙ ap (λ (l : List ℕ). l ++ vnum (b.0 / unit - before)) h.written) ∙ simp append_assoc;
      left = append_assoc h.done p (pairs unit (b.0 / unit) (room - n) rest) ∙ ap (λ (l : List ℕ). h.done ++ l) (sym (more ∙ ap (λ (r : ℕ). p ++ pairs unit (b.0 / unit) r rest) less)) ∙ h.left;
      sum = omega (arith, h.sum, length-append h.done p, long, fits);
    }

pub pairing_full : (unit before room len : ℕ) (b : ℕ × ℕ) (rest all : List (ℕ × ℕ)) (old new : List ℕ) (n : ℕ) → n ≡ length (pair unit before b) → room < n + 2 → Pairing unit before room len (b ∷ rest) all old new → (new ≡ old ++ pairs unit 0 len all) × (room + length (pairs unit 0 len all) ≡ len)
pairing_full unit before room len b rest all old new n long full h =
    let e : h.done ≡ pairs unit 0 len all = sym (append-nil h.done) ∙ ap (λ (l : List ℕ). h.done ++ l) (sym (pairs-full unit before room b rest (omega (arith, long, full)))) ∙ h.left in
    (h.written ∙ ap (λ (l : List ℕ). old ++ l) e, omega (arith, h.sum, ap length e))

pub pairing_end : (unit before room len : ℕ) (all : List (ℕ × ℕ)) (old new : List ℕ) → Pairing unit before room len [] all old new → (new ≡ old ++ pairs unit 0 len all) × (room + length (pairs unit 0 len all) ≡ len)
pairing_end unit before room len all old new h =
    let e : h.done ≡ pairs unit 0 len all = sym (append-nil h.done) ∙ ap (λ (l : List ℕ). h.done ++ l) (sym (pairs-nil unit before room)) ∙ h.left in
    (h.written ∙ ap (λ (l : List ℕ). old ++ l) e, omega (arith, h.sum, ap length e))
