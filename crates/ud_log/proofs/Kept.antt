-- When what is put back gives the kept file.
use Rattle.std.proofs.Common.{◌≡◌, ◌⊎◌, inl, inr, ⊎_elim, ℕ, ◌+◌, ◌<◌, ◌≤◌, List, [], ◌∷◌, length, get_or, refl, sym, ◌∙◌, ap, arith}
use Rattle.std.proofs.lemmas.List.{ext_get_or}
use Rattle.std.proofs.lemmas.Bool.{cases_lt}
use Rattle.tc_base.specs.Files.{resized}
use Rattle.ud_log.specs.Entries.{Entry, put_back, undone, Inside, Covers, Stands, Holds}
use Rattle.ud_log.proofs.Places.{wrote_before, wrote_inside, wrote_behind, length-resized, resized_at, length-put_back}

-- a place is before a range, in it or behind it
pub data Where (p at n : ℕ) : Type 0 where
  before : p < at → Where p at n
  inside : at ≤ p → p < at + n → Where p at n
  behind : at + n ≤ p → Where p at n

pub place : (p at n : ℕ) → Where p at n
place p at n = ⊎_elim (λ low. before low) (λ high. ⊎_elim (λ h. inside high h) (λ h. behind h) (cases_lt p (at + n))) (cases_lt p at)

-- where two agree at a place, what is put back agrees there
pub put_back_at : (n : ℕ) (es : List Entry) (x y : List ℕ) (p : ℕ) → Inside n es → length x ≡ n → length y ≡ n → get_or x p 0 ≡ get_or y p 0 → get_or (put_back es x) p 0 ≡ get_or (put_back es y) p 0
put_back_at n [] x y p fits lx ly same = same
put_back_at n (e ∷ es) x y p fits lx ly same =
    let here = put_back_at n es x y p fits.1 lx ly same in
    let bx : e.at ≤ length (put_back es x) = omega (arith, fits.0, length-put_back n es x fits.1 lx) in
    let by : e.at ≤ length (put_back es y) = omega (arith, fits.0, length-put_back n es y fits.1 ly) in
    elim (place p e.at (length e.bytes)) [
      | before low ↦ wrote_before e.at e.bytes (put_back es x) p bx low ∙ here ∙ sym (wrote_before e.at e.bytes (put_back es y) p by low)
      | inside low high ↦ wrote_inside e.at e.bytes (put_back es x) p bx low high ∙ sym (wrote_inside e.at e.bytes (put_back es y) p by low high)
      | behind high ↦ wrote_behind e.at e.bytes (put_back es x) p bx high ∙ here ∙ sym (wrote_behind e.at e.bytes (put_back es y) p by high)
    ]

-- at a place that an entry has, it doesn't matter what was there
pub put_back_over : (n : ℕ) (es : List Entry) (x y : List ℕ) (p : ℕ) → Inside n es → length x ≡ n → length y ≡ n → Covers es p → get_or (put_back es x) p 0 ≡ get_or (put_back es y) p 0
put_back_over n [] x y p fits lx ly has = absurd has
put_back_over n (e ∷ es) x y p fits lx ly has =
    let bx : e.at ≤ length (put_back es x) = omega (arith, fits.0, length-put_back n es x fits.1 lx) in
    let by : e.at ≤ length (put_back es y) = omega (arith, fits.0, length-put_back n es y fits.1 ly) in
    let later = λ (h : Covers es p). put_back_over n es x y p fits.1 lx ly h in
    elim (place p e.at (length e.bytes)) [
      | before low ↦ wrote_before e.at e.bytes (put_back es x) p bx low ∙ later (⊎_elim (λ h. absurd (omega (arith, h.0))) (λ h. h) has) ∙ sym (wrote_before e.at e.bytes (put_back es y) p by low)
      | inside low high ↦ wrote_inside e.at e.bytes (put_back es x) p bx low high ∙ sym (wrote_inside e.at e.bytes (put_back es y) p by low high)
      | behind high ↦ wrote_behind e.at e.bytes (put_back es x) p bx high ∙ later (⊎_elim (λ h. absurd (omega (arith, h.1))) (λ h. h) has) ∙ sym (wrote_behind e.at e.bytes (put_back es y) p by high)
    ]

-- a place has an entry, or what was there stays
pub put_back_or : (n : ℕ) (es : List Entry) (x : List ℕ) (p : ℕ) → Inside n es → length x ≡ n → Covers es p ⊎ (get_or (put_back es x) p 0 ≡ get_or x p 0)
put_back_or n [] x p fits lx = inr refl
put_back_or n (e ∷ es) x p fits lx =
    let bx : e.at ≤ length (put_back es x) = omega (arith, fits.0, length-put_back n es x fits.1 lx) in
    elim (place p e.at (length e.bytes)) [
      | before low ↦ ⊎_elim (λ h. inl (inr h)) (λ h. inr (wrote_before e.at e.bytes (put_back es x) p bx low ∙ h)) (put_back_or n es x p fits.1 lx)
      | inside low high ↦ inl (inl (low, high))
      | behind high ↦ ⊎_elim (λ h. inl (inr h)) (λ h. inr (wrote_behind e.at e.bytes (put_back es x) p bx high ∙ h)) (put_back_or n es x p fits.1 lx)
    ]

pub gives_kept : (es : List Entry) (kept image : List ℕ) → Inside (length kept) es → Holds es kept → Stands es kept image → undone (length kept) es image ≡ kept
gives_kept es kept image fits holds stands =
    let n = length kept in
    let lr = length-resized n image in
    let long = length-put_back n es (resized n image) fits lr in
    ext_get_or 0 (undone n es image) kept long (λ p low.
    let low' : p < n = omega (arith, low, long) in
    ⊎_elim (λ has. holds p low' has (resized n image) lr)
    (λ is. ⊎_elim (λ has. holds p low' has (resized n image) lr) (λ stays. stays ∙ resized_at n image p low' ∙ is) (put_back_or n es (resized n image) p fits lr))
    (stands p low'))

-- the converse: a file that one image undoes to
pub holds_of : (es : List Entry) (kept image : List ℕ) → Inside (length kept) es → undone (length kept) es image ≡ kept → Holds es kept
holds_of es kept image fits is p low has x lx =
    put_back_over (length kept) es x (resized (length kept) image) p fits lx (length-resized (length kept) image) has ∙ ap (λ (l : List ℕ). get_or l p 0) is

pub stands_of : (es : List Entry) (kept image : List ℕ) → Inside (length kept) es → undone (length kept) es image ≡ kept → Stands es kept image
stands_of es kept image fits is p low =
    ⊎_elim (λ has. inl has) (λ stays. inr (sym (resized_at (length kept) image p low) ∙ sym stays ∙ ap (λ (l : List ℕ). get_or l p 0) is)) (put_back_or (length kept) es (resized (length kept) image) p fits (length-resized (length kept) image))
