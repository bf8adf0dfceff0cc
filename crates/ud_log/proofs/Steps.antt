-- Each kind of step keeps that the file is undone to what was kept.
use Rattle.std.proofs.Common.{◌≡◌, ◌⊎◌, inl, inr, ⊎_elim, ℕ, zero, ◌+◌, ◌-◌, ◌<◌, ◌≤◌, List, [], ◌∷◌, ◌++◌, length, take, drop, replicate, get_or, refl, sym, ◌∙◌, ap, arith, length-take, length-drop}
use Rattle.std.proofs.lemmas.List.{get_or-take, get_or-drop, get_or_past, get_or-replicate, length-replicate}
use Rattle.std.proofs.lemmas.Bool.{cases_lt}
use Rattle.tc_base.specs.Files.{wrote}
use Rattle.ud_log.specs.Entries.{Entry, put_back, Inside, Covers, Stands, Holds}
use Rattle.tc_io.specs.Images.{Torn}
use Rattle.ud_log.proofs.Places.{length-wrote, wrote_inside}
use Rattle.ud_log.proofs.Kept.{before, inside, behind, place, put_back_or}

pub torn_length : (at : ℕ) (bytes i j : List ℕ) → at ≤ length i → Torn at bytes i j → length j - length i ≤ length bytes - (length i - at)
torn_length at bytes i j le torn =
    let e : length (drop (length i) j) ≡ length (take (length j - length i) (drop (length i - at) bytes)) = ap length (torn.grown le) in
    omega (arith, simp (length-drop, length-take) at e)

-- outside its range a write that is stopped changes nothing
pub torn_before : (at : ℕ) (bytes i j : List ℕ) (p : ℕ) → Torn at bytes i j → p < at → get_or j p 0 ≡ get_or i p 0
torn_before at bytes i j p torn low = sym (get_or-take at j p 0 low) ∙ ap (λ (l : List ℕ). get_or l p 0) torn.before ∙ get_or-take at i p 0 low

pub torn_behind : (at : ℕ) (bytes i j : List ℕ) (p : ℕ) → Torn at bytes i j → at + length bytes ≤ p → get_or j p 0 ≡ get_or i p 0
torn_behind at bytes i j p torn high =
    ⊎_elim
    (λ low.
    let from = at + length bytes in
    let there : get_or (drop from (take (length i) j)) (p - from) 0 ≡ get_or (drop from i) (p - from) 0 = ap (λ (l : List ℕ). get_or l (p - from) 0) torn.behind in
    let back : from + (p - from) ≡ p = omega arith in
    let left : get_or (drop from (take (length i) j)) (p - from) 0 ≡ get_or j p 0 =
    get_or-drop from (take (length i) j) (p - from) 0 ∙ ap (λ k. get_or (take (length i) j) k 0) back ∙ get_or-take (length i) j p 0 low in
    let right : get_or (drop from i) (p - from) 0 ≡ get_or i p 0 = get_or-drop from i (p - from) 0 ∙ ap (λ k. get_or i k 0) back in
    sym left ∙ there ∙ right)
    (λ past.
    ⊎_elim (λ far. ap (λ (l : List ℕ). get_or l p 0) (torn.beyond far))
    (λ le.
    let short : length j ≤ p = omega (arith, torn_length at bytes i j le torn, torn.no_shorter) in
    get_or_past j p 0 short ∙ sym (get_or_past i p 0 past))
    (cases_lt (length i) at))
    (cases_lt p (length i))

-- what a write does to places that an entry has is undone
pub torn_stands : (es : List Entry) (kept i j : List ℕ) (at : ℕ) (bytes : List ℕ) → Stands es kept i → ((p : ℕ) → at ≤ p → p < at + length bytes → p < length kept → Covers es p) → Torn at bytes i j → Stands es kept j
torn_stands es kept i j at bytes stands logged torn p low = elim (place p at (length bytes)) [
  | before b ↦ ⊎_elim (λ has. inl has) (λ is. inr (torn_before at bytes i j p torn b ∙ is)) (stands p low)
  | inside b h ↦ inl (logged p b h low)
  | behind h ↦ ⊎_elim (λ has. inl has) (λ is. inr (torn_behind at bytes i j p torn h ∙ is)) (stands p low)
]

abbrev zeros : ℕ → List ℕ
zeros n = replicate n 0

zeros_at : (n k : ℕ) → get_or (zeros n) k 0 ≡ zero
zeros_at n k = ⊎_elim (λ low. get_or-replicate n k 0 0 low) (λ high. get_or_past (replicate n 0) k 0 (omega (arith, length-replicate {A = ℕ} n 0))) (cases_lt k n)

-- filling with zeros changes nothing where zero counts as absent
pub zeros_stand : (es : List Entry) (kept i j : List ℕ) (at n : ℕ) → Stands es kept i → length i ≤ at → Torn at (replicate n 0) i j → Stands es kept j
zeros_stand es kept i j at n stands short torn p low =
    ⊎_elim (λ has. inl has) (λ is. inr (same ∙ is)) (stands p low)
  where
    tail : length i ≡ at → drop (length i) j ≡ take (length j - length i) (replicate n 0)
    tail is = let none : length i - at ≡ zero = omega (arith, is) in torn.grown (omega (arith, is)) ∙ ap (λ k. take (length j - length i) (drop k (replicate n 0))) none

    at_tail : (l : ℕ) → drop (length i) j ≡ take l (replicate n 0) → length i ≤ p → get_or j p 0 ≡ 0
    at_tail l e le =
        let back : length i + (p - length i) ≡ p = omega arith in
        let there : get_or j p 0 ≡ get_or (take l (replicate n 0)) (p - length i) 0 =
        ap (λ k. get_or j k 0) (sym back) ∙ sym (get_or-drop (length i) j (p - length i) 0) ∙ ap (λ (x : List ℕ). get_or x (p - length i) 0) e in
        ◌∙◌ {b = get_or (take l (replicate n 0)) (p - length i) 0} there (⊎_elim (λ low. get_or-take l (replicate n 0) (p - length i) 0 low ∙ zeros_at n (p - length i)) (λ high. get_or_past (take l (replicate n 0)) (p - length i) 0 (omega (arith, length-take {A = ℕ} l (zeros n)))) (cases_lt (p - length i) l))

    same : get_or j p 0 ≡ get_or i p 0
    same =
        ⊎_elim (λ far. ap (λ (l : List ℕ). get_or l p 0) (torn.beyond far))
        (λ le.
        ⊎_elim (λ low. torn_before at (replicate n 0) i j p torn (omega (arith, le, low)))
        (λ past. at_tail (length j - length i) (tail (omega (arith, le, short))) past ∙ sym (get_or_past i p 0 past))
        (cases_lt p (length i)))
        (cases_lt (length i) at)

-- a cut above the kept length, or of places that entries have
pub cut_stands : (es : List Entry) (kept i : List ℕ) (len : ℕ) → Stands es kept i → ((p : ℕ) → len ≤ p → p < length kept → Covers es p) → Stands es kept (take len i)
cut_stands es kept i len stands logged p low =
    ⊎_elim (λ b. ⊎_elim (λ has. inl has) (λ is. inr (get_or-take len i p 0 b ∙ is)) (stands p low)) (λ h. inl (logged p h low)) (cases_lt p len)

pub covers_more : (es : List Entry) (e : Entry) (p : ℕ) → Covers es p → Covers (es ++ e ∷ []) p
covers_more [] e p has = absurd has
covers_more (f ∷ es) e p has = ⊎_elim (λ h. inl h) (λ h. inr (covers_more es e p h)) has

pub covers_last : (es : List Entry) (e : Entry) (p : ℕ) → e.at ≤ p → p < e.at + length e.bytes → Covers (es ++ e ∷ []) p
covers_last [] e p low high = inl (low, high)
covers_last (f ∷ es) e p low high = inr (covers_last es e p low high)

pub stands_more : (es : List Entry) (e : Entry) (kept i : List ℕ) → Stands es kept i → Stands (es ++ e ∷ []) kept i
stands_more es e kept i stands p low = ⊎_elim (λ has. inl (covers_more es e p has)) (λ is. inr is) (stands p low)

pub inside_more : (n : ℕ) (es : List Entry) (e : Entry) → Inside n es → e.at + length e.bytes ≤ n → Inside n (es ++ e ∷ [])
inside_more n [] e fits last = (last, tt)
inside_more n (f ∷ es) e fits last = (fits.0, inside_more n es e fits.1 last)

pub put_back_more : (es : List Entry) (e : Entry) (x : List ℕ) → put_back (es ++ e ∷ []) x ≡ put_back es (wrote e.at e.bytes x)
put_back_more [] e x = refl
put_back_more (f ∷ es) e x = ap (λ (l : List ℕ). wrote f.at f.bytes l) (put_back_more es e x)

covers_parts : (es : List Entry) (e : Entry) (p : ℕ) → Covers (es ++ e ∷ []) p → Covers es p ⊎ ((e.at ≤ p) × (p < e.at + length e.bytes))
covers_parts [] e p has = ⊎_elim (λ h. inr h) (λ h. absurd h) has
covers_parts (f ∷ es) e p has = ⊎_elim (λ h. inl (inl h)) (λ h. ⊎_elim (λ a. inl (inr a)) (λ b. inr b) (covers_parts es e p h)) has

-- an entry with the bytes that the file has now
pub holds_more : (es : List Entry) (e : Entry) (kept now : List ℕ) → Inside (length kept) es → Holds es kept → Stands es kept now → e.at + length e.bytes ≤ length kept → e.bytes ≡ take (length e.bytes) (drop e.at now)
    → Holds (es ++ e ∷ []) kept
holds_more es e kept now fits holds stands last is p low has x lx =
    let y = wrote e.at e.bytes x in
    let ly : length y ≡ length kept = length-wrote e.at e.bytes x (omega (arith, last, lx)) ∙ lx in
    let more : get_or (put_back (es ++ e ∷ []) x) p 0 ≡ get_or (put_back es y) p 0 = ap (λ (l : List ℕ). get_or l p 0) (put_back_more es e x) in
    more
    ∙ ⊎_elim (λ old. holds p low old y ly)
    (λ here.
    ⊎_elim (λ old. holds p low old y ly)
    (λ intact.
    ⊎_elim (λ old. holds p low old y ly)
    (λ through.
    let back : e.at + (p - e.at) ≡ p = omega (arith, here.0) in
    let byte : get_or e.bytes (p - e.at) 0 ≡ get_or now p 0 =
    ap (λ (l : List ℕ). get_or l (p - e.at) 0) is
    ∙ get_or-take (length e.bytes) (drop e.at now) (p - e.at) 0 (omega (arith, here.0, here.1))
    ∙ get_or-drop e.at now (p - e.at) 0
    ∙ ap (λ k. get_or now k 0) back in
    through ∙ wrote_inside e.at e.bytes x p (omega (arith, last, lx)) here.0 here.1 ∙ byte ∙ intact)
    (put_back_or (length kept) es y p fits ly))
    (stands p low))
    (covers_parts es e p has)
