-- Which requests update, as a test and as a fact.
use Rattle.std.proofs.Common.{◌≡◌, ◌⊎◌, inl, inr, ℕ, zero, suc, ◌<◌, Bool, true, false, List, [], ◌∷◌, length, get_or, refl, sym, arith}
use Rattle.std.proofs.lemmas.Bool.{and_from, and_parts, or_cases, or_left, or_right}
use Rattle.std.specs.Prelude.{◌&&◌, codes, Contains}
use Rattle.std.specs.List.{list_any}
use Rattle.std.specs.Cmp.Lexicographic.{same_text, other_text}
use Rattle.tc_base.specs.declared.request.Request.{Request}
use Rattle.tc_base.specs.declared.request.Request.TheVariants.{Put, PutKeep, PutCat, PutShl, PutNr, Out, AddInt, Vanish, Misc}
use Rattle.ty_wire.specs.Updating.{IsUpdating, IsUpdatingCall, updates, updates_call, updating_names}
use Rattle.tc_base.specs.Texts.{is_text}

text_true : (a b : List ℕ) → a ≡ b → is_text a b ≡ true
text_true a b same = go (is_text a b) refl
  where
    go : (r : Bool) → r ≡ is_text a b → is_text a b ≡ true
    go true e = sym e
    go false e = absurd (other_text a b e same)

-- one of some texts
abbrev IsOneOf : List ℕ → List (List ℕ) → Type 0
IsOneOf name [] = ⊥
IsOneOf name (x ∷ []) = name ≡ x
IsOneOf name (x ∷ y ∷ rest) = (name ≡ x) ⊎ IsOneOf name (y ∷ rest)

one_any : (name : List ℕ) (xs : List (List ℕ)) → IsOneOf name xs → list_any (is_text name) xs ≡ true
one_any name [] h = absurd h
one_any name (x ∷ []) h = or_left (is_text name x) false (text_true name x h)
one_any name (x ∷ y ∷ rest) h = elim h [
  | inl e ↦ or_left (is_text name x) (list_any (is_text name) (y ∷ rest)) (text_true name x e)
  | inr r ↦ or_right (is_text name x) (list_any (is_text name) (y ∷ rest)) (one_any name (y ∷ rest) r)
]

any_one : (name : List ℕ) (xs : List (List ℕ)) → list_any (is_text name) xs ≡ true → IsOneOf name xs
any_one name [] e = absurd cc
any_one name (x ∷ []) e = elim (or_cases (is_text name x) false e) [ inl t ↦ same_text name x (sym t) | inr f ↦ absurd cc ]
any_one name (x ∷ y ∷ rest) e = elim (or_cases (is_text name x) (list_any (is_text name) (y ∷ rest)) e) [
  | inl t ↦ inl (same_text name x (sym t))
  | inr r ↦ inr (any_one name (y ∷ rest) r)
]

contains_any : (xs : List (List ℕ)) (x : List ℕ) (k : ℕ) → k < length xs → get_or xs k x ≡ x → list_any (is_text x) xs ≡ true
contains_any [] x k lt e = absurd (omega arith)
contains_any (y ∷ xs) x zero lt e = or_left (is_text x y) (list_any (is_text x) xs) (text_true x y (sym e))
contains_any (y ∷ xs) x (suc k) lt e = or_right (is_text x y) (list_any (is_text x) xs) (contains_any xs x k (omega (arith, lt)) e)

any_contains : (xs : List (List ℕ)) (x : List ℕ) → list_any (is_text x) xs ≡ true → Contains xs x
any_contains [] x e = absurd cc
any_contains (y ∷ xs) x e = elim (or_cases (is_text x y) (list_any (is_text x) xs) e) [
  | inl t ↦ (zero, omega arith, sym (same_text x y (sym t)))
  | inr r ↦ let h = any_contains xs x r in (suc h.0, omega (arith, h.1), h.2)
]

call_if : (name : List ℕ) (args : List (List ℕ)) → IsUpdatingCall name args → updates_call name args ≡ true
call_if name args h = elim h [
  | inl n ↦ or_left (list_any (is_text name) updating_names) (is_text name (codes "search") && list_any (is_text (codes "out")) args) (one_any name updating_names n)
  | inr s ↦ or_right (list_any (is_text name) updating_names) (is_text name (codes "search") && list_any (is_text (codes "out")) args) (and_from _ _ (text_true name (codes "search") s.0) (contains_any args (codes "out") s.1.0 s.1.1 s.1.2))
]

call_only : (name : List ℕ) (args : List (List ℕ)) → updates_call name args ≡ true → IsUpdatingCall name args
call_only name args e = elim (or_cases (list_any (is_text name) updating_names) (is_text name (codes "search") && list_any (is_text (codes "out")) args) e) [
  | inl n ↦ inl (any_one name updating_names n)
  | inr s ↦ let b = and_parts (is_text name (codes "search")) (list_any (is_text (codes "out")) args) s in inr (same_text name (codes "search") (sym b.0), any_contains args (codes "out") b.1)
]

pub updates_if : (r : Request) → IsUpdating r → updates r ≡ true
updates_if (Put key value) h = refl
updates_if (PutKeep key value) h = refl
updates_if (PutCat key value) h = refl
updates_if (PutShl key value width) h = refl
updates_if (PutNr key value) h = refl
updates_if (Out key) h = refl
updates_if (AddInt key number) h = refl
updates_if Vanish h = refl
updates_if (Misc name options args) h = call_if name args h
updates_if _ h = absurd h

pub updates_only : (r : Request) → updates r ≡ true → IsUpdating r
updates_only (Put key value) e = tt
updates_only (PutKeep key value) e = tt
updates_only (PutCat key value) e = tt
updates_only (PutShl key value width) e = tt
updates_only (PutNr key value) e = tt
updates_only (Out key) e = tt
updates_only (AddInt key number) e = tt
updates_only Vanish e = tt
updates_only (Misc name options args) e = call_only name args e
updates_only _ e = absurd cc

-- what tells the fact is the test
pub updates_is : (b : Bool) (r : Request) → (b ≡ true → IsUpdating r) → (IsUpdating r → b ≡ true) → b ≡ updates r
updates_is true r only if' = sym (updates_if r (only refl))
updates_is false r only if' = go (updates r) refl
  where
    go : (t : Bool) → updates r ≡ t → false ≡ updates r
    go false e = sym e
    go true e = absurd (let f = if' (updates_only r e) in cc)

pub updates_call_is : (b : Bool) (name : List ℕ) (args : List (List ℕ)) → (b ≡ true → IsUpdatingCall name args) → (IsUpdatingCall name args → b ≡ true) → b ≡ updates_call name args
updates_call_is true name args only if' = sym (call_if name args (only refl))
updates_call_is false name args only if' = go (updates_call name args) refl
  where
    go : (t : Bool) → updates_call name args ≡ t → false ≡ updates_call name args
    go false e = sym e
    go true e = absurd (let f = if' (call_only name args e) in cc)
