-- A row is the entries of its map, in their order.
use Rattle.std.proofs.Common.{◌≡◌, ◌∙◌, ℕ, Bool, true, false, cond, List, [], ◌∷◌, ◌++◌, map, refl, sym, ap, subst}
use Rattle.std.specs.Prelude.{not, find, Option, Some, None, option_map, is_some}
use Rattle.std.specs.Map.{lookup}
use Rattle.std.specs.Cmp.Lexicographic.{same_text, nat_list_eq_equiv}
use Rattle.std.proofs.lemmas.Bool.{and_parts}
use Rattle.indexmap.specs.IndexMap.{insert_entry}
use Rattle.tc_base.specs.declared.seq.Pair.{Pair}
use Rattle.tc_base.specs.Texts.{is_text}
use Rattle.tc_base.specs.Lists.{pair}
use Rattle.tc_model.specs.Rows.{Row, column, has, is_distinct, with_column}
use Rattle.td_row.proofs.Columns.{lacks_parts, not_is, given}

swapped : (a b : List ℕ) → is_text a b ≡ is_text b a
swapped a b = nat_list_eq_equiv.symm a b

-- ---- a value in the place of the first of its name

abbrev put_in : Row → Pair → Row
put_in [] p = p ∷ []
put_in (q ∷ row) p = cond (is_text p.key q.key) (pair q.key p.value ∷ row) (q ∷ put_in row p)

none_given : (p : Pair) (row : Row) → has row p.key ≡ false → map (given p) row ≡ row
none_given p [] h = refl
none_given p (q ∷ row) h =
    let parts = lacks_parts q row p.key h in
    ap (λ b. cond b (pair q.key p.value) q ∷ map (given p) row) parts.0 ∙ ap (λ (l : Row). q ∷ l) (none_given p row parts.1)

pulled : (b : Bool) (q : Pair) (x y : Row) → q ∷ cond b x y ≡ cond b (q ∷ x) (q ∷ y)
pulled true q x y = refl
pulled false q x y = refl

put_is : (row : Row) (p : Pair) → is_distinct row ≡ true → put_in row p ≡ with_column row p
put_is [] p d = refl
put_is (q ∷ row) p d =
    let parts = and_parts (not (has row q.key)) (is_distinct row) d in
    let absent : is_text q.key p.key ≡ true → has row p.key ≡ false = λ e. subst (λ (name : List ℕ). has row name ≡ false) (same_text q.key p.key (sym e)) (not_is _ parts.0) in
    ap (λ b. cond b (pair q.key p.value ∷ row) (q ∷ put_in row p)) (swapped p.key q.key) ∙ go (is_text q.key p.key) (λ e. none_given p row (absent e)) (put_is row p parts.1)
  where
    go : (b : Bool) → (b ≡ true → map (given p) row ≡ row) → put_in row p ≡ with_column row p
        → cond b (pair q.key p.value ∷ row) (q ∷ put_in row p) ≡ cond (is_some (option_map (λ (x : Pair). x.value) (cond b (Some q) (find (λ x. is_text x.key p.key) row)))) (cond b (pair q.key p.value) q ∷ map (given p) row) (q ∷ (row ++ p ∷ []))
    go true same rest = ap (λ (l : Row). pair q.key p.value ∷ l) (sym (same refl))
    go false same rest = ap (λ (l : Row). q ∷ l) rest ∙ pulled (has row p.key) q (map (given p) row) (row ++ p ∷ [])

-- ---- entries

module _ {K : Type 0} (text : K → List ℕ) where
  abbrev pub shown : List (K × List ℕ) → Row
  shown es = map (λ e. pair (text e.0) e.1) es

  pub shown_get : (name : List ℕ) (es : List (K × List ℕ)) → lookup (λ k. is_text name (text k)) es ≡ column (shown es) name
  shown_get name [] = refl
  shown_get name (e ∷ es) =
      ap (λ b. cond b (Some e.1) (lookup (λ k. is_text name (text k)) es)) (swapped name (text e.0)) ∙ ap (λ (o : Option (List ℕ)). cond (is_text (text e.0) name) (Some e.1) o) (shown_get name es) ∙ go (is_text (text e.0) name)
    where
      go : (b : Bool) → cond b (Some e.1) (column (shown es) name) ≡ option_map (λ (p : Pair). p.value) (cond b (Some (pair (text e.0) e.1)) (find (λ p. is_text p.key name) (shown es)))
      go true = refl
      go false = refl

  shown_put : (es : List (K × List ℕ)) (k : K) (v : List ℕ) → shown (insert_entry (λ a b. is_text (text a) (text b)) es k v) ≡ put_in (shown es) (pair (text k) v)
  shown_put [] k v = refl
  shown_put (e ∷ es) k v = go (is_text (text k) (text e.0)) (shown_put es k v)
    where
      go : (b : Bool) → shown (insert_entry (λ a c. is_text (text a) (text c)) es k v) ≡ put_in (shown es) (pair (text k) v)
          → shown (cond b ((e.0, v) ∷ es) (e ∷ insert_entry (λ a c. is_text (text a) (text c)) es k v)) ≡ cond b (pair (text e.0) v ∷ shown es) (pair (text e.0) e.1 ∷ put_in (shown es) (pair (text k) v))
      go true rest = refl
      go false rest = ap (λ (l : Row). pair (text e.0) e.1 ∷ l) rest

  pub shown_insert : (es : List (K × List ℕ)) (k : K) (v : List ℕ) → is_distinct (shown es) ≡ true → shown (insert_entry (λ a b. is_text (text a) (text b)) es k v) ≡ with_column (shown es) (pair (text k) v)
  shown_insert es k v d = shown_put es k v ∙ put_is (shown es) (pair (text k) v) d

-- a test for none
pub none_is : (o : Option (List ℕ)) (none : Bool) → is_some o ≡ not none → none ≡ not (is_some o)
none_is None true e = refl
none_is None false e = absurd (let bad : false ≡ true = e in cc)
none_is (Some x) true e = absurd (let bad : true ≡ false = e in cc)
none_is (Some x) false e = refl
