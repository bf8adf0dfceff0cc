-- What is left of a page whose items or entries are read one behind the other.
use Rattle.std.proofs.Common.{◌≡◌, ◌↔◌, ℕ, suc, ◌+◌, ◌-◌, ◌<◌, List, [], ◌∷◌, ◌++◌, Bool, Option, Some, None, true, false, length, map, refl, sym, ap, ◌∙◌, subst, arith, append_assoc, length-append}
use Rattle.std.specs.Prelude.{⊤}
use Rattle.std.specs.List.{AllByRecursion, flat_map}
use Rattle.std.proofs.lemmas.List.{append-nil}
use Rattle.bt_page.specs.declared.page.Item.{Item}
use Rattle.bt_page.specs.declared.page.NodeEntry.{NodeEntry}
use Rattle.bt_rows.specs.declared.page.Slot.{Slot}
use Rattle.bt_rows.specs.Orders.{Before}
use Rattle.bt_rows.specs.Rows.{entry_slot}
use Rattle.bt_rows.specs.Rules.{Ascends, AtLeast, Under, item_pairs}
use Rattle.bt_slots.specs.Reads.{entries_in, entry_in, item_in, items_in, values_in}
use Rattle.bt_slots.proofs.BareReads.{values_long}
use Rattle.bt_check.specs.Leaves.{key_behind, last_key, less}
use Rattle.bt_check.proofs.Orders.{IsTransitive}
use Rattle.bt_check.proofs.Seen.{less_less, values_count}

-- ---- items

pub rest_all : (n : ℕ) (bytes : List ℕ) (items : List Item) → items_in n bytes ≡ items → items_in (n - 0) bytes ≡ items
rest_all n bytes items e = let same : n - 0 ≡ n = omega arith in ap (λ (k : ℕ). items_in k bytes) same ∙ e

pub rest_more : (n i : ℕ) (bytes rest : List ℕ) (x : Item) → i < n → (x, rest) ≡ item_in bytes → items_in (n - i) bytes ≡ x ∷ items_in (n - (i + 1)) rest
unfolding items_in
rest_more n i bytes rest x lt is =
    let e : n - i ≡ suc (n - (i + 1)) = omega (arith, lt) in
    ap (λ (k : ℕ). items_in k bytes) e ∙ ap (λ (z : Item × List ℕ). z.0 ∷ items_in (n - (i + 1)) z.1) (sym is)

pub rest_none : (n i : ℕ) (bytes : List ℕ) → n - i ≡ 0 → items_in (n - i) bytes ≡ []
unfolding items_in
rest_none n i bytes e = ap (λ (k : ℕ). items_in k bytes) e

-- the first item, and the others
pub first_more : (n : ℕ) (bytes rest : List ℕ) (items : List Item) (x : Item) → items_in n bytes ≡ items → 0 < n → (x, rest) ≡ item_in bytes → items ≡ x ∷ items_in (n - 1) rest
first_more n bytes rest items x read some is = sym (rest_all n bytes items read) ∙ rest_more n 0 bytes rest x some is

-- ---- ascending keys

-- keys ascend behind one
abbrev pub AscendsFrom : Before → List ℕ → List Item → Type 0
AscendsFrom before last xs = AllByRecursion (λ y. before last y.key ≡ true) xs × Ascends before xs

module _ (before : Before) where
  pub ascends_first : (n : ℕ) (bytes rest : List ℕ) (items : List Item) (x : Item) → items_in n bytes ≡ items → 0 < n → (x, rest) ≡ item_in bytes → Ascends before items ↔ AscendsFrom before x.key (items_in (n - 1) rest)
  ascends_first n bytes rest items x read some is =
      let e : items ≡ x ∷ items_in (n - 1) rest = first_more n bytes rest items x read some is in
      (subst (Ascends before) e, subst (Ascends before) (sym e))

  pub ascends_more : IsTransitive before → (items xs ys : List Item) (last : List ℕ) (x : Item) → Ascends before items ↔ AscendsFrom before last xs → xs ≡ x ∷ ys → before last x.key ≡ true → Ascends before items ↔ AscendsFrom before x.key ys
  ascends_more trans items xs ys last x h e t = (λ a. (subst (AscendsFrom before last) e (h.0 a)).1, λ b. h.1 (subst (AscendsFrom before last) (sym e) ((t, further ys b.0), b)))
    where
      further : (zs : List Item) → AllByRecursion (λ y. before x.key y.key ≡ true) zs → AllByRecursion (λ y. before last y.key ≡ true) zs
      further [] a = tt
      further (z ∷ zs) a = (trans last x.key z.key t a.0, further zs a.1)

  pub ascends_fails : (items xs ys : List Item) (last : List ℕ) (x : Item) → Ascends before items ↔ AscendsFrom before last xs → xs ≡ x ∷ ys → before last x.key ≡ false → Ascends before items → ⊥
  ascends_fails items xs ys last x h e f a = let bad = sym f ∙ (subst (AscendsFrom before last) e (h.0 a)).0.0 in cc

  pub ascends_read : (items xs : List Item) (last : List ℕ) → Ascends before items ↔ AscendsFrom before last xs → xs ≡ [] → Ascends before items
  ascends_read items xs last h e = h.1 (subst (AscendsFrom before last) (sym e) (tt, tt))

  pub ascends_none : (items : List Item) → length items ≡ 0 → Ascends before items
  ascends_none [] e = tt
  ascends_none (x ∷ xs) e = absurd (omega (arith, e))

-- ---- bounds of keys that ascend

pub all_free : (xs : List Item) → AllByRecursion (λ x. ⊤) xs
all_free [] = tt
all_free (x ∷ xs) = (tt, all_free xs)

pub no_items : (items : List Item) → last_key items ≡ None → items ≡ []
no_items [] e = refl
no_items (x ∷ xs) e = absurd cc

pub last_none : (items : List Item) → length items ≡ 0 → None ≡ last_key items
last_none [] e = refl
last_none (x ∷ xs) e = absurd (omega (arith, e))

pub above_none : (P : Item → Type 0) (items : List Item) → length items ≡ 0 → AllByRecursion P items
above_none P [] e = tt
above_none P (x ∷ xs) e = absurd (omega (arith, e))

module _ (before : Before) (trans : IsTransitive before) (b : List ℕ) where
  -- the first key isn't below a bound, nor are those behind it
  pub first_above : (items ys : List Item) (x : Item) → Ascends before items → items ≡ x ∷ ys → before x.key b ≡ false → AllByRecursion (λ y. AtLeast before (Some b) y.key) items
  first_above items ys x asc e f = subst (AllByRecursion (λ y. AtLeast before (Some b) y.key)) (sym e) (f, further ys (subst (Ascends before) e asc).0)
    where
      one : (y : Item) (t : Bool) → before y.key b ≡ t → before x.key y.key ≡ true → before y.key b ≡ false
      one y true t lt = absurd (let bad = sym f ∙ trans x.key y.key b lt t in cc)
      one y false t lt = t

      further : (zs : List Item) → AllByRecursion (λ y. before x.key y.key ≡ true) zs → AllByRecursion (λ y. AtLeast before (Some b) y.key) zs
      further [] a = tt
      further (z ∷ zs) a = (one z (before z.key b) refl a.0, further zs a.1)

  -- the last key is below a bound, and so are those in front of it
  under_all : (xs : List Item) (key : List ℕ) → AscendsFrom before key xs → before (key_behind key xs) b ≡ true → (before key b ≡ true) × AllByRecursion (λ y. before y.key b ≡ true) xs
  under_all [] key asc t = (t, tt)
  under_all (x ∷ xs) key asc t = let r = under_all xs x.key asc.1 t in (trans key x.key b asc.0.0 r.0, r)

  under_last : (xs : List Item) (key : List ℕ) → before key b ≡ true → AllByRecursion (λ y. before y.key b ≡ true) xs → before (key_behind key xs) b ≡ true
  under_last [] key t a = t
  under_last (x ∷ xs) key t a = under_last xs x.key a.0 a.1

  pub last_under : (items : List Item) (key : List ℕ) → Ascends before items → Some key ≡ last_key items → before key b ≡ true ↔ AllByRecursion (λ y. Under before y.key (Some b)) items
  last_under [] key asc e = absurd cc
  last_under (x ∷ xs) key asc e =
      let is : key ≡ key_behind x.key xs = cc in
      (λ t. under_all xs x.key asc (ap (λ (k : List ℕ). before k b) (sym is) ∙ t), λ a. ap (λ (k : List ℕ). before k b) is ∙ under_last xs x.key a.0 a.1)

-- ---- counted values

-- the values of one item more
pub count_more : (all o one both : Option ℕ) (xs ys : List Item) (key first further : List ℕ) (more : ℕ) → all ≡ less o (length (flat_map item_pairs xs)) → xs ≡ record { key = key; values = first ∷ (values_in more further).0 } ∷ ys → one ≡ less o 1 → both ≡ less one more
    → all ≡ less both (length (flat_map item_pairs ys))
count_more all o one both xs ys key first further more h e e1 e2 =
    let x : Item = record { key = key; values = first ∷ (values_in more further).0 } in
    let rest : ℕ = length (flat_map item_pairs ys) in
    let many : length (item_pairs x) ≡ 1 + more = values_count key (first ∷ (values_in more further).0) ∙ omega (arith, values_long more further) in
    let long : length (flat_map item_pairs xs) ≡ (1 + more) + rest = ap (λ (zs : List Item). length (flat_map item_pairs zs)) e ∙ length-append (item_pairs x) (flat_map item_pairs ys) ∙ ap (λ (k : ℕ). k + rest) many in
    let taken : both ≡ less o (1 + more) = e2 ∙ ap (λ (p : Option ℕ). less p more) e1 ∙ less_less o 1 more in
    h ∙ ap (less o) long ∙ sym (less_less o (1 + more) rest) ∙ ap (λ (p : Option ℕ). less p rest) (sym taken)

-- ---- entries

pub entries_start : (n : ℕ) (bytes : List ℕ) (entries : List NodeEntry) (old next : List Slot) (heir : Slot) → entries_in n bytes ≡ entries → next ≡ old ++ heir ∷ [] → next ++ map entry_slot (entries_in (n - 0) bytes) ≡ old ++ heir ∷ map entry_slot entries
entries_start n bytes entries old next heir read is =
    let same : n - 0 ≡ n = omega arith in
    ap (λ (l : List Slot). l ++ map entry_slot (entries_in (n - 0) bytes)) is ∙ append_assoc old (heir ∷ []) (map entry_slot (entries_in (n - 0) bytes)) ∙ ap (λ (es : List NodeEntry). old ++ heir ∷ map entry_slot es) (ap (λ (k : ℕ). entries_in k bytes) same ∙ read)

pub entries_more : (n i : ℕ) (bytes rest : List ℕ) (x : NodeEntry) (all next next' : List Slot) → i < n → (x, rest) ≡ entry_in bytes → next ++ map entry_slot (entries_in (n - i) bytes) ≡ all → next' ≡ next ++ entry_slot x ∷ [] → next' ++ map entry_slot (entries_in (n - (i + 1)) rest) ≡ all
unfolding entries_in
entries_more n i bytes rest x all next next' lt is h e =
    let ys : List NodeEntry = entries_in (n - (i + 1)) rest in
    let down : n - i ≡ suc (n - (i + 1)) = omega (arith, lt) in
    let here : entries_in (n - i) bytes ≡ x ∷ ys = ap (λ (k : ℕ). entries_in k bytes) down ∙ ap (λ (z : NodeEntry × List ℕ). z.0 ∷ entries_in (n - (i + 1)) z.1) (sym is) in
    ap (λ (l : List Slot). l ++ map entry_slot ys) e ∙ append_assoc next (entry_slot x ∷ []) (map entry_slot ys) ∙ ap (λ (es : List NodeEntry). next ++ map entry_slot es) (sym here) ∙ h

pub entries_end : (n i : ℕ) (bytes : List ℕ) (all next : List Slot) → n - i ≡ 0 → next ++ map entry_slot (entries_in (n - i) bytes) ≡ all → next ≡ all
unfolding entries_in
entries_end n i bytes all next e h = sym (append-nil next) ∙ ap (λ (k : ℕ). next ++ map entry_slot (entries_in k bytes)) (sym e) ∙ h
