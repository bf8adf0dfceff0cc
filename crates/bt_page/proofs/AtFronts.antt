-- Values, items, entries and pages at the front of bytes.
use Rattle.std.proofs.Common.{◌≡◌, ℕ, ◌<◌, ◌≤◌, ◌^◌, List, [], ◌∷◌, ◌++◌, length, refl, sym, ap, subst, ◌∙◌, append_assoc, arith, length-append}
use Rattle.std.specs.List.{AllByRecursion, flat_map}
use Rattle.std.specs.Prelude.{true, false, ◌==◌}
use Rattle.std.proofs.lemmas.Bool.{ne_eqb, eq-eqb}
use Rattle.tc_base.specs.Reading.{both}
use Rattle.tc_base.specs.Vnum.{vnum, vnum_front, two_front, three_front}
use Rattle.tc_base.proofs.Vnums.{reads}
use Rattle.tc_base.proofs.Exact.{IsExact}
use Rattle.tc_base.proofs.ExactNumbers.{exact_vnum}
use Rattle.tc_base.proofs.ExactPairs.{Is, exact_both}
use Rattle.bt_page.specs.declared.page.Item.{Item}
use Rattle.bt_page.specs.declared.page.NodeEntry.{NodeEntry}
use Rattle.bt_page.specs.declared.page.Leaf.{Leaf}
use Rattle.bt_page.specs.declared.page.Node.{Node}
use Rattle.bt_page.specs.Spelled.{AtFront, NoneAt, Spells}
use Rattle.bt_page.specs.Pages.{two, three, value_bytes, spelled_item, item_bytes, entry_bytes, leaf_bytes, node_bytes, SizeFits, ItemFits, EntryFits, LeafFits, NodeFits}
use Rattle.bt_page.proofs.Runs.{IsPrefixFree, exact_free, headed, none_headed, same_parts}

abbrev pub OneFits : ℕ → Type 0
OneFits n = n < 2 ^ 64

abbrev pub TwoFit : ℕ × ℕ → Type 0
TwoFit z = (z.0 < 2 ^ 64) × (z.1 < 2 ^ 64)

abbrev pub two_bytes : ℕ × ℕ → List ℕ
two_bytes z = two z.0 z.1

abbrev pub ThreeFit : ℕ × (ℕ × ℕ) → Type 0
ThreeFit z = (z.0 < 2 ^ 64) × TwoFit z.1

abbrev pub three_bytes : ℕ × (ℕ × ℕ) → List ℕ
three_bytes z = three z.0 z.1.0 z.1.1

exact2 : IsExact (Is TwoFit two_bytes) (both vnum_front vnum_front)
exact2 = exact_both OneFits vnum vnum_front OneFits vnum vnum_front exact_vnum exact_vnum (0, omega arith)

exact3 : IsExact (Is ThreeFit three_bytes) (both vnum_front (both vnum_front vnum_front))
exact3 = exact_both OneFits vnum vnum_front TwoFit two_bytes (both vnum_front vnum_front) exact_vnum exact2 ((0, 0), (omega arith, omega arith))

pub exact_two : IsExact (Is TwoFit two_bytes) two_front
unfolding two_front
exact_two = exact2

pub exact_three : IsExact (Is ThreeFit three_bytes) three_front
unfolding three_front
exact_three = exact3

pub one_free : IsPrefixFree OneFits vnum
one_free = exact_free OneFits vnum vnum_front exact_vnum

pub two_free : IsPrefixFree TwoFit two_bytes
two_free = exact_free TwoFit two_bytes two_front exact_two

pub three_free : IsPrefixFree ThreeFit three_bytes
three_free = exact_free ThreeFit three_bytes three_front exact_three

pub vnum_some : (n : ℕ) → n < 2 ^ 64 → 0 < length (vnum n)
unfolding vnum
vnum_some n h = let r = reads 9 n [] (omega (arith, h)) in omega (arith, r.long)

-- ---- a text behind its size

value_is : (v : List ℕ) → SizeFits v → value_bytes v ≡ vnum (length v) ++ v
value_is v h = refl

pub value_found : (bytes rest behind : List ℕ) (n : ℕ) (v : List ℕ) → AtFront OneFits vnum bytes n rest → length v ≡ n → rest ≡ v ++ behind → AtFront SizeFits value_bytes bytes v behind
value_found bytes rest behind n v f len e = record {
  fits = omega (arith, f.fits, len);
  is = f.is ∙ ap (λ (m : ℕ). vnum m ++ rest) (sym len) ∙ ap (λ (l : List ℕ). vnum (length v) ++ l) e ∙ sym (append_assoc (vnum (length v)) v behind);
}

abbrev value_head : (bytes : List ℕ) (v rest : List ℕ) → AtFront SizeFits value_bytes bytes v rest → AtFront OneFits vnum bytes (length v) (v ++ rest)
value_head = headed OneFits vnum SizeFits value_bytes (λ v. length v) (λ v. v) (λ v h. h) value_is

pub value_none : (bytes : List ℕ) → NoneAt OneFits vnum bytes → NoneAt SizeFits value_bytes bytes
value_none = none_headed OneFits vnum SizeFits value_bytes (λ v. length v) (λ v. v) (λ v h. h) value_is

pub value_short : (bytes rest : List ℕ) (n : ℕ) → AtFront OneFits vnum bytes n rest → length rest < n → NoneAt SizeFits value_bytes bytes
value_short bytes rest n f lt v more g =
    let same = one_free.only bytes n (length v) rest (v ++ more) f (value_head bytes v more g) in
    absurd (omega (arith, lt, same.0, ap length same.1, length-append v more))

pub value_free : IsPrefixFree SizeFits value_bytes
value_free = record {
  only = λ bytes v w rest more f g.
      let same = one_free.only bytes (length v) (length w) (v ++ rest) (w ++ more) (value_head bytes v rest f) (value_head bytes w more g) in
      same_parts v w rest more same.0 same.1;
}

-- ---- entries

entry_is : (e : NodeEntry) → EntryFits e → entry_bytes e ≡ two_bytes (e.child, length e.key) ++ e.key
unfolding entry_bytes
entry_is e h = refl

entry_head : (bytes : List ℕ) (e : NodeEntry) (rest : List ℕ) → AtFront EntryFits entry_bytes bytes e rest → AtFront TwoFit two_bytes bytes (e.child, length e.key) (e.key ++ rest)
entry_head = headed TwoFit two_bytes EntryFits entry_bytes (λ e. (e.child, length e.key)) (λ e. e.key) (λ e h. (h.child, h.key)) entry_is

pub entry_found : (bytes rest behind key : List ℕ) (child n : ℕ) → AtFront TwoFit two_bytes bytes (child, n) rest → length key ≡ n → rest ≡ key ++ behind → AtFront EntryFits entry_bytes bytes (record { child = child; key = key }) behind
entry_found bytes rest behind key child n f len e =
    let fits : EntryFits (record { child = child; key = key }) = record { child = f.fits.0; key = omega (arith, f.fits.1, len) } in
    record {
      fits = fits;
      is = f.is ∙ ap (λ (m : ℕ). two child m ++ rest) (sym len) ∙ ap (λ (l : List ℕ). two child (length key) ++ l) e ∙ sym (append_assoc (two child (length key)) key behind) ∙ ap (λ (l : List ℕ). l ++ behind) (sym (entry_is (record { child = child; key = key }) fits));
    }

pub entry_none : (bytes : List ℕ) → NoneAt TwoFit two_bytes bytes → NoneAt EntryFits entry_bytes bytes
entry_none = none_headed TwoFit two_bytes EntryFits entry_bytes (λ e. (e.child, length e.key)) (λ e. e.key) (λ e h. (h.child, h.key)) entry_is

pub entry_short : (bytes rest : List ℕ) (child n : ℕ) → AtFront TwoFit two_bytes bytes (child, n) rest → length rest < n → NoneAt EntryFits entry_bytes bytes
entry_short bytes rest child n f lt e more g =
    let same = two_free.only bytes (child, n) (e.child, length e.key) rest (e.key ++ more) f (entry_head bytes e more g) in
    absurd (omega (arith, lt, ap (λ (z : ℕ × ℕ). z.1) same.0, ap length same.1, length-append e.key more))

pub entry_free : IsPrefixFree EntryFits entry_bytes
entry_free = record {
  only = λ bytes d e rest more f g.
      let same = two_free.only bytes (d.child, length d.key) (e.child, length e.key) (d.key ++ rest) (e.key ++ more) (entry_head bytes d rest f) (entry_head bytes e more g) in
      let parts = same_parts d.key e.key rest more (ap (λ (z : ℕ × ℕ). z.1) same.0) same.1 in
      (λ i. record { child = ap (λ (z : ℕ × ℕ). z.0) same.0 i; key = parts.0 i }, parts.1);
}

pub entry_some : (bytes rest : List ℕ) (e : NodeEntry) → AtFront EntryFits entry_bytes bytes e rest → length rest < length bytes
entry_some bytes rest e f =
    let h = entry_head bytes e rest f in
    omega (arith, ap length h.is, length-append (two_bytes (e.child, length e.key)) (e.key ++ rest), length-append (vnum e.child) (vnum (length e.key)), vnum_some e.child f.fits.child, length-append e.key rest)

-- ---- items

abbrev sizes : List ℕ → List (List ℕ) → ℕ × (ℕ × ℕ)
sizes key [] = (0, (0, 0))
sizes key (v ∷ more) = (length key, (length v, length more))

abbrev texts : List ℕ → List (List ℕ) → List ℕ
texts key [] = []
texts key (v ∷ more) = key ++ (v ++ flat_map value_bytes more)

held_is : (key : List ℕ) (values : List (List ℕ)) → 0 < length values → spelled_item key values ≡ three_bytes (sizes key values) ++ texts key values
held_is key [] some = absurd (omega (arith, some))
held_is key (v ∷ more) some = refl

held_fits : (key : List ℕ) (values : List (List ℕ)) → SizeFits key → AllByRecursion SizeFits values → length values ≤ 2 ^ 64 → ThreeFit (sizes key values)
held_fits key [] k vs n = (omega arith, (omega arith, omega arith))
held_fits key (v ∷ more) k vs n = (k, (vs.0, omega (arith, n)))

item_is : (i : Item) → ItemFits i → item_bytes i ≡ three_bytes (sizes i.key i.values) ++ texts i.key i.values
unfolding item_bytes
item_is i h = held_is i.key i.values h.some

item_head : (bytes : List ℕ) (i : Item) (rest : List ℕ) → AtFront ItemFits item_bytes bytes i rest → AtFront ThreeFit three_bytes bytes (sizes i.key i.values) (texts i.key i.values ++ rest)
item_head = headed ThreeFit three_bytes ItemFits item_bytes (λ i. sizes i.key i.values) (λ i. texts i.key i.values) (λ i h. held_fits i.key i.values h.key h.values h.count) item_is

pub item_none : (bytes : List ℕ) → NoneAt ThreeFit three_bytes bytes → NoneAt ItemFits item_bytes bytes
item_none = none_headed ThreeFit three_bytes ItemFits item_bytes (λ i. sizes i.key i.values) (λ i. texts i.key i.values) (λ i h. held_fits i.key i.values h.key h.values h.count) item_is

-- what an item at the front gives for the sizes that were read
record Behind (k v n : ℕ) (rest : List ℕ) (i : Item) (more : List ℕ) : Type 0 where
  first : List ℕ
  further : List (List ℕ)
  values : i.values ≡ first ∷ further
  key_size : k ≡ length i.key
  size : v ≡ length first
  count : n ≡ length further
  shorts : AllByRecursion SizeFits further
  is : rest ≡ i.key ++ (first ++ (flat_map value_bytes further ++ more))

behind_item : (bytes : List ℕ) (k v n : ℕ) (rest : List ℕ) (i : Item) (more : List ℕ) → AtFront ThreeFit three_bytes bytes (k, (v, n)) rest → AtFront ItemFits item_bytes bytes i more → Behind k v n rest i more
behind_item bytes k v n rest i more f g = go i.values refl g.fits.some g.fits.values (three_free.only bytes (k, (v, n)) (sizes i.key i.values) rest (texts i.key i.values ++ more) f (item_head bytes i more g))
  where
    go : (values : List (List ℕ)) → i.values ≡ values → 0 < length values → AllByRecursion SizeFits values → (◌≡◌ {A = ℕ × (ℕ × ℕ)} (k, (v, n)) (sizes i.key values)) × (rest ≡ texts i.key values ++ more) → Behind k v n rest i more
    go [] is some short same = absurd (omega (arith, some))
    go (w ∷ ws) is some short same = record {
      first = w;
      further = ws;
      values = is;
      key_size = ap (λ (z : ℕ × (ℕ × ℕ)). z.0) same.0;
      size = ap (λ (z : ℕ × (ℕ × ℕ)). z.1.0) same.0;
      count = ap (λ (z : ℕ × (ℕ × ℕ)). z.1.1) same.0;
      shorts = short.1;
      is = same.1 ∙ append_assoc i.key (w ++ flat_map value_bytes ws) more ∙ ap (λ (l : List ℕ). i.key ++ l) (append_assoc w (flat_map value_bytes ws) more);
    }

pub item_short_key : (bytes rest : List ℕ) (k v n : ℕ) → AtFront ThreeFit three_bytes bytes (k, (v, n)) rest → length rest < k → NoneAt ItemFits item_bytes bytes
item_short_key bytes rest k v n f lt i more g =
    let b = behind_item bytes k v n rest i more f g in
    absurd (omega (arith, lt, b.key_size, ap length b.is, length-append i.key (b.first ++ (flat_map value_bytes b.further ++ more))))

pub item_short_value : (bytes rest key behind : List ℕ) (k v n : ℕ) → AtFront ThreeFit three_bytes bytes (k, (v, n)) rest → length key ≡ k → rest ≡ key ++ behind → length behind < v → NoneAt ItemFits item_bytes bytes
item_short_value bytes rest key behind k v n f len e lt i more g =
    let b = behind_item bytes k v n rest i more f g in
    let s = same_parts key i.key behind (b.first ++ (flat_map value_bytes b.further ++ more)) (len ∙ b.key_size) (sym e ∙ b.is) in
    absurd (omega (arith, lt, b.size, ap length s.1, length-append b.first (flat_map value_bytes b.further ++ more)))

pub item_short_further : (bytes rest key behind first last : List ℕ) (k v n : ℕ) → AtFront ThreeFit three_bytes bytes (k, (v, n)) rest → length key ≡ k → rest ≡ key ++ behind → length first ≡ v → behind ≡ first ++ last
    → ((more : List (List ℕ)) (tail : List ℕ) → length more ≡ n → AllByRecursion SizeFits more → last ≡ flat_map value_bytes more ++ tail → ⊥) → NoneAt ItemFits item_bytes bytes
item_short_further bytes rest key behind first last k v n f len e len' e' none i more g =
    let b = behind_item bytes k v n rest i more f g in
    let s = same_parts key i.key behind (b.first ++ (flat_map value_bytes b.further ++ more)) (len ∙ b.key_size) (sym e ∙ b.is) in
    let t = same_parts first b.first last (flat_map value_bytes b.further ++ more) (len' ∙ b.size) (sym e' ∙ s.1) in
    none b.further more (sym b.count) b.shorts t.1

pub item_found : (bytes rest key behind first last behind' : List ℕ) (further : List (List ℕ)) (k v n : ℕ) → AtFront ThreeFit three_bytes bytes (k, (v, n)) rest → length key ≡ k → rest ≡ key ++ behind → length first ≡ v → behind ≡ first ++ last
    → length further ≡ n → AllByRecursion SizeFits further → last ≡ flat_map value_bytes further ++ behind' → AtFront ItemFits item_bytes bytes (record { key = key; values = first ∷ further }) behind'
unfolding item_bytes
item_found bytes rest key behind first last behind' further k v n f len e len' e' count short e'' = record {
  fits = record { key = omega (arith, f.fits.0, len); values = (omega (arith, f.fits.1.0, len'), short); some = omega arith; count = omega (arith, f.fits.1.1, count) };
  is = f.is ∙ ap (λ (m : ℕ). three m v n ++ rest) (sym len) ∙ ap (λ (m : ℕ). three (length key) m n ++ rest) (sym len') ∙ ap (λ (m : ℕ). three (length key) (length first) m ++ rest) (sym count)
      ∙ ap (λ (l : List ℕ). three (length key) (length first) (length further) ++ l) (e ∙ ap (λ (l : List ℕ). key ++ l) (e' ∙ ap (λ (l : List ℕ). first ++ l) e'')
      ∙ sym (append_assoc key (first ++ flat_map value_bytes further) behind' ∙ ap (λ (l : List ℕ). key ++ l) (append_assoc first (flat_map value_bytes further) behind')))
      ∙ sym (append_assoc (three (length key) (length first) (length further)) (key ++ (first ++ flat_map value_bytes further)) behind');
}

values_only : (xs ys : List (List ℕ)) (r t : List ℕ) → length xs ≡ length ys → AllByRecursion SizeFits xs → AllByRecursion SizeFits ys → flat_map value_bytes xs ++ r ≡ flat_map value_bytes ys ++ t → (xs ≡ ys) × (r ≡ t)
values_only [] [] r t len f g e = (refl, e)
values_only [] (y ∷ ys) r t len f g e = absurd (omega (arith, len))
values_only (x ∷ xs) [] r t len f g e = absurd (omega (arith, len))
values_only (x ∷ xs) (y ∷ ys) r t len f g e =
    let same = value_free.only (flat_map value_bytes (x ∷ xs) ++ r) x y (flat_map value_bytes xs ++ r) (flat_map value_bytes ys ++ t)
    (record { fits = f.0; is = append_assoc (value_bytes x) (flat_map value_bytes xs) r }) (record { fits = g.0; is = e ∙ append_assoc (value_bytes y) (flat_map value_bytes ys) t }) in
    let rest = values_only xs ys r t (omega (arith, len)) f.1 g.1 same.1 in
    (ap (λ (z : List ℕ). z ∷ xs) same.0 ∙ ap (λ (l : List (List ℕ)). y ∷ l) rest.0, rest.1)

pub item_free : IsPrefixFree ItemFits item_bytes
item_free = record { only = λ bytes i j rest more f g. go bytes i j rest more f g i.values refl f.fits.some f.fits.values }
  where
    go : (bytes : List ℕ) (i j : Item) (rest more : List ℕ) → AtFront ItemFits item_bytes bytes i rest → AtFront ItemFits item_bytes bytes j more → (values : List (List ℕ)) → i.values ≡ values → 0 < length values → AllByRecursion SizeFits values → (i ≡ j) × (rest ≡ more)
    go bytes i j rest more f g [] is some short = absurd (omega (arith, some))
    go bytes i j rest more f g (w ∷ ws) is some short =
        let head : AtFront ThreeFit three_bytes bytes (length i.key, (length w, length ws)) ((i.key ++ (w ++ flat_map value_bytes ws)) ++ rest) = subst (λ (vs : List (List ℕ)). AtFront ThreeFit three_bytes bytes (sizes i.key vs) (texts i.key vs ++ rest)) is (item_head bytes i rest f) in
        let b = behind_item bytes (length i.key) (length w) (length ws) ((i.key ++ (w ++ flat_map value_bytes ws)) ++ rest) j more head g in
        let s = same_parts i.key j.key (w ++ (flat_map value_bytes ws ++ rest)) (b.first ++ (flat_map value_bytes b.further ++ more)) b.key_size
        (sym (append_assoc i.key (w ++ flat_map value_bytes ws) rest ∙ ap (λ (l : List ℕ). i.key ++ l) (append_assoc w (flat_map value_bytes ws) rest)) ∙ b.is) in
        let t = same_parts w b.first (flat_map value_bytes ws ++ rest) (flat_map value_bytes b.further ++ more) b.size s.1 in
        let u = values_only ws b.further rest more b.count short.1 b.shorts t.1 in
        let values : i.values ≡ j.values = is ∙ ap (λ (z : List ℕ). z ∷ ws) t.0 ∙ ap (λ (l : List (List ℕ)). b.first ∷ l) u.0 ∙ sym b.values in
        (λ n. record { key = s.0 n; values = values n }, u.1)

pub item_some : (bytes rest : List ℕ) (i : Item) → AtFront ItemFits item_bytes bytes i rest → length rest < length bytes
item_some bytes rest i f =
    let h = item_head bytes i rest f in
    let z : ℕ × (ℕ × ℕ) = sizes i.key i.values in
    omega (arith, ap length h.is, length-append (three_bytes z) (texts i.key i.values ++ rest), length-append (vnum z.0) (two z.1.0 z.1.1), vnum_some z.0 h.fits.0, length-append (texts i.key i.values) rest)

-- ---- pages

pub none_left : (rest : List ℕ) → true ≡ (length rest == 0) → rest ≡ []
none_left [] e = refl
none_left (x ∷ rest) e = absurd (ltb_clash e)
  where
    ltb_clash : true ≡ (length (x ∷ rest) == 0) → ⊥
    ltb_clash e = let f : (length (x ∷ rest) == 0) ≡ false = ne_eqb (length (x ∷ rest)) 0 (λ z. omega (arith, z)) in let g = e ∙ f in cc

pub some_left : (rest tail : List ℕ) → false ≡ (length rest == 0) → tail ≡ [] → rest ≡ tail → ⊥
some_left rest tail e t is = let f : (length rest == 0) ≡ true = eq-eqb (length rest) 0 (ap length (is ∙ t)) in let g = e ∙ f in cc

links_is : (l : Leaf) → LeafFits l → leaf_bytes l ≡ two_bytes (l.prev, l.next) ++ flat_map item_bytes l.items
unfolding leaf_bytes
links_is l h = refl

leaf_head : (bytes : List ℕ) (l : Leaf) → Spells LeafFits leaf_bytes bytes l → AtFront TwoFit two_bytes bytes (l.prev, l.next) (flat_map item_bytes l.items)
leaf_head bytes l f = record { fits = (f.fits.prev, f.fits.next); is = f.is ∙ links_is l f.fits }

pub leaf_none : (bytes : List ℕ) → NoneAt TwoFit two_bytes bytes → (l : Leaf) → Spells LeafFits leaf_bytes bytes l → ⊥
leaf_none bytes none l f = none (l.prev, l.next) (flat_map item_bytes l.items) (leaf_head bytes l f)

pub leaf_bad : (bytes rest : List ℕ) (z : ℕ × ℕ) → AtFront TwoFit two_bytes bytes z rest → ((items : List Item) → AllByRecursion ItemFits items → rest ≡ flat_map item_bytes items → ⊥) → (l : Leaf) → Spells LeafFits leaf_bytes bytes l → ⊥
leaf_bad bytes rest z f none l g =
    let same = two_free.only bytes z (l.prev, l.next) rest (flat_map item_bytes l.items) f (leaf_head bytes l g) in
    none l.items g.fits.items same.1

pub leaf_found : (bytes rest : List ℕ) (prev next : ℕ) (items : List Item) → AtFront TwoFit two_bytes bytes (prev, next) rest → AllByRecursion ItemFits items → rest ≡ flat_map item_bytes items → Spells LeafFits leaf_bytes bytes (record { prev = prev; next = next; items = items })
unfolding leaf_bytes
leaf_found bytes rest prev next items f fits e = record { fits = record { prev = f.fits.0; next = f.fits.1; items = fits }; is = f.is ∙ ap (λ (l : List ℕ). two prev next ++ l) e }

items_only : (xs ys : List Item) → AllByRecursion ItemFits xs → AllByRecursion ItemFits ys → flat_map item_bytes xs ≡ flat_map item_bytes ys → xs ≡ ys
items_only [] [] f g e = refl
items_only [] (y ∷ ys) f g e = absurd (omega (arith, ap length e, item_some (flat_map item_bytes (y ∷ ys)) (flat_map item_bytes ys) y (record { fits = g.0; is = refl })))
items_only (x ∷ xs) [] f g e = absurd (omega (arith, ap length e, item_some (flat_map item_bytes (x ∷ xs)) (flat_map item_bytes xs) x (record { fits = f.0; is = refl })))
items_only (x ∷ xs) (y ∷ ys) f g e =
    let same = item_free.only (flat_map item_bytes (x ∷ xs)) x y (flat_map item_bytes xs) (flat_map item_bytes ys) (record { fits = f.0; is = refl }) (record { fits = g.0; is = e }) in
    ap (λ (z : Item). z ∷ xs) same.0 ∙ ap (λ (l : List Item). y ∷ l) (items_only xs ys f.1 g.1 same.1)

pub leaf_only : (bytes : List ℕ) (l m : Leaf) → Spells LeafFits leaf_bytes bytes l → Spells LeafFits leaf_bytes bytes m → m ≡ l
leaf_only bytes l m f g =
    let same = two_free.only bytes (m.prev, m.next) (l.prev, l.next) (flat_map item_bytes m.items) (flat_map item_bytes l.items) (leaf_head bytes m g) (leaf_head bytes l f) in
    let items = items_only m.items l.items g.fits.items f.fits.items same.1 in
    λ i. record { prev = ap (λ (z : ℕ × ℕ). z.0) same.0 i; next = ap (λ (z : ℕ × ℕ). z.1) same.0 i; items = items i }

heir_is : (n : Node) → NodeFits n → node_bytes n ≡ vnum n.heir ++ flat_map entry_bytes n.entries
unfolding node_bytes
heir_is n h = refl

node_head : (bytes : List ℕ) (n : Node) → Spells NodeFits node_bytes bytes n → AtFront OneFits vnum bytes n.heir (flat_map entry_bytes n.entries)
node_head bytes n f = record { fits = f.fits.heir; is = f.is ∙ heir_is n f.fits }

pub node_none : (bytes : List ℕ) → NoneAt OneFits vnum bytes → (n : Node) → Spells NodeFits node_bytes bytes n → ⊥
node_none bytes none n f = none n.heir (flat_map entry_bytes n.entries) (node_head bytes n f)

pub node_bad : (bytes rest : List ℕ) (heir : ℕ) → AtFront OneFits vnum bytes heir rest → ((entries : List NodeEntry) → AllByRecursion EntryFits entries → rest ≡ flat_map entry_bytes entries → ⊥) → (n : Node) → Spells NodeFits node_bytes bytes n → ⊥
node_bad bytes rest heir f none n g =
    let same = one_free.only bytes heir n.heir rest (flat_map entry_bytes n.entries) f (node_head bytes n g) in
    none n.entries g.fits.entries same.1

pub node_found : (bytes rest : List ℕ) (heir : ℕ) (entries : List NodeEntry) → AtFront OneFits vnum bytes heir rest → AllByRecursion EntryFits entries → rest ≡ flat_map entry_bytes entries → Spells NodeFits node_bytes bytes (record { heir = heir; entries = entries })
unfolding node_bytes
node_found bytes rest heir entries f fits e = record { fits = record { heir = f.fits; entries = fits }; is = f.is ∙ ap (λ (l : List ℕ). vnum heir ++ l) e }

entries_only : (xs ys : List NodeEntry) → AllByRecursion EntryFits xs → AllByRecursion EntryFits ys → flat_map entry_bytes xs ≡ flat_map entry_bytes ys → xs ≡ ys
entries_only [] [] f g e = refl
entries_only [] (y ∷ ys) f g e = absurd (omega (arith, ap length e, entry_some (flat_map entry_bytes (y ∷ ys)) (flat_map entry_bytes ys) y (record { fits = g.0; is = refl })))
entries_only (x ∷ xs) [] f g e = absurd (omega (arith, ap length e, entry_some (flat_map entry_bytes (x ∷ xs)) (flat_map entry_bytes xs) x (record { fits = f.0; is = refl })))
entries_only (x ∷ xs) (y ∷ ys) f g e =
    let same = entry_free.only (flat_map entry_bytes (x ∷ xs)) x y (flat_map entry_bytes xs) (flat_map entry_bytes ys) (record { fits = f.0; is = refl }) (record { fits = g.0; is = e }) in
    ap (λ (z : NodeEntry). z ∷ xs) same.0 ∙ ap (λ (l : List NodeEntry). y ∷ l) (entries_only xs ys f.1 g.1 same.1)

pub node_only : (bytes : List ℕ) (n m : Node) → Spells NodeFits node_bytes bytes n → Spells NodeFits node_bytes bytes m → m ≡ n
node_only bytes n m f g =
    let same = one_free.only bytes m.heir n.heir (flat_map entry_bytes m.entries) (flat_map entry_bytes n.entries) (node_head bytes m g) (node_head bytes n f) in
    let entries = entries_only m.entries n.entries g.fits.entries f.fits.entries same.1 in
    λ i. record { heir = same.0 i; entries = entries i }
