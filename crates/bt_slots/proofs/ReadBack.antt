-- What is spelled is read back.
use Rattle.std.proofs.Common.{◌≡◌, ℕ, ◌<◌, ◌≤◌, ◌^◌, List, [], ◌∷◌, ◌++◌, length, take, drop, refl, sym, ap, subst, ◌∙◌, append_assoc, arith}
use Rattle.std.specs.List.{AllByRecursion, flat_map}
use Rattle.std.proofs.lemmas.List.{take_at, drop_at}
use Rattle.tc_base.specs.Vnum.{vnum}
use Rattle.tc_base.proofs.ExactNumbers.{exact_vnum}
use Rattle.tc_base.proofs.Vnums.{one_spelled}
use Rattle.bt_page.specs.declared.page.NodeEntry.{NodeEntry}
use Rattle.bt_page.specs.declared.page.Item.{Item}
use Rattle.bt_page.specs.declared.page.Leaf.{Leaf}
use Rattle.bt_page.specs.declared.page.Node.{Node}
use Rattle.bt_page.specs.Pages.{two, three, value_bytes, spelled_item, item_bytes, entry_bytes, leaf_bytes, node_bytes, SizeFits, ItemFits, EntryFits, LeafFits, NodeFits}
use Rattle.bt_slots.specs.Reads.{or_none, number_in, cut, value_in, with_value, values_in, second_in, third_in, item_with, item_in, items_in, leaf_in, entry_in, entries_in, node_in}
use Rattle.bt_slots.specs.Slots.{IsLeafIn, IsNodeIn}
use Rattle.bt_slots.proofs.Starts.{starts_long}

-- ---- numbers

pub number_read : (n : ℕ) (rest : List ℕ) → n < 2 ^ 64 → number_in (vnum n ++ rest) ≡ (n, rest)
unfolding number_in
number_read n rest h = ap or_none (exact_vnum.again n (vnum n) rest (h, refl))

-- what bytes begin with is read
pub number_at : (n : ℕ) (bytes rest : List ℕ) → n < 2 ^ 64 → bytes ≡ vnum n ++ rest → number_in bytes ≡ (n, rest)
number_at n bytes rest h is = ap number_in is ∙ number_read n rest h

-- the two and three numbers that bytes begin with
pub two_at : (a b : ℕ) (bytes rest : List ℕ) → a < 2 ^ 64 → b < 2 ^ 64 → bytes ≡ two a b ++ rest → ((number_in bytes).0 ≡ a) × (second_in bytes ≡ (b, rest))
two_at a b bytes rest f g is =
    let one = number_at a bytes (vnum b ++ rest) f (is ∙ append_assoc (vnum a) (vnum b) rest) in
    (ap (λ (x : ℕ × List ℕ). x.0) one, ap (λ (x : ℕ × List ℕ). number_in x.1) one ∙ number_read b rest g)

pub three_at : (a b c : ℕ) (bytes rest : List ℕ) → a < 2 ^ 64 → b < 2 ^ 64 → c < 2 ^ 64 → bytes ≡ three a b c ++ rest
    → ((number_in bytes).0 ≡ a) × ((second_in bytes).0 ≡ b) × (third_in bytes ≡ (c, rest))
three_at a b c bytes rest f g h is =
    let one = number_at a bytes (two b c ++ rest) f (is ∙ append_assoc (vnum a) (two b c) rest) in
    let more = two_at b c (number_in bytes).1 rest g h (ap (λ (x : ℕ × List ℕ). x.1) one) in
    (ap (λ (x : ℕ × List ℕ). x.0) one, more.0, more.1)

-- ---- texts

pub cut_at : (x : ℕ × List ℕ) (v rest : List ℕ) → x ≡ (length v, v ++ rest) → cut x ≡ (v, rest)
cut_at x v rest is = ap cut is ∙ (λ i. (take_at v rest (length v) refl i, drop_at v rest (length v) refl i))

pub value_read : (v rest : List ℕ) → SizeFits v → value_in (value_bytes v ++ rest) ≡ (v, rest)
value_read v rest h = cut_at (number_in (value_bytes v ++ rest)) v rest (number_at (length v) (value_bytes v ++ rest) (v ++ rest) h (append_assoc (vnum (length v)) v rest))

pub values_read : (vs : List (List ℕ)) (rest : List ℕ) → AllByRecursion SizeFits vs → values_in (length vs) (flat_map value_bytes vs ++ rest) ≡ (vs, rest)
unfolding values_in
values_read [] rest h = refl
values_read (v ∷ vs) rest h =
    let one : value_in (flat_map value_bytes (v ∷ vs) ++ rest) ≡ (v, flat_map value_bytes vs ++ rest) = ap value_in (append_assoc (value_bytes v) (flat_map value_bytes vs) rest) ∙ value_read v (flat_map value_bytes vs ++ rest) h.0 in
    ap (λ (x : List ℕ × List ℕ). with_value x.0 (values_in (length vs) x.1)) one ∙ ap (with_value v) (values_read vs rest h.1)

-- ---- items

abbrev same_pair : {A B : Type 0} {a b : A} {x y : B} → a ≡ b → x ≡ y → ◌≡◌ {A = A × B} (a, x) (b, y)
same_pair e f i = (e i, f i)

-- what three numbers, a key, a first value and further values are read as
item_with_is : (key v : List ℕ) (more : List (List ℕ)) (rest : List ℕ) → AllByRecursion SizeFits more
    → item_with (length key) (length v) (length more, key ++ (v ++ (flat_map value_bytes more ++ rest))) ≡ (record { key = key; values = v ∷ more }, rest)
item_with_is key v more rest h =
    let tail : List ℕ = flat_map value_bytes more ++ rest in
    let k : take (length key) (key ++ (v ++ tail)) ≡ key = take_at key (v ++ tail) (length key) refl in
    let d : drop (length key) (key ++ (v ++ tail)) ≡ v ++ tail = drop_at key (v ++ tail) (length key) refl in
    let f : take (length v) (drop (length key) (key ++ (v ++ tail))) ≡ v = ap (take (length v)) d ∙ take_at v tail (length v) refl in
    let e : drop (length v) (drop (length key) (key ++ (v ++ tail))) ≡ tail = ap (drop (length v)) d ∙ drop_at v tail (length v) refl in
    let m : values_in (length more) (drop (length v) (drop (length key) (key ++ (v ++ tail)))) ≡ (more, rest) = ap (values_in (length more)) e ∙ values_read more rest h in
    λ i. (record { key = k i; values = f i ∷ (m i).0 }, (m i).1)

spelled_read : (key v : List ℕ) (more : List (List ℕ)) (rest : List ℕ) → SizeFits key → SizeFits v → length more < 2 ^ 64 → AllByRecursion SizeFits more
    → item_in (spelled_item key (v ∷ more) ++ rest) ≡ (record { key = key; values = v ∷ more }, rest)
unfolding item_in
spelled_read key v more rest k f n h =
    let bytes : List ℕ = spelled_item key (v ∷ more) ++ rest in
    let tail : List ℕ = key ++ (v ++ (flat_map value_bytes more ++ rest)) in
    let is : bytes ≡ three (length key) (length v) (length more) ++ tail =
    append_assoc (three (length key) (length v) (length more)) (key ++ (v ++ flat_map value_bytes more)) rest
    ∙ ap (λ (l : List ℕ). three (length key) (length v) (length more) ++ l) (append_assoc key (v ++ flat_map value_bytes more) rest ∙ ap (λ (l : List ℕ). key ++ l) (append_assoc v (flat_map value_bytes more) rest)) in
    let t = three_at (length key) (length v) (length more) bytes tail k f n is in
    (λ i. item_with (t.0 i) (t.1 i) (t.2 i)) ∙ item_with_is key v more rest h

pub item_read : (i : Item) (rest : List ℕ) → ItemFits i → item_in (item_bytes i ++ rest) ≡ (i, rest)
unfolding item_bytes
item_read i rest h = go i.key i.values h.key h.values h.some h.count
  where
    go : (key : List ℕ) (values : List (List ℕ)) → SizeFits key → AllByRecursion SizeFits values → 0 < length values → length values ≤ 2 ^ 64 → item_in (spelled_item key values ++ rest) ≡ (record { key = key; values = values }, rest)
    go key [] k f some n = absurd (omega (arith, some))
    go key (v ∷ more) k f some n = spelled_read key v more rest k f.0 (omega (arith, n)) f.1

-- items up to the end of the bytes
pub items_read : (is : List Item) → AllByRecursion ItemFits is → items_in (length is) (flat_map item_bytes is) ≡ is
unfolding items_in
items_read [] h = refl
items_read (x ∷ xs) h =
    ap (λ (z : Item × List ℕ). z.0 ∷ items_in (length xs) z.1) (item_read x (flat_map item_bytes xs) h.0) ∙ ap (λ (l : List Item). x ∷ l) (items_read xs h.1)

pub leaf_read : (l : Leaf) → LeafFits l → leaf_in (length l.items) (leaf_bytes l) ≡ l
unfolding leaf_in leaf_bytes
leaf_read l h =
    let t = two_at l.prev l.next (leaf_bytes l) (flat_map item_bytes l.items) h.prev h.next refl in
    let m : items_in (length l.items) (second_in (leaf_bytes l)).1 ≡ l.items = ap (λ (x : ℕ × List ℕ). items_in (length l.items) x.1) t.1 ∙ items_read l.items h.items in
    λ i. record { prev = t.0 i; next = (t.1 i).0; items = m i }

-- the bytes of a leaf beside the places of its items are read as it
pub leaf_made : (bytes starts : List ℕ) (l : Leaf) → IsLeafIn bytes starts l → leaf_in (length starts) bytes ≡ l
leaf_made bytes starts l h =
    let long : length starts ≡ length l.items = ap length h.begin ∙ starts_long item_bytes _ l.items in
    ap (λ (n : ℕ). leaf_in n bytes) long ∙ ap (leaf_in (length l.items)) h.is ∙ leaf_read l h.fits

-- the same of the leaf that is read of them
pub leaf_kept : (bytes starts : List ℕ) (l : Leaf) → IsLeafIn bytes starts l → IsLeafIn bytes starts (leaf_in (length starts) bytes)
leaf_kept bytes starts l h = subst (IsLeafIn bytes starts) (sym (leaf_made bytes starts l h)) h

-- ---- entries

pub entry_read : (e : NodeEntry) (rest : List ℕ) → EntryFits e → entry_in (entry_bytes e ++ rest) ≡ (e, rest)
unfolding entry_in entry_bytes
entry_read e rest h =
    let bytes : List ℕ = entry_bytes e ++ rest in
    let t = two_at e.child (length e.key) bytes (e.key ++ rest) h.child h.key (append_assoc (two e.child (length e.key)) e.key rest) in
    let c = cut_at (second_in bytes) e.key rest t.1 in
    λ i. (record { child = t.0 i; key = (c i).0 }, (c i).1)

pub entries_read : (es : List NodeEntry) → AllByRecursion EntryFits es → entries_in (length es) (flat_map entry_bytes es) ≡ es
unfolding entries_in
entries_read [] h = refl
entries_read (x ∷ xs) h =
    ap (λ (z : NodeEntry × List ℕ). z.0 ∷ entries_in (length xs) z.1) (entry_read x (flat_map entry_bytes xs) h.0) ∙ ap (λ (l : List NodeEntry). x ∷ l) (entries_read xs h.1)

pub node_read : (n : Node) → NodeFits n → node_in (length n.entries) (node_bytes n) ≡ n
unfolding node_in node_bytes
node_read n h =
    let t = number_at n.heir (node_bytes n) (flat_map entry_bytes n.entries) h.heir refl in
    let m : entries_in (length n.entries) (number_in (node_bytes n)).1 ≡ n.entries = ap (λ (x : ℕ × List ℕ). entries_in (length n.entries) x.1) t ∙ entries_read n.entries h.entries in
    λ i. record { heir = (t i).0; entries = m i }

pub node_made : (bytes starts : List ℕ) (n : Node) → IsNodeIn bytes starts n → node_in (length starts) bytes ≡ n
node_made bytes starts n h =
    let long : length starts ≡ length n.entries = ap length h.begin ∙ starts_long entry_bytes _ n.entries in
    ap (λ (k : ℕ). node_in k bytes) long ∙ ap (node_in (length n.entries)) h.is ∙ node_read n h.fits

pub node_kept : (bytes starts : List ℕ) (n : Node) → IsNodeIn bytes starts n → IsNodeIn bytes starts (node_in (length starts) bytes)
node_kept bytes starts n h = subst (IsNodeIn bytes starts) (sym (node_made bytes starts n h)) h

-- ---- numbers of one byte

pub small_read : (n : ℕ) (rest : List ℕ) → n < 128 → number_in (n ∷ rest) ≡ (n, rest)
small_read n rest h = ap (λ (l : List ℕ). number_in (l ++ rest)) (sym (one_spelled n h)) ∙ number_read n rest (omega (arith, h))

-- three of them
pub small_three : (k f m : ℕ) (bytes rest : List ℕ) → bytes ≡ k ∷ f ∷ m ∷ rest → k < 128 → f < 128 → m < 128 → ((number_in bytes).0 ≡ k) × ((second_in bytes).0 ≡ f) × (third_in bytes ≡ (m, rest))
small_three k f m bytes rest is lk lf lm =
    let one : number_in bytes ≡ (k, f ∷ m ∷ rest) = ap number_in is ∙ small_read k (f ∷ m ∷ rest) lk in
    let two : second_in bytes ≡ (f, m ∷ rest) = ap (λ (x : ℕ × List ℕ). number_in x.1) one ∙ small_read f (m ∷ rest) lf in
    (ap (λ (x : ℕ × List ℕ). x.0) one, ap (λ (x : ℕ × List ℕ). x.0) two, ap (λ (x : ℕ × List ℕ). number_in x.1) two ∙ small_read m rest lm)
