-- Rows that are walked from the root down.
use Rattle.std.proofs.Common.{◌≡◌, ◌≢◌, ◌↔◌, ℕ, zero, suc, ◌+◌, ◌<◌, ◌≤◌, ◌⊎◌, List, [], ◌∷◌, ◌++◌, Bool, true, false, Option, Some, None, length, map, take, drop, get_or, refl, sym, ap, ◌∙◌, subst, inl, inr, ⊎_elim, arith, append_assoc, length-append}
use Rattle.std.specs.Prelude.{◌==◌, ◌||◌, nat_lt, IsTrue, if◌then◌else◌}
use Rattle.std.specs.BTreeSet.{BTreeSet, btree_set_len, contains}
use Rattle.std.proofs.lemmas.List.{append-nil, length-map, take_more, take-append-drop}
use Rattle.std.proofs.lemmas.Bool.{cases_eq, cases_lt, ne_eqb, eq-eqb, lt-ltb, le-ltb}
use Rattle.bt_page.specs.declared.page.Leaf.{Leaf}
use Rattle.bt_page.specs.declared.page.Node.{Node}
use Rattle.bt_page.specs.Keys.{node_offset, key_of}
use Rattle.bt_rows.specs.declared.head.TreeHead.{TreeHead}
use Rattle.bt_rows.specs.declared.page.Page.{Page}
use Rattle.bt_rows.specs.declared.page.Page.TheVariants.{Leaf as leaf_page, Node as node_page}
use Rattle.bt_rows.specs.declared.page.Slot.{Slot}
use Rattle.bt_rows.specs.Pages.{Map, PageMap, IsGiven, IsHeldAs, AreHeld}
use Rattle.bt_rows.specs.declared.page.LeafAt.{LeafAt}
use Rattle.bt_rows.specs.Rows.{entry_slot, root_slot, children_of, children_at, leaf_at, next_row, leaves_among, row, leaves_in, times, reached, held, HasLeaf}
use Rattle.bt_rows.specs.Rules.{B3}
use Rattle.bt_rows.proofs.Building.{held_is, held_most, reached_nil, row_nil, times-front}
use Rattle.bt_check.specs.Collected.{IsSetTo, has}
use Rattle.bt_check.specs.ReadPages.{IsReadAs}
use Rattle.bt_check.specs.Walks.{AreThere, IsNextOf, IsStuck, IsTakenOut, IsWalked, SpreadsOn, leaf_places}
use Rattle.bt_check.specs.declared.rows.Naming.{Naming}
use Rattle.bt_check.specs.declared.rows.Walked.{Walked}
use Rattle.bt_check.proofs.Collects.{has_bound}
use Rattle.bt_check.proofs.Sets.{apart}
use Rattle.std.specs.Ordering.{nat_cmp, is_eq}
use Rattle.bt_rows.proofs.Held.{decided}

abbrev pub heir_slot : Option (List ℕ) → Node → Slot
heir_slot bound n = record { bound = bound; id = n.heir }

-- ---- lists of places

pub among-append : (pages : PageMap) (xs ys : List Slot) → leaves_among pages (xs ++ ys) ≡ leaves_among pages xs ++ leaves_among pages ys
among-append pages [] ys = refl
among-append pages (x ∷ xs) ys = ap (λ t. leaf_at x (pages x.id) ++ t) (among-append pages xs ys) ∙ sym (append_assoc (leaf_at x (pages x.id)) (leaves_among pages xs) (leaves_among pages ys))

times-append : (id : ℕ) (xs ys : List Slot) → times id (xs ++ ys) ≡ times id xs + times id ys
times-append id [] ys = omega arith
times-append id (x ∷ xs) ys = omega (arith, times-append id xs ys)

-- ---- one place

pub page_of : (pages : PageMap) (id : ℕ) → held pages id ≡ 1 → (p : Page) × (pages id ≡ Some p)
page_of pages id e = held_is (pages id) e

given_held : (h : TreeHead) (m : Map) (pages : PageMap) (id : ℕ) (p : Page) → AreHeld h m pages → pages id ≡ Some p → IsGiven h id
given_held h m pages id p a e = ⊎_elim (λ (g : IsGiven h id). g) (λ (not : IsGiven h id → ⊥). absurd (let bad = sym (a.others id not) ∙ e in cc)) (decided h id)

-- what is read of a page is that page
read_is : (h : TreeHead) (m : Map) (pages : PageMap) (id : ℕ) (r : Option Page) (p : Page) → AreHeld h m pages → pages id ≡ Some p → IsReadAs id (m (key_of id)) r → r ≡ Some p
read_is h m pages id r p a e read = go (m (key_of id)) r (subst (IsHeldAs id (m (key_of id))) e (a.given id (given_held h m pages id p a e))) read
  where
    go : (o : Option (List ℕ)) (r : Option Page) → IsHeldAs id o (Some p) → IsReadAs id o r → r ≡ Some p
    go None r h read = absurd h
    go (Some bytes) None h read = absurd (read p h)
    go (Some bytes) (Some q) h read = ap (λ (x : Page). Some x) (sym (read.1 p h))

leaf_below : (h : TreeHead) (m : Map) (pages : PageMap) (id : ℕ) (p : Page) → AreHeld h m pages → pages id ≡ Some p → id < node_offset → (l : Leaf) × (pages id ≡ Some (leaf_page l))
leaf_below h m pages id (leaf_page l) a e lt = (l, e)
leaf_below h m pages id (node_page n) a e lt = absurd (go (m (key_of id)) (subst (IsHeldAs id (m (key_of id))) e (a.given id (given_held h m pages id (node_page n) a e))))
  where
    go : (o : Option (List ℕ)) → IsHeldAs id o (Some (node_page n)) → ⊥
    go None h = h
    go (Some bytes) h = omega (arith, lt, h.0)

node_above : (h : TreeHead) (m : Map) (pages : PageMap) (id : ℕ) (p : Page) → AreHeld h m pages → pages id ≡ Some p → node_offset ≤ id → (n : Node) × (pages id ≡ Some (node_page n))
node_above h m pages id (node_page n) a e le = (n, e)
node_above h m pages id (leaf_page l) a e le = absurd (go (m (key_of id)) (subst (IsHeldAs id (m (key_of id))) e (a.given id (given_held h m pages id (leaf_page l) a e))))
  where
    go : (o : Option (List ℕ)) → IsHeldAs id o (Some (leaf_page l)) → ⊥
    go None h = h
    go (Some bytes) h = omega (arith, le, h.0)

same_spread : (children : List Slot) (next : Naming) → children ≡ [] → SpreadsOn children next next
same_spread children next e = record {
  added = λ fits. (fits, sym (ap (λ t. next.places ++ t) e ∙ append-nil next.places));
  over = λ full. inl full;
}

-- nothing is below a leaf
pub spread_leaf : (h : TreeHead) (m : Map) (pages : PageMap) (s : Slot) (next : Naming) → AreHeld h m pages → held pages s.id ≡ 1 → s.id < node_offset → SpreadsOn (children_at s (pages s.id)) next next
spread_leaf h m pages s next a one lt =
    let p = page_of pages s.id one in
    let l = leaf_below h m pages s.id p.0 a p.1 lt in
    same_spread (children_at s (pages s.id)) next (ap (children_at s) l.1)

-- nor below what isn't read as a node
pub spread_none : (h : TreeHead) (m : Map) (pages : PageMap) (s : Slot) (next : Naming) (r : Option Page) → AreHeld h m pages → held pages s.id ≡ 1 → IsReadAs s.id (m (key_of s.id)) r → ((n : Node) → r ≡ Some (node_page n) → ⊥) → SpreadsOn (children_at s (pages s.id)) next next
spread_none h m pages s next r a one read not = let p = page_of pages s.id one in go p.0 p.1 (read_is h m pages s.id r p.0 a p.1 read)
  where
    go : (p : Page) → pages s.id ≡ Some p → r ≡ Some p → SpreadsOn (children_at s (pages s.id)) next next
    go (leaf_page l) e is = same_spread (children_at s (pages s.id)) next (ap (children_at s) e)
    go (node_page n) e is = absurd (not n is)

-- what a node names is in the room that is left
pub named_within : (places : List Slot) (bound : Option (List ℕ)) (n : Node) (room : ℕ) → length places + length n.entries < room → length (places ++ children_of bound n) ≤ room
named_within places bound n room lt = omega (arith, lt, length-append places (children_of bound n), length-map n.entries entry_slot)

-- what a node names, or that there was no room for it
pub spread_node : (h : TreeHead) (m : Map) (pages : PageMap) (s : Slot) (old new : Naming) (n : Node) (r : Option Page) → AreHeld h m pages → held pages s.id ≡ 1 → IsReadAs s.id (m (key_of s.id)) r → r ≡ Some (node_page n) → SpreadsOn (children_of s.bound n) old new → SpreadsOn (children_at s (pages s.id)) old new
spread_node h m pages s old new n r a one read is e =
    let p = page_of pages s.id one in
    let here : pages s.id ≡ Some (node_page n) = p.1 ∙ sym (read_is h m pages s.id r p.0 a p.1 read) ∙ is in
    subst (λ (xs : List Slot). SpreadsOn xs old new) (sym (ap (children_at s) here)) e

-- ---- places of leaves

pub kept_leaf : (s : Slot) → s.id < node_offset → leaf_places (s ∷ []) ≡ s ∷ []
kept_leaf s lt = let t : nat_lt s.id node_offset ≡ true = lt-ltb s.id node_offset lt in ap (λ (b : Bool). (if b then s ∷ [] else []) ++ []) t

pub kept_none : (s : Slot) → node_offset ≤ s.id → leaf_places (s ∷ []) ≡ []
kept_none s le = let t : nat_lt s.id node_offset ≡ false = le-ltb s.id node_offset le in ap (λ (b : Bool). (if b then s ∷ [] else []) ++ []) t

pub kept-append : (xs ys : List Slot) → leaf_places (xs ++ ys) ≡ leaf_places xs ++ leaf_places ys
kept-append [] ys = refl
kept-append (x ∷ xs) ys = ap (λ t. (if nat_lt x.id node_offset then x ∷ [] else []) ++ t) (kept-append xs ys) ∙ sym (append_assoc (if nat_lt x.id node_offset then x ∷ [] else []) (leaf_places xs) (leaf_places ys))

-- in one place
record KeepsOne (pages : PageMap) (s : Slot) : Type 0 where
  among : leaves_among pages (leaf_places (s ∷ [])) ≡ leaf_at s (pages s.id)
  many : length (leaf_places (s ∷ [])) ≡ length (leaf_at s (pages s.id))

keeps_one : (h : TreeHead) (m : Map) (pages : PageMap) (s : Slot) → AreHeld h m pages → held pages s.id ≡ 1 → KeepsOne pages s
keeps_one h m pages s a one = ⊎_elim
    (λ (lt : s.id < node_offset).
    let l = leaf_below h m pages s.id p.0 a p.1 lt in
    let at : leaf_at s (pages s.id) ≡ record { slot = s; leaf = l.0 } ∷ [] = ap (leaf_at s) l.1 in
    record {
      among = ap (leaves_among pages) (kept_leaf s lt) ∙ append-nil (leaf_at s (pages s.id));
      many = ap (λ (t : List Slot). length t) (kept_leaf s lt) ∙ sym (ap (λ (t : List LeafAt). length t) at);
    })
    (λ (le : node_offset ≤ s.id).
    let n = node_above h m pages s.id p.0 a p.1 le in
    let at : leaf_at s (pages s.id) ≡ [] = ap (leaf_at s) n.1 in
    record {
      among = ap (leaves_among pages) (kept_none s le) ∙ sym at;
      many = ap (λ (t : List Slot). length t) (kept_none s le) ∙ sym (ap (λ (t : List LeafAt). length t) at);
    })
    (cases_lt s.id node_offset)
  where
    p : (q : Page) × (pages s.id ≡ Some q)
    p = page_of pages s.id one

first_there : (pages : PageMap) (s : Slot) (ss : List Slot) → AreThere pages (s ∷ ss) → held pages s.id ≡ 1
first_there pages s ss there = there s.id (omega (arith, times-front s.id s ss refl))

rest_there : (pages : PageMap) (s : Slot) (ss : List Slot) → AreThere pages (s ∷ ss) → AreThere pages ss
rest_there pages s ss there id lt = there id (omega (arith, lt))

-- the leaves of a row are those of the places that are kept
pub kept_among : (h : TreeHead) (m : Map) (pages : PageMap) (slots : List Slot) → AreHeld h m pages → AreThere pages slots → leaves_among pages (leaf_places slots) ≡ leaves_among pages slots
kept_among h m pages [] a there = refl
kept_among h m pages (s ∷ ss) a there =
    let one = keeps_one h m pages s a (first_there pages s ss there) in
    ap (leaves_among pages) (kept-append (s ∷ []) ss) ∙ among-append pages (leaf_places (s ∷ [])) (leaf_places ss) ∙ ap (λ t. t ++ leaves_among pages (leaf_places ss)) one.among ∙ ap (λ t. leaf_at s (pages s.id) ++ t) (kept_among h m pages ss a (rest_there pages s ss there))

pub kept_many : (h : TreeHead) (m : Map) (pages : PageMap) (slots : List Slot) → AreHeld h m pages → AreThere pages slots → length (leaf_places slots) ≡ length (leaves_among pages slots)
kept_many h m pages [] a there = refl
kept_many h m pages (s ∷ ss) a there =
    let one = keeps_one h m pages s a (first_there pages s ss there) in
    let rest = kept_many h m pages ss a (rest_there pages s ss there) in
    omega (arith, one.many, rest, ap (λ (t : List Slot). length t) (kept-append (s ∷ []) ss), length-append (leaf_places (s ∷ [])) (leaf_places ss), length-append (leaf_at s (pages s.id)) (leaves_among pages ss))

kept_times : (id : ℕ) (slots : List Slot) → times id (leaf_places slots) ≤ times id slots
kept_times id [] = omega arith
kept_times id (s ∷ ss) = omega (arith, kept_times id ss, ap (times id) (kept-append (s ∷ []) ss), times-append id (leaf_places (s ∷ [])) (leaf_places ss), one_time (nat_lt s.id node_offset))
  where
    one_time : (b : Bool) → times id ((if b then s ∷ [] else []) ++ []) ≤ times id (s ∷ [])
    one_time true = omega arith
    one_time false = omega arith

-- ---- a row

next-append : (pages : PageMap) (xs ys : List Slot) → next_row pages (xs ++ ys) ≡ next_row pages xs ++ next_row pages ys
next-append pages [] ys = refl
next-append pages (x ∷ xs) ys = ap (λ t. children_at x (pages x.id) ++ t) (next-append pages xs ys) ∙ sym (append_assoc (children_at x (pages x.id)) (next_row pages xs) (next_row pages ys))

pub there_front : (pages : PageMap) (front : List Slot) (s : Slot) → AreThere pages (front ++ s ∷ []) → AreThere pages front
there_front pages front s there id lt = there id (omega (arith, lt, times-append id front (s ∷ [])))

pub there_last : (pages : PageMap) (front : List Slot) (s : Slot) → AreThere pages (front ++ s ∷ []) → held pages s.id ≡ 1
there_last pages front s there = there s.id (omega (arith, times-append s.id front (s ∷ []), times-front s.id s [] refl))

-- one place more
pub next_start : (pages : PageMap) (room : ℕ) (next : Naming) → next.places ≡ [] → next.full ≡ false → IsNextOf (next_row pages []) room next
next_start pages room next none fits = record { all = λ e. none; over = λ e. absurd (let bad = sym fits ∙ e in cc) }

pub next_more : (pages : PageMap) (front : List Slot) (s : Slot) (room : ℕ) (next next' : Naming) → next.room ≡ room → (AreThere pages front → IsNextOf (next_row pages front) room next) → (held pages s.id ≡ 1 → SpreadsOn (children_at s (pages s.id)) next next') → AreThere pages (front ++ s ∷ []) → IsNextOf (next_row pages (front ++ s ∷ [])) room next'
next_more pages front s room next next' same so_far one there =
    let was = so_far (there_front pages front s there) in
    let on = one (there_last pages front s there) in
    let children : List Slot = children_at s (pages s.id) in
    let joined : next_row pages (front ++ s ∷ []) ≡ next_row pages front ++ children = next-append pages front (s ∷ []) ∙ ap (λ t. next_row pages front ++ t) (append-nil children) in
    let long : length (next_row pages (front ++ s ∷ [])) ≡ length (next_row pages front) + length children = ap (λ (t : List Slot). length t) joined ∙ length-append (next_row pages front) children in
    let past : next.full ≡ true → room < length (next_row pages (front ++ s ∷ [])) = λ e. omega (arith, long, was.over e) in
    record {
      all = λ e. let k = on.added e in k.1 ∙ ap (λ t. t ++ children) (was.all k.0) ∙ sym joined;
      over = λ e. ⊎_elim past (λ (more : next.room < length (next.places ++ children)). full_or children past was.all more long (length-append next.places children) same next.full refl) (on.over e);
    }
  where
    full_or : (children : List Slot) → (next.full ≡ true → room < length (next_row pages (front ++ s ∷ []))) → (next.full ≡ false → next.places ≡ next_row pages front) → next.room < length (next.places ++ children)
        → length (next_row pages (front ++ s ∷ [])) ≡ length (next_row pages front) + length children → length (next.places ++ children) ≡ length next.places + length children → next.room ≡ room → (b : Bool) → next.full ≡ b → room < length (next_row pages (front ++ s ∷ []))
    full_or children past all more long joined same true e = past e
    full_or children past all more long joined same false e = omega (arith, more, long, joined, same, ap (λ (t : List Slot). length t) (all e))

pub kept_more : (front : List Slot) (s : Slot) (start kept kept' : List Slot) → kept ≡ start ++ leaf_places front → kept' ≡ kept ++ leaf_places (s ∷ []) → kept' ≡ start ++ leaf_places (front ++ s ∷ [])
kept_more front s start kept kept' so_far one =
    one ∙ ap (λ t. t ++ leaf_places (s ∷ [])) so_far ∙ append_assoc start (leaf_places front) (leaf_places (s ∷ [])) ∙ ap (λ t. start ++ t) (sym (kept-append front (s ∷ [])))

-- a list that was given item by item
pub given_all : (items given : List Slot) → map (λ y. y) given ≡ items → given ≡ items
given_all items given e = sym (map_same given) ∙ e
  where
    map_same : (xs : List Slot) → map (λ y. y) xs ≡ xs
    map_same [] = refl
    map_same (x ∷ xs) = ap (λ t. x ∷ t) (map_same xs)

-- the ids of a front were taken out, and that of one place more
taken_more : (front : List Slot) (s : Slot) (old ids new : BTreeSet ℕ) → IsTakenOut front old ids → has ids s.id ≡ 1 → IsSetTo s.id 0 ids new → IsTakenOut (front ++ s ∷ []) old new
taken_more front s old ids new taken one gone id = ⊎_elim
    (λ (is : id ≡ s.id).
    let t : (id == s.id) ≡ true = eq-eqb id s.id is in
    let none : has new id ≡ 0 = gone id ∙ rw t refl in
    let was : has ids id ≡ 1 = ap (has ids) is ∙ one in
    omega (arith, none, was, taken id, times-append id front (s ∷ []), times-front id s [] (sym is)))
    (λ (ne : id ≡ s.id → ⊥).
    let t : (id == s.id) ≡ false = ne_eqb id s.id ne in
    let same : has new id ≡ has ids id = gone id ∙ rw t refl in
    omega (arith, same, taken id, times-append id front (s ∷ []), times_none id s (λ e. ne (sym e))))
    (cases_eq id s.id)
  where
    times_none : (id : ℕ) (s : Slot) → s.id ≢ id → times id (s ∷ []) ≡ 0
    times_none id s ne = let t : (s.id == id) ≡ false = ne_eqb s.id id ne in rw t refl

front_more : (slots items : List Slot) (i : ℕ) (s : Slot) → items ≡ slots → i < length items → s ≡ get_or items i s → take (i + 1) slots ≡ take i slots ++ s ∷ []
front_more slots items i s are lt is = subst (λ (xs : List Slot). take (i + 1) xs ≡ take i xs ++ s ∷ []) are (take_more items i s lt ∙ ap (λ (y : Slot). take i items ++ y ∷ []) (sym is))

pub taken_at : (slots items : List Slot) (i : ℕ) (s : Slot) (old ids new : BTreeSet ℕ) → items ≡ slots → i < length items → s ≡ get_or items i s → IsTakenOut (take i slots) old ids → has ids s.id ≡ 1 → IsSetTo s.id 0 ids new → IsTakenOut (take (i + 1) slots) old new
taken_at slots items i s old ids new are lt is taken one gone = subst (λ (t : List Slot). IsTakenOut t old new) (sym (front_more slots items i s are lt is)) (taken_more (take i slots) s old ids new taken one gone)

-- a place that isn't in the set makes the row stuck
pub stuck_at : (slots items : List Slot) (i : ℕ) (s : Slot) (old ids : BTreeSet ℕ) → items ≡ slots → i < length items → s ≡ get_or items i s → IsTakenOut (take i slots) old ids → has ids s.id ≡ 0 → IsStuck old slots
stuck_at slots items i s old ids are lt is taken none all =
    omega (arith, all s.id, taken s.id, none, times-append s.id (take (i + 1) slots) (drop (i + 1) slots), ap (times s.id) (take-append-drop (i + 1) slots), ap (times s.id) (front_more slots items i s are lt is), times-append s.id (take i slots) (s ∷ []), times-front s.id s [] refl)

pub no_row : (slots : List Slot) → length slots ≤ 0 → slots ≡ []
no_row [] le = refl
no_row (s ∷ ss) le = absurd (omega (arith, le))

-- ---- rows of the whole

pub row_past : (pages : PageMap) (k i : ℕ) (slots : List Slot) → row pages k slots ≡ [] → k ≤ i → row pages i slots ≡ []
row_past pages zero i slots e le = ap (row pages i) e ∙ row_nil pages i
row_past pages (suc k) zero slots e le = absurd (omega (arith, le))
row_past pages (suc k) (suc i) slots e le = row_past pages k i (next_row pages slots) e (omega (arith, le))

row_next : (pages : PageMap) (k : ℕ) (slots : List Slot) → row pages (suc k) slots ≡ next_row pages (row pages k slots)
row_next pages zero slots = refl
row_next pages (suc k) slots = row_next pages k (next_row pages slots)

reached_next : (pages : PageMap) (id k : ℕ) (slots : List Slot) → reached pages id (suc k) slots ≡ reached pages id k slots + times id (row pages k slots)
reached_next pages id zero slots = omega arith
reached_next pages id (suc k) slots = omega (arith, reached_next pages id k (next_row pages slots))

leaves_next : (pages : PageMap) (k : ℕ) (slots : List Slot) → leaves_in pages (suc k) slots ≡ leaves_in pages k slots ++ leaves_among pages (row pages k slots)
leaves_next pages zero slots = append-nil (leaves_among pages slots)
leaves_next pages (suc k) slots = ap (λ t. leaves_among pages slots ++ t) (leaves_next pages k (next_row pages slots)) ∙ sym (append_assoc (leaves_among pages slots) (leaves_in pages k (next_row pages slots)) (leaves_among pages (row pages k (next_row pages slots))))

times_nil : (id : ℕ) (slots : List Slot) → slots ≡ [] → times id slots ≡ 0
times_nil id slots e = ap (times id) e

-- what some rows name is named by all rows
reached_prefix : (pages : PageMap) (id k d : ℕ) (slots : List Slot) → row pages d slots ≡ [] → reached pages id k slots + times id (row pages k slots) ≤ reached pages id d slots
reached_prefix pages id k zero slots e = omega (arith, ap (reached pages id k) e, reached_nil pages id k, times_nil id (row pages k slots) (row_past pages zero k slots e (omega arith)))
reached_prefix pages id zero (suc d) slots e = omega arith
reached_prefix pages id (suc k) (suc d) slots e = omega (arith, reached_prefix pages id k d (next_row pages slots) e)

-- a leaf in one of so many rows is one of their leaves, and the other way round
leaf_counts : (pages : PageMap) (k i : ℕ) (slots : List Slot) → i < k → HasLeaf pages (row pages i slots) → 0 < length (leaves_in pages k slots)
leaf_counts pages zero i slots lt has = absurd (omega (arith, lt))
leaf_counts pages (suc k) zero slots lt has = omega (arith, has, length-append (leaves_among pages slots) (leaves_in pages k (next_row pages slots)))
leaf_counts pages (suc k) (suc i) slots lt has = omega (arith, leaf_counts pages k i (next_row pages slots) (omega (arith, lt)) has, length-append (leaves_among pages slots) (leaves_in pages k (next_row pages slots)))

record LeafRow (pages : PageMap) (k : ℕ) (slots : List Slot) : Type 0 where
  at : ℕ
  within : at < k
  some : HasLeaf pages (row pages at slots)

leaf_row : (pages : PageMap) (k : ℕ) (slots : List Slot) → 0 < length (leaves_in pages k slots) → LeafRow pages k slots
leaf_row pages zero slots lt = absurd (omega (arith, lt))
leaf_row pages (suc k) slots lt = ⊎_elim
    (λ (here : 0 < length (leaves_among pages slots)). record { at = 0; within = omega arith; some = here })
    (λ (none : length (leaves_among pages slots) ≤ 0).
    let below = leaf_row pages k (next_row pages slots) (omega (arith, lt, none, length-append (leaves_among pages slots) (leaves_in pages k (next_row pages slots)))) in
    record { at = suc below.at; within = omega (arith, below.within); some = below.some })
    (cases_lt 0 (length (leaves_among pages slots)))

-- so many rows were walked, and these places of leaves kept
pub record Walking (pages : PageMap) (root : ℕ) (slots : List Slot) (ids : BTreeSet ℕ) (kept : List Slot) (uneven : Bool) (k : ℕ) : Type 0 where
  pub at : slots ≡ row pages k (root_slot root ∷ [])
  pub count : (id : ℕ) → has ids id + reached pages id k (root_slot root ∷ []) ≡ held pages id
  pub among : leaves_among pages kept ≡ leaves_in pages k (root_slot root ∷ [])
  pub many : length kept ≡ length (leaves_in pages k (root_slot root ∷ []))
  pub named : (id : ℕ) → times id kept ≤ reached pages id k (root_slot root ∷ [])
  pub even : uneven ≡ false → (i j : ℕ) → i < k → j < k → HasLeaf pages (row pages i (root_slot root ∷ [])) → HasLeaf pages (row pages j (root_slot root ∷ [])) → i ≡ j
  pub odd : uneven ≡ true → (i : ℕ) × (j : ℕ) × (i < j) × HasLeaf pages (row pages i (root_slot root ∷ [])) × HasLeaf pages (row pages j (root_slot root ∷ []))
  pub last : (j : ℕ) → k ≡ suc j → 0 < length (row pages j (root_slot root ∷ []))

pub walking_none : (pages : PageMap) (root : ℕ) (ids : BTreeSet ℕ) (slots kept : List Slot) → slots ≡ root_slot root ∷ [] → kept ≡ [] → ((id : ℕ) → has ids id ≡ held pages id) → Walking pages root slots ids kept false 0
walking_none pages root ids slots kept e none all = record {
  at = e;
  count = λ id. omega (arith, all id);
  among = ap (leaves_among pages) none;
  many = ap (λ (t : List Slot). length t) none;
  named = λ id. omega (arith, ap (times id) none);
  even = λ e i j lt. absurd (omega (arith, lt));
  odd = λ e. absurd cc;
  last = λ j e. absurd (omega (arith, e));
}

-- the pages that the next row names are held, where its ids can be taken out
pub walking_there : (pages : PageMap) (root : ℕ) (slots kept : List Slot) (ids new : BTreeSet ℕ) (uneven : Bool) (k : ℕ) → Walking pages root slots ids kept uneven k → IsTakenOut slots ids new → AreThere pages slots
walking_there pages root slots kept ids new uneven k w taken id lt = omega (arith, lt, taken id, w.count id, held_most pages id)

module _ (h : TreeHead) (m : Map) (pages : PageMap) (a : AreHeld h m pages) (root : ℕ) (slots kept next kept' : List Slot) (ids new : BTreeSet ℕ) (uneven uneven' : Bool) (k : ℕ) (some : 0 < length slots) (w : Walking pages root slots ids kept uneven k)
    (taken : IsTakenOut slots ids new) (next_is : next ≡ next_row pages slots) (kept_is : kept' ≡ kept ++ leaf_places slots) (tells : IsTrue uneven' ↔ (IsTrue uneven ⊎ ((0 < length kept) × (length kept < length kept')))) where
  root_row : List Slot
  root_row = root_slot root ∷ []

  there : AreThere pages slots
  there = walking_there pages root slots kept ids new uneven k w taken

  -- so many leaves stand in the row
  here : length kept' ≡ length kept + length (leaves_among pages (row pages k (root_slot root ∷ [])))
  here = omega (arith, ap (λ (t : List Slot). length t) kept_is, length-append kept (leaf_places slots), kept_many h m pages slots a there, ap (λ (t : List Slot). length (leaves_among pages t)) w.at)

  -- none stand above it
  alone : (length kept < length kept' → 0 < length kept → ⊥) → HasLeaf pages (row pages k (root_slot root ∷ [])) → (i : ℕ) → i < k → HasLeaf pages (row pages i (root_slot root ∷ [])) → ⊥
  alone not has i lt above = not (omega (arith, here, has)) (omega (arith, w.many, leaf_counts pages k i (root_slot root ∷ []) lt above))

  evens : uneven' ≡ false → (i j : ℕ) → i < suc k → j < suc k → HasLeaf pages (row pages i (root_slot root ∷ [])) → HasLeaf pages (row pages j (root_slot root ∷ [])) → i ≡ j
  evens e i j lt lt' a b = ⊎_elim
      (λ (is : i ≡ k). ⊎_elim
      (λ (js : j ≡ k). is ∙ sym js)
      (λ (nj : j ≡ k → ⊥). absurd (alone not (subst (λ (n : ℕ). HasLeaf pages (row pages n (root_slot root ∷ []))) is a) j (omega (arith, lt', nj)) b)) (cases_eq j k))
      (λ (ni : i ≡ k → ⊥). ⊎_elim
      (λ (js : j ≡ k). absurd (alone not (subst (λ (n : ℕ). HasLeaf pages (row pages n (root_slot root ∷ []))) js b) i (omega (arith, lt, ni)) a))
      (λ (nj : j ≡ k → ⊥). w.even (was uneven refl) i j (omega (arith, lt, ni)) (omega (arith, lt', nj)) a b) (cases_eq j k)) (cases_eq i k)
    where
      not : length kept < length kept' → 0 < length kept → ⊥
      not more some = let t : uneven' ≡ true = tells.1 (inr (some, more)) in let bad = sym e ∙ t in cc

      was : (b : Bool) → uneven ≡ b → uneven ≡ false
      was false is = is
      was true is = absurd (let t : uneven' ≡ true = tells.1 (inl is) in let bad = sym e ∙ t in cc)

  odds : uneven' ≡ true → (i : ℕ) × (j : ℕ) × (i < j) × HasLeaf pages (row pages i (root_slot root ∷ [])) × HasLeaf pages (row pages j (root_slot root ∷ []))
  odds e = ⊎_elim w.odd
      (λ (both : (0 < length kept) × (length kept < length kept')).
      let above = leaf_row pages k (root_slot root ∷ []) (omega (arith, both.0, w.many)) in
      (above.at, k, above.within, above.some, omega (arith, here, both.1)))
      (tells.0 e)

  pub walking_more : Walking pages root next new kept' uneven' (k + 1)
  walking_more =
      let more : suc k ≡ k + 1 = omega arith in
      subst (λ (n : ℕ). Walking pages root next new kept' uneven' n) more
      (record {
        at = next_is ∙ ap (next_row pages) w.at ∙ sym (row_next pages k (root_slot root ∷ []));
        count = λ id. omega (arith, taken id, w.count id, reached_next pages id k (root_slot root ∷ []), ap (times id) w.at);
        among = ap (leaves_among pages) kept_is ∙ among-append pages kept (leaf_places slots) ∙ ap (λ t. t ++ leaves_among pages (leaf_places slots)) w.among
            ∙ ap (λ t. leaves_in pages k (root_slot root ∷ []) ++ t) (kept_among h m pages slots a there ∙ ap (leaves_among pages) w.at) ∙ sym (leaves_next pages k (root_slot root ∷ []));
        many = omega (arith, here, w.many, ap (λ (t : List LeafAt). length t) (leaves_next pages k (root_slot root ∷ [])), length-append (leaves_in pages k (root_slot root ∷ [])) (leaves_among pages (row pages k (root_slot root ∷ []))));
        named = λ id. omega (arith, ap (times id) kept_is, times-append id kept (leaf_places slots), w.named id, kept_times id slots, reached_next pages id k (root_slot root ∷ []), ap (times id) w.at);
        even = evens;
        odd = odds;
        last = λ j e. let is : k ≡ j = omega (arith, e) in omega (arith, some, ap (λ (t : List Slot). length t) (w.at ∙ ap (λ (i : ℕ). row pages i (root_slot root ∷ [])) is));
      })

-- the same of numbers that are those
pub uneven_as : (b u : Bool) (k n i j : ℕ) → k ≡ i → n ≡ j → IsTrue b ↔ (IsTrue u ⊎ ((0 < k) × (k < n))) → IsTrue b ↔ (IsTrue u ⊎ ((0 < i) × (i < j)))
uneven_as b u k n i j e f tells = subst (λ (x : ℕ). IsTrue b ↔ (IsTrue u ⊎ ((0 < x) × (x < j)))) e (subst (λ (y : ℕ). IsTrue b ↔ (IsTrue u ⊎ ((0 < k) × (k < y)))) f tells)

-- ---- rows of more places than pages are left

abbrev without : ℕ → List Slot → List Slot
without id [] = []
without id (s ∷ ss) = (if s.id == id then [] else s ∷ []) ++ without id ss

without_long : (id : ℕ) (ss : List Slot) → length ss ≡ times id ss + length (without id ss)
without_long id [] = omega arith
without_long id (s ∷ ss) = (elim (s.id == id) as (λ b. suc (length ss) ≡ (if b then 1 else 0) + times id ss + length ((if b then [] else s ∷ []) ++ without id ss)) [
  | true ↦ omega (arith, without_long id ss)
  | false ↦ omega (arith, without_long id ss)
])

without_less : (id x : ℕ) (ss : List Slot) → times x (without id ss) ≤ times x ss
without_less id x [] = omega arith
without_less id x (s ∷ ss) = (elim (s.id == id) as (λ b. times x ((if b then [] else s ∷ []) ++ without id ss) ≤ times x (s ∷ ss)) [
  | true ↦ omega (arith, without_less id x ss)
  | false ↦ omega (arith, without_less id x ss)
])

without_none : (id : ℕ) (ss : List Slot) → times id (without id ss) ≡ 0
without_none id [] = refl
without_none id (s ∷ ss) = (elim (s.id == id) as (λ b. (s.id == id) ≡ b → times id ((if b then [] else s ∷ []) ++ without id ss) ≡ 0) [
  | true ↦ λ e. without_none id ss
  | false ↦ λ e. rw e (omega (arith, without_none id ss))
]) refl

has_more : (k x : ℕ) (ks : List ℕ) → x ≢ k → has (record { keys = k ∷ ks }) x ≡ has (record { keys = ks }) x
unfolding has
has_more k x ks ne = let f : is_eq (nat_cmp x k) ≡ false = apart x k ne in ap (λ (b : Bool). if b || contains nat_cmp (record { keys = ks }) x then 1 else 0) f

none_has : (id : ℕ) → has (record { keys = [] }) id ≡ 0
unfolding has
none_has id = refl

-- places whose ids are in a set as often as they are named are no more than it has
few_places : (ks : List ℕ) (ss : List Slot) → ((id : ℕ) → times id ss ≤ has (record { keys = ks }) id) → length ss ≤ length ks
few_places [] [] h = omega arith
few_places [] (s ∷ ss) h = absurd (omega (arith, h s.id, times-front s.id s ss refl, none_has s.id))
few_places (k ∷ ks) ss h =
    let rest : length (without k ss) ≤ length ks = few_places ks (without k ss) (λ id. ⊎_elim
    (λ (is : id ≡ k). omega (arith, ap (λ (i : ℕ). times i (without k ss)) is, without_none k ss))
    (λ (ne : id ≡ k → ⊥). omega (arith, without_less k id ss, h id, has_more k id ks ne))
    (cases_eq id k)) in
    omega (arith, without_long k ss, rest, h k, has_bound (record { keys = k ∷ ks }) k)

-- so a row below one that was taken out has no more places than pages are left, in a tree
pub walking_over : (pages : PageMap) (root : ℕ) (slots kept : List Slot) (ids new : BTreeSet ℕ) (uneven : Bool) (k room : ℕ) → Walking pages root slots ids kept uneven k → IsTakenOut slots ids new → room ≡ btree_set_len new → room < length (next_row pages slots) → B3 pages root → ⊥
walking_over pages root slots kept ids new uneven k room w taken is over b =
    let below : next_row pages slots ≡ row pages (suc k) (root_slot root ∷ []) = ap (next_row pages) w.at ∙ sym (row_next pages k (root_slot root ∷ [])) in
    let fits : (id : ℕ) → times id (next_row pages slots) ≤ has new id = λ id. omega (arith, reached_prefix pages id (suc k) b.0 (root_slot root ∷ []) b.1.ends, b.1.once id, taken id, w.count id, reached_next pages id k (root_slot root ∷ []), ap (times id) w.at, ap (times id) below) in
    omega (arith, over, is, few_places new.keys (next_row pages slots) fits)

-- a row that can't be taken out isn't one of a tree
pub walking_stuck : (pages : PageMap) (root : ℕ) (slots kept : List Slot) (ids : BTreeSet ℕ) (uneven : Bool) (k : ℕ) → Walking pages root slots ids kept uneven k → IsStuck ids slots → B3 pages root → ⊥
walking_stuck pages root slots kept ids uneven k w stuck b =
    stuck (λ id. omega (arith, reached_prefix pages id k b.0 (root_slot root ∷ []) b.1.ends, b.1.once id, w.count id, ap (times id) w.at))

pub walking_left : (pages : PageMap) (root : ℕ) (slots kept : List Slot) (ids : BTreeSet ℕ) (uneven : Bool) (k id : ℕ) → Walking pages root slots ids kept uneven k → slots ≡ [] → has ids id ≡ 1 → B3 pages root → ⊥
walking_left pages root slots kept ids uneven k id w none one b =
    omega (arith, reached_prefix pages id b.0 k (root_slot root ∷ []) (sym w.at ∙ none), b.1.once id, w.count id, one)

pub walking_end : (pages : PageMap) (root : ℕ) (slots : List Slot) (ids : BTreeSet ℕ) (x : Walked) → Walking pages root slots ids x.leaves x.uneven x.height → slots ≡ [] → ((id : ℕ) → has ids id ≡ 0) → IsWalked pages root x
walking_end pages root slots ids x w none all = record {
  reach = record { ends = ends; once = once };
  high = record { ends = ends; last = w.last };
  even = λ e i j a b. w.even e i j (within i a) (within j b) a b;
  odd = λ u b4. let o = w.odd u in omega (arith, o.2, b4 o.0 o.1 o.3 o.4);
  placed = λ id lt. omega (arith, lt, w.named id, once id, held_most pages id);
  leaves_are = sym w.among;
}
  where
    ends : row pages x.height (root_slot root ∷ []) ≡ []
    ends = sym w.at ∙ none

    once : (id : ℕ) → reached pages id x.height (root_slot root ∷ []) ≡ held pages id
    once id = omega (arith, all id, w.count id)

    within : (i : ℕ) → HasLeaf pages (row pages i (root_slot root ∷ [])) → i < x.height
    within i has = ⊎_elim (λ (lt : i < x.height). lt) (λ (le : x.height ≤ i). absurd (omega (arith, has, ap (λ (t : List Slot). length (leaves_among pages t)) (row_past pages x.height i (root_slot root ∷ []) ends le)))) (cases_lt i x.height)

-- ---- a leaf that is read

pub leaf_read : (h : TreeHead) (m : Map) (pages : PageMap) (s : Slot) (l : Leaf) (r : Option Page) → AreHeld h m pages → held pages s.id ≡ 1 → IsReadAs s.id (m (key_of s.id)) r → r ≡ Some (leaf_page l) → record { slot = s; leaf = l } ∷ [] ≡ leaf_at s (pages s.id)
leaf_read h m pages s l r a one read is =
    let p = page_of pages s.id one in
    let here : pages s.id ≡ Some (leaf_page l) = p.1 ∙ sym (read_is h m pages s.id r p.0 a p.1 read) ∙ is in
    sym (ap (λ o. leaf_at s o) here)

pub no_leaf_above : (h : TreeHead) (m : Map) (pages : PageMap) (s : Slot) → AreHeld h m pages → held pages s.id ≡ 1 → node_offset ≤ s.id → [] ≡ leaf_at s (pages s.id)
no_leaf_above h m pages s a one le = let p = page_of pages s.id one in let n = node_above h m pages s.id p.0 a p.1 le in sym (ap (λ o. leaf_at s o) n.1)

-- what isn't read as a leaf is none
pub no_leaf_read : (h : TreeHead) (m : Map) (pages : PageMap) (s : Slot) (r : Option Page) → AreHeld h m pages → held pages s.id ≡ 1 → IsReadAs s.id (m (key_of s.id)) r → ((l : Leaf) → r ≡ Some (leaf_page l) → ⊥) → [] ≡ leaf_at s (pages s.id)
no_leaf_read h m pages s r a one read not = let p = page_of pages s.id one in go p.0 p.1 (read_is h m pages s.id r p.0 a p.1 read)
  where
    go : (p : Page) → pages s.id ≡ Some p → r ≡ Some p → [] ≡ leaf_at s (pages s.id)
    go (leaf_page l) e is = absurd (not l is)
    go (node_page n) e is = sym (ap (λ o. leaf_at s o) e)
