-- Items that are shown, leaf by leaf.
use Rattle.std.proofs.Common.{◌≡◌, ◌≢◌, ◌⊎◌, ℕ, ◌+◌, ◌-◌, ◌<◌, ◌≤◌, List, [], ◌∷◌, ◌++◌, Bool, true, false, Option, length, map, take, filter, refl, sym, ap, ◌∙◌, subst, inl, inr, ⊎_elim, arith, append_assoc, length-append}
use Rattle.std.specs.FinMap.{get}
use Rattle.std.specs.List.{AllByRecursion}
use Rattle.std.specs.declared.cmp.Ordering.{Ordering}
use Rattle.std.specs.Cmp.{IsTotalOrder}
use Rattle.std.proofs.lemmas.Bool.{cases_eq}
use Rattle.std.proofs.lemmas.Grind.{flat_map-append}
use Rattle.std.proofs.lemmas.List.{append-nil, append_cancel_left, take_all}
use Rattle.std.proofs.lemmas.List.Elements.{filter-append}
use Rattle.std.proofs.lemmas.Map.Lookups.{CmpEqualImpliesEq}
use Rattle.tc_base.specs.Lists.{pair}
use Rattle.tc_base.specs.Maps.{Map}
use Rattle.tc_base.specs.Orders.{NeverFalls}
use Rattle.tc_base.specs.declared.order.Order.{Ghosts as Orders}
use Rattle.tc_base.specs.declared.order.Side.{Side}
use Rattle.tc_base.specs.declared.order.Side.TheVariants as sides
use Rattle.tc_base.specs.declared.seq.Pair.{Pair}
use Rattle.tc_space.specs.Changes.{inside, is_inside}
use Rattle.tc_space.specs.declared.records.Records.{Ghosts as Stores}
use Rattle.tc_space.specs.declared.space.Space.{Ghosts}
use Rattle.bt_page.specs.Pages.{HasValue}
use Rattle.bt_page.specs.declared.page.Item.{Item}
use Rattle.bt_page.specs.declared.page.Leaf.{Leaf}
use Rattle.bt_rows.specs.declared.head.TreeHead.{TreeHead}
use Rattle.bt_rows.specs.declared.page.LeafAt.{LeafAt}
use Rattle.bt_rows.specs.declared.page.Page.TheVariants.{Leaf as leaf_page}
use Rattle.bt_rows.specs.Orders.{before_by}
use Rattle.bt_rows.specs.Rules.{item_pairs, leaf_pairs, pairs_of}
use Rattle.bt_rows.proofs.Ordered.{orders_are_strict}
use Rattle.bt_cache.specs.Held.{Beside, IsThere}
use Rattle.bt_cache.specs.Shared.{IsSomeLeaf}
use Rattle.bt_ways.specs.Changes.{AreItems, items_pairs}
use Rattle.bt_ways.proofs.Keys.{all_flat, all_items, all_part}
use Rattle.bt_tree.specs.declared.tree.Tree.{Tree}
use Rattle.bt_tree.specs.Finding.{LeadsTo}
use Rattle.bt_tree.specs.Meaning.{IsOpen}
use Rattle.bt_tree.specs.Ranging.{IsScanned, StartsOutside, is_front, is_from, leaves_inside, start_of}
use Rattle.bt_tree.specs.Showing.{Takes}
use Rattle.bt_tree.specs.Trees.{HoldsPairs}
use Rattle.bt_tree.specs.Visiting.{BeginsOutside, CostsVisit, IsLastOne, IsShownOf, IsVisited, Shown, ShowsLeaf, VisitsPairs}
use Rattle.bt_tree.specs.Visits.{Visits}
use Rattle.bt_tree.proofs.Contents.{have, items_of, pairs_items, row_items, rows_ascend}
use Rattle.bt_tree.proofs.Kepts.{ascends_kept, keeps_all, keeps_none, kept_all, kept_short, no_pairs, pairs_kept, pairs_long, some_items}
use Rattle.bt_tree.proofs.Ranges.{Passes, passes_of, passes_then}
use Rattle.bt_tree.proofs.Scans.{Further, Going, going_ascends, going_end, going_first, going_on, going_page, inside_front, inside_one}
use Rattle.bt_tree.proofs.Stretches.{scanned_has, scanned_some}

-- ---- what is inside a stretch

front_out : (s : Side) → is_front s ≡ true → is_inside s ≡ false
front_out sides.Before e = refl
front_out sides.Inside e = absurd (cc)
front_out sides.After e = absurd (cc)

fronts_out : (side : List ℕ → Side) (xs : List Item) → AllByRecursion (λ x. is_front (side x.key) ≡ true) xs → AllByRecursion (λ x. is_inside (side x.key) ≡ false) xs
fronts_out side [] h = tt
fronts_out side (x ∷ xs) h = (front_out (side x.key) h.0, fronts_out side xs h.1)

module _ (side : List ℕ → Side) where
  abbrev is_in : Item → Bool
  is_in x = is_inside (side x.key)

  -- the items that are inside
  abbrev pub ins : List Item → List Item
  ins xs = filter is_in xs

  pub ins-append : (xs ys : List Item) → ins (xs ++ ys) ≡ ins xs ++ ins ys
  ins-append xs ys = filter-append is_in xs ys

  -- their pairs are those that are inside
  pairs_in : (xs : List Item) → items_pairs (ins xs) ≡ inside side (items_pairs xs)
  pairs_in xs = pairs_kept (λ k. is_inside (side k)) xs

  pub row_inside : (ls : List LeafAt) → items_pairs (ins (row_items ls)) ≡ inside side (pairs_of ls)
  row_inside ls = pairs_in (row_items ls) ∙ ap (inside side) (sym (pairs_items ls))

  starts : (first : Item) (rest : List Item) → HasValue first → is_inside (side first.key) ≡ false → StartsOutside side (items_pairs (first ∷ rest))
  starts first rest some out = go first.values some
    where
      go : (vs : List (List ℕ)) → 0 < length vs → StartsOutside side (map (pair first.key) vs ++ items_pairs rest)
      go [] lt = absurd (omega (arith, lt))
      go (v ∷ vs) lt = record { first = pair first.key v; rest = map (pair first.key) vs ++ items_pairs rest; are = refl; outside = out }

  begins : (xs : List Item) → AllByRecursion HasValue xs → BeginsOutside side xs → StartsOutside side (items_pairs xs)
  begins xs some b =
      let values : AllByRecursion HasValue (b.first ∷ b.rest) = subst (AllByRecursion HasValue) b.are some in
      subst (λ (t : List Item). StartsOutside side (items_pairs t)) (sym b.are) (starts b.first b.rest values.0 b.outside)

-- ---- items shown behind others

module _ {T : Type 0} (takes : Takes T) where
  pub shown_all : (xs : List Item) (t mid u : T) (ys : List Item) (more : Bool) → Shown takes t xs mid true → Shown takes mid ys u more → Shown takes t (xs ++ ys) u more
  shown_all [] t mid u ys more s k = subst (λ (m : T). Shown takes m ys u more) s.0 k
  shown_all (x ∷ xs) t mid u ys more s k = (
    s.0,
    ⊎_elim (λ (on : takes t x s.0 true × Shown takes s.0 xs mid true). inl (on.0, shown_all xs s.0 mid u ys more on.1 k)) (λ (last : IsLastOne takes t x xs s.0 mid true). absurd (never last.enough)) s.1,
  )
    where
      never : true ≡ false → ⊥
      never e = cc

  -- ---- one leaf

  module _ (side : List ℕ → Side) (l : Leaf) (t u : T) (next : ℕ) (v : IsShownOf takes side l t u next) where
    pub ins_here : ins side l.items ≡ v.went ++ ins side v.left
    ins_here =
        ap (ins side) v.are
        ∙ ins-append side v.front (v.went ++ v.left)
        ∙ ap (λ (z : List Item). z ++ ins side (v.went ++ v.left)) (keeps_none (is_in side) v.front (fronts_out side v.front v.skipped))
        ∙ ins-append side v.went v.left
        ∙ ap (λ (z : List Item). z ++ ins side v.left) (keeps_all (is_in side) v.went v.inside)

    -- nothing is left where it goes on
    pub ins_on : next ≢ 0 → ins side l.items ≡ v.went
    ins_on on = ins_here ∙ ap (λ (z : List Item). v.went ++ ins side z) (v.on on).0 ∙ append-nil v.went

    -- the same leaf as one whose pairs were added
    pub shown_scan : (max : ℕ) (old : List Pair) → AllByRecursion HasValue l.items → length (old ++ items_pairs v.went) ≤ max → (v.more ≡ false → max ≤ length (old ++ items_pairs v.went)) → IsScanned side max l old (old ++ items_pairs v.went) next
    shown_scan max old some room full = record {
      front = items_pairs v.front;
      went = items_pairs v.went;
      left = items_pairs v.left;
      are = ap items_pairs v.are ∙ flat_map-append item_pairs v.front (v.went ++ v.left) ∙ ap (λ (z : List Pair). items_pairs v.front ++ z) (flat_map-append item_pairs v.went v.left);
      skipped = all_items (λ k. is_front (side k) ≡ true) v.front v.skipped;
      inside = all_items (λ k. is_inside (side k) ≡ true) v.went v.inside;
      from = all_items (λ k. is_from (side k) ≡ true) v.left v.from;
      grown = refl;
      room = λ few. room;
      on = λ on. (ap items_pairs (v.on on).0, (v.on on).1);
      ended = λ end. go (v.ended end);
    }
      where
        values : AllByRecursion HasValue v.left
        values = (all_part HasValue v.went v.left (all_part HasValue v.front (v.went ++ v.left) (subst (AllByRecursion HasValue) v.are some)).1).1

        go : (v.more ≡ false) ⊎ (((v.left ≡ []) × (l.next ≡ 0)) ⊎ BeginsOutside side v.left) → (max ≤ length (old ++ items_pairs v.went)) ⊎ (((items_pairs v.left ≡ []) × (l.next ≡ 0)) ⊎ StartsOutside side (items_pairs v.left))
        go (inl enough) = inl (full enough)
        go (inr (inl none)) = inr (inl (ap items_pairs none.0, none.1))
        go (inr (inr b)) = inr (inr (begins side v.left values b))

-- ---- a tree's leaves

-- the place of a leaf, and those shown in front of it
pub record Shows {T : Type 0} (takes : Takes T) (side : List ℕ → Side) (leaves : List LeafAt) (a b : T) (pairs : List Pair) (next : ℕ) : Type 0 where
  pub going : Going side leaves pairs next
  pub shown : Shown takes a (ins side (row_items going.front)) b true

-- and so many behind the first leaf, one at least of each
pub record ShowsOn {T : Type 0} (takes : Takes T) (side : List ℕ → Side) (leaves : List LeafAt) (a b : T) (next start i steps : ℕ) : Type 0 where
  pub pairs : List Pair
  pub further : Further side leaves pairs next
  pub shown : Shown takes a (ins side (row_items further.going.front)) b true
  pub many : i ≤ length (ins side (row_items further.going.front))
  pub paid : steps ≤ start + leaves_inside side further.going.front

module _ (cmp : List ℕ → List ℕ → Ordering) (total : IsTotalOrder cmp) (exact : CmpEqualImpliesEq cmp) (side : List ℕ → Side) (falls : NeverFalls cmp side)
    (h : TreeHead) (height : ℕ) (column : Option (List ℕ)) (m : Map) (ps : List Pair) (is : HoldsPairs (before_by cmp) h height column (get m) ps) where
  all_items_are : AreItems cmp (row_items is.tree.leaves)
  all_items_are =
      let order = orders_are_strict cmp total exact in
      record { ascends = rows_ascend (before_by cmp) order is.tree.leaves is.tree.stands.order; some = all_flat HasValue items_of is.tree.leaves (have cmp order h height column m ps is is.tree.leaves is.tree.stands.leaves_held) }

  ins_are : AreItems cmp (ins side (row_items is.tree.leaves))
  ins_are = record { ascends = ascends_kept (before_by cmp) (is_in side) (row_items is.tree.leaves) all_items_are.ascends; some = kept_all (is_in side) HasValue (row_items is.tree.leaves) all_items_are.some }

  ins_pairs : items_pairs (ins side (row_items is.tree.leaves)) ≡ inside side ps
  ins_pairs = row_inside side is.tree.leaves ∙ ap (inside side) (sym is.are)

  -- what has been shown has the pairs that are inside in front
  got_pairs : (pairs : List Pair) (front : List LeafAt) → pairs ≡ inside side (pairs_of front) → pairs ≡ items_pairs (ins side (row_items front))
  got_pairs pairs front got = got ∙ sym (row_inside side front)

  module _ (pairs : List Pair) (next : ℕ) (g : Going side is.tree.leaves pairs next) where
    row_parts : row_items is.tree.leaves ≡ row_items g.front ++ (g.at.leaf.items ++ row_items g.back)
    row_parts = ap row_items g.parts ∙ flat_map-append items_of g.front (g.at ∷ g.back)

    ins_parts : ins side (row_items is.tree.leaves) ≡ ins side (row_items g.front) ++ (ins side g.at.leaf.items ++ ins side (row_items g.back))
    ins_parts =
        ap (ins side) row_parts
        ∙ ins-append side (row_items g.front) (g.at.leaf.items ++ row_items g.back)
        ∙ ap (λ (z : List Item). ins side (row_items g.front) ++ z) (ins-append side g.at.leaf.items (row_items g.back))

    row_values : AllByRecursion HasValue (row_items g.front) × AllByRecursion HasValue (g.at.leaf.items ++ row_items g.back)
    row_values = all_part HasValue (row_items g.front) (g.at.leaf.items ++ row_items g.back) (subst (AllByRecursion HasValue) row_parts all_items_are.some)

    here_values : AllByRecursion HasValue g.at.leaf.items
    here_values = (all_part HasValue g.at.leaf.items (row_items g.back) row_values.1).0

    -- none is inside in front of the first
    pub none_in_front : pairs ≡ [] → ins side (row_items g.front) ≡ []
    none_in_front none = no_pairs (ins side (row_items g.front)) (kept_all (is_in side) HasValue (row_items g.front) row_values.0) (sym (got_pairs pairs g.front g.got) ∙ none)

    module _ {T : Type 0} (takes : Takes T) (a b c : T) (onward : ℕ) (shown : Shown takes a (ins side (row_items g.front)) b true) (v : IsShownOf takes side g.at.leaf b c onward) where
      abbrev went : List Item
      went = ins side (row_items g.front) ++ v.went

      abbrev left : List Item
      left = ins side v.left ++ ins side (row_items g.back)

      abbrev added : List Pair
      added = pairs ++ items_pairs v.went

      added_is : added ≡ items_pairs went
      added_is = ap (λ (z : List Pair). z ++ items_pairs v.went) (got_pairs pairs g.front g.got) ∙ sym (flat_map-append item_pairs (ins side (row_items g.front)) v.went)

      parts : went ++ left ≡ ins side (row_items is.tree.leaves)
      parts = rearrange (ins side (row_items g.front)) v.went (ins side v.left) (ins side (row_items g.back)) ∙ ap (λ (z : List Item). ins side (row_items g.front) ++ (z ++ ins side (row_items g.back))) (sym (ins_here takes side g.at.leaf b c onward v)) ∙ sym ins_parts
        where
          rearrange : (p q r t : List Item) → (p ++ q) ++ (r ++ t) ≡ p ++ ((q ++ r) ++ t)
          rearrange p q r t = simp append_assoc

      parts_pairs : items_pairs went ++ items_pairs left ≡ inside side ps
      parts_pairs = sym (flat_map-append item_pairs went left) ∙ ap items_pairs parts ∙ ins_pairs

      scan : IsScanned side (length added) g.at.leaf pairs added onward
      scan = shown_scan takes side g.at.leaf b c onward v (length added) pairs here_values (omega arith) (λ e. omega arith)

      -- nothing is left where more was wanted
      none_left : onward ≡ 0 → v.more ≡ true → left ≡ []
      none_left end more =
          let max : ℕ = length added + length (inside side ps) in
          let sc : IsScanned side max g.at.leaf pairs added onward = shown_scan takes side g.at.leaf b c onward v max pairs here_values (omega arith) (λ e. absurd (never (sym more ∙ e))) in
          let all : added ≡ take max (inside side ps) = going_end cmp total exact side falls max h height column m ps is pairs added next onward g sc (omega (arith, length-append pairs (items_pairs v.went))) end in
          let whole : items_pairs went ≡ inside side ps = sym added_is ∙ all ∙ take_all max (inside side ps) (omega arith) in
          let nothing : items_pairs left ≡ [] = append_cancel_left (items_pairs went) (items_pairs left) [] (parts_pairs ∙ sym whole ∙ sym (append-nil (items_pairs went))) in
          no_pairs left (all_part HasValue went left (subst (AllByRecursion HasValue) (sym parts) ins_are.some)).1 nothing
        where
          never : true ≡ false → ⊥
          never e = cc

      -- no further one is to be shown
      pub visited_end : (way start steps : ℕ) → onward ≡ 0 → steps ≤ start + way + 1 + length (ins side (row_items g.front)) → IsVisited takes cmp (inside side ps) way start steps a c
      visited_end way start steps end few = record {
        went = went;
        left = left;
        are = subst (AreItems cmp) (sym parts) ins_are;
        pairs = ap items_pairs parts ∙ ins_pairs;
        more = v.more;
        shown = shown_all takes (ins side (row_items g.front)) a b c v.went v.more shown v.shown;
        whole = none_left end;
        few = omega (arith, few, length-append (ins side (row_items g.front)) v.went);
      }

      -- it goes on at the next leaf
      pub visited_on : (start i steps : ℕ) → onward ≢ 0 → i ≤ length went → steps ≤ start + leaves_inside side (g.front ++ g.at ∷ []) → ShowsOn takes side is.tree.leaves a c onward start i steps
      visited_on start i steps on many paid =
          let o = going_on cmp total exact side falls (length added) h height column m ps is pairs added next onward g scan on in
          let same : ins side (row_items o.to.going.front) ≡ went =
          ap (λ (z : List LeafAt). ins side (row_items z)) o.front_is
          ∙ ap (ins side) (flat_map-append items_of g.front (g.at ∷ []) ∙ ap (λ (z : List Item). row_items g.front ++ z) (append-nil g.at.leaf.items))
          ∙ ins-append side (row_items g.front) g.at.leaf.items
          ∙ ap (λ (z : List Item). ins side (row_items g.front) ++ z) (ins_on takes side g.at.leaf b c onward v on) in
          record {
            pairs = added;
            further = o.to;
            shown = subst (λ (z : List Item). Shown takes a z c true) (sym same)
                (shown_all takes (ins side (row_items g.front)) a b c v.went true shown (subst (λ (more : Bool). Shown takes b v.went c more) (v.on on).2 v.shown));
            many = omega (arith, many, ap length same);
            paid = omega (arith, paid, ap (leaves_inside side) o.front_is);
          }

  module _ {T : Type 0} (takes : Takes T) (a b c : T) (next onward start i steps steps' : ℕ) (p : ShowsOn takes side is.tree.leaves a b next start i steps) (v : IsShownOf takes side p.further.going.at.leaf b c onward) where
    -- one item at least of a further leaf is inside, where it goes on
    pub visited_more : onward ≢ 0 → steps' ≤ steps + 1 → ShowsOn takes side is.tree.leaves a c onward start (i + 1) steps'
    visited_more on step =
        let g = p.further.going in
        let sc = scan p.pairs next g takes a b c onward p.shown v in
        let grown : length p.pairs < length (p.pairs ++ items_pairs v.went) = scanned_some side (length (p.pairs ++ items_pairs v.went)) g.at.leaf p.pairs (p.pairs ++ items_pairs v.went) onward sc p.further.from p.further.some on in
        let has : 0 < length (inside side (leaf_pairs g.at)) = scanned_has side (length (p.pairs ++ items_pairs v.went)) g.at.leaf p.pairs (p.pairs ++ items_pairs v.went) onward sc grown on in
        let one : 0 < length v.went = some_items v.went (omega (arith, grown, length-append p.pairs (items_pairs v.went))) in
        visited_on p.pairs next g takes a b c onward p.shown v start (i + 1) steps' on (omega (arith, p.many, one, length-append (ins side (row_items g.front)) v.went)) (omega (arith, p.paid, step, inside_one side g.front g.at has))

  -- there are no more leaves than pairs, and one
  pub visited_many : {T : Type 0} (takes : Takes T) (a b : T) (next start i steps : ℕ) → ShowsOn takes side is.tree.leaves a b next start i steps → h.pairs ≤ i → ⊥
  visited_many takes a b next start i steps p all =
      let g = p.further.going in
      let few : length (ins side (row_items g.front)) ≤ length (row_items g.front) = kept_short (is_in side) (row_items g.front) in
      let long : length (row_items g.front) ≤ length (items_pairs (row_items g.front)) = pairs_long (row_items g.front) (row_values p.pairs next g).0 in
      let whole : pairs_of is.tree.leaves ≡ pairs_of g.front ++ (leaf_pairs g.at ++ pairs_of g.back) = ap pairs_of g.parts ∙ flat_map-append leaf_pairs g.front (g.at ∷ g.back) in
      omega (
        arith,
        all,
        p.many,
        few,
        long,
        ap length (pairs_items g.front),
        p.further.some,
        is.count,
        ap length whole,
        length-append (pairs_of g.front) (leaf_pairs g.at ++ pairs_of g.back),
        length-append (leaf_pairs g.at) (pairs_of g.back),
      )

-- ---- the call

module _ {S V O T : Type 0} (s : Ghosts S) (R : Stores V S) (o : Orders O) (total : IsTotalOrder o.cmp) (exact : CmpEqualImpliesEq o.cmp)
    (side : List ℕ → Side) (falls : NeverFalls o.cmp side) (takes : Takes T) (t : Tree V O) (old : S) (steps : ℕ) (a : T) where
  abbrev Here : Map → Type 0
  Here m = Beside s R (t.cache.pages, t.store) old m

  abbrev Is : Map → List Pair → Type 0
  Is m ps = HoldsPairs (before_by o.cmp) t.head t.height t.column (get m) ps

  -- so many leaves behind the first were visited
  pub record Visiting (u : Tree V O) (new : S) (steps' : ℕ) (b : T) (next i : ℕ) : Type 0 where
    pub passes : Passes s R t u steps steps' old new
    pub at : (m : Map) (ps : List Pair) (is : Is m ps) → Here m → next ≢ 0 → ShowsOn takes side is.tree.leaves a b next (steps + t.height) i steps'
    pub done : (m : Map) (ps : List Pair) → Is m ps → Here m → next ≡ 0 → IsVisited takes o.cmp (inside side ps) t.height steps steps' a b
    pub taken : steps' ≤ steps + t.height + i
    pub costs : CostsVisit s R o side t old steps steps'

  -- with no more pages than rows the bound is kept
  pub cheap_rows : (steps' : ℕ) → steps' ≤ steps + t.height → CostsVisit s R o side t old steps steps'
  cheap_rows steps' le = record { leaves = λ ps h. omega (arith, le); most = omega (arith, le) }

  module _ (u w : Tree V O) (new new' : S) (steps' steps'' : ℕ) (b c : T) (id onward : ℕ) (p : Passes s R t u steps steps' old new) (v : Visits s R 1 u w steps' steps'' new new')
      (shown : ShowsLeaf s R o.cmp takes side id u new b c onward) where
    shown_of : (m : Map) (ps : List Pair) (is : Is m ps) → Here m → (pairs : List Pair) (g : Going side is.tree.leaves pairs id) → IsShownOf takes side g.at.leaf b c onward
    shown_of m ps is here pairs g =
        shown m g.at.leaf (p.looks.reads.means m here) (going_page o.cmp total exact side falls 0 t.head t.height t.column m ps is pairs id g) (going_ascends o.cmp total exact side falls 0 t.head t.height t.column m ps is pairs id g)

    both : Passes s R t w steps steps'' old new'
    both = passes_then s R t u w steps steps' steps'' old new new' p (passes_of s R 1 u w steps' steps'' new new' v)

    -- the first leaf
    pub visiting_first : b ≡ a → steps' ≤ steps + (t.height - 1) → 1 ≤ t.height → (path : List (ℕ × ℕ)) × LeadsTo s R o.cmp (start_of side) [] t old path id → Visiting w new' steps'' c onward 0
    visiting_first same way some found = record {
      passes = both;
      at = λ m ps is here on.
          let g = going m ps is here in
          let none = none_in_front o.cmp total exact side falls t.head t.height t.column m ps is [] id g refl in
          visited_on o.cmp total exact side falls t.head t.height t.column m ps is [] id g takes a b c onward (start none) (shown_of m ps is here [] g) (steps + t.height) 0 steps'' on (omega arith) (omega (arith, way, some, v.pages.within));
      done = λ m ps is here end.
          let g = going m ps is here in
          let none = none_in_front o.cmp total exact side falls t.head t.height t.column m ps is [] id g refl in
          visited_end o.cmp total exact side falls t.head t.height t.column m ps is [] id g takes a b c onward (start none) (shown_of m ps is here [] g) t.height steps steps'' end (omega (arith, way, some, v.pages.within));
      taken = omega (arith, way, some, v.pages.within);
      costs = cheap_rows steps'' (omega (arith, way, some, v.pages.within));
    }
      where
        going : (m : Map) (ps : List Pair) (is : Is m ps) → Here m → Going side is.tree.leaves [] id
        going m ps is here = going_first o.cmp total exact side falls t.head.root id is.tree.leaves is.tree.levels found.0 is.tree.stands.order (found.1 m is.tree here)

        start : {xs : List Item} → xs ≡ [] → Shown takes a xs b true
        start none = subst (λ (ys : List Item). Shown takes a ys b true) (sym none) (same, refl)

  module _ (u w : Tree V O) (new new' : S) (steps' steps'' : ℕ) (b : T) (id i : ℕ) (on : id ≢ 0) (sc : Visiting u new steps' b id i) (less : i < t.head.pairs) (v : Visits s R 1 u w steps' steps'' new new') where
    -- whatever it answers
    pub visiting_stops : Passes s R t w steps steps'' old new' × CostsVisit s R o side t old steps steps''
    visiting_stops = (
      passes_then s R t u w steps steps' steps'' old new new' sc.passes (passes_of s R 1 u w steps' steps'' new new' v),
      record {
        leaves = λ ps h. let p = sc.at h.1.records ps h.1.is ((h.0, h.1.store), h.1.same) on in let g = p.further.going in omega (arith, p.paid, v.pages.within, inside_front side h.1.is.tree.leaves g.front (g.at ∷ g.back) g.parts);
        most = omega (arith, sc.taken, less, v.pages.within);
      },
    )

    -- a further leaf
    pub visiting_more : (c : T) (onward : ℕ) → ShowsLeaf s R o.cmp takes side id u new b c onward → Visiting w new' steps'' c onward (i + 1)
    visiting_more c onward shown = record {
      passes = visiting_stops.0;
      at = λ m ps is here more.
          let p = sc.at m ps is here on in
          visited_more o.cmp total exact side falls t.head t.height t.column m ps is takes a b c id onward (steps + t.height) i steps' steps'' p (leaf m ps is here p.pairs p.further.going) more v.pages.within;
      done = λ m ps is here end.
          let p = sc.at m ps is here on in
          visited_end o.cmp total exact side falls t.head t.height t.column m ps is p.pairs id p.further.going takes a b c onward p.shown (leaf m ps is here p.pairs p.further.going) t.height steps steps'' end (omega (arith, sc.taken, p.many, v.pages.within));
      taken = omega (arith, sc.taken, v.pages.within);
      costs = visiting_stops.1;
    }
      where
        leaf : (m : Map) (ps : List Pair) (is : Is m ps) → Here m → (pairs : List Pair) (g : Going side is.tree.leaves pairs id) → IsShownOf takes side g.at.leaf b c onward
        leaf m ps is here pairs g =
            shown m g.at.leaf (sc.passes.looks.reads.means m here) (going_page o.cmp total exact side falls 0 t.head t.height t.column m ps is pairs id g) (going_ascends o.cmp total exact side falls 0 t.head t.height t.column m ps is pairs id g)

  -- at the end
  pub visiting_done : (u : Tree V O) (new : S) (steps' : ℕ) (b : T) (next i : ℕ) → next ≡ 0 → Visiting u new steps' b next i → VisitsPairs s R o takes side t old steps steps' a b
  visiting_done u new steps' b next i end sc = λ ps means. sc.done means.1.records ps means.1.is ((means.0, means.1.store), means.1.same) end

  pub visiting_all : (u : Tree V O) (new : S) (steps' : ℕ) (b : T) (next i : ℕ) → t.head.pairs ≤ i → Visiting u new steps' b next i → VisitsPairs s R o takes side t old steps steps' a b
  visiting_all u new steps' b next i all sc = λ ps means.
      let here : Here means.1.records = ((means.0, means.1.store), means.1.same) in
      ⊎_elim (λ (end : next ≡ 0). sc.done means.1.records ps means.1.is here end)
      (λ (on : next ≡ 0 → ⊥). absurd (visited_many o.cmp total exact side falls t.head t.height t.column means.1.records ps means.1.is takes a b next (steps + t.height) i steps' (sc.at means.1.records ps means.1.is here on) all))
      (cases_eq next 0)

  -- the leaf to be visited is there
  pub next_visited : IsOpen s R o t old → (u : Tree V O) (new : S) (steps' : ℕ) (b : T) (next i : ℕ) → next ≢ 0 → Visiting u new steps' b next i → IsThere s R IsSomeLeaf next u.cache u.store new
  next_visited ready u new steps' b next i on sc = λ told.
      let h = ready.held told in
      let m : Map = h.1.1.records in
      let here : Here m = ((told, h.1.1.store), h.1.1.same) in
      let p = sc.at m h.0 h.1.1.is here on in (
        m,
        leaf_page p.further.going.at.leaf,
        sc.passes.looks.reads.means m here,
        going_page o.cmp total exact side falls 0 t.head t.height t.column m h.0 h.1.1.is p.pairs next p.further.going,
        (p.further.going.at.leaf, refl),
      )
