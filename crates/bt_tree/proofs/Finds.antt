-- A key in the leaf where it belongs.
use Rattle.std.proofs.Common.{◌≡◌, ℕ, List, [], ◌∷◌, ◌++◌, Bool, true, false, Option, Some, None, map, sym, ap, ◌∙◌, subst, append_assoc}
use Rattle.std.specs.Prelude.{slice_get}
use Rattle.std.specs.FinMap.{get}
use Rattle.std.specs.List.{flat_map}
use Rattle.tc_base.specs.Lists.{first, pair, values}
use Rattle.tc_base.specs.Maps.{Map}
use Rattle.tc_base.specs.declared.order.Order.{Ghosts as Orders}
use Rattle.tc_base.specs.declared.seq.Pair.{Pair}
use Rattle.tc_space.specs.Frames.{Reads}
use Rattle.tc_space.specs.declared.records.Records.{Ghosts as Stores}
use Rattle.tc_space.specs.declared.space.Space.{Ghosts}
use Rattle.bt_page.specs.declared.page.Item.{Item}
use Rattle.bt_page.specs.declared.page.Leaf.{Leaf}
use Rattle.bt_rows.specs.declared.head.TreeHead.{TreeHead}
use Rattle.bt_rows.specs.Orders.{Before, IsOrder, before_by}
use Rattle.bt_rows.specs.Rules.{Ascends, item_pairs}
use Rattle.bt_cache.specs.Held.{Beside}
use Rattle.bt_tree.specs.declared.tree.Tree.{Tree}
use Rattle.bt_ways.specs.Items.{IsLeafFor, item_in, item_of}
use Rattle.bt_tree.specs.Meaning.{Means}
use Rattle.bt_tree.specs.Visits.{StaysTree, Visits, Asks}
use Rattle.bt_ways.specs.Searches.{IsSpot}
use Rattle.bt_tree.specs.Trees.{HoldsPairs}
use Rattle.bt_ways.proofs.Keys.{all_join}
use Rattle.bt_ways.proofs.Spots.{parts_at, own_at, own_hit, own_miss, item_there}
use Rattle.bt_ways.proofs.Values.{Parts, values_of_parts}

nth_of : (key : List ℕ) (n : ℕ) (vs : List (List ℕ)) (x : Item) → Some x ≡ item_of key vs → slice_get x.values n ≡ slice_get vs n
nth_of key n [] x e = absurd cc
nth_of key n (v ∷ vs) x e = let same : x ≡ record { key = key; values = v ∷ vs } = cc in ap (λ (i : Item). slice_get i.values n) same

module _ (before : Before) (order : IsOrder before) (key : List ℕ) (ps : List Pair) (leaf : Leaf) (place : ℕ) (l : IsLeafFor before key ps leaf) where
  parts_of : (hit : Bool) → IsSpot before leaf.items key place hit → (p : Parts before key ps) × (p.own ≡ own_at before order leaf.items place hit)
  parts_of hit s =
      let at = parts_at before order key leaf.items place hit l.ascends s in
      let p : Parts before key (flat_map item_pairs leaf.items) = at.0 in (
        record {
          front = l.front ++ p.front;
          own = p.own;
          back = p.back ++ l.back;
          are = l.are ∙ ap (λ (t : List Pair). l.front ++ (t ++ l.back)) p.are ∙ rearrange l.front p.front (map (pair key) p.own) p.back l.back;
          low = all_join (λ q. before q.key key ≡ true) l.front p.front l.low p.low;
          high = all_join (λ q. before key q.key ≡ true) p.back l.back p.high l.high;
        },
        at.1,
      )
    where
      rearrange : (a b c d e : List Pair) → a ++ ((b ++ (c ++ d)) ++ e) ≡ (a ++ b) ++ (c ++ (d ++ e))
      rearrange a b c d e = simp append_assoc

  values_at : (hit : Bool) → IsSpot before leaf.items key place hit → values ps key ≡ own_at before order leaf.items place hit
  values_at hit s = let p = parts_of hit s in values_of_parts before order key ps p.0 ∙ p.1

  pub found_none : (Ascends before leaf.items → IsSpot before leaf.items key place false) → None ≡ item_in key ps
  found_none s = sym (ap (item_of key) (values_at false (s l.ascends) ∙ own_miss before order leaf.items place))

  pub found_some : (x : Item) → (Ascends before leaf.items → IsSpot before leaf.items key place true) → slice_get leaf.items place ≡ Some x → Some x ≡ item_in key ps
  found_some x s is = sym (ap (item_of key) (values_at true (s l.ascends)) ∙ item_there before order key leaf.items place x l.some (s l.ascends) is)

  pub nth_missing : (n : ℕ) → (Ascends before leaf.items → IsSpot before leaf.items key place false) → None ≡ slice_get (values ps key) n
  nth_missing n s = sym (ap (λ (vs : List (List ℕ)). slice_get vs n) (values_at false (s l.ascends) ∙ own_miss before order leaf.items place))

  pub nth_there : (n : ℕ) (x : Item) → (Ascends before leaf.items → IsSpot before leaf.items key place true) → slice_get leaf.items place ≡ Some x → slice_get x.values n ≡ slice_get (values ps key) n
  nth_there n x s is = nth_of key n (values ps key) x (found_some x s is)

  pub first_none : (Ascends before leaf.items → IsSpot before leaf.items key place false) → None ≡ first ps key
  first_none s = sym (ap (λ (vs : List (List ℕ)). slice_get vs 0) (values_at false (s l.ascends) ∙ own_miss before order leaf.items place))

  pub first_some : (x : Item) → (Ascends before leaf.items → IsSpot before leaf.items key place true) → slice_get leaf.items place ≡ Some x → slice_get x.values 0 ≡ first ps key
  first_some x s is = sym (ap (λ (vs : List (List ℕ)). slice_get vs 0) (values_at true (s l.ascends) ∙ own_hit before order leaf.items place x is))

-- pages are looked at, and the numbers of the tree stay
module _ {S V O : Type 0} (s : Ghosts S) (R : Stores V S) (o : Orders O) (t u : Tree V O) (old new : S) where
  pub tree_reads : Reads s (Beside s R) (t.cache.pages, t.store) (u.cache.pages, u.store) old new → StaysTree t u → Reads s (Means s R o) t u old new
  tree_reads reads stays = record { now = reads.now; touched = reads.touched; sound = reads.sound; means = means }
    where
      pairs_on : (m : Map) (ps : List Pair) → HoldsPairs (before_by o.cmp) t.head t.height t.column (get m) ps → HoldsPairs (before_by o.cmp) u.head u.height u.column (get m) ps
      pairs_on m ps p =
          subst (λ (h : TreeHead). HoldsPairs (before_by o.cmp) h u.height u.column (get m) ps) (sym stays.head)
          (subst (λ (n : ℕ). HoldsPairs (before_by o.cmp) t.head n u.column (get m) ps) (sym stays.height)
          (subst (λ (c : Option (List ℕ)). HoldsPairs (before_by o.cmp) t.head t.height c (get m) ps) (sym stays.column) p))

      means : (ps : List Pair) → Means s R o t old ps → Means s R o u new ps
      means ps h =
          let b = reads.means h.1.records ((h.0, h.1.store), h.1.same) in
          (b.0.0, record { records = h.1.records; store = b.0.1; same = b.1; order = ap (λ (k : TreeHead). k.order) stays.head ∙ h.1.order; is = pairs_on h.1.records ps h.1.is })

  pub asks_of : (most steps steps' : ℕ) → Visits s R most t u steps steps' old new → Asks s R o most t u steps steps' old new
  asks_of most steps steps' v = record { reads = tree_reads v.looks.reads v.stays; looks = v.looks; pages = v.pages; stays = v.stays }
