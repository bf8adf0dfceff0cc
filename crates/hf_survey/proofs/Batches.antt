-- Links that are followed behind whatever was reached before.
use Rattle.std.proofs.Common.{◌≡◌, ◌∙◌, ℕ, ◌+◌, ◌-◌, ◌*◌, ◌<◌, ◌≤◌, suc, List, [], ◌∷◌, ◌++◌, length, set, sym, ap, subst, arith, Some, Bool, false, true, get_or, length-append}
use Rattle.std.proofs.lemmas.List.{append_assoc, append-nil}
use Rattle.std.specs.Prelude.{slice_get}
use Rattle.hf_tree.specs.Rules.{left, right}
use Rattle.hf_survey.specs.declared.facts.Fact.{Fact}
use Rattle.hf_survey.specs.declared.reaching.Item.{Item}
use Rattle.hf_survey.specs.Batches.{AreMarked, StayMarked, FollowsOn, StopsOn, ChainsOn, ChainsStop, RootsOn, RootsStop, TreesOn, TreesStop}
use Rattle.hf_survey.specs.Reaching.{AreLow, Marked, Reach, all_seen, child_item, root_item}
use Rattle.hf_survey.proofs.Lists.{get_behind}
use Rattle.hf_survey.proofs.Rows.{root_follows, root_none, root_stops}
use Rattle.hf_survey.proofs.Steps.{both_follow, few_items, followed_long, left_stops, mark_more, right_stops}

-- ---- marks

pub still_marked : (old : List Item) (was : List Bool) (new : List Item) (now : List Bool) → AreMarked old was → StayMarked old was new now → AreMarked new now
still_marked old was new now m s = record { before = m.before; is = s.is m.before m.is }

pub stay_refl : (items : List Item) (marks : List Bool) → StayMarked items marks items marks
stay_refl items marks = record { is = λ before m. m }

pub stay_then : (a : List Item) (was : List Bool) (b : List Item) (met : List Bool) (c : List Item) (now : List Bool) → StayMarked a was b met → StayMarked b met c now → StayMarked a was c now
stay_then a was b met c now s t = record { is = λ before m. t.is before (s.is before m) }

-- one more
pub pushed_behind : (before items new : List Item) (x : Item) → new ≡ items ++ x ∷ [] → before ++ new ≡ (before ++ items) ++ x ∷ []
pushed_behind before items new x e = ap (λ (l : List Item). before ++ l) e ∙ sym (append_assoc before items (x ∷ []))

pub stay_more : (items new : List Item) (marks : List Bool) (i : ℕ) (x : Item) → new ≡ items ++ x ∷ [] → x.number ≡ suc i → i < length marks → slice_get marks i ≡ Some false → x.above ≤ length marks → x.below ≤ length marks → StayMarked items marks new (set marks i true)
stay_more items new marks i x e number low unset above below = record {
  is = λ before m. subst (λ (l : List Item). Marked l (set marks i true)) (sym (pushed_behind before items new x e)) (mark_more (before ++ items) marks i x m number low unset above below);
}

pub low_of : (before items : List Item) (marks : List Bool) (n : ℕ) → length marks ≡ n → Marked (before ++ items) marks → AreLow n items
low_of before items marks n same m = subst (λ z. AreLow z items) same (λ k x at. m.low (length before + k) x (get_behind before items k ∙ at))

pub marked_low : (items : List Item) (marks : List Bool) (n : ℕ) → length marks ≡ n → AreMarked items marks → AreLow n items
marked_low items marks n same m = low_of m.before items marks n same m.is

-- no more are reached than there are
pub few_marked : (items : List Item) (marks : List Bool) → AreMarked items marks → length items ≤ length marks
few_marked items marks m = omega (arith, few_items (m.before ++ items) marks m.is, length-append m.before items)

on_long : (facts : List Fact) (p : ℕ) (from : Item) (old : List Item) (was : List Bool) (new : List Item) → AreMarked old was → FollowsOn facts p from old was new → length old ≤ length new
on_long facts p from old was new m f =
    let l = followed_long facts p from (m.before ++ old) (m.before ++ new) (f.is m.before m.is) in
    omega (arith, l, length-append m.before old, length-append m.before new)

-- ---- both chains of a record

module _ (facts : List Fact) (items : List Item) (was : List Bool) (k : ℕ) (y : Item) (x : Fact) (same : length was ≡ length facts) (at : slice_get items k ≡ Some y) (fact : slice_get facts (y.number - 1) ≡ Some x) where
  lows : (marks : List Bool) (l : List Item) → length marks ≡ length facts → Marked l marks → AreLow (length facts) l
  lows marks l e m = subst (λ z. AreLow z l) e m.low

  pub left_stop : StopsOn facts x.left items was → ChainsStop facts items was k
  left_stop s = record {
    is = λ before links records n roots m read r. left_stops links records n facts read (before ++ items) roots (length before + k) y x
        (record { at = get_behind before items k ∙ at; fact = fact; lows = lows was (before ++ items) same m }) (s.is before m) r;
  }

  module _ (mid : List Item) (met : List Bool) (long : length met ≡ length facts) (stay : StayMarked items was mid met) (first : FollowsOn facts x.left (child_item left y 0) items was mid) where
    pub right_stop : StopsOn facts x.right mid met → ChainsStop facts items was k
    right_stop s = record {
      is = λ before links records n roots m read r. right_stops links records n facts read (before ++ items) (before ++ mid) roots (length before + k) y x
          (record { at = get_behind before items k ∙ at; fact = fact; lows = lows was (before ++ items) same m }) (lows met (before ++ mid) long (stay.is before m)) (first.is before m) (s.is before (stay.is before m)) r;
    }

    pub both_on : (new : List Item) (now : List Bool) → AreMarked items was → StayMarked mid met new now → FollowsOn facts x.right (child_item right y 0) mid met new → ChainsOn facts items was new now k (k + 1)
    both_on new now marked later second = record {
      long =
          let a = on_long facts x.left (child_item left y 0) items was mid marked first in
          let b = on_long facts x.right (child_item right y 0) mid met new (still_marked items was mid met marked stay) second in
          omega (arith, a, b);
      marked = stay_then items was mid met new now stay later;
      reached = λ before links records n roots m read r. subst (λ d. Reach links records n (all_seen facts (before ++ new)) roots d) (omega arith)
          (both_follow links records n facts read (before ++ items) (before ++ mid) (before ++ new) roots (length before + k) y x
          (record { at = get_behind before items k ∙ at; fact = fact; lows = lows was (before ++ items) same m }) (lows met (before ++ mid) long (stay.is before m)) (first.is before m) (second.is before (stay.is before m)) r);
    }

-- ---- the chains of a row of records

pub chains_none : (facts : List Fact) (items : List Item) (marks : List Bool) (k : ℕ) → ChainsOn facts items marks items marks k k
chains_none facts items marks k = record { long = omega arith; marked = stay_refl items marks; reached = λ before links records n roots m read r. r }

module _ (facts : List Fact) (old : List Item) (was : List Bool) (mid : List Item) (met : List Bool) (i j : ℕ) (a : ChainsOn facts old was mid met i j) where
  pub chains_then : (new : List Item) (now : List Bool) (k l : ℕ) → k ≡ l → ChainsOn facts mid met new now j k → ChainsOn facts old was new now i l
  chains_then new now k l e b = subst (λ z. ChainsOn facts old was new now i z) e (record {
    long = omega (arith, a.long, b.long);
    marked = stay_then old was mid met new now a.marked b.marked;
    reached = λ before links records n roots m read r. b.reached before links records n roots (a.marked.is before m) read (a.reached before links records n roots m read r);
  })

  pub chains_to : (k : ℕ) → j ≡ k → ChainsOn facts old was mid met i k
  chains_to k e = subst (λ z. ChainsOn facts old was mid met i z) e a

  pub chains_stop : ChainsStop facts mid met j → ChainsStop facts old was i
  chains_stop s = record { is = λ before links records n roots m read r. s.is before links records n roots (a.marked.is before m) read (a.reached before links records n roots m read r) }

-- ---- the entries of a row of buckets

module _ (facts : List Fact) (first : ℕ) (places : List ℕ) where
  pub roots_none : (items : List Item) (marks : List Bool) → RootsOn facts first places items marks items marks 0
  roots_none items marks = record {
    long = omega arith;
    marked = stay_refl items marks;
    reached = λ before links records n m read roots r. subst (λ b. Reach links records n (all_seen facts (before ++ items)) b (2 * length (before ++ items))) (omega arith) r;
  }

  module _ (old : List Item) (was : List Bool) (mid : List Item) (met : List Bool) (i : ℕ) (low : i < length places) (a : RootsOn facts first places old was mid met i) where
    most : (before : List Item) → 2 * length (before ++ old) ≤ 2 * length (before ++ mid)
    most before = omega (arith, a.long, length-append before old, length-append before mid)

    pub roots_stop : StopsOn facts (get_or places i 0) mid met → RootsStop facts first places old was
    roots_stop s = record {
      is = λ before links records n m read roots r. root_stops links records n facts read first places roots (before ++ mid) i (2 * length (before ++ old)) low (s.is before (a.marked.is before m)) (a.reached before links records n m read roots r);
    }

    module _ (long : length met ≡ length facts) where
      lows_met : (before : List Item) → Marked (before ++ old) was → AreLow (length facts) (before ++ mid)
      lows_met before m = subst (λ z. AreLow z (before ++ mid)) long ((a.marked.is before m).low)

      pub roots_empty : get_or places i 0 ≡ 0 → RootsOn facts first places old was mid met (i + 1)
      roots_empty none = record {
        long = a.long;
        marked = a.marked;
        reached = λ before links records n m read roots r. root_none links records n facts read first places roots (before ++ mid) i (2 * length (before ++ old)) low (most before) (lows_met before m) none (a.reached before links records n m read roots r);
      }

      pub roots_more : (new : List Item) (now : List Bool) → AreMarked mid met → StayMarked mid met new now → FollowsOn facts (get_or places i 0) (root_item (first + i) 0) mid met new → RootsOn facts first places old was new now (i + 1)
      roots_more new now marked stay f = record {
        long = let l = on_long facts (get_or places i 0) (root_item (first + i) 0) mid met new marked f in omega (arith, l, a.long);
        marked = stay_then old was mid met new now a.marked stay;
        reached = λ before links records n m read roots r. root_follows links records n facts read first places roots (before ++ mid) (before ++ new) i (2 * length (before ++ old)) low (most before) (lows_met before m) (f.is before (a.marked.is before m)) (a.reached before links records n m read roots r);
      }

  -- ---- and of their trees, where none is listed before

  module _ (old : List Item) (was : List Bool) (none : old ≡ []) where
    behind : (before : List Item) → before ≡ before ++ old
    behind before = sym (append-nil before) ∙ ap (λ (l : List Item). before ++ l) (sym none)

    mark_behind : (before : List Item) → Marked before was → Marked (before ++ old) was
    mark_behind before m = subst (λ (l : List Item). Marked l was) (behind before) m

    pub trees_unrooted : RootsStop facts first places old was → TreesStop facts first places was
    trees_unrooted s = record {
      is = λ before links records n m read roots r. s.is before links records n (mark_behind before m) read roots
          (subst (λ (l : List Item). Reach links records n (all_seen facts l) first (2 * length l)) (behind before) r);
    }

    module _ (mid : List Item) (met : List Bool) (a : RootsOn facts first places old was mid met (length places)) where
      pub trees_stop : ChainsStop facts mid met 0 → TreesStop facts first places was
      trees_stop s = record {
        is = λ before links records n m read roots r. s.is before links records n (first + length places) (a.marked.is before (mark_behind before m)) read
            (subst (λ d. Reach links records n (all_seen facts (before ++ mid)) (first + length places) d) (omega (arith, ap length (behind before)))
            (a.reached before links records n (mark_behind before m) read roots (subst (λ (l : List Item). Reach links records n (all_seen facts l) first (2 * length l)) (behind before) r)));
      }

      pub trees_on : (new : List Item) (now : List Bool) → ChainsOn facts mid met new now 0 (length new) → TreesOn facts first places was new now
      trees_on new now b = record {
        marked = λ before m. b.marked.is before (a.marked.is before (mark_behind before m));
        reached = λ before links records n m read roots r. subst (λ d. Reach links records n (all_seen facts (before ++ new)) (first + length places) d) (omega (arith, length-append before new))
            (b.reached before links records n (first + length places) (a.marked.is before (mark_behind before m)) read
            (subst (λ d. Reach links records n (all_seen facts (before ++ mid)) (first + length places) d) (omega (arith, ap length (behind before)))
            (a.reached before links records n (mark_behind before m) read roots (subst (λ (l : List Item). Reach links records n (all_seen facts l) first (2 * length l)) (behind before) r))));
      }
