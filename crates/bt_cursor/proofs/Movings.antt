-- Where a cursor goes, whatever pairs a tree means.
use Rattle.std.proofs.Common.{◌≡◌, ℕ, ◌<◌, ◌≤◌, List, Bool, true, false, not, Option, Some, None, filter, refl, sym, ap, ◌∙◌, subst}
use Rattle.std.specs.Prelude.{is_some}
use Rattle.std.specs.Cmp.{IsTotalOrder}
use Rattle.std.specs.Ordering.{is_ge, is_gt, is_lt}
use Rattle.std.specs.declared.cmp.Ordering.{Ordering}
use Rattle.std.specs.declared.cmp.Ordering.TheVariants.{Less, Equal, Greater}
use Rattle.std.proofs.lemmas.Map.Lookups.{CmpEqualImpliesEq}
use Rattle.tc_base.specs.Lists.{above, from_on}
use Rattle.tc_base.specs.declared.order.Order.{Ghosts as Orders}
use Rattle.tc_base.specs.declared.seq.Pair.{Pair}
use Rattle.tc_space.specs.Changes.{inside, is_inside}
use Rattle.tc_space.specs.declared.records.Records.{Ghosts as Stores}
use Rattle.tc_space.specs.declared.space.Space.{Ghosts}
use Rattle.bt_order.specs.Ends.{side_above}
use Rattle.bt_order.specs.Keys.{side_in}
use Rattle.bt_order.specs.Sides.{side}
use Rattle.bt_rows.specs.Orders.{IsOrder, before_by}
use Rattle.bt_rows.proofs.Ordered.{orders_are_strict}
use Rattle.bt_tree.specs.declared.tree.Tree.{Tree}
use Rattle.bt_tree.specs.Meaning.{AnswersPairs}
use Rattle.bt_cursor.specs.Moving.{MovesTo}
use Rattle.bt_cursor.specs.Places.{Looks, end_first, end_last, ends_above, ends_before, first_place, last_number, last_place, next_place, number_behind, number_in_front, place, place_before, place_behind, place_from, prev_place}
use Rattle.bt_cursor.specs.declared.cursor.Place.{Place}
use Rattle.bt_cursor.specs.declared.takers.End.{End}
use Rattle.bt_cursor.proofs.Lookings.{items_meant}
use Rattle.bt_cursor.proofs.Placings.{first_is, first_value, from_next, from_own, jump_is, last_is, last_value, next_on, next_own, prev_on, prev_own}

-- ---- tests that agree

module _ {X : Type 0} (f g : X → Bool) (same : (x : X) → f x ≡ g x) where
  filter_same : (xs : List X) → filter f xs ≡ filter g xs
  filter_same xs = ap (λ (t : X → Bool). filter t xs) (λ i x. same x i)

above_side : (b : Bool) → is_inside (side (not b) false) ≡ b
above_side true = refl
above_side false = refl

from_side : (o : Ordering) → is_inside (side (is_lt o) false) ≡ is_ge o
from_side Less = refl
from_side Equal = refl
from_side Greater = refl

pub inside_above : (cmp : List ℕ → List ℕ → Ordering) (key : List ℕ) (ps : List Pair) → inside (side_above cmp key) ps ≡ above cmp ps key
inside_above cmp key ps = filter_same (λ (p : Pair). is_inside (side_above cmp key p.key)) (λ (p : Pair). is_gt (cmp p.key key)) (λ p. above_side (is_gt (cmp p.key key))) ps

inside_from : (cmp : List ℕ → List ℕ → Ordering) (key : List ℕ) (ps : List Pair) → inside (side_in cmp key None) ps ≡ from_on cmp key ps
inside_from cmp key ps = filter_same (λ (p : Pair). is_inside (side_in cmp key None p.key)) (λ (p : Pair). is_ge (cmp p.key key)) (λ p. from_side (cmp p.key key)) ps

module _ {S V O : Type 0} (s : Ghosts S) (R : Stores V S) (o : Orders O) (total : IsTotalOrder o.cmp) (exact : CmpEqualImpliesEq o.cmp) (t : Tree V O) (old : S) where
  abbrev Answers : {A : Type 0} → (List Pair → A) → A → Type 0
  Answers f x = AnswersPairs s R o f t old x

  strict : IsOrder (before_by o.cmp)
  strict = orders_are_strict o.cmp total exact

  pub moves : (f : List Pair → Option Place) (p at : Option Place) (there : Bool) → Answers f p → at ≡ p → there ≡ is_some p → MovesTo s R o f t old at there
  moves f p at there answers is so = λ ps means. (is ∙ answers ps means, so ∙ ap is_some (answers ps means))

  pub to_first : (end : Option End) → Answers end_first end → Answers first_place (first_value end)
  to_first end answers = λ ps means.
      let k = items_meant s R o strict t old ps means in
      ap first_value (answers ps means) ∙ subst (λ (qs : List Pair). first_value (end_first qs) ≡ first_place qs) (sym k.pairs) (sym (first_is o.cmp strict k.items k.are))

  pub to_last : (end : Option End) → Answers end_last end → Answers last_place (last_value end)
  to_last end answers = λ ps means.
      let k = items_meant s R o strict t old ps means in
      ap last_value (answers ps means) ∙ subst (λ (qs : List Pair). last_value (end_last qs) ≡ last_place qs) (sym k.pairs) (sym (last_is o.cmp strict k.items k.are))

  pub to_key : (key : List ℕ) (end : Option End) → Answers (λ ps. end_first (inside (side_in o.cmp key None) ps)) end → Answers (λ ps. first_place (from_on o.cmp key ps)) (first_value end)
  to_key key end answers = λ ps means.
      let k = items_meant s R o strict t old ps means in
      ap first_value (answers ps means ∙ ap end_first (inside_from o.cmp key ps))
      ∙ subst (λ (qs : List Pair). first_value (end_first (from_on o.cmp key qs)) ≡ first_place (from_on o.cmp key qs)) (sym k.pairs) (sym (jump_is o.cmp strict key k.items k.are))

  module _ (at : Place) (last : Option ℕ) (told : Answers (last_number at.key) last) where
    pub next_at : (n : ℕ) → number_behind at.number last ≡ Some n → Answers (next_place o.cmp (Some at)) (Some (place at.key n))
    next_at n e = λ ps means.
        let k = items_meant s R o strict t old ps means in
        subst (λ (qs : List Pair). Some (place at.key n) ≡ place_behind o.cmp at qs) (sym k.pairs)
        (sym (next_own o.cmp total strict at k.items k.are n (ap (number_behind at.number) (sym (told ps means ∙ ap (last_number at.key) k.pairs)) ∙ e)))

    pub prev_at : (n : ℕ) → number_in_front at.number last ≡ Some n → Answers (prev_place o.cmp (Some at)) (Some (place at.key n))
    prev_at n e = λ ps means.
        let k = items_meant s R o strict t old ps means in
        subst (λ (qs : List Pair). Some (place at.key n) ≡ place_before o.cmp at qs) (sym k.pairs)
        (sym (prev_own o.cmp total strict at k.items k.are n (ap (number_in_front at.number) (sym (told ps means ∙ ap (last_number at.key) k.pairs)) ∙ e)))

    pub from_at : (n : ℕ) → last ≡ Some n → at.number ≤ n → Answers (place_from o.cmp at) (Some at)
    from_at n e le = λ ps means.
        let k = items_meant s R o strict t old ps means in
        subst (λ (qs : List Pair). Some at ≡ place_from o.cmp at qs) (sym k.pairs)
        (sym (from_own o.cmp total strict at k.items k.are n (sym (told ps means ∙ ap (last_number at.key) k.pairs) ∙ e) le))

    -- the tree was looked at meanwhile
    module _ (most : ℕ) (u : Tree V O) (new : S) (looks : Looks s R o most t u old new) (end : Option End) where
      pub next_key : number_behind at.number last ≡ None → AnswersPairs s R o (ends_above o.cmp at.key) u new end → Answers (next_place o.cmp (Some at)) (first_value end)
      next_key e answers = λ ps means.
          let k = items_meant s R o strict t old ps means in
          ap first_value (answers ps (looks.reads.means ps means))
          ∙ subst (λ (qs : List Pair). first_value (ends_above o.cmp at.key qs) ≡ place_behind o.cmp at qs) (sym k.pairs)
          (sym (next_on o.cmp total strict at k.items k.are (ap (number_behind at.number) (sym (told ps means ∙ ap (last_number at.key) k.pairs)) ∙ e)))

      pub prev_key : number_in_front at.number last ≡ None → AnswersPairs s R o (ends_before o.cmp at.key) u new end → Answers (prev_place o.cmp (Some at)) (last_value end)
      prev_key e answers = λ ps means.
          let k = items_meant s R o strict t old ps means in
          ap last_value (answers ps (looks.reads.means ps means))
          ∙ subst (λ (qs : List Pair). last_value (ends_before o.cmp at.key qs) ≡ place_before o.cmp at qs) (sym k.pairs)
          (sym (prev_on o.cmp total strict at k.items k.are (ap (number_in_front at.number) (sym (told ps means ∙ ap (last_number at.key) k.pairs)) ∙ e)))

      pub from_key : ((n : ℕ) → last ≡ Some n → n < at.number) → AnswersPairs s R o (ends_above o.cmp at.key) u new end → Answers (place_from o.cmp at) (first_value end)
      from_key few answers = λ ps means.
          let k = items_meant s R o strict t old ps means in
          ap first_value (answers ps (looks.reads.means ps means))
          ∙ subst (λ (qs : List Pair). first_value (ends_above o.cmp at.key qs) ≡ place_from o.cmp at qs) (sym k.pairs)
          (sym (from_next o.cmp total strict at k.items k.are (λ n e. few n (told ps means ∙ ap (last_number at.key) k.pairs ∙ e))))
