-- Items of a leaf shown one by one.
use Rattle.std.proofs.Common.{◌≡◌, ◌≢◌, ◌⊎◌, ℕ, ◌+◌, ◌-◌, ◌<◌, ◌≤◌, List, [], ◌∷◌, ◌++◌, Bool, true, false, Some, length, take, drop, get_or, refl, sym, ap, ◌∙◌, subst, inl, inr, ⊎_elim, arith, append_assoc, length-drop}
use Rattle.std.specs.Prelude.{slice_get}
use Rattle.std.specs.List.{AllByRecursion}
use Rattle.std.proofs.lemmas.List.{append-nil, get_or-drop, take_all, take_more, take-append-drop}
use Rattle.std.proofs.lemmas.Option.{get_or_from_slice_get}
use Rattle.tc_base.specs.declared.order.Side.{Side}
use Rattle.tc_space.specs.Changes.{is_inside}
use Rattle.bt_page.specs.declared.page.Item.{Item}
use Rattle.bt_page.specs.declared.page.Leaf.{Leaf}
use Rattle.bt_tree.specs.Ranging.{IsStart, is_from}
use Rattle.bt_tree.specs.Showing.{Takes}
use Rattle.bt_tree.specs.Visiting.{BeginsOutside, IsLastOne, IsShownOf, Shown, ShowsRest}
use Rattle.bt_ways.proofs.Keys.{all_join, all_part}

never : true ≡ false → ⊥
never e = cc

module _ {T : Type 0} (takes : Takes T) where
  shown_one : (t u : T) (x : Item) (more : Bool) → takes t x u more → Shown takes t (x ∷ []) u more
  shown_one t u x true k = (u, inl (k, (refl, refl)))
  shown_one t u x false k = (u, inr (record { taken = k; last = refl; same = refl; enough = refl }))

  -- one more behind others
  pub shown_join : (xs : List Item) (t mid u : T) (x : Item) (more : Bool) → Shown takes t xs mid true → takes mid x u more → Shown takes t (xs ++ x ∷ []) u more
  shown_join [] t mid u x more s k = subst (λ (m : T). Shown takes m (x ∷ []) u more) s.0 (shown_one mid u x more k)
  shown_join (y ∷ ys) t mid u x more s k = (
    s.0,
    ⊎_elim (λ (on : takes t y s.0 true × Shown takes s.0 ys mid true). inl (on.0, shown_join ys s.0 mid u x more on.1 k)) (λ (last : IsLastOne takes t y ys s.0 mid true). absurd (never last.enough)) s.1,
  )

  module _ (side : List ℕ → Side) where
    -- so many items of a list were shown, all of them inside, and more is wanted
    pub record Showing (xs : List Item) (t : T) (i : ℕ) (u : T) : Type 0 where
      pub inside : AllByRecursion (λ x. is_inside (side x.key) ≡ true) (take i xs)
      pub shown : Shown takes t (take i xs) u true

    pub showing_from : (items : List Item) (place : ℕ) (t : T) → Showing (drop place items) t (place - place) t
    showing_from items place t =
        let none : 0 ≡ place - place = omega arith in
        subst (λ (k : ℕ). Showing (drop place items) t k t) none (record { inside = tt; shown = (refl, refl) })

    module _ (xs : List Item) (t u : T) (i : ℕ) (a : Showing xs t i u) where
      pub showing_all : length xs ≤ i → ShowsRest takes side xs t u true
      showing_all end =
          let all : take i xs ≡ xs = take_all i xs end in
          record {
            went = xs;
            left = [];
            are = sym (append-nil xs);
            inside = subst (λ (ys : List Item). AllByRecursion (λ x. is_inside (side x.key) ≡ true) ys) all a.inside;
            more = true;
            shown = subst (λ (ys : List Item). Shown takes t ys u true) all a.shown;
            whole = λ e. (refl, refl);
            ended = λ e. absurd cc;
          }

      module _ (x : Item) (lt : i < length xs) (is : x ≡ get_or xs i x) where
        here : take (i + 1) xs ≡ take i xs ++ x ∷ []
        here = take_more xs i x lt ∙ ap (λ (y : Item). take i xs ++ y ∷ []) (sym is)

        parts : xs ≡ take i xs ++ (x ∷ drop (i + 1) xs)
        parts = sym (take-append-drop (i + 1) xs) ∙ ap (λ (ys : List Item). ys ++ drop (i + 1) xs) here ∙ append_assoc (take i xs) (x ∷ []) (drop (i + 1) xs)

        all_inside : is_inside (side x.key) ≡ true → AllByRecursion (λ y. is_inside (side y.key) ≡ true) (take i xs ++ x ∷ [])
        all_inside fits = all_join (λ y. is_inside (side y.key) ≡ true) (take i xs) (x ∷ []) a.inside (fits, tt)

        pub showing_out : is_inside (side x.key) ≡ false → ShowsRest takes side xs t u false
        showing_out out = record {
          went = take i xs;
          left = x ∷ drop (i + 1) xs;
          are = parts;
          inside = a.inside;
          more = true;
          shown = a.shown;
          whole = λ e. absurd cc;
          ended = λ e. inr (record { first = x; rest = drop (i + 1) xs; are = refl; outside = out });
        }

        pub showing_more : (w : T) → is_inside (side x.key) ≡ true → takes u x w true → Showing xs t (i + 1) w
        showing_more w fits k = record {
          inside = subst (λ (ys : List Item). AllByRecursion (λ y. is_inside (side y.key) ≡ true) ys) (sym here) (all_inside fits);
          shown = subst (λ (ys : List Item). Shown takes t ys w true) (sym here) (shown_join (take i xs) t u w x true a.shown k);
        }

        pub showing_enough : (w : T) → is_inside (side x.key) ≡ true → takes u x w false → ShowsRest takes side xs t w false
        showing_enough w fits k = record {
          went = take i xs ++ x ∷ [];
          left = drop (i + 1) xs;
          are = parts ∙ sym (append_assoc (take i xs) (x ∷ []) (drop (i + 1) xs));
          inside = all_inside fits;
          more = false;
          shown = shown_join (take i xs) t u w x false a.shown k;
          whole = λ e. absurd cc;
          ended = λ e. inl refl;
        }

    -- from a place on
    module _ (items : List Item) (t u : T) (place i : ℕ) (from : place ≤ i) (a : Showing (drop place items) t (i - place) u) where
      pub from_all : length items ≤ i → ShowsRest takes side (drop place items) t u true
      from_all end = showing_all (drop place items) t u (i - place) a (omega (arith, length-drop place items, end, from))

      module _ (lt : i < length items) (x : Item) (get : slice_get items i ≡ Some x) where
        at_it : x ≡ get_or (drop place items) (i - place) x
        at_it = sym (get_or-drop place items (i - place) x ∙ ap (λ (k : ℕ). get_or items k x) (omega (arith, from)) ∙ get_or_from_slice_get items i x x get)

        few : i - place < length (drop place items)
        few = omega (arith, length-drop place items, lt, from)

        pub from_out : is_inside (side x.key) ≡ false → ShowsRest takes side (drop place items) t u false
        from_out out = showing_out (drop place items) t u (i - place) a x few at_it out

        pub from_enough : (w : T) → is_inside (side x.key) ≡ true → takes u x w false → ShowsRest takes side (drop place items) t w false
        from_enough w fits k = showing_enough (drop place items) t u (i - place) a x few at_it w fits k

        pub from_more : (w : T) → is_inside (side x.key) ≡ true → takes u x w true → Showing (drop place items) t (i + 1 - place) w
        from_more w fits k = subst (λ (j : ℕ). Showing (drop place items) t j w) (omega (arith, from)) (showing_more (drop place items) t u (i - place) a x few at_it w fits k)

    -- of a leaf
    pub shows_leaf : (l : Leaf) (place : ℕ) (t u : T) (all : Bool) (next : ℕ) → IsStart side l.items place → ShowsRest takes side (drop place l.items) t u all
        → (next ≢ 0 → (all ≡ true) × (next ≡ l.next)) → (next ≡ 0 → (all ≡ false) ⊎ ((all ≡ true) × (l.next ≡ 0))) → IsShownOf takes side l t u next
    shows_leaf l place t u all next s a on end = record {
      front = take place l.items;
      went = a.went;
      left = a.left;
      are = sym (take-append-drop place l.items) ∙ ap (λ (ys : List Item). take place l.items ++ ys) a.are;
      skipped = s.front;
      inside = a.inside;
      from = (all_part (λ x. is_from (side x.key) ≡ true) a.went a.left (subst (λ (ys : List Item). AllByRecursion (λ x. is_from (side x.key) ≡ true) ys) a.are s.others)).1;
      more = a.more;
      shown = a.shown;
      on = λ n. let o = on n in ((a.whole o.0).0, o.1, (a.whole o.0).1);
      ended = λ n. go (end n);
    }
      where
        go : (all ≡ false) ⊎ ((all ≡ true) × (l.next ≡ 0)) → (a.more ≡ false) ⊎ (((a.left ≡ []) × (l.next ≡ 0)) ⊎ BeginsOutside side a.left)
        go (inl e) = ⊎_elim (λ enough. inl enough) (λ o. inr (inr o)) (a.ended e)
        go (inr o) = inr (inl ((a.whole o.0).0, o.1))
