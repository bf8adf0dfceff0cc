-- What is taken of items that are shown, and calls that only look at a tree.
use Rattle.std.proofs.Common.{◌≡◌, ℕ, ◌+◌, ◌-◌, ◌*◌, ◌^◌, ◌≤◌, List, [], ◌∷◌, ◌++◌, Bool, true, false, Option, Some, None, length, refl, sym, ap, ◌∙◌, subst, inl, inr, ⊎_elim, ◌⊎◌, arith}
use Rattle.std.specs.Prelude.{option_map}
use Rattle.std.specs.declared.cmp.Ordering.{Ordering}
use Rattle.tc_base.specs.Lists.{values}
use Rattle.tc_base.specs.declared.order.Order.{Ghosts as Orders}
use Rattle.tc_base.specs.declared.order.Side.{Side}
use Rattle.tc_base.specs.declared.seq.Pair.{Pair}
use Rattle.tc_space.specs.Changes.{inside}
use Rattle.tc_space.specs.Frames.{reads_refl, reads_then}
use Rattle.tc_space.specs.Stores.{Ticks}
use Rattle.tc_space.specs.declared.records.Records.{Ghosts as Stores}
use Rattle.tc_space.specs.declared.space.Space.{Ghosts}
use Rattle.bt_page.specs.declared.page.Item.{Item}
use Rattle.bt_slots.specs.Reads.{values_in}
use Rattle.bt_slots.proofs.BareReads.{values_long}
use Rattle.bt_ways.specs.Changes.{AreItems, items_pairs}
use Rattle.bt_ways.specs.Items.{item_in, item_of}
use Rattle.bt_tree.specs.declared.tree.Tree.{Tree}
use Rattle.bt_tree.specs.Meaning.{AnswersPairs, IsOpen, Means}
use Rattle.bt_tree.specs.Ranging.{Scans}
use Rattle.bt_tree.specs.Showing.{ShownOf, ShowsItem, Takes, item_first}
use Rattle.bt_tree.specs.Costs.{looks_refl, looks_then}
use Rattle.bt_tree.specs.Visiting.{CostsVisit, IsLastOne, IsVisited, Shown, VisitsPairs}
use Rattle.bt_tree.proofs.Fronts.{first_of}
use Rattle.bt_tree.specs.Visits.{Asks, stays_then}
use Rattle.bt_tree.proofs.Contents.{no_items_of}
use Rattle.bt_rows.specs.declared.head.TreeHead.{TreeHead}
use Rattle.bt_rows.specs.Orders.{IsOrder, before_by}
use Rattle.bt_cursor.specs.Places.{AsksFew, AsksFor, Looks, end_of, last_number, number_last}
use Rattle.bt_cursor.specs.declared.takers.End.{End}

-- ---- how many pages a store was asked for

module _ {S V : Type 0} (R : Stores V S) where
  asked_more : (v w : V) (j most : ℕ) → j ≤ most → AsksFor R j v w → AsksFor R most v w
  asked_more v w j most le asked = ⊎_elim (λ (a : R.gets w ≤ R.gets v + j). inl (omega (arith, a, le))) (λ (b : 2 ^ 64 - 1 ≤ j). inr (omega (arith, b, le))) asked

  asked_then : (u v w : V) (j k most : ℕ) → j + k ≤ most → AsksFor R j u v → AsksFor R k v w → AsksFor R most u w
  asked_then u v w j k most le first second = ⊎_elim
      (λ (a : R.gets v ≤ R.gets u + j). ⊎_elim (λ (b : R.gets w ≤ R.gets v + k). inl (omega (arith, a, b, le))) (λ (b : 2 ^ 64 - 1 ≤ k). inr (omega (arith, b, le))) second)
      (λ (a : 2 ^ 64 - 1 ≤ j). inr (omega (arith, a, le)))
      first

  -- as a counter that began at 0 tells
  asked_of : (v w : V) (steps steps' most : ℕ) → steps ≡ 0 → Ticks (R.gets v) (R.gets w) steps steps' → steps' ≤ most → AsksFor R most v w
  asked_of v w steps steps' most none ticks le =
      ⊎_elim (λ (a : R.gets w + steps ≤ R.gets v + steps'). inl (omega (arith, a, le, none))) (λ (b : 2 ^ 64 - 1 ≤ steps'). inr (omega (arith, b, le))) ticks.enough

-- ---- what is left of a tree that was looked at

module _ {S V O : Type 0} (s : Ghosts S) (R : Stores V S) (o : Orders O) (t u : Tree V O) (old new : S) where
  pub looks_of : (most steps steps' : ℕ) → steps ≡ 0 → Asks s R o most t u steps steps' old new → Looks s R o most t u old new
  looks_of most steps steps' none a = record { reads = a.reads; looks = a.looks; stays = a.stays; asked = asked_of R t.store u.store steps steps' most none a.pages.ticks (omega (arith, a.pages.within, none)) }

  pub looks_scanned : (side : List ℕ → Side) (steps steps' : ℕ) → steps ≡ 0 → Scans s R o t u steps steps' old new → CostsVisit s R o side t old steps steps' → Looks s R o (t.height + t.head.pairs) t u old new
  looks_scanned side steps steps' none a cost = record { reads = a.reads; looks = a.looks; stays = a.stays; asked = asked_of R t.store u.store steps steps' (t.height + t.head.pairs) none a.ticks (omega (arith, cost.most, none)) }

  pub open_after : (most : ℕ) → IsOpen s R o t old → Looks s R o most t u old new → IsOpen s R o u new
  open_after most ready looks = record { sound = looks.reads.sound; held = λ told. let h = ready.held told in (h.0, looks.reads.means h.0 h.1) }

  pub looks_more : (j most : ℕ) → j ≤ most → Looks s R o j t u old new → Looks s R o most t u old new
  looks_more j most le l = record { reads = l.reads; looks = l.looks; stays = l.stays; asked = asked_more R t.store u.store j most le l.asked }

module _ {S V O : Type 0} (s : Ghosts S) (R : Stores V S) (o : Orders O) where
  pub looks_none : (most : ℕ) (t : Tree V O) (old : S) → s.sound old → Looks s R o most t t old old
  looks_none most t old sound = record { reads = reads_refl s (Means s R o) t old sound; looks = looks_refl s R t.cache t.store old sound; stays = record { head = refl; height = refl; column = refl }; asked = inl (omega arith) }

  pub few_none : (most : ℕ) (t : Tree V O) (old : S) → AsksFew s R o most t t old
  few_none most t old = λ ps means. inl (omega arith)

  module _ (t u v : Tree V O) (a b c : S) (first : Looks s R o t.height t u a b) where
    looks_both : (k most : ℕ) → t.height + k ≤ most → Looks s R o k u v b c → Looks s R o most t v a c
    looks_both k most le second = record {
      reads = reads_then s (Means s R o) t u v a b c first.reads second.reads;
      looks = looks_then s R t.cache u.cache v.cache t.store u.store v.store a b c first.looks second.looks;
      stays = stays_then t u v first.stays second.stays;
      asked = asked_then R t.store u.store v.store t.height k most le first.asked second.asked;
    }

    -- the key was looked up, and then the next one, or the one in front
    pub looks_on : Looks s R o (u.height + u.head.pairs) u v b c → Looks s R o (2 * t.height + t.head.pairs) t v a c
    looks_on second = looks_both (u.height + u.head.pairs) (2 * t.height + t.head.pairs) (omega (arith, first.stays.height, ap (λ (h : TreeHead). h.pairs) first.stays.head)) second

    pub looks_back : Looks s R o (u.height + 1) u v b c → Looks s R o (2 * t.height + 1) t v a c
    looks_back second = looks_both (u.height + 1) (2 * t.height + 1) (omega (arith, first.stays.height)) second

    pub few_on : AsksFew s R o (u.height + 2) u v b → AsksFew s R o (2 * t.height + 2) t v a
    few_on few = λ ps means. asked_then R t.store u.store v.store t.height (u.height + 2) (2 * t.height + 2) (omega (arith, first.stays.height)) first.asked (few ps (first.reads.means ps means))

  -- the key alone was
  module _ (t u : Tree V O) (a b : S) (first : Looks s R o t.height t u a b) where
    pub looks_own : Looks s R o (2 * t.height + t.head.pairs) t u a b
    looks_own = looks_more s R o t u a b t.height (2 * t.height + t.head.pairs) (omega arith) first

    pub looks_here : Looks s R o (2 * t.height + 1) t u a b
    looks_here = looks_more s R o t u a b t.height (2 * t.height + 1) (omega arith) first

    pub few_own : AsksFew s R o (2 * t.height + 2) t u a
    few_own = λ ps means. asked_more R t.store u.store t.height (2 * t.height + 2) (omega arith) first.asked

  -- whatever pairs it means are those of items in order
  pub record HasItems (ps : List Pair) : Type 0 where
    pub items : List Item
    pub are : AreItems o.cmp items
    pub pairs : ps ≡ items_pairs items

  pub items_meant : IsOrder (before_by o.cmp) → (t : Tree V O) (old : S) (ps : List Pair) → Means s R o t old ps → HasItems ps
  items_meant order t old ps means =
      let k = no_items_of o.cmp order t.head t.height t.column means.1.records ps means.1.is in
      record { items = k.all; are = k.are; pairs = k.pairs }

-- ---- what is made of an item that was shown

module _ {T A : Type 0} (takes : Takes T) (view : Item → A) (got : T → Option A) where
  seen_as : (t u : T) (held : Bool) (o : Option Item) → ((t u : T) (x : Item) (more : Bool) → takes t x u more → got u ≡ Some (view x)) → got t ≡ None → ShownOf takes o held t u → got u ≡ option_map view o
  seen_as t u held None taken none shown = ap got shown.1 ∙ none
  seen_as t u held (Some x) taken none shown = taken t u x shown.1 shown.2

  pub item_seen : {S V O : Type 0} (s : Ghosts S) (R : Stores V S) (o : Orders O) (f : List Pair → Option Item) (tree : Tree V O) (space : S) (t u : T) (held : Bool)
      → ((t u : T) (x : Item) (more : Bool) → takes t x u more → got u ≡ Some (view x)) → got t ≡ None → ShowsItem s R o f takes tree space held t u → AnswersPairs s R o (λ ps. option_map view (f ps)) tree space (got u)
  item_seen s R o f tree space t u held taken none shows = λ ps means. seen_as t u held (f ps) taken none (shows ps means)

-- the number of a key's last value
module _ {T : Type 0} (takes : Takes T) (number : T → ℕ) (taken : (t u : T) (x : Item) (more : Bool) → takes t x u more → number u + 1 ≡ length x.values) where
  none_held : (key : List ℕ) (vs : List (List ℕ)) (t u : T) → ShownOf takes (item_of key vs) false t u → None ≡ number_last vs
  none_held key [] t u shown = refl
  none_held key (v ∷ vs) t u shown = absurd (never shown.0)
    where
      never : false ≡ true → ⊥
      never e = cc

  one_held : (key : List ℕ) (vs : List (List ℕ)) (t u : T) → ShownOf takes (item_of key vs) true t u → Some (number u) ≡ number_last vs
  one_held key [] t u shown = absurd (never shown.0)
    where
      never : true ≡ false → ⊥
      never e = cc
  one_held key (v ∷ vs) t u shown = ap (λ (n : ℕ). Some n) (omega (arith, taken t u (record { key = key; values = v ∷ vs }) shown.1 shown.2))

  module _ {S V O : Type 0} (s : Ghosts S) (R : Stores V S) (o : Orders O) (key : List ℕ) (tree : Tree V O) (space : S) (t u : T) where
    pub no_last : ShowsItem s R o (item_in key) takes tree space false t u → AnswersPairs s R o (last_number key) tree space None
    no_last shows = λ ps means. none_held key (values ps key) t u (shows ps means)

    pub has_last : ShowsItem s R o (item_in key) takes tree space true t u → AnswersPairs s R o (last_number key) tree space (Some (number u))
    has_last shows = λ ps means. one_held key (values ps key) t u (shows ps means)

-- ---- values where they lie

abbrev pub end_at : List ℕ → ℕ → End
end_at key last = record { key = key; last = last }

-- the key of an item that lies somewhere, and the number of its last value
pub end_seen : (key k first : List ℕ) (more : ℕ) (further : List ℕ) → k ≡ key → Some (end_at k more) ≡ Some (end_of (record { key = key; values = first ∷ (values_in more further).0 }))
end_seen key k first more further is =
    let last : more ≡ length (first ∷ (values_in more further).0) - 1 = omega (arith, values_long more further) in
    λ i. Some (end_at (is i) (last i))

-- ---- the first item of a stretch

module _ {T A : Type 0} (takes : Takes T) (view : Item → A) (got : T → Option A) (taken : (t u : T) (x : Item) (more : Bool) → takes t x u more → (got u ≡ Some (view x)) × (more ≡ false)) where
  never : true ≡ false → ⊥
  never e = cc

  visited : (cmp : List ℕ → List ℕ → Ordering) → IsOrder (before_by cmp) → (qs : List Pair) (way steps steps' : ℕ) (t u : T) → got t ≡ None → IsVisited takes cmp qs way steps steps' t u → got u ≡ option_map view (item_first qs)
  visited cmp order qs way steps steps' t u none v = go v.went refl v.shown
    where
      go : (went : List Item) → v.went ≡ went → Shown takes t went u v.more → got u ≡ option_map view (item_first qs)
      go [] e shown =
          let nil : qs ≡ [] = sym v.pairs ∙ ap items_pairs (λ j. e j ++ v.whole shown.1 j) in
          ap got shown.0 ∙ none ∙ sym (ap (λ (ps : List Pair). option_map view (item_first ps)) nil)
      go (x ∷ xs) e shown =
          let whole : v.went ++ v.left ≡ x ∷ (xs ++ v.left) = ap (λ (z : List Item). z ++ v.left) e in
          let first : item_first qs ≡ Some x = ap item_first (sym v.pairs ∙ ap items_pairs whole) ∙ first_of cmp order x (xs ++ v.left) (subst (AreItems cmp) whole v.are) in
          ⊎_elim
          (λ (on : takes t x shown.0 true × Shown takes shown.0 xs u v.more). absurd (never (taken t shown.0 x true on.0).1))
          (λ (last : IsLastOne takes t x xs shown.0 u v.more). ap got last.same ∙ (taken t shown.0 x false last.taken).0 ∙ sym (ap (λ (o : Option Item). option_map view o) first))
          shown.1

  one_went : (t u : T) (went : List Item) (more : Bool) → Shown takes t went u more → length went ≤ 1
  one_went t u [] more shown = omega arith
  one_went t u (x ∷ xs) more shown = ⊎_elim
      (λ (on : takes t x shown.0 true × Shown takes shown.0 xs u more). absurd (never (taken t shown.0 x true on.0).1))
      (λ (last : IsLastOne takes t x xs shown.0 u more). omega (arith, ap length last.last))
      shown.1

  -- so a page more than the way is read, and one
  pub few_visited : {S V O : Type 0} (s : Ghosts S) (R : Stores V S) (o : Orders O) (side : List ℕ → Side) (tree tree' : Tree V O) (space : S) (steps steps' : ℕ) (t u : T) → steps ≡ 0 → Ticks (R.gets tree.store) (R.gets tree'.store) steps steps'
      → VisitsPairs s R o takes side tree space steps steps' t u → AsksFew s R o (tree.height + 2) tree tree' space
  few_visited s R o side tree tree' space steps steps' t u none ticks visits = λ ps means.
      let v = visits ps means in
      asked_of R tree.store tree'.store steps steps' (tree.height + 2) none ticks (omega (arith, v.few, none, one_went t u v.went v.more v.shown))

  pub first_visited : {S V O : Type 0} (s : Ghosts S) (R : Stores V S) (o : Orders O) → IsOrder (before_by o.cmp) → (side : List ℕ → Side) (tree : Tree V O) (space : S) (steps steps' : ℕ) (t u : T) → got t ≡ None
      → VisitsPairs s R o takes side tree space steps steps' t u → AnswersPairs s R o (λ ps. option_map view (item_first (inside side ps))) tree space (got u)
  first_visited s R o order side tree space steps steps' t u none visits = λ ps means. visited o.cmp order (inside side ps) tree.height steps steps' t u none (visits ps means)
