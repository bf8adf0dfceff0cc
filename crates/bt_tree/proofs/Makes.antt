-- A tree of one leaf with no keys.
use Rattle.std.proofs.Common.{◌≡◌, ◌≢◌, ◌⊎◌, ℕ, ◌+◌, List, [], ◌∷◌, Bool, true, false, Option, Some, None, refl, sym, ap, ◌∙◌, subst, inl, inr, ⊎_elim, arith}
use Rattle.std.specs.Prelude.{if◌then◌else◌, ◌==◌, is_some}
use Rattle.std.specs.FinMap.{get, insert}
use Rattle.std.proofs.lemmas.Bool.{cases_eq}
use Rattle.std.proofs.lemmas.Bool.Decides.{nat_tests}
use Rattle.std.proofs.lemmas.Slice.Eq.{bytes_eq-Decides}
use Rattle.tc_base.specs.Maps.{Map}
use Rattle.tc_base.specs.Texts.{is_text}
use Rattle.tc_base.specs.declared.order.Order.{Ghosts as Orders}
use Rattle.tc_space.specs.Frames.{Keeps, Reads, Refuses, keeps_then}
use Rattle.tc_space.specs.Stores.{ReadyIn}
use Rattle.tc_space.specs.declared.records.Records.{Ghosts as Stores}
use Rattle.tc_space.specs.declared.space.Space.{Ghosts}
use Rattle.bt_page.specs.Keys.{key_of}
use Rattle.bt_page.specs.Pages.{leaf_bytes}
use Rattle.bt_rows.specs.declared.head.TreeHead.{TreeHead}
use Rattle.bt_rows.specs.declared.page.LeafAt.{LeafAt}
use Rattle.bt_rows.specs.declared.page.Page.{Page}
use Rattle.bt_rows.specs.declared.page.Page.TheVariants.{Leaf as leaf_page}
use Rattle.bt_rows.specs.Orders.{Before, before_by}
use Rattle.bt_rows.specs.Pages.{PageMap, IsGiven, IsPage, IsHeldAs, AreHeld}
use Rattle.bt_rows.specs.Rows.{root_slot, times, held}
use Rattle.bt_rows.specs.Rules.{B1, B2, B5, IsPageAt, IsWithin, column as column_key}
use Rattle.bt_rows.specs.Levels.{Stands}
use Rattle.bt_rows.proofs.Held.{column_free}
use Rattle.bt_cache.specs.Effects.{LacksKey, PutsPage, SameStore, same_store_then}
use Rattle.bt_cache.specs.Held.{AreSame, Beside, Holds, ReadyBeside}
use Rattle.bt_cache.specs.declared.cache.Cache.{Cache}
use Rattle.bt_cache.specs.declared.shared.SharedPage.{SharedPage}
use Rattle.bt_cache.proofs.Kept.{insert_here, insert_other}
use Rattle.bt_check.specs.Looks.{Looks}
use Rattle.bt_tree.specs.declared.tree.Tree.{Tree}
use Rattle.bt_tree.specs.Making.{HoldsBare, IsBare, IsNew, IsRefused, LacksFirst, MayBe, lone_leaf}
use Rattle.bt_tree.specs.Numbers.{lone_head}
use Rattle.bt_tree.specs.Trees.{HasKeys, HoldsPairs}

abbrev lone_page : PageMap
lone_page id = if id == 1 then Some (leaf_page lone_leaf) else None

page_here : lone_page 1 ≡ Some (leaf_page lone_leaf)
page_here = refl

page_other : (id : ℕ) → id ≢ 1 → lone_page id ≡ None
page_other id ne = let no : (id == 1) ≡ false = grind (arith, nat_tests) in rw no refl

abbrev lone_place : LeafAt
lone_place = record { slot = root_slot 1; leaf = lone_leaf }

module _ (before : Before) (order leaf_limit node_limit : ℕ) (may : MayBe leaf_limit node_limit order) (m : Map) (bare : IsBare m) where
  abbrev h : TreeHead
  h = lone_head order leaf_limit node_limit

  abbrev m' : Map
  m' = insert m (key_of 1) (leaf_bytes lone_leaf)

  given_one : (id : ℕ) → IsGiven h id → id ≡ 1
  given_one id (inl g) = omega (arith, g.0, g.1)
  given_one id (inr g) = absurd (omega (arith, g.0, g.1))

  lone_fits : IsPage 1 (leaf_bytes lone_leaf) (leaf_page lone_leaf)
  lone_fits = (omega arith, record { fits = record { prev = omega arith; next = omega arith; items = tt }; is = refl })

  one_held : IsHeldAs 1 (get m' (key_of 1)) (lone_page 1)
  one_held = subst (λ (o : Option (List ℕ)). IsHeldAs 1 o (lone_page 1)) (sym (insert_here m (key_of 1) (leaf_bytes lone_leaf))) lone_fits

  are_held : AreHeld h (get m') lone_page
  are_held = record {
    given = λ id g. subst (λ (i : ℕ). IsHeldAs i (get m' (key_of i)) (lone_page i)) (sym (given_one id g)) one_held;
    others = λ id not. page_other id (λ e. absurd (not (inl (omega (arith, e), omega (arith, e)))));
  }

  once : (id : ℕ) → times id (root_slot 1 ∷ []) + 0 ≡ held lone_page id
  once id = ⊎_elim (λ (is : id ≡ 1). subst (λ (i : ℕ). times i (root_slot 1 ∷ []) + 0 ≡ held lone_page i) (sym is) refl)
      (λ (other : id ≡ 1 → ⊥). let away : times id (root_slot 1 ∷ []) ≡ 0 = none id other in rw (page_other id other) (omega (arith, away))) (cases_eq id 1)
    where
      none : (id : ℕ) → (id ≡ 1 → ⊥) → times id (root_slot 1 ∷ []) ≡ 0
      none id other = let no : (1 == id) ≡ false = grind (arith, nat_tests) in rw no refl

  stands : Stands before lone_page 1 (lone_place ∷ []) []
  stands = record {
    up = refl;
    leaves_held = (page_here, tt);
    nodes_held = tt;
    once = once;
    order = (record { ascends = tt; above = tt }, tt, tt);
    links = (refl, refl, tt);
  }

  head : B1 h
  head = record { order = may.order; leaf_limit = may.leaf; node_limit = may.node; leaf_ids = omega arith; node_ids = omega arith }

  module _ (column : Option (List ℕ)) (is : column ≡ get m column_key) where
    there : (o : Option (List ℕ)) (bytes : List ℕ) → o ≡ Some bytes → is_some o ≡ true
    there None bytes e = absurd (cc)
    there (Some x) bytes e = refl

    rule : B2 h (is_some column) (get m')
    rule key bytes at = go (is_text key (key_of 1)) refl
      where
        clash : (b : Bool) → b ≡ true → b ≡ false → ⊥
        clash b e f = cc

        some_same : (x y : List ℕ) → Some x ≡ Some y → x ≡ y
        some_same x y e = cc

        go : (b : Bool) → is_text key (key_of 1) ≡ b → IsPageAt h key bytes ⊎ ((is_some column ≡ true) × (key ≡ column_key))
        go true e =
            let same : key ≡ key_of 1 = (bytes_eq-Decides key (key_of 1)).0 e in
            let here : Some (leaf_bytes lone_leaf) ≡ Some bytes = sym (insert_here m (key_of 1) (leaf_bytes lone_leaf)) ∙ ap (get m') (sym same) ∙ at in
            let spelled : leaf_bytes lone_leaf ≡ bytes = some_same (leaf_bytes lone_leaf) bytes here in
            inl (record { id = 1; given = inl (omega arith, omega arith); key_is = same; page = leaf_page lone_leaf; is = subst (λ (b : List ℕ). IsPage 1 b (leaf_page lone_leaf)) spelled lone_fits })
        go false e =
            let was : get m key ≡ Some bytes = sym (insert_other m (key_of 1) (leaf_bytes lone_leaf) key (λ same. absurd (clash (is_text key (key_of 1)) ((bytes_eq-Decides key (key_of 1)).1 same) e))) ∙ at in
            let named : key ≡ column_key = bare key bytes was in
            inr (there column bytes (is ∙ ap (get m) (sym named) ∙ was), named)

    keys : HasKeys h column (get m')
    keys = record { rule = rule; has = insert_other m (key_of 1) (leaf_bytes lone_leaf) column_key (λ e. absurd (column_free 1 (omega arith) e)) ∙ sym is }

  limits : B5 h lone_page
  limits id = ⊎_elim (λ (is : id ≡ 1). subst (λ (i : ℕ). IsWithin h i (lone_page i)) (sym is) (record { within = record { keys = omega arith; bytes = λ two. absurd (omega (arith, two)) }; some = λ ne. absurd (ne refl) }))
      (λ (other : id ≡ 1 → ⊥). subst (λ (o : Option Page). IsWithin h id o) (sym (page_other id other)) tt) (cases_eq id 1)

  pub holds_none : (column : Option (List ℕ)) → column ≡ get m column_key → HoldsPairs before h 1 column (get m') []
  holds_none column is = record {
    tree = record { head = head; pages = lone_page; held = are_held; leaves = lone_place ∷ []; levels = []; stands = stands; high = refl };
    keys = keys column is;
    limits = limits;
    links = record { first = refl; last = refl; links = (refl, refl, tt) };
    count = refl;
    are = refl;
  }

-- ---- the call

-- w is the store once its record `column` was looked for, and no page is in memory
module _ {S V : Type 0} (s : Ghosts S) (R : Stores V S) (v w : V) (old mid : S) (ready : ReadyIn s R.file_of R.holds v old) (looks : Looks s R v w old mid) where
  pub looked_refused : IsRefused s old mid
  looked_refused = inr (record { keeps = looks.keeps; files = looks.reads.now; untouched = looks.reads.touched; is_sound = looks.reads.sound })

  module _ (c : Cache V) (empty : c.pages.entries ≡ []) where
    at_first : (m : Map) → Holds s R v old m → Beside s R (c.pages, w) mid m
    at_first m i = (looks.reads.means m i, subst (λ (es : List (ℕ × SharedPage)). AreSame m es) (sym empty) tt)

    pub bare_ready : ReadyBeside s R c w mid
    bare_ready = record { sound = looks.reads.sound; held = λ told. let h = ready.held told in (h.0, at_first h.0 h.1) }

    pub unmade : (c' : Cache V) (v' : V) (new : S) → Keeps s mid new → Refuses s (Beside s R) (c.pages, w) (c'.pages, v') mid new → IsRefused s old new
    unmade c' v' new keeps r = ⊎_elim (λ spoiled. inl spoiled)
        (λ (reads : Reads s (Beside s R) (c.pages, w) (c'.pages, v') mid new).
        inr (record { keeps = keeps_then s old mid new looks.keeps keeps; files = λ told g. reads.now told g ∙ looks.reads.now told g; untouched = reads.touched ∙ looks.reads.touched; is_sound = reads.sound }))
        r

    pub lacks_first : (new : S) → LacksKey s R 1 (leaf_bytes lone_leaf) w mid new → LacksFirst s R v old new
    lacks_first new lacks = record { store = w; moment = mid; looks = looks; by = lacks }

    pub made : {O : Type 0} (o : Orders O) (leaf_limit node_limit : ℕ) → MayBe leaf_limit node_limit o.CODE → HoldsBare s R v old → (t : Tree V O) (new : S) → PutsPage s R 1 (leaf_bytes lone_leaf) c t.cache w t.store mid new
        → SameStore R w t.store → t.head ≡ lone_head o.CODE leaf_limit node_limit → t.height ≡ 1 → ((m : Map) → Holds s R v old m → t.column ≡ get m column_key)
        → IsNew s R o v leaf_limit node_limit t old new
    made {O} o leaf_limit node_limit may bare t new writes same head height column = record {
      sound = writes.sound;
      means = λ told.
          let h = ready.held told in
          let m' : Map = insert h.0 (key_of 1) (leaf_bytes lone_leaf) in
          let b = writes.means h.0 (at_first h.0 h.1) in
          let pairs : HoldsPairs (before_by o.cmp) (lone_head o.CODE leaf_limit node_limit) 1 t.column (get m') [] = holds_none (before_by o.cmp) o.CODE leaf_limit node_limit may h.0 (bare h.0 h.1) t.column (column h.0 h.1) in
          let here : HoldsPairs (before_by o.cmp) t.head t.height t.column (get m') [] =
          subst (λ (x : TreeHead). HoldsPairs (before_by o.cmp) x t.height t.column (get m') []) (sym head)
          (subst (λ (n : ℕ). HoldsPairs (before_by o.cmp) (lone_head o.CODE leaf_limit node_limit) n t.column (get m') []) (sym height) pairs) in
          (told, record { records = m'; store = b.0.1; same = b.1; order = ap (λ (x : TreeHead). x.order) head; is = here });
      column_is = column;
      others = record { same = λ told g other. writes.others.same told g (λ is. absurd (other (is ∙ looks.file))) ∙ looks.reads.now told g };
      made = same_store_then R v w t.store (record { file = looks.file; sort = looks.sort_same; numbers = looks.numbers_same; region = looks.region_same; lead = looks.leads }) same;
      head = head;
      height = height;
    }
