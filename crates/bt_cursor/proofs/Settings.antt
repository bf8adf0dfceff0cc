-- A pair that goes, and the place of the next one.
use Rattle.std.proofs.Common.{◌≡◌, ℕ, List, Bool, true, false, Option, Some, None, Result, Ok, Err, refl, sym, ap, ◌∙◌, subst, inl, inr, ⊎_elim, arith}
use Rattle.std.specs.Prelude.{OnOk}
use Rattle.std.specs.Result.{IsErrAnd}
use Rattle.tc_base.specs.declared.order.Order.{Ghosts as Orders}
use Rattle.tc_space.specs.Frames.{reads_refl}
use Rattle.tc_space.specs.declared.errors.RecErr.{RecErr}
use Rattle.tc_space.specs.declared.records.Records.{Ghosts as Stores}
use Rattle.tc_space.specs.declared.space.Space.{Ghosts}
use Rattle.bt_cache.specs.Effects.{same_store_refl, same_store_then}
use Rattle.bt_page.proofs.Runs.{on_err_any}
use Rattle.bt_rows.specs.declared.head.TreeHead.{TreeHead}
use Rattle.bt_rows.specs.Pages.{PageMap}
use Rattle.bt_tree.specs.declared.tree.Tree.{Tree}
use Rattle.bt_tree.specs.Inserting.{Gains, StaysMade}
use Rattle.bt_tree.specs.Meaning.{AnswersPairs, IsOpen, Means}
use Rattle.bt_tree.specs.Paging.{FillsIds, Shows}
use Rattle.bt_tree.specs.Removing.{AddsNone, IsLone}
use Rattle.bt_tree.specs.Valuing.{ChangesPages, GivesFew, GivesFewIds, PartsAt, SetsAt, valued}
use Rattle.bt_tree.specs.Visits.{StaysTree}
use Rattle.bt_tree.proofs.Pagings.{looked_shows}
use Rattle.bt_cursor.specs.Places.{Looks, place_from}
use Rattle.bt_cursor.specs.Setting.{OutsAt, PagesAt, PutsAt, TakesAt}
use Rattle.bt_cursor.specs.declared.cursor.Place.{Place}

module _ {S V O : Type 0} (s : Ghosts S) (R : Stores V S) (o : Orders O) where
  pub made_refl : (t : Tree V O) → StaysMade R t t
  made_refl t = record { made = same_store_refl R t.store; column = refl; order = refl; leaf_limit = refl; node_limit = refl }

  pub made_looked : (most : ℕ) (t u v : Tree V O) (b c : S) → StaysMade R t u → Looks s R o most u v b c → StaysMade R t v
  made_looked most t u v b c first looks = record {
    made = same_store_then R t.store u.store v.store first.made looks.looks.made;
    column = looks.stays.column ∙ first.column;
    order = ap (λ (h : TreeHead). h.order) looks.stays.head ∙ first.order;
    leaf_limit = ap (λ (h : TreeHead). h.leaf_limit) looks.stays.head ∙ first.leaf_limit;
    node_limit = ap (λ (h : TreeHead). h.node_limit) looks.stays.head ∙ first.node_limit;
  }

  pub puts_none : (at : Option Place) (value : Option (List ℕ)) (t : Tree V O) (a : S) → at ≡ None → s.sound a → PutsAt s R o at value false t t a a
  puts_none at value t a none sound = subst (λ (p : Option Place). PutsAt s R o p value false t t a a) (sym none) (refl, reads_refl s (Means s R o) t a sound)

  pub puts_some : (at : Option Place) (place : Place) (value : Option (List ℕ)) (there : Bool) (t u : Tree V O) (a b : S) → at ≡ Some place → SetsAt s R o place.key place.number value there t u a b → PutsAt s R o at value there t u a b
  puts_some at place value there t u a b some sets = subst (λ (p : Option Place). PutsAt s R o p value there t u a b) (sym some) sets

  -- it went, and where the next one stands was looked up
  module _ (at : Place) (t u v : Tree V O) (a b c : S) (sets : SetsAt s R o at.key at.number None true t u a b) where
    pub open_set : IsOpen s R o t a → IsOpen s R o u b
    open_set ready = record { sound = (sets.out refl).sound; held = λ told. let h = ready.held told in (valued o.cmp at.key at.number None h.0, (sets.out refl).means h.0 h.1) }

    pub taken_at : (most : ℕ) (next : Option Place) → Looks s R o most u v b c → AnswersPairs s R o (place_from o.cmp at) u b next → TakesAt s R o (Some at) (Some next) t v a c
    taken_at most next looks answers = (
      record {
        held = sets.held;
        out = λ e. record {
          sound = looks.reads.sound;
          means = λ ps h. looks.reads.means (valued o.cmp at.key at.number None ps) ((sets.out refl).means ps h);
          others = record { same = λ told g other. looks.reads.now told g ∙ (sets.out refl).others.same told g other };
        };
        none = λ e. absurd (never e);
      },
      λ ps h. answers (valued o.cmp at.key at.number None ps) ((sets.out refl).means ps h),
    )
      where
        never : true ≡ false → ⊥
        never e = cc

  pub takes_none : (at : Option Place) (t : Tree V O) (a : S) → at ≡ None → s.sound a → TakesAt s R o at None t t a a
  takes_none at t a none sound = puts_none at None t a none sound

  pub takes_some : (at : Option Place) (place : Place) (next : Option (Option Place)) (t u : Tree V O) (a b : S) → at ≡ Some place → TakesAt s R o (Some place) next t u a b → TakesAt s R o at next t u a b
  takes_some at place next t u a b some takes = subst (λ (p : Option Place). TakesAt s R o p next t u a b) (sym some) takes

  pub outs_none : (at : Option Place) (t u : Tree V O) (a b : S) → TakesAt s R o at None t u a b → OutsAt s R o at false at t u a b
  outs_none at t u a b takes = (takes, refl)

  pub outs_some : (at at' : Option Place) (t u : Tree V O) (a b : S) → TakesAt s R o at (Some at') t u a b → OutsAt s R o at true at' t u a b
  outs_some at at' t u a b takes = takes

-- ---- pages that come, and ids that are given

-- a fact behind an `Ok` is none behind `?`
none_done : {A E : Type 0} (P : Type 0) (r : Result A E) (w : E) → IsErrAnd r (λ y. y ≡ w) → OnOk r P
none_done P (Ok x) w is = absurd is
none_done P (Err e) w is = tt

module _ {S V O : Type 0} (s : Ghosts S) (R : Stores V S) (o : Orders O) where
  pub same_looked : (t : Tree V O) → StaysTree t t
  same_looked t = record { head = refl; height = refl; column = refl }

  module _ (at : Option Place) (value : Option (List ℕ)) (t u : Tree V O) (a b : S) where
    pub pages_none : {T : Type 0} (r : Result T RecErr) → at ≡ None → StaysTree t u → PagesAt s R o at value r t u a b
    pages_none r none stays = subst (λ (p : Option Place). PagesAt s R o p value r t u a b) (sym none) stays

    pub pages_some : {T : Type 0} (r : Result T RecErr) (place : Place) → at ≡ Some place → GivesFewIds s 2 t.height 1 r t u b → OnOk r (ChangesPages s R o place.key place.number value t u a b) → PagesAt s R o at value r t u a b
    pages_some r place some gives changes = subst (λ (p : Option Place). PagesAt s R o p value r t u a b) (sym some) (gives, changes)

  -- what one call answered another hands on
  pub pages_done : (at : Option Place) (value : Option (List ℕ)) (t u : Tree V O) (a b : S) {T T' : Type 0} (x : T) (y : T') → PagesAt s R o at value (Ok x) t u a b → PagesAt s R o at value (Ok y) t u a b
  pages_done None value t u a b x y pages = pages
  pages_done (Some at) value t u a b x y pages = (record { most = pages.0.most; kept = tt }, pages.1)

  pub pages_refused : (at : Option Place) (value : Option (List ℕ)) (t u : Tree V O) (a b : S) (T : Type 0) {T' : Type 0} (w : RecErr) (r : Result T' RecErr) → IsErrAnd r (λ y. y ≡ w) → PagesAt s R o {T = T} at value (Err w) t u a b → PagesAt s R o at value r t u a b
  pages_refused None value t u a b T w r is pages = pages
  pages_refused (Some at) value t u a b T w r is pages = (record { most = pages.0.most; kept = on_err_any r pages.0.kept }, none_done _ r w is)

  -- the tree was looked at since
  module _ (most : ℕ) (t u v : Tree V O) (a b c : S) (looks : Looks s R o most u v b c) where
    leaves_on : v.head.leaf_ids ≡ u.head.leaf_ids
    leaves_on = ap (λ (h : TreeHead). h.leaf_ids) looks.stays.head

    nodes_on : v.head.node_ids ≡ u.head.node_ids
    nodes_on = ap (λ (h : TreeHead). h.node_ids) looks.stays.head

    pub few_looked : GivesFew 2 t.height 1 t u → GivesFew 2 t.height 1 t v
    few_looked g = record {
      leaves_least = omega (arith, leaves_on, g.leaves_least);
      leaves_most = omega (arith, leaves_on, g.leaves_most);
      nodes_least = omega (arith, nodes_on, g.nodes_least);
      nodes_most = omega (arith, nodes_on, g.nodes_most);
      rows_most = omega (arith, looks.stays.height, g.rows_most);
    }

    adds_looked : AddsNone t u → AddsNone t v
    adds_looked g = record { leaf_ids = leaves_on ∙ g.leaf_ids; node_ids = nodes_on ∙ g.node_ids; rows = omega (arith, looks.stays.height, g.rows) }

    gains_looked : Gains 2 t.height 1 t u → Gains 2 t.height 1 t v
    gains_looked g = record {
      leaves_least = omega (arith, leaves_on, g.leaves_least);
      leaves_most = omega (arith, leaves_on, g.leaves_most);
      nodes_least = omega (arith, nodes_on, g.nodes_least);
      nodes_most = omega (arith, nodes_on, g.nodes_most);
      rows_least = omega (arith, looks.stays.height, g.rows_least);
      rows_most = omega (arith, looks.stays.height, g.rows_most);
    }

    shown_looked : (pages : PageMap) → Shows s R u b pages → Shows s R v c pages
    shown_looked pages h = looked_shows s R u v b c looks.looks looks.stays.head looks.stays.column pages h

    pub changes_looked : (key : List ℕ) (place : ℕ) (value : Option (List ℕ)) → ChangesPages s R o key place value t u a b → ChangesPages s R o key place value t v a c
    changes_looked key place value g = record {
      adds = ⊎_elim (λ (none : AddsNone t u). inl (adds_looked none)) (λ (parts : PartsAt s R o key place value t u a). inr (gains_looked parts.0, parts.1)) g.adds;
      written = λ ps h. let w = g.written ps h in (w.0, shown_looked w.0 w.1, w.2, subst (λ (k : TreeHead). FillsIds t.head k w.0) (sym looks.stays.head) w.3, w.4);
      root = λ ps h. let r = g.root ps h in (r.0, shown_looked r.0 r.1, λ lost. subst (λ (k : TreeHead). IsLone r.0 k.root → ⊥) (sym looks.stays.head) (r.2 lost));
    }
