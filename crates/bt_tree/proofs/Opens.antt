-- A tree that stands is open.
use Rattle.std.proofs.Common.{◌≡◌, ℕ, ◌+◌, ◌≤◌, ◌<◌, List, [], Bool, true, false, Option, Some, None, refl, sym, ap, ◌∙◌, subst, inl, inr, ⊎_elim, arith}
use Rattle.std.specs.Prelude.{if◌then◌else◌, is_some}
use Rattle.std.specs.FinMap.{get}
use Rattle.tc_base.specs.Maps.{Map}
use Rattle.tc_base.specs.declared.order.Order.{Ghosts as Orders}
use Rattle.tc_base.specs.declared.seq.Pair.{Pair}
use Rattle.tc_space.specs.declared.records.Records.{Ghosts as Stores}
use Rattle.tc_space.specs.declared.space.Space.{Ghosts}
use Rattle.bt_rows.specs.declared.head.TreeHead.{TreeHead}
use Rattle.bt_rows.specs.Heads.{head_of}
use Rattle.bt_rows.specs.Levels.{NodeAt, Stands}
use Rattle.bt_rows.specs.Orders.{Before, before_by}
use Rattle.bt_rows.specs.Pages.{Map as Records, AreHeld, PageMap}
use Rattle.bt_rows.specs.Rules.{B1, B2, IsPageAt, column as column_key}
use Rattle.bt_rows.specs.Standing.{PagesStand, TreeStands, tree_pairs, leaves_of}
use Rattle.bt_rows.proofs.Standing.{rules_rows}
use Rattle.bt_rows.proofs.Held.{column_free, given_small, records_give_pages, records_give_pairs}
use Rattle.bt_check.proofs.Unbroken.{trees_break_no_rule}
use Rattle.bt_check.specs.Looks.{AsksFor, Looks, looks_then}
use Rattle.bt_check.specs.Walks.{IsHigh}
use Rattle.bt_cache.specs.Held.{AreSame, Holds}
use Rattle.bt_cache.specs.declared.shared.SharedPage.{SharedPage}
use Rattle.bt_tree.specs.declared.tree.Tree.{Tree}
use Rattle.bt_tree.specs.Meaning.{Means}
use Rattle.bt_tree.specs.Opening.{IsAllowed, IsColumn, IsOpened, IsOrdered, Opens, SettledKeepsRules, SettledOpens}
use Rattle.bt_tree.specs.Trees.{HasKeys, HoldsPairs}
use Rattle.bt_tree.proofs.Heights.{high_is, high_one}

-- ---- the record `column`

no_true : {A : Type 0} → false ≡ true → A
no_true e = absurd (cc)

-- where it is told as it stands, the keys are told with it
module _ (h : TreeHead) (m : Records) (head : B1 h) where
  some_is : (o : Option (List ℕ)) (bytes : List ℕ) → o ≡ Some bytes → is_some o ≡ true
  some_is None bytes e = absurd (cc)
  some_is (Some x) bytes e = refl

  none_there : B2 h false m → (o : Option (List ℕ)) → m column_key ≡ o → o ≡ None
  none_there rule None e = refl
  none_there rule (Some bytes) e = absurd (⊎_elim (λ (p : IsPageAt h column_key bytes). column_free p.id (given_small h p.id head p.given) p.key_is) (λ (col : (false ≡ true) × (column_key ≡ column_key)). no_true col.0) (rule column_key bytes e))

  column_keys : (index : Bool) (column : Option (List ℕ)) → B2 h index m → column ≡ (if index then m column_key else None) → HasKeys h column m
  column_keys true column rule is = record {
    rule = λ key bytes e. ⊎_elim (λ (p : IsPageAt h key bytes). inl p) (λ (col : (true ≡ true) × (key ≡ column_key)). inr (some_is column bytes (is ∙ ap m (sym col.1) ∙ e), col.1)) (rule key bytes e);
    has = sym is;
  }
  column_keys false column rule is = record {
    rule = subst (λ (o : Option (List ℕ)). B2 h (is_some o) m) (sym is) rule;
    has = none_there rule (m column_key) refl ∙ sym is;
  }

-- where none stands, one may
module _ (before : Before) (h : TreeHead) (m : Records) where
  may_stand : (j k : Bool) → (k ≡ false → j ≡ false) → j ≡ true → k ≡ true
  may_stand j true le e = refl
  may_stand j false le e = no_true (sym (le refl) ∙ e)

  widened : (j k : Bool) → (k ≡ false → j ≡ false) → (t : TreeStands before h j m) → (u : TreeStands before h k m) × (tree_pairs u ≡ tree_pairs t)
  widened j k le t = (
    record {
      stand = record {
        head = t.stand.head;
        keys = λ key bytes e. ⊎_elim (λ (p : IsPageAt h key bytes). inl p) (λ (col : (j ≡ true) × (key ≡ column_key)). inr (may_stand j k le col.0, col.1)) (t.stand.keys key bytes e);
        pages = t.stand.pages;
        held = t.stand.held;
        depth = t.stand.depth;
        reach = t.stand.reach;
        even = t.stand.even;
        limits = t.stand.limits;
      };
      order = t.order;
      links = t.links;
      count = t.count;
    },
    refl,
  )

-- records that keep all rules are a tree of so many rows
stands_high : (before : Before) (h : TreeHead) (index : Bool) (m : Records) (height : ℕ) (column : Option (List ℕ)) (t : TreeStands before h index m) → IsHigh t.stand.pages h.root height → column ≡ (if index then m column_key else None)
    → HoldsPairs before h height column m (tree_pairs t)
stands_high before h index m height column t high is =
    let s : PagesStand h index m = t.stand in
    let rows : (levels : List (List NodeAt)) × Stands before s.pages h.root (leaves_of s) levels = rules_rows before h s.pages s.depth s.reach s.even t.order t.links in
    record {
      tree = record {
        head = s.head;
        pages = s.pages;
        held = s.held;
        leaves = leaves_of s;
        levels = rows.0;
        stands = rows.1;
        high = high_is before s.pages h.root height (leaves_of s) rows.0 high rows.1;
      };
      keys = column_keys h m s.head index column s.keys is;
      limits = s.limits;
      links = t.links;
      count = t.count;
      are = refl;
    }

-- ---- the call

-- v at the start, x once the tree was measured, w once its record was looked for
module _ {S V : Type 0} (s : Ghosts S) (R : Stores V S) (v x w : V) (old mid new : S) (first : Looks s R v x old mid) (second : Looks s R x w mid new) (measured : AsksFor s R 2 v x old) (found : R.gets w ≤ R.gets x + 1) where
  looks : Looks s R v w old new
  looks = looks_then s R v x w old mid new first second

  pub opened : {O : Type 0} (o : Orders O) (height : ℕ) (index : Bool) (t : Tree V O) → IsOrdered R o v
      → ((m : Map) → Holds s R v old m → (is : TreeStands (before_by o.cmp) (head_of (R.region v)) index (get m)) × IsHigh is.stand.pages (head_of (R.region v)).root height)
      → IsColumn s R index x mid t.column → t.store ≡ w → t.cache.pages.entries ≡ [] → t.head ≡ head_of (R.region w) → t.height ≡ height
      → IsOpened s R o index v t old new
  opened {O} o height index t order stands column store empty head high = record {
    opens = opens;
    head_is = head_is;
    made = record { file = ap R.file_of store ∙ looks.file; sort = ap R.sort store ∙ looks.sort_same; numbers = ap R.numbers store ∙ looks.numbers_same; region = ap R.region store ∙ looks.region_same; lead = omega (arith, ap R.lead store, looks.leads) };
    asks = λ m i. omega (arith, measured m i, found, ap R.gets store);
  }
    where
      head_is : t.head ≡ head_of (R.region v)
      head_is = head ∙ ap head_of looks.region_same

      order_is : (m : Map) → Holds s R v old m → t.head.order ≡ o.CODE
      order_is m i =
          ap (λ (h : TreeHead). h.order) head_is ∙ ⊎_elim (λ (same : (head_of (R.region v)).order ≡ o.CODE). same) (λ (none : 1 < (head_of (R.region v)).order). absurd (omega (arith, none, (stands m i).0.stand.head.order))) order

      opens : (m : Map) → Holds s R v old m → Opens s R o (head_of (R.region v)) index t new m
      opens m i =
          let all = stands m i in
          let now = looks.reads.means m i in
          let pairs : HoldsPairs (before_by o.cmp) (head_of (R.region v)) height t.column (get m) (tree_pairs all.0) = stands_high (before_by o.cmp) (head_of (R.region v)) index (get m) height t.column all.0 all.1 (column m (first.reads.means m i)) in
          let here : HoldsPairs (before_by o.cmp) t.head t.height t.column (get m) (tree_pairs all.0) =
          subst (λ (h : TreeHead). HoldsPairs (before_by o.cmp) h t.height t.column (get m) (tree_pairs all.0)) (sym head_is)
          (subst (λ (n : ℕ). HoldsPairs (before_by o.cmp) (head_of (R.region v)) n t.column (get m) (tree_pairs all.0)) (sym high) pairs) in
          record {
            stands = all.0;
            means = (
              now.0,
              record {
                records = m;
                store = subst (λ (x : V). R.holds x (s.now new (R.file_of x)) m) (sym store) now.1;
                same = subst (λ (es : List (ℕ × SharedPage)). AreSame m es) (sym empty) tt;
                order = order_is m i;
                is = here;
              },
            );
            high = subst (λ (n : ℕ). IsHigh all.0.stand.pages (head_of (R.region v)).root n) (sym high) all.1;
            column_is = sym here.keys.has;
          }

-- ---- a file that was settled

-- records are one list of pairs, whatever names their head
same_pairs : (before : Before) (h k : TreeHead) (index : Bool) (m : Records) → h ≡ k → (s : TreeStands before h index m) (t : TreeStands before k index m) → tree_pairs s ≡ tree_pairs t
same_pairs before h k index m e s = subst (λ (x : TreeHead). (t : TreeStands before x index m) → tree_pairs s ≡ tree_pairs t) e (λ t. records_give_pairs before h index m s t)

allowed : (index : Bool) (column : Option (List ℕ)) → IsAllowed index column → index ≡ false → is_some column ≡ false
allowed index column may e = ap (λ (o : Option (List ℕ)). is_some o) (may e)

-- records are as many rows, whatever names their head
same_rows : {before : Before} (m : Records) (h k : TreeHead) → h ≡ k → (i j : Bool) (s : TreeStands before h i m) (t : TreeStands before k j m) (a b : ℕ) → IsHigh s.stand.pages h.root a → IsHigh t.stand.pages k.root b → a ≡ b
same_rows {before} m h k e i j s t a b x y =
    let held : AreHeld k m s.stand.pages = subst (λ (z : TreeHead). AreHeld z m s.stand.pages) e s.stand.held in
    let all = records_give_pages k j m t.stand.head t.stand.keys in
    let same : s.stand.pages ≡ t.stand.pages = all.2 s.stand.pages held ∙ sym (all.2 t.stand.pages t.stand.held) in
    high_one t.stand.pages k.root a b (subst (λ (p : PageMap). IsHigh p k.root a) same (subst (λ (z : TreeHead). IsHigh s.stand.pages z.root a) e x)) y

module _ {S V O : Type 0} (s : Ghosts S) (R : Stores V S) (o : Orders O) where
  pub settled_opens : SettledOpens s R o
  settled_opens sort fixed h height column bytes ps f v t index old new from may is =
      let x = is.opens f.records from.held in
      let head : head_of (R.region v) ≡ h = ap head_of from.region_is ∙ f.numbers in
      let wide = widened (before_by o.cmp) h (get f.records) (is_some column) index (allowed index column may) f.tree in (
        subst (λ (qs : List Pair). Means s R o t new qs) (same_pairs (before_by o.cmp) (head_of (R.region v)) h index (get f.records) head x.stands wide.0 ∙ wide.1 ∙ sym f.are) x.means,
        x.column_is ∙ f.has,
        same_rows (get f.records) (head_of (R.region v)) h head index (is_some column) x.stands f.tree t.height height x.high f.high,
      )

  pub settled_keeps : SettledKeepsRules s R o
  settled_keeps sort fixed h height column bytes ps f v index old e from may breaks g rule named =
      let head : head_of (R.region v) ≡ h = ap head_of from.region_is ∙ f.numbers in
      let wide = widened (before_by o.cmp) h (get f.records) (is_some column) index (allowed index column may) f.tree in
      trees_break_no_rule (before_by o.cmp) (head_of (R.region v)) index (get f.records) rule (subst (λ (x : TreeHead). TreeStands (before_by o.cmp) x index (get f.records)) (sym head) wide.0) ((breaks g rule named).1 f.records from.held)
