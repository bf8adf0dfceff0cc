-- A tree whose numbers are in its store's region.
use Rattle.std.proofs.Common.{◌≡◌, ℕ, suc, List, Bool, Option, length, set, replicate, refl, sym, ap, ◌∙◌, subst, inl, inr, ⊎_elim}
use Rattle.std.specs.Prelude.{is_some, OnOk, Result, Ok, Err}
use Rattle.std.specs.FinMap.{get}
use Rattle.tc_base.specs.Endian.{le_number, le_bytes}
use Rattle.tc_base.specs.Files.{wrote}
use Rattle.tc_base.specs.Maps.{Map}
use Rattle.tc_base.specs.declared.kind.Form.{Form}
use Rattle.tc_base.specs.declared.order.Order.{Ghosts as Orders}
use Rattle.tc_base.specs.declared.seq.Pair.{Pair}
use Rattle.tc_space.specs.Changes.{same}
use Rattle.tc_space.specs.Frames.{Reads, Refuses}
use Rattle.tc_space.specs.Stores.{KeepsTight, PacksIn, ReadyIn, TightIn, TrimsIn, WritesIn}
use Rattle.tc_space.specs.declared.records.Records.{Ghosts as Stores}
use Rattle.tc_space.specs.declared.space.Space.{Ghosts}
use Rattle.bt_rows.specs.declared.head.TreeHead.{TreeHead}
use Rattle.bt_rows.specs.declared.page.LeafAt.{LeafAt}
use Rattle.bt_rows.specs.Heads.{head_of}
use Rattle.bt_rows.specs.Orders.{Before, before_by}
use Rattle.bt_rows.specs.Pages.{AreHeld}
use Rattle.bt_rows.specs.Rules.{B1, B6, B7, B8, pairs_of}
use Rattle.bt_rows.specs.Standing.{PagesStand, TreeStands, tree_pairs}
use Rattle.bt_rows.proofs.Standing.{rows_rules}
use Rattle.bt_check.specs.Walks.{IsHigh}
use Rattle.bt_cache.specs.Held.{AreSame, Holds, Pages}
use Rattle.bt_tree.specs.declared.tree.Tree.{Tree}
use Rattle.bt_tree.specs.Inserting.{AddsAnew}
use Rattle.bt_tree.specs.Meaning.{Changes, IsOpen, Means}
use Rattle.bt_tree.specs.Settling.{BringsPacked, BringsPairs, TightTree}
use Rattle.bt_tree.specs.Standing.{region_bytes}
use Rattle.bt_tree.specs.Trees.{HasKeys, HoldsPairs}
use Rattle.bt_tree.specs.Visits.{StaysTree}
use Rattle.bt_tree.proofs.Heights.{high_of}

-- ---- the region

spelled_head : (h : TreeHead) → le_number (le_bytes 4 h.leaf_limit) ≡ h.leaf_limit → le_number (le_bytes 4 h.node_limit) ≡ h.node_limit → le_number (le_bytes 8 h.root) ≡ h.root → le_number (le_bytes 8 h.first) ≡ h.first
    → le_number (le_bytes 8 h.last) ≡ h.last → le_number (le_bytes 8 h.leaf_ids) ≡ h.leaf_ids → le_number (le_bytes 8 h.node_ids) ≡ h.node_ids → le_number (le_bytes 8 h.pairs) ≡ h.pairs → head_of (region_bytes h) ≡ h
unfolding le_bytes region_bytes
spelled_head h a b c d e f g k = λ i. record { order = h.order; leaf_limit = a i; node_limit = b i; root = c i; first = d i; last = e i; leaf_ids = f i; node_ids = g i; pairs = k i }

pub written : (h : TreeHead) (a1 a2 a3 a4 a5 a6 a7 a8 : List ℕ)
    → a1 ≡ wrote 8 (le_bytes 4 h.leaf_limit) (set (replicate 128 0) 0 h.order) → a2 ≡ wrote 12 (le_bytes 4 h.node_limit) a1 → a3 ≡ wrote 16 (le_bytes 8 h.root) a2 → a4 ≡ wrote 24 (le_bytes 8 h.first) a3
    → a5 ≡ wrote 32 (le_bytes 8 h.last) a4 → a6 ≡ wrote 40 (le_bytes 8 h.leaf_ids) a5 → a7 ≡ wrote 48 (le_bytes 8 h.node_ids) a6 → a8 ≡ wrote 56 (le_bytes 8 h.pairs) a7 → a8 ≡ region_bytes h
unfolding wrote le_bytes region_bytes
written h a1 a2 a3 a4 a5 a6 a7 a8 e1 e2 e3 e4 e5 e6 e7 e8 = e8 ∙ rw (e7, e6, e5, e4, e3, e2, e1) refl

pub head_written : (h : TreeHead) (a1 a2 a3 a4 a5 a6 a7 a8 : List ℕ)
    → a1 ≡ wrote 8 (le_bytes 4 h.leaf_limit) (set (replicate 128 0) 0 h.order) → a2 ≡ wrote 12 (le_bytes 4 h.node_limit) a1 → a3 ≡ wrote 16 (le_bytes 8 h.root) a2 → a4 ≡ wrote 24 (le_bytes 8 h.first) a3
    → a5 ≡ wrote 32 (le_bytes 8 h.last) a4 → a6 ≡ wrote 40 (le_bytes 8 h.leaf_ids) a5 → a7 ≡ wrote 48 (le_bytes 8 h.node_ids) a6 → a8 ≡ wrote 56 (le_bytes 8 h.pairs) a7
    → le_number (le_bytes 4 h.leaf_limit) ≡ h.leaf_limit → le_number (le_bytes 4 h.node_limit) ≡ h.node_limit → le_number (le_bytes 8 h.root) ≡ h.root → le_number (le_bytes 8 h.first) ≡ h.first
    → le_number (le_bytes 8 h.last) ≡ h.last → le_number (le_bytes 8 h.leaf_ids) ≡ h.leaf_ids → le_number (le_bytes 8 h.node_ids) ≡ h.node_ids → le_number (le_bytes 8 h.pairs) ≡ h.pairs → head_of a8 ≡ h
head_written h a1 a2 a3 a4 a5 a6 a7 a8 e1 e2 e3 e4 e5 e6 e7 e8 a b c d e f g k =
    ap head_of (written h a1 a2 a3 a4 a5 a6 a7 a8 e1 e2 e3 e4 e5 e6 e7 e8) ∙ spelled_head h a b c d e f g k

-- ---- the rules

record Stood (before : Before) (h : TreeHead) (height : ℕ) (index : Bool) (m : Map) (ps : List Pair) : Type 0 where
  tree : TreeStands before h index (get m)
  high : IsHigh tree.stand.pages h.root height
  are : ps ≡ tree_pairs tree

stood : (before : Before) (h : TreeHead) (height : ℕ) (column : Option (List ℕ)) (m : Map) (ps : List Pair) → HoldsPairs before h height column (get m) ps → Stood before h height (is_some column) m ps
stood before h height column m ps p =
    let rules = rows_rules before p.tree.pages h.root p.tree.leaves p.tree.levels p.tree.stands in
    let pages : PagesStand h (is_some column) (get m) = record {
      head = p.tree.head;
      keys = p.keys.rule;
      pages = p.tree.pages;
      held = p.tree.held;
      depth = suc (length p.tree.levels);
      reach = rules.0;
      even = rules.1;
      limits = p.limits;
    } in
    record {
      tree = record {
        stand = pages;
        order = subst (λ (t : List LeafAt). B6 before t) (sym rules.2) p.tree.stands.order;
        links = subst (λ (t : List LeafAt). B7 h t) (sym rules.2) p.links;
        count = subst (λ (t : List LeafAt). B8 h t) (sym rules.2) p.count;
      };
      high = subst (λ (n : ℕ). IsHigh p.tree.pages h.root n) (sym p.tree.high) (high_of before p.tree.pages h.root p.tree.leaves p.tree.levels p.tree.stands);
      are = p.are ∙ ap pairs_of (sym rules.2);
    }

-- ---- the call

-- v is the store of t with another region, w that of u in the end
module _ {S V O : Type 0} (s : Ghosts S) (R : Stores V S) (o : Orders O) (t u : Tree V O) (v w : V) (old new : S)
    (set_means : (bytes : List ℕ) (m : Map) → R.holds t.store bytes m → R.holds v bytes m) (set_file : R.file_of v ≡ R.file_of t.store) (ends : u.store ≡ w) (stays : StaysTree t u) (pages : u.cache.pages ≡ t.cache.pages) where
  at_store : (m : Map) → Holds s R t.store old m → Holds s R v old m
  at_store m i = (i.0, subst (λ (f : ℕ). R.holds v (s.now old f) m) (sym set_file) (set_means (s.now old (R.file_of t.store)) m i.1))

  pub store_ready : IsOpen s R o t old → ReadyIn s R.file_of R.holds v old
  store_ready r = record { sound = r.sound; held = λ told. let h = r.held told in (h.1.1.records, at_store h.1.1.records (told, h.1.1.store)) }

  means_on : ((m : Map) → Holds s R v old m → Holds s R w new m) → (ps : List Pair) → Means s R o t old ps → Means s R o u new ps
  means_on on ps means =
      let m : Map = means.1.records in
      let i = on m (at_store m (means.0, means.1.store)) in (
        i.0,
        record {
          records = m;
          store = subst (λ (x : V). R.holds x (s.now new (R.file_of x)) m) (sym ends) i.1;
          same = subst (λ (c : Pages). AreSame m c.entries) (sym pages) means.1.same;
          order = ap (λ (h : TreeHead). h.order) stays.head ∙ means.1.order;
          is = subst (λ (h : TreeHead). HoldsPairs (before_by o.cmp) h u.height u.column (get m) ps) (sym stays.head)
              (subst (λ (n : ℕ). HoldsPairs (before_by o.cmp) t.head n u.column (get m) ps) (sym stays.height) (subst (λ (c : Option (List ℕ)). HoldsPairs (before_by o.cmp) t.head t.height c (get m) ps) (sym stays.column) means.1.is));
        },
      )

  pub settles : WritesIn s R.file_of R.holds same v w old new → Changes s R o same t u old new
  settles writes = record {
    sound = writes.sound;
    means = means_on writes.means;
    others = record { same = λ told g other. writes.others.same told g (λ is. absurd (other (is ∙ set_file))) };
  }

  -- and the pages are the same
  pub settle_anew : WritesIn s R.file_of R.holds same v w old new → AddsAnew s R o t u old new
  settle_anew writes ps means =
      let m : Map = means.1.records in
      let i = writes.means m (at_store m (means.0, means.1.store)) in
      let p : HoldsPairs (before_by o.cmp) t.head t.height t.column (get m) ps = means.1.is in (
        p.tree.pages,
        (
          i.0,
          record {
            records = m;
            store = subst (λ (x : V). R.holds x (s.now new (R.file_of x)) m) (sym ends) i.1;
            same = subst (λ (c : Pages). AreSame m c.entries) (sym pages) means.1.same;
            head = subst (λ (h : TreeHead). B1 h) (sym stays.head) p.tree.head;
            keys = subst (λ (h : TreeHead). HasKeys h u.column (get m)) (sym stays.head) (subst (λ (c : Option (List ℕ)). HasKeys t.head c (get m)) (sym stays.column) p.keys);
            held = subst (λ (h : TreeHead). AreHeld h (get m) p.tree.pages) (sym stays.head) p.tree.held;
          },
        ),
        λ id given none. none,
      )

  pub settle_refused : Refuses s (Holds s R) v w old new → Refuses s (Means s R o) t u old new
  settle_refused r = ⊎_elim (λ spoiled. inl spoiled) (λ (reads : Reads s (Holds s R) v w old new). inr (record { now = reads.now; touched = reads.touched; sound = reads.sound; means = means_on reads.means })) r

module _ {S V O : Type 0} (s : Ghosts S) (R : Stores V S) (o : Orders O) (t : Tree V O) (v : V) (old new : S)
    (set_means : (bytes : List ℕ) (m : Map) → R.holds t.store bytes m → R.holds v bytes m) (set_file : R.file_of v ≡ R.file_of t.store) where
  pub settle_stands : (opaque : List ℕ) → head_of opaque ≡ t.head → opaque ≡ region_bytes t.head → R.region v ≡ opaque → R.sort v ≡ R.sort t.store → R.numbers v ≡ R.numbers t.store
      → ((m : Map) → Holds s R v old m → R.stands (R.sort v) (R.numbers v) (s.now new (R.file_of v)) m (R.region v)) → BringsPairs s R o t old new
  settle_stands opaque is spelled in_region sort fixed stood_for ps means =
      let m : Map = means.1.records in
      let all : Stood (before_by o.cmp) t.head t.height (is_some t.column) m ps = stood (before_by o.cmp) t.head t.height t.column m ps means.1.is in
      record {
        records = m;
        region = R.region v;
        numbers = ap head_of in_region ∙ is;
        spelled = in_region ∙ spelled;
        order = means.1.order;
        file = subst (λ (k : ℕ). R.stands k (R.numbers t.store) (s.now new (R.file_of t.store)) m (R.region v)) sort
            (subst (λ (ns : List ℕ). R.stands (R.sort v) ns (s.now new (R.file_of t.store)) m (R.region v)) fixed
            (subst (λ (f : ℕ). R.stands (R.sort v) (R.numbers v) (s.now new f) m (R.region v)) set_file (stood_for m (at_store s R o t t v t.store old new set_means set_file refl (record { head = refl; height = refl; column = refl }) refl m (means.0, means.1.store)))));
        tree = all.tree;
        high = all.high;
        has = means.1.is.keys.has;
        are = all.are;
      }

  store_held : (ps : List Pair) (means : Means s R o t old ps) → Holds s R v old means.1.records
  store_held ps means = at_store s R o t t v t.store old new set_means set_file refl (record { head = refl; height = refl; column = refl }) refl means.1.records (means.0, means.1.store)

  pub settle_packs : KeepsTight R.tight t.store v → PacksIn s R.file_of R.holds R.tight R.packed v old new → TrimsIn s R.file_of R.holds R.slack v old new → BringsPacked s R o t old new
  settle_packs tight packs trims = record {
    packs = λ from form ps is means.
        let was : R.tight v from form (s.now old (R.file_of v)) = subst (λ (f : ℕ). R.tight v from form (s.now old f)) (sym set_file) (tight from form (s.now old (R.file_of t.store)) is) in
        subst (λ (f : ℕ). R.packed from form (s.now new f)) set_file (packs from form means.1.records was (store_held ps means));
    trims = λ ps means. subst (λ (f : ℕ). R.slack (s.now new f) ≡ 0) set_file (trims means.1.records (store_held ps means));
  }

-- ---- packed

module _ {S V O : Type 0} (s : Ghosts S) (R : Stores V S) (o : Orders O) (t u : Tree V O) (old new : S) where
  pub pack_tight : (form : Form) → TightIn s R.file_of R.holds R.tight form t.store u.store old new → TightTree s R o form t u old new
  pack_tight form tight ps means = tight means.1.records (means.0, means.1.store)

-- of what went well, two facts together
pub both_done : {T E P Q A : Type 0} (r : Result T E) → (P → Q → A) → OnOk r P → OnOk r Q → OnOk r A
both_done (Ok x) f p q = f p q
both_done (Err e) f p q = tt
