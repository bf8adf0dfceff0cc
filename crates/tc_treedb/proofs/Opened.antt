-- A tree opened in its hash file, or made in it.
use Rattle.std.proofs.Common.{◌≡◌, ◌∙◌, ◌⊎◌, inl, inr, ⊎_elim, ℕ, zero, suc, ◌+◌, ◌-◌, ◌≤◌, ◌<◌, ◌==◌, Bool, true, false, List, [], refl, sym, ap, subst, arith}
use Rattle.std.specs.Prelude.{◌*◌, ◌/◌, Option, Some, None}
use Rattle.std.proofs.Math.Nat.{div-lt_iff_lt-mul}
use Rattle.std.specs.FinMap.{empty, get, get-empty}
use Rattle.std.proofs.lemmas.Bool.{ne_eqb}
use Rattle.std.specs.Cmp.Lexicographic.{slice_cmp}
use Rattle.std.specs.Ordering.{nat_cmp}
use Rattle.std.specs.declared.cmp.Ordering.{Ordering}
use Rattle.tc_base.specs.Maps.{Map}
use Rattle.tc_base.specs.Orders.{order}
use Rattle.tc_base.specs.declared.order.Order.{Ghosts as Orders}
use Rattle.tc_space.specs.Stores.{ReadyIn}
use Rattle.tc_space.specs.declared.errors.OpenErr.{OpenErr}
use Rattle.tc_space.specs.declared.records.Records.{Ghosts as Stores}
use Rattle.tc_space.specs.declared.space.Space.{Ghosts}
use Rattle.bt_cache.specs.Held.{Holds}
use Rattle.bt_check.specs.Verdicts.{IsFirstBroken}
use Rattle.bt_page.specs.Keys.{key_of}
use Rattle.bt_page.specs.Pages.{leaf_bytes}
use Rattle.bt_rows.proofs.Held.{column_free, given_small}
use Rattle.bt_rows.specs.Heads.{head_of}
use Rattle.bt_rows.specs.Orders.{Before, before_by}
use Rattle.bt_rows.specs.Rules.{IsPageAt, column as column_key}
use Rattle.bt_rows.specs.Standing.{PagesStand, TreeStands, tree_pairs}
use Rattle.bt_rows.specs.declared.head.TreeHead.{TreeHead}
use Rattle.bt_tree.specs.Making.{HoldsBare, IsNew, LacksFirst, MayBe, lone_leaf}
use Rattle.bt_tree.specs.Meaning.{Means as MeansTree}
use Rattle.bt_tree.specs.Opening.{BreaksIn, IsOpened, IsOrdered}
use Rattle.bt_tree.specs.Numbers.{lone_head}
use Rattle.bt_tree.specs.declared.tree.Tree.{Tree}
use Rattle.hf_head.specs.Heads.{sections, unit}
use Rattle.hf_record.proofs.Bytes.{unit_some}
use Rattle.tc_hash.specs.declared.hash.Hash.{Hash}
use Rattle.tc_hash.proofs.Numbered.{anew_leads}
use Rattle.tc_hash.proofs.OneMap.{one_map}
use Rattle.tc_hash.proofs.Stored.{its_fresh}
use Rattle.tc_hash.specs.Keeping.{HasNoBlock, holds, lead_of, size_for}
use Rattle.tc_treedb.specs.Holding.{code_of}
use Rattle.tc_treedb.specs.Kept.{lead_kept}
use Rattle.tc_treedb.specs.Opening.{BreaksTree, CanOpenHash, HoldsNewHash, HoldsNow, IsNewKept, OpensKept, told_decimal, told_order}
use Rattle.tc_treedb.specs.Shapes.{Lacks, MayHave}
use Rattle.tc_treedb.specs.Trees.{IsTreeFile}
use Rattle.tc_treedb.specs.declared.kept.Kept.{Kept}
use Rattle.tc_treedb.specs.declared.shape.TreeShape.{TreeShape}
use Rattle.tc_treedb.proofs.Keeping.{leads_by, means_up}

abbrev nothing : Map
nothing = empty

none_none : {A : Type 0} (o : Option A) → ((x : A) → o ≡ Some x → ⊥) → o ≡ None
none_none None never = refl
none_none (Some x) never = absurd (never x refl)

-- where the record `column` isn't allowed there is none
no_column : (h : TreeHead) (m : Map) → PagesStand h false (get m) → get m column_key ≡ None
no_column h m stand = none_none (get m column_key) (λ bytes is. ⊎_elim
    (λ (page : IsPageAt h column_key bytes). column_free page.id (given_small h page.id stand.head page.given) page.key_is)
    (λ (col : (false ≡ true) × (column_key ≡ column_key)). absurd (let bad = col.0 in cc))
    (stand.keys column_key bytes is))

module _ {S O : Type 0} (s : Ghosts S) (R : Stores (Hash S) S) (o : Orders O) (decimal : Bool) (wrap : Tree (Hash S) O → Kept S) (f : IsTreeFile s R o decimal wrap) where
  held_in : (hash : Hash S) (a : S) (m : Map) → hash.body.file ≡ 0 → HoldsNow s hash a m → Holds s R hash a m
  held_in hash a m file h = (h.0, subst (λ (n : ℕ). R.holds hash (s.now a n) m) (sym (f.store.file hash ∙ file)) (f.store.from hash (s.now a 0) m h.1))

  held_out : (hash : Hash S) (a : S) (m : Map) → hash.body.file ≡ 0 → Holds s R hash a m → HoldsNow s hash a m
  held_out hash a m file h = (h.0, subst (λ (n : ℕ). holds hash (s.now a n) m) (f.store.file hash ∙ file) (f.store.into hash (s.now a (R.file_of hash)) m h.1))

  pub ready_hash : (hash : Hash S) (a : S) → CanOpenHash s hash a → ReadyIn s R.file_of R.holds hash a
  ready_hash hash a can = record { sound = can.sound; held = λ told. let h = can.held told in (h.0, held_in hash a h.0 can.file (told, h.1)) }

  -- the stands and the pairs meant, under a region's numbers
  record OpenedTo (before : Before) (region : List ℕ) (t : Tree (Hash S) O) (b : S) (m : Map) : Type 0 where
    stands : TreeStands before (head_of region) false (get m)
    means : MeansTree s R o t b (tree_pairs stands)

  opened_to : (hash : Hash S) (t : Tree (Hash S) O) (a b : S) (m : Map) → hash.body.file ≡ 0 → told_decimal s hash ≡ decimal → R.region hash ≡ hash.region → IsOpened s R o false hash t a b → HoldsNow s hash a m → OpenedTo (told_order s hash) hash.region t b m
  opened_to hash t a b m file told region opened h =
      let x = opened.opens m (held_in hash a m file h) in
      subst (λ (r : List ℕ). OpenedTo (told_order s hash) r t b m) region
      (subst (λ (d : Bool). OpenedTo (before_by (order d)) (R.region hash) t b m) (sym told)
      (subst (λ (cmp : List ℕ → List ℕ → Ordering). OpenedTo (before_by cmp) (R.region hash) t b m) f.of.cmp (record { stands = x.stands; means = x.means })))

  pub opens_kept : (hash : Hash S) (t : Tree (Hash S) O) (a b : S) → hash.body.file ≡ 0 → hash.body.head.kind ≡ 1 → told_decimal s hash ≡ decimal → R.region hash ≡ hash.region → IsOpened s R o false hash t a b → OpensKept s hash a b (wrap t)
  opens_kept hash t a b file kind told region opened = record {
    head = f.kind.head t ∙ (opened.head_is ∙ ap head_of region);
    opens = λ m h.
        let x = opened.opens m (held_in hash a m file h) in
        let y = opened_to hash t a b m file told region opened h in
        record {
          stands = y.stands;
          means = means_up s R o decimal wrap f t b (told_decimal s hash) (tree_pairs y.stands) told (sym (f.store.file t.store) ∙ (opened.made.file ∙ (f.store.file hash ∙ file))) (sym (f.store.sort t.store) ∙ (opened.made.sort ∙ (f.store.sort hash ∙ kind)))
              (x.column_is ∙ no_column (head_of (R.region hash)) m x.stands.stand) y.means;
        };
  }

  -- a rule that is named is the first of trees that what is held breaks
  pub breaks_kept : (hash : Hash S) (a : S) (e : OpenErr) → hash.body.file ≡ 0 → told_decimal s hash ≡ decimal → R.region hash ≡ hash.region → BreaksIn s R o false hash a e → BreaksTree s hash a e
  breaks_kept hash a e file told region breaks g rule is =
      let b = breaks g rule is in (
        b.0 ∙ (f.store.file hash ∙ file),
        (λ m h. subst (λ (r : List ℕ). IsFirstBroken (told_order s hash) (head_of r) false (get m) rule) region
            (subst (λ (d : Bool). IsFirstBroken (before_by (order d)) (head_of (R.region hash)) false (get m) rule) (sym told)
            (subst (λ (cmp : List ℕ → List ℕ → Ordering). IsFirstBroken (before_by cmp) (head_of (R.region hash)) false (get m) rule) f.of.cmp (b.1 m (held_in hash a m file h))))),
      )

order_other : (n : ℕ) → (n == 1) ≡ false → (n ≡ 0) ⊎ (1 < n)
order_other zero other = inl refl
order_other (suc zero) other = absurd cc
order_other (suc (suc n)) other = inr (omega arith)

order_one : (n : ℕ) → (n == 1) ≡ true → n ≡ 1
order_one zero is = absurd cc
order_one (suc zero) is = refl
order_one (suc (suc n)) is = absurd (let bad : (suc (suc n) == 1) ≡ false = ne_eqb (suc (suc n)) 1 (λ e. cc) in let clash : true ≡ false = sym is ∙ bad in cc)

module _ {S O : Type 0} (s : Ghosts S) (R : Stores (Hash S) S) (o : Orders O) (wrap : Tree (Hash S) O → Kept S) where
  -- a region that tells the order of numbers, and one that doesn't
  pub ordered_decimal : IsTreeFile s R o true wrap → (hash : Hash S) → R.region hash ≡ hash.region → told_decimal s hash ≡ true → IsOrdered R o hash
  ordered_decimal f hash region told = inl (ap (λ (r : List ℕ). (head_of r).order) region ∙ (order_one (head_of hash.region).order told ∙ sym f.of.code))

  pub ordered_lexical : IsTreeFile s R o false wrap → (hash : Hash S) → R.region hash ≡ hash.region → told_decimal s hash ≡ false → IsOrdered R o hash
  ordered_lexical f hash region told = ⊎_elim
      (λ zero. inl (ap (λ (r : List ℕ). (head_of r).order) region ∙ (zero ∙ sym f.of.code)))
      (λ more. inr (subst (λ (r : List ℕ). 1 < (head_of r).order) (sym region) more))
      (order_other (head_of hash.region).order told)

  most_one : (d : Bool) → code_of d ≤ 1
  most_one false = omega arith
  most_one true = omega arith

  pub may_be : (d : Bool) → IsTreeFile s R o d wrap → (shape : TreeShape) → MayHave shape → MayBe shape.leaf_limit shape.node_limit o.CODE
  may_be d f shape may = record { leaf = may.leaf; node = may.node; order = subst (λ (n : ℕ). n ≤ 1) (sym f.of.code) (most_one d) }

-- ---- made anew

leads_none : (r r' h h' : ℕ) → r' ≤ r → r ≡ h → r' ≡ h' → h ≤ 0 → h' ≤ 0
leads_none r r' h h' less was now none = omega (arith, less, was, now, none)

under_one : (a : ℕ) → a ≤ 0 → a < 1
under_one a none = omega (arith, none)

within_sum : (first behind u : ℕ) → first - behind < 1 * u → first < behind + u
within_sum first behind u less = omega (arith, less)

-- where no whole unit lies between
within_one : (first behind u : ℕ) → 0 < u → (first - behind) / u ≤ 0 → first < behind + u
within_one first behind u some none = within_sum first behind u ((div-lt_iff_lt-mul {k = u} {x = first - behind} {y = 1} some).0 (under_one ((first - behind) / u) none))

module _ {S O : Type 0} (s : Ghosts S) (R : Stores (Hash S) S) (o : Orders O) (decimal : Bool) (wrap : Tree (Hash S) O → Kept S) (f : IsTreeFile s R o decimal wrap) (shape : TreeShape) (hash : Hash S) (a : S) (new : HoldsNewHash s shape hash a) where
  pub ready_new : ReadyIn s R.file_of R.holds hash a
  ready_new = record { sound = new.sound; held = λ told. (empty, held_in s R o decimal wrap f hash a empty new.file (told, new.held told)) }

  only_empty : (m : Map) → Holds s R hash a m → m ≡ empty
  only_empty m h =
      let x = held_out s R o decimal wrap f hash a m new.file h in
      let here : (k : Map) → holds hash (s.now a 0) k → holds hash (s.now a hash.body.file) k = λ k l. subst (λ (n : ℕ). holds hash (s.now a n) k) (sym new.file) l in
      one_map s hash a m empty (x.0, here m x.1) (x.0, here empty (new.held x.0))

  none_in : (key : List ℕ) → get nothing key ≡ None
  none_in key = get-empty (slice_cmp nat_cmp) key

  pub bare_new : HoldsBare s R hash a
  bare_new m h key bytes is = absurd (let bad : None ≡ Some bytes = sym (none_in key) ∙ (ap (λ (k : Map). get k key) (sym (only_empty m h)) ∙ is) in cc)

  pub new_kept : (t : Tree (Hash S) O) (b : S) → shape.decimal ≡ decimal → IsNew s R o hash shape.leaf_limit shape.node_limit t a b → IsNewKept s shape hash a b (wrap t)
  new_kept t b is x = record {
    sound = x.sound;
    others = record { same = λ told g other. x.others.same told g (λ same. other (same ∙ (f.store.file hash ∙ new.file))) };
    means = λ told. means_up s R o decimal wrap f t b shape.decimal [] is (sym (f.store.file t.store) ∙ (x.made.file ∙ (f.store.file hash ∙ new.file))) (sym (f.store.sort t.store) ∙ (x.made.sort ∙ (f.store.sort hash ∙ new.new.kind_is)))
        (x.column_is empty (held_in s R o decimal wrap f hash a empty new.file (told, new.held told)) ∙ none_in column_key) (x.means told);
    numbers = f.kind.numbers t ∙ (sym (f.store.numbers t.store) ∙ (x.made.numbers ∙ f.store.numbers hash));
    lead = leads_by (R.lead hash) (R.lead t.store) (lead_of hash) (lead_of t.store) (lead_of hash) (lead_kept (wrap t)) x.made.lead (f.store.lead hash) (f.store.lead t.store) refl (f.kind.lead t);
    head = f.kind.head t ∙ (x.head ∙ ap (λ (n : ℕ). lone_head n shape.leaf_limit shape.node_limit) (f.of.code ∙ sym (ap code_of is)));
  }

  -- the leaf had no room
  pub lacks_first : (b : S) → s.tells → LacksFirst s R hash a b → Lacks s b shape
  lacks_first b told l =
      let m = held_in s R o decimal wrap f hash a empty new.file (told, new.held told) in
      let now = l.looks.reads.means empty m in
      let file : l.store.body.file ≡ 0 = sym (f.store.file l.store) ∙ (l.looks.file ∙ (f.store.file hash ∙ new.file)) in
      record {
        head = hash.body.head;
        new = new.new;
        passes = ⊎_elim (λ log. inl (inr (inr log)))
            (λ lacks. inr (let w = f.store.lacks l.store l.moment b (key_of 1) (leaf_bytes lone_leaf) lacks in
            let here = subst (λ (n : ℕ). holds l.store (s.now l.moment n) empty) (f.store.file l.store) (f.store.into l.store (s.now l.moment (R.file_of l.store)) empty now.1) in
            let none : w.held ≡ empty = one_map s l.store l.moment w.held empty w.means (now.0, here) in
            let own = its_fresh s l.store (key_of 1) w.held l.moment b (size_for l.store (key_of 1) (leaf_bytes lone_leaf)) w.wants (ap (λ (k : Map). get k (key_of 1)) none ∙ none_in (key_of 1)) in (
              w.wants.brought,
              record {
                own = l.store.body.head;
                fields = l.store.body.valid;
                same = sym (f.store.numbers l.store) ∙ (l.looks.numbers_same ∙ f.store.numbers hash);
                least = within_one l.store.body.head.first (sections l.store.body.head) (unit l.store.body.head) (unit_some l.store.body.head)
                    (leads_none (R.lead hash) (R.lead l.store) (lead_of hash) (lead_of l.store) l.looks.leads (f.store.lead hash) (f.store.lead l.store) (anew_leads hash.body.head 0 new.new));
                held = w.wants.held;
                kept = inl (own.map ∙ none);
                none = subst (λ (n : ℕ). HasNoBlock (s.limit b n) (s.now b n) l.store.body.head w.wants.held (size_for l.store (key_of 1) (leaf_bytes lone_leaf))) file w.wants.none;
              },
            )))
            (l.by.by empty now);
      }

-- the log is full
pub lacks_log : {S : Type 0} (s : Ghosts S) (shape : TreeShape) (hash : Hash S) (a b : S) → HoldsNewHash s shape hash a → s.log_full b → Lacks s b shape
lacks_log s shape hash a b new log = record { head = hash.body.head; new = new.new; passes = inl (inr (inr log)) }
