-- Calls on a table, as the trait of engines says them.
use Rattle.std.proofs.Common.{◌≡◌, ◌∙◌, ◌⊎◌, ℕ, ◌+◌, ◌≤◌, Bool, true, false, List, [], ◌∷◌, Option, Some, None, refl, sym, ap, subst, inl, inr, ⊎_elim, arith}
use Rattle.std.specs.Prelude.{length, map, sum_by, option_map, option_to_list, unwrap_or, IfSome, IfOk, OnOk, Result, Ok, Err, OnErr}
use Rattle.std.specs.Cmp.Lexicographic.{slice_cmp}
use Rattle.std.specs.FinMap.{empty, entries, get, insert, len-empty, len-entries}
use Rattle.std.specs.Ordering.{nat_cmp}
use Rattle.std.proofs.lemmas.List.{nil_from_length}
use Rattle.tc_base.specs.Lists.{pair}
use Rattle.tc_base.specs.Files.{Files}
use Rattle.tc_base.specs.declared.order.Decimal.{Decimal}
use Rattle.tc_base.specs.declared.order.Lexical.{Lexical}
use Rattle.tc_space.specs.Frames.{OnlyReads, Others, Reads, Refuses, others_refl, reads_refl}
use Rattle.tc_space.specs.Lists.{Made}
use Rattle.tc_space.specs.Stores as stores
use Rattle.tc_space.specs.declared.records.Records as records
use Rattle.tc_space.specs.declared.multi.Multi as multi
use Rattle.tc_space.specs.declared.space.Space.{Ghosts}
use Rattle.tc_hash.specs.declared.hash.Hash.{Hash}
use Rattle.tc_model.specs.Contents.{Contents, Indexes, Rows, table}
use Rattle.tc_model.specs.Rows.{Row, row_text, texts_of}
use Rattle.tc_model.specs.Stores.{all_pairs, bytes_of, first_pair, held, size_of}
use Rattle.tc_model.specs.Texts.{not_empty}
use Rattle.tc_engine.specs.Changes.{Change, all_gone, wanted}
use Rattle.tc_engine.specs.Effects as effects
use Rattle.tc_base.specs.declared.seq.Pair.{Pair}
use Rattle.tc_engine.specs.Rows.{Adds, AreItems, IsItem, adds_nothing, item_row, pair_row, pair_rows, text_rows}
use Rattle.tc_engine.specs.declared.rows.Rows.{Rows as Gathering}
use Rattle.tc_table.specs.Clearing.{Clears}
use Rattle.tc_table.specs.Sides.{AllStay, IsAway, OthersAll, StaysSide, files as side_files, name_of, tree_file, tree_made}
use Rattle.tc_table.specs.Tables.{Holds, Makes, StaysTable, files_of}
use Rattle.tc_table.specs.declared.side.Side.{Side}
use Rattle.tc_table.specs.declared.table.Table.{Table}
use Rattle.tc_table.proofs.Overs.{law}
use Rattle.tc_table.proofs.Turning.{files_stay}
use Rattle.ty_base.specs.Holding as base
use Rattle.ty_base.specs.Holding.{KeepsNumbers, numbers_refl}
use Rattle.tc_tabledb.specs.declared.holding.TableEngine.{TableEngine}
use Rattle.tc_tabledb.specs.Changing.{DropsAll, all_out}
use Rattle.tc_tabledb.specs.Files.{IsIndexPlace, IsTableFile, column_bytes, order_code}
use Rattle.tc_tabledb.specs.Filling.{Fills}
use Rattle.tc_tabledb.specs.Holding.{AllMade, AreDistinct, DecimalList, HoldsEngine, HoldsTable, IsMade, LeavesRest, LexicalList, indexes_of, names}
use Rattle.tc_tabledb.specs.Laying.{layout_of}
use Rattle.tc_tabledb.specs.Storing.{PutsAll, Told, all_put}
use Rattle.tc_tabledb.proofs.Laid.{bytes_stay, kept_numbers}
use Rattle.tc_treedb.specs.Trees.{IsStore}

-- no rows have no bytes
pub none_sized : (indexes : Indexes) → 0 ≡ size_of (table empty indexes)
none_sized indexes = sym (ap (λ (es : List (List ℕ × Row)). sum_by (λ e. length e.0 + bytes_of (texts_of e.1)) es) (nil_from_length (entries (empty {X = Row} {R = slice_cmp nat_cmp})) (sym (len-entries (empty {X = Row} {R = slice_cmp nat_cmp})) ∙ len-empty (slice_cmp nat_cmp) Row)))

-- ---- a text added

-- a row with it is added, where there is one
pub item_told : (value : Option (List ℕ)) (text bytes : List ℕ) (old new : Gathering) → Some text ≡ value → bytes ≡ text → Adds old new (item_row bytes ∷ []) → IsItem value true old new
item_told value text bytes old new is same adds = record {
  there = λ found. (text, sym is, subst (λ (b : List ℕ). Adds old new (item_row b ∷ [])) same adds);
  none = λ not. absurd (let x : true ≡ false = not in cc);
}

pub item_none : (value : Option (List ℕ)) (rows : Gathering) → None ≡ value → IsItem value false rows rows
item_none value rows is = record { there = λ found. absurd (let x : false ≡ true = found in cc); none = λ not. (sym is, adds_nothing rows) }

-- ---- indexes that stay

module _ {S L OL D OD : Type 0} (s : Ghosts S) (l : multi.Ghosts L S OL) (d : multi.Ghosts D S OD) where
  pub same_names : (xs ys : List (Side L D)) → AllStay l d xs ys → names ys ≡ names xs
  same_names [] [] stay = refl
  same_names [] (y ∷ ys) stay = absurd stay
  same_names (x ∷ xs) [] stay = absurd stay
  same_names (x ∷ xs) (y ∷ ys) stay = λ i. stay.0.tree.name i ∷ same_names xs ys stay.1 i

  pub same_indexes : (xs ys : List (Side L D)) → AllStay l d xs ys → indexes_of ys ≡ indexes_of xs
  same_indexes [] [] stay = refl
  same_indexes [] (y ∷ ys) stay = absurd stay
  same_indexes (x ∷ xs) [] stay = absurd stay
  same_indexes (x ∷ xs) (y ∷ ys) stay = λ i. insert (same_indexes xs ys stay.1 i) (stay.0.tree.name i) (stay.0.kind i)

  module _ {R : Type 0} (r : records.Ghosts R S) where
    pub made_still : (x y : Side L D) → StaysSide l d x y → IsMade r l d x → IsMade r l d y
    made_still x y stays made = record {
      sort = ap (λ (m : Made). m.sort) stays.tree.made ∙ made.sort;
      code = ap (λ (m : Made). m.code) stays.tree.made ∙ (made.code ∙ ap order_code (sym stays.kind));
      column = ap (λ (m : Made). m.column) stays.tree.made ∙ (made.column ∙ (λ i. Some (column_bytes (sym stays.kind i) (sym stays.tree.name i))));
      named = ap not_empty stays.tree.name ∙ made.named;
      file = subst IsIndexPlace (sym stays.tree.file) made.file;
    }

    pub same_made : (xs ys : List (Side L D)) → AllStay l d xs ys → AllMade r l d xs → AllMade r l d ys
    same_made [] [] stay made = tt
    same_made [] (y ∷ ys) stay made = absurd stay
    same_made (x ∷ xs) [] stay made = absurd stay
    same_made (x ∷ xs) (y ∷ ys) stay made = (made_still x y stay.0 made.0, same_made xs ys stay.1 made.1)

module _ {S : Type 0} (s : Ghosts S) (r : records.Ghosts (Hash S) S) (l : multi.Ghosts (LexicalList S) S Lexical) (d : multi.Ghosts (DecimalList S) S Decimal) where
  abbrev Held : TableEngine S → S → Contents → Type 0
  Held e a c = base.Held s (HoldsEngine r l d) e a c

  -- the rows that are held
  pub rows_held : (e : TableEngine S) (a : S) (c : Contents) (h : Held e a c) → Holds s r l d e.table a h.1.rows
  rows_held e a c h = (law s r l d e.table a h.1.rows).1 (h.0, h.1.held)

  pub ready_down : (e : TableEngine S) (a : S) → base.IsReady s (HoldsEngine r l d) e a → stores.IsReady s (Holds s r l d) e.table a
  ready_down e a ready = record { sound = ready.sound; held = λ t. let h = ready.held t in (h.1.rows, rows_held e a h.0 (t, h.1)) }

  -- it holds these rows then, in files of which those that aren't its own stay
  pub holds_again : (t t' : Table (Hash S) (LexicalList S) (DecimalList S)) (total total' : Option ℕ) (f : Files) (c : Contents) (b : S) (rows : Rows) → HoldsTable r l d t total f c → StaysTable r l d t t' → Holds s r l d t' b rows
      → ((n : ℕ) → IsAway n (files_of r l d t) → s.now b n ≡ f n) → ((d' : Contents) → d' ≡ table rows (indexes_of t.sides.items) → IfSome total' (λ n. n ≡ size_of d')) → HoldsTable r l d t' total' (s.now b) (table rows (indexes_of t.sides.items))
  holds_again t t' total total' f c b rows h stays now others counted = record {
    rows = rows;
    is = ap (table rows) (sym (same_indexes s l d t.sides.items t'.sides.items stays.sides));
    held = ((law s r l d t' b rows).0 now).1;
    main = stays.rows.file ∙ h.main;
    sort = stays.rows.sort ∙ h.sort;
    made = same_made s l d r t.sides.items t'.sides.items stays.sides h.made;
    distinct = subst AreDistinct (sym (same_names s l d t.sides.items t'.sides.items stays.sides)) h.distinct;
    rest = λ n place away.
        let far : IsAway n (side_files l d t.sides.items) = subst (IsAway n) (files_stay s l d t.sides.items t'.sides.items stays.sides) away in
        others n ((λ e. not_main n place (e ∙ h.main)), far) ∙ h.rest n place far;
    counted = counted (table rows (indexes_of t.sides.items)) refl;
  }
    where
      not_main : (n : ℕ) → IsIndexPlace n → n ≡ 0 → ⊥
      not_main n place e = let low = place.0 in absurd (omega (arith, low, e))

  -- ---- calls that only read

  pub reads_up : (e e' : TableEngine S) (a b : S) → StaysTable r l d e.table e'.table → Reads s (Holds s r l d) e.table e'.table a b → ((c : Contents) → Held e a c → IfSome e.total (λ n. n ≡ size_of c) → IfSome e'.total (λ n. n ≡ size_of c)) → Reads s (base.Held s (HoldsEngine r l d)) e e' a b
  reads_up e e' a b stays reads counted = record {
    now = reads.now;
    touched = reads.touched;
    sound = reads.sound;
    means = λ c h. (
      h.0,
      subst (λ (x : Contents). HoldsEngine r l d e' (s.now b) x) (sym h.1.is)
          (holds_again e.table e'.table e.total e'.total (s.now a) c b h.1.rows h.1 stays (reads.means h.1.rows (rows_held e a c h)) (λ n away. reads.now h.0 n)
          (λ x is. subst (λ (y : Contents). IfSome e'.total (λ n. n ≡ size_of y)) (h.1.is ∙ sym is) (counted c h h.1.counted))),
    );
  }

  -- a call on the space alone
  pub only_reads_up : (e : TableEngine S) (a b : S) → OnlyReads s a b → Reads s (base.Held s (HoldsEngine r l d)) e e a b
  only_reads_up e a b reads = record {
    now = reads.files;
    touched = reads.untouched;
    sound = reads.is_sound;
    means = λ c h. (h.0, subst (λ (f : Files). HoldsEngine r l d e f c) (λ i n. sym (reads.files h.0 n) i) h.1);
  }

  -- where the count stays
  pub still_up : (e e' : TableEngine S) (a b : S) → e'.total ≡ e.total → StaysTable r l d e.table e'.table → Reads s (Holds s r l d) e.table e'.table a b → Reads s (base.Held s (HoldsEngine r l d)) e e' a b
  still_up e e' a b total stays reads = reads_up e e' a b stays reads (λ c h counted. subst (λ (o : Option ℕ). IfSome o (λ n. n ≡ size_of c)) (sym total) counted)

  pub refuses_up : (e e' : TableEngine S) (a b : S) → e'.total ≡ e.total → StaysTable r l d e.table e'.table → Refuses s (Holds s r l d) e.table e'.table a b → Refuses s (base.Held s (HoldsEngine r l d)) e e' a b
  refuses_up e e' a b total stays refuses = ⊎_elim (λ spoiled. inl spoiled) (λ reads. inr (still_up e e' a b total stays reads)) refuses

  pub refused_up : {T E : Type 0} (result : Result T E) (e e' : TableEngine S) (a b : S) → e'.total ≡ e.total → StaysTable r l d e.table e'.table → OnErr result (Refuses s (Holds s r l d) e.table e'.table a b) → OnErr result (Refuses s (base.Held s (HoldsEngine r l d)) e e' a b)
  refused_up (Ok x) e e' a b total stays refused = tt
  refused_up (Err x) e e' a b total stays refused = refuses_up e e' a b total stays refused

  -- what is found of the rows is found of the contents
  pub find_up : {A E : Type 0} (result : Result A E) (f : Rows → A) (g : Contents → A) (e : TableEngine S) (a : S) → ((rows : Rows) (indexes : Indexes) → f rows ≡ g (table rows indexes)) → IfOk result (λ x. (rows : Rows) → Holds s r l d e.table a rows → x ≡ f rows) → base.FindsHeld s (HoldsEngine r l d) result g e a
  find_up (Ok x) f g e a same finds = λ c h. finds h.1.rows (rows_held e a c h) ∙ (same h.1.rows (indexes_of e.table.sides.items) ∙ ap g (sym h.1.is))
  find_up (Err y) f g e a same finds = tt

  -- what is so of the rows is so of the contents
  pub of_rows : (P : Contents → Type 0) (e : TableEngine S) (a : S) → ((rows : Rows) (indexes : Indexes) → Holds s r l d e.table a rows → P (table rows indexes)) → base.OfHeld s (HoldsEngine r l d) e a P
  of_rows P e a so c h = subst P (sym h.1.is) (so h.1.rows (indexes_of e.table.sides.items) (rows_held e a c h))

  pub adds_up : {T E : Type 0} (result : Result T E) (f : Rows → List (List ℕ)) (g : Contents → List (List ℕ)) (e : TableEngine S) (a : S) (old new : Gathering) → ((rows : Rows) (indexes : Indexes) → f rows ≡ g (table rows indexes))
      → OnOk result ((rows : Rows) → Holds s r l d e.table a rows → Adds old new (f rows)) → OnOk result (base.OfHeld s (HoldsEngine r l d) e a (λ c. Adds old new (g c)))
  adds_up (Ok x) f g e a old new same adds = of_rows (λ c. Adds old new (g c)) e a (λ rows indexes h. subst (Adds old new) (same rows indexes) (adds rows h))
  adds_up (Err y) f g e a old new same adds = tt

  -- ---- calls that write

  own_files : (e : TableEngine S) (f : Files) (c : Contents) → HoldsEngine r l d e f c → (n : ℕ) → (IsTableFile n → ⊥) → IsAway n (files_of r l d e.table)
  own_files e f c h n other = ((λ is. other (inl (is ∙ h.main))), sides_away e.table.sides.items h.made)
    where
      sides_away : (xs : List (Side (LexicalList S) (DecimalList S))) → AllMade r l d xs → IsAway n (side_files l d xs)
      sides_away [] made = tt
      sides_away (x ∷ xs) made = ((λ is. other (inr (subst IsIndexPlace (sym is) made.0.file))), sides_away xs made.1)

  pub others_up : (e : TableEngine S) (a b : S) → base.IsReady s (HoldsEngine r l d) e a → OthersAll s (files_of r l d e.table) a b → Others s IsTableFile a b
  others_up e a b ready others = record { same = λ t n other. let h = ready.held t in others.same t n (own_files e (s.now a) h.0 h.1 n other) }

  -- the numbers of the main file stay
  module _ (store : IsStore s r) where
    pub numbered : (e e' : TableEngine S) (a b : S) (c d' : Contents) → StaysTable r l d e.table e'.table → HoldsEngine r l d e (s.now a) c → HoldsEngine r l d e' (s.now b) d' → KeepsNumbers (layout_of (s.now a)) (layout_of (s.now b))
    numbered e e' a b c d' stays before now = kept_numbers s r store e.table.rows e'.table.rows (s.now a 0) (s.now b 0) before.held.store now.held.store _ _
        (subst (λ (n : ℕ). r.holds e.table.rows (s.now a n) before.held.store) before.main before.held.held)
        (subst (λ (n : ℕ). r.holds e'.table.rows (s.now b n) now.held.store) now.main now.held.held)
        stays.rows

    -- a change of the rows, whatever indexes there are
    pub made_up : (change : Change) (f : Rows → Option Rows) (done : Bool) (e e' : TableEngine S) (a b : S) → base.IsReady s (HoldsEngine r l d) e a → StaysTable r l d e.table e'.table → Makes s r l d f done e.table e'.table a b
        → ((rows : Rows) (indexes : Indexes) → change (table rows indexes) ≡ option_map (λ after. table after indexes) (f rows))
        → ((c : Contents) → done ≡ true → IfSome e'.total (λ n. n ≡ size_of c)) → (done ≡ false → e'.total ≡ e.total) → effects.Makes s IsTableFile layout_of (HoldsEngine r l d) change done e e' a b
    made_up change f true e e' a b ready stays makes is counted same = record {
      sound = makes.sound;
      others = others_up e a b ready makes.others;
      numbered = λ c h. let after = made c h in numbered e e' a b c after.0 stays h.1 after.2.1;
      made = λ done c h. made c h;
      fails = λ none. absurd (let x : true ≡ false = none in cc);
      same = λ none. absurd (let x : true ≡ false = none in cc);
    }
      where
        made : (c : Contents) → Held e a c → (d' : Contents) × (change c ≡ Some d') × Held e' b d'
        made c h =
            let rows = makes.made refl h.1.rows (rows_held e a c h) in
            let indexes = indexes_of e.table.sides.items in (
              table rows.0 indexes,
              ap change h.1.is ∙ (is h.1.rows indexes ∙ ap (option_map (λ after. table after indexes)) rows.1),
              (h.0, holds_again e.table e'.table e.total e'.total (s.now a) c b rows.0 h.1 stays rows.2 (λ n away. makes.others.same h.0 n away) (λ x is. counted x refl)),
            )
    made_up change f false e e' a b ready stays makes is counted same = record {
      sound = makes.sound;
      others = others_up e a b ready makes.others;
      numbered = λ c h. bytes_stay (s.now a 0) (s.now b 0) _ _ ((makes.same refl).now h.0 0);
      made = λ done. absurd (let x : false ≡ true = done in cc);
      fails = λ none c h. ap change h.1.is ∙ (is h.1.rows (indexes_of e.table.sides.items) ∙ ap (option_map (λ after. table after (indexes_of e.table.sides.items))) (makes.fails refl h.1.rows (rows_held e a c h)));
      same = λ none. still_up e e' a b (same refl) stays (makes.same refl);
    }

    -- a call that always makes its change
    turned_made : (change : Change) (f : Rows → Rows) (e e' : TableEngine S) (a b : S) → base.IsReady s (HoldsEngine r l d) e a → StaysTable r l d e.table e'.table → s.sound b → ((rows : Rows) → Holds s r l d e.table a rows → Holds s r l d e'.table b (f rows)) → OthersAll s (files_of r l d e.table) a b
        → ((rows : Rows) (indexes : Indexes) → change (table rows indexes) ≡ Some (table (f rows) indexes)) → ((rows : Rows) (indexes : Indexes) → IfSome e'.total (λ n. n ≡ size_of (table (f rows) indexes))) → effects.Makes s IsTableFile layout_of (HoldsEngine r l d) change true e e' a b
    turned_made change f e e' a b ready stays sound means others is counted = record {
      sound = sound;
      others = others_up e a b ready others;
      numbered = λ c h. let after = made c h in numbered e e' a b c after.0 stays h.1 after.2.1;
      made = λ done c h. made c h;
      fails = λ none. absurd (let x : true ≡ false = none in cc);
      same = λ none. absurd (let x : true ≡ false = none in cc);
    }
      where
        made : (c : Contents) → Held e a c → (d' : Contents) × (change c ≡ Some d') × Held e' b d'
        made c h =
            let indexes = indexes_of e.table.sides.items in (
              table (f h.1.rows) indexes,
              ap change h.1.is ∙ is h.1.rows indexes,
              (
                h.0,
                holds_again e.table e'.table e.total e'.total (s.now a) c b (f h.1.rows) h.1 stays (means h.1.rows (rows_held e a c h)) (λ n away. others.same h.0 n away)
                    (λ x is. subst (λ (y : Contents). IfSome e'.total (λ n. n ≡ size_of y)) (sym is) (counted h.1.rows indexes)),
              ),
            )

    pub drops_made : (change : Change) (keys : List (List ℕ)) (e e' : TableEngine S) (a b : S) → base.IsReady s (HoldsEngine r l d) e a → StaysTable r l d e.table e'.table → DropsAll s r l d keys e.table e'.table a b
        → ((rows : Rows) (indexes : Indexes) → change (table rows indexes) ≡ Some (table (all_out keys rows) indexes)) → ((n : ℕ) → IfSome e'.total (λ x. x ≡ n)) → effects.Makes s IsTableFile layout_of (HoldsEngine r l d) change true e e' a b
    drops_made change keys e e' a b ready stays drops is counted = turned_made change (all_out keys) e e' a b ready stays drops.sound drops.means drops.others is (λ rows indexes. counted _)

    pub puts_made : (change : Change) (es : List Told) (g : Rows → Rows) (e e' : TableEngine S) (a b : S) → base.IsReady s (HoldsEngine r l d) e a → StaysTable r l d e.table e'.table → PutsAll s r l d es e.table e'.table a b → ((rows : Rows) → all_put es rows ≡ g rows)
        → ((rows : Rows) (indexes : Indexes) → change (table rows indexes) ≡ Some (table (g rows) indexes)) → ((n : ℕ) → IfSome e'.total (λ x. x ≡ n)) → effects.Makes s IsTableFile layout_of (HoldsEngine r l d) change true e e' a b
    puts_made change es g e e' a b ready stays puts same is counted = turned_made change g e e' a b ready stays puts.sound (λ rows h. subst (Holds s r l d e'.table b) (same rows) (puts.means rows h)) puts.others is (λ rows indexes. counted _)

    pub cleared_made : (e e' : TableEngine S) (a b : S) → base.IsReady s (HoldsEngine r l d) e a → StaysTable r l d e.table e'.table → Clears s r l d e.table e'.table a b → e'.total ≡ Some 0 → effects.Makes s IsTableFile layout_of (HoldsEngine r l d) all_gone true e e' a b
    cleared_made e e' a b ready stays clears total = turned_made all_gone (λ rows. empty) e e' a b ready stays clears.sound clears.means clears.others (λ rows indexes. refl) (λ rows indexes. subst (λ (o : Option ℕ). IfSome o (λ n. n ≡ size_of (table empty indexes))) (sym total) (none_sized indexes))

    -- what fails changes nothing
    pub makes_none : (change : Change) (e : TableEngine S) (a : S) → s.sound a → ((rows : Rows) (indexes : Indexes) → change (table rows indexes) ≡ None) → effects.Makes s IsTableFile layout_of (HoldsEngine r l d) change false e e a a
    makes_none change e a sound none = record {
      sound = sound;
      others = others_refl s IsTableFile a;
      numbered = λ c h. numbers_refl (layout_of (s.now a));
      made = λ done. absurd (let x : false ≡ true = done in cc);
      fails = λ not c h. ap change h.1.is ∙ none h.1.rows (indexes_of e.table.sides.items);
      same = λ not. reads_refl s (base.Held s (HoldsEngine r l d)) e a sound;
    }

    -- and what has nothing to do makes what is held
    pub makes_same : (change : Change) (e : TableEngine S) (a : S) → s.sound a → ((rows : Rows) (indexes : Indexes) → change (table rows indexes) ≡ Some (table rows indexes)) → effects.Makes s IsTableFile layout_of (HoldsEngine r l d) change true e e a a
    makes_same change e a sound is = record {
      sound = sound;
      others = others_refl s IsTableFile a;
      numbered = λ c h. numbers_refl (layout_of (s.now a));
      made = λ done c h. (c, ap change h.1.is ∙ (is h.1.rows (indexes_of e.table.sides.items) ∙ ap (λ (x : Contents). Some x) (sym h.1.is)), h);
      fails = λ not. absurd (let x : true ≡ false = not in cc);
      same = λ not. absurd (let x : true ≡ false = not in cc);
    }

  wanted_is : (rows : Rows) (indexes : Indexes) (o : Option Rows) → unwrap_or (option_map (λ after. table after indexes) o) (table rows indexes) ≡ table (unwrap_or o rows) indexes
  wanted_is rows indexes None = refl
  wanted_is rows indexes (Some after) = refl

  -- a limit on the way of the rows is one on the way of the contents
  pub full_up : (change : Change) (f : Rows → Option Rows) (e : TableEngine S) (a b : S) → ((rows : Rows) (indexes : Indexes) → change (table rows indexes) ≡ option_map (λ after. table after indexes) (f rows))
      → ((c : Contents) (h : Held e a c) → Fills s b (table h.1.rows (indexes_of e.table.sides.items)) (table (unwrap_or (f h.1.rows) h.1.rows) (indexes_of e.table.sides.items))) → effects.IsFull s (HoldsEngine r l d) (λ x a b. Fills s b) change e a b
  full_up change f e a b is fills = record {
    by = λ c h.
        let indexes = indexes_of e.table.sides.items in
        let after : wanted change (table h.1.rows indexes) ≡ table (unwrap_or (f h.1.rows) h.1.rows) indexes = ap (λ (o : Option Contents). unwrap_or o (table h.1.rows indexes)) (is h.1.rows indexes) ∙ wanted_is h.1.rows indexes (f h.1.rows) in
        subst (λ (x : Contents). Fills s b x (wanted change x)) (sym h.1.is) (subst (λ (y : Contents). Fills s b (table h.1.rows indexes) y) (sym after) (fills c h));
  }

  -- ---- texts of rows

  -- what is told of the row of a key is the value that get gives
  pub told_text : (e : TableEngine S) (a : S) (key text : List ℕ) (o : Option (List ℕ)) → text ≡ key → ((rows : Rows) → Holds s r l d e.table a rows → o ≡ option_map row_text (get rows text)) → (c : Contents) → Held e a c → o ≡ held c key
  told_text e a key text o same told c h = told h.1.rows (rows_held e a c h) ∙ (ap (λ (k : List ℕ). option_map row_text (get h.1.rows k)) same ∙ ap (λ (x : Contents). held x key) (sym h.1.is))

  -- the pairs of contents whose key is as it is asked for
  pub first_told : (e : TableEngine S) (a : S) (c : Contents) (key : List ℕ) (o : Option (List ℕ)) → Held e a c → o ≡ held c key → first_pair c key ≡ map (pair key) (option_to_list o)
  first_told e a c key o h is = ap (λ (x : Contents). first_pair x key) h.1.is ∙ ap (λ (v : Option (List ℕ)). map (pair key) (option_to_list v)) (ap (λ (x : Contents). held x key) (sym h.1.is) ∙ sym is)

  pub all_told : (e : TableEngine S) (a : S) (c : Contents) (key : List ℕ) (o : Option (List ℕ)) → Held e a c → o ≡ held c key → all_pairs c key ≡ map (pair key) (option_to_list o)
  all_told e a c key o h is = ap (λ (x : Contents). all_pairs x key) h.1.is ∙ (ap (λ (x : Contents). first_pair x key) (sym h.1.is) ∙ first_told e a c key o h is)

  pub pair_told : (e : TableEngine S) (a : S) (c : Contents) (key text bytes shown : List ℕ) (old new : Gathering) → Held e a c → Some text ≡ held c key → bytes ≡ key → shown ≡ text → Adds old new (pair_row bytes shown ∷ []) → Adds old new (pair_rows (first_pair c key))
  pair_told e a c key text bytes shown old new h is same told adds =
      subst (λ (ps : List Pair). Adds old new (pair_rows ps)) (sym (first_told e a c key (Some text) h is))
      (subst (λ (b : List ℕ). Adds old new (pair_row key b ∷ [])) told (subst (λ (k : List ℕ). Adds old new (pair_row k shown ∷ [])) same adds))

  pub items_told : (e : TableEngine S) (a : S) (c : Contents) (key text bytes shown : List ℕ) (old new : Gathering) → Held e a c → Some text ≡ held c key → bytes ≡ key → shown ≡ text → Adds old new (item_row bytes ∷ item_row shown ∷ []) → Adds old new (text_rows (all_pairs c key))
  items_told e a c key text bytes shown old new h is same told adds =
      subst (λ (ps : List Pair). Adds old new (text_rows ps)) (sym (all_told e a c key (Some text) h is))
      (subst (λ (b : List ℕ). Adds old new (item_row key ∷ item_row b ∷ [])) told (subst (λ (k : List ℕ). Adds old new (item_row k ∷ item_row shown ∷ [])) same adds))

  pub items_up : {E : Type 0} (result : Result Bool E) (f : Rows → Option (List (List ℕ))) (g : Contents → Option (List (List ℕ))) (e : TableEngine S) (a : S) (old new : Gathering) → ((rows : Rows) (indexes : Indexes) → f rows ≡ g (table rows indexes))
      → IfOk result (λ found. (rows : Rows) → Holds s r l d e.table a rows → AreItems (f rows) found old new) → IfOk result (λ found. base.OfHeld s (HoldsEngine r l d) e a (λ c. AreItems (g c) found old new))
  items_up (Ok found) f g e a old new same items = of_rows (λ c. AreItems (g c) found old new) e a (λ rows indexes h. subst (λ (o : Option (List (List ℕ))). AreItems o found old new) (same rows indexes) (items rows h))
  items_up (Err x) f g e a old new same items = tt

pub size_told : (o : Option ℕ) (n m : ℕ) → o ≡ Some n → IfSome o (λ x. x ≡ m) → n ≡ m
size_told o n m is so = subst (λ (p : Option ℕ). IfSome p (λ x. x ≡ m)) is so
