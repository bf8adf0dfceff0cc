-- Rows that a query finds, and what is done with them.
use Rattle.std.proofs.Common.{◌≡◌, ◌∙◌, ℕ, ◌+◌, ◌≤◌, true, false, List, [], ◌∷◌, ◌++◌, length, take, Some, refl, sym, ap, subst}
use Rattle.std.specs.Prelude.{flat_map, map, slice_get, option_and_then, option_map, unwrap_or, Option, None}
use Rattle.std.proofs.lemmas.List.{append-nil, map-append, take_all, take_more}
use Rattle.std.proofs.lemmas.Option.{slice_get_within, get_or_from_slice_get}
use Rattle.std.proofs.lemmas.Grind.{flat_map-append}
use Rattle.std.specs.FinMap.{remove}
use Rattle.std.specs.Fmt.{decimal}
use Rattle.tc_base.specs.Files.{Files}
use Rattle.tc_base.specs.declared.order.Decimal.{Decimal as ByNumbers}
use Rattle.tc_base.specs.declared.order.Lexical.{Lexical as ByBytes}
use Rattle.tc_space.specs.Frames.{Reads}
use Rattle.tc_space.specs.declared.multi.Multi as multi
use Rattle.tc_space.specs.declared.records.Records.{Ghosts as Stores}
use Rattle.tc_space.specs.declared.space.Space.{Ghosts}
use Rattle.tc_engine.specs.Changes.{Change, found_by, search_of}
use Rattle.tc_engine.specs.Effects as effects
use Rattle.tc_engine.specs.Rows.{Adds, AreItems, adds_nothing, adds_then, item_row}
use Rattle.tc_engine.specs.declared.rows.Rows.{Rows as Gathering}
use Rattle.tc_hash.specs.declared.hash.Hash.{Hash}
use Rattle.tc_model.specs.Contents.{Contents, Indexes, Rows, table}
use Rattle.tc_model.specs.Meaning.{done_with, reply_of, searched, without_rows}
use Rattle.tc_model.specs.Rows.{row_text}
use Rattle.tc_model.specs.Queries.{query_of}
use Rattle.tc_model.specs.Search.{Found, found}
use Rattle.tc_model.specs.declared.query.Deed.{Deed}
use Rattle.tc_model.specs.declared.query.Deed.TheVariants as deeds
use Rattle.tc_model.specs.declared.query.Query.{Query}
use Rattle.tc_table.specs.Tables.{Holds}
use Rattle.ty_base.specs.Holding as base
use Rattle.ty_base.specs.Holding.{Layout}
use Rattle.tc_tabledb.specs.declared.holding.TableEngine.{TableEngine}
use Rattle.tc_tabledb.specs.Changing.{all_out}
use Rattle.tc_tabledb.specs.Files.{IsTableFile}
use Rattle.tc_tabledb.specs.Filling.{Fills, fills_of}
use Rattle.tc_tabledb.specs.Holding.{DecimalList, HoldsEngine, LexicalList, indexes_of}
use Rattle.tc_tabledb.specs.Laying.{layout_of}
use Rattle.tc_tabledb.specs.Searching.{Searches, Turns, dropped, found_for, said}
use Rattle.tc_tabledb.proofs.Lifting.{rows_held}

-- the rows that were found are those of their keys
pub keys_out : (fs : List Found) (rows : Rows) → all_out (map (λ f. f.0) fs) rows ≡ without_rows rows fs
keys_out [] rows = refl
keys_out (f ∷ fs) rows = keys_out fs (remove rows f.0)

pub drops_found : (fs : List Found) (keys : List (List ℕ)) → keys ≡ map (λ f. f.0) fs → (rows : Rows) (indexes : Indexes) → dropped fs (table rows indexes) ≡ Some (table (all_out keys rows) indexes)
drops_found fs keys are rows indexes = ap (λ (m : Rows). Some (table m indexes)) (sym (keys_out fs rows) ∙ ap (λ (ks : List (List ℕ)). all_out ks rows) (sym are))

-- the rows of a key and a text, and of those of some rows
pub one_added : (a b : Gathering) (f : Found) (key text : List ℕ) → key ≡ f.0 → text ≡ row_text f.1 → Adds a b (item_row key ∷ item_row text ∷ []) → Adds a b (map item_row (reply_of f))
one_added a b f key text key_is text_is added =
    subst (λ (t : List ℕ). Adds a b (item_row f.0 ∷ item_row t ∷ [])) text_is (subst (λ (k : List ℕ). Adds a b (item_row k ∷ item_row text ∷ [])) key_is added)

taken : (fs : List Found) (i : ℕ) (f : Found) → slice_get fs i ≡ Some f → take (i + 1) fs ≡ take i fs ++ f ∷ []
taken fs i f at = take_more fs i f (slice_get_within fs i f at) ∙ ap (λ (g : Found). take i fs ++ g ∷ []) (get_or_from_slice_get fs i f f at)

pub found_added : (a b c : Gathering) (fs : List Found) (i : ℕ) (f : Found) → slice_get fs i ≡ Some f → Adds a b (map item_row (flat_map reply_of (take i fs))) → Adds b c (map item_row (reply_of f)) → Adds a c (map item_row (flat_map reply_of (take (i + 1) fs)))
found_added a b c fs i f at so added =
    let more : flat_map reply_of (take (i + 1) fs) ≡ flat_map reply_of (take i fs) ++ (reply_of f ++ []) = ap (flat_map reply_of) (taken fs i f at) ∙ flat_map-append reply_of (take i fs) (f ∷ []) in
    let rows : map item_row (flat_map reply_of (take (i + 1) fs)) ≡ map item_row (flat_map reply_of (take i fs)) ++ map item_row (reply_of f) = ap (map item_row) (more ∙ ap (λ (l : List (List ℕ)). flat_map reply_of (take i fs) ++ l) (append-nil (reply_of f))) ∙ map-append item_row (flat_map reply_of (take i fs)) (reply_of f) in
    subst (λ (l : List (List ℕ)). Adds a c l) (sym rows) (adds_then a b c (map item_row (flat_map reply_of (take i fs))) (map item_row (reply_of f)) so added)

pub all_added : (a b : Gathering) (fs : List Found) (i : ℕ) → length fs ≤ i → Adds a b (map item_row (flat_map reply_of (take i fs))) → Adds a b (map item_row (flat_map reply_of fs))
all_added a b fs i all so = subst (λ (gs : List Found). Adds a b (map item_row (flat_map reply_of gs))) (take_all i fs all) so

-- a change that was made
pub turns_of : {S E : Type 0} (s : Ghosts S) (own : ℕ → Type 0) (layout : Files → Layout) (holds : E → Files → Contents → Type 0) (f : Change) (e e' : E) (a b : S) → effects.Makes s own layout holds f true e e' a b → Turns s own layout holds f e e' a b
turns_of s own layout holds f e e' a b makes = record { sound = makes.sound; others = makes.others; numbered = makes.numbered; made = makes.made refl }

-- ---- what is done with what was found

other_deed : (deed : Deed) (rows : Rows) (indexes : Indexes) (fs : List Found) → (deed ≡ deeds.Out → ⊥) → (done_with deed rows indexes fs).0 ≡ table rows indexes
other_deed deeds.Keys rows indexes fs other = refl
other_deed deeds.Get rows indexes fs other = refl
other_deed deeds.Out rows indexes fs other = absurd (other refl)
other_deed deeds.Count rows indexes fs other = refl

all_said : (deed : Deed) (rows : Rows) (indexes : Indexes) (fs : List Found) → (done_with deed rows indexes fs).1 ≡ said deed fs
all_said deeds.Keys rows indexes fs = refl
all_said deeds.Get rows indexes fs = refl
all_said deeds.Out rows indexes fs = refl
all_said deeds.Count rows indexes fs = refl

pub keys_stay : (deed : Deed) → deed ≡ deeds.Keys → deed ≡ deeds.Out → ⊥
keys_stay deed keys out = let bad : deeds.Keys ≡ deeds.Out = sym keys ∙ out in cc

pub count_stays : (deed : Deed) → deed ≡ deeds.Count → deed ≡ deeds.Out → ⊥
count_stays deed count out = let bad : deeds.Count ≡ deeds.Out = sym count ∙ out in cc

-- ---- by conditions

pub none_asked : (conditions : List (List ℕ)) (c : Contents) → query_of conditions ≡ None → found_by conditions c ≡ None
none_asked conditions c none = ap (λ (o : Option Query). option_map (λ x. x.0) (option_and_then (searched c) o)) none

pub none_told : (conditions : List (List ℕ)) (c : Contents) (into : Gathering) → query_of conditions ≡ None → AreItems (option_map (λ o. o.1) (search_of conditions c)) false into into
none_told conditions c into none = record {
  there = λ found. absurd (let bad : false ≡ true = found in cc);
  none = λ not. (ap (λ (o : Option Query). option_map (λ x. x.1) (option_and_then (searched c) o)) none, adds_nothing into);
}

module _ {S : Type 0} (s : Ghosts S) (r : Stores (Hash S) S) (l : multi.Ghosts (LexicalList S) S ByBytes) (d : multi.Ghosts (DecimalList S) S ByNumbers) where
  abbrev pub Held : TableEngine S → S → Contents → Type 0
  Held e a c = base.Held s (HoldsEngine r l d) e a c

  abbrev pub Says : Query → TableEngine S → S → Gathering → Gathering → Type 0
  Says q e a into new = (c : Contents) → Held e a c → (items : List (List ℕ)) × (option_map (λ o. o.1) (searched c q) ≡ Some items) × Adds into new (map item_row items)

  -- of whatever is held
  pub says_found : (q : Query) (e : TableEngine S) (a : S) (fs : List Found) (into new : Gathering) → ((rows : Rows) → Holds s r l d e.table a rows → fs ≡ found q rows) → Adds into new (map item_row (said q.deed fs)) → Says q e a into new
  says_found q e a fs into new are adds c h =
      let rows : Rows = h.1.rows in
      let is = are rows (rows_held s r l d e a c h) in (
        said q.deed fs,
        ap (λ (x : Contents). option_map (λ o. o.1) (searched x q)) h.1.is ∙ ap (λ (x : List (List ℕ)). Some x) (all_said q.deed rows (indexes_of e.table.sides.items) (found q rows) ∙ ap (said q.deed) (sym is)),
        adds,
      )

  -- of whatever is held, where they are only counted
  pub says_counted : (q : Query) (e : TableEngine S) (a : S) (n : ℕ) (into new : Gathering) → q.deed ≡ deeds.Count → ((rows : Rows) → Holds s r l d e.table a rows → n ≡ length (found q rows)) → Adds into new (item_row (decimal n) ∷ []) → Says q e a into new
  says_counted q e a n into new count are adds c h =
      let rows : Rows = h.1.rows in
      let is : n ≡ length (found q rows) = are rows (rows_held s r l d e a c h) in (
        decimal n ∷ [],
        ap (λ (x : Contents). option_map (λ o. o.1) (searched x q)) h.1.is
            ∙ ap (λ (x : List (List ℕ)). Some x) (all_said q.deed rows (indexes_of e.table.sides.items) (found q rows) ∙ (ap (λ (x : Deed). said x (found q rows)) count ∙ ap (λ (m : ℕ). decimal m ∷ []) (sym is))),
        adds,
      )

  -- of whatever is held, where only their keys are asked for
  pub says_keys : (q : Query) (e : TableEngine S) (a : S) (ks : List (List ℕ)) (into new : Gathering) → q.deed ≡ deeds.Keys → ((rows : Rows) → Holds s r l d e.table a rows → ks ≡ map (λ f. f.0) (found q rows)) → Adds into new (map item_row ks) → Says q e a into new
  says_keys q e a ks into new keys are adds c h =
      let rows : Rows = h.1.rows in
      let is : ks ≡ map (λ f. f.0) (found q rows) = are rows (rows_held s r l d e a c h) in (
        ks,
        ap (λ (x : Contents). option_map (λ o. o.1) (searched x q)) h.1.is
            ∙ ap (λ (x : List (List ℕ)). Some x) (all_said q.deed rows (indexes_of e.table.sides.items) (found q rows) ∙ (ap (λ (x : Deed). said x (found q rows)) keys ∙ sym is)),
        adds,
      )

  -- nothing is changed
  pub looks_found : (q : Query) (e e' : TableEngine S) (a b : S) → (q.deed ≡ deeds.Out → ⊥) → Reads s (base.Held s (HoldsEngine r l d)) e e' a b → Turns s IsTableFile layout_of (HoldsEngine r l d) (found_for q) e e' a b
  looks_found q e e' a b other reads = record {
    sound = reads.sound;
    others = record { same = λ t n far. reads.now t n };
    numbered = λ c h. base.numbers_stay (layout_of (s.now a)) (layout_of (s.now b)) (ap layout_of (λ i n. reads.now h.0 n i));
    made = λ c h. (c, made c h, reads.means c h);
  }
    where
      made : (c : Contents) → base.Held s (HoldsEngine r l d) e a c → found_for q c ≡ Some c
      made c h = ap (found_for q) h.1.is ∙ ap (λ (x : Contents). Some x) (other_deed q.deed h.1.rows (indexes_of e.table.sides.items) (found q h.1.rows) other ∙ sym h.1.is)

  out_is : (d : Deed) (rows : Rows) (indexes : Indexes) (fs : List Found) → d ≡ deeds.Out → Some (done_with d rows indexes fs).0 ≡ dropped fs (table rows indexes)
  out_is d rows indexes fs is = ap (λ (x : Deed). Some (done_with x rows indexes fs).0) is

  -- what it makes of what is held is that the rows that were found are gone
  found_gone : (q : Query) (e : TableEngine S) (a : S) (fs : List Found) → q.deed ≡ deeds.Out → ((rows : Rows) → Holds s r l d e.table a rows → fs ≡ found q rows) → (c : Contents) → Held e a c → found_for q c ≡ dropped fs c
  found_gone q e a fs is are c h =
      let i : Indexes = indexes_of e.table.sides.items in
      ap (found_for q) h.1.is
      ∙ (out_is q.deed h.1.rows i (found q h.1.rows) is
      ∙ (ap (λ (x : List Found). dropped x (table h.1.rows i)) (sym (are h.1.rows (rows_held s r l d e a c h))) ∙ ap (dropped fs) (sym h.1.is)))

  -- they were taken out
  pub gone_found : (q : Query) (e u v : TableEngine S) (a m b : S) (fs : List Found) → q.deed ≡ deeds.Out → ((rows : Rows) → Holds s r l d e.table a rows → fs ≡ found q rows) → Reads s (base.Held s (HoldsEngine r l d)) e u a m → Turns s IsTableFile layout_of (HoldsEngine r l d) (dropped fs) u v m b
      → Turns s IsTableFile layout_of (HoldsEngine r l d) (found_for q) e v a b
  gone_found q e u v a m b fs is are reads turns = record {
    sound = turns.sound;
    others = record { same = λ t n far. turns.others.same t n far ∙ reads.now t n };
    numbered = λ c h. base.numbers_then (layout_of (s.now a)) (layout_of (s.now m)) (layout_of (s.now b)) (base.numbers_stay (layout_of (s.now a)) (layout_of (s.now m)) (ap layout_of (λ i n. reads.now h.0 n i))) (turns.numbered c (reads.means c h));
    made = λ c h. let x = turns.made c (reads.means c h) in (x.0, found_gone q e a fs is are c h ∙ x.1, x.2);
  }

  pub gone_full : (q : Query) (e u : TableEngine S) (a m b : S) (fs : List Found) → q.deed ≡ deeds.Out → ((rows : Rows) → Holds s r l d e.table a rows → fs ≡ found q rows) → Reads s (base.Held s (HoldsEngine r l d)) e u a m → effects.IsFull s (HoldsEngine r l d) (fills_of s) (dropped fs) u m b
      → effects.IsFull s (HoldsEngine r l d) (fills_of s) (found_for q) e a b
  gone_full q e u a m b fs is are reads full = record {
    by = λ c h. subst (λ (o : Option Contents). Fills s b c (unwrap_or o c)) (sym (found_gone q e a fs is are c h)) (full.by c (reads.means c h));
  }

  pub ready_still : (e u : TableEngine S) (a b : S) → Reads s (base.Held s (HoldsEngine r l d)) e u a b → base.IsReady s (HoldsEngine r l d) e a → base.IsReady s (HoldsEngine r l d) u b
  ready_still e u a b reads ready = record { sound = reads.sound; held = λ t. let h = ready.held t in (h.0, (reads.means h.0 (t, h.1)).1) }

  module _ (conditions : List (List ℕ)) (q : Query) (asked : query_of conditions ≡ Some q) where
    found_is : (c : Contents) → found_by conditions c ≡ found_for q c
    found_is c = ap (λ (o : Option Query). option_map (λ x. x.0) (option_and_then (searched c) o)) asked

    pub search_makes : (e u : TableEngine S) (a b : S) (into new : Gathering) → Searches s IsTableFile layout_of (HoldsEngine r l d) q e u a b into new → effects.Makes s IsTableFile layout_of (HoldsEngine r l d) (found_by conditions) true e u a b
    search_makes e u a b into new searches = record {
      sound = searches.turns.sound;
      others = searches.turns.others;
      numbered = searches.turns.numbered;
      made = λ done c h. let x = searches.turns.made c h in (x.0, found_is c ∙ x.1, x.2);
      fails = λ not. absurd (let bad : true ≡ false = not in cc);
      same = λ not. absurd (let bad : true ≡ false = not in cc);
    }

    pub search_says : (e u : TableEngine S) (a b : S) (into new : Gathering) → Searches s IsTableFile layout_of (HoldsEngine r l d) q e u a b into new → base.OfHeld s (HoldsEngine r l d) e a (λ c. AreItems (option_map (λ o. o.1) (search_of conditions c)) true into new)
    search_says e u a b into new searches c h = record {
      there = λ found. let x = searches.says c h in (x.0, ap (λ (o : Option Query). option_map (λ y. y.1) (option_and_then (searched c) o)) asked ∙ x.1, x.2);
      none = λ not. absurd (let bad : true ≡ false = not in cc);
    }

    pub search_full : (e : TableEngine S) (a b : S) → effects.IsFull s (HoldsEngine r l d) (fills_of s) (found_for q) e a b → effects.IsFull s (HoldsEngine r l d) (fills_of s) (found_by conditions) e a b
    search_full e a b full = record { by = λ c h. subst (λ (o : Option Contents). Fills s b c (unwrap_or o c)) (sym (found_is c)) (full.by c h) }
