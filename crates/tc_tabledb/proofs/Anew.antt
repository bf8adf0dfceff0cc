-- A table that is made anew, or opened.
use Rattle.std.proofs.Common.{◌≡◌, ◌∙◌, ◌⊎◌, inl, inr, ⊎_elim, ℕ, ◌+◌, ◌-◌, ◌≤◌, List, [], ◌∷◌, ◌++◌, length, take, refl, sym, ap, subst, arith}
use Rattle.std.specs.Prelude.{option_map, IfSome, IfOk, OnOk, Option, Some, None, Result, Ok, Err}
use Rattle.std.specs.Cmp.Lexicographic.{nat_list_cmp_total, slice_cmp}
use Rattle.std.specs.FinMap.{empty, get, get-empty, same_map}
use Rattle.std.specs.Ordering.{nat_cmp}
use Rattle.std.proofs.lemmas.Map.Lookups.{exact_bytes}
use Rattle.tc_base.specs.Files.{Files}
use Rattle.tc_base.specs.Maps.{Map}
use Rattle.tc_base.specs.declared.kind.Kind.{Kind}
use Rattle.tc_base.specs.declared.kind.Kind.TheVariants as kinds
use Rattle.tc_base.specs.declared.kind.Rule.{Rule}
use Rattle.tc_base.specs.declared.order.Decimal.{Decimal as ByNumbers}
use Rattle.tc_base.specs.declared.order.Lexical.{Lexical as ByBytes}
use Rattle.tc_base.specs.declared.order.Order.{Ghosts as Orders}
use Rattle.tc_space.specs.Frames.{In, OnlyReads, Others}
use Rattle.tc_space.specs.Stores.{Only}
use Rattle.tc_space.specs.declared.multi.Multi as multi
use Rattle.tc_space.specs.declared.records.Records.{Ghosts as Stores}
use Rattle.tc_space.specs.declared.space.Space.{Ghosts}
use Rattle.hf_block.specs.Walks.{between}
use Rattle.hf_head.specs.declared.head.Head.{Head}
use Rattle.hf_head.specs.Heads.{head_in}
use Rattle.hf_tree.specs.Links.{width}
use Rattle.tc_btree.specs.declared.btree.Btree.{Btree}
use Rattle.tc_hash.specs.declared.hash.Hash.{Hash}
use Rattle.tc_hash.specs.Creating.{Creates, HasNoRoom}
use Rattle.tc_hash.specs.Ending.{free_at_end, free_end, slack_in}
use Rattle.tc_hash.specs.Standing.{StandsWith}
use Rattle.tc_hashdb.specs.Laying.{created_long, no_lead, none_behind}
use Rattle.tc_model.specs.Contents.{Contents, Rows, table}
use Rattle.tc_model.specs.Stores.{size_of}
use Rattle.tc_table.specs.Opening.{AreAllRows, rows_in}
use Rattle.tc_table.specs.Parts.{row_in}
use Rattle.tc_table.specs.Sides.{AreApart, IsAway, files as side_files}
use Rattle.td_row.specs.Spelling.{row_bytes}
use Rattle.tc_table.specs.Tables.{Holds}
use Rattle.tc_table.specs.Valued.{got_valued}
use Rattle.tc_table.specs.declared.side.Side.{Side}
use Rattle.tc_table.specs.declared.table.Table.{Table}
use Rattle.tc_table.proofs.Overs.{law}
use Rattle.tc_treedb.specs.Trees.{IsStore}
use Rattle.ty_base.specs.Holding.{KeepsLayout, StaysLaid, StaysUsable, layout_refl}
use Rattle.ty_base.specs.declared.errors.AnyErr.{AnyErr}
use Rattle.ty_base.specs.Opening.{Breaks, CanOpen, CreatesAs, DoStand, IsCreated, IsOpened, OpensFor, OpensTo, OpensUsable}
use Rattle.tc_tabledb.specs.declared.holding.TableEngine.{TableEngine}
use Rattle.tc_tabledb.specs.declared.shape.TableShape.{TableShape}
use Rattle.tc_tabledb.specs.Files.{AreEmpty, AreFilesOf, AreNone, HaveIndexes, IsIndexPlace, IsRowsFile, IsTableFile, Reopens, index_files}
use Rattle.tc_tabledb.specs.Filling.{nothing}
use Rattle.tc_tabledb.specs.Holding.{AllMade, AreDistinct, DecimalList, HoldsEngine, HoldsTable, LexicalList, indexes_of, names}
use Rattle.tc_tabledb.specs.Laying.{layout_of, main_layout, slack_of}
use Rattle.tc_tabledb.specs.Members.{AreTableStores}
use Rattle.tc_tabledb.specs.OneTable.{one_have}
use Rattle.tc_tabledb.specs.Opened.{AreFree, ArePlaces, BreaksSome, IsAmong, IsListed, OpensMain, OpensSides}
use Rattle.tc_tabledb.specs.Opening.{BreaksAs, BreaksFrom, BreaksNew, BreaksTable, in_index, unmade}
use Rattle.tc_tabledb.specs.Shapes.{IsNewIn, Lacks, LeavesNone, Shaped, anew, usual}
use Rattle.tc_tabledb.proofs.Laid.{some_lead, some_numbers, the_slack}
use Rattle.tc_tabledb.proofs.Lifting.{none_sized}
use Rattle.tc_tabledb.proofs.Made.{option_none}
use Rattle.tc_tabledb.proofs.Opened.{breaks_each}
use Rattle.tc_tabledb.proofs.Standing.{AllPlaces, In as InList, all_climb, all_places, climbs_apart, in_files}

-- ---- files of indexes that are empty

empty_still : (f g : Files) (fs : List ℕ) → AllPlaces fs → ((n : ℕ) → IsIndexPlace n → g n ≡ f n) → AreEmpty f fs → AreEmpty g fs
empty_still f g [] at same none = tt
empty_still f g (n ∷ ns) at same none = (same n at.0 ∙ none.0, empty_still f g ns at.1 same none.1)

pub all_empty : (f g : Files) → ((n : ℕ) → IsIndexPlace n → g n ≡ f n) → AreEmpty f index_files → AreEmpty g index_files
all_empty f g same none = empty_still f g index_files all_places same none

have_none : (files : Files) (fs : List ℕ) (seen : List (List ℕ)) (rows : Rows) → AreEmpty files fs → HaveIndexes rows files fs seen empty
have_none files [] seen rows none = refl
have_none files (f ∷ fs) seen rows none = inl (none.0, have_none files fs seen rows none.1)

none_slack : (files : Files) (fs : List ℕ) → AreEmpty files fs → slack_of files fs ≡ 0
none_slack files [] none = refl
none_slack files (f ∷ fs) none =
    let rest = none_slack files fs none.1 in
    let here : slack_in (files f) ≡ 0 = ap slack_in none.0 in
    omega (arith, rest, here)

in_empty : (files : Files) (fs : List ℕ) (f : ℕ) → AreEmpty files fs → InList f fs → files f ≡ []
in_empty files [] f none among = absurd among
in_empty files (g ∷ gs) f none among = ⊎_elim (λ (here : f ≡ g). ap files here ∙ none.0) (λ later. in_empty files gs f none.1 later) among

is_among_files : (f : ℕ) (fs : List ℕ) → InList f fs → IsAmong f fs
is_among_files f [] among = among
is_among_files f (g ∷ gs) among = ⊎_elim (λ (here : f ≡ g). inl here) (λ later. inr (is_among_files f gs later)) among

pub all_are_places : ArePlaces index_files
all_are_places = each index_files all_places
  where
    each : (fs : List ℕ) → AllPlaces fs → ArePlaces fs
    each [] at = tt
    each (f ∷ fs) at = (at.0, each fs at.1)

-- ---- no rows

none_at : (key : List ℕ) → get nothing key ≡ None
none_at key = get-empty (slice_cmp nat_cmp) key

abbrev no_rows : Rows
no_rows = empty

no_row : (key : List ℕ) → get no_rows key ≡ None
no_row key = get-empty (slice_cmp nat_cmp) key

all_rows : AreAllRows nothing
all_rows key bytes is = absurd (let bad : None ≡ Some bytes = sym (none_at key) ∙ is in cc)

rows_none : rows_in nothing ≡ no_rows
rows_none = same_map nat_list_cmp_total exact_bytes (rows_in nothing) no_rows (λ key. got_valued row_in nothing key ∙ (ap (option_map row_in) (none_at key) ∙ sym (no_row key)))

-- ---- layouts

no_more : (a b : ℕ) → a ≡ 0 → a ≤ b
no_more a b none = omega (arith, none)

usual_layout : (old new : Files) → old 0 ≡ [] → AreEmpty old index_files → AreEmpty new index_files → Shaped usual new → 1 ≤ length (new 0) → KeepsLayout (layout_of old) (layout_of new)
usual_layout old new none before after shaped some =
    let n = shaped.numbers in
    let head : Head = head_in (take 256 (new 0)) in
    let slack : ℕ = slack_of new (0 ∷ index_files) in
    subst (λ (bytes : List ℕ). KeepsLayout (main_layout bytes (slack_in bytes + slack_of old index_files)) (layout_of new)) (sym none)
    (record {
      numbers = record {
        same = some_numbers (new 0) slack some ∙ (λ i. option_none head.options n.options_most n.form i ∷ n.apow_is i ∷ n.fpow_is i ∷ n.buckets_is i ∷ []);
        lead = no_more (layout_of new).lead 0 (some_lead (new 0) slack some ∙ no_lead head n.behind n.least);
      };
      slack = no_more (layout_of new).slack (slack_in [] + slack_of old index_files) (the_slack (new 0) slack ∙ new_slack);
    })
  where
    main_slack : (bytes : List ℕ) → 1 ≤ length bytes → length bytes ≡ (head_in (take 256 bytes)).size → (head_in (take 256 bytes)).size ≡ (head_in (take 256 bytes)).first → slack_in bytes ≡ 0
    main_slack [] some long size = refl
    main_slack (b ∷ bytes) some long size =
        let behind = none_behind (length (b ∷ bytes)) (head_in (take 256 (b ∷ bytes))).size long in
        let h : Head = head_in (take 256 (b ∷ bytes)) in
        let free : free_end h (b ∷ bytes) ≡ 0 = ap (λ (n : ℕ). free_at_end n (width h) 0 (between h.first h.size (b ∷ bytes))) (none_behind h.size h.first size) in
        omega (arith, behind, free)

    new_slack : slack_of new (0 ∷ index_files) ≡ 0
    new_slack =
        let main = main_slack (new 0) some shaped.long shaped.numbers.size in
        let rest = none_slack new index_files after in
        omega (arith, main, rest)

-- ---- whatever it stands on

module _ {S : Type 0} (s : Ghosts S) where
  -- the files of indexes stay empty
  pub leaves_none : (a b : S) → (s.tells → AreEmpty (s.now a) index_files) → Others s (Only 0) a b → LeavesNone s a b
  leaves_none a b none others = record {
    before = none;
    after = λ t. all_empty (s.now a) (s.now b) (λ n at. others.same t n (λ (e : n ≡ 0). let low = at.0 in absurd (omega (arith, low, e)))) (none t);
  }

  pub lacks_sections : (a b : S) (shape : TableShape) → s.limit b ≡ s.limit a → (h : Head) × IsNewIn shape h × HasNoRoom (s.limit a 0) (s.log_full b) h.first → Lacks s b shape
  lacks_sections a b shape same full = record { head = full.0; new = full.1; passes = subst (λ (n : ℕ). HasNoRoom n (s.log_full b) full.0.first) (sym (ap (λ (f : ℕ → ℕ). f 0) same)) full.2 }

  pub made_opens : (kind : Kind) (files : Files) → kinds.Table ≡ kind → files 0 ≡ [] → AreEmpty files index_files → OpensTo kind Reopens files (table empty empty)
  made_opens kind files is main none = record { kind_is = is; stand = inl (record { main = main; indexes = none; is = refl }) }

  only_none : (files : Files) (c : Contents) → files 0 ≡ [] → Reopens files c → c ≡ table empty empty
  only_none files c none stand = ⊎_elim
      (λ (empties : AreNone files c). empties.is)
      (λ (are : AreFilesOf files c). absurd (let long : 256 ≤ length (files 0) = are.main.file.is.opens.long in let short : length (files 0) ≡ 0 = ap length none in omega (arith, long, short)))
      stand

  pub all_stand : {E : Type 0} (x : Result (TableEngine S) E) (kind : Kind) (a b : S) → kinds.Table ≡ kind → (s.tells → s.now a 0 ≡ []) → OnOk x (LeavesNone s a b) → OnOk x (CanOpen s Reopens kind a)
  all_stand (Ok e) kind a b is none empties = λ t. (table no_rows empty, made_opens kind (s.now a) is (none t) (empties.before t))
  all_stand (Err e) kind a b is none empties = tt

  -- where all files of a table are empty before they are made anew, they stood for no rows and no indexes
  pub none_stood : (a : S) → (s.tells → s.now a 0 ≡ []) → (s.tells → AreEmpty (s.now a) index_files) → DoStand s Reopens a
  none_stood a none empties = λ t. (table empty empty, inl (record { main = none t; indexes = empties t; is = refl }))

  pub all_stood : {E : Type 0} (x : Result (TableEngine S) E) (a b : S) → (s.tells → s.now a 0 ≡ []) → OnOk x (LeavesNone s a b) → OnOk x (DoStand s Reopens a)
  all_stood (Ok e) a b none empties = none_stood a none empties.before
  all_stood (Err e) a b none empties = tt

  pub read_laid : (a b : S) → (s.tells → (g : ℕ) → s.now b g ≡ s.now a g) → StaysLaid s layout_of a b
  read_laid a b same t = subst (λ (f : Files). KeepsLayout (layout_of (s.now a)) (layout_of f)) (λ i n. sym (same t n) i) (layout_refl (layout_of (s.now a)))

  -- ---- rules that are broken

  pub table_breaks : (kind : Kind) (a : S) (e : AnyErr) → kinds.Table ≡ kind → Breaks e (λ f rule. s.tells → BreaksTable (s.now a) f rule) → Breaks e (λ f rule. s.tells → BreaksAs kind (s.now a) f rule)
  table_breaks kind a e is breaks = subst (λ (k : Kind). Breaks e (λ f rule. s.tells → BreaksAs k (s.now a) f rule)) is breaks

  pub new_breaks : (kind : Kind) (a : S) (e : AnyErr) → kinds.Table ≡ kind → (s.tells → s.now a 0 ≡ []) → Breaks e (λ f rule. s.tells → BreaksNew (s.now a) f rule) → Breaks e (λ f rule. s.tells → BreaksAs kind (s.now a) f rule)
  new_breaks kind a e is none breaks = table_breaks kind a e is (breaks_each e (λ f rule. s.tells → BreaksNew (s.now a) f rule) (λ f rule. s.tells → BreaksTable (s.now a) f rule) (λ f rule new t. unmade f rule (none t) (new t)) breaks)

-- ---- made anew

module _ {S : Type 0} (s : Ghosts S) (r : Stores (Hash S) S) (l : multi.Ghosts (LexicalList S) S ByBytes) (d : multi.Ghosts (DecimalList S) S ByNumbers) where
  abbrev pub OneTable : Type 0
  OneTable = Table (Hash S) (LexicalList S) (DecimalList S)

  abbrev pub OneSide : Type 0
  OneSide = Side (LexicalList S) (DecimalList S)

  pub created_as : (store : IsStore s r) (e : TableEngine S) (h : Hash S) (shape : TableShape) (a b : S) → h.body.file ≡ 0 → IsNewIn shape h.body.head → Creates s 0 h a b → LeavesNone s a b → e.table.rows ≡ h → e.table.sides.items ≡ []
      → ((m : Map) → In s r.file_of r.holds h b m → AreAllRows m → Holds s r l d e.table b (rows_in m)) → e.total ≡ Some 0 → CreatesAs s Reopens (HoldsEngine r l d) Shaped e (anew shape) shape b
  created_as store e h shape a b at new creates empties rows_are none over total t =
      let brought = creates.brought t in
      let stands : StandsWith 3 (s.now b 0) nothing h.region = subst (λ (k : ℕ). StandsWith k (s.now b 0) nothing h.region) new.kind_is brought.stands in
      let head = creates.head t in
      record {
        holds = record {
          rows = no_rows;
          is = ap (λ (xs : List OneSide). table no_rows (indexes_of xs)) (sym none);
          held = ((law s r l d e.table b no_rows).0 (subst (λ (m : Rows). Holds s r l d e.table b m) rows_none (over nothing held all_rows))).1;
          main = ap r.file_of rows_are ∙ (store.file h ∙ at);
          sort = ap r.sort rows_are ∙ (store.sort h ∙ new.kind_is);
          made = subst (λ (xs : List OneSide). AllMade r l d xs) (sym none) tt;
          distinct = subst (λ (xs : List OneSide). AreDistinct (names xs)) (sym none) tt;
          rest = λ n place away. in_empty (s.now b) index_files n (empties.after t) (in_files n place);
          counted = subst (λ (o : Option ℕ). IfSome o (λ n. n ≡ size_of (table no_rows empty))) (sym total) (none_sized empty);
        };
        stand = inr (record {
          rows = no_rows;
          indexes = empty;
          is = refl;
          main = record {
            records = nothing;
            region = h.region;
            file = stands;
            spelled = λ key. none_at key ∙ sym (ap (option_map row_bytes) (no_row key));
            are = λ key row is. absurd (let bad : None ≡ Some row = sym (no_row key) ∙ is in cc);
          };
          have = have_none (s.now b) index_files [] no_rows (empties.after t);
        });
        some = λ none_left. absurd (let long : 256 ≤ length (s.now b 0) = stands.is.opens.long in let short : length (s.now b 0) ≡ 0 = ap length none_left in omega (arith, long, short));
        numbers = record {
          numbers = subst (λ (g : Head). IsNewIn shape g) (sym head) new;
          long = created_long h.body.head _ (s.now b 0) (creates.made t) brought.spells (sym brought.head ∙ head) stands.is.opens.long new.behind ∙ (sym new.size ∙ ap (λ (g : Head). g.size) (sym head));
        };
      }
    where
      held : In s r.file_of r.holds h b nothing
      held = (t, subst (λ (n : ℕ). r.holds h (s.now b n) nothing) (sym (store.file h ∙ at)) (store.from h (s.now b 0) nothing (creates.held t)))

  -- ---- an opening that made it

  made_opened : (e : TableEngine S) (kind : Kind) (a b : S) → s.now a 0 ≡ [] → IsCreated (HoldsEngine r l d) Reopens Shaped e (anew usual) usual (s.now b) → (c : Contents) → OpensTo kind Reopens (s.now a) c → IsOpened (HoldsEngine r l d) Reopens e (s.now b) c
  made_opened e kind a b none created c opens = subst (λ (x : Contents). IsOpened (HoldsEngine r l d) Reopens e (s.now b) x) (sym (only_none s (s.now a) c none opens.stand)) (record { holds = created.holds; stand = created.stand })

  pub all_opened : {E : Type 0} (x : Result (TableEngine S) E) (kind : Kind) (a b : S) → (s.tells → s.now a 0 ≡ []) → IfOk x (λ e. CreatesAs s Reopens (HoldsEngine r l d) Shaped e (anew usual) usual b) → IfOk x (λ e. OpensFor s Reopens (HoldsEngine r l d) kind e a b)
  all_opened (Ok e) kind a b none created = λ t. made_opened e kind a b (none t) (created t)
  all_opened (Err e) kind a b none created = tt

  pub made_usual : {E : Type 0} (x : Result (TableEngine S) E) (a b : S) → IfOk x (λ e. CreatesAs s Reopens (HoldsEngine r l d) Shaped e (anew usual) usual b) → OnOk x (StaysUsable s IsTableFile a b) → OnOk x (OpensUsable s IsTableFile (Shaped usual) a b)
  made_usual (Ok e) a b created usable = record { sound = usable.sound; others = usable.others; made = λ t none. (created t).numbers }
  made_usual (Err e) a b created usable = tt

  pub made_laid : {E : Type 0} (x : Result (TableEngine S) E) (a b : S) → (s.tells → s.now a 0 ≡ []) → IfOk x (λ e. CreatesAs s Reopens (HoldsEngine r l d) Shaped e (anew usual) usual b) → OnOk x (LeavesNone s a b) → OnOk x (StaysLaid s layout_of a b)
  made_laid (Ok e) a b none created empties = λ t. usual_layout (s.now a) (s.now b) (none t) (empties.before t) (empties.after t) (created t).numbers (some_bytes (s.now b 0) (created t).some)
    where
      some_bytes : (bytes : List ℕ) → (bytes ≡ [] → ⊥) → 1 ≤ length bytes
      some_bytes [] some = absurd (some refl)
      some_bytes (x ∷ bytes) some = omega arith
  made_laid (Err e) a b none created empties = tt

  -- ---- an opening that read them

  pub rows_listed : (t : OneTable) (ks xs : List (List ℕ)) (a b : S) → OnlyReads s a b → OpensMain s r l d t ks a b → xs ≡ ks → IsListed s r l d t xs b
  rows_listed t ks xs a b reads main same = record {
    file = main.file;
    sound = reads.is_sound;
    held = λ told. let rows = main.some told in let x = main.holds told rows.0 rows.1 in (rows.0, x.0, same ∙ x.1);
  }

  module _ (t : OneTable) (ks : List (List ℕ)) (a b : S) (first : s.tells → (g : ℕ) → s.now b g ≡ s.now a g) (main : OpensMain s r l d t ks a b) where
    pub files_break : (f : ℕ) (rule : Rule) → s.tells → BreaksSome s r l d index_files f t b rule → BreaksTable (s.now a) f rule
    files_break f rule told breaks =
        let rows = main.some told in
        in_index rows.0 f rule rows.1
        (subst (λ (seen : List (List ℕ)). BreaksFrom rows.0 (s.now a) index_files seen f rule) (ap (λ (xs : List OneSide). names xs) main.none)
        (subst (λ (g : Files). BreaksFrom rows.0 g index_files (names t.sides.items) f rule) (λ i n. first told n i) (breaks.breaks rows.0 (main.holds told rows.0 rows.1).0)))

    pub sides_break : (e : AnyErr) → Breaks e (λ f rule. s.tells → BreaksSome s r l d index_files f t b rule) → Breaks e (λ f rule. s.tells → BreaksTable (s.now a) f rule)
    sides_break e breaks = breaks_each e (λ f rule. s.tells → BreaksSome s r l d index_files f t b rule) (λ f rule. s.tells → BreaksTable (s.now a) f rule) (λ f rule some told. files_break f rule told (some told)) breaks

    module _ (u : OneTable) (c : S) (second : s.tells → (g : ℕ) → s.now c g ≡ s.now b g) (opens : OpensSides s r l d index_files t u b c) where
      all_have : (told : s.tells) (rows : Rows) → IsRowsFile (s.now a 0) rows → HaveIndexes rows (s.now a) index_files [] (indexes_of opens.more)
      all_have told rows is =
          subst (λ (seen : List (List ℕ)). HaveIndexes rows (s.now a) index_files seen (indexes_of opens.more)) (ap (λ (xs : List OneSide). names xs) main.none)
          (subst (λ (f : Files). HaveIndexes rows f index_files (names t.sides.items) (indexes_of opens.more)) (λ i n. first told n i) (opens.have rows (main.holds told rows is).0))

      pub files_stand : (kind : Kind) → kinds.Table ≡ kind → CanOpen s Reopens kind a
      files_stand kind is told =
          let rows = main.some told in (
            table rows.0 (indexes_of opens.more),
            record { kind_is = is; stand = inr (record { rows = rows.0; indexes = indexes_of opens.more; is = refl; main = rows.1; have = all_have told rows.0 rows.1 }) },
          )

      pub files_opened : (e : TableEngine S) (kind : Kind) → e.table ≡ u → e.total ≡ None → (s.tells → s.now a 0 ≡ [] → ⊥) → OpensFor s Reopens (HoldsEngine r l d) kind e a c
      files_opened e kind is total some told x to = ⊎_elim
          (λ (none : AreNone (s.now a) x). absurd (some told none.main))
          (λ (are : AreFilesOf (s.now a) x). record { holds = subst (λ (v : OneTable). HoldsTable r l d v e.total (s.now c) x) (sym is) (held are); stand = inr (subst (λ (f : Files). AreFilesOf f x) (λ i n. sym (second told n ∙ first told n) i) are) })
          to.stand
        where
          items : u.sides.items ≡ opens.more
          items = opens.parted ∙ ap (λ (xs : List OneSide). xs ++ opens.more) main.none

          held : (are : AreFilesOf (s.now a) x) → HoldsTable r l d u e.total (s.now c) x
          held are = record {
            rows = are.rows;
            is = are.is ∙ ap (table are.rows) (one_have are.rows (s.now a) index_files [] are.indexes (indexes_of opens.more) are.have (all_have told are.rows are.main) ∙ ap (λ (xs : List OneSide). indexes_of xs) (sym items));
            held = ((law s r l d u c are.rows).0 (opens.holds are.rows (main.holds told are.rows are.main).0)).1;
            main = opens.rows.file ∙ main.file;
            sort = opens.rows.sort ∙ main.sort;
            made = subst (λ (xs : List OneSide). AllMade r l d xs) (sym items) (opens.made told);
            distinct = opens.distinct told (subst (λ (xs : List OneSide). AreDistinct (names xs)) (sym main.none) tt);
            rest = λ n place away. second told n ∙ opens.rest told n (is_among_files n index_files (in_files n place)) (subst (λ (xs : List OneSide). IsAway n (side_files l d xs)) items away);
            counted = subst (λ (o : Option ℕ). IfSome o (λ n. n ≡ size_of x)) (sym total) tt;
          }

-- ---- the files of indexes are free where there are none

module _ {S OL OD : Type 0} (s : Ghosts S) (r : Stores (Hash S) S) (ol : Orders OL) (od : Orders OD) (l : multi.Ghosts (Btree (Hash S) OL) S OL) (d : multi.Ghosts (Btree (Hash S) OD) S OD) (stores : AreTableStores s r ol od l d) where
  all_free : (fs : List ℕ) → AreApart fs → AreFree l d [] fs
  all_free [] apart = tt
  all_free (f ∷ fs) apart = (tt, (apart.0, all_free fs apart.1))

  pub none_free : (xs : List (Side (Btree (Hash S) OL) (Btree (Hash S) OD))) → xs ≡ [] → AreFree l d xs index_files
  none_free xs none = subst (λ (ys : List (Side (Btree (Hash S) OL) (Btree (Hash S) OD))). AreFree l d ys index_files) (sym none) (all_free index_files (climbs_apart index_files 3 all_climb))
