-- An index that is made anew and filled.
use Rattle.std.proofs.Common.{◌≡◌, ◌∙◌, ◌⊎◌, inl, inr, ⊎_elim, ℕ, ◌≤◌, Bool, true, false, cond, List, [], ◌∷◌, ◌++◌, Option, Some, None, refl, sym, ap, subst, arith}
use Rattle.std.specs.Prelude.{◌≢◌, ◌||◌, IfSome}
use Rattle.std.specs.FinMap.{empty, get, insert}
use Rattle.std.proofs.lemmas.Bool.{or_parts}
use Rattle.std.proofs.lemmas.List.{append-nil}
use Rattle.tc_base.specs.Files.{Files}
use Rattle.tc_base.specs.Texts.{is_text}
use Rattle.tc_base.specs.declared.order.Decimal.{Decimal as ByNumbers}
use Rattle.tc_base.specs.declared.order.Lexical.{Lexical as ByBytes}
use Rattle.tc_base.specs.declared.order.Order.{Ghosts as Orders}
use Rattle.tc_space.specs.Frames.{Others}
use Rattle.tc_space.specs.Stores.{IsReady, Only}
use Rattle.tc_space.specs.declared.multi.Multi as multi
use Rattle.tc_space.specs.declared.records.Records.{Ghosts as Stores}
use Rattle.tc_space.specs.declared.space.Space.{Ghosts}
use Rattle.tc_hash.specs.Creating.{IsEmptyIn}
use Rattle.tc_hash.specs.declared.hash.Hash.{Hash}
use Rattle.tc_engine.specs.Effects as effects
use Rattle.tc_model.specs.Contents.{Contents, Indexes, Rows, table}
use Rattle.tc_model.specs.Rows.{Row}
use Rattle.tc_model.specs.Stores.{size_of}
use Rattle.tc_model.specs.Texts.{is_among}
use Rattle.tc_model.specs.declared.query.IndexKind.{IndexKind}
use Rattle.td_index.specs.Entries.{Firsts, has_zero, times}
use Rattle.td_index.proofs.Counting.{text_refl}
use Rattle.tc_table.specs.Adding.{Adds, FullFill, IsApart}
use Rattle.tc_table.specs.Full.{TreeFull}
use Rattle.tc_table.specs.Parts.{column_in, parts_of, parts_of_row}
use Rattle.tc_table.specs.Sides.{IsAway, TreeStands, asks_decimal, files, is_decimal, name_of, tree_file, tree_made}
use Rattle.tc_table.specs.Tables.{Holds, files_of}
use Rattle.tc_table.specs.Wholes.{once_value}
use Rattle.tc_table.specs.declared.side.Side.{Side}
use Rattle.tc_table.specs.declared.side.Sorted.{Sorted}
use Rattle.tc_table.specs.declared.side.Sorted.TheVariants.{Lexical, Decimal}
use Rattle.tc_table.specs.declared.table.Table.{Table}
use Rattle.tc_table.proofs.Naming.{whole_parts}
use Rattle.tc_table.proofs.Overs.{law}
use Rattle.tc_table.proofs.Turning.{all_still, files_stay}
use Rattle.ty_base.specs.Holding as base
use Rattle.tc_tabledb.specs.declared.holding.TableEngine.{TableEngine}
use Rattle.tc_tabledb.specs.Files.{IsIndexPlace, IsTableFile, column_bytes}
use Rattle.tc_tabledb.specs.Filling.{Fills, given, given_as, is_same}
use Rattle.tc_tabledb.specs.Holding.{AllMade, AreDistinct, DecimalList, HoldsEngine, HoldsTable, IsMade, LeavesRest, LexicalList, indexes_of, names}
use Rattle.tc_tabledb.specs.Indexing.{FullAdded, IsFreePlace, LacksSide, MakesSide, added, kind_at}
use Rattle.tc_tabledb.specs.Laying.{layout_of}
use Rattle.tc_tabledb.specs.Members.{AreTableStores}
use Rattle.tc_tabledb.proofs.Chosen.{same_only}
use Rattle.tc_tabledb.proofs.Filled.{FillsSide}
use Rattle.tc_tabledb.proofs.Laid.{bytes_stay}
use Rattle.tc_tabledb.proofs.Lifting.{made_still, rows_held, same_indexes, same_made, same_names}
use Rattle.tc_tabledb.proofs.Limits.{fills_given, given_is, name_here, turned_text, turns_full}
use Rattle.tc_tabledb.proofs.Standing.{index_out}

-- nothing of any row
abbrev pub none_first : Firsts
none_first k = []

-- ---- a column that has none

given_other : (kind : IndexKind) (rows : Rows) (name : List ℕ) (o : Option IndexKind) → (o ≡ Some kind → ⊥) → (k : List ℕ) → given_as rows kind name o k ≡ []
given_other kind rows name None not k = refl
given_other kind rows name (Some other) not k = go (is_same other kind) refl
  where
    go : (t : Bool) → is_same other kind ≡ t → cond t (parts_of kind name rows k) [] ≡ []
    go true same = absurd (not (ap (λ (x : IndexKind). Some x) (same_only other kind same)))
    go false different = refl

none_at : {L D : Type 0} (name : List ℕ) (xs : List (Side L D)) → kind_at name xs ≡ None → is_among name (names xs) ≡ false
none_at name [] none = refl
none_at name (x ∷ xs) none = go (is_text (name_of x.tree) name) refl none (none_at name xs)
  where
    go : (t : Bool) → is_text (name_of x.tree) name ≡ t → cond t (Some x.kind) (kind_at name xs) ≡ None → (kind_at name xs ≡ None → is_among name (names xs) ≡ false) → is_among name (names (x ∷ xs)) ≡ false
    go true same e rest = absurd (let bad : Some x.kind ≡ None = e in cc)
    go false other e rest = ap (λ (t : Bool). t || is_among name (names xs)) (turned_text (name_of x.tree) name other) ∙ rest e

push_among : {L D : Type 0} (n : List ℕ) (x : Side L D) (xs : List (Side L D)) → is_among n (names xs) ≡ false → is_text n (name_of x.tree) ≡ false → is_among n (names (xs ++ x ∷ [])) ≡ false
push_among n x [] none other = ap (λ (t : Bool). t || false) other
push_among n x (y ∷ xs) none other =
    let both = or_parts (is_text n (name_of y.tree)) (is_among n (names xs)) none in
    ap (λ (t : Bool). t || is_among n (names (xs ++ x ∷ []))) both.0 ∙ push_among n x xs both.1 other

-- one more name that is new
pub distinct_push : {L D : Type 0} (xs : List (Side L D)) (x : Side L D) → AreDistinct (names xs) → is_among (name_of x.tree) (names xs) ≡ false → AreDistinct (names (xs ++ x ∷ []))
distinct_push [] x distinct none = (refl, tt)
distinct_push (y ∷ xs) x distinct none =
    let both = or_parts (is_text (name_of x.tree) (name_of y.tree)) (is_among (name_of x.tree) (names xs)) none in
    (push_among (name_of y.tree) x xs distinct.0 (turned_text (name_of x.tree) (name_of y.tree) both.0), distinct_push xs x distinct.1 both.1)

module _ {S : Type 0} (s : Ghosts S) (r : Stores (Hash S) S) (ol : Orders ByBytes) (od : Orders ByNumbers) (l : multi.Ghosts (LexicalList S) S ByBytes) (d : multi.Ghosts (DecimalList S) S ByNumbers) (stores : AreTableStores s r ol od l d) where
  abbrev pub OneSide : Type 0
  OneSide = Side (LexicalList S) (DecimalList S)

  abbrev pub OneTable : Type 0
  OneTable = Table (Hash S) (LexicalList S) (DecimalList S)

  made_push : (xs : List OneSide) (x : OneSide) → AllMade r l d xs → IsMade r l d x → AllMade r l d (xs ++ x ∷ [])
  made_push [] x made own = (own, tt)
  made_push (y ∷ xs) x made own = (made.0, made_push xs x made.1 own)

  pub free_here : (file : ℕ) (xs ys : List OneSide) → xs ≡ ys → IsFreePlace l d xs file → IsAway file (files l d ys)
  free_here file xs ys same free = subst (λ (zs : List OneSide). IsAway file (files l d zs)) same free

  away_front : (n : ℕ) (xs : List OneSide) (x : OneSide) → IsAway n (files l d (xs ++ x ∷ [])) → IsAway n (files l d xs) × (n ≢ tree_file l d x.tree)
  away_front n [] x away = (tt, away.0)
  away_front n (y ∷ xs) x away = let rest = away_front n xs x away.1 in ((away.0, rest.0), rest.1)

  -- a table holds what it held where a file that isn't its own was written
  pub still_held : (t : OneTable) (file : ℕ) (a b : S) (rows : Rows) → IsAway file (files_of r l d t) → Others s (Only file) a b → Holds s r l d t a rows → Holds s r l d t b rows
  still_held t file a b rows away others h = record {
    store = h.store;
    held = (h.held.0, subst (λ (bytes : List ℕ). r.holds t.rows bytes h.store) (sym (others.same h.held.0 (r.file_of t.rows) (λ e. away.0 (sym e)))) h.held.1);
    spelled = h.spelled;
    are = h.are;
    apart = h.apart;
    indexes = all_still s l d file t.sides.items a b rows away.1 others h.indexes;
  }

  -- an index of a new column came in
  pub added_up : (kind : IndexKind) (name : List ℕ) (x : OneSide) (t t' : OneTable) (total : Option ℕ) (f : Files) (c : Contents) (b e : S) → s.tells → (h : HoldsTable r l d t total f c) → kind_at name t.sides.items ≡ None → x.kind ≡ kind → name_of x.tree ≡ name → IsMade r l d x → Adds s r l d x t t' b e
      → ((rows : Rows) → Holds s r l d t b rows → Holds s r l d t' e rows) → Holds s r l d t b h.rows → ((n : ℕ) → (n ≡ tree_file l d x.tree → ⊥) → s.now e n ≡ f n)
      → (g : Contents) × (added name kind c ≡ Some g) × HoldsTable r l d t' total (s.now e) g
  added_up kind name x t t' total f c b e tells h none kind_is name_is made adds means held same = (
    table h.rows (indexes_of t'.sides.items),
    ap (added name kind) h.is ∙ ap (λ (i : Indexes). Some (table h.rows i)) (sym indexes_are),
    record {
      rows = h.rows;
      is = refl;
      held = ((law s r l d t' e h.rows).0 (means h.rows held)).1;
      main = adds.rows.file ∙ h.main;
      sort = adds.rows.sort ∙ h.sort;
      made = subst (AllMade r l d) (sym adds.parted) (made_push adds.front adds.side (same_made s l d r t.sides.items adds.front adds.stay h.made) (made_still s l d r x adds.side adds.stays made));
      distinct = subst (λ (xs : List OneSide). AreDistinct (names xs)) (sym adds.parted) distinct;
      rest = rest_now;
      counted = subst (λ (o : Contents). IfSome total (λ n. n ≡ size_of o)) h.is h.counted;
    },
  )
    where
      own_name : name_of adds.side.tree ≡ name
      own_name = adds.stays.tree.name ∙ name_is

      new : is_among (name_of adds.side.tree) (names adds.front) ≡ false
      new = subst (λ (n : List ℕ). is_among n (names adds.front) ≡ false) (sym own_name) (ap (is_among name) (same_names s l d t.sides.items adds.front adds.stay) ∙ none_at name t.sides.items none)

      distinct : AreDistinct (names (adds.front ++ adds.side ∷ []))
      distinct = distinct_push adds.front adds.side (subst AreDistinct (sym (same_names s l d t.sides.items adds.front adds.stay)) h.distinct) new

      no_files : Files
      no_files n = []

      no_rows : Rows
      no_rows = empty

      indexes_are : indexes_of t'.sides.items ≡ insert (indexes_of t.sides.items) name kind
      indexes_are =
          ap indexes_of adds.parted
          ∙ (index_out s r ol od l d stores no_files no_rows adds.front adds.side [] distinct
          ∙ ((λ i. insert (indexes_of (append-nil adds.front i)) (own_name i) ((adds.stays.kind ∙ kind_is) i))
          ∙ ap (λ (m : Indexes). insert m name kind) (same_indexes s l d t.sides.items adds.front adds.stay)))

      rest_now : LeavesRest r l d t'.sides.items (s.now e)
      rest_now n at away =
          let far = away_front n adds.front adds.side (subst (λ (xs : List OneSide). IsAway n (files l d xs)) adds.parted away) in
          same n (λ is. far.1 (is ∙ sym adds.stays.tree.file)) ∙ h.rest n at (subst (IsAway n) (files_stay s l d t.sides.items adds.front adds.stay) far.0)

  -- ---- where it has no room for the parts of a row

  abbrev pub FillsFile : ℕ → S → IndexKind → List ℕ → Firsts → Firsts → Type 0
  FillsFile file now kind name before after = FillsSide (s.limit now file) (s.log_full now) (s.brought now) (s.now now file) kind name before after

  tree_fills : (kind : IndexKind) (x : Sorted (LexicalList S) (DecimalList S)) (rows taken : Rows) (key : List ℕ) (row : Row) (at now : S) → s.tells → is_decimal x ≡ asks_decimal kind → (tree_made l d x).column ≡ Some (column_bytes kind (name_of x)) → get rows key ≡ Some row → get taken key ≡ None
      → ((k v : List ℕ) → is_text k key ≡ false → (times v (parts_of kind (name_of x) taken k) ≡ 0) ⊎ (times v (parts_of kind (name_of x) taken k) ≡ times v (parts_of kind (name_of x) rows k))) → ((v : List ℕ) → 1 ≤ times v (parts_of_row kind (name_of x) (Some row)) → has_zero v ≡ false)
      → TreeStands s l d x at (parts_of kind (name_of x) taken) → TreeFull s l d ol.cmp od.cmp key [] (parts_of_row kind (name_of x) (Some row)) x at now → FillsFile (tree_file l d x) now kind (name_of x) none_first (parts_of kind (name_of x) rows)
  tree_fills kind (Lexical i) rows taken key row at now tells fits column had none others whole st full =
      turns_full s r stores.store ol false l stores.lexical kind i.name fits (l.file_of i.tree) at now tells none_first (parts_of kind i.name rows) (parts_of kind i.name taken) key [] (parts_of_row kind i.name (Some row)) refl (ap (parts_of_row kind i.name) had) (ap (parts_of_row kind i.name) none) others
      (λ v. omega arith) (λ v. once_value kind (column_in i.name (Some row)) v) (λ v some. absurd (omega (arith, some))) whole i.tree (record { file_is = refl; column_is = column }) st full
  tree_fills kind (Decimal i) rows taken key row at now tells fits column had none others whole st full =
      turns_full s r stores.store od true d stores.decimal kind i.name fits (d.file_of i.tree) at now tells none_first (parts_of kind i.name rows) (parts_of kind i.name taken) key [] (parts_of_row kind i.name (Some row)) refl (ap (parts_of_row kind i.name) had) (ap (parts_of_row kind i.name) none) others
      (λ v. omega arith) (λ v. once_value kind (column_in i.name (Some row)) v) (λ v some. absurd (omega (arith, some))) whole i.tree (record { file_is = refl; column_is = column }) st full

  -- from contents that have no index of that column and type to those that have it
  module _ (i j : Indexes) (rows : Rows) (name : List ℕ) (kind : IndexKind) (not : get i name ≡ Some kind → ⊥) where
    has_now : get (insert j name kind) name ≡ Some kind
    has_now = name_here j name kind name ∙ ap (λ (b : Bool). cond b (Some kind) (get j name)) (text_refl name)

    given_none : given (table rows i) kind name ≡ none_first
    given_none = λ x k. given_other kind rows name (get i name) not k x

    -- its file has no room for the parts of a row
    pub fills_new : (file : ℕ) → IsIndexPlace file → (now : S) → FillsFile file now kind name none_first (parts_of kind name rows) → Fills s now (table rows i) (table rows (insert j name kind))
    fills_new file at now fills = ⊎_elim
        (λ log. inl log)
        (λ wants. inr (inr (
          wants.0,
          inr (record {
            file = file;
            place = at;
            kind = kind;
            name = name;
            some = inr has_now;
            lacks = ⊎_elim (λ page. inl page) (λ rest. inr (⊎_elim (λ ids. inl ids) (λ bare. inr (inl bare)) rest)) wants.1;
          }),
        )))
        as_given.ends
      where
        as_given : FillsFile file now kind name (given (table rows i) kind name) (given (table rows (insert j name kind)) kind name)
        as_given =
            subst (λ (f : Firsts). FillsFile file now kind name f (given (table rows (insert j name kind)) kind name)) (sym given_none)
            (subst (λ (f : Firsts). FillsFile file now kind name none_first f) (sym (given_is (insert j name kind) kind name has_now rows)) fills)

    -- or for what is written first
    pub lacks_new : (file : ℕ) → IsIndexPlace file → (now : S) → LacksSide s file kind name now → Fills s now (table rows i) (table rows (insert j name kind))
    lacks_new file at now lacks = ⊎_elim
        (λ log. inl log)
        (λ rest. inr (⊎_elim
        (λ sections. inl (record { file = file; place = at; kind = kind; name = name; new = not; has = has_now; head = sections.0; is_new = sections.1; passes = sections.2 }))
        (λ first. inr (
          first.0,
          inr (record {
            file = file;
            place = at;
            kind = kind;
            name = name;
            some = inr has_now;
            lacks = inr (inr (inr (record { new = not; has = has_now; lacks = first.1 })));
          }),
        ))
        rest))
        lacks

  -- a limit that was met while it was filled
  pub added_fills : (kind : IndexKind) (name : List ℕ) (x : OneSide) (t : OneTable) (b e : S) (rows : Rows) → s.tells → x.kind ≡ kind → name_of x.tree ≡ name → IsMade r l d x → Holds s r l d t b rows → FullFill s r l d ol.cmp od.cmp x t b e
      → (i j : Indexes) → (get i name ≡ Some kind → ⊥) → Fills s e (table rows i) (table rows (insert j name kind))
  added_fills kind name x t b e rows tells kind_is name_is made h full i j not =
      let all_are = full.met.are rows h in
      let begun : Holds s r l d full.met.table full.met.begun rows = full.met.reads.means rows h in
      let met = full.met.met in
      let side : OneSide = met.side in
      let own : IsMade r l d side = made_still s l d r x side met.like made in
      let those = met.some rows all_are begun in
      let had = met.had rows all_are begun in
      let absent : get those.taken met.key ≡ None = those.are met.key ∙ ap (λ (b : Bool). cond b (get rows met.key) None) (met.fresh rows all_are) in
      let own_kind : side.kind ≡ kind = met.like.kind ∙ kind_is in
      let own_name : name_of side.tree ≡ name = met.like.tree.name ∙ name_is in
      let fills = tree_fills side.kind side.tree rows those.taken met.key met.row met.moment full.refused tells those.stands.fits own.column had absent
      (λ k v other. others side.kind (name_of side.tree) those.taken (is_among k met.front) k v (those.are k))
      (λ v some. whole_parts side.kind (name_of side.tree) rows h.are met.key v (subst (λ (o : Option Row). 1 ≤ times v (parts_of_row side.kind (name_of side.tree) o)) (sym had) some))
      those.stands.stands met.full in
      fills_given s r ol od l d stores full.refused e (table rows i) (table rows (insert j name kind)) tells full.given_up
      (fills_new i j rows name kind not (tree_file l d side.tree) own.file full.refused
      (subst (λ (n : List ℕ). FillsFile (tree_file l d side.tree) full.refused kind n none_first (parts_of kind n rows)) own_name
      (subst (λ (k : IndexKind). FillsFile (tree_file l d side.tree) full.refused k (name_of side.tree) none_first (parts_of k (name_of side.tree) rows)) own_kind fills)))
    where
      others : (k : IndexKind) (n : List ℕ) (taken : Rows) (b : Bool) (q v : List ℕ) → get taken q ≡ cond b (get rows q) None → (times v (parts_of k n taken q) ≡ 0) ⊎ (times v (parts_of k n taken q) ≡ times v (parts_of k n rows q))
      others k n taken true q v are = inr (ap (λ (o : Option Row). times v (parts_of_row k n o)) are)
      others k n taken false q v are = inl (ap (λ (o : Option Row). times v (parts_of_row k n o)) are)

  -- ---- over an engine

  abbrev pub Engine : Type 0
  Engine = TableEngine S

  abbrev pub Held : Engine → S → Contents → Type 0
  Held e a c = base.Held s (HoldsEngine r l d) e a c

  abbrev rows_of : Contents → Rows
  rows_of (table rows indexes) = rows
  rows_of c = empty

  -- a file that no index has is empty
  pub place_empty : (file : ℕ) (e : Engine) (a : S) → base.IsReady s (HoldsEngine r l d) e a → IsIndexPlace file → IsAway file (files l d e.table.sides.items) → IsEmptyIn s a file
  place_empty file e a ready place free = record {
    sound = ready.sound;
    data_file = let low = place.0 in inr (omega (arith, low), place.1);
    none = λ t. let h = ready.held t in h.1.rest file place free;
  }

  -- the file of an index was free, and an index of nothing was made in it
  module _ (kind : IndexKind) (name : List ℕ) (file : ℕ) (x : OneSide) (e : Engine) (a b : S) (place : IsIndexPlace file) (free : IsAway file (files l d e.table.sides.items)) (made : MakesSide s r l d file kind name x a b) where
    away : (c : Contents) → Held e a c → IsAway file (files_of r l d e.table)
    away c h = ((λ (same : file ≡ r.file_of e.table.rows). let low = place.0 in let main = h.1.main in absurd (omega (arith, same, low, main))), free)

    pub side_away : base.IsReady s (HoldsEngine r l d) e a → IsApart s r l d x e.table
    side_away ready t = let h = ready.held t in subst (λ (n : ℕ). IsAway n (files_of r l d e.table)) (sym made.file_is) (away h.0 (t, h.1))

    now_held : (c : Contents) (h : Held e a c) → Holds s r l d e.table b h.1.rows
    now_held c h = still_held e.table file a b h.1.rows (away c h) made.others (rows_held s r l d e a c h)

    pub side_ready : base.IsReady s (HoldsEngine r l d) e a → IsReady s (Holds s r l d) e.table b
    side_ready ready = record { sound = made.sound; held = λ t. let h = ready.held t in (h.1.rows, now_held h.0 (t, h.1)) }

    -- it was filled
    pub side_added : (t : OneTable) (c : S) → (s.tells → kind_at name e.table.sides.items ≡ None) → Adds s r l d x e.table t b c → effects.Makes s IsTableFile layout_of (HoldsEngine r l d) (added name kind) true e (record e { table = t }) a c
    side_added t c none adds = record {
      sound = adds.sound;
      others = record { same = λ told n other. still told n (λ (same : n ≡ file). other (inr (subst IsIndexPlace (sym same) place))) };
      numbered = λ y h. bytes_stay (s.now a 0) (s.now c 0) _ _ (still h.0 0 (λ (same : 0 ≡ file). let low = place.0 in absurd (omega (arith, low, same))));
      made = λ done y h.
          let z = added_up kind name x e.table t e.total (s.now a) y b c h.0 h.1 (none h.0) made.kind_is made.name_is (made.made h.0) adds adds.means (now_held y h) (λ n other. still h.0 n (λ (same : n ≡ file). other (same ∙ sym made.file_is))) in
          (z.0, z.1, (h.0, z.2));
      fails = λ not. absurd (let y : true ≡ false = not in cc);
      same = λ not. absurd (let y : true ≡ false = not in cc);
    }
      where
        still : s.tells → (n : ℕ) → (n ≡ file → ⊥) → s.now c n ≡ s.now a n
        still told n other = adds.others.same told n (λ (same : n ≡ tree_file l d x.tree). other (same ∙ made.file_is)) ∙ made.others.same told n other

    -- there was no room for its parts of the rows
    pub side_full : (c : S) → FullFill s r l d ol.cmp od.cmp x e.table b c → base.OfHeld s (HoldsEngine r l d) e a (FullAdded s name kind c)
    side_full c full y h rows indexes is i not =
        let same : h.1.rows ≡ rows = ap rows_of (sym h.1.is ∙ is) in
        added_fills kind name x e.table b c rows h.0 made.kind_is made.name_is (made.made h.0) (subst (λ (m : Rows). Holds s r l d e.table b m) same (now_held y h)) full i indexes not

  -- or for what is written first
  pub place_full : (kind : IndexKind) (name : List ℕ) (file : ℕ) (e : Engine) (a b : S) → IsIndexPlace file → (s.tells → LacksSide s file kind name b) → base.OfHeld s (HoldsEngine r l d) e a (FullAdded s name kind b)
  place_full kind name file e a b place lacks y h rows indexes is i not = lacks_new i indexes rows name kind not file place b (lacks h.0)
