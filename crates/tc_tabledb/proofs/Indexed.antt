-- An index that is taken away.
use Rattle.std.proofs.Common.{◌≡◌, ◌∙◌, ◌⊎◌, inl, inr, ⊎_elim, ℕ, Bool, true, false, cond, List, [], ◌∷◌, ◌++◌, length, Option, Some, None, refl, sym, ap, subst, arith}
use Rattle.std.specs.Prelude.{◌≢◌, ◌||◌, suc, IfSome, is_some, option_map}
use Rattle.std.specs.Cmp.Lexicographic.{nat_list_cmp_total, slice_cmp, texts_ties}
use Rattle.std.specs.FinMap.{empty, get, get-empty, get-remove, remove, same_map}
use Rattle.std.specs.Ordering.{nat_cmp}
use Rattle.std.proofs.lemmas.Bool.{cases_eq, or_parts}
use Rattle.std.proofs.lemmas.Map.Lookups.{exact_bytes}
use Rattle.tc_base.specs.Files.{Files}
use Rattle.tc_base.specs.Texts.{is_text}
use Rattle.tc_base.specs.declared.order.Decimal.{Decimal as ByNumbers}
use Rattle.tc_base.specs.declared.order.Lexical.{Lexical as ByBytes}
use Rattle.tc_base.specs.declared.order.Order.{Ghosts as Orders}
use Rattle.tc_space.specs.Effects.{Changes}
use Rattle.tc_space.specs.Frames.{Reads, others_refl, reads_refl}
use Rattle.tc_space.specs.declared.multi.Multi as multi
use Rattle.tc_space.specs.declared.records.Records.{Ghosts as Stores}
use Rattle.tc_space.specs.declared.space.Space.{Ghosts}
use Rattle.tc_hash.specs.declared.hash.Hash.{Hash}
use Rattle.tc_engine.specs.Changes.{Change}
use Rattle.tc_engine.specs.Effects as effects
use Rattle.tc_model.specs.Contents.{Contents, Indexes, Rows, table}
use Rattle.tc_model.specs.Stores.{size_of}
use Rattle.tc_model.specs.Texts.{is_among}
use Rattle.tc_model.specs.declared.query.IndexKind.{IndexKind}
use Rattle.td_index.proofs.Counting.{text_is}
use Rattle.td_plan.specs.Choices.{NoneBefore}
use Rattle.tc_table.specs.Adding.{HasNone, Removes, is_of}
use Rattle.tc_table.specs.Over.{AllOver}
use Rattle.tc_table.specs.Sides.{AreApart, IsAway, files, name_of, tree_file}
use Rattle.tc_table.specs.Tables.{files_of}
use Rattle.tc_table.specs.declared.side.Side.{Side}
use Rattle.tc_table.specs.declared.table.Table.{Table}
use Rattle.ty_base.specs.Holding as base
use Rattle.ty_base.specs.Holding.{numbers_refl}
use Rattle.tc_tabledb.specs.declared.holding.TableEngine.{TableEngine}
use Rattle.tc_tabledb.specs.Files.{IsIndexPlace, IsTableFile}
use Rattle.tc_tabledb.specs.Filling.{fills_of}
use Rattle.tc_tabledb.specs.Holding.{AllMade, AreDistinct, DecimalList, HoldsEngine, HoldsTable, LeavesRest, LexicalList, indexes_of, names}
use Rattle.tc_tabledb.specs.Indexing.{kind_at, unindexed}
use Rattle.tc_tabledb.specs.Laws.{tree_moved}
use Rattle.tc_tabledb.specs.Laying.{layout_of}
use Rattle.tc_tabledb.specs.Members.{AreTableStores}
use Rattle.tc_tabledb.proofs.Laid.{bytes_stay}
use Rattle.tc_tabledb.proofs.Limits.{listed, name_here, turned_text}
use Rattle.tc_tabledb.proofs.Standing.{apart_less, away_at, away_less, away_more, distinct_less, index_got, name_alone, others_away}

-- a name that none of them has
pub not_named : {L D : Type 0} (n : List ℕ) (xs : List (Side L D)) → is_among n (names xs) ≡ false → get (indexes_of xs) n ≡ None
not_named n [] none = get-empty (slice_cmp nat_cmp) n
not_named n (x ∷ xs) none =
    let both = or_parts (is_text n (name_of x.tree)) (is_among n (names xs)) none in
    name_here (indexes_of xs) (name_of x.tree) x.kind n ∙ (ap (λ (t : Bool). cond t (Some x.kind) (get (indexes_of xs) n)) both.0 ∙ not_named n xs both.1)

pub gone_at : (indexes : Indexes) (n k : List ℕ) → get (remove indexes n) k ≡ cond (is_text k n) None (get indexes k)
gone_at indexes n k = get-remove nat_list_cmp_total indexes n k ∙ ap (λ (t : Bool). cond t None (get indexes k)) (sym (texts_ties k n))

module _ {S : Type 0} (s : Ghosts S) (r : Stores (Hash S) S) (ol : Orders ByBytes) (od : Orders ByNumbers) (l : multi.Ghosts (LexicalList S) S ByBytes) (d : multi.Ghosts (DecimalList S) S ByNumbers) (stores : AreTableStores s r ol od l d) where
  abbrev pub OneSide : Type 0
  OneSide = Side (LexicalList S) (DecimalList S)

  abbrev pub OneTable : Type 0
  OneTable = Table (Hash S) (LexicalList S) (DecimalList S)

  no_files : Files
  no_files f = []

  no_rows : Rows
  no_rows = empty

  -- without it the others have what they had
  index_gone : (front : List OneSide) (x : OneSide) (back : List OneSide) → AreDistinct (names (front ++ x ∷ back)) → indexes_of (front ++ back) ≡ remove (indexes_of (front ++ x ∷ back)) (name_of x.tree)
  index_gone front x back distinct = same_map nat_list_cmp_total exact_bytes (indexes_of (front ++ back)) (remove (indexes_of (front ++ x ∷ back)) (name_of x.tree)) (λ k. sym (gone_at (indexes_of (front ++ x ∷ back)) (name_of x.tree) k ∙ (ap (cond (is_text k (name_of x.tree)) None) (index_got s r ol od l d stores no_files no_rows front x back distinct k) ∙ at k (is_text k (name_of x.tree)) refl)))
    where
      at : (k : List ℕ) (t : Bool) → is_text k (name_of x.tree) ≡ t → cond t None (cond t (Some x.kind) (get (indexes_of (front ++ back)) k)) ≡ get (indexes_of (front ++ back)) k
      at k true same = sym (ap (get (indexes_of (front ++ back))) (text_is k (name_of x.tree) same) ∙ not_named (name_of x.tree) (front ++ back) (name_alone s r ol od l d stores no_files no_rows front x back distinct))
      at k false other = refl

  over_less : (front : List OneSide) (x : OneSide) (back : List OneSide) (f : Files) (rows : Rows) → AllOver l d (front ++ x ∷ back) f rows → AllOver l d (front ++ back) f rows
  over_less [] x back f rows over = over.1
  over_less (y ∷ front) x back f rows over = (over.0, over_less front x back f rows over.1)

  made_less : (front : List OneSide) (x : OneSide) (back : List OneSide) → AllMade r l d (front ++ x ∷ back) → AllMade r l d (front ++ back)
  made_less [] x back made = made.1
  made_less (y ∷ front) x back made = (made.0, made_less front x back made.1)

  -- over files of which but one stay
  over_still : (file : ℕ) (xs : List OneSide) (f g : Files) (rows : Rows) → IsAway file (files l d xs) → ((n : ℕ) → (n ≡ file → ⊥) → g n ≡ f n) → AllOver l d xs f rows → AllOver l d xs g rows
  over_still file [] f g rows away same over = tt
  over_still file (x ∷ xs) f g rows away same over = (
    record { fits = over.0.fits; stands = tree_moved r l d x.tree f g _ (sym (same (tree_file l d x.tree) (λ e. away.0 (sym e)))) over.0.stands },
    over_still file xs f g rows away.1 same over.1,
  )

  -- once its file is empty the table stands for what is left
  removed_up : (name : List ℕ) (x : OneSide) (t t' : OneTable) (total total' : Option ℕ) (f g : Files) (c : Contents) → Removes name x t t' → HoldsTable r l d t total f c → g (tree_file l d x.tree) ≡ [] → ((n : ℕ) → (n ≡ tree_file l d x.tree → ⊥) → g n ≡ f n)
      → ((rows : Rows) → c ≡ table rows (indexes_of t.sides.items) → IfSome total' (λ n. n ≡ size_of (table rows (indexes_of t'.sides.items)))) → (e : Contents) × (unindexed name c ≡ Some e) × HoldsTable r l d t' total' g e
  removed_up name x t t' total total' f g c removes h none same counted = (
    table h.rows (indexes_of t'.sides.items),
    ap (unindexed name) h.is ∙ made_as,
    record {
      rows = h.rows;
      is = refl;
      held = record {
        store = h.held.store;
        held = subst (λ (v : Hash S). r.holds v (g (r.file_of v)) h.held.store) (sym removes.rows) (subst (λ (bytes : List ℕ). r.holds t.rows bytes h.held.store) (sym (same (r.file_of t.rows) main_other)) h.held.held);
        spelled = h.held.spelled;
        are = h.held.are;
        apart = apart_now;
        indexes = on_left (λ xs. AllOver l d xs g h.rows) (over_still file (front ++ back) f g h.rows away same (over_less front x back f h.rows (on_all (λ xs. AllOver l d xs f h.rows) h.held.indexes)));
      };
      main = ap r.file_of removes.rows ∙ h.main;
      sort = ap r.sort removes.rows ∙ h.sort;
      made = on_left (AllMade r l d) (made_less front x back (on_all (AllMade r l d) h.made));
      distinct = on_left (λ xs. AreDistinct (names xs)) (distinct_less s r ol od l d stores no_files no_rows front x back distinct_all);
      rest = rest_now;
      counted = counted h.rows h.is;
    },
  )
    where
      front : List OneSide
      front = removes.front

      back : List OneSide
      back = removes.back

      file : ℕ
      file = tree_file l d x.tree

      on_all : (P : List OneSide → Type 0) → P t.sides.items → P (removes.front ++ x ∷ removes.back)
      on_all P p = subst P removes.parted p

      on_left : (P : List OneSide → Type 0) → P (removes.front ++ removes.back) → P t'.sides.items
      on_left P p = subst P (sym removes.left) p

      distinct_all : AreDistinct (names (removes.front ++ x ∷ removes.back))
      distinct_all = subst (λ (xs : List OneSide). AreDistinct (names xs)) removes.parted h.distinct

      away : IsAway (tree_file l d x.tree) (files l d (removes.front ++ removes.back))
      away = others_away s r ol od l d stores no_files no_rows removes.front x removes.back (subst (λ (xs : List OneSide). AreApart (files l d xs)) removes.parted h.held.apart.1)

      main_away : IsAway (r.file_of t.rows) (files l d (removes.front ++ x ∷ removes.back))
      main_away = subst (λ (xs : List OneSide). IsAway (r.file_of t.rows) (files l d xs)) removes.parted h.held.apart.0

      main_other : r.file_of t.rows ≡ tree_file l d x.tree → ⊥
      main_other = away_at s r ol od l d stores no_files no_rows (r.file_of t.rows) removes.front x removes.back main_away

      apart_now : AreApart (files_of r l d t')
      apart_now = (
        subst (λ (v : Hash S). IsAway (r.file_of v) (files l d t'.sides.items)) (sym removes.rows) (subst (λ (xs : List OneSide). IsAway (r.file_of t.rows) (files l d xs)) (sym removes.left) (away_less s r ol od l d stores no_files no_rows (r.file_of t.rows) removes.front x removes.back main_away)),
        subst (λ (xs : List OneSide). AreApart (files l d xs)) (sym removes.left) (apart_less s r ol od l d stores no_files no_rows removes.front x removes.back (subst (λ (xs : List OneSide). AreApart (files l d xs)) removes.parted h.held.apart.1)),
      )

      rest_now : LeavesRest r l d t'.sides.items g
      rest_now n at far = ⊎_elim
          (λ (here : n ≡ tree_file l d x.tree). ap g here ∙ none)
          (λ other. same n other ∙ h.rest n at (subst (λ (xs : List OneSide). IsAway n (files l d xs)) (sym removes.parted) (away_more s r ol od l d stores no_files no_rows n removes.front x removes.back other (subst (λ (xs : List OneSide). IsAway n (files l d xs)) removes.left far))))
          (cases_eq n (tree_file l d x.tree))

      -- the name is the index's
      named : name_of x.tree ≡ name
      named = text_is (name_of x.tree) name removes.named

      had : get (indexes_of t.sides.items) name ≡ Some x.kind
      had = subst (λ (n : List ℕ). get (indexes_of t.sides.items) n ≡ Some x.kind) named (subst (λ (xs : List OneSide). get (indexes_of xs) (name_of x.tree) ≡ Some x.kind) (sym removes.parted) (listed removes.front x removes.back distinct_all))

      left_is : remove (indexes_of t.sides.items) name ≡ indexes_of t'.sides.items
      left_is =
          ap (remove (indexes_of t.sides.items)) (sym named)
          ∙ (ap (λ (xs : List OneSide). remove (indexes_of xs) (name_of x.tree)) removes.parted
          ∙ (sym (index_gone removes.front x removes.back distinct_all) ∙ ap indexes_of (sym removes.left)))

      made_as : unindexed name (table h.rows (indexes_of t.sides.items)) ≡ Some (table h.rows (indexes_of t'.sides.items))
      made_as =
          ap (λ (o : Option IndexKind). option_map (λ (after : Indexes). table h.rows after) (cond (is_some o) (Some (remove (indexes_of t.sides.items) name)) None)) had
          ∙ ap (λ (i : Indexes). Some (table h.rows i)) left_is

  -- ---- over an engine

  abbrev pub Engine : Type 0
  Engine = TableEngine S

  abbrev pub Held : Engine → S → Contents → Type 0
  Held e a c = base.Held s (HoldsEngine r l d) e a c

  abbrev pub Makes : Change → Bool → Engine → Engine → S → S → Type 0
  Makes f done e e' a b = effects.Makes s IsTableFile layout_of (HoldsEngine r l d) f done e e' a b

  -- no index has the name
  unnamed : (name : List ℕ) (xs : List OneSide) → NoneBefore (is_of name) xs (length xs) → is_among name (names xs) ≡ false
  unnamed name [] none = refl
  unnamed name (x ∷ xs) none =
      ap (λ (t : Bool). t || is_among name (names xs)) (turned_text (name_of x.tree) name (none 0 x (omega arith) refl))
      ∙ unnamed name xs (λ i y less is. none (suc i) y (omega (arith, less)) is)

  pub kind_none : (name : List ℕ) (xs : List OneSide) → is_among name (names xs) ≡ false → kind_at name xs ≡ None
  kind_none name [] none = refl
  kind_none name (x ∷ xs) none =
      let both = or_parts (is_text name (name_of x.tree)) (is_among name (names xs)) none in
      ap (λ (t : Bool). cond t (Some x.kind) (kind_at name xs)) (turned_text name (name_of x.tree) both.0) ∙ kind_none name xs both.1

  -- there is none to be taken away
  pub none_removed : (name : List ℕ) (e : Engine) (t : OneTable) (a : S) → s.sound a → HasNone name e.table t → Makes (unindexed name) false e (record e { table = t }) a a
  none_removed name e t a sound has = record {
    sound = sound;
    others = others_refl s IsTableFile a;
    numbered = λ c h. numbers_refl (layout_of (s.now a));
    made = λ done. absurd (let x : false ≡ true = done in cc);
    fails = λ not c h. ap (unindexed name) h.1.is ∙ ap (λ (o : Option IndexKind). option_map (λ (after : Indexes). table h.1.rows after) (cond (is_some o) (Some (remove (indexes_of e.table.sides.items) name)) None)) (not_named name e.table.sides.items (unnamed name e.table.sides.items has.none));
    same = λ not. subst (λ (u : OneTable). Reads s (base.Held s (HoldsEngine r l d)) e (record e { table = u }) a a) (sym has.same) (reads_refl s (base.Held s (HoldsEngine r l d)) e a sound);
  }

  pub none_left : (name : List ℕ) (t u : OneTable) → HasNone name t u → kind_at name u.sides.items ≡ None
  none_left name t u has = ap (λ (v : OneTable). kind_at name v.sides.items) has.same ∙ kind_none name t.sides.items (unnamed name t.sides.items has.none)

  made_at : (front : List OneSide) (x : OneSide) (back : List OneSide) → AllMade r l d (front ++ x ∷ back) → IsIndexPlace (tree_file l d x.tree)
  made_at [] x back made = made.0.file
  made_at (y ∷ front) x back made = made_at front x back made.1

  -- one was taken away, and its file emptied
  module _ (name : List ℕ) (x : OneSide) (e : Engine) (t : OneTable) (a : S) (removes : Removes name x e.table t) where
    place_at : (c : Contents) → Held e a c → IsIndexPlace (tree_file l d x.tree)
    place_at c h = made_at removes.front x removes.back (subst (λ (xs : List OneSide). AllMade r l d xs) removes.parted h.1.made)

    -- its file is one that may be an index's
    pub never_elsewhere : (file : ℕ) → file ≡ tree_file l d x.tree → (IsIndexPlace file → ⊥) → s.sound a → Reads s (base.Held s (HoldsEngine r l d)) e (record e { table = t }) a a
    never_elsewhere file is other sound = record {
      now = λ told g. refl;
      touched = refl;
      sound = sound;
      means = λ c h. absurd (other (subst IsIndexPlace (sym is) (place_at c h)));
    }

    pub index_removed : (file : ℕ) (b : S) → file ≡ tree_file l d x.tree → IsIndexPlace file → s.sound b → (s.tells → Changes s.now file [] a b) → Makes (unindexed name) true e (record e { table = t }) a b
    index_removed file b is place sound changes = record {
      sound = sound;
      others = record { same = λ told n other. (changes told).others n (λ (same : n ≡ file). other (inr (subst IsIndexPlace (sym same) place))) };
      numbered = λ c h. bytes_stay (s.now a 0) (s.now b 0) _ _ ((changes h.0).others 0 (λ (same : 0 ≡ file). let low = place.0 in absurd (omega (arith, low, same))));
      made = λ done c h.
          let y = removed_up name x e.table t e.total e.total (s.now a) (s.now b) c removes h.1 (ap (s.now b) (sym is) ∙ (changes h.0).here) (λ n other. (changes h.0).others n (λ (same : n ≡ file). other (same ∙ is)))
          (λ rows same. subst (λ (o : Contents). IfSome e.total (λ n. n ≡ size_of o)) same h.1.counted) in
          (y.0, y.1, (h.0, y.2));
      fails = λ not. absurd (let y : true ≡ false = not in cc);
      same = λ not. absurd (let y : true ≡ false = not in cc);
    }

    pub index_left : (c : Contents) → Held e a c → kind_at name t.sides.items ≡ None
    index_left c h =
        let distinct : AreDistinct (names (removes.front ++ x ∷ removes.back)) = subst (λ (xs : List OneSide). AreDistinct (names xs)) removes.parted h.1.distinct in
        ap (λ (xs : List OneSide). kind_at name xs) removes.left
        ∙ kind_none name (removes.front ++ removes.back) (subst (λ (n : List ℕ). is_among n (names (removes.front ++ removes.back)) ≡ false) (text_is (name_of x.tree) name removes.named) (name_alone s r ol od l d stores no_files no_rows removes.front x removes.back distinct))

  -- a refusal for want of room in the undo log
  pub log_full : (f : Change) (e : Engine) (a b : S) → (s.tells → s.log_full b) → effects.IsFull s (HoldsEngine r l d) (fills_of s) f e a b
  log_full f e a b log = record { by = λ c h. inl (log h.0) }
