-- The index that a column is given, or loses.
use Rattle.std.proofs.Common.{rules, ◌≡◌, ◌∙◌, ℕ, ◌+◌, ◌≤◌, ◌<◌, ◌==◌, Bool, true, false, cond, List, [], ◌∷◌, length, Option, Some, None, refl, sym, ap, subst, arith}
use Rattle.std.specs.Prelude.{◌≢◌, ◌||◌, ◌&&◌, is_none, is_some, nat_le, nat_lt, option_and_then, option_map, unwrap_or}
use Rattle.std.specs.Cmp.Lexicographic.{nat_list_cmp_total, slice_cmp}
use Rattle.std.specs.FinMap.{get, get-empty, insert, len, len-empty, len-insert, remove, same_map}
use Rattle.std.specs.Ordering.{nat_cmp}
use Rattle.std.proofs.lemmas.Bool.{and_parts}
use Rattle.std.proofs.lemmas.Bool.Decides.{nat_tests}
use Rattle.std.proofs.lemmas.Map.Lookups.{exact_bytes}
use Rattle.tc_base.specs.Texts.{is_text}
use Rattle.tc_base.specs.declared.order.Decimal.{Decimal as ByNumbers}
use Rattle.tc_base.specs.declared.order.Lexical.{Lexical as ByBytes}
use Rattle.tc_space.specs.Frames.{others_refl, others_then, reads_refl}
use Rattle.tc_space.specs.declared.multi.Multi as multi
use Rattle.tc_space.specs.declared.records.Records.{Ghosts as Stores}
use Rattle.tc_space.specs.declared.space.Space.{Ghosts}
use Rattle.tc_engine.specs.Changes.{Change, index_set}
use Rattle.tc_engine.specs.Effects as effects
use Rattle.tc_hash.specs.declared.hash.Hash.{Hash}
use Rattle.tc_model.specs.Contents.{Contents, Indexes, Rows, fixed, hash, table, tree}
use Rattle.tc_model.specs.Meaning.{index_of, with_index}
use Rattle.tc_model.specs.Rows.{is_part}
use Rattle.tc_model.specs.Texts.{not_empty}
use Rattle.tc_model.specs.declared.query.IndexKind.{IndexKind}
use Rattle.tc_model.specs.declared.query.IndexKind.TheVariants as kinds
use Rattle.td_index.proofs.Counting.{text_is}
use Rattle.tc_table.specs.Sides.{name_of}
use Rattle.tc_table.specs.declared.side.Side.{Side}
use Rattle.ty_base.specs.Holding as base
use Rattle.ty_base.specs.Holding.{numbers_refl, numbers_then}
use Rattle.tc_tabledb.specs.declared.holding.TableEngine.{TableEngine}
use Rattle.tc_tabledb.specs.Files.{IsTableFile, type_code}
use Rattle.tc_tabledb.specs.Filling.{Fills, fills_of, is_same}
use Rattle.tc_tabledb.specs.Holding.{AreDistinct, DecimalList, HoldsEngine, LexicalList, indexes_of, names}
use Rattle.tc_tabledb.specs.Indexing.{FullAdded, added, given_index, indexed, is_kind, kind_at, unindexed}
use Rattle.tc_tabledb.specs.Laying.{layout_of}
use Rattle.tc_tabledb.proofs.Indexed.{gone_at, not_named}
use Rattle.tc_tabledb.proofs.Limits.{name_here}
use Rattle.tc_tabledb.proofs.Places.{text_turns}

-- ---- the type that a column has

some_is : {A : Type 0} (a b : A) → Some a ≡ Some b → a ≡ b
some_is a b e = cc

pub kind_is : {L D : Type 0} (name : List ℕ) (xs : List (Side L D)) → kind_at name xs ≡ get (indexes_of xs) name
kind_is name [] = sym (get-empty (slice_cmp nat_cmp) name)
kind_is name (x ∷ xs) =
    (λ i. cond (text_turns (name_of x.tree) name i) (Some x.kind) (kind_is name xs i)) ∙ sym (name_here (indexes_of xs) (name_of x.tree) x.kind name)

-- as many as there are names
sides_counted : {L D : Type 0} (xs : List (Side L D)) → AreDistinct (names xs) → len (indexes_of xs) ≡ length xs
sides_counted [] distinct = len-empty (slice_cmp nat_cmp) IndexKind
sides_counted (x ∷ xs) distinct =
    let rest = sides_counted xs distinct.1 in
    let new : get (indexes_of xs) (name_of x.tree) ≡ None = not_named (name_of x.tree) xs distinct.0 in
    let more : len (insert (indexes_of xs) (name_of x.tree) x.kind) ≡ len (indexes_of xs) + 1 = len-insert nat_list_cmp_total (indexes_of xs) (name_of x.tree) x.kind ∙ ap (λ (o : Option IndexKind). cond (is_some o) (len (indexes_of xs)) (len (indexes_of xs) + 1)) new in
    omega (arith, rest, more)

set_again : (indexes : Indexes) (name : List ℕ) (kind : IndexKind) → insert (remove indexes name) name kind ≡ insert indexes name kind
set_again indexes name kind = same_map nat_list_cmp_total exact_bytes (insert (remove indexes name) name kind) (insert indexes name kind) (λ k.
    name_here (remove indexes name) name kind k ∙ (ap (cond (is_text k name) (Some kind)) (gone_at indexes name k) ∙ (same (is_text k name) (get indexes k) ∙ sym (name_here indexes name kind k))))
  where
    same : (b : Bool) (o : Option IndexKind) → cond b (Some kind) (cond b None o) ≡ cond b (Some kind) o
    same true o = refl
    same false o = refl

set_same : (indexes : Indexes) (name : List ℕ) (kind : IndexKind) → get indexes name ≡ Some kind → insert indexes name kind ≡ indexes
set_same indexes name kind has = same_map nat_list_cmp_total exact_bytes (insert indexes name kind) indexes (λ k. name_here indexes name kind k ∙ at k (is_text k name) refl)
  where
    at : (k : List ℕ) (b : Bool) → is_text k name ≡ b → cond b (Some kind) (get indexes k) ≡ get indexes k
    at k true same = sym (ap (get indexes) (text_is k name same) ∙ has)
    at k false other = refl

codes_same : (a b : IndexKind) → (type_code a == type_code b) ≡ is_same a b
codes_same kinds.Lexical kinds.Lexical = refl
codes_same kinds.Lexical kinds.Decimal = refl
codes_same kinds.Lexical kinds.Token = refl
codes_same kinds.Decimal kinds.Lexical = refl
codes_same kinds.Decimal kinds.Decimal = refl
codes_same kinds.Decimal kinds.Token = refl
codes_same kinds.Token kinds.Lexical = refl
codes_same kinds.Token kinds.Decimal = refl
codes_same kinds.Token kinds.Token = refl

pub kind_same : (o : Option IndexKind) (kind other : IndexKind) (m n : ℕ) → o ≡ Some other → m ≡ type_code other → n ≡ type_code kind → (m == n) ≡ is_kind o kind
kind_same o kind other m n is first second = (λ i. first i == second i) ∙ (codes_same other kind ∙ sym (ap (λ (x : Option IndexKind). is_kind x kind) is))

pub same_only : (a b : IndexKind) → is_same a b ≡ true → a ≡ b
same_only kinds.Lexical kinds.Lexical same = refl
same_only kinds.Decimal kinds.Decimal same = refl
same_only kinds.Token kinds.Token same = refl
same_only kinds.Lexical kinds.Decimal same = absurd (let bad : false ≡ true = same in cc)
same_only kinds.Lexical kinds.Token same = absurd (let bad : false ≡ true = same in cc)
same_only kinds.Decimal kinds.Lexical same = absurd (let bad : false ≡ true = same in cc)
same_only kinds.Decimal kinds.Token same = absurd (let bad : false ≡ true = same in cc)
same_only kinds.Token kinds.Lexical same = absurd (let bad : false ≡ true = same in cc)
same_only kinds.Token kinds.Decimal same = absurd (let bad : false ≡ true = same in cc)

same_refl : (a : IndexKind) → is_same a a ≡ true
same_refl kinds.Lexical = refl
same_refl kinds.Decimal = refl
same_refl kinds.Token = refl

pub kind_only : (o : Option IndexKind) (kind : IndexKind) → is_kind o kind ≡ true → o ≡ Some kind
kind_only None kind is = absurd (let bad : false ≡ true = is in cc)
kind_only (Some other) kind is = ap (λ (k : IndexKind). Some k) (same_only other kind is)

pub kind_other : (o : Option IndexKind) (kind : IndexKind) → is_kind o kind ≡ false → o ≢ Some kind
kind_other o kind other is = absurd (let bad : true ≡ false = sym (ap (λ (x : Option IndexKind). is_kind x kind) is ∙ same_refl kind) ∙ other in cc)

-- no index, and sixteen others
pub no_room : (o : Option IndexKind) (n : ℕ) → (is_none o && nat_le 16 n) ≡ true → (o ≡ None) × (16 ≤ n)
no_room None n is = (refl, at_least n is)
  where
    at_least : (n : ℕ) → nat_le 16 n ≡ true → 16 ≤ n
    at_least n is = search (rules, is)
no_room (Some kind) n is = absurd (let bad : false ≡ true = is in cc)

-- one may be set: the column has one, or there are few
abbrev pub MaySet : Indexes → List ℕ → Type 0
MaySet indexes name = (is_some (get indexes name) || nat_lt (len indexes) 16) ≡ true

set_as : (rows : Rows) (indexes : Indexes) (name : List ℕ) (kind : IndexKind) → MaySet indexes name → indexed name kind (table rows indexes) ≡ Some (table rows (insert indexes name kind))
set_as rows indexes name kind may = ap (λ (b : Bool). option_map (λ (i : Indexes). table rows i) (cond b (Some (insert indexes name kind)) None)) may

less_many : (n m : ℕ) → n ≡ m → nat_le 16 m ≡ false → nat_lt n 16 ≡ true
less_many n m same few = grind (arith, nat_tests, same, few)

module _ {S : Type 0} (s : Ghosts S) (r : Stores (Hash S) S) (l : multi.Ghosts (LexicalList S) S ByBytes) (d : multi.Ghosts (DecimalList S) S ByNumbers) where
  abbrev pub Engine : Type 0
  Engine = TableEngine S

  abbrev pub Held : Engine → S → Contents → Type 0
  Held e a c = base.Held s (HoldsEngine r l d) e a c

  abbrev pub Makes : Change → Bool → Engine → Engine → S → S → Type 0
  Makes f done e e' a b = effects.Makes s IsTableFile layout_of (HoldsEngine r l d) f done e e' a b

  abbrev pub IsFull : Change → Engine → S → S → Type 0
  IsFull f e a b = effects.IsFull s (HoldsEngine r l d) (fills_of s) f e a b

  -- the types that it has, where files are told
  held_kind : (name : List ℕ) (e : Engine) (o : Option IndexKind) → o ≡ kind_at name e.table.sides.items → get (indexes_of e.table.sides.items) name ≡ o
  held_kind name e o is = sym (is ∙ kind_is name e.table.sides.items)

  -- it has that index
  pub set_already : (name : List ℕ) (kind : IndexKind) (e : Engine) (a : S) → s.sound a → kind_at name e.table.sides.items ≡ Some kind → Makes (indexed name kind) true e e a a
  set_already name kind e a sound had = record {
    sound = sound;
    others = others_refl s IsTableFile a;
    numbered = λ c h. numbers_refl (layout_of (s.now a));
    made = λ done c h.
        let i : Indexes = indexes_of e.table.sides.items in
        let has : get i name ≡ Some kind = held_kind name e (Some kind) (sym had) in
        let may : MaySet i name = ap (λ (o : Option IndexKind). is_some o || nat_lt (len i) 16) has in
        (c, ap (indexed name kind) h.1.is ∙ (set_as h.1.rows i name kind may ∙ (ap (λ (j : Indexes). Some (table h.1.rows j)) (set_same i name kind has) ∙ ap (λ (x : Contents). Some x) (sym h.1.is))), h);
    fails = λ not. absurd (let x : true ≡ false = not in cc);
    same = λ not. absurd (let x : true ≡ false = not in cc);
  }

  -- there are sixteen, and it has none
  pub set_many : (name : List ℕ) (kind : IndexKind) (e : Engine) (a : S) → s.sound a → kind_at name e.table.sides.items ≡ None → 16 ≤ length e.table.sides.items → Makes (indexed name kind) false e e a a
  set_many name kind e a sound had many = record {
    sound = sound;
    others = others_refl s IsTableFile a;
    numbered = λ c h. numbers_refl (layout_of (s.now a));
    made = λ done. absurd (let x : false ≡ true = done in cc);
    fails = λ not c h.
        let i : Indexes = indexes_of e.table.sides.items in
        let none : get i name ≡ None = held_kind name e None (sym had) in
        let full : nat_lt (len i) 16 ≡ false = not_less (len i) (omega (arith, sides_counted e.table.sides.items h.1.distinct, many)) in
        ap (indexed name kind) h.1.is ∙ ap (λ (b : Bool). option_map (λ (j : Indexes). table h.1.rows j) (cond b (Some (insert i name kind)) None)) ((λ k. is_some (none k) || full k));
    same = λ not. reads_refl s (base.Held s (HoldsEngine r l d)) e a sound;
  }
    where
      not_less : (n : ℕ) → 16 ≤ n → nat_lt n 16 ≡ false
      not_less n many = grind (arith, nat_tests, many)

  -- ---- taken away, if it had one of another type, and made anew

  module _ (name : List ℕ) (kind : IndexKind) (e u : Engine) (a m : S) (may : (c : Contents) → Held e a c → MaySet (indexes_of e.table.sides.items) name) where
    -- the contents between, and that the index is set in them as in those before
    record Between (c : Contents) (own : Rows) : Type 0 where
      rows : Rows
      same : rows ≡ own
      indexes : Indexes
      holds : Held u m (table rows indexes)
      set : Some (table rows (insert indexes name kind)) ≡ indexed name kind c

    between : (done : Bool) → Makes (unindexed name) done e u a m → (c : Contents) (h : Held e a c) → Between c h.1.rows
    between true makes c h =
        let i : Indexes = indexes_of e.table.sides.items in
        let x = makes.made refl c h in
        let was : unindexed name (table h.1.rows i) ≡ Some x.0 = ap (unindexed name) (sym h.1.is) ∙ x.1 in
        let after : x.0 ≡ table h.1.rows (remove i name) = removed_is h.1.rows i x.0 (is_some (get i name)) was in
        record {
          rows = h.1.rows;
          same = refl;
          indexes = remove i name;
          holds = subst (λ (y : Contents). Held u m y) after x.2;
          set = ap (λ (j : Indexes). Some (table h.1.rows j)) (set_again i name kind) ∙ sym (ap (indexed name kind) h.1.is ∙ set_as h.1.rows i name kind (may c h));
        }
      where
        removed_is : (rows : Rows) (i : Indexes) (x : Contents) (b : Bool) → option_map (λ (after : Indexes). table rows after) (cond b (Some (remove i name)) None) ≡ Some x → x ≡ table rows (remove i name)
        removed_is rows i x true is = sym (some_is (table rows (remove i name)) x is)
        removed_is rows i x false is = absurd (let bad : None ≡ Some x = is in cc)
    between false makes c h =
        let i : Indexes = indexes_of e.table.sides.items in
        record {
          rows = h.1.rows;
          same = refl;
          indexes = i;
          holds = subst (λ (y : Contents). Held u m y) h.1.is ((makes.same refl).means c h);
          set = sym (ap (indexed name kind) h.1.is ∙ set_as h.1.rows i name kind (may c h));
        }

    pub set_made : (done : Bool) (v : Engine) (b : S) → Makes (unindexed name) done e u a m → Makes (added name kind) true u v m b → Makes (indexed name kind) true e v a b
    set_made done v b first second = record {
      sound = second.sound;
      others = others_then s IsTableFile a m b first.others second.others;
      numbered = λ c h. let x = between done first c h in numbers_then (layout_of (s.now a)) (layout_of (s.now m)) (layout_of (s.now b)) (first.numbered c h) (second.numbered (table x.rows x.indexes) x.holds);
      made = λ was c h.
          let x = between done first c h in
          let y = second.made refl (table x.rows x.indexes) x.holds in
          (y.0, sym x.set ∙ y.1, y.2);
      fails = λ not. absurd (let x : true ≡ false = not in cc);
      same = λ not. absurd (let x : true ≡ false = not in cc);
    }

    -- what lacked room for it lacks it on the whole way
    pub set_full : (done : Bool) (b : S) → kind_at name e.table.sides.items ≢ Some kind → Makes (unindexed name) done e u a m → ((c : Contents) → Held u m c → FullAdded s name kind b c) → IsFull (indexed name kind) e a b
    set_full done b other first full = record {
      by = λ c h.
          let i : Indexes = indexes_of e.table.sides.items in
          let x = between done first c h in
          let rows : Rows = x.rows in
          let not : get i name ≡ Some kind → ⊥ = λ has. other (kind_is name e.table.sides.items ∙ has) in
          let c_is : c ≡ table h.1.rows i = h.1.is in
          fills_to b c rows h.1.rows i x.indexes x.same c_is x.set (full (table rows x.indexes) x.holds rows x.indexes refl i not);
    }
      where
        fills_to : (b : S) (c : Contents) (rows own : Rows) (i j : Indexes) → rows ≡ own → c ≡ table own i → Some (table rows (insert j name kind)) ≡ indexed name kind c → Fills s b (table rows i) (table rows (insert j name kind)) → Fills s b c (unwrap_or (indexed name kind c) c)
        fills_to b c rows own i j same is set fills =
            subst (λ (y : Contents). Fills s b y (unwrap_or (indexed name kind c) c)) (ap (λ (m : Rows). table m i) same ∙ sym is)
            (subst (λ (o : Option Contents). Fills s b (table rows i) (unwrap_or o c)) set fills)

  -- ---- what is set by a code

  pub may_set : (name : List ℕ) (e : Engine) (had : Option IndexKind) → had ≡ kind_at name e.table.sides.items → ((is_none had && nat_le 16 (length e.table.sides.items)) ≡ false) → (a : S) (c : Contents) → Held e a c → MaySet (indexes_of e.table.sides.items) name
  may_set name e None is not a c h =
      let i : Indexes = indexes_of e.table.sides.items in
      let few : nat_lt (len i) 16 ≡ true = less_many (len i) (length e.table.sides.items) (sides_counted e.table.sides.items h.1.distinct) not in
      λ k. is_some (held_kind name e None is k) || few k
  may_set name e (Some kind) is not a c h = ap (λ (o : Option IndexKind). is_some o || nat_lt (len (indexes_of e.table.sides.items)) 16) (held_kind name e (Some kind) is)

  -- it may be called again
  pub makes_ready : (f : Change) (done : Bool) (e u : Engine) (a m : S) → Makes f done e u a m → base.IsReady s (HoldsEngine r l d) e a → base.IsReady s (HoldsEngine r l d) u m
  makes_ready f true e u a m makes ready = record { sound = makes.sound; held = λ t. let h = ready.held t in let x = makes.made refl h.0 (t, h.1) in (x.0, x.2.1) }
  makes_ready f false e u a m makes ready = record { sound = makes.sound; held = λ t. let h = ready.held t in (h.0, ((makes.same refl).means h.0 (t, h.1)).1) }

  -- a change that is another, said otherwise
  pub makes_as : (f g : Change) (done : Bool) (e e' : Engine) (a b : S) → ((c : Contents) → f c ≡ g c) → Makes f done e e' a b → Makes g done e e' a b
  makes_as f g done e e' a b same makes = record {
    sound = makes.sound;
    others = makes.others;
    numbered = makes.numbered;
    made = λ was c h. let x = makes.made was c h in (x.0, sym (same c) ∙ x.1, x.2);
    fails = λ not c h. sym (same c) ∙ makes.fails not c h;
    same = makes.same;
  }

  pub full_as : (f g : Change) (e : Engine) (a b : S) → ((c : Contents) → f c ≡ g c) → IsFull f e a b → IsFull g e a b
  full_as f g e a b same full = record { by = λ c h. subst (λ (o : Option Contents). Fills s b c (unwrap_or o c)) (same c) (full.by c h) }

-- ---- as it is wanted

pub wanted_none : (name bytes : List ℕ) (o : Option IndexKind) → bytes ≡ name → o ≡ None → (c : Contents) → unindexed bytes c ≡ given_index name o c
wanted_none name bytes o same none c = ap (λ (n : List ℕ). unindexed n c) same ∙ sym (ap (λ (x : Option IndexKind). given_index name x c) none)

pub wanted_some : (name : List ℕ) (kind : IndexKind) (o : Option IndexKind) → o ≡ Some kind → (c : Contents) → indexed name kind c ≡ given_index name o c
wanted_some name kind o is c = sym (ap (λ (x : Option IndexKind). given_index name x c) is)

-- ---- by a code

module _ (column code : List ℕ) where
  abbrev may_have : Bool
  may_have = not_empty column && is_part column

  abbrev set_to : Rows → Indexes → Option (Option IndexKind) → Option Contents
  set_to rows indexes o = option_map (λ (i : Indexes). table rows i) (option_and_then (with_index indexes column) o)

  both_same : (b : Bool) (o : Option Contents) → cond b o o ≡ o
  both_same true o = refl
  both_same false o = refl

  pub never_had : (not_empty column && is_part column) ≡ false → (rows : Rows) (indexes : Indexes) → index_set column code (table rows indexes) ≡ None
  never_had never rows indexes = ap (λ (b : Bool). cond b (set_to rows indexes (index_of code)) None) never

  pub not_coded : index_of code ≡ None → (rows : Rows) (indexes : Indexes) → index_set column code (table rows indexes) ≡ None
  not_coded none rows indexes = ap (λ (o : Option (Option IndexKind)). cond may_have (set_to rows indexes o) None) none ∙ both_same may_have None

  pub set_wanted : (not_empty column && is_part column) ≡ true → (o : Option IndexKind) → index_of code ≡ Some o → (c : Contents) → given_index column o c ≡ index_set column code c
  set_wanted may None is (table rows indexes) = sym (ap (λ (b : Bool). cond b (set_to rows indexes (index_of code)) None) may ∙ ap (set_to rows indexes) is)
  set_wanted may (Some kind) is (table rows indexes) = sym (ap (λ (b : Bool). cond b (set_to rows indexes (index_of code)) None) may ∙ ap (set_to rows indexes) is)
  set_wanted may None is (hash a m) = refl
  set_wanted may None is (tree a d ps) = refl
  set_wanted may None is (fixed width most ids) = refl
  set_wanted may (Some kind) is (hash a m) = refl
  set_wanted may (Some kind) is (tree a d ps) = refl
  set_wanted may (Some kind) is (fixed width most ids) = refl

  pub named_some : (not_empty column && is_part column) ≡ true → not_empty column ≡ true
  named_some may = (and_parts (not_empty column) (is_part column) may).0
