-- Records and indexes that were looked at.
use Rattle.std.proofs.Common.{◌≡◌, ◌≢◌, ◌∙◌, ℕ, ◌+◌, ◌<◌, ◌≤◌, Bool, true, false, List, [], ◌∷◌, ◌++◌, length, take, get_or, Option, Some, None, refl, sym, ap, subst, arith, ◌⊎◌, ⊎_elim}
use Rattle.std.specs.Prelude.{is_some}
use Rattle.std.specs.FinMap.{get, keys}
use Rattle.std.proofs.lemmas.List.{take_all}
use Rattle.tc_base.specs.Maps.{Map}
use Rattle.tc_base.specs.Texts.{is_text}
use Rattle.tc_space.specs.Frames.{In, Keeps, OnlyReads, Reads}
use Rattle.tc_space.specs.Stores.{IsReady}
use Rattle.tc_space.specs.declared.space.Space.{Ghosts}
use Rattle.tc_space.specs.declared.records.Records as records
use Rattle.tc_space.specs.declared.multi.Multi as multi
use Rattle.tc_base.specs.declared.seq.Pair.{Pair}
use Rattle.tc_model.specs.Contents.{Rows}
use Rattle.tc_model.specs.Rows.{Row}
use Rattle.tc_model.specs.declared.query.IndexKind.{IndexKind}
use Rattle.td_index.specs.Checks.{AreBoth, Both, IsExact, StaysRows, firsts_by}
use Rattle.td_index.specs.Entries.{AreOwed, Firsts, one, owed, times}
use Rattle.td_index.specs.declared.index.Index.{Index}
use Rattle.td_index.proofs.Counting.{either, one_false, text_is, times_push}
use Rattle.td_index.proofs.Keeping.{rows_then}
use Rattle.td_index.proofs.Keyed.{times_keys}
use Rattle.td_index.proofs.Listed.{up_to}
use Rattle.td_index.proofs.Parting.{owed_as}
use Rattle.td_row.specs.Spelling.{SpellsRow}
use Rattle.tc_table.specs.Opening.{AreAllRows, AreTold, HasNoRows, IsRowAt, JudgesKeys, JudgesRows, TellsRow, TreeHolds, rows_in}
use Rattle.tc_table.specs.Parts.{parts_in, parts_of, row_in}
use Rattle.tc_table.specs.Sides.{AllStand, AllStay, AreApart, IsAway, SideStands, StaysSide, TreeReady, TreeStands, asks_decimal, files, name_of, tree_file}
use Rattle.tc_table.specs.Tables.{Admits, Holds, JudgesSide, OpensRows, StaysTable, files_of}
use Rattle.tc_table.specs.Valued.{keys_valued}
use Rattle.tc_table.specs.declared.side.Side.{Side}
use Rattle.tc_table.specs.declared.side.Sorted.{Sorted}
use Rattle.tc_table.specs.declared.side.Sorted.TheVariants.{Lexical, Decimal}
use Rattle.tc_table.specs.declared.table.Table.{Table}
use Rattle.tc_table.proofs.Spelled.{keys_same, parts_same, read_rows, read_spelled}

-- ---- records

-- the record of each of these keys is a row's
abbrev pub AreRowsAt : Map → List (List ℕ) → Type 0
AreRowsAt m ks = (k : List ℕ) → 1 ≤ times k ks → IsRowAt m k

pub none_at : (m : Map) → AreRowsAt m []
none_at m k some = absurd (omega (arith, some))

pub one_more_at : (m : Map) (ks : List (List ℕ)) (i : ℕ) (k at : List ℕ) → i < length ks → k ≡ get_or ks i k → at ≡ k → AreRowsAt m (take i ks) → TellsRow m at true → AreRowsAt m (take (i + 1) ks)
one_more_at m ks i k at less is same so this q some = ⊎_elim
    (λ (same_key : is_text q at ≡ true). subst (IsRowAt m) (sym (text_is q at same_key)) this)
    (λ (other : is_text q at ≡ false). so q (omega (arith, some, ap (times q) (up_to ks i k at less is same), times_push q at (take i ks), one_false (is_text q at) other))) (either (is_text q at))

pub all_at : (m : Map) (ks : List (List ℕ)) (i : ℕ) → length ks ≤ i → ks ≡ keys m → AreRowsAt m (take i ks) → JudgesRows m true
all_at m ks i all is so key bytes there =
    let full : AreRowsAt m ks = subst (AreRowsAt m) (take_all i ks all) so in
    full key (omega (arith, ap (times key) is, times_keys m key, ap (λ (o : Option (List ℕ)). one (is_some o)) there)) bytes there

pub not_at : (m : Map) (key : List ℕ) → TellsRow m key false → JudgesRows m false
not_at m key no_row = (key, no_row)

-- where a key has no record
pub no_record : (m : Map) (key : List ℕ) → None ≡ get m key → TellsRow m key true
no_record m key none bytes there = absurd (let f : None ≡ Some bytes = none ∙ there in cc)

some_is : {A : Type 0} (a b : A) → Some a ≡ Some b → a ≡ b
some_is a b e = cc

pub is_record : (m : Map) (key bytes text : List ℕ) (row : Row) → Some bytes ≡ get m key → text ≡ bytes → SpellsRow text row → TellsRow m key true
is_record m key bytes text row some same spells other there = (row, subst (λ (x : List ℕ). SpellsRow x row) (same ∙ some_is bytes other (some ∙ there)) spells)

pub no_row : (m : Map) (key bytes text : List ℕ) → Some bytes ≡ get m key → text ≡ bytes → ((row : Row) → SpellsRow text row → ⊥) → TellsRow m key false
no_row m key bytes text some same none = (bytes, sym some, λ row spells. none row (subst (λ (x : List ℕ). SpellsRow x row) (sym same) spells))

-- ---- trees

module _ {S R L OL D OD : Type 0} (s : Ghosts S) (r : records.Ghosts R S) (l : multi.Ghosts L S OL) (d : multi.Ghosts D S OD) where
  pub lexical_told : (v w : R) (i : Index L) (t : L) (a b : S) → Reads s (AreBoth s r l) (v, i.tree) (w, t) a b → Reads s (AreTold s l d r) (v, Lexical i) (w, Lexical (record i { tree = t })) a b
  lexical_told v w i t a b reads = record { now = reads.now; touched = reads.touched; sound = reads.sound; means = λ m h. reads.means m h }

  pub decimal_told : (v w : R) (i : Index D) (t : D) (a b : S) → Reads s (AreBoth s r d) (v, i.tree) (w, t) a b → Reads s (AreTold s l d r) (v, Decimal i) (w, Decimal (record i { tree = t })) a b
  decimal_told v w i t a b reads = record { now = reads.now; touched = reads.touched; sound = reads.sound; means = λ m h. reads.means m h }

-- ---- a table that was opened

pub only_reads : {S V M : Type 0} (s : Ghosts S) (Means : V → S → M → Type 0) (v w : V) (a b : S) → Reads s Means v w a b → Keeps s a b → OnlyReads s a b
only_reads s Means v w a b reads keeps = record { keeps = keeps; files = reads.now; untouched = reads.touched; is_sound = reads.sound }

module _ {S R L OL D OD : Type 0} (s : Ghosts S) (r : records.Ghosts R S) (l : multi.Ghosts L S OL) (d : multi.Ghosts D S OD) where
  pub over_holds : (t : Table R L D) (v : R) (a : S) (m : Map) → t.rows ≡ v → t.sides.items ≡ [] → In s r.file_of r.holds v a m → AreAllRows m → Holds s r l d t a (rows_in m)
  over_holds t v a m is none held all = record {
    store = m;
    held = subst (λ (w : R). In s r.file_of r.holds w a m) (sym is) held;
    spelled = read_spelled m all;
    are = read_rows m all;
    apart = subst (λ (xs : List (Side L D)). AreApart (r.file_of t.rows ∷ files l d xs)) (sym none) (tt, tt);
    indexes = subst (λ (xs : List (Side L D)). AllStand s l d xs a (rows_in m)) (sym none) tt;
  }

  pub opened : (v w x : R) (t : Table R L D) (ks xs : List (List ℕ)) (all : Bool) (a b c : S) → StaysRows r v w → StaysRows r w x → Reads s (In s r.file_of r.holds) v w a b → Reads s (In s r.file_of r.holds) w x b c
      → ((m : Map) → In s r.file_of r.holds v a m → ks ≡ keys m) → xs ≡ ks → all ≡ true → ((m : Map) → In s r.file_of r.holds w b m → JudgesKeys xs m all) → ((m : Map) → In s r.file_of r.holds x c m → AreAllRows m → Holds s r l d t c (rows_in m))
      → t.rows ≡ x → t.sides.items ≡ [] → OpensRows s r l d v t ks a c
  opened v w x t ks xs all a b c first second read reads keys_are same is judged over rows none = record {
    rows = λ m h.
        let now = read.means m h in
        let judges : JudgesKeys xs m true = subst (JudgesKeys xs m) is (judged m now) in
        let are : AreAllRows m = judges (same ∙ keys_are m h) in
        (are, over m (reads.means m now) are);
    keys_are = λ m h. keys_are m h ∙ sym (keys_valued row_in m);
    stays = subst (λ (y : R). StaysRows r v y) (sym rows) (rows_then r v w x first second);
    none = none;
  }

  pub not_opened : (v w : R) (xs : List (List ℕ)) (all : Bool) (a b : S) → Reads s (In s r.file_of r.holds) v w a b → all ≡ false → ((m : Map) → In s r.file_of r.holds w b m → JudgesKeys xs m all) → HasNoRows s r v a
  not_opened v w xs all a b read is judged m h =
      let judges : JudgesKeys xs m false = subst (JudgesKeys xs m) is (judged m (read.means m h)) in
      judges

  -- ---- an index that was looked at

  pairs_of : (x : Sorted L D) (a : S) → TreeReady s l d x a → s.tells → (ps : List Pair) × TreeHolds s l d x a ps
  pairs_of (Lexical i) a ready tells = ready.held tells
  pairs_of (Decimal i) a ready tells = ready.held tells

  told_by : (x : Sorted L D) (a : S) (ps : List Pair) → TreeHolds s l d x a ps → s.tells
  told_by (Lexical i) a ps h = h.0
  told_by (Decimal i) a ps h = h.0

  pub told_left : (v w : R) (x y : Sorted L D) (a b : S) → TreeReady s l d x a → Reads s (AreTold s l d r) (v, x) (w, y) a b → Reads s (In s r.file_of r.holds) v w a b
  told_left v w x y a b ready reads = record {
    now = reads.now;
    touched = reads.touched;
    sound = reads.sound;
    means = λ m h. let pairs = pairs_of x a ready h.0 in (reads.means (m, pairs.0) (h, pairs.1)).0;
  }

  pub told_right : (v w : R) (x y : Sorted L D) (a b : S) → IsReady s (In s r.file_of r.holds) v a → Reads s (AreTold s l d r) (v, x) (w, y) a b → (ps : List Pair) → TreeHolds s l d x a ps → TreeHolds s l d y b ps
  told_right v w x y a b ready reads ps h = let m = ready.held (told_by x a ps h) in (reads.means (m.0, ps) (m.1, h)).1

  pub judged_side : (x : Side L D) (n : List ℕ) (ks : List (List ℕ)) (t : Table R L D) (a : S) (fits : Bool) → n ≡ name_of x.tree → ((b : Both) → AreTold s l d r (t.rows, x.tree) a b → IsExact (parts_in x.kind n) ks fits b) → JudgesSide s r l d x ks t a fits
  judged_side x n ks t a fits named told rows ps are h held =
      let exact = told (h.store, ps) (h.held, held) (are ∙ sym (keys_same h.store rows h.spelled)) in
      (λ fit z. exact.0 fit z ∙ same z, λ owed_is. exact.1 (λ z. owed_is z ∙ sym (same z)))
    where
      same : (z : List ℕ) → owed (firsts_by (parts_in x.kind n) h.store) z ≡ owed (parts_of x.kind (name_of x.tree) rows) z
      same z = owed_as (firsts_by (parts_in x.kind n) h.store) (parts_of x.kind (name_of x.tree) rows)
          (λ k v. ap (times v) (ap (λ (l : List ℕ). parts_of x.kind l rows k) (sym named) ∙ sym (parts_same h.store rows h.spelled h.are x.kind n k))) z

  -- ---- an index that is taken in

  stands_by : (x : Sorted L D) (a : S) (h : Firsts) (ps : List Pair) → TreeHolds s l d x a ps → AreOwed h ps → TreeStands s l d x a h
  stands_by (Lexical i) a h ps held owed_is = record { pairs = ps; held = held; exact = owed_is }
  stands_by (Decimal i) a h ps held owed_is = record { pairs = ps; held = held; exact = owed_is }

  away_push : (f g : ℕ) (fs : List ℕ) → IsAway f fs → f ≢ g → IsAway f (fs ++ g ∷ [])
  away_push f g [] away apart = (apart, tt)
  away_push f g (e ∷ fs) away apart = (away.0, away_push f g fs away.1 apart)

  apart_push : (g : ℕ) (fs : List ℕ) → AreApart fs → IsAway g fs → AreApart (fs ++ g ∷ [])
  apart_push g [] apart away = (tt, tt)
  apart_push g (f ∷ fs) apart away = (away_push f g fs apart.0 (λ e. away.0 (sym e)), apart_push g fs apart.1 away.1)

  files_push : (xs : List (Side L D)) (y : Side L D) → files l d (xs ++ y ∷ []) ≡ files l d xs ++ tree_file l d y.tree ∷ []
  files_push [] y = refl
  files_push (x ∷ xs) y = ap (λ (fs : List ℕ). tree_file l d x.tree ∷ fs) (files_push xs y)

  stand_push : (xs : List (Side L D)) (y : Side L D) (a : S) (rows : Rows) → AllStand s l d xs a rows → SideStands s l d y a rows → AllStand s l d (xs ++ y ∷ []) a rows
  stand_push [] y a rows all one = (one, tt)
  stand_push (x ∷ xs) y a rows all one = (all.0, stand_push xs y a rows all.1 one)

  -- the table with an index more
  pub with_side : (u t' : Table R L D) (y : Side L D) (b : S) (rows : Rows) → t'.rows ≡ u.rows → t'.sides.items ≡ u.sides.items ++ y ∷ [] → IsAway (tree_file l d y.tree) (files_of r l d u) → Holds s r l d u b rows → SideStands s l d y b rows → Holds s r l d t' b rows
  with_side u t' y b rows rows_are sides_are far now one = record {
    store = now.store;
    held = subst (λ (v : R). In s r.file_of r.holds v b now.store) (sym rows_are) now.held;
    spelled = now.spelled;
    are = now.are;
    apart = subst (λ (fs : List ℕ). AreApart fs) (sym files_are) (apart_push (tree_file l d y.tree) (files_of r l d u) now.apart far);
    indexes = subst (λ (xs : List (Side L D)). AllStand s l d xs b rows) (sym sides_are) (stand_push u.sides.items y b rows now.indexes one);
  }
    where
      files_are : files_of r l d t' ≡ files_of r l d u ++ tree_file l d y.tree ∷ []
      files_are = ap (λ (v : R). r.file_of v ∷ files l d t'.sides.items) rows_are ∙ ap (λ (fs : List ℕ). r.file_of u.rows ∷ fs) (ap (files l d) sides_are ∙ files_push u.sides.items y)

  pub admitted : (x y : Side L D) (ks : List (List ℕ)) (t u t' : Table R L D) (a b : S) (fits : Bool) → fits ≡ true → JudgesSide s r l d x ks t a fits → Reads s (Holds s r l d) t u a b → ((ps : List Pair) → TreeHolds s l d x.tree a ps → TreeHolds s l d y.tree b ps)
      → StaysTable r l d t u → StaysSide l d x y → u.sides ≡ t.sides → t'.rows ≡ u.rows → t'.sides.items ≡ u.sides.items ++ y ∷ [] → Admits s r l d x ks fits t t' a b
  admitted x y ks t u t' a b fits is judges reads tree stays side same rows_are sides_are = record {
    now = reads.now;
    touched = reads.touched;
    sound = reads.sound;
    rows = subst (λ (v : R). StaysRows r t.rows v) (sym rows_are) stays.rows;
    taken = λ e. (y, side, sides_are ∙ ap (λ v. v.items ++ y ∷ []) same);
    means = λ e rows ps are h held away order.
        let now = reads.means rows h in
        let owed_is : AreOwed (parts_of x.kind (name_of x.tree) rows) ps = (judges rows ps are h held).0 is in
        let stands : TreeStands s l d y.tree b (parts_of y.kind (name_of y.tree) rows) =
        subst (λ (k : IndexKind). TreeStands s l d y.tree b (parts_of k (name_of y.tree) rows)) (sym side.kind)
        (subst (λ (n : List ℕ). TreeStands s l d y.tree b (parts_of x.kind n rows)) (sym side.tree.name) (stands_by y.tree b (parts_of x.kind (name_of x.tree) rows) ps (tree ps held) owed_is)) in
        let one : SideStands s l d y b rows = record { fits = side.tree.order ∙ (order ∙ ap asks_decimal (sym side.kind)); stands = stands } in
        with_side u t' y b rows rows_are sides_are (far away) now one;
    left = λ e. absurd (let f : true ≡ false = sym is ∙ e in cc);
    still = λ e. absurd (let f : true ≡ false = sym is ∙ e in cc);
  }
    where
      far : IsAway (tree_file l d x.tree) (files_of r l d t) → IsAway (tree_file l d y.tree) (files_of r l d u)
      far away =
          subst (λ (f : ℕ). IsAway f (files_of r l d u)) (sym side.tree.file)
          (subst (λ (fs : List ℕ). IsAway (tree_file l d x.tree) fs) (sym (ap (λ (f : ℕ). f ∷ files l d u.sides.items) stays.rows.file ∙ ap (λ v. r.file_of t.rows ∷ files l d v.items) same)) away)

  pub not_admitted : (x : Side L D) (ks : List (List ℕ)) (t u : Table R L D) (a b : S) (fits : Bool) → fits ≡ false → Reads s (Holds s r l d) t u a b → StaysTable r l d t u → Admits s r l d x ks fits t u a b
  not_admitted x ks t u a b fits is reads stays = record {
    now = reads.now;
    touched = reads.touched;
    sound = reads.sound;
    rows = stays.rows;
    taken = λ e. absurd (let f : false ≡ true = sym is ∙ e in cc);
    means = λ e. absurd (let f : false ≡ true = sym is ∙ e in cc);
    left = λ e. reads;
    still = λ e. stays.sides;
  }

  -- where there was no memory to take it in
  pub stays_on : (t u t' : Table R L D) → t'.rows ≡ u.rows → t'.sides.items ≡ u.sides.items → StaysTable r l d t u → StaysTable r l d t t'
  stays_on t u t' rows_are sides_are stays = record { rows = subst (λ (v : R). StaysRows r t.rows v) (sym rows_are) stays.rows; sides = subst (λ (xs : List (Side L D)). AllStay l d t.sides.items xs) (sym sides_are) stays.sides }

  pub reads_on : (t u t' : Table R L D) (a b : S) → t'.rows ≡ u.rows → t'.sides.items ≡ u.sides.items → Reads s (Holds s r l d) t u a b → Reads s (Holds s r l d) t t' a b
  reads_on t u t' a b rows_are sides_are reads = record {
    now = reads.now;
    touched = reads.touched;
    sound = reads.sound;
    means = λ rows h.
        let now = reads.means rows h in
        record {
          store = now.store;
          held = subst (λ (v : R). In s r.file_of r.holds v b now.store) (sym rows_are) now.held;
          spelled = now.spelled;
          are = now.are;
          apart = subst (λ (fs : List ℕ). AreApart fs) (sym (ap (λ (v : R). r.file_of v ∷ files l d t'.sides.items) rows_are ∙ ap (λ (xs : List (Side L D)). r.file_of u.rows ∷ files l d xs) sides_are)) now.apart;
          indexes = subst (λ (xs : List (Side L D)). AllStand s l d xs b rows) (sym sides_are) now.indexes;
        };
  }
