-- An index that came to a table, and one that went.
use Rattle.std.proofs.Common.{◌≡◌, ◌∙◌, ℕ, zero, suc, ◌+◌, ◌<◌, ◌≤◌, Bool, true, false, cond, List, [], ◌∷◌, ◌++◌, length, take, drop, get_or, Option, Some, None, refl, sym, ap, subst, arith}
use Rattle.std.specs.Prelude.{◌||◌, is_some, slice_get}
use Rattle.std.specs.List.{slice_index_or}
use Rattle.std.specs.Ordering.{nat_cmp}
use Rattle.std.specs.Cmp.Lexicographic.{slice_cmp}
use Rattle.std.specs.FinMap.{empty, get, get-empty, insert, keys}
use Rattle.std.specs.declared.cmp.Ordering.{Ordering}
use Rattle.std.proofs.lemmas.List.{take_all}
use Rattle.tc_base.specs.Texts.{is_text}
use Rattle.tc_space.specs.Frames.{Keeps, Others, Reads, keeps_refl, keeps_then, others_refl}
use Rattle.tc_space.specs.Stores.{IsReady, Only}
use Rattle.tc_space.specs.declared.space.Space.{Ghosts}
use Rattle.tc_space.specs.declared.records.Records as records
use Rattle.tc_space.specs.declared.multi.Multi as multi
use Rattle.tc_model.specs.Contents.{Rows}
use Rattle.tc_model.specs.Rows.{Row}
use Rattle.tc_model.specs.Texts.{is_among}
use Rattle.td_index.specs.Checks.{StaysRows}
use Rattle.td_index.specs.Entries.{one, times}
use Rattle.td_index.proofs.Counting.{one_true, text_is, text_refl, times_push}
use Rattle.td_index.proofs.Listed.{up_to}
use Rattle.td_plan.specs.Choices.{IsFirst, NoneBefore}
use Rattle.td_plan.proofs.Planning.{within}
use Rattle.tc_table.specs.Adding.{Adds, AddsRow, Fills, FullAt, FullIn, FullRow, HasNone, HasThose, IsApart, IsListed, IsNew, Removes, is_of}
use Rattle.tc_table.specs.Full.{SideFull}
use Rattle.tc_table.specs.Parts.{parts_of, parts_of_row}
use Rattle.tc_table.specs.Sides.{AllStay, IsAway, SideTurns, StaysSide, TreeReady, files, name_of, tree_file}
use Rattle.tc_table.specs.Tables.{Holds, StaysTable, files_of}
use Rattle.tc_table.specs.declared.side.Side.{Side}
use Rattle.tc_table.specs.declared.table.Table.{Table}
use Rattle.tc_table.proofs.Holding.{stays_then, table_stays}
use Rattle.tc_table.proofs.Naming.{rows_once, some_among, times_rows}
use Rattle.tc_table.proofs.Opened.{with_side}
use Rattle.tc_table.proofs.Spelled.{next_set}
use Rattle.tc_table.proofs.Turning.{all_still, files_stay, side_stays, side_still, side_then, told_ready, tree_as, tree_ready_still}

-- ---- keys that were taken

times_take : (k : List ℕ) (n : ℕ) (ks : List (List ℕ)) → times k (take n ks) ≤ times k ks
times_take k zero ks = omega arith
times_take k (suc n) [] = omega arith
times_take k (suc n) (j ∷ ks) = omega (arith, times_take k n ks)

none_among : (k : List ℕ) (ks : List (List ℕ)) → times k ks ≡ 0 → is_among k ks ≡ false
none_among k ks none = go (is_among k ks) refl
  where
    go : (b : Bool) → is_among k ks ≡ b → b ≡ false
    go false e = refl
    go true e = absurd (omega (arith, none, (some_among k ks).0 e))

among_push : (k at : List ℕ) (ks : List (List ℕ)) → is_among k (ks ++ at ∷ []) ≡ (is_among k ks || is_text k at)
among_push k at [] = last (is_text k at)
  where
    last : (b : Bool) → (b || false) ≡ b
    last true = refl
    last false = refl
among_push k at (j ∷ ks) = ap (λ b. is_text k j || b) (among_push k at ks) ∙ turned (is_text k j) (is_among k ks) (is_text k at)
  where
    turned : (a b c : Bool) → (a || (b || c)) ≡ ((a || b) || c)
    turned true b c = refl
    turned false b c = refl

-- the next key isn't among those that were taken
next_new : (rows : Rows) (ks : List (List ℕ)) (i : ℕ) (k at : List ℕ) → ks ≡ keys rows → i < length ks → k ≡ get_or ks i k → at ≡ k → is_among at (take i ks) ≡ false
next_new rows ks i k at are less is same =
    none_among at (take i ks)
    (omega (arith, times_take at (i + 1) ks, ap (times at) (up_to ks i k at less is same), times_push at at (take i ks), one_true (is_text at at) (text_refl at), ap (times at) are, rows_once rows at))

-- the row under a key that wasn't taken yet
is_absent : (rows : Rows) (ks : List (List ℕ)) (k : List ℕ) → ks ≡ keys rows → is_among k ks ≡ false → get rows k ≡ None
is_absent rows ks k are none = go (get rows k) (omega (arith, times_rows rows k, ap (times k) are, (some_among k ks).1 none))
  where
    go : (o : Option Row) → one (is_some o) ≡ 0 → o ≡ None
    go None e = refl
    go (Some row) e = absurd (omega (arith, e))

-- one key more
taken_more : (rows taken : Rows) (before : List (List ℕ)) (at : List ℕ) (row : Row) → get rows at ≡ Some row → ((k : List ℕ) → get taken k ≡ cond (is_among k before) (get rows k) None) → (k : List ℕ) → get (insert taken at row) k ≡ cond (is_among k (before ++ at ∷ [])) (get rows k) None
taken_more rows taken before at row there are k =
    next_set taken at row k ∙ (go (is_text k at) refl ∙ ap (λ (b : Bool). cond b (get rows k) None) (sym (among_push k at before)))
  where
    both : (b : Bool) → (b || true) ≡ true
    both true = refl
    both false = refl

    neither : (b : Bool) → (b || false) ≡ b
    neither true = refl
    neither false = refl

    go : (t : Bool) → is_text k at ≡ t → cond t (Some row) (get taken k) ≡ cond (is_among k before || is_text k at) (get rows k) None
    go true is =
        sym there ∙ (ap (get rows) (sym (text_is k at is)) ∙ ap (λ (b : Bool). cond b (get rows k) None) (sym (ap (λ b. is_among k before || b) is ∙ both (is_among k before))))
    go false is = are k ∙ ap (λ (b : Bool). cond b (get rows k) None) (sym (ap (λ b. is_among k before || b) is ∙ neither (is_among k before)))

all_taken : (rows taken : Rows) (ks : List (List ℕ)) → ks ≡ keys rows → ((k : List ℕ) → get taken k ≡ cond (is_among k ks) (get rows k) None) → (k : List ℕ) → get rows k ≡ get taken k
all_taken rows taken ks keys_are are k = go (is_among k ks) refl
  where
    go : (b : Bool) → is_among k ks ≡ b → get rows k ≡ get taken k
    go true e = sym (are k ∙ ap (λ (b : Bool). cond b (get rows k) None) e)
    go false e = is_absent rows ks k keys_are e ∙ sym (are k ∙ ap (λ (b : Bool). cond b (get rows k) None) e)

-- ---- an index that is filled

module _ {S R L OL D OD : Type 0} (s : Ghosts S) (r : records.Ghosts R S) (l : multi.Ghosts L S OL) (d : multi.Ghosts D S OD) where
  pub files_same : (t u : Table R L D) → StaysTable r l d t u → files_of r l d u ≡ files_of r l d t
  files_same t u stays = ap (λ (f : ℕ). f ∷ files l d u.sides.items) stays.rows.file ∙ ap (λ (fs : List ℕ). r.file_of t.rows ∷ fs) (files_stay s l d t.sides.items u.sides.items stays.sides)

  -- where its own files stay
  pub holds_still : (t : Table R L D) (f : ℕ) (a b : S) (rows : Rows) → IsAway f (files_of r l d t) → Others s (Only f) a b → Holds s r l d t a rows → Holds s r l d t b rows
  holds_still t f a b rows away others h = record {
    store = h.store;
    held = (h.held.0, subst (λ (bytes : List ℕ). r.holds t.rows bytes h.store) (sym (others.same h.held.0 (r.file_of t.rows) (λ e. away.0 (sym e)))) h.held.1);
    spelled = h.spelled;
    are = h.are;
    apart = h.apart;
    indexes = all_still s l d f t.sides.items a b rows away.1 others h.indexes;
  }

  still_apart : (x y : Side L D) (t u : Table R L D) → StaysSide l d x y → StaysTable r l d t u → IsApart s r l d x t → IsApart s r l d y u
  still_apart x y t u side stays away tells = subst (λ (f : ℕ). IsAway f (files_of r l d u)) (sym side.tree.file) (subst (λ (fs : List ℕ). IsAway (tree_file l d x.tree) fs) (sym (files_same t u stays)) (away tells))

  pub row_added : (key : List ℕ) (x y : Side L D) (t u : Table R L D) (row : Row) (a b c : S) → IsApart s r l d x t → StaysTable r l d t u → Reads s (Holds s r l d) t u a b → ((rows : Rows) → Holds s r l d t a rows → Some row ≡ get rows key)
      → SideTurns s l d key None (Some row) x y b c → AddsRow s r l d key x y t u a c
  row_added key x y t u row a b c away stays reads got turns = record {
    sound = turns.sound;
    row = λ rows h. (row, sym (got rows h), λ m n st none next. turns.means m n (side_still s l d x a b m (λ tells. reads.now tells (tree_file l d x.tree)) st) none next);
    means = λ rows h.
        let now = reads.means rows h in
        holds_still u (tree_file l d x.tree) b c rows (subst (λ (fs : List ℕ). IsAway (tree_file l d x.tree) fs) (sym (files_same t u stays)) (away h.held.0)) turns.others now;
    others = record { same = λ tells g other. turns.others.same tells g other ∙ reads.now tells g };
  }

  -- ---- rows that it was given so far

  pub record Filling (ks : List (List ℕ)) (i : ℕ) (x y : Side L D) (t u : Table R L D) (a b : S) : Type 0 where
    pub sound : s.sound b
    pub held : s.tells → (rows : Rows) × (ks ≡ keys rows) × Holds s r l d u b rows × HasThose s r l d (take i ks) rows y b
    pub away : IsApart s r l d y u
    pub keeps : Keeps s a b
    pub stays : StaysTable r l d t u
    pub side : StaysSide l d x y
    pub so_far : (rows : Rows) → ks ≡ keys rows → Holds s r l d t a rows → Holds s r l d u b rows × HasThose s r l d (take i ks) rows y b
    pub others : Others s (Only (tree_file l d x.tree)) a b

  pub none_filled : (ks : List (List ℕ)) (x : Side L D) (t : Table R L D) (a : S) → s.sound a → IsListed s r l d ks t a → IsNew s r l d x t a → Filling ks 0 x x t t a a
  none_filled ks x t a sound listed fresh = record {
    sound = sound;
    held = λ tells. let h = listed tells in (h.0, h.2, h.1, none h.0 tells);
    away = fresh.away;
    keeps = keeps_refl s a;
    stays = table_stays s r l d t;
    side = side_stays s l d x;
    so_far = λ rows are h. (h, none rows h.held.0);
    others = others_refl s (Only (tree_file l d x.tree)) a;
  }
    where
      none : (rows : Rows) → s.tells → HasThose s r l d [] rows x a
      none rows tells = record { taken = empty; stands = fresh.none tells; are = λ k. get-empty (slice_cmp nat_cmp) k }

  pub filling_ready : (ks : List (List ℕ)) (i : ℕ) (x y : Side L D) (t u : Table R L D) (a b : S) → Filling ks i x y t u a b → IsReady s (Holds s r l d) u b
  filling_ready ks i x y t u a b filling = record { sound = filling.sound; held = λ tells. let h = filling.held tells in (h.0, h.2) }

  pub filling_tree : (ks : List (List ℕ)) (i : ℕ) (x y : Side L D) (t u : Table R L D) (a b : S) → Filling ks i x y t u a b → TreeReady s l d y.tree b
  filling_tree ks i x y t u a b filling = told_ready s l d y.tree b filling.sound (λ tells. let those = (filling.held tells).3 in (parts_of y.kind (name_of y.tree) those.taken, those.stands.stands))

  those_more : (ks : List (List ℕ)) (i : ℕ) (k at : List ℕ) (x y : Side L D) (t u : Table R L D) (a b : S) (rows : Rows) → i < length ks → k ≡ get_or ks i k → at ≡ k → ks ≡ keys rows → AddsRow s r l d at x y t u a b → Holds s r l d t a rows
      → HasThose s r l d (take i ks) rows x a → HasThose s r l d (take (i + 1) ks) rows y b
  those_more ks i k at x y t u a b rows less is same are adds h those =
      let row = adds.row rows h in
      let new : is_among at (take i ks) ≡ false = next_new rows ks i k at are less is same in
      record {
        taken = insert those.taken at row.0;
        stands = row.2 those.taken (insert those.taken at row.0) those.stands (those.are at ∙ ap (λ (q : Bool). cond q (get rows at) None) new) (next_set those.taken at row.0);
        are = λ q. taken_more rows those.taken (take i ks) at row.0 row.1 those.are q ∙ ap (λ (ls : List (List ℕ)). cond (is_among q ls) (get rows q) None) (sym (up_to ks i k at less is same));
      }

  pub more_filled : (ks : List (List ℕ)) (i : ℕ) (k at : List ℕ) (x y z : Side L D) (t u v : Table R L D) (a b c : S) → i < length ks → k ≡ get_or ks i k → at ≡ k → Filling ks i x y t u a b → AddsRow s r l d at y z u v b c
      → Keeps s b c → StaysTable r l d u v → StaysSide l d y z → Filling ks (i + 1) x z t v a c
  more_filled ks i k at x y z t u v a b c less is same filling adds keeps stays side = record {
    sound = adds.sound;
    held = λ tells.
        let h = filling.held tells in
        (h.0, h.1, adds.means h.0 h.2, those_more ks i k at y z u v b c h.0 less is same h.1 adds h.2 h.3);
    away = still_apart y z u v side stays filling.away;
    keeps = keeps_then s a b c filling.keeps keeps;
    stays = stays_then s r l d t u v filling.stays stays;
    side = side_then s l d x y z filling.side side;
    so_far = λ rows are h.
        let old = filling.so_far rows are h in
        (adds.means rows old.0, those_more ks i k at y z u v b c rows less is same are adds old.0 old.1);
    others = record { same = λ tells g other. adds.others.same tells g (λ e. other (e ∙ filling.side.tree.file)) ∙ filling.others.same tells g other };
  }

  pub all_filled : (ks : List (List ℕ)) (i : ℕ) (x y : Side L D) (t u : Table R L D) (a b : S) → length ks ≤ i → Filling ks i x y t u a b → Fills s r l d ks x y t u a b
  all_filled ks i x y t u a b all filling = record {
    sound = filling.sound;
    means = λ rows are h.
        let now = filling.so_far rows are h in
        let those : HasThose s r l d ks rows y b = subst (λ (ls : List (List ℕ)). HasThose s r l d ls rows y b) (take_all i ks all) now.1 in (
          now.0,
          record {
            fits = those.stands.fits;
            stands = tree_as s l d y.tree b (parts_of y.kind (name_of y.tree) those.taken) (parts_of y.kind (name_of y.tree) rows)
                (λ k v. ap (λ (o : Option Row). times v (parts_of_row y.kind (name_of y.tree) o)) (all_taken rows those.taken ks are those.are k)) those.stands.stands;
          },
        );
    others = filling.others;
  }

  -- ---- an index that was taken in

  pub new_still : (x : Side L D) (t u : Table R L D) (a b : S) → Reads s (Holds s r l d) t u a b → StaysTable r l d t u → IsNew s r l d x t a → IsNew s r l d x u b
  new_still x t u a b reads stays fresh = record {
    ready = tree_ready_still s l d x.tree a b reads.sound (λ tells. reads.now tells (tree_file l d x.tree)) fresh.ready;
    away = still_apart x x t u (side_stays s l d x) stays fresh.away;
    none = λ tells. side_still s l d x a b empty (λ told. reads.now told (tree_file l d x.tree)) (fresh.none tells);
  }

  pub was_listed : (ks xs : List (List ℕ)) (t u : Table R L D) (a b : S) → IsReady s (Holds s r l d) t a → Reads s (Holds s r l d) t u a b → ((rows : Rows) → Holds s r l d t a rows → ks ≡ keys rows) → xs ≡ ks → IsListed s r l d xs u b
  was_listed ks xs t u a b ready reads are same tells = let h = ready.held tells in (h.0, reads.means h.0 h.1, same ∙ are h.0 h.1)

  pub was_added : (ks xs : List (List ℕ)) (x y : Side L D) (t u v t' : Table R L D) (a b c : S) → Reads s (Holds s r l d) t u a b → StaysTable r l d t u → StaysTable r l d u v → ((rows : Rows) → Holds s r l d t a rows → ks ≡ keys rows) → xs ≡ ks → Fills s r l d xs x y u v b c
      → StaysSide l d x y → IsApart s r l d x t → t'.rows ≡ v.rows → t'.sides.items ≡ v.sides.items ++ y ∷ [] → Adds s r l d x t t' a c
  was_added ks xs x y t u v t' a b c reads stays later are same fills side away rows_are sides_are = record {
    sound = fills.sound;
    front = v.sides.items;
    side = y;
    parted = sides_are;
    rows = subst (StaysRows r t.rows) (sym rows_are) (stays_then s r l d t u v stays later).rows;
    stay = (stays_then s r l d t u v stays later).sides;
    stays = side;
    means = λ rows h.
        let now = fills.means rows (same ∙ are rows h) (reads.means rows h) in
        with_side s r l d v t' y c rows rows_are sides_are (still_apart x y u v side later (still_apart x x t u (side_stays s l d x) stays away) h.held.0) now.0 now.1;
    others = record { same = λ tells g other. fills.others.same tells g other ∙ reads.now tells g };
  }

  -- ---- where a limit was reached

  module _ (lc dc : List ℕ → List ℕ → Ordering) where
    pub full_at : (key : List ℕ) (x : Side L D) (t u : Table R L D) (row : Row) (a b c : S) → Reads s (Holds s r l d) t u a b → Keeps s a b → ((rows : Rows) → Holds s r l d t a rows → Some row ≡ get rows key) → SideFull s l d lc dc key None (Some row) x b c → FullAt s r l d lc dc key x t a c
    full_at key x t u row a b c reads keeps got full = record { row = row; had = λ rows h. sym (got rows h); moment = b; same = reads.now; since = keeps; full = full }

    pub full_row : (ks : List (List ℕ)) (i : ℕ) (k at : List ℕ) (x y : Side L D) (t u : Table R L D) (a b c : S) → i < length ks → k ≡ get_or ks i k → at ≡ k → Filling ks i x y t u a b → FullAt s r l d lc dc at y u b c → FullRow s r l d lc dc ks x t a c
    full_row ks i k at x y t u a b c less is same filling full = record {
      key = at;
      row = full.row;
      had = λ rows are h. full.had rows (filling.so_far rows are h).0;
      side = y;
      like = filling.side;
      moment = full.moment;
      since = keeps_then s a b full.moment filling.keeps full.since;
      others = record { same = λ tells g other. full.same tells g ∙ filling.others.same tells g other };
      done = i;
      front = take i ks;
      are = refl;
      next = up_to ks i k at less is same;
      fresh = λ rows are. next_new rows ks i k at are less is same;
      some = λ rows are h.
          let those = (filling.so_far rows are h).1 in
          record { taken = those.taken; stands = side_still s l d y b full.moment those.taken (λ tells. full.same tells (tree_file l d y.tree)) those.stands; are = those.are };
      full = full.full;
    }

    pub full_in : (ks xs : List (List ℕ)) (x : Side L D) (t u : Table R L D) (a b c : S) → Reads s (Holds s r l d) t u a b → Keeps s a b → ((rows : Rows) → Holds s r l d t a rows → ks ≡ keys rows) → xs ≡ ks → FullRow s r l d lc dc xs x u b c → FullIn s r l d lc dc x t a c
    full_in ks xs x t u a b c reads keeps are same full = record { table = u; begun = b; reads = reads; before = keeps; all = xs; are = λ rows h. same ∙ are rows h; met = full }

-- ---- an index that went

-- the item at a place inside
pub placed : {A : Type 0} (xs : List A) (i : ℕ) (y : A) → i < length xs → y ≡ get_or xs i y → slice_get xs i ≡ Some y
placed [] i y less is = absurd (omega (arith, less))
placed (x ∷ xs) zero y less is = ap Some (sym is)
placed (x ∷ xs) (suc i) y less is = placed xs i y (omega (arith, less)) is

some_is : {A : Type 0} (a b : A) → Some a ≡ Some b → a ≡ b
some_is a b e = cc

index_is : {A : Type 0} (xs : List A) (i : ℕ) (x e : A) → slice_get xs i ≡ Some x → e ≡ slice_index_or xs i e → e ≡ x
index_is [] i x e there is = absurd (let f : None ≡ Some x = there in cc)
index_is (y ∷ ys) zero x e there is = is ∙ some_is y x there
index_is (y ∷ ys) (suc i) x e there is = index_is ys i x e there is

parted_at : {A : Type 0} (xs : List A) (i : ℕ) (x : A) → slice_get xs i ≡ Some x → xs ≡ take i xs ++ x ∷ drop (suc i) xs
parted_at [] i x there = absurd (let f : None ≡ Some x = there in cc)
parted_at (y ∷ ys) zero x there = ap (λ z. z ∷ ys) (some_is y x there)
parted_at (y ∷ ys) (suc i) x there = ap (λ l. y ∷ l) (parted_at ys i x there)

pub removed : {R L D : Type 0} (name : List ℕ) (t t' : Table R L D) (i : ℕ) (e : Side L D) → IsFirst (is_of name) t.sides.items i → e ≡ slice_index_or t.sides.items i e → t'.sides.items ≡ take i t.sides.items ++ drop (i + 1) t.sides.items → t'.rows ≡ t.rows → Removes name e t t'
removed name t t' i e first value left rows =
    let next : suc i ≡ i + 1 = omega arith in
    let same : e ≡ first.here.0 = index_is t.sides.items i first.here.0 e first.here.1 value in
    record {
      named = ap (is_of name) same ∙ first.here.2;
      front = take i t.sides.items;
      back = drop (i + 1) t.sides.items;
      parted = parted_at t.sides.items i first.here.0 first.here.1 ∙ (ap (λ x. take i t.sides.items ++ x ∷ drop (suc i) t.sides.items) (sym same) ∙ ap (λ n. take i t.sides.items ++ e ∷ drop n t.sides.items) next);
      left = left;
      rows = rows;
    }

pub none_removed : {R L D : Type 0} (name : List ℕ) (t : Table R L D) (xs : List (Side L D)) → xs ≡ t.sides.items → NoneBefore (is_of name) xs (length xs) → HasNone name t t
none_removed {R} {L} {D} name t xs is none = record { none = subst (λ (ys : List (Side L D)). NoneBefore (is_of name) ys (length ys)) is none; same = refl }

pub first_in : {L D : Type 0} (name : List ℕ) (xs ys : List (Side L D)) (i : ℕ) → xs ≡ ys → IsFirst (is_of name) xs i → IsFirst (is_of name) ys i
first_in {L} {D} name xs ys i is first = subst (λ (zs : List (Side L D)). IsFirst (is_of name) zs i) is first

pub inside : {L D : Type 0} (name : List ℕ) (xs : List (Side L D)) (i : ℕ) → IsFirst (is_of name) xs i → i < length xs
inside name xs i first = within xs i first.here.0 first.here.1
