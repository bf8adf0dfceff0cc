-- Rows that go, one after the other.
use Rattle.std.proofs.Common.{◌≡◌, ◌∙◌, ℕ, ◌+◌, ◌<◌, ◌≤◌, Bool, true, false, List, [], ◌∷◌, ◌++◌, length, Option, Some, None, refl, sym, ap, subst}
use Rattle.std.specs.Prelude.{get_or, is_some, take, unwrap_or, if◌then◌else◌}
use Rattle.std.specs.FinMap.{get, remove}
use Rattle.std.proofs.lemmas.List.{take_all}
use Rattle.std.specs.declared.cmp.Ordering.{Ordering}
use Rattle.tc_space.specs.Frames.{GivenUp, Keeps, keeps_refl, keeps_then}
use Rattle.tc_space.specs.Stores.{IsReady}
use Rattle.tc_space.specs.declared.multi.Multi as multi
use Rattle.tc_space.specs.declared.records.Records as records
use Rattle.tc_space.specs.declared.space.Space.{Ghosts}
use Rattle.tc_model.specs.Contents.{Rows}
use Rattle.tc_model.specs.Maps.{without}
use Rattle.tc_model.specs.Rows.{Row}
use Rattle.td_index.proofs.Listed.{up_to}
use Rattle.tc_table.specs.Sides.{IsAway, OthersAll, files}
use Rattle.tc_table.specs.Tables.{FullOut, Holds, Makes, StaysTable, files_of}
use Rattle.tc_table.specs.declared.table.Table.{Table}
use Rattle.tc_table.proofs.Holding.{stays_then, table_stays}
use Rattle.tc_table.proofs.Turning.{files_stay}
use Rattle.tc_tabledb.specs.Changing.{DropsAll, FullEach, FullGiven, all_out}
use Rattle.tc_tabledb.proofs.Asked.{absent_stays}

-- what a removal makes, whether there was a row or not
outs : (m : Rows) (key : List ℕ) → unwrap_or (without m key) m ≡ remove m key
outs m key = go (get m key) refl
  where
    go : (o : Option Row) → get m key ≡ o → unwrap_or (if is_some (get m key) then Some (remove m key) else None) m ≡ remove m key
    go None is = ap (λ (o : Option Row). unwrap_or (if is_some o then Some (remove m key) else None) m) is ∙ sym (absent_stays m key is)
    go (Some row) is = ap (λ (o : Option Row). unwrap_or (if is_some o then Some (remove m key) else None) m) is

-- one key more, behind the others
out_push : (keys : List (List ℕ)) (key : List ℕ) (rows : Rows) → all_out (keys ++ key ∷ []) rows ≡ remove (all_out keys rows) key
out_push [] key rows = refl
out_push (k ∷ keys) key rows = out_push keys key (remove rows k)

module _ {S R L OL D OD : Type 0} (s : Ghosts S) (r : records.Ghosts R S) (l : multi.Ghosts L S OL) (d : multi.Ghosts D S OD) where
  -- what a change makes, or what stays where it fails
  pub made_rows : (f : Rows → Option Rows) (done : Bool) (t u : Table R L D) (a b : S) (rows : Rows) → Makes s r l d f done t u a b → Holds s r l d t a rows → Holds s r l d u b (unwrap_or (f rows) rows)
  made_rows f true t u a b rows makes h = let n = makes.made refl rows h in subst (λ (o : Option Rows). Holds s r l d u b (unwrap_or o rows)) (sym n.1) n.2
  made_rows f false t u a b rows makes h = subst (λ (o : Option Rows). Holds s r l d u b (unwrap_or o rows)) (sym (makes.fails refl rows h)) ((makes.same refl).means rows h)

  pub others_then : (t u : Table R L D) (a b c : S) → StaysTable r l d t u → OthersAll s (files_of r l d t) a b → OthersAll s (files_of r l d u) b c → OthersAll s (files_of r l d t) a c
  others_then t u a b c stays first second = record {
    same = λ tells g away. second.same tells g ((λ e. away.0 (e ∙ stays.rows.file)), subst (IsAway g) (sym (files_stay s l d t.sides.items u.sides.items stays.sides)) away.1) ∙ first.same tells g away;
  }

  -- the first ones are gone
  pub record Dropping (ks : List (List ℕ)) (i : ℕ) (t u : Table R L D) (a b : S) : Type 0 where
    pub so_far : DropsAll s r l d (take i ks) t u a b
    pub stays : StaysTable r l d t u
    pub since : Keeps s a b

  pub none_dropped : (ks : List (List ℕ)) (t : Table R L D) (a : S) → s.sound a → Dropping ks 0 t t a a
  none_dropped ks t a sound = record { so_far = record { sound = sound; means = λ rows h. h; others = record { same = λ tells g away. refl } }; stays = table_stays s r l d t; since = keeps_refl s a }

  pub dropping_ready : (ks : List (List ℕ)) (i : ℕ) (t u : Table R L D) (a b : S) → Dropping ks i t u a b → IsReady s (Holds s r l d) t a → IsReady s (Holds s r l d) u b
  dropping_ready ks i t u a b dropping ready = record { sound = dropping.so_far.sound; held = λ tells. let h = ready.held tells in (all_out (take i ks) h.0, dropping.so_far.means h.0 h.1) }

  pub more_dropped : (ks : List (List ℕ)) (i : ℕ) (k at : List ℕ) (done : Bool) (t u v : Table R L D) (a b c : S) → i < length ks → k ≡ get_or ks i k → at ≡ k → Dropping ks i t u a b → Makes s r l d (λ rows. without rows at) done u v b c → Keeps s b c → StaysTable r l d u v → Dropping ks (i + 1) t v a c
  more_dropped ks i k at done t u v a b c less is same dropping makes keeps stays = record {
    so_far = record {
      sound = makes.sound;
      means = λ rows h.
          let m : Rows = all_out (take i ks) rows in
          subst (Holds s r l d v c) (outs m at ∙ (sym (out_push (take i ks) at rows) ∙ ap (λ (l : List (List ℕ)). all_out l rows) (sym (up_to ks i k at less is same))))
          (made_rows (λ x. without x at) done u v b c m makes (dropping.so_far.means rows h));
      others = others_then t u a b c dropping.stays dropping.so_far.others makes.others;
    };
    stays = stays_then s r l d t u v dropping.stays stays;
    since = keeps_then s a b c dropping.since keeps;
  }

  pub all_dropped : (ks : List (List ℕ)) (i : ℕ) (t u : Table R L D) (a b : S) → length ks ≤ i → Dropping ks i t u a b → DropsAll s r l d ks t u a b
  all_dropped ks i t u a b all dropping = subst (λ (xs : List (List ℕ)). DropsAll s r l d xs t u a b) (take_all i ks all) dropping.so_far

  module _ (lc dc : List ℕ → List ℕ → Ordering) where
    pub full_dropping : (ks : List (List ℕ)) (i : ℕ) (k at : List ℕ) (t u : Table R L D) (a b c : S) → i < length ks → k ≡ get_or ks i k → at ≡ k → Dropping ks i t u a b → FullOut s r l d lc dc at u b c → FullEach s r l d lc dc ks t a c
    full_dropping ks i k at t u a b c less is same dropping full = record { done = i; key = at; next = up_to ks i k at less is same; table = u; moment = b; so_far = dropping.so_far; stays = dropping.stays; since = dropping.since; full = full }

    pub given_dropping : (ks : List (List ℕ)) (t : Table R L D) (a b c : S) → FullEach s r l d lc dc ks t a b → GivenUp s b c → FullGiven s r l d lc dc ks t a c
    given_dropping ks t a b c met given = record { refused = b; met = met; given_up = given }
