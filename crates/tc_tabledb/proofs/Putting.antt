-- The rows of texts put, one behind the other.
use Rattle.std.proofs.Common.{◌≡◌, ◌∙◌, ℕ, suc, ◌+◌, Bool, List, [], ◌∷◌, ◌++◌, length, Option, Some, refl, sym, ap, subst, append_assoc, arith}
use Rattle.std.specs.Prelude.{option_and_then, take, unwrap_or}
use Rattle.std.specs.FinMap.{entries}
use Rattle.std.specs.declared.cmp.Ordering.{Ordering}
use Rattle.std.proofs.lemmas.List.{append-nil}
use Rattle.std.proofs.lemmas.List.Sums.{fold-append}
use Rattle.tc_base.specs.Maps.{Map}
use Rattle.tc_base.specs.declared.kind.Mode.TheVariants.{Over}
use Rattle.tc_maps.specs.Sizes.{entries_on}
use Rattle.tc_hashdb.proofs.Several.{all_entries}
use Rattle.tc_space.specs.Frames.{GivenUp, Keeps, keeps_refl, keeps_then}
use Rattle.tc_space.specs.Stores.{IsReady}
use Rattle.tc_space.specs.declared.multi.Multi as multi
use Rattle.tc_space.specs.declared.records.Records as records
use Rattle.tc_space.specs.declared.space.Space.{Ghosts}
use Rattle.tc_model.specs.Contents.{Rows}
use Rattle.tc_model.specs.Rows.{Row, row_of_text}
use Rattle.tc_model.specs.Stores.{put_row}
use Rattle.tc_table.specs.Tables.{FullPut, Holds, Makes, StaysTable}
use Rattle.tc_table.specs.declared.table.Table.{Table}
use Rattle.tc_table.proofs.Holding.{stays_then, table_stays}
use Rattle.tc_tabledb.specs.Storing.{FullText, FullTexts, PutsAll, Told, all_put, one_put}
use Rattle.tc_tabledb.proofs.Dropped.{made_rows, others_then}

take_front : (xs ys : List Told) → take (length xs) (xs ++ ys) ≡ xs
take_front [] ys = refl
take_front (x ∷ xs) ys = ap (λ (l : List Told). x ∷ l) (take_front xs ys)

take_one : (xs : List Told) (y : Told) (ys : List Told) → take (length xs + 1) (xs ++ y ∷ ys) ≡ xs ++ y ∷ []
take_one [] y ys = refl
take_one (x ∷ xs) y ys = ap (λ (n : ℕ). take n (x ∷ xs ++ y ∷ ys)) (next (length xs)) ∙ ap (λ (l : List Told). x ∷ l) (take_one xs y ys)
  where
    next : (n : ℕ) → suc n + 1 ≡ suc (n + 1)
    next n = omega arith

next_put : (xs : List Told) (e : Told) (m : Rows) → all_put (xs ++ e ∷ []) m ≡ one_put e (all_put xs m)
next_put xs e m = fold-append (λ (n : Rows) (x : Told). one_put x n) m xs (e ∷ [])

-- the row that was read is that of the text
one_is : (e : Told) (key text : List ℕ) (o : Option Row) (row : Row) (m : Rows) → key ≡ e.0 → text ≡ e.1 → o ≡ row_of_text text → o ≡ Some row → unwrap_or (put_row Over m key row) m ≡ one_put e m
one_is e key text o row m key_is text_is told some =
    ap (λ (k : List ℕ). unwrap_or (put_row Over m k row) m) key_is
    ∙ ap (λ (x : Option Row). unwrap_or (option_and_then (put_row Over m e.0) x) m) (sym some ∙ (told ∙ ap row_of_text text_is))

-- the pairs of a map from its first key on
pub told_from : (all items : List Told) (least key : List ℕ) (m : Map) → all ≡ items → items ≡ entries_on least m → least ≡ key → key ≡ [] → all ≡ entries_on [] m
told_from all items least key m gives are is none = gives ∙ (are ∙ (ap (λ (k : List ℕ). entries_on k m) is ∙ ap (λ (k : List ℕ). entries_on k m) none))

module _ {S R L OL D OD : Type 0} (s : Ghosts S) (r : records.Ghosts R S) (l : multi.Ghosts L S OL) (d : multi.Ghosts D S OD) where
  -- these were put, and those are left of all
  pub record Putting (t u : Table R L D) (a b : S) (all rest : List Told) : Type 0 where
    pub done : List Told
    pub split : all ≡ done ++ rest
    pub so_far : PutsAll s r l d done t u a b
    pub stays : StaysTable r l d t u
    pub since : Keeps s a b

  pub put_start : (t : Table R L D) (a : S) (all : List Told) → s.sound a → Putting t t a a all all
  put_start t a all sound = record { done = []; split = refl; so_far = record { sound = sound; means = λ rows h. h; others = record { same = λ tells g away. refl } }; stays = table_stays s r l d t; since = keeps_refl s a }

  pub put_ready : (t u : Table R L D) (a b : S) (all rest : List Told) → Putting t u a b all rest → IsReady s (Holds s r l d) t a → IsReady s (Holds s r l d) u b
  put_ready t u a b all rest putting ready = record { sound = putting.so_far.sound; held = λ tells. let h = ready.held tells in (all_put putting.done h.0, putting.so_far.means h.0 h.1) }

  pub put_more : (t u v : Table R L D) (a b c : S) (all rest next : List Told) (e : Told) (key text : List ℕ) (o : Option Row) (row : Row) (done : Bool) → Putting t u a b all rest → rest ≡ e ∷ next → key ≡ e.0 → text ≡ e.1 → o ≡ row_of_text text → o ≡ Some row
      → Makes s r l d (λ rows. put_row Over rows key row) done u v b c → Keeps s b c → StaysTable r l d u v → Putting t v a c all next
  put_more t u v a b c all rest next e key text o row done putting is key_is text_is told some makes keeps stays = record {
    done = putting.done ++ e ∷ [];
    split = putting.split ∙ (ap (λ (xs : List Told). putting.done ++ xs) is ∙ sym (append_assoc putting.done (e ∷ []) next));
    so_far = record {
      sound = makes.sound;
      means = λ rows h.
          let m : Rows = all_put putting.done rows in
          subst (Holds s r l d v c) (one_is e key text o row m key_is text_is told some ∙ sym (next_put putting.done e rows)) (made_rows s r l d (λ x. put_row Over x key row) done u v b c m makes (putting.so_far.means rows h));
      others = others_then s r l d t u a b c putting.stays putting.so_far.others makes.others;
    };
    stays = stays_then s r l d t u v putting.stays stays;
    since = keeps_then s a b c putting.since keeps;
  }

  pub put_end : (t u : Table R L D) (a b : S) (all rest : List Told) (m : Map) (putting : Putting t u a b all rest) → rest ≡ [] → all ≡ entries_on [] m → PutsAll s r l d (entries m) t u a b
  put_end t u a b all rest m putting none is =
      subst (λ (xs : List Told). PutsAll s r l d xs t u a b) (sym (append-nil putting.done) ∙ (ap (λ (xs : List Told). putting.done ++ xs) (sym none) ∙ (sym putting.split ∙ (is ∙ all_entries m)))) putting.so_far

  module _ (lc dc : List ℕ → List ℕ → Ordering) where
    pub put_full : (t u : Table R L D) (a b c : S) (all rest next : List Told) (e : Told) (key text : List ℕ) (o : Option Row) (row : Row) (m : Map) (putting : Putting t u a b all rest) → rest ≡ e ∷ next → key ≡ e.0 → text ≡ e.1 → o ≡ row_of_text text → o ≡ Some row → all ≡ entries_on [] m
        → FullPut s r l d lc dc Over key row u b c → FullText s r l d lc dc (entries m) t a c
    put_full t u a b c all rest next e key text o row m putting is key_is text_is told some all_is full =
        subst (λ (xs : List Told). FullText s r l d lc dc xs t a c) (all_is ∙ all_entries m) (record {
          done = length putting.done;
          entry = e;
          next = ap (take (length putting.done + 1)) parts ∙ (take_one putting.done e next ∙ ap (λ (xs : List Told). xs ++ e ∷ []) (sym front));
          table = u;
          moment = b;
          so_far = subst (λ (xs : List Told). PutsAll s r l d xs t u a b) (sym front) putting.so_far;
          stays = putting.stays;
          since = putting.since;
          row = row;
          row_is = ap row_of_text (sym text_is) ∙ (sym told ∙ some);
          full = subst (λ (k : List ℕ). FullPut s r l d lc dc Over k row u b c) key_is full;
        })
      where
        parts : all ≡ putting.done ++ e ∷ next
        parts = putting.split ∙ ap (λ (xs : List Told). putting.done ++ xs) is

        front : take (length putting.done) all ≡ putting.done
        front = ap (take (length putting.done)) (putting.split ∙ ap (λ (xs : List Told). putting.done ++ xs) is) ∙ take_front putting.done (e ∷ next)

    pub given_texts : (es : List Told) (t : Table R L D) (a b c : S) → FullText s r l d lc dc es t a b → GivenUp s b c → FullTexts s r l d lc dc es t a c
    given_texts es t a b c met given = record { refused = b; met = met; given_up = given }
