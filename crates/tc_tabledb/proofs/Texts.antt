-- Rows that are put, one key after the other.
use Rattle.std.proofs.Common.{◌≡◌, ◌∙◌, ◌⊎◌, inl, inr, ⊎_elim, ℕ, zero, suc, ◌+◌, Bool, true, false, cond, List, [], ◌∷◌, ◌++◌, length, Option, Some, None, refl, sym, ap, subst, append_assoc}
use Rattle.std.specs.Prelude.{◌||◌, drop, fold, is_some, map, nat_le, option_and_then, option_map, take, unwrap_or}
use Rattle.std.specs.FinMap.{entries, get, get-insert, insert}
use Rattle.std.specs.Cmp.Lexicographic.{nat_list_cmp_total, texts_ties}
use Rattle.std.specs.List.{AllByRecursion}
use Rattle.std.specs.List.Sorted.{IsStrictlySortedBy}
use Rattle.std.specs.Map.{keys_of}
use Rattle.std.specs.Ordering.{is_eq}
use Rattle.std.specs.declared.cmp.Ordering.{Ordering}
use Rattle.std.specs.declared.cmp.Ordering.TheVariants.{Less}
use Rattle.std.proofs.lemmas.Bool.{or_parts}
use Rattle.std.proofs.lemmas.List.Sums.{fold-append}
use Rattle.std.proofs.lemmas.Map.Keys.{sorted_head, sorted_tail}
use Rattle.tc_base.specs.Maps.{Map}
use Rattle.tc_base.specs.Orders.{lexical}
use Rattle.tc_base.specs.Texts.{is_text}
use Rattle.tc_base.specs.declared.kind.Mode.TheVariants.{Over}
use Rattle.tc_base.specs.declared.order.Order.{Ghosts as Orders}
use Rattle.tc_space.specs.declared.multi.Multi as multi
use Rattle.tc_space.specs.declared.records.Records.{Ghosts as Stores}
use Rattle.tc_space.specs.declared.space.Space.{Ghosts}
use Rattle.tc_btree.specs.declared.btree.Btree.{Btree}
use Rattle.tc_hash.specs.declared.hash.Hash.{Hash}
use Rattle.tc_model.specs.Contents.{Rows, table}
use Rattle.tc_model.specs.Rows.{Row, row_of_text, row_text}
use Rattle.tc_model.specs.Stores.{put_row}
use Rattle.tc_model.specs.Texts.{is_among}
use Rattle.tc_model.specs.Well.{AreRows}
use Rattle.td_index.proofs.Counting.{clash, either, text_is, text_refl}
use Rattle.tc_table.specs.Tables.{Holds, row_allowed}
use Rattle.tc_table.specs.declared.table.Table.{Table}
use Rattle.tc_table.proofs.Spelled.{rows_set}
use Rattle.tc_tabledb.specs.Members.{AreTableStores}
use Rattle.tc_tabledb.specs.Holding.{indexes_of}
use Rattle.tc_tabledb.specs.Storing.{FullTexts, Told, all_put, one_put}
use Rattle.tc_tabledb.proofs.Rowed.{text_row}
use Rattle.tc_tabledb.proofs.Limits as limits
use Rattle.tc_tabledb.proofs.Limits.{IsFine, fills_given, fine_still, turned_text}

-- the row of a text, if it may be put
abbrev pub row_told : List ℕ → Option Row
row_told text = option_and_then row_allowed (row_of_text text)

abbrev pub set_told : List ℕ → Option Row → Rows → Rows
set_told key None m = m
set_told key (Some row) m = insert m key row

put_allowed : (key : List ℕ) (m : Rows) (row : Row) → unwrap_or (put_row Over m key row) m ≡ set_told key (row_allowed row) m
put_allowed key m row = go (nat_le (length (row_text row)) 16777216)
  where
    go : (t : Bool) → unwrap_or (option_map (λ (x : List ℕ). insert m key row) (cond {A = Option (List ℕ)} t (Some (row_text row)) None)) m ≡ set_told key (cond (is_some (cond {A = Option (List ℕ)} t (Some (row_text row)) None)) (Some row) None) m
    go true = refl
    go false = refl

put_by : (key : List ℕ) (m : Rows) (o : Option Row) → unwrap_or (option_and_then (put_row Over m key) o) m ≡ set_told key (option_and_then row_allowed o) m
put_by key m None = refl
put_by key m (Some row) = put_allowed key m row

pub put_told : (e : Told) (m : Rows) → one_put e m ≡ set_told e.0 (row_told e.1) m
put_told e m = put_by e.0 m (row_of_text e.1)

told_other : (key : List ℕ) (o : Option Row) (m : Rows) (q : List ℕ) → is_text q key ≡ false → get (set_told key o m) q ≡ get m q
told_other key None m q other = refl
told_other key (Some row) m q other = get-insert nat_list_cmp_total m key row q ∙ ap (λ (t : Bool). cond t (Some row) (get m q)) (sym (texts_ties q key) ∙ other)

put_other : (e : Told) (m : Rows) (q : List ℕ) → is_text q e.0 ≡ false → get (one_put e m) q ≡ get m q
put_other e m q other = ap (λ (n : Rows). get n q) (put_told e m) ∙ told_other e.0 (row_told e.1) m q other

-- ---- keys that come once

abbrev keys : List Told → List (List ℕ)
keys es = map (λ e. e.0) es

abbrev Once : List Told → Type 0
Once [] = Unit {0}
Once (e ∷ es) = (is_among e.0 (keys es) ≡ false) × Once es

less_none : (k : List ℕ) (es : List Told) → AllByRecursion (λ y. lexical k y ≡ Less) (keys_of es) → is_among k (keys es) ≡ false
less_none k [] all = refl
less_none k (e ∷ es) all = ap (λ (t : Bool). t || is_among k (keys es)) (texts_ties k e.0 ∙ ap is_eq all.0) ∙ less_none k es all.1

rising_once : (es : List Told) → IsStrictlySortedBy lexical (keys_of es) → Once es
rising_once [] rising = tt
rising_once (e ∷ es) rising = (less_none e.0 es (sorted_head lexical e.0 (keys_of es) rising), rising_once es (sorted_tail lexical e.0 (keys_of es) rising))

among_back : (k : List ℕ) (es fs : List Told) → is_among k (keys (es ++ fs)) ≡ false → is_among k (keys fs) ≡ false
among_back k [] fs none = none
among_back k (e ∷ es) fs none = among_back k es fs (or_parts (is_text k e.0) (is_among k (keys (es ++ fs))) none).1

once_back : (es fs : List Told) → Once (es ++ fs) → Once fs
once_back [] fs once = once
once_back (e ∷ es) fs once = once_back es fs once.1

-- a key of the first ones is none of those behind
front_alone : (q : List ℕ) (es fs : List Told) → Once (es ++ fs) → is_among q (keys es) ≡ true → is_among q (keys fs) ≡ false
front_alone q [] fs once among = absurd (let bad : false ≡ true = among in cc)
front_alone q (e ∷ es) fs once among = go (front_alone q es fs once.1) (is_text q e.0) refl
  where
    go : (is_among q (keys es) ≡ true → is_among q (keys fs) ≡ false) → (t : Bool) → is_text q e.0 ≡ t → is_among q (keys fs) ≡ false
    go rest true same = subst (λ (k : List ℕ). is_among k (keys fs) ≡ false) (sym (text_is q e.0 same)) (among_back e.0 es fs once.0)
    go rest false other = rest (sym (ap (λ (t : Bool). t || is_among q (keys es)) other) ∙ among)

-- the next one is none of the first ones
next_alone : (es : List Told) (e : Told) (fs : List Told) → Once (es ++ e ∷ fs) → is_among e.0 (keys es) ≡ false
next_alone [] e fs once = refl
next_alone (x ∷ es) e fs once =
    let none = among_back x.0 es (e ∷ fs) once.0 in
    ap (λ (t : Bool). t || is_among e.0 (keys es)) (turned_text x.0 e.0 (or_parts (is_text x.0 e.0) (is_among x.0 (keys fs)) none).0) ∙ next_alone es e fs once.1

-- ---- what several puts leave

apart : (es : List Told) (m : Rows) (q : List ℕ) → is_among q (keys es) ≡ false → get (all_put es m) q ≡ get m q
apart [] m q none = refl
apart (e ∷ es) m q none =
    let both = or_parts (is_text q e.0) (is_among q (keys es)) none in
    apart es (one_put e m) q both.1 ∙ put_other e m q both.0

put_then : (es fs : List Told) (m : Rows) → all_put (es ++ fs) m ≡ all_put fs (all_put es m)
put_then es fs m = fold-append (λ (n : Rows) (e : Told). one_put e n) m es fs

on_the_way : (es fs : List Told) (m : Rows) (q : List ℕ) → Once (es ++ fs) → (get (all_put es m) q ≡ get m q) ⊎ (get (all_put es m) q ≡ get (all_put (es ++ fs) m) q)
on_the_way es fs m q once = ⊎_elim
    (λ among. inr (sym (ap (λ (n : Rows). get n q) (put_then es fs m) ∙ apart fs (all_put es m) q (front_alone q es fs once among))))
    (λ none. inl (apart es m q none))
    (either (is_among q (keys es)))

at_end : (es : List Told) (e : Told) (fs : List Told) (m : Rows) → Once (es ++ e ∷ fs) → get (all_put (es ++ e ∷ fs) m) e.0 ≡ get (one_put e (all_put es m)) e.0
at_end es e fs m once = ap (λ (n : Rows). get n e.0) (put_then es (e ∷ fs) m) ∙ apart fs (one_put e (all_put es m)) e.0 (once_back es (e ∷ fs) once).0

-- ---- they are rows

told_rows : (key text : List ℕ) (m : Rows) (o : Option Row) → o ≡ row_of_text text → AreRows m → AreRows (set_told key (option_and_then row_allowed o) m)
told_rows key text m None told are = are
told_rows key text m (Some row) told are = go (nat_le (length (row_text row)) 16777216)
  where
    go : (t : Bool) → AreRows (set_told key (cond (is_some (cond {A = Option (List ℕ)} t (Some (row_text row)) None)) (Some row) None) m)
    go true = rows_set m key row are (text_row text (Some row) row told refl)
    go false = are

pub all_rows : (es : List Told) (m : Rows) → AreRows m → AreRows (all_put es m)
all_rows [] m are = are
all_rows (e ∷ es) m are = all_rows es (one_put e m) (subst AreRows (sym (put_told e m)) (told_rows e.0 e.1 m (row_of_text e.1) refl are))

-- ---- a limit on the way

take_drop : (n : ℕ) (es : List Told) → take n es ++ drop n es ≡ es
take_drop zero es = refl
take_drop (suc n) [] = refl
take_drop (suc n) (e ∷ es) = ap (λ (l : List Told). e ∷ l) (take_drop n es)

module _ {S OL OD : Type 0} (s : Ghosts S) (R : Stores (Hash S) S) (ol : Orders OL) (od : Orders OD) (l : multi.Ghosts (Btree (Hash S) OL) S OL) (d : multi.Ghosts (Btree (Hash S) OD) S OD) (stores : AreTableStores s R ol od l d) where
  abbrev OneTable : Type 0
  OneTable = Table (Hash S) (Btree (Hash S) OL) (Btree (Hash S) OD)

  pub texts_fill : (es : List Told) (t : OneTable) (a b : S) (rows : Rows) → s.tells → IsFine s R ol od l d stores t → IsStrictlySortedBy lexical (keys_of es) → Holds s R l d t a rows → FullTexts s R l d ol.cmp od.cmp es t a b → limits.FillsFor s R ol od l d stores t b rows (all_put es rows)
  texts_fill es t a b rows told fine rising h full =
      fills_given s R ol od l d stores full.refused b (table rows (indexes_of t.sides.items)) (table (all_put es rows) (indexes_of t.sides.items)) told full.given_up
      (limits.as_made s R ol od l d stores t full.met.table full.refused rows (all_put es rows) full.met.stays
      (limits.put_fills s R ol od l d stores Over full.met.entry.0 full.met.row full.met.table full.met.moment full.refused rows (all_put es rows) m told (fine_still s R ol od l d stores t full.met.table full.met.stays fine) (full.met.so_far.means rows h) was is
      (λ k other. ⊎_elim (λ first. inl first) (λ last. inr (last ∙ sym (ap (λ (xs : List Told). get (all_put xs rows) k) parts))) (on_the_way front (full.met.entry ∷ back) rows k once))
      h.are (all_rows es rows h.are) full.met.full))
    where
      front : List Told
      front = take full.met.done es

      back : List Told
      back = drop (full.met.done + 1) es

      m : Rows
      m = all_put (take full.met.done es) rows

      parts : es ≡ take full.met.done es ++ full.met.entry ∷ drop (full.met.done + 1) es
      parts = sym (take_drop (full.met.done + 1) es) ∙ (ap (λ (xs : List Told). xs ++ drop (full.met.done + 1) es) full.met.next ∙ append_assoc (take full.met.done es) (full.met.entry ∷ []) (drop (full.met.done + 1) es))

      once : Once (take full.met.done es ++ full.met.entry ∷ drop (full.met.done + 1) es)
      once = subst Once parts (rising_once es rising)

      was : get rows full.met.entry.0 ≡ get (all_put (take full.met.done es) rows) full.met.entry.0
      was = sym (apart (take full.met.done es) rows full.met.entry.0 (next_alone (take full.met.done es) full.met.entry (drop (full.met.done + 1) es) once))

      is : (n : Rows) → put_row Over (all_put (take full.met.done es) rows) full.met.entry.0 full.met.row ≡ Some n → get (all_put es rows) full.met.entry.0 ≡ get n full.met.entry.0
      is n e =
          ap (λ (xs : List Told). get (all_put xs rows) full.met.entry.0) parts
          ∙ (at_end (take full.met.done es) full.met.entry (drop (full.met.done + 1) es) rows once
          ∙ ap (λ (o : Option Rows). get (unwrap_or o (all_put (take full.met.done es) rows)) full.met.entry.0) (ap (option_and_then (put_row Over (all_put (take full.met.done es) rows) full.met.entry.0)) full.met.row_is ∙ e))
