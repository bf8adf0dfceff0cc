-- What is stored keeps contents well formed.
use Rattle.std.proofs.Common.{◌≡◌, ℕ, ◌≤◌, Bool, true, false, cond, List, [], ◌∷◌, ◌++◌, length, take, drop, refl, sym, ap, subst, ◌∙◌, arith}
use Rattle.std.proofs.lemmas.Bool.{leb-true, and_parts}
use Rattle.std.proofs.lemmas.List.{length-take}
use Rattle.std.specs.Prelude.{◌&&◌, Option, Some, None, option_map, option_and_then, unwrap_or, is_some, nat_le, nat_lt}
use Rattle.std.specs.declared.cmp.Ordering.{Ordering}
use Rattle.std.specs.declared.cmp.Ordering.TheVariants.{Less, Equal, Greater}
use Rattle.std.specs.Ordering.{is_eq, eq_by_cmp}
use Rattle.std.specs.Cmp.{IsTotalOrder, nat_cmp_total}
use Rattle.std.specs.Cmp.Lexicographic.{nat_list_cmp_total}
use Rattle.std.specs.FinMap.{FinMap, IsAntisymmetric, nat_cmp-IsAntisymmetric, empty, get, insert, remove, len, get-empty, get-insert, get-remove}
use Rattle.tc_base.specs.declared.kind.Mode.{Mode}
use Rattle.tc_base.specs.declared.kind.Mode.TheVariants.{Over, Keep, Cat}
use Rattle.tc_base.specs.Orders.{order}
use Rattle.tc_model.specs.Values.{allowed, last, sum_of, spelled}
use Rattle.tc_model.specs.Maps.{without}
use Rattle.tc_base.specs.Lists.{values, first, with_first, with_last, without_first}
use Rattle.tc_model.specs.Arrays.{Array, as_id, id_of, number_named, with_cell}
use Rattle.tc_model.specs.Rows.{Row, row_of_text, row_text, with_lacking}
use Rattle.tc_model.specs.Contents.{Contents, hash, tree, fixed, table, Rows, Indexes, emptied}
use Rattle.tc_model.specs.Stores.{held, is_held, value_of, with_row, put_row, store_row, put, store, shift, with_sum, add, out, clear, put_last}
use Rattle.tc_model.specs.Well.{IsRow, IsCell, AreCells, AreRows, IsWell}
use Rattle.tc_model.proofs.MapLaws.{bytes_same}
use Rattle.tc_base.specs.OrderLaws.{order_total}
use Rattle.tc_base.proofs.Rising.{rises_with}
use Rattle.tc_model.proofs.RowLaws.{MayBeRow, row_of_text_row, with_lacking_row}

-- ---- what holds of all that a map has

tied : (r : Ordering) → is_eq r ≡ true → r ≡ Equal
tied Less e = absurd cc
tied Equal e = refl
tied Greater e = absurd cc

module _ {K X : Type 0} {R : K → K → Ordering} (o : IsTotalOrder R) (same : IsAntisymmetric R) (P : K → X → Type 0) where
  pub none_held : (q : K) (x : X) → get (empty {X = X} {R = R}) q ≡ Some x → P q x
  none_held q x e = absurd (let n = get-empty {X = X} R q in cc)

  pub all_inserted : (m : FinMap R X) (k : K) (v : X) → ((q : K) (x : X) → get m q ≡ Some x → P q x) → P k v → (q : K) (x : X) → get (insert m k v) q ≡ Some x → P q x
  all_inserted m k v h p q x e = go (eq_by_cmp R q k) refl (sym (get-insert o m k v q) ∙ e)
    where
      go : (b : Bool) → eq_by_cmp R q k ≡ b → cond b (Some v) (get m q) ≡ Some x → P q x
      go true t f = let key : k ≡ q = sym (same q k (tied (R q k) t)) in let value : v ≡ x = cc in subst (λ y. P q y) value (subst (λ y. P y v) key p)
      go false t f = h q x f

  pub all_removed : (m : FinMap R X) (k : K) → ((q : K) (x : X) → get m q ≡ Some x → P q x) → (q : K) (x : X) → get (remove m k) q ≡ Some x → P q x
  all_removed m k h q x e = go (eq_by_cmp R q k) (sym (get-remove o m k q) ∙ e)
    where
      go : (b : Bool) → cond b None (get m q) ≡ Some x → P q x
      go true f = absurd cc
      go false f = h q x f

-- ---- contents, if there are some

abbrev pub MayBeWell : Option Contents → Type 0
MayBeWell None = Unit {0}
MayBeWell (Some c) = IsWell c

abbrev MayBeRows : Option Rows → Type 0
MayBeRows None = Unit {0}
MayBeRows (Some rows) = AreRows rows

abbrev MayBeCells : ℕ → ℕ → Option Array → Type 0
MayBeCells width most None = Unit {0}
MayBeCells width most (Some ids) = AreCells width most ids

row_put : (rows : Rows) (key : List ℕ) (row : Row) → AreRows rows → IsRow row → AreRows (insert rows key row)
row_put rows key row h r = all_inserted nat_list_cmp_total bytes_same (λ k x. IsRow x) rows key row h r

pub row_removed : (rows : Rows) (key : List ℕ) → AreRows rows → AreRows (remove rows key)
row_removed rows key h = all_removed nat_list_cmp_total bytes_same (λ k x. IsRow x) rows key h

with_row_rows : (rows : Rows) (key : List ℕ) (row : Row) → AreRows rows → IsRow row → MayBeRows (with_row rows key row)
with_row_rows rows key row h r = go (allowed (row_text row))
  where
    go : (o : Option (List ℕ)) → MayBeRows (option_map (λ text. insert rows key row) o)
    go None = tt
    go (Some t) = row_put rows key row h r

held_row : (rows : Rows) (key : List ℕ) → AreRows rows → IsRow (unwrap_or (get rows key) [])
held_row rows key h = go (get rows key) refl
  where
    go : (o : Option Row) → get rows key ≡ o → IsRow (unwrap_or o [])
    go None e = record { columns = refl; distinct = refl }
    go (Some row) e = h key row e

put_row_rows : (mode : Mode) (rows : Rows) (key : List ℕ) (row : Row) → AreRows rows → IsRow row → MayBeRows (put_row mode rows key row)
put_row_rows Over rows key row h r = with_row_rows rows key row h r
put_row_rows Keep rows key row h r = go (is_some (get rows key))
  where
    go : (b : Bool) → MayBeRows (cond b None (with_row rows key row))
    go true = tt
    go false = with_row_rows rows key row h r
put_row_rows Cat rows key row h r = with_row_rows rows key (with_lacking (unwrap_or (get rows key) []) row) h (with_lacking_row (unwrap_or (get rows key) []) row (held_row rows key h) r)

in_table : (o : Option Rows) (indexes : Indexes) → len indexes ≤ 16 → MayBeRows o → MayBeWell (option_map (λ after. table after indexes) o)
in_table None indexes n h = tt
in_table (Some rows) indexes n h = (h, n)

pub store_row_well : (mode : Mode) (c : Contents) (key : List ℕ) (row : Row) → IsWell c → IsRow row → MayBeWell (store_row mode c key row)
store_row_well mode (table rows indexes) key row h r = in_table (put_row mode rows key row) indexes h.1 (put_row_rows mode rows key row h.0 r)
store_row_well mode (hash memory m) key row h r = tt
store_row_well mode (tree memory decimal ps) key row h r = tt
store_row_well mode (fixed width most ids) key row h r = tt

pub row_stored : (mode : Mode) (c : Contents) (key : List ℕ) (o : Option Row) → IsWell c → MayBeRow o → MayBeWell (option_and_then (store_row mode c key) o)
row_stored mode c key None h r = tt
row_stored mode c key (Some row) h r = store_row_well mode c key row h r

-- ---- values

cells_put : (width most : ℕ) (ids : Array) (n : ℕ) (value : List ℕ) → AreCells width most ids → MayBeCells width most (option_and_then (λ id. with_cell width ids id value) (as_id most n))
cells_put width most ids n value h = go (nat_le 1 n && nat_le n most) (allowed (take width value)) refl refl
  where
    fits : (v : List ℕ) → allowed (take width value) ≡ Some v → length v ≤ width
    fits v e = short (nat_le (length (take width value)) 16777216) e
      where
        short : (b : Bool) → cond b (Some (take width value)) None ≡ Some v → length v ≤ width
        short true f = let s : take width value ≡ v = cc in let n = length-take width value in let l = ap length s in omega arith
        short false f = absurd cc

    go : (b : Bool) (o : Option (List ℕ)) → (nat_le 1 n && nat_le n most) ≡ b → allowed (take width value) ≡ o → MayBeCells width most (option_and_then (λ id. option_map (λ v. insert ids id v) o) (cond b (Some n) None))
    go false o e f = tt
    go true None e f = tt
    go true (Some v) e f =
        let parts = and_parts (nat_le 1 n) (nat_le n most) e in
        all_inserted nat_cmp_total nat_cmp-IsAntisymmetric (λ id x. IsCell width most id x) ids n v h (record { first = leb-true 1 n parts.0; last = leb-true n most parts.1; short = fits v f })

in_fixed : (width most : ℕ) (o : Option Array) → MayBeCells width most o → MayBeWell (option_map (fixed width most) o)
in_fixed width most None h = tt
in_fixed width most (Some ids) h = h

pub put_well : (c : Contents) (key value : List ℕ) → IsWell c → MayBeWell (put c key value)
put_well (hash memory m) key value h = go (allowed value)
  where
    go : (o : Option (List ℕ)) → MayBeWell (option_map (hash memory) (option_map (insert m key) o))
    go None = tt
    go (Some v) = tt
put_well (tree memory decimal ps) key value h = go (allowed value)
  where
    go : (o : Option (List ℕ)) → MayBeWell (option_map (λ v. tree memory decimal (with_first (order decimal) ps key v)) o)
    go None = tt
    go (Some v) = rises_with (order_total decimal) ps key (v ∷ drop 1 (values ps key)) h
put_well (fixed width most ids) key value h = in_fixed width most (option_and_then (λ id. with_cell width ids id value) (id_of most ids key)) (cells_put width most ids (number_named ids key) value h)
put_well (table rows indexes) key text h = row_stored Over (table rows indexes) key (row_of_text text) h (row_of_text_row text)

keep_well : (c : Contents) (key value : List ℕ) → IsWell c → MayBeWell (cond (is_held c key) None (put c key value))
keep_well c key value h = go (is_held c key)
  where
    go : (b : Bool) → MayBeWell (cond b None (put c key value))
    go true = tt
    go false = put_well c key value h

pub store_well : (mode : Mode) (c : Contents) (key value : List ℕ) → IsWell c → MayBeWell (store mode c key value)
store_well mode (table rows indexes) key text h = row_stored mode (table rows indexes) key (row_of_text text) h (row_of_text_row text)
store_well Over (hash memory m) key value h = put_well (hash memory m) key value h
store_well Over (tree memory decimal ps) key value h = put_well (tree memory decimal ps) key value h
store_well Over (fixed width most ids) key value h = put_well (fixed width most ids) key value h
store_well Keep (hash memory m) key value h = keep_well (hash memory m) key value h
store_well Keep (tree memory decimal ps) key value h = keep_well (tree memory decimal ps) key value h
store_well Keep (fixed width most ids) key value h = keep_well (fixed width most ids) key value h
store_well Cat (hash memory m) key value h = put_well (hash memory m) key (value_of (hash memory m) key ++ value) h
store_well Cat (tree memory decimal ps) key value h = put_well (tree memory decimal ps) key (value_of (tree memory decimal ps) key ++ value) h
store_well Cat (fixed width most ids) key value h = put_well (fixed width most ids) key (value_of (fixed width most ids) key ++ value) h

pub shift_well : (c : Contents) (key value : List ℕ) (width : ℕ) → IsWell c → MayBeWell (shift c key value width)
shift_well (table rows indexes) key value n h = tt
shift_well (hash memory m) key value n h = put_well (hash memory m) key (last n (value_of (hash memory m) key ++ value)) h
shift_well (tree memory decimal ps) key value n h = put_well (tree memory decimal ps) key (last n (value_of (tree memory decimal ps) key ++ value)) h
shift_well (fixed width most ids) key value n h = put_well (fixed width most ids) key (last n (value_of (fixed width most ids) key ++ value)) h

-- a sum with contents, if there is one
abbrev pub MayBeSum : Option (ℕ × Contents) → Type 0
MayBeSum None = Unit {0}
MayBeSum (Some x) = IsWell x.1

with_sum_well : (c : Contents) (key : List ℕ) (number : ℕ) → IsWell c → MayBeSum (with_sum c key number)
with_sum_well c key number h = go (sum_of (held c key) number)
  where
    inside : (n : ℕ) (o : Option Contents) → MayBeWell o → MayBeSum (option_map (λ after. (n, after)) o)
    inside n None k = tt
    inside n (Some d) k = k

    go : (o : Option ℕ) → MayBeSum (option_and_then (λ n. option_map (λ after. (n, after)) (put c key (spelled n))) o)
    go None = tt
    go (Some n) = inside n (put c key (spelled n)) (put_well c key (spelled n) h)

pub add_well : (c : Contents) (key : List ℕ) (number : ℕ) → IsWell c → MayBeSum (add c key number)
add_well (table rows indexes) key number h = tt
add_well (hash memory m) key number h = with_sum_well (hash memory m) key number h
add_well (tree memory decimal ps) key number h = with_sum_well (tree memory decimal ps) key number h
add_well (fixed width most ids) key number h = go (nat_lt width 4)
  where
    go : (b : Bool) → MayBeSum (cond b None (with_sum (fixed width most ids) key number))
    go true = tt
    go false = with_sum_well (fixed width most ids) key number h

-- ---- what is taken out

cells_removed : (width most : ℕ) (ids : Array) (id : ℕ) → AreCells width most ids → AreCells width most (remove ids id)
cells_removed width most ids id h = all_removed nat_cmp_total nat_cmp-IsAntisymmetric (λ n x. IsCell width most n x) ids id h

pub out_well : (c : Contents) (key : List ℕ) → IsWell c → MayBeWell (out c key)
out_well (hash memory m) key h = go (is_some (get m key))
  where
    go : (b : Bool) → MayBeWell (option_map (hash memory) (cond b (Some (remove m key)) None))
    go true = tt
    go false = tt
out_well (tree memory decimal ps) key h = go (is_some (first ps key))
  where
    go : (b : Bool) → MayBeWell (cond b (Some (tree memory decimal (without_first (order decimal) ps key))) None)
    go true = rises_with (order_total decimal) ps key (drop 1 (values ps key)) h
    go false = tt
out_well (fixed width most ids) key h = go (id_of most ids key)
  where
    inside : (id : ℕ) (b : Bool) → MayBeCells width most (cond b (Some (remove ids id)) None)
    inside id true = cells_removed width most ids id h
    inside id false = tt

    go : (o : Option ℕ) → MayBeWell (option_map (fixed width most) (option_and_then (without ids) o))
    go None = tt
    go (Some id) = in_fixed width most (without ids id) (inside id (is_some (get ids id)))
out_well (table rows indexes) key h = in_table (without rows key) indexes h.1 (go (is_some (get rows key)))
  where
    go : (b : Bool) → MayBeRows (cond b (Some (remove rows key)) None)
    go true = row_removed rows key h.0
    go false = tt

else_same : (c : Contents) (o : Option Contents) → IsWell c → MayBeWell o → IsWell (unwrap_or o c)
else_same c None h k = h
else_same c (Some d) h k = k

pub clear_well : (c : Contents) (key : List ℕ) → IsWell c → IsWell (clear c key)
clear_well (tree memory decimal ps) key h = rises_with (order_total decimal) ps key [] h
clear_well (hash memory m) key h = else_same (hash memory m) (out (hash memory m) key) h (out_well (hash memory m) key h)
clear_well (fixed width most ids) key h = else_same (fixed width most ids) (out (fixed width most ids) key) h (out_well (fixed width most ids) key h)
clear_well (table rows indexes) key h = else_same (table rows indexes) (out (table rows indexes) key) h (out_well (table rows indexes) key h)

pub put_last_well : (c : Contents) (key value : List ℕ) → IsWell c → MayBeWell (put_last c key value)
put_last_well (tree memory decimal ps) key value h = go (allowed value)
  where
    go : (o : Option (List ℕ)) → MayBeWell (option_map (λ v. tree memory decimal (with_last (order decimal) ps key v)) o)
    go None = tt
    go (Some v) = rises_with (order_total decimal) ps key (values ps key ++ v ∷ []) h
put_last_well (hash memory m) key value h = tt
put_last_well (fixed width most ids) key value h = tt
put_last_well (table rows indexes) key value h = tt

pub emptied_well : (c : Contents) → IsWell c → IsWell (emptied c)
emptied_well (hash memory m) h = tt
emptied_well (tree memory decimal ps) h = tt
emptied_well (fixed width most ids) h = none_held nat_cmp_total nat_cmp-IsAntisymmetric (λ id x. IsCell width most id x)
emptied_well (table rows indexes) h = (none_held nat_list_cmp_total bytes_same (λ k x. IsRow x), h.1)
