-- Rows of pairs, of which several may have one key: the last of each is written.
use Rattle.std.proofs.Common.{◌≡◌, ◌∙◌, ℕ, Bool, true, false, cond, ◌&&◌, List, [], ◌∷◌, ◌++◌, length, Option, Some, None, refl, sym, ap, subst, append_assoc}
use Rattle.std.specs.Prelude.{fold, is_some, map, nat_le, option_and_then, option_map, unwrap_or}
use Rattle.std.specs.FinMap.{entries, find, get, get-entries, get-insert, insert, same_map}
use Rattle.std.specs.Cmp.Lexicographic.{nat_list_cmp_total, texts_ties}
use Rattle.std.specs.List.{list_all}
use Rattle.std.specs.List.Sorted.{IsStrictlySortedBy}
use Rattle.std.specs.Map.{keys_of}
use Rattle.std.proofs.lemmas.Bool.{and_parts}
use Rattle.std.proofs.lemmas.Map.Lookups.{exact_bytes}
use Rattle.tc_base.specs.Maps.{Map}
use Rattle.tc_base.specs.Texts.{is_text}
use Rattle.tc_base.specs.declared.kind.Mode.TheVariants.{Over}
use Rattle.tc_base.specs.declared.seq.Pair.{Pair}
use Rattle.tc_engine.specs.Changes.{all_stored}
use Rattle.tc_hashdb.specs.Changing.{all_set, last_values, set_entries}
use Rattle.tc_hashdb.proofs.Several.{Once, find_at, get_none, last_set, nothing, order, rising_once}
use Rattle.tc_model.specs.Contents.{Contents, Indexes, Rows, table}
use Rattle.tc_model.specs.Rows.{Row, row_of_text, row_text}
use Rattle.tc_model.specs.Stores.{put_row, store}
use Rattle.tc_table.specs.Tables.{row_allowed}
use Rattle.tc_tabledb.specs.Storing.{Told, all_put, is_stored, one_put}
use Rattle.tc_tabledb.proofs.Texts.{put_told, row_told, set_told}

abbrev told_of : Pair → Told
told_of p = (p.key, p.value)

abbrev pub pairs_put : List Pair → Rows → Rows
pairs_put ps rows = fold (λ m p. one_put (p.key, p.value) m) rows ps

-- ---- as changes of contents

allowed_one : (rows : Rows) (indexes : Indexes) (key : List ℕ) (row : Row) → option_map (λ (m : Rows). table m indexes) (put_row Over rows key row) ≡ cond (is_some (row_allowed row)) (Some (table (unwrap_or (put_row Over rows key row) rows) indexes)) None
allowed_one rows indexes key row = go (nat_le (length (row_text row)) 16777216)
  where
    go : (t : Bool) → option_map (λ (m : Rows). table m indexes) (option_map (λ (x : List ℕ). insert rows key row) (cond {A = Option (List ℕ)} t (Some (row_text row)) None))
        ≡ cond (is_some (cond {A = Option Row} (is_some (cond {A = Option (List ℕ)} t (Some (row_text row)) None)) (Some row) None)) (Some (table (unwrap_or (option_map (λ (x : List ℕ). insert rows key row) (cond {A = Option (List ℕ)} t (Some (row_text row)) None)) rows) indexes)) None
    go true = refl
    go false = refl

one_of : (rows : Rows) (indexes : Indexes) (key : List ℕ) (o : Option Row) → option_and_then (λ row. option_map (λ (m : Rows). table m indexes) (put_row Over rows key row)) o ≡ cond (is_some (option_and_then row_allowed o)) (Some (table (unwrap_or (option_and_then (put_row Over rows key) o) rows) indexes)) None
one_of rows indexes key None = refl
one_of rows indexes key (Some row) = allowed_one rows indexes key row

one_stored : (rows : Rows) (indexes : Indexes) (key value : List ℕ) → store Over (table rows indexes) key value ≡ cond (is_stored value) (Some (table (one_put (key, value) rows) indexes)) None
one_stored rows indexes key value = one_of rows indexes key (row_of_text value)

abbrev storing : Option Contents → List Pair → Option Contents
storing o ps = fold (λ o p. option_and_then (λ c. store Over c p.key p.value) o) o ps

storing_none : (ps : List Pair) → storing None ps ≡ None
storing_none [] = refl
storing_none (p ∷ ps) = storing_none ps

abbrev pub are_stored : List Pair → Bool
are_stored ps = list_all (λ p. is_stored p.value) ps

pub stored_all : (rows : Rows) (indexes : Indexes) (ps : List Pair) → all_stored ps (table rows indexes) ≡ cond (are_stored ps) (Some (table (pairs_put ps rows) indexes)) None
stored_all rows indexes [] = refl
stored_all rows indexes (p ∷ ps) = ap (λ (o : Option Contents). storing o ps) (one_stored rows indexes p.key p.value) ∙ go (stored_all (one_put (p.key, p.value) rows) indexes ps) (is_stored p.value)
  where
    go : all_stored ps (table (one_put (p.key, p.value) rows) indexes) ≡ cond (are_stored ps) (Some (table (pairs_put ps (one_put (p.key, p.value) rows)) indexes)) None → (t : Bool) → storing (cond t (Some (table (one_put (p.key, p.value) rows) indexes)) None) ps ≡ cond (t && are_stored ps) (Some (table (pairs_put ps (one_put (p.key, p.value) rows)) indexes)) None
    go rest true = rest
    go rest false = storing_none ps

-- none, where a text may not be put
pub stored_no : (ps shown : List Pair) (stored : Bool) → shown ≡ ps → stored ≡ are_stored shown → stored ≡ false → (rows : Rows) (indexes : Indexes) → all_stored ps (table rows indexes) ≡ None
stored_no ps shown stored same is not rows indexes = stored_all rows indexes ps ∙ ap (λ (t : Bool). cond t (Some (table (pairs_put ps rows) indexes)) None) (ap are_stored (sym same) ∙ (sym is ∙ not))

pub stored_yes : (ps shown : List Pair) (stored : Bool) → shown ≡ ps → stored ≡ are_stored shown → stored ≡ true → (rows : Rows) (indexes : Indexes) → all_stored ps (table rows indexes) ≡ Some (table (pairs_put ps rows) indexes)
stored_yes ps shown stored same is all rows indexes = stored_all rows indexes ps ∙ ap (λ (t : Bool). cond t (Some (table (pairs_put ps rows) indexes)) None) (ap are_stored (sym same) ∙ (sym is ∙ all))

-- ---- the last of each key

abbrev AllStored : List Told → Type 0
AllStored [] = Unit {0}
AllStored (e ∷ es) = (is_stored e.1 ≡ true) × AllStored es

-- what is told of a key, or what it had
abbrev told : Option (List ℕ) → Option Row → Option Row
told None o = o
told (Some text) o = row_told text

told_one : (t : Bool) (text : List ℕ) (n : Option (List ℕ)) (o : Option Row) → told (cond t (Some text) n) o ≡ cond t (row_told text) (told n o)
told_one true text n o = refl
told_one false text n o = refl

set_got : (key : List ℕ) (o : Option Row) (m : Rows) (q : List ℕ) → is_some o ≡ true → get (set_told key o m) q ≡ cond (is_text q key) o (get m q)
set_got key None m q some = absurd (let bad : false ≡ true = some in cc)
set_got key (Some row) m q some = get-insert nat_list_cmp_total m key row q ∙ ap (λ (t : Bool). cond t (Some row) (get m q)) (sym (texts_ties q key))

map_got : (n : Map) (key text q : List ℕ) → get (insert n key text) q ≡ cond (is_text q key) (Some text) (get n q)
map_got n key text q = get-insert nat_list_cmp_total n key text q ∙ ap (λ (t : Bool). cond t (Some text) (get n q)) (sym (texts_ties q key))

along : (es : List Told) (m first : Rows) (n : Map) → AllStored es → ((q : List ℕ) → get m q ≡ told (get n q) (get first q)) → (q : List ℕ) → get (all_put es m) q ≡ told (get (set_entries n es) q) (get first q)
along [] m first n stored same q = same q
along (e ∷ es) m first n stored same q = along es (one_put e m) first (insert n e.0 e.1) stored.1
    (λ k.
    ap (λ (x : Rows). get x k) (put_told e m)
    ∙ (set_got e.0 (row_told e.1) m k stored.0
    ∙ (ap (λ (o : Option Row). cond (is_text k e.0) (row_told e.1) o) (same k)
    ∙ sym (ap (λ (o : Option (List ℕ)). told o (get first k)) (map_got n e.0 e.1 k) ∙ told_one (is_text k e.0) e.1 (get n k) (get first k)))))
    q

-- pairs as keys and texts
put_pairs : (ps : List Pair) (rows : Rows) → all_put (map told_of ps) rows ≡ pairs_put ps rows
put_pairs [] rows = refl
put_pairs (p ∷ ps) rows = put_pairs ps (one_put (p.key, p.value) rows)

set_pairs : (ps : List Pair) (n : Map) → set_entries n (map told_of ps) ≡ all_set ps n
set_pairs [] n = refl
set_pairs (p ∷ ps) n = set_pairs ps (insert n p.key p.value)

pairs_stored : (ps : List Pair) → are_stored ps ≡ true → AllStored (map told_of ps)
pairs_stored [] are = tt
pairs_stored (p ∷ ps) are = let both = and_parts (is_stored p.value) (are_stored ps) are in (both.0, pairs_stored ps both.1)

-- each text that is left may be put
left_stored : (ps : List Pair) (n : Map) → are_stored ps ≡ true → ((k v : List ℕ) → get n k ≡ Some v → is_stored v ≡ true) → (k v : List ℕ) → get (all_set ps n) k ≡ Some v → is_stored v ≡ true
left_stored [] n are all k v had = all k v had
left_stored (p ∷ ps) n are all k v had =
    let both = and_parts (is_stored p.value) (are_stored ps) are in
    left_stored ps (insert n p.key p.value) both.1 (λ q w e. one q (is_text q p.key) w (sym (map_got n p.key p.value q) ∙ e) both.0 (all q w)) k v had
  where
    some_same : (a b : List ℕ) → ◌≡◌ {A = Option (List ℕ)} (Some a) (Some b) → a ≡ b
    some_same a b e = cc

    one : (q : List ℕ) (t : Bool) (w : List ℕ) → cond t (Some p.value) (get n q) ≡ Some w → is_stored p.value ≡ true → (get n q ≡ Some w → is_stored w ≡ true) → is_stored w ≡ true
    one q true w e own rest = subst (λ (x : List ℕ). is_stored x ≡ true) (some_same p.value w e) own
    one q false w e own rest = rest e

entries_stored : (front es : List Told) → Once (front ++ es) → ((k v : List ℕ) → find order k (front ++ es) ≡ Some v → is_stored v ≡ true) → AllStored es
entries_stored front [] once all = tt
entries_stored front (e ∷ es) once all =
    let next : front ++ e ∷ es ≡ (front ++ e ∷ []) ++ es = sym (append_assoc front (e ∷ []) es) in (
      all e.0 e.1 (find_at front e es once),
      entries_stored (front ++ e ∷ []) es (subst Once next once) (λ k v had. all k v (ap (find order k) next ∙ had)),
    )

-- they leave what all pairs leave
pub last_put : (ps : List Pair) (rows : Rows) → are_stored ps ≡ true → IsStrictlySortedBy order (keys_of (entries (last_values ps))) → all_put (entries (last_values ps)) rows ≡ pairs_put ps rows
last_put ps rows are rising = same_map nat_list_cmp_total exact_bytes (all_put (entries (last_values ps)) rows) (pairs_put ps rows) (λ q.
    along (entries (last_values ps)) rows rows nothing stored (λ k. sym (ap (λ (o : Option (List ℕ)). told o (get rows k)) (get_none k))) q
    ∙ (ap (λ (n : Map). told (get n q) (get rows q)) (last_set ps nothing rising ∙ sym (set_pairs ps nothing))
    ∙ (sym (along (map told_of ps) rows rows nothing (pairs_stored ps are) (λ k. sym (ap (λ (o : Option (List ℕ)). told o (get rows k)) (get_none k))) q) ∙ ap (λ (m : Rows). get m q) (put_pairs ps rows))))
  where
    stored : AllStored (entries (last_values ps))
    stored = entries_stored [] (entries (last_values ps)) (rising_once (entries (last_values ps)) rising)
        (λ k v had. left_stored ps nothing are (λ q w e. absurd (let bad : None ≡ Some w = sym (get_none q) ∙ e in cc)) k v (get-entries (last_values ps) k ∙ had))

pub texts_put : (ps shown : List Pair) (stored : Bool) (m : Map) → shown ≡ ps → stored ≡ are_stored shown → stored ≡ true → m ≡ last_values ps → IsStrictlySortedBy order (keys_of (entries m)) → (rows : Rows) → all_put (entries m) rows ≡ pairs_put ps rows
texts_put ps shown stored m same is all values rising rows =
    ap (λ (n : Map). all_put (entries n) rows) values
    ∙ last_put ps rows (ap are_stored (sym same) ∙ (sym is ∙ all)) (subst (λ (n : Map). IsStrictlySortedBy order (keys_of (entries n))) values rising)
