-- A limit that a call on a table met is one of its files.
use Rattle.std.proofs.Common.{◌≡◌, ◌∙◌, ◌⊎◌, inl, inr, ⊎_elim, ℕ, zero, suc, ◌+◌, ◌≤◌, Bool, true, false, cond, List, [], ◌∷◌, ◌++◌, Option, Some, None, refl, sym, ap, subst, arith}
use Rattle.std.specs.Prelude.{take, ◌≢◌, ◌||◌, option_map}
use Rattle.std.specs.FinMap.{empty, get, get-empty, get-insert, insert, remove}
use Rattle.std.specs.Cmp.Lexicographic.{nat_list_cmp_total, slice_cmp, texts_ties}
use Rattle.std.specs.Ordering.{nat_cmp}
use Rattle.std.proofs.lemmas.Bool.{or_parts}
use Rattle.tc_base.specs.Files.{Files}
use Rattle.tc_base.specs.Maps.{Map}
use Rattle.tc_base.specs.Texts.{is_text}
use Rattle.tc_base.specs.declared.kind.Mode.{Mode}
use Rattle.tc_base.specs.declared.kind.Mode.TheVariants.{Over}
use Rattle.tc_base.specs.declared.order.Order.{Ghosts as Orders}
use Rattle.tc_base.specs.declared.seq.Pair.{Pair}
use Rattle.tc_space.specs.Changes.{first_out, out_of, put_in, put_last}
use Rattle.tc_space.specs.Frames.{GivenUp, In}
use Rattle.tc_space.specs.Stores.{FullPutIn}
use Rattle.tc_space.specs.declared.multi.Multi as multi
use Rattle.tc_space.specs.declared.records.Records.{Ghosts as Stores}
use Rattle.tc_space.specs.declared.space.Space.{Ghosts}
use Rattle.bt_tree.specs.Meaning.{HoldsIn, Means}
use Rattle.tc_btree.specs.declared.btree.Btree.{Btree}
use Rattle.tc_hash.specs.declared.hash.Hash.{Hash}
use Rattle.tc_hash.specs.Keeping.{LacksRecordOf, file_of, holds}
use Rattle.tc_hash.proofs.OneMap.{one_map}
use Rattle.tc_hashdb.proofs.Filled.{between_out, wants_own}
use Rattle.tc_hashdb.specs.Filling.{WantsKey, WantsRecord}
use Rattle.tc_model.specs.Contents.{Contents, Indexes, Rows, table}
use Rattle.tc_model.specs.Rows.{Row}
use Rattle.tc_model.specs.Stores.{put_row}
use Rattle.tc_model.specs.Texts.{is_among}
use Rattle.tc_model.specs.Well.{AreRows}
use Rattle.tc_model.specs.declared.query.IndexKind.{IndexKind}
use Rattle.tc_model.specs.declared.query.IndexKind.TheVariants as kinds
use Rattle.td_index.specs.Entries.{Firsts, FullBehind, FullOuts, FullTurns, Stands, entry, has_zero, less_all, times, with_firsts}
use Rattle.td_index.proofs.Counting.{clash, either, text_is, text_refl, times_append, times_push}
use Rattle.td_row.specs.Spelling.{row_bytes}
use Rattle.tc_table.specs.Clearing.{FullBehindRows, FullEmptying, TreeBare}
use Rattle.tc_table.specs.Full.{TreeFull}
use Rattle.tc_table.specs.Parts.{AreSpelled, column_in, parts_of, parts_of_row}
use Rattle.tc_table.specs.Sides.{AllStand, AreApart, IsAway, SideStands, TreeStands, asks_decimal, files, is_decimal, name_of, tree_file, tree_made}
use Rattle.tc_table.specs.Tables.{FullIndex, FullOut, FullPut, FullSet, Holds, StaysTable}
use Rattle.tc_table.specs.Valued.{got_valued, with_values}
use Rattle.tc_table.specs.Wholes.{once_value}
use Rattle.tc_table.specs.declared.side.Side.{Side}
use Rattle.tc_table.specs.declared.side.Sorted.{Sorted}
use Rattle.tc_table.specs.declared.side.Sorted.TheVariants.{Lexical, Decimal}
use Rattle.tc_table.specs.declared.table.Table.{Table}
use Rattle.tc_table.proofs.Naming.{whole_parts}
use Rattle.tc_table.proofs.Spelled.{next_out, next_set, rows_out}
use Rattle.tc_table.proofs.Turning.{all_still, side_still}
use Rattle.tc_treedb.specs.Trees.{IsStore}
use Rattle.tc_tabledb.specs.Changing.{FullGiven, all_out}
use Rattle.tc_tabledb.specs.Files.{column_bytes}
use Rattle.tc_tabledb.specs.Filling.{Fills, LacksIndex, LacksRow, LacksSections, given, given_as, is_same}
use Rattle.tc_tabledb.specs.Holding.{AllMade, AreDistinct, IsMade, indexes_of, names}
use Rattle.tc_tabledb.specs.Members.{AreTableStores, IsTreeList}
use Rattle.tc_tabledb.proofs.Filled.{FillsSide, InSide, fills_bare, fills_tree, side_stays}
use Rattle.tc_tabledb.proofs.Lifting.{same_indexes, same_made, same_names}
use Rattle.tc_tabledb.proofs.Midway.{AtKey, Elsewhere, comes, goes, less_all_few, less_all_many, less_same, mid, next_some, some_come, some_gone, times_take}

-- ---- one index

-- where parts of one row were taken out of others
elsewhere : (before after h : Firsts) (key : List ℕ) (fs : List (List ℕ)) → Elsewhere before after key h → Elsewhere before after key (with_firsts key fs h)
elsewhere before after h key fs others k v other =
    subst (λ (n : ℕ). (n ≡ times v (before k)) ⊎ (n ≡ times v (after k))) (sym (ap (λ (t : Bool). times v (cond t fs (h k))) other)) (others k v other)

module _ {S O : Type 0} (s : Ghosts S) (R : Stores (Hash S) S) (store : IsStore s R) (o : Orders O) (decimal : Bool) (m : multi.Ghosts (Btree (Hash S) O) S O) (list : IsTreeList s R o decimal m) (kind : IndexKind) (name : List ℕ) (fits : decimal ≡ asks_decimal kind) (file : ℕ) where
  abbrev FillsHere : S → Firsts → Firsts → Type 0
  FillsHere now before after = FillsSide (s.limit now file) (s.log_full now) (s.brought now) (s.now now file) kind name before after

  abbrev Inside : Btree (Hash S) O → Type 0
  Inside t = InSide s R store o decimal m list kind name fits file t

  module _ (at now : S) (told : s.tells) (before after h : Firsts) (key : List ℕ) (old new : List (List ℕ)) (was : before key ≡ old) (is : after key ≡ new) (had : h key ≡ old) (others : Elsewhere before after key h)
      (once_old : (v : List ℕ) → times v old ≤ 1) (once_new : (v : List ℕ) → times v new ≤ 1) (whole_old : (v : List ℕ) → 1 ≤ times v old → has_zero v ≡ false) (whole_new : (v : List ℕ) → 1 ≤ times v new → has_zero v ≡ false)
      (t : Btree (Hash S) O) (side : Inside t) (st : Stands s m t at h) where
    outs_full : FullOuts s m o.cmp old key t at now → FillsHere now before after
    outs_full full =
        let gone : List (List ℕ) = take full.done old in
        let fs : List (List ℕ) = less_all gone (h key) in
        let st1 = full.so_far.means h st in
        let at_key : AtKey before after key fs = subst (AtKey before after key) (ap (less_all gone) (sym had)) (some_gone before after key old gone was once_old) in
        let on = mid before after h key fs st1.pairs st1.exact others at_key in
        let next : 1 + times full.part gone ≤ times full.part old = next_some old full.part full.done full.next in
        let there : times full.part fs ≡ 1 = omega (arith, next, once_old full.part, ap (times full.part) had, less_all_many gone full.part (h key), less_all_few gone full.part (h key)) in
        fills_tree s R store o decimal m list kind name fits file full.tree (side_stays s R store o decimal m list kind name fits file t full.tree full.stays side) full.moment now told before after key st1.pairs (first_out o.cmp (entry full.part key) st1.pairs) on
        (goes o.cmp list.of.total list.of.exact before after h key full.part fs st1.pairs (whole_old full.part (omega (arith, next))) st1.exact there on)
        (full.full.by st1.pairs st1.held)

    behind_full : FullBehind s m o.cmp old new key t at now → FillsHere now before after
    behind_full behind =
        let full = behind.full in
        let h1 : Firsts = with_firsts key (less_all old (h key)) h in
        let st2 = full.so_far.means h1 (behind.lost.means h st) in
        let none : h1 key ≡ [] = ap (λ (t : Bool). cond t (less_all old (h key)) (h key)) (text_refl key) ∙ (ap (less_all old) had ∙ less_same old) in
        let come : List (List ℕ) = take full.done new in
        let fs : List (List ℕ) = come ++ h1 key in
        let others1 = elsewhere before after h key (less_all old (h key)) others in
        let counted : (v : List ℕ) → times v fs ≡ times v come = λ v. times_append v come (h1 key) ∙ (ap (λ (gs : List (List ℕ)). times v come + times v gs) none ∙ omega arith) in
        let on = mid before after h1 key fs st2.pairs st2.exact others1 (some_come before after key new fs is once_new (λ v. omega (arith, counted v, times_take v full.done new))) in
        let next : 1 + times full.part come ≤ times full.part new = next_some new full.part full.done full.next in
        let whole : has_zero full.part ≡ false = whole_new full.part (omega (arith, next)) in
        let more : (v : List ℕ) → times v (full.part ∷ fs) ≤ times v new = λ v. omega (arith, counted v, times_take v (full.done + 1) new, ap (times v) full.next, times_push v full.part come) in
        let next_pairs : List Pair = put_last o.cmp (entry full.part key) [] st2.pairs in
        let on_next = mid before after h1 key (full.part ∷ fs) next_pairs (comes o.cmp list.of.total list.of.exact h1 key full.part fs st2.pairs whole st2.exact) others1 (some_come before after key new (full.part ∷ fs) is once_new more) in
        fills_tree s R store o decimal m list kind name fits file full.tree
        (side_stays s R store o decimal m list kind name fits file behind.tree full.tree full.stays (side_stays s R store o decimal m list kind name fits file t behind.tree behind.stays side))
        full.moment now told before after key st2.pairs next_pairs on on_next (full.full.by st2.pairs st2.held)

    pub turns_full : FullTurns s m o.cmp old new key t at now → FillsHere now before after
    turns_full full = ⊎_elim outs_full behind_full full

-- ---- an index among others

same_kind : (kind : IndexKind) → is_same kind kind ≡ true
same_kind kinds.Lexical = refl
same_kind kinds.Decimal = refl
same_kind kinds.Token = refl

given_at : (indexes : Indexes) (kind : IndexKind) (name : List ℕ) → get indexes name ≡ Some kind → (rows : Rows) (k : List ℕ) → given (table rows indexes) kind name k ≡ parts_of kind name rows k
given_at indexes kind name has rows k = ap (λ (o : Option IndexKind). given_as rows kind name o k) has ∙ ap (λ (t : Bool). cond t (parts_of kind name rows k) []) (same_kind kind)

pub given_is : (indexes : Indexes) (kind : IndexKind) (name : List ℕ) → get indexes name ≡ Some kind → (rows : Rows) → given (table rows indexes) kind name ≡ parts_of kind name rows
given_is indexes kind name has rows = λ i k. given_at indexes kind name has rows k i

pub name_here : (indexes : Indexes) (name : List ℕ) (kind : IndexKind) (n : List ℕ) → get (insert indexes name kind) n ≡ cond (is_text n name) (Some kind) (get indexes n)
name_here indexes name kind n = get-insert nat_list_cmp_total indexes name kind n ∙ ap (λ (t : Bool). cond t (Some kind) (get indexes n)) (sym (texts_ties n name))

pub turned_text : (a b : List ℕ) → is_text a b ≡ false → is_text b a ≡ false
turned_text a b other = ⊎_elim (λ same. clash (is_text a b) (subst (λ (x : List ℕ). is_text a x ≡ true) (sym (text_is b a same)) (text_refl a)) other) (λ not. not) (either (is_text b a))

module _ {L D : Type 0} where
  pub not_among : (n : List ℕ) (front : List (Side L D)) (side : Side L D) (back : List (Side L D)) → is_among n (names (front ++ side ∷ back)) ≡ false → is_text n (name_of side.tree) ≡ false
  not_among n [] side back none = (or_parts (is_text n (name_of side.tree)) (is_among n (names back)) none).0
  not_among n (x ∷ front) side back none = not_among n front side back (or_parts (is_text n (name_of x.tree)) (is_among n (names (front ++ side ∷ back))) none).1

  -- each has its type under its name
  pub listed : (front : List (Side L D)) (side : Side L D) (back : List (Side L D)) → AreDistinct (names (front ++ side ∷ back)) → get (indexes_of (front ++ side ∷ back)) (name_of side.tree) ≡ Some side.kind
  listed [] side back distinct = name_here (indexes_of back) (name_of side.tree) side.kind (name_of side.tree) ∙ ap (λ (t : Bool). cond t (Some side.kind) (get (indexes_of back) (name_of side.tree))) (text_refl (name_of side.tree))
  listed (x ∷ front) side back distinct =
      name_here (indexes_of (front ++ side ∷ back)) (name_of x.tree) x.kind (name_of side.tree)
      ∙ (ap (λ (t : Bool). cond t (Some x.kind) (get (indexes_of (front ++ side ∷ back)) (name_of side.tree))) (turned_text (name_of x.tree) (name_of side.tree) (not_among (name_of x.tree) front side back distinct.0))
      ∙ listed front side back distinct.1)

-- ---- rows of some keys go

all_out_is : (keys : List (List ℕ)) (rows : Rows) (k : List ℕ) → get (all_out keys rows) k ≡ cond (is_among k keys) None (get rows k)
all_out_is [] rows k = refl
all_out_is (key ∷ keys) rows k = all_out_is keys (remove rows key) k ∙ (ap (λ (o : Option Row). cond (is_among k keys) None o) (next_out rows key k) ∙ both (is_text k key) (is_among k keys))
  where
    both : (t u : Bool) → cond u None (cond t None (get rows k)) ≡ cond (t || u) None (get rows k)
    both true true = refl
    both true false = refl
    both false true = refl
    both false false = refl

gone : (keys : List (List ℕ)) (rows : Rows) (k : List ℕ) → is_among k keys ≡ true → get (all_out keys rows) k ≡ None
gone keys rows k among = all_out_is keys rows k ∙ ap (λ (t : Bool). cond t None (get rows k)) among

take_among : (k : List ℕ) (n : ℕ) (keys : List (List ℕ)) → is_among k (take n keys) ≡ true → is_among k keys ≡ true
take_among k zero keys among = absurd (let bad : false ≡ true = among in cc)
take_among k (suc n) [] among = among
take_among k (suc n) (key ∷ keys) among = go (take_among k n keys) (is_text k key) among
  where
    go : (is_among k (take n keys) ≡ true → is_among k keys ≡ true) → (t : Bool) → (t || is_among k (take n keys)) ≡ true → (t || is_among k keys) ≡ true
    go rest true e = refl
    go rest false e = rest e

push_among : (key : List ℕ) (keys : List (List ℕ)) → is_among key (keys ++ key ∷ []) ≡ true
push_among key [] = ap (λ (t : Bool). t || false) (text_refl key)
push_among key (k ∷ keys) = go (push_among key keys) (is_text key k)
  where
    go : is_among key (keys ++ key ∷ []) ≡ true → (t : Bool) → (t || is_among key (keys ++ key ∷ [])) ≡ true
    go rest true = refl
    go rest false = rest

next_among : (keys : List (List ℕ)) (key : List ℕ) (done : ℕ) → take (done + 1) keys ≡ take done keys ++ key ∷ [] → is_among key keys ≡ true
next_among keys key done next = take_among key (done + 1) keys (ap (is_among key) next ∙ push_among key (take done keys))

had_before : (keys : List (List ℕ)) (rows : Rows) (k : List ℕ) (row : Row) → get (all_out keys rows) k ≡ Some row → get rows k ≡ Some row
had_before keys rows k row had = go (is_among k keys) (sym (all_out_is keys rows k) ∙ had)
  where
    go : (t : Bool) → cond t None (get rows k) ≡ Some row → get rows k ≡ Some row
    go true e = absurd (let bad : None ≡ Some row = e in cc)
    go false e = e

-- what is so far is as it was, or as it is to be
so_far : (keys : List (List ℕ)) (done : ℕ) (rows : Rows) (k : List ℕ) → (get (all_out (take done keys) rows) k ≡ get rows k) ⊎ (get (all_out (take done keys) rows) k ≡ get (all_out keys rows) k)
so_far keys done rows k = go (is_among k (take done keys)) refl
  where
    go : (t : Bool) → is_among k (take done keys) ≡ t → (get (all_out (take done keys) rows) k ≡ get rows k) ⊎ (get (all_out (take done keys) rows) k ≡ get (all_out keys rows) k)
    go true among = inr (gone (take done keys) rows k among ∙ sym (gone keys rows k (take_among k done keys among)))
    go false not = inl (all_out_is (take done keys) rows k ∙ ap (λ (t : Bool). cond t None (get rows k)) not)

rows_all_out : (keys : List (List ℕ)) (rows : Rows) → AreRows rows → AreRows (all_out keys rows)
rows_all_out [] rows are = are
rows_all_out (key ∷ keys) rows are = rows_all_out keys (remove rows key) (rows_out rows key are)

-- ---- the pairs of a tree

tree_means : {S O : Type 0} {s : Ghosts S} (R : Stores (Hash S) S) (o : Orders O) (decimal : Bool) (m : multi.Ghosts (Btree (Hash S) O) S O) (list : IsTreeList s R o decimal m) (t : Btree (Hash S) O) (a : S) (ps : List Pair) → In s m.file_of m.holds t a ps → Means s R o t.tree a ps
tree_means {s = s} R o decimal m list t a ps held = (held.0, subst (λ (f : ℕ). HoldsIn R o t.tree (s.now a f) ps) (list.file t) (list.into t (s.now a (m.file_of t)) ps held.1))

-- ---- the indexes of a table

module _ {S OL OD : Type 0} (s : Ghosts S) (R : Stores (Hash S) S) (ol : Orders OL) (od : Orders OD) (l : multi.Ghosts (Btree (Hash S) OL) S OL) (d : multi.Ghosts (Btree (Hash S) OD) S OD) (stores : AreTableStores s R ol od l d) where
  abbrev OfTable : Type 0
  OfTable = Side (Btree (Hash S) OL) (Btree (Hash S) OD)

  abbrev FillsFile : ℕ → S → IndexKind → List ℕ → Firsts → Firsts → Type 0
  FillsFile file now kind name before after = FillsSide (s.limit now file) (s.log_full now) (s.brought now) (s.now now file) kind name before after

  pick_made : (front : List OfTable) (side : OfTable) (back : List OfTable) → AllMade R l d (front ++ side ∷ back) → IsMade R l d side
  pick_made [] side back made = made.0
  pick_made (x ∷ front) side back made = pick_made front side back made.1

  pick_stands : (front : List OfTable) (side : OfTable) (back : List OfTable) (a : S) (rows : Rows) → AllStand s l d (front ++ side ∷ back) a rows → SideStands s l d side a rows
  pick_stands [] side back a rows st = st.0
  pick_stands (x ∷ front) side back a rows st = pick_stands front side back a rows st.1

  pick_away : (f : ℕ) (front : List OfTable) (side : OfTable) (back : List OfTable) → IsAway f (files l d (front ++ side ∷ back)) → f ≢ tree_file l d side.tree
  pick_away f [] side back away = away.0
  pick_away f (x ∷ front) side back away = pick_away f front side back away.1

  pick_apart : (front : List OfTable) (side : OfTable) (back : List OfTable) → AreApart (files l d (front ++ side ∷ back)) → IsAway (tree_file l d side.tree) (files l d front)
  pick_apart [] side back apart = tt
  pick_apart (x ∷ front) side back apart = ((λ e. pick_away (tree_file l d x.tree) front side back apart.0 (sym e)), pick_apart front side back apart.1)

  -- ---- at the change of one row

  module _ (rb ra m : Rows) (key : List ℕ) (old new : Option Row) (was : get rb key ≡ old) (is : get ra key ≡ new) (had : get m key ≡ old) (others : (k : List ℕ) → is_text k key ≡ false → (get m k ≡ get rb k) ⊎ (get m k ≡ get ra k))
      (are_b : AreRows rb) (are_a : AreRows ra) (at now : S) (told : s.tells) where
    parts_once : (kind : IndexKind) (name : List ℕ) (row : Option Row) (v : List ℕ) → times v (parts_of_row kind name row) ≤ 1
    parts_once kind name row v = once_value kind (column_in name row) v

    parts_fine : (kind : IndexKind) (name : List ℕ) (rows : Rows) (row : Option Row) → get rows key ≡ row → AreRows rows → (v : List ℕ) → 1 ≤ times v (parts_of_row kind name row) → has_zero v ≡ false
    parts_fine kind name rows row here are v some = whole_parts kind name rows are key v (subst (λ (o : Option Row). 1 ≤ times v (parts_of_row kind name o)) (sym here) some)

    parts_else : (kind : IndexKind) (name : List ℕ) → Elsewhere (parts_of kind name rb) (parts_of kind name ra) key (parts_of kind name m)
    parts_else kind name k v other = ⊎_elim (λ e. inl (ap (λ (o : Option Row). times v (parts_of_row kind name o)) e)) (λ e. inr (ap (λ (o : Option Row). times v (parts_of_row kind name o)) e)) (others k other)

    tree_full : (kind : IndexKind) (x : Sorted (Btree (Hash S) OL) (Btree (Hash S) OD)) → is_decimal x ≡ asks_decimal kind → (tree_made l d x).column ≡ Some (column_bytes kind (name_of x)) → TreeStands s l d x at (parts_of kind (name_of x) m)
        → TreeFull s l d ol.cmp od.cmp key (parts_of_row kind (name_of x) old) (parts_of_row kind (name_of x) new) x at now → FillsFile (tree_file l d x) now kind (name_of x) (parts_of kind (name_of x) rb) (parts_of kind (name_of x) ra)
    tree_full kind (Lexical i) fits column st full =
        turns_full s R stores.store ol false l stores.lexical kind i.name fits (l.file_of i.tree) at now told (parts_of kind i.name rb) (parts_of kind i.name ra) (parts_of kind i.name m) key (parts_of_row kind i.name old) (parts_of_row kind i.name new)
        (ap (parts_of_row kind i.name) was) (ap (parts_of_row kind i.name) is) (ap (parts_of_row kind i.name) had) (parts_else kind i.name) (parts_once kind i.name old) (parts_once kind i.name new) (parts_fine kind i.name rb old was are_b) (parts_fine kind i.name ra new is are_a)
        i.tree (record { file_is = refl; column_is = column }) st full
    tree_full kind (Decimal i) fits column st full =
        turns_full s R stores.store od true d stores.decimal kind i.name fits (d.file_of i.tree) at now told (parts_of kind i.name rb) (parts_of kind i.name ra) (parts_of kind i.name m) key (parts_of_row kind i.name old) (parts_of_row kind i.name new)
        (ap (parts_of_row kind i.name) was) (ap (parts_of_row kind i.name) is) (ap (parts_of_row kind i.name) had) (parts_else kind i.name) (parts_once kind i.name old) (parts_once kind i.name new) (parts_fine kind i.name rb old was are_b) (parts_fine kind i.name ra new is are_a)
        i.tree (record { file_is = refl; column_is = column }) st full

  -- ---- as a limit of the table

  -- what fills the file of an index fills the table
  at_index : (xs front : List OfTable) (side : OfTable) (back : List OfTable) (now : S) (rb ra : Rows) → xs ≡ front ++ side ∷ back → AllMade R l d xs → AreDistinct (names xs)
      → FillsFile (tree_file l d side.tree) now side.kind (name_of side.tree) (parts_of side.kind (name_of side.tree) rb) (parts_of side.kind (name_of side.tree) ra) → Fills s now (table rb (indexes_of xs)) (table ra (indexes_of xs))
  at_index xs front side back now rb ra is made distinct fills = ⊎_elim
      (λ log. inl log)
      (λ wants. inr (inr (
        wants.0,
        inr (record {
          file = file;
          place = own.file;
          kind = side.kind;
          name = name;
          some = inl has;
          lacks = ⊎_elim (λ page. inl page) (λ rest. inr (⊎_elim (λ ids. inl ids) (λ bare. inr (inl bare)) rest)) wants.1;
        }),
      )))
      as_given.ends
    where
      file : ℕ
      file = tree_file l d side.tree

      name : List ℕ
      name = name_of side.tree

      own : IsMade R l d side
      own = pick_made front side back (subst (AllMade R l d) is made)

      has : get (indexes_of xs) (name_of side.tree) ≡ Some side.kind
      has = subst (λ (ys : List OfTable). get (indexes_of ys) (name_of side.tree) ≡ Some side.kind) (sym is) (listed front side back (subst (λ (ys : List OfTable). AreDistinct (names ys)) is distinct))

      as_given : FillsFile (tree_file l d side.tree) now side.kind (name_of side.tree) (given (table rb (indexes_of xs)) side.kind (name_of side.tree)) (given (table ra (indexes_of xs)) side.kind (name_of side.tree))
      as_given =
          subst (λ (f : Firsts). FillsFile (tree_file l d side.tree) now side.kind (name_of side.tree) f (given (table ra (indexes_of xs)) side.kind (name_of side.tree))) (sym (given_is (indexes_of xs) side.kind (name_of side.tree) has rb))
          (subst (λ (f : Firsts). FillsFile (tree_file l d side.tree) now side.kind (name_of side.tree) (parts_of side.kind (name_of side.tree) rb) f) (sym (given_is (indexes_of xs) side.kind (name_of side.tree) has ra)) fills)

  -- a space that was given up since stands as it did
  pub fills_given : (a b : S) (c e : Contents) → s.tells → GivenUp s a b → Fills s a c e → Fills s b c e
  fills_given a b c e told given fills = ⊎_elim
      (λ log. inl (given.log log))
      (λ rest. inr (⊎_elim
      (λ sections. inl (subst (λ (limit : ℕ → ℕ). LacksSections limit c e) (sym given.keeps.same_limit) sections))
      (λ wants. inr (
        given.brought wants.0,
        ⊎_elim
            (λ row. inl (subst (λ (limit : ℕ → ℕ). LacksRow (limit 0) (s.now b 0) c e) (sym given.keeps.same_limit) (subst (λ (bytes : List ℕ). LacksRow (s.limit a 0) bytes c e) (sym (given.files told 0)) row)))
            (λ index. inr (subst (λ (limit : ℕ → ℕ). LacksIndex limit (s.now b) c e) (sym given.keeps.same_limit) (subst (λ (fs : Files). LacksIndex (s.limit a) fs c e) (sym (λ i f. given.files told f i)) index)))
            wants.1,
      ))
      rest))
      fills

  -- ---- the record of a row

  means_hash : (h : Hash S) (a : S) (records : Map) → In s R.file_of R.holds h a records → In s file_of holds h a records
  means_hash h a records held = (held.0, subst (λ (f : ℕ). holds h (s.now a f) records) (stores.store.file h) (stores.store.into h (s.now a (R.file_of h)) records held.1))

  spelled_all : (rows : Rows) → AreSpelled (with_values row_bytes rows) rows
  spelled_all rows k = got_valued row_bytes rows k

  -- the store held rows of which each is one before or one after
  row_full : (h : Hash S) (a now : S) (rb ra m : Rows) (records : Map) (key : List ℕ) (new : Row) (i j : Indexes) → R.file_of h ≡ 0 → In s R.file_of R.holds h a records → AreSpelled records m → get ra key ≡ Some new → ((k : List ℕ) → (get m k ≡ get rb k) ⊎ (get m k ≡ get ra k))
      → FullPutIn s R.file_of R.holds R.lacks Over key (row_bytes new) h a now → Fills s now (table rb i) (table ra j)
  row_full h a now rb ra m records key new i j main held spelled is others full = ⊎_elim (λ log. inl log) (λ lacks. at_record (stores.store.lacks h a now key (row_bytes new) lacks)) (full.by records held)
    where
      file : h.body.file ≡ 0
      file = sym (stores.store.file h) ∙ main

      from : Map
      from = with_values row_bytes rb

      to : Map
      to = with_values row_bytes ra

      there : get (with_values row_bytes ra) key ≡ Some (row_bytes new)
      there = got_valued row_bytes ra key ∙ ap (option_map row_bytes) is

      at_record : LacksRecordOf s h a now key (row_bytes new) → Fills s now (table rb i) (table ra j)
      at_record w =
          let one : w.held ≡ records = one_map s h a w.held records w.means (means_hash h a records held) in
          let own : WantsKey (s.limit now h.body.file) (s.now now h.body.file) w.held key (row_bytes new) = wants_own s h a now w.held key (row_bytes new) w.wants in
          let either_way : (k : List ℕ) → (get w.held k ≡ get from k) ⊎ (get w.held k ≡ get to k) = λ k.
          let here : get w.held k ≡ option_map row_bytes (get m k) = ap (λ (x : Map). get x k) one ∙ spelled k in
          ⊎_elim
          (λ e. inl (here ∙ (ap (option_map row_bytes) e ∙ sym (got_valued row_bytes rb k))))
          (λ e. inr (here ∙ (ap (option_map row_bytes) e ∙ sym (got_valued row_bytes ra k))))
          (others k) in
          let wants : WantsRecord (s.limit now h.body.file) (s.now now h.body.file) from to = record {
            held = own.held;
            key = key;
            value = row_bytes new;
            between = between_out w.held own.held from to key (row_bytes new) own.kept there either_way;
            there = there;
            wants = own.wants;
          } in
          inr (inr (w.wants.brought, inl (record { from = from; from_is = spelled_all rb; to = to; to_is = spelled_all ra; wants = subst (λ (f : ℕ). WantsRecord (s.limit now f) (s.now now f) from to) file wants })))

  -- ---- behind the record of a row

  abbrev OneTable : Type 0
  OneTable = Table (Hash S) (Btree (Hash S) OL) (Btree (Hash S) OD)

  index_full : (t : OneTable) (a now : S) (rb ra m : Rows) (key : List ℕ) (old new : Option Row) (f : Map → Map) → s.tells → get rb key ≡ old → get ra key ≡ new → get m key ≡ old → ((k : List ℕ) → is_text k key ≡ false → (get m k ≡ get rb k) ⊎ (get m k ≡ get ra k)) → AreRows rb → AreRows ra
      → Holds s R l d t a m → AllMade R l d t.sides.items → AreDistinct (names t.sides.items) → FullIndex s R l d ol.cmp od.cmp key old new f t a now → Fills s now (table rb (indexes_of t.sides.items)) (table ra (indexes_of t.sides.items))
  index_full t a now rb ra m key old new f told was is had others are_b are_a h made distinct full =
      let since = full.full in
      let met = since.met in
      let side : OfTable = met.side in
      let xs : List OfTable = t.sides.items in
      let behind : AllStand s l d xs full.moment m = all_still s l d (R.file_of t.rows) xs a full.moment m h.apart.0 full.wrote.others h.indexes in
      let apart : IsAway (tree_file l d side.tree) (files l d met.front) = pick_apart met.front side met.back (subst (λ (ys : List OfTable). AreApart (files l d ys)) met.parted h.apart.1) in
      let st : SideStands s l d side met.moment m =
      side_still s l d side full.moment met.moment m (λ tells. met.others.same tells (tree_file l d side.tree) apart) (pick_stands met.front side met.back full.moment m (subst (λ (ys : List OfTable). AllStand s l d ys full.moment m) met.parted behind)) in
      let own : IsMade R l d side = pick_made met.front side met.back (subst (AllMade R l d) met.parted made) in
      let fills = tree_full rb ra m key old new was is had others are_b are_a met.moment since.refused told side.kind side.tree st.fits own.column st.stands met.full in
      fills_given since.refused now (table rb (indexes_of xs)) (table ra (indexes_of xs)) told since.given_up (at_index xs met.front side met.back since.refused rb ra met.parted made distinct fills)

  -- ---- a table that is the same as another

  abbrev pub FillsFor : OneTable → S → Rows → Rows → Type 0
  FillsFor t now rb ra = Fills s now (table rb (indexes_of t.sides.items)) (table ra (indexes_of t.sides.items))

  pub as_made : (t u : OneTable) (now : S) (rb ra : Rows) → StaysTable R l d t u → FillsFor u now rb ra → FillsFor t now rb ra
  as_made t u now rb ra stays fills = subst (λ (i : Indexes). Fills s now (table rb i) (table ra i)) (same_indexes s l d t.sides.items u.sides.items stays.sides) fills

  -- what a table is to have for its limits to be those of its files
  pub record IsFine (t : OneTable) : Type 0 where
    pub main : R.file_of t.rows ≡ 0
    pub made : AllMade R l d t.sides.items
    pub distinct : AreDistinct (names t.sides.items)

  pub fine_still : (t u : OneTable) → StaysTable R l d t u → IsFine t → IsFine u
  fine_still t u stays fine = record {
    main = stays.rows.file ∙ fine.main;
    made = same_made s l d R t.sides.items u.sides.items stays.sides fine.made;
    distinct = subst AreDistinct (sym (same_names s l d t.sides.items u.sides.items stays.sides)) fine.distinct;
  }

  -- ---- a row that is put

  set_full : (t : OneTable) (a now : S) (rb ra m : Rows) (key : List ℕ) (old : Option Row) (new : Row) → s.tells → IsFine t → Holds s R l d t a m → get rb key ≡ old → get ra key ≡ Some new → get m key ≡ old → ((k : List ℕ) → is_text k key ≡ false → (get m k ≡ get rb k) ⊎ (get m k ≡ get ra k)) → AreRows rb → AreRows ra
      → FullSet s R l d ol.cmp od.cmp key old new t a now → FillsFor t now rb ra
  set_full t a now rb ra m key old new told fine h was is had others are_b are_a full = ⊎_elim
      (λ record_full. row_full t.rows a now rb ra m h.store key new (indexes_of t.sides.items) (indexes_of t.sides.items) fine.main h.held h.spelled is each record_full)
      (λ behind. index_full t a now rb ra m key old (Some new) (put_in Over key (row_bytes new)) told was is had others are_b are_a h fine.made fine.distinct behind)
      full
    where
      each : (k : List ℕ) → (get m k ≡ get rb k) ⊎ (get m k ≡ get ra k)
      each k = ⊎_elim (λ same. inl (ap (get m) (text_is k key same) ∙ (had ∙ (sym was ∙ ap (get rb) (sym (text_is k key same)))))) (λ other. others k other) (either (is_text k key))

  -- at a key that rows on the way have as the first ones do
  pub put_fills : (mode : Mode) (key : List ℕ) (row : Row) (t : OneTable) (a b : S) (rb ra m : Rows) → s.tells → IsFine t → Holds s R l d t a m → get rb key ≡ get m key → ((n : Rows) → put_row mode m key row ≡ Some n → get ra key ≡ get n key) → ((k : List ℕ) → is_text k key ≡ false → (get m k ≡ get rb k) ⊎ (get m k ≡ get ra k)) → AreRows rb → AreRows ra
      → FullPut s R l d ol.cmp od.cmp mode key row t a b → FillsFor t b rb ra
  put_fills mode key row t a b rb ra m told fine h was is others are_b are_a full =
      let had = full.had m h in
      let given : get ra key ≡ Some full.new = is (insert m key full.new) (full.gives m h) ∙ (next_set m key full.new key ∙ ap (λ (x : Bool). cond x (Some full.new) (get m key)) (text_refl key)) in
      as_made t full.table b rb ra full.stays (set_full full.table full.moment b rb ra m key full.old full.new told (fine_still t full.table full.stays fine) (full.reads.means m h) (was ∙ had) given had others are_b are_a full.full)

  -- ---- a row that goes

  pub out_fills : (key : List ℕ) (t : OneTable) (a b : S) (rb ra m : Rows) → s.tells → IsFine t → Holds s R l d t a m → get rb key ≡ get m key → get ra key ≡ None → ((k : List ℕ) → is_text k key ≡ false → (get m k ≡ get rb k) ⊎ (get m k ≡ get ra k)) → AreRows rb → AreRows ra
      → FullOut s R l d ol.cmp od.cmp key t a b → FillsFor t b rb ra
  out_fills key t a b rb ra m told fine h was is others are_b are_a full =
      let had = full.had m h in
      let own = fine_still t full.table full.stays fine in
      as_made t full.table b rb ra full.stays (⊎_elim
      (λ log. inl (log told))
      (λ behind. index_full full.table full.moment b rb ra m key (Some full.old) None (out_of key) told (was ∙ had) is had others are_b are_a (full.reads.means m h) own.made own.distinct behind)
      full.full)

  -- ---- all rows go

  tree_bare : (kind : IndexKind) (x : Sorted (Btree (Hash S) OL) (Btree (Hash S) OD)) (from start now : S) (before : Firsts) → s.tells → is_decimal x ≡ asks_decimal kind → (tree_made l d x).column ≡ Some (column_bytes kind (name_of x)) → TreeStands s l d x from before → TreeBare s l d x start now → FillsFile (tree_file l d x) now kind (name_of x) before (λ k. [])
  tree_bare kind (Lexical i) from start now before told fits column st full =
      fills_bare s R stores.store ol false l stores.lexical kind i.name fits (l.file_of i.tree) i.tree (record { file_is = refl; column_is = column }) from now told before (λ k. []) (λ k. refl) st.pairs
      (tree_means R ol false l stores.lexical i.tree from st.pairs st.held) start (⊎_elim (λ log. inr (λ t. log)) (λ bare. inl (stores.lexical.bare i.tree start now bare)) (full told))
  tree_bare kind (Decimal i) from start now before told fits column st full =
      fills_bare s R stores.store od true d stores.decimal kind i.name fits (d.file_of i.tree) i.tree (record { file_is = refl; column_is = column }) from now told before (λ k. []) (λ k. refl) st.pairs
      (tree_means R od true d stores.decimal i.tree from st.pairs st.held) start (⊎_elim (λ log. inr (λ t. log)) (λ bare. inl (stores.decimal.bare i.tree start now bare)) (full told))

  pub clear_fills : (t : OneTable) (a b : S) (rb : Rows) → s.tells → IsFine t → Holds s R l d t a rb → FullEmptying s R l d t a b → FillsFor t b rb empty
  clear_fills t a b rb told fine h full = ⊎_elim (λ log. inl (log told)) behind full
    where
      behind : FullBehindRows s R l d t a b → FillsFor t b rb empty
      behind full =
          let since = full.full in
          let met = since.met in
          let side : OfTable = met.side in
          let xs : List OfTable = t.sides.items in
          let st : SideStands s l d side a rb = pick_stands met.front side met.back a rb (subst (λ (ys : List OfTable). AllStand s l d ys a rb) met.parted h.indexes) in
          let own : IsMade R l d side = pick_made met.front side met.back (subst (AllMade R l d) met.parted fine.made) in
          let none : (λ (k : List ℕ). []) ≡ parts_of side.kind (name_of side.tree) empty = λ i k. sym (ap (parts_of_row side.kind (name_of side.tree)) (get-empty (slice_cmp nat_cmp) k)) i in
          let fills = tree_bare side.kind side.tree a met.moment since.refused (parts_of side.kind (name_of side.tree) rb) told st.fits own.column st.stands met.full in
          fills_given since.refused b (table rb (indexes_of xs)) (table empty (indexes_of xs)) told since.given_up
          (at_index xs met.front side met.back since.refused rb empty met.parted fine.made fine.distinct (subst (λ (f : Firsts). FillsFile (tree_file l d side.tree) since.refused side.kind (name_of side.tree) (parts_of side.kind (name_of side.tree) rb) f) none fills))

  -- ---- rows of some keys go

  pub each_fills : (keys : List (List ℕ)) (t : OneTable) (a b : S) (rows : Rows) → s.tells → IsFine t → Holds s R l d t a rows → FullGiven s R l d ol.cmp od.cmp keys t a b → FillsFor t b rows (all_out keys rows)
  each_fills keys t a b rows told fine h full =
      let met = full.met in
      let m : Rows = all_out (take met.done keys) rows in
      let held : Holds s R l d met.table met.moment m = met.so_far.means rows h in
      let own = fine_still t met.table met.stays fine in
      let among : is_among met.key keys ≡ true = next_among keys met.key met.done met.next in
      let was : get rows met.key ≡ get m met.key = had_before (take met.done keys) rows met.key met.full.old (met.full.had m held) ∙ sym (met.full.had m held) in
      fills_given full.refused b (table rows (indexes_of t.sides.items)) (table (all_out keys rows) (indexes_of t.sides.items)) told full.given_up
      (as_made t met.table full.refused rows (all_out keys rows) met.stays
      (out_fills met.key met.table met.moment full.refused rows (all_out keys rows) m told own held was (gone keys rows met.key among) (λ k other. so_far keys met.done rows k) h.are (rows_all_out keys rows h.are) met.full))
