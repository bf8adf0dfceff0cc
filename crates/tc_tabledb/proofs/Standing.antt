-- The files of a table that was settled stand for what it holds.
use Rattle.std.proofs.Common.{◌≡◌, ◌∙◌, ◌⊎◌, inl, inr, ⊎_elim, ℕ, ◌+◌, ◌≤◌, Bool, true, false, cond, List, [], ◌∷◌, ◌++◌, length, Option, Some, None, refl, sym, ap, subst, arith}
use Rattle.std.specs.Prelude.{◌≢◌, ◌||◌, is_some}
use Rattle.std.specs.Cmp.Lexicographic.{nat_list_cmp_total}
use Rattle.std.specs.FinMap.{empty, get, insert, same_map}
use Rattle.std.specs.declared.cmp.Ordering.{Ordering}
use Rattle.std.proofs.lemmas.Bool.{cases_eq, or_parts}
use Rattle.std.proofs.lemmas.Map.Lookups.{exact_bytes}
use Rattle.tc_base.specs.Files.{Files}
use Rattle.tc_base.specs.Maps.{Map}
use Rattle.tc_base.specs.Orders.{order}
use Rattle.tc_base.specs.Texts.{is_text}
use Rattle.tc_base.specs.declared.kind.Form.{Form}
use Rattle.tc_base.specs.declared.kind.Form.TheVariants.{Keep}
use Rattle.tc_base.specs.declared.order.Order.{Ghosts as Orders}
use Rattle.tc_base.specs.declared.seq.Pair.{Pair}
use Rattle.tc_space.specs.Lists.{Made}
use Rattle.tc_space.specs.declared.multi.Multi as multi
use Rattle.tc_space.specs.declared.records.Records.{Ghosts as Stores}
use Rattle.tc_space.specs.declared.space.Space.{Ghosts}
use Rattle.bt_rows.specs.Heads.{head_of}
use Rattle.bt_rows.specs.Orders.{before_by}
use Rattle.bt_rows.specs.Standing.{TreeStands, tree_pairs}
use Rattle.bt_rows.specs.declared.head.TreeHead.{TreeHead}
use Rattle.tc_btree.specs.Meaning.{ListStands}
use Rattle.tc_btree.specs.declared.btree.Btree.{Btree}
use Rattle.tc_hash.specs.Ending.{slack_in}
use Rattle.tc_hash.specs.Repacking.{IsPackedFrom}
use Rattle.tc_hash.specs.Standing.{StandsWith}
use Rattle.tc_hash.specs.declared.hash.Hash.{Hash}
use Rattle.tc_model.specs.Contents.{Contents, Indexes, Rows, table}
use Rattle.tc_model.specs.Texts.{is_among, not_empty}
use Rattle.tc_model.specs.declared.query.IndexKind.{IndexKind}
use Rattle.tc_model.specs.declared.query.IndexKind.TheVariants as kinds
use Rattle.td_index.specs.Entries.{AreOwed}
use Rattle.td_index.proofs.Counting.{clash, text_is}
use Rattle.tc_table.specs.Over as over
use Rattle.tc_table.specs.Packing.{AllPacked, IsPacked, tree_packed}
use Rattle.tc_table.specs.Parts.{parts_of}
use Rattle.tc_table.specs.Settling as settling
use Rattle.tc_table.specs.Settling.{TreeFile, tree_slack}
use Rattle.tc_table.specs.Sides.{AreApart, IsAway, asks_decimal, files, is_decimal, name_of, tree_file, tree_made}
use Rattle.tc_table.specs.declared.side.Side.{Side}
use Rattle.tc_table.specs.declared.side.Sorted.{Sorted}
use Rattle.tc_table.specs.declared.side.Sorted.TheVariants.{Lexical, Decimal}
use Rattle.tc_table.specs.declared.table.Table.{Table}
use Rattle.tc_treedb.specs.Holding.{code_of}
use Rattle.tc_treedb.specs.Trees.{IsStore}
use Rattle.tc_tabledb.specs.Files.{AreFilesOf, HaveIndexes, IsIndexFile, IsIndexOf, IsIndexPlace, IsRowsFile, column_bytes, index_files, order_code}
use Rattle.tc_tabledb.specs.Holding.{AllMade, AllPackedFrom, AreDistinct, ArePackedFrom, HoldsTable, LeavesRest, indexes_of, names}
use Rattle.tc_tabledb.specs.Laying.{slack_of}
use Rattle.tc_tabledb.specs.Members.{AreTableStores, IsTreeList}
use Rattle.tc_tabledb.proofs.Limits.{name_here, not_among, turned_text}

-- ---- files

abbrev pub In : ℕ → List ℕ → Type 0
In f [] = ⊥
In f (g ∷ gs) = (f ≡ g) ⊎ In f gs

abbrev pub AllPlaces : List ℕ → Type 0
AllPlaces [] = Unit {0}
AllPlaces (f ∷ fs) = IsIndexPlace f × AllPlaces fs

place : (n : ℕ) → 3 ≤ n → n ≤ 18 → IsIndexPlace n
place n low high = (low, high)

pub all_places : AllPlaces index_files
all_places = (place 3 (omega arith) (omega arith), (place 4 (omega arith) (omega arith), (place 5 (omega arith) (omega arith), (place 6 (omega arith) (omega arith), (place 7 (omega arith) (omega arith), (place 8 (omega arith) (omega arith), (place 9 (omega arith) (omega arith), (place 10 (omega arith) (omega arith), (place 11 (omega arith) (omega arith), (place 12 (omega arith) (omega arith), (place 13 (omega arith) (omega arith), (place 14 (omega arith) (omega arith), (place 15 (omega arith) (omega arith), (place 16 (omega arith) (omega arith), (place 17 (omega arith) (omega arith), (place 18 (omega arith) (omega arith), tt))))))))))))))))

-- each is above those in front of it
abbrev pub Climbs : ℕ → List ℕ → Type 0
Climbs low [] = Unit {0}
Climbs low (f ∷ fs) = (f ≡ low) × Climbs (low + 1) fs

pub all_climb : Climbs 3 index_files
all_climb = (refl, (refl, (refl, (refl, (refl, (refl, (refl, (refl, (refl, (refl, (refl, (refl, (refl, (refl, (refl, (refl, tt))))))))))))))))

above : (fs : List ℕ) (low f : ℕ) → Climbs low fs → f + 1 ≤ low → IsAway f fs
above [] low f climbs less = tt
above (g ∷ fs) low f climbs less = ((λ (same : f ≡ g). absurd (let at = climbs.0 in omega (arith, same, at, less))), above fs (low + 1) f climbs.1 (omega (arith, less)))

pub climbs_apart : (fs : List ℕ) (low : ℕ) → Climbs low fs → AreApart fs
climbs_apart [] low climbs = tt
climbs_apart (f ∷ fs) low climbs = (above fs (low + 1) f climbs.1 (let at = climbs.0 in omega (arith, at)), climbs_apart fs (low + 1) climbs.1)

-- each place is one of them
in_climb : (fs : List ℕ) (low f : ℕ) → Climbs low fs → low ≤ f → f + 1 ≤ low + length fs → In f fs
in_climb [] low f climbs less most = absurd (omega (arith, less, most))
in_climb (g ∷ fs) low f climbs less most = ⊎_elim
    (λ (same : f ≡ low). inl (same ∙ sym climbs.0))
    (λ other. inr (in_climb fs (low + 1) f climbs.1 (omega (arith, less, other)) (omega (arith, most))))
    (cases_eq f low)

pub in_files : (f : ℕ) → IsIndexPlace f → In f index_files
in_files f at = let low = at.0 in let high = at.1 in in_climb index_files 3 f all_climb (omega (arith, low)) (omega (arith, high))

-- ---- one index

pub code_kind : (kind : IndexKind) → code_of (asks_decimal kind) ≡ order_code kind
code_kind kinds.Lexical = refl
code_kind kinds.Decimal = refl
code_kind kinds.Token = refl

module _ {S O : Type 0} (s : Ghosts S) (R : Stores (Hash S) S) (store : IsStore s R) (o : Orders O) (decimal : Bool) (m : multi.Ghosts (Btree (Hash S) O) S O) (list : IsTreeList s R o decimal m) where
  index_file : (made : Made) (kind : IndexKind) (name bytes : List ℕ) (ps : List Pair) → decimal ≡ asks_decimal kind → made.sort ≡ 1 → made.column ≡ Some (column_bytes kind name) → not_empty name ≡ true → m.stands made bytes ps → IsIndexFile bytes kind name ps
  index_file made kind name bytes ps fits sort column named stands =
      let st : ListStands R o made bytes ps = list.stands made bytes ps stands in
      let f = st.file in
      let cmp_is : o.cmp ≡ order (asks_decimal kind) = list.of.cmp ∙ ap order fits in
      let code_is : o.CODE ≡ order_code kind = list.of.code ∙ (ap code_of fits ∙ code_kind kind) in
      let told : (t : TreeStands (before_by (order (asks_decimal kind))) (head_of f.region) true (get f.records)) × (ps ≡ tree_pairs t) =
      subst (λ (cmp : List ℕ → List ℕ → Ordering). (t : TreeStands (before_by cmp) (head_of f.region) true (get f.records)) × (ps ≡ tree_pairs t)) cmp_is
      (subst (λ (h : TreeHead). (t : TreeStands (before_by o.cmp) h true (get f.records)) × (ps ≡ tree_pairs t)) (sym f.numbers)
      (subst (λ (b : Bool). (t : TreeStands (before_by o.cmp) st.head b (get f.records)) × (ps ≡ tree_pairs t)) (ap is_some column) (f.tree, f.are))) in
      record {
        records = f.records;
        region = f.region;
        file = subst (λ (k : ℕ). StandsWith k bytes f.records f.region) sort (store.stands made.sort made.numbers bytes f.records f.region f.file).file;
        code = ap (λ (h : TreeHead). h.order) f.numbers ∙ (f.order ∙ code_is);
        tree = told.0;
        column = f.has ∙ column;
        named = named;
        are = told.1;
      }

-- ---- all of them

module _ {S OL OD : Type 0} (s : Ghosts S) (R : Stores (Hash S) S) (ol : Orders OL) (od : Orders OD) (l : multi.Ghosts (Btree (Hash S) OL) S OL) (d : multi.Ghosts (Btree (Hash S) OD) S OD) (stores : AreTableStores s R ol od l d) (now : Files) (rows : Rows) where
  abbrev OfTable : Type 0
  OfTable = Side (Btree (Hash S) OL) (Btree (Hash S) OD)

  -- its file stands for its parts of the rows
  pub record Fits (x : OfTable) : Type 0 where
    pub pairs : List Pair
    pub file : IsIndexFile (now (tree_file l d x.tree)) x.kind (name_of x.tree) pairs
    pub owed : AreOwed (parts_of x.kind (name_of x.tree) rows) pairs

  abbrev AllFit : List OfTable → Type 0
  AllFit [] = Unit {0}
  AllFit (x ∷ xs) = Fits x × AllFit xs

  tree_fits : (kind : IndexKind) (x : Sorted (Btree (Hash S) OL) (Btree (Hash S) OD)) → is_decimal x ≡ asks_decimal kind → (tree_made l d x).sort ≡ 1 → (tree_made l d x).column ≡ Some (column_bytes kind (name_of x)) → not_empty (name_of x) ≡ true → TreeFile s l d x (parts_of kind (name_of x) rows) (now (tree_file l d x))
      → (ps : List Pair) × IsIndexFile (now (tree_file l d x)) kind (name_of x) ps × AreOwed (parts_of kind (name_of x) rows) ps
  tree_fits kind (Lexical i) fits sort column named f = (f.pairs, index_file s R stores.store ol false l stores.lexical (l.made i.tree) kind i.name (now (l.file_of i.tree)) f.pairs fits sort column named f.stands, f.owed)
  tree_fits kind (Decimal i) fits sort column named f = (f.pairs, index_file s R stores.store od true d stores.decimal (d.made i.tree) kind i.name (now (d.file_of i.tree)) f.pairs fits sort column named f.stands, f.owed)

  abbrev AllOrdered : List OfTable → Type 0
  AllOrdered [] = Unit {0}
  AllOrdered (x ∷ xs) = (is_decimal x.tree ≡ asks_decimal x.kind) × AllOrdered xs

  -- ---- one of them goes

  pub fit_at : (front : List OfTable) (side : OfTable) (back : List OfTable) → AllFit (front ++ side ∷ back) → Fits side
  fit_at [] side back fit = fit.0
  fit_at (x ∷ front) side back fit = fit_at front side back fit.1

  pub fit_less : (front : List OfTable) (side : OfTable) (back : List OfTable) → AllFit (front ++ side ∷ back) → AllFit (front ++ back)
  fit_less [] side back fit = fit.1
  fit_less (x ∷ front) side back fit = (fit.0, fit_less front side back fit.1)

  pub away_less : (f : ℕ) (front : List OfTable) (side : OfTable) (back : List OfTable) → IsAway f (files l d (front ++ side ∷ back)) → IsAway f (files l d (front ++ back))
  away_less f [] side back away = away.1
  away_less f (x ∷ front) side back away = (away.0, away_less f front side back away.1)

  pub away_at : (f : ℕ) (front : List OfTable) (side : OfTable) (back : List OfTable) → IsAway f (files l d (front ++ side ∷ back)) → f ≢ tree_file l d side.tree
  away_at f [] side back away = away.0
  away_at f (x ∷ front) side back away = away_at f front side back away.1

  pub away_more : (f : ℕ) (front : List OfTable) (side : OfTable) (back : List OfTable) → f ≢ tree_file l d side.tree → IsAway f (files l d (front ++ back)) → IsAway f (files l d (front ++ side ∷ back))
  away_more f [] side back other away = (other, away)
  away_more f (x ∷ front) side back other away = (away.0, away_more f front side back other away.1)

  pub apart_less : (front : List OfTable) (side : OfTable) (back : List OfTable) → AreApart (files l d (front ++ side ∷ back)) → AreApart (files l d (front ++ back))
  apart_less [] side back apart = apart.1
  apart_less (x ∷ front) side back apart = (away_less (tree_file l d x.tree) front side back apart.0, apart_less front side back apart.1)

  -- the others have other files
  pub others_away : (front : List OfTable) (side : OfTable) (back : List OfTable) → AreApart (files l d (front ++ side ∷ back)) → IsAway (tree_file l d side.tree) (files l d (front ++ back))
  others_away [] side back apart = apart.0
  others_away (x ∷ front) side back apart = ((λ e. away_at (tree_file l d x.tree) front side back apart.0 (sym e)), others_away front side back apart.1)

  among_less : (n : List ℕ) (front : List OfTable) (side : OfTable) (back : List OfTable) → is_among n (names (front ++ side ∷ back)) ≡ false → is_among n (names (front ++ back)) ≡ false
  among_less n [] side back none = (or_parts (is_text n (name_of side.tree)) (is_among n (names back)) none).1
  among_less n (x ∷ front) side back none =
      let both = or_parts (is_text n (name_of x.tree)) (is_among n (names (front ++ side ∷ back))) none in
      ap (λ (t : Bool). t || is_among n (names (front ++ back))) both.0 ∙ among_less n front side back both.1

  pub distinct_less : (front : List OfTable) (side : OfTable) (back : List OfTable) → AreDistinct (names (front ++ side ∷ back)) → AreDistinct (names (front ++ back))
  distinct_less [] side back distinct = distinct.1
  distinct_less (x ∷ front) side back distinct = (among_less (name_of x.tree) front side back distinct.0, distinct_less front side back distinct.1)

  abbrev AllNew : List (List ℕ) → List OfTable → Type 0
  AllNew seen [] = Unit {0}
  AllNew seen (x ∷ xs) = (is_among (name_of x.tree) seen ≡ false) × AllNew seen xs

  new_at : (seen : List (List ℕ)) (front : List OfTable) (side : OfTable) (back : List OfTable) → AllNew seen (front ++ side ∷ back) → is_among (name_of side.tree) seen ≡ false
  new_at seen [] side back new = new.0
  new_at seen (x ∷ front) side back new = new_at seen front side back new.1

  pushed_new : (n : List ℕ) (seen : List (List ℕ)) (m : List ℕ) → is_among n seen ≡ false → is_text n m ≡ false → is_among n (seen ++ m ∷ []) ≡ false
  pushed_new n [] m none other = ap (λ (t : Bool). t || false) other
  pushed_new n (k ∷ seen) m none other =
      let both = or_parts (is_text n k) (is_among n seen) none in
      ap (λ (t : Bool). t || is_among n (seen ++ m ∷ [])) both.0 ∙ pushed_new n seen m both.1 other

  new_each : (seen : List (List ℕ)) (name : List ℕ) (xs : List OfTable) → AllNew seen xs → is_among name (names xs) ≡ false → AllNew (seen ++ name ∷ []) xs
  new_each seen name [] new none = tt
  new_each seen name (x ∷ xs) new none =
      let both = or_parts (is_text name (name_of x.tree)) (is_among name (names xs)) none in
      (pushed_new (name_of x.tree) seen name new.0 (turned_text name (name_of x.tree) both.0), new_each seen name xs new.1 both.1)

  new_less : (seen : List (List ℕ)) (front : List OfTable) (side : OfTable) (back : List OfTable) → AllNew seen (front ++ side ∷ back) → AllNew seen (front ++ back)
  new_less seen [] side back new = new.1
  new_less seen (x ∷ front) side back new = (new.0, new_less seen front side back new.1)

  -- its name is none of the others
  pub name_alone : (front : List OfTable) (side : OfTable) (back : List OfTable) → AreDistinct (names (front ++ side ∷ back)) → is_among (name_of side.tree) (names (front ++ back)) ≡ false
  name_alone [] side back distinct = distinct.0
  name_alone (x ∷ front) side back distinct =
      ap (λ (t : Bool). t || is_among (name_of side.tree) (names (front ++ back))) (turned_text (name_of x.tree) (name_of side.tree) (not_among (name_of x.tree) front side back distinct.0))
      ∙ name_alone front side back distinct.1

  -- under each name the others have what they had
  pub index_got : (front : List OfTable) (side : OfTable) (back : List OfTable) → AreDistinct (names (front ++ side ∷ back)) → (k : List ℕ) → get (indexes_of (front ++ side ∷ back)) k ≡ cond (is_text k (name_of side.tree)) (Some side.kind) (get (indexes_of (front ++ back)) k)
  index_got [] side back distinct k = name_here (indexes_of back) (name_of side.tree) side.kind k
  index_got (x ∷ front) side back distinct k =
      name_here (indexes_of (front ++ side ∷ back)) (name_of x.tree) x.kind k
      ∙ (ap (λ (o : Option IndexKind). cond (is_text k (name_of x.tree)) (Some x.kind) o) (index_got front side back distinct.1 k)
      ∙ (swapped (is_text k (name_of x.tree)) refl (is_text k (name_of side.tree)) refl ∙ sym (ap (λ (o : Option IndexKind). cond (is_text k (name_of side.tree)) (Some side.kind) o) (name_here (indexes_of (front ++ back)) (name_of x.tree) x.kind k))))
    where
      rest : Option IndexKind
      rest = get (indexes_of (front ++ back)) k

      swapped : (t : Bool) → is_text k (name_of x.tree) ≡ t → (u : Bool) → is_text k (name_of side.tree) ≡ u → cond t (Some x.kind) (cond u (Some side.kind) (get (indexes_of (front ++ back)) k)) ≡ cond u (Some side.kind) (cond t (Some x.kind) (get (indexes_of (front ++ back)) k))
      swapped true first true second = clash (is_text (name_of x.tree) (name_of side.tree)) (subst (λ (n : List ℕ). is_text n (name_of side.tree) ≡ true) (text_is k (name_of x.tree) first) second) (not_among (name_of x.tree) front side back distinct.0)
      swapped true first false second = refl
      swapped false first true second = refl
      swapped false first false second = refl

  pub index_out : (front : List OfTable) (side : OfTable) (back : List OfTable) → AreDistinct (names (front ++ side ∷ back)) → indexes_of (front ++ side ∷ back) ≡ insert (indexes_of (front ++ back)) (name_of side.tree) side.kind
  index_out front side back distinct = same_map nat_list_cmp_total exact_bytes (indexes_of (front ++ side ∷ back)) (insert (indexes_of (front ++ back)) (name_of side.tree) side.kind)
      (λ k. index_got front side back distinct k ∙ sym (name_here (indexes_of (front ++ back)) (name_of side.tree) side.kind k))

  -- ---- file by file

  record Found (f : ℕ) (xs : List OfTable) : Type 0 where
    front : List OfTable
    side : OfTable
    back : List OfTable
    parted : xs ≡ front ++ side ∷ back
    here : tree_file l d side.tree ≡ f

  find_side : (f : ℕ) (xs : List OfTable) → IsAway f (files l d xs) ⊎ Found f xs
  find_side f [] = inl tt
  find_side f (x ∷ xs) = ⊎_elim
      (λ (same : f ≡ tree_file l d x.tree). inr (record { front = []; side = x; back = xs; parted = refl; here = sym same }))
      (λ other. ⊎_elim
      (λ away. inl (other, away))
      (λ found. inr (record { front = x ∷ found.front; side = found.side; back = found.back; parted = ap (λ (ys : List OfTable). x ∷ ys) found.parted; here = found.here }))
      (find_side f xs))
      (cases_eq f (tree_file l d x.tree))

  abbrev AllInside : List ℕ → List OfTable → Type 0
  AllInside fs [] = Unit {0}
  AllInside fs (x ∷ xs) = In (tree_file l d x.tree) fs × AllInside fs xs

  inside_less : (fs : List ℕ) (front : List OfTable) (side : OfTable) (back : List OfTable) → AllInside fs (front ++ side ∷ back) → AllInside fs (front ++ back)
  inside_less fs [] side back inside = inside.1
  inside_less fs (x ∷ front) side back inside = (inside.0, inside_less fs front side back inside.1)

  -- in none of the first file
  inside_rest : (f : ℕ) (fs : List ℕ) (xs : List OfTable) → IsAway f (files l d xs) → AllInside (f ∷ fs) xs → AllInside fs xs
  inside_rest f fs [] away inside = tt
  inside_rest f fs (x ∷ xs) away inside = (⊎_elim (λ same. absurd (away.0 (sym same))) (λ later. later) inside.0, inside_rest f fs xs away.1 inside.1)

  abbrev EmptyRest : List ℕ → List OfTable → Type 0
  EmptyRest fs xs = (f : ℕ) → In f fs → IsAway f (files l d xs) → now f ≡ []

  not_in : (f : ℕ) (fs : List ℕ) (g : ℕ) → IsAway f fs → In g fs → g ≡ f → ⊥
  not_in f [] g away in_fs same = in_fs
  not_in f (h ∷ fs) g away in_fs same = ⊎_elim (λ here. away.0 (sym same ∙ here)) (λ later. not_in f fs g away.1 later same) in_fs

  -- sides whose files are among these have indexes in them
  abbrev Has : List ℕ → Type 0
  Has fs = (xs : List OfTable) (seen : List (List ℕ)) → AreApart fs → AllInside fs xs → AllFit xs → AreDistinct (names xs) → AllNew seen xs → AreApart (files l d xs) → EmptyRest fs xs → HaveIndexes rows now fs seen (indexes_of xs)

  have : (fs : List ℕ) → Has fs
  have [] [] seen climbs inside fit distinct new apart rest = refl
  have [] (x ∷ xs) seen climbs inside fit distinct new apart rest = absurd inside.0
  have (f ∷ fs) xs seen climbs inside fit distinct new apart rest = ⊎_elim (none (have fs)) (some (have fs)) (find_side f xs)
    where
      none : Has fs → IsAway f (files l d xs) → HaveIndexes rows now (f ∷ fs) seen (indexes_of xs)
      none on away = inl (rest f (inl refl) away, on xs seen climbs.1 (inside_rest f fs xs away inside) fit distinct new apart (λ g in_fs far. rest g (inr in_fs) far))

      some : Has fs → Found f xs → HaveIndexes rows now (f ∷ fs) seen (indexes_of xs)
      some later found =
          let front = found.front in
          let side : OfTable = found.side in
          let back = found.back in
          let on : (P : List OfTable → Type 0) → P xs → P (front ++ side ∷ back) = λ P p. subst P found.parted p in
          let own : Fits side = fit_at front side back (on AllFit fit) in
          let distinct_here = on (λ ys. AreDistinct (names ys)) distinct in
          let apart_here = on (λ ys. AreApart (files l d ys)) apart in
          let others : IsAway f (files l d (front ++ back)) = subst (λ (g : ℕ). IsAway g (files l d (front ++ back))) found.here (others_away front side back apart_here) in
          let index : IsIndexOf rows seen (now f) side.kind (name_of side.tree) = record {
            pairs = own.pairs;
            file = subst (λ (g : ℕ). IsIndexFile (now g) side.kind (name_of side.tree) own.pairs) found.here own.file;
            new = new_at seen front side back (on (AllNew seen) new);
            owed = own.owed;
          } in
          inr (
            side.kind,
            name_of side.tree,
            indexes_of (front ++ back),
            index,
            later (front ++ back) (seen ++ name_of side.tree ∷ []) climbs.1 (inside_rest f fs (front ++ back) others (inside_less (f ∷ fs) front side back (on (AllInside (f ∷ fs)) inside))) (fit_less front side back (on AllFit fit)) (distinct_less front side back distinct_here)
                (new_each seen (name_of side.tree) (front ++ back) (new_less seen front side back (on (AllNew seen) new)) (name_alone front side back distinct_here))
                (apart_less front side back apart_here)
                (λ g in_fs far. rest g (inr in_fs) (subst (λ (ys : List OfTable). IsAway g (files l d ys)) (sym found.parted) (away_more g front side back (λ e. not_in f fs g climbs.0 in_fs (e ∙ found.here)) far))),
            subst (λ (ys : List OfTable). indexes_of ys ≡ insert (indexes_of (front ++ back)) (name_of side.tree) side.kind) (sym found.parted) (index_out front side back distinct_here),
          )

-- ---- a table that was settled

module _ {S OL OD : Type 0} (s : Ghosts S) (R : Stores (Hash S) S) (ol : Orders OL) (od : Orders OD) (l : multi.Ghosts (Btree (Hash S) OL) S OL) (d : multi.Ghosts (Btree (Hash S) OD) S OD) (stores : AreTableStores s R ol od l d) where
  abbrev OneSide : Type 0
  OneSide = Side (Btree (Hash S) OL) (Btree (Hash S) OD)

  abbrev OneTable : Type 0
  OneTable = Table (Hash S) (Btree (Hash S) OL) (Btree (Hash S) OD)

  all_fit : (b : S) (rows : Rows) (fs : Files) (xs : List OneSide) → AllMade R l d xs → over.AllOver l d xs fs rows → settling.AllOver s l d (settling.IsIndexFile s l d rows) xs b → AllFit s R ol od l d stores (s.now b) rows xs
  all_fit b rows fs [] made held brought = tt
  all_fit b rows fs (x ∷ xs) made held brought =
      let f = tree_fits s R ol od l d stores (s.now b) rows x.kind x.tree held.0.fits made.0.sort made.0.column made.0.named brought.0.file in
      (record { pairs = f.0; file = f.1; owed = f.2 }, all_fit b rows fs xs made.1 held.1 brought.1)

  all_inside : (now : Files) (rows : Rows) (xs : List OneSide) → AllMade R l d xs → AllInside s R ol od l d stores now rows index_files xs
  all_inside now rows [] made = tt
  all_inside now rows (x ∷ xs) made = (in_files (tree_file l d x.tree) made.0.file, all_inside now rows xs made.1)

  all_new : (now : Files) (rows : Rows) (xs : List OneSide) → AllNew s R ol od l d stores now rows [] xs
  all_new now rows [] = tt
  all_new now rows (x ∷ xs) = (refl, all_new now rows xs)

  in_place : (fs : List ℕ) → AllPlaces fs → (f : ℕ) → In f fs → IsIndexPlace f
  in_place [] at f among = absurd among
  in_place (g ∷ fs) at f among = ⊎_elim (λ same. subst IsIndexPlace (sym same) at.0) (λ later. in_place fs at.1 f later) among

  module _ (t : OneTable) (total : Option ℕ) (before : Files) (c : Contents) (b : S) (h : HoldsTable R l d t total before c) (rest : LeavesRest R l d t.sides.items (s.now b)) (are : settling.AreFilesOf s l d R t b h.rows) where
    abbrev sides : List OneSide
    sides = t.sides.items

    pub settled_files : AreFilesOf (s.now b) c
    settled_files = record {
      rows = h.rows;
      indexes = indexes_of sides;
      is = h.is;
      main = record {
        records = are.store;
        region = R.region t.rows;
        file = subst (λ (f : ℕ). StandsWith 3 (s.now b f) are.store (R.region t.rows)) h.main
            (subst (λ (k : ℕ). StandsWith k (s.now b (R.file_of t.rows)) are.store (R.region t.rows)) h.sort (stores.store.stands (R.sort t.rows) (R.numbers t.rows) (s.now b (R.file_of t.rows)) are.store (R.region t.rows) are.main).file);
        spelled = are.spelled;
        are = h.held.are;
      };
      have = have s R ol od l d stores (s.now b) h.rows index_files sides [] (climbs_apart index_files 3 all_climb) (all_inside (s.now b) h.rows sides h.made) (all_fit b h.rows before sides h.made h.held.indexes are.indexes) h.distinct (all_new (s.now b) h.rows sides) h.held.apart.1
          (λ f among away. rest f (in_place index_files all_places f among) away);
    }

    -- no byte at the end of a file holds nothing
    tree_trims : (x : Sorted (Btree (Hash S) OL) (Btree (Hash S) OD)) (bytes : List ℕ) → tree_slack s l d x bytes ≡ 0 → slack_in bytes ≡ 0
    tree_trims (Lexical i) bytes none = sym (stores.lexical.slack bytes ∙ stores.store.slack bytes) ∙ none
    tree_trims (Decimal i) bytes none = sym (stores.decimal.slack bytes ∙ stores.store.slack bytes) ∙ none

    side_trims : (front : List OneSide) (side : OneSide) (back : List OneSide) → settling.AllOver s l d (settling.IsIndexFile s l d h.rows) (front ++ side ∷ back) b → slack_in (s.now b (tree_file l d side.tree)) ≡ 0
    side_trims [] side back brought = tree_trims side.tree (s.now b (tree_file l d side.tree)) brought.0.trims
    side_trims (x ∷ front) side back brought = side_trims front side back brought.1

    file_trims : (f : ℕ) → IsIndexPlace f → slack_in (s.now b f) ≡ 0
    file_trims f at = ⊎_elim
        (λ away. ap slack_in (rest f at away))
        (λ found. subst (λ (g : ℕ). slack_in (s.now b g) ≡ 0) found.here (side_trims found.front found.side found.back (subst (λ (ys : List OneSide). settling.AllOver s l d (settling.IsIndexFile s l d h.rows) ys b) found.parted are.indexes)))
        (find_side s R ol od l d stores (s.now b) h.rows f sides)

    files_trim : (fs : List ℕ) → AllPlaces fs → slack_of (s.now b) fs ≡ 0
    files_trim [] at = refl
    files_trim (f ∷ fs) at = omega (arith, file_trims f at.0, files_trim fs at.1)

    pub none_slack : slack_of (s.now b) (0 ∷ index_files) ≡ 0
    none_slack =
        let main : slack_in (s.now b 0) ≡ 0 = ap (λ (f : ℕ). slack_in (s.now b f)) (sym h.main) ∙ (sym (stores.store.slack (s.now b (R.file_of t.rows))) ∙ are.trims) in
        omega (arith, main, files_trim index_files all_places)

  -- ---- a table that was packed

  module _ (t : OneTable) (from : Files) (form : Form) (now : Files) (main : R.file_of t.rows ≡ 0) (rest : LeavesRest R l d t.sides.items now) (are : IsPacked s l d R t from form now) where
    no_rows : Rows
    no_rows = empty

    tree_packs : (x : Sorted (Btree (Hash S) OL) (Btree (Hash S) OD)) (old bytes : List ℕ) → tree_packed s l d x old bytes → IsPackedFrom old Keep bytes
    tree_packs (Lexical i) old bytes packed = stores.store.packed old Keep bytes (stores.lexical.packed old Keep bytes packed)
    tree_packs (Decimal i) old bytes packed = stores.store.packed old Keep bytes (stores.decimal.packed old Keep bytes packed)

    side_packs : (front : List OneSide) (side : OneSide) (back : List OneSide) → AllPacked s l d (front ++ side ∷ back) from now → IsPackedFrom (from (tree_file l d side.tree)) Keep (now (tree_file l d side.tree))
    side_packs [] side back packed = tree_packs side.tree (from (tree_file l d side.tree)) (now (tree_file l d side.tree)) packed.0
    side_packs (x ∷ front) side back packed = side_packs front side back packed.1

    file_packs : (f : ℕ) → IsIndexPlace f → (now f ≡ []) ⊎ IsPackedFrom (from f) Keep (now f)
    file_packs f at = ⊎_elim
        (λ away. inl (rest f at away))
        (λ found. inr (subst (λ (g : ℕ). IsPackedFrom (from g) Keep (now g)) found.here (side_packs found.front found.side found.back (subst (λ (ys : List OneSide). AllPacked s l d ys from now) found.parted are.sides))))
        (find_side s R ol od l d stores now no_rows f t.sides.items)

    files_pack : (fs : List ℕ) → AllPlaces fs → AllPackedFrom from now fs
    files_pack [] at = tt
    files_pack (f ∷ fs) at = (file_packs f at.0, files_pack fs at.1)

    pub packed_files : ArePackedFrom from form now
    packed_files = record { main = subst (λ (f : ℕ). IsPackedFrom (from f) form (now f)) main (stores.store.packed (from (R.file_of t.rows)) form (now (R.file_of t.rows)) are.rows); indexes = files_pack index_files all_places }
