-- A table whose files were packed.
use Rattle.std.proofs.Common.{◌≡◌, ◌∙◌, ℕ, List, [], ◌∷◌, Result, Ok, Err, refl, sym, ap, subst, ⊎_elim, ◌⊎◌, inl}
use Rattle.std.specs.Prelude.{Bool, false, OnOk}
use Rattle.std.specs.Result.{IsErrAnd}
use Rattle.tc_base.specs.Files.{Files}
use Rattle.tc_base.specs.declared.kind.Form.{Form}
use Rattle.tc_base.specs.declared.kind.Form.TheVariants.{Keep, Large}
use Rattle.tc_space.specs.Changes.{same}
use Rattle.tc_space.specs.Frames.{In, Others}
use Rattle.tc_space.specs.Lists.{Made, PacksList, StaysList, made_in}
use Rattle.tc_space.specs.Stores.{FullPack, Only, PacksIn, PacksMap, TightIn, WritesIn, in_form}
use Rattle.tc_space.specs.declared.space.Space.{Ghosts}
use Rattle.tc_space.specs.declared.records.Records as records
use Rattle.tc_space.specs.declared.multi.Multi as multi
use Rattle.tc_model.specs.Contents.{Rows}
use Rattle.td_index.specs.declared.index.Index.{Index}
use Rattle.td_index.proofs.Handed.{on_err_any}
use Rattle.tc_table.specs.Packing.{AllPack, AllPacked, AllTight, AllTighten, IsPacked, IsTight, Packs, TablePacks, TreePacks, TreeTight, tree_packed, tree_tight}
use Rattle.tc_table.specs.Parts.{parts_of}
use Rattle.tc_table.specs.Settling.{AllKeep, TreeKeeps}
use Rattle.tc_table.specs.Sides.{AllStay, IsAway, StaysSide, StaysTree, files, name_of, tree_file}
use Rattle.tc_table.specs.Tables.{Holds}
use Rattle.tc_table.specs.declared.side.Side.{Side}
use Rattle.tc_table.specs.declared.side.Sorted.{Sorted}
use Rattle.tc_table.specs.declared.side.Sorted.TheVariants.{Lexical, Decimal}
use Rattle.tc_table.specs.declared.table.Table.{Table}
use Rattle.tc_table.proofs.Settled.{settled, settled_others, tree_tells}
use Rattle.tc_table.proofs.Turning.{all_still, files_stay, turned}

-- ---- in the form that it has

keep_form : (numbers : List ℕ) → in_form Keep numbers ≡ numbers
keep_form [] = refl
keep_form (n ∷ ns) = refl

made_keep : (m : Made) → made_in Keep m ≡ m
made_keep m = ap (λ (ns : List ℕ). record m { numbers = ns }) (keep_form m.numbers)

pub list_formed : {S V T E : Type 0} (flag : S → Bool) (file_of : V → ℕ) (made : V → Made) (lead : V → ℕ) (r : Result T E) (v w : V) (b : S) → PacksList flag file_of made lead Keep r v w b → OnOk r (StaysList file_of made lead v w)
list_formed flag file_of made lead (Ok x) v w b packs = record { file = packs.file; made_same = packs.formed ∙ made_keep (made v); leads = packs.leads }
list_formed flag file_of made lead (Err e) v w b packs = tt

pub log_alone : {S V : Type 0} (s : Ghosts S) (lacks : V → S → S → Type 0) (v : V) (a b : S) → FullPack s lacks Keep v a b → s.tells → s.log_full b
log_alone s lacks v a b full tells = ⊎_elim (λ log. log) (λ large. absurd (let e : Keep ≡ Large = large.0 in cc)) (full tells)

-- ---- what is told of a packing, by its answer

module _ {S V : Type 0} (flag : S → Bool) (file_of sort : V → ℕ) (numbers region : V → List ℕ) (lead gets : V → ℕ) (form : Form) (v w : V) where
  pub formed_done : {T U E : Type 0} (x : T) (y : U) (b c : S) → PacksMap {E = E} flag file_of sort numbers region lead gets form (Ok x) v w b → PacksMap {E = E} flag file_of sort numbers region lead gets form (Ok y) v w c
  formed_done x y b c packs = record { file = packs.file; sort_same = packs.sort_same; region_same = packs.region_same; gets_same = packs.gets_same; formed = packs.formed; leads = packs.leads; left = tt }

  pub formed_refused : {T U E F : Type 0} (r : Result U F) (e : E) (f : F) (b : S) → IsErrAnd r (λ y. y ≡ f) → PacksMap {T = T} flag file_of sort numbers region lead gets form (Err e) v w b → PacksMap flag file_of sort numbers region lead gets form r v w b
  formed_refused (Ok x) e f b is packs = absurd is
  formed_refused (Err x) e f b is packs = record { file = packs.file; sort_same = packs.sort_same; region_same = packs.region_same; gets_same = packs.gets_same; formed = tt; leads = tt; left = packs.left }

  pub formed_spoiled : {T U E F : Type 0} (x : T) (r : Result U F) (f : F) (b c : S) → IsErrAnd r (λ y. y ≡ f) → flag c ≡ false → PacksMap {E = E} flag file_of sort numbers region lead gets form (Ok x) v w b → PacksMap flag file_of sort numbers region lead gets form r v w c
  formed_spoiled x (Ok y) f b c is spoiled packs = absurd is
  formed_spoiled x (Err y) f b c is spoiled packs = record { file = packs.file; sort_same = packs.sort_same; region_same = packs.region_same; gets_same = packs.gets_same; formed = tt; leads = tt; left = inl spoiled }

module _ {S L OL D OD : Type 0} (s : Ghosts S) (l : multi.Ghosts L S OL) (d : multi.Ghosts D S OD) where
  -- ---- one tree

  pub lexical_tight : (i : Index L) (t : L) (a b : S) → TightIn s l.file_of l.holds l.tight Keep i.tree t a b → TreeTight s l d (Lexical i) (Lexical (record i { tree = t })) a b
  lexical_tight i t a b tight h st = tight st.pairs st.held

  pub decimal_tight : (i : Index D) (t : D) (a b : S) → TightIn s d.file_of d.holds d.tight Keep i.tree t a b → TreeTight s l d (Decimal i) (Decimal (record i { tree = t })) a b
  decimal_tight i t a b tight h st = tight st.pairs st.held

  pub lexical_packs : (i : Index L) (a b : S) → PacksIn s l.file_of l.holds l.tight l.packed i.tree a b → TreePacks s l d (Lexical i) a b
  lexical_packs i a b packs from h tight st = packs from Keep st.pairs tight st.held

  pub decimal_packs : (i : Index D) (a b : S) → PacksIn s d.file_of d.holds d.tight d.packed i.tree a b → TreePacks s l d (Decimal i) a b
  decimal_packs i a b packs from h tight st = packs from Keep st.pairs tight st.held

  -- ---- all of them

  -- each one's file is the same
  abbrev AllSame : List (Side L D) → Files → Files → Type 0
  AllSame [] f g = Unit {0}
  AllSame (x ∷ xs) f g = (f (tree_file l d x.tree) ≡ g (tree_file l d x.tree)) × AllSame xs f g

  same_files : (xs : List (Side L D)) (f : Files) → AllSame xs f f
  same_files [] f = tt
  same_files (x ∷ xs) f = (refl, same_files xs f)

  same_back : (xs : List (Side L D)) (f g : Files) → AllSame xs f g → AllSame xs g f
  same_back [] f g all = tt
  same_back (x ∷ xs) f g all = (sym all.0, same_back xs f g all.1)

  away_same : (xs : List (Side L D)) (f : ℕ) (a b : S) → s.tells → IsAway f (files l d xs) → Others s (Only f) a b → AllSame xs (s.now a) (s.now b)
  away_same [] f a b tells away others = tt
  away_same (x ∷ xs) f a b tells away others = (sym (others.same tells (tree_file l d x.tree) (λ e. turned f (tree_file l d x.tree) away.0 e)), away_same xs f a b tells away.1 others)

  tight_as : (xs : List (Side L D)) (from from' now now' : Files) → AllSame xs from from' → AllSame xs now now' → AllTight s l d xs from now → AllTight s l d xs from' now'
  tight_as [] from from' now now' first second tight = tt
  tight_as (x ∷ xs) from from' now now' first second tight = (
    subst (λ (bytes : List ℕ). tree_tight s l d x.tree bytes (now' (tree_file l d x.tree))) first.0 (subst (λ (bytes : List ℕ). tree_tight s l d x.tree (from (tree_file l d x.tree)) bytes) second.0 tight.0),
    tight_as xs from from' now now' first.1 second.1 tight.1,
  )

  pub none_packs : (ws : List (Side L D)) (a : S) → ws ≡ [] → AllPack s l d ws a a
  none_packs ws a is = subst (λ (xs : List (Side L D)). AllPack s l d xs a a) (sym is) (λ from rows apart st tight. tt)

  pub all_packs : (ws : List (Side L D)) (x : Side L D) (t : Sorted L D) (xs ys : List (Side L D)) (a b c : S) → ws ≡ x ∷ xs → TreeKeeps s l d x.tree t a b → TreePacks s l d x.tree a b → AllKeep s l d xs ys b c → AllPack s l d xs b c → AllPack s l d ws a c
  all_packs ws x t xs ys a b c is kept first keep rest = subst (λ (zs : List (Side L D)). AllPack s l d zs a c) (sym is) (λ from rows apart st tight.
      let h = parts_of x.kind (name_of x.tree) rows in
      let tells = tree_tells s l d x.tree a h st.0.stands in
      let still : s.now c (tree_file l d x.tree) ≡ s.now b (tree_file l d x.tree) = keep.others.same tells (tree_file l d x.tree) apart.0 in (
        subst (λ (bytes : List ℕ). tree_packed s l d x.tree (from (tree_file l d x.tree)) bytes) (sym still) (first (from (tree_file l d x.tree)) h tight.0 st.0.stands),
        rest from rows apart.1 (all_still s l d (tree_file l d x.tree) xs a b rows apart.0 kept.others st.1) (tight_as xs from from (s.now a) (s.now b) (same_files xs from) (away_same xs (tree_file l d x.tree) a b tells apart.0 kept.others) tight.1),
      ))

  pub none_tighten : (ws : List (Side L D)) (a : S) → ws ≡ [] → AllTighten s l d ws ws a a
  none_tighten ws a is = subst (λ (xs : List (Side L D)). AllTighten s l d xs xs a a) (sym is) (λ rows apart st. tt)

  pub all_tighten : (ws : List (Side L D)) (x y : Side L D) (xs ys : List (Side L D)) (a b c : S) → ws ≡ x ∷ xs → StaysSide l d x y → AllStay l d xs ys → TreeKeeps s l d x.tree y.tree a b → TreeTight s l d x.tree y.tree a b → AllKeep s l d xs ys b c → AllTighten s l d xs ys b c
      → AllTighten s l d ws (y ∷ ys) a c
  all_tighten ws x y xs ys a b c is stays stay kept first keep rest = subst (λ (zs : List (Side L D)). AllTighten s l d zs (y ∷ ys) a c) (sym is) (λ rows apart st.
      let h = parts_of x.kind (name_of x.tree) rows in
      let tells = tree_tells s l d x.tree a h st.0.stands in
      let still : s.now c (tree_file l d x.tree) ≡ s.now b (tree_file l d x.tree) = keep.others.same tells (tree_file l d x.tree) apart.0 in
      let away : IsAway (tree_file l d x.tree) (files l d ys) = subst (λ (fs : List ℕ). IsAway (tree_file l d x.tree) fs) (sym (files_stay s l d xs ys stay)) apart.0 in (
        subst (λ (n : ℕ). tree_tight s l d y.tree (s.now a n) (s.now c n)) (sym stays.tree.file) (subst (λ (bytes : List ℕ). tree_tight s l d y.tree (s.now a (tree_file l d x.tree)) bytes) (sym still) (first h st.0.stands)),
        tight_as ys (s.now b) (s.now a) (s.now c) (s.now c) (same_back ys (s.now a) (s.now b) (away_same ys (tree_file l d x.tree) a b tells away kept.others)) (same_files ys (s.now c))
            (rest rows apart.1 (all_still s l d (tree_file l d x.tree) xs a b rows apart.0 kept.others st.1)),
      ))

  -- ---- a table

  module _ {R : Type 0} (r : records.Ghosts R S) where
    pub table_packs : (t t' : Table R L D) (v : R) (a b c : S) → WritesIn s r.file_of r.holds same t.rows v a b → PacksIn s r.file_of r.holds r.tight r.packed t.rows a b → AllKeep s l d t.sides.items t'.sides.items b c → AllPack s l d t.sides.items b c → TablePacks s l d r t a c
    table_packs t t' v a b c w packs keep pack from form rows tight h =
        let still : s.now c (r.file_of t.rows) ≡ s.now b (r.file_of t.rows) = keep.others.same h.held.0 (r.file_of t.rows) h.apart.0 in
        record {
          rows = subst (λ (bytes : List ℕ). r.packed (from (r.file_of t.rows)) form bytes) (sym still) (packs (from (r.file_of t.rows)) form h.store tight.rows h.held);
          sides = pack from rows h.apart.1 (all_still s l d (r.file_of t.rows) t.sides.items a b rows h.apart.0 w.others h.indexes)
              (tight_as t.sides.items from from (s.now a) (s.now b) (same_files t.sides.items from) (away_same t.sides.items (r.file_of t.rows) a b h.held.0 h.apart.0 w.others) tight.sides);
        }

    pub packed : (form : Form) (t t' : Table R L D) (v : R) (a b c : S) → t'.rows ≡ v → WritesIn s r.file_of r.holds same t.rows v a b → TightIn s r.file_of r.holds r.tight form t.rows v a b → r.file_of v ≡ r.file_of t.rows → AllStay l d t.sides.items t'.sides.items
        → AllKeep s l d t.sides.items t'.sides.items b c → AllTighten s l d t.sides.items t'.sides.items b c → Packs s l d r form t t' a c
    packed form t t' v a b c is w tight file stay keep tighten = record {
      sound = keep.sound;
      means = settled s l d r t t' v a b c is w file stay keep;
      tight = λ rows h.
          let still : s.now c (r.file_of t.rows) ≡ s.now b (r.file_of t.rows) = keep.others.same h.held.0 (r.file_of t.rows) h.apart.0 in
          let away : IsAway (r.file_of t.rows) (files l d t'.sides.items) = subst (λ (fs : List ℕ). IsAway (r.file_of t.rows) fs) (sym (files_stay s l d t.sides.items t'.sides.items stay)) h.apart.0 in
          record {
            rows = subst (λ (x : R). r.tight x (s.now a (r.file_of x)) form (s.now c (r.file_of x))) (sym is)
                (subst (λ (n : ℕ). r.tight v (s.now a n) form (s.now c n)) (sym file) (subst (λ (bytes : List ℕ). r.tight v (s.now a (r.file_of t.rows)) form bytes) (sym still) (tight h.store h.held)));
            sides = tight_as t'.sides.items (s.now b) (s.now a) (s.now c) (s.now c) (same_back t'.sides.items (s.now a) (s.now b) (away_same t'.sides.items (r.file_of t.rows) a b h.held.0 away w.others)) (same_files t'.sides.items (s.now c))
                (tighten rows h.apart.1 (all_still s l d (r.file_of t.rows) t.sides.items a b rows h.apart.0 w.others h.indexes));
          };
      others = settled_others s l d r t t' v a b c w keep;
    }
