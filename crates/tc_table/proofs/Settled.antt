-- A table that was brought to its files.
use Rattle.std.proofs.Common.{◌≡◌, ◌∙◌, ℕ, List, [], ◌∷◌, refl, sym, ap, subst, Result, Ok, Err}
use Rattle.std.specs.Prelude.{OnOk}
use Rattle.tc_space.specs.Changes.{same}
use Rattle.tc_space.specs.Frames.{In}
use Rattle.tc_space.specs.Stores.{BringsIn, IsReady, TrimsIn, WritesIn}
use Rattle.tc_space.specs.declared.space.Space.{Ghosts}
use Rattle.tc_space.specs.declared.records.Records as records
use Rattle.tc_space.specs.declared.multi.Multi as multi
use Rattle.tc_model.specs.Contents.{Rows}
use Rattle.td_index.specs.Entries.{Firsts}
use Rattle.td_index.specs.declared.index.Index.{Index}
use Rattle.tc_table.specs.Parts.{parts_of}
use Rattle.tc_table.specs.Settling.{AllBring, AllKeep, AllOver, AreFilesOf, IsIndexFile, TreeBrings, TreeFile, TreeKeeps, tree_slack}
use Rattle.tc_table.specs.Sides.{AllReady, AllStay, AreApart, IsAway, OthersAll, SideStands, StaysSide, TreeStands, asks_decimal, files, name_of, tree_file}
use Rattle.tc_model.specs.declared.query.IndexKind.{IndexKind}
use Rattle.tc_table.specs.Tables.{Holds, files_of}
use Rattle.tc_table.specs.declared.side.Side.{Side}
use Rattle.tc_table.specs.declared.side.Sorted.{Sorted}
use Rattle.tc_table.specs.declared.side.Sorted.TheVariants.{Lexical, Decimal}
use Rattle.tc_table.specs.declared.table.Table.{Table}
use Rattle.tc_table.proofs.Turning.{all_still, files_stay, side_still}

module _ {S L OL D OD : Type 0} (s : Ghosts S) (l : multi.Ghosts L S OL) (d : multi.Ghosts D S OD) where
  -- ---- one tree

  pub lexical_kept : (i : Index L) (t : L) (a b : S) → WritesIn s l.file_of l.holds same i.tree t a b → TreeKeeps s l d (Lexical i) (Lexical (record i { tree = t })) a b
  lexical_kept i t a b w = record { sound = w.sound; means = λ h st. record { pairs = st.pairs; held = w.means st.pairs st.held; exact = st.exact }; others = w.others }

  pub decimal_kept : (i : Index D) (t : D) (a b : S) → WritesIn s d.file_of d.holds same i.tree t a b → TreeKeeps s l d (Decimal i) (Decimal (record i { tree = t })) a b
  decimal_kept i t a b w = record { sound = w.sound; means = λ h st. record { pairs = st.pairs; held = w.means st.pairs st.held; exact = st.exact }; others = w.others }

  pub lexical_brings : (i : Index L) (a b : S) → BringsIn s l.file_of l.holds (l.stands (l.made i.tree)) i.tree a b → TrimsIn s l.file_of l.holds l.slack i.tree a b → TreeBrings s l d (Lexical i) a b
  lexical_brings i a b brings trims = record { file = λ h st. record { pairs = st.pairs; owed = st.exact; stands = brings st.pairs st.held }; trims = λ h st. trims st.pairs st.held }

  pub decimal_brings : (i : Index D) (a b : S) → BringsIn s d.file_of d.holds (d.stands (d.made i.tree)) i.tree a b → TrimsIn s d.file_of d.holds d.slack i.tree a b → TreeBrings s l d (Decimal i) a b
  decimal_brings i a b brings trims = record { file = λ h st. record { pairs = st.pairs; owed = st.exact; stands = brings st.pairs st.held }; trims = λ h st. trims st.pairs st.held }

  pub tree_tells : (x : Sorted L D) (a : S) (h : Firsts) → TreeStands s l d x a h → s.tells
  tree_tells (Lexical i) a h st = st.held.0
  tree_tells (Decimal i) a h st = st.held.0

  -- ---- all of them

  one_kept : (x y : Side L D) (a b : S) (rows : Rows) → StaysSide l d x y → TreeKeeps s l d x.tree y.tree a b → SideStands s l d x a rows → SideStands s l d y b rows
  one_kept x y a b rows stays kept st = record {
    fits = stays.tree.order ∙ st.fits ∙ ap asks_decimal (sym stays.kind);
    stands = subst (λ (k : IndexKind). TreeStands s l d y.tree b (parts_of k (name_of y.tree) rows)) (sym stays.kind)
        (subst (λ (n : List ℕ). TreeStands s l d y.tree b (parts_of x.kind n rows)) (sym stays.tree.name) (kept.means (parts_of x.kind (name_of x.tree) rows) st.stands));
  }

  pub none_keep : (ws : List (Side L D)) (a : S) → ws ≡ [] → s.sound a → AllKeep s l d ws ws a a
  none_keep ws a is sound = record { sound = sound; means = λ rows apart st. st; others = record { same = λ tells g away. refl } }

  pub none_bring : (ws : List (Side L D)) (a : S) → ws ≡ [] → AllBring s l d ws a a
  none_bring ws a is rows apart st = subst (λ (xs : List (Side L D)). AllOver s l d (IsIndexFile s l d rows) xs a) (sym is) tt

  pub all_keep : (ws : List (Side L D)) (x y : Side L D) (xs ys : List (Side L D)) (a b c : S) → ws ≡ x ∷ xs → StaysSide l d x y → TreeKeeps s l d x.tree y.tree a b → AllKeep s l d xs ys b c → AllKeep s l d ws (y ∷ ys) a c
  all_keep ws x y xs ys a b c is stays first rest = subst (λ (zs : List (Side L D)). AllKeep s l d zs (y ∷ ys) a c) (sym is) (record {
    sound = rest.sound;
    means = λ rows apart st. (
      side_still s l d y b c rows (λ tells. rest.others.same tells (tree_file l d y.tree) (subst (λ (f : ℕ). IsAway f (files l d xs)) (sym stays.tree.file) apart.0)) (one_kept x y a b rows stays first st.0),
      rest.means rows apart.1 (all_still s l d (tree_file l d x.tree) xs a b rows apart.0 first.others st.1),
    );
    others = record { same = λ tells g away. rest.others.same tells g away.1 ∙ first.others.same tells g (λ e. away.0 e) };
  })

  pub all_bring : (ws : List (Side L D)) (x : Side L D) (t : Sorted L D) (xs ys : List (Side L D)) (a b c : S) → ws ≡ x ∷ xs → TreeKeeps s l d x.tree t a b → TreeBrings s l d x.tree a b → AllKeep s l d xs ys b c → AllBring s l d xs b c → AllBring s l d ws a c
  all_bring ws x t xs ys a b c is kept first keep rest = subst (λ (zs : List (Side L D)). AllBring s l d zs a c) (sym is) (λ rows apart st.
      let h = parts_of x.kind (name_of x.tree) rows in
      let still : s.now c (tree_file l d x.tree) ≡ s.now b (tree_file l d x.tree) = keep.others.same (tree_tells x.tree a h st.0.stands) (tree_file l d x.tree) apart.0 in (
        record {
          file = subst (TreeFile s l d x.tree h) (sym still) (first.file h st.0.stands);
          trims = ap (tree_slack s l d x.tree) still ∙ first.trims h st.0.stands;
        },
        rest rows apart.1 (all_still s l d (tree_file l d x.tree) xs a b rows apart.0 kept.others st.1),
      ))

  -- ---- a table

  module _ {R : Type 0} (r : records.Ghosts R S) where
    pub settle_ready : (t : Table R L D) (v : R) (a b : S) → WritesIn s r.file_of r.holds same t.rows v a b → IsReady s (Holds s r l d) t a → AllReady s l d t.sides.items b
    settle_ready t v a b w ready = record {
      sound = w.sound;
      apart = λ tells. (ready.held tells).1.apart.1;
      held = λ tells. let h = ready.held tells in (h.0, all_still s l d (r.file_of t.rows) t.sides.items a b h.0 h.1.apart.0 w.others h.1.indexes);
    }

    pub settled : (t t' : Table R L D) (v : R) (a b c : S) → t'.rows ≡ v → WritesIn s r.file_of r.holds same t.rows v a b → r.file_of v ≡ r.file_of t.rows → AllStay l d t.sides.items t'.sides.items → AllKeep s l d t.sides.items t'.sides.items b c
        → (rows : Rows) → Holds s r l d t a rows → Holds s r l d t' c rows
    settled t t' v a b c is w file stay keep rows h =
        let held = w.means h.store h.held in
        record {
          store = h.store;
          held = subst (λ (x : R). In s r.file_of r.holds x c h.store) (sym is)
              (held.0, subst (λ (bytes : List ℕ). r.holds v bytes h.store) (sym (keep.others.same held.0 (r.file_of v) (subst (λ (n : ℕ). IsAway n (files l d t.sides.items)) (sym file) h.apart.0))) held.1);
          spelled = h.spelled;
          are = h.are;
          apart = subst (λ (fs : List ℕ). AreApart fs) (sym (ap (λ (n : ℕ). n ∷ files l d t'.sides.items) (ap r.file_of is ∙ file) ∙ ap (λ (fs : List ℕ). r.file_of t.rows ∷ fs) (files_stay s l d t.sides.items t'.sides.items stay))) h.apart;
          indexes = keep.means rows h.apart.1 (all_still s l d (r.file_of t.rows) t.sides.items a b rows h.apart.0 w.others h.indexes);
        }

    pub brought : (t t' : Table R L D) (v : R) (a b c : S) → WritesIn s r.file_of r.holds same t.rows v a b → BringsIn s r.file_of r.holds (λ bytes m. r.stands (r.sort t.rows) (r.numbers t.rows) bytes m (r.region t.rows)) t.rows a b → TrimsIn s r.file_of r.holds r.slack t.rows a b
        → AllKeep s l d t.sides.items t'.sides.items b c → AllBring s l d t.sides.items b c → (rows : Rows) → Holds s r l d t a rows → AreFilesOf s l d r t c rows
    brought t t' v a b c w brings trims keep bring rows h =
        let still : s.now c (r.file_of t.rows) ≡ s.now b (r.file_of t.rows) = keep.others.same h.held.0 (r.file_of t.rows) h.apart.0 in
        record {
          store = h.store;
          spelled = h.spelled;
          main = subst (λ (bytes : List ℕ). r.stands (r.sort t.rows) (r.numbers t.rows) bytes h.store (r.region t.rows)) (sym still) (brings h.store h.held);
          trims = ap r.slack still ∙ trims h.store h.held;
          indexes = bring rows h.apart.1 (all_still s l d (r.file_of t.rows) t.sides.items a b rows h.apart.0 w.others h.indexes);
        }

    pub settled_others : (t t' : Table R L D) (v : R) (a b c : S) → WritesIn s r.file_of r.holds same t.rows v a b → AllKeep s l d t.sides.items t'.sides.items b c → OthersAll s (files_of r l d t) a c
    settled_others t t' v a b c w keep = record { same = λ tells n away. keep.others.same tells n away.1 ∙ w.others.same tells n (λ e. away.0 e) }

-- two things that were so once it was done
pub both_done : {T E : Type 0} {P Q W : Type 0} (result : Result T E) → OnOk result P → OnOk result Q → (P → Q → W) → OnOk result W
both_done (Ok x) p q make = make p q
both_done (Err e) p q make = tt
