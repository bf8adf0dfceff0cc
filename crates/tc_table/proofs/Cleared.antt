-- A table that was emptied.
use Rattle.std.proofs.Common.{◌≡◌, ◌∙◌, ℕ, Bool, List, [], ◌∷◌, Option, Some, None, refl, sym, ap, subst, inl, inr}
use Rattle.std.specs.Prelude.{option_map}
use Rattle.std.specs.Ordering.{nat_cmp}
use Rattle.std.specs.Cmp.Lexicographic.{slice_cmp}
use Rattle.std.specs.FinMap.{empty, get-empty}
use Rattle.tc_base.specs.Maps.{Map}
use Rattle.tc_space.specs.Frames.{GivenUp, In, Keeps, Others, keeps_refl, keeps_then}
use Rattle.tc_space.specs.Stores.{IsReady, Only, WritesIn}
use Rattle.tc_space.specs.declared.space.Space.{Ghosts}
use Rattle.tc_space.specs.declared.records.Records as records
use Rattle.tc_space.specs.declared.multi.Multi as multi
use Rattle.tc_model.specs.Contents.{Rows}
use Rattle.tc_model.specs.declared.query.IndexKind.{IndexKind}
use Rattle.tc_model.specs.Rows.{Row}
use Rattle.td_index.specs.Entries.{AreOwed, owed_parts, parted, times}
use Rattle.td_index.specs.declared.index.Index.{Index}
use Rattle.tc_table.specs.Clearing.{AllBare, AllClear, BareSince, Clears, FullBehindRows, FullEmptying, TreeBare, TreeClears}
use Rattle.td_row.specs.Spelling.{row_bytes}
use Rattle.tc_table.specs.Parts.{parts_of, parts_of_row}
use Rattle.tc_table.specs.Sides.{AllReady, AllStand, AllStay, AreApart, IsAway, SideStands, StaysSide, TreeStands, asks_decimal, files, name_of, tree_file}
use Rattle.tc_table.specs.Tables.{Holds}
use Rattle.tc_table.specs.declared.side.Side.{Side}
use Rattle.tc_table.specs.declared.side.Sorted.{Sorted}
use Rattle.tc_table.specs.declared.side.Sorted.TheVariants.{Lexical, Decimal}
use Rattle.tc_table.specs.declared.table.Table.{Table}
use Rattle.tc_table.proofs.Turning.{all_still, files_stay, side_still, tree_as}

nothing_owed : AreOwed (λ k. []) []
nothing_owed x = go (parted x)
  where
    go : (o : Option (List ℕ × List ℕ)) → 0 ≡ owed_parts (λ k. []) o
    go None = refl
    go (Some p) = refl

module _ {S L OL D OD : Type 0} (s : Ghosts S) (l : multi.Ghosts L S OL) (d : multi.Ghosts D S OD) where
  pub lexical_clears : (i : Index L) (t : L) (a b : S) → WritesIn s l.file_of l.holds (λ ps. []) i.tree t a b → TreeClears s l d (Lexical i) (Lexical (record i { tree = t })) a b
  lexical_clears i t a b w = record { sound = w.sound; means = λ h st. record { pairs = []; held = w.means st.pairs st.held; exact = nothing_owed }; others = w.others }

  pub decimal_clears : (i : Index D) (t : D) (a b : S) → WritesIn s d.file_of d.holds (λ ps. []) i.tree t a b → TreeClears s l d (Decimal i) (Decimal (record i { tree = t })) a b
  decimal_clears i t a b w = record { sound = w.sound; means = λ h st. record { pairs = []; held = w.means st.pairs st.held; exact = nothing_owed }; others = w.others }

  one_clear : (x y : Side L D) (a b : S) (rows : Rows) → StaysSide l d x y → TreeClears s l d x.tree y.tree a b → SideStands s l d x a rows → SideStands s l d y b empty
  one_clear x y a b rows stays clears st = record {
    fits = stays.tree.order ∙ (st.fits ∙ ap asks_decimal (sym stays.kind));
    stands = tree_as s l d y.tree b (λ k. []) (parts_of y.kind (name_of y.tree) empty) (λ k v. ap (λ (o : Option Row). times v (parts_of_row y.kind (name_of y.tree) o)) (get-empty (slice_cmp nat_cmp) k)) (clears.means (parts_of x.kind (name_of x.tree) rows) st.stands);
  }

  pub none_clear : (ws : List (Side L D)) (a : S) → ws ≡ [] → s.sound a → AllClear s l d ws ws a a
  none_clear ws a is sound = record { sound = sound; means = λ rows apart st. subst (λ (xs : List (Side L D)). AllStand s l d xs a empty) (sym is) tt; others = record { same = λ tells g away. refl } }

  pub all_clear : (ws : List (Side L D)) (x y : Side L D) (xs ys : List (Side L D)) (a b c : S) → ws ≡ x ∷ xs → StaysSide l d x y → TreeClears s l d x.tree y.tree a b → AllClear s l d xs ys b c → AllClear s l d ws (y ∷ ys) a c
  all_clear ws x y xs ys a b c is stays first rest = subst (λ (zs : List (Side L D)). AllClear s l d zs (y ∷ ys) a c) (sym is) (record {
    sound = rest.sound;
    means = λ rows apart st. (
      side_still s l d y b c empty (λ tells. rest.others.same tells (tree_file l d y.tree) (subst (λ (f : ℕ). IsAway f (files l d xs)) (sym stays.tree.file) apart.0)) (one_clear x y a b rows stays first st.0),
      rest.means rows apart.1 (all_still s l d (tree_file l d x.tree) xs a b rows apart.0 first.others st.1),
    );
    others = record { same = λ tells g away. rest.others.same tells g away.1 ∙ first.others.same tells g (λ e. away.0 e) };
  })

  pub first_bare : (ws : List (Side L D)) (x : Side L D) (xs : List (Side L D)) (a b : S) → ws ≡ x ∷ xs → TreeBare s l d x.tree a b → AllBare s l d ws a b
  first_bare ws x xs a b is full = record { front = []; side = x; back = xs; parted = is; moment = a; since = keeps_refl s a; others = record { same = λ tells g away. refl }; full = full }

  pub bare_as : (xs ws : List (Side L D)) (a b : S) → xs ≡ ws → AllBare s l d xs a b → AllBare s l d ws a b
  bare_as xs ws a b same full = subst (λ (ys : List (Side L D)). AllBare s l d ys a b) same full

  pub rest_bare : (ws : List (Side L D)) (x : Side L D) (xs : List (Side L D)) (a b c : S) → ws ≡ x ∷ xs → Keeps s a b → Others s (Only (tree_file l d x.tree)) a b → AllBare s l d xs b c → AllBare s l d ws a c
  rest_bare ws x xs a b c is keeps others full = record {
    front = x ∷ full.front;
    side = full.side;
    back = full.back;
    parted = is ∙ ap (λ (ys : List (Side L D)). x ∷ ys) full.parted;
    moment = full.moment;
    since = keeps_then s a b full.moment keeps full.since;
    others = record { same = λ tells g away. full.others.same tells g away.1 ∙ others.same tells g (λ e. away.0 e) };
    full = full.full;
  }

  module _ {R : Type 0} (r : records.Ghosts R S) where
    pub clear_ready : (t : Table R L D) (v : R) (a b : S) (f : Map → Map) → WritesIn s r.file_of r.holds f t.rows v a b → IsReady s (Holds s r l d) t a → AllReady s l d t.sides.items b
    clear_ready t v a b f w ready = record {
      sound = w.sound;
      apart = λ tells. (ready.held tells).1.apart.1;
      held = λ tells. let h = ready.held tells in (h.0, all_still s l d (r.file_of t.rows) t.sides.items a b h.0 h.1.apart.0 w.others h.1.indexes);
    }

    pub cleared : (t t' : Table R L D) (v : R) (a b c : S) → t'.rows ≡ v → WritesIn s r.file_of r.holds (λ m. empty) t.rows v a b → r.file_of v ≡ r.file_of t.rows → AllStay l d t.sides.items t'.sides.items → AllClear s l d t.sides.items t'.sides.items b c
        → Clears s r l d t t' a c
    cleared t t' v a b c is w file stay clears = record {
      sound = clears.sound;
      means = λ rows h.
          let held = w.means h.store h.held in
          record {
            store = empty;
            held = subst (λ (x : R). In s r.file_of r.holds x c empty) (sym is)
                (held.0, subst (λ (bytes : List ℕ). r.holds v bytes empty) (sym (clears.others.same held.0 (r.file_of v) (subst (λ (n : ℕ). IsAway n (files l d t.sides.items)) (sym file) h.apart.0))) held.1);
            spelled = λ key. get-empty (slice_cmp nat_cmp) key ∙ sym (ap (option_map row_bytes) (get-empty (slice_cmp nat_cmp) key));
            are = λ key row e. absurd (let f : None ≡ Some row = sym (get-empty (slice_cmp nat_cmp) key) ∙ e in cc);
            apart = subst (λ (fs : List ℕ). AreApart fs) (sym (ap (λ (n : ℕ). n ∷ files l d t'.sides.items) (ap r.file_of is ∙ file) ∙ ap (λ (fs : List ℕ). r.file_of t.rows ∷ fs) (files_stay s l d t.sides.items t'.sides.items stay))) h.apart;
            indexes = clears.means rows h.apart.1 (all_still s l d (r.file_of t.rows) t.sides.items a b rows h.apart.0 w.others h.indexes);
          };
      others = record { same = λ tells n away. clears.others.same tells n away.1 ∙ w.others.same tells n (λ e. away.0 e) };
    }

    pub sides_bare : (t : Table R L D) (v : R) (a b c : S) → WritesIn s r.file_of r.holds (λ m. empty) t.rows v a b → Keeps s a b → BareSince s l d t.sides.items b c → FullEmptying s r l d t a c
    sides_bare t v a b c w keeps full = inr (record { rows = v; moment = b; wrote = w; since = keeps; full = full })
