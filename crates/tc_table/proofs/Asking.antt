-- What reading indexes leaves, and the keys that they name by their stretches.
use Rattle.std.proofs.Common.{◌≡◌, ◌∙◌, ℕ, ◌≤◌, ◌-◌, zero, suc, true, false, List, [], ◌∷◌, Some, sym, ap, subst, arith}
use Rattle.std.specs.Prelude.{slice_get, IfOk, Ok, Err, Result}
use Rattle.bt_order.specs.Numbers.{side_numbered}
use Rattle.bt_order.specs.Values.{side_beginning, side_valued}
use Rattle.bt_order.specs.declared.numbers.NumberCut.{NumberCut}
use Rattle.bt_order.specs.declared.values.BeginCut.{BeginCut}
use Rattle.bt_order.specs.declared.values.ValueCut.{ValueCut}
use Rattle.tc_base.specs.declared.seq.Pair.{Pair}
use Rattle.tc_space.specs.Frames.{In, Reads}
use Rattle.tc_space.specs.declared.space.Space.{Ghosts}
use Rattle.tc_space.specs.declared.multi.Multi as multi
use Rattle.tc_model.specs.declared.query.Cond.{Cond}
use Rattle.tc_model.specs.declared.query.IndexKind.{IndexKind}
use Rattle.tc_model.specs.declared.query.IndexKind.TheVariants as kinds
use Rattle.td_index.specs.Entries.{Firsts, Stands}
use Rattle.td_index.specs.Ranges.{candidates}
use Rattle.td_index.specs.declared.index.Index.{Index}
use Rattle.td_plan.specs.Spans.{Covers}
use Rattle.td_plan.specs.declared.span.Span.{Span}
use Rattle.td_plan.specs.declared.span.Span.TheVariants.{Value, Begin, Number, AllTokens, SomeToken}
use Rattle.tc_table.specs.Parts.{parts_of}
use Rattle.tc_table.specs.Searching.{AreNamed, AsksTokens, NamesAt, NamesKeys, NamesSide, NamesTree}
use Rattle.tc_table.specs.Sides.{AllReady, AllStand, SideStands, StaysTree, TreeStands, asks_decimal, name_of}
use Rattle.tc_table.specs.declared.side.Side.{Side}
use Rattle.tc_table.specs.declared.side.Sorted.{Sorted}
use Rattle.tc_table.specs.declared.side.Sorted.TheVariants.{Lexical, Decimal}
use Rattle.tc_table.proofs.Naming.{decimal_named, lexical_named}
use Rattle.tc_table.proofs.Turning.{all_same}

-- what two facts say of an answer
pub both_weaker : {T E : Type 0} {P Q : T → Type 0} (r : Result T E) (W : T → Type 0) → ((x : T) → P x → Q x → W x) → IfOk r P → IfOk r Q → IfOk r W
both_weaker (Ok x) W make p q = make x p q
both_weaker (Err e) W make p q = tt

module _ {S M O : Type 0} (s : Ghosts S) (m : multi.Ghosts M S O) where
  pub stands_reads : (t u : M) (a b : S) (h : Firsts) → Reads s (In s m.file_of m.holds) t u a b → Stands s m t a h → Stands s m u b h
  stands_reads t u a b h reads st = record { pairs = st.pairs; held = reads.means st.pairs st.held; exact = st.exact }

  -- the keys of all tokens of a condition
  pub all_tokens_keys : (c : Cond) (t : M) (a : S) (ks : List (List ℕ)) → AsksTokens s m c true t a ks → NamesKeys s m c AllTokens t a ks
  all_tokens_keys c t a ks asks kinds.Lexical rows are covers st = absurd covers
  all_tokens_keys c t a ks asks kinds.Decimal rows are covers st = absurd covers
  all_tokens_keys c t a ks asks kinds.Token rows are covers st = asks rows are covers.0 st

  pub some_token_keys : (c : Cond) (t : M) (a : S) (ks : List (List ℕ)) → AsksTokens s m c false t a ks → NamesKeys s m c SomeToken t a ks
  some_token_keys c t a ks asks kinds.Lexical rows are covers st = absurd covers
  some_token_keys c t a ks asks kinds.Decimal rows are covers st = absurd covers
  some_token_keys c t a ks asks kinds.Token rows are covers st = asks rows are covers.0 st

  -- those of a stretch of values, of beginnings, or of numbers
  pub value_keys : (c : Cond) (span : Span) (cut : ValueCut) (t : M) (a : S) (ks : List (List ℕ)) → span ≡ Value cut → ((ps : List Pair) → In s m.file_of m.holds t a ps → ks ≡ candidates (side_valued cut.value) ps) → NamesKeys s m c span t a ks
  value_keys c span cut t a ks is value = subst (λ (x : Span). NamesKeys s m c x t a ks) (sym is) go
    where
      go : NamesKeys s m c (Value cut) t a ks
      go kinds.Lexical rows are covers st = lexical_named c (side_valued cut.value) rows st.pairs ks (value st.pairs st.held) are covers st.exact
      go kinds.Decimal rows are covers st = absurd covers
      go kinds.Token rows are covers st = absurd covers

  pub begin_keys : (c : Cond) (span : Span) (cut : BeginCut) (t : M) (a : S) (ks : List (List ℕ)) → span ≡ Begin cut → ((ps : List Pair) → In s m.file_of m.holds t a ps → ks ≡ candidates (side_beginning cut.prefix) ps) → NamesKeys s m c span t a ks
  begin_keys c span cut t a ks is value = subst (λ (x : Span). NamesKeys s m c x t a ks) (sym is) go
    where
      go : NamesKeys s m c (Begin cut) t a ks
      go kinds.Lexical rows are covers st = lexical_named c (side_beginning cut.prefix) rows st.pairs ks (value st.pairs st.held) are covers st.exact
      go kinds.Decimal rows are covers st = absurd covers
      go kinds.Token rows are covers st = absurd covers

  pub number_keys : (c : Cond) (span : Span) (cut : NumberCut) (t : M) (a : S) (ks : List (List ℕ)) → span ≡ Number cut → ((ps : List Pair) → In s m.file_of m.holds t a ps → ks ≡ candidates (side_numbered cut.low cut.high) ps) → NamesKeys s m c span t a ks
  number_keys c span cut t a ks is value = subst (λ (x : Span). NamesKeys s m c x t a ks) (sym is) go
    where
      go : NamesKeys s m c (Number cut) t a ks
      go kinds.Decimal rows are covers st = decimal_named c (side_numbered cut.low cut.high) rows st.pairs ks (value st.pairs st.held) are covers st.exact
      go kinds.Lexical rows are covers st = absurd covers
      go kinds.Token rows are covers st = absurd covers

module _ {S L OL D OD : Type 0} (s : Ghosts S) (l : multi.Ghosts L S OL) (d : multi.Ghosts D S OD) where
  pub lexical_reads : (i j : Index L) (a b : S) → Reads s (In s l.file_of l.holds) i.tree j.tree a b → Reads s (TreeStands s l d) (Lexical i) (Lexical j) a b
  lexical_reads i j a b reads = record { now = reads.now; touched = reads.touched; sound = reads.sound; means = λ h st. stands_reads s l i.tree j.tree a b h reads st }

  pub decimal_reads : (i j : Index D) (a b : S) → Reads s (In s d.file_of d.holds) i.tree j.tree a b → Reads s (TreeStands s l d) (Decimal i) (Decimal j) a b
  decimal_reads i j a b reads = record { now = reads.now; touched = reads.touched; sound = reads.sound; means = λ h st. stands_reads s d i.tree j.tree a b h reads st }

  pub side_reads : (x y : Side L D) (a b : S) → y.kind ≡ x.kind → StaysTree l d x.tree y.tree → Reads s (TreeStands s l d) x.tree y.tree a b → Reads s (SideStands s l d) x y a b
  side_reads x y a b kind stays reads = record {
    now = reads.now;
    touched = reads.touched;
    sound = reads.sound;
    means = λ rows st. record {
      fits = stays.order ∙ (st.fits ∙ ap asks_decimal (sym kind));
      stands = subst (λ (k : IndexKind). TreeStands s l d y.tree b (parts_of k (name_of y.tree) rows)) (sym kind)
          (subst (λ (n : List ℕ). TreeStands s l d y.tree b (parts_of x.kind n rows)) (sym stays.name) (reads.means (parts_of x.kind (name_of x.tree) rows) st.stands));
    };
  }

  pub side_names : (c : Cond) (span : Span) (x : Side L D) (a : S) (ks : List (List ℕ)) → NamesTree s l d c span x.tree a ks → NamesSide s l d c span x a ks
  side_names c span x a ks names rows are st named covers = go x.tree names (subst (λ (n : List ℕ). TreeStands s l d x.tree a (parts_of x.kind n rows)) named st.stands)
    where
      go : (t : Sorted L D) → NamesTree s l d c span t a ks → TreeStands s l d t a (parts_of x.kind c.column rows) → AreNamed x.kind c rows ks
      go (Lexical i) names st = names x.kind rows are covers st
      go (Decimal i) names st = names x.kind rows are covers st

  pub first_reads : (xs ys : List (Side L D)) (x y : Side L D) (rest : List (Side L D)) (a b : S) → xs ≡ x ∷ rest → ys ≡ y ∷ rest → Reads s (SideStands s l d) x y a b → Reads s (AllStand s l d) xs ys a b
  first_reads xs ys x y rest a b is are reads = record {
    now = reads.now;
    touched = reads.touched;
    sound = reads.sound;
    means = λ rows all.
        let old : AllStand s l d (x ∷ rest) a rows = subst (λ (zs : List (Side L D)). AllStand s l d zs a rows) is all in
        subst (λ (zs : List (Side L D)). AllStand s l d zs b rows) (sym are) (reads.means rows old.0, all_same s l d rest a b rows reads.now old.1);
  }

  pub rest_reads : (xs ys : List (Side L D)) (x : Side L D) (rest more : List (Side L D)) (a b : S) → xs ≡ x ∷ rest → ys ≡ x ∷ more → Reads s (AllStand s l d) rest more a b → Reads s (AllStand s l d) xs ys a b
  rest_reads xs ys x rest more a b is are reads = record {
    now = reads.now;
    touched = reads.touched;
    sound = reads.sound;
    means = λ rows all.
        let old : AllStand s l d (x ∷ rest) a rows = subst (λ (zs : List (Side L D)). AllStand s l d zs a rows) is all in
        let same : AllStand s l d (x ∷ []) b rows = all_same s l d (x ∷ []) a b rows reads.now (old.0, tt) in
        subst (λ (zs : List (Side L D)). AllStand s l d zs b rows) (sym are) (same.0, reads.means rows old.1);
  }

  -- of the slice of a list
  pub ready_as : (xs ws : List (Side L D)) (a : S) → xs ≡ ws → AllReady s l d ws a → AllReady s l d xs a
  ready_as xs ws a same ready = subst (λ (ys : List (Side L D)). AllReady s l d ys a) (sym same) ready

  pub names_as : (c : Cond) (span : Span) (place : ℕ) (xs ws : List (Side L D)) (a : S) (ks : List (List ℕ)) → xs ≡ ws → NamesAt s l d c span place xs a ks → NamesAt s l d c span place ws a ks
  names_as c span place xs ws a ks same names = subst (λ (zs : List (Side L D)). NamesAt s l d c span place zs a ks) same names

  pub first_at : (c : Cond) (span : Span) (xs : List (Side L D)) (x : Side L D) (rest : List (Side L D)) (place : ℕ) (a : S) (ks : List (List ℕ)) → xs ≡ x ∷ rest → place ≡ 0 → NamesSide s l d c span x a ks → NamesAt s l d c span place xs a ks
  first_at c span xs x rest place a ks is here names rows y are all at =
      let old : AllStand s l d (x ∷ rest) a rows = subst (λ (zs : List (Side L D)). AllStand s l d zs a rows) is all in
      let same : x ≡ y = some_is (sym (ap (λ (zs : List (Side L D)). slice_get zs place) is ∙ ap (λ (n : ℕ). slice_get (x ∷ rest) n) here) ∙ at) in
      subst (λ (z : Side L D). name_of z.tree ≡ c.column → Covers z.kind span c.operator c.expression → AreNamed z.kind c rows ks) same (names rows are old.0)
    where
      some_is : {A : Type 0} {p q : A} → Some p ≡ Some q → p ≡ q
      some_is e = let f = e in cc

  pub rest_at : (c : Cond) (span : Span) (xs : List (Side L D)) (x : Side L D) (rest : List (Side L D)) (place : ℕ) (a : S) (ks : List (List ℕ)) → xs ≡ x ∷ rest → 1 ≤ place → NamesAt s l d c span (place - 1) rest a ks → NamesAt s l d c span place xs a ks
  rest_at c span xs x rest zero a ks is there names rows y are all at = absurd (omega (arith, there))
  rest_at c span xs x rest (suc n) a ks is there names rows y are all at =
      let old : AllStand s l d (x ∷ rest) a rows = subst (λ (zs : List (Side L D)). AllStand s l d zs a rows) is all in
      let next : suc n - 1 ≡ n = omega arith in
      let behind : NamesAt s l d c span n rest a ks = subst (λ (m : ℕ). NamesAt s l d c span m rest a ks) next names in
      behind rows y are old.1 (sym (ap (λ (zs : List (Side L D)). slice_get zs (suc n)) is) ∙ at)
