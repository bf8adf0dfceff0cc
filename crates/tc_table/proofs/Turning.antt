-- What indexes stand for once a row is another, and what stands in other files stays.
use Rattle.std.proofs.Common.{◌≡◌, ◌≢◌, ◌∙◌, ℕ, Bool, true, false, cond, List, [], ◌∷◌, length, Option, refl, sym, ap, subst, arith}
use Rattle.std.specs.FinMap.{get}
use Rattle.std.specs.declared.cmp.Ordering.{Ordering}
use Rattle.tc_base.specs.Texts.{is_text}
use Rattle.tc_space.specs.Frames.{GivenUp, Keeps, Others, keeps_refl, keeps_then, others_refl}
use Rattle.tc_space.specs.Effects.{Stays}
use Rattle.tc_space.specs.Lists.{StaysList}
use Rattle.tc_space.specs.Stores.{Only}
use Rattle.tc_space.specs.declared.space.Space.{Ghosts}
use Rattle.tc_space.specs.declared.multi.Multi as multi
use Rattle.tc_model.specs.Contents.{Rows}
use Rattle.tc_model.specs.Rows.{Row}
use Rattle.tc_model.specs.declared.query.IndexKind.{IndexKind}
use Rattle.td_index.specs.Entries.{Firsts, Stands, Turns, times, with_firsts}
use Rattle.td_index.specs.declared.index.Index.{Index}
use Rattle.td_index.proofs.Parting.{with_same}
use Rattle.td_index.proofs.Standing.{stands_as}
use Rattle.tc_table.specs.Full.{AllFull, SideFull, TreeFull}
use Rattle.tc_table.specs.Parts.{IsNext, column_in, parts_of, parts_of_row, parts_of_value}
use Rattle.tc_table.specs.Sides.{AllReady, AllStand, AllStay, AllTurn, AreApart, IsAway, OthersAll, SideStands, SideTurns, StaysSide, StaysTree, TreeReady, TreeStands, TreeTurns, files, name_of, tree_file}
use Rattle.tc_table.specs.declared.side.Side.{Side}
use Rattle.tc_table.specs.declared.side.Sorted.{Sorted}
use Rattle.tc_table.specs.declared.side.Sorted.TheVariants.{Lexical, Decimal}

-- a space that was given up
pub given_up : {S : Type 0} (s : Ghosts S) (a b : S) → s.flag b ≡ false → Stays s.tells s.moment s.files_at s.left s.kept s.faults s.limit s.names a b → (s.tells → (g : ℕ) → s.now b g ≡ s.now a g) → (s.log_full a → s.log_full b) → (s.brought a → s.brought b) → GivenUp s a b
given_up s a b flag stays files log brought = record {
  flag = flag;
  keeps = record { steady = stays.steady; same_limit = stays.follows.same_limit; same_names = stays.follows.same_names; later = stays.follows.later };
  files = files;
  log = log;
  brought = brought;
}

pub turned : (f g : ℕ) → f ≢ g → g ≢ f
turned f g apart e = apart (sym e)

-- ---- one tree

module _ {S M O : Type 0} (s : Ghosts S) (m : multi.Ghosts M S O) where
  stands_still : (tree : M) (a b : S) (h : Firsts) → (s.tells → s.now b (m.file_of tree) ≡ s.now a (m.file_of tree)) → Stands s m tree a h → Stands s m tree b h
  stands_still tree a b h same st = record {
    pairs = st.pairs;
    held = (st.held.0, subst (λ (bytes : List ℕ). m.holds tree bytes st.pairs) (sym (same st.held.0)) st.held.1);
    exact = st.exact;
  }

module _ {S L OL D OD : Type 0} (s : Ghosts S) (l : multi.Ghosts L S OL) (d : multi.Ghosts D S OD) where
  pub lexical_turns : (i j : Index L) (key : List ℕ) (old new : List (List ℕ)) (a b : S) → Turns s l key old new i.tree j.tree a b → TreeTurns s l d key old new (Lexical i) (Lexical j) a b
  lexical_turns i j key old new a b t = record { sound = t.sound; means = t.means; others = t.others }

  pub decimal_turns : (i j : Index D) (key : List ℕ) (old new : List (List ℕ)) (a b : S) → Turns s d key old new i.tree j.tree a b → TreeTurns s l d key old new (Decimal i) (Decimal j) a b
  decimal_turns i j key old new a b t = record { sound = t.sound; means = t.means; others = t.others }

  pub lexical_stays : (i j : Index L) → j.name ≡ i.name → StaysList l.file_of l.made l.lead i.tree j.tree → StaysTree l d (Lexical i) (Lexical j)
  lexical_stays i j name stays = record { order = refl; name = name; file = stays.file; made = stays.made_same; lead = stays.leads }

  pub decimal_stays : (i j : Index D) → j.name ≡ i.name → StaysList d.file_of d.made d.lead i.tree j.tree → StaysTree l d (Decimal i) (Decimal j)
  decimal_stays i j name stays = record { order = refl; name = name; file = stays.file; made = stays.made_same; lead = stays.leads }

  pub tree_same : (x : Sorted L D) → StaysTree l d x x
  tree_same x = record { order = refl; name = refl; file = refl; made = refl; lead = omega arith }

  pub tree_as : (x : Sorted L D) (a : S) (h g : Firsts) → ((k v : List ℕ) → times v (g k) ≡ times v (h k)) → TreeStands s l d x a h → TreeStands s l d x a g
  tree_as (Lexical i) a h g each st = stands_as s l i.tree a h g each st
  tree_as (Decimal i) a h g each st = stands_as s d i.tree a h g each st

  pub tree_still : (x : Sorted L D) (a b : S) (h : Firsts) → (s.tells → s.now b (tree_file l d x) ≡ s.now a (tree_file l d x)) → TreeStands s l d x a h → TreeStands s l d x b h
  tree_still (Lexical i) a b h same st = stands_still s l i.tree a b h same st
  tree_still (Decimal i) a b h same st = stands_still s d i.tree a b h same st

  pub told_ready : (x : Sorted L D) (a : S) → s.sound a → (s.tells → (h : Firsts) × TreeStands s l d x a h) → TreeReady s l d x a
  told_ready (Lexical i) a sound held = record { sound = sound; held = λ tells. let h = held tells in (h.1.pairs, h.1.held) }
  told_ready (Decimal i) a sound held = record { sound = sound; held = λ tells. let h = held tells in (h.1.pairs, h.1.held) }

  pub tree_ready_still : (x : Sorted L D) (a b : S) → s.sound b → (s.tells → s.now b (tree_file l d x) ≡ s.now a (tree_file l d x)) → TreeReady s l d x a → TreeReady s l d x b
  tree_ready_still (Lexical i) a b sound same ready = record { sound = sound; held = λ tells. let h = ready.held tells in (h.0, (h.1.0, subst (λ (bytes : List ℕ). l.holds i.tree bytes h.0) (sym (same tells)) h.1.1)) }
  tree_ready_still (Decimal i) a b sound same ready = record { sound = sound; held = λ tells. let h = ready.held tells in (h.0, (h.1.0, subst (λ (bytes : List ℕ). d.holds i.tree bytes h.0) (sym (same tells)) h.1.1)) }

  pub tree_sound : (x : Sorted L D) (a : S) → TreeReady s l d x a → s.sound a
  tree_sound (Lexical i) a ready = ready.sound
  tree_sound (Decimal i) a ready = ready.sound

-- ---- one index

-- the parts of a row, by the value of its column
pub parts_had : (kind : IndexKind) (name n : List ℕ) (row : Option Row) (value : Option (List ℕ)) (parts xs : List (List ℕ)) → n ≡ name → value ≡ column_in n row → parts ≡ parts_of_value kind value → xs ≡ parts → xs ≡ parts_of_row kind name row
parts_had kind name n row value parts xs named had are same = same ∙ (are ∙ (ap (parts_of_value kind) had ∙ ap (λ (l : List ℕ). parts_of_value kind (column_in l row)) named))

pub parts_kept : (kind : IndexKind) (name n : List ℕ) (old new : Option Row) (a b : Option (List ℕ)) → n ≡ name → a ≡ column_in n old → b ≡ column_in n new → a ≡ b → parts_of_row kind name old ≡ parts_of_row kind name new
parts_kept kind name n old new a b named had has same =
    ap (λ (l : List ℕ). parts_of_value kind (column_in l old)) (sym named) ∙ (ap (parts_of_value kind) (sym had ∙ (same ∙ has)) ∙ ap (λ (l : List ℕ). parts_of_value kind (column_in l new)) named)

chosen : (kind : IndexKind) (name : List ℕ) (t : Bool) (o p : Option Row) (v : List ℕ) → times v (parts_of_row kind name (cond t o p)) ≡ times v (cond t (parts_of_row kind name o) (parts_of_row kind name p))
chosen kind name true o p v = refl
chosen kind name false o p v = refl

-- the parts of rows, once one is another
parts_next : (kind : IndexKind) (name key : List ℕ) (new : Option Row) (m n : Rows) → IsNext key new m n → (k v : List ℕ) → times v (parts_of kind name n k) ≡ times v (with_firsts key (parts_of_row kind name new) (parts_of kind name m) k)
parts_next kind name key new m n next k v = ap (λ (o : Option Row). times v (parts_of_row kind name o)) (next k) ∙ chosen kind name (is_text k key) new (get m k) v

module _ {S L OL D OD : Type 0} (s : Ghosts S) (l : multi.Ghosts L S OL) (d : multi.Ghosts D S OD) where
  renamed : (x y : Sorted L D) (a : S) (h : List ℕ → Firsts) → name_of y ≡ name_of x → TreeStands s l d y a (h (name_of x)) → TreeStands s l d y a (h (name_of y))
  renamed x y a h name st = subst (λ (n : List ℕ). TreeStands s l d y a (h n)) (sym name) st

  pub side_turned : (x : Side L D) (t : Sorted L D) (key : List ℕ) (old new : Option Row) (a b : S) → StaysTree l d x.tree t → TreeTurns s l d key (parts_of_row x.kind (name_of x.tree) old) (parts_of_row x.kind (name_of x.tree) new) x.tree t a b
      → SideTurns s l d key old new x (record { kind = x.kind; tree = t }) a b
  side_turned x t key old new a b stays turns = record {
    sound = turns.sound;
    means = λ m n st had next. record {
      fits = stays.order ∙ st.fits;
      stands = renamed x.tree t b (λ name. parts_of x.kind name n) stays.name
          (tree_as s l d t b (with_firsts key (parts_of_row x.kind (name_of x.tree) new) (parts_of x.kind (name_of x.tree) m)) (parts_of x.kind (name_of x.tree) n) (parts_next x.kind (name_of x.tree) key new m n next)
          (turns.means (parts_of x.kind (name_of x.tree) m) st.stands (ap (parts_of_row x.kind (name_of x.tree)) had)));
    };
    others = turns.others;
  }

  -- by the parts that were worked out
  pub side_changed : (x : Side L D) (t : Sorted L D) (key : List ℕ) (old new : Option Row) (xs ys : List (List ℕ)) (a b : S) → xs ≡ parts_of_row x.kind (name_of x.tree) old → ys ≡ parts_of_row x.kind (name_of x.tree) new → StaysTree l d x.tree t → TreeTurns s l d key xs ys x.tree t a b
      → SideTurns s l d key old new x (record { kind = x.kind; tree = t }) a b
  side_changed x t key old new xs ys a b is are stays turns =
      side_turned x t key old new a b stays (subst (λ (fs : List (List ℕ)). TreeTurns s l d key fs (parts_of_row x.kind (name_of x.tree) new) x.tree t a b) is (subst (λ (fs : List (List ℕ)). TreeTurns s l d key xs fs x.tree t a b) are turns))

  -- nothing is asked of a tree where the parts are the same
  pub side_kept : (x : Side L D) (key : List ℕ) (old new : Option Row) (a : S) → s.sound a → parts_of_row x.kind (name_of x.tree) old ≡ parts_of_row x.kind (name_of x.tree) new → SideTurns s l d key old new x x a a
  side_kept x key old new a sound same = record {
    sound = sound;
    means = λ m n st had next. record {
      fits = st.fits;
      stands = tree_as s l d x.tree a (parts_of x.kind (name_of x.tree) m) (parts_of x.kind (name_of x.tree) n)
          (λ k v. parts_next x.kind (name_of x.tree) key new m n next k v ∙ with_same (parts_of x.kind (name_of x.tree) m) key (parts_of_row x.kind (name_of x.tree) new) (ap (parts_of_row x.kind (name_of x.tree)) had ∙ same) k v)
          st.stands;
    };
    others = others_refl s (Only (tree_file l d x.tree)) a;
  }

  pub side_same : (x : Side L D) (t : Sorted L D) → StaysTree l d x.tree t → StaysSide l d x (record { kind = x.kind; tree = t })
  side_same x t stays = record { kind = refl; tree = stays }

  pub side_stays : (x : Side L D) → StaysSide l d x x
  side_stays x = record { kind = refl; tree = tree_same s l d x.tree }

  pub side_still : (x : Side L D) (a b : S) (rows : Rows) → (s.tells → s.now b (tree_file l d x.tree) ≡ s.now a (tree_file l d x.tree)) → SideStands s l d x a rows → SideStands s l d x b rows
  side_still x a b rows same st = record { fits = st.fits; stands = tree_still s l d x.tree a b (parts_of x.kind (name_of x.tree) rows) same st.stands }

  -- ---- all of them

  pub all_still : (f : ℕ) (xs : List (Side L D)) (a b : S) (rows : Rows) → IsAway f (files l d xs) → Others s (Only f) a b → AllStand s l d xs a rows → AllStand s l d xs b rows
  all_still f [] a b rows away others st = tt
  all_still f (x ∷ xs) a b rows away others st =
      (side_still x a b rows (λ tells. others.same tells (tree_file l d x.tree) (λ e. turned f (tree_file l d x.tree) away.0 e)) st.0, all_still f xs a b rows away.1 others st.1)

  pub all_same : (xs : List (Side L D)) (a b : S) (rows : Rows) → (s.tells → (g : ℕ) → s.now b g ≡ s.now a g) → AllStand s l d xs a rows → AllStand s l d xs b rows
  all_same [] a b rows same st = tt
  all_same (x ∷ xs) a b rows same st = (side_still x a b rows (λ tells. same tells (tree_file l d x.tree)) st.0, all_same xs a b rows same st.1)

  pub all_stay : (xs : List (Side L D)) → AllStay l d xs xs
  all_stay [] = tt
  all_stay (x ∷ xs) = (side_stays x, all_stay xs)

  tree_then : (x y z : Sorted L D) → StaysTree l d x y → StaysTree l d y z → StaysTree l d x z
  tree_then x y z first second = record { order = second.order ∙ first.order; name = second.name ∙ first.name; file = second.file ∙ first.file; made = second.made ∙ first.made; lead = omega (arith, first.lead, second.lead) }

  pub side_then : (x y z : Side L D) → StaysSide l d x y → StaysSide l d y z → StaysSide l d x z
  side_then x y z first second = record { kind = second.kind ∙ first.kind; tree = tree_then x.tree y.tree z.tree first.tree second.tree }

  pub sides_then : (xs ys zs : List (Side L D)) → AllStay l d xs ys → AllStay l d ys zs → AllStay l d xs zs
  sides_then [] [] [] first second = tt
  sides_then (x ∷ xs) (y ∷ ys) (z ∷ zs) first second = (side_then x y z first.0 second.0, sides_then xs ys zs first.1 second.1)
  sides_then [] [] (z ∷ zs) first second = absurd second
  sides_then [] (y ∷ ys) zs first second = absurd first
  sides_then (x ∷ xs) [] zs first second = absurd first
  sides_then (x ∷ xs) (y ∷ ys) [] first second = absurd second

  pub files_stay : (xs ys : List (Side L D)) → AllStay l d xs ys → files l d ys ≡ files l d xs
  files_stay [] [] stay = refl
  files_stay (x ∷ xs) (y ∷ ys) stay = ap (λ (f : ℕ). f ∷ files l d ys) stay.0.tree.file ∙ ap (λ (fs : List ℕ). tree_file l d x.tree ∷ fs) (files_stay xs ys stay.1)
  files_stay [] (y ∷ ys) stay = absurd stay
  files_stay (x ∷ xs) [] stay = absurd stay

  -- the first may be called, and so may the others once it was
  pub first_ready : (ws : List (Side L D)) (x : Side L D) (xs : List (Side L D)) (a : S) → ws ≡ x ∷ xs → AllReady s l d ws a → TreeReady s l d x.tree a
  first_ready ws x xs a is ready =
      told_ready s l d x.tree a ready.sound (λ tells. let h = ready.held tells in let st = subst (λ (ys : List (Side L D)). AllStand s l d ys a h.0) is h.1 in (parts_of x.kind (name_of x.tree) h.0, st.0.stands))

  pub rest_ready : (ws : List (Side L D)) (x : Side L D) (xs : List (Side L D)) (a b : S) → ws ≡ x ∷ xs → AllReady s l d ws a → s.sound b → Others s (Only (tree_file l d x.tree)) a b → AllReady s l d xs b
  rest_ready ws x xs a b is ready sound others = record {
    sound = sound;
    apart = λ tells. (subst (λ (ys : List (Side L D)). AreApart (files l d ys)) is (ready.apart tells)).1;
    held = λ tells.
        let h = ready.held tells in
        let st = subst (λ (ys : List (Side L D)). AllStand s l d ys a h.0) is h.1 in
        let away = (subst (λ (ys : List (Side L D)). AreApart (files l d ys)) is (ready.apart tells)).0 in
        (h.0, all_still (tree_file l d x.tree) xs a b h.0 away others st.1);
  }

  pub rest_same : (ws : List (Side L D)) (x : Side L D) (xs : List (Side L D)) (a : S) → ws ≡ x ∷ xs → AllReady s l d ws a → AllReady s l d xs a
  rest_same ws x xs a is ready = rest_ready ws x xs a a is ready ready.sound (others_refl s (Only (tree_file l d x.tree)) a)

  pub none_of : (ws : List (Side L D)) → length ws ≡ 0 → ws ≡ []
  none_of [] none = refl
  none_of (x ∷ xs) none = absurd (omega (arith, none))

  pub none_turn : (ws : List (Side L D)) (key : List ℕ) (old new : Option Row) (a : S) → ws ≡ [] → s.sound a → AllTurn s l d key old new ws ws a a
  none_turn ws key old new a is sound = record {
    sound = sound;
    means = λ m n apart st had next. subst (λ (ys : List (Side L D)). AllStand s l d ys a n) (sym is) tt;
    others = record { same = λ tells g away. refl };
  }

  away_all : (f : ℕ) (xs : List (Side L D)) (b c : S) → OthersAll s (files l d xs) b c → IsAway f (files l d xs) → s.tells → s.now c f ≡ s.now b f
  away_all f xs b c others away tells = others.same tells f away

  pub one_more_turn : (x y : Side L D) (xs ys : List (Side L D)) (key : List ℕ) (old new : Option Row) (a b c : S) → StaysSide l d x y → SideTurns s l d key old new x y a b → AllTurn s l d key old new xs ys b c → AllTurn s l d key old new (x ∷ xs) (y ∷ ys) a c
  one_more_turn x y xs ys key old new a b c stays first rest = record {
    sound = rest.sound;
    means = λ m n apart st had next. (
      side_still y b c n (λ tells. rest.others.same tells (tree_file l d y.tree) (subst (λ (f : ℕ). IsAway f (files l d xs)) (sym stays.tree.file) apart.0)) (first.means m n st.0 had next),
      rest.means m n apart.1 (all_still (tree_file l d x.tree) xs a b m apart.0 first.others st.1) had next,
    );
    others = record { same = λ tells g away. rest.others.same tells g away.1 ∙ first.others.same tells g (λ e. away.0 e) };
  }

  pub all_turn : (ws : List (Side L D)) (x y : Side L D) (xs ys : List (Side L D)) (key : List ℕ) (old new : Option Row) (a b c : S) → ws ≡ x ∷ xs → StaysSide l d x y → SideTurns s l d key old new x y a b → AllTurn s l d key old new xs ys b c → AllTurn s l d key old new ws (y ∷ ys) a c
  all_turn ws x y xs ys key old new a b c is stays first rest = subst (λ (zs : List (Side L D)). AllTurn s l d key old new zs (y ∷ ys) a c) (sym is) (one_more_turn x y xs ys key old new a b c stays first rest)

  pub all_stay_on : (ws : List (Side L D)) (x y : Side L D) (xs ys : List (Side L D)) → ws ≡ x ∷ xs → StaysSide l d x y → AllStay l d xs ys → AllStay l d ws (y ∷ ys)
  all_stay_on ws x y xs ys is first rest = subst (λ (zs : List (Side L D)). AllStay l d zs (y ∷ ys)) (sym is) (first, rest)

  -- ---- where a limit was reached

  module _ (lc dc : List ℕ → List ℕ → Ordering) where
    pub side_full : (x : Side L D) (key : List ℕ) (old new : Option Row) (xs ys : List (List ℕ)) (a b : S) → xs ≡ parts_of_row x.kind (name_of x.tree) old → ys ≡ parts_of_row x.kind (name_of x.tree) new → TreeFull s l d lc dc key xs ys x.tree a b → SideFull s l d lc dc key old new x a b
    side_full x key old new xs ys a b is are full =
        subst (λ (fs : List (List ℕ)). TreeFull s l d lc dc key fs (parts_of_row x.kind (name_of x.tree) new) x.tree a b) is (subst (λ (fs : List (List ℕ)). TreeFull s l d lc dc key xs fs x.tree a b) are full)

    pub first_full : (ws : List (Side L D)) (x : Side L D) (xs : List (Side L D)) (key : List ℕ) (old new : Option Row) (a b : S) → ws ≡ x ∷ xs → SideFull s l d lc dc key old new x a b → AllFull s l d lc dc key old new ws a b
    first_full ws x xs key old new a b is full = record { front = []; side = x; back = xs; parted = is; moment = a; since = keeps_refl s a; others = record { same = λ tells g away. refl }; full = full }

    pub full_as : (xs ws : List (Side L D)) (key : List ℕ) (old new : Option Row) (a b : S) → xs ≡ ws → AllFull s l d lc dc key old new xs a b → AllFull s l d lc dc key old new ws a b
    full_as xs ws key old new a b same full = subst (λ (ys : List (Side L D)). AllFull s l d lc dc key old new ys a b) same full

    pub rest_full : (ws : List (Side L D)) (x : Side L D) (xs : List (Side L D)) (key : List ℕ) (old new : Option Row) (a b c : S) → ws ≡ x ∷ xs → Keeps s a b → Others s (Only (tree_file l d x.tree)) a b → AllFull s l d lc dc key old new xs b c → AllFull s l d lc dc key old new ws a c
    rest_full ws x xs key old new a b c is keeps others full = record {
      front = x ∷ full.front;
      side = full.side;
      back = full.back;
      parted = is ∙ ap (λ (ys : List (Side L D)). x ∷ ys) full.parted;
      moment = full.moment;
      since = keeps_then s a b full.moment keeps full.since;
      others = record { same = λ tells g away. full.others.same tells g away.1 ∙ others.same tells g (λ e. away.0 e) };
      full = full.full;
    }
