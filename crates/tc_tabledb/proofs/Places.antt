-- Files of indexes, and the names that they have.
use Rattle.std.proofs.Common.{◌≡◌, ◌≢◌, ◌∙◌, inl, inr, ℕ, ◌+◌, ◌≤◌, ◌<◌, Bool, true, false, cond, List, [], ◌∷◌, length, Option, Some, None, refl, sym, ap, subst, ⊎_elim, arith}
use Rattle.std.specs.Prelude.{◌||◌, MatchOption}
use Rattle.std.proofs.lemmas.Bool.{cases_eq}
use Rattle.tc_base.specs.Files.{Files}
use Rattle.tc_base.specs.Texts.{is_text}
use Rattle.tc_space.specs.declared.multi.Multi as multi
use Rattle.tc_model.specs.Texts.{is_among}
use Rattle.tc_model.specs.declared.query.IndexKind.{IndexKind}
use Rattle.td_index.proofs.Counting.{either, text_is, text_refl}
use Rattle.tc_table.specs.Sides.{name_of, tree_file}
use Rattle.tc_table.specs.declared.side.Side.{Side}
use Rattle.tc_tabledb.specs.Files.{AreEmpty, IsIndexPlace}
use Rattle.tc_tabledb.specs.Holding.{names}
use Rattle.tc_tabledb.specs.Indexing.{IsFreePlace, kind_at}
use Rattle.tc_tabledb.specs.Opened.{ArePlaces}
use Rattle.tc_tabledb.specs.Opening.{IsLowest}
use Rattle.tc_tabledb.proofs.Limits.{turned_text}

pub none_of : {A : Type 0} (xs : List A) → length xs ≡ 0 → xs ≡ []
none_of [] none = refl
none_of (x ∷ xs) none = absurd (omega (arith, none))

-- the same from either side
pub text_turns : (a b : List ℕ) → is_text a b ≡ is_text b a
text_turns a b = ⊎_elim
    (λ same. same ∙ sym (ap (λ (x : List ℕ). is_text b x) (text_is a b same) ∙ text_refl b))
    (λ other. other ∙ sym (turned_text a b other))
    (either (is_text a b))

-- ---- of indexes

module _ {S L OL D OD : Type 0} (l : multi.Ghosts L S OL) (d : multi.Ghosts D S OD) (file : ℕ) where
  pub none_taken : (xs : List (Side L D)) → length xs ≡ 0 → IsFreePlace l d xs file
  none_taken xs none = subst (λ (ys : List (Side L D)). IsFreePlace l d ys file) (sym (none_of xs none)) tt

  module _ (xs rest : List (Side L D)) (x : Side L D) (here : ℕ) (parted : xs ≡ x ∷ rest) (is : here ≡ tree_file l d x.tree) where
    pub first_taken : here ≡ file → IsFreePlace l d xs file → ⊥
    first_taken same free = let parts : IsFreePlace l d (x ∷ rest) file = subst (λ (ys : List (Side L D)). IsFreePlace l d ys file) parted free in parts.0 (sym same ∙ is)

    pub rest_free : (here ≡ file → ⊥) → IsFreePlace l d rest file → IsFreePlace l d xs file
    rest_free other free = subst (λ (ys : List (Side L D)). IsFreePlace l d ys file) (sym parted) ((λ (same : file ≡ tree_file l d x.tree). other (is ∙ sym same)), free)

    pub rest_taken : (IsFreePlace l d rest file → ⊥) → IsFreePlace l d xs file → ⊥
    rest_taken taken free = let parts : IsFreePlace l d (x ∷ rest) file = subst (λ (ys : List (Side L D)). IsFreePlace l d ys file) parted free in taken parts.1

-- so many places were looked at, and none is free
abbrev pub NoneFree : {S L OL D OD : Type 0} → multi.Ghosts L S OL → multi.Ghosts D S OD → List (Side L D) → ℕ → Type 0
NoneFree l d xs low = (n : ℕ) → IsIndexPlace n → n < low → IsFreePlace l d xs n → ⊥

module _ {S L OL D OD : Type 0} (l : multi.Ghosts L S OL) (d : multi.Ghosts D S OD) (xs : List (Side L D)) where
  pub none_looked : NoneFree l d xs 3
  none_looked n place less free = absurd (let low = place.0 in omega (arith, low, less))

  pub one_looked : (low : ℕ) → (IsFreePlace l d xs low → ⊥) → NoneFree l d xs low → NoneFree l d xs (low + 1)
  one_looked low taken none n place less free = ⊎_elim
      (λ (here : n ≡ low). taken (subst (λ (m : ℕ). IsFreePlace l d xs m) here free))
      (λ other. none n place (omega (arith, less, other)) free)
      (cases_eq n low)

module _ {L D : Type 0} (name : List ℕ) where
  pub none_kind : (xs : List (Side L D)) → length xs ≡ 0 → None ≡ kind_at name xs
  none_kind xs none = sym (ap (kind_at name) (none_of xs none))

  module _ (xs rest : List (Side L D)) (x : Side L D) (parted : xs ≡ x ∷ rest) where
    pub first_kind : is_text (name_of x.tree) name ≡ true → Some x.kind ≡ kind_at name xs
    first_kind same = sym (ap (kind_at name) parted ∙ ap (λ (b : Bool). cond b (Some x.kind) (kind_at name rest)) same)

    pub rest_kind : (o : Option IndexKind) → is_text (name_of x.tree) name ≡ false → o ≡ kind_at name rest → o ≡ kind_at name xs
    rest_kind o other is = is ∙ sym (ap (kind_at name) parted ∙ ap (λ (b : Bool). cond b (Some x.kind) (kind_at name rest)) other)

  pub none_seen : (xs : List (Side L D)) → length xs ≡ 0 → false ≡ is_among name (names xs)
  none_seen xs none = sym (ap (λ (ys : List (Side L D)). is_among name (names ys)) (none_of xs none))

  module _ (xs rest : List (Side L D)) (x : Side L D) (parted : xs ≡ x ∷ rest) where
    pub first_seen : is_text (name_of x.tree) name ≡ true → true ≡ is_among name (names xs)
    first_seen same = sym (ap (λ (ys : List (Side L D)). is_among name (names ys)) parted ∙ ap (λ (b : Bool). b || is_among name (names rest)) (text_turns name (name_of x.tree) ∙ same))

    pub rest_seen : (b : Bool) → is_text (name_of x.tree) name ≡ false → b ≡ is_among name (names rest) → b ≡ is_among name (names xs)
    rest_seen b other is = is ∙ sym (ap (λ (ys : List (Side L D)). is_among name (names ys)) parted ∙ ap (λ (t : Bool). t || is_among name (names rest)) (text_turns name (name_of x.tree) ∙ other))

-- ---- of files

pub first_place : (fs rest : List ℕ) (f : ℕ) → fs ≡ f ∷ rest → ArePlaces fs → IsIndexPlace f
first_place fs rest f parted places = let parts : ArePlaces (f ∷ rest) = subst ArePlaces parted places in parts.0

pub rest_places : (fs rest : List ℕ) (f : ℕ) → fs ≡ f ∷ rest → ArePlaces fs → ArePlaces rest
rest_places fs rest f parted places = let parts : ArePlaces (f ∷ rest) = subst ArePlaces parted places in parts.1

module _ (tells : Type 0) (files : Files) where
  abbrev pub FirstSome : List ℕ → Option ℕ → Type 0
  FirstSome fs o = MatchOption o (tells → AreEmpty files fs) (λ f. tells → IsLowest files fs f)

  pub none_some : (fs : List ℕ) → length fs ≡ 0 → tells → AreEmpty files fs
  none_some fs none t = subst (AreEmpty files) (sym (none_of fs none)) tt

  pub first_here : (fs rest : List ℕ) (f : ℕ) → fs ≡ f ∷ rest → (tells → files f ≢ []) → tells → IsLowest files fs f
  first_here fs rest f parted some t = subst (λ (gs : List ℕ). IsLowest files gs f) (sym parted) (inl (refl, some t))

  pub first_later : (fs rest : List ℕ) (f : ℕ) (o : Option ℕ) → fs ≡ f ∷ rest → (tells → files f ≡ []) → FirstSome rest o → FirstSome fs o
  first_later fs rest f None parted none found = λ t. subst (AreEmpty files) (sym parted) (none t, found t)
  first_later fs rest f (Some g) parted none found = λ t. subst (λ (gs : List ℕ). IsLowest files gs g) (sym parted) (inr (none t, found t))

pub some_bytes : (bytes : List ℕ) (n : ℕ) → n ≡ length bytes → 1 ≤ n → bytes ≢ []
some_bytes bytes n is some none = let short : length bytes ≡ 0 = ap length none in absurd (omega (arith, is, some, short))

pub no_length : (bytes : List ℕ) (n : ℕ) → n ≡ length bytes → n ≡ 0 → bytes ≡ []
no_length bytes n is none = none_of bytes (sym is ∙ none)
