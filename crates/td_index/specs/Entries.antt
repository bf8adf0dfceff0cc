-- What the tree of an index has of rows: for each first part that a row gives it, the part, a zero byte and the primary key.
use Rattle.std.specs.Prelude.{◌≡◌, ℕ, ◌+◌, ◌≤◌, List, [], ◌∷◌, ◌++◌, Bool, false, ◌==◌, if◌then◌else◌, Option, Some, None, map, length, take, ◌⊎◌}
use Rattle.std.specs.List.{All, list_any}
use Rattle.tc_base.specs.declared.seq.Pair.{Pair}
use Rattle.tc_base.specs.Texts.{is_text}
use Rattle.std.specs.declared.cmp.Ordering.{Ordering}
use Rattle.tc_space.specs.Changes.{first_out, put_last}
use Rattle.tc_space.specs.Frames.{In, Keeps, Others}
use Rattle.tc_space.specs.Lists.{FullFrom, StaysList}
use Rattle.tc_space.specs.Stores.{Only}
use Rattle.tc_space.specs.declared.space.Space.{Ghosts}
use Rattle.tc_space.specs.declared.multi.Multi as multi

-- the first parts of the row of each primary key
abbrev pub Firsts : Type 0
Firsts = List ℕ → List (List ℕ)

abbrev pub with_firsts : List ℕ → List (List ℕ) → Firsts → Firsts
with_firsts key fs h = λ k. if is_text k key then fs else h k

-- a zero byte is among them
abbrev pub has_zero : List ℕ → Bool
has_zero v = list_any (λ b. b == 0) v

-- no part has one
abbrev pub AreWhole : List (List ℕ) → Type 0
AreWhole fs = All (λ f. has_zero f ≡ false) fs

-- the tree's key
abbrev pub entry : List ℕ → List ℕ → List ℕ
entry first key = first ++ 0 ∷ key

-- a byte in front of the first part
abbrev pub behind : ℕ → Option (List ℕ × List ℕ) → Option (List ℕ × List ℕ)
behind b None = None
behind b (Some p) = Some (b ∷ p.0, p.1)

-- parted at its first zero byte
abbrev pub parted : List ℕ → Option (List ℕ × List ℕ)
parted [] = None
parted (b ∷ bs) = if b == 0 then Some ([], bs) else behind b (parted bs)

abbrev pub one : Bool → ℕ
one b = if b then 1 else 0

-- how often a text stands among others
abbrev pub times : List ℕ → List (List ℕ) → ℕ
times x [] = 0
times x (y ∷ ys) = one (is_text x y) + times x ys

-- without the first of them that is this one
abbrev pub less_one : List ℕ → List (List ℕ) → List (List ℕ)
less_one x [] = []
less_one x (y ∷ ys) = if is_text x y then ys else y ∷ less_one x ys

-- without the first of each of some
abbrev pub less_all : List (List ℕ) → List (List ℕ) → List (List ℕ)
less_all [] fs = fs
less_all (p ∷ ps) fs = less_all ps (less_one p fs)

-- how often a tree key is owed: as often as its first part is one of the row of its primary key
abbrev pub owed_parts : Firsts → Option (List ℕ × List ℕ) → ℕ
owed_parts h None = 0
owed_parts h (Some p) = times p.0 (h p.1)

abbrev pub owed : Firsts → List ℕ → ℕ
owed h x = owed_parts h (parted x)

abbrev pub keys_of : List Pair → List (List ℕ)
keys_of ps = map (λ p. p.key) ps

-- each tree key is held as often as it is owed
abbrev pub AreOwed : Firsts → List Pair → Type 0
AreOwed h ps = (x : List ℕ) → times x (keys_of ps) ≡ owed h x

-- a tree stands for these rows
pub record Stands {S M O : Type 0} (s : Ghosts S) (m : multi.Ghosts M S O) (tree : M) (space : S) (h : Firsts) : Type 0 where
  pub pairs : List Pair
  pub held : In s m.file_of m.holds tree space pairs
  pub exact : AreOwed h pairs

-- ---- calls

-- a part of the row of a key came in
pub record Gains {S M O : Type 0} (s : Ghosts S) (m : multi.Ghosts M S O) (part key : List ℕ) (t t' : M) (a b : S) : Type 0 where
  pub sound : s.sound b
  pub means : (h : Firsts) → Stands s m t a h → Stands s m t' b (with_firsts key (part ∷ h key) h)
  pub others : Others s (Only (m.file_of t)) a b

-- it went, if it was there
pub record Loses {S M O : Type 0} (s : Ghosts S) (m : multi.Ghosts M S O) (part key : List ℕ) (t t' : M) (a b : S) : Type 0 where
  pub sound : s.sound b
  pub means : (h : Firsts) → Stands s m t a h → Stands s m t' b (with_firsts key (less_one part (h key)) h)
  pub others : Others s (Only (m.file_of t)) a b

-- parts came in, and parts went that were there
pub record GainsAll {S M O : Type 0} (s : Ghosts S) (m : multi.Ghosts M S O) (parts : List (List ℕ)) (key : List ℕ) (t t' : M) (a b : S) : Type 0 where
  pub sound : s.sound b
  pub means : (h : Firsts) → Stands s m t a h → Stands s m t' b (with_firsts key (parts ++ h key) h)
  pub others : Others s (Only (m.file_of t)) a b

pub record LosesAll {S M O : Type 0} (s : Ghosts S) (m : multi.Ghosts M S O) (parts : List (List ℕ)) (key : List ℕ) (t t' : M) (a b : S) : Type 0 where
  pub sound : s.sound b
  pub means : (h : Firsts) → Stands s m t a h → Stands s m t' b (with_firsts key (less_all parts (h key)) h)
  pub others : Others s (Only (m.file_of t)) a b

-- the row of a key gives these parts in place of those
pub record Turns {S M O : Type 0} (s : Ghosts S) (m : multi.Ghosts M S O) (key : List ℕ) (old new : List (List ℕ)) (t t' : M) (a b : S) : Type 0 where
  pub sound : s.sound b
  pub means : (h : Firsts) → Stands s m t a h → h key ≡ old → Stands s m t' b (with_firsts key new h)
  pub others : Others s (Only (m.file_of t)) a b

-- ---- refusals

-- so far it came: this many of the parts came in, or went
pub record GainsSome {S M O : Type 0} (s : Ghosts S) (m : multi.Ghosts M S O) (parts : List (List ℕ)) (key : List ℕ) (t t' : M) (a b : S) : Type 0 where
  pub done : ℕ
  pub within : done ≤ length parts
  pub so_far : GainsAll s m (take done parts) key t t' a b

pub record LosesSome {S M O : Type 0} (s : Ghosts S) (m : multi.Ghosts M S O) (parts : List (List ℕ)) (key : List ℕ) (t t' : M) (a b : S) : Type 0 where
  pub done : ℕ
  pub within : done ≤ length parts
  pub so_far : LosesAll s m (take done parts) key t t' a b

-- some of the old parts went; or all of them, and some of the new ones came in
pub record TurnsSome {S M O : Type 0} (s : Ghosts S) (m : multi.Ghosts M S O) (key : List ℕ) (old new : List (List ℕ)) (t t' : M) (a b : S) : Type 0 where
  pub tree : M
  pub moment : S
  pub lost : LosesAll s m old key t tree a moment
  pub gained : GainsSome s m new key tree t' moment b

abbrev pub TurnsPartly : {S M O : Type 0} → Ghosts S → multi.Ghosts M S O → List ℕ → List (List ℕ) → List (List ℕ) → M → M → S → S → Type 0
TurnsPartly s m key old new t t' a b = LosesSome s m old key t t' a b ⊎ TurnsSome s m key old new t t' a b

abbrev pub StopsIn : {S : Type 0} → Ghosts S → S → Type 0 → Type 0
StopsIn s b SoFar = (s.flag b ≡ false) ⊎ SoFar

-- a limit was reached at the part that came next, by the tree and the space as they were behind those in front of it
pub record FullAt {S M O : Type 0} (s : Ghosts S) (m : multi.Ghosts M S O) (Far : ℕ → M → S → Type 0) (f : List ℕ → List Pair → List Pair) (parts : List (List ℕ)) (t : M) (a b : S) : Type 0 where
  pub done : ℕ
  pub part : List ℕ
  pub next : take (done + 1) parts ≡ take done parts ++ part ∷ []
  pub tree : M
  pub moment : S
  pub so_far : Far done tree moment
  pub since : Keeps s a moment
  pub stays : StaysList m.file_of m.made m.lead t tree
  pub full : FullFrom (In s m.file_of m.holds) m.fills (f part) tree moment b

abbrev pub FullPuts : {S M O : Type 0} → Ghosts S → multi.Ghosts M S O → (List ℕ → List ℕ → Ordering) → List (List ℕ) → List ℕ → M → S → S → Type 0
FullPuts s m cmp parts key t a b = FullAt s m (λ done u c. GainsAll s m (take done parts) key t u a c) (λ part. put_last cmp (entry part key) []) parts t a b

abbrev pub FullOuts : {S M O : Type 0} → Ghosts S → multi.Ghosts M S O → (List ℕ → List ℕ → Ordering) → List (List ℕ) → List ℕ → M → S → S → Type 0
FullOuts s m cmp parts key t a b = FullAt s m (λ done u c. LosesAll s m (take done parts) key t u a c) (λ part. first_out cmp (entry part key)) parts t a b

-- so it was at a new part, behind all old ones
pub record FullBehind {S M O : Type 0} (s : Ghosts S) (m : multi.Ghosts M S O) (cmp : List ℕ → List ℕ → Ordering) (old new : List (List ℕ)) (key : List ℕ) (t : M) (a b : S) : Type 0 where
  pub tree : M
  pub moment : S
  pub lost : LosesAll s m old key t tree a moment
  pub since : Keeps s a moment
  pub stays : StaysList m.file_of m.made m.lead t tree
  pub full : FullPuts s m cmp new key tree moment b

abbrev pub FullTurns : {S M O : Type 0} → Ghosts S → multi.Ghosts M S O → (List ℕ → List ℕ → Ordering) → List (List ℕ) → List (List ℕ) → List ℕ → M → S → S → Type 0
FullTurns s m cmp old new key t a b = FullOuts s m cmp old key t a b ⊎ FullBehind s m cmp old new key t a b
