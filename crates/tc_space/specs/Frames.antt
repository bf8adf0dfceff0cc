-- What a call does to a space, and to what it keeps there. `Ghosts S` are the members of the space, as one.
use Rattle.std.specs.Prelude.{◌≡◌, ◌⊎◌, ℕ, ◌≤◌, List, false}
use Rattle.std.proofs.Common.{◌∙◌, arith, refl, inl, inr, ⊎_elim}
use Rattle.tc_space.specs.Moments.{Steady, steady_refl, steady_then}
use Rattle.tc_space.specs.declared.space.Space.{Ghosts}

-- whatever the call answers: a stop leaves what is kept, and that stays; so do limits, names and what was, and faults are only added
pub record Keeps {S : Type 0} (s : Ghosts S) (old new : S) : Type 0 where
  pub steady : s.tells → Steady s.moment s.files_at s.left s.kept old new
  pub same_limit : s.limit new ≡ s.limit old
  pub same_names : s.names new ≡ s.names old
  pub later : s.faults old ≤ s.faults new

-- what is left of that where it may have committed
pub record Follows {S : Type 0} (s : Ghosts S) (old new : S) : Type 0 where
  pub later : s.faults old ≤ s.faults new
  pub same_limit : s.limit new ≡ s.limit old
  pub same_names : s.names new ≡ s.names old

-- besides, nothing is written
pub record OnlyReads {S : Type 0} (s : Ghosts S) (old new : S) : Type 0 where
  pub keeps : Keeps s old new
  pub files : s.tells → (g : ℕ) → s.now new g ≡ s.now old g
  pub untouched : s.touched new ≡ s.touched old
  pub is_sound : s.sound new

-- besides, nothing is read
pub record OnlyWrites {S : Type 0} (s : Ghosts S) (old new : S) : Type 0 where
  pub keeps : Keeps s old new
  pub counted : s.bytes_read new ≡ s.bytes_read old

module _ {S : Type 0} (s : Ghosts S) where
  pub keeps_refl : (a : S) → Keeps s a a
  keeps_refl a = record { steady = λ t. steady_refl s.moment s.left s.files_at s.kept a; same_limit = refl; same_names = refl; later = omega arith }

  pub keeps_then : (a b c : S) → Keeps s a b → Keeps s b c → Keeps s a c
  keeps_then a b c first second = record {
    steady = λ t. steady_then s.moment s.left s.files_at s.kept a b c (first.steady t) (second.steady t);
    same_limit = second.same_limit ∙ first.same_limit;
    same_names = second.same_names ∙ first.same_names;
    later = omega (arith, first.later, second.later);
  }

  pub follows_refl : (a : S) → Follows s a a
  follows_refl a = record { later = omega arith; same_limit = refl; same_names = refl }

  pub follows_then : (a b c : S) → Follows s a b → Follows s b c → Follows s a c
  follows_then a b c first second = record { later = omega (arith, first.later, second.later); same_limit = second.same_limit ∙ first.same_limit; same_names = second.same_names ∙ first.same_names }

  pub only_reads_refl : (a : S) → s.sound a → OnlyReads s a a
  only_reads_refl a is = record { keeps = keeps_refl a; files = λ t g. refl; untouched = refl; is_sound = is }

  pub only_reads_then : (a b c : S) → OnlyReads s a b → OnlyReads s b c → OnlyReads s a c
  only_reads_then a b c first second = record {
    keeps = keeps_then a b c first.keeps second.keeps;
    files = λ t g. second.files t g ∙ first.files t g;
    untouched = second.untouched ∙ first.untouched;
    is_sound = second.is_sound;
  }

  pub only_writes_refl : (a : S) → OnlyWrites s a a
  only_writes_refl a = record { keeps = keeps_refl a; counted = refl }

  pub only_writes_then : (a b c : S) → OnlyWrites s a b → OnlyWrites s b c → OnlyWrites s a c
  only_writes_then a b c first second = record { keeps = keeps_then a b c first.keeps second.keeps; counted = second.counted ∙ first.counted }

-- it was given up: it may not be used any more, its files and limits stay, and where its log was full it is so still
pub record GivenUp {S : Type 0} (s : Ghosts S) (old new : S) : Type 0 where
  pub flag : s.flag new ≡ false
  pub keeps : Keeps s old new
  pub files : s.tells → (g : ℕ) → s.now new g ≡ s.now old g
  pub log : s.log_full old → s.log_full new
  pub brought : s.brought old → s.brought new

-- all that it tells is where it keeps it, and a file is what it was
pub record Brought {S : Type 0} (s : Ghosts S) (file : ℕ) (old new : S) : Type 0 where
  pub brought : s.brought new
  pub same : s.tells → s.now new file ≡ s.now old file

-- ---- what is kept in files

-- files that aren't its own stay, where they are told
pub record Others {S : Type 0} (s : Ghosts S) (own : ℕ → Type 0) (old new : S) : Type 0 where
  pub same : s.tells → (g : ℕ) → (own g → ⊥) → s.now new g ≡ s.now old g

-- a store of one file holds this, with the bytes that its file has now
abbrev pub In : {S V M : Type 0} → Ghosts S → (V → ℕ) → (V → List ℕ → M → Type 0) → V → S → M → Type 0
In s file holds v space m = s.tells × holds v (s.now space (file v)) m

-- nothing is written, and the meaning stays
pub record Reads {S V M : Type 0} (s : Ghosts S) (Means : V → S → M → Type 0) (v v' : V) (old new : S) : Type 0 where
  pub now : s.tells → (g : ℕ) → s.now new g ≡ s.now old g
  pub touched : s.touched new ≡ s.touched old
  pub sound : s.sound new
  pub means : (m : M) → Means v old m → Means v' new m

-- the meaning is changed by f, in its own files
pub record Writes {S V M : Type 0} (s : Ghosts S) (own : ℕ → Type 0) (Means : V → S → M → Type 0) (f : M → M) (v v' : V) (old new : S) : Type 0 where
  pub sound : s.sound new
  pub means : (m : M) → Means v old m → Means v' new (f m)
  pub others : Others s own old new

-- the space may not be used any more, or nothing has changed
abbrev pub Refuses : {S V M : Type 0} → Ghosts S → (V → S → M → Type 0) → V → V → S → S → Type 0
Refuses s Means v v' old new = (s.flag new ≡ false) ⊎ Reads s Means v v' old new

module _ {S : Type 0} (s : Ghosts S) where
  pub others_refl : (own : ℕ → Type 0) (a : S) → Others s own a a
  others_refl own a = record { same = λ t g other. refl }

  pub others_then : (own : ℕ → Type 0) (a b c : S) → Others s own a b → Others s own b c → Others s own a c
  others_then own a b c first second = record { same = λ t g other. second.same t g other ∙ first.same t g other }

module _ {S V M : Type 0} (s : Ghosts S) (Means : V → S → M → Type 0) where
  pub reads_refl : (v : V) (a : S) → s.sound a → Reads s Means v v a a
  reads_refl v a is = record { now = λ t g. refl; touched = refl; sound = is; means = λ m holds. holds }

  pub reads_then : (u v w : V) (a b c : S) → Reads s Means u v a b → Reads s Means v w b c → Reads s Means u w a c
  reads_then u v w a b c first second = record {
    now = λ t g. second.now t g ∙ first.now t g;
    touched = second.touched ∙ first.touched;
    sound = second.sound;
    means = λ m holds. second.means m (first.means m holds);
  }

  pub refuses_then : (u v w : V) (a b c : S) → Reads s Means u v a b → Refuses s Means v w b c → Refuses s Means u w a c
  refuses_then u v w a b c first second = ⊎_elim (λ spoiled. inl spoiled) (λ reads. inr (reads_then u v w a b c first reads)) second

  module _ (own : ℕ → Type 0) where
    pub writes_then : (f g : M → M) (u v w : V) (a b c : S) → Writes s own Means f u v a b → Writes s own Means g v w b c → Writes s own Means (λ m. g (f m)) u w a c
    writes_then f g u v w a b c first second = record { sound = second.sound; means = λ m holds. second.means (f m) (first.means m holds); others = others_then s own a b c first.others second.others }

    pub reads_writes : (f : M → M) (u v w : V) (a b c : S) → Reads s Means u v a b → Writes s own Means f v w b c → Writes s own Means f u w a c
    reads_writes f u v w a b c first second = record { sound = second.sound; means = λ m holds. second.means m (first.means m holds); others = record { same = λ t g other. second.others.same t g other ∙ first.now t g } }

    pub writes_reads : (f : M → M) (u v w : V) (a b c : S) → Writes s own Means f u v a b → Reads s Means v w b c → Writes s own Means f u w a c
    writes_reads f u v w a b c first second = record { sound = second.sound; means = λ m holds. second.means (f m) (first.means m holds); others = record { same = λ t g other. second.now t g ∙ first.others.same t g other } }
