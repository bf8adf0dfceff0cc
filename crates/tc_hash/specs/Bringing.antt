-- The head and the pool section, written where they differ.
use Rattle.std.specs.Prelude.{◌≡◌, ℕ, ◌≤◌, List, ◌++◌, length, take, replicate, false, option_map, Option, None, Some}
use Rattle.tc_base.specs.Files.{wrote}
use Rattle.tc_space.specs.Effects.{Changes}
use Rattle.tc_space.specs.declared.space.Space.{Ghosts}
use Rattle.hf_pool.specs.Pools.{frees}
use Rattle.hf_record.specs.declared.body.Body.{Body}
use Rattle.tc_hash.specs.declared.front.Front.{Front}
use Rattle.tc_hash.specs.Sections.{IsSectionOf, filled, section_at, section_len, section_of}
use Rattle.tc_hash.specs.Settling.{patched}

-- as many bytes as the old ones with zeros behind them; with zeros behind them they are the section of the free blocks, where the old ones weren't longer than it
pub record IsSectionOver (b : Body) (was old new : List ℕ) : Type 0 where
  pub zeros : (n : ℕ) × (old ≡ was ++ replicate n 0)
  pub long : length new ≡ length old
  pub few : length was ≤ section_len b.head → length new ≤ section_len b.head
  pub lists : length was ≤ section_len b.head → IsSectionOf b.head b.pool.unit (frees b.pool) (filled (section_len b.head) new)

-- there are none where no change of free blocks is noted
abbrev pub IsNewSection : Body → List ℕ → List ℕ → Option (List ℕ) → Type 0
IsNewSection b was old None = (b.pool.changed ≡ false) × (old ≡ was)
IsNewSection b was old (Some new) = IsSectionOver b was old new

-- the whole section
abbrev pub whole : Body → Option (List ℕ) → Option (List ℕ)
whole b section = option_map (filled (section_len b.head)) section

module _ {S : Type 0} (s : Ghosts S) where
  -- so many bytes of a section and zeros behind them stand in the file, where others are to be written over them
  abbrev pub StandsUnder : Body → List ℕ → Option (List ℕ) → S → Type 0
  StandsUnder b old None space = Unit {0}
  StandsUnder b old (Some new) space = (length old ≡ length new) × (s.tells → (length new ≤ section_len b.head) × (section_of b.head (s.now space b.file) ≡ filled (section_len b.head) old))

  pub record MayWriteSection (b : Body) (old : List ℕ) (section : Option (List ℕ)) (space : S) : Type 0 where
    pub sound : s.sound space
    pub inside : s.tells → b.head.first ≤ length (s.now space b.file)
    pub under : StandsUnder b old section space

  abbrev pub WritesSection : Body → Option (List ℕ) → S → S → Type 0
  WritesSection b section before after = s.tells → Changes s.now b.file (patched (section_at b.head) (whole b section) (s.now before b.file)) before after

  -- the head too
  pub record MayWriteFront (b : Body) (front : Front) (section : Option (List ℕ)) (space : S) : Type 0 where
    pub section_may : MayWriteSection b front.section section space
    pub head : s.tells → take 256 (s.now space b.file) ≡ front.head

  -- and the file is cut to a size
  abbrev pub WritesFront : Body → List ℕ → Option (List ℕ) → ℕ → S → S → Type 0
  WritesFront b head section size before after = s.tells → Changes s.now b.file (take size (patched (section_at b.head) (whole b section) (wrote 0 head (s.now before b.file)))) before after
