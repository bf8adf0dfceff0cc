-- The rules of a hash file, one after the other, and the first that fails.
use Rattle.std.specs.Prelude.{◌≡◌, ℕ, ◌<◌, ◌≤◌, true, List, length, take}
use Rattle.tc_base.specs.declared.kind.Rule.{Rule}
use Rattle.hf_head.specs.declared.head.Head.{Head}
use Rattle.hf_head.specs.Heads.{IsValid, Spells, unit}
use Rattle.hf_block.specs.Pieces.{Piece, IsFilled}
use Rattle.hf_block.specs.Walks.{between}
use Rattle.hf_block.specs.declared.walking.WalkErr.{WalkErr}
use Rattle.hf_block.specs.declared.walking.WalkErr.TheVariants as walk
use Rattle.tc_space.specs.Ranges.{IsDataFile}
use Rattle.tc_space.specs.declared.space.Space.{Ghosts}
use Rattle.tc_space.specs.declared.errors.OpenErr.{OpenErr}
use Rattle.tc_space.specs.declared.errors.OpenErr.TheVariants as open_err
use Rattle.hf_layout.specs.Frees.{Frees, none}
use Rattle.hf_layout.specs.Layout.{record_at, frees_of, LaidOut}
use Rattle.hf_pool.specs.declared.pool.Pool.{Pool}
use Rattle.hf_tree.specs.Links.{links_of, width}
use Rattle.hf_tree.specs.Rules.{rule_l, IsFirstBroken}
use Rattle.hf_tree.specs.Standing.{Opens, count_of}
use Rattle.hf_survey.specs.Holding.{AllHold}
use Rattle.tc_hash.specs.Sections.{IsListOf, section_of}

-- a head of that type stands at the front
pub record HasHead (kind : ℕ) (bytes : List ℕ) (h : Head) : Type 0 where
  pub long : 256 ≤ length bytes
  pub valid : IsValid h
  pub spells : Spells h (take 256 bytes)
  pub kind_is : h.kind ≡ kind

-- the space may be used, and this is a data file with that head
pub record HasHeadIn {S : Type 0} (s : Ghosts S) (space : S) (file : ℕ) (h : Head) : Type 0 where
  pub sound : s.sound space
  pub data_file : IsDataFile file
  pub valid : IsValid h
  pub is : s.tells → HasHead h.kind (s.now space file) h

-- whole blocks with chains of the file's width stand from the first one up to the file size
abbrev pub FillsUp : Head → List ℕ → List Piece → Type 0
FillsUp h bytes ps = IsFilled (width h) (unit h) (between h.first h.size bytes) ps

-- this rule fails, and the earlier ones hold
pub data IsBroken (kind : ℕ) (bytes : List ℕ) : Rule → Type 0 where
  no_head : ((h : Head) → HasHead kind bytes h → ⊥) → IsBroken kind bytes (rule_l 1)
  too_short : (h : Head) → HasHead kind bytes h → length bytes < h.size → IsBroken kind bytes (rule_l 2)
  no_blocks : (h : Head) → HasHead kind bytes h → h.size ≤ length bytes → ((ps : List Piece) → FillsUp h bytes ps → ⊥) → IsBroken kind bytes (rule_l 3)
  bad_links : (h : Head) (ps : List Piece) (rule : Rule) → Opens kind bytes h ps → IsFirstBroken (links_of h ps bytes) (record_at h.first ps) h.buckets h.records (count_of ps) rule → IsBroken kind bytes rule
  bad_section : (h : Head) (ps : List Piece) → Opens kind bytes h ps → AllHold h ps bytes → (IsListOf (unit h) (frees_of h.first ps) (section_of h bytes) → ⊥) → IsBroken kind bytes (rule_l 9)

-- ---- what an opening answers

abbrev pub broken_at : ℕ → ℕ → OpenErr
broken_at file number = open_err.Broken file (rule_l number)

-- the same refusal, with the file
abbrev pub open_of : ℕ → WalkErr → OpenErr
open_of file (walk.Broken rule) = open_err.Broken file rule
open_of file walk.Fault = open_err.Fault
open_of file walk.Memory = open_err.Memory

-- a refusal that names a rule names the file, and the first rule that fails
abbrev pub Breaks : Type 0 → ℕ → ℕ → List ℕ → OpenErr → Type 0
Breaks tells kind file bytes e = (f : ℕ) (rule : Rule) → e ≡ open_err.Broken f rule → (f ≡ file) × (tells → IsBroken kind bytes rule)

-- all rules hold of these blocks, and the free ones are those of a pool
pub record IsRead (kind : ℕ) (bytes : List ℕ) (h : Head) (ps : List Piece) (frees : Frees) : Type 0 where
  pub opens : Opens kind bytes h ps
  pub hold : AllHold h ps bytes
  pub laid : LaidOut (unit h) h.first h.size ps frees none bytes
  pub list : IsListOf (unit h) frees (section_of h bytes)

-- a pool with the unit of a head, whose blocks end where the head says; no section of its free blocks was written yet
pub record IsPoolOf (h : Head) (pool : Pool) : Type 0 where
  pub unit_is : pool.unit ≡ unit h
  pub end_is : pool.size ≡ h.size
  pub noted : pool.changed ≡ true

abbrev pub WasRead : ℕ → List ℕ → Head → Frees → Type 0
WasRead kind bytes h frees = (ps : List Piece) × IsRead kind bytes h ps frees

-- a refusal that names a rule names the last one, and the section is no list
abbrev pub IsNoList : Type 0 → ℕ → ℕ → Frees → List ℕ → OpenErr → Type 0
IsNoList tells file u frees section e = (f : ℕ) (rule : Rule) → e ≡ open_err.Broken f rule → (e ≡ broken_at file 9) × (tells → IsListOf u frees section → ⊥)
