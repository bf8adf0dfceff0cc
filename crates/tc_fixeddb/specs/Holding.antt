-- What the engine of a fixed-length database holds, and what its files stand for.
use Rattle.std.specs.Prelude.{◌≡◌, ◌⊎◌, ℕ, List, [], ◌++◌, codes, map, take, option_map, Option, IfSome}
use Rattle.std.specs.Fmt.{decimal}
use Rattle.tc_base.specs.Files.{Files}
use Rattle.tc_base.specs.declared.kind.Kind.{Kind}
use Rattle.tc_base.specs.declared.kind.Kind.TheVariants as kind
use Rattle.tc_base.specs.declared.kind.Rule.{Rule}
use Rattle.tc_space.specs.declared.space.Space.{Ghosts}
use Rattle.hf_head.specs.declared.fixed.FixedHead.{FixedHead}
use Rattle.hf_head.specs.FixedHeads.{fixed_in}
use Rattle.tc_model.specs.Arrays.{Array, greatest, id_of}
use Rattle.tc_model.specs.Contents.{Contents, fixed}
use Rattle.tc_model.specs.Stores.{held, replied}
use Rattle.tc_fixed.specs.declared.fixed.Fixed.{Fixed}
use Rattle.tc_fixed.specs.Cells.{end_of}
use Rattle.tc_fixed.specs.Holding.{HasNoRoom, holds, max_id_of, width_of}
use Rattle.tc_fixed.specs.Opening.{IsBroken, rule_f}
use Rattle.tc_fixed.specs.Standing.{Stands}
use Rattle.tc_engine.specs.Lines.{line}
use Rattle.tc_fixeddb.specs.declared.holding.FixedEngine.{FixedEngine}
use Rattle.tc_fixeddb.specs.Shapes.{anew, usual}

-- the contents are the ids that the array holds over file 0, with its width and the greatest id that it allows
pub record HoldsIds {S : Type 0} (e : FixedEngine S) (files : Files) (c : Contents) : Type 0 where
  pub ids : Array
  pub is : c ≡ fixed (width_of e.fixed) (max_id_of e.fixed) ids
  pub holds_them : holds e.fixed (files 0) ids

-- file 0 is one that stands for the contents
pub record IsFileOf (files : Files) (c : Contents) : Type 0 where
  pub width : ℕ
  pub most : ℕ
  pub ids : Array
  pub is : c ≡ fixed width most ids
  pub stands : Stands (files 0) width most ids

-- an empty file stands for no data, in the shape of a file that an opening makes
abbrev pub Reopens : Files → Contents → Type 0
Reopens files c = ((files 0 ≡ []) × (c ≡ anew usual)) ⊎ IsFileOf files c

-- how long the file is that has these contents
abbrev pub length_with : Contents → ℕ
length_with (fixed width most ids) = end_of width (greatest ids)
length_with _ = 0

-- the file would pass its limit with the contents after, or the undo log is full
abbrev pub Fills : {S : Type 0} → Ghosts S → S → Contents → Contents → Type 0
Fills s space before after = HasNoRoom (s.limit space 0) (s.log_full space) (length_with after)

-- ---- what an inspection tells

abbrev pub lines_of : FixedHead → List ℕ
lines_of h = line (codes "width: ") h.width ++ (line (codes "greatest id: ") h.greatest ++ line (codes "file size: ") h.size)

-- as the head of file 0 says
abbrev pub Lines : Files → List ℕ → Type 0
Lines files text = text ≡ lines_of (fixed_in (take 256 (files 0)))

-- ---- when it isn't opened

-- the first rule that file 0 breaks, if it isn't empty
pub record BreaksRule (files : Files) (file : ℕ) (rule : Rule) : Type 0 where
  pub in_main : file ≡ 0
  pub some : files 0 ≡ [] → ⊥
  pub broken : IsBroken (files 0) rule

-- no file is opened as another kind: its head would have to be another
abbrev pub BreaksAs : Kind → Files → ℕ → Rule → Type 0
BreaksAs kind.Fixed files file rule = BreaksRule files file rule
BreaksAs _ files file rule = (file ≡ 0) × (rule ≡ rule_f 1)

-- ---- keys

-- ids in decimal
abbrev pub decimals : List ℕ → List (List ℕ)
decimals ids = map (λ id. decimal id) ids

-- this is the id that a key names, whatever the file is
pub record Names {S : Type 0} (f : Fixed S) (key : List ℕ) (o : Option ℕ) : Type 0 where
  pub by : (bytes : List ℕ) (m : Array) → holds f bytes m → o ≡ id_of (max_id_of f) m key

-- what is held of a key, and the key as replies have it
pub record IsFound (c : Contents) (key : List ℕ) (found : Option (ℕ × List ℕ)) : Type 0 where
  pub value : option_map (λ f. f.1) found ≡ held c key
  pub name : IfSome found (λ f. decimal f.0 ≡ replied c key)
