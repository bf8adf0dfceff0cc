-- What the engine of a hash database holds, and what its files stand for.
use Rattle.std.specs.Prelude.{◌≡◌, ◌⊎◌, ℕ, false, List, [], IfSome}
use Rattle.std.specs.FinMap.{empty, get}
use Rattle.tc_base.specs.Files.{Files}
use Rattle.tc_base.specs.Maps.{Map}
use Rattle.tc_base.specs.declared.kind.Kind.{Kind}
use Rattle.tc_base.specs.declared.kind.Kind.TheVariants as kind
use Rattle.tc_base.specs.declared.kind.Rule.{Rule}
use Rattle.tc_maps.specs.Sizes.{size_of}
use Rattle.tc_space.specs.declared.space.Space.{Ghosts}
use Rattle.hf_tree.specs.Rules.{rule_l}
use Rattle.hf_tree.specs.Standing.{StandsFor}
use Rattle.tc_hash.specs.Keeping.{ShowsRegion, holds}
use Rattle.tc_hash.specs.Opening.{IsBroken}
use Rattle.tc_model.specs.Contents.{Contents, hash}
use Rattle.tc_hashdb.specs.declared.holding.HashEngine.{HashEngine}

-- it holds this map over the bytes of file 0, a hash file, what was counted of it is so, and the head that stands in front of the file has the region that is held
pub record HoldsCounted {S : Type 0} (e : HashEngine S) (bytes : List ℕ) (m : Map) : Type 0 where
  pub file : e.hash.body.file ≡ 0
  pub kind : e.hash.body.head.kind ≡ 0
  pub holds_it : holds e.hash bytes m
  pub counted : IfSome e.total (λ n. n ≡ size_of m)
  pub region : ShowsRegion e.hash bytes

-- with the bytes that file 0 has now
abbrev pub Means : {S : Type 0} → Ghosts S → HashEngine S → S → Map → Type 0
Means s e space m = s.tells × HoldsCounted e (s.now space 0) m

-- the contents are that map
pub record HoldsKeys {S : Type 0} (e : HashEngine S) (files : Files) (c : Contents) : Type 0 where
  pub map : Map
  pub is : c ≡ hash false map
  pub holds_map : HoldsCounted e (files 0) map

-- file 0 is a hash file that stands for the contents
pub record IsFileOf (files : Files) (c : Contents) : Type 0 where
  pub map : Map
  pub is : c ≡ hash false map
  pub stands : StandsFor 0 (files 0) (get map)

-- an empty file stands for no data
abbrev pub Reopens : Files → Contents → Type 0
Reopens files c = ((files 0 ≡ []) × (c ≡ hash false empty)) ⊎ IsFileOf files c

-- ---- when it isn't opened

-- the first rule that file 0 breaks, if it isn't empty
pub record BreaksRule (files : Files) (file : ℕ) (rule : Rule) : Type 0 where
  pub in_main : file ≡ 0
  pub some : files 0 ≡ [] → ⊥
  pub broken : IsBroken 0 (files 0) rule

-- no file is opened as another kind: its head would have to be another
abbrev pub BreaksAs : Kind → Files → ℕ → Rule → Type 0
BreaksAs kind.Hash files file rule = BreaksRule files file rule
BreaksAs _ files file rule = (file ≡ 0) × (rule ≡ rule_l 1)
