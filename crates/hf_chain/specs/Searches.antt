-- How a search ended, with the head of the record that it found.
use Rattle.std.specs.Prelude.{ℕ, ◌^◌, ◌<◌, length}
use Rattle.tc_space.specs.declared.space.Space.{Ghosts}
use Rattle.hf_head.specs.declared.head.Head.{Head}
use Rattle.hf_tree.specs.declared.parent.Found.{Found}
use Rattle.hf_tree.specs.declared.parent.Found.TheVariants.{Here, Gap}
use Rattle.hf_chain.specs.declared.finding.Place.{Place}
use Rattle.hf_chain.specs.declared.finding.Search.{Search}
use Rattle.hf_chain.specs.declared.finding.Search.TheVariants as search
use Rattle.hf_chain.specs.Chains.{MayUnhang}
use Rattle.hf_chain.specs.Fronts.{FitsLinks}
use Rattle.hf_chain.specs.Heads.{IsHeadOf}

-- where it ended
abbrev pub found_of : Search → Found
found_of (search.Here p) = Here p.at p.from
found_of (search.Gap to) = Gap to

-- the head that was found fits into the file's links and is that of whatever record stands there, and the file's length is a number of 64 bits
pub record HasHeadOf {S : Type 0} (s : Ghosts S) (h : Head) (file : ℕ) (space : S) (p : Place) : Type 0 where
  pub fits : FitsLinks h p.rec
  pub is : s.tells → IsHeadOf h p.at (s.now space file) p.rec
  pub long : s.tells → length (s.now space file) < 2 ^ 64

-- so it is of the record where a search ended
abbrev pub KnowsHead : {S : Type 0} → Ghosts S → Head → ℕ → S → Search → Type 0
KnowsHead s h file space (search.Here p) = HasHeadOf s h file space p
KnowsHead s h file space (search.Gap to) = Unit {0}

-- the record that was found hangs there, and its head is known
pub record IsHanging {S : Type 0} (s : Ghosts S) (h : Head) (file : ℕ) (space : S) (p : Place) : Type 0 where
  pub here : s.tells → MayUnhang h p.at p.from (s.now space file)
  pub known : HasHeadOf s h file space p
