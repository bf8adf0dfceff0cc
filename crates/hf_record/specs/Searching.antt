-- Where the search for a key ended.
use Rattle.std.specs.Prelude.{ℕ}
use Rattle.tc_space.specs.declared.space.Space.{Ghosts}
use Rattle.hf_tree.specs.declared.parent.Parent.{Parent}
use Rattle.hf_tree.specs.declared.parent.Found.TheVariants.{Here, Gap}
use Rattle.hf_tree.specs.Keys.{Key}
use Rattle.hf_chain.specs.Searches.{HasHeadOf}
use Rattle.hf_chain.specs.declared.finding.Place.{Place}
use Rattle.hf_chain.specs.declared.finding.Search.{Search}
use Rattle.hf_chain.specs.declared.finding.Search.TheVariants as search
use Rattle.hf_record.specs.declared.body.Body.{Body}
use Rattle.hf_record.specs.Changing.{CanChange}
use Rattle.hf_record.specs.Holding.{IsSearched}
use Rattle.hf_record.specs.Moves.{HasRoom}

-- at the record of the key, whose head is known
pub record IsFound {S : Type 0} (s : Ghosts S) (b : Body) (key : Key) (space : S) (p : Place) : Type 0 where
  pub known : HasHeadOf s b.head b.file space p
  pub here : s.tells → IsSearched b.head key (Here p.at p.from) (s.now space b.file)

-- where it would hang
abbrev pub IsGap : {S : Type 0} → Ghosts S → Body → Key → S → Parent → Type 0
IsGap s b key space to = s.tells → IsSearched b.head key (Gap to) (s.now space b.file)

-- at the one or at the other
abbrev pub EndsSo : {S : Type 0} → Ghosts S → Body → Key → S → Search → Type 0
EndsSo s b key space (search.Here p) = IsFound s b key space p
EndsSo s b key space (search.Gap to) = IsGap s b key space to

-- the space may be used, some map is held, and the record of the key was found, whose block has so many bytes
pub record HasFound {S : Type 0} (s : Ghosts S) (b : Body) (key : Key) (space : S) (p : Place) (room : ℕ) : Type 0 where
  pub may : CanChange s b space
  pub found : IsFound s b key space p
  pub block : HasRoom s b p.at room space
