-- The rules of links and records, of a file with these blocks.
use Rattle.std.specs.Prelude.{◌≡◌, ℕ, List, Option}
use Rattle.hf_head.specs.declared.head.Head.{Head}
use Rattle.hf_block.specs.Pieces.{Piece}
use Rattle.hf_layout.specs.Layout.{record_at}
use Rattle.tc_base.specs.declared.kind.Rule.{Rule}
use Rattle.hf_tree.specs.Keys.{Key}
use Rattle.hf_tree.specs.Links.{links_of}
use Rattle.hf_tree.specs.Rules.{NamesRecords, ReachedOnce, AreAtHome, AreInOrder, IsFirstBroken}
use Rattle.hf_tree.specs.Standing.{AllHang, count_of}
use Rattle.hf_survey.specs.declared.facts.Fact.{Fact}
use Rattle.hf_survey.specs.Facts.{AreFacts}
use Rattle.hf_survey.specs.Reaching.{IsNotOnce}

-- all rules of links and records hold, and the records hang in trees
pub record AllHold (h : Head) (ps : List Piece) (bytes : List ℕ) : Type 0 where
  pub names : NamesRecords (links_of h ps bytes) (record_at h.first ps) h.buckets
  pub once : ReachedOnce (links_of h ps bytes) (record_at h.first ps) h.buckets
  pub home : AreAtHome (links_of h ps bytes) (record_at h.first ps) h.buckets
  pub order : AreInOrder (links_of h ps bytes) (record_at h.first ps) h.buckets
  pub count : h.records ≡ count_of ps
  pub hang : (places : Key → Option ℕ) × AllHang (links_of h ps bytes) (record_at h.first ps) h.buckets places

-- this rule is the first of them that doesn't hold
abbrev pub Breaks : Head → List Piece → List ℕ → Rule → Type 0
Breaks h ps bytes rule = IsFirstBroken (links_of h ps bytes) (record_at h.first ps) h.buckets h.records (count_of ps) rule

-- ---- of whatever blocks these are the facts of

-- all rules hold
abbrev pub HoldsAll : Head → List ℕ → List Fact → Type 0
HoldsAll h bytes facts = (ps : List Piece) → AreFacts h ps bytes facts → AllHold h ps bytes

-- this rule is the first that doesn't
abbrev pub FirstBreaks : Head → List ℕ → List Fact → Rule → Type 0
FirstBreaks h bytes facts rule = (ps : List Piece) → AreFacts h ps bytes facts → Breaks h ps bytes rule

-- not each link names a record or none with each record reached once
abbrev pub LacksOnce : Head → List ℕ → List Fact → Type 0
LacksOnce h bytes facts = (ps : List Piece) → AreFacts h ps bytes facts → IsNotOnce (links_of h ps bytes) (record_at h.first ps) h.buckets

-- then this rule is the first that doesn't hold
abbrev pub LinkBreaks : Head → List ℕ → List Fact → Rule → Type 0
LinkBreaks h bytes facts rule = (ps : List Piece) → AreFacts h ps bytes facts → IsNotOnce (links_of h ps bytes) (record_at h.first ps) h.buckets → Breaks h ps bytes rule
