-- What is found of the trees of a file's buckets.
use Rattle.std.specs.Prelude.{ℕ, ◌*◌, Bool, List, length}
use Rattle.hf_head.specs.declared.head.Head.{Head}
use Rattle.hf_block.specs.Pieces.{Piece}
use Rattle.hf_layout.specs.Layout.{record_at}
use Rattle.hf_tree.specs.Links.{links_of}
use Rattle.hf_survey.specs.declared.facts.Fact.{Fact}
use Rattle.hf_survey.specs.declared.reaching.Item.{Item}
use Rattle.hf_survey.specs.declared.judging.Verdict.{Verdict}
use Rattle.hf_survey.specs.Facts.{AreFacts}
use Rattle.hf_survey.specs.Orders.{Judged}
use Rattle.hf_survey.specs.Reaching.{AllReached, AreLow, Marked, Reach, all_seen}

-- the trees of so many buckets were followed, in a file that may be told; what they reach was judged, and is marked
pub record WereFollowed (tells : Type 0) (h : Head) (bytes : List ℕ) (facts : List Fact) (buckets : ℕ) (marks : List Bool) (v : Verdict) : Type 0 where
  pub items : List Item
  pub marked : Marked items marks
  pub judged : Judged tells facts items (length items) bytes v
  pub reached : tells → (ps : List Piece) → AreFacts h ps bytes facts → Reach (links_of h ps bytes) (record_at h.first ps) h.buckets (all_seen facts items) buckets (2 * length items)

-- each link names a record or none, the buckets reach each record, and this was found of what they reach
pub record WereJudged (tells : Type 0) (h : Head) (bytes : List ℕ) (facts : List Fact) (v : Verdict) : Type 0 where
  pub items : List Item
  pub low : AreLow (length facts) items
  pub judged : Judged tells facts items (length items) bytes v
  pub all : tells → (ps : List Piece) → AreFacts h ps bytes facts → AllReached (links_of h ps bytes) (record_at h.first ps) h.buckets (all_seen facts items)
