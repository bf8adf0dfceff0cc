-- The records of a file as a list of facts, one for each, in ascending place.
use Rattle.std.specs.Prelude.{◌≡◌, ◌⊎◌, ℕ, zero, suc, ◌+◌, ◌-◌, ◌*◌, ◌<◌, ◌≤◌, List, [], ◌∷◌, ◌++◌, length, take, replicate, Option, Some, None, slice_get}
use Rattle.tc_base.specs.Hashes.{second}
use Rattle.hf_head.specs.declared.head.Head.{Head}
use Rattle.hf_head.specs.Heads.{unit}
use Rattle.hf_block.specs.Pieces.{Record, Piece, held, free, size_of}
use Rattle.hf_tree.specs.Keys.{bucket_of}
use Rattle.hf_tree.specs.Links.{HasBlocks, entry_at, width}
use Rattle.hf_survey.specs.declared.facts.Fact.{Fact}
use Rattle.hf_survey.specs.declared.facts.Marks.{Marks}
use Rattle.hf_chain.specs.declared.heads.RecHead.{RecHead}
use Rattle.hf_chain.specs.Heads.{HasRecord, IsInBounds, capped, head_of, head_size}

-- the first 16 bytes of a key, with zeros behind a shorter one
abbrev pub front_of : List ℕ → List ℕ
front_of key = take 16 key ++ replicate (16 - length key) 0

-- the bucket of a key among so many, its second hash, and its first bytes
abbrev pub marks_of : ℕ → List ℕ → Marks
marks_of buckets key = record { bucket = bucket_of buckets key; second = second key; front = front_of key }

-- what the rules ask of a record at a place
abbrev pub fact_of : Head → ℕ → Record → Fact
fact_of h p r = record { place = p; left = capped (unit h * r.left); right = capped (unit h * r.right); bucket = bucket_of h.buckets r.key; second = second r.key; hash = r.hash; ahead = head_size r; long = length r.key; front = front_of r.key }

-- those of the records among blocks
abbrev pub facts_of : Head → ℕ → List Piece → List Fact
facts_of h at [] = []
facts_of h at (held r ∷ ps) = fact_of h at r ∷ facts_of h (at + size_of (held r)) ps
facts_of h at (free size tail ∷ ps) = facts_of h (at + size_of (free size tail)) ps

-- the facts are those of a file with these blocks
pub record AreFacts (h : Head) (ps : List Piece) (bytes : List ℕ) (facts : List Fact) : Type 0 where
  pub has : HasBlocks h h.size ps bytes
  pub is : facts ≡ facts_of h h.first ps

pub record HasFacts (h : Head) (bytes : List ℕ) (facts : List Fact) : Type 0 where
  pub pieces : List Piece
  pub is : AreFacts h pieces bytes facts

-- a record stands there, and this is its fact
pub record IsFactOf (h : Head) (x : Fact) (bytes : List ℕ) : Type 0 where
  pub r : Record
  pub has : HasRecord h r x.place bytes
  pub is : x ≡ fact_of h x.place r

abbrev pub Ascend : List Fact → Type 0
Ascend facts = (i j : ℕ) (x y : Fact) → slice_get facts i ≡ Some x → slice_get facts j ≡ Some y → i < j → x.place < y.place

-- a record stands there
abbrev pub IsListedAt : List Fact → ℕ → Type 0
IsListedAt facts p = (i : ℕ) × (x : Fact) × (slice_get facts i ≡ Some x) × (x.place ≡ p)

-- a link names none, or a record
abbrev pub Names : List Fact → ℕ → Type 0
Names facts p = (p ≡ 0) ⊎ IsListedAt facts p

-- the place that a bucket's entry names
abbrev pub entry_place : Head → ℕ → List ℕ → ℕ
entry_place h b bytes = capped (unit h * entry_at (width h) b bytes)

-- records by number, counted from 1; 0 is none
abbrev pub place_in : Option Fact → ℕ
place_in None = 0
place_in (Some x) = x.place

abbrev pub spot : List Fact → ℕ → ℕ
spot facts zero = 0
spot facts (suc i) = place_in (slice_get facts i)

-- both chains name none, or a record
abbrev pub HasNamed : List Fact → Fact → Type 0
HasNamed facts x = Names facts x.left × Names facts x.right

-- those of all records do
abbrev pub AllNamed : List Fact → Type 0
AllNamed facts = (i : ℕ) (x : Fact) → slice_get facts i ≡ Some x → HasNamed facts x

-- a record of which a chain names what is no record
abbrev pub HasBadChain : List Fact → Type 0
HasBadChain facts = (i : ℕ) × (x : Fact) × (slice_get facts i ≡ Some x) × (HasNamed facts x → ⊥)

-- it is the fact of whatever record has this head and key,
abbrev pub IsFactFrom : Head → ℕ → RecHead → List ℕ → Fact → Type 0
IsFactFrom h place rec key x = (r : Record) → rec ≡ head_of r → key ≡ r.key → IsInBounds r → x ≡ fact_of h place r

-- the same of whatever record has this head and a key with these marks,
abbrev pub IsFactOfMarks : Head → ℕ → RecHead → Marks → Fact → Type 0
IsFactOfMarks h place rec marks x = (r : Record) → rec ≡ head_of r → marks ≡ marks_of h.buckets r.key → IsInBounds r → x ≡ fact_of h place r

-- or stands at a place
abbrev pub IsFactAt : Head → ℕ → List ℕ → Fact → Type 0
IsFactAt h place bytes x = (r : Record) → HasRecord h r place bytes → x ≡ fact_of h place r

-- the record with that number, counted from 0, stands there
abbrev pub StandsAs : List Fact → ℕ → ℕ → Type 0
StandsAs facts place i = (x : Fact) × (slice_get facts i ≡ Some x) × (x.place ≡ place)

-- a number, counted from 1, names the record there, or none where there is 0
abbrev pub IsSpot : List Fact → ℕ → ℕ → Type 0
IsSpot facts place n = (n ≤ length facts) × (spot facts n ≡ place)

-- the entry of each bucket names a record or none
abbrev pub AllEntriesName : Head → List Fact → List ℕ → Type 0
AllEntriesName h facts bytes = (b : ℕ) → b < h.buckets → Names facts (entry_place h b bytes)

-- that of some bucket doesn't
abbrev pub HasBadEntry : Head → List Fact → List ℕ → Type 0
HasBadEntry h facts bytes = (b : ℕ) × (b < h.buckets) × (Names facts (entry_place h b bytes) → ⊥)
