-- The rules of links and records. Each is said of files in which the earlier ones hold.
use Rattle.std.specs.Prelude.{◌≡◌, ◌≢◌, ℕ, ◌<◌, ◌⊎◌, List, [], ◌∷◌, ◌++◌, Option, Some}
use Rattle.std.specs.declared.cmp.Ordering.TheVariants.{Less, Greater}
use Rattle.tc_base.specs.Hashes.{second}
use Rattle.tc_base.specs.declared.kind.Rule.{Rule}
use Rattle.hf_block.specs.Pieces.{Record}
use Rattle.hf_tree.specs.declared.parent.Parent.{Parent}
use Rattle.hf_tree.specs.declared.parent.Parent.TheVariants.{Bucket, Left, Right}
use Rattle.hf_tree.specs.Keys.{key_cmp, bucket_of}

-- the record at each place
abbrev pub Records : Type 0
Records = ℕ → Option Record

-- the place that each link names
abbrev pub Links : Type 0
Links = Parent → ℕ

pub data Turn : Type 0 where
  left : Turn
  right : Turn

-- a way begins at a bucket and turns left or right at each record; the last turn stands first
abbrev pub Way : Type 0
Way = ℕ × List Turn

abbrev pub turned : Turn → ℕ → Parent
turned left p = Left p
turned right p = Right p

-- the link at its end
abbrev pub end_of : Links → ℕ → List Turn → Parent
end_of links b [] = Bucket b
end_of links b (turn ∷ turns) = turned turn (links (end_of links b turns))

-- it begins at one of n buckets and leads to that place
abbrev pub Leads : Links → ℕ → Way → ℕ → Type 0
Leads links n way p = (way.0 < n) × (links (end_of links way.0 way.1) ≡ p)

abbrev pub IsRecord : Records → ℕ → Type 0
IsRecord records p = (r : Record) × (records p ≡ Some r)

-- the entry of one of n buckets, or a chain of a record
abbrev pub IsLink : Records → ℕ → Parent → Type 0
IsLink records n (Bucket b) = b < n
IsLink records n (Left p) = IsRecord records p
IsLink records n (Right p) = IsRecord records p

-- each entry and each chain that isn't 0 names a record
abbrev pub NamesRecords : Links → Records → ℕ → Type 0
NamesRecords links records n = (c : Parent) → IsLink records n c → (links c ≡ 0) ⊎ IsRecord records (links c)

-- exactly one way leads to each record
abbrev pub ReachedOnce : Links → Records → ℕ → Type 0
ReachedOnce links records n = (p : ℕ) → IsRecord records p → (way : Way) × Leads links n way p × ((other : Way) → Leads links n other p → other ≡ way)

-- each record is in its key's bucket, and has its key's second hash
abbrev pub AreAtHome : Links → Records → ℕ → Type 0
AreAtHome links records n = (p : ℕ) (r : Record) (way : Way) → records p ≡ Some r → Leads links n way p → (bucket_of n r.key ≡ way.0) × (r.hash ≡ second r.key)

-- what hangs left of a record is greater, and what hangs right of it is lesser
abbrev pub AreInOrder : Links → Records → ℕ → Type 0
AreInOrder links records n =
    (p q : ℕ) (r s : Record) (way : Way) (more : List Turn) → records p ≡ Some r → records q ≡ Some s → Leads links n way p
    → (Leads links n (way.0, more ++ (left ∷ way.1)) q → key_cmp s.key r.key ≡ Greater) × (Leads links n (way.0, more ++ (right ∷ way.1)) q → key_cmp s.key r.key ≡ Less)

abbrev pub rule_l : ℕ → Rule
rule_l number = record { letter = 76; number = number }

-- the first of these rules that doesn't hold, where so many records are claimed and there
abbrev pub IsFirstBroken : Links → Records → ℕ → ℕ → ℕ → Rule → Type 0
IsFirstBroken links records n claimed count rule =
    ((rule ≡ rule_l 4) × ¬ NamesRecords links records n)
    ⊎ (NamesRecords links records n × (((rule ≡ rule_l 5) × ¬ ReachedOnce links records n)
    ⊎ (ReachedOnce links records n × (((rule ≡ rule_l 6) × ¬ AreAtHome links records n)
    ⊎ (AreAtHome links records n × (((rule ≡ rule_l 7) × ¬ AreInOrder links records n)
    ⊎ (AreInOrder links records n × (rule ≡ rule_l 8) × (claimed ≢ count))))))))
