-- What was reached from the buckets, one record after the other.
use Rattle.std.specs.Prelude.{◌≡◌, ◌↔◌, ℕ, suc, ◌+◌, ◌*◌, ◌<◌, ◌≤◌, ◌⊎◌, Bool, true, false, List, [], ◌∷◌, ◌++◌, ◌-◌, ◌^◌, length, map, Some, slice_get}
use Rattle.std.specs.declared.cmp.Ordering.TheVariants.{Less, Greater}
use Rattle.tc_base.specs.Hashes.{second}
use Rattle.hf_block.specs.Pieces.{Record}
use Rattle.hf_tree.specs.declared.parent.Parent.TheVariants.{Bucket, Left, Right}
use Rattle.hf_tree.specs.Keys.{key_cmp, bucket_of}
use Rattle.hf_tree.specs.Rules.{Links, Records, Turn, left, right, turned, Leads, IsRecord, NamesRecords, ReachedOnce}
use Rattle.hf_survey.specs.declared.facts.Fact.{Fact}
use Rattle.hf_survey.specs.declared.reaching.Item.{Item}
use Rattle.hf_chain.specs.Heads.{capped}
use Rattle.hf_survey.specs.Facts.{Ascend, IsListedAt, Names, spot}

-- a record that was reached: its place, the bucket that it was reached from, and the places of the last records on the way that it hangs left of and
-- right of, 0 for none
pub record Reached : Type 0 where
  pub place : ℕ
  pub bucket : ℕ
  pub above : ℕ
  pub below : ℕ

abbrev pub code : Turn → ℕ
code left = 0
code right = 1

abbrev pub root : ℕ → ℕ → Reached
root b p = record { place = p; bucket = b; above = 0; below = 0 }

abbrev pub child : Turn → Reached → ℕ → Reached
child left x p = record { place = p; bucket = x.bucket; above = x.place; below = x.below }
child right x p = record { place = p; bucket = x.bucket; above = x.above; below = x.place }

abbrev pub IsIn : List Reached → ℕ → Type 0
IsIn items p = (i : ℕ) × (x : Reached) × (slice_get items i ≡ Some x) × (x.place ≡ p)

-- where a record was reached from: a bucket, or a chain of a record reached before
abbrev pub Origin : List Reached → ℕ → ℕ → (ℕ → List Turn) → List Turn → Reached → Type 0
Origin items roots done ways way x =
    ((way ≡ []) × (x ≡ root x.bucket x.place) × (x.bucket < roots))
    ⊎ ((k : ℕ) × (y : Reached) × (t : Turn) × (slice_get items k ≡ Some y) × (2 * k + code t < done) × (way ≡ t ∷ ways k) × (x ≡ child t y x.place))

pub record IsReached (links : Links) (records : Records) (n : ℕ) (items : List Reached) (roots done : ℕ) (ways : ℕ → List Turn) (i : ℕ) (x : Reached) : Type 0 where
  pub is : IsRecord records x.place
  pub leads : Leads links n (x.bucket, ways i) x.place
  pub short : length (ways i) ≤ i
  pub origin : Origin items roots done ways (ways i) x

-- so many entries, and then so many chains, were followed: each names none, or the record that was reached by it; no record was reached twice
pub record Reach (links : Links) (records : Records) (n : ℕ) (items : List Reached) (roots done : ℕ) : Type 0 where
  pub ways : ℕ → List Turn
  pub each : (i : ℕ) (x : Reached) → slice_get items i ≡ Some x → IsReached links records n items roots done ways i x
  pub buckets : (b : ℕ) → b < roots → (links (Bucket b) ≡ 0) ⊎ ((j : ℕ) × (slice_get items j ≡ Some (root b (links (Bucket b)))) × (ways j ≡ []))
  pub chains : (k : ℕ) (y : Reached) (t : Turn) → slice_get items k ≡ Some y → 2 * k + code t < done → (links (turned t y.place) ≡ 0) ⊎ ((j : ℕ) × (slice_get items j ≡ Some (child t y (links (turned t y.place)))) × (ways j ≡ t ∷ ways k))
  pub apart : (i j : ℕ) (x y : Reached) → slice_get items i ≡ Some x → slice_get items j ≡ Some y → x.place ≡ y.place → i ≡ j

-- what was reached is in its key's bucket, and has its key's second hash
abbrev pub IsAtHome : Records → ℕ → Reached → Type 0
IsAtHome records n x = (r : Record) → records x.place ≡ Some r → (bucket_of n r.key ≡ x.bucket) × (r.hash ≡ second r.key)

-- it is above what it hangs left of, and below what it hangs right of
abbrev pub IsBetween : Records → Reached → Type 0
IsBetween records x = (r : Record) → records x.place ≡ Some r → ((a : Record) → records x.above ≡ Some a → key_cmp r.key a.key ≡ Greater) × ((z : Record) → records x.below ≡ Some z → key_cmp r.key z.key ≡ Less)

-- ---- by numbers of records

abbrev pub root_item : ℕ → ℕ → Item
root_item b n = record { number = n; bucket = b; above = 0; below = 0 }

abbrev pub child_item : Turn → Item → ℕ → Item
child_item left x n = record { number = n; bucket = x.bucket; above = x.number; below = x.below }
child_item right x n = record { number = n; bucket = x.bucket; above = x.above; below = x.number }

-- the same item with another number
abbrev pub numbered : Item → ℕ → Item
numbered x n = record { number = n; bucket = x.bucket; above = x.above; below = x.below }

abbrev pub seen : List Fact → Item → Reached
seen facts x = record { place = spot facts x.number; bucket = x.bucket; above = spot facts x.above; below = spot facts x.below }

abbrev pub all_seen : List Fact → List Item → List Reached
all_seen facts items = map (seen facts) items

-- a record with that number was reached
abbrev pub IsItem : List Item → ℕ → Type 0
IsItem items n = (k : ℕ) × (x : Item) × (slice_get items k ≡ Some x) × (x.number ≡ n)

-- each number is one of so many records
abbrev pub AreLow : ℕ → List Item → Type 0
AreLow n items = (k : ℕ) (x : Item) → slice_get items k ≡ Some x → (0 < x.number) × (x.number ≤ n) × (x.above ≤ n) × (x.below ≤ n)

-- how many are true
abbrev pub trues : List Bool → ℕ
trues [] = 0
trues (true ∷ marks) = 1 + trues marks
trues (false ∷ marks) = trues marks

-- a mark for each record that was reached
pub record Marked (items : List Item) (marks : List Bool) : Type 0 where
  pub same : (i : ℕ) → i < length marks → (slice_get marks i ≡ Some true) ↔ IsItem items (suc i)
  pub count : trues marks ≡ length items
  pub low : AreLow (length marks) items

-- a link that names this place was followed: it names none, or a record that was not reached before and is now, which hangs as told
abbrev pub Follows : List Fact → ℕ → Item → List Item → List Item → Type 0
Follows facts p from old new =
    ((p ≡ 0) × (new ≡ old))
    ⊎ ((m : ℕ) × (0 < m) × (m ≤ length facts) × (spot facts m ≡ p) × (new ≡ old ++ numbered from m ∷ []) × (IsItem old m → ⊥))

-- it can't be: it names what is no record, or one that was reached before
abbrev pub Stops : List Fact → ℕ → List Item → Type 0
Stops facts p items = (Ascend facts → Names facts p → ⊥) ⊎ ((m : ℕ) × (0 < m) × (m ≤ length facts) × (spot facts m ≡ p) × IsItem items m)

-- the facts are those of the records, with the places that their chains name, as far as a number of 64 bits tells them
pub record AreRead (links : Links) (records : Records) (facts : List Fact) : Type 0 where
  pub ascend : Ascend facts
  pub to : (i : ℕ) (x : Fact) → slice_get facts i ≡ Some x → IsRecord records x.place
  pub from : (p : ℕ) → IsRecord records p → IsListedAt facts p
  pub some : (p : ℕ) → IsRecord records p → 0 < p
  pub few : (p : ℕ) → IsRecord records p → p < 2 ^ 64 - 1
  pub lefts : (i : ℕ) (x : Fact) → slice_get facts i ≡ Some x → x.left ≡ capped (links (Left x.place))
  pub rights : (i : ℕ) (x : Fact) → slice_get facts i ≡ Some x → x.right ≡ capped (links (Right x.place))

-- the facts are those of the records, and their chains are the links; each link names a record or none
pub record Fit (links : Links) (records : Records) (n : ℕ) (facts : List Fact) : Type 0 where
  pub ascend : Ascend facts
  pub to : (i : ℕ) (x : Fact) → slice_get facts i ≡ Some x → IsRecord records x.place
  pub from : (p : ℕ) → IsRecord records p → IsListedAt facts p
  pub some : (p : ℕ) → IsRecord records p → 0 < p
  pub names : NamesRecords links records n
  pub lefts : (i : ℕ) (x : Fact) → slice_get facts i ≡ Some x → links (Left x.place) ≡ x.left
  pub rights : (i : ℕ) (x : Fact) → slice_get facts i ≡ Some x → links (Right x.place) ≡ x.right

-- all entries and chains were followed
pub record IsAllReached (links : Links) (records : Records) (n : ℕ) (items : List Reached) : Type 0 where
  pub done : ℕ
  pub all : 2 * length items ≤ done
  pub is : Reach links records n items n done

-- and each record was reached
pub record IsWholeReach (links : Links) (records : Records) (n : ℕ) (items : List Reached) : Type 0 where
  pub is : IsAllReached links records n items
  pub whole : (p : ℕ) → IsRecord records p → IsIn items p

-- each link names a record or none, and the buckets reach each record
pub record AllReached (links : Links) (records : Records) (n : ℕ) (items : List Reached) : Type 0 where
  pub names : NamesRecords links records n
  pub whole : IsWholeReach links records n items

-- that isn't so, of links that name a record or none
abbrev pub IsNotOnce : Links → Records → ℕ → Type 0
IsNotOnce links records n = NamesRecords links records n → ReachedOnce links records n → ⊥

-- what the fact of an item says: it is in its key's bucket, and has its key's second hash
abbrev pub IsHomeBy : List Fact → Item → Type 0
IsHomeBy facts x = (i : ℕ) (f : Fact) → x.number ≡ suc i → slice_get facts i ≡ Some f → (f.bucket ≡ x.bucket) × (f.hash ≡ f.second)

-- it was added to those reached, behind others, among which it is none
abbrev pub AddsFresh : List Item → List Bool → List Item → Item → Type 0
AddsFresh old was new item = (new ≡ old ++ item ∷ []) × ((before : List Item) → Marked (before ++ old) was → IsItem (before ++ old) item.number → ⊥)

-- it was reached before
abbrev pub WasReached : List Item → List Bool → Item → Type 0
WasReached old was item = (before : List Item) → Marked (before ++ old) was → IsItem (before ++ old) item.number

-- all marks are set, or one isn't
abbrev pub AllSet : List Bool → Type 0
AllSet marks = (i : ℕ) → i < length marks → slice_get marks i ≡ Some true

abbrev pub HasUnset : List Bool → Type 0
HasUnset marks = (i : ℕ) × (i < length marks) × (slice_get marks i ≡ Some false)

-- the numbers of an item, which was reached, are those of records
abbrev pub IsLow : ℕ → Item → Type 0
IsLow n x = (0 < x.number) × (x.number ≤ n) × (x.above ≤ n) × (x.below ≤ n)
