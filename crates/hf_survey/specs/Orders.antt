-- Records compared by their keys in the file.
use Rattle.std.specs.Prelude.{◌≡◌, ◌≢◌, ◌⊎◌, ◌+◌, ◌<◌, ◌≤◌, ℕ, suc, List, ◌++◌, length, take, drop, Some, slice_get}
use Rattle.std.specs.declared.cmp.Ordering.{Ordering}
use Rattle.std.specs.declared.cmp.Ordering.TheVariants.{Less, Greater}
use Rattle.std.specs.Ordering.{nat_cmp}
use Rattle.std.specs.Cmp.Lexicographic.{slice_cmp}
use Rattle.tc_base.specs.declared.kind.Rule.{Rule}
use Rattle.hf_head.specs.declared.head.Head.{Head}
use Rattle.hf_tree.specs.Keys.{key_cmp}
use Rattle.hf_tree.specs.Rules.{rule_l}
use Rattle.hf_survey.specs.declared.facts.Fact.{Fact}
use Rattle.hf_survey.specs.declared.reaching.Item.{Item}
use Rattle.hf_survey.specs.declared.judging.Verdict.{Verdict}
use Rattle.hf_survey.specs.declared.judging.Verdict.TheVariants.{InOrder, Stray, Mixed}
use Rattle.hf_survey.specs.Facts.{IsFactOf, front_of}
use Rattle.hf_survey.specs.Reaching.{IsHomeBy}

-- each fact is that of a record in the file
abbrev pub AreTrue : Head → List Fact → List ℕ → Type 0
AreTrue h facts file = (i : ℕ) (x : Fact) → slice_get facts i ≡ Some x → IsFactOf h x file

-- the key that a fact speaks of
abbrev pub key_in : Fact → List ℕ → List ℕ
key_in x file = take x.long (drop (x.place + x.ahead) file)

-- that key lies in the file, and has the fact's front
pub record HasKey (x : Fact) (file : List ℕ) : Type 0 where
  pub inside : x.place + x.ahead + x.long ≤ length file
  pub is : x.front ≡ front_of (key_in x file)

-- a record's key compares so with that of the one with a number, if there is one
abbrev pub ComparesBy : List Fact → Fact → ℕ → Ordering → List ℕ → Type 0
ComparesBy facts a number wanted file = (j : ℕ) (b : Fact) → number ≡ suc j → slice_get facts j ≡ Some b → key_cmp (key_in a file) (key_in b file) ≡ wanted

-- what was reached is above what it hangs left of, and below what it hangs right of
abbrev pub IsBetweenBy : List Fact → Item → List ℕ → Type 0
IsBetweenBy facts x file = (i : ℕ) (a : Fact) → x.number ≡ suc i → slice_get facts i ≡ Some a → ComparesBy facts a x.above Greater file × ComparesBy facts a x.below Less file

-- one that was reached isn't at home
abbrev pub HasStray : List Fact → List Item → Type 0
HasStray facts items = (k : ℕ) × (x : Item) × (slice_get items k ≡ Some x) × (IsHomeBy facts x → ⊥)

-- one isn't between those that it hangs left of and right of
abbrev pub HasMixed : List Fact → List Item → List ℕ → Type 0
HasMixed facts items file = (k : ℕ) × (x : Item) × (slice_get items k ≡ Some x) × (IsBetweenBy facts x file → ⊥)

-- what was found of so many of the records that were reached, in a file that may be told
pub record Judged (tells : Type 0) (facts : List Fact) (items : List Item) (count : ℕ) (file : List ℕ) (v : Verdict) : Type 0 where
  pub home : v ≢ Stray → (k : ℕ) (x : Item) → k < count → slice_get items k ≡ Some x → IsHomeBy facts x
  pub stray : v ≡ Stray → HasStray facts items
  pub between : v ≡ InOrder → tells → (k : ℕ) (x : Item) → k < count → slice_get items k ≡ Some x → IsBetweenBy facts x file
  pub mixed : v ≡ Mixed → tells → HasMixed facts items file

-- a rule that doesn't hold by what was found of so many records, of which the head says how many there are
abbrev pub Refutes : Verdict → ℕ → ℕ → Rule → Type 0
Refutes v count records rule = ((v ≡ Stray) × (rule ≡ rule_l 6)) ⊎ ((v ≡ Mixed) × (rule ≡ rule_l 7)) ⊎ ((v ≡ InOrder) × (count ≢ records) × (rule ≡ rule_l 8))

-- ---- in one file

-- the order of so many bytes from a place on and as many from another
abbrev pub order_of_parts : ℕ → ℕ → ℕ → List ℕ → Ordering
order_of_parts count a b file = slice_cmp nat_cmp (take count (drop a file)) (take count (drop b file))

-- the order of the keys of two facts, byte by byte, and as keys are ordered
abbrev pub bytewise : Fact → Fact → List ℕ → Ordering
bytewise a b file = slice_cmp nat_cmp (key_in a file) (key_in b file)

abbrev pub keywise : Fact → Fact → List ℕ → Ordering
keywise a b file = key_cmp (key_in a file) (key_in b file)

-- each of these is at home,
abbrev pub AllHome : List Fact → List Item → Type 0
AllHome facts items = (k : ℕ) (x : Item) → slice_get items k ≡ Some x → IsHomeBy facts x

-- or between those that it hangs left of and right of
abbrev pub AllBetween : List Fact → List Item → List ℕ → Type 0
AllBetween facts items file = (k : ℕ) (x : Item) → slice_get items k ≡ Some x → IsBetweenBy facts x file

-- what was found of others, and of these behind them
abbrev pub JudgedOn : Type 0 → List Fact → List Item → List ℕ → Verdict → Verdict → Type 0
JudgedOn tells facts items file before v = (others : List Item) → Judged tells facts others (length others) file before → Judged tells facts (others ++ items) (length (others ++ items)) file v
