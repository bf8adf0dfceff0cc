-- What the head of a record says.
use Rattle.std.specs.Prelude.{◌≡◌, ◌⊎◌, ℕ, ◌+◌, ◌*◌, ◌-◌, ◌^◌, ◌<◌, ◌≤◌, Bool, List, ◌++◌, length, take, drop, min}
use Rattle.std.specs.declared.cmp.Ordering.{Ordering}
use Rattle.std.specs.Ordering.{nat_cmp}
use Rattle.std.specs.Cmp.Lexicographic.{slice_cmp}
use Rattle.tc_base.specs.Hashes.{second}
use Rattle.tc_base.specs.Vnum.{vnum}
use Rattle.hf_head.specs.declared.head.Head.{Head}
use Rattle.hf_head.specs.Heads.{unit, wide}
use Rattle.hf_block.specs.declared.block.Block.{Block}
use Rattle.hf_block.specs.declared.block.Block.TheVariants.{Rec}
use Rattle.hf_block.specs.Pieces.{IsWhole, Record, held, spell}
use Rattle.hf_tree.specs.Keys.{key_cmp}
use Rattle.hf_tree.specs.Links.{IsAt, width}
use Rattle.hf_chain.specs.declared.heads.RecHead.{RecHead}

-- the bytes before the key
abbrev pub head_size : Record → ℕ
head_size r = 4 + 2 * r.wide + length (vnum (length r.key)) + length (vnum (length r.value))

abbrev pub head_of : Record → RecHead
head_of r = record { hash = r.hash; left = r.left; right = r.right; pad = length r.pad; key = length r.key; value = length r.value; head = head_size r }

-- the block with that head
abbrev pub head_block : RecHead → Block
head_block x = Rec x.hash x.left x.right x.pad x.key x.value x.head

-- a record with chains of the file's width stands there
pub record HasRecord (h : Head) (r : Record) (at : ℕ) (bytes : List ℕ) : Type 0 where
  pub is : IsAt (unit h) r at bytes
  pub wide : r.wide ≡ width h

-- some record stands there
pub record IsRecordAt (h : Head) (at : ℕ) (bytes : List ℕ) : Type 0 where
  pub r : Record
  pub has : HasRecord h r at bytes

-- a record with this head stands there
pub record IsHeadAt (h : Head) (rec : RecHead) (at : ℕ) (bytes : List ℕ) : Type 0 where
  pub r : Record
  pub has : HasRecord h r at bytes
  pub head : rec ≡ head_of r

-- a number of 64 bits at most
abbrev pub capped : ℕ → ℕ
capped n = min n (2 ^ 64 - 1)

-- its head and key are as short as those of every record
abbrev pub IsInBounds : Record → Type 0
IsInBounds r = (head_size r ≤ 40) × (length r.key < 2 ^ 32)

-- it is the head of whatever record stands there
abbrev pub IsHeadOf : Head → ℕ → List ℕ → RecHead → Type 0
IsHeadOf h at bytes x = (r : Record) → HasRecord h r at bytes → x ≡ head_of r

-- it is the head of whatever record these bytes are the front of, where they are all of it, or 40 at least
abbrev pub IsHeadIn : Bool → List ℕ → RecHead → Type 0
IsHeadIn large front x =
    (u : ℕ) (r : Record) (more : List ℕ) → r.wide ≡ wide large → IsWhole u (held r) → front ≡ take (length front) (spell (held r) ++ more) → (length front ≡ length (spell (held r) ++ more)) ⊎ (40 ≤ length front)
    → x ≡ head_of r

-- the order of a key and that of the record with this head, which stands there
abbrev pub IsOrder : Head → RecHead → ℕ → List ℕ → List ℕ → Ordering → Type 0
IsOrder h rec at key bytes order = (r : Record) → HasRecord h r at bytes → rec ≡ head_of r → r.hash ≡ second r.key → order ≡ key_cmp key r.key

-- the order of bytes and as many of a file
abbrev pub order_at : List ℕ → ℕ → List ℕ → Ordering
order_at key at bytes = slice_cmp nat_cmp key (take (length key) (drop at bytes))
