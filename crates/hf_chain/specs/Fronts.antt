-- The front of a record, as it is read.
use Rattle.std.specs.Prelude.{◌≡◌, ◌⊎◌, ℕ, ◌+◌, ◌^◌, ◌<◌, ◌≤◌, List, length, take, drop}
use Rattle.hf_head.specs.declared.head.Head.{Head}
use Rattle.hf_tree.specs.Links.{width}
use Rattle.hf_chain.specs.declared.heads.RecHead.{RecHead}
use Rattle.hf_chain.specs.Heads.{IsHeadAt, IsRecordAt}

-- so many bytes from a place on are all up to the end of the file, or enough for a record's head
pub record IsEnough (at n : ℕ) (bytes : List ℕ) : Type 0 where
  pub inside : at + n ≤ length bytes
  pub enough : (at + n ≡ length bytes) ⊎ (40 ≤ n)

-- a record stands there, whose front so many bytes are
pub record HasFront (h : Head) (at n : ℕ) (bytes : List ℕ) : Type 0 where
  pub there : IsRecordAt h at bytes
  pub room : IsEnough at n bytes
  pub long : length bytes < 2 ^ 64

-- a record with this head stands there, and its front was read
pub record WasRead (h : Head) (rec : RecHead) (at : ℕ) (front bytes : List ℕ) : Type 0 where
  pub there : IsHeadAt h rec at bytes
  pub is : front ≡ take (length front) (drop at bytes)
  pub long : length bytes < 2 ^ 64

-- chains that fit into the links of a file, and a head that is no longer than any
pub record FitsLinks (h : Head) (rec : RecHead) : Type 0 where
  pub left : rec.left < 256 ^ width h
  pub right : rec.right < 256 ^ width h
  pub small : rec.head ≤ 40
