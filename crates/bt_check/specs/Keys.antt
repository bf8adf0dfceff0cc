-- The keys of a map as a list.
use Rattle.std.specs.Prelude.{◌≡◌, ℕ, ◌<◌, List, [], length, Some}
use Rattle.std.proofs.Common.{get_or}
use Rattle.bt_rows.specs.Pages.{Map}

-- a key at some place of a list
pub record IsAmong (keys : List (List ℕ)) (key : List ℕ) : Type 0 where
  pub place : ℕ
  pub within : place < length keys
  pub is : get_or keys place [] ≡ key

pub record IsHeldKey (m : Map) (key : List ℕ) : Type 0 where
  pub bytes : List ℕ
  pub is : m key ≡ Some bytes

-- these are the keys of a map
pub record IsListed (m : Map) (keys : List (List ℕ)) : Type 0 where
  pub all : (key bytes : List ℕ) → m key ≡ Some bytes → IsAmong keys key
  pub held : (place : ℕ) → place < length keys → IsHeldKey m (get_or keys place [])
