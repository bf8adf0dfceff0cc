-- The next key of a walk.
use Rattle.std.specs.Prelude.{◌≡◌, ◌+◌, ◌<◌, ℕ, List, [], length, drop, slice_index_or, Some, option_map}
use Rattle.tc_model.specs.Contents.{Contents, Walk}
use Rattle.tc_model.specs.Walks.{HasKeys}
use Rattle.tc_model.specs.Apply.{next_in, next_of}

-- the first of some keys that is held stands at a place
pub record IsAt (c : Contents) (keys : List (List ℕ)) (i : ℕ) : Type 0 where
  pub inside : i < length keys
  pub next : next_of c keys ≡ Some (slice_index_or keys i [], drop (i + 1) keys)

-- the next key of a walk is this, and with it so many are left behind
pub record IsNext (c : Contents) (w : Walk) (n : ℕ) (key : List ℕ) : Type 0 where
  pub rest : List (List ℕ)
  pub next : next_in c w ≡ Some (key, rest)
  pub left : option_map (drop n) w ≡ Some rest
  pub there : HasKeys n w
