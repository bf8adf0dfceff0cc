-- What pieces make of the database: one, or those of a round, one after the other.
use Rattle.std.specs.Prelude.{◌||◌, ℕ, Bool, false, List, [], ◌∷◌, ◌++◌, if◌then◌else◌}
use Rattle.tc_model.specs.Contents.{Contents, Walk}

pub record Made : Type 0 where
  pub contents : Contents
  pub walk : Walk
  -- the bytes of the requests that updated, in order
  pub updates : List (List ℕ)
  -- the labels of the copies that are to be made, in order
  pub labels : List (List ℕ)
  -- whether there is anything to commit
  pub commits : Bool

-- nothing was asked for
abbrev pub unmade : Contents → Walk → Made
unmade c w = record { contents = c; walk = w; updates = []; labels = []; commits = false }

-- the one, and what the other makes of that
abbrev pub made_then : Made → Made → Made
made_then a b = record { contents = b.contents; walk = b.walk; updates = a.updates ++ b.updates; labels = a.labels ++ b.labels; commits = a.commits || b.commits }

-- this one where a test holds, or none
abbrev pub only : Bool → List ℕ → List (List ℕ)
only holds x = if holds then x ∷ [] else []
