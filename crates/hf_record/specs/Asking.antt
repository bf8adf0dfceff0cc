-- What asking for the value of a key costs.
use Rattle.std.specs.Prelude.{ℕ, ◌+◌, List, length, Option, Some, None}
use Rattle.tc_base.specs.Maps.{Map}
use Rattle.tc_space.specs.declared.space.Space.{Ghosts}
use Rattle.hf_chain.specs.Costs.{Paid, Within, step_most}
use Rattle.hf_tree.specs.Keys.{Key, bucket_of}
use Rattle.hf_record.specs.declared.body.Body.{Body}
use Rattle.hf_record.specs.Costs.{in_bucket}
use Rattle.hf_record.specs.Holding.{Has}

-- the bytes that are read of a record that was found, besides those of the steps: its value
abbrev pub value_most : Option (List ℕ) → ℕ
value_most None = 0
value_most (Some value) = length value

-- a key was searched, in at most one step more than there are keys in its bucket, and besides the bytes of these steps at most so many were read
abbrev pub Asked : ℕ → Key → Map → ℕ → ℕ → ℕ → ℕ → ℕ → Type 0
Asked buckets key m more steps steps' read read' = Within (1 + in_bucket buckets (bucket_of buckets key) m) (step_most (length key)) steps steps' (read + more) read'

module _ {S : Type 0} (s : Ghosts S) where
  -- a key was searched, whatever map is held, in at most one step more than there are keys in its bucket
  abbrev pub SearchedBy : Body → Key → ℕ → ℕ → S → S → Type 0
  SearchedBy b key steps steps' old new = (m : Map) → Has b (s.now old b.file) m → Within (1 + in_bucket b.head.buckets (bucket_of b.head.buckets key) m) (step_most (length key)) steps steps' (s.bytes_read old) (s.bytes_read new)

  -- and besides the bytes of these steps at most so many were read
  abbrev pub AskedBy : Body → Key → (Map → ℕ) → ℕ → ℕ → S → S → Type 0
  AskedBy b key more steps steps' old new = (m : Map) → Has b (s.now old b.file) m → Asked b.head.buckets key m (more m) steps steps' (s.bytes_read old) (s.bytes_read new)

  -- no more bytes were read than so many for each step, and so many besides
  abbrev pub PaysFor : Key → ℕ → ℕ → ℕ → S → S → Type 0
  PaysFor key more steps steps' old new = Paid (step_most (length key)) steps steps' (s.bytes_read old + more) (s.bytes_read new)
