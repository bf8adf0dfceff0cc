-- Entries of buckets renamed, behind what a stream has.
use Rattle.std.specs.Prelude.{◌≡◌, ℕ, ◌+◌, ◌*◌, ◌≤◌, List, drop, length}
use Rattle.tc_space.specs.declared.space.Space.{Ghosts}
use Rattle.hf_head.specs.declared.head.Head.{Head}
use Rattle.hf_tree.specs.Links.{width}
use Rattle.hf_pack.specs.declared.stream.Stream.{Stream}
use Rattle.hf_pack.specs.Moving.{AllFit, Places, entries_as, renamed_in}
use Rattle.hf_pack.specs.Streams.{Pushed, end_of}

-- so many numbers of a width, from a place of a file on, were pushed as others, which fit into that width
pub record PushedAs (f : ℕ → ℕ) (w n at : ℕ) (s s' : Stream) (old new : List ℕ) : Type 0 where
  pub pushed : Pushed s s' old new (entries_as f w n (drop at old))
  pub fit : AllFit f w n (drop at old)

-- all entries of buckets are in a file, and a stream stands in front of them
pub record StandsAtEntries (h : Head) (t : Stream) (bytes : List ℕ) : Type 0 where
  pub starts : end_of t ≡ 256
  pub inside : 256 + width h * h.buckets ≤ length bytes

-- so many of them from a place on were pushed under new names, where they are told
abbrev pub PushedNew : {S : Type 0} → Ghosts S → Head → Places → ℕ → ℕ → ℕ → Stream → Stream → S → S → Type 0
PushedNew s h places file at count t t' old new = s.tells → PushedAs (renamed_in h places) (width h) count at t t' (s.now old file) (s.now new file)
