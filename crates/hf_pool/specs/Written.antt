-- What is added to bytes as the section is written.
use Rattle.std.specs.Prelude.{◌≡◌, ℕ, ◌+◌, ◌≤◌, List, ◌++◌, length}
use Rattle.hf_pool.specs.declared.pool.Pool.{Pool}
use Rattle.hf_pool.specs.Pools.{frees}
use Rattle.hf_pool.specs.Sections.{InOrder, pairs, section_bytes}

-- the pairs that fit into so many bytes
abbrev pub pairs_of : Pool → ℕ → List ℕ
pairs_of pool len = pairs pool.unit 0 len pool.index.by_place.entries

-- they were added, and so many bytes are left
abbrev pub AddsPairs : Pool → ℕ → List ℕ → List ℕ → ℕ → Type 0
AddsPairs pool len old new room = (new ≡ old ++ pairs_of pool len) × (room + length (pairs_of pool len) ≡ len)

-- a section of so many bytes was added
abbrev pub AddsSection : Pool → ℕ → List ℕ → List ℕ → Type 0
AddsSection pool len old new = (blocks : List (ℕ × ℕ)) × InOrder (frees pool) blocks × (new ≡ old ++ section_bytes pool.unit len blocks)

-- the pairs of such a section were added, without the zeros behind them
abbrev pub AddsBlocks : Pool → ℕ → List ℕ → List ℕ → Type 0
AddsBlocks pool len old new = (blocks : List (ℕ × ℕ)) × InOrder (frees pool) blocks × (new ≡ old ++ pairs pool.unit 0 len blocks) × (length (pairs pool.unit 0 len blocks) ≤ len)
