-- What the heads of all types have in common.
use Rattle.std.specs.Prelude.{◌≡◌, ℕ, List, take, codes}
use Rattle.tc_base.specs.Endian.{le_number, field}
use Rattle.hf_head.specs.declared.errors.HeadErr.{HeadErr}
use Rattle.hf_head.specs.declared.errors.HeadErr.TheVariants.{Magic, Class, Power, Opts, Numbers}

abbrev pub magic : List ℕ
magic = codes "ToKyO CaBiNeT"

abbrev pub HasMagic : List ℕ → Type 0
HasMagic bytes = take 13 bytes ≡ magic

-- the number in a field of that many bytes at a place
abbrev pub number_at : ℕ → ℕ → List ℕ → ℕ
number_at at width bytes = le_number (field at width bytes)

-- which of five demands is the first that isn't met
abbrev pub IsFirst : Type 0 → Type 0 → Type 0 → Type 0 → Type 0 → HeadErr → Type 0
IsFirst M C P O N Magic = ¬ M
IsFirst M C P O N Class = M × ¬ C
IsFirst M C P O N Power = M × C × ¬ P
IsFirst M C P O N Opts = M × C × P × ¬ O
IsFirst M C P O N Numbers = M × C × P × O × ¬ N
