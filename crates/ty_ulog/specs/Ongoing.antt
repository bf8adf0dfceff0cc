-- A request of which not all bytes are there.
use Rattle.std.specs.Prelude.{◌≡◌, ℕ, List, Err}
use Rattle.tc_base.specs.declared.fields.NotWhole.TheVariants as not_whole
use Rattle.ty_wire.specs.Reading.{request_at}

-- bytes aren't a part of a request, by which more bytes could make one
abbrev pub IsNoPart : List ℕ → Type 0
IsNoPart bytes = request_at bytes ≡ Err not_whole.Part → ⊥
