-- What `take` answers.
use Rattle.std.specs.Prelude.{◌≡◌, ◌≤◌, ℕ, List, length, drop, Ok, Err}
use Rattle.tc_base.specs.declared.request.Request.{Request}
use Rattle.tc_base.specs.declared.fields.NotWhole.TheVariants as not_whole
use Rattle.ty_wire.specs.declared.reading.Front.{Front}
use Rattle.ty_wire.specs.declared.reading.Front.TheVariants.{Whole, Part, Bad}
use Rattle.ty_wire.specs.Prefixes.{IsPrefix, IsPart}
use Rattle.ty_wire.specs.Spelling.{spelling, Fits}
use Rattle.ty_wire.specs.Reading.{request_at}

-- by the spellings alone
abbrev pub Takes : List ℕ → Front → Type 0
Takes bytes (Whole n) = (r : Request) × Fits r × (length (spelling r) ≡ n) × IsPrefix (spelling r) bytes
Takes bytes Part = (r : Request) × Fits r × IsPart bytes (spelling r)
Takes bytes Bad = (r : Request) → Fits r → (IsPrefix (spelling r) bytes → ⊥) × (IsPart bytes (spelling r) → ⊥)

-- at most one request stands at the front: no spelling is a prefix of another
abbrev pub HasOneAtMost : List ℕ → Type 0
HasOneAtMost bytes = (r s : Request) → Fits r → Fits s → IsPrefix (spelling r) bytes → IsPrefix (spelling s) bytes → r ≡ s

-- the same, as reading from left to right says
abbrev pub IsRead : List ℕ → Front → Type 0
IsRead bytes (Whole n) = (r : Request) × (n ≤ length bytes) × (request_at bytes ≡ Ok (r, drop n bytes))
IsRead bytes Part = request_at bytes ≡ Err not_whole.Part
IsRead bytes Bad = request_at bytes ≡ Err not_whole.Bad
