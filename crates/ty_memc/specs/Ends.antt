-- What ends a value.
use Rattle.std.specs.Prelude.{◌≡◌, ℕ, List, Ok, Err}
use Rattle.std.specs.Borrow.{Bor}
use Rattle.std.specs.Prelude.{Result}
use Rattle.tc_base.specs.declared.fields.NotWhole.{NotWhole}
use Rattle.ty_memc.specs.Reading.{byte_is}

abbrev pub Ends : Result (Unit {0} × Bor (List ℕ)) NotWhole → ℕ → List ℕ → Type 0
Ends (Ok x) byte bytes = byte_is byte bytes ≡ Ok (tt, x.1.now)
Ends (Err e) byte bytes = byte_is byte bytes ≡ Err e
