-- Where the bytes of a key lie.
use Rattle.std.specs.Prelude.{ℕ, List}
use Rattle.tc_base.specs.declared.key.Body.{Body}
use Rattle.tc_base.specs.declared.key.Body.TheVariants.{Short, Long}

abbrev pub of_body : Body → List ℕ
of_body (Short bytes) = bytes
of_body (Long bytes) = bytes
