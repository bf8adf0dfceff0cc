-- What a change that may fail leaves.
use Rattle.std.specs.Prelude.{◌≡◌, Bool, true, false, Option, Some, None, Result, IfOk}
use Rattle.tc_model.specs.Contents.{Contents}
use Rattle.tc_memdb.specs.Holding.{contents_of}
use Rattle.tc_memdb.specs.declared.data.Data.{Data}

-- it was made; or it fails, and nothing has changed
pub record Made (after : Option Contents) (done : Bool) (c d : Contents) : Type 0 where
  pub made : done ≡ true → after ≡ Some d
  pub fails : done ≡ false → after ≡ None
  pub same : done ≡ false → d ≡ c

abbrev pub MadeTo : {E : Type 0} → Result Bool E → (Contents → Option Contents) → Data → Data → Type 0
MadeTo result f old new = IfOk result (λ done. Made (f (contents_of old)) done (contents_of old) (contents_of new))

-- what is held stays
abbrev pub SameData : Data → Data → Type 0
SameData old new = contents_of new ≡ contents_of old
