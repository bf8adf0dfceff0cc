-- The engine of a database.
use Rattle.ty_answers.specs.declared.database.Database.{Database}

abbrev pub engine_of : {E : Type 0} → Database E → E
engine_of b = b.engine
