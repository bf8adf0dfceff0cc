-- The contents of a list of update records.
use Rattle.std.specs.Prelude.{false, List, fold, None}
use Rattle.tc_base.specs.declared.request.Request.{Request}
use Rattle.tc_model.specs.Contents.{Contents}
use Rattle.tc_model.specs.Apply.{apply}

-- a record's request is applied with no walk
abbrev pub after : Contents → Request → Contents
after c r = (apply false r c None).contents

-- one after the other
unfoldable pub replayed : Contents → List Request → Contents
replayed c rs = fold after c rs
