use Rattle.std.proofs.Common.{◌≡◌, ◌∙◌, true, false, ap, sym}
use Rattle.std.specs.Prelude.{option_map}
use Rattle.tc_engine.specs.Rows.{adds_nothing}
use Rattle.tc_model.specs.Rows.{texts_of}
use Rattle.tc_tabledb.proofs.reading.add_row.Goals as goal

pub returns-in_default-clause-added : goal.returns-in_default-clause-added
returns-in_default-clause-added g c = λ rows h. record {
  there = λ found. absurd (let bad : false ≡ true = found in cc);
  none = λ not. (sym (ap (option_map texts_of) (sym c.in_default.is ∙ c.in_ok-row.ensures.value rows h)), adds_nothing c.args.into.now);
}

pub returns-clause-added : goal.returns-clause-added
returns-clause-added g c = λ rows h. record {
  there = λ found. (texts_of c.in-Some.row, sym (ap (option_map texts_of) (sym c.in-Some.is ∙ c.in_ok-row.ensures.value rows h)), c.in_ok-add_columns.ensures.added);
  none = λ not. absurd (let bad : true ≡ false = not in cc);
}
