-- Why the log isn't opened.
use Rattle.std.specs.Prelude.{ℕ}
use Rattle.tc_space.specs.declared.errors.OpenErr.{OpenErr}
use Rattle.tc_space.specs.declared.errors.OpenErr.TheVariants as open_err
use Rattle.ty_ulog.specs.Log.{rule_g}

abbrev pub broken_at : ℕ → OpenErr
broken_at number = open_err.Broken 2 (rule_g number)
