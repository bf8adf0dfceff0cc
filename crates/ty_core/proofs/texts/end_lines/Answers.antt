use Rattle.std.proofs.Common.{◌∙◌, ◌++◌, Bool, List, ℕ, ap, sym}
use Rattle.std.specs.Prelude.{false}
use Rattle.std.proofs.lemmas.Result.{on_err_weaker, on_ok_weaker}
use Rattle.ty_memc.specs.Answers.{server_error}
use Rattle.ty_core.specs.Texts.{ended}
use Rattle.ty_core.proofs.Texting.{front_cut, front_same}
use Rattle.ty_core.proofs.texts.end_lines.Goals as goal

pub returns-then-fits-clause-err : goal.returns-then-fits-clause-err
returns-then-fits-clause-err c = on_err_weaker c.append.result (λ same. front_cut c.args.before c.args.waiting.now _ same) c.append.ensures.err

pub returns-clause-ok : goal.returns-clause-ok
returns-clause-ok c = on_ok_weaker c.write_error.result (λ is. is ∙ (ap (λ (l : List ℕ). l ++ server_error false) c.truncate.ensures ∙ ap (λ (b : Bool). ended b c.args.before c.args.waiting.now) (sym c.if-fits.false))) c.write_error.ensures.ok

pub returns-clause-err : goal.returns-clause-err
returns-clause-err c = on_err_weaker c.write_error.result (λ same. front_same _ _ (same ∙ c.truncate.ensures)) c.write_error.ensures.err
