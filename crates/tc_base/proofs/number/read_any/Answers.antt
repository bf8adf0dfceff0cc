use Rattle.std.proofs.Common.{◌∙◌, List, ℕ, sym, ap, Ok, Err}
use Rattle.std.proofs.lemmas.List.{take_rest}
use Rattle.tc_base.specs.declared.number.NumErr.{NumErr}
use Rattle.tc_base.specs.declared.number.NumErr.TheVariants.{Second, Wide}
use Rattle.tc_base.proofs.ExactNumbers.{front_ok, front_short, front_bad}
use Rattle.tc_base.proofs.number.read_any.Goals as goal

pub returns-in-Ok : goal.returns-in-Ok
returns-in-Ok c = front_ok c.args.bytes.now c.in-Ok.n c.in-Ok.len (sym c.in-Ok.is ∙ c.scan.ensures.read) ∙ ap (λ (l : List ℕ). Ok (c.in-Ok.n, l)) (sym (take_rest c.args.bytes.now c.in-Ok.len))

pub returns-in-Err-Short : goal.returns-in-Err-Short
returns-in-Err-Short c = front_short c.args.bytes.now (ap (λ (e : NumErr). Err e) (sym c.in-Err-Short.field-0-is) ∙ sym c.in-Err-Short.is ∙ c.scan.ensures.read)

pub returns-in-Err-Second : goal.returns-in-Err-Second
returns-in-Err-Second c = front_bad c.args.bytes.now Second (λ e. cc) (ap (λ (e : NumErr). Err e) (sym c.in-Err-Second.field-0-is) ∙ sym c.in-Err-Second.is ∙ c.scan.ensures.read)

pub returns-in-Err-Wide : goal.returns-in-Err-Wide
returns-in-Err-Wide c = front_bad c.args.bytes.now Wide (λ e. cc) (ap (λ (e : NumErr). Err e) (sym c.in-Err-Wide.field-0-is) ∙ sym c.in-Err-Wide.is ∙ c.scan.ensures.read)
