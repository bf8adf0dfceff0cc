use Rattle.std.proofs.Common.{◌≡◌, false, ◌∙◌, sym, ap, cond, Ok, Err}
use Rattle.tc_base.specs.Files.{Files}
use Rattle.tc_io.specs.Images.{now}
use Rattle.ud_log.specs.Undo.{all_short, lens_of, by_log, data_of, Log, rule}
use Rattle.ud_state.proofs.Writing.{lens_are}
use Rattle.tc_undo.proofs.scan.as_they_are.Goals as goal

pub returns-then-not-are_short-clause-broken : goal.returns-then-not-are_short-clause-broken
returns-then-not-are_short-clause-broken g c = λ t.
    let files : Files = now (g.V.Volume.calls c.args.vol.now) in
    let long : all_short (lens_of files) ≡ false = ap all_short (sym (lens_are c.in_ok-lens.lens files (c.in_ok-lens.ensures.lens t))) ∙ sym c.are_short.ensures ∙ c.if-not-are_short.true in
    ap (λ (l : Log). by_log l files) (c.requires.log t) ∙ ap (λ b. cond b (Ok (data_of files)) (Err (rule 5))) long ∙ ap Err (sym c.rule.ensures)
