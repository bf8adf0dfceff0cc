use Rattle.std.proofs.Common.{◌≡◌, ◌∙◌, ap, sym}
use Rattle.tc_base.specs.Files.{Files}
use Rattle.tc_io.specs.Images.{Images}
use Rattle.ud_log.specs.Undo.{recovered}
use Rattle.ud_state.proofs.laws.may_run_again.Goals as goal

pub returns : goal.returns
returns c = λ stopped next left settled image begins.
    let same : (ims : Files) → Images next ims → recovered ims ≡ recovered left = λ ims are. ap recovered (λ i f. begins.only f (ims f) (are f) i) in (
      record {
        same = λ ims jms are bre log. same ims are ∙ sym (same jms bre);
        whole = λ ims are none. settled.whole left image (sym (same ims are) ∙ none);
      },
      ap recovered (λ i f. begins.reads f i),
    )
