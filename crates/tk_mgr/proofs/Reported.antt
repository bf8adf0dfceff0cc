-- What a drill asks for in the end, and its text.
use Rattle.std.proofs.Common.{◌≡◌, ℕ, true, List, sym, ap, subst, ◌∙◌, arith}
use Rattle.tc_base.specs.Files.{Files}
use Rattle.tc_base.specs.declared.kind.Kind.{Kind}
use Rattle.tc_base.specs.declared.request.Request.TheVariants.{Stat}
use Rattle.tc_space.specs.declared.space.Space as space
use Rattle.tc_model.specs.Contents.{Contents, kind_of}
use Rattle.ty_base.specs.Holding.{Held, IsReady}
use Rattle.tk_mgr.specs.Asking.{IsTold, Looks}
use Rattle.tk_mgr.specs.Drilling.{Makes, Tells}
use Rattle.tk_mgr.specs.Drills.{Drilled, drilled, summary}
use Rattle.tk_mgr.specs.declared.run.Run.{Run}
use Rattle.tk_mgr.proofs.Ends.{ready_looks}

module _ {S B : Type 0} (s : space.Ghosts S) (holds : B → Files → Contents → Type 0) where
  -- what was asked for is what the text needs
  pub report_tells : (kind : Kind) (run : Run) (base : B) (old : S) (reply text : List ℕ) → ((files : Files) (c : Contents) → holds base files c → kind ≡ kind_of c) → ((c : Contents) → Held s holds base old c → IsTold Stat true c reply)
      → ((d : Drilled) → run.accepted ≡ d.accepted → kind ≡ kind_of d.contents → IsTold Stat true d.contents reply → text ≡ summary run.made d) → Tells s holds run run.made base old text
  report_tells kind run base old reply text is_kind told is = record {
    each = λ seed m h. let d = drilled run.made seed m.contents in is d h.counts.accepted (is_kind (s.now old) d.contents h.has.held.1) (told d.contents h.has.held);
  }

  -- nothing was changed by it
  pub report_makes : (run run' : Run) (base base' : B) (old new : S) → run'.made ≡ run.made → run'.drawn ≡ run.drawn → run'.accepted ≡ run.accepted → IsReady s holds base old → Looks s holds base base' old new → Makes s holds 0 run run' base base' old new
  report_makes run run' base base' old new made drew accepted ready looks = record {
    made = omega (arith, made);
    ready = ready_looks s holds base base' old new ready looks;
    each = λ seed m h. record {
      counts = record {
        drawn = drew ∙ h.counts.drawn ∙ sym (ap (λ (n : ℕ). (drilled n seed m.contents).drawn_last) made);
        accepted = accepted ∙ h.counts.accepted ∙ sym (ap (λ (n : ℕ). (drilled n seed m.contents).accepted) made);
      };
      has = record {
        held = subst (λ (c : Contents). Held s holds base' new c) (sym (ap (λ (n : ℕ). (drilled n seed m.contents).contents) made)) (looks.held (drilled run.made seed m.contents).contents h.has.held);
        log = looks.files h.has.held.0 2 ∙ h.has.log;
      };
    };
  }
