use Rattle.std.proofs.Common.{ap, subst, append_assoc, ℕ, List, ◌++◌, ◌∙◌}
use Rattle.tc_base.specs.Files.{Files}
use Rattle.tk_mgr.specs.Tasks.{told_of}
use Rattle.tk_mgr.proofs.Ends.{settled_looks}
use Rattle.tk_mgr.proofs.informing.inspect.Goals as goal

pub inform-requires-clause-settled : goal.inform-requires-clause-settled
inform-requires-clause-settled g c = settled_looks g.B.S.Space g.B.Storage.holds g.B.Storage.reopens _ c.add_contents.new.base _ c.add_contents.new.space c.requires.may c.in_ok-add_contents.ensures.looks

pub returns-clause-told : goal.returns-clause-told
returns-clause-told g c = λ d h.
    let x = c.in_ok-inform.ensures.told h.0 in
    record {
      tail = x.0;
      of_files = subst (λ (files : Files). g.B.Storage.lines files x.0) (λ i f. c.in_ok-add_contents.ensures.looks.files h.0 f i) x.1;
      text = x.2 ∙ ap (λ (l : List ℕ). l ++ x.0) (c.in_ok-add_contents.ensures.told d h) ∙ append_assoc c.args.text.now (told_of d) x.0;
    }
