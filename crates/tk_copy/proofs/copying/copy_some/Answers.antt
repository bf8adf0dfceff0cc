use Rattle.std.proofs.Common.{◌∙◌, ap, subst}
use Rattle.tc_io.specs.Copies.{Named, copy_of}
use Rattle.tc_io.specs.Images.{Calls, now}
use Rattle.tk_copy.specs.Copying.{StaysSpoiled}
use Rattle.tk_copy.proofs.Spoiled.{stays_lost, stays_made, stays_same}
use Rattle.tk_copy.proofs.Steps.{grows, now_written}
use Rattle.tk_copy.proofs.copying.copy_some.Goals as goal

pub returns-in_err-read-clause-spoiled : goal.returns-in_err-read-clause-spoiled
returns-in_err-read-clause-spoiled g c = λ t. stays_same _ _ (ap (λ (n : Named). copy_of n) c.read.ensures.names)

pub returns-in_err-copy_write-clause-spoiled : goal.returns-in_err-copy_write-clause-spoiled
returns-in_err-copy_write-clause-spoiled g c = λ t.
    subst (λ (d : Calls). StaysSpoiled d (copy_of (g.V.Volume.names c.copy_write.new.self))) (ap (λ (n : Named). copy_of n) c.read.ensures.names)
    (stays_lost _ _ c.args.file c.requires.file.1 _ (c.in_err-copy_write.ensures.lost t))

pub returns-clause-so_far : goal.returns-clause-so_far
returns-clause-so_far g c = λ t.
    let same = ap (λ (n : Named). copy_of n) c.read.ensures.names in
    let whole = now (g.V.Volume.calls c.args.vol.now) c.args.file in
    now_written _ _ c.args.file c.args.at _ (c.in_ok-copy_write.ensures.made t) ∙ grows whole _ _ c.args.at _ (ap (λ (d : Calls). now d c.args.file) same ∙ c.requires.so_far t) (c.in_ok-read.ensures.bytes t) (c.requires.inside t)

pub returns-clause-spoiled : goal.returns-clause-spoiled
returns-clause-spoiled g c = λ t.
    subst (λ (d : Calls). StaysSpoiled d (copy_of (g.V.Volume.names c.copy_write.new.self))) (ap (λ (n : Named). copy_of n) c.read.ensures.names)
    (stays_made _ _ c.args.file c.requires.file.1 _ (c.in_ok-copy_write.ensures.made t))
