use Rattle.std.proofs.lemmas.Result.{on_ok_weaker}
use Rattle.ud_log.specs.Undo.{data_of}
use Rattle.tc_io.specs.Copies.{IsCopied}
use Rattle.tc_io.specs.Images.{now}
use Rattle.tc_undo.proofs.LettingGo.{still_copied, still_makes}
use Rattle.tc_undo.proofs.copying.make_copy.Goals as goal

pub returns-clause-makes : goal.returns-clause-makes
returns-clause-makes g c = λ t.
    let v = g.V.Volume in
    still_makes (data_of (now (v.calls c.args.vol.now))) c.args.label.now v.tells (v.names c.args.vol.now) (v.names c.copy_files-copied.new.vol) (v.names c.end_copy.new.self) c.end_copy.ensures.ended t (c.copy_files-copied.ensures.makes t)

pub returns-clause-copied : goal.returns-clause-copied
returns-clause-copied g c =
    let v = g.V.Volume in
    let kept = data_of (now (v.calls c.args.vol.now)) in
    let mid = v.names c.copy_files-copied.new.vol in
    let new = v.names c.end_copy.new.self in
    on_ok_weaker {P = v.tells → IsCopied kept (mid.copies c.args.label.now)} {Q = v.tells → IsCopied kept (new.copies c.args.label.now)} c.copy_files-copied.result
    (λ copied t. still_copied kept c.args.label.now v.tells (v.names c.args.vol.now) mid new c.end_copy.ensures.ended t (copied t))
    c.copy_files-copied.ensures.copied
