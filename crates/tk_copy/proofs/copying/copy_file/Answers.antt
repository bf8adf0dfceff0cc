use Rattle.std.proofs.Common.{◌∙◌, ap}
use Rattle.tc_io.specs.Copies.{copy_of}
use Rattle.tc_io.specs.Images.{Calls, now}
use Rattle.tk_copy.proofs.Spoiled.{stays_lost, stays_lost_sync, stays_made, stays_then}
use Rattle.tk_copy.proofs.Steps.{file_copied, now_cut}
use Rattle.tk_copy.proofs.copying.copy_file.Goals as goal

pub returns-in_err-copy_cut-clause-spoiled : goal.returns-in_err-copy_cut-clause-spoiled
returns-in_err-copy_cut-clause-spoiled g c = λ t. stays_lost _ _ c.args.file c.requires.file.1 _ (c.in_err-copy_cut.ensures.lost t)

pub copy_bytes-requires-clause-empty : goal.copy_bytes-requires-clause-empty
copy_bytes-requires-clause-empty g c = λ t. now_cut _ _ c.args.file (c.in_ok-copy_cut.ensures.made t)

pub returns-in_err-copy_bytes-clause-spoiled : goal.returns-in_err-copy_bytes-clause-spoiled
returns-in_err-copy_bytes-clause-spoiled g c = λ t. stays_then _ (copy_of (g.V.Volume.names c.copy_cut.new.self)) _ (stays_made _ _ c.args.file c.requires.file.1 _ (c.in_ok-copy_cut.ensures.made t)) (c.copy_bytes.ensures.spoiled t)

pub returns-in_err-copy_sync-clause-spoiled : goal.returns-in_err-copy_sync-clause-spoiled
returns-in_err-copy_sync-clause-spoiled g c = λ t.
    let v = g.V.Volume in
    let here = copy_of (v.names c.copy_bytes.new.vol) in
    stays_then _ here _ (stays_then _ (copy_of (v.names c.copy_cut.new.self)) here (stays_made _ _ c.args.file c.requires.file.1 _ (c.in_ok-copy_cut.ensures.made t)) (c.copy_bytes.ensures.spoiled t)) (stays_lost_sync here _ c.args.file c.requires.file.1 (c.in_err-copy_sync.ensures.lost t))

pub returns-clause-spoiled : goal.returns-clause-spoiled
returns-clause-spoiled g c = λ t.
    let v = g.V.Volume in
    let here = copy_of (v.names c.copy_bytes.new.vol) in
    stays_then _ here _ (stays_then _ (copy_of (v.names c.copy_cut.new.self)) here (stays_made _ _ c.args.file c.requires.file.1 _ (c.in_ok-copy_cut.ensures.made t)) (c.copy_bytes.ensures.spoiled t)) (stays_made here _ c.args.file c.requires.file.1 _ (c.in_ok-copy_sync.ensures.made t))

pub returns-clause-copied : goal.returns-clause-copied
returns-clause-copied g c = λ t.
    let v = g.V.Volume in
    file_copied (copy_of (v.names c.args.vol.now)) (copy_of (v.names c.copy_cut.new.self)) (copy_of (v.names c.copy_bytes.new.vol)) (copy_of (v.names c.copy_sync.new.self)) c.args.file _
    (c.in_ok-copy_cut.ensures.made t) (c.in_ok-copy_bytes.ensures.others t) (c.in_ok-copy_bytes.ensures.all t ∙ ap (λ (d : Calls). now d c.args.file) (c.copy_cut.ensures.only.files t)) (c.in_ok-copy_sync.ensures.made t)
