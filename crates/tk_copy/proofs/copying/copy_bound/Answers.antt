use Rattle.std.proofs.Common.{subst}
use Rattle.tc_io.specs.Copies.{copy_of}
use Rattle.tc_io.specs.Images.{Calls, now}
use Rattle.ud_log.specs.Undo.{data_of}
use Rattle.ud_state.specs.Since.{since_then}
use Rattle.tk_copy.specs.Copying.{AreCopied, LeavesCopy}
use Rattle.tk_copy.proofs.Spoiled.{spoiled_at, spoiled_since}
use Rattle.tk_copy.proofs.copying.copy_bound.Goals as goal

pub returns-in_err-spoil-clause-moments : goal.returns-in_err-spoil-clause-moments
returns-in_err-spoil-clause-moments g c = λ t. c.spoil.ensures.copies t (data_of (now (g.V.Volume.calls c.args.vol.now)))

pub returns-in_err-copy_all-clause-moments : goal.returns-in_err-copy_all-clause-moments
returns-in_err-copy_all-clause-moments g c = λ t.
    let v = g.V.Volume in
    let kept = data_of (now (v.calls c.args.vol.now)) in
    let old = copy_of (v.names c.args.vol.now) in
    record { moments = since_then (LeavesCopy kept old) old (copy_of (v.names c.spoil.new.vol)) (copy_of (v.names c.copy_all.new.vol)) (c.spoil.ensures.copies t kept).moments (spoiled_since kept old _ _ (c.in_ok-spoil.ensures.spoiled t) (c.copy_all.ensures.spoiled t)) }

pub returns-in_err-finish-clause-moments : goal.returns-in_err-finish-clause-moments
returns-in_err-finish-clause-moments g c = λ t.
    let v = g.V.Volume in
    let kept = data_of (now (v.calls c.args.vol.now)) in
    let old = copy_of (v.names c.args.vol.now) in
    let first = copy_of (v.names c.spoil.new.vol) in
    let second = copy_of (v.names c.copy_all.new.vol) in
    let there = subst (λ (d : Calls). AreCopied (data_of (now d)) second 18) (c.spoil.ensures.changes.files t) (c.in_ok-copy_all.ensures.copied t) in
    let spoiled = c.in_ok-spoil.ensures.spoiled t in
    let stays = c.copy_all.ensures.spoiled t in
    record {
      moments = since_then (LeavesCopy kept old) old second (copy_of (v.names c.finish.new.vol))
          (since_then (LeavesCopy kept old) old first second (c.spoil.ensures.copies t kept).moments (spoiled_since kept old first second spoiled stays))
          (c.finish.ensures.moments t kept old there (spoiled_at first second spoiled (stays.moments spoiled)));
    }

pub returns-clause-moments : goal.returns-clause-moments
returns-clause-moments g c = λ t.
    let v = g.V.Volume in
    let kept = data_of (now (v.calls c.args.vol.now)) in
    let old = copy_of (v.names c.args.vol.now) in
    let first = copy_of (v.names c.spoil.new.vol) in
    let second = copy_of (v.names c.copy_all.new.vol) in
    let there = subst (λ (d : Calls). AreCopied (data_of (now d)) second 18) (c.spoil.ensures.changes.files t) (c.in_ok-copy_all.ensures.copied t) in
    let spoiled = c.in_ok-spoil.ensures.spoiled t in
    let stays = c.copy_all.ensures.spoiled t in
    record {
      moments = since_then (LeavesCopy kept old) old second (copy_of (v.names c.finish.new.vol))
          (since_then (LeavesCopy kept old) old first second (c.spoil.ensures.copies t kept).moments (spoiled_since kept old first second spoiled stays))
          (c.finish.ensures.moments t kept old there (spoiled_at first second spoiled (stays.moments spoiled)));
    }

pub returns-clause-copied : goal.returns-clause-copied
returns-clause-copied g c = λ t.
    let v = g.V.Volume in
    let second = copy_of (v.names c.copy_all.new.vol) in
    let there = subst (λ (d : Calls). AreCopied (data_of (now d)) second 18) (c.spoil.ensures.changes.files t) (c.in_ok-copy_all.ensures.copied t) in
    c.in_ok-finish.ensures.copied t (data_of (now (v.calls c.args.vol.now))) there
