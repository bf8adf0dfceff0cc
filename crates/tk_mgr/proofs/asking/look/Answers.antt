use Rattle.std.proofs.Common.{rules}
use Rattle.tk_mgr.proofs.Ends.{asked_looks, idle_writes_none}
use Rattle.tk_mgr.proofs.asking.look.Goals as goal

pub returns-clause-looks : goal.returns-clause-looks
returns-clause-looks g c = asked_looks g.B.S.Space g.B.Storage.holds c.args.request c.in_ok-applied.applied _ _ _ _ _ c.requires.idle c.requires.ready c.in_ok-applied.ensures.keeps c.in_ok-applied.ensures.leaves c.in_ok-applied.ensures.answers

pub returns-clause-told : goal.returns-clause-told
returns-clause-told g c = λ d h. let w = c.in_ok-applied.ensures.answers d h in record { bytes = w.bytes; ok = w.ok }

pub returns-in_err-applied-clause-not_full : goal.returns-in_err-applied-clause-not_full
returns-in_err-applied-clause-not_full g c = λ is. idle_writes_none c.args.request c.requires.idle (c.in_err-applied.ensures.full (search (rules, is))).writes
