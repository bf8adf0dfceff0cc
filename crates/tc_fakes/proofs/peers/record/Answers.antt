use Rattle.std.proofs.lemmas.Result.{on_ok_weaker, on_err_weaker}
use Rattle.tc_fakes.proofs.Taken.{grown_at, kept_at, grown_by}
use Rattle.tc_fakes.proofs.peers.record.Goals as goal

pub returns-in-Some-clause-ok : goal.returns-in-Some-clause-ok
returns-in-Some-clause-ok c =
    on_ok_weaker c.extend.result
    (λ e k. grown_at c.args.conn k c.in-Some.i c.deref.result.now c.args.peers.now.items c.index_mut.result.now c.extend.new.peer c.args.bytes.now c.deref.ensures.value c.in-Some.ensures c.index_mut.ensures.value c.extend.ensures.conn e)
    c.extend.ensures.ok

pub returns-in-Some-clause-err : goal.returns-in-Some-clause-err
returns-in-Some-clause-err c =
    on_err_weaker c.extend.result
    (λ e k. kept_at c.args.conn k c.in-Some.i c.deref.result.now c.args.peers.now.items c.index_mut.result.now c.extend.new.peer c.deref.ensures.value c.in-Some.ensures c.index_mut.ensures.value c.extend.ensures.conn e)
    c.extend.ensures.err

pub returns-in-None-clause-ok : goal.returns-in-None-clause-ok
returns-in-None-clause-ok c =
    on_ok_weaker c.add.result
    (λ e k. grown_by c.args.conn k c.deref.result.now c.args.peers.now.items c.add.new.peers.items e.0 c.args.bytes.now c.deref.ensures.value c.in-None.ensures e.1 e.2 e.3)
    c.add.ensures.ok
