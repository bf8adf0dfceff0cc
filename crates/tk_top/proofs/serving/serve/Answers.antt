use Rattle.std.proofs.Common.{arith, rules, ◌≡◌, ◌∙◌, true, [], refl, subst, sym}
use Rattle.std.specs.Prelude.{None}
use Rattle.tc_space.specs.Effects.{follows_in_refl, follows_in_then}
use Rattle.ty_base.specs.Holding.{Laid}
use Rattle.ty_rounds.specs.Servers.{state}
use Rattle.ty_rounds.specs.declared.outcome.Outcome.TheVariants.{Shut}
use Rattle.ty_rounds.specs.declared.server.Server.{Server}
use Rattle.tk_top.specs.Causes.{Caused}
use Rattle.tk_top.specs.Ends.{IsEnd}
use Rattle.tk_top.specs.Runs.{Ends, EndsFull}
use Rattle.tk_top.specs.Over.{IsOut}
use Rattle.tk_top.proofs.Causes.{caused_turn, is_end_turn, not_out}
use Rattle.tk_top.proofs.Running.{anew, line_more, line_start, run_failed, run_shut, run_spent, turn_is}
use Rattle.tk_top.proofs.Fresh.{fresh}
use Rattle.tk_top.proofs.serving.serve.Goals as goal

-- it has no connection yet, and begins no walk
begins : {B : Type 0} (a : Server B) → a.peers.items ≡ [] → a.walk ≡ None → a.due ≡ true → state a ≡ anew a.logged
begins a none still due = λ i. record { logged = a.logged; due = due i; walk = still i; peers = none i }

pub loop-done-init : goal.loop-done-init
loop-done-init g c = let s = g.B.S.Space in let w = g.W.Wire in let k = g.E.Sink in record {
  ready = c.requires.ready;
  same = refl;
  told = line_start s w k g.B.Storage.holds g.B.Storage.reopens _ _ _ _ _ _ _ c.requires.ready.base_is.sound (begins c.args.server.now c.requires.peers c.requires.walk c.requires.due);
  laid = λ l. line_start s w k g.B.Storage.holds (Laid g.B.Storage.own g.B.Storage.layout l g.B.Storage.reopens) _ _ _ _ _ _ _ c.requires.ready.base_is.sound (begins c.args.server.now c.requires.peers c.requires.walk c.requires.due);
  later_wire = omega arith;
  follows = follows_in_refl s.faults s.limit (λ x. (s.names x).told) c.args.space.now;
}

pub loop-done-preserved : goal.loop-done-preserved
loop-done-preserved g c = let s = g.B.S.Space in let w = g.W.Wire in let k = g.E.Sink in let i = c.loop-done.invariant in record {
  ready = c.in-Ok.ensures.ready;
  same = c.in-Ok.ensures.same ∙ i.same;
  told = line_more s w k g.B.Storage.holds g.B.Storage.reopens _ _ _ _ _ _ _ _ _ _ _ _ _ _ _ _ _ _ _ c.in-Ok.outcome c.in_default.not-Shut i.same c.in-Ok.ensures.met c.tell_gap.ensures i.told c.in-Ok.ensures.told.turns;
  laid = λ l. line_more s w k g.B.Storage.holds (Laid g.B.Storage.own g.B.Storage.layout l g.B.Storage.reopens) _ _ _ _ _ _ _ _ _ _ _ _ _ _ _ _ _ _ _ c.in-Ok.outcome c.in_default.not-Shut i.same c.in-Ok.ensures.met c.tell_gap.ensures (i.laid l) (c.in-Ok.ensures.laid l).turns;
  later_wire = omega (arith, i.later_wire, c.turn.ensures.later_wire);
  follows = follows_in_then s.faults s.limit (λ x. (s.names x).told) c.args.space.now c.loop-done.space c.turn.new.space i.follows c.turn.ensures.follows;
}

pub returns-in-Shut-clause-told : goal.returns-in-Shut-clause-told
returns-in-Shut-clause-told g c = let s = g.B.S.Space in let w = g.W.Wire in let k = g.E.Sink in let ready = c.in-Ok.ensures.ready in let i = c.loop-done.invariant in record {
  ends = run_shut s w k g.B.Storage.holds g.B.Storage.reopens _ _ _ _ _ _ _ _ _ _ _ _ _ _ _ _ _ _ _ (omega arith) (fresh g.B.S.Space c.turn.new.space g.met.B.S.Space.only_kept g.met.B.S.Space.clean ready.base_is.sound ready.untouched)
      i.same c.in-Ok.ensures.same i.ready.wired i.told.run i.told.lines (turn_is s w k g.B.Storage.holds g.B.Storage.reopens _ _ _ _ _ _ _ _ _ _ c.in-Ok.outcome Shut c.in-Shut.is c.in-Ok.ensures.told.turns);
  full = λ is. absurd cc;
}

pub returns-in-Shut-clause-laid : goal.returns-in-Shut-clause-laid
returns-in-Shut-clause-laid g c = λ l. let s = g.B.S.Space in let w = g.W.Wire in let k = g.E.Sink in let ready = c.in-Ok.ensures.ready in let i = c.loop-done.invariant in
    run_shut s w k g.B.Storage.holds (Laid g.B.Storage.own g.B.Storage.layout l g.B.Storage.reopens) _ _ _ _ _ _ _ _ _ _ _ _ _ _ _ _ _ _ _ (omega arith) (fresh g.B.S.Space c.turn.new.space g.met.B.S.Space.only_kept g.met.B.S.Space.clean ready.base_is.sound ready.untouched)
    i.same c.in-Ok.ensures.same i.ready.wired (i.laid l).run (i.laid l).lines (turn_is s w k g.B.Storage.holds (Laid g.B.Storage.own g.B.Storage.layout l g.B.Storage.reopens) _ _ _ _ _ _ _ _ _ _ c.in-Ok.outcome Shut c.in-Shut.is (c.in-Ok.ensures.laid l).turns)

pub returns-in-Err-clause-told : goal.returns-in-Err-clause-told
returns-in-Err-clause-told g c = let s = g.B.S.Space in let w = g.W.Wire in let k = g.E.Sink in let b = g.B.Storage in let i = c.loop-done.invariant in
    subst (λ end. EndsFull s w k b.holds b.reopens b.fills_since end c.args.turns c.args.server.now.logged c.args.server.now.base c.args.space.now c.turn.new.space c.args.wire.now c.turn.new.wire (g.K.Clock.answers c.args.clock.now) (g.K.Clock.answers c.turn.new.clock) c.args.err.now c.loop-done.err) (sym c.from.ensures)
    (run_failed s w k b.holds b.reopens b.fills_since _ _ _ _ _ _ _ _ _ _ _ _ _ _ _ _ _ _ _ c.in-Err.e (omega arith) i.same i.ready.wired (λ le. (g.met.B.Storage.since_more c.args.space.now c.loop-done.space c.turn.new.space le).fills) i.told.run i.told.lines c.in-Err.ensures.told)

pub returns-in-Err-clause-laid : goal.returns-in-Err-clause-laid
returns-in-Err-clause-laid g c = λ l. let s = g.B.S.Space in let w = g.W.Wire in let k = g.E.Sink in let i = c.loop-done.invariant in
    subst (λ end. Ends s w k g.B.Storage.holds (Laid g.B.Storage.own g.B.Storage.layout l g.B.Storage.reopens) end c.args.turns c.args.server.now.logged c.args.server.now.base c.args.space.now c.turn.new.space c.args.wire.now c.turn.new.wire (g.K.Clock.answers c.args.clock.now) (g.K.Clock.answers c.turn.new.clock) c.args.err.now c.loop-done.err) (sym c.from.ensures)
    (run_failed s w k g.B.Storage.holds (Laid g.B.Storage.own g.B.Storage.layout l g.B.Storage.reopens) g.B.Storage.fills_since _ _ _ _ _ _ _ _ _ _ _ _ _ _ _ _ _ _ _ c.in-Err.e (omega arith) i.same i.ready.wired (λ le. (g.met.B.Storage.since_more c.args.space.now c.loop-done.space c.turn.new.space le).fills) (i.laid l).run (i.laid l).lines (c.in-Err.ensures.laid l)).ends

pub returns-in-Err-clause-ends : goal.returns-in-Err-clause-ends
returns-in-Err-clause-ends g c = subst IsEnd (sym c.from.ensures) (is_end_turn c.in-Err.e)

pub returns-clause-told : goal.returns-clause-told
returns-clause-told g c = let s = g.B.S.Space in let w = g.W.Wire in let k = g.E.Sink in let i = c.loop-done.invariant in let ready = i.ready in
    let all : c.loop-done._done ≡ c.args.turns = search rules in record {
      ends = run_spent s w k g.B.Storage.holds g.B.Storage.reopens _ _ _ _ _ _ _ _ _ _ _ _ c.loop-done._done c.args.turns all (fresh g.B.S.Space c.loop-done.space g.met.B.S.Space.only_kept g.met.B.S.Space.clean ready.base_is.sound ready.untouched) i.same i.told.run i.told.lines;
      full = λ is. absurd cc;
    }

pub returns-clause-laid : goal.returns-clause-laid
returns-clause-laid g c = λ l. let s = g.B.S.Space in let w = g.W.Wire in let k = g.E.Sink in let i = c.loop-done.invariant in let ready = i.ready in
    let all : c.loop-done._done ≡ c.args.turns = search rules in
    run_spent s w k g.B.Storage.holds (Laid g.B.Storage.own g.B.Storage.layout l g.B.Storage.reopens) _ _ _ _ _ _ _ _ _ _ _ _ c.loop-done._done c.args.turns all (fresh g.B.S.Space c.loop-done.space g.met.B.S.Space.only_kept g.met.B.S.Space.clean ready.base_is.sound ready.untouched) i.same (i.laid l).run (i.laid l).lines

pub returns-in-Shut-clause-sound : goal.returns-in-Shut-clause-sound
returns-in-Shut-clause-sound g c = λ out. (c.in-Ok.ensures.ready.base_is.sound, c.in-Ok.ensures.ready.untouched)

pub returns-in-Err-clause-sound : goal.returns-in-Err-clause-sound
returns-in-Err-clause-sound g c = λ out. absurd (not_out c.in-Err.e (subst IsOut c.from.ensures out))

pub returns-clause-sound : goal.returns-clause-sound
returns-clause-sound g c = λ out. (c.loop-done.invariant.ready.base_is.sound, c.loop-done.invariant.ready.untouched)

pub returns-in-Err-clause-accounted : goal.returns-in-Err-clause-accounted
returns-in-Err-clause-accounted g c = let s = g.B.S.Space in let w = g.W.Wire in let i = c.loop-done.invariant in record {
  follows = follows_in_then s.faults s.limit (λ x. (s.names x).told) c.args.space.now c.loop-done.space c.turn.new.space i.follows c.turn.ensures.follows;
  later = omega (arith, i.later_wire, c.turn.ensures.later_wire);
  caused = subst (λ end. Caused end (s.faults c.args.space.now) (s.faults c.turn.new.space) (w.faults c.args.wire.now) (w.faults c.turn.new.wire)) (sym c.from.ensures)
      (caused_turn c.in-Err.e _ _ _ _ _ _ i.follows.later i.later_wire (λ is. c.in-Err.ensures.cause_space (search rules)) (λ is. c.in-Err.ensures.cause_wire (search rules)));
}
