use Rattle.std.proofs.Common.{◌≡◌, ◌∙◌, ◌+◌, ℕ, List, [], ◌∷◌, ◌++◌, length, take, ap, refl, sym, arith, length-append}
use Rattle.std.proofs.lemmas.List.{take_all, length-take}
use Rattle.tc_reach.proofs.Handed.{err_handed}
use Rattle.ty_ulog.proofs.Noting.{noted_all, write_lacks}
use Rattle.ty_ulog.proofs.Asking.{adds_none, adds_then, all_small, gathers_as, gathers_start, more_taken, never_ok, none_small, overflows_in, overflows_with}
use Rattle.ty_ulog.proofs.log.Ulog.append_updates.Goals as goal

pub loop-request-init : goal.loop-request-init
loop-request-init g c = record {
  ticks = [];
  told = adds_none _;
  small = none_small;
  gathers = gathers_start g.S.Space c.args.own c.args.self.now c.args.space.now c.args.updates.now _ c.new.ensures refl c.requires.sound;
  few = omega (arith, ap (λ (l : List ℕ). length l) c.new.ensures);
}

pub loop-request-preserved : goal.loop-request-preserved
loop-request-preserved g c =
    let v = c.loop-request.invariant in
    let i = c.loop-request.request-index in
    record {
      ticks = v.ticks ++ c.now-now.result ∷ [];
      told = adds_then _ _ _ v.ticks (c.now-now.result ∷ []) v.told c.now-now.ensures;
      small = all_small v.ticks c.now-now.result v.small (omega arith);
      gathers = gathers_as g.S.Space _ _ _ _ _ _ _ _ _ (more_taken c.args.updates.now i c.request-item.result c.loop-request-test.true c.request-item.is)
          (c.in_ok-gather.ensures.gathers v.ticks (take i c.args.updates.now) c.args.self.now c.args.space.now v.gathers);
      few = c.in_ok-gather.ensures.few;
    }

pub returns-in_err-gather-clause-asks : goal.returns-in_err-gather-clause-asks
returns-in_err-gather-clause-asks g c =
    let v = c.loop-request.invariant in
    let all = c.args.updates.now in
    let i = c.loop-request.request-index in
    let now = c.now-now.result in
    let more = more_taken all i c.request-item.result c.loop-request-test.true c.request-item.is in
    let each : length (v.ticks ++ now ∷ []) ≡ length (take (i + 1) all) =
    length-append v.ticks (now ∷ []) ∙ ap (λ (n : ℕ). n + 1) v.gathers.each ∙ sym (length-append (take i all) (c.request-item.result ∷ [])) ∙ ap (λ (l : List (List ℕ)). length l) more in
    record {
      ticks = v.ticks ++ now ∷ [];
      told = adds_then _ _ _ v.ticks (now ∷ []) v.told c.now-now.ensures;
      small = all_small v.ticks now v.small (omega arith);
      few = omega (arith, each, length-take (i + 1) all);
      each = never_ok _ c.from_residual.result _ c.from_residual.ensures.1;
      notes = never_ok _ c.from_residual.result _ c.from_residual.ensures.1;
      full = λ e later.
          let over = c.in_err-gather.ensures.full (err_handed c.from_residual.result c.in_err-gather.field-0.0 _ c.from_residual.ensures.1 e) v.ticks (take i all) c.args.self.now c.args.space.now v.gathers in
          overflows_with g.S.Space _ c.args.own c.args.self.now.last (length (g.S.Space.now c.args.space.now 2)) (i + 1) (v.ticks ++ now ∷ []) later all (take i all ++ c.request-item.result ∷ []) _ more each over;
    }

pub returns-in_err-flush-clause-asks : goal.returns-in_err-flush-clause-asks
returns-in_err-flush-clause-asks g c =
    let v = c.loop-request.invariant in
    let all = c.args.updates.now in
    let i = c.loop-request.request-index in
    record {
      ticks = v.ticks;
      told = v.told;
      small = v.small;
      few = omega (arith, v.gathers.each, length-take i all);
      each = never_ok _ c.from_residual-in_err-flush.result _ c.from_residual-in_err-flush.ensures.1;
      notes = never_ok _ c.from_residual-in_err-flush.result _ c.from_residual-in_err-flush.ensures.1;
      full = λ e later.
          let lacks = c.in_err-flush.ensures.full (err_handed c.from_residual-in_err-flush.result c.in_err-flush.field-0.0 _ c.from_residual-in_err-flush.ensures.1 e) in
          overflows_in g.S.Space _ c.args.own c.args.self.now.last _ i v.ticks later all _ v.gathers.each
          (write_lacks g.S.Space _ c.args.own v.ticks (take i all) c.args.self.now _ c.args.space.now _ _ _ v.gathers c.flush.ensures.frame.keeps.same_limit lacks.0 lacks.1);
    }

pub returns-clause-asks : goal.returns-clause-asks
returns-clause-asks g c =
    let v = c.loop-request.invariant in
    let all = c.args.updates.now in
    let i = c.loop-request.request-index in
    let whole : take i all ≡ all = take_all _ _ (omega (arith, c.loop-request-test.false, c.loop-request.auto.request-index-end)) in
    let gathers = gathers_as g.S.Space _ _ _ _ _ _ _ _ _ whole (c.in_ok-flush.ensures.gathers c.args.own v.ticks (take i all) c.args.self.now c.args.space.now v.gathers) in
    record {
      ticks = v.ticks;
      told = v.told;
      small = v.small;
      few = omega (arith, v.gathers.each, length-take i all);
      each = gathers.each;
      notes = noted_all g.S.Space c.args.own v.ticks all c.args.self.now _ c.args.space.now _ _ gathers c.in_ok-flush.ensures.empty;
      full = λ e later. absurd cc;
    }
