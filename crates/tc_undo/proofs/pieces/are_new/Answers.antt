use Rattle.std.proofs.Common.{◌≡◌, take, get_or, ap, sym, arith}
use Rattle.std.proofs.lemmas.List.{take_all}
use Rattle.std.proofs.lemmas.List.Elements.{All-more, All-nil, All-same}
use Rattle.ud_log.specs.Undo.{length_of}
use Rattle.tc_undo.specs.Guards.{IsNew}
use Rattle.tc_undo.specs.Runs.{blank}
use Rattle.tc_undo.proofs.pieces.are_new.Goals as goal

pub loop-i-init : goal.loop-i-init
loop-i-init c = All-nil (IsNew c.args.recorded.now c.args.lens.now)

pub loop-i-preserved : goal.loop-i-preserved
loop-i-preserved c =
    let ps = c.args.pieces.now in
    let i = c.loop-i.i in
    let p = get_or ps i blank in
    let rec : get_or c.args.recorded.now c.place-k.result 0 ≡ length_of c.args.recorded.now p.file = ap (λ k. get_or c.args.recorded.now k 0) c.place-k.ensures.place in
    let len : get_or c.args.lens.now c.place-k.result 0 ≡ length_of c.args.lens.now p.file = ap (λ k. get_or c.args.lens.now k 0) c.place-k.ensures.place in
    All-more (IsNew c.args.recorded.now c.args.lens.now) ps i blank c.loop-i-test.true c.loop-i.invariant (omega (arith, c.min.ensures, c.min-in-loop-i.ensures, c.if-min-piece.false, rec, len))

pub returns : goal.returns
returns c = λ is. All-same (IsNew c.args.recorded.now c.args.lens.now) c.args.pieces.now (take c.loop-i.i c.args.pieces.now) (sym (take_all c.loop-i.i c.args.pieces.now c.loop-i-test.false)) c.loop-i.invariant
