use Rattle.std.proofs.Common.{◌≡◌, ◌+◌, ◌-◌, ◌<◌, ◌≤◌, ◌++◌, length, take, drop, get_or, ap, refl, sym, ◌∙◌, subst, arith, rules, ℕ, List, length-take}
use Rattle.std.proofs.lemmas.List.{take_more}
use Rattle.tc_undo.specs.Pieces.{part}
use Rattle.tc_undo.specs.Runs.{IsRun, blank}
use Rattle.tc_undo.specs.declared.piece.Piece.{Piece}
use Rattle.tc_undo.proofs.Ahead.{text_more}
use Rattle.tc_undo.proofs.Joining.{run_more, run_none}
use Rattle.tc_undo.proofs.Putting.{part_long}
use Rattle.tc_undo.proofs.runs.join.Goals as goal

pub loop-run-init : goal.loop-run-init
loop-run-init c = record { count = omega arith; size = omega arith; long = search rules; is = run_none _ _ _ }

pub loop-run-preserved : goal.loop-run-preserved
loop-run-preserved c =
    let ps = c.args.pieces.now in
    let bytes = c.args.bytes.now in
    let k = c.loop-run.run.count in
    let n = c.loop-run.run.size in
    let room = c.loop-run.room in
    let was = c.loop-run.invariant in
    let first = get_or ps 0 blank in
    let p = get_or ps k blank in
    let low : k < length ps = c.loop-run-test.true in
    let lies = c.requires.lie k blank low in
    let fits : n + p.size ≤ 16384 = c.if-follows.ensures.fits refl in
    let there : p.at ≡ first.at + n = c.if-follows.ensures.place refl in
    let b = take (p.from + p.size - p.from) (drop p.from bytes) in
    let long_b : length b ≡ p.size = part_long bytes p lies in
    let count : p.from + p.size - p.from ≡ p.size = omega arith in
    let long : length (take n room) ≡ n = omega (arith, length-take n room, was.long, was.size) in
    let text : take (n + p.size) c.put_at.new.into ≡ take n room ++ part bytes p =
    ap (λ m. take (n + m) c.put_at.new.into) (sym long_b)
    ∙ ap (λ (l : List ℕ). take (n + length b) l) c.put_at.ensures
    ∙ text_more n room b (omega (arith, was.long, long_b, fits))
    ∙ ap (λ m. take n room ++ take m (drop p.from bytes)) count in
    let place : p.at ≡ first.at + length (take n room) = omega (arith, there, long) in
    let more = run_more bytes (take k ps) first.file first.at (take n room) p was.is (c.if-follows.ensures.file refl) place lies in
    record {
      count = omega (arith, low);
      size = fits;
      long = omega (arith, c.put_at.auto.into, was.long);
      is = subst (λ (l : List ℕ). IsRun bytes (take (k + 1) ps) first.file first.at l) (sym text) (subst (λ (l : List Piece). IsRun bytes l first.file first.at (take n room ++ part bytes p)) (sym (take_more ps k blank low)) more);
    }
