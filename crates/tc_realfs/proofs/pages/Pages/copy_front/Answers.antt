use Rattle.std.proofs.Common.{◌≡◌, ◌∙◌, ◌+◌, ◌-◌, ◌≤◌, ℕ, List, length, take, drop, refl, ap, arith}
use Rattle.tc_base.specs.Files.{wrote}
use Rattle.tc_io.proofs.Writes.{part_written}
use Rattle.tc_realfs.proofs.Showing.{filled, length_filled, length_part, wrote_before}
use Rattle.tc_realfs.proofs.pages.Pages.copy_front.Goals as goal

pub loop-done-preserved : goal.loop-done-preserved
loop-done-preserved c =
    let done = c.loop-done.done in
    let here = c.min-here.result in
    let old = c.loop-done.into in
    let part = c.copy.new.into in
    let inside : done + here ≤ length old = omega (arith, c.min-here.ensures, c.loop-done-test.true) in
    let long : length part ≡ here = c.copy.auto.into ∙ length_part done here old inside in
    let is = part_written done here old part long in
    let same : length (wrote done part old) ≡ length old = length_filled done here old part inside long in
    record {
      le = omega (arith, inside, ap length is, same);
      long = ap length is ∙ same ∙ c.loop-done.invariant.long;
      bytes = λ file s.
          ap (λ (l : List ℕ). take (done + here) l) is
          ∙ filled c.args.at done here old part file inside long (c.loop-done.invariant.bytes file s)
          (c.if-not-copy.ensures.bytes refl file s ∙ ap (λ n. take n (drop (c.args.at + done) file)) (length_part done here old inside));
    }

pub returns-then-not-copy-clause-most : goal.returns-then-not-copy-clause-most
returns-then-not-copy-clause-most c = omega (arith, c.loop-done.invariant.le, c.loop-done.invariant.long)

pub returns-then-not-copy-clause-bytes : goal.returns-then-not-copy-clause-bytes
returns-then-not-copy-clause-bytes c = λ file s.
    let done = c.loop-done.done in
    let here = c.min-here.result in
    let old = c.loop-done.into in
    let part = c.copy.new.into in
    let inside : done + here ≤ length old = omega (arith, c.min-here.ensures, c.loop-done-test.true) in
    let long : length part ≡ here = c.copy.auto.into ∙ length_part done here old inside in
    ap (λ (l : List ℕ). take done l) (part_written done here old part long)
    ∙ wrote_before done part old (omega (arith, inside))
    ∙ c.loop-done.invariant.bytes file s

pub returns-clause-most : goal.returns-clause-most
returns-clause-most c = omega (arith, c.loop-done.invariant.le, c.loop-done.invariant.long)
