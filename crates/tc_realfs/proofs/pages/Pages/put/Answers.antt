use Rattle.std.proofs.Common.{◌≡◌, ◌∙◌, ℕ, ◌+◌, ◌-◌, ◌≤◌, List, length, take, drop, sym, ap, subst, arith}
use Rattle.tc_base.specs.Files.{wrote}
use Rattle.tc_realfs.specs.Paging.{Shows}
use Rattle.tc_realfs.proofs.Showing.{put_none, put_reaches, put_more}
use Rattle.tc_realfs.proofs.pages.Pages.put.Goals as goal

pub loop-done-init : goal.loop-done-init
loop-done-init c = record {
  le = omega arith;
  shows = λ file inside s. subst (λ (f : List ℕ). Shows c.args.self.now f) (sym (put_none c.args.at c.args.bytes.now file)) s;
}

pub loop-done-preserved : goal.loop-done-preserved
loop-done-preserved c =
    let here : c.loop-done.done + c.min-here.result ≤ length c.args.bytes.now = omega (arith, c.min-here.ensures, c.loop-done-test.true) in
    record {
      le = here;
      shows = λ file inside s.
          let count : c.loop-done.done + c.min-here.result - c.loop-done.done ≡ c.min-here.result = omega arith in
          subst (λ (f : List ℕ). Shows c.put_part.new.self f)
          (ap (λ m. wrote (c.args.at + c.loop-done.done) (take m (drop c.loop-done.done c.args.bytes.now)) (wrote c.args.at (take c.loop-done.done c.args.bytes.now) file)) count
          ∙ put_more c.args.at c.loop-done.done c.min-here.result c.args.bytes.now file inside here)
          (c.put_part.ensures (wrote c.args.at (take c.loop-done.done c.args.bytes.now) file) (put_reaches c.args.at c.loop-done.done c.args.bytes.now file inside c.loop-done.invariant.le) (c.loop-done.invariant.shows file inside s));
    }
