use Rattle.std.proofs.Common.{◌≡◌, ◌∙◌, ℕ, drop, ap, sym, subst, arith}
use Rattle.tc_space.specs.Frames.{only_reads_then}
use Rattle.ty_ulog.specs.Pieces.{Heads}
use Rattle.ty_ulog.specs.Steps.{StartsAt}
use Rattle.ty_ulog.proofs.Passing.{drop_end, is_near, passed_all, passed_end, passed_more, passed_start, passed_stop, start_inside}
use Rattle.ty_ulog.proofs.Pieces.{moved_below, moved_low, shows_same, some_in}
use Rattle.ty_ulog.proofs.log.Ulog.after.Goals as goal

pub loop-at-init : goal.loop-at-init
loop-at-init g c = record {
  reads = c.in_ok-piece.ensures.reads;
  low = omega (arith, c.in_ok-piece.ensures.place.0);
  high = omega (arith, c.min-at.ensures);
  end_is = c.in_ok-piece.ensures.place.1;
  shows = c.in_ok-piece.ensures.shows;
  passed = λ rs m.
      let file = g.S.Space.now c.args.space.now 2 in
      let s = c.start.ensures rs m.1.log.follow m.1.spread in
      let same : c.start.result ≡ c.min-at.result = omega (arith, start_inside file rs c.args.stamp c.start.result m.1.log s, c.len-end.ensures m.0, c.min-at.ensures) in
      passed_start file rs c.args.stamp c.min-at.result m.1.log (subst (StartsAt rs c.args.stamp) same s);
  near = λ rs m. omega (arith, c.in_ok-piece.ensures.place.0);
  counted = omega (arith, c.in_ok-piece.ensures.counted, c.in_ok-piece.ensures.place.0);
}

pub head-requires-clause-shows : goal.head-requires-clause-shows
head-requires-clause-shows g c = λ t. let v = c.loop-at.invariant in shows_same _ _ _ (v.reads.files t 2) (v.shows t)

pub loop-at-preserved : goal.loop-at-preserved
loop-at-preserved g c =
    let v = c.loop-at.invariant in
    let file = g.S.Space.now c.args.space.now 2 in
    let finds = c.in_ok-head.ensures.finds in
    let inside = some_in _ c.in-Some.head _ c.in-Some.is finds.inside in
    let moves = c.head.ensures.place in
    record {
      reads = only_reads_then g.S.Space c.args.space.now c.loop-at.space c.head.new.space v.reads c.head.ensures.reads;
      low = omega (arith, moved_low c.loop-at.piece c.head.new.self c.loop-at.at moves v.low);
      high = omega (arith, inside.1, v.end_is);
      end_is = moves.1 ∙ v.end_is;
      shows = λ t. shows_same _ _ _ (sym (v.reads.files t 2)) (c.in_ok-head.ensures.shows t);
      passed = λ rs m.
          let says = subst (Heads (drop c.loop-at.at file)) c.in-Some.is (λ r rest f parts. finds.heads m.0 r rest f (ap (drop c.loop-at.at) (v.reads.files m.0 2) ∙ parts)) in
          passed_more file rs c.args.stamp _ c.loop-at.at c.in-Some.head (v.passed rs m) (omega (arith, c.loop-at-test.true, c.len-end.ensures m.0)) says c.if-head-stamp.false;
      near = λ rs m. moved_below c.loop-at.piece c.head.new.self c.loop-at.at _ moves (v.near rs m) (is_near file rs c.args.stamp _ c.loop-at.at (v.passed rs m) (omega (arith, c.loop-at-test.true, c.len-end.ensures m.0)));
      counted = omega (arith, v.counted, c.head.ensures.counted);
    }

pub returns-in_err-head-clause-counted : goal.returns-in_err-head-clause-counted
returns-in_err-head-clause-counted g c = λ rs m.
    let v = c.loop-at.invariant in
    let near = moved_below c.loop-at.piece c.head.new.self c.loop-at.at _ c.head.ensures.place (v.near rs m) (is_near (g.S.Space.now c.args.space.now 2) rs c.args.stamp _ c.loop-at.at (v.passed rs m) (omega (arith, c.loop-at-test.true, c.len-end.ensures m.0))) in
    omega (arith, near, v.counted, c.head.ensures.counted)

pub returns-in_default-clause-counted : goal.returns-in_default-clause-counted
returns-in_default-clause-counted g c = λ rs m.
    let v = c.loop-at.invariant in
    let near = moved_below c.loop-at.piece c.head.new.self c.loop-at.at _ c.head.ensures.place (v.near rs m) (is_near (g.S.Space.now c.args.space.now 2) rs c.args.stamp _ c.loop-at.at (v.passed rs m) (omega (arith, c.loop-at-test.true, c.len-end.ensures m.0))) in
    omega (arith, near, v.counted, c.head.ensures.counted)

pub returns-in_default-clause-rest : goal.returns-in_default-clause-rest
returns-in_default-clause-rest g c = λ rs m.
    let v = c.loop-at.invariant in
    let file = g.S.Space.now c.args.space.now 2 in
    let says = subst (Heads (drop c.loop-at.at file)) c.in_default.is (λ r rest f parts. c.in_ok-head.ensures.finds.heads m.0 r rest f (ap (drop c.loop-at.at) (v.reads.files m.0 2) ∙ parts)) in
    ap (λ (n : ℕ). drop n file) (c.len-end.ensures m.0) ∙ drop_end file ∙ passed_end file rs c.args.stamp _ c.loop-at.at (v.passed rs m) says

pub returns-then-head-stamp-clause-rest : goal.returns-then-head-stamp-clause-rest
returns-then-head-stamp-clause-rest g c = λ rs m.
    let v = c.loop-at.invariant in
    let file = g.S.Space.now c.args.space.now 2 in
    let says = subst (Heads (drop c.loop-at.at file)) c.in-Some.is (λ r rest f parts. c.in_ok-head.ensures.finds.heads m.0 r rest f (ap (drop c.loop-at.at) (v.reads.files m.0 2) ∙ parts)) in
    passed_stop file rs c.args.stamp _ c.loop-at.at c.in-Some.head (v.passed rs m) (omega (arith, c.loop-at-test.true, c.len-end.ensures m.0)) says c.if-head-stamp.true

pub returns-then-head-stamp-clause-counted : goal.returns-then-head-stamp-clause-counted
returns-then-head-stamp-clause-counted g c = λ rs m.
    let v = c.loop-at.invariant in
    let near = moved_below c.loop-at.piece c.head.new.self c.loop-at.at _ c.head.ensures.place (v.near rs m) (is_near (g.S.Space.now c.args.space.now 2) rs c.args.stamp _ c.loop-at.at (v.passed rs m) (omega (arith, c.loop-at-test.true, c.len-end.ensures m.0))) in
    omega (arith, near, v.counted, c.head.ensures.counted)

pub returns-clause-rest : goal.returns-clause-rest
returns-clause-rest g c = λ rs m.
    let file = g.S.Space.now c.args.space.now 2 in
    ap (λ (n : ℕ). drop n file) (c.len-end.ensures m.0) ∙ drop_end file ∙ passed_all file rs c.args.stamp _ c.loop-at.at (c.loop-at.invariant.passed rs m) (omega (arith, c.len-end.ensures m.0, c.loop-at-test.false))

pub returns-clause-counted : goal.returns-clause-counted
returns-clause-counted g c = λ rs m. let v = c.loop-at.invariant in omega (arith, v.near rs m, v.counted)
