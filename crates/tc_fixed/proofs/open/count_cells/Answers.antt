use Rattle.std.proofs.Common.{◌≡◌, ◌∙◌, ◌+◌, ◌-◌, ℕ, List, arith, subst, sym}
use Rattle.tc_base.specs.declared.kind.Rule.{Rule}
use Rattle.tc_space.specs.Frames.{only_reads_refl, only_reads_then}
use Rattle.tc_reach.proofs.Viewing.{shows_at}
use Rattle.tc_fixed.specs.declared.cells.Look.{Look}
use Rattle.tc_fixed.specs.Cells.{cell_at}
use Rattle.tc_fixed.specs.Looks.{Sees}
use Rattle.tc_fixed.specs.Opening.{IsBroken, IsCountedTo}
use Rattle.tc_fixed.proofs.Counted.{counted_none}
use Rattle.tc_fixed.proofs.Opened.{names_rule, no_cell, was_counted}
use Rattle.tc_fixed.proofs.open.count_cells.Goals as goal

pub loop-id-init : goal.loop-id-init
loop-id-init g c = record {
  some = omega arith;
  high = omega arith;
  reads = only_reads_refl g.S.Space c.args.space.now c.requires.sound;
  shows = λ t. c.new-window.ensures (g.S.Space.now c.args.space.now 0);
  so = λ t. counted_none c.args.head.now.width c.none-tally.result (g.S.Space.now c.args.space.now 0) c.none-tally.ensures.counts;
}

pub loop-id-preserved : goal.loop-id-preserved
loop-id-preserved g c =
    let v = c.loop-id.invariant in
    let w = c.args.head.now.width in
    let same : c.loop-id.id ≡ c.loop-id.id + 1 - 1 = omega arith in
    record {
      some = omega arith;
      high = omega (arith, c.loop-id-test.true);
      reads = only_reads_then g.S.Space c.args.space.now c.loop-id.space c.look.new.space v.reads c.look.ensures.reads;
      shows = λ t. shows_at c.look.new.window (g.S.Space.now c.loop-id.space 0) (g.S.Space.now c.args.space.now 0) (v.reads.files t 0) (c.in_ok-found.ensures.shows t);
      so = λ t.
          let now = g.S.Space.now c.args.space.now 0 in
          subst (λ n. IsCountedTo w n c.in-Some.now now) same (c.in-Some.ensures.some w now c.requires.numbers.width_most (v.so t) (subst (λ (l : List ℕ). Sees w c.in_ok-found.found (cell_at w c.loop-id.id l)) (v.reads.files t 0) (c.in_ok-found.ensures.sees t)));
    }

pub returns-in_default-clause-broken : goal.returns-in_default-clause-broken
returns-in_default-clause-broken g c = λ f rule e.
    let v = c.loop-id.invariant in
    let h = c.args.head.now in
    names_rule 3 f rule (λ (r : Rule). g.S.Space.tells → IsBroken (g.S.Space.now c.args.space.now 0) r)
    (λ t.
    let now = g.S.Space.now c.args.space.now 0 in
    let sees = subst (λ (l : List ℕ). Sees h.width c.in_ok-found.found (cell_at h.width c.loop-id.id l)) (v.reads.files t 0) (c.in_ok-found.ensures.sees t) in
    let bad = subst (λ (look : Look). Sees h.width look (cell_at h.width c.loop-id.id now)) c.in_default.ensures.none sees in
    no_cell h c.loop-id.id now (c.requires.is t).0 (c.requires.is t).1 v.some c.loop-id-test.true bad)
    (sym c.broken.ensures ∙ e)

pub returns-clause-counted : goal.returns-clause-counted
returns-clause-counted g c = λ t.
    let v = c.loop-id.invariant in
    let h = c.args.head.now in
    let all : c.loop-id.id - 1 ≡ h.greatest = omega (arith, v.high, c.loop-id-test.false) in
    was_counted h c.loop-id.tally (g.S.Space.now c.args.space.now 0) (subst (λ n. IsCountedTo h.width n c.loop-id.tally (g.S.Space.now c.args.space.now 0)) all (v.so t))
