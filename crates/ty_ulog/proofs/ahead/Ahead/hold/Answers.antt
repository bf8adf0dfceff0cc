use Rattle.std.proofs.Common.{◌∙◌, ℕ, List, drop, refl, sym, subst, arith}
use Rattle.tc_space.specs.Frames.{only_reads_refl, only_reads_then}
use Rattle.ty_ulog.specs.Ongoing.{IsNoPart}
use Rattle.ty_ulog.proofs.Pieces.{ahead_same, none_so, shows_from}
use Rattle.ty_ulog.proofs.ahead.Ahead.hold.Goals as goal

pub pieces-init : goal.pieces-init
pieces-init g c = record {
  long = c.requires.head.0;
  goes = record { at_is = refl; end_is = refl; ahead = c.requires.ahead };
  once = omega arith;
  reads = only_reads_refl g.S.Space c.args.space.now c.requires.sound;
}

pub more-requires-clause-ahead : goal.more-requires-clause-ahead
more-requires-clause-ahead g c = λ t. let v = c.pieces.invariant in ahead_same _ _ _ (v.reads.files t 2) (v.goes.ahead t)

pub pieces-preserved : goal.pieces-preserved
pieces-preserved g c =
    let v = c.pieces.invariant in
    let goes = c.in_ok-more.ensures.goes in
    record {
      long = omega (arith, v.long, c.in_ok-more.ensures.reach, goes.at_is);
      goes = record { at_is = goes.at_is ∙ v.goes.at_is; end_is = goes.end_is ∙ v.goes.end_is; ahead = λ t. ahead_same _ _ _ (sym (v.reads.files t 2)) (goes.ahead t) };
      once = omega (arith, v.once, c.in_ok-more.ensures.spends.once);
      reads = only_reads_then g.S.Space c.args.space.now c.pieces.space c.more.new.space v.reads c.more.ensures.reads;
    }

pub returns-then-not-is_part-clause-none : goal.returns-then-not-is_part-clause-none
returns-then-not-is_part-clause-none g c = λ no t.
    let v = c.pieces.invariant in
    let held = c.pieces.self.held.items in
    none_so (g.S.Space.now c.args.space.now 2) held c.args.self.now.at c.args.size (shows_from c.args.self.now c.pieces.self _ _ v.goes.at_is refl (v.goes.ahead t)) v.long (omega arith)
    (subst (λ (l : List ℕ). IsNoPart (drop 25 l)) c.as_slice.ensures (c.is_part.ensures c.if-not-is_part.true))
