use Rattle.std.proofs.Common.{sym, subst, arith}
use Rattle.tc_base.specs.declared.kind.Rule.{Rule}
use Rattle.tc_hash.specs.Opening.{IsBroken, no_blocks, too_short}
use Rattle.tc_hash.proofs.Opened.{breaks_by, breaks_walk, err_is}
use Rattle.tc_hash.proofs.open.read_blocks.Goals as goal

pub returns-then-len-size-clause-broken : goal.returns-then-len-size-clause-broken
returns-then-len-size-clause-broken g c = breaks_by g.S.Space.tells c.args.head.now.kind c.args.file 2 (g.S.Space.now c.args.space.now c.args.file) c.broken.result c.broken.ensures (λ t. too_short c.args.head.now (c.requires.head.is t) (omega (arith, c.len-len.ensures t, c.if-len-size.true)))

pub returns-in-Err-clause-broken : goal.returns-in-Err-clause-broken
returns-in-Err-clause-broken g c = breaks_walk g.S.Space.tells c.args.head.now.kind c.args.file (g.S.Space.now c.args.space.now c.args.file) c.in-Err.e c.refusal.result c.refusal.ensures (λ rule named t.
    subst (λ (r : Rule). IsBroken c.args.head.now.kind (g.S.Space.now c.args.space.now c.args.file) r) (sym (c.in-Err.ensures.broken rule (err_is c.in-Err.e rule named)).rule_is)
    (no_blocks c.args.head.now (c.requires.head.is t) (omega (arith, c.len-len.ensures t, c.if-len-size.false)) ((c.in-Err.ensures.broken rule (err_is c.in-Err.e rule named)).none t)))
