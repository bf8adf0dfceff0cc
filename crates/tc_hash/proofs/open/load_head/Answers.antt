use Rattle.std.proofs.Common.{ℕ, List, refl, sym, subst, arith}
use Rattle.hf_head.specs.Heads.{Spells}
use Rattle.tc_hash.specs.Opening.{Breaks, no_head}
use Rattle.tc_reach.proofs.Handed.{if_err_handed}
use Rattle.tc_space.specs.declared.errors.OpenErr.{OpenErr}
use Rattle.tc_hash.proofs.Opened.{breaks_by, breaks_fault}
use Rattle.tc_hash.proofs.open.load_head.Goals as goal

pub returns-then-len-lt256-clause-broken : goal.returns-then-len-lt256-clause-broken
returns-then-len-lt256-clause-broken g c = breaks_by g.S.Space.tells c.args.kind c.args.file 1 (g.S.Space.now c.args.space.now c.args.file) c.broken.result c.broken.ensures (λ t. no_head (λ h w. omega (arith, w.long, c.len-len.ensures t, c.if-len-lt256.true)))

pub returns-in_err-read_into-clause-broken : goal.returns-in_err-read_into-clause-broken
returns-in_err-read_into-clause-broken g c = if_err_handed c.from_residual.result _ (λ (e : OpenErr). Breaks g.S.Space.tells c.args.kind c.args.file (g.S.Space.now c.args.space.now c.args.file) e) c.from_residual.ensures.1 (breaks_fault g.S.Space.tells c.args.kind c.args.file (g.S.Space.now c.args.space.now c.args.file) _ refl)

pub returns-in-Some-clause-head : goal.returns-in-Some-clause-head
returns-in-Some-clause-head g c = λ t. record {
  long = omega (arith, c.len-len.ensures t, c.if-len-lt256.false);
  valid = c.in-Some.ensures.some.0;
  spells = subst (λ (l : List ℕ). Spells c.in-Some.head l) (c.in_ok-read_into.ensures.bytes t) c.in-Some.ensures.some.1;
  kind_is = c.in-Some.ensures.some.2;
}

pub returns-in-None-clause-broken : goal.returns-in-None-clause-broken
returns-in-None-clause-broken g c = breaks_by g.S.Space.tells c.args.kind c.args.file 1 (g.S.Space.now c.args.space.now c.args.file) c.broken-in-None.result c.broken-in-None.ensures (λ t. no_head (λ h w. c.in-None.ensures.none h w.valid (subst (λ (l : List ℕ). Spells h l) (sym (c.in_ok-read_into.ensures.bytes t)) w.spells) w.kind_is))
