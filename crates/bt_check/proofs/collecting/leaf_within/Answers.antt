use Rattle.std.proofs.Common.{ap, arith, length}
use Rattle.std.proofs.lemmas.Bool.{leb-true, le-leb}
use Rattle.bt_check.proofs.collecting.leaf_within.Goals as goal

pub returns : goal.returns
returns c =
    let size = ap length c.items.ensures.bytes in (
      λ t. let le = leb-true _ _ t in record { within = record { keys = omega (arith, c.len-keys.ensures, c.if-keys-head.false); bytes = λ _. omega (arith, le, size) }; some = λ _. omega (arith, c.len-keys.ensures, c.if-keys-eq0.false) },
      λ l. let most = l.within.bytes (omega (arith, c.len-keys.ensures, c.if-keys-eq0.false, c.if-keys-eq1.false)) in le-leb _ _ (omega (arith, most, size)),
    )
