use Rattle.std.proofs.Common.{◌∙◌, sym}
use Rattle.tc_tabledb.specs.Holding.{names}
use Rattle.tc_tabledb.proofs.Opened.{new_so, none_text, seen_so}
use Rattle.tc_tabledb.proofs.opening.is_new.Goals as goal

pub returns-then-told-order-clause-other : goal.returns-then-told-order-clause-other
returns-then-told-order-clause-other g c = λ is new. absurd (c.if-told-order.true (c.order_code-told.ensures ∙ sym new.fits))

pub returns-then-name-eq0-clause-other : goal.returns-then-name-eq0-clause-other
returns-then-name-eq0-clause-other g c = λ is new. none_text c.args.name.now c.if-name-eq0.true new.some

pub returns-then-is_seen-clause-other : goal.returns-then-is_seen-clause-other
returns-then-is_seen-clause-other g c = λ is new. seen_so c.args.order (names c.args.sides.now) c.args.kind c.args.name.now c.is_seen.result c.is_seen.ensures c.if-is_seen.true new

pub returns-clause-new : goal.returns-clause-new
returns-clause-new g c = λ is. new_so c.args.order (names c.args.sides.now) c.args.kind c.args.name.now c.order_code-told.result c.is_seen.result c.order_code-told.ensures c.if-told-order.false c.if-name-eq0.false c.is_seen.ensures c.if-is_seen.false
