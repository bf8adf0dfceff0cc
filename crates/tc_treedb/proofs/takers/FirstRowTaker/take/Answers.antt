use Rattle.std.proofs.Common.{sym, subst, Bool, true, false}
use Rattle.bt_slots.specs.Reads.{values_in}
use Rattle.tc_engine.specs.Rows.{Adds}
use Rattle.tc_treedb.specs.Taking.{first_row}
use Rattle.tc_treedb.proofs.Takings.{first_added}
use Rattle.tc_treedb.proofs.takers.FirstRowTaker.take.Goals as goal

pub returns-then-self-clause-taken : goal.returns-then-self-clause-taken
returns-then-self-clause-taken c = λ value others same.
    first_added c.args.self.now.with_key c.args.item.now.key.now c.args.item.now.first.now value (values_in c.args.item.now.more c.args.item.now.further.now).0 others c.args.self.now.rows c.pair.new.self
    (subst (λ (b : Bool). Adds c.args.self.now.rows c.pair.new.self (first_row b c.args.item.now.key.now c.args.item.now.first.now)) (sym c.if-self.true) c.in_ok-pair.ensures.added) same

pub returns-clause-taken : goal.returns-clause-taken
returns-clause-taken c = λ value others same.
    first_added c.args.self.now.with_key c.args.item.now.key.now c.args.item.now.first.now value (values_in c.args.item.now.more c.args.item.now.further.now).0 others c.args.self.now.rows c.item.new.self
    (subst (λ (b : Bool). Adds c.args.self.now.rows c.item.new.self (first_row b c.args.item.now.key.now c.args.item.now.first.now)) (sym c.if-self.false) c.in_ok-item.ensures.added) same
