use Rattle.std.proofs.Common.{false}
use Rattle.tc_space.specs.Changes.{put_first}
use Rattle.tc_space.specs.Stores.{ready_reads}
use Rattle.bt_page.proofs.Runs.{on_err_any}
use Rattle.bt_tree.specs.Meaning.{Means}
use Rattle.bt_ways.specs.Changes.{inserted}
use Rattle.tc_btree.proofs.Fulls.{put_full}
use Rattle.tc_btree.proofs.Looking.{full_told}
use Rattle.tc_btree.proofs.Puts.{list_puts, list_refuses, put_given}
use Rattle.tc_btree.proofs.multi.BtreeMulti.put.Goals as goal

pub insert-requires : goal.insert-requires
insert-requires g c = ready_reads g.R.S.Space (Means g.R.S.Space g.R.Records g.O.Order) _ _ _ _ c.look.ensures.looks.reads (record { sound = c.requires.sound; held = c.requires.held })

pub returns-clause-put : goal.returns-clause-put
returns-clause-put g c =
    let looked = c.look.ensures.looks in
    list_puts g.R.S.Space g.R.Records g.O.Order c.args.mode c.args.key.now (put_first g.O.Order.cmp c.args.mode c.args.key.now c.args.value.now) (inserted g.O.Order.cmp false c.args.key.now c.chosen-given.result.now) c.args.self.now c.look.new.self (record c.look.new.self { tree = c.insert.new.self })
    c.args.space.now c.look.new.space c.insert.new.space looked.looks.made.file looked.reads c.in_ok-insert.ensures.inserted
    (λ ps h. put_given g.R.S.Space g.R.Records g.O.Order c.args.mode c.args.key.now c.args.value.now c.chosen-given.result.now _ ps c.chosen-given.ensures (c.in_ok-joined.ensures.tells.0 ps h))
    (λ keep ps h. (c.in_ok-joined.ensures.tells.0 ps h).absent keep)

pub returns-in_err-insert-clause-refused : goal.returns-in_err-insert-clause-refused
returns-in_err-insert-clause-refused g c = on_err_any _ (list_refuses g.R.S.Space g.R.Records g.O.Order c.args.self.now c.look.new.self _ _ _ _ c.look.ensures.looks.reads c.in_err-insert.ensures.refused)

pub returns-in_err-insert-clause-full : goal.returns-in_err-insert-clause-full
returns-in_err-insert-clause-full g c = λ full.
    put_full g.R.S.Space g.R.Records g.O.Order c.args.mode c.args.key.now c.args.value.now c.chosen-given.result.now c.args.self.now c.look.new.self c.args.space.now c.look.new.space c.insert.new.space
    c.look.ensures.looks (λ ps h. put_given g.R.S.Space g.R.Records g.O.Order c.args.mode c.args.key.now c.args.value.now c.chosen-given.result.now _ ps c.chosen-given.ensures (c.in_ok-joined.ensures.tells.0 ps h)) (λ keep ps h. (c.in_ok-joined.ensures.tells.0 ps h).absent keep)
    (c.in_err-insert.ensures.full (full_told c.from_residual-in_err-insert.result c.in_err-insert.field-0.0 c.from_residual-in_err-insert.ensures.1 full))
