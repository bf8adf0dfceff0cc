use Rattle.std.proofs.Common.{◌∙◌, Bool, ap, false, inr, subst, sym}
use Rattle.std.specs.Prelude.{unwrap_or}
use Rattle.tc_space.specs.Frames.{keeps_then}
use Rattle.tc_space.specs.Stores.{ready_reads}
use Rattle.bt_tree.specs.Meaning.{Means}
use Rattle.bt_page.proofs.Runs.{err_handed, on_err_any}
use Rattle.bt_ways.specs.Changes.{removed}
use Rattle.tc_treedb.specs.Changing.{Takes, after, taken_in}
use Rattle.tc_treedb.proofs.Stored.{fills_as, fills_behind, fills_here, fills_remove, has_it, less_behind, less_looked, none_at, none_is, refuses_behind, some_is, taken_held, taken_none, takes_looked, takes_removed}
use Rattle.tc_treedb.proofs.storing.take_first.Goals as goal

pub returns-in_err-len-clause-refused : goal.returns-in_err-len-clause-refused
returns-in_err-len-clause-refused g c = on_err_any _ (inr c.first_len.ensures.looks.reads)

pub returns-in_err-len-clause-stays : goal.returns-in_err-len-clause-stays
returns-in_err-len-clause-stays g c = less_looked g.R.S.Space g.R.Records g.O.Order _ _ _ _ c.first_len.ensures.looks

pub returns-then-is_none-clause-takes : goal.returns-then-is_none-clause-takes
returns-then-is_none-clause-takes g c = takes_looked g.R.S.Space g.R.Records g.O.Order (taken_in g.O.Order.cmp c.args.key.now) _ _ _ _ c.first_len.ensures.looks
    (λ ps h. taken_none g.O.Order.cmp c.args.key.now ps c.in_ok-len.len (c.in_ok-len.ensures.value ps h) (none_is c.in_ok-len.len _ c.is_none.ensures c.if-is_none.true))

pub returns-then-is_none-clause-len : goal.returns-then-is_none-clause-len
returns-then-is_none-clause-len g c = λ ps h. none_at c.in_ok-len.len _ c.is_none.ensures c.if-is_none.true ∙ c.in_ok-len.ensures.value ps h

pub returns-then-is_none-clause-stays : goal.returns-then-is_none-clause-stays
returns-then-is_none-clause-stays g c = less_looked g.R.S.Space g.R.Records g.O.Order _ _ _ _ c.first_len.ensures.looks

pub remove-requires : goal.remove-requires
remove-requires g c = ready_reads g.R.S.Space (Means g.R.S.Space g.R.Records g.O.Order) _ _ _ _ c.first_len.ensures.looks.reads (record { sound = c.requires.sound; held = c.requires.held })

pub returns-in_err-remove-clause-refused : goal.returns-in_err-remove-clause-refused
returns-in_err-remove-clause-refused g c = on_err_any _ (refuses_behind g.R.S.Space g.R.Records g.O.Order _ _ _ _ _ _ c.first_len.ensures.looks c.in_err-remove.ensures.refused)

pub returns-in_err-remove-clause-full : goal.returns-in_err-remove-clause-full
returns-in_err-remove-clause-full g c = λ full.
    fills_as g.R.S.Space g.R.Records g.O.Order (removed g.O.Order.cmp false c.args.key.now) (after (taken_in g.O.Order.cmp c.args.key.now)) _ _ _
    (λ ps h. sym (ap (λ o. unwrap_or o ps) (taken_held g.O.Order.cmp c.args.key.now ps c.in_ok-len.len (c.in_ok-len.ensures.value ps h) (some_is c.in_ok-len.len _ c.is_none.ensures c.if-is_none.false))))
    (fills_behind g.R.S.Space g.R.Records g.O.Order (removed g.O.Order.cmp false c.args.key.now) _ _ _ _ _ c.first_len.ensures.looks
    (fills_here g.R.S.Space g.R.Records g.O.Order (removed g.O.Order.cmp false c.args.key.now) _ _ _ c.remove.ensures.keeps
    (fills_remove g.R.S.Space g.R.Records g.O.Order false c.args.key.now _ _ _ (c.in_err-remove.ensures.full (err_handed c.from_residual-in_err-remove.result c.in_err-remove.field-0.0 _ c.from_residual-in_err-remove.ensures.1 full)))))

pub returns-in_err-remove-clause-keeps : goal.returns-in_err-remove-clause-keeps
returns-in_err-remove-clause-keeps g c = keeps_then g.R.S.Space _ _ _ c.first_len.ensures.looks.keeps c.remove.ensures.keeps

pub returns-in_err-remove-clause-stays : goal.returns-in_err-remove-clause-stays
returns-in_err-remove-clause-stays g c = less_behind g.R.S.Space g.R.Records g.O.Order _ _ _ _ _ c.first_len.ensures.looks c.remove.ensures.stays c.remove.ensures.ids

pub returns-clause-takes : goal.returns-clause-takes
returns-clause-takes g c =
    let some = some_is c.in_ok-len.len _ c.is_none.ensures c.if-is_none.false in
    subst (λ (b : Bool). Takes g.R.S.Space g.R.Records g.O.Order (taken_in g.O.Order.cmp c.args.key.now) b c.args.tree.now c.remove.new.self c.args.space.now c.remove.new.space) (sym some)
    (takes_removed g.R.S.Space g.R.Records g.O.Order false c.args.key.now _ _ _ _ _ _ _ (taken_in g.O.Order.cmp c.args.key.now) c.first_len.ensures.looks c.in_ok-remove.ensures.out
    (λ ps h. (has_it c.args.key.now ps c.in_ok-len.len (c.in_ok-len.ensures.value ps h) some, taken_held g.O.Order.cmp c.args.key.now ps c.in_ok-len.len (c.in_ok-len.ensures.value ps h) some)))

pub returns-clause-keeps : goal.returns-clause-keeps
returns-clause-keeps g c = keeps_then g.R.S.Space _ _ _ c.first_len.ensures.looks.keeps c.remove.ensures.keeps

pub returns-clause-stays : goal.returns-clause-stays
returns-clause-stays g c = less_behind g.R.S.Space g.R.Records g.O.Order _ _ _ _ _ c.first_len.ensures.looks c.remove.ensures.stays c.remove.ensures.ids
