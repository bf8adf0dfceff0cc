use Rattle.std.proofs.Common.{◌≡◌, ◌≢◌, rules, arith, []}
use Rattle.ty_base.proofs.Refusals.{err_is}
use Rattle.tk_mgr.proofs.Ends.{ready_looks}
use Rattle.tk_mgr.proofs.Printing.{lists_more, lists_stop, lists_end, lists_lost, some_rest, none_rest}
use Rattle.tk_mgr.proofs.listing.print_lines.Goals as goal

pub returns-in_err-print_line-clause-listed : goal.returns-in_err-print_line-clause-listed
returns-in_err-print_line-clause-listed g c =
    let some : c.loop-rest.rest.now ≢ [] = some_rest c.loop-rest.rest.now c.is_empty.result c.is_empty.ensures (search rules) in
    rw (err_is c.from_residual.result _ c.from_residual.ensures.1) (lists_stop g.B.S.Space g.B.Storage.holds c.args.values _ c.loop-rest.base _ c.loop-rest.space _ _ c.in-Ok.key.now c.in-Ok.more.now _ _ _ _ c.in_err-print_line.field-0.0 some c.in-Ok.ensures.item c.loop-rest.invariant.lists c.in_err-print_line.ensures.stops)

pub loop-rest-preserved : goal.loop-rest-preserved
loop-rest-preserved g c =
    let some : c.loop-rest.rest.now ≢ [] = some_rest c.loop-rest.rest.now c.is_empty.result c.is_empty.ensures (search rules) in
    let p = c.in_ok-print_line.ensures.printed in
    record {
      lists = lists_more g.B.S.Space g.B.Storage.holds c.args.values _ c.loop-rest.base c.print_line.new.base _ c.loop-rest.space c.print_line.new.space _ _ c.in-Ok.key.now c.in-Ok.more.now _ _ _ _ _ some c.in-Ok.ensures.item c.loop-rest.invariant.lists p;
      later = omega (arith, c.loop-rest.invariant.later, c.print_line.ensures.later);
      ready = ready_looks g.B.S.Space g.B.Storage.holds c.loop-rest.base c.print_line.new.base c.loop-rest.space c.print_line.new.space c.loop-rest.invariant.ready p.looks;
    }

pub returns-clause-listed : goal.returns-clause-listed
returns-clause-listed g c =
    let none : c.loop-rest.rest.now ≡ [] = none_rest c.loop-rest.rest.now c.is_empty.result c.is_empty.ensures (search rules) in
    lists_end g.B.S.Space g.B.Storage.holds c.args.values _ c.loop-rest.base _ c.loop-rest.space _ c.loop-rest.rest.now _ _ _ c.loop-rest.waiting none c.loop-rest.invariant.lists c.in_ok-flush.ensures.ok.0

pub returns-in_err-flush-clause-listed : goal.returns-in_err-flush-clause-listed
returns-in_err-flush-clause-listed g c = rw (err_is c.from_residual-in_err-flush.result _ c.from_residual-in_err-flush.ensures.1) (lists_lost g.B.S.Space g.B.Storage.holds c.args.values _ c.loop-rest.base _ c.loop-rest.space _ c.loop-rest.rest.now _ _ _ c.loop-rest.waiting c.in_err-flush.field-0.0 c.loop-rest.invariant.lists c.in_err-flush.ensures.err)
