use Rattle.td_row.proofs.Written.{column_written}
use Rattle.td_row.proofs.bytes.write_column.Goals as goal

pub returns-clause-ok : goal.returns-clause-ok
returns-clause-ok c = column_written c.args.into.now _ _ _ c.append-2.new.self c.args.name.now c.args.value.now c.in_ok-put_vnum.ensures.ok c.in_ok-put_vnum-2.ensures.ok c.in_ok-append.ensures.ok c.in_ok-append-2.ensures.ok
