use Rattle.bt_page.proofs.Written.{node_written}
use Rattle.bt_page.proofs.writing.put_node.Goals as goal

pub returns-clause-ok : goal.returns-clause-ok
returns-clause-ok c = node_written c.args.into.now _ c.put_entries.new.into c.as_slice.result.now c.args.node.now c.in_ok-put_vnum.ensures.ok c.in_ok-put_entries.ensures.ok c.as_slice.ensures
