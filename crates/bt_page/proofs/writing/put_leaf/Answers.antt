use Rattle.bt_page.proofs.Written.{leaf_written}
use Rattle.bt_page.proofs.writing.put_leaf.Goals as goal

pub returns-clause-ok : goal.returns-clause-ok
returns-clause-ok c = leaf_written c.args.into.now _ _ c.put_items.new.into c.as_slice.result.now c.args.leaf.now c.in_ok-put_vnum.ensures.ok c.in_ok-put_vnum-2.ensures.ok c.in_ok-put_items.ensures.ok c.as_slice.ensures
