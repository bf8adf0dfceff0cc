use Rattle.bt_tree.proofs.Settles.{head_written, written}
use Rattle.bt_tree.proofs.settling.region_of.Goals as goal

pub returns-clause-numbers : goal.returns-clause-numbers
returns-clause-numbers c = head_written c.args.head.now _ _ _ _ _ _ _ _
    c.put_limit.ensures.after c.put_limit-2.ensures.after c.put_number.ensures.after c.put_number-2.ensures.after c.put_number-3.ensures.after c.put_number-4.ensures.after c.put_number-5.ensures.after c.put_number-6.ensures.after
    c.put_limit.ensures.read_back c.put_limit-2.ensures.read_back c.put_number.ensures.read_back c.put_number-2.ensures.read_back c.put_number-3.ensures.read_back c.put_number-4.ensures.read_back c.put_number-5.ensures.read_back c.put_number-6.ensures.read_back

pub returns-clause-spelled : goal.returns-clause-spelled
returns-clause-spelled c = written c.args.head.now _ _ _ _ _ _ _ _
    c.put_limit.ensures.after c.put_limit-2.ensures.after c.put_number.ensures.after c.put_number-2.ensures.after c.put_number-3.ensures.after c.put_number-4.ensures.after c.put_number-5.ensures.after c.put_number-6.ensures.after
