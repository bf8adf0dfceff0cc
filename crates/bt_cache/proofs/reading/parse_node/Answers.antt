use Rattle.bt_cache.proofs.Kept.{node_one}
use Rattle.bt_cache.proofs.reading.parse_node.Goals as goal

pub returns-in_ok-new-in-Ok : goal.returns-in_ok-new-in-Ok
returns-in_ok-new-in-Ok c = λ p h. node_one c.args.id c.args.bytes c.in-Ok.node _ p c.requires c.in-Ok.ensures.found c.in_ok-new-in-Ok.ensures.ok h
