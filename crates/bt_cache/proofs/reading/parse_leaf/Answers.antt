use Rattle.std.proofs.Common.{◌∙◌}
use Rattle.bt_cache.proofs.Kept.{leaf_one}
use Rattle.bt_cache.proofs.reading.parse_leaf.Goals as goal

pub returns-in_ok-new-in-Ok : goal.returns-in_ok-new-in-Ok
returns-in_ok-new-in-Ok c = λ p h. leaf_one c.args.id c.args.bytes c.in-Ok.leaf _ p c.requires c.in-Ok.ensures.found (c.new-in-Ok.ensures ∙ c.in_ok-new-in-Ok.ensures.ok) h
