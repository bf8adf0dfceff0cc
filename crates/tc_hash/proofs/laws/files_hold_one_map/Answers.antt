use Rattle.tc_hash.proofs.OneMap.{one_map}
use Rattle.tc_hash.proofs.laws.files_hold_one_map.Goals as goal

pub returns : goal.returns
returns g c = one_map g.S.Space
