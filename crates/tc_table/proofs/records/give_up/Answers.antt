use Rattle.tc_table.proofs.Turning.{given_up}
use Rattle.tc_table.proofs.records.give_up.Goals as goal

pub returns : goal.returns
returns g c = given_up g.S.Space c.args.space.now c.spoil.new.self c.spoil.ensures.spoiled c.spoil.ensures.stays c.spoil.ensures.now c.spoil.ensures.log c.spoil.ensures.brought
