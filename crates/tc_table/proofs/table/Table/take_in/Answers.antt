use Rattle.std.proofs.Common.{refl}
use Rattle.td_index.proofs.Handed.{err_handed}
use Rattle.tc_table.proofs.Added.{full_in, new_still, was_added, was_listed}
use Rattle.tc_table.proofs.table.Table.take_in.Goals as goal

pub keys-requires : goal.keys-requires
keys-requires g c = c.requires.ready

pub fill-requires-clause-sound : goal.fill-requires-clause-sound
fill-requires-clause-sound g c = c.keys.ensures.reads.sound

pub fill-requires-clause-listed : goal.fill-requires-clause-listed
fill-requires-clause-listed g c = was_listed g.R.S.Space g.R.Records g.L.Multi g.D.Multi c.in_ok-row_keys.row_keys c.as_slice.result.now c.args.self.now c.keys.new.self c.args.space.now c.keys.new.space c.requires.ready c.keys.ensures.reads c.in_ok-row_keys.ensures.value c.as_slice.ensures

pub fill-requires-clause-new : goal.fill-requires-clause-new
fill-requires-clause-new g c = new_still g.R.S.Space g.R.Records g.L.Multi g.D.Multi c.args.side c.args.self.now c.keys.new.self c.args.space.now c.keys.new.space c.keys.ensures.reads c.keys.ensures.stays c.requires.new

pub returns-clause-adds : goal.returns-clause-adds
returns-clause-adds g c =
    was_added g.R.S.Space g.R.Records g.L.Multi g.D.Multi c.in_ok-row_keys.row_keys c.as_slice.result.now c.args.side c.fill.new.side c.args.self.now c.keys.new.self c.fill.new.self _ c.args.space.now c.keys.new.space c.fill.new.space c.keys.ensures.reads c.keys.ensures.stays c.fill.ensures.stays c.in_ok-row_keys.ensures.value c.as_slice.ensures
    c.in_ok-fill.ensures.fills c.fill.ensures.side c.requires.new.away refl c.in-Ok.ensures.items

pub returns-in_err-fill-clause-full : goal.returns-in_err-fill-clause-full
returns-in_err-fill-clause-full g c = λ is.
    full_in g.R.S.Space g.R.Records g.L.Multi g.D.Multi g.L.O.Order.cmp g.D.O.Order.cmp c.in_ok-row_keys.row_keys c.as_slice.result.now c.args.side c.args.self.now c.keys.new.self c.args.space.now c.keys.new.space c.fill.new.space c.keys.ensures.reads c.keys.ensures.keeps c.in_ok-row_keys.ensures.value c.as_slice.ensures
    (c.in_err-fill.ensures.full (err_handed c.from_residual-in_err-fill.result c.in_err-fill.field-0.0 _ c.from_residual-in_err-fill.ensures.1 is))
