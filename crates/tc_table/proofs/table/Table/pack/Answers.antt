use Rattle.std.proofs.Common.{inl, inr, refl}
use Rattle.td_index.proofs.Handed.{err_handed, on_err_any}
use Rattle.tc_table.proofs.Holding.{rows_ready, table_refuses}
use Rattle.tc_table.proofs.Packed.{formed_done, formed_refused, formed_spoiled, packed}
use Rattle.tc_table.proofs.Settled.{settle_ready}
use Rattle.tc_table.proofs.Turning.{all_stay}
use Rattle.tc_table.proofs.table.Table.pack.Goals as goal

pub pack-requires : goal.pack-requires
pack-requires g c = rows_ready g.R.S.Space g.R.Records g.L.Multi g.D.Multi c.args.self.now c.args.space.now c.requires

pub pack_sides-requires : goal.pack_sides-requires
pack_sides-requires g c = settle_ready g.R.S.Space g.L.Multi g.D.Multi g.R.Records c.args.self.now c.pack.new.self c.args.space.now c.pack.new.space c.in_ok-pack.ensures.packed c.requires

pub returns-clause-packs : goal.returns-clause-packs
returns-clause-packs g c =
    packed g.R.S.Space g.L.Multi g.D.Multi g.R.Records c.args.form c.args.self.now c.pack_sides.new.self c.pack.new.self c.args.space.now c.pack.new.space c.pack_sides.new.space c.pack_sides.ensures.rows c.in_ok-pack.ensures.packed c.in_ok-pack.ensures.tight c.pack.ensures.stays.file c.in_ok-pack_sides.ensures.stays
    c.in_ok-pack_sides.ensures.kept c.in_ok-pack_sides.ensures.tight

pub returns-clause-formed : goal.returns-clause-formed
returns-clause-formed g c = rw c.pack_sides.ensures.rows (formed_done g.R.S.Space.flag g.R.Records.file_of g.R.Records.sort g.R.Records.numbers g.R.Records.region g.R.Records.lead g.R.Records.gets c.args.form c.args.self.now.rows c.pack.new.self _ _ c.pack.new.space c.pack_sides.new.space c.in_ok-pack.ensures.stays)

pub returns-in_err-pack-clause-refused : goal.returns-in_err-pack-clause-refused
returns-in_err-pack-clause-refused g c = on_err_any _ (table_refuses g.R.S.Space g.R.Records g.L.Multi g.D.Multi c.args.self.now _ c.args.space.now c.pack.new.space refl c.pack.ensures.stays.file c.in_err-pack.ensures.refused)

pub returns-in_err-pack-clause-full : goal.returns-in_err-pack-clause-full
returns-in_err-pack-clause-full g c = λ is. c.in_err-pack.ensures.full (err_handed c.from_residual.result c.in_err-pack.field-0.0 _ c.from_residual.ensures.1 is)

pub returns-in_err-pack-clause-formed : goal.returns-in_err-pack-clause-formed
returns-in_err-pack-clause-formed g c = formed_refused g.R.S.Space.flag g.R.Records.file_of g.R.Records.sort g.R.Records.numbers g.R.Records.region g.R.Records.lead g.R.Records.gets c.args.form c.args.self.now.rows c.pack.new.self c.from_residual.result _ _ c.pack.new.space c.from_residual.ensures.1 c.in_err-pack.ensures.stays

pub returns-in_err-pack_sides-clause-refused : goal.returns-in_err-pack_sides-clause-refused
returns-in_err-pack_sides-clause-refused g c = on_err_any _ (inl c.in_err-pack_sides.ensures.spoiled)

pub returns-in_err-pack_sides-clause-full : goal.returns-in_err-pack_sides-clause-full
returns-in_err-pack_sides-clause-full g c = λ is tells. inl (c.in_err-pack_sides.ensures.full (err_handed c.from_residual-in_err-pack_sides.result c.in_err-pack_sides.field-0.0 _ c.from_residual-in_err-pack_sides.ensures.1 is) tells)

pub returns-in_err-pack_sides-clause-formed : goal.returns-in_err-pack_sides-clause-formed
returns-in_err-pack_sides-clause-formed g c = rw c.pack_sides.ensures.rows (formed_spoiled g.R.S.Space.flag g.R.Records.file_of g.R.Records.sort g.R.Records.numbers g.R.Records.region g.R.Records.lead g.R.Records.gets c.args.form c.args.self.now.rows c.pack.new.self _ c.from_residual-in_err-pack_sides.result _ c.pack.new.space c.pack_sides.new.space c.from_residual-in_err-pack_sides.ensures.1 c.in_err-pack_sides.ensures.spoiled c.in_ok-pack.ensures.stays)

pub returns-in_err-pack-clause-left : goal.returns-in_err-pack-clause-left
returns-in_err-pack-clause-left g c = on_err_any _ (inr (all_stay g.R.S.Space g.L.Multi g.D.Multi c.args.self.now.sides.items))

pub returns-in_err-pack_sides-clause-left : goal.returns-in_err-pack_sides-clause-left
returns-in_err-pack_sides-clause-left g c = on_err_any _ (inl c.in_err-pack_sides.ensures.spoiled)
