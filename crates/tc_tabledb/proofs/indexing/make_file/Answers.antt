use Rattle.std.proofs.Common.{◌∙◌, arith}
use Rattle.td_index.proofs.Handed.{err_handed}
use Rattle.tc_tabledb.proofs.Made.{column_lacks, file_made, file_ready, sections_lack}
use Rattle.tc_tabledb.proofs.indexing.make_file.Goals as goal

pub create-requires-clause-numbers : goal.create-requires-clause-numbers
create-requires-clause-numbers g c = record {
  kind_most = omega arith;
  kind_known = λ e. absurd (omega (arith, e));
  apow_least = omega arith;
  apow_most = omega arith;
  fpow_most = omega arith;
  some_buckets = omega arith;
  few_buckets = omega arith;
}

pub put_column-requires : goal.put_column-requires
put_column-requires g c = file_ready g.S.Space c.args.file c.in_ok-hash.hash c.args.space.now c.create.new.space c.in_ok-hash.ensures.file.0 c.in_ok-hash.ensures.created

pub returns-in_err-hash-clause-full : goal.returns-in_err-hash-clause-full
returns-in_err-hash-clause-full g c = λ full t. sections_lack g.S.Space c.args.file c.args.kind c.args.name.now c.args.space.now c.create.new.space c.create.ensures.keeps.same_limit (c.in_err-hash.ensures.full (err_handed c.from_residual-in_err-hash.result c.in_err-hash.field-0.0 _ c.from_residual-in_err-hash.ensures.1 full))

pub returns-in_err-put_column-clause-full : goal.returns-in_err-put_column-clause-full
returns-in_err-put_column-clause-full g c = λ full t. column_lacks g.S.Space c.args.file c.args.kind c.args.name.now c.as_slice.result.now c.in_ok-hash.hash c.args.space.now c.create.new.space c.put_column.new.space c.in_ok-hash.ensures.file.0 c.in_ok-hash.ensures.file.1 c.in_ok-hash.ensures.created (c.as_slice.ensures ∙ c.in_ok-bytes.ensures)
    (c.in_err-put_column.ensures.full (err_handed c.from_residual-in_err-put_column.result c.in_err-put_column.field-0.0 _ c.from_residual-in_err-put_column.ensures.1 full)) t

pub returns-clause-made : goal.returns-clause-made
returns-clause-made g c = file_made g.S.Space c.args.file c.args.kind c.args.name.now c.as_slice.result.now c.in_ok-hash.hash c.put_column.new.hash c.args.space.now c.create.new.space c.put_column.new.space c.in_ok-hash.ensures.file.0 c.in_ok-hash.ensures.file.1 c.in_ok-hash.ensures.created (c.as_slice.ensures ∙ c.in_ok-bytes.ensures) c.in_ok-put_column.ensures.put c.put_column.ensures.stays
