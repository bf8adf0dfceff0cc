use Rattle.std.specs.Prelude.{option_map}
use Rattle.tc_maps.specs.Entries.{pairs_at}
use Rattle.tc_engine.specs.Rows.{Extends}
use Rattle.tc_memdb.specs.Walked.{pair_items, is_before}
use Rattle.tc_memdb.proofs.Along.{Along}
use Rattle.tc_memdb.proofs.reading.add_range.Given as goal

abbrev pub invariant-loop-key : goal.invariant-loop-key
invariant-loop-key l = Along pair_items (is_before (option_map (λ k. k.now) l.to)) pairs_at l.fn.most l.fn.rows l.initial.key-iterator l.key-iterator l.left l.rows × Extends l.fn.rows l.rows
