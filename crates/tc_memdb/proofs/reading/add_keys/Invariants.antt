use Rattle.std.proofs.Common.{◌∷◌, []}
use Rattle.std.specs.Prelude.{nat_eq}
use Rattle.std.specs.List.{starts_with}
use Rattle.tc_engine.specs.Rows.{Extends}
use Rattle.tc_memdb.specs.Walked.{key_items}
use Rattle.tc_memdb.proofs.Along.{Along}
use Rattle.tc_memdb.proofs.reading.add_keys.Given as goal

abbrev pub invariant-loop-key : goal.invariant-loop-key
invariant-loop-key g l = Along key_items (λ k. starts_with nat_eq k l.prefix) (λ e. e.0 ∷ []) l.fn.most l.fn.rows l.initial.key-iterator l.key-iterator l.left l.rows × Extends l.fn.rows l.rows
