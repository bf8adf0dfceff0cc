use Rattle.std.proofs.Common.{◌≡◌, fold}
use Rattle.tc_memdb.specs.Holding.{contents_of, push}
use Rattle.tc_memdb.proofs.data.Data.push_each.Given as goal

abbrev pub invariant-loop-pair : goal.invariant-loop-pair
invariant-loop-pair l = contents_of l.self ≡ fold (λ c p. push c p.key p.value) (contents_of l.fn.self) l.yielded
