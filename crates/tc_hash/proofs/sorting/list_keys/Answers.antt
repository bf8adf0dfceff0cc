use Rattle.std.proofs.Common.{List, subst}
use Rattle.std.specs.List.Sorted.{IsPermutation}
use Rattle.hf_tree.specs.Keys.{Key}
use Rattle.tc_hash.proofs.sorting.list_keys.Goals as goal

pub read_keys-requires-clause-listed : goal.read_keys-requires-clause-listed
read_keys-requires-clause-listed g c = λ t. let w = c.requires.filled t in record { pieces = w.0; is = c.in_ok-listed.ensures.listed t w.0 w.1 }

pub returns-clause-keys : goal.returns-clause-keys
returns-clause-keys g c = λ t ps has. subst (λ (k : List Key). IsPermutation k c.sorted.result) (c.in_ok-keys.ensures.keys t ps (c.in_ok-listed.ensures.listed t ps has)) c.sorted.ensures.same
