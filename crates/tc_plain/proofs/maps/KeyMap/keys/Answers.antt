use Rattle.std.proofs.Common.{◌≡◌, ◌∙◌, ◌++◌, [], sym, ap, rules}
use Rattle.std.specs.Ordering.{nat_cmp}
use Rattle.std.specs.Cmp.Lexicographic.{slice_cmp, nat_list_cmp_total}
use Rattle.std.proofs.lemmas.Map.Lookups.{exact_bytes}
use Rattle.std.proofs.lemmas.List.{append-nil}
use Rattle.std.specs.Map.{keys_of}
use Rattle.std.specs.FinMap as map
use Rattle.tc_plain.proofs.Entries.{same_keys}
use Rattle.tc_plain.proofs.maps.KeyMap.keys.Goals as goal

pub returns : goal.returns
returns g c =
    let all : c.loop-key.keys ++ [] ≡ c.into_iter-key-iterator.result = rw c.in-None.ensures.steps.0 at c.loop-key.invariant in
    let start : c.into_iter-key-iterator.result ≡ keys_of c.self.inside.pairs.entries = search rules in
    let same : map.keys c.args.self.now ≡ keys_of c.self.inside.pairs.entries = sym (ap (λ m. map.keys m) c.self.view_is) ∙ same_keys (slice_cmp nat_cmp) nat_list_cmp_total exact_bytes _ c.keys-key-items.ensures.ordered in
    sym (append-nil _) ∙ all ∙ start ∙ sym same
