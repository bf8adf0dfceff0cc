use Rattle.std.proofs.Common.{◌≡◌, ◌∙◌, ◌++◌, [], sym, ap, rules}
use Rattle.std.proofs.lemmas.List.{append-nil}
use Rattle.std.specs.Map.{keys_of}
use Rattle.tc_base.specs.Lists.{keys}
use Rattle.tc_maps.proofs.Seen.{keys_seen}
use Rattle.tc_maps.proofs.multimap.Multimap.keys.Goals as goal

pub returns : goal.returns
returns c =
    let all : c.loop-key.found ++ [] ≡ c.into_iter-key-iterator.result = rw c.in-None.ensures.steps.0 at c.loop-key.invariant in
    let start : c.into_iter-key-iterator.result ≡ keys_of c.self.inside.entries.entries = search rules in
    let same : keys c.args.self.now ≡ keys_of c.self.inside.entries.entries = sym (ap keys c.self.view_is) ∙ keys_seen _ c.keys-key-items.ensures.ordered in
    sym (append-nil _) ∙ all ∙ start ∙ sym same
