use Rattle.std.proofs.Common.{◌≡◌, ◌∙◌, ◌++◌, [], sym, ap, rules}
use Rattle.std.proofs.lemmas.List.{append-nil}
use Rattle.std.specs.Map.{keys_of}
use Rattle.std.specs.FinMap as map
use Rattle.tc_base.specs.Maps.{Map}
use Rattle.tc_maps.proofs.Mapped.{same_keys}
use Rattle.tc_memstores.proofs.rows.Rows.keys.Goals as goal

pub returns : goal.returns
returns c =
    let all : c.loop-key.found ++ [] ≡ c.into_iter-key-iterator.result = rw c.in-None.ensures.steps.0 at c.loop-key.invariant in
    let start : c.into_iter-key-iterator.result ≡ keys_of c.self.inside.entries.entries = search rules in
    let same : map.keys c.args.self.now ≡ keys_of c.self.inside.entries.entries = sym (ap (λ (m : Map). map.keys m) c.self.view_is) ∙ same_keys _ c.keys-key-items.ensures.ordered in
    sym (append-nil _) ∙ all ∙ start ∙ sym same
