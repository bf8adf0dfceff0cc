use Rattle.std.proofs.Common.{List, ℕ, subst}
use Rattle.bt_page.specs.Pages.{leaf_bytes, LeafFits}
use Rattle.bt_page.specs.Spelled.{Spells}
use Rattle.bt_slots.specs.Reads.{leaf_in}
use Rattle.bt_slots.proofs.BareReads.{leaf_kept}
use Rattle.bt_slots.proofs.bare.BareLeaf.read.Goals as goal

pub invariant_of-result : goal.invariant_of-result
invariant_of-result c =
    let r = c.in-Ok.ensures.found in
    leaf_kept c.args.bytes c.in-Ok.count r.0 r.1 (subst (λ (b : List ℕ). Spells LeafFits leaf_bytes b r.0) c.as_slice.ensures r.2)

pub returns-clause-found : goal.returns-clause-found
returns-clause-found c =
    let r = c.in-Ok.ensures.found in
    leaf_kept c.args.bytes c.in-Ok.count r.0 r.1 (subst (λ (b : List ℕ). Spells LeafFits leaf_bytes b r.0) c.as_slice.ensures r.2)
