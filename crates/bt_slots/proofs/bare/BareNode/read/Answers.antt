use Rattle.std.proofs.Common.{List, ℕ, subst}
use Rattle.bt_page.specs.Pages.{node_bytes, NodeFits}
use Rattle.bt_page.specs.Spelled.{Spells}
use Rattle.bt_slots.specs.Reads.{node_in}
use Rattle.bt_slots.proofs.BareReads.{node_kept}
use Rattle.bt_slots.proofs.bare.BareNode.read.Goals as goal

pub invariant_of-result : goal.invariant_of-result
invariant_of-result c =
    let r = c.in-Ok.ensures.found in
    node_kept c.args.bytes c.in-Ok.count r.0 r.1 (subst (λ (b : List ℕ). Spells NodeFits node_bytes b r.0) c.as_slice.ensures r.2)

pub returns-clause-found : goal.returns-clause-found
returns-clause-found c =
    let r = c.in-Ok.ensures.found in
    node_kept c.args.bytes c.in-Ok.count r.0 r.1 (subst (λ (b : List ℕ). Spells NodeFits node_bytes b r.0) c.as_slice.ensures r.2)
