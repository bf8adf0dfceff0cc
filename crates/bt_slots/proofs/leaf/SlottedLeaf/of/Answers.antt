use Rattle.std.proofs.Common.{◌∙◌, ◌++◌, ap, List, ℕ}
use Rattle.bt_page.specs.Pages.{leaf_bytes}
use Rattle.bt_page.proofs.AtFronts.{leaf_only}
use Rattle.bt_slots.proofs.leaf.SlottedLeaf.of.Goals as goal

pub returns-in-Ok : goal.returns-in-Ok
returns-in-Ok c =
    leaf_only c.write_leaf.new.into c.args.leaf.now c.in-Ok.leaf
    (record { fits = c.in_ok-write_leaf.ensures.fits; is = c.in_ok-write_leaf.ensures.ok ∙ ap (λ (l : List ℕ). l ++ leaf_bytes c.args.leaf.now) c.new-bytes.ensures })
    c.in-Ok.ensures.found
