use Rattle.std.proofs.Common.{ℕ, List, sym, subst}
use Rattle.hf_block.specs.Pieces.{Piece}
use Rattle.hf_tree.specs.Listing.{AreListed}
use Rattle.tc_hash.proofs.Opened.{fills_blocks}
use Rattle.tc_hash.proofs.Unique.{one_blocks}
use Rattle.tc_hash.proofs.walking.list_blocks.Goals as goal

pub walk-requires-clause-inside : goal.walk-requires-clause-inside
walk-requires-clause-inside g c = λ t. (c.requires.filled t).1.within

pub returns-in-Ok-clause-listed : goal.returns-in-Ok-clause-listed
returns-in-Ok-clause-listed g c = λ t ps has.
    let h = c.args.head.now in
    let f : List ℕ = g.S.Space.now c.args.space.now c.args.file in
    let l = c.in-Ok.ensures.listed t in
    let filled = fills_blocks h l.0 f l.1 has.on has.within in
    let are : AreListed h ps f c.in-Ok.listed = subst (λ (x : List Piece). AreListed h x f c.in-Ok.listed) (one_blocks h h.size l.0 ps f filled has) (record { has = filled; listed = l.2 }) in
    subst (λ (b : List ℕ). AreListed h ps b c.in-Ok.listed) (sym (c.walk.ensures.reads.files t c.args.file)) are
