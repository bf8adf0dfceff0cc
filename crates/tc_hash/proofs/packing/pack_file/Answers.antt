use Rattle.std.proofs.Common.{◌≡◌, ◌∙◌, ℕ, List, take, ap}
use Rattle.tc_hash.proofs.Packed.{packs_blocks}
use Rattle.tc_hash.proofs.Stored.{from_done, from_ok}
use Rattle.tc_hash.proofs.packing.pack_file.Goals as goal

pub returns-clause-packed : goal.returns-clause-packed
returns-clause-packed g c = from_ok _ c.pack_blocks.ensures.packed (λ end packs. packs_blocks g.S.Space c.args.head.now c.args.file c.args.space.now c.list_blocks.new.space c.pack_blocks.new.space c.in_ok-blocks.blocks end c.list_blocks.ensures.reads c.in_ok-blocks.ensures.listed packs)

pub returns-clause-head : goal.returns-clause-head
returns-clause-head g c =
    let old : List ℕ = g.S.Space.now c.args.space.now c.args.file in
    let read : List ℕ = g.S.Space.now c.list_blocks.new.space c.args.file in
    let new : List ℕ = g.S.Space.now c.pack_blocks.new.space c.args.file in
    let behind : (g.S.Space.tells → take 256 new ≡ take 256 read) → g.S.Space.tells → take 256 new ≡ take 256 old = λ left t. left t ∙ ap (λ (l : List ℕ). take 256 l) (c.list_blocks.ensures.reads.files t c.args.file) in
    from_done _ c.pack_blocks.ensures.head behind
