use Rattle.hf_head.specs.Heads.{unit}
use Rattle.hf_pack.specs.Moving.{renamed}
use Rattle.hf_pack.proofs.Renamed.{head_left, repacked}
use Rattle.hf_pack.proofs.packing.pack_with.Goals as goal

pub returns-clause-packed : goal.returns-clause-packed
returns-clause-packed g c = λ t ps places listed hang new.
    repacked c.args.head.now ps places (g.S.Space.now c.args.space.now c.args.file) (g.S.Space.now c.pack_records.new.space c.args.file) (g.S.Space.now c.pack_entries.new.space c.args.file) c.in_ok-end.end _ c.requires.ready.valid listed.has hang (λ i n. renamed (unit c.args.head.now) (λ q. new q i) n) (c.in_ok-end.ensures.packed t ps listed) (c.in_ok-pack_entries.ensures.renamed t) (c.in_ok-pack_entries.ensures.low t)

pub returns-clause-head : goal.returns-clause-head
returns-clause-head g c = λ t.
    let w = c.requires.listed t in
    head_left c.args.head.now w.pieces (g.S.Space.now c.args.space.now c.args.file) (g.S.Space.now c.pack_records.new.space c.args.file) (g.S.Space.now c.pack_entries.new.space c.args.file) _ _ c.in_ok-end.end _ c.requires.ready.valid w.is.has (c.in_ok-end.ensures.packed t w.pieces w.is) (c.in_ok-pack_entries.ensures.renamed t)
