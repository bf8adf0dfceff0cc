use Rattle.std.proofs.Common.{◌∙◌, ◌-◌, length, take, drop, ap, arith}
use Rattle.tc_realfs.proofs.Showing.{read_within}
use Rattle.tc_realfs.proofs.paged.take_from.Goals as goal

pub returns : goal.returns
returns c = λ file e.
    c.copy_from_slice.ensures.after
    ∙ ap (λ n. take n (drop (c.args.at - c.args.start) c.args.bytes.now)) (omega arith)
    ∙ read_within c.args.start c.args.at (length c.args.into.now) c.args.bytes.now file c.requires.behind c.requires.inside e
