use Rattle.std.proofs.Common.{length, arith}
use Rattle.hf_survey.proofs.Rows.{entries_read}
use Rattle.hf_survey.proofs.naming.entries.Goals as goal

pub returns-clause-places : goal.returns-clause-places
returns-clause-places g c = λ t. entries_read c.args.head.now c.unit.result c.width-width.result c.args.first (length c.args.places.now) (g.S.Space.now c.args.space.now c.args.file) c.get.result.now c.decode.new.places c.unit.ensures c.width-width.ensures.value
    (c.get.ensures.shows (g.S.Space.now c.args.space.now c.args.file) (c.in_ok-fill.ensures.shows t (c.requires.looks.shows t))) (omega (arith, c.decode.auto.places)) c.decode.ensures
