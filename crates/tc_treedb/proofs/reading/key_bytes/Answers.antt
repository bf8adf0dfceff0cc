use Rattle.std.proofs.Common.{refl}
use Rattle.tc_base.specs.Lists.{values}
use Rattle.tc_treedb.specs.Reading.{bytes_in, pairs_of}
use Rattle.tc_treedb.proofs.Looked.{looks_asks}
use Rattle.tc_treedb.proofs.Readings.{bytes_answered, bytes_found}
use Rattle.tc_treedb.proofs.reading.key_bytes.Goals as goal

pub returns-in_err-_held-clause-looks : goal.returns-in_err-_held-clause-looks
returns-in_err-_held-clause-looks g c = looks_asks g.R.S.Space g.R.Records g.O.Order _ _ _ _ _ _ _ c.show.ensures.asks

pub returns-clause-value : goal.returns-clause-value
returns-clause-value g c = bytes_answered c.show.new.taker.bytes (λ ps. bytes_in (pairs_of c.args.key.now ps)) (λ ps h. bytes_found c.args.key.now (values ps c.args.key.now) _ _ c.show.new.taker refl (c.in_ok-_held.ensures.shown ps h))

pub returns-clause-looks : goal.returns-clause-looks
returns-clause-looks g c = looks_asks g.R.S.Space g.R.Records g.O.Order _ _ _ _ _ _ _ c.show.ensures.asks
