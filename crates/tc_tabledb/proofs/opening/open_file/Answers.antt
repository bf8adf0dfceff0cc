use Rattle.tc_space.specs.Frames.{only_reads_refl}
use Rattle.std.proofs.Common.{inl, inr, refl, arith}
use Rattle.std.proofs.lemmas.Result.{on_ok_weaker}
use Rattle.tc_tabledb.proofs.Places.{no_length, some_bytes}
use Rattle.tc_tabledb.proofs.Opened.{place_data}
use Rattle.tc_tabledb.proofs.opening.open_file.Goals as goal

pub len-requires-clause-sound : goal.len-requires-clause-sound
len-requires-clause-sound g c = c.requires.listed.sound

pub len-requires-clause-file : goal.len-requires-clause-file
len-requires-clause-file g c = place_data c.args.file c.requires.place

pub returns-then-len-eq0-clause-opened : goal.returns-then-len-eq0-clause-opened
returns-then-len-eq0-clause-opened g c = inl ((λ t. no_length (g.S.Space.now c.args.space.now c.args.file) c.len.result (c.len.ensures t) c.if-len-eq0.true), refl)

pub open_index-requires-clause-some : goal.open_index-requires-clause-some
open_index-requires-clause-some g c = λ t. some_bytes (g.S.Space.now c.args.space.now c.args.file) c.len.result (c.len.ensures t) (omega (arith, c.if-len-eq0.false))

pub returns-clause-opened : goal.returns-clause-opened
returns-clause-opened g c = on_ok_weaker c.open_index.result (λ takes. inr takes) c.open_index.ensures.opened

pub returns-then-len-eq0-clause-reads : goal.returns-then-len-eq0-clause-reads
returns-then-len-eq0-clause-reads g c = only_reads_refl g.S.Space c.args.space.now c.requires.listed.sound
