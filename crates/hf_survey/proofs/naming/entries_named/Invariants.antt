use Rattle.std.proofs.Common.{◌<◌, ℕ}
use Rattle.tc_space.specs.Frames.{OnlyReads}
use Rattle.hf_survey.specs.Passes.{Looks}
use Rattle.hf_survey.specs.Facts.{Names, entry_place}
use Rattle.hf_survey.proofs.naming.entries_named.Given as goal

abbrev pub invariant-loop-bucket : goal.invariant-loop-bucket
invariant-loop-bucket g l = record {
  reads : OnlyReads g.S.Space l.fn.space l.space;
  looks : Looks g.S.Space l.space l.file l.window;
  yes : g.S.Space.tells → (b : ℕ) → b < l.bucket → Names l.facts (entry_place l.head b (g.S.Space.now l.fn.space l.file));
}
