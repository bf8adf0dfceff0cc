use Rattle.std.proofs.Common.{◌-◌, ◌≤◌, []}
use Rattle.tc_space.specs.Frames.{OnlyReads}
use Rattle.hf_block.specs.Walks.{between}
use Rattle.hf_survey.specs.Passes.{Looks}
use Rattle.hf_survey.specs.Surveys.{Passed, Stand}
use Rattle.hf_survey.proofs.surveying.survey_blocks.Given as goal

abbrev pub invariant-loop-at : goal.invariant-loop-at
invariant-loop-at g l = record {
  reads : OnlyReads g.S.Space l.initial.space l.space;
  looks : Looks g.S.Space l.space l.file l.window;
  low : l.head.first ≤ l.at;
  high : l.at ≤ l.head.size;
  stand : Stand l.head l.at l.found;
  passed : g.S.Space.tells → Passed l.head l.head.first l.at (between l.head.first l.head.size (g.S.Space.now l.initial.space l.file)) (record { facts = []; frees = [] }) l.found;
}

abbrev pub decreases-loop-at : goal.decreases-loop-at
decreases-loop-at g l = l.head.size - l.at
