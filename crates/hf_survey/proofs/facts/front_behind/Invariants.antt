use Rattle.std.proofs.Common.{◌≡◌, ◌-◌, ◌≤◌, take, drop}
use Rattle.std.specs.List.{fold}
use Rattle.tc_base.specs.Hashes.{front_step}
use Rattle.tc_space.specs.Frames.{OnlyReads}
use Rattle.hf_survey.specs.Passes.{LooksAt}
use Rattle.hf_survey.proofs.facts.front_behind.Given as goal

abbrev pub invariant-loop-done : goal.invariant-loop-done
invariant-loop-done g l = record {
  reads : OnlyReads g.S.Space l.initial.space l.space;
  looks : LooksAt g.S.Space l.space l.file l.start l.long l.window;
  within : l.done ≤ l.long;
  hash : g.S.Space.tells → l.hash ≡ fold front_step 19780211 (take l.done (drop l.start (g.S.Space.now l.initial.space l.file)));
}

abbrev pub decreases-loop-done : goal.decreases-loop-done
decreases-loop-done g l = l.long - l.done
