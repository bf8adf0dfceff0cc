use Rattle.std.proofs.Common.{◌≡◌, drop}
use Rattle.std.specs.Prelude.{fold}
use Rattle.tc_model.specs.Texts.{distinct, with_text}
use Rattle.td_token.proofs.sets.set_of.Given as goal

abbrev pub invariant-loop-text : goal.invariant-loop-text
invariant-loop-text l = fold with_text l.seen (drop l.text-index l.texts) ≡ distinct l.texts
