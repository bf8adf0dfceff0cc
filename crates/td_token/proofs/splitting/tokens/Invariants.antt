use Rattle.std.proofs.Common.{◌≡◌, length}
use Rattle.std.specs.Prelude.{fold}
use Rattle.tc_model.specs.Texts.{distinct, tokens, with_text}
use Rattle.td_token.proofs.splitting.tokens.Given as goal

abbrev pub invariant-loop-token : goal.invariant-loop-token
invariant-loop-token l = record {
  same : l.found ≡ l.seen;
  so_far : fold with_text l.seen (tokens l.rest) ≡ distinct (tokens l.text);
}

abbrev pub decreases-loop-token : goal.decreases-loop-token
decreases-loop-token l = length l.rest
