use Rattle.ud_log.proofs.Exactness.{grammar_is_exact}
use Rattle.ud_log.proofs.laws.grammar_is_exact.Goals as goal

pub returns : goal.returns
returns c = grammar_is_exact
