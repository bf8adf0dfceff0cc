use Rattle.td_query.proofs.Blanks.{first_cut, first_short}
use Rattle.td_query.proofs.tokens.parted.Goals as goal

pub returns-clause-parts : goal.returns-clause-parts
returns-clause-parts c = first_cut c.args.text.now c.split_at.result.0.now c.split_at.result.1.now c.token_len.result c.token_len.ensures.value c.requires c.split_at.ensures.front c.split_at.ensures.back

pub returns-clause-shorter : goal.returns-clause-shorter
returns-clause-shorter c = first_short c.args.text.now c.split_at.result.1.now c.token_len.result c.token_len.ensures.value c.requires c.split_at.ensures.back
