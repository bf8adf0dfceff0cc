use Rattle.std.proofs.Common.{◌∙◌, sym}
use Rattle.hf_survey.proofs.Lists.{if_ok}
use Rattle.hf_survey.proofs.Keyed.{has_key, same_long, by_second, by_long, by_key}
use Rattle.hf_survey.proofs.judging.order_of.Goals as goal

pub order_of_keys-requires-clause-same : goal.order_of_keys-requires-clause-same
order_of_keys-requires-clause-same g c = same_long c.args.a.now.long c.args.b.now.long (sym c.in-Equal-cmp.is ∙ c.cmp-in-Equal.ensures)

pub order_of_keys-requires-clause-first : goal.order_of_keys-requires-clause-first
order_of_keys-requires-clause-first g c = λ t. has_key c.args.head.now c.args.a.now (g.S.Space.now c.args.space.now c.args.file) (c.requires.first t)

pub order_of_keys-requires-clause-second : goal.order_of_keys-requires-clause-second
order_of_keys-requires-clause-second g c = λ t. has_key c.args.head.now c.args.b.now (g.S.Space.now c.args.space.now c.args.file) (c.requires.second t)

pub returns-in_default-clause-order : goal.returns-in_default-clause-order
returns-in_default-clause-order g c = λ t. by_second c.args.head.now c.args.a.now c.args.b.now (g.S.Space.now c.args.space.now c.args.file) c.cmp.result (c.requires.first t) (c.requires.second t) c.cmp.ensures c.in_default.not-Equal

pub returns-in_default-cmp-clause-order : goal.returns-in_default-cmp-clause-order
returns-in_default-cmp-clause-order g c = λ t. by_long c.args.head.now c.args.a.now c.args.b.now (g.S.Space.now c.args.space.now c.args.file) c.cmp-in-Equal.result (c.requires.first t) (c.requires.second t) (sym c.in-Equal.is ∙ c.cmp.ensures) c.cmp-in-Equal.ensures c.in_default-cmp.not-Equal

pub returns-in-Equal-cmp-clause-order : goal.returns-in-Equal-cmp-clause-order
returns-in-Equal-cmp-clause-order g c = if_ok c.order_of_keys.result (λ o is t. by_key c.args.head.now c.args.a.now c.args.b.now (g.S.Space.now c.args.space.now c.args.file) o (c.requires.first t) (c.requires.second t) (sym c.in-Equal.is ∙ c.cmp.ensures) (sym c.in-Equal-cmp.is ∙ c.cmp-in-Equal.ensures) (is t)) c.order_of_keys.ensures.order
