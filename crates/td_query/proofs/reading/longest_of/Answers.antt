use Rattle.std.proofs.Common.{◌≡◌, ◌∙◌, ◌∷◌, [], List, ℕ, sym, ap, subst}
use Rattle.std.specs.Prelude.{IfOk, option_map}
use Rattle.std.specs.Option.{option_copied}
use Rattle.td_row.specs.Texts.{left_parts}
use Rattle.tc_model.specs.Texts.{parts}
use Rattle.tc_model.specs.Queries.{term_of}
use Rattle.td_query.specs.Drafts.{term_seen}
use Rattle.td_query.proofs.Arguments.{too_many}
use Rattle.td_query.proofs.reading.longest_of.Goals as goal

pub returns-in-None : goal.returns-in-None
returns-in-None c =
    let all : parts c.args.rest.now ≡ c.part_of.result.0.now ∷ [] = c.part_of.ensures.parts ∙ ap (λ o. c.part_of.result.0.now ∷ left_parts (option_copied o)) c.in-None.is in
    subst (λ (ps : List (List ℕ)). IfOk c.triple_of.result (λ t. option_map term_seen t ≡ term_of (c.args.word.now ∷ c.args.a.now ∷ c.args.b.now ∷ ps))) (sym all) c.triple_of.ensures

pub returns-in-Some : goal.returns-in-Some
returns-in-Some c =
    sym (too_many c.args.word.now c.args.a.now c.args.b.now c.part_of.result.0.now c.in-Some.field-0.now _ (c.part_of.ensures.parts ∙ ap (λ o. c.part_of.result.0.now ∷ left_parts (option_copied o)) c.in-Some.is))
