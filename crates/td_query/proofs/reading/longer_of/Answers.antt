use Rattle.std.proofs.Common.{◌≡◌, ◌∙◌, ◌∷◌, [], List, ℕ, sym, ap, subst}
use Rattle.std.specs.Prelude.{IfOk, option_map}
use Rattle.std.specs.Option.{option_copied}
use Rattle.td_row.specs.Texts.{left_parts}
use Rattle.tc_model.specs.Texts.{parts}
use Rattle.tc_model.specs.Queries.{term_of}
use Rattle.td_query.specs.Drafts.{term_seen}
use Rattle.td_query.proofs.reading.longer_of.Goals as goal

pub returns-in-None : goal.returns-in-None
returns-in-None c =
    let all : parts c.args.rest.now ≡ c.part_of.result.0.now ∷ [] = c.part_of.ensures.parts ∙ ap (λ o. c.part_of.result.0.now ∷ left_parts (option_copied o)) c.in-None.is in
    subst (λ (ps : List (List ℕ)). IfOk c.pair_of.result (λ t. option_map term_seen t ≡ term_of (c.args.word.now ∷ c.args.a.now ∷ ps))) (sym all) c.pair_of.ensures

pub returns-in-Some : goal.returns-in-Some
returns-in-Some c =
    let all : parts c.args.rest.now ≡ c.part_of.result.0.now ∷ parts c.in-Some.more.now = c.part_of.ensures.parts ∙ ap (λ o. c.part_of.result.0.now ∷ left_parts (option_copied o)) c.in-Some.is in
    subst (λ (ps : List (List ℕ)). IfOk c.longest_of.result (λ t. option_map term_seen t ≡ term_of (c.args.word.now ∷ c.args.a.now ∷ ps))) (sym all) c.longest_of.ensures
