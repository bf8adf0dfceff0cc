use Rattle.std.proofs.Common.{ℕ, length, drop, ap, sym, ◌∙◌, arith}
use Rattle.std.specs.Prelude.{Some}
use Rattle.ty_memc.specs.Words.{words}
use Rattle.ty_memc.proofs.Wording.{word_none, word_some, word_less}
use Rattle.ty_memc.proofs.words.next_word.Goals as goal

pub returns-then-rest-eq0-clause-word : goal.returns-then-rest-eq0-clause-word
returns-then-rest-eq0-clause-word c = word_none c.args.line.now c.behind-rest.result.now (c.behind-rest.ensures ∙ ap (λ (n : ℕ). drop n c.args.line.now) c.spaces.ensures.value) (omega (arith, c.if-rest-eq0.true))

pub returns-clause-word : goal.returns-clause-word
returns-clause-word c =
    word_some c.args.line.now c.behind-rest.result.now c.letters.result (c.behind-rest.ensures ∙ ap (λ (n : ℕ). drop n c.args.line.now) c.spaces.ensures.value) (omega (arith, c.if-rest-eq0.false)) c.letters.ensures.value
    ∙ (λ i. Some (sym c.split_at.ensures.front i, words (sym c.split_at.ensures.back i)))

pub returns-clause-less : goal.returns-clause-less
returns-clause-less c =
    let less = word_less c.args.line.now c.behind-rest.result.now c.letters.result (c.behind-rest.ensures ∙ ap (λ (n : ℕ). drop n c.args.line.now) c.spaces.ensures.value) (omega (arith, c.if-rest-eq0.false)) c.letters.ensures.value in
    omega (arith, less, ap length c.split_at.ensures.back)
