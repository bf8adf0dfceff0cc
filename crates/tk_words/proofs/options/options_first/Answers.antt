use Rattle.std.proofs.Common.{◌≡◌, [], ◌∷◌, ◌++◌, sym, ap, ◌∙◌, subst}
use Rattle.std.proofs.lemmas.List.{map-append}
use Rattle.tk_words.specs.declared.options.Taken.{Taken}
use Rattle.tk_words.specs.Words.{texts}
use Rattle.tk_words.specs.Options.{Choices}
use Rattle.tk_words.specs.Seen.{choices, opts}
use Rattle.tk_words.proofs.Reading.{GoesOn, goes_end, goes_unknown, goes_unfit, goes_twice, goes_step}
use Rattle.tk_words.proofs.options.options_first.Goals as goal

pub returns-in_default-takes_in : goal.returns-in_default-takes_in
returns-in_default-takes_in c = goes_unknown _ _ _ _ _ _ c.loop-option.invariant c.in-Some.ensures (sym c.in_default-takes_in.ensures)

pub returns-in_default-arguments_of : goal.returns-in_default-arguments_of
returns-in_default-arguments_of c = goes_unfit _ _ _ _ _ _ _ c.loop-option.invariant c.in-Some.ensures (sym c.in-Some-takes_in.ensures) c.in_default-arguments_of.ensures

pub returns-then-has : goal.returns-then-has
returns-then-has c =
    goes_twice _ _ _ _ _ _ _ _ c.loop-option.invariant c.in-Some.ensures (sym c.in-Some-takes_in.ensures) c.in-Some-arguments_of.ensures (sym c.if-has.ensures)

pub loop-option-preserved : goal.loop-option-preserved
loop-option-preserved c =
    let more : choices c.push.new.self.items ≡ choices c.loop-option.options.taken.items ++ (c.in-Some.option.now, texts c.in-Some-arguments_of.arguments.now) ∷ [] =
    ap choices c.in_ok-push.ensures.items ∙ map-append (λ (t : Taken). (t.option.now, texts t.arguments.now)) c.loop-option.options.taken.items _ in
    subst (λ (cs : Choices). GoesOn (opts c.args.table.now) (texts c.args.words.now) cs (texts c.in-Some-arguments_of.rest.now)) (sym more)
    (goes_step _ _ _ _ _ _ _ _ c.loop-option.invariant c.in-Some.ensures (sym c.in-Some-takes_in.ensures) c.in-Some-arguments_of.ensures (sym c.if-has.ensures))

pub returns : goal.returns
returns c = goes_end _ _ _ _ c.loop-option.invariant c.in_default.ensures
