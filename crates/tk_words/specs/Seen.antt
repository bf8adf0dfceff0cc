-- What the code holds, seen as words.
use Rattle.std.specs.Prelude.{◌≡◌, ℕ, List, map, Option, Some, None}
use Rattle.std.specs.Borrow.{Bor}
use Rattle.tk_words.specs.declared.options.Options.{Options}
use Rattle.tk_words.specs.declared.options.Taken.{Taken}
use Rattle.tk_words.specs.declared.options.Takes.{Takes}
use Rattle.tk_words.specs.Words.{Word, texts, ◌>>=◌, only_if, front}
use Rattle.tk_words.specs.Options.{Opt, Choices, is_option}

-- what a function returned, seen by view, is what a definition makes
abbrev pub Gives : {X Y : Type 0} → (X → Y) → Option X → Option Y → Type 0
Gives view None made = made ≡ None
Gives view (Some x) made = made ≡ Some (view x)

abbrev pub choices : List Taken → Choices
choices taken = map (λ (t : Taken). (t.option.now, texts t.arguments.now)) taken

abbrev pub seen : Options → Choices × List Word
seen options = (choices options.taken.items, texts options.rest.now)

-- the option at the front of words, and the words behind it
abbrev pub option_front : List Word → Option (Word × List Word)
option_front ws = front ws >>= λ w. only_if (is_option w.0) w

-- a table of options
abbrev pub opts : List (Bor (List ℕ) × Takes) → List Opt
opts table = map (λ (o : Bor (List ℕ) × Takes). (o.0.now, o.1)) table

-- the operator of the condition at the front of words, and the words behind the condition
abbrev pub operator_front : List Word → Option (Word × List Word)
operator_front ws = front ws >>= λ a. front a.1 >>= λ b. front b.1 >>= λ c. Some (b.0, c.1)
