-- Options: each may come once, in any order, with its arguments behind it.
use Rattle.std.specs.Prelude.{ℕ, zero, suc, ◌+◌, ◌&&◌, Bool, true, false, not, List, [], ◌∷◌, length, take, drop, Option, Some, None, is_some, nat_eq, codes, if◌then◌else◌}
use Rattle.std.specs.List.{list_all}
use Rattle.tc_base.specs.declared.seq.Pair.{Pair}
use Rattle.tk_words.specs.declared.numbers.Range.{Range}
use Rattle.tk_words.specs.declared.options.Takes.{Takes}
use Rattle.tk_words.specs.declared.options.Takes.TheVariants.{Nothing, Text, Number, Index, Sort}
use Rattle.tk_words.specs.Words.{Word, is_word, ◌>>=◌, only_if, front, is_end, lone}
use Rattle.tk_words.specs.Numbers.{number}
use Rattle.tk_words.specs.Ranges.{way_range}

-- ---- what an option takes

-- the number of a type of index
abbrev pub index_code : Word → Option ℕ
index_code w =
    if is_word w (codes "lexical") then Some 0
    else (if is_word w (codes "decimal") then Some 1 else (if is_word w (codes "token") then Some 2 else (if is_word w (codes "void") then Some 9999 else None)))

abbrev pub count : Takes → ℕ
count Nothing = 0
count Sort = 2
count _ = 1

-- the one word is a number within the range
abbrev pub is_number : Range → List Word → Bool
is_number range ws = is_some (lone ws >>= number range)

-- the one word is a type of index
abbrev pub is_type : List Word → Bool
is_type ws = is_some (lone ws >>= index_code)

-- a column and the number of an order
abbrev pub is_sort : List Word → Bool
is_sort ws = is_some (front ws >>= λ column. lone column.1 >>= number way_range)

-- words are the arguments of an option
abbrev pub fit : Takes → List Word → Bool
fit Nothing ws = is_end ws
fit Text ws = is_some (lone ws)
fit (Number range) ws = is_number range ws
fit Index ws = is_type ws
fit Sort ws = is_sort ws

-- the words that an option takes, and those behind them
abbrev pub arguments : Takes → List Word → Option (List Word × List Word)
arguments takes ws = only_if (fit takes (take (count takes) ws)) (take (count takes) ws, drop (count takes) ws)

abbrev pub Opt : Type 0
Opt = Word × Takes

abbrev pub taken_by : List Opt → Word → Option Takes
taken_by [] w = None
taken_by (o ∷ os) w = if is_word w o.0 then Some o.1 else taken_by os w

-- ---- options at the front of words

-- options with their arguments, in the order in which they came
abbrev pub Choices : Type 0
Choices = List (Word × List Word)

abbrev pub given : Choices → Word → Option (List Word)
given [] w = None
given (c ∷ cs) w = if is_word c.0 w then Some c.1 else given cs w

abbrev pub has : Choices → Word → Bool
has cs w = is_some (given cs w)

abbrev pub differs : Word × List Word → Word × List Word → Bool
differs c d = not (is_word c.0 d.0)

-- none comes twice
abbrev pub are_apart : Choices → Bool
are_apart [] = true
are_apart (c ∷ cs) = list_all (differs c) cs && are_apart cs

abbrev pub is_option : Word → Bool
is_option [] = false
is_option (b ∷ w) = nat_eq b 45

-- Options as long as a word begins with `-`, and the words behind them. n is at least the number of words, and only makes the recursion end.
abbrev pub options_at : ℕ → List Opt → List Word → Option (Choices × List Word)
options_at n os [] = Some ([], [])
options_at zero os (w ∷ ws) = None
options_at (suc n) os (w ∷ ws) =
    if is_option w
    then (taken_by os w >>= λ takes. arguments takes ws >>= λ a. options_at n os a.1 >>= λ r. Some ((w, a.0) ∷ r.0, r.1))
    else Some ([], w ∷ ws)

unfoldable pub options_of : List Opt → List Word → Option (Choices × List Word)
options_of os ws = options_at (length ws) os ws >>= λ r. only_if (are_apart r.0) r

-- ---- what was chosen

-- the argument of an option
abbrev pub text_of : Choices → Word → Option Word
text_of cs w = given cs w >>= front >>= λ a. Some a.0

abbrev pub number_of : Range → Choices → Word → Option ℕ
number_of range cs w = text_of cs w >>= number range

abbrev pub code_of : Choices → Word → Option ℕ
code_of cs w = text_of cs w >>= index_code

-- a column, and the digit of an order
abbrev pub sort_of : Choices → Word → Option Pair
sort_of cs w =
    given cs w >>= front >>= λ column. front column.1 >>= λ way. number way_range way.0 >>= λ n. Some (record { key = column.0; value = (48 + n) ∷ [] })
