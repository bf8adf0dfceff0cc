-- What a line says, by its words.
use Rattle.std.specs.Prelude.{ℕ, ◌==◌, ◌&&◌, ◌^◌, ◌-◌, Bool, true, false, not, List, [], ◌∷◌, length, nat_le, Option, Some, None, codes, if◌then◌else◌}
use Rattle.std.specs.List.{list_all}
use Rattle.tc_base.specs.Decimal.{is_digit, decimal}
use Rattle.tc_base.specs.Texts.{is_text}
use Rattle.ty_memc.specs.declared.text.Word.{Word}
use Rattle.ty_memc.specs.declared.text.Word.TheVariants.{Set, Add, Replace, Append}
use Rattle.ty_memc.specs.declared.text.Text.{Text}
use Rattle.ty_memc.specs.declared.text.Text.TheVariants.{Get, Delete, Count, Flush, Version, Other}
use Rattle.ty_memc.specs.Words.{◌>>=◌, only_if, front, is_end}

-- ---- words

-- 1 to so many digits
abbrev pub are_digits : ℕ → List ℕ → Bool
are_digits most w = nat_le 1 (length w) && (nat_le (length w) most && list_all is_digit w)

-- the number of 1 to so many digits, within its limit
abbrev pub number : ℕ → ℕ → List ℕ → Option ℕ
number digits limit w = only_if (are_digits digits w) (decimal w) >>= λ n. only_if (nat_le n limit) n

-- 1 to 10 digits, which may have a sign
abbrev pub is_time : List ℕ → Bool
is_time [] = false
is_time (b ∷ rest) = if b == 45 then are_digits 10 rest else are_digits 10 (b ∷ rest)

-- 1 to 250 bytes
abbrev pub is_key : List ℕ → Bool
is_key w = nat_le 1 (length w) && nat_le (length w) 250

-- what may stand last: nothing, or that no reply is wanted
abbrev pub quiet : List (List ℕ) → Option Bool
quiet [] = Some false
quiet (w ∷ ws) = only_if (is_text w (codes "noreply") && is_end ws) true

-- ---- lines

pub data Line : Type 0 where
  -- so many bytes of a value come behind it
  stores : (word : Word) (key : List ℕ) (size : ℕ) (quiet : Bool) → Line
  says : (text : Text) → Line
  -- the connection is over
  closes : Line

abbrev pub storing : List ℕ → Option Word
storing w =
    if is_text w (codes "set") then Some Set
    else (if is_text w (codes "add") then Some Add else (if is_text w (codes "replace") then Some Replace else (if is_text w (codes "append") then Some Append else None)))

-- key, flags, time and size
abbrev pub store_line : Word → List (List ℕ) → Option Line
store_line word ws =
    front ws >>= λ k. front k.1 >>= λ f. front f.1 >>= λ t. front t.1 >>= λ s. number 8 16777216 s.0 >>= λ n. quiet s.1 >>= λ q.
    only_if (is_key k.0 && (are_digits 10 f.0 && is_time t.0)) (stores word k.0 n q)

abbrev pub gets : List (List ℕ) → Option Text
gets ws = only_if (not (is_end ws) && list_all is_key ws) (Get ws)

abbrev pub deletes : List (List ℕ) → Option Text
deletes ws = front ws >>= λ k. quiet k.1 >>= λ q. only_if (is_key k.0) (Delete k.0 q)

abbrev pub counts : Bool → List (List ℕ) → Option Text
counts down ws = front ws >>= λ k. front k.1 >>= λ n. number 20 (2 ^ 64 - 1) n.0 >>= λ by. quiet n.1 >>= λ q. only_if (is_key k.0) (Count k.0 by down q)

abbrev pub flushes : List (List ℕ) → Option Text
flushes ws = quiet ws >>= λ q. Some (Flush q)

abbrev pub bare : List ℕ → List (List ℕ) → Option Text
bare w ws = if is_text w (codes "flush_all") then flushes ws else only_if (is_text w (codes "version") && is_end ws) Version

abbrev pub plain : List ℕ → List (List ℕ) → Option Text
plain w ws =
    if is_text w (codes "get") then gets ws
    else (if is_text w (codes "delete") then deletes ws
    else (if is_text w (codes "incr") then counts false ws
    else (if is_text w (codes "decr") then counts true ws else bare w ws)))

abbrev pub or_other : Option Text → Text
or_other None = Other
or_other (Some t) = t

abbrev pub or_closes : Option Line → Line
or_closes None = closes
or_closes (Some l) = l

abbrev pub begun : Option Word → List ℕ → List (List ℕ) → Line
begun (Some word) w ws = or_closes (store_line word ws)
begun None w ws = if is_text w (codes "quit") && is_end ws then closes else says (or_other (plain w ws))

unfoldable pub line_of : List (List ℕ) → Line
line_of [] = says Other
line_of (w ∷ ws) = begun (storing w) w ws
