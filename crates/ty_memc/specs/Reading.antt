-- The text command at the front of bytes, read from left to right.
use Rattle.std.specs.Prelude.{ℕ, suc, ◌-◌, ◌==◌, Bool, not, List, [], ◌∷◌, length, take, drop, nat_lt, nat_eq, Ok, Err, if◌then◌else◌}
use Rattle.std.specs.List.{prefix_len, ends_with}
use Rattle.tc_base.specs.declared.fields.NotWhole.TheVariants.{Part, Bad}
use Rattle.tc_base.specs.Reading.{Front, ◌>>=◌, bytes_at}
use Rattle.ty_memc.specs.declared.text.Text.{Text}
use Rattle.ty_memc.specs.declared.text.Text.TheVariants.{Store}
use Rattle.ty_memc.specs.Words.{words}
use Rattle.ty_memc.specs.Lines.{Line, stores, says, closes, line_of}

abbrev pub is_inside : ℕ → Bool
is_inside b = not (b == 10)

-- how many bytes stand in front of the first line feed, all where there is none
unfoldable pub line_len : List ℕ → ℕ
line_len bytes = prefix_len is_inside bytes

-- a carriage return in front of the line feed is dropped
abbrev pub without_return : List ℕ → List ℕ
without_return line = if ends_with nat_eq line (13 ∷ []) then take (length line - 1) line else line

-- a line, which has at most 2,048 bytes with its line feed
abbrev pub line_at : List ℕ → Front (List ℕ)
line_at bytes =
    if nat_lt 2047 (line_len bytes) then Err Bad
    else (if nat_lt (line_len bytes) (length bytes) then Ok (without_return (take (line_len bytes) bytes), drop (suc (line_len bytes)) bytes) else Err Part)

abbrev pub byte_is : ℕ → List ℕ → Front Unit
byte_is b [] = Err Part
byte_is b (c ∷ rest) = if c == b then Ok (tt, rest) else Err Bad

-- so many bytes of a value, and what ends them
abbrev pub data_at : ℕ → List ℕ → Front (List ℕ)
data_at size bytes = bytes_at size bytes >>= λ v. byte_is 13 v.1 >>= λ r. byte_is 10 r.1 >>= λ f. Ok (v.0, f.1)

abbrev pub said : Line → List ℕ → Front Text
said (stores word key size quiet) bytes = data_at size bytes >>= λ v. Ok (Store word key v.0 quiet, v.1)
said (says text) bytes = Ok (text, bytes)
said closes bytes = Err Bad

unfoldable pub text_at : List ℕ → Front Text
text_at bytes = line_at bytes >>= λ l. said (line_of (words l.0)) l.1
