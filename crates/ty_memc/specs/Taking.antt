-- What is answered of the front of bytes, and what was seen of it.
use Rattle.std.specs.Prelude.{◌≡◌, ◌≤◌, ◌<◌, ℕ, List, ◌++◌, length, drop, MatchOption, Ok, Err}
use Rattle.tc_base.specs.declared.fields.NotWhole.TheVariants as not_whole
use Rattle.tc_base.specs.Reading.{◌>>=◌}
use Rattle.ty_wire.specs.declared.reading.Front.{Front}
use Rattle.ty_wire.specs.declared.reading.Front.TheVariants.{Whole, Part, Bad}
use Rattle.ty_memc.specs.declared.text.Text.{Text}
use Rattle.ty_memc.specs.declared.looking.Value.{Value}
use Rattle.ty_memc.specs.declared.looking.SeenText.{SeenText}
use Rattle.ty_memc.specs.Reading.{line_len, data_at, text_at}

-- as reading from left to right says
abbrev pub IsTextRead : List ℕ → Front → Type 0
IsTextRead bytes (Whole n) = (t : Text) × (n ≤ length bytes) × (text_at bytes ≡ Ok (t, drop n bytes))
IsTextRead bytes Part = text_at bytes ≡ Err not_whole.Part
IsTextRead bytes Bad = text_at bytes ≡ Err not_whole.Bad

-- to read the command is to read the value from this place on, whatever comes behind
pub record Awaits (v : Value) (bytes : List ℕ) : Type 0 where
  pub inside : v.at ≤ length bytes
  pub build : List ℕ → Text
  pub reads : (more : List ℕ) → text_at (bytes ++ more) ≡ (data_at v.size (drop v.at (bytes ++ more)) >>= λ x. Ok (build x.0, x.1))

pub record IsTextSeen (seen : SeenText) (bytes : List ℕ) : Type 0 where
  pub passed : seen.passed ≤ line_len bytes
  pub value : MatchOption seen.value (Unit {0}) (λ v. Awaits v bytes)

-- the line ends there
pub record IsLineEnd (at : ℕ) (bytes : List ℕ) : Type 0 where
  pub is : at ≡ line_len bytes
  pub within : at < length bytes
  pub short : at ≤ 2047
