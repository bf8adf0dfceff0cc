-- Replies that are made of rows: a zero, the count where it is a list, and the rows.
use Rattle.std.specs.Prelude.{◌≡◌, ◌+◌, ◌++◌, ◌∷◌, ◌&&◌, ℕ, Bool, not, List, [], length, take, false, OnErr, Result, Ok, if◌then◌else◌}
use Rattle.std.specs.Int.{w32, to_be_bytes}
use Rattle.tc_base.specs.Files.{wrote}
use Rattle.tc_base.specs.declared.request.Reply.{Reply}
use Rattle.tc_space.specs.declared.errors.RecErr.{RecErr}
use Rattle.tc_base.specs.declared.request.Reply.TheVariants as reply
use Rattle.tc_model.specs.Apply.{fits}
use Rattle.ty_wire.specs.Spelling.{reply_bytes}
use Rattle.tc_engine.specs.Rows.{Gathered, bytes_of, count_of, is_long, joined, most_of}
use Rattle.tc_engine.specs.declared.rows.Rows.{Rows}
use Rattle.ty_answers.specs.Answers.{fail_reply}
use Rattle.ty_answers.specs.declared.voice.Voice.{Voice}

-- the most bytes of rows: with the five in front they are the most of a reply
abbrev pub room : ℕ
room = 67108859

-- a list with no rows, whose count stands in its last four bytes
abbrev pub no_rows : List ℕ
no_rows = 0 ∷ 0 ∷ 0 ∷ 0 ∷ 0 ∷ []

abbrev pub list_bytes : List (List ℕ) → List ℕ
list_bytes rows = 0 ∷ (to_be_bytes w32 (length rows) ++ joined rows)

-- behind a front there is room for so many bytes of rows
pub record Opens (rows : Rows) (front : List ℕ) (most : ℕ) : Type 0 where
  pub begins : Gathered rows front []
  pub most_is : most_of rows ≡ most

-- what was gathered stands, or a refusal does behind so many bytes: where nothing was found, or it is too long
pub record Gives (made : Result Bool RecErr) (rows : Rows) (begin : ℕ) (voice : Voice) (whole : Bool) (given new : List ℕ) : Type 0 where
  pub found : Bool
  pub made_is : made ≡ Ok found
  pub whole_is : whole ≡ (found && not (is_long rows))
  pub bytes : new ≡ (if whole then given else take begin (bytes_of rows) ++ reply_bytes (fail_reply voice))

-- an error comes only of what was made, or where it doesn't stand
abbrev pub Undone : Result Bool RecErr → Rows → Result Bool RecErr → Type 0
Undone made rows result = OnErr result ((found : Bool) → made ≡ Ok found → (found && not (is_long rows)) ≡ false)

-- the bytes of rows, with the count of them behind the zero at a place
abbrev pub counted : Rows → ℕ → List ℕ
counted rows at = wrote (at + 1) (to_be_bytes w32 (count_of rows)) (bytes_of rows)

-- it is answered so where that isn't too long, and else that it failed
pub record Says (answer : Reply) (done : Bool) (old new : List ℕ) : Type 0 where
  pub done_is : done ≡ fits answer
  pub bytes : new ≡ old ++ reply_bytes (if done then answer else reply.Fail)
