-- What a piece makes of the database, and what is replied.
use Rattle.std.specs.Prelude.{ℕ, ◌||◌, Bool, false, List, [], length, Option, Some, None, nat_le, if◌then◌else◌}
use Rattle.tc_base.specs.declared.request.Request.{Request}
use Rattle.tc_base.specs.declared.request.Request.TheVariants.{Copy, Get}
use Rattle.tc_base.specs.declared.request.Reply.{Reply}
use Rattle.tc_base.specs.declared.request.Reply.TheVariants as reply
use Rattle.ty_wire.specs.Spelling.{spelling, reply_bytes}
use Rattle.ty_memc.specs.declared.text.Text.{Text}
use Rattle.ty_memc.specs.declared.text.Then.{Then}
use Rattle.ty_memc.specs.declared.text.Then.TheVariants.{Say, Do}
use Rattle.ty_memc.specs.declared.text.Piece.{Piece}
use Rattle.ty_memc.specs.declared.text.Piece.TheVariants as piece
use Rattle.ty_memc.specs.Answers.{is_quiet, server_error, then_by}
use Rattle.tc_model.specs.Contents.{Contents, Walk}
use Rattle.tc_model.specs.Apply.{Step, apply, is_updated}
use Rattle.tc_model.specs.Packing.{is_optimize}
use Rattle.ty_pieces.specs.Made.{Made, unmade, only}

-- what it makes, and the bytes of its reply
pub record Done : Type 0 where
  pub made : Made
  pub reply : List ℕ

-- ---- a request

-- a copy that succeeded is made behind the commit of its round
abbrev pub labels_of : Request → Step → List (List ℕ)
labels_of (Copy text) s = only s.ok text
labels_of _ s = []

abbrev pub stepped : Request → Step → Done
stepped r s = record {
  made = record { contents = s.contents; walk = s.walk; updates = only (is_updated r s) (spelling r); labels = labels_of r s; commits = is_updated r s || is_optimize r };
  reply = reply_bytes s.reply;
}

-- ---- a text command

abbrev pub value_in : Reply → Option (List ℕ)
value_in (reply.Value value) = Some value
value_in _ = None

-- the value that a get of a key gives, none where it fails
abbrev pub got : Bool → Contents → Walk → List ℕ → Option (List ℕ)
got replica c w key = value_in (apply replica (Get key) c w).reply

-- a reply of more than 67,108,864 bytes is an error's
abbrev pub bounded : List ℕ → List ℕ
bounded bytes = if nat_le (length bytes) 67108864 then bytes else server_error false

abbrev pub told : Contents → Walk → List ℕ → Done
told c w bytes = record { made = unmade c w; reply = bounded bytes }

-- its updating request, whose reply is an error's where it fails
abbrev pub asks_step : Bool → Request → List ℕ → Step → Done
asks_step quiet r bytes s = record {
  made = record { contents = s.contents; walk = s.walk; updates = only (is_updated r s) (spelling r); labels = []; commits = is_updated r s };
  reply = if s.ok then bounded bytes else server_error quiet;
}

abbrev pub then_done : Bool → Bool → Then → Contents → Walk → Done
then_done replica quiet (Say bytes) c w = told c w bytes
then_done replica quiet (Do r bytes) c w = asks_step quiet r bytes (apply replica r c w)

unfoldable pub text_done : Bool → Text → Contents → Walk → Done
text_done replica t c w = then_done replica (is_quiet t) (then_by (got replica c w) t) c w

-- ---- a piece

abbrev pub done : Bool → Piece → Contents → Walk → Done
done replica (piece.Request r) c w = stepped r (apply replica r c w)
done replica (piece.Text t) c w = text_done replica t c w
