-- The limits of commands and of the requests that they ask for, and the bytes of these.
use Rattle.std.specs.Prelude.{◌≡◌, ◌≤◌, ℕ, true, List, [], ◌∷◌, length}
use Rattle.std.specs.List.{list_all}
use Rattle.ty_wire.specs.Form.{plain, form_bytes}
use Rattle.ty_wire.specs.Spelling.{key_text, value_text, Fits}
use Rattle.ty_wire.specs.Updating.{IsUpdating}
use Rattle.ty_memc.specs.declared.text.Text.{Text}
use Rattle.ty_memc.specs.declared.text.Text.TheVariants.{Store, Get, Delete, Count, Flush, Version, Other}
use Rattle.ty_memc.specs.declared.text.Then.{Then}
use Rattle.ty_memc.specs.declared.text.Then.TheVariants.{Say, Do}
use Rattle.ty_memc.specs.Answers.{IsAsked}
use Rattle.ty_memc.specs.Lines.{Line, stores, says, closes, is_key}

-- keys of 1 to 250 bytes, a value of at most 16,777,216
abbrev pub TextFits : Text → Type 0
TextFits (Store word key value quiet) = (is_key key ≡ true) × (length value ≤ 16777216)
TextFits (Get keys) = list_all is_key keys ≡ true
TextFits (Delete key quiet) = is_key key ≡ true
TextFits (Count key by down quiet) = is_key key ≡ true
TextFits (Flush quiet) = Unit {0}
TextFits Version = Unit {0}
TextFits Other = Unit {0}

abbrev pub LineFits : Line → Type 0
LineFits (stores word key size quiet) = (is_key key ≡ true) × (size ≤ 16777216)
LineFits (says text) = TextFits text
LineFits closes = Unit {0}

-- an updating request within the limits of requests, or none
abbrev pub ThenFits : Then → Type 0
ThenFits (Say reply) = Unit {0}
ThenFits (Do request reply) = IsAsked request × IsUpdating request × Fits request

-- ---- the forms of the requests that are asked for

abbrev pub pair_bytes : ℕ → List ℕ → List ℕ → List ℕ
pair_bytes command key value = form_bytes (plain command (key_text ∷ value_text ∷ []) (key, (value, tt)))

abbrev pub key_bytes : ℕ → List ℕ → List ℕ
key_bytes command key = form_bytes (plain command (key_text ∷ []) (key, tt))
