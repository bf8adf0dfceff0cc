-- Worked examples: what some texts are read as, and what is made of them.
use Rattle.std.specs.Prelude.{◌≡◌, [], ◌∷◌, true, false, Ok, Err, Some, None, codes, refl, if◌then◌else◌}
use Rattle.std.specs.Fmt.{digits}
use Rattle.tc_base.specs.Decimal.{decimal}
use Rattle.tc_base.specs.Texts.{is_text}
use Rattle.tc_base.specs.declared.fields.NotWhole.TheVariants.{Part, Bad}
use Rattle.tc_base.specs.declared.request.Request.TheVariants.{Put, PutKeep, PutCat, Out, Vanish}
use Rattle.ty_wire.specs.Spelling.{spelling}
use Rattle.ty_memc.specs.Answers.{then_by, then_of}
use Rattle.ty_memc.specs.Lines.{line_of}
use Rattle.ty_memc.specs.Reading.{line_len, text_at}
use Rattle.ty_memc.specs.Words.{words}
use Rattle.ty_memc.specs.declared.text.Text.TheVariants as said
use Rattle.ty_memc.specs.declared.text.Then.TheVariants.{Do, Say}
use Rattle.ty_memc.specs.declared.text.Word.TheVariants.{Set, Add, Replace, Append}

-- ---- what is read

stored : text_at (codes "set one 0 0 5\r\nfirst\r\nG") ≡ Ok (said.Store Set (codes "one") (codes "first") false, codes "G")
unfolding text_at line_len words line_of decimal
stored = refl

stored_quietly : text_at (codes "  add k 7 -1 0  noreply\n\r\n") ≡ Ok (said.Store Add (codes "k") [] true, [])
unfolding text_at line_len words line_of decimal
stored_quietly = refl

asked_for : text_at (codes "get one two\r\n") ≡ Ok (said.Get (codes "one" ∷ codes "two" ∷ []), [])
unfolding text_at line_len words line_of decimal
asked_for = refl

counted_up : text_at (codes "incr n 2\n") ≡ Ok (said.Count (codes "n") 2 false false, [])
unfolding text_at line_len words line_of decimal
counted_up = refl

counted_too_far : text_at (codes "incr n 18446744073709551616\r\n") ≡ Ok (said.Other, [])
unfolding text_at line_len words line_of decimal
counted_too_far = refl

counted_down : text_at (codes "decr n 5 noreply\r\n") ≡ Ok (said.Count (codes "n") 5 true true, [])
unfolding text_at line_len words line_of decimal
counted_down = refl

no_command : text_at (0xC9 ∷ []) ≡ Err Part
unfolding text_at line_len words line_of decimal
no_command = refl

greatest_size : text_at (codes "append k 0 0 16777216\r\n") ≡ Err Part
unfolding text_at line_len words line_of decimal
greatest_size = refl

too_great : text_at (codes "append k 0 0 16777217\r\n") ≡ Err Bad
unfolding text_at line_len words line_of decimal
too_great = refl

too_many_digits : text_at (codes "replace k 0 0 000000001\r\n") ≡ Err Bad
unfolding text_at line_len words line_of decimal
too_many_digits = refl

over : text_at (codes "quit\r\n") ≡ Err Bad
unfolding text_at line_len words line_of decimal
over = refl

partly : text_at (codes "set one 0 0 5\r\nfirst\r") ≡ Err Part
unfolding text_at line_len words line_of decimal
partly = refl

bad_end : text_at (codes "set one 0 0 5\r\nfirst!") ≡ Err Bad
unfolding text_at line_len words line_of decimal
bad_end = refl

bad_line : text_at (codes "set one 0 0\r\n") ≡ Err Bad
unfolding text_at line_len words line_of decimal
bad_line = refl

other : text_at (codes "stats\r\n") ≡ Ok (said.Other, [])
unfolding text_at line_len words line_of decimal
other = refl

no_word : text_at (codes "\r\n") ≡ Ok (said.Other, [])
unfolding text_at line_len words line_of decimal
no_word = refl

lone : text_at (codes "version noreply\r\n") ≡ Ok (said.Other, [])
unfolding text_at line_len words line_of decimal
lone = refl

-- ---- what is made of it

wraps : then_of (said.Count (codes "n") 2 false false) (Some (codes "18446744073709551615")) ≡ Do (Put (codes "n") (codes "1")) (codes "1\r\n")
unfolding decimal digits
wraps = refl

stops : then_of (said.Count (codes "n") 5 true false) (Some (codes "1")) ≡ Do (Put (codes "n") (codes "0")) (codes "0\r\n")
unfolding decimal digits
stops = refl

no_number : then_of (said.Count (codes "n") 1 false true) (Some (codes "x")) ≡ Say []
unfolding decimal
no_number = refl

missing : then_of (said.Count (codes "m") 1 false false) None ≡ Say (codes "NOT_FOUND\r\n")
unfolding decimal
missing = refl

set_anew : then_of (said.Store Set (codes "one") (codes "first") false) None ≡ Do (Put (codes "one") (codes "first")) (codes "STORED\r\n")
set_anew = refl

not_replaced : then_of (said.Store Replace (codes "k") (codes "v") false) None ≡ Say (codes "NOT_STORED\r\n")
not_replaced = refl

appended : then_of (said.Store Append (codes "k") (codes "v") false) (Some []) ≡ Do (PutCat (codes "k") (codes "v")) (codes "STORED\r\n")
appended = refl

deleted : then_of (said.Delete (codes "k") true) (Some []) ≡ Do (Out (codes "k")) []
deleted = refl

held : then_of (said.Store Add (codes "k") (codes "v") false) (Some []) ≡ Say (codes "NOT_STORED\r\n")
held = refl

added : then_of (said.Store Add (codes "k") (codes "v") false) None ≡ Do (PutKeep (codes "k") (codes "v")) (codes "STORED\r\n")
added = refl

flushed : then_of (said.Flush true) None ≡ Do Vanish []
flushed = refl

values : then_by (λ key. if is_text key (codes "one") then Some (codes "first") else None) (said.Get (codes "one" ∷ codes "two" ∷ [])) ≡ Say (codes "VALUE one 0 5\r\nfirst\r\nEND\r\n")
unfolding digits
values = refl

logged : spelling (Put (codes "n") (codes "1")) ≡ 0xC8 ∷ 0x10 ∷ 0 ∷ 0 ∷ 0 ∷ 1 ∷ 0 ∷ 0 ∷ 0 ∷ 1 ∷ 0x6E ∷ 0x31 ∷ []
unfolding spelling
logged = refl
