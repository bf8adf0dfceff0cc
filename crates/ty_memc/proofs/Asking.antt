-- The request that a command asks for is within the limits of requests.
use Rattle.std.proofs.Common.{◌≡◌, ℕ, ◌-◌, ◌^◌, ◌<◌, ◌≤◌, Bool, true, false, not, leb, List, length, refl, subst, sym, arith}
use Rattle.std.specs.Prelude.{Option, Some, None, Ok, is_some, option_and_then, decimal}
use Rattle.std.proofs.lemmas.Bool.{leb-true, and_parts}
use Rattle.std.proofs.lemmas.Fmt.{length-decimal-le}
use Rattle.tc_base.specs.declared.request.Request.{Request}
use Rattle.ty_memc.specs.declared.text.Text.{Text}
use Rattle.ty_memc.specs.declared.text.Text.TheVariants.{Store, Get, Delete, Count, Flush, Version, Other}
use Rattle.ty_memc.specs.declared.text.Word.{Word}
use Rattle.ty_memc.specs.declared.text.Word.TheVariants.{Set, Add, Replace, Append}
use Rattle.ty_memc.specs.Answers.{asked, count_on, counted, does_if, store_on, then_of, then_by}
use Rattle.ty_memc.specs.Fitting.{TextFits, LineFits, ThenFits}
use Rattle.ty_memc.specs.Grammar.{Means}
use Rattle.ty_memc.specs.Lines.{Line, stores, says, closes, is_key, line_of, number}
use Rattle.ty_memc.specs.Reading.{text_at, without_return}
use Rattle.ty_memc.specs.Words.{words}
use Rattle.ty_memc.proofs.Spelled.{text_found}
use Rattle.ty_memc.proofs.Storing.{line_fits, number_le}

-- ---- what was read is within its limits

means_fits : (l : Line) (t : Text) (behind : List ℕ) → LineFits l → Means l t behind → TextFits t
means_fits (stores word key size quiet) t behind fits m = subst TextFits (sym m.2) (fits.0, omega (arith, fits.1, m.1))
means_fits (says text) t behind fits m = subst TextFits (sym m.0) fits
means_fits closes t behind fits m = absurd m

pub text_fits : (bytes : List ℕ) (t : Text) (rest : List ℕ) → text_at bytes ≡ Ok (t, rest) → TextFits t
text_fits bytes t rest e =
    let f = text_found bytes t rest e in
    means_fits (line_of (words (without_return f.spells.line))) t f.spells.value (line_fits (words (without_return f.spells.line))) f.spells.means

-- ---- and what it asks for

short : (key : List ℕ) → is_key key ≡ true → length key ≤ 1048576
short key is = let l = leb-true (length key) 250 (and_parts (leb 1 (length key)) (leb (length key) 250) is).1 in omega (arith, l)

below : (down : Bool) (by n : ℕ) → n ≤ 2 ^ 64 - 1 → counted down by n < 2 ^ 64
below false by n within = omega arith
below true by n within = omega (arith, within)

digits_few : (n : ℕ) → n < 2 ^ 64 → length (decimal n) ≤ 16777216
digits_few n less = let l = length-decimal-le 20 n (omega arith) (omega (arith, less)) less in omega (arith, l)

if_fits : (b quiet : Bool) (r : Request) → ThenFits (does_if true quiet r) → ThenFits (does_if b quiet r)
if_fits true quiet r h = h
if_fits false quiet r h = tt

store_fits : (word : Word) (key value : List ℕ) (quiet is_held : Bool) → is_key key ≡ true → length value ≤ 16777216 → ThenFits (store_on word key value quiet is_held)
store_fits Set key value quiet is_held is few = (tt, tt, ((short key is, (few, tt)), tt))
store_fits Add key value quiet is_held is few = if_fits (not is_held) quiet _ (tt, tt, ((short key is, (few, tt)), tt))
store_fits Replace key value quiet is_held is few = if_fits is_held quiet _ (tt, tt, ((short key is, (few, tt)), tt))
store_fits Append key value quiet is_held is few = if_fits is_held quiet _ (tt, tt, ((short key is, (few, tt)), tt))

count_fits : (key : List ℕ) (down : Bool) (by : ℕ) (quiet : Bool) (o : Option ℕ) → is_key key ≡ true → ((n : ℕ) → o ≡ Some n → n ≤ 2 ^ 64 - 1) → ThenFits (count_on key down by quiet o)
count_fits key down by quiet None is within = tt
count_fits key down by quiet (Some n) is within = (tt, tt, ((short key is, (digits_few (counted down by n) (below down by n (within n refl)), tt)), tt))

then_fits : (t : Text) (got : Option (List ℕ)) → TextFits t → ThenFits (then_of t got)
then_fits (Store word key value quiet) got fits = store_fits word key value quiet (is_some got) fits.0 fits.1
then_fits (Delete key quiet) None fits = tt
then_fits (Delete key quiet) (Some held) fits = (tt, tt, ((short key fits, tt), tt))
then_fits (Count key by down quiet) None fits = tt
then_fits (Count key by down quiet) (Some held) fits = count_fits key down by quiet (number 20 (2 ^ 64 - 1) held) fits (λ n e. number_le 20 (2 ^ 64 - 1) held n e)
then_fits (Flush quiet) got fits = (tt, tt, (tt, tt))
then_fits Version got fits = tt
then_fits Other got fits = tt
then_fits (Get keys) got fits = tt

by_fits : (look : List ℕ → Option (List ℕ)) (t : Text) → TextFits t → ThenFits (then_by look t)
by_fits look (Get keys) fits = tt
by_fits look (Store word key value quiet) fits = then_fits (Store word key value quiet) (option_and_then look (asked (Store word key value quiet))) fits
by_fits look (Delete key quiet) fits = then_fits (Delete key quiet) (option_and_then look (asked (Delete key quiet))) fits
by_fits look (Count key by down quiet) fits = then_fits (Count key by down quiet) (option_and_then look (asked (Count key by down quiet))) fits
by_fits look (Flush quiet) fits = then_fits (Flush quiet) (option_and_then look (asked (Flush quiet))) fits
by_fits look Version fits = tt
by_fits look Other fits = tt

pub asked_fits : (bytes : List ℕ) (t : Text) (rest : List ℕ) (look : List ℕ → Option (List ℕ)) → text_at bytes ≡ Ok (t, rest) → ThenFits (then_by look t)
asked_fits bytes t rest look e = by_fits look t (text_fits bytes t rest e)
