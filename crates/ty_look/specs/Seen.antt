-- What was looked at of a request that comes in pieces, and holds whatever comes behind.
use Rattle.std.specs.Prelude.{◌≡◌, ◌+◌, ◌*◌, ◌/◌, ◌==◌, if◌then◌else◌, ◌<◌, ◌≤◌, ◌⊎◌, ℕ, List, [], ◌∷◌, ◌++◌, length, drop, MatchOption, Ok, Err}
use Rattle.tc_base.specs.declared.request.Request.{Request}
use Rattle.tc_base.specs.declared.fields.NotWhole.TheVariants.{Part, Bad}
use Rattle.tc_base.specs.Reading.{Front as Answer, ◌>>=◌, size_at}
use Rattle.ty_wire.specs.declared.reading.Front.{Front}
use Rattle.ty_wire.specs.declared.reading.Front.TheVariants as front
use Rattle.ty_look.specs.declared.looking.Place.{Place}
use Rattle.ty_look.specs.declared.looking.Seen.{Seen}
use Rattle.ty_wire.specs.Form.{Field, text, word, long, Heads, Form, form_bytes}
use Rattle.ty_wire.specs.Form as form
use Rattle.ty_wire.specs.Prefixes.{IsPart}
use Rattle.ty_wire.specs.Spelling.{form as form_of, key_text, spelling, Fits}
use Rattle.ty_wire.specs.Reading.{Entry, plain, counted, command_of, entries, heads_then, room, items_at, request_at}

-- how many bytes the numbers and sizes of fields take
abbrev pub number_size : Field → ℕ
number_size (text most) = 4
number_size word = 4
number_size long = 8

abbrev pub numbers_size : List Field → ℕ
numbers_size [] = 0
numbers_size (f ∷ fs) = number_size f + numbers_size fs

-- a request without a list, whose numbers and sizes stand in so many bytes
abbrev pub HasSizes : ℕ → Form → Type 0
HasSizes n (form.plain command fs values) = 2 + numbers_size fs ≤ n
HasSizes n (form.counted command fs values most items) = ⊥

abbrev pub HasList : Form → Type 0
HasList (form.plain command fs values) = ⊥
HasList (form.counted command fs values most items) = Unit {0}

-- of a request without a list: no more than its numbers and sizes take, or its length
abbrev pub Announces : ℕ → Form → Type 0
Announces n (form.plain command fs values) = (n ≤ 2 + numbers_size fs) ⊎ (n ≡ length (form_bytes (form.plain command fs values)))
Announces n (form.counted command fs values most items) = Unit {0}

-- to read the request is to read the texts from this place on
pub record GoesOn (p : Place) (bytes : List ℕ) : Type 0 where
  pub inside : p.at ≤ length bytes
  pub room : 4 * p.count ≤ p.left
  pub lists : (r : Request) → Fits r → IsPart bytes (spelling r) → HasList (form_of r)
  pub build : List (List ℕ) → Request
  pub reads : (more : List ℕ) → request_at (bytes ++ more) ≡ (items_at p.most p.count p.left (drop p.at (bytes ++ more)) >>= λ ys. Ok (build ys.0, ys.1))

-- where fields end that stand behind so many bytes
abbrev pub end_from : ℕ → (fs : List Field) → Heads fs → ℕ
end_from n [] h = n
end_from n (text most ∷ fs) h = end_from (n + (4 + h.0)) fs h.1
end_from n (word ∷ fs) h = end_from (n + 4) fs h.1
end_from n (long ∷ fs) h = end_from (n + 8) fs h.1

-- where a request ends that has these fields behind its two first bytes, told by its sizes
abbrev pub end_at : List Field → List ℕ → Answer ℕ
end_at fs bytes = heads_then fs (λ h rest. Ok (end_from 2 fs h, rest)) bytes

-- the same up to the first text of a list, with a count behind the numbers
abbrev pub list_at : List Field → List ℕ → Answer ℕ
list_at fs bytes = heads_then fs (λ h rest. size_at (room fs h / 4) rest >>= λ n. Ok (end_from 6 fs h, n.1)) bytes

abbrev pub entry_end : Entry → List ℕ → Answer ℕ
entry_end (plain command fs build) bytes = end_at fs bytes
entry_end (counted command fs most build) bytes = list_at fs bytes

abbrev pub pick_end : List Entry → ℕ → List ℕ → Answer ℕ
pick_end [] command bytes = Err Bad
pick_end (e ∷ es) command bytes = if command == command_of e then entry_end e bytes else pick_end es command bytes

-- how many bytes a request has that begins so, told by its sizes, or up to its list; 0 where they don't say so yet
abbrev pub or_none : Answer ℕ → ℕ
or_none (Ok x) = x.0
or_none (Err e) = 0

abbrev pub command_end : ℕ → List ℕ → ℕ
command_end magic [] = 0
command_end magic (command ∷ rest) = if magic == 0xC8 then or_none (pick_end entries command rest) else 0

unfoldable pub announced_at : List ℕ → ℕ
announced_at [] = 0
announced_at (magic ∷ rest) = command_end magic rest

-- the place that is told isn't there yet, where there are so many bytes
abbrev pub Lacks : Answer ℕ → ℕ → Type 0
Lacks (Ok x) n = n < x.0
Lacks (Err e) n = Unit {0}

-- no list has begun: the fields in front of one aren't all there
abbrev pub LacksList : List ℕ → Type 0
LacksList [] = Unit {0}
LacksList (magic ∷ []) = Unit {0}
LacksList (magic ∷ command ∷ rest) =
    (magic ≡ 0xC8 → command ≡ 0x31 → Lacks (list_at [] rest) (2 + length rest)) × (magic ≡ 0xC8 → command ≡ 0x90 → Lacks (list_at (key_text ∷ word ∷ []) rest) (2 + length rest))

-- with fewer than so many bytes in all there is no more than a part
abbrev pub ArePart : ℕ → List ℕ → Type 0
ArePart n bytes = (more : List ℕ) → length (bytes ++ more) < n → request_at (bytes ++ more) ≡ Err Part

-- whatever comes behind these bytes, what was seen of them holds
pub record IsSeen (seen : Seen) (bytes : List ℕ) : Type 0 where
  pub part : ArePart seen.least bytes
  pub exact : (r : Request) → Fits r → IsPart bytes (spelling r) → Announces seen.least (form_of r)
  pub goes_on : MatchOption seen.list (Unit {0}) (λ p. GoesOn p bytes)

-- more than these bytes, no more than any request that they begin, and as many as one without a list, once its sizes are there
abbrev pub IsLeast : ℕ → List ℕ → Front → Type 0
IsLeast n bytes front.Part = (length bytes < n) × ((r : Request) → Fits r → IsPart bytes (spelling r) → (n ≤ length (spelling r)) × (HasSizes (length bytes) (form_of r) → n ≡ length (spelling r)))
IsLeast n bytes _ = Unit {0}
