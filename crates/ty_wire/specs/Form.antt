-- The form of requests: a command byte, then fields. First stand the fields' numbers and sizes, then the texts that the sizes announce.
use Rattle.std.specs.Prelude.{◌/◌, ◌%◌, ◌<◌, ◌≤◌, ℕ, List, [], ◌∷◌, ◌++◌, length}
use Rattle.std.specs.Int.{w32, to_be_bytes}

pub data Field : Type 0 where
  -- a text of at most so many bytes, announced by its size
  text : (most : ℕ) → Field
  -- a number of four bytes
  word : Field
  -- a number of eight bytes
  long : Field

-- a field's place in front: the size of a text, or the number
abbrev pub Heads : List Field → Type 0
Heads [] = Unit {0}
Heads (f ∷ fs) = ℕ × Heads fs

-- a value for each field
abbrev pub Values : List Field → Type 0
Values [] = Unit {0}
Values (text most ∷ fs) = List ℕ × Values fs
Values (word ∷ fs) = ℕ × Values fs
Values (long ∷ fs) = ℕ × Values fs

abbrev pub heads : (fs : List Field) → Values fs → Heads fs
heads [] v = tt
heads (text most ∷ fs) v = (length v.0, heads fs v.1)
heads (word ∷ fs) v = (v.0, heads fs v.1)
heads (long ∷ fs) v = (v.0, heads fs v.1)

-- eight bytes: the four of the upper half, then the four of the lower
abbrev pub long_bytes : ℕ → List ℕ
long_bytes n = to_be_bytes w32 (n / 4294967296) ++ to_be_bytes w32 (n % 4294967296)

abbrev pub head_bytes : Field → ℕ → List ℕ
head_bytes (text most) n = to_be_bytes w32 n
head_bytes word n = to_be_bytes w32 n
head_bytes long n = long_bytes n

abbrev pub HeadFits : Field → ℕ → Type 0
HeadFits (text most) n = n ≤ most
HeadFits word n = n ≤ 4294967295
HeadFits long n = n < 18446744073709551616

-- the numbers and sizes in front
abbrev pub header : (fs : List Field) → Heads fs → List ℕ
header [] h = []
header (f ∷ fs) h = head_bytes f h.0 ++ header fs h.1

abbrev pub AllFit : (fs : List Field) → Heads fs → Type 0
AllFit [] h = Unit {0}
AllFit (f ∷ fs) h = HeadFits f h.0 × AllFit fs h.1

-- the texts behind
abbrev pub body : (fs : List Field) → Values fs → List ℕ
body [] v = []
body (text most ∷ fs) v = v.0 ++ body fs v.1
body (word ∷ fs) v = body fs v.1
body (long ∷ fs) v = body fs v.1

-- a list of texts, each with its size in front
abbrev pub items_bytes : List (List ℕ) → List ℕ
items_bytes [] = []
items_bytes (x ∷ xs) = to_be_bytes w32 (length x) ++ (x ++ items_bytes xs)

abbrev pub AllShort : ℕ → List (List ℕ) → Type 0
AllShort most [] = Unit {0}
AllShort most (x ∷ xs) = (length x ≤ most) × AllShort most xs

-- a request's form: fields alone, or fields and a count behind their numbers, and so many texts behind theirs
pub data Form : Type 0 where
  plain : (command : ℕ) (fs : List Field) (values : Values fs) → Form
  counted : (command : ℕ) (fs : List Field) (values : Values fs) (most : ℕ) (items : List (List ℕ)) → Form

abbrev pub form_bytes : Form → List ℕ
form_bytes (plain command fs v) = 0xC8 ∷ command ∷ (header fs (heads fs v) ++ body fs v)
form_bytes (counted command fs v most items) = 0xC8 ∷ command ∷ (header fs (heads fs v) ++ (to_be_bytes w32 (length items) ++ (body fs v ++ items_bytes items)))

-- each size and number is within its limit, and the whole has at most 33,554,432 bytes, which fields alone never pass
abbrev pub FormFits : Form → Type 0
FormFits (plain command fs v) = AllFit fs (heads fs v)
FormFits (counted command fs v most items) = AllFit fs (heads fs v) × AllShort most items × (length (form_bytes (counted command fs v most items)) ≤ 33554432)
