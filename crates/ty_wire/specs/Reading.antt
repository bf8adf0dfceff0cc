-- The request at the front of bytes, read from left to right.
use Rattle.std.specs.Prelude.{◌+◌, ◌-◌, ◌*◌, ◌/◌, ℕ, zero, suc, List, [], ◌∷◌, min, Ok, Err, ◌==◌, if◌then◌else◌}
use Rattle.std.specs.Int.{w32, cast_signed}
use Rattle.tc_base.specs.declared.request.Request.{Request}
use Rattle.tc_base.specs.declared.request.Request.TheVariants.{Put, PutKeep, PutCat, PutShl, PutNr, Out, Get, MGet, Vsiz, IterInit, IterNext, FwmKeys, AddInt, AddDouble, Ext, Sync, Optimize, Vanish, Copy, Restore, SetMst, Rnum, Size, Stat, Misc, Repl}
use Rattle.tc_base.specs.declared.fields.NotWhole.TheVariants.{Bad}
use Rattle.tc_base.specs.Reading.{Front, ◌>>=◌, byte_at, size_at, bytes_at}
use Rattle.ty_wire.specs.Form.{Field, text, word, long, Heads, Values}
use Rattle.ty_wire.specs.Spelling.{key_text, value_text}

abbrev pub long_at : List ℕ → Front ℕ
long_at bytes = size_at 4294967295 bytes >>= λ hi. size_at 4294967295 hi.1 >>= λ lo. Ok (hi.0 * 4294967296 + lo.0, lo.1)

abbrev pub head_at : Field → List ℕ → Front ℕ
head_at (text most) = size_at most
head_at word = size_at 4294967295
head_at long = long_at

-- numbers and sizes, and then what k reads
abbrev pub heads_then : {A : Type 0} → (fs : List Field) → (Heads fs → List ℕ → Front A) → List ℕ → Front A
heads_then [] k bytes = k tt bytes
heads_then (f ∷ fs) k bytes = head_at f bytes >>= λ n. heads_then fs (λ ns. k (n.0, ns)) n.1

-- the texts that they announce, and then what k reads
abbrev pub body_then : {A : Type 0} → (fs : List Field) → Heads fs → (Values fs → List ℕ → Front A) → List ℕ → Front A
body_then [] h k bytes = k tt bytes
body_then (text most ∷ fs) h k bytes = bytes_at h.0 bytes >>= λ x. body_then fs h.1 (λ v. k (x.0, v)) x.1
body_then (word ∷ fs) h k bytes = body_then fs h.1 (λ v. k (h.0, v)) bytes
body_then (long ∷ fs) h k bytes = body_then fs h.1 (λ v. k (h.0, v)) bytes

abbrev pub values_at : (fs : List Field) → List ℕ → Front (Values fs)
values_at fs bytes = heads_then fs (λ h. body_then fs h (λ v rest. Ok (v, rest))) bytes

-- how many bytes fields take
abbrev pub taken_by : (fs : List Field) → Heads fs → ℕ
taken_by [] h = 0
taken_by (text most ∷ fs) h = 4 + h.0 + taken_by fs h.1
taken_by (word ∷ fs) h = 4 + taken_by fs h.1
taken_by (long ∷ fs) h = 8 + taken_by fs h.1

-- what a request of at most 33,554,432 bytes has left for its texts, behind two bytes, the fields and a count
abbrev pub room : (fs : List Field) → Heads fs → ℕ
room fs h = 33554426 - taken_by fs h

-- so many texts of at most `most` bytes in the room that is left; each one to come takes four bytes at least
abbrev pub items_at : ℕ → ℕ → ℕ → List ℕ → Front (List (List ℕ))
items_at most zero left bytes = Ok ([], bytes)
items_at most (suc n) left bytes =
    size_at (min most (left - 4 * suc n)) bytes >>= λ size. bytes_at size.0 size.1 >>= λ x. items_at most n (left - 4 - size.0) x.1 >>= λ xs. Ok (x.0 ∷ xs.0, xs.1)

abbrev pub counted_at : (fs : List Field) → ℕ → List ℕ → Front (Values fs × List (List ℕ))
counted_at fs most bytes =
    heads_then fs (λ h rest. size_at (room fs h / 4) rest >>= λ n. body_then fs h (λ v rest. items_at most n.0 (room fs h) rest >>= λ xs. Ok ((v, xs.0), xs.1)) n.1) bytes

-- ---- the table of requests, by command byte

pub data Entry : Type 0 where
  plain : (command : ℕ) (fs : List Field) (build : Values fs → Request) → Entry
  counted : (command : ℕ) (fs : List Field) (most : ℕ) (build : Values fs → List (List ℕ) → Request) → Entry

abbrev pub command_of : Entry → ℕ
command_of (plain command fs build) = command
command_of (counted command fs most build) = command

abbrev pub read_by : Entry → List ℕ → Front Request
read_by (plain command fs build) bytes = values_at fs bytes >>= λ v. Ok (build v.0, v.1)
read_by (counted command fs most build) bytes = counted_at fs most bytes >>= λ v. Ok (build v.0.0 v.0.1, v.1)

abbrev pub named_entries : List Entry
named_entries =
    plain 0x74 (key_text ∷ long ∷ word ∷ []) (λ v. Restore v.0 v.1.0 v.1.1.0)
    ∷ plain 0x78 (key_text ∷ word ∷ long ∷ word ∷ []) (λ v. SetMst v.0 v.1.0 v.1.1.0 v.1.1.1.0)
    ∷ counted 0x90 (key_text ∷ word ∷ []) 16777216 (λ v xs. Misc v.0 v.1.0 xs)
    ∷ plain 0xA0 (long ∷ word ∷ []) (λ v. Repl v.0 v.1.0)
    ∷ []

abbrev pub number_entries : List Entry
number_entries =
    plain 0x58 (key_text ∷ word ∷ []) (λ v. FwmKeys v.0 (cast_signed w32 v.1.0))
    ∷ plain 0x60 (key_text ∷ word ∷ []) (λ v. AddInt v.0 v.1.0)
    ∷ plain 0x61 (key_text ∷ long ∷ long ∷ []) (λ v. AddDouble v.0 v.1.0 v.1.1.0)
    ∷ plain 0x68 (key_text ∷ word ∷ key_text ∷ value_text ∷ []) (λ v. Ext v.0 v.1.0 v.1.1.0 v.1.1.1.0)
    ∷ named_entries

abbrev pub bare_entries : List Entry
bare_entries =
    plain 0x50 [] (λ v. IterInit)
    ∷ plain 0x51 [] (λ v. IterNext)
    ∷ plain 0x70 [] (λ v. Sync)
    ∷ plain 0x72 [] (λ v. Vanish)
    ∷ plain 0x80 [] (λ v. Rnum)
    ∷ plain 0x81 [] (λ v. Size)
    ∷ plain 0x88 [] (λ v. Stat)
    ∷ number_entries

abbrev pub key_entries : List Entry
key_entries =
    plain 0x20 (key_text ∷ []) (λ v. Out v.0)
    ∷ plain 0x30 (key_text ∷ []) (λ v. Get v.0)
    ∷ counted 0x31 [] 1048576 (λ v xs. MGet xs)
    ∷ plain 0x38 (key_text ∷ []) (λ v. Vsiz v.0)
    ∷ plain 0x71 (key_text ∷ []) (λ v. Optimize v.0)
    ∷ plain 0x73 (key_text ∷ []) (λ v. Copy v.0)
    ∷ bare_entries

abbrev pub entries : List Entry
entries =
    plain 0x10 (key_text ∷ value_text ∷ []) (λ v. Put v.0 v.1.0)
    ∷ plain 0x11 (key_text ∷ value_text ∷ []) (λ v. PutKeep v.0 v.1.0)
    ∷ plain 0x12 (key_text ∷ value_text ∷ []) (λ v. PutCat v.0 v.1.0)
    ∷ plain 0x13 (key_text ∷ value_text ∷ word ∷ []) (λ v. PutShl v.0 v.1.0 v.1.1.0)
    ∷ plain 0x18 (key_text ∷ value_text ∷ []) (λ v. PutNr v.0 v.1.0)
    ∷ key_entries

-- the entry of a command reads what stands behind it
abbrev pub pick : List Entry → ℕ → List ℕ → Front Request
pick [] command bytes = Err Bad
pick (e ∷ es) command bytes = if command == command_of e then read_by e bytes else pick es command bytes

unfoldable pub fields_at : ℕ → List ℕ → Front Request
fields_at command rest = pick entries command rest

abbrev pub command_at : ℕ → List ℕ → Front Request
command_at magic rest = if magic == 0xC8 then (byte_at rest >>= λ command. fields_at command.0 command.1) else Err Bad

unfoldable pub request_at : List ℕ → Front Request
request_at bytes = byte_at bytes >>= λ magic. command_at magic.0 magic.1
