-- How requests and replies are spelled. Numbers have their greatest byte first.
use Rattle.std.specs.Prelude.{◌<◌, ◌^◌, ℕ, List, [], ◌∷◌, ◌++◌, length, FitsSigned}
use Rattle.std.specs.Int.{w32, to_be_bytes, cast_unsigned}
use Rattle.tc_base.specs.declared.request.Request.{Request}
use Rattle.tc_base.specs.declared.request.Request.TheVariants.{Put, PutKeep, PutCat, PutShl, PutNr, Out, Get, MGet, Vsiz, IterInit, IterNext, FwmKeys, AddInt, AddDouble, Ext, Sync, Optimize, Vanish, Copy, Restore, SetMst, Rnum, Size, Stat, Misc, Repl}
use Rattle.tc_base.specs.declared.request.Reply.{Reply}
use Rattle.tc_base.specs.declared.request.Reply.TheVariants as reply
use Rattle.tc_base.specs.declared.seq.Pair.{Pair}
use Rattle.ty_wire.specs.Form.{Field, text, word, long, Form, plain, counted, form_bytes, FormFits, long_bytes, items_bytes}

-- a key, prefix, name, path or host; a value or an argument
abbrev pub key_text : Field
key_text = text 1048576

abbrev pub value_text : Field
value_text = text 16777216

-- the table of requests
abbrev pub form : Request → Form
form (Put key value) = plain 0x10 (key_text ∷ value_text ∷ []) (key, (value, tt))
form (PutKeep key value) = plain 0x11 (key_text ∷ value_text ∷ []) (key, (value, tt))
form (PutCat key value) = plain 0x12 (key_text ∷ value_text ∷ []) (key, (value, tt))
form (PutShl key value width) = plain 0x13 (key_text ∷ value_text ∷ word ∷ []) (key, (value, (width, tt)))
form (PutNr key value) = plain 0x18 (key_text ∷ value_text ∷ []) (key, (value, tt))
form (Out key) = plain 0x20 (key_text ∷ []) (key, tt)
form (Get key) = plain 0x30 (key_text ∷ []) (key, tt)
form (MGet keys) = counted 0x31 [] tt 1048576 keys
form (Vsiz key) = plain 0x38 (key_text ∷ []) (key, tt)
form IterInit = plain 0x50 [] tt
form IterNext = plain 0x51 [] tt
form (FwmKeys prefix maximum) = plain 0x58 (key_text ∷ word ∷ []) (prefix, (cast_unsigned w32 maximum, tt))
form (AddInt key number) = plain 0x60 (key_text ∷ word ∷ []) (key, (number, tt))
form (AddDouble key integer fraction) = plain 0x61 (key_text ∷ long ∷ long ∷ []) (key, (integer, (fraction, tt)))
form (Ext name options key value) = plain 0x68 (key_text ∷ word ∷ key_text ∷ value_text ∷ []) (name, (options, (key, (value, tt))))
form Sync = plain 0x70 [] tt
form (Optimize text') = plain 0x71 (key_text ∷ []) (text', tt)
form Vanish = plain 0x72 [] tt
form (Copy path) = plain 0x73 (key_text ∷ []) (path, tt)
form (Restore path timestamp options) = plain 0x74 (key_text ∷ long ∷ word ∷ []) (path, (timestamp, (options, tt)))
form (SetMst host port timestamp options) = plain 0x78 (key_text ∷ word ∷ long ∷ word ∷ []) (host, (port, (timestamp, (options, tt))))
form Rnum = plain 0x80 [] tt
form Size = plain 0x81 [] tt
form Stat = plain 0x88 [] tt
form (Misc name options args) = counted 0x90 (key_text ∷ word ∷ []) (name, (options, tt)) 16777216 args
form (Repl timestamp server) = plain 0xA0 (long ∷ word ∷ []) (timestamp, (server, tt))

unfoldable pub spelling : Request → List ℕ
spelling r = form_bytes (form r)

-- a signed number is one of four bytes
abbrev pub InRange : Request → Type 0
InRange (FwmKeys prefix maximum) = FitsSigned w32 maximum
InRange _ = Unit {0}

-- what is within the limits
abbrev pub Fits : Request → Type 0
Fits r = FormFits (form r) × InRange r

-- ---- replies

abbrev pub size : List ℕ → List ℕ
size bytes = to_be_bytes w32 (length bytes)

abbrev pub pairs_bytes : List Pair → List ℕ
pairs_bytes [] = []
pairs_bytes (p ∷ ps) = size p.key ++ (size p.value ++ (p.key ++ (p.value ++ pairs_bytes ps)))

abbrev pub reply_bytes : Reply → List ℕ
reply_bytes reply.Fail = 1 ∷ []
reply_bytes reply.FailMisc = 1 ∷ 0 ∷ 0 ∷ 0 ∷ 0 ∷ []
reply_bytes reply.Silent = []
reply_bytes reply.Done = 0 ∷ []
reply_bytes (reply.Value value) = 0 ∷ (size value ++ value)
reply_bytes (reply.Four number) = 0 ∷ to_be_bytes w32 number
reply_bytes (reply.Eight number) = 0 ∷ long_bytes number
reply_bytes (reply.List items) = 0 ∷ (to_be_bytes w32 (length items) ++ items_bytes items)
reply_bytes (reply.Pairs pairs) = 0 ∷ (to_be_bytes w32 (length pairs) ++ pairs_bytes pairs)

-- a size or count has to fit its four bytes
abbrev pub HasSpelling : Reply → Type 0
HasSpelling r = length (reply_bytes r) < 2 ^ 32
