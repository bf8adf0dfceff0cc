-- A part of a request is shorter than the greatest request.
use Rattle.std.proofs.Common.{◌<◌, ◌≤◌, ◌+◌, ℕ, List, [], ◌∷◌, ◌++◌, length, ap, arith, length-append}
use Rattle.tc_base.specs.declared.request.Request.{Request}
use Rattle.tc_base.specs.declared.request.Request.TheVariants.{Put, PutKeep, PutCat, PutShl, PutNr, Out, Get, MGet, Vsiz, IterInit, IterNext, FwmKeys, AddInt, AddDouble, Ext, Sync, Optimize, Vanish, Copy, Restore, SetMst, Rnum, Size, Stat, Misc, Repl}
use Rattle.std.specs.Int.{w32, to_be_bytes, cast_unsigned}
use Rattle.ty_wire.specs.Form.{Field, text, word, long, Values, AllFit, heads, header, body, long_bytes}
use Rattle.ty_wire.specs.Prefixes.{IsPart}
use Rattle.ty_wire.specs.Spelling.{spelling, Fits, key_text, value_text}

-- the most that fields take
abbrev most_of : List Field → ℕ
most_of [] = 0
most_of (text most ∷ fs) = (4 + most) + most_of fs
most_of (word ∷ fs) = 4 + most_of fs
most_of (long ∷ fs) = 8 + most_of fs

fields_small : (fs : List Field) (v : Values fs) → AllFit fs (heads fs v) → length (header fs (heads fs v)) + length (body fs v) ≤ most_of fs
fields_small [] v fit = omega arith
fields_small (text most ∷ fs) v fit = let h = fields_small fs v.1 fit.1 in omega (arith, h, fit.0, length-append (to_be_bytes w32 (length v.0)) (header fs (heads fs v.1)), length-append v.0 (body fs v.1))
fields_small (word ∷ fs) v fit = let h = fields_small fs v.1 fit.1 in omega (arith, h, length-append (to_be_bytes w32 v.0) (header fs (heads fs v.1)))
fields_small (long ∷ fs) v fit = let h = fields_small fs v.1 fit.1 in omega (arith, h, length-append (long_bytes v.0) (header fs (heads fs v.1)))

plain_small : (command : ℕ) (fs : List Field) (v : Values fs) → most_of fs ≤ 33554430 → AllFit fs (heads fs v) → length (0xC8 ∷ command ∷ (header fs (heads fs v) ++ body fs v)) ≤ 33554432
plain_small command fs v few fit = let h = fields_small fs v fit in omega (arith, few, h, length-append (header fs (heads fs v)) (body fs v))

pub spelling_small : (r : Request) → Fits r → length (spelling r) ≤ 33554432
unfolding spelling
spelling_small (Put key value) f = plain_small 0x10 (key_text ∷ value_text ∷ []) (key, (value, tt)) (omega arith) f.0
spelling_small (PutKeep key value) f = plain_small 0x11 (key_text ∷ value_text ∷ []) (key, (value, tt)) (omega arith) f.0
spelling_small (PutCat key value) f = plain_small 0x12 (key_text ∷ value_text ∷ []) (key, (value, tt)) (omega arith) f.0
spelling_small (PutShl key value width) f = plain_small 0x13 (key_text ∷ value_text ∷ word ∷ []) (key, (value, (width, tt))) (omega arith) f.0
spelling_small (PutNr key value) f = plain_small 0x18 (key_text ∷ value_text ∷ []) (key, (value, tt)) (omega arith) f.0
spelling_small (Out key) f = plain_small 0x20 (key_text ∷ []) (key, tt) (omega arith) f.0
spelling_small (Get key) f = plain_small 0x30 (key_text ∷ []) (key, tt) (omega arith) f.0
spelling_small (MGet keys) f = f.0.2
spelling_small (Vsiz key) f = plain_small 0x38 (key_text ∷ []) (key, tt) (omega arith) f.0
spelling_small IterInit f = plain_small 0x50 [] tt (omega arith) f.0
spelling_small IterNext f = plain_small 0x51 [] tt (omega arith) f.0
spelling_small (FwmKeys prefix maximum) f = plain_small 0x58 (key_text ∷ word ∷ []) (prefix, (cast_unsigned w32 maximum, tt)) (omega arith) f.0
spelling_small (AddInt key number) f = plain_small 0x60 (key_text ∷ word ∷ []) (key, (number, tt)) (omega arith) f.0
spelling_small (AddDouble key integer fraction) f = plain_small 0x61 (key_text ∷ long ∷ long ∷ []) (key, (integer, (fraction, tt))) (omega arith) f.0
spelling_small (Ext name options key value) f = plain_small 0x68 (key_text ∷ word ∷ key_text ∷ value_text ∷ []) (name, (options, (key, (value, tt)))) (omega arith) f.0
spelling_small Sync f = plain_small 0x70 [] tt (omega arith) f.0
spelling_small (Optimize text') f = plain_small 0x71 (key_text ∷ []) (text', tt) (omega arith) f.0
spelling_small Vanish f = plain_small 0x72 [] tt (omega arith) f.0
spelling_small (Copy path) f = plain_small 0x73 (key_text ∷ []) (path, tt) (omega arith) f.0
spelling_small (Restore path timestamp options) f = plain_small 0x74 (key_text ∷ long ∷ word ∷ []) (path, (timestamp, (options, tt))) (omega arith) f.0
spelling_small (SetMst host port timestamp options) f = plain_small 0x78 (key_text ∷ word ∷ long ∷ word ∷ []) (host, (port, (timestamp, (options, tt)))) (omega arith) f.0
spelling_small Rnum f = plain_small 0x80 [] tt (omega arith) f.0
spelling_small Size f = plain_small 0x81 [] tt (omega arith) f.0
spelling_small Stat f = plain_small 0x88 [] tt (omega arith) f.0
spelling_small (Misc name options args) f = f.0.2
spelling_small (Repl timestamp server) f = plain_small 0xA0 (long ∷ word ∷ []) (timestamp, (server, tt)) (omega arith) f.0

pub part_small : (bytes : List ℕ) (r : Request) → Fits r → IsPart bytes (spelling r) → length bytes < 33554432
part_small bytes r f part = let s = spelling_small r f in omega (arith, s, part.1, ap length part.2, length-append bytes part.0)
