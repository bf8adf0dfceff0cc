-- The definitions of the grammar, computed on worked bytes.
use Rattle.std.proofs.Common.{◌≡◌, refl, List, ℕ, [], ◌∷◌, ◌++◌, Ok, Err}
use Rattle.std.specs.Prelude.{codes}
use Rattle.tc_base.specs.declared.request.Request.TheVariants.{Put, Get, MGet, AddInt, Repl}
use Rattle.tc_base.specs.declared.request.Reply.TheVariants.{Value}
use Rattle.tc_base.specs.declared.fields.NotWhole.TheVariants.{Part, Bad}
use Rattle.ty_wire.specs.Spelling.{spelling, reply_bytes}
use Rattle.ty_wire.specs.Reading.{request_at, fields_at}

-- how requests and a reply are spelled

pub put : spelling (Put (codes "one") (codes "first")) ≡ 0xC8 ∷ 0x10 ∷ 0 ∷ 0 ∷ 0 ∷ 3 ∷ 0 ∷ 0 ∷ 0 ∷ 5 ∷ codes "onefirst"
unfolding spelling
put = refl

pub get : spelling (Get (codes "one")) ≡ 0xC8 ∷ 0x30 ∷ 0 ∷ 0 ∷ 0 ∷ 3 ∷ codes "one"
unfolding spelling
get = refl

pub mget : spelling (MGet (codes "one" ∷ codes "x" ∷ [])) ≡ 0xC8 ∷ 0x31 ∷ 0 ∷ 0 ∷ 0 ∷ 2 ∷ 0 ∷ 0 ∷ 0 ∷ 3 ∷ codes "one" ++ (0 ∷ 0 ∷ 0 ∷ 1 ∷ codes "x")
unfolding spelling
mget = refl

pub addint : spelling (AddInt (codes "n") 1) ≡ 0xC8 ∷ 0x60 ∷ 0 ∷ 0 ∷ 0 ∷ 1 ∷ 0 ∷ 0 ∷ 0 ∷ 1 ∷ codes "n"
unfolding spelling
addint = refl

pub repl : spelling (Repl 0 9) ≡ 0xC8 ∷ 0xA0 ∷ 0 ∷ 0 ∷ 0 ∷ 0 ∷ 0 ∷ 0 ∷ 0 ∷ 0 ∷ 0 ∷ 0 ∷ 0 ∷ 9 ∷ []
unfolding spelling
repl = refl

pub value : reply_bytes (Value (codes "first")) ≡ 0 ∷ 0 ∷ 0 ∷ 0 ∷ 5 ∷ codes "first"
value = refl

-- what stands at the front of bytes

pub whole : request_at (0xC8 ∷ 0x30 ∷ 0 ∷ 0 ∷ 0 ∷ 1 ∷ 120 ∷ 121 ∷ []) ≡ Ok (Get (120 ∷ []), 121 ∷ [])
unfolding request_at fields_at
whole = refl

pub part : request_at (0xC8 ∷ 0x10 ∷ 0 ∷ 0 ∷ 0 ∷ 1 ∷ 0 ∷ 0 ∷ 0 ∷ 5 ∷ 120 ∷ 97 ∷ 98 ∷ []) ≡ Err Part
unfolding request_at fields_at
part = refl

pub none : request_at [] ≡ Err Part
unfolding request_at fields_at
none = refl

pub other : request_at (0xC8 ∷ 0x99 ∷ []) ≡ Err Bad
unfolding request_at fields_at
other = refl

pub too_long : request_at (0xC8 ∷ 0x30 ∷ 0 ∷ 16 ∷ 0 ∷ 1 ∷ []) ≡ Err Bad
unfolding request_at fields_at
too_long = refl

pub count : request_at (0xC8 ∷ 0x90 ∷ 0 ∷ 0 ∷ 0 ∷ 1 ∷ 0 ∷ 0 ∷ 0 ∷ 0 ∷ 255 ∷ 255 ∷ 255 ∷ 255 ∷ []) ≡ Err Bad
unfolding request_at fields_at
count = refl

pub first : request_at (0xC9 ∷ []) ≡ Err Bad
unfolding request_at fields_at
first = refl
