-- A value at the front of bytes, read from left to right.
use Rattle.std.specs.Prelude.{◌≡◌, ℕ, List, [], ◌∷◌, length, take, drop, nat_lt, nat_le, if◌then◌else◌, Result, Ok, Err}
use Rattle.std.specs.Int.{w32, from_be_bytes}
use Rattle.tc_base.specs.declared.fields.NotWhole.{NotWhole}
use Rattle.tc_base.specs.declared.fields.NotWhole.TheVariants.{Part, Bad}

-- a value and the bytes behind it, or less than a value, or none
abbrev pub Front : Type 0 → Type 0
Front A = Result (A × List ℕ) NotWhole

infixl 10 ◌>>=◌
abbrev pub ◌>>=◌ : {A B : Type 0} → Result A NotWhole → (A → Result B NotWhole) → Result B NotWhole
(Ok x) >>= f = f x
(Err e) >>= f = Err e

-- what a function returned, seen by view, is what reading gives
abbrev pub Gives : {X Y : Type 0} → (X → Y) → Result X NotWhole → Result Y NotWhole → Type 0
Gives view (Ok x) read = read ≡ Ok (view x)
Gives view (Err e) read = read ≡ Err e

-- a byte
abbrev pub byte_at : List ℕ → Front ℕ
byte_at [] = Err Part
byte_at (b ∷ rest) = Ok (b, rest)

-- four bytes of a number that is at most limit; where fewer stand, zeros behind them have to make one
abbrev pub size_at : ℕ → List ℕ → Front ℕ
size_at limit bytes =
    if nat_le (from_be_bytes w32 bytes) limit
    then (if nat_lt (length bytes) 4 then Err Part else Ok (from_be_bytes w32 bytes, drop 4 bytes))
    else Err Bad

-- that many bytes
abbrev pub bytes_at : ℕ → List ℕ → Front (List ℕ)
bytes_at n bytes = if nat_lt (length bytes) n then Err Part else Ok (take n bytes, drop n bytes)

-- one behind the other
abbrev pub both : {A B : Type 0} → (List ℕ → Front A) → (List ℕ → Front B) → List ℕ → Front (A × B)
both p q bytes = p bytes >>= λ x. q x.1 >>= λ y. Ok ((x.0, y.0), y.1)

-- the value seen as another
abbrev pub mapped : {A B : Type 0} → (A → B) → (List ℕ → Front A) → List ℕ → Front B
mapped f p bytes = p bytes >>= λ x. Ok (f x.0, x.1)
