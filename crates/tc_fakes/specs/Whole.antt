-- Lists of bytes, cut and joined.
use Rattle.std.proofs.Common.{ℕ, ◌+◌, ◌<◌, List, [], ◌∷◌, ◌++◌, suc, zero, take, drop, length, replicate, arith}
use Rattle.tc_base.specs.Bytes.{IsBytes}
use Rattle.tc_base.specs.Files.{wrote}

pub take_bytes : (n : ℕ) (bytes : List ℕ) → IsBytes bytes → IsBytes (take n bytes)
take_bytes zero bytes h i = omega arith
take_bytes (suc n) [] h i = omega arith
take_bytes (suc n) (b ∷ bytes) h zero = h 0
take_bytes (suc n) (b ∷ bytes) h (suc i) = take_bytes n bytes (λ j. h (suc j)) i

pub drop_bytes : (n : ℕ) (bytes : List ℕ) → IsBytes bytes → IsBytes (drop n bytes)
drop_bytes zero bytes h i = h i
drop_bytes (suc n) [] h i = omega arith
drop_bytes (suc n) (b ∷ bytes) h i = drop_bytes n bytes (λ j. h (suc j)) i

pub more_bytes : (a b : List ℕ) → IsBytes a → IsBytes b → IsBytes (a ++ b)
more_bytes [] b f g i = g i
more_bytes (x ∷ a) b f g zero = f 0
more_bytes (x ∷ a) b f g (suc i) = more_bytes a b (λ j. f (suc j)) g i

pub same_bytes : (n b : ℕ) → b < 256 → IsBytes (replicate n b)
same_bytes zero b h i = omega arith
same_bytes (suc n) b h zero = h
same_bytes (suc n) b h (suc i) = same_bytes n b h i

pub wrote_bytes : (at : ℕ) (bytes old : List ℕ) → IsBytes old → IsBytes bytes → IsBytes (wrote at bytes old)
unfolding wrote
wrote_bytes at bytes old f g = more_bytes (take at old ++ bytes) _ (more_bytes (take at old) bytes (take_bytes at old f) g) (drop_bytes (at + length bytes) old f)
