-- Writes in two parts, over old bytes and behind them, and parts of a slice written over.
use Rattle.std.proofs.Common.{◌≡◌, ℕ, ◌+◌, ◌-◌, min, List, ◌++◌, length, take, drop, sym, ◌∙◌, ap, arith, append_assoc}
use Rattle.std.proofs.lemmas.List.{places, same_lists, drop-drop}
use borrow.Rule.Slice.PartMut.{put_mid}
use Rattle.tc_base.specs.Files.{wrote}

pub wrote_in_parts : (at a k : ℕ) (bytes old over more : List ℕ) → a ≡ min at (length old) → k ≡ min (length bytes) (length old - a) → over ≡ take k bytes → more ≡ drop k bytes → wrote a over (old ++ more) ≡ wrote at bytes old
unfolding wrote
wrote_in_parts at a k bytes old over more ea ek eo em = same_lists _ _ (grind (arith, places)) (λ i d h. grind (arith, places))

-- a part of a slice written over
pub part_written : (at n : ℕ) (xs ys : List ℕ) → length ys ≡ n → put_mid at (at + n - at) xs ys ≡ wrote at ys xs
unfolding wrote
part_written at n xs ys long =
    let rest : drop (at + n - at) (drop at xs) ≡ drop (at + length ys) xs = drop-drop (at + n - at) at xs ∙ ap (λ k. drop k xs) (omega arith) in
    ap (λ (l : List ℕ). take at xs ++ (ys ++ l)) rest ∙ sym (append_assoc (take at xs) ys (drop (at + length ys) xs))

-- a vector behind a slice of all of it
pub all_written : (n : ℕ) (xs ys : List ℕ) → length ys ≡ length xs → n ≡ length ys → take n (ys ++ drop (length ys) xs) ≡ ys
all_written n xs ys long en = same_lists _ _ (grind (arith, places)) (λ i d h. grind (arith, places))
