-- The head of a record with chains of four bytes.
use Rattle.std.proofs.Common.{◌≡◌, ◌∙◌, ℕ, zero, suc, ◌+◌, ◌-◌, ◌*◌, ◌≤◌, List, ◌∷◌, length, take, drop, length-drop, get_or, Ok, refl, sym, ap, arith}
use Rattle.std.proofs.lemmas.List.{drop_more, take_all}
use Rattle.tc_base.specs.Endian.{le_number, le_front}
use Rattle.tc_base.specs.Vnum.{vnum, vnum_front}
use Rattle.tc_base.proofs.ExactNumbers.{le_front-long}
use Rattle.hf_block.specs.declared.block.Block.TheVariants.{Rec}
use Rattle.hf_block.specs.Fronts.{rec_front}

le_one : (a : ℕ) (rest : List ℕ) → le_front 1 (a ∷ rest) ≡ Ok (a, rest)
unfolding le_number
le_one a rest = le_front-long 1 a (a ∷ rest) (omega arith) (omega arith)

le_two : (a b : ℕ) (rest : List ℕ) → le_front 2 (a ∷ (b ∷ rest)) ≡ Ok (b * 256 + a, rest)
unfolding le_number
le_two a b rest = le_front-long 2 (b * 256 + a) (a ∷ (b ∷ rest)) (omega arith) (omega arith)

le_four : (a b c d : ℕ) (rest : List ℕ) → le_front 4 (a ∷ (b ∷ (c ∷ (d ∷ rest)))) ≡ Ok (a + 256 * (b + 256 * (c + 256 * d)), rest)
unfolding le_number
le_four a b c d rest = le_front-long 4 (a + 256 * (b + 256 * (c + 256 * d))) (a ∷ (b ∷ (c ∷ (d ∷ rest)))) (omega arith) (omega arith)

narrow_front : (hash a b c d e f g h low high key value : ℕ) (sizes behind rest : List ℕ) → vnum_front sizes ≡ Ok (key, behind) → vnum_front behind ≡ Ok (value, rest)
    → rec_front 4 (hash ∷ (a ∷ (b ∷ (c ∷ (d ∷ (e ∷ (f ∷ (g ∷ (h ∷ (low ∷ (high ∷ sizes)))))))))))
    ≡ Ok (Rec hash (a + 256 * (b + 256 * (c + 256 * d))) (e + 256 * (f + 256 * (g + 256 * h))) (high * 256 + low) key value (12 + length (vnum key) + length (vnum value)), rest)
unfolding rec_front
narrow_front hash a b c d e f g h low high key value sizes behind rest k v =
    rw (
      le_one hash (a ∷ (b ∷ (c ∷ (d ∷ (e ∷ (f ∷ (g ∷ (h ∷ (low ∷ (high ∷ sizes)))))))))),
      le_four a b c d (e ∷ (f ∷ (g ∷ (h ∷ (low ∷ (high ∷ sizes)))))),
      le_four e f g h (low ∷ (high ∷ sizes)),
      le_two low high sizes,
      k,
      v,
    ) refl

-- so many bytes from a place on, one by one, and those behind them
abbrev pick : ℕ → ℕ → List ℕ → List ℕ
pick zero i bytes = drop i bytes
pick (suc n) i bytes = get_or bytes i 0 ∷ pick n (i + 1) bytes

picked : (n i : ℕ) (bytes : List ℕ) → i + n ≤ length bytes → drop i bytes ≡ pick n i bytes
picked zero i bytes h = refl
picked (suc n) i bytes h = drop_more bytes i 0 (omega (arith, h)) ∙ ap (λ (l : List ℕ). get_or bytes i 0 ∷ l) (picked n (i + 1) bytes (omega (arith, h)))

pub narrow_at : (bytes behind rest : List ℕ) (key value : ℕ) → 11 ≤ length bytes → vnum_front (take (length bytes - 11) (drop 11 bytes)) ≡ Ok (key, behind) → vnum_front behind ≡ Ok (value, rest)
    → rec_front 4 bytes
    ≡ Ok (Rec (get_or bytes 0 0) (get_or bytes 1 0 + 256 * (get_or bytes 2 0 + 256 * (get_or bytes 3 0 + 256 * get_or bytes 4 0))) (get_or bytes 5 0 + 256 * (get_or bytes 6 0 + 256 * (get_or bytes 7 0 + 256 * get_or bytes 8 0))) (get_or bytes 10 0 * 256 + get_or bytes 9 0) key value (12 + length (vnum key) + length (vnum value)), rest)
narrow_at bytes behind rest key value long k v =
    let all : take (length bytes - 11) (drop 11 bytes) ≡ drop 11 bytes = take_all (length bytes - 11) (drop 11 bytes) (omega (arith, length-drop 11 bytes)) in
    ap (rec_front 4) (picked 11 0 bytes long)
    ∙ narrow_front (get_or bytes 0 0) (get_or bytes 1 0) (get_or bytes 2 0) (get_or bytes 3 0) (get_or bytes 4 0) (get_or bytes 5 0) (get_or bytes 6 0) (get_or bytes 7 0) (get_or bytes 8 0) (get_or bytes 9 0) (get_or bytes 10 0) key value (drop 11 bytes) behind rest (ap vnum_front (sym all) ∙ k) v
