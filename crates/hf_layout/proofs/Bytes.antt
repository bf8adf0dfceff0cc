-- The bytes at which a block stands.
use Rattle.std.proofs.Common.{◌≡◌, ◌∙◌, ℕ, ◌+◌, ◌-◌, ◌≤◌, List, [], ◌∷◌, ◌++◌, length, take, drop, Some, None, refl, sym, ap, arith, append_assoc, length-append}
use Rattle.std.proofs.lemmas.List.{take_at, drop_at, take-append-drop, take-take, drop-take, drop-drop, places, same_lists}
use Rattle.tc_base.specs.Files.{wrote}
use Rattle.hf_block.specs.Walks.{between}
use Rattle.hf_block.specs.Heads.{free_head}
use Rattle.hf_block.specs.Pieces.{Piece, held, free, spell, size_of, spell_all, IsWhole, AllWhole}
use Rattle.hf_block.proofs.Listing.{spell-append}
use Rattle.hf_layout.specs.Frees.{Frees, IsThere}
use Rattle.hf_layout.specs.Layout.{piece_at, record_of, record_at, LaidOut}
use Rattle.hf_layout.proofs.Places.{long, parted_at}
use Rattle.hf_layout.proofs.Shares.{ends, ends_within, known, whole_around}

-- inside a range, from its front
between_from : (first end at n : ℕ) (bytes : List ℕ) → first ≤ at → at + n ≤ end → take n (drop (at - first) (between first end bytes)) ≡ take n (drop at bytes)
between_from first end at n bytes low high =
    let sum : end - first ≡ (at - first) + (end - at) = omega (arith, low, high) in
    let place : first + (at - first) ≡ at = omega (arith, low) in
    ap (λ (m : ℕ). take n (drop (at - first) (take m (drop first bytes)))) sum
    ∙ ap (λ (l : List ℕ). take n l) (drop-take (at - first) (end - at) (drop first bytes))
    ∙ take-take n (end - at) (drop (at - first) (drop first bytes)) (omega (arith, high))
    ∙ ap (λ (l : List ℕ). take n l) (drop-drop (at - first) first bytes ∙ ap (λ (m : ℕ). drop m bytes) place)

pub piece_bytes : (unit first end : ℕ) (ps : List Piece) (frees lent : Frees) (bytes : List ℕ) (p : Piece) (q : ℕ) → LaidOut unit first end ps frees lent bytes → piece_at first ps q ≡ Some p → take (size_of p) (drop q bytes) ≡ spell p
piece_bytes unit first end ps frees lent bytes p q h at =
    let s = parted_at first ps q p at in
    let w = ends_within unit first ps p q at in
    let e = ends unit first end ps frees lent bytes h in
    let place : q - first ≡ long s.xs = omega (arith, s.place) in
    let row : between first end bytes ≡ spell_all s.xs ++ (spell p ++ spell_all s.ys) = h.filled.is ∙ ap spell_all s.is ∙ spell-append s.xs (p ∷ s.ys) in
    sym (between_from first end q (size_of p) bytes w.0 (omega (arith, w.1, e)))
    ∙ rw (row, place) (ap (λ (l : List ℕ). take (size_of p) l) (drop_at (spell_all s.xs) (spell p ++ spell_all s.ys) (long s.xs) refl) ∙ take_at (spell p) (spell_all s.ys) (size_of p) refl)

-- what stands there already is written
pub wrote_same : (at : ℕ) (x bytes : List ℕ) → take (length x) (drop at bytes) ≡ x → wrote at x bytes ≡ bytes
unfolding wrote
wrote_same at x bytes is =
    append_assoc (take at bytes) x (drop (at + length x) bytes)
    ∙ ap (λ (l : List ℕ). take at bytes ++ (l ++ drop (at + length x) bytes)) (sym is)
    ∙ ap (λ (l : List ℕ). take at bytes ++ (take (length x) (drop at bytes) ++ l)) (ap (λ (n : ℕ). drop n bytes) (omega arith) ∙ sym (drop-drop (length x) at bytes))
    ∙ ap (λ (l : List ℕ). take at bytes ++ l) (take-append-drop (length x) (drop at bytes))
    ∙ take-append-drop at bytes

-- two writes that don't meet
pub wrote_apart : (at q : ℕ) (x y bytes : List ℕ) → at + length x ≤ q → q + length y ≤ length bytes → wrote at x (wrote q y bytes) ≡ wrote q y (wrote at x bytes)
unfolding wrote
wrote_apart at q x y bytes apart within = same_lists _ _ (grind (arith, places)) (λ i d h. grind (arith, places))

-- the block at a place is whole
pub whole_at : (unit first : ℕ) (ps : List Piece) (p : Piece) (q : ℕ) → AllWhole unit ps → piece_at first ps q ≡ Some p → IsWhole unit p
whole_at unit first ps p q whole at = let s = parted_at first ps q p at in (whole_around unit s.xs (p ∷ []) s.ys ps s.is whole).1.0

-- a front of what stands there
front_bytes : (n : ℕ) (x rest bytes : List ℕ) (q : ℕ) → n ≡ length (x ++ rest) → take n (drop q bytes) ≡ x ++ rest → take (length x) (drop q bytes) ≡ x
front_bytes n x rest bytes q long is =
    sym (take-take (length x) n (drop q bytes) (omega (arith, long, length-append x rest))) ∙ ap (λ (l : List ℕ). take (length x) l) is ∙ take_at x rest (length x) refl

spells : (n : ℕ) (tail : List ℕ) → spell (free n tail) ≡ free_head n ++ tail
unfolding spell
spells n tail = refl

-- a free block of a pool has its head
pub head_stands : (unit first end : ℕ) (ps : List Piece) (frees lent : Frees) (bytes : List ℕ) (place size : ℕ) → LaidOut unit first end ps frees lent bytes → IsThere frees place size → wrote place (free_head size) bytes ≡ bytes
head_stands unit first end ps frees lent bytes place size h there =
    let k = known unit first end ps frees lent bytes place size h there in
    with_piece k.piece k.at k.size k.no_record
  where
    with_piece : (p : Piece) → piece_at first ps place ≡ Some p → size_of p ≡ size → record_at first ps place ≡ None → wrote place (free_head size) bytes ≡ bytes
    with_piece (held r) at sized none = absurd (let is : Some r ≡ None = sym (ap record_of at) ∙ none in cc)
    with_piece (free n tail) at sized none =
        let w = whole_at unit first ps (free n tail) place h.filled.whole at in
        let e : n ≡ size = sym w.fits ∙ sized in
        let b = piece_bytes unit first end ps frees lent bytes (free n tail) place h at in
        wrote_same place (free_head size) bytes (ap (λ (m : ℕ). take (length (free_head m)) (drop place bytes)) (sym e) ∙ front_bytes (size_of (free n tail)) (free_head n) tail bytes place (ap length (spells n tail)) (b ∙ spells n tail) ∙ ap free_head e)
