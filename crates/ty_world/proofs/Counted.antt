-- The pieces at the front of bytes, in the grammar's words, are as many as are read.
use Rattle.std.proofs.Common.{◌≡◌, ◌∙◌, ℕ, zero, suc, ◌<◌, ◌≤◌, List, [], ◌∷◌, ◌++◌, append_assoc, length, refl, sym, ap, subst, arith}
use Rattle.std.specs.Prelude.{Ok, Err}
use Rattle.tc_base.specs.Bytes.{IsBytes}
use Rattle.tc_base.specs.Reading.{Front}
use Rattle.ty_memc.specs.Grammar.{Spells, piece_at}
use Rattle.ty_memc.specs.declared.text.Piece.{Piece}
use Rattle.ty_memc.proofs.PieceGrammar.{pieces}
use Rattle.ty_world.specs.Frames.{AreFrames, HasNone, Stands, frames, frames_by, frames_within, one_more}
use Rattle.ty_world.proofs.FrameLaws.{frames_next}

bytes_behind : (front rest : List ℕ) → IsBytes (front ++ rest) → IsBytes rest
bytes_behind [] rest h = h
bytes_behind (b ∷ front) rest h = bytes_behind front rest (λ i. h (suc i))

none_counted : (bytes : List ℕ) → IsBytes bytes → HasNone Spells bytes → frames bytes ≡ 0
unfolding frames_by frames_within
none_counted [] b none = refl
none_counted (x ∷ bytes) b none = go (piece_at (x ∷ bytes)) refl
  where
    go : (t : Front Piece) → piece_at (x ∷ bytes) ≡ t → one_more (frames_within piece_at (length bytes)) t ≡ 0
    go (Ok y) is = let f = pieces.found (x ∷ bytes) y.0 y.1 b is in absurd (none y.0 f.0 y.1 f.1 f.2)
    go (Err e) is = refl

stands_counted : (xs : List Piece) (front rest : List ℕ) → IsBytes (front ++ rest) → Stands Spells xs front → HasNone Spells rest → length xs ≡ frames (front ++ rest)
stands_counted [] front rest b s none = subst (λ (l : List ℕ). 0 ≡ frames (l ++ rest)) (sym s) (sym (none_counted rest (bytes_behind front rest b) none))
stands_counted (x ∷ xs) front rest b s none =
    let whole : front ++ rest ≡ s.0 ++ (s.1 ++ rest) = ap (λ (l : List ℕ). l ++ rest) s.4 ∙ append_assoc s.0 s.1 rest in
    let later = stands_counted xs s.1 rest (bytes_behind s.0 (s.1 ++ rest) (subst IsBytes whole b)) s.3 none in
    ap suc later ∙ (sym (frames_next piece_at pieces (s.0 ++ (s.1 ++ rest)) x (s.1 ++ rest) (pieces.again x s.0 (s.1 ++ rest) s.2)) ∙ ap frames (sym whole))

pub counted : (bytes rest : List ℕ) (xs : List Piece) → IsBytes bytes → AreFrames Spells bytes xs rest → length xs ≡ frames bytes
counted bytes rest xs b a = stands_counted xs a.front rest (subst IsBytes a.parts b) a.stand a.none ∙ ap frames (sym a.parts)

abbrev Listed : List ℕ → Type 0
Listed bytes = (xs : List Piece) × (rest : List ℕ) × AreFrames Spells bytes xs rest

one_listed : (bytes : List ℕ) → IsBytes bytes → ((rest : List ℕ) → length rest < length bytes → IsBytes rest → Listed rest) → Listed bytes
one_listed bytes b more = go (piece_at bytes) refl
  where
    go : (t : Front Piece) → piece_at bytes ≡ t → Listed bytes
    go (Err e) is = ([], bytes, record { front = []; parts = refl; stand = refl; none = λ x text rest s same. absurd (let w = ap piece_at same ∙ pieces.again x text rest s in cc) })
    go (Ok y) is =
        let f = pieces.found bytes y.0 y.1 b is in
        let l = pieces.less bytes y.0 y.1 is in
        let m = more y.1 l (bytes_behind f.0 y.1 (subst IsBytes f.2 b)) in
        let a = m.2 in (
          y.0 ∷ m.0,
          m.1,
          record { front = f.0 ++ a.front; parts = f.2 ∙ (ap (λ (r : List ℕ). f.0 ++ r) a.parts ∙ sym (append_assoc f.0 a.front m.1)); stand = (f.0, a.front, f.1, a.stand, refl); none = a.none },
        )

listed_within : (n : ℕ) (bytes : List ℕ) → length bytes ≤ n → IsBytes bytes → Listed bytes
listed_within zero bytes le b = one_listed bytes b (λ rest less bs. absurd (omega (arith, le, less)))
listed_within (suc n) bytes le b = one_listed bytes b (λ rest less bs. listed_within n rest (omega (arith, le, less)) bs)

pub listed : (bytes : List ℕ) → IsBytes bytes → (xs : List Piece) × (rest : List ℕ) × AreFrames Spells bytes xs rest
listed bytes b = listed_within (length bytes) bytes (omega arith) b
