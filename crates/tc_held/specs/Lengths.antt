-- What is held makes no file longer than a bound below which it ends.
use Rattle.std.specs.Prelude.{◌≡◌, ℕ, ◌+◌, ◌≤◌, List, [], ◌∷◌, length, drop, All}
use Rattle.std.proofs.Common.{⊎_elim, sym, ◌∙◌, ap, subst, arith, length-take, length-drop}
use Rattle.std.proofs.lemmas.Bool.{cases_eq}
use Rattle.std.proofs.lemmas.List.{places}
use Rattle.std.proofs.lemmas.List.Elements.{All-head, All-tail}
use Rattle.tc_base.specs.Files.{Files, wrote}
use Rattle.tc_undo.specs.Pieces.{LiesIn, laid, laid_one, part}
use Rattle.tc_undo.specs.declared.piece.Piece.{Piece}
use Rattle.tc_undo.proofs.Putting.{laid_here, laid_there}
use Rattle.tc_held.specs.Pieces.{EndsBelow}
use Rattle.tc_held.specs.Held.{over}
use Rattle.tc_held.specs.declared.held.Held.{Held}

pub part_size : (bytes : List ℕ) (p : Piece) → LiesIn bytes p → length (part bytes p) ≡ p.size
part_size bytes p lies = length-take p.size (drop p.from bytes) ∙ omega (arith, length-drop p.from bytes, lies)

wrote_most : (at : ℕ) (bytes old : List ℕ) (m : ℕ) → length old ≤ m → at + length bytes ≤ m → length (wrote at bytes old) ≤ m
unfolding wrote
wrote_most at bytes old m low high = grind (arith, places)

one_most : (bytes : List ℕ) (p : Piece) (bound : ℕ → ℕ) (f : ℕ) (old : List ℕ) → length old ≤ bound f → LiesIn bytes p → EndsBelow bound p → length (laid_one bytes p f old) ≤ bound f
one_most bytes p bound f old low lies ends = ⊎_elim
    (λ is. subst (λ (l : List ℕ). length l ≤ bound f) (sym (laid_here bytes p f old is)) (wrote_most p.at (part bytes p) old (bound f) low (there is)))
    (λ other. subst (λ (l : List ℕ). length l ≤ bound f) (sym (laid_there bytes p f old other)) low)
    (cases_eq p.file f)
  where
    there : p.file ≡ f → p.at + length (part bytes p) ≤ bound f
    there is = let here : p.at + p.size ≤ bound f = subst (λ h. p.at + p.size ≤ bound h) is ends in omega (arith, here, part_size bytes p lies)

pub laid_most : (bytes : List ℕ) (ps : List Piece) (bound : ℕ → ℕ) (f : ℕ) (old : List ℕ) → length old ≤ bound f → All (LiesIn bytes) ps → All (EndsBelow bound) ps → length (laid bytes ps f old) ≤ bound f
laid_most bytes [] bound f old low lie ends = low
laid_most bytes (p ∷ ps) bound f old low lie ends =
    laid_most bytes ps bound f (laid_one bytes p f old) (one_most bytes p bound f old low (All-head (LiesIn bytes) p ps lie) (All-head (EndsBelow bound) p ps ends))
    (All-tail (LiesIn bytes) p ps lie) (All-tail (EndsBelow bound) p ps ends)

-- nothing is held
pub over_bare : (held : Held) (under : Files) → held.pieces.items ≡ [] → (f : ℕ) → over held under f ≡ under f
over_bare held under none f = ap (λ (l : List Piece). laid held.bytes.items l f (under f)) none

pub all_bare : (held : Held) (under : Files) → held.pieces.items ≡ [] → over held under ≡ under
all_bare held under none = λ i f. over_bare held under none f i
