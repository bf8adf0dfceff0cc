-- Bytes written over others, of which those that are the same are left as they stand.
use Rattle.std.proofs.Common.{◌≡◌, ◌∙◌, ⊎_elim, ℕ, ◌+◌, ◌-◌, ◌≤◌, List, [], ◌∷◌, ◌++◌, length, take, drop, refl, sym, ap, subst, arith, append_assoc, length-append, length-drop}
use Rattle.std.proofs.lemmas.Bool.{cases_eq}
use Rattle.std.proofs.lemmas.List.{take-append-drop, take-take, drop-take, drop-drop, length-take-le}
use Rattle.tc_base.specs.Files.{Files, wrote}
use Rattle.tc_undo.specs.Pieces.{laid, laid_one, part}
use Rattle.tc_undo.specs.declared.piece.Piece.{Piece}
use Rattle.tc_undo.proofs.Putting.{laid_here, laid_there}
use Rattle.tc_held.specs.Held.{Written}
use Rattle.tc_held.proofs.Holding.{written_then}
use Rattle.tc_held.proofs.Laying.{wrote_grows}

take_plus : (m n : ℕ) (l : List ℕ) → take (m + n) l ≡ take m l ++ take n (drop m l)
take_plus m n l = sym (take-append-drop m (take (m + n) l)) ∙ (λ i. take-take m (m + n) l (omega arith) i ++ drop-take m n l i)

-- more that is the same, up to a place further on
pub take_more : (m n : ℕ) (a b : List ℕ) → m ≤ n → take m a ≡ take m b → take (n - m) (drop m a) ≡ take (n - m) (drop m b) → take n a ≡ take n b
take_more m n a b le first second = subst (λ k. take k a ≡ take k b) (omega (arith, le)) (take_plus m (n - m) a ∙ (λ i. first i ++ second i) ∙ sym (take_plus m (n - m) b))

-- those at the end stand there
wrote_before : (at : ℕ) (x z f : List ℕ) → take (length z) (drop (at + length x) f) ≡ z → wrote at x f ≡ wrote at (x ++ z) f
unfolding wrote
wrote_before at x z f is =
    let end : at + length x + length z ≡ at + length (x ++ z) = omega (arith, length-append x z) in
    ap (λ (l : List ℕ). (take at f ++ x) ++ l) (sym (take-append-drop (length z) (drop (at + length x) f)))
    ∙ (λ i. (take at f ++ x) ++ (is i ++ drop-drop (length z) (at + length x) f i))
    ∙ sym (append_assoc (take at f ++ x) z (drop (at + length x + length z) f))
    ∙ (λ i. append_assoc (take at f) x z i ++ drop (end i) f)

-- nothing is written
wrote_none : (at : ℕ) (f : List ℕ) → wrote at [] f ≡ f
unfolding wrote
wrote_none at f = append_assoc (take at f) [] (drop (at + 0) f) ∙ ap (λ k. take at f ++ drop k f) (omega arith) ∙ take-append-drop at f

pub written_none : (file at : ℕ) (a : Files) → Written file at [] a a
written_none file at a = record { here = sym (wrote_none at (a file)); others = λ g other. refl }

-- of a write that stands in part, what comes next stands already
pub written_alike : (file at done k : ℕ) (bs was : List ℕ) (a b : Files) → done + k ≤ length bs → was ≡ take (length bs) (drop at (a file)) → take k (drop done was) ≡ take k (drop done bs) → Written file at (take done bs) a b
    → Written file at (take (done + k) bs) a b
written_alike file at done k bs was a b most is alike w =
    let f = a file in
    let x = take done bs in
    let z = take k (drop done bs) in
    let lx : length x ≡ done = length-take-le done bs (omega (arith, most)) in
    let lz : length z ≡ k = length-take-le k (drop done bs) (omega (arith, most, length-drop done bs)) in
    let stands : take k (drop (at + done) f) ≡ z =
    ap (λ (l : List ℕ). take k l) (sym (drop-drop done at f))
    ∙ sym (take-take k (length bs - done) (drop done (drop at f)) (omega (arith, most)))
    ∙ ap (λ (l : List ℕ). take k l) (sym (drop-take done (length bs - done) (drop at f)))
    ∙ ap (λ n. take k (drop done (take n (drop at f)))) (omega (arith, most))
    ∙ ap (λ (l : List ℕ). take k (drop done l)) (sym is)
    ∙ alike in
    record {
      here = w.here ∙ wrote_before at x z f (ap (λ n. take n (drop (at + length x) f)) lz ∙ ap (λ n. take k (drop (at + n) f)) lx ∙ stands) ∙ ap (λ (l : List ℕ). wrote at l f) (sym (take_plus done k bs));
      others = w.others;
    }

-- some bytes, and behind them some of the rest
pub written_on : (file at done n : ℕ) (bs rest : List ℕ) (a b c : Files) → done ≤ length bs → rest ≡ drop done bs → at ≤ length (a file) → Written file at (take done bs) a b → Written file (at + done) (take n rest) b c
    → Written file at (take (done + n) bs) a c
written_on file at done n bs rest a b c le is begins first second =
    written_then file at (take done bs) (take n rest) (take (done + n) bs) a b c (ap (λ (l : List ℕ). take done bs ++ take n l) is ∙ sym (take_plus done n bs)) begins first
    (subst (λ k. Written file (at + k) (take n rest) b c) (sym (length-take-le done bs le)) second)

-- the same where the rest is a slice
pub written_slice : (file at done n k : ℕ) (bs : List ℕ) (a b c : Files) → done ≤ length bs → n ≤ k → at ≤ length (a file) → Written file at (take done bs) a b → Written file (at + done) (take n (take k (drop done bs))) b c
    → Written file at (take (done + n) bs) a c
written_slice file at done n k bs a b c le few begins first second =
    written_on file at done n bs (drop done bs) a b c le refl begins first (subst (λ (l : List ℕ). Written file (at + done) l b c) (take-take n k (drop done bs) few) second)

one_grows : (bytes : List ℕ) (p : Piece) (f : ℕ) (old : List ℕ) → length old ≤ length (laid_one bytes p f old)
one_grows bytes p f old = ⊎_elim
    (λ is. subst (λ (l : List ℕ). length old ≤ length l) (sym (laid_here bytes p f old is)) (wrote_grows p.at (part bytes p) old))
    (λ other. subst (λ (l : List ℕ). length old ≤ length l) (sym (laid_there bytes p f old other)) (omega arith))
    (cases_eq p.file f)

-- no file is shorter with pieces over it
pub laid_grows : (bytes : List ℕ) (ps : List Piece) (f : ℕ) (old : List ℕ) → length old ≤ length (laid bytes ps f old)
laid_grows bytes [] f old = omega arith
laid_grows bytes (p ∷ ps) f old = omega (arith, one_grows bytes p f old, laid_grows bytes ps f (laid_one bytes p f old))
