-- Bytes written over others, where they are the same at the front, at the end, or everywhere.
use Rattle.std.proofs.Common.{◌≡◌, ◌∙◌, ℕ, ◌+◌, ◌-◌, ◌≤◌, List, ◌++◌, length, take, drop, sym, ap, arith, append_assoc, length-append, length-drop}
use Rattle.std.proofs.lemmas.List.{take-append-drop, take-take, drop-take, drop-drop, length-take-le}
use Rattle.tc_base.specs.Files.{wrote}

-- the same bytes again
pub wrote_same : (at : ℕ) (x f : List ℕ) → take (length x) (drop at f) ≡ x → wrote at x f ≡ f
unfolding wrote
wrote_same at x f is =
    append_assoc (take at f) x (drop (at + length x) f)
    ∙ ap (λ (l : List ℕ). take at f ++ (l ++ drop (at + length x) f)) (sym is)
    ∙ ap (λ (l : List ℕ). take at f ++ (take (length x) (drop at f) ++ l)) (sym (drop-drop (length x) at f))
    ∙ ap (λ (l : List ℕ). take at f ++ l) (take-append-drop (length x) (drop at f))
    ∙ take-append-drop at f

take_plus : (m n : ℕ) (f : List ℕ) → take (m + n) f ≡ take m f ++ take n (drop m f)
take_plus m n f = sym (take-append-drop m (take (m + n) f)) ∙ (λ i. take-take m (m + n) f (omega arith) i ++ drop-take m n f i)

-- those at the front stand there
wrote_behind : (at : ℕ) (a x f : List ℕ) → take (length a) (drop at f) ≡ a → wrote (at + length a) x f ≡ wrote at (a ++ x) f
unfolding wrote
wrote_behind at a x f is =
    let end : at + length a + length x ≡ at + length (a ++ x) = omega (arith, length-append a x) in
    (λ i. (take_plus at (length a) f i ++ x) ++ drop (end i) f)
    ∙ ap (λ (l : List ℕ). ((take at f ++ l) ++ x) ++ drop (at + length (a ++ x)) f) is
    ∙ ap (λ (l : List ℕ). l ++ drop (at + length (a ++ x)) f) (append_assoc (take at f) a x)

-- those at the end stand there
wrote_before : (at : ℕ) (x z f : List ℕ) → take (length z) (drop (at + length x) f) ≡ z → wrote at x f ≡ wrote at (x ++ z) f
unfolding wrote
wrote_before at x z f is =
    let end : at + length x + length z ≡ at + length (x ++ z) = omega (arith, length-append x z) in
    ap (λ (l : List ℕ). (take at f ++ x) ++ l) (sym (take-append-drop (length z) (drop (at + length x) f)))
    ∙ (λ i. (take at f ++ x) ++ (is i ++ drop-drop (length z) (at + length x) f i))
    ∙ sym (append_assoc (take at f ++ x) z (drop (at + length x + length z) f))
    ∙ (λ i. append_assoc (take at f) x z i ++ drop (end i) f)

-- those before a place and those from another on stand there
pub wrote_between : (at front end : ℕ) (old x f : List ℕ) → length old ≡ length x → old ≡ take (length x) (drop at f) → front ≤ end → end ≤ length x → take front (take end old) ≡ take front (take end x) → drop end old ≡ drop end x
    → wrote (at + front) (take (end - front) (drop front x)) f ≡ wrote at x f
wrote_between at front end old x f long is le most fronts ends =
    let a : List ℕ = take front x in
    let m : List ℕ = take (end - front) (drop front x) in
    let z : List ℕ = drop end x in
    let la : length a ≡ front = length-take-le front x (omega (arith, le, most)) in
    let lm : length m ≡ end - front = length-take-le (end - front) (drop front x) (omega (arith, length-drop front x, most)) in
    let lz : length z ≡ length x - end = length-drop end x in
    let total : end + length z ≡ length x = omega (arith, lz, most) in
    let at_front : take (length a) (drop at f) ≡ a =
    ap (λ (n : ℕ). take n (drop at f)) la ∙ sym (take-take front (length x) (drop at f) (omega (arith, le, most))) ∙ ap (λ (l : List ℕ). take front l) (sym is)
    ∙ sym (take-take front end old le) ∙ fronts ∙ take-take front end x le in
    let place : at + end ≡ at + front + length m = omega (arith, lm, le) in
    let at_end : take (length z) (drop (at + front + length m) f) ≡ z =
    ap (λ (n : ℕ). take (length z) (drop n f)) (sym place) ∙ ap (λ (l : List ℕ). take (length z) l) (sym (drop-drop end at f))
    ∙ sym (drop-take end (length z) (drop at f)) ∙ ap (λ (n : ℕ). drop end (take n (drop at f))) total ∙ ap (λ (l : List ℕ). drop end l) (sym is) ∙ ends in
    let sum : m ++ z ≡ drop front x =
    ap (λ (l : List ℕ). m ++ l) (ap (λ (n : ℕ). drop n x) (omega (arith, le)) ∙ sym (drop-drop (end - front) front x)) ∙ take-append-drop (end - front) (drop front x) in
    wrote_before (at + front) m z f at_end
    ∙ (λ i. wrote (at + sym la i) (sum i) f)
    ∙ wrote_behind at a (drop front x) f at_front
    ∙ ap (λ (l : List ℕ). wrote at l f) (take-append-drop front x)

-- two runs of the same bytes at the front, and one byte more
