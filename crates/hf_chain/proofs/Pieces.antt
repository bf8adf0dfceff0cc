-- Keys compared in pieces.
use Rattle.std.proofs.Common.{◌≡◌, ◌≢◌, ◌∙◌, ℕ, ◌+◌, ◌-◌, ◌≤◌, List, [], ◌∷◌, ◌++◌, length, take, drop, length-take, length-drop, refl, sym, ap, arith}
use Rattle.std.proofs.lemmas.List.{take-take, drop-drop, drop-take, take-append-drop, take_at, take_all}
use Rattle.std.proofs.Math.Seq.{take-add}
use Rattle.std.specs.Ordering.{nat_cmp}
use Rattle.std.specs.declared.cmp.Ordering.{Ordering}
use Rattle.std.specs.declared.cmp.Ordering.TheVariants.{Equal}
use Rattle.std.specs.Cmp.Lexicographic.{slice_cmp}
use Rattle.std.proofs.lemmas.Cmp.{nat_cmp_total, nat_list_cmp_total, tied_itself}
use Rattle.hf_tree.proofs.Orders.{three, slice_equal}

pub cmp_shared : (a x y : List ℕ) → slice_cmp nat_cmp (a ++ x) (a ++ y) ≡ slice_cmp nat_cmp x y
cmp_shared [] x y = refl
cmp_shared (e ∷ a) x y = let t : nat_cmp e e ≡ Equal = tied_itself nat_cmp_total e in rw t (cmp_shared a x y)

pub cmp_front : (a b x y : List ℕ) → length a ≡ length b → slice_cmp nat_cmp a b ≢ Equal → slice_cmp nat_cmp (a ++ x) (b ++ y) ≡ slice_cmp nat_cmp a b
cmp_front [] [] x y same ne = absurd (ne refl)
cmp_front [] (e ∷ b) x y same ne = absurd (omega arith)
cmp_front (e ∷ a) [] x y same ne = absurd (omega arith)
cmp_front (e ∷ a) (f ∷ b) x y same ne = three (nat_cmp e f) (λ h. rw h refl) (λ h. rw h (cmp_front a b x y (omega arith) (rw h at ne))) (λ h. rw h refl)

-- a list in three parts
parts : (d n : ℕ) (k : List ℕ) → k ≡ take d k ++ (take n (drop d k) ++ drop n (drop d k))
parts d n k = sym (ap (λ (l : List ℕ). take d k ++ l) (take-append-drop n (drop d k)) ∙ take-append-drop d k)

pub piece_other : (k b : List ℕ) (d n : ℕ) → length k ≡ length b → take d k ≡ take d b → slice_cmp nat_cmp (take n (drop d k)) (take n (drop d b)) ≢ Equal → slice_cmp nat_cmp k b ≡ slice_cmp nat_cmp (take n (drop d k)) (take n (drop d b))
piece_other k b d n same shared ne =
    let e : slice_cmp nat_cmp k b ≡ slice_cmp nat_cmp (take d k ++ (take n (drop d k) ++ drop n (drop d k))) (take d b ++ (take n (drop d b) ++ drop n (drop d b))) = (λ i. slice_cmp nat_cmp (parts d n k i) (parts d n b i)) in
    let s : take d k ++ (take n (drop d k) ++ drop n (drop d k)) ≡ take d b ++ (take n (drop d k) ++ drop n (drop d k)) = ap (λ (l : List ℕ). l ++ (take n (drop d k) ++ drop n (drop d k))) shared in
    e ∙ ap (λ (l : List ℕ). slice_cmp nat_cmp l (take d b ++ (take n (drop d b) ++ drop n (drop d b)))) s
    ∙ cmp_shared (take d b) (take n (drop d k) ++ drop n (drop d k)) (take n (drop d b) ++ drop n (drop d b))
    ∙ cmp_front (take n (drop d k)) (take n (drop d b)) (drop n (drop d k)) (drop n (drop d b)) (simp (length-take, length-drop) (omega (arith, same))) ne

pub piece_same : (k b : List ℕ) (d n : ℕ) → take d k ≡ take d b → take n (drop d k) ≡ take n (drop d b) → take (d + n) k ≡ take (d + n) b
piece_same k b d n shared same = take-add d n k ∙ (λ i. shared i ++ same i) ∙ sym (take-add d n b)

-- the piece that is read is one of the bytes to compare
pub piece_of : (all at d n : ℕ) (f : List ℕ) → d + n ≤ all → take n (drop d (take all (drop at f))) ≡ take n (drop (at + d) f)
piece_of all at d n f le =
    let split : all ≡ d + (all - d) = omega (arith, le) in
    ap (λ m. take n (drop d (take m (drop at f)))) split
    ∙ ap (λ (l : List ℕ). take n l) (drop-take d (all - d) (drop at f))
    ∙ take-take n (all - d) (drop d (drop at f)) (omega (arith, le))
    ∙ ap (λ (l : List ℕ). take n l) (drop-drop d at f ∙ ap (λ m. drop m f) (omega arith))

pub piece_read : (into tail f : List ℕ) (n at m : ℕ) → into ≡ take m (drop at f) → m ≡ n → length into ≡ n → take n (into ++ tail) ≡ take n (drop at f)
piece_read into tail f n at m is same long = take_at into tail n long ∙ is ∙ ap (λ k. take k (drop at f)) same

-- the compared bytes, one piece further
pub piece_more : (k f : List ℕ) (at d n : ℕ) → d + n ≤ length k → at + length k ≤ length f → take d k ≡ take d (take (length k) (drop at f)) → Equal ≡ slice_cmp nat_cmp (take (d + n - d) (drop d k)) (take (length (take (d + n - d) (drop d k))) (drop (at + d) f)) → take (d + n) k ≡ take (d + n) (take (length k) (drop at f))
piece_more k f at d n le inside shared is =
    let m : d + n - d ≡ n = omega arith in
    let len : length (take n (drop d k)) ≡ n = simp (length-take, length-drop) (omega (arith, le)) in
    let e : Equal ≡ slice_cmp nat_cmp (take n (drop d k)) (take (length (take n (drop d k))) (drop (at + d) f)) = rw m at is in
    let h : take n (drop d k) ≡ take (length (take n (drop d k))) (drop (at + d) f) = slice_equal (take n (drop d k)) (take (length (take n (drop d k))) (drop (at + d) f)) (sym e) in
    piece_same k (take (length k) (drop at f)) d n shared (h ∙ ap (λ j. take j (drop (at + d) f)) len ∙ sym (piece_of (length k) at d n f le))

pub piece_stops : (k f : List ℕ) (at d n : ℕ) (o : Ordering) → d + n ≤ length k → at + length k ≤ length f → take d k ≡ take d (take (length k) (drop at f)) → o ≡ slice_cmp nat_cmp (take (d + n - d) (drop d k)) (take (length (take (d + n - d) (drop d k))) (drop (at + d) f)) → o ≢ Equal → o ≡ slice_cmp nat_cmp k (take (length k) (drop at f))
piece_stops k f at d n o le inside shared is ne =
    let m : d + n - d ≡ n = omega arith in
    let len : length (take n (drop d k)) ≡ n = simp (length-take, length-drop) (omega (arith, le)) in
    let b = take (length k) (drop at f) in
    let e : o ≡ slice_cmp nat_cmp (take n (drop d k)) (take (length (take n (drop d k))) (drop (at + d) f)) = rw m at is in
    let h : o ≡ slice_cmp nat_cmp (take n (drop d k)) (take n (drop d b)) = e ∙ ap (λ j. slice_cmp nat_cmp (take n (drop d k)) (take j (drop (at + d) f))) len ∙ ap (λ (l : List ℕ). slice_cmp nat_cmp (take n (drop d k)) l) (sym (piece_of (length k) at d n f le)) in
    let long : length k ≡ length b = simp (length-take, length-drop) (omega (arith, inside)) in
    h ∙ sym (piece_other k b d n long shared (λ eq. ne (h ∙ eq)))

pub pieces_done : (k f : List ℕ) (at d : ℕ) → length k ≤ d → at + length k ≤ length f → take d k ≡ take d (take (length k) (drop at f)) → Equal ≡ slice_cmp nat_cmp k (take (length k) (drop at f))
pieces_done k f at d high inside shared =
    let b = take (length k) (drop at f) in
    let long : length b ≡ length k = simp (length-take, length-drop) (omega (arith, inside)) in
    let e : k ≡ b = sym (take_all d k high) ∙ shared ∙ take_all d b (omega (arith, long, high)) in
    sym (ap (λ (l : List ℕ). slice_cmp nat_cmp k l) (sym e) ∙ tied_itself nat_list_cmp_total k)

pub piece_short : (d n : ℕ) (key : List ℕ) → length (take (d + n - d) (drop d key)) ≤ n
piece_short d n key = let m : d + n - d ≡ n = omega arith in rw m (omega (arith, length-take n (drop d key)))
