-- What a window shows of a file.
use Rattle.std.proofs.Common.{◌≡◌, ◌∙◌, ℕ, ◌+◌, ◌-◌, ◌≤◌, List, length, take, drop, length-drop, sym, ap, subst, arith}
use Rattle.std.proofs.lemmas.List.{take-take, drop-drop, drop-take, length-take-le}
use Rattle.tc_reach.specs.declared.window.Window.{Window}
use Rattle.tc_reach.specs.Windows.{Covers, Shows}

-- of a space that reads as it did
pub shows_at : (w : Window) (now old : List ℕ) → now ≡ old → Shows w now → Shows w old
shows_at w now old e s = subst (λ (l : List ℕ). Shows w l) e s

-- bytes among those that were read
part_of : (all at d n : ℕ) (f : List ℕ) → d + n ≤ all → take n (drop d (take all (drop at f))) ≡ take n (drop (at + d) f)
part_of all at d n f le =
    let split : all ≡ d + (all - d) = omega (arith, le) in
    ap (λ m. take n (drop d (take m (drop at f)))) split
    ∙ ap (λ (l : List ℕ). take n l) (drop-take d (all - d) (drop at f))
    ∙ take-take n (all - d) (drop d (drop at f)) (omega (arith, le))
    ∙ ap (λ (l : List ℕ). take n l) (drop-drop d at f ∙ ap (λ m. drop m f) (omega arith))

pub seen_in_window : (w : Window) (at count skip : ℕ) (file : List ℕ) → skip ≡ at - w.at → Covers w at count → Shows w file → take (skip + count - skip) (drop skip w.bytes.items) ≡ take count (drop at file)
seen_in_window w at count skip file is c s =
    let m : skip + count - skip ≡ count = omega arith in
    let fits : skip + count ≤ length w.bytes.items = omega (arith, is, c.low, c.high) in
    (λ i. take (m i) (drop skip (s i))) ∙ part_of (length w.bytes.items) w.at skip count file fits ∙ ap (λ n. take count (drop n file)) (omega (arith, is, c.low))

pub rest_of_window : (w : Window) (at skip : ℕ) (file : List ℕ) → at ≡ w.at + skip → skip ≤ length w.bytes.items → Shows w file → take (length w.bytes.items - skip) (drop skip w.bytes.items) ≡ take (length (take (length w.bytes.items - skip) (drop skip w.bytes.items))) (drop at file)
rest_of_window w at skip file is le s =
    let n : ℕ = length w.bytes.items - skip in
    let long : length (take n (drop skip w.bytes.items)) ≡ n = length-take-le n (drop skip w.bytes.items) (omega (arith, length-drop skip w.bytes.items)) in
    ap (λ (l : List ℕ). take n (drop skip l)) s ∙ part_of (length w.bytes.items) w.at skip n file (omega (arith, le)) ∙ (λ i. take (sym long i) (drop (sym is i) file))
