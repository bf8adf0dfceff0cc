-- A line that is put piece by piece.
use Rattle.std.proofs.Common.{◌≡◌, ℕ, List, [], ◌∷◌, ◌++◌, subst}
use Rattle.std.specs.Prelude.{Option, Result, Ok, Err, OnOk, codes, decimal}
use Rattle.tc_base.specs.declared.fault.Fault.{Fault}
use Rattle.tc_base.specs.declared.kind.Rule.{Rule}
use Rattle.tc_io.specs.Told.{Adds}
use Rattle.ty_rounds.proofs.Telling.{Adds-then}
use Rattle.tk_top.specs.Ends.{broken_line}
use Rattle.tk_top.specs.GapLines.{gap_line}

abbrev Taken : Type 0
Taken = Option (List ℕ)

pub broken_told : (file : ℕ) (rule : Rule) (r : Result (Unit {0}) Fault) (a b c d e f h : Taken) (v y : List ℕ) → v ≡ decimal file → y ≡ decimal rule.number → Adds a b (codes "tokyo: broken: file ") → Adds b c v → Adds c d (codes " rule ") → Adds d e (rule.letter ∷ []) → Adds e f y → OnOk r (Adds f h (10 ∷ [])) → OnOk r (Adds a h (broken_line file rule))
broken_told file rule (Ok u) a b c d e f h v y is js p1 p2 p3 p4 p5 p6 =
    let end : Adds e h (decimal rule.number ++ 10 ∷ []) = Adds-then e f h (decimal rule.number) (10 ∷ []) (subst (λ (l : List ℕ). Adds e f l) js p5) p6 in
    let rules : Adds c h (codes " rule " ++ (rule.letter ∷ (decimal rule.number ++ 10 ∷ []))) = Adds-then c d h (codes " rule ") (rule.letter ∷ (decimal rule.number ++ 10 ∷ [])) p3 (Adds-then d e h (rule.letter ∷ []) (decimal rule.number ++ 10 ∷ []) p4 end) in
    Adds-then a b h (codes "tokyo: broken: file ") (decimal file ++ (codes " rule " ++ (rule.letter ∷ (decimal rule.number ++ 10 ∷ [])))) p1 (Adds-then b c h (decimal file) (codes " rule " ++ (rule.letter ∷ (decimal rule.number ++ 10 ∷ []))) (subst (λ (l : List ℕ). Adds b c l) is p2) rules)
broken_told file rule (Err e') a b c d e f h v y is js p1 p2 p3 p4 p5 p6 = tt

pub gap_told : (held follows : ℕ) (r : Result (Unit {0}) Fault) (a b c d e f : Taken) (v y : List ℕ) → v ≡ decimal held → y ≡ decimal follows → Adds a b (codes "tokyo: gap: held ") → Adds b c v → Adds c d (codes ", record follows ") → Adds d e y → OnOk r (Adds e f (10 ∷ [])) → OnOk r (Adds a f (gap_line (held, follows)))
gap_told held follows (Ok u) a b c d e f v y is js p1 p2 p3 p4 p5 =
    let end : Adds d f (decimal follows ++ 10 ∷ []) = Adds-then d e f (decimal follows) (10 ∷ []) (subst (λ (l : List ℕ). Adds d e l) js p4) p5 in
    let behind : Adds c f (codes ", record follows " ++ (decimal follows ++ 10 ∷ [])) = Adds-then c d f (codes ", record follows ") (decimal follows ++ 10 ∷ []) p3 end in
    Adds-then a b f (codes "tokyo: gap: held ") (decimal held ++ (codes ", record follows " ++ (decimal follows ++ 10 ∷ []))) p1 (Adds-then b c f (decimal held) (codes ", record follows " ++ (decimal follows ++ 10 ∷ [])) (subst (λ (l : List ℕ). Adds b c l) is p2) behind)
gap_told held follows (Err e') a b c d e f v y is js p1 p2 p3 p4 p5 = tt
