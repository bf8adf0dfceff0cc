-- A list of pairs fails with the first that fails.
use Rattle.std.proofs.Common.{◌≡◌, ◌<◌, ◌+◌, ℕ, List, [], ◌∷◌, length, get_or, drop, drop-cons, add-one, refl, sym, ap, ◌∙◌}
use Rattle.std.specs.Prelude.{Option, Some, None}
use Rattle.tc_base.specs.declared.seq.Pair.{Pair}
use Rattle.tc_model.specs.Contents.{Contents}
use Rattle.tc_model.specs.Meaning.{each}

none_left : (f : Contents → Pair → Option Contents) (ps : List Pair) → each f None ps ≡ None
none_left f [] = refl
none_left f (p ∷ ps) = none_left f ps

pub stops : (f : Contents → Pair → Option Contents) (ps : List Pair) (i : ℕ) (p d : Pair) (c : Contents) → i < length ps → p ≡ get_or ps i d → f c p ≡ None → None ≡ each f (Some c) (drop i ps)
stops f ps i p d c lt is fails =
    let e : drop i ps ≡ p ∷ drop (i + 1) ps = drop-cons ps i d lt ∙ (λ j. sym is j ∷ drop (sym (add-one i) j) ps) in
    sym (ap (each f (Some c)) e ∙ ap (λ o. each f o (drop (i + 1) ps)) fails ∙ none_left f (drop (i + 1) ps))

pub goes : (f : Contents → Pair → Option Contents) (ps : List Pair) (i : ℕ) (p d : Pair) (c next : Contents) → i < length ps → p ≡ get_or ps i d → f c p ≡ Some next → each f (Some next) (drop (i + 1) ps) ≡ each f (Some c) (drop i ps)
goes f ps i p d c next lt is so =
    let e : drop i ps ≡ p ∷ drop (i + 1) ps = drop-cons ps i d lt ∙ (λ j. sym is j ∷ drop (sym (add-one i) j) ps) in
    sym (ap (each f (Some c)) e ∙ ap (λ o. each f o (drop (i + 1) ps)) so)
