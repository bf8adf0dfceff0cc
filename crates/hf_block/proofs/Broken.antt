-- A rule that a call names, named by whoever hands its error on.
use Rattle.std.specs.Prelude.{◌≡◌, Result, Err}
use Rattle.std.specs.Result.{IsErrAnd}
use Rattle.std.proofs.Common.{◌∙◌, sym, ap}
use Rattle.std.proofs.lemmas.Result.{err_from_is_err_and}
use Rattle.tc_base.specs.declared.kind.Rule.{Rule}
use Rattle.hf_block.specs.declared.walking.WalkErr.{WalkErr}
use Rattle.hf_block.specs.declared.walking.WalkErr.TheVariants.{Broken}
use Rattle.hf_block.specs.Walks.{OnBroken}

pub broken_on : {A B : Type 0} (r : Result A WalkErr) (w : WalkErr) (P : Rule → Type 0) → IsErrAnd r (λ y. y ≡ w) → OnBroken {T = B} (Err w) P → OnBroken r P
broken_on r w P is named rule e =
    let p = err_from_is_err_and r is in
    let f : Err p.0 ≡ Err (Broken rule) = sym p.1 ∙ e in
    let s : p.0 ≡ Broken rule = cc in
    named rule (ap (λ (x : WalkErr). Err x) (sym p.2 ∙ s))
