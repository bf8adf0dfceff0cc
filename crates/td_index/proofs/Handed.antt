-- An error that `?` hands on as it is.
use Rattle.std.specs.Prelude.{◌≡◌, Result, Ok, Err, OnErr, IsErrOf}
use Rattle.std.specs.Result.{IsErrAnd}
use Rattle.std.proofs.Common.{◌∙◌, sym, ap}
use Rattle.std.proofs.lemmas.Result.{err_from_is_err_and}

-- it is named by the call that it came from
pub err_handed : {A B E : Type 0} (r : Result A E) (w e : E) → IsErrAnd r (λ y. y ≡ w) → IsErrOf r e → IsErrOf {T = B} (Err w) e
err_handed r w e is named =
    let p = err_from_is_err_and r is in
    let f : Err p.0 ≡ Err e = sym p.1 ∙ named in
    let s : p.0 ≡ e = cc in
    ap (λ x. Err x) (sym p.2 ∙ s)

-- what is true whatever a call answers
pub on_err_any : {A E P : Type 0} (r : Result A E) → P → OnErr r P
on_err_any (Ok x) p = tt
on_err_any (Err e) p = p
