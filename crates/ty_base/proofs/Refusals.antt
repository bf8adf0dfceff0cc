-- Refusals, and the causes that they name.
use Rattle.std.proofs.Common.{rules, ◌≡◌, ◌∙◌, ℕ, List, [], ◌∷◌, length, refl, sym, ap, subst, arith}
use Rattle.std.specs.Prelude.{Result, Ok, Err, IfErr, OnOk, OnErr, IsErrOf}
use Rattle.std.specs.Result.{IsErrAnd}
use Rattle.std.proofs.lemmas.Result.{err_from_is_err_and}
use Rattle.tc_base.specs.declared.kind.Rule.{Rule}
use Rattle.tc_space.specs.declared.errors.RecErr.{RecErr}
use Rattle.tc_space.specs.declared.errors.RecErr.TheVariants as rec
use Rattle.ty_base.specs.declared.errors.AnyErr.{AnyErr}
use Rattle.ty_base.specs.declared.errors.AnyErr.TheVariants as any
use Rattle.ty_base.specs.Opening.{Breaks, any_of}

pub no_bytes : (xs : List ℕ) → length xs ≡ 0 → xs ≡ []
no_bytes [] e = refl
no_bytes (x ∷ xs) e = absurd (omega (arith, e))

-- what holds whatever the answer is
pub on_ok_of : {T E A : Type 0} (r : Result T E) → A → OnOk r A
on_ok_of (Ok x) holds = holds
on_ok_of (Err e) holds = tt

pub on_err_of : {T E A : Type 0} (r : Result T E) → A → OnErr r A
on_err_of (Ok x) holds = tt
on_err_of (Err e) holds = holds

-- what the exit of a `?` answers
pub err_is : {T E : Type 0} (r : Result T E) (e : E) → IsErrAnd r (λ f. f ≡ e) → r ≡ Err e
err_is r e is = let p = err_from_is_err_and r is in p.1 ∙ ap (λ f. Err f) p.2

-- a refusal, whatever the answer would have been
pub same_refusal : {T U E : Type 0} (e f : E) → IsErrOf {T = T} (Err e) f → IsErrOf {T = U} (Err e) f
same_refusal e f is = search (rules, is)

pub cause_is : {T E : Type 0} (e f : E) → IsErrOf {T = T} (Err e) f → e ≡ f
cause_is e f is = search (rules, is)

full_only : (e : RecErr) → any_of e ≡ any.Full → e ≡ rec.Full
full_only rec.Full is = refl
full_only rec.Fault is = search (rules, is)
full_only rec.Memory is = search (rules, is)

-- a refusal for want of room
pub full_of : {T : Type 0} (e : RecErr) (a : AnyErr) → a ≡ any_of e → IsErrOf {T = T} (Err a) any.Full → e ≡ rec.Full
full_of e a is full = full_only e (sym is ∙ cause_is a any.Full full)

-- the same at the exit of a `?`
pub full_from : {T U : Type 0} (r : Result T AnyErr) (e : RecErr) → IsErrAnd r (λ a. a ≡ any_of e) → IsErrOf r any.Full → IsErrOf {T = U} (Err e) rec.Full
full_from r e is full = let p = err_from_is_err_and r is in ap (λ x. Err x) (full_of e p.0 p.2 (sym p.1 ∙ full))

-- where none is named, whatever is asked of a rule
pub breaks_none : (e : AnyErr) (told : Type 0) (P : ℕ → Rule → Type 0) → Breaks e (λ file rule. told → ⊥) → Breaks e (λ file rule. told → P file rule)
breaks_none (any.Broken file rule) told P none = λ t. absurd (none t)
breaks_none any.Full told P none = tt
breaks_none any.Fault told P none = tt
breaks_none any.Memory told P none = tt

-- whatever rule is named
pub breaks_all : (e : AnyErr) (P : Type 0) → P → Breaks e (λ file rule. P)
breaks_all (any.Broken file rule) P p = p
breaks_all any.Full P p = tt
breaks_all any.Fault P p = tt
breaks_all any.Memory P p = tt

pub if_err_of : {T E : Type 0} {P : E → Type 0} (r : Result T E) → ((e : E) → P e) → IfErr r P
if_err_of (Ok x) p = tt
if_err_of (Err e) p = p e

names_none : (e : RecErr) (P : ℕ → Rule → Type 0) → Breaks (any_of e) P
names_none rec.Full P = tt
names_none rec.Fault P = tt
names_none rec.Memory P = tt

-- a refusal of records names no rule, at the exit of a `?`
pub none_broken : {T : Type 0} (r : Result T AnyErr) (e : RecErr) (P : ℕ → Rule → Type 0) → IsErrAnd r (λ a. a ≡ any_of e) → IfErr r (λ a. Breaks a P)
none_broken {T} r e P is =
    let p = err_from_is_err_and r is in
    subst (λ (q : Result T AnyErr). IfErr q (λ a. Breaks a P)) (sym p.1) (subst (λ (a : AnyErr). Breaks a P) (sym p.2) (names_none e P))
