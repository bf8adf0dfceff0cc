use Rattle.std.proofs.Common.{◌≡◌, ◌≤◌, ◌∙◌, ℕ, List, max, length, inl, inr, refl, sym, ap, subst, arith}
use Rattle.ty_base.proofs.Refusals.{err_is}
use Rattle.ud_state.specs.Recovery.{not_yet}
use Rattle.ud_state.specs.Since.{here}
use Rattle.tc_undo.specs.Opening.{OpensKept}
use Rattle.tc_held.specs.Lengths.{over_bare}
use Rattle.tk_top.proofs.volumes.HeldSpaceOnVolume.open_over.Goals as goal

-- ---- there was no memory, and the volume is handed back as it is

pub returns-in-Err-clause-none : goal.returns-in-Err-clause-none
returns-in-Err-clause-none g c = λ is. refl

pub returns-in-Err-clause-refused : goal.returns-in-Err-clause-refused
returns-in-Err-clause-refused g c = λ t. record {
  broken = tt;
  spares = record { spares = λ rule broken. inr (inl refl) };
  stops = λ settled. record { moments = here; from = not_yet (inl refl) };
}

pub returns-in-Err-clause-cause : goal.returns-in-Err-clause-cause
returns-in-Err-clause-cause g c = record { bound = c.requires.bound; later = omega arith; cause = λ is. absurd cc }

-- ---- the space below was refused

pub returns-in_err-below-clause-none : goal.returns-in_err-below-clause-none
returns-in_err-below-clause-none g c = rw (err_is c.from_residual.result _ c.from_residual.ensures.1) c.in_err-below.ensures.none

pub returns-in_err-below-clause-refused : goal.returns-in_err-below-clause-refused
returns-in_err-below-clause-refused g c = rw (err_is c.from_residual.result _ c.from_residual.ensures.1) c.in_err-below.ensures.refused

pub returns-in_err-below-clause-names : goal.returns-in_err-below-clause-names
returns-in_err-below-clause-names g c = rw (err_is c.from_residual.result _ c.from_residual.ensures.1) c.in_err-below.ensures.names

pub returns-in_err-below-clause-cause : goal.returns-in_err-below-clause-cause
returns-in_err-below-clause-cause g c = rw (err_is c.from_residual.result _ c.from_residual.ensures.1) c.in_err-below.ensures.cause

-- ---- it was opened, and nothing is held yet

pub returns-clause-untouched : goal.returns-clause-untouched
returns-clause-untouched g c = c.new-space.ensures.begins.0

pub returns-clause-limits : goal.returns-clause-limits
returns-clause-limits g c = λ t f isd.
    let s = g.S.Space in
    let space = c.new-space.result in
    let same = c.new-space.ensures.begins.2 in
    ap (λ x. s.limit x f) same ∙ c.in_ok-below.ensures.limits t f isd
    ∙ ap (λ (l : List ℕ). max c.args.limit (length l)) (sym (over_bare space.held (s.now space.below) c.new-space.ensures.empty f ∙ ap (λ x. s.now x f) same))

pub returns-clause-kept : goal.returns-clause-kept
returns-clause-kept g c = λ t. let v = g.S.V.Volume in
    subst (λ x. OpensKept (v.calls c.args.vol) (v.calls (g.S.OnVolume.under x))) (sym c.new-space.ensures.begins.2) (c.in_ok-below.ensures.kept t)

pub returns-clause-moments : goal.returns-clause-moments
returns-clause-moments g c = λ t.
    let s = g.S.Space in
    let space = c.new-space.result in
    let now : s.moment space.below ≡ length (g.S.V.Volume.calls (g.S.OnVolume.under space.below)) = subst (λ x. s.moment x ≡ length (g.S.V.Volume.calls (g.S.OnVolume.under x))) (sym c.new-space.ensures.begins.2) (c.in_ok-below.ensures.moments t) in
    omega (arith, now, ap length c.new-space.ensures.first)

pub returns-clause-names : goal.returns-clause-names
returns-clause-names g c = ap (λ x. g.S.V.Volume.names (g.S.OnVolume.under x)) c.new-space.ensures.begins.2 ∙ c.in_ok-below.ensures.names

pub returns-clause-cause : goal.returns-clause-cause
returns-clause-cause g c = let v = g.S.V.Volume in
    subst (λ x. v.faults c.args.vol ≤ v.faults (g.S.OnVolume.under x)) (sym c.new-space.ensures.begins.2) c.in_ok-below.ensures.cause
