use Rattle.std.proofs.Common.{◌≡◌, ◌+◌, ◌-◌, ◌^◌, ◌<◌, length, take, ℕ, List, Result, Err, IsErrOf, ap, sym, ◌∙◌, arith}
use Rattle.std.specs.Result.{IsErrAnd}
use Rattle.std.proofs.lemmas.Result.{err_from_is_err_and}
use Rattle.tc_undo.specs.Room.{needs}
use Rattle.tc_held.specs.Lengths.{over_bare}
use Rattle.tc_held.proofs.Holding.{held_bare}
use Rattle.tc_held.proofs.held_space.HeldSpace.cut_below.Goals as goal

pub cut-requires-clause-reaches : goal.cut-requires-clause-reaches
cut-requires-clause-reaches g c = record {
  file = c.requires.reaches.file;
  inside = λ t. omega (arith, c.requires.reaches.inside t, ap (λ (l : List ℕ). length l) (c.in_ok-flush.ensures.now t c.args.file));
}

pub returns-clause-held : goal.returns-clause-held
returns-clause-held g c =
    let mid = c.flush.new.self in
    held_bare g.S.Space g.S.Batched.logged c.cut.new.self mid.held c.in_ok-flush.ensures.held.tidy c.in_ok-flush.ensures.empty (g.met.S.Batched.low c.cut.new.self c.in_ok-cut.ensures.outcome.ok)

pub returns-clause-cut : goal.returns-clause-cut
returns-clause-cut g c = λ t.
    let s = g.S.Space in
    let mid = c.flush.new.self in
    let none = c.in_ok-flush.ensures.empty in
    let k = c.in_ok-cut.ensures.cut t in
    record {
      here = over_bare mid.held (s.now c.cut.new.self) none c.args.file ∙ k.here ∙ ap (λ (l : List ℕ). take c.args.len l) (c.in_ok-flush.ensures.now t c.args.file);
      others = λ h other. over_bare mid.held (s.now c.cut.new.self) none h ∙ k.others h other ∙ c.in_ok-flush.ensures.now t h;
    }

-- an error that `?` hands on is the one that it was given
err_handed : {A B E : Type 0} (r : Result A E) (w e : E) → IsErrAnd r (λ y. y ≡ w) → IsErrOf r e → IsErrOf {T = B} (Err w) e
err_handed r w e is named =
    let p = err_from_is_err_and r is in
    let f : Err p.0 ≡ Err e = sym p.1 ∙ named in
    let s : p.0 ≡ e = cc in
    ap (λ x. Err x) (sym p.2 ∙ s)

pub returns-in_err-cut-clause-full : goal.returns-in_err-cut-clause-full
returns-in_err-cut-clause-full g c = λ full.
    let s = g.S.Space in
    let mid = c.flush.new.self in
    let none = c.in_ok-flush.ensures.empty in
    let r = c.in_err-cut.ensures.full (err_handed c.from_residual-in_err-cut.result c.in_err-cut.field-0.0 _ c.from_residual-in_err-cut.ensures.1 full) in
    record {
      by = λ t.
          let size = length (s.now mid.below c.args.file) - c.args.len in
          let same = ap (λ (l : List ℕ). length l) (c.in_ok-flush.ensures.now t c.args.file) in
          let high : 2 ^ 62 < g.S.Batched.logged mid.below + needs size = g.met.S.Batched.no_room mid.below c.args.file c.args.len size (r.by.0 t) in
          omega (arith, high, same, c.in_ok-flush.ensures.logged);
      log = r.by.1;
      none = none;
      same = λ t f. over_bare mid.held (s.now c.cut.new.self) none f ∙ r.same t f ∙ c.in_ok-flush.ensures.now t f;
    }
