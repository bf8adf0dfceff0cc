use Rattle.std.proofs.Common.{rules, List, ℕ, ◌≡◌, false, subst, sym}
use Rattle.tc_base.specs.declared.request.Request.{Request}
use Rattle.ty_base.specs.Holding.{is_idle, leaves_less}
use Rattle.ty_wire.specs.Prefixes.{IsPrefix}
use Rattle.ty_wire.specs.Spelling.{Fits, spelling}
use Rattle.ty_rounds.proofs.Looking.{is_asked, redo_full, redo_idle, redone_so}
use Rattle.ty_rounds.proofs.linking.redo.Goals as goal

pub read_request-requires : goal.read_request-requires
read_request-requires g c = subst (λ (bytes : List ℕ). (r : Request) × Fits r × IsPrefix (spelling r) bytes) (sym (search rules)) (is_asked c.args.«record».now c.requires.update)

pub returns-clause-redoes : goal.returns-clause-redoes
returns-clause-redoes g c = redone_so g.B.S.Space g.B.Storage.holds c.args.«record».now c.in_ok-request.request c.in_ok-applied.applied _ _ _ _ _ _ _ _ c.requires.update c.in_ok-request.ensures.0 (subst (IsPrefix (spelling c.in_ok-request.request)) (search rules) c.in_ok-request.ensures.1) c.in_ok-applied.ensures.applied

pub returns-clause-leaves : goal.returns-clause-leaves
returns-clause-leaves g c = leaves_less g.B.S.Space g.B.Storage.own g.B.Storage.layout (is_idle c.in_ok-request.request c.in_ok-applied.applied) (c.in_ok-applied.applied.updated ≡ false) _ _ (λ none. redo_idle g.B.S.Space g.B.Storage.holds c.args.«record».now c.in_ok-request.request c.in_ok-applied.applied c.requires.update c.in_ok-request.ensures.0 (subst (IsPrefix (spelling c.in_ok-request.request)) (search rules) c.in_ok-request.ensures.1) none) c.in_ok-applied.ensures.leaves

pub returns-in_err-applied-clause-full : goal.returns-in_err-applied-clause-full
returns-in_err-applied-clause-full g c = λ is. redo_full g.B.S.Space g.B.Storage.holds c.args.«record».now c.in_ok-request.request _ c.args.base.now c.args.space.now c.args.walk.now c.requires.update c.in_ok-request.ensures.0 (subst (IsPrefix (spelling c.in_ok-request.request)) (search rules) c.in_ok-request.ensures.1) (c.in_err-applied.ensures.full (search (rules, is)))
