-- With no update log the wire alone fails behind a commit.
use Rattle.std.proofs.Common.{◌≡◌, sym, subst, Ok, Err}
use Rattle.std.specs.Prelude.{Option, Some, None, Result}
use Rattle.std.specs.Result.{IsErrAnd}
use Rattle.ty_rounds.specs.Turns.{WireAlone}
use Rattle.ty_rounds.specs.declared.logging.Logged.{Logged}
use Rattle.ty_rounds.specs.declared.outcome.TurnErr.{TurnErr}
use Rattle.ty_rounds.specs.declared.outcome.TurnErr.TheVariants.{Wire}

pub alone_done : (l : Option Logged) → WireAlone l (Ok tt)
alone_done None = tt
alone_done (Some x) = tt

-- the wire failed
pub alone_wire : (l : Option Logged) (r : Result (Unit {0}) TurnErr) → IsErrAnd r (λ e. e ≡ Wire) → WireAlone l r
alone_wire None (Ok u) h = tt
alone_wire None (Err e) h = h
alone_wire (Some x) r h = tt

-- one is kept
pub alone_kept : (l : Option Logged) (x : Logged) (r : Result (Unit {0}) TurnErr) → l ≡ Some x → WireAlone l r
alone_kept l x r is = subst (λ (z : Option Logged). WireAlone z r) (sym is) tt
