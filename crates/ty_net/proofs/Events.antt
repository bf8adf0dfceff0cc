-- What came was allowed to come.
use Rattle.std.proofs.Common.{◌≡◌, ℕ, Bool, List, Option, Some, subst}
use Rattle.tc_io.specs.declared.wire.Ev.{Ev}
use Rattle.tc_io.specs.Lines.{MayCome}
use Rattle.ty_net.specs.Finds.{Took}

pub may_of : (conns after past ended : List ℕ) (given now : ℕ) (paused : List ℕ) (o : Option Ev) (ev : Ev) (busy : Bool) → o ≡ Some ev → Took conns after past ended given now paused o → MayCome conns past given paused busy ev
may_of conns after past ended given now paused o ev busy is t = (subst (λ (z : Option Ev). Took conns after past ended given now paused z) is t).0 busy

-- where nothing was taken before
pub may_then : (conns mid after past between ended : List ℕ) (given then now : ℕ) (paused : List ℕ) (o : Option Ev) (ev : Ev) (busy : Bool) → mid ≡ conns → between ≡ past → then ≡ given → o ≡ Some ev → Took mid after between ended then now paused o → MayCome conns past given paused busy ev
may_then conns mid after past between ended given then now paused o ev busy e f g is t =
    subst (λ (xs : List ℕ). MayCome xs past given paused busy ev) e
    (subst (λ (ys : List ℕ). MayCome mid ys given paused busy ev) f
    (subst (λ (n : ℕ). MayCome mid between n paused busy ev) g (may_of mid after between ended then now paused o ev busy is t)))
