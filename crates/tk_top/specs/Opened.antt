-- Which connections a run opens, by the calls of its wire, whether anything is told or not.
use Rattle.std.specs.Prelude.{◌≡◌, ◌⊎◌, List, [], ◌∷◌}
use Rattle.tc_io.specs.declared.wire.At.{At}
use Rattle.ty_world.specs.Logs.{Settings}
use Rattle.ty_world.specs.World.{IsMaster}
use Rattle.tc_io.specs.declared.wire.Entry.{Entry}
use Rattle.tc_io.specs.declared.wire.Entry.TheVariants.{Open, Dial, Event, Send, Close}

-- it opens nothing, and dials the master alone
abbrev pub IsServed : Settings → Entry → Type 0
IsServed is (Open at) = ⊥
IsServed is (Dial host port answer) = IsMaster is.master host port
IsServed is (Event paused busy ev bytes) = Unit {0}
IsServed is (Send conn bytes answer) = Unit {0}
IsServed is (Close conn) = Unit {0}

abbrev pub AllServed : Settings → List Entry → Type 0
AllServed is [] = Unit {0}
AllServed is (e ∷ es) = IsServed is e × AllServed is es

-- this address is opened first and once, or there is no call at all; none but the master is dialled
abbrev pub OpensOnly : Settings → At → List Entry → Type 0
OpensOnly is at es = (es ≡ []) ⊎ ((rest : List Entry) × (es ≡ Open at ∷ rest) × AllServed is rest)
