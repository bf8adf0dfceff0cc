-- Which connections a run opens.
use Rattle.std.proofs.Common.{◌≡◌, ⊎_elim, Bool, true, false, List, [], ◌∷◌, ◌++◌, ℕ, sym, subst}
use Rattle.std.specs.Prelude.{Result, Ok, Err}
use Rattle.tc_io.specs.declared.wire.Ev.{Ev}
use Rattle.tc_io.specs.declared.wire.Entry.{Entry}
use Rattle.tc_io.specs.declared.wire.Entry.TheVariants.{Open, Dial, Event, Send, Close}
use Rattle.ty_world.specs.World.{AllOf, AreFinishing, ClosesOne, SendsTo}
use Rattle.ty_world.specs.Logs.{Settings}
use Rattle.ty_rounds.specs.Turns.{Call, EndsTurn, IsAnyWhole, IsLone, IsTurn, IsWhole, ToMaster, entries_of, or_later}
use Rattle.ty_rounds.specs.declared.outcome.Outcome.{Outcome}
use Rattle.ty_rounds.specs.declared.outcome.Outcome.TheVariants.{Went, Gap, Shut}
use Rattle.ty_rounds.specs.declared.outcome.TurnErr.{TurnErr}
use Rattle.ty_rounds.specs.declared.outcome.TurnErr.TheVariants as turn
use Rattle.tk_top.specs.Opened.{AllServed, IsServed}

pub served_then : (is : Settings) (es fs : List Entry) → AllServed is es → AllServed is fs → AllServed is (es ++ fs)
served_then is [] fs are more = more
served_then is (e ∷ es) fs are more = (are.0, served_then is es fs are.1 more)

one_send : (is : Settings) (conns : List ℕ) (e : Entry) → SendsTo conns e → IsServed is e
one_send is conns (Open at) h = absurd h
one_send is conns (Dial host port answer) h = absurd h
one_send is conns (Event paused busy ev bytes) h = absurd h
one_send is conns (Send conn bytes answer) h = tt
one_send is conns (Close conn) h = absurd h

one_close : (is : Settings) (conns : List ℕ) (e : Entry) → ClosesOne conns e → IsServed is e
one_close is conns (Open at) h = absurd h
one_close is conns (Dial host port answer) h = absurd h
one_close is conns (Event paused busy ev bytes) h = absurd h
one_close is conns (Send conn bytes answer) h = absurd h
one_close is conns (Close conn) h = tt

all_served : (is : Settings) (P : Entry → Type 0) → ((e : Entry) → P e → IsServed is e) → (es : List Entry) → AllOf P es → AllServed is es
all_served is P one [] are = tt
all_served is P one (e ∷ es) are = (one e are.0, all_served is P one es are.1)

finishing_served : (is : Settings) (conns : List ℕ) (es : List Entry) → AreFinishing conns es → AllServed is es
finishing_served is conns es f = subst (AllServed is) (sym f.parts) (served_then is f.sends f.closings (all_served is (SendsTo conns) (one_send is conns) f.sends f.are_sends) (all_served is (ClosesOne conns) (one_close is conns) f.closings f.are_closings))

whole_served : (is : Settings) (conns : List ℕ) (ev : Ev) (es : List Entry) → IsWhole conns ev es → AllServed is es
whole_served is conns ev es w = subst (AllServed is) (sym w.is) (tt, finishing_served is _ w.behind w.finishing)

any_served : (is : Settings) (conns : List ℕ) (es : List Entry) → IsAnyWhole conns es → AllServed is es
any_served is conns es w = whole_served is conns w.0 es w.1

lone_served : (is : Settings) (es : List Entry) → IsLone es → AllServed is es
lone_served is es l = subst (AllServed is) (sym l.is) (tt, tt)

none_served : (is : Settings) (es : List Entry) → es ≡ [] → AllServed is es
none_served is es e = subst (AllServed is) (sym e) tt

later_served : (is : Settings) (logs : Bool) (conns : List ℕ) (es : List Entry) → or_later logs (IsLone es) (IsAnyWhole conns es) → AllServed is es
later_served is false conns es l = lone_served is es l
later_served is true conns es l = ⊎_elim (lone_served is es) (any_served is conns es) l

ends_served : (is : Settings) (logs : Bool) (conns : List ℕ) (res : Result Outcome TurnErr) (es : List Entry) → EndsTurn logs conns res es → AllServed is es
ends_served is logs conns (Ok Went) es e = whole_served is conns e.0 es e.1
ends_served is logs conns (Ok (Gap held follows)) es e = whole_served is conns e.0 es e.1
ends_served is logs conns (Ok Shut) es e = whole_served is conns _ es e
ends_served is logs conns (Err turn.Wire) es e = ⊎_elim (none_served is es) (any_served is conns es) e
ends_served is logs conns (Err turn.Memory) es e = ⊎_elim (none_served is es) (later_served is logs conns es) e
ends_served is logs conns (Err turn.Volume) es e = later_served is logs conns es e
ends_served is logs conns (Err turn.Full) es e = lone_served is es e

dials_served : (is : Settings) (calls : List Call) → ToMaster is.master calls → AllServed is (entries_of calls)
dials_served is [] to = tt
dials_served is (d ∷ ds) to = (to.0, dials_served is ds to.1)

pub turn_served : (is : Settings) (conns : List ℕ) (res : Result Outcome TurnErr) (es : List Entry) → IsTurn is conns res es → AllServed is es
turn_served is conns res es t = subst (AllServed is) (sym t.parts) (served_then is (entries_of t.calls) t.behind (dials_served is t.calls t.to_master) (ends_served is is.logs _ res t.behind t.ends))
