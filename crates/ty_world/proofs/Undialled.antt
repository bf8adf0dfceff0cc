-- Where no master is given the answers of dials make no difference.
use Rattle.std.proofs.Common.{◌≡◌, ◌+◌, ◌≤◌, ℕ, Bool, true, false, List, [], ◌∷◌, length}
use Rattle.std.specs.Prelude.{◌&&◌, not}
use Rattle.std.specs.List.{list_any}
use Rattle.tc_io.specs.declared.act.Act.{Act}
use Rattle.tc_io.specs.declared.wire.At.{At}
use Rattle.tc_io.specs.declared.wire.Dialled.{Dialled}
use Rattle.tc_io.specs.declared.wire.Entry.{Entry}
use Rattle.tc_io.specs.declared.wire.Entry.TheVariants.{Open, Dial, Event, Send, Close}
use Rattle.tc_io.specs.Script.{Script, AllAgree}
use Rattle.ty_world.specs.Clients.{is_link}
use Rattle.ty_world.specs.Logs.{Settings, is_replica}
use Rattle.ty_world.specs.Measure.{requests_in}
use Rattle.ty_world.specs.Playing.{unplayed_with}
use Rattle.ty_world.specs.World.{World, Mark, started, happens, world_after, AllAsked}
use Rattle.ty_world.proofs.Complete.{turns_bound}

abbrev undialled : Script → Script
undialled s = record s { dials = [] }

never_due : (a b : Bool) → a ≡ false → (a && b) ≡ true → ⊥
never_due false b e f = absurd cc
never_due true b e f = absurd cc

agrees : (es : List Entry) (w : World) (s : Script) → is_replica w.is ≡ false → AllAsked w es → AllAgree s es → AllAgree (undialled s) es
agrees [] w s none asked a = tt
agrees (Open at ∷ es) w s none asked a = (tt, agrees es (happens w (Open at)) s none asked.1 a.1)
agrees (Dial host port answer ∷ es) w s none asked a = absurd (never_due (is_replica w.is) (w.due && not (list_any (λ k. is_link k.role) w.there)) none asked.0.2)
agrees (Event paused busy ev bytes ∷ es) w s none asked a = (a.0, agrees es (happens w (Event paused busy ev bytes)) _ none asked.1 a.1)
agrees (Send c bytes answer ∷ es) w s none asked a = (a.0, agrees es (happens w (Send c bytes answer)) s none asked.1 a.1)
agrees (Close c ∷ es) w s none asked a = (tt, agrees es (happens w (Close c)) _ none asked.1 a.1)

pub turns_bound_alone : (es : List Entry) (is : Settings) (ticks : List ℕ) (opens : List At) (m : Mark) (acts : List Act) (dials : List Dialled) (given : ℕ) → is_replica is ≡ false → AllAsked (started is ticks opens m) es → AllAgree (unplayed_with acts dials given) es
    → (world_after es (started is ticks opens m)).shut ≡ false → (world_after es (started is ticks opens m)).events ≤ length acts + requests_in given acts
turns_bound_alone es is ticks opens m acts dials given none asked agree = turns_bound es is ticks opens m acts given asked (agrees es (started is ticks opens m) (unplayed_with acts dials given) none asked agree)
