-- The events of a run, turn by turn.
use Rattle.std.proofs.Common.{◌≡◌, ◌≢◌, ◌<◌, ◌≤◌, ◌+◌, ⊎_elim, ℕ, Bool, true, false, List, [], ◌∷◌, ◌++◌, length, refl, sym, ap, subst, ◌∙◌, arith, length-append}
use Rattle.std.specs.Prelude.{Result, Ok, Err}
use Rattle.tc_io.specs.declared.wire.Ev.{Ev}
use Rattle.tc_io.specs.declared.wire.Ev.TheVariants as event
use Rattle.tc_io.specs.declared.wire.Entry.{Entry}
use Rattle.tc_io.specs.declared.wire.Entry.TheVariants.{Open, Dial, Event, Send, Close}
use Rattle.ty_world.specs.World.{AllOf, AreFinishing, ClosesOne, SendsTo}
use Rattle.ty_world.specs.Logs.{Settings}
use Rattle.ty_rounds.specs.Turns as turns
use Rattle.ty_rounds.specs.Turns.{Call, IsAnyWhole, IsLone, IsTurn, IsWhole, entries_of, or_later}
use Rattle.ty_rounds.specs.declared.outcome.Outcome.{Outcome}
use Rattle.ty_rounds.specs.declared.outcome.Outcome.TheVariants.{Went, Gap, Shut}
use Rattle.ty_rounds.specs.declared.outcome.TurnErr.{TurnErr}
use Rattle.ty_rounds.specs.declared.outcome.TurnErr.TheVariants as turn
use Rattle.tk_top.specs.declared.ends.End.{End}
use Rattle.tk_top.specs.declared.ends.End.TheVariants.{Done, TurnsSpent}
use Rattle.tk_top.specs.Events.{HadEvents, NoneShut, WentOn, events_of}
use Rattle.tk_top.specs.Runs.{EndsTurn}

events_then : (es fs : List Entry) → events_of (es ++ fs) ≡ events_of es ++ events_of fs
events_then [] fs = refl
events_then (Open at ∷ es) fs = events_then es fs
events_then (Dial host port answer ∷ es) fs = events_then es fs
events_then (Event paused busy ev bytes ∷ es) fs = ap (λ (evs : List Ev). ev ∷ evs) (events_then es fs)
events_then (Send conn bytes answer ∷ es) fs = events_then es fs
events_then (Close conn ∷ es) fs = events_then es fs

-- ---- those of a turn

no_sent : (conns : List ℕ) (es : List Entry) → AllOf (SendsTo conns) es → events_of es ≡ []
no_sent conns [] are = refl
no_sent conns (Open at ∷ es) are = absurd are.0
no_sent conns (Dial host port answer ∷ es) are = absurd are.0
no_sent conns (Event paused busy ev bytes ∷ es) are = absurd are.0
no_sent conns (Send conn bytes answer ∷ es) are = no_sent conns es are.1
no_sent conns (Close conn ∷ es) are = absurd are.0

no_closed : (conns : List ℕ) (es : List Entry) → AllOf (ClosesOne conns) es → events_of es ≡ []
no_closed conns [] are = refl
no_closed conns (Open at ∷ es) are = absurd are.0
no_closed conns (Dial host port answer ∷ es) are = absurd are.0
no_closed conns (Event paused busy ev bytes ∷ es) are = absurd are.0
no_closed conns (Send conn bytes answer ∷ es) are = absurd are.0
no_closed conns (Close conn ∷ es) are = no_closed conns es are.1

no_finishing : (conns : List ℕ) (es : List Entry) → AreFinishing conns es → events_of es ≡ []
no_finishing conns es f =
    ap (λ (l : List Entry). events_of l) f.parts ∙ events_then f.sends f.closings
    ∙ ap (λ (evs : List Ev). evs ++ events_of f.closings) (no_sent conns f.sends f.are_sends) ∙ no_closed conns f.closings f.are_closings

whole_one : (conns : List ℕ) (ev : Ev) (es : List Entry) → IsWhole conns ev es → events_of es ≡ ev ∷ []
whole_one conns ev es w = ap (λ (l : List Entry). events_of l) w.is ∙ ap (λ (evs : List Ev). ev ∷ evs) (no_finishing _ w.behind w.finishing)

one_event : (ev : Ev) (es : List Entry) → events_of es ≡ ev ∷ [] → length (events_of es) ≤ 1
one_event ev es is = let n = ap length is in omega (arith, n)

no_event : (es : List Entry) → es ≡ [] → length (events_of es) ≤ 1
no_event es is = let n = ap (λ (l : List Entry). length (events_of l)) is in omega (arith, n)

lone_event : (es : List Entry) → IsLone es → length (events_of es) ≤ 1
lone_event es l = one_event l.ev es (ap (λ (l : List Entry). events_of l) l.is)

whole_event : (conns : List ℕ) (es : List Entry) → IsAnyWhole conns es → length (events_of es) ≤ 1
whole_event conns es w = one_event w.0 es (whole_one conns w.0 es w.1)

later_event : (logs : Bool) (conns : List ℕ) (es : List Entry) → or_later logs (IsLone es) (IsAnyWhole conns es) → length (events_of es) ≤ 1
later_event false conns es l = lone_event es l
later_event true conns es l = ⊎_elim (lone_event es) (whole_event conns es) l

ends_events : (logs : Bool) (conns : List ℕ) (res : Result Outcome TurnErr) (es : List Entry) → turns.EndsTurn logs conns res es → length (events_of es) ≤ 1
ends_events logs conns (Ok Went) es is = one_event is.0 es (whole_one conns is.0 es is.1)
ends_events logs conns (Ok (Gap held follows)) es is = one_event is.0 es (whole_one conns is.0 es is.1)
ends_events logs conns (Ok Shut) es is = one_event event.Shut es (whole_one conns event.Shut es is)
ends_events logs conns (Err turn.Wire) es is = ⊎_elim (no_event es) (whole_event conns es) is
ends_events logs conns (Err turn.Memory) es is = ⊎_elim (no_event es) (later_event logs conns es) is
ends_events logs conns (Err turn.Volume) es is = later_event logs conns es is
ends_events logs conns (Err turn.Full) es is = lone_event es is

no_dialled : (calls : List Call) → events_of (entries_of calls) ≡ []
no_dialled [] = refl
no_dialled (d ∷ ds) = no_dialled ds

-- those behind its dials
behind_events : (is : Settings) (conns : List ℕ) (res : Result Outcome TurnErr) (es : List Entry) (t : IsTurn is conns res es) → events_of es ≡ events_of t.behind
behind_events is conns res es t = ap (λ (l : List Entry). events_of l) t.parts ∙ events_then (entries_of t.calls) t.behind ∙ ap (λ (evs : List Ev). evs ++ events_of t.behind) (no_dialled t.calls)

pub turn_events : (is : Settings) (conns : List ℕ) (res : Result Outcome TurnErr) (es : List Entry) → IsTurn is conns res es → length (events_of es) ≤ 1
turn_events is conns res es t = subst (λ (evs : List Ev). length evs ≤ 1) (sym (behind_events is conns res es t)) (ends_events is.logs _ res t.behind t.ends)

-- ---- those of a run

pub went_none : WentOn 0 []
went_none = record { count = refl; going = tt }

none_shut : (evs : List Ev) (ev : Ev) → NoneShut evs → (ev ≡ event.Shut → ⊥) → NoneShut (evs ++ ev ∷ [])
none_shut [] ev going other = (other, tt)
none_shut (e ∷ evs) ev going other = (going.0, none_shut evs ev going.1 other)

-- the event of a turn that went on
record Went_on (es : List Entry) : Type 0 where
  ev : Ev
  is : events_of es ≡ ev ∷ []
  other : ev ≡ event.Shut → ⊥

turn_went : (is : Settings) (conns : List ℕ) (o : Outcome) (es : List Entry) → (o ≡ Shut → ⊥) → IsTurn is conns (Ok o) es → Went_on es
turn_went is conns Went es other t = record { ev = t.ends.0; is = behind_events is conns (Ok Went) es t ∙ whole_one _ t.ends.0 t.behind t.ends.1; other = t.ends.2 }
turn_went is conns (Gap held follows) es other t = record { ev = t.ends.0; is = behind_events is conns (Ok (Gap held follows)) es t ∙ whole_one _ t.ends.0 t.behind t.ends.1; other = t.ends.2 }
turn_went is conns Shut es other t = absurd (other refl)

pub went_more : (is : Settings) (conns : List ℕ) (o : Outcome) (n : ℕ) (es fs : List Entry) → (o ≡ Shut → ⊥) → WentOn n (events_of es) → IsTurn is conns (Ok o) fs → WentOn (n + 1) (events_of (es ++ fs))
went_more is conns o n es fs other went t =
    let one = turn_went is conns o fs other t in
    let more : events_of (es ++ fs) ≡ events_of es ++ one.ev ∷ [] = events_then es fs ∙ ap (λ (evs : List Ev). events_of es ++ evs) one.is in
    subst (λ (evs : List Ev). WentOn (n + 1) evs) (sym more) (record {
      count = (let l = length-append (events_of es) (one.ev ∷ []) in let m = went.count in omega (arith, l, m));
      going = none_shut (events_of es) one.ev went.going one.other;
    })

-- the last turn ended so
pub had_last : (is : Settings) (end : End) (turns n : ℕ) (conns : List ℕ) (es fs : List Entry) → n < turns → WentOn n (events_of es) → length (events_of fs) ≤ 1 → EndsTurn is end conns fs → end ≢ TurnsSpent → HadEvents end turns (events_of (es ++ fs))
had_last is end turns n conns es fs few went last ends other = record {
  within = (let e = ap length (events_then es fs) in let l = length-append (events_of es) (events_of fs) in let m = went.count in omega (arith, e, l, m, few, last));
  done = λ done. record {
    before = events_of es;
    is = events_then es fs ∙ ap (λ (evs : List Ev). events_of es ++ evs) (shut_event is conns fs (subst (λ (e : End). EndsTurn is e conns fs) done ends));
    going = went.going;
  };
  spent = λ e. absurd (other e);
}
  where
    shut_event : (is : Settings) (conns : List ℕ) (es : List Entry) → IsTurn is conns (Ok Shut) es → events_of es ≡ event.Shut ∷ []
    shut_event is conns es t = behind_events is conns (Ok Shut) es t ∙ whole_one _ event.Shut t.behind t.ends

-- all turns were made
pub had_all : (turns n : ℕ) (evs : List Ev) → n ≡ turns → WentOn n evs → HadEvents TurnsSpent turns evs
had_all turns n evs all went = record {
  within = (let m = went.count in omega (arith, m, all));
  done = λ is. absurd cc;
  spent = λ is. record { count = went.count ∙ all; going = went.going };
}

-- it came to no turn
pub had_none : (end : End) (turns : ℕ) → end ≢ Done → end ≢ TurnsSpent → HadEvents end turns []
had_none end turns other last = record { within = omega arith; done = λ is. absurd (other is); spent = λ is. absurd (last is) }
