-- Runs over a wire before its first connection.
use Rattle.std.proofs.Common.{◌≡◌, ◌≤◌, true, false, List, [], sym, subst}
use Rattle.tc_io.specs.declared.wire.Dialled.{Dialled}
use Rattle.tc_io.specs.declared.wire.Entry.{Entry}
use Rattle.tc_io.specs.Script.{AllAgree, Script, plays_all}
use Rattle.ty_world.specs.Logs.{is_replica}
use Rattle.ty_world.specs.Measure.{most_alone, most_linked}
use Rattle.ty_world.specs.Playing.{AsksOver, unplayed_with}
use Rattle.ty_world.specs.World.{Opening, ran}
use Rattle.ty_world.proofs.Complete.{turns_bound}
use Rattle.ty_world.proofs.Linked.{turns_bound_by, all_played_by}
use Rattle.ty_world.proofs.Undialled.{turns_bound_alone}

is_new : (s : Script) (o : Opening) (es : List Entry) → AsksOver s o es → s ≡ unplayed_with s.acts s.dials s.lines.given
is_new s o es p = λ i. record { acts = s.acts; dials = s.dials; lines = record { conns = p.conns i; ended = p.ended i; given = s.lines.given } }

agrees_new : (s : Script) (o : Opening) (es : List Entry) → AsksOver s o es → AllAgree (unplayed_with s.acts s.dials s.lines.given) es
agrees_new s o es p = subst (λ (t : Script). AllAgree t es) (is_new s o es p) p.agrees

pub bound_of : (es : List Entry) (o : Opening) (s : Script) → s.dials ≡ [] → AsksOver s o es → (ran o es).shut ≡ false → (ran o es).events ≤ most_alone s
bound_of es o s none p = turns_bound es o.is o.ticks o.opens o.mark s.acts s.lines.given p.asked (subst (λ (ds : List Dialled). AllAgree (unplayed_with s.acts ds s.lines.given) es) none (agrees_new s o es p))

pub alone_of : (es : List Entry) (o : Opening) (s : Script) → is_replica o.is ≡ false → AsksOver s o es → (ran o es).shut ≡ false → (ran o es).events ≤ most_alone s
alone_of es o s none p = turns_bound_alone es o.is o.ticks o.opens o.mark s.acts s.dials s.lines.given none p.asked (agrees_new s o es p)

pub linked_of : (es : List Entry) (o : Opening) (s : Script) → AsksOver s o es → (ran o es).shut ≡ false → (ran o es).events ≤ most_linked s (ran o es).looked
linked_of es o s p = turns_bound_by es o.is o.ticks o.opens o.mark s.acts s.dials s.lines.given p.asked (agrees_new s o es p)

pub played_of : (es : List Entry) (o : Opening) (s : Script) → AsksOver s o es → (ran o es).shut ≡ true → (plays_all es s).acts ≡ []
played_of es o s p off =
    subst (λ (t : Script). (plays_all es t).acts ≡ []) (sym (is_new s o es p)) (all_played_by es o.is o.ticks o.opens o.mark s.acts s.dials s.lines.given p.asked (agrees_new s o es p) off)
