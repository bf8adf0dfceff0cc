-- Where no update log is kept.
use Rattle.std.proofs.Common.{◌≡◌, ◌∙◌, Bool, false, cond, List, [], ◌∷◌, ◌++◌, length, drop, refl, ap}
use Rattle.tc_io.specs.declared.wire.Entry.{Entry}
use Rattle.tc_io.specs.declared.wire.Entry.TheVariants.{Open, Dial, Event, Send, Close}
use Rattle.ty_ulog.specs.declared.record.Record.{Record}
use Rattle.ty_ulog.specs.Log.{log_bytes}
use Rattle.ty_world.specs.Answers.{NotesNothing}
use Rattle.ty_world.specs.Logs.{Settings}
use Rattle.ty_world.specs.Rounds.{Rounded}
use Rattle.ty_world.specs.World.{World, added, happens, rounded, world_after}

same_settings : (e : Entry) (w : World) → (happens w e).is ≡ w.is
same_settings (Open at) w = refl
same_settings (Dial host port answer) w = refl
same_settings (Event paused busy ev bytes) w = refl
same_settings (Send c bytes answer) w = refl
same_settings (Close c) w = refl

one_unnoted : (e : Entry) (w : World) → w.is.logs ≡ false → NotesNothing w (happens w e)
one_unnoted (Open at) w none = record { file = refl; records_are = refl; ticks_are = refl }
one_unnoted (Dial host port answer) w none = record { file = refl; records_are = refl; ticks_are = refl }
one_unnoted (Event paused busy ev bytes) w none =
    let d : Rounded = rounded w ev bytes in
    let more : List Record = added w d in
    record {
      file = ap (λ (b : Bool). cond b (w.log ++ log_bytes more) w.log) none;
      records_are = ap (λ (b : Bool). cond b (w.records ++ more) w.records) none;
      ticks_are = ap (λ (b : Bool). cond b (drop (length d.round.made.updates) w.ticks) w.ticks) none;
    }
one_unnoted (Send c bytes answer) w none = record { file = refl; records_are = refl; ticks_are = refl }
one_unnoted (Close c) w none = record { file = refl; records_are = refl; ticks_are = refl }

pub unnoted : (es : List Entry) (w : World) → w.is.logs ≡ false → NotesNothing w (world_after es w)
unnoted [] w none = record { file = refl; records_are = refl; ticks_are = refl }
unnoted (e ∷ es) w none =
    let one = one_unnoted e w none in
    let rest = unnoted es (happens w e) (ap (λ (is : Settings). is.logs) (same_settings e w) ∙ none) in
    record { file = rest.file ∙ one.file; records_are = rest.records_are ∙ one.records_are; ticks_are = rest.ticks_are ∙ one.ticks_are }
