-- Files that stand for a mark, with their update log.
use Rattle.std.proofs.Common.{◌≡◌, ℕ, Bool, true, false, List, [], ◌∷◌, refl, sym, ap, subst, ◌∙◌}
use Rattle.std.specs.Prelude.{Option}
use Rattle.tc_base.specs.Files.{Files}
use Rattle.tc_io.specs.declared.wire.Entry.{Entry}
use Rattle.tc_io.specs.declared.wire.Entry.TheVariants.{Open, Dial, Event, Send, Close}
use Rattle.tc_model.specs.Contents.{Contents}
use Rattle.ty_ulog.specs.Log.{IsLog, records_in}
use Rattle.ty_ulog.proofs.Rows.{in_once}
use Rattle.ty_world.specs.Logs.{Settings}
use Rattle.ty_world.specs.World.{World, Mark, happens, mark_of, world_after}
use Rattle.ty_rounds.specs.Holding.{book_of}
use Rattle.ty_rounds.specs.Keeping.{ReopensLog}
use Rattle.ty_rounds.specs.Kept.{Reopens}
use Rattle.tk_top.specs.Starts.{with_log}

-- what the words say stays
pub is_stays : (es : List Entry) (w : World) → (world_after es w).is ≡ w.is
is_stays [] w = refl
is_stays (Open at ∷ es) w = is_stays es (happens w (Open at))
is_stays (Dial host port answer ∷ es) w = is_stays es (happens w (Dial host port answer))
is_stays (Event paused busy ev bytes ∷ es) w = is_stays es (happens w (Event paused busy ev bytes))
is_stays (Send k bytes answer ∷ es) w = is_stays es (happens w (Send k bytes answer))
is_stays (Close k ∷ es) w = is_stays es (happens w (Close k))

module _ (reopens : Files → Contents → Type 0) where
  pub with_logged : (logs : Bool) (o : Option Files) (m : Mark) → (logs ≡ true → IsLog m.log (records_in m.log)) → Reopens reopens o m → Reopens (with_log logs reopens) o m
  with_logged false o m log r = r
  with_logged true o m log r = record { files = r.files; is = r.is; stand = record { contents = (r.stand.contents, subst (λ (bytes : List ℕ). IsLog bytes (records_in bytes)) (sym r.stand.log) (log refl)); log = r.stand.log } }

  -- of a world with these words
  pub world_logged : (is : Settings) (w : World) (o : Option Files) → w.is ≡ is → ReopensLog reopens (book_of w) o (mark_of w) → Reopens (with_log is.logs reopens) o (mark_of w)
  world_logged is w o same r = with_logged is.logs o (mark_of w) (λ on. let log = r.log (ap (λ (i : Settings). i.logs) same ∙ on) in subst (IsLog w.log) (sym (in_once w.log w.records log)) log) r.reopen
