-- A data file changes once its old bytes are on the disk.
use Rattle.std.proofs.Common.{◌≡◌, ◌∷◌, ℕ, ◌^◌, ◌≤◌, List, length, set, sym, ◌∙◌, ap, subst, arith, true}
use Rattle.tc_io.specs.Images.{Calls, Step, now, reads}
use Rattle.ud_log.specs.Undo.{length_of, place_of}
use Rattle.ud_state.specs.State.{AreLens, Secured, Unchanged}
use Rattle.ud_state.proofs.Changing.{mark_unchanged, set_lens, step_log, step_others, step_reads}
use Rattle.ud_state.proofs.Writing.{lens_log, open_of, widen}
use Rattle.tc_undo.specs.Changes.{Changes, KnowsLens, MayChange, MayLog, Secures}
use Rattle.tc_undo.specs.Room.{log_end, recorded_of}
use Rattle.tc_undo.specs.declared.room.Log.{Log}
use Rattle.tc_undo.proofs.Needs.{same_set, short_set}

module _ {tells : Type 0} {old : Calls} {start : Log} {lens : List ℕ} {file at all stop : ℕ} (may : MayChange tells old start lens file at all stop) (knows : KnowsLens tells (now old) lens) where
  abbrev recorded : List ℕ
  recorded = recorded_of start.active start.recorded lens

  -- the bytes that need entries may be logged
  pub may_log : MayLog tells old recorded (log_end start.active start.end) file at stop
  may_log = record {
    data_file = may.data_file;
    inside = omega (arith, may.stop_is);
    within = λ t. omega (arith, may.stop_is, (knows.are t).at file may.data_file);
    room = may.room;
  }

  module _ {mid : Calls} {log : Log} (secures : Secures tells old mid recorded log file at stop) where
    pub lens_stay : tells → AreLens lens (now mid)
    lens_stay t = lens_log old mid lens (secures.only t) (knows.are t)

    file_stays : tells → now mid file ≡ now old file
    file_stays t = ap reads ((secures.only t).same file may.data_file)

    pub begins_inside : tells → at ≤ length (now mid file)
    begins_inside t = omega (arith, may.within t, ap length (file_stays t))

    pub all_secured : tells → Secured mid log.recorded file at all
    all_secured t = widen mid log.recorded file at stop all may.data_file (secures.secured t) (omega (arith, may.stop_is, ap (λ (l : List ℕ). length_of l file) secures.records, (lens_stay t).at file may.data_file))

    -- then the file changes, and is marked
    module _ (new : Calls) (s : Step) (made : tells → new ≡ (file, s) ∷ mid) (change : List ℕ → List ℕ) (does : (l : List Step) → reads (s ∷ l) ≡ change (reads l)) where
      file_is : tells → now new file ≡ change (now old file)
      file_is t = step_reads mid new file s (made t) may.data_file ∙ does _ ∙ ap change (file_stays t)

      module _ (size : ℕ → ℕ) (long : (l : List ℕ) → at ≤ length l → length (change l) ≡ size (length l)) (i n : ℕ) (place : i ≡ place_of file) (is : n ≡ size (length_of lens file)) where
        lens_set : tells → AreLens (set lens i n) (now new)
        lens_set t =
            let here : n ≡ length (now new file) = is ∙ ap size ((knows.are t).at file may.data_file) ∙ sym (ap length (file_is t) ∙ long (now old file) (may.within t)) in
            subst (λ k. AreLens (set lens k n) (now new)) (sym place) (set_lens mid new file s (made t) may.data_file lens n (lens_stay t) here)

        pub changes : log.active ≡ true → n ≤ 2 ^ 40 → (tells → Secured new log.recorded file at at) → Changes tells old new (record log { changed = set log.changed i true }) lens (set lens i n) file size change
        changes active few done = record {
          active = active;
          low = secures.low;
          is_open = λ t.
              let end = secures.end_is t ∙ ap length (sym (step_log mid new file s (made t) may.data_file)) in
              let marked = mark_unchanged mid new file s (made t) may.data_file log.changed (secures.unchanged t) in
              open_of new log.end log.recorded _ file at at (done t) end (subst (λ k. Unchanged new (set log.changed k true)) (sym place) marked);
          lens = record { short = short_set lens i n knows.short few; are = lens_set };
          sized = same_set lens i (place_of file) n (size (length_of lens file)) place is;
          here = file_is;
          others = λ t f isd other. step_others mid new file s (made t) may.data_file f other ∙ ap reads ((secures.only t).same f isd);
        }
