-- The log's entries become more, and have the old bytes of several pieces.
use Rattle.std.proofs.Common.{◌≡◌, ⊎_elim, ℕ, ◌+◌, ◌<◌, ◌≤◌, min, List, [], ◌∷◌, ◌++◌, length, take, drop, refl, sym, ◌∙◌, ap, subst, arith, length-take, length-drop, true, Bool, All, get_or}
use Rattle.std.proofs.lemmas.Bool.{cases_eq, cases_lt}
use Rattle.std.proofs.lemmas.List.{take_more}
use Rattle.std.proofs.lemmas.List.Elements.{All-nil, All-push, All-weaker, All-same}
use Rattle.tc_base.specs.Files.{Files}
use Rattle.tc_io.specs.Images.{written, synced, Calls, now, Images}
use Rattle.ud_log.specs.Entries.{Entry, entry_of, Covers}
use Rattle.ud_log.specs.Good.{IsGood}
use Rattle.ud_log.specs.Log.{entry_bytes, framed}
use Rattle.ud_log.specs.Undo.{is_data, length_of, log_bytes, of_file}
use Rattle.ud_log.proofs.Steps.{covers_more, covers_last}
use Rattle.ud_state.specs.Since.{Calm}
use Rattle.ud_state.specs.State.{AreLens, IsOpen, Logging, Pending}
use Rattle.ud_state.proofs.Open.{append_pending, secure_tx}
use Rattle.ud_state.proofs.Taken.{calm_undo}
use Rattle.ud_state.proofs.Transaction.{of_file-same, of_file-other}
use Rattle.tc_undo.specs.Guards.{Grown, Grows, IsGuarded, IsNew, IsSmall, LoggingAll, SecuredAll}
use Rattle.tc_undo.specs.declared.piece.Piece.{Piece}

-- ---- one entry

module _ (cs : Calls) (kept : Files) (es : List Entry) (recorded : List ℕ) (f at n end : ℕ) (bytes old : List ℕ) (pend : Pending cs kept es) (records : AreLens recorded kept) (isd : is_data f ≡ true) (some : 1 ≤ n) (few : n ≤ 4096)
    (inside : at + n ≤ length_of recorded f) (within : at + n ≤ length (now cs f)) (is_end : end ≡ length (now cs 1)) (is_old : old ≡ take n (drop at (now cs f))) (is_bytes : bytes ≡ framed f at old) where
  abbrev entry : Entry
  entry = entry_of f at old

  long_old : length old ≡ n
  long_old = ap length is_old ∙ length-take n (drop at (now cs f)) ∙ omega (arith, length-drop at (now cs f), within)

  good : IsGood kept entry
  good = record { is_data = isd; some = omega (arith, some, long_old); few = omega (arith, few, long_old); same = refl; inside = omega (arith, inside, long_old, records.at f isd) }

  same_bytes : old ≡ take (length old) (drop at (now cs f))
  same_bytes = is_old ∙ ap (λ k. take k (drop at (now cs f))) (sym long_old)

  entry_step : (1, written end bytes) ∷ cs ≡ (1, written (length (log_bytes kept es)) (entry_bytes entry)) ∷ cs
  entry_step = λ i. (1, written ((is_end ∙ ap length pend.log) i) (is_bytes i)) ∷ cs

  appended : Pending ((1, written end bytes) ∷ cs) kept (es ++ entry ∷ [])
  appended = subst (λ (c : Calls). Pending c kept (es ++ entry ∷ [])) (sym entry_step) (append_pending cs kept es entry pend good same_bytes)

  covers_grown : (g p : ℕ) → Covers (of_file g es) p → Covers (of_file g (es ++ entry ∷ [])) p
  covers_grown g p has = ⊎_elim
      (λ here. subst (λ (l : List Entry). Covers l p) (sym (of_file-same g es entry here)) (covers_more (of_file g es) entry p has))
      (λ there. subst (λ (l : List Entry). Covers l p) (sym (of_file-other g es entry there)) has)
      (cases_eq f g)

  pub grown_by : (c1 : Calls) → c1 ≡ (1, written end bytes) ∷ cs → Grown c1 kept es f at (at + n)
  grown_by c1 made = record {
    more = es ++ entry ∷ [];
    pending = subst (λ (c : Calls). Pending c kept (es ++ entry ∷ [])) (sym made) appended;
    covers = covers_grown;
    guards = record { each = λ p low high below. subst (λ (l : List Entry). Covers l p) (sym (of_file-same f es entry refl)) (covers_last (of_file f es) entry p low (omega (arith, high, long_old))) };
  }

pub grows_by : (cs c1 : Calls) (recorded : List ℕ) (f at n end : ℕ) (bytes old : List ℕ) → is_data f ≡ true → 1 ≤ n → n ≤ 4096 → at + n ≤ length_of recorded f → at + n ≤ length (now cs f) → end ≡ length (now cs 1)
    → old ≡ take n (drop at (now cs f)) → bytes ≡ framed f at old → c1 ≡ (1, written end bytes) ∷ cs → Grows cs c1 recorded f at (at + n)
grows_by cs c1 recorded f at n end bytes old isd some few inside within is_end is_old is_bytes made = record { each = λ kept es pend records. grown_by cs kept es recorded f at n end bytes old pend records isd some few inside within is_end is_old is_bytes c1 made }

-- ---- a stretch

pub grows_none : (cs : Calls) (recorded : List ℕ) (f from to : ℕ) → to ≤ from → Grows cs cs recorded f from to
grows_none cs recorded f from to le = record { each = λ kept es pend records. record { more = es; pending = pend; covers = λ g p has. has; guards = record { each = λ p low high below. absurd (omega (arith, low, high, le)) } } }

pub grows_then : (a b c : Calls) (recorded : List ℕ) (f from mid to : ℕ) → Grows a b recorded f from mid → Grows b c recorded f mid to → Grows a c recorded f from to
grows_then a b c recorded f from mid to first second = record {
  each = λ kept es pend records.
      let g = first.each kept es pend records in
      let h = second.each kept g.more g.pending records in
      record {
        more = h.more;
        pending = h.pending;
        covers = λ k p has. h.covers k p (g.covers k p has);
        guards = record { each = λ p low high below. ⊎_elim (λ early. h.covers f p (g.guards.each p low early below)) (λ late. h.guards.each p late high below) (cases_lt p mid) };
      };
}

pub grows_less : (a b : Calls) (recorded : List ℕ) (f from to less : ℕ) → less ≤ to → Grows a b recorded f from to → Grows a b recorded f from less
grows_less a b recorded f from to less le grows = record {
  each = λ kept es pend records.
      let g = grows.each kept es pend records in
      record { more = g.more; pending = g.pending; covers = g.covers; guards = record { each = λ p low high below. g.guards.each p low (omega (arith, high, le)) below } };
}

-- what stands above the recorded length, or wasn't there, needs no entry
pub grows_widen : (cs c1 : Calls) (recorded : List ℕ) (f at stop all : ℕ) → is_data f ≡ true → Grows cs c1 recorded f at stop → min (min all (length_of recorded f)) (length (now cs f)) ≤ stop → Grows cs c1 recorded f at all
grows_widen cs c1 recorded f at stop all isd grows le = record {
  each = λ kept es pend records.
      let g = grows.each kept es pend records in
      record {
        more = g.more;
        pending = g.pending;
        covers = g.covers;
        guards = record {
          each = λ p low high below. ⊎_elim
              (λ early. g.guards.each p low early below)
              (λ late. g.covers f p (pend.tail f isd p (omega (arith, late, le, high, below, records.at f isd)) below))
              (cases_lt p stop);
        };
      };
}

-- ---- pieces

pub logging_none : (cs : Calls) (recorded : List ℕ) (f at : ℕ) → Logging cs recorded f at at → LoggingAll cs recorded []
logging_none cs recorded f at l = record { kept = l.kept; es = l.es; pending = l.pending; records = l.records; guards = All-nil (IsGuarded l.kept l.es) }

pub logging_one : (cs : Calls) (recorded : List ℕ) (ps : List Piece) → LoggingAll cs recorded ps → (f at : ℕ) → Logging cs recorded f at at
logging_one cs recorded ps l f at = record { kept = l.kept; es = l.es; pending = l.pending; records = l.records; logged = λ p low high. absurd (omega (arith, low, high)) }

pub logging_more : (cs c1 : Calls) (recorded : List ℕ) (ps : List Piece) (i : ℕ) (p d : Piece) → i < length ps → p ≡ get_or ps i d → LoggingAll cs recorded (take i ps) → Grows cs c1 recorded p.file p.at (p.at + p.size) → LoggingAll c1 recorded (take (i + 1) ps)
logging_more cs c1 recorded ps i p d low is l grows =
    let g = grows.each l.kept l.es l.pending l.records in
    record {
      kept = l.kept;
      es = g.more;
      pending = g.pending;
      records = l.records;
      guards = All-same (IsGuarded l.kept g.more) (take (i + 1) ps) (take i ps ++ p ∷ []) (take_more ps i d low ∙ ap (λ (q : Piece). take i ps ++ q ∷ []) (sym is))
          (All-push (IsGuarded l.kept g.more) (take i ps) p
          (All-weaker (IsGuarded l.kept l.es) (IsGuarded l.kept g.more) (λ (q : Piece) guard. record { each = λ x from to below. g.covers q.file x (guard.each x from to below) }) (take i ps) l.guards)
          g.guards);
    }

pub logging_calm : (cs : Calls) (recorded : List ℕ) (ps : List Piece) → LoggingAll cs recorded ps → Images cs (now cs) → Calm cs
logging_calm cs recorded ps l image = calm_undo cs l.kept l.pending.undo image

pub secured_all : (cs c1 : Calls) (recorded : List ℕ) (ps : List Piece) → LoggingAll cs recorded ps → c1 ≡ (1, synced) ∷ cs → SecuredAll c1 recorded ps
secured_all cs c1 recorded ps l made = subst (λ (c : Calls). SecuredAll c recorded ps) (sym made) (record { kept = l.kept; es = l.es; tx = secure_tx cs l.kept l.es l.pending; records = l.records; guards = l.guards })

-- pieces that have nothing to log are guarded by what the log has
pub secured_new : (cs : Calls) (end : ℕ) (recorded lens : List ℕ) (changed : List Bool) (ps : List Piece) → IsOpen cs end recorded changed → AreLens lens (now cs) → All IsSmall ps → All (IsNew recorded lens) ps → SecuredAll cs recorded ps
secured_new cs end recorded lens changed ps o are small new = record {
  kept = o.kept;
  es = o.es;
  tx = o.tx;
  records = o.records;
  guards = λ k d low. guard (get_or ps k d) (small k d low) (new k d low);
}
  where
    guard : (p : Piece) → IsSmall p → IsNew recorded lens p → IsGuarded o.kept o.es p
    guard p is none = record { each = λ x from to below. o.tx.tail p.file is.data_file x (omega (arith, none, from, to, below, o.records.at p.file is.data_file, are.at p.file is.data_file)) below }
