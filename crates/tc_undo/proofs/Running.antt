-- A run of pieces is written, and the pieces behind it may be.
use Rattle.std.proofs.Common.{◌≡◌, ⊎_elim, ℕ, ◌+◌, ◌-◌, ◌^◌, ◌<◌, ◌≤◌, List, [], ◌∷◌, ◌++◌, length, take, drop, get_or, refl, sym, ◌∙◌, ap, subst, arith, true, All, length-drop, append-nil}
use Rattle.std.proofs.lemmas.Bool.{cases_eq}
use Rattle.std.proofs.lemmas.List.{places, take_all, take-append-drop}
use Rattle.std.proofs.lemmas.List.Elements.{All-take, All-weaker}
use lib.Seq.{take-add}
use Rattle.tc_io.specs.Images.{Calls, now}
use Rattle.ud_log.specs.Undo.{is_data, length_of}
use Rattle.ud_state.specs.State.{AreLens, Secured}
use Rattle.ud_state.proofs.Runs.{not_log}
use Rattle.tc_undo.specs.Changes.{KnowsLens}
use Rattle.tc_undo.specs.Guards.{IsBelow, IsGuarded, IsSmall, MayPut, PutsAll, PutsPiece, PutsRun}
use Rattle.tc_undo.specs.Pieces.{LiesIn, Reached, laid, laid_one, part, reached}
use Rattle.tc_undo.specs.Runs.{EndsBy, IsRunAt, blank}
use Rattle.tc_undo.specs.declared.piece.Piece.{Piece}
use Rattle.tc_undo.specs.declared.room.Log.{Log}
use Rattle.tc_undo.proofs.Joining.{back_all, front_all, laid_append, run_more, run_none}
use Rattle.tc_undo.proofs.Needs.{grown_inside}
use Rattle.tc_undo.proofs.Putting.{begins_inside, inside_refl, next_pieces, open_all, secured_by}

-- ---- the first piece alone, as the code cuts its bytes out

first_piece : (ps : List Piece) → 0 < length ps → take 1 ps ≡ get_or ps 0 blank ∷ []
first_piece [] low = absurd (omega (arith, low))
first_piece (p ∷ ps) low = refl

run_one : (bytes : List ℕ) (p : Piece) → LiesIn bytes p → IsRunAt bytes (p ∷ []) p (part bytes p)
run_one bytes p lies = let place : p.at ≡ p.at + 0 = omega arith in run_more bytes [] p.file p.at [] p (run_none bytes p.file p.at) refl place lies

pub run_first : (bytes : List ℕ) (ps : List Piece) → 0 < length ps → All (LiesIn bytes) ps → let p = get_or ps 0 blank in IsRunAt bytes (take 1 ps) p (take (p.from + p.size - p.from) (drop p.from bytes))
run_first bytes ps low lie =
    let p = get_or ps 0 blank in
    let size : p.size ≡ p.from + p.size - p.from = omega arith in
    subst (λ (l : List Piece). IsRunAt bytes l p (take (p.from + p.size - p.from) (drop p.from bytes))) (sym (first_piece ps low))
    (subst (λ k. IsRunAt bytes (p ∷ []) p (take k (drop p.from bytes))) size (run_one bytes p (lie 0 blank low)))

-- ---- the first pieces are a run

module _ {tells : Type 0} (cs : Calls) (log : Log) (lens bytes : List ℕ) (ps : List Piece) (may : MayPut tells cs log lens bytes ps) (n : ℕ) (text : List ℕ) (some : 0 < n) (low : 0 < length ps) (run : IsRunAt bytes (take n ps) (get_or ps 0 blank) text) where
  abbrev p : Piece
  p = get_or ps 0 blank

  pub first_data : is_data p.file ≡ true
  first_data = (may.small 0 blank low).data_file

  pub first_small : p.at + length text ≤ 2 ^ 40
  first_small = run.ends (λ f. 2 ^ 40) (omega (arith, (may.small 0 blank low).small)) (All-weaker IsSmall (EndsBy (λ f. 2 ^ 40)) (λ (q : Piece) s. s.small) (take n ps) (All-take IsSmall n ps may.small))

  pub first_within : tells → p.at ≤ length (now cs p.file)
  first_within t = begins_inside bytes p (drop 1 ps) (now cs) first_data (subst (λ (l : List Piece). Reached bytes l (now cs)) (next_pieces ps 0 low) (may.reached t))

  pub first_secured : tells → Secured cs log.recorded p.file p.at (p.at + length text)
  first_secured t =
      let s = may.secured t in
      secured_by cs log.recorded ps s p.file p.at (p.at + length text) (run.guards s.kept s.es (All-take (IsGuarded s.kept s.es) n ps s.guards))

  first_below : (limits : List ℕ) → All (IsBelow limits) (take n ps) → p.at ≤ length_of limits p.file
  first_below limits below =
      let same : get_or (take n ps) 0 blank ≡ p = grind (arith, places, some, low) in
      let there : 0 < length (take n ps) = grind (arith, places, some, low) in
      let here : IsBelow limits p = subst (IsBelow limits) same (below 0 blank there) in
      omega (arith, here)

  pub puts_first : (c1 : Calls) (log' : Log) (after : List ℕ) → PutsPiece tells cs c1 log log' lens after p.file p.at text → PutsRun tells cs c1 log log' lens after bytes (take n ps)
  puts_first c1 log' after puts = record {
    log_is = puts.log_is;
    tx = λ t kept es tx all. puts.tx t kept es tx (run.guards kept es all);
    unchanged = puts.unchanged;
    lens = puts.lens;
    inside = record { each = λ limits below inside. grown_inside lens limits after inside p.file (p.at + length text) first_data puts.sized (run.ends (length_of limits) (first_below limits below) below) };
    files = λ t f isd. ⊎_elim
        (λ same. subst (λ h. now c1 h ≡ laid bytes (take n ps) h (now cs h)) same (puts.here t ∙ sym (run.here (now cs p.file) (first_within t))))
        (λ other. puts.others t f other ∙ sym (run.others f other (now cs f)))
        (cases_eq p.file f);
    log_stays = λ t. puts.others t 1 (λ is. absurd (not_log p.file first_data is));
  }

-- ---- pieces, and others behind them

reached_append : (bytes : List ℕ) (ps qs : List Piece) (f : ℕ) (old : List ℕ) → reached bytes (ps ++ qs) f old → reached bytes qs f (laid bytes ps f old)
reached_append bytes [] qs f old r = r
reached_append bytes (p ∷ ps) qs f old r = reached_append bytes ps qs f (laid_one bytes p f old) r.1

pub puts_none : {tells : Type 0} (cs : Calls) (log : Log) (lens bytes : List ℕ) → KnowsLens tells (now cs) lens → PutsRun tells cs cs log log lens lens bytes []
puts_none cs log lens bytes knows = record { log_is = refl; tx = λ t kept es tx all. tx; unchanged = λ t u. u; lens = knows; inside = inside_refl lens []; files = λ t f isd. refl; log_stays = λ t. refl }

module _ {tells : Type 0} (a b : Calls) (la lb : Log) (before mid bytes : List ℕ) (ps qs : List Piece) (first : PutsRun tells a b la lb before mid bytes ps) where
  puts_then : (c : Calls) (lc : Log) (after : List ℕ) → PutsRun tells b c lb lc mid after bytes qs → PutsRun tells a c la lc before after bytes (ps ++ qs)
  puts_then c lc after second = record {
    log_is = second.log_is ∙ ap (λ (l : Log). record l { changed = lc.changed }) first.log_is;
    tx = λ t kept es tx all. second.tx t kept es (first.tx t kept es tx (front_all (IsGuarded kept es) ps qs all)) (back_all (IsGuarded kept es) ps qs all);
    unchanged = λ t u. second.unchanged t (first.unchanged t u);
    lens = second.lens;
    inside = record { each = λ limits below inside. second.inside.each limits (back_all (IsBelow limits) ps qs below) (first.inside.each limits (front_all (IsBelow limits) ps qs below) inside) };
    files = λ t f isd. second.files t f isd ∙ ap (λ (l : List ℕ). laid bytes qs f l) (first.files t f isd) ∙ sym (laid_append bytes ps qs f (now a f));
    log_stays = λ t. second.log_stays t ∙ first.log_stays t;
  }

  may_then : MayPut tells a la before bytes (ps ++ qs) → MayPut tells b lb mid bytes qs
  may_then may = record {
    small = back_all IsSmall ps qs may.small;
    lie = back_all (LiesIn bytes) ps qs may.lie;
    reached = λ t. record { each = λ f isd. subst (λ (l : List ℕ). reached bytes qs f l) (sym (first.files t f isd)) (reached_append bytes ps qs f (now a f) ((may.reached t).each f isd)) };
    knows = first.lens;
    secured = λ t.
        let s = may.secured t in
        record {
          kept = s.kept;
          es = s.es;
          tx = first.tx t s.kept s.es s.tx (front_all (IsGuarded s.kept s.es) ps qs s.guards);
          records = subst (λ (l : List ℕ). AreLens l s.kept) (sym (ap (λ (l : Log). l.recorded) first.log_is)) s.records;
          guards = back_all (IsGuarded s.kept s.es) ps qs s.guards;
        };
    end_is = λ t. ap (λ (l : Log). l.end) first.log_is ∙ may.end_is t ∙ sym (ap (λ (l : List ℕ). length l) (first.log_stays t));
    unchanged = λ t. first.unchanged t (may.unchanged t);
  }

-- ---- from an index on

rest_is : (ps : List Piece) (i : ℕ) → take (length ps - i) (drop i ps) ≡ drop i ps
rest_is ps i = take_all (length ps - i) (drop i ps) (omega (arith, length-drop i ps))

module _ {tells : Type 0} (a b : Calls) (la lb : Log) (before mid bytes : List ℕ) (ps : List Piece) (i : ℕ) (first : PutsRun tells a b la lb before mid bytes (take i ps)) where
  pub may_rest : MayPut tells a la before bytes ps → MayPut tells b lb mid bytes (take (length ps - i) (drop i ps))
  may_rest may = subst (λ (l : List Piece). MayPut tells b lb mid bytes l) (sym (rest_is ps i))
      (may_then a b la lb before mid bytes (take i ps) (drop i ps) first (subst (λ (l : List Piece). MayPut tells a la before bytes l) (sym (take-append-drop i ps)) may))

  pub puts_rest : (c : Calls) (lc : Log) (after : List ℕ) (n : ℕ) → PutsRun tells b c lb lc mid after bytes (take n (take (length ps - i) (drop i ps))) → PutsRun tells a c la lc before after bytes (take (i + n) ps)
  puts_rest c lc after n second = subst (λ (l : List Piece). PutsRun tells a c la lc before after bytes l) (sym (take-add i n ps))
      (puts_then a b la lb before mid bytes (take i ps) (take n (drop i ps)) first c lc after (subst (λ (l : List Piece). PutsRun tells b c lb lc mid after bytes (take n l)) (rest_is ps i) second))

-- all of them were written
pub puts_all : (tells : Type 0) (a b : Calls) (la lb : Log) (before after bytes : List ℕ) (ps : List Piece) → MayPut tells a la before bytes ps → PutsRun tells a b la lb before after bytes ps → PutsAll tells a b la lb before after bytes ps
puts_all tells a b la lb before after bytes ps may puts =
    let rest = may_then a b la lb before after bytes ps [] puts (subst (λ (l : List Piece). MayPut tells a la before bytes l) (sym (append-nil ps)) may) in
    record {
      log_is = puts.log_is;
      is_open = λ t. open_all b lb.recorded [] lb.end lb.changed (rest.secured t) (rest.end_is t) (rest.unchanged t);
      lens = puts.lens;
      inside = puts.inside;
      files = puts.files;
    }
