-- Pieces that adjoin are one write.
use Rattle.std.proofs.Common.{◌≡◌, ⊎_elim, ℕ, ◌+◌, ◌≤◌, List, [], ◌∷◌, ◌++◌, length, refl, sym, ◌∙◌, subst, arith, length-append, All}
use Rattle.std.proofs.lemmas.Bool.{cases_lt}
use Rattle.std.proofs.lemmas.List.{places, same_lists, get_or_append_left, get_or-append-add}
use Rattle.tc_base.specs.Files.{wrote}
use Rattle.tc_undo.specs.Guards.{Guards, IsGuarded}
use Rattle.tc_undo.specs.Pieces.{LiesIn, laid, laid_one, part}
use Rattle.tc_undo.specs.Runs.{EndsBy, IsRun}
use Rattle.tc_undo.specs.declared.piece.Piece.{Piece}
use Rattle.tc_undo.proofs.Putting.{laid_here, laid_there}

wrote_none : (at : ℕ) (old : List ℕ) → at ≤ length old → wrote at [] old ≡ old
unfolding wrote
wrote_none at old le = same_lists _ _ (grind (arith, places)) (λ j d h. grind (arith, places))

wrote_more : (at : ℕ) (a b old : List ℕ) → at ≤ length old → wrote (at + length a) b (wrote at a old) ≡ wrote at (a ++ b) old
unfolding wrote
wrote_more at a b old le = same_lists _ _ (grind (arith, places)) (λ j d h. grind (arith, places))

pub laid_append : (bytes : List ℕ) (a b : List Piece) (f : ℕ) (old : List ℕ) → laid bytes (a ++ b) f old ≡ laid bytes b f (laid bytes a f old)
laid_append bytes [] b f old = refl
laid_append bytes (p ∷ a) b f old = laid_append bytes a b f (laid_one bytes p f old)

module _ (P : Piece → Type 0) (ps qs : List Piece) (all : All P (ps ++ qs)) where
  pub front_all : All P ps
  front_all k d low = subst P (get_or_append_left ps qs d k low) (all k d (omega (arith, low, length-append ps qs)))

  pub back_all : All P qs
  back_all k d low = subst P (get_or-append-add ps qs k d) (all (length ps + k) d (omega (arith, low, length-append ps qs)))

last_all : (P : Piece → Type 0) (ps : List Piece) (p : Piece) → All P (ps ++ p ∷ []) → P p
last_all P ps p all = back_all P ps (p ∷ []) all 0 p (omega arith)

pub run_none : (bytes : List ℕ) (file at : ℕ) → IsRun bytes [] file at []
run_none bytes file at = record {
  here = λ old le. sym (wrote_none at old le);
  others = λ f other old. refl;
  guards = λ kept es all. record { each = λ q low high. absurd (omega (arith, low, high)) };
  ends = λ top low all. omega (arith, low);
}

part_size : (bytes : List ℕ) (p : Piece) → LiesIn bytes p → length (part bytes p) ≡ p.size
part_size bytes p lies = grind (arith, places, lies)

pub run_more : (bytes : List ℕ) (ps : List Piece) (file at : ℕ) (text : List ℕ) (p : Piece) → IsRun bytes ps file at text → p.file ≡ file → p.at ≡ at + length text → LiesIn bytes p → IsRun bytes (ps ++ p ∷ []) file at (text ++ part bytes p)
run_more bytes ps file at text p run same place lies = record {
  here = λ old le. laid_append bytes ps (p ∷ []) file old ∙ laid_here bytes p file (laid bytes ps file old) same ∙ (λ i. wrote (place i) (part bytes p) (run.here old le i)) ∙ wrote_more at text (part bytes p) old le;
  others = λ f other old. laid_append bytes ps (p ∷ []) f old ∙ laid_there bytes p f (laid bytes ps f old) (λ is. other (sym same ∙ is)) ∙ run.others f other old;
  guards = λ kept es all.
      let first = run.guards kept es (front_all (IsGuarded kept es) ps (p ∷ []) all) in
      let last : Guards kept es file p.at (p.at + p.size) = subst (λ f. Guards kept es f p.at (p.at + p.size)) same (last_all (IsGuarded kept es) ps p all) in
      record {
        each = λ q low high below. ⊎_elim
            (λ early. first.each q low early below)
            (λ late. last.each q (omega (arith, late, place)) (omega (arith, high, place, length-append text (part bytes p), part_size bytes p lies)) below)
            (cases_lt q (at + length text));
      };
  ends = λ top low all.
      let last : p.at + p.size ≤ top file = subst (λ f. p.at + p.size ≤ top f) same (last_all (EndsBy top) ps p all) in
      omega (arith, last, place, length-append text (part bytes p), part_size bytes p lies);
}
