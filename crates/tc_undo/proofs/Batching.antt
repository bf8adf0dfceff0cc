-- Several writes over a space whose files are the data files of a volume.
use Rattle.std.proofs.Common.{◌≡◌, inl, inr, ◌⊎◌, ℕ, ◌≤◌, List, [], ◌∷◌, refl, sym, ◌∙◌, ap, subst, arith, true, false, Bool, All, cond}
use Rattle.std.proofs.lemmas.Bool.{cases_Bool}
use Rattle.std.proofs.lemmas.List.Elements.{All-head, All-tail, All-weaker}
use Rattle.tc_base.specs.Files.{Files}
use Rattle.ud_log.specs.Undo.{all_short, data_of, is_data, length_of}
use Rattle.ud_state.proofs.Replaying.{short_at}
use Rattle.ud_state.proofs.Valid.{data_at}
use Rattle.ud_log.specs.Undo.{place_of}
use Rattle.tc_undo.specs.Guards.{IsBelow, IsSmall}
use Rattle.tc_undo.specs.Pieces.{Fits, LiesIn, Reached, laid}
use Rattle.tc_undo.specs.Room.{log_end}
use Rattle.tc_undo.specs.declared.piece.Piece.{Piece}
use Rattle.tc_undo.proofs.Putting.{laid_there, reached_same}

module _ (limits bytes : List ℕ) (ps : List Piece) (short : all_short limits ≡ true) (fits : All (Fits (λ f. length_of limits f) bytes) ps) where
  small_one : (p : Piece) → Fits (λ f. length_of limits f) bytes p → IsSmall p
  small_one p fit = record { data_file = fit.data_file; small = omega (arith, fit.below, short_at limits (place_of p.file) short) }

  pub all_small : All IsSmall ps
  all_small = All-weaker (Fits (λ f. length_of limits f) bytes) IsSmall small_one ps fits

  pub all_lie : All (LiesIn bytes) ps
  all_lie = All-weaker (Fits (λ f. length_of limits f) bytes) (LiesIn bytes) (λ (p : Piece) fit. fit.inside) ps fits

  pub all_below : All (IsBelow limits) ps
  all_below = All-weaker (Fits (λ f. length_of limits f) bytes) (IsBelow limits) (λ (p : Piece) fit. fit.below) ps fits

-- a file that is none of the data files
laid_other : (bytes : List ℕ) (ps : List Piece) (f : ℕ) (old : List ℕ) → All IsSmall ps → is_data f ≡ false → laid bytes ps f old ≡ old
laid_other bytes [] f old all not = refl
laid_other bytes (p ∷ ps) f old all not =
    let isd = (All-head IsSmall p ps all).data_file in
    ap (λ (l : List ℕ). laid bytes ps f l) (laid_there bytes p f old (λ is. absurd (apart p.file f is isd not))) ∙ laid_other bytes ps f old (All-tail IsSmall p ps all) not
  where
    apart : (g h : ℕ) → g ≡ h → is_data g ≡ true → is_data h ≡ false → ⊥
    apart g h is yes_g no_h = let here : is_data h ≡ true = subst (λ k. is_data k ≡ true) is yes_g in absurd cc

pub reached_data : (bytes : List ℕ) (ps : List Piece) (files : Files) → Reached bytes ps (data_of files) → Reached bytes ps files
reached_data bytes ps files r = reached_same bytes ps (data_of files) files (λ f isd. sym (data_at files f isd)) r

pub laid_data : (bytes : List ℕ) (ps : List Piece) (old new : Files) → All IsSmall ps → ((f : ℕ) → is_data f ≡ true → new f ≡ laid bytes ps f (old f)) → (f : ℕ) → data_of new f ≡ laid bytes ps f (data_of old f)
laid_data bytes ps old new all files f = each (cases_Bool (is_data f))
  where
    each : (is_data f ≡ true) ⊎ (is_data f ≡ false) → data_of new f ≡ laid bytes ps f (data_of old f)
    each (inl is) = data_at new f is ∙ files f is ∙ ap (λ (l : List ℕ). laid bytes ps f l) (sym (data_at old f is))
    each (inr not) =
        let none_new : data_of new f ≡ [] = ap (λ t. cond t (new f) []) not in
        let none_old : data_of old f ≡ [] = ap (λ t. cond t (old f) []) not in
        none_new ∙ sym none_old ∙ sym (laid_other bytes ps f (data_of old f) all not)

pub end_spent : (b : Bool) (end most : ℕ) → b ≡ true → end ≤ most → log_end b end ≤ most
end_spent true end most is le = le
end_spent false end most is le = absurd cc
