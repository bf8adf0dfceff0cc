-- One data file changed in a transaction: the state after it.
use Rattle.std.proofs.Common.{◌≡◌, ⊎_elim, ℕ, ◌+◌, ◌≤◌, min, max, List, ◌∷◌, length, take, get_or, set, sym, ◌∙◌, ap, subst, arith, length-take, length-set, true, false, Bool}
use Rattle.std.proofs.lemmas.Bool.{cases_eq}
use Rattle.std.proofs.lemmas.List.{places, get_or-set_same, get_or-set_other}
use Rattle.tc_base.specs.Files.{wrote}
use Rattle.tc_io.specs.Images.{Step, reads, Calls, of, now}
use Rattle.ud_log.specs.Undo.{is_data, place_of, length_of}
use Rattle.ud_log.proofs.Logs.{place_one, place_low}
use Rattle.ud_state.specs.State.{AreLens, Durable, Unchanged}
use Rattle.ud_state.proofs.Transaction.{of-same, of-other}
use Rattle.ud_state.proofs.Runs.{durable_other, not_log}

apart_place : (f g : ℕ) → is_data f ≡ true → is_data g ≡ true → (f ≡ g → ⊥) → place_of f ≡ place_of g → ⊥
apart_place f g isf isg other same = other (place_one f g isf isg same)

module _ (cs c1 : Calls) (f : ℕ) (s : Step) (made : c1 ≡ (f, s) ∷ cs) (isf : is_data f ≡ true) where
  pub step_reads : now c1 f ≡ reads (s ∷ of f cs)
  step_reads = ap (λ (c : Calls). now c f) made ∙ ap reads (of-same f s cs)

  pub step_others : (g : ℕ) → (f ≡ g → ⊥) → now c1 g ≡ now cs g
  step_others g other = ap (λ (c : Calls). now c g) made ∙ ap reads (of-other f g s cs other)

  pub step_log : now c1 1 ≡ now cs 1
  step_log = step_others 1 (not_log f isf)

  -- with the file marked as changed
  pub mark_unchanged : (changed : List Bool) → Unchanged cs changed → Unchanged c1 (set changed (place_of f) true)
  mark_unchanged changed u = record {
    long = length-set changed (place_of f) true ∙ u.long;
    each = λ g isg not. ⊎_elim
        (λ same. absurd (marked g isg same not))
        (λ other. subst (λ (c : Calls). Durable c g) (sym made) (durable_other cs f g s other (u.each g isg (sym (get_or-set_other changed (place_of f) (place_of g) true false (λ e. apart_place f g isf isg other (sym e))) ∙ not))))
        (cases_eq f g);
  }
    where
      marked : (g : ℕ) → is_data g ≡ true → f ≡ g → get_or (set changed (place_of f) true) (place_of g) false ≡ false → ⊥
      marked g isg same not =
          let there : get_or (set changed (place_of f) true) (place_of f) false ≡ true = get_or-set_same changed (place_of f) true false (omega (arith, u.long, place_low f isf)) in
          let here : get_or (set changed (place_of f) true) (place_of f) false ≡ false = ap (λ k. get_or (set changed (place_of f) true) (place_of k) false) same ∙ not in
          absurd cc

  -- with its length in the list
  pub set_lens : (lens : List ℕ) (n : ℕ) → AreLens lens (now cs) → n ≡ length (now c1 f) → AreLens (set lens (place_of f) n) (now c1)
  set_lens lens n are is = record {
    long = length-set lens (place_of f) n ∙ are.long;
    at = λ g isg. ⊎_elim
        (λ same. subst (λ h. length_of (set lens (place_of f) n) h ≡ length (now c1 h)) same (get_or-set_same lens (place_of f) n 0 (omega (arith, are.long, place_low f isf)) ∙ is))
        (λ other. get_or-set_other lens (place_of f) (place_of g) n 0 (λ e. apart_place f g isf isg other (sym e)) ∙ are.at g isg ∙ ap length (sym (step_others g other)))
        (cases_eq f g);
  }

pub length_write : (at : ℕ) (bytes old : List ℕ) → at ≤ length old → length (wrote at bytes old) ≡ max (length old) (at + length bytes)
unfolding wrote
length_write at bytes old le = grind (arith, places)

pub length_cut : (len : ℕ) (old : List ℕ) → length (take len old) ≡ min (length old) len
length_cut len old = omega (arith, length-take len old)
