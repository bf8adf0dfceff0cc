-- What holds of contents that an engine holds.
use Rattle.std.specs.Prelude.{◌≡◌, ℕ, List, false}
use Rattle.std.proofs.Common.{◌∙◌, sym, ap, subst, inl, inr, ⊎_elim}
use Rattle.tc_base.specs.Files.{Files}
use Rattle.tc_model.specs.Contents.{Contents, is_table}
use Rattle.tc_space.specs.Stores.{Only}
use Rattle.ty_base.specs.Holding.{AreApart, SaysAlike, main_apart}
use Rattle.tc_hash.specs.Repacking.{IsPackedFrom}
use Rattle.tc_treedb.specs.declared.holding.TreeEngine.{TreeEngine}
use Rattle.tc_treedb.specs.Holding.{HoldsKept, HoldsPairs, Reopens, StandsTree}
use Rattle.tc_treedb.specs.Informing.{IsTold, Lines}
use Rattle.tc_treedb.specs.Layouts.{layout_in, layout_of}

module _ {S : Type 0} where
  pub never_table : (e : TreeEngine S) (files : Files) (c : Contents) → HoldsPairs e files c → is_table c ≡ false
  never_table e files c h = ap is_table h.is

  pub moved_apart : (e : TreeEngine S) (f g : Files) → AreApart (Only 0) f g → SaysAlike (HoldsPairs e) Reopens layout_of (λ from form files. IsPackedFrom (from 0) form (files 0)) (λ files text. Lines files text) f g
  moved_apart e f g apart = record {
    held = λ c h. record { held = h.held; is = h.is; holds_it = subst (λ bytes. HoldsKept e.kept bytes h.held) (main_apart f g apart) h.holds_it; counted = h.counted };
    stand = λ c r. ⊎_elim
        (λ none. inl (sym (main_apart f g apart) ∙ none.0, none.1))
        (λ file. inr (record { held = file.held; is = file.is; stands = subst (λ bytes. StandsTree bytes file.held) (main_apart f g apart) file.stands }))
        r;
    laid = ap layout_in (sym (main_apart f g apart));
    tight = λ from form h. subst (λ (bytes : List ℕ). IsPackedFrom (from 0) form bytes) (main_apart f g apart) h;
    tight_from = λ form files h. subst (λ (bytes : List ℕ). IsPackedFrom bytes form (files 0)) (main_apart f g apart) h;
    told = λ text h. subst (λ (bytes : List ℕ). IsTold bytes text) (main_apart f g apart) h;
  }
