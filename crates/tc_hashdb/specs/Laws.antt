-- What holds of contents that an engine holds.
use Rattle.std.specs.Prelude.{◌≡◌, ℕ, List, false, take}
use Rattle.std.specs.FinMap.{get}
use Rattle.std.proofs.Common.{◌∙◌, sym, ap, subst, inl, inr, ⊎_elim}
use Rattle.tc_base.specs.Files.{Files}
use Rattle.hf_tree.specs.Standing.{StandsFor}
use Rattle.tc_model.specs.Contents.{Contents, is_table}
use Rattle.tc_space.specs.Stores.{Only}
use Rattle.ty_base.specs.Holding.{AreApart, SaysAlike, main_apart}
use Rattle.tc_hashdb.specs.declared.holding.HashEngine.{HashEngine}
use Rattle.tc_hash.specs.Repacking.{IsPackedFrom}
use Rattle.tc_hashdb.specs.Holding.{HoldsKeys, HoldsCounted, Reopens}
use Rattle.tc_hashdb.specs.Informing.{Lines, lines_of}
use Rattle.tc_hashdb.specs.Layouts.{layout_in, layout_of}
use Rattle.hf_head.specs.Heads.{head_in}

module _ {S : Type 0} where
  pub never_table : (e : HashEngine S) (files : Files) (c : Contents) → HoldsKeys e files c → is_table c ≡ false
  never_table e files c h = ap is_table h.is

  pub moved_apart : (e : HashEngine S) (f g : Files) → AreApart (Only 0) f g → SaysAlike (HoldsKeys e) Reopens layout_of (λ from form files. IsPackedFrom (from 0) form (files 0)) (λ files text. Lines files text) f g
  moved_apart e f g apart = record {
    held = λ c h. record { map = h.map; is = h.is; holds_map = subst (λ bytes. HoldsCounted e bytes h.map) (main_apart f g apart) h.holds_map };
    stand = λ c r. ⊎_elim
        (λ none. inl (sym (main_apart f g apart) ∙ none.0, none.1))
        (λ file. inr (record { map = file.map; is = file.is; stands = subst (λ bytes. StandsFor 0 bytes (get file.map)) (main_apart f g apart) file.stands }))
        r;
    laid = ap layout_in (sym (main_apart f g apart));
    tight = λ from form h. subst (λ (bytes : List ℕ). IsPackedFrom (from 0) form bytes) (main_apart f g apart) h;
    tight_from = λ form files h. subst (λ (bytes : List ℕ). IsPackedFrom bytes form (files 0)) (main_apart f g apart) h;
    told = λ text h. subst (λ (bytes : List ℕ). text ≡ lines_of (head_in (take 256 bytes))) (main_apart f g apart) h;
  }
