-- What holds of contents that an engine holds.
use Rattle.std.specs.Prelude.{◌≡◌, ℕ, List, false, take}
use Rattle.std.proofs.Common.{◌∙◌, sym, ap, subst, inl, inr, ⊎_elim}
use Rattle.tc_base.specs.Files.{Files}
use Rattle.tc_space.specs.Stores.{Only}
use Rattle.tc_model.specs.Contents.{Contents, is_table}
use Rattle.ty_base.specs.Holding.{AreApart, SaysAlike, main_apart}
use Rattle.tc_fixed.specs.Holding.{holds}
use Rattle.tc_fixed.specs.Standing.{Stands}
use Rattle.tc_fixeddb.specs.declared.holding.FixedEngine.{FixedEngine}
use Rattle.hf_head.specs.FixedHeads.{fixed_in}
use Rattle.tc_fixeddb.specs.Holding.{HoldsIds, Lines, Reopens, lines_of}
use Rattle.tc_fixeddb.specs.Layouts.{layout_in, layout_of}

module _ {S : Type 0} where
  pub never_table : (e : FixedEngine S) (files : Files) (c : Contents) → HoldsIds e files c → is_table c ≡ false
  never_table e files c h = ap is_table h.is

  pub moved_apart : (e : FixedEngine S) (f g : Files) → AreApart (Only 0) f g → SaysAlike (HoldsIds e) Reopens layout_of (λ from form files. Unit {0}) (λ files text. Lines files text) f g
  moved_apart e f g apart = record {
    held = λ c h. record { ids = h.ids; is = h.is; holds_them = subst (λ bytes. holds e.fixed bytes h.ids) (main_apart f g apart) h.holds_them };
    stand = λ c r. ⊎_elim
        (λ none. inl (sym (main_apart f g apart) ∙ none.0, none.1))
        (λ file. inr (record { width = file.width; most = file.most; ids = file.ids; is = file.is; stands = subst (λ bytes. Stands bytes file.width file.most file.ids) (main_apart f g apart) file.stands }))
        r;
    laid = ap layout_in (sym (main_apart f g apart));
    tight = λ from form h. h;
    tight_from = λ form files h. h;
    told = λ text h. subst (λ (bytes : List ℕ). text ≡ lines_of (fixed_in (take 256 bytes))) (main_apart f g apart) h;
  }
