-- What an inspection reads, and what it tells.
use Rattle.std.proofs.Common.{◌≡◌, ◌∙◌, ℕ, List, ◌++◌, sym, ap, subst}
use Rattle.std.specs.Prelude.{Option, Some, unwrap_or}
use Rattle.tc_space.specs.Frames.{OnlyReads, Reads}
use Rattle.tc_space.specs.declared.space.Space.{Ghosts}
use Rattle.hf_head.specs.declared.fixed.FixedHead.{FixedHead}
use Rattle.hf_head.specs.FixedHeads.{fixed_in}
use Rattle.ty_base.specs.Holding.{Held}
use Rattle.tc_fixed.specs.Holding.{holds}
use Rattle.tc_fixeddb.specs.declared.holding.FixedEngine.{FixedEngine}
use Rattle.tc_fixeddb.specs.Holding.{HoldsIds, lines_of}

module _ {S : Type 0} (s : Ghosts S) where
  pub only_reads_up : (e : FixedEngine S) (a b : S) → OnlyReads s a b → Reads s (Held s HoldsIds) e e a b
  only_reads_up e a b reads = record {
    now = reads.files;
    touched = reads.untouched;
    sound = reads.is_sound;
    means = λ c h. (h.0, record { ids = h.1.ids; is = h.1.is; holds_them = subst (λ bytes. holds e.fixed bytes h.1.ids) (sym (reads.files h.0 0)) h.1.holds_them });
  }

pub told_is : (bytes a b : List ℕ) (head : FixedHead) (found : Option FixedHead) → found ≡ Some head → ((h : FixedHead) × (found ≡ Some h) × (fixed_in bytes ≡ h)) → b ≡ a ++ lines_of head → (text : List ℕ) × (text ≡ lines_of (fixed_in bytes)) × (b ≡ a ++ text)
told_is bytes a b head found is other added = (lines_of head, ap (λ h. lines_of h) (ap (λ o. unwrap_or o head) (sym is ∙ other.1) ∙ sym other.2), added)
