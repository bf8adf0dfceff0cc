-- The file stands for the contents once they are settled.
use Rattle.std.proofs.Common.{◌≡◌, ◌∙◌, ℕ, List, length, take, inr, sym, ap, subst, arith, length-take}
use Rattle.std.specs.Prelude.{◌-◌}
use Rattle.tc_base.specs.Files.{wrote}
use Rattle.hf_head.specs.declared.fixed.FixedHead.{FixedHead}
use Rattle.hf_head.specs.FixedHeads.{fixed_in, fixed_spelled}
use Rattle.tc_space.specs.Effects.{Changes}
use Rattle.tc_fixed.specs.declared.fixed.Fixed.{Fixed}
use Rattle.tc_fixed.specs.Cells.{end_of}
use Rattle.tc_fixed.specs.Settling.{head_of, settled}
use Rattle.tc_fixeddb.specs.Layouts.{layout_of, no_numbers}
use Rattle.tc_space.specs.Changes.{same}
use Rattle.tc_space.specs.Frames.{Writes}
use Rattle.tc_space.specs.Stores.{Only}
use Rattle.tc_space.specs.declared.space.Space.{Ghosts}
use Rattle.tc_model.specs.Arrays.{Array}
use Rattle.tc_model.specs.Contents.{Contents}
use Rattle.ty_base.specs.Holding.{Held, IsTrimmed}
use Rattle.tc_fixed.specs.Holding.{Means, SameShape, holds, max_id_of, width_of}
use Rattle.tc_fixed.specs.Standing.{Stands}
use Rattle.tc_fixeddb.specs.declared.holding.FixedEngine.{FixedEngine}
use Rattle.tc_fixeddb.specs.Holding.{HoldsIds, Reopens}
use Rattle.tc_fixeddb.specs.Lifting.{held_again, means_of}

-- the file has the size that its head says: it is cut to the end of the cell of the greatest id
long_of : {S : Type 0} (f : Fixed S) (old bytes : List ℕ) (m : Array) → holds f old m → Stands bytes (width_of f) (max_id_of f) m → bytes ≡ settled f old → length bytes - (fixed_in (take 256 bytes)).size ≡ 0
long_of f old bytes m held stood is =
    let head = stood.by.head in
    let size : stood.head.size ≡ end_of f.width f.tally.greatest = head.numbers.size_is ∙ (λ i. end_of (sym stood.width_is i) ((stood.by.ends.greatest ∙ sym held.counts.greatest) i)) in
    omega (arith, ap length is, length-take (end_of f.width f.tally.greatest) (wrote 0 (fixed_spelled (head_of f.width f.limit f.tally)) old), size, ap (λ (h : FixedHead). h.size) head.spells.fields)

module _ {S : Type 0} (s : Ghosts S) where
  -- what is settled ends where its head says
  pub trims_up : (e : FixedEngine S) (a b : S) → (s.tells → Changes s.now 0 (settled e.fixed (s.now a 0)) a b) → ((m : Array) → Means s e.fixed a m → Stands (s.now b 0) (width_of e.fixed) (max_id_of e.fixed) m) → (c : Contents) → Held s HoldsIds e a c → IsTrimmed (layout_of (s.now a)) (layout_of (s.now b))
  trims_up e a b wrote stands c h = record {
    numbers = no_numbers (s.now a) (s.now b);
    none = long_of e.fixed (s.now a 0) (s.now b 0) h.1.ids h.1.holds_them (stands h.1.ids (means_of s e a c h)) (wrote h.0).here;
  }

  pub settled_up : (e e' : FixedEngine S) (a b : S) → Writes s (Only 0) (Means s) same e.fixed e'.fixed a b → ((m : Array) → Means s e.fixed a m → Stands (s.now b 0) (width_of e.fixed) (max_id_of e.fixed) m) → SameShape e.fixed e'.fixed → (c : Contents) → Held s HoldsIds e a c → Held s HoldsIds e' b c × Reopens (s.now b) c
  settled_up e e' a b writes stands shape c h = (
    subst (λ d. Held s HoldsIds e' b d) (sym h.1.is) (held_again s e e' b h.1.ids shape (writes.means h.1.ids (means_of s e a c h))),
    inr (record { width = width_of e.fixed; most = max_id_of e.fixed; ids = h.1.ids; is = h.1.is; stands = stands h.1.ids (means_of s e a c h) }),
  )
