use Rattle.std.proofs.Common.{List, ℕ, sym, subst}
use Rattle.hf_head.specs.FixedHeads.{SpellsFixed}
use Rattle.hf_head.proofs.Written.{fixed_written, fixed_spells}
use Rattle.hf_head.proofs.fixed.FixedHead.write.Goals as goal

pub returns-clause-bytes : goal.returns-clause-bytes
returns-clause-bytes c = fixed_written c.args.self.now _ _ _ _ _ _ _ c.copy_from_slice.ensures.after c.put_number.ensures.after c.put_number-2.ensures.after c.put_width.ensures.after c.put_number-3.ensures.after c.put_number-4.ensures.after c.put_number-5.ensures.after

pub returns-clause-spells : goal.returns-clause-spells
returns-clause-spells c =
    subst (λ (l : List ℕ). SpellsFixed c.args.self.now l) (sym (returns-clause-bytes c))
    (fixed_spells c.args.self.now c.put_number.ensures.read_back c.put_number-2.ensures.read_back c.put_width.ensures.read_back c.put_number-3.ensures.read_back c.put_number-4.ensures.read_back c.put_number-5.ensures.read_back)
