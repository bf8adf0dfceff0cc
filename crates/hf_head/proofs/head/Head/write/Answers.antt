use Rattle.std.proofs.Common.{◌≡◌, ◌∙◌, List, ℕ, length, drop, sym, ap, subst, arith, length-drop}
use Rattle.std.proofs.lemmas.List.{length-take-le}
use Rattle.hf_head.specs.Heads.{Spells}
use Rattle.hf_head.proofs.Written.{written, spells}
use Rattle.hf_head.proofs.head.Head.write.Goals as goal

pub returns-clause-bytes : goal.returns-clause-bytes
returns-clause-bytes c = written c.args.self.now _ _ _ _ _ _ c.copy_from_slice.ensures.after c.put_number.ensures.after c.put_number-2.ensures.after c.put_number-3.ensures.after c.put_number-4.ensures.after c.copy_from_slice-2.ensures.after

pub returns-clause-spells : goal.returns-clause-spells
returns-clause-spells c =
    let rest : List ℕ = drop 128 c.put_number-4.new.bytes in
    let long : length c.args.self.now.opaque ≡ 128 =
    ap length (sym c.copy_from_slice-2.ensures.after) ∙ c.copy_from_slice-2.ensures.len
    ∙ length-take-le 128 rest (omega (arith, length-drop 128 c.put_number-4.new.bytes, c.put_number-4.array_long)) in
    let s = spells c.args.self.now long c.put_number.ensures.read_back c.put_number-2.ensures.read_back c.put_number-3.ensures.read_back c.put_number-4.ensures.read_back in
    subst (λ (l : List ℕ). Spells c.args.self.now l) (sym (returns-clause-bytes c)) s
