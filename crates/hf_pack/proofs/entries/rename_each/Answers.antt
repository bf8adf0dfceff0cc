use Rattle.std.proofs.Common.{refl, ◌≡◌, ◌∙◌, ◌*◌, ℕ, ap, arith}
use Rattle.tc_base.specs.Endian.{field, le_number}
use Rattle.hf_pack.specs.Moving.{renamed_by}
use Rattle.hf_pack.proofs.Numbers.{entries_more, entries_none, entry_was, fit_more}
use Rattle.hf_pack.proofs.entries.rename_each.Goals as goal

pub loop-i-init : goal.loop-i-init
loop-i-init c = record {
  so = entries_none (renamed_by c.args.unit c.args.targets.now) c.args.width c.args.entries.now;
  fit = λ d low. absurd (omega (arith, low));
  long = refl;
}

pub loop-i-preserved : goal.loop-i-preserved
loop-i-preserved c =
    let f : ℕ → ℕ = renamed_by c.args.unit c.args.targets.now in
    let v = c.loop-i.invariant in
    let is : c.rename.result ≡ f (le_number (field (c.args.width * c.loop-i.i) c.args.width c.loop-i.entries)) = c.rename.ensures.value ∙ ap f c.get_le-n.ensures.value in
    record {
      so = entries_more f c.args.width c.loop-i.i c.rename.result c.args.entries.now c.loop-i.entries c.set_le.new.bytes v.so is c.set_le.ensures.after;
      fit = fit_more f c.args.width c.loop-i.i c.rename.result c.args.entries.now v.fit (entry_was f c.args.width c.loop-i.i c.rename.result c.args.entries.now c.loop-i.entries v.so is) (omega (arith, c.rename.ensures.low, c.get_le-n.ensures.fits));
      long = omega (arith, v.long, c.set_le.auto.bytes);
    }
