use Rattle.std.proofs.Common.{◌≡◌, ◌∙◌, length}
use Rattle.tc_base.specs.Endian.{le_bytes}
use Rattle.tc_base.specs.Files.{wrote}
use Rattle.tc_fixed.specs.Cells.{blank, size_len}
use Rattle.tc_fixed.proofs.Celled.{spelled_is}
use Rattle.tc_fixed.proofs.cells.fill.Goals as goal

pub returns : goal.returns
returns c =
    let n = size_len c.args.width in
    let first : c.set_le.new.bytes ≡ wrote 0 (le_bytes n (length c.args.value.now)) (blank c.args.width) = c.set_le.ensures.after ∙ (λ i. wrote 0 (le_bytes (c.size_len.ensures.value i) (length c.args.value.now)) (c.requires.blank i)) in
    c.put_at.ensures ∙ (λ i. wrote (c.size_len-2.ensures.value i) (c.marked.ensures i) (first i)) ∙ spelled_is c.args.width c.args.value.now c.requires.some c.requires.fits
