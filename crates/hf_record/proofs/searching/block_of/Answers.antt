use Rattle.std.proofs.Common.{◌∙◌, ◌+◌, ◌-◌, ◌^◌, ℕ, min, ap}
use Rattle.hf_record.proofs.Values.{block_is}
use Rattle.hf_record.proofs.searching.block_of.Goals as goal

pub returns : goal.returns
returns c = λ h at bytes head. block_is h at bytes c.args.rec.now _ _ _ c.saturating_add-bytes.ensures c.saturating_add.ensures (c.saturating_add-2.ensures ∙ ap (λ (n : ℕ). min (c.saturating_add.result + n) (2 ^ 64 - 1)) c.from.ensures) head
