use Rattle.std.proofs.Common.{◌≡◌, ℕ, ◌-◌, ◌<◌, ◌≤◌, min, List, ◌++◌, length, ◌∙◌, ap, sym, inr, arith}
use Rattle.tc_base.specs.Files.{wrote}
use Rattle.tc_io.proofs.Writes.{wrote_in_parts, all_written}
use Rattle.tc_realfs.proofs.pages.put_over.Goals as goal

pub returns : goal.returns
returns c =
    let len : c.len-len.result ≡ length c.args.into.now.items = c.len-len.ensures ∙ c.args.into.now.ok.0 in
    let some : 0 < length c.args.into.now.items = omega (arith, len, c.if-len-eq0.false) in
    let near : c.args.at ≤ length c.args.into.now.items = omega (arith, len, c.if-len-at.false) in
    let place : c.args.at ≡ min c.args.at (length c.args.into.now.items) = omega (arith, near) in
    let part : c.min.result ≡ min (length c.args.bytes.now) (length c.args.into.now.items - c.args.at) = c.min.ensures ∙ ap (λ n. min (length c.args.bytes.now) (n - c.args.at)) len in
    let bytes : c.deref_mut.result.now ≡ c.args.into.now.items ++ c.split_at.result.1.now = c.deref_mut.ensures.value ∙ c.in-Ok.ensures.items in
    let long : length c.put_at.new.into ≡ length c.extend_from_slice.new.self.items = c.put_at.auto.into ∙ ap length c.deref_mut.ensures.value in
    inr (
      some,
      near,
      all_written c.extend_from_slice.new.self.len c.extend_from_slice.new.self.items c.put_at.new.into long (c.extend_from_slice.new.self.ok.0 ∙ sym long)
          ∙ c.put_at.ensures
          ∙ ap (λ (l : List ℕ). wrote c.args.at c.split_at.result.0.now l) bytes
          ∙ wrote_in_parts c.args.at c.args.at c.min.result c.args.bytes.now c.args.into.now.items c.split_at.result.0.now c.split_at.result.1.now place part c.split_at.ensures.front c.split_at.ensures.back,
    )
