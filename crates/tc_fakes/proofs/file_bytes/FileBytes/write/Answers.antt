use Rattle.std.proofs.Common.{◌≡◌, ℕ, ◌-◌, min, List, ◌++◌, length, ◌∙◌, ap, sym}
use Rattle.tc_base.specs.Files.{wrote}
use Rattle.tc_io.proofs.Writes.{wrote_in_parts, all_written}
use Rattle.tc_fakes.proofs.file_bytes.FileBytes.write.Goals as goal

pub returns-clause-ok : goal.returns-clause-ok
returns-clause-ok c =
    let over = c.split_at.result.0.now in
    let more = c.split_at.result.1.now in
    let len : c.len-len.result ≡ length c.args.self.now = c.len-len.ensures ∙ c.self.inside.bytes.ok.0 ∙ ap length c.self.view_is in
    let place : c.min-at.result ≡ min c.args.at (length c.args.self.now) = c.min-at.ensures ∙ ap (λ n. min c.args.at n) len in
    let part : c.min.result ≡ min (length c.args.bytes.now) (length c.args.self.now - c.min-at.result) = c.min.ensures ∙ ap (λ n. min (length c.args.bytes.now) (n - c.min-at.result)) len in
    let bytes : c.deref_mut.result.now ≡ c.args.self.now ++ more = c.deref_mut.ensures.value ∙ c.in_ok-extend_from_slice.ensures.items ∙ ap (λ (l : List ℕ). l ++ more) c.self.view_is in
    let long : length c.put_at.new.into ≡ length c.extend_from_slice.new.self.items = c.put_at.auto.into ∙ ap length c.deref_mut.ensures.value in
    all_written c.extend_from_slice.new.self.len c.extend_from_slice.new.self.items c.put_at.new.into long (c.extend_from_slice.new.self.ok.0 ∙ sym long)
    ∙ c.put_at.ensures
    ∙ ap (λ (l : List ℕ). wrote c.min-at.result over l) bytes
    ∙ wrote_in_parts c.args.at c.min-at.result c.min.result c.args.bytes.now c.args.self.now over more place part c.split_at.ensures.front c.split_at.ensures.back
