use Rattle.std.proofs.Common.{◌≡◌, ℕ, ◌-◌, ◌≤◌, min, List, ◌++◌, take, length, ◌∙◌, ap, sym, arith}
use Rattle.tc_base.specs.Files.{wrote}
use Rattle.tc_fakes.specs.Chosen.{torn_over}
use Rattle.tc_io.proofs.Writes.{all_written}
use Rattle.tc_fakes.proofs.TornWrites.{torn_in_parts, torn_beyond}
use Rattle.tc_fakes.proofs.file_bytes.FileBytes.tear.Goals as goal

pub returns-then-len-at-clause-ok : goal.returns-then-len-at-clause-ok
returns-then-len-at-clause-ok c =
    let len : c.len-len.result ≡ length c.args.self.now = c.len-len.ensures ∙ c.self.inside.bytes.ok.0 ∙ ap length c.self.view_is in
    sym (torn_beyond c.args.choice.now c.args.at c.args.bytes.now c.args.self.now (omega (arith, len, c.if-len-at.true)))

pub returns-clause-ok : goal.returns-clause-ok
returns-clause-ok c =
    let over = c.split_at.result.0.now in
    let more = c.split_at.result.1.now in
    let len : c.len-len.result ≡ length c.args.self.now = c.len-len.ensures ∙ c.self.inside.bytes.ok.0 ∙ ap length c.self.view_is in
    let fits : c.args.at ≤ length c.args.self.now = omega (arith, len, c.if-len-at.false) in
    let part : c.min.result ≡ min (length c.args.bytes.now) (length c.args.self.now - c.args.at) = c.min.ensures ∙ ap (λ n. min (length c.args.bytes.now) (n - c.args.at)) len in
    let bytes : c.deref_mut.result.now ≡ c.args.self.now ++ take c.min-keep.result more = c.deref_mut.ensures.value ∙ c.in_ok-extend_from_slice.ensures.items ∙ ap (λ (l : List ℕ). l ++ take c.min-keep.result more) c.self.view_is in
    let long : length c.tear_at.new.into ≡ length c.extend_from_slice.new.self.items = c.tear_at.auto.into ∙ ap length c.deref_mut.ensures.value in
    all_written c.extend_from_slice.new.self.len c.extend_from_slice.new.self.items c.tear_at.new.into long (c.extend_from_slice.new.self.ok.0 ∙ sym long)
    ∙ c.tear_at.ensures
    ∙ ap (λ (l : List ℕ). wrote c.args.at (torn_over c.args.choice.now over) l) bytes
    ∙ torn_in_parts c.args.choice.now c.args.at c.min.result c.min-keep.result c.args.bytes.now c.args.self.now over more fits part c.split_at.ensures.front c.split_at.ensures.back c.min-keep.ensures
