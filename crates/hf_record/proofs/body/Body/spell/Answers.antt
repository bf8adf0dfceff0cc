use Rattle.std.proofs.Common.{rules, ◌≡◌, ◌∙◌, ℕ, ◌^◌, ◌≤◌, List, length, ap, arith}
use Rattle.hf_head.specs.Heads.{unit}
use Rattle.hf_block.specs.Pieces.{held, spell}
use Rattle.hf_block.specs.Written.{block_len}
use Rattle.hf_tree.specs.Links.{width}
use Rattle.hf_record.specs.Changing.{record_in}
use Rattle.hf_record.proofs.Valid.{is_valid}
use Rattle.hf_record.proofs.Bytes.{its_bytes, written_long, written_whole}
use Rattle.hf_record.proofs.body.Body.spell.Goals as goal

pub returns-clause-bytes : goal.returns-clause-bytes
returns-clause-bytes c =
    let h = c.args.self.now.head in
    let key : List ℕ = c.args.key.now in
    let value : List ℕ = c.args.value.now in
    let p = c.in-Some.ensures.some in
    let few : block_len (width h) key value (unit h) ≤ 2 ^ 30 = omega (arith, p.0, p.1) in
    let long = written_long (width h) c.args.hash c.args.left c.args.right key value (unit h) in
    let is : c.write_rec.new.into ≡ spell (held (record_in h c.args.hash c.args.left c.args.right key value)) = its_bytes h c.is_large.result c.unit.result c.args.hash c.args.left c.args.right key value c.from_vec-bytes.result c.write_rec.new.into c.is_large.ensures c.unit.ensures (c.from_vec-bytes.ensures ∙ search rules) c.in_ok-write_rec.ensures.ok in
    record {
      is = is;
      whole = written_whole h c.args.hash c.args.left c.args.right key value (is_valid c.args.self.now.head c.args.self.now.valid) (omega arith) c.requires.left c.requires.right few;
      long = ap length is ∙ long;
      most = omega (arith, ap length is, long, few);
    }
