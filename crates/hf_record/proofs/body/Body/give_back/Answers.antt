use Rattle.std.proofs.Common.{◌∙◌, ℕ, List, length, ap, arith}
use Rattle.hf_block.specs.Heads.{free_head}
use Rattle.tc_reach.proofs.Handed.{err_handed}
use Rattle.hf_record.proofs.Differ.{edits_wrote}
use Rattle.hf_record.proofs.Room.{given_ends, head_long, not_past}
use Rattle.hf_record.proofs.Spared.{length_over}
use Rattle.hf_record.proofs.Valid.{is_data}
use Rattle.hf_record.proofs.body.Body.give_back.Goals as goal

pub returns-clause-given : goal.returns-clause-given
returns-clause-given g c =
    let self = c.args.self.now in
    let bytes : List ℕ = g.S.Space.now c.args.space.now self.file in
    let (start, total, joins, changes) = c.in_ok-give.ensures.given in
    let ends = λ (t : g.S.Space.tells). given_ends self.pool c.give.new.self c.args.at c.args.size start total (length bytes) (c.requires.within t) joins in
    record {
      given = record { start = start; total = total; back = joins; marked_so = λ t. (changes t).here };
      back = c.in_ok-give.ensures.back;
      same_size = c.in_ok-give.ensures.stays.1;
      edits = edits_wrote g.S.Space self.file start 5 (free_head total) c.args.space.now c.give.new.space (λ t. omega (arith, ends t)) (omega (arith, head_long total)) changes;
      notes = c.give.ensures.stays.0;
      long = λ t. ap length (changes t).here ∙ length_over start (free_head total) bytes (omega (arith, ends t, head_long total));
    }

pub returns-in_err-give-clause-full : goal.returns-in_err-give-clause-full
returns-in_err-give-clause-full g c = λ full t.
    let self = c.args.self.now in
    let p = c.in_err-give.ensures.full (err_handed c.from_residual.result c.in_err-give.field-0.0 _ c.from_residual.ensures.1 full) in
    let e = given_ends self.pool c.give.new.self c.args.at c.args.size p.0 p.1 (length (g.S.Space.now c.args.space.now self.file)) (c.requires.within t) p.2 in
    not_past g.S.Space g.met.S.Space.within self.file p.0 5 c.args.space.now c.give.new.space t c.requires.sound (is_data self.file self.data) (omega (arith, e)) p.3
