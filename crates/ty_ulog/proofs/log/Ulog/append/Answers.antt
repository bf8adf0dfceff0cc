use Rattle.std.proofs.Common.{◌++◌, ◌∙◌, ℕ, List, length, ap, refl}
use Rattle.tc_reach.proofs.Handed.{err_handed}
use Rattle.ty_ulog.specs.Records.{record_bytes}
use Rattle.ty_ulog.proofs.Noting.{end_lacks, noted_one, refused_kept}
use Rattle.ty_ulog.proofs.log.Ulog.append.Goals as goal

pub returns-in_err-add-clause-refused : goal.returns-in_err-add-clause-refused
returns-in_err-add-clause-refused g c = refused_kept g.S.Space _ c.args.self.now c.add.new.self c.args.space.now c.in_err-add.ensures.err c.requires.sound

pub returns-in_err-write_end-clause-full : goal.returns-in_err-write_end-clause-full
returns-in_err-write_end-clause-full g c = λ e.
    let bytes = c.as_slice.ensures ∙ c.in_ok-put_record.ensures.ok ∙ ap (λ (l : List ℕ). l ++ record_bytes c.args.r.now) c.new-bytes.ensures in
    end_lacks g.S.Space c.args.space.now _ c.len-end.result _ _ c.len-end.ensures (ap (λ (l : List ℕ). length l) bytes)
    (c.in_err-write_end.ensures.full (err_handed c.from_residual-in_err-write_end.result c.in_err-write_end.field-0.0 _ c.from_residual-in_err-write_end.ensures.1 e))

pub returns-clause-notes : goal.returns-clause-notes
returns-clause-notes g c =
    let bytes = c.as_slice.ensures ∙ c.in_ok-put_record.ensures.ok ∙ ap (λ (l : List ℕ). l ++ record_bytes c.args.r.now) c.new-bytes.ensures in
    noted_one g.S.Space c.args.self.now _ c.args.space.now _ c.args.r.now c.requires.next c.len-end.result c.len-end.ensures c.in_ok-add.ensures.marked refl
    (λ t. c.in_ok-write_end.ensures.wrote t ∙ ap (λ (l : List ℕ). g.S.Space.now c.args.space.now 2 ++ l) bytes) c.in_ok-write_end.ensures.others c.in_ok-write_end.ensures.outcome.ok
