use Rattle.std.proofs.Common.{◌++◌, ◌∙◌, ℕ, List, length, ap, arith}
use Rattle.ty_ulog.specs.Records.{record_bytes}
use Rattle.ty_ulog.proofs.Asking.{is_noted}
use Rattle.ty_ulog.proofs.Sole.{updating_short}
use Rattle.ty_ulog.proofs.log.Ulog.note.Goals as goal

pub put_seen-requires : goal.put_seen-requires
put_seen-requires c = record { stamp = omega arith; before = omega arith; server = omega arith; master = omega arith; request = omega (arith, updating_short _ c.requires, ap (λ (l : List ℕ). length l) c.as_slice.ensures) }

pub returns-clause-noted : goal.returns-clause-noted
returns-clause-noted c =
    let u = c.args.self.now in
    let own = c.args.own in
    is_noted u own c.args.now _ c.max-stamp.result c.args.request.now _ _ (omega arith) (omega arith) (omega arith) (omega arith) c.max-stamp.ensures c.requires
    (c.in_ok-put_seen.ensures.ok ∙ ap (λ (l : List ℕ). c.args.bytes.now ++ record_bytes (record { stamp = c.max-stamp.result; before = u.last; server = own; master = own; request = l })) c.as_slice.ensures)

pub returns-in_default-clause-full : goal.returns-in_default-clause-full
returns-in_default-clause-full c = λ e. omega arith
