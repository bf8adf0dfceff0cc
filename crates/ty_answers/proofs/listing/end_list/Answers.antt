use Rattle.std.proofs.Common.{◌+◌, arith, subst, sym}
use Rattle.ty_wire.specs.Prefixes.{IsPrefix}
use Rattle.ty_answers.proofs.RowReplies.{front_written}
use Rattle.ty_answers.proofs.listing.end_list.Goals as goal

pub returns-clause-front : goal.returns-clause-front
returns-clause-front c front len p = subst (IsPrefix front) (sym c.with_count.ensures)
    (front_written front c.replace-bytes.result _ (c.args.begin + 1) (omega (arith, len)) (subst (IsPrefix front) (sym c.replace-bytes.ensures.value) (c.in_ok-give_back.ensures.front front len p)))
