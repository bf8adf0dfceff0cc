use Rattle.std.proofs.Common.{◌∙◌}
use Rattle.tc_plain.proofs.Taking.{next_is}
use Rattle.tc_plain.proofs.apply.next_key.Goals as goal

pub returns : goal.returns
returns c =
    next_is c.args.c.now _ c.args.walk.now c.in-Some.keys.now c.in-Some-2.place c.in_ok-from_slice.field-0 _ c.in-Some.ensures c.c.view_is (rw c.in-Some-2.is at c.in_ok-place.ensures)
    (c.in_ok-from_slice.ensures ∙ c.as_slice.ensures ∙ c.index-keys-place.is)
