use Rattle.std.proofs.Common.{◌∙◌}
use Rattle.ty_answers.proofs.NextKeys.{says_key}
use Rattle.ty_answers.proofs.walks.say_next.Goals as goal

pub returns-clause-says : goal.returns-clause-says
returns-clause-says g c =
    let place = rw c.in-Some-2.is at c.in_ok-place.ensures.place in
    λ k h. says_key k c.args.walk.now c.in-Some.keys.now c.in-Some-2.place c.as_slice.result.now c.index-keys-place.result c.in_ok-say_value.field-0 c.args.reply.now c.say_value.new.reply c.in-Some.ensures (place k h) (c.as_slice.ensures ∙ c.index-keys-place.is) c.in_ok-say_value.ensures.ok c.if-not-branch.false
