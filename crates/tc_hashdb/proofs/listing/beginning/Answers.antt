use Rattle.std.proofs.Common.{◌∙◌, length, ap}
use Rattle.std.specs.Prelude.{nat_eq}
use Rattle.std.specs.List.{starts_with}
use Rattle.std.proofs.lemmas.Iterator.Adapters.{YieldsList-from_vec}
use Rattle.std.proofs.lemmas.Iterator.Consumers.{YieldsList-end, YieldsList-so_far}
use Rattle.tc_hashdb.proofs.Listed.{all_found, stops}
use Rattle.tc_hashdb.proofs.listing.beginning.Goals as goal

pub returns-then-not-has_room : goal.returns-then-not-has_room
returns-then-not-has_room c =
    let gives = c.into_iter-text-iterator.ensures.into_iter_gives in
    let road = YieldsList-from_vec {s = c.into_iter-text-iterator.result} c.args.texts (gives.0 ∙ c.into_vec-text-items.ensures) (gives.1 ∙ (c.into_vec-text-items.result.ok.0 ∙ ap length c.into_vec-text-items.ensures)) in
    let front = YieldsList-so_far road c.loop-text.yielded c.loop-text.text-iterator c.loop-text.yielded_by in
    stops (λ k. starts_with nat_eq k c.args.prefix.now) c.args.texts c.loop-text.yielded c.args.most c.loop-text.found c.len.result c.has_room.result front c.loop-text.invariant.found c.loop-text.invariant.fits c.len.ensures c.has_room.ensures c.if-not-has_room.true

pub returns : goal.returns
returns c =
    let gives = c.into_iter-text-iterator.ensures.into_iter_gives in
    let road = YieldsList-from_vec {s = c.into_iter-text-iterator.result} c.args.texts (gives.0 ∙ c.into_vec-text-items.ensures) (gives.1 ∙ (c.into_vec-text-items.result.ok.0 ∙ ap length c.into_vec-text-items.ensures)) in
    let end = YieldsList-end road c.loop-text.yielded c.loop-text.text-iterator c.loop-text.yielded_by c.next.result c.next.new.self c.in-None.is c.next.ensures.steps in
    all_found (λ k. starts_with nat_eq k c.args.prefix.now) c.args.texts c.loop-text.yielded c.args.most c.loop-text.found end.0 c.loop-text.invariant.found c.loop-text.invariant.fits
