use Rattle.std.proofs.lemmas.List.Elements.{All-same}
use Rattle.bt_slots.specs.Marks.{IsMark}
use Rattle.bt_cache.proofs.marking.Marks.value.Goals as goal

pub mark_each-requires-clause-last : goal.mark_each-requires-clause-last
mark_each-requires-clause-last c =
    let l = c.args.leaf.now in
    let kept = c.keep_of.ensures l c.requires.marks in
    c.near-self.ensures l kept.last (All-same (IsMark l) _ _ c.as_slice.ensures.value kept.each)

pub mark_each-requires-clause-each : goal.mark_each-requires-clause-each
mark_each-requires-clause-each c = (c.keep_of.ensures c.args.leaf.now c.requires.marks).each
