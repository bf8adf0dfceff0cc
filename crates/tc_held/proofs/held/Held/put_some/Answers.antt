use Rattle.std.proofs.Common.{◌≡◌, ◌+◌, length, take, sym, ◌∙◌, subst, arith, length-take}
use Rattle.tc_held.specs.Pieces.{BeginsBehind, NextIs}
use Rattle.tc_held.proofs.Ascending.{begins_next, covers_next, next_is, next_none}
use Rattle.tc_held.proofs.held.Held.put_some.Goals as goal

pub add-requires-clause-next : goal.add-requires-clause-next
add-requires-clause-next c = next_none (BeginsBehind c.args.file (c.args.at + length c.args.data.now)) c.args.self.now.pieces.items c.find-i.result c.in_default.ensures

pub change-requires-clause-covers : goal.change-requires-clause-covers
change-requires-clause-covers c =
    let yes = c.begins_before.ensures.before c.if-begins_before.true in
    covers_next c.args.file c.args.at c.args.self.now.pieces.items c.find-i.result _ c.find-i.ensures c.in-Some.ensures yes.0 yes.1

pub gap-n-requires : goal.gap-n-requires
gap-n-requires c = begins_next c.args.file c.args.at c.args.self.now.pieces.items c.find-i.result _ c.find-i.ensures c.in-Some.ensures (c.begins_before.ensures.behind c.if-begins_before.false)

pub add-requires-2-clause-next : goal.add-requires-2-clause-next
add-requires-2-clause-next c =
    let long : length (take c.gap-n.result c.args.data.now) ≡ c.gap-n.result = length-take c.gap-n.result c.args.data.now ∙ omega (arith, c.gap-n.ensures.most) in
    subst (λ k. NextIs (BeginsBehind c.args.file (c.args.at + k)) c.args.self.now.pieces.items c.find-i.result) (sym long)
    (next_is (BeginsBehind c.args.file (c.args.at + c.gap-n.result)) c.args.self.now.pieces.items c.find-i.result _ c.in-Some.ensures c.gap-n.ensures.behind)

pub add-requires-2-clause-some : goal.add-requires-2-clause-some
add-requires-2-clause-some c = omega (arith, c.requires.some, c.gap-n.ensures.some, c.gap-n.ensures.most, length-take c.gap-n.result c.args.data.now)
