use Rattle.std.proofs.Common.{◌≡◌, ◌++◌, ◌∷◌, [], length, take, drop, refl, subst, arith}
use Rattle.std.proofs.lemmas.List.{take_all}
use Rattle.tc_held.specs.Held.{TakesAll}
use Rattle.tc_held.proofs.Taking.{takes_as, takes_at, takes_longer, takes_none}
use Rattle.tc_held.proofs.held.Held.insert.Goals as goal

pub returns-then-not-has_place-clause-takes : goal.returns-then-not-has_place-clause-takes
returns-then-not-has_place-clause-takes c = takes_none c.args.file c.args.at c.args.self.now.bytes.items c.args.self.now.pieces.items c.requires.tidy

pub returns-in_default-clause-takes : goal.returns-in_default-clause-takes
returns-in_default-clause-takes c =
    let old = c.args.self.now in
    takes_as c.args.file c.args.at [] [] old.bytes.items old.bytes.items _ old.pieces.items old.pieces.items old.pieces.items refl c.in_default.ensures.items refl
    (takes_none c.args.file c.args.at old.bytes.items old.pieces.items c.requires.tidy)

pub returns-in_default-insert-clause-takes : goal.returns-in_default-insert-clause-takes
returns-in_default-insert-clause-takes c =
    let old = c.args.self.now in
    let x = c.args.data.now in
    takes_as c.args.file c.args.at [] [] old.bytes.items (old.bytes.items ++ x) _ old.pieces.items old.pieces.items _ refl c.in-Ok.ensures.items c.in_default-insert.ensures.items
    (takes_longer c.args.file c.args.at old.bytes.items x old.pieces.items c.requires.tidy (c.has_place.ensures c.if-not-has_place.false))

pub returns-clause-takes : goal.returns-clause-takes
returns-clause-takes c =
    let old = c.args.self.now in
    let x = c.args.data.now in
    let i = c.args.i in
    let long : length old.bytes.items ≡ c.len.result = omega (arith, c.len.ensures, old.bytes.ok.0) in
    takes_as c.args.file c.args.at x _ old.bytes.items _ _ old.pieces.items _ _ (take_all (length x) x (omega arith)) c.in-Ok.ensures.items c.in-Ok-insert.ensures.items
    (subst (λ k. TakesAll c.args.file c.args.at x old.bytes.items old.pieces.items (old.bytes.items ++ x) (take i old.pieces.items ++ record { file = c.args.file; at = c.args.at; from = k; size = length x } ∷ drop i old.pieces.items)) long
    (takes_at c.args.file c.args.at x old.bytes.items old.pieces.items i c.requires.tidy c.requires.file c.requires.some c.requires.small (c.has_place.ensures c.if-not-has_place.false) c.requires.parts c.requires.next))
