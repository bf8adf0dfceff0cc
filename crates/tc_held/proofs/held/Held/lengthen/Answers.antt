use Rattle.std.proofs.Common.{◌+◌, ◌-◌, List, [], length, set, refl, sym, ap, ◌∙◌, arith}
use Rattle.std.proofs.lemmas.List.{take_all}
use Rattle.tc_undo.specs.declared.piece.Piece.{Piece}
use Rattle.tc_held.proofs.Taking.{all_set, takes_as, takes_end, takes_none}
use Rattle.tc_held.proofs.held.Held.lengthen.Goals as goal

pub returns-then-not-has_bytes-clause-takes : goal.returns-then-not-has_bytes-clause-takes
returns-then-not-has_bytes-clause-takes c = takes_none c.args.file c.args.at c.args.self.now.bytes.items c.args.self.now.pieces.items c.requires.tidy

pub returns-in_default-clause-takes : goal.returns-in_default-clause-takes
returns-in_default-clause-takes c =
    let old = c.args.self.now in
    takes_as c.args.file c.args.at [] [] old.bytes.items old.bytes.items _ old.pieces.items old.pieces.items old.pieces.items refl c.in_default.ensures.items refl
    (takes_none c.args.file c.args.at old.bytes.items old.pieces.items c.requires.tidy)

pub set_at-requires : goal.set_at-requires
set_at-requires c = omega (arith, c.requires.ends.is.inside, c.requires.ends.front, ap (λ (l : List Piece). length l) c.deref_mut.ensures.value)

pub returns-clause-takes : goal.returns-clause-takes
returns-clause-takes c =
    let old = c.args.self.now in
    let x = c.args.data.now in
    let p = c.args.piece in
    let q : Piece = record { file = p.file; at = p.at; from = p.from; size = p.size + length x } in
    let long = c.set_at.auto.pieces ∙ ap (λ (l : List Piece). length l) c.deref_mut.ensures.value in
    let made = all_set old.pieces.len old.pieces.items c.set_at.new.pieces long (old.pieces.ok.0 ∙ sym long) ∙ c.set_at.ensures ∙ ap (λ (l : List Piece). set l (c.args.i - 1) q) c.deref_mut.ensures.value in
    takes_as c.args.file c.args.at x _ old.bytes.items _ _ old.pieces.items _ _ (take_all (length x) x (omega arith)) c.in-Ok.ensures.items made
    (takes_end c.args.file c.args.at x old.bytes.items old.pieces.items c.args.i p c.requires.tidy c.requires.ends c.requires.small (c.has_bytes.ensures c.if-not-has_bytes.false) c.requires.next)
