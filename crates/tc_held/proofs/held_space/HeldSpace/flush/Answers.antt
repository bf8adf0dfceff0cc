use Rattle.std.proofs.Common.{◌≡◌, ℕ, List, All, ap, refl, sym, ◌∙◌, arith}
use Rattle.tc_undo.specs.Pieces.{Fits, Reached, laid, needs_all}
use Rattle.tc_undo.specs.declared.piece.Piece.{Piece}
use Rattle.tc_held.specs.Lengths.{over_bare}
use Rattle.tc_held.proofs.Holding.{all_fit, all_reached, carried, held_bare, needs_most, tidy_bare}
use Rattle.tc_held.proofs.held_space.HeldSpace.flush.Goals as goal

pub write_all-requires-clause-fits : goal.write_all-requires-clause-fits
write_all-requires-clause-fits g c =
    let old = c.args.self.now in
    carried (λ (b : List ℕ) (p : List Piece). All (Fits (g.S.Space.limit old.below) b) p) _ _ _ _ c.bytes.ensures c.pieces.ensures (all_fit g.S.Space g.S.Batched.logged old.below old.held c.requires.held)

pub write_all-requires-clause-reached : goal.write_all-requires-clause-reached
write_all-requires-clause-reached g c = λ t.
    let old = c.args.self.now in
    carried (λ (b : List ℕ) (p : List Piece). Reached b p (g.S.Space.now old.below)) _ _ _ _ c.bytes.ensures c.pieces.ensures (all_reached g.S.Space g.S.Batched.logged old.below old.held c.requires.held t)

pub write_all-requires-clause-room : goal.write_all-requires-clause-room
write_all-requires-clause-room g c = omega (arith, c.requires.held.room, ap needs_all c.pieces.ensures)

pub returns-then-is_empty-clause-now : goal.returns-then-is_empty-clause-now
returns-then-is_empty-clause-now g c = λ t f. sym (over_bare c.args.self.now.held (g.S.Space.now c.args.self.now.below) (c.is_empty.ensures.none c.if-is_empty.true) f)

pub returns-clause-held : goal.returns-clause-held
returns-clause-held g c =
    let old = c.args.self.now in
    held_bare g.S.Space g.S.Batched.logged c.write_all.new.self c.clear.new.self (tidy_bare c.clear.new.self c.clear.ensures.0 c.clear.ensures.1) c.clear.ensures.0
    (g.met.S.Batched.low c.write_all.new.self c.in_ok-write_all.ensures.outcome.ok)

pub returns-clause-now : goal.returns-clause-now
returns-clause-now g c = λ t f.
    c.in_ok-write_all.ensures.wrote t f
    ∙ carried (λ (b : List ℕ) (p : List Piece). laid b p f (g.S.Space.now c.args.self.now.below f) ≡ laid c.args.self.now.held.bytes.items c.args.self.now.held.pieces.items f (g.S.Space.now c.args.self.now.below f)) _ _ _ _ c.bytes.ensures c.pieces.ensures refl

pub returns-clause-logged : goal.returns-clause-logged
returns-clause-logged g c =
    let old = c.args.self.now in
    omega (arith, c.in_ok-write_all.ensures.logged, ap needs_all c.pieces.ensures, needs_most g.S.Space g.S.Batched.logged old.below old.held c.requires.held)
