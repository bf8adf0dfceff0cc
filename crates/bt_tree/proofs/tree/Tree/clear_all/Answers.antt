use Rattle.std.proofs.Common.{ap, refl, inr}
use Rattle.tc_space.specs.Frames.{reads_refl}
use Rattle.bt_page.proofs.Runs.{err_handed, on_err_any}
use Rattle.bt_rows.specs.declared.head.TreeHead.{TreeHead}
use Rattle.bt_tree.specs.Meaning.{Means}
use Rattle.bt_tree.proofs.Clears.{clear_shown, clears, clears_anew, lacks_lone, leaf_ready, unstripped}
use Rattle.bt_tree.proofs.Descents.{err_on}
use Rattle.bt_tree.proofs.Inserts.{given_up}
use Rattle.bt_tree.proofs.tree.Tree.clear_all.Goals as goal

pub strip-requires : goal.strip-requires
strip-requires g c = clear_shown g.R.S.Space g.R.Records g.O.Order c.args.self.now c.args.self.now c.args.space.now c.args.space.now c.requires

pub returns-in_err-leaf-clause-refused : goal.returns-in_err-leaf-clause-refused
returns-in_err-leaf-clause-refused g c = on_err_any _ (inr (reads_refl g.R.S.Space (Means g.R.S.Space g.R.Records g.O.Order) c.args.self.now c.args.space.now c.requires.sound))

pub returns-in_err-strip-clause-refused : goal.returns-in_err-strip-clause-refused
returns-in_err-strip-clause-refused g c = on_err_any _ (unstripped g.R.S.Space g.R.Records g.O.Order c.args.self.now c.strip.new.self c.args.space.now c.strip.new.space c.strip.ensures.still c.in_err-strip.ensures.refused)

pub returns-in_err-strip-clause-full : goal.returns-in_err-strip-clause-full
returns-in_err-strip-clause-full g c = λ is. c.in_err-strip.ensures.full (err_handed c.from_residual-in_err-strip.result _ _ c.from_residual-in_err-strip.ensures.1 is)

pub put_leaf-requires-clause-ready : goal.put_leaf-requires-clause-ready
put_leaf-requires-clause-ready g c = leaf_ready g.R.S.Space g.R.Records g.O.Order c.args.self.now c.strip.new.self c.args.space.now c.strip.new.space c.in_ok-strip.ensures.stripped c.strip.ensures.still c.requires

pub returns-in-Err-clause-full : goal.returns-in-Err-clause-full
returns-in-Err-clause-full g c = λ is.
    lacks_lone g.R.S.Space g.R.Records g.O.Order c.args.self.now c.strip.new.self c.args.space.now c.strip.new.space c.in_ok-strip.ensures.stripped c.strip.ensures.still g.met.R.Records.lacks_still c.in_ok-strip.ensures.fills c.requires c.put_leaf.new.space c.spoil.new.self c.put_leaf.ensures.stays.keeps
    (given_up g.R.S.Space c.put_leaf.new.space c.spoil.new.self c.spoil.ensures.spoiled c.spoil.ensures.stays c.spoil.ensures.now c.spoil.ensures.log c.spoil.ensures.brought)
    (rw (c.in_ok-leaf.ensures, c.new.ensures) at (c.in-Err.ensures.full (err_on _ _ is)))

pub returns-clause-cleared : goal.returns-clause-cleared
returns-clause-cleared g c =
    clears g.R.S.Space g.R.Records g.O.Order c.args.self.now c.strip.new.self c.args.space.now c.strip.new.space c.in_ok-strip.ensures.stripped c.strip.ensures.still
    _ c.put_leaf.new.space c.if-id-ge-PAGE_END.false (rw (c.in_ok-leaf.ensures, c.new.ensures) at c.in_default.ensures.put) refl refl refl

pub returns-clause-head : goal.returns-clause-head
returns-clause-head g c = ap (λ (k : TreeHead). record k { root = c.args.self.now.head.first; last = c.args.self.now.head.first; pairs = 0 }) c.strip.ensures.still.head

pub returns-clause-anew : goal.returns-clause-anew
returns-clause-anew g c =
    clears_anew g.R.S.Space g.R.Records g.O.Order c.args.self.now c.strip.new.self c.args.space.now c.strip.new.space c.in_ok-strip.ensures.stripped c.strip.ensures.still
    _ c.put_leaf.new.space c.if-id-ge-PAGE_END.false (rw (c.in_ok-leaf.ensures, c.new.ensures) at c.in_default.ensures.put) refl refl refl
