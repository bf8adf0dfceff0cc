use Rattle.std.proofs.Common.{inr}
use Rattle.bt_rows.proofs.Ordered.{orders_are_strict}
use Rattle.bt_ways.specs.Changes.{removed}
use Rattle.bt_page.proofs.Runs.{err_handed, on_err_any}
use Rattle.bt_tree.specs.Meaning.{Means}
use Rattle.bt_tree.specs.Paging.{room_given}
use Rattle.bt_tree.proofs.Descents.{err_on}
use Rattle.bt_tree.proofs.Finds.{tree_reads}
use Rattle.bt_tree.proofs.Inserts.{given_up, put_refused}
use Rattle.bt_tree.proofs.Outs.{gone_pages, gone_root, leaf_full, leaf_given, leaf_gone, leaf_less, leaf_ready, less_pages, less_root, same_pages, same_root, takes_none, takes_some, vacate_full, vacate_ready}
use Rattle.bt_tree.proofs.tree.Tree.remove.Goals as goal

pub returns-in_default-clause-out : goal.returns-in_default-clause-out
returns-in_default-clause-out g c =
    takes_none g.R.S.Space _ (Means g.R.S.Space g.R.Records g.O.Order) c.args.key.now (removed g.O.Order.cmp c.args.all c.args.key.now) c.args.self.now _ c.args.space.now _ (rw c.in_default.is at c.in_ok-lessened.ensures.hit)
    (tree_reads g.R.S.Space g.R.Records g.O.Order c.args.self.now c.give_pairs.new.self c.args.space.now c.give_pairs.new.space c.give_pairs.ensures.looks.reads c.give_pairs.ensures.stays)

pub returns-in_default-clause-pages : goal.returns-in_default-clause-pages
returns-in_default-clause-pages g c = same_pages g.R.S.Space g.R.Records g.O.Order (removed g.O.Order.cmp c.args.all c.args.key.now) c.args.self.now c.give_pairs.new.self c.args.space.now c.give_pairs.new.space c.give_pairs.ensures.looks c.give_pairs.ensures.stays

pub returns-in_default-clause-root : goal.returns-in_default-clause-root
returns-in_default-clause-root g c = same_root g.R.S.Space g.R.Records g.O.Order c.args.self.now c.give_pairs.new.self c.args.space.now c.give_pairs.new.space c.give_pairs.ensures.looks c.give_pairs.ensures.stays

pub returns-in_err-lessened-clause-refused : goal.returns-in_err-lessened-clause-refused
returns-in_err-lessened-clause-refused g c = on_err_any _ (inr (tree_reads g.R.S.Space g.R.Records g.O.Order c.args.self.now c.give_pairs.new.self c.args.space.now c.give_pairs.new.space c.give_pairs.ensures.looks.reads c.give_pairs.ensures.stays))

pub put_leaf-requires-clause-ready : goal.put_leaf-requires-clause-ready
put_leaf-requires-clause-ready g c =
    leaf_ready g.R.S.Space g.R.Records g.O.Order g.met.O.Order.total (orders_are_strict g.O.Order.cmp g.met.O.Order.total g.met.O.Order.exact) c.args.all c.args.key.now c.args.self.now c.give_pairs.new.self c.args.space.now c.give_pairs.new.space
    c.give_pairs.ensures.looks c.give_pairs.ensures.stays c.in-Some.lessened (rw c.in-Some.is at c.in_ok-lessened.ensures.given) c.requires

pub put_leaf-requires-clause-id : goal.put_leaf-requires-clause-id
put_leaf-requires-clause-id g c =
    leaf_given g.R.S.Space g.R.Records g.O.Order g.met.O.Order.total (orders_are_strict g.O.Order.cmp g.met.O.Order.total g.met.O.Order.exact) c.args.all c.args.key.now c.args.self.now c.give_pairs.new.self c.args.space.now c.give_pairs.new.space
    c.give_pairs.ensures.looks c.give_pairs.ensures.stays c.in-Some.lessened (rw c.in-Some.is at c.in_ok-lessened.ensures.given) c.requires

pub returns-in_err-put_leaf-clause-refused : goal.returns-in_err-put_leaf-clause-refused
returns-in_err-put_leaf-clause-refused g c =
    on_err_any _
    (put_refused g.R.S.Space g.R.Records g.O.Order c.args.self.now c.give_pairs.new.self c.put_leaf.new.self c.args.space.now c.give_pairs.new.space c.put_leaf.new.space c.give_pairs.ensures.looks c.give_pairs.ensures.stays
    c.put_leaf.ensures.still c.in_err-put_leaf.ensures.refused)

pub returns-in_err-put_leaf-clause-full : goal.returns-in_err-put_leaf-clause-full
returns-in_err-put_leaf-clause-full g c = λ is.
    leaf_full g.R.S.Space g.R.Records g.O.Order g.met.O.Order.total (orders_are_strict g.O.Order.cmp g.met.O.Order.total g.met.O.Order.exact) c.args.all c.args.key.now c.args.self.now c.give_pairs.new.self c.args.space.now c.give_pairs.new.space
    c.give_pairs.ensures.looks c.give_pairs.ensures.stays c.in-Some.lessened (rw c.in-Some.is at c.in_ok-lessened.ensures.given)
    (rw c.in-Some.is at c.in_ok-lessened.ensures.hit) c.put_leaf.new.space (c.in_err-put_leaf.ensures.full (err_handed c.from_residual-in_err-put_leaf.result c.in_err-put_leaf.field-0.0 _ c.from_residual-in_err-put_leaf.ensures.1 is))

pub returns-then-not-is_spare-clause-out : goal.returns-then-not-is_spare-clause-out
returns-then-not-is_spare-clause-out g c =
    takes_some g.R.S.Space _ (Means g.R.S.Space g.R.Records g.O.Order) c.args.key.now (removed g.O.Order.cmp c.args.all c.args.key.now) c.args.self.now _ c.args.space.now _ (rw c.in-Some.is at c.in_ok-lessened.ensures.hit)
    (leaf_less g.R.S.Space g.R.Records g.O.Order g.met.O.Order.total (orders_are_strict g.O.Order.cmp g.met.O.Order.total g.met.O.Order.exact) c.args.all c.args.key.now c.args.self.now c.give_pairs.new.self c.args.space.now c.give_pairs.new.space
    c.give_pairs.ensures.looks c.give_pairs.ensures.stays c.in-Some.lessened (rw c.in-Some.is at c.in_ok-lessened.ensures.given)
    (c.is_spare.ensures.kept c.if-not-is_spare.true) c.put_leaf.new.self c.uncount.new.self c.put_leaf.new.space c.in_ok-put_leaf.ensures.put c.put_leaf.ensures.still.head c.put_leaf.ensures.still.height c.uncount.ensures)

pub returns-then-not-is_spare-clause-pages : goal.returns-then-not-is_spare-clause-pages
returns-then-not-is_spare-clause-pages g c =
    less_pages g.R.S.Space g.R.Records g.O.Order g.met.O.Order.total (orders_are_strict g.O.Order.cmp g.met.O.Order.total g.met.O.Order.exact) c.args.all c.args.key.now c.args.self.now c.give_pairs.new.self c.args.space.now c.give_pairs.new.space
    c.give_pairs.ensures.looks c.give_pairs.ensures.stays c.in-Some.lessened (rw c.in-Some.is at c.in_ok-lessened.ensures.given)
    c.put_leaf.new.self c.uncount.new.self c.put_leaf.new.space c.in_ok-put_leaf.ensures.put c.put_leaf.ensures.still.head c.uncount.ensures

pub returns-then-not-is_spare-clause-root : goal.returns-then-not-is_spare-clause-root
returns-then-not-is_spare-clause-root g c =
    less_root g.R.S.Space g.R.Records g.O.Order g.met.O.Order.total (orders_are_strict g.O.Order.cmp g.met.O.Order.total g.met.O.Order.exact) c.args.all c.args.key.now c.args.self.now c.give_pairs.new.self c.args.space.now c.give_pairs.new.space
    c.give_pairs.ensures.looks c.give_pairs.ensures.stays c.in-Some.lessened (rw c.in-Some.is at c.in_ok-lessened.ensures.given)
    c.put_leaf.new.self c.uncount.new.self c.put_leaf.new.space c.in_ok-put_leaf.ensures.put c.uncount.ensures

pub vacate-requires : goal.vacate-requires
vacate-requires g c =
    rw (c.prev-prev.ensures, c.next-next.ensures)
    (vacate_ready g.R.S.Space g.R.Records g.O.Order g.met.O.Order.total (orders_are_strict g.O.Order.cmp g.met.O.Order.total g.met.O.Order.exact) c.args.all c.args.key.now c.args.self.now c.give_pairs.new.self c.args.space.now c.give_pairs.new.space
    c.give_pairs.ensures.looks c.give_pairs.ensures.stays c.in-Some.lessened (rw c.in-Some.is at c.in_ok-lessened.ensures.given) c.requires)

pub returns-in-Err-clause-full : goal.returns-in-Err-clause-full
returns-in-Err-clause-full g c = λ is.
    room_given g.R.S.Space g.R.Records g.met.R.Records.lacks_still _ _ _ _ c.args.self.now c.args.space.now c.vacate.new.space c.spoil.new.self
    (given_up g.R.S.Space c.vacate.new.space c.spoil.new.self c.spoil.ensures.spoiled c.spoil.ensures.stays c.spoil.ensures.now c.spoil.ensures.log c.spoil.ensures.brought)
    (vacate_full g.R.S.Space g.R.Records g.O.Order g.met.O.Order.total (orders_are_strict g.O.Order.cmp g.met.O.Order.total g.met.O.Order.exact) c.args.all c.args.key.now c.args.self.now c.give_pairs.new.self c.args.space.now c.give_pairs.new.space
    c.give_pairs.ensures.looks c.give_pairs.ensures.stays c.in-Some.lessened (rw c.in-Some.is at c.in_ok-lessened.ensures.given)
    (rw c.in-Some.is at c.in_ok-lessened.ensures.hit) c.vacate.new.space ((rw (c.prev-prev.ensures, c.next-next.ensures) at c.in-Err.ensures.full) (err_on _ _ is)))

pub returns-clause-out : goal.returns-clause-out
returns-clause-out g c =
    takes_some g.R.S.Space _ (Means g.R.S.Space g.R.Records g.O.Order) c.args.key.now (removed g.O.Order.cmp c.args.all c.args.key.now) c.args.self.now _ c.args.space.now _ (rw c.in-Some.is at c.in_ok-lessened.ensures.hit)
    (leaf_gone g.R.S.Space g.R.Records g.O.Order g.met.O.Order.total (orders_are_strict g.O.Order.cmp g.met.O.Order.total g.met.O.Order.exact) c.args.all c.args.key.now c.args.self.now c.give_pairs.new.self c.args.space.now c.give_pairs.new.space
    c.give_pairs.ensures.looks c.give_pairs.ensures.stays c.in-Some.lessened (rw c.in-Some.is at c.in_ok-lessened.ensures.given)
    (c.is_spare.ensures.bare c.if-not-is_spare.false) c.vacate.new.self c.uncount-2.new.self c.vacate.new.space (rw (c.prev-prev.ensures, c.next-next.ensures) at c.in_default-vacate.ensures.vacated) c.vacate.ensures.narrows c.uncount-2.ensures)

pub returns-clause-pages : goal.returns-clause-pages
returns-clause-pages g c =
    gone_pages g.R.S.Space g.R.Records g.O.Order g.met.O.Order.total (orders_are_strict g.O.Order.cmp g.met.O.Order.total g.met.O.Order.exact) c.args.all c.args.key.now c.args.self.now c.give_pairs.new.self c.args.space.now c.give_pairs.new.space
    c.give_pairs.ensures.looks c.give_pairs.ensures.stays c.in-Some.lessened (rw c.in-Some.is at c.in_ok-lessened.ensures.given)
    c.vacate.new.self c.uncount-2.new.self c.vacate.new.space (rw (c.prev-prev.ensures, c.next-next.ensures) at c.in_default-vacate.ensures.vacated) c.vacate.ensures.narrows c.uncount-2.ensures

pub returns-clause-root : goal.returns-clause-root
returns-clause-root g c =
    gone_root g.R.S.Space g.R.Records g.O.Order g.met.O.Order.total (orders_are_strict g.O.Order.cmp g.met.O.Order.total g.met.O.Order.exact) c.args.all c.args.key.now c.args.self.now c.give_pairs.new.self c.args.space.now c.give_pairs.new.space
    c.give_pairs.ensures.looks c.give_pairs.ensures.stays c.in-Some.lessened (rw c.in-Some.is at c.in_ok-lessened.ensures.given)
    c.vacate.new.self c.uncount-2.new.self c.vacate.new.space (rw (c.prev-prev.ensures, c.next-next.ensures) at c.in_default-vacate.ensures.vacated) c.uncount-2.ensures
