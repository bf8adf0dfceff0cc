use Rattle.std.proofs.Common.{refl, ◌∙◌, inl, inr, ⊎_elim}
use Rattle.bt_rows.proofs.Ordered.{orders_are_strict}
use Rattle.bt_page.proofs.Runs.{err_handed, on_err_any}
use Rattle.bt_tree.specs.Paging.{lacks_given, tells_given}
use Rattle.bt_tree.proofs.Descents.{err_on}
use Rattle.bt_tree.proofs.Finds.{tree_reads}
use Rattle.bt_tree.proofs.Inserts.{gains_kept, gains_looked, gains_spread, gains_within, given_up, means_ready, none_more, not_both, put_refused}
use Rattle.bt_tree.proofs.Puttings.{id_given, inserted_kept, inserted_spread, is_crowded, kept_pages, lacks_leaf, lacks_piece, leaf_ready, over_there, runs_out, spread_pages}
use Rattle.bt_tree.proofs.Tellings.{tells_looked}
use Rattle.bt_tree.proofs.tree.Tree.insert.Goals as goal

pub returns-then-self-clause-gains : goal.returns-then-self-clause-gains
returns-then-self-clause-gains g c = record { most = gains_looked c.args.self.now c.args.self.now (record { head = refl; height = refl; column = refl }); kept = inr (refl, refl) }

pub returns-in_err-changed-clause-gains : goal.returns-in_err-changed-clause-gains
returns-in_err-changed-clause-gains g c = record { most = gains_looked c.args.self.now c.take_pair.new.self c.take_pair.ensures.stays; kept = on_err_any _ (inr (c.take_pair.ensures.stays.head, c.take_pair.ensures.stays.height)) }

pub returns-in_err-changed-clause-refused : goal.returns-in_err-changed-clause-refused
returns-in_err-changed-clause-refused g c = on_err_any _ (inr (tree_reads g.R.S.Space g.R.Records g.O.Order c.args.self.now c.take_pair.new.self c.args.space.now c.take_pair.new.space c.take_pair.ensures.looks.reads c.take_pair.ensures.stays))

pub put_leaf-requires-clause-ready : goal.put_leaf-requires-clause-ready
put_leaf-requires-clause-ready g c = means_ready g.R.S.Space g.R.Records g.O.Order c.args.self.now c.take_pair.new.self c.args.space.now c.take_pair.new.space c.take_pair.ensures.looks c.take_pair.ensures.stays c.requires

pub put_leaf-requires-clause-id : goal.put_leaf-requires-clause-id
put_leaf-requires-clause-id g c =
    id_given g.R.S.Space g.R.Records g.O.Order g.met.O.Order.total (orders_are_strict g.O.Order.cmp g.met.O.Order.total g.met.O.Order.exact) c.args.last c.args.key.now c.args.value.now c.args.self.now c.take_pair.new.self c.args.space.now c.take_pair.new.space c.in_ok-changed.changed
    c.take_pair.ensures.looks c.take_pair.ensures.stays c.in_ok-changed.ensures.taken c.requires

pub returns-in_err-put_leaf-clause-gains : goal.returns-in_err-put_leaf-clause-gains
returns-in_err-put_leaf-clause-gains g c = record {
  most = gains_within c.args.self.now c.put_leaf.new.self (gains_kept c.args.self.now c.take_pair.new.self c.put_leaf.new.self c.put_leaf.new.self 0 c.take_pair.ensures.stays (none_more c.put_leaf.new.self) g.R.S.Space g.R.Records _ _ c.put_leaf.ensures.still);
  kept = on_err_any _ (inr (c.put_leaf.ensures.still.head ∙ c.take_pair.ensures.stays.head, c.put_leaf.ensures.still.height ∙ c.take_pair.ensures.stays.height));
}

pub returns-in_err-put_leaf-clause-refused : goal.returns-in_err-put_leaf-clause-refused
returns-in_err-put_leaf-clause-refused g c =
    on_err_any _
    (put_refused g.R.S.Space g.R.Records g.O.Order c.args.self.now c.take_pair.new.self c.put_leaf.new.self c.args.space.now c.take_pair.new.space c.put_leaf.new.space
    c.take_pair.ensures.looks c.take_pair.ensures.stays c.put_leaf.ensures.still c.in_err-put_leaf.ensures.refused)

pub returns-in_err-put_leaf-clause-full : goal.returns-in_err-put_leaf-clause-full
returns-in_err-put_leaf-clause-full g c = λ is.
    inr (inl (lacks_leaf g.R.S.Space g.R.Records g.O.Order g.met.O.Order.total (orders_are_strict g.O.Order.cmp g.met.O.Order.total g.met.O.Order.exact) c.args.last c.args.key.now c.args.value.now c.args.self.now c.take_pair.new.self c.args.space.now c.take_pair.new.space c.in_ok-changed.changed
    c.take_pair.ensures.looks c.take_pair.ensures.stays c.in_ok-changed.ensures.taken
    c.put_leaf.new.space (c.leaf_fits.ensures.0 c.if-leaf_fits.true) (c.in_err-put_leaf.ensures.full (err_handed c.from_residual-in_err-put_leaf.result c.in_err-put_leaf.field-0.0 _ c.from_residual-in_err-put_leaf.ensures.1 is))))

pub returns-then-leaf_fits-clause-inserted : goal.returns-then-leaf_fits-clause-inserted
returns-then-leaf_fits-clause-inserted g c =
    inserted_kept g.R.S.Space g.R.Records g.O.Order g.met.O.Order.total (orders_are_strict g.O.Order.cmp g.met.O.Order.total g.met.O.Order.exact) c.args.last c.args.key.now c.args.value.now c.args.self.now c.take_pair.new.self c.args.space.now c.take_pair.new.space c.in_ok-changed.changed
    c.take_pair.ensures.looks c.take_pair.ensures.stays c.in_ok-changed.ensures.taken
    c.put_leaf.new.self c.count_pair.new.self c.put_leaf.new.space c.count_pair.ensures (c.leaf_fits.ensures.0 c.if-leaf_fits.true) c.in_ok-put_leaf.ensures.put c.put_leaf.ensures.still

pub returns-then-leaf_fits-clause-gains : goal.returns-then-leaf_fits-clause-gains
returns-then-leaf_fits-clause-gains g c = record {
  most = gains_within c.args.self.now c.count_pair.new.self (gains_kept c.args.self.now c.take_pair.new.self c.put_leaf.new.self c.count_pair.new.self _ c.take_pair.ensures.stays c.count_pair.ensures g.R.S.Space g.R.Records _ _ c.put_leaf.ensures.still);
  kept = tt;
}

pub returns-then-leaf_fits-clause-adds : goal.returns-then-leaf_fits-clause-adds
returns-then-leaf_fits-clause-adds g c = inl (gains_kept c.args.self.now c.take_pair.new.self c.put_leaf.new.self c.count_pair.new.self _ c.take_pair.ensures.stays c.count_pair.ensures g.R.S.Space g.R.Records _ _ c.put_leaf.ensures.still)

pub returns-then-leaf_fits-clause-pages : goal.returns-then-leaf_fits-clause-pages
returns-then-leaf_fits-clause-pages g c =
    kept_pages g.R.S.Space g.R.Records g.O.Order g.met.O.Order.total (orders_are_strict g.O.Order.cmp g.met.O.Order.total g.met.O.Order.exact) c.args.last c.args.key.now c.args.value.now c.args.self.now c.take_pair.new.self c.args.space.now c.take_pair.new.space c.in_ok-changed.changed
    c.take_pair.ensures.looks c.take_pair.ensures.stays c.in_ok-changed.ensures.taken
    c.put_leaf.new.self c.count_pair.new.self c.put_leaf.new.space c.count_pair.ensures (c.leaf_fits.ensures.0 c.if-leaf_fits.true) c.in_ok-put_leaf.ensures.put c.put_leaf.ensures.still

pub part-requires-clause-ready : goal.part-requires-clause-ready
part-requires-clause-ready g c =
    leaf_ready g.R.S.Space g.R.Records g.O.Order g.met.O.Order.total (orders_are_strict g.O.Order.cmp g.met.O.Order.total g.met.O.Order.exact) c.args.last c.args.key.now c.args.value.now c.args.self.now c.take_pair.new.self c.args.space.now c.take_pair.new.space c.in_ok-changed.changed
    c.take_pair.ensures.looks c.take_pair.ensures.stays c.in_ok-changed.ensures.taken c.requires

pub part-requires-clause-over : goal.part-requires-clause-over
part-requires-clause-over g c =
    over_there g.R.S.Space g.R.Records g.O.Order g.met.O.Order.total (orders_are_strict g.O.Order.cmp g.met.O.Order.total g.met.O.Order.exact) c.args.last c.args.key.now c.args.value.now c.args.self.now c.take_pair.new.self c.args.space.now c.take_pair.new.space c.in_ok-changed.changed
    c.take_pair.ensures.looks c.take_pair.ensures.stays c.in_ok-changed.ensures.taken c.requires
    (λ w. not_both _ (c.leaf_fits.ensures.1 w) c.if-leaf_fits.false)

pub returns-clause-inserted : goal.returns-clause-inserted
returns-clause-inserted g c =
    inserted_spread g.R.S.Space g.R.Records g.O.Order g.met.O.Order.total (orders_are_strict g.O.Order.cmp g.met.O.Order.total g.met.O.Order.exact) c.args.last c.args.key.now c.args.value.now c.args.self.now c.take_pair.new.self c.args.space.now c.take_pair.new.space c.in_ok-changed.changed
    c.take_pair.ensures.looks c.take_pair.ensures.stays c.in_ok-changed.ensures.taken
    c.part.new.self c.count_pair-2.new.self c.part.new.space c.count_pair-2.ensures c.part.ensures.widens.column c.part.ensures.widens.head c.in_default.ensures.parted

pub returns-clause-pages : goal.returns-clause-pages
returns-clause-pages g c =
    spread_pages g.R.S.Space g.R.Records g.O.Order g.met.O.Order.total (orders_are_strict g.O.Order.cmp g.met.O.Order.total g.met.O.Order.exact) c.args.last c.args.key.now c.args.value.now c.args.self.now c.take_pair.new.self c.args.space.now c.take_pair.new.space c.in_ok-changed.changed
    c.take_pair.ensures.looks c.take_pair.ensures.stays c.in_ok-changed.ensures.taken
    c.part.new.self c.count_pair-2.new.self c.part.new.space c.count_pair-2.ensures c.in_default.ensures.parted

pub returns-clause-gains : goal.returns-clause-gains
returns-clause-gains g c = record { most = gains_spread c.args.self.now c.take_pair.new.self c.part.new.self c.count_pair-2.new.self _ c.take_pair.ensures.stays c.count_pair-2.ensures g.R.S.Space g.R.Records _ _ c.in_ok-changed.ensures.deep c.part.ensures.widens; kept = tt }

pub returns-clause-adds : goal.returns-clause-adds
returns-clause-adds g c =
    inr (
      gains_spread c.args.self.now c.take_pair.new.self c.part.new.self c.count_pair-2.new.self _ c.take_pair.ensures.stays c.count_pair-2.ensures g.R.S.Space g.R.Records _ _ c.in_ok-changed.ensures.deep c.part.ensures.widens,
      is_crowded g.R.S.Space g.R.Records g.O.Order g.met.O.Order.total (orders_are_strict g.O.Order.cmp g.met.O.Order.total g.met.O.Order.exact) c.args.last c.args.key.now c.args.value.now c.args.self.now c.take_pair.new.self c.args.space.now c.take_pair.new.space c.in_ok-changed.changed
          c.take_pair.ensures.looks c.take_pair.ensures.stays c.in_ok-changed.ensures.taken
          (λ w. not_both _ (c.leaf_fits.ensures.1 w) c.if-leaf_fits.false),
    )

pub returns-in-Err-clause-gains : goal.returns-in-Err-clause-gains
returns-in-Err-clause-gains g c = record {
  most = gains_spread c.args.self.now c.take_pair.new.self c.part.new.self c.part.new.self 0 c.take_pair.ensures.stays (none_more c.part.new.self) g.R.S.Space g.R.Records _ _ c.in_ok-changed.ensures.deep c.part.ensures.widens;
  kept = inl c.spoil.ensures.spoiled;
}

pub returns-in-Err-clause-full : goal.returns-in-Err-clause-full
returns-in-Err-clause-full g c = λ is.
    let given = given_up g.R.S.Space c.part.new.space c.spoil.new.self c.spoil.ensures.spoiled c.spoil.ensures.stays c.spoil.ensures.now c.spoil.ensures.log c.spoil.ensures.brought in
    ⊎_elim
    (λ used. inl (
      tells_given g.R.S.Space g.R.Records c.args.self.now c.args.space.now c.part.new.space c.spoil.new.self given
          (tells_looked g.R.S.Space g.R.Records c.args.self.now c.take_pair.new.self c.args.space.now c.take_pair.new.space c.part.new.space c.take_pair.ensures.looks c.take_pair.ensures.stays.head used.0),
      runs_out g.R.S.Space g.R.Records g.O.Order g.met.O.Order.total (orders_are_strict g.O.Order.cmp g.met.O.Order.total g.met.O.Order.exact) c.args.last c.args.key.now c.args.value.now c.args.self.now c.take_pair.new.self c.args.space.now c.take_pair.new.space c.in_ok-changed.changed
          c.take_pair.ensures.looks c.take_pair.ensures.stays c.in_ok-changed.ensures.taken (λ w. not_both _ (c.leaf_fits.ensures.1 w) c.if-leaf_fits.false) used.1,
    ))
    (λ rest. inr (⊎_elim
    (λ lacks. inl (lacks_given g.R.S.Space g.R.Records g.met.R.Records.lacks_still _ _ _ _ c.args.self.now c.args.space.now c.part.new.space c.spoil.new.self given
    (lacks_piece g.R.S.Space g.R.Records g.O.Order g.met.O.Order.total (orders_are_strict g.O.Order.cmp g.met.O.Order.total g.met.O.Order.exact) c.args.last c.args.key.now c.args.value.now c.args.self.now c.take_pair.new.self c.args.space.now c.take_pair.new.space c.in_ok-changed.changed
    c.take_pair.ensures.looks c.take_pair.ensures.stays c.in_ok-changed.ensures.taken
    c.in_ok-changed.ensures.deep c.part.new.space (λ w. not_both _ (c.leaf_fits.ensures.1 w) c.if-leaf_fits.false) lacks)))
    (λ log. inr (λ told. given.log (log told)))
    rest))
    (c.in-Err.ensures.full (err_on _ _ is))
