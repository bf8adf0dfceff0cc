use Rattle.std.proofs.Common.{refl, inl, inr, ⊎_elim}
use Rattle.std.specs.Prelude.{option_map}
use Rattle.bt_rows.proofs.Ordered.{orders_are_strict}
use Rattle.bt_page.proofs.Runs.{err_handed, on_err_any}
use Rattle.bt_tree.specs.Meaning.{Means}
use Rattle.bt_tree.specs.Paging.{lacks_given, tells_given}
use Rattle.bt_tree.specs.Valuing.{has_nth, valued}
use Rattle.bt_tree.proofs.Descents.{err_on}
use Rattle.bt_tree.proofs.Finds.{tree_reads}
use Rattle.bt_tree.proofs.Inserts.{gains_spread, given_up, means_ready, none_more, not_both, put_refused}
use Rattle.bt_tree.proofs.Outs.{same_pages, same_root}
use Rattle.bt_tree.proofs.Revalues.{few_none, few_of, gains_parted, held_nth, id_given, kept_changes, lacks_leaf, lacks_piece, leaf_ready, none_looked, none_put, none_still, over_there, set_kept, set_spread, sets_none, sets_over, sets_some, spread_changes}
use Rattle.bt_tree.proofs.Tellings.{tells_looked}
use Rattle.bt_tree.proofs.tree.Tree.set_within.Goals as goal

pub returns-then-self-clause-gains : goal.returns-then-self-clause-gains
returns-then-self-clause-gains g c = record {
  most = few_none c.args.self.now c.args.self.now (none_looked c.args.self.now c.args.self.now (record { head = refl; height = refl; column = refl }));
  kept = inr (none_looked c.args.self.now c.args.self.now (record { head = refl; height = refl; column = refl }));
}

pub returns-in_err-changed-clause-gains : goal.returns-in_err-changed-clause-gains
returns-in_err-changed-clause-gains g c = record {
  most = few_none c.args.self.now c.revalue.new.self (none_looked c.args.self.now c.revalue.new.self c.revalue.ensures.stays);
  kept = on_err_any _ (inr (none_looked c.args.self.now c.revalue.new.self c.revalue.ensures.stays));
}

pub returns-in_err-changed-clause-refused : goal.returns-in_err-changed-clause-refused
returns-in_err-changed-clause-refused g c =
    on_err_any _ (inr (tree_reads g.R.S.Space g.R.Records g.O.Order c.args.self.now c.revalue.new.self c.args.space.now c.revalue.new.space c.revalue.ensures.looks.reads c.revalue.ensures.stays))

pub returns-in_default-clause-set : goal.returns-in_default-clause-set
returns-in_default-clause-set g c =
    sets_none g.R.S.Space _ (Means g.R.S.Space g.R.Records g.O.Order) (has_nth c.args.key.now c.args.place) (valued g.O.Order.cmp c.args.key.now c.args.place (option_map (λ v. v.now) c.args.value)) c.args.self.now _ c.args.space.now _ (rw c.in_default.is at c.in_ok-changed.ensures.leaf)
    (tree_reads g.R.S.Space g.R.Records g.O.Order c.args.self.now c.revalue.new.self c.args.space.now c.revalue.new.space c.revalue.ensures.looks.reads c.revalue.ensures.stays)

pub returns-in_default-clause-gains : goal.returns-in_default-clause-gains
returns-in_default-clause-gains g c = record {
  most = few_none c.args.self.now c.revalue.new.self (none_looked c.args.self.now c.revalue.new.self c.revalue.ensures.stays);
  kept = tt;
}

pub returns-in_default-clause-pages : goal.returns-in_default-clause-pages
returns-in_default-clause-pages g c = record {
  adds = inl (none_looked c.args.self.now c.revalue.new.self c.revalue.ensures.stays);
  written = same_pages g.R.S.Space g.R.Records g.O.Order (valued g.O.Order.cmp c.args.key.now c.args.place (option_map (λ v. v.now) c.args.value)) c.args.self.now c.revalue.new.self c.args.space.now c.revalue.new.space c.revalue.ensures.looks c.revalue.ensures.stays;
  root = same_root g.R.S.Space g.R.Records g.O.Order c.args.self.now c.revalue.new.self c.args.space.now c.revalue.new.space c.revalue.ensures.looks c.revalue.ensures.stays;
}

pub put_leaf-requires-clause-ready : goal.put_leaf-requires-clause-ready
put_leaf-requires-clause-ready g c =
    means_ready g.R.S.Space g.R.Records g.O.Order c.args.self.now c.revalue.new.self c.args.space.now c.revalue.new.space c.revalue.ensures.looks c.revalue.ensures.stays c.requires.open

pub put_leaf-requires-clause-id : goal.put_leaf-requires-clause-id
put_leaf-requires-clause-id g c =
    id_given g.R.S.Space g.R.Records g.O.Order g.met.O.Order.total (orders_are_strict g.O.Order.cmp g.met.O.Order.total g.met.O.Order.exact) c.args.key.now c.args.place (option_map (λ v. v.now) c.args.value) c.requires.behind c.args.self.now c.revalue.new.self c.args.space.now c.revalue.new.space c.in-Some.changed
    c.revalue.ensures.looks c.revalue.ensures.stays (rw c.in-Some.is at c.in_ok-changed.ensures.leaf) c.requires.open

pub returns-in_err-put_leaf-clause-gains : goal.returns-in_err-put_leaf-clause-gains
returns-in_err-put_leaf-clause-gains g c = record {
  most = few_none c.args.self.now c.put_leaf.new.self (none_put c.args.self.now c.revalue.new.self c.put_leaf.new.self c.revalue.ensures.stays g.R.S.Space g.R.Records _ _ c.put_leaf.ensures.still);
  kept = on_err_any _ (inr (none_put c.args.self.now c.revalue.new.self c.put_leaf.new.self c.revalue.ensures.stays g.R.S.Space g.R.Records _ _ c.put_leaf.ensures.still));
}

pub returns-in_err-put_leaf-clause-refused : goal.returns-in_err-put_leaf-clause-refused
returns-in_err-put_leaf-clause-refused g c =
    on_err_any _
    (put_refused g.R.S.Space g.R.Records g.O.Order c.args.self.now c.revalue.new.self c.put_leaf.new.self c.args.space.now c.revalue.new.space c.put_leaf.new.space c.revalue.ensures.looks c.revalue.ensures.stays c.put_leaf.ensures.still c.in_err-put_leaf.ensures.refused)

pub returns-in_err-put_leaf-clause-full : goal.returns-in_err-put_leaf-clause-full
returns-in_err-put_leaf-clause-full g c =
    λ is.
    inr (inl (lacks_leaf g.R.S.Space g.R.Records g.O.Order g.met.O.Order.total (orders_are_strict g.O.Order.cmp g.met.O.Order.total g.met.O.Order.exact) c.args.key.now c.args.place (option_map (λ v. v.now) c.args.value) c.requires.behind c.args.self.now c.revalue.new.self c.args.space.now c.revalue.new.space c.in-Some.changed
    c.revalue.ensures.looks c.revalue.ensures.stays (rw c.in-Some.is at c.in_ok-changed.ensures.leaf)
    (held_nth g.R.S.Space g.R.Records g.O.Order (orders_are_strict g.O.Order.cmp g.met.O.Order.total g.met.O.Order.exact) c.args.key.now c.args.place (option_map (λ v. v.now) c.args.value) c.args.self.now c.args.space.now c.revalue.new.self.path c.in-Some.changed (rw c.in-Some.is at c.in_ok-changed.ensures.leaf))
    c.put_leaf.new.space (c.leaf_fits.ensures.0 c.if-leaf_fits.true) (c.in_err-put_leaf.ensures.full (err_handed c.from_residual-in_err-put_leaf.result c.in_err-put_leaf.field-0.0 _ c.from_residual-in_err-put_leaf.ensures.1 is))))

pub returns-then-leaf_fits-clause-set : goal.returns-then-leaf_fits-clause-set
returns-then-leaf_fits-clause-set g c =
    sets_some g.R.S.Space _ (Means g.R.S.Space g.R.Records g.O.Order) (has_nth c.args.key.now c.args.place) (valued g.O.Order.cmp c.args.key.now c.args.place (option_map (λ v. v.now) c.args.value)) c.args.self.now _ c.args.space.now _ (held_nth g.R.S.Space g.R.Records g.O.Order (orders_are_strict g.O.Order.cmp g.met.O.Order.total g.met.O.Order.exact) c.args.key.now c.args.place (option_map (λ v. v.now) c.args.value) c.args.self.now c.args.space.now c.revalue.new.self.path c.in-Some.changed (rw c.in-Some.is at c.in_ok-changed.ensures.leaf))
    (set_kept g.R.S.Space g.R.Records g.O.Order g.met.O.Order.total (orders_are_strict g.O.Order.cmp g.met.O.Order.total g.met.O.Order.exact) c.args.key.now c.args.place (option_map (λ v. v.now) c.args.value) c.requires.behind c.args.self.now c.revalue.new.self c.args.space.now c.revalue.new.space c.in-Some.changed
    c.revalue.ensures.looks c.revalue.ensures.stays (rw c.in-Some.is at c.in_ok-changed.ensures.leaf)
    c.put_leaf.new.self c.uncount_value.new.self c.put_leaf.new.space c.uncount_value.ensures (c.leaf_fits.ensures.0 c.if-leaf_fits.true) c.in_ok-put_leaf.ensures.put c.put_leaf.ensures.still)

pub returns-then-leaf_fits-clause-gains : goal.returns-then-leaf_fits-clause-gains
returns-then-leaf_fits-clause-gains g c = record {
  most = few_none c.args.self.now c.uncount_value.new.self (none_still c.args.self.now c.revalue.new.self c.put_leaf.new.self c.uncount_value.new.self _ c.revalue.ensures.stays c.uncount_value.ensures g.R.S.Space g.R.Records _ _ c.put_leaf.ensures.still);
  kept = tt;
}

pub returns-then-leaf_fits-clause-pages : goal.returns-then-leaf_fits-clause-pages
returns-then-leaf_fits-clause-pages g c =
    kept_changes g.R.S.Space g.R.Records g.O.Order g.met.O.Order.total (orders_are_strict g.O.Order.cmp g.met.O.Order.total g.met.O.Order.exact) c.args.key.now c.args.place (option_map (λ v. v.now) c.args.value) c.requires.behind c.args.self.now c.revalue.new.self c.args.space.now c.revalue.new.space c.in-Some.changed
    c.revalue.ensures.looks c.revalue.ensures.stays (rw c.in-Some.is at c.in_ok-changed.ensures.leaf)
    c.put_leaf.new.self c.uncount_value.new.self c.put_leaf.new.space c.uncount_value.ensures (c.leaf_fits.ensures.0 c.if-leaf_fits.true) c.in_ok-put_leaf.ensures.put c.put_leaf.ensures.still

pub part-requires-clause-ready : goal.part-requires-clause-ready
part-requires-clause-ready g c =
    leaf_ready g.R.S.Space g.R.Records g.O.Order g.met.O.Order.total (orders_are_strict g.O.Order.cmp g.met.O.Order.total g.met.O.Order.exact) c.args.key.now c.args.place (option_map (λ v. v.now) c.args.value) c.requires.behind c.args.self.now c.revalue.new.self c.args.space.now c.revalue.new.space c.in-Some.changed
    c.revalue.ensures.looks c.revalue.ensures.stays (rw c.in-Some.is at c.in_ok-changed.ensures.leaf) c.requires.open

pub part-requires-clause-inside : goal.part-requires-clause-inside
part-requires-clause-inside g c =
    rw c.in-Some.is at c.in_ok-changed.ensures.inside

pub part-requires-clause-over : goal.part-requires-clause-over
part-requires-clause-over g c =
    over_there g.R.S.Space g.R.Records g.O.Order g.met.O.Order.total (orders_are_strict g.O.Order.cmp g.met.O.Order.total g.met.O.Order.exact) c.args.key.now c.args.place (option_map (λ v. v.now) c.args.value) c.requires.behind c.args.self.now c.revalue.new.self c.args.space.now c.revalue.new.space c.in-Some.changed
    c.revalue.ensures.looks c.revalue.ensures.stays (rw c.in-Some.is at c.in_ok-changed.ensures.leaf) c.requires.open
    (λ w. not_both _ (c.leaf_fits.ensures.1 w) c.if-leaf_fits.false)

pub returns-clause-set : goal.returns-clause-set
returns-clause-set g c =
    sets_some g.R.S.Space _ (Means g.R.S.Space g.R.Records g.O.Order) (has_nth c.args.key.now c.args.place) (valued g.O.Order.cmp c.args.key.now c.args.place (option_map (λ v. v.now) c.args.value)) c.args.self.now _ c.args.space.now _ (held_nth g.R.S.Space g.R.Records g.O.Order (orders_are_strict g.O.Order.cmp g.met.O.Order.total g.met.O.Order.exact) c.args.key.now c.args.place (option_map (λ v. v.now) c.args.value) c.args.self.now c.args.space.now c.revalue.new.self.path c.in-Some.changed (rw c.in-Some.is at c.in_ok-changed.ensures.leaf))
    (set_spread g.R.S.Space g.R.Records g.O.Order g.met.O.Order.total (orders_are_strict g.O.Order.cmp g.met.O.Order.total g.met.O.Order.exact) c.args.key.now c.args.place (option_map (λ v. v.now) c.args.value) c.requires.behind c.args.self.now c.revalue.new.self c.args.space.now c.revalue.new.space c.in-Some.changed
    c.revalue.ensures.looks c.revalue.ensures.stays (rw c.in-Some.is at c.in_ok-changed.ensures.leaf)
    c.part.new.self c.uncount_value-2.new.self c.part.new.space c.uncount_value-2.ensures c.part.ensures.widens.column c.part.ensures.widens.head c.in_default-part.ensures.parted)

pub returns-clause-pages : goal.returns-clause-pages
returns-clause-pages g c =
    spread_changes g.R.S.Space g.R.Records g.O.Order g.met.O.Order.total (orders_are_strict g.O.Order.cmp g.met.O.Order.total g.met.O.Order.exact) c.args.key.now c.args.place (option_map (λ v. v.now) c.args.value) c.requires.behind c.args.self.now c.revalue.new.self c.args.space.now c.revalue.new.space c.in-Some.changed
    c.revalue.ensures.looks c.revalue.ensures.stays (rw c.in-Some.is at c.in_ok-changed.ensures.leaf)
    c.part.new.self c.uncount_value-2.new.self c.part.new.space c.uncount_value-2.ensures c.in_ok-changed.ensures.deep (λ w. not_both _ (c.leaf_fits.ensures.1 w) c.if-leaf_fits.false) c.part.ensures.widens c.in_default-part.ensures.parted

pub returns-clause-gains : goal.returns-clause-gains
returns-clause-gains g c = record {
  most = few_of c.args.self.now c.uncount_value-2.new.self (gains_parted c.args.self.now c.revalue.new.self c.part.new.self c.uncount_value-2.new.self _ c.revalue.ensures.stays c.uncount_value-2.ensures g.R.S.Space g.R.Records _ _ c.in_ok-changed.ensures.deep c.part.ensures.widens);
  kept = tt;
}

pub returns-in-Err-clause-gains : goal.returns-in-Err-clause-gains
returns-in-Err-clause-gains g c = record {
  most = few_of c.args.self.now c.part.new.self (gains_spread c.args.self.now c.revalue.new.self c.part.new.self c.part.new.self 0 c.revalue.ensures.stays (none_more c.part.new.self) g.R.S.Space g.R.Records _ _ c.in_ok-changed.ensures.deep c.part.ensures.widens);
  kept = inl c.spoil.ensures.spoiled;
}

pub returns-in-Err-clause-full : goal.returns-in-Err-clause-full
returns-in-Err-clause-full g c =
    λ is.
    let given = given_up g.R.S.Space c.part.new.space c.spoil.new.self c.spoil.ensures.spoiled c.spoil.ensures.stays c.spoil.ensures.now c.spoil.ensures.log c.spoil.ensures.brought in
    ⊎_elim
    (λ used. inl (
      tells_given g.R.S.Space g.R.Records c.args.self.now c.args.space.now c.part.new.space c.spoil.new.self given
          (tells_looked g.R.S.Space g.R.Records c.args.self.now c.revalue.new.self c.args.space.now c.revalue.new.space c.part.new.space c.revalue.ensures.looks c.revalue.ensures.stays.head used.0),
      sets_over g.R.S.Space g.R.Records g.O.Order g.met.O.Order.total (orders_are_strict g.O.Order.cmp g.met.O.Order.total g.met.O.Order.exact) c.args.key.now c.args.place (option_map (λ v. v.now) c.args.value) c.requires.behind c.args.self.now c.revalue.new.self c.args.space.now c.revalue.new.space c.in-Some.changed
          c.revalue.ensures.looks c.revalue.ensures.stays (rw c.in-Some.is at c.in_ok-changed.ensures.leaf) (λ w. not_both _ (c.leaf_fits.ensures.1 w) c.if-leaf_fits.false) used.1,
    ))
    (λ rest. inr (⊎_elim
    (λ lacks. inl (lacks_given g.R.S.Space g.R.Records g.met.R.Records.lacks_still _ _ _ _ c.args.self.now c.args.space.now c.part.new.space c.spoil.new.self given
    (lacks_piece g.R.S.Space g.R.Records g.O.Order g.met.O.Order.total (orders_are_strict g.O.Order.cmp g.met.O.Order.total g.met.O.Order.exact) c.args.key.now c.args.place (option_map (λ v. v.now) c.args.value) c.requires.behind c.args.self.now c.revalue.new.self c.args.space.now c.revalue.new.space c.in-Some.changed
    c.revalue.ensures.looks c.revalue.ensures.stays (rw c.in-Some.is at c.in_ok-changed.ensures.leaf)
    (held_nth g.R.S.Space g.R.Records g.O.Order (orders_are_strict g.O.Order.cmp g.met.O.Order.total g.met.O.Order.exact) c.args.key.now c.args.place (option_map (λ v. v.now) c.args.value) c.args.self.now c.args.space.now c.revalue.new.self.path c.in-Some.changed (rw c.in-Some.is at c.in_ok-changed.ensures.leaf))
    c.in_ok-changed.ensures.deep c.part.new.space (λ w. not_both _ (c.leaf_fits.ensures.1 w) c.if-leaf_fits.false) lacks)))
    (λ log. inr (λ told. given.log (log told)))
    rest))
    (c.in-Err.ensures.full (err_on _ _ is))
