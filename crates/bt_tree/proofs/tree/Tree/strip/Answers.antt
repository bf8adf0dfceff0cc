use Rattle.std.proofs.Common.{refl, inr}
use Rattle.tc_space.specs.Frames.{keeps_then}
use Rattle.bt_page.proofs.Runs.{err_handed, on_err_any}
use Rattle.bt_cache.specs.Effects.{same_store_map, same_store_then}
use Rattle.bt_tree.proofs.Clears.{lacks_column, strip_fills, strip_on, strip_ready, strip_refused, stripped}
use Rattle.bt_tree.proofs.Descents.{err_on}
use Rattle.bt_tree.proofs.Inserts.{given_up}
use Rattle.bt_tree.proofs.tree.Tree.strip.Goals as goal

pub clear-requires : goal.clear-requires
clear-requires g c = strip_ready g.R.S.Space g.R.Records c.args.self.now c.args.space.now c.requires

pub returns-in_err-clear-clause-refused : goal.returns-in_err-clear-clause-refused
returns-in_err-clear-clause-refused g c = on_err_any _ (strip_refused g.R.S.Space g.R.Records c.args.self.now c.clear.new.self c.args.space.now c.clear.new.space c.in_err-clear.ensures.refused)

pub returns-in_err-clear-clause-full : goal.returns-in_err-clear-clause-full
returns-in_err-clear-clause-full g c = λ is. inr (c.in_err-clear.ensures.full (err_handed c.from_residual.result _ _ c.from_residual.ensures.1 is))

pub returns-in_err-clear-clause-still : goal.returns-in_err-clear-clause-still
returns-in_err-clear-clause-still g c = record { keeps = c.clear.ensures.keeps; made = same_store_map g.R.Records c.args.self.now.store c.clear.new.self c.clear.ensures.stays; head = refl; height = refl; column = refl; path = refl }

pub put_column-requires : goal.put_column-requires
put_column-requires g c = strip_on g.R.S.Space g.R.Records c.args.self.now c.clear.new.self c.args.space.now c.clear.new.space c.in_ok-clear.ensures.cleared c.requires

pub returns-in-Err-clause-full : goal.returns-in-Err-clause-full
returns-in-Err-clause-full g c = λ is.
    lacks_column g.R.S.Space g.R.Records g.met.R.Records.lacks_still c.args.self.now c.clear.new.self c.args.space.now c.clear.new.space c.put_column.new.space c.spoil.new.self c.requires c.in_ok-clear.ensures.cleared c.in_ok-clear.ensures.fills
    (same_store_map g.R.Records c.args.self.now.store c.clear.new.self c.clear.ensures.stays) c.clear.ensures.keeps c.put_column.ensures.keeps
    (given_up g.R.S.Space c.put_column.new.space c.spoil.new.self c.spoil.ensures.spoiled c.spoil.ensures.stays c.spoil.ensures.now c.spoil.ensures.log c.spoil.ensures.brought)
    (c.in-Err.ensures.full (err_on _ _ is))

pub returns-in-Err-clause-still : goal.returns-in-Err-clause-still
returns-in-Err-clause-still g c = let given = given_up g.R.S.Space c.put_column.new.space c.spoil.new.self c.spoil.ensures.spoiled c.spoil.ensures.stays c.spoil.ensures.now c.spoil.ensures.log c.spoil.ensures.brought in record {
  keeps = keeps_then g.R.S.Space c.args.space.now c.put_column.new.space c.spoil.new.self (keeps_then g.R.S.Space c.args.space.now c.clear.new.space c.put_column.new.space c.clear.ensures.keeps c.put_column.ensures.keeps) given.keeps;
  made = same_store_then g.R.Records c.args.self.now.store c.clear.new.self c.put_column.new.store (same_store_map g.R.Records c.args.self.now.store c.clear.new.self c.clear.ensures.stays) c.put_column.ensures.same;
  head = refl;
  height = refl;
  column = refl;
  path = refl;
}

pub returns-clause-stripped : goal.returns-clause-stripped
returns-clause-stripped g c = stripped g.R.S.Space g.R.Records c.args.self.now c.forget_all.new.self c.clear.new.self c.put_column.new.store c.args.space.now c.clear.new.space c.put_column.new.space c.forget_all.ensures.none c.clear.ensures.stays.file c.in_ok-clear.ensures.cleared c.in_default.ensures.put

pub returns-clause-fills : goal.returns-clause-fills
returns-clause-fills g c = strip_fills g.R.S.Space g.R.Records c.args.self.now c.clear.new.self c.put_column.new.store c.args.space.now c.clear.new.space c.requires c.in_ok-clear.ensures.cleared c.in_ok-clear.ensures.fills c.in_default.ensures.fills

pub returns-clause-still : goal.returns-clause-still
returns-clause-still g c = record {
  keeps = keeps_then g.R.S.Space c.args.space.now c.clear.new.space c.put_column.new.space c.clear.ensures.keeps c.put_column.ensures.keeps;
  made = same_store_then g.R.Records c.args.self.now.store c.clear.new.self c.put_column.new.store (same_store_map g.R.Records c.args.self.now.store c.clear.new.self c.clear.ensures.stays) c.put_column.ensures.same;
  head = refl;
  height = refl;
  column = refl;
  path = refl;
}
