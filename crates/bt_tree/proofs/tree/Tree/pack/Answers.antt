use Rattle.std.proofs.Common.{refl}
use Rattle.std.proofs.lemmas.Result.{on_ok_weaker, on_err_weaker}
use Rattle.bt_tree.proofs.Settles.{pack_tight, settle_anew, store_ready, settles, settle_refused}
use Rattle.bt_tree.proofs.tree.Tree.pack.Goals as goal

pub pack-requires : goal.pack-requires
pack-requires g c =
    store_ready g.R.S.Space g.R.Records g.O.Order c.args.self.now c.args.self.now c.args.self.now.store c.args.self.now.store c.args.space.now c.args.space.now (λ bytes m is. is) refl refl (record { head = refl; height = refl; column = refl }) refl c.requires

pub returns-clause-packed : goal.returns-clause-packed
returns-clause-packed g c = on_ok_weaker c.pack.result (λ writes. settles g.R.S.Space g.R.Records g.O.Order c.args.self.now _ c.args.self.now.store _ c.args.space.now c.pack.new.space (λ bytes m is. is) refl refl (record { head = refl; height = refl; column = refl }) refl writes) c.pack.ensures.packed

pub returns-clause-anew : goal.returns-clause-anew
returns-clause-anew g c = on_ok_weaker c.pack.result (λ writes. settle_anew g.R.S.Space g.R.Records g.O.Order c.args.self.now _ c.args.self.now.store _ c.args.space.now c.pack.new.space (λ bytes m is. is) refl refl (record { head = refl; height = refl; column = refl }) refl writes) c.pack.ensures.packed

pub returns-clause-tight : goal.returns-clause-tight
returns-clause-tight g c = on_ok_weaker c.pack.result (λ tight. pack_tight g.R.S.Space g.R.Records g.O.Order c.args.self.now (record c.args.self.now { store = c.pack.new.self }) c.args.space.now c.pack.new.space c.args.form tight) c.pack.ensures.tight

pub returns-clause-refused : goal.returns-clause-refused
returns-clause-refused g c = on_err_weaker c.pack.result (λ refused. settle_refused g.R.S.Space g.R.Records g.O.Order c.args.self.now _ c.args.self.now.store _ c.args.space.now c.pack.new.space (λ bytes m is. is) refl refl (record { head = refl; height = refl; column = refl }) refl refused) c.pack.ensures.refused

pub returns-clause-stays : goal.returns-clause-stays
returns-clause-stays g c = record { store = c.pack.ensures.stays; stays = record { head = refl; height = refl; column = refl } }
