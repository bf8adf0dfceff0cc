use Rattle.std.proofs.Common.{arith, refl, ◌∙◌}
use Rattle.std.proofs.lemmas.Result.{on_ok_weaker, on_err_weaker}
use Rattle.bt_tree.proofs.Settles.{both_done, store_ready, settle_anew, settle_packs, settle_refused, settle_stands, settles}
use Rattle.bt_tree.proofs.tree.Tree.settle.Goals as goal

pub settle-requires : goal.settle-requires
settle-requires g c =
    store_ready g.R.S.Space g.R.Records g.O.Order c.args.self.now c.args.self.now c.set_opaque.new.self c.args.self.now.store c.args.space.now c.args.space.now c.set_opaque.ensures.means c.set_opaque.ensures.sets.file refl (record { head = refl; height = refl; column = refl }) refl c.requires

pub returns-clause-settled : goal.returns-clause-settled
returns-clause-settled g c = on_ok_weaker c.settle.result (λ writes. settles g.R.S.Space g.R.Records g.O.Order c.args.self.now _ c.set_opaque.new.self _ c.args.space.now c.settle.new.space c.set_opaque.ensures.means c.set_opaque.ensures.sets.file refl (record { head = refl; height = refl; column = refl }) refl writes) c.settle.ensures.settled

pub returns-clause-anew : goal.returns-clause-anew
returns-clause-anew g c = on_ok_weaker c.settle.result (λ writes. settle_anew g.R.S.Space g.R.Records g.O.Order c.args.self.now _ c.set_opaque.new.self _ c.args.space.now c.settle.new.space c.set_opaque.ensures.means c.set_opaque.ensures.sets.file refl (record { head = refl; height = refl; column = refl }) refl writes) c.settle.ensures.settled

pub returns-clause-stands : goal.returns-clause-stands
returns-clause-stands g c =
    on_ok_weaker c.settle.result
    (λ stands. settle_stands g.R.S.Space g.R.Records g.O.Order c.args.self.now c.set_opaque.new.self c.args.space.now c.settle.new.space c.set_opaque.ensures.means c.set_opaque.ensures.sets.file c.region_of-opaque.result c.region_of-opaque.ensures.numbers c.region_of-opaque.ensures.spelled c.set_opaque.ensures.sets.region_is c.set_opaque.ensures.sets.sort_same c.set_opaque.ensures.sets.numbers_same stands)
    c.settle.ensures.stands

pub returns-clause-packs : goal.returns-clause-packs
returns-clause-packs g c =
    both_done c.settle.result
    (λ packs trims. settle_packs g.R.S.Space g.R.Records g.O.Order c.args.self.now c.set_opaque.new.self c.args.space.now c.settle.new.space c.set_opaque.ensures.means c.set_opaque.ensures.sets.file c.set_opaque.ensures.tight packs trims)
    c.settle.ensures.packs c.settle.ensures.trims

pub returns-clause-refused : goal.returns-clause-refused
returns-clause-refused g c = on_err_weaker c.settle.result (λ refused. settle_refused g.R.S.Space g.R.Records g.O.Order c.args.self.now _ c.set_opaque.new.self _ c.args.space.now c.settle.new.space c.set_opaque.ensures.means c.set_opaque.ensures.sets.file refl (record { head = refl; height = refl; column = refl }) refl refused) c.settle.ensures.refused

pub returns-clause-stays : goal.returns-clause-stays
returns-clause-stays g c = record {
  file = c.settle.ensures.stays.file ∙ c.set_opaque.ensures.sets.file;
  sort = c.settle.ensures.stays.sort_same ∙ c.set_opaque.ensures.sets.sort_same;
  fixed = c.settle.ensures.stays.numbers_same ∙ c.set_opaque.ensures.sets.numbers_same;
  lead = omega (arith, c.set_opaque.ensures.sets.leads, c.settle.ensures.stays.leads);
  stays = record { head = refl; height = refl; column = refl };
}
