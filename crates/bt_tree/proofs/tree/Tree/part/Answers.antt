use Rattle.std.proofs.Common.{arith, inl, inr, ⊎_elim}
use Rattle.std.proofs.lemmas.Result.{on_ok_weaker}
use Rattle.bt_tree.proofs.Descents.{err_same}
use Rattle.bt_tree.proofs.Issues.{leaf_on, leaf_way, over_on, parted_on, piece_on, shown_on, still_then, widens_on, widens_still}
use Rattle.bt_tree.proofs.Tellings.{rose_since, tells_looked}
use Rattle.bt_tree.proofs.tree.Tree.part.Goals as goal

pub has_ids-requires-clause-ready : goal.has_ids-requires-clause-ready
has_ids-requires-clause-ready g c = leaf_way g.R.S.Space g.R.Records c.args.id c.args.leaf.next c.args.self.now c.args.space.now c.requires.ready

pub returns-in_err-has-clause-widens : goal.returns-in_err-has-clause-widens
returns-in_err-has-clause-widens g c = widens_still g.R.S.Space g.R.Records _ c.args.self.now c.has_ids.new.self c.args.space.now c.has_ids.new.space c.has_ids.ensures.peeks.still

pub refuse-requires : goal.refuse-requires
refuse-requires g c = shown_on g.R.S.Space g.R.Records c.args.id c.args.leaf c.args.self.now c.has_ids.new.self c.args.space.now c.has_ids.new.space c.has_ids.ensures.peeks c.requires.ready

pub returns-then-not-has-clause-full : goal.returns-then-not-has-clause-full
returns-then-not-has-clause-full g c = λ is.
    ⊎_elim
    (λ tells. inl (
      tells_looked g.R.S.Space g.R.Records c.args.self.now c.has_ids.new.self c.args.space.now c.has_ids.new.space c.refuse.new.space c.has_ids.ensures.peeks.looks c.has_ids.ensures.peeks.still.head tells,
      c.in_ok-has.ensures.lacks c.if-not-has.true,
    ))
    (λ log. inr (inr log))
    (c.refuse.ensures.full (err_same _ _ is))

pub returns-then-not-has-clause-widens : goal.returns-then-not-has-clause-widens
returns-then-not-has-clause-widens g c =
    widens_still g.R.S.Space g.R.Records _ c.args.self.now c.refuse.new.self c.args.space.now c.refuse.new.space
    (still_then g.R.S.Space g.R.Records c.args.self.now c.has_ids.new.self c.refuse.new.self c.args.space.now c.has_ids.new.space c.refuse.new.space c.has_ids.ensures.peeks.still c.refuse.ensures.still)

pub returns-then-not-has-clause-cause : goal.returns-then-not-has-clause-cause
returns-then-not-has-clause-cause g c = λ is. rose_since _ _ _ c.has_ids.ensures.peeks.still.keeps.later (c.refuse.ensures.cause (err_same _ _ is))

pub spread-requires-clause-ready : goal.spread-requires-clause-ready
spread-requires-clause-ready g c = leaf_on g.R.S.Space g.R.Records c.args.id c.args.leaf c.args.self.now c.has_ids.new.self c.args.space.now c.has_ids.new.space c.has_ids.ensures.peeks c.requires.ready

pub spread-requires-clause-over : goal.spread-requires-clause-over
spread-requires-clause-over g c = λ told. over_on g.R.S.Space g.R.Records c.args.leaf c.args.self.now c.has_ids.new.self c.args.space.now c.has_ids.new.space c.has_ids.ensures.peeks c.args.place (c.requires.over told)

pub spread-requires-clause-rows : goal.spread-requires-clause-rows
spread-requires-clause-rows g c = omega (arith, c.has_ids.ensures.peeks.still.height, c.requires.rows)

pub returns-clause-parted : goal.returns-clause-parted
returns-clause-parted g c =
    on_ok_weaker c.spread.result
    (λ turns. parted_on g.R.S.Space g.R.Records c.args.id c.args.leaf c.args.self.now c.has_ids.new.self c.args.space.now c.has_ids.new.space c.has_ids.ensures.peeks c.spread.new.self c.spread.new.space turns)
    c.spread.ensures.parted

pub returns-clause-full : goal.returns-clause-full
returns-clause-full g c = λ is.
    inr (inl (piece_on g.R.S.Space g.R.Records c.args.id c.args.leaf c.args.self.now c.has_ids.new.self c.args.space.now c.has_ids.new.space c.has_ids.ensures.peeks c.spread.new.space (c.spread.ensures.full is)))

pub returns-clause-widens : goal.returns-clause-widens
returns-clause-widens g c = widens_on g.R.S.Space g.R.Records c.args.self.now c.has_ids.new.self c.spread.new.self c.args.space.now c.has_ids.new.space c.spread.new.space c.has_ids.ensures.peeks.still c.spread.ensures.widens
