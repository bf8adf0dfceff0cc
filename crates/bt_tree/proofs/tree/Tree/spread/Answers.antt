use Rattle.std.proofs.Common.{◌-◌, drop, refl, take}
use Rattle.std.proofs.lemmas.Result.{on_ok_weaker}
use Rattle.bt_page.proofs.Runs.{err_handed}
use Rattle.bt_tree.proofs.Partings.{added_few, behind_there, climb_ready, climb_rows, given_ready, ids_given, lacks_climb, lacks_laid, lay_ready, parts_turn, widens_climb, widens_lay}
use Rattle.bt_tree.proofs.tree.Tree.spread.Goals as goal

pub behind-requires-clause-ready : goal.behind-requires-clause-ready
behind-requires-clause-ready g c = given_ready g.R.S.Space g.R.Records c.args.self.now c.parts.new.self c.args.space.now c.args.id c.args.leaf c.requires.ready c.parts.ensures.noted c.parts.ensures.least c.in_ok-parted.ensures.small

pub behind-requires-clause-there : goal.behind-requires-clause-there
behind-requires-clause-there g c = rw c.next-next.ensures (behind_there g.R.S.Space g.R.Records c.args.self.now c.parts.new.self c.args.space.now c.args.id c.args.leaf c.requires.ready c.parts.ensures.noted c.parts.ensures.least c.in_ok-parted.ensures.small)

pub lay-requires-clause-ready : goal.lay-requires-clause-ready
lay-requires-clause-ready g c =
    lay_ready g.R.S.Space g.R.Records c.args.self.now c.parts.new.self c.behind.new.self c.follow.new.self c.args.space.now c.behind.new.space c.args.id c.args.leaf (take c.cut_places-i.result.0 c.args.leaf.items) (take (c.cut_places-i.result.1 - c.cut_places-i.result.0) (drop c.cut_places-i.result.0 c.args.leaf.items)) (drop c.cut_places-i.result.1 c.args.leaf.items) c.in_ok-parted.parted c.in_ok-leaves.leaves
    c.requires.ready c.parts.ensures.noted c.in_ok-parted.ensures.given c.in_ok-parted.ensures.small c.in_ok-parted.ensures.parts (rw c.next-next.ensures at c.in_ok-leaves.ensures.added) c.behind.ensures.peeks (rw c.next-next.ensures at c.follow.ensures)

pub lay-requires-clause-ids : goal.lay-requires-clause-ids
lay-requires-clause-ids g c =
    ids_given g.R.S.Space g.R.Records c.args.self.now c.parts.new.self c.behind.new.self c.follow.new.self c.args.space.now c.behind.new.space c.args.id c.args.leaf (take c.cut_places-i.result.0 c.args.leaf.items) (take (c.cut_places-i.result.1 - c.cut_places-i.result.0) (drop c.cut_places-i.result.0 c.args.leaf.items)) (drop c.cut_places-i.result.1 c.args.leaf.items) c.in_ok-parted.parted c.in_ok-leaves.leaves
    c.requires.ready c.parts.ensures.noted c.in_ok-parted.ensures.given c.in_ok-parted.ensures.small c.in_ok-parted.ensures.parts (rw c.next-next.ensures at c.in_ok-leaves.ensures.added) c.behind.ensures.peeks (rw c.next-next.ensures at c.follow.ensures)

pub returns-in_err-lay-clause-full : goal.returns-in_err-lay-clause-full
returns-in_err-lay-clause-full g c = λ is.
    lacks_laid g.R.S.Space g.R.Records c.args.self.now c.parts.new.self c.behind.new.self c.follow.new.self c.args.space.now c.behind.new.space c.args.id c.args.leaf (take c.cut_places-i.result.0 c.args.leaf.items) (take (c.cut_places-i.result.1 - c.cut_places-i.result.0) (drop c.cut_places-i.result.0 c.args.leaf.items)) (drop c.cut_places-i.result.1 c.args.leaf.items) c.in_ok-parted.parted c.in_ok-leaves.leaves
    c.requires.ready c.parts.ensures.noted c.in_ok-parted.ensures.given c.in_ok-parted.ensures.small c.in_ok-parted.ensures.parts (rw c.next-next.ensures at c.in_ok-leaves.ensures.added) c.behind.ensures.peeks (rw c.next-next.ensures at c.follow.ensures)
    c.cut_places-i.result.0 c.cut_places-i.result.1 c.lay.new.space refl refl refl (λ told. c.cut_places-i.ensures.cut (c.requires.over told)) (c.in_err-lay.ensures.full (err_handed c.from_residual-in_err-lay.result _ _ c.from_residual-in_err-lay.ensures.1 is))

pub returns-in_err-lay-clause-widens : goal.returns-in_err-lay-clause-widens
returns-in_err-lay-clause-widens g c =
    widens_lay g.R.S.Space g.R.Records c.args.self.now c.parts.new.self c.behind.new.self c.follow.new.self c.args.space.now c.behind.new.space c.args.id c.args.leaf (take c.cut_places-i.result.0 c.args.leaf.items) (take (c.cut_places-i.result.1 - c.cut_places-i.result.0) (drop c.cut_places-i.result.0 c.args.leaf.items)) (drop c.cut_places-i.result.1 c.args.leaf.items) c.in_ok-parted.parted c.in_ok-leaves.leaves
    c.requires.ready c.parts.ensures.noted c.in_ok-parted.ensures.given c.in_ok-parted.ensures.small c.in_ok-parted.ensures.parts (rw c.next-next.ensures at c.in_ok-leaves.ensures.added) c.behind.ensures.peeks (rw c.next-next.ensures at c.follow.ensures)
    c.parts.ensures.least c.parts.ensures.most c.lay.new.self c.lay.new.space c.lay.ensures.still

pub climb-requires-clause-ready : goal.climb-requires-clause-ready
climb-requires-clause-ready g c =
    climb_ready g.R.S.Space g.R.Records c.args.self.now c.parts.new.self c.behind.new.self c.follow.new.self c.args.space.now c.behind.new.space c.args.id c.args.leaf (take c.cut_places-i.result.0 c.args.leaf.items) (take (c.cut_places-i.result.1 - c.cut_places-i.result.0) (drop c.cut_places-i.result.0 c.args.leaf.items)) (drop c.cut_places-i.result.1 c.args.leaf.items) c.in_ok-parted.parted c.in_ok-leaves.leaves
    c.requires.ready c.parts.ensures.noted c.in_ok-parted.ensures.given c.in_ok-parted.ensures.small c.in_ok-parted.ensures.parts (rw c.next-next.ensures at c.in_ok-leaves.ensures.added) c.behind.ensures.peeks (rw c.next-next.ensures at c.follow.ensures)
    c.lay.new.self c.lay.new.space c.in_ok-lay.ensures.laid c.lay.ensures.still

pub climb-requires-clause-few : goal.climb-requires-clause-few
climb-requires-clause-few g c =
    added_few g.R.S.Space g.R.Records c.args.self.now c.parts.new.self c.behind.new.self c.follow.new.self c.args.space.now c.behind.new.space c.args.id c.args.leaf (take c.cut_places-i.result.0 c.args.leaf.items) (take (c.cut_places-i.result.1 - c.cut_places-i.result.0) (drop c.cut_places-i.result.0 c.args.leaf.items)) (drop c.cut_places-i.result.1 c.args.leaf.items) c.in_ok-parted.parted c.in_ok-leaves.leaves
    c.requires.ready c.parts.ensures.noted c.in_ok-parted.ensures.given c.in_ok-parted.ensures.small c.in_ok-parted.ensures.parts (rw c.next-next.ensures at c.in_ok-leaves.ensures.added) c.behind.ensures.peeks (rw c.next-next.ensures at c.follow.ensures)

pub climb-requires-clause-rows : goal.climb-requires-clause-rows
climb-requires-clause-rows g c =
    climb_rows g.R.S.Space g.R.Records c.args.self.now c.parts.new.self c.behind.new.self c.follow.new.self c.args.space.now c.behind.new.space c.args.id c.args.leaf (take c.cut_places-i.result.0 c.args.leaf.items) (take (c.cut_places-i.result.1 - c.cut_places-i.result.0) (drop c.cut_places-i.result.0 c.args.leaf.items)) (drop c.cut_places-i.result.1 c.args.leaf.items) c.in_ok-parted.parted c.in_ok-leaves.leaves
    c.requires.ready c.parts.ensures.noted c.in_ok-parted.ensures.given c.in_ok-parted.ensures.small c.in_ok-parted.ensures.parts (rw c.next-next.ensures at c.in_ok-leaves.ensures.added) c.behind.ensures.peeks (rw c.next-next.ensures at c.follow.ensures)
    c.lay.new.self c.lay.new.space c.in_ok-lay.ensures.laid c.lay.ensures.still c.requires.rows

pub returns-clause-parted : goal.returns-clause-parted
returns-clause-parted g c =
    on_ok_weaker c.climb.result
    (λ climbed. parts_turn g.R.S.Space g.R.Records c.args.self.now c.parts.new.self c.behind.new.self c.follow.new.self c.args.space.now c.behind.new.space c.args.id c.args.leaf (take c.cut_places-i.result.0 c.args.leaf.items) (take (c.cut_places-i.result.1 - c.cut_places-i.result.0) (drop c.cut_places-i.result.0 c.args.leaf.items)) (drop c.cut_places-i.result.1 c.args.leaf.items) c.in_ok-parted.parted c.in_ok-leaves.leaves
    c.requires.ready c.parts.ensures.noted c.in_ok-parted.ensures.given c.in_ok-parted.ensures.small c.in_ok-parted.ensures.parts (rw c.next-next.ensures at c.in_ok-leaves.ensures.added) c.behind.ensures.peeks (rw c.next-next.ensures at c.follow.ensures)
    c.lay.new.self c.lay.new.space c.in_ok-lay.ensures.laid c.lay.ensures.still c.cut_places-i.result.0 c.cut_places-i.result.1 refl refl refl (λ told. c.cut_places-i.ensures.cut (c.requires.over told))
    c.climb.new.self c.climb.new.space climbed c.climb.ensures.grows.head)
    c.climb.ensures.climbed

pub returns-clause-widens : goal.returns-clause-widens
returns-clause-widens g c =
    widens_climb g.R.S.Space g.R.Records c.args.self.now c.parts.new.self c.behind.new.self c.follow.new.self c.args.space.now c.behind.new.space c.args.id c.args.leaf (take c.cut_places-i.result.0 c.args.leaf.items) (take (c.cut_places-i.result.1 - c.cut_places-i.result.0) (drop c.cut_places-i.result.0 c.args.leaf.items)) (drop c.cut_places-i.result.1 c.args.leaf.items) c.in_ok-parted.parted c.in_ok-leaves.leaves
    c.requires.ready c.parts.ensures.noted c.in_ok-parted.ensures.given c.in_ok-parted.ensures.small c.in_ok-parted.ensures.parts (rw c.next-next.ensures at c.in_ok-leaves.ensures.added) c.behind.ensures.peeks (rw c.next-next.ensures at c.follow.ensures)
    c.parts.ensures.least c.parts.ensures.most c.lay.new.self c.lay.new.space c.lay.ensures.still c.climb.new.self c.climb.new.space c.climb.ensures.grows

pub returns-clause-full : goal.returns-clause-full
returns-clause-full g c = λ is.
    lacks_climb g.R.S.Space g.R.Records c.args.self.now c.parts.new.self c.behind.new.self c.follow.new.self c.args.space.now c.behind.new.space c.args.id c.args.leaf (take c.cut_places-i.result.0 c.args.leaf.items) (take (c.cut_places-i.result.1 - c.cut_places-i.result.0) (drop c.cut_places-i.result.0 c.args.leaf.items)) (drop c.cut_places-i.result.1 c.args.leaf.items) c.in_ok-parted.parted c.in_ok-leaves.leaves
    c.requires.ready c.parts.ensures.noted c.in_ok-parted.ensures.given c.in_ok-parted.ensures.small c.in_ok-parted.ensures.parts (rw c.next-next.ensures at c.in_ok-leaves.ensures.added) c.behind.ensures.peeks (rw c.next-next.ensures at c.follow.ensures)
    c.lay.new.self c.lay.new.space c.in_ok-lay.ensures.laid c.lay.ensures.still c.cut_places-i.result.0 c.cut_places-i.result.1 c.climb.new.space
    refl refl refl (λ told. c.cut_places-i.ensures.cut (c.requires.over told)) (c.climb.ensures.full is)
