use Rattle.std.proofs.Common.{refl}
use Rattle.std.proofs.lemmas.Result.{on_ok_weaker}
use Rattle.bt_ways.specs.Removals.{with_next}
use Rattle.bt_ways.proofs.RemovingLinks.{next_none, next_put}
use Rattle.bt_tree.proofs.Unlinkings.{link_full, link_none, link_put, link_ready, link_there, linked_id, linked_ready}
use Rattle.bt_tree.proofs.tree.Tree.link_next.Goals as goal

pub returns-then-id-eq0-clause-linked : goal.returns-then-id-eq0-clause-linked
returns-then-id-eq0-clause-linked g c =
    link_none g.R.S.Space g.R.Records c.args.id (with_next c.args.id c.args.next) (λ pages none. next_none c.args.id c.args.next pages none) c.args.self.now _ c.args.space.now c.requires.sound c.if-id-eq0.true refl refl refl
    (record { order = refl; leaf_limit = refl; node_limit = refl; leaf_ids = refl; node_ids = refl })

pub own_leaf-requires-clause-ready : goal.own_leaf-requires-clause-ready
own_leaf-requires-clause-ready g c = link_ready g.R.S.Space g.R.Records c.args.id (with_next c.args.id c.args.next) c.args.self.now c.args.space.now c.requires

pub own_leaf-requires-clause-there : goal.own_leaf-requires-clause-there
own_leaf-requires-clause-there g c = link_there g.R.S.Space g.R.Records c.args.id (with_next c.args.id c.args.next) c.args.self.now c.args.space.now c.if-id-eq0.false c.requires

pub put_leaf-requires-clause-ready : goal.put_leaf-requires-clause-ready
put_leaf-requires-clause-ready g c =
    linked_ready g.R.S.Space g.R.Records c.args.id (with_next c.args.id c.args.next) (λ l. record { prev = l.prev; next = c.args.next; items = l.items }) (λ l pages is. next_put c.args.id c.args.next l pages is) (λ l. refl)
    c.args.self.now c.own_leaf.new.self c.args.space.now c.own_leaf.new.space c.if-id-eq0.false c.own_leaf.ensures.peeks c.in_ok-leaf.leaf c.in_ok-leaf.ensures.leaf c.requires

pub put_leaf-requires-clause-id : goal.put_leaf-requires-clause-id
put_leaf-requires-clause-id g c =
    linked_id g.R.S.Space g.R.Records c.args.id (with_next c.args.id c.args.next) (λ l. record { prev = l.prev; next = c.args.next; items = l.items }) (λ l pages is. next_put c.args.id c.args.next l pages is) (λ l. refl)
    c.args.self.now c.own_leaf.new.self c.args.space.now c.own_leaf.new.space c.if-id-eq0.false c.own_leaf.ensures.peeks c.in_ok-leaf.leaf c.in_ok-leaf.ensures.leaf c.requires

pub returns-clause-linked : goal.returns-clause-linked
returns-clause-linked g c =
    on_ok_weaker c.put_leaf.result
    (λ put. link_put g.R.S.Space g.R.Records c.args.id (with_next c.args.id c.args.next) (λ l. record { prev = l.prev; next = c.args.next; items = l.items }) (λ l pages is. next_put c.args.id c.args.next l pages is) (λ l. refl)
    c.args.self.now c.own_leaf.new.self c.args.space.now c.own_leaf.new.space c.if-id-eq0.false c.own_leaf.ensures.peeks c.in_ok-leaf.leaf c.in_ok-leaf.ensures.leaf c.put_leaf.new.self c.put_leaf.new.space put)
    (rw c.in_ok-leaf-2.ensures at c.put_leaf.ensures.put)

pub returns-clause-full : goal.returns-clause-full
returns-clause-full g c = λ is.
    link_full g.R.S.Space g.R.Records c.args.id (with_next c.args.id c.args.next) (λ l. record { prev = l.prev; next = c.args.next; items = l.items }) (λ l pages is. next_put c.args.id c.args.next l pages is) (λ l. refl)
    c.args.self.now c.own_leaf.new.self c.args.space.now c.own_leaf.new.space c.if-id-eq0.false c.own_leaf.ensures.peeks c.in_ok-leaf.leaf c.in_ok-leaf.ensures.leaf c.put_leaf.new.space (rw c.in_ok-leaf-2.ensures at c.put_leaf.ensures.full is)
