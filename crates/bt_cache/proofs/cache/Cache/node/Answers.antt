use Rattle.bt_cache.proofs.Uses.{front_page, no_front}
use Rattle.bt_rows.specs.declared.page.Page.TheVariants.{Node as node_page}
use Rattle.bt_cache.proofs.cache.Cache.node.Goals as goal

pub bring-requires-clause-there : goal.bring-requires-clause-there
bring-requires-clause-there g c = λ t. let h = c.requires.there t in (h.0, h.1, h.2, h.3, tt)

pub returns-in_default-clause-node : goal.returns-in_default-clause-node
returns-in_default-clause-node g c = λ m n b h. absurd (no_front c.bring.new.self.pages c.args.id c.in_default.ensures c.in_ok-bring.ensures.front)

pub returns-clause-node : goal.returns-clause-node
returns-clause-node g c = λ m n b h.
    c.in_ok-node.ensures n (front_page m c.bring.new.self.pages c.args.id _ c.in-Some.page.now (node_page n) c.in-Some.ensures c.in_ok-bring.ensures.front (c.bring.ensures.looks.reads.means m b).1 h)
