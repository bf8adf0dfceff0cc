use Rattle.bt_cache.proofs.Uses.{front_page, no_front}
use Rattle.bt_rows.specs.declared.page.Page.TheVariants.{Leaf as leaf_page}
use Rattle.bt_cache.proofs.cache.Cache.leaf.Goals as goal

pub bring-requires-clause-there : goal.bring-requires-clause-there
bring-requires-clause-there g c = λ t. let h = c.requires.there t in (h.0, h.1, h.2, h.3, tt)

pub returns-in_default-clause-leaf : goal.returns-in_default-clause-leaf
returns-in_default-clause-leaf g c = λ m l b h. absurd (no_front c.bring.new.self.pages c.args.id c.in_default.ensures c.in_ok-bring.ensures.front)

pub returns-clause-leaf : goal.returns-clause-leaf
returns-clause-leaf g c = λ m l b h.
    c.in_ok-leaf.ensures l (front_page m c.bring.new.self.pages c.args.id _ c.in-Some.page.now (leaf_page l) c.in-Some.ensures c.in_ok-bring.ensures.front (c.bring.ensures.looks.reads.means m b).1 h)
