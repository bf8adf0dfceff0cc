use Rattle.std.proofs.Common.{◌∙◌, ◌++◌, List, ℕ, ap}
use Rattle.bt_page.specs.Keys.{key_of}
use Rattle.bt_cache.proofs.Uses.{ready_store}
use Rattle.bt_cache.proofs.Changes.{drop_writes, drop_list}
use Rattle.bt_cache.proofs.cache.Cache.drop_page.Goals as goal

pub out-requires : goal.out-requires
out-requires g c = ready_store g.R.S.Space g.R.Records c.args.self.now.pages c.args.store.now c.args.space.now c.requires

pub returns-clause-out : goal.returns-clause-out
returns-clause-out g c =
    drop_writes g.R.S.Space g.R.Records _ c.args.self.now.pages c.pop-page.new.self c.args.id _ c.in_ok-out.field-0 c.args.store.now c.out.new.self c.args.space.now c.out.new.space
    c.ranges.id.fits (c.as_slice.ensures ∙ c.in_ok-page_key.ensures.ok ∙ ap (λ (l : List ℕ). l ++ key_of c.args.id) c.clear.ensures) c.len-count.ensures.valid c.pop-page.ensures.entries c.in_ok-out.ensures.out

pub returns-clause-list : goal.returns-clause-list
returns-clause-list g c = drop_list c.args.self.now.pages c.pop-page.new.self c.args.id c.len-count.ensures.valid c.pop-page.ensures.entries
