use Rattle.std.proofs.Common.{◌∙◌, ◌++◌, List, ℕ, ap}
use Rattle.bt_page.specs.Keys.{key_of}
use Rattle.bt_cache.proofs.Uses.{ready_store}
use Rattle.bt_cache.proofs.Changes.{put_writes, put_refused, put_list}
use Rattle.bt_cache.proofs.cache.Cache.put_page.Goals as goal

pub put-requires-2 : goal.put-requires-2
put-requires-2 g c = ready_store g.R.S.Space g.R.Records c.args.self.now.pages c.args.store.now c.args.space.now c.requires.ready

pub returns-in-Err-clause-refused : goal.returns-in-Err-clause-refused
returns-in-Err-clause-refused g c =
    put_refused g.R.S.Space g.R.Records c.args.self.now.pages c.put.new.self c.pop-back.new.self c.args.id c.args.page c.args.store.now c.put-2.new.self c.args.space.now c.put-2.new.space
    c.len-count.ensures.valid c.in-Ok.ensures.entries c.pop-back.ensures.entries c.in-Err.ensures.refused

pub returns-clause-put : goal.returns-clause-put
returns-clause-put g c =
    put_writes g.R.S.Space g.R.Records _ c.args.self.now.pages c.put.new.self c.args.id c.args.page _ c.args.bytes.now c.args.store.now c.put-2.new.self c.args.space.now c.put-2.new.space
    c.ranges.id.fits (c.as_slice.ensures ∙ c.in_ok-page_key.ensures.ok ∙ ap (λ (l : List ℕ). l ++ key_of c.args.id) c.clear.ensures) c.requires.page c.len-count.ensures.valid c.in-Ok.ensures.entries c.in_default-put.ensures.put

pub returns-clause-list : goal.returns-clause-list
returns-clause-list g c = put_list c.args.self.now.pages c.put.new.self c.args.id c.args.page c.len-count.ensures.valid c.in-Ok.ensures.entries
