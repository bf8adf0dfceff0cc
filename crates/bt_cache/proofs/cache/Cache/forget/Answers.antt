use Rattle.std.proofs.Common.{sym, subst}
use Rattle.bt_cache.specs.Shared.{page_of}
use Rattle.bt_cache.specs.Held.{Pages, HasPage, AreSame}
use Rattle.bt_cache.proofs.Entries.{all_left}
use Rattle.bt_cache.proofs.Changes.{drop_list}
use Rattle.bt_cache.proofs.cache.Cache.forget.Goals as goal

pub returns-clause-list : goal.returns-clause-list
returns-clause-list g c = drop_list c.args.self.now.pages c.pop.new.self c.args.id c.len-count.ensures.valid c.pop.ensures.entries

pub returns-clause-same : goal.returns-clause-same
returns-clause-same g c = λ m a. subst (λ (k : Pages). AreSame m k.entries) (sym c.pop.ensures.entries) (all_left (λ e. HasPage m e.0 (page_of e.1)) c.args.id c.args.self.now.pages.entries a)
