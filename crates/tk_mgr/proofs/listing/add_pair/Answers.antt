use Rattle.std.proofs.Common.{rules}
use Rattle.tk_mgr.proofs.Printing.{pair_added}
use Rattle.tk_mgr.proofs.listing.add_pair.Goals as goal

pub returns-clause-line : goal.returns-clause-line
returns-clause-line g c = λ d h. pair_added d c.args.key.now c.in_ok-wanted.wanted _ c.append.new.self c.push.new.self c.add_value.new.into _ c.in_ok-held.held c.in_ok-wanted.ensures c.in_ok-append.ensures.ok c.in_ok-push.ensures.ok (search rules) (c.in_ok-held.ensures.value d h) c.in_ok-push-2.ensures.ok
