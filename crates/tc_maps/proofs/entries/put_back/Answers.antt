use Rattle.std.proofs.Common.{◌≡◌, Some, ap, rules}
use Rattle.std.proofs.lemmas.Result.{on_ok_weaker, on_err_weaker}
use Rattle.tc_maps.specs.Entries.{pairs_of}
use Rattle.tc_maps.proofs.Changes.{at, by_entry, back_new, back_old, same_put}
use Rattle.tc_maps.proofs.entries.put_back.Goals as goal

found : (c : goal.After-entries-in-Occupied-2-1) → at c.args.entries.now.entries c.args.key ≡ Some c.into_mut.result.now
found c = cc (c.in_ok-entry.ensures.value, c.in-Occupied.is, c.into_mut.ensures.value)

pub returns-in-Occupied-clause-ok : goal.returns-in-Occupied-clause-ok
returns-in-Occupied-clause-ok c =
    on_ok_weaker c.push.result (λ e. back_old _ _ _ c.args.value c.into_mut.result.now (by_entry _ _ _ _ _ c.entry.ensures.ordered c.in_ok-entry.ensures.update.1 (search (rules, e))) (found c)) c.push.ensures.ok

pub returns-in-Occupied-clause-err : goal.returns-in-Occupied-clause-err
returns-in-Occupied-clause-err c =
    on_err_weaker c.push.result (λ e. ap pairs_of (same_put _ _ _ c.into_mut.result.now (by_entry _ _ _ _ _ c.entry.ensures.ordered c.in_ok-entry.ensures.update.1 (search (rules, e))) (found c))) c.push.ensures.err

pub returns-in-Vacant-clause-ok : goal.returns-in-Vacant-clause-ok
returns-in-Vacant-clause-ok c = back_new _ _ _ _ (by_entry _ _ _ _ _ c.entry.ensures.ordered c.in_ok-entry.ensures.update.1 (search (rules, c.one.ensures))) (rw c.in-Vacant.is at c.in_ok-entry.ensures.found)
