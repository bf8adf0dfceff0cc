use Rattle.std.proofs.Common.{ℕ, sym, subst}
use Rattle.std.specs.Prelude.{Option}
use Rattle.ty_ulog.specs.Feeds.{CountsAt}
use Rattle.ty_ulog.proofs.Feeding.{counts_none, found_by, found_held, room_falls}
use Rattle.ty_ulog.proofs.feed.Feed.find.Goals as goal

pub returns-in-Some-clause-found : goal.returns-in-Some-clause-found
returns-in-Some-clause-found g c = λ rs m. found_held c.args.self.now rs _ c.in-Some.is

pub returns-in-Some-clause-counted : goal.returns-in-Some-clause-counted
returns-in-Some-clause-counted g c = counts_none g.S.Space c.args.log.now c.args.self.now.place c.args.space.now

pub returns-in-None-clause-found : goal.returns-in-None-clause-found
returns-in-None-clause-found g c = found_by g.S.Space c.args.log.now c.args.space.now c.first_above.result c.args.self.now c.in-None.is c.first_above.ensures.found

pub returns-in-None-clause-falls : goal.returns-in-None-clause-falls
returns-in-None-clause-falls g c = room_falls _ _ c.in-None.is

pub returns-in-None-clause-counted : goal.returns-in-None-clause-counted
returns-in-None-clause-counted g c = subst (λ (p : Option ℕ). CountsAt g.S.Space c.args.log.now p c.args.space.now c.first_above.new.space 0) (sym c.in-None.is) c.first_above.ensures.counted
