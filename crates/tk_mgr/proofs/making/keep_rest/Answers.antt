use Rattle.std.proofs.Common.{rules}
use Rattle.ty_base.specs.Holding.{Laid}
use Rattle.tk_mgr.proofs.Ends.{ready_may}
use Rattle.tk_mgr.proofs.Secured.{moved_like, secured, secured_fills, secured_like, secured_moves, stands_hold, unmade_moves}
use Rattle.tk_mgr.proofs.making.keep_rest.Goals as goal

pub tell_some-requires-clause-ready : goal.tell_some-requires-clause-ready
tell_some-requires-clause-ready g c = ready_may g.B.S.Space g.B.Storage.holds g.B.Storage.reopens _ _ c.requires.may

pub returns-in_err-text-clause-moments : goal.returns-in_err-text-clause-moments
returns-in_err-text-clause-moments g c = unmade_moves g.B.S.Space g.B.Storage.holds g.B.Storage.reopens _ _ _ _ _ c.tell_some.ensures.keeps

pub returns-in_err-text-clause-full : goal.returns-in_err-text-clause-full
returns-in_err-text-clause-full g c = λ is seed m st. c.in_err-text.ensures.full (search (rules, is)) seed m (stands_hold g.B.S.Space g.B.Storage.holds g.B.Storage.reopens seed _ _ _ m st)

pub returns-clause-secures : goal.returns-clause-secures
returns-clause-secures g c = secured g.B.S.Space g.B.Storage.holds g.B.Storage.reopens _ _ _ _ _ _ _ _ _ c.in_ok-text.ensures.makes c.in_ok-save.ensures.kept

pub returns-clause-moments : goal.returns-clause-moments
returns-clause-moments g c = secured_moves g.B.S.Space g.B.Storage.holds g.B.Storage.reopens _ _ _ _ _ c.save.new.base _ _ _ c.in_ok-text.ensures.makes c.tell_some.ensures.keeps c.save.ensures.moments

pub returns-in_err-save-clause-moments : goal.returns-in_err-save-clause-moments
returns-in_err-save-clause-moments g c = secured_moves g.B.S.Space g.B.Storage.holds g.B.Storage.reopens _ _ _ _ _ c.save.new.base _ _ _ c.in_ok-text.ensures.makes c.tell_some.ensures.keeps c.save.ensures.moments

pub returns-in_err-save-clause-full : goal.returns-in_err-save-clause-full
returns-in_err-save-clause-full g c = λ is. secured_fills g.B.S.Space g.B.Storage.holds g.B.Storage.reopens _ _ _ _ _ c.save.new.base _ _ c.save.new.space c.in_ok-text.ensures.makes _ _ _ (c.in_err-save.ensures.full (search (rules, is)))

-- ---- laid out like what was there

pub returns-in_err-text-clause-moved : goal.returns-in_err-text-clause-moved
returns-in_err-text-clause-moved g c = λ l. unmade_moves g.B.S.Space g.B.Storage.holds (Laid g.B.Storage.own g.B.Storage.layout l g.B.Storage.reopens) _ _ _ _ _ c.tell_some.ensures.keeps

pub returns-in_err-save-clause-moved : goal.returns-in_err-save-clause-moved
returns-in_err-save-clause-moved g c = λ l. moved_like g.B.S.Space g.B.Storage.holds g.B.Storage.reopens _ _ _ _ c.tell_some.new.base c.args.space.now c.tell_some.new.space c.save.new.space g.B.Storage.own g.B.Storage.layout l c.in_ok-text.ensures.makes c.tell_some.ensures.keeps c.in_ok-text.ensures.leaves c.save.ensures.moved

pub returns-clause-moved : goal.returns-clause-moved
returns-clause-moved g c = λ l. moved_like g.B.S.Space g.B.Storage.holds g.B.Storage.reopens _ _ _ _ c.tell_some.new.base c.args.space.now c.tell_some.new.space c.save.new.space g.B.Storage.own g.B.Storage.layout l c.in_ok-text.ensures.makes c.tell_some.ensures.keeps c.in_ok-text.ensures.leaves c.save.ensures.moved

pub returns-clause-laid : goal.returns-clause-laid
returns-clause-laid g c = λ l. secured_like g.B.S.Space g.B.Storage.holds g.B.Storage.reopens _ _ _ _ c.tell_some.new.base c.save.new.base c.args.space.now c.tell_some.new.space c.save.new.space c.in_ok-text.ensures.makes g.B.Storage.own g.B.Storage.layout l c.in_ok-text.ensures.leaves c.in_ok-save.ensures.laid
