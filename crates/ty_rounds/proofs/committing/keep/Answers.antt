use Rattle.std.proofs.Common.{rules}
use Rattle.tc_space.specs.Frames.{only_reads_refl}
use Rattle.ty_base.specs.Holding.{Laid, frame_of, log_stays}
use Rattle.ty_rounds.specs.Keeping.{kept_frame}
use Rattle.ty_rounds.proofs.Keeping.{nothing_kept, is_kept, kept_packed, none_moved, settled_moves, settles_laid, committed_moves}
use Rattle.ty_rounds.proofs.committing.keep.Goals as goal

pub returns-then-not-commits-clause-kept : goal.returns-then-not-commits-clause-kept
returns-then-not-commits-clause-kept g c = nothing_kept g.B.S.Space g.B.Storage.holds g.B.Storage.reopens _ _ _ c.requires.may.ready (c.requires.may.untouched (search rules)) (search rules)

pub returns-then-not-commits-clause-moments : goal.returns-then-not-commits-clause-moments
returns-then-not-commits-clause-moments g c = λ m h. none_moved g.B.S.Space _ _ m

pub returns-then-not-commits-clause-idle : goal.returns-then-not-commits-clause-idle
returns-then-not-commits-clause-idle g c = λ e. only_reads_refl g.B.S.Space _ c.requires.may.ready.sound

pub returns-in_err-settle-clause-moments : goal.returns-in_err-settle-clause-moments
returns-in_err-settle-clause-moments g c = λ m h. settled_moves g.B.S.Space _ _ _ m c.settle.ensures.keeps h.held.0

pub returns-in_err-settle-clause-full : goal.returns-in_err-settle-clause-full
returns-in_err-settle-clause-full g c = λ is. (search rules, c.in_err-settle.ensures.full (search rules))

pub returns-in-Ok-clause-kept : goal.returns-in-Ok-clause-kept
returns-in-Ok-clause-kept g c = is_kept g.B.S.Space g.B.Storage.holds g.B.Storage.reopens _ _ _ _ c.settle.new.space _ c.requires.may.ready c.in_ok-settle.ensures.settled (log_stays g.B.S.Space g.B.Storage.own c.args.space.now c.settle.new.space g.met.B.Storage.no_logs.1 c.in_ok-settle.ensures.others) c.in-Ok.ensures.now (search rules) (search rules)

pub returns-in-Ok-clause-packs : goal.returns-in-Ok-clause-packs
returns-in-Ok-clause-packs g c = λ is from form d tight h. kept_packed g.B.S.Space (g.B.Storage.packed from form) c.settle.new.space _ (c.in-Ok.ensures.now h.0) (c.in_ok-settle.ensures.packs from form d tight h)

pub returns-in-Ok-clause-moments : goal.returns-in-Ok-clause-moments
returns-in-Ok-clause-moments g c = λ m h. committed_moves g.B.S.Space _ _ _ _ _ c.settle.new.space _ m c.settle.ensures.keeps c.in_ok-settle.ensures.settled (log_stays g.B.S.Space g.B.Storage.own c.args.space.now c.settle.new.space g.met.B.Storage.no_logs.1 c.in_ok-settle.ensures.others) c.commit.ensures.moments h

pub returns-in-Err-clause-moments : goal.returns-in-Err-clause-moments
returns-in-Err-clause-moments g c = λ m h. committed_moves g.B.S.Space _ _ _ _ _ c.settle.new.space _ m c.settle.ensures.keeps c.in_ok-settle.ensures.settled (log_stays g.B.S.Space g.B.Storage.own c.args.space.now c.settle.new.space g.met.B.Storage.no_logs.1 c.in_ok-settle.ensures.others) c.commit.ensures.moments h

pub returns-then-not-commits-clause-laid : goal.returns-then-not-commits-clause-laid
returns-then-not-commits-clause-laid g c = nothing_kept g.B.S.Space g.B.Storage.holds (Laid g.B.Storage.own g.B.Storage.layout (kept_frame c.args.commits (frame_of g.B.Storage.layout (g.B.S.Space.now c.args.space.now))) g.B.Storage.reopens) _ _ _ c.requires.may.ready (c.requires.may.untouched (search rules)) (search rules)

pub returns-then-not-commits-clause-moved : goal.returns-then-not-commits-clause-moved
returns-then-not-commits-clause-moved g c = λ m h. none_moved g.B.S.Space (Laid g.B.Storage.own g.B.Storage.layout (kept_frame c.args.commits (frame_of g.B.Storage.layout (g.B.S.Space.now c.args.space.now))) g.B.Storage.reopens) _ m

pub returns-in_err-settle-clause-moved : goal.returns-in_err-settle-clause-moved
returns-in_err-settle-clause-moved g c = λ m h. settled_moves g.B.S.Space (Laid g.B.Storage.own g.B.Storage.layout (kept_frame c.args.commits (frame_of g.B.Storage.layout (g.B.S.Space.now c.args.space.now))) g.B.Storage.reopens) _ _ m c.settle.ensures.keeps h.held.0

pub returns-in-Ok-clause-laid : goal.returns-in-Ok-clause-laid
returns-in-Ok-clause-laid g c = is_kept g.B.S.Space g.B.Storage.holds (Laid g.B.Storage.own g.B.Storage.layout (kept_frame c.args.commits (frame_of g.B.Storage.layout (g.B.S.Space.now c.args.space.now))) g.B.Storage.reopens) _ _ _ _ c.settle.new.space _ c.requires.may.ready (settles_laid g.B.S.Space g.B.Storage.holds g.B.Storage.reopens g.B.Storage.own g.B.Storage.layout c.args.commits c.args.base.now c.settle.new.self c.args.space.now c.settle.new.space c.in_ok-settle.ensures.settled c.in_ok-settle.ensures.trims c.in_ok-settle.ensures.others) (log_stays g.B.S.Space g.B.Storage.own c.args.space.now c.settle.new.space g.met.B.Storage.no_logs.1 c.in_ok-settle.ensures.others) c.in-Ok.ensures.now (search rules) (search rules)

pub returns-in-Ok-clause-moved : goal.returns-in-Ok-clause-moved
returns-in-Ok-clause-moved g c = λ m h. committed_moves g.B.S.Space g.B.Storage.holds (Laid g.B.Storage.own g.B.Storage.layout (kept_frame c.args.commits (frame_of g.B.Storage.layout (g.B.S.Space.now c.args.space.now))) g.B.Storage.reopens) _ _ _ c.settle.new.space _ m c.settle.ensures.keeps (settles_laid g.B.S.Space g.B.Storage.holds g.B.Storage.reopens g.B.Storage.own g.B.Storage.layout c.args.commits c.args.base.now c.settle.new.self c.args.space.now c.settle.new.space c.in_ok-settle.ensures.settled c.in_ok-settle.ensures.trims c.in_ok-settle.ensures.others) (log_stays g.B.S.Space g.B.Storage.own c.args.space.now c.settle.new.space g.met.B.Storage.no_logs.1 c.in_ok-settle.ensures.others) c.commit.ensures.moments h

pub returns-in-Err-clause-moved : goal.returns-in-Err-clause-moved
returns-in-Err-clause-moved g c = λ m h. committed_moves g.B.S.Space g.B.Storage.holds (Laid g.B.Storage.own g.B.Storage.layout (kept_frame c.args.commits (frame_of g.B.Storage.layout (g.B.S.Space.now c.args.space.now))) g.B.Storage.reopens) _ _ _ c.settle.new.space _ m c.settle.ensures.keeps (settles_laid g.B.S.Space g.B.Storage.holds g.B.Storage.reopens g.B.Storage.own g.B.Storage.layout c.args.commits c.args.base.now c.settle.new.self c.args.space.now c.settle.new.space c.in_ok-settle.ensures.settled c.in_ok-settle.ensures.trims c.in_ok-settle.ensures.others) (log_stays g.B.S.Space g.B.Storage.own c.args.space.now c.settle.new.space g.met.B.Storage.no_logs.1 c.in_ok-settle.ensures.others) c.commit.ensures.moments h
