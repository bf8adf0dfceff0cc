use Rattle.std.proofs.Common.{rules, inl, inr, [], arith}
use Rattle.tc_space.specs.Frames.{keeps_then, only_reads_refl}
use Rattle.ty_base.proofs.Refusals.{err_is}
use Rattle.ty_base.specs.Holding.{Laid, frame_of, log_stays}
use Rattle.ty_ulog.proofs.Asking.{none_small}
use Rattle.ty_rounds.specs.Keeping.{kept_frame}
use Rattle.ty_rounds.specs.Works.{work}
use Rattle.ty_rounds.specs.declared.outcome.TurnErr.TheVariants.{Volume as volume}
use Rattle.ty_rounds.proofs.FollowLaws.{commit_follows, keeps_follow}
use Rattle.ty_rounds.proofs.Keeping.{settles_laid}
use Rattle.ty_rounds.proofs.KeepingRound.{all_kept, all_lack, commit_failed, keep_failed, laid_apart, nothing_kept_of, storage_apart}
use Rattle.ty_rounds.proofs.Telling.{Adds-none}
use Rattle.ty_rounds.proofs.committing.keep_round.Goals as goal

pub returns-then-not-batch-clause-keeps : goal.returns-then-not-batch-clause-keeps
returns-then-not-batch-clause-keeps g c = nothing_kept_of g.B.S.Space g.B.Storage.holds g.B.Storage.reopens (work c.args.batch.now) _ c.args.logged.now c.args.base.now c.args.space.now (Adds-none _) c.requires.may.may.ready (c.requires.may.may.untouched (search rules)) (search rules) c.requires.may.fit

pub returns-in_err-settle-clause-keeps : goal.returns-in_err-settle-clause-keeps
returns-in_err-settle-clause-keeps g c = rw (err_is c.from_residual.result _ c.from_residual.ensures.1) (keep_failed g.B.S.Space g.B.Storage.holds g.B.Storage.reopens (work c.args.batch.now) _ _ [] c.args.logged.now c.args.logged.now c.args.base.now c.settle.new.self c.args.space.now c.settle.new.space _ (Adds-none _) none_small (omega arith) c.settle.ensures.keeps (λ is. (search rules, inl (c.in_err-settle.ensures.full (search (rules, is))))))

pub returns-in_err-write_all-clause-keeps : goal.returns-in_err-write_all-clause-keeps
returns-in_err-write_all-clause-keeps g c = let w = c.write_all.ensures.writes in rw (err_is c.from_residual-in_err-write_all.result _ c.from_residual-in_err-write_all.ensures.1) (keep_failed g.B.S.Space g.B.Storage.holds g.B.Storage.reopens (work c.args.batch.now) _ _ w.ticks c.args.logged.now c.write_all.new.logged c.args.base.now c.settle.new.self c.args.space.now c.write_all.new.space _ w.told w.small w.few (keeps_then g.B.S.Space c.args.space.now c.settle.new.space c.write_all.new.space c.settle.ensures.keeps c.write_all.ensures.frame.keeps)
    (λ is. (search rules, inr (all_lack g.B.S.Space g.B.Storage.holds g.B.Storage.reopens c.args.logged.now (work c.args.batch.now) w.ticks c.args.base.now c.args.space.now c.settle.new.space c.write_all.new.space (log_stays g.B.S.Space g.B.Storage.own c.args.space.now c.settle.new.space g.met.B.Storage.no_logs.1 c.in_ok-settle.ensures.others) (w.full (search (rules, is)))))))

pub returns-in-Ok-clause-keeps : goal.returns-in-Ok-clause-keeps
returns-in-Ok-clause-keeps g c = let w = c.in_ok-write_all.ensures.writes in all_kept g.B.S.Space g.B.Storage.holds g.B.Storage.reopens (work c.args.batch.now) _ _ w.ticks c.args.logged.now c.write_all.new.logged c.args.base.now c.settle.new.self c.args.space.now c.settle.new.space c.write_all.new.space c.commit.new.self w.told w.small (record { apart = storage_apart g.B.Storage.holds g.B.Storage.reopens g.B.Storage.own g.B.Storage.layout g.B.Storage.packed g.B.Storage.lines g.met.B.Storage.no_logs g.met.B.Storage.apart; settled = c.in_ok-settle.ensures.settled; log = (log_stays g.B.S.Space g.B.Storage.own c.args.space.now c.settle.new.space g.met.B.Storage.no_logs.1 c.in_ok-settle.ensures.others); wrote = c.in_ok-write_all.ensures.writes.wrote }) (keeps_then g.B.S.Space c.args.space.now c.settle.new.space c.write_all.new.space c.settle.ensures.keeps c.write_all.ensures.frame.keeps) c.requires.may.may.ready (search rules) (search rules) c.in-Ok.ensures.now c.commit.ensures.moments

pub returns-in-Err-clause-keeps : goal.returns-in-Err-clause-keeps
returns-in-Err-clause-keeps g c = let w = c.in_ok-write_all.ensures.writes in commit_failed g.B.S.Space g.B.Storage.holds g.B.Storage.reopens (work c.args.batch.now) _ _ w.ticks c.args.logged.now c.write_all.new.logged c.args.base.now c.settle.new.self c.args.space.now c.settle.new.space c.write_all.new.space c.commit.new.self volume (λ e. cc) w.told w.small (record { apart = storage_apart g.B.Storage.holds g.B.Storage.reopens g.B.Storage.own g.B.Storage.layout g.B.Storage.packed g.B.Storage.lines g.met.B.Storage.no_logs g.met.B.Storage.apart; settled = c.in_ok-settle.ensures.settled; log = (log_stays g.B.S.Space g.B.Storage.own c.args.space.now c.settle.new.space g.met.B.Storage.no_logs.1 c.in_ok-settle.ensures.others); wrote = c.in_ok-write_all.ensures.writes.wrote }) (keeps_then g.B.S.Space c.args.space.now c.settle.new.space c.write_all.new.space c.settle.ensures.keeps c.write_all.ensures.frame.keeps) c.commit.ensures.moments

pub returns-then-not-batch-clause-laid : goal.returns-then-not-batch-clause-laid
returns-then-not-batch-clause-laid g c = nothing_kept_of g.B.S.Space g.B.Storage.holds (Laid g.B.Storage.own g.B.Storage.layout (kept_frame c.args.batch.now.commits (frame_of g.B.Storage.layout (g.B.S.Space.now c.args.space.now))) g.B.Storage.reopens) (work c.args.batch.now) _ c.args.logged.now c.args.base.now c.args.space.now (Adds-none _) c.requires.may.may.ready (c.requires.may.may.untouched (search rules)) (search rules) c.requires.may.fit

pub returns-in_err-settle-clause-laid : goal.returns-in_err-settle-clause-laid
returns-in_err-settle-clause-laid g c = rw (err_is c.from_residual.result _ c.from_residual.ensures.1) (keep_failed g.B.S.Space g.B.Storage.holds (Laid g.B.Storage.own g.B.Storage.layout (kept_frame c.args.batch.now.commits (frame_of g.B.Storage.layout (g.B.S.Space.now c.args.space.now))) g.B.Storage.reopens) (work c.args.batch.now) _ _ [] c.args.logged.now c.args.logged.now c.args.base.now c.settle.new.self c.args.space.now c.settle.new.space _ (Adds-none _) none_small (omega arith) c.settle.ensures.keeps (λ is. (search rules, inl (c.in_err-settle.ensures.full (search (rules, is))))))

pub returns-in_err-write_all-clause-laid : goal.returns-in_err-write_all-clause-laid
returns-in_err-write_all-clause-laid g c = let w = c.write_all.ensures.writes in rw (err_is c.from_residual-in_err-write_all.result _ c.from_residual-in_err-write_all.ensures.1) (keep_failed g.B.S.Space g.B.Storage.holds (Laid g.B.Storage.own g.B.Storage.layout (kept_frame c.args.batch.now.commits (frame_of g.B.Storage.layout (g.B.S.Space.now c.args.space.now))) g.B.Storage.reopens) (work c.args.batch.now) _ _ w.ticks c.args.logged.now c.write_all.new.logged c.args.base.now c.settle.new.self c.args.space.now c.write_all.new.space _ w.told w.small w.few (keeps_then g.B.S.Space c.args.space.now c.settle.new.space c.write_all.new.space c.settle.ensures.keeps c.write_all.ensures.frame.keeps)
    (λ is. (search rules, inr (all_lack g.B.S.Space g.B.Storage.holds (Laid g.B.Storage.own g.B.Storage.layout (kept_frame c.args.batch.now.commits (frame_of g.B.Storage.layout (g.B.S.Space.now c.args.space.now))) g.B.Storage.reopens) c.args.logged.now (work c.args.batch.now) w.ticks c.args.base.now c.args.space.now c.settle.new.space c.write_all.new.space (log_stays g.B.S.Space g.B.Storage.own c.args.space.now c.settle.new.space g.met.B.Storage.no_logs.1 c.in_ok-settle.ensures.others) (w.full (search (rules, is)))))))

pub returns-in-Ok-clause-laid : goal.returns-in-Ok-clause-laid
returns-in-Ok-clause-laid g c = let w = c.in_ok-write_all.ensures.writes in all_kept g.B.S.Space g.B.Storage.holds (Laid g.B.Storage.own g.B.Storage.layout (kept_frame c.args.batch.now.commits (frame_of g.B.Storage.layout (g.B.S.Space.now c.args.space.now))) g.B.Storage.reopens) (work c.args.batch.now) _ _ w.ticks c.args.logged.now c.write_all.new.logged c.args.base.now c.settle.new.self c.args.space.now c.settle.new.space c.write_all.new.space c.commit.new.self w.told w.small (record { apart = laid_apart g.B.Storage.holds g.B.Storage.reopens g.B.Storage.own g.B.Storage.layout g.B.Storage.packed g.B.Storage.lines (kept_frame c.args.batch.now.commits (frame_of g.B.Storage.layout (g.B.S.Space.now c.args.space.now))) g.met.B.Storage.no_logs g.met.B.Storage.apart; settled = settles_laid g.B.S.Space g.B.Storage.holds g.B.Storage.reopens g.B.Storage.own g.B.Storage.layout c.args.batch.now.commits c.args.base.now c.settle.new.self c.args.space.now c.settle.new.space c.in_ok-settle.ensures.settled c.in_ok-settle.ensures.trims c.in_ok-settle.ensures.others; log = (log_stays g.B.S.Space g.B.Storage.own c.args.space.now c.settle.new.space g.met.B.Storage.no_logs.1 c.in_ok-settle.ensures.others); wrote = c.in_ok-write_all.ensures.writes.wrote }) (keeps_then g.B.S.Space c.args.space.now c.settle.new.space c.write_all.new.space c.settle.ensures.keeps c.write_all.ensures.frame.keeps) c.requires.may.may.ready (search rules) (search rules) c.in-Ok.ensures.now c.commit.ensures.moments

pub returns-in-Err-clause-laid : goal.returns-in-Err-clause-laid
returns-in-Err-clause-laid g c = let w = c.in_ok-write_all.ensures.writes in commit_failed g.B.S.Space g.B.Storage.holds (Laid g.B.Storage.own g.B.Storage.layout (kept_frame c.args.batch.now.commits (frame_of g.B.Storage.layout (g.B.S.Space.now c.args.space.now))) g.B.Storage.reopens) (work c.args.batch.now) _ _ w.ticks c.args.logged.now c.write_all.new.logged c.args.base.now c.settle.new.self c.args.space.now c.settle.new.space c.write_all.new.space c.commit.new.self volume (λ e. cc) w.told w.small (record { apart = laid_apart g.B.Storage.holds g.B.Storage.reopens g.B.Storage.own g.B.Storage.layout g.B.Storage.packed g.B.Storage.lines (kept_frame c.args.batch.now.commits (frame_of g.B.Storage.layout (g.B.S.Space.now c.args.space.now))) g.met.B.Storage.no_logs g.met.B.Storage.apart; settled = settles_laid g.B.S.Space g.B.Storage.holds g.B.Storage.reopens g.B.Storage.own g.B.Storage.layout c.args.batch.now.commits c.args.base.now c.settle.new.self c.args.space.now c.settle.new.space c.in_ok-settle.ensures.settled c.in_ok-settle.ensures.trims c.in_ok-settle.ensures.others; log = (log_stays g.B.S.Space g.B.Storage.own c.args.space.now c.settle.new.space g.met.B.Storage.no_logs.1 c.in_ok-settle.ensures.others); wrote = c.in_ok-write_all.ensures.writes.wrote }) (keeps_then g.B.S.Space c.args.space.now c.settle.new.space c.write_all.new.space c.settle.ensures.keeps c.write_all.ensures.frame.keeps) c.commit.ensures.moments

pub returns-then-not-batch-clause-idle : goal.returns-then-not-batch-clause-idle
returns-then-not-batch-clause-idle g c = λ e. only_reads_refl g.B.S.Space _ c.requires.may.may.ready.sound

pub returns-in_err-write_all-clause-follows : goal.returns-in_err-write_all-clause-follows
returns-in_err-write_all-clause-follows g c = keeps_follow g.B.S.Space c.args.space.now c.settle.new.space c.write_all.new.space c.settle.ensures.keeps c.write_all.ensures.frame.keeps

pub returns-in-Ok-clause-follows : goal.returns-in-Ok-clause-follows
returns-in-Ok-clause-follows g c = commit_follows g.B.S.Space c.args.space.now c.settle.new.space c.write_all.new.space c.commit.new.self c.settle.ensures.keeps c.write_all.ensures.frame.keeps c.commit.ensures.follows

pub returns-in-Err-clause-follows : goal.returns-in-Err-clause-follows
returns-in-Err-clause-follows g c = commit_follows g.B.S.Space c.args.space.now c.settle.new.space c.write_all.new.space c.commit.new.self c.settle.ensures.keeps c.write_all.ensures.frame.keeps c.commit.ensures.follows
