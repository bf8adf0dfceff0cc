use Rattle.std.proofs.Common.{Some, ap, ◌∙◌}
use Rattle.tc_base.specs.Files.{Files}
use Rattle.tc_space.specs.Moments.{past_then}
use Rattle.tc_held.specs.Held.{over}
use Rattle.tc_held.specs.Lengths.{over_bare}
use Rattle.tc_held.proofs.Holding.{held_bare}
use Rattle.tc_held.proofs.Moments.{commits, only_kept}
use Rattle.tc_held.proofs.held_space.HeldSpace.commit_below.Goals as goal

pub returns-clause-held : goal.returns-clause-held
returns-clause-held g c =
    let mid = c.flush.new.self in
    held_bare g.S.Space g.S.Batched.logged c.commit.new.self mid.held c.in_ok-flush.ensures.held.tidy c.in_ok-flush.ensures.empty (g.met.S.Batched.low c.commit.new.self c.in_ok-commit.ensures.outcome.ok)

pub returns-clause-bare : goal.returns-clause-bare
returns-clause-bare g c = record { untouched = c.in_ok-commit.ensures.touched; none = c.in_ok-flush.ensures.empty }

pub returns-clause-now : goal.returns-clause-now
returns-clause-now g c = λ t f. over_bare c.flush.new.self.held (g.S.Space.now c.commit.new.self) c.in_ok-flush.ensures.empty f ∙ c.in_ok-commit.ensures.now t f ∙ c.in_ok-flush.ensures.now t f

pub returns-clause-kept : goal.returns-clause-kept
returns-clause-kept g c = λ t. c.in_ok-commit.ensures.kept t ∙ ap (λ (fs : Files). Some fs) (λ i f. c.in_ok-flush.ensures.now t f i)

pub returns-in_err-flush-clause-moments : goal.returns-in_err-flush-clause-moments
returns-in_err-flush-clause-moments g c = λ t. only_kept g.S.Space c.args.self.now.below c.flush.new.self.below (over c.args.self.now.held (g.S.Space.now c.args.self.now.below)) (c.flush.ensures.keeps.steady t)

pub returns-in_err-commit-clause-moments : goal.returns-in_err-commit-clause-moments
returns-in_err-commit-clause-moments g c = λ t.
    let old = c.args.self.now in
    commits g.S.Space old.below c.flush.new.self.below c.commit.new.self (over old.held (g.S.Space.now old.below)) (g.S.Space.now c.flush.new.self.below) (c.in_ok-flush.ensures.now t) (c.flush.ensures.keeps.steady t) (c.commit.ensures.moments t)

pub returns-clause-moments : goal.returns-clause-moments
returns-clause-moments g c = λ t.
    let old = c.args.self.now in
    commits g.S.Space old.below c.flush.new.self.below c.commit.new.self (over old.held (g.S.Space.now old.below)) (g.S.Space.now c.flush.new.self.below) (c.in_ok-flush.ensures.now t) (c.flush.ensures.keeps.steady t) (c.commit.ensures.moments t)

pub returns-in_err-flush-clause-past : goal.returns-in_err-flush-clause-past
returns-in_err-flush-clause-past g c = λ t. (c.flush.ensures.keeps.steady t).past

pub returns-in_err-commit-clause-past : goal.returns-in_err-commit-clause-past
returns-in_err-commit-clause-past g c = λ t. past_then g.S.Space.moment g.S.Space.files_at c.args.self.now.below c.flush.new.self.below c.commit.new.self (c.flush.ensures.keeps.steady t).past (c.commit.ensures.past t)

pub returns-clause-past : goal.returns-clause-past
returns-clause-past g c = λ t. past_then g.S.Space.moment g.S.Space.files_at c.args.self.now.below c.flush.new.self.below c.commit.new.self (c.flush.ensures.keeps.steady t).past (c.commit.ensures.past t)
