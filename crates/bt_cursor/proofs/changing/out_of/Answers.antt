use Rattle.std.proofs.Common.{Bool, List, None, Some, ℕ, ◌+◌, ◌*◌, inl, subst}
use Rattle.tc_space.specs.Frames.{keeps_then}
use Rattle.bt_tree.specs.Valuing.{IsSetFull}
use Rattle.bt_tree.proofs.Inserts.{kept_over}
use Rattle.bt_cursor.proofs.Settings.{changes_looked, few_looked, made_looked, open_set, pages_refused, taken_at}
use Rattle.bt_page.proofs.Runs.{err_handed}
use Rattle.bt_tree.proofs.Descents.{err_on}
use Rattle.bt_cursor.proofs.changing.out_of.Goals as goal

pub returns-then-not-branch-clause-out : goal.returns-then-not-branch-clause-out
returns-then-not-branch-clause-out g c =
    rw (c.as_slice.ensures, c.if-not-branch.true) at c.in_ok-set_at.ensures.set

pub stays_or_next-requires : goal.stays_or_next-requires
stays_or_next-requires g c =
    open_set g.R.S.Space g.R.Records g.O.Order c.args.place.now c.args.tree.now c.set_at.new.self c.args.tree.now c.args.space.now c.set_at.new.space c.args.space.now (rw (c.as_slice.ensures, c.if-not-branch.false) at c.in_ok-set_at.ensures.set) c.requires

pub returns-in-Ok-clause-out : goal.returns-in-Ok-clause-out
returns-in-Ok-clause-out g c =
    taken_at g.R.S.Space g.R.Records g.O.Order c.args.place.now c.args.tree.now c.set_at.new.self c.stays_or_next.new.tree c.args.space.now c.set_at.new.space c.stays_or_next.new.space (rw (c.as_slice.ensures, c.if-not-branch.false) at c.in_ok-set_at.ensures.set) (2 * c.set_at.new.self.height + c.set_at.new.self.head.pairs) c.in-Ok.next c.stays_or_next.ensures.looks c.in-Ok.ensures.value

pub returns-in-Ok-clause-keeps : goal.returns-in-Ok-clause-keeps
returns-in-Ok-clause-keeps g c =
    keeps_then g.R.S.Space c.args.space.now c.set_at.new.space c.stays_or_next.new.space c.set_at.ensures.keeps c.stays_or_next.ensures.looks.looks.keeps

pub returns-in-Ok-clause-made : goal.returns-in-Ok-clause-made
returns-in-Ok-clause-made g c =
    made_looked g.R.S.Space g.R.Records g.O.Order (2 * c.set_at.new.self.height + c.set_at.new.self.head.pairs) c.args.tree.now c.set_at.new.self c.stays_or_next.new.tree c.set_at.new.space c.stays_or_next.new.space c.set_at.ensures.stays c.stays_or_next.ensures.looks

pub returns-in-Err-clause-keeps : goal.returns-in-Err-clause-keeps
returns-in-Err-clause-keeps g c =
    keeps_then g.R.S.Space c.args.space.now c.stays_or_next.new.space c.spoil.new.self (keeps_then g.R.S.Space c.args.space.now c.set_at.new.space c.stays_or_next.new.space c.set_at.ensures.keeps c.stays_or_next.ensures.looks.looks.keeps) (kept_over g.R.S.Space c.stays_or_next.new.space c.spoil.new.self c.spoil.ensures.stays)

pub returns-in-Err-clause-made : goal.returns-in-Err-clause-made
returns-in-Err-clause-made g c =
    made_looked g.R.S.Space g.R.Records g.O.Order (2 * c.set_at.new.self.height + c.set_at.new.self.head.pairs) c.args.tree.now c.set_at.new.self c.stays_or_next.new.tree c.set_at.new.space c.stays_or_next.new.space c.set_at.ensures.stays c.stays_or_next.ensures.looks

pub returns-in_err-set_at-clause-full : goal.returns-in_err-set_at-clause-full
returns-in_err-set_at-clause-full g c =
    λ is. subst (λ (k : List ℕ). IsSetFull g.R.S.Space g.R.Records g.O.Order k c.args.place.now.number None c.args.tree.now c.args.space.now c.set_at.new.space) c.as_slice.ensures
    (c.in_err-set_at.ensures.full (err_handed c.from_residual.result c.in_err-set_at.field-0.0 _ c.from_residual.ensures.1 is))

pub returns-in-Err-clause-full : goal.returns-in-Err-clause-full
returns-in-Err-clause-full g c =
    λ is. absurd (c.in-Err.ensures.cause.1 (err_on _ _ is))

pub returns-then-not-branch-clause-pages : goal.returns-then-not-branch-clause-pages
returns-then-not-branch-clause-pages g c =
    (record { most = c.set_at.ensures.gains.most; kept = tt }, rw c.as_slice.ensures at c.in_ok-set_at.ensures.pages)

pub returns-in_err-set_at-clause-pages : goal.returns-in_err-set_at-clause-pages
returns-in_err-set_at-clause-pages g c =
    pages_refused g.R.S.Space g.R.Records g.O.Order (Some c.args.place.now) None c.args.tree.now c.set_at.new.self c.args.space.now c.set_at.new.space Bool c.in_err-set_at.field-0.0 c.from_residual.result c.from_residual.ensures.1 (c.in_err-set_at.ensures.gains, tt)

pub returns-in-Ok-clause-pages : goal.returns-in-Ok-clause-pages
returns-in-Ok-clause-pages g c = (
  record { most = few_looked g.R.S.Space g.R.Records g.O.Order (2 * c.set_at.new.self.height + c.set_at.new.self.head.pairs) c.args.tree.now c.set_at.new.self c.stays_or_next.new.tree c.args.space.now c.set_at.new.space c.stays_or_next.new.space c.stays_or_next.ensures.looks c.set_at.ensures.gains.most; kept = tt },
  changes_looked g.R.S.Space g.R.Records g.O.Order (2 * c.set_at.new.self.height + c.set_at.new.self.head.pairs) c.args.tree.now c.set_at.new.self c.stays_or_next.new.tree c.args.space.now c.set_at.new.space c.stays_or_next.new.space c.stays_or_next.ensures.looks
      c.args.place.now.key c.args.place.now.number None (rw c.as_slice.ensures at c.in_ok-set_at.ensures.pages),
)

pub returns-in-Err-clause-pages : goal.returns-in-Err-clause-pages
returns-in-Err-clause-pages g c = (
  record {
    most = few_looked g.R.S.Space g.R.Records g.O.Order (2 * c.set_at.new.self.height + c.set_at.new.self.head.pairs) c.args.tree.now c.set_at.new.self c.stays_or_next.new.tree c.args.space.now c.set_at.new.space c.stays_or_next.new.space c.stays_or_next.ensures.looks c.set_at.ensures.gains.most;
    kept = inl c.spoil.ensures.spoiled;
  },
  tt,
)
