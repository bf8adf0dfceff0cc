use Rattle.std.proofs.Common.{◌≡◌, ◌+◌, ◌≤◌, length, ap, subst, arith}
use Rattle.std.specs.Prelude.{List, ℕ}
use Rattle.tc_space.specs.Frames.{keeps_then, reads_then}
use Rattle.tc_space.specs.Stores.{ready_reads}
use Rattle.tc_table.specs.Searching.{found_under}
use Rattle.tc_table.specs.Tables.{Holds}
use Rattle.tc_table.proofs.Asked.{planned_more}
use Rattle.tc_table.proofs.Counted.{found_counted}
use Rattle.tc_table.proofs.Gathering.{ticks_from, ticks_kept}
use Rattle.tc_table.proofs.Holding.{stays_then}
use Rattle.tc_table.proofs.table.Table.count_read.Goals as goal

pub tally-requires : goal.tally-requires
tally-requires g c = ready_reads g.R.S.Space (Holds g.R.S.Space g.R.Records g.L.Multi g.D.Multi) c.args.self.now c.asked_keys.new.self c.args.space.now c.asked_keys.new.space c.asked_keys.ensures.reads c.requires

pub returns-clause-found : goal.returns-clause-found
returns-clause-found g c = λ rows h.
    found_counted c.args.q.now rows c.in_ok-keys.keys c.in_ok-number.number c.kept_of.result (c.in_ok-keys.ensures.all rows h)
    (subst (λ (ks : List (List ℕ)). c.in_ok-number.number ≡ length (found_under c.args.q.now rows ks)) c.as_slice.ensures (c.in_ok-number.ensures.found rows (c.asked_keys.ensures.reads.means rows h))) c.kept_of.ensures

pub returns-in_err-keys-clause-planned : goal.returns-in_err-keys-clause-planned
returns-in_err-keys-clause-planned g c = λ x cond i rows chosen at_cond at_index h. omega (arith, c.asked_keys.ensures.gets)

pub returns-in_err-number-clause-planned : goal.returns-in_err-number-clause-planned
returns-in_err-number-clause-planned g c =
    planned_more g.R.S.Space g.R.Records g.L.Multi g.D.Multi c.args.q.now c.args.self.now c.args.space.now (g.R.Records.gets c.args.self.now.rows) (g.R.Records.gets c.tally.new.self.rows) (length c.in_ok-keys.keys) (omega (arith, c.tally.ensures.few, c.asked_keys.ensures.gets, ap length c.as_slice.ensures)) c.in_ok-keys.ensures.planned

pub returns-clause-planned : goal.returns-clause-planned
returns-clause-planned g c =
    planned_more g.R.S.Space g.R.Records g.L.Multi g.D.Multi c.args.q.now c.args.self.now c.args.space.now (g.R.Records.gets c.args.self.now.rows) (g.R.Records.gets c.tally.new.self.rows) (length c.in_ok-keys.keys) (omega (arith, c.tally.ensures.few, c.asked_keys.ensures.gets, ap length c.as_slice.ensures)) c.in_ok-keys.ensures.planned

pub returns-in_err-keys-clause-steps : goal.returns-in_err-keys-clause-steps
returns-in_err-keys-clause-steps g c = ticks_kept (g.R.Records.gets c.args.self.now.rows) (g.R.Records.gets c.asked_keys.new.self.rows) c.args.steps.now c.asked_keys.ensures.gets

pub returns-in_err-number-clause-steps : goal.returns-in_err-number-clause-steps
returns-in_err-number-clause-steps g c = ticks_from (g.R.Records.gets c.args.self.now.rows) (g.R.Records.gets c.asked_keys.new.self.rows) (g.R.Records.gets c.tally.new.self.rows) c.args.steps.now c.tally.new.steps c.asked_keys.ensures.gets c.tally.ensures.steps

pub returns-clause-steps : goal.returns-clause-steps
returns-clause-steps g c = ticks_from (g.R.Records.gets c.args.self.now.rows) (g.R.Records.gets c.asked_keys.new.self.rows) (g.R.Records.gets c.tally.new.self.rows) c.args.steps.now c.tally.new.steps c.asked_keys.ensures.gets c.tally.ensures.steps

pub returns-in_err-number-clause-reads : goal.returns-in_err-number-clause-reads
returns-in_err-number-clause-reads g c = reads_then g.R.S.Space (Holds g.R.S.Space g.R.Records g.L.Multi g.D.Multi) c.args.self.now c.asked_keys.new.self c.tally.new.self c.args.space.now c.asked_keys.new.space c.tally.new.space c.asked_keys.ensures.reads c.tally.ensures.reads

pub returns-clause-reads : goal.returns-clause-reads
returns-clause-reads g c = reads_then g.R.S.Space (Holds g.R.S.Space g.R.Records g.L.Multi g.D.Multi) c.args.self.now c.asked_keys.new.self c.tally.new.self c.args.space.now c.asked_keys.new.space c.tally.new.space c.asked_keys.ensures.reads c.tally.ensures.reads

pub returns-in_err-number-clause-keeps : goal.returns-in_err-number-clause-keeps
returns-in_err-number-clause-keeps g c = keeps_then g.R.S.Space c.args.space.now c.asked_keys.new.space c.tally.new.space c.asked_keys.ensures.keeps c.tally.ensures.keeps

pub returns-clause-keeps : goal.returns-clause-keeps
returns-clause-keeps g c = keeps_then g.R.S.Space c.args.space.now c.asked_keys.new.space c.tally.new.space c.asked_keys.ensures.keeps c.tally.ensures.keeps

pub returns-in_err-number-clause-stays : goal.returns-in_err-number-clause-stays
returns-in_err-number-clause-stays g c = stays_then g.R.S.Space g.R.Records g.L.Multi g.D.Multi c.args.self.now c.asked_keys.new.self c.tally.new.self c.asked_keys.ensures.stays c.tally.ensures.stays

pub returns-clause-stays : goal.returns-clause-stays
returns-clause-stays g c = stays_then g.R.S.Space g.R.Records g.L.Multi g.D.Multi c.args.self.now c.asked_keys.new.self c.tally.new.self c.asked_keys.ensures.stays c.tally.ensures.stays

pub returns-in_err-keys-clause-counted : goal.returns-in_err-keys-clause-counted
returns-in_err-keys-clause-counted g c = λ x cond i rows chosen at_cond at_index h. omega arith

pub returns-in_err-number-clause-counted : goal.returns-in_err-number-clause-counted
returns-in_err-number-clause-counted g c =
    planned_more g.R.S.Space g.R.Records g.L.Multi g.D.Multi c.args.q.now c.args.self.now c.args.space.now c.args.steps.now c.tally.new.steps (length c.in_ok-keys.keys) (omega (arith, c.tally.ensures.most, ap length c.as_slice.ensures)) c.in_ok-keys.ensures.planned

pub returns-clause-counted : goal.returns-clause-counted
returns-clause-counted g c =
    planned_more g.R.S.Space g.R.Records g.L.Multi g.D.Multi c.args.q.now c.args.self.now c.args.space.now c.args.steps.now c.tally.new.steps (length c.in_ok-keys.keys) (omega (arith, c.tally.ensures.most, ap length c.as_slice.ensures)) c.in_ok-keys.ensures.planned
