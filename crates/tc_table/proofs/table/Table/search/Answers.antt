use Rattle.std.proofs.Common.{◌∙◌, ◌+◌, ◌≤◌, length, reverse, ap, arith}
use Rattle.std.specs.Prelude.{List, ℕ}
use Rattle.tc_model.specs.Search.{arranged}
use Rattle.tc_space.specs.Frames.{keeps_then, reads_then}
use Rattle.tc_space.specs.Stores.{ready_reads}
use Rattle.tc_table.specs.Searching.{found_under}
use Rattle.tc_table.specs.Tables.{Holds}
use Rattle.tc_table.proofs.Asked.{planned_more}
use Rattle.tc_table.proofs.Gathering.{found_all, ticks_from, ticks_kept}
use Rattle.tc_table.proofs.Holding.{stays_then}
use Rattle.tc_table.proofs.table.Table.search.Goals as goal

pub gather-requires : goal.gather-requires
gather-requires g c = ready_reads g.R.S.Space (Holds g.R.S.Space g.R.Records g.L.Multi g.D.Multi) c.args.self.now c.asked_keys.new.self c.args.space.now c.asked_keys.new.space c.asked_keys.ensures.reads c.requires

pub returns-clause-found : goal.returns-clause-found
returns-clause-found g c = λ rows h.
    found_all c.args.q.now rows c.in_ok-keys.keys c.in_ok-rows.rows c.in_ok-found.found (c.in_ok-keys.ensures.all rows h)
    (c.in_ok-rows.ensures.found rows (c.asked_keys.ensures.reads.means rows h) ∙ ap (λ (ks : List (List ℕ)). arranged c.args.q.now (reverse (found_under c.args.q.now rows ks))) c.as_slice.ensures) c.in_ok-found.ensures

pub returns-in_err-keys-clause-planned : goal.returns-in_err-keys-clause-planned
returns-in_err-keys-clause-planned g c = λ x cond i rows chosen at_cond at_index h. omega (arith, c.asked_keys.ensures.gets)

pub returns-in_err-rows-clause-planned : goal.returns-in_err-rows-clause-planned
returns-in_err-rows-clause-planned g c =
    planned_more g.R.S.Space g.R.Records g.L.Multi g.D.Multi c.args.q.now c.args.self.now c.args.space.now (g.R.Records.gets c.args.self.now.rows) (g.R.Records.gets c.gather.new.self.rows) (length c.in_ok-keys.keys) (omega (arith, c.gather.ensures.few, c.asked_keys.ensures.gets, ap length c.as_slice.ensures)) c.in_ok-keys.ensures.planned

pub returns-in_err-found-clause-planned : goal.returns-in_err-found-clause-planned
returns-in_err-found-clause-planned g c =
    planned_more g.R.S.Space g.R.Records g.L.Multi g.D.Multi c.args.q.now c.args.self.now c.args.space.now (g.R.Records.gets c.args.self.now.rows) (g.R.Records.gets c.gather.new.self.rows) (length c.in_ok-keys.keys) (omega (arith, c.gather.ensures.few, c.asked_keys.ensures.gets, ap length c.as_slice.ensures)) c.in_ok-keys.ensures.planned

pub returns-clause-planned : goal.returns-clause-planned
returns-clause-planned g c =
    planned_more g.R.S.Space g.R.Records g.L.Multi g.D.Multi c.args.q.now c.args.self.now c.args.space.now (g.R.Records.gets c.args.self.now.rows) (g.R.Records.gets c.gather.new.self.rows) (length c.in_ok-keys.keys) (omega (arith, c.gather.ensures.few, c.asked_keys.ensures.gets, ap length c.as_slice.ensures)) c.in_ok-keys.ensures.planned

pub returns-in_err-keys-clause-steps : goal.returns-in_err-keys-clause-steps
returns-in_err-keys-clause-steps g c = ticks_kept (g.R.Records.gets c.args.self.now.rows) (g.R.Records.gets c.asked_keys.new.self.rows) c.args.steps.now c.asked_keys.ensures.gets

pub returns-in_err-rows-clause-steps : goal.returns-in_err-rows-clause-steps
returns-in_err-rows-clause-steps g c = ticks_from (g.R.Records.gets c.args.self.now.rows) (g.R.Records.gets c.asked_keys.new.self.rows) (g.R.Records.gets c.gather.new.self.rows) c.args.steps.now c.gather.new.steps c.asked_keys.ensures.gets c.gather.ensures.steps

pub returns-in_err-found-clause-steps : goal.returns-in_err-found-clause-steps
returns-in_err-found-clause-steps g c = ticks_from (g.R.Records.gets c.args.self.now.rows) (g.R.Records.gets c.asked_keys.new.self.rows) (g.R.Records.gets c.gather.new.self.rows) c.args.steps.now c.gather.new.steps c.asked_keys.ensures.gets c.gather.ensures.steps

pub returns-clause-steps : goal.returns-clause-steps
returns-clause-steps g c = ticks_from (g.R.Records.gets c.args.self.now.rows) (g.R.Records.gets c.asked_keys.new.self.rows) (g.R.Records.gets c.gather.new.self.rows) c.args.steps.now c.gather.new.steps c.asked_keys.ensures.gets c.gather.ensures.steps

pub returns-in_err-rows-clause-reads : goal.returns-in_err-rows-clause-reads
returns-in_err-rows-clause-reads g c = reads_then g.R.S.Space (Holds g.R.S.Space g.R.Records g.L.Multi g.D.Multi) c.args.self.now c.asked_keys.new.self c.gather.new.self c.args.space.now c.asked_keys.new.space c.gather.new.space c.asked_keys.ensures.reads c.gather.ensures.reads

pub returns-in_err-found-clause-reads : goal.returns-in_err-found-clause-reads
returns-in_err-found-clause-reads g c = reads_then g.R.S.Space (Holds g.R.S.Space g.R.Records g.L.Multi g.D.Multi) c.args.self.now c.asked_keys.new.self c.gather.new.self c.args.space.now c.asked_keys.new.space c.gather.new.space c.asked_keys.ensures.reads c.gather.ensures.reads

pub returns-clause-reads : goal.returns-clause-reads
returns-clause-reads g c = reads_then g.R.S.Space (Holds g.R.S.Space g.R.Records g.L.Multi g.D.Multi) c.args.self.now c.asked_keys.new.self c.gather.new.self c.args.space.now c.asked_keys.new.space c.gather.new.space c.asked_keys.ensures.reads c.gather.ensures.reads

pub returns-in_err-rows-clause-keeps : goal.returns-in_err-rows-clause-keeps
returns-in_err-rows-clause-keeps g c = keeps_then g.R.S.Space c.args.space.now c.asked_keys.new.space c.gather.new.space c.asked_keys.ensures.keeps c.gather.ensures.keeps

pub returns-in_err-found-clause-keeps : goal.returns-in_err-found-clause-keeps
returns-in_err-found-clause-keeps g c = keeps_then g.R.S.Space c.args.space.now c.asked_keys.new.space c.gather.new.space c.asked_keys.ensures.keeps c.gather.ensures.keeps

pub returns-clause-keeps : goal.returns-clause-keeps
returns-clause-keeps g c = keeps_then g.R.S.Space c.args.space.now c.asked_keys.new.space c.gather.new.space c.asked_keys.ensures.keeps c.gather.ensures.keeps

pub returns-in_err-rows-clause-stays : goal.returns-in_err-rows-clause-stays
returns-in_err-rows-clause-stays g c = stays_then g.R.S.Space g.R.Records g.L.Multi g.D.Multi c.args.self.now c.asked_keys.new.self c.gather.new.self c.asked_keys.ensures.stays c.gather.ensures.stays

pub returns-in_err-found-clause-stays : goal.returns-in_err-found-clause-stays
returns-in_err-found-clause-stays g c = stays_then g.R.S.Space g.R.Records g.L.Multi g.D.Multi c.args.self.now c.asked_keys.new.self c.gather.new.self c.asked_keys.ensures.stays c.gather.ensures.stays

pub returns-clause-stays : goal.returns-clause-stays
returns-clause-stays g c = stays_then g.R.S.Space g.R.Records g.L.Multi g.D.Multi c.args.self.now c.asked_keys.new.self c.gather.new.self c.asked_keys.ensures.stays c.gather.ensures.stays

pub returns-in_err-keys-clause-counted : goal.returns-in_err-keys-clause-counted
returns-in_err-keys-clause-counted g c = λ x cond i rows chosen at_cond at_index h. omega arith

pub returns-in_err-rows-clause-counted : goal.returns-in_err-rows-clause-counted
returns-in_err-rows-clause-counted g c =
    planned_more g.R.S.Space g.R.Records g.L.Multi g.D.Multi c.args.q.now c.args.self.now c.args.space.now c.args.steps.now c.gather.new.steps (length c.in_ok-keys.keys) (omega (arith, c.gather.ensures.most, ap length c.as_slice.ensures)) c.in_ok-keys.ensures.planned

pub returns-in_err-found-clause-counted : goal.returns-in_err-found-clause-counted
returns-in_err-found-clause-counted g c =
    planned_more g.R.S.Space g.R.Records g.L.Multi g.D.Multi c.args.q.now c.args.self.now c.args.space.now c.args.steps.now c.gather.new.steps (length c.in_ok-keys.keys) (omega (arith, c.gather.ensures.most, ap length c.as_slice.ensures)) c.in_ok-keys.ensures.planned

pub returns-clause-counted : goal.returns-clause-counted
returns-clause-counted g c =
    planned_more g.R.S.Space g.R.Records g.L.Multi g.D.Multi c.args.q.now c.args.self.now c.args.space.now c.args.steps.now c.gather.new.steps (length c.in_ok-keys.keys) (omega (arith, c.gather.ensures.most, ap length c.as_slice.ensures)) c.in_ok-keys.ensures.planned
