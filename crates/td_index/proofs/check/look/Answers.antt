use Rattle.std.proofs.Common.{◌≡◌, ◌∙◌, ℕ, List, true, false, sym, ap, subst}
use Rattle.tc_space.specs.Frames.{In}
use Rattle.tc_space.specs.Stores.{ready_reads}
use Rattle.td_index.specs.Checks.{AreHeld, IsThere, firsts_by}
use Rattle.td_index.proofs.Listed.{stays_refl}
use Rattle.td_index.proofs.Looking.{lacked_part, looked_parts, reads_left, ready_right}
use Rattle.td_index.proofs.check.look.Goals as goal

pub returns-in_err-parts-clause-rows : goal.returns-in_err-parts-clause-rows
returns-in_err-parts-clause-rows g c = ready_reads g.R.S.Space (In g.R.S.Space g.R.Records.file_of g.R.Records.holds) c.args.rows.now c.parts_at.new.rows c.args.space.now c.parts_at.new.space c.parts_at.ensures.reads c.requires.rows

pub returns-clause-looked : goal.returns-clause-looked
returns-clause-looked g c = λ b h.
    let later = (reads_left g.R.S.Space g.R.Records g.M.Multi c.args.rows.now c.parts_at.new.rows c.args.tree.now c.args.space.now c.parts_at.new.space c.parts_at.ensures.reads).means b h in
    let has : AreHeld c.as_slice.result.now c.args.key.now b.1 true = subst (AreHeld c.as_slice.result.now c.args.key.now b.1) c.if-not-branch.false (c.in_ok-has_entries.ensures.held b.1 later.1) in
    subst (λ (n : ℕ). IsThere (firsts_by (g.P.Picks.parts_of c.args.picks.now) b.0) c.args.key.now b.1 n) (sym c.len.ensures)
    (looked_parts (firsts_by (g.P.Picks.parts_of c.args.picks.now) b.0) c.args.key.now c.in_ok-parts.parts b.1 (c.in_ok-parts.ensures.parts b.0 h.0) (subst (λ (l : List (List ℕ)). AreHeld l c.args.key.now b.1 true) c.as_slice.ensures has))

pub returns-then-not-branch-clause-looked : goal.returns-then-not-branch-clause-looked
returns-then-not-branch-clause-looked g c = λ b h.
    let later = (reads_left g.R.S.Space g.R.Records g.M.Multi c.args.rows.now c.parts_at.new.rows c.args.tree.now c.args.space.now c.parts_at.new.space c.parts_at.ensures.reads).means b h in
    let has : AreHeld c.as_slice.result.now c.args.key.now b.1 false = subst (AreHeld c.as_slice.result.now c.args.key.now b.1) c.if-not-branch.true (c.in_ok-has_entries.ensures.held b.1 later.1) in
    lacked_part (firsts_by (g.P.Picks.parts_of c.args.picks.now) b.0) c.args.key.now c.in_ok-parts.parts b.1 (c.in_ok-parts.ensures.parts b.0 h.0) (subst (λ (l : List (List ℕ)). AreHeld l c.args.key.now b.1 false) c.as_slice.ensures has)

pub returns-clause-rows : goal.returns-clause-rows
returns-clause-rows g c = ready_right g.R.S.Space g.R.Records g.M.Multi c.parts_at.new.rows c.args.tree.now c.has_entries.new.tree c.parts_at.new.space c.has_entries.new.space c.has_entries.ensures.reads (ready_reads g.R.S.Space (In g.R.S.Space g.R.Records.file_of g.R.Records.holds) c.args.rows.now c.parts_at.new.rows c.args.space.now c.parts_at.new.space c.parts_at.ensures.reads c.requires.rows)

pub returns-then-not-branch-clause-rows : goal.returns-then-not-branch-clause-rows
returns-then-not-branch-clause-rows g c = ready_right g.R.S.Space g.R.Records g.M.Multi c.parts_at.new.rows c.args.tree.now c.has_entries.new.tree c.parts_at.new.space c.has_entries.new.space c.has_entries.ensures.reads (ready_reads g.R.S.Space (In g.R.S.Space g.R.Records.file_of g.R.Records.holds) c.args.rows.now c.parts_at.new.rows c.args.space.now c.parts_at.new.space c.parts_at.ensures.reads c.requires.rows)

pub returns-in_err-has_entries-clause-rows : goal.returns-in_err-has_entries-clause-rows
returns-in_err-has_entries-clause-rows g c = ready_right g.R.S.Space g.R.Records g.M.Multi c.parts_at.new.rows c.args.tree.now c.has_entries.new.tree c.parts_at.new.space c.has_entries.new.space c.has_entries.ensures.reads (ready_reads g.R.S.Space (In g.R.S.Space g.R.Records.file_of g.R.Records.holds) c.args.rows.now c.parts_at.new.rows c.args.space.now c.parts_at.new.space c.parts_at.ensures.reads c.requires.rows)

pub returns-in_err-parts-clause-stays : goal.returns-in_err-parts-clause-stays
returns-in_err-parts-clause-stays g c = record { rows = c.parts_at.ensures.stays; tree = stays_refl g.M.Multi.file_of g.M.Multi.made g.M.Multi.lead c.args.tree.now }

pub returns-clause-stays : goal.returns-clause-stays
returns-clause-stays g c = record { rows = c.parts_at.ensures.stays; tree = c.has_entries.ensures.stays }

pub returns-then-not-branch-clause-stays : goal.returns-then-not-branch-clause-stays
returns-then-not-branch-clause-stays g c = record { rows = c.parts_at.ensures.stays; tree = c.has_entries.ensures.stays }

pub returns-in_err-has_entries-clause-stays : goal.returns-in_err-has_entries-clause-stays
returns-in_err-has_entries-clause-stays g c = record { rows = c.parts_at.ensures.stays; tree = c.has_entries.ensures.stays }
