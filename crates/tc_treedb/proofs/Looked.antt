-- What only looked at a tree.
use Rattle.std.proofs.Common.{ℕ, subst, sym, ◌≡◌}
use Rattle.tc_base.specs.declared.order.Order.{Ghosts as Orders}
use Rattle.tc_space.specs.declared.records.Records.{Ghosts as Stores}
use Rattle.tc_space.specs.declared.space.Space.{Ghosts}
use Rattle.bt_tree.specs.Ranging.{Scans}
use Rattle.bt_tree.specs.Visits.{Asks}
use Rattle.bt_tree.specs.declared.tree.Tree.{Tree}
use Rattle.tc_engine.specs.Rows.{Extends}
use Rattle.tc_engine.specs.declared.rows.Rows.{Rows}
use Rattle.tc_treedb.specs.Reading.{LooksAt}

module _ {S V O : Type 0} (s : Ghosts S) (R : Stores V S) (o : Orders O) where
  pub looks_asks : (most : ℕ) (t u : Tree V O) (steps steps' : ℕ) (old new : S) → Asks s R o most t u steps steps' old new → LooksAt s R o t u old new
  looks_asks most t u steps steps' old new a = record { reads = a.reads; keeps = a.looks.keeps; made = a.looks.made; tight = a.looks.tight; stays = a.stays }

  pub looks_scans : (t u : Tree V O) (steps steps' : ℕ) (old new : S) → Scans s R o t u steps steps' old new → LooksAt s R o t u old new
  looks_scans t u steps steps' old new a = record { reads = a.reads; keeps = a.looks.keeps; made = a.looks.made; tight = a.looks.tight; stays = a.stays }

-- rows that were taken over, and put back
pub front_over : (from to a b : Rows) → a ≡ from → to ≡ b → Extends a b → Extends from to
front_over from to a b start end front = subst (λ (r : Rows). Extends r to) start (subst (λ (r : Rows). Extends a r) (sym end) front)
