-- A tree breaks none of its rules.
use Rattle.std.proofs.Common.{List, [], ◌∷◌, inl, inr, subst}
use Rattle.bt_rows.specs.declared.page.LeafAt.{LeafAt}
use Rattle.bt_rows.specs.Pages.{PageMap}
use Rattle.bt_rows.specs.Rows.{root_slot}
use Rattle.bt_rows.specs.Standing.{PagesStand, leaves_of}
use Rattle.bt_rows.proofs.Held.{depth_free, pages_one}
use Rattle.bt_check.specs.Verdicts.{LeavesBreak, PagesBreak, IsFirstBroken, TreesBreakNoRule}

pub trees_break_no_rule : TreesBreakNoRule
trees_break_no_rule before h index m rule t b = first b
  where
    s : PagesStand h index m
    s = t.stand

    of_leaves : LeavesBreak before h (leaves_of s) rule → ⊥
    of_leaves (inl broken) = broken.1 t.order
    of_leaves (inr (o, inl broken)) = broken.1 t.links
    of_leaves (inr (o, inr broken)) = broken.2 t.count

    of_pages : PagesBreak before h s.pages rule → ⊥
    of_pages (inl broken) = broken.1 (s.depth, s.reach)
    of_pages (inr (depth, reach, inl broken)) = broken.1 s.even
    of_pages (inr (depth, reach, inr (even, inl broken))) = broken.1 s.limits
    of_pages (inr (depth, reach, inr (even, inr (limits, broken)))) =
        of_leaves (subst (λ (ls : List LeafAt). LeavesBreak before h ls rule) (depth_free s.pages depth s.depth (root_slot h.root ∷ []) reach.ends s.reach.ends) broken)

    first : IsFirstBroken before h index m rule → ⊥
    first (inl broken) = broken.1 s.head
    first (inr (head, inl broken)) = broken.1 s.keys
    first (inr (head, inr (keys, pages, held, broken))) = of_pages (subst (λ (p : PageMap). PagesBreak before h p rule) (pages_one h m pages s.pages held s.held) broken)
