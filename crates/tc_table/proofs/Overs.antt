-- What a table holds in a space it holds over its files.
use Rattle.std.proofs.Common.{◌≡◌, List, [], ◌∷◌}
use Rattle.std.specs.Prelude.{◌↔◌}
use Rattle.tc_space.specs.declared.space.Space.{Ghosts}
use Rattle.tc_space.specs.declared.records.Records as records
use Rattle.tc_space.specs.declared.multi.Multi as multi
use Rattle.tc_model.specs.Contents.{Rows}
use Rattle.td_index.specs.Entries.{Firsts}
use Rattle.tc_table.specs.Over.{AllOver, OverLaw, SideOver, TreeOver}
use Rattle.tc_table.specs.Parts.{parts_of}
use Rattle.tc_table.specs.Sides.{AllStand, SideStands, TreeStands, name_of}
use Rattle.tc_table.specs.declared.side.Side.{Side}
use Rattle.tc_table.specs.declared.side.Sorted.{Sorted}
use Rattle.tc_table.specs.declared.side.Sorted.TheVariants.{Lexical, Decimal}

module _ {S L OL D OD : Type 0} (s : Ghosts S) (l : multi.Ghosts L S OL) (d : multi.Ghosts D S OD) where
  tree_over : (x : Sorted L D) (a : S) (h : Firsts) → TreeStands s l d x a h → TreeOver l d x (s.now a) h
  tree_over (Lexical i) a h st = record { pairs = st.pairs; held = st.held.1; exact = st.exact }
  tree_over (Decimal i) a h st = record { pairs = st.pairs; held = st.held.1; exact = st.exact }

  over_tree : (x : Sorted L D) (a : S) (h : Firsts) → s.tells → TreeOver l d x (s.now a) h → TreeStands s l d x a h
  over_tree (Lexical i) a h tells over = record { pairs = over.pairs; held = (tells, over.held); exact = over.exact }
  over_tree (Decimal i) a h tells over = record { pairs = over.pairs; held = (tells, over.held); exact = over.exact }

  side_over : (x : Side L D) (a : S) (rows : Rows) → SideStands s l d x a rows → SideOver l d x (s.now a) rows
  side_over x a rows st = record { fits = st.fits; stands = tree_over x.tree a (parts_of x.kind (name_of x.tree) rows) st.stands }

  over_side : (x : Side L D) (a : S) (rows : Rows) → s.tells → SideOver l d x (s.now a) rows → SideStands s l d x a rows
  over_side x a rows tells over = record { fits = over.fits; stands = over_tree x.tree a (parts_of x.kind (name_of x.tree) rows) tells over.stands }

  all_over : (xs : List (Side L D)) (a : S) (rows : Rows) → AllStand s l d xs a rows → AllOver l d xs (s.now a) rows
  all_over [] a rows st = tt
  all_over (x ∷ xs) a rows st = (side_over x a rows st.0, all_over xs a rows st.1)

  over_all : (xs : List (Side L D)) (a : S) (rows : Rows) → s.tells → AllOver l d xs (s.now a) rows → AllStand s l d xs a rows
  over_all [] a rows tells over = tt
  over_all (x ∷ xs) a rows tells over = (over_side x a rows tells over.0, over_all xs a rows tells over.1)

pub law : {S R L OL D OD : Type 0} (s : Ghosts S) (r : records.Ghosts R S) (l : multi.Ghosts L S OL) (d : multi.Ghosts D S OD) → OverLaw r l d s
law s r l d t space rows = (
  λ h. (h.held.0, record { store = h.store; held = h.held.1; spelled = h.spelled; are = h.are; apart = h.apart; indexes = all_over s l d t.sides.items space rows h.indexes }),
  λ over. record { store = over.1.store; held = (over.0, over.1.held); spelled = over.1.spelled; are = over.1.are; apart = over.1.apart; indexes = over_all s l d t.sides.items space rows over.0 over.1.indexes },
)
