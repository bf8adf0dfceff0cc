use Rattle.std.proofs.Common.{ℕ, subst, sym}
use Rattle.std.proofs.lemmas.Result.{IfOk-weaker}
use Rattle.tc_tabledb.specs.Files.{IsIndexPlace}
use Rattle.tc_tabledb.specs.Indexing.{LacksSide}
use Rattle.tc_tabledb.proofs.Made.{side_made}
use Rattle.tc_tabledb.proofs.indexing.make_side.Goals as goal

pub make_tree-requires-clause-column : goal.make_tree-requires-clause-column
make_tree-requires-clause-column g c = c.in_ok-hash.ensures.made.column

pub make_tree-requires-clause-place : goal.make_tree-requires-clause-place
make_tree-requires-clause-place g c = subst IsIndexPlace (sym c.in_ok-hash.ensures.made.file_is) c.requires.place

pub returns-clause-made : goal.returns-clause-made
returns-clause-made g c = IfOk-weaker _ _ _ (λ x made. side_made g.S.Space _ _ _ c.args.file c.args.kind c.args.name c.in_ok-hash.hash x c.args.space.now c.make_file.new.space c.make_tree.new.space c.in_ok-hash.ensures.made made) c.make_tree.ensures.made

pub returns-clause-full : goal.returns-clause-full
returns-clause-full g c = λ full t. subst (λ (n : ℕ). LacksSide g.S.Space n c.args.kind c.args.name c.make_tree.new.space) c.in_ok-hash.ensures.made.file_is (c.make_tree.ensures.full full t)
