use Rattle.tc_table.proofs.Opened.{only_reads}
use Rattle.tc_space.specs.Frames.{only_reads_then}
use Rattle.std.proofs.Common.{refl}
use Rattle.ty_base.proofs.Refusals.{full_from, none_broken}
use Rattle.tc_treedb.proofs.Made.{broken_from}
use Rattle.tc_tabledb.specs.Holding.{names}
use Rattle.tc_tabledb.specs.Opening.{rule_c}
use Rattle.tc_tabledb.proofs.Opened.{file_first, index_can, may_look, name_first, named_breaks, named_here, never_fault, never_full, none_here, open_never_full, place_data, side_opened, tree_first, was_looked, was_opened}
use Rattle.tc_tabledb.proofs.opening.open_side.Goals as goal

pub open-requires-clause-file : goal.open-requires-clause-file
open-requires-clause-file g c = place_data c.args.file c.requires.place

pub named_in-requires : goal.named_in-requires
named_in-requires g c = may_look g.S.Space c.args.file c.in_ok-hash.hash c.args.space.now c.open.new.space c.open.ensures.reads.is_sound (was_opened g.S.Space c.args.file c.in_ok-hash.hash c.args.space.now c.open.new.space c.in_ok-hash.ensures.file.0 c.in_ok-hash.ensures.file.1 c.in_ok-hash.ensures.stands c.in_ok-hash.ensures.holds)

pub open_tree-requires : goal.open_tree-requires
open_tree-requires g c = index_can g.S.Space c.args.file c.named_in.new.hash c.args.space.now c.named_in.new.space (was_looked g.S.Space c.args.file c.in_ok-hash.hash c.named_in.new.hash c.args.space.now c.open.new.space c.named_in.new.space (was_opened g.S.Space c.args.file c.in_ok-hash.hash c.args.space.now c.open.new.space c.in_ok-hash.ensures.file.0 c.in_ok-hash.ensures.file.1 c.in_ok-hash.ensures.stands c.in_ok-hash.ensures.holds)
    c.named_in.ensures.looks c.named_in.ensures.same c.named_in.ensures.region) c.named_in.ensures.looks.sound c.requires.place

pub open_tree-requires-2 : goal.open_tree-requires-2
open_tree-requires-2 g c = index_can g.S.Space c.args.file c.named_in.new.hash c.args.space.now c.named_in.new.space (was_looked g.S.Space c.args.file c.in_ok-hash.hash c.named_in.new.hash c.args.space.now c.open.new.space c.named_in.new.space (was_opened g.S.Space c.args.file c.in_ok-hash.hash c.args.space.now c.open.new.space c.in_ok-hash.ensures.file.0 c.in_ok-hash.ensures.file.1 c.in_ok-hash.ensures.stands c.in_ok-hash.ensures.holds)
    c.named_in.ensures.looks c.named_in.ensures.same c.named_in.ensures.region) c.named_in.ensures.looks.sound c.requires.place

pub returns-in_err-hash-clause-broken : goal.returns-in_err-hash-clause-broken
returns-in_err-hash-clause-broken g c = broken_from c.from_residual.result c.in_err-hash.field-0.0 _ c.from_residual.ensures.1 (file_first (g.S.Space.now c.args.space.now) c.args.file (names c.args.sides.now) g.S.Space.tells c.in_err-hash.field-0.0 c.in_err-hash.ensures.broken)

pub returns-in_err-named-clause-broken : goal.returns-in_err-named-clause-broken
returns-in_err-named-clause-broken g c = none_broken c.from_residual-in_err-named.result c.in_err-named.field-0.0 _ c.from_residual-in_err-named.ensures.1

pub returns-in_err-_tree-clause-broken : goal.returns-in_err-_tree-clause-broken
returns-in_err-_tree-clause-broken g c = broken_from c.from_residual-in_err-_tree.result c.in_err-_tree.field-0.0 _ c.from_residual-in_err-_tree.ensures.1 (tree_first g.S.Space c.args.file c.named_in.new.hash c.args.space.now c.named_in.new.space (was_looked g.S.Space c.args.file c.in_ok-hash.hash c.named_in.new.hash c.args.space.now c.open.new.space c.named_in.new.space (was_opened g.S.Space c.args.file c.in_ok-hash.hash c.args.space.now c.open.new.space c.in_ok-hash.ensures.file.0 c.in_ok-hash.ensures.file.1 c.in_ok-hash.ensures.stands c.in_ok-hash.ensures.holds)
    c.named_in.ensures.looks c.named_in.ensures.same c.named_in.ensures.region) (names c.args.sides.now) c.in_err-_tree.field-0.0 c.in_err-_tree.ensures.broken)

pub returns-in_err-tree-clause-broken : goal.returns-in_err-tree-clause-broken
returns-in_err-tree-clause-broken g c = broken_from c.from_residual-in_err-tree.result c.in_err-tree.field-0.0 _ c.from_residual-in_err-tree.ensures.1 (tree_first g.S.Space c.args.file c.named_in.new.hash c.args.space.now c.named_in.new.space (was_looked g.S.Space c.args.file c.in_ok-hash.hash c.named_in.new.hash c.args.space.now c.open.new.space c.named_in.new.space (was_opened g.S.Space c.args.file c.in_ok-hash.hash c.args.space.now c.open.new.space c.in_ok-hash.ensures.file.0 c.in_ok-hash.ensures.file.1 c.in_ok-hash.ensures.stands c.in_ok-hash.ensures.holds)
    c.named_in.ensures.looks c.named_in.ensures.same c.named_in.ensures.region) (names c.args.sides.now) c.in_err-tree.field-0.0 c.in_err-tree.ensures.broken)

pub returns-in_default-clause-broken : goal.returns-in_default-clause-broken
returns-in_default-clause-broken g c = named_breaks c.broken.result c.args.file (rule_c 2) _ c.broken.ensures (
  refl,
  (λ t. name_first g.S.Space c.args.file c.named_in.new.hash c.args.space.now c.named_in.new.space (was_looked g.S.Space c.args.file c.in_ok-hash.hash c.named_in.new.hash c.args.space.now c.open.new.space c.named_in.new.space (was_opened g.S.Space c.args.file c.in_ok-hash.hash c.args.space.now c.open.new.space c.in_ok-hash.ensures.file.0 c.in_ok-hash.ensures.file.1 c.in_ok-hash.ensures.stands c.in_ok-hash.ensures.holds)
      c.named_in.ensures.looks c.named_in.ensures.same c.named_in.ensures.region) _ _ _ _ c.in_ok-_tree._tree c.open_tree.new.space c.in_ok-_tree.ensures.opened (names c.args.sides.now) (none_here g.S.Space c.args.file c.in_ok-hash.hash c.named_in.new.hash c.args.space.now c.open.new.space (was_opened g.S.Space c.args.file c.in_ok-hash.hash c.args.space.now c.open.new.space c.in_ok-hash.ensures.file.0 c.in_ok-hash.ensures.file.1 c.in_ok-hash.ensures.stands c.in_ok-hash.ensures.holds) c.named_in.ensures.region (names c.args.sides.now) c.in_ok-named.field-0 c.in_ok-named.ensures.named c.in_default.is) t),
)

pub returns-clause-opened : goal.returns-clause-opened
returns-clause-opened g c = side_opened g.S.Space c.args.file c.named_in.new.hash c.args.space.now c.named_in.new.space (was_looked g.S.Space c.args.file c.in_ok-hash.hash c.named_in.new.hash c.args.space.now c.open.new.space c.named_in.new.space (was_opened g.S.Space c.args.file c.in_ok-hash.hash c.args.space.now c.open.new.space c.in_ok-hash.ensures.file.0 c.in_ok-hash.ensures.file.1 c.in_ok-hash.ensures.stands c.in_ok-hash.ensures.holds)
    c.named_in.ensures.looks c.named_in.ensures.same c.named_in.ensures.region) _ _ _ _ c.in_ok-tree.tree c.open_tree-2.new.space c.in_ok-tree.ensures.opened (names c.args.sides.now) c.in-Some.named.kind c.requires.place (named_here g.S.Space c.args.file c.in_ok-hash.hash c.named_in.new.hash c.args.space.now c.open.new.space (was_opened g.S.Space c.args.file c.in_ok-hash.hash c.args.space.now c.open.new.space c.in_ok-hash.ensures.file.0 c.in_ok-hash.ensures.file.1 c.in_ok-hash.ensures.stands c.in_ok-hash.ensures.holds) c.named_in.ensures.region (names c.args.sides.now) c.in_ok-named.field-0 c.in_ok-named.ensures.named c.in-Some.named c.in-Some.is)

pub returns-in_err-hash-clause-not_full : goal.returns-in_err-hash-clause-not_full
returns-in_err-hash-clause-not_full g c = λ full. open_never_full c.from_residual.result c.in_err-hash.field-0.0 c.from_residual.ensures.1 full

pub returns-in_err-named-clause-not_full : goal.returns-in_err-named-clause-not_full
returns-in_err-named-clause-not_full g c = λ full. c.in_err-named.ensures.cause.1 (full_from c.from_residual-in_err-named.result c.in_err-named.field-0.0 c.from_residual-in_err-named.ensures.1 full)

pub returns-in_err-_tree-clause-not_full : goal.returns-in_err-_tree-clause-not_full
returns-in_err-_tree-clause-not_full g c = λ full. open_never_full c.from_residual-in_err-_tree.result c.in_err-_tree.field-0.0 c.from_residual-in_err-_tree.ensures.1 full

pub returns-in_err-tree-clause-not_full : goal.returns-in_err-tree-clause-not_full
returns-in_err-tree-clause-not_full g c = λ full. open_never_full c.from_residual-in_err-tree.result c.in_err-tree.field-0.0 c.from_residual-in_err-tree.ensures.1 full

pub returns-in_default-clause-not_full : goal.returns-in_default-clause-not_full
returns-in_default-clause-not_full g c = λ full. never_full c.broken.result c.args.file (rule_c 2) c.broken.ensures full

pub returns-in_default-clause-cause : goal.returns-in_default-clause-cause
returns-in_default-clause-cause g c = λ fault. absurd (never_fault c.broken.result c.args.file (rule_c 2) c.broken.ensures fault)

pub returns-in_err-named-clause-reads : goal.returns-in_err-named-clause-reads
returns-in_err-named-clause-reads g c = only_reads_then g.S.Space _ _ _ c.open.ensures.reads (only_reads g.S.Space _ c.in_ok-hash.hash c.named_in.new.hash c.open.new.space c.named_in.new.space c.named_in.ensures.looks c.named_in.ensures.keeps)

pub returns-in_err-_tree-clause-reads : goal.returns-in_err-_tree-clause-reads
returns-in_err-_tree-clause-reads g c = only_reads_then g.S.Space _ _ _ (only_reads_then g.S.Space _ _ _ c.open.ensures.reads (only_reads g.S.Space _ c.in_ok-hash.hash c.named_in.new.hash c.open.new.space c.named_in.new.space c.named_in.ensures.looks c.named_in.ensures.keeps)) c.open_tree.ensures.reads

pub returns-in_default-clause-reads : goal.returns-in_default-clause-reads
returns-in_default-clause-reads g c = only_reads_then g.S.Space _ _ _ (only_reads_then g.S.Space _ _ _ c.open.ensures.reads (only_reads g.S.Space _ c.in_ok-hash.hash c.named_in.new.hash c.open.new.space c.named_in.new.space c.named_in.ensures.looks c.named_in.ensures.keeps)) c.open_tree.ensures.reads

pub returns-in_err-tree-clause-reads : goal.returns-in_err-tree-clause-reads
returns-in_err-tree-clause-reads g c = only_reads_then g.S.Space _ _ _ (only_reads_then g.S.Space _ _ _ c.open.ensures.reads (only_reads g.S.Space _ c.in_ok-hash.hash c.named_in.new.hash c.open.new.space c.named_in.new.space c.named_in.ensures.looks c.named_in.ensures.keeps)) c.open_tree-2.ensures.reads

pub returns-clause-reads : goal.returns-clause-reads
returns-clause-reads g c = only_reads_then g.S.Space _ _ _ (only_reads_then g.S.Space _ _ _ c.open.ensures.reads (only_reads g.S.Space _ c.in_ok-hash.hash c.named_in.new.hash c.open.new.space c.named_in.new.space c.named_in.ensures.looks c.named_in.ensures.keeps)) c.open_tree-2.ensures.reads
