use Rattle.std.proofs.Common.{false, refl}
use Rattle.bt_check.proofs.Mapped.{if_err_handed}
use Rattle.tc_treedb.specs.declared.kept.Kept.TheVariants.{Lexical}
use Rattle.tc_treedb.proofs.Opened.{breaks_kept, opens_kept, ordered_lexical, ready_hash}
use Rattle.tc_treedb.proofs.kept.Kept.open_lexical.Goals as goal

pub open-requires : goal.open-requires
open-requires g c = record { ready = ready_hash g.S.Space _ _ false Lexical c.lexical_tree.ensures c.args.hash c.args.space.now c.requires.ready; order = ordered_lexical g.S.Space _ _ Lexical c.lexical_tree.ensures c.args.hash refl c.requires.told }

pub returns-in_err-tree-clause-broken : goal.returns-in_err-tree-clause-broken
returns-in_err-tree-clause-broken g c = if_err_handed c.from_residual.result c.in_err-tree.field-0.0 _ c.from_residual.ensures.1 (breaks_kept g.S.Space _ _ false Lexical c.lexical_tree.ensures c.args.hash c.args.space.now c.in_err-tree.field-0.0 c.requires.ready.file c.requires.told refl c.in_err-tree.ensures.broken)

pub returns-clause-opened : goal.returns-clause-opened
returns-clause-opened g c = opens_kept g.S.Space _ _ false Lexical c.lexical_tree.ensures c.args.hash c.in_ok-tree.tree c.args.space.now c.open.new.space c.requires.ready.file c.requires.ready.kind c.requires.told refl c.in_ok-tree.ensures.opened
