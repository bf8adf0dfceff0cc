use Rattle.std.proofs.Common.{◌≡◌, [], true, false}
use Rattle.std.proofs.lemmas.Result.{IfOk-weaker}
use Rattle.tc_space.specs.Frames.{In}
use Rattle.tc_space.specs.Stores.{ready_reads}
use Rattle.tc_table.specs.Parts.{parts_of}
use Rattle.tc_table.specs.Searching.{AreAsked, OfRows, has_asked}
use Rattle.tc_table.proofs.Asking.{stands_reads}
use Rattle.tc_table.proofs.Naming.{asked_first, once_parts, one_asked}
use Rattle.tc_table.proofs.planning.having_all.Goals as goal

pub keep_all-requires : goal.keep_all-requires
keep_all-requires g c = ready_reads g.M.S.Space (In g.M.S.Space g.M.Multi.file_of g.M.Multi.holds) c.args.tree.now c.keys_with.new.tree c.args.space.now c.keys_with.new.space c.keys_with.ensures.reads c.requires

pub returns-clause-some : goal.returns-clause-some
returns-clause-some g c = IfOk-weaker _ _ (λ ks. has_asked true c.args.wanted.now [] ≡ false) (λ ks named. one_asked c.args.wanted.now c.in-Some.token.now c.in-Some.more.now c.in-Some.ensures.cases.0) c.keep_all.ensures.named

pub returns-clause-named : goal.returns-clause-named
returns-clause-named g c =
    IfOk-weaker _ _ (λ ks. OfRows g.M.S.Space g.M.Multi c.args.tree.now c.args.space.now (λ h. AreAsked true c.args.wanted.now h ks)) (λ ks named. λ kind name rows are st.
    asked_first (parts_of kind name rows) c.args.wanted.now c.in-Some.token.now c.in-Some.more.now c.in_ok-first.first ks c.in-Some.ensures.cases.0 (λ k. once_parts kind name rows k c.in-Some.token.now) (c.in_ok-first.ensures.named kind name rows are st)
    (named kind name rows are (stands_reads g.M.S.Space g.M.Multi c.args.tree.now c.keys_with.new.tree c.args.space.now c.keys_with.new.space (parts_of kind name rows) c.keys_with.ensures.reads st))) c.keep_all.ensures.named
