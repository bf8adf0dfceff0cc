use Rattle.std.proofs.lemmas.Result.{on_ok_weaker}
use Rattle.bt_page.proofs.Runs.{err_handed}
use Rattle.bt_tree.proofs.Unlinkings.{all_linked, drop_given, drop_ready, first_full, first_ready, second_full, second_ready}
use Rattle.bt_tree.proofs.tree.Tree.unlink.Goals as goal

pub link_next-requires : goal.link_next-requires
link_next-requires g c = first_ready g.R.S.Space g.R.Records c.args.id c.args.prev c.args.next c.args.self.now c.args.space.now c.requires.ready

pub returns-in_err-link_next-clause-full : goal.returns-in_err-link_next-clause-full
returns-in_err-link_next-clause-full g c = λ is.
    first_full g.R.S.Space g.R.Records c.args.id c.args.prev c.args.next c.args.self.now c.args.space.now c.link_next.new.space (c.in_err-link_next.ensures.full (err_handed c.from_residual.result _ _ c.from_residual.ensures.1 is))

pub link_prev-requires : goal.link_prev-requires
link_prev-requires g c = second_ready g.R.S.Space g.R.Records c.args.id c.args.prev c.args.next c.args.self.now c.link_next.new.self c.args.space.now c.link_next.new.space c.in_ok-link_next.ensures.linked c.in_ok-link_next.ensures.narrows c.requires.ready

pub returns-in_err-link_prev-clause-full : goal.returns-in_err-link_prev-clause-full
returns-in_err-link_prev-clause-full g c = λ is.
    second_full g.R.S.Space g.R.Records c.args.id c.args.prev c.args.next c.args.self.now c.link_next.new.self c.args.space.now c.link_next.new.space c.in_ok-link_next.ensures.linked c.in_ok-link_next.ensures.narrows c.link_prev.new.space (c.in_err-link_prev.ensures.full (err_handed c.from_residual-in_err-link_prev.result _ _ c.from_residual-in_err-link_prev.ensures.1 is))

pub drop_page-requires-clause-ready : goal.drop_page-requires-clause-ready
drop_page-requires-clause-ready g c =
    drop_ready g.R.S.Space g.R.Records c.args.id c.args.prev c.args.next c.args.self.now c.link_next.new.self c.args.space.now c.link_next.new.space c.in_ok-link_next.ensures.linked c.in_ok-link_next.ensures.narrows
    c.link_prev.new.self c.link_prev.new.space c.in_ok-link_prev.ensures.linked c.in_ok-link_prev.ensures.narrows c.requires.ready

pub drop_page-requires-clause-id : goal.drop_page-requires-clause-id
drop_page-requires-clause-id g c =
    drop_given g.R.S.Space g.R.Records c.args.id c.args.prev c.args.next c.args.self.now c.link_next.new.self c.args.space.now c.link_next.new.space c.in_ok-link_next.ensures.linked c.in_ok-link_next.ensures.narrows
    c.link_prev.new.self c.link_prev.new.space c.in_ok-link_prev.ensures.linked c.in_ok-link_prev.ensures.narrows c.requires.given

pub returns-clause-unlinked : goal.returns-clause-unlinked
returns-clause-unlinked g c =
    on_ok_weaker c.drop_page.result
    (λ out. all_linked g.R.S.Space g.R.Records c.args.id c.args.prev c.args.next c.args.self.now c.link_next.new.self c.args.space.now c.link_next.new.space c.in_ok-link_next.ensures.linked c.in_ok-link_next.ensures.narrows
    c.link_prev.new.self c.link_prev.new.space c.in_ok-link_prev.ensures.linked c.in_ok-link_prev.ensures.narrows c.drop_page.new.self c.drop_page.new.space out)
    c.drop_page.ensures.out
