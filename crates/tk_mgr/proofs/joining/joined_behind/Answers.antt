use Rattle.std.proofs.Common.{◌∙◌, ◌++◌, List, ℕ, sym, ap}
use Rattle.std.proofs.Math.ListN.{drop_of_length-le}
use Rattle.std.proofs.lemmas.List.{append-nil}
use Rattle.tk_mgr.proofs.Between.{behind, join_is}
use Rattle.tk_mgr.proofs.joining.joined_behind.Goals as goal

pub returns : goal.returns
returns c =
    sym (append-nil c.loop-text.all) ∙ ap (λ (l : List (List ℕ)). c.loop-text.all ++ behind l) (sym (drop_of_length-le c.args.rest.now c.loop-text-test.false)) ∙ c.loop-text.invariant
    ∙ sym (join_is c.args.first.now c.args.rest.now)
