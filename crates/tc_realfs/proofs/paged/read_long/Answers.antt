use Rattle.std.proofs.Common.{◌≡◌, ◌∙◌, ◌+◌, ◌≤◌, length, take, drop, sym, ap, arith}
use Rattle.std.proofs.lemmas.List.{take_all}
use Rattle.std.proofs.lemmas.Result.{on_ok_weaker}
use Rattle.tc_realfs.proofs.Showing.{joined_front}
use Rattle.tc_realfs.proofs.paged.read_long.Goals as goal

pub returns-then-done-into-clause-bytes : goal.returns-then-done-into-clause-bytes
returns-then-done-into-clause-bytes g c = λ file told s.
    let all : length c.copy_front-done.new.into ≤ c.copy_front-done.result = omega (arith, c.if-done-into.true) in
    sym (take_all c.copy_front-done.result c.copy_front-done.new.into all)
    ∙ c.copy_front-done.ensures.bytes file s
    ∙ ap (λ n. take n (drop c.args.at file)) (omega (arith, all, c.copy_front-done.auto.into, c.copy_front-done.ensures.most))

pub returns-then-is_kept-clause-bytes : goal.returns-then-is_kept-clause-bytes
returns-then-is_kept-clause-bytes g c =
    on_ok_weaker c.read_kept.result
    (λ e file told s. joined_front c.args.at _ _ _ _ _ _ file c.split_at_mut-rest.ensures.value c.split_at_mut-rest.ensures.front_len c.copy_front-done.auto.into (c.copy_front-done.ensures.bytes file s) (e file told))
    c.read_kept.ensures.bytes

pub returns-clause-bytes : goal.returns-clause-bytes
returns-clause-bytes g c =
    on_ok_weaker c.read_at.result
    (λ e file told s. joined_front c.args.at _ _ _ _ _ _ file c.split_at_mut-rest.ensures.value c.split_at_mut-rest.ensures.front_len c.copy_front-done.auto.into (c.copy_front-done.ensures.bytes file s) (e file told))
    c.read_at.ensures
