use Rattle.std.proofs.Common.{◌∙◌, ◌+◌, take, drop, refl, ap}
use Rattle.std.proofs.lemmas.Result.{on_ok_weaker}
use Rattle.tc_realfs.proofs.Showing.{joined}
use Rattle.tc_realfs.proofs.paged.read.Goals as goal

pub returns-in-true-true-clause-bytes : goal.returns-in-true-true-clause-bytes
returns-in-true-true-clause-bytes g c = λ file told s.
    joined c.args.at _ _ _ _ _ _ file c.split_at_mut-first.ensures.value c.split_at_mut-first.ensures.front_len (c.in-true-true.ensures.bytes refl file s) (c.in-true-true.ensures'.bytes refl file s)

pub returns-in-true-false-clause-bytes : goal.returns-in-true-false-clause-bytes
returns-in-true-false-clause-bytes g c =
    on_ok_weaker c.read_one.result
    (λ e file told s.
    joined c.args.at _ _ _ _ _ _ file c.split_at_mut-first.ensures.value c.split_at_mut-first.ensures.front_len
    (c.in-true-false.ensures.bytes refl file s)
    (e file told ∙ ap (λ n. take n (drop (c.args.at + c.min-here.result) file)) c.copy-2.auto.into))
    c.read_one.ensures.bytes

pub returns-in-false-true-clause-bytes : goal.returns-in-false-true-clause-bytes
returns-in-false-true-clause-bytes g c =
    on_ok_weaker c.read_one-in-false-true.result
    (λ e file told s.
    joined c.args.at _ _ _ _ _ _ file c.split_at_mut-first.ensures.value c.split_at_mut-first.ensures.front_len
    (e file told ∙ ap (λ n. take n (drop c.args.at file)) c.copy.auto.into)
    (c.in-false-true.ensures'.bytes refl file s))
    c.read_one-in-false-true.ensures.bytes
