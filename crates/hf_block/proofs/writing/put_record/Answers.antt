use Rattle.std.proofs.Common.{◌≡◌, ◌∙◌, List, ℕ, ◌+◌, ◌++◌, length, replicate, ap}
use Rattle.std.proofs.lemmas.Result.{on_ok_weaker, on_err_weaker}
use Rattle.hf_head.specs.Heads.{wide}
use Rattle.hf_block.specs.Written.{padding, content}
use Rattle.hf_block.proofs.Padding.{record_is, chained, chained_more, further}
use Rattle.hf_block.proofs.writing.put_record.Goals as goal

pub returns-clause-ok : goal.returns-clause-ok
returns-clause-ok c =
    let pad : c.pad_of-pad.result ≡ padding c.args.unit (content (wide c.args.large) c.args.key.now c.args.value.now) =
    c.pad_of-pad.ensures.value ∙ ap (λ (n : ℕ). padding c.args.unit (n + length c.args.key.now + length c.args.value.now)) c.head_len-head.ensures.value in
    let built = chained c.args.into.now _ _ _ _ c.append-2.new.self _ _ _ _ _ c.in_ok-put_front.ensures.ok c.in_ok-put_vnum.ensures.ok c.in_ok-put_vnum-2.ensures.ok c.in_ok-append.ensures.ok c.in_ok-append-2.ensures.ok in
    let whole = record_is (wide c.args.large) c.args.hash c.args.left c.args.right c.args.key.now c.args.value.now c.args.into.now c.args.unit c.pad_of-pad.result pad in
    on_ok_weaker c.append_zeros.result (λ e. e ∙ ap (λ (l : List ℕ). l ++ replicate c.pad_of-pad.result 0) built ∙ whole) c.append_zeros.ensures.ok

pub returns-clause-err : goal.returns-clause-err
returns-clause-err c =
    let built = chained_more c.args.into.now _ _ _ _ c.append-2.new.self _ _ _ _ _ c.in_ok-put_front.ensures.ok c.in_ok-put_vnum.ensures.ok c.in_ok-put_vnum-2.ensures.ok c.in_ok-append.ensures.ok c.in_ok-append-2.ensures.ok in
    on_err_weaker c.append_zeros.result (further c.args.into.now c.append-2.new.self c.append_zeros.new.into built) c.append_zeros.ensures.err
