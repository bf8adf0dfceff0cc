use Rattle.std.proofs.Common.{refl, ◌∙◌, arith, ap, length, List, ℕ}
use Rattle.bt_page.proofs.Written.{item_written, tail_is, first_any}
use Rattle.bt_page.proofs.writing.put_item.Goals as goal

pub returns-clause-ok : goal.returns-clause-ok
returns-clause-ok c =
    item_written c.args.into.now _ _ _ _ _ c.put_values.new.into c.as_slice-key.result.now c.args.item.now c.as_slice-values.result.now c.as_slice-first.result.now _ _ _ _
    c.in_ok-put_vnum.ensures.ok c.in_ok-put_vnum-2.ensures.ok c.in_ok-put_vnum-3.ensures.ok c.in_ok-append.ensures.ok c.in_ok-append-2.ensures.ok c.in_ok-put_values.ensures.ok
    refl c.as_slice-key.ensures c.as_slice-values.ensures (omega (arith, ap (λ (l : List (List ℕ)). length l) c.as_slice-values.ensures, c.requires.held)) (c.as_slice-first.ensures ∙ c.index-values-0.is ∙ first_any c.as_slice-values.result.now _ _ (omega (arith, ap (λ (l : List (List ℕ)). length l) c.as_slice-values.ensures, c.requires.held))) (tail_is c.as_slice-values.result.now) refl refl
