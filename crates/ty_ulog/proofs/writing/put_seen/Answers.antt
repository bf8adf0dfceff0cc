use Rattle.std.proofs.Common.{◌≡◌, ℕ, List, [], ◌∷◌, ◌++◌, refl, ap, ◌∙◌, append_assoc}
use Rattle.ty_ulog.specs.Records.{record_bytes}
use Rattle.ty_ulog.proofs.Begun.{begins_behind, begins_in, begins_none, on_err}
use Rattle.ty_ulog.proofs.writing.put_seen.Goals as goal

chain : (o p q r s t u a b c d e e' : List ℕ) (n : ℕ) → p ≡ o ++ n ∷ [] → q ≡ p ++ a → r ≡ q ++ b → s ≡ r ++ c → t ≡ s ++ d → u ≡ t ++ e → e ≡ e' → u ≡ o ++ (n ∷ (a ++ (b ++ (c ++ (d ++ e')))))
chain o p q r s t u a b c d e e' n h1 h2 h3 h4 h5 h6 h7 =
    h6 ∙ ap (λ (l : List ℕ). l ++ e) (h5 ∙ ap (λ (l : List ℕ). l ++ d) (h4 ∙ ap (λ (l : List ℕ). l ++ c) (h3 ∙ ap (λ (l : List ℕ). l ++ b) (h2 ∙ ap (λ (l : List ℕ). l ++ a) h1))))
    ∙ simp append_assoc (ap (λ (l : List ℕ). o ++ (n ∷ (a ++ (b ++ (c ++ (d ++ l)))))) h7)

pub returns-clause-ok : goal.returns-clause-ok
unfolding record_bytes
returns-clause-ok c = chain _ _ _ _ _ _ _ _ _ _ _ _ _ _ c.in_ok-push.ensures.ok c.in_ok-put_long.ensures.ok c.in_ok-put_long-2.ensures.ok c.in_ok-put_id.ensures.ok c.in_ok-put_id-2.ensures.ok c.in_ok-put_text.ensures.ok refl

pub returns-in_err-push-clause-err : goal.returns-in_err-push-clause-err
unfolding record_bytes
returns-in_err-push-clause-err c = on_err _ _ (begins_none _ _ _ c.in_err-push.ensures.err)

pub returns-in_err-put_long-clause-err : goal.returns-in_err-put_long-clause-err
unfolding record_bytes
returns-in_err-put_long-clause-err c = on_err _ _ (begins_behind _ _ _ (0xC9 ∷ []) _ c.in_ok-push.ensures.ok (begins_in _ _ _ _ c.in_err-put_long.ensures.err))

pub returns-in_err-put_long-2-clause-err : goal.returns-in_err-put_long-2-clause-err
unfolding record_bytes
returns-in_err-put_long-2-clause-err c = on_err _ _ (begins_behind _ _ _ (0xC9 ∷ []) _ c.in_ok-push.ensures.ok (begins_behind _ _ _ _ _ c.in_ok-put_long.ensures.ok (begins_in _ _ _ _ c.in_err-put_long-2.ensures.err)))

pub returns-in_err-put_id-clause-err : goal.returns-in_err-put_id-clause-err
unfolding record_bytes
returns-in_err-put_id-clause-err c = on_err _ _ (begins_behind _ _ _ (0xC9 ∷ []) _ c.in_ok-push.ensures.ok (begins_behind _ _ _ _ _ c.in_ok-put_long.ensures.ok (begins_behind _ _ _ _ _ c.in_ok-put_long-2.ensures.ok (begins_none _ _ _ c.in_err-put_id.ensures.err))))

pub returns-in_err-put_id-2-clause-err : goal.returns-in_err-put_id-2-clause-err
unfolding record_bytes
returns-in_err-put_id-2-clause-err c = on_err _ _ (begins_behind _ _ _ (0xC9 ∷ []) _ c.in_ok-push.ensures.ok (begins_behind _ _ _ _ _ c.in_ok-put_long.ensures.ok (begins_behind _ _ _ _ _ c.in_ok-put_long-2.ensures.ok (begins_behind _ _ _ _ _ c.in_ok-put_id.ensures.ok (begins_none _ _ _ c.in_err-put_id-2.ensures.err)))))

pub returns-in_err-put_text-clause-err : goal.returns-in_err-put_text-clause-err
unfolding record_bytes
returns-in_err-put_text-clause-err c = on_err _ _ (begins_behind _ _ _ (0xC9 ∷ []) _ c.in_ok-push.ensures.ok (begins_behind _ _ _ _ _ c.in_ok-put_long.ensures.ok (begins_behind _ _ _ _ _ c.in_ok-put_long-2.ensures.ok (begins_behind _ _ _ _ _ c.in_ok-put_id.ensures.ok (begins_behind _ _ _ _ _ c.in_ok-put_id-2.ensures.ok c.in_err-put_text.ensures.err)))))
