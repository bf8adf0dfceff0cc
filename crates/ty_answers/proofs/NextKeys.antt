-- The key that a step of the walk answers.
use Rattle.std.proofs.Common.{◌≡◌, ◌∙◌, ◌+◌, ◌<◌, ℕ, zero, suc, Bool, true, cond, List, [], ◌∷◌, ◌++◌, length, drop, get_or, Some, refl, sym, ap, subst, arith}
use Rattle.std.specs.Prelude.{slice_index_or}
use Rattle.tc_base.specs.declared.request.Reply.TheVariants as reply
use Rattle.ty_wire.specs.Spelling.{reply_bytes}
use Rattle.tc_model.specs.Contents.{Contents, Walk}
use Rattle.tc_model.specs.Steps.{IsAt, IsNext}
use Rattle.ty_answers.specs.Lists.{Says}
use Rattle.ty_answers.specs.Walking.{SaysKey}

same_at : (xs : List (List ℕ)) (i : ℕ) (d e : List ℕ) → i < length xs → get_or xs i d ≡ get_or xs i e
same_at [] i d e lt = absurd (omega arith)
same_at (x ∷ xs) zero d e lt = refl
same_at (x ∷ xs) (suc i) d e lt = same_at xs i d e (omega arith)

is_next : (c : Contents) (w : Walk) (keys : List (List ℕ)) (i : ℕ) (key d : List ℕ) → Some keys ≡ w → IsAt c keys i → key ≡ get_or keys i d → IsNext c w (i + 1) key
is_next c w keys i key d is at here =
    let item : slice_index_or keys i [] ≡ key = same_at keys i [] d at.inside ∙ sym here in
    subst (λ (w : Walk). IsNext c w (i + 1) key) is (record {
      rest = drop (i + 1) keys;
      next = at.next ∙ ap (λ (k : List ℕ). Some (k, drop (i + 1) keys)) item;
      left = refl;
      there = omega (arith, at.inside);
    })

-- the key was said
pub says_key : (c : Contents) (w : Walk) (keys : List (List ℕ)) (i : ℕ) (key d : List ℕ) (done : Bool) (old new : List ℕ) → Some keys ≡ w → IsAt c keys i → key ≡ get_or keys i d → Says (reply.Value key) done old new → done ≡ true → SaysKey c w (i + 1) old new
says_key c w keys i key d done old new is at here says true_is = record {
  key = key;
  next = is_next c w keys i key d is at here;
  fits_in = sym says.done_is ∙ true_is;
  bytes = says.bytes ∙ ap (λ (b : Bool). old ++ reply_bytes (cond b (reply.Value key) reply.Fail)) true_is;
}
