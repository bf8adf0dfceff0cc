-- Texts with a count, one after another.
use Rattle.std.proofs.Common.{◌≡◌, inl, inr, ℕ, suc, ◌-◌, ◌*◌, min, true, false, List, [], ◌∷◌, ◌++◌, length, take, drop, Ok, Err, refl, sym, ap, ◌∙◌, append_assoc, arith}
use Rattle.std.specs.Prelude.{is_ok, nat_lt}
use Rattle.std.proofs.lemmas.List.{append-nil, length-take}
use Rattle.std.proofs.lemmas.Bool.{ltb-false}
use Rattle.tc_base.specs.declared.fields.NotWhole.{NotWhole}
use Rattle.tc_base.specs.Reading.{Front, ◌>>=◌, size_at, bytes_at}
use Rattle.tc_base.proofs.Exact.{bind_ok, bind_err, same_whole}
use Rattle.tc_base.proofs.ExactFields.{chosen}
use Rattle.ty_wire.specs.Reading.{items_at}
use Rattle.ty_wire.specs.Items.{item_at, texts_of}

-- these were read, and so many are to come
abbrev pub Ahead : ℕ → ℕ → ℕ → List ℕ → ℕ → ℕ → List ℕ → List (List ℕ) → Type 0
Ahead most count room bytes n left rest xs = items_at most count room bytes ≡ (items_at most n left rest >>= λ ys. Ok (xs ++ ys.0, ys.1))

abbrev found : List (List ℕ) → List ℕ → Front (List (List ℕ))
found xs rest = Ok (xs, rest)

same_bind : (r : Front (List (List ℕ))) → r ≡ (r >>= λ ys. Ok ([] ++ ys.0, ys.1))
same_bind (Ok x) = refl
same_bind (Err e) = refl

pub ahead_start : (most count room : ℕ) (bytes : List ℕ) → Ahead most count room bytes count room bytes []
ahead_start most count room bytes = same_bind (items_at most count room bytes)

pub bytes_length : (n : ℕ) (bytes x rest : List ℕ) → bytes_at n bytes ≡ Ok (x, rest) → length x ≡ n
bytes_length n bytes x rest e = elim (chosen (nat_lt (length bytes) n) _ _ (Ok (x, rest)) e) [
  | inl h ↦ absurd (let bad = h.1 in cc)
  | inr h ↦
      let s = same_whole (take n bytes) x (drop n bytes) rest h.1 in
      ap length (sym s.0) ∙ omega (arith, length-take n bytes, ltb-false _ _ h.0)
]

abbrev pub next : ℕ → ℕ → ℕ → List ℕ → List ℕ → Front (List (List ℕ))
next most n left x rest = items_at most n (left - 4 - length x) rest >>= λ xs. Ok (x ∷ xs.0, xs.1)

pub one_read : (most n left : ℕ) (rest x behind : List ℕ) → item_at (min most (left - 4 * suc n)) rest ≡ Ok (x, behind) → items_at most (suc n) left rest ≡ next most n left x behind
one_read most n left rest x behind e =
    let limit = min most (left - 4 * suc n) in
    let s = bind_ok (size_at limit rest) (λ s. bytes_at s.0 s.1) (x, behind) e in
    let len : length x ≡ s.0.0 = bytes_length s.0.0 s.0.1 x behind s.2 in
    ap (λ (r : Front ℕ). r >>= λ size. bytes_at size.0 size.1 >>= λ x. items_at most n (left - 4 - size.0) x.1 >>= λ xs. Ok (x.0 ∷ xs.0, xs.1)) s.1
    ∙ ap (λ (r : Front (List ℕ)). r >>= λ x. items_at most n (left - 4 - s.0.0) x.1 >>= λ xs. Ok (x.0 ∷ xs.0, xs.1)) s.2
    ∙ ap (λ (k : ℕ). items_at most n (left - 4 - k) behind >>= λ xs. Ok (x ∷ xs.0, xs.1)) (sym len)

pub none_read : (most n left : ℕ) (rest : List ℕ) (d : NotWhole) → item_at (min most (left - 4 * suc n)) rest ≡ Err d → items_at most (suc n) left rest ≡ Err d
none_read most n left rest d e = elim (bind_err (size_at (min most (left - 4 * suc n)) rest) (λ s. bytes_at s.0 s.1) d e) [
  | inl h ↦ ap (λ (r : Front ℕ). r >>= λ size. bytes_at size.0 size.1 >>= λ x. items_at most n (left - 4 - size.0) x.1 >>= λ xs. Ok (x.0 ∷ xs.0, xs.1)) h
  | inr h ↦
      ap (λ (r : Front ℕ). r >>= λ size. bytes_at size.0 size.1 >>= λ x. items_at most n (left - 4 - size.0) x.1 >>= λ xs. Ok (x.0 ∷ xs.0, xs.1)) h.1
      ∙ ap (λ (r : Front (List ℕ)). r >>= λ x. items_at most n (left - 4 - h.0.0) x.1 >>= λ xs. Ok (x.0 ∷ xs.0, xs.1)) h.2
]

regroup : (r : Front (List (List ℕ))) (xs : List (List ℕ)) (x : List ℕ) → ((r >>= λ ys. found (x ∷ ys.0) ys.1) >>= λ ys. found (xs ++ ys.0) ys.1) ≡ (r >>= λ ys. found ((xs ++ x ∷ []) ++ ys.0) ys.1)
regroup (Ok y) xs x = ap (λ (l : List (List ℕ)). found l y.1) (sym (append_assoc xs (x ∷ []) y.0))
regroup (Err e) xs x = refl

pub ahead_step : (most count room : ℕ) (bytes : List ℕ) (m n left limit : ℕ) (rest x behind : List ℕ) (xs : List (List ℕ)) → Ahead most count room bytes m left rest xs → m ≡ suc n → limit ≡ min most (left - 4 * m) → item_at limit rest ≡ Ok (x, behind)
    → Ahead most count room bytes n (left - 4 - length x) behind (xs ++ x ∷ [])
ahead_step most count room bytes m n left limit rest x behind xs ahead is small e =
    let read : item_at (min most (left - 4 * suc n)) rest ≡ Ok (x, behind) = ap (λ (k : ℕ). item_at k rest) (sym (small ∙ ap (λ (k : ℕ). min most (left - 4 * k)) is)) ∙ e in
    ahead ∙ ap (λ (k : ℕ). items_at most k left rest >>= λ ys. Ok (xs ++ ys.0, ys.1)) is
    ∙ ap (λ (r : Front (List (List ℕ))). r >>= λ ys. Ok (xs ++ ys.0, ys.1)) (one_read most n left rest x behind read)
    ∙ regroup (items_at most n (left - 4 - length x) behind) xs x

pub ahead_stop : (most count room : ℕ) (bytes : List ℕ) (m n left limit : ℕ) (rest : List ℕ) (xs : List (List ℕ)) (d : NotWhole) → Ahead most count room bytes m left rest xs → m ≡ suc n → limit ≡ min most (left - 4 * m) → item_at limit rest ≡ Err d
    → items_at most count room bytes ≡ Err d
ahead_stop most count room bytes m n left limit rest xs d ahead is small e =
    let read : item_at (min most (left - 4 * suc n)) rest ≡ Err d = ap (λ (k : ℕ). item_at k rest) (sym (small ∙ ap (λ (k : ℕ). min most (left - 4 * k)) is)) ∙ e in
    ahead ∙ ap (λ (k : ℕ). items_at most k left rest >>= λ ys. Ok (xs ++ ys.0, ys.1)) is
    ∙ ap (λ (r : Front (List (List ℕ))). r >>= λ ys. Ok (xs ++ ys.0, ys.1)) (none_read most n left rest d read)

pub ahead_end : (most count room : ℕ) (bytes : List ℕ) (m left : ℕ) (rest : List ℕ) (xs : List (List ℕ)) → Ahead most count room bytes m left rest xs → m ≡ 0 → items_at most count room bytes ≡ Ok (xs, rest)
ahead_end most count room bytes m left rest xs ahead is =
    ahead ∙ ap (λ (k : ℕ). items_at most k left rest >>= λ ys. Ok (xs ++ ys.0, ys.1)) is ∙ ap (λ (l : List (List ℕ)). found l rest) (append-nil xs)

-- what is whole isn't refused
pub not_refused : (r : Front (List (List ℕ))) (d : NotWhole) → is_ok r ≡ true → r ≡ Err d → ⊥
not_refused r d whole e = let wrong : is_ok r ≡ false = ap is_ok e in cc

pub texts_are : (r : Front (List (List ℕ))) (xs : List (List ℕ)) (rest : List ℕ) → r ≡ Ok (xs, rest) → xs ≡ texts_of r
texts_are r xs rest e = sym (ap texts_of e)
