-- Counting what stands at the front, by any grammar.
use Rattle.std.proofs.Common.{◌≡◌, ℕ, zero, suc, ◌≤◌, List, [], ◌∷◌, length, refl, sym, ap, ◌∙◌, arith}
use Rattle.std.specs.Prelude.{Ok, Err}
use Rattle.tc_base.specs.Reading.{Front}
use Rattle.ty_memc.specs.Grammar.{IsGrammar}
use Rattle.ty_world.specs.Frames.{one_more, frames_within, frames_by}

more_same : {A : Type 0} (f g : List ℕ → ℕ) (t : Front A) → ((x : A) (rest : List ℕ) → t ≡ Ok (x, rest) → f rest ≡ g rest) → one_more f t ≡ one_more g t
more_same f g (Ok x) h = ap suc (h x.0 x.1 refl)
more_same f g (Err e) h = refl

module _ {A : Type 0} {S : A → List ℕ → Type 0} (p : List ℕ → Front A) (g : IsGrammar S p) where
  nothing : (m : ℕ) → one_more (frames_within p m) (p []) ≡ 0
  nothing m = go (p []) refl
    where
      go : (t : Front A) → p [] ≡ t → one_more (frames_within p m) t ≡ 0
      go (Ok x) e = absurd (let l = g.less [] x.0 x.1 e in omega (arith, l))
      go (Err d) e = refl

  -- enough is enough
  within_same : (n m : ℕ) (u : List ℕ) → length u ≤ n → length u ≤ m → frames_within p n u ≡ frames_within p m u
  unfolding frames_within
  within_same zero zero u a b = refl
  within_same zero (suc m) [] a b = sym (nothing m)
  within_same zero (suc m) (x ∷ u) a b = absurd (omega (arith, a))
  within_same (suc n) zero [] a b = nothing n
  within_same (suc n) zero (x ∷ u) a b = absurd (omega (arith, b))
  within_same (suc n) (suc m) u a b = more_same (frames_within p n) (frames_within p m) (p u) (λ x rest e. let l = g.less u x rest e in within_same n m rest (omega (arith, l, a)) (omega (arith, l, b)))

  pub frames_next : (u : List ℕ) (x : A) (rest : List ℕ) → p u ≡ Ok (x, rest) → frames_by p u ≡ suc (frames_by p rest)
  unfolding frames_by frames_within
  frames_next u x rest e = go (length u) refl
    where
      go : (n : ℕ) → length u ≡ n → frames_within p n u ≡ suc (frames_within p (length rest) rest)
      go zero is = absurd (let l = g.less u x rest e in omega (arith, l, is))
      go (suc n) is = ap (one_more (frames_within p n)) e ∙ ap suc (within_same n (length rest) rest (let l = g.less u x rest e in omega (arith, l, is)) (omega arith))
