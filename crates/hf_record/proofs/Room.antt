-- Writes inside a file pass no limit but the log's.
use Rattle.std.proofs.Common.{◌≡◌, inl, inr, ℕ, ◌+◌, ◌%◌, ◌<◌, ◌≤◌, length, sym, subst, arith, Err}
use Rattle.std.specs.Prelude.{IsErrOf}
use Rattle.std.proofs.lemmas.Bool.{cases_lt}
use Rattle.std.proofs.Math.Nat.{mod-eq_of_lt}
use Rattle.tc_base.proofs.Endians.{length-le_bytes}
use Rattle.tc_space.specs.Ranges.{IsDataFile, Passes}
use Rattle.tc_space.specs.declared.space.Space.{Ghosts}
use Rattle.hf_head.specs.declared.head.Head.{Head}
use Rattle.hf_block.specs.Heads.{free_head}
use Rattle.hf_layout.specs.Frees.{Frees}
use Rattle.hf_pool.specs.Joins.{GivesBack, FrontJoined}
use Rattle.hf_pool.specs.declared.pool.Pool.{Pool}
use Rattle.hf_pool.specs.Pools.{frees}
use Rattle.hf_record.specs.Moves.{IsWithin}

-- what is said of a head and a file is said of equal ones
pub along : (P : Head → ℕ → Type 0) (h' h : Head) (f' f : ℕ) → h' ≡ h → f' ≡ f → P h f → P h' f'
along P h' h f' f eh ef x = subst (λ (z : Head). P z f') (sym eh) (subst (λ (n : ℕ). P h n) (sym ef) x)

-- the same error of another answer
pub err_as : {A B E : Type 0} (e x : E) → IsErrOf {T = A} (Err e) x → IsErrOf {T = B} (Err e) x
err_as e x is = let same : e ≡ x = cc in λ i. Err (same i)

-- an error that is answered is that one
pub err_inner : {A B : Type 0} (e x : B) → IsErrOf {T = A} (Err e) x → e ≡ x
err_inner e x is = cc

-- and the other way round
pub err_of : {A B : Type 0} (e x : B) → e ≡ x → IsErrOf {T = A} (Err e) x
err_of e x is = λ i. Err (is i)

pub head_long : (size : ℕ) → length (free_head size) ≡ 5
unfolding free_head
head_long size = omega (arith, length-le_bytes 4 size)

pub atleast : (u n : ℕ) → 5 ≤ u → 0 < n → n % u ≡ 0 → 5 ≤ n
atleast u n room some is = elim (cases_lt n u) [ inl less ↦ absurd (let e = mod-eq_of_lt less in omega (arith, e, some, is)) | inr more ↦ omega (arith, more, room) ]

-- what a block given back becomes lies in the file
pub given_ends : (old new : Pool) (at size start total long : ℕ) → IsWithin old.unit old.size (frees old) at size long → GivesBack (frees old) (frees new) at size start total → (start + 5 ≤ long)
given_ends old new at size start total long w g = go g.half g.middle g.front
  where
    go : (half : ℕ) (middle : Frees) → FrontJoined (frees old) at size start half middle → start + 5 ≤ long
    go half middle (inl j) = let five = atleast old.unit size old.some w.sized.some w.sized.aligned in omega (arith, j.1.ends, five, w.inside)
    go half middle (inr k) = let five = atleast old.unit size old.some w.sized.some w.sized.aligned in omega (arith, k.start_is, five, w.inside)

-- a write inside the file is refused for the log alone
pub not_past : {S : Type 0} (s : Ghosts S) → ((a : S) (file : ℕ) → s.tells → s.sound a → IsDataFile file → length (s.now a file) ≤ s.limit a file) → (file at size : ℕ) (a b : S) → s.tells → s.sound a → IsDataFile file → at + size ≤ length (s.now a file) → Passes (s.limit a file) (s.log_full b) at size → s.log_full b
not_past s within file at size a b t sound numbered inside (inl past) = absurd (let w = within a file t sound numbered in omega (arith, w, past, inside))
not_past s within file at size a b t sound numbered inside (inr full) = full
