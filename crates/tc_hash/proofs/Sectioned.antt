-- The pool section as it is known: up to a place from which on it has zeros.
use Rattle.std.proofs.Common.{◌≡◌, ◌∙◌, ℕ, zero, suc, ◌+◌, ◌-◌, ◌≤◌, List, [], ◌∷◌, ◌++◌, length, take, drop, replicate, sym, ap, arith, append_assoc, length-append, get_or, ◌<◌}
use Rattle.std.proofs.lemmas.List.{length-replicate, replicate-append-replicate, take-append-drop, drop-drop, take_at, drop_at}
use Rattle.tc_base.specs.Files.{wrote}
use Rattle.hf_pool.specs.Pools.{frees}
use Rattle.hf_pool.specs.Sections.{InOrder, pairs}
use Rattle.hf_pool.specs.Written.{AddsBlocks}
use Rattle.hf_record.specs.declared.body.Body.{Body}
use Rattle.tc_hash.specs.Bringing.{IsSectionOver}
use Rattle.tc_hash.specs.Sections.{filled, section_len}
use Rattle.tc_hash.proofs.Kept.{filled_long}

-- zeros behind bytes are zeros of what is filled up
pub filled_zeros : (n k : ℕ) (x : List ℕ) → length x + k ≤ n → filled n (x ++ replicate k 0) ≡ filled n x
filled_zeros n k x fits =
    let long : length (x ++ replicate k 0) ≡ length x + k = omega (arith, length-append x (replicate k 0), length-replicate {A = ℕ} k 0) in
    append_assoc x (replicate k 0) (replicate (n - length (x ++ replicate k 0)) 0)
    ∙ ap (λ (l : List ℕ). x ++ l) (replicate-append-replicate k (n - length (x ++ replicate k 0)) 0)
    ∙ ap (λ (m : ℕ). x ++ replicate m 0) (omega (arith, long, fits))

-- the pairs of the free blocks and what stood there, each with zeros behind it up to the length of the longer one
pub section_over : (b : Body) (was old new : List ℕ) (blocks : List (ℕ × ℕ)) (i j : ℕ) → InOrder (frees b.pool) blocks → length (pairs b.pool.unit 0 (section_len b.head) blocks) ≤ section_len b.head → new ≡ pairs b.pool.unit 0 (section_len b.head) blocks ++ replicate i 0 → i ≡ length was - length (pairs b.pool.unit 0 (section_len b.head) blocks)
    → old ≡ was ++ replicate j 0 → j ≡ length new - length was → IsSectionOver b was old new
section_over b was old new blocks i j order room en ei eo ej =
    let p : List ℕ = pairs b.pool.unit 0 (section_len b.head) blocks in
    let new_long : length new ≡ length p + i = omega (arith, ap length en, length-append p (replicate i 0), length-replicate {A = ℕ} i 0) in
    let old_long : length old ≡ length was + j = omega (arith, ap length eo, length-append was (replicate j 0), length-replicate {A = ℕ} j 0) in
    record {
      zeros = (j, eo);
      long = omega (arith, new_long, old_long, ei, ej);
      few = λ few. omega (arith, new_long, ei, few, room);
      lists = λ few. (blocks, order, ap (filled (section_len b.head)) en ∙ filled_zeros (section_len b.head) i p (omega (arith, ei, few, room)));
    }

-- bytes stand at a place, and zeros behind them
module _ (at long : ℕ) (old a : List ℕ) (shows : take long (drop at a) ≡ filled long old) where
  from_there : drop at a ≡ old ++ (replicate (long - length old) 0 ++ drop long (drop at a))
  from_there = sym (take-append-drop long (drop at a)) ∙ ap (λ (l : List ℕ). l ++ drop long (drop at a)) shows ∙ append_assoc old (replicate (long - length old) 0) (drop long (drop at a))

  pub old_stands : (n : ℕ) → length old ≡ n → old ≡ take n (drop at a)
  old_stands n e = sym (ap (take n) from_there ∙ take_at old (replicate (long - length old) 0 ++ drop long (drop at a)) n e)

  behind_there : (x : List ℕ) → length old ≡ length x → drop (at + length x) a ≡ replicate (long - length x) 0 ++ drop (at + long) a
  behind_there x same =
      sym (drop-drop (length x) at a) ∙ ap (drop (length x)) from_there ∙ drop_at old (replicate (long - length old) 0 ++ drop long (drop at a)) (length x) same
      ∙ (λ i. replicate (long - same i) 0 ++ drop-drop long at a i)

  -- others written over them are written with their zeros
  pub wrote_whole : (x : List ℕ) → length old ≡ length x → length x ≤ long → wrote at x a ≡ wrote at (filled long x) a
  unfolding wrote
  wrote_whole x same fits =
      let all : length (filled long x) ≡ long = filled_long long x fits in
      append_assoc (take at a) x (drop (at + length x) a)
      ∙ ap (λ (l : List ℕ). take at a ++ (x ++ l)) (behind_there x same)
      ∙ ap (λ (l : List ℕ). take at a ++ l) (sym (append_assoc x (replicate (long - length x) 0) (drop (at + long) a)))
      ∙ sym (append_assoc (take at a) (filled long x) (drop (at + long) a))
      ∙ ap (λ (n : ℕ). (take at a ++ filled long x) ++ drop (at + n) a) (sym all)

-- ---- zeros behind bytes

zeros_one : (n k d : ℕ) (x : List ℕ) → n < length x → get_or x n d ≡ 0 → drop (suc n) x ≡ replicate k 0 → drop n x ≡ replicate (suc k) 0
zeros_one n k d [] low e r = absurd (omega (arith, low))
zeros_one zero k d (y ∷ ys) low e r = λ i. e i ∷ r i
zeros_one (suc n) k d (y ∷ ys) low e r = zeros_one n k d ys (omega (arith, low)) e r

pub zeros_less : (n d : ℕ) (x : List ℕ) → 0 < n → n ≤ length x → get_or x (n - 1) d ≡ 0 → drop n x ≡ replicate (length x - n) 0 → drop (n - 1) x ≡ replicate (length x - (n - 1)) 0
zeros_less n d x some low e r =
    let next : suc (n - 1) ≡ n = omega (arith, some) in
    let more : suc (length x - n) ≡ length x - (n - 1) = omega (arith, some, low) in
    zeros_one (n - 1) (length x - n) d x (omega (arith, some, low)) e (ap (λ (j : ℕ). drop j x) next ∙ r) ∙ ap (λ (j : ℕ). replicate j 0) more

-- a section that was made for what stood there
pub section_made : (b : Body) (was old start made new : List ℕ) (len i j : ℕ) → AddsBlocks b.pool len start made → start ≡ [] → len ≡ section_len b.head → new ≡ made ++ replicate i 0 → i ≡ length was - length made → old ≡ was ++ replicate j 0 → j ≡ length new - length was → IsSectionOver b was old new
section_made b was old start made new len i j w none same en ei eo ej =
    let p : List ℕ = pairs b.pool.unit 0 (section_len b.head) w.0 in
    let made_is : made ≡ p = w.2 ∙ ap (λ (l : List ℕ). l ++ pairs b.pool.unit 0 len w.0) none ∙ ap (λ (n : ℕ). pairs b.pool.unit 0 n w.0) same in
    let room : length p ≤ section_len b.head = omega (arith, w.3, same, ap length made_is, ap length (w.2 ∙ ap (λ (l : List ℕ). l ++ pairs b.pool.unit 0 len w.0) none)) in
    section_over b was old new w.0 i j w.1 room (en ∙ ap (λ (l : List ℕ). l ++ replicate i 0) made_is) (ei ∙ ap (λ (l : List ℕ). length was - length l) made_is) eo ej
