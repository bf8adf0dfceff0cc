-- Keys of one length, compared by their fronts first.
use Rattle.std.proofs.Common.{◌≡◌, ◌≢◌, ◌∙◌, ℕ, ◌+◌, ◌-◌, ◌≤◌, List, ◌++◌, length, take, drop, length-take, length-drop, refl, sym, ap, arith}
use Rattle.std.specs.Prelude.{replicate}
use Rattle.std.proofs.lemmas.List.{take_at, take_all, take-append-drop, drop-take, drop-drop, length-take-le}
use Rattle.std.specs.Ordering.{nat_cmp}
use Rattle.std.specs.declared.cmp.Ordering.{Ordering}
use Rattle.std.specs.declared.cmp.Ordering.TheVariants.{Equal}
use Rattle.std.specs.Cmp.Lexicographic.{slice_cmp}
use Rattle.std.proofs.lemmas.Cmp.{nat_list_cmp_total, tied_itself}
use Rattle.hf_tree.proofs.Orders.{slice_equal}
use Rattle.hf_survey.specs.declared.facts.Fact.{Fact}
use Rattle.hf_survey.specs.Facts.{front_of}
use Rattle.hf_survey.specs.Orders.{HasKey, key_in}
use Rattle.hf_chain.proofs.Pieces.{cmp_front, cmp_shared}

module _ (x y : List ℕ) (long : length x ≡ length y) where
  firsts_long : length (take 16 x) ≡ length (take 16 y)
  firsts_long = simp length-take (ap (Prim.Native.Nat.min 16) long)

  -- fronts are the same just where the first bytes are
  same_fronts : take 16 x ≡ take 16 y → front_of x ≡ front_of y
  same_fronts e = λ i. e i ++ replicate (16 - long i) 0

  same_firsts : front_of x ≡ front_of y → take 16 x ≡ take 16 y
  same_firsts e =
      let n = length (take 16 x) in
      sym (take_at (take 16 x) (replicate (16 - length x) 0) n refl) ∙ ap (λ (l : List ℕ). take n l) e ∙ take_at (take 16 y) (replicate (16 - length y) 0) n (sym firsts_long)

  by_fronts : (o : Ordering) → o ≡ slice_cmp nat_cmp (front_of x) (front_of y) → o ≢ Equal → o ≡ slice_cmp nat_cmp x y
  by_fronts o e ne =
      let apart : slice_cmp nat_cmp (take 16 x) (take 16 y) ≢ Equal = λ same. ne (e ∙ ap (λ (l : List ℕ). slice_cmp nat_cmp l (front_of y)) (same_fronts (slice_equal (take 16 x) (take 16 y) same)) ∙ tied_itself nat_list_cmp_total (front_of y)) in
      e ∙ cmp_front (take 16 x) (take 16 y) (replicate (16 - length x) 0) (replicate (16 - length y) 0) firsts_long apart
      ∙ sym (cmp_front (take 16 x) (take 16 y) (drop 16 x) (drop 16 y) firsts_long apart)
      ∙ (λ i. slice_cmp nat_cmp (take-append-drop 16 x i) (take-append-drop 16 y i))

  all_in_fronts : length x ≤ 16 → front_of x ≡ front_of y → Equal ≡ slice_cmp nat_cmp x y
  all_in_fronts short e =
      let same : x ≡ y = sym (take_all 16 x short) ∙ same_firsts e ∙ take_all 16 y (omega (arith, short, long)) in
      sym (ap (λ (l : List ℕ). slice_cmp nat_cmp l y) same ∙ tied_itself nat_list_cmp_total y)

  behind_fronts : (o : Ordering) → front_of x ≡ front_of y → o ≡ slice_cmp nat_cmp (drop 16 x) (drop 16 y) → o ≡ slice_cmp nat_cmp x y
  behind_fronts o e is =
      let whole : take 16 y ++ drop 16 x ≡ x = ap (λ (l : List ℕ). l ++ drop 16 x) (sym (same_firsts e)) ∙ take-append-drop 16 x in
      is ∙ sym (cmp_shared (take 16 y) (drop 16 x) (drop 16 y)) ∙ (λ i. slice_cmp nat_cmp (whole i) (take-append-drop 16 y i))

-- what lies behind the front, in the file
behind : (n at : ℕ) (f : List ℕ) → 16 ≤ n → drop 16 (take n (drop at f)) ≡ take (n - 16) (drop (at + 16) f)
behind n at f le =
    let split : n ≡ 16 + (n - 16) = omega (arith, le) in
    ap (λ m. drop 16 (take m (drop at f))) split ∙ drop-take 16 (n - 16) (drop at f) ∙ ap (λ (l : List ℕ). take (n - 16) l) (drop-drop 16 at f ∙ ap (λ m. drop m f) (omega arith))

module _ (a b : Fact) (file : List ℕ) (first : HasKey a file) (second : HasKey b file) (same : a.long ≡ b.long) where
  key_long : (x : Fact) → HasKey x file → length (key_in x file) ≡ x.long
  key_long x has = length-take-le x.long (drop (x.place + x.ahead) file) (omega (arith, has.inside, length-drop (x.place + x.ahead) file))

  keys_long : length (key_in a file) ≡ length (key_in b file)
  keys_long = key_long a first ∙ same ∙ sym (key_long b second)

  fronts : a.front ≡ b.front → front_of (key_in a file) ≡ front_of (key_in b file)
  fronts e = sym first.is ∙ e ∙ second.is

  pub order_of_fronts : (o : Ordering) → o ≡ slice_cmp nat_cmp a.front b.front → o ≢ Equal → o ≡ slice_cmp nat_cmp (key_in a file) (key_in b file)
  order_of_fronts o e ne = by_fronts (key_in a file) (key_in b file) keys_long o (e ∙ (λ i. slice_cmp nat_cmp (first.is i) (second.is i))) ne

  pub order_of_short : a.front ≡ b.front → a.long ≤ 16 → Equal ≡ slice_cmp nat_cmp (key_in a file) (key_in b file)
  order_of_short e short = all_in_fronts (key_in a file) (key_in b file) keys_long (omega (arith, short, key_long a first)) (fronts e)

  pub order_of_long : (o : Ordering) → a.front ≡ b.front → 16 ≤ a.long → o ≡ slice_cmp nat_cmp (take (a.long - 16) (drop (a.place + a.ahead + 16) file)) (take (a.long - 16) (drop (b.place + b.ahead + 16) file)) → o ≡ slice_cmp nat_cmp (key_in a file) (key_in b file)
  order_of_long o e le is = behind_fronts (key_in a file) (key_in b file) keys_long o (fronts e)
      (is ∙ (λ i. slice_cmp nat_cmp (sym (behind a.long (a.place + a.ahead) file le) i) ((ap (λ n. take (n - 16) (drop (b.place + b.ahead + 16) file)) same ∙ sym (behind b.long (b.place + b.ahead) file (omega (arith, le, same)))) i)))
