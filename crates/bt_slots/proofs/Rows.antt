-- Things that stand in a row behind a front, as their bytes and the places where they begin.
use Rattle.std.proofs.Common.{◌≡◌, ℕ, ◌+◌, ◌-◌, ◌<◌, ◌≤◌, ◌^◌, List, ◌++◌, length, map, take, drop, refl, sym, ap, subst, ◌∙◌, append_assoc, arith, length-append}
use Rattle.std.proofs.lemmas.Grind.{flat_map-append}
use Rattle.std.proofs.lemmas.List.{take-append-drop, take_at, drop_at}
use Rattle.std.proofs.Math.Seq.{take-add}
use Rattle.std.specs.List.{All, flat_map}
use Rattle.bt_slots.specs.Changes.{shifted, MayShift, spliced}
use Rattle.bt_slots.specs.Slots.{starts_from}
use Rattle.bt_slots.proofs.Starts.{starts_joined, starts_taken, starts_dropped, starts_moved, may_move}

abbrev pub row_bytes : {A : Type 0} → (A → List ℕ) → List ℕ → List A → List ℕ
row_bytes s front xs = front ++ flat_map s xs

-- where one begins, or would come
abbrev pub row_before : {A : Type 0} → (A → List ℕ) → List ℕ → List A → ℕ → ℕ
row_before s front xs i = length front + length (flat_map s (take i xs))

-- others in the place of those from one place to another
abbrev pub with_those : {A : Type 0} → List A → ℕ → ℕ → List A → List A
with_those xs i j mid = take i xs ++ (mid ++ drop j xs)

-- those from one place to another
abbrev pub those_from : {A : Type 0} → List A → ℕ → ℕ → List A
those_from xs i j = take (j - i) (drop i xs)

module _ {A : Type 0} (s : A → List ℕ) (front : List ℕ) (xs : List A) where
  -- what comes in front of a place
  abbrev before : ℕ → List ℕ
  before i = front ++ flat_map s (take i xs)

  before_long : (i : ℕ) → length (before i) ≡ row_before s front xs i
  before_long i = length-append front (flat_map s (take i xs))

  parted : (i : ℕ) → row_bytes s front xs ≡ before i ++ flat_map s (drop i xs)
  parted i =
      ap (λ (ys : List A). front ++ flat_map s ys) (sym (take-append-drop i xs))
      ∙ ap (λ (bs : List ℕ). front ++ bs) (flat_map-append s (take i xs) (drop i xs))
      ∙ sym (append_assoc front (flat_map s (take i xs)) (flat_map s (drop i xs)))

  row_taken : (i : ℕ) → take (row_before s front xs i) (row_bytes s front xs) ≡ before i
  row_taken i = ap (take (row_before s front xs i)) (parted i) ∙ take_at (before i) (flat_map s (drop i xs)) (row_before s front xs i) (before_long i)

  row_dropped : (i : ℕ) → drop (row_before s front xs i) (row_bytes s front xs) ≡ flat_map s (drop i xs)
  row_dropped i = ap (drop (row_before s front xs i)) (parted i) ∙ drop_at (before i) (flat_map s (drop i xs)) (row_before s front xs i) (before_long i)

  pub row_long : (i : ℕ) → length (row_bytes s front xs) ≡ row_before s front xs i + length (flat_map s (drop i xs))
  row_long i = ap length (parted i) ∙ length-append (before i) (flat_map s (drop i xs)) ∙ ap (λ (n : ℕ). n + length (flat_map s (drop i xs))) (before_long i)

  -- ---- others in the place of some

  module _ (i j : ℕ) (mid : List A) where
    those_bytes : row_bytes s front (with_those xs i j mid) ≡ before i ++ (flat_map s mid ++ flat_map s (drop j xs))
    those_bytes =
        ap (λ (bs : List ℕ). front ++ bs)
        (flat_map-append s (take i xs) (mid ++ drop j xs)
        ∙ ap (λ (bs : List ℕ). flat_map s (take i xs) ++ bs) (flat_map-append s mid (drop j xs)))
        ∙ sym (append_assoc front (flat_map s (take i xs)) (flat_map s mid ++ flat_map s (drop j xs)))

    pub those_spliced : (new : List ℕ) → new ≡ flat_map s mid → spliced (row_before s front xs i) (row_before s front xs j) new (row_bytes s front xs) ≡ row_bytes s front (with_those xs i j mid)
    those_spliced new is =
        let t = row_taken i in
        let d = row_dropped j in
        (λ k. t k ++ (is k ++ d k)) ∙ sym those_bytes

    pub those_long : length (row_bytes s front (with_those xs i j mid)) ≡ row_before s front xs i + (length (flat_map s mid) + length (flat_map s (drop j xs)))
    those_long =
        ap length those_bytes
        ∙ length-append (before i) (flat_map s mid ++ flat_map s (drop j xs))
        ∙ (let a = before_long i in let b = length-append (flat_map s mid) (flat_map s (drop j xs)) in λ k. a k + b k)

    -- where they begin then: those in front as they did, and those behind as they come to stand
    pub those_starts : (e : ℕ) (starts : List ℕ) → starts ≡ starts_from s (length front) xs → e ≡ row_before s front xs i + length (flat_map s mid)
        → starts_from s (length front) (with_those xs i j mid) ≡ take i starts ++ (starts_from s (row_before s front xs i) mid ++ map (shifted (row_before s front xs j) e) (drop j starts))
    those_starts e starts is end =
        let at : ℕ = length front in
        let first : take i starts ≡ starts_from s at (take i xs) = ap (take i) is ∙ starts_taken s at xs i in
        let behind : map (shifted (row_before s front xs j) e) (drop j starts) ≡ starts_from s (row_before s front xs i + length (flat_map s mid)) (drop j xs) =
        ap (λ (ns : List ℕ). map (shifted (row_before s front xs j) e) (drop j ns)) is
        ∙ ap (map (shifted (row_before s front xs j) e)) (starts_dropped s at xs j)
        ∙ starts_moved s (row_before s front xs j) e (drop j xs)
        ∙ ap (λ (n : ℕ). starts_from s n (drop j xs)) end in
        starts_joined s at (take i xs) (mid ++ drop j xs)
        ∙ ap (λ (ns : List ℕ). starts_from s at (take i xs) ++ ns) (starts_joined s (row_before s front xs i) mid (drop j xs))
        ∙ (λ k. sym first k ++ (starts_from s (row_before s front xs i) mid ++ sym behind k))

    module _ (old new : List ℕ) (eo : old ≡ row_bytes s front xs) (en : new ≡ row_bytes s front (with_those xs i j mid)) where
      -- the end of the new ones, found from the sizes of all bytes
      pub those_end : length new - (length old - row_before s front xs j) ≡ row_before s front xs i + length (flat_map s mid)
      those_end = omega (arith, ap length eo, ap length en, row_long j, those_long)

      -- what is behind them is in both
      pub those_within : (row_before s front xs j ≤ length old) × (length old - row_before s front xs j ≤ length new)
      those_within = (omega (arith, ap length eo, row_long j), omega (arith, ap length eo, ap length en, row_long j, those_long))

      pub those_may : (e : ℕ) (starts : List ℕ) → starts ≡ starts_from s (length front) xs → e ≡ row_before s front xs i + length (flat_map s mid) → length new < 2 ^ 64 → All (MayShift (row_before s front xs j) e) (drop j starts)
      those_may e starts is end within =
          subst (All (MayShift (row_before s front xs j) e)) (sym (ap (drop j) is ∙ starts_dropped s (length front) xs j))
          (may_move s (row_before s front xs j) e (drop j xs) (omega (arith, ap length en, those_long, end, within)))

  -- ---- some alone, behind another front

  module _ (i j : ℕ) where
    run_long : i ≤ j → row_before s front xs j ≡ row_before s front xs i + length (flat_map s (those_from xs i j))
    run_long le =
        let e : i + (j - i) ≡ j = omega (arith, le) in
        let t : take j xs ≡ take i xs ++ those_from xs i j = ap (λ (n : ℕ). take n xs) (sym e) ∙ take-add i (j - i) xs in
        let f : flat_map s (take j xs) ≡ flat_map s (take i xs) ++ flat_map s (those_from xs i j) = ap (flat_map s) t ∙ flat_map-append s (take i xs) (those_from xs i j) in
        omega (arith, ap length f, length-append (flat_map s (take i xs)) (flat_map s (those_from xs i j)))

    module _ (from to : ℕ) (le : i ≤ j) (ef : from ≡ row_before s front xs i) (et : to ≡ row_before s front xs j) where
      pub run_ends : (from ≤ to) × (to - from ≡ length (flat_map s (those_from xs i j)))
      run_ends = let l = run_long le in (omega (arith, l, ef, et), omega (arith, l, ef, et))

      pub run_is : (old run : List ℕ) → old ≡ row_bytes s front xs → run ≡ take (to - from) (drop from old) → run ≡ flat_map s (those_from xs i j)
      run_is old run eo is =
          let parts : flat_map s (drop i xs) ≡ flat_map s (those_from xs i j) ++ flat_map s (drop (j - i) (drop i xs)) =
          ap (flat_map s) (sym (take-append-drop (j - i) (drop i xs))) ∙ flat_map-append s (those_from xs i j) (drop (j - i) (drop i xs)) in
          is
          ∙ (λ k. take (run_ends.1 k) (drop (ef k) (eo k)))
          ∙ ap (take (length (flat_map s (those_from xs i j)))) (row_dropped i ∙ parts)
          ∙ take_at (flat_map s (those_from xs i j)) (flat_map s (drop (j - i) (drop i xs))) (length (flat_map s (those_from xs i j))) refl

    module _ (head run new starts : List ℕ) (is_run : run ≡ flat_map s (those_from xs i j)) (is : new ≡ head ++ run) (begin : starts ≡ starts_from s (length front) xs) where
      pub run_bytes : new ≡ row_bytes s head (those_from xs i j)
      run_bytes = is ∙ ap (λ (bs : List ℕ). head ++ bs) is_run

      pub run_within : length run ≤ length new
      run_within = omega (arith, ap length is, length-append head run)

      run_at : (at : ℕ) → at ≡ length new - length run → at ≡ length head
      run_at at end = omega (arith, end, ap length is, length-append head run)

      old_starts : (from : ℕ) → from ≡ row_before s front xs i → take (j - i) (drop i starts) ≡ starts_from s from (those_from xs i j)
      old_starts from ef =
          ap (λ (ns : List ℕ). take (j - i) (drop i ns)) begin
          ∙ ap (take (j - i)) (starts_dropped s (length front) xs i)
          ∙ starts_taken s (row_before s front xs i) (drop i xs) (j - i)
          ∙ ap (λ (n : ℕ). starts_from s n (those_from xs i j)) (sym ef)

      pub run_may : (from at : ℕ) → from ≡ row_before s front xs i → at ≡ length new - length run → length new < 2 ^ 64 → All (MayShift from at) (take (j - i) (drop i starts))
      run_may from at ef end within =
          subst (All (MayShift from at)) (sym (old_starts from ef)) (may_move s from at (those_from xs i j) (omega (arith, end, within, run_within, ap length is_run)))

      pub run_starts : (from at : ℕ) (news : List ℕ) → from ≡ row_before s front xs i → at ≡ length new - length run → news ≡ map (shifted from at) (take (j - i) (drop i starts)) → news ≡ starts_from s (length head) (those_from xs i j)
      run_starts from at news ef end are =
          are
          ∙ ap (map (shifted from at)) (old_starts from ef)
          ∙ starts_moved s from at (those_from xs i j)
          ∙ ap (λ (n : ℕ). starts_from s n (those_from xs i j)) (run_at at end)
