-- How often a key stands among a list's pairs once one is added or taken out.
use Rattle.std.proofs.Common.{◌≡◌, ◌∙◌, ℕ, ◌+◌, ◌≤◌, Bool, true, false, cond, List, [], ◌∷◌, ◌++◌, length, map, drop, refl, sym, ap, arith, ⊎_elim}
use Rattle.std.specs.Prelude.{if◌then◌else◌, filter, is_some, slice_get}
use Rattle.std.specs.Cmp.{IsTotalOrder, tied_itself}
use Rattle.std.specs.Ordering.{is_lt, is_gt}
use Rattle.std.specs.declared.cmp.Ordering.{Ordering}
use Rattle.std.specs.declared.cmp.Ordering.TheVariants.{Less, Equal, Greater}
use Rattle.std.proofs.lemmas.Map.Lookups.{CmpEqualImpliesEq}
use Rattle.tc_base.specs.declared.seq.Pair.{Pair}
use Rattle.tc_base.specs.Texts.{is_text}
use Rattle.tc_base.specs.Lists.{pair, values, first, below, above, with_values, with_last, without_first}
use Rattle.td_index.specs.Entries.{one, times, keys_of}
use Rattle.td_index.proofs.Counting.{text_is, text_refl, either, clash, one_true, one_false, times_append}

-- so many of them, where this is the key
abbrev many : Bool → List (List ℕ) → ℕ
many b vs = if b then length vs else 0

keys_append : (ps qs : List Pair) → keys_of (ps ++ qs) ≡ keys_of ps ++ keys_of qs
keys_append [] qs = refl
keys_append (p ∷ ps) qs = ap (λ (l : List (List ℕ)). p.key ∷ l) (keys_append ps qs)

times_pairs : (x key : List ℕ) (vs : List (List ℕ)) → times x (keys_of (map (pair key) vs)) ≡ many (is_text x key) vs
times_pairs x key [] = elim (is_text x key) as (λ b. 0 ≡ many b []) [ true ↦ refl | false ↦ refl ]
times_pairs x key (v ∷ vs) = ap (λ (n : ℕ). one (is_text x key) + n) (times_pairs x key vs) ∙ elim (is_text x key) as (λ b. one b + many b vs ≡ many b (v ∷ vs)) [ true ↦ omega arith | false ↦ omega arith ]

many_push : (b : Bool) (vs : List (List ℕ)) (v : List ℕ) → many b (vs ++ v ∷ []) ≡ one b + many b vs
many_push true [] v = omega arith
many_push true (w ∷ vs) v = omega (arith, many_push true vs v)
many_push false vs v = omega arith

many_less : (b : Bool) (vs : List (List ℕ)) → is_some (slice_get vs 0) ≡ true → many b vs ≡ one b + many b (drop 1 vs)
many_less true [] some = absurd (let f : false ≡ true = some in cc)
many_less true (w ∷ vs) some = omega arith
many_less false vs some = omega arith

module _ (cmp : List ℕ → List ℕ → Ordering) (total : IsTotalOrder cmp) (exact : CmpEqualImpliesEq cmp) where
  tied : (a : List ℕ) → cmp a a ≡ Equal
  tied a = tied_itself total a

  -- a pair stands below the key, above it, or has it
  step : (x key : List ℕ) (p : Pair) (n b a : ℕ) (vs : List (List ℕ)) → n ≡ b + (many (is_text x key) vs + a)
      → one (is_text x p.key) + n ≡ (cond (is_lt (cmp p.key key)) (one (is_text x p.key) + b) b) + (many (is_text x key) (cond (is_text p.key key) (p.value ∷ vs) vs) + cond (is_gt (cmp p.key key)) (one (is_text x p.key) + a) a)
  step x key p n b a vs e = elim (cmp p.key key) as (λ o. cmp p.key key ≡ o → one (is_text x p.key) + n ≡ (cond (is_lt o) (one (is_text x p.key) + b) b) + (many (is_text x key) (cond (is_text p.key key) (p.value ∷ vs) vs) + cond (is_gt o) (one (is_text x p.key) + a) a)) [
    | Less ↦ λ is. let other : is_text p.key key ≡ false = apart is (λ f. let g : Less ≡ Equal = f in absurd cc) in rw other (omega (arith, e))
    | Equal ↦ λ is. let same : p.key ≡ key = exact p.key key is in
        let yes : is_text p.key key ≡ true = ap (λ (l : List ℕ). is_text l key) same ∙ text_refl key in
        rw yes (omega (arith, e, many_more, ap (λ (l : List ℕ). one (is_text x l)) same))
    | Greater ↦ λ is. let other : is_text p.key key ≡ false = apart is (λ f. let g : Greater ≡ Equal = f in absurd cc) in rw other (omega (arith, e))
  ] refl
    where
      many_more : many (is_text x key) (p.value ∷ vs) ≡ one (is_text x key) + many (is_text x key) vs
      many_more = elim (is_text x key) as (λ b. many b (p.value ∷ vs) ≡ one b + many b vs) [ true ↦ omega arith | false ↦ omega arith ]

      apart : {o : Ordering} → cmp p.key key ≡ o → (o ≡ Equal → ⊥) → is_text p.key key ≡ false
      apart {o} is ne = ⊎_elim (λ (yes : is_text p.key key ≡ true). absurd (ne (sym is ∙ (ap (λ (l : List ℕ). cmp l key) (text_is p.key key yes) ∙ tied key)))) (λ (no : is_text p.key key ≡ false). no) (either (is_text p.key key))

  kept : (x : List ℕ) (b : Bool) (p : Pair) (ps : List Pair) → times x (keys_of (cond b (p ∷ ps) ps)) ≡ cond b (one (is_text x p.key) + times x (keys_of ps)) (times x (keys_of ps))
  kept x true p ps = refl
  kept x false p ps = refl

  valued : (b : Bool) (p : Pair) (ps : List Pair) → map (λ (q : Pair). q.value) (cond b (p ∷ ps) ps) ≡ cond b (p.value ∷ map (λ (q : Pair). q.value) ps) (map (λ (q : Pair). q.value) ps)
  valued true p ps = refl
  valued false p ps = refl

  pub split : (x key : List ℕ) (ps : List Pair) → times x (keys_of ps) ≡ times x (keys_of (below cmp ps key)) + (many (is_text x key) (values ps key) + times x (keys_of (above cmp ps key)))
  split x key [] = elim (is_text x key) as (λ b. 0 ≡ 0 + (many b [] + 0)) [ true ↦ omega arith | false ↦ omega arith ]
  split x key (p ∷ ps) = step x key p _ _ _ (values ps key) (split x key ps)
      ∙ sym (ap (λ (n : ℕ). n + (many (is_text x key) (values (p ∷ ps) key) + times x (keys_of (above cmp (p ∷ ps) key)))) (kept x (is_lt (cmp p.key key)) p (below cmp ps key))
      ∙ ap (λ (n : ℕ). cond (is_lt (cmp p.key key)) (one (is_text x p.key) + times x (keys_of (below cmp ps key))) (times x (keys_of (below cmp ps key))) + (many (is_text x key) (values (p ∷ ps) key) + n)) (kept x (is_gt (cmp p.key key)) p (above cmp ps key))
      ∙ ap (λ (l : List (List ℕ)). cond (is_lt (cmp p.key key)) (one (is_text x p.key) + times x (keys_of (below cmp ps key))) (times x (keys_of (below cmp ps key))) + (many (is_text x key) l + cond (is_gt (cmp p.key key)) (one (is_text x p.key) + times x (keys_of (above cmp ps key))) (times x (keys_of (above cmp ps key))))) (valued (is_text p.key key) p (filter (λ q. is_text q.key key) ps)))

  joined : (x key : List ℕ) (ps : List Pair) (vs : List (List ℕ)) → times x (keys_of (with_values cmp ps key vs)) ≡ times x (keys_of (below cmp ps key)) + (many (is_text x key) vs + times x (keys_of (above cmp ps key)))
  joined x key ps vs =
      ap (times x) (keys_append (below cmp ps key) (map (pair key) vs ++ above cmp ps key))
      ∙ (times_append x (keys_of (below cmp ps key)) (keys_of (map (pair key) vs ++ above cmp ps key))
      ∙ ap (λ (n : ℕ). times x (keys_of (below cmp ps key)) + n) (ap (times x) (keys_append (map (pair key) vs) (above cmp ps key)) ∙ (times_append x (keys_of (map (pair key) vs)) (keys_of (above cmp ps key)) ∙ ap (λ (n : ℕ). n + times x (keys_of (above cmp ps key))) (times_pairs x key vs))))

  pub times_last : (x key value : List ℕ) (ps : List Pair) → times x (keys_of (with_last cmp ps key value)) ≡ one (is_text x key) + times x (keys_of ps)
  times_last x key value ps = omega (arith, joined x key ps (values ps key ++ value ∷ []), many_push (is_text x key) (values ps key) value, split x key ps)

  pub times_less : (x key : List ℕ) (ps : List Pair) → is_some (first ps key) ≡ true → times x (keys_of ps) ≡ one (is_text x key) + times x (keys_of (without_first cmp ps key))
  times_less x key ps some = omega (arith, joined x key ps (drop 1 (values ps key)), many_less (is_text x key) (values ps key) some, split x key ps)

-- the key is held where the list has it
pub is_held : (key : List ℕ) (ps : List Pair) → 1 ≤ times key (keys_of ps) → is_some (first ps key) ≡ true
is_held key [] some = absurd (omega (arith, some))
is_held key (p ∷ ps) some = elim (is_text p.key key) as (λ t. is_text p.key key ≡ t → is_some (slice_get (map (λ (q : Pair). q.value) (cond t (p ∷ filter (λ q. is_text q.key key) ps) (filter (λ q. is_text q.key key) ps))) 0) ≡ true) [
  | true ↦ λ e. refl
  | false ↦ λ e. is_held key ps (omega (arith, some, one_false (is_text key p.key) (turned e)))
] refl
  where
    turned : is_text p.key key ≡ false → is_text key p.key ≡ false
    turned e = ⊎_elim (λ (yes : is_text key p.key ≡ true). clash (is_text p.key key) (ap (λ (l : List ℕ). is_text p.key l) (text_is key p.key yes) ∙ text_refl p.key) e) (λ (no : is_text key p.key ≡ false). no) (either (is_text key p.key))

pub held_is : (key : List ℕ) (ps : List Pair) → is_some (first ps key) ≡ true → 1 ≤ times key (keys_of ps)
held_is key [] some = absurd (let f : false ≡ true = some in cc)
held_is key (p ∷ ps) some = elim (is_text p.key key) as (λ t. is_text p.key key ≡ t → is_some (slice_get (map (λ (q : Pair). q.value) (cond t (p ∷ filter (λ q. is_text q.key key) ps) (filter (λ q. is_text q.key key) ps))) 0) ≡ true → 1 ≤ one (is_text key p.key) + times key (keys_of ps)) [
  | true ↦ λ e h. omega (arith, one_true (is_text key p.key) (ap (λ (l : List ℕ). is_text key l) (text_is p.key key e) ∙ text_refl key))
  | false ↦ λ e h. omega (arith, held_is key ps h)
] refl some
