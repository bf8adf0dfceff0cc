-- The bytes of pairs, and the values of a key, behind each change.
use Rattle.std.proofs.Common.{◌≡◌, ◌∙◌, ℕ, ◌+◌, Bool, true, false, cond, List, [], ◌∷◌, ◌++◌, filter, map, length, refl, sym, ap, arith}
use Rattle.std.specs.Prelude.{drop, option_map, slice_get}
use Rattle.std.specs.Cmp.{IsTotalOrder}
use Rattle.std.specs.Ordering.{is_eq, is_gt, is_lt}
use Rattle.std.specs.declared.cmp.Ordering.{Ordering}
use Rattle.std.specs.declared.cmp.Ordering.TheVariants.{Less, Equal, Greater}
use Rattle.std.proofs.lemmas.Cmp.{tied_itself}
use Rattle.std.proofs.lemmas.List.{append-nil, map-append}
use Rattle.std.proofs.lemmas.List.Elements.{filter-append}
use Rattle.std.proofs.lemmas.List.Sums.{sum_by-cons}
use Rattle.std.proofs.lemmas.Map.Lookups.{CmpEqualImpliesEq}
use Rattle.tc_base.specs.Lists.{above, below, first, pair, values, with_first, with_last, with_values, without_all, without_first}
use Rattle.tc_base.specs.Texts.{is_text}
use Rattle.tc_base.specs.declared.seq.Pair.{Pair}
use Rattle.tc_model.specs.Rows.{texts_of}
use Rattle.tc_treedb.specs.Counting.{gone}
use Rattle.tc_treedb.specs.Reading.{bytes_in, pairs_of}
use Rattle.tc_treedb.proofs.Readings.{text_same, text_self}
use Rattle.tc_treedb.proofs.Takings.{bytes_join}

bytes_cons : (p : Pair) (ps : List Pair) → bytes_in (p ∷ ps) ≡ length p.key + length p.value + bytes_in ps
bytes_cons p ps = let key = sum_by-cons length p.key (p.value ∷ texts_of ps) in let value = sum_by-cons length p.value (texts_of ps) in omega (arith, key, value)

module _ (cmp : List ℕ → List ℕ → Ordering) (total : IsTotalOrder cmp) (exact : CmpEqualImpliesEq cmp) where
  tied : (x : List ℕ) → cmp x x ≡ Equal
  tied x = tied_itself total x

  -- the same bytes, where the order ties
  text_tied : (x y : List ℕ) → is_text x y ≡ is_eq (cmp x y)
  text_tied x y = go (is_text x y) (cmp x y) refl refl
    where
      go : (b : Bool) (o : Ordering) → is_text x y ≡ b → cmp x y ≡ o → b ≡ is_eq o
      go true Less e f = absurd (let bad : Equal ≡ Less = sym (tied x) ∙ (ap (cmp x) (text_same x y e) ∙ f) in cc)
      go true Equal e f = refl
      go true Greater e f = absurd (let bad : Equal ≡ Greater = sym (tied x) ∙ (ap (cmp x) (text_same x y e) ∙ f) in cc)
      go false Less e f = refl
      go false Equal e f = absurd (let bad : true ≡ false = sym (text_self x) ∙ (ap (is_text x) (exact x y f) ∙ e) in cc)
      go false Greater e f = refl

  abbrev kept : List Pair → List ℕ → List Pair
  kept ps k = filter (λ p. is_text p.key k) ps

  abbrev told : List Pair → List (List ℕ)
  told ps = map (λ p. p.value) ps

  -- below, above and at a key stand all
  parted : (ps : List Pair) (k : List ℕ) → bytes_in (below cmp ps k) + (bytes_in (above cmp ps k) + bytes_in (pairs_of k ps)) ≡ bytes_in ps
  parted [] k = refl
  parted (p ∷ ps) k =
      let rest = parted ps k in
      let b : List Pair = below cmp ps k in
      let a : List Pair = above cmp ps k in
      let m : List Pair = kept ps k in
      let all = bytes_cons p ps in
      ap (λ t. bytes_in (below cmp (p ∷ ps) k) + (bytes_in (above cmp (p ∷ ps) k) + bytes_in (map (pair k) (told (cond t (p ∷ m) m))))) (text_tied p.key k)
      ∙ elim (cmp p.key k) as (λ r. cmp p.key k ≡ r → bytes_in (cond (is_lt r) (p ∷ b) b) + (bytes_in (cond (is_gt r) (p ∷ a) a) + bytes_in (map (pair k) (told (cond (is_eq r) (p ∷ m) m)))) ≡ bytes_in (p ∷ ps)) [
        | Less ↦ λ e. let one = bytes_cons p b in omega (arith, rest, all, one)
        | Equal ↦ λ e. let same : length p.key ≡ length k = ap length (exact p.key k e) in let one = bytes_cons (pair k p.value) (map (pair k) (told m)) in omega (arith, rest, all, same, one)
        | Greater ↦ λ e. let one = bytes_cons p a in omega (arith, rest, all, one)
      ] refl

  with_sum : (ps : List Pair) (k : List ℕ) (vs : List (List ℕ)) → bytes_in (with_values cmp ps k vs) + bytes_in (pairs_of k ps) ≡ bytes_in ps + bytes_in (map (pair k) vs)
  with_sum ps k vs =
      let all = parted ps k in
      let front = bytes_join (below cmp ps k) (map (pair k) vs ++ above cmp ps k) in
      let back = bytes_join (map (pair k) vs) (above cmp ps k) in
      omega (arith, all, front, back)

  split_first : (k : List ℕ) (vs : List (List ℕ)) → bytes_in (map (pair k) vs) ≡ gone (length k) (option_map length (slice_get vs 0)) + bytes_in (map (pair k) (drop 1 vs))
  split_first k [] = refl
  split_first k (v ∷ vs) = bytes_cons (pair k v) (map (pair k) vs)

  pub first_bytes : (ps : List Pair) (k v : List ℕ) → bytes_in (with_first cmp ps k v) + gone (length k) (option_map length (first ps k)) ≡ bytes_in ps + (length k + length v)
  first_bytes ps k v =
      let sum = with_sum ps k (v ∷ drop 1 (values ps k)) in
      let split = split_first k (values ps k) in
      let one = bytes_cons (pair k v) (map (pair k) (drop 1 (values ps k))) in
      omega (arith, sum, split, one)

  pub last_bytes : (ps : List Pair) (k v : List ℕ) → bytes_in (with_last cmp ps k v) ≡ bytes_in ps + (length k + length v)
  last_bytes ps k v =
      let sum = with_sum ps k (values ps k ++ v ∷ []) in
      let parts : map (pair k) (values ps k ++ v ∷ []) ≡ map (pair k) (values ps k) ++ pair k v ∷ [] = map-append (pair k) (values ps k) (v ∷ []) in
      let join : bytes_in (map (pair k) (values ps k ++ v ∷ [])) ≡ bytes_in (map (pair k) (values ps k)) + bytes_in (pair k v ∷ []) = ap bytes_in parts ∙ bytes_join (map (pair k) (values ps k)) (pair k v ∷ []) in
      let one = bytes_cons (pair k v) [] in
      omega (arith, sum, join, one)

  pub less_first_bytes : (ps : List Pair) (k : List ℕ) → bytes_in (without_first cmp ps k) + gone (length k) (option_map length (first ps k)) ≡ bytes_in ps
  less_first_bytes ps k = let sum = with_sum ps k (drop 1 (values ps k)) in let split = split_first k (values ps k) in omega (arith, sum, split)

  pub less_all_bytes : (ps : List Pair) (k : List ℕ) → bytes_in (without_all cmp ps k) + bytes_in (pairs_of k ps) ≡ bytes_in ps
  less_all_bytes ps k = let sum = with_sum ps k [] in omega (arith, sum)

  -- ---- the values of a key

  -- those of pairs that pass a test of their keys
  tested : (t : List ℕ → Bool) (k : List ℕ) (ps : List Pair) → values (filter (λ p. t p.key) ps) k ≡ cond (t k) (values ps k) []
  tested t k [] = elim (t k) as (λ b. told [] ≡ cond b (told []) []) [ true ↦ refl | false ↦ refl ]
  tested t k (p ∷ ps) = go (tested t k ps) (is_text p.key k) (t p.key) refl refl
    where
      skip : (b : Bool) → is_text p.key k ≡ false → values (cond b (p ∷ filter (λ q. t q.key) ps) (filter (λ q. t q.key) ps)) k ≡ values (filter (λ q. t q.key) ps) k
      skip true e = ap (λ (c : Bool). told (cond c (p ∷ kept (filter (λ q. t q.key) ps) k) (kept (filter (λ q. t q.key) ps) k))) e
      skip false e = refl

      go : values (filter (λ q. t q.key) ps) k ≡ cond (t k) (values ps k) [] → (b c : Bool) → is_text p.key k ≡ b → t p.key ≡ c → values (cond (t p.key) (p ∷ filter (λ q. t q.key) ps) (filter (λ q. t q.key) ps)) k ≡ cond (t k) (told (cond (is_text p.key k) (p ∷ kept ps k) (kept ps k))) []
      go rest false c e f = skip (t p.key) e ∙ (rest ∙ sym (ap (λ (d : Bool). cond (t k) (told (cond d (p ∷ kept ps k) (kept ps k))) []) e))
      go rest true true e f =
          let passes : t k ≡ true = ap t (sym (text_same p.key k e)) ∙ f in
          let behind : values (filter (λ q. t q.key) ps) k ≡ values ps k = rest ∙ ap (λ (d : Bool). cond d (values ps k) []) passes in
          ap (λ (d : Bool). values (cond d (p ∷ filter (λ q. t q.key) ps) (filter (λ q. t q.key) ps)) k) f
          ∙ (ap (λ (d : Bool). told (cond d (p ∷ kept (filter (λ q. t q.key) ps) k) (kept (filter (λ q. t q.key) ps) k))) e
          ∙ (ap (λ (l : List (List ℕ)). p.value ∷ l) behind
          ∙ sym (ap (λ (d : Bool). cond d (told (cond (is_text p.key k) (p ∷ kept ps k) (kept ps k))) []) passes ∙ ap (λ (d : Bool). told (cond d (p ∷ kept ps k) (kept ps k))) e)))
      go rest true false e f =
          let fails : t k ≡ false = ap t (sym (text_same p.key k e)) ∙ f in
          ap (λ (d : Bool). values (cond d (p ∷ filter (λ q. t q.key) ps) (filter (λ q. t q.key) ps)) k) f
          ∙ (rest ∙ (ap (λ (d : Bool). cond d (values ps k) []) fails ∙ sym (ap (λ (d : Bool). cond d (told (cond (is_text p.key k) (p ∷ kept ps k) (kept ps k))) []) fails)))

  own : (key k : List ℕ) (ws : List (List ℕ)) → values (map (pair key) ws) k ≡ cond (is_text key k) ws []
  own key k [] = elim (is_text key k) as (λ b. told [] ≡ cond b (told []) []) [ true ↦ refl | false ↦ refl ]
  own key k (w ∷ ws) = go (own key k ws) (is_text key k) refl
    where
      go : values (map (pair key) ws) k ≡ cond (is_text key k) ws [] → (b : Bool) → is_text key k ≡ b → told (cond (is_text key k) (pair key w ∷ kept (map (pair key) ws) k) (kept (map (pair key) ws) k)) ≡ cond (is_text key k) (w ∷ ws) []
      go rest true e =
          ap (λ (d : Bool). told (cond d (pair key w ∷ kept (map (pair key) ws) k) (kept (map (pair key) ws) k))) e
          ∙ (ap (λ (l : List (List ℕ)). w ∷ l) (rest ∙ ap (λ (d : Bool). cond d ws []) e) ∙ sym (ap (λ (d : Bool). cond d (w ∷ ws) []) e))
      go rest false e =
          ap (λ (d : Bool). told (cond d (pair key w ∷ kept (map (pair key) ws) k) (kept (map (pair key) ws) k))) e
          ∙ (rest ∙ (ap (λ (d : Bool). cond d ws []) e ∙ sym (ap (λ (d : Bool). cond d (w ∷ ws) []) e)))

  values_join : (ps qs : List Pair) (k : List ℕ) → values (ps ++ qs) k ≡ values ps k ++ values qs k
  values_join ps qs k = ap told (filter-append (λ (p : Pair). is_text p.key k) ps qs) ∙ map-append (λ (p : Pair). p.value) (kept ps k) (kept qs k)

  three : (a b c : Bool) (vs ws : List (List ℕ)) (o : Ordering) → a ≡ is_lt o → b ≡ is_eq o → c ≡ is_gt o → cond a vs [] ++ (cond b ws [] ++ cond c vs []) ≡ cond b ws vs
  three a b c vs ws o lt eq gt = (λ i. cond (lt i) vs [] ++ (cond (eq i) ws [] ++ cond (gt i) vs [])) ∙ (at o ∙ sym (ap (λ (d : Bool). cond d ws vs) eq))
    where
      at : (r : Ordering) → cond (is_lt r) vs [] ++ (cond (is_eq r) ws [] ++ cond (is_gt r) vs []) ≡ cond (is_eq r) ws vs
      at Less = append-nil vs
      at Equal = append-nil ws
      at Greater = refl

  -- where the values of a key are others
  pub values_set : (ps : List Pair) (key k : List ℕ) (ws : List (List ℕ)) → values (with_values cmp ps key ws) k ≡ cond (is_text k key) ws (values ps k)
  values_set ps key k ws =
      values_join (below cmp ps key) (map (pair key) ws ++ above cmp ps key) k
      ∙ (ap (λ (l : List (List ℕ)). values (below cmp ps key) k ++ l) (values_join (map (pair key) ws) (above cmp ps key) k)
      ∙ ((λ i. tested (λ x. is_lt (cmp x key)) k ps i ++ (own_turned i ++ tested (λ x. is_gt (cmp x key)) k ps i))
      ∙ three (is_lt (cmp k key)) (is_text k key) (is_gt (cmp k key)) (values ps k) ws (cmp k key) refl (text_tied k key) refl))
    where
      turned : is_text key k ≡ is_text k key
      turned = go (is_text key k) (is_text k key) refl refl
        where
          go : (b c : Bool) → is_text key k ≡ b → is_text k key ≡ c → b ≡ c
          go true true e f = refl
          go false false e f = refl
          go true false e f = absurd (let bad : true ≡ false = sym (text_self k) ∙ (ap (is_text k) (sym (text_same key k e)) ∙ f) in cc)
          go false true e f = absurd (let bad : true ≡ false = sym (text_self key) ∙ (ap (is_text key) (sym (text_same k key f)) ∙ e) in cc)

      own_turned : values (map (pair key) ws) k ≡ cond (is_text k key) ws []
      own_turned = own key k ws ∙ ap (λ (d : Bool). cond d ws []) turned
