-- The tree keys of an index while the parts of one row go and come.
use Rattle.std.proofs.Common.{◌≡◌, ◌∙◌, ◌⊎◌, inl, inr, ⊎_elim, ℕ, zero, suc, ◌+◌, ◌≤◌, Bool, true, false, cond, List, [], ◌∷◌, ◌++◌, Option, Some, None, refl, sym, ap, subst, arith}
use Rattle.std.specs.Prelude.{take, is_some}
use Rattle.std.specs.Cmp.{IsTotalOrder}
use Rattle.std.specs.declared.cmp.Ordering.{Ordering}
use Rattle.std.proofs.lemmas.Map.Lookups.{CmpEqualImpliesEq}
use Rattle.tc_base.specs.Lists.{first}
use Rattle.tc_base.specs.Texts.{is_text}
use Rattle.tc_base.specs.declared.seq.Pair.{Pair}
use Rattle.tc_space.specs.Changes.{first_out, put_last}
use Rattle.td_index.specs.Entries.{AreOwed, Firsts, entry, has_zero, keys_of, less_all, less_one, one, owed, owed_parts, parted, times, with_firsts}
use Rattle.td_index.proofs.Counting.{one_false, one_true, text_is, text_refl, times_append, times_push}
use Rattle.td_index.proofs.Listing.{is_held, times_last, times_less}
use Rattle.td_index.proofs.Parting.{owed_more, parted_entry}
use Rattle.tc_tabledb.specs.Filling.{AreMid, IsOf}

-- ---- counts

few : (n m : ℕ) → n ≤ m → m ≤ 1 → (n ≡ m) ⊎ (n ≡ 0)
few zero m less most = inr refl
few (suc zero) m less most = inl (omega (arith, less, most))
few (suc (suc n)) m less most = absurd (omega (arith, less, most))

pub times_take : (v : List ℕ) (n : ℕ) (fs : List (List ℕ)) → times v (take n fs) ≤ times v fs
times_take v zero fs = omega arith
times_take v (suc n) [] = omega arith
times_take v (suc n) (f ∷ fs) = omega (arith, times_take v n fs)

less_one_few : (x v : List ℕ) (fs : List (List ℕ)) → times v (less_one x fs) ≤ times v fs
less_one_few x v [] = omega arith
less_one_few x v (f ∷ fs) = go (less_one_few x v fs) (is_text x f)
  where
    go : times v (less_one x fs) ≤ times v fs → (b : Bool) → times v (cond b fs (f ∷ less_one x fs)) ≤ one (is_text v f) + times v fs
    go fewer true = omega arith
    go fewer false = omega (arith, fewer)

pub less_all_few : (ps : List (List ℕ)) (v : List ℕ) (fs : List (List ℕ)) → times v (less_all ps fs) ≤ times v fs
less_all_few [] v fs = omega arith
less_all_few (p ∷ ps) v fs = omega (arith, less_all_few ps v (less_one p fs), less_one_few p v fs)

less_one_many : (x v : List ℕ) (fs : List (List ℕ)) → times v fs ≤ one (is_text v x) + times v (less_one x fs)
less_one_many x v [] = omega arith
less_one_many x v (f ∷ fs) = go (less_one_many x v fs) (is_text x f) refl
  where
    go : times v fs ≤ one (is_text v x) + times v (less_one x fs) → (b : Bool) → is_text x f ≡ b → one (is_text v f) + times v fs ≤ one (is_text v x) + times v (cond b fs (f ∷ less_one x fs))
    go most true same = let at : one (is_text v x) ≡ one (is_text v f) = ap (λ (l : List ℕ). one (is_text v l)) (text_is x f same) in omega (arith, at)
    go most false other = omega (arith, most)

pub less_all_many : (ps : List (List ℕ)) (v : List ℕ) (fs : List (List ℕ)) → times v fs ≤ times v ps + times v (less_all ps fs)
less_all_many [] v fs = omega arith
less_all_many (p ∷ ps) v fs = omega (arith, less_one_many p v fs, less_all_many ps v (less_one p fs))

pub less_same : (ps : List (List ℕ)) → less_all ps ps ≡ []
less_same [] = refl
less_same (p ∷ ps) = ap (λ (t : Bool). less_all ps (cond t ps (p ∷ less_one p ps))) (text_refl p) ∙ less_same ps

-- ---- on the way

abbrev pub AtKey : Firsts → Firsts → List ℕ → List (List ℕ) → Type 0
AtKey before after key fs = (v : List ℕ) → (times v fs ≡ times v (before key)) ⊎ ((times v fs ≡ times v (after key)) ⊎ (times v fs ≡ 0))

abbrev pub Elsewhere : Firsts → Firsts → List ℕ → Firsts → Type 0
Elsewhere before after key h = (k v : List ℕ) → is_text k key ≡ false → (times v (h k) ≡ times v (before k)) ⊎ (times v (h k) ≡ times v (after k))

pub mid : (before after h : Firsts) (key : List ℕ) (fs : List (List ℕ)) (ps : List Pair) → AreOwed (with_firsts key fs h) ps → Elsewhere before after key h → AtKey before after key fs → AreMid before after key ps
mid before after h key fs ps are others own x = go (parted x) refl
  where
    Ends : Type 0
    Ends = (times x (keys_of ps) ≡ owed before x) ⊎ ((times x (keys_of ps) ≡ owed after x) ⊎ (IsOf key x × (times x (keys_of ps) ≡ 0)))

    at : (p : List ℕ × List ℕ) → parted x ≡ Some p → (b : Bool) → is_text p.1 key ≡ b → Ends
    at p is true same =
        let one_key : p.1 ≡ key = text_is p.1 key same in
        let counted : times x (keys_of ps) ≡ times p.0 fs = are x ∙ (ap (owed_parts (with_firsts key fs h)) is ∙ ap (λ (t : Bool). times p.0 (cond t fs (h p.1))) same) in
        let was : owed before x ≡ times p.0 (before key) = ap (owed_parts before) is ∙ ap (λ (k : List ℕ). times p.0 (before k)) one_key in
        let now : owed after x ≡ times p.0 (after key) = ap (owed_parts after) is ∙ ap (λ (k : List ℕ). times p.0 (after k)) one_key in
        ⊎_elim
        (λ (e : times p.0 fs ≡ times p.0 (before key)). inl (counted ∙ (e ∙ sym was)))
        (λ rest. ⊎_elim
        (λ (e : times p.0 fs ≡ times p.0 (after key)). inr (inl (counted ∙ (e ∙ sym now))))
        (λ (none : times p.0 fs ≡ 0). inr (inr ((p.0, is ∙ ap (λ (k : List ℕ). Some (p.0, k)) one_key), counted ∙ none)))
        rest)
        (own p.0)
    at p is false other =
        let counted : times x (keys_of ps) ≡ times p.0 (h p.1) = are x ∙ (ap (owed_parts (with_firsts key fs h)) is ∙ ap (λ (t : Bool). times p.0 (cond t fs (h p.1))) other) in
        ⊎_elim
        (λ (e : times p.0 (h p.1) ≡ times p.0 (before p.1)). inl (counted ∙ (e ∙ sym (ap (owed_parts before) is))))
        (λ (e : times p.0 (h p.1) ≡ times p.0 (after p.1)). inr (inl (counted ∙ (e ∙ sym (ap (owed_parts after) is)))))
        (others p.1 p.0 other)

    go : (o : Option (List ℕ × List ℕ)) → parted x ≡ o → Ends
    go None is = inl (are x ∙ (ap (owed_parts (with_firsts key fs h)) is ∙ sym (ap (owed_parts before) is)))
    go (Some p) is = at p is (is_text p.1 key) refl

-- ---- old parts go, one after the other

pub some_gone : (before after : Firsts) (key : List ℕ) (old gone : List (List ℕ)) → before key ≡ old → ((v : List ℕ) → times v old ≤ 1) → AtKey before after key (less_all gone old)
some_gone before after key old gone is once v = ⊎_elim
    (λ same. inl (same ∙ ap (times v) (sym is)))
    (λ none. inr (inr none))
    (few (times v (less_all gone old)) (times v old) (less_all_few gone v old) (once v))

-- and new ones come behind all of them
pub some_come : (before after : Firsts) (key : List ℕ) (new some : List (List ℕ)) → after key ≡ new → ((v : List ℕ) → times v new ≤ 1) → ((v : List ℕ) → times v some ≤ times v new) → AtKey before after key some
some_come before after key new some is once fewer v = ⊎_elim
    (λ same. inr (inl (same ∙ ap (times v) (sym is))))
    (λ none. inr (inr none))
    (few (times v some) (times v new) (fewer v) (once v))

-- the part that is next
pub next_some : (parts : List (List ℕ)) (part : List ℕ) (done : ℕ) → take (done + 1) parts ≡ take done parts ++ part ∷ [] → 1 + times part (take done parts) ≤ times part parts
next_some parts part done next = omega (arith, times_take part (done + 1) parts, ap (times part) next, times_push part part (take done parts), one_true (is_text part part) (text_refl part))

module _ (cmp : List ℕ → List ℕ → Ordering) (total : IsTotalOrder cmp) (exact : CmpEqualImpliesEq cmp) where
  -- a part comes
  pub comes : (h : Firsts) (key part : List ℕ) (fs : List (List ℕ)) (ps : List Pair) → has_zero part ≡ false → AreOwed (with_firsts key fs h) ps → AreOwed (with_firsts key (part ∷ fs) h) (put_last cmp (entry part key) [] ps)
  comes h key part fs ps whole are x = times_last cmp total exact x (entry part key) [] ps ∙ (ap (λ (n : ℕ). one (is_text x (entry part key)) + n) (are x) ∙ sym (owed_more h part key x fs whole))

  -- a part goes that is there once
  pub goes : (before after h : Firsts) (key part : List ℕ) (fs : List (List ℕ)) (ps : List Pair) → has_zero part ≡ false → AreOwed (with_firsts key fs h) ps → times part fs ≡ 1 → AreMid before after key ps → AreMid before after key (first_out cmp (entry part key) ps)
  goes before after h key part fs ps whole are there on x =
      turn (is_text x e) refl
      (times_less cmp total exact x e ps (is_held e ps (omega (arith, held))))
    where
      e : List ℕ
      e = entry part key

      out : List Pair
      out = first_out cmp (entry part key) ps

      held : times (entry part key) (keys_of ps) ≡ 1
      held = are (entry part key) ∙ (ap (owed_parts (with_firsts key fs h)) (parted_entry part key whole) ∙ (ap (λ (t : Bool). times part (cond t fs (h key))) (text_refl key) ∙ there))

      turn : (b : Bool) → is_text x (entry part key) ≡ b → times x (keys_of ps) ≡ one (is_text x (entry part key)) + times x (keys_of out)
          → (times x (keys_of out) ≡ owed before x) ⊎ ((times x (keys_of out) ≡ owed after x) ⊎ (IsOf key x × (times x (keys_of out) ≡ 0)))
      turn true is counted =
          let same : x ≡ entry part key = text_is x (entry part key) is in
          inr (inr ((part, ap parted same ∙ parted_entry part key whole), omega (arith, counted, one_true (is_text x (entry part key)) is, held, ap (λ (l : List ℕ). times l (keys_of ps)) same)))
      turn false is counted =
          let kept : times x (keys_of out) ≡ times x (keys_of ps) = omega (arith, counted, one_false (is_text x (entry part key)) is) in
          ⊎_elim (λ was. inl (kept ∙ was)) (λ rest. ⊎_elim (λ now. inr (inl (kept ∙ now))) (λ none. inr (inr (none.0, kept ∙ none.1))) rest) (on x)
