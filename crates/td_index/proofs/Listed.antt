-- What a tree stands for after parts are added or taken out one by one.
use Rattle.std.proofs.Common.{◌≡◌, ◌∙◌, ℕ, ◌+◌, ◌<◌, ◌≤◌, Bool, true, false, cond, List, [], ◌∷◌, ◌++◌, length, take, get_or, refl, sym, ap, subst, arith, ◌⊎◌, inl, inr, ⊎_elim}
use Rattle.std.proofs.lemmas.List.{append-nil, take_all, take_more}
use Rattle.tc_base.specs.Texts.{is_text}
use Rattle.std.specs.declared.cmp.Ordering.{Ordering}
use Rattle.tc_space.specs.Changes.{first_out, put_last}
use Rattle.tc_space.specs.Frames.{In, Keeps, Reads, Refuses, others_refl}
use Rattle.tc_space.specs.Lists.{FullFrom, Made, StaysList}
use Rattle.tc_space.specs.Stores.{Only}
use Rattle.tc_space.specs.declared.space.Space.{Ghosts}
use Rattle.tc_space.specs.declared.multi.Multi as multi
use Rattle.td_index.specs.Entries.{Firsts, FullBehind, FullOuts, FullPuts, Gains, GainsAll, GainsSome, Loses, LosesAll, LosesSome, StopsIn, Turns, TurnsSome, entry, less_all, less_one, times, with_firsts}
use Rattle.td_index.proofs.Counting.{text_refl, times_append}
use Rattle.td_index.proofs.Parting.{with_same}
use Rattle.td_index.proofs.Standing.{stands_as}

pub stays_refl : {V : Type 0} (file_of : V → ℕ) (made : V → Made) (lead : V → ℕ) (t : V) → StaysList file_of made lead t t
stays_refl file_of made lead t = record { file = refl; made_same = refl; leads = omega arith }

pub stays_then : {V : Type 0} (file_of : V → ℕ) (made : V → Made) (lead : V → ℕ) (t u v : V) → StaysList file_of made lead t u → StaysList file_of made lead u v → StaysList file_of made lead t v
stays_then file_of made lead t u v first second = record { file = second.file ∙ first.file; made_same = second.made_same ∙ first.made_same; leads = omega (arith, first.leads, second.leads) }

less_push : (xs : List (List ℕ)) (p : List ℕ) (fs : List (List ℕ)) → less_all (xs ++ p ∷ []) fs ≡ less_one p (less_all xs fs)
less_push [] p fs = refl
less_push (x ∷ xs) p fs = less_push xs p (less_one x fs)

less_same : (xs : List (List ℕ)) → less_all xs xs ≡ []
less_same [] = refl
less_same (x ∷ xs) = ap (λ (t : Bool). less_all xs (cond t xs (x ∷ less_one x xs))) (text_refl x) ∙ less_same xs

here : (h : Firsts) (key : List ℕ) (fs : List (List ℕ)) → with_firsts key fs h key ≡ fs
here h key fs = ap (λ (t : Bool). cond t fs (h key)) (text_refl key)

over : (h : Firsts) (key : List ℕ) (fs gs ks : List (List ℕ)) → ((v : List ℕ) → times v ks ≡ times v gs) → (k v : List ℕ) → times v (with_firsts key ks h k) ≡ times v (with_firsts key gs (with_firsts key fs h) k)
over h key fs gs ks same k v = elim (is_text k key) as (λ t. times v (cond t ks (h k)) ≡ times v (cond t gs (cond t fs (h k)))) [ true ↦ same v | false ↦ refl ]

-- the parts up to a place, and the one there
pub up_to : (parts : List (List ℕ)) (i : ℕ) (p at : List ℕ) → i < length parts → p ≡ get_or parts i p → at ≡ p → take (i + 1) parts ≡ take i parts ++ at ∷ []
up_to parts i p at less is same = take_more parts i p less ∙ ap (λ (l : List ℕ). take i parts ++ l ∷ []) (sym (same ∙ is))

module _ {S M O : Type 0} (s : Ghosts S) (m : multi.Ghosts M S O) where
  pub gains_none : (t : M) (a : S) (key : List ℕ) → s.sound a → GainsAll s m [] key t t a a
  gains_none t a key sound = record { sound = sound; means = λ h st. stands_as s m t a h (with_firsts key (h key) h) (with_same h key (h key) refl) st; others = others_refl s (Only (m.file_of t)) a }

  pub loses_none : (t : M) (a : S) (key : List ℕ) → s.sound a → LosesAll s m [] key t t a a
  loses_none t a key sound = record { sound = sound; means = λ h st. stands_as s m t a h (with_firsts key (h key) h) (with_same h key (h key) refl) st; others = others_refl s (Only (m.file_of t)) a }

  gains_one : (t u v : M) (a b c : S) (xs : List (List ℕ)) (p key : List ℕ) → m.file_of u ≡ m.file_of t → GainsAll s m xs key t u a b → Gains s m p key u v b c → GainsAll s m (xs ++ p ∷ []) key t v a c
  gains_one t u v a b c xs p key file first second = record {
    sound = second.sound;
    means = λ h st.
        let before : Firsts = with_firsts key (xs ++ h key) h in
        stands_as s m v c (with_firsts key (p ∷ before key) before) (with_firsts key ((xs ++ p ∷ []) ++ h key) h)
        (over h key (xs ++ h key) (p ∷ before key) ((xs ++ p ∷ []) ++ h key) (λ w. omega (arith, times_append w (xs ++ p ∷ []) (h key), times_append w xs (p ∷ []), times_append w xs (h key), ap (times w) (here h key (xs ++ h key)))))
        (second.means before (first.means h st));
    others = record { same = λ tells g other. second.others.same tells g (λ e. other (e ∙ file)) ∙ first.others.same tells g other };
  }

  loses_one : (t u v : M) (a b c : S) (xs : List (List ℕ)) (p key : List ℕ) → m.file_of u ≡ m.file_of t → LosesAll s m xs key t u a b → Loses s m p key u v b c → LosesAll s m (xs ++ p ∷ []) key t v a c
  loses_one t u v a b c xs p key file first second = record {
    sound = second.sound;
    means = λ h st.
        let before : Firsts = with_firsts key (less_all xs (h key)) h in
        stands_as s m v c (with_firsts key (less_one p (before key)) before) (with_firsts key (less_all (xs ++ p ∷ []) (h key)) h)
        (over h key (less_all xs (h key)) (less_one p (before key)) (less_all (xs ++ p ∷ []) (h key)) (λ w. ap (times w) (less_push xs p (h key) ∙ ap (less_one p) (sym (here h key (less_all xs (h key)))))))
        (second.means before (first.means h st));
    others = record { same = λ tells g other. second.others.same tells g (λ e. other (e ∙ file)) ∙ first.others.same tells g other };
  }

  pub gains_more : (t u v : M) (a b c : S) (parts : List (List ℕ)) (i : ℕ) (p at key : List ℕ) → i < length parts → p ≡ get_or parts i p → at ≡ p → m.file_of u ≡ m.file_of t
      → GainsAll s m (take i parts) key t u a b → Gains s m at key u v b c → GainsAll s m (take (i + 1) parts) key t v a c
  gains_more t u v a b c parts i p at key less is same file first second =
      subst (λ (l : List (List ℕ)). GainsAll s m l key t v a c) (sym (up_to parts i p at less is same)) (gains_one t u v a b c (take i parts) at key file first second)

  pub loses_more : (t u v : M) (a b c : S) (parts : List (List ℕ)) (i : ℕ) (p at key : List ℕ) → i < length parts → p ≡ get_or parts i p → at ≡ p → m.file_of u ≡ m.file_of t
      → LosesAll s m (take i parts) key t u a b → Loses s m at key u v b c → LosesAll s m (take (i + 1) parts) key t v a c
  loses_more t u v a b c parts i p at key less is same file first second =
      subst (λ (l : List (List ℕ)). LosesAll s m l key t v a c) (sym (up_to parts i p at less is same)) (loses_one t u v a b c (take i parts) at key file first second)

  pub gains_end : (t u : M) (a b : S) (parts : List (List ℕ)) (i : ℕ) (key : List ℕ) → length parts ≤ i → GainsAll s m (take i parts) key t u a b → GainsAll s m parts key t u a b
  gains_end t u a b parts i key all = subst (λ (l : List (List ℕ)). GainsAll s m l key t u a b) (take_all i parts all)

  pub loses_end : (t u : M) (a b : S) (parts : List (List ℕ)) (i : ℕ) (key : List ℕ) → length parts ≤ i → LosesAll s m (take i parts) key t u a b → LosesAll s m parts key t u a b
  loses_end t u a b parts i key all = subst (λ (l : List (List ℕ)). LosesAll s m l key t u a b) (take_all i parts all)

  -- the old ones out and the new ones in
  pub turned : (t u v : M) (a b c : S) (key : List ℕ) (old new : List (List ℕ)) → m.file_of u ≡ m.file_of t → LosesAll s m old key t u a b → GainsAll s m new key u v b c → Turns s m key old new t v a c
  turned t u v a b c key old new file first second = record {
    sound = second.sound;
    means = λ h st had.
        let none : less_all old (h key) ≡ [] = ap (less_all old) had ∙ less_same old in
        let before : Firsts = with_firsts key (less_all old (h key)) h in
        stands_as s m v c (with_firsts key (new ++ before key) before) (with_firsts key new h)
        (over h key (less_all old (h key)) (new ++ before key) new (λ w. ap (times w) (sym (ap (λ (l : List (List ℕ)). new ++ l) (here h key (less_all old (h key)) ∙ none) ∙ append-nil new))))
        (second.means before (first.means h st));
    others = record { same = λ tells g other. second.others.same tells g (λ e. other (e ∙ file)) ∙ first.others.same tells g other };
  }

  -- nothing changed behind what was done
  gains_kept : (t u v : M) (a b c : S) (xs : List (List ℕ)) (key : List ℕ) → GainsAll s m xs key t u a b → Reads s (In s m.file_of m.holds) u v b c → GainsAll s m xs key t v a c
  gains_kept t u v a b c xs key first kept = record {
    sound = kept.sound;
    means = λ h st. let before = first.means h st in record { pairs = before.pairs; held = kept.means before.pairs before.held; exact = before.exact };
    others = record { same = λ tells g other. kept.now tells g ∙ first.others.same tells g other };
  }

  loses_kept : (t u v : M) (a b c : S) (xs : List (List ℕ)) (key : List ℕ) → LosesAll s m xs key t u a b → Reads s (In s m.file_of m.holds) u v b c → LosesAll s m xs key t v a c
  loses_kept t u v a b c xs key first kept = record {
    sound = kept.sound;
    means = λ h st. let before = first.means h st in record { pairs = before.pairs; held = kept.means before.pairs before.held; exact = before.exact };
    others = record { same = λ tells g other. kept.now tells g ∙ first.others.same tells g other };
  }

  pub gains_stopped : (t u v : M) (a b c : S) (parts : List (List ℕ)) (i : ℕ) (key : List ℕ) → i ≤ length parts → GainsAll s m (take i parts) key t u a b → Refuses s (In s m.file_of m.holds) u v b c → StopsIn s c (GainsSome s m parts key t v a c)
  gains_stopped t u v a b c parts i key less first stop =
      ⊎_elim (λ (flag : s.flag c ≡ false). inl flag) (λ kept. inr (record { done = i; within = less; so_far = gains_kept t u v a b c (take i parts) key first kept })) stop

  pub loses_stopped : (t u v : M) (a b c : S) (parts : List (List ℕ)) (i : ℕ) (key : List ℕ) → i ≤ length parts → LosesAll s m (take i parts) key t u a b → Refuses s (In s m.file_of m.holds) u v b c → StopsIn s c (LosesSome s m parts key t v a c)
  loses_stopped t u v a b c parts i key less first stop =
      ⊎_elim (λ (flag : s.flag c ≡ false). inl flag) (λ kept. inr (record { done = i; within = less; so_far = loses_kept t u v a b c (take i parts) key first kept })) stop

  pub put_full : (cmp : List ℕ → List ℕ → Ordering) (t u : M) (a b c : S) (parts : List (List ℕ)) (i : ℕ) (p at key : List ℕ) → i < length parts → p ≡ get_or parts i p → at ≡ p → GainsAll s m (take i parts) key t u a b → Keeps s a b → StaysList m.file_of m.made m.lead t u
      → FullFrom (In s m.file_of m.holds) m.fills (put_last cmp (entry at key) []) u b c → FullPuts s m cmp parts key t a c
  put_full cmp t u a b c parts i p at key less is same first since stays full = record { done = i; part = at; next = up_to parts i p at less is same; tree = u; moment = b; so_far = first; since = since; stays = stays; full = full }

  pub out_full : (cmp : List ℕ → List ℕ → Ordering) (t u : M) (a b c : S) (parts : List (List ℕ)) (i : ℕ) (p at key : List ℕ) → i < length parts → p ≡ get_or parts i p → at ≡ p → LosesAll s m (take i parts) key t u a b → Keeps s a b → StaysList m.file_of m.made m.lead t u
      → FullFrom (In s m.file_of m.holds) m.fills (first_out cmp (entry at key)) u b c → FullOuts s m cmp parts key t a c
  out_full cmp t u a b c parts i p at key less is same first since stays full = record { done = i; part = at; next = up_to parts i p at less is same; tree = u; moment = b; so_far = first; since = since; stays = stays; full = full }

  -- at the new parts, and at the old ones
  pub turn_stopped : (t u v : M) (a b c : S) (key : List ℕ) (old new : List (List ℕ)) → LosesAll s m old key t u a b → StopsIn s c (GainsSome s m new key u v b c) → StopsIn s c (LosesSome s m old key t v a c ⊎ TurnsSome s m key old new t v a c)
  turn_stopped t u v a b c key old new first stop =
      ⊎_elim (λ (flag : s.flag c ≡ false). inl flag) (λ some. inr (inr (record { tree = u; moment = b; lost = first; gained = some }))) stop

  pub out_stopped : (t v : M) (a c : S) (key : List ℕ) (old new : List (List ℕ)) → StopsIn s c (LosesSome s m old key t v a c) → StopsIn s c (LosesSome s m old key t v a c ⊎ TurnsSome s m key old new t v a c)
  out_stopped t v a c key old new stop = ⊎_elim (λ (flag : s.flag c ≡ false). inl flag) (λ some. inr (inl some)) stop

  pub turn_full : (cmp : List ℕ → List ℕ → Ordering) (t u : M) (a b c : S) (key : List ℕ) (old new : List (List ℕ)) → LosesAll s m old key t u a b → Keeps s a b → StaysList m.file_of m.made m.lead t u → FullPuts s m cmp new key u b c → FullBehind s m cmp old new key t a c
  turn_full cmp t u a b c key old new first since stays full = record { tree = u; moment = b; lost = first; since = since; stays = stays; full = full }
