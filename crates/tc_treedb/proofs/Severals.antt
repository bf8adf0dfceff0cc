-- Many changes of a tree, one behind the other.
use Rattle.std.proofs.Common.{◌≡◌, ◌∙◌, ◌⊎◌, inl, inr, ⊎_elim, ℕ, ◌+◌, ◌<◌, ◌≤◌, Bool, true, false, cond, List, [], ◌∷◌, ◌++◌, length, take, drop, get_or, refl, sym, ap, subst, arith, append_assoc, length-append}
use Rattle.std.specs.Prelude.{Option, Some, None, IfSome, IsErrOf, Err, filter, fold, is_some, map, option_map, slice_get}
use Rattle.std.specs.Cmp.{IsTotalOrder}
use Rattle.std.specs.List.{AllByRecursion}
use Rattle.std.specs.Ordering.{is_gt, is_le, is_lt}
use Rattle.std.specs.declared.cmp.Ordering.{Ordering}
use Rattle.std.specs.declared.cmp.Ordering.TheVariants.{Less, Equal, Greater}
use Rattle.std.proofs.lemmas.List.{append-nil, take-append-drop, take_all}
use Rattle.std.proofs.lemmas.List.Sums.{fold-append, fold_more}
use Rattle.std.proofs.lemmas.Map.Lookups.{CmpEqualImpliesEq}
use Rattle.tc_base.specs.Lists.{Rises, above, below, first, values, with_last, without_all}
use Rattle.tc_base.specs.Texts.{is_text}
use Rattle.tc_base.specs.declared.order.Order.{Ghosts as Orders}
use Rattle.tc_base.specs.declared.seq.Pair.{Pair}
use Rattle.tc_space.specs.Changes.{has_pair}
use Rattle.tc_space.specs.Frames.{GivenUp, Keeps, keeps_refl, keeps_then}
use Rattle.tc_space.specs.Stores.{IsReady, Only, TakesOut}
use Rattle.tc_space.specs.declared.errors.RecErr.{RecErr}
use Rattle.tc_space.specs.declared.errors.RecErr.TheVariants.{Full}
use Rattle.tc_space.specs.declared.records.Records.{Ghosts as Stores}
use Rattle.tc_space.specs.declared.space.Space.{Ghosts}
use Rattle.bt_order.specs.Rising.{behind_stays}
use Rattle.bt_ways.specs.Changes.{inserted, removed}
use Rattle.bt_tree.specs.Inserting.{StaysMade}
use Rattle.bt_tree.specs.Meaning.{Changes, Means, file_in}
use Rattle.bt_tree.specs.Paging.{room_given, tells_given}
use Rattle.bt_tree.specs.declared.tree.Tree.{Tree}
use Rattle.tc_btree.specs.Rising.{pairs_rise}
use Rattle.tc_treedb.specs.Between.{AreBetween, IsBetween, IsFront}
use Rattle.tc_treedb.specs.Changing.{CountsTo, FillsAlong, FillsOn, FillsPairs, cleared_in, push_in, set_in}
use Rattle.tc_treedb.specs.Counting.{IsCountedWith, gone}
use Rattle.tc_treedb.specs.Reading.{LooksAt, bytes_in, pairs_of}
use Rattle.tc_treedb.proofs.Readings.{text_same, text_self}
use Rattle.tc_treedb.proofs.Stored.{made_refl, made_then}
use Rattle.tc_treedb.proofs.Sums.{first_bytes, last_bytes, less_all_bytes, values_set}

-- ---- lists on the way

front_refl : (vs : List (List ℕ)) → IsFront vs vs
front_refl vs = ([], sym (append-nil vs))

front_then : (us vs ws : List (List ℕ)) → IsFront us vs → IsFront vs ws → IsFront us ws
front_then us vs ws first second = (first.0 ++ second.0, second.1 ∙ (ap (λ (l : List (List ℕ)). l ++ second.0) first.1 ∙ append_assoc us first.0 second.0))

no_more : (vs ws more : List (List ℕ)) → length more ≤ 0 → ws ≡ vs ++ more → ws ≡ vs
no_more vs ws [] none is = is ∙ append-nil vs
no_more vs ws (m ∷ more) none is = absurd (omega (arith, none))

front_both : (vs ws : List (List ℕ)) → IsFront vs ws → IsFront ws vs → ws ≡ vs
front_both vs ws a b =
    let x : length ws ≡ length vs + length a.0 = ap length a.1 ∙ length-append vs a.0 in
    let y : length vs ≡ length ws + length b.0 = ap length b.1 ∙ length-append ws b.0 in
    no_more vs ws a.0 (omega (arith, x, y)) a.1

front_none : (vs : List (List ℕ)) → IsFront vs [] → vs ≡ []
front_none [] a = refl
front_none (v ∷ vs) a = absurd (let e : 0 ≡ length ((v ∷ vs) ++ a.0) = ap length a.1 in let l = length-append (v ∷ vs) a.0 in omega (arith, e, l))

-- how the values of a key go by steps: these join, and a list on the way parts one
pub record IsWay (Goes : List (List ℕ) → List (List ℕ) → Type 0) : Type 0 where
  pub none : (vs : List (List ℕ)) → Goes vs vs
  pub joins : (us vs ws : List (List ℕ)) → Goes us vs → Goes vs ws → Goes us ws
  pub between : (us vs ws : List (List ℕ)) → Goes us vs → Goes vs ws → AreBetween us vs ws
  pub parts : (us vs ws : List (List ℕ)) → Goes us ws → AreBetween us vs ws → Goes us vs × Goes vs ws

pub front_way : IsWay IsFront
front_way = record {
  none = front_refl;
  joins = front_then;
  between = λ us vs ws first second. inr (inr (first, second));
  parts = λ us vs ws all lies. ⊎_elim
      (λ same. (subst (λ (x : List (List ℕ)). IsFront us x) (sym same) (front_refl us), subst (λ (x : List (List ℕ)). IsFront x ws) (sym same) all))
      (λ later. ⊎_elim
      (λ same. (subst (λ (x : List (List ℕ)). IsFront us x) (sym same) all, subst (λ (x : List (List ℕ)). IsFront x ws) (sym same) (front_refl ws)))
      (λ both. both)
      later)
      lies;
}

-- values of a key stay, or go
abbrev pub StayOrGo : List (List ℕ) → List (List ℕ) → Type 0
StayOrGo vs ws = (ws ≡ vs) ⊎ (ws ≡ [])

go_then : (us vs ws : List (List ℕ)) → StayOrGo us vs → StayOrGo vs ws → StayOrGo us ws
go_then us vs ws first second = ⊎_elim (λ same. ⊎_elim (λ was. inl (same ∙ was)) (λ none. inr (same ∙ none)) first) (λ none. inr none) second

gone_stays : (vs ws : List (List ℕ)) → StayOrGo vs ws → vs ≡ [] → ws ≡ []
gone_stays vs ws go none = ⊎_elim (λ same. same ∙ none) (λ gone. gone) go

at_last : (us vs ws : List (List ℕ)) → StayOrGo us vs → StayOrGo vs ws → AreBetween us vs ws
at_last us vs ws first second = ⊎_elim (λ same. inl same) (λ none. inr (inl (none ∙ sym (gone_stays vs ws second none)))) first

go_parts : (us vs ws : List (List ℕ)) → StayOrGo us ws → AreBetween us vs ws → StayOrGo us vs × StayOrGo vs ws
go_parts us vs ws all lies = ⊎_elim at_first (λ later. ⊎_elim at_end (λ both. ⊎_elim (λ same. at_first (back same both)) (λ none. at_end (gone none both.1)) all) later) lies
  where
    at_first : vs ≡ us → StayOrGo us vs × StayOrGo vs ws
    at_first same = (inl same, subst (λ (x : List (List ℕ)). StayOrGo x ws) (sym same) all)

    at_end : vs ≡ ws → StayOrGo us vs × StayOrGo vs ws
    at_end same = (subst (λ (x : List (List ℕ)). StayOrGo us x) (sym same) all, inl (sym same))

    back : ws ≡ us → IsFront us vs × IsFront vs ws → vs ≡ us
    back same both = front_both us vs both.0 (subst (λ (x : List (List ℕ)). IsFront vs x) same both.1)

    gone : ws ≡ [] → IsFront vs ws → vs ≡ ws
    gone none front = front_none vs (subst (λ (x : List (List ℕ)). IsFront vs x) none front) ∙ sym none

pub go_way : IsWay StayOrGo
go_way = record { none = λ vs. inl refl; joins = go_then; between = at_last; parts = go_parts }

module _ (cmp : List ℕ → List ℕ → Ordering) (total : IsTotalOrder cmp) (exact : CmpEqualImpliesEq cmp) where
  -- values that are pushed come behind
  pub pushed_front : (key value k : List ℕ) (ps : List Pair) → IsFront (values ps k) (values (with_last cmp ps key value) k)
  pushed_front key value k ps = go (is_text k key) refl (values_set cmp total exact ps key k (values ps key ++ value ∷ []))
    where
      go : (b : Bool) → is_text k key ≡ b → values (with_last cmp ps key value) k ≡ cond (is_text k key) (values ps key ++ value ∷ []) (values ps k) → IsFront (values ps k) (values (with_last cmp ps key value) k)
      go true e is = (value ∷ [], is ∙ (ap (λ (c : Bool). cond c (values ps key ++ value ∷ []) (values ps k)) e ∙ ap (λ (x : List ℕ). values ps x ++ value ∷ []) (sym (text_same k key e))))
      go false e is = ([], is ∙ (ap (λ (c : Bool). cond c (values ps key ++ value ∷ []) (values ps k)) e ∙ sym (append-nil (values ps k))))

  not_above : (x y : List ℕ) → is_le (cmp x y) ≡ true → is_gt (cmp x y) ≡ false
  not_above x y le = go (cmp x y) le
    where
      go : (r : Ordering) → is_le r ≡ true → is_gt r ≡ false
      go Less e = refl
      go Equal e = refl
      go Greater e = absurd cc

  all_above : (key p : List ℕ) (ps : List Pair) → is_gt (cmp p key) ≡ true → AllByRecursion (λ q. is_le (cmp p q.key) ≡ true) ps → (below cmp ps key ≡ []) × (above cmp ps key ≡ ps)
  all_above key p [] gt up = (refl, refl)
  all_above key p (q ∷ ps) gt up =
      let rest = all_above key p ps gt up.1 in
      let greater : is_gt (cmp q.key key) ≡ true = behind_stays total p q.key key (not_above p q.key up.0) gt in
      let not_less : is_lt (cmp q.key key) ≡ false = gt_not_lt (cmp q.key key) greater in (
        ap (λ (b : Bool). cond b (q ∷ below cmp ps key) (below cmp ps key)) not_less ∙ rest.0,
        ap (λ (b : Bool). cond b (q ∷ above cmp ps key) (above cmp ps key)) greater ∙ ap (λ (l : List Pair). q ∷ l) rest.1,
      )
    where
      gt_not_lt : (r : Ordering) → is_gt r ≡ true → is_lt r ≡ false
      gt_not_lt Less e = absurd cc
      gt_not_lt Equal e = refl
      gt_not_lt Greater e = refl

  -- where a key isn't held, all pairs stand below it or above it
  none_held : (key : List ℕ) (ps : List Pair) → Rises cmp ps → values ps key ≡ [] → below cmp ps key ++ above cmp ps key ≡ ps
  none_held key [] rises none = refl
  none_held key (p ∷ ps) rises none = go (cmp p.key key) refl (λ gone. none_held key ps rises.1 gone)
    where
      other : is_text p.key key ≡ true → ⊥
      other same = absurd (let e : p.value ∷ values ps key ≡ [] = sym (ap (λ (b : Bool). map (λ q. q.value) (cond b (p ∷ filter (λ q. is_text q.key key) ps) (filter (λ q. is_text q.key key) ps))) same) ∙ none in cc)

      rest_none : is_text p.key key ≡ false → values ps key ≡ []
      rest_none e = sym (ap (λ (b : Bool). map (λ q. q.value) (cond b (p ∷ filter (λ q. is_text q.key key) ps) (filter (λ q. is_text q.key key) ps))) e) ∙ none

      apart : values ps key ≡ []
      apart = elim (is_text p.key key) as (λ b. is_text p.key key ≡ b → values ps key ≡ []) [ true ↦ λ e. absurd (other e) | false ↦ λ e. rest_none e ] refl

      go : (r : Ordering) → cmp p.key key ≡ r → (values ps key ≡ [] → below cmp ps key ++ above cmp ps key ≡ ps) → below cmp (p ∷ ps) key ++ above cmp (p ∷ ps) key ≡ p ∷ ps
      go Less e rest = (λ i. cond (is_lt (e i)) (p ∷ below cmp ps key) (below cmp ps key) ++ cond (is_gt (e i)) (p ∷ above cmp ps key) (above cmp ps key)) ∙ ap (λ (l : List Pair). p ∷ l) (rest apart)
      go Equal e rest = absurd (other (ap (λ (x : List ℕ). is_text x key) (exact p.key key e) ∙ text_self key))
      go Greater e rest =
          let all = all_above key p.key ps (ap is_gt e) rises.0 in
          (λ i. cond (is_lt (e i)) (p ∷ below cmp ps key) (below cmp ps key) ++ cond (is_gt (e i)) (p ∷ above cmp ps key) (above cmp ps key)) ∙ ((λ i. all.0 i ++ (p ∷ above cmp ps key)) ∙ ap (λ (l : List Pair). p ∷ l) all.1)

  none_there : (vs : List (List ℕ)) → is_some (slice_get vs 0) ≡ false → vs ≡ []
  none_there [] e = refl
  none_there (v ∷ vs) e = absurd cc

  pub none_cleared : (key : List ℕ) (ps : List Pair) → Rises cmp ps → has_pair key ps ≡ false → cleared_in cmp key ps ≡ ps
  none_cleared key ps rises none = none_held key ps rises (none_there (values ps key) none)

  pub cleared_values : (key k : List ℕ) (ps : List Pair) → StayOrGo (values ps k) (values (without_all cmp ps key) k)
  cleared_values key k ps = go (is_text k key) refl (values_set cmp total exact ps key k [])
    where
      go : (b : Bool) → is_text k key ≡ b → values (without_all cmp ps key) k ≡ cond (is_text k key) [] (values ps k) → StayOrGo (values ps k) (values (without_all cmp ps key) k)
      go true e is = inr (is ∙ ap (λ (c : Bool). cond c [] (values ps k)) e)
      go false e is = inl (is ∙ ap (λ (c : Bool). cond c [] (values ps k)) e)

pub cause_at : {A B : Type 0} (r e : RecErr) → r ≡ e → IsErrOf {T = A} (Err r) Full → IsErrOf {T = B} (Err e) Full
cause_at r e same full = ap (λ (x : RecErr). Err x) (sym same) ∙ ap (λ (x : RecErr). Err x) (let is : r ≡ Full = cc in is)

pub pushed_as : (cmp : List ℕ → List ℕ → Ordering) (p : Pair) (key value : List ℕ) (ps : List Pair) → key ≡ p.key → value ≡ p.value → inserted cmp true key value ps ≡ push_in cmp p ps
pushed_as cmp p key value ps same given = λ i. inserted cmp true (same i) (given i) ps

-- ---- calls

module _ {S V O : Type 0} (s : Ghosts S) (R : Stores V S) (o : Orders O) where
  -- a change that is said of texts
  pub inserted_as : (last : Bool) (key text value bytes : List ℕ) (t u : Tree V O) (a b : S) → text ≡ key → bytes ≡ value → Changes s R o (inserted o.cmp last text bytes) t u a b → Changes s R o (inserted o.cmp last key value) t u a b
  inserted_as last key text value bytes t u a b same given writes = subst (λ (k : List ℕ). Changes s R o (inserted o.cmp last k value) t u a b) same (subst (λ (v : List ℕ). Changes s R o (inserted o.cmp last text v) t u a b) given writes)

  -- behind a look
  pub changes_behind : (f : List Pair → List Pair) (t u v : Tree V O) (a b c : S) → LooksAt s R o t u a b → Changes s R o f u v b c → Changes s R o f t v a c
  changes_behind f t u v a b c l writes = record {
    sound = writes.sound;
    means = λ ps h. writes.means ps (l.reads.means ps h);
    others = record { same = λ told g other. writes.others.same told g (λ is. other (is ∙ l.made.file)) ∙ l.reads.now told g };
  }

  -- all values of a key went, or none was there
  pub cleared_out : IsTotalOrder o.cmp → CmpEqualImpliesEq o.cmp → (key : List ℕ) (taken : Bool) (t u v : Tree V O) (a b c : S) → LooksAt s R o t u a b → TakesOut s (Only (file_in R u)) (Means s R o) (has_pair key) (removed o.cmp true key) taken u v b c → Changes s R o (cleared_in o.cmp key) t v a c
  cleared_out total exact key true t u v a b c l out = changes_behind (cleared_in o.cmp key) t u v a b c l (out.out refl)
  cleared_out total exact key false t u v a b c l out =
      let r = out.none refl in record {
        sound = r.sound;
        means = λ ps h. subst (λ (qs : List Pair). Means s R o v c qs) (sym (none_cleared o.cmp total exact key ps (pairs_rise t _ ps h.1 total exact) (sym (out.held ps (l.reads.means ps h))))) (r.means ps (l.reads.means ps h));
        others = record { same = λ told g other. r.now told g ∙ l.reads.now told g };
      }

  module _ (total : IsTotalOrder o.cmp) (exact : CmpEqualImpliesEq o.cmp) where
    pub counts_set : (p : Pair) (before now old : Option ℕ) (key value : ℕ) (t : Tree V O) (a : S) → key ≡ length p.key → value ≡ length p.value → ((ps : List Pair) → Means s R o t a ps → old ≡ option_map length (first ps p.key))
        → IfSome now (λ n. IsCountedWith key old before value n) → IfSome now (CountsTo s R o (set_in o.cmp p) before t a)
    counts_set p before None old key value t a is_key is_value was counted = tt
    counts_set p before (Some n) old key value t a is_key is_value was counted = (counted.0, counted.1, (λ ps h k. set_count p n counted.0 old key value ps is_key is_value (was ps h) counted.2 k))
      where
        set_count : (p : Pair) (n t : ℕ) (old : Option ℕ) (key value : ℕ) (ps : List Pair) → key ≡ length p.key → value ≡ length p.value → old ≡ option_map length (first ps p.key) → n + gone key old ≡ t + (key + value) → t ≡ bytes_in ps → n ≡ bytes_in (set_in o.cmp p ps)
        set_count p n t old key value ps is_key is_value was sum is =
            let law = first_bytes o.cmp total exact ps p.key p.value in
            let same : gone key old ≡ gone (length p.key) (option_map length (first ps p.key)) = λ i. gone (is_key i) (was i) in
            omega (arith, law, same, sum, is, is_key, is_value)

    pub counts_pushed : (p : Pair) (before now : Option ℕ) (key value : ℕ) (t : Tree V O) (a : S) → key ≡ length p.key → value ≡ length p.value → IfSome now (λ n. IsCountedWith key None before value n) → IfSome now (CountsTo s R o (push_in o.cmp p) before t a)
    counts_pushed p before None key value t a is_key is_value counted = tt
    counts_pushed p before (Some n) key value t a is_key is_value counted =
        (counted.0, counted.1, (λ ps h k. let law = last_bytes o.cmp total exact ps p.key p.value in let sum = counted.2 in omega (arith, law, sum, k, is_key, is_value)))

    pub counts_cleared : (key : List ℕ) (before less now : Option ℕ) (t : Tree V O) (a : S) → IfSome less (λ m. (ps : List Pair) → Means s R o t a ps → m ≡ bytes_in (pairs_of key ps))
        → IfSome now (λ n. (k : ℕ) × (m : ℕ) × (before ≡ Some k) × (less ≡ Some m) × (n + m ≡ k)) → IfSome now (CountsTo s R o (cleared_in o.cmp key) before t a)
    counts_cleared key before less None t a are counted = tt
    counts_cleared key before less (Some n) t a are counted =
        let m_is = subst (λ (l : Option ℕ). IfSome l (λ m. (ps : List Pair) → Means s R o t a ps → m ≡ bytes_in (pairs_of key ps))) counted.3 are in
        (counted.0, counted.2, (λ ps h k. let law = less_all_bytes o.cmp total exact ps key in let sum = counted.4 in let gone_is = m_is ps h in omega (arith, law, sum, k, gone_is)))

  -- ---- one behind the other

  module _ {X : Type 0} (f : X → List Pair → List Pair) where
    abbrev each : List X → List Pair → List Pair
    each xs ps = fold (λ qs x. f x qs) ps xs

    -- so many changes were made
    pub record SoFar (xs : List X) (before now : Option ℕ) (t u : Tree V O) (a b : S) : Type 0 where
      pub writes : Changes s R o (each xs) t u a b
      pub counted : IfSome now (CountsTo s R o (each xs) before t a)
      pub keeps : Keeps s a b
      pub stays : StaysMade R t u

    start_count : (before : Option ℕ) (t : Tree V O) (a : S) → IfSome before (CountsTo s R o (each []) before t a)
    start_count None t a = tt
    start_count (Some k) t a = (k, refl, (λ ps h is. is))

    pub far_start : (before : Option ℕ) (t : Tree V O) (a : S) → s.sound a → SoFar [] before before t t a a
    far_start before t a sound = record {
      writes = record { sound = sound; means = λ ps h. h; others = record { same = λ told g other. refl } };
      counted = start_count before t a;
      keeps = keeps_refl s a;
      stays = made_refl s R o t;
    }

    next_is : (xs : List X) (i : ℕ) (x : X) (ps : List Pair) → i < length xs → x ≡ get_or xs i x → each (take (i + 1) xs) ps ≡ f x (each (take i xs) ps)
    next_is xs i x ps lt is = fold_more (λ qs y. f y qs) ps xs i x lt ∙ ap (λ (y : X). f y (each (take i xs) ps)) (sym is)

    count_on : (xs : List X) (i : ℕ) (x : X) (before mid now : Option ℕ) (t u : Tree V O) (a b : S) → i < length xs → x ≡ get_or xs i x → SoFar (take i xs) before mid t u a b → IfSome now (CountsTo s R o (f x) mid u b) → IfSome now (CountsTo s R o (each (take (i + 1) xs)) before t a)
    count_on xs i x before mid None t u a b lt is so_far counted = tt
    count_on xs i x before mid (Some n) t u a b lt is so_far counted =
        let was = subst (λ (l : Option ℕ). IfSome l (CountsTo s R o (each (take i xs)) before t a)) counted.1 so_far.counted in
        (was.0, was.1, (λ ps h k. counted.2 (each (take i xs) ps) (so_far.writes.means ps h) (was.2 ps h k) ∙ ap bytes_in (sym (next_is xs i x ps lt is))))

    pub far_more : (xs : List X) (i : ℕ) (x : X) (before mid now : Option ℕ) (t u w : Tree V O) (a b c : S) → i < length xs → x ≡ get_or xs i x → SoFar (take i xs) before mid t u a b → Changes s R o (f x) u w b c → IfSome now (CountsTo s R o (f x) mid u b) → Keeps s b c → StaysMade R u w
        → SoFar (take (i + 1) xs) before now t w a c
    far_more xs i x before mid now t u w a b c lt is so_far writes counted keeps stays = record {
      writes = record {
        sound = writes.sound;
        means = λ ps h. subst (λ (qs : List Pair). Means s R o w c qs) (sym (next_is xs i x ps lt is)) (writes.means (each (take i xs) ps) (so_far.writes.means ps h));
        others = record { same = λ told g other. writes.others.same told g (λ is. other (is ∙ so_far.stays.made.file)) ∙ so_far.writes.others.same told g other };
      };
      counted = count_on xs i x before mid now t u a b lt is so_far counted;
      keeps = keeps_then s a b c so_far.keeps keeps;
      stays = made_then s R o t u w so_far.stays stays;
    }

    pub far_ready : (xs : List X) (before now : Option ℕ) (t u : Tree V O) (a b : S) → SoFar xs before now t u a b → IsReady s (Means s R o) t a → IsReady s (Means s R o) u b
    far_ready xs before now t u a b so_far ready = record { sound = so_far.writes.sound; held = λ told. let h = ready.held told in (each xs h.0, so_far.writes.means h.0 h.1) }

    pub far_end : (xs : List X) (i : ℕ) (before now : Option ℕ) (t u : Tree V O) (a b : S) → length xs ≤ i → SoFar (take i xs) before now t u a b → SoFar xs before now t u a b
    far_end xs i before now t u a b end so_far = subst (λ (l : List X). SoFar l before now t u a b) (take_all i xs end) so_far

    fills_given : ((v : V) (x y z : S) (key value : List ℕ) → GivenUp s y z → R.lacks v x y key value → R.lacks v x z key value) → (t : Tree V O) (a c d : S) (ps qs : List Pair) → GivenUp s c d → FillsPairs s R o t a c ps qs → FillsPairs s R o t a d ps qs
    fills_given still t a c d ps qs given fills = ⊎_elim
        (λ parted. inl (record { means = parted.means; tells = tells_given s R t a c d given parted.tells; last = parted.last; key = parted.key; value = parted.value; makes = parted.makes; used = parted.used }))
        (λ room. inr (room.0, room_given s R still _ _ _ _ t a c d given room.1)) fills

    all_on : (xs : List X) (i : ℕ) (x : X) (ps : List Pair) → i < length xs → x ≡ get_or xs i x → each (drop (i + 1) xs) (f x (each (take i xs) ps)) ≡ each xs ps
    all_on xs i x ps lt is = ap (each (drop (i + 1) xs)) (sym (next_is xs i x ps lt is)) ∙ (sym (fold-append (λ qs y. f y qs) ps (take (i + 1) xs) (drop (i + 1) xs)) ∙ ap (λ (l : List X). each l ps) (take-append-drop (i + 1) xs))

    -- of each change the values of a key go the same way
    module _ (Goes : List (List ℕ) → List (List ℕ) → Type 0) (way : IsWay Goes) (goes : (x : X) (ps : List Pair) (k : List ℕ) → Goes (values ps k) (values (f x ps) k)) where
      each_goes : (xs : List X) (ps : List Pair) (k : List ℕ) → Goes (values ps k) (values (each xs ps) k)
      each_goes [] ps k = way.none (values ps k)
      each_goes (x ∷ xs) ps k = way.joins (values ps k) (values (f x ps) k) (values (each xs (f x ps)) k) (goes x ps k) (each_goes xs (f x ps) k)

      -- a list on the way of one of them
      module _ (xs : List X) (i : ℕ) (x : X) (lt : i < length xs) (is : x ≡ get_or xs i x) (ps mid : List Pair) (lies : IsBetween (each (take i xs) ps) mid (f x (each (take i xs) ps))) where
        abbrev stood : List Pair
        stood = each (take i xs) ps

        parted : (k : List ℕ) → Goes (values stood k) (values mid k) × Goes (values mid k) (values (f x stood) k)
        parted k = way.parts (values stood k) (values mid k) (values (f x stood) k) (goes x stood k) (lies k)

        behind : (k : List ℕ) → Goes (values (f x stood) k) (values (each xs ps) k)
        behind k = subst (λ (l : List Pair). Goes (values (f x stood) k) (values l k)) (all_on xs i x ps lt is) (each_goes (drop (i + 1) xs) (f x stood) k)

        -- is one on the way of all
        all_between : IsBetween ps mid (each xs ps)
        all_between k = way.between (values ps k) (values mid k) (values (each xs ps) k)
            (way.joins (values ps k) (values stood k) (values mid k) (each_goes (take i xs) ps k) (parted k).0)
            (way.joins (values mid k) (values (f x stood) k) (values (each xs ps) k) (parted k).1 (behind k))

        -- and so is one further on
        all_further : (next : List Pair) → IsBetween mid next (f x stood) → IsBetween mid next (each xs ps)
        all_further next on k =
            let here = way.parts (values mid k) (values next k) (values (f x stood) k) (parted k).1 (on k) in
            way.between (values mid k) (values next k) (values (each xs ps) k) here.0 (way.joins (values next k) (values (f x stood) k) (values (each xs ps) k) here.1 (behind k))

      -- a limit that one of them met is one on the way of all
      pub far_full : ((v : V) (x y z : S) (key value : List ℕ) → GivenUp s y z → R.lacks v x y key value → R.lacks v x z key value) → (xs : List X) (i : ℕ) (x : X) (before mid : Option ℕ) (t u : Tree V O) (a b c d : S)
          → i < length xs → x ≡ get_or xs i x → SoFar (take i xs) before mid t u a b → FillsAlong s R o (f x) u b c → GivenUp s c d → FillsAlong s R o (each xs) t a d
      far_full still xs i x before mid t u a b c d lt is so_far fills given ps h =
          let w : FillsOn s R o (f x) u b c (each (take i xs) ps) = fills (each (take i xs) ps) (so_far.writes.means ps h) in record {
            tree = w.tree;
            moment = w.moment;
            made = made_then s R o t u w.tree so_far.stays w.made;
            since = keeps_then s a b w.moment so_far.keeps w.since;
            until = keeps_then s w.moment c d w.until given.keeps;
            mid = w.mid;
            next = w.next;
            mid_between = all_between xs i x lt is ps w.mid w.mid_between;
            on = all_further xs i x lt is ps w.mid w.mid_between w.next w.on;
            fills = fills_given still w.tree w.moment c d w.mid w.next given w.fills;
          }
