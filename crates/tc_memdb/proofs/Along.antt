-- A walk along entries whose keys rise, that stops behind the last key that passes or when none is left to add.
use Rattle.std.proofs.Common.{◌≡◌, ◌≤◌, ◌<◌, ℕ, zero, suc, ◌+◌, ◌-◌, ◌==◌, Bool, true, false, cond, List, [], ◌∷◌, ◌++◌, length, take, map, refl, sym, ap, subst, ◌∙◌, append_assoc, arith, length-append, get_or}
use Rattle.std.specs.Prelude.{Option, Some, None, filter, flat_map}
use Rattle.std.specs.List.{AllByRecursion}
use Rattle.std.specs.Map.{keys_of}
use Rattle.std.proofs.lemmas.List.{append-nil, take-append-le, map-append}
use Rattle.std.proofs.lemmas.Grind.{flat_map-append}
use Rattle.std.proofs.lemmas.List.Elements.{filter-append}
use Rattle.tc_engine.specs.declared.rows.Rows.{Rows}
use Rattle.tc_base.specs.declared.seq.Pair.{Pair}
use Rattle.tc_base.specs.Lists.{pair}
use Rattle.tc_model.specs.Rows.{texts_of}
use Rattle.tc_engine.specs.Rows.{Adds, Extends, item_row, adds_nothing, adds_then, extends_refl, extends_then}
use Rattle.tc_engine.specs.Changes.{first_of}
use Rattle.tc_memdb.specs.Walked.{Walked, Falls, is_spent, lessened, pair_items, key_items}

enough : {A : Type 0} (n : ℕ) (xs : List A) → length xs ≤ n → take n xs ≡ xs
enough zero [] le = refl
enough (suc n) [] le = refl
enough zero (x ∷ xs) le = absurd (omega arith)
enough (suc n) (x ∷ xs) le = ap (λ l. x ∷ l) (enough n xs (omega arith))

same_less : (most : Option ℕ) → most ≡ lessened most 0
same_less None = refl
same_less (Some k) = let e : k ≡ k - 0 = omega arith in ap (λ n. Some n) e

less_less : (most : Option ℕ) (a b : ℕ) → lessened (lessened most a) b ≡ lessened most (a + b)
less_less None a b = refl
less_less (Some k) a b = let e : (k - a) - b ≡ k - (a + b) = omega arith in ap (λ n. Some n) e

-- where some are left, one more is among the first
first_more : {A : Type 0} (most : Option ℕ) (xs : List A) (x : A) → is_spent (lessened most (length xs)) ≡ false → first_of most (xs ++ x ∷ []) ≡ first_of most xs ++ x ∷ []
first_more None xs x e = refl
first_more {A = A} (Some k) xs x e =
    let some : length xs < k = room k (length xs) e in
    enough k (xs ++ x ∷ []) (omega (arith, length-append xs (x ∷ []))) ∙ ap (λ (l : List A). l ++ x ∷ []) (sym (enough k xs (omega arith)))
  where
    room : (k n : ℕ) → ((k - n) == 0) ≡ false → n < k
    room k n e = grind (arith, e)

first_spent : {A : Type 0} (most : Option ℕ) (xs ys : List A) → is_spent (lessened most (length xs)) ≡ true → first_of most (xs ++ ys) ≡ first_of most xs
first_spent None xs ys e = absurd cc
first_spent (Some k) xs ys e = take-append-le k xs ys (full k (length xs) e)
  where
    full : (k n : ℕ) → ((k - n) == 0) ≡ true → k ≤ n
    full k n e = grind (arith, e)

module _ {A : Type 0} (f : A → List (List ℕ)) where
  pub walked_start : (most : Option ℕ) (from : Rows) → Walked f most from [] most from
  walked_start most from = record { count = same_less most; added = subst (λ (l : List A). Adds from from (flat_map f l)) (nothing most) (adds_nothing from) }
    where
      nothing : (most : Option ℕ) → [] ≡ first_of {A = A} most []
      nothing None = refl
      nothing (Some zero) = refl
      nothing (Some (suc n)) = refl

  pub walked_more : (most left : Option ℕ) (from a b : Rows) (xs : List A) (x : A) → Walked f most from xs left a → is_spent left ≡ false → Adds a b (f x) → Walked f most from (xs ++ x ∷ []) (lessened left 1) b
  walked_more most left from a b xs x w some more = record {
    count = ap (λ l. lessened l 1) w.count ∙ less_less most (length xs) 1 ∙ ap (lessened most) (sym (length-append xs (x ∷ [])));
    added = subst (λ (l : List (List ℕ)). Adds from b l) one (adds_then from a b (flat_map f (first_of most xs)) (f x) w.added more);
  }
    where
      one : flat_map f (first_of most xs) ++ f x ≡ flat_map f (first_of most (xs ++ x ∷ []))
      one = ap (λ (l : List (List ℕ)). flat_map f (first_of most xs) ++ l) (sym (append-nil (f x))) ∙ sym (flat_map-append f (first_of most xs) (x ∷ []))
          ∙ ap (flat_map f) (sym (first_more most xs x (ap is_spent (sym w.count) ∙ some)))

  pub walked_spent : (most left : Option ℕ) (from a : Rows) (xs ys : List A) → Walked f most from xs left a → is_spent left ≡ true → Walked f most from (xs ++ ys) left a
  walked_spent most left from a xs ys w none = record {
    count = stays most left w.count none;
    added = subst (λ (l : List A). Adds from a (flat_map f l)) (sym (first_spent most xs ys (ap is_spent (sym w.count) ∙ none))) w.added;
  }
    where
      stays : (most left : Option ℕ) → left ≡ lessened most (length xs) → is_spent left ≡ true → left ≡ lessened most (length (xs ++ ys))
      stays None left e none = e
      stays (Some k) left e none =
          let zero_left : (k - length xs) ≡ 0 = at_end (k - length xs) (ap is_spent (sym e) ∙ none) in
          let same : k - length xs ≡ k - length (xs ++ ys) = omega (arith, length-append xs ys) in
          e ∙ ap (λ n. Some n) same
        where
          at_end : (n : ℕ) → (n == 0) ≡ true → n ≡ 0
          at_end n e = grind (arith, e)

  module _ {V : Type 0} (test : List ℕ → Bool) (items : List ℕ × V → List A) where
    abbrev pub passing : List (List ℕ × V) → List (List ℕ × V)
    passing es = filter (λ e. test e.0) es

    -- a part of the entries was walked over, and all of it passes
    pub record Along (most : Option ℕ) (from : Rows) (all rest : List (List ℕ × V)) (left : Option ℕ) (rows : Rows) : Type 0 where
      pub taken : List (List ℕ × V)
      pub split : all ≡ taken ++ rest
      pub pass : passing taken ≡ taken
      pub walked : Walked f most from (flat_map items taken) left rows

    pub along_start : (most : Option ℕ) (from : Rows) (all : List (List ℕ × V)) → Along most from all all most from
    along_start most from all = record { taken = []; split = refl; pass = refl; walked = walked_start most from }

    passes : (taken : List (List ℕ × V)) (e : List ℕ × V) → passing taken ≡ taken → test e.0 ≡ true → passing (taken ++ e ∷ []) ≡ taken ++ e ∷ []
    passes taken e p t = filter-append (λ (e : List ℕ × V). test e.0) taken (e ∷ []) ∙ ap (λ b. passing taken ++ cond b (e ∷ []) []) t ∙ ap (λ (l : List (List ℕ × V)). l ++ e ∷ []) p

    pub along_more : (most left after : Option ℕ) (from a b : Rows) (all rest next : List (List ℕ × V)) (e : List ℕ × V) (h : Along most from all rest left a) → rest ≡ e ∷ next → test e.0 ≡ true → Walked f most from (flat_map items h.taken ++ items e) after b → Along most from all next after b
    along_more most left after from a b all rest next e h is t w = record {
      taken = h.taken ++ e ∷ [];
      split = h.split ∙ ap (λ (l : List (List ℕ × V)). h.taken ++ l) is ∙ sym (append_assoc h.taken (e ∷ []) next);
      pass = passes h.taken e h.pass t;
      walked = subst (λ (l : List A). Walked f most from l after b) (sym (flat_map-append items h.taken (e ∷ []) ∙ ap (λ (l : List A). flat_map items h.taken ++ l) (append-nil (items e)))) w;
    }

    -- what the walk owes
    abbrev pub owed : Option ℕ → List (List ℕ × V) → List (List ℕ)
    owed most all = flat_map f (first_of most (flat_map items (passing all)))

    whole : (taken rest all : List (List ℕ × V)) → all ≡ taken ++ rest → passing taken ≡ taken → passing all ≡ taken ++ passing rest
    whole taken rest all e p = ap passing e ∙ filter-append (λ (e : List ℕ × V). test e.0) taken rest ∙ ap (λ (l : List (List ℕ × V)). l ++ passing rest) p

    pub along_spent : (most left : Option ℕ) (from rows : Rows) (all rest : List (List ℕ × V)) → Along most from all rest left rows → is_spent left ≡ true → Adds from rows (owed most all)
    along_spent most left from rows all rest h none =
        let w = walked_spent most left from rows (flat_map items h.taken) (flat_map items (passing rest)) h.walked none in
        subst (λ (l : List A). Adds from rows (flat_map f (first_of most l))) (sym (flat_map-append items h.taken (passing rest)) ∙ ap (flat_map items) (sym (whole h.taken rest all h.split h.pass))) w.added

    ended : (most left : Option ℕ) (from rows : Rows) (all rest : List (List ℕ × V)) → Along most from all rest left rows → passing rest ≡ [] → Adds from rows (owed most all)
    ended most left from rows all rest h none =
        subst (λ (l : List (List ℕ × V)). Adds from rows (flat_map f (first_of most (flat_map items l)))) (sym (whole h.taken rest all h.split h.pass ∙ ap (λ (l : List (List ℕ × V)). h.taken ++ l) none ∙ append-nil h.taken)) h.walked.added

    pub along_end : (most left : Option ℕ) (from rows : Rows) (all rest : List (List ℕ × V)) → Along most from all rest left rows → rest ≡ [] → Adds from rows (owed most all)
    along_end most left from rows all rest h is = ended most left from rows all rest h (ap passing is)

    falls_on : (taken rest : List (List ℕ × V)) → Falls test (keys_of (taken ++ rest)) → Falls test (keys_of rest)
    falls_on [] rest h = h
    falls_on (e ∷ taken) rest h = falls_on taken rest h.1

    none_pass : (es : List (List ℕ × V)) → AllByRecursion (λ k. test k ≡ false) (keys_of es) → passing es ≡ []
    none_pass [] h = refl
    none_pass (e ∷ es) h = ap (λ b. cond b (e ∷ passing es) (passing es)) h.0 ∙ none_pass es h.1

    pub along_stop : (most left : Option ℕ) (from rows : Rows) (all rest next : List (List ℕ × V)) (e : List ℕ × V) → Along most from all rest left rows → Falls test (keys_of all) → rest ≡ e ∷ next → test e.0 ≡ false → Adds from rows (owed most all)
    along_stop most left from rows all rest next e h falls is not =
        let here : Falls test (keys_of (e ∷ next)) = subst (λ (l : List (List ℕ × V)). Falls test (keys_of l)) is (falls_on h.taken rest (subst (λ (l : List (List ℕ × V)). Falls test (keys_of l)) h.split falls)) in
        ended most left from rows all rest h (ap passing is ∙ ap (λ b. cond b (e ∷ passing next) (passing next)) not ∙ none_pass next (here.0 not))

-- ---- the values of a key

-- whatever was walked over, these values of a key come behind it
pub record Follows (key : List ℕ) (vs : List (List ℕ)) (left after : Option ℕ) (old new : Rows) : Type 0 where
  pub walked : (most : Option ℕ) (from : Rows) (ps : List Pair) → Walked pair_items most from ps left old → Walked pair_items most from (ps ++ map (pair key) vs) after new
  pub front : Extends old new

pub follows_start : (key : List ℕ) (left : Option ℕ) (rows : Rows) → Follows key [] left left rows rows
follows_start key left rows = record {
  walked = λ most from ps w. subst (λ l. Walked pair_items most from l left rows) (sym (append-nil ps)) w;
  front = extends_refl rows;
}

pub follows_then : (key : List ℕ) (vs ws : List (List ℕ)) (left after last : Option ℕ) (a b c : Rows) → Follows key vs left after a b → Follows key ws after last b c → Follows key (vs ++ ws) left last a c
follows_then key vs ws left after last a b c first second = record {
  walked = λ most from ps w.
      subst (λ l. Walked pair_items most from l last c) (append_assoc ps (map (pair key) vs) (map (pair key) ws) ∙ ap (λ l. ps ++ l) (sym (map-append (pair key) vs ws)))
      (second.walked most from (ps ++ map (pair key) vs) (first.walked most from ps w));
  front = extends_then a b c first.front second.front;
}

pub follows_step : (key : List ℕ) (vs : List (List ℕ)) (i : ℕ) (v : List ℕ) (left after last : Option ℕ) (a b c : Rows) → i < length vs → v ≡ get_or vs i v → Follows key (take i vs) left after a b → Follows key (v ∷ []) after last b c → Follows key (take (i + 1) vs) left last a c
follows_step key vs i v left after last a b c lt is first second =
    subst (λ l. Follows key l left last a c) (ap (λ x. take i vs ++ x ∷ []) is ∙ sym (one_more vs i v lt)) (follows_then key (take i vs) (v ∷ []) left after last a b c first second)
  where
    one_more : (vs : List (List ℕ)) (i : ℕ) (d : List ℕ) → i < length vs → take (i + 1) vs ≡ take i vs ++ get_or vs i d ∷ []
    one_more [] i d lt = absurd (omega arith)
    one_more (x ∷ vs) zero d lt = refl
    one_more (x ∷ vs) (suc i) d lt = let up : suc i + 1 ≡ suc (i + 1) = omega arith in ap (λ n. take n (x ∷ vs)) up ∙ ap (λ l. x ∷ l) (one_more vs i d (omega arith))

pub take_all : (n : ℕ) (xs : List (List ℕ)) → length xs ≤ n → take n xs ≡ xs
take_all n xs le = enough n xs le

-- the first value, and those in two pieces behind it
pub follows_entry : (key v : List ℕ) (near far vs : List (List ℕ)) (left after next last : Option ℕ) (a b c d : Rows) → near ++ far ≡ vs → Follows key (v ∷ []) left after a b → Follows key near after next b c → Follows key far next last c d → Follows key (v ∷ vs) left last a d
follows_entry key v near far vs left after next last a b c d e one two three =
    subst (λ l. Follows key (v ∷ l) left last a d) e (follows_then key (v ∷ []) (near ++ far) left after last a b d one (follows_then key near far after next last b c d two three))

-- ---- what is asked for

pub at_start : {A : Type 0} (f : A → List (List ℕ)) (from rows : Rows) (xs : List A) (left : Option ℕ) → Walked f None from ([] ++ xs) left rows → Adds from rows (flat_map f xs)
at_start f from rows xs left w = w.added

pub texts_rows : (ps : List Pair) → flat_map pair_items ps ≡ map item_row (texts_of ps)
texts_rows [] = refl
texts_rows (p ∷ ps) = ap (λ l. item_row p.key ∷ item_row p.value ∷ l) (texts_rows ps)

pub keys_rows : (ks : List (List ℕ)) → flat_map key_items ks ≡ map item_row ks
keys_rows [] = refl
keys_rows (k ∷ ks) = ap (λ l. item_row k ∷ l) (keys_rows ks)

pub keys_passing : {V : Type 0} (test : List ℕ → Bool) (es : List (List ℕ × V)) → flat_map (λ e. e.0 ∷ []) (filter (λ e. test e.0) es) ≡ filter test (keys_of es)
keys_passing test [] = refl
keys_passing {V = V} test (e ∷ es) =
    let left : List (List ℕ × V) = filter (λ e. test e.0) es in
    elim (test e.0) as (λ b. flat_map (λ e. e.0 ∷ []) (cond b (e ∷ left) left) ≡ cond b (e.0 ∷ filter test (keys_of es)) (filter test (keys_of es))) [
      | true ↦ ap (λ l. e.0 ∷ l) (keys_passing test es)
      | false ↦ keys_passing test es
    ]

pub keys_owed : {V : Type 0} (test : List ℕ → Bool) (most : Option ℕ) (es : List (List ℕ × V)) → flat_map key_items (first_of most (flat_map (λ e. e.0 ∷ []) (filter (λ e. test e.0) es))) ≡ map item_row (first_of most (filter test (keys_of es)))
keys_owed test most es = keys_rows _ ∙ ap (λ l. map item_row (first_of most l)) (keys_passing test es)
