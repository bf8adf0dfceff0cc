-- One id after the other.
use Rattle.std.proofs.Common.{◌≡◌, ◌∙◌, inl, inr, ⊎_elim, ℕ, zero, suc, ◌+◌, ◌≤◌, ◌<◌, List, [], ◌∷◌, ◌++◌, length, take, drop, refl, sym, ap, subst, arith}
use Rattle.std.specs.Prelude.{Option, Some, None}
use Rattle.std.proofs.lemmas.List.Sums.{fold-append}
use Rattle.std.proofs.Math.ListN.{get_or}
use Rattle.tc_base.specs.declared.seq.Pair.{Pair}
use Rattle.tc_space.specs.Frames.{Writes, writes_then}
use Rattle.tc_space.specs.Stores.{Only}
use Rattle.tc_space.specs.declared.space.Space.{Ghosts}
use Rattle.tc_model.specs.Arrays.{Array, greatest, id_of}
use Rattle.tc_fixed.specs.declared.fixed.Fixed.{Fixed}
use Rattle.tc_fixed.specs.Cells.{end_of}
use Rattle.tc_fixed.specs.Holding.{HasNoRoom, Means, SameShape, max_id_of, width_of}
use Rattle.tc_fixed.specs.Shapes.{most_id}
use Rattle.tc_fixeddb.specs.Changing.{all_out, all_set, out_at, out_named, set_at, set_named}
use Rattle.tc_fixeddb.proofs.Ends.{greatest_with}

one_more : {A : Type 0} (xs : List A) (i : ℕ) (x : A) → i < length xs → x ≡ get_or xs i x → take (i + 1) xs ≡ take i xs ++ x ∷ []
one_more [] i x lt is = absurd (omega (arith, lt))
one_more (y ∷ xs) zero x lt is = ap (λ z. z ∷ []) (sym is)
one_more (y ∷ xs) (suc i) x lt is = ap (λ n. take n (y ∷ xs)) (next i) ∙ ap (λ l. y ∷ l) (one_more xs i x (omega (arith, lt)) is)
  where
    next : (i : ℕ) → suc i + 1 ≡ suc (i + 1)
    next i = omega arith

parted : {A : Type 0} (xs : List A) (i : ℕ) (x : A) → i < length xs → x ≡ get_or xs i x → xs ≡ (take i xs ++ x ∷ []) ++ drop (i + 1) xs
parted [] i x lt is = absurd (omega (arith, lt))
parted (y ∷ xs) zero x lt is = ap (λ z. z ∷ xs) (sym is)
parted (y ∷ xs) (suc i) x lt is = ap (λ l. y ∷ l) (parted xs i x (omega (arith, lt)) is) ∙ ap (λ n. ((y ∷ take i xs) ++ x ∷ []) ++ drop n (y ∷ xs)) (sym (next i))
  where
    next : (i : ℕ) → suc i + 1 ≡ suc (i + 1)
    next i = omega arith

pub all_taken : {A : Type 0} (xs : List A) (i : ℕ) → length xs ≤ i → take i xs ≡ xs
all_taken [] zero le = refl
all_taken [] (suc i) le = refl
all_taken (x ∷ xs) zero le = absurd (omega (arith, le))
all_taken (x ∷ xs) (suc i) le = ap (λ l. x ∷ l) (all_taken xs i (omega (arith, le)))

one_grows : (width : ℕ) (m : Array) (o : Option ℕ) (value : List ℕ) → greatest m ≤ greatest (set_at width m o value)
one_grows width m None value = omega arith
one_grows width m (Some id) value = omega (arith, greatest_with m id (take width value))

-- the greatest id held doesn't fall
grows : (width most : ℕ) (ps : List Pair) (m : Array) → greatest m ≤ greatest (all_set width most ps m)
grows width most [] m = omega arith
grows width most (p ∷ ps) m = omega (arith, one_grows width m (id_of most m p.key) p.value, grows width most ps (set_named width most m p))

set_on : (width most : ℕ) (pairs : List Pair) (i : ℕ) (p : Pair) (m : Array) → i < length pairs → p ≡ get_or pairs i p → set_named width most (all_set width most (take i pairs) m) p ≡ all_set width most (take (i + 1) pairs) m
set_on width most pairs i p m lt is = sym (ap (λ l. all_set width most l m) (one_more pairs i p lt is) ∙ fold-append (set_named width most) m (take i pairs) (p ∷ []))

out_on : (most : ℕ) (keys : List (List ℕ)) (i : ℕ) (key : List ℕ) (m : Array) → i < length keys → key ≡ get_or keys i key → out_named most (all_out most (take i keys) m) key ≡ all_out most (take (i + 1) keys) m
out_on most keys i key m lt is = sym (ap (λ l. all_out most l m) (one_more keys i key lt is) ∙ fold-append (out_named most) m (take i keys) (key ∷ []))

same_most : {S : Type 0} (v u : Fixed S) → SameShape v u → max_id_of u ≡ max_id_of v
same_most v u same = λ i. most_id (same.width i) (same.limit i)

module _ {S : Type 0} (s : Ghosts S) where
  pub set_more : (v u w : Fixed S) (a b c : S) (pairs : List Pair) (i : ℕ) (p : Pair) (key value : List ℕ) → i < length pairs → p ≡ get_or pairs i p → key ≡ p.key → value ≡ p.value → Writes s (Only 0) (Means s) (all_set (width_of v) (max_id_of v) (take i pairs)) v u a b → SameShape v u → Writes s (Only 0) (Means s) (λ m. set_at (width_of u) m (id_of (max_id_of u) m key) value) u w b c → Writes s (Only 0) (Means s) (all_set (width_of v) (max_id_of v) (take (i + 1) pairs)) v w a c
  set_more v u w a b c pairs i p key value lt is named given first same second =
      let both = writes_then s (Means s) (Only 0) _ _ v u w a b c first second in
      record {
        sound = both.sound;
        others = both.others;
        means = λ m means. subst (λ n. Means s w c n)
            ((λ j. set_at (same.width j) (all_set (width_of v) (max_id_of v) (take i pairs) m) (id_of (same_most v u same j) (all_set (width_of v) (max_id_of v) (take i pairs) m) (named j)) (given j))
            ∙ set_on (width_of v) (max_id_of v) pairs i p m lt is) (both.means m means);
      }

  pub out_more : (v u w : Fixed S) (a b c : S) (keys : List (List ℕ)) (i : ℕ) (key text : List ℕ) → i < length keys → key ≡ get_or keys i key → text ≡ key → Writes s (Only 0) (Means s) (all_out (max_id_of v) (take i keys)) v u a b → SameShape v u → Writes s (Only 0) (Means s) (λ m. out_at m (id_of (max_id_of u) m text)) u w b c → Writes s (Only 0) (Means s) (all_out (max_id_of v) (take (i + 1) keys)) v w a c
  out_more v u w a b c keys i key text lt is named first same second =
      let both = writes_then s (Means s) (Only 0) _ _ v u w a b c first second in
      record {
        sound = both.sound;
        others = both.others;
        means = λ m means. subst (λ n. Means s w c n)
            ((λ j. out_at (all_out (max_id_of v) (take i keys) m) (id_of (same_most v u same j) (all_out (max_id_of v) (take i keys) m) (named j)))
            ∙ out_on (max_id_of v) keys i key m lt is) (both.means m means);
      }

  -- no room on the way is none for the whole
  pub set_full : (v u : Fixed S) (a b c : S) (pairs : List Pair) (i : ℕ) (p : Pair) (key value : List ℕ) → i < length pairs → p ≡ get_or pairs i p → key ≡ p.key → value ≡ p.value → Writes s (Only 0) (Means s) (all_set (width_of v) (max_id_of v) (take i pairs)) v u a b → SameShape v u → ((m : Array) → Means s u b m → HasNoRoom (s.limit c 0) (s.log_full c) (end_of (width_of u) (greatest (set_at (width_of u) m (id_of (max_id_of u) m key) value)))) → (m : Array) → Means s v a m → HasNoRoom (s.limit c 0) (s.log_full c) (end_of (width_of v) (greatest (all_set (width_of v) (max_id_of v) pairs m)))
  set_full v u a b c pairs i p key value lt is named given first same full m means =
      let width = width_of v in
      let most = max_id_of v in
      let here : HasNoRoom (s.limit c 0) (s.log_full c) (end_of width (greatest (all_set width most (take (i + 1) pairs) m))) = subst (λ (n : ℕ). HasNoRoom (s.limit c 0) (s.log_full c) n)
      ((λ j. end_of (same.width j) (greatest (set_at (same.width j) (all_set (width_of v) (max_id_of v) (take i pairs) m) (id_of (same_most v u same j) (all_set (width_of v) (max_id_of v) (take i pairs) m) (named j)) (given j))))
      ∙ ap (λ n. end_of width (greatest n)) (set_on width most pairs i p m lt is)) (full (all_set width most (take i pairs) m) (first.means m means)) in
      let whole : all_set width most pairs m ≡ all_set width most (drop (i + 1) pairs) (all_set width most (take (i + 1) pairs) m) = ap (λ l. all_set width most l m) (parted pairs i p lt is ∙ ap (λ l. l ++ drop (i + 1) pairs) (sym (one_more pairs i p lt is))) ∙ fold-append (set_named width most) m (take (i + 1) pairs) (drop (i + 1) pairs) in
      let more : greatest (all_set width most (take (i + 1) pairs) m) ≤ greatest (all_set width most pairs m) = subst (λ n. greatest (all_set width most (take (i + 1) pairs) m) ≤ greatest n) (sym whole) (grows width most (drop (i + 1) pairs) (all_set width most (take (i + 1) pairs) m)) in
      let ends : end_of width (greatest (all_set width most (take (i + 1) pairs) m)) ≤ end_of width (greatest (all_set width most pairs m)) = search (arith, more) in
      ⊎_elim (λ past. inl (omega (arith, past, ends))) (λ logged. inr logged) here

  pub nothing_set : (v : Fixed S) (a : S) → s.sound a → Writes s (Only 0) (Means s) (λ m. m) v v a a
  nothing_set v a sound = record { sound = sound; means = λ m means. means; others = record { same = λ t g other. refl } }
