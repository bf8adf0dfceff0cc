-- Leaves that were seen.
use Rattle.std.proofs.Common.{◌≡◌, ◌↔◌, ℕ, suc, ◌+◌, ◌-◌, ◌<◌, ◌≤◌, List, [], ◌∷◌, ◌++◌, Bool, true, false, Option, Some, None, leb, length, map, refl, sym, ap, ◌∙◌, subst, ⊎_elim, arith, length-append}
use Rattle.std.specs.Prelude.{IsTrue, ◌&&◌, not, option_to_list}
use Rattle.std.specs.Option.{option_eq}
use Rattle.std.proofs.Math.Dec.{eqb}
use Rattle.std.proofs.lemmas.Bool.{le-leb, lt-leb, cases_lt, eqb-true}
use Rattle.std.proofs.lemmas.List.{append-nil}
use Rattle.std.proofs.lemmas.Grind.{flat_map-append}
use Rattle.bt_rows.specs.declared.head.TreeHead.{TreeHead}
use Rattle.bt_rows.specs.declared.page.LeafAt.{LeafAt}
use Rattle.bt_rows.specs.Orders.{Before}
use Rattle.bt_rows.specs.declared.page.Slot.{Slot}
use Rattle.tc_base.specs.declared.seq.Pair.{Pair}
use Rattle.bt_rows.specs.Pages.{PageMap}
use Rattle.bt_rows.specs.Rows.{first_id, last_id, held, leaf_at, leaves_among}
use Rattle.bt_check.proofs.Walked.{among-append, there_front, there_last}
use Rattle.bt_rows.specs.Rules.{InLeaf, IsBelow, InOrder, IsLinked, B7, pairs_of, leaf_pairs}
use Rattle.bt_check.specs.Leaves.{EndAscends, IsBehind, IsTied, IsClosed, AreTied, last_at, less, last_leaf, IsSeen, Sees}
use Rattle.bt_check.specs.Walks.{AreThere}
use Rattle.bt_check.specs.declared.leaves.Seen.{Seen}
use Rattle.bt_check.specs.declared.rows.Placed.{Placed}
use Rattle.bt_check.proofs.Orders.{IsTransitive, all_below, order_end, order_front, order_last, order_two}

-- ---- numbers

pub less_less : (o : Option ℕ) (a b : ℕ) → less (less o a) b ≡ less o (a + b)
less_less None a b = refl
less_less (Some k) a b = ⊎_elim
    (λ (short : k < a). let e : leb a k ≡ false = lt-leb a k short in let f : leb (a + b) k ≡ false = lt-leb (a + b) k (omega (arith, short)) in rw (e, f) refl)
    (λ (le : a ≤ k). let e : leb a k ≡ true = le-leb a k le in rw e (⊎_elim
    (λ (short : k - a < b). let f : leb b (k - a) ≡ false = lt-leb b (k - a) short in let g : leb (a + b) k ≡ false = lt-leb (a + b) k (omega (arith, short, le)) in rw (f, g) refl)
    (λ (more : b ≤ k - a). let f : leb b (k - a) ≡ true = le-leb b (k - a) more in let g : leb (a + b) k ≡ true = le-leb (a + b) k (omega (arith, more, le)) in rw (f, g) (ap (λ (n : ℕ). Some n) (omega (arith, le))))
    (cases_lt (k - a) b)))
    (cases_lt k a)

pub less_all : (p n : ℕ) → less (Some p) n ≡ Some 0 → p ≡ n
less_all p n e = ⊎_elim
    (λ (short : p < n). absurd (let f : leb n p ≡ false = lt-leb n p short in let g : less (Some p) n ≡ None = rw f refl in let bad = sym g ∙ e in cc))
    (λ (le : n ≤ p). let f : leb n p ≡ true = le-leb n p le in let g : less (Some p) n ≡ Some (p - n) = rw f refl in let zero_left : p - n ≡ 0 = let both = sym g ∙ e in cc in omega (arith, zero_left, le))
    (cases_lt p n)

pub less_self : (p n : ℕ) → p ≡ n → less (Some p) n ≡ Some 0
less_self p n e = let f : leb n p ≡ true = le-leb n p (omega (arith, e)) in rw f (ap (λ (k : ℕ). Some k) (omega (arith, e)))

-- the test whether none is left
pub not_zero : (o : Option ℕ) → true ≡ not (option_eq eqb o (Some 0)) → o ≡ Some 0 → ⊥
not_zero o t e = let bad = t ∙ ap (λ (p : Option ℕ). not (option_eq eqb p (Some 0))) e in cc

pub is_zero : (o : Option ℕ) → false ≡ not (option_eq eqb o (Some 0)) → o ≡ Some 0
is_zero None t = cc
is_zero (Some k) t = (elim (eqb k 0) as (λ b. eqb k 0 ≡ b → false ≡ not b → Some k ≡ Some 0) [
  | true ↦ λ e t. ap (λ (n : ℕ). Some n) (eqb-true k 0 e)
  | false ↦ λ e t. cc
]) refl t

-- ---- one leaf more

last_end : (o : Option LeafAt) (ls : List LeafAt) (m : LeafAt) → last_leaf o (ls ++ m ∷ []) ≡ Some m
last_end o [] m = refl
last_end o (l ∷ ls) m = last_end (Some l) ls m

tied_end : (h : TreeHead) (o : Option LeafAt) (ls : List LeafAt) (m : LeafAt) → AreTied h o ls → IsTied h (last_leaf o ls) m → AreTied h o (ls ++ m ∷ [])
tied_end h o [] m a t = (t, tt)
tied_end h o (l ∷ ls) m a t = (a.0, tied_end h (Some l) ls m a.1 t)

tied_back : (h : TreeHead) (o : Option LeafAt) (ls : List LeafAt) (m : LeafAt) → AreTied h o (ls ++ m ∷ []) → AreTied h o ls × IsTied h (last_leaf o ls) m
tied_back h o [] m a = (tt, a.0)
tied_back h o (l ∷ ls) m a = let rest = tied_back h (Some l) ls m a.1 in ((a.0, rest.0), rest.1)

-- a list is empty, or has a last one
data Ends (ls : List LeafAt) : Type 0 where
  none : ls ≡ [] → Ends ls
  some : (front : List LeafAt) (l : LeafAt) → ls ≡ front ++ l ∷ [] → Ends ls

ends : (ls : List LeafAt) → Ends ls
ends [] = none refl
ends (l ∷ ls) = go (ends ls)
  where
    go : Ends ls → Ends (l ∷ ls)
    go (none e) = some [] l (ap (λ (t : List LeafAt). l ∷ t) e)
    go (some front m e) = some (l ∷ front) m (ap (λ (t : List LeafAt). l ∷ t) e)

module _ (before : Before) (trans : IsTransitive before) where
  behind_to : (ls : List LeafAt) (m : LeafAt) → InOrder before ls → IsBehind before (last_leaf None ls) m → InOrder before (ls ++ m ∷ [])
  behind_to ls m o b = go (ends ls)
    where
      go : Ends ls → InOrder before (ls ++ m ∷ [])
      go (none e) = subst (λ (t : List LeafAt). InOrder before (t ++ m ∷ [])) (sym e) (subst (λ (l : Option LeafAt). IsBehind before l m) (ap (last_leaf None) e) b, tt, tt)
      go (some front l e) =
          let k : InLeaf before m × IsBelow before l m = subst (λ (l : Option LeafAt). IsBehind before l m) (ap (last_leaf None) e ∙ last_end None front l) b in
          let o' : InOrder before (front ++ l ∷ []) = subst (InOrder before) e o in
          subst (λ (t : List LeafAt). InOrder before (t ++ m ∷ [])) (sym e) (order_end before trans (front ++ l ∷ []) m o' (all_below before trans front l m o' k.1) k.0)

  behind_from : (ls : List LeafAt) (m : LeafAt) → InOrder before (ls ++ m ∷ []) → InOrder before ls × IsBehind before (last_leaf None ls) m
  behind_from ls m o = (order_front before trans ls (m ∷ []) o, go (ends ls))
    where
      go : Ends ls → IsBehind before (last_leaf None ls) m
      go (none e) = subst (λ (l : Option LeafAt). IsBehind before l m) (sym (ap (last_leaf None) e)) (order_last before trans ls m o)
      go (some front l e) = subst (λ (l : Option LeafAt). IsBehind before l m) (sym (ap (last_leaf None) e ∙ last_end None front l))
          (order_last before trans ls m o, order_two before trans front l m (subst (λ (t : List LeafAt). InOrder before (t ++ m ∷ [])) e o))

  ends_ascend : (ls : List LeafAt) → InOrder before ls → EndAscends before (last_leaf None ls)
  ends_ascend ls o = go (ends ls)
    where
      go : Ends ls → EndAscends before (last_leaf None ls)
      go (none e) = subst (EndAscends before) (sym (ap (last_leaf None) e)) tt
      go (some front l e) = subst (EndAscends before) (sym (ap (last_leaf None) e ∙ last_end None front l)) (order_last before trans front l (subst (InOrder before) e o)).ascends

  -- the last of leaves that are in order has keys that ascend
  pub end_ascends : (h : TreeHead) (ls : List LeafAt) (s : Seen) → IsSeen before h ls s → IsTrue s.ordered → EndAscends before (last_at s.last)
  end_ascends h ls s seen o = subst (EndAscends before) (sym seen.last_is) (ends_ascend ls (seen.in_order.0 o))

  pub seen_none : (h : TreeHead) → IsSeen before h [] (record { last = None; ordered = true; linked = true; left = Some h.pairs })
  seen_none h = record { last_is = refl; in_order = (λ _. tt, λ _. refl); tied = (λ _. tt, λ _. refl); rest = sym (less_zero h.pairs) }
    where
      less_zero : (p : ℕ) → less (Some p) 0 ≡ Some p
      less_zero p = let e : leb 0 p ≡ true = le-leb 0 p (omega arith) in rw e (ap (λ (k : ℕ). Some k) (omega arith))

  pub seen_more : (h : TreeHead) (ls : List LeafAt) (m : LeafAt) (old new : Seen) → IsSeen before h ls old
      → last_at new.last ≡ Some m → (IsTrue new.ordered ↔ (IsTrue old.ordered × IsBehind before (last_at old.last) m)) → (IsTrue new.linked ↔ (IsTrue old.linked × IsTied h (last_at old.last) m)) → new.left ≡ less old.left (length (leaf_pairs m)) → IsSeen before h (ls ++ m ∷ []) new
  seen_more h ls m old new s is o t n = record {
    last_is = is ∙ sym (last_end None ls m);
    in_order = (
      λ e. let b = o.0 e in behind_to ls m (s.in_order.0 b.0) (subst (λ (l : Option LeafAt). IsBehind before l m) s.last_is b.1),
      λ e. let b = behind_from ls m e in o.1 (s.in_order.1 b.0, subst (λ (l : Option LeafAt). IsBehind before l m) (sym s.last_is) b.1),
    );
    tied = (
      λ e. let b = t.0 e in tied_end h None ls m (s.tied.0 b.0) (subst (λ (l : Option LeafAt). IsTied h l m) s.last_is b.1),
      λ e. let b = tied_back h None ls m e in t.1 (s.tied.1 b.0, subst (λ (l : Option LeafAt). IsTied h l m) (sym s.last_is) b.1),
    );
    rest = n ∙ ap (λ (o : Option ℕ). less o (length (leaf_pairs m))) s.rest ∙ less_less (Some h.pairs) (length (pairs_of ls)) (length (leaf_pairs m))
        ∙ ap (less (Some h.pairs)) (sym (length-append (pairs_of ls) (leaf_pairs m)) ∙ ap (λ t. length t) (ap (λ t. pairs_of ls ++ t) (sym (append-nil (leaf_pairs m))) ∙ sym (flat_map-append leaf_pairs ls (m ∷ []))));
  }

-- what stands in one place more was seen
pub seen_at : (before : Before) (h : TreeHead) (pages : PageMap) (front : List Slot) (s : Slot) (there : Option Placed) (old new : Seen) → Sees before h (option_to_list (last_at there)) old new → (held pages s.id ≡ 1 → option_to_list (last_at there) ≡ leaf_at s (pages s.id))
    → (AreThere pages front → IsSeen before h (leaves_among pages front) old) → AreThere pages (front ++ s ∷ []) → IsSeen before h (leaves_among pages (front ++ s ∷ [])) new
seen_at before h pages front s there old new sees is so_far are =
    subst (λ (ls : List LeafAt). IsSeen before h ls new)
    (sym (among-append pages front (s ∷ []) ∙ ap (λ t. leaves_among pages front ++ t) (append-nil (leaf_at s (pages s.id)) ∙ sym (is (there_last pages front s are)))))
    (sees (leaves_among pages front) (so_far (there_front pages front s are)))

-- ---- in the end

abbrev id_of : Option LeafAt → ℕ
id_of None = 0
id_of (Some l) = l.slot.id

links_to : (h : TreeHead) (o : Option LeafAt) (ls : List LeafAt) → AreTied h o ls → IsClosed h (last_leaf o ls) → IsLinked (id_of o) ls
links_to h o [] a c = tt
links_to h None (l ∷ ls) a c = (a.0.0, next_to h l ls a.1 c, links_to h (Some l) ls a.1 c)
  where
    next_to : (h : TreeHead) (l : LeafAt) (ls : List LeafAt) → AreTied h (Some l) ls → IsClosed h (last_leaf (Some l) ls) → l.leaf.next ≡ first_id ls
    next_to h l [] a c = c.0
    next_to h l (m ∷ ls) a c = a.0.1
links_to h (Some k) (l ∷ ls) a c = (a.0.0, next_to h l ls a.1 c, links_to h (Some l) ls a.1 c)
  where
    next_to : (h : TreeHead) (l : LeafAt) (ls : List LeafAt) → AreTied h (Some l) ls → IsClosed h (last_leaf (Some l) ls) → l.leaf.next ≡ first_id ls
    next_to h l [] a c = c.0
    next_to h l (m ∷ ls) a c = a.0.1

last_to : (h : TreeHead) (l : LeafAt) (ls : List LeafAt) → IsClosed h (last_leaf (Some l) ls) → h.last ≡ last_id l.slot.id ls
last_to h l [] c = c.1
last_to h l (m ∷ ls) c = last_to h m ls c

pub rule_to : (h : TreeHead) (ls : List LeafAt) → AreTied h None ls → IsClosed h (last_leaf None ls) → B7 h ls
rule_to h [] a c = record { first = c.0; last = c.1; links = tt }
rule_to h (l ∷ ls) a c = record { first = a.0.1; last = last_to h l ls c; links = links_to h None (l ∷ ls) a c }

tied_from : (h : TreeHead) (k : LeafAt) (ls : List LeafAt) → k.leaf.next ≡ first_id ls → IsLinked k.slot.id ls → AreTied h (Some k) ls
tied_from h k [] e l = tt
tied_from h k (m ∷ ls) e l = ((l.0, e), tied_from h m ls l.1 l.2)

closed_from : (h : TreeHead) (k : LeafAt) (ls : List LeafAt) → k.leaf.next ≡ first_id ls → h.last ≡ last_id k.slot.id ls → IsLinked k.slot.id ls → IsClosed h (last_leaf (Some k) ls)
closed_from h k [] e last l = (e, last)
closed_from h k (m ∷ ls) e last l = closed_from h m ls l.1 last l.2

pub rule_from : (h : TreeHead) (ls : List LeafAt) → B7 h ls → AreTied h None ls × IsClosed h (last_leaf None ls)
rule_from h [] b = (tt, (b.first, b.last))
rule_from h (l ∷ ls) b = (((b.links.0, b.first), tied_from h l ls b.links.1 b.links.2), closed_from h l ls b.links.1 b.last b.links.2)

-- ---- the values of items

abbrev pair_of : List ℕ → List ℕ → Pair
pair_of key v = record { key = key; value = v }

pub count_none : (o : Option ℕ) → o ≡ less o 0
count_none None = refl
count_none (Some k) = let e : leb 0 k ≡ true = le-leb 0 k (omega arith) in rw e (ap (λ (n : ℕ). Some n) (omega arith))

pub values_count : (key : List ℕ) (values : List (List ℕ)) → length (map (pair_of key) values) ≡ length values
values_count key [] = refl
values_count key (v ∷ vs) = ap suc (values_count key vs)

-- the second need tell only where the first holds
pub and_if : (a b : Bool) (P : Type 0) → (IsTrue a → IsTrue b ↔ P) → IsTrue (a && b) ↔ (IsTrue a × P)
and_if true b P h = let own = h refl in (λ e. (refl, own.0 e), λ p. own.1 p.1)
and_if false b P h = (λ e. absurd cc, λ p. absurd (let e = p.0 in cc))

pub and_iff : (a b : Bool) (P : Type 0) → IsTrue b ↔ P → IsTrue (a && b) ↔ (IsTrue a × P)
and_iff a b P h = and_if a b P (λ t. h)
