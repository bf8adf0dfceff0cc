-- One connection among the others, by its number.
use Rattle.std.proofs.Common.{◌≡◌, ◌<◌, ◌≤◌, ◌+◌, ℕ, zero, suc, Bool, true, false, List, [], ◌∷◌, ◌++◌, length, get_or, set, take, map, refl, sym, ap, subst, ◌∙◌, arith, eq-eqb}
use Rattle.std.specs.Prelude.{◌||◌, nat_eq, Some, slice_get}
use Rattle.std.specs.List.{list_any}
use Rattle.std.proofs.lemmas.Bool.{eqb-true, cond-false, cond-true, or_from, or_parts}
use Rattle.std.proofs.Math.Seq.{take-suc}
use Rattle.std.proofs.lemmas.List.{take_all}
use Rattle.ty_world.specs.World.{Client, at_conn}
use Rattle.ty_rounds.specs.Peers.{numbers}
use Rattle.ty_rounds.specs.Books.{Book}
use Rattle.ty_rounds.specs.Holding.{Holds, AllHold, AreApart, Wired}
use Rattle.ty_rounds.specs.declared.peer.Peer.{Peer}

pub eq_swap : (a b : ℕ) → nat_eq a b ≡ false → nat_eq b a ≡ false
eq_swap a b e = go (nat_eq b a) refl
  where
    go : (x : Bool) → nat_eq b a ≡ x → nat_eq b a ≡ false
    go false is = is
    go true is = absurd (let f : nat_eq a b ≡ true = eq-eqb a b (sym (eqb-true b a is)) in cc)

-- none of them has that number
pub others_hold : (b : Book) (c : ℕ) (f : Client → Client) (ps : List Peer) (ks : List Client) → list_any (nat_eq c) (numbers ps) ≡ false → AllHold b ps ks → AllHold b ps (map (at_conn c f) ks)
others_hold b c f [] [] none a = tt
others_hold b c f [] (k ∷ ks) none a = absurd a
others_hold b c f (p ∷ ps) [] none a = absurd a
others_hold b c f (p ∷ ps) (k ∷ ks) none a =
    let s = or_parts (nat_eq c p.conn) (list_any (nat_eq c) (numbers ps)) none in
    (subst (λ (z : Client). Holds b p z) (sym (cond-false (nat_eq k.conn c) (f k) k (ap (λ (n : ℕ). nat_eq n c) a.0.conn ∙ eq_swap c p.conn s.0))) a.0, others_hold b c f ps ks s.1 a.1)

apart_at : (x : Peer) (ps : List Peer) (i : ℕ) (p : Peer) → list_any (nat_eq x.conn) (numbers ps) ≡ false → i < length ps → p ≡ get_or ps i p → nat_eq x.conn p.conn ≡ false
apart_at x [] i p none lt is = absurd (omega (arith, lt))
apart_at x (y ∷ ps) zero p none lt is = ap (λ (z : Peer). nat_eq x.conn z.conn) is ∙ (or_parts (nat_eq x.conn y.conn) (list_any (nat_eq x.conn) (numbers ps)) none).0
apart_at x (y ∷ ps) (suc i) p none lt is = apart_at x ps i p (or_parts (nat_eq x.conn y.conn) (list_any (nat_eq x.conn) (numbers ps)) none).1 (omega (arith, lt)) is

-- the one of that number has changed, and with it what it stands for
pub set_holds : (b : Book) (c : ℕ) (f : Client → Client) (ps : List Peer) (ks : List Client) (i : ℕ) (p q : Peer) → AreApart (numbers ps) → i < length ps → p ≡ get_or ps i p → p.conn ≡ c → ((k : Client) → Holds b p k → Holds b q (f k)) → AllHold b ps ks
    → AllHold b (set ps i q) (map (at_conn c f) ks)
set_holds b c f [] ks i p q apart lt is named one a = absurd (omega (arith, lt))
set_holds b c f (x ∷ ps) [] i p q apart lt is named one a = absurd a
set_holds b c f (x ∷ ps) (k ∷ ks) zero p q apart lt is named one a =
    let there : x.conn ≡ c = ap (λ (z : Peer). z.conn) (sym is) ∙ named in (
      subst (λ (z : Client). Holds b q z) (sym (cond-true (nat_eq k.conn c) (f k) k (eq-eqb k.conn c (a.0.conn ∙ there)))) (one k (subst (λ (z : Peer). Holds b z k) (sym is) a.0)),
      others_hold b c f ps ks (ap (λ (n : ℕ). list_any (nat_eq n) (numbers ps)) (sym there) ∙ apart.0) a.1,
    )
set_holds b c f (x ∷ ps) (k ∷ ks) (suc i) p q apart lt is named one a =
    let away : nat_eq x.conn c ≡ false = ap (nat_eq x.conn) (sym named) ∙ apart_at x ps i p apart.0 (omega (arith, lt)) is in (
      subst (λ (z : Client). Holds b x z) (sym (cond-false (nat_eq k.conn c) (f k) k (ap (λ (n : ℕ). nat_eq n c) a.0.conn ∙ away))) a.0,
      set_holds b c f ps ks i p q apart.1 (omega (arith, lt)) is named one a.1,
    )

pub take_next : (ps : List Peer) (i : ℕ) (p : Peer) → i < length ps → p ≡ get_or ps i p → take (i + 1) ps ≡ take i ps ++ p ∷ []
take_next ps i p lt is = (let e : i + 1 ≡ suc i = omega arith in ap (λ (n : ℕ). take n ps) e) ∙ take-suc ps i p lt ∙ ap (λ (x : Peer). take i ps ++ x ∷ []) (sym is)

-- ---- where it is read

pub got : (ps : List Peer) (i : ℕ) (x d : Peer) → slice_get ps i ≡ Some x → get_or ps i d ≡ x
got [] i x d e = absurd cc
got (y ∷ ps) zero x d e = cc
got (y ∷ ps) (suc i) x d e = got ps i x d e

pub within : (ps : List Peer) (i : ℕ) (x : Peer) → slice_get ps i ≡ Some x → i < length ps
within [] i x e = absurd cc
within (y ∷ ps) zero x e = omega arith
within (y ∷ ps) (suc i) x e = let h = within ps i x e in omega (arith, h)

-- ---- a search from the front

any_push : (c : ℕ) (ps : List Peer) (p : Peer) → list_any (nat_eq c) (numbers ps) ≡ false → nat_eq c p.conn ≡ false → list_any (nat_eq c) (numbers (ps ++ p ∷ [])) ≡ false
any_push c [] p none other = or_from (nat_eq c p.conn) false other refl
any_push c (x ∷ ps) p none other = let s = or_parts (nat_eq c x.conn) (list_any (nat_eq c) (numbers ps)) none in or_from (nat_eq c x.conn) (list_any (nat_eq c) (numbers (ps ++ p ∷ []))) s.0 (any_push c ps p s.1 other)

pub not_yet : (c : ℕ) (ps : List Peer) (i : ℕ) (p : Peer) → i < length ps → p ≡ get_or ps i p → nat_eq c p.conn ≡ false → list_any (nat_eq c) (numbers (take i ps)) ≡ false → list_any (nat_eq c) (numbers (take (i + 1) ps)) ≡ false
not_yet c ps i p lt is other none = ap (λ (l : List Peer). list_any (nat_eq c) (numbers l)) (take_next ps i p lt is) ∙ any_push c (take i ps) p none other

pub named : (ps : List Peer) (i : ℕ) (p x : Peer) (c : ℕ) → p ≡ get_or ps i p → slice_get ps i ≡ Some x → x.conn ≡ c → p.conn ≡ c
named ps i p x c is some e = ap (λ (z : Peer). z.conn) (is ∙ got ps i x p some) ∙ e

-- what a search told of a list that is read as another
pub record Found (ps : List Peer) (i c : ℕ) : Type 0 where
  pub below : i < length ps
  pub at : (p : Peer) → p ≡ get_or ps i p → p.conn ≡ c

pub found_there : (qs ps : List Peer) (i c : ℕ) → qs ≡ ps → (x : Peer) × (slice_get qs i ≡ Some x) × (x.conn ≡ c) → Found ps i c
found_there qs ps i c same f =
    let some : slice_get ps i ≡ Some f.0 = ap (λ (l : List Peer). slice_get l i) (sym same) ∙ f.1 in
    record { below = within ps i f.0 some; at = λ p is. named ps i p f.0 c is some f.2 }

pub none_there : (qs ps : List Peer) (c : ℕ) → qs ≡ ps → list_any (nat_eq c) (numbers qs) ≡ false → list_any (nat_eq c) (numbers ps) ≡ false
none_there qs ps c same none = ap (λ (l : List Peer). list_any (nat_eq c) (numbers l)) (sym same) ∙ none

pub none_yet : (c : ℕ) (ps : List Peer) (i : ℕ) → length ps ≤ i → list_any (nat_eq c) (numbers (take i ps)) ≡ false → list_any (nat_eq c) (numbers ps) ≡ false
none_yet c ps i le none = ap (λ (l : List Peer). list_any (nat_eq c) (numbers l)) (sym (take_all i ps le)) ∙ none

-- ---- the wire's connections are the server's

any_at : (ps : List Peer) (i : ℕ) (p : Peer) → i < length ps → p ≡ get_or ps i p → list_any (nat_eq p.conn) (numbers ps) ≡ true
any_at [] i p lt is = absurd (omega (arith, lt))
any_at (x ∷ ps) zero p lt is = first (nat_eq p.conn x.conn) (list_any (nat_eq p.conn) (numbers ps)) (eq-eqb p.conn x.conn (ap (λ (z : Peer). z.conn) is))
  where
    first : (a b : Bool) → a ≡ true → (a || b) ≡ true
    first true b e = refl
    first false b e = absurd cc
any_at (x ∷ ps) (suc i) p lt is = second (nat_eq p.conn x.conn) (list_any (nat_eq p.conn) (numbers ps)) (any_at ps i p (omega (arith, lt)) is)
  where
    second : (a b : Bool) → b ≡ true → (a || b) ≡ true
    second true b e = refl
    second false b e = e

pub open_at : (conns : List ℕ) (ps : List Peer) (i : ℕ) (p : Peer) → i < length ps → p ≡ get_or ps i p → Wired conns ps → list_any (nat_eq p.conn) conns ≡ true
open_at conns ps i p lt is w = ap (list_any (nat_eq p.conn)) w.same ∙ any_at ps i p lt is

pub named_still : (ps : List Peer) (i : ℕ) (p q : Peer) → i < length ps → p ≡ get_or ps i p → q.conn ≡ p.conn → numbers (set ps i q) ≡ numbers ps
named_still [] i p q lt is same = absurd (omega (arith, lt))
named_still (x ∷ ps) zero p q lt is same = ap (λ (n : ℕ). n ∷ numbers ps) (same ∙ ap (λ (z : Peer). z.conn) is)
named_still (x ∷ ps) (suc i) p q lt is same = ap (λ (l : List ℕ). x.conn ∷ l) (named_still ps i p q (omega (arith, lt)) is same)

pub still_wired : (conns conns' : List ℕ) (ps : List Peer) (i : ℕ) (p q : Peer) → i < length ps → p ≡ get_or ps i p → q.conn ≡ p.conn → conns' ≡ conns → Wired conns ps → Wired conns' (set ps i q)
still_wired conns conns' ps i p q lt is named same w = record { same = same ∙ w.same ∙ sym (named_still ps i p q lt is named); apart = subst AreApart (sym same) w.apart }

pub apart_peers : (conns : List ℕ) (ps : List Peer) → Wired conns ps → AreApart (numbers ps)
apart_peers conns ps w = subst AreApart w.same w.apart

-- one place has one connection
pub one_at : (ps : List Peer) (i : ℕ) (p q : Peer) → i < length ps → p ≡ get_or ps i p → q ≡ get_or ps i q → p ≡ q
one_at [] i p q lt e f = absurd (omega (arith, lt))
one_at (x ∷ ps) zero p q lt e f = e ∙ sym f
one_at (x ∷ ps) (suc i) p q lt e f = one_at ps i p q (omega (arith, lt)) e f

-- ---- where the clients of the world are parted at one of them

pub none_of : (b : Book) (c : ℕ) (ps : List Peer) (ks : List Client) → AllHold b ps ks → list_any (nat_eq c) (numbers ps) ≡ false → list_any (λ k. nat_eq k.conn c) ks ≡ false
none_of b c [] [] a e = refl
none_of b c [] (k ∷ ks) a e = absurd a
none_of b c (p ∷ ps) [] a e = absurd a
none_of b c (p ∷ ps) (k ∷ ks) a e =
    let s = or_parts (nat_eq c p.conn) (list_any (nat_eq c) (numbers ps)) e in
    or_from (nat_eq k.conn c) (list_any (λ j. nat_eq j.conn c) ks) (ap (λ (n : ℕ). nat_eq n c) a.0.conn ∙ eq_swap c p.conn s.0) (none_of b c ps ks a.1 s.1)

pub record Split (b : Book) (ks : List Client) (i : ℕ) (p : Peer) : Type 0 where
  pub before : List Client
  pub client : Client
  pub behind : List Client
  pub there : ks ≡ before ++ client ∷ behind
  pub at : length before ≡ i
  pub holds : Holds b p client
  pub alone : list_any (λ k. nat_eq k.conn p.conn) (before ++ behind) ≡ false

pub split_at : (b : Book) (ps : List Peer) (ks : List Client) (i : ℕ) (p : Peer) → AreApart (numbers ps) → i < length ps → p ≡ get_or ps i p → AllHold b ps ks → Split b ks i p
split_at b [] ks i p apart lt is a = absurd (omega (arith, lt))
split_at b (x ∷ ps) [] i p apart lt is a = absurd a
split_at b (x ∷ ps) (k ∷ ks) zero p apart lt is a = record {
  before = [];
  client = k;
  behind = ks;
  there = refl;
  at = refl;
  holds = subst (λ (z : Peer). Holds b z k) (sym is) a.0;
  alone = none_of b p.conn ps ks a.1 (ap (λ (z : Peer). list_any (nat_eq z.conn) (numbers ps)) is ∙ apart.0);
}
split_at b (x ∷ ps) (k ∷ ks) (suc i) p apart lt is a =
    let r = split_at b ps ks i p apart.1 (omega (arith, lt)) is a.1 in
    let away : nat_eq x.conn p.conn ≡ false = apart_at x ps i p apart.0 (omega (arith, lt)) is in
    record {
      before = k ∷ r.before;
      client = r.client;
      behind = r.behind;
      there = ap (λ (l : List Client). k ∷ l) r.there;
      at = ap suc r.at;
      holds = r.holds;
      alone = or_from (nat_eq k.conn p.conn) (list_any (λ j. nat_eq j.conn p.conn) (r.before ++ r.behind)) (ap (λ (n : ℕ). nat_eq n p.conn) a.0.conn ∙ away) r.alone;
    }

-- the one of that number alone changes
pub at_one : (c : ℕ) (f : Client → Client) (before : List Client) (k : Client) (behind : List Client) → k.conn ≡ c → list_any (λ j. nat_eq j.conn c) (before ++ behind) ≡ false → map (at_conn c f) (before ++ k ∷ behind) ≡ before ++ f k ∷ behind
at_one c f [] k behind named alone = λ i. cond-true (nat_eq k.conn c) (f k) k (eq-eqb k.conn c named) i ∷ at_others c f behind alone i
  where
    at_others : (c : ℕ) (f : Client → Client) (ks : List Client) → list_any (λ j. nat_eq j.conn c) ks ≡ false → map (at_conn c f) ks ≡ ks
    at_others c f [] e = refl
    at_others c f (j ∷ ks) e = let s = or_parts (nat_eq j.conn c) (list_any (λ j. nat_eq j.conn c) ks) e in λ i. cond-false (nat_eq j.conn c) (f j) j s.0 i ∷ at_others c f ks s.1 i
at_one c f (j ∷ before) k behind named alone = let s = or_parts (nat_eq j.conn c) (list_any (λ j. nat_eq j.conn c) (before ++ behind)) alone in λ i. cond-false (nat_eq j.conn c) (f j) j s.0 i ∷ at_one c f before k behind named s.1 i

pub same_parts : {A : Type 0} (front back front' back' : List A) → front ++ back ≡ front' ++ back' → length front ≡ length front' → (front ≡ front') × (back ≡ back')
same_parts [] back [] back' e l = (refl, e)
same_parts [] back (y ∷ front') back' e l = absurd (omega (arith, l))
same_parts (x ∷ front) back [] back' e l = absurd (omega (arith, l))
same_parts (x ∷ front) back (y ∷ front') back' e l =
    let first : x ≡ y = cc in
    let rest : front ++ back ≡ front' ++ back' = cc in
    let r = same_parts front back front' back' rest (omega (arith, l)) in
    (λ i. first i ∷ r.0 i, r.1)
