-- The bytes that connections took, one of them changed.
use Rattle.std.proofs.Common.{◌≡◌, ℕ, suc, ◌+◌, ◌<◌, ◌≤◌, Bool, true, false, cond, List, [], ◌∷◌, ◌++◌, length, get_or, refl, sym, ap, subst, ◌∙◌, arith, eq-eqb, inl, inr, not, set}
use Rattle.std.specs.Prelude.{Option, Some, None, nat_eq}
use Rattle.std.specs.List.{position, position_or_len}
use Rattle.std.proofs.lemmas.Bool.{ltb-true, ltb-false, eqb-true, cond-true, cond-false}
use Rattle.tc_base.proofs.ExactFields.{chosen}
use Rattle.tc_fakes.specs.declared.peers.Peer.{Peer}
use Rattle.tc_fakes.specs.Peers.{bytes_to}

abbrev pub is : ℕ → Peer → Bool
is c p = nat_eq p.conn c

some_of : (b : Bool) (i k : ℕ) → ◌≡◌ {A = Option ℕ} (Some i) (cond b (Some k) None) → (b ≡ true) × (i ≡ k)
some_of true i k e = (refl, cc)
some_of false i k e = absurd cc

none_of : (b : Bool) (k : ℕ) → ◌≡◌ {A = Option ℕ} None (cond b (Some k) None) → b ≡ false
none_of true k e = absurd cc
none_of false k e = refl

pub found_at : (c : ℕ) (ps : List Peer) (i : ℕ) → Some i ≡ position (is c) ps → (i < length ps) × (i ≡ position_or_len (is c) ps)
found_at c ps i e =
    let s = some_of _ i _ e in
    (subst (λ (n : ℕ). n < length ps) (sym s.1) (ltb-true _ _ s.0), s.1)

pub not_found : (c : ℕ) (ps : List Peer) → None ≡ position (is c) ps → length ps ≤ position_or_len (is c) ps
not_found c ps e = ltb-false _ _ (none_of _ _ e)

step : (c : ℕ) (p : Peer) (ps : List Peer) → position_or_len (is c) (p ∷ ps) ≡ cond (is c p) 0 (position_or_len (is c) ps + 1)
step c p ps = by_test (nat_eq p.conn c) (position_or_len (is c) ps)
  where
    by_test : (b : Bool) (n : ℕ) → cond (not b) (1 + n) 0 ≡ cond b 0 (n + 1)
    by_test true n = refl
    by_test false n = omega arith

-- what stands at the place of a connection
pub bytes_at : (c : ℕ) (ps : List Peer) (d : Peer) (i : ℕ) → i < length ps → i ≡ position_or_len (is c) ps → bytes_to c ps ≡ (get_or ps i d).taken.items
bytes_at c [] d i lt e = absurd (omega arith)
bytes_at c (p ∷ ps) d i lt e = elim (chosen (is c p) 0 (position_or_len (is c) ps + 1) i (sym (e ∙ step c p ps))) [
  | inl h ↦ cond-true _ _ _ h.0 ∙ ap (λ (k : ℕ). (get_or (p ∷ ps) k d).taken.items) h.1
  | inr h ↦
      let tail = bytes_at c ps d (position_or_len (is c) ps) (omega (arith, lt, h.1)) refl in
      let at : suc (position_or_len (is c) ps) ≡ i = omega (arith, h.1) in
      cond-false _ _ _ h.0 ∙ tail ∙ ap (λ (k : ℕ). (get_or (p ∷ ps) k d).taken.items) at
]

pub none_taken : (c : ℕ) (ps : List Peer) → length ps ≤ position_or_len (is c) ps → bytes_to c ps ≡ []
none_taken c [] le = refl
none_taken c (p ∷ ps) le = elim (chosen (is c p) 0 (position_or_len (is c) ps + 1) (position_or_len (is c) (p ∷ ps)) (sym (step c p ps))) [
  | inl h ↦ absurd (omega (arith, le, h.1))
  | inr h ↦ cond-false _ _ _ h.0 ∙ none_taken c ps (omega (arith, le, h.1))
]

pub conn_at : (c : ℕ) (ps : List Peer) (d : Peer) (i : ℕ) → i < length ps → i ≡ position_or_len (is c) ps → (get_or ps i d).conn ≡ c
conn_at c [] d i lt e = absurd (omega arith)
conn_at c (p ∷ ps) d i lt e = elim (chosen (is c p) 0 (position_or_len (is c) ps + 1) i (sym (e ∙ step c p ps))) [
  | inl h ↦ ap (λ (k : ℕ). (get_or (p ∷ ps) k d).conn) (sym h.1) ∙ eqb-true p.conn c h.0
  | inr h ↦
      let tail = conn_at c ps d (position_or_len (is c) ps) (omega (arith, lt, h.1)) refl in
      let at : suc (position_or_len (is c) ps) ≡ i = omega (arith, h.1) in
      ap (λ (k : ℕ). (get_or (p ∷ ps) k d).conn) (sym at) ∙ tail
]

-- a connection is found under one test alone
by_tests : (x y z : List ℕ) (a b : Bool) → (a ≡ true → b ≡ true → ⊥) → cond a x (cond b y z) ≡ cond b y (cond a x z)
by_tests x y z true true never = absurd (never refl refl)
by_tests x y z true false never = refl
by_tests x y z false b never = refl

either_test : (c k : ℕ) (p : Peer) (x y z : List ℕ) → nat_eq p.conn c ≡ false → cond (nat_eq p.conn k) x (cond (nat_eq c k) y z) ≡ cond (nat_eq c k) y (cond (nat_eq p.conn k) x z)
either_test c k p x y z other = by_tests x y z (nat_eq p.conn k) (nat_eq c k) (λ a b. absurd (let e : nat_eq p.conn c ≡ true = eq-eqb _ _ (eqb-true _ _ a ∙ sym (eqb-true _ _ b)) in cc))

same_test : (b : Bool) (x y z : List ℕ) → cond b x y ≡ cond b x (cond b z y)
same_test true x y z = refl
same_test false x y z = refl

pub changed : (c k : ℕ) (ps : List Peer) (i : ℕ) (q : Peer) → i < length ps → i ≡ position_or_len (is c) ps → q.conn ≡ c → bytes_to k (set ps i q) ≡ cond (nat_eq c k) q.taken.items (bytes_to k ps)
changed c k [] i q lt e named = absurd (omega arith)
changed c k (p ∷ ps) i q lt e named = elim (chosen (is c p) 0 (position_or_len (is c) ps + 1) i (sym (e ∙ step c p ps))) [
  | inl h ↦
      ap (λ (j : ℕ). bytes_to k (set (p ∷ ps) j q)) (sym h.1)
      ∙ ap (λ (n : ℕ). cond (nat_eq n k) q.taken.items (bytes_to k ps)) named
      ∙ same_test (nat_eq c k) q.taken.items (bytes_to k ps) p.taken.items
      ∙ ap (λ (n : ℕ). cond (nat_eq c k) q.taken.items (cond (nat_eq n k) p.taken.items (bytes_to k ps))) (sym (eqb-true p.conn c h.0))
  | inr h ↦
      let tail = changed c k ps (position_or_len (is c) ps) q (omega (arith, lt, h.1)) refl named in
      let at : suc (position_or_len (is c) ps) ≡ i = omega (arith, h.1) in
      ap (λ (j : ℕ). bytes_to k (set (p ∷ ps) j q)) (sym at)
      ∙ ap (λ (l : List ℕ). cond (nat_eq p.conn k) p.taken.items l) tail
      ∙ either_test c k p p.taken.items q.taken.items (bytes_to k ps) h.0
]

pub pushed : (c k : ℕ) (ps : List Peer) (q : Peer) → length ps ≤ position_or_len (is c) ps → q.conn ≡ c → bytes_to k (ps ++ q ∷ []) ≡ cond (nat_eq c k) q.taken.items (bytes_to k ps)
pushed c k [] q le named = ap (λ (n : ℕ). cond (nat_eq n k) q.taken.items []) named
pushed c k (p ∷ ps) q le named = elim (chosen (is c p) 0 (position_or_len (is c) ps + 1) (position_or_len (is c) (p ∷ ps)) (sym (step c p ps))) [
  | inl h ↦ absurd (omega (arith, le, h.1))
  | inr h ↦
      ap (λ (l : List ℕ). cond (nat_eq p.conn k) p.taken.items l) (pushed c k ps q (omega (arith, le, h.1)) named)
      ∙ either_test c k p p.taken.items q.taken.items (bytes_to k ps) h.0
]

by_test : (b : Bool) (x y z : List ℕ) → (b ≡ true → x ≡ y) → cond b x z ≡ cond b y z
by_test true x y z h = h refl
by_test false x y z h = refl

no_test : (b : Bool) (x : List ℕ) → cond b x x ≡ x
no_test true x = refl
no_test false x = refl

-- what a connection took grew, and that of others stays
grown : (c k : ℕ) (now bytes : List ℕ) (ps : List Peer) → now ≡ bytes_to c ps ++ bytes → cond (nat_eq c k) now (bytes_to k ps) ≡ cond (nat_eq c k) (bytes_to k ps ++ bytes) (bytes_to k ps)
grown c k now bytes ps e = by_test (nat_eq c k) now (bytes_to k ps ++ bytes) (bytes_to k ps) (λ t. e ∙ ap (λ (n : ℕ). bytes_to n ps ++ bytes) (eqb-true c k t))

pub grown_at : (c k i : ℕ) (view ps : List Peer) (old q : Peer) (bytes : List ℕ) → view ≡ ps → Some i ≡ position (is c) view → old ≡ get_or ps i old → q.conn ≡ old.conn → q.taken.items ≡ old.taken.items ++ bytes
    → bytes_to k (set ps i q) ≡ cond (nat_eq c k) (bytes_to k ps ++ bytes) (bytes_to k ps)
grown_at c k i view ps old q bytes same at there named more =
    let f = found_at c ps i (at ∙ ap (position (is c)) same) in
    let was : old.taken.items ≡ bytes_to c ps = ap (λ (p : Peer). p.taken.items) there ∙ sym (bytes_at c ps old i f.0 f.1) in
    changed c k ps i q f.0 f.1 (named ∙ ap (λ (p : Peer). p.conn) there ∙ conn_at c ps old i f.0 f.1) ∙ grown c k q.taken.items bytes ps (more ∙ ap (λ (l : List ℕ). l ++ bytes) was)

pub kept_at : (c k i : ℕ) (view ps : List Peer) (old q : Peer) → view ≡ ps → Some i ≡ position (is c) view → old ≡ get_or ps i old → q.conn ≡ old.conn → q.taken.items ≡ old.taken.items → bytes_to k (set ps i q) ≡ bytes_to k ps
kept_at c k i view ps old q same at there named more =
    let f = found_at c ps i (at ∙ ap (position (is c)) same) in
    let was : old.taken.items ≡ bytes_to c ps = ap (λ (p : Peer). p.taken.items) there ∙ sym (bytes_at c ps old i f.0 f.1) in
    changed c k ps i q f.0 f.1 (named ∙ ap (λ (p : Peer). p.conn) there ∙ conn_at c ps old i f.0 f.1)
    ∙ by_test (nat_eq c k) q.taken.items (bytes_to k ps) (bytes_to k ps) (λ t. more ∙ was ∙ ap (λ (n : ℕ). bytes_to n ps) (eqb-true c k t)) ∙ no_test (nat_eq c k) (bytes_to k ps)

pub grown_by : (c k : ℕ) (view ps now : List Peer) (q : Peer) (bytes : List ℕ) → view ≡ ps → None ≡ position (is c) view → q.conn ≡ c → q.taken.items ≡ bytes → now ≡ ps ++ q ∷ [] → bytes_to k now ≡ cond (nat_eq c k) (bytes_to k ps ++ bytes) (bytes_to k ps)
grown_by c k view ps now q bytes same at named all more =
    let none = not_found c ps (at ∙ ap (position (is c)) same) in
    ap (bytes_to k) more ∙ pushed c k ps q none named ∙ grown c k q.taken.items bytes ps (all ∙ ap (λ (l : List ℕ). l ++ bytes) (sym (none_taken c ps none)))
