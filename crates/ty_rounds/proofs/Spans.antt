-- Places where no connection stirs are passed by.
use Rattle.std.proofs.Common.{◌≡◌, ◌<◌, ◌≤◌, ◌+◌, ◌-◌, ◌⊎◌, inl, inr, ℕ, zero, suc, Bool, true, false, List, [], ◌∷◌, ◌++◌, length, get_or, set, take, refl, sym, ap, subst, ◌∙◌, arith, length-append, eq-eqb}
use Rattle.std.specs.Prelude.{remove, nat_eq, Option}
use Rattle.std.specs.List.{list_any}
use Rattle.std.proofs.lemmas.Bool.{eqb-true}
use Rattle.tc_io.specs.declared.wire.Wire.{Ghosts}
use Rattle.tc_model.specs.Contents.{Contents, Walk}
use Rattle.tc_space.specs.Frames.{only_reads_refl}
use Rattle.tc_space.specs.declared.space.Space as space
use Rattle.ty_world.specs.World.{Client}
use Rattle.ty_rounds.specs.Books.{Book, settings_of}
use Rattle.ty_rounds.specs.Closings.{ClosesFront}
use Rattle.ty_rounds.specs.Holding.{Wired}
use Rattle.ty_rounds.specs.Peers.{waiting_numbers}
use Rattle.ty_rounds.specs.Ready.{IsCalm, IsQuiet}
use Rattle.ty_rounds.specs.Sending.{DeliversFront}
use Rattle.ty_rounds.specs.Serving.{Halfway}
use Rattle.ty_rounds.specs.Spans.{Adds, AddsStirring, IsSpan}
use Rattle.ty_rounds.specs.Works.{Work}
use Rattle.ty_rounds.specs.declared.logging.Logged.{Logged}
use Rattle.ty_rounds.specs.declared.peer.Peer.{Peer}
use Rattle.ty_rounds.specs.declared.span.Span.{Span}
use Rattle.ty_rounds.proofs.ClosingLaws.{FrontClear, clear_more, one_stays}
use Rattle.ty_rounds.proofs.Few.{each_at, each_set, each_push, each_remove, quiet_piece, quiet_taken}
use Rattle.ty_rounds.proofs.Places.{apart_peers, open_at}
use Rattle.ty_rounds.proofs.SendFront.{more_sent}
use Rattle.ty_rounds.proofs.SendLaws.{nothing_fed}
use Rattle.ty_rounds.proofs.ServingLaws.{more, none_idle}
use Rattle.ty_rounds.proofs.Waiting.{waiting_no}

there : (ps : List Peer) (i : ℕ) → i < length ps → (p : Peer) × (p ≡ get_or ps i p)
there [] i lt = absurd (omega (arith, lt))
there (x ∷ ps) zero lt = (x, refl)
there (x ∷ ps) (suc i) lt = there ps i (omega (arith, lt))

-- the same with one behind the others
abbrev pub Steps : (ℕ → Type 0) → List Peer → Type 0
Steps P ps = (i : ℕ) (p : Peer) → i < length ps → p ≡ get_or ps i p → IsQuiet p → P i → P (i + 1)

skip : (P : ℕ → Type 0) (ps : List Peer) → Steps P ps → (n i : ℕ) → ((j : ℕ) → i ≤ j → j < i + n → j < length ps) → ((j : ℕ) (p : Peer) → i ≤ j → j < i + n → p ≡ get_or ps j p → IsQuiet p) → P i → P (i + n)
skip P ps step zero i inside quiet h = subst P (let e : i ≡ i + zero = omega arith in e) h
skip P ps step (suc n) i inside quiet h =
    let t = there ps i (inside i (omega arith) (omega arith)) in
    let one = step i t.0 (inside i (omega arith) (omega arith)) t.1 (quiet i t.0 (omega arith) (omega arith) t.1) h in
    subst P (let e : (i + 1) + n ≡ i + suc n = omega arith in e) (skip P ps step n (i + 1) (λ j a b. inside j (omega (arith, a)) (omega (arith, b))) (λ j p a b is. quiet j p (omega (arith, a)) (omega (arith, b)) is) one)

-- outside the span each is quiet
outside : (s : Span) (ps : List Peer) (i : ℕ) (p : Peer) → IsSpan s ps → i < length ps → p ≡ get_or ps i p → (i < s.from) ⊎ (s.to ≤ i) → IsQuiet p
outside s ps i p h lt is out = each_at IsCalm ps i p lt is h.calm (go p.stirs refl)
  where
    far : (i < s.from) ⊎ (s.to ≤ i) → (s.from ≤ i) × (i < s.to) → ⊥
    far (inl a) b = omega (arith, a, b.0)
    far (inr a) b = omega (arith, a, b.1)

    go : (b : Bool) → p.stirs ≡ b → p.stirs ≡ false
    go false e = e
    go true e = absurd (far out (h.all i p lt is e))

-- what holds of none holds of those in front of the span
pub skip_front : (P : ℕ → Type 0) (s : Span) (ps : List Peer) → IsSpan s ps → Steps P ps → P 0 → P s.from
skip_front P s ps h step start = subst P (let e : 0 + s.from ≡ s.from = omega arith in e) (skip P ps step s.from 0 (λ j a b. omega (arith, b, h.ordered, h.within)) (λ j p a b is. outside s ps j p h (omega (arith, b, h.ordered, h.within)) is (inl (omega (arith, b)))) start)

-- what holds of those up to the end of the span holds of all
pub skip_back : (P : ℕ → Type 0) (s : Span) (ps : List Peer) (i : ℕ) → IsSpan s ps → Steps P ps → s.to ≤ i → P i → (n : ℕ) × (length ps ≤ n) × P n
skip_back P s ps i h step le now = (
  i + (length ps - i),
  omega arith,
  skip P ps step (length ps - i) i (λ j a b. omega (arith, a, b)) (λ j p a b is. outside s ps j p h (omega (arith, a, b)) is (inr (omega (arith, le, a)))) now,
)

pub set_same : (ps : List Peer) (i : ℕ) (p : Peer) → p ≡ get_or ps i p → set ps i p ≡ ps
set_same [] i p is = refl
set_same (x ∷ ps) zero p is = ap (λ (z : Peer). z ∷ ps) is
set_same (x ∷ ps) (suc i) p is = ap (λ (l : List Peer). x ∷ l) (set_same ps i p is)

ne_of : (a b : ℕ) → nat_eq a b ≡ false → a ≡ b → ⊥
ne_of a b e same = absurd (let t = eq-eqb a b same in cc)

-- ---- as the list changes

set_long : (ps : List Peer) (i : ℕ) (q : Peer) → length (set ps i q) ≡ length ps
set_long [] i q = refl
set_long (x ∷ ps) zero q = refl
set_long (x ∷ ps) (suc i) q = ap suc (set_long ps i q)

-- at another place it is the one that stood there
set_other : (ps : List Peer) (i j : ℕ) (q p : Peer) → (j ≡ i → ⊥) → p ≡ get_or (set ps i q) j p → p ≡ get_or ps j p
set_other [] i j q p away is = is
set_other (x ∷ ps) zero zero q p away is = absurd (away refl)
set_other (x ∷ ps) zero (suc j) q p away is = is
set_other (x ∷ ps) (suc i) zero q p away is = is
set_other (x ∷ ps) (suc i) (suc j) q p away is = set_other ps i j q p (λ e. away (ap suc e)) is

-- at the place itself it is the new one
set_here : (ps : List Peer) (i j : ℕ) (q p : Peer) → j ≡ i → i < length ps → p ≡ get_or (set ps i q) j p → p ≡ q
set_here [] i j q p same lt is = absurd (omega (arith, lt))
set_here (x ∷ ps) zero zero q p same lt is = is
set_here (x ∷ ps) zero (suc j) q p same lt is = absurd (omega (arith, same))
set_here (x ∷ ps) (suc i) zero q p same lt is = absurd (omega (arith, same))
set_here (x ∷ ps) (suc i) (suc j) q p same lt is = set_here ps i j q p (omega (arith, same)) (omega (arith, lt)) is

-- one at a place that was added changed
pub span_set : (s t : Span) (ps : List Peer) (i : ℕ) (q : Peer) → i < length ps → Adds s t i → IsCalm q → IsSpan s ps → IsSpan t (set ps i q)
span_set s t ps i q lt a calm h = record {
  ordered = omega (arith, a.there.0, a.there.1);
  within = let le = a.within (length ps) h.within lt in omega (arith, le, set_long ps i q);
  calm = each_set IsCalm ps i q calm h.calm;
  all = λ j p below is stirs. go j p below is stirs (nat_eq j i) refl;
}
  where
    go : (j : ℕ) (p : Peer) → j < length (set ps i q) → p ≡ get_or (set ps i q) j p → p.stirs ≡ true → (b : Bool) → nat_eq j i ≡ b → (t.from ≤ j) × (j < t.to)
    go j p below is stirs true e = let same = eqb-true j i e in (omega (arith, same, a.there.0), omega (arith, same, a.there.1))
    go j p below is stirs false e = let o = h.all j p (omega (arith, below, set_long ps i q)) (set_other ps i j q p (ne_of j i e) is) stirs in a.keeps j o.0 o.1

-- one that doesn't stir changed
span_still : (s : Span) (ps : List Peer) (i : ℕ) (q : Peer) → q.stirs ≡ false → i < length ps → IsCalm q → IsSpan s ps → IsSpan s (set ps i q)
span_still s ps i q still lt calm h = record {
  ordered = h.ordered;
  within = omega (arith, h.within, set_long ps i q);
  calm = each_set IsCalm ps i q calm h.calm;
  all = λ j p below is stirs. go j p below is stirs (nat_eq j i) refl;
}
  where
    go : (j : ℕ) (p : Peer) → j < length (set ps i q) → p ≡ get_or (set ps i q) j p → p.stirs ≡ true → (b : Bool) → nat_eq j i ≡ b → (s.from ≤ j) × (j < s.to)
    go j p below is stirs true e = absurd (let f = set_here ps i j q p (eqb-true j i e) lt is in let g = ap (λ (z : Peer). z.stirs) f in cc)
    go j p below is stirs false e = h.all j p (omega (arith, below, set_long ps i q)) (set_other ps i j q p (ne_of j i e) is) stirs

-- one changed, whose place was added where it stirs
pub span_settled : (s t : Span) (ps : List Peer) (i : ℕ) (q : Peer) → i < length ps → AddsStirring s t i q.stirs → IsCalm q → IsSpan s ps → IsSpan t (set ps i q)
span_settled s t ps i q lt a calm h = go q.stirs refl
  where
    go : (b : Bool) → q.stirs ≡ b → IsSpan t (set ps i q)
    go true e = span_set s t ps i q lt (a.more e) calm h
    go false e = subst (λ (z : Span). IsSpan z (set ps i q)) (sym (a.same e)) (span_still s ps i q e lt calm h)

-- one in the span changed
pub span_inside : (s : Span) (ps : List Peer) (i : ℕ) (q : Peer) → i < length ps → s.from ≤ i → i < s.to → IsCalm q → IsSpan s ps → IsSpan s (set ps i q)
span_inside s ps i q lt ge below calm h = span_set s s ps i q lt (record { there = (ge, below); keeps = λ j a b. (a, b); within = λ n le in_it. le }) calm h

push_other : (ps : List Peer) (q p : Peer) (j : ℕ) → j < length ps → p ≡ get_or (ps ++ q ∷ []) j p → p ≡ get_or ps j p
push_other [] q p j lt is = absurd (omega (arith, lt))
push_other (x ∷ ps) q p zero lt is = is
push_other (x ∷ ps) q p (suc j) lt is = push_other ps q p j (omega (arith, lt)) is

sides : (i j : ℕ) → (j < i) ⊎ (i ≤ j)
sides zero j = inr (omega arith)
sides (suc i) zero = inl (omega arith)
sides (suc i) (suc j) = go (sides i j)
  where
    go : (j < i) ⊎ (i ≤ j) → (suc j < suc i) ⊎ (suc i ≤ suc j)
    go (inl a) = inl (omega (arith, a))
    go (inr a) = inr (omega (arith, a))

-- one more came
pub span_push : (s t : Span) (ps ps' : List Peer) (q : Peer) → ps' ≡ ps ++ q ∷ [] → Adds s t (length ps) → IsCalm q → IsSpan s ps → IsSpan t ps'
span_push s t ps ps' q more a calm h = subst (IsSpan t) (sym more) (record {
  ordered = omega (arith, a.there.0, a.there.1);
  within = let le = a.within (length ps + 1) (omega (arith, h.within)) (omega arith) in omega (arith, le, length-append ps (q ∷ []));
  calm = each_push IsCalm ps q calm h.calm;
  all = λ j p below is stirs. go j p below is stirs (sides (length ps) j);
})
  where
    go : (j : ℕ) (p : Peer) → j < length (ps ++ q ∷ []) → p ≡ get_or (ps ++ q ∷ []) j p → p.stirs ≡ true → (j < length ps) ⊎ (length ps ≤ j) → (t.from ≤ j) × (j < t.to)
    go j p below is stirs (inl b) = let o = h.all j p b (push_other ps q p j b is) stirs in a.keeps j o.0 o.1
    go j p below is stirs (inr b) = let last : j ≡ length ps = omega (arith, b, below, length-append ps (q ∷ [])) in (omega (arith, last, a.there.0), omega (arith, last, a.there.1))

removed_long : (ps : List Peer) (i : ℕ) → i < length ps → length (remove ps i) + 1 ≡ length ps
removed_long [] i lt = absurd (omega (arith, lt))
removed_long (x ∷ ps) zero lt = omega arith
removed_long (x ∷ ps) (suc i) lt = let e = removed_long ps i (omega (arith, lt)) in omega (arith, e)

removed_before : (ps : List Peer) (i j : ℕ) (p : Peer) → j < i → p ≡ get_or (remove ps i) j p → p ≡ get_or ps j p
removed_before [] i j p lt is = refl
removed_before (x ∷ ps) zero j p lt is = absurd (omega (arith, lt))
removed_before (x ∷ ps) (suc i) zero p lt is = is
removed_before (x ∷ ps) (suc i) (suc j) p lt is = removed_before ps i j p (omega (arith, lt)) is

removed_behind : (ps : List Peer) (i j : ℕ) (p : Peer) → i ≤ j → p ≡ get_or (remove ps i) j p → p ≡ get_or ps (suc j) p
removed_behind [] i j p le is = refl
removed_behind (x ∷ ps) zero j p le is = is
removed_behind (x ∷ ps) (suc i) zero p le is = absurd (omega (arith, le))
removed_behind (x ∷ ps) (suc i) (suc j) p le is = removed_behind ps i j p (omega (arith, le)) is

-- one in the span left
pub span_remove : (s t : Span) (ps ps' : List Peer) (i : ℕ) → ps' ≡ remove ps i → i < length ps → s.from ≤ i → i < s.to → t.from ≡ s.from → t.to + 1 ≡ s.to → IsSpan s ps → IsSpan t ps'
span_remove s t ps ps' i less lt ge below from to h = subst (IsSpan t) (sym less) (record {
  ordered = omega (arith, ge, below, from, to);
  within = omega (arith, to, h.within, removed_long ps i lt);
  calm = each_remove IsCalm ps i h.calm;
  all = λ j p in_it is stirs. go j p in_it is stirs (sides i j);
})
  where
    go : (j : ℕ) (p : Peer) → j < length (remove ps i) → p ≡ get_or (remove ps i) j p → p.stirs ≡ true → (j < i) ⊎ (i ≤ j) → (t.from ≤ j) × (j < t.to)
    go j p in_it is stirs (inl a) = let o = h.all j p (omega (arith, a, lt)) (removed_before ps i j p a is) stirs in (omega (arith, o.0, from), omega (arith, a, below, to))
    go j p in_it is stirs (inr a) = let o = h.all (suc j) p (omega (arith, in_it, removed_long ps i lt)) (removed_behind ps i j p a is) stirs in (omega (arith, ge, a, from), omega (arith, o.1, to))

-- ---- the four walks

pub waiting_steps : (ps : List Peer) (xs : List ℕ) → Steps (λ n. xs ≡ waiting_numbers (take n ps)) ps
waiting_steps ps xs i p lt is q so_far = waiting_no ps i p xs lt is q.idle so_far

pub round_steps : (l : Option Logged) (b : Book) (o : Work) (c0 : Contents) (c : Contents → Type 0) (w0 w : Walk) (ps : List Peer) (ks : List Client) → b.is ≡ settings_of l → Steps (λ n. Halfway b o c0 c w0 w ps n ks) ps
round_steps l b o c0 c w0 w ps ks same i p lt is q h =
    subst (λ (z : List Peer). Halfway b o c0 c w0 w z (i + 1) ks) (set_same ps i p is) (more l b o o c0 c c w0 w w ps ks i p p same h lt is (λ d hd. none_idle l o c d w p p hd refl (quiet_piece p q)))

module _ {S W : Type 0} (s : space.Ghosts S) (g : Ghosts W) (l : Option Logged) (a : S) where
  pub send_steps : (x y : W) (ps now : List Peer) → s.sound a → g.conns y ≡ g.conns x → Wired (g.conns y) now → Steps (λ n. DeliversFront s g l a x y ps now n) now
  send_steps x y ps now sound same w i p lt is q f =
      let there : list_any (nat_eq p.conn) (g.conns x) ≡ true = ap (list_any (nat_eq p.conn)) (sym same) ∙ open_at _ _ i p lt is w in
      subst (λ (z : List Peer). DeliversFront s g l a x y ps z (i + 1)) (set_same now i p is) (more_sent s g l a x y y a ps now i p p (apart_peers _ _ w) lt is there (only_reads_refl s a sound) f (nothing_fed s g l a y p q.unfed (quiet_taken p q)))

module _ {W : Type 0} (g : Ghosts W) where
  pub close_steps : (x y : W) (ps now : List Peer) → Steps (λ n. ClosesFront g x y ps now n) now
  close_steps x y ps now i p lt is q f = one_stays g x y ps now i p lt is q.stays f

pub clear_steps : (now : List Peer) → Steps (FrontClear now) now
clear_steps now i p lt is q h = clear_more now i p lt is q.stays h
