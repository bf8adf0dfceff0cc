-- What is known of links, as the list of connections changes.
use Rattle.std.proofs.Common.{◌≡◌, ◌<◌, ℕ, zero, suc, Bool, true, false, List, [], ◌∷◌, ◌++◌, length, get_or, set, refl, sym, ap, subst, ◌∙◌, arith}
use Rattle.std.specs.Prelude.{Option, Some, None, remove}
use Rattle.std.proofs.lemmas.Bool.{or_from, or_parts}
use Rattle.ty_rounds.specs.Peers.{has_link, is_called, is_fed}
use Rattle.ty_rounds.specs.Pushing.{Pushes, role_pushed}
use Rattle.ty_rounds.specs.Ready.{IsIntroduced, KeepsLink, KeepsLinks, KnowsHeld, LinksKnow, OneLink}
use Rattle.ty_rounds.specs.declared.logging.Logged.{Logged}
use Rattle.ty_rounds.specs.declared.peer.Peer.{Peer}
use Rattle.ty_rounds.specs.declared.peer.Role.{Role}
use Rattle.ty_rounds.specs.declared.peer.Role.TheVariants as peer
use Rattle.ty_rounds.proofs.Few.{each_at, each_push, each_remove, each_set}

-- ---- whether there is a link

abbrev None_called : List Peer → Type 0
None_called ps = has_link ps ≡ false

not_new : (a b : Bool) → (b ≡ true → a ≡ true) → a ≡ false → b ≡ false
not_new a false f e = refl
not_new a true f e = absurd (let t = f refl in cc)

-- it is no link that it wasn't
abbrev IsNotNew : Peer → Peer → Type 0
IsNotNew p q = is_called q.role ≡ true → is_called p.role ≡ true

none_set : (ps : List Peer) (i : ℕ) (p q : Peer) → i < length ps → p ≡ get_or ps i p → IsNotNew p q → None_called ps → None_called (set ps i q)
none_set [] i p q lt is f e = absurd (omega (arith, lt))
none_set (x ∷ ps) zero p q lt is f e = let s = or_parts (is_called x.role) (has_link ps) e in or_from (is_called q.role) (has_link ps) (not_new (is_called p.role) (is_called q.role) f (ap (λ (z : Peer). is_called z.role) is ∙ s.0)) s.1
none_set (x ∷ ps) (suc i) p q lt is f e = let s = or_parts (is_called x.role) (has_link ps) e in or_from (is_called x.role) (has_link (set ps i q)) s.0 (none_set ps i p q (omega (arith, lt)) is f s.1)

none_push : (ps : List Peer) (q : Peer) → is_called q.role ≡ false → None_called ps → None_called (ps ++ q ∷ [])
none_push [] q one e = or_from (is_called q.role) false one refl
none_push (x ∷ ps) q one e = let s = or_parts (is_called x.role) (has_link ps) e in or_from (is_called x.role) (has_link (ps ++ q ∷ [])) s.0 (none_push ps q one s.1)

none_remove : (ps : List Peer) (i : ℕ) → None_called ps → None_called (remove ps i)
none_remove [] zero e = refl
none_remove [] (suc i) e = refl
none_remove (x ∷ ps) zero e = (or_parts (is_called x.role) (has_link ps) e).1
none_remove (x ∷ ps) (suc i) e = let s = or_parts (is_called x.role) (has_link ps) e in or_from (is_called x.role) (has_link (remove ps i)) s.0 (none_remove ps i s.1)

-- ---- one link at most

one_set : (ps : List Peer) (i : ℕ) (p q : Peer) → i < length ps → p ≡ get_or ps i p → IsNotNew p q → OneLink ps → OneLink (set ps i q)
one_set [] i p q lt is f h = absurd (omega (arith, lt))
one_set (x ∷ ps) zero p q lt is f h = ((λ e. h.0 (ap (λ (z : Peer). is_called z.role) (sym is) ∙ f e)), h.1)
one_set (x ∷ ps) (suc i) p q lt is f h = ((λ e. none_set ps i p q (omega (arith, lt)) is f (h.0 e)), one_set ps i p q (omega (arith, lt)) is f h.1)

one_push : (ps : List Peer) (q : Peer) → is_called q.role ≡ false → OneLink ps → OneLink (ps ++ q ∷ [])
one_push [] q plain h = ((λ e. refl), tt)
one_push (x ∷ ps) q plain h = ((λ e. none_push ps q plain (h.0 e)), one_push ps q plain h.1)

one_remove : (ps : List Peer) (i : ℕ) → OneLink ps → OneLink (remove ps i)
one_remove [] zero h = tt
one_remove [] (suc i) h = tt
one_remove (x ∷ ps) zero h = h.1
one_remove (x ∷ ps) (suc i) h = ((λ e. none_remove ps i (h.0 e)), one_remove ps i h.1)

-- where there is none, one more is the one
pub one_more : (ps : List Peer) (q : Peer) → has_link ps ≡ false → OneLink (ps ++ q ∷ [])
one_more [] q e = ((λ t. refl), tt)
one_more (x ∷ ps) q e = let s = or_parts (is_called x.role) (has_link ps) e in ((λ t. absurd (let f = s.0 in cc)), one_more ps q s.1)

-- ---- what is known of them

-- one changed
know_set : (l : Option Logged) (ps : List Peer) (i : ℕ) (p q : Peer) → i < length ps → p ≡ get_or ps i p → IsNotNew p q → ((last : ℕ) → KnowsHeld last p.role → KnowsHeld last q.role) → LinksKnow l ps → LinksKnow l (set ps i q)
know_set None ps i p q lt is f held h = none_set ps i p q lt is f h
know_set (Some l) ps i p q lt is f held h =
    let last = l.ulog.last in
    (each_set (λ z. KnowsHeld last z.role) ps i q (held last (each_at (λ z. KnowsHeld last z.role) ps i p lt is h.0)) h.0, ((λ e. none_set ps i p q lt is f (h.1.0 e)), one_set ps i p q lt is f h.1.1))

held_plain : (last : ℕ) (r : Role) → is_called r ≡ false → KnowsHeld last r
held_plain last peer.Client e = tt
held_plain last (peer.Fed f) e = tt
held_plain last (peer.Called c) e = absurd cc

-- one more came that is no link
pub know_push : (l : Option Logged) (ps ps' : List Peer) (q : Peer) → ps' ≡ ps ++ q ∷ [] → is_called q.role ≡ false → LinksKnow l ps → LinksKnow l ps'
know_push l ps ps' q more plain h = subst (LinksKnow l) (sym more) (go l h)
  where
    go : (l : Option Logged) → LinksKnow l ps → LinksKnow l (ps ++ q ∷ [])
    go None h = none_push ps q plain h
    go (Some l) h = (each_push (λ z. KnowsHeld l.ulog.last z.role) ps q (held_plain l.ulog.last q.role plain) h.0, ((λ e. none_push ps q plain (h.1.0 e)), one_push ps q plain h.1.1))

know_remove : (l : Option Logged) (ps : List Peer) (i : ℕ) → LinksKnow l ps → LinksKnow l (remove ps i)
know_remove None ps i h = none_remove ps i h
know_remove (Some l) ps i h = (each_remove (λ z. KnowsHeld l.ulog.last z.role) ps i h.0, ((λ e. none_remove ps i (h.1.0 e)), one_remove ps i h.1.1))

-- bytes came of one
pub know_read : (l : Option Logged) (ps : List Peer) (i : ℕ) (p m : Peer) (stirs : Bool) (bytes : List ℕ) → i < length ps → p ≡ get_or ps i p → Pushes bytes p m → LinksKnow l ps → LinksKnow l (set ps i (record m { stirs = stirs }))
know_read l ps i p m stirs bytes lt is came h = subst (λ (z : Peer). LinksKnow l (set ps i (record z { stirs = stirs }))) (sym came.is) (know_set l ps i p _ lt is (called p.role) (λ last. held last p.role) h)
  where
    called : (r : Role) → is_called (role_pushed bytes r) ≡ true → is_called r ≡ true
    called peer.Client e = absurd cc
    called (peer.Fed f) e = absurd cc
    called (peer.Called c) e = refl

    held : (last : ℕ) (r : Role) → KnowsHeld last r → KnowsHeld last (role_pushed bytes r)
    held last peer.Client e = tt
    held last (peer.Fed f) e = tt
    held last (peer.Called c) e = e

-- ---- of one

pub keeps_same : (p : Peer) → KeepsLink p p
keeps_same p = record { called = λ e. e; held = λ last h. h; introduced = λ h. h }

-- its role stays
pub keeps_role : (p q : Peer) → q.role ≡ p.role → KeepsLink p q
keeps_role p q is = record { called = λ e. ap is_called (sym is) ∙ e; held = λ last h. subst (KnowsHeld last) (sym is) h; introduced = λ h. subst IsIntroduced (sym is) h }

-- it is a feed then
pub keeps_fed : (p q : Peer) → is_fed q.role ≡ true → KeepsLink p q
keeps_fed p q fed = go q.role refl fed
  where
    go : (r : Role) → q.role ≡ r → is_fed r ≡ true → KeepsLink p q
    go peer.Client e fed = absurd cc
    go (peer.Fed f) e fed = record { called = λ t. absurd (let n = ap is_called e in cc); held = λ last h. subst (KnowsHeld last) (sym e) tt; introduced = λ h. subst IsIntroduced (sym e) tt }
    go (peer.Called c) e fed = absurd cc

pub link_then : (p q r : Peer) → KeepsLink p q → KeepsLink q r → KeepsLink p r
link_then p q r a b = record { called = λ e. a.called (b.called e); held = λ last h. b.held last (a.held last h); introduced = λ h. b.introduced (a.introduced h) }

-- ---- of all

pub keeps_refl : (ps : List Peer) → KeepsLinks ps ps
keeps_refl ps = record { know = λ l h. h; introduced = λ h. h }

pub keeps_then : (ps qs rs : List Peer) → KeepsLinks ps qs → KeepsLinks qs rs → KeepsLinks ps rs
keeps_then ps qs rs a b = record { know = λ l h. b.know l (a.know l h); introduced = λ h. b.introduced (a.introduced h) }

pub keeps_one : (ps : List Peer) (i : ℕ) (p q : Peer) → i < length ps → p ≡ get_or ps i p → KeepsLink p q → KeepsLinks ps (set ps i q)
keeps_one ps i p q lt is k = record {
  know = λ l h. know_set l ps i p q lt is k.called k.held h;
  introduced = λ h. each_set (λ z. IsIntroduced z.role) ps i q (k.introduced (each_at (λ z. IsIntroduced z.role) ps i p lt is h)) h;
}

pub keeps_remove : (ps ps' : List Peer) (i : ℕ) → ps' ≡ remove ps i → KeepsLinks ps ps'
keeps_remove ps ps' i is = subst (KeepsLinks ps) (sym is) (record { know = λ l h. know_remove l ps i h; introduced = λ h. each_remove (λ z. IsIntroduced z.role) ps i h })
