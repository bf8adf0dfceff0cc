-- What an event makes of the connections.
use Rattle.std.proofs.Common.{◌≡◌, ◌<◌, ◌≤◌, ℕ, zero, suc, Bool, true, false, not, cond, List, [], ◌∷◌, ◌++◌, length, get_or, take, map, refl, sym, ap, subst, ◌∙◌, arith}
use Rattle.std.proofs.lemmas.Bool.{or_from, or_parts}
use Rattle.std.specs.Prelude.{◌==◌, nat_lt, nat_eq, Option}
use Rattle.std.specs.List.{list_any, filter}
use Rattle.std.proofs.lemmas.List.{append-nil}
use Rattle.tc_io.specs.Told.{Adds}
use Rattle.tc_io.specs.Script.{Plays}
use Rattle.tc_io.specs.Lines.{MayCome, open_after, given_after}
use Rattle.tc_io.specs.declared.wire.Wire.{Ghosts}
use Rattle.tc_io.specs.Transcript.{bytes_of}
use Rattle.tc_io.specs.declared.wire.Ev.{Ev}
use Rattle.tc_io.specs.declared.wire.Ev.TheVariants.{Opened, Read, Ended, Quiet, Shut}
use Rattle.tc_io.specs.declared.wire.Entry.TheVariants.{Event}
use Rattle.ty_core.specs.Queues.{Queue, queue}
use Rattle.ty_world.specs.Clients.{Client, is_link}
use Rattle.ty_world.specs.World.{heard, with_read, with_end, new_client, clients_in, unstopped, IsBytes, IsAbove}
use Rattle.ty_rounds.specs.Books.{Book}
use Rattle.ty_rounds.specs.Peers.{numbers, waiting_numbers, is_called, count_clients}
use Rattle.ty_rounds.specs.Pushing.{Pushes, role_pushed, unread_pushed}
use Rattle.ty_rounds.specs.Holding.{Holds, AllHold, AreApart, PlaysAs, Wired, coming}
use Rattle.ty_rounds.specs.Events.{MayHear}
use Rattle.ty_rounds.specs.Ready.{AreIntroduced, Each, IsCalm, LinksKnow, NoneOver, StayFew}
use Rattle.ty_rounds.specs.Turns.{Asks, Hears}
use Rattle.ty_rounds.proofs.SendLaws.{plays_like}
use Rattle.ty_rounds.proofs.Waiting.{paused_is, busy_is, role_is}
use Rattle.ty_rounds.specs.declared.logging.Logged.{Logged}
use Rattle.ty_rounds.specs.declared.peer.Peer.{Peer}
use Rattle.ty_rounds.specs.declared.peer.Role.{Role}
use Rattle.ty_rounds.specs.declared.peer.Role.TheVariants as peer
use Rattle.ty_rounds.proofs.Places.{eq_swap}

-- bytes came of it, and it was noted whether it stirs
pub reads : (b : Book) (p q : Peer) (stirs : Bool) (bytes : List ℕ) (k : Client) → Pushes bytes p q → Holds b p k → Holds b (record q { stirs = stirs }) (with_read bytes k)
reads b p q stirs bytes k came h = subst (λ (z : Peer). Holds b (record z { stirs = stirs }) (with_read bytes k)) (sym came.is) (record {
  conn = h.conn;
  plays = go p.role h.plays;
  owed = h.owed ∙ ap (λ (l : List ℕ). k.out ++ (p.session.waiting ++ l)) (sym (still p.role));
  gone = h.gone;
  ended = h.ended;
  extra = h.extra;
})
  where
    still : (r : Role) → coming b (role_pushed bytes r) ≡ coming b r
    still peer.Client = refl
    still (peer.Fed f) = refl
    still (peer.Called c) = refl

    go : (r : Role) → PlaysAs b r p.session.unread k → PlaysAs b (role_pushed bytes r) (unread_pushed bytes r p.session.unread) (with_read bytes k)
    go peer.Client x = record { role_is = x.role_is; unread_is = ap (λ (l : List ℕ). l ++ bytes) x.unread_is }
    go (peer.Fed f) x = record { logged = x.logged; base = x.base; role_is = x.role_is; owed = x.owed; placed = x.placed }
    go (peer.Called c) x = record { role_is = x.role_is; unread_is = ap (λ (l : List ℕ). l ++ bytes) x.unread_is; own_is = x.own_is; held_is = x.held_is }

same_count : (b : Book) (ps : List Peer) (ks : List Client) → AllHold b ps ks → clients_in ks ≡ count_clients ps
same_count b [] [] a = refl
same_count b [] (k ∷ ks) a = absurd a
same_count b (p ∷ ps) [] a = absurd a
same_count b (p ∷ ps) (k ∷ ks) a = go (is_link k.role) (is_called p.role) (role_is b p k a.0).link (same_count b ps ks a.1)
  where
    go : (x y : Bool) → x ≡ y → clients_in ks ≡ count_clients ps → cond x (clients_in ks) (suc (clients_in ks)) ≡ length (cond (not y) (p ∷ filter (λ q. not (is_called q.role)) ps) (filter (λ q. not (is_called q.role)) ps))
    go true true e ih = ih
    go false false e ih = ap suc ih
    go true false e ih = absurd cc
    go false true e ih = absurd cc

pub more_hold : (b : Book) (ps : List Peer) (ks : List Client) (p : Peer) (k : Client) → AllHold b ps ks → Holds b p k → AllHold b (ps ++ p ∷ []) (ks ++ k ∷ [])
more_hold b [] [] p k a h = (h, tt)
more_hold b (x ∷ ps) (y ∷ ks) p k a h = (a.0, more_hold b ps ks p k a.1 h)
more_hold b [] (y ∷ ks) p k a h = absurd a
more_hold b (x ∷ ps) [] p k a h = absurd a

pub opens : (b : Book) (ps : List Peer) (ks : List Client) (p : Peer) (c : ℕ) → p.conn ≡ c → p.role ≡ peer.Client → p.session ≡ queue [] [] → p.gone ≡ false → p.ended ≡ false → p.extra ≡ not (nat_lt (count_clients ps) 64) → AllHold b ps ks → AllHold b (ps ++ p ∷ []) (ks ++ new_client c (clients_in ks) ∷ [])
opens b ps ks p c conn role session gone ended extra a = more_hold b ps ks p (new_client c (clients_in ks)) a (record {
  conn = sym conn;
  plays = subst (λ (r : Role). PlaysAs b r p.session.unread (new_client c (clients_in ks))) (sym role) (record { role_is = refl; unread_is = sym (ap (λ (z : Queue). z.unread) session) });
  owed = sym (append-nil []) ∙ ap (λ (l : List ℕ). l ++ []) (sym (ap (λ (z : Queue). z.waiting) session)) ∙ ap (λ (r : Role). p.session.waiting ++ coming b r) (sym role);
  gone = sym gone;
  ended = sym ended;
  extra = ap (λ (n : ℕ). not (nat_lt n 64)) (same_count b ps ks a) ∙ sym extra;
})

pub unstopped_hold : (b : Book) (ps : List Peer) (ks : List Client) → AllHold b ps ks → AllHold b ps (map unstopped ks)
unstopped_hold b [] [] a = tt
unstopped_hold b [] (k ∷ ks) a = absurd a
unstopped_hold b (p ∷ ps) [] a = absurd a
unstopped_hold b (p ∷ ps) (k ∷ ks) a = (record { conn = a.0.conn; plays = plays_like b p.role p.session.unread k (unstopped k) refl refl refl a.0.plays; owed = a.0.owed; gone = a.0.gone; ended = a.0.ended; extra = a.0.extra }, unstopped_hold b ps ks a.1)

pub numbers_push : (ps : List Peer) (p : Peer) → numbers (ps ++ p ∷ []) ≡ numbers ps ++ p.conn ∷ []
numbers_push [] p = refl
numbers_push (x ∷ ps) p = ap (λ (l : List ℕ). x.conn ∷ l) (numbers_push ps p)

has_more : (xs : List ℕ) (c d : ℕ) → list_any (nat_eq c) xs ≡ false → nat_eq c d ≡ false → list_any (nat_eq c) (xs ++ d ∷ []) ≡ false
has_more [] c d none away = or_from (nat_eq c d) false away refl
has_more (x ∷ xs) c d none away = let s = or_parts (nat_eq c x) (list_any (nat_eq c) xs) none in or_from (nat_eq c x) (list_any (nat_eq c) (xs ++ d ∷ [])) s.0 (has_more xs c d s.1 away)

pub apart_more : (xs : List ℕ) (c : ℕ) → AreApart xs → list_any (nat_eq c) xs ≡ false → AreApart (xs ++ c ∷ [])
apart_more [] c a none = (refl, tt)
apart_more (x ∷ xs) c a none =
    let s = or_parts (nat_eq c x) (list_any (nat_eq c) xs) none in
    (has_more xs x c a.0 (eq_swap c x s.0), apart_more xs c a.1 s.1)

pub ends : (b : Book) (p : Peer) (k : Client) → Holds b p k → Holds b (record p { ended = true; stirs = true }) (with_end k)
ends b p k h = record { conn = h.conn; plays = plays_like b p.role p.session.unread k (with_end k) refl refl refl h.plays; owed = h.owed; gone = h.gone; ended = refl; extra = h.extra }

-- ---- the call

take_bytes : (n : ℕ) (xs : List ℕ) (i : ℕ) → IsBytes xs → get_or (take n xs) i 0 < 256
take_bytes zero xs i fits = omega arith
take_bytes (suc n) [] i fits = omega arith
take_bytes (suc n) (x ∷ xs) zero fits = fits 0
take_bytes (suc n) (x ∷ xs) (suc i) fits = take_bytes n xs i (λ j. fits (suc j))

rises : (conns ended : List ℕ) (given : ℕ) (paused : List ℕ) (busy : Bool) (ev : Ev) (before : ℕ) → MayCome conns ended given paused busy ev → before ≤ given → IsAbove before ev × (given_after before ev ≤ given_after given ev)
rises conns ended given paused busy (Opened c) before may le = (omega (arith, may.0, le), omega arith)
rises conns ended given paused busy (Read c n) before may le = (tt, le)
rises conns ended given paused busy (Ended c) before may le = (tt, le)
rises conns ended given paused busy Quiet before may le = (tt, le)
rises conns ended given paused busy Shut before may le = (tt, le)

shut_last : (conns ended : List ℕ) (given : ℕ) (paused : List ℕ) (busy : Bool) (ev : Ev) → MayCome conns ended given paused busy ev → ev ≡ Shut → busy ≡ false
shut_last conns ended given paused busy (Opened c) may is = absurd cc
shut_last conns ended given paused busy (Read c n) may is = absurd cc
shut_last conns ended given paused busy (Ended c) may is = absurd cc
shut_last conns ended given paused busy Quiet may is = absurd cc
shut_last conns ended given paused busy Shut may is = may

front_bytes : (ev : Ev) (buffer : List ℕ) → IsBytes buffer → IsBytes (bytes_of ev buffer)
front_bytes (Opened c) buffer fits = λ i. omega arith
front_bytes (Read c n) buffer fits = λ i. take_bytes n buffer i fits
front_bytes (Ended c) buffer fits = λ i. omega arith
front_bytes Quiet buffer fits = λ i. omega arith
front_bytes Shut buffer fits = λ i. omega arith

-- the event may be taken in by a server that paused those that wait
pub may_hear : (conns ended : List ℕ) (given : ℕ) (paused : List ℕ) (busy : Bool) (ps : List Peer) (ev : Ev) → paused ≡ waiting_numbers ps → MayCome conns ended given paused busy ev → MayHear ps ev
may_hear conns ended given paused busy ps (Opened c) is may = tt
may_hear conns ended given paused busy ps (Read c n) is may = (may.1, ap (list_any (nat_eq c)) (sym is) ∙ may.4)
may_hear conns ended given paused busy ps (Ended c) is may = tt
may_hear conns ended given paused busy ps Quiet is may = tt
may_hear conns ended given paused busy ps Shut is may = tt

module _ {W : Type 0} (g : Ghosts W) where
  -- `next` was called, with those paused that wait
  pub record Called (x y : W) (ps : List Peer) (ev : Ev) (paused : List ℕ) (busy : Bool) (buffer : List ℕ) : Type 0 where
    pub paused_is : paused ≡ waiting_numbers ps
    pub busy_is : busy ≡ not (length paused == 0)
    pub told : Adds (g.transcript x) (g.transcript y) (Event paused busy ev (bytes_of ev buffer) ∷ [])
    pub plays : Plays (g.plays x) (g.plays y) (Event paused busy ev (bytes_of ev buffer) ∷ [])
    pub may : MayCome (g.conns x) (g.ended x) (g.given x) paused busy ev
    pub conns : g.conns y ≡ open_after (g.conns x) ev
    pub given : g.given y ≡ given_after (g.given x) ev
    pub are_bytes : IsBytes buffer

  pub asks : (x y : W) (ps : List Peer) (ev : Ev) (paused : List ℕ) (busy : Bool) (buffer : List ℕ) → Called x y ps ev paused busy buffer → Asks g x y ps ev
  asks x y ps ev paused busy buffer c = record {
    paused = paused;
    busy = busy;
    bytes = bytes_of ev buffer;
    told = c.told;
    plays = c.plays;
    asked = λ b w held. (c.paused_is ∙ paused_is b ps w.there held, c.busy_is ∙ ap (λ (l : List ℕ). not (length l == 0)) c.paused_is ∙ busy_is b ps w.there held);
    came = λ before le. record { are_bytes = front_bytes ev buffer c.are_bytes; last = shut_last _ _ _ paused busy ev c.may; above = (rises _ _ _ paused busy ev before c.may le).0 };
    above = λ before le. subst (λ (n : ℕ). given_after before ev ≤ n) (sym c.given) (rises _ _ _ paused busy ev before c.may le).1;
  }

  pub hears : (x y : W) (ps ps' : List Peer) (ev : Ev) (paused : List ℕ) (busy : Bool) (buffer : List ℕ) → Called x y ps ev paused busy buffer
      → ((b : Book) (ks : List Client) → AllHold b ps ks → AllHold b ps' (heard (map unstopped ks) ev (bytes_of ev buffer))) → (NoneOver ps → AreIntroduced ps → StayFew ps ps') → (Each IsCalm ps → Each IsCalm ps') → ((l : Option Logged) → LinksKnow l ps → LinksKnow l ps') → Hears g x y ps ps' ev
  unfolding asks
  hears x y ps ps' ev paused busy buffer c holds few calm links = record { asks = asks x y ps ev paused busy buffer c; conns = c.conns; holds = holds; few = few; calm = calm; links = links }

pub wired_after : (conns conns' : List ℕ) (ended : List ℕ) (given : ℕ) (paused : List ℕ) (busy : Bool) (ps ps' : List Peer) (ev : Ev) → MayCome conns ended given paused busy ev → conns' ≡ open_after conns ev → numbers ps' ≡ open_after (numbers ps) ev → Wired conns ps → Wired conns' ps'
wired_after conns conns' ended given paused busy ps ps' ev may is named w = record {
  same = is ∙ ap (λ (l : List ℕ). open_after l ev) w.same ∙ sym named;
  apart = subst AreApart (sym is) (go ev may);
}
  where
    go : (ev : Ev) → MayCome conns ended given paused busy ev → AreApart (open_after conns ev)
    go (Opened c) may = apart_more conns c w.apart may.1
    go (Read c n) may = w.apart
    go (Ended c) may = w.apart
    go Quiet may = w.apart
    go Shut may = w.apart
