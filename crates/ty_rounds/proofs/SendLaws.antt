-- Sends to one connection.
use Rattle.std.proofs.Common.{◌≡◌, ◌⊎◌, inl, inr, ℕ, ◌+◌, ◌<◌, ◌≤◌, Bool, true, false, List, [], ◌∷◌, ◌++◌, length, drop, take, refl, sym, ap, subst, ◌∙◌, append_assoc, length-append, length-drop, arith, eq-eqb, Ok, Err}
use Rattle.std.proofs.lemmas.Bool.{eqb-true}
use Rattle.std.specs.Prelude.{nat_eq, ◌||◌, Result, IsErr}
use Rattle.std.proofs.lemmas.List.{append-nil, nil_from_length, take-append-drop}
use Rattle.std.proofs.lemmas.List.Prefix.{front_rest}
use Rattle.tc_base.specs.declared.fault.Fault.{Fault}
use Rattle.tc_io.specs.Told.{Adds}
use Rattle.tc_io.specs.Script.{Plays as Played}
use Rattle.tc_io.specs.declared.wire.Wire.{Ghosts}
use Rattle.tc_io.specs.declared.wire.Sent.{Sent}
use Rattle.tc_io.specs.declared.wire.Sent.TheVariants.{Took, NotYet, Gone}
use Rattle.tc_io.specs.declared.wire.Entry.{Entry}
use Rattle.tc_io.specs.declared.wire.Entry.TheVariants.{Send}
use Rattle.tc_space.specs.Frames.{OnlyReads}
use Rattle.tc_space.specs.declared.space.Space as space
use Rattle.ty_core.specs.Queues.{Queue, queue}
use Rattle.std.specs.Prelude.{Option, None}
use Rattle.ty_world.specs.Clients.{Client, is_fed, all_sent}
use Rattle.ty_world.specs.World.{AreNext, sent, AllOf}
use Rattle.ty_world.specs.Logs.{Settings}
use Rattle.ty_rounds.specs.Books.{Book, IsBook, KnowsLog, settings_of}
use Rattle.ty_rounds.specs.Peers.{all_taken, is_busy, is_fed as is_fed_role}
use Rattle.ty_rounds.specs.Ready.{FewWaiting, most_waiting}
use Rattle.ty_rounds.specs.Holding.{Holds, IsGoing, PlaysAs, coming}
use Rattle.ty_rounds.specs.Sending.{AnyBook, SendTo, sent_by, sent_all, AllOffers, Delivers, OffersOne, Fills, FeedsOne}
use Rattle.ty_rounds.specs.declared.logging.Logged.{Logged}
use Rattle.ty_rounds.specs.declared.outcome.TurnErr.{TurnErr}
use Rattle.ty_rounds.specs.declared.peer.Peer.{Peer}
use Rattle.ty_rounds.specs.declared.peer.Role.{Role as PeerRole}
use Rattle.ty_rounds.specs.declared.peer.Role.TheVariants as peer
use Rattle.ty_rounds.proofs.Entries.{all_more}
use Rattle.ty_rounds.proofs.Telling.{Adds-then, Plays-then, Adds-none, Plays-none}
use Rattle.ty_rounds.proofs.Waiting.{not_fed}

-- ---- entries

sent_more : (es ds : List Entry) (k : Client) → sent_all (es ++ ds) k ≡ sent_all ds (sent_all es k)
sent_more [] ds k = refl
sent_more (x ∷ es) ds k = sent_more es ds (sent_by x k)

offers_more : (es ds : List Entry) (k : Client) → AllOffers k es → AllOffers (sent_all es k) ds → AllOffers k (es ++ ds)
offers_more [] ds k a b = b
offers_more (x ∷ es) ds k a b = (a.0, offers_more es ds (sent_by x k) a.1 b)

-- ---- what a connection stands for

pub plays_like : (b : Book) (r : PeerRole) (unread : List ℕ) (k j : Client) → j.role ≡ k.role → j.unread ≡ k.unread → j.owed ≡ k.owed → PlaysAs b r unread k → PlaysAs b r unread j
plays_like b peer.Client unread k j role un owed x = record { role_is = role ∙ x.role_is; unread_is = un ∙ x.unread_is }
plays_like b (peer.Fed f) unread k j role un owed x = record { logged = x.logged; base = x.base; role_is = role ∙ x.role_is; owed = owed ∙ x.owed; placed = x.placed }
plays_like b (peer.Called m) unread k j role un owed x = record { role_is = role ∙ x.role_is; unread_is = un ∙ x.unread_is; own_is = x.own_is; held_is = x.held_is }

-- only a feed is to be given more than what waits
none_coming : (b : Book) (r : PeerRole) (unread : List ℕ) (k : Client) → PlaysAs b r unread k → is_fed k.role ≡ false → coming b r ≡ []
none_coming b peer.Client unread k x e = refl
none_coming b (peer.Fed f) unread k x e = let t : is_fed k.role ≡ true = ap is_fed x.role_is in absurd cc
none_coming b (peer.Called m) unread k x e = refl

few_fed : (b : Book) (r : PeerRole) (unread : List ℕ) (k : Client) → PlaysAs b r unread k → is_fed k.role ≡ true → most_waiting r ≡ 4100
few_fed b peer.Client unread k x e = let t : is_fed k.role ≡ false = ap is_fed x.role_is in absurd cc
few_fed b (peer.Fed f) unread k x e = refl
few_fed b (peer.Called m) unread k x e = let t : is_fed k.role ≡ false = ap is_fed x.role_is in absurd cc

pub next_is : (b : Book) (p : Peer) (k : Client) (bytes : List ℕ) → bytes ≡ p.session.waiting → FewWaiting p → Holds b p k → AreNext k bytes
next_is b p k bytes is few h = record {
  later = coming b p.role;
  parts = front_rest k.owed k.out (p.session.waiting ++ coming b p.role) h.owed ∙ ap (λ (l : List ℕ). l ++ coming b p.role) (sym is);
  all = λ e. none_coming b p.role p.session.unread k h.plays e;
  few = λ e. omega (arith, few, ap length is, few_fed b p.role p.session.unread k h.plays e);
}

pub took : (b : Book) (p q : Peer) (n : ℕ) (bytes : List ℕ) (s : Sent) (k : Client) → s ≡ Took n → bytes ≡ p.session.waiting → q.session ≡ queue p.session.unread (drop n p.session.waiting) → q.conn ≡ p.conn → q.role ≡ p.role → q.gone ≡ p.gone → q.ended ≡ p.ended → q.extra ≡ p.extra → Holds b p k → Holds b q (sent bytes s k)
took b p q n bytes s k is same session conn role gone ended extra h = subst (λ (a : Sent). Holds b q (sent bytes a k)) (sym is) (record {
  conn = h.conn ∙ sym conn;
  plays = plays_like b q.role q.session.unread k (sent bytes (Took n) k) refl refl refl (subst (λ (r : PeerRole). PlaysAs b r q.session.unread k) (sym role) (subst (λ (u : List ℕ). PlaysAs b p.role u k) (sym (ap (λ (z : Queue). z.unread) session)) h.plays));
  owed =
      let w = p.session.waiting in
      let c = coming b p.role in
      h.owed ∙ ap (λ (l : List ℕ). k.out ++ (l ++ c)) (sym (take-append-drop n w)) ∙ ap (λ (l : List ℕ). k.out ++ l) (append_assoc (take n w) (drop n w) c) ∙ sym (append_assoc k.out (take n w) (drop n w ++ c))
      ∙ ap (λ (l : List ℕ). (k.out ++ take n l) ++ (drop n w ++ c)) (sym same) ∙ ap (λ (l : List ℕ). (k.out ++ take n bytes) ++ (l ++ c)) (sym (ap (λ (z : Queue). z.waiting) session)) ∙ ap (λ (r : PeerRole). (k.out ++ take n bytes) ++ (q.session.waiting ++ coming b r)) (sym role);
  gone = h.gone ∙ sym gone;
  ended = h.ended ∙ sym ended;
  extra = h.extra ∙ sym extra;
})

pub not_now : (b : Book) (p : Peer) (bytes : List ℕ) (s : Sent) (k : Client) → s ≡ NotYet → Holds b p k → Holds b p (sent bytes s k)
not_now b p bytes s k is h = subst (λ (a : Sent). Holds b p (sent bytes a k)) (sym is) (record { conn = h.conn; plays = plays_like b p.role p.session.unread k (sent bytes NotYet k) refl refl refl h.plays; owed = h.owed; gone = h.gone; ended = h.ended; extra = h.extra })

pub is_gone : (b : Book) (p : Peer) (bytes : List ℕ) (s : Sent) (k : Client) → s ≡ Gone → Holds b p k → Holds b (record p { gone = true }) (sent bytes s k)
is_gone b p bytes s k is h = subst (λ (a : Sent). Holds b (record p { gone = true }) (sent bytes a k)) (sym is) (record { conn = h.conn; plays = plays_like b p.role p.session.unread k (sent bytes Gone k) refl refl refl h.plays; owed = h.owed; gone = refl; ended = h.ended; extra = h.extra })

pub stops_not_yet : (bytes : List ℕ) (s : Sent) (k : Client) → s ≡ NotYet → (sent bytes s k).stopped ≡ true
stops_not_yet bytes s k is = ap (λ (a : Sent). (sent bytes a k).stopped) is

pub stops_gone : (bytes : List ℕ) (s : Sent) (k : Client) → s ≡ Gone → (sent bytes s k).stopped ≡ true
stops_gone bytes s k is = ap (λ (a : Sent). (sent bytes a k).stopped) is

pub goes_by : (n : ℕ) (bytes : List ℕ) (s : Sent) (k : Client) → s ≡ Took n → IsGoing k → IsGoing (sent bytes s k)
goes_by n bytes s k is h = subst (λ (a : Sent). IsGoing (sent bytes a k)) (sym is) (record { here = h.here; going = refl })

pub some_waits : (p : Peer) (bytes : List ℕ) → bytes ≡ p.session.waiting → all_taken p ≡ false → 0 < length bytes
some_waits p bytes is waits = subst (λ (l : List ℕ). 0 < length l) (sym is) (go p.session.waiting waits)
  where
    go : (l : List ℕ) → nat_eq (length l) 0 ≡ false → 0 < length l
    go [] e = absurd cc
    go (x ∷ l) e = omega arith

pub fewer : (p q : Peer) (n : ℕ) → q.session ≡ queue p.session.unread (drop n p.session.waiting) → q.role ≡ p.role → FewWaiting p → FewWaiting q
fewer p q n session role few = subst (λ (r : PeerRole). length q.session.waiting ≤ most_waiting r) (sym role) (omega (arith, few, ap (λ (z : Queue). length z.waiting) session, length-drop n p.session.waiting))

-- all was sent where nothing waits and nothing is to come
pub sent_is : (b : Book) (p : Peer) (k : Client) → Holds b p k → p.session.waiting ≡ [] → coming b p.role ≡ [] → all_sent k ≡ true
sent_is b p k h none left = eq-eqb _ _ (omega (arith, ap length h.owed, length-append k.out (p.session.waiting ++ coming b p.role), length-append p.session.waiting (coming b p.role), ap length none, ap length left))

pub taken_nil : (p : Peer) → all_taken p ≡ true → p.session.waiting ≡ []
taken_nil p e = nil_from_length p.session.waiting (eqb-true (length p.session.waiting) 0 e)

-- a peer whose waiting bytes were offered, and what it is then
pub record Offered (mid q : Peer) (bytes : List ℕ) (s : Sent) : Type 0 where
  pub bytes_are : bytes ≡ mid.session.waiting
  pub some : 0 < length bytes
  pub few : FewWaiting mid
  pub holds : (b : Book) (k : Client) → Holds b mid k → Holds b q (sent bytes s k)

module _ (Known : Book → Type 0) {W : Type 0} (g : Ghosts W) where
  -- what was told so far of the sends to it, and all were taken
  pub record DeliversSo (x y : W) (p p' : Peer) : Type 0 where
    pub entries : List Entry
    pub told : Adds (g.transcript x) (g.transcript y) entries
    pub plays : Played (g.plays x) (g.plays y) entries
    pub delivers : Delivers Known p p' entries
    pub going : (b : Book) → Known b → (k : Client) → Holds b p k → IsGoing k → IsGoing (sent_all entries k)

  pub nothing_sent : (x : W) (p : Peer) → DeliversSo x x p p
  nothing_sent x p = record { entries = []; told = Adds-none (g.transcript x); plays = Plays-none (g.plays x); delivers = record { sends = tt; holds = λ b known k h. h; offers = λ b known k h going. tt }; going = λ b known k h going. going }

  -- one send more
  sent_once : (x y : W) (p mid q : Peer) (bytes : List ℕ) (s : Sent) (h : DeliversSo x y p mid) → mid.conn ≡ p.conn → Offered mid q bytes s → Delivers Known p q (h.entries ++ Send mid.conn bytes s ∷ [])
  sent_once x y p mid q bytes s h same o = record {
    sends = all_more (SendTo p.conn) h.entries (Send mid.conn bytes s ∷ []) h.delivers.sends (same, tt);
    holds = λ b known k held. subst (λ (c : Client). Holds b q c) (sym (sent_more h.entries (Send mid.conn bytes s ∷ []) k)) (o.holds b (sent_all h.entries k) (h.delivers.holds b known k held));
    offers = λ b known k held going. offers_more h.entries (Send mid.conn bytes s ∷ []) k (h.delivers.offers b known k held going) (
      record {
        takes = h.going b known k held going;
        bytes_are = next_is b mid (sent_all h.entries k) bytes o.bytes_are o.few (h.delivers.holds b known k held);
        some = o.some;
      },
      tt,
    );
  }

  pub one_more : (x y z : W) (p mid q : Peer) (bytes : List ℕ) (s : Sent) → DeliversSo x y p mid → mid.conn ≡ p.conn → Adds (g.transcript y) (g.transcript z) (Send mid.conn bytes s ∷ []) → Played (g.plays y) (g.plays z) (Send mid.conn bytes s ∷ []) → Offered mid q bytes s → ((k : Client) → IsGoing k → IsGoing (sent bytes s k)) → DeliversSo x z p q
  one_more x y z p mid q bytes s h same told plays o goes = record {
    entries = h.entries ++ Send mid.conn bytes s ∷ [];
    told = Adds-then (g.transcript x) (g.transcript y) (g.transcript z) h.entries (Send mid.conn bytes s ∷ []) h.told told;
    plays = Plays-then (g.plays x) (g.plays y) (g.plays z) h.entries (Send mid.conn bytes s ∷ []) h.plays plays;
    delivers = sent_once x y p mid q bytes s h same o;
    going = λ b known k held going. subst IsGoing (sym (sent_more h.entries (Send mid.conn bytes s ∷ []) k)) (goes (sent_all h.entries k) (h.going b known k held going));
  }

  -- a send that took not all, and its connection rests
  pub offer_stopped : (x y z : W) (p mid q : Peer) (bytes : List ℕ) (s : Sent) → DeliversSo x y p mid → mid.conn ≡ p.conn → Adds (g.transcript y) (g.transcript z) (Send mid.conn bytes s ∷ []) → Played (g.plays y) (g.plays z) (Send mid.conn bytes s ∷ []) → Offered mid q bytes s → ((k : Client) → (sent bytes s k).stopped ≡ true) → all_taken q ≡ false → OffersOne Known g x z p q (Ok tt)
  offer_stopped x y z p mid q bytes s h same told plays o stops left = record {
    entries = h.entries ++ Send mid.conn bytes s ∷ [];
    told = Adds-then (g.transcript x) (g.transcript y) (g.transcript z) h.entries (Send mid.conn bytes s ∷ []) h.told told;
    plays = Plays-then (g.plays x) (g.plays y) (g.plays z) h.entries (Send mid.conn bytes s ∷ []) h.plays plays;
    delivers = sent_once x y p mid q bytes s h same o;
    going = λ e. absurd (let f : false ≡ true = sym left ∙ e in cc);
    stops = λ e k. ap (λ (c : Client). c.stopped) (sent_more h.entries (Send mid.conn bytes s ∷ []) k) ∙ stops (sent_all h.entries k);
  }

  pub offer_done : (x y : W) (p q : Peer) → DeliversSo x y p q → all_taken q ≡ true → OffersOne Known g x y p q (Ok tt)
  offer_done x y p q h none = record { entries = h.entries; told = h.told; plays = h.plays; delivers = h.delivers; going = λ e. h.going; stops = λ e. absurd (let f : false ≡ true = sym e ∙ none in cc) }

  pub offer_failed : (x y z : W) (p q : Peer) (r : Result (Unit {0}) Fault) → IsErr r → DeliversSo x y p q → Adds (g.transcript y) (g.transcript z) [] → OffersOne Known g x z p q r
  offer_failed x y z p q (Ok u) failed h told = absurd (let e : false ≡ true = failed in cc)
  offer_failed x y z p q (Err f) failed h told = record {
    entries = h.entries;
    told = subst (λ (l : List Entry). Adds (g.transcript x) (g.transcript z) l) (append-nil h.entries) (Adds-then (g.transcript x) (g.transcript y) (g.transcript z) h.entries [] h.told told);
    plays = tt;
    delivers = h.delivers;
    going = tt;
    stops = tt;
  }

-- ---- feeds

module _ {S W : Type 0} (s : space.Ghosts S) (g : Ghosts W) (l : Option Logged) (a : S) where
  -- what was told so far of the sends to a feed: all was taken that waited, and it takes more, or its last send took not all
  pub record FeedsSo (x y : W) (p p' : Peer) : Type 0 where
    pub entries : List Entry
    pub told : Adds (g.transcript x) (g.transcript y) entries
    pub plays : Played (g.plays x) (g.plays y) entries
    pub sends : AllOf (SendTo p.conn) entries
    pub holds : (b : Book) → KnowsLog s l a b → (k : Client) → Holds b p k → Holds b p' (sent_all entries k)
    pub offers : (b : Book) → KnowsLog s l a b → (k : Client) → Holds b p k → IsGoing k → AllOffers k entries
    pub going : all_taken p' ≡ true → (b : Book) → KnowsLog s l a b → (k : Client) → Holds b p k → IsGoing k → IsGoing (sent_all entries k)
    pub stops : all_taken p' ≡ false → (k : Client) → (sent_all entries k).stopped ≡ true

  pub feed_first : (x y : W) (p q : Peer) → OffersOne AnyBook g x y p q (Ok tt) → FeedsSo x y p q
  feed_first x y p q o = record {
    entries = o.entries;
    told = o.told;
    plays = o.plays;
    sends = o.delivers.sends;
    holds = λ b known k h. o.delivers.holds b tt k h;
    offers = λ b known k h going. o.delivers.offers b tt k h going;
    going = λ e b known k h going. o.going e b tt k h going;
    stops = o.stops;
  }

  -- the next piece was put where none waited, and offered
  pub feed_more : (x y z : W) (p mid fil q : Peer) (a' : S) → FeedsSo x y p mid → mid.conn ≡ p.conn → all_taken mid ≡ true → Fills s l a' mid fil → ((b : Book) → KnowsLog s l a b → KnowsLog s l a' b) → OffersOne AnyBook g y z fil q (Ok tt) → FeedsSo x z p q
  feed_more x y z p mid fil q a' h same none f known o = record {
    entries = h.entries ++ o.entries;
    told = Adds-then (g.transcript x) (g.transcript y) (g.transcript z) h.entries o.entries h.told o.told;
    plays = Plays-then (g.plays x) (g.plays y) (g.plays z) h.entries o.entries h.plays o.plays;
    sends = all_more (SendTo p.conn) h.entries o.entries h.sends (subst (λ (c : ℕ). AllOf (SendTo c) o.entries) (f.conn ∙ same) o.delivers.sends);
    holds = λ b kn k held. subst (λ (c : Client). Holds b q c) (sym (sent_more h.entries o.entries k)) (o.delivers.holds b tt (sent_all h.entries k) (f.holds b (known b kn) (sent_all h.entries k) (h.holds b kn k held)));
    offers = λ b kn k held going. offers_more h.entries o.entries k (h.offers b kn k held going) (o.delivers.offers b tt (sent_all h.entries k) (f.holds b (known b kn) (sent_all h.entries k) (h.holds b kn k held)) (h.going none b kn k held going));
    going = λ e b kn k held going. subst IsGoing (sym (sent_more h.entries o.entries k)) (o.going e b tt (sent_all h.entries k) (f.holds b (known b kn) (sent_all h.entries k) (h.holds b kn k held)) (h.going none b kn k held going));
    stops = λ e k. ap (λ (c : Client). c.stopped) (sent_more h.entries o.entries k) ∙ o.stops e (sent_all h.entries k);
  }

  pub fine_of : (b : Book) (q : Peer) (k : Client) → Holds b q k → (rest : List ℕ) × (k.owed ≡ k.out ++ rest)
  fine_of b q k h = (q.session.waiting ++ coming b q.role, h.owed)

  -- it takes no more for now
  pub feed_stopped : (x y : W) (p q : Peer) → FeedsSo x y p q → all_taken q ≡ false → FeedsOne s g l a x y p q (Ok tt)
  feed_stopped x y p q h left = record {
    entries = h.entries;
    told = h.told;
    plays = h.plays;
    sends = h.sends;
    offers = h.offers;
    fine = λ b kn k held. fine_of b q (sent_all h.entries k) (h.holds b kn k held);
    holds = h.holds;
    rests = record { rested = λ b kn k held. right _ _ (h.stops left k) };
    settled = λ b kn k held taken. absurd (let f : false ≡ true = sym left ∙ taken in cc);
  }
    where
      right : (a b : Bool) → b ≡ true → (a || b) ≡ true
      right true b e = refl
      right false b e = e

  -- one that is no feed, or one without an update log
  none_left : (b : Book) (q : Peer) (k : Client) → (is_fed_role q.role ≡ false) ⊎ (l ≡ None) → KnowsLog s l a b → Holds b q k → coming b q.role ≡ []
  none_left b q k (inl e) kn h = not_fed b q k h e
  none_left b q k (inr e) kn h = go q.role h.plays
    where
      go : (r : PeerRole) → PlaysAs b r q.session.unread k → coming b r ≡ []
      go peer.Client x = refl
      go (peer.Fed f) x = absurd (let on : b.is.logs ≡ false = ap (λ (z : Settings). z.logs) kn.book.is_same ∙ ap (λ (z : Option Logged). (settings_of z).logs) e in let t = x.logged in cc)
      go (peer.Called c) x = refl

  pub unfed_rests : (x y : W) (p q : Peer) → FeedsSo x y p q → (is_fed_role q.role ≡ false) ⊎ (l ≡ None) → FeedsOne s g l a x y p q (Ok tt)
  unfed_rests x y p q h unfed = go (all_taken q) refl
    where
      left : (a b : Bool) → a ≡ true → (a || b) ≡ true
      left true b e = refl
      left false b e = absurd cc

      go : (t : Bool) → all_taken q ≡ t → FeedsOne s g l a x y p q (Ok tt)
      go false e = feed_stopped x y p q h e
      go true e = record {
        entries = h.entries;
        told = h.told;
        plays = h.plays;
        sends = h.sends;
        offers = h.offers;
        fine = λ b kn k held. fine_of b q (sent_all h.entries k) (h.holds b kn k held);
        holds = h.holds;
        rests = record { rested = λ b kn k held. let now = h.holds b kn k held in left _ _ (sent_is b q (sent_all h.entries k) now (taken_nil q e) (none_left b q (sent_all h.entries k) unfed kn now)) };
        settled = λ b kn k held taken. none_left b q (sent_all h.entries k) unfed kn (h.holds b kn k held);
      }

  pub nothing_fed : (x : W) (p : Peer) → is_fed_role p.role ≡ false → all_taken p ≡ true → FeedsOne s g l a x x p p (Ok tt)
  nothing_fed x p unfed taken = unfed_rests x x p p (feed_first x x p p (offer_done AnyBook g x x p p (nothing_sent AnyBook g x p) taken)) (inl unfed)

  -- whether it stirs is nothing to what it stands for
  pub settles : (x y : W) (p mid q : Peer) → q ≡ record mid { stirs = is_busy mid } → FeedsOne s g l a x y p mid (Ok tt) → FeedsOne s g l a x y p q (Ok tt)
  settles x y p mid q is d = subst (λ (z : Peer). FeedsOne s g l a x y p z (Ok tt)) (sym is) (record {
    entries = d.entries;
    told = d.told;
    plays = d.plays;
    sends = d.sends;
    offers = d.offers;
    fine = d.fine;
    holds = λ b kn k held. let n = d.holds b kn k held in record { conn = n.conn; plays = n.plays; owed = n.owed; gone = n.gone; ended = n.ended; extra = n.extra };
    rests = d.rests;
    settled = d.settled;
  })

  -- it was given all
  pub feed_all : (x y : W) (p mid fil : Peer) (a' : S) → FeedsSo x y p mid → Fills s l a' mid fil → ((b : Book) → KnowsLog s l a b → KnowsLog s l a' b) → all_taken fil ≡ true → FeedsOne s g l a x y p fil (Ok tt)
  feed_all x y p mid fil a' h f known none = record {
    entries = h.entries;
    told = h.told;
    plays = h.plays;
    sends = h.sends;
    offers = h.offers;
    fine = λ b kn k held. fine_of b mid (sent_all h.entries k) (h.holds b kn k held);
    holds = λ b kn k held. f.holds b (known b kn) (sent_all h.entries k) (h.holds b kn k held);
    rests = record {
      rested = λ b kn k held.
          let was = h.holds b kn k held in
          let now = f.holds b (known b kn) (sent_all h.entries k) was in
          left _ _ (sent_is b fil (sent_all h.entries k) now (taken_nil fil none) (f.all (taken_nil fil none) b (known b kn) (sent_all h.entries k) was));
    };
    settled = λ b kn k held taken. f.all (taken_nil fil none) b (known b kn) (sent_all h.entries k) (h.holds b kn k held);
  }
    where
      left : (a b : Bool) → a ≡ true → (a || b) ≡ true
      left true b e = refl
      left false b e = absurd cc

  -- a call failed
  pub feed_failed : (x y : W) (p q q' : Peer) (r : Result (Unit {0}) TurnErr) → IsErr r → FeedsSo x y p q → FeedsOne s g l a x y p q' r
  feed_failed x y p q q' (Ok u) failed h = absurd (let e : false ≡ true = failed in cc)
  feed_failed x y p q q' (Err e) failed h = record {
    entries = h.entries;
    told = h.told;
    plays = tt;
    sends = h.sends;
    offers = h.offers;
    fine = λ b kn k held. fine_of b q (sent_all h.entries k) (h.holds b kn k held);
    holds = tt;
    rests = tt;
    settled = tt;
  }

  pub first_failed : (x y : W) (p q : Peer) (was : Result (Unit {0}) Fault) (r : Result (Unit {0}) TurnErr) → IsErr r → OffersOne AnyBook g x y p q was → FeedsOne s g l a x y p q r
  first_failed x y p q was (Ok u) failed o = absurd (let e : false ≡ true = failed in cc)
  first_failed x y p q was (Err e) failed o = record {
    entries = o.entries;
    told = o.told;
    plays = tt;
    sends = o.delivers.sends;
    offers = λ b kn k held going. o.delivers.offers b tt k held going;
    fine = λ b kn k held. fine_of b q (sent_all o.entries k) (o.delivers.holds b tt k held);
    holds = tt;
    rests = tt;
    settled = tt;
  }

  pub more_failed : (x y z : W) (p mid fil q : Peer) (a' : S) (was : Result (Unit {0}) Fault) (r : Result (Unit {0}) TurnErr) → IsErr r → FeedsSo x y p mid → mid.conn ≡ p.conn → all_taken mid ≡ true → Fills s l a' mid fil → ((b : Book) → KnowsLog s l a b → KnowsLog s l a' b) → OffersOne AnyBook g y z fil q was → FeedsOne s g l a x z p q r
  more_failed x y z p mid fil q a' was (Ok u) failed h same none f known o = absurd (let e : false ≡ true = failed in cc)
  more_failed x y z p mid fil q a' was (Err e) failed h same none f known o = record {
    entries = h.entries ++ o.entries;
    told = Adds-then (g.transcript x) (g.transcript y) (g.transcript z) h.entries o.entries h.told o.told;
    plays = tt;
    sends = all_more (SendTo p.conn) h.entries o.entries h.sends (subst (λ (c : ℕ). AllOf (SendTo c) o.entries) (f.conn ∙ same) o.delivers.sends);
    offers = λ b kn k held going. offers_more h.entries o.entries k (h.offers b kn k held going) (o.delivers.offers b tt (sent_all h.entries k) (f.holds b (known b kn) (sent_all h.entries k) (h.holds b kn k held)) (h.going none b kn k held going));
    fine = λ b kn k held. subst (λ (c : Client). (rest : List ℕ) × (c.owed ≡ c.out ++ rest)) (sym (sent_more h.entries o.entries k)) (fine_of b q (sent_all o.entries (sent_all h.entries k)) (o.delivers.holds b tt (sent_all h.entries k) (f.holds b (known b kn) (sent_all h.entries k) (h.holds b kn k held))));
    holds = tt;
    rests = tt;
    settled = tt;
  }

-- what is known of a log is known where it was read only
pub still_known : {S : Type 0} (s : space.Ghosts S) (l : Option Logged) (a a' : S) → OnlyReads s a a' → (b : Book) → KnowsLog s l a b → KnowsLog s l a' b
still_known s l a a' reads b h = record { told = h.told; book = subst (IsBook l b) (sym (reads.files h.told 2)) h.book }
