-- What comes next of the update log is put where nothing waits.
use Rattle.std.proofs.Common.{◌≡◌, ◌<◌, ◌≤◌, ◌+◌, ℕ, zero, suc, true, false, List, [], ◌∷◌, ◌++◌, length, take, refl, sym, ap, subst, ◌∙◌, arith, append_assoc, length-append}
use Rattle.std.specs.Prelude.{Option, Some}
use Rattle.tc_space.specs.declared.space.Space as space
use Rattle.ty_ulog.specs.declared.feed.Feed.{Feed}
use Rattle.ty_ulog.specs.Feeds.{GivesNext, Gives, left, room}
use Rattle.ty_ulog.specs.Log.{above, log_bytes}
use Rattle.ty_core.specs.Queues.{queue}
use Rattle.ty_world.specs.Clients.{Client, of_feed}
use Rattle.ty_rounds.specs.Books.{Book, KnowsLog}
use Rattle.ty_rounds.specs.Holding.{Holds, PlaysAs, coming}
use Rattle.ty_rounds.specs.Peers.{all_taken, is_fed}
use Rattle.ty_rounds.specs.Ready.{StayFew, most_unread, most_waiting, unread_of}
use Rattle.ty_rounds.specs.Sending.{Fills, room_of}
use Rattle.ty_rounds.proofs.SendLaws.{some_waits}
use Rattle.ty_rounds.specs.declared.logging.Logged.{Logged}
use Rattle.ty_rounds.specs.declared.peer.Peer.{Peer}
use Rattle.ty_rounds.specs.declared.peer.Role.{Role}
use Rattle.ty_rounds.specs.declared.peer.Role.TheVariants as peer

-- bytes were put behind what waits, and the feed is one that was given them
abbrev pub filled : Peer → Feed → List ℕ → Peer
filled p g bytes = record p { role = peer.Fed g; session = queue p.session.unread (p.session.waiting ++ bytes) }

-- what was put
pub record Puts {S : Type 0} (s : space.Ghosts S) (l : Logged) (a : S) (p : Peer) (f g : Feed) (bytes : List ℕ) : Type 0 where
  pub role_is : p.role ≡ peer.Fed f
  pub none : p.session.waiting ≡ []
  pub above_is : g.above ≡ f.above
  pub few : length bytes ≤ 4096
  pub falls : room g.place + length bytes ≤ room f.place
  pub gives : GivesNext s l.ulog a f g bytes

module _ {S : Type 0} (s : space.Ghosts S) (l : Logged) (a : S) (p : Peer) (f g : Feed) (bytes : List ℕ) (x : Puts s l a p f g bytes) where
  given : (b : Book) → KnowsLog s (Some l) a b → Gives f g b.records bytes
  given b kn = x.gives b.records (kn.told, kn.book.holds)

  plays : (b : Book) → KnowsLog s (Some l) a b → (k : Client) → PlaysAs b p.role p.session.unread k → PlaysAs b (peer.Fed g) p.session.unread k
  plays b kn k h =
      let y = subst (λ (r : Role). PlaysAs b r p.session.unread k) x.role_is h in
      record {
        logged = y.logged;
        base = y.base;
        role_is = y.role_is ∙ ap (λ (n : ℕ). of_feed n y.base) (sym x.above_is);
        owed = y.owed ∙ ap (λ (n : ℕ). y.base ++ log_bytes (above n b.records)) (sym x.above_is);
        placed = (given b kn).stands y.placed;
      }

  owes : (b : Book) → KnowsLog s (Some l) a b → (k : Client) → k.owed ≡ k.out ++ (p.session.waiting ++ coming b p.role) → k.owed ≡ k.out ++ ((p.session.waiting ++ bytes) ++ left g b.records)
  owes b kn k h =
      let w = p.session.waiting in
      h ∙ ap (λ (r : Role). k.out ++ (w ++ coming b r)) x.role_is ∙ ap (λ (r : List ℕ). k.out ++ (w ++ r)) (given b kn).parts ∙ ap (λ (r : List ℕ). k.out ++ r) (sym (append_assoc w bytes (left g b.records)))

  holds_filled : (b : Book) → KnowsLog s (Some l) a b → (k : Client) → Holds b p k → Holds b (filled p g bytes) k
  holds_filled b kn k h = record { conn = h.conn; plays = plays b kn k h.plays; owed = owes b kn k h.owed; gone = h.gone; ended = h.ended; extra = h.extra }

  none_given : p.session.waiting ++ bytes ≡ [] → bytes ≡ []
  none_given e = ap (λ (w : List ℕ). w ++ bytes) (sym x.none) ∙ e

  pub fills : (p' : Peer) → p' ≡ filled p g bytes → Fills s (Some l) a p p'
  fills p' is = subst (Fills s (Some l) a p) (sym is) (record {
    conn = refl;
    fed = refl;
    few = omega (arith, x.few, length-append p.session.waiting bytes, ap length x.none);
    falls = subst (λ (r : Role). room g.place + length (p.session.waiting ++ bytes) ≤ room_of r) (sym x.role_is) (omega (arith, x.falls, length-append p.session.waiting bytes, ap length x.none));
    holds = λ b kn k h. holds_filled b kn k h;
    all = λ e b kn k h. (given b kn).all (none_given e);
  })

  pub fills_few : (p' : Peer) → p' ≡ filled p g bytes → StayFew (p ∷ []) (p' ∷ [])
  fills_few p' is = subst (λ (q : Peer). StayFew (p ∷ []) (q ∷ [])) (sym is) (record {
    unread = λ h. (subst (λ (r : Role). length (unread_of r p.session.unread) ≤ most_unread r) x.role_is h.0, tt);
    waiting = λ h. (omega (arith, x.few, length-append p.session.waiting bytes, ap length x.none), tt);
  })

-- so many bytes of a buffer
take_most : (n : ℕ) (xs : List ℕ) → length (take n xs) ≤ n
take_most zero xs = omega arith
take_most (suc n) [] = omega arith
take_most (suc n) (x ∷ xs) = let h = take_most n xs in omega (arith, h)

pub puts_front : {S : Type 0} (s : space.Ghosts S) (l : Logged) (a : S) (p : Peer) (f g : Feed) (n : ℕ) (into : List ℕ) → p.role ≡ peer.Fed f → p.session.waiting ≡ [] → g.above ≡ f.above → (n ≤ 4096) × (room g.place + n ≤ room f.place) → GivesNext s l.ulog a f g (take n into) → Puts s l a p f g (take n into)
puts_front s l a p f g n into role none above few gives = let m = take_most n into in record {
  role_is = role;
  none = none;
  above_is = above;
  few = omega (arith, m, few.0);
  falls = omega (arith, m, few.1);
  gives = gives;
}

-- what few bytes a feed holds then
pub few_filled : (p : Peer) → is_fed p.role ≡ true → length p.session.waiting ≤ 4096 → length p.session.waiting ≤ most_waiting p.role
few_filled p fed few = go p.role fed
  where
    go : (r : Role) → is_fed r ≡ true → length p.session.waiting ≤ most_waiting r
    go peer.Client e = absurd cc
    go (peer.Fed f) e = omega (arith, few)
    go (peer.Called c) e = absurd cc

-- where it is the log that is kept
pub fills_of : {S : Type 0} (s : space.Ghosts S) (l : Option Logged) (x : Logged) (a : S) (p p' : Peer) → l ≡ Some x → Fills s (Some x) a p p' → Fills s l a p p'
fills_of s l x a p p' is h = subst (λ (z : Option Logged). Fills s z a p p') (sym is) h

-- the less it may still be given, where any came
pub room_falls : (mid fil q : Peer) → room_of fil.role + length fil.session.waiting ≤ room_of mid.role → all_taken fil ≡ false → q.role ≡ fil.role → room_of q.role < room_of mid.role
room_falls mid fil q falls some role = let w = some_waits fil fil.session.waiting refl some in omega (arith, falls, w, ap room_of role)
