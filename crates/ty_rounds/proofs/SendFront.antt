-- Sends to each connection in turn, seen from the world.
use Rattle.std.proofs.Common.{◌≡◌, ℕ, zero, suc, ◌+◌, ◌<◌, ◌≤◌, Bool, true, false, not, cond, List, [], ◌∷◌, ◌++◌, length, take, get_or, set, map, refl, sym, ap, subst, ◌∙◌, append_assoc, length-append, arith, Ok, Err}
use Rattle.std.proofs.lemmas.Bool.{cond-false, cond-true, or_from, or_parts}
use Rattle.std.specs.Prelude.{nat_eq, ◌||◌, Option, Result, IsErr}
use Rattle.std.specs.List.{list_any}
use Rattle.std.proofs.lemmas.List.{append-nil, take_all}
use Rattle.tc_io.specs.declared.wire.Wire.{Ghosts}
use Rattle.tc_io.specs.declared.wire.Sent.TheVariants.{Took, NotYet, Gone}
use Rattle.tc_io.specs.declared.wire.Entry.{Entry}
use Rattle.tc_io.specs.declared.wire.Entry.TheVariants.{Open, Dial, Event, Send, Close}
use Rattle.tc_space.specs.Frames.{OnlyReads}
use Rattle.tc_space.specs.declared.space.Space as space
use Rattle.ty_world.specs.World.{Client, World, sent, at_conn, is_rested, is_restless, happens, world_after, SendsTo, AllOf, AllAsked, AllCame}
use Rattle.ty_rounds.specs.Books.{Book, KnowsLog}
use Rattle.ty_rounds.specs.Holding.{Holds, AllFine, AllHold, AllGoing, AllSettled, AreApart, IsSettled, Same, book_of}
use Rattle.ty_rounds.specs.Peers.{numbers}
use Rattle.ty_rounds.specs.Sending.{SendTo, sent_by, sent_all, AllOffers, DeliversAll, DeliversFront, FeedsOne, NoneRestless, SentFront}
use Rattle.ty_rounds.specs.declared.logging.Logged.{Logged}
use Rattle.ty_rounds.specs.declared.outcome.TurnErr.{TurnErr}
use Rattle.ty_rounds.specs.declared.peer.Peer.{Peer}
use Rattle.ty_rounds.proofs.Entries.{after_more, asked_more, came_more, all_more, all_are, same_refl}
use Rattle.ty_rounds.proofs.Fine.{hold_fine}
use Rattle.ty_rounds.proofs.Places.{set_holds, split_at, at_one, same_parts}
use Rattle.ty_rounds.proofs.SendLaws.{still_known}
use Rattle.ty_rounds.proofs.Telling.{Adds-then, Plays-then, Adds-none, Plays-none}

-- ---- a world behind sends to one connection

keeps_conn : (e : Entry) (k : Client) → (sent_by e k).conn ≡ k.conn
keeps_conn (Open at) k = refl
keeps_conn (Dial host port answer) k = refl
keeps_conn (Event paused busy ev bytes) k = refl
keeps_conn (Send d bytes (Took n)) k = refl
keeps_conn (Send d bytes NotYet) k = refl
keeps_conn (Send d bytes Gone) k = refl
keeps_conn (Close d) k = refl

at_none : (c : ℕ) (ks : List Client) → map (at_conn c (λ (k : Client). k)) ks ≡ ks
at_none c [] = refl
at_none c (k ∷ ks) = go (nat_eq k.conn c) (at_none c ks)
  where
    go : (b : Bool) → map (at_conn c (λ (k : Client). k)) ks ≡ ks → cond b k k ∷ map (at_conn c (λ (k : Client). k)) ks ≡ k ∷ ks
    go true ih = ap (λ (l : List Client). k ∷ l) ih
    go false ih = ap (λ (l : List Client). k ∷ l) ih

at_twice : (c : ℕ) (f g : Client → Client) (ks : List Client) → ((k : Client) → (g k).conn ≡ k.conn) → map (at_conn c f) (map (at_conn c g) ks) ≡ map (at_conn c (λ (k : Client). f (g k))) ks
at_twice c f g [] keeps = refl
at_twice c f g (k ∷ ks) keeps = λ i. one i ∷ at_twice c f g ks keeps i
  where
    go : (b : Bool) → nat_eq k.conn c ≡ b → at_conn c f (cond b (g k) k) ≡ cond b (f (g k)) k
    go true is = cond-true (nat_eq (g k).conn c) (f (g k)) (g k) (ap (λ (n : ℕ). nat_eq n c) (keeps k) ∙ is)
    go false is = cond-false (nat_eq k.conn c) (f k) k is

    one : at_conn c f (at_conn c g k) ≡ at_conn c (λ (k : Client). f (g k)) k
    one = go (nat_eq k.conn c) refl

one_happens : (c : ℕ) (e : Entry) (w : World) → SendTo c e → happens w e ≡ record w { there = map (at_conn c (sent_by e)) w.there }
one_happens c (Open at) w s = absurd s
one_happens c (Dial host port answer) w s = absurd s
one_happens c (Event paused busy ev bytes) w s = absurd s
one_happens c (Send d bytes answer) w s = ap (λ (n : ℕ). record w { there = map (at_conn n (sent bytes answer)) w.there }) s
one_happens c (Close d) w s = absurd s

abbrev behind_sends : World → ℕ → List Entry → World
behind_sends w c es = record w { there = map (at_conn c (sent_all es)) w.there }

sends_happen : (c : ℕ) (es : List Entry) (w : World) → AllOf (SendTo c) es → world_after es w ≡ behind_sends w c es
sends_happen c [] w s = ap (λ (l : List Client). record w { there = l }) (sym (at_none c w.there))
sends_happen c (e ∷ es) w s =
    ap (world_after es) (one_happens c e w s.0)
    ∙ sends_happen c es (record w { there = map (at_conn c (sent_by e)) w.there }) s.1
    ∙ ap (λ (l : List Client). record w { there = l }) (at_twice c (sent_all es) (sent_by e) w.there (keeps_conn e))

-- the sends to it, seen from the world
offers_asked : (c : ℕ) (es : List Entry) (w : World) (before : List Client) (k : Client) (behind : List Client) → w.there ≡ before ++ k ∷ behind → k.conn ≡ c → list_any (λ j. nat_eq j.conn c) (before ++ behind) ≡ false → NoneRestless before → AllOf (SendTo c) es → AllOffers k es → AllAsked w es
offers_asked c [] w before k behind there named alone rested sends offers = tt
offers_asked c (Open at ∷ es) w before k behind there named alone rested sends offers = absurd sends.0
offers_asked c (Dial host port answer ∷ es) w before k behind there named alone rested sends offers = absurd sends.0
offers_asked c (Event paused busy ev bytes ∷ es) w before k behind there named alone rested sends offers = absurd sends.0
offers_asked c (Send d bytes answer ∷ es) w before k behind there named alone rested sends offers =
    let o = offers.0 in
    let apart : list_any (λ j. nat_eq j.conn d) (before ++ behind) ≡ false = ap (λ (n : ℕ). list_any (λ j. nat_eq j.conn n) (before ++ behind)) sends.0 ∙ alone in (
      record { before = before; client = k; behind = behind; there = there; conn = named ∙ sym sends.0; alone = apart; here = o.takes.here; going = o.takes.going; bytes_are = o.bytes_are; some = o.some; rested = rested },
      offers_asked c es (happens w (Send d bytes answer)) before (sent bytes answer k) behind (ap (map (at_conn d (sent bytes answer))) there ∙ at_one d (sent bytes answer) before k behind (named ∙ sym sends.0) apart) (keeps_conn (Send d bytes answer) k ∙ named) alone rested sends.1 offers.1,
    )
offers_asked c (Close d ∷ es) w before k behind there named alone rested sends offers = absurd sends.0

sends_came : (c : ℕ) (es : List Entry) (w : World) → AllOf (SendTo c) es → AllCame w es
sends_came c [] w s = tt
sends_came c (Open at ∷ es) w s = absurd s.0
sends_came c (Dial host port answer ∷ es) w s = absurd s.0
sends_came c (Event paused busy ev bytes ∷ es) w s = absurd s.0
sends_came c (Send d bytes answer ∷ es) w s = (tt, sends_came c es (happens w (Send d bytes answer)) s.1)
sends_came c (Close d ∷ es) w s = absurd s.0

one_open : (conns : List ℕ) (c : ℕ) → list_any (nat_eq c) conns ≡ true → (e : Entry) → SendTo c e → SendsTo conns e
one_open conns c there (Open at) s = s
one_open conns c there (Dial host port answer) s = s
one_open conns c there (Event paused busy ev bytes) s = s
one_open conns c there (Send d bytes answer) s = ap (λ (n : ℕ). list_any (nat_eq n) conns) s ∙ there
one_open conns c there (Close d) s = s

-- ---- lists of clients

restless_more : (ks : List Client) (k : Client) → NoneRestless ks → is_rested k ≡ true → NoneRestless (ks ++ k ∷ [])
restless_more [] k r is = or_from (is_restless k) false (ap not is) refl
restless_more (x ∷ ks) k r is = let s = or_parts (is_restless x) (list_any is_restless ks) r in or_from (is_restless x) (list_any is_restless (ks ++ k ∷ [])) s.0 (restless_more ks k s.1 is)

fine_set : (before : List Client) (k j : Client) (behind : List Client) → ((rest : List ℕ) × (j.owed ≡ j.out ++ rest)) → AllFine (before ++ k ∷ behind) → AllFine (before ++ j ∷ behind)
fine_set [] k j behind one h = (one, h.1)
fine_set (x ∷ before) k j behind one h = (h.0, fine_set before k j behind one h.1)

same_long : (b : Book) (ps : List Peer) (ks : List Client) → AllHold b ps ks → length ks ≡ length ps
same_long b [] [] a = refl
same_long b [] (k ∷ ks) a = absurd a
same_long b (p ∷ ps) [] a = absurd a
same_long b (p ∷ ps) (k ∷ ks) a = let e = same_long b ps ks a.1 in omega (arith, e)

-- ---- those that were given all

none_settled : (b : Book) (ps : List Peer) → AllSettled b (take 0 ps)
none_settled b [] = tt
none_settled b (x ∷ ps) = tt

settled_next : (b : Book) (ps : List Peer) (i : ℕ) (q : Peer) → i < length ps → IsSettled b q → AllSettled b (take i ps) → AllSettled b (take (suc i) (set ps i q))
settled_next b [] i q lt one h = absurd (omega (arith, lt))
settled_next b (x ∷ ps) zero q lt one h = (one, none_settled b ps)
settled_next b (x ∷ ps) (suc i) q lt one h = (h.0, settled_next b ps i q (omega (arith, lt)) one h.1)

settled_more : (b : Book) (ps : List Peer) (i : ℕ) (q : Peer) → i < length ps → IsSettled b q → AllSettled b (take i ps) → AllSettled b (take (i + 1) (set ps i q))
settled_more b ps i q lt one h = subst (λ (n : ℕ). AllSettled b (take n (set ps i q))) (let e : suc i ≡ i + 1 = omega arith in e) (settled_next b ps i q lt one h)

-- ---- one connection further

-- whatever became of it
record Further (i : ℕ) (p : Peer) (w v v' : World) (xs ys : List Entry) : Type 0 where
  there : v'.there ≡ map (at_conn p.conn (sent_all ys)) v.there
  past : v'.past ≡ w.past
  same : Same w v'
  asked : AllAsked w (xs ++ ys)
  came : AllCame w (xs ++ ys)
  done : List Client
  client : Client
  left : List Client
  held : Holds (book_of w) p client
  were : v.there ≡ done ++ client ∷ left
  parts : v'.there ≡ done ++ sent_all ys client ∷ left
  count_is : length done ≡ i
  rested : NoneRestless done
  going : AllGoing left

module _ {S W : Type 0} (s : space.Ghosts S) (g : Ghosts W) (l : Option Logged) (a a' : S) where
  further : (y z : W) (now : List Peer) (i : ℕ) (p q : Peer) (xs : List Entry) (w : World) (r : Result (Unit {0}) TurnErr) → AreApart (numbers now) → i < length now → p ≡ get_or now i p → OnlyReads s a a' → KnowsLog s l a (book_of w) → SentFront now i w (world_after xs w) xs → (d : FeedsOne s g l a' y z p q r) → Further i p w (world_after xs w) (world_after (xs ++ d.entries) w) xs d.entries
  further y z now i p q xs w r apart lt is reads known f d =
      let b = book_of w in
      let v = world_after xs w in
      let ys = d.entries in
      let kn = still_known s l a a' reads b known in
      let t = split_at b now v.there i p apart lt is f.each in
      let same = same_parts f.done f.left t.before (t.client ∷ t.behind) (sym f.parts ∙ t.there) (f.count_is ∙ sym t.at) in
      let going : AllGoing (t.client ∷ t.behind) = subst AllGoing same.1 f.going in
      let rested : NoneRestless t.before = subst NoneRestless same.0 f.rested in
      let offers = d.offers b kn t.client t.holds going.0 in
      let there : world_after (xs ++ ys) w ≡ behind_sends v p.conn ys = after_more xs ys w ∙ sends_happen p.conn ys v d.sends in
      subst (λ (u : World). Further i p w v u xs ys) (sym there) (record {
        there = refl;
        past = f.past;
        same = record {
          is_same = f.same.is_same;
          mark = f.same.mark;
          records = f.same.records;
          ticks = f.same.ticks;
          due = f.same.due;
          gaps = f.same.gaps;
          looked = f.same.looked;
          walk = f.same.walk;
          marks = f.same.marks;
          copies = f.same.copies;
          shut = f.same.shut;
          events = f.same.events;
          opens = f.same.opens;
          given = f.same.given;
        };
        asked = asked_more xs ys w f.asked (offers_asked p.conn ys v t.before t.client t.behind t.there t.holds.conn t.alone rested d.sends offers);
        came = came_more xs ys w f.came (sends_came p.conn ys v d.sends);
        done = t.before;
        client = t.client;
        left = t.behind;
        held = t.holds;
        were = t.there;
        parts = ap (map (at_conn p.conn (sent_all ys))) t.there ∙ at_one p.conn (sent_all ys) t.before t.client t.behind t.holds.conn t.alone;
        count_is = t.at;
        rested = rested;
        going = going.1;
      })

-- ---- all of them

module _ {S W : Type 0} (s : space.Ghosts S) (g : Ghosts W) (l : Option Logged) (a : S) where
  pub none_sent : (x : W) (ps : List Peer) → DeliversFront s g l a x x ps ps 0
  none_sent x ps = record {
    entries = [];
    told = Adds-none (g.transcript x);
    plays = Plays-none (g.plays x);
    calls = tt;
    ends = λ w known held going. record {
      each = held;
      past = refl;
      same = same_refl w;
      asked = tt;
      came = tt;
      done = [];
      left = w.there;
      parts = refl;
      count_is = refl;
      rested = refl;
      going = going;
      settled = none_settled (book_of w) ps;
    };
  }

  pub more_sent : (x y z : W) (a' : S) (ps now : List Peer) (i : ℕ) (p q : Peer) → AreApart (numbers now) → i < length now → p ≡ get_or now i p → list_any (nat_eq p.conn) (g.conns x) ≡ true → OnlyReads s a a' → DeliversFront s g l a x y ps now i → FeedsOne s g l a' y z p q (Ok tt)
      → DeliversFront s g l a x z ps (set now i q) (i + 1)
  more_sent x y z a' ps now i p q apart lt is there reads f one = record {
    entries = f.entries ++ one.entries;
    told = Adds-then (g.transcript x) (g.transcript y) (g.transcript z) f.entries one.entries f.told one.told;
    plays = Plays-then (g.plays x) (g.plays y) (g.plays z) f.entries one.entries f.plays one.plays;
    calls = all_more (SendsTo (g.conns x)) f.entries one.entries f.calls (all_are (SendTo p.conn) (SendsTo (g.conns x)) (one_open (g.conns x) p.conn there) one.entries one.sends);
    ends = λ w known held going.
        let b = book_of w in
        let kn = still_known s l a a' reads b known in
        let front = f.ends w known held going in
        let n = further s g l a a' y z now i p q f.entries w (Ok tt) apart lt is reads known front one in
        record {
          each = subst (AllHold b (set now i q)) (sym n.there) (set_holds b p.conn (sent_all one.entries) now (world_after f.entries w).there i p q apart lt is refl (one.holds b kn) front.each);
          past = n.past;
          same = n.same;
          asked = n.asked;
          came = n.came;
          done = n.done ++ sent_all one.entries n.client ∷ [];
          left = n.left;
          parts = n.parts ∙ sym (append_assoc n.done (sent_all one.entries n.client ∷ []) n.left);
          count_is = omega (arith, n.count_is, length-append n.done (sent_all one.entries n.client ∷ []));
          rested = restless_more n.done (sent_all one.entries n.client) n.rested (one.rests.rested b kn n.client n.held);
          going = n.going;
          settled = settled_more b now i q lt (one.settled b kn n.client n.held) front.settled;
        };
  }

  pub sends_fail : (x y z : W) (a' : S) (ps now ps' : List Peer) (i : ℕ) (p q : Peer) (r r' : Result (Unit {0}) TurnErr) → IsErr r' → AreApart (numbers now) → i < length now → p ≡ get_or now i p → list_any (nat_eq p.conn) (g.conns x) ≡ true → OnlyReads s a a' → DeliversFront s g l a x y ps now i
      → FeedsOne s g l a' y z p q r → DeliversAll s g l a x z ps ps' r'
  sends_fail x y z a' ps now ps' i p q r (Ok u) failed apart lt is there reads f one = absurd (let e : false ≡ true = failed in cc)
  sends_fail x y z a' ps now ps' i p q r (Err e) failed apart lt is there reads f one = record {
    entries = f.entries ++ one.entries;
    told = Adds-then (g.transcript x) (g.transcript y) (g.transcript z) f.entries one.entries f.told one.told;
    plays = tt;
    calls = all_more (SendsTo (g.conns x)) f.entries one.entries f.calls (all_are (SendTo p.conn) (SendsTo (g.conns x)) (one_open (g.conns x) p.conn there) one.entries one.sends);
    ends = λ w known held going fine.
        let b = book_of w in
        let kn = still_known s l a a' reads b known in
        let front = f.ends w known held going in
        let n = further s g l a a' y z now i p q f.entries w r apart lt is reads known front one in
        let were : AllFine (n.done ++ n.client ∷ n.left) = subst AllFine n.were (hold_fine b now (world_after f.entries w).there front.each) in
        record {
          fine = (
            subst AllFine (sym n.parts) (fine_set n.done n.client (sent_all one.entries n.client) n.left (one.fine b kn n.client n.held) were),
            subst AllFine (sym n.past) fine.1,
          );
          past = n.past;
          same = n.same;
          asked = n.asked;
          came = n.came;
          done = tt;
        };
  }

  pub all_delivered : (x y : W) (ps now : List Peer) (i : ℕ) → DeliversFront s g l a x y ps now i → length now ≤ i → DeliversAll s g l a x y ps now (Ok tt)
  all_delivered x y ps now i f le = record {
    entries = f.entries;
    told = f.told;
    plays = f.plays;
    calls = f.calls;
    ends = λ w known held going fine.
        let b = book_of w in
        let v = world_after f.entries w in
        let n = f.ends w known held going in
        record {
          fine = (hold_fine b now v.there n.each, subst AllFine (sym n.past) fine.1);
          past = n.past;
          same = n.same;
          asked = n.asked;
          came = n.came;
          done = (
            n.each,
            subst NoneRestless (none_left n.done n.left v.there n.parts (let e = same_long b now v.there n.each in omega (arith, e, le, n.count_is))) n.rested,
            subst (AllSettled b) (take_all i now le) n.settled,
          );
        };
  }
    where
      none_left : (done left all : List Client) → all ≡ done ++ left → length all ≤ length done → done ≡ all
      none_left done [] all is few = sym (is ∙ append-nil done)
      none_left done (k ∷ left) all is few = absurd (omega (arith, few, ap length is, length-append done (k ∷ left)))
