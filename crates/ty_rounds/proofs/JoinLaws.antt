-- Feeds are owed what came into the log, and the link knows the last timestamp.
use Rattle.std.proofs.Common.{◌≡◌, ◌≤◌, ◌<◌, inl, inr, ℕ, zero, suc, Bool, true, false, not, cond, List, [], ◌∷◌, ◌++◌, length, map, take, drop, get_or, set, refl, sym, ap, subst, ◌∙◌, append_assoc, arith}
use Rattle.std.proofs.lemmas.Bool.{or_parts}
use Rattle.std.specs.Prelude.{◌&&◌, ◌||◌, Option, Some, None, is_some, option_map}
use Rattle.ty_ulog.specs.Feeds.{left}
use Rattle.ty_ulog.specs.declared.record.Record.{Record}
use Rattle.ty_ulog.specs.Log.{Follow, last_of, above, log_bytes}
use Rattle.ty_ulog.proofs.Feeding.{left_more, stands_more}
use Rattle.ty_world.specs.Clients.{Client, Role, of_client, of_feed, to_master}
use Rattle.ty_world.specs.Logs.{Settings, records_after}
use Rattle.ty_world.specs.Rounds.{fed, fed_by, feed_all}
use Rattle.ty_world.proofs.Fronts.{behind}
use Rattle.ty_rounds.specs.Books.{Book, IsBook, SameTerms, address, held, with_records}
use Rattle.ty_rounds.specs.Holding.{Holds, AllHold, HoldsMid, AllMid, PlaysAs, Wired, coming, IsNew}
use Rattle.ty_rounds.specs.Joining.{Joins, role_held, with_held, all_held, held_after}
use Rattle.ty_rounds.specs.Keeping.{added_to, book_after}
use Rattle.ty_rounds.specs.Peers.{all_taken, bad_of, has_link, is_called, is_fed, is_over, numbers, waits, whole_of}
use Rattle.ty_rounds.specs.Ready.{Each, FewUnread, FewWaiting, IsCalm, IsIntroduced, KnowsHeld, LinksKnow, LinksMay, OneLink, most_unread, most_waiting, unread_of}
use Rattle.ty_rounds.specs.Spans.{IsSpan}
use Rattle.ty_rounds.specs.Works.{Work}
use Rattle.ty_rounds.specs.declared.logging.Logged.{Logged}
use Rattle.ty_rounds.specs.declared.logging.Master.{Master}
use Rattle.ty_slave.specs.Lines.{Line}
use Rattle.ty_rounds.specs.declared.peer.Caller.{Caller}
use Rattle.ty_rounds.specs.declared.peer.Peer.{Peer}
use Rattle.ty_rounds.specs.declared.peer.Role.{Role as PeerRole}
use Rattle.ty_rounds.specs.declared.peer.Role.TheVariants as peer
use Rattle.ty_rounds.specs.declared.span.Span.{Span}
use Rattle.ty_world.proofs.Fine.{feed_more}
use Rattle.ty_rounds.proofs.Few.{few_refl}

-- ---- one connection

abbrev grown : Book → List Record → Book
grown b more = with_records b (b.records ++ more)

fed_is : (log : List Record) (k : Client) (r : Role) → k.role ≡ r → fed log k ≡ fed_by log r k
fed_is log k r e = ap (λ (q : Role). fed_by log q k) e

hold_grows : (b : Book) (more : List Record) (stamp : ℕ) (p : Peer) (k : Client) → Follow (last_of 0 b.records) more → stamp ≡ held (grown b more) → Holds b p k → Holds (grown b more) (with_held stamp p) (fed (b.records ++ more) k)
hold_grows b more stamp p k follow last h = go p.role refl h.plays
  where
    -- nothing is still to be given
    none : (r : PeerRole) → p.role ≡ r → coming b r ≡ [] → coming (grown b more) (role_held stamp r) ≡ [] → k.owed ≡ k.out ++ (p.session.waiting ++ coming (grown b more) (role_held stamp p.role))
    none r e now then = h.owed ∙ ap (λ (l : List ℕ). k.out ++ (p.session.waiting ++ l)) (ap (coming b) e ∙ now ∙ sym then ∙ sym (ap (λ (z : PeerRole). coming (grown b more) (role_held stamp z)) e))

    go : (r : PeerRole) → p.role ≡ r → PlaysAs b r p.session.unread k → Holds (grown b more) (with_held stamp p) (fed (b.records ++ more) k)
    go peer.Client e x = subst (λ (j : Client). Holds (grown b more) (with_held stamp p) j) (sym (fed_is (b.records ++ more) k of_client x.role_is)) (record {
      conn = h.conn;
      plays = subst (λ (z : PeerRole). PlaysAs (grown b more) (role_held stamp z) p.session.unread k) (sym e) x;
      owed = none peer.Client e refl refl;
      gone = h.gone;
      ended = h.ended;
      extra = h.extra;
    })
    go (peer.Called m) e x = subst (λ (j : Client). Holds (grown b more) (with_held stamp p) j) (sym (fed_is (b.records ++ more) k (to_master m.link.named m.broken) x.role_is)) (record {
      conn = h.conn;
      plays = subst (λ (z : PeerRole). PlaysAs (grown b more) (role_held stamp z) p.session.unread k) (sym e) (record { role_is = x.role_is; unread_is = x.unread_is; own_is = x.own_is; held_is = last });
      owed = none (peer.Called m) e refl refl;
      gone = h.gone;
      ended = h.ended;
      extra = h.extra;
    })
    go (peer.Fed f) e x =
        let new = log_bytes (above f.above more) in
        let rest = left f b.records in
        let w = p.session.waiting in
        let was : x.base ++ log_bytes (above f.above b.records) ≡ k.out ++ (w ++ rest) = sym x.owed ∙ h.owed ∙ ap (λ (z : PeerRole). k.out ++ (w ++ coming b z)) e in
        subst (λ (j : Client). Holds (grown b more) (with_held stamp p) j) (sym (fed_is (b.records ++ more) k (of_feed f.above x.base) x.role_is)) (record {
          conn = h.conn;
          plays = subst (λ (z : PeerRole). PlaysAs (grown b more) (role_held stamp z) p.session.unread (record k { owed = x.base ++ log_bytes (above f.above (b.records ++ more)) })) (sym e)
              (record { logged = x.logged; base = x.base; role_is = x.role_is; owed = refl; placed = stands_more f b.records more x.placed follow });
          owed = feed_more f.above x.base b.records more ∙ ap (λ (l : List ℕ). l ++ new) was ∙ append_assoc k.out (w ++ rest) new
              ∙ ap (λ (l : List ℕ). k.out ++ l) (append_assoc w rest new ∙ ap (λ (l : List ℕ). w ++ l) (sym (left_more f b.records more x.placed follow)))
              ∙ sym (ap (λ (z : PeerRole). k.out ++ (w ++ coming (grown b more) (role_held stamp z))) e);
          gone = h.gone;
          ended = h.ended;
          extra = h.extra;
        })

new_grows : (b : Book) (more : List Record) (stamp : ℕ) (p : Peer) (k : Client) → IsNew b p k → Holds (grown b more) (with_held stamp p) (fed (b.records ++ more) k)
new_grows b more stamp p k h =
    let new = log_bytes (above h.above (b.records ++ more)) in
    let w = p.session.waiting in
    subst (λ (j : Client). Holds (grown b more) (with_held stamp p) j) (sym (fed_is (b.records ++ more) k (of_feed h.above k.owed) h.k_role)) (record {
      conn = h.conn;
      plays = subst (λ (z : PeerRole). PlaysAs (grown b more) (role_held stamp z) p.session.unread (record k { owed = k.owed ++ new })) (sym h.p_role) (record { logged = h.logged; base = k.owed; role_is = h.k_role; owed = refl; placed = tt });
      owed = ap (λ (l : List ℕ). l ++ new) h.owed ∙ append_assoc k.out w new ∙ sym (ap (λ (z : PeerRole). k.out ++ (w ++ coming (grown b more) (role_held stamp z))) h.p_role);
      gone = h.gone;
      ended = h.ended;
      extra = h.extra;
    })

-- ---- all

mid_grows : (b : Book) (more : List Record) (stamp : ℕ) → Follow (last_of 0 b.records) more → stamp ≡ held (grown b more) → (ps : List Peer) (ks : List Client) → AllMid b ps ks → AllHold (grown b more) (map (with_held stamp) ps) (map (fed (b.records ++ more)) ks)
mid_grows b more stamp follow last [] [] h = tt
mid_grows b more stamp follow last (p ∷ ps) (k ∷ ks) h = (one h.0, mid_grows b more stamp follow last ps ks h.1)
  where
    one : HoldsMid b p k → Holds (grown b more) (with_held stamp p) (fed (b.records ++ more) k)
    one (inl x) = hold_grows b more stamp p k follow last x
    one (inr x) = new_grows b more stamp p k x
mid_grows b more stamp follow last [] (k ∷ ks) h = absurd h
mid_grows b more stamp follow last (p ∷ ps) [] h = absurd h

-- without an update log nothing is new
mid_same : (b : Book) → b.is.logs ≡ false → (ps : List Peer) (ks : List Client) → AllMid b ps ks → AllHold b ps ks
mid_same b none [] [] h = tt
mid_same b none (p ∷ ps) (k ∷ ks) h = (one h.0, mid_same b none ps ks h.1)
  where
    one : HoldsMid b p k → Holds b p k
    one (inl x) = x
    one (inr x) = absurd (let e = sym none ∙ x.logged in cc)
mid_same b none [] (k ∷ ks) h = absurd h
mid_same b none (p ∷ ps) [] h = absurd h

pub all_join : (o : Work) (l : Option Logged) (b : Book) (file ticks : List ℕ) → IsBook l (book_after b ticks o) file → (ps : List Peer) (ks : List Client) → AllMid b ps ks → AllHold (book_after b ticks o) (all_held l ps) (feed_all b.is (book_after b ticks o).records ks)
all_join o None b file ticks book ps ks h =
    let new = added_to b ticks o in
    let off : b.is.logs ≡ false = ap (λ (s : Settings). s.logs) book.is_same in
    let r : records_after b.is b.records new ≡ b.records = ap (λ (t : Bool). cond t (b.records ++ new) b.records) off in
    subst (λ (rs : List Record). AllHold (with_records b rs) ps (feed_all b.is rs ks)) (sym r)
    (subst (λ (t : Bool). AllHold b ps (cond t (map (fed b.records) ks) ks)) (sym off) (mid_same b off ps ks h))
all_join o (Some l) b file ticks book ps ks h =
    let new = added_to b ticks o in
    let on : b.is.logs ≡ true = ap (λ (s : Settings). s.logs) book.is_same in
    let r : records_after b.is b.records new ≡ b.records ++ new = ap (λ (t : Bool). cond t (b.records ++ new) b.records) on in
    let follow = behind 0 b.records new (subst (Follow 0) r book.holds.log.follow) in
    let last : l.ulog.last ≡ held (grown b new) = book.holds.last_is ∙ ap (last_of 0) r in
    subst (λ (rs : List Record). AllHold (with_records b rs) (map (with_held l.ulog.last) ps) (feed_all b.is rs ks)) (sym r)
    (subst (λ (t : Bool). AllHold (grown b new) (map (with_held l.ulog.last) ps) (cond t (map (fed (b.records ++ new)) ks) ks)) (sym on) (mid_grows b new l.ulog.last follow last ps ks h))

-- ---- what a connection is then

called_held : (stamp : ℕ) (r : PeerRole) → is_called (role_held stamp r) ≡ is_called r
called_held stamp peer.Client = refl
called_held stamp (peer.Fed f) = refl
called_held stamp (peer.Called c) = refl

fed_held : (stamp : ℕ) (r : PeerRole) → is_fed (role_held stamp r) ≡ is_fed r
fed_held stamp peer.Client = refl
fed_held stamp (peer.Fed f) = refl
fed_held stamp (peer.Called c) = refl

whole_held : (stamp : ℕ) (r : PeerRole) (unread : List ℕ) → whole_of (role_held stamp r) unread ≡ whole_of r unread
whole_held stamp peer.Client unread = refl
whole_held stamp (peer.Fed f) unread = refl
whole_held stamp (peer.Called c) unread = refl

bad_held : (stamp : ℕ) (r : PeerRole) (unread : List ℕ) → bad_of (role_held stamp r) unread ≡ bad_of r unread
bad_held stamp peer.Client unread = refl
bad_held stamp (peer.Fed f) unread = refl
bad_held stamp (peer.Called c) unread = refl

waits_held : (stamp : ℕ) (p : Peer) → waits (with_held stamp p) ≡ waits p
waits_held stamp p = λ i. (not (fed_held stamp p.role i) && not (all_taken p)) || whole_held stamp p.role p.session.unread i

over_held : (stamp : ℕ) (p : Peer) → is_over (with_held stamp p) ≡ is_over p
over_held stamp p = λ i. p.gone || (p.extra || ((called_held stamp p.role i || all_taken p) && (bad_held stamp p.role p.session.unread i || (p.ended && not (whole_held stamp p.role p.session.unread i)))))

calm_held : (stamp : ℕ) (p : Peer) → IsCalm p → IsCalm (with_held stamp p)
calm_held stamp p h = λ e. let q = h e in record { unfed = fed_held stamp p.role ∙ q.unfed; idle = waits_held stamp p ∙ q.idle; stays = over_held stamp p ∙ q.stays }

unread_held : (stamp : ℕ) (r : PeerRole) (unread : List ℕ) → length (unread_of r unread) ≤ most_unread r → length (unread_of (role_held stamp r) unread) ≤ most_unread (role_held stamp r)
unread_held stamp peer.Client unread h = h
unread_held stamp (peer.Fed f) unread h = h
unread_held stamp (peer.Called c) unread h = h

waiting_held : (stamp n : ℕ) (r : PeerRole) → n ≤ most_waiting r → n ≤ most_waiting (role_held stamp r)
waiting_held stamp n peer.Client h = h
waiting_held stamp n (peer.Fed f) h = h
waiting_held stamp n (peer.Called c) h = h

introduced_held : (stamp : ℕ) (r : PeerRole) → IsIntroduced r → IsIntroduced (role_held stamp r)
introduced_held stamp peer.Client h = tt
introduced_held stamp (peer.Fed f) h = tt
introduced_held stamp (peer.Called c) h = h

knows_held : (stamp : ℕ) (r : PeerRole) → KnowsHeld stamp (role_held stamp r)
knows_held stamp peer.Client = tt
knows_held stamp (peer.Fed f) = tt
knows_held stamp (peer.Called c) = refl

-- one that knows it already
same_held : (stamp : ℕ) (r : PeerRole) → KnowsHeld stamp r → role_held stamp r ≡ r
same_held stamp peer.Client h = refl
same_held stamp (peer.Fed f) h = refl
same_held stamp (peer.Called c) h = λ i. peer.Called (record c { link = record (c.link) { held = sym h i } })

-- ---- and all of them

numbers_held : (stamp : ℕ) (ps : List Peer) → numbers (map (with_held stamp) ps) ≡ numbers ps
numbers_held stamp [] = refl
numbers_held stamp (p ∷ ps) = ap (λ (l : List ℕ). p.conn ∷ l) (numbers_held stamp ps)

each_held : (P Q : Peer → Type 0) (stamp : ℕ) → ((p : Peer) → P p → Q (with_held stamp p)) → (ps : List Peer) → Each P ps → Each Q (map (with_held stamp) ps)
each_held P Q stamp f [] h = tt
each_held P Q stamp f (p ∷ ps) h = (f p h.0, each_held P Q stamp f ps h.1)

each_knows : (stamp : ℕ) (ps : List Peer) → Each (λ p. KnowsHeld stamp p.role) (map (with_held stamp) ps)
each_knows stamp [] = tt
each_knows stamp (p ∷ ps) = (knows_held stamp p.role, each_knows stamp ps)

none_held : (stamp : ℕ) (ps : List Peer) → has_link (map (with_held stamp) ps) ≡ has_link ps
none_held stamp [] = refl
none_held stamp (p ∷ ps) = λ i. called_held stamp p.role i || none_held stamp ps i

one_held : (stamp : ℕ) (ps : List Peer) → OneLink ps → OneLink (map (with_held stamp) ps)
one_held stamp [] h = tt
one_held stamp (p ∷ ps) h = ((λ e. none_held stamp ps ∙ h.0 (sym (called_held stamp p.role) ∙ e)), one_held stamp ps h.1)

all_same : (stamp : ℕ) (ps : List Peer) → Each (λ p. KnowsHeld stamp p.role) ps → map (with_held stamp) ps ≡ ps
all_same stamp [] h = refl
all_same stamp (p ∷ ps) h = λ i. record p { role = same_held stamp p.role h.0 i } ∷ all_same stamp ps h.1 i

held_same : (l : Option Logged) (ps : List Peer) → LinksKnow l ps → all_held l ps ≡ ps
held_same None ps h = refl
held_same (Some l) ps h = all_same l.ulog.last ps h.0

-- where there is no link, nothing is told
none_told : (stamp : ℕ) (r : PeerRole) → is_called r ≡ false → role_held stamp r ≡ r
none_told stamp peer.Client e = refl
none_told stamp (peer.Fed f) e = refl
none_told stamp (peer.Called c) e = absurd cc

pub held_else : (stamp : ℕ) (p : Peer) → is_called p.role ≡ false → p ≡ with_held stamp p
held_else stamp p e = λ i. record p { role = sym (none_told stamp p.role e) i }

pub held_link : (stamp : ℕ) (p : Peer) (m : Caller) (link : Line) → p.role ≡ peer.Called m → link ≡ record (m.link) { held = stamp } → record p { role = peer.Called (record m { link = link }) } ≡ with_held stamp p
held_link stamp p m link is told = (λ i. record p { role = peer.Called (record m { link = told i }) }) ∙ (λ i. record p { role = role_held stamp (sym is i) })

unlinked : (stamp : ℕ) (ps : List Peer) → has_link ps ≡ false → map (with_held stamp) ps ≡ ps
unlinked stamp [] none = refl
unlinked stamp (p ∷ ps) none = let s = or_parts (is_called p.role) (has_link ps) none in λ i. record p { role = none_told stamp p.role s.0 i } ∷ unlinked stamp ps s.1 i

pub none_given : (m : Option Master) → is_some m ≡ false → m ≡ None
none_given None e = refl
none_given (Some at) e = absurd cc

pub none_linked : (l : Logged) (ps : List Peer) → l.master ≡ None → LinksMay (Some l) ps → ps ≡ all_held (Some l) ps
none_linked l ps unled may = sym (unlinked l.ulog.last ps (may.0 unled))

-- the first of them were told
abbrev pub held_front : ℕ → List Peer → ℕ → List Peer
held_front stamp ps i = map (with_held stamp) (take i ps) ++ drop i ps

pub front_begins : (stamp : ℕ) (ps : List Peer) → ps ≡ held_front stamp ps 0
front_begins stamp [] = refl
front_begins stamp (p ∷ ps) = refl

front_more : (stamp : ℕ) (ps : List Peer) (i : ℕ) (p : Peer) → i < length ps → p ≡ get_or (held_front stamp ps i) i p → set (held_front stamp ps i) i (with_held stamp p) ≡ held_front stamp ps (suc i)
front_more stamp [] i p lt is = absurd (omega (arith, lt))
front_more stamp (x ∷ ps) zero p lt is = ap (λ (z : Peer). with_held stamp z ∷ ps) is
front_more stamp (x ∷ ps) (suc i) p lt is = ap (λ (l : List Peer). with_held stamp x ∷ l) (front_more stamp ps i p (omega (arith, lt)) is)

pub front_told : (stamp : ℕ) (ps now : List Peer) (i n : ℕ) (p q : Peer) → n ≡ suc i → i < length ps → now ≡ held_front stamp ps i → p ≡ get_or now i p → q ≡ with_held stamp p → set now i q ≡ held_front stamp ps n
front_told stamp ps now i n p q next lt so is told =
    (λ k. set (so k) i (told k))
    ∙ front_more stamp ps i p lt (is ∙ ap (λ (l : List Peer). get_or l i p) so)
    ∙ ap (held_front stamp ps) (sym next)

pub front_ends : (stamp : ℕ) (ps : List Peer) (i : ℕ) → length ps ≤ i → held_front stamp ps i ≡ map (with_held stamp) ps
front_ends stamp [] zero le = refl
front_ends stamp [] (suc i) le = refl
front_ends stamp (p ∷ ps) zero le = absurd (omega (arith, le))
front_ends stamp (p ∷ ps) (suc i) le = ap (λ (l : List Peer). with_held stamp p ∷ l) (front_ends stamp ps i (omega (arith, le)))

-- where the words are the same, so is whether a master is given
no_master : (m : Option Master) (k : Option Master) → option_map address k ≡ option_map address m → k ≡ None → m ≡ None
no_master None k same e = refl
no_master (Some a) None same e = absurd cc
no_master (Some a) (Some b) same e = absurd cc

know_all : (l l' : Option Logged) (ps : List Peer) → SameTerms l l' → LinksKnow l ps → LinksKnow l' (all_held l' ps)
know_all None None ps same h = h
know_all None (Some l') ps same h = absurd (let e : true ≡ false = ap (λ (t : Settings). t.logs) same in cc)
know_all (Some l) None ps same h = absurd (let e : false ≡ true = ap (λ (t : Settings). t.logs) same in cc)
know_all (Some l) (Some l') ps same h =
    let stamp = l'.ulog.last in
    let master = ap (λ (t : Settings). t.master) same in
    (each_knows stamp ps, ((λ e. none_held stamp ps ∙ h.1.0 (no_master l.master l'.master master e)), one_held stamp ps h.1.1))

-- the link among them was told
pub joined : (o : Work) (l l' : Option Logged) (ps : List Peer) → SameTerms l l' → Joins o l l' ps (all_held l' ps)
joined o l None ps same = record {
  numbers = refl;
  few = few_refl ps;
  calm = λ h. h;
  links = λ h. know_all l None ps same h;
  introduced = λ h. h;
  each = λ b file file' ticks was book ks h. all_join o None b file' ticks book ps ks h;
}
joined o l (Some l') ps same =
    let stamp = l'.ulog.last in
    record {
      numbers = numbers_held stamp ps;
      few = record { unread = λ h. each_held FewUnread FewUnread stamp (λ p x. unread_held stamp p.role p.session.unread x) ps h; waiting = λ h. each_held FewWaiting FewWaiting stamp (λ p x. waiting_held stamp (length p.session.waiting) p.role x) ps h };
      calm = λ h. each_held IsCalm IsCalm stamp (λ p x. calm_held stamp p x) ps h;
      links = λ h. know_all l (Some l') ps same h;
      introduced = λ h. each_held (λ p. IsIntroduced p.role) (λ p. IsIntroduced p.role) stamp (λ p x. introduced_held stamp p.role x) ps h;
      each = λ b file file' ticks was book ks h. all_join o (Some l') b file' ticks book ps ks h;
    }

-- nothing was committed
pub unjoined : (o : Work) (l : Option Logged) (ps : List Peer) → LinksKnow l ps → Joins o l l ps ps
unjoined o l ps know = record {
  numbers = refl;
  few = few_refl ps;
  calm = λ h. h;
  links = λ h. h;
  introduced = λ h. h;
  each = λ b file file' ticks was book ks h. subst (λ (qs : List Peer). AllHold (book_after b ticks o) qs (feed_all b.is (book_after b ticks o).records ks)) (held_same l ps know) (all_join o l b file' ticks book ps ks h);
}

-- whether anything was or not
pub kept_joins : (commits : Bool) (o : Work) (l l' : Option Logged) (ps : List Peer) → SameTerms l l' → (commits ≡ false → l' ≡ l) → LinksKnow l ps → Joins o l l' ps (held_after commits l' ps)
kept_joins true o l l' ps same still know = joined o l l' ps same
kept_joins false o l l' ps same still know = subst (λ (k : Option Logged). Joins o l k ps ps) (sym (still refl)) (unjoined o l ps know)

pub may_join : (l l' : Option Logged) (ps : List Peer) → SameTerms l l' → LinksKnow l ps → LinksMay l' ps
may_join None None ps same h = h
may_join None (Some l') ps same h = absurd (let e : true ≡ false = ap (λ (t : Settings). t.logs) same in cc)
may_join (Some l) None ps same h = absurd (let e : false ≡ true = ap (λ (t : Settings). t.logs) same in cc)
may_join (Some l) (Some l') ps same h = let master = ap (λ (t : Settings). t.master) same in ((λ e. h.1.0 (no_master l.master l'.master master e)), h.1.1)

-- ---- the wire and the span

pub wired_as : (conns : List ℕ) (ps ps' : List Peer) → numbers ps' ≡ numbers ps → Wired conns ps → Wired conns ps'
wired_as conns ps ps' same w = record { same = w.same ∙ sym same; apart = w.apart }

held_length : (stamp : ℕ) (ps : List Peer) → length (map (with_held stamp) ps) ≡ length ps
held_length stamp [] = refl
held_length stamp (p ∷ ps) = ap suc (held_length stamp ps)

-- one of them before it was told
record Before (stamp : ℕ) (ps : List Peer) (i : ℕ) (p : Peer) : Type 0 where
  was : Peer
  told : p ≡ with_held stamp was
  at : was ≡ get_or ps i was

before_at : (stamp : ℕ) (ps : List Peer) (i : ℕ) (p : Peer) → i < length ps → p ≡ get_or (map (with_held stamp) ps) i p → Before stamp ps i p
before_at stamp [] i p lt is = absurd (omega (arith, lt))
before_at stamp (x ∷ ps) zero p lt is = record { was = x; told = is; at = refl }
before_at stamp (x ∷ ps) (suc i) p lt is = let b = before_at stamp ps i p (omega (arith, lt)) is in record { was = b.was; told = b.told; at = b.at }

span_told : (s : Span) (stamp : ℕ) (ps : List Peer) → IsSpan s ps → IsSpan s (map (with_held stamp) ps)
span_told s stamp ps h = record {
  ordered = h.ordered;
  within = omega (arith, h.within, held_length stamp ps);
  calm = each_held IsCalm IsCalm stamp (λ p x. calm_held stamp p x) ps h.calm;
  all = λ i p lt is stirs.
      let less : i < length ps = omega (arith, lt, held_length stamp ps) in
      let b = before_at stamp ps i p less is in
      h.all i b.was less b.at (ap (λ (z : Peer). z.stirs) (sym b.told) ∙ stirs);
}

pub span_held : (s : Span) (commits : Bool) (l : Option Logged) (ps : List Peer) → IsSpan s ps → IsSpan s (held_after commits l ps)
span_held s false l ps h = h
span_held s true None ps h = h
span_held s true (Some l) ps h = span_told s l.ulog.last ps h
