-- A replica follows its master.
use Rattle.std.proofs.Common.{◌≡◌, inr, ℕ, zero, suc, Bool, true, false, cond, List, [], ◌∷◌, ◌++◌, length, map, refl, sym, ap, subst, ◌∙◌, arith, ⊎_elim, length-append}
use Rattle.std.specs.Prelude.{Option, None, Ok, Err, nat_eq}
use Rattle.std.specs.List.{filter}
use Rattle.std.proofs.lemmas.List.{append_assoc, append-nil}
use Rattle.tc_base.specs.declared.request.Request.TheVariants.{Repl}
use Rattle.tc_base.specs.declared.fields.NotWhole.TheVariants.{Part}
use Rattle.ty_memc.specs.Grammar.{piece_at}
use Rattle.ty_memc.specs.declared.text.Piece.{Piece}
use Rattle.ty_memc.specs.declared.text.Piece.TheVariants as piece
use Rattle.ty_pieces.proofs.PieceLaws.{done_idle, done_unmade}
use Rattle.tc_base.specs.Reading.{Front}
use Rattle.tc_base.proofs.Exact.{IsBytes}
use Rattle.tc_io.specs.declared.wire.Ev.{Ev}
use Rattle.tc_io.specs.declared.wire.Ev.TheVariants.{Opened, Read, Ended, Quiet, Shut}
use Rattle.tc_io.specs.declared.wire.Sent.{Sent}
use Rattle.tc_io.specs.declared.wire.Sent.TheVariants.{Took, NotYet, Gone}
use Rattle.tc_io.specs.declared.wire.Dialled.{Dialled}
use Rattle.tc_io.specs.declared.wire.Dialled.TheVariants.{Conn, NotNow}
use Rattle.tc_io.specs.declared.wire.Entry.{Entry}
use Rattle.tc_io.specs.declared.wire.Entry.TheVariants.{Open, Dial, Event, Send, Close}
use Rattle.tc_model.specs.Contents.{Contents, Walk}
use Rattle.ty_ulog.specs.declared.record.Record.{Record}
use Rattle.tc_base.specs.declared.request.Request.{Request}
use Rattle.ty_ulog.specs.Noting.{records_of}
use Rattle.ty_ulog.specs.Records.{record_bytes}
use Rattle.ty_ulog.specs.Updates.{update_in}
use Rattle.ty_ulog.specs.Log.{log_bytes, Follow, last_of}
use Rattle.ty_slave.specs.declared.link.Step.{Step as Look}
use Rattle.ty_slave.specs.declared.link.Step.TheVariants.{Take}
use Rattle.ty_world.specs.Logs.{Settings, is_replica}
use Rattle.ty_world.specs.Clients.{Client, Role, of_client, of_feed, to_master, is_client, is_ready, front_of}
use Rattle.ty_world.specs.Links.{Looked, unmoved, look_at, look_next, look_all}
use Rattle.ty_world.specs.Rounds.{role_after, feeds, served, round_one, round_all, look_of, marks_in, fed, fed_by, feed_all}
use Rattle.ty_world.specs.World.{World, Mark, rounded, added, marked, mark_of, heard, unstopped, at_conn, new_client, clients_in, new_link, with_dialled, with_read, with_end, sent, happens, world_after, AllCame}
use Rattle.ty_world.specs.Fold.{redo, fold, IsFrontOf, IsMarkOf, AllMarksOf, IsIn, AllIn, IsLine, Speaks, EachSpeaks, AlwaysOf, LineRight, EachRight, Follows}
use Rattle.ty_world.proofs.Fronts.{next_is, fold_more, apply_any}
use Rattle.ty_world.proofs.LinkLaws.{EndsWith, Took as WasTaken, Looks, look_what, look_right}

-- ---- a round of clients changes nothing on a replica

-- contents are as they were, and nothing was asked that updates
pub record IsIdle (c : Contents) (d : Contents) (updates : List (List ℕ)) : Type 0 where
  pub contents : d ≡ c
  pub none : updates ≡ []

one_idle : (is : Settings) (c : Contents) (w : Walk) (k : Client) → is_replica is ≡ true → IsIdle c (round_one is c w k).made.contents (round_one is c w k).made.updates
unfolding round_one
one_idle is c w k slave = go (front_of k)
  where
    go : (f : Front Piece) → IsIdle c (served is c w k f).made.contents (served is c w k f).made.updates
    go (Ok x) = let n = done_unmade (is_replica is) x.0 c w slave in record { contents = done_idle (is_replica is) x.0 c w n; none = n }
    go (Err e) = record { contents = refl; none = refl }

pub replica_idle : (is : Settings) (c : Contents) (w : Walk) (ks : List Client) → is_replica is ≡ true → IsIdle c (round_all is c w ks).made.contents (round_all is c w ks).made.updates
replica_idle is c w [] slave = record { contents = refl; none = refl }
replica_idle is c w (k ∷ ks) slave =
    let made = (round_one is c w k).made in
    let one = one_idle is c w k slave in
    let rest = replica_idle is made.contents made.walk ks slave in
    record {
      contents = rest.contents ∙ one.contents;
      none = ap (λ (l : List (List ℕ)). l ++ (round_all is made.contents made.walk ks).made.updates) one.none ∙ rest.none;
    }

-- ---- one record more

last_in : (rs : List Record) (r : Record) (m : List Record) → AllIn (rs ++ r ∷ []) m → IsIn r m
last_in [] r m a = a.0
last_in (q ∷ rs) r m a = last_in rs r m a.1

taken_in : (m : List Record) (h : ℕ) (c : Contents) (w : Walk) (k : Client) (named broken : Bool) (l : Looked) → Speaks m (to_master named broken) k.input → (x : Looks h c w k l) → (t : WasTaken h c w x.step l.dealt_is) → IsIn t.it m
taken_in m h c w k named broken l s x t =
    let line = x.after.line in
    let ends : EndsWith (Take t.it) line.looked = subst (λ (y : Look). EndsWith y line.looked) t.is x.after.ends in
    ⊎_elim (λ some. last_in ends.0 t.it m (subst (λ (rs : List Record). AllIn rs m) ends.1 (s line.id x.line.unread line.looked some.1 line.fit line.parts)))
    (λ none. absurd (omega (arith, ap length (sym ends.1 ∙ none.2), length-append ends.0 (t.it ∷ []))))
    line.id_is

-- the link among the connections
pub record LooksFront (m : List Record) (first : Contents) (log : List Record) (l : Looked) : Type 0 where
  pub front : IsFrontOf m first l.dealt_is.contents (log ++ l.dealt_is.taken)
  pub right : EachRight l.clients

one_front : (m : List Record) (first : Contents) (own : ℕ) (c : Contents) (w : Walk) (named broken : Bool) (k : Client) (ks : List Client) (log : List Record) → Follow 0 m → Speaks m (to_master named broken) k.input → LineRight (to_master named broken) k → EachRight ks → IsFrontOf m first c log
    → LooksFront m first log (look_at own (last_of 0 log) c w named broken k ks)
one_front m first own c w named broken k ks log follow s right rest h =
    let l = look_at own (last_of 0 log) c w named broken k ks in
    let x = look_what own (last_of 0 log) c w named broken k ks right in
    record {
      front = ⊎_elim
          (λ none. record { rest = h.rest; front = h.front ∙ ap (λ (rs : List Record). rs ++ h.rest) (sym (append-nil log) ∙ ap (λ (rs : List Record). log ++ rs) (sym none.0)); contents = none.1 ∙ h.contents ∙ ap (fold first) (sym (append-nil log) ∙ ap (λ (rs : List Record). log ++ rs) (sym none.0)) })
          (λ t.
          let is = taken_in m (last_of 0 log) c w k named broken l s x t in
          let next = next_is m log h.rest t.it follow h.front is t.before t.later in
          let more : log ++ t.it ∷ [] ≡ log ++ l.dealt_is.taken = ap (λ (rs : List Record). log ++ rs) (sym t.taken) in
          record {
            rest = next.0;
            front = next.1 ∙ ap (λ (rs : List Record). rs ++ next.0) more;
            contents = t.contents ∙ apply_any t.asks c w None t.updating ∙ ap (λ (o : Option Request). redo o c) (sym t.update) ∙ ap (redo (update_in t.it.request)) h.contents ∙ sym (fold_more first log t.it) ∙ ap (fold first) more;
          })
          x.what;
      right = look_right own (last_of 0 log) c w named broken k ks right rest;
    }

pub look_front : (m : List Record) (first : Contents) (own : ℕ) (c : Contents) (w : Walk) (ks : List Client) (log : List Record) → Follow 0 m → EachSpeaks m ks → EachRight ks → IsFrontOf m first c log → LooksFront m first log (look_all own (last_of 0 log) c w ks)
look_front m first own c w [] log follow s right h = record { front = record { rest = h.rest; front = h.front ∙ ap (λ (rs : List Record). rs ++ h.rest) (sym (append-nil log)); contents = h.contents ∙ ap (fold first) (sym (append-nil log)) }; right = tt }
look_front m first own c w (k ∷ ks) log follow s right h = go k.role s.0 right.0 (look_front m first own c w ks log follow s.1 right.1 h)
  where
    go : (r : Role) → Speaks m r k.input → LineRight r k → LooksFront m first log (look_all own (last_of 0 log) c w ks) → LooksFront m first log (look_next own (last_of 0 log) c w r k ks (look_all own (last_of 0 log) c w ks))
    go of_client sp x rest = record { front = rest.front; right = (right.0, rest.right) }
    go (of_feed above base) sp x rest = record { front = rest.front; right = (right.0, rest.right) }
    go (to_master named broken) sp x rest = one_front m first own c w named broken k ks log follow sp x right.1 h

-- ---- what entries do to the link's line

pub bytes_more : (a b : List ℕ) → IsBytes a → IsBytes b → IsBytes (a ++ b)
bytes_more [] b f g i = g i
bytes_more (x ∷ a) b f g zero = f 0
bytes_more (x ∷ a) b f g (suc i) = bytes_more a b (λ j. f (suc j)) g i

-- what keeps the line keeps it at one connection
abbrev pub KeepsLine : (Client → Client) → Type 0
KeepsLine f = (k : Client) → LineRight k.role k → LineRight (f k).role (f k)

each_map : (f : Client → Client) → KeepsLine f → (ks : List Client) → EachRight ks → EachRight (map f ks)
each_map f g [] h = tt
each_map f g (k ∷ ks) h = (g k h.0, each_map f g ks h.1)

each_more : (ks ls : List Client) → EachRight ks → EachRight ls → EachRight (ks ++ ls)
each_more [] ls h g = g
each_more (k ∷ ks) ls h g = (h.0, each_more ks ls h.1 g)

each_filter : (p : Client → Bool) (ks : List Client) → EachRight ks → EachRight (filter p ks)
each_filter p [] h = tt
each_filter p (k ∷ ks) h = go (p k) (each_filter p ks h.1)
  where
    go : (b : Bool) → EachRight (filter p ks) → EachRight (cond b (k ∷ filter p ks) (filter p ks))
    go true r = (h.0, r)
    go false r = r

at_line : (c : ℕ) (f : Client → Client) → KeepsLine f → KeepsLine (at_conn c f)
at_line c f g k h = go (nat_eq k.conn c)
  where
    go : (b : Bool) → LineRight (cond b (f k) k).role (cond b (f k) k)
    go true = g k h
    go false = h

-- the same bytes and the same role
same_line : (r : Role) (k j : Client) → j.input ≡ k.input → j.unread ≡ k.unread → LineRight r k → LineRight r j
same_line of_client k j a b h = tt
same_line (of_feed above base) k j a b h = tt
same_line (to_master named broken) k j a b h = (subst (λ (x : List ℕ). IsLine x named j.unread) (sym a) (subst (λ (x : List ℕ). IsLine k.input named x) (sym b) h.0), subst IsBytes (sym b) h.1)

read_line : (bytes : List ℕ) → IsBytes bytes → KeepsLine (with_read bytes)
read_line bytes b k h = go k.role h
  where
    go : (r : Role) → LineRight r k → LineRight r (with_read bytes k)
    go of_client h = tt
    go (of_feed above base) h = tt
    go (to_master named broken) h =
        let l = h.0 in (
          record {
            id = l.id;
            looked = l.looked;
            parts = ap (λ (x : List ℕ). x ++ bytes) l.parts ∙ append_assoc l.id (log_bytes l.looked ++ k.unread) bytes ∙ ap (λ (x : List ℕ). l.id ++ x) (append_assoc (log_bytes l.looked) k.unread bytes);
            fit = l.fit;
            id_is = l.id_is;
          },
          bytes_more k.unread bytes h.1 b,
        )

heard_line : (ks : List Client) (ev : Ev) (bytes : List ℕ) → IsBytes bytes → EachRight ks → EachRight (heard ks ev bytes)
heard_line ks (Opened c) bytes b h = each_more ks (new_client c (clients_in ks) ∷ []) h (tt, tt)
heard_line ks (Read c n) bytes b h = each_map (at_conn c (with_read bytes)) (at_line c (with_read bytes) (read_line bytes b)) ks h
heard_line ks (Ended c) bytes b h = each_map (at_conn c with_end) (at_line c with_end (λ k r. same_line k.role k (with_end k) refl refl r)) ks h
heard_line ks Quiet bytes b h = h
heard_line ks Shut bytes b h = h

sent_line : (bytes : List ℕ) (answer : Sent) → KeepsLine (sent bytes answer)
sent_line bytes (Took n) k h = same_line k.role k (sent bytes (Took n) k) refl refl h
sent_line bytes NotYet k h = same_line k.role k (sent bytes NotYet k) refl refl h
sent_line bytes Gone k h = same_line k.role k (sent bytes Gone k) refl refl h

fed_line : (log : List Record) → KeepsLine (fed log)
fed_line log k h = go k.role refl h
  where
    go : (r : Role) → k.role ≡ r → LineRight r k → LineRight (fed_by log r k).role (fed_by log r k)
    go of_client e x = subst (λ (q : Role). LineRight q k) (sym e) tt
    go (of_feed stamp base) e x = subst (λ (q : Role). LineRight q (fed_by log (of_feed stamp base) k)) (sym e) tt
    go (to_master named broken) e x = subst (λ (q : Role). LineRight q k) (sym e) x

feed_line : (is : Settings) (log : List Record) (ks : List Client) → EachRight ks → EachRight (feed_all is log ks)
feed_line is log ks h = go is.logs
  where
    go : (b : Bool) → EachRight (cond b (map (fed log) ks) ks)
    go true = each_map (fed log) (fed_line log) ks h
    go false = h

dialled_line : (is : Settings) (log : List Record) (ks : List Client) (answer : Dialled) → EachRight ks → EachRight (with_dialled is log ks answer)
dialled_line is log ks (Conn c) h = each_more ks (new_link is log c ∷ []) h ((record { id = []; looked = []; parts = refl; fit = tt; id_is = inr (refl, refl, refl) }, λ i. omega arith), tt)
dialled_line is log ks NotNow h = h

role_line : (is : Settings) (x : Piece) (base : List ℕ) (role : Role) (j : Client) → is_client role ≡ true → LineRight (role_after is x base role) j
role_line is x base (of_feed above base') j e = absurd cc
role_line is x base (to_master named broken) j e = absurd cc
role_line is x base of_client j e = go x
  where
    go : (x : Piece) → LineRight (role_after is x base of_client) j
    go (piece.Request (Repl timestamp server)) = by (feeds is server)
      where
        by : (b : Bool) → LineRight (cond b (of_feed timestamp base) of_client) j
        by true = tt
        by false = tt
    go _ = tt

pub front_client : (k : Client) (x : Piece × List ℕ) → front_of k ≡ Ok x → is_client k.role ≡ true
front_client k x e = go (is_ready k) (is_client k.role) e
  where
    go : (a b : Bool) → cond {A = Front Piece} a (cond b (piece_at k.unread) (Err Part)) (Err Part) ≡ Ok x → b ≡ true
    go true true e = refl
    go true false e = absurd cc
    go false b e = absurd cc

one_line : (is : Settings) (c : Contents) (w : Walk) (k : Client) → LineRight k.role k → LineRight (round_one is c w k).client.role (round_one is c w k).client
unfolding round_one
one_line is c w k h = go (front_of k) refl
  where
    go : (f : Front Piece) → front_of k ≡ f → LineRight (served is c w k f).client.role (served is c w k f).client
    go (Ok x) e = role_line is x.0 (served is c w k (Ok x)).client.owed k.role (served is c w k (Ok x)).client (front_client k x e)
    go (Err d) e = h

round_line : (is : Settings) (c : Contents) (w : Walk) (ks : List Client) → EachRight ks → EachRight (round_all is c w ks).clients
round_line is c w [] h = tt
round_line is c w (k ∷ ks) h = (one_line is c w k h.0, round_line is (round_one is c w k).made.contents (round_one is c w k).made.walk ks h.1)

-- ---- what is said of the link behind a look is said of it before

at_back : (m : List Record) (own held : ℕ) (c : Contents) (w : Walk) (named broken : Bool) (k : Client) (ks : List Client) → k.role ≡ to_master named broken → EachSpeaks m (look_at own held c w named broken k ks).clients → Speaks m k.role k.input × EachSpeaks m ks
unfolding look_at
at_back m own held c w named broken k ks e s = (subst (λ (q : Role). Speaks m q k.input) (sym e) s.0, s.1)

look_back : (m : List Record) (own held : ℕ) (c : Contents) (w : Walk) (ks : List Client) → EachSpeaks m (look_all own held c w ks).clients → EachSpeaks m ks
look_back m own held c w [] s = tt
look_back m own held c w (k ∷ ks) s = go k.role refl s (look_back m own held c w ks)
  where
    go : (r : Role) → k.role ≡ r → EachSpeaks m (look_next own held c w r k ks (look_all own held c w ks)).clients → (EachSpeaks m (look_all own held c w ks).clients → EachSpeaks m ks) → Speaks m k.role k.input × EachSpeaks m ks
    go of_client e s rest = (s.0, rest s.1)
    go (of_feed above base) e s rest = (s.0, rest s.1)
    go (to_master named broken) e s rest = at_back m own held c w named broken k ks e s

fed_back : (m log : List Record) (k : Client) → Speaks m (fed log k).role (fed log k).input → Speaks m k.role k.input
fed_back m log k s = go k.role s
  where
    go : (r : Role) → Speaks m (fed_by log r k).role (fed_by log r k).input → Speaks m k.role k.input
    go of_client s = s
    go (of_feed stamp base) s = s
    go (to_master named broken) s = s

feed_back : (m : List Record) (is : Settings) (log : List Record) (ks : List Client) → EachSpeaks m (feed_all is log ks) → EachSpeaks m ks
feed_back m is log ks s = go is.logs s
  where
    all : (ks : List Client) → EachSpeaks m (map (fed log) ks) → EachSpeaks m ks
    all [] s = tt
    all (k ∷ ks) s = (fed_back m log k s.0, all ks s.1)

    go : (b : Bool) → EachSpeaks m (cond b (map (fed log) ks) ks) → EachSpeaks m ks
    go true s = all ks s
    go false s = s

-- ---- all entries

bytes_join : (rs more : List Record) → log_bytes (rs ++ more) ≡ log_bytes rs ++ log_bytes more
bytes_join [] more = refl
bytes_join (r ∷ rs) more = ap (λ (l : List ℕ). record_bytes r ++ l) (bytes_join rs more) ∙ sym (append_assoc (record_bytes r) (log_bytes rs) (log_bytes more))

mark_more : (m : List Record) (first : Contents) (b : Bool) (k : Mark) (ks : List Mark) → IsMarkOf m first k → AllMarksOf m first ks → AllMarksOf m first (marked b k ks)
mark_more m first true k ks f h = (f, h)
mark_more m first false k ks f h = h

event_follows : (m : List Record) (first : Contents) (w : World) (paused : List ℕ) (busy : Bool) (ev : Ev) (bytes : List ℕ) → Follow 0 m → IsBytes bytes → EachSpeaks m (happens w (Event paused busy ev bytes)).there → Follows m first w → Follows m first (happens w (Event paused busy ev bytes))
event_follows m first w paused busy ev bytes follow b s h =
    let ks = heard (map unstopped w.there) ev bytes in
    let r = round_all w.is w.contents w.walk ks in
    let d = rounded w ev bytes in
    let v = happens w (Event paused busy ev bytes) in
    let idle = replica_idle w.is w.contents w.walk ks h.replica in
    let seen : look_of w.is w.records r ≡ look_all w.is.own (last_of 0 w.records) r.made.contents r.made.walk r.clients = ap (λ (t : Bool). cond t (look_all w.is.own (last_of 0 w.records) r.made.contents r.made.walk r.clients) (record { dealt_is = unmoved r.made.contents r.made.walk false; clients = r.clients })) h.replica in
    let speaks = look_back m w.is.own (last_of 0 w.records) r.made.contents r.made.walk r.clients (subst (λ (l : Looked). EachSpeaks m l.clients) seen (feed_back m w.is v.records d.looked.clients s)) in
    let right = round_line w.is w.contents w.walk ks (heard_line (map unstopped w.there) ev bytes b (each_map unstopped (λ k x. same_line k.role k (unstopped k) refl refl x) w.there h.right)) in
    let front : IsFrontOf m first r.made.contents w.records = record { rest = h.front.rest; front = h.front.front; contents = idle.contents ∙ h.front.contents } in
    let look = subst (λ (l : Looked). LooksFront m first w.records l) (sym seen) (look_front m first w.is.own r.made.contents r.made.walk r.clients w.records follow speaks right front) in
    let taken = d.looked.dealt_is.taken in
    let new : added w d ≡ taken = ap (λ (t : Bool). cond t (records_of w.is.own (last_of 0 w.records) w.ticks d.round.made.updates ++ taken) []) h.logs ∙ ap (λ (l : List (List ℕ)). records_of w.is.own (last_of 0 w.records) w.ticks l ++ taken) idle.none in
    let recs : v.records ≡ w.records ++ taken = ap (λ (t : Bool). cond t (w.records ++ added w d) w.records) h.logs ∙ ap (λ (l : List Record). w.records ++ l) new in
    let file : v.log ≡ log_bytes (w.records ++ taken) = ap (λ (t : Bool). cond t (w.log ++ log_bytes (added w d)) w.log) h.logs ∙ ap (λ (l : List Record). w.log ++ log_bytes l) new ∙ ap (λ (l : List ℕ). l ++ log_bytes taken) h.file ∙ sym (bytes_join w.records taken) in
    record {
      replica = h.replica;
      logs = h.logs;
      front = subst (λ (l : List Record). IsFrontOf m first d.looked.dealt_is.contents l) (sym recs) look.front;
      file = file ∙ ap log_bytes (sym recs);
      marks = mark_more m first (marks_in d) (mark_of v) w.marks (record { log = w.records ++ taken; front = look.front; file = file }) h.marks;
      right = feed_line w.is v.records d.looked.clients look.right;
    }

-- a replica's update log is a front of the list, and its contents are what that front makes of the first, now and at each mark, where
-- they began so and each whole record on the link is one of the list
pub all_follow : (m : List Record) (first : Contents) (es : List Entry) (w : World) → Follow 0 m → AllCame w es → AlwaysOf m w es → Follows m first w → Follows m first (world_after es w)
all_follow m first [] w follow came a h = h
all_follow m first (Open at ∷ es) w follow came a h = all_follow m first es (happens w (Open at)) follow came.1 a.1 (record { replica = h.replica; logs = h.logs; front = h.front; file = h.file; marks = h.marks; right = h.right })
all_follow m first (Dial host port answer ∷ es) w follow came a h =
    all_follow m first es (happens w (Dial host port answer)) follow came.1 a.1 (record { replica = h.replica; logs = h.logs; front = h.front; file = h.file; marks = h.marks; right = dialled_line w.is w.records w.there answer h.right })
all_follow m first (Event paused busy ev bytes ∷ es) w follow came a h =
    all_follow m first es (happens w (Event paused busy ev bytes)) follow came.1 a.1 (event_follows m first w paused busy ev bytes follow came.0.are_bytes (now m es (happens w (Event paused busy ev bytes)) a.1) h)
  where
    now : (m : List Record) (es : List Entry) (v : World) → AlwaysOf m v es → EachSpeaks m v.there
    now m [] v a = a
    now m (e ∷ es) v a = a.0
all_follow m first (Send c bytes answer ∷ es) w follow came a h =
    all_follow m first es (happens w (Send c bytes answer)) follow came.1 a.1 (record { replica = h.replica; logs = h.logs; front = h.front; file = h.file; marks = h.marks; right = each_map (at_conn c (sent bytes answer)) (at_line c (sent bytes answer) (sent_line bytes answer)) w.there h.right })
all_follow m first (Close c ∷ es) w follow came a h =
    all_follow m first es (happens w (Close c)) follow came.1 a.1 (record { replica = h.replica; logs = h.logs; front = h.front; file = h.file; marks = h.marks; right = each_filter _ w.there h.right })
