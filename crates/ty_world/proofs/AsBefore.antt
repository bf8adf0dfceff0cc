-- Entry by entry, connection by connection, what there was before.
use Rattle.std.proofs.Common.{◌≡◌, ◌∙◌, ℕ, suc, Bool, true, false, cond, not, List, [], ◌∷◌, ◌++◌, map, Ok, Err, refl, sym, ap, subst}
use Rattle.std.specs.Prelude.{◌||◌, length, nat_eq}
use Rattle.std.specs.List.{list_any, filter}
use Rattle.std.proofs.lemmas.List.{map-append}
use Rattle.tc_base.specs.declared.request.Request.{Request}
use Rattle.tc_base.specs.declared.request.Request.TheVariants as request
use Rattle.tc_base.specs.declared.fields.NotWhole.TheVariants.{Part}
use Rattle.tc_base.specs.Reading.{Front, mapped}
use Rattle.tc_io.specs.declared.wire.At.{At}
use Rattle.tc_io.specs.declared.wire.Ev.{Ev}
use Rattle.tc_io.specs.declared.wire.Ev.TheVariants.{Opened, Read, Ended, Quiet, Shut}
use Rattle.tc_io.specs.declared.wire.Sent.{Sent}
use Rattle.tc_io.specs.declared.wire.Sent.TheVariants.{Took, NotYet, Gone}
use Rattle.tc_io.specs.declared.wire.Entry.{Entry}
use Rattle.tc_io.specs.declared.wire.Entry.TheVariants.{Open, Dial, Event, Send, Close}
use Rattle.ty_wire.specs.Reading.{request_at}
use Rattle.ty_wire.specs.Spelling.{reply_bytes}
use Rattle.tc_model.specs.Contents.{Contents, Walk}
use Rattle.tc_model.specs.Apply.{Step, apply, is_updated}
use Rattle.ty_memc.specs.declared.text.Piece.{Piece}
use Rattle.ty_memc.specs.declared.text.Piece.TheVariants as piece
use Rattle.ty_memc.specs.Grammar.{begins_text, piece_at}
use Rattle.ty_pieces.specs.Made.{Made, only, made_then}
use Rattle.ty_pieces.specs.Pieces.{stepped}
use Rattle.ty_ulog.specs.Log.{records_in}
use Rattle.ty_world.specs.Clients.{Client, front_of, of_client}
use Rattle.ty_world.specs.Logs.{plain}
use Rattle.ty_world.specs.Rounds.{Served, served, has_any, round_one, round_all, round_of_all, repl_reply, role_after, with_served}
use Rattle.ty_world.specs.World.{World, AllAsked, AsksRight, copies_of, heard_by, clients_in, is_looked_at, heard, unstopped, at_conn, sent, with_round, rounded, happens, marked, started, world_after, is_quiet}
use Rattle.ty_world.specs.Before as before
use Rattle.ty_world.specs.Same.{HearsNoTexts, client_of, clients_of, mark_as, Besides, world_of, SameWorld, NoTexts, NeverTexts}

-- ---- what a piece is

-- a request as a piece
abbrev pub as_piece : Front Request → Front Piece
as_piece (Ok x) = Ok (piece.Request x.0, x.1)
as_piece (Err e) = Err e

mapped_as : (f : Front Request) → mapped piece.Request (λ bytes. f) [] ≡ as_piece f
mapped_as (Ok x) = refl
mapped_as (Err e) = refl

pub binary_front : (bytes : List ℕ) → begins_text bytes ≡ false → piece_at bytes ≡ as_piece (request_at bytes)
unfolding piece_at
binary_front bytes is = rw is (mapped_as (request_at bytes))

-- ---- lists of connections

unstopped_as : (ks : List before.Client) → map unstopped (clients_of ks) ≡ clients_of (map before.unstopped ks)
unstopped_as [] = refl
unstopped_as (k ∷ ks) = ap (λ l. client_of (before.unstopped k) ∷ l) (unstopped_as ks)

-- what is done to one connection is what was
at_as : (c : ℕ) (f : Client → Client) (g : before.Client → before.Client) → ((k : before.Client) → f (client_of k) ≡ client_of (g k)) → (ks : List before.Client) → map (at_conn c f) (clients_of ks) ≡ clients_of (map (before.at_conn c g) ks)
at_as c f g same [] = refl
at_as c f g same (k ∷ ks) = go (nat_eq k.conn c) (at_as c f g same ks)
  where
    go : (b : Bool) → map (at_conn c f) (clients_of ks) ≡ clients_of (map (before.at_conn c g) ks)
        → cond b (f (client_of k)) (client_of k) ∷ map (at_conn c f) (clients_of ks) ≡ client_of (cond b (g k) k) ∷ clients_of (map (before.at_conn c g) ks)
    go true rest = ap (λ x. x ∷ map (at_conn c f) (clients_of ks)) (same k) ∙ ap (λ l. client_of (g k) ∷ l) rest
    go false rest = ap (λ l. client_of k ∷ l) rest

counted_as : (ks : List before.Client) → clients_in (clients_of ks) ≡ length ks
counted_as [] = refl
counted_as (k ∷ ks) = ap suc (counted_as ks)

pub appended_as : (ks ls : List before.Client) → clients_of ks ++ clients_of ls ≡ clients_of (ks ++ ls)
appended_as ks ls = sym (map-append client_of ks ls)

opened_as : (c : ℕ) (ks : List before.Client) → heard (clients_of ks) (Opened c) [] ≡ clients_of (before.heard ks (Opened c) [])
opened_as c ks = rw (counted_as ks) (appended_as ks (before.new_client c (length ks) ∷ []))

heard_as : (ks : List before.Client) (ev : Ev) (bytes : List ℕ) → heard (clients_of ks) ev bytes ≡ clients_of (before.heard ks ev bytes)
heard_as ks (Opened c) bytes = opened_as c ks
heard_as ks (Read c n) bytes = at_as c _ (before.with_read bytes) (λ k. refl) ks
heard_as ks (Ended c) bytes = at_as c _ before.with_end (λ k. refl) ks
heard_as ks Quiet bytes = refl
heard_as ks Shut bytes = refl

sent_as : (c : ℕ) (bytes : List ℕ) (answer : Sent) (ks : List before.Client) → map (at_conn c (sent bytes answer)) (clients_of ks) ≡ clients_of (map (before.at_conn c (before.sent bytes answer)) ks)
sent_as c bytes (Took n) ks = at_as c _ (before.sent bytes (Took n)) (λ k. refl) ks
sent_as c bytes NotYet ks = at_as c _ (before.sent bytes NotYet) (λ k. refl) ks
sent_as c bytes Gone ks = at_as c _ (before.sent bytes Gone) (λ k. refl) ks

picked_as : (keep : ℕ → Bool) (ks : List before.Client) → filter (λ k. keep k.conn) (clients_of ks) ≡ clients_of (filter (λ k. keep k.conn) ks)
picked_as keep [] = refl
picked_as keep (k ∷ ks) = go (keep k.conn) (picked_as keep ks)
  where
    go : (b : Bool) → filter (λ k. keep k.conn) (clients_of ks) ≡ clients_of (filter (λ k. keep k.conn) ks)
        → cond b (client_of k ∷ filter (λ k. keep k.conn) (clients_of ks)) (filter (λ k. keep k.conn) (clients_of ks)) ≡ clients_of (cond b (k ∷ filter (λ k. keep k.conn) ks) (filter (λ k. keep k.conn) ks))
    go true rest = ap (λ l. client_of k ∷ l) rest
    go false rest = rest

none_looked_at : (ks : List before.Client) → list_any is_looked_at (clients_of ks) ≡ false
none_looked_at [] = refl
none_looked_at (k ∷ ks) = none_looked_at ks

-- ---- a round

-- what pieces made is what requests did
pub record MadeAs (m : Made) (contents : Contents) (walk : Walk) (updated commits : Bool) : Type 0 where
  pub contents_is : m.contents ≡ contents
  pub walk_is : m.walk ≡ walk
  pub updated_is : has_any m.updates ≡ updated
  pub commits_is : m.commits ≡ commits

pub record ServedAs (s : Served) (t : before.Served) : Type 0 where
  pub made : MadeAs s.made t.contents t.walk t.updated t.commits
  pub client : s.client ≡ client_of t.client

any_only : (b : Bool) (x : List ℕ) → has_any (only b x) ≡ b
any_only true x = refl
any_only false x = refl

any_joined : (xs ys : List (List ℕ)) → has_any (xs ++ ys) ≡ (has_any xs || has_any ys)
any_joined [] ys = refl
any_joined (x ∷ xs) ys = refl

repl_as : (r : Request) → repl_reply plain (piece.Request r) ≡ before.repl_reply r
repl_as r = search

role_as : (r : Request) (base : List ℕ) → role_after plain (piece.Request r) base of_client ≡ of_client
role_as (request.Repl timestamp server) base = refl
role_as r base = refl

client_as : (k : before.Client) (r : Request) (rest : List ℕ) (s : Step) → with_served plain (piece.Request r) rest (stepped r s) (client_of k) ≡ client_of (before.serves k r rest s).client
client_as k r rest s =
    let placed = sym (map-append piece.Request k.placed (r ∷ [])) in
    λ i. record {
      conn = k.conn;
      input = k.input;
      unread = rest;
      placed = placed i;
      owed = k.owed ++ (reply_bytes s.reply ++ repl_as r i);
      out = k.out;
      gone = k.gone;
      ended = k.ended;
      extra = k.extra;
      stopped = k.stopped;
      role = role_as r (k.owed ++ (reply_bytes s.reply ++ repl_reply plain (piece.Request r))) i;
    }

served_as : (c : Contents) (w : Walk) (k : before.Client) (front : Front Request) → ServedAs (served plain c w (client_of k) (as_piece front)) (before.served c w k front)
served_as c w k (Err e) = record { made = record { contents_is = refl; walk_is = refl; updated_is = refl; commits_is = refl }; client = refl }
served_as c w k (Ok x) = record {
  made = record { contents_is = refl; walk_is = refl; updated_is = any_only (is_updated x.0 (apply false x.0 c w)) _; commits_is = refl };
  client = client_as k x.0 x.1 (apply false x.0 c w);
}

front_as : (k : before.Client) → begins_text k.unread ≡ false → front_of (client_of k) ≡ as_piece (before.front_of k)
front_as k none = go (before.is_ready k)
  where
    go : (b : Bool) → cond b (piece_at k.unread) (Err Part) ≡ as_piece (cond b (request_at k.unread) (Err Part))
    go true = binary_front k.unread none
    go false = refl

one_as : (c : Contents) (w : Walk) (k : before.Client) → begins_text k.unread ≡ false → ServedAs (round_one plain c w (client_of k)) (before.round_one c w k)
unfolding round_one before.round_one
one_as c w k none = subst (λ f. ServedAs (served plain c w (client_of k) f) (before.served c w k (before.front_of k))) (sym (front_as k none)) (served_as c w k (before.front_of k))

pub record RoundsAs (c : Contents) (w : Walk) (ks : List before.Client) : Type 0 where
  pub made : MadeAs (round_all plain c w (clients_of ks)).made (before.round_all c w ks).contents (before.round_all c w ks).walk (before.round_all c w ks).updated (before.round_all c w ks).commits
  pub clients : (round_all plain c w (clients_of ks)).clients ≡ clients_of (before.round_all c w ks).clients

-- one connection's, and then those of the others
joined_as : (s : Served) (t : before.Served) (ks : List before.Client) → ServedAs s t → RoundsAs t.contents t.walk ks
    → MadeAs (made_then s.made (round_all plain s.made.contents s.made.walk (clients_of ks)).made) (before.round_all t.contents t.walk ks).contents (before.round_all t.contents t.walk ks).walk (t.updated || (before.round_all t.contents t.walk ks).updated) (t.commits || (before.round_all t.contents t.walk ks).commits)
    × (s.client ∷ (round_all plain s.made.contents s.made.walk (clients_of ks)).clients ≡ clients_of (t.client ∷ (before.round_all t.contents t.walk ks).clients))
joined_as s t ks one rest = rw (one.made.contents_is, one.made.walk_is, one.client) (
  record {
    contents_is = rest.made.contents_is;
    walk_is = rest.made.walk_is;
    updated_is = any_joined s.made.updates (round_all plain t.contents t.walk (clients_of ks)).made.updates ∙ (ap (λ b. b || has_any (round_all plain t.contents t.walk (clients_of ks)).made.updates) one.made.updated_is ∙ ap (λ b. t.updated || b) rest.made.updated_is);
    commits_is = ap (λ b. b || (round_all plain t.contents t.walk (clients_of ks)).made.commits) one.made.commits_is ∙ ap (λ b. t.commits || b) rest.made.commits_is;
  },
  ap (λ l. client_of t.client ∷ l) rest.clients,
)

pub round_as : (c : Contents) (w : Walk) (ks : List before.Client) → NoTexts (clients_of ks) → RoundsAs c w ks
round_as c w [] none = record { made = record { contents_is = refl; walk_is = refl; updated_is = refl; commits_is = refl }; clients = refl }
round_as c w (k ∷ ks) none =
    let t = before.round_one c w k in
    let both = joined_as (round_one plain c w (client_of k)) t ks (one_as c w k none.0) (round_as t.contents t.walk ks none.1) in
    record { made = both.0; clients = both.1 }

-- ---- a world

marked_as : (b : Bool) (m : before.Mark) (ms : List before.Mark) → marked (b || false) (mark_as m) (map mark_as ms) ≡ map mark_as (before.marked b m ms)
marked_as true m ms = refl
marked_as false m ms = refl

behind_as : (x : Besides) (v : before.World) (ev : Ev) (bs : List before.Client) → NoTexts (clients_of bs)
    → SameWorld (with_round (world_of x v) ev (clients_of bs) (round_of_all plain x.records v.contents v.walk (clients_of bs))) (before.with_round v ev (before.round_all v.contents v.walk bs))
behind_as x v ev bs none =
    let r = round_as v.contents v.walk bs none in
    let d = before.round_all v.contents v.walk bs in
    rw (r.made.contents_is, r.made.walk_is, r.made.updated_is, r.clients, none_looked_at bs, marked_as d.updated (record { contents = d.contents; log = v.log }) v.marks) (
      record {
        records = x.records;
        ticks = x.ticks;
        copies = copies_of (record { contents = d.contents; log = v.log }) (round_all plain v.contents v.walk (clients_of bs)).made.labels ++ x.copies;
        due = is_quiet ev;
      },
      refl,
    )

-- those that heard an event
pub heard_bytes : (x : Besides) (v : before.World) (ev : Ev) (bytes : List ℕ) → clients_of (before.heard (map before.unstopped v.there) ev bytes) ≡ heard_by (world_of x v) ev bytes
heard_bytes x v ev bytes = sym (ap (λ l. heard l ev bytes) (unstopped_as v.there) ∙ heard_as (map before.unstopped v.there) ev bytes)

event_as : (x : Besides) (v : before.World) (ev : Ev) (bytes : List ℕ) → NoTexts (heard_by (world_of x v) ev bytes)
    → SameWorld (with_round (world_of x v) ev (heard_by (world_of x v) ev bytes) (rounded (world_of x v) ev bytes)) (before.with_round v ev (before.round_of v ev bytes))
event_as x v ev bytes none =
    let bs = before.heard (map before.unstopped v.there) ev bytes in
    let same = heard_bytes x v ev bytes in
    subst (λ ks. SameWorld (with_round (world_of x v) ev ks (round_of_all plain x.records v.contents v.walk ks)) (before.with_round v ev (before.round_of v ev bytes))) same
    (behind_as x v ev bs (subst NoTexts (sym same) none))

closed_as : (x : Besides) (v : before.World) (c : ℕ) → SameWorld (happens (world_of x v) (Close c)) (before.happens v (Close c))
closed_as x v c = rw (picked_as (λ d. not (nat_eq d c)) v.there, picked_as (λ d. nat_eq d c) v.there, appended_as v.past (filter (λ k. nat_eq k.conn c) v.there)) (x, refl)

pub entry_as : (e : Entry) (x : Besides) (v : before.World) → AsksRight (world_of x v) e → HearsNoTexts (world_of x v) e → SameWorld (happens (world_of x v) e) (before.happens v e)
entry_as (Open at) x v asked none = (x, refl)
entry_as (Dial host port answer) x v asked none = absurd asked.1
entry_as (Event paused busy ev bytes) x v asked none = event_as x v ev bytes none
entry_as (Send c bytes answer) x v asked none = (x, ap (λ l. record (world_of x v) { there = l }) (sent_as c bytes answer v.there))
entry_as (Close c) x v asked none = closed_as x v c

pub all_as : (es : List Entry) (w : World) (v : before.World) → SameWorld w v → AllAsked w es → NeverTexts w es → SameWorld (world_after es w) (before.world_after es v)
all_as [] w v same asked never = same
all_as (e ∷ es) w v same asked never =
    all_as es (happens w e) (before.happens v e) (subst (λ u. AsksRight u e → HearsNoTexts u e → SameWorld (happens u e) (before.happens v e)) (sym same.1) (entry_as e same.0 v) asked.0 never.0) asked.1 never.1

pub started_as : (ticks : List ℕ) (opens : List At) (m : before.Mark) → SameWorld (started plain ticks opens (mark_as m)) (before.started opens m)
started_as ticks opens m = (record { records = records_in m.log; ticks = ticks; copies = []; due = true }, refl)
