-- Serving one connection, and all of them.
use Rattle.std.proofs.Common.{◌≡◌, ◌⊎◌, ⊎_elim, ◌≤◌, ◌<◌, ◌+◌, inl, inr, ℕ, zero, suc, Bool, true, false, not, cond, List, [], ◌∷◌, ◌++◌, length, get_or, set, refl, sym, ap, subst, ◌∙◌, arith, append_assoc, length-append, Ok, Err}
use Rattle.std.specs.Int.{w32, to_be_bytes}
use Rattle.std.specs.Prelude.{◌&&◌, ◌||◌, All, Option, Some, None}
use Rattle.std.specs.Option.{ForSome}
use Rattle.std.proofs.lemmas.List.Elements.{All-append, All-cons, All-nil}
use Rattle.std.proofs.lemmas.List.{append-nil}
use Rattle.std.proofs.lemmas.Bool.{and_parts, eqb-true, or_parts}
use Rattle.tc_base.specs.Files.{Files}
use Rattle.tc_base.specs.declared.request.Request.TheVariants.{Repl}
use Rattle.tc_space.specs.Frames.{only_reads_then, others_then}
use Rattle.tc_space.specs.declared.space.Space.{Ghosts}
use Rattle.ty_base.specs.Holding.{Held, IsReady, Layout, Leaves, leaves_less, leaves_nothing, numbers_then}
use Rattle.tc_base.specs.declared.fields.NotWhole.{NotWhole}
use Rattle.tc_base.specs.declared.fields.NotWhole.TheVariants.{Part}
use Rattle.tc_base.specs.Reading.{Front}
use Rattle.tc_model.specs.Contents.{Contents, Walk}
use Rattle.ty_memc.specs.declared.text.Piece.{Piece}
use Rattle.ty_memc.specs.declared.text.Piece.TheVariants as piece
use Rattle.ty_memc.specs.Grammar.{piece_at}
use Rattle.ty_pieces.specs.Made.{Made, unmade, made_then}
use Rattle.ty_pieces.specs.Pieces.{Done, done}
use Rattle.ty_core.specs.Queues.{Queue}
use Rattle.ty_core.specs.Serving.{Begins, FillsFront, Notes, Serves, ServesFront, TakesOff, entries, feed_of, reply_most}
use Rattle.ty_core.specs.declared.serving.Served.{Served}
use Rattle.ty_world.specs.Clients.{Client, front_of, is_ready, all_sent, piece_of, is_client as is_world_client, Role as WorldRole, of_client, of_feed}
use Rattle.ty_world.specs.Frames.{is_whole}
use Rattle.ty_world.specs.Logs.{Settings, is_replica}
use Rattle.ty_world.specs.Rounds.{served, serves, feeds, feeds as served_feeds, repl_reply, round_one, round_all}
use Rattle.ty_rounds.specs.Books.{Book, settings_of}
use Rattle.ty_ulog.specs.Noting.{MayAppend}
use Rattle.ty_ulog.specs.Updates.{IsUpdating}
use Rattle.ty_ulog.specs.declared.feed.Feed.{Feed as Feeding}
use Rattle.ty_rounds.specs.Feeding.{OwesRepl, role_then}
use Rattle.ty_rounds.specs.Peers.{numbers, all_taken, is_client, is_fed, has_whole}
use Rattle.ty_rounds.specs.Ready.{FewUnread, FewWaiting, IsCalm, KeepsLink, most_unread, most_waiting, unread_of}
use Rattle.ty_rounds.specs.Holding.{Holds, AllHold, HoldsMid, AllMid, PlaysAs, coming}
use Rattle.ty_rounds.specs.Serving.{RoundsOne, SameLink, ServesOne, ServesReady, FillsAt, FillsOne, ClientsTo, Halfway}
use Rattle.ty_rounds.specs.Terms.{IsTerms}
use Rattle.ty_rounds.specs.Works.{IsFit, MayTake, Work, no_work, AddsMade}
use Rattle.ty_rounds.specs.declared.logging.Logged.{Logged}
use Rattle.ty_rounds.specs.declared.logging.Terms.{Terms}
use Rattle.ty_rounds.specs.declared.peer.Peer.{Peer}
use Rattle.ty_rounds.specs.declared.peer.Role.{Role}
use Rattle.ty_rounds.specs.declared.peer.Role.TheVariants as peer
use Rattle.ty_rounds.proofs.Few.{calm_stirs}
use Rattle.ty_rounds.proofs.Links.{keeps_fed, keeps_role, keeps_same}
use Rattle.ty_rounds.proofs.Waiting.{sent_is, role_is}

pub or_false : (a : Bool) → (a || false) ≡ a
or_false true = refl
or_false false = refl

or_assoc : (a b d : Bool) → (a || (b || d)) ≡ ((a || b) || d)
or_assoc true b d = refl
or_assoc false b d = refl

-- ---- one that isn't served

adds_none : (logs : Bool) (c : Contents) (w : Walk) (o : Work) → AddsMade logs (unmade c w) o o
adds_none logs c w o = record { commits_is = sym (or_false o.commits); updates_is = λ on. sym (append-nil o.updates); labels_is = sym (append-nil o.labels) }

round_err : (b : Book) (o : Work) (h : Contents → Type 0) (c : Contents) (w : Walk) (k : Client) (p : Peer) (d : NotWhole) → h c → front_of k ≡ Err d → Holds b p k → RoundsOne b o o c h w w p k
unfolding round_one
round_err b o h c w k p d hc e held = record {
  adds = subst (λ (f : Front Piece). AddsMade b.is.logs (served b.is c w k f).made o o) (sym e) (adds_none b.is.logs c w o);
  contents = subst (λ (f : Front Piece). h (served b.is c w k f).made.contents) (sym e) hc;
  walk_is = sym (ap (λ (f : Front Piece). (served b.is c w k f).made.walk) e);
  holds = inl (subst (λ (f : Front Piece). Holds b p (served b.is c w k f).client) (sym e) held);
}

front_idle : (k : Client) → is_ready k ≡ false → front_of k ≡ Err Part
front_idle k e = ap (λ (b : Bool). cond b (piece_of k) (Err Part)) e

front_other : (k : Client) → is_world_client k.role ≡ false → front_of k ≡ Err Part
front_other k e = go (is_ready k) (is_world_client k.role) e
  where
    go : (r c : Bool) → c ≡ false → cond {A = Front Piece} r (cond c (piece_at k.unread) (Err Part)) (Err Part) ≡ Err Part
    go true false e = refl
    go false false e = refl
    go r true e = absurd cc

front_none : (k : Client) → is_whole (piece_at k.unread) ≡ false → (d : NotWhole) × (front_of k ≡ Err d)
front_none k none = go (is_ready k) (is_world_client k.role) (piece_at k.unread) none
  where
    go : (r c : Bool) (f : Front Piece) → is_whole f ≡ false → (d : NotWhole) × (cond {A = Front Piece} r (cond c f (Err Part)) (Err Part) ≡ Err d)
    go false c f none = (Part, refl)
    go true false f none = (Part, refl)
    go true true (Err e) none = (e, refl)
    go true true (Ok x) none = absurd cc

front_ready : (k : Client) → is_ready k ≡ true → is_world_client k.role ≡ true → front_of k ≡ piece_at k.unread
front_ready k r c = λ i. cond {A = Front Piece} (r i) (cond (c i) (piece_at k.unread) (Err Part)) (Err Part)

and_not : (a b : Bool) → a ≡ true → (not a && b) ≡ false
and_not true b e = refl
and_not false b e = absurd cc

and_none : (a b : Bool) → b ≡ false → (not a && b) ≡ false
and_none true b e = refl
and_none false b e = e

and_both : (a b : Bool) → a ≡ false → b ≡ true → (not a && b) ≡ true
and_both false b e f = f
and_both true b e f = absurd cc

-- a client has nothing to come
client_settled : (b : Book) (r : Role) → is_client r ≡ true → coming b r ≡ []
client_settled b peer.Client e = refl
client_settled b (peer.Fed f) e = absurd cc
client_settled b (peer.Called c) e = absurd cc

client_unread : (b : Book) (r : Role) (unread : List ℕ) (k : Client) → is_client r ≡ true → PlaysAs b r unread k → k.unread ≡ unread
client_unread b peer.Client unread k e x = x.unread_is
client_unread b (peer.Fed f) unread k e x = absurd cc
client_unread b (peer.Called c) unread k e x = absurd cc

pub ready_held : (b : Book) (p : Peer) (k : Client) → p.gone ≡ false → is_client p.role ≡ true → all_taken p ≡ true → Holds b p k → is_ready k ≡ true
ready_held b p k here client none h = and_both k.gone (all_sent k) (h.gone ∙ here) (sent_is b p k h (λ taken. client_settled b p.role client) ∙ none)

pub gone_idle : (l : Option Logged) (o : Work) (h : Contents → Type 0) (c : Contents) (w : Walk) (p : Peer) → h c → p.gone ≡ true → ServesOne l o o c h w w p p
gone_idle l o h c w p hc e = record { each = λ b k same held. round_err b o h c w k p Part hc (front_idle k (and_not k.gone (all_sent k) (held.gone ∙ e))) held }

pub waits_idle : (l : Option Logged) (o : Work) (h : Contents → Type 0) (c : Contents) (w : Walk) (p p' : Peer) → h c → p' ≡ p → all_taken p ≡ false → ServesOne l o o c h w w p p'
waits_idle l o h c w p p' hc is some = subst (λ (q : Peer). ServesOne l o o c h w w p q) (sym is) (record { each = λ b k same held. round_err b o h c w k p Part hc (front b k held) held })
  where
    front : (b : Book) (k : Client) → Holds b p k → front_of k ≡ Err Part
    front b k held = go (is_client p.role) refl
      where
        go : (r : Bool) → is_client p.role ≡ r → front_of k ≡ Err Part
        go true e = front_idle k (and_none k.gone (all_sent k) (sent_is b p k held (λ taken. client_settled b p.role e) ∙ some))
        go false e = front_other k ((role_is b p k held).client ∙ e)

pub none_idle : (l : Option Logged) (o : Work) (h : Contents → Type 0) (c : Contents) (w : Walk) (p p' : Peer) → h c → p' ≡ p → (is_client p.role && has_whole p) ≡ false → ServesOne l o o c h w w p p'
none_idle l o h c w p p' hc is none = subst (λ (q : Peer). ServesOne l o o c h w w p q) (sym is) (record { each = λ b k same held. let f = front b k held in round_err b o h c w k p f.0 hc f.1 held })
  where
    front : (b : Book) (k : Client) → Holds b p k → (d : NotWhole) × (front_of k ≡ Err d)
    front b k held = go p.role refl held.plays none
      where
        go : (r : Role) → p.role ≡ r → PlaysAs b r p.session.unread k → (is_client p.role && has_whole p) ≡ false → (d : NotWhole) × (front_of k ≡ Err d)
        go peer.Client e x none =
            let whole : is_whole (piece_at p.session.unread) ≡ false = sym (ap (λ (r : Role). is_client r && has_whole (record p { role = r })) e) ∙ none in
            front_none k (ap (λ (u : List ℕ). is_whole (piece_at u)) x.unread_is ∙ whole)
        go (peer.Fed f) e x none = (Part, front_other k (ap is_world_client x.role_is))
        go (peer.Called m) e x none = (Part, front_other k (ap is_world_client x.role_is))

-- ---- a piece is served, and what is owed for it waits

-- what a piece left to be done came to the batch
pub record AddsServed (d : Served) (o p : Work) : Type 0 where
  pub commits : p.commits ≡ (o.commits || d.commits)
  pub updates : p.updates ≡ o.updates ++ entries d.update
  pub labels : p.labels ≡ o.labels ++ entries d.copy

adds_made : (logs : Bool) (e : Done) (d : Served) (o p : Work) (c : Contents) (w : Walk) (waiting waiting' : List ℕ) → Serves logs e d c w waiting waiting' → AddsServed d o p → AddsMade logs e.made o p
adds_made logs e d o p c w waiting waiting' s a = record {
  commits_is = a.commits ∙ ap (λ (b : Bool). o.commits || b) s.commits;
  updates_is = λ on. a.updates ∙ ap (λ (l : List (List ℕ)). o.updates ++ l) (s.update on);
  labels_is = a.labels ∙ ap (λ (l : List (List ℕ)). o.labels ++ l) s.copy;
}

-- a client, or a feed from then on
most_of : (is : Settings) (x : Piece) (r : Role) → is_client r ≡ true → (role_then is x r ≡ r) ⊎ ((f : Feeding) × (role_then is x r ≡ peer.Fed f))
most_of is (piece.Request (Repl timestamp server)) r e = go (feeds is server)
  where
    go : (b : Bool) → (cond b (peer.Fed (record { above = timestamp; place = None })) r ≡ r) ⊎ ((f : Feeding) × (cond b (peer.Fed (record { above = timestamp; place = None })) r ≡ peer.Fed f))
    go true = inr (record { above = timestamp; place = None }, refl)
    go false = inl refl
most_of is _ r e = inl refl

pub nothing_fits : (l : Option Logged) → IsFit l no_work
nothing_fits l = record { idle = λ e. (refl, refl); noted = All-nil IsUpdating; may = go l; alone = inl refl; blocked = λ e. refl; met = λ e. refl }
  where
    go : (l : Option Logged) → MayTake l []
    go None = refl
    go (Some x) = All-nil (MayAppend x.ulog)

-- what is noted may be
pub serves_fit : (l : Option Logged) (o o' : Work) (replica logs : Bool) (d : Served) → replica ≡ is_replica (settings_of l) → AddsServed d o o' → SameLink o o' → Notes replica logs d → IsFit l o → o.taken ≡ [] → IsFit l o'
serves_fit l o o' replica logs d terms a same n f none = record {
  idle = λ e. let p = or_parts o.commits d.commits (sym a.commits ∙ e) in (a.updates ∙ (λ i. (f.idle p.0).0 i ++ entries (n.idle p.1 i)), same.taken_is ∙ none);
  noted = subst (All IsUpdating) (sym a.updates) (All-append IsUpdating o.updates (entries d.update) f.noted (go d.update n.noted));
  may = subst (MayTake l) (sym same.taken_is) f.may;
  alone = inl (same.taken_is ∙ none);
  blocked = λ e. a.updates ∙ (λ i. f.blocked e i ++ entries (n.blocked (terms ∙ e) i));
  met = λ e. same.gap_is ∙ f.met e;
}
  where
    go : (u : Option (List ℕ)) → ForSome u IsUpdating → All IsUpdating (entries u)
    go None h = All-nil IsUpdating
    go (Some x) h = All-cons IsUpdating x [] (h x refl) (All-nil IsUpdating)

pub serves_rise : (d : Served) (o o' : Work) → AddsServed d o o' → o'.commits ≡ false → o.commits ≡ false
serves_rise d o o' a e = (or_parts o.commits d.commits (sym a.commits ∙ e)).0

-- what it is then
pub served_link : (is : Settings) (p p' : Peer) (q : Queue) (x : Piece) → is_client p.role ≡ true → OwesRepl is (record p { session = q }) p' x → KeepsLink p p'
served_link is p p' q x client o = ⊎_elim (λ same. keeps_role p p' (o.role_is ∙ same)) (λ fed. keeps_fed p p' (ap is_fed (o.role_is ∙ fed.1))) (most_of is x p.role client)

-- whatever client it stood for, it stands for one that is owed this, or for a feed that was asked for
serves_mid : (b : Book) (p p' : Peer) (q : Queue) (x : Piece) (e : Done) (k : Client) → is_client p.role ≡ true → q.waiting ≡ p.session.waiting ++ e.reply → OwesRepl b.is (record p { session = q }) p' x → Holds b p k → HoldsMid b p' (serves b.is k x q.unread e).client
serves_mid b p p' q x e k client waits o h = go x o
  where
    role : k.role ≡ of_client
    role = by p.role client h.plays
      where
        by : (r : Role) → is_client r ≡ true → PlaysAs b r p.session.unread k → k.role ≡ of_client
        by peer.Client c y = y.role_is
        by (peer.Fed f) c y = absurd cc
        by (peer.Called m) c y = absurd cc

    plain : p.role ≡ peer.Client
    plain = by p.role client
      where
        by : (r : Role) → is_client r ≡ true → r ≡ peer.Client
        by peer.Client c = refl
        by (peer.Fed f) c = absurd cc
        by (peer.Called m) c = absurd cc

    owed_by : (r : List ℕ) → p'.session.waiting ≡ q.waiting ++ r → k.owed ++ (e.reply ++ r) ≡ k.out ++ p'.session.waiting
    owed_by r is =
        ap (λ (l : List ℕ). l ++ (e.reply ++ r)) (h.owed ∙ ap (λ (l : List ℕ). k.out ++ (p.session.waiting ++ l)) (client_settled b p.role client) ∙ ap (λ (l : List ℕ). k.out ++ l) (append-nil p.session.waiting))
        ∙ append_assoc k.out p.session.waiting (e.reply ++ r) ∙ ap (λ (l : List ℕ). k.out ++ l) (sym (append_assoc p.session.waiting e.reply r) ∙ ap (λ (l : List ℕ). l ++ r) (sym waits) ∙ sym is)

    -- a client still
    still : (x : Piece) (j : Client) → j.conn ≡ k.conn → j.role ≡ of_client → j.unread ≡ q.unread → j.out ≡ k.out → j.owed ≡ k.owed ++ (e.reply ++ repl_reply b.is x) → j.gone ≡ k.gone → j.ended ≡ k.ended → j.extra ≡ k.extra → p'.role ≡ peer.Client → OwesRepl b.is (record p { session = q }) p' x → Holds b p' j
    still x j conn is_plain unread out owed gone ended extra kept o = record {
      conn = conn ∙ h.conn ∙ sym o.conn;
      plays = subst (λ (r : Role). PlaysAs b r p'.session.unread j) (sym kept) (record { role_is = is_plain; unread_is = unread ∙ sym (ap (λ (z : Queue). z.unread) o.session) });
      owed = owed ∙ owed_by (repl_reply b.is x) (ap (λ (z : Queue). z.waiting) o.session) ∙ ap (λ (l : List ℕ). l ++ p'.session.waiting) (sym out)
          ∙ ap (λ (l : List ℕ). j.out ++ l) (sym (append-nil p'.session.waiting) ∙ ap (λ (l : List ℕ). p'.session.waiting ++ l) (sym (ap (coming b) kept)));
      gone = gone ∙ h.gone ∙ sym o.gone;
      ended = ended ∙ h.ended ∙ sym o.ended;
      extra = extra ∙ h.extra ∙ sym o.extra;
    }

    go : (x : Piece) → OwesRepl b.is (record p { session = q }) p' x → HoldsMid b p' (serves b.is k x q.unread e).client
    go (piece.Request (Repl timestamp server)) o = by (feeds b.is server) refl
      where
        asked : Piece
        asked = piece.Request (Repl timestamp server)

        j : Client
        j = (serves b.is k asked q.unread e).client

        by : (f : Bool) → feeds b.is server ≡ f → HoldsMid b p' j
        by true fed = inr (record {
          logged = (and_parts b.is.logs _ fed).0;
          conn = h.conn ∙ sym o.conn;
          above = timestamp;
          p_role = o.role_is ∙ ap (λ (f : Bool). cond f (peer.Fed (record { above = timestamp; place = None })) p.role) fed;
          k_role = ap (λ (f : Bool). cond {A = WorldRole} f (of_feed timestamp j.owed) k.role) fed;
          owed = owed_by (repl_reply b.is asked) (ap (λ (z : Queue). z.waiting) o.session);
          gone = h.gone ∙ sym o.gone;
          ended = h.ended ∙ sym o.ended;
          extra = h.extra ∙ sym o.extra;
        })
        by false unfed = inl (still asked j refl (ap (λ (f : Bool). cond {A = WorldRole} f (of_feed timestamp j.owed) k.role) unfed ∙ role) refl refl refl refl refl refl (o.role_is ∙ ap (λ (f : Bool). cond f (peer.Fed (record { above = timestamp; place = None })) p.role) unfed ∙ plain) o)
    go y o = inl (still y (serves b.is k y q.unread e).client refl role refl refl refl refl refl refl (o.role_is ∙ plain) o)

pub one_served : (l : Option Logged) (known : Contents → Type 0) (o o' : Work) (c c' : Contents) (w w' : Walk) (p p' : Peer) (q : Queue) (x : Piece) (d : Served) → p.gone ≡ false → is_client p.role ≡ true → all_taken p ≡ true
    → TakesOff x d p.session.unread q.unread → Serves (settings_of l).logs (done (is_replica (settings_of l)) x c w) d c' w' p.session.waiting q.waiting → OwesRepl (settings_of l) (record p { session = q }) p' x → AddsServed d o o' → known c' → ServesOne l o o' c known w w' p p'
unfolding round_one
one_served l known o o' c c' w w' p p' q x d here client none t s owes adds hc = record { each = λ b k same h. go b k same h }
  where
    go : (b : Book) (k : Client) → b.is ≡ settings_of l → Holds b p k → RoundsOne b o o' c known w w' p' k
    go b k same h =
        let e = done (is_replica b.is) x c w in
        let s1 : Serves b.is.logs e d c' w' p.session.waiting q.waiting = subst (λ (z : Settings). Serves z.logs (done (is_replica z) x c w) d c' w' p.session.waiting q.waiting) (sym same) s in
        let front : front_of k ≡ Ok (x, q.unread) = front_ready k (ready_held b p k here client none h) ((role_is b p k h).client ∙ client) ∙ (ap piece_at (client_unread b p.role p.session.unread k client h.plays) ∙ t.front) in
        record {
          adds = subst (λ (f : Front Piece). AddsMade b.is.logs (served b.is c w k f).made o o') (sym front) (adds_made b.is.logs e d o o' c' w' p.session.waiting q.waiting s1 adds);
          contents = subst known (s1.contents ∙ sym (ap (λ (f : Front Piece). (served b.is c w k f).made.contents) front)) hc;
          walk_is = s1.walk ∙ sym (ap (λ (f : Front Piece). (served b.is c w k f).made.walk) front);
          holds = subst (λ (f : Front Piece). HoldsMid b p' (served b.is c w k f).client) (sym front) (serves_mid b p p' q x e k client s1.waiting_is (subst (λ (z : Settings). OwesRepl z (record p { session = q }) p' x) (sym same) owes) h);
        }

-- what it makes of the contents
pub one_contents : (b : Book) (c : Contents) (w : Walk) (p : Peer) (k : Client) (x : Piece) (rest : List ℕ) → p.gone ≡ false → is_client p.role ≡ true → all_taken p ≡ true → piece_at p.session.unread ≡ Ok (x, rest) → Holds b p k → (round_one b.is c w k).made.contents ≡ (done (is_replica b.is) x c w).made.contents
unfolding round_one
one_contents b c w p k x rest here client none front h =
    ap (λ (f : Front Piece). (served b.is c w k f).made.contents) (front_ready k (ready_held b p k here client none h) ((role_is b p k h).client ∙ client) ∙ (ap piece_at (client_unread b p.role p.session.unread k client h.plays) ∙ front))

-- ---- all

then_assoc : (a b x : Made) → made_then a (made_then b x) ≡ made_then (made_then a b) x
then_assoc a b x = λ i. record { contents = x.contents; walk = x.walk; updates = sym (append_assoc a.updates b.updates x.updates) i; labels = sym (append_assoc a.labels b.labels x.labels) i; commits = or_assoc a.commits b.commits x.commits i }

more_made : (is : Settings) (c : Contents) (w : Walk) (ks : List Client) (k : Client) → (round_all is c w (ks ++ k ∷ [])).made ≡ made_then (round_all is c w ks).made (round_one is (round_all is c w ks).made.contents (round_all is c w ks).made.walk k).made
more_made is c w [] k = let one = (round_one is c w k).made in λ i. record { contents = one.contents; walk = one.walk; updates = append-nil one.updates i; labels = append-nil one.labels i; commits = or_false one.commits i }
more_made is c w (j ∷ ks) k =
    let one = (round_one is c w j).made in
    let rest = (round_all is one.contents one.walk ks).made in
    ap (made_then one) (more_made is one.contents one.walk ks k) ∙ then_assoc one rest (round_one is rest.contents rest.walk k).made

more_clients : (is : Settings) (c : Contents) (w : Walk) (ks : List Client) (k : Client) → (round_all is c w (ks ++ k ∷ [])).clients ≡ (round_all is c w ks).clients ++ (round_one is (round_all is c w ks).made.contents (round_all is c w ks).made.walk k).client ∷ []
more_clients is c w [] k = refl
more_clients is c w (j ∷ ks) k = let one = round_one is c w j in ap (λ (l : List Client). one.client ∷ l) (more_clients is one.made.contents one.made.walk ks k)

mid_more : (b : Book) (ps : List Peer) (ks : List Client) (p : Peer) (k : Client) → AllMid b ps ks → HoldsMid b p k → AllMid b (ps ++ p ∷ []) (ks ++ k ∷ [])
mid_more b [] [] p k a h = (h, tt)
mid_more b (x ∷ ps) (y ∷ ks) p k a h = (a.0, mid_more b ps ks p k a.1 h)
mid_more b [] (y ∷ ks) p k a h = absurd a
mid_more b (x ∷ ps) [] p k a h = absurd a

set_there : (front back : List Peer) (p q : Peer) → set (front ++ p ∷ back) (length front) q ≡ front ++ q ∷ back
set_there [] back p q = refl
set_there (x ∷ front) back p q = ap (λ (l : List Peer). x ∷ l) (set_there front back p q)

get_there : (front back : List Peer) (p d : Peer) → get_or (front ++ p ∷ back) (length front) d ≡ p
get_there [] back p d = refl
get_there (x ∷ front) back p d = get_there front back p d

pub begin : (b : Book) (known : Contents → Type 0) (c : Contents) (w : Walk) (ps : List Peer) (ks : List Client) → known c → AllHold b ps ks → Halfway b no_work c known w w ps 0 ks
begin b known c w ps ks hc a = record {
  front = [];
  back = ps;
  served = [];
  rest = ks;
  peers_are = refl;
  clients_are = refl;
  at = refl;
  done = record { commits_is = refl; updates_is = λ on. refl; labels_is = refl; contents = hc; walk_is = refl; each = tt };
  left = a;
}

pub more : (l : Option Logged) (b : Book) (o o' : Work) (c0 : Contents) (c c' : Contents → Type 0) (w0 w w' : Walk) (ps : List Peer) (ks : List Client) (i : ℕ) (p q : Peer) → b.is ≡ settings_of l → Halfway b o c0 c w0 w ps i ks → i < length ps → p ≡ get_or ps i p → ((d : Contents) → c d → ServesOne l o o' d c' w w' p q)
    → Halfway b o' c0 c' w0 w' (set ps i q) (i + 1) ks
more l b o o' c0 c c' w0 w w' ps ks i p q same h lt is serves = go h.back h.rest refl refl h.left
  where
    go : (back : List Peer) (rest : List Client) → h.back ≡ back → h.rest ≡ rest → AllHold b back rest → Halfway b o' c0 c' w0 w' (set ps i q) (i + 1) ks
    go [] [] e f a = absurd (omega (arith, lt, h.at, ap length h.peers_are, ap length e, length-append h.front h.back))
    go [] (y ∷ ys) e f a = absurd a
    go (x ∷ xs) [] e f a = absurd a
    go (x ∷ xs) (k ∷ ys) e f a =
        let there : ps ≡ h.front ++ x ∷ xs = h.peers_are ∙ ap (λ (l : List Peer). h.front ++ l) e in
        let is_x : p ≡ x = is ∙ ap (λ (l : List Peer). get_or l i p) there ∙ ap (λ (n : ℕ). get_or (h.front ++ x ∷ xs) n p) (sym h.at) ∙ get_there h.front xs x p in
        let now = round_all b.is c0 w0 h.served in
        let s = (serves now.made.contents h.done.contents).each b k same (subst (λ (z : Peer). Holds b z k) (sym is_x) a.0) in
        let r = subst (λ (d : Walk). RoundsOne b o o' now.made.contents c' d w' q k) h.done.walk_is s in
        let one = (round_one b.is now.made.contents now.made.walk k).made in
        let made = more_made b.is c0 w0 h.served k in
        record {
          front = h.front ++ q ∷ [];
          back = xs;
          served = h.served ++ k ∷ [];
          rest = ys;
          peers_are = ap (λ (l : List Peer). set l i q) there ∙ ap (λ (n : ℕ). set (h.front ++ x ∷ xs) n q) (sym h.at) ∙ set_there h.front xs x q ∙ sym (append_assoc h.front (q ∷ []) xs);
          clients_are = h.clients_are ∙ ap (λ (l : List Client). h.served ++ l) f ∙ sym (append_assoc h.served (k ∷ []) ys);
          at = omega (arith, h.at, length-append h.front (q ∷ []));
          done = record {
            commits_is = r.adds.commits_is ∙ ap (λ (u : Bool). u || one.commits) h.done.commits_is ∙ sym (ap (λ (m : Made). m.commits) made);
            updates_is = λ on. r.adds.updates_is on ∙ ap (λ (u : List (List ℕ)). u ++ one.updates) (h.done.updates_is on) ∙ sym (ap (λ (m : Made). m.updates) made);
            labels_is = r.adds.labels_is ∙ ap (λ (u : List (List ℕ)). u ++ one.labels) h.done.labels_is ∙ sym (ap (λ (m : Made). m.labels) made);
            contents = subst c' (sym (ap (λ (m : Made). m.contents) made)) r.contents;
            walk_is = r.walk_is ∙ sym (ap (λ (m : Made). m.walk) made);
            each = subst (AllMid b (h.front ++ q ∷ [])) (sym (more_clients b.is c0 w0 h.served k)) (mid_more b h.front now.clients q (round_one b.is now.made.contents now.made.walk k).client h.done.each r.holds);
          };
          left = a.1;
        }

-- a limit was reached at the next piece
pub fills_at : (fills : Contents → Contents → Type 0) (b : Book) (o : Work) (c0 : Contents) (c : Contents → Type 0) (w0 w : Walk) (ps : List Peer) (ks : List Client) (i : ℕ) (p : Peer) → Halfway b o c0 c w0 w ps i ks → i < length ps → p ≡ get_or ps i p → ((d : Contents) → c d → (k : Client) → Holds b p k → FillsOne b.is fills d w k) → FillsAt b.is fills c0 w0 ks
fills_at fills b o c0 c w0 w ps ks i p h lt is full = go h.back h.rest refl refl h.left
  where
    go : (back : List Peer) (rest : List Client) → h.back ≡ back → h.rest ≡ rest → AllHold b back rest → FillsAt b.is fills c0 w0 ks
    go [] [] e f a = absurd (omega (arith, lt, h.at, ap length h.peers_are, ap length e, length-append h.front h.back))
    go [] (y ∷ ys) e f a = absurd a
    go (x ∷ xs) [] e f a = absurd a
    go (x ∷ xs) (k ∷ ys) e f a =
        let there : ps ≡ h.front ++ x ∷ xs = h.peers_are ∙ ap (λ (l : List Peer). h.front ++ l) e in
        let is_x : p ≡ x = is ∙ ap (λ (l : List Peer). get_or l i p) there ∙ ap (λ (n : ℕ). get_or (h.front ++ x ∷ xs) n p) (sym h.at) ∙ get_there h.front xs x p in
        let now = round_all b.is c0 w0 h.served in
        let one = full now.made.contents h.done.contents k (subst (λ (z : Peer). Holds b z k) (sym is_x) a.0) in
        record {
          front = h.served;
          back = k ∷ ys;
          parts = h.clients_are ∙ ap (λ (l : List Client). h.served ++ l) f;
          next = subst (λ (v : Walk). FillsOne b.is fills now.made.contents v k) h.done.walk_is one;
        }

pub finish : (b : Book) (o : Work) (c0 : Contents) (c : Contents → Type 0) (w0 w : Walk) (ps : List Peer) (ks : List Client) (i : ℕ) → Halfway b o c0 c w0 w ps i ks → length ps ≤ i → ClientsTo b o c w ps (round_all b.is c0 w0 ks)
finish b o c0 c w0 w ps ks i h le = go h.back h.rest refl refl h.left
  where
    go : (back : List Peer) (rest : List Client) → h.back ≡ back → h.rest ≡ rest → AllHold b back rest → ClientsTo b o c w ps (round_all b.is c0 w0 ks)
    go [] [] e f a =
        let all : ps ≡ h.front = h.peers_are ∙ ap (λ (l : List Peer). h.front ++ l) e ∙ append-nil h.front in
        let every : ks ≡ h.served = h.clients_are ∙ ap (λ (l : List Client). h.served ++ l) f ∙ append-nil h.served in
        subst (λ (l : List Client). ClientsTo b o c w ps (round_all b.is c0 w0 l)) (sym every) (subst (λ (l : List Peer). ClientsTo b o c w l (round_all b.is c0 w0 h.served)) (sym all) h.done)
    go [] (y ∷ ys) e f a = absurd a
    go (x ∷ xs) [] e f a = absurd a
    go (x ∷ xs) (k ∷ ys) e f a = absurd (omega (arith, le, h.at, ap length h.peers_are, ap length e, length-append h.front h.back))

pub numbers_kept : (ps : List Peer) (i : ℕ) (p q : Peer) → i < length ps → p ≡ get_or ps i p → q.conn ≡ p.conn → numbers (set ps i q) ≡ numbers ps
numbers_kept [] i p q lt is same = absurd (omega (arith, lt))
numbers_kept (x ∷ ps) zero p q lt is same = ap (λ (n : ℕ). n ∷ numbers ps) (same ∙ ap (λ (z : Peer). z.conn) is)
numbers_kept (x ∷ ps) (suc i) p q lt is same = ap (λ (l : List ℕ). x.conn ∷ l) (numbers_kept ps i p q (omega (arith, lt)) is same)

-- ---- what the space is and what the connection holds

pub leaves_then : {S : Type 0} (s : Ghosts S) (own : ℕ → Type 0) (layout : Files → Layout) (u v : Bool) (a b c : S) → (v ≡ false → u ≡ false) → Leaves s own layout (u ≡ false) a b → Leaves s own layout (v ≡ false) b c → Leaves s own layout (v ≡ false) a c
leaves_then s own layout u v a b c rises first second = record {
  sound = second.sound;
  others = others_then s own a b c first.others second.others;
  numbered = λ t. numbers_then (layout (s.now a)) (layout (s.now b)) (layout (s.now c)) (first.numbered t) (second.numbered t);
  reads = λ e. only_reads_then s a b c (first.reads (rises e)) (second.reads e);
}

pub still_ready : {S B : Type 0} (s : Ghosts S) (own : ℕ → Type 0) (layout : Files → Layout) (holds : B → Files → Contents → Type 0) (replica logs : Bool) (d : Served) (base base' : B) (old new : S) (w w' : Walk) (unread unread' waiting waiting' : List ℕ) (idle : Type 0) → IsReady s holds base old → ServesFront s holds replica logs d base base' old new w w' unread unread' waiting waiting' → Leaves s own layout idle old new → IsReady s holds base' new
still_ready s own layout holds replica logs d base base' old new w w' unread unread' waiting waiting' idle is f l = record { sound = l.sound; held = λ t. let h = is.held t in let x = f.served.serves h.0 (t, h.1) in (x.0, x.1.1) }

-- ---- how much it holds then

fewer_of : (r : Role) (unread unread' : List ℕ) → is_client r ≡ true → length unread' ≤ length unread → length (unread_of r unread) ≤ most_unread r → length (unread_of r unread') ≤ most_unread r
fewer_of peer.Client unread unread' e le few = omega (arith, le, few)
fewer_of (peer.Fed f) unread unread' e le few = absurd cc
fewer_of (peer.Called c) unread unread' e le few = absurd cc

pub fewer_unread : (is : Settings) (p p' : Peer) (q : Queue) (x : Piece) (d : Served) → is_client p.role ≡ true → TakesOff x d p.session.unread q.unread → OwesRepl is (record p { session = q }) p' x → FewUnread p → FewUnread p'
fewer_unread is p p' q x d client t o few = ⊎_elim
    (λ same. subst (λ (r : Role). length (unread_of r p'.session.unread) ≤ most_unread r) (sym (o.role_is ∙ same)) (fewer_of p.role p.session.unread p'.session.unread client less few))
    (λ fed. subst (λ (r : Role). length (unread_of r p'.session.unread) ≤ most_unread r) (sym (o.role_is ∙ fed.1)) (within p.role client few))
    (most_of is x p.role client)
  where
    less : length p'.session.unread ≤ length p.session.unread
    less = omega (arith, ap length t.spelled, length-append t.text q.unread, ap (λ (z : Queue). length z.unread) o.session)

    within : (r : Role) → is_client r ≡ true → length (unread_of r p.session.unread) ≤ most_unread r → length p'.session.unread ≤ 33558528
    within peer.Client e few = omega (arith, few, less)
    within (peer.Fed f) e few = absurd cc
    within (peer.Called c) e few = absurd cc

-- a reply that is no longer than any may be waits, or what a repl is answered
pub few_waiting : (is : Settings) (p p' : Peer) (q : Queue) (x : Piece) (d : Served) → is_client p.role ≡ true → d.feeds ≡ feed_of x → length q.waiting ≤ length p.session.waiting + reply_most d.feeds → all_taken p ≡ true → OwesRepl is (record p { session = q }) p' x → FewWaiting p'
few_waiting is p p' q x d client asks few none o = go x asks o
  where
    empty : length p.session.waiting ≡ 0
    empty = eqb-true (length p.session.waiting) 0 none

    long : (r : List ℕ) → p'.session.waiting ≡ q.waiting ++ r → length p'.session.waiting ≡ length q.waiting + length r
    long r is = omega (arith, ap length is, length-append q.waiting r)

    most : (r : Role) → is_client r ≡ true → most_waiting r ≡ 67108864
    most peer.Client e = refl
    most (peer.Fed f) e = absurd cc
    most (peer.Called c) e = absurd cc

    go : (x : Piece) → d.feeds ≡ feed_of x → OwesRepl is (record p { session = q }) p' x → FewWaiting p'
    go (piece.Request (Repl timestamp server)) f o = by (served_feeds is server) refl
      where
        short : length q.waiting ≤ 0
        short = omega (arith, few, empty, ap reply_most f)

        by : (b : Bool) → served_feeds is server ≡ b → FewWaiting p'
        by true fed =
            let reply : repl_reply is (piece.Request (Repl timestamp server)) ≡ to_be_bytes w32 is.own = ap (λ (b : Bool). cond b (to_be_bytes w32 is.own) (1 ∷ [])) fed in
            let role : p'.role ≡ peer.Fed (record { above = timestamp; place = None }) = o.role_is ∙ ap (λ (b : Bool). cond b (peer.Fed (record { above = timestamp; place = None })) p.role) fed in
            subst (λ (r : Role). length p'.session.waiting ≤ most_waiting r) (sym role) (omega (arith, short, long _ (ap (λ (z : Queue). z.waiting) o.session), ap length reply))
        by false unfed =
            let reply : repl_reply is (piece.Request (Repl timestamp server)) ≡ 1 ∷ [] = ap (λ (b : Bool). cond b (to_be_bytes w32 is.own) (1 ∷ [])) unfed in
            let role : p'.role ≡ p.role = o.role_is ∙ ap (λ (b : Bool). cond b (peer.Fed (record { above = timestamp; place = None })) p.role) unfed in
            subst (λ (r : Role). length p'.session.waiting ≤ most_waiting r) (sym role) (omega (arith, short, long _ (ap (λ (z : Queue). z.waiting) o.session), ap length reply, most p.role client))
    go (piece.Text t) f o =
        subst (λ (r : Role). length p'.session.waiting ≤ most_waiting r) (sym o.role_is) (omega (arith, few, empty, ap reply_most f, long [] (ap (λ (z : Queue). z.waiting) o.session), most p.role client))
    go _ f o =
        subst (λ (r : Role). length p'.session.waiting ≤ most_waiting r) (sym o.role_is) (omega (arith, few, empty, ap reply_most f, long [] (ap (λ (z : Queue). z.waiting) o.session), most p.role client))

-- ---- one connection, served or not

module _ {S B : Type 0} (s : Ghosts S) (own : ℕ → Type 0) (layout : Files → Layout) (holds : B → Files → Contents → Type 0) (l : Option Logged) where
  pub idle_ready : (o : Work) (base : B) (a : S) (w : Walk) (p : Peer) → IsReady s holds base a → IsCalm p → ((c : Contents) → Held s holds base a c → ServesOne l o o c (Held s holds base a) w w p p) → ServesReady s own layout holds l o o base base a a w w p p
  idle_ready o base a w p ready calm each = record {
    conn = refl;
    unread = λ h. h;
    waiting = λ h. h;
    calm = calm;
    links = keeps_same p;
    link = record { taken_is = refl; gap_is = refl };
    fit = λ f none. f;
    rises = λ e. e;
    each = each;
    ready = ready;
    leaves = leaves_nothing s own layout (o.commits ≡ false) a ready.sound;
  }

  module _ (t : Terms) (is : IsTerms t l) where
    -- by the words
    by_terms : (x : Piece) (d : Served) (c c' : Contents) (w w' : Walk) (waiting waiting' : List ℕ) → Serves t.logs (done t.replica x c w) d c' w' waiting waiting' → Serves (settings_of l).logs (done (is_replica (settings_of l)) x c w) d c' w' waiting waiting'
    by_terms x d c c' w w' waiting waiting' h = subst (λ (b : Bool). Serves (settings_of l).logs (done b x c w) d c' w' waiting waiting') is.replica_is (subst (λ (b : Bool). Serves b (done t.replica x c w) d c' w' waiting waiting') is.logs_is h)

    pub one_ready : (o o' : Work) (base base' : B) (a a' : S) (w w' : Walk) (p p' : Peer) (q : Queue) (d : Served) → p.gone ≡ false → is_client p.role ≡ true → all_taken p ≡ true → p.stirs ≡ true → ServesFront s holds t.replica t.logs d base base' a a' w w' p.session.unread q.unread p.session.waiting q.waiting
        → ((x : Piece) → d.feeds ≡ feed_of x → OwesRepl (settings_of l) (record p { session = q }) p' x) → AddsServed d o o' → SameLink o o' → IsReady s holds base a → Leaves s own layout (d.commits ≡ false) a a' → ServesReady s own layout holds l o o' base base' a a' w w' p p'
    one_ready o o' base base' a a' w w' p p' q d here client taken stirs f owes adds same ready leaves =
        let x = f.piece in
        let owed = owes x f.takes.feeds in
        record {
          conn = owed.conn;
          unread = fewer_unread (settings_of l) p p' q x d client f.takes owed;
          waiting = λ few. few_waiting (settings_of l) p p' q x d client f.takes.feeds f.served.few taken owed;
          calm = calm_stirs p' (owed.stirs ∙ stirs);
          links = served_link (settings_of l) p p' q x client owed;
          link = same;
          fit = serves_fit l o o' t.replica t.logs d is.replica_is adds same f.served.notes;
          rises = serves_rise d o o' adds;
          each = λ c h. let y = f.served.serves c h in one_served l (Held s holds base' a') o o' c y.0 w w' p p' q x d here client taken f.takes (by_terms x d c y.0 w w' p.session.waiting q.waiting y.2) owed adds y.1;
          ready = still_ready s own layout holds t.replica t.logs d base base' a a' w w' p.session.unread q.unread p.session.waiting q.waiting (d.commits ≡ false) ready f leaves;
          leaves = leaves_less s own layout (d.commits ≡ false) (o'.commits ≡ false) a a' (λ e. (or_parts o.commits d.commits (sym adds.commits ∙ e)).1) leaves;
        }

    -- a limit was reached in its piece
    pub one_full : (fills since : Contents → Contents → Type 0) → ((c d : Contents) → fills c d → since c d) → (base : B) (a : S) (w : Walk) (p : Peer) → p.gone ≡ false → is_client p.role ≡ true → all_taken p ≡ true → FillsFront s holds fills t.replica base a w p.session.unread
        → (c : Contents) → Held s holds base a c → (b : Book) (k : Client) → b.is ≡ settings_of l → Holds b p k → FillsOne b.is since c w k
    one_full fills since wider base a w p here client taken f c h b k same held =
        let x = f.piece in
        let replica : t.replica ≡ is_replica b.is = is.replica_is ∙ ap is_replica (sym same) in
        let contents = one_contents b c w p k x f.begins.rest here client taken f.begins.front held ∙ ap (λ (r : Bool). (done r x c w).made.contents) (sym replica) in
        record {
          piece = x;
          ready = ready_held b p k here client taken held;
          begins = subst (λ (u : List ℕ). Begins x u) (sym (client_unread b p.role p.session.unread k client held.plays)) f.begins;
          writes = f.full.writes;
          packs = λ packs d e. wider d e (f.full.packs packs h.0 d e);
          full = subst (since c) (sym contents) (wider c (done t.replica x c w).made.contents (f.full.by c h));
        }
