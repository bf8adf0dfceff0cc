-- What came of a connection is spellings of its pieces, and then its unread bytes; of the link its line.
use Rattle.std.proofs.Common.{◌≡◌, ℕ, Bool, true, false, cond, List, [], ◌∷◌, ◌++◌, map, refl, sym, ap, subst, ◌∙◌, arith, inr}
use Rattle.std.specs.Prelude.{Ok, Err, nat_eq}
use Rattle.std.specs.List.{filter}
use Rattle.std.proofs.lemmas.List.{append_assoc, append-nil}
use Rattle.tc_base.specs.Reading.{Front}
use Rattle.tc_base.specs.declared.fields.NotWhole.TheVariants.{Part}
use Rattle.tc_base.specs.declared.request.Request.TheVariants.{Repl}
use Rattle.tc_base.proofs.Exact.{IsBytes, IsBytes-rest}
use Rattle.tc_io.specs.declared.wire.At.{At}
use Rattle.tc_io.specs.declared.wire.Dialled.{Dialled}
use Rattle.tc_io.specs.declared.wire.Dialled.TheVariants.{Conn, NotNow}
use Rattle.tc_io.specs.declared.wire.Ev.{Ev}
use Rattle.tc_io.specs.declared.wire.Ev.TheVariants.{Opened, Read, Ended, Quiet, Shut}
use Rattle.tc_io.specs.declared.wire.Sent.{Sent}
use Rattle.tc_io.specs.declared.wire.Sent.TheVariants.{Took, NotYet, Gone}
use Rattle.tc_io.specs.declared.wire.Entry.{Entry}
use Rattle.tc_io.specs.declared.wire.Entry.TheVariants.{Open, Dial, Event, Send, Close}
use Rattle.ty_memc.specs.declared.text.Piece.{Piece}
use Rattle.ty_memc.specs.declared.text.Piece.TheVariants as piece
use Rattle.ty_memc.specs.Grammar.{piece_at, Spells}
use Rattle.ty_memc.proofs.PieceGrammar.{pieces}
use Rattle.tc_model.specs.Contents.{Contents, Walk}
use Rattle.ty_pieces.specs.Pieces.{Done, done}
use Rattle.ty_ulog.specs.declared.record.Record.{Record}
use Rattle.ty_ulog.specs.Log.{last_of, log_bytes}
use Rattle.ty_world.specs.Frames.{Stands}
use Rattle.ty_world.specs.Clients.{Client, Role, of_client, of_feed, to_master, is_client, is_ready, front_of}
use Rattle.ty_world.specs.Fold.{IsLine}
use Rattle.ty_world.specs.Links.{Looked, line_of, look_at, look_next, look_all, unmoved}
use Rattle.ty_world.specs.Logs.{Settings, is_replica}
use Rattle.ty_world.specs.Rounds.{Round, feeds, role_after, served, serves, round_one, round_all, look_of, fed, fed_by, feed_all}
use Rattle.ty_world.specs.World.{World, Mark, started, unstopped, at_conn, new_client, new_link, clients_in, with_dialled, with_read, with_end, heard, heard_by, sent, happens, rounded, world_after, AllCame}
use Rattle.ty_world.specs.Answers.{ArePlaced, SpelledAs, EachSpelled, AllSpelled}
use Rattle.ty_world.proofs.Follows.{bytes_more, front_client}
use Rattle.ty_world.proofs.LinkLaws.{looks_line}

-- with bytes, of a role
abbrev RightAs : Role → Client → Type 0
RightAs r k = SpelledAs r k × IsBytes k.unread

abbrev IsRight : Client → Type 0
IsRight k = RightAs k.role k

abbrev Right : List Client → Type 0
Right [] = Unit {0}
Right (k ∷ ks) = IsRight k × Right ks

stand_one : (x : Piece) (text : List ℕ) → Spells x text → Stands Spells (x ∷ []) text
stand_one x text s = (text, [], s, refl, sym (append-nil text))

stand_more : (xs : List Piece) (x : Piece) (front text : List ℕ) → Stands Spells xs front → Spells x text → Stands Spells (xs ++ x ∷ []) (front ++ text)
stand_more [] x front text h s = subst (Stands Spells (x ∷ [])) (sym (ap (λ (l : List ℕ). l ++ text) h)) (stand_one x text s)
stand_more (y ∷ xs) x front text h s = (h.0, h.1 ++ text, h.2, stand_more xs x h.1 text h.3 s, ap (λ (l : List ℕ). l ++ text) h.4 ∙ append_assoc h.0 h.1 text)

-- ---- lists

abbrev KeepsRight : (Client → Client) → Type 0
KeepsRight f = (k : Client) → IsRight k → IsRight (f k)

each_map : (f : Client → Client) → KeepsRight f → (ks : List Client) → Right ks → Right (map f ks)
each_map f g [] h = tt
each_map f g (k ∷ ks) h = (g k h.0, each_map f g ks h.1)

each_more : (ks ls : List Client) → Right ks → Right ls → Right (ks ++ ls)
each_more [] ls h g = g
each_more (k ∷ ks) ls h g = (h.0, each_more ks ls h.1 g)

each_filter : (p : Client → Bool) (ks : List Client) → Right ks → Right (filter p ks)
each_filter p [] h = tt
each_filter p (k ∷ ks) h = go (p k) (each_filter p ks h.1)
  where
    go : (b : Bool) → Right (filter p ks) → Right (cond b (k ∷ filter p ks) (filter p ks))
    go true r = (h.0, r)
    go false r = r

at_right : (c : ℕ) (f : Client → Client) → KeepsRight f → KeepsRight (at_conn c f)
at_right c f g k h = go (nat_eq k.conn c)
  where
    go : (b : Bool) → IsRight (cond b (f k) k)
    go true = g k h
    go false = h

-- ---- one connection

-- the same bytes and pieces
right_same : (r : Role) (k j : Client) → j.input ≡ k.input → j.unread ≡ k.unread → j.placed ≡ k.placed → RightAs r k → RightAs r j
right_same r k j a b c h = (go r h.0, subst IsBytes (sym b) h.1)
  where
    placed : ArePlaced k → ArePlaced j
    placed p = record { front = p.front; parts = a ∙ (p.parts ∙ ap (λ (u : List ℕ). p.front ++ u) (sym b)); stand = subst (λ (xs : List Piece). Stands Spells xs p.front) (sym c) p.stand }

    go : (r : Role) → SpelledAs r k → SpelledAs r j
    go of_client s = placed s
    go (of_feed above base) s = placed s
    go (to_master named broken) s = subst (λ (x : List ℕ). IsLine x named j.unread) (sym a) (subst (λ (x : List ℕ). IsLine k.input named x) (sym b) s)

read_right : (bytes : List ℕ) → IsBytes bytes → KeepsRight (with_read bytes)
read_right bytes b k h = (go k.role h.0, bytes_more k.unread bytes h.1 b)
  where
    placed : ArePlaced k → ArePlaced (with_read bytes k)
    placed p = record { front = p.front; parts = ap (λ (l : List ℕ). l ++ bytes) p.parts ∙ append_assoc p.front k.unread bytes; stand = p.stand }

    go : (r : Role) → SpelledAs r k → SpelledAs r (with_read bytes k)
    go of_client s = placed s
    go (of_feed above base) s = placed s
    go (to_master named broken) l = record {
      id = l.id;
      looked = l.looked;
      parts = ap (λ (x : List ℕ). x ++ bytes) l.parts ∙ append_assoc l.id (log_bytes l.looked ++ k.unread) bytes ∙ ap (λ (x : List ℕ). l.id ++ x) (append_assoc (log_bytes l.looked) k.unread bytes);
      fit = l.fit;
      id_is = l.id_is;
    }

placed_empty : (k : Client) → k.input ≡ [] → k.unread ≡ [] → k.placed ≡ [] → ArePlaced k
placed_empty k a b c = record { front = []; parts = a ∙ sym b; stand = subst (λ (xs : List Piece). Stands Spells xs []) (sym c) refl }

heard_right : (ks : List Client) (ev : Ev) (bytes : List ℕ) → IsBytes bytes → Right ks → Right (heard ks ev bytes)
heard_right ks (Opened c) bytes b h = let k = new_client c (clients_in ks) in each_more ks (k ∷ []) h ((placed_empty k refl refl refl, λ i. omega arith), tt)
heard_right ks (Read c n) bytes b h = each_map (at_conn c (with_read bytes)) (at_right c (with_read bytes) (read_right bytes b)) ks h
heard_right ks (Ended c) bytes b h = each_map (at_conn c with_end) (at_right c with_end (λ k r. right_same k.role k (with_end k) refl refl refl r)) ks h
heard_right ks Quiet bytes b h = h
heard_right ks Shut bytes b h = h

-- ---- a round

placed_of : (r : Role) (k : Client) → is_client r ≡ true → SpelledAs r k → ArePlaced k
placed_of of_client k e s = s
placed_of (of_feed above base) k e s = absurd cc
placed_of (to_master named broken) k e s = absurd cc

role_right : (is : Settings) (x : Piece) (base : List ℕ) (r : Role) (j : Client) → is_client r ≡ true → ArePlaced j → SpelledAs (role_after is x base r) j
role_right is x base (of_feed above base') j e p = absurd cc
role_right is x base (to_master named broken) j e p = absurd cc
role_right is x base of_client j e p = go x
  where
    go : (x : Piece) → SpelledAs (role_after is x base of_client) j
    go (piece.Request (Repl timestamp server)) = by (feeds is server)
      where
        by : (b : Bool) → SpelledAs (cond b (of_feed timestamp base) of_client) j
        by true = p
        by false = p
    go _ = p

serves_right : (is : Settings) (k : Client) (x : Piece) (rest : List ℕ) (d : Done) → IsRight k → is_client k.role ≡ true → piece_at k.unread ≡ Ok (x, rest) → IsRight (serves is k x rest d).client
serves_right is k x rest d h client e =
    let t = pieces.found k.unread x rest h.1 e in
    let p = placed_of k.role k client h.0 in
    let j = (serves is k x rest d).client in (
      role_right is x j.owed k.role j client (record {
        front = p.front ++ t.0;
        parts = p.parts ∙ (ap (λ (l : List ℕ). p.front ++ l) t.2 ∙ sym (append_assoc p.front t.0 rest));
        stand = stand_more k.placed x p.front t.0 p.stand t.1;
      }),
      IsBytes-rest t.0 rest (subst IsBytes t.2 h.1),
    )

piece_is : (k : Client) (x : Piece × List ℕ) → front_of k ≡ Ok x → piece_at k.unread ≡ Ok x
piece_is k x e = go (is_ready k) (is_client k.role) e
  where
    go : (a b : Bool) → cond {A = Front Piece} a (cond b (piece_at k.unread) (Err Part)) (Err Part) ≡ Ok x → piece_at k.unread ≡ Ok x
    go true true e = e
    go true false e = absurd cc
    go false b e = absurd cc

one_right : (is : Settings) (c : Contents) (w : Walk) → KeepsRight (λ k. (round_one is c w k).client)
unfolding round_one
one_right is c w k h = go (front_of k) refl
  where
    go : (f : Front Piece) → front_of k ≡ f → IsRight (served is c w k f).client
    go (Ok x) e = serves_right is k x.0 x.1 (done (is_replica is) x.0 c w) h (front_client k x e) (piece_is k x e)
    go (Err d) e = h

round_right : (is : Settings) (c : Contents) (w : Walk) (ks : List Client) → Right ks → Right (round_all is c w ks).clients
round_right is c w [] h = tt
round_right is c w (k ∷ ks) h = let one = (round_one is c w k).made in (one_right is c w k h.0, round_right is one.contents one.walk ks h.1)

look_right : (own held : ℕ) (c : Contents) (w : Walk) (ks : List Client) → Right ks → Right (look_all own held c w ks).clients
unfolding look_at
look_right own held c w [] h = tt
look_right own held c w (k ∷ ks) h = go k.role refl h.0 (look_right own held c w ks h.1)
  where
    go : (r : Role) → k.role ≡ r → RightAs r k → Right (look_all own held c w ks).clients → Right (look_next own held c w r k ks (look_all own held c w ks)).clients
    go of_client e s rest = (h.0, rest)
    go (of_feed above base) e s rest = (h.0, rest)
    go (to_master named broken) e s rest = let a = looks_line k.input (line_of own held named k) s.0 s.1 in ((a.line, a.are_bytes), h.1)

look_of_right : (is : Settings) (log : List Record) (r : Round) → Right r.clients → Right (look_of is log r).clients
look_of_right is log r h = go (is_replica is)
  where
    go : (b : Bool) → Right (cond {A = Looked} b (look_all is.own (last_of 0 log) r.made.contents r.made.walk r.clients) (record { dealt_is = unmoved r.made.contents r.made.walk false; clients = r.clients })).clients
    go true = look_right is.own (last_of 0 log) r.made.contents r.made.walk r.clients h
    go false = h

fed_right : (log : List Record) → KeepsRight (fed log)
fed_right log k h = go k.role refl h
  where
    go : (r : Role) → k.role ≡ r → RightAs r k → IsRight (fed_by log r k)
    go of_client e x = h
    go (of_feed stamp base) e x = right_same k.role k (fed_by log (of_feed stamp base) k) refl refl refl h
    go (to_master named broken) e x = h

feed_right : (is : Settings) (log : List Record) (ks : List Client) → Right ks → Right (feed_all is log ks)
feed_right is log ks h = go is.logs
  where
    go : (b : Bool) → Right (cond b (map (fed log) ks) ks)
    go true = each_map (fed log) (fed_right log) ks h
    go false = h

-- ---- entries

dialled_right : (is : Settings) (log : List Record) (ks : List Client) (answer : Dialled) → Right ks → Right (with_dialled is log ks answer)
dialled_right is log ks (Conn c) h = each_more ks (new_link is log c ∷ []) h ((record { id = []; looked = []; parts = refl; fit = tt; id_is = inr (refl, refl, refl) }, λ i. omega arith), tt)
dialled_right is log ks NotNow h = h

sent_right : (bytes : List ℕ) (answer : Sent) → KeepsRight (sent bytes answer)
sent_right bytes (Took n) k h = right_same k.role k (sent bytes (Took n) k) refl refl refl h
sent_right bytes NotYet k h = right_same k.role k (sent bytes NotYet k) refl refl refl h
sent_right bytes Gone k h = right_same k.role k (sent bytes Gone k) refl refl refl h

behind_right : (w : World) (ev : Ev) (bytes : List ℕ) (log : List Record) → IsBytes bytes → Right w.there → Right (feed_all w.is log (rounded w ev bytes).looked.clients)
behind_right w ev bytes log b h =
    let ks = heard_by w ev bytes in
    let r = round_all w.is w.contents w.walk ks in
    feed_right w.is log (look_of w.is w.records r).clients (look_of_right w.is w.records r (round_right w.is w.contents w.walk ks
    (heard_right (map unstopped w.there) ev bytes b (each_map unstopped (λ k x. right_same k.role k (unstopped k) refl refl refl x) w.there h))))

rights : (es : List Entry) (w : World) → AllCame w es → Right w.there → Right w.past → Right (world_after es w).there × Right (world_after es w).past
rights [] w came there past = (there, past)
rights (Open at ∷ es) w came there past = rights es (happens w (Open at)) came.1 there past
rights (Dial host port answer ∷ es) w came there past = rights es (happens w (Dial host port answer)) came.1 (dialled_right w.is w.records w.there answer there) past
rights (Event paused busy ev bytes ∷ es) w came there past = let v = happens w (Event paused busy ev bytes) in rights es v came.1 (behind_right w ev bytes v.records came.0.are_bytes there) past
rights (Send c bytes answer ∷ es) w came there past = rights es (happens w (Send c bytes answer)) came.1 (each_map (at_conn c (sent bytes answer)) (at_right c (sent bytes answer) (sent_right bytes answer)) w.there there) past
rights (Close c ∷ es) w came there past = rights es (happens w (Close c)) came.1 (each_filter _ w.there there) (each_more w.past _ past (each_filter _ w.there there))

each_spelled : (ks : List Client) → Right ks → EachSpelled ks
each_spelled [] h = tt
each_spelled (k ∷ ks) h = (h.0.0, each_spelled ks h.1)

-- the pieces placed are those that came, in order
pub all_spelled : (es : List Entry) (is : Settings) (ticks : List ℕ) (opens : List At) (m : Mark) → AllCame (started is ticks opens m) es → AllSpelled (world_after es (started is ticks opens m))
all_spelled es is ticks opens m came =
    let r = rights es (started is ticks opens m) came tt tt in
    (each_spelled (world_after es (started is ticks opens m)).there r.0, each_spelled (world_after es (started is ticks opens m)).past r.1)
