-- Which of the connections is a link stays, but where one is dialled.
use Rattle.std.proofs.Common.{◌≡◌, ◌∙◌, ℕ, Bool, true, false, cond, List, [], ◌∷◌, ◌++◌, map, refl, sym, ap}
use Rattle.std.specs.Prelude.{◌||◌, ◌&&◌, Ok, Err, nat_eq}
use Rattle.std.specs.List.{list_any, filter}
use Rattle.std.proofs.lemmas.Bool.{or_parts, or_from}
use Rattle.tc_base.specs.declared.request.Request.TheVariants.{Repl}
use Rattle.tc_base.specs.Reading.{Front}
use Rattle.tc_io.specs.declared.wire.Ev.{Ev}
use Rattle.tc_io.specs.declared.wire.Ev.TheVariants.{Opened, Read, Ended, Quiet, Shut}
use Rattle.tc_io.specs.declared.wire.Sent.{Sent}
use Rattle.tc_io.specs.declared.wire.Sent.TheVariants.{Took, NotYet, Gone}
use Rattle.tc_model.specs.Contents.{Contents, Walk}
use Rattle.ty_memc.specs.declared.text.Piece.{Piece}
use Rattle.ty_memc.specs.declared.text.Piece.TheVariants as piece
use Rattle.ty_ulog.specs.declared.record.Record.{Record}
use Rattle.ty_ulog.specs.Log.{last_of}
use Rattle.ty_world.specs.Answers.{NoLink, is_a_link}
use Rattle.ty_world.specs.Clients.{Client, Role, of_client, of_feed, to_master, is_client, is_link, waits, front_of}
use Rattle.ty_world.specs.Links.{Looked, look_at, look_next, look_all, unmoved}
use Rattle.ty_world.specs.Logs.{Settings, is_replica}
use Rattle.ty_world.specs.Rounds.{Round, feeds, role_after, served, round_one, round_all, look_of, fed, fed_by, feed_all}
use Rattle.ty_world.specs.World.{at_conn, new_client, clients_in, with_read, with_end, heard, sent}
use Rattle.ty_world.proofs.Follows.{front_client}
use Rattle.ty_world.proofs.Rounds.{link_waits}

-- which of them are links
abbrev pub SameLinks : List Client → List Client → Type 0
SameLinks ks ls = map is_a_link ls ≡ map is_a_link ks

abbrev pub KeepsLink : (Client → Client) → Type 0
KeepsLink f = (k : Client) → is_link (f k).role ≡ is_link k.role

pub map_links : (f : Client → Client) → KeepsLink f → (ks : List Client) → SameLinks ks (map f ks)
map_links f g [] = refl
map_links f g (k ∷ ks) = ap (λ (b : Bool). b ∷ map is_a_link (map f ks)) (g k) ∙ ap (λ (bs : List Bool). is_link k.role ∷ bs) (map_links f g ks)

pub at_link : (c : ℕ) (f : Client → Client) → KeepsLink f → KeepsLink (at_conn c f)
at_link c f g k = go (nat_eq k.conn c)
  where
    go : (b : Bool) → is_link (cond b (f k) k).role ≡ is_link k.role
    go true = g k
    go false = refl

pub sent_link : (bytes : List ℕ) (answer : Sent) → KeepsLink (sent bytes answer)
sent_link bytes (Took n) k = refl
sent_link bytes NotYet k = refl
sent_link bytes Gone k = refl

-- ---- a round

role_link : (is : Settings) (x : Piece) (base : List ℕ) (r : Role) → is_client r ≡ true → is_link (role_after is x base r) ≡ is_link r
role_link is x base (of_feed above base') e = absurd cc
role_link is x base (to_master named broken) e = absurd cc
role_link is x base of_client e = go x
  where
    go : (x : Piece) → is_link (role_after is x base of_client) ≡ false
    go (piece.Request (Repl timestamp server)) = by (feeds is server)
      where
        by : (b : Bool) → is_link (cond b (of_feed timestamp base) of_client) ≡ false
        by true = refl
        by false = refl
    go _ = refl

pub one_link : (is : Settings) (c : Contents) (w : Walk) (k : Client) → is_link (round_one is c w k).client.role ≡ is_link k.role
unfolding round_one
one_link is c w k = go (front_of k) refl
  where
    go : (f : Front Piece) → front_of k ≡ f → is_link (served is c w k f).client.role ≡ is_link k.role
    go (Ok x) e = role_link is x.0 (served is c w k (Ok x)).client.owed k.role (front_client k x e)
    go (Err d) e = refl

pub round_links : (is : Settings) (c : Contents) (w : Walk) (ks : List Client) → SameLinks ks (round_all is c w ks).clients
round_links is c w [] = refl
round_links is c w (k ∷ ks) =
    let one = (round_one is c w k).made in
    ap (λ (b : Bool). b ∷ map is_a_link (round_all is one.contents one.walk ks).clients) (one_link is c w k) ∙ ap (λ (bs : List Bool). is_link k.role ∷ bs) (round_links is one.contents one.walk ks)

look_links : (own held : ℕ) (c : Contents) (w : Walk) (ks : List Client) → SameLinks ks (look_all own held c w ks).clients
unfolding look_at
look_links own held c w [] = refl
look_links own held c w (k ∷ ks) = go k.role refl (look_links own held c w ks)
  where
    go : (r : Role) → k.role ≡ r → SameLinks ks (look_all own held c w ks).clients → SameLinks (k ∷ ks) (look_next own held c w r k ks (look_all own held c w ks)).clients
    go of_client e rest = ap (λ (bs : List Bool). is_link k.role ∷ bs) rest
    go (of_feed above base) e rest = ap (λ (bs : List Bool). is_link k.role ∷ bs) rest
    go (to_master named broken) e rest = ap (λ (r : Role). is_link r ∷ map is_a_link ks) (sym e)

pub look_of_links : (is : Settings) (log : List Record) (r : Round) → SameLinks r.clients (look_of is log r).clients
look_of_links is log r = go (is_replica is)
  where
    go : (b : Bool) → SameLinks r.clients (cond {A = Looked} b (look_all is.own (last_of 0 log) r.made.contents r.made.walk r.clients) (record { dealt_is = unmoved r.made.contents r.made.walk false; clients = r.clients })).clients
    go true = look_links is.own (last_of 0 log) r.made.contents r.made.walk r.clients
    go false = refl

fed_link : (log : List Record) → KeepsLink (fed log)
fed_link log k = go k.role
  where
    go : (r : Role) → is_link (fed_by log r k).role ≡ is_link k.role
    go of_client = refl
    go (of_feed stamp base) = refl
    go (to_master named broken) = refl

pub feed_links : (is : Settings) (log : List Record) (ks : List Client) → SameLinks ks (feed_all is log ks)
feed_links is log ks = go is.logs
  where
    go : (b : Bool) → SameLinks ks (cond b (map (fed log) ks) ks)
    go true = map_links (fed log) (fed_link log) ks
    go false = refl

-- ---- none of them

-- one of these holds
abbrev any_is : List Bool → Bool
any_is [] = false
any_is (b ∷ bs) = b || any_is bs

any_by : (ks : List Client) → list_any is_a_link ks ≡ any_is (map is_a_link ks)
any_by [] = refl
any_by (k ∷ ks) = ap (λ (b : Bool). is_link k.role || b) (any_by ks)

pub none_same : (ks ls : List Client) → SameLinks ks ls → NoLink ks → NoLink ls
none_same ks ls e h = any_by ls ∙ (ap any_is e ∙ (sym (any_by ks) ∙ h))

pub none_more : (ks ls : List Client) → NoLink ks → NoLink ls → NoLink (ks ++ ls)
none_more [] ls h g = g
none_more (k ∷ ks) ls h g = let s = or_parts (is_link k.role) (list_any is_a_link ks) h in or_from (is_link k.role) (list_any is_a_link (ks ++ ls)) s.0 (none_more ks ls s.1 g)

pub none_filter : (p : Client → Bool) (ks : List Client) → NoLink ks → NoLink (filter p ks)
none_filter p [] h = h
none_filter p (k ∷ ks) h = let s = or_parts (is_link k.role) (list_any is_a_link ks) h in go (p k) s.0 (none_filter p ks s.1)
  where
    go : (b : Bool) → is_link k.role ≡ false → NoLink (filter p ks) → NoLink (cond b (k ∷ filter p ks) (filter p ks))
    go true e r = or_from (is_link k.role) (list_any is_a_link (filter p ks)) e r
    go false e r = r

pub heard_none : (ks : List Client) (ev : Ev) (bytes : List ℕ) → NoLink ks → NoLink (heard ks ev bytes)
heard_none ks (Opened c) bytes h = none_more ks (new_client c (clients_in ks) ∷ []) h refl
heard_none ks (Read c n) bytes h = none_same ks _ (map_links (at_conn c (with_read bytes)) (at_link c (with_read bytes) (λ k. refl)) ks) h
heard_none ks (Ended c) bytes h = none_same ks _ (map_links (at_conn c with_end) (at_link c with_end (λ k. refl)) ks) h
heard_none ks Quiet bytes h = h
heard_none ks Shut bytes h = h

-- none of them waits
pub none_waits : (ks : List Client) → NoLink ks → list_any link_waits ks ≡ false
none_waits [] h = refl
none_waits (k ∷ ks) h =
    let s = or_parts (is_link k.role) (list_any is_a_link ks) h in
    or_from (link_waits k) (list_any link_waits ks) (ap (λ (b : Bool). b && waits k) s.0) (none_waits ks s.1)
