-- Behind an event each connection takes bytes, and none was sent any yet.
use Rattle.std.proofs.Common.{◌≡◌, ℕ, Bool, true, false, cond, List, [], ◌∷◌, ◌++◌, map, refl}
use Rattle.std.specs.Prelude.{Ok, Err, nat_eq}
use Rattle.std.specs.List.{list_any}
use Rattle.std.proofs.lemmas.Bool.{or_parts}
use Rattle.ty_memc.specs.declared.text.Piece.{Piece}
use Rattle.tc_base.specs.Reading.{Front}
use Rattle.tc_io.specs.declared.wire.Ev.{Ev}
use Rattle.tc_io.specs.declared.wire.Ev.TheVariants.{Opened, Read, Ended, Quiet, Shut}
use Rattle.tc_model.specs.Contents.{Contents, Walk}
use Rattle.ty_ulog.specs.declared.record.Record.{Record}
use Rattle.ty_ulog.specs.Log.{last_of}
use Rattle.ty_world.specs.Logs.{Settings, is_replica}
use Rattle.ty_world.specs.Clients.{Client, Role, of_client, of_feed, to_master, is_over, front_of}
use Rattle.ty_world.specs.Links.{Looked, unmoved, look_at, look_next, look_all}
use Rattle.ty_world.specs.Rounds.{Round, served, round_one, round_all, look_of, round_of_all, fed, fed_by, feed_all}
use Rattle.ty_world.specs.World.{unstopped, at_conn, new_client, clients_in, with_read, with_end, heard}
use Rattle.ty_world.specs.Answers.{IsGoing, AllGoing}

begun : (ks : List Client) → list_any is_over ks ≡ false → AllGoing (map unstopped ks)
begun [] e = tt
begun (k ∷ ks) e =
    let a = or_parts (is_over k) (list_any is_over ks) e in
    (record { here = (or_parts k.gone _ a.0).0; going = refl }, begun ks a.1)

mapped : (f : Client → Client) → ((k : Client) → IsGoing k → IsGoing (f k)) → (ks : List Client) → AllGoing ks → AllGoing (map f ks)
mapped f g [] h = tt
mapped f g (k ∷ ks) h = (g k h.0, mapped f g ks h.1)

at_going : (c : ℕ) (f : Client → Client) → ((k : Client) → IsGoing k → IsGoing (f k)) → (k : Client) → IsGoing k → IsGoing (at_conn c f k)
at_going c f g k h = go (nat_eq k.conn c)
  where
    go : (b : Bool) → IsGoing (cond b (f k) k)
    go true = g k h
    go false = h

pushed : (ks : List Client) (k : Client) → AllGoing ks → IsGoing k → AllGoing (ks ++ k ∷ [])
pushed [] k h one = (one, tt)
pushed (x ∷ ks) k h one = (h.0, pushed ks k h.1 one)

heard_going : (ks : List Client) (ev : Ev) (bytes : List ℕ) → AllGoing ks → AllGoing (heard ks ev bytes)
heard_going ks (Opened c) bytes h = pushed ks (new_client c (clients_in ks)) h (record { here = refl; going = refl })
heard_going ks (Read c n) bytes h = mapped (at_conn c (with_read bytes)) (at_going c (with_read bytes) (λ k one. record { here = one.here; going = one.going })) ks h
heard_going ks (Ended c) bytes h = mapped (at_conn c with_end) (at_going c with_end (λ k one. record { here = one.here; going = one.going })) ks h
heard_going ks Quiet bytes h = h
heard_going ks Shut bytes h = h

one_going : (is : Settings) (c : Contents) (w : Walk) (k : Client) → IsGoing k → IsGoing (round_one is c w k).client
unfolding round_one
one_going is c w k h = go (front_of k)
  where
    go : (f : Front Piece) → IsGoing (served is c w k f).client
    go (Ok x) = record { here = h.here; going = h.going }
    go (Err d) = h

round_going : (is : Settings) (c : Contents) (w : Walk) (ks : List Client) → AllGoing ks → AllGoing (round_all is c w ks).clients
round_going is c w [] h = tt
round_going is c w (k ∷ ks) h = let one = (round_one is c w k).made in (one_going is c w k h.0, round_going is one.contents one.walk ks h.1)

look_at_going : (own held : ℕ) (c : Contents) (w : Walk) (named broken : Bool) (k : Client) (ks : List Client) → IsGoing k → AllGoing ks → AllGoing (look_at own held c w named broken k ks).clients
unfolding look_at
look_at_going own held c w named broken k ks h hs = (record { here = h.here; going = h.going }, hs)

look_going : (own held : ℕ) (c : Contents) (w : Walk) (ks : List Client) → AllGoing ks → AllGoing (look_all own held c w ks).clients
look_going own held c w [] h = tt
look_going own held c w (k ∷ ks) h = go k.role (look_going own held c w ks h.1)
  where
    go : (r : Role) → AllGoing (look_all own held c w ks).clients → AllGoing (look_next own held c w r k ks (look_all own held c w ks)).clients
    go of_client rest = (h.0, rest)
    go (of_feed stamp base) rest = (h.0, rest)
    go (to_master named broken) rest = look_at_going own held c w named broken k ks h.0 h.1

look_of_going : (is : Settings) (log : List Record) (r : Round) → AllGoing r.clients → AllGoing (look_of is log r).clients
look_of_going is log r h = go (is_replica is)
  where
    go : (b : Bool) → AllGoing (cond {A = Looked} b (look_all is.own (last_of 0 log) r.made.contents r.made.walk r.clients) (record { dealt_is = unmoved r.made.contents r.made.walk false; clients = r.clients })).clients
    go true = look_going is.own (last_of 0 log) r.made.contents r.made.walk r.clients h
    go false = h

fed_going : (log : List Record) (k : Client) → IsGoing k → IsGoing (fed log k)
fed_going log k h = go k.role
  where
    go : (r : Role) → IsGoing (fed_by log r k)
    go of_client = h
    go (of_feed stamp base) = record { here = h.here; going = h.going }
    go (to_master named broken) = h

feed_going : (is : Settings) (log : List Record) (ks : List Client) → AllGoing ks → AllGoing (feed_all is log ks)
feed_going is log ks h = go is.logs
  where
    go : (b : Bool) → AllGoing (cond b (map (fed log) ks) ks)
    go true = mapped (fed log) (fed_going log) ks h
    go false = h

pub all_going : (is : Settings) (log more : List Record) (c : Contents) (w : Walk) (ks : List Client) (ev : Ev) (bytes : List ℕ) → list_any is_over ks ≡ false → AllGoing (feed_all is more (round_of_all is log c w (heard (map unstopped ks) ev bytes)).looked.clients)
all_going is log more c w ks ev bytes none = let js = heard (map unstopped ks) ev bytes in feed_going is more _ (look_of_going is log (round_all is c w js) (round_going is c w js (heard_going (map unstopped ks) ev bytes (begun ks none))))
