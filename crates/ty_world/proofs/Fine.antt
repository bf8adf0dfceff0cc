-- What was sent stays a front of what is owed, and a feed is owed the update log above its timestamp.
use Rattle.std.proofs.Common.{◌≡◌, ◌⊎◌, inl, inr, ℕ, Bool, true, false, cond, List, [], ◌∷◌, ◌++◌, refl, sym, ap, subst, ◌∙◌, append_assoc, map}
use Rattle.std.specs.Prelude.{Ok, Err, nat_eq, nat_lt}
use Rattle.tc_io.specs.declared.wire.Ev.{Ev}
use Rattle.tc_io.specs.declared.wire.Ev.TheVariants.{Opened, Read, Ended, Quiet, Shut}
use Rattle.tc_base.specs.declared.request.Request.TheVariants.{Repl}
use Rattle.tc_base.specs.Reading.{Front}
use Rattle.tc_model.specs.Contents.{Contents, Walk}
use Rattle.ty_memc.specs.declared.text.Piece.{Piece}
use Rattle.ty_memc.specs.declared.text.Piece.TheVariants as piece
use Rattle.ty_pieces.specs.Pieces.{done}
use Rattle.ty_ulog.specs.declared.record.Record.{Record}
use Rattle.ty_ulog.specs.Records.{record_bytes}
use Rattle.ty_ulog.specs.Log.{log_bytes, above, last_of}
use Rattle.ty_world.specs.Answers.{AllFine}
use Rattle.ty_world.specs.Logs.{Settings, is_replica, records_after}
use Rattle.ty_world.specs.Clients.{Client, Role, of_client, of_feed, to_master, is_client, front_of}
use Rattle.ty_world.specs.Links.{Looked, unmoved, look_at, look_next, look_all}
use Rattle.ty_world.specs.Rounds.{Round, served, owed_for, role_after, feeds, round_one, round_all, look_of, fed, fed_by, feed_all}
use Rattle.ty_world.specs.World.{heard, unstopped, at_conn, new_client, clients_in}
use Rattle.ty_world.proofs.Follows.{front_client}

abbrev pub FineOne : Client → Type 0
FineOne k = (rest : List ℕ) × (k.owed ≡ k.out ++ rest)

-- a feed is owed what it was by then, and all records above its timestamp, or none yet
abbrev pub OwedAs : List Record → Role → Client → Type 0
OwedAs rs of_client k = Unit {0}
OwedAs rs (of_feed stamp base) k = (k.owed ≡ base ++ log_bytes (above stamp rs)) ⊎ (k.owed ≡ base)
OwedAs rs (to_master named broken) k = Unit {0}

pub record FineFed (rs : List Record) (k : Client) : Type 0 where
  pub fine : FineOne k
  pub owed : OwedAs rs k.role k

abbrev pub AllFed : List Record → List Client → Type 0
AllFed rs [] = Unit {0}
AllFed rs (k ∷ ks) = FineFed rs k × AllFed rs ks

pub fed_fine : (rs : List Record) (ks : List Client) → AllFed rs ks → AllFine ks
fed_fine rs [] h = tt
fed_fine rs (k ∷ ks) h = (h.0.fine, fed_fine rs ks h.1)

-- ---- what is heard

abbrev Keeps : (Client → Client) → Type 0
Keeps g = (k : Client) → ((g k).owed ≡ k.owed) × ((g k).out ≡ k.out) × ((g k).role ≡ k.role)

pub owed_same : (rs : List Record) (r : Role) (k j : Client) → j.owed ≡ k.owed → OwedAs rs r k → OwedAs rs r j
owed_same rs of_client k j e h = tt
owed_same rs (of_feed stamp base) k j e (inl h) = inl (e ∙ h)
owed_same rs (of_feed stamp base) k j e (inr h) = inr (e ∙ h)
owed_same rs (to_master named broken) k j e h = tt

keeps_fed : (rs : List Record) (g : Client → Client) → Keeps g → (k : Client) → FineFed rs k → FineFed rs (g k)
keeps_fed rs g f k h = let e = f k in record {
  fine = (h.fine.0, e.0 ∙ h.fine.1 ∙ ap (λ (l : List ℕ). l ++ h.fine.0) (sym e.1));
  owed = subst (λ (r : Role). OwedAs rs r (g k)) (sym e.2) (owed_same rs k.role k (g k) e.0 h.owed);
}

maps_fed : (rs : List Record) (g : Client → Client) → Keeps g → (ks : List Client) → AllFed rs ks → AllFed rs (map g ks)
maps_fed rs g f [] h = tt
maps_fed rs g f (k ∷ ks) h = (keeps_fed rs g f k h.0, maps_fed rs g f ks h.1)

appends_fed : (rs : List Record) (ks : List Client) (c n : ℕ) → AllFed rs ks → AllFed rs (ks ++ new_client c n ∷ [])
appends_fed rs [] c n h = (record { fine = ([], refl); owed = tt }, tt)
appends_fed rs (k ∷ ks) c n h = (h.0, appends_fed rs ks c n h.1)

at_keeps : (c : ℕ) (g : Client → Client) → Keeps g → Keeps (at_conn c g)
at_keeps c g f k = go (nat_eq k.conn c)
  where
    go : (b : Bool) → ((cond b (g k) k).owed ≡ k.owed) × ((cond b (g k) k).out ≡ k.out) × ((cond b (g k) k).role ≡ k.role)
    go true = f k
    go false = (refl, refl, refl)

pub heard_fed : (rs : List Record) (ks : List Client) (ev : Ev) (bytes : List ℕ) → AllFed rs ks → AllFed rs (heard ks ev bytes)
heard_fed rs ks (Opened c) bytes h = appends_fed rs ks c (clients_in ks) h
heard_fed rs ks (Read c n) bytes h = maps_fed rs _ (at_keeps c _ (λ k. (refl, refl, refl))) ks h
heard_fed rs ks (Ended c) bytes h = maps_fed rs _ (at_keeps c _ (λ k. (refl, refl, refl))) ks h
heard_fed rs ks Quiet bytes h = h
heard_fed rs ks Shut bytes h = h

pub unstopped_fed : (rs : List Record) (ks : List Client) → AllFed rs ks → AllFed rs (map unstopped ks)
unstopped_fed rs ks h = maps_fed rs unstopped (λ k. (refl, refl, refl)) ks h

-- ---- rounds

-- a client's request may make it a feed that is owed no record yet
role_owed : (rs : List Record) (is : Settings) (x : Piece) (j : Client) (role : Role) → is_client role ≡ true → OwedAs rs (role_after is x j.owed role) j
role_owed rs is x j (of_feed stamp base) c = absurd cc
role_owed rs is x j (to_master named broken) c = absurd cc
role_owed rs is x j of_client c = go x
  where
    go : (x : Piece) → OwedAs rs (role_after is x j.owed of_client) j
    go (piece.Request (Repl timestamp server)) = by (feeds is server)
      where
        by : (b : Bool) → OwedAs rs (cond b (of_feed timestamp j.owed) of_client) j
        by true = inr refl
        by false = tt
    go _ = tt

one_fed : (rs : List Record) (is : Settings) (c : Contents) (w : Walk) (k : Client) → FineFed rs k → FineFed rs (round_one is c w k).client
unfolding round_one
one_fed rs is c w k h = go (front_of k) refl
  where
    go : (f : Front Piece) → front_of k ≡ f → FineFed rs (served is c w k f).client
    go (Ok x) e =
        let more = owed_for is x.0 (done (is_replica is) x.0 c w) in
        let j = (served is c w k (Ok x)).client in
        record { fine = (h.fine.0 ++ more, ap (λ (l : List ℕ). l ++ more) h.fine.1 ∙ append_assoc k.out h.fine.0 more); owed = role_owed rs is x.0 j k.role (front_client k x e) }
    go (Err d) e = h

pub round_fed : (rs : List Record) (is : Settings) (c : Contents) (w : Walk) (ks : List Client) → AllFed rs ks → AllFed rs (round_all is c w ks).clients
round_fed rs is c w [] h = tt
round_fed rs is c w (k ∷ ks) h = let one = (round_one is c w k).made in (one_fed rs is c w k h.0, round_fed rs is one.contents one.walk ks h.1)

look_at_fed : (rs : List Record) (own held : ℕ) (c : Contents) (w : Walk) (named broken : Bool) (k : Client) (ks : List Client) → FineFed rs k → AllFed rs ks → AllFed rs (look_at own held c w named broken k ks).clients
unfolding look_at
look_at_fed rs own held c w named broken k ks h hs = (record { fine = h.fine; owed = tt }, hs)

look_fed : (rs : List Record) (own held : ℕ) (c : Contents) (w : Walk) (ks : List Client) → AllFed rs ks → AllFed rs (look_all own held c w ks).clients
look_fed rs own held c w [] h = tt
look_fed rs own held c w (k ∷ ks) h = go k.role (look_fed rs own held c w ks h.1)
  where
    go : (r : Role) → AllFed rs (look_all own held c w ks).clients → AllFed rs (look_next own held c w r k ks (look_all own held c w ks)).clients
    go of_client rest = (h.0, rest)
    go (of_feed stamp base) rest = (h.0, rest)
    go (to_master named broken) rest = look_at_fed rs own held c w named broken k ks h.0 h.1

pub look_of_fed : (rs : List Record) (is : Settings) (log : List Record) (r : Round) → AllFed rs r.clients → AllFed rs (look_of is log r).clients
look_of_fed rs is log r h = go (is_replica is)
  where
    go : (b : Bool) → AllFed rs (cond {A = Looked} b (look_all is.own (last_of 0 log) r.made.contents r.made.walk r.clients) (record { dealt_is = unmoved r.made.contents r.made.walk false; clients = r.clients })).clients
    go true = look_fed rs is.own (last_of 0 log) r.made.contents r.made.walk r.clients h
    go false = h

-- ---- records more

pub above_more : (stamp : ℕ) (rs more : List Record) → above stamp (rs ++ more) ≡ above stamp rs ++ above stamp more
above_more stamp [] more = refl
above_more stamp (r ∷ rs) more = go (nat_lt stamp r.stamp) (above_more stamp rs more)
  where
    go : (b : Bool) → above stamp (rs ++ more) ≡ above stamp rs ++ above stamp more → cond b (r ∷ above stamp (rs ++ more)) (above stamp (rs ++ more)) ≡ cond b (r ∷ above stamp rs) (above stamp rs) ++ above stamp more
    go true e = ap (λ (l : List Record). r ∷ l) e
    go false e = e

pub bytes_more : (rs more : List Record) → log_bytes (rs ++ more) ≡ log_bytes rs ++ log_bytes more
bytes_more [] more = refl
bytes_more (r ∷ rs) more = ap (λ (l : List ℕ). record_bytes r ++ l) (bytes_more rs more) ∙ sym (append_assoc (record_bytes r) (log_bytes rs) (log_bytes more))

pub feed_more : (stamp : ℕ) (base : List ℕ) (rs more : List Record) → base ++ log_bytes (above stamp (rs ++ more)) ≡ (base ++ log_bytes (above stamp rs)) ++ log_bytes (above stamp more)
feed_more stamp base rs more = ap (λ (l : List ℕ). base ++ l) (ap log_bytes (above_more stamp rs more) ∙ bytes_more (above stamp rs) (above stamp more)) ∙ sym (append_assoc base (log_bytes (above stamp rs)) (log_bytes (above stamp more)))

fed_one : (rs more : List Record) (k : Client) → FineFed rs k → FineOne (fed (rs ++ more) k)
fed_one rs more k h = go k.role h.owed
  where
    go : (r : Role) → OwedAs rs r k → FineOne (fed_by (rs ++ more) r k)
    go of_client o = h.fine
    go (to_master named broken) o = h.fine
    go (of_feed stamp base) (inl o) =
        let new = log_bytes (above stamp more) in
        (h.fine.0 ++ new, feed_more stamp base rs more ∙ ap (λ (l : List ℕ). l ++ new) (sym o ∙ h.fine.1) ∙ append_assoc k.out h.fine.0 new)
    go (of_feed stamp base) (inr o) =
        let new = log_bytes (above stamp (rs ++ more)) in
        (h.fine.0 ++ new, ap (λ (l : List ℕ). l ++ new) (sym o ∙ h.fine.1) ∙ append_assoc k.out h.fine.0 new)

pub feed_fine : (is : Settings) (rs more : List Record) (ks : List Client) → AllFed rs ks → AllFine (feed_all is (records_after is rs more) ks)
feed_fine is rs more ks h = go is.logs
  where
    all : (ks : List Client) → AllFed rs ks → AllFine (map (fed (rs ++ more)) ks)
    all [] h = tt
    all (k ∷ ks) h = (fed_one rs more k h.0, all ks h.1)

    go : (b : Bool) → AllFine (cond b (map (fed (cond b (rs ++ more) rs)) ks) ks)
    go true = all ks h
    go false = fed_fine rs ks h

-- and it is owed them
fed_owed : (rs more : List Record) (k : Client) → OwedAs (rs ++ more) (fed (rs ++ more) k).role (fed (rs ++ more) k)
fed_owed rs more k = go k.role refl
  where
    go : (r : Role) → k.role ≡ r → OwedAs (rs ++ more) (fed_by (rs ++ more) r k).role (fed_by (rs ++ more) r k)
    go of_client e = subst (λ (r : Role). OwedAs (rs ++ more) r k) (sym e) tt
    go (of_feed stamp base) e = subst (λ (r : Role). OwedAs (rs ++ more) r (fed_by (rs ++ more) (of_feed stamp base) k)) (sym e) (inl refl)
    go (to_master named broken) e = subst (λ (r : Role). OwedAs (rs ++ more) r k) (sym e) tt

pub feed_fed : (is : Settings) (rs more : List Record) (ks : List Client) → AllFed rs ks → AllFed (records_after is rs more) (feed_all is (records_after is rs more) ks)
feed_fed is rs more ks h = go is.logs
  where
    all : (ks : List Client) → AllFed rs ks → AllFed (rs ++ more) (map (fed (rs ++ more)) ks)
    all [] h = tt
    all (k ∷ ks) h = (record { fine = fed_one rs more k h.0; owed = fed_owed rs more k }, all ks h.1)

    go : (b : Bool) → AllFed (cond b (rs ++ more) rs) (cond b (map (fed (cond b (rs ++ more) rs)) ks) ks)
    go true = all ks h
    go false = h
