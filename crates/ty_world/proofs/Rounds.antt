-- A round takes pieces off what is left.
use Rattle.std.proofs.Common.{◌≡◌, ◌⊎◌, inl, inr, ℕ, suc, ◌+◌, ◌≤◌, Bool, true, false, not, cond, List, [], ◌∷◌, ◌++◌, map, refl, sym, ap, arith, ⊎_elim}
use Rattle.std.proofs.lemmas.Bool.{or_cases, or_left, or_parts, or_right}
use Rattle.std.specs.Prelude.{Ok, Err, ◌&&◌, ◌||◌}
use Rattle.std.specs.List.{list_any}
use Rattle.tc_base.specs.declared.fields.NotWhole.TheVariants.{Part}
use Rattle.tc_base.specs.Reading.{Front}
use Rattle.tc_io.specs.declared.act.Act.{Act}
use Rattle.tc_io.specs.Script.{Lines}
use Rattle.tc_model.specs.Contents.{Contents, Walk}
use Rattle.ty_memc.specs.declared.text.Piece.{Piece}
use Rattle.ty_memc.specs.Grammar.{piece_at}
use Rattle.ty_memc.proofs.PieceGrammar.{pieces}
use Rattle.ty_pieces.specs.Pieces.{Done, done}
use Rattle.ty_ulog.specs.declared.record.Record.{Record}
use Rattle.ty_ulog.specs.Log.{last_of}
use Rattle.ty_world.specs.Clients.{Client, Role, of_client, of_feed, to_master, is_client, is_fed, is_link, whole_in, all_sent, waits, is_ready, front_of}
use Rattle.ty_world.specs.Frames.{is_whole, frames}
use Rattle.ty_world.specs.Links.{Looked, look_at, look_next, look_all, unmoved}
use Rattle.ty_world.specs.Logs.{Settings, is_replica}
use Rattle.ty_world.specs.Rounds.{Round, served, serves, round_one, round_all, look_of, fed, fed_by, feed_all}
use Rattle.ty_world.specs.World.{one_if, is_restless}
use Rattle.ty_world.specs.Measure.{coming, text_of, left_of, total}
use Rattle.ty_world.specs.Playing.{Fits, AllFit}
use Rattle.ty_world.proofs.FrameLaws.{frames_next}
use Rattle.ty_world.proofs.Follows.{front_client}

-- a client that is ready and has a whole piece
abbrev pub will_serve : Client → Bool
will_serve k = is_client k.role && (is_ready k && is_whole (piece_at k.unread))

-- ---- one connection

or_none : (b : Bool) (n : ℕ) → cond b n 0 ≤ n
or_none true n = omega arith
or_none false n = omega arith

-- a piece less is left; nothing, once it is a feed
served_falls : (is : Settings) (acts : List Act) (k : Client) (x : Piece) (rest : List ℕ) (d : Done) → piece_at k.unread ≡ Ok (x, rest) → left_of acts (serves is k x rest d).client + 1 ≤ frames (text_of acts k)
served_falls is acts k x rest d e =
    let more = cond k.ended [] (coming k.conn acts) in
    let n : frames (k.unread ++ more) ≡ suc (frames (rest ++ more)) = frames_next piece_at pieces (k.unread ++ more) x (rest ++ more) (pieces.more k.unread more x rest e) in
    let o = or_none (is_client (serves is k x rest d).client.role) (frames (rest ++ more)) in
    omega (arith, n, o)

pub one_falls : (is : Settings) (acts : List Act) (c : Contents) (w : Walk) (k : Client) → left_of acts (round_one is c w k).client + one_if (will_serve k) ≤ left_of acts k
unfolding round_one
one_falls is acts c w k = go (is_client k.role) (is_ready k) (piece_at k.unread) refl refl
  where
    go : (b r : Bool) (f : Front Piece) → is_client k.role ≡ b → piece_at k.unread ≡ f → left_of acts (served is c w k (cond r (cond b f (Err Part)) (Err Part))).client + one_if (b && (r && is_whole f)) ≤ left_of acts k
    go false false f e p = omega arith
    go false true f e p = omega arith
    go true false f e p = omega arith
    go true true (Err d) e p = omega arith
    go true true (Ok x) e p =
        let n = served_falls is acts k x.0 x.1 (done (is_replica is) x.0 c w) p in
        let all : left_of acts k ≡ frames (text_of acts k) = ap (λ (b : Bool). cond b (frames (text_of acts k)) 0) e in
        omega (arith, n, all)

client_not_link : (r : Role) → is_client r ≡ true → is_link r ≡ false
client_not_link of_client e = refl
client_not_link (of_feed above base) e = refl
client_not_link (to_master named broken) e = absurd cc

-- what serving leaves as it was
pub served_fits : (l : Lines) (is : Settings) (c : Contents) (w : Walk) (k : Client) → Fits l k → Fits l (round_one is c w k).client
unfolding round_one
served_fits l is c w k h = go (front_of k) refl
  where
    go : (f : Front Piece) → front_of k ≡ f → Fits l (served is c w k f).client
    go (Ok x) e = record { listed = h.listed; ends = h.ends; below = h.below; here = h.here; going = λ o. h.going (client_not_link k.role (front_client k x e)) }
    go (Err d) e = h

-- ---- all

pub all_served_fit : (l : Lines) (is : Settings) (c : Contents) (w : Walk) (ks : List Client) → AllFit l ks → AllFit l (round_all is c w ks).clients
all_served_fit l is c w [] h = tt
all_served_fit l is c w (k ∷ ks) h = let one = (round_one is c w k).made in (served_fits l is c w k h.0, all_served_fit l is one.contents one.walk ks h.1)

pub round_falls : (is : Settings) (acts : List Act) (c : Contents) (w : Walk) (ks : List Client) → total acts (round_all is c w ks).clients + one_if (list_any will_serve ks) ≤ total acts ks
round_falls is acts c w [] = omega arith
round_falls is acts c w (k ∷ ks) = let made = (round_one is c w k).made in go (will_serve k) (list_any will_serve ks) (one_falls is acts c w k) (round_falls is acts made.contents made.walk ks)
  where
    later : List Client
    later = (round_all is (round_one is c w k).made.contents (round_one is c w k).made.walk ks).clients

    go : (a b : Bool) → left_of acts (round_one is c w k).client + one_if a ≤ left_of acts k → total acts later + one_if b ≤ total acts ks → (left_of acts (round_one is c w k).client + total acts later) + one_if (a || b) ≤ left_of acts k + total acts ks
    go true true one rest = omega (arith, one, rest)
    go true false one rest = omega (arith, one, rest)
    go false true one rest = omega (arith, one, rest)
    go false false one rest = omega (arith, one, rest)

-- ---- the link has no pieces

pub look_leaves : (acts : List Act) (own held : ℕ) (c : Contents) (w : Walk) (ks : List Client) → total acts (look_all own held c w ks).clients ≡ total acts ks
unfolding look_at
look_leaves acts own held c w [] = refl
look_leaves acts own held c w (k ∷ ks) = go k.role refl (look_leaves acts own held c w ks)
  where
    go : (r : Role) → k.role ≡ r → total acts (look_all own held c w ks).clients ≡ total acts ks → total acts (look_next own held c w r k ks (look_all own held c w ks)).clients ≡ left_of acts k + total acts ks
    go of_client e rest = ap (λ (n : ℕ). left_of acts k + n) rest
    go (of_feed above base) e rest = ap (λ (n : ℕ). left_of acts k + n) rest
    go (to_master named broken) e rest = ap (λ (r : Role). cond (is_client r) (frames (text_of acts k)) 0 + total acts ks) (sym e)

pub look_fits : (l : Lines) (own held : ℕ) (c : Contents) (w : Walk) (ks : List Client) → AllFit l ks → AllFit l (look_all own held c w ks).clients
unfolding look_at
look_fits l own held c w [] h = tt
look_fits l own held c w (k ∷ ks) h = go k.role (look_fits l own held c w ks h.1)
  where
    go : (r : Role) → AllFit l (look_all own held c w ks).clients → AllFit l (look_next own held c w r k ks (look_all own held c w ks)).clients
    go of_client rest = (h.0, rest)
    go (of_feed above base) rest = (h.0, rest)
    go (to_master named broken) rest = (record { listed = h.0.listed; ends = h.0.ends; below = h.0.below; here = h.0.here; going = λ o. absurd cc }, h.1)

pub look_of_leaves : (acts : List Act) (is : Settings) (log : List Record) (r : Round) → total acts (look_of is log r).clients ≡ total acts r.clients
look_of_leaves acts is log r = go (is_replica is)
  where
    go : (b : Bool) → total acts (cond {A = Looked} b (look_all is.own (last_of 0 log) r.made.contents r.made.walk r.clients) (record { dealt_is = unmoved r.made.contents r.made.walk false; clients = r.clients })).clients ≡ total acts r.clients
    go true = look_leaves acts is.own (last_of 0 log) r.made.contents r.made.walk r.clients
    go false = refl

pub look_of_fits : (l : Lines) (is : Settings) (log : List Record) (r : Round) → AllFit l r.clients → AllFit l (look_of is log r).clients
look_of_fits l is log r h = go (is_replica is)
  where
    go : (b : Bool) → AllFit l (cond {A = Looked} b (look_all is.own (last_of 0 log) r.made.contents r.made.walk r.clients) (record { dealt_is = unmoved r.made.contents r.made.walk false; clients = r.clients })).clients
    go true = look_fits l is.own (last_of 0 log) r.made.contents r.made.walk r.clients h
    go false = h

-- ---- what feeds are owed counts for nothing

fed_leaves : (acts : List Act) (log : List Record) (k : Client) → left_of acts (fed log k) ≡ left_of acts k
fed_leaves acts log k = go k.role
  where
    go : (r : Role) → left_of acts (fed_by log r k) ≡ left_of acts k
    go of_client = refl
    go (of_feed stamp base) = refl
    go (to_master named broken) = refl

feds_leave : (acts : List Act) (log : List Record) (ks : List Client) → total acts (map (fed log) ks) ≡ total acts ks
feds_leave acts log [] = refl
feds_leave acts log (k ∷ ks) = let a = fed_leaves acts log k in let b = feds_leave acts log ks in omega (arith, a, b)

pub feed_leaves : (acts : List Act) (is : Settings) (log : List Record) (ks : List Client) → total acts (feed_all is log ks) ≡ total acts ks
feed_leaves acts is log ks = go is.logs
  where
    go : (b : Bool) → total acts (cond b (map (fed log) ks) ks) ≡ total acts ks
    go true = feds_leave acts log ks
    go false = refl

fed_fits : (l : Lines) (log : List Record) (k : Client) → Fits l k → Fits l (fed log k)
fed_fits l log k h = go k.role
  where
    go : (r : Role) → Fits l (fed_by log r k)
    go of_client = h
    go (of_feed stamp base) = record { listed = h.listed; ends = h.ends; below = h.below; here = h.here; going = h.going }
    go (to_master named broken) = h

feds_fit : (l : Lines) (log : List Record) (ks : List Client) → AllFit l ks → AllFit l (map (fed log) ks)
feds_fit l log [] h = tt
feds_fit l log (k ∷ ks) h = (fed_fits l log k h.0, feds_fit l log ks h.1)

pub feed_fits : (l : Lines) (is : Settings) (log : List Record) (ks : List Client) → AllFit l ks → AllFit l (feed_all is log ks)
feed_fits l is log ks h = go is.logs
  where
    go : (b : Bool) → AllFit l (cond b (map (fed log) ks) ks)
    go true = feds_fit l log ks h
    go false = h

-- ---- where some connection waits though all was sent, a piece is served, or it is the link

abbrev pub link_waits : Client → Bool
link_waits k = is_link k.role && waits k

sent_waits : (a s w g : Bool) → g ≡ false → s ≡ false → not (a || s) ≡ false → (not a || w) ≡ true → ((not g && a) && w) ≡ true
sent_waits true s true false p q r e = refl
sent_waits true s false false p q r e = absurd cc
sent_waits false false w false p q r e = absurd cc
sent_waits false true w false p q r e = absurd cc
sent_waits a s w true p q r e = absurd cc

one_waits : (l : Lines) (k : Client) → Fits l k → is_restless k ≡ false → waits k ≡ true → (will_serve k ≡ true) ⊎ (link_waits k ≡ true)
one_waits l k h rested e = go k.role h.going e
  where
    go : (r : Role) → (is_link r ≡ false → k.stopped ≡ false) → ((not (is_fed r) && not (all_sent k)) || whole_in r k.unread) ≡ true
        → ((is_client r && (is_ready k && is_whole (piece_at k.unread))) ≡ true) ⊎ ((is_link r && ((not (is_fed r) && not (all_sent k)) || whole_in r k.unread)) ≡ true)
    go of_client going e = inl (sent_waits (all_sent k) k.stopped (is_whole (piece_at k.unread)) k.gone h.here (going refl) rested e)
    go (of_feed above base) going e = absurd cc
    go (to_master named broken) going e = inr e

pub waiting_served : (l : Lines) (ks : List Client) → AllFit l ks → list_any is_restless ks ≡ false → list_any waits ks ≡ true → (list_any will_serve ks ≡ true) ⊎ (list_any link_waits ks ≡ true)
waiting_served l [] h r e = absurd cc
waiting_served l (k ∷ ks) h r e =
    let rs = or_parts (is_restless k) (list_any is_restless ks) r in
    ⊎_elim
    (λ now. ⊎_elim (λ a. inl (or_left (will_serve k) (list_any will_serve ks) a)) (λ a. inr (or_left (link_waits k) (list_any link_waits ks) a)) (one_waits l k h.0 rs.0 now))
    (λ later. ⊎_elim (λ a. inl (or_right (will_serve k) (list_any will_serve ks) a)) (λ a. inr (or_right (link_waits k) (list_any link_waits ks) a)) (waiting_served l ks h.1 rs.1 later))
    (or_cases (waits k) (list_any waits ks) e)
