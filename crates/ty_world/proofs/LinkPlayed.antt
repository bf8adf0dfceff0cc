-- What the link still costs in turns.
use Rattle.std.proofs.Common.{◌≡◌, ℕ, ◌+◌, ◌≤◌, Bool, true, false, not, cond, List, [], ◌∷◌, ◌++◌, length, map, refl, sym, ap, subst, ◌∙◌, arith, length-append}
use Rattle.std.specs.Prelude.{◌||◌, ◌&&◌, Option, Some, None, Err, nat_lt, nat_eq}
use Rattle.std.specs.List.{list_any, filter}
use Rattle.std.proofs.lemmas.List.{nil_from_length}
use Rattle.std.proofs.lemmas.Bool.{ltb-false, le-ltb, or_parts}
use Rattle.tc_base.specs.declared.fields.NotWhole.TheVariants.{Part as more}
use Rattle.tc_io.specs.declared.wire.Ev.{Ev}
use Rattle.tc_io.specs.declared.wire.Ev.TheVariants as event
use Rattle.tc_io.specs.declared.wire.Sent.TheVariants.{Took}
use Rattle.tc_io.specs.Script.{Lines}
use Rattle.tc_model.specs.Contents.{Contents, Walk}
use Rattle.ty_memc.specs.Grammar.{piece_at}
use Rattle.ty_ulog.specs.declared.record.Record.{Record}
use Rattle.ty_ulog.specs.Log.{last_of}
use Rattle.ty_slave.specs.declared.link.Step.{Step as Look}
use Rattle.ty_slave.specs.declared.link.Step.TheVariants.{Part}
use Rattle.ty_slave.specs.Lines.{Line, stepped, looks}
use Rattle.ty_world.specs.Answers.{NoLink, Single}
use Rattle.ty_world.specs.Clients.{Client, Role, of_client, of_feed, to_master, is_client, is_link, is_fed, bad_in, all_sent, has_whole, has_bad, waits, is_ready, is_over}
use Rattle.ty_world.specs.Links.{Looked, line_of, dealt, with_line, look_at, look_next, look_all, unmoved}
use Rattle.ty_world.specs.Logs.{Settings, is_replica}
use Rattle.ty_world.specs.Rounds.{Round, served, round_one, round_all, look_of, fed, fed_by, feed_all}
use Rattle.ty_world.specs.World.{unstopped, at_conn, new_client, new_link, clients_in, heard, with_read, with_end, sent, one_if, is_restless, is_looked_at}
use Rattle.ty_world.specs.Playing.{AllFit}
use Rattle.ty_world.proofs.Rounds.{link_waits}
use Rattle.ty_world.proofs.Unlinked.{KeepsLink, at_link, one_link}

-- the first link among connections
abbrev pub link_in : List Client → Option Client
link_in [] = None
link_in (k ∷ ks) = cond (is_link k.role) (Some k) (link_in ks)

-- something came of it
abbrev pub came : Client → Bool
came k = k.ended || nat_lt 0 (length k.input)

-- a turn is still to be spent on it that takes nothing off the script
abbrev pub pot_of : Option Client → ℕ
pot_of None = 1
pot_of (Some k) = one_if (k.stopped || came k)

abbrev pub pot : List Client → ℕ
pot ks = pot_of (link_in ks)

-- where nothing came, nothing was looked at
pub record IsNew (k : Client) : Type 0 where
  pub unread : k.unread ≡ []
  pub role : k.role ≡ to_master false false

pub record LinkFits (k : Client) : Type 0 where
  pub plain : k.extra ≡ false
  pub quiet : k.stopped ≡ true → came k ≡ false
  pub empty : came k ≡ false → IsNew k

abbrev FitsIn : Option Client → Type 0
FitsIn None = Unit {0}
FitsIn (Some k) = LinkFits k

abbrev pub LinkMeets : List Client → Type 0
LinkMeets ks = FitsIn (link_in ks)

pub pot_one : (ks : List Client) → pot ks ≤ 1
pot_one ks = go (link_in ks)
  where
    at_most : (b : Bool) → one_if b ≤ 1
    at_most true = omega arith
    at_most false = omega arith

    go : (o : Option Client) → pot_of o ≤ 1
    go None = omega arith
    go (Some k) = at_most (k.stopped || came k)

-- ---- lists

abbrev by_link : (Client → Client) → Option Client → Option Client
by_link f None = None
by_link f (Some k) = Some (f k)

link_map : (f : Client → Client) → KeepsLink f → (ks : List Client) → link_in (map f ks) ≡ by_link f (link_in ks)
link_map f g [] = refl
link_map f g (k ∷ ks) = ap (λ (b : Bool). cond b (Some (f k)) (link_in (map f ks))) (g k) ∙ go (is_link k.role) (link_map f g ks)
  where
    go : (b : Bool) → link_in (map f ks) ≡ by_link f (link_in ks) → cond b (Some (f k)) (link_in (map f ks)) ≡ by_link f (cond b (Some k) (link_in ks))
    go true e = refl
    go false e = e

link_none : (ks : List Client) → NoLink ks → link_in ks ≡ None
link_none [] h = refl
link_none (k ∷ ks) h = let s = or_parts (is_link k.role) _ h in ap (λ (b : Bool). cond b (Some k) (link_in ks)) s.0 ∙ link_none ks s.1

-- one more that is none
link_more : (ks : List Client) (k : Client) → is_link k.role ≡ false → link_in (ks ++ k ∷ []) ≡ link_in ks
link_more [] k e = ap (λ (b : Bool). cond b (Some k) None) e
link_more (j ∷ ks) k e = ap (λ (o : Option Client). cond (is_link j.role) (Some j) o) (link_more ks k e)

-- one more, where there was none
link_new : (ks : List Client) (k : Client) → NoLink ks → is_link k.role ≡ true → link_in (ks ++ k ∷ []) ≡ Some k
link_new [] k h e = ap (λ (b : Bool). cond b (Some k) None) e
link_new (j ∷ ks) k h e = let s = or_parts (is_link j.role) _ h in ap (λ (b : Bool). cond b (Some j) (link_in (ks ++ k ∷ []))) s.0 ∙ link_new ks k s.1 e

-- ---- what a round does to it

-- another, which is as much to be spent on
pub record Like (k m : Client) : Type 0 where
  pub extra : m.extra ≡ k.extra
  pub stopped : m.stopped ≡ k.stopped
  pub came_is : came m ≡ came k
  pub new : IsNew k → IsNew m

abbrev LikeIn : Option Client → Option Client → Type 0
LikeIn None None = Unit {0}
LikeIn (Some k) (Some m) = Like k m
LikeIn None (Some m) = ⊥
LikeIn (Some k) None = ⊥

abbrev pub LikeLinks : List Client → List Client → Type 0
LikeLinks ks ms = LikeIn (link_in ks) (link_in ms)

like_refl : (o : Option Client) → LikeIn o o
like_refl None = tt
like_refl (Some k) = record { extra = refl; stopped = refl; came_is = refl; new = λ n. n }

like_then : (o p q : Option Client) → LikeIn o p → LikeIn p q → LikeIn o q
like_then None None None a b = tt
like_then None None (Some m) a b = absurd b
like_then None (Some m) q a b = absurd a
like_then (Some k) None q a b = absurd a
like_then (Some k) (Some m) None a b = absurd b
like_then (Some k) (Some m) (Some n) a b = record { extra = b.extra ∙ a.extra; stopped = b.stopped ∙ a.stopped; came_is = b.came_is ∙ a.came_is; new = λ x. b.new (a.new x) }

like_same : (ks ms : List Client) → link_in ms ≡ link_in ks → LikeLinks ks ms
like_same ks ms e = subst (LikeIn (link_in ks)) (sym e) (like_refl (link_in ks))

-- a link isn't served
pub one_is_link : (is : Settings) (c : Contents) (w : Walk) (k : Client) → is_link k.role ≡ true → (round_one is c w k).client ≡ k
unfolding round_one
one_is_link is c w k e = go k.role (is_ready k) e
  where
    go : (r : Role) (b : Bool) → is_link r ≡ true → (served is c w k (cond b (cond (is_client r) (piece_at k.unread) (Err more)) (Err more))).client ≡ k
    go of_client b e = absurd cc
    go (of_feed above base) b e = absurd cc
    go (to_master named broken) true e = refl
    go (to_master named broken) false e = refl

one_is_none : (is : Settings) (c : Contents) (w : Walk) (k : Client) (o : Option Client) → cond (is_link (round_one is c w k).client.role) (Some (round_one is c w k).client) o ≡ cond (is_link k.role) (Some k) o
one_is_none is c w k o = ap (λ (b : Bool). cond b (Some (round_one is c w k).client) o) (one_link is c w k) ∙ go (is_link k.role) refl
  where
    go : (b : Bool) → is_link k.role ≡ b → cond b (Some (round_one is c w k).client) o ≡ cond b (Some k) o
    go true e = ap Some (one_is_link is c w k e)
    go false e = refl

round_link : (is : Settings) (c : Contents) (w : Walk) (ks : List Client) → link_in (round_all is c w ks).clients ≡ link_in ks
round_link is c w [] = refl
round_link is c w (k ∷ ks) =
    let one = (round_one is c w k).made in
    one_is_none is c w k (link_in (round_all is one.contents one.walk ks).clients) ∙ ap (λ (o : Option Client). cond (is_link k.role) (Some k) o) (round_link is one.contents one.walk ks)

-- of one of which nothing came a look finds nothing
nothing : (own h : ℕ) → looks (record { own = own; held = h; named = false; unread = [] }) ≡ (Part, record { own = own; held = h; named = false; unread = [] })
unfolding stepped
nothing own h = refl

-- a link that was looked at
abbrev seen : ℕ → ℕ → Contents → Walk → Bool → Bool → Client → Client
seen own held c w named broken k = let x = looks (line_of own held named k) in with_line x.1 (broken || (dealt x.0 c w).broken) k

seen_new : (own held : ℕ) (c : Contents) (w : Walk) (named broken : Bool) (k : Client) → k.role ≡ to_master named broken → IsNew k → IsNew (seen own held c w named broken k)
seen_new own held c w named broken k e n =
    let unnamed : named ≡ false = ap naming (sym e ∙ n.role) in
    let whole : broken ≡ false = ap breaking (sym e ∙ n.role) in
    let q : line_of own held named k ≡ record { own = own; held = held; named = false; unread = [] } = λ i. record { own = own; held = held; named = unnamed i; unread = n.unread i } in
    let x = ap looks q ∙ nothing own held in
    subst (λ (y : Look × Line). IsNew (with_line y.1 (broken || (dealt y.0 c w).broken) k)) (sym x) (record { unread = refl; role = ap (λ (b : Bool). to_master false (b || false)) whole })
  where
    naming : Role → Bool
    naming (to_master named broken) = named
    naming _ = false

    breaking : Role → Bool
    breaking (to_master named broken) = broken
    breaking _ = false

look_like : (own held : ℕ) (c : Contents) (w : Walk) (ks : List Client) → LikeLinks ks (look_all own held c w ks).clients
unfolding look_at
look_like own held c w [] = tt
look_like own held c w (k ∷ ks) = go k.role refl (look_like own held c w ks)
  where
    other : is_link k.role ≡ false → LikeLinks ks (look_all own held c w ks).clients → LikeIn (cond (is_link k.role) (Some k) (link_in ks)) (cond (is_link k.role) (Some k) (link_in (look_all own held c w ks).clients))
    other e rest = subst (λ (b : Bool). LikeIn (cond b (Some k) (link_in ks)) (cond b (Some k) (link_in (look_all own held c w ks).clients))) (sym e) rest

    go : (r : Role) → k.role ≡ r → LikeLinks ks (look_all own held c w ks).clients → LikeLinks (k ∷ ks) (look_next own held c w r k ks (look_all own held c w ks)).clients
    go of_client e rest = other (ap is_link e) rest
    go (of_feed above base) e rest = other (ap is_link e) rest
    go (to_master named broken) e rest =
        subst (λ (b : Bool). LikeIn (cond b (Some k) (link_in ks)) (Some (seen own held c w named broken k))) (sym (ap is_link e))
        (record { extra = refl; stopped = refl; came_is = refl; new = λ n. seen_new own held c w named broken k e n })

look_of_like : (is : Settings) (log : List Record) (r : Round) → LikeLinks r.clients (look_of is log r).clients
look_of_like is log r = go (is_replica is)
  where
    go : (b : Bool) → LikeLinks r.clients (cond {A = Looked} b (look_all is.own (last_of 0 log) r.made.contents r.made.walk r.clients) (record { dealt_is = unmoved r.made.contents r.made.walk false; clients = r.clients })).clients
    go true = look_like is.own (last_of 0 log) r.made.contents r.made.walk r.clients
    go false = like_refl (link_in r.clients)

fed_link_is : (log : List Record) (ks : List Client) → link_in (map (fed log) ks) ≡ link_in ks
fed_link_is log [] = refl
fed_link_is log (k ∷ ks) = go k.role refl (fed_link_is log ks)
  where
    go : (r : Role) → k.role ≡ r → link_in (map (fed log) ks) ≡ link_in ks → cond (is_link (fed_by log r k).role) (Some (fed_by log r k)) (link_in (map (fed log) ks)) ≡ cond (is_link k.role) (Some k) (link_in ks)
    go of_client e rest = ap (λ (o : Option Client). cond (is_link k.role) (Some k) o) rest
    go (of_feed stamp base) e rest =
        ap (λ (r : Role). cond (is_link r) (Some (fed_by log (of_feed stamp base) k)) (link_in (map (fed log) ks))) e ∙ rest ∙ sym (ap (λ (r : Role). cond (is_link r) (Some k) (link_in ks)) e)
    go (to_master named broken) e rest = ap (λ (o : Option Client). cond (is_link k.role) (Some k) o) rest

feed_link_is : (is : Settings) (log : List Record) (ks : List Client) → link_in (feed_all is log ks) ≡ link_in ks
feed_link_is is log ks = go is.logs
  where
    go : (b : Bool) → link_in (cond b (map (fed log) ks) ks) ≡ link_in ks
    go true = fed_link_is log ks
    go false = refl

-- a link behind a round is like it was as it was heard
pub behind_like : (is : Settings) (log more : List Record) (c : Contents) (w : Walk) (ks : List Client) → LikeLinks ks (feed_all is more (look_of is log (round_all is c w ks)).clients)
behind_like is log news c w ks =
    let r = round_all is c w ks in
    let l = (look_of is log r).clients in
    like_then (link_in ks) (link_in l) (link_in (feed_all is news l))
    (like_then (link_in ks) (link_in r.clients) (link_in l) (like_same ks r.clients (round_link is c w ks)) (look_of_like is log r))
    (like_same l (feed_all is news l) (feed_link_is is news l))

-- ---- an event

or_false_left : (a b : Bool) → (a || b) ≡ false → a ≡ false
or_false_left true b e = absurd cc
or_false_left false b e = refl

or_false_right : (a b : Bool) → (a || b) ≡ false → b ≡ false
or_false_right true b e = absurd cc
or_false_right false b e = e

-- a link as it is heard
record Going (k : Client) : Type 0 where
  plain : k.extra ≡ false
  going : k.stopped ≡ false
  new : came k ≡ false → IsNew k

abbrev GoingIn : Option Client → Type 0
GoingIn None = Unit {0}
GoingIn (Some k) = Going k

-- nothing has come where nothing had and no bytes do
read_new : (bytes : List ℕ) (k : Client) → Going k → came (with_read bytes k) ≡ false → IsNew (with_read bytes k)
read_new bytes k h e =
    let short : length (k.input ++ bytes) ≤ 0 = ltb-false 0 (length (k.input ++ bytes)) (or_false_right k.ended _ e) in
    let first : length k.input ≡ 0 = omega (arith, short, length-append k.input bytes) in
    let second : length bytes ≡ 0 = omega (arith, short, length-append k.input bytes) in
    let none : nat_lt 0 (length k.input) ≡ false = le-ltb 0 (length k.input) (omega (arith, first)) in
    let was : came k ≡ false = ap (λ (b : Bool). b || nat_lt 0 (length k.input)) (or_false_left k.ended _ e) ∙ none in
    let n = h.new was in
    record { unread = ap (λ (u : List ℕ). u ++ bytes) n.unread ∙ nil_from_length bytes second; role = n.role }

going_map : (f : Client → Client) → KeepsLink f → ((k : Client) → Going k → Going (f k)) → (ks : List Client) → GoingIn (link_in ks) → GoingIn (link_in (map f ks))
going_map f keeps g ks h = subst GoingIn (sym (link_map f keeps ks)) (go (link_in ks) h)
  where
    go : (o : Option Client) → GoingIn o → GoingIn (by_link f o)
    go None h = tt
    go (Some k) h = g k h

at_going : (c : ℕ) (f : Client → Client) → ((k : Client) → Going k → Going (f k)) → (k : Client) → Going k → Going (at_conn c f k)
at_going c f g k h = go (nat_eq k.conn c)
  where
    go : (b : Bool) → Going (cond b (f k) k)
    go true = g k h
    go false = h

unstopped_going : (ks : List Client) → LinkMeets ks → GoingIn (link_in (map unstopped ks))
unstopped_going ks h = subst GoingIn (sym (link_map unstopped (λ k. refl) ks)) (go (link_in ks) h)
  where
    go : (o : Option Client) → FitsIn o → GoingIn (by_link unstopped o)
    go None h = tt
    go (Some k) h = record { plain = h.plain; going = refl; new = λ e. let n = h.empty e in record { unread = n.unread; role = n.role } }

heard_going : (ks : List Client) (ev : Ev) (bytes : List ℕ) → GoingIn (link_in ks) → GoingIn (link_in (heard ks ev bytes))
heard_going ks (event.Opened c) bytes h = subst GoingIn (sym (link_more ks (new_client c (clients_in ks)) refl)) h
heard_going ks (event.Read c n) bytes h = going_map (at_conn c (with_read bytes)) (at_link c (with_read bytes) (λ k. refl)) (at_going c (with_read bytes) (λ k g. record { plain = g.plain; going = g.going; new = read_new bytes k g })) ks h
heard_going ks (event.Ended c) bytes h = going_map (at_conn c with_end) (at_link c with_end (λ k. refl)) (at_going c with_end (λ k g. record { plain = g.plain; going = g.going; new = λ e. absurd cc })) ks h
heard_going ks event.Quiet bytes h = h
heard_going ks event.Shut bytes h = h

fits_like : (o p : Option Client) → GoingIn o → LikeIn o p → FitsIn p
fits_like None None g l = tt
fits_like None (Some m) g l = absurd l
fits_like (Some k) None g l = absurd l
fits_like (Some k) (Some m) g l = record { plain = l.extra ∙ g.plain; quiet = λ e. absurd (let f = sym l.stopped ∙ e in let h = g.going in cc); empty = λ e. l.new (g.new (sym l.came_is ∙ e)) }

pub event_meets : (ks ms : List Client) (ev : Ev) (bytes : List ℕ) → LinkMeets ks → LikeLinks (heard (map unstopped ks) ev bytes) ms → LinkMeets ms
event_meets ks ms ev bytes h l = fits_like (link_in (heard (map unstopped ks) ev bytes)) (link_in ms) (heard_going (map unstopped ks) ev bytes (unstopped_going ks h)) l

-- ---- what an event takes off, at which nothing comes

bools_pot : (a st c r : Bool) → not (a || st) ≡ false → (not a || r) ≡ true → (st ≡ true → c ≡ false) → one_if c + 1 ≤ one_if (st || c) + one_if r
bools_pot a true true true rested waits q = omega arith
bools_pot a false true true rested waits q = omega arith
bools_pot a true false true rested waits q = omega arith
bools_pot a false false true rested waits q = omega arith
bools_pot true st c false rested waits q = absurd cc
bools_pot false false c false rested waits q = absurd cc
bools_pot false true true false rested waits q = absurd (let e = q refl in cc)
bools_pot false true false false rested waits q = omega arith

bools_less : (st c : Bool) → one_if c ≤ one_if (st || c)
bools_less true true = omega arith
bools_less true false = omega arith
bools_less false c = omega arith

-- what is left of it then
quiet_is : (k m : Client) → Like (unstopped k) m → pot_of (Some m) ≡ one_if (came k)
quiet_is k m l = ap (λ (b : Bool). one_if (b || came m)) l.stopped ∙ ap one_if l.came_is

quiet_in : (o p : Option Client) → LikeIn (by_link unstopped o) p → pot_of p ≤ pot_of o
quiet_in None None l = omega arith
quiet_in None (Some m) l = absurd l
quiet_in (Some k) None l = absurd l
quiet_in (Some k) (Some m) l = let a = quiet_is k m l in let b = bools_less k.stopped (came k) in omega (arith, a, b)

pub quiet_less : (ks ms : List Client) → LikeLinks (map unstopped ks) ms → pot ms ≤ pot ks
quiet_less ks ms l = quiet_in (link_in ks) (link_in ms) (subst (λ (o : Option Client). LikeIn o (link_in ms)) (link_map unstopped (λ k. refl) ks) l)

none_waits : (ks : List Client) → NoLink ks → list_any link_waits ks ≡ true → ⊥
none_waits [] h e = absurd cc
none_waits (k ∷ ks) h e =
    let s = or_parts (is_link k.role) _ h in
    go (is_link k.role) (none_waits ks s.1) s.0 e
  where
    go : (b : Bool) → (list_any link_waits ks ≡ true → ⊥) → b ≡ false → ((b && waits k) || list_any link_waits ks) ≡ true → ⊥
    go true rest e f = absurd cc
    go false rest e f = rest f

-- the link that waits is the first
record Waits (ks : List Client) : Type 0 where
  link : Client
  first : link_in ks ≡ Some link
  rested : is_restless link ≡ false
  waiting : (not (all_sent link) || has_whole link) ≡ true
  looked : one_if (has_whole link) ≤ one_if (list_any is_looked_at ks)

first_waits : (ks : List Client) → Single ks → list_any is_restless ks ≡ false → list_any link_waits ks ≡ true → Waits ks
first_waits [] one r e = absurd cc
first_waits (k ∷ ks) one r e = go (is_link k.role) (first_waits ks one.1 (or_parts (is_restless k) (list_any is_restless ks) r).1) refl e
  where
    rs : (is_restless k ≡ false) × (list_any is_restless ks ≡ false)
    rs = or_parts (is_restless k) (list_any is_restless ks) r

    unfed : (r : Role) → is_link r ≡ true → is_fed r ≡ false
    unfed of_client e = refl
    unfed (of_feed above base) e = absurd cc
    unfed (to_master named broken) e = refl

    first_or : (b c : Bool) → one_if b ≤ one_if (b || c)
    first_or true c = omega arith
    first_or false true = omega arith
    first_or false false = omega arith

    or_later : (b c : Bool) → one_if c ≤ one_if (b || c)
    or_later true true = omega arith
    or_later true false = omega arith
    or_later false c = omega arith

    go : (b : Bool) → (list_any link_waits ks ≡ true → Waits ks) → is_link k.role ≡ b → ((b && waits k) || list_any link_waits ks) ≡ true → Waits (k ∷ ks)
    go true later is e = record {
      link = k;
      first = ap (λ (b : Bool). cond b (Some k) (link_in ks)) is;
      rested = rs.0;
      waiting = ap (λ (b : Bool). (not b && not (all_sent k)) || has_whole k) (sym (unfed k.role is)) ∙ now (waits k) (list_any link_waits ks) e (none_waits ks (one.0 is));
      looked = (let a = first_or (is_looked_at k) (list_any is_looked_at ks) in let b : one_if (has_whole k) ≡ one_if (is_looked_at k) = ap (λ (b : Bool). one_if (b && has_whole k)) (sym is) in omega (arith, a, b));
    }
      where
        now : (a b : Bool) → (a || b) ≡ true → (b ≡ true → ⊥) → a ≡ true
        now true b e f = refl
        now false b e f = absurd (f e)
    go false later is e =
        let w = later e in
        record {
          link = w.link;
          first = ap (λ (b : Bool). cond b (Some k) (link_in ks)) is ∙ w.first;
          rested = w.rested;
          waiting = w.waiting;
          looked = (let a = w.looked in let b = or_later (is_looked_at k) (list_any is_looked_at ks) in omega (arith, a, b));
        }

-- where nothing comes, what was to be spent on it was, or a record is looked at
pub quiet_pot : (ks ms : List Client) → LinkMeets ks → Single ks → list_any is_restless ks ≡ false → list_any link_waits ks ≡ true → LikeLinks (map unstopped ks) ms → pot ms + 1 ≤ pot ks + one_if (list_any is_looked_at ks)
quiet_pot ks ms h one r e l =
    let w = first_waits ks one r e in
    let k = w.link in
    let fits : LinkFits k = subst FitsIn w.first h in
    let like : LikeIn (Some (unstopped k)) (link_in ms) = subst (λ (o : Option Client). LikeIn (by_link unstopped o) (link_in ms)) w.first (subst (λ (o : Option Client). LikeIn o (link_in ms)) (link_map unstopped (λ j. refl) ks) l) in
    let here : pot ks ≡ one_if (k.stopped || came k) = ap pot_of w.first in
    let b = bools_pot (all_sent k) k.stopped (came k) (has_whole k) w.rested w.waiting fits.quiet in
    let a = after k (link_in ms) like in
    let s = w.looked in
    omega (arith, here, a, b, s)
  where
    after : (k : Client) (o : Option Client) → LikeIn (Some (unstopped k)) o → pot_of o ≡ one_if (came k)
    after k None l = absurd l
    after k (Some m) l = quiet_is k m l

-- ---- sends, and a closing

pub sent_meets : (c : ℕ) (bytes : List ℕ) (ks : List Client) → LinkMeets ks → LinkMeets (map (at_conn c (sent bytes (Took (length bytes)))) ks)
sent_meets c bytes ks h = subst FitsIn (sym (link_map (at_conn c f) (at_link c f (λ k. refl)) ks)) (go (link_in ks) h)
  where
    f : Client → Client
    f = sent bytes (Took (length bytes))

    one : (k : Client) (b : Bool) → LinkFits k → LinkFits (cond b (f k) k)
    one k true h = record { plain = h.plain; quiet = λ e. absurd cc; empty = λ e. let n = h.empty e in record { unread = n.unread; role = n.role } }
    one k false h = h

    go : (o : Option Client) → FitsIn o → FitsIn (by_link (at_conn c f) o)
    go None h = tt
    go (Some k) h = one k (nat_eq k.conn c) h

pub sent_less : (c : ℕ) (bytes : List ℕ) (ks : List Client) → pot (map (at_conn c (sent bytes (Took (length bytes)))) ks) ≤ pot ks
sent_less c bytes ks = let e = ap pot_of (link_map (at_conn c f) (at_link c f (λ k. refl)) ks) in let l = go (link_in ks) in omega (arith, e, l)
  where
    f : Client → Client
    f = sent bytes (Took (length bytes))

    one : (k : Client) (b : Bool) → pot_of (Some (cond b (f k) k)) ≤ pot_of (Some k)
    one k true = bools_less k.stopped (came k)
    one k false = omega arith

    go : (o : Option Client) → pot_of (by_link (at_conn c f) o) ≤ pot_of o
    go None = omega arith
    go (Some k) = one k (nat_eq k.conn c)

-- of one that is over something came
over_came : (k : Client) → k.gone ≡ false → LinkFits k → is_over k ≡ true → came k ≡ true
over_came k here h e = go (came k) refl
  where
    third : (g x b : Bool) → (g || (x || b)) ≡ true → g ≡ false → x ≡ false → b ≡ true
    third true x b e f h = absurd cc
    third false true b e f h = absurd cc
    third false false b e f h = e

    last : (s b en : Bool) → (s && (b || (en && not (has_whole k)))) ≡ true → b ≡ false → en ≡ true
    last true true en e f = absurd cc
    last true false true e f = refl
    last true false false e f = absurd cc
    last false b en e f = absurd cc

    go : (b : Bool) → came k ≡ b → b ≡ true
    go true is = refl
    go false is =
        let n = h.empty is in
        let fine : has_bad k ≡ false = ap (λ (r : Role). bad_in r k.unread) n.role in
        let ended = last (is_link k.role || all_sent k) (has_bad k) k.ended (third k.gone k.extra _ e here h.plain) fine in
        absurd (let f = or_false_left k.ended (nat_lt 0 (length k.input)) is in cc)

pub closed_meets : (p : Client → Bool) (ks : List Client) → Single ks → LinkMeets ks → LinkMeets (filter p ks)
closed_meets p [] one h = tt
closed_meets p (k ∷ ks) one h = go (p k) (is_link k.role) refl h (closed_meets p ks one.1)
  where
    without : (ks : List Client) → NoLink ks → link_in (filter p ks) ≡ None
    without [] h = refl
    without (j ∷ js) h = let s = or_parts (is_link j.role) _ h in go (p j) s.0 (without js s.1)
      where
        go : (b : Bool) → is_link j.role ≡ false → link_in (filter p js) ≡ None → link_in (cond b (j ∷ filter p js) (filter p js)) ≡ None
        go true e r = ap (λ (b : Bool). cond b (Some j) (link_in (filter p js))) e ∙ r
        go false e r = r

    go : (b l : Bool) → is_link k.role ≡ l → FitsIn (cond l (Some k) (link_in ks)) → (LinkMeets ks → LinkMeets (filter p ks)) → LinkMeets (cond b (k ∷ filter p ks) (filter p ks))
    go true true is h rest = subst (λ (b : Bool). FitsIn (cond b (Some k) (link_in (filter p ks)))) (sym is) h
    go true false is h rest = subst (λ (b : Bool). FitsIn (cond b (Some k) (link_in (filter p ks)))) (sym is) (rest h)
    go false true is h rest = subst FitsIn (sym (without ks (one.0 is))) tt
    go false false is h rest = rest h

pub closed_less : (l : Lines) (c : ℕ) (ks : List Client) → AllFit l ks → LinkMeets ks → list_any (λ k. nat_eq k.conn c && not (is_over k)) ks ≡ false → pot (filter (λ k. not (nat_eq k.conn c)) ks) ≤ pot ks
closed_less l c [] fits h over = omega arith
closed_less l c (k ∷ ks) fits h over = go (is_link k.role) (nat_eq k.conn c) refl refl h both.0 (λ m. closed_less l c ks fits.1 m both.1)
  where
    others : Client → Bool
    others j = not (nat_eq j.conn c)

    both : ((nat_eq k.conn c && not (is_over k)) ≡ false) × (list_any (λ j. nat_eq j.conn c && not (is_over j)) ks ≡ false)
    both = or_parts (nat_eq k.conn c && not (is_over k)) _ over

    not_no : (b : Bool) → not b ≡ false → b ≡ true
    not_no true e = refl
    not_no false e = absurd cc

    or_true : (a b : Bool) → b ≡ true → one_if (a || b) ≡ 1
    or_true true b e = refl
    or_true false true e = refl
    or_true false false e = absurd cc

    go : (a b : Bool) → is_link k.role ≡ a → nat_eq k.conn c ≡ b → FitsIn (cond a (Some k) (link_in ks)) → (b && not (is_over k)) ≡ false → (LinkMeets ks → pot (filter others ks) ≤ pot ks)
        → pot (cond (not b) (k ∷ filter others ks) (filter others ks)) ≤ pot_of (cond a (Some k) (link_in ks))
    go true true is eq m o rest =
        let e = or_true k.stopped (came k) (over_came k fits.0.here m (not_no (is_over k) o)) in
        let p = pot_one (filter others ks) in
        omega (arith, e, p)
    go true false is eq m o rest = let e : pot (k ∷ filter others ks) ≡ pot_of (Some k) = ap (λ (b : Bool). pot_of (cond b (Some k) (link_in (filter others ks)))) is in omega (arith, e)
    go false true is eq m o rest = rest m
    go false false is eq m o rest = let e : pot (k ∷ filter others ks) ≡ pot (filter others ks) = ap (λ (b : Bool). pot_of (cond b (Some k) (link_in (filter others ks)))) is in let p = rest m in omega (arith, e, p)

-- ---- a dial

pub new_meets : (is : Settings) (log : List Record) (c : ℕ) (ks : List Client) → NoLink ks → LinkMeets (ks ++ new_link is log c ∷ [])
new_meets is log c ks none = subst FitsIn (sym (link_new ks (new_link is log c) none refl)) (record { plain = refl; quiet = λ e. refl; empty = λ e. record { unread = refl; role = refl } })

-- the turn that was to be spent on there being none is to be spent on it
pub new_pot : (is : Settings) (log : List Record) (c : ℕ) (ks : List Client) → NoLink ks → pot (ks ++ new_link is log c ∷ []) ≡ pot ks
new_pot is log c ks none = ap pot_of (link_new ks (new_link is log c) none refl) ∙ sym (ap pot_of (link_none ks none))
