-- What is asked of the wire is what was asked.
use Rattle.std.proofs.Common.{◌≡◌, ◌∙◌, ℕ, Bool, true, false, cond, not, List, [], ◌∷◌, ◌++◌, length, drop, map, Ok, Err, refl, sym, ap, subst}
use Rattle.std.specs.Prelude.{◌&&◌, ◌||◌, nat_eq}
use Rattle.std.specs.List.{list_any, filter}
use Rattle.std.proofs.lemmas.List.{append-nil}
use Rattle.tc_base.specs.declared.request.Request.{Request}
use Rattle.tc_base.specs.declared.fields.NotWhole.TheVariants.{Part, Bad}
use Rattle.tc_base.specs.Reading.{Front}
use Rattle.tc_io.specs.declared.wire.Ev.{Ev}
use Rattle.tc_io.specs.declared.wire.Ev.TheVariants.{Opened, Read, Ended, Quiet, Shut}
use Rattle.tc_io.specs.declared.wire.Entry.{Entry}
use Rattle.tc_io.specs.declared.wire.Entry.TheVariants.{Open, Dial, Event, Send, Close}
use Rattle.ty_wire.specs.Reading.{request_at}
use Rattle.ty_memc.specs.Grammar.{begins_text, piece_at}
use Rattle.ty_world.specs.Clients.{Client, waits, is_over}
use Rattle.ty_world.specs.Frames.{is_bad, is_whole}
use Rattle.ty_world.specs.Logs.{plain}
use Rattle.ty_world.specs.Rounds.{round_all, round_of_all, commits_of}
use Rattle.ty_world.specs.World.{World, AllAsked, AllCame, AreNext, AsksRight, Came, IsAbove, IsClosed, IsOffered, IsRested, commits_in, happens, heard_by, is_restless, rounded, world_after}
use Rattle.ty_world.specs.Before as before
use Rattle.ty_world.specs.Same.{Besides, HearsNoTexts, LeavesNoTexts, NeverTexts, NoTexts, RunsPlainly, SameWorld, client_of, clients_of, world_of}
use Rattle.ty_world.proofs.AsBefore.{all_as, appended_as, as_piece, binary_front, entry_as, heard_bytes, round_as}

-- ---- one connection

whole_piece : (f : Front Request) → is_whole (as_piece f) ≡ is_whole f
whole_piece (Ok x) = refl
whole_piece (Err e) = refl

bad_piece : (f : Front Request) → is_bad (as_piece f) ≡ is_bad f
bad_piece (Ok x) = refl
bad_piece (Err Part) = refl
bad_piece (Err Bad) = refl

whole_as : (k : before.Client) → begins_text k.unread ≡ false → is_whole (piece_at k.unread) ≡ before.has_whole k
whole_as k none = ap is_whole (binary_front k.unread none) ∙ whole_piece (request_at k.unread)

bad_as : (k : before.Client) → begins_text k.unread ≡ false → is_bad (piece_at k.unread) ≡ is_bad (request_at k.unread)
bad_as k none = ap is_bad (binary_front k.unread none) ∙ bad_piece (request_at k.unread)

waits_as : (k : before.Client) → begins_text k.unread ≡ false → waits (client_of k) ≡ before.waits k
waits_as k none = ap (λ (b : Bool). not (before.all_sent k) || b) (whole_as k none)

over_as : (k : before.Client) → begins_text k.unread ≡ false → is_over (client_of k) ≡ before.is_over k
over_as k none = λ i. k.gone || (k.extra || (before.all_sent k && (bad_as k none i || (k.ended && not (whole_as k none i)))))

-- ---- lists of connections

any_as : (p : Client → Bool) (q : before.Client → Bool) → ((k : before.Client) → begins_text k.unread ≡ false → p (client_of k) ≡ q k) → (ks : List before.Client) → NoTexts (clients_of ks) → list_any p (clients_of ks) ≡ list_any q ks
any_as p q same [] none = refl
any_as p q same (k ∷ ks) none = let one = same k none.0 in let rest = any_as p q same ks none.1 in λ i. one i || rest i

-- where no text matters
any_of : (p : Client → Bool) (q : before.Client → Bool) → ((k : before.Client) → p (client_of k) ≡ q k) → (ks : List before.Client) → list_any p (clients_of ks) ≡ list_any q ks
any_of p q same [] = refl
any_of p q same (k ∷ ks) = let one = same k in let rest = any_of p q same ks in λ i. one i || rest i

paused_as : (ks : List before.Client) → NoTexts (clients_of ks) → map (λ (k : Client). k.conn) (filter waits (clients_of ks)) ≡ map (λ (k : before.Client). k.conn) (filter before.waits ks)
paused_as [] none = refl
paused_as (k ∷ ks) none = ap (λ (b : Bool). map (λ (k : Client). k.conn) (cond b (client_of k ∷ filter waits (clients_of ks)) (filter waits (clients_of ks)))) (waits_as k none.0) ∙ go (before.waits k) (paused_as ks none.1)
  where
    go : (b : Bool) → map (λ (k : Client). k.conn) (filter waits (clients_of ks)) ≡ map (λ (k : before.Client). k.conn) (filter before.waits ks)
        → map (λ (k : Client). k.conn) (cond b (client_of k ∷ filter waits (clients_of ks)) (filter waits (clients_of ks))) ≡ map (λ (k : before.Client). k.conn) (cond b (k ∷ filter before.waits ks) (filter before.waits ks))
    go true rest = ap (λ (l : List ℕ). k.conn ∷ l) rest
    go false rest = rest

same_client : (a b : Client) (x y : List Client) → ◌≡◌ {A = List Client} (a ∷ x) (b ∷ y) → a ≡ b
same_client a b x y e = cc

same_others : (a b : Client) (x y : List Client) → ◌≡◌ {A = List Client} (a ∷ x) (b ∷ y) → x ≡ y
same_others a b x y e = cc

-- one among them, as there was
record Among (ks : List before.Client) (front : List Client) (k : Client) (back : List Client) : Type 0 where
  fronts : List before.Client
  one : before.Client
  backs : List before.Client
  parts : ks ≡ fronts ++ one ∷ backs
  front_is : front ≡ clients_of fronts
  one_is : k ≡ client_of one
  back_is : back ≡ clients_of backs

among : (ks : List before.Client) (front : List Client) (k : Client) (back : List Client) → clients_of ks ≡ front ++ k ∷ back → Among ks front k back
among [] [] k back e = absurd cc
among [] (x ∷ front) k back e = absurd cc
among (y ∷ ks) [] k back e = record { fronts = []; one = y; backs = ks; parts = refl; front_is = refl; one_is = sym (same_client (client_of y) k (clients_of ks) back e); back_is = sym (same_others (client_of y) k (clients_of ks) back e) }
among (y ∷ ks) (x ∷ front) k back e =
    let a = among ks front k back (same_others (client_of y) x (clients_of ks) (front ++ k ∷ back) e) in
    let head = same_client (client_of y) x (clients_of ks) (front ++ k ∷ back) e in
    record { fronts = y ∷ a.fronts; one = a.one; backs = a.backs; parts = ap (λ (l : List before.Client). y ∷ l) a.parts; front_is = λ i. sym head i ∷ a.front_is i; one_is = a.one_is; back_is = a.back_is }

-- ---- what is asked

rested_as : (v : before.World) → NoTexts (clients_of v.there) → (x : Besides) → IsRested (world_of x v) → before.IsRested v
rested_as v none x r = (sym (any_of is_restless before.is_restless (λ k. refl) v.there) ∙ r.0, sym (any_as is_over before.is_over over_as v.there none) ∙ r.1)

next_as : (k : before.Client) (bytes : List ℕ) → AreNext (client_of k) bytes → bytes ≡ drop (length k.out) k.owed
next_as k bytes n = sym (n.parts ∙ (ap (λ (l : List ℕ). bytes ++ l) (n.all refl) ∙ append-nil bytes))

offered_as : (ks : List before.Client) (c : ℕ) (bytes : List ℕ) → IsOffered (clients_of ks) c bytes → before.IsOffered ks c bytes
offered_as ks c bytes o =
    let a = among ks o.before o.client o.behind o.there in
    let is_this : Client → Bool = λ k. nat_eq k.conn c in
    let others : list_any is_this (o.before ++ o.behind) ≡ list_any is_this (clients_of a.fronts ++ clients_of a.backs) = λ i. list_any is_this (a.front_is i ++ a.back_is i) in
    record {
      before = a.fronts;
      client = a.one;
      behind = a.backs;
      there = a.parts;
      conn = ap (λ (k : Client). k.conn) (sym a.one_is) ∙ o.conn;
      alone = sym (any_of is_this (λ k. nat_eq k.conn c) (λ k. refl) (a.fronts ++ a.backs)) ∙ (ap (list_any is_this) (sym (appended_as a.fronts a.backs)) ∙ (sym others ∙ o.alone));
      here = ap (λ (k : Client). k.gone) (sym a.one_is) ∙ o.here;
      going = ap (λ (k : Client). k.stopped) (sym a.one_is) ∙ o.going;
      bytes_are = next_as a.one bytes (subst (λ (k : Client). AreNext k bytes) a.one_is o.bytes_are);
      some = o.some;
      rested = sym (any_of is_restless before.is_restless (λ k. refl) a.fronts) ∙ (ap (list_any is_restless) (sym a.front_is) ∙ o.rested);
    }

closed_right : (ks : List before.Client) (c : ℕ) → NoTexts (clients_of ks) → IsClosed (clients_of ks) c → before.IsClosed ks c
closed_right ks c none o = record {
  there = sym (any_of (λ k. nat_eq k.conn c) (λ k. nat_eq k.conn c) (λ k. refl) ks) ∙ o.there;
  over = sym (any_as (λ k. nat_eq k.conn c && not (is_over k)) (λ k. nat_eq k.conn c && not (before.is_over k)) (λ k plain. ap (λ (b : Bool). nat_eq k.conn c && not b) (over_as k plain)) ks none) ∙ o.over;
  rested = sym (any_of is_restless before.is_restless (λ k. refl) ks) ∙ o.rested;
}

right_as : (e : Entry) (x : Besides) (v : before.World) → NoTexts (clients_of v.there) → AsksRight (world_of x v) e → before.AsksRight v e
right_as (Open at) x v none asked = tt
right_as (Dial host port answer) x v none asked = absurd asked.1
right_as (Event paused busy ev bytes) x v none asked = (rested_as v none x asked.rested, asked.pauses ∙ paused_as v.there none, asked.busily ∙ any_as waits before.waits waits_as v.there none, asked.running)
right_as (Send c bytes answer) x v none asked = offered_as v.there c bytes asked
right_as (Close c) x v none asked = closed_right v.there c none asked

-- ---- what a wire may give

above_as : (given : ℕ) (ev : Ev) → before.IsAbove given ev → IsAbove given ev
above_as given (Opened c) h = h
above_as given (Read c n) h = tt
above_as given (Ended c) h = tt
above_as given Quiet h = tt
above_as given Shut h = tt

came_as : (e : Entry) (x : Besides) (v : before.World) → AsksRight (world_of x v) e → before.Came v e → Came (world_of x v) e
came_as (Open at) x v asked came = tt
came_as (Dial host port answer) x v asked came = absurd asked.1
came_as (Event paused busy ev bytes) x v asked came = record { are_bytes = came.are_bytes; last = came.last; above = above_as v.given ev came.above }
came_as (Send c bytes answer) x v asked came = tt
came_as (Close c) x v asked came = tt

-- ---- whether a round has anything to commit

or_no : (b : Bool) → (b || false) ≡ b
or_no true = refl
or_no false = refl

event_commits : (x : Besides) (v : before.World) (ev : Ev) (bytes : List ℕ) → NoTexts (heard_by (world_of x v) ev bytes) → commits_of (rounded (world_of x v) ev bytes) ≡ (before.round_of v ev bytes).commits
event_commits x v ev bytes none =
    let bs = before.heard (map before.unstopped v.there) ev bytes in
    let same = heard_bytes x v ev bytes in
    subst (λ (ks : List Client). commits_of (round_of_all plain x.records v.contents v.walk ks) ≡ (before.round_all v.contents v.walk bs).commits) same
    (or_no (round_all plain v.contents v.walk (clients_of bs)).made.commits ∙ (round_as v.contents v.walk bs (subst NoTexts (sym same) none)).made.commits_is)

turn_commits : (es : List Entry) (x : Besides) (v : before.World) → AllAsked (world_of x v) es → NeverTexts (world_of x v) es → commits_in (world_of x v) es ≡ before.commits_in v es
turn_commits [] x v asked never = refl
turn_commits (Open at ∷ es) x v asked never = refl
turn_commits (Dial host port answer ∷ es) x v asked never = absurd asked.0.1
turn_commits (Event paused busy ev bytes ∷ es) x v asked never = event_commits x v ev bytes never.0
turn_commits (Send c bytes answer ∷ es) x v asked never = refl
turn_commits (Close c ∷ es) x v asked never = refl

-- ---- all

-- behind an entry the worlds are the same
then_as : (e : Entry) (w : World) (v : before.World) → SameWorld w v → AsksRight w e → HearsNoTexts w e → SameWorld (happens w e) (before.happens v e)
then_as e w v same asked never = subst (λ (u : World). AsksRight u e → HearsNoTexts u e → SameWorld (happens u e) (before.happens v e)) (sym same.1) (entry_as e same.0 v) asked never

all_right : (es : List Entry) (w : World) (v : before.World) → SameWorld w v → AllAsked w es → NeverTexts w es → LeavesNoTexts w es → before.AllAsked v es
all_right [] w v same asked never left = tt
all_right (e ∷ es) w v same asked never left = (
  subst (λ (u : World). NoTexts u.there → AsksRight u e → before.AsksRight v e) (sym same.1) (right_as e same.0 v) left.0 asked.0,
  all_right es (happens w e) (before.happens v e) (then_as e w v same asked.0 never.0) asked.1 never.1 left.1,
)

all_may : (es : List Entry) (w : World) (v : before.World) → SameWorld w v → AllAsked w es → NeverTexts w es → before.AllCame v es → AllCame w es
all_may [] w v same asked never came = tt
all_may (e ∷ es) w v same asked never came = (
  subst (λ (u : World). AsksRight u e → before.Came v e → Came u e) (sym same.1) (came_as e same.0 v) asked.0 came.0,
  all_may es (happens w e) (before.happens v e) (then_as e w v same asked.0 never.0) asked.1 never.1 came.1,
)

pub same_of : (es : List Entry) (w : World) (v : before.World) → SameWorld w v → RunsPlainly w es → SameWorld (world_after es w) (before.world_after es v)
same_of es w v same p = all_as es w v same p.asked p.plain

pub asked_of : (es : List Entry) (w : World) (v : before.World) → SameWorld w v → RunsPlainly w es → LeavesNoTexts w es → before.AllAsked v es
asked_of es w v same p = all_right es w v same p.asked p.plain

pub came_of : (es : List Entry) (w : World) (v : before.World) → SameWorld w v → RunsPlainly w es → before.AllCame v es → AllCame w es
came_of es w v same p = all_may es w v same p.asked p.plain

pub commits_so : (es : List Entry) (w : World) (v : before.World) → SameWorld w v → RunsPlainly w es → commits_in w es ≡ before.commits_in v es
commits_so es w v same p = subst (λ (u : World). AllAsked u es → NeverTexts u es → commits_in u es ≡ before.commits_in v es) (sym same.1) (turn_commits es same.0 v) p.asked p.plain
