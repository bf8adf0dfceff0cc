-- Closings: a connection that is closed leaves the list, and no other does.
use Rattle.std.proofs.Common.{◌≡◌, ℕ, zero, suc, ◌+◌, ◌<◌, ◌≤◌, Bool, true, false, not, List, [], ◌∷◌, ◌++◌, length, get_or, take, cond, refl, sym, ap, subst, ◌∙◌, append_assoc, arith, eq-eqb, length-append, Ok, Err}
use Rattle.std.proofs.lemmas.Bool.{cond-false, cond-true, or_from, or_parts}
use Rattle.std.specs.Prelude.{nat_eq, ◌&&◌, ◌||◌, Result, IsErr, remove}
use Rattle.std.specs.List.{list_any, filter}
use Rattle.std.proofs.lemmas.List.{append-nil, take_all}
use Rattle.tc_base.specs.declared.fault.Fault.{Fault}
use Rattle.tc_io.specs.Told.{Adds}
use Rattle.tc_io.specs.Script.{Plays}
use Rattle.tc_io.specs.Lines.{without, has}
use Rattle.tc_io.specs.declared.wire.Wire.{Ghosts}
use Rattle.tc_io.specs.declared.wire.Entry.{Entry}
use Rattle.tc_io.specs.declared.wire.Entry.TheVariants.{Close}
use Rattle.ty_world.specs.World as world
use Rattle.ty_world.specs.World.{Client, World, world_after, is_restless, ClosesOne}
use Rattle.ty_rounds.specs.Peers.{numbers, is_over}
use Rattle.ty_rounds.specs.Books.{Book}
use Rattle.ty_rounds.specs.Holding.{Holds, AllHold, AllFine, AllSettled, AreApart, IsSettled, Wired, book_of, coming}
use Rattle.ty_rounds.specs.Closings.{ClosedFront, ClosesFront, ClosedAll, ClosesAll}
use Rattle.ty_rounds.specs.Ready as ready
use Rattle.ty_rounds.specs.declared.peer.Peer.{Peer}
use Rattle.ty_rounds.proofs.Places.{eq_swap, same_parts, take_next}
use Rattle.ty_rounds.proofs.Hearing.{more_hold}
use Rattle.ty_rounds.proofs.Waiting.{over_is}
use Rattle.ty_rounds.proofs.Fine.{hold_fine}
use Rattle.ty_rounds.proofs.Entries.{after_more, asked_more, came_more, all_more, same_refl}
use Rattle.ty_rounds.proofs.Telling.{Adds-then, Plays-then, Adds-none, Plays-none}

abbrev other : ℕ → Client → Bool
other c k = not (nat_eq k.conn c)

-- ---- a list of clients in which one number stands once

stay_all : (b : Book) (c : ℕ) (ps : List Peer) (ks : List Client) → AllHold b ps ks → list_any (nat_eq c) (numbers ps) ≡ false → filter (other c) ks ≡ ks
stay_all b c [] [] a e = refl
stay_all b c [] (k ∷ ks) a e = absurd a
stay_all b c (p ∷ ps) [] a e = absurd a
stay_all b c (p ∷ ps) (k ∷ ks) a e =
    let s = or_parts (nat_eq c p.conn) (list_any (nat_eq c) (numbers ps)) e in
    cond-true (other c k) _ _ (ap (λ (n : ℕ). not (nat_eq n c)) a.0.conn ∙ ap not (eq_swap c p.conn s.0)) ∙ ap (λ (l : List Client). k ∷ l) (stay_all b c ps ks a.1 s.1)

go_none : (b : Book) (c : ℕ) (ps : List Peer) (ks : List Client) → AllHold b ps ks → list_any (nat_eq c) (numbers ps) ≡ false → filter (λ (k : Client). nat_eq k.conn c) ks ≡ []
go_none b c [] [] a e = refl
go_none b c [] (k ∷ ks) a e = absurd a
go_none b c (p ∷ ps) [] a e = absurd a
go_none b c (p ∷ ps) (k ∷ ks) a e =
    let s = or_parts (nat_eq c p.conn) (list_any (nat_eq c) (numbers ps)) e in
    cond-false (nat_eq k.conn c) _ _ (ap (λ (n : ℕ). nat_eq n c) a.0.conn ∙ eq_swap c p.conn s.0) ∙ go_none b c ps ks a.1 s.1

ask_none : (b : Book) (c : ℕ) (ps : List Peer) (ks : List Client) → AllHold b ps ks → list_any (nat_eq c) (numbers ps) ≡ false → list_any (λ k. nat_eq k.conn c && not (world.is_over k)) ks ≡ false
ask_none b c [] [] a e = refl
ask_none b c [] (k ∷ ks) a e = absurd a
ask_none b c (p ∷ ps) [] a e = absurd a
ask_none b c (p ∷ ps) (k ∷ ks) a e =
    let s = or_parts (nat_eq c p.conn) (list_any (nat_eq c) (numbers ps)) e in
    or_from (nat_eq k.conn c && not (world.is_over k)) (list_any (λ k. nat_eq k.conn c && not (world.is_over k)) ks) (first (nat_eq k.conn c) (not (world.is_over k)) (ap (λ (n : ℕ). nat_eq n c) a.0.conn ∙ eq_swap c p.conn s.0)) (ask_none b c ps ks a.1 s.1)
  where
    first : (a b : Bool) → a ≡ false → (a && b) ≡ false
    first false b e = refl
    first true b e = absurd cc

apart_from : (x : Peer) (front back : List Peer) (p : Peer) → list_any (nat_eq x.conn) (numbers (front ++ p ∷ back)) ≡ false → nat_eq x.conn p.conn ≡ false
apart_from x [] back p e = (or_parts (nat_eq x.conn p.conn) (list_any (nat_eq x.conn) (numbers back)) e).0
apart_from x (y ∷ front) back p e = apart_from x front back p (or_parts (nat_eq x.conn y.conn) (list_any (nat_eq x.conn) (numbers (front ++ p ∷ back))) e).1

-- the closing of one that is over, behind those that stay and in front of the rest
record Leaves (c : ℕ) (stay rest : List Client) (k : Client) : Type 0 where
  there : filter (other c) (stay ++ k ∷ rest) ≡ stay ++ rest
  gone : filter (λ (j : Client). nat_eq j.conn c) (stay ++ k ∷ rest) ≡ k ∷ []
  asked : list_any (λ j. nat_eq j.conn c && not (world.is_over j)) (stay ++ k ∷ rest) ≡ false
  listed : list_any (λ j. nat_eq j.conn c) (stay ++ k ∷ rest) ≡ true

leaves : (b : Book) (front back : List Peer) (p : Peer) (stay rest : List Client) (k : Client) → AllHold b front stay → Holds b p k → AllHold b back rest → AreApart (numbers (front ++ p ∷ back)) → world.is_over k ≡ true → Leaves p.conn stay rest k
leaves b [] back p [] rest k f h l apart over =
    let same : nat_eq k.conn p.conn ≡ true = eq-eqb k.conn p.conn h.conn in
    record {
      there = cond-false (other p.conn k) _ _ (ap not same) ∙ stay_all b p.conn back rest l apart.0;
      gone = cond-true (nat_eq k.conn p.conn) _ _ same ∙ ap (λ (l : List Client). k ∷ l) (go_none b p.conn back rest l apart.0);
      asked = or_from (nat_eq k.conn p.conn && not (world.is_over k)) (list_any (λ j. nat_eq j.conn p.conn && not (world.is_over j)) rest) (second (nat_eq k.conn p.conn) (not (world.is_over k)) (ap not over)) (ask_none b p.conn back rest l apart.0);
      listed = left_true (nat_eq k.conn p.conn) (list_any (λ j. nat_eq j.conn p.conn) rest) same;
    }
  where
    second : (a b : Bool) → b ≡ false → (a && b) ≡ false
    second true b e = e
    second false b e = refl

    left_true : (a b : Bool) → a ≡ true → (a || b) ≡ true
    left_true true b e = refl
    left_true false b e = absurd cc
leaves b [] back p (j ∷ stay) rest k f h l apart over = absurd f
leaves b (x ∷ front) back p [] rest k f h l apart over = absurd f
leaves b (x ∷ front) back p (j ∷ stay) rest k f h l apart over =
    let r = leaves b front back p stay rest k f.1 h l apart.1 over in
    let away : nat_eq j.conn p.conn ≡ false = ap (λ (n : ℕ). nat_eq n p.conn) f.0.conn ∙ apart_from x front back p apart.0 in
    record {
      there = cond-true (other p.conn j) _ _ (ap not away) ∙ ap (λ (l : List Client). j ∷ l) r.there;
      gone = cond-false (nat_eq j.conn p.conn) _ _ away ∙ r.gone;
      asked = or_from (nat_eq j.conn p.conn && not (world.is_over j)) (list_any (λ i. nat_eq i.conn p.conn && not (world.is_over i)) (stay ++ k ∷ rest)) (first (nat_eq j.conn p.conn) (not (world.is_over j)) away) r.asked;
      listed = right_true (nat_eq j.conn p.conn) (list_any (λ i. nat_eq i.conn p.conn) (stay ++ k ∷ rest)) r.listed;
    }
  where
    first : (a b : Bool) → a ≡ false → (a && b) ≡ false
    first false b e = refl
    first true b e = absurd cc

    right_true : (a b : Bool) → b ≡ true → (a || b) ≡ true
    right_true true b e = refl
    right_true false b e = e

-- ---- numbers

without_none : (c : ℕ) (ns : List ℕ) → list_any (nat_eq c) ns ≡ false → without c ns ≡ ns
without_none c [] e = refl
without_none c (n ∷ ns) e =
    let s = or_parts (nat_eq c n) (list_any (nat_eq c) ns) e in
    cond-true (not (nat_eq n c)) _ _ (ap not (eq_swap c n s.0)) ∙ ap (λ (l : List ℕ). n ∷ l) (without_none c ns s.1)

without_one : (front back : List Peer) (p : Peer) → AreApart (numbers (front ++ p ∷ back)) → without p.conn (numbers (front ++ p ∷ back)) ≡ numbers (front ++ back)
without_one [] back p apart = cond-false (not (nat_eq p.conn p.conn)) _ _ (ap not (eq-eqb p.conn p.conn refl)) ∙ without_none p.conn (numbers back) apart.0
without_one (x ∷ front) back p apart = cond-true (not (nat_eq x.conn p.conn)) _ _ (ap not (apart_from x front back p apart.0)) ∙ ap (λ (l : List ℕ). x.conn ∷ l) (without_one front back p apart.1)

any_less : (c : ℕ) (front back : List Peer) (p : Peer) → list_any (nat_eq c) (numbers (front ++ p ∷ back)) ≡ false → list_any (nat_eq c) (numbers (front ++ back)) ≡ false
any_less c [] back p e = (or_parts (nat_eq c p.conn) (list_any (nat_eq c) (numbers back)) e).1
any_less c (x ∷ front) back p e = let s = or_parts (nat_eq c x.conn) (list_any (nat_eq c) (numbers (front ++ p ∷ back))) e in or_from (nat_eq c x.conn) (list_any (nat_eq c) (numbers (front ++ back))) s.0 (any_less c front back p s.1)

apart_less : (front back : List Peer) (p : Peer) → AreApart (numbers (front ++ p ∷ back)) → AreApart (numbers (front ++ back))
apart_less [] back p a = a.1
apart_less (x ∷ front) back p a = (any_less x.conn front back p a.0, apart_less front back p a.1)

-- ---- where the one that is looked at stands

record Here (ps : List Peer) (i : ℕ) (p : Peer) : Type 0 where
  front : List Peer
  back : List Peer
  is : ps ≡ front ++ p ∷ back
  at : length front ≡ i
  left : remove ps i ≡ front ++ back

here : (ps : List Peer) (i : ℕ) (p : Peer) → i < length ps → p ≡ get_or ps i p → Here ps i p
here [] i p lt e = absurd (omega (arith, lt))
here (x ∷ ps) zero p lt e = record { front = []; back = ps; is = ap (λ (z : Peer). z ∷ ps) (sym e); at = refl; left = refl }
here (x ∷ ps) (suc i) p lt e = let h = here ps i p (omega (arith, lt)) e in record {
  front = x ∷ h.front;
  back = h.back;
  is = ap (λ (l : List Peer). x ∷ l) h.is;
  at = ap suc h.at;
  left = ap (λ (l : List Peer). x ∷ l) h.left;
}

pub closed_wired : (conns conns' : List ℕ) (ps ps' : List Peer) (i : ℕ) (p : Peer) → i < length ps → p ≡ get_or ps i p → ps' ≡ remove ps i → conns' ≡ without p.conn conns → Wired conns ps → Wired conns' ps'
closed_wired conns conns' ps ps' i p lt e less gone w =
    let h = here ps i p lt e in
    let apart : AreApart (numbers (h.front ++ p ∷ h.back)) = subst (λ (l : List Peer). AreApart (numbers l)) h.is (subst AreApart w.same w.apart) in
    let left : ps' ≡ h.front ++ h.back = less ∙ h.left in
    let same : conns' ≡ numbers ps' = gone ∙ ap (without p.conn) w.same ∙ ap (λ (l : List Peer). without p.conn (numbers l)) h.is ∙ without_one h.front h.back p apart ∙ ap numbers (sym left) in
    record { same = same; apart = subst AreApart (sym same) (subst (λ (l : List Peer). AreApart (numbers l)) (sym left) (apart_less h.front h.back p apart)) }

-- ---- what stays fine

fine_more : (ks js : List Client) → AllFine ks → AllFine js → AllFine (ks ++ js)
fine_more [] js a b = b
fine_more (k ∷ ks) js a b = (a.0, fine_more ks js a.1 b)

any_append : (f : Client → Bool) (ks js : List Client) → list_any f ks ≡ false → list_any f js ≡ false → list_any f (ks ++ js) ≡ false
any_append f [] js a b = b
any_append f (k ∷ ks) js a b = let s = or_parts (f k) (list_any f ks) a in or_from (f k) (list_any f (ks ++ js)) s.0 (any_append f ks js s.1 b)

any_drop : (f : Client → Bool) (ks js : List Client) (k : Client) → list_any f (ks ++ k ∷ js) ≡ false → list_any f (ks ++ js) ≡ false
any_drop f [] js k a = (or_parts (f k) (list_any f js) a).1
any_drop f (x ∷ ks) js k a = let s = or_parts (f x) (list_any f (ks ++ k ∷ js)) a in or_from (f x) (list_any f (ks ++ js)) s.0 (any_drop f ks js k s.1)

-- ---- the loop

-- none of those that were looked at is over
abbrev pub FrontClear : List Peer → ℕ → Type 0
FrontClear now i = ready.NoneOver (take i now)

more_there : (ns : List ℕ) (c d : ℕ) → has (without c ns) d ≡ true → has ns d ≡ true
more_there [] c d e = e
more_there (n ∷ ns) c d e = go (nat_eq n c) (nat_eq d n) refl e (more_there ns c d)
  where
    go : (b h : Bool) → nat_eq d n ≡ h → has (cond (not b) (n ∷ without c ns) (without c ns)) d ≡ true → (has (without c ns) d ≡ true → has ns d ≡ true) → (h || has ns d) ≡ true
    go b true is e f = refl
    go true false is e f = f e
    go false false is e f = f (ap (λ (x : Bool). x || has (without c ns) d) (sym is) ∙ e)

pub still_there : (conns conns' all : List ℕ) (c : ℕ) → conns' ≡ without c conns → ((d : ℕ) → has conns d ≡ true → has all d ≡ true) → (d : ℕ) → has conns' d ≡ true → has all d ≡ true
still_there conns conns' all c is fewer d e = fewer d (more_there conns c d (ap (λ (l : List ℕ). has l d) (sym is) ∙ e))

-- the one that is looked at, and the client that it stands for
record Looks (b : Book) (f : List Peer) (now : List Peer) (i : ℕ) (p : Peer) (stay rest : List Client) : Type 0 where
  back : List Peer
  client : Client
  behind : List Client
  peers_are : now ≡ f ++ p ∷ back
  clients_are : rest ≡ client ∷ behind
  holds : Holds b p client
  left : AllHold b back behind
  over : IsSettled b p
  settled : AllSettled b back

looks : (b : Book) (front back now : List Peer) (i : ℕ) (p : Peer) (stay rest : List Client) → now ≡ front ++ back → length front ≡ i → i < length now → p ≡ get_or now i p → AllHold b back rest → AllSettled b back → Looks b front now i p stay rest
looks b front [] now i p stay rest is at lt e a d = absurd (omega (arith, lt, at, ap length is, length-append front []))
looks b front (q ∷ back) now i p stay [] is at lt e a d = absurd a
looks b front (q ∷ back) now i p stay (k ∷ behind) is at lt e a d =
    let h = here now i p lt e in
    let s = same_parts front (q ∷ back) h.front (p ∷ h.back) (sym is ∙ h.is) (at ∙ sym h.at) in
    let one : q ≡ p = head q p back h.back s.1 in
    record {
      back = back;
      client = k;
      behind = behind;
      peers_are = is ∙ ap (λ (z : Peer). front ++ z ∷ back) one;
      clients_are = refl;
      holds = subst (λ (z : Peer). Holds b z k) one a.0;
      left = a.1;
      over = subst (IsSettled b) one d.0;
      settled = d.1;
    }
  where
    head : (q p : Peer) (xs ys : List Peer) → q ∷ xs ≡ p ∷ ys → q ≡ p
    head q p xs ys e = ap (λ (l : List Peer). get_or l 0 q) e

remove_here : (front back : List Peer) (p : Peer) → remove (front ++ p ∷ back) (length front) ≡ front ++ back
remove_here [] back p = refl
remove_here (x ∷ front) back p = ap (λ (l : List Peer). x ∷ l) (remove_here front back p)

closed_end : (now : List Peer) (i : ℕ) (w v : World) (es : List Entry) → ClosedFront now i w v es → length now ≤ i → ClosedAll (Ok tt) now w v es
closed_end now i w v es c le = go c.back c.rest refl refl c.left
  where
    b : Book
    b = book_of w

    go : (back : List Peer) (rest : List Client) → c.back ≡ back → c.rest ≡ rest → AllHold b back rest → ClosedAll (Ok tt) now w v es
    go [] [] e f a =
        let peers : now ≡ c.front = c.peers_are ∙ ap (λ (l : List Peer). c.front ++ l) e ∙ append-nil c.front in
        let clients : v.there ≡ c.stay = c.clients_are ∙ ap (λ (l : List Client). c.stay ++ l) f ∙ append-nil c.stay in
        let held : AllHold b now v.there = subst (λ (l : List Peer). AllHold b l v.there) (sym peers) (subst (λ (l : List Client). AllHold b c.front l) (sym clients) c.held) in
        record {
          there = hold_fine b now v.there held;
          past = c.past;
          same = c.same;
          asked = c.asked;
          came = c.came;
          done = (held, c.rested, ap (list_any world.is_over) clients ∙ c.none_over);
        }
    go [] (y ∷ ys) e f a = absurd a
    go (x ∷ xs) [] e f a = absurd a
    go (x ∷ xs) (y ∷ ys) e f a = absurd (omega (arith, le, c.at, ap length c.peers_are, ap length e, length-append c.front c.back))

module _ {W : Type 0} (g : Ghosts W) where
  pub none_closed : (x : W) (ps : List Peer) → ClosesFront g x x ps ps 0
  none_closed x ps = record {
    entries = [];
    told = Adds-none (g.transcript x);
    plays = Plays-none (g.plays x);
    calls = tt;
    ends = λ w held settled past rested. record {
      front = [];
      back = ps;
      stay = [];
      rest = w.there;
      peers_are = refl;
      clients_are = refl;
      at = refl;
      held = tt;
      left = held;
      settled = settled;
      none_over = refl;
      past = past;
      same = same_refl w;
      asked = tt;
      came = tt;
      rested = rested;
    };
  }

  pub one_stays : (x y : W) (ps now : List Peer) (i : ℕ) (p : Peer) → i < length now → p ≡ get_or now i p → is_over p ≡ false → ClosesFront g x y ps now i → ClosesFront g x y ps now (i + 1)
  one_stays x y ps now i p lt e over f = record {
    entries = f.entries;
    told = f.told;
    plays = f.plays;
    calls = f.calls;
    ends = λ w held settled past rested.
        let b = book_of w in
        let c = f.ends w held settled past rested in
        let l = looks b c.front c.back now i p c.stay c.rest c.peers_are c.at lt e c.left c.settled in
        record {
          front = c.front ++ p ∷ [];
          back = l.back;
          stay = c.stay ++ l.client ∷ [];
          rest = l.behind;
          peers_are = l.peers_are ∙ sym (append_assoc c.front (p ∷ []) l.back);
          clients_are = c.clients_are ∙ ap (λ (r : List Client). c.stay ++ r) l.clients_are ∙ sym (append_assoc c.stay (l.client ∷ []) l.behind);
          at = omega (arith, c.at, length-append c.front (p ∷ []));
          held = more_hold b c.front c.stay p l.client c.held l.holds;
          left = l.left;
          settled = l.settled;
          none_over = any_append world.is_over c.stay (l.client ∷ []) c.none_over (or_from (world.is_over l.client) false (over_is b p l.client l.holds l.over ∙ over) refl);
          past = c.past;
          same = c.same;
          asked = c.asked;
          came = c.came;
          rested = c.rested;
        };
  }

  pub one_closes : (x y z : W) (ps now now' : List Peer) (i : ℕ) (p : Peer) → i < length now → p ≡ get_or now i p → is_over p ≡ true → AreApart (numbers now) → has (g.conns x) p.conn ≡ true → now' ≡ remove now i → ClosesFront g x y ps now i → Adds (g.transcript y) (g.transcript z) (Close p.conn ∷ []) → Plays (g.plays y) (g.plays z) (Close p.conn ∷ []) → ClosesFront g x z ps now' i
  one_closes x y z ps now now' i p lt e over apart listed less f told plays = record {
    entries = f.entries ++ Close p.conn ∷ [];
    told = Adds-then (g.transcript x) (g.transcript y) (g.transcript z) f.entries (Close p.conn ∷ []) f.told told;
    plays = Plays-then (g.plays x) (g.plays y) (g.plays z) f.entries (Close p.conn ∷ []) f.plays plays;
    calls = all_more (ClosesOne (g.conns x)) f.entries (Close p.conn ∷ []) f.calls (listed, tt);
    ends = λ w held settled past rested.
        let b = book_of w in
        let c = f.ends w held settled past rested in
        let l = looks b c.front c.back now i p c.stay c.rest c.peers_are c.at lt e c.left c.settled in
        let v = world_after f.entries w in
        let apart' : AreApart (numbers (c.front ++ p ∷ l.back)) = subst (λ (q : List Peer). AreApart (numbers q)) l.peers_are apart in
        let n = leaves b c.front l.back p c.stay l.behind l.client c.held l.holds l.left apart' (over_is b p l.client l.holds l.over ∙ over) in
        let there : v.there ≡ c.stay ++ l.client ∷ l.behind = c.clients_are ∙ ap (λ (r : List Client). c.stay ++ r) l.clients_are in
        subst (λ (u : World). ClosedFront now' i w u (f.entries ++ Close p.conn ∷ [])) (sym (after_more f.entries (Close p.conn ∷ []) w)) (record {
          front = c.front;
          back = l.back;
          stay = c.stay;
          rest = l.behind;
          peers_are = less ∙ ap (λ (q : List Peer). remove q i) l.peers_are ∙ ap (λ (m : ℕ). remove (c.front ++ p ∷ l.back) m) (sym c.at) ∙ remove_here c.front l.back p;
          clients_are = ap (filter (other p.conn)) there ∙ n.there;
          at = c.at;
          held = c.held;
          left = l.left;
          settled = l.settled;
          none_over = c.none_over;
          past = subst (λ (r : List Client). AllFine (v.past ++ r)) (sym (ap (filter (λ (j : Client). nat_eq j.conn p.conn)) there ∙ n.gone)) (fine_more v.past (l.client ∷ []) c.past ((p.session.waiting ++ coming b p.role, l.holds.owed), tt));
          same = record {
            is_same = c.same.is_same;
            mark = c.same.mark;
            records = c.same.records;
            ticks = c.same.ticks;
            due = c.same.due;
            gaps = c.same.gaps;
            looked = c.same.looked;
            walk = c.same.walk;
            marks = c.same.marks;
            copies = c.same.copies;
            shut = c.same.shut;
            events = c.same.events;
            opens = c.same.opens;
            given = c.same.given;
          };
          asked = asked_more f.entries (Close p.conn ∷ []) w c.asked (
            record {
              there = ap (list_any (λ j. nat_eq j.conn p.conn)) there ∙ n.listed;
              over = ap (list_any (λ j. nat_eq j.conn p.conn && not (world.is_over j))) there ∙ n.asked;
              rested = c.rested;
            },
            tt,
          );
          came = came_more f.entries (Close p.conn ∷ []) w c.came (tt, tt);
          rested = ap (list_any is_restless) (ap (filter (other p.conn)) there ∙ n.there) ∙ any_drop is_restless c.stay l.behind l.client (ap (list_any is_restless) (sym there) ∙ c.rested);
        });
  }

  pub close_fails : (x y z : W) (ps now now' : List Peer) (i : ℕ) (r : Result (Unit {0}) Fault) → IsErr r → ClosesFront g x y ps now i → Adds (g.transcript y) (g.transcript z) [] → ClosesAll g x z ps now' r
  close_fails x y z ps now now' i (Ok u) failed f told = absurd (let e : false ≡ true = failed in cc)
  close_fails x y z ps now now' i (Err e) failed f told = record {
    entries = f.entries;
    told = subst (λ (l : List Entry). Adds (g.transcript x) (g.transcript z) l) (append-nil f.entries) (Adds-then (g.transcript x) (g.transcript y) (g.transcript z) f.entries [] f.told told);
    plays = tt;
    calls = f.calls;
    ends = λ w held settled past rested. let b = book_of w in let c = f.ends w held settled past rested in record {
      there = subst AllFine (sym c.clients_are) (fine_more c.stay c.rest (hold_fine b c.front c.stay c.held) (hold_fine b c.back c.rest c.left));
      past = c.past;
      same = c.same;
      asked = c.asked;
      came = c.came;
      done = tt;
    };
  }

  pub all_closed : (x y : W) (ps now : List Peer) (i : ℕ) → ClosesFront g x y ps now i → length now ≤ i → ClosesAll g x y ps now (Ok tt)
  all_closed x y ps now i f le = record {
    entries = f.entries;
    told = f.told;
    plays = f.plays;
    calls = f.calls;
    ends = λ w held settled past rested. closed_end now i w (world_after f.entries w) f.entries (f.ends w held settled past rested) le;
  }

-- ---- those that were looked at, of the server

over_push : (ps : List Peer) (p : Peer) → ready.NoneOver ps → is_over p ≡ false → ready.NoneOver (ps ++ p ∷ [])
over_push [] p h is = or_from (is_over p) false is refl
over_push (x ∷ ps) p h is = let s = or_parts (is_over x) (list_any is_over ps) h in or_from (is_over x) (list_any is_over (ps ++ p ∷ [])) s.0 (over_push ps p s.1 is)

pub clear_more : (now : List Peer) (i : ℕ) (p : Peer) → i < length now → p ≡ get_or now i p → is_over p ≡ false → FrontClear now i → FrontClear now (i + 1)
clear_more now i p lt is over h = subst ready.NoneOver (sym (take_next now i p lt is)) (over_push (take i now) p h over)

pub clear_less : (now now' : List Peer) (i : ℕ) → now' ≡ remove now i → FrontClear now i → FrontClear now' i
clear_less now now' i is h = subst (λ (l : List Peer). FrontClear l i) (sym is) (subst ready.NoneOver (same_front now i) h)
  where
    same_front : (ps : List Peer) (i : ℕ) → take i ps ≡ take i (remove ps i)
    same_front [] zero = refl
    same_front [] (suc i) = refl
    same_front (x ∷ ps) zero = refl
    same_front (x ∷ ps) (suc i) = ap (λ (l : List Peer). x ∷ l) (same_front ps i)

pub clear_all : (now : List Peer) (i : ℕ) → length now ≤ i → FrontClear now i → ready.NoneOver now
clear_all now i le h = subst ready.NoneOver (take_all i now le) h
