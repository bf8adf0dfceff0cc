-- The connections that wait, of the server and of the world.
use Rattle.std.proofs.Common.{◌≡◌, ◌<◌, ◌≤◌, ◌+◌, ℕ, suc, Bool, true, false, not, cond, List, [], ◌∷◌, ◌++◌, length, get_or, take, map, refl, sym, ap, ◌∙◌, arith, length-append, eq-eqb}
use Rattle.std.specs.Prelude.{◌||◌, ◌&&◌, ◌==◌}
use Rattle.std.specs.List.{list_any, filter}
use Rattle.std.proofs.lemmas.List.{append-nil, take_all}
use Rattle.std.proofs.lemmas.Bool.{ne_eqb, eqb-true}
use Rattle.ty_world.specs.Clients as world
use Rattle.ty_world.specs.Clients.{Client, all_sent, Role as WorldRole}
use Rattle.ty_rounds.specs.Books.{Book}
use Rattle.ty_rounds.specs.Peers.{numbers, waits, waiting_numbers, all_taken, is_over, is_client, is_fed, is_called, has_whole, has_bad, whole_of, bad_of}
use Rattle.ty_rounds.specs.Holding.{Holds, AllHold, IsSettled, PlaysAs, coming}
use Rattle.ty_rounds.specs.declared.peer.Peer.{Peer}
use Rattle.ty_rounds.specs.declared.peer.Role.{Role}
use Rattle.ty_rounds.specs.declared.peer.Role.TheVariants as peer
use Rattle.ty_rounds.proofs.Places.{take_next}

-- what is still to come makes no difference where none is
pub sent_is : (b : Book) (p : Peer) (k : Client) → Holds b p k → (all_taken p ≡ true → coming b p.role ≡ []) → all_sent k ≡ all_taken p
sent_is b p k h settled = go (all_taken p) refl
  where
    long : length k.owed ≡ length k.out + (length p.session.waiting + length (coming b p.role))
    long = omega (arith, ap length h.owed, length-append k.out (p.session.waiting ++ coming b p.role), length-append p.session.waiting (coming b p.role))

    go : (t : Bool) → all_taken p ≡ t → all_sent k ≡ t
    go true e = eq-eqb (length k.out) (length k.owed) (omega (arith, long, eqb-true (length p.session.waiting) 0 e, ap length (settled e)))
    go false e = ne_eqb (length k.out) (length k.owed) (λ same. absurd (let none : length p.session.waiting ≡ 0 = omega (arith, long, same) in let t : all_taken p ≡ true = eq-eqb (length p.session.waiting) 0 none in cc))

pub not_fed : (b : Book) (p : Peer) (k : Client) → Holds b p k → is_fed p.role ≡ false → coming b p.role ≡ []
not_fed b p k h e = go p.role e
  where
    go : (r : Role) → is_fed r ≡ false → coming b r ≡ []
    go peer.Client e = refl
    go (peer.Fed f) e = absurd cc
    go (peer.Called c) e = refl

-- what its role says
pub record SameRole (p : Peer) (k : Client) : Type 0 where
  pub client : world.is_client k.role ≡ is_client p.role
  pub fed : world.is_fed k.role ≡ is_fed p.role
  pub link : world.is_link k.role ≡ is_called p.role
  pub whole : world.has_whole k ≡ has_whole p
  pub bad : world.has_bad k ≡ has_bad p

pub role_is : (b : Book) (p : Peer) (k : Client) → Holds b p k → SameRole p k
role_is b p k h = go p.role refl h.plays
  where
    go : (r : Role) → p.role ≡ r → PlaysAs b r p.session.unread k → SameRole p k
    go peer.Client e x = record {
      client = ap world.is_client x.role_is ∙ sym (ap is_client e);
      fed = ap world.is_fed x.role_is ∙ sym (ap is_fed e);
      link = ap world.is_link x.role_is ∙ sym (ap is_called e);
      whole = (λ i. world.whole_in (x.role_is i) (x.unread_is i)) ∙ sym (ap (λ (r : Role). whole_of r p.session.unread) e);
      bad = (λ i. world.bad_in (x.role_is i) (x.unread_is i)) ∙ sym (ap (λ (r : Role). bad_of r p.session.unread) e);
    }
    go (peer.Fed f) e x = record {
      client = ap world.is_client x.role_is ∙ sym (ap is_client e);
      fed = ap world.is_fed x.role_is ∙ sym (ap is_fed e);
      link = ap world.is_link x.role_is ∙ sym (ap is_called e);
      whole = ap (λ (r : WorldRole). world.whole_in r k.unread) x.role_is ∙ sym (ap (λ (r : Role). whole_of r p.session.unread) e);
      bad = ap (λ (r : WorldRole). world.bad_in r k.unread) x.role_is ∙ sym (ap (λ (r : Role). bad_of r p.session.unread) e);
    }
    go (peer.Called c) e x = record {
      client = ap world.is_client x.role_is ∙ sym (ap is_client e);
      fed = ap world.is_fed x.role_is ∙ sym (ap is_fed e);
      link = ap world.is_link x.role_is ∙ sym (ap is_called e);
      whole = (λ i. world.whole_in (x.role_is i) (x.unread_is i)) ∙ sym (ap (λ (r : Role). whole_of r p.session.unread) e);
      bad = (λ i. world.bad_in (x.role_is i) (x.unread_is i)) ∙ sym (ap (λ (r : Role). bad_of r p.session.unread) e);
    }

pub waits_is : (b : Book) (p : Peer) (k : Client) → Holds b p k → world.waits k ≡ waits p
waits_is b p k h = go (is_fed p.role) refl
  where
    r : SameRole p k
    r = role_is b p k h

    go : (f : Bool) → is_fed p.role ≡ f → world.waits k ≡ waits p
    go true e = (λ i. (not ((r.fed ∙ e) i) && not (all_sent k)) || r.whole i) ∙ sym (ap (λ (f : Bool). (not f && not (all_taken p)) || has_whole p) e)
    go false e = λ i. (not (r.fed i) && not (sent_is b p k h (λ taken. not_fed b p k h e) i)) || r.whole i

pub over_is : (b : Book) (p : Peer) (k : Client) → Holds b p k → IsSettled b p → world.is_over k ≡ is_over p
over_is b p k h settled = let r = role_is b p k h in λ i. h.gone i || (h.extra i || ((r.link i || sent_is b p k h settled i) && (r.bad i || (h.ended i && not (r.whole i)))))

pub paused_is : (b : Book) (ps : List Peer) (ks : List Client) → AllHold b ps ks → waiting_numbers ps ≡ map (λ (k : Client). k.conn) (filter world.waits ks)
paused_is b [] [] a = refl
paused_is b [] (k ∷ ks) a = absurd a
paused_is b (p ∷ ps) [] a = absurd a
paused_is b (p ∷ ps) (k ∷ ks) a = go (waits p) (world.waits k) (sym (waits_is b p k a.0)) (paused_is b ps ks a.1)
  where
    go : (b d : Bool) → b ≡ d → waiting_numbers ps ≡ map (λ (k : Client). k.conn) (filter world.waits ks) → map (λ (q : Peer). q.conn) (cond b (p ∷ filter waits ps) (filter waits ps)) ≡ map (λ (k : Client). k.conn) (cond d (k ∷ filter world.waits ks) (filter world.waits ks))
    go true true e ih = ap (λ (n : ℕ). n ∷ waiting_numbers ps) (sym a.0.conn) ∙ ap (λ (l : List ℕ). k.conn ∷ l) ih
    go false false e ih = ih
    go true false e ih = absurd cc
    go false true e ih = absurd cc

any_is : (ks : List Client) → list_any world.waits ks ≡ not (length (map (λ (k : Client). k.conn) (filter world.waits ks)) == 0)
any_is [] = refl
any_is (k ∷ ks) = go (world.waits k) (any_is ks)
  where
    go : (b : Bool) → list_any world.waits ks ≡ not (length (map (λ (k : Client). k.conn) (filter world.waits ks)) == 0) → (b || list_any world.waits ks) ≡ not (length (map (λ (k : Client). k.conn) (cond b (k ∷ filter world.waits ks) (filter world.waits ks))) == 0)
    go true ih = sym (ap not (ne_eqb (suc (length (map (λ (k : Client). k.conn) (filter world.waits ks)))) 0 (λ e. absurd (omega (arith, e)))))
    go false ih = ih

pub busy_is : (b : Book) (ps : List Peer) (ks : List Client) → AllHold b ps ks → not (length (waiting_numbers ps) == 0) ≡ list_any world.waits ks
busy_is b ps ks a = ap (λ (l : List ℕ). not (length l == 0)) (paused_is b ps ks a) ∙ sym (any_is ks)

-- ---- as the list grows

waiting_push : (ps : List Peer) (p : Peer) → waiting_numbers (ps ++ p ∷ []) ≡ waiting_numbers ps ++ numbers (cond (waits p) (p ∷ []) [])
waiting_push [] p = go (waits p)
  where
    go : (b : Bool) → map (λ (q : Peer). q.conn) (cond b (p ∷ []) []) ≡ map (λ (q : Peer). q.conn) (cond b (p ∷ []) [])
    go b = refl
waiting_push (x ∷ ps) p = go (waits x) (waiting_push ps p)
  where
    go : (b : Bool) → waiting_numbers (ps ++ p ∷ []) ≡ waiting_numbers ps ++ numbers (cond (waits p) (p ∷ []) []) → map (λ (q : Peer). q.conn) (cond b (x ∷ filter waits (ps ++ p ∷ [])) (filter waits (ps ++ p ∷ []))) ≡ map (λ (q : Peer). q.conn) (cond b (x ∷ filter waits ps) (filter waits ps)) ++ numbers (cond (waits p) (p ∷ []) [])
    go true ih = ap (λ (l : List ℕ). x.conn ∷ l) ih
    go false ih = ih

pub waiting_yes : (ps : List Peer) (i : ℕ) (p : Peer) (old new : List ℕ) → i < length ps → p ≡ get_or ps i p → waits p ≡ true → old ≡ waiting_numbers (take i ps) → new ≡ old ++ p.conn ∷ [] → new ≡ waiting_numbers (take (i + 1) ps)
waiting_yes ps i p old new lt is waiting so_far more =
    more ∙ ap (λ (l : List ℕ). l ++ p.conn ∷ []) so_far
    ∙ ap (λ (b : Bool). waiting_numbers (take i ps) ++ numbers (cond b (p ∷ []) [])) (sym waiting)
    ∙ sym (waiting_push (take i ps) p) ∙ ap waiting_numbers (sym (take_next ps i p lt is))

pub waiting_no : (ps : List Peer) (i : ℕ) (p : Peer) (old : List ℕ) → i < length ps → p ≡ get_or ps i p → waits p ≡ false → old ≡ waiting_numbers (take i ps) → old ≡ waiting_numbers (take (i + 1) ps)
waiting_no ps i p old lt is idle so_far =
    so_far ∙ sym (append-nil (waiting_numbers (take i ps)))
    ∙ ap (λ (b : Bool). waiting_numbers (take i ps) ++ numbers (cond b (p ∷ []) [])) (sym idle)
    ∙ sym (waiting_push (take i ps) p) ∙ ap waiting_numbers (sym (take_next ps i p lt is))

pub waiting_all : (ps : List Peer) (xs : List ℕ) (i : ℕ) → length ps ≤ i → xs ≡ waiting_numbers (take i ps) → xs ≡ waiting_numbers ps
waiting_all ps xs i le is = is ∙ ap waiting_numbers (take_all i ps le)
