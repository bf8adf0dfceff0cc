-- Connections that hold few bytes.
use Rattle.std.proofs.Common.{◌≡◌, ◌≤◌, ◌<◌, ℕ, zero, suc, Bool, true, false, not, cond, List, [], ◌∷◌, ◌++◌, length, drop, get_or, set, refl, sym, ap, subst, ◌∙◌, arith, length-append, length-drop, eq-eqb, Ok, Err}
use Rattle.std.specs.Prelude.{nat_eq, ◌||◌, ◌&&◌, remove}
use Rattle.std.specs.List.{list_any, filter}
use Rattle.std.proofs.lemmas.Bool.{or_parts, cond-true, cond-false}
use Rattle.tc_base.specs.Reading.{Front}
use Rattle.tc_base.specs.declared.fields.NotWhole.TheVariants as not_whole
use Rattle.ty_memc.specs.Grammar.{piece_at}
use Rattle.ty_ulog.specs.declared.record.Record.{Record}
use Rattle.ty_ulog.specs.Records.{record_at}
use Rattle.ty_core.specs.Queues.{Queue, queue}
use Rattle.ty_world.specs.Frames.{is_bad, is_whole}
use Rattle.ty_rounds.specs.Peers.{numbers, all_taken, waits, waiting_numbers, is_over, is_busy, is_client, is_fed, is_called, has_whole, has_bad, whole_of, bad_of}
use Rattle.ty_rounds.specs.Pushing.{Pushes, role_pushed, unread_pushed}
use Rattle.ty_rounds.specs.Ready.{AreIntroduced, FewUnread, FewWaiting, Each, IsCalm, IsIntroduced, IsQuiet, NoneOver, StayFew, most_unread, most_waiting, unread_of}
use Rattle.ty_rounds.specs.Sights.{IsShort, ShortPart, seen, sight, sight_of}
use Rattle.ty_rounds.specs.declared.peer.Peer.{Peer}
use Rattle.ty_rounds.specs.declared.peer.Role.{Role}
use Rattle.ty_rounds.specs.declared.peer.Role.TheVariants as peer
use Rattle.ty_rounds.specs.declared.peer.Sight.{Sight}
use Rattle.ty_rounds.specs.declared.peer.Sight.TheVariants.{Part}

pub each_at : (P : Peer → Type 0) (ps : List Peer) (i : ℕ) (p : Peer) → i < length ps → p ≡ get_or ps i p → Each P ps → P p
each_at P [] i p lt is h = absurd (omega (arith, lt))
each_at P (x ∷ ps) zero p lt is h = subst P (sym is) h.0
each_at P (x ∷ ps) (suc i) p lt is h = each_at P ps i p (omega (arith, lt)) is h.1

pub each_set : (P : Peer → Type 0) (ps : List Peer) (i : ℕ) (q : Peer) → P q → Each P ps → Each P (set ps i q)
each_set P [] i q one h = tt
each_set P (x ∷ ps) zero q one h = (one, h.1)
each_set P (x ∷ ps) (suc i) q one h = (h.0, each_set P ps i q one h.1)

pub each_push : (P : Peer → Type 0) (ps : List Peer) (q : Peer) → P q → Each P ps → Each P (ps ++ q ∷ [])
each_push P [] q one h = (one, tt)
each_push P (x ∷ ps) q one h = (h.0, each_push P ps q one h.1)

pub each_remove : (P : Peer → Type 0) (ps : List Peer) (i : ℕ) → Each P ps → Each P (remove ps i)
each_remove P [] zero h = tt
each_remove P [] (suc i) h = tt
each_remove P (x ∷ ps) zero h = h.1
each_remove P (x ∷ ps) (suc i) h = (h.0, each_remove P ps i h.1)

pub few_refl : (ps : List Peer) → StayFew ps ps
few_refl ps = record { unread = λ h. h; waiting = λ h. h }

pub few_then : (ps qs rs : List Peer) → StayFew ps qs → StayFew qs rs → StayFew ps rs
few_then ps qs rs a b = record { unread = λ h. b.unread (a.unread h); waiting = λ h. b.waiting (a.waiting h) }

-- one connection changed, and holds few bytes still
pub few_set : (ps : List Peer) (i : ℕ) (p q : Peer) → i < length ps → p ≡ get_or ps i p → (FewUnread p → FewUnread q) → (FewWaiting p → FewWaiting q) → StayFew ps (set ps i q)
few_set ps i p q lt is unread waiting = record { unread = λ h. each_set FewUnread ps i q (unread (each_at FewUnread ps i p lt is h)) h; waiting = λ h. each_set FewWaiting ps i q (waiting (each_at FewWaiting ps i p lt is h)) h }

pub few_one : (ps : List Peer) (i : ℕ) (p q : Peer) → i < length ps → p ≡ get_or ps i p → StayFew (p ∷ []) (q ∷ []) → StayFew ps (set ps i q)
few_one ps i p q lt is few = few_set ps i p q lt is (λ h. (few.unread (h, tt)).0) (λ h. (few.waiting (h, tt)).0)

pub few_push : (ps ps' : List Peer) (q : Peer) → ps' ≡ ps ++ q ∷ [] → q.role ≡ peer.Client → length q.session.unread ≡ 0 → length q.session.waiting ≡ 0 → StayFew ps ps'
few_push ps ps' q is role unread waiting = subst (StayFew ps) (sym is) (record {
  unread = λ h. each_push FewUnread ps q (subst (λ (r : Role). length (unread_of r q.session.unread) ≤ most_unread r) (sym role) (omega (arith, unread))) h;
  waiting = λ h. each_push FewWaiting ps q (subst (λ (r : Role). length q.session.waiting ≤ most_waiting r) (sym role) (omega (arith, waiting))) h;
})

pub few_remove : (ps ps' : List Peer) (i : ℕ) → ps' ≡ remove ps i → StayFew ps ps'
few_remove ps ps' i is = subst (StayFew ps) (sym is) (record { unread = λ h. each_remove FewUnread ps i h; waiting = λ h. each_remove FewWaiting ps i h })

-- ---- one that is read holds a part

none_waiting : (ps : List Peer) (i : ℕ) (p : Peer) → i < length ps → p ≡ get_or ps i p → list_any (nat_eq p.conn) (waiting_numbers ps) ≡ false → waits p ≡ false
none_waiting [] i p lt is e = absurd (omega (arith, lt))
none_waiting (x ∷ ps) zero p lt is e = go (waits p) refl
  where
    go : (b : Bool) → waits p ≡ b → waits p ≡ false
    go false w = w
    go true w =
        let there : waiting_numbers (x ∷ ps) ≡ x.conn ∷ waiting_numbers ps = ap numbers (cond-true (waits x) _ _ (ap waits (sym is) ∙ w)) in
        let f = or_parts (nat_eq p.conn x.conn) (list_any (nat_eq p.conn) (waiting_numbers ps)) (ap (list_any (nat_eq p.conn)) (sym there) ∙ e) in
        absurd (let t : nat_eq p.conn x.conn ≡ true = eq-eqb p.conn x.conn (ap (λ (z : Peer). z.conn) is) in let n = f.0 in cc)
none_waiting (x ∷ ps) (suc i) p lt is e = none_waiting ps i p (omega (arith, lt)) is (go (waits x) refl)
  where
    go : (b : Bool) → waits x ≡ b → list_any (nat_eq p.conn) (waiting_numbers ps) ≡ false
    go false w = ap (list_any (nat_eq p.conn)) (ap numbers (sym (cond-false (waits x) (x ∷ filter waits ps) (filter waits ps) w))) ∙ e
    go true w = (or_parts (nat_eq p.conn x.conn) (list_any (nat_eq p.conn) (waiting_numbers ps)) (ap (list_any (nat_eq p.conn)) (ap numbers (sym (cond-true (waits x) (x ∷ filter waits ps) (filter waits ps) w))) ∙ e)).1

over_at : (ps : List Peer) (i : ℕ) (p : Peer) → i < length ps → p ≡ get_or ps i p → NoneOver ps → is_over p ≡ false
over_at [] i p lt is e = absurd (omega (arith, lt))
over_at (x ∷ ps) zero p lt is e = ap is_over is ∙ (or_parts (is_over x) (list_any is_over ps) e).0
over_at (x ∷ ps) (suc i) p lt is e = over_at ps i p (omega (arith, lt)) is (or_parts (is_over x) (list_any is_over ps) e).1

not_no : (b : Bool) → not b ≡ false → b ≡ true
not_no true e = refl
not_no false e = absurd cc

taken_of : (fed taken : Bool) → fed ≡ false → (not fed && not taken) ≡ false → taken ≡ true
taken_of false taken e f = not_no taken f
taken_of true taken e f = absurd cc

or_true : (a : Bool) → (a || true) ≡ true
or_true true = refl
or_true false = refl

and_rest : (a b : Bool) → a ≡ true → (a && b) ≡ false → b ≡ false
and_rest true b e f = f
and_rest false b e f = absurd cc

-- what waits for nothing and isn't over has nothing bad in front
not_bad : (p : Peer) → waits p ≡ false → is_over p ≡ false → is_fed p.role ≡ false → has_bad p ≡ false
not_bad p idle over unfed =
    let taken : all_taken p ≡ true = taken_of (is_fed p.role) (all_taken p) unfed (or_parts (not (is_fed p.role) && not (all_taken p)) (has_whole p) idle).0 in
    let rest : ((is_called p.role || all_taken p) && (has_bad p || (p.ended && not (has_whole p)))) ≡ false = (or_parts p.extra _ (or_parts p.gone _ over).1).1 in
    let some : (is_called p.role || all_taken p) ≡ true = ap (λ (b : Bool). is_called p.role || b) taken ∙ or_true (is_called p.role) in
    (or_parts (has_bad p) (p.ended && not (has_whole p)) (and_rest (is_called p.role || all_taken p) (has_bad p || (p.ended && not (has_whole p))) some rest)).0

seen_part : {A : Type 0} (f : Front A) → is_whole f ≡ false → is_bad f ≡ false → seen f ≡ Part
seen_part (Ok x) w b = absurd cc
seen_part (Err not_whole.Part) w b = refl
seen_part (Err not_whole.Bad) w b = absurd cc

sight_part : (r : Role) (u : List ℕ) → whole_of r u ≡ false → (is_fed r ≡ false → bad_of r u ≡ false) → sight_of r u ≡ Part
sight_part peer.Client u w b = seen_part (piece_at u) w (b refl)
sight_part (peer.Fed f) u w b = refl
sight_part (peer.Called c) u w b = go c.link.named w (b refl)
  where
    f : Front Record
    f = record_at c.link.unread

    go : (n : Bool) → (n && is_whole f) ≡ false → (c.broken || (n && is_bad f)) ≡ false → cond n (seen f) Part ≡ Part
    go true w b = seen_part f w (or_parts c.broken (is_bad f) b).1
    go false w b = refl

part_held : (p : Peer) (s : Sight) → s ≡ sight p → IsShort s p → waits p ≡ false → is_over p ≡ false → ShortPart p.role p.session.unread
part_held p s is short idle over =
    let whole = (or_parts (not (is_fed p.role) && not (all_taken p)) (has_whole p) idle).1 in
    subst (λ (t : Sight). IsShort t p) (is ∙ sight_part p.role p.session.unread whole (not_bad p idle over)) short

-- bytes came of it
read_few : (r : Role) (u bytes : List ℕ) → length bytes ≤ 4096 → ShortPart r u → IsIntroduced r → (is_fed r ≡ false → bad_of r u ≡ false) → length (unread_of r u) ≤ most_unread r
    → length (unread_of (role_pushed bytes r) (unread_pushed bytes r u)) ≤ most_unread (role_pushed bytes r)
read_few peer.Client u bytes few short known good h = omega (arith, few, short, length-append u bytes)
read_few (peer.Fed f) u bytes few short known good h = h
read_few (peer.Called c) u bytes few short known good h = go c.link.named refl
  where
    go : (n : Bool) → c.link.named ≡ n → length (c.link.unread ++ bytes) ≤ 33558553
    go true e = (let s = short e in omega (arith, few, s, length-append c.link.unread bytes))
    go false e = (let s = known e (or_parts c.broken _ (good refl)).0 in omega (arith, few, s, length-append c.link.unread bytes))

read_waits : (r : Role) (bytes : List ℕ) → most_waiting (role_pushed bytes r) ≡ most_waiting r
read_waits peer.Client bytes = refl
read_waits (peer.Fed f) bytes = refl
read_waits (peer.Called c) bytes = refl

pub few_read : (ps : List Peer) (i c : ℕ) (p m : Peer) (stirs : Bool) (s : Sight) (bytes : List ℕ) → i < length ps → p ≡ get_or ps i p → p.conn ≡ c → s ≡ sight p → IsShort s p → list_any (nat_eq c) (waiting_numbers ps) ≡ false → NoneOver ps → AreIntroduced ps → length bytes ≤ 4096 → Pushes bytes p m
    → StayFew ps (set ps i (record m { stirs = stirs }))
few_read ps i c p m stirs s bytes lt is named seen short idle none known few pushed =
    let still = none_waiting ps i p lt is (ap (λ (n : ℕ). list_any (nat_eq n) (waiting_numbers ps)) named ∙ idle) in
    let over = over_at ps i p lt is none in
    let part = part_held p s seen short still over in
    let intro = each_at (λ (q : Peer). IsIntroduced q.role) ps i p lt is known in
    subst (λ (z : Peer). StayFew ps (set ps i (record z { stirs = stirs }))) (sym pushed.is)
    (few_set ps i p _ lt is
    (λ h. read_few p.role p.session.unread bytes few part intro (not_bad p still over) h)
    (λ h. subst (λ (n : ℕ). length p.session.waiting ≤ n) (sym (read_waits p.role bytes)) h))

-- ---- one that is sent to

pub few_same : (p mid q : Peer) → q.session ≡ mid.session → q.role ≡ mid.role → StayFew (p ∷ []) (mid ∷ []) → StayFew (p ∷ []) (q ∷ [])
few_same p mid q is role few = record {
  unread = λ h. (subst (λ (r : Role). length (unread_of r q.session.unread) ≤ most_unread r) (sym role) (subst (λ (z : Queue). length (unread_of mid.role z.unread) ≤ most_unread mid.role) (sym is) (few.unread h).0), tt);
  waiting = λ h. (subst (λ (r : Role). length q.session.waiting ≤ most_waiting r) (sym role) (subst (λ (z : Queue). length z.waiting ≤ most_waiting mid.role) (sym is) (few.waiting h).0), tt);
}

pub few_taken : (p mid : Peer) (n : ℕ) (session : Queue) → session ≡ queue mid.session.unread (drop n mid.session.waiting) → StayFew (p ∷ []) (mid ∷ []) → StayFew (p ∷ []) (record mid { session = session } ∷ [])
few_taken p mid n session is few = record {
  unread = λ h. (subst (λ (z : Queue). length (unread_of mid.role z.unread) ≤ most_unread mid.role) (sym is) (few.unread h).0, tt);
  waiting = λ h. (subst (λ (z : Queue). length z.waiting ≤ most_waiting mid.role) (sym is) (let w = (few.waiting h).0 in omega (arith, w, length-drop n mid.session.waiting)), tt);
}

-- ---- one that doesn't stir

pub calm_stirs : (p : Peer) → p.stirs ≡ true → IsCalm p
calm_stirs p is e = absurd cc

pub calm_settled : (p q : Peer) → q ≡ record p { stirs = is_busy p } → IsCalm q
calm_settled p q is = subst IsCalm (sym is) (λ e. let a = or_parts (is_fed p.role) (waits p || is_over p) e in let o = or_parts (waits p) (is_over p) a.1 in record { unfed = a.0; idle = o.0; stays = o.1 })

-- what is quiet was sent all, and nothing whole stands in front
pub quiet_taken : (p : Peer) → IsQuiet p → all_taken p ≡ true
quiet_taken p q = taken_of (is_fed p.role) (all_taken p) q.unfed (or_parts (not (is_fed p.role) && not (all_taken p)) (has_whole p) q.idle).0

pub quiet_none : (p : Peer) → IsQuiet p → has_whole p ≡ false
quiet_none p q = (or_parts (not (is_fed p.role) && not (all_taken p)) (has_whole p) q.idle).1

pub quiet_piece : (p : Peer) → IsQuiet p → (is_client p.role && has_whole p) ≡ false
quiet_piece p q = go (is_client p.role) (quiet_none p q)
  where
    go : (b : Bool) → has_whole p ≡ false → (b && has_whole p) ≡ false
    go true e = e
    go false e = refl
