-- The link's part of a round.
use Rattle.std.proofs.Common.{◌≡◌, ◌⊎◌, inl, inr, ℕ, Bool, true, false, not, cond, List, [], ◌∷◌, ◌++◌, refl, sym, ap, subst, ◌∙◌}
use Rattle.std.specs.Prelude.{◌&&◌, ◌||◌, All, IfOk, Option, Some, None, Result, Ok, Err, if◌then◌else◌}
use Rattle.std.proofs.lemmas.List.{append-nil}
use Rattle.std.proofs.lemmas.List.Elements.{All-nil, All-push}
use Rattle.std.specs.List.{list_any}
use Rattle.std.proofs.lemmas.Bool.{or_from, or_parts}
use Rattle.tc_base.specs.Files.{Files}
use Rattle.tc_base.specs.declared.request.Request.{Request}
use Rattle.tc_base.specs.declared.request.Request.TheVariants.{Optimize}
use Rattle.tc_space.specs.declared.errors.RecErr.{RecErr}
use Rattle.tc_space.specs.declared.space.Space.{Ghosts}
use Rattle.tc_model.specs.Apply.{Step, apply}
use Rattle.tc_model.specs.Contents.{Contents, Walk}
use Rattle.tc_model.specs.Packing.{is_optimize}
use Rattle.tc_model.specs.declared.applied.Applied.{Applied}
use Rattle.tc_model.proofs.Failed.{apply_failed}
use Rattle.ty_base.specs.Holding.{FillsBy, Held, IsReady, ServedBy, contents_after, is_idle}
use Rattle.ty_slave.specs.Lines.{Line, looks, past_id, stepped}
use Rattle.ty_slave.specs.declared.link.Step.{Step as Look}
use Rattle.ty_slave.specs.declared.link.Step.TheVariants.{Part, Master, Take, Old, Gap, Bad}
use Rattle.ty_ulog.specs.Log.{IsUpdate}
use Rattle.ty_ulog.specs.Updates.{IsUpdating, update_in}
use Rattle.ty_ulog.proofs.Sole.{update_is}
use Rattle.ty_wire.specs.Prefixes.{IsPrefix}
use Rattle.ty_wire.specs.Spelling.{Fits, spelling}
use Rattle.ty_wire.specs.Updating.{IsUpdating as Changes, updates}
use Rattle.ty_wire.proofs.Answered.{alone}
use Rattle.ty_wire.proofs.UpdateTest.{updates_if}
use Rattle.ty_ulog.specs.declared.record.Record.{Record}
use Rattle.ty_world.specs.Answers.{NoLink}
use Rattle.ty_world.specs.Clients.{Client, Role, of_client, of_feed, to_master, is_link}
use Rattle.ty_world.specs.Links.{Dealt, Looked, dealt, line_of, look_all, look_at, look_next, looked_so, passed_by, redone as is_redone, takes, unmoved, with_line}
use Rattle.ty_world.specs.Logs.{is_replica}
use Rattle.ty_world.proofs.LinkLaws.{looks_may}
use Rattle.ty_rounds.specs.Books.{Book, held}
use Rattle.ty_rounds.specs.Holding.{AllMid, Holds, HoldsMid, IsCalled, PlaysAs, coming}
use Rattle.ty_rounds.specs.Linking.{Deals, DealsAll, DealsSo, FullRedo, IsOver, Redoes, RedoneSo, SameRound, Taken, is_named, looked_by}
use Rattle.ty_rounds.specs.Peers.{has_link, is_called}
use Rattle.ty_rounds.specs.Works.{Work, record_taken, work}
use Rattle.ty_rounds.specs.declared.batch.Batch.{Batch}
use Rattle.ty_rounds.specs.declared.peer.Caller.{Caller}
use Rattle.ty_rounds.specs.declared.peer.Peer.{Peer}
use Rattle.ty_rounds.specs.declared.peer.Role.{Role as PeerRole}
use Rattle.ty_rounds.specs.declared.peer.Role.TheVariants as peer
use Rattle.ty_rounds.proofs.Waiting.{role_is}

-- ---- the clients parted where their connections are

record Parted (b : Book) (front back : List Peer) (p : Peer) (ks : List Client) : Type 0 where
  fs : List Client
  k : Client
  bs : List Client
  there : ks ≡ fs ++ k ∷ bs
  fronts : AllMid b front fs
  holds : HoldsMid b p k
  backs : AllMid b back bs

parted : (b : Book) (front back : List Peer) (p : Peer) (ks : List Client) → AllMid b (front ++ p ∷ back) ks → Parted b front back p ks
parted b [] back p [] a = absurd a
parted b [] back p (k ∷ ks) a = record { fs = []; k = k; bs = ks; there = refl; fronts = tt; holds = a.0; backs = a.1 }
parted b (x ∷ front) back p [] a = absurd a
parted b (x ∷ front) back p (k ∷ ks) a = let r = parted b front back p ks a.1 in record {
  fs = k ∷ r.fs;
  k = r.k;
  bs = r.bs;
  there = ap (λ (l : List Client). k ∷ l) r.there;
  fronts = (a.0, r.fronts);
  holds = r.holds;
  backs = r.backs;
}

joined : (b : Book) (front back : List Peer) (p : Peer) (fs bs : List Client) (k : Client) → AllMid b front fs → HoldsMid b p k → AllMid b back bs → AllMid b (front ++ p ∷ back) (fs ++ k ∷ bs)
joined b [] back p [] bs k f h l = (h, l)
joined b [] back p (j ∷ fs) bs k f h l = absurd f
joined b (x ∷ front) back p [] bs k f h l = absurd f
joined b (x ∷ front) back p (j ∷ fs) bs k f h l = (f.0, joined b front back p fs bs k f.1 h l)

-- ---- those that are no link

link_of : (b : Book) (p : Peer) (k : Client) → HoldsMid b p k → is_called p.role ≡ false → is_link k.role ≡ false
link_of b p k (inl h) e = (role_is b p k h).link ∙ e
link_of b p k (inr n) e = ap is_link n.k_role

no_links : (b : Book) (ps : List Peer) (ks : List Client) → has_link ps ≡ false → AllMid b ps ks → NoLink ks
no_links b [] [] none a = refl
no_links b [] (k ∷ ks) none a = absurd a
no_links b (p ∷ ps) [] none a = absurd a
no_links b (p ∷ ps) (k ∷ ks) none a = let s = or_parts (is_called p.role) (has_link ps) none in or_from (is_link k.role) (list_any (λ (j : Client). is_link j.role) ks) (link_of b p k a.0 s.0) (no_links b ps ks s.1 a.1)

next_past : (own h : ℕ) (c : Contents) (w : Walk) (r : Role) (k : Client) (ks : List Client) (l : Looked) → is_link r ≡ false → look_next own h c w r k ks l ≡ passed_by k l
next_past own h c w of_client k ks l e = refl
next_past own h c w (of_feed above base) k ks l e = refl
next_past own h c w (to_master named broken) k ks l e = absurd cc

-- nothing is looked at where there is none
pub none_looked : (own h : ℕ) (c : Contents) (w : Walk) (ks : List Client) → NoLink ks → look_all own h c w ks ≡ record { dealt_is = unmoved c w false; clients = ks }
none_looked own h c w [] none = refl
none_looked own h c w (k ∷ ks) none =
    let s = or_parts (is_link k.role) (list_any (λ (j : Client). is_link j.role) ks) none in
    next_past own h c w k.role k ks (look_all own h c w ks) s.0 ∙ ap (passed_by k) (none_looked own h c w ks s.1)

-- those in front of it are passed by
past : (own h : ℕ) (c : Contents) (w : Walk) (fs : List Client) (k : Client) (bs : List Client) (named broken : Bool) → NoLink fs → k.role ≡ to_master named broken
    → look_all own h c w (fs ++ k ∷ bs) ≡ record { dealt_is = (look_at own h c w named broken k bs).dealt_is; clients = fs ++ (look_at own h c w named broken k bs).clients }
past own h c w [] k bs named broken none is = ap (λ (r : Role). look_next own h c w r k bs (look_all own h c w bs)) is
past own h c w (j ∷ fs) k bs named broken none is =
    let s = or_parts (is_link j.role) (list_any (λ (i : Client). is_link i.role) fs) none in
    next_past own h c w j.role j (fs ++ k ∷ bs) (look_all own h c w (fs ++ k ∷ bs)) s.0 ∙ ap (passed_by j) (past own h c w fs k bs named broken s.1 is)

at_is : (own h : ℕ) (c : Contents) (w : Walk) (named broken : Bool) (k : Client) (ks : List Client) → look_at own h c w named broken k ks ≡ looked_so c w broken k (looks (line_of own h named k)) ks
unfolding look_at
at_is own h c w named broken k ks = refl

-- ---- the link

-- the link of a connection, whatever client it stands for
called_holds : (b : Book) (p : Peer) (m : Caller) (k : Client) → p.role ≡ peer.Called m → HoldsMid b p k → Holds b p k
called_holds b p m k is (inl h) = h
called_holds b p m k is (inr n) = absurd (let e : is_called p.role ≡ true = ap is_called is in let f : is_called p.role ≡ false = ap is_called n.p_role in cc)

called_plays : (b : Book) (p : Peer) (m : Caller) (k : Client) → p.role ≡ peer.Called m → Holds b p k → IsCalled b m k
called_plays b p m k is h = subst (λ (r : PeerRole). PlaysAs b r p.session.unread k) is h.plays

line_is : (b : Book) (m : Caller) (k : Client) → IsCalled b m k → line_of b.is.own (held b) m.link.named k ≡ m.link
line_is b m k x = λ i. record { own = sym x.own_is i; held = sym x.held_is i; named = m.link.named; unread = x.unread_is i }

-- the client behind it
looked_holds : (b : Book) (p q : Peer) (m n : Caller) (k : Client) (line : Line) (broken : Bool) → p.role ≡ peer.Called m → q ≡ record p { role = peer.Called n; stirs = true } → n.link ≡ line → n.broken ≡ broken → line.own ≡ m.link.own → line.held ≡ m.link.held → Holds b p k → Holds b q (with_line line broken k)
looked_holds b p q m n k line broken is q_is link brk own stays h =
    let x = called_plays b p m k is h in
    subst (λ (z : Peer). Holds b z (with_line line broken k)) (sym q_is) (record {
      conn = h.conn;
      plays = record {
        role_is = λ i. to_master ((sym link i).named) (sym brk i);
        unread_is = ap (λ (z : Line). z.unread) (sym link);
        own_is = ap (λ (z : Line). z.own) link ∙ own ∙ x.own_is;
        held_is = ap (λ (z : Line). z.held) link ∙ stays ∙ x.held_is;
      };
      owed = h.owed ∙ ap (λ (r : PeerRole). k.out ++ (p.session.waiting ++ coming b r)) is;
      gone = h.gone;
      ended = h.ended;
      extra = h.extra;
    })

-- what was looked at behind its id was dealt with
pub link_dealt : (b : Book) (o' : Work) (known : Contents → Type 0) (w w' : Walk) (c : Contents) (front back : List Peer) (p q : Peer) (m n : Caller) (broken : Bool) (ks : List Client) → is_replica b.is ≡ true → has_link front ≡ false → p.role ≡ peer.Called m → q ≡ record p { role = peer.Called n; stirs = true }
    → n.link ≡ (looks m.link).1 → n.broken ≡ (m.broken || broken) → DealsSo o' broken known w' (dealt (looks m.link).0 c w) → AllMid b (front ++ p ∷ back) ks → DealsAll b o' known w' (front ++ q ∷ back) (looked_by b c w ks)
link_dealt b o' known w w' c front back p q m n broken ks replica none is q_is link brk d a =
    let r = parted b front back p ks a in
    let h = called_holds b p m r.k is r.holds in
    let x = called_plays b p m r.k is h in
    let judged = looks_may m.link in
    let line : looks (line_of b.is.own (held b) m.link.named r.k) ≡ looks m.link = ap looks (line_is b m r.k x) in
    let deal = dealt (looks m.link).0 c w in
    let one : Looked = looked_so c w m.broken r.k (looks m.link) r.bs in
    let look : look_at b.is.own (held b) c w m.link.named m.broken r.k r.bs ≡ one = at_is b.is.own (held b) c w m.link.named m.broken r.k r.bs ∙ ap (λ (z : Look × Line). looked_so c w m.broken r.k z r.bs) line in
    let all : looked_by b c w ks ≡ record { dealt_is = deal; clients = r.fs ++ one.clients } =
    ap (λ (t : Bool). cond {A = Looked} t (look_all b.is.own (held b) c w ks) (record { dealt_is = unmoved c w false; clients = ks })) replica
    ∙ ap (look_all b.is.own (held b) c w) r.there
    ∙ past b.is.own (held b) c w r.fs r.k r.bs m.link.named m.broken (no_links b front r.fs none r.fronts) x.role_is
    ∙ ap (λ (z : Looked). record { dealt_is = z.dealt_is; clients = r.fs ++ z.clients }) look in
    let broken_so : n.broken ≡ (m.broken || deal.broken) = brk ∙ ap (λ (t : Bool). m.broken || t) d.broken_is in
    subst (DealsAll b o' known w' (front ++ q ∷ back)) (sym all) (record {
      contents = d.contents;
      walk_is = d.walk_is;
      taken_is = d.taken_is;
      gap_is = d.gap_is;
      each = joined b front back q r.fs r.bs _ r.fronts (inl (looked_holds b p q m n r.k (looks m.link).1 (m.broken || deal.broken) is q_is link broken_so judged.same judged.still h)) r.backs;
    })

-- the client that a link stands for
pub record LinkThere (b : Book) (m : Caller) (ks : List Client) : Type 0 where
  pub before : List Client
  pub link : Client
  pub behind : List Client
  pub there : ks ≡ before ++ link ∷ behind
  pub role_is : link.role ≡ to_master m.link.named m.broken
  pub step : (looks (line_of b.is.own (held b) m.link.named link)).0 ≡ (looks m.link).0

pub link_there : (b : Book) (front back : List Peer) (p : Peer) (m : Caller) (ks : List Client) → p.role ≡ peer.Called m → AllMid b (front ++ p ∷ back) ks → LinkThere b m ks
link_there b front back p m ks is a =
    let r = parted b front back p ks a in
    let x = called_plays b p m r.k is (called_holds b p m r.k is r.holds) in
    record { before = r.fs; link = r.k; behind = r.bs; there = r.there; role_is = x.role_is; step = ap (λ (q : Line). (looks q).0) (line_is b m r.k x) }

-- there is none, or this is no replica
pub none_dealt : (b : Book) (o : Work) (known : Contents → Type 0) (w : Walk) (c : Contents) (ps : List Peer) (ks : List Client) → known c → o.taken ≡ [] → o.gap ≡ [] → (is_replica b.is ≡ false) ⊎ (has_link ps ≡ false) → AllMid b ps ks → DealsAll b o known w ps (looked_by b c w ks)
none_dealt b o known w c ps ks hc taken gap why a = subst (DealsAll b o known w ps) (sym (same why)) (record { contents = hc; walk_is = refl; taken_is = taken; gap_is = gap; each = a })
  where
    still : Looked
    still = record { dealt_is = unmoved c w false; clients = ks }

    same : (is_replica b.is ≡ false) ⊎ (has_link ps ≡ false) → looked_by b c w ks ≡ still
    same (inl e) = ap (λ (t : Bool). cond {A = Looked} t (look_all b.is.own (held b) c w ks) still) e
    same (inr e) = go (is_replica b.is)
      where
        go : (t : Bool) → cond {A = Looked} t (look_all b.is.own (held b) c w ks) still ≡ still
        go true = none_looked b.is.own (held b) c w ks (no_links b ps ks e a)
        go false = refl

-- ---- what a record brings

-- of a request that was applied: it was taken where it succeeded, and else nothing has changed
take_dealt : (known : Contents → Type 0) (o' : Work) (w w' : Walk) (c : Contents) (r : Record) (q : Request) (ok : Bool) → update_in r.request ≡ Some q → RedoneSo known w' ok (apply false q c w) → o'.taken ≡ (if ok then r ∷ [] else []) → o'.gap ≡ []
    → DealsSo o' (not ok) known w' (dealt (Take r) c w)
take_dealt known o' w w' c r q ok asks redone taken gap = subst (DealsSo o' (not ok) known w') (sym (ap (λ (o : Option Request). is_redone r o c w) asks)) (go (apply false q c w).ok refl)
  where
    s : Step
    s = apply false q c w

    at : (b : Bool) → s.ok ≡ b → takes r s c w ≡ cond {A = Dealt} b (record { contents = s.contents; walk = s.walk; taken = r ∷ []; gap = []; broken = false }) (unmoved c w true)
    at b e = ap (λ (t : Bool). cond {A = Dealt} t (record { contents = s.contents; walk = s.walk; taken = r ∷ []; gap = []; broken = false }) (unmoved c w true)) e

    go : (b : Bool) → s.ok ≡ b → DealsSo o' (not ok) known w' (takes r s c w)
    go true e =
        let went : ok ≡ true = redone.ok_is ∙ e in
        subst (DealsSo o' (not ok) known w') (sym (at true e)) (record { contents = redone.contents; walk_is = redone.walk_is; taken_is = taken ∙ ap (λ (t : Bool). if t then r ∷ [] else []) went; gap_is = gap; broken_is = ap not went })
    go false e =
        let failed : ok ≡ false = redone.ok_is ∙ e in
        let stays = apply_failed false q c w e in
        subst (DealsSo o' (not ok) known w') (sym (at false e)) (record { contents = subst known stays.0 redone.contents; walk_is = redone.walk_is ∙ stays.1; taken_is = taken ∙ ap (λ (t : Bool). if t then r ∷ [] else []) failed; gap_is = gap; broken_is = ap not failed })

-- ---- a step

-- no id was read
pub looks_one : (q m : Line) (s : Look) → (s, m) ≡ stepped q → is_named s ≡ false → (s, m) ≡ looks q
looks_one q m s first unnamed = go s unnamed ∙ ap (λ (x : Look × Line). past_id x.0 x) first
  where
    go : (t : Look) → is_named t ≡ false → ◌≡◌ {A = Look × Line} (t, m) (past_id t (t, m))
    go (Master id) e = absurd cc
    go Part e = refl
    go (Take r) e = refl
    go Old e = refl
    go (Gap a b) e = refl
    go Bad e = refl

-- or it was, and the record behind it was looked at
pub looks_two : (q m n : Line) (s t : Look) → (s, m) ≡ stepped q → is_named s ≡ true → (t, n) ≡ stepped m → (t, n) ≡ looks q
looks_two q m n s t first named next = next ∙ go s named ∙ ap (λ (x : Look × Line). past_id x.0 x) first
  where
    go : (u : Look) → is_named u ≡ true → stepped m ≡ past_id u (u, m)
    go (Master id) e = refl
    go Part e = absurd cc
    go (Take r) e = absurd cc
    go Old e = absurd cc
    go (Gap a b) e = absurd cc
    go Bad e = absurd cc

-- ---- a record's request

-- the request that was read of it is the one that it is
record Asked (bytes : List ℕ) (q : Request) : Type 0 where
  is : update_in bytes ≡ Some q
  changes : updates q ≡ true

asked_of : (bytes : List ℕ) (u : IsUpdating bytes) (q : Request) → Fits q → IsPrefix (spelling q) bytes → Asked bytes q
asked_of bytes u q f p =
    let same : u.request ≡ q = alone bytes u.request q u.fits f ([], u.spells ∙ sym (append-nil (spelling u.request))) p in
    record { is = update_is bytes u ∙ ap (λ (r : Request). Some r) same; changes = updates_if q (subst Changes same u.changes) }

pub is_asked : (r : Record) → IsUpdate r → (q : Request) × Fits q × IsPrefix (spelling q) r.request
is_asked r u = (u.updating.request, u.updating.fits, ([], u.updating.spells ∙ sym (append-nil (spelling u.updating.request))))

and_true : (a b : Bool) → b ≡ true → (a && b) ≡ a
and_true true b e = e
and_true false b e = refl

packs_nothing : (q : Request) → updates q ≡ true → is_optimize q ≡ false
packs_nothing (Optimize text) e = absurd cc
packs_nothing _ e = refl

abbrev request_or : Request → Option Request → Request
request_or q None = q
request_or q (Some r) = r

module _ {S B : Type 0} (s : Ghosts S) (holds : B → Files → Contents → Type 0) where
  pub redone_so : (r : Record) (q : Request) (a : Applied) (b b1 : B) (old new : S) (w w' : Walk) (reply reply' : List ℕ) → IsUpdate r → Fits q → IsPrefix (spelling q) r.request → ServedBy s holds false q a b b1 old new w w' reply reply' → Redoes s holds r a.updated b b1 old new w w'
  redone_so r q a b b1 old new w w' reply reply' u f p served = λ c h z asks.
      let x = asked_of r.request u.updating q f p in
      let same : q ≡ z = ap (request_or q) (sym x.is ∙ asks) in
      let v = served c h in
      subst (λ (y : Request). RedoneSo (Held s holds b1 new) w' a.updated (apply false y c w)) same
      (record { contents = subst (Held s holds b1 new) v.applies.contents v.holds; walk_is = v.applies.walk; ok_is = v.applies.updated ∙ and_true (apply false q c w).ok (updates q) x.changes })

  pub redo_idle : (r : Record) (q : Request) (a : Applied) → IsUpdate r → Fits q → IsPrefix (spelling q) r.request → a.updated ≡ false → is_idle q a
  redo_idle r q a u f p none = (none, packs_nothing q (asked_of r.request u.updating q f p).changes)

  pub redo_full : (r : Record) (q : Request) (fills : Contents → Contents → Type 0) (b : B) (old : S) (w : Walk) → IsUpdate r → Fits q → IsPrefix (spelling q) r.request → FillsBy s holds fills q b old (contents_after false q w) → FullRedo s holds fills r b old w
  redo_full r q fills b old w u f p full = λ c h z asks.
      let same : q ≡ z = ap (request_or q) (sym (asked_of r.request u.updating q f p).is ∙ asks) in
      subst (λ (y : Request). fills c (apply false y c w).contents) same (full.by c h)

  -- ---- what was dealt with

  -- the request of a record was applied
  dealt_so : (r : Record) (ok broken : Bool) (o o' : Work) (b b1 : B) (old new : S) (w w' : Walk) → broken ≡ not ok → IsUpdate r → Redoes s holds r ok b b1 old new w w' → o'.gap ≡ o.gap → (o.taken ≡ [] → o'.taken ≡ (if ok then r ∷ [] else [])) → Deals s holds (Take r) o o' broken b b1 old new w w'
  dealt_so r ok broken o o' b b1 old new w w' is u redoes gap taken = λ untaken ungapped c h.
      let q = u.updating.request in
      let asks = update_is r.request u.updating in
      subst (λ (t : Bool). DealsSo o' t (Held s holds b1 new) w' (dealt (Take r) c w)) (sym is) (take_dealt (Held s holds b1 new) o' w w' c r q ok asks (redoes c h q asks) (taken untaken) (gap ∙ ungapped))

  -- and succeeded
  pub deals_taken : (r : Record) (ok : Bool) (bt bt' : Batch) (b b1 : B) (old new : S) (w w' : Walk) → IsUpdate r → Redoes s holds r ok b b1 old new w w' → ok ≡ true → bt' ≡ record_taken bt r → Deals s holds (Take r) (work bt) (work bt') false b b1 old new w w'
  deals_taken r ok bt bt' b b1 old new w w' u redoes went is = subst (λ (z : Batch). Deals s holds (Take r) (work bt) (work z) false b b1 old new w w') (sym is)
      (dealt_so r ok false (work bt) (work (record_taken bt r)) b b1 old new w w' (sym (ap not went)) u redoes refl (λ untaken. sym (ap (λ (t : Bool). if t then r ∷ [] else []) went)))

  -- or didn't
  pub deals_refused : (r : Record) (ok : Bool) (bt : Batch) (b b1 : B) (old new : S) (w w' : Walk) → IsUpdate r → Redoes s holds r ok b b1 old new w w' → ok ≡ false → Deals s holds (Take r) (work bt) (work bt) true b b1 old new w w'
  deals_refused r ok bt b b1 old new w w' u redoes failed = dealt_so r ok true (work bt) (work bt) b b1 old new w w' (sym (ap not failed)) u redoes refl (λ untaken. untaken ∙ sym (ap (λ (t : Bool). if t then r ∷ [] else []) failed))

  pub redone_ready : (r : Record) (ok : Bool) (b b1 : B) (old new : S) (w w' : Walk) → IsUpdate r → Redoes s holds r ok b b1 old new w w' → IsReady s holds b old → s.sound new → IsReady s holds b1 new
  redone_ready r ok b b1 old new w w' u redoes ready sound = record {
    sound = sound;
    held = λ t. let c = ready.held t in let x = redoes c.0 (t, c.1) u.updating.request (update_is r.request u.updating) in ((apply false u.updating.request c.0 w).contents, x.contents.1);
  }

  -- nothing was to be done
  pub deals_none : (step : Look) (broken : Bool) (o : Work) (b : B) (a : S) (w : Walk) → ((c : Contents) (v : Walk) → dealt step c v ≡ unmoved c v broken) → Deals s holds step o o broken b b a a w w
  deals_none step broken o b a w is = λ untaken ungapped c h. subst (DealsSo o broken (Held s holds b a) w) (sym (is c w)) (record { contents = h; walk_is = refl; taken_is = untaken; gap_is = ungapped; broken_is = refl })

  -- a gap was met
  pub deals_gap : (step : Look) (last follows : ℕ) (o o' : Work) (b : B) (a : S) (w : Walk) → step ≡ Gap last follows → o'.taken ≡ o.taken → o'.gap ≡ (last, follows) ∷ [] → Deals s holds step o o' true b b a a w w
  deals_gap step last follows o o' b a w is same gap = λ untaken ungapped c hc.
      subst (λ (z : Look). DealsSo o' true (Held s holds b a) w (dealt z c w)) (sym is) (record { contents = hc; walk_is = refl; taken_is = same ∙ untaken; gap_is = gap; broken_is = refl })

pub same_round : (o : Work) → SameRound o o
same_round o = record { updates_is = refl; labels_is = refl; commits_is = λ was now. refl; taken_so = λ e. (e, refl) }

pub same_taken : (bt bt' : Batch) (r : Record) → bt' ≡ record_taken bt r → SameRound (work bt) (work bt')
same_taken bt bt' r is = subst (λ (z : Batch). SameRound (work bt) (work z)) (sym is) (record { updates_is = refl; labels_is = refl; commits_is = λ was now. absurd (let e : r ∷ [] ≡ [] = now in cc); taken_so = λ e. absurd (let f : true ≡ false = e in cc) })

pub taken_none : (step : Look) (o o' : Work) → o'.taken ≡ o.taken → Taken step o o'
taken_none step o o' same = λ untaken. subst (All (λ q. step ≡ Take q)) (sym (same ∙ untaken)) (All-nil (λ q. step ≡ Take q))

pub taken_one : (step : Look) (r : Record) (o o' : Work) → step ≡ Take r → o'.taken ≡ r ∷ [] → Taken step o o'
taken_one step r o o' is one = λ untaken. subst (All (λ q. step ≡ Take q)) (sym one) (All-push (λ q. step ≡ Take q) [] r (All-nil (λ q. step ≡ Take q)) is)

-- a record that is to be taken isn't bad
pub not_over : (step : Look) (r : Record) (broken : Result Bool RecErr) → step ≡ Take r → IfOk broken (IsOver step)
not_over step r (Ok x) is = λ bad. absurd (let e = sym is ∙ bad in cc)
not_over step r (Err e) is = tt
