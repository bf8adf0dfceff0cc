-- What the link's part of a round leaves of all connections, whatever is told.
use Rattle.std.proofs.Common.{◌≡◌, ◌⊎◌, ◌<◌, ◌≤◌, ◌+◌, inl, inr, ⊎_elim, ℕ, Bool, not, true, false, cond, List, [], ◌∷◌, ◌++◌, length, drop, get_or, set, Ok, Err, refl, sym, ap, subst, ◌∙◌, arith}
use Rattle.std.specs.Prelude.{All, Option, Some, None, is_some, option_map, nat_eq, nat_lt, ◌||◌}
use Rattle.std.specs.Int.{w32, from_be_bytes}
use Rattle.std.specs.List.{position, position_or_len}
use Rattle.std.proofs.lemmas.Bool.{ltb-false, ltb-true, or_from, or_parts}
use Rattle.tc_base.specs.Files.{Files}
use Rattle.tc_base.specs.Reading.{Front}
use Rattle.tc_base.specs.declared.fields.NotWhole.TheVariants as not_whole
use Rattle.tc_space.specs.declared.space.Space.{Ghosts}
use Rattle.tc_model.specs.Contents.{Contents, Walk}
use Rattle.ty_base.specs.Holding as holding
use Rattle.ty_base.specs.Holding.{Held, Layout, OfHeld, leaves_nothing}
use Rattle.ty_slave.specs.Lines.{Line, introduced, is_refusal, looked, looks, past_id, stepped}
use Rattle.ty_slave.specs.declared.link.Step.{Step as Look}
use Rattle.ty_slave.specs.declared.link.Step.TheVariants.{Part, Master, Take, Old, Gap, Bad}
use Rattle.ty_ulog.specs.Noting.{MayAppend}
use Rattle.ty_ulog.specs.Records.{record_at}
use Rattle.ty_ulog.specs.Updates.{IsUpdating}
use Rattle.ty_ulog.specs.declared.record.Record.{Record}
use Rattle.ty_ulog.proofs.Sole.{update_is}
use Rattle.ty_world.specs.Clients.{Client}
use Rattle.ty_world.specs.Logs.{Settings, is_replica}
use Rattle.ty_world.proofs.LinkLaws.{MayTake, looks_may}
use Rattle.ty_rounds.specs.Books.{Book, address, settings_of}
use Rattle.ty_rounds.specs.Holding.{AllMid}
use Rattle.ty_rounds.specs.Linking.{DealsAll, FullPeer, IsLinkAt, Looks, LooksBehind, looked_by}
use Rattle.ty_rounds.specs.Peers.{has_link, is_called, numbers}
use Rattle.ty_rounds.specs.Ready.{AreIntroduced, FewUnread, FewWaiting, IsCalm, IsIntroduced, KeepsLink, KnowsHeld, LinksKnow, OneLink, most_unread, most_waiting, unread_of}
use Rattle.ty_rounds.specs.Serving.{FillsTaken}
use Rattle.ty_rounds.specs.Works.{Work, gaps_of, listed, work}
use Rattle.ty_rounds.specs.declared.batch.Batch.{Batch}
use Rattle.ty_rounds.specs.declared.logging.Logged.{Logged}
use Rattle.ty_rounds.specs.declared.logging.Master.{Master as MasterAt}
use Rattle.ty_rounds.specs.declared.peer.Caller.{Caller}
use Rattle.ty_rounds.specs.declared.peer.Peer.{Peer}
use Rattle.ty_rounds.specs.declared.peer.Role.{Role as PeerRole}
use Rattle.ty_rounds.specs.declared.peer.Role.TheVariants as peer
use Rattle.ty_rounds.proofs.Few.{each_at, each_set}
use Rattle.ty_rounds.proofs.Links.{keeps_one}
use Rattle.ty_rounds.proofs.Looking.{link_dealt, link_there, none_dealt}
use Rattle.ty_rounds.proofs.ServingLaws.{numbers_kept}

-- ---- the bytes behind a look

-- where the id wasn't read, they are bad or fewer than four
abbrev Unnamed : Look × Line → Type 0
Unnamed x = x.1.named ≡ false → (x.0 ≡ Bad) ⊎ (length x.1.unread < 4)

looked_unnamed : (q : Line) (f : Front Record) → q.named ≡ true → Unnamed (looked q f)
looked_unnamed q (Ok x) e n = absurd cc
looked_unnamed q (Err not_whole.Part) e n = absurd cc
looked_unnamed q (Err not_whole.Bad) e n = absurd cc

introduced_unnamed : (q : Line) → Unnamed (introduced q)
introduced_unnamed q = go (is_refusal q.unread) (nat_lt (length q.unread) 4) (nat_eq (from_be_bytes w32 q.unread) q.own) refl
  where
    go : (a b c : Bool) → nat_lt (length q.unread) 4 ≡ b → Unnamed (cond {A = Look × Line} a (Bad, q) (cond b (Part, q) (cond c (Bad, q) (Master (from_be_bytes w32 q.unread), record q { named = true; unread = drop 4 q.unread }))))
    go true b c e n = inl refl
    go false true c e n = inr (ltb-true _ _ e)
    go false false true e n = inl refl
    go false false false e n = absurd cc

stepped_unnamed : (q : Line) → Unnamed (stepped q)
unfolding stepped
stepped_unnamed q = go q.named refl
  where
    go : (b : Bool) → q.named ≡ b → Unnamed (cond b (looked q (record_at q.unread)) (introduced q))
    go true e = looked_unnamed q (record_at q.unread) e
    go false e = introduced_unnamed q

looks_unnamed : (q : Line) → Unnamed (looks q)
looks_unnamed q = go (stepped q).0 (stepped q).1 (stepped_unnamed q)
  where
    go : (s : Look) (m : Line) → Unnamed (s, m) → Unnamed (past_id s (s, m))
    go Part m h = h
    go (Master id) m h = stepped_unnamed m
    go (Take r) m h = h
    go Old m h = h
    go (Gap a b) m h = h
    go Bad m h = h

-- ---- those beside it

no_link : (r : PeerRole) → is_called r ≡ false → IsIntroduced r
no_link peer.Client e = tt
no_link (peer.Fed f) e = tt
no_link (peer.Called c) e = absurd cc

none_introduced : (ps : List Peer) → has_link ps ≡ false → AreIntroduced ps
none_introduced [] e = tt
none_introduced (p ∷ ps) e = let s = or_parts (is_called p.role) (has_link ps) e in (no_link p.role s.0, none_introduced ps s.1)

one_introduced : (front back : List Peer) (q : Peer) → has_link front ≡ false → IsIntroduced q.role → has_link back ≡ false → AreIntroduced (front ++ q ∷ back)
one_introduced [] back q none known behind = (known, none_introduced back behind)
one_introduced (x ∷ front) back q none known behind = let s = or_parts (is_called x.role) (has_link front) none in (no_link x.role s.0, one_introduced front back q s.1 known behind)

none_behind : (front back : List Peer) (p : Peer) → OneLink (front ++ p ∷ back) → is_called p.role ≡ true → has_link back ≡ false
none_behind [] back p one is = one.0 is
none_behind (x ∷ front) back p one is = none_behind front back p one.1 is

set_at : (front back : List Peer) (p q : Peer) → set (front ++ p ∷ back) (length front) q ≡ front ++ q ∷ back
set_at [] back p q = refl
set_at (x ∷ front) back p q = ap (λ (ps : List Peer). x ∷ ps) (set_at front back p q)

at_there : (front back : List Peer) (p : Peer) → (length front < length (front ++ p ∷ back)) × (p ≡ get_or (front ++ p ∷ back) (length front) p)
at_there [] back p = (omega arith, refl)
at_there (x ∷ front) back p = let s = at_there front back p in let lt = s.0 in (omega (arith, lt), s.1)

no_links_known : (l : Option Logged) (ps : List Peer) → is_replica (settings_of l) ≡ false → LinksKnow l ps → has_link ps ≡ false
no_links_known None ps e know = know
no_links_known (Some x) ps e know = go x.master refl
  where
    go : (m : Option MasterAt) → x.master ≡ m → has_link ps ≡ false
    go None is = know.1.0 is
    go (Some at) is = absurd (let on : is_replica (settings_of (Some x)) ≡ true = ap (λ (o : Option MasterAt). is_replica (record { logs = true; own = x.own; master = option_map address o })) is in let f = sym on ∙ e in cc)

-- ---- where it stands

abbrev called : Peer → Bool
called p = is_called p.role

first_link : (ps : List Peer) → position_or_len called ps < length ps → IsLinkAt ps (position_or_len called ps)
first_link [] lt = absurd (omega (arith, lt))
first_link (x ∷ ps) lt = go (is_called x.role) refl (first_link ps)
  where
    go : (b : Bool) → is_called x.role ≡ b → (position_or_len called ps < length ps → IsLinkAt ps (position_or_len called ps)) → IsLinkAt (x ∷ ps) (position_or_len called (x ∷ ps))
    go true e behind =
        let here : position_or_len called (x ∷ ps) ≡ 0 = ap (λ (b : Bool). cond (not b) (1 + position_or_len called ps) 0) e in
        subst (IsLinkAt (x ∷ ps)) (sym here) (record { front = []; link = x; back = ps; parts = refl; at = refl; is = e; first = refl })
    go false e behind =
        let next : position_or_len called (x ∷ ps) ≡ 1 + position_or_len called ps = ap (λ (b : Bool). cond (not b) (1 + position_or_len called ps) 0) e in
        let rest = behind (omega (arith, lt, next)) in
        subst (IsLinkAt (x ∷ ps)) (sym next) (record {
          front = x ∷ rest.front;
          link = rest.link;
          back = rest.back;
          parts = ap (λ (qs : List Peer). x ∷ qs) rest.parts;
          at = (let at = rest.at in omega (arith, at));
          is = rest.is;
          first = or_from (is_called x.role) (has_link rest.front) e rest.first;
        })

no_place : (ps : List Peer) → length ps ≤ position_or_len called ps → has_link ps ≡ false
no_place [] le = refl
no_place (x ∷ ps) le = go (is_called x.role) refl (no_place ps)
  where
    go : (b : Bool) → is_called x.role ≡ b → (length ps ≤ position_or_len called ps → has_link ps ≡ false) → has_link (x ∷ ps) ≡ false
    go true e behind = absurd (let here : position_or_len called (x ∷ ps) ≡ 0 = ap (λ (b : Bool). cond (not b) (1 + position_or_len called ps) 0) e in omega (arith, le, here))
    go false e behind =
        let next : position_or_len called (x ∷ ps) ≡ 1 + position_or_len called ps = ap (λ (b : Bool). cond (not b) (1 + position_or_len called ps) 0) e in
        or_from (is_called x.role) (has_link ps) e (behind (omega (arith, le, next)))

some_of : (b : Bool) (i k : ℕ) → ◌≡◌ {A = Option ℕ} (Some i) (cond b (Some k) None) → (b ≡ true) × (i ≡ k)
some_of true i k e = (refl, cc)
some_of false i k e = absurd cc

none_of : (b : Bool) (k : ℕ) → ◌≡◌ {A = Option ℕ} None (cond b (Some k) None) → b ≡ false
none_of true k e = absurd cc
none_of false k e = refl

pub link_found : (ps qs : List Peer) (i : ℕ) → qs ≡ ps → Some i ≡ position (λ (p : Peer). is_called p.role) qs → IsLinkAt ps i
link_found ps qs i same e =
    let s = some_of _ i _ (e ∙ ap (position called) same) in
    subst (IsLinkAt ps) (sym s.1) (first_link ps (ltb-true _ _ s.0))

pub no_link_found : (ps qs : List Peer) → qs ≡ ps → None ≡ position (λ (p : Peer). is_called p.role) qs → has_link ps ≡ false
no_link_found ps qs same e = no_place ps (ltb-false _ _ (none_of _ _ (e ∙ ap (position called) same)))

pub link_below : (ps : List Peer) (i : ℕ) → IsLinkAt ps i → i < length ps
link_below ps i found = subst (λ (n : ℕ). n < length ps) found.at (subst (λ (qs : List Peer). length found.front < length qs) (sym found.parts) (at_there found.front found.back found.link).0)

-- what stands there is the link
pub link_is : (ps : List Peer) (i : ℕ) (p : Peer) → (found : IsLinkAt ps i) → p ≡ get_or ps i p → found.link ≡ p
link_is ps i p found is = sym (is ∙ ap (λ (n : ℕ). get_or ps n p) (sym found.at) ∙ ap (λ (qs : List Peer). get_or qs (length found.front) p) found.parts ∙ go found.front)
  where
    go : (front : List Peer) → get_or (front ++ found.link ∷ found.back) (length front) p ≡ found.link
    go [] = refl
    go (x ∷ front) = go front

pub no_replica : (l : Option Logged) → l ≡ None → is_replica (settings_of l) ≡ false
no_replica l is = ap (λ (o : Option Logged). is_replica (settings_of o)) is

pub no_leader : (l : Option Logged) (x : Logged) → l ≡ Some x → is_some x.master ≡ false → is_replica (settings_of l) ≡ false
no_leader l x is none = ap (λ (o : Option Logged). is_replica (settings_of o)) is ∙ go x.master none
  where
    go : (m : Option MasterAt) → is_some m ≡ false → is_some (option_map address m) ≡ false
    go None e = refl
    go (Some at) e = e

-- where a master is given
pub leader : (m : Option MasterAt) → is_some m ≡ true → (at : MasterAt) × (m ≡ Some at)
leader None e = absurd cc
leader (Some at) e = (at, refl)

pub taken_none : (bt : Batch) → bt.taken ≡ None → (work bt).taken ≡ []
taken_none bt none = ap listed none

pub gap_none : (bt : Batch) → bt.gap ≡ None → (work bt).gap ≡ []
gap_none bt none = ap gaps_of none

-- ---- there is none, or this is no replica

module _ {S B : Type 0} (s : Ghosts S) (own : ℕ → Type 0) (layout : Files → Layout) (holds : B → Files → Contents → Type 0) where
  pub looks_none : (l : Option Logged) (o : Work) (base : B) (a : S) (w : Walk) (ps : List Peer) → (is_replica (settings_of l) ≡ false) ⊎ (has_link ps ≡ false) → o.taken ≡ [] → o.gap ≡ [] → holding.IsReady s holds base a → Looks s own layout holds l o o base base a a w w ps ps
  looks_none l o base a w ps why taken gap ready = record {
    numbers = refl;
    unread = λ h. h;
    waiting = λ h. h;
    calm = λ h. h;
    links = λ h. h;
    introduced = λ know. none_introduced ps (⊎_elim (λ e. no_links_known l ps e know) (λ e. e) why);
    fit = λ know f. f;
    same = record { updates_is = refl; labels_is = refl; commits_is = λ was now. refl; taken_so = λ e. (e, refl) };
    ready = ready;
    leaves = leaves_nothing s own layout (o.commits ≡ false) a ready.sound;
    each = λ c h b ks is mid. none_dealt b o (Held s holds base a) w c ps ks h taken gap (⊎_elim (λ e. inl (ap (λ (set : Settings). is_replica set) is ∙ e)) (λ e. inr e) why) mid;
  }

  -- ---- the link was looked at

  pub looks_found : (x : Logged) (at : MasterAt) (o o' : Work) (base base' : B) (old new : S) (w w' : Walk) (ps : List Peer) (i : ℕ) (p q : Peer) (m n : Caller) → x.master ≡ Some at → (found : IsLinkAt ps i) → found.link ≡ p → p.role ≡ peer.Called m → q ≡ record p { role = peer.Called n; stirs = true } → o.taken ≡ [] → o.gap ≡ []
      → LooksBehind s own layout holds o o' m n base base' old new w w' → Looks s own layout holds (Some x) o o' base base' old new w w' ps (set ps i q)
  looks_found x at o o' base base' old new w w' ps i p q m n replica found link is q_is untaken ungapped b = record {
    numbers = numbers_kept ps i p q lt there (ap (λ (z : Peer). z.conn) q_is);
    unread = λ h. each_set FewUnread ps i q (few (each_at FewUnread ps i p lt there h)) h;
    waiting = λ h. each_set FewWaiting ps i q (waits (each_at FewWaiting ps i p lt there h)) h;
    calm = λ h. each_set IsCalm ps i q (λ e. absurd (let f : q.stirs ≡ true = ap (λ (z : Peer). z.stirs) q_is in cc)) h;
    links = (keeps_one ps i p q lt there keeps).know (Some x);
    introduced = λ know. subst AreIntroduced (sym set_is) (one_introduced found.front found.back q found.first short (none_behind found.front found.back p (subst OneLink parts know.1.1) called));
    fit = λ know f. record {
      idle = λ e. let t = b.same.taken_so e in (b.same.updates_is ∙ (f.idle t.0).0, t.1 ∙ (f.idle t.0).1);
      noted = subst (All IsUpdating) (sym b.same.updates_is) f.noted;
      may = λ k d less. appends know (get_or o'.taken k d) (b.taken untaken k d less);
      alone = inr (b.same.updates_is ∙ f.blocked on);
      blocked = λ e. b.same.updates_is ∙ f.blocked e;
      met = λ none. absurd (let f : is_replica (settings_of (Some x)) ≡ false = ap (λ (ms : Option (List ℕ × ℕ)). is_some ms) none in let g = sym on ∙ f in cc);
    };
    same = b.same;
    ready = b.ready;
    leaves = b.leaves;
    each = λ c h bk ks set_by mid.
        subst (λ (qs : List Peer). DealsAll bk o' (Held s holds base' new) w' qs (looked_by bk c w ks)) (sym set_is)
        (link_dealt bk o' (Held s holds base' new) w w' c found.front found.back p q m n b.broken ks (ap (λ (set : Settings). is_replica set) set_by ∙ on) found.first is q_is b.line b.broken_is (b.deals untaken ungapped c h) (subst (λ (qs : List Peer). AllMid bk qs ks) parts mid));
  }
    where
      parts : ps ≡ found.front ++ p ∷ found.back
      parts = found.parts ∙ ap (λ (z : Peer). found.front ++ z ∷ found.back) link

      lt : i < length ps
      lt = subst (λ (n : ℕ). n < length ps) found.at (subst (λ (qs : List Peer). length found.front < length qs) (sym parts) (at_there found.front found.back p).0)

      there : p ≡ get_or ps i p
      there = subst (λ (n : ℕ). p ≡ get_or ps n p) found.at (subst (λ (qs : List Peer). p ≡ get_or qs (length found.front) p) (sym parts) (at_there found.front found.back p).1)

      set_is : set ps i q ≡ found.front ++ q ∷ found.back
      set_is = ap (λ (n : ℕ). set ps n q) (sym found.at) ∙ ap (λ (qs : List Peer). set qs (length found.front) q) parts ∙ set_at found.front found.back p q

      role : q.role ≡ peer.Called n
      role = ap (λ (z : Peer). z.role) q_is

      called : is_called p.role ≡ true
      called = ap is_called is

      on : is_replica (settings_of (Some x)) ≡ true
      on = ap (λ (o : Option MasterAt). is_some (option_map address o)) replica

      few : FewUnread p → FewUnread q
      few h = subst (λ (r : PeerRole). length (unread_of r q.session.unread) ≤ most_unread r) (sym role) (let was = subst (λ (r : PeerRole). length (unread_of r p.session.unread) ≤ most_unread r) is h in let fewer = b.fewer in omega (arith, was, fewer))

      waits : FewWaiting p → FewWaiting q
      waits h = subst FewWaiting (sym q_is) (subst (λ (r : PeerRole). length p.session.waiting ≤ most_waiting r) is h)

      short : IsIntroduced q.role
      short = subst IsIntroduced (sym role) (λ named unbroken. ⊎_elim
          (λ bad. absurd (let closed = b.bad bad in let stays = (or_parts m.broken b.broken (sym b.broken_is ∙ unbroken)).1 in let f = sym closed ∙ stays in cc))
          (λ less. subst (λ (z : Line). length z.unread < 4) (sym b.line) less)
          (looks_unnamed m.link (ap (λ (z : Line). z.named) (sym b.line) ∙ named)))

      keeps : KeepsLink p q
      keeps = record {
        called = λ e. called;
        held = λ last h. subst (KnowsHeld last) (sym role) (ap (λ (z : Line). z.held) b.line ∙ (looks_may m.link).still ∙ subst (KnowsHeld last) is h);
        introduced = λ h. short;
      }

      appends : LinksKnow (Some x) ps → (r : Record) → (looks m.link).0 ≡ Take r → MayAppend x.ulog r
      appends know r e =
          let may : MayTake m.link.held (Take r) = subst (MayTake m.link.held) e (looks_may m.link).may in
          let held : m.link.held ≡ x.ulog.last = subst (KnowsHeld x.ulog.last) is (each_at (λ (z : Peer). KnowsHeld x.ulog.last z.role) ps i p lt there know.0) in
          record { update = b.takes r e; before = may.0 ∙ held; later = subst (λ (n : ℕ). n < r.stamp) held may.1 }

  -- ---- a limit

  called_of : (r : PeerRole) → is_called r ≡ true → (m : Caller) × (r ≡ peer.Called m)
  called_of peer.Client e = absurd cc
  called_of (peer.Fed f) e = absurd cc
  called_of (peer.Called m) e = (m, refl)

  -- one that is reached in what the link brought is one of the round
  pub looks_full : (x : Logged) (at : MasterAt) (fills wide : Contents → Contents → Type 0) (base : B) (old : S) (w : Walk) (ps : List Peer) (i : ℕ) (p : Peer) → x.master ≡ Some at → (found : IsLinkAt ps i) → found.link ≡ p → (s.tells → (d e : Contents) → fills d e → wide d e) → FullPeer s holds fills p base old w
      → OfHeld s holds base old (λ c. (b : Book) (ks : List Client) → b.is ≡ settings_of (Some x) → AllMid b ps ks → FillsTaken b.is b.records wide c w ks)
  looks_full x at fills wide base old w ps i p replica found link wider full = λ c h b ks is mid.
      let called = called_of p.role (ap (λ (z : Peer). is_called z.role) (sym link) ∙ found.is) in
      let f = full called.0 called.1 in
      let parts : ps ≡ found.front ++ p ∷ found.back = found.parts ∙ ap (λ (z : Peer). found.front ++ z ∷ found.back) link in
      let t = link_there b found.front found.back p called.0 ks called.1 (subst (λ (qs : List Peer). AllMid b qs ks) parts mid) in
      let q = f.update.updating.request in
      let asks = update_is f.taken.request f.update.updating in
      record {
        replica = ap (λ (set : Settings). is_replica set) is ∙ ap (λ (o : Option MasterAt). is_some (option_map address o)) replica;
        before = t.before;
        link = t.link;
        behind = t.behind;
        there = t.there;
        named = called.0.link.named;
        broken = called.0.broken;
        role_is = t.role_is;
        taken = f.taken;
        request = q;
        step = t.step ∙ f.is;
        asks = asks;
        full = wider h.0 _ _ (f.by c h q asks);
      }
