-- The link's part of a round.
use Rattle.std.specs.Prelude.{◌≡◌, ◌≤◌, ◌||◌, ℕ, Bool, true, false, List, [], ◌∷◌, ◌++◌, All, length, Option, Some, if◌then◌else◌}
use Rattle.tc_base.specs.Files.{Files}
use Rattle.tc_base.specs.declared.request.Request.{Request}
use Rattle.tc_model.specs.Apply.{Step, apply}
use Rattle.tc_model.specs.Contents.{Contents, Walk}
use Rattle.tc_space.specs.declared.space.Space as space
use Rattle.ty_slave.specs.Lines.{Line, TakesUpdate, looks}
use Rattle.ty_slave.specs.declared.link.Step.{Step as Look}
use Rattle.ty_slave.specs.declared.link.Step.TheVariants.{Bad, Master, Take}
use Rattle.ty_ulog.specs.Log.{IsUpdate}
use Rattle.ty_ulog.specs.Updates.{update_in}
use Rattle.ty_ulog.specs.declared.record.Record.{Record}
use Rattle.ty_world.specs.Links.{Dealt, Looked, dealt, look_all, unmoved}
use Rattle.ty_world.specs.Logs.{is_replica}
use Rattle.ty_world.specs.World.{Client}
use Rattle.ty_base.specs.Holding as holding
use Rattle.ty_base.specs.Holding.{Held, Layout, Leaves, OfHeld}
use Rattle.ty_rounds.specs.Books.{Book, held, settings_of}
use Rattle.ty_rounds.specs.Holding.{AllMid}
use Rattle.ty_rounds.specs.Peers.{has_link, is_called, numbers}
use Rattle.ty_rounds.specs.Ready.{AreIntroduced, Each, FewUnread, FewWaiting, IsCalm, LinksKnow}
use Rattle.ty_rounds.specs.Serving.{FillsTaken}
use Rattle.ty_rounds.specs.Works.{IsFit, Work, work}
use Rattle.ty_rounds.specs.declared.batch.Batch.{Batch}
use Rattle.ty_rounds.specs.declared.logging.Logged.{Logged}
use Rattle.ty_rounds.specs.declared.peer.Caller.{Caller}
use Rattle.ty_rounds.specs.declared.peer.Peer.{Peer}
use Rattle.ty_rounds.specs.declared.peer.Role.TheVariants.{Called}

-- the id was read
abbrev pub is_named : Look → Bool
is_named (Master id) = true
is_named _ = false

-- the line behind a step is what the first whole record behind the id left
abbrev pub LooksSo : Line → Line → Look → Type 0
LooksSo old new step = (step, new) ≡ looks old

-- ---- a record's request

-- what is held now is what the request makes of it, and it succeeded or didn't
pub record RedoneSo (known : Contents → Type 0) (w' : Walk) (ok : Bool) (s : Step) : Type 0 where
  pub contents : known s.contents
  pub walk_is : w' ≡ s.walk
  pub ok_is : ok ≡ s.ok

abbrev pub Redoes : {S B : Type 0} → space.Ghosts S → (B → Files → Contents → Type 0) → Record → Bool → B → B → S → S → Walk → Walk → Type 0
Redoes s holds r ok base base' old new w w' = OfHeld s holds base old (λ c. (q : Request) → update_in r.request ≡ Some q → RedoneSo (Held s holds base' new) w' ok (apply false q c w))

abbrev pub FullRedo : {S B : Type 0} → space.Ghosts S → (B → Files → Contents → Type 0) → (Contents → Contents → Type 0) → Record → B → S → Walk → Type 0
FullRedo s holds fills r base old w = OfHeld s holds base old (λ c. (q : Request) → update_in r.request ≡ Some q → fills c (apply false q c w).contents)

-- ---- what was looked at

-- these are its contents and its walk, a record that was taken and a gap are in the work, and the link is broken where it says so
pub record DealsSo (o' : Work) (broken : Bool) (known : Contents → Type 0) (w' : Walk) (d : Dealt) : Type 0 where
  pub contents : known d.contents
  pub walk_is : w' ≡ d.walk
  pub taken_is : o'.taken ≡ d.taken
  pub gap_is : o'.gap ≡ d.gap
  pub broken_is : broken ≡ d.broken

-- where no record was taken before and no gap met
abbrev pub Deals : {S B : Type 0} → space.Ghosts S → (B → Files → Contents → Type 0) → Look → Work → Work → Bool → B → B → S → S → Walk → Walk → Type 0
Deals s holds step o o' broken base base' old new w w' = o.taken ≡ [] → o.gap ≡ [] → OfHeld s holds base old (λ c. DealsSo o' broken (Held s holds base' new) w' (dealt step c w))

-- whatever is told: what was taken is the record of the step
abbrev pub Taken : Look → Work → Work → Type 0
Taken step o o' = o.taken ≡ [] → All (λ r. step ≡ Take r) o'.taken

-- behind what is bad the link is to be closed
abbrev pub IsOver : Look → Bool → Type 0
IsOver step broken = step ≡ Bad → broken ≡ true

-- the updates and the copies stay, and there is something to commit where there was; where no record had been taken, only if one was taken since
pub record SameRound (o o' : Work) : Type 0 where
  pub updates_is : o'.updates ≡ o.updates
  pub labels_is : o'.labels ≡ o.labels
  pub commits_is : o.taken ≡ [] → o'.taken ≡ [] → o'.commits ≡ o.commits
  pub taken_so : o'.commits ≡ false → (o.commits ≡ false) × (o'.taken ≡ o.taken)

-- a limit is reached in the request of a record that was to be taken
pub record FullTaken {S B : Type 0} (s : space.Ghosts S) (holds : B → Files → Contents → Type 0) (fills : Contents → Contents → Type 0) (step : Look) (base : B) (old : S) (w : Walk) : Type 0 where
  pub taken : Record
  pub is : step ≡ Take taken
  pub update : IsUpdate taken
  pub by : FullRedo s holds fills taken base old w

-- ---- the link

-- what was looked at behind its id was dealt with
pub record LooksBehind {S B : Type 0} (s : space.Ghosts S) (own : ℕ → Type 0) (layout : Files → Layout) (holds : B → Files → Contents → Type 0) (o o' : Work) (a b : Caller) (base base' : B) (old new : S) (w w' : Walk) : Type 0 where
  pub line : b.link ≡ (looks a.link).1
  pub broken : Bool
  pub broken_is : b.broken ≡ (a.broken || broken)
  pub deals : Deals s holds (looks a.link).0 o o' broken base base' old new w w'
  pub taken : Taken (looks a.link).0 o o'
  pub takes : TakesUpdate (looks a.link).0
  pub bad : IsOver (looks a.link).0 broken
  pub fewer : length b.link.unread ≤ length a.link.unread
  pub same : SameRound o o'
  pub ready : holding.IsReady s holds base' new
  pub leaves : Leaves s own layout (o'.commits ≡ false) old new

abbrev pub FullLook : {S B : Type 0} → space.Ghosts S → (B → Files → Contents → Type 0) → (Contents → Contents → Type 0) → Caller → B → S → Walk → Type 0
FullLook s holds fills a base old w = FullTaken s holds fills (looks a.link).0 base old w

-- so it is of the connection that is the link
pub record LooksPeer {S B : Type 0} (s : space.Ghosts S) (own : ℕ → Type 0) (layout : Files → Layout) (holds : B → Files → Contents → Type 0) (o o' : Work) (p q : Peer) (base base' : B) (old new : S) (w w' : Walk) : Type 0 where
  pub was : Caller
  pub caller : Caller
  pub role_is : p.role ≡ Called was
  pub is : q ≡ record p { role = Called caller; stirs = true }
  pub behind : LooksBehind s own layout holds o o' was caller base base' old new w w'

abbrev pub FullPeer : {S B : Type 0} → space.Ghosts S → (B → Files → Contents → Type 0) → (Contents → Contents → Type 0) → Peer → B → S → Walk → Type 0
FullPeer s holds fills p base old w = (a : Caller) → p.role ≡ Called a → FullLook s holds fills a base old w

-- the first link among them
pub record IsLinkAt (ps : List Peer) (i : ℕ) : Type 0 where
  pub front : List Peer
  pub link : Peer
  pub back : List Peer
  pub parts : ps ≡ front ++ link ∷ back
  pub at : length front ≡ i
  pub is : is_called link.role ≡ true
  pub first : has_link front ≡ false

-- ---- all

-- on a replica the link is looked at
abbrev pub looked_by : Book → Contents → Walk → List Client → Looked
looked_by b c w ks = if is_replica b.is then look_all b.is.own (held b) c w ks else record { dealt_is = unmoved c w false; clients = ks }

pub record DealsAll (b : Book) (o' : Work) (known : Contents → Type 0) (w' : Walk) (ps' : List Peer) (x : Looked) : Type 0 where
  pub contents : known x.dealt_is.contents
  pub walk_is : w' ≡ x.dealt_is.walk
  pub taken_is : o'.taken ≡ x.dealt_is.taken
  pub gap_is : o'.gap ≡ x.dealt_is.gap
  pub each : AllMid b ps' x.clients

-- behind the clients' part
pub record Looks {S B : Type 0} (s : space.Ghosts S) (own : ℕ → Type 0) (layout : Files → Layout) (holds : B → Files → Contents → Type 0) (l : Option Logged) (o o' : Work) (base base' : B) (old new : S) (w w' : Walk) (ps ps' : List Peer) : Type 0 where
  pub numbers : numbers ps' ≡ numbers ps
  pub unread : Each FewUnread ps → Each FewUnread ps'
  pub waiting : Each FewWaiting ps → Each FewWaiting ps'
  pub calm : Each IsCalm ps → Each IsCalm ps'
  pub links : LinksKnow l ps → LinksKnow l ps'
  pub introduced : LinksKnow l ps → AreIntroduced ps'
  pub fit : LinksKnow l ps → IsFit l o → IsFit l o'
  pub same : SameRound o o'
  pub ready : holding.IsReady s holds base' new
  pub leaves : Leaves s own layout (o'.commits ≡ false) old new
  pub each : (c : Contents) → Held s holds base old c → (b : Book) (ks : List Client) → b.is ≡ settings_of l → AllMid b ps ks → DealsAll b o' (Held s holds base' new) w' ps' (looked_by b c w ks)

-- from batch to batch
abbrev pub LooksAs : {S B : Type 0} → space.Ghosts S → (ℕ → Type 0) → (Files → Layout) → (B → Files → Contents → Type 0) → Option Logged → Batch → Batch → B → B → S → S → Walk → Walk → List Peer → List Peer → Type 0
LooksAs s own layout holds l a b base base' old new w w' ps ps' = Looks s own layout holds l (work a) (work b) base base' old new w w' ps ps'

-- a limit is reached in the request of the record that the link brought
abbrev pub FullLinks : {S B : Type 0} → space.Ghosts S → (B → Files → Contents → Type 0) → (S → S → Contents → Contents → Type 0) → Option Logged → B → S → S → Walk → List Peer → Type 0
FullLinks s holds fills l base old new w ps = OfHeld s holds base old (λ c. (b : Book) (ks : List Client) → b.is ≡ settings_of l → AllMid b ps ks → FillsTaken b.is b.records (fills old new) c w ks)
