-- What the steps of a turn do to the worlds that the server stands for.
use Rattle.std.specs.Prelude.{◌≡◌, ◌⊎◌, ◌≤◌, ◌<◌, ◌^◌, ℕ, suc, Bool, true, false, List, [], ◌∷◌, ◌++◌, map, Option, Some, None, Result, Ok, Err, All, IfErr, IsErrOf, OnOk}
use Rattle.tc_base.specs.Files.{Files}
use Rattle.tc_io.specs.Told.{Adds}
use Rattle.tc_io.specs.Script.{Plays}
use Rattle.tc_io.specs.Lines.{open_after, given_after, open_dialled, given_dialled}
use Rattle.tc_io.specs.declared.wire.Wire as wire
use Rattle.tc_io.specs.declared.wire.Ev.{Ev}
use Rattle.tc_io.specs.declared.wire.Ev.TheVariants as event
use Rattle.tc_io.specs.declared.wire.Entry.{Entry}
use Rattle.tc_io.specs.declared.wire.Dialled.{Dialled}
use Rattle.tc_io.specs.declared.wire.Entry.TheVariants.{Open, Dial, Event, Send, Close}
use Rattle.tc_space.specs.Frames.{Keeps, OnlyReads}
use Rattle.tc_space.specs.Moments.{LeavesOnly, Steady}
use Rattle.tc_space.specs.declared.space.Space as space
use Rattle.tc_model.specs.Contents.{Contents}
use Rattle.ty_world.specs.World.{Client, World, Mark, mark_of, heard, unstopped, world_after, commits_in, labels_in, should_pause, is_some_waiting, is_due, IsMaster, IsRested, AreFinishing, AllAsked, Comes, AllCame}
use Rattle.ty_ulog.specs.Noting.{Lacks}
use Rattle.ty_world.specs.Logs.{Settings}
use Rattle.ty_rounds.specs.Books.{Book, IsBook, KnowsLog, settings_of}
use Rattle.ty_rounds.specs.Copying.{AreMade, OnlyCopies, RoundCopies}
use Rattle.ty_rounds.specs.Kept.{HoldsMark, Reopens, StandFor}
use Rattle.ty_rounds.specs.Keeping.{ReopensLog}
use Rattle.ty_rounds.specs.Serving.{FillsIn}
use Rattle.ty_rounds.specs.Holding.{AllHold, AllGoing, IsFine, State, book_of, Stands, Same}
use Rattle.ty_rounds.specs.Ready.{AreIntroduced, Each, IsCalm, KeepsLinks, LinksKnow, NoneOver, StayFew}
use Rattle.ty_rounds.specs.declared.logging.Logged.{Logged}
use Rattle.ty_rounds.specs.declared.peer.Peer.{Peer}
use Rattle.ty_rounds.specs.declared.outcome.Outcome.{Outcome}
use Rattle.ty_rounds.specs.declared.outcome.Outcome.TheVariants.{Went, Gap, Shut}
use Rattle.ty_rounds.specs.declared.outcome.TurnErr.{TurnErr}
use Rattle.ty_rounds.specs.declared.outcome.TurnErr.TheVariants.{Volume, Full, Wire, Memory}

-- what a wire tells: its transcript
abbrev pub Told : Type 0
Told = Option (List Entry)

-- a dial, where one was made
pub record Call : Type 0 where
  pub host : List ℕ
  pub port : ℕ
  pub answer : Dialled

abbrev pub entries_of : List Call → List Entry
entries_of [] = []
entries_of (d ∷ ds) = Dial d.host d.port d.answer ∷ entries_of ds

-- none or one
abbrev pub AreFew : List Call → Type 0
AreFew [] = Unit {0}
AreFew (d ∷ ds) = ds ≡ []

-- each to the master's address
abbrev pub ToMaster : Option (List ℕ × ℕ) → List Call → Type 0
ToMaster master [] = Unit {0}
ToMaster master (d ∷ ds) = IsMaster master d.host d.port × ToMaster master ds

abbrev pub conns_after : List ℕ → List Call → List ℕ
conns_after conns [] = conns
conns_after conns (d ∷ ds) = conns_after (open_dialled conns d.answer) ds

abbrev pub given_behind : ℕ → List Call → ℕ
given_behind given [] = given
given_behind given (d ∷ ds) = given_behind (given_dialled given d.answer) ds

-- a world behind the dial
pub record Called (w v : World) : Type 0 where
  pub is_same : v.is ≡ w.is
  pub contents : v.contents ≡ w.contents
  pub walk : v.walk ≡ w.walk
  pub log : v.log ≡ w.log
  pub records : v.records ≡ w.records
  pub ticks : v.ticks ≡ w.ticks
  pub marks : v.marks ≡ w.marks
  pub copies : v.copies ≡ w.copies
  pub looked : v.looked ≡ w.looked
  pub past : v.past ≡ w.past
  pub gaps : v.gaps ≡ w.gaps
  pub shut : v.shut ≡ w.shut
  pub events : v.events ≡ w.events
  pub opens : v.opens ≡ w.opens

-- the master was dialled where that was due, and is due no more
pub record DialsTo (ps' : List Peer) (w v : World) (es : List Entry) : Type 0 where
  pub same : Called w v
  pub asked : AllAsked w es
  pub came : AllCame w es
  pub each : AllHold (book_of w) ps' v.there
  pub rested : IsRested v
  pub done : is_due v ≡ false

module _ {W : Type 0} (g : wire.Ghosts W) where
  pub record Dials (l : Option Logged) (due : Bool) (x y : W) (ps ps' : List Peer) : Type 0 where
    pub calls : List Call
    pub few : AreFew calls
    pub to_master : ToMaster (settings_of l).master calls
    pub told : Adds (g.transcript x) (g.transcript y) (entries_of calls)
    pub plays : Plays (g.plays x) (g.plays y) (entries_of calls)
    pub conns : g.conns y ≡ conns_after (g.conns x) calls
    pub given : (n : ℕ) → n ≤ g.given x → given_behind n calls ≤ g.given y
    pub ends : (w : World) → IsBook l (book_of w) w.log → w.due ≡ due → AllHold (book_of w) ps w.there → IsRested w → w.given ≤ g.given x → DialsTo ps' w (world_after (entries_of calls) w) (entries_of calls)
    pub stay : NoneOver ps → NoneOver ps' × StayFew ps ps'
    pub calm : Each IsCalm ps → Each IsCalm ps'
    pub links : LinksKnow l ps → LinksKnow l ps'
    pub introduced : AreIntroduced ps → AreIntroduced ps'

  -- `next` was called once, with those that wait paused and busily where there are any
  pub record Asks (x y : W) (ps : List Peer) (ev : Ev) : Type 0 where
    pub paused : List ℕ
    pub busy : Bool
    pub bytes : List ℕ
    pub told : Adds (g.transcript x) (g.transcript y) (Event paused busy ev bytes ∷ [])
    pub plays : Plays (g.plays x) (g.plays y) (Event paused busy ev bytes ∷ [])
    pub asked : (b : Book) (w : World) → AllHold b ps w.there → (paused ≡ should_pause w) × (busy ≡ is_some_waiting w)
    pub came : (given : ℕ) → given ≤ g.given x → Comes given busy ev bytes
    pub above : (given : ℕ) → given ≤ g.given x → given_after given ev ≤ g.given y

  -- and the server took the event in
  pub record Hears (x y : W) (ps ps' : List Peer) (ev : Ev) : Type 0 where
    pub asks : Asks x y ps ev
    pub conns : g.conns y ≡ open_after (g.conns x) ev
    pub holds : (b : Book) (ks : List Client) → AllHold b ps ks → AllHold b ps' (heard (map unstopped ks) ev asks.bytes)
    pub few : NoneOver ps → AreIntroduced ps → StayFew ps ps'
    pub calm : Each IsCalm ps → Each IsCalm ps'
    pub links : (l : Option Logged) → LinksKnow l ps → LinksKnow l ps'

  -- nothing was asked for, or it was and there was no memory to take the event in
  abbrev pub HearErr : W → W → List Peer → TurnErr → Type 0
  HearErr x y ps Volume = ⊥
  HearErr x y ps Full = ⊥
  HearErr x y ps Wire = Adds (g.transcript x) (g.transcript y) []
  HearErr x y ps Memory = Adds (g.transcript x) (g.transcript y) [] ⊎ ((ev : Ev) × Asks x y ps ev)

-- sends and closings
pub record Finished (ok : Result (Unit {0}) TurnErr) (ps' : List Peer) (w v : World) (es : List Entry) : Type 0 where
  pub same : Same w v
  pub fine : IsFine v
  pub asked : AllAsked w es
  pub came : AllCame w es
  pub done : OnOk ok (AllHold (book_of w) ps' v.there × IsRested v)

pub record Finishes {S W : Type 0} (s : space.Ghosts S) (g : wire.Ghosts W) (l : Option Logged) (old new : S) (x y : W) (ok : Result (Unit {0}) TurnErr) (ps ps' : List Peer) : Type 0 where
  pub entries : List Entry
  pub told : Adds (g.transcript x) (g.transcript y) entries
  pub plays : OnOk ok (Plays (g.plays x) (g.plays y) entries)
  pub calls : AreFinishing (g.conns x) entries
  pub given : g.given y ≡ g.given x
  pub ends : (w : World) → KnowsLog s l old (book_of w) → AllHold (book_of w) ps w.there → AllGoing w.there → IsFine w → Finished ok ps' w (world_after entries w) entries
  pub reads : OnlyReads s old new
  pub few : OnOk ok (NoneOver ps' × StayFew ps ps' × Each IsCalm ps')
  pub links : OnOk ok (KeepsLinks ps ps')

-- ---- the turn

-- these entries are a dial, where one was made, and an event in whose round a limit was reached, or in what that adds to the update log
pub record FullTurn (fills : Contents → Contents → Type 0) (lacks : ℕ → ℕ → Type 0) (known : Mark → Type 0) (given : ℕ) (v : State) (es : List Entry) (ticks : List ℕ) : Type 0 where
  pub calls : List Call
  pub paused : List ℕ
  pub busy : Bool
  pub ev : Ev
  pub bytes : List ℕ
  pub is : es ≡ entries_of calls ++ Event paused busy ev bytes ∷ []
  pub some : (w : World) (later : List ℕ) → Stands known given v w → w.shut ≡ false → w.ticks ≡ ticks ++ later → FillsIn fills lacks (world_after (entries_of calls) w) ev bytes

-- ---- which calls of the wire it made, whether anything is told or not

-- an event alone
pub record IsLone (es : List Entry) : Type 0 where
  pub paused : List ℕ
  pub busy : Bool
  pub ev : Ev
  pub bytes : List ℕ
  pub is : es ≡ Event paused busy ev bytes ∷ []

-- an event, then sends, then closings, of those that are open
pub record IsWhole (conns : List ℕ) (ev : Ev) (es : List Entry) : Type 0 where
  pub paused : List ℕ
  pub busy : Bool
  pub bytes : List ℕ
  pub behind : List Entry
  pub is : es ≡ Event paused busy ev bytes ∷ behind
  pub finishing : AreFinishing (open_after conns ev) behind

-- where an update log is kept, sends may stand in front of a failure to read it
abbrev pub or_later : Bool → Type 0 → Type 0 → Type 0
or_later false A B = A
or_later true A B = A ⊎ B

abbrev pub IsAnyWhole : List ℕ → List Entry → Type 0
IsAnyWhole conns es = (ev : Ev) × IsWhole conns ev es

-- where there was no more room nothing was sent; where there was no memory, or the volume failed, but to those before a feed
abbrev pub EndsTurn : Bool → List ℕ → Result Outcome TurnErr → List Entry → Type 0
EndsTurn logs conns (Ok Went) es = (ev : Ev) × IsWhole conns ev es × (ev ≡ event.Shut → ⊥)
EndsTurn logs conns (Ok (Gap h follows)) es = (ev : Ev) × IsWhole conns ev es × (ev ≡ event.Shut → ⊥)
EndsTurn logs conns (Ok Shut) es = IsWhole conns event.Shut es
EndsTurn logs conns (Err Wire) es = (es ≡ []) ⊎ IsAnyWhole conns es
EndsTurn logs conns (Err Memory) es = (es ≡ []) ⊎ or_later logs (IsLone es) (IsAnyWhole conns es)
EndsTurn logs conns (Err Volume) es = or_later logs (IsLone es) (IsAnyWhole conns es)
EndsTurn logs conns (Err Full) es = IsLone es

-- a dial at most in front
pub record IsTurn (is : Settings) (conns : List ℕ) (result : Result Outcome TurnErr) (es : List Entry) : Type 0 where
  pub calls : List Call
  pub few : AreFew calls
  pub to_master : ToMaster is.master calls
  pub behind : List Entry
  pub parts : es ≡ entries_of calls ++ behind
  pub ends : EndsTurn is.logs (conns_after conns calls) result behind

-- ---- what it does to the worlds that the server stands for

-- how a turn ended that came to its end
abbrev pub went : List (ℕ × ℕ) → Outcome
went [] = Went
went (g ∷ gs) = Gap g.0 g.1

abbrev pub outcome_of : Ev → List (ℕ × ℕ) → Outcome
outcome_of (event.Opened c) gaps = went gaps
outcome_of (event.Read c n) gaps = went gaps
outcome_of (event.Ended c) gaps = went gaps
outcome_of event.Quiet gaps = went gaps
outcome_of event.Shut gaps = Shut

-- with no update log only the wire may fail
abbrev pub WireAlone : Option Logged → Result (Unit {0}) TurnErr → Type 0
WireAlone None result = IfErr result (λ e. e ≡ Wire)
WireAlone (Some l) result = Unit {0}

-- without a master no gap is met
abbrev pub MeetsFor : Settings → Outcome → Type 0
MeetsFor is Went = Unit {0}
MeetsFor is (Gap held follows) = is.master ≡ None → ⊥
MeetsFor is Shut = Unit {0}

-- a send stands among them
abbrev pub has_send : List Entry → Bool
has_send [] = false
has_send (Open at ∷ es) = has_send es
has_send (Dial host port answer ∷ es) = has_send es
has_send (Event paused busy ev bytes ∷ es) = has_send es
has_send (Send c bytes answer ∷ es) = true
has_send (Close c ∷ es) = has_send es

-- it came to its end, or to its sends; where the wire failed before them, no round was made
abbrev pub CameToSends : Result Outcome TurnErr → List Entry → Type 0
CameToSends (Ok x) es = Unit {0}
CameToSends (Err Wire) es = Unit {0}
CameToSends (Err e) es = has_send es ≡ true

-- files stand for the mark after the round or the one before, and where an update log is kept, it is one
abbrev pub ReopensEither : (Files → Contents → Type 0) → World → World → Option Files → Type 0
ReopensEither reopens w v o = ReopensLog reopens (book_of v) o (mark_of v) ⊎ ReopensLog reopens (book_of w) o (mark_of w)

-- so does what a stop leaves at any moment
pub record LeavesEither {S : Type 0} (s : space.Ghosts S) (reopens : Files → Contents → Type 0) (old new : S) (w v : World) : Type 0 where
  pub leaves : LeavesOnly s.moment s.left old new (ReopensEither reopens w v)

-- one mark more where the contents were updated
pub record MarksMore (w v : World) : Type 0 where
  pub more : ((v.marks ≡ w.marks) × (mark_of v ≡ mark_of w)) ⊎ (v.marks ≡ mark_of v ∷ w.marks)

-- the copies of the round: whatever is left of them is told by the files that it kept; those of a turn that came to its sends are made
pub record TurnCopies {S : Type 0} (s : space.Ghosts S) (result : Result Outcome TurnErr) (old new : S) (labels : List (List ℕ)) (es : List Entry) : Type 0 where
  pub copies : s.tells → RoundCopies (s.now new) labels (s.names old) (s.names new)
  pub made : CameToSends result es → s.tells → AreMade (s.now new) labels (s.names new)

module _ {S : Type 0} (s : space.Ghosts S) (reopens : Files → Contents → Type 0) where
  -- where there is nothing to commit, nothing is committed, and a turn that came to its sends has written nothing
  abbrev pub Idles : Result Outcome TurnErr → S → S → Type 0
  Idles (Ok x) old new = OnlyReads s old new
  Idles (Err Wire) old new = OnlyReads s old new
  Idles (Err Memory) old new = Keeps s old new
  Idles (Err Volume) old new = Keeps s old new
  Idles (Err Full) old new = Keeps s old new

  -- where it has copies to make, it wrote nothing else; however it ended, what is kept stays
  abbrev pub OnlyCopied : Result Outcome TurnErr → S → S → Type 0
  OnlyCopied (Ok x) old new = OnlyCopies s old new
  OnlyCopied (Err Wire) old new = OnlyCopies s old new
  OnlyCopied (Err Memory) old new = s.tells → Steady s.moment s.files_at s.left s.kept old new
  OnlyCopied (Err Volume) old new = s.tells → Steady s.moment s.files_at s.left s.kept old new
  OnlyCopied (Err Full) old new = s.tells → Steady s.moment s.files_at s.left s.kept old new

  -- what a stop at the exit leaves stands for the mark after the round; where nothing was sent, for that or for the one before
  abbrev pub TurnEnds : Result Outcome TurnErr → S → (Mark → Type 0) → ℕ → State → World → World → Type 0
  TurnEnds (Ok Went) new known given b w v = Stands known given b v × (v.shut ≡ false) × (v.events ≡ suc w.events) × (v.gaps ≡ w.gaps)
  TurnEnds (Ok (Gap h follows)) new known given b w v = Stands known given b v × (v.shut ≡ false) × (v.events ≡ suc w.events) × (v.gaps ≡ w.gaps ++ (h, follows) ∷ [])
  TurnEnds (Ok Shut) new known given b w v = Stands known given b v × (v.shut ≡ true) × (v.events ≡ suc w.events) × (v.gaps ≡ w.gaps)
  TurnEnds (Err Wire) new known given b w v = (o : Option Files) → s.left new (s.moment new) o → ReopensLog reopens (book_of v) o (mark_of v)
  TurnEnds (Err Memory) new known given b w v = (o : Option Files) → s.left new (s.moment new) o → ReopensEither reopens w v o
  TurnEnds (Err Volume) new known given b w v = (o : Option Files) → s.left new (s.moment new) o → ReopensEither reopens w v o
  TurnEnds (Err Full) new known given b w v = (o : Option Files) → s.left new (s.moment new) o → ReopensEither reopens w v o

  pub record Turned (result : Result Outcome TurnErr) (later : List ℕ) (old new : S) (known : Mark → Type 0) (given : ℕ) (b : State) (w v : World) (es : List Entry) : Type 0 where
    -- the wire was asked as the world says
    pub asked : AllAsked w es
    pub came : AllCame w es
    -- each connection was sent a front of what it is owed
    pub fine : IsFine v
    pub marks : MarksMore w v
    pub opens : v.opens ≡ w.opens
    -- the clock was asked once for each record
    pub ticks : OnOk result (v.ticks ≡ later)
    -- a stop at any moment leaves what stands for the mark before the round or after it, with its log
    pub moments : LeavesEither s reopens old new w v
    pub idle : commits_in w es ≡ false → labels_in w es ≡ [] → Idles result old new
    pub only : commits_in w es ≡ false → OnlyCopied result old new
    pub copies : TurnCopies s result old new (labels_in w es) es
    -- no copy was begun, and none was to be made where it came to its sends; or the files stand for the mark after the round
    pub copied : s.tells → ((s.names new ≡ s.names old) × (CameToSends result es → labels_in w es ≡ [])) ⊎ StandFor reopens (s.now new) (mark_of v)
    -- once anything was sent, a stop leaves what stands for the mark after the round alone
    pub late : has_send es ≡ true → (o : Option Files) → s.left new (s.moment new) o → Reopens reopens o (mark_of v)
    pub ends : TurnEnds result new known given b w v

pub record Turns {S B W : Type 0} (s : space.Ghosts S) (g : wire.Ghosts W) (holds : B → Files → Contents → Type 0) (reopens : Files → Contents → Type 0) (result : Result Outcome TurnErr) (base base' : B) (old new : S) (x y : W) (a b : Option (List ℕ)) (v v' : State) : Type 0 where
  pub entries : List Entry
  pub told : Adds (g.transcript x) (g.transcript y) entries
  pub plays : OnOk result (Plays (g.plays x) (g.plays y) entries)
  pub calls : IsTurn (settings_of v.logged) (g.conns x) result entries
  -- what the clock answered
  pub ticks : List ℕ
  pub clocked : Adds a b ticks
  pub small : All (λ t. t < 2 ^ 64) ticks
  -- nothing, where no update log is kept
  pub unticked : (settings_of v.logged).logs ≡ false → ticks ≡ []
  pub ends : (w : World) (later : List ℕ) → Stands (HoldsMark s holds reopens base old) (g.given x) v w → w.shut ≡ false → w.ticks ≡ ticks ++ later → Turned s reopens result later old new (HoldsMark s holds reopens base' new) (g.given y) v' w (world_after entries w) entries

-- and where a limit was reached, it was before anything was sent, with the same answers of the clock
pub record TurnsFull {S B W : Type 0} (s : space.Ghosts S) (g : wire.Ghosts W) (holds : B → Files → Contents → Type 0) (reopens : Files → Contents → Type 0) (fills : S → S → Contents → Contents → Type 0) (result : Result Outcome TurnErr) (base base' : B) (old new : S) (x y : W) (a b : Option (List ℕ)) (v v' : State) : Type 0 where
  pub turns : Turns s g holds reopens result base base' old new x y a b v v'
  pub full : IsErrOf result Full → FullTurn (fills old new) (Lacks s new) (HoldsMark s holds reopens base old) (g.given x) v turns.entries turns.ticks
