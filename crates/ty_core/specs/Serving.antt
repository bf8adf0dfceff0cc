-- What serving the piece at the front of the unread bytes does.
use Rattle.std.specs.Prelude.{◌≡◌, ◌≤◌, ◌+◌, ℕ, Bool, true, false, List, [], ◌∷◌, ◌++◌, ◌&&◌, length, drop, Ok, Option, Some, None, if◌then◌else◌}
use Rattle.std.specs.Option.{ForSome}
use Rattle.tc_base.specs.Files.{Files}
use Rattle.tc_base.specs.declared.kind.Form.{Form}
use Rattle.tc_base.specs.declared.kind.Form.TheVariants.{Keep}
use Rattle.tc_base.specs.Labels.{is_label}
use Rattle.tc_base.specs.declared.request.Request.{Request}
use Rattle.tc_base.specs.declared.request.Request.TheVariants.{Repl}
use Rattle.tc_space.specs.declared.space.Space.{Ghosts}
use Rattle.ty_wire.specs.Spelling.{spelling, Fits}
use Rattle.ty_memc.specs.declared.text.Text.{Text}
use Rattle.ty_memc.specs.declared.text.Text.TheVariants as text
use Rattle.ty_memc.specs.declared.text.Piece.{Piece}
use Rattle.ty_memc.specs.declared.text.Piece.TheVariants as piece
use Rattle.ty_memc.specs.Answers.{then_by}
use Rattle.ty_memc.specs.Fitting.{ThenFits}
use Rattle.ty_memc.specs.Grammar.{Spells, piece_at}
use Rattle.tc_model.specs.Contents.{Contents, Walk}
use Rattle.tc_model.specs.Apply.{updates}
use Rattle.tc_model.specs.Packing.{is_optimize}
use Rattle.ty_base.specs.Holding.{FillsAll, Held, TightHeld, may_write}
use Rattle.ty_pieces.specs.Pieces.{Done, done}
use Rattle.ty_ulog.specs.Updates.{IsUpdating}
use Rattle.ty_core.specs.Queues.{Queue}
use Rattle.ty_core.specs.declared.serving.Feed.{Feed}
use Rattle.ty_core.specs.declared.serving.Served.{Served}
use Rattle.ty_core.specs.declared.taking.Taken.{Taken}

-- the feed that a piece asks for
abbrev pub feed_of : Piece → Option Feed
feed_of (piece.Request (Repl timestamp server)) = Some (record { above = timestamp; server = server })
feed_of _ = None

-- the most bytes that a reply has, where this feed is asked for: none where one is
abbrev pub reply_most : Option Feed → ℕ
reply_most None = 67108864
reply_most (Some feed) = 0

-- ---- which pieces may write files

abbrev pub text_writes : Text → Bool
text_writes (text.Get keys) = false
text_writes text.Version = false
text_writes text.Other = false
text_writes _ = true

abbrev pub piece_writes : Piece → Bool
piece_writes (piece.Request r) = may_write r
piece_writes (piece.Text t) = text_writes t

abbrev pub piece_packs : Piece → Bool
piece_packs (piece.Request r) = is_optimize r
piece_packs (piece.Text t) = false

-- ---- taken off the bytes

-- the bytes begin with the piece
pub record Begins (x : Piece) (unread : List ℕ) : Type 0 where
  pub rest : List ℕ
  pub front : piece_at unread ≡ Ok (x, rest)

-- a piece of so many bytes stands at their front
pub record IsWhole (whole : ℕ) (unread : List ℕ) : Type 0 where
  pub read : (x : Piece) × (whole ≤ length unread) × (piece_at unread ≡ Ok (x, drop whole unread))

-- the bytes of a request that may update, where they are asked for. Of a text command they are its request's, which isn't known yet
abbrev pub is_kept : Bool → Piece → Bool
is_kept logs (piece.Request r) = logs && updates r
is_kept logs (piece.Text t) = false

abbrev pub spelled_as : Piece → List ℕ
spelled_as (piece.Request r) = spelling r
spelled_as (piece.Text t) = []

abbrev pub copy_of : Bool → Piece → Option (List ℕ)
copy_of logs x = if is_kept logs x then Some (spelled_as x) else None

-- whatever value each key has, what a text command asks for is within the limits of requests
abbrev pub AsksFit : Text → Type 0
AsksFit t = (look : List ℕ → Option (List ℕ)) → ThenFits (then_by look t)

-- within its limits
abbrev pub PieceFits : Piece → Type 0
PieceFits (piece.Request r) = Fits r
PieceFits (piece.Text t) = AsksFit t

-- what is known of a piece that was taken off, whichever bytes it stood among
pub record MayServe (t : Taken) (logs : Bool) : Type 0 where
  pub fits : PieceFits t.piece
  pub copied : t.copied ≡ copy_of logs t.piece

-- the piece was taken off the bytes, and its own are kept where they are asked for and may be of use
pub record IsTaken (t : Taken) (logs : Bool) (unread unread' : List ℕ) : Type 0 where
  pub front : piece_at unread ≡ Ok (t.piece, unread')
  pub text : List ℕ
  pub spells : Spells t.piece text
  pub spelled : unread ≡ text ++ unread'
  pub may : MayServe t logs

-- the piece is the one that the bytes begin with, by its reading and by its spelling, and the others are left
pub record TakesOff (x : Piece) (d : Served) (unread unread' : List ℕ) : Type 0 where
  pub front : piece_at unread ≡ Ok (x, unread')
  pub text : List ℕ
  pub spells : Spells x text
  pub spelled : unread ≡ text ++ unread'
  pub feeds : d.feeds ≡ feed_of x

-- ---- served

abbrev pub entries : Option (List ℕ) → List (List ℕ)
entries None = []
entries (Some x) = x ∷ []

-- whatever is told: bytes are given back only where they were asked for and there is something to commit, not on a replica, and they are those of one updating request; a label is one
pub record Notes (replica logs : Bool) (d : Served) : Type 0 where
  pub asked : logs ≡ false → d.update ≡ None
  pub blocked : replica ≡ true → d.update ≡ None
  pub idle : d.commits ≡ false → d.update ≡ None
  pub noted : ForSome d.update IsUpdating
  pub labelled : ForSome d.copy (λ l. is_label l ≡ true)

-- what it makes of the database is what the abstract one does with it, and its reply waits
pub record Serves (logs : Bool) (e : Done) (d : Served) (c : Contents) (w : Walk) (waiting waiting' : List ℕ) : Type 0 where
  pub contents : c ≡ e.made.contents
  pub walk : w ≡ e.made.walk
  pub waiting_is : waiting' ≡ waiting ++ e.reply
  pub commits : d.commits ≡ e.made.commits
  pub update : logs ≡ true → entries d.update ≡ e.made.updates
  pub copy : entries d.copy ≡ e.made.labels

-- whatever was held, what a piece makes of that is held now. At most one reply more waits, whatever is told
pub record ServesPiece {S B : Type 0} (s : Ghosts S) (holds : B → Files → Contents → Type 0) (replica logs : Bool) (x : Piece) (d : Served) (base base' : B) (old new : S) (w w' : Walk) (waiting waiting' : List ℕ) : Type 0 where
  pub feeds : d.feeds ≡ feed_of x
  pub notes : Notes replica logs d
  pub few : length waiting' ≤ length waiting + reply_most d.feeds
  pub serves : (c : Contents) → Held s holds base old c → (e : Contents) × Held s holds base' new e × Serves logs (done replica x c w) d e w' waiting waiting'

-- the same of a request, whichever bytes of it were copied
abbrev pub ServesRequest : {S B : Type 0} → Ghosts S → (B → Files → Contents → Type 0) → Bool → Request → Option (List ℕ) → Served → B → B → S → S → Walk → Walk → List ℕ → List ℕ → Type 0
ServesRequest s holds replica r copied d base base' old new w w' waiting waiting' = (logs : Bool) → copied ≡ copy_of logs (piece.Request r) → ServesPiece s holds replica logs (piece.Request r) d base base' old new w w' waiting waiting'

-- the piece at the front was served
pub record ServesFront {S B : Type 0} (s : Ghosts S) (holds : B → Files → Contents → Type 0) (replica logs : Bool) (d : Served) (base base' : B) (old new : S) (w w' : Walk) (unread unread' waiting waiting' : List ℕ) : Type 0 where
  pub piece : Piece
  pub takes : TakesOff piece d unread unread'
  pub served : ServesPiece s holds replica logs piece d base base' old new w w' waiting waiting'

-- the same of a piece that was taken off
abbrev pub ServesTaken : {S B : Type 0} → Ghosts S → (B → Files → Contents → Type 0) → Taken → Bool → Bool → Served → B → B → S → S → Walk → Walk → List ℕ → List ℕ → Type 0
ServesTaken s holds t replica logs d base base' old new w w' waiting waiting' = ServesPiece s holds replica logs t.piece d base base' old new w w' waiting waiting'

-- the same of a connection's queues
abbrev pub ServesQueue : {S B : Type 0} → Ghosts S → (B → Files → Contents → Type 0) → Bool → Bool → Served → B → B → S → S → Walk → Walk → Queue → Queue → Type 0
ServesQueue s holds replica logs d base base' old new w w' q q' = ServesFront s holds replica logs d base base' old new w w' q.unread q'.unread q.waiting q'.waiting

-- ---- a limit

-- a limit is reached, where a piece may write, between contents and what it makes of them; where it packs the files, that of the undo log
pub record FillsPiece {S B : Type 0} (s : Ghosts S) (holds : B → Files → Contents → Type 0) (fills : Contents → Contents → Type 0) (replica : Bool) (x : Piece) (base : B) (old : S) (w : Walk) : Type 0 where
  pub writes : piece_writes x ≡ true
  pub packs : piece_packs x ≡ true → s.tells → FillsAll fills
  pub by : (c : Contents) → Held s holds base old c → fills c (done replica x c w).made.contents

-- where the piece is the one that the bytes begin with
pub record FillsFront {S B : Type 0} (s : Ghosts S) (holds : B → Files → Contents → Type 0) (fills : Contents → Contents → Type 0) (replica : Bool) (base : B) (old : S) (w : Walk) (unread : List ℕ) : Type 0 where
  pub piece : Piece
  pub begins : Begins piece unread
  pub full : FillsPiece s holds fills replica piece base old w

-- ---- packed

-- where a piece packs files, they were packed in the form that they have, from what they were
abbrev pub TightPiece : {S B : Type 0} → Ghosts S → (B → Files → Contents → Type 0) → (B → Files → Form → Files → Type 0) → Piece → B → B → S → S → Type 0
TightPiece s holds tight x base base' old new = piece_packs x ≡ true → TightHeld s holds tight Keep base base' old new

-- where the piece is the one that the bytes begin with
pub record TightFront {S B : Type 0} (s : Ghosts S) (holds : B → Files → Contents → Type 0) (tight : B → Files → Form → Files → Type 0) (base base' : B) (old new : S) (unread : List ℕ) : Type 0 where
  pub piece : Piece
  pub begins : Begins piece unread
  pub packs : TightPiece s holds tight piece base base' old new
