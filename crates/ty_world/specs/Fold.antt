-- What update records make of contents, and a replica of a list of them.
use Rattle.std.specs.Prelude.{◌≡◌, ◌⊎◌, ℕ, Bool, true, false, List, [], ◌∷◌, ◌++◌, Option, Some, None, length}
use Rattle.tc_base.specs.Bytes.{IsBytes}
use Rattle.tc_base.specs.declared.request.Request.{Request}
use Rattle.tc_model.specs.Contents.{Contents}
use Rattle.tc_model.specs.Apply.{apply}
use Rattle.ty_ulog.specs.declared.record.Record.{Record}
use Rattle.ty_ulog.specs.Updates.{update_in}
use Rattle.ty_ulog.specs.Records.{Fits}
use Rattle.ty_ulog.specs.Log.{log_bytes}
use Rattle.tc_io.specs.declared.wire.Entry.{Entry}
use Rattle.ty_world.specs.Logs.{is_replica}
use Rattle.ty_world.specs.Clients.{Role, of_client, of_feed, to_master}
use Rattle.ty_world.specs.World.{Client, World, Mark, happens}

abbrev pub redo : Option Request → Contents → Contents
redo None c = c
redo (Some q) c = (apply false q c None).contents

-- the requests of records applied in order
abbrev pub fold : Contents → List Record → Contents
fold c [] = c
fold c (r ∷ rs) = fold (redo (update_in r.request) c) rs

-- a replica holds a front of a list, and what that front makes of the first contents
pub record IsFrontOf (m : List Record) (first : Contents) (c : Contents) (log : List Record) : Type 0 where
  pub rest : List Record
  pub front : m ≡ log ++ rest
  pub contents : c ≡ fold first log

-- the same of a mark, by the bytes of file 2
pub record IsMarkOf (m : List Record) (first : Contents) (k : Mark) : Type 0 where
  pub log : List Record
  pub front : IsFrontOf m first k.contents log
  pub file : k.log ≡ log_bytes log

abbrev pub AllMarksOf : List Record → Contents → List Mark → Type 0
AllMarksOf m first [] = Unit {0}
AllMarksOf m first (k ∷ ks) = IsMarkOf m first k × AllMarksOf m first ks

-- one of the list
abbrev pub IsIn : {A : Type 0} → A → List A → Type 0
IsIn x [] = ⊥
IsIn x (y ∷ ys) = (x ≡ y) ⊎ IsIn x ys

abbrev pub AllIn : List Record → List Record → Type 0
AllIn [] m = Unit {0}
AllIn (r ∷ rs) m = IsIn r m × AllIn rs m

abbrev pub EachFits : List Record → Type 0
EachFits [] = Unit {0}
EachFits (r ∷ rs) = Fits r × EachFits rs

-- what came of the link is the master's id, once that was read, whole records, and then the unread bytes
pub record IsLine (input : List ℕ) (named : Bool) (unread : List ℕ) : Type 0 where
  pub id : List ℕ
  pub looked : List Record
  pub parts : input ≡ id ++ (log_bytes looked ++ unread)
  pub fit : EachFits looked
  pub id_is : ((named ≡ true) × (length id ≡ 4)) ⊎ ((named ≡ false) × (id ≡ []) × (looked ≡ []))

-- each whole record in the link's bytes, behind the id, is one of the list
abbrev pub Speaks : List Record → Role → List ℕ → Type 0
Speaks m of_client input = Unit {0}
Speaks m (of_feed above base) input = Unit {0}
Speaks m (to_master named broken) input = (id rest : List ℕ) (rs : List Record) → length id ≡ 4 → EachFits rs → input ≡ id ++ (log_bytes rs ++ rest) → AllIn rs m

abbrev pub EachSpeaks : List Record → List Client → Type 0
EachSpeaks m [] = Unit {0}
EachSpeaks m (k ∷ ks) = Speaks m k.role k.input × EachSpeaks m ks

-- at each moment of the run
abbrev pub AlwaysOf : List Record → World → List Entry → Type 0
AlwaysOf m w [] = EachSpeaks m w.there
AlwaysOf m w (e ∷ es) = EachSpeaks m w.there × AlwaysOf m (happens w e) es

-- ---- a replica

-- what came of a link is its line
abbrev pub LineRight : Role → Client → Type 0
LineRight of_client k = Unit {0}
LineRight (of_feed above base) k = Unit {0}
LineRight (to_master named broken) k = IsLine k.input named k.unread × IsBytes k.unread

abbrev pub EachRight : List Client → Type 0
EachRight [] = Unit {0}
EachRight (k ∷ ks) = LineRight k.role k × EachRight ks

-- its update log is a front of the list, and its contents are what that front makes of the first, now and at each mark
pub record Follows (m : List Record) (first : Contents) (w : World) : Type 0 where
  pub replica : is_replica w.is ≡ true
  pub logs : w.is.logs ≡ true
  pub front : IsFrontOf m first w.contents w.records
  pub file : w.log ≡ log_bytes w.records
  pub marks : AllMarksOf m first w.marks
  pub right : EachRight w.there
