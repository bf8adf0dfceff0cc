-- What is true of every connection of a run.
use Rattle.std.specs.Prelude.{◌≡◌, ◌<◌, ℕ, Bool, true, false, List, [], ◌∷◌, ◌++◌, length}
use Rattle.std.specs.List.{list_any}
use Rattle.ty_memc.specs.Grammar.{Spells}
use Rattle.ty_ulog.specs.declared.record.Record.{Record}
use Rattle.ty_ulog.specs.Log.{log_bytes, above}
use Rattle.ty_world.specs.Clients.{Client, Role, of_client, of_feed, to_master, is_client, is_link}
use Rattle.ty_world.specs.Fold.{IsLine}
use Rattle.ty_world.specs.Frames.{Stands, HasNone}
use Rattle.ty_world.specs.Logs.{is_replica}
use Rattle.ty_world.specs.World.{World}

-- what came is spellings of the pieces placed, and then the unread bytes
pub record ArePlaced (k : Client) : Type 0 where
  pub front : List ℕ
  pub parts : k.input ≡ front ++ k.unread
  pub stand : Stands Spells k.placed front

abbrev pub SpelledAs : Role → Client → Type 0
SpelledAs of_client k = ArePlaced k
SpelledAs (of_feed above base) k = ArePlaced k
SpelledAs (to_master named broken) k = IsLine k.input named k.unread

-- of a client and a feed so; of the link the id, and whole records
abbrev pub IsSpelled : Client → Type 0
IsSpelled k = SpelledAs k.role k

abbrev pub EachSpelled : List Client → Type 0
EachSpelled [] = Unit {0}
EachSpelled (k ∷ ks) = IsSpelled k × EachSpelled ks

abbrev pub AllSpelled : World → Type 0
AllSpelled w = EachSpelled w.there × EachSpelled w.past

-- no whole piece is left unserved, and all that is owed was sent
pub record IsAnswered (k : Client) : Type 0 where
  pub none : HasNone Spells k.unread
  pub told : k.out ≡ k.owed

-- of a client whose peer isn't gone
abbrev pub EachAnswered : List Client → Type 0
EachAnswered [] = Unit {0}
EachAnswered (k ∷ ks) = (k.gone ≡ false → is_client k.role ≡ true → IsAnswered k) × EachAnswered ks

abbrev pub AllAnswered : World → Type 0
AllAnswered w = EachAnswered w.there × EachAnswered w.past

-- all that is owed was sent, but to one above 64
abbrev pub EachSent : List Client → Type 0
EachSent [] = Unit {0}
EachSent (k ∷ ks) = (k.extra ≡ false → k.out ≡ k.owed) × EachSent ks

abbrev pub AllSent : World → Type 0
AllSent w = EachSent w.there × EachSent w.past

-- what was sent is a front of what is owed
abbrev pub AllFine : List Client → Type 0
AllFine [] = Unit {0}
AllFine (k ∷ ks) = ((rest : List ℕ) × (k.owed ≡ k.out ++ rest)) × AllFine ks

abbrev pub IsFine : World → Type 0
IsFine w = AllFine w.there × AllFine w.past

-- it takes bytes, and its last send took all
pub record IsGoing (k : Client) : Type 0 where
  pub here : k.gone ≡ false
  pub going : k.stopped ≡ false

abbrev pub AllGoing : List Client → Type 0
AllGoing [] = Unit {0}
AllGoing (k ∷ ks) = IsGoing k × AllGoing ks

-- ---- feeds

-- a feed is owed what it was by then, and the bytes of each record above its timestamp
abbrev pub FedAs : List Record → Role → Client → Type 0
FedAs rs of_client k = Unit {0}
FedAs rs (of_feed stamp base) k = k.owed ≡ base ++ log_bytes (above stamp rs)
FedAs rs (to_master named broken) k = Unit {0}

abbrev pub EachFed : List Record → List Client → Type 0
EachFed rs [] = Unit {0}
EachFed rs (k ∷ ks) = FedAs rs k.role k × EachFed rs ks

-- of one that was closed: the records above its timestamp of a front of the records
pub record WasFed (rs : List Record) (stamp : ℕ) (base : List ℕ) (k : Client) : Type 0 where
  pub held : List Record
  pub later : List Record
  pub parts : rs ≡ held ++ later
  pub owed : k.owed ≡ base ++ log_bytes (above stamp held)

abbrev pub WasFedAs : List Record → Role → Client → Type 0
WasFedAs rs of_client k = Unit {0}
WasFedAs rs (of_feed stamp base) k = WasFed rs stamp base k
WasFedAs rs (to_master named broken) k = Unit {0}

abbrev pub EachWasFed : List Record → List Client → Type 0
EachWasFed rs [] = Unit {0}
EachWasFed rs (k ∷ ks) = WasFedAs rs k.role k × EachWasFed rs ks

-- ---- the update log

-- file 2, the records and the clock are as they were
pub record NotesNothing (w v : World) : Type 0 where
  pub file : v.log ≡ w.log
  pub records_are : v.records ≡ w.records
  pub ticks_are : v.ticks ≡ w.ticks

-- ---- the link

-- fewer than four bytes of a link came whose id wasn't read, but where it is to be closed
abbrev pub IntroducedAs : Role → Client → Type 0
IntroducedAs of_client k = Unit {0}
IntroducedAs (of_feed above base) k = Unit {0}
IntroducedAs (to_master true broken) k = Unit {0}
IntroducedAs (to_master false true) k = Unit {0}
IntroducedAs (to_master false false) k = length k.unread < 4

abbrev pub AllIntroduced : List Client → Type 0
AllIntroduced [] = Unit {0}
AllIntroduced (k ∷ ks) = IntroducedAs k.role k × AllIntroduced ks

abbrev pub is_a_link : Client → Bool
is_a_link k = is_link k.role

abbrev pub NoLink : List Client → Type 0
NoLink ks = list_any is_a_link ks ≡ false

-- one of them alone is a link
abbrev pub Single : List Client → Type 0
Single [] = Unit {0}
Single (k ∷ ks) = (is_link k.role ≡ true → NoLink ks) × Single ks

-- one link at most is there, none without a master
pub record Introduced (w : World) : Type 0 where
  pub single : Single w.there
  pub alone : is_replica w.is ≡ false → NoLink w.there
  pub short : AllIntroduced w.there

-- ---- numbers

abbrev pub AllBelow : ℕ → List Client → Type 0
AllBelow given [] = Unit {0}
AllBelow given (k ∷ ks) = (k.conn < given) × AllBelow given ks

abbrev pub AllAbove : ℕ → List Client → Type 0
AllAbove c [] = Unit {0}
AllAbove c (k ∷ ks) = (c < k.conn) × AllAbove c ks

abbrev pub Ascends : List Client → Type 0
Ascends [] = Unit {0}
Ascends (k ∷ ks) = AllAbove k.conn ks × Ascends ks

-- those that are there ascend, and each number is below the next that may be given
pub record AreInOrder (w : World) : Type 0 where
  pub ascend : Ascends w.there
  pub there : AllBelow w.given w.there
  pub past : AllBelow w.given w.past
