-- Pages of a file that were read.
use Rattle.std.specs.Prelude.{◌≡◌, ◌≢◌, ◌⊎◌, ℕ, ◌+◌, ◌*◌, ◌<◌, ◌≤◌, List, [], length, take, drop, slice_index_or, Option, Some}
use Rattle.tc_base.specs.Files.{wrote}
use Rattle.tc_realfs.specs.Changes.{PutsOver, SameOutside}
use Rattle.tc_realfs.specs.declared.pages.Page.{Page}
use Rattle.tc_realfs.specs.declared.pages.Pages.{Pages}
use Rattle.tc_realfs.specs.declared.pages.Spot.{Spot}

-- the number of the page in a slot
abbrev pub number : ℕ → Page → ℕ
number slot page = page.turn * 24576 + slot

-- this page is there
pub record IsIn (slot : ℕ) (page : Page) (pages : Pages) : Type 0 where
  pub low : slot < length pages.slots.items
  pub is : page ≡ slice_index_or pages.slots.items slot page

-- the bytes of a page are those of this file
pub record ShowsIn (slot : ℕ) (page : Page) (file : List ℕ) : Type 0 where
  pub same : page.bytes.items ≡ take (length page.bytes.items) (drop (number slot page * 4096) file)

-- the bytes of all pages are those of this file
pub record Shows (pages : Pages) (file : List ℕ) : Type 0 where
  pub each : (slot : ℕ) (page : Page) → IsIn slot page pages → ShowsIn slot page file

-- ---- what is told of a file before a call and after it

-- so many bytes at a place of the file, where it is told
abbrev pub Reads : Option (List ℕ) → ℕ → ℕ → List ℕ → Type 0
Reads told at n bytes = (file : List ℕ) → told ≡ Some file → bytes ≡ take n (drop at file)

-- where the pages are those of the file
abbrev pub ReadsShown : Pages → Option (List ℕ) → ℕ → ℕ → List ℕ → Type 0
ReadsShown pages told at n bytes = (file : List ℕ) → told ≡ Some file → Shows pages file → bytes ≡ take n (drop at file)

-- pages of a file stay pages of it
abbrev pub StillShows : Pages → Pages → Type 0
StillShows old new = (file : List ℕ) → Shows old file → Shows new file

-- where it is told
abbrev pub StillShowsTold : Option (List ℕ) → Pages → Pages → Type 0
StillShowsTold told old new = (file : List ℕ) → told ≡ Some file → Shows old file → Shows new file

-- where it has these bytes in the page of that number
abbrev pub TakesPage : ℕ → List ℕ → Pages → Pages → Type 0
TakesPage n bytes old new = (file : List ℕ) → bytes ≡ take (length bytes) (drop (n * 4096) file) → Shows old file → Shows new file

-- pages of a file are pages of it with these bytes written over it
abbrev pub ShowsWrite : ℕ → List ℕ → Pages → Pages → Type 0
ShowsWrite at bytes old new = (file : List ℕ) → at ≤ length file → Shows old file → Shows new (wrote at bytes file)

-- pages of a file are pages of what it becomes by changes between two places
abbrev pub ShowsOutside : ℕ → ℕ → Pages → Pages → Type 0
ShowsOutside from until old new = (before after : List ℕ) → SameOutside from until before after → Shows old before → Shows new after

-- ---- pages

-- no bytes of the page of this number are there
pub record Lacks (n : ℕ) (pages : Pages) : Type 0 where
  pub each : (slot : ℕ) (page : Page) → IsIn slot page pages → number slot page ≡ n → page.bytes.items ≡ []

-- where a place of the file lies
pub record IsSpot (spot : Spot) (at : ℕ) : Type 0 where
  pub slot : spot.slot < 24576
  pub skip : spot.skip < 4096
  pub at_is : at ≡ (spot.turn * 24576 + spot.slot) * 4096 + spot.skip

-- a page as it was, or without its bytes
pub record IsLeft (old new : Page) : Type 0 where
  pub turn : new.turn ≡ old.turn
  pub bytes : (new.bytes.items ≡ old.bytes.items) ⊎ (new.bytes.items ≡ [])

-- a page with these bytes over its own, if it is the one of that turn
pub record IsPut (turn skip : ℕ) (bytes : List ℕ) (old new : Page) : Type 0 where
  pub turn_is : new.turn ≡ old.turn
  pub here : old.turn ≡ turn → PutsOver skip bytes old.bytes.items new.bytes.items
  pub elsewhere : old.turn ≢ turn → new.bytes.items ≡ old.bytes.items
