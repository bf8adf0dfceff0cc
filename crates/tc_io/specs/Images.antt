-- What calls make of files, and what a stop between or within them may leave.
use Rattle.std.specs.Prelude.{◌≡◌, ◌⊎◌, ℕ, ◌+◌, ◌-◌, ◌<◌, ◌≤◌, List, [], ◌∷◌, length, take, drop, nat_eq, if◌then◌else◌}
use Rattle.tc_base.specs.Bytes.{IsBytes}
use Rattle.tc_base.specs.Files.{Files, wrote}

-- what is done to one file
pub data Step : Type 0 where
  loaded : (bytes : List ℕ) → Step
  written : (at : ℕ) (bytes : List ℕ) → Step
  cut_to : (len : ℕ) → Step
  synced : Step
  -- a call failed; from here on the file reads so
  lost : (reads : List ℕ) → Step

-- what the file reads; the newest step stands first
abbrev pub reads : List Step → List ℕ
reads [] = []
reads (loaded bytes ∷ s) = bytes
reads (written at bytes ∷ s) = wrote at bytes (reads s)
reads (cut_to len ∷ s) = take len (reads s)
reads (synced ∷ s) = reads s
reads (lost r ∷ s) = r

-- what a write that was stopped may make of an image: its bytes below the image's length may be any, and where it begins
-- inside the image or at its end, a front of what it has past that end may stand there
pub record Torn (at : ℕ) (bytes old new : List ℕ) : Type 0 where
  pub no_shorter : length old ≤ length new
  pub before : take at new ≡ take at old
  pub behind : drop (at + length bytes) (take (length old) new) ≡ drop (at + length bytes) old
  pub grown : at ≤ length old → drop (length old) new ≡ take (length new - length old) (drop (length old - at) bytes)
  pub beyond : length old < at → new ≡ old
  pub are_bytes : IsBytes old → IsBytes bytes → IsBytes new

-- what a stop may leave of the file: its images
abbrev pub Image : List Step → List ℕ → Type 0
Image [] i = i ≡ []
Image (loaded bytes ∷ s) i = i ≡ bytes
Image (written at bytes ∷ s) i = (j : List ℕ) × Image s j × Torn at bytes j i
Image (cut_to len ∷ s) i = (j : List ℕ) × Image s j × ((i ≡ j) ⊎ (i ≡ take len j))
Image (synced ∷ s) i = i ≡ reads s
Image (lost r ∷ s) i = Image s i

-- calls on all files, the newest first
abbrev pub Calls : Type 0
Calls = List (ℕ × Step)

-- the steps of one file
abbrev pub of : ℕ → Calls → List Step
of f [] = []
of f (c ∷ cs) = if nat_eq c.0 f then c.1 ∷ of f cs else of f cs

-- the files as they read
abbrev pub now : Calls → Files
now cs f = reads (of f cs)

-- one image for each file
abbrev pub Images : Calls → Files → Type 0
Images cs ims = (f : ℕ) → Image (of f cs) (ims f)

-- images at some moment from that one on
abbrev pub ImagesSince : Calls → ℕ → Files → Type 0
ImagesSince [] t ims = Images [] ims
ImagesSince (c ∷ cs) t ims = Images (c ∷ cs) ims ⊎ ((t ≤ length cs) × ImagesSince cs t ims)

-- a call that was made and failed, and left the file reading something
pub record WasLost (old new : Calls) (file : ℕ) (step : Step) : Type 0 where
  pub reads : List ℕ
  pub is : new ≡ (file, lost reads) ∷ (file, step) ∷ old

pub record WasLostSync (old new : Calls) (file : ℕ) : Type 0 where
  pub reads : List ℕ
  pub is : new ≡ (file, lost reads) ∷ old

-- a call that failed: it wasn't made, or it was, and the file reads something. That it wasn't, and the file reads something else, is within the
-- second: each earlier image is among those that the write or the cut leaves
abbrev pub IsLost : Calls → Calls → ℕ → Step → Type 0
IsLost old new file step = (new ≡ old) ⊎ WasLost old new file step

-- a sync that failed: the earlier images, among which is the one that the sync made leaves
abbrev pub IsLostSync : Calls → Calls → ℕ → Type 0
IsLostSync old new file = (new ≡ old) ⊎ WasLostSync old new file
