-- What a volume in memory keeps of its copies.
use Rattle.std.specs.Prelude.{◌≡◌, ℕ, List, [], ◌∷◌, if◌then◌else◌}
use Rattle.tc_base.specs.Texts.{is_text}
use Rattle.tc_io.specs.Images.{Calls, Step}
use Rattle.tc_fakes.specs.History.{calls_of}
use Rattle.tc_fakes.specs.declared.changes.Call.{Call}
use Rattle.tc_fakes.specs.declared.copied.CopyCall.{CopyCall}

-- the calls on the copy under a label
abbrev pub those : List ℕ → List CopyCall → List Call
those label [] = []
those label (c ∷ cs) = if is_text c.label label then c.call ∷ those label cs else those label cs

-- the newest first
abbrev pub copy_calls : List CopyCall → List ℕ → Calls
copy_calls cs label = calls_of (those label cs)

-- a call was made on the copy under a label
abbrev pub Makes : List ℕ → ℕ × Step → List CopyCall → List CopyCall → Type 0
Makes label call old new = (l : List ℕ) → l ≡ label → copy_calls new l ≡ call ∷ copy_calls old l

-- every other copy stays
abbrev pub OthersKept : List ℕ → List CopyCall → List CopyCall → Type 0
OthersKept label old new = (l : List ℕ) → (l ≡ label → ⊥) → copy_calls new l ≡ copy_calls old l
