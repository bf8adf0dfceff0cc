-- What a volume in memory keeps.
use Rattle.std.specs.Prelude.{◌≡◌, ◌⊎◌, ℕ, List, [], ◌∷◌, ◌++◌, Some, unwrap_or}
use Rattle.tc_io.specs.Causes.{Rose}
use Rattle.tc_io.specs.Copies.{Named}
use Rattle.tc_io.specs.Images.{Calls, Step}
use Rattle.tc_fakes.specs.Copied.{Makes, OthersKept, copy_calls}
use Rattle.tc_fakes.specs.History.{calls_of}
use Rattle.tc_fakes.specs.declared.mem_volume.MemVolume.{MemVolume}

-- the calls that changed a file, the newest first
abbrev pub kept : MemVolume → Calls
kept v = calls_of v.disk.history.items

-- the names that it was given, the label bound last, and the calls on each copy
abbrev pub named : MemVolume → Named
named v = record { told = Some v.names.items; label = v.copied.label; copies = copy_calls v.copied.calls.items }

-- names, copies and whether it is bound stay
pub record SameNames (old new : MemVolume) : Type 0 where
  pub names : new.names ≡ old.names
  pub bound : new.bound ≡ old.bound
  pub copied : new.copied ≡ old.copied

-- the label bound last, or that of no bytes
abbrev pub bound_label : MemVolume → List ℕ
bound_label v = unwrap_or v.copied.label []

-- the calls on the copy under it
abbrev pub copy_kept : MemVolume → Calls
copy_kept v = copy_calls v.copied.calls.items (bound_label v)

-- all but the copies and the label stays
pub record SameFiles (old new : MemVolume) : Type 0 where
  pub names : new.names ≡ old.names
  pub bound : new.bound ≡ old.bound
  pub kept_same : kept new ≡ kept old

-- besides the copies under other labels, and the label
pub record OnlyCopied (old new : MemVolume) : Type 0 where
  pub files : SameFiles old new
  pub label : new.copied.label ≡ old.copied.label
  pub others : OthersKept (bound_label old) old.copied.calls.items new.copied.calls.items

-- a call was made on the copy whose label was bound last
pub record CallsCopy (call : ℕ × Step) (old new : MemVolume) : Type 0 where
  pub made : Makes (bound_label old) call old.copied.calls.items new.copied.calls.items

-- it was given a name
abbrev pub Names : MemVolume → MemVolume → List ℕ → Type 0
Names old new name = new.names.items ≡ old.names.items ++ name ∷ []

-- exactly where it wasn't starved
abbrev pub NamesUnstarved : MemVolume → MemVolume → List ℕ → Type 0
NamesUnstarved old new name =
    (Rose old.counts.starved new.counts.starved × (new.names.items ≡ old.names.items)) ⊎ ((new.counts.starved ≡ old.counts.starved) × Names old new name)
