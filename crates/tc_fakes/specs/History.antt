-- A history of calls, the oldest first.
use Rattle.std.specs.Prelude.{◌≡◌, ℕ, List, [], ◌∷◌, ◌++◌, map, reverse, slice_index_or, slice_set}
use Rattle.std.proofs.Common.{ap, ◌∙◌}
use Rattle.std.proofs.lemmas.List.{map-append, reverse-append}
use Rattle.tc_io.specs.Images.{Step, loaded, written, cut_to, synced, Calls}
use Rattle.tc_fakes.specs.Chosen.{made, left}
use Rattle.tc_fakes.specs.declared.choice.Choice.{Choice}
use Rattle.tc_fakes.specs.declared.changes.Change.{Change}
use Rattle.tc_fakes.specs.declared.changes.Change.TheVariants.{Loaded, Written, CutTo, Synced}
use Rattle.tc_fakes.specs.declared.changes.Call.{Call}

abbrev pub step_of : Change → Step
step_of (Loaded bytes) = loaded bytes
step_of (Written at bytes) = written at bytes
step_of (CutTo len) = cut_to len
step_of Synced = synced

abbrev pub call_of : Call → ℕ × Step
call_of c = (c.file, step_of c.change)

-- what a call makes of files that are numbered from 0
abbrev pub made_in : Call → List (List ℕ) → List (List ℕ)
made_in c files = slice_set files c.file (made (step_of c.change) (slice_index_or files c.file []))

-- what a stop leaves of images by a call, where the files read this
abbrev pub left_in : Choice → Call → List (List ℕ) → List (List ℕ) → List (List ℕ)
left_in choice c reads images = slice_set images c.file (left choice (step_of c.change) (slice_index_or reads c.file []) (slice_index_or images c.file []))

-- the calls of a history, the newest first
abbrev pub calls_of : List Call → Calls
calls_of history = reverse (map call_of history)

pub calls_push : (history : List Call) (c : Call) → calls_of (history ++ c ∷ []) ≡ call_of c ∷ calls_of history
calls_push history c = ap (λ (l : Calls). reverse l) (map-append call_of history (c ∷ [])) ∙ reverse-append (map call_of history) (call_of c ∷ [])
