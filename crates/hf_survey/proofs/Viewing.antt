-- What a pass asks for, in a space that reads as it did.
use Rattle.std.proofs.Common.{ℕ, ◌≤◌, List, length, sym, subst}
use Rattle.tc_space.specs.Frames.{OnlyReads}
use Rattle.tc_space.specs.declared.space.Space.{Ghosts}
use Rattle.hf_head.specs.declared.head.Head.{Head}
use Rattle.tc_space.specs.Ranges.{IsDataFile}
use Rattle.tc_reach.specs.declared.window.Window.{Window}
use Rattle.tc_reach.specs.Windows.{Shows}
use Rattle.hf_survey.specs.Passes.{HasBuckets, Looks}

pub buckets_at : {S : Type 0} (s : Ghosts S) (h : Head) (file : ℕ) (old new : S) → OnlyReads s old new → HasBuckets s h old file → HasBuckets s h new file
buckets_at s h file old new reads has = record { valid = has.valid; inside = λ t. subst (λ (l : List ℕ). h.first ≤ length l) (sym (reads.files t file)) (has.inside t) }

pub looks_on : {S : Type 0} (s : Ghosts S) (file : ℕ) (old new : S) (w : Window) → OnlyReads s old new → IsDataFile file → (s.tells → Shows w (s.now old file)) → Looks s new file w
looks_on s file old new w reads is shows = record { sound = reads.is_sound; data_file = is; shows = λ t. subst (λ (l : List ℕ). Shows w l) (sym (reads.files t file)) (shows t) }
