-- Bytes that were read ahead, and writes behind one another.
use Rattle.std.proofs.Common.{◌≡◌, ◌∙◌, ℕ, ◌+◌, ◌≤◌, List, [], ◌++◌, length, take, drop, sym, ap, arith}
use Rattle.std.proofs.lemmas.List.{places, same_lists}
use Rattle.tc_base.specs.Files.{wrote}
use Rattle.tc_realfs.specs.Gathering.{ShowsAhead}
use Rattle.tc_realfs.specs.declared.ahead.Ahead.{Ahead}

-- no bytes were read
pub none_ahead : (ahead : Ahead) (file : List ℕ) → ahead.bytes.items ≡ [] → ShowsAhead ahead file
none_ahead ahead file none = record { same = none ∙ ap (λ (l : List ℕ). take (length l) (drop ahead.start file)) (sym none) }

pub joins : (at : ℕ) (first second file : List ℕ) → at ≤ length file → wrote (at + length first) second (wrote at first file) ≡ wrote at (first ++ second) file
unfolding wrote
joins at first second file inside = same_lists _ _ (grind (arith, places)) (λ i d h. grind (arith, places))
