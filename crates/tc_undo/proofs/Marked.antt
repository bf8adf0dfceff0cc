-- All data files are marked.
use Rattle.std.proofs.Common.{◌≡◌, ℕ, List, get_or, replicate, Bool, true, false}
use Rattle.std.proofs.lemmas.List.{get_or-replicate}
use Rattle.ud_log.specs.Undo.{is_data, place_of}
use Rattle.ud_log.proofs.Logs.{place_low}

abbrev all : List Bool
all = replicate 18 true

pub all_marked : (f : ℕ) → is_data f ≡ true → get_or all (place_of f) false ≡ false → ⊥
all_marked f isd not = let there : get_or all (place_of f) false ≡ true = get_or-replicate 18 (place_of f) true false (place_low f isd) in absurd cc
