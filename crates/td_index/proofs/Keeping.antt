-- What searches leave of a map and of a list.
use Rattle.std.proofs.Common.{◌≡◌, ◌∙◌, ℕ, List, refl, arith}
use Rattle.tc_base.specs.declared.kind.Form.{Form}
use Rattle.tc_space.specs.Lists.{Made, StaysList, StaysPacked}
use Rattle.tc_space.specs.Stores.{CountsGet}
use Rattle.tc_space.specs.declared.records.Records as records
use Rattle.tc_space.specs.declared.multi.Multi as multi
use Rattle.td_index.specs.Checks.{StaysBoth, StaysRows}
use Rattle.td_index.proofs.Listed.{stays_refl, stays_then}

module _ {S R : Type 0} (r : records.Ghosts R S) where
  pub counts_stay : (v w : R) → CountsGet r.file_of r.sort r.numbers r.region r.lead r.gets v w → StaysRows r v w
  counts_stay v w counts = record { file = counts.file; sort = counts.sort_same; numbers = counts.numbers_same; region = counts.region_same; lead = counts.leads }

  pub rows_stay : (v : R) → StaysRows r v v
  rows_stay v = record { file = refl; sort = refl; numbers = refl; region = refl; lead = omega arith }

  pub rows_then : (u v w : R) → StaysRows r u v → StaysRows r v w → StaysRows r u w
  rows_then u v w first second = record { file = second.file ∙ first.file; sort = second.sort ∙ first.sort; numbers = second.numbers ∙ first.numbers; region = second.region ∙ first.region; lead = omega (arith, first.lead, second.lead) }

pub packed_stays : {V : Type 0} (file_of : V → ℕ) (made : V → Made) (lead : V → ℕ) (tight : V → List ℕ → Form → List ℕ → Type 0) (t u : V) → StaysPacked file_of made lead tight t u → StaysList file_of made lead t u
packed_stays file_of made lead tight t u stays = record { file = stays.file; made_same = stays.made_same; leads = stays.leads }

module _ {S R M O : Type 0} (r : records.Ghosts R S) (m : multi.Ghosts M S O) where
  pub both_stay : (v : R × M) → StaysBoth r m v v
  both_stay v = record { rows = rows_stay r v.0; tree = stays_refl m.file_of m.made m.lead v.1 }

  pub both_then : (u v w : R × M) → StaysBoth r m u v → StaysBoth r m v w → StaysBoth r m u w
  both_then u v w first second = record { rows = rows_then r u.0 v.0 w.0 first.rows second.rows; tree = stays_then m.file_of m.made m.lead u.1 v.1 w.1 first.tree second.tree }
