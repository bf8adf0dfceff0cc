-- What a map has at a key that was put.
use Rattle.std.proofs.Common.{◌≡◌, ◌∙◌, ℕ, List, ap, cond}
use Rattle.std.specs.Prelude.{Some}
use Rattle.std.specs.FinMap.{get, insert, get-insert}
use Rattle.std.specs.Ordering.{is_eq}
use Rattle.std.specs.Cmp.{tied_itself}
use Rattle.std.specs.Cmp.Lexicographic.{nat_list_cmp_total}
use Rattle.tc_base.specs.Maps.{Map}

pub get_put : (m : Map) (key value : List ℕ) → get (insert m key value) key ≡ Some value
get_put m key value = get-insert nat_list_cmp_total m key value key ∙ ap (λ o. cond (is_eq o) (Some value) (get m key)) (tied_itself nat_list_cmp_total key)
