-- Contents without any key hold none, so no key of a walk is held.
use Rattle.std.proofs.Common.{◌≡◌, ◌∙◌, ℕ, Bool, false, cond, if◌then◌else◌, List, [], ◌∷◌, length, Option, Some, None, is_some, option_map, refl, ap, sym, arith}
use Rattle.std.specs.Prelude.{slice_get, option_and_then}
use Rattle.std.specs.Cmp.Lexicographic.{slice_cmp}
use Rattle.std.specs.Ordering.{nat_cmp}
use Rattle.std.specs.FinMap.{get, len, empty, empty_of_len, get-empty}
use Rattle.std.proofs.lemmas.List.{nil_from_length}
use Rattle.tc_base.specs.Lists as list
use Rattle.tc_base.specs.declared.seq.Pair.{Pair}
use Rattle.tc_model.specs.Arrays.{id_of}
use Rattle.tc_model.specs.Rows.{row_text}
use Rattle.tc_model.specs.Contents.{Contents, hash, tree, fixed, table}
use Rattle.tc_model.specs.Stores.{count, is_held}
use Rattle.tc_model.specs.Apply.{next_of}

none_held : (c : Contents) (key : List ℕ) → count c ≡ 0 → is_held c key ≡ false
none_held (hash memory m) key none = ap is_some (ap (λ x. get x key) (empty_of_len m none) ∙ get-empty (slice_cmp nat_cmp) key)
none_held (tree memory decimal ps) key none = ap (λ (l : List Pair). is_some (list.first l key)) (nil_from_length ps none)
none_held (fixed width most ids) key none = go (id_of most ids key)
  where
    go : (o : Option ℕ) → is_some (option_and_then (λ id. get ids id) o) ≡ false
    go None = refl
    go (Some id) = ap is_some (ap (λ x. get x id) (empty_of_len ids none) ∙ get-empty nat_cmp id)
none_held (table rows indexes) key none = ap (λ o. is_some (option_map row_text o)) (ap (λ x. get x key) (empty_of_len rows none) ∙ get-empty (slice_cmp nat_cmp) key)

pub none_next : (c : Contents) (keys : List (List ℕ)) → count c ≡ 0 → next_of c keys ≡ None
none_next c [] none = refl
none_next c (key ∷ rest) none = ap (λ (b : Bool). if b then Some (key, rest) else next_of c rest) (none_held c key none) ∙ none_next c rest none
