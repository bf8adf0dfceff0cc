-- How many rows there are.
use Rattle.std.proofs.Common.{◌≡◌, ℕ, zero, suc, ◌<◌, ◌≤◌, ◌⊎◌, List, [], ◌∷◌, ◌++◌, length, map, refl, sym, ap, ◌∙◌, subst, inl, inr, ⊎_elim, arith}
use Rattle.std.proofs.lemmas.Bool.{cases_eq, cases_lt}
use Rattle.bt_rows.specs.declared.page.LeafAt.{LeafAt}
use Rattle.bt_rows.specs.declared.page.Slot.{Slot}
use Rattle.bt_rows.specs.Orders.{Before}
use Rattle.bt_rows.specs.Pages.{PageMap}
use Rattle.bt_rows.specs.Rows.{root_slot, children_at, next_row, row}
use Rattle.bt_rows.specs.Levels.{NodeAt, leaf_slot, node_slot, all_children, LeadsDown, NodesHeld, LevelsHeld, Stands}
use Rattle.bt_rows.proofs.Standing.{rows_rules}
use Rattle.bt_check.specs.Walks.{IsHigh}
use Rattle.bt_check.proofs.Walked.{row_past}
use Rattle.bt_ways.specs.Ways.{node_children}
use Rattle.bt_ways.proofs.Rows.{turned, turn, length-turned, levels_turn}

below_nodes : (pages : PageMap) (L : List NodeAt) → NodesHeld pages L → next_row pages (map node_slot L) ≡ all_children L
below_nodes pages [] h = refl
below_nodes pages (n ∷ ns) h = ap (λ o. children_at n.slot o ++ next_row pages (map node_slot ns)) h.0 ∙ ap (λ (t : List Slot). node_children n ++ t) (below_nodes pages ns h.1)

row_down : (pages : PageMap) (Ls : List (List NodeAt)) (slots bottom : List Slot) → LeadsDown Ls slots bottom → LevelsHeld pages Ls → row pages (length Ls) slots ≡ bottom
row_down pages [] slots bottom d h = d
row_down pages (L ∷ Ls) slots bottom d h = ap (row pages (length Ls)) (ap (next_row pages) (sym d.0) ∙ below_nodes pages L h.0) ∙ row_down pages Ls (all_children L) bottom d.1 h.1

some_down : (Ls : List (List NodeAt)) (slots bottom : List Slot) → LeadsDown Ls slots bottom → 0 < length slots → 0 < length bottom
some_down [] slots bottom d lt = subst (λ (t : List Slot). 0 < length t) d lt
some_down (L ∷ Ls) slots bottom d lt = some_down Ls (all_children L) bottom d.1 (some L (subst (λ (t : List Slot). 0 < length t) (sym d.0) lt))
  where
    some : (L : List NodeAt) → 0 < length (map node_slot L) → 0 < length (all_children L)
    some [] lt = absurd (omega (arith, lt))
    some (n ∷ ns) lt = omega arith

-- so many rows are all
pub high_of : (before : Before) (pages : PageMap) (root : ℕ) (leaves : List LeafAt) (levels : List (List NodeAt)) → Stands before pages root leaves levels → IsHigh pages root (suc (length levels))
high_of before pages root leaves levels st = record {
  ends = (rows_rules before pages root leaves levels st).0.ends;
  last = λ k e. let same : k ≡ length levels = omega (arith, e) in subst (λ (n : ℕ). 0 < length (row pages n (root_slot root ∷ []))) (sym same) some;
}
  where
    down : LeadsDown (turned levels []) (root_slot root ∷ []) (map leaf_slot leaves)
    down = turn root levels [] (map leaf_slot leaves) (map leaf_slot leaves) st.up refl

    len : length (turned levels []) ≡ length levels
    len = length-turned levels [] ∙ omega arith

    last_row : row pages (length levels) (root_slot root ∷ []) ≡ map leaf_slot leaves
    last_row = ap (λ (n : ℕ). row pages n (root_slot root ∷ [])) (sym len) ∙ row_down pages (turned levels []) (root_slot root ∷ []) (map leaf_slot leaves) down (levels_turn pages levels [] st.nodes_held tt)

    some : 0 < length (row pages (length levels) (root_slot root ∷ []))
    some = subst (λ (t : List Slot). 0 < length t) (sym last_row) (some_down (turned levels []) (root_slot root ∷ []) (map leaf_slot leaves) down (omega arith))

-- and no other number
not_higher : (pages : PageMap) (root a b : ℕ) → IsHigh pages root a → IsHigh pages root b → a < b → ⊥
not_higher pages root a zero x y lt = omega (arith, lt)
not_higher pages root a (suc k) x y lt =
    let none : length (row pages k (root_slot root ∷ [])) ≡ 0 = ap (λ (t : List Slot). length t) (row_past pages a k (root_slot root ∷ []) x.ends (omega (arith, lt))) in
    omega (arith, none, y.last k refl)

pub high_one : (pages : PageMap) (root a b : ℕ) → IsHigh pages root a → IsHigh pages root b → a ≡ b
high_one pages root a b x y = ⊎_elim
    (λ (lt : a < b). absurd (not_higher pages root a b x y lt))
    (λ (le : b ≤ a). ⊎_elim (λ (gt : b < a). absurd (not_higher pages root b a y x gt)) (λ (ge : a ≤ b). omega (arith, le, ge)) (cases_lt b a))
    (cases_lt a b)

-- the rows of a tree are as many as the walk down counts
pub high_is : (before : Before) (pages : PageMap) (root height : ℕ) (leaves : List LeafAt) (levels : List (List NodeAt)) → IsHigh pages root height → Stands before pages root leaves levels → height ≡ suc (length levels)
high_is before pages root height leaves levels high st = go (cases_lt (length levels) height)
  where
    down : LeadsDown (turned levels []) (root_slot root ∷ []) (map leaf_slot leaves)
    down = turn root levels [] (map leaf_slot leaves) (map leaf_slot leaves) st.up refl

    len : length (turned levels []) ≡ length levels
    len = length-turned levels [] ∙ omega arith

    last : row pages (length levels) (root_slot root ∷ []) ≡ map leaf_slot leaves
    last = ap (λ (n : ℕ). row pages n (root_slot root ∷ [])) (sym len) ∙ row_down pages (turned levels []) (root_slot root ∷ []) (map leaf_slot leaves) down (levels_turn pages levels [] st.nodes_held tt)

    some : 0 < length (row pages (length levels) (root_slot root ∷ []))
    some = subst (λ (t : List Slot). 0 < length t) (sym last) (some_down (turned levels []) (root_slot root ∷ []) (map leaf_slot leaves) down (omega arith))

    ends : row pages (suc (length levels)) (root_slot root ∷ []) ≡ []
    ends = (rows_rules before pages root leaves levels st).0.ends

    gone : (k : ℕ) → row pages k (root_slot root ∷ []) ≡ [] → 0 < length (row pages k (root_slot root ∷ [])) → ⊥
    gone k none lt = omega (arith, lt, ap (λ (t : List Slot). length t) none)

    go : (length levels < height) ⊎ (height ≤ length levels) → height ≡ suc (length levels)
    go (inr le) = absurd (gone (length levels) (row_past pages height (length levels) (root_slot root ∷ []) high.ends le) some)
    go (inl lt) = above height refl lt
      where
        above : (n : ℕ) → height ≡ n → length levels < height → height ≡ suc (length levels)
        above zero e lt = absurd (omega (arith, e, lt))
        above (suc k) e lt =
            ⊎_elim
            (λ (is : k ≡ length levels). e ∙ ap suc is)
            (λ (ne : k ≡ length levels → ⊥). absurd (gone k (row_past pages (suc (length levels)) k (root_slot root ∷ []) ends (omega (arith, e, lt, ne))) (high.last k e)))
            (cases_eq k (length levels))
