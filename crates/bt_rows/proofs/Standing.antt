-- Rules give rows, and rows give the rules.
use Rattle.std.proofs.Common.{◌≡◌, ℕ, zero, suc, ◌+◌, ◌<◌, List, [], ◌∷◌, ◌++◌, length, map, refl, sym, ap, ◌∙◌, subst, arith}
use Rattle.std.proofs.lemmas.List.{append-nil}
use Rattle.bt_rows.specs.Pages.{PageMap}
use Rattle.bt_rows.specs.declared.page.Slot.{Slot}
use Rattle.bt_rows.specs.declared.page.LeafAt.{LeafAt}
use Rattle.bt_rows.specs.Rows.{root_slot, children_of, children_at, leaf_at, next_row, leaves_among, row, leaves_in, times, reached, held, HasLeaf}
use Rattle.bt_rows.specs.Levels.{NodeAt, leaf_slot, node_slot, all_children, LeadsUp, LeadsDown, level_times, NodesHeld, LevelsHeld, LeavesHeld}
use Rattle.bt_rows.specs.Laws.{RulesGiveRows, RowsGiveRules}
use Rattle.bt_rows.proofs.Building.{held_most, row_nil, Built, build}

abbrev pub rev_onto : {X : Type 0} → List X → List X → List X
rev_onto [] ys = ys
rev_onto (x ∷ xs) ys = rev_onto xs (x ∷ ys)

-- rows downwards turn into rows upwards, and back
up_of : (root : ℕ) (Ls acc : List (List NodeAt)) (slots bottom : List Slot) → LeadsDown Ls slots bottom → LeadsUp root acc slots → LeadsUp root (rev_onto Ls acc) bottom
up_of root [] acc slots bottom d s = subst (λ (t : List Slot). LeadsUp root acc t) d s
up_of root (L ∷ Ls) acc slots bottom d s = up_of root Ls (L ∷ acc) (all_children L) bottom d.1 (refl, subst (λ (t : List Slot). LeadsUp root acc t) (sym d.0) s)

down_of : (root : ℕ) (Ls acc : List (List NodeAt)) (slots bottom : List Slot) → LeadsUp root Ls slots → LeadsDown acc slots bottom → LeadsDown (rev_onto Ls acc) (root_slot root ∷ []) bottom
down_of root [] acc slots bottom s d = subst (λ (t : List Slot). LeadsDown acc t bottom) s d
down_of root (L ∷ Ls) acc slots bottom s d = down_of root Ls (L ∷ acc) (map node_slot L) bottom s.1 (refl, subst (λ (t : List Slot). LeadsDown acc t bottom) s.0 d)

levels_turn : (pages : PageMap) (Ls acc : List (List NodeAt)) → LevelsHeld pages Ls → LevelsHeld pages acc → LevelsHeld pages (rev_onto Ls acc)
levels_turn pages [] acc h k = k
levels_turn pages (L ∷ Ls) acc h k = levels_turn pages Ls (L ∷ acc) h.1 (h.0, k)

times_turn : (id : ℕ) (Ls acc : List (List NodeAt)) → level_times id (rev_onto Ls acc) ≡ level_times id Ls + level_times id acc
times_turn id [] acc = omega arith
times_turn id (L ∷ Ls) acc = omega (arith, times_turn id Ls (L ∷ acc))

length_turn : (Ls acc : List (List NodeAt)) → length (rev_onto Ls acc) ≡ length Ls + length acc
length_turn [] acc = omega arith
length_turn (L ∷ Ls) acc = omega (arith, length_turn Ls (L ∷ acc))

pub rules_rows : RulesGiveRows
rules_rows before h pages depth r even order links =
    let b : Built pages depth (root_slot h.root ∷ []) = build pages depth (root_slot h.root ∷ []) r.ends (λ id lt. one id lt (r.once id)) even (omega arith) in (
      rev_onto b.levels [],
      record {
        up = subst (λ (ls : List LeafAt). LeadsUp h.root (rev_onto b.levels []) (map leaf_slot ls)) (sym b.is) (up_of h.root b.levels [] (root_slot h.root ∷ []) (map leaf_slot b.leaves) b.down refl);
        leaves_held = subst (LeavesHeld pages) (sym b.is) b.held;
        nodes_held = levels_turn pages b.levels [] b.nodes tt;
        once = λ id. omega (arith, times_turn id b.levels [], b.once id, r.once id, ap (λ (ls : List LeafAt). times id (map leaf_slot ls)) b.is);
        order = order;
        links = links.links;
      },
    )
  where
    one : (id : ℕ) → 0 < reached pages id depth (root_slot h.root ∷ []) → reached pages id depth (root_slot h.root ∷ []) ≡ held pages id → held pages id ≡ 1
    one id lt e = omega (arith, lt, e, held_most pages id)

-- ---- back

nodes_next : (pages : PageMap) (L : List NodeAt) → NodesHeld pages L → (next_row pages (map node_slot L) ≡ all_children L) × (leaves_among pages (map node_slot L) ≡ [])
nodes_next pages [] h = (refl, refl)
nodes_next pages (n ∷ ns) h =
    let rest = nodes_next pages ns h.1 in (
      ap (λ o. children_at n.slot o ++ next_row pages (map node_slot ns)) h.0 ∙ ap (λ (t : List Slot). children_of n.slot.bound n.node ++ t) rest.0,
      ap (λ o. leaf_at n.slot o ++ leaves_among pages (map node_slot ns)) h.0 ∙ rest.1,
    )

leaves_next : (pages : PageMap) (ls : List LeafAt) → LeavesHeld pages ls → (next_row pages (map leaf_slot ls) ≡ []) × (leaves_among pages (map leaf_slot ls) ≡ ls)
leaves_next pages [] h = (refl, refl)
leaves_next pages (l ∷ ls) h =
    let rest = leaves_next pages ls h.1 in (
      ap (λ o. children_at l.slot o ++ next_row pages (map leaf_slot ls)) h.0 ∙ rest.0,
      ap (λ o. leaf_at l.slot o ++ leaves_among pages (map leaf_slot ls)) h.0 ∙ ap (λ (t : List LeafAt). l ∷ t) rest.1,
    )

record Fallen (pages : PageMap) (Ls : List (List NodeAt)) (slots : List Slot) (leaves : List LeafAt) : Type 0 where
  ends : row pages (suc (length Ls)) slots ≡ []
  reach : (id : ℕ) → reached pages id (suc (length Ls)) slots ≡ times id (map leaf_slot leaves) + level_times id Ls
  is : leaves_in pages (suc (length Ls)) slots ≡ leaves
  deep : (i : ℕ) → HasLeaf pages (row pages i slots) → i ≡ length Ls

fall : (pages : PageMap) (Ls : List (List NodeAt)) (slots : List Slot) (leaves : List LeafAt) → LeadsDown Ls slots (map leaf_slot leaves) → LevelsHeld pages Ls → LeavesHeld pages leaves → Fallen pages Ls slots leaves
fall pages [] slots leaves d h k =
    let s = leaves_next pages leaves k in
    let next : next_row pages slots ≡ [] = ap (next_row pages) d ∙ s.0 in
    record {
      ends = next;
      reach = λ id. omega (arith, ap (times id) d);
      is = append-nil (leaves_among pages slots) ∙ ap (leaves_among pages) d ∙ s.1;
      deep = λ i has. at i next has;
    }
  where
    at : (i : ℕ) → next_row pages slots ≡ [] → HasLeaf pages (row pages i slots) → i ≡ 0
    at zero e has = refl
    at (suc i) e has = absurd (omega (arith, has, ap (λ (t : List Slot). length (leaves_among pages (row pages i t))) e, ap (λ (t : List Slot). length (leaves_among pages t)) (row_nil pages i)))
fall pages (L ∷ Ls) slots leaves d h k =
    let s = nodes_next pages L h.0 in
    let next : next_row pages slots ≡ all_children L = ap (next_row pages) (sym d.0) ∙ s.0 in
    let none : leaves_among pages slots ≡ [] = ap (leaves_among pages) (sym d.0) ∙ s.1 in
    let rest : Fallen pages Ls (next_row pages slots) leaves = fall pages Ls (next_row pages slots) leaves (subst (λ (t : List Slot). LeadsDown Ls t (map leaf_slot leaves)) (sym next) d.1) h.1 k in
    record {
      ends = rest.ends;
      reach = λ id. omega (arith, rest.reach id, ap (times id) d.0);
      is = ap (λ (t : List LeafAt). t ++ leaves_in pages (suc (length Ls)) (next_row pages slots)) none ∙ rest.is;
      deep = λ i has. at i none rest.deep has;
    }
  where
    at : (i : ℕ) → leaves_among pages slots ≡ [] → ((j : ℕ) → HasLeaf pages (row pages j (next_row pages slots)) → j ≡ length Ls) → HasLeaf pages (row pages i slots) → i ≡ suc (length Ls)
    at zero none rest has = absurd (omega (arith, has, ap (λ (t : List LeafAt). length t) none))
    at (suc i) none rest has = ap suc (rest i has)

pub rows_rules : RowsGiveRules
rows_rules before pages root leaves levels st =
    let down : LeadsDown (rev_onto levels []) (root_slot root ∷ []) (map leaf_slot leaves) = down_of root levels [] (map leaf_slot leaves) (map leaf_slot leaves) st.up refl in
    let f : Fallen pages (rev_onto levels []) (root_slot root ∷ []) leaves = fall pages (rev_onto levels []) (root_slot root ∷ []) leaves down (levels_turn pages levels [] st.nodes_held tt) st.leaves_held in
    let len : length (rev_onto levels []) ≡ length levels = length_turn levels [] ∙ omega arith in (
      record {
        ends = subst (λ (n : ℕ). row pages (suc n) (root_slot root ∷ []) ≡ []) len f.ends;
        once = λ id. ap (λ (n : ℕ). reached pages id (suc n) (root_slot root ∷ [])) (sym len) ∙ omega (arith, f.reach id, times_turn id levels [], st.once id);
      },
      λ i j a b. f.deep i a ∙ sym (f.deep j b),
      subst (λ (n : ℕ). leaves_in pages (suc n) (root_slot root ∷ []) ≡ leaves) len f.is,
    )
