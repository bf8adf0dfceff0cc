-- From rows that the pages give to rows of nodes above leaves.
use Rattle.std.proofs.Common.{◌≡◌, ℕ, zero, suc, ◌+◌, ◌<◌, ◌≤◌, ◌⊎◌, List, [], ◌∷◌, ◌++◌, Bool, true, false, Option, Some, None, length, map, refl, sym, ap, ◌∙◌, subst, inl, inr, arith}
use Rattle.std.specs.Prelude.{is_some, if◌then◌else◌}
use Rattle.std.proofs.lemmas.List.{append-nil}
use Rattle.std.proofs.lemmas.Bool.Decides.{nat_tests}
use Rattle.bt_page.specs.declared.page.Leaf.{Leaf}
use Rattle.bt_page.specs.declared.page.Node.{Node}
use Rattle.bt_rows.specs.declared.page.Page.{Page}
use Rattle.bt_rows.specs.Pages.{PageMap}
use Rattle.bt_rows.specs.declared.page.Page.TheVariants.{Leaf as leaf_page, Node as node_page}
use Rattle.bt_rows.specs.declared.page.Slot.{Slot}
use Rattle.bt_rows.specs.declared.page.LeafAt.{LeafAt}
use Rattle.bt_rows.specs.Rows.{children_of, children_at, leaf_at, next_row, leaves_among, row, leaves_in, times, reached, held, HasLeaf}
use Rattle.bt_rows.specs.Rules.{IsBalanced}
use Rattle.bt_rows.specs.Levels.{NodeAt, leaf_slot, node_slot, all_children, LeadsDown, level_times, NodesHeld, LevelsHeld, LeavesHeld}

pub times-front : (id : ℕ) (x : Slot) (xs : List Slot) → x.id ≡ id → times id (x ∷ xs) ≡ 1 + times id xs
times-front id x xs e = grind (arith, nat_tests)

pub reached_nil : (pages : PageMap) (id k : ℕ) → reached pages id k [] ≡ 0
reached_nil pages id zero = refl
reached_nil pages id (suc k) = omega (arith, reached_nil pages id k)

pub leaves_nil : (pages : PageMap) (k : ℕ) → leaves_in pages k [] ≡ []
leaves_nil pages zero = refl
leaves_nil pages (suc k) = leaves_nil pages k

pub row_nil : (pages : PageMap) (k : ℕ) → row pages k [] ≡ []
row_nil pages zero = refl
row_nil pages (suc k) = row_nil pages k

bit_most : (b : Bool) → (if b then 1 else 0) ≤ 1
bit_most true = omega arith
bit_most false = omega arith

pub held_most : (pages : PageMap) (id : ℕ) → held pages id ≤ 1
held_most pages id = bit_most (is_some (pages id))

-- a row of leaves alone
pub record AreLeaves (pages : PageMap) (slots : List Slot) : Type 0 where
  pub leaves : List LeafAt
  pub are : map leaf_slot leaves ≡ slots
  pub held : LeavesHeld pages leaves
  pub among : leaves_among pages slots ≡ leaves
  pub some : HasLeaf pages slots
  pub none : next_row pages slots ≡ []

-- a row of nodes alone
pub record AreNodes (pages : PageMap) (slots : List Slot) : Type 0 where
  pub nodes : List NodeAt
  pub are : map node_slot nodes ≡ slots
  pub held : NodesHeld pages nodes
  pub among : leaves_among pages slots ≡ []
  pub next : next_row pages slots ≡ all_children nodes
  pub some : 0 < length (next_row pages slots)

-- both
pub record AreMixed (pages : PageMap) (slots : List Slot) : Type 0 where
  pub leaf : HasLeaf pages slots
  pub node : 0 < length (next_row pages slots)

pub data Kind (pages : PageMap) (slots : List Slot) : Type 0 where
  leaves : AreLeaves pages slots → Kind pages slots
  nodes : AreNodes pages slots → Kind pages slots
  mixed : AreMixed pages slots → Kind pages slots

abbrev pub held_one : Option Page → ℕ
held_one o = if is_some o then 1 else 0

pub held_is : (o : Option Page) → held_one o ≡ 1 → (p : Page) × (o ≡ Some p)
held_is None e = absurd (omega (arith, e))
held_is (Some p) e = (p, refl)

module _ (pages : PageMap) where
  leaf_among : (s : Slot) (ss : List Slot) (l : Leaf) → pages s.id ≡ Some (leaf_page l) → leaves_among pages (s ∷ ss) ≡ record { slot = s; leaf = l } ∷ leaves_among pages ss
  leaf_among s ss l e = ap (λ o. leaf_at s o ++ leaves_among pages ss) e

  leaf_next : (s : Slot) (ss : List Slot) (l : Leaf) → pages s.id ≡ Some (leaf_page l) → next_row pages (s ∷ ss) ≡ next_row pages ss
  leaf_next s ss l e = ap (λ o. children_at s o ++ next_row pages ss) e

  node_among : (s : Slot) (ss : List Slot) (n : Node) → pages s.id ≡ Some (node_page n) → leaves_among pages (s ∷ ss) ≡ leaves_among pages ss
  node_among s ss n e = ap (λ o. leaf_at s o ++ leaves_among pages ss) e

  node_next : (s : Slot) (ss : List Slot) (n : Node) → pages s.id ≡ Some (node_page n) → next_row pages (s ∷ ss) ≡ children_of s.bound n ++ next_row pages ss
  node_next s ss n e = ap (λ o. children_at s o ++ next_row pages ss) e

  -- a leaf in front of a row that may be empty
  leaf_first : (s : Slot) (ss : List Slot) (l : Leaf) → pages s.id ≡ Some (leaf_page l) → (ss ≡ []) ⊎ Kind pages ss → Kind pages (s ∷ ss)
  leaf_first s ss l e (inl none) = leaves (record {
    leaves = record { slot = s; leaf = l } ∷ [];
    are = ap (λ (t : List Slot). s ∷ t) (sym none);
    held = (e, tt);
    among = leaf_among s ss l e ∙ ap (λ (t : List Slot). record { slot = s; leaf = l } ∷ leaves_among pages t) none;
    some = subst (λ (t : List LeafAt). 0 < length t) (sym (leaf_among s ss l e)) (omega arith);
    none = leaf_next s ss l e ∙ ap (next_row pages) none;
  })
  leaf_first s ss l e (inr (leaves r)) = leaves (record {
    leaves = record { slot = s; leaf = l } ∷ r.leaves;
    are = ap (λ (t : List Slot). s ∷ t) r.are;
    held = (e, r.held);
    among = leaf_among s ss l e ∙ ap (λ (t : List LeafAt). record { slot = s; leaf = l } ∷ t) r.among;
    some = subst (λ (t : List LeafAt). 0 < length t) (sym (leaf_among s ss l e)) (omega arith);
    none = leaf_next s ss l e ∙ r.none;
  })
  leaf_first s ss l e (inr (nodes r)) = mixed (record {
    leaf = subst (λ (t : List LeafAt). 0 < length t) (sym (leaf_among s ss l e)) (omega arith);
    node = subst (λ (t : List Slot). 0 < length t) (sym (leaf_next s ss l e)) r.some;
  })
  leaf_first s ss l e (inr (mixed r)) = mixed (record {
    leaf = subst (λ (t : List LeafAt). 0 < length t) (sym (leaf_among s ss l e)) (omega arith);
    node = subst (λ (t : List Slot). 0 < length t) (sym (leaf_next s ss l e)) r.node;
  })

  node_first : (s : Slot) (ss : List Slot) (n : Node) → pages s.id ≡ Some (node_page n) → (ss ≡ []) ⊎ Kind pages ss → Kind pages (s ∷ ss)
  node_first s ss n e (inl none) = nodes (record {
    nodes = record { slot = s; node = n } ∷ [];
    are = ap (λ (t : List Slot). s ∷ t) (sym none);
    held = (e, tt);
    among = node_among s ss n e ∙ ap (leaves_among pages) none;
    next = node_next s ss n e ∙ ap (λ (t : List Slot). children_of s.bound n ++ next_row pages t) none;
    some = subst (λ (t : List Slot). 0 < length t) (sym (node_next s ss n e)) (omega arith);
  })
  node_first s ss n e (inr (nodes r)) = nodes (record {
    nodes = record { slot = s; node = n } ∷ r.nodes;
    are = ap (λ (t : List Slot). s ∷ t) r.are;
    held = (e, r.held);
    among = node_among s ss n e ∙ r.among;
    next = node_next s ss n e ∙ ap (λ (t : List Slot). children_of s.bound n ++ t) r.next;
    some = subst (λ (t : List Slot). 0 < length t) (sym (node_next s ss n e)) (omega arith);
  })
  node_first s ss n e (inr (leaves r)) = mixed (record {
    leaf = subst (λ (t : List LeafAt). 0 < length t) (sym (node_among s ss n e)) r.some;
    node = subst (λ (t : List Slot). 0 < length t) (sym (node_next s ss n e)) (omega arith);
  })
  node_first s ss n e (inr (mixed r)) = mixed (record {
    leaf = subst (λ (t : List LeafAt). 0 < length t) (sym (node_among s ss n e)) r.leaf;
    node = subst (λ (t : List Slot). 0 < length t) (sym (node_next s ss n e)) (omega arith);
  })

  page_first : (s : Slot) (ss : List Slot) → (p : Page) × (pages s.id ≡ Some p) → (ss ≡ []) ⊎ Kind pages ss → Kind pages (s ∷ ss)
  page_first s ss (leaf_page l, e) k = leaf_first s ss l e k
  page_first s ss (node_page n, e) k = node_first s ss n e k

  -- of a row whose pages are held
  pub classify : (s : Slot) (ss : List Slot) → ((id : ℕ) → 0 < times id (s ∷ ss) → held pages id ≡ 1) → Kind pages (s ∷ ss)
  classify s [] h = page_first s [] (held_is (pages s.id) (h s.id (omega (arith, times-front s.id s [] refl)))) (inl refl)
  classify s (t ∷ ts) h =
      page_first s (t ∷ ts) (held_is (pages s.id) (h s.id (omega (arith, times-front s.id s (t ∷ ts) refl)))) (inr (classify t ts (λ id lt. h id (omega (arith, lt)))))

  abbrev pub AllHeld : ℕ → List Slot → Type 0
  AllHeld k slots = (id : ℕ) → 0 < reached pages id k slots → held pages id ≡ 1

  some_first : (slots : List Slot) → 0 < length slots → (s : Slot) × (ss : List Slot) × (slots ≡ s ∷ ss)
  some_first [] lt = absurd (omega (arith, lt))
  some_first (s ∷ ss) lt = (s, ss, refl)

  kind_of : (k : ℕ) (slots : List Slot) → 0 < length slots → AllHeld (suc k) slots → Kind pages slots
  kind_of k [] lt h = absurd (omega (arith, lt))
  kind_of k (s ∷ ss) lt h = classify s ss (λ id more. h id (omega (arith, more)))

  -- below any place stands a leaf
  pub deep_leaf : (k : ℕ) (slots : List Slot) → row pages k slots ≡ [] → AllHeld k slots → 0 < length slots → (i : ℕ) × HasLeaf pages (row pages i slots)
  deep_leaf zero slots e h lt = absurd (omega (arith, lt, ap (λ (t : List Slot). length t) e))
  deep_leaf (suc k) slots e h lt = go (kind_of k slots lt h) (deep_leaf k (next_row pages slots) e (λ id more. h id (omega (arith, more))))
    where
      go : Kind pages slots → (0 < length (next_row pages slots) → (i : ℕ) × HasLeaf pages (row pages i (next_row pages slots))) → (i : ℕ) × HasLeaf pages (row pages i slots)
      go (leaves r) deeper = (0, r.some)
      go (mixed r) deeper = (0, r.leaf)
      go (nodes r) deeper = let rest = deeper r.some in (suc rest.0, rest.1)

  pub record Built (k : ℕ) (slots : List Slot) : Type 0 where
    pub levels : List (List NodeAt)
    pub leaves : List LeafAt
    pub down : LeadsDown levels slots (map leaf_slot leaves)
    pub nodes : LevelsHeld pages levels
    pub held : LeavesHeld pages leaves
    pub once : (id : ℕ) → times id (map leaf_slot leaves) + level_times id levels ≡ reached pages id k slots
    pub is : leaves_in pages k slots ≡ leaves

  pub build : (k : ℕ) (slots : List Slot) → row pages k slots ≡ [] → AllHeld k slots → IsBalanced pages slots → 0 < length slots → Built k slots
  build zero slots e h even lt = absurd (omega (arith, lt, ap (λ (t : List Slot). length t) e))
  build (suc k) slots e h even lt =
      go (kind_of k slots lt h)
      (build k (next_row pages slots) e (λ id more. h id (omega (arith, more))) (λ i j a b. let same = even (suc i) (suc j) a b in omega (arith, same)))
      (deep_leaf k (next_row pages slots) e (λ id more. h id (omega (arith, more))))
    where
      go : Kind pages slots → (0 < length (next_row pages slots) → Built k (next_row pages slots)) → (0 < length (next_row pages slots) → (i : ℕ) × HasLeaf pages (row pages i (next_row pages slots))) → Built (suc k) slots
      go (leaves r) below deeper = record {
        levels = [];
        leaves = r.leaves;
        down = sym r.are;
        nodes = tt;
        held = r.held;
        once = λ id. omega (arith, ap (times id) r.are, ap (reached pages id k) r.none, reached_nil pages id k);
        is = ap (λ (t : List Slot). leaves_among pages slots ++ leaves_in pages k t) r.none ∙ ap (λ (t : List LeafAt). leaves_among pages slots ++ t) (leaves_nil pages k) ∙ append-nil (leaves_among pages slots) ∙ r.among;
      }
      go (nodes r) below deeper =
          let rest = below r.some in
          record {
            levels = r.nodes ∷ rest.levels;
            leaves = rest.leaves;
            down = (r.are, subst (λ (t : List Slot). LeadsDown rest.levels t (map leaf_slot rest.leaves)) r.next rest.down);
            nodes = (r.held, rest.nodes);
            held = rest.held;
            once = λ id. omega (arith, rest.once id, ap (times id) r.are);
            is = ap (λ (t : List LeafAt). t ++ leaves_in pages k (next_row pages slots)) r.among ∙ rest.is;
          }
      go (mixed r) below deeper =
          let deep = deeper r.node in
          absurd (omega (arith, even 0 (suc deep.0) r.leaf deep.1))
