-- Laws of rows.
use Rattle.std.proofs.Common.{◌≡◌, ◌≢◌, ℕ, zero, suc, ◌+◌, ◌<◌, ◌≤◌, ◌⊎◌, List, [], ◌∷◌, ◌++◌, Bool, true, false, Option, Some, None, length, map, refl, sym, ap, ◌∙◌, subst, inl, inr, ⊎_elim, arith, append_assoc}
use Rattle.std.specs.Prelude.{⊤}
use Rattle.std.proofs.lemmas.List.{map-append}
use Rattle.bt_page.specs.declared.page.Node.{Node}
use Rattle.bt_rows.specs.declared.page.LeafAt.{LeafAt}
use Rattle.bt_rows.specs.declared.page.Page.TheVariants.{Leaf as leaf_page, Node as node_page}
use Rattle.bt_rows.specs.declared.page.Slot.{Slot}
use Rattle.bt_rows.specs.Pages.{PageMap}
use Rattle.bt_rows.specs.Rows.{root_slot}
use Rattle.bt_rows.specs.Levels.{NodeAt, leaf_slot, node_slot, all_children, LeadsUp, LeadsDown, NodesHeld, LevelsHeld, LeavesHeld}
use Rattle.bt_ways.specs.Ways.{node_children}

pub children-append : (xs ys : List NodeAt) → all_children (xs ++ ys) ≡ all_children xs ++ all_children ys
children-append [] ys = refl
children-append (x ∷ xs) ys = ap (λ (t : List Slot). node_children x ++ t) (children-append xs ys) ∙ sym (append_assoc (node_children x) (all_children xs) (all_children ys))

-- a row with a place below one of its nodes
pub children_around : (left : List NodeAt) (node : NodeAt) (right : List NodeAt) (a : List Slot) (s : Slot) (b : List Slot) → node_children node ≡ a ++ s ∷ b
    → all_children (left ++ node ∷ right) ≡ (all_children left ++ a) ++ s ∷ (b ++ all_children right)
children_around left node right a s b e =
    children-append left (node ∷ right) ∙ ap (λ (t : List Slot). all_children left ++ (t ++ all_children right)) e ∙ rearrange (all_children left) a s b (all_children right)
  where
    rearrange : (p q : List Slot) (x : Slot) (r t : List Slot) → p ++ ((q ++ x ∷ r) ++ t) ≡ (p ++ q) ++ x ∷ (r ++ t)
    rearrange p q x r t = simp append_assoc

abbrev pub turned : {X : Type 0} → List X → List X → List X
turned [] ys = ys
turned (x ∷ xs) ys = turned xs (x ∷ ys)

-- the rows above a row, turned, lead down to it
pub turn : (root : ℕ) (Ls acc : List (List NodeAt)) (slots bottom : List Slot) → LeadsUp root Ls slots → LeadsDown acc slots bottom → LeadsDown (turned Ls acc) (root_slot root ∷ []) bottom
turn root [] acc slots bottom s d = subst (λ (t : List Slot). LeadsDown acc t bottom) s d
turn root (L ∷ Ls) acc slots bottom s d = turn root Ls (L ∷ acc) (map node_slot L) bottom s.1 (refl, subst (λ (t : List Slot). LeadsDown acc t bottom) s.0 d)

pub turned_twice : {X : Type 0} (xs acc ys : List X) → turned (turned xs acc) ys ≡ turned acc (xs ++ ys)
turned_twice [] acc ys = refl
turned_twice (x ∷ xs) acc ys = turned_twice xs (x ∷ acc) ys

pub length-turned : {X : Type 0} (xs acc : List X) → length (turned xs acc) ≡ length xs + length acc
length-turned [] acc = omega arith
length-turned (x ∷ xs) acc = omega (arith, length-turned xs (x ∷ acc))

pub nil_end : {X : Type 0} (xs : List X) → xs ++ [] ≡ xs
nil_end [] = refl
nil_end {X} (x ∷ xs) = ap (λ (t : List X). x ∷ t) (nil_end xs)

pub levels_turn : (pages : PageMap) (Ls acc : List (List NodeAt)) → LevelsHeld pages Ls → LevelsHeld pages acc → LevelsHeld pages (turned Ls acc)
levels_turn pages [] acc h k = k
levels_turn pages (L ∷ Ls) acc h k = levels_turn pages Ls (L ∷ acc) h.1 (h.0, k)

pub nodes_part : (pages : PageMap) (xs ys : List NodeAt) → NodesHeld pages (xs ++ ys) → NodesHeld pages xs × NodesHeld pages ys
nodes_part pages [] ys h = (tt, h)
nodes_part pages (x ∷ xs) ys h = let rest = nodes_part pages xs ys h.1 in ((h.0, rest.0), rest.1)

pub leaves_part : (pages : PageMap) (xs ys : List LeafAt) → LeavesHeld pages (xs ++ ys) → LeavesHeld pages xs × LeavesHeld pages ys
leaves_part pages [] ys h = (tt, h)
leaves_part pages (x ∷ xs) ys h = let rest = leaves_part pages xs ys h.1 in ((h.0, rest.0), rest.1)

-- a place among those that a row is mapped to
pub record Part {X : Type 0} (f : X → Slot) (L : List X) (front : List Slot) (s : Slot) (back : List Slot) : Type 0 where
  pub left : List X
  pub at : X
  pub right : List X
  pub level : L ≡ left ++ at ∷ right
  pub slot : f at ≡ s
  pub before : map f left ≡ front
  pub behind : map f right ≡ back

part_behind : {X : Type 0} (f : X → Slot) (n : X) (L : List X) (y : Slot) (front : List Slot) (s : Slot) (back : List Slot) → f n ≡ y → Part f L front s back → Part f (n ∷ L) (y ∷ front) s back
part_behind {X} f n L y front s back e p = record {
  left = n ∷ p.left;
  at = p.at;
  right = p.right;
  level = ap (λ (t : List X). n ∷ t) p.level;
  slot = p.slot;
  before = ap (λ (t : List Slot). f n ∷ t) p.before ∙ ap (λ (x : Slot). x ∷ front) e;
  behind = p.behind;
}

pub part_at : {X : Type 0} (f : X → Slot) (L : List X) (front : List Slot) (s : Slot) (back : List Slot) → map f L ≡ front ++ s ∷ back → Part f L front s back
part_at f [] [] s back e = absurd (cc)
part_at f [] (y ∷ front) s back e = absurd (cc)
part_at f (n ∷ L) [] s back e = record { left = []; at = n; right = L; level = refl; slot = cc; before = refl; behind = cc }
part_at f (n ∷ L) (y ∷ front) s back e = part_behind f n L y front s back (cc) (part_at f L front s back (cc))

-- what was read of the node at a place is that node
pub same_node : (pages : PageMap) (n : NodeAt) (id : ℕ) (read : Node) → pages n.slot.id ≡ Some (node_page n.node) → id ≡ n.slot.id → pages id ≡ Some (node_page read) → read ≡ n.node
same_node pages n id read held same is =
    let both : Some (node_page read) ≡ Some (node_page n.node) = sym is ∙ ap pages same ∙ held in
    cc both
