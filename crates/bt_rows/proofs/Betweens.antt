-- The order of leaves and the words of entries.
use Rattle.std.proofs.Common.{◌≡◌, ◌⊎◌, ⊎_elim, inl, inr, ℕ, zero, suc, ◌<◌, ◌≤◌, List, [], ◌∷◌, ◌++◌, Bool, true, false, Option, Some, None, length, map, refl, sym, ap, ◌∙◌, subst, arith, append_assoc}
use Rattle.std.specs.Prelude.{⊤}
use Rattle.std.specs.List.{AllByRecursion}
use Rattle.std.proofs.lemmas.List.{append-nil, map-append, length-map}
use Rattle.bt_page.specs.declared.page.NodeEntry.{NodeEntry}
use Rattle.bt_page.specs.declared.page.Item.{Item}
use Rattle.bt_page.specs.declared.page.Node.{Node}
use Rattle.bt_rows.specs.declared.page.LeafAt.{LeafAt}
use Rattle.bt_rows.specs.declared.page.Page.TheVariants.{Leaf as leaf_page, Node as node_page}
use Rattle.bt_rows.specs.declared.page.Slot.{Slot}
use Rattle.bt_rows.specs.declared.head.TreeHead.{TreeHead}
use Rattle.bt_rows.specs.Orders.{Before, IsOrder}
use Rattle.bt_rows.specs.Pages.{PageMap}
use Rattle.bt_rows.specs.Rows.{root_slot, entry_slot, children_of}
use Rattle.bt_rows.specs.Rules.{LeafLimits, IsWithin, B5, AtLeast, Under, BoundUnder, InLeaf, IsBelow, InOrder}
use Rattle.bt_rows.specs.Levels.{NodeAt, leaf_slot, node_slot, all_children, LeadsDown, NodesHeld, LevelsHeld, LeavesHeld}
use Rattle.bt_rows.proofs.Building.{Built, build, held_most}
use Rattle.bt_rows.specs.Between.{Place, root_place, next_key, entry_places, node_places, placed, below, places, IsBetween, KeysAscend, PageFits, EachFits, OrderIsThatOfEntries}

all_map : {A : Type 0} (P Q : A → Type 0) (xs : List A) → ((x : A) → P x → Q x) → AllByRecursion P xs → AllByRecursion Q xs
all_map P Q [] f h = tt
all_map P Q (x ∷ xs) f h = (f x h.0, all_map P Q xs f h.1)

all_join : {A : Type 0} (P : A → Type 0) (xs ys : List A) → AllByRecursion P xs → AllByRecursion P ys → AllByRecursion P (xs ++ ys)
all_join P [] ys h k = k
all_join P (x ∷ xs) ys h k = (h.0, all_join P xs ys h.1 k)

all_back : {A : Type 0} (P : A → Type 0) (xs ys : List A) → AllByRecursion P (xs ++ ys) → AllByRecursion P ys
all_back P [] ys h = h
all_back P (x ∷ xs) ys h = all_back P xs ys h.1

all_front : {A : Type 0} (P : A → Type 0) (xs ys : List A) → AllByRecursion P (xs ++ ys) → AllByRecursion P xs
all_front P [] ys h = tt
all_front P (x ∷ xs) ys h = (h.0, all_front P xs ys h.1)

-- no leaf is empty but a lone one
abbrev AreFull : List LeafAt → Type 0
AreFull leaves = AllByRecursion (λ l. 0 < length l.leaf.items) leaves ⊎ (length leaves ≤ 1)

-- ---- places and slots

abbrev first : List (List ℕ) → Option (List ℕ)
first [] = None
first (l ∷ ls) = Some l

abbrev slot_of : Place → Slot
slot_of p = record { bound = first p.lows; id = p.id }

abbrev slots_of : List Place → List Slot
slots_of ps = map slot_of ps

entry_slots : (lows highs : List (List ℕ)) (es : List NodeEntry) → slots_of (entry_places lows highs es) ≡ map entry_slot es
entry_slots lows highs [] = refl
entry_slots lows highs (e ∷ es) = ap (λ (t : List Slot). entry_slot e ∷ t) (entry_slots lows highs es)

node_slots : (p : Place) (n : Node) → slots_of (node_places p n) ≡ children_of (first p.lows) n
node_slots p n = ap (λ (t : List Slot). record { bound = first p.lows; id = n.heir } ∷ t) (entry_slots p.lows p.highs n.entries)

-- the row below a row of nodes
abbrev below_all : List Place → List NodeAt → List Place
below_all [] L = []
below_all (p ∷ ps) [] = []
below_all (p ∷ ps) (n ∷ L) = node_places p n.node ++ below_all ps L

head_slot : (s t : Slot) (ss ts : List Slot) → s ∷ ss ≡ t ∷ ts → s ≡ t
head_slot s t ss ts e = cc

tail_slot : (s t : Slot) (ss ts : List Slot) → s ∷ ss ≡ t ∷ ts → ss ≡ ts
tail_slot s t ss ts e = cc

below_is : (pages : PageMap) (ps : List Place) (L : List NodeAt) → slots_of ps ≡ map node_slot L → NodesHeld pages L → below pages ps ≡ below_all ps L
below_is pages [] L e h = refl
below_is pages (p ∷ ps) [] e h = absurd cc
below_is pages (p ∷ ps) (n ∷ L) e h =
    let s = head_slot (slot_of p) n.slot (slots_of ps) (map node_slot L) e in
    let here : pages p.id ≡ Some (node_page n.node) = ap (λ (t : Slot). pages t.id) s ∙ h.0 in
    ap (λ o. placed p o ++ below pages ps) here ∙ ap (λ (t : List Place). node_places p n.node ++ t) (below_is pages ps L (tail_slot (slot_of p) n.slot (slots_of ps) (map node_slot L) e) h.1)

below_slots : (ps : List Place) (L : List NodeAt) → slots_of ps ≡ map node_slot L → slots_of (below_all ps L) ≡ all_children L
below_slots [] [] e = refl
below_slots [] (n ∷ L) e = absurd cc
below_slots (p ∷ ps) [] e = absurd cc
below_slots (p ∷ ps) (n ∷ L) e =
    let s = head_slot (slot_of p) n.slot (slots_of ps) (map node_slot L) e in
    map-append slot_of (node_places p n.node) (below_all ps L) ∙ ap (λ (t : List Slot). t ++ slots_of (below_all ps L)) (node_slots p n.node ∙ ap (λ (t : Slot). children_of t.bound n.node) s)
    ∙ ap (λ (t : List Slot). children_of n.slot.bound n.node ++ t) (below_slots ps L (tail_slot (slot_of p) n.slot (slots_of ps) (map node_slot L) e))

below_none : (pages : PageMap) (ps : List Place) (leaves : List LeafAt) → slots_of ps ≡ map leaf_slot leaves → LeavesHeld pages leaves → below pages ps ≡ []
below_none pages [] leaves e h = refl
below_none pages (p ∷ ps) [] e h = absurd cc
below_none pages (p ∷ ps) (l ∷ ls) e h =
    let s = head_slot (slot_of p) l.slot (slots_of ps) (map leaf_slot ls) e in
    let here : pages p.id ≡ Some (leaf_page l.leaf) = ap (λ (t : Slot). pages t.id) s ∙ h.0 in
    ap (λ o. placed p o ++ below pages ps) here ∙ below_none pages ps ls (tail_slot (slot_of p) l.slot (slots_of ps) (map leaf_slot ls) e) h.1

places_nil : (pages : PageMap) (k : ℕ) → places pages k [] ≡ []
places_nil pages zero = refl
places_nil pages (suc k) = places_nil pages k

-- ---- bounds of rows

abbrev HasBound : List Slot → List ℕ → Type 0
HasBound [] b = ⊥
HasBound (s ∷ ss) b = (s.bound ≡ Some b) ⊎ HasBound ss b

has_left : (xs ys : List Slot) (b : List ℕ) → HasBound xs b → HasBound (xs ++ ys) b
has_left [] ys b h = absurd h
has_left (x ∷ xs) ys b (inl h) = inl h
has_left (x ∷ xs) ys b (inr h) = inr (has_left xs ys b h)

has_right : (xs ys : List Slot) (b : List ℕ) → HasBound ys b → HasBound (xs ++ ys) b
has_right [] ys b h = h
has_right (x ∷ xs) ys b h = inr (has_right xs ys b h)

has_split : (xs ys : List Slot) (b : List ℕ) → HasBound (xs ++ ys) b → HasBound xs b ⊎ HasBound ys b
has_split [] ys b h = inr h
has_split (x ∷ xs) ys b (inl h) = inl (inl h)
has_split (x ∷ xs) ys b (inr h) = go (has_split xs ys b h)
  where
    go : HasBound xs b ⊎ HasBound ys b → HasBound (x ∷ xs) b ⊎ HasBound ys b
    go (inl k) = inl (inr k)
    go (inr k) = inr k

-- a bound of a row stands in the row below
has_spread : (L : List NodeAt) (b : List ℕ) → HasBound (map node_slot L) b → HasBound (all_children L) b
has_spread [] b h = absurd h
has_spread (n ∷ L) b (inl h) = inl h
has_spread (n ∷ L) b (inr h) = has_right (children_of n.slot.bound n.node) (all_children L) b (has_spread L b h)

-- each low is the bound of this place or of one in front, each high that of one behind
abbrev Good : List Slot → List Place → List Slot → Type 0
Good front [] back = ⊤
Good front (p ∷ ps) back = AllByRecursion (HasBound (front ++ slot_of p ∷ [])) p.lows × AllByRecursion (HasBound (slots_of ps ++ back)) p.highs × Good (front ++ slot_of p ∷ []) ps back

good_append : (F B : List Slot) (xs ys : List Place) → Good F xs (slots_of ys ++ B) → Good (F ++ slots_of xs) ys B → Good F (xs ++ ys) B
good_append F B [] ys g h = subst (λ (t : List Slot). Good t ys B) (append-nil F) h
good_append F B (x ∷ xs) ys g h =
    let behind : slots_of xs ++ (slots_of ys ++ B) ≡ slots_of (xs ++ ys) ++ B = sym (ap (λ (t : List Slot). t ++ B) (map-append slot_of xs ys) ∙ append_assoc (slots_of xs) (slots_of ys) B) in
    (g.0, subst (λ (t : List Slot). AllByRecursion (HasBound t) x.highs) behind g.1, good_append (F ++ slot_of x ∷ []) B xs ys g.2 (subst (λ (t : List Slot). Good t ys B) (sym (append_assoc F (slot_of x ∷ []) (slots_of xs))) h))

highs_next : (es : List NodeEntry) (lows highs : List (List ℕ)) (B : List Slot) → AllByRecursion (HasBound B) highs → AllByRecursion (HasBound (slots_of (entry_places lows highs es) ++ B)) (next_key es ++ highs)
highs_next [] lows highs B h = h
highs_next (e ∷ es) lows highs B h = (inl refl, all_map (HasBound B) (HasBound (slots_of (entry_places lows highs (e ∷ es)) ++ B)) highs (λ x k. has_right (slots_of (entry_places lows highs (e ∷ es))) B x k) h)

good_entries : (es : List NodeEntry) (lows highs : List (List ℕ)) (F B : List Slot) → AllByRecursion (HasBound F) lows → AllByRecursion (HasBound B) highs → Good F (entry_places lows highs es) B
good_entries [] lows highs F B h k = tt
good_entries (e ∷ es) lows highs F B h k =
    let more : AllByRecursion (HasBound (F ++ entry_slot e ∷ [])) lows = all_map (HasBound F) (HasBound (F ++ entry_slot e ∷ [])) lows (λ x i. has_left F (entry_slot e ∷ []) x i) h in
    ((has_right F (entry_slot e ∷ []) e.key (inl refl), more), highs_next es lows highs B k, good_entries es lows highs (F ++ entry_slot e ∷ []) B more k)

good_node : (p : Place) (n : Node) (F B : List Slot) → AllByRecursion (HasBound (F ++ record { bound = first p.lows; id = n.heir } ∷ [])) p.lows → AllByRecursion (HasBound B) p.highs → Good F (node_places p n) B
good_node p n F B h k = (h, highs_next n.entries p.lows p.highs B k, good_entries n.entries p.lows p.highs (F ++ record { bound = first p.lows; id = n.heir } ∷ []) B h k)

spread_end : (L : List NodeAt) (n : NodeAt) → all_children (L ++ n ∷ []) ≡ all_children L ++ children_of n.slot.bound n.node
spread_end [] n = append-nil (children_of n.slot.bound n.node)
spread_end (m ∷ L) n = ap (λ (t : List Slot). children_of m.slot.bound m.node ++ t) (spread_end L n) ∙ sym (append_assoc (children_of m.slot.bound m.node) (all_children L) (children_of n.slot.bound n.node))

good_below : (LF : List NodeAt) (ps : List Place) (L LB : List NodeAt) → slots_of ps ≡ map node_slot L → Good (map node_slot LF) ps (map node_slot LB) → Good (all_children LF) (below_all ps L) (all_children LB)
good_below LF [] L LB e g = tt
good_below LF (p ∷ ps) [] LB e g = absurd cc
good_below LF (p ∷ ps) (n ∷ L) LB e g =
    let s = head_slot (slot_of p) n.slot (slots_of ps) (map node_slot L) e in
    let rest = tail_slot (slot_of p) n.slot (slots_of ps) (map node_slot L) e in
    let heir : Slot = record { bound = first p.lows; id = n.node.heir } in
    let lows : AllByRecursion (HasBound (all_children LF ++ heir ∷ [])) p.lows = all_map (HasBound (map node_slot LF ++ slot_of p ∷ [])) (HasBound (all_children LF ++ heir ∷ [])) p.lows (λ x h.
    ⊎_elim (λ k. has_left (all_children LF) (heir ∷ []) x (has_spread LF x k)) (λ k. has_right (all_children LF) (heir ∷ []) x (same x k)) (has_split (map node_slot LF) (slot_of p ∷ []) x h)) g.0 in
    let highs : AllByRecursion (HasBound (slots_of (below_all ps L) ++ all_children LB)) p.highs = all_map (HasBound (slots_of ps ++ map node_slot LB)) (HasBound (slots_of (below_all ps L) ++ all_children LB)) p.highs (λ x h.
    ⊎_elim (λ k. has_left (slots_of (below_all ps L)) (all_children LB) x (subst (λ (t : List Slot). HasBound t x) (sym (below_slots ps L rest)) (has_spread L x (subst (λ (t : List Slot). HasBound t x) rest k))))
    (λ k. has_right (slots_of (below_all ps L)) (all_children LB) x (has_spread LB x k)) (has_split (slots_of ps) (map node_slot LB) x h)) g.1 in
    let grown : map node_slot LF ++ slot_of p ∷ [] ≡ map node_slot (LF ++ n ∷ []) = ap (λ (t : Slot). map node_slot LF ++ t ∷ []) s ∙ sym (map-append node_slot LF (n ∷ [])) in
    let further : Good (all_children (LF ++ n ∷ [])) (below_all ps L) (all_children LB) = good_below (LF ++ n ∷ []) ps L LB rest (subst (λ (t : List Slot). Good t ps (map node_slot LB)) grown g.2) in
    let front : all_children (LF ++ n ∷ []) ≡ all_children LF ++ slots_of (node_places p n.node) = spread_end LF n ∙ ap (λ (t : List Slot). all_children LF ++ t) (ap (λ (t : Slot). children_of t.bound n.node) (sym s) ∙ sym (node_slots p n.node)) in
    good_append (all_children LF) (all_children LB) (node_places p n.node) (below_all ps L) (good_node p n.node (all_children LF) (slots_of (below_all ps L) ++ all_children LB) lows highs) (subst (λ (t : List Slot). Good t (below_all ps L) (all_children LB)) front further)
  where
    same : (x : List ℕ) → HasBound (slot_of p ∷ []) x → HasBound (record { bound = first p.lows; id = n.node.heir } ∷ []) x
    same x (inl k) = inl k
    same x (inr k) = inr k

-- ---- bounds ascend

module _ (before : Before) (order : IsOrder before) where
  clash : (b : Bool) → b ≡ true → b ≡ false → ⊥
  clash b e f = cc

  abbrev BoundsAscend : List Slot → Type 0
  BoundsAscend [] = ⊤
  BoundsAscend (s ∷ ss) = AllByRecursion (λ t. BoundUnder before s.bound t.bound) ss × BoundsAscend ss

  below_bounds : (l : LeafAt) (ls : List LeafAt) → AllByRecursion (IsBelow before l) ls → AllByRecursion (λ t. BoundUnder before l.slot.bound t.bound) (map leaf_slot ls)
  below_bounds l [] h = tt
  below_bounds l (m ∷ ls) h = (h.0.bounds, below_bounds l ls h.1)

  order_bounds : (ls : List LeafAt) → InOrder before ls → BoundsAscend (map leaf_slot ls)
  order_bounds [] o = tt
  order_bounds (l ∷ ls) o = (below_bounds l ls o.1, order_bounds ls o.2)

  heirs_all : (a : Option (List ℕ)) (L : List NodeAt) → AllByRecursion (λ t. BoundUnder before a t.bound) (all_children L) → AllByRecursion (λ t. BoundUnder before a t.bound) (map node_slot L)
  heirs_all a [] h = tt
  heirs_all a (n ∷ L) h = (h.0, heirs_all a L (all_back (λ t. BoundUnder before a t.bound) (children_of n.slot.bound n.node) (all_children L) h))

  bounds_back : (xs ys : List Slot) → BoundsAscend (xs ++ ys) → BoundsAscend ys
  bounds_back [] ys h = h
  bounds_back (x ∷ xs) ys h = bounds_back xs ys h.1

  bounds_front : (xs ys : List Slot) → BoundsAscend (xs ++ ys) → BoundsAscend xs
  bounds_front [] ys h = tt
  bounds_front (x ∷ xs) ys h = (all_front (λ t. BoundUnder before x.bound t.bound) xs ys h.0, bounds_front xs ys h.1)

  bounds_above : (L : List NodeAt) → BoundsAscend (all_children L) → BoundsAscend (map node_slot L)
  bounds_above [] h = tt
  bounds_above (n ∷ L) h =
      (heirs_all n.slot.bound L (all_back (λ t. BoundUnder before n.slot.bound t.bound) (map entry_slot n.node.entries) (all_children L) h.0), bounds_above L (bounds_back (children_of n.slot.bound n.node) (all_children L) h))

  bounds_up : (Ls : List (List NodeAt)) (slots bottom : List Slot) → LeadsDown Ls slots bottom → BoundsAscend bottom → BoundsAscend slots
  bounds_up [] slots bottom d h = subst BoundsAscend (sym d) h
  bounds_up (L ∷ Ls) slots bottom d h = subst BoundsAscend d.0 (bounds_above L (bounds_up Ls (all_children L) bottom d.1 h))

  keys_all : (k : List ℕ) (es : List NodeEntry) → AllByRecursion (λ t. BoundUnder before (Some k) t.bound) (map entry_slot es) → AllByRecursion (λ f. before k f.key ≡ true) es
  keys_all k [] h = tt
  keys_all k (e ∷ es) h = (h.0, keys_all k es h.1)

  keys_ascend : (es : List NodeEntry) → BoundsAscend (map entry_slot es) → KeysAscend before es
  keys_ascend [] h = tt
  keys_ascend (e ∷ es) h = (keys_all e.key es h.0, keys_ascend es h.1)

  nodes_fit : (pages : PageMap) (ps : List Place) (L : List NodeAt) → slots_of ps ≡ map node_slot L → NodesHeld pages L → BoundsAscend (all_children L) → EachFits before pages ps
  nodes_fit pages [] L e h b = tt
  nodes_fit pages (p ∷ ps) [] e h b = absurd cc
  nodes_fit pages (p ∷ ps) (n ∷ L) e h b =
      let s = head_slot (slot_of p) n.slot (slots_of ps) (map node_slot L) e in
      let here : pages p.id ≡ Some (node_page n.node) = ap (λ (t : Slot). pages t.id) s ∙ h.0 in
      let own : BoundsAscend (children_of n.slot.bound n.node) = bounds_front (children_of n.slot.bound n.node) (all_children L) b in
      (subst (PageFits before p) (sym here) (keys_ascend n.node.entries own.1), nodes_fit pages ps L (tail_slot (slot_of p) n.slot (slots_of ps) (map node_slot L) e) h.1 (bounds_back (children_of n.slot.bound n.node) (all_children L) b))

  -- ---- from the order to the words

  -- a bound of this leaf or of one in front is at most a key of this leaf
  low_key : (front : List LeafAt) (l : LeafAt) (x : Item) (b : List ℕ) → AllByRecursion (λ k. IsBelow before k l) front → AtLeast before l.slot.bound x.key → HasBound (map leaf_slot front ++ l.slot ∷ []) b → before x.key b ≡ false
  low_key [] l x b f a (inl h) = at_own l.slot.bound h a
    where
      at_own : (o : Option (List ℕ)) → o ≡ Some b → AtLeast before o x.key → before x.key b ≡ false
      at_own None e a = absurd cc
      at_own (Some c) e a = let same : c ≡ b = cc in ap (before x.key) (sym same) ∙ a
  low_key [] l x b f a (inr h) = absurd h
  low_key (k ∷ front) l x b f a (inr h) = low_key front l x b f.1 a h
  low_key (k ∷ front) l x b f a (inl h) = at_front k.slot.bound l.slot.bound h f.0.bounds a
    where
      at_front : (o q : Option (List ℕ)) → o ≡ Some b → BoundUnder before o q → AtLeast before q x.key → before x.key b ≡ false
      at_front None q e u a = absurd cc
      at_front (Some c) None e u a = absurd u
      at_front (Some c) (Some d) e u a = not_less (before x.key b) refl
        where
          not_less : (t : Bool) → before x.key b ≡ t → before x.key b ≡ false
          not_less false e = e
          not_less true less = absurd (clash (before x.key d) (order.trans x.key b d less (let same : c ≡ b = cc in ap (λ (w : List ℕ). before w d) (sym same) ∙ u)) a)

  high_key : (x : Item) (l : LeafAt) (back : List LeafAt) (b : List ℕ) → AllByRecursion (λ m. Under before x.key m.slot.bound) back → HasBound (map leaf_slot back) b → before x.key b ≡ true
  high_key x l [] b f h = absurd h
  high_key x l (m ∷ back) b f (inl h) = at_it m.slot.bound h f.0
    where
      at_it : (o : Option (List ℕ)) → o ≡ Some b → Under before x.key o → before x.key b ≡ true
      at_it None e u = absurd u
      at_it (Some c) e u = let same : c ≡ b = cc in ap (before x.key) (sym same) ∙ u
  high_key x l (m ∷ back) b f (inr h) = high_key x l back b f.1 h

  all_zip : {A : Type 0} (P Q S : A → Type 0) (xs : List A) → ((x : A) → P x → Q x → S x) → AllByRecursion P xs → AllByRecursion Q xs → AllByRecursion S xs
  all_zip P Q S [] f h k = tt
  all_zip P Q S (x ∷ xs) f h k = (f x h.0 k.0, all_zip P Q S xs f h.1 k.1)

  all_end : {A : Type 0} (P : A → Type 0) (xs : List A) (x : A) → AllByRecursion P xs → P x → AllByRecursion P (xs ++ x ∷ [])
  all_end P [] x h k = (k, tt)
  all_end P (y ∷ xs) x h k = (h.0, all_end P xs x h.1 k)

  -- a key of a leaf is under the bounds of all leaves behind
  under_all : (l : LeafAt) (items : List Item) (ls : List LeafAt) → AllByRecursion (λ m. AllByRecursion (λ x. Under before x.key m.slot.bound) items) ls → AllByRecursion (λ x. AllByRecursion (λ m. Under before x.key m.slot.bound) ls) items
  under_all l [] ls h = tt
  under_all l (x ∷ items) ls h = (all_map (λ m. AllByRecursion (λ y. Under before y.key m.slot.bound) (x ∷ items)) (λ m. Under before x.key m.slot.bound) ls (λ m k. k.0) h, under_all l items ls (all_map (λ m. AllByRecursion (λ y. Under before y.key m.slot.bound) (x ∷ items)) (λ m. AllByRecursion (λ y. Under before y.key m.slot.bound) items) ls (λ m k. k.1) h))

  leaf_fits : (front : List LeafAt) (p : Place) (ps : List Place) (l : LeafAt) (ls : List LeafAt) → slot_of p ≡ l.slot → slots_of ps ≡ map leaf_slot ls → InLeaf before l → AllByRecursion (IsBelow before l) ls → AllByRecursion (λ k. IsBelow before k l) front
      → AllByRecursion (HasBound (map leaf_slot front ++ slot_of p ∷ [])) p.lows → AllByRecursion (HasBound (slots_of ps ++ [])) p.highs → PageFits before p (Some (leaf_page l.leaf))
  leaf_fits front p ps l ls s e i below fronts lows highs =
      let swapped = under_all l l.leaf.items ls (all_map (IsBelow before l) (λ m. AllByRecursion (λ x. Under before x.key m.slot.bound) l.leaf.items) ls (λ m k. k.items) below) in
      let own : AllByRecursion (HasBound (map leaf_slot front ++ l.slot ∷ [])) p.lows = subst (λ (t : Slot). AllByRecursion (HasBound (map leaf_slot front ++ t ∷ [])) p.lows) s lows in
      let behind : AllByRecursion (HasBound (map leaf_slot ls)) p.highs = subst (λ (t : List Slot). AllByRecursion (HasBound t) p.highs) (append-nil (slots_of ps) ∙ e) highs in (
        i.ascends,
        all_zip (λ x. AtLeast before l.slot.bound x.key) (λ x. AllByRecursion (λ m. Under before x.key m.slot.bound) ls) (λ x. IsBetween before p x.key) l.leaf.items (λ x a u. record {
          low = all_map (HasBound (map leaf_slot front ++ l.slot ∷ [])) (λ b. before x.key b ≡ false) p.lows (λ b h. low_key front l x b fronts a h) own;
          high = all_map (HasBound (map leaf_slot ls)) (λ b. before x.key b ≡ true) p.highs (λ b h. high_key x l ls b u h) behind;
        }) i.above swapped,
      )

  leaves_fit : (pages : PageMap) (front : List LeafAt) (ps : List Place) (leaves : List LeafAt) → slots_of ps ≡ map leaf_slot leaves → LeavesHeld pages leaves → InOrder before leaves → AllByRecursion (λ m. AllByRecursion (λ k. IsBelow before k m) front) leaves
      → Good (map leaf_slot front) ps [] → EachFits before pages ps
  leaves_fit pages front [] leaves e h o f g = tt
  leaves_fit pages front (p ∷ ps) [] e h o f g = absurd cc
  leaves_fit pages front (p ∷ ps) (l ∷ ls) e h o f g =
      let s = head_slot (slot_of p) l.slot (slots_of ps) (map leaf_slot ls) e in
      let rest = tail_slot (slot_of p) l.slot (slots_of ps) (map leaf_slot ls) e in
      let here : pages p.id ≡ Some (leaf_page l.leaf) = ap (λ (t : Slot). pages t.id) s ∙ h.0 in
      let grown : map leaf_slot front ++ slot_of p ∷ [] ≡ map leaf_slot (front ++ l ∷ []) = ap (λ (t : Slot). map leaf_slot front ++ t ∷ []) s ∙ sym (map-append leaf_slot front (l ∷ [])) in
      let fronts : AllByRecursion (λ m. AllByRecursion (λ k. IsBelow before k m) (front ++ l ∷ [])) ls =
      all_zip (λ m. AllByRecursion (λ k. IsBelow before k m) front) (IsBelow before l) (λ m. AllByRecursion (λ k. IsBelow before k m) (front ++ l ∷ [])) ls (λ m a b. all_end (λ k. IsBelow before k m) front l a b) f.1 o.1 in
      (subst (PageFits before p) (sym here) (leaf_fits front p ps l ls s rest o.0 o.1 f.0 g.0 g.1), leaves_fit pages (front ++ l ∷ []) ps ls rest h.1 o.2 fronts (subst (λ (t : List Slot). Good t ps []) grown g.2))

  none_front : (leaves : List LeafAt) → AllByRecursion (λ m. AllByRecursion (λ k. IsBelow before k m) []) leaves
  none_front [] = tt
  none_front (l ∷ ls) = (tt, none_front ls)

  fit_down : (pages : PageMap) (Ls : List (List NodeAt)) (slots : List Slot) (leaves : List LeafAt) (ps : List Place) → LeadsDown Ls slots (map leaf_slot leaves) → LevelsHeld pages Ls → LeavesHeld pages leaves → slots_of ps ≡ slots → Good [] ps [] → InOrder before leaves
      → (k : ℕ) → EachFits before pages (places pages k ps)
  fit_down pages [] slots leaves ps d h v e g o zero = leaves_fit pages [] ps leaves (e ∙ d) v o (none_front leaves) g
  fit_down pages [] slots leaves ps d h v e g o (suc k) = subst (EachFits before pages) (sym (ap (places pages k) (below_none pages ps leaves (e ∙ d) v) ∙ places_nil pages k)) tt
  fit_down pages (L ∷ Ls) slots leaves ps d h v e g o zero = nodes_fit pages ps L (e ∙ sym d.0) h.0 (bounds_up Ls (all_children L) (map leaf_slot leaves) d.1 (order_bounds leaves o))
  fit_down pages (L ∷ Ls) slots leaves ps d h v e g o (suc k) =
      let e' = e ∙ sym d.0 in
      subst (λ (t : List Place). EachFits before pages (places pages k t)) (sym (below_is pages ps L e' h.0)) (fit_down pages Ls (all_children L) leaves (below_all ps L) d.1 h.1 v (below_slots ps L e') (good_below [] ps L [] e' g) o k)

  -- ---- from the words to the order

  abbrev Has : List (List ℕ) → List ℕ → Type 0
  Has [] b = ⊥
  Has (h ∷ hs) b = (h ≡ b) ⊎ Has hs b

  -- the bound of each place is among the highs of the one in front
  abbrev Adj : List (List ℕ) → List Place → Type 0
  Adj hs [] = ⊤
  Adj hs (q ∷ qs) = ((b : List ℕ) × Has hs b × (first q.lows ≡ Some b)) × Adj q.highs qs

  abbrev AdjRow : List Place → Type 0
  AdjRow [] = ⊤
  AdjRow (p ∷ ps) = Adj p.highs ps

  adj_entries : (es : List NodeEntry) (lows highs : List (List ℕ)) (rest : List Place) → Adj highs rest → Adj (next_key es ++ highs) (entry_places lows highs es ++ rest)
  adj_entries [] lows highs rest h = h
  adj_entries (e ∷ es) lows highs rest h = ((e.key, inl refl, refl), adj_entries es lows highs rest h)

  adj_below : (hs : List (List ℕ)) (ps : List Place) (L : List NodeAt) → Adj hs ps → Adj hs (below_all ps L)
  adj_below hs [] L a = tt
  adj_below hs (p ∷ ps) [] a = tt
  adj_below hs (p ∷ ps) (n ∷ L) a = (a.0, adj_entries n.node.entries p.lows p.highs (below_all ps L) (adj_below p.highs ps L a.1))

  adj_row : (ps : List Place) (L : List NodeAt) → AdjRow ps → AdjRow (below_all ps L)
  adj_row [] L a = tt
  adj_row (p ∷ ps) [] a = tt
  adj_row (p ∷ ps) (n ∷ L) a = adj_entries n.node.entries p.lows p.highs (below_all ps L) (adj_below p.highs ps L a)

  at_first : (lows : List (List ℕ)) (x : Item) → AllByRecursion (λ l. before x.key l ≡ false) lows → AtLeast before (first lows) x.key
  at_first [] x h = tt
  at_first (l ∷ lows) x h = h.0

  at_high : (highs : List (List ℕ)) (x : Item) (b : List ℕ) → AllByRecursion (λ h. before x.key h ≡ true) highs → Has highs b → before x.key b ≡ true
  at_high [] x b h k = absurd k
  at_high (c ∷ highs) x b h (inl e) = ap (before x.key) (sym e) ∙ h.0
  at_high (c ∷ highs) x b h (inr k) = at_high highs x b h.1 k

  leaf_in : (p : Place) (l : LeafAt) → slot_of p ≡ l.slot → PageFits before p (Some (leaf_page l.leaf)) → InLeaf before l
  leaf_in p l s f = record {
    ascends = f.0;
    above = all_map (λ x. IsBetween before p x.key) (λ x. AtLeast before l.slot.bound x.key) l.leaf.items (λ x b. subst (λ (t : Slot). AtLeast before t.bound x.key) s (at_first p.lows x b.low)) f.1;
  }

  either : (b : Bool) → (b ≡ true) ⊎ (b ≡ false)
  either true = inl refl
  either false = inr refl

  -- between two bounds stands a key
  bounds_around : (a x b : List ℕ) → before x a ≡ false → before x b ≡ true → before a b ≡ true
  bounds_around a x b le lt = ⊎_elim (λ (is : before a b ≡ true). is)
      (λ (no : before a b ≡ false). ⊎_elim
      (λ (back : before b a ≡ true). absurd (clash (before x a) (order.trans x b a lt back) le))
      (λ (none : before b a ≡ false). absurd (clash (before x b) lt (ap (before x) (sym (order.total a b no none)) ∙ le))) (either (before b a)))
      (either (before a b))

  bound_under : (o : Option (List ℕ)) (b : List ℕ) (items : List Item) → 0 < length items → AllByRecursion (λ x. AtLeast before o x.key) items → AllByRecursion (λ x. before x.key b ≡ true) items → BoundUnder before o (Some b)
  bound_under None b items some a u = tt
  bound_under (Some c) b [] some a u = absurd (omega (arith, some))
  bound_under (Some c) b (x ∷ items) some a u = bounds_around c x.key b a.0 u.0

  next_below : (p q : Place) (l m : LeafAt) → slot_of p ≡ l.slot → slot_of q ≡ m.slot → PageFits before p (Some (leaf_page l.leaf)) → (b : List ℕ) × Has p.highs b × (first q.lows ≡ Some b) → 0 < length l.leaf.items → IsBelow before l m
  next_below p q l m s t f adj some =
      let bound : Some adj.0 ≡ m.slot.bound = sym adj.2 ∙ ap (λ (u : Slot). u.bound) t in
      let keys : AllByRecursion (λ x. before x.key adj.0 ≡ true) l.leaf.items = all_map (λ x. IsBetween before p x.key) (λ x. before x.key adj.0 ≡ true) l.leaf.items (λ x k. at_high p.highs x adj.0 k.high adj.1) f.1 in
      record {
        bounds = subst (λ (o : Option (List ℕ)). BoundUnder before l.slot.bound o) bound (bound_under l.slot.bound adj.0 l.leaf.items some (leaf_in p l s f).above keys);
        items = subst (λ (o : Option (List ℕ)). AllByRecursion (λ x. Under before x.key o) l.leaf.items) bound keys;
      }

  under_on : (key : List ℕ) (a b : Option (List ℕ)) → Under before key a → BoundUnder before a b → Under before key b
  under_on key None b u w = absurd u
  under_on key (Some a) None u w = w
  under_on key (Some a) (Some b) u w = order.trans key a b u w

  bound_on : (a b c : Option (List ℕ)) → BoundUnder before a b → BoundUnder before b c → BoundUnder before a c
  bound_on None None c u w = absurd u
  bound_on None (Some b) None u w = w
  bound_on None (Some b) (Some c) u w = tt
  bound_on (Some a) None c u w = absurd u
  bound_on (Some a) (Some b) None u w = w
  bound_on (Some a) (Some b) (Some c) u w = order.trans a b c u w

  below_on : (x l m : LeafAt) → IsBelow before x l → IsBelow before l m → IsBelow before x m
  below_on x l m h k = record { bounds = bound_on x.slot.bound l.slot.bound m.slot.bound h.bounds k.bounds; items = all_map (λ i. Under before i.key l.slot.bound) (λ i. Under before i.key m.slot.bound) x.leaf.items (λ i u. under_on i.key l.slot.bound m.slot.bound u k.bounds) h.items }

  order_row : (pages : PageMap) (p : Place) (ps : List Place) (l : LeafAt) (ls : List LeafAt) → slots_of (p ∷ ps) ≡ map leaf_slot (l ∷ ls) → LeavesHeld pages (l ∷ ls) → EachFits before pages (p ∷ ps) → Adj p.highs ps → AreFull (l ∷ ls) → InOrder before (l ∷ ls)
  order_row pages p [] l [] e h f a full = (leaf_in p l (head_slot (slot_of p) l.slot [] [] e) (subst (PageFits before p) (ap (λ (t : Slot). pages t.id) (head_slot (slot_of p) l.slot [] [] e) ∙ h.0) f.0), tt, tt)
  order_row pages p [] l (m ∷ ls) e h f a full = absurd cc
  order_row pages p (q ∷ ps) l [] e h f a full = absurd cc
  order_row pages p (q ∷ ps) l (m ∷ ls) e h f a (inr short) = absurd (omega (arith, short))
  order_row pages p (q ∷ ps) l (m ∷ ls) e h f a (inl some) =
      let s = head_slot (slot_of p) l.slot (slots_of (q ∷ ps)) (map leaf_slot (m ∷ ls)) e in
      let rest = tail_slot (slot_of p) l.slot (slots_of (q ∷ ps)) (map leaf_slot (m ∷ ls)) e in
      let fits : PageFits before p (Some (leaf_page l.leaf)) = subst (PageFits before p) (ap (λ (t : Slot). pages t.id) s ∙ h.0) f.0 in
      let under : IsBelow before l m = next_below p q l m s (head_slot (slot_of q) m.slot (slots_of ps) (map leaf_slot ls) rest) fits a.0 some.0 in
      let behind = order_row pages q ps m ls rest h.1 f.1 a.1 (inl some.1) in
      (leaf_in p l s fits, (under, all_map (IsBelow before m) (IsBelow before l) ls (λ r k. below_on l m r under k) behind.1), behind)

  order_all : (pages : PageMap) (ps : List Place) (leaves : List LeafAt) → slots_of ps ≡ map leaf_slot leaves → LeavesHeld pages leaves → EachFits before pages ps → AdjRow ps → AreFull leaves → InOrder before leaves
  order_all pages ps [] e h f a full = tt
  order_all pages [] (l ∷ ls) e h f a full = absurd cc
  order_all pages (p ∷ ps) (l ∷ ls) e h f a full = order_row pages p ps l ls e h f a full

  words_down : (pages : PageMap) (Ls : List (List NodeAt)) (slots : List Slot) (leaves : List LeafAt) (ps : List Place) → LeadsDown Ls slots (map leaf_slot leaves) → LevelsHeld pages Ls → LeavesHeld pages leaves → slots_of ps ≡ slots → AdjRow ps → AreFull leaves
      → ((k : ℕ) → EachFits before pages (places pages k ps)) → InOrder before leaves
  words_down pages [] slots leaves ps d h v e a full f = order_all pages ps leaves (e ∙ d) v (f 0) a full
  words_down pages (L ∷ Ls) slots leaves ps d h v e a full f =
      let e' = e ∙ sym d.0 in
      words_down pages Ls (all_children L) leaves (below_all ps L) d.1 h.1 v (below_slots ps L e') (adj_row ps L a) full (λ k. subst (λ (t : List Place). EachFits before pages (places pages k t)) (below_is pages ps L e' h.0) (f (suc k)))

-- where a node is the root, no leaf is
top : (root : ℕ) (pages : PageMap) (L : List NodeAt) → map node_slot L ≡ root_slot root ∷ [] → NodesHeld pages L → (n : Node) × (pages root ≡ Some (node_page n))
top root pages [] e h = absurd cc
top root pages (n ∷ L) e h = (n.node, ap (λ (t : Slot). pages t.id) (sym (head_slot n.slot (root_slot root) (map node_slot L) [] e)) ∙ h.0)

all_full : (h : TreeHead) (pages : PageMap) (leaves : List LeafAt) (n : Node) → pages h.root ≡ Some (node_page n) → LeavesHeld pages leaves → B5 h pages → AllByRecursion (λ l. 0 < length l.leaf.items) leaves
all_full h pages [] n r v w = tt
all_full h pages (l ∷ ls) n r v w =
    let within : LeafLimits h l.slot.id l.leaf = subst (IsWithin h l.slot.id) v.0 (w l.slot.id) in
    (within.some (λ e. let both : Some (leaf_page l.leaf) ≡ Some (node_page n) = sym v.0 ∙ ap pages e ∙ r in absurd cc), all_full h pages ls n r v.1 w)

full : (h : TreeHead) (pages : PageMap) (Ls : List (List NodeAt)) (leaves : List LeafAt) → LeadsDown Ls (root_slot h.root ∷ []) (map leaf_slot leaves) → LevelsHeld pages Ls → LeavesHeld pages leaves → B5 h pages → AreFull leaves
full h pages [] leaves d n v w = inr (omega (arith, length-map leaves leaf_slot, ap (λ (t : List Slot). length t) d))
full h pages (L ∷ Ls) leaves d n v w = let root = top h.root pages L d.0 n.0 in inl (all_full h pages leaves root.0 root.1 v w)

pub order_is_that_of_entries : OrderIsThatOfEntries
order_is_that_of_entries before h pages depth order r even within =
    let b : Built pages depth (root_slot h.root ∷ []) = build pages depth (root_slot h.root ∷ []) r.ends (λ id lt. omega (arith, lt, r.once id, held_most pages id)) even (omega arith) in
    let all : AreFull b.leaves = full h pages b.levels b.leaves b.down b.nodes b.held within in (
      λ o. fit_down before order pages b.levels (root_slot h.root ∷ []) b.leaves (root_place h.root ∷ []) b.down b.nodes b.held refl (tt, tt, tt) (subst (InOrder before) b.is o),
      λ f. subst (InOrder before) (sym b.is) (words_down before order pages b.levels (root_slot h.root ∷ []) b.leaves (root_place h.root ∷ []) b.down b.nodes b.held refl tt all f),
    )
