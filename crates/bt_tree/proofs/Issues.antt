-- Ids that are left where a leaf is parted.
use Rattle.std.proofs.Common.{◌≡◌, ◌∙◌, ℕ, suc, ◌+◌, ◌-◌, ◌<◌, ◌≤◌, ◌^◌, List, [], ◌∷◌, Some, length, take, drop, refl, sym, ap, subst, arith, inl, inr}
use Rattle.std.specs.List.{AllByRecursion}
use Rattle.tc_space.specs.Frames.{keeps_refl, keeps_then, others_then}
use Rattle.tc_space.specs.Stores.{Only}
use Rattle.tc_space.specs.declared.records.Records.{Ghosts as Stores}
use Rattle.tc_space.specs.declared.space.Space.{Ghosts}
use Rattle.bt_page.specs.Keys.{node_offset}
use Rattle.bt_page.specs.declared.page.Item.{Item}
use Rattle.bt_page.specs.declared.page.Leaf.{Leaf}
use Rattle.bt_page.specs.declared.page.Node.{Node}
use Rattle.bt_rows.specs.declared.head.TreeHead.{TreeHead}
use Rattle.bt_rows.specs.declared.page.Page.TheVariants.{Node as node_page}
use Rattle.bt_rows.specs.Levels.{LevelsHeld}
use Rattle.bt_rows.specs.Pages.{PageMap}
use Rattle.bt_cache.specs.Effects.{same_store_refl, same_store_then}
use Rattle.bt_ways.specs.Changes.{IsCut, IsOver}
use Rattle.bt_ways.specs.Ways.{Crumb, path_of, rows_of}
use Rattle.bt_ways.proofs.Climbing.{held_in_row}
use Rattle.bt_tree.specs.declared.tree.Tree.{Tree}
use Rattle.bt_tree.specs.Climbing.{CanClimb, ComeAlong, HasWay, IsFullAt, IsFullWay, ShowsWay}
use Rattle.bt_tree.specs.Costs.{looks_refl, looks_then}
use Rattle.bt_tree.specs.Meaning.{file_in}
use Rattle.bt_tree.specs.Paging.{HasNodeAt, IsOwn, IsShown, Peeks, Shows, StaysStill}
use Rattle.bt_tree.specs.Parting.{AtLeaf, HasLeaf, IsParted, IsPiece, LacksId, LacksPiece, ShowsLeaf, TurnsParted, Widens, parts_from}
use Rattle.bt_tree.proofs.Pagings.{looked_shows, others_at, seen_still}
use Rattle.bt_tree.proofs.Pieces.{cut_parted}

-- one part comes where there is no third
pub from_one : (given : ℕ) (second third : List Item) → length third ≡ 0 → length (parts_from given second third) ≡ 1
from_one given second [] none = refl
from_one given second (x ∷ third) none = absurd (omega (arith, none))

-- a node stands at each step
abbrev AreNodes : PageMap → List (ℕ × ℕ) → Type 0
AreNodes pages way = AllByRecursion (λ (step : ℕ × ℕ). (n : Node) × (pages step.0 ≡ Some (node_page n))) way

held_steps : (pages : PageMap) (cs : List Crumb) → LevelsHeld pages (rows_of cs) → AreNodes pages (path_of cs)
held_steps pages [] h = tt
held_steps pages (c ∷ cs) h = ((c.node.node, held_in_row pages c (rows_of cs) h), held_steps pages cs h.1)

way_nodes : (limit : ℕ) (pages : PageMap) (root : ℕ) (path : List (ℕ × ℕ)) → CanClimb limit pages root path → AreNodes pages path
way_nodes limit pages root path k = subst (λ (p : List (ℕ × ℕ)). AreNodes pages p) (sym k.along) (held_steps pages k.crumbs k.way.nodes)

module _ {S V O : Type 0} (s : Ghosts S) (R : Stores V S) where
  -- nothing was looked at, and that there are rows is told again
  pub peeks_refl : (t : Tree V O) (rows : 1 ≤ t.height) (a : S) → s.sound a → Peeks s R t (record t { rows = rows }) a a
  peeks_refl t rows a sound = record { looks = looks_refl s R t.cache t.store a sound; still = record { keeps = keeps_refl s a; made = same_store_refl R t.store; head = refl; height = refl; column = refl; path = refl } }

  pub still_then : (t u v : Tree V O) (a b c : S) → StaysStill s R t u a b → StaysStill s R u v b c → StaysStill s R t v a c
  still_then t u v a b c first second = record {
    keeps = keeps_then s a b c first.keeps second.keeps;
    made = same_store_then R t.store u.store v.store first.made second.made;
    head = second.head ∙ first.head;
    height = second.height ∙ first.height;
    column = second.column ∙ first.column;
    path = second.path ∙ first.path;
  }

  pub peeks_then : (t u v : Tree V O) (a b c : S) → Peeks s R t u a b → Peeks s R u v b c → Peeks s R t v a c
  peeks_then t u v a b c first second = record {
    looks = looks_then s R t.cache u.cache v.cache t.store u.store v.store a b c first.looks second.looks;
    still = still_then t u v a b c first.still second.still;
  }

  -- a leaf at the end of a way may be written as several, and the way climbed
  pub leaf_way : (id next : ℕ) (t : Tree V O) (a : S) → HasLeaf s R id next t a → HasWay s R t a
  leaf_way id next t a ready = record { sound = ready.sound; held = λ told. let h = ready.held told in (h.0, (h.1.0, h.1.1.way)) }

  -- ---- the nodes of a way

  -- from t on so many nodes of its way were looked at and had no room: where so many more come along the rest of it, they come with these
  pub record IsCounting (t v : Tree V O) (a b : S) (added more nodes : ℕ) (way : List (ℕ × ℕ)) : Type 0 where
    pub peeks : Peeks s R t v a b
    pub small : nodes < 2 ^ 64 - 1
    pub stand : (pages : PageMap) → ShowsWay s R t a pages → AreNodes pages way
    pub full : (pages : PageMap) → ShowsWay s R t a pages → (n : ℕ) → IsFullWay t.head.node_limit pages more n way → IsFullWay t.head.node_limit pages added (n + nodes) t.path

  pub counts_begin : (t : Tree V O) (rows : 1 ≤ t.height) (a : S) (added : ℕ) (way : List (ℕ × ℕ)) → way ≡ t.path → HasWay s R t a → IsCounting t (record t { rows = rows }) a a added added 0 way
  counts_begin t rows a added way is ready = record {
    peeks = peeks_refl t rows a ready.sound;
    small = omega arith;
    stand = λ pages h. subst (λ (p : List (ℕ × ℕ)). AreNodes pages p) (sym is) (way_nodes t.head.node_limit pages t.head.root t.path h.1);
    full = λ pages h n full.
        let same : n ≡ n + 0 = omega arith in
        subst (λ (k : ℕ). IsFullWay t.head.node_limit pages added k t.path) same (subst (λ (p : List (ℕ × ℕ)). IsFullWay t.head.node_limit pages added n p) is full);
  }

  module _ (t v : Tree V O) (a b : S) (added more nodes : ℕ) (way : List (ℕ × ℕ)) (counting : IsCounting t v a b added more nodes way) where
    shown_now : (pages : PageMap) → Shows s R t a pages → Shows s R v b pages
    shown_now pages h = looked_shows s R t v a b counting.peeks.looks counting.peeks.still.head counting.peeks.still.column pages h

    pub counts_ready : HasWay s R t a → IsShown s R v b
    counts_ready ready = record { sound = counting.peeks.looks.reads.sound; held = λ told. let h = ready.held told in (h.0, shown_now h.0 h.1.0) }

    -- all that were looked at come
    pub counts_done : ComeAlong s R added nodes t a
    counts_done pages h = let same : 0 + nodes ≡ nodes = omega arith in subst (λ (k : ℕ). IsFullWay t.head.node_limit pages added k t.path) same (counting.full pages h 0 tt)

    -- and past the root one more
    pub counts_end : way ≡ [] → ComeAlong s R added (nodes + 1) t a
    counts_end none pages h =
        let same : 1 + nodes ≡ nodes + 1 = omega arith in
        subst (λ (k : ℕ). IsFullWay t.head.node_limit pages added k t.path) same (counting.full pages h 1 (subst (λ (p : List (ℕ × ℕ)). IsFullWay t.head.node_limit pages more 1 p) (sym none) refl))

    module _ (id place : ℕ) (rest : List (ℕ × ℕ)) (e : way ≡ (id, place) ∷ rest) where
      steps : (pages : PageMap) → ShowsWay s R t a pages → AreNodes pages ((id, place) ∷ rest)
      steps pages h = subst (λ (p : List (ℕ × ℕ)). AreNodes pages p) e (counting.stand pages h)

      pub counts_there : HasWay s R t a → HasNodeAt s R id v b
      counts_there ready = λ told. let h = ready.held told in let n = (steps h.0 h.1).0 in (h.0, n.0, shown_now h.0 h.1.0, n.1)

      -- the next one has no room either
      pub counts_more : (w : Tree V O) (d : S) → Peeks s R v w b d → IsFullAt s R id more v b → nodes < 2 ^ 64 - 2 → IsCounting t w a d added 1 (nodes + 1) rest
      counts_more w d peeks over few = record {
        peeks = peeks_then t v w a b d counting.peeks peeks;
        small = omega (arith, few);
        stand = λ pages h. (steps pages h).1;
        full = λ pages h n full.
            let node = (steps pages h).0 in
            let lt : t.head.node_limit < length node.0.entries + more = omega (arith, over pages node.0 (shown_now pages h.0) node.1, ap (λ (y : TreeHead). y.node_limit) counting.peeks.still.head) in
            let same : suc n + nodes ≡ n + (nodes + 1) = omega arith in
            subst (λ (k : ℕ). IsFullWay t.head.node_limit pages added k t.path) same
            (counting.full pages h (suc n) (subst (λ (p : List (ℕ × ℕ)). IsFullWay t.head.node_limit pages more (suc n) p) (sym e) (node.0, node.1, lt, full)));
      }

  -- ---- what a leaf that is parted lacks

  module _ (t : Tree V O) (a : S) (items : List Item) (i j leaves : ℕ) (is : leaves ≡ length (parts_from t.head.leaf_ids (take (j - i) (drop i items)) (drop j items))) (cut : s.tells → IsCut t.head.leaf_limit items i j) where
    pub lacks_leaves : node_offset ≤ t.head.leaf_ids + leaves → LacksId s R items t a
    lacks_leaves past pages h = record {
      more = length (parts_from t.head.leaf_ids (take (j - i) (drop i items)) (drop j items));
      parted_in = cut_parted t.head.leaf_ids i j t.head.leaf_limit items (cut h.0.0);
      used = inl (omega (arith, past, is));
    }

    pub lacks_nodes : (nodes : ℕ) → ComeAlong s R leaves nodes t a → node_offset ≤ t.head.node_ids + nodes → LacksId s R items t a
    lacks_nodes nodes come past pages h = record {
      more = length (parts_from t.head.leaf_ids (take (j - i) (drop i items)) (drop j items));
      parted_in = cut_parted t.head.leaf_ids i j t.head.leaf_limit items (cut h.0.0);
      used = inr (nodes, past, subst (λ (m : ℕ). IsFullWay t.head.node_limit pages m nodes t.path) is (come pages h));
    }

-- ---- a leaf that is parted behind a look at the way

module _ {S V O : Type 0} (s : Ghosts S) (R : Stores V S) where
  -- nothing is given
  pub widens_still : (nodes : ℕ) (t u : Tree V O) (a b : S) → StaysStill s R t u a b → Widens s R nodes t u a b
  widens_still nodes t u a b still =
      let leaves : u.head.leaf_ids ≡ t.head.leaf_ids = ap (λ (y : TreeHead). y.leaf_ids) still.head in
      let given : u.head.node_ids ≡ t.head.node_ids = ap (λ (y : TreeHead). y.node_ids) still.head in
      record {
        keeps = still.keeps;
        made = still.made;
        column = still.column;
        head = subst (λ (y : TreeHead). y ≡ record t.head { root = y.root; last = y.last; leaf_ids = y.leaf_ids; node_ids = y.node_ids }) (sym still.head) refl;
        leaves_least = omega (arith, leaves);
        leaves_most = omega (arith, leaves);
        nodes_least = omega (arith, given);
        nodes_most = omega (arith, given);
        rows_least = omega (arith, still.height);
        rows_most = omega (arith, still.height);
      }

  pub widens_on : (t u v : Tree V O) (a b c : S) → StaysStill s R t u a b → Widens s R (suc (length u.path)) u v b c → Widens s R (suc (length t.path)) t v a c
  widens_on t u v a b c still widens =
      let leaves : u.head.leaf_ids ≡ t.head.leaf_ids = ap (λ (y : TreeHead). y.leaf_ids) still.head in
      let given : u.head.node_ids ≡ t.head.node_ids = ap (λ (y : TreeHead). y.node_ids) still.head in
      record {
        keeps = keeps_then s a b c still.keeps widens.keeps;
        made = same_store_then R t.store u.store v.store still.made widens.made;
        column = widens.column ∙ still.column;
        head = widens.head ∙ ap (λ (y : TreeHead). record y { root = v.head.root; last = v.head.last; leaf_ids = v.head.leaf_ids; node_ids = v.head.node_ids }) still.head;
        leaves_least = omega (arith, leaves, widens.leaves_least);
        leaves_most = omega (arith, leaves, widens.leaves_most);
        nodes_least = omega (arith, given, widens.nodes_least);
        nodes_most = omega (arith, given, widens.nodes_most, ap length still.path);
        rows_least = omega (arith, still.height, widens.rows_least);
        rows_most = omega (arith, still.height, widens.rows_most);
      }

  module _ (id : ℕ) (leaf : Leaf) (t u : Tree V O) (a b : S) (peeks : Peeks s R t u a b) where
    abbrev head_on : u.head ≡ t.head
    head_on = peeks.still.head

    abbrev path_on : u.path ≡ t.path
    path_on = peeks.still.path

    leaf_shown_on : (pages : PageMap) → ShowsLeaf s R id leaf.next t a pages → ShowsLeaf s R id leaf.next u b pages
    leaf_shown_on pages h = (
      looked_shows s R t u a b peeks.looks head_on peeks.still.column pages h.0,
      subst (λ (y : TreeHead). AtLeaf y.node_limit y.root u.path id leaf.next pages) (sym head_on) (subst (λ (p : List (ℕ × ℕ)). AtLeaf t.head.node_limit t.head.root p id leaf.next pages) (sym path_on) h.1),
    )

    pub leaf_on : HasLeaf s R id leaf.next t a → HasLeaf s R id leaf.next u b
    leaf_on ready = record { sound = peeks.looks.reads.sound; held = λ told. let h = ready.held told in (h.0, leaf_shown_on h.0 h.1) }

    pub shown_on : HasLeaf s R id leaf.next t a → IsShown s R u b
    shown_on ready = record { sound = peeks.looks.reads.sound; held = λ told. let h = ready.held told in (h.0, (leaf_shown_on h.0 h.1).0) }

    pub parted_on : (v : Tree V O) (d : S) → TurnsParted s R id leaf u v b d → TurnsParted s R id leaf t v a d
    parted_on v d turns = record {
      sound = turns.sound;
      means = λ pages h.
          let k = turns.means pages (leaf_shown_on pages h) in (
            k.0,
            k.1,
            subst (λ (y : TreeHead). IsParted y t.height t.path v id leaf pages k.0) head_on
                (subst (λ (n : ℕ). IsParted u.head n t.path v id leaf pages k.0) peeks.still.height (subst (λ (p : List (ℕ × ℕ)). IsParted u.head u.height p v id leaf pages k.0) path_on k.2)),
          );
      others = others_then s (Only (file_in R t)) a b d (record { same = λ told g other. peeks.looks.reads.now told g }) (others_at s _ _ b d peeks.still.made.file turns.others);
    }

    pub piece_on : (d : S) → LacksPiece s R id leaf u b d → LacksPiece s R id leaf t a d
    piece_on d l =
        seen_still s R (ShowsLeaf s R id leaf.next u b) (ShowsLeaf s R id leaf.next t a) (IsOwn u.head 2 (suc (length u.path))) (IsOwn t.head 2 (suc (length t.path))) (IsPiece u.head u.path leaf.items leaf.next) (IsPiece t.head t.path leaf.items leaf.next) t u a b d peeks.still.keeps peeks.still.made peeks.still.column
        (λ pages h. leaf_shown_on pages h)
        (λ pages h i own. subst (λ (y : TreeHead). IsOwn y 2 (suc (length t.path)) pages i) head_on (subst (λ (p : List (ℕ × ℕ)). IsOwn u.head 2 (suc (length p)) pages i) path_on own))
        (λ p pages h piece. subst (λ (y : TreeHead). IsPiece y t.path leaf.items leaf.next pages p) head_on (subst (λ (q : List (ℕ × ℕ)). IsPiece u.head q leaf.items leaf.next pages p) path_on piece)) l

  pub over_on : (leaf : Leaf) (t u : Tree V O) (a b : S) → Peeks s R t u a b → (place : ℕ) → IsOver t.head.leaf_limit leaf.items place → IsOver u.head.leaf_limit leaf.items place
  over_on leaf t u a b peeks place over = subst (λ (y : TreeHead). IsOver y.leaf_limit leaf.items place) (sym peeks.still.head) over
