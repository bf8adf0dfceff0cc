-- A node that is written as two, and a root that grows over the old one.
use Rattle.std.proofs.Common.{◌≡◌, ℕ, suc, ◌+◌, ◌-◌, ◌<◌, ◌≤◌, ◌/◌, List, [], ◌∷◌, ◌++◌, Some, None, length, refl, sym, ap, ◌∙◌, subst, arith, length-append, ◌⊎◌, inl, inr, ⊎_elim}
use Rattle.tc_space.specs.Frames.{keeps_refl, others_then}
use Rattle.tc_space.specs.Stores.{Only}
use Rattle.tc_space.specs.declared.records.Records.{Ghosts as Stores}
use Rattle.tc_space.specs.declared.space.Space.{Ghosts}
use Rattle.bt_page.specs.Keys.{node_offset}
use Rattle.bt_page.specs.declared.page.NodeEntry.{NodeEntry}
use Rattle.bt_page.specs.declared.page.Node.{Node}
use Rattle.bt_rows.specs.declared.head.TreeHead.{TreeHead}
use Rattle.bt_rows.specs.declared.page.Page.{Page}
use Rattle.bt_rows.specs.declared.page.Page.TheVariants.{Node as node_page}
use Rattle.bt_rows.specs.Pages.{PageMap, IsGiven}
use Rattle.bt_rows.specs.Rules.{B1}
use Rattle.bt_cache.specs.Effects.{same_store_then}
use Rattle.bt_ways.specs.Climbs.{ClimbsWith}
use Rattle.bt_ways.specs.Writes.{put_at}
use Rattle.bt_ways.proofs.Climbing.{root_grows}
use Rattle.bt_ways.proofs.Keys.{all_map}
use Rattle.bt_tree.specs.declared.tree.Tree.{Tree}
use Rattle.bt_tree.specs.Climbing.{IsAmong, IsKnownNode, IsNodeOf, IsOneOrNext, IsSection, IsWayOf, StoodIn, TurnsClimbed, TurnsDivided, WritesKnown, entry_key, way_most}
use Rattle.bt_tree.specs.Meaning.{file_in}
use Rattle.bt_tree.specs.Paging.{IsNext, IsOwn, LacksSeen, LacksThis, PutsAt, Shows, StaysStill}
use Rattle.bt_tree.proofs.Pagings.{Gives, anew_put, anew_then, fills_node, fills_on, more_shows, node_fresh, noted_shows, others_at, same_store_at, seen_after, seen_still}
use Rattle.bt_tree.proofs.Entries.{keys_cut, keys_in, put_either, put_was, put_where, section_back, section_front, section_whole}

-- ---- one id more, and another root

-- one id of a node more
pub gives_node : (h : TreeHead) → h.node_ids + 1 < node_offset → Gives h (record h { node_ids = h.node_ids + 1 })
gives_node h small = record { order = refl; leaf_limit = refl; node_limit = refl; leaves = omega arith; nodes = omega arith; leaves_small = λ lt. lt; nodes_small = λ lt. small }

-- another root
pub gives_root : (h : TreeHead) (root : ℕ) → Gives h (record h { root = root })
gives_root h root = record { order = refl; leaf_limit = refl; node_limit = refl; leaves = omega arith; nodes = omega arith; leaves_small = λ lt. lt; nodes_small = λ lt. lt }

-- ---- a node in two

pub half_front : (entries front back : List NodeEntry) (up : NodeEntry) → entries ≡ front ++ up ∷ back → length front ≡ length entries / 2 → length front ≤ length entries / 2
half_front entries front back up cut half = omega (arith, half)

pub half_back : (entries front back : List NodeEntry) (up : NodeEntry) → entries ≡ front ++ up ∷ back → length front ≡ length entries / 2 → length back ≤ length entries / 2
half_back entries front back up cut half = let total : length entries ≡ length front + suc (length back) = ap length cut ∙ length-append front (up ∷ back) in omega (arith, total, half)

-- the next id of a node wasn't given
not_node : (h : TreeHead) (id : ℕ) → B1 h → id ≡ node_offset + (h.node_ids + 1) → IsGiven h id → ⊥
not_node h id head is (inl g) = omega (arith, g.1, is, head.leaf_ids)
not_node h id head is (inr g) = omega (arith, g.1, is)

-- where one such node was written, each page is an old one or such a node
pub one_known : (limit most root : ℕ) (path : List (ℕ × ℕ)) (added : List NodeEntry) (pages : PageMap) (id : ℕ) (n : Node) → IsKnownNode limit most root path added pages (node_page n) → WritesKnown limit most root path added pages (put_at id (node_page n) pages)
one_known limit most root path added pages id n known j p is = ⊎_elim
    (λ (here : p ≡ node_page n). inr (subst (λ (q : Page). IsKnownNode limit most root path added pages q) (sym here) known))
    (λ (old : pages j ≡ Some p). inl old)
    (put_either pages id j (node_page n) p is)

-- the second of two halves, and the first
upper_node : (below : ℕ) (entries front back : List NodeEntry) (heir : ℕ) (up : NodeEntry) → entries ≡ front ++ up ∷ back → length front ≡ length entries / 2 → heir ≡ up.child
    → (p : Page) → p ≡ node_page (record { heir = heir; entries = back }) → IsNodeOf (length entries / 2) below entries p
upper_node below entries front back heir up cut half under p e = (
  record { heir = heir; entries = back },
  e,
  half_back entries front back up cut half,
  (keys_cut entries front back up cut).1.1,
  subst (λ (n : ℕ). IsSection below entries (record { heir = n; entries = back })) (sym under) (section_back below entries front back up cut),
)

lower_node : (below : ℕ) (entries front back : List NodeEntry) (heir : ℕ) (up : NodeEntry) → entries ≡ front ++ up ∷ back → length front ≡ length entries / 2 → heir ≡ below
    → (p : Page) → p ≡ node_page (record { heir = heir; entries = front }) → IsNodeOf (length entries / 2) below entries p
lower_node below entries front back heir up cut half under p e = (
  record { heir = heir; entries = front },
  e,
  half_front entries front back up cut half,
  (keys_cut entries front back up cut).0,
  subst (λ (n : ℕ). IsSection below entries (record { heir = n; entries = front })) (sym under) (section_front below entries front back up cut),
)

-- the next id
next_own : (h : TreeHead) (second i : ℕ) → second ≡ node_offset + (h.node_ids + 1) → i ≡ second → IsNext h 0 1 i
next_own h second i given e = inr (omega (arith, given, e), omega (arith, given, e))

module _ {S V O : Type 0} (s : Ghosts S) (R : Stores V S) where
  pub divided : (t u v w : Tree V O) (a b d : S) (id second heir : ℕ) (entries front back : List NodeEntry) (up : NodeEntry) (above : List NodeEntry)
      → t.head.node_ids + 1 < node_offset → u ≡ record t { head = record t.head { node_ids = t.head.node_ids + 1 } } → second ≡ node_offset + (t.head.node_ids + 1)
      → entries ≡ front ++ up ∷ back → length front ≡ length entries / 2 → above ≡ record { child = second; key = up.key } ∷ []
      → PutsAt s R second (node_page (record { heir = up.child; entries = back })) u v a b
      → PutsAt s R id (node_page (record { heir = heir; entries = front })) v w b d → R.file_of v.store ≡ R.file_of u.store → v.head ≡ u.head → w.head ≡ v.head
      → TurnsDivided s R id (record { heir = heir; entries = entries }) above t w a d
  divided t u v w a b d id second heir entries front back up above small noted given cut half is first later file vhead whead = record {
    sound = later.sound;
    means = λ pages h.
        let k : Shows s R u a pages = more_shows s R t u a (ap (λ (x : Tree V O). x.store) noted) (ap (λ (x : Tree V O). x.cache.pages) noted) (ap (λ (x : Tree V O). x.column) noted)
        (subst (λ (x : TreeHead). Gives t.head x) (sym (ap (λ (x : Tree V O). x.head) noted)) (gives_node t.head small)) pages h in (
          put_at id (node_page (record { heir = heir; entries = front })) (put_at second (node_page (record { heir = up.child; entries = back })) pages),
          later.means (put_at second (node_page (record { heir = up.child; entries = back })) pages) (first.means pages k),
          (
            record {
              second = second;
              front = front;
              up = up;
              back = back;
              next_id = given;
              fresh = node_fresh t.head h.1.records pages second h.1.head h.1.held (omega (arith, given));
              cut = cut;
              half = half;
              are = refl;
              above_is = is;
            },
            λ there. anew_then t.head t.head pages (put_at second (node_page (record { heir = up.child; entries = back })) pages) _ (λ j g. g)
                (anew_put t.head pages second (node_page (record { heir = up.child; entries = back })) (λ g none. not_node t.head second h.1.head given g))
                (anew_put t.head (put_at second (node_page (record { heir = up.child; entries = back })) pages) id (node_page (record { heir = heir; entries = front })) (λ g none. there (put_was pages second id (node_page (record { heir = up.child; entries = back })) none))),
            fills_on t.head w.head (put_at second (node_page (record { heir = up.child; entries = back })) pages) (put_at id (node_page (record { heir = heir; entries = front })) (put_at second (node_page (record { heir = up.child; entries = back })) pages)) (λ j none. put_was (put_at second (node_page (record { heir = up.child; entries = back })) pages) id j (node_page (record { heir = heir; entries = front })) none)
                (fills_node t.head w.head pages second (node_page (record { heir = up.child; entries = back })) (ap (λ (x : TreeHead). x.leaf_ids) from) (ap (λ (x : TreeHead). x.node_ids) from) given),
          ),
        );
    others = others_then s (Only (file_in R t)) a b d (others_at s _ _ a b at first.others) (others_at s _ _ b d (file ∙ at) later.others);
  }
    where
      at : R.file_of u.store ≡ R.file_of t.store
      at = ap (λ (x : Tree V O). R.file_of x.store) noted

      from : w.head ≡ record t.head { node_ids = t.head.node_ids + 1 }
      from = whead ∙ vhead ∙ ap (λ (x : Tree V O). x.head) noted

  -- ---- no room for one of its nodes

  module _ where
    pub lacks_upper : (t u : Tree V O) (a b : S) (id second below : ℕ) (entries front back : List NodeEntry) {heir : ℕ} (up : NodeEntry) {k : TreeHead} → second ≡ node_offset + (t.head.node_ids + 1) → u ≡ record t { head = k } → Gives t.head k → entries ≡ front ++ up ∷ back → length front ≡ length entries / 2 → heir ≡ up.child
        → LacksThis s R second (node_page (record { heir = heir; entries = back })) u a b → LacksSeen s R (Shows s R t a) (IsOneOrNext id t.head) (λ pages p. IsNodeOf (length entries / 2) below entries p) t a b
    lacks_upper t u a b id second below entries front back {heir} up given noted gives cut half under l =
        seen_still s R (Shows s R u a) (Shows s R t a) (λ pages i. i ≡ second) (IsOneOrNext id t.head) (λ pages p. p ≡ node_page (record { heir = heir; entries = back })) (λ pages p. IsNodeOf (length entries / 2) below entries p) t u a a b (keeps_refl s a)
        (same_store_at s R t.store u.store (ap (λ (x : Tree V O). x.store) noted)) (ap (λ (x : Tree V O). x.column) noted) (λ pages h. noted_shows s R t u a noted gives pages h) (λ pages h i e. inr (next_own t.head second i given e)) (λ p pages h e. upper_node below entries front back heir up cut half under p e) l

    pub lacks_lower : (t u v : Tree V O) (a b d : S) (id second below : ℕ) (entries front back : List NodeEntry) {heir child : ℕ} (up : NodeEntry) {k : TreeHead} → second ≡ node_offset + (t.head.node_ids + 1) → u ≡ record t { head = k } → Gives t.head k → entries ≡ front ++ up ∷ back → length front ≡ length entries / 2 → heir ≡ below
        → child ≡ up.child → PutsAt s R second (node_page (record { heir = child; entries = back })) u v a b → StaysStill s R u v a b
        → LacksThis s R id (node_page (record { heir = heir; entries = front })) v b d → LacksSeen s R (Shows s R t a) (IsOneOrNext id t.head) (λ pages p. IsNodeOf (length entries / 2) below entries p) t a d
    lacks_lower t u v a b d id second below entries front back {heir} {child} up given noted gives cut half under over put still l =
        seen_after s R (Shows s R v b) (Shows s R t a) (λ pages i. i ≡ id) (IsOneOrNext id t.head) (λ pages p. p ≡ node_page (record { heir = heir; entries = front })) (λ pages p. IsNodeOf (length entries / 2) below entries p) t v a b d still.keeps
        (same_store_then R t.store u.store v.store (same_store_at s R t.store u.store (ap (λ (x : Tree V O). x.store) noted)) still.made) (still.column ∙ ap (λ (x : Tree V O). x.column) noted)
        (λ pages h. record {
          seen = (put_at second (node_page (record { heir = child; entries = back })) pages, put.means pages (noted_shows s R t u a noted gives pages h));
          own = λ i e. inl e;
          was = λ j p is. ⊎_elim
              (λ (here : (j ≡ second) × (p ≡ node_page (record { heir = child; entries = back }))). inr (inr (next_own t.head second j given here.0), upper_node below entries front back child up cut half over p here.1))
              (λ (old : pages j ≡ Some p). inl old)
              (put_where pages second j (node_page (record { heir = child; entries = back })) p is);
          fine = λ p e. lower_node below entries front back heir up cut half under p e;
        }) l

    -- nor for a new root
    pub lacks_root : (t u : Tree V O) (a b : S) (id heir : ℕ) (added : List NodeEntry) {k : TreeHead} → id ≡ node_offset + (t.head.node_ids + 1) → u ≡ record t { head = k } → Gives t.head k → length added ≤ 2 → heir ≡ t.head.root
        → LacksThis s R id (node_page (record { heir = heir; entries = added })) u a b → LacksSeen s R (Shows s R t a) (IsOwn t.head 0 1) (λ pages p. IsNodeOf 2 t.head.root added p) t a b
    lacks_root t u a b id heir added given noted gives few old_root l =
        seen_still s R (Shows s R u a) (Shows s R t a) (λ pages i. i ≡ id) (IsOwn t.head 0 1) (λ pages p. p ≡ node_page (record { heir = heir; entries = added })) (λ pages p. IsNodeOf 2 t.head.root added p) t u a a b (keeps_refl s a)
        (same_store_at s R t.store u.store (ap (λ (x : Tree V O). x.store) noted)) (ap (λ (x : Tree V O). x.column) noted) (λ pages h. noted_shows s R t u a noted gives pages h) (λ pages h i e. inr (next_own t.head id i given e))
        (λ p pages h e. (record { heir = heir; entries = added }, e, few, keys_in [] added, subst (λ (n : ℕ). IsSection n added (record { heir = heir; entries = added })) old_root (section_whole heir added))) l

  -- ---- a new root

  pub grown : (t u v w : Tree V O) (a b : S) (id heir : ℕ) (added : List NodeEntry) → t.path ≡ [] → length added ≤ 2
      → t.head.node_ids + 1 < node_offset → u ≡ record t { head = record t.head { node_ids = t.head.node_ids + 1 } } → id ≡ node_offset + (t.head.node_ids + 1) → heir ≡ t.head.root
      → PutsAt s R id (node_page (record { heir = heir; entries = added })) u v a b
      → w.store ≡ v.store → w.cache.pages ≡ v.cache.pages → w.column ≡ v.column → w.head ≡ record v.head { root = id } → w.height ≡ t.height + 1 → v.head ≡ u.head
      → TurnsClimbed s R added t w a b
  grown t u v w a b id heir added none few small noted given old_root put store cache column head height vhead = record {
    sound = put.sound;
    means = λ pages h.
        let k : Shows s R u a pages = more_shows s R t u a (ap (λ (x : Tree V O). x.store) noted) (ap (λ (x : Tree V O). x.cache.pages) noted) (ap (λ (x : Tree V O). x.column) noted)
        (subst (λ (x : TreeHead). Gives t.head x) (sym (ap (λ (x : Tree V O). x.head) noted)) (gives_node t.head small)) pages h.0 in
        let fresh : pages id ≡ None = node_fresh t.head h.0.1.records pages id h.0.1.head h.0.1.held (omega (arith, given)) in
        let within : length added ≤ t.head.node_limit = omega (arith, few, h.0.1.head.node_limit.0) in (
          put_at id (node_page (record { heir = heir; entries = added })) pages,
          more_shows s R v w b store cache column (subst (λ (x : TreeHead). Gives v.head x) (sym head) (gives_root v.head id)) (put_at id (node_page (record { heir = heir; entries = added })) pages) (put.means pages k),
          (
            subst (λ (p : List (ℕ × ℕ)). ClimbsWith t.head.node_limit pages (put_at id (node_page (record { heir = heir; entries = added })) pages) t.height w.height t.head.root w.head.root p added) (sym none)
                (subst (λ (n : ℕ). ClimbsWith t.head.node_limit pages (put_at id (node_page (record { heir = heir; entries = added })) pages) t.height n t.head.root w.head.root [] added) (omega (arith, height))
                (subst (λ (n : ℕ). ClimbsWith t.head.node_limit pages (put_at id (node_page (record { heir = heir; entries = added })) pages) t.height (suc t.height) t.head.root n [] added) (sym (ap (λ (x : TreeHead). x.root) head))
                (subst (λ (n : ℕ). ClimbsWith t.head.node_limit pages (put_at id (node_page (record { heir = n; entries = added })) pages) t.height (suc t.height) t.head.root id [] added) (sym old_root)
                (root_grows t.head.node_limit pages t.height t.head.root id added fresh within)))),
            anew_put t.head pages id (node_page (record { heir = heir; entries = added })) (λ g none. not_node t.head id h.0.1.head given g),
            one_known t.head.node_limit (way_most t.head t.path) t.head.root t.path added pages id (record { heir = heir; entries = added }) (
              record { heir = heir; entries = added },
              refl,
              within,
              all_map (λ (x : NodeEntry). IsAmong entry_key x.key added) (λ (x : NodeEntry). IsAmong entry_key x.key added ⊎ StoodIn pages x.key) added (λ x k. inl k) (keys_in [] added),
              subst (λ (p : List (ℕ × ℕ)). IsWayOf t.head.node_limit (way_most t.head t.path) pages t.head.root p added (record { heir = heir; entries = added })) (sym none) (subst (λ (n : ℕ). IsSection n added (record { heir = heir; entries = added })) old_root (section_whole heir added)),
            ),
            fills_node t.head w.head pages id (node_page (record { heir = heir; entries = added })) (ap (λ (x : TreeHead). x.leaf_ids) from) (ap (λ (x : TreeHead). x.node_ids) from) given,
          ),
        );
    others = others_at s _ _ a b (ap (λ (x : Tree V O). R.file_of x.store) noted) put.others;
  }
    where
      from : w.head ≡ record t.head { root = id; node_ids = t.head.node_ids + 1 }
      from = head ∙ ap (λ (x : TreeHead). record x { root = id }) (vhead ∙ ap (λ (x : Tree V O). x.head) noted)
