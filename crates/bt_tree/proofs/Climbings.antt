-- Entries put into the nodes above a place, page by page.
use Rattle.std.proofs.Common.{◌≡◌, ℕ, suc, ◌+◌, ◌-◌, ◌<◌, ◌≤◌, ◌/◌, List, [], ◌∷◌, ◌++◌, Option, Some, None, length, take, drop, refl, sym, ap, ◌∙◌, subst, arith, length-append, ◌⊎◌, inl, inr, ⊎_elim}
use Rattle.std.proofs.lemmas.List.{take-append-drop, take_all, drop_more, length-drop}
use Rattle.std.specs.Prelude.{slice_get}
use Rattle.std.specs.List.{AllByRecursion, slice_index_or}
use Rattle.tc_space.specs.Frames.{keeps_refl, keeps_then, others_then}
use Rattle.tc_space.specs.Stores.{Only}
use Rattle.tc_space.specs.declared.records.Records.{Ghosts as Stores}
use Rattle.tc_space.specs.declared.space.Space.{Ghosts}
use Rattle.bt_page.specs.Limits.{NodeWithin}
use Rattle.bt_page.specs.declared.page.NodeEntry.{NodeEntry}
use Rattle.bt_page.specs.declared.page.Node.{Node}
use Rattle.bt_rows.specs.declared.head.TreeHead.{TreeHead}
use Rattle.bt_rows.specs.declared.page.Page.{Page}
use Rattle.bt_rows.specs.declared.page.Page.TheVariants.{Node as node_page}
use Rattle.bt_rows.specs.Pages.{PageMap, IsGiven}
use Rattle.bt_cache.specs.Effects.{SameStore, same_store_refl, same_store_then}
use Rattle.bt_ways.specs.Climbs.{ClimbsWith}
use Rattle.bt_ways.specs.Laws.{spliced}
use Rattle.bt_ways.specs.Writes.{put_at}
use Rattle.bt_ways.proofs.Climbing.{node_parts, node_takes}
use Rattle.bt_ways.proofs.Keys.{all_map}
use Rattle.bt_ways.proofs.HeldWays.{WayAbove, way_node, way_parted, way_same}
use Rattle.bt_ways.proofs.Spots.{got_at}
use Rattle.bt_tree.specs.declared.tree.Tree.{Tree}
use Rattle.bt_tree.specs.Climbing.{CanClimb, Divided, Grows, HasWay, IsAmong, IsKnownNode, IsNodeOf, IsOneOrNext, IsSection, IsWayId, IsWayOf, LacksWayNode, ShowsWay, StoodIn, TurnsClimbed, TurnsDivided, WritesKnown, entry_key, way_most}
use Rattle.bt_tree.specs.Meaning.{file_in}
use Rattle.bt_tree.specs.Paging.{ComesAnew, FillsIds, HasNodeAt, IsNext, IsNodeId, IsOwn, IsPageOf, IsShown, LacksSeen, LacksThis, Peeks, PutsAt, Shows, StaysStill}
use Rattle.bt_tree.proofs.Pagings.{Gives, IsMoved, anew_over, anew_then, came_own, came_stood, fills_none, fills_on, fills_then, looked_shows, more_shows, moved_column, moved_head, moved_height, moved_pages, moved_store, next_more, node_given, old_or, others_at, own_more, put_all, same_store_at, seen_after, seen_still, shown_given, some_node, stood_at}
use Rattle.bt_tree.proofs.Entries.{among_back, among_front, among_join, keys_cut, keys_in, nodes_stay, put_either, section_back, section_front, section_whole, way_back, way_more}
use Rattle.bt_tree.proofs.Divisions.{gives_root, half_back, half_front, one_known}

-- a list is what is in front of a place, the one there and what is behind it
pub cut_around : (xs front back : List NodeEntry) (i n child : ℕ) (key : List ℕ) → i < length xs → n ≡ length xs → ((e : NodeEntry) → slice_get xs i ≡ Some e → child ≡ e.child) → ((e : NodeEntry) → slice_get xs i ≡ Some e → key ≡ e.key)
    → front ≡ take (i - 0) (drop 0 xs) → back ≡ take (n - (i + 1)) (drop (i + 1) xs) → xs ≡ front ++ record { child = child; key = key } ∷ back
cut_around xs front back i n child key lt en ec ek ef eb =
    let e : NodeEntry = record { child = child; key = key } in
    let at = got_at xs i e lt in
    let same : e ≡ slice_index_or xs i e = λ k. record { child = ec (slice_index_or xs i e) at k; key = ek (slice_index_or xs i e) at k } in
    let behind : drop i xs ≡ e ∷ drop (i + 1) xs = drop_more xs i e lt ∙ ap (λ (z : NodeEntry). z ∷ drop (i + 1) xs) (sym same) in
    let whole : i - 0 ≡ i = omega arith in
    let before : front ≡ take i xs = ef ∙ ap (λ (m : ℕ). take m xs) whole in
    let rest : back ≡ drop (i + 1) xs = eb ∙ take_all (n - (i + 1)) (drop (i + 1) xs) (omega (arith, en, length-drop (i + 1) xs)) in
    sym (take-append-drop i xs) ∙ (λ k. sym before k ++ behind k) ∙ ap (λ (l : List NodeEntry). front ++ e ∷ l) (sym rest)

-- a node that took the entries of an equal list
pub took_same : (n m : Node) (place : ℕ) (xs ys : List NodeEntry) → m ≡ record { heir = n.heir; entries = spliced n.entries place xs } → xs ≡ ys → m ≡ record { heir = n.heir; entries = spliced n.entries place ys }
took_same n m place xs ys is same = is ∙ ap (λ (zs : List NodeEntry). record { heir = n.heir; entries = spliced n.entries place zs }) same

pub noted_root : {V O : Type 0} (t u : Tree V O) → u ≡ record t { head = record t.head { node_ids = t.head.node_ids + 1 } } → u.head.root ≡ t.head.root
noted_root {V} {O} t u noted = ap (λ (x : Tree V O). x.head.root) noted

pub grown_height : {V O : Type 0} (t u : Tree V O) → u ≡ record t { head = record t.head { node_ids = t.head.node_ids + 1 } } → {n : ℕ} → n ≡ u.height → n + 1 ≡ t.height + 1
grown_height {V} {O} t u noted same = ap (λ (k : ℕ). k + 1) (same ∙ ap (λ (x : Tree V O). x.height) noted)

spliced_long : (entries : List NodeEntry) (place : ℕ) (added : List NodeEntry) → length (spliced entries place added) ≤ length entries + length added
spliced_long entries place added =
    let all : length (spliced entries place added) ≡ length (take place entries) + (length added + length (drop place entries)) = length-append (take place entries) (added ++ drop place entries) ∙ ap (λ (n : ℕ). length (take place entries) + n) (length-append added (drop place entries)) in
    let parts : length (take place entries) + length (drop place entries) ≡ length entries = sym (length-append (take place entries) (drop place entries)) ∙ ap length (take-append-drop place entries) in
    omega (arith, all, parts)

-- ---- the lowest node of a way

pub record AtStep (limit : ℕ) (pages : PageMap) (root id place : ℕ) (path : List (ℕ × ℕ)) : Type 0 where
  pub node : Node
  pub is : pages id ≡ Some (node_page node)
  pub within : NodeWithin limit node

pub at_step : (limit : ℕ) (pages : PageMap) (root id place : ℕ) (path rest : List (ℕ × ℕ)) → path ≡ (id, place) ∷ rest → CanClimb limit pages root path → AtStep limit pages root id place rest
at_step limit pages root id place path rest e k =
    let n = way_node pages root id place rest k.crumbs k.place (sym e ∙ k.along) k.way in
    record { node = n.0; is = n.1; within = k.within id n.0 n.1 }

-- where it is a node, it is within its limit
abbrev InLimit : ℕ → ℕ → Option Page → Type 0
InLimit limit j o = (n : Node) → o ≡ Some (node_page n) → NodeWithin limit n

-- where a key that stands in a node comes from
abbrev MayStand : List NodeEntry → PageMap → List ℕ → ℕ → Option Page → Type 0
MayStand added pages key j o = (n : Node) → o ≡ Some (node_page n) → IsAmong entry_key key n.entries → IsAmong entry_key key added ⊎ StoodIn pages key

-- once the node is written as two, the way above it may be climbed on
pub step_on : (limit : ℕ) (pages new : PageMap) (root id place : ℕ) (path rest : List (ℕ × ℕ)) (node : Node) (above : List NodeEntry) → path ≡ (id, place) ∷ rest → CanClimb limit pages root path
    → {given : ℕ} → Divided given id node above pages new → length node.entries / 2 ≤ limit → CanClimb limit new root rest
step_on limit pages new root id place path rest node above e k d half =
    let left : Node = record { heir = node.heir; entries = d.front } in
    let right : Node = record { heir = d.up.child; entries = d.back } in
    let w : WayAbove (put_at id (node_page left) (put_at d.second (node_page right) pages)) root rest = way_parted pages root id place d.second rest left right k.crumbs k.place (sym e ∙ k.along) k.way d.fresh in
    subst (λ (p : PageMap). CanClimb limit p root rest) (sym d.are)
    (record {
      crumbs = w.crumbs;
      place = w.place;
      along = w.along;
      way = w.way;
      within = put_all (InLimit limit) (put_at d.second (node_page right) pages) id (node_page left) (fits left (omega (arith, half_front node.entries d.front d.back d.up d.cut d.half, half)))
          (λ j other. put_all (InLimit limit) pages d.second (node_page right) (fits right (omega (arith, half_back node.entries d.front d.back d.up d.cut d.half, half))) (λ i away. k.within i) j);
    })
  where
    fits : (m : Node) → length m.entries ≤ limit → (n : Node) → ◌≡◌ {A = Option Page} (Some (node_page m)) (Some (node_page n)) → NodeWithin limit n
    fits m le n e = subst (NodeWithin limit) (some_node m n e) le

-- ---- the climb

-- from t on nodes of the way were written as two: what puts these entries in along the way of v puts those in along that of t, and where the one lacks something the other does
pub record IsClimbing {S V O : Type 0} (s : Ghosts S) (R : Stores V S) (t v : Tree V O) (a b : S) (added more : List NodeEntry) : Type 0 where
  pub ready : HasWay s R v b
  pub few : length more ≤ 2
  pub rest : (u : Tree V O) (c : S) → TurnsClimbed s R more v u b c → TurnsClimbed s R added t u a c
  pub full : (c : S) → LacksWayNode s R more v b c → LacksWayNode s R added t a c
  pub grows : Grows s R (length t.path) 0 t v a b
  pub given : v.head.node_ids + length v.path ≤ t.head.node_ids + length t.path

pub climbs_begin : {S V O : Type 0} (s : Ghosts S) (R : Stores V S) (t : Tree V O) (a : S) (added : List NodeEntry) → HasWay s R t a → length added ≤ 2 → IsClimbing s R t t a a added added
climbs_begin s R t a added ready few = record {
  ready = ready;
  few = few;
  rest = λ u c climb. climb;
  full = λ c l. l;
  grows = record {
    keeps = keeps_refl s a;
    made = same_store_refl R t.store;
    column = refl;
    head = refl;
    nodes_least = omega arith;
    nodes_most = omega arith;
    rows_least = omega arith;
    rows_most = omega arith;
  };
  given = omega arith;
}

module _ {S V O : Type 0} (s : Ghosts S) (R : Stores V S) where
  -- the tree differs in nothing that is told but the way
  way_shows : (t u : Tree V O) (a : S) (path : List (ℕ × ℕ)) → IsMoved t u path → (pages : PageMap) → Shows s R t a pages → Shows s R u a pages
  way_shows t u a path moved pages h =
      more_shows s R t u a (moved_store t u path moved) (moved_pages t u path moved) (moved_column t u path moved) (subst (λ (x : TreeHead). Gives t.head x) (sym (moved_head t u path moved)) (gives_root t.head t.head.root)) pages h

  pub way_ready : (t u : Tree V O) (a : S) (path : List (ℕ × ℕ)) → IsMoved t u path → HasWay s R t a → IsShown s R u a
  way_ready t u a path moved ready = record { sound = ready.sound; held = λ told. let h = ready.held told in (h.0, way_shows t u a path moved h.0 h.1.0) }

  -- the lowest step is taken out of the way
  pub node_at : (t u : Tree V O) (a : S) (id place : ℕ) (path : List (ℕ × ℕ)) → IsMoved t u path → t.path ≡ (id, place) ∷ path → HasWay s R t a → HasNodeAt s R id u a
  node_at t u a id place path moved e ready = λ told.
      let h = ready.held told in
      let k = at_step t.head.node_limit h.0 t.head.root id place t.path path e h.1.1 in
      (h.0, k.node, way_shows t u a path moved h.0 h.1.0, k.is)

  -- there is no step
  module _ (t u : Tree V O) (a : S) (path : List (ℕ × ℕ)) (moved : IsMoved t u path) (same : path ≡ t.path) where
    path_same : u.path ≡ t.path
    path_same = moved.way ∙ same

    head_same : u.head ≡ t.head
    head_same = moved_head t u path moved

    end_shows : (pages : PageMap) → ShowsWay s R t a pages → ShowsWay s R u a pages
    end_shows pages h = (
      way_shows t u a path moved pages h.0,
      subst (λ (x : TreeHead). CanClimb x.node_limit pages x.root u.path) (sym head_same) (subst (λ (p : List (ℕ × ℕ)). CanClimb t.head.node_limit pages t.head.root p) (sym path_same) h.1),
    )

    pub end_ready : HasWay s R t a → HasWay s R u a
    end_ready ready = record { sound = ready.sound; held = λ told. let h = ready.held told in (h.0, end_shows h.0 h.1) }

    pub climbs_end : (w : Tree V O) (b : S) (added : List NodeEntry) → TurnsClimbed s R added u w a b → TurnsClimbed s R added t w a b
    climbs_end w b added turns = record {
      sound = turns.sound;
      means = λ pages h.
          let k = turns.means pages (end_shows pages h) in (
            k.0,
            k.1,
            (
              subst (λ (x : TreeHead). ClimbsWith x.node_limit pages k.0 t.height w.height x.root w.head.root t.path added) head_same
                  (subst (λ (n : ℕ). ClimbsWith u.head.node_limit pages k.0 n w.height u.head.root w.head.root t.path added) (moved_height t u path moved)
                  (subst (λ (p : List (ℕ × ℕ)). ClimbsWith u.head.node_limit pages k.0 u.height w.height u.head.root w.head.root p added) path_same k.2.0)),
              subst (λ (x : TreeHead). ComesAnew x pages k.0) head_same k.2.1,
              subst (λ (x : TreeHead). WritesKnown x.node_limit (way_most x t.path) x.root t.path added pages k.0) head_same (subst (λ (p : List (ℕ × ℕ)). WritesKnown u.head.node_limit (way_most u.head p) u.head.root p added pages k.0) path_same k.2.2),
              subst (λ (x : TreeHead). FillsIds x w.head k.0) head_same k.2.3,
            ),
          );
      others = others_at s _ _ a b (ap R.file_of (moved_store t u path moved)) turns.others;
    }

  -- t at the start, u without the step, v once the node was read, w at the end
  module _ (t u v : Tree V O) (a b : S) (id place : ℕ) (path : List (ℕ × ℕ)) (moved : IsMoved t u path) (e : t.path ≡ (id, place) ∷ path) (peeks : Peeks s R u v a b)
      (node : Node) (is_read : IsPageOf s R node_page id u a node) (added : List NodeEntry) (few : length added ≤ 2) where
    vhead : v.head ≡ t.head
    vhead = peeks.still.head ∙ moved_head t u path moved

    vheight : v.height ≡ t.height
    vheight = peeks.still.height ∙ moved_height t u path moved

    vpath : v.path ≡ path
    vpath = peeks.still.path ∙ moved.way

    vmade : SameStore R t.store v.store
    vmade = same_store_then R t.store u.store v.store (same_store_at s R t.store u.store (moved_store t u path moved)) peeks.still.made

    read_shows : (pages : PageMap) → Shows s R t a pages → Shows s R v b pages
    read_shows pages h = looked_shows s R u v a b peeks.looks peeks.still.head peeks.still.column pages (way_shows t u a path moved pages h)

    pub read_ready : HasWay s R t a → IsShown s R v b
    read_ready ready = record { sound = peeks.looks.reads.sound; held = λ told. let h = ready.held told in (h.0, read_shows h.0 h.1.0) }

    pub step_given : HasWay s R t a → s.tells → IsNodeId v.head id
    step_given ready told =
        let h = ready.held told in
        let k = at_step t.head.node_limit h.0 t.head.root id place t.path path e h.1.1 in
        subst (λ (x : TreeHead). IsNodeId x id) (sym vhead) (node_given t.head h.1.0.1.records h.0 id k.node h.1.0.1.head h.1.0.1.held k.is)

    here : (pages : PageMap) → ShowsWay s R t a pages → pages id ≡ Some (node_page node)
    here pages h =
        let k = at_step t.head.node_limit pages t.head.root id place t.path path e h.1 in
        k.is ∙ ap (λ (n : Node). Some (node_page n)) (sym (is_read pages k.node (way_shows t u a path moved pages h.0) k.is))

    long : (pages : PageMap) → ShowsWay s R t a pages → length node.entries ≤ t.head.node_limit
    long pages h = h.1.within id node (here pages h)

    spliced_known : (pages : PageMap) → ShowsWay s R t a pages → (key : List ℕ) → IsAmong entry_key key (spliced node.entries place added) → IsAmong entry_key key added ⊎ StoodIn pages key
    spliced_known pages h key k = ⊎_elim
        (λ (front : IsAmong entry_key key (take place node.entries)). inr (stood (subst (λ (x : List NodeEntry). IsAmong entry_key key x) (take-append-drop place node.entries) (among_front entry_key key (take place node.entries) (drop place node.entries) front))))
        (λ (rest : IsAmong entry_key key (added ++ drop place node.entries)). ⊎_elim (λ (own : IsAmong entry_key key added). inl own)
        (λ (back : IsAmong entry_key key (drop place node.entries)). inr (stood (subst (λ (x : List NodeEntry). IsAmong entry_key key x) (take-append-drop place node.entries) (among_back entry_key key (take place node.entries) (drop place node.entries) back))))
        (among_join entry_key key added (drop place node.entries) rest))
        (among_join entry_key key (take place node.entries) (added ++ drop place node.entries) k)
      where
        stood : IsAmong entry_key key node.entries → StoodIn pages key
        stood among = record { id = id; node = node; is = here pages h; among = among }

    -- a section of it, with the entries put in
    in_way : (pages : PageMap) → ShowsWay s R t a pages → (n : Node) → IsSection node.heir (spliced node.entries place added) n → IsWayOf t.head.node_limit (way_most t.head t.path) pages t.head.root t.path added n
    in_way pages h n section = subst (λ (p : List (ℕ × ℕ)). IsWayOf t.head.node_limit (way_most t.head t.path) pages t.head.root p added n) (sym e) (node, here pages h, inl section)

    -- the node with the entries put in, and a half of it
    whole_known : length (spliced node.entries place added) ≤ t.head.node_limit → (pages : PageMap) → ShowsWay s R t a pages → IsKnownNode t.head.node_limit (way_most t.head t.path) t.head.root t.path added pages (node_page (record { heir = node.heir; entries = spliced node.entries place added }))
    whole_known within pages h = (
      record { heir = node.heir; entries = spliced node.entries place added },
      refl,
      within,
      all_map (λ (x : NodeEntry). IsAmong entry_key x.key (spliced node.entries place added)) (λ (x : NodeEntry). IsAmong entry_key x.key added ⊎ StoodIn pages x.key) (spliced node.entries place added) (λ x k. spliced_known pages h x.key k) (keys_in [] (spliced node.entries place added)),
      in_way pages h (record { heir = node.heir; entries = spliced node.entries place added }) (section_whole node.heir (spliced node.entries place added)),
    )

    few_more : (pages : PageMap) → ShowsWay s R t a pages → length (spliced node.entries place added) / 2 ≤ t.head.node_limit
    few_more pages h = omega (arith, spliced_long node.entries place added, long pages h, few, h.0.1.head.node_limit.0)

    half_known : (n : Node) → length n.entries ≤ length (spliced node.entries place added) / 2 → AllByRecursion (λ x. IsAmong entry_key x.key (spliced node.entries place added)) n.entries → IsSection node.heir (spliced node.entries place added) n
        → (pages : PageMap) → ShowsWay s R t a pages → IsKnownNode t.head.node_limit (way_most t.head t.path) t.head.root t.path added pages (node_page n)
    half_known n half among section pages h = (
      n,
      refl,
      omega (arith, half, few_more pages h),
      all_map (λ (x : NodeEntry). IsAmong entry_key x.key (spliced node.entries place added)) (λ (x : NodeEntry). IsAmong entry_key x.key added ⊎ StoodIn pages x.key) n.entries (λ x k. spliced_known pages h x.key k) among,
      in_way pages h n section,
    )

    vcolumn : v.column ≡ t.column
    vcolumn = peeks.still.column ∙ moved_column t u path moved

    -- what may not have room there
    abbrev Fine : PageMap → Page → Type 0
    Fine pages p = IsKnownNode t.head.node_limit (way_most t.head t.path) t.head.root t.path added pages p

    pub lacks_whole : (d : S) → length (spliced node.entries place added) ≤ t.head.node_limit → LacksThis s R id (node_page (record { heir = node.heir; entries = spliced node.entries place added })) v b d
        → LacksSeen s R (ShowsWay s R t a) (IsOwn t.head 0 (suc (length t.path))) Fine t a d
    lacks_whole d within l =
        seen_still s R (Shows s R v b) (ShowsWay s R t a) (λ pages i. i ≡ id) (IsOwn t.head 0 (suc (length t.path))) (λ pages p. p ≡ node_page (record { heir = node.heir; entries = spliced node.entries place added })) Fine t v a b d peeks.looks.keeps vmade vcolumn (λ pages h. read_shows pages h.0)
        (λ pages h i e. inl (stood_at pages id i (node_page node) (here pages h) e))
        (λ p pages h is. (
          record { heir = node.heir; entries = spliced node.entries place added },
          is,
          within,
          all_map (λ (x : NodeEntry). IsAmong entry_key x.key (spliced node.entries place added)) (λ (x : NodeEntry). IsAmong entry_key x.key added ⊎ StoodIn pages x.key) (spliced node.entries place added) (λ x k. spliced_known pages h x.key k) (keys_in [] (spliced node.entries place added)),
          in_way pages h (record { heir = node.heir; entries = spliced node.entries place added }) (section_whole node.heir (spliced node.entries place added)),
        )) l

    pub took : (w : Tree V O) (d : S) → length (spliced node.entries place added) ≤ t.head.node_limit
        → PutsAt s R id (node_page (record { heir = node.heir; entries = spliced node.entries place added })) v w b d → StaysStill s R v w b d → TurnsClimbed s R added t w a d
    took w d within put still = record {
      sound = put.sound;
      means = λ pages h. (
        put_at id (node_page (record { heir = node.heir; entries = spliced node.entries place added })) pages,
        put.means pages (read_shows pages h.0),
        (
          subst (λ (p : List (ℕ × ℕ)). ClimbsWith t.head.node_limit pages (put_at id (node_page (record { heir = node.heir; entries = spliced node.entries place added })) pages) t.height w.height t.head.root w.head.root p added) (sym e)
              (subst (λ (n : ℕ). ClimbsWith t.head.node_limit pages (put_at id (node_page (record { heir = node.heir; entries = spliced node.entries place added })) pages) t.height n t.head.root w.head.root ((id, place) ∷ path) added) (sym (still.height ∙ vheight))
              (subst (λ (n : ℕ). ClimbsWith t.head.node_limit pages (put_at id (node_page (record { heir = node.heir; entries = spliced node.entries place added })) pages) t.height t.height t.head.root n ((id, place) ∷ path) added) (sym (ap (λ (x : TreeHead). x.root) (still.head ∙ vhead)))
              (node_takes t.head.node_limit pages t.height t.head.root id place path node added (here pages h) within))),
          anew_over t.head pages id (node_page (record { heir = node.heir; entries = spliced node.entries place added })) (node_page node) (here pages h),
          one_known t.head.node_limit (way_most t.head t.path) t.head.root t.path added pages id (record { heir = node.heir; entries = spliced node.entries place added }) (whole_known within pages h),
          fills_none t.head w.head (put_at id (node_page (record { heir = node.heir; entries = spliced node.entries place added })) pages) (ap (λ (x : TreeHead). x.leaf_ids) (still.head ∙ vhead)) (ap (λ (x : TreeHead). x.node_ids) (still.head ∙ vhead)),
        ),
      );
      others = others_then s (Only (file_in R t)) a b d (record { same = λ told g other. peeks.looks.reads.now told g }) (others_at s _ _ b d vmade.file put.others);
    }

    pub lacks_half : (d : S) → LacksSeen s R (Shows s R v b) (IsOneOrNext id v.head) (λ pages p. IsNodeOf (length (spliced node.entries place added) / 2) node.heir (spliced node.entries place added) p) v b d
        → LacksSeen s R (ShowsWay s R t a) (IsOwn t.head 0 (suc (length t.path))) Fine t a d
    lacks_half d l =
        seen_still s R (Shows s R v b) (ShowsWay s R t a) (IsOneOrNext id v.head) (IsOwn t.head 0 (suc (length t.path))) (λ pages p. IsNodeOf (length (spliced node.entries place added) / 2) node.heir (spliced node.entries place added) p) Fine t v a b d peeks.looks.keeps vmade vcolumn (λ pages h. read_shows pages h.0)
        (λ pages h i own. ⊎_elim
        (λ (e : i ≡ id). inl (stood_at pages id i (node_page node) (here pages h) e))
        (λ (next : IsNext v.head 0 1 i). inr (next_more t.head v.head 0 1 0 (suc (length t.path)) i (omega (arith, ap (λ (y : TreeHead). y.leaf_ids) vhead)) (omega (arith, ap (λ (y : TreeHead). y.leaf_ids) vhead))
        (omega (arith, ap (λ (y : TreeHead). y.node_ids) vhead)) (omega (arith, ap (λ (y : TreeHead). y.node_ids) vhead)) next))
        own)
        (λ p pages h n. (
          n.0,
          n.1,
          omega (arith, n.2, few_more pages h),
          all_map (λ (x : NodeEntry). IsAmong entry_key x.key (spliced node.entries place added)) (λ (x : NodeEntry). IsAmong entry_key x.key added ⊎ StoodIn pages x.key) n.0.entries (λ x k. spliced_known pages h x.key k) n.3,
          in_way pages h n.0 n.4,
        )) l

    module _ (w : Tree V O) (d : S) (above : List NodeEntry) (turns : TurnsDivided s R id (record { heir = node.heir; entries = spliced node.entries place added }) above v w b d)
        (grows : Grows s R 1 0 v w b d) (way : (w.path ≡ v.path) × (w.head.root ≡ v.head.root)) (over : t.head.node_limit < length (spliced node.entries place added)) where
      wpath : w.path ≡ v.path
      wpath = way.0

      wroot : w.head.root ≡ v.head.root
      wroot = way.1

      wlimit : w.head.node_limit ≡ v.head.node_limit
      wlimit = ap (λ (x : TreeHead). x.node_limit) grows.head

      wheight : w.height ≡ v.height
      wheight = omega (arith, grows.rows_least, grows.rows_most)

      on_way : (pages new : PageMap) → ShowsWay s R t a pages → Divided v.head.node_ids id (record { heir = node.heir; entries = spliced node.entries place added }) above pages new → CanClimb w.head.node_limit new w.head.root w.path
      on_way pages new h div =
          subst (λ (p : List (ℕ × ℕ)). CanClimb w.head.node_limit new w.head.root p) (sym (wpath ∙ vpath))
          (subst (λ (n : ℕ). CanClimb n new w.head.root path) (sym (wlimit ∙ ap (λ (x : TreeHead). x.node_limit) vhead))
          (subst (λ (n : ℕ). CanClimb t.head.node_limit new n path) (sym (wroot ∙ ap (λ (x : TreeHead). x.root) vhead))
          (step_on t.head.node_limit pages new t.head.root id place t.path path (record { heir = node.heir; entries = spliced node.entries place added }) above e h.1 div (few_more pages h))))

      pub on_ready : HasWay s R t a → HasWay s R w d
      on_ready ready = record { sound = turns.sound; held = λ told. let h = ready.held told in let k = turns.means h.0 (read_shows h.0 h.1.0) in (k.0, (k.1, on_way h.0 k.0 h.1 k.2.0)) }

      mid_known : (pages mid : PageMap) → ShowsWay s R t a pages → Divided v.head.node_ids id (record { heir = node.heir; entries = spliced node.entries place added }) above pages mid → (key : List ℕ)
          → IsAmong entry_key key above ⊎ StoodIn mid key → IsAmong entry_key key added ⊎ StoodIn pages key
      mid_known pages mid h div key k = ⊎_elim
          (λ (own : IsAmong entry_key key above). up (subst (λ (x : List NodeEntry). IsAmong entry_key key x) div.above_is own))
          (λ (stood : StoodIn mid key).
          put_all (MayStand added pages key) (put_at div.second (node_page (record { heir = div.up.child; entries = div.back })) pages) id (node_page (record { heir = node.heir; entries = div.front }))
          (λ n e among. spliced_known pages h key (subst (λ (x : List NodeEntry). IsAmong entry_key key x) (sym div.cut) (among_front entry_key key div.front (div.up ∷ div.back) (subst (λ (x : Node). IsAmong entry_key key x.entries) (sym (some_node _ n e)) among))))
          (λ j other. put_all (MayStand added pages key) pages div.second (node_page (record { heir = div.up.child; entries = div.back }))
          (λ n e among. spliced_known pages h key (subst (λ (x : List NodeEntry). IsAmong entry_key key x) (sym div.cut) (among_back entry_key key div.front (div.up ∷ div.back) (inr (subst (λ (x : Node). IsAmong entry_key key x.entries) (sym (some_node _ n e)) among)))))
          (λ i away n e among. inr (record { id = i; node = n; is = e; among = among })) j)
          stood.id stood.node (ap (λ (x : PageMap). x stood.id) (sym div.are) ∙ stood.is) stood.among)
          k
        where
          up : IsAmong entry_key key (record { child = div.second; key = div.up.key } ∷ []) → IsAmong entry_key key added ⊎ StoodIn pages key
          up (inl e) = spliced_known pages h key (subst (λ (x : List ℕ). IsAmong entry_key x (spliced node.entries place added)) e (keys_cut (spliced node.entries place added) div.front div.back div.up div.cut).1.0)
          up (inr none) = absurd none

      -- the nodes above are as they were
      apart : (pages mid : PageMap) → ShowsWay s R t a pages → Divided v.head.node_ids id (record { heir = node.heir; entries = spliced node.entries place added }) above pages mid → AllByRecursion (λ (step : ℕ × ℕ). mid step.0 ≡ pages step.0) path
      apart pages mid h div =
          subst (λ (q : PageMap). AllByRecursion (λ (step : ℕ × ℕ). q step.0 ≡ pages step.0) path) (sym div.are)
          (way_same pages t.head.root id place div.second path (record { heir = node.heir; entries = div.front }) (record { heir = div.up.child; entries = div.back }) h.1.crumbs h.1.place (sym e ∙ h.1.along) h.1.way div.fresh)

      mid_most : way_most w.head w.path ≤ way_most t.head t.path
      mid_most = omega (arith, grows.nodes_most, ap (λ (y : TreeHead). y.node_ids) vhead, ap length (wpath ∙ vpath), ap length e)

      above_way : (pages mid : PageMap) → ShowsWay s R t a pages → Divided v.head.node_ids id (record { heir = node.heir; entries = spliced node.entries place added }) above pages mid → (n : Node) → IsWayOf w.head.node_limit (way_most w.head w.path) mid w.head.root w.path above n → IsWayOf t.head.node_limit (way_most t.head t.path) pages t.head.root t.path added n
      above_way pages mid h div n is =
          let entry : NodeEntry = record { child = div.second; key = div.up.key } in
          let limit : w.head.node_limit ≡ t.head.node_limit = wlimit ∙ ap (λ (y : TreeHead). y.node_limit) vhead in
          let i1 : IsWayOf w.head.node_limit (way_most w.head w.path) mid w.head.root w.path (entry ∷ []) n = subst (λ (es : List NodeEntry). IsWayOf w.head.node_limit (way_most w.head w.path) mid w.head.root w.path es n) div.above_is is in
          let i2 : IsWayOf w.head.node_limit (way_most w.head w.path) mid w.head.root path (entry ∷ []) n = subst (λ (p : List (ℕ × ℕ)). IsWayOf w.head.node_limit (way_most w.head w.path) mid w.head.root p (entry ∷ []) n) (wpath ∙ vpath) i1 in
          let i3 : IsWayOf w.head.node_limit (way_most w.head w.path) mid t.head.root path (entry ∷ []) n = subst (λ (r : ℕ). IsWayOf w.head.node_limit (way_most w.head w.path) mid r path (entry ∷ []) n) (wroot ∙ ap (λ (y : TreeHead). y.root) vhead) i2 in
          let i4 : IsWayOf t.head.node_limit (way_most w.head w.path) mid t.head.root path (entry ∷ []) n = subst (λ (m : ℕ). IsWayOf m (way_most w.head w.path) mid t.head.root path (entry ∷ []) n) limit i3 in
          let i5 : IsWayOf t.head.node_limit (way_most t.head t.path) pages t.head.root path (entry ∷ []) n =
          way_back t.head.node_limit (way_most t.head t.path) pages mid t.head.root path (entry ∷ []) n (apart pages mid h div) (way_more t.head.node_limit (way_most w.head w.path) (way_most t.head t.path) mid t.head.root path (entry ∷ []) n mid_most i4) in
          let below : IsWayId (way_most t.head t.path) div.second = (omega (arith, div.next_id), omega (arith, div.next_id, ap (λ (y : TreeHead). y.node_ids) vhead)) in
          let among : IsAmong entry_key entry.key (spliced node.entries place added) = (keys_cut (spliced node.entries place added) div.front div.back div.up div.cut).1.0 in
          subst (λ (p : List (ℕ × ℕ)). IsWayOf t.head.node_limit (way_most t.head t.path) pages t.head.root p added n) (sym e) (node, here pages h, inr (entry, among, over, below, i5))

      above_known : (pages mid : PageMap) → ShowsWay s R t a pages → Divided v.head.node_ids id (record { heir = node.heir; entries = spliced node.entries place added }) above pages mid → (p : Page) → IsKnownNode w.head.node_limit (way_most w.head w.path) w.head.root w.path above mid p
          → IsKnownNode t.head.node_limit (way_most t.head t.path) t.head.root t.path added pages p
      above_known pages mid h div p n =
          let limit : w.head.node_limit ≡ t.head.node_limit = wlimit ∙ ap (λ (y : TreeHead). y.node_limit) vhead in (
            n.0,
            n.1,
            omega (arith, n.2, limit),
            all_map (λ (x : NodeEntry). IsAmong entry_key x.key above ⊎ StoodIn mid x.key) (λ (x : NodeEntry). IsAmong entry_key x.key added ⊎ StoodIn pages x.key) n.0.entries (λ x kn. mid_known pages mid h div x.key kn) n.3,
            above_way pages mid h div n.0 n.4,
          )

      mid_written : (pages mid : PageMap) → ShowsWay s R t a pages → Divided v.head.node_ids id (record { heir = node.heir; entries = spliced node.entries place added }) above pages mid → WritesKnown t.head.node_limit (way_most t.head t.path) t.head.root t.path added pages mid
      mid_written pages mid h div j p is =
          let left : Node = record { heir = node.heir; entries = div.front } in
          let right : Node = record { heir = div.up.child; entries = div.back } in
          let among = keys_cut (spliced node.entries place added) div.front div.back div.up div.cut in
          ⊎_elim
          (λ (here_is : p ≡ node_page left). inr (subst (λ (q : Page). IsKnownNode t.head.node_limit (way_most t.head t.path) t.head.root t.path added pages q) (sym here_is) (half_known left (half_front (spliced node.entries place added) div.front div.back div.up div.cut div.half) among.0 (section_front node.heir (spliced node.entries place added) div.front div.back div.up div.cut) pages h)))
          (λ (rest : put_at div.second (node_page right) pages j ≡ Some p).
          one_known t.head.node_limit (way_most t.head t.path) t.head.root t.path added pages div.second right (half_known right (half_back (spliced node.entries place added) div.front div.back div.up div.cut div.half) among.1.1 (section_back node.heir (spliced node.entries place added) div.front div.back div.up div.cut) pages h) j p rest)
          (put_either (put_at div.second (node_page right) pages) id j (node_page left) p (ap (λ (x : PageMap). x j) (sym div.are) ∙ is))

      some_page : Some (node_page node) ≡ None → ⊥
      some_page none = cc

      mid_leaves : w.head.leaf_ids ≤ t.head.leaf_ids + 0
      mid_leaves = omega (arith, ap (λ (y : TreeHead). y.leaf_ids) vhead, ap (λ (y : TreeHead). y.leaf_ids) grows.head)

      mid_nodes : w.head.node_ids ≤ t.head.node_ids + suc (length t.path)
      mid_nodes = omega (arith, grows.nodes_most, ap (λ (y : TreeHead). y.node_ids) vhead)

      mid_anew : (pages mid : PageMap) → ShowsWay s R t a pages → ((pages id ≡ None → ⊥) → ComesAnew v.head pages mid) → ComesAnew t.head pages mid
      mid_anew pages mid h anew = subst (λ (y : TreeHead). ComesAnew y pages mid) vhead (anew (λ none. absurd (some_page (sym (here pages h) ∙ none))))

      -- what had a page or is next behind them did so, or is, before
      mid_own : (pages mid : PageMap) → ShowsWay s R t a pages → Shows s R w d mid → ((pages id ≡ None → ⊥) → ComesAnew v.head pages mid) → (i : ℕ) → IsOwn w.head 0 (suc (length w.path)) mid i → IsOwn t.head 0 (suc (length t.path)) pages i
      mid_own pages mid h shows anew i (inl stood) = came_stood t.head w.head pages mid 0 (suc (length t.path)) i (mid_anew pages mid h anew) (λ p is. shown_given s R w d mid shows i p is) mid_leaves mid_nodes stood
      mid_own pages mid h shows anew i (inr next) = inr (next_more t.head w.head 0 (suc (length w.path)) 0 (suc (length t.path)) i
          (omega (arith, ap (λ (y : TreeHead). y.leaf_ids) vhead, ap (λ (y : TreeHead). y.leaf_ids) grows.head)) (omega (arith, ap (λ (y : TreeHead). y.leaf_ids) vhead, ap (λ (y : TreeHead). y.leaf_ids) grows.head))
          (omega (arith, grows.nodes_least, ap (λ (y : TreeHead). y.node_ids) vhead)) (omega (arith, grows.nodes_most, ap (λ (y : TreeHead). y.node_ids) vhead, ap length (wpath ∙ vpath), ap length e)) next)

      pub lacks_above : (f : S) → LacksSeen s R (ShowsWay s R w d) (IsOwn w.head 0 (suc (length w.path))) (IsKnownNode w.head.node_limit (way_most w.head w.path) w.head.root w.path above) w d f → LacksSeen s R (ShowsWay s R t a) (IsOwn t.head 0 (suc (length t.path))) Fine t a f
      lacks_above f l =
          seen_after s R (ShowsWay s R w d) (ShowsWay s R t a) (IsOwn w.head 0 (suc (length w.path))) (IsOwn t.head 0 (suc (length t.path))) (IsKnownNode w.head.node_limit (way_most w.head w.path) w.head.root w.path above) Fine t w a d f (keeps_then s a b d peeks.looks.keeps grows.keeps) (same_store_then R t.store v.store w.store vmade grows.made) (grows.column ∙ vcolumn)
          (λ pages h.
          let k = turns.means pages (read_shows pages h.0) in
          record {
            seen = (k.0, (k.1, on_way pages k.0 h k.2.0));
            own = λ i own. mid_own pages k.0 h k.1 k.2.1 i own;
            was = λ j p is. old_or pages (IsOwn t.head 0 (suc (length t.path)) pages) (Fine pages) j p
                (came_own t.head w.head pages k.0 0 (suc (length t.path)) j p (mid_anew pages k.0 h k.2.1) (shown_given s R w d k.0 k.1 j p is) mid_leaves mid_nodes is)
                (mid_written pages k.0 h k.2.0 j p is);
            fine = λ p known. above_known pages k.0 h k.2.0 p known;
          }) l

      pub climbed_on : (x : Tree V O) (f : S) → TurnsClimbed s R above w x d f → TurnsClimbed s R added t x a f
      climbed_on x f climb = record {
        sound = climb.sound;
        means = λ pages h.
            let k = turns.means pages (read_shows pages h.0) in
            let div : Divided v.head.node_ids id (record { heir = node.heir; entries = spliced node.entries place added }) above pages k.0 = k.2.0 in
            let l = climb.means k.0 (k.1, on_way pages k.0 h div) in
            let half : length (spliced node.entries place added) / 2 ≤ t.head.node_limit = few_more pages h in (
              l.0,
              l.1,
              (
                join pages k.0 l.0 h div half l.2.0,
                anew_then t.head w.head pages k.0 l.0 (given_on) (subst (λ (y : TreeHead). ComesAnew y pages k.0) vhead (k.2.1 (λ none. absurd (some_none (sym (here pages h) ∙ none))))) l.2.1,
                λ j p is. ⊎_elim (λ (was : k.0 j ≡ Some p). mid_written pages k.0 h div j p was) (λ known. inr (above_known pages k.0 h div p known)) (l.2.2 j p is),
                fills_then t.head w.head x.head l.0 (fills_on t.head w.head k.0 l.0 (nodes_stay w.head.node_limit k.0 l.0 l.2.0.limits) (subst (λ (y : TreeHead). FillsIds y w.head k.0) vhead k.2.2)) l.2.3,
              ),
            );
        others = others_then s (Only (file_in R t)) a d f
            (others_then s (Only (file_in R t)) a b d (record { same = λ told g other. peeks.looks.reads.now told g }) (others_at s _ _ b d vmade.file turns.others))
            (others_at s _ _ d f (grows.made.file ∙ vmade.file) climb.others);
      }
        where
          same_root : w.head.root ≡ t.head.root
          same_root = wroot ∙ ap (λ (y : TreeHead). y.root) vhead

          some_none : Some (node_page node) ≡ None → ⊥
          some_none e = cc

          given_on : (j : ℕ) → IsGiven t.head j → IsGiven w.head j
          given_on j (inl g) = inl (g.0, omega (arith, g.1, ap (λ (y : TreeHead). y.leaf_ids) vhead, ap (λ (y : TreeHead). y.leaf_ids) grows.head))
          given_on j (inr g) = inr (g.0, omega (arith, g.1, ap (λ (y : TreeHead). y.node_ids) vhead, grows.nodes_least))

          same_limit : w.head.node_limit ≡ t.head.node_limit
          same_limit = wlimit ∙ ap (λ (y : TreeHead). y.node_limit) vhead

          join : (pages mid new : PageMap) → ShowsWay s R t a pages → (div : Divided v.head.node_ids id (record { heir = node.heir; entries = spliced node.entries place added }) above pages mid) → length (spliced node.entries place added) / 2 ≤ t.head.node_limit
              → ClimbsWith w.head.node_limit mid new w.height x.height w.head.root x.head.root w.path above → ClimbsWith t.head.node_limit pages new t.height x.height t.head.root x.head.root t.path added
          join pages mid new h div half c =
              let low : PageMap = put_at id (node_page (record { heir = node.heir; entries = div.front })) (put_at div.second (node_page (record { heir = div.up.child; entries = div.back })) pages) in
              let c1 : ClimbsWith t.head.node_limit mid new w.height x.height w.head.root x.head.root w.path above = subst (λ (n : ℕ). ClimbsWith n mid new w.height x.height w.head.root x.head.root w.path above) same_limit c in
              let c2 : ClimbsWith t.head.node_limit mid new t.height x.height w.head.root x.head.root w.path above = subst (λ (n : ℕ). ClimbsWith t.head.node_limit mid new n x.height w.head.root x.head.root w.path above) (wheight ∙ vheight) c1 in
              let c3 : ClimbsWith t.head.node_limit mid new t.height x.height t.head.root x.head.root w.path above = subst (λ (n : ℕ). ClimbsWith t.head.node_limit mid new t.height x.height n x.head.root w.path above) same_root c2 in
              let c4 : ClimbsWith t.head.node_limit mid new t.height x.height t.head.root x.head.root path above = subst (λ (p : List (ℕ × ℕ)). ClimbsWith t.head.node_limit mid new t.height x.height t.head.root x.head.root p above) (wpath ∙ vpath) c3 in
              let c5 : ClimbsWith t.head.node_limit low new t.height x.height t.head.root x.head.root path above = subst (λ (p : PageMap). ClimbsWith t.head.node_limit p new t.height x.height t.head.root x.head.root path above) div.are c4 in
              let c6 : ClimbsWith t.head.node_limit low new t.height x.height t.head.root x.head.root path (record { child = div.second; key = div.up.key } ∷ []) =
              subst (λ (y : List NodeEntry). ClimbsWith t.head.node_limit low new t.height x.height t.head.root x.head.root path y) div.above_is c5 in
              subst (λ (p : List (ℕ × ℕ)). ClimbsWith t.head.node_limit pages new t.height x.height t.head.root x.head.root p added) (sym e)
              (node_parts t.head.node_limit pages new t.height x.height t.head.root x.head.root id place div.second path node added div.front div.back div.up (here pages h) div.fresh div.cut
              (omega (arith, half_front (spliced node.entries place added) div.front div.back div.up div.cut div.half, half)) (omega (arith, half_back (spliced node.entries place added) div.front div.back div.up div.cut div.half, half)) c6)

      -- and so the climb goes on from there
      pub climbing_on : (q : Tree V O) (z : S) (first : List NodeEntry) → length above ≡ 1 → IsClimbing s R q t z a first added → IsClimbing s R q w z d first above
      climbing_on q z first one g =
          let less : w.head.node_ids + length w.path ≤ q.head.node_ids + length q.path = omega (arith, g.given, grows.nodes_most, ap (λ (y : TreeHead). y.node_ids) vhead, ap length (wpath ∙ vpath), ap length e) in
          record {
            ready = on_ready g.ready;
            few = omega (arith, one);
            rest = λ x f climb. g.rest x f (climbed_on x f climb);
            full = λ f l. g.full f (lacks_above f l);
            grows = record {
              keeps = keeps_then s z a d g.grows.keeps (keeps_then s a b d peeks.looks.keeps grows.keeps);
              made = same_store_then R q.store t.store w.store g.grows.made (same_store_then R t.store v.store w.store vmade grows.made);
              column = grows.column ∙ peeks.still.column ∙ moved_column t u path moved ∙ g.grows.column;
              head = grows.head ∙ ap (λ (y : TreeHead). record y { root = w.head.root; node_ids = w.head.node_ids }) (vhead ∙ g.grows.head);
              nodes_least = omega (arith, g.grows.nodes_least, ap (λ (y : TreeHead). y.node_ids) vhead, grows.nodes_least);
              nodes_most = omega (arith, less);
              rows_least = omega (arith, g.grows.rows_least, vheight, wheight);
              rows_most = omega (arith, g.grows.rows_most, vheight, wheight);
            };
            given = less;
          }

-- ---- no room past the root

module _ {S V O : Type 0} (s : Ghosts S) (R : Stores V S) where
  pub lacks_end : (t u : Tree V O) (a b : S) (added : List NodeEntry) (path : List (ℕ × ℕ)) → IsMoved t u path → t.path ≡ [] → LacksSeen s R (Shows s R u a) (IsOwn u.head 0 1) (λ pages p. IsNodeOf 2 u.head.root added p) u a b
      → LacksSeen s R (ShowsWay s R t a) (IsOwn t.head 0 (suc (length t.path))) (IsKnownNode t.head.node_limit (way_most t.head t.path) t.head.root t.path added) t a b
  lacks_end t u a b added path moved none l =
      seen_still s R (Shows s R u a) (ShowsWay s R t a) (IsOwn u.head 0 1) (IsOwn t.head 0 (suc (length t.path))) (λ pages p. IsNodeOf 2 u.head.root added p) (IsKnownNode t.head.node_limit (way_most t.head t.path) t.head.root t.path added) t u a a b (keeps_refl s a) (same_store_at s R t.store u.store (moved_store t u path moved)) (moved_column t u path moved)
      (λ pages h. way_shows s R t u a path moved pages h.0)
      (λ pages h i own. own_more t.head u.head 0 1 0 (suc (length t.path)) i pages
      (omega (arith, ap (λ (y : TreeHead). y.leaf_ids) (moved_head t u path moved))) (omega (arith, ap (λ (y : TreeHead). y.leaf_ids) (moved_head t u path moved)))
      (omega (arith, ap (λ (y : TreeHead). y.node_ids) (moved_head t u path moved))) (omega (arith, ap (λ (y : TreeHead). y.node_ids) (moved_head t u path moved))) own)
      (λ p pages h n. (
        n.0,
        n.1,
        omega (arith, n.2, h.0.1.head.node_limit.0),
        all_map (λ (x : NodeEntry). IsAmong entry_key x.key added) (λ (x : NodeEntry). IsAmong entry_key x.key added ⊎ StoodIn pages x.key) n.0.entries (λ x k. inl k) n.3,
        subst (λ (q : List (ℕ × ℕ)). IsWayOf t.head.node_limit (way_most t.head t.path) pages t.head.root q added n.0) (sym none) (subst (λ (r : ℕ). IsSection r added n.0) (ap (λ (x : TreeHead). x.root) (moved_head t u path moved)) n.4),
      )) l
