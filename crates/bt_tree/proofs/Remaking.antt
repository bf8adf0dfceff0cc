-- A tree in one leaf of which there are other items, where it stands or parted.
use Rattle.std.proofs.Common.{◌≡◌, ◌≢◌, ℕ, suc, ◌+◌, ◌<◌, List, [], ◌∷◌, ◌++◌, Bool, true, false, Option, Some, None, length, map, take, refl, sym, ap, ◌∙◌, subst, inl, inr, ⊎_elim, arith, ◌⊎◌}
use Rattle.std.specs.Prelude.{if◌then◌else◌, ◌==◌}
use Rattle.std.specs.FinMap.{get}
use Rattle.std.specs.List.{AllByRecursion}
use Rattle.std.specs.declared.cmp.Ordering.{Ordering}
use Rattle.std.proofs.lemmas.Bool.Decides.{nat_tests}
use Rattle.std.proofs.lemmas.Grind.{flat_map-append}
use Rattle.std.proofs.lemmas.List.{append-nil}
use Rattle.tc_base.specs.Maps.{Map}
use Rattle.tc_base.specs.declared.order.Order.{Ghosts as Orders}
use Rattle.tc_base.specs.declared.seq.Pair.{Pair}
use Rattle.tc_space.specs.Frames.{Writes, others_then}
use Rattle.tc_space.specs.Stores.{Only}
use Rattle.tc_space.specs.declared.records.Records.{Ghosts as Stores}
use Rattle.tc_space.specs.declared.space.Space.{Ghosts}
use Rattle.bt_page.specs.Limits.{NodeWithin}
use Rattle.bt_page.specs.declared.page.Item.{Item}
use Rattle.bt_page.specs.declared.page.Leaf.{Leaf}
use Rattle.bt_page.specs.declared.page.Node.{Node}
use Rattle.bt_rows.specs.declared.head.TreeHead.{TreeHead}
use Rattle.bt_rows.specs.declared.page.LeafAt.{LeafAt}
use Rattle.bt_rows.specs.declared.page.Page.{Page}
use Rattle.bt_rows.specs.declared.page.Page.TheVariants.{Leaf as leaf_page, Node as node_page}
use Rattle.bt_rows.specs.declared.page.Slot.{Slot}
use Rattle.bt_rows.specs.Levels.{LeavesHeld, NodeAt, Stands}
use Rattle.bt_rows.specs.Orders.{IsOrder, before_by}
use Rattle.bt_rows.specs.Pages.{PageMap, AreHeld}
use Rattle.bt_rows.specs.Rows.{first_id, last_id}
use Rattle.bt_rows.specs.Rules.{B1, B5, InOrder, IsWithin, LeafLimits, item_pairs, leaf_pairs, pairs_of}
use Rattle.bt_ways.specs.Changes.{ItemsWithin, items_pairs}
use Rattle.bt_ways.specs.Climbs.{ClimbsWith}
use Rattle.bt_ways.specs.Laws.{parted_leaves}
use Rattle.bt_ways.specs.Parts.{HasItems, Part, all_items, part_entry, part_slot, parted, relinked, with_parts}
use Rattle.bt_ways.specs.Ways.{Found}
use Rattle.bt_ways.specs.Writes.{put_at, put_leaves}
use Rattle.bt_ways.proofs.Keys.{all_join, all_map}
use Rattle.bt_ways.proofs.Parting.{leaf_changes, leaf_parts}
use Rattle.bt_ways.proofs.Within.{items_within}
use Rattle.bt_page.specs.Pages.{HasValue}
use Rattle.bt_page.specs.declared.page.NodeEntry.{NodeEntry}
use Rattle.bt_tree.specs.declared.tree.Tree.{Tree}
use Rattle.bt_tree.specs.Climbing.{IsAmong, StoodIn}
use Rattle.bt_tree.specs.Inserting.{AreItemsOf, IsPutPage, WritesPages, pair_key}
use Rattle.bt_tree.specs.Removing.{LowersRoot}
use Rattle.bt_tree.specs.Meaning.{IsOpen, Means, Meant, file_in}
use Rattle.bt_tree.specs.Numbers.{with_pairs}
use Rattle.bt_tree.specs.Paging.{ComesAnew, FillsIds, IsLeafId, IsOwn, LacksPage, LacksSeen, LacksThis, PutsAt, Seen, Shows, StaysStill}
use Rattle.bt_tree.specs.Parting.{AtLeaf, HasLeaf, IsParted, IsPiece, IsStretch, ShowsLeaf, TurnsParted, last_part, item_key}
use Rattle.bt_tree.specs.Trees.{HasKeys, HoldsPairs, IsTree}
use Rattle.bt_tree.specs.Visits.{LooksAt, StaysTree}
use Rattle.bt_tree.proofs.Entries.{among_back, among_front, put_either, put_was}
use Rattle.bt_tree.proofs.Contents.{changed_items, page_items}
use Rattle.bt_tree.proofs.Pagings.{Gives, anew_over, fills_none, fills_same, lacks_after, leaf_given, more_shows, others_at, own_more, put_all, puts_over, stood_at}
use Rattle.bt_tree.proofs.Pieces.{cons_nil, parted_last}
use Rattle.bt_tree.proofs.Inserts.{at_leaf, back_held, back_none, item_held, last-append, leaf_held, leaves_within, means_looked, next_is, root_alone, root_leaf}
use Rattle.bt_tree.proofs.Removes.{first_same, last_same, pairs_around}
use Rattle.bt_ways.specs.Removals.{with_items}

-- ---- rows of leaves

first_front : (xs : List LeafAt) (l k : LeafAt) (ys zs : List LeafAt) → l.slot.id ≡ k.slot.id → first_id (xs ++ l ∷ ys) ≡ first_id (xs ++ k ∷ zs)
first_front [] l k ys zs e = e
first_front (x ∷ xs) l k ys zs e = refl

pairs_relinked : (prev : ℕ) (ls : List LeafAt) → pairs_of (relinked prev ls) ≡ pairs_of ls
pairs_relinked prev [] = refl
pairs_relinked prev (l ∷ ls) = refl

pairs_parted : (s : Slot) (prev next : ℕ) (items : List Item) (parts : List Part) → pairs_of (parted s prev next items parts) ≡ items_pairs (all_items items parts)
pairs_parted s prev next items [] = append-nil (items_pairs items)
pairs_parted s prev next items (p ∷ ps) = ap (λ (t : List Pair). items_pairs items ++ t) (pairs_parted (part_slot p) s.id next p.items ps) ∙ sym (flat_map-append item_pairs items (all_items p.items ps))

within_on : (h k : TreeHead) (j : ℕ) (o : Option Page) → k.leaf_limit ≡ h.leaf_limit → k.node_limit ≡ h.node_limit → (j ≢ k.root → (l : Leaf) → o ≡ Some (leaf_page l) → j ≢ h.root) → IsWithin h j o → IsWithin k j o
within_on h k j None e f r w = tt
within_on h k j (Some (leaf_page l)) e f r w = record { within = record { keys = omega (arith, w.within.keys, e); bytes = w.within.bytes }; some = λ ne. w.some (r ne l refl) }
within_on h k j (Some (node_page n)) e f r w = omega (arith, w, f)

no_page : (p : Page) → ◌≡◌ {A = Option Page} None (Some p) → ⊥
no_page p e = cc

-- leaves that are put take no page away
puts_was : (ls : List LeafAt) (pages : PageMap) (j : ℕ) → put_leaves ls pages j ≡ None → pages j ≡ None
puts_was [] pages j none = none
puts_was (l ∷ ls) pages j none = put_was pages l.slot.id j (leaf_page l.leaf) (puts_was ls (put_at l.slot.id (leaf_page l.leaf) pages) j none)

-- ---- in one tree

-- in the leaf where a key belongs there are other items, with which the tree is to have these pairs, and so many; it isn't written yet
pub record IsRemade (cmp : List ℕ → List ℕ → Ordering) {h : TreeHead} {height : ℕ} {m : List ℕ → Option (List ℕ)} (tree : IsTree (before_by cmp) h height m) (key : List ℕ) (path : List (ℕ × ℕ)) (id : ℕ) (leaf : Leaf) (qs : List Pair) (many : ℕ) : Type 0 where
  pub found : Found (before_by cmp) h.root key tree.leaves tree.levels path id
  pub prev : leaf.prev ≡ found.leaf.leaf.prev
  pub next : leaf.next ≡ found.leaf.leaf.next
  pub some : 0 < length leaf.items
  pub have : AllByRecursion HasValue leaf.items
  pub in_order : InOrder (before_by cmp) (found.front ++ with_items found.leaf leaf.items ∷ found.back)
  pub pairs : pairs_of (found.front ++ with_items found.leaf leaf.items ∷ found.back) ≡ qs
  pub counted : many ≡ length qs

module _ (cmp : List ℕ → List ℕ → Ordering) (order : IsOrder (before_by cmp)) (h : TreeHead) (height : ℕ) (column : Option (List ℕ)) (m : Map) (ps : List Pair) (p : HoldsPairs (before_by cmp) h height column (get m) ps)
    (key : List ℕ) (path : List (ℕ × ℕ)) (id : ℕ) (leaf : Leaf) (qs : List Pair) (many : ℕ) (made : IsRemade cmp p.tree key path id leaf qs many) where
  abbrev f : Found (before_by cmp) h.root key p.tree.leaves p.tree.levels path id
  f = made.found

  abbrev with_new : List LeafAt
  with_new = f.front ++ with_items f.leaf leaf.items ∷ f.back

  leaf_is : leaf ≡ (with_items f.leaf leaf.items).leaf
  leaf_is = λ i. record { prev = made.prev i; next = made.next i; items = leaf.items }

  new_stretch : IsStretch (items_pairs leaf.items) qs
  new_stretch = (pairs_of f.front, pairs_of f.back, sym made.pairs ∙ pairs_around f.front (with_items f.leaf leaf.items) f.back)

  -- some of the items of the new leaf are some of those that the tree is to have
  new_items : (xs : List Item) → IsStretch xs leaf.items → AreItemsOf cmp xs qs
  new_items xs stretch = changed_items cmp order h height column m ps p f.front f.back f.leaf (with_items f.leaf leaf.items) qs xs f.parts made.have made.in_order made.pairs stretch

  counted : many ≡ length (pairs_of with_new)
  counted = made.counted ∙ sym (ap length made.pairs)

  -- in its place
  kept : (k : TreeHead) (n : Map) → ItemsWithin h.leaf_limit leaf.items → k ≡ record h { pairs = many } → B1 k → HasKeys k column (get n) → AreHeld k (get n) (put_at id (leaf_page leaf) p.tree.pages)
      → HoldsPairs (before_by cmp) k height column (get n) qs
  kept k n fits same b1 b2 held = record {
    tree = record {
      head = b1;
      pages = put_at id (leaf_page leaf) p.tree.pages;
      held = held;
      leaves = with_new;
      levels = p.tree.levels;
      stands = subst (λ (r : ℕ). Stands (before_by cmp) (put_at id (leaf_page leaf) p.tree.pages) r with_new p.tree.levels) (sym (ap (λ (y : TreeHead). y.root) same)) stands;
      high = p.tree.high;
    };
    keys = b2;
    limits = limits;
    links = record {
      first = ap (λ (y : TreeHead). y.first) same ∙ p.links.first ∙ ap first_id f.parts ∙ sym (first_same f.front f.leaf leaf.items f.back);
      last = ap (λ (y : TreeHead). y.last) same ∙ p.links.last ∙ ap (last_id 0) f.parts ∙ sym (last_same f.front f.leaf leaf.items f.back);
      links = stands.links;
    };
    count = ap (λ (y : TreeHead). y.pairs) same ∙ counted;
    are = sym made.pairs;
  }
    where
      stands : Stands (before_by cmp) (put_at id (leaf_page leaf) p.tree.pages) h.root with_new p.tree.levels
      stands = subst (λ (l : Leaf). Stands (before_by cmp) (put_at id (leaf_page l) p.tree.pages) h.root with_new p.tree.levels) (sym leaf_is)
          (leaf_changes (before_by cmp) p.tree.pages h.root key p.tree.leaves p.tree.levels path id p.tree.stands f leaf.items made.in_order)

      limit : k.leaf_limit ≡ h.leaf_limit
      limit = ap (λ (y : TreeHead). y.leaf_limit) same

      limits : B5 k (put_at id (leaf_page leaf) p.tree.pages)
      limits = put_all (λ j o. IsWithin k j o) p.tree.pages id (leaf_page leaf)
          (record { within = record { keys = omega (arith, fits.keys, limit); bytes = fits.bytes }; some = λ ne. made.some })
          (λ j other. within_on h k j (p.tree.pages j) limit (ap (λ (y : TreeHead). y.node_limit) same) (λ ne l e z. ne (z ∙ sym (ap (λ (y : TreeHead). y.root) same))) (p.limits j))

  -- ---- the leaf is parted

  module _ {V O : Type 0} (u v : Tree V O) (new : PageMap) (q : IsParted u.head u.height u.path v id leaf p.tree.pages new) (uhead : u.head ≡ h) (uheight : u.height ≡ height) (upath : u.path ≡ path) where
    abbrev laid : List LeafAt
    laid = parted f.leaf.slot f.leaf.leaf.prev f.leaf.leaf.next q.items q.parts

    abbrev half : PageMap
    half = with_parts p.tree.pages laid (relinked (last_id 0 laid) f.back)

    abbrev all_leaves : List LeafAt
    all_leaves = parted_leaves f.front f.leaf f.back q.items q.parts

    in_order : InOrder (before_by cmp) (f.front ++ with_items f.leaf (all_items q.items q.parts) ∷ f.back)
    in_order = subst (λ (t : List Item). InOrder (before_by cmp) (f.front ++ with_items f.leaf t ∷ f.back)) q.whole made.in_order

    climbs : ClimbsWith h.node_limit half new height v.height h.root v.head.root path (map part_entry q.parts)
    climbs =
        subst (λ (t : TreeHead). ClimbsWith t.node_limit half new height v.height t.root v.head.root path (map part_entry q.parts)) uhead
        (subst (λ (t : ℕ). ClimbsWith u.head.node_limit half new t v.height u.head.root v.head.root path (map part_entry q.parts)) uheight
        (subst (λ (t : List (ℕ × ℕ)). ClimbsWith u.head.node_limit half new u.height v.height u.head.root v.head.root t (map part_entry q.parts)) upath
        (subst (λ (t : ℕ). ClimbsWith u.head.node_limit (with_parts p.tree.pages (parted f.leaf.slot t f.leaf.leaf.next q.items q.parts) (relinked (last_id 0 (parted f.leaf.slot t f.leaf.leaf.next q.items q.parts)) f.back)) new u.height v.height u.head.root v.head.root u.path (map part_entry q.parts)) made.prev
        (subst (λ (t : ℕ). ClimbsWith u.head.node_limit (with_parts p.tree.pages (parted f.leaf.slot leaf.prev t q.items q.parts) (relinked (last_id 0 (parted f.leaf.slot leaf.prev t q.items q.parts)) f.back)) new u.height v.height u.head.root v.head.root u.path (map part_entry q.parts)) made.next
        (q.climbs f.leaf.slot f.back f.is (back_held (before_by cmp) h height column m ps p key path id f) (made.next ∙ next_is (before_by cmp) h height column m ps p key path id f)
        (λ z. back_none (before_by cmp) h height column m ps p key path id f (sym made.next ∙ z)))))))

    -- no page goes
    stays_held : (j : ℕ) → new j ≡ None → p.tree.pages j ≡ None
    stays_held j none = ⊎_elim
        (λ (e : new j ≡ half j). puts_was (laid ++ take 1 (relinked (last_id 0 laid) f.back)) p.tree.pages j (sym e ∙ none))
        (λ (w : (c : Node) × (new j ≡ Some (node_page c)) × NodeWithin h.node_limit c). absurd (no_page (node_page w.0) (sym none ∙ w.1)))
        (climbs.limits j)

    stood : (rows : List (List NodeAt)) × Stands (before_by cmp) new v.head.root all_leaves rows × (v.height ≡ suc (length rows))
    stood = leaf_parts (before_by cmp) order h.node_limit p.tree.pages new v.height h.root v.head.root key p.tree.leaves p.tree.levels path id p.tree.stands f q.items q.parts q.some q.have q.fresh in_order
        (subst (λ (t : ℕ). ClimbsWith h.node_limit half new t v.height h.root v.head.root path (map part_entry q.parts)) p.tree.high climbs)

    pairs_on : pairs_of all_leaves ≡ pairs_of with_new
    pairs_on =
        flat_map-append leaf_pairs f.front (laid ++ relinked (last_id 0 laid) f.back)
        ∙ ap (λ (t : List Pair). pairs_of f.front ++ t) (flat_map-append leaf_pairs laid (relinked (last_id 0 laid) f.back)
        ∙ ap (λ (t : List Pair). t ++ pairs_of (relinked (last_id 0 laid) f.back)) (pairs_parted f.leaf.slot f.leaf.leaf.prev f.leaf.leaf.next q.items q.parts ∙ ap items_pairs (sym q.whole))
        ∙ ap (λ (t : List Pair). items_pairs leaf.items ++ t) (pairs_relinked (last_id 0 laid) f.back))
        ∙ sym (pairs_around f.front (with_items f.leaf leaf.items) f.back)

    first_on : first_id all_leaves ≡ first_id p.tree.leaves
    first_on = go q.parts ∙ ap first_id (sym f.parts)
      where
        go : (parts : List Part) → first_id (f.front ++ (parted f.leaf.slot f.leaf.leaf.prev f.leaf.leaf.next q.items parts ++ relinked (last_id 0 (parted f.leaf.slot f.leaf.leaf.prev f.leaf.leaf.next q.items parts)) f.back)) ≡ first_id (f.front ++ f.leaf ∷ f.back)
        go [] = first_front f.front _ f.leaf _ f.back refl
        go (t ∷ ts) = first_front f.front _ f.leaf _ f.back refl

    last_on : v.head.last ≡ last_id 0 all_leaves
    last_on = go f.back refl
      where
        ends : (was : ℕ) → last_id was laid ≡ last_part id q.parts
        ends was = parted_last was f.leaf.slot f.leaf.leaf.prev f.leaf.leaf.next q.items q.parts ∙ ap (λ (i : ℕ). last_part i q.parts) f.is

        go : (back : List LeafAt) → f.back ≡ back → v.head.last ≡ last_id 0 all_leaves
        go [] e =
            let nil : leaf.next ≡ 0 = made.next ∙ next_is (before_by cmp) h height column m ps p key path id f ∙ ap first_id e in
            let test : (leaf.next == 0) ≡ true = grind (arith, nat_tests) in
            q.last ∙ ap (λ (b : Bool). if b then last_part id q.parts else u.head.last) test
            ∙ sym (last-append 0 f.front (laid ++ relinked (last_id 0 laid) f.back) ∙ ap (λ (t : List LeafAt). last_id (last_id 0 f.front) (laid ++ relinked (last_id 0 laid) t)) e
            ∙ ap (last_id (last_id 0 f.front)) (append-nil laid) ∙ ends (last_id 0 f.front))
        go (b ∷ bs) e =
            let some : leaf.next ≡ 0 → ⊥ = λ z. cons_nil b bs (sym e ∙ back_none (before_by cmp) h height column m ps p key path id f (sym made.next ∙ z)) in
            let test : (leaf.next == 0) ≡ false = grind (arith, nat_tests) in
            q.last ∙ ap (λ (c : Bool). if c then last_part id q.parts else u.head.last) test ∙ ap (λ (y : TreeHead). y.last) uhead ∙ p.links.last ∙ ap (last_id 0) f.parts
            ∙ last-append 0 f.front (f.leaf ∷ f.back) ∙ ap (λ (t : List LeafAt). last_id f.leaf.slot.id t) e
            ∙ sym (last-append 0 f.front (laid ++ relinked (last_id 0 laid) f.back) ∙ last-append (last_id 0 f.front) laid (relinked (last_id 0 laid) f.back) ∙ ap (λ (t : List LeafAt). last_id (last_id (last_id 0 f.front) laid) (relinked (last_id 0 laid) t)) e)

    module _ (k : TreeHead) (n : Map) (vhead : v.head ≡ record h { root = v.head.root; last = v.head.last; leaf_ids = v.head.leaf_ids; node_ids = v.head.node_ids }) (same : k ≡ record v.head { pairs = many }) where
      limit_on : k.leaf_limit ≡ h.leaf_limit
      limit_on = ap (λ (y : TreeHead). y.leaf_limit) (same) ∙ ap (λ (y : TreeHead). y.leaf_limit) vhead

      node_limit_on : k.node_limit ≡ h.node_limit
      node_limit_on = ap (λ (y : TreeHead). y.node_limit) (same) ∙ ap (λ (y : TreeHead). y.node_limit) vhead

      fits_in : (id prev next : ℕ) (items : List Item) → ItemsWithin u.head.leaf_limit items → 0 < length items → LeafLimits k id (record { prev = prev; next = next; items = items })
      fits_in id prev next items w some = record { within = record { keys = omega (arith, w.keys, limit_on, ap (λ (y : TreeHead). y.leaf_limit) uhead); bytes = w.bytes }; some = λ ne. some }

      limits_on : B5 k new
      limits_on j = ⊎_elim (λ (e : new j ≡ half j). subst (λ (o : Option Page). IsWithin k j o) (sym e) (halves j)) (λ (w : (c : Node) × (new j ≡ Some (node_page c)) × NodeWithin h.node_limit c). subst (λ (o : Option Page). IsWithin k j o) (sym w.1) (omega (arith, w.2, node_limit_on))) (climbs.limits j)
        where
          laid_in : (s : Slot) (prev next : ℕ) (items : List Item) (parts : List Part) → ItemsWithin u.head.leaf_limit items → 0 < length items → AllByRecursion (λ t. ItemsWithin u.head.leaf_limit t.items) parts → AllByRecursion HasItems parts
              → AllByRecursion (λ l. IsWithin k l.slot.id (Some (leaf_page l.leaf))) (parted s prev next items parts)
          laid_in s prev next items [] w some ws haves = (fits_in s.id prev next items w some, tt)
          laid_in s prev next items (t ∷ ts) w some ws haves = (fits_in s.id prev t.id items w some, laid_in (part_slot t) s.id next t.items ts ws.0 haves.0 ws.1 haves.1)

          behind_in : (back : List LeafAt) (was : ℕ) → LeavesHeld p.tree.pages back → (f.back ≡ back) → AllByRecursion (λ l. IsWithin k l.slot.id (Some (leaf_page l.leaf))) (take 1 (relinked was back))
          behind_in [] was held e = tt
          behind_in (b ∷ bs) was held e = (within_behind, tt)
            where
              within_behind : LeafLimits k b.slot.id (record { prev = was; next = b.leaf.next; items = b.leaf.items })
              within_behind =
                  let l = leaves_within (before_by cmp) h height column m ps p key path id f b.slot.id b.leaf held.0 in
                  record {
                    within = record { keys = omega (arith, l.within.keys, limit_on); bytes = l.within.bytes };
                    some = λ ne. l.some (λ z. absurd (cons_nil b bs (sym e ∙ root_alone (before_by cmp) h height column m ps p key path id f b.leaf (ap p.tree.pages (sym z) ∙ held.0))));
                  }

          base : (j : ℕ) → (j ≡ f.leaf.slot.id → ⊥) → IsWithin k j (p.tree.pages j)
          base j other = within_on h k j (p.tree.pages j) limit_on node_limit_on (λ ne l e z. other (z ∙ sym (root_leaf (before_by cmp) h height column m ps p key path id f l (ap p.tree.pages (sym z) ∙ e)))) (p.limits j)

          halves : (j : ℕ) → IsWithin k j (half j)
          halves = go q.parts q.within q.some q.are_within q.have
            where
              go : (parts : List Part) → ItemsWithin u.head.leaf_limit q.items → 0 < length q.items → AllByRecursion (λ t. ItemsWithin u.head.leaf_limit t.items) parts → AllByRecursion HasItems parts
                  → (j : ℕ) → IsWithin k j (with_parts p.tree.pages (parted f.leaf.slot f.leaf.leaf.prev f.leaf.leaf.next q.items parts) (relinked (last_id 0 (parted f.leaf.slot f.leaf.leaf.prev f.leaf.leaf.next q.items parts)) f.back) j)
              go [] w some ws haves =
                  let l0 : LeafAt = record { slot = f.leaf.slot; leaf = record { prev = f.leaf.leaf.prev; next = f.leaf.leaf.next; items = q.items } } in
                  puts_over (λ j o. IsWithin k j o) p.tree.pages l0 (take 1 (relinked f.leaf.slot.id f.back)) (fits_in f.leaf.slot.id f.leaf.leaf.prev f.leaf.leaf.next q.items w some)
                  (behind_in f.back f.leaf.slot.id (back_held (before_by cmp) h height column m ps p key path id f) refl) base
              go (t ∷ ts) w some ws haves =
                  let l0 : LeafAt = record { slot = f.leaf.slot; leaf = record { prev = f.leaf.leaf.prev; next = t.id; items = q.items } } in
                  let rest : List LeafAt = parted (part_slot t) f.leaf.slot.id f.leaf.leaf.next t.items ts in
                  puts_over (λ j o. IsWithin k j o) p.tree.pages l0 (rest ++ take 1 (relinked (last_id f.leaf.slot.id rest) f.back)) (fits_in f.leaf.slot.id f.leaf.leaf.prev t.id q.items w some)
                  (all_join (λ (l : LeafAt). IsWithin k l.slot.id (Some (leaf_page l.leaf))) rest (take 1 (relinked (last_id f.leaf.slot.id rest) f.back)) (laid_in (part_slot t) f.leaf.slot.id f.leaf.leaf.next t.items ts ws.0 haves.0 ws.1 haves.1)
                  (behind_in f.back (last_id f.leaf.slot.id rest) (back_held (before_by cmp) h height column m ps p key path id f) refl)) base

      spread : B1 k → HasKeys k column (get n) → AreHeld k (get n) new → HoldsPairs (before_by cmp) k v.height column (get n) qs
      spread b1 b2 held = record {
        tree = record {
          head = b1;
          pages = new;
          held = held;
          leaves = all_leaves;
          levels = stood.0;
          stands = subst (λ (r : ℕ). Stands (before_by cmp) new r all_leaves stood.0) (sym (ap (λ (y : TreeHead). y.root) same)) stood.1;
          high = stood.2;
        };
        keys = b2;
        limits = limits_on;
        links = record {
          first = ap (λ (y : TreeHead). y.first) same ∙ ap (λ (y : TreeHead). y.first) vhead ∙ p.links.first ∙ sym first_on;
          last = ap (λ (y : TreeHead). y.last) same ∙ last_on;
          links = stood.1.links;
        };
        count = ap (λ (y : TreeHead). y.pairs) same ∙ counted ∙ sym (ap length pairs_on);
        are = sym (pairs_on ∙ made.pairs);
      }

-- ---- the call

-- t at the start, u once the leaf was changed, v once it is written, w in the end
module _ {S V O : Type 0} (s : Ghosts S) (R : Stores V S) (o : Orders O) (order : IsOrder (before_by o.cmp)) (key : List ℕ) (makes : List Pair → List Pair) (many : ℕ → ℕ) (t u : Tree V O) (a b : S) (id : ℕ) (leaf : Leaf)
    (looks : LooksAt s R t u a b) (stays : StaysTree t u) (made : (ps : List Pair) (h : Means s R o t a ps) → IsRemade o.cmp h.1.is.tree key u.path id leaf (makes ps) (many t.head.pairs)) where
  pub limit_stays : u.head.leaf_limit ≡ t.head.leaf_limit
  limit_stays = ap (λ (y : TreeHead). y.leaf_limit) stays.head

  pub made_shown : (ps : List Pair) (h : Means s R o t a ps) → ShowsLeaf s R id leaf.next u b h.1.is.tree.pages
  made_shown ps h = (
    means_looked s R o t u a b looks stays ps h,
    subst (λ (y : TreeHead). AtLeaf y.node_limit y.root u.path id leaf.next h.1.is.tree.pages) (sym stays.head)
        (at_leaf (before_by o.cmp) t.head t.height t.column h.1.records ps h.1.is key u.path id (made ps h).found leaf.next (made ps h).next),
  )

  pub made_ready : IsOpen s R o t a → HasLeaf s R id leaf.next u b
  made_ready ready = record { sound = looks.reads.sound; held = λ told. let h = ready.held told in (h.1.1.is.tree.pages, made_shown h.0 h.1) }

  pub made_given : IsOpen s R o t a → s.tells → IsLeafId u.head id
  made_given ready told =
      let h = ready.held told in
      subst (λ (y : TreeHead). IsLeafId y id) (sym stays.head)
      (leaf_given t.head h.1.1.records h.1.1.is.tree.pages id (made h.0 h.1).found.leaf.leaf h.1.1.is.tree.head h.1.1.is.tree.held (leaf_held (before_by o.cmp) t.head t.height t.column h.1.1.records h.0 h.1.1.is key u.path id (made h.0 h.1).found))

  module _ (v w : Tree V O) (d : S) (noted : w ≡ with_pairs (many v.head.pairs) v) where
    whead : w.head ≡ record v.head { pairs = many v.head.pairs }
    whead = ap (λ (y : Tree V O). y.head) noted

    counts : Gives v.head w.head
    counts = subst (λ (y : TreeHead). Gives v.head y) (sym whead) (record { order = refl; leaf_limit = refl; node_limit = refl; leaves = omega arith; nodes = omega arith; leaves_small = λ lt. lt; nodes_small = λ lt. lt })

    counted_shows : (pages : PageMap) → Shows s R v d pages → Shows s R w d pages
    counted_shows pages h = more_shows s R v w d (ap (λ (y : Tree V O). y.store) noted) (ap (λ (y : Tree V O). y.cache.pages) noted) (ap (λ (y : Tree V O). y.column) noted) counts pages h

    pub made_kept : ItemsWithin u.head.leaf_limit leaf.items → PutsAt s R id (leaf_page leaf) u v b d → StaysStill s R u v b d → Writes s (Only (file_in R t)) (Means s R o) makes t w a d
    made_kept fits put still = record {
      sound = put.sound;
      others = others_then s (Only (file_in R t)) a b d (record { same = λ told g other. looks.reads.now told g }) (others_at s _ _ b d looks.made.file put.others);
      means = λ ps h.
          let sw : Shows s R w d (put_at id (leaf_page leaf) h.1.is.tree.pages) = counted_shows (put_at id (leaf_page leaf) h.1.is.tree.pages) (put.means h.1.is.tree.pages (means_looked s R o t u a b looks stays ps h)) in
          let column : w.column ≡ t.column = ap (λ (y : Tree V O). y.column) noted ∙ still.column ∙ stays.column in
          let height : w.height ≡ t.height = ap (λ (y : Tree V O). y.height) noted ∙ still.height ∙ stays.height in
          let same : w.head ≡ record t.head { pairs = many t.head.pairs } = whead ∙ ap (λ (y : TreeHead). record y { pairs = many y.pairs }) (still.head ∙ stays.head) in
          let p : HoldsPairs (before_by o.cmp) w.head t.height t.column (get sw.1.records) (makes ps) =
          kept o.cmp order t.head t.height t.column h.1.records ps h.1.is key u.path id leaf (makes ps) (many t.head.pairs) (made ps h) w.head sw.1.records (subst (λ (n : ℕ). ItemsWithin n leaf.items) limit_stays fits) same sw.1.head
          (subst (λ (k : Option (List ℕ)). HasKeys w.head k (get sw.1.records)) column sw.1.keys) sw.1.held in (
            sw.0,
            record {
              records = sw.1.records;
              store = sw.1.store;
              same = sw.1.same;
              order = ap (λ (y : TreeHead). y.order) same ∙ h.1.order;
              is = subst (λ (k : Option (List ℕ)). HoldsPairs (before_by o.cmp) w.head w.height k (get sw.1.records) (makes ps)) (sym column)
                  (subst (λ (n : ℕ). HoldsPairs (before_by o.cmp) w.head n t.column (get sw.1.records) (makes ps)) (sym height) p);
            },
          );
    }

    pub made_spread : v.column ≡ u.column → v.head ≡ record u.head { root = v.head.root; last = v.head.last; leaf_ids = v.head.leaf_ids; node_ids = v.head.node_ids }
        → TurnsParted s R id leaf u v b d → Writes s (Only (file_in R t)) (Means s R o) makes t w a d
    made_spread vcolumn vhead turns = record {
      sound = turns.sound;
      others = others_then s (Only (file_in R t)) a b d (record { same = λ told g other. looks.reads.now told g }) (others_at s _ _ b d looks.made.file turns.others);
      means = λ ps h.
          let k = turns.means h.1.is.tree.pages (made_shown ps h) in
          let sw : Shows s R w d k.0 = counted_shows k.0 k.1 in
          let column : w.column ≡ t.column = ap (λ (y : Tree V O). y.column) noted ∙ vcolumn ∙ stays.column in
          let height : w.height ≡ v.height = ap (λ (y : Tree V O). y.height) noted in
          let from : v.head ≡ record t.head { root = v.head.root; last = v.head.last; leaf_ids = v.head.leaf_ids; node_ids = v.head.node_ids } =
          vhead ∙ ap (λ (y : TreeHead). record y { root = v.head.root; last = v.head.last; leaf_ids = v.head.leaf_ids; node_ids = v.head.node_ids }) stays.head in
          let same : w.head ≡ record v.head { pairs = many t.head.pairs } = whead ∙ ap (λ (y : TreeHead). record v.head { pairs = many y.pairs }) from in
          let p : HoldsPairs (before_by o.cmp) w.head v.height t.column (get sw.1.records) (makes ps) =
          spread o.cmp order t.head t.height t.column h.1.records ps h.1.is key u.path id leaf (makes ps) (many t.head.pairs) (made ps h) u v k.0 k.2 stays.head stays.height refl w.head sw.1.records from same sw.1.head
          (subst (λ (k : Option (List ℕ)). HasKeys w.head k (get sw.1.records)) column sw.1.keys) sw.1.held in (
            sw.0,
            record {
              records = sw.1.records;
              store = sw.1.store;
              same = sw.1.same;
              order = ap (λ (y : TreeHead). y.order) whead ∙ ap (λ (y : TreeHead). y.order) from ∙ h.1.order;
              is = subst (λ (k : Option (List ℕ)). HoldsPairs (before_by o.cmp) w.head w.height k (get sw.1.records) (makes ps)) (sym column)
                  (subst (λ (n : ℕ). HoldsPairs (before_by o.cmp) w.head n t.column (get sw.1.records) (makes ps)) (sym height) p);
            },
          );
    }

  -- the leaf itself, where it is within the limit
  pub made_put : ItemsWithin u.head.leaf_limit leaf.items → (ps : List Pair) (h : Means s R o t a ps) → IsPutPage o.cmp t.head h.1.is.tree.pages ps (makes ps) (leaf_page leaf)
  made_put fits ps h =
      ((record { keys = omega (arith, fits.keys, limit_stays); bytes = fits.bytes }, inr (new_items o.cmp order t.head t.height t.column h.1.records ps h.1.is key u.path id leaf (makes ps) (many t.head.pairs) (made ps h) leaf.items ([], [], sym (append-nil leaf.items)))), tt)

  -- pages that a put may write
  piece_held : (ps : List Pair) (h : Means s R o t a ps) (k : List ℕ) → IsAmong item_key k leaf.items ⊎ StoodIn h.1.is.tree.pages k → IsAmong pair_key k (makes ps) ⊎ StoodIn h.1.is.tree.pages k
  piece_held ps h k w =
      let n = new_stretch o.cmp order t.head t.height t.column h.1.records ps h.1.is key u.path id leaf (makes ps) (many t.head.pairs) (made ps h) in
      ⊎_elim (λ (own : IsAmong item_key k leaf.items). inl (subst (λ (y : List Pair). IsAmong pair_key k y) (sym n.2) (among_back pair_key k n.0 (items_pairs leaf.items ++ n.1) (among_front pair_key k (items_pairs leaf.items) n.1 (item_held k leaf.items (made ps h).have own)))))
      (λ (stood : StoodIn h.1.is.tree.pages k). inr stood) w

  pub made_piece : (p : Page) (ps : List Pair) (h : Means s R o t a ps) → IsPiece u.head u.path leaf.items leaf.next h.1.is.tree.pages p → IsPutPage o.cmp t.head h.1.is.tree.pages ps (makes ps) p
  made_piece (leaf_page l) ps h (inl own) = (
    (
      record { keys = omega (arith, own.0.keys, limit_stays); bytes = own.0.bytes },
      inr (new_items o.cmp order t.head t.height t.column h.1.records ps h.1.is key u.path id leaf (makes ps) (many t.head.pairs) (made ps h) l.items own.1),
    ),
    tt,
  )
  made_piece (leaf_page l) ps h (inr k) =
      let w = (leaves_within (before_by o.cmp) t.head t.height t.column h.1.records ps h.1.is key u.path id (made ps h).found leaf.next k.0 k.1).within in
      let w' : ItemsWithin t.head.leaf_limit l.items = subst (λ (y : List Item). ItemsWithin t.head.leaf_limit y) (sym k.2) (items_within t.head.leaf_limit k.0 w) in
      ((record { keys = w'.keys; bytes = w'.bytes }, inl (subst (λ (y : List Item). AreItemsOf o.cmp y ps) (sym k.2) (page_items o.cmp order t.head t.height t.column h.1.records ps h.1.is leaf.next k.0 k.1))), tt)
  made_piece (node_page n) ps h w = (
    omega (arith, w.0, ap (λ (y : TreeHead). y.node_limit) stays.head),
    all_map (λ (e : NodeEntry). IsAmong item_key e.key leaf.items ⊎ StoodIn h.1.is.tree.pages e.key) (λ (e : NodeEntry). IsAmong pair_key e.key (makes ps) ⊎ StoodIn h.1.is.tree.pages e.key) n.entries (λ e k. piece_held ps h e.key k) w.1,
  )

  -- pages that come
  module _ (v w : Tree V O) (d : S) (noted : w ≡ with_pairs (many v.head.pairs) v) where
    pub made_kept_pages : ItemsWithin u.head.leaf_limit leaf.items → PutsAt s R id (leaf_page leaf) u v b d → StaysStill s R u v b d → WritesPages s R o makes t w a d
    made_kept_pages fits put still ps h =
        let new : PageMap = put_at id (leaf_page leaf) h.1.is.tree.pages in (
          new,
          counted_shows v w d noted new (put.means h.1.is.tree.pages (means_looked s R o t u a b looks stays ps h)),
          anew_over t.head h.1.is.tree.pages id (leaf_page leaf) (leaf_page (made ps h).found.leaf.leaf) (leaf_held (before_by o.cmp) t.head t.height t.column h.1.records ps h.1.is key u.path id (made ps h).found),
          fills_none t.head w.head new (ap (λ (y : Tree V O). y.head.leaf_ids) noted ∙ ap (λ (y : TreeHead). y.leaf_ids) (still.head ∙ stays.head))
              (ap (λ (y : Tree V O). y.head.node_ids) noted ∙ ap (λ (y : TreeHead). y.node_ids) (still.head ∙ stays.head)),
          λ i p is. ⊎_elim
              (λ (here : p ≡ leaf_page leaf). inr (subst (λ (q : Page). IsPutPage o.cmp t.head h.1.is.tree.pages ps (makes ps) q) (sym here) (made_put fits ps h)))
              (λ (old : h.1.is.tree.pages i ≡ Some p). inl old)
              (put_either h.1.is.tree.pages id i (leaf_page leaf) p is),
        )

    pub made_spread_pages : TurnsParted s R id leaf u v b d → WritesPages s R o makes t w a d
    made_spread_pages turns ps h =
        let k = turns.means h.1.is.tree.pages (made_shown ps h) in (
          k.0,
          counted_shows v w d noted k.0 k.1,
          subst (λ (y : TreeHead). ComesAnew y h.1.is.tree.pages k.0) stays.head k.2.anew,
          fills_same t.head v.head w.head k.0 (ap (λ (y : Tree V O). y.head.leaf_ids) noted) (ap (λ (y : Tree V O). y.head.node_ids) noted) (subst (λ (y : TreeHead). FillsIds y v.head k.0) stays.head k.2.filled),
          λ i p is. ⊎_elim (λ (old : h.1.is.tree.pages i ≡ Some p). inl old) (λ piece. inr (made_piece p ps h piece)) (k.2.written i p is),
        )

    -- no leaf goes
    pub made_kept_root : PutsAt s R id (leaf_page leaf) u v b d → LowersRoot s R o t w a d
    made_kept_root put ps h =
        let new : PageMap = put_at id (leaf_page leaf) h.1.is.tree.pages in (
          new,
          counted_shows v w d noted new (put.means h.1.is.tree.pages (means_looked s R o t u a b looks stays ps h)),
          λ lost l. no_page (leaf_page lost.1) (sym (put_was h.1.is.tree.pages id lost.0 (leaf_page leaf) lost.3) ∙ lost.2),
        )

    pub made_spread_root : TurnsParted s R id leaf u v b d → LowersRoot s R o t w a d
    made_spread_root turns ps h =
        let k = turns.means h.1.is.tree.pages (made_shown ps h) in (
          k.0,
          counted_shows v w d noted k.0 k.1,
          λ lost l. no_page (leaf_page lost.1)
              (sym (stays_held o.cmp order t.head t.height t.column h.1.records ps h.1.is key u.path id leaf (makes ps) (many t.head.pairs) (made ps h) u v k.0 k.2 stays.head stays.height refl lost.0 lost.3) ∙ lost.2),
        )

  -- no room for the leaf, or for what it is parted into
  abbrev LacksFine : (Meant s R o t a → Page → Type 0) → S → Type 0
  LacksFine Fine d = LacksPage s R (Meant s R o t a) (λ w i. IsOwn t.head 2 t.height w.1.1.is.tree.pages i) (λ w. w.1.1.is.tree.pages) Fine t a d

  pub made_lacks_leaf : (Fine : Meant s R o t a → Page → Type 0) → ((w : Meant s R o t a) → Fine w (leaf_page leaf)) → (d : S) → LacksThis s R id (leaf_page leaf) u b d → LacksFine Fine d
  made_lacks_leaf Fine is_fine d l =
      lacks_after s R (Seen (Shows s R u b)) (Meant s R o t a) (λ w i. i ≡ id) (λ w i. IsOwn t.head 2 t.height w.1.1.is.tree.pages i) (λ w. w.0) (λ w. w.1.1.is.tree.pages) (λ w p. p ≡ leaf_page leaf) Fine t u a b d looks.keeps looks.made stays.column
      (λ w. record {
        seen = (w.1.1.is.tree.pages, means_looked s R o t u a b looks stays w.0 w.1);
        own = λ i e. inl (stood_at w.1.1.is.tree.pages id i (leaf_page (made w.0 w.1).found.leaf.leaf) (leaf_held (before_by o.cmp) t.head t.height t.column w.1.1.records w.0 w.1.1.is key u.path id (made w.0 w.1).found) e);
        was = λ i p is. inl is;
        fine = λ p e. subst (λ (y : Page). Fine w y) (sym e) (is_fine w);
      }) l

  pub made_lacks_piece : (Fine : Meant s R o t a → Page → Type 0) → ((w : Meant s R o t a) (p : Page) → IsPiece u.head u.path leaf.items leaf.next w.1.1.is.tree.pages p → Fine w p) → length u.path + 1 ≡ t.height → (d : S)
      → LacksSeen s R (ShowsLeaf s R id leaf.next u b) (IsOwn u.head 2 (suc (length u.path))) (IsPiece u.head u.path leaf.items leaf.next) u b d → LacksFine Fine d
  made_lacks_piece Fine is_fine deep d l =
      lacks_after s R (Seen (ShowsLeaf s R id leaf.next u b)) (Meant s R o t a) (λ w i. IsOwn u.head 2 (suc (length u.path)) w.0 i) (λ w i. IsOwn t.head 2 t.height w.1.1.is.tree.pages i) (λ w. w.0) (λ w. w.1.1.is.tree.pages) (λ w p. IsPiece u.head u.path leaf.items leaf.next w.0 p) Fine
      t u a b d looks.keeps looks.made stays.column
      (λ w. record {
        seen = (w.1.1.is.tree.pages, made_shown w.0 w.1);
        own = λ i own. own_more t.head u.head 2 (suc (length u.path)) 2 t.height i w.1.1.is.tree.pages (omega (arith, ap (λ (y : TreeHead). y.leaf_ids) stays.head)) (omega (arith, ap (λ (y : TreeHead). y.leaf_ids) stays.head))
            (omega (arith, ap (λ (y : TreeHead). y.node_ids) stays.head)) (omega (arith, ap (λ (y : TreeHead). y.node_ids) stays.head, deep)) own;
        was = λ i p is. inl is;
        fine = λ p piece. is_fine w p piece;
      }) l
