-- Leaves that are written in the place of one, and the parts of its items.
use Rattle.std.proofs.Common.{◌≡◌, ◌⊎◌, ℕ, ◌+◌, ◌-◌, ◌<◌, ◌≤◌, List, [], ◌∷◌, ◌++◌, Some, None, length, map, take, drop, refl, sym, ap, ◌∙◌, subst, inl, inr, ⊎_elim, arith, append_assoc, length-drop}
use Rattle.std.specs.Prelude.{slice_get}
use Rattle.std.specs.List.{AllByRecursion}
use Rattle.std.proofs.lemmas.Bool.{cases_eq, cases_lt}
use Rattle.std.proofs.lemmas.List.{append-nil, length-take-le, map-append}
use Rattle.bt_page.specs.declared.page.NodeEntry.{NodeEntry}
use Rattle.bt_page.specs.declared.page.Item.{Item}
use Rattle.bt_page.specs.declared.page.Leaf.{Leaf}
use Rattle.bt_page.specs.declared.page.Node.{Node}
use Rattle.bt_rows.specs.declared.head.TreeHead.{TreeHead}
use Rattle.bt_rows.specs.declared.page.LeafAt.{LeafAt}
use Rattle.bt_rows.specs.declared.page.Page.{Page}
use Rattle.bt_rows.specs.declared.page.Page.TheVariants.{Leaf as leaf_page, Node as node_page}
use Rattle.bt_rows.specs.declared.page.Slot.{Slot}
use Rattle.bt_rows.specs.Levels.{NodeAt, LeavesHeld, LevelsHeld, NodesHeld, level_times, node_slot}
use Rattle.bt_rows.specs.Pages.{PageMap, IsGiven}
use Rattle.bt_rows.specs.Rows.{first_id, last_id, times}
use Rattle.bt_ways.specs.Changes.{IsCut, ItemsWithin}
use Rattle.bt_ways.specs.Parts.{AreFresh, HasItems, Part, all_items, first_key, part_entry, part_slot, parted, relinked, with_parts}
use Rattle.bt_ways.specs.Ways.{rows_of}
use Rattle.bt_ways.specs.Writes.{put_at, put_leaves}
use Rattle.bt_ways.proofs.Counts.{levels_frame, times-other}
use Rattle.bt_ways.proofs.Keys.{all_join, all_map, all_part}
use Rattle.bt_ways.proofs.Within.{parts_join}
use Rattle.bt_tree.specs.declared.parting.Laid.{Laid}
use Rattle.bt_tree.specs.declared.parting.Parted.{Parted}
use Rattle.bt_tree.specs.declared.tree.Tree.{Tree}
use Rattle.bt_tree.specs.Climbing.{CanClimb, IsAmong, IsWayOf, entry_key}
use Rattle.bt_tree.specs.Paging.{ComesAnew, ComesFrom}
use Rattle.bt_tree.specs.Parting.{AddsBehind, AreNext, ArePartedIn, ArePartsOf, IsLaid, IsLaidId, IsStretch, item_key, laid_at, laid_parts, last_part, parts_from, put_laid}
use Rattle.bt_tree.proofs.Entries.{among_back, put_either, put_was, put_where}
use Rattle.bt_tree.proofs.Pagings.{anew_put, anew_refl, anew_then, leaf_node, put_here, put_other}

-- ---- leaves that are written

pub put_laid-append : (xs ys : List Laid) (pages : PageMap) → put_laid (xs ++ ys) pages ≡ put_laid ys (put_laid xs pages)
put_laid-append [] ys pages = refl
put_laid-append (x ∷ xs) ys pages = put_laid-append xs ys (put_at x.id (leaf_page x.leaf) pages)

-- leaves that are written over others, or under ids that weren't given
pub laid_anew : (h : TreeHead) (ls : List Laid) (pages : PageMap) → AllByRecursion (λ l. IsGiven h l.id → pages l.id ≡ None → ⊥) ls → ComesAnew h pages (put_laid ls pages)
laid_anew h [] pages away = anew_refl h pages
laid_anew h (l ∷ ls) pages away =
    anew_then h h pages (put_at l.id (leaf_page l.leaf) pages) (put_laid ls (put_at l.id (leaf_page l.leaf) pages)) (λ j g. g) (anew_put h pages l.id (leaf_page l.leaf) away.0)
    (laid_anew h ls (put_at l.id (leaf_page l.leaf) pages)
    (all_map (λ (k : Laid). IsGiven h k.id → pages k.id ≡ None → ⊥) (λ (k : Laid). IsGiven h k.id → put_at l.id (leaf_page l.leaf) pages k.id ≡ None → ⊥) ls (λ k f g none. f g (put_was pages l.id k.id (leaf_page l.leaf) none)) away.1))

-- an id under which no node stands
abbrev pub NoNode : PageMap → ℕ → Type 0
NoNode pages id = (n : Node) → pages id ≡ Some (node_page n) → ⊥

no_node_put : (pages : PageMap) (id : ℕ) (l : Leaf) (other : ℕ) → NoNode pages other → NoNode (put_at id (leaf_page l) pages) other
no_node_put pages id l other away n e = ⊎_elim
    (λ (same : other ≡ id). leaf_node l n (sym (put_here pages id (leaf_page l)) ∙ ap (put_at id (leaf_page l) pages) (sym same) ∙ e))
    (λ (apart : other ≡ id → ⊥). away n (sym (put_other pages id (leaf_page l) other apart) ∙ e))
    (cases_eq other id)

all_no_node : (pages : PageMap) (id : ℕ) (l : Leaf) (ls : List Laid) → AllByRecursion (λ k. NoNode pages k.id) ls → AllByRecursion (λ k. NoNode (put_at id (leaf_page l) pages) k.id) ls
all_no_node pages id l [] a = tt
all_no_node pages id l (k ∷ ls) a = (no_node_put pages id l k.id a.0, all_no_node pages id l ls a.1)

-- nodes stay where none is written over, and no other comes
pub laid_node : (ls : List Laid) (pages : PageMap) (id : ℕ) (n : Node) → AllByRecursion (λ k. NoNode pages k.id) ls → pages id ≡ Some (node_page n) → put_laid ls pages id ≡ Some (node_page n)
laid_node [] pages id n a e = e
laid_node (l ∷ ls) pages id n a e =
    laid_node ls (put_at l.id (leaf_page l.leaf) pages) id n (all_no_node pages l.id l.leaf ls a.1)
    (put_other pages l.id (leaf_page l.leaf) id (λ same. a.0 n (ap pages (sym same) ∙ e)) ∙ e)

pub laid_was : (ls : List Laid) (pages : PageMap) (id : ℕ) (n : Node) → put_laid ls pages id ≡ Some (node_page n) → pages id ≡ Some (node_page n)
laid_was [] pages id n e = e
laid_was (l ∷ ls) pages id n e =
    let was : put_at l.id (leaf_page l.leaf) pages id ≡ Some (node_page n) = laid_was ls (put_at l.id (leaf_page l.leaf) pages) id n e in
    ⊎_elim
    (λ (same : id ≡ l.id). absurd (leaf_node l.leaf n (sym (put_here pages l.id (leaf_page l.leaf)) ∙ ap (put_at l.id (leaf_page l.leaf) pages) (sym same) ∙ was)))
    (λ (apart : id ≡ l.id → ⊥). sym (put_other pages l.id (leaf_page l.leaf) id apart) ∙ was)
    (cases_eq id l.id)

node_of_row : (pages : PageMap) (ns : List NodeAt) (id : ℕ) → NodesHeld pages ns → 0 < times id (map node_slot ns) → (n : Node) × (pages id ≡ Some (node_page n))
node_of_row pages [] id h lt = absurd (omega (arith, lt))
node_of_row pages (n ∷ ns) id h lt = ⊎_elim
    (λ (same : id ≡ n.slot.id). (n.node, ap pages same ∙ h.0))
    (λ (apart : id ≡ n.slot.id → ⊥). node_of_row pages ns id h.1 (omega (arith, lt, times-other id n.slot (map node_slot ns) (λ e. absurd (apart (sym e))))))
    (cases_eq id n.slot.id)

node_of_rows : (pages : PageMap) (Ls : List (List NodeAt)) (id : ℕ) → LevelsHeld pages Ls → 0 < level_times id Ls → (n : Node) × (pages id ≡ Some (node_page n))
node_of_rows pages [] id h lt = absurd (omega (arith, lt))
node_of_rows pages (L ∷ Ls) id h lt = ⊎_elim
    (λ (none : times id (map node_slot L) < 1). node_of_rows pages Ls id h.1 (omega (arith, lt, none)))
    (λ (some : 1 ≤ times id (map node_slot L)). node_of_row pages L id h.0 (omega (arith, some)))
    (cases_lt (times id (map node_slot L)) 1)

-- the way may be climbed once leaves are written
pub laid_way : (ls : List Laid) (limit : ℕ) (pages : PageMap) (root : ℕ) (path : List (ℕ × ℕ)) → AllByRecursion (λ k. NoNode pages k.id) ls → CanClimb limit pages root path → CanClimb limit (put_laid ls pages) root path
laid_way ls limit pages root path a k = record {
  crumbs = k.crumbs;
  place = k.place;
  along = k.along;
  way = record {
    leads = k.way.leads;
    nodes = levels_frame pages (put_laid ls pages) (rows_of k.crumbs) (λ j lt. let n = node_of_rows pages (rows_of k.crumbs) j k.way.nodes lt in laid_node ls pages j n.0 a n.1 ∙ sym n.1) k.way.nodes;
    once = k.way.once;
  };
  within = λ j n e. k.within j n (laid_was ls pages j n e);
}

-- ---- the parts of a leaf

-- what is true of the ids is true of the leaves
pub laid_all : (Q : ℕ → Type 0) (id prev next : ℕ) (items : List Item) (parts : List Part) → Q id → AllByRecursion (λ p. Q p.id) parts → AllByRecursion (λ l. Q l.id) (laid_parts id prev next items parts)
laid_all Q id prev next items [] q a = (q, tt)
laid_all Q id prev next items (p ∷ ps) q a = (q, laid_all Q p.id id next p.items ps a.0 a.1)

-- and of the items
pub laid_items : (R : List Item → Type 0) (id prev next : ℕ) (items : List Item) (parts : List Part) (p : Page) → R items → AllByRecursion (λ q. R q.items) parts → IsLaid (laid_parts id prev next items parts) p → (l : Leaf) × (p ≡ leaf_page l) × R l.items
laid_items R id prev next items [] p r a (inl e) = (record { prev = prev; next = next; items = items }, e, r)
laid_items R id prev next items [] p r a (inr none) = absurd none
laid_items R id prev next items (q ∷ qs) p r a (inl e) = (record { prev = prev; next = q.id; items = items }, e, r)
laid_items R id prev next items (q ∷ qs) p r a (inr is) = laid_items R q.id id next q.items qs p a.0 a.1 is

pub laid_joined : (xs ys : List Laid) (p : Page) → IsLaid (xs ++ ys) p → IsLaid xs p ⊎ IsLaid ys p
laid_joined [] ys p is = inr is
laid_joined (x ∷ xs) ys p (inl e) = inl (inl e)
laid_joined (x ∷ xs) ys p (inr is) = ⊎_elim (λ (l : IsLaid xs p). inl (inr l)) (λ (r : IsLaid ys p). inr r) (laid_joined xs ys p is)

-- the leaves at their places are these
abbrev laid_of : LeafAt → Laid
laid_of l = record { id = l.slot.id; leaf = l.leaf }

leaves_laid : (ls : List LeafAt) (pages : PageMap) → put_laid (map laid_of ls) pages ≡ put_leaves ls pages
leaves_laid [] pages = refl
leaves_laid (l ∷ ls) pages = leaves_laid ls (put_at l.slot.id (leaf_page l.leaf) pages)

parted_laid : (s : Slot) (prev next : ℕ) (items : List Item) (parts : List Part) → map laid_of (parted s prev next items parts) ≡ laid_parts s.id prev next items parts
parted_laid s prev next items [] = refl
parted_laid s prev next items (p ∷ ps) = ap (λ (t : List Laid). laid_at s.id prev p.id items ∷ t) (parted_laid (part_slot p) s.id next p.items ps)

pub parted_last : (was : ℕ) (s : Slot) (prev next : ℕ) (items : List Item) (parts : List Part) → last_id was (parted s prev next items parts) ≡ last_part s.id parts
parted_last was s prev next items [] = refl
parted_last was s prev next items (p ∷ ps) = parted_last s.id (part_slot p) s.id next p.items ps

pub cons_nil : (m : LeafAt) (ms : List LeafAt) → m ∷ ms ≡ [] → ⊥
cons_nil m ms e = cc

-- what was written is what the law speaks of
pub laid_with : (pages : PageMap) (id prev next : ℕ) (items : List Item) (parts : List Part) (leaves : List Laid) → AddsBehind next (last_part id parts) pages (laid_parts id prev next items parts) leaves
    → (s : Slot) (back : List LeafAt) → s.id ≡ id → LeavesHeld pages back → next ≡ first_id back → (next ≡ 0 → back ≡ [])
    → put_laid leaves pages ≡ with_parts pages (parted s prev next items parts) (relinked (last_id 0 (parted s prev next items parts)) back)
laid_with pages id prev next items parts leaves adds s back same held first none = go back held first none
  where
    whole : map laid_of (parted s prev next items parts) ≡ laid_parts id prev next items parts
    whole = parted_laid s prev next items parts ∙ ap (λ (i : ℕ). laid_parts i prev next items parts) same

    ends : last_id 0 (parted s prev next items parts) ≡ last_part id parts
    ends = parted_last 0 s prev next items parts ∙ ap (λ (i : ℕ). last_part i parts) same

    go : (back : List LeafAt) → LeavesHeld pages back → next ≡ first_id back → (next ≡ 0 → back ≡ [])
        → put_laid leaves pages ≡ with_parts pages (parted s prev next items parts) (relinked (last_id 0 (parted s prev next items parts)) back)
    go [] h f n =
        ap (λ (t : List Laid). put_laid t pages) (adds.none f) ∙ ap (λ (t : List Laid). put_laid t pages) (sym whole) ∙ leaves_laid (parted s prev next items parts) pages
        ∙ ap (λ (t : List LeafAt). put_leaves t pages) (sym (append-nil (parted s prev next items parts)))
    go (m ∷ ms) h f n =
        let some : next ≡ 0 → ⊥ = λ z. cons_nil m ms (n z) in
        let is : leaves ≡ laid_parts id prev next items parts ++ laid_at next (last_part id parts) m.leaf.next m.leaf.items ∷ [] = adds.some m.leaf some (ap pages f ∙ h.0) in
        let m' : LeafAt = record { slot = m.slot; leaf = record { prev = last_id 0 (parted s prev next items parts); next = m.leaf.next; items = m.leaf.items } } in
        let one : laid_at next (last_part id parts) m.leaf.next m.leaf.items ≡ laid_of m' = λ i. record { id = f i; leaf = record { prev = (sym ends) i; next = m.leaf.next; items = m.leaf.items } } in
        ap (λ (t : List Laid). put_laid t pages) (is ∙ ap (λ (x : Laid). laid_parts id prev next items parts ++ x ∷ []) one ∙ ap (λ (t : List Laid). t ++ laid_of m' ∷ []) (sym whole) ∙ sym (map-append laid_of (parted s prev next items parts) (m' ∷ [])))
        ∙ leaves_laid (parted s prev next items parts ++ m' ∷ []) pages

-- the leaf behind has another before it
pub adds_none : (next prev : ℕ) (pages : PageMap) (leaves : List Laid) → next ≡ 0 → AddsBehind next prev pages leaves leaves
adds_none next prev pages leaves e = record { none = λ z. refl; some = λ l there. absurd (there e) }

pub adds_some : (next prev : ℕ) (pages : PageMap) (old new : List Laid) (read : Leaf) → (next ≡ 0 → ⊥) → ((l : Leaf) → pages next ≡ Some (leaf_page l) → read ≡ l) → new ≡ old ++ laid_at next prev read.next read.items ∷ [] → AddsBehind next prev pages old new
adds_some next prev pages old new read there is e = record { none = λ z. absurd (there z); some = λ l some here. e ∙ ap (λ (k : Leaf). old ++ laid_at next prev k.next k.items ∷ []) (is l here) }

-- what is true of the ids, with that of the leaf behind
pub adds_all : (Q : ℕ → Type 0) (next prev : ℕ) (pages : PageMap) (old new : List Laid) → AddsBehind next prev pages old new → AllByRecursion (λ l. Q l.id) old → ((next ≡ 0 → ⊥) → (l : Leaf) × (pages next ≡ Some (leaf_page l))) → ((next ≡ 0 → ⊥) → Q next) → AllByRecursion (λ l. Q l.id) new
adds_all Q next prev pages old new adds a there q = ⊎_elim
    (λ (z : next ≡ 0). subst (λ (t : List Laid). AllByRecursion (λ l. Q l.id) t) (sym (adds.none z)) a)
    (λ (away : next ≡ 0 → ⊥). let l = there away in subst (λ (t : List Laid). AllByRecursion (λ l. Q l.id) t) (sym (adds.some l.0 away l.1)) (all_join (λ (l : Laid). Q l.id) old (laid_at next prev l.0.next l.0.items ∷ []) a (q away, tt)))
    (cases_eq next 0)

-- the same of the pages: they are leaves of the parts, or the one behind
pub adds_pages : (R : List Item → Type 0) (id prev next : ℕ) (items : List Item) (parts : List Part) (pages : PageMap) (leaves : List Laid) (p : Page) → AddsBehind next (last_part id parts) pages (laid_parts id prev next items parts) leaves
    → ((next ≡ 0 → ⊥) → (l : Leaf) × (pages next ≡ Some (leaf_page l))) → R items → AllByRecursion (λ q. R q.items) parts → IsLaid leaves p
    → (l : Leaf) × (p ≡ leaf_page l) × (R l.items ⊎ ((k : Leaf) × (pages next ≡ Some (leaf_page k)) × (l.items ≡ k.items)))
adds_pages R id prev next items parts pages leaves p adds there r a is = ⊎_elim
    (λ (z : next ≡ 0). let l = laid_items R id prev next items parts p r a (subst (λ (t : List Laid). IsLaid t p) (adds.none z) is) in (l.0, l.1, inl l.2))
    (λ (away : next ≡ 0 → ⊥).
    let k = there away in
    ⊎_elim
    (λ (own : IsLaid (laid_parts id prev next items parts) p). let l = laid_items R id prev next items parts p r a own in (l.0, l.1, inl l.2))
    (λ (behind : IsLaid (laid_at next (last_part id parts) k.0.next k.0.items ∷ []) p). last k behind)
    (laid_joined (laid_parts id prev next items parts) (laid_at next (last_part id parts) k.0.next k.0.items ∷ []) p (subst (λ (t : List Laid). IsLaid t p) (adds.some k.0 away k.1) is)))
    (cases_eq next 0)
  where
    last : (k : (l : Leaf) × (pages next ≡ Some (leaf_page l))) → IsLaid (laid_at next (last_part id parts) k.0.next k.0.items ∷ []) p
        → (l : Leaf) × (p ≡ leaf_page l) × (R l.items ⊎ ((k : Leaf) × (pages next ≡ Some (leaf_page k)) × (l.items ≡ k.items)))
    last k (inl e) = (record { prev = last_part id parts; next = k.0.next; items = k.0.items }, e, inr (k.0, k.1, refl))
    last k (inr none) = absurd none

-- ---- the parts that a cut gives

pub from_all : (given : ℕ) (second third : List Item) → (Q : Part → Type 0) → Q (record { id = given + 1; items = second }) → (0 < length third → Q (record { id = given + 1 + 1; items = third })) → AllByRecursion Q (parts_from given second third)
from_all given second [] Q q r = (q, tt)
from_all given second (x ∷ third) Q q r = (q, (r (omega arith), tt))

-- these are the next ids
pub from_next : (given : ℕ) (second third : List Item) → AreNext given (parts_from given second third)
from_next given second [] = (refl, tt)
from_next given second (x ∷ third) = (refl, (refl, tt))

pub from_some : (given : ℕ) (second third : List Item) → (1 ≤ length (parts_from given second third)) × (length (parts_from given second third) ≤ 2)
from_some given second [] = (omega arith, omega arith)
from_some given second (x ∷ third) = (omega arith, omega arith)

pub from_two : (given : ℕ) (second third : List Item) → 0 < length third → length (parts_from given second third) ≡ 2
from_two given second [] lt = absurd (omega (arith, lt))
from_two given second (x ∷ third) lt = refl

-- the first key, as it is asked for
pub first_asked : (items : List Item) (key : List ℕ) → 0 < length items → ((x : Item) → slice_get items 0 ≡ Some x → key ≡ x.key) → key ≡ first_key items
first_asked [] key some is = absurd (omega (arith, some))
first_asked (x ∷ items) key some is = is x refl

pub one_given : {V O : Type 0} (t u : Tree V O) → u ≡ record t { head = record t.head { leaf_ids = t.head.leaf_ids + 1 } } → u.head.leaf_ids ≡ t.head.leaf_ids + 1
one_given {V} {O} t u noted = ap (λ (v : Tree V O). v.head.leaf_ids) noted

-- a third leaf behind two
pub three_parts : (given id prev next : ℕ) (items second third : List Item) (a b : ℕ) (two p : Parted) → 0 < length third → a ≡ given + 1 → b ≡ given + 1 + 1 → ArePartsOf id prev b items (record { id = a; items = second } ∷ []) two
    → p.leaves ≡ two.leaves ++ laid_at b a next third ∷ [] → p.added ≡ two.added ++ record { child = b; key = first_key third } ∷ [] → p.last ≡ b → ArePartsOf id prev next items (parts_from given second third) p
three_parts given id prev next items second [] a b two p some ea eb made leaves added last = absurd (omega (arith, some))
three_parts given id prev next items second (x ∷ third) a b two p some ea eb made leaves added last = record {
  leaves = leaves ∙ ap (λ (ls : List Laid). ls ++ laid_at b a next (x ∷ third) ∷ []) made.leaves ∙ (λ k. laid_parts id prev next items (record { id = ea k; items = second } ∷ record { id = eb k; items = x ∷ third } ∷ []));
  added = added ∙ ap (λ (es : List NodeEntry). es ++ record { child = b; key = x.key } ∷ []) made.added ∙ (λ k. map part_entry (record { id = ea k; items = second } ∷ record { id = eb k; items = x ∷ third } ∷ []));
  last = last ∙ eb;
}

pub from_items : (given : ℕ) (items second third : List Item) → all_items items (parts_from given second third) ≡ items ++ (second ++ third)
from_items given items second [] = ap (λ (t : List Item). items ++ t) (sym (append-nil second))
from_items given items second (x ∷ third) = refl

pub from_fresh : (given : ℕ) (second third : List Item) (pages : PageMap) → pages (given + 1) ≡ None → (0 < length third → pages (given + 1 + 1) ≡ None) → AreFresh pages (parts_from given second third)
from_fresh given second [] pages one two = (one, tt, tt)
from_fresh given second (x ∷ third) pages one two = (one, ((λ (e : given + 1 ≡ given + 1 + 1). omega (arith, e)), tt), (two (omega arith), tt, tt))

pub cut_items : (given i j limit : ℕ) (items : List Item) → IsCut limit items i j → items ≡ all_items (take i items) (parts_from given (take (j - i) (drop i items)) (drop j items))
cut_items given i j limit items cut = sym (from_items given (take i items) (take (j - i) (drop i items)) (drop j items) ∙ parts_join i j items (omega (arith, cut.more)))

pub cut_front : (i j limit : ℕ) (items : List Item) → IsCut limit items i j → 0 < length (take i items)
cut_front i j limit items cut = omega (arith, length-take-le i items (omega (arith, cut.more, cut.within)), cut.some)

pub cut_middle : (i j limit : ℕ) (items : List Item) → IsCut limit items i j → 0 < length (take (j - i) (drop i items))
cut_middle i j limit items cut =
    let rest : length (drop i items) ≡ length items - i = length-drop i items in
    omega (arith, length-take-le (j - i) (drop i items) (omega (arith, rest, cut.within)), cut.more)

-- so the items are parted
pub cut_parted : (given i j limit : ℕ) (items : List Item) → IsCut limit items i j → ArePartedIn limit items (length (parts_from given (take (j - i) (drop i items)) (drop j items)))
cut_parted given i j limit items cut = record {
  first = take i items;
  parts = parts_from given (take (j - i) (drop i items)) (drop j items);
  whole = cut_items given i j limit items cut;
  some = cut_front i j limit items cut;
  have = from_all given (take (j - i) (drop i items)) (drop j items) HasItems (cut_middle i j limit items cut) (λ lt. lt);
  within = cut.first;
  are_within = from_all given (take (j - i) (drop i items)) (drop j items) (λ p. ItemsWithin limit p.items) cut.second (λ lt. cut.third);
  count = refl;
  few = (from_some given (take (j - i) (drop i items)) (drop j items)).1;
}

-- each of them is a stretch of the items
pub cut_stretches : (i j limit : ℕ) (items : List Item) → IsCut limit items i j → IsStretch (take i items) items × IsStretch (take (j - i) (drop i items)) items × IsStretch (drop j items) items
cut_stretches i j limit items cut =
    let whole : items ≡ take i items ++ (take (j - i) (drop i items) ++ drop j items) = sym (parts_join i j items (omega (arith, cut.more))) in (
      ([], take (j - i) (drop i items) ++ drop j items, whole),
      (take i items, drop j items, whole),
      (take i items ++ take (j - i) (drop i items), [], whole ∙ sym (append_assoc (take i items) (take (j - i) (drop i items)) (drop j items)) ∙ ap (λ (t : List Item). (take i items ++ take (j - i) (drop i items)) ++ t) (sym (append-nil (drop j items)))),
    )

-- the keys of their entries are those of items
first_among : (items : List Item) (parts : List Part) → 0 < length items → IsAmong item_key (first_key items) (all_items items parts)
first_among [] parts lt = absurd (omega (arith, lt))
first_among (x ∷ xs) [] lt = inl refl
first_among (x ∷ xs) (p ∷ ps) lt = inl refl

pub part_keys : (key : List ℕ) (items : List Item) (parts : List Part) → AllByRecursion HasItems parts → IsAmong entry_key key (map part_entry parts) → IsAmong item_key key (all_items items parts)
part_keys key items [] haves k = absurd k
part_keys key items (p ∷ ps) haves (inl e) = among_back item_key key items (all_items p.items ps) (subst (λ (z : List ℕ). IsAmong item_key z (all_items p.items ps)) e (first_among p.items ps haves.0))
part_keys key items (p ∷ ps) haves (inr k) = among_back item_key key items (all_items p.items ps) (part_keys key p.items ps haves.1 k)

-- where no page is none was before, and no leaf is there
laid_none : (leaves : List Laid) (pages : PageMap) → ComesFrom pages (put_laid leaves pages)
laid_none [] pages j none = none
laid_none (l ∷ ls) pages j none = put_was pages l.id j (leaf_page l.leaf) (laid_none ls (put_at l.id (leaf_page l.leaf) pages) j none)

pub laid_away : (leaves : List Laid) (pages : PageMap) (j : ℕ) → put_laid leaves pages j ≡ None → AllByRecursion (λ l. l.id ≡ j → ⊥) leaves
laid_away [] pages j none = tt
laid_away (l ∷ ls) pages j none = (
  λ same. absurd (clash (sym (put_here pages l.id (leaf_page l.leaf)) ∙ ap (put_at l.id (leaf_page l.leaf) pages) same ∙ laid_none ls (put_at l.id (leaf_page l.leaf) pages) j none)),
  laid_away ls (put_at l.id (leaf_page l.leaf) pages) j none,
)
  where
    clash : Some (leaf_page l.leaf) ≡ None → ⊥
    clash e = cc

first_away : (id prev next : ℕ) (items : List Item) (parts : List Part) (j : ℕ) → AllByRecursion (λ l. l.id ≡ j → ⊥) (laid_parts id prev next items parts) → id ≡ j → ⊥
first_away id prev next items [] j away = away.0
first_away id prev next items (p ∷ ps) j away = away.0

pub parts_away : (id prev next : ℕ) (items : List Item) (parts : List Part) (j : ℕ) → AllByRecursion (λ l. l.id ≡ j → ⊥) (laid_parts id prev next items parts) → AllByRecursion (λ p. p.id ≡ j → ⊥) parts
parts_away id prev next items [] j away = tt
parts_away id prev next items (p ∷ ps) j away = (first_away p.id id next p.items ps j away.1, parts_away p.id id next p.items ps j away.1)

pub behind_away : (next prev : ℕ) (pages : PageMap) (old new : List Laid) (j : ℕ) → AddsBehind next prev pages old new → ((next ≡ 0 → ⊥) → (l : Leaf) × (pages next ≡ Some (leaf_page l))) → AllByRecursion (λ l. l.id ≡ j → ⊥) new → AllByRecursion (λ l. l.id ≡ j → ⊥) old
behind_away next prev pages old new j adds there away = ⊎_elim
    (λ (z : next ≡ 0). subst (λ (t : List Laid). AllByRecursion (λ l. l.id ≡ j → ⊥) t) (adds.none z) away)
    (λ (some : next ≡ 0 → ⊥).
    let k = there some in
    (all_part (λ (l : Laid). l.id ≡ j → ⊥) old (laid_at next prev k.0.next k.0.items ∷ []) (subst (λ (t : List Laid). AllByRecursion (λ l. l.id ≡ j → ⊥) t) (adds.some k.0 some k.1) away)).0)
    (cases_eq next 0)

-- the ids of the parts are all that are given
pub parts_hit : (given : ℕ) (second third : List Item) (j : ℕ) → AllByRecursion (λ p. p.id ≡ j → ⊥) (parts_from given second third) → given < j → j ≤ given + length (parts_from given second third) → ⊥
parts_hit given second [] j away more most = away.0 (omega (arith, more, most))
parts_hit given second (x ∷ third) j away more most = ⊎_elim (λ (one : j ≡ given + 1). away.0 (sym one)) (λ (other : j ≡ given + 1 → ⊥). away.1.0 (omega (arith, more, most, other))) (cases_eq j (given + 1))

-- a way along which a node comes once leaves were laid was so before
pub way_laid : (limit most : ℕ) (leaves : List Laid) (pages : PageMap) (root : ℕ) (path : List (ℕ × ℕ)) (added : List NodeEntry) (n : Node) → IsWayOf limit most (put_laid leaves pages) root path added n → IsWayOf limit most pages root path added n
way_laid limit most leaves pages root [] added n is = is
way_laid limit most leaves pages root (step ∷ path) added n is = (is.0, laid_was leaves pages step.0 is.0 is.1, ⊎_elim (λ own. inl own) (λ up. inr (up.0, up.1, up.2, up.3, way_laid limit most leaves pages root path (up.0 ∷ []) n up.4)) is.2)

-- a page once leaves were laid
pub laid_where : (leaves : List Laid) (pages : PageMap) (j : ℕ) (p : Page) → put_laid leaves pages j ≡ Some p → (pages j ≡ Some p) ⊎ (IsLaidId leaves j × IsLaid leaves p)
laid_where [] pages j p is = inl is
laid_where (l ∷ ls) pages j p is = ⊎_elim
    (λ (was : put_at l.id (leaf_page l.leaf) pages j ≡ Some p). ⊎_elim
    (λ (here : (j ≡ l.id) × (p ≡ leaf_page l.leaf)). inr (inl here.0, inl here.1))
    (λ (old : pages j ≡ Some p). inl old)
    (put_where pages l.id j (leaf_page l.leaf) p was))
    (λ (own : IsLaidId ls j × IsLaid ls p). inr (inr own.0, inr own.1))
    (laid_where ls (put_at l.id (leaf_page l.leaf) pages) j p is)

-- what holds of each of their ids
pub laid_id : (Q : ℕ → Type 0) (leaves : List Laid) (i : ℕ) → AllByRecursion (λ l. Q l.id) leaves → IsLaidId leaves i → Q i
laid_id Q [] i all own = absurd own
laid_id Q (l ∷ ls) i all (inl e) = subst (λ (j : ℕ). Q j) (sym e) all.0
laid_id Q (l ∷ ls) i all (inr more) = laid_id Q ls i all.1 more

pub laid_either : (leaves : List Laid) (pages : PageMap) (j : ℕ) (p : Page) → put_laid leaves pages j ≡ Some p → (pages j ≡ Some p) ⊎ IsLaid leaves p
laid_either [] pages j p is = inl is
laid_either (l ∷ ls) pages j p is = ⊎_elim
    (λ (was : put_at l.id (leaf_page l.leaf) pages j ≡ Some p). ⊎_elim (λ (here : p ≡ leaf_page l.leaf). inr (inl here)) (λ (old : pages j ≡ Some p). inl old) (put_either pages l.id j (leaf_page l.leaf) p was))
    (λ (own : IsLaid ls p). inr (inr own))
    (laid_either ls (put_at l.id (leaf_page l.leaf) pages) j p is)
