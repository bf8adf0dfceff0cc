-- How often rows name a page, which pages are held, and what a write leaves.
use Rattle.std.proofs.Common.{◌≡◌, ◌≢◌, ℕ, ◌+◌, ◌<◌, ◌⊎◌, List, [], ◌∷◌, ◌++◌, Some, None, map, refl, sym, ◌∙◌, subst, ⊎_elim, arith}
use Rattle.std.proofs.lemmas.Bool.{cases_eq}
use Rattle.std.proofs.lemmas.Bool.Decides.{nat_tests}
use Rattle.std.proofs.lemmas.List.{map-append}
use Rattle.bt_rows.specs.declared.page.LeafAt.{LeafAt}
use Rattle.bt_rows.specs.declared.page.Page.{Page}
use Rattle.bt_rows.specs.declared.page.Page.TheVariants.{Node as node_page}
use Rattle.bt_rows.specs.declared.page.Slot.{Slot}
use Rattle.bt_rows.specs.Pages.{PageMap}
use Rattle.bt_rows.specs.Rows.{times, held}
use Rattle.bt_rows.specs.Levels.{NodeAt, leaf_slot, node_slot, level_times, NodesHeld, LevelsHeld, LeavesHeld}
use Rattle.bt_rows.proofs.Building.{times-front}
use Rattle.bt_ways.specs.Writes.{put_at, drop_at}

pub times-other : (id : ℕ) (x : Slot) (xs : List Slot) → x.id ≢ id → times id (x ∷ xs) ≡ times id xs
times-other id x xs e = grind (arith, nat_tests)

pub times_one : (id : ℕ) (s : Slot) → s.id ≡ id → times id (s ∷ []) ≡ 1
times_one id s e = omega (arith, times-front id s [] e)

pub times_none : (id : ℕ) (s : Slot) → s.id ≢ id → times id (s ∷ []) ≡ 0
times_none id s e = omega (arith, times-other id s [] e)

pub times-append : (id : ℕ) (xs ys : List Slot) → times id (xs ++ ys) ≡ times id xs + times id ys
times-append id [] ys = omega arith
times-append id (x ∷ xs) ys = omega (arith, times-append id xs ys)

-- of a row with one place shown
pub times_around : {X : Type 0} (f : X → Slot) (id : ℕ) (left right : List X) (x : X) → times id (map f (left ++ x ∷ right)) ≡ times id (map f left) + (times id (f x ∷ []) + times id (map f right))
times_around f id left right x = rw (map-append f left (x ∷ right)) (omega (arith, times-append id (map f left) (f x ∷ map f right)))

pub held_some : (pages : PageMap) (id : ℕ) (page : Page) → pages id ≡ Some page → held pages id ≡ 1
held_some pages id page e = rw e refl

pub held_none : (pages : PageMap) (id : ℕ) → pages id ≡ None → held pages id ≡ 0
held_none pages id e = rw e refl

pub held_same : (old new : PageMap) (id : ℕ) → new id ≡ old id → held new id ≡ held old id
held_same old new id e = rw e refl

-- ---- a page that is named is held

pub nodes_live : (pages : PageMap) (ns : List NodeAt) (id : ℕ) → NodesHeld pages ns → 0 < times id (map node_slot ns) → held pages id ≡ 1
nodes_live pages [] id h lt = absurd (omega (arith, lt))
nodes_live pages (n ∷ ns) id h lt = ⊎_elim
    (λ (same : n.slot.id ≡ id). held_some pages id (node_page n.node) (subst (λ j. pages j ≡ Some (node_page n.node)) same h.0))
    (λ (other : n.slot.id ≡ id → ⊥). nodes_live pages ns id h.1 (omega (arith, lt, times-other id n.slot (map node_slot ns) other)))
    (cases_eq n.slot.id id)

pub levels_live : (pages : PageMap) (Ls : List (List NodeAt)) (id : ℕ) → LevelsHeld pages Ls → 0 < level_times id Ls → held pages id ≡ 1
levels_live pages [] id h lt = absurd (omega (arith, lt))
levels_live pages (L ∷ Ls) id h lt = ⊎_elim
    (λ (none : times id (map node_slot L) ≡ 0). levels_live pages Ls id h.1 (omega (arith, lt, none)))
    (λ (some : times id (map node_slot L) ≡ 0 → ⊥). nodes_live pages L id h.0 (omega (arith, some)))
    (cases_eq (times id (map node_slot L)) 0)

-- ---- pages that stay where they are named stay held

pub nodes_frame : (old new : PageMap) (ns : List NodeAt) → ((j : ℕ) → 0 < times j (map node_slot ns) → new j ≡ old j) → NodesHeld old ns → NodesHeld new ns
nodes_frame old new [] same h = tt
nodes_frame old new (n ∷ ns) same h =
    (same n.slot.id (omega (arith, times-front n.slot.id n.slot (map node_slot ns) refl)) ∙ h.0, nodes_frame old new ns (λ j lt. same j (omega (arith, lt))) h.1)

pub levels_frame : (old new : PageMap) (Ls : List (List NodeAt)) → ((j : ℕ) → 0 < level_times j Ls → new j ≡ old j) → LevelsHeld old Ls → LevelsHeld new Ls
levels_frame old new [] same h = tt
levels_frame old new (L ∷ Ls) same h = (nodes_frame old new L (λ j lt. same j (omega (arith, lt))) h.0, levels_frame old new Ls (λ j lt. same j (omega (arith, lt))) h.1)

pub leaves_frame : (old new : PageMap) (ls : List LeafAt) → ((j : ℕ) → 0 < times j (map leaf_slot ls) → new j ≡ old j) → LeavesHeld old ls → LeavesHeld new ls
leaves_frame old new [] same h = tt
leaves_frame old new (l ∷ ls) same h =
    (same l.slot.id (omega (arith, times-front l.slot.id l.slot (map leaf_slot ls) refl)) ∙ h.0, leaves_frame old new ls (λ j lt. same j (omega (arith, lt))) h.1)

pub nodes_join : (pages : PageMap) (xs ys : List NodeAt) → NodesHeld pages xs → NodesHeld pages ys → NodesHeld pages (xs ++ ys)
nodes_join pages [] ys h k = k
nodes_join pages (x ∷ xs) ys h k = (h.0, nodes_join pages xs ys h.1 k)

pub leaves_join : (pages : PageMap) (xs ys : List LeafAt) → LeavesHeld pages xs → LeavesHeld pages ys → LeavesHeld pages (xs ++ ys)
leaves_join pages [] ys h k = k
leaves_join pages (x ∷ xs) ys h k = (h.0, leaves_join pages xs ys h.1 k)

-- ---- writes

-- one page is written, and no other
pub record Puts (old new : PageMap) (id : ℕ) (page : Page) : Type 0 where
  pub put : new id ≡ Some page
  pub others : (other : ℕ) → other ≢ id → new other ≡ old other

pub puts : (id : ℕ) (page : Page) (old : PageMap) → Puts old (put_at id page old) id page
puts id page old = record { put = grind (arith, nat_tests); others = λ other ne. grind (arith, nat_tests, ne) }

-- one page is taken out, and no other
pub record Drops (old new : PageMap) (id : ℕ) : Type 0 where
  pub gone : new id ≡ None
  pub others : (other : ℕ) → other ≢ id → new other ≡ old other

pub drops : (id : ℕ) (old : PageMap) → Drops old (drop_at id old) id
drops id old = record { gone = grind (arith, nat_tests); others = λ other ne. grind (arith, nat_tests, ne) }

-- a page over another
pub held_over : (old new : PageMap) (id : ℕ) (page was : Page) → old id ≡ Some was → Puts old new id page → (j : ℕ) → held new j ≡ held old j
held_over old new id page was e p j = ⊎_elim
    (λ (is : j ≡ id). subst (λ k. held new k ≡ held old k) (sym is) (held_some new id page p.put ∙ sym (held_some old id was e)))
    (λ (other : j ≡ id → ⊥). held_same old new j (p.others j other))
    (cases_eq j id)
