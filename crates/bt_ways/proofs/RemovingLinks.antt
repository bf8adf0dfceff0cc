-- Leaves whose neighbours are linked with each other.
use Rattle.std.proofs.Common.{◌≡◌, ℕ, ◌+◌, ◌<◌, List, [], ◌∷◌, ◌++◌, Bool, true, false, Option, Some, None, map, refl, sym, ap, ◌∙◌, subst, inl, ⊎_elim, arith}
use Rattle.std.specs.Prelude.{◌==◌, if◌then◌else◌}
use Rattle.std.proofs.lemmas.Bool.{cases_eq}
use Rattle.std.proofs.lemmas.Bool.Decides.{nat_tests}
use Rattle.std.proofs.lemmas.List.{map-append}
use Rattle.bt_page.specs.declared.page.Leaf.{Leaf}
use Rattle.bt_rows.specs.declared.page.LeafAt.{LeafAt}
use Rattle.bt_rows.specs.declared.page.Page.TheVariants.{Leaf as leaf_page}
use Rattle.bt_rows.specs.Pages.{PageMap}
use Rattle.bt_rows.specs.Rows.{times, held, last_id}
use Rattle.bt_rows.specs.Rules.{IsLinked}
use Rattle.bt_rows.specs.Levels.{NodeAt, leaf_slot, level_times, LeavesHeld}
use Rattle.bt_rows.proofs.Building.{held_most}
use Rattle.bt_ways.specs.Removals.{page_next, page_prev, with_next, with_prev}
use Rattle.bt_ways.specs.Writes.{drop_at, put_at}
use Rattle.bt_ways.proofs.Counts.{times-append, times_around, times_one, times_none, held_some, held_none, held_same, levels_frame, leaves_frame, leaves_join, drops}
use Rattle.bt_ways.proofs.Halves.{IsHalf, half_put}
use Rattle.bt_ways.proofs.Links.{first_or, chain_of, chain_part}
use Rattle.bt_ways.proofs.Rows.{leaves_part}

-- ---- pages with another link

eq_of : (i j : ℕ) → (i == j) ≡ true → i ≡ j
eq_of i j e = grind (arith, nat_tests, e)

-- where a leaf stands there, it is written
pub next_put : (id next : ℕ) (l : Leaf) (pages : PageMap) → pages id ≡ Some (leaf_page l) → put_at id (leaf_page (record { prev = l.prev; next = next; items = l.items })) pages ≡ with_next id next pages
next_put id next l pages is = λ i j. at j (j == id) (eq_of j id) i
  where
    at : (j : ℕ) (b : Bool) → (b ≡ true → j ≡ id) → (if b then Some (leaf_page (record { prev = l.prev; next = next; items = l.items })) else pages j) ≡ (if b then page_next next (pages j) else pages j)
    at j true e = sym (ap (page_next next) (ap pages (e refl) ∙ is))
    at j false e = refl

pub prev_put : (id prev : ℕ) (l : Leaf) (pages : PageMap) → pages id ≡ Some (leaf_page l) → put_at id (leaf_page (record { prev = prev; next = l.next; items = l.items })) pages ≡ with_prev id prev pages
prev_put id prev l pages is = λ i j. at j (j == id) (eq_of j id) i
  where
    at : (j : ℕ) (b : Bool) → (b ≡ true → j ≡ id) → (if b then Some (leaf_page (record { prev = prev; next = l.next; items = l.items })) else pages j) ≡ (if b then page_prev prev (pages j) else pages j)
    at j true e = sym (ap (page_prev prev) (ap pages (e refl) ∙ is))
    at j false e = refl

-- where no page stands there, nothing changes
pub next_none : (id next : ℕ) (pages : PageMap) → pages id ≡ None → pages ≡ with_next id next pages
next_none id next pages is = λ i j. at j (j == id) (eq_of j id) i
  where
    at : (j : ℕ) (b : Bool) → (b ≡ true → j ≡ id) → pages j ≡ (if b then page_next next (pages j) else pages j)
    at j true e = let none : pages j ≡ None = ap pages (e refl) ∙ is in none ∙ sym (ap (page_next next) none)
    at j false e = refl

pub prev_none : (id prev : ℕ) (pages : PageMap) → pages id ≡ None → pages ≡ with_prev id prev pages
prev_none id prev pages is = λ i j. at j (j == id) (eq_of j id) i
  where
    at : (j : ℕ) (b : Bool) → (b ≡ true → j ≡ id) → pages j ≡ (if b then page_prev prev (pages j) else pages j)
    at j true e = let none : pages j ≡ None = ap pages (e refl) ∙ is in none ∙ sym (ap (page_prev prev) none)
    at j false e = refl

-- no page gets the id 0
pub next_zero : (id next j : ℕ) (pages : PageMap) → pages j ≡ None → with_next id next pages j ≡ None
next_zero id next j pages is = at (j == id)
  where
    at : (b : Bool) → (if b then page_next next (pages j) else pages j) ≡ None
    at true = ap (page_next next) is
    at false = is

-- ---- one leaf of a half

pub half_over : (pages : PageMap) (xs : List LeafAt) (p : LeafAt) (l : Leaf) (ys : List LeafAt) (levels : List (List NodeAt)) → IsHalf pages (xs ++ p ∷ ys) levels
    → IsHalf (put_at p.slot.id (leaf_page l) pages) (xs ++ record { slot = p.slot; leaf = l } ∷ ys) levels
half_over pages xs p l ys levels half = half_put pages xs (p ∷ []) (record { slot = p.slot; leaf = l } ∷ []) ys levels [] half (λ j. omega arith) (λ j. inl refl)

pub here_held : (pages : PageMap) (xs : List LeafAt) (p : LeafAt) (ys : List LeafAt) → LeavesHeld pages (xs ++ p ∷ ys) → pages p.slot.id ≡ Some (leaf_page p.leaf)
here_held pages xs p ys h = (leaves_part pages xs (p ∷ ys) h).1.0

-- it goes
pub half_drop : (pages : PageMap) (xs : List LeafAt) (l : LeafAt) (ys : List LeafAt) (levels : List (List NodeAt)) → IsHalf pages (xs ++ l ∷ ys) levels → IsHalf (drop_at l.slot.id pages) (xs ++ ys) levels
half_drop pages xs l ys levels half =
    let low : PageMap = drop_at l.slot.id pages in
    let parts = leaves_part pages xs (l ∷ ys) half.leaves_held in
    let was : (j : ℕ) → times j (map leaf_slot xs) + (times j (l.slot ∷ []) + times j (map leaf_slot ys)) + level_times j levels ≡ held pages j = λ j. omega (arith, half.once j, times_around leaf_slot j xs ys l) in
    let other : (j : ℕ) → 0 < times j (map leaf_slot xs) + times j (map leaf_slot ys) + level_times j levels → low j ≡ pages j =
    λ j lt. (drops l.slot.id pages).others j (λ e. absurd (omega (arith, lt, was j, held_most pages j, times_one j l.slot (sym e)))) in
    let both : (j : ℕ) → times j (map leaf_slot (xs ++ ys)) ≡ times j (map leaf_slot xs) + times j (map leaf_slot ys) = λ j. ap (times j) (map-append leaf_slot xs ys) ∙ times-append j (map leaf_slot xs) (map leaf_slot ys) in
    record {
      leaves_held = leaves_join low xs ys (leaves_frame pages low xs (λ j lt. other j (omega (arith, lt))) parts.0) (leaves_frame pages low ys (λ j lt. other j (omega (arith, lt))) parts.1.1);
      nodes_held = levels_frame pages low levels (λ j lt. other j (omega (arith, lt))) half.nodes_held;
      once = λ j. ⊎_elim
          (λ (e : j ≡ l.slot.id). omega (arith, both j, was j, held_most pages j, times_one j l.slot (sym e), subst (λ k. held low k ≡ 0) (sym e) (held_none low l.slot.id (drops l.slot.id pages).gone)))
          (λ (ne : j ≡ l.slot.id → ⊥). omega (arith, both j, was j, times_none j l.slot (λ e. ne (sym e)), held_same pages low j ((drops l.slot.id pages).others j ne)))
          (cases_eq j l.slot.id);
    }

-- its bound doesn't count
pub half_bound : (pages : PageMap) (xs : List LeafAt) (l : LeafAt) (b : Option (List ℕ)) (ys : List LeafAt) (levels : List (List NodeAt)) → IsHalf pages (xs ++ l ∷ ys) levels
    → IsHalf pages (xs ++ record { slot = record { bound = b; id = l.slot.id }; leaf = l.leaf } ∷ ys) levels
half_bound pages xs l b ys levels half =
    let m : LeafAt = record { slot = record { bound = b; id = l.slot.id }; leaf = l.leaf } in
    let parts = leaves_part pages xs (l ∷ ys) half.leaves_held in
    record {
      leaves_held = leaves_join pages xs (m ∷ ys) parts.0 parts.1;
      nodes_held = half.nodes_held;
      once = λ j. omega (arith, half.once j, times_around leaf_slot j xs ys l, times_around leaf_slot j xs ys m);
    }

-- ---- the leaf before and the one behind

last_live : (pages : PageMap) (x : LeafAt) (xs : List LeafAt) → LeavesHeld pages (x ∷ xs) → held pages (last_id x.slot.id xs) ≡ 1
last_live pages x [] h = held_some pages x.slot.id (leaf_page x.leaf) h.0
last_live pages x (y ∷ ys) h = last_live pages y ys h.1

module _ (pages : PageMap) (front : List LeafAt) (l : LeafAt) (back : List LeafAt) (h : LeavesHeld pages (front ++ l ∷ back)) (linked : IsLinked 0 (front ++ l ∷ back)) (zero_free : pages 0 ≡ None) where
  pub links_are : (l.leaf.prev ≡ last_id 0 front) × (l.leaf.next ≡ first_or back 0)
  links_are = let parts = chain_part 0 front (l ∷ back) 0 (chain_of 0 (front ++ l ∷ back) linked) in (parts.1.0, parts.1.1)

  pub none_front : l.leaf.prev ≡ 0 → front ≡ []
  none_front e = go front refl
    where
      go : (xs : List LeafAt) → front ≡ xs → front ≡ []
      go [] is = is
      go (x ∷ xs) is =
          let live : held pages (last_id x.slot.id xs) ≡ 1 = last_live pages x xs (subst (λ (t : List LeafAt). LeavesHeld pages t) is (leaves_part pages front (l ∷ back) h).0) in
          let id : last_id x.slot.id xs ≡ 0 = sym (links_are.0 ∙ ap (last_id 0) is) ∙ e in
          absurd (omega (arith, live, ap (held pages) id, held_none pages 0 zero_free))

  pub none_back : l.leaf.next ≡ 0 → back ≡ []
  none_back e = go back refl
    where
      go : (xs : List LeafAt) → back ≡ xs → back ≡ []
      go [] is = is
      go (x ∷ xs) is =
          let there : LeavesHeld pages (x ∷ xs) = subst (λ (t : List LeafAt). LeavesHeld pages t) is (leaves_part pages front (l ∷ back) h).1.1 in
          let id : x.slot.id ≡ 0 = sym (links_are.1 ∙ ap (λ (t : List LeafAt). first_or t 0) is) ∙ e in
          absurd (omega (arith, held_some pages x.slot.id (leaf_page x.leaf) there.0, ap (held pages) id, held_none pages 0 zero_free))
