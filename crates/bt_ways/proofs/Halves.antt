-- Leaves that are written: the rows above don't name the new ones yet.
use Rattle.std.proofs.Common.{◌≡◌, ℕ, ◌+◌, ◌<◌, ◌≤◌, ◌⊎◌, List, [], ◌∷◌, ◌++◌, Some, map, refl, sym, ap, ◌∙◌, subst, ⊎_elim, arith}
use Rattle.std.proofs.lemmas.Bool.{cases_eq}
use Rattle.std.proofs.lemmas.List.{map-append}
use Rattle.bt_rows.specs.declared.page.LeafAt.{LeafAt}
use Rattle.bt_rows.specs.declared.page.Page.TheVariants.{Leaf as leaf_page}
use Rattle.bt_rows.specs.declared.page.Slot.{Slot}
use Rattle.bt_rows.specs.Orders.{Before}
use Rattle.bt_rows.specs.Pages.{PageMap}
use Rattle.bt_rows.specs.Rows.{times, held}
use Rattle.bt_rows.specs.Rules.{InOrder, IsLinked}
use Rattle.bt_rows.specs.Levels.{NodeAt, leaf_slot, LeadsUp, level_times, LevelsHeld, LeavesHeld, Stands}
use Rattle.bt_rows.proofs.Building.{held_most, times-front}
use Rattle.bt_ways.specs.Climbs.{Climbed}
use Rattle.bt_ways.specs.Writes.{put_at, put_leaves}
use Rattle.bt_ways.proofs.Counts.{times-append, times-other, held_some, held_same, levels_frame, leaves_frame, leaves_join, puts}
use Rattle.bt_ways.proofs.Rows.{leaves_part}

-- pages of leaves and of rows of nodes, each named once, whatever the rows name
pub record IsHalf (pages : PageMap) (leaves : List LeafAt) (levels : List (List NodeAt)) : Type 0 where
  pub leaves_held : LeavesHeld pages leaves
  pub nodes_held : LevelsHeld pages levels
  pub once : (id : ℕ) → times id (map leaf_slot leaves) + level_times id levels ≡ held pages id

pub half_of : (before : Before) (pages : PageMap) (root : ℕ) (leaves : List LeafAt) (levels : List (List NodeAt)) → Stands before pages root leaves levels → IsHalf pages leaves levels
half_of before pages root leaves levels st = record { leaves_held = st.leaves_held; nodes_held = st.nodes_held; once = st.once }

-- once the rows above have taken what changed, a half is whole
pub rejoin : (before : Before) (low new : PageMap) (height height' root' : ℕ) (leaves : List LeafAt) (levels rows : List (List NodeAt)) (slots : List Slot)
    → IsHalf low leaves levels → Climbed low new height height' root' levels rows slots → slots ≡ map leaf_slot leaves → InOrder before leaves → IsLinked 0 leaves → Stands before new root' leaves rows
rejoin before low new height height' root' leaves levels rows slots half climbed e order links = record {
  up = subst (λ (t : List Slot). LeadsUp root' rows t) e climbed.up;
  leaves_held = leaves_frame low new leaves (λ j lt. climbed.others j (omega (arith, lt, half.once j, held_most low j)) (omega (arith, lt, half.once j, held_most low j))) half.leaves_held;
  nodes_held = climbed.nodes;
  once = λ id. omega (arith, climbed.balance id, half.once id);
  order = order;
  links = links;
}

-- ---- leaves that are written

pub put_leaves_other : (ls : List LeafAt) (pages : PageMap) (j : ℕ) → times j (map leaf_slot ls) ≡ 0 → put_leaves ls pages j ≡ pages j
put_leaves_other [] pages j none = refl
put_leaves_other (l ∷ ls) pages j none =
    put_leaves_other ls (put_at l.slot.id (leaf_page l.leaf) pages) j (omega (arith, none))
    ∙ (puts l.slot.id (leaf_page l.leaf) pages).others j (λ is. absurd (omega (arith, none, times-front j l.slot (map leaf_slot ls) (sym is))))

pub put_leaves_held : (ls : List LeafAt) (pages : PageMap) → ((j : ℕ) → times j (map leaf_slot ls) ≤ 1) → LeavesHeld (put_leaves ls pages) ls
put_leaves_held [] pages once = tt
put_leaves_held (l ∷ ls) pages once = (
  put_leaves_other ls (put_at l.slot.id (leaf_page l.leaf) pages) l.slot.id (omega (arith, once l.slot.id, times-front l.slot.id l.slot (map leaf_slot ls) refl)) ∙ (puts l.slot.id (leaf_page l.leaf) pages).put,
  put_leaves_held ls (put_at l.slot.id (leaf_page l.leaf) pages) (λ j. omega (arith, once j)),
)

pub leaves_live : (pages : PageMap) (ls : List LeafAt) (id : ℕ) → LeavesHeld pages ls → 0 < times id (map leaf_slot ls) → held pages id ≡ 1
leaves_live pages [] id h lt = absurd (omega (arith, lt))
leaves_live pages (l ∷ ls) id h lt = ⊎_elim
    (λ (same : l.slot.id ≡ id). held_some pages id (leaf_page l.leaf) (subst (λ j. pages j ≡ Some (leaf_page l.leaf)) same h.0))
    (λ (other : l.slot.id ≡ id → ⊥). leaves_live pages ls id h.1 (omega (arith, lt, times-other id l.slot (map leaf_slot ls) other)))
    (cases_eq l.slot.id id)

-- places whose pages aren't there, each named once
abbrev pub AreNew : PageMap → List Slot → Type 0
AreNew pages slots = (j : ℕ) → (times j slots ≡ 0) ⊎ ((times j slots ≡ 1) × (held pages j ≡ 0))

-- leaves in the place of others: at the same places, and at new ones
module _ (old : PageMap) (front mid written rest : List LeafAt) (levels : List (List NodeAt)) (fresh : List Slot) (half : IsHalf old (front ++ (mid ++ rest)) levels)
    (count : (j : ℕ) → times j (map leaf_slot written) ≡ times j (map leaf_slot mid) + times j fresh) (none : AreNew old fresh) where
  all_named : (xs : List LeafAt) (j : ℕ) → times j (map leaf_slot (front ++ (xs ++ rest))) ≡ times j (map leaf_slot front) + (times j (map leaf_slot xs) + times j (map leaf_slot rest))
  all_named xs j =
      ap (λ (t : List Slot). times j t) (map-append leaf_slot front (xs ++ rest) ∙ ap (λ (t : List Slot). map leaf_slot front ++ t) (map-append leaf_slot xs rest))
      ∙ omega (arith, times-append j (map leaf_slot front) (map leaf_slot xs ++ map leaf_slot rest), times-append j (map leaf_slot xs) (map leaf_slot rest))

  was : (j : ℕ) → times j (map leaf_slot front) + (times j (map leaf_slot mid) + times j (map leaf_slot rest)) + level_times j levels ≡ held old j
  was j = omega (arith, half.once j, all_named mid j)

  written_once : (j : ℕ) → times j (map leaf_slot written) ≤ 1
  written_once j = ⊎_elim
      (λ (z : times j fresh ≡ 0). omega (arith, count j, z, was j, held_most old j))
      (λ (one : (times j fresh ≡ 1) × (held old j ≡ 0)). omega (arith, count j, one.0, one.1, was j))
      (none j)

  -- what else is named isn't written
  beside : (j : ℕ) → 0 < times j (map leaf_slot front) + times j (map leaf_slot rest) + level_times j levels → times j (map leaf_slot written) ≡ 0
  beside j lt = ⊎_elim
      (λ (z : times j fresh ≡ 0). omega (arith, count j, z, was j, held_most old j, lt))
      (λ (one : (times j fresh ≡ 1) × (held old j ≡ 0)). absurd (omega (arith, one.1, was j, lt)))
      (none j)

  stays : (j : ℕ) → 0 < times j (map leaf_slot front) + times j (map leaf_slot rest) + level_times j levels → put_leaves written old j ≡ old j
  stays j lt = put_leaves_other written old j (beside j lt)

  written_held : LeavesHeld (put_leaves written old) written
  written_held = put_leaves_held written old written_once

  now : (j : ℕ) → times j (map leaf_slot front) + (times j (map leaf_slot written) + times j (map leaf_slot rest)) + level_times j levels ≡ held (put_leaves written old) j
  now j = ⊎_elim
      (λ (z : times j (map leaf_slot written) ≡ 0). omega (arith, was j, count j, z, held_same old (put_leaves written old) j (put_leaves_other written old j z)))
      (λ (some : times j (map leaf_slot written) ≡ 0 → ⊥).
      let live : held (put_leaves written old) j ≡ 1 = leaves_live (put_leaves written old) written j written_held (omega (arith, some)) in
      ⊎_elim
      (λ (z : times j fresh ≡ 0). omega (arith, count j, z, was j, held_most old j, some, live))
      (λ (one : (times j fresh ≡ 1) × (held old j ≡ 0)). omega (arith, count j, one.0, one.1, was j, live))
      (none j))
      (cases_eq (times j (map leaf_slot written)) 0)

  pub half_put : IsHalf (put_leaves written old) (front ++ (written ++ rest)) levels
  half_put =
      let first = leaves_part old front (mid ++ rest) half.leaves_held in
      let second = leaves_part old mid rest first.1 in
      record {
        leaves_held = leaves_join (put_leaves written old) front (written ++ rest)
            (leaves_frame old (put_leaves written old) front (λ j lt. stays j (omega (arith, lt))) first.0)
            (leaves_join (put_leaves written old) written rest written_held (leaves_frame old (put_leaves written old) rest (λ j lt. stays j (omega (arith, lt))) second.1));
        nodes_held = levels_frame old (put_leaves written old) levels (λ j lt. stays j (omega (arith, lt))) half.nodes_held;
        once = λ j. omega (arith, all_named written j, now j);
      }
