-- Leaves of some of a leaf's items.
use Rattle.std.proofs.Common.{◌≡◌, ℕ, ◌-◌, ◌<◌, ◌≤◌, ◌^◌, List, ◌++◌, length, map, take, drop}
use Rattle.std.proofs.lemmas.List.Elements.{All-from_recursion, recursion_from_All, All-take, All-drop}
use Rattle.std.specs.List.{All, flat_map}
use Rattle.bt_page.specs.declared.page.Item.{Item}
use Rattle.bt_page.specs.declared.page.Leaf.{Leaf}
use Rattle.bt_page.specs.Pages.{two, item_bytes, leaf_bytes, ItemFits, LeafFits}
use Rattle.bt_slots.specs.Changes.{shifted, MayShift}
use Rattle.bt_slots.specs.Slots.{IsLeafIn, bytes_before}
use Rattle.bt_slots.proofs.Leaves.{leaf_row}
use Rattle.bt_slots.proofs.Rows.{run_ends, run_is, run_bytes, run_may, run_starts}

-- the items from one place to another
abbrev items_from : Leaf → ℕ → ℕ → List Item
items_from l i j = take (j - i) (drop i l.items)

abbrev run : Leaf → ℕ → ℕ → List ℕ
run l i j = flat_map item_bytes (items_from l i j)

-- how many bytes they have
pub section_ends : (l : Leaf) (i j from to : ℕ) → i ≤ j → from ≡ bytes_before l i → to ≡ bytes_before l j → (from ≤ to) × (to - from ≡ length (run l i j))
section_ends l i j from to le ef et = run_ends item_bytes (two l.prev l.next) l.items i j from to le ef et

-- and which
pub section_bytes : (l : Leaf) (i j : ℕ) (old bytes : List ℕ) (from to : ℕ) → i ≤ j → old ≡ leaf_bytes l → from ≡ bytes_before l i → to ≡ bytes_before l j → bytes ≡ take (to - from) (drop from old) → bytes ≡ run l i j
section_bytes l i j old bytes from to le eo ef et is = run_is item_bytes (two l.prev l.next) l.items i j from to le ef et old bytes (leaf_row l old eo) is

-- a leaf's bytes and places are known, and the bytes of one with other links, whose items are some of its
module _ (l : Leaf) (i j prev next : ℕ) (old starts bytes new : List ℕ) (h : IsLeafIn old starts l) (is_run : bytes ≡ run l i j) (is : new ≡ two prev next ++ bytes) where
  pub section_may : (from at : ℕ) → from ≡ bytes_before l i → at ≡ length new - length bytes → length new < 2 ^ 64 → All (MayShift from at) (take (j - i) (drop i starts))
  section_may from at ef end within = run_may item_bytes (two l.prev l.next) l.items i j (two prev next) bytes new starts is_run is h.begin from at ef end within

  section_fits : prev < 2 ^ 64 → next < 2 ^ 64 → LeafFits (record { prev = prev; next = next; items = items_from l i j })
  section_fits p n = record {
    prev = p;
    next = n;
    items = recursion_from_All ItemFits (items_from l i j) (All-take ItemFits (j - i) (drop i l.items) (All-drop ItemFits i l.items (All-from_recursion ItemFits l.items h.fits.items)));
  }

  pub section_is_leaf : (from at : ℕ) (news : List ℕ) → prev < 2 ^ 64 → next < 2 ^ 64 → from ≡ bytes_before l i → at ≡ length new - length bytes → news ≡ map (shifted from at) (take (j - i) (drop i starts))
      → IsLeafIn new news (record { prev = prev; next = next; items = items_from l i j })
  unfolding leaf_bytes
  section_is_leaf from at news p n ef end begin = record {
    fits = section_fits p n;
    is = run_bytes item_bytes (two l.prev l.next) l.items i j (two prev next) bytes new starts is_run is h.begin;
    begin = run_starts item_bytes (two l.prev l.next) l.items i j (two prev next) bytes new starts is_run is h.begin from at news ef end begin;
  }
