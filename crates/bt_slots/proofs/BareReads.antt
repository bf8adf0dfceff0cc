-- Pages as their bytes alone.
use Rattle.std.proofs.Common.{◌≡◌, ℕ, zero, suc, List, length, take, drop, refl, sym, ap, subst, ◌∙◌}
use Rattle.std.specs.List.{AllByRecursion, flat_map}
use Rattle.tc_base.specs.Vnum.{vnum}
use Rattle.bt_page.specs.declared.page.NodeEntry.{NodeEntry}
use Rattle.bt_page.specs.declared.page.Item.{Item}
use Rattle.bt_page.specs.declared.page.Leaf.{Leaf}
use Rattle.bt_page.specs.declared.page.Node.{Node}
use Rattle.bt_page.specs.Pages.{item_bytes, entry_bytes, leaf_bytes, node_bytes, ItemFits, EntryFits, LeafFits, NodeFits}
use Rattle.bt_page.specs.Spelled.{AtFront, Spells}
use Rattle.bt_page.proofs.AtFronts.{OneFits, TwoFit, two_bytes, leaf_found, node_found}
use Rattle.bt_slots.specs.Lying.{behind_values, entry_of, seen}
use Rattle.bt_slots.specs.Reads.{cut, number_in, second_in, third_in, item_with, item_in, items_in, leaf_in, value_in, values_in, entry_in, entries_in, node_in}
use Rattle.bt_slots.proofs.ReadBack.{number_at, two_at, items_read, leaf_read, entries_read, node_read}

-- ---- what a scan counts

pub leaf_counted : (bytes rest : List ℕ) (n prev next : ℕ) → AtFront TwoFit two_bytes bytes (prev, next) rest → ((xs : List Item) × (n ≡ length xs) × AllByRecursion ItemFits xs × (rest ≡ flat_map item_bytes xs)) → (l : Leaf) × (n ≡ length l.items) × Spells LeafFits leaf_bytes bytes l
leaf_counted bytes rest n prev next f a = (record { prev = prev; next = next; items = a.0 }, a.1, leaf_found bytes rest prev next a.0 f a.2 a.3)

pub node_counted : (bytes rest : List ℕ) (n heir : ℕ) → AtFront OneFits vnum bytes heir rest → ((xs : List NodeEntry) × (n ≡ length xs) × AllByRecursion EntryFits xs × (rest ≡ flat_map entry_bytes xs)) → (m : Node) × (n ≡ length m.entries) × Spells NodeFits node_bytes bytes m
node_counted bytes rest n heir f a = (record { heir = heir; entries = a.0 }, a.1, node_found bytes rest heir a.0 f a.2 a.3)

-- ---- what is kept is what was read

pub leaf_kept : (bytes : List ℕ) (n : ℕ) (l : Leaf) → n ≡ length l.items → Spells LeafFits leaf_bytes bytes l → Spells LeafFits leaf_bytes bytes (leaf_in n bytes)
leaf_kept bytes n l e s = subst (Spells LeafFits leaf_bytes bytes) (sym (ap (λ (k : ℕ). leaf_in k bytes) e ∙ ap (leaf_in (length l.items)) s.is ∙ leaf_read l s.fits)) s

pub node_kept : (bytes : List ℕ) (n : ℕ) (m : Node) → n ≡ length m.entries → Spells NodeFits node_bytes bytes m → Spells NodeFits node_bytes bytes (node_in n bytes)
node_kept bytes n m e s = subst (Spells NodeFits node_bytes bytes) (sym (ap (λ (k : ℕ). node_in k bytes) e ∙ ap (node_in (length m.entries)) s.is ∙ node_read m s.fits)) s

-- so many are read
pub items_long : (n : ℕ) (bytes : List ℕ) → length (items_in n bytes) ≡ n
unfolding items_in
items_long zero bytes = refl
items_long (suc n) bytes = ap suc (items_long n (item_in bytes).1)

pub values_long : (n : ℕ) (bytes : List ℕ) → length (values_in n bytes).0 ≡ n
unfolding values_in
values_long zero bytes = refl
values_long (suc n) bytes = ap suc (values_long n (value_in bytes).1)

pub entries_long : (n : ℕ) (bytes : List ℕ) → length (entries_in n bytes) ≡ n
unfolding entries_in
entries_long zero bytes = refl
entries_long (suc n) bytes = ap suc (entries_long n (entry_in bytes).1)

module _ (bytes : List ℕ) (n : ℕ) (l : Leaf) (is : leaf_in n bytes ≡ l) (s : Spells LeafFits leaf_bytes bytes (leaf_in n bytes)) where
  spelled : Spells LeafFits leaf_bytes bytes l
  spelled = subst (Spells LeafFits leaf_bytes bytes) is s

  -- its links, and the bytes behind them
  pub links_are : ((number_in bytes).0 ≡ l.prev) × (second_in bytes ≡ (l.next, flat_map item_bytes l.items))
  unfolding leaf_bytes
  links_are = two_at l.prev l.next bytes (flat_map item_bytes l.items) spelled.fits.prev spelled.fits.next spelled.is

  pub count_is : n ≡ length l.items
  unfolding leaf_in
  count_is = sym (items_long n (second_in bytes).1) ∙ ap (λ (m : Leaf). length m.items) is

  pub items_again : (rest : List ℕ) → rest ≡ flat_map item_bytes l.items → items_in (length l.items) rest ≡ l.items
  items_again rest e = ap (items_in (length l.items)) e ∙ items_read l.items spelled.fits.items

module _ (bytes : List ℕ) (n : ℕ) (m : Node) (is : node_in n bytes ≡ m) (s : Spells NodeFits node_bytes bytes (node_in n bytes)) where
  spelled_node : Spells NodeFits node_bytes bytes m
  spelled_node = subst (Spells NodeFits node_bytes bytes) is s

  pub heir_is : number_in bytes ≡ (m.heir, flat_map entry_bytes m.entries)
  unfolding node_bytes
  heir_is = number_at m.heir bytes (flat_map entry_bytes m.entries) spelled_node.fits.heir spelled_node.is

  pub entries_are : n ≡ length m.entries
  unfolding node_in
  entries_are = sym (entries_long n (number_in bytes).1) ∙ ap (λ (k : Node). length k.entries) is

  pub entries_again : (rest : List ℕ) → rest ≡ flat_map entry_bytes m.entries → entries_in (length m.entries) rest ≡ m.entries
  entries_again rest e = ap (entries_in (length m.entries)) e ∙ entries_read m.entries spelled_node.fits.entries

-- ---- what stands in front

pub item_next : (bytes rest key behind first further tail : List ℕ) (k v n : ℕ) → k ≡ (number_in bytes).0 → v ≡ (second_in bytes).0 → (n, rest) ≡ third_in bytes → key ≡ take k rest → behind ≡ drop k rest → first ≡ take v behind → further ≡ drop v behind → tail ≡ behind_values n further
    → (seen key first n further, tail) ≡ item_in bytes
unfolding item_in
item_next bytes rest key behind first further tail k v n ek ev en key_is behind_is first_is further_is tail_is =
    let f : first ≡ take v (drop k rest) = first_is ∙ ap (take v) behind_is in
    let g : further ≡ drop v (drop k rest) = further_is ∙ ap (drop v) behind_is in
    let t : tail ≡ behind_values n (drop v (drop k rest)) = tail_is ∙ ap (behind_values n) g in
    let parts : (seen key first n further, tail) ≡ item_with k v (n, rest) = (λ i. (seen (key_is i) (f i) n (g i), t i)) in
    parts ∙ (λ i. item_with (ek i) (ev i) (en i))

pub entry_next : (bytes rest last key tail : List ℕ) (child n : ℕ) → (child, rest) ≡ number_in bytes → (n, last) ≡ number_in rest → key ≡ take n last → tail ≡ drop n last → (entry_of child key, tail) ≡ entry_in bytes
unfolding entry_in
entry_next bytes rest last key tail child n one two key_is tail_is =
    let second : (n, last) ≡ second_in bytes = two ∙ ap (λ (x : ℕ × List ℕ). number_in x.1) one in
    let parts : (entry_of child key, tail) ≡ (entry_of child (cut (n, last)).0, (cut (n, last)).1) = (λ i. (entry_of child (key_is i), tail_is i)) in
    parts ∙ (λ i. (entry_of (one i).0 (cut (second i)).0, (cut (second i)).1))
