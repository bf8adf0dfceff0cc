-- A leaf in which some items in a row are others, as its bytes and the places where its items begin.
use Rattle.std.proofs.Common.{◌≡◌, ℕ, ◌+◌, ◌-◌, ◌<◌, ◌≤◌, ◌^◌, List, [], ◌∷◌, ◌++◌, length, map, take, drop, set, get_or, refl, sym, ap, subst, ◌∙◌, append_assoc, arith, add-one, length-append}
use Rattle.std.proofs.lemmas.Grind.{flat_map-append}
use Rattle.std.proofs.lemmas.List.{take_more, set_split}
use Rattle.std.proofs.lemmas.List.Elements.{All-from_recursion, recursion_from_All, All-append, All-take, All-drop}
use Rattle.std.specs.List.{All, AllByRecursion, flat_map, remove}
use Rattle.bt_page.specs.declared.page.Item.{Item}
use Rattle.bt_page.specs.declared.page.Leaf.{Leaf}
use Rattle.bt_page.specs.Pages.{two, item_bytes, leaf_bytes, ItemFits, LeafFits}
use Rattle.bt_page.proofs.Runs.{all_with}
use Rattle.bt_slots.specs.Changes.{shifted, MayShift, spliced, HasItemAt}
use Rattle.bt_slots.specs.Reads.{leaf_in}
use Rattle.bt_slots.specs.Slots.{IsLeafIn, bytes_before, starts_from, with_items}
use Rattle.bt_slots.proofs.Places.{run_later, starts_count, before_within}
use Rattle.bt_slots.proofs.ReadBack.{leaf_made}
use Rattle.bt_slots.proofs.Rows.{row_bytes, row_long, those_spliced, those_long, those_starts, those_end, those_may}
use Rattle.bt_slots.proofs.Starts.{start_is, starts_joined}

pub leaf_row : (l : Leaf) (bytes : List ℕ) → bytes ≡ leaf_bytes l → bytes ≡ row_bytes item_bytes (two l.prev l.next) l.items
unfolding leaf_bytes
leaf_row l bytes is = is

pub leaf_long : (l : Leaf) (i : ℕ) → length (leaf_bytes l) ≡ bytes_before l i + length (flat_map item_bytes (drop i l.items))
leaf_long l i = ap length (leaf_row l (leaf_bytes l) refl) ∙ row_long item_bytes (two l.prev l.next) l.items i

-- the leaf with others in the place of the items from one place to another
abbrev pub with_row : Leaf → ℕ → ℕ → List Item → Leaf
with_row l i j mid = with_items l (take i l.items ++ (mid ++ drop j l.items))

pub row_spliced : (l : Leaf) (i j : ℕ) (mid : List Item) (new : List ℕ) → new ≡ flat_map item_bytes mid → spliced (bytes_before l i) (bytes_before l j) new (leaf_bytes l) ≡ leaf_bytes (with_row l i j mid)
unfolding leaf_bytes
row_spliced l i j mid new is = those_spliced item_bytes (two l.prev l.next) l.items i j mid new is

pub row_length : (l : Leaf) (i j : ℕ) (mid : List Item) → length (leaf_bytes (with_row l i j mid)) ≡ bytes_before l i + (length (flat_map item_bytes mid) + length (flat_map item_bytes (drop j l.items)))
unfolding leaf_bytes
row_length l i j mid = those_long item_bytes (two l.prev l.next) l.items i j mid

row_fits : (l : Leaf) (i j : ℕ) (mid : List Item) → LeafFits l → AllByRecursion ItemFits mid → LeafFits (with_row l i j mid)
row_fits l i j mid f g = record {
  prev = f.prev;
  next = f.next;
  items = recursion_from_All ItemFits (take i l.items ++ (mid ++ drop j l.items))
      (All-append ItemFits (take i l.items) (mid ++ drop j l.items) (All-take ItemFits i l.items all)
      (All-append ItemFits mid (drop j l.items) (All-from_recursion ItemFits mid g) (All-drop ItemFits j l.items all)));
}
  where
    all : All ItemFits l.items
    all = All-from_recursion ItemFits l.items f.items

pub row_is_leaf : (l : Leaf) (i j e : ℕ) (mid : List Item) (old starts new news : List ℕ) → IsLeafIn old starts l → AllByRecursion ItemFits mid → new ≡ leaf_bytes (with_row l i j mid) → e ≡ bytes_before l i + length (flat_map item_bytes mid)
    → news ≡ take i starts ++ (starts_from item_bytes (bytes_before l i) mid ++ map (shifted (bytes_before l j) e) (drop j starts)) → IsLeafIn new news (with_row l i j mid)
row_is_leaf l i j e mid old starts new news h fits is end begin = record {
  fits = row_fits l i j mid h.fits fits;
  is = is;
  begin = begin ∙ sym (those_starts item_bytes (two l.prev l.next) l.items i j mid e starts h.begin end);
}

-- the end of the new items, found from the sizes of all bytes
pub row_end : (l : Leaf) (i j : ℕ) (mid : List Item) (old new : List ℕ) → old ≡ leaf_bytes l → new ≡ leaf_bytes (with_row l i j mid) → length new - (length old - bytes_before l j) ≡ bytes_before l i + length (flat_map item_bytes mid)
row_end l i j mid old new eo en = those_end item_bytes (two l.prev l.next) l.items i j mid old new (leaf_row l old eo) (leaf_row (with_row l i j mid) new en)

pub row_may : (l : Leaf) (i j e : ℕ) (mid : List Item) (old starts new : List ℕ) → IsLeafIn old starts l → new ≡ leaf_bytes (with_row l i j mid) → e ≡ bytes_before l i + length (flat_map item_bytes mid) → length new < 2 ^ 64
    → All (MayShift (bytes_before l j) e) (drop j starts)
row_may l i j e mid old starts new h is end within =
    those_may item_bytes (two l.prev l.next) l.items i j mid old new (leaf_row l old h.is) (leaf_row (with_row l i j mid) new is) e starts h.begin end within

-- what is kept of a leaf is a leaf's
pub kept_leaf : (bytes starts : List ℕ) (l : Leaf) → IsLeafIn bytes starts l → IsLeafIn bytes starts (leaf_in (length starts) bytes)
kept_leaf bytes starts l h = subst (IsLeafIn bytes starts) (sym (leaf_made bytes starts l h)) h

-- ---- another item in the place of one

pub put_row : (l : Leaf) (place : ℕ) (y : Item) → place < length l.items → with_items l (set l.items place y) ≡ with_row l place (place + 1) (y ∷ [])
put_row l place y lt = ap (with_items l) (set_split l.items place y lt ∙ ap (λ (n : ℕ). take place l.items ++ y ∷ drop n l.items) (sym (add-one place)))

put_front : (l : Leaf) (place : ℕ) (y : Item) (old starts : List ℕ) → IsLeafIn old starts l → place < length l.items → take (place + 1) starts ≡ take place starts ++ starts_from item_bytes (bytes_before l place) (y ∷ [])
unfolding starts_from
put_front l place y old starts h lt =
    take_more starts place 0 (omega (arith, starts_count old starts l h, lt))
    ∙ ap (λ (n : ℕ). take place starts ++ n ∷ []) (ap (λ (xs : List ℕ). get_or xs place 0) h.begin ∙ start_is item_bytes (length (two l.prev l.next)) l.items place 0 lt)

-- one leaf's bytes and places are known, and another's bytes, in which the item at a place is another
module _ (l : Leaf) (place : ℕ) (y : Item) (old starts new : List ℕ) (h : IsLeafIn old starts l) (lt : place < length l.items) (has : HasItemAt place l new y) where
  row : new ≡ leaf_bytes (with_row l place (place + 1) (y ∷ []))
  row = has.is ∙ ap leaf_bytes (put_row l place y lt)

  pub put_end : (at e : ℕ) → at ≡ bytes_before l (place + 1) → e ≡ length new - (length old - at) → e ≡ bytes_before l place + length (flat_map item_bytes (y ∷ []))
  put_end at e is end = end ∙ ap (λ (n : ℕ). length new - (length old - n)) is ∙ row_end l place (place + 1) (y ∷ []) old new h.is row

  -- what is behind the item is in both
  pub put_within : (at : ℕ) → at ≡ bytes_before l (place + 1) → (at ≤ length old) × (length old - at ≤ length new)
  put_within at is =
      let a = leaf_long l (place + 1) in
      let b = row_length l place (place + 1) (y ∷ []) in
      (omega (arith, is, ap length h.is, a), omega (arith, is, ap length h.is, a, ap length row, b))

  pub put_may : (at e : ℕ) → at ≡ bytes_before l (place + 1) → e ≡ length new - (length old - at) → length new < 2 ^ 64 → All (MayShift at e) (drop (place + 1) starts)
  put_may at e is end within =
      subst (λ (n : ℕ). All (MayShift n e) (drop (place + 1) starts)) (sym is) (row_may l place (place + 1) e (y ∷ []) old starts new h row (put_end at e is end) within)

  pub put_is_leaf : (at e : ℕ) (news : List ℕ) → at ≡ bytes_before l (place + 1) → e ≡ length new - (length old - at) → news ≡ take (place + 1) starts ++ map (shifted at e) (drop (place + 1) starts) → IsLeafIn new news (with_items l (set l.items place y))
  put_is_leaf at e news is end begin =
      subst (IsLeafIn new news) (sym (put_row l place y lt))
      (row_is_leaf l place (place + 1) e (y ∷ []) old starts new news h (has.fits, tt) row (put_end at e is end)
      (begin
      ∙ ap (λ (n : ℕ). take (place + 1) starts ++ map (shifted n e) (drop (place + 1) starts)) is
      ∙ ap (λ (xs : List ℕ). xs ++ map (shifted (bytes_before l (place + 1)) e) (drop (place + 1) starts)) (put_front l place y old starts h lt)
      ∙ append_assoc (take place starts) (starts_from item_bytes (bytes_before l place) (y ∷ [])) (map (shifted (bytes_before l (place + 1)) e) (drop (place + 1) starts))))

-- ---- an item behind the others

pub last_is_leaf : (l : Leaf) (y : Item) (old starts parts new news : List ℕ) → IsLeafIn old starts l → ItemFits y → new ≡ old ++ parts → parts ≡ flat_map item_bytes (y ∷ []) → news ≡ starts ++ length old ∷ [] → IsLeafIn new news (with_items l (l.items ++ y ∷ []))
unfolding leaf_bytes starts_from
last_is_leaf l y old starts parts new news h fits is row begin =
    let at : ℕ = length (two l.prev l.next) in
    let long : length old ≡ at + length (flat_map item_bytes l.items) = ap length h.is ∙ length-append (two l.prev l.next) (flat_map item_bytes l.items) in
    record {
      fits = record { prev = h.fits.prev; next = h.fits.next; items = all_with ItemFits l.items y h.fits.items fits };
      is = is
          ∙ (λ k. h.is k ++ row k)
          ∙ append_assoc (two l.prev l.next) (flat_map item_bytes l.items) (flat_map item_bytes (y ∷ []))
          ∙ ap (λ (bs : List ℕ). two l.prev l.next ++ bs) (sym (flat_map-append item_bytes l.items (y ∷ [])));
      begin = begin ∙ (λ k. h.begin k ++ long k ∷ []) ∙ sym (starts_joined item_bytes at l.items (y ∷ []));
    }

-- ---- an item more, and one less

module _ (l : Leaf) (place : ℕ) (y : Item) (old starts new : List ℕ) (h : IsLeafIn old starts l) (fits : ItemFits y) (is : new ≡ leaf_bytes (with_row l place place (y ∷ []))) where
  -- what is behind the place is in both
  pub more_within : (at : ℕ) → at ≡ bytes_before l place → (at ≤ length old) × (length old - at ≤ length new)
  more_within at e =
      let a = leaf_long l place in
      let b = row_length l place place (y ∷ []) in
      (omega (arith, e, ap length h.is, a), omega (arith, e, ap length h.is, a, ap length is, b))

  more_end : (at e : ℕ) → at ≡ bytes_before l place → e ≡ length new - (length old - at) → e ≡ bytes_before l place + length (flat_map item_bytes (y ∷ []))
  more_end at e from end = end ∙ ap (λ (n : ℕ). length new - (length old - n)) from ∙ row_end l place place (y ∷ []) old new h.is is

  pub more_may : (at e : ℕ) → at ≡ bytes_before l place → e ≡ length new - (length old - at) → length new < 2 ^ 64 → All (MayShift at e) (drop place starts)
  more_may at e from end within =
      subst (λ (n : ℕ). All (MayShift n e) (drop place starts)) (sym from) (row_may l place place e (y ∷ []) old starts new h is (more_end at e from end) within)

  pub more_is_leaf : (at e : ℕ) (news : List ℕ) → at ≡ bytes_before l place → e ≡ length new - (length old - at) → news ≡ take place starts ++ at ∷ map (shifted at e) (drop place starts) → IsLeafIn new news (with_row l place place (y ∷ []))
  unfolding starts_from
  more_is_leaf at e news from end begin =
      row_is_leaf l place place e (y ∷ []) old starts new news h (fits, tt) is (more_end at e from end)
      (begin ∙ ap (λ (n : ℕ). take place starts ++ n ∷ map (shifted n e) (drop place starts)) from)

module _ (l : Leaf) (place : ℕ) (old starts new : List ℕ) (h : IsLeafIn old starts l) (is : new ≡ leaf_bytes (with_row l place (place + 1) [])) where
  less_long : length new ≤ length old
  less_long = omega (arith, ap length is, row_length l place (place + 1) [], ap length h.is, leaf_long l (place + 1), run_later item_bytes l.items place)

  pub less_may : (from to : ℕ) → from ≡ bytes_before l (place + 1) → to ≡ bytes_before l place → length old < 2 ^ 64 → All (MayShift from to) (drop (place + 1) starts)
  less_may from to ef et within =
      subst (λ (n : ℕ). All (MayShift n to) (drop (place + 1) starts)) (sym ef) (row_may l place (place + 1) to [] old starts new h is (et ∙ omega arith) (omega (arith, less_long, within)))

  pub less_is_leaf : (from to : ℕ) (news : List ℕ) → from ≡ bytes_before l (place + 1) → to ≡ bytes_before l place → news ≡ take place starts ++ map (shifted from to) (drop (place + 1) starts) → IsLeafIn new news (with_row l place (place + 1) [])
  unfolding starts_from
  less_is_leaf from to news ef et begin =
      row_is_leaf l place (place + 1) to [] old starts new news h tt is (et ∙ omega arith)
      (begin ∙ ap (λ (n : ℕ). take place starts ++ map (shifted n to) (drop (place + 1) starts)) ef)

pub less_row : (l : Leaf) (place : ℕ) → with_row l place (place + 1) [] ≡ with_items l (remove l.items place)
less_row l place = ap (λ (n : ℕ). with_items l (take place l.items ++ drop n l.items)) (add-one place)

-- bytes that were put together in pieces
pub pieced : (l : Leaf) (i j : ℕ) (mid : List Item) (old bytes mids new : List ℕ) (from to : ℕ) → old ≡ leaf_bytes l → bytes ≡ old → from ≡ bytes_before l i → to ≡ bytes_before l j → mids ≡ flat_map item_bytes mid → new ≡ spliced from to mids bytes
    → new ≡ leaf_bytes (with_row l i j mid)
pieced l i j mid old bytes mids new from to is same ef et em en =
    en ∙ (λ k. spliced (ef k) (et k) mids ((same ∙ is) k)) ∙ row_spliced l i j mid mids em

pub starts_within : (old starts bytes : List ℕ) (l : Leaf) (i at : ℕ) → IsLeafIn old starts l → bytes ≡ old → at ≡ bytes_before l i → at ≤ length bytes
starts_within old starts bytes l i at h same is = omega (arith, ap length same, before_within old starts l h i, is)
