-- Links of leaves.
use Rattle.std.proofs.Common.{◌≡◌, ℕ, List, [], ◌∷◌, ◌++◌, refl, sym, ◌∙◌, subst}
use Rattle.std.specs.Prelude.{⊤}
use Rattle.bt_page.specs.declared.page.Item.{Item}
use Rattle.bt_rows.specs.declared.page.LeafAt.{LeafAt}
use Rattle.bt_rows.specs.declared.page.Slot.{Slot}
use Rattle.bt_rows.specs.Rows.{first_id, last_id}
use Rattle.bt_rows.specs.Rules.{IsLinked}
use Rattle.bt_ways.specs.Parts.{Part, part_slot, parted, relinked}

abbrev pub first_or : List LeafAt → ℕ → ℕ
first_or [] next = next
first_or (l ∷ ls) next = l.slot.id

-- linked, between one before them and one behind them
abbrev pub Chain : ℕ → List LeafAt → ℕ → Type 0
Chain prev [] next = ⊤
Chain prev (l ∷ ls) next = (l.leaf.prev ≡ prev) × (l.leaf.next ≡ first_or ls next) × Chain l.slot.id ls next

pub first_is : (ls : List LeafAt) → first_id ls ≡ first_or ls 0
first_is [] = refl
first_is (l ∷ ls) = refl

pub chain_of : (prev : ℕ) (ls : List LeafAt) → IsLinked prev ls → Chain prev ls 0
chain_of prev [] h = tt
chain_of prev (l ∷ ls) h = (h.0, h.1 ∙ first_is ls, chain_of l.slot.id ls h.2)

pub linked_of : (prev : ℕ) (ls : List LeafAt) → Chain prev ls 0 → IsLinked prev ls
linked_of prev [] h = tt
linked_of prev (l ∷ ls) h = (h.0, h.1 ∙ sym (first_is ls), linked_of l.slot.id ls h.2)

pub first_or-append : (xs ys : List LeafAt) (next : ℕ) → first_or (xs ++ ys) next ≡ first_or xs (first_or ys next)
first_or-append [] ys next = refl
first_or-append (x ∷ xs) ys next = refl

pub chain_join : (prev : ℕ) (xs ys : List LeafAt) (next : ℕ) → Chain prev xs (first_or ys next) → Chain (last_id prev xs) ys next → Chain prev (xs ++ ys) next
chain_join prev [] ys next h k = k
chain_join prev (x ∷ xs) ys next h k = (h.0, h.1 ∙ sym (first_or-append xs ys next), chain_join x.slot.id xs ys next h.2 k)

pub chain_part : (prev : ℕ) (xs ys : List LeafAt) (next : ℕ) → Chain prev (xs ++ ys) next → Chain prev xs (first_or ys next) × Chain (last_id prev xs) ys next
chain_part prev [] ys next h = (tt, h)
chain_part prev (x ∷ xs) ys next h = let rest = chain_part x.slot.id xs ys next h.2 in ((h.0, h.1 ∙ first_or-append xs ys next, rest.0), rest.1)

-- ---- parts

first_parted : (s : Slot) (prev next : ℕ) (items : List Item) (parts : List Part) (n : ℕ) → first_or (parted s prev next items parts) n ≡ s.id
first_parted s prev next items [] n = refl
first_parted s prev next items (p ∷ ps) n = refl

last_parted : (s : Slot) (prev next : ℕ) (items : List Item) (parts : List Part) (m n : ℕ) → last_id m (parted s prev next items parts) ≡ last_id n (parted s prev next items parts)
last_parted s prev next items [] m n = refl
last_parted s prev next items (p ∷ ps) m n = refl

chain_parted : (s : Slot) (prev next : ℕ) (items : List Item) (parts : List Part) → Chain prev (parted s prev next items parts) next
chain_parted s prev next items [] = (refl, refl, tt)
chain_parted s prev next items (p ∷ ps) = (refl, sym (first_parted (part_slot p) s.id next p.items ps next), chain_parted (part_slot p) s.id next p.items ps)

pub chain_relinked : (was prev next : ℕ) (back : List LeafAt) → Chain was back next → Chain prev (relinked prev back) next
chain_relinked was prev next [] h = tt
chain_relinked was prev next (l ∷ ls) h = (refl, h.1, h.2)

pub first_relinked : (prev next : ℕ) (back : List LeafAt) → first_or (relinked prev back) next ≡ first_or back next
first_relinked prev next [] = refl
first_relinked prev next (l ∷ ls) = refl

-- the parts of a leaf are linked between its neighbours
pub parts_linked : (front : List LeafAt) (leaf : LeafAt) (back : List LeafAt) (items : List Item) (parts : List Part) → IsLinked 0 (front ++ leaf ∷ back)
    → IsLinked 0 (front ++ (parted leaf.slot leaf.leaf.prev leaf.leaf.next items parts ++ relinked (last_id 0 (parted leaf.slot leaf.leaf.prev leaf.leaf.next items parts)) back))
parts_linked front leaf back items parts linked =
    let laid : List LeafAt = parted leaf.slot leaf.leaf.prev leaf.leaf.next items parts in
    let behind : List LeafAt = relinked (last_id 0 laid) back in
    let was = chain_part 0 front (leaf ∷ back) 0 (chain_of 0 (front ++ leaf ∷ back) linked) in
    let next : leaf.leaf.next ≡ first_or behind 0 = was.1.1 ∙ sym (first_relinked (last_id 0 laid) 0 back) in
    let middle : Chain (last_id 0 front) laid (first_or behind 0) =
    subst (λ (p : ℕ). Chain p laid (first_or behind 0)) was.1.0 (subst (λ (n : ℕ). Chain leaf.leaf.prev laid n) next (chain_parted leaf.slot leaf.leaf.prev leaf.leaf.next items parts)) in
    let last : Chain (last_id (last_id 0 front) laid) behind 0 =
    subst (λ (p : ℕ). Chain p behind 0) (last_parted leaf.slot leaf.leaf.prev leaf.leaf.next items parts 0 (last_id 0 front)) (chain_relinked leaf.slot.id (last_id 0 laid) 0 back was.1.2) in
    let first : first_or (laid ++ behind) 0 ≡ leaf.slot.id = first_or-append laid behind 0 ∙ first_parted leaf.slot leaf.leaf.prev leaf.leaf.next items parts (first_or behind 0) in
    linked_of 0 (front ++ (laid ++ behind))
    (chain_join 0 front (laid ++ behind) 0 (subst (λ (n : ℕ). Chain 0 front n) (sym first) was.0) (chain_join (last_id 0 front) laid behind 0 middle last))
