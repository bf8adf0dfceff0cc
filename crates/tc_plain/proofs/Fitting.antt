-- Which replies are within the limit.
use Rattle.std.proofs.Common.{◌≡◌, ◌<◌, ◌≤◌, ◌+◌, ℕ, true, false, List, [], ◌∷◌, ◌++◌, length, get_or, drop, drop-cons, add-one, refl, sym, ap, ◌∙◌, arith, length-append}
use Rattle.std.proofs.lemmas.Bool.{le-leb, lt-leb}
use Rattle.std.proofs.Math.ListN.{drop_of_length-le}
use Rattle.std.specs.Int.{w32, to_be_bytes}
use Rattle.tc_base.specs.declared.request.Reply.TheVariants as reply
use Rattle.tc_base.specs.declared.seq.Pair.{Pair}
use Rattle.ty_wire.specs.Form.{items_bytes}
use Rattle.ty_wire.specs.Spelling.{size, pairs_bytes}
use Rattle.tc_model.specs.Apply.{fits}

-- texts with their sizes, and pairs with theirs
abbrev pub items_size : List (List ℕ) → ℕ
items_size [] = 0
items_size (x ∷ xs) = (4 + length x) + items_size xs

abbrev pub pairs_size : List Pair → ℕ
pairs_size [] = 0
pairs_size (p ∷ ps) = (8 + (length p.key + length p.value)) + pairs_size ps

items_length : (items : List (List ℕ)) → length (items_bytes items) ≡ items_size items
items_length [] = refl
items_length (x ∷ xs) = omega (arith, items_length xs, length-append (size x) (x ++ items_bytes xs), length-append x (items_bytes xs))

pairs_length : (pairs : List Pair) → length (pairs_bytes pairs) ≡ pairs_size pairs
pairs_length [] = refl
pairs_length (p ∷ ps) =
    omega (
      arith,
      pairs_length ps,
      length-append (size p.key) (size p.value ++ (p.key ++ (p.value ++ pairs_bytes ps))),
      length-append (size p.value) (p.key ++ (p.value ++ pairs_bytes ps)),
      length-append p.key (p.value ++ pairs_bytes ps),
      length-append p.value (pairs_bytes ps),
    )

pub items_held : (items : List (List ℕ)) (i room : ℕ) → items_size items + room ≡ 67108859 + items_size (drop i items) → length items ≤ i → true ≡ fits (reply.List items)
items_held items i room e end =
    let left : items_size (drop i items) ≡ 0 = ap items_size (drop_of_length-le items end) in
    sym (le-leb _ _ (omega (arith, e, left, length-append (to_be_bytes w32 (length items)) (items_bytes items), items_length items)))

pub items_step : (items : List (List ℕ)) (i room less : ℕ) (x d : List ℕ) → items_size items + room ≡ 67108859 + items_size (drop i items) → i < length items → x ≡ get_or items i d → less + (4 + length x) ≡ room
    → items_size items + less ≡ 67108859 + items_size (drop (i + 1) items)
items_step items i room less x d e lt is so =
    let f : drop i items ≡ x ∷ drop (i + 1) items = drop-cons items i d lt ∙ (λ j. sym is j ∷ drop (sym (add-one i) j) items) in
    let left : items_size (drop i items) ≡ (4 + length x) + items_size (drop (i + 1) items) = ap items_size f in
    omega (arith, e, left, so)

pub items_over : (items : List (List ℕ)) (i room : ℕ) (x d : List ℕ) → items_size items + room ≡ 67108859 + items_size (drop i items) → i < length items → x ≡ get_or items i d → room < 4 + length x → false ≡ fits (reply.List items)
items_over items i room x d e lt is over =
    let f : drop i items ≡ x ∷ drop (i + 1) items = drop-cons items i d lt ∙ (λ j. sym is j ∷ drop (sym (add-one i) j) items) in
    let left : items_size (drop i items) ≡ (4 + length x) + items_size (drop (i + 1) items) = ap items_size f in
    sym (lt-leb _ _ (omega (arith, e, left, over, length-append (to_be_bytes w32 (length items)) (items_bytes items), items_length items)))

pub pairs_held : (pairs : List Pair) (i room : ℕ) → pairs_size pairs + room ≡ 67108859 + pairs_size (drop i pairs) → length pairs ≤ i → true ≡ fits (reply.Pairs pairs)
pairs_held pairs i room e end =
    let left : pairs_size (drop i pairs) ≡ 0 = ap pairs_size (drop_of_length-le pairs end) in
    sym (le-leb _ _ (omega (arith, e, left, length-append (to_be_bytes w32 (length pairs)) (pairs_bytes pairs), pairs_length pairs)))

pub pairs_step : (pairs : List Pair) (i room less : ℕ) (x d : Pair) → pairs_size pairs + room ≡ 67108859 + pairs_size (drop i pairs) → i < length pairs → x ≡ get_or pairs i d → less + (8 + (length x.key + length x.value)) ≡ room
    → pairs_size pairs + less ≡ 67108859 + pairs_size (drop (i + 1) pairs)
pairs_step pairs i room less x d e lt is so =
    let f : drop i pairs ≡ x ∷ drop (i + 1) pairs = drop-cons pairs i d lt ∙ (λ j. sym is j ∷ drop (sym (add-one i) j) pairs) in
    let left : pairs_size (drop i pairs) ≡ (8 + (length x.key + length x.value)) + pairs_size (drop (i + 1) pairs) = ap pairs_size f in
    omega (arith, e, left, so)

pub pairs_over : (pairs : List Pair) (i room : ℕ) (x d : Pair) → pairs_size pairs + room ≡ 67108859 + pairs_size (drop i pairs) → i < length pairs → x ≡ get_or pairs i d → room < 8 + (length x.key + length x.value)
    → false ≡ fits (reply.Pairs pairs)
pairs_over pairs i room x d e lt is over =
    let f : drop i pairs ≡ x ∷ drop (i + 1) pairs = drop-cons pairs i d lt ∙ (λ j. sym is j ∷ drop (sym (add-one i) j) pairs) in
    let left : pairs_size (drop i pairs) ≡ (8 + (length x.key + length x.value)) + pairs_size (drop (i + 1) pairs) = ap pairs_size f in
    sym (lt-leb _ _ (omega (arith, e, left, over, length-append (to_be_bytes w32 (length pairs)) (pairs_bytes pairs), pairs_length pairs)))
