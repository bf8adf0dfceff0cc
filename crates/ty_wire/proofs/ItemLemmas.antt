-- Lists of texts, and of keys and values, one element at a time.
use Rattle.std.proofs.Common.{◌≡◌, ℕ, zero, suc, ◌+◌, ◌*◌, ◌^◌, ◌<◌, ◌≤◌, List, [], ◌∷◌, ◌++◌, length, take, get_or, refl, sym, ap, subst, ◌∙◌, append_assoc, arith, length-append}
use Rattle.std.specs.Int.{w32, to_be_bytes}
use Rattle.std.proofs.lemmas.List.{append-nil, take_more}
use Rattle.tc_base.specs.declared.seq.Pair.{Pair}
use Rattle.ty_wire.specs.Form.{items_bytes}
use Rattle.tc_base.specs.declared.request.Reply.{Reply}
use Rattle.tc_base.specs.declared.request.Reply.TheVariants as reply
use Rattle.ty_wire.specs.Spelling.{size, pairs_bytes, reply_bytes, HasSpelling}
use Rattle.ty_wire.specs.Prefixes.{IsPrefix}

pub prefix_then : (xs ys zs : List ℕ) → IsPrefix xs ys → IsPrefix ys zs → IsPrefix xs zs
prefix_then xs ys zs p q = (p.0 ++ q.0, q.1 ∙ ap (λ (l : List ℕ). l ++ q.0) p.1 ∙ append_assoc xs p.0 q.0)

items-append : (xs ys : List (List ℕ)) → items_bytes (xs ++ ys) ≡ items_bytes xs ++ items_bytes ys
items-append [] ys = refl
items-append (x ∷ xs) ys =
    ap (λ (l : List ℕ). size x ++ (x ++ l)) (items-append xs ys) ∙ ap (λ (l : List ℕ). size x ++ l) (sym (append_assoc x (items_bytes xs) (items_bytes ys)))
    ∙ sym (append_assoc (size x) (x ++ items_bytes xs) (items_bytes ys))

pub item_more : (old new into : List ℕ) (xs : List (List ℕ)) (i : ℕ) (x : List ℕ) → i < length xs → x ≡ get_or xs i x → into ≡ old ++ items_bytes (take i xs) → new ≡ into ++ (size x ++ x) → new ≡ old ++ items_bytes (take (i + 1) xs)
item_more old new into xs i x lt is so added =
    let one : items_bytes (x ∷ []) ≡ size x ++ x = ap (λ (l : List ℕ). size x ++ l) (append-nil x) in
    let next : take (i + 1) xs ≡ take i xs ++ x ∷ [] = take_more xs i x lt ∙ ap (λ (y : List ℕ). take i xs ++ y ∷ []) (sym is) in
    added ∙ ap (λ (l : List ℕ). l ++ (size x ++ x)) so ∙ append_assoc old (items_bytes (take i xs)) (size x ++ x)
    ∙ ap (λ (l : List ℕ). old ++ l) (ap (λ (l : List ℕ). items_bytes (take i xs) ++ l) (sym one) ∙ sym (items-append (take i xs) (x ∷ [])) ∙ ap items_bytes (sym next))

pub item_short : (xs : List (List ℕ)) (i : ℕ) (x d : List ℕ) → i < length xs → x ≡ get_or xs i d → length x ≤ length (items_bytes xs)
item_short [] i x d lt is = absurd (omega arith)
item_short (y ∷ ys) zero x d lt is = omega (arith, ap length is, length-append (size y) (y ++ items_bytes ys), length-append y (items_bytes ys))
item_short (y ∷ ys) (suc i) x d lt is = let rest = item_short ys i x d (omega arith) is in omega (arith, rest, length-append (size y) (y ++ items_bytes ys), length-append y (items_bytes ys))

-- each text takes four bytes at least
pub count_short : (xs : List (List ℕ)) → 4 * length xs ≤ length (items_bytes xs)
count_short [] = omega arith
count_short (x ∷ xs) = omega (arith, count_short xs, length-append (size x) (x ++ items_bytes xs), length-append x (items_bytes xs))

-- ---- keys and values

abbrev pub pair_bytes : Pair → List ℕ
pair_bytes p = size p.key ++ (size p.value ++ (p.key ++ p.value))

pair_then : (p : Pair) (l : List ℕ) → pair_bytes p ++ l ≡ size p.key ++ (size p.value ++ (p.key ++ (p.value ++ l)))
pair_then p l = append_assoc (size p.key) (size p.value ++ (p.key ++ p.value)) l
    ∙ ap (λ (m : List ℕ). size p.key ++ m) (append_assoc (size p.value) (p.key ++ p.value) l ∙ ap (λ (m : List ℕ). size p.value ++ m) (append_assoc p.key p.value l))

pairs-append : (xs ys : List Pair) → pairs_bytes (xs ++ ys) ≡ pairs_bytes xs ++ pairs_bytes ys
pairs-append [] ys = refl
pairs-append (p ∷ xs) ys =
    sym (pair_then p (pairs_bytes (xs ++ ys))) ∙ ap (λ (l : List ℕ). pair_bytes p ++ l) (pairs-append xs ys)
    ∙ sym (append_assoc (pair_bytes p) (pairs_bytes xs) (pairs_bytes ys)) ∙ ap (λ (l : List ℕ). l ++ pairs_bytes ys) (pair_then p (pairs_bytes xs))

pub pair_more : (old new into : List ℕ) (xs : List Pair) (i : ℕ) (p : Pair) → i < length xs → p ≡ get_or xs i p → into ≡ old ++ pairs_bytes (take i xs) → new ≡ into ++ pair_bytes p → new ≡ old ++ pairs_bytes (take (i + 1) xs)
pair_more old new into xs i p lt is so added =
    let one : pairs_bytes (p ∷ []) ≡ pair_bytes p = sym (pair_then p []) ∙ append-nil (pair_bytes p) in
    let next : take (i + 1) xs ≡ take i xs ++ p ∷ [] = take_more xs i p lt ∙ ap (λ (y : Pair). take i xs ++ y ∷ []) (sym is) in
    added ∙ ap (λ (l : List ℕ). l ++ pair_bytes p) so ∙ append_assoc old (pairs_bytes (take i xs)) (pair_bytes p)
    ∙ ap (λ (l : List ℕ). old ++ l) (ap (λ (l : List ℕ). pairs_bytes (take i xs) ++ l) (sym one) ∙ sym (pairs-append (take i xs) (p ∷ [])) ∙ ap pairs_bytes (sym next))

pair_length : (p : Pair) → length p.key + length p.value ≤ length (pair_bytes p)
pair_length p = omega (arith, length-append (size p.key) (size p.value ++ (p.key ++ p.value)), length-append (size p.value) (p.key ++ p.value), length-append p.key p.value)

pub pair_short : (xs : List Pair) (i : ℕ) (p d : Pair) → i < length xs → p ≡ get_or xs i d → length p.key + length p.value ≤ length (pairs_bytes xs)
pair_short [] i p d lt is = absurd (omega arith)
pair_short (q ∷ xs) zero p d lt is = omega (arith, ap (λ (r : Pair). length r.key) is, ap (λ (r : Pair). length r.value) is, pair_length q, ap length (pair_then q (pairs_bytes xs)), length-append (pair_bytes q) (pairs_bytes xs))
pair_short (q ∷ xs) (suc i) p d lt is = let rest = pair_short xs i p d (omega arith) is in omega (arith, rest, ap length (pair_then q (pairs_bytes xs)), length-append (pair_bytes q) (pairs_bytes xs))

pub pairs_count_short : (xs : List Pair) → length xs ≤ length (pairs_bytes xs)
pairs_count_short [] = omega arith
pairs_count_short (q ∷ xs) = omega (arith, pairs_count_short xs, length-append (size q.key) (size q.value ++ (q.key ++ (q.value ++ pairs_bytes xs))), length-append (size q.value) (q.key ++ (q.value ++ pairs_bytes xs)), length-append q.key (q.value ++ pairs_bytes xs), length-append q.value (pairs_bytes xs))

-- ---- replies

pub list_fits : (r : Reply) (xs : List (List ℕ)) → r ≡ reply.List xs → HasSpelling r → (length xs < 2 ^ 32) × (length (items_bytes xs) < 2 ^ 32)
list_fits r xs is fits =
    let whole : length (reply_bytes (reply.List xs)) < 2 ^ 32 = subst HasSpelling is fits in
    let parts = length-append (to_be_bytes w32 (length xs)) (items_bytes xs) in
    (omega (arith, whole, parts, count_short xs), omega (arith, whole, parts))

pub pairs_fit : (r : Reply) (xs : List Pair) → r ≡ reply.Pairs xs → HasSpelling r → (length xs < 2 ^ 32) × (length (pairs_bytes xs) < 2 ^ 32)
pairs_fit r xs is fits =
    let whole : length (reply_bytes (reply.Pairs xs)) < 2 ^ 32 = subst HasSpelling is fits in
    let parts = length-append (to_be_bytes w32 (length xs)) (pairs_bytes xs) in
    (omega (arith, whole, parts, pairs_count_short xs), omega (arith, whole, parts))
