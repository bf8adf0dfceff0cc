-- Values written one behind the other.
use Rattle.std.proofs.Common.{◌≡◌, ℕ, zero, suc, ◌+◌, ◌<◌, List, [], ◌∷◌, ◌++◌, length, take, drop, ◌-◌, get_or, refl, sym, ap, subst, ◌∙◌, append_assoc, arith, length-drop}
use Rattle.std.specs.List.{AllByRecursion, flat_map}
use Rattle.std.proofs.lemmas.List.{take_more, take_all, flat_map_more}
use Rattle.tc_base.specs.Vnum.{vnum}
use Rattle.bt_page.specs.declared.page.Item.{Item}
use Rattle.bt_page.specs.declared.page.NodeEntry.{NodeEntry}
use Rattle.bt_page.specs.declared.page.Leaf.{Leaf}
use Rattle.bt_page.specs.declared.page.Node.{Node}
use Rattle.bt_page.specs.Pages.{two, three, value_bytes, spelled_item, item_bytes, entry_bytes, leaf_bytes, node_bytes, HasValue, ItemFits, LeafFits}
use Rattle.bt_page.specs.Spelled.{Spells}
use Rattle.bt_page.proofs.Runs.{all_with}

next : {A : Type 0} (xs : List A) (i : ℕ) (x : A) → i < length xs → x ≡ get_or xs i x → take (i + 1) xs ≡ take i xs ++ x ∷ []
next xs i x lt is = take_more xs i x lt ∙ ap (λ y. take i xs ++ y ∷ []) (sym is)

pub run_more : {A : Type 0} (f : A → List ℕ) (old new into : List ℕ) (xs : List A) (i : ℕ) (x : A) → i < length xs → x ≡ get_or xs i x → into ≡ old ++ flat_map f (take i xs) → new ≡ into ++ f x → new ≡ old ++ flat_map f (take (i + 1) xs)
run_more f old new into xs i x lt is so added =
    added ∙ ap (λ (l : List ℕ). l ++ f x) so ∙ flat_map_more f old (take i xs) x ∙ ap (λ l. old ++ flat_map f l) (sym (next xs i x lt is))

pub fits_more : {A : Type 0} (F : A → Type 0) (xs : List A) (i : ℕ) (x : A) → i < length xs → x ≡ get_or xs i x → AllByRecursion F (take i xs) → F x → AllByRecursion F (take (i + 1) xs)
fits_more F xs i x lt is h k = subst (AllByRecursion F) (sym (next xs i x lt is)) (all_with F (take i xs) x h k)

pub held_at : {A : Type 0} (F : A → Type 0) (xs : List A) (i : ℕ) (x d : A) → i < length xs → x ≡ get_or xs i d → AllByRecursion F xs → F x
held_at F [] i x d lt is h = absurd (omega (arith, lt))
held_at F (y ∷ xs) zero x d lt is h = subst F (sym is) h.0
held_at F (y ∷ xs) (suc i) x d lt is h = held_at F xs i x d (omega (arith, lt)) is h.1

two_written : (old a b c t : List ℕ) (m n : ℕ) → a ≡ old ++ vnum m → b ≡ a ++ vnum n → c ≡ b ++ t → c ≡ old ++ (two m n ++ t)
two_written old a b c t m n e f g =
    g ∙ ap (λ (l : List ℕ). l ++ t) (f ∙ ap (λ (l : List ℕ). l ++ vnum n) e ∙ append_assoc old (vnum m) (vnum n)) ∙ append_assoc old (two m n) t

pub entry_written : (old a b c k : List ℕ) (e : NodeEntry) (n : ℕ) → a ≡ old ++ vnum e.child → b ≡ a ++ vnum n → c ≡ b ++ k → n ≡ length k → k ≡ e.key → c ≡ old ++ entry_bytes e
unfolding entry_bytes
entry_written old a b c k e n f g h len is =
    two_written old a b c k e.child n f g h ∙ ap (λ (m : ℕ). old ++ (two e.child m ++ k)) len ∙ ap (λ (l : List ℕ). old ++ (two e.child (length l) ++ l)) is

pub leaf_written : (old a b c : List ℕ) (xs : List Item) (l : Leaf) → a ≡ old ++ vnum l.prev → b ≡ a ++ vnum l.next → c ≡ b ++ flat_map item_bytes xs → xs ≡ l.items → c ≡ old ++ leaf_bytes l
unfolding leaf_bytes
leaf_written old a b c xs l f g h is = two_written old a b c (flat_map item_bytes xs) l.prev l.next f g h ∙ ap (λ (ys : List Item). old ++ (two l.prev l.next ++ flat_map item_bytes ys)) is

pub node_written : (old a c : List ℕ) (xs : List NodeEntry) (n : Node) → a ≡ old ++ vnum n.heir → c ≡ a ++ flat_map entry_bytes xs → xs ≡ n.entries → c ≡ old ++ node_bytes n
unfolding node_bytes
node_written old a c xs n f g is =
    g ∙ ap (λ (l : List ℕ). l ++ flat_map entry_bytes xs) f ∙ append_assoc old (vnum n.heir) (flat_map entry_bytes xs) ∙ ap (λ (ys : List NodeEntry). old ++ (vnum n.heir ++ flat_map entry_bytes ys)) is

held_parts : (key : List ℕ) (values : List (List ℕ)) (v : List ℕ) (more : List (List ℕ)) → 0 < length values → v ≡ get_or values 0 v → more ≡ drop 1 values → spelled_item key values ≡ three (length key) (length v) (length values - 1) ++ (key ++ (v ++ flat_map value_bytes more))
held_parts key [] v more some is rest = absurd (omega (arith, some))
held_parts key (w ∷ ws) v more some is rest =
    let one : length (w ∷ ws) - 1 ≡ length ws = omega arith in
    ap (λ (n : ℕ). three (length key) (length w) n ++ (key ++ (w ++ flat_map value_bytes ws))) (sym one)
    ∙ ap (λ (z : List ℕ). three (length key) (length z) (length (w ∷ ws) - 1) ++ (key ++ (z ++ flat_map value_bytes ws))) (sym is)
    ∙ ap (λ (l : List (List ℕ)). three (length key) (length v) (length (w ∷ ws) - 1) ++ (key ++ (v ++ flat_map value_bytes l))) (sym rest)

pub item_written : (old a b c d e f k : List ℕ) (i : Item) (values : List (List ℕ)) (v : List ℕ) (more : List (List ℕ)) (m n o : ℕ) → a ≡ old ++ vnum m → b ≡ a ++ vnum n → c ≡ b ++ vnum o → d ≡ c ++ k → e ≡ d ++ v → f ≡ e ++ flat_map value_bytes more
    → m ≡ length k → k ≡ i.key → values ≡ i.values → 0 < length values → v ≡ get_or values 0 v → more ≡ drop 1 values → n ≡ length v → o ≡ length values - 1 → f ≡ old ++ item_bytes i
unfolding item_bytes
item_written old a b c d e f k i values v more m n o ea eb ec ed ee ef sk ik iv some iw im sv so =
    let tail : List ℕ = k ++ (v ++ flat_map value_bytes more) in
    let front : c ≡ old ++ three m n o = ec ∙ ap (λ (l : List ℕ). l ++ vnum o) (eb ∙ ap (λ (l : List ℕ). l ++ vnum n) ea) ∙ append_assoc (old ++ vnum m) (vnum n) (vnum o) ∙ append_assoc old (vnum m) (vnum n ++ vnum o) in
    let back : f ≡ c ++ tail = ef ∙ ap (λ (l : List ℕ). l ++ flat_map value_bytes more) (ee ∙ ap (λ (l : List ℕ). l ++ v) ed) ∙ append_assoc (c ++ k) v (flat_map value_bytes more) ∙ append_assoc c k (v ++ flat_map value_bytes more) in
    back ∙ ap (λ (l : List ℕ). l ++ tail) front ∙ append_assoc old (three m n o) tail
    ∙ ap (λ (l : List ℕ). old ++ l) (ap (λ (z : ℕ). three z n o ++ tail) sk ∙ ap (λ (z : ℕ). three (length k) z o ++ tail) sv ∙ ap (λ (z : ℕ). three (length k) (length v) z ++ tail) so
    ∙ sym (held_parts k values v more some iw im) ∙ ap (λ (l : List ℕ). spelled_item l values) ik ∙ ap (spelled_item i.key) iv)

pub tail_is : (xs : List (List ℕ)) → take (length xs - 1) (drop 1 xs) ≡ drop 1 xs
tail_is xs = take_all (length xs - 1) (drop 1 xs) (simp length-drop (omega arith))

pub first_any : (xs : List (List ℕ)) (d e : List ℕ) → 0 < length xs → get_or xs 0 d ≡ get_or xs 0 e
first_any [] d e some = absurd (omega (arith, some))
first_any (x ∷ xs) d e some = refl

-- what fits can be written
pub have_values : (xs : List Item) → AllByRecursion ItemFits xs → AllByRecursion HasValue xs
have_values [] h = tt
have_values (x ∷ xs) h = (h.0.some, have_values xs h.1)

pub leaf_has_values : (bytes : List ℕ) (l : Leaf) → Spells LeafFits leaf_bytes bytes l → AllByRecursion HasValue l.items
leaf_has_values bytes l h = have_values l.items h.fits.items
