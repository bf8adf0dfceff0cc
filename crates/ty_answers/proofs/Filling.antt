-- Rows that are added key by key.
use Rattle.std.proofs.Common.{◌≡◌, ◌∙◌, ◌+◌, ◌<◌, ◌≤◌, ℕ, true, List, [], ◌∷◌, ◌++◌, length, take, get_or, add-one, arith, length-append, refl, sym, ap, subst}
use Rattle.std.specs.Prelude.{flat_map, map}
use Rattle.std.proofs.lemmas.Grind.{flat_map-append}
use Rattle.std.proofs.lemmas.List.{append-nil, map-append, take_all}
use Rattle.std.proofs.Math.Seq.{take-suc}
use Rattle.tc_base.specs.declared.seq.Pair.{Pair}
use Rattle.tc_model.specs.Rows.{texts_of}
use Rattle.tc_engine.specs.Rows.{Adds, adds_then, is_long, item_row, joined, pair_row, pair_rows}
use Rattle.tc_engine.specs.declared.rows.Rows.{Rows}
use Rattle.tc_engine.proofs.Gathering.{joined_append}

abbrev pub text_rows : List Pair → List (List ℕ)
text_rows ps = map item_row (texts_of ps)

pairs_apart : (xs ys : List Pair) → pair_rows (xs ++ ys) ≡ pair_rows xs ++ pair_rows ys
pairs_apart xs ys = map-append (λ p. pair_row p.key p.value) xs ys

texts_apart : (xs ys : List Pair) → text_rows (xs ++ ys) ≡ text_rows xs ++ text_rows ys
texts_apart xs ys = ap (map item_row) (flat_map-append (λ p. p.key ∷ p.value ∷ []) xs ys) ∙ map-append item_row (texts_of xs) (texts_of ys)

one_more : (f : List ℕ → List Pair) (xs : List (List ℕ)) (x : List ℕ) → flat_map f (xs ++ x ∷ []) ≡ flat_map f xs ++ f x
one_more f xs x = flat_map-append f xs (x ∷ []) ∙ ap (λ (t : List Pair). flat_map f xs ++ t) (append-nil (f x))

-- the rows of one key more
pub pairs_more : (f : List ℕ → List Pair) (a b d : Rows) (xs : List (List ℕ)) (x : List ℕ) → Adds a b (pair_rows (flat_map f xs)) → Adds b d (pair_rows (f x)) → Adds a d (pair_rows (flat_map f (xs ++ x ∷ [])))
pairs_more f a b d xs x first second =
    subst (λ (rows : List (List ℕ)). Adds a d rows) (sym (ap pair_rows (one_more f xs x) ∙ pairs_apart (flat_map f xs) (f x))) (adds_then a b d (pair_rows (flat_map f xs)) (pair_rows (f x)) first second)

pub texts_more : (f : List ℕ → List Pair) (a b d : Rows) (xs : List (List ℕ)) (x : List ℕ) → Adds a b (text_rows (flat_map f xs)) → Adds b d (text_rows (f x)) → Adds a d (text_rows (flat_map f (xs ++ x ∷ [])))
texts_more f a b d xs x first second =
    subst (λ (rows : List (List ℕ)). Adds a d rows) (sym (ap text_rows (one_more f xs x) ∙ texts_apart (flat_map f xs) (f x))) (adds_then a b d (text_rows (flat_map f xs)) (text_rows (f x)) first second)

-- the front of a list with its next item
next_front : (keys : List (List ℕ)) (i : ℕ) (x d : List ℕ) → i < length keys → x ≡ get_or keys i d → take i keys ++ x ∷ [] ≡ take (i + 1) keys
next_front keys i x d lt is = ap (λ (y : List ℕ). take i keys ++ y ∷ []) is ∙ sym (take-suc keys i d lt) ∙ ap (λ (n : ℕ). take n keys) (sym (add-one i))

pub next_pairs : (f : List ℕ → List Pair) (a b e : Rows) (keys : List (List ℕ)) (i : ℕ) (x d : List ℕ) → i < length keys → x ≡ get_or keys i d → Adds a b (pair_rows (flat_map f (take i keys))) → Adds b e (pair_rows (f x)) → Adds a e (pair_rows (flat_map f (take (i + 1) keys)))
next_pairs f a b e keys i x d lt is first second =
    subst (λ (xs : List (List ℕ)). Adds a e (pair_rows (flat_map f xs))) (next_front keys i x d lt is) (pairs_more f a b e (take i keys) x first second)

pub all_taken : (f : List ℕ → List Pair) (a b : Rows) (keys : List (List ℕ)) (i : ℕ) → length keys ≤ i → Adds a b (pair_rows (flat_map f (take i keys))) → Adds a b (pair_rows (flat_map f keys))
all_taken f a b keys i end adds = subst (λ (xs : List (List ℕ)). Adds a b (pair_rows (flat_map f xs))) (take_all i keys end) adds

-- rows that are long stay so with any behind them
pub long_stays : (a : Rows) (rows : List (List ℕ)) → is_long a ≡ true → Adds a a rows
long_stays a rows long = record {
  most = refl;
  gathered = λ front before g. record {
    bytes = λ short. absurd (let h = long in cc);
    count = λ short. absurd (let h = long in cc);
    room = λ short. absurd (let h = long in cc);
    long = λ is. let less = g.long is in omega (arith, less, ap length (joined_append before rows), length-append (joined before) (joined rows));
    behind = g.behind;
  };
}
