-- What is read of the pairs of a tree by showing its items.
use Rattle.std.proofs.Common.{◌≡◌, ◌∙◌, ◌⊎◌, inl, inr, ⊎_elim, ℕ, zero, suc, ◌+◌, ◌-◌, Bool, true, false, cond, List, [], ◌∷◌, ◌++◌, length, map, filter, refl, sym, ap, subst, arith, append_assoc}
use Rattle.std.specs.Prelude.{Option, Some, None, Result, IfOk, IfSome, is_some, nat_eq, option_map, option_to_list, slice_get}
use Rattle.std.specs.List.{AllByRecursion, dedup_from, starts_with}
use Rattle.std.specs.Cmp.{IsTotalOrder}
use Rattle.std.specs.Ordering.{is_ge, is_le, is_lt, ordering_reverse}
use Rattle.std.specs.declared.cmp.Ordering.{Ordering}
use Rattle.std.specs.declared.cmp.Ordering.TheVariants.{Less, Equal, Greater}
use Rattle.std.proofs.lemmas.Grind.{flat_map-append}
use Rattle.std.proofs.lemmas.List.{append-nil, map-append}
use Rattle.std.proofs.lemmas.Map.Lookups.{CmpEqualImpliesEq}
use Rattle.std.proofs.lemmas.Result.{IfOk-weaker}
use Rattle.std.proofs.lemmas.Slice.Eq.{bytes_eq-Decides}
use Rattle.tc_base.specs.Lists.{Rises, before, first, from_on, keys, pair, values}
use Rattle.tc_base.specs.Texts.{is_text}
use Rattle.tc_base.specs.declared.order.Side.{Side}
use Rattle.tc_base.specs.declared.order.Side.TheVariants as side
use Rattle.tc_base.specs.declared.seq.Pair.{Pair}
use Rattle.tc_space.specs.Changes.{inside, is_inside}
use Rattle.bt_order.specs.Keys.{side_in}
use Rattle.bt_order.specs.Sides.{side as side_of_tests}
use Rattle.bt_page.specs.Pages.{HasValue}
use Rattle.bt_page.specs.declared.page.Item.{Item}
use Rattle.bt_rows.specs.Orders.{before_by}
use Rattle.bt_rows.specs.Rules.{Ascends, item_pairs}
use Rattle.bt_ways.specs.Changes.{AreItems, items_pairs}
use Rattle.bt_ways.specs.Items.{item_of}
use Rattle.bt_tree.specs.Showing.{ShownOf, Takes}
use Rattle.bt_tree.specs.Visiting.{IsLastOne, IsVisited, Shown}
use Rattle.tc_model.specs.Meaning.{at_most}
use Rattle.tc_engine.specs.Changes.{first_of}
use Rattle.tc_engine.specs.Rows.{Adds, adds_nothing, item_row, pair_row, pair_rows, text_rows}
use Rattle.tc_engine.specs.declared.rows.Rows.{Rows}
use Rattle.tc_treedb.specs.Reading.{AddsFirstOf, HasAllOf, bytes_in, keys_beginning, pairs_in}
use Rattle.tc_treedb.specs.Taking.{AddsFirst, AddsKey, AddsValues, AreAdded, AreDone, AreKeysAdded, beginning, lengths, lessened}
use Rattle.tc_treedb.specs.declared.takers.FirstLen.{FirstLen}
use Rattle.tc_treedb.specs.declared.takers.FirstRow.{FirstRow}
use Rattle.tc_treedb.specs.declared.takers.KeyList.{KeyList}
use Rattle.tc_treedb.specs.declared.takers.KeyRows.{KeyRows}
use Rattle.tc_treedb.specs.declared.takers.Lengths.{Lengths}
use Rattle.tc_treedb.specs.declared.takers.PairRows.{PairRows}
use Rattle.tc_treedb.proofs.Takings.{bytes_join, pairs_done, rows_done}

-- what follows of an answer, by what is known of it
pub from_ok : {A E : Type 0} (P Q : A → Type 0) (r : Result A E) → IfOk r P → ((x : A) → P x → Q x) → IfOk r Q
from_ok P Q r told f = IfOk-weaker r P Q f told

-- ---- one item

abbrev takes_len : Takes FirstLen
takes_len t x u more = option_map length (slice_get x.values 0) ≡ Some u.len

pub len_found : (key : List ℕ) (vs : List (List ℕ)) (held : Bool) (t u : FirstLen) → held ≡ true → ShownOf takes_len (item_of key vs) held t u → Some u.len ≡ option_map length (slice_get vs 0)
len_found key [] held t u there shown = absurd (let bad : true ≡ false = sym there ∙ shown.0 in cc)
len_found key (v ∷ vs) held t u there shown = sym shown.2

pub len_none : (key : List ℕ) (vs : List (List ℕ)) (held : Bool) (t u : FirstLen) → held ≡ false → ShownOf takes_len (item_of key vs) held t u → None ≡ option_map length (slice_get vs 0)
len_none key [] held t u none shown = refl
len_none key (v ∷ vs) held t u none shown = absurd (let bad : true ≡ false = sym shown.0 ∙ none in cc)

abbrev takes_lengths : Takes Lengths
takes_lengths t x u more = IfSome u.bytes (λ n. (m : ℕ) × (t.bytes ≡ Some m) × (n ≡ m + lengths x)) × (more ≡ true)

some_same : (a b : ℕ) → Some a ≡ Some b → a ≡ b
some_same a b e = cc

-- the bytes of what was shown
abbrev pub AreBytes : Option ℕ → List Pair → Type 0
AreBytes now ps = IfSome now (λ n. n ≡ bytes_in ps)

counted_on : (now before : Option ℕ) (ps qs : List Pair) (more : ℕ) → more ≡ bytes_in qs → IfSome now (λ n. (m : ℕ) × (before ≡ Some m) × (n ≡ m + more)) → AreBytes before ps → AreBytes now (ps ++ qs)
counted_on None before ps qs more is adds so_far = tt
counted_on (Some n) before ps qs more is adds so_far =
    let was : adds.0 ≡ bytes_in ps = subst (λ (o : Option ℕ). AreBytes o ps) adds.1 so_far in
    let sum = adds.2 in
    let join = bytes_join ps qs in
    omega (arith, sum, was, join, is)

pub bytes_found : (key : List ℕ) (vs : List (List ℕ)) (held : Bool) (t u : Lengths) → t.bytes ≡ Some 0 → ShownOf takes_lengths (item_of key vs) held t u → AreBytes u.bytes (map (pair key) vs)
bytes_found key [] held t u start shown = subst (λ (o : Option ℕ). AreBytes o []) (sym (ap (λ (l : Lengths). l.bytes) shown.1 ∙ start)) refl
bytes_found key (v ∷ vs) held t u start shown = counted_on u.bytes t.bytes [] (map (pair key) (v ∷ vs)) (bytes_in (map (pair key) (v ∷ vs))) refl shown.2.0 (subst (λ (o : Option ℕ). AreBytes o []) (sym start) refl)

-- of whatever is held
pub bytes_answered : {A : Type 0} {B : A → Type 0} (o : Option ℕ) (f : A → ℕ) → ((x : A) → B x → IfSome o (λ n. n ≡ f x)) → IfSome o (λ n. (x : A) → B x → n ≡ f x)
bytes_answered None f are = tt
bytes_answered (Some n) f are = are

abbrev takes_first : Takes FirstRow
takes_first t x u more = AddsFirst x t u

pub first_row_found : (with_key : Bool) (key : List ℕ) (vs : List (List ℕ)) (held : Bool) (t u : FirstRow) (from to : Rows) (ps : List Pair) → vs ≡ values ps key → t.rows ≡ from → to ≡ u.rows → t.with_key ≡ with_key → ShownOf takes_first (item_of key vs) held t u → AddsFirstOf with_key key held ps from to
first_row_found with_key key vs held t u from to ps is start end same shown = go with_key vs same is shown
  where
    there : (v : List ℕ) (ws : List (List ℕ)) → v ∷ ws ≡ values ps key → first ps key ≡ Some v
    there v ws e = ap (λ (l : List (List ℕ)). slice_get l 0) (sym e)

    none : [] ≡ values ps key → first ps key ≡ None
    none e = ap (λ (l : List (List ℕ)). slice_get l 0) (sym e)

    unchanged : u ≡ t → Adds from to []
    unchanged e = subst (λ (r : Rows). Adds from r []) (sym (end ∙ (ap (λ (x : FirstRow). x.rows) e ∙ start))) (adds_nothing from)

    added : (rows : List (List ℕ)) → Adds t.rows u.rows rows → Adds from to rows
    added rows a = subst (λ (r : Rows). Adds r to rows) start (subst (λ (r : Rows). Adds t.rows r rows) (sym end) a)

    go : (w : Bool) (l : List (List ℕ)) → t.with_key ≡ w → l ≡ values ps key → ShownOf takes_first (item_of key l) held t u → AddsFirstOf w key held ps from to
    go false [] wk e s = record { there = λ is. absurd (let bad : true ≡ false = sym is ∙ s.0 in cc); none = λ no_one. (none e, unchanged s.1) }
    go true [] wk e s = (s.0 ∙ ap is_some (sym (none e)), subst (λ (o : Option (List ℕ)). Adds from to (pair_rows (map (pair key) (option_to_list o)))) (sym (none e)) (unchanged s.1))
    go false (v ∷ ws) wk e s =
        record {
          there = λ is. (v, there v ws e, added (item_row v ∷ []) (subst (λ (b : Bool). Adds t.rows u.rows ((cond b (pair_row key v) (item_row v)) ∷ [])) wk (s.2 v ws refl)));
          none = λ no_one. absurd (let bad : true ≡ false = sym s.0 ∙ no_one in cc);
        }
    go true (v ∷ ws) wk e s = (
      s.0 ∙ ap is_some (sym (there v ws e)),
      subst (λ (o : Option (List ℕ)). Adds from to (pair_rows (map (pair key) (option_to_list o)))) (sym (there v ws e)) (added (pair_row key v ∷ []) (subst (λ (b : Bool). Adds t.rows u.rows ((cond b (pair_row key v) (item_row v)) ∷ [])) wk (s.2 v ws refl))),
    )

none_shown : (most : Option ℕ) (rows : Rows) → Adds rows rows (text_rows (first_of most []))
none_shown None rows = adds_nothing rows
none_shown (Some zero) rows = adds_nothing rows
none_shown (Some (suc k)) rows = adds_nothing rows

all_left : (most : Option ℕ) → most ≡ lessened most 0
all_left None = refl
all_left (Some k) = let e : k ≡ k - 0 = omega arith in ap (λ (n : ℕ). Some n) e

pairs_start : (most : Option ℕ) (t : PairRows) → t.left ≡ most → AreAdded most t.rows [] t
pairs_start most t start = record { added = none_shown most t.rows; count = λ short. start ∙ all_left most }

abbrev takes_pairs : Takes PairRows
takes_pairs t x u more = AddsValues x.key x.values t u more

pub pairs_found : (key : List ℕ) (vs : List (List ℕ)) (held : Bool) (t u : PairRows) (from to : Rows) → t.rows ≡ from → to ≡ u.rows → t.left ≡ None → ShownOf takes_pairs (item_of key vs) held t u → Adds from to (text_rows (map (pair key) vs))
pairs_found key [] held t u from to start end all shown = subst (λ (r : Rows). Adds from r []) (sym (end ∙ (ap (λ (x : PairRows). x.rows) shown.1 ∙ start))) (adds_nothing from)
pairs_found key (v ∷ vs) held t u from to start end all shown =
    let a = shown.2.goes_on None t.rows [] (pairs_start None t all) in
    subst (λ (r : Rows). Adds r to (text_rows (map (pair key) (v ∷ vs)))) start (subst (λ (r : Rows). Adds t.rows r (text_rows (map (pair key) (v ∷ vs)))) (sym end) a.added)

-- ---- items one by one

module _ {T : Type 0} (takes : Takes T) (P : List Item → T → Type 0) (Q : T → Type 0) (step : (done : List Item) (t u : T) (x : Item) (more : Bool) → takes t x u more → P done t → P (done ++ x ∷ []) u × (more ≡ false → Q u)) where
  -- what holds behind each item holds behind all that were shown, and where no more is wanted this does besides
  pub shown_all : (done went : List Item) (t u : T) (more : Bool) → Shown takes t went u more → P done t → P (done ++ went) u × (more ≡ false → Q u)
  shown_all done [] t u more s p = (
    subst (λ (l : List Item). P l u) (sym (append-nil done)) (subst (λ (v : T). P done v) (sym s.0) p),
    (λ none. absurd (let bad : true ≡ false = sym s.1 ∙ none in cc)),
  )
  shown_all done (x ∷ xs) t u more s p = ⊎_elim
      (λ (on : takes t x s.0 true × Shown takes s.0 xs u more).
      let next = step done t s.0 x true on.0 p in
      let rest = shown_all (done ++ x ∷ []) xs s.0 u more on.1 next.0 in
      (subst (λ (l : List Item). P l u) (append_assoc done (x ∷ []) xs) rest.0, rest.1))
      (λ (last : IsLastOne takes t x xs s.0 u more).
      let next = step done t s.0 x false last.taken p in
      (subst (λ (l : List Item). P (done ++ x ∷ l) u) (sym last.last) (subst (λ (v : T). P (done ++ x ∷ []) v) (sym last.same) next.0), (λ none. subst Q (sym last.same) (next.1 refl))))
      s.1

  -- so it is of a stretch: the items that were shown, and those that were left; all were, or it is done
  pub record Ended (cmp : List ℕ → List ℕ → Ordering) (ps : List Pair) (u : T) : Type 0 where
    pub went : List Item
    pub left : List Item
    pub are : AreItems cmp (went ++ left)
    pub pairs : items_pairs (went ++ left) ≡ ps
    pub held : P went u
    pub ends : (left ≡ []) ⊎ Q u

  pub ended : (cmp : List ℕ → List ℕ → Ordering) (ps : List Pair) (way steps steps' : ℕ) (t u : T) → IsVisited takes cmp ps way steps steps' t u → P [] t → Ended cmp ps u
  ended cmp ps way steps steps' t u v start =
      let all = shown_all [] v.went t u v.more v.shown start in record {
        went = v.went;
        left = v.left;
        are = v.are;
        pairs = v.pairs;
        held = all.0;
        ends = go v.more v.whole all.1;
      }
    where
      go : (more : Bool) → (more ≡ true → v.left ≡ []) → (more ≡ false → Q u) → (v.left ≡ []) ⊎ Q u
      go true whole enough = inl (whole refl)
      go false whole enough = inr (enough refl)

one_item : (done : List Item) (x : Item) → items_pairs (done ++ x ∷ []) ≡ items_pairs done ++ item_pairs x
one_item done x = flat_map-append item_pairs done (x ∷ []) ∙ ap (λ (l : List Pair). items_pairs done ++ l) (append-nil (item_pairs x))

whole_is : (went left : List Item) (ps : List Pair) → left ≡ [] → items_pairs (went ++ left) ≡ ps → items_pairs went ≡ ps
whole_is went left ps none are = ap items_pairs (sym (append-nil went)) ∙ (ap (λ (l : List Item). items_pairs (went ++ l)) (sym none) ∙ are)

-- ---- all bytes

abbrev BytesOf : List Item → Lengths → Type 0
BytesOf done t = AreBytes t.bytes (items_pairs done)

bytes_step : (done : List Item) (t u : Lengths) (x : Item) (more : Bool) → takes_lengths t x u more → BytesOf done t → BytesOf (done ++ x ∷ []) u × (more ≡ false → ⊥)
bytes_step done t u x more takes p = (
  subst (λ (l : List Pair). AreBytes u.bytes l) (sym (one_item done x)) (counted_on u.bytes t.bytes (items_pairs done) (item_pairs x) (lengths x) refl takes.0 p),
  (λ none. absurd (let bad : true ≡ false = sym takes.1 ∙ none in cc)),
)

pub bytes_visited : (cmp : List ℕ → List ℕ → Ordering) (ps : List Pair) (way steps steps' : ℕ) (t u : Lengths) → t.bytes ≡ Some 0 → IsVisited takes_lengths cmp ps way steps steps' t u → AreBytes u.bytes ps
bytes_visited cmp ps way steps steps' t u start v =
    let e = ended takes_lengths BytesOf (λ x. ⊥) bytes_step cmp ps way steps steps' t u v (subst (λ (o : Option ℕ). AreBytes o []) (sym start) refl) in
    subst (λ (l : List Pair). AreBytes u.bytes l) (⊎_elim (λ none. whole_is e.went e.left ps none e.pairs) (λ bad. absurd bad) e.ends) e.held

pub bytes_are : (now : Option ℕ) (n : ℕ) (ps : List Pair) → now ≡ Some n → AreBytes now ps → n ≡ bytes_in ps
bytes_are now n ps is are = subst (λ (o : Option ℕ). AreBytes o ps) is are

-- ---- all keys

pub text_self : (x : List ℕ) → is_text x x ≡ true
text_self x = (bytes_eq-Decides x x).1 refl

pub text_same : (x y : List ℕ) → is_text x y ≡ true → x ≡ y
text_same x y h = (bytes_eq-Decides x y).0 h

text_other : (x y : List ℕ) → (x ≡ y → ⊥) → is_text x y ≡ false
text_other x y other = elim (is_text x y) as (λ b. is_text x y ≡ b → b ≡ false) [
  | true ↦ λ e. absurd (other (text_same x y e))
  | false ↦ λ e. refl
] refl

key_same : (k : List ℕ) (vs : List (List ℕ)) (rest : List Pair) → dedup_from is_text k (map (λ p. p.key) (map (pair k) vs ++ rest)) ≡ dedup_from is_text k (map (λ p. p.key) rest)
key_same k [] rest = refl
key_same k (v ∷ vs) rest =
    let again : List (List ℕ) = map (λ p. p.key) (map (pair k) vs ++ rest) in
    ap (λ (b : Bool). cond b (dedup_from is_text k again) (k ∷ dedup_from is_text k again)) (text_self k) ∙ key_same k vs rest

-- a key in front of others that are none of it
key_next : (k : List ℕ) (ps : List Pair) → AllByRecursion (λ p. is_text p.key k ≡ false) ps → dedup_from is_text k (map (λ p. p.key) ps) ≡ k ∷ keys ps
key_next k [] others = refl
key_next k (p ∷ ps) others =
    let rest : List (List ℕ) = map (λ p. p.key) ps in
    ap (λ (b : Bool). cond b (dedup_from is_text k rest) (k ∷ dedup_from is_text p.key rest)) others.0

module _ (cmp : List ℕ → List ℕ → Ordering) (total : IsTotalOrder cmp) where
  never_less : (x : List ℕ) → before_by cmp x x ≡ true → ⊥
  never_less x lt = go (cmp x x) (total.antisymm x x) lt
    where
      go : (o : Ordering) → o ≡ ordering_reverse o → is_lt o ≡ true → ⊥
      go Less e lt = absurd cc
      go Equal e lt = absurd cc
      go Greater e lt = absurd cc

  less_other : (k x : List ℕ) → before_by cmp k x ≡ true → is_text x k ≡ false
  less_other k x lt = text_other x k (λ same. never_less k (subst (λ (y : List ℕ). before_by cmp k y ≡ true) same lt))

  pairs_other : (k x : List ℕ) (vs : List (List ℕ)) (rest : List Pair) → is_text x k ≡ false → AllByRecursion (λ p. is_text p.key k ≡ false) rest → AllByRecursion (λ p. is_text p.key k ≡ false) (map (pair x) vs ++ rest)
  pairs_other k x [] rest other others = others
  pairs_other k x (v ∷ vs) rest other others = (other, pairs_other k x vs rest other others)

  items_other : (k : List ℕ) (xs : List Item) → AllByRecursion (λ y. before_by cmp k y.key ≡ true) xs → AllByRecursion (λ p. is_text p.key k ≡ false) (items_pairs xs)
  items_other k [] less = tt
  items_other k (x ∷ xs) less = pairs_other k x.key x.values (items_pairs xs) (less_other k x.key less.0) (items_other k xs less.1)

  valued : (x : Item) (vs : List (List ℕ)) (rest : List Pair) → x.values ≡ vs → HasValue x → keys (item_pairs x ++ rest) ≡ dedup_from is_text x.key (map (λ p. p.key) rest)
  valued x [] rest is some = absurd (let none : length x.values ≡ 0 = ap length is in omega (arith, none, some))
  valued x (v ∷ vs) rest is some = ap (λ (ws : List (List ℕ)). keys (map (pair x.key) ws ++ rest)) is ∙ key_same x.key vs rest

  keys_of : (xs : List Item) → Ascends (before_by cmp) xs → AllByRecursion HasValue xs → keys (items_pairs xs) ≡ map (λ x. x.key) xs
  keys_of [] asc some = refl
  keys_of (x ∷ xs) asc some =
      valued x x.values (items_pairs xs) refl some.0 ∙ (key_next x.key (items_pairs xs) (items_other x.key xs asc.0) ∙ ap (λ (l : List (List ℕ)). x.key ∷ l) (keys_of xs asc.1 some.1))

  pub item_keys : (xs : List Item) (ps : List Pair) → AreItems cmp xs → items_pairs xs ≡ ps → map (λ x. x.key) xs ≡ keys ps
  item_keys xs ps are is = sym (keys_of xs are.ascends are.some) ∙ ap keys is

abbrev takes_keys : Takes KeyList
takes_keys t x u more = (u.keys ≡ t.keys ++ x.key ∷ []) × (more ≡ true)

abbrev KeysOf : List Item → KeyList → Type 0
KeysOf done t = t.keys ≡ map (λ x. x.key) done

keys_step : (done : List Item) (t u : KeyList) (x : Item) (more : Bool) → takes_keys t x u more → KeysOf done t → KeysOf (done ++ x ∷ []) u × (more ≡ false → ⊥)
keys_step done t u x more takes p = (
  takes.0 ∙ (ap (λ (l : List (List ℕ)). l ++ x.key ∷ []) p ∙ sym (map-append (λ (y : Item). y.key) done (x ∷ []))),
  (λ none. absurd (let bad : true ≡ false = sym takes.1 ∙ none in cc)),
)

pub keys_visited : (cmp : List ℕ → List ℕ → Ordering) → IsTotalOrder cmp → (ps : List Pair) (way steps steps' : ℕ) (t u : KeyList) → t.keys ≡ [] → IsVisited takes_keys cmp ps way steps steps' t u → u.keys ≡ keys ps
keys_visited cmp total ps way steps steps' t u start v =
    let e = ended takes_keys KeysOf (λ x. ⊥) keys_step cmp ps way steps steps' t u v start in
    let none : e.left ≡ [] = ⊎_elim (λ none. none) (λ bad. absurd bad) e.ends in
    let whole : e.went ++ e.left ≡ e.went = ap (λ (l : List Item). e.went ++ l) none ∙ append-nil e.went in
    e.held ∙ (ap (map (λ x. x.key)) (sym whole) ∙ item_keys cmp total (e.went ++ e.left) ps e.are e.pairs)

-- all pairs are inside
pub all_in : (ps : List Pair) → inside (λ key. side.Inside) ps ≡ ps
all_in [] = refl
all_in (p ∷ ps) = ap (λ (l : List Pair). p ∷ l) (all_in ps)

-- ---- rows of a stretch

abbrev PairsOf : Option ℕ → Rows → List Item → PairRows → Type 0
PairsOf most from done t = AreAdded most from (items_pairs done) t

pairs_step : (most : Option ℕ) (from : Rows) (done : List Item) (t u : PairRows) (x : Item) (more : Bool) → takes_pairs t x u more → PairsOf most from done t → PairsOf most from (done ++ x ∷ []) u × (more ≡ false → AreDone u.rows u.left)
pairs_step most from done t u x more takes p = (subst (λ (l : List Pair). AreAdded most from l u) (sym (one_item done x)) (takes.goes_on most from (items_pairs done) p), takes.ends)

pub pairs_visited : (cmp : List ℕ → List ℕ → Ordering) (ps : List Pair) (way steps steps' : ℕ) (most : Option ℕ) (t u : PairRows) (from to : Rows) → t.rows ≡ from → to ≡ u.rows → t.left ≡ most → IsVisited takes_pairs cmp ps way steps steps' t u → Adds from to (text_rows (first_of most ps))
pairs_visited cmp ps way steps steps' most t u from to start end left v =
    let e = ended takes_pairs (PairsOf most t.rows) (λ x. AreDone x.rows x.left) (pairs_step most t.rows) cmp ps way steps steps' t u v (pairs_start most t left) in
    let parts : items_pairs e.went ++ items_pairs e.left ≡ ps = sym (flat_map-append item_pairs e.went e.left) ∙ e.pairs in
    let all : AreAdded most t.rows ps u = ⊎_elim
    (λ none. subst (λ (l : List Pair). AreAdded most t.rows l u) (whole_is e.went e.left ps none e.pairs) e.held)
    (λ done. subst (λ (l : List Pair). AreAdded most t.rows l u) parts (pairs_done most t.rows (items_pairs e.went) (items_pairs e.left) u done e.held)) e.ends in
    subst (λ (r : Rows). Adds r to (text_rows (first_of most ps))) start (subst (λ (r : Rows). Adds t.rows r (text_rows (first_of most ps))) (sym end) all.added)

-- ---- which pairs are in a range

first_is : (most : Option ℕ) (ps : List Pair) → first_of most ps ≡ at_most most ps
first_is None ps = refl
first_is (Some n) ps = refl

open_test : (o : Ordering) → is_inside (side_of_tests (is_lt o) false) ≡ is_ge o
open_test Less = refl
open_test Equal = refl
open_test Greater = refl

module _ (cmp : List ℕ → List ℕ → Ordering) (from : List ℕ) where
  open_in : (ps : List Pair) → inside (side_in cmp from None) ps ≡ from_on cmp from ps
  open_in [] = refl
  open_in (p ∷ ps) =
      ap (λ (l : List Pair). cond (is_inside (side_in cmp from None p.key)) (p ∷ l) l) (open_in ps)
      ∙ ap (λ (b : Bool). cond b (p ∷ from_on cmp from ps) (from_on cmp from ps)) (open_test (cmp p.key from))

  both_in : (e : Ordering) (p : Pair) (l m : List Pair) → (end : List ℕ) → cmp p.key end ≡ e → filter (λ q. is_lt (cmp q.key end)) m ≡ l → cond (is_inside (side_of_tests false (is_ge e))) (p ∷ l) l ≡ filter (λ q. is_lt (cmp q.key end)) (p ∷ m)
  both_in Less p l m end is rest = sym (ap (λ (o : Ordering). cond (is_lt o) (p ∷ filter (λ q. is_lt (cmp q.key end)) m) (filter (λ q. is_lt (cmp q.key end)) m)) is ∙ ap (λ (k : List Pair). p ∷ k) rest)
  both_in Equal p l m end is rest = sym (ap (λ (o : Ordering). cond (is_lt o) (p ∷ filter (λ q. is_lt (cmp q.key end)) m) (filter (λ q. is_lt (cmp q.key end)) m)) is ∙ rest)
  both_in Greater p l m end is rest = sym (ap (λ (o : Ordering). cond (is_lt o) (p ∷ filter (λ q. is_lt (cmp q.key end)) m) (filter (λ q. is_lt (cmp q.key end)) m)) is ∙ rest)

  both_test : (o e : Ordering) (p : Pair) (l m : List Pair) → (end : List ℕ) → cmp p.key end ≡ e → filter (λ q. is_lt (cmp q.key end)) m ≡ l → cond (is_inside (side_of_tests (is_lt o) (is_ge e))) (p ∷ l) l ≡ filter (λ q. is_lt (cmp q.key end)) (cond (is_ge o) (p ∷ m) m)
  both_test Less e p l m end is rest = sym rest
  both_test Equal e p l m end is rest = both_in e p l m end is rest
  both_test Greater e p l m end is rest = both_in e p l m end is rest

  closed_in : (end : List ℕ) (ps : List Pair) → inside (side_in cmp from (Some end)) ps ≡ before cmp (Some end) (from_on cmp from ps)
  closed_in end [] = refl
  closed_in end (p ∷ ps) = both_test (cmp p.key from) (cmp p.key end) p (inside (side_in cmp from (Some end)) ps) (from_on cmp from ps) end refl (sym (closed_in end ps))

  pub range_in : (to : Option (List ℕ)) (ps : List Pair) → inside (side_in cmp from to) ps ≡ before cmp to (from_on cmp from ps)
  range_in None ps = open_in ps
  range_in (Some end) ps = closed_in end ps

  pub range_is : (to : Option (List ℕ)) (most : Option ℕ) (ps : List Pair) → first_of most (inside (side_in cmp from to) ps) ≡ pairs_in cmp from to most ps
  range_is to most ps = first_is most (inside (side_in cmp from to) ps) ∙ ap (at_most most) (range_in to ps)

-- ---- keys that begin with a prefix

abbrev takes_key : Takes KeyRows
takes_key t x u more = AddsKey x.key t u more

abbrev BegunOf : Option ℕ → Rows → List ℕ → List Item → KeyRows → Type 0
BegunOf most from prefix done t = AreKeysAdded most from (map (λ x. x.key) done) t × (t.prefix.now ≡ prefix)

begun_step : (most : Option ℕ) (from : Rows) (prefix : List ℕ) (done : List Item) (t u : KeyRows) (x : Item) (more : Bool) → takes_key t x u more → BegunOf most from prefix done t → BegunOf most from prefix (done ++ x ∷ []) u × (more ≡ false → AreDone u.rows u.left)
begun_step most from prefix done t u x more takes p = (
  (
    subst (λ (l : List (List ℕ)). AreKeysAdded most from l u) (sym (map-append (λ (y : Item). y.key) done (x ∷ []))) (takes.goes_on most from (map (λ y. y.key) done) p.0),
    takes.prefix_same ∙ p.1,
  ),
  takes.ends,
)

none_begun : (most : Option ℕ) (rows : Rows) → Adds rows rows (map item_row (first_of most []))
none_begun None rows = adds_nothing rows
none_begun (Some zero) rows = adds_nothing rows
none_begun (Some (suc k)) rows = adds_nothing rows

begun_start : (most : Option ℕ) (t : KeyRows) → t.left ≡ most → AreKeysAdded most t.rows [] t
begun_start most t start = record { added = none_begun most t.rows; count = λ short. start ∙ all_left most }

module _ (cmp : List ℕ → List ℕ → Ordering) (total : IsTotalOrder cmp) where
  pub begun_visited : (ps : List Pair) (way steps steps' : ℕ) (most : Option ℕ) (prefix : List ℕ) (t u : KeyRows) (from to : Rows) → t.rows ≡ from → to ≡ u.rows → t.left ≡ most → t.prefix.now ≡ prefix → IsVisited takes_key cmp ps way steps steps' t u
      → Adds from to (map item_row (first_of most (keys_beginning prefix ps)))
  begun_visited ps way steps steps' most prefix t u from to start end left same v =
      let e = ended takes_key (BegunOf most t.rows prefix) (λ x. AreDone x.rows x.left) (begun_step most t.rows prefix) cmp ps way steps steps' t u v (begun_start most t left, same) in
      let parts : map (λ x. x.key) e.went ++ map (λ x. x.key) e.left ≡ keys ps = sym (map-append (λ (y : Item). y.key) e.went e.left) ∙ item_keys cmp total (e.went ++ e.left) ps e.are e.pairs in
      let all : AreKeysAdded most t.rows (map (λ x. x.key) e.went ++ map (λ x. x.key) e.left) u = ⊎_elim
      (λ none. subst (λ (l : List Item). AreKeysAdded most t.rows (map (λ x. x.key) e.went ++ map (λ x. x.key) l) u) (sym none)
      (subst (λ (l : List (List ℕ)). AreKeysAdded most t.rows l u) (sym (append-nil (map (λ x. x.key) e.went))) e.held.0))
      (λ done. rows_done most t.rows (map (λ x. x.key) e.went) (map (λ x. x.key) e.left) u done e.held.0) e.ends in
      let shown : beginning u.prefix.now (map (λ x. x.key) e.went ++ map (λ x. x.key) e.left) ≡ keys_beginning prefix ps = ap (λ (p : List ℕ). beginning p (map (λ x. x.key) e.went ++ map (λ x. x.key) e.left)) e.held.1 ∙ ap (beginning prefix) parts in
      let added : Adds t.rows u.rows (map item_row (first_of most (keys_beginning prefix ps))) = subst (λ (l : List (List ℕ)). Adds t.rows u.rows (map item_row (first_of most l))) shown all.added in
      subst (λ (r : Rows). Adds r to (map item_row (first_of most (keys_beginning prefix ps)))) start (subst (λ (r : Rows). Adds t.rows r (map item_row (first_of most (keys_beginning prefix ps)))) (sym end) added)

-- ---- a test of keys, and the keys each once

module _ (cmp : List ℕ → List ℕ → Ordering) (total : IsTotalOrder cmp) (exact : CmpEqualImpliesEq cmp) where
  -- a key behind another than the first isn't the first
  apart : (k p f : List ℕ) → is_text p k ≡ false → is_le (cmp k p) ≡ true → is_le (cmp p f) ≡ true → is_text f k ≡ false
  apart k p f other first_le then_le = text_other f k (λ same. clash_at (cmp k p) refl (total.antisymm p k) first_le (subst (λ (y : List ℕ). is_le (cmp p y) ≡ true) same then_le))
    where
      clash_at : (o : Ordering) → cmp k p ≡ o → cmp p k ≡ ordering_reverse (cmp k p) → is_le (cmp k p) ≡ true → is_le (cmp p k) ≡ true → ⊥
      clash_at Less e turned le back = absurd (let bad : false ≡ true = ap is_le (sym (turned ∙ ap ordering_reverse e)) ∙ back in cc)
      clash_at Equal e turned le back = absurd (let bad : true ≡ false = sym (text_self k) ∙ (ap (λ (y : List ℕ). is_text y k) (exact k p e) ∙ other) in cc)
      clash_at Greater e turned le back = absurd (let bad : false ≡ true = ap is_le (sym e) ∙ le in cc)

  all_apart : (k p : List ℕ) (ps : List Pair) → is_text p k ≡ false → is_le (cmp k p) ≡ true → AllByRecursion (λ q. is_le (cmp p q.key) ≡ true) ps → AllByRecursion (λ q. is_text q.key k ≡ false) ps
  all_apart k p [] other le up = tt
  all_apart k p (q ∷ ps) other le up = (apart k p q.key other le up.0, all_apart k p ps other le up.1)

  kept : (P : Pair → Type 0) (q : Pair → Bool) (ps : List Pair) → AllByRecursion P ps → AllByRecursion P (filter q ps)
  kept P q [] all = tt
  kept P q (p ∷ ps) all = elim (q p) as (λ b. AllByRecursion P (cond b (p ∷ filter q ps) (filter q ps))) [
    | true ↦ (all.0, kept P q ps all.1)
    | false ↦ kept P q ps all.1
  ]

  module _ (q : List ℕ → Bool) where
    abbrev passing : List Pair → List Pair
    passing ps = filter (λ p. q p.key) ps

    abbrev from_key : List ℕ → List Pair → List (List ℕ)
    from_key k ps = dedup_from is_text k (map (λ p. p.key) ps)

    one_again : (k : List ℕ) (p : Pair) (ps : List Pair) → p.key ≡ k → filter q (from_key k ps) ≡ cond (q k) (from_key k (passing ps)) (keys (passing ps)) → filter q (from_key k ps) ≡ cond (q k) (from_key k (cond (q p.key) (p ∷ passing ps) (passing ps))) (keys (cond (q p.key) (p ∷ passing ps) (passing ps)))
    one_again k p ps same rest = rest ∙ go (q k) (ap q same)
      where
        again : from_key k (p ∷ passing ps) ≡ from_key k (passing ps)
        again = ap (λ (b : Bool). cond b (from_key k (passing ps)) (k ∷ from_key p.key (passing ps))) (ap (λ (y : List ℕ). is_text y k) same ∙ text_self k)

        go : (b : Bool) → q p.key ≡ b → cond b (from_key k (passing ps)) (keys (passing ps)) ≡ cond b (from_key k (cond (q p.key) (p ∷ passing ps) (passing ps))) (keys (cond (q p.key) (p ∷ passing ps) (passing ps)))
        go true e = sym (ap (λ (c : Bool). from_key k (cond c (p ∷ passing ps) (passing ps))) e ∙ again)
        go false e = sym (ap (λ (c : Bool). keys (cond c (p ∷ passing ps) (passing ps))) e)

    one_other : (k : List ℕ) (p : Pair) (ps : List Pair) → is_text p.key k ≡ false → AllByRecursion (λ f. is_text f.key k ≡ false) (passing ps) → filter q (from_key p.key ps) ≡ cond (q p.key) (from_key p.key (passing ps)) (keys (passing ps))
        → filter q (k ∷ from_key p.key ps) ≡ cond (q k) (from_key k (cond (q p.key) (p ∷ passing ps) (passing ps))) (keys (cond (q p.key) (p ∷ passing ps) (passing ps)))
    one_other k p ps other others rest = ap (λ (l : List (List ℕ)). cond (q k) (k ∷ l) l) rest ∙ go (q k) (q p.key)
      where
        go : (b c : Bool) → cond b (k ∷ cond c (from_key p.key (passing ps)) (keys (passing ps))) (cond c (from_key p.key (passing ps)) (keys (passing ps))) ≡ cond b (from_key k (cond c (p ∷ passing ps) (passing ps))) (keys (cond c (p ∷ passing ps) (passing ps)))
        go true true = sym (ap (λ (d : Bool). cond d (from_key k (passing ps)) (k ∷ from_key p.key (passing ps))) other)
        go true false = sym (key_next k (passing ps) others)
        go false true = refl
        go false false = refl

    -- the keys that pass are those of the pairs that pass, behind a first one that isn't above them
    from_passing : (k : List ℕ) (ps : List Pair) → AllByRecursion (λ p. is_le (cmp k p.key) ≡ true) ps → Rises cmp ps → filter q (from_key k ps) ≡ cond (q k) (from_key k (passing ps)) (keys (passing ps))
    from_passing k [] up rises = elim (q k) as (λ b. cond b (k ∷ []) [] ≡ cond b (k ∷ []) []) [ true ↦ refl | false ↦ refl ]
    from_passing k (p ∷ ps) up rises = elim (is_text p.key k) as (λ b. is_text p.key k ≡ b → filter q (cond b (from_key k ps) (k ∷ from_key p.key ps)) ≡ cond (q k) (from_key k (cond (q p.key) (p ∷ passing ps) (passing ps))) (keys (cond (q p.key) (p ∷ passing ps) (passing ps)))) [
      | true ↦ λ e. one_again k p ps (text_same p.key k e) (from_passing k ps up.1 rises.1)
      | false ↦ λ e. one_other k p ps e (kept (λ f. is_text f.key k ≡ false) (λ f. q f.key) ps (all_apart k p.key ps e up.0 rises.0)) (from_passing p.key ps rises.0 rises.1)
    ] refl

    passing_keys : (ps : List Pair) → Rises cmp ps → filter q (keys ps) ≡ keys (passing ps)
    passing_keys [] rises = refl
    passing_keys (p ∷ ps) rises = from_passing p.key ps rises.0 rises.1 ∙ elim (q p.key) as (λ b. cond b (from_key p.key (passing ps)) (keys (passing ps)) ≡ keys (cond b (p ∷ passing ps) (passing ps))) [ true ↦ refl | false ↦ refl ]

  inside_up : (side_of : List ℕ → Side) (k : List ℕ) (ps : List Pair) → AllByRecursion (λ p. is_le (cmp k p.key) ≡ true) ps → AllByRecursion (λ p. is_le (cmp k p.key) ≡ true) (inside side_of ps)
  inside_up side_of k ps up = kept (λ p. is_le (cmp k p.key) ≡ true) (λ p. is_inside (side_of p.key)) ps up

  inside_rises : (side_of : List ℕ → Side) (ps : List Pair) → Rises cmp ps → Rises cmp (inside side_of ps)
  inside_rises side_of [] rises = tt
  inside_rises side_of (p ∷ ps) rises = elim (is_inside (side_of p.key)) as (λ b. Rises cmp (cond b (p ∷ inside side_of ps) (inside side_of ps))) [
    | true ↦ (inside_up side_of p.key ps rises.0, inside_rises side_of ps rises.1)
    | false ↦ inside_rises side_of ps rises.1
  ]

  both_pass : (q : List ℕ → Bool) (side_of : List ℕ → Side) → ((key : List ℕ) → q key ≡ true → side_of key ≡ side.Inside) → (ps : List Pair) → filter (λ p. q p.key) (inside side_of ps) ≡ filter (λ p. q p.key) ps
  both_pass q side_of all [] = refl
  both_pass q side_of all (p ∷ ps) = go (q p.key) (is_inside (side_of p.key)) refl refl ∙ ap (λ (l : List Pair). cond (q p.key) (p ∷ l) l) (both_pass q side_of all ps)
    where
      go : (b c : Bool) → q p.key ≡ b → is_inside (side_of p.key) ≡ c → filter (λ p. q p.key) (cond (is_inside (side_of p.key)) (p ∷ inside side_of ps) (inside side_of ps)) ≡ cond (q p.key) (p ∷ filter (λ p. q p.key) (inside side_of ps)) (filter (λ p. q p.key) (inside side_of ps))
      go b true e is = ap (λ (d : Bool). filter (λ p. q p.key) (cond d (p ∷ inside side_of ps) (inside side_of ps))) is
      go true false e is = absurd (let bad : false ≡ true = sym is ∙ ap is_inside (all p.key e) in cc)
      go false false e is = ap (λ (d : Bool). filter (λ p. q p.key) (cond d (p ∷ inside side_of ps) (inside side_of ps))) is ∙ sym (ap (λ (d : Bool). cond d (p ∷ filter (λ p. q p.key) (inside side_of ps)) (filter (λ p. q p.key) (inside side_of ps))) e)

  -- where all keys that begin so are inside, they are those of the pairs inside
  pub begun_inside : (prefix : List ℕ) (side_of : List ℕ → Side) (ps : List Pair) → HasAllOf prefix side_of → Rises cmp ps → keys_beginning prefix (inside side_of ps) ≡ keys_beginning prefix ps
  begun_inside prefix side_of ps all rises =
      let q : List ℕ → Bool = λ key. starts_with nat_eq key prefix in
      passing_keys q (inside side_of ps) (inside_rises side_of ps rises) ∙ (ap keys (both_pass q side_of all ps) ∙ sym (passing_keys q ps rises))
