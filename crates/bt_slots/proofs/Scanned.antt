-- What a scan of a page's bytes finds.
use Rattle.std.proofs.Common.{◌≡◌, ℕ, ◌+◌, ◌-◌, ◌<◌, ◌≤◌, ◌^◌, List, [], ◌∷◌, ◌++◌, length, take, drop, refl, sym, ap, ◌∙◌, append_assoc, arith, length-append, inl, inr}
use Rattle.std.specs.List.{AllByRecursion, flat_map}
use Rattle.std.proofs.lemmas.Bool.{cases_lt}
use Rattle.std.proofs.lemmas.List.{take-append-drop, length-take-le}
use Rattle.std.proofs.Math.Seq.{drop-append-add}
use Rattle.tc_base.specs.Vnum.{vnum}
use Rattle.bt_page.specs.declared.page.NodeEntry.{NodeEntry}
use Rattle.bt_page.specs.declared.page.Item.{Item}
use Rattle.bt_page.specs.declared.page.Leaf.{Leaf}
use Rattle.bt_page.specs.declared.page.Node.{Node}
use Rattle.bt_page.specs.Pages.{two, value_bytes, item_bytes, entry_bytes, SizeFits, ItemFits, EntryFits}
use Rattle.bt_page.specs.Spelled.{AtFront, NoneAt}
use Rattle.bt_page.proofs.AtFronts.{OneFits, TwoFit, two_bytes, ThreeFit, three_bytes, value_found, item_found, item_short_key, item_short_value, entry_found, leaf_found, node_found}
use Rattle.bt_slots.specs.Slots.{AreStarts, IsLeafIn, IsNodeIn, starts_from}
use Rattle.tc_base.proofs.Vnums.{one_spelled}

-- so many bytes and those behind them
pub taken_long : (n : ℕ) (bytes : List ℕ) → n ≤ length bytes → length (take n bytes) ≡ n
taken_long n bytes h = length-take-le n bytes h

pub taken : (n : ℕ) (bytes rest : List ℕ) → rest ≡ drop n bytes → bytes ≡ take n bytes ++ rest
taken n bytes rest is = sym (take-append-drop n bytes) ∙ ap (λ (l : List ℕ). take n bytes ++ l) (sym is)

-- what is passed over
pub value_scanned : (bytes rest behind : List ℕ) (n : ℕ) → AtFront OneFits vnum bytes n rest → n ≤ length rest → behind ≡ drop n rest → (v : List ℕ) × AtFront SizeFits value_bytes bytes v behind
value_scanned bytes rest behind n f long is = (take n rest, value_found bytes rest behind n (take n rest) f (taken_long n rest long) (taken n rest behind is))

pub item_scanned : (bytes rest behind last end : List ℕ) (k v n : ℕ) → AtFront ThreeFit three_bytes bytes (k, (v, n)) rest → k ≤ length rest → behind ≡ drop k rest → v ≤ length behind → last ≡ drop v behind
    → ((more : List (List ℕ)) × (length more ≡ n) × AllByRecursion SizeFits more × (last ≡ flat_map value_bytes more ++ end)) → (i : Item) × AtFront ItemFits item_bytes bytes i end
item_scanned bytes rest behind last end k v n f long is long' is' m = (
  record { key = take k rest; values = take v behind ∷ m.0 },
  item_found bytes rest (take k rest) behind (take v behind) last end m.0 k v n f (taken_long k rest long) (taken k rest behind is) (taken_long v behind long') (taken v behind last is') m.1 m.2 m.3,
)

pub entry_scanned : (bytes rest behind : List ℕ) (child n : ℕ) → AtFront TwoFit two_bytes bytes (child, n) rest → n ≤ length rest → behind ≡ drop n rest → (e : NodeEntry) × AtFront EntryFits entry_bytes bytes e behind
entry_scanned bytes rest behind child n f long is = (record { child = child; key = take n rest }, entry_found bytes rest behind (take n rest) child n f (taken_long n rest long) (taken n rest behind is))

-- ---- places, one behind the other

module _ {A : Type 0} (s : A → List ℕ) where
  pub starts_none : (at : ℕ) (ns : List ℕ) → ns ≡ [] → ns ≡ starts_from s at []
  unfolding starts_from
  starts_none at ns is = is

  starts_more : (at : ℕ) (xs : List A) (x : A) → starts_from s at (xs ++ x ∷ []) ≡ starts_from s at xs ++ (at + length (flat_map s xs)) ∷ []
  unfolding starts_from
  starts_more at [] x = let e : at ≡ at + 0 = omega arith in ap (λ (n : ℕ). n ∷ []) e
  starts_more at (y ∷ ys) x =
      let e : at + length (s y) + length (flat_map s ys) ≡ at + length (s y ++ flat_map s ys) = omega (arith, length-append (s y) (flat_map s ys)) in
      ap (λ (l : List ℕ). at ∷ l) (starts_more (at + length (s y)) ys x ∙ ap (λ (n : ℕ). starts_from s (at + length (s y)) ys ++ n ∷ []) e)

  -- one more was read, and it begins where the rest did
  pub starts_step : (end : ℕ) (whole rest : List ℕ) (xs : List A) (x : A) (old new : List ℕ) → old ≡ starts_from s (end - length whole) xs → whole ≡ flat_map s xs ++ rest → length whole ≤ end
      → new ≡ old ++ (end - length rest) ∷ [] → new ≡ starts_from s (end - length whole) (xs ++ x ∷ [])
  starts_step end whole rest xs x old new so is le added =
      let place : end - length rest ≡ end - length whole + length (flat_map s xs) = omega (arith, ap length is, length-append (flat_map s xs) rest, le) in
      added ∙ ap (λ (n : ℕ). old ++ n ∷ []) place ∙ ap (λ (l : List ℕ). l ++ (end - length whole + length (flat_map s xs)) ∷ []) so ∙ sym (starts_more (end - length whole) xs x)

-- ---- items with short texts and one value

three_low : (k v n : ℕ) (texts : List ℕ) → k < 128 → v < 128 → n < 128 → AtFront ThreeFit three_bytes (k ∷ v ∷ n ∷ texts) (k, (v, n)) texts
three_low k v n texts f g h = record {
  fits = (omega (arith, f), (omega (arith, g), omega (arith, h)));
  is = sym ((λ i. (one_spelled k f i ++ (one_spelled v g i ++ one_spelled n h i)) ++ texts));
}

pub short_found : (k v n : ℕ) (bytes texts rest : List ℕ) → bytes ≡ k ∷ v ∷ 0 ∷ texts → k < 128 → v < 128 → n ≡ k + v → n ≤ length texts → rest ≡ drop n texts → (i : Item) × AtFront ItemFits item_bytes bytes i rest
short_found k v n bytes texts rest is f g sum long e =
    let front : AtFront ThreeFit three_bytes bytes (k, (v, 0)) texts = rw is (three_low k v 0 texts f g (omega arith)) in
    let behind : List ℕ = drop k texts in
    let both : texts ≡ take k texts ++ behind = taken k texts behind refl in
    let key_long : length (take k texts) ≡ k = taken_long k texts (omega (arith, sum, long)) in
    let more : v ≤ length behind = omega (arith, sum, long, ap length both, length-append (take k texts) behind, key_long) in
    let e' : rest ≡ drop v behind = e ∙ ap (λ (m : ℕ). drop m texts) sum ∙ ap (λ (m : ℕ). drop (m + v) texts) (sym key_long) ∙ ap (drop (length (take k texts) + v)) both ∙ drop-append-add (take k texts) behind v in (
      record { key = take k texts; values = take v behind ∷ [] },
      item_found bytes texts (take k texts) behind (take v behind) rest rest [] k v 0 front key_long both (taken_long v behind more) (taken v behind rest e') refl tt refl,
    )

pub short_none : (k v n : ℕ) (bytes texts : List ℕ) → bytes ≡ k ∷ v ∷ 0 ∷ texts → k < 128 → v < 128 → n ≡ k + v → length texts < n → NoneAt ItemFits item_bytes bytes
short_none k v n bytes texts is f g sum few =
    let front : AtFront ThreeFit three_bytes bytes (k, (v, 0)) texts = rw is (three_low k v 0 texts f g (omega arith)) in
    let behind : List ℕ = drop k texts in
    let both : texts ≡ take k texts ++ behind = taken k texts behind refl in
    elim (cases_lt (length texts) k) [
      | inl lt ↦ item_short_key bytes texts k v 0 front lt
      | inr le ↦
          let key_long : length (take k texts) ≡ k = taken_long k texts le in
          item_short_value bytes texts (take k texts) behind k v 0 front key_long both (omega (arith, sum, few, ap length both, length-append (take k texts) behind, key_long))
    ]

-- ---- entries with a short key

pub short_front : (child size : ℕ) (bytes key : List ℕ) → child < 2 ^ 64 → size < 128 → bytes ≡ vnum child ++ size ∷ key → AtFront TwoFit two_bytes bytes (child, size) key
short_front child size bytes key f g is = record {
  fits = (f, omega (arith, g));
  is = is ∙ sym (append_assoc (vnum child) (vnum size) key ∙ ap (λ (l : List ℕ). vnum child ++ (l ++ key)) (one_spelled size g));
}

-- ---- pages

pub leaf_scanned : (bytes rest starts : List ℕ) (prev next : ℕ) → AtFront TwoFit two_bytes bytes (prev, next) rest → AreStarts ItemFits item_bytes (length bytes - length rest) rest starts → (l : Leaf) × IsLeafIn bytes starts l
leaf_scanned bytes rest starts prev next f a =
    let s = leaf_found bytes rest prev next a.0 f a.2 a.3 in
    let at : length bytes - length rest ≡ length (two prev next) = omega (arith, ap length f.is, length-append (two prev next) rest) in
    (record { prev = prev; next = next; items = a.0 }, record { fits = s.fits; is = s.is; begin = a.1 ∙ ap (λ (n : ℕ). starts_from item_bytes n a.0) at })

pub node_scanned : (bytes rest starts : List ℕ) (heir : ℕ) → AtFront OneFits vnum bytes heir rest → AreStarts EntryFits entry_bytes (length bytes - length rest) rest starts → (n : Node) × IsNodeIn bytes starts n
node_scanned bytes rest starts heir f a =
    let s = node_found bytes rest heir a.0 f a.2 a.3 in
    let at : length bytes - length rest ≡ length (vnum heir) = omega (arith, ap length f.is, length-append (vnum heir) rest) in
    (record { heir = heir; entries = a.0 }, record { fits = s.fits; is = s.is; begin = a.1 ∙ ap (λ (n : ℕ). starts_from entry_bytes n a.0) at })
