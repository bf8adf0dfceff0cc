-- Ends found by looking at one cell after the other.
use Rattle.std.proofs.Common.{◌≡◌, ◌≢◌, ◌∙◌, ◌⊎◌, inl, inr, ℕ, ◌+◌, ◌-◌, ◌<◌, ◌≤◌, List, refl, sym, ap, arith}
use Rattle.std.specs.Prelude.{Option, Some, None, IsSome, is_some, option_map, length}
use Rattle.std.specs.FinMap.{get, remove}
use Rattle.std.proofs.lemmas.Bool.{cases_eq, cases_lt}
use Rattle.tc_base.specs.Endian.{field}
use Rattle.tc_model.specs.Arrays.{Array, least, greatest}
use Rattle.tc_fixed.specs.declared.cells.Look.{Look}
use Rattle.tc_fixed.specs.declared.cells.Look.TheVariants.{Absent, Value, Bad}
use Rattle.tc_fixed.specs.Cells.{IsCell, HasCellsOf, cell_at, size_len}
use Rattle.tc_fixed.specs.Ends.{IsFirstOrNone, IsLastOrNone}
use Rattle.tc_fixed.specs.Looks.{Sees}
use Rattle.tc_fixed.proofs.Celled.{one_value}
use Rattle.tc_fixed.proofs.Tallied.{gone_here, gone_other, held_or_not, least_low, greatest_high, least_some, greatest_some, none_below, none_above, least_is, greatest_is, none_held, least_empty, greatest_empty}

-- none of the range up to an id is held
abbrev pub NoneYet : Array → ℕ → ℕ → Type 0
NoneYet m from to = (id : ℕ) → from ≤ id → id < to → get m id ≡ None

abbrev pub NoneBehind : Array → ℕ → ℕ → Type 0
NoneBehind m from to = (id : ℕ) → from < id → id ≤ to → get m id ≡ None

-- ---- what a look tells of an id

abbrev pub length_seen : Look → Option ℕ
length_seen Absent = None
length_seen (Value long) = Some long
length_seen Bad = None

pub seen_length : (width : ℕ) (look : Look) (o : Option (List ℕ)) (c : List ℕ) → Sees width look c → IsCell width o c → length_seen look ≡ option_map length o
seen_length width Absent o c sees is = ap (λ (p : Option (List ℕ)). option_map length p) (one_value width None o c sees is)
seen_length width (Value long) None c sees is = absurd (let e : Some (field (size_len width) long c) ≡ None = one_value width (Some (field (size_len width) long c)) None c sees.1 is in cc)
seen_length width (Value long) (Some v) c sees is = ap (λ n. Some n) (seen width long v c sees is)
  where
    seen : (width long : ℕ) (v c : List ℕ) → Sees width (Value long) c → IsCell width (Some v) c → long ≡ length v
    seen width long v c sees is =
        omega (arith, sees.0, is.size)
seen_length width Bad o c sees is = absurd (sees o is)

none_of : (o : Option (List ℕ)) → None ≡ option_map length o → o ≡ None
none_of None e = refl
none_of (Some v) e = absurd (let n : None ≡ Some (length v) = e in cc)

some_of : (n : ℕ) (o : Option (List ℕ)) → Some n ≡ option_map length o → IsSome o
some_of n None e = absurd (let s : Some n ≡ None = e in cc)
some_of n (Some v) e = refl

-- of a cell that a map's is
module _ (width id last : ℕ) (m : Array) (bytes : List ℕ) (cells : HasCellsOf width last m bytes) (some : 1 ≤ id) (le : id ≤ last) where
  pub told : (look : Look) → Sees width look (cell_at width id bytes) → length_seen look ≡ option_map length (get m id)
  told look sees = seen_length width look (get m id) (cell_at width id bytes) sees (cells id some le)

  pub none_told : (look : Look) → length_seen look ≡ None → Sees width look (cell_at width id bytes) → get m id ≡ None
  none_told look none sees = none_of (get m id) (sym none ∙ told look sees)

  pub some_told : (long : ℕ) → Sees width (Value long) (cell_at width id bytes) → IsSome (get m id)
  some_told long sees = some_of long (get m id) (told (Value long) sees)

-- ---- upwards

pub none_at_first : (m : Array) (from : ℕ) → NoneYet m from from
none_at_first m from id low less = absurd (omega (arith, low, less))

pub none_more : (m : Array) (from id : ℕ) → NoneYet m from id → get m id ≡ None → NoneYet m from (id + 1)
none_more m from id none here q low less = elim (cases_eq q id) [
  | inl same ↦ ap (get m) same ∙ here
  | inr ne ↦ none q low (omega (arith, less, ne))
]

pub first_here : (m : Array) (from to id : ℕ) → from ≤ id → id ≤ to → NoneYet m from id → IsSome (get m id) → IsFirstOrNone m from to id
first_here m from to id low high none held = inr (record { low = low; high = high; held = held; before = none })

pub first_none : (m : Array) (from to id : ℕ) → to < id → NoneYet m from id → IsFirstOrNone m from to 0
first_none m from to id past none = inl (refl, λ q low high. none q low (omega (arith, past, high)))

-- ---- downwards

pub none_at_last : (m : Array) (to : ℕ) → NoneBehind m to to
none_at_last m to id low high = absurd (omega (arith, low, high))

pub none_less : (m : Array) (id to : ℕ) → 1 ≤ id → NoneBehind m id to → get m id ≡ None → NoneBehind m (id - 1) to
none_less m id to some none here q low high = elim (cases_eq q id) [
  | inl same ↦ ap (get m) same ∙ here
  | inr ne ↦ none q (omega (arith, some, low, ne)) high
]

pub last_here : (m : Array) (from to id : ℕ) → from ≤ id → id ≤ to → NoneBehind m id to → IsSome (get m id) → IsLastOrNone m from to id
last_here m from to id low high none held = inr (record { low = low; high = high; held = held; behind = none })

pub last_none : (m : Array) (from to id : ℕ) → id < from → NoneBehind m id to → IsLastOrNone m from to 0
last_none m from to id past none = inl (refl, λ q low high. none q (omega (arith, past, low)) high)

-- ---- the least and the greatest but one

pub least_other : (m : Array) (id : ℕ) → IsSome (get m id) → id ≢ least m → least m ≡ least (remove m id)
least_other m id held ne = least_is (remove m id) (least m)
    (ap is_some (gone_other m id (least m) (λ same. ne (sym same))) ∙ least_some m id held)
    (λ q less. elim (cases_eq q id) [
      | inl same ↦ ap (get (remove m id)) same ∙ gone_here m id
      | inr apart ↦ gone_other m id q apart ∙ none_below m q less
    ])

pub greatest_other : (m : Array) (id : ℕ) → IsSome (get m id) → id ≢ greatest m → greatest m ≡ greatest (remove m id)
greatest_other m id held ne = greatest_is (remove m id) (greatest m)
    (ap is_some (gone_other m id (greatest m) (λ same. ne (sym same))) ∙ greatest_some m id held)
    (λ q more. elim (cases_eq q id) [
      | inl same ↦ ap (get (remove m id)) same ∙ gone_here m id
      | inr apart ↦ gone_other m id q apart ∙ none_above m q more
    ])

-- nothing is left
emptied : (m : Array) (id : ℕ) → ((q : ℕ) → q ≢ id → get m q ≡ None) → (q : ℕ) → get (remove m id) q ≡ None
emptied m id none q = elim (cases_eq q id) [
  | inl same ↦ ap (get (remove m id)) same ∙ gone_here m id
  | inr apart ↦ gone_other m id q apart ∙ none q apart
]

pub least_next : (m : Array) (id to found : ℕ) → IsSome (get m id) → id ≡ least m → to ≡ greatest m → IsFirstOrNone m (id + 1) to found → found ≡ least (remove m id)
least_next m id to found held is end (inl none) = none.0 ∙ sym least_empty ∙ sym (ap least (none_held (remove m id) (emptied m id (λ q ne. elim (cases_lt q id) [
  | inl less ↦ none_below m q (omega (arith, less, is))
  | inr le ↦ elim (cases_lt to q) [
    | inl past ↦ none_above m q (omega (arith, past, end))
    | inr high ↦ none.1 q (omega (arith, le, ne)) high
  ]
]))))
least_next m id to found held is end (inr first) = least_is (remove m id) found
    (ap is_some (gone_other m id found (λ same. omega (arith, same, first.low))) ∙ first.held)
    (λ q less. elim (cases_eq q id) [
      | inl same ↦ ap (get (remove m id)) same ∙ gone_here m id
      | inr ne ↦ gone_other m id q ne ∙ elim (cases_lt q id) [
        | inl low ↦ none_below m q (omega (arith, low, is))
        | inr le ↦ first.before q (omega (arith, le, ne)) less
      ]
    ])

pub greatest_next : (m : Array) (id from found : ℕ) → IsSome (get m id) → 1 ≤ id → id ≡ greatest m → from ≤ least m ⊎ (from ≤ 1) → ((q : ℕ) → IsSome (get m q) → 1 ≤ q) → IsLastOrNone m from (id - 1) found → found ≡ greatest (remove m id)
greatest_next m id from found held some is low each (inl none) = none.0 ∙ sym greatest_empty ∙ sym (ap greatest (none_held (remove m id) (emptied m id (λ q ne. elim (held_or_not (get m q)) [
  | inl there ↦ none.1 q (elim low [ inl under ↦ omega (arith, under, least_low m q there) | inr one ↦ omega (arith, one, each q there) ]) (omega (arith, is, ne, greatest_high m q there))
  | inr not ↦ not
]))))
greatest_next m id from found held some is low each (inr last) = greatest_is (remove m id) found
    (ap is_some (gone_other m id found (λ same. omega (arith, same, last.high, some))) ∙ last.held)
    (λ q more. elim (cases_eq q id) [
      | inl same ↦ ap (get (remove m id)) same ∙ gone_here m id
      | inr ne ↦ gone_other m id q ne ∙ elim (cases_lt id q) [
        | inl past ↦ none_above m q (omega (arith, past, is))
        | inr le ↦ last.behind q more (omega (arith, le, ne))
      ]
    ])
