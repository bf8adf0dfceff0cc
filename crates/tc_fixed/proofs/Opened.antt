-- The first rule that fails, and files that stand for a map.
use Rattle.std.proofs.Common.{◌≡◌, ◌≢◌, ◌∙◌, inl, inr, ℕ, ◌≤◌, List, refl, sym, ap, subst, arith}
use Rattle.std.specs.Prelude.{Option, None}
use Rattle.std.specs.FinMap.{get, same_map, nat_cmp-IsAntisymmetric}
use Rattle.std.specs.Cmp.{nat_cmp_total}
use Rattle.std.proofs.lemmas.Bool.{cases_lt}
use Rattle.tc_base.specs.declared.kind.Rule.{Rule}
use Rattle.tc_space.specs.declared.errors.OpenErr.{OpenErr}
use Rattle.tc_space.specs.declared.errors.OpenErr.TheVariants as open_err
use Rattle.hf_head.specs.declared.fixed.FixedHead.{FixedHead}
use Rattle.hf_head.specs.FixedHeads.{HasFixedNumbers}
use Rattle.tc_model.specs.Arrays.{Array}
use Rattle.tc_fixed.specs.declared.tally.Tally.{Tally}
use Rattle.tc_fixed.specs.Cells.{IsCell, IsMapOf, cell_at, end_of}
use Rattle.tc_fixed.specs.Holding.{Holds}
use Rattle.tc_fixed.specs.Opening.{IsBroken, IsCountedTo, NamesFile, WasCounted, broken_at, no_head, too_short, bad_cell, bad_count, bad_ends, rule_f}
use Rattle.tc_fixed.specs.Shapes.{HasShape, most_id}
use Rattle.tc_fixed.specs.Standing.{HasCells, HasCount, HasEnds, HasHead, IsLong, IsMap, Stands}
use Rattle.tc_fixed.proofs.Celled.{one_value}
use Rattle.tc_fixed.proofs.Tallied.{held_or_not}

-- ---- one head, one map

pub one_head : (bytes : List ℕ) (h k : FixedHead) → HasHead bytes h → HasHead bytes k → h ≡ k
one_head bytes h k a b = sym a.spells.fields ∙ b.spells.fields

pub one_map : (width last : ℕ) (m n : Array) (bytes : List ℕ) → IsMapOf width last m bytes → IsMapOf width last n bytes → m ≡ n
one_map width last m n bytes a b = same_map nat_cmp_total nat_cmp-IsAntisymmetric m n (λ id. elim (cases_lt 0 id) [
  | inl some ↦ elim (cases_lt last id) [
    | inl past ↦ none m id a (λ w. omega (arith, past, w.1)) ∙ sym (none n id b (λ w. omega (arith, past, w.1)))
    | inr le ↦ one_value width (get m id) (get n id) (cell_at width id bytes) (a.cells id some le) (b.cells id some le)
  ]
  | inr zero ↦ none m id a (λ w. omega (arith, zero, w.0)) ∙ sym (none n id b (λ w. omega (arith, zero, w.0)))
])
  where
    none : (m : Array) (id : ℕ) → IsMapOf width last m bytes → ((1 ≤ id) × (id ≤ last) → ⊥) → get m id ≡ None
    none m id map outside = elim (held_or_not (get m id)) [
      | inl held ↦ absurd (outside (map.within id held))
      | inr is ↦ is
    ]

-- ---- a file that stands for a map breaks no rule

pub stands_unbroken : (bytes : List ℕ) (width most : ℕ) (m : Array) (rule : Rule) → Stands bytes width most m → IsBroken bytes rule → ⊥
stands_unbroken bytes width most m rule s (no_head none) = none s.head s.by.head
stands_unbroken bytes width most m rule s (too_short h head short) = short (subst (λ (k : FixedHead). IsLong k bytes) (one_head bytes s.head h s.by.head head) s.by.long)
stands_unbroken bytes width most m rule s (bad_cell h head long bad) = bad (subst (λ (k : FixedHead). HasCells k bytes) (one_head bytes s.head h s.by.head head) (λ id some le. (get m id, s.by.map.cells id some le)))
stands_unbroken bytes width most m rule s (bad_count h n head long map bad) =
    let same = one_head bytes s.head h s.by.head head in
    let maps = one_map h.width h.greatest m n bytes (subst (λ (k : FixedHead). IsMap k m bytes) same s.by.map) map in
    bad (subst (λ (x : Array). HasCount h x) maps (subst (λ (k : FixedHead). HasCount k m) same s.by.count))
stands_unbroken bytes width most m rule s (bad_ends h n head long map count bad) =
    let same = one_head bytes s.head h s.by.head head in
    let maps = one_map h.width h.greatest m n bytes (subst (λ (k : FixedHead). IsMap k m bytes) same s.by.map) map in
    bad (subst (λ (x : Array). HasEnds h x) maps (subst (λ (k : FixedHead). HasEnds k m) same s.by.ends))

-- ---- what a refusal names

pub names_rule : (n f : ℕ) (rule : Rule) (P : Rule → Type 0) → P (rule_f n) → broken_at n ≡ open_err.Broken f rule → (f ≡ 0) × P rule
names_rule n f rule P holds e =
    let file : 0 ≡ f = cc in
    let same : rule_f n ≡ rule = cc in
    (sym file, subst P same holds)

pub names_file : (n : ℕ) (e : OpenErr) → e ≡ broken_at n → NamesFile e
names_file n e is f rule named = (names_rule n f rule (λ r. Unit {0}) tt (sym is ∙ named)).0

-- ---- what is counted

pub was_counted : (h : FixedHead) (t : Tally) (bytes : List ℕ) → IsCountedTo h.width h.greatest t bytes → WasCounted h t bytes
was_counted h t bytes c = (c.m, c.map, c.counts)

pub bad_number : (h : FixedHead) (t : Tally) (bytes : List ℕ) → HasHead bytes h → IsLong h bytes → WasCounted h t bytes → h.records ≢ t.records → IsBroken bytes (rule_f 4)
bad_number h t bytes head long (m, map, counts) ne = bad_count h m head long map (λ same. ne (same ∙ sym counts.records))

pub bad_least : (h : FixedHead) (t : Tally) (bytes : List ℕ) → HasHead bytes h → IsLong h bytes → WasCounted h t bytes → h.records ≡ t.records → h.least ≢ t.least → IsBroken bytes (rule_f 5)
bad_least h t bytes head long (m, map, counts) same ne = bad_ends h m head long map (same ∙ counts.records) (λ ends. ne (ends.least ∙ sym counts.least))

pub bad_greatest : (h : FixedHead) (t : Tally) (bytes : List ℕ) → HasHead bytes h → IsLong h bytes → WasCounted h t bytes → h.records ≡ t.records → h.greatest ≢ t.greatest → IsBroken bytes (rule_f 5)
bad_greatest h t bytes head long (m, map, counts) same ne = bad_ends h m head long map (same ∙ counts.records) (λ ends. ne (ends.greatest ∙ sym counts.greatest))

pub no_cell : (h : FixedHead) (id : ℕ) (bytes : List ℕ) → HasHead bytes h → IsLong h bytes → 1 ≤ id → id ≤ h.greatest → ((o : Option (List ℕ)) → IsCell h.width o (cell_at h.width id bytes) → ⊥) → IsBroken bytes (rule_f 3)
no_cell h id bytes head long some le bad = bad_cell h head long (λ cells. let c = cells id some le in bad c.0 c.1)

-- ---- what is opened

pub shape_of : (h : FixedHead) → HasFixedNumbers h → HasShape h.width h.limit h.greatest
shape_of h n = record { width_least = n.width_least; width_most = n.width_most; limit_least = n.limit_least; limit_most = n.limit_most; allowed = n.greatest_most }

-- the head's numbers are those counted
pub record AreSame (h : FixedHead) (t : Tally) : Type 0 where
  pub records : h.records ≡ t.records
  pub least : h.least ≡ t.least
  pub greatest : h.greatest ≡ t.greatest

pub opened_stands : (h : FixedHead) (t : Tally) (bytes : List ℕ) → HasHead bytes h → IsLong h bytes → WasCounted h t bytes → AreSame h t → (m : Array) × Stands bytes h.width (most_id h.width h.limit) m
opened_stands h t bytes head long (m, map, counts) same = (
  m,
  record {
    head = h;
    by = record { head = head; long = long; map = map; count = same.records ∙ counts.records; ends = record { least = same.least ∙ counts.least; greatest = same.greatest ∙ counts.greatest } };
    width_is = refl;
    most_is = refl;
  },
)

pub opened_holds : (h : FixedHead) (t : Tally) (bytes : List ℕ) → HasHead bytes h → IsLong h bytes → WasCounted h t bytes → AreSame h t → (width most : ℕ) (n : Array) → Stands bytes width most n → Holds h.width h.limit t n bytes × (h.width ≡ width) × (most_id h.width h.limit ≡ most)
opened_holds h t bytes head long (m, map, counts) same width most n s =
    let heads = one_head bytes s.head h s.by.head head in
    let maps = one_map h.width h.greatest m n bytes map (subst (λ (k : FixedHead). IsMap k n bytes) heads s.by.map) in (
      subst (λ (x : Array). Holds h.width h.limit t x bytes) maps (record {
        shape = subst (λ g. HasShape h.width h.limit g) same.greatest (shape_of h head.numbers);
        fills = record {
          long = omega (arith, long, head.numbers.size_is, ap (end_of h.width) same.greatest);
          map = subst (λ g. IsMapOf h.width g m bytes) same.greatest map;
        };
        counts = counts;
      }),
      sym (s.width_is ∙ ap (λ (k : FixedHead). k.width) heads),
      sym (s.most_is ∙ ap (λ (k : FixedHead). most_id k.width k.limit) heads),
    )
