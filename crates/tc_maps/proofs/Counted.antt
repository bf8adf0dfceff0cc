-- The totals of pairs after each change.
use Rattle.std.proofs.Common.{◌≡◌, ◌≤◌, ℕ, ◌+◌, true, List, [], ◌∷◌, ◌++◌, length, length-append, refl, sym, ap, ◌∙◌, arith}
use Rattle.std.specs.Prelude.{Option, Some, None, option_map, unwrap_or, is_some}
use Rattle.std.proofs.lemmas.List.Sums.{sum_by-cons}
use Rattle.tc_base.specs.declared.seq.Pair.{Pair}
use Rattle.tc_base.specs.Lists.{values, first, with_first, with_last, without_first, without_all}
use Rattle.tc_maps.specs.declared.totals.Totals.{Totals}
use Rattle.tc_maps.specs.Totals.{sizes, AreTotals, pairs_gone, bytes_gone}
use Rattle.tc_maps.proofs.Counting.{sized}
use Rattle.tc_maps.proofs.Seen.{order}
use Rattle.tc_maps.proofs.Sums.{gone, under, first_sum, last_sum, less_first_sum, less_all_sum, one_each, size_each, ones}

one_gone : (key : List ℕ) (o : Option (List ℕ)) → gone one_each key o ≡ pairs_gone (option_map length o)
one_gone key None = refl
one_gone key (Some v) = refl

size_gone : (key : List ℕ) (o : Option (List ℕ)) → gone size_each key o ≡ bytes_gone (length key) (option_map length o)
size_gone key None = refl
size_gone key (Some v) = refl

longer : (ps qs : List Pair) → ps ≡ qs → length ps ≡ length qs
longer ps qs e = ap (λ (l : List Pair). length l) e

-- the totals with one pair more
pub record OneMore (t most : Totals) (key value : List ℕ) : Type 0 where
  pub pairs : most.pairs ≡ t.pairs + 1
  pub bytes : most.bytes ≡ t.bytes + (length key + length value)

-- the totals without a value of a key, where there was one
pub record LessGone (t less : Totals) (key : List ℕ) (o : Option ℕ) : Type 0 where
  pub pairs : less.pairs + pairs_gone o ≡ t.pairs
  pub bytes : less.bytes + bytes_gone (length key) o ≡ t.bytes

-- ---- a first value set

first_pairs : (ps : List Pair) (key value : List ℕ) (o : Option ℕ) → o ≡ option_map length (first ps key) → length (with_first order ps key value) + pairs_gone o ≡ length ps + 1
first_pairs ps key value o e = omega (arith, first_sum one_each ps key value, ones ps, ones (with_first order ps key value), one_gone key (first ps key), ap pairs_gone e)

first_bytes : (ps : List Pair) (key value : List ℕ) (o : Option ℕ) → o ≡ option_map length (first ps key) → sizes (with_first order ps key value) + bytes_gone (length key) o ≡ sizes ps + (length key + length value)
first_bytes ps key value o e = omega (arith, first_sum size_each ps key value, size_gone key (first ps key), ap (bytes_gone (length key)) e)

-- what goes is there
pub first_has : (t most : Totals) (ps : List Pair) (key value : List ℕ) (o : Option ℕ) → AreTotals t ps → OneMore t most key value → o ≡ option_map length (first ps key) → bytes_gone (length key) o ≤ most.bytes
first_has t most ps key value o a m e = omega (arith, a.bytes, m.bytes, first_bytes ps key value o e)

pub first_totals : (t most less : Totals) (ps qs : List Pair) (key value : List ℕ) (o : Option ℕ) → AreTotals t ps → OneMore t most key value → o ≡ option_map length (first ps key) → LessGone most less key o → qs ≡ with_first order ps key value → AreTotals less qs
first_totals t most less ps qs key value o a m e l q = record {
  pairs = omega (arith, a.pairs, m.pairs, l.pairs, first_pairs ps key value o e, longer qs (with_first order ps key value) q);
  bytes = omega (arith, a.bytes, m.bytes, l.bytes, first_bytes ps key value o e, ap sizes q);
}

-- ---- a last value added

pub last_totals : (t most : Totals) (ps qs : List Pair) (key value : List ℕ) → AreTotals t ps → OneMore t most key value → qs ≡ with_last order ps key value → AreTotals most qs
last_totals t most ps qs key value a m q = record {
  pairs = omega (arith, a.pairs, m.pairs, last_sum one_each ps key value, ones ps, ones (with_last order ps key value), longer qs (with_last order ps key value) q);
  bytes = omega (arith, a.bytes, m.bytes, last_sum size_each ps key value, ap sizes q);
}

-- ---- bytes joined behind the first value of a key that is held

held : (o : Option (List ℕ)) → is_some o ≡ true → (v : List ℕ) × (o ≡ Some v)
held None e = absurd cc
held (Some v) e = (v, refl)

pub joined_totals : (t more : Totals) (ps qs : List Pair) (key new : List ℕ) → AreTotals t ps → is_some (first ps key) ≡ true → more.pairs ≡ t.pairs → more.bytes ≡ t.bytes + length new → qs ≡ with_first order ps key (unwrap_or (first ps key) [] ++ new) → AreTotals more qs
joined_totals t more ps qs key new a some p b q =
    let v = held (first ps key) some in
    let o : Some (length v.0) ≡ option_map length (first ps key) = sym (ap (option_map length) v.1) in
    let joined : List ℕ = unwrap_or (first ps key) [] ++ new in
    let long : length joined ≡ length v.0 + length new = ap (λ (o : Option (List ℕ)). length (unwrap_or o [] ++ new)) v.1 ∙ length-append v.0 new in
    record {
      pairs = omega (arith, a.pairs, p, first_pairs ps key joined (Some (length v.0)) o, longer qs (with_first order ps key joined) q);
      bytes = omega (arith, a.bytes, b, long, first_bytes ps key joined (Some (length v.0)) o, ap sizes q);
    }

-- ---- a first value taken

less_pairs : (ps : List Pair) (key : List ℕ) (o : Option ℕ) → o ≡ option_map length (first ps key) → length (without_first order ps key) + pairs_gone o ≡ length ps
less_pairs ps key o e = omega (arith, less_first_sum one_each ps key, ones ps, ones (without_first order ps key), one_gone key (first ps key), ap pairs_gone e)

less_bytes : (ps : List Pair) (key : List ℕ) (o : Option ℕ) → o ≡ option_map length (first ps key) → sizes (without_first order ps key) + bytes_gone (length key) o ≡ sizes ps
less_bytes ps key o e = omega (arith, less_first_sum size_each ps key, size_gone key (first ps key), ap (bytes_gone (length key)) e)

pub out_has : (t : Totals) (ps : List Pair) (key : List ℕ) (o : Option ℕ) → AreTotals t ps → o ≡ option_map length (first ps key) → (pairs_gone o ≤ t.pairs) × (bytes_gone (length key) o ≤ t.bytes)
out_has t ps key o a e = (omega (arith, a.pairs, less_pairs ps key o e), omega (arith, a.bytes, less_bytes ps key o e))

pub out_totals : (t less : Totals) (ps qs : List Pair) (key : List ℕ) (o : Option ℕ) → AreTotals t ps → o ≡ option_map length (first ps key) → LessGone t less key o → qs ≡ without_first order ps key → AreTotals less qs
out_totals t less ps qs key o a e l q = record {
  pairs = omega (arith, a.pairs, l.pairs, less_pairs ps key o e, longer qs (without_first order ps key) q);
  bytes = omega (arith, a.bytes, l.bytes, less_bytes ps key o e, ap sizes q);
}

-- ---- all values taken

count_ones : (key : List ℕ) (vs : List (List ℕ)) → under one_each key vs ≡ length vs
count_ones key [] = refl
count_ones key (v ∷ vs) = omega (arith, count_ones key vs, sum_by-cons (one_each key) v vs)

all_pairs : (ps : List Pair) (key : List ℕ) (vs : List (List ℕ)) → values ps key ≡ vs → length (without_all order ps key) + length vs ≡ length ps
all_pairs ps key vs e = omega (arith, less_all_sum one_each ps key, ones ps, ones (without_all order ps key), count_ones key (values ps key), ap (λ (l : List (List ℕ)). length l) e)

all_bytes : (ps : List Pair) (key : List ℕ) (vs : List (List ℕ)) → values ps key ≡ vs → sizes (without_all order ps key) + sized (length key) vs ≡ sizes ps
all_bytes ps key vs e = omega (arith, less_all_sum size_each ps key, ap (sized (length key)) e)

pub all_has : (t : Totals) (ps : List Pair) (key : List ℕ) (vs : List (List ℕ)) → AreTotals t ps → values ps key ≡ vs → (length vs ≤ t.pairs) × (sized (length key) vs ≤ t.bytes)
all_has t ps key vs a e = (omega (arith, a.pairs, all_pairs ps key vs e), omega (arith, a.bytes, all_bytes ps key vs e))

pub all_totals : (t less : Totals) (ps qs : List Pair) (key : List ℕ) (vs : List (List ℕ)) → AreTotals t ps → values ps key ≡ vs → less.pairs + length vs ≡ t.pairs → less.bytes + sized (length key) vs ≡ t.bytes → qs ≡ without_all order ps key → AreTotals less qs
all_totals t less ps qs key vs a e p b q = record {
  pairs = omega (arith, a.pairs, p, all_pairs ps key vs e, longer qs (without_all order ps key) q);
  bytes = omega (arith, a.bytes, b, all_bytes ps key vs e, ap sizes q);
}
