-- The bytes of all keys and values, counted on.
use Rattle.std.proofs.Common.{◌≡◌, ◌∙◌, ℕ, ◌+◌, List, length, refl, sym, ap, subst, arith, length-append}
use Rattle.std.specs.Prelude.{Option, Some, None, option_map, unwrap_or, IfSome}
use Rattle.std.specs.FinMap.{get, insert, remove}
use Rattle.tc_base.specs.Maps.{Map}
use Rattle.tc_base.specs.declared.kind.Mode.{Mode}
use Rattle.tc_base.specs.declared.kind.Mode.TheVariants.{Over, Keep, Cat}
use Rattle.tc_maps.specs.Sizes.{entry_size, size_gone, size_of}
use Rattle.tc_maps.proofs.Bytes.{gone_same, size-insert, size-remove}
use Rattle.tc_space.specs.Changes.{out_of, put_in, put_value}
use Rattle.tc_hashdb.specs.Changing.{len_after}
use Rattle.tc_hashdb.specs.Counting.{IsCountedWith}
use Rattle.tc_hashdb.proofs.Kept.{Counts}

-- the length of the value that a put gives
pub len_is : (mode : Mode) (o : Option (List ℕ)) (value : List ℕ) → length (put_value mode o value) ≡ len_after mode (option_map length o) (length value)
len_is Over o value = refl
len_is Keep o value = refl
len_is Cat None value = omega arith
len_is Cat (Some old) value = length-append old value

some_same : (o : Option ℕ) (n t : ℕ) → o ≡ Some n → o ≡ Some t → t ≡ n
some_same o n t a b = ap (λ x. unwrap_or x n) (sym b ∙ a)

total_is : (total : Option ℕ) (t : ℕ) (m : Map) → total ≡ Some t → Counts total m → t ≡ size_of m
total_is total t m is counted = subst (λ o. Counts o m) is counted

pub counts_put : (total after old len : Option ℕ) (mode : Mode) (m : Map) (key value : List ℕ) (long : ℕ) → long ≡ length key → old ≡ option_map length (get m key) → IfSome len (λ n. n ≡ len_after mode old (length value)) → Counts total m
    → IfSome after (λ n. IsCountedWith long old total len n) → Counts after (put_in mode key value m)
counts_put total None old len mode m key value long is_long is_old lens counted with = tt
counts_put total (Some n) old len mode m key value long is_long is_old lens counted with =
    let new : List ℕ = put_value mode (get m key) value in
    let law : size_of (insert m key new) + entry_size (length key) (get m key) ≡ size_of m + (length key + length new) = size-insert m key new in
    let gone : size_gone long old ≡ entry_size (length key) (get m key) = gone_same (length key) long (get m key) old is_long is_old in
    let t_is : with.0 ≡ size_of m = total_is total with.0 m with.2 counted in
    let len_is_so : with.1 ≡ len_after mode old (length value) = subst (λ o. IfSome o (λ n. n ≡ len_after mode old (length value))) with.3 lens in
    let sized : with.1 ≡ length new = len_is_so ∙ (ap (λ o. len_after mode o (length value)) is_old ∙ sym (len_is mode (get m key) value)) in
    omega (arith, law, gone, t_is, sized, with.4, is_long)

pub counts_out : (total after : Option ℕ) (m : Map) (key : List ℕ) (long old : ℕ) → long ≡ length key → Some old ≡ option_map length (get m key) → Counts total m → IfSome after (λ n. (t : ℕ) × (total ≡ Some t) × (n + size_gone long (Some old) ≡ t)) → Counts after (out_of key m)
counts_out total None m key long old is_long is_old counted with = tt
counts_out total (Some n) m key long old is_long is_old counted with =
    let law : size_of (remove m key) + entry_size (length key) (get m key) ≡ size_of m = size-remove m key in
    let gone : size_gone long (Some old) ≡ entry_size (length key) (get m key) = gone_same (length key) long (get m key) (Some old) is_long is_old in
    let t_is : with.0 ≡ size_of m = total_is total with.0 m with.1 counted in
    omega (arith, law, gone, t_is, with.2)
