-- What the kit's map says of a change of one entry, as changes of the pairs.
use Rattle.std.proofs.Common.{◌≡◌, ℕ, Bool, true, false, cond, List, [], ◌∷◌, ◌++◌, refl, sym, ap, ◌∙◌}
use Rattle.std.specs.Prelude.{Option, Some, None, option_map, unwrap_or, slice_get, drop}
use Rattle.std.specs.List.Sorted.{IsStrictlySortedBy}
use Rattle.std.specs.BTreeMap.{is_at, insert_entry}
use Rattle.std.specs.Map.{keys_of, lookup, set_value, remove_entry}
use Rattle.std.proofs.lemmas.Map.Steps.{set_value_same}
use Rattle.tc_base.specs.Lists.{values, first, with_values, with_first, with_last, without_first, without_all}
use Rattle.tc_maps.specs.Entries.{Held, all_of, values_at, pairs_of}
use Rattle.tc_maps.proofs.Seen.{Entry, order, values_seen, entry_set, written, entry_removed}

abbrev pub Sorted : List Entry → Type 0
Sorted ms = IsStrictlySortedBy order (keys_of ms)

abbrev pub at : List Entry → List ℕ → Option Held
at ms key = lookup (is_at (order key)) ms

-- es are the entries ms with these values under a key
pub record Puts (ms es : List Entry) (key : List ℕ) (w : Held) : Type 0 where
  pub sorted : Sorted ms
  pub entries : es ≡ insert_entry order ms key w

pub by_entry : (ms es : List Entry) (key : List ℕ) (w : Held) (f : Held → List Entry) → Sorted ms → ((v : Held) → f v ≡ insert_entry order ms key v) → es ≡ f w → Puts ms es key w
by_entry ms es key w f s u e = record { sorted = s; entries = e ∙ u w }

pub by_write : (ms es : List Entry) (key : List ℕ) (v u w : Held) → Sorted ms → at ms key ≡ Some v → es ≡ set_value (is_at (order key)) ms u → u ≡ w → Puts ms es key w
by_write ms es key v u w s f e same = record { sorted = s; entries = e ∙ ap (set_value (is_at (order key)) ms) same ∙ written ms key v w s f }

values_of : (ms : List Entry) (key : List ℕ) (o : Option Held) → Sorted ms → at ms key ≡ o → values (pairs_of ms) key ≡ values_at o
values_of ms key o s f = values_seen ms key s ∙ ap values_at f

first_at : (o : Option Held) → slice_get (values_at o) 0 ≡ option_map (λ v. v.0) o
first_at None = refl
first_at (Some v) = refl

pub first_of : (ms : List Entry) (key : List ℕ) (o : Option Held) → Sorted ms → at ms key ≡ o → first (pairs_of ms) key ≡ option_map (λ v. v.0) o
first_of ms key o s f = ap (λ vs. slice_get vs 0) (values_of ms key o s f) ∙ first_at o

put : (ms es : List Entry) (key : List ℕ) (w : Held) → Puts ms es key w → pairs_of es ≡ with_values order (pairs_of ms) key (all_of w)
put ms es key w p = ap pairs_of p.entries ∙ entry_set ms key w p.sorted

as_values : (ms : List Entry) (key : List ℕ) (vs ws : List (List ℕ)) → vs ≡ ws → with_values order (pairs_of ms) key vs ≡ with_values order (pairs_of ms) key ws
as_values ms key vs ws e = ap (with_values order (pairs_of ms) key) e

pub front_new : (ms es : List Entry) (key value : List ℕ) → Puts ms es key (value, []) → at ms key ≡ None → pairs_of es ≡ with_first order (pairs_of ms) key value
front_new ms es key value p f = put ms es key (value, []) p ∙ sym (ap (λ vs. with_values order (pairs_of ms) key (value ∷ drop 1 vs)) (values_of ms key None p.sorted f))

pub front_old : (ms es : List Entry) (key value : List ℕ) (v : Held) → Puts ms es key (value, v.1) → at ms key ≡ Some v → pairs_of es ≡ with_first order (pairs_of ms) key value
front_old ms es key value v p f = put ms es key (value, v.1) p ∙ sym (ap (λ vs. with_values order (pairs_of ms) key (value ∷ drop 1 vs)) (values_of ms key (Some v) p.sorted f))

-- the first value with bytes behind it
pub front_joined : (ms es : List Entry) (key more : List ℕ) (v : Held) → Puts ms es key (v.0 ++ more, v.1) → at ms key ≡ Some v → pairs_of es ≡ with_first order (pairs_of ms) key (unwrap_or (first (pairs_of ms) key) [] ++ more)
front_joined ms es key more v p f =
    front_old ms es key (v.0 ++ more) v p f ∙ ap (λ o. with_first order (pairs_of ms) key (unwrap_or o [] ++ more)) (sym (first_of ms key (Some v) p.sorted f))

pub back_new : (ms es : List Entry) (key value : List ℕ) → Puts ms es key (value, []) → at ms key ≡ None → pairs_of es ≡ with_last order (pairs_of ms) key value
back_new ms es key value p f = put ms es key (value, []) p ∙ sym (ap (λ vs. with_values order (pairs_of ms) key (vs ++ value ∷ [])) (values_of ms key None p.sorted f))

pub back_old : (ms es : List Entry) (key value : List ℕ) (v : Held) → Puts ms es key (v.0, v.1 ++ value ∷ []) → at ms key ≡ Some v → pairs_of es ≡ with_last order (pairs_of ms) key value
back_old ms es key value v p f = put ms es key (v.0, v.1 ++ value ∷ []) p ∙ sym (ap (λ vs. with_values order (pairs_of ms) key (vs ++ value ∷ [])) (values_of ms key (Some v) p.sorted f))

-- what was found, put again, changes nothing
pub same_put : (ms es : List Entry) (key : List ℕ) (v : Held) → Puts ms es key v → at ms key ≡ Some v → es ≡ ms
same_put ms es key v p f = p.entries ∙ sym (written ms key v v p.sorted f) ∙ set_value_same (is_at (order key)) ms v f

pub front_out : (ms es : List Entry) (key : List ℕ) (v w : Held) → Puts ms es key w → at ms key ≡ Some v → v.1 ≡ all_of w → pairs_of es ≡ without_first order (pairs_of ms) key
front_out ms es key v w p f e = put ms es key w p ∙ as_values ms key _ _ (sym e ∙ sym (ap (drop 1) (values_of ms key (Some v) p.sorted f)))

pub last_out : (ms es : List Entry) (key : List ℕ) (v : Held) → Sorted ms → at ms key ≡ Some v → v.1 ≡ [] → es ≡ remove_entry (is_at (order key)) ms → pairs_of es ≡ without_first order (pairs_of ms) key
last_out ms es key v s f none e = ap pairs_of e ∙ entry_removed ms key s ∙ as_values ms key _ _ (sym none ∙ sym (ap (drop 1) (values_of ms key (Some v) s f)))

pub all_out : (ms es : List Entry) (key : List ℕ) → Sorted ms → es ≡ remove_entry (is_at (order key)) ms → pairs_of es ≡ without_all order (pairs_of ms) key
all_out ms es key s e = ap pairs_of e ∙ entry_removed ms key s

nothing : (test : List ℕ → Bool) (es : List Entry) → lookup test es ≡ None → remove_entry test es ≡ es
nothing test [] f = refl
nothing test (e ∷ es) f =
    elim (test e.0) as (λ b. cond b (Some e.1) (lookup test es) ≡ None → cond b es (e ∷ remove_entry test es) ≡ e ∷ es) [
      | true ↦ λ f. absurd cc
      | false ↦ λ f. ap (λ l. e ∷ l) (nothing test es f)
    ] f

-- a key that isn't held has no first value to take
pub none_out : (ms : List Entry) (key : List ℕ) → Sorted ms → at ms key ≡ None → pairs_of ms ≡ without_first order (pairs_of ms) key
none_out ms key s f =
    sym (as_values ms key _ _ (ap (drop 1) (values_of ms key None s f)) ∙ sym (entry_removed ms key s) ∙ ap pairs_of (nothing (is_at (order key)) ms f))
