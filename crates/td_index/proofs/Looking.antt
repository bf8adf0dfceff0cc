-- A tree's keys looked up row by row.
use Rattle.std.proofs.Common.{◌≡◌, ◌∙◌, ℕ, zero, suc, ◌+◌, ◌≤◌, ◌<◌, take, get_or, add-one, Bool, true, false, cond, List, [], ◌∷◌, ◌++◌, length, map, Option, Some, None, refl, sym, ap, subst, arith, ◌⊎◌, inl, inr, ⊎_elim, length-append}
use Rattle.std.proofs.lemmas.Bool.{eqb-true, eq-eqb}
use Rattle.std.specs.Prelude.{◌==◌, ◌↔◌, is_some, flat_map, IsTrue}
use Rattle.std.specs.FinMap.{get, keys}
use Rattle.std.specs.Cmp.{IsTotalOrder}
use Rattle.std.specs.declared.cmp.Ordering.{Ordering}
use Rattle.std.proofs.lemmas.Map.Lookups.{CmpEqualImpliesEq}
use Rattle.tc_base.specs.Lists.{first}
use Rattle.tc_base.specs.Maps.{Map}
use Rattle.tc_base.specs.Texts.{is_text}
use Rattle.tc_base.specs.declared.seq.Pair.{Pair}
use Rattle.tc_space.specs.Frames.{In, Reads}
use Rattle.tc_space.specs.Stores.{IsReady}
use Rattle.tc_space.specs.declared.space.Space.{Ghosts}
use Rattle.tc_space.specs.declared.records.Records as records
use Rattle.tc_space.specs.declared.multi.Multi as multi
use Rattle.td_index.specs.Checks.{AreBoth, AreHeld, Both, IsLooked, IsThere, Lacks, firsts_by, parts_in}
use Rattle.td_index.specs.Entries.{Firsts, has_zero, entry, one, times, keys_of, owed, owed_parts, AreOwed}
use Rattle.td_index.proofs.Counting.{text_is, text_refl, either, clash, one_true, one_false, times_append, times_push, all_there, same_length}
use Rattle.td_index.proofs.Keyed.{keys_once, none_owed}
use Rattle.std.proofs.lemmas.List.{take_all}
use Rattle.td_index.proofs.Listed.{up_to}
use Rattle.td_index.proofs.Listing.{held_is, is_held}
use Rattle.td_index.proofs.Parting.{parted_entry, row_entries, all_entries, owed_listed, owed_once}

module _ {S R M O : Type 0} (s : Ghosts S) (r : records.Ghosts R S) (m : multi.Ghosts M S O) where
  pub reads_left : (v w : R) (t : M) (a b : S) → Reads s (In s r.file_of r.holds) v w a b → Reads s (AreBoth s r m) (v, t) (w, t) a b
  reads_left v w t a b h = record {
    now = h.now;
    touched = h.touched;
    sound = h.sound;
    means = λ p held. (h.means p.0 held.0, (held.1.0, subst (λ (bytes : List ℕ). m.holds t bytes p.1) (sym (h.now held.1.0 (m.file_of t))) held.1.1));
  }

  pub reads_right : (v : R) (t u : M) (a b : S) → Reads s (In s m.file_of m.holds) t u a b → Reads s (AreBoth s r m) (v, t) (v, u) a b
  reads_right v t u a b h = record {
    now = h.now;
    touched = h.touched;
    sound = h.sound;
    means = λ p held. ((held.0.0, subst (λ (bytes : List ℕ). r.holds v bytes p.0) (sym (h.now held.0.0 (r.file_of v))) held.0.1), h.means p.1 held.1);
  }

  pub ready_left : (v w : R) (t : M) (a b : S) → Reads s (In s r.file_of r.holds) v w a b → IsReady s (In s m.file_of m.holds) t a → IsReady s (In s m.file_of m.holds) t b
  ready_left v w t a b h ready = record {
    sound = h.sound;
    held = λ tells. let ps = ready.held tells in (ps.0, (tells, subst (λ (bytes : List ℕ). m.holds t bytes ps.0) (sym (h.now tells (m.file_of t))) ps.1.1));
  }

  pub ready_right : (v : R) (t u : M) (a b : S) → Reads s (In s m.file_of m.holds) t u a b → IsReady s (In s r.file_of r.holds) v a → IsReady s (In s r.file_of r.holds) v b
  ready_right v t u a b h ready = record {
    sound = h.sound;
    held = λ tells. let k = ready.held tells in (k.0, (tells, subst (λ (bytes : List ℕ). r.holds v bytes k.0) (sym (h.now tells (r.file_of v))) k.1.1));
  }

-- ---- one row

pub held_none : (key : List ℕ) (ps : List Pair) → AreHeld [] key ps true
held_none key ps x some = absurd (omega (arith, some))

-- one part more
pub held_more : (parts : List (List ℕ)) (i : ℕ) (p at key : List ℕ) (ps : List Pair) → i < length parts → p ≡ get_or parts i p → at ≡ p → is_some (first ps (entry at key)) ≡ true
    → AreHeld (take i parts) key ps true → AreHeld (take (i + 1) parts) key ps true
held_more parts i p at key ps less is same has so x some = ⊎_elim
    (λ (yes : is_text x at ≡ true). subst (λ (l : List ℕ). 1 ≤ times (entry l key) (keys_of ps)) (sym (text_is x at yes)) (held_is (entry at key) ps has))
    (λ (no : is_text x at ≡ false). so x (omega (arith, some, ap (times x) (up_to parts i p at less is same), times_push x at (take i parts), one_false (is_text x at) no))) (either (is_text x at))

pub held_all : (parts : List (List ℕ)) (i : ℕ) (key : List ℕ) (ps : List Pair) → length parts ≤ i → AreHeld (take i parts) key ps true → AreHeld parts key ps true
held_all parts i key ps all so = subst (λ (l : List (List ℕ)). AreHeld l key ps true) (take_all i parts all) so

pub held_not : (parts : List (List ℕ)) (i : ℕ) (p at key : List ℕ) (ps : List Pair) → i < length parts → p ≡ get_or parts i p → at ≡ p → is_some (first ps (entry at key)) ≡ false → AreHeld parts key ps false
held_not parts i p at key ps less is same has = (at, one_of parts i p at less is same, none (times (entry at key) (keys_of ps)) refl)
  where
    one_of : (parts : List (List ℕ)) (i : ℕ) (p at : List ℕ) → i < length parts → p ≡ get_or parts i p → at ≡ p → 1 ≤ times at parts
    one_of [] i p at less is same = absurd (omega (arith, less))
    one_of (q ∷ parts) zero p at less is same = omega (arith, one_true (is_text at q) (ap (is_text at) (sym (same ∙ is)) ∙ text_refl at))
    one_of (q ∷ parts) (suc i) p at less is same = omega (arith, one_of parts i p at (omega (arith, less)) is same)

    none : (n : ℕ) → n ≡ times (entry at key) (keys_of ps) → times (entry at key) (keys_of ps) ≡ 0
    none zero e = sym e
    none (suc n) e = clash (is_some (first ps (entry at key))) (is_held (entry at key) ps (omega (arith, e))) has

pub looked_parts : (h : Firsts) (key : List ℕ) (parts : List (List ℕ)) (ps : List Pair) → h key ≡ parts → AreHeld parts key ps true → IsThere h key ps (length parts)
looked_parts h key parts ps is held = record { so_many = sym (ap length is); each = λ x some. held x (omega (arith, some, ap (times x) is)) }

pub lacked_part : (h : Firsts) (key : List ℕ) (parts : List (List ℕ)) (ps : List Pair) → h key ≡ parts → AreHeld parts key ps false → Lacks h key ps
lacked_part h key parts ps is held = record { part = held.0; is_part = omega (arith, held.1, ap (times held.0) is); none = held.2 }

-- ---- rows so far

pub record SoFar (h : Firsts) (ks : List (List ℕ)) (ps : List Pair) (n : ℕ) : Type 0 where
  pub so_many : n ≡ length (all_entries h ks)
  pub each : (x : List ℕ) → 1 ≤ times x (all_entries h ks) → 1 ≤ times x (keys_of ps)

pub so_far_none : (h : Firsts) (ps : List Pair) → SoFar h [] ps 0
so_far_none h ps = record { so_many = refl; each = λ x some. absurd (omega (arith, some)) }

length_row : (k : List ℕ) (fs : List (List ℕ)) → length (row_entries k fs) ≡ length fs
length_row k [] = refl
length_row k (f ∷ fs) = ap suc (length_row k fs)

entries_push : (h : Firsts) (ks : List (List ℕ)) (k : List ℕ) (x : List ℕ) → times x (all_entries h (ks ++ k ∷ [])) ≡ times x (all_entries h ks) + times x (row_entries k (h k))
entries_push h [] k x = omega (arith, times_append x (row_entries k (h k)) [])
entries_push h (j ∷ ks) k x = omega (arith, times_append x (row_entries j (h j)) (all_entries h (ks ++ k ∷ [])), times_append x (row_entries j (h j)) (all_entries h ks), entries_push h ks k x)

length_push : (h : Firsts) (ks : List (List ℕ)) (k : List ℕ) → length (all_entries h (ks ++ k ∷ [])) ≡ length (all_entries h ks) + length (h k)
length_push h [] k = omega (arith, length-append (row_entries k (h k)) [], length_row k (h k))
length_push h (j ∷ ks) k = omega (arith, length-append (row_entries j (h j)) (all_entries h (ks ++ k ∷ [])), length-append (row_entries j (h j)) (all_entries h ks), length_push h ks k)

-- an entry of a row is that of one of its parts
from_part : (P : List ℕ → Type 0) (x k : List ℕ) (fs : List (List ℕ)) → 1 ≤ times x (row_entries k fs) → ((f : List ℕ) → 1 ≤ times f fs → P (entry f k)) → P x
from_part P x k [] some each = absurd (omega (arith, some))
from_part P x k (f ∷ fs) some each = ⊎_elim
    (λ (yes : is_text x (entry f k) ≡ true). subst P (sym (text_is x (entry f k) yes)) (each f (omega (arith, one_true (is_text f f) (text_refl f)))))
    (λ (no : is_text x (entry f k) ≡ false). from_part P x k fs (omega (arith, some, ap one no)) (λ g more. each g (omega (arith, more)))) (either (is_text x (entry f k)))

some_or : (c : ℕ) → (1 ≤ c) ⊎ (c ≡ 0)
some_or zero = inr refl
some_or (suc c) = inl (omega arith)

pub so_far_more : (h : Firsts) (ks : List (List ℕ)) (k : List ℕ) (ps : List Pair) (n d : ℕ) → SoFar h ks ps n → IsThere h k ps d → SoFar h (ks ++ k ∷ []) ps (n + d)
so_far_more h ks k ps n d so there = record {
  so_many = omega (arith, so.so_many, there.so_many, length_push h ks k);
  each = λ x some. ⊎_elim
      (λ (z : 1 ≤ times x (all_entries h ks)). so.each x z)
      (λ (z : times x (all_entries h ks) ≡ 0). from_part (λ (l : List ℕ). 1 ≤ times l (keys_of ps)) x k (h k) (omega (arith, entries_push h ks k x, some, z)) there.each)
      (some_or (times x (all_entries h ks)));
}

take_next : (ks : List (List ℕ)) (i : ℕ) (d : List ℕ) → i < length ks → take (suc i) ks ≡ take i ks ++ get_or ks i d ∷ []
take_next [] i d less = absurd (omega (arith, less))
take_next (k ∷ ks) zero d less = refl
take_next (k ∷ ks) (suc i) d less = ap (λ (l : List (List ℕ)). k ∷ l) (take_next ks i d (omega (arith, less)))

looked_some : (h : Firsts) (key : List ℕ) (ps : List Pair) (o : Option ℕ) (n : ℕ) → o ≡ Some n → IsLooked h key ps o → IsThere h key ps n
looked_some h key ps o n is l = subst (IsLooked h key ps) is l

pub lacks_is : (h : Firsts) (key : List ℕ) (ps : List Pair) (o : Option ℕ) → o ≡ None → IsLooked h key ps o → Lacks h key ps
lacks_is h key ps o is l = subst (IsLooked h key ps) is l

pub so_far_next : (h : Firsts) (ks : List (List ℕ)) (i : ℕ) (key at : List ℕ) (ps : List Pair) (n d : ℕ) (o : Option ℕ) → i < length ks → key ≡ get_or ks i key → at ≡ key → SoFar h (take i ks) ps n → o ≡ Some d → IsLooked h at ps o → SoFar h (take (i + 1) ks) ps (n + d)
so_far_next h ks i key at ps n d o less is same so some l =
    subst (λ (ls : List (List ℕ)). SoFar h ls ps (n + d)) (sym (ap (λ (j : ℕ). take j ks) (add-one i) ∙ (take_next ks i key less ∙ ap (λ (k : List ℕ). take i ks ++ k ∷ []) (sym (same ∙ is)))))
    (so_far_more h (take i ks) at ps n d so (looked_some h at ps o d some l))

-- ---- the verdict

whole_by : (of : List ℕ → List (List ℕ)) → ((bytes part : List ℕ) → 1 ≤ times part (of bytes) → has_zero part ≡ false) → (o : Option (List ℕ)) (f : List ℕ) → 1 ≤ times f (parts_in of o) → has_zero f ≡ false
whole_by of whole None f some = absurd (omega (arith, some))
whole_by of whole (Some bytes) f some = whole bytes f some

once_by : (of : List ℕ → List (List ℕ)) → ((bytes part : List ℕ) → times part (of bytes) ≤ 1) → (o : Option (List ℕ)) (f : List ℕ) → times f (parts_in of o) ≤ 1
once_by of once None f = omega arith
once_by of once (Some bytes) f = once bytes f

module _ (of : List ℕ → List (List ℕ)) (whole : (bytes part : List ℕ) → 1 ≤ times part (of bytes) → has_zero part ≡ false) (once : (bytes part : List ℕ) → times part (of bytes) ≤ 1) (m : Map) (ps : List Pair) where
  listed : (x : List ℕ) → times x (all_entries (firsts_by of m) (keys m)) ≡ owed (firsts_by of m) x
  listed x = owed_listed (firsts_by of m) (keys m) (keys_once m) (none_owed of m) (λ k f some. whole_by of whole (get m k) f some) x

  keys_length : (qs : List Pair) → length (keys_of qs) ≡ length qs
  keys_length [] = refl
  keys_length (q ∷ qs) = ap suc (keys_length qs)

  pub all_owed : (n : ℕ) → SoFar (firsts_by of m) (keys m) ps n → length ps ≡ n → AreOwed (firsts_by of m) ps
  all_owed n so same x =
      all_there (keys_of ps) (all_entries (firsts_by of m) (keys m))
      (λ z. omega (arith, listed z, owed_once (firsts_by of m) (λ k v. once_by of once (get m k) v) z))
      so.each (omega (arith, keys_length ps, same, so.so_many)) x
      ∙ listed x

  pub owed_many : (n : ℕ) → SoFar (firsts_by of m) (keys m) ps n → AreOwed (firsts_by of m) ps → length ps ≡ n
  owed_many n so owed_is = omega (arith, same_length (keys_of ps) (all_entries (firsts_by of m) (keys m)) (λ z. owed_is z ∙ sym (listed z)), keys_length ps, so.so_many)

  pub judged : (ks : List (List ℕ)) (i n count : ℕ) → SoFar (firsts_by of m) (take i ks) ps n → length ks ≤ i → ks ≡ keys m → count ≡ length ps → IsTrue (count == n) ↔ AreOwed (firsts_by of m) ps
  judged ks i n count so all is long =
      let whole_so : SoFar (firsts_by of m) (keys m) ps n = subst (λ (l : List (List ℕ)). SoFar (firsts_by of m) l ps n) (take_all i ks all ∙ is) so in
      (λ yes. all_owed n whole_so (sym long ∙ eqb-true count n yes), λ owed_is. eq-eqb count n (long ∙ owed_many n whole_so owed_is))

  pub not_owed : (key : List ℕ) → Lacks (firsts_by of m) key ps → AreOwed (firsts_by of m) ps → ⊥
  not_owed key lacks owed_is =
      let part = lacks.part in
      let is : owed (firsts_by of m) (entry part key) ≡ times part (firsts_by of m key) = ap (owed_parts (firsts_by of m)) (parted_entry part key (whole_by of whole (get m key) part lacks.is_part)) in
      omega (arith, owed_is (entry part key), lacks.none, is, lacks.is_part)
