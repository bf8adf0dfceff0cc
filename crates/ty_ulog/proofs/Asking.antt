-- The records of a round's requests, one after the other.
use Rattle.std.proofs.Common.{◌≡◌, ℕ, suc, ◌+◌, ◌^◌, ◌<◌, List, [], ◌∷◌, ◌++◌, length, take, drop, refl, sym, ap, subst, ◌∙◌, arith, append_assoc}
use Rattle.std.specs.Prelude.{All, max, get_or, Option, Some, None, option_map, Result, Ok, Err, OnOk}
use Rattle.std.specs.Result.{IsErrAnd}
use Rattle.std.proofs.lemmas.List.Elements.{All-append, All-cons, All-nil}
use Rattle.std.proofs.lemmas.List.{append-nil, take-append-drop, take_more}
use Rattle.tc_io.specs.Told.{Adds}
use Rattle.tc_space.specs.declared.space.Space.{Ghosts}
use Rattle.ty_ulog.specs.declared.log.Batch.{Batch}
use Rattle.ty_ulog.specs.declared.log.Ulog.{Ulog}
use Rattle.ty_ulog.specs.Records.{record_bytes}
use Rattle.ty_ulog.specs.Log.{last_of}
use Rattle.ty_ulog.specs.Updates.{IsUpdating}
use Rattle.ty_ulog.specs.Noting.{records_of, Overflows, IsNoted, Gathers}
use Rattle.ty_ulog.proofs.Sole.{updating_short}
use Rattle.ty_ulog.proofs.Noting.{gathers_none, overflows_behind, records_more}

-- ---- what a clock tells

pub adds_none : {A : Type 0} (a : Option (List A)) → Adds a a []
adds_none None = refl
adds_none {A} (Some t) = ap (λ (l : List A). Some l) (sym (append-nil t))

pub adds_then : {A : Type 0} (a b c : Option (List A)) (xs ys : List A) → Adds a b xs → Adds b c ys → Adds a c (xs ++ ys)
adds_then {A} None b c xs ys e f = f ∙ ap (option_map (λ (t : List A). t ++ ys)) e
adds_then {A} (Some t) b c xs ys e f = f ∙ ap (option_map (λ (l : List A). l ++ ys)) e ∙ ap (λ (l : List A). Some l) (append_assoc t xs ys)

pub none_small : All (λ (t : ℕ). t < 2 ^ 64) []
none_small = All-nil (λ (t : ℕ). t < 2 ^ 64)

pub all_small : (ticks : List ℕ) (now : ℕ) → All (λ (t : ℕ). t < 2 ^ 64) ticks → now < 2 ^ 64 → All (λ (t : ℕ). t < 2 ^ 64) (ticks ++ now ∷ [])
all_small ticks now small lt = All-append (λ (t : ℕ). t < 2 ^ 64) ticks (now ∷ []) small (All-cons (λ (t : ℕ). t < 2 ^ 64) now [] lt none_small)

-- what was refused wasn't done
pub never_ok : {A E : Type 0} (Q : Type 0) (r : Result A E) (P : E → Type 0) → IsErrAnd r P → OnOk r Q
never_ok Q (Ok x) P is = absurd is
never_ok Q (Err e) P is = tt

-- ---- one more

pub more_taken : (all : List (List ℕ)) (i : ℕ) (x : List ℕ) → i < length all → x ≡ get_or all i x → take i all ++ x ∷ [] ≡ take (i + 1) all
more_taken all i x lt is = ap (λ (y : List ℕ). take i all ++ y ∷ []) is ∙ sym (take_more all i x lt)

pub is_noted : (u : Ulog) (own now next stamp : ℕ) (request old new : List ℕ) → own < 65536 → u.last < 2 ^ 64 → stamp < 2 ^ 64 → next ≡ u.last + 1 → stamp ≡ max next now → IsUpdating request
    → new ≡ old ++ record_bytes (record { stamp = stamp; before = u.last; server = own; master = own; request = request }) → IsNoted u (record u { last = stamp }) own now request old new
is_noted u own now next stamp request old new id before late n s may e =
    let same : max (suc u.last) now ≡ stamp = omega (arith, n, s) in
    record {
      bytes = e ∙ ap (λ (t : ℕ). old ++ record_bytes (record { stamp = t; before = u.last; server = own; master = own; request = request })) (sym same);
      update = record { fits = record { stamp = omega (arith, same, late); before = omega (arith, before); server = id; master = id; request = updating_short request may }; updating = may };
      last_is = sym same;
      index_is = refl;
    }

module _ {S : Type 0} (s : Ghosts S) where
  pub gathers_as : (own : ℕ) (ticks : List ℕ) (asked all : List (List ℕ)) (u v : Ulog) (old new : S) (b : Batch) → asked ≡ all → Gathers s own ticks asked u v old new b → Gathers s own ticks all u v old new b
  gathers_as own ticks asked all u v old new b is g = subst (λ (l : List (List ℕ)). Gathers s own ticks l u v old new b) is g

  pub gathers_start : (own : ℕ) (u : Ulog) (a : S) (all : List (List ℕ)) (b : Batch) → b.bytes ≡ [] → b.before ≡ u.last → s.sound a → Gathers s own [] (take 0 all) u u a a b
  gathers_start own u a [] b none before sound = gathers_none s own u a b none before sound
  gathers_start own u a (x ∷ all) b none before sound = gathers_none s own u a b none before sound

  -- a limit that is met by some is met by all
  pub overflows_in : (held own last long n : ℕ) (ticks later : List ℕ) (all : List (List ℕ)) (new : S) → length ticks ≡ length (take n all) → Overflows s held new long (records_of own last ticks (take n all)) → Overflows s held new long (records_of own last (ticks ++ later) all)
  overflows_in held own last long n ticks later all new each over =
      subst (λ (l : List (List ℕ)). Overflows s held new long (records_of own last (ticks ++ later) l)) (take-append-drop n all)
      (subst (Overflows s held new long) (sym (records_more own last ticks later (take n all) (drop n all) each)) (overflows_behind s held new long (records_of own last ticks (take n all)) (records_of own (last_of last (records_of own last ticks (take n all))) later (drop n all)) over))

  pub overflows_with : (held own last long n : ℕ) (ticks later : List ℕ) (all asked : List (List ℕ)) (new : S) → asked ≡ take n all → length ticks ≡ length (take n all) → Overflows s held new long (records_of own last ticks asked) → Overflows s held new long (records_of own last (ticks ++ later) all)
  overflows_with held own last long n ticks later all asked new is each over = overflows_in held own last long n ticks later all new each (subst (λ (l : List (List ℕ)). Overflows s held new long (records_of own last ticks l)) is over)
