-- Entries renamed, some at a time.
use Rattle.std.proofs.Common.{◌≡◌, ◌∙◌, inl, inr, ℕ, zero, suc, ◌+◌, ◌-◌, ◌*◌, ◌/◌, ◌%◌, ◌^◌, ◌<◌, ◌≤◌, List, ◌++◌, Option, length, take, drop, refl, sym, ap, subst, arith, append_assoc, append-nil, add-one}
use Rattle.std.proofs.lemmas.Bool.{cases_eq, cases_lt}
use Rattle.std.proofs.lemmas.List.{drop-drop, drop_all, drop_at, places, same_lists, take_at}
use Rattle.std.proofs.Math.Nat.{div-add-mod, mod-lt, mul-add, mul-le-mul_left}
use Rattle.tc_base.specs.Endian.{field, le_bytes, le_number}
use Rattle.tc_base.specs.Files.{wrote}
use Rattle.tc_base.proofs.Endians.{length-le_bytes}
use Rattle.hf_pack.specs.declared.stream.Stream.{Stream}
use Rattle.hf_pack.specs.Entries.{PushedAs}
use Rattle.hf_pack.specs.Moving.{AllFit, entries_as, renamed}
use Rattle.hf_pack.specs.Streams.{Pushed, end_of}
use Rattle.hf_pack.proofs.Moved.{mul_more}
use Rattle.hf_pack.proofs.Renamed.{length-entries}
use Rattle.hf_pack.proofs.Streaming.{pushed_as, pushed_then}

module _ (f : ℕ → ℕ) (w : ℕ) where
  -- entries renamed where they stand: none yet,
  pub entries_none : (bytes : List ℕ) → bytes ≡ entries_as f w 0 bytes ++ drop (w * 0) bytes
  entries_none bytes = let none : 0 ≡ w * 0 = omega arith in ap (λ (n : ℕ). drop n bytes) none

  -- one more,
  pub entries_more : (i n : ℕ) (bytes now new : List ℕ) → now ≡ entries_as f w i bytes ++ drop (w * i) bytes → n ≡ f (le_number (field (w * i) w now)) → new ≡ wrote (w * i) (le_bytes w n) now → new ≡ entries_as f w (i + 1) bytes ++ drop (w * (i + 1)) bytes
  unfolding wrote
  entries_more i n bytes now new before is written =
      let front : List ℕ = entries_as f w i bytes in
      let back : List ℕ = drop (w * i) bytes in
      let long : length front ≡ w * i = length-entries f w i bytes in
      let behind : drop (w * i) (front ++ back) ≡ back = drop_at front back (w * i) long in
      let x : List ℕ = le_bytes w n in
      let same : n ≡ f (le_number (field (w * i) w bytes)) = is ∙ (λ j. f (le_number (take w (drop (w * i) (before j))))) ∙ ap (λ (l : List ℕ). f (le_number (take w l))) behind in
      let sized : w * i + length x ≡ w * (i + 1) = omega (arith, length-le_bytes w n, mul-add w i 1) in
      written
      ∙ (λ j. take (w * i) (before j) ++ x ++ drop (w * i + length x) (before j))
      ∙ (λ j. take_at front back (w * i) long j ++ x ++ sym (drop-drop (length x) (w * i) (front ++ back)) j)
      ∙ (λ j. front ++ x ++ drop (length x) (behind j))
      ∙ ap (λ (l : List ℕ). front ++ x ++ l) (drop-drop (length x) (w * i) bytes ∙ ap (λ (k : ℕ). drop k bytes) sized)
      ∙ ap (λ (k : ℕ). (front ++ le_bytes w k) ++ drop (w * (i + 1)) bytes) same
      ∙ ap (λ (k : ℕ). entries_as f w k bytes ++ drop (w * (i + 1)) bytes) (sym (add-one i))

  -- and all
  pub entries_all : (n : ℕ) (bytes new : List ℕ) → length bytes ≡ w * n → new ≡ entries_as f w n bytes ++ drop (w * n) bytes → new ≡ entries_as f w n bytes
  entries_all n bytes new long is = is ∙ ap (λ (l : List ℕ). entries_as f w n bytes ++ l) (drop_all (w * n) bytes (omega (arith, long))) ∙ append-nil (entries_as f w n bytes)

  pub entry_was : (i n : ℕ) (bytes now : List ℕ) → now ≡ entries_as f w i bytes ++ drop (w * i) bytes → n ≡ f (le_number (field (w * i) w now)) → n ≡ f (le_number (field (w * i) w bytes))
  entry_was i n bytes now before is =
      let front : List ℕ = entries_as f w i bytes in
      let back : List ℕ = drop (w * i) bytes in
      is ∙ (λ j. f (le_number (take w (drop (w * i) (before j))))) ∙ ap (λ (l : List ℕ). f (le_number (take w l))) (drop_at front back (w * i) (length-entries f w i bytes))

  pub fit_more : (i n : ℕ) (bytes : List ℕ) → AllFit f w i bytes → n ≡ f (le_number (field (w * i) w bytes)) → n < 256 ^ w → AllFit f w (i + 1) bytes
  fit_more i n bytes fit is low d less = elim (cases_eq d i) [
    | inl e ↦ (let now : f (le_number (field (w * i) w bytes)) < 256 ^ w = subst (λ (k : ℕ). k < 256 ^ w) is low in subst (λ (k : ℕ). f (le_number (field (w * k) w bytes)) < 256 ^ w) (sym e) now)
    | inr ne ↦ fit d (omega (arith, less, ne))
  ]

  field_front : (d n : ℕ) (bytes : List ℕ) → d + w ≤ n → field d w (take n bytes) ≡ field d w bytes
  field_front d n bytes low = same_lists _ _ (grind (arith, places)) (λ i d h. grind (arith, places))

  -- the bytes behind don't matter
  pub entries_front : (n m : ℕ) (bytes : List ℕ) → w * n ≤ m → entries_as f w n (take m bytes) ≡ entries_as f w n bytes
  entries_front zero m bytes low = refl
  entries_front (suc n) m bytes low =
      let room = mul_more w n (suc n) (omega arith) in
      (λ i. entries_front n m bytes (omega (arith, low, room)) i ++ le_bytes w (f (le_number (field_front (w * n) m bytes (omega (arith, low, room)) i))))

  pub fit_front : (n m : ℕ) (bytes : List ℕ) → w * n ≤ m → AllFit f w n (take m bytes) → AllFit f w n bytes
  fit_front n m bytes low fit d less =
      let room = mul_more w d n less in
      subst (λ (l : List ℕ). f (le_number l) < 256 ^ w) (field_front (w * d) m bytes (omega (arith, low, room))) (fit d less)

  field_behind : (d n : ℕ) (bytes : List ℕ) → field (w * n) w (drop (w * d) bytes) ≡ field (w * (d + n)) w bytes
  field_behind d n bytes = ap (take w) (drop-drop (w * n) (w * d) bytes ∙ ap (λ (k : ℕ). drop k bytes) (omega (arith, mul-add w d n)))

  pub entries_then : (d n : ℕ) (bytes : List ℕ) → entries_as f w (d + n) bytes ≡ entries_as f w d bytes ++ entries_as f w n (drop (w * d) bytes)
  entries_then d zero bytes = let k : d + 0 ≡ d = omega arith in ap (λ (k : ℕ). entries_as f w k bytes) k ∙ sym (append-nil (entries_as f w d bytes))
  entries_then d (suc n) bytes =
      let k : d + suc n ≡ suc (d + n) = omega arith in
      ap (λ (k : ℕ). entries_as f w k bytes) k
      ∙ (λ i. entries_then d n bytes i ++ le_bytes w (f (le_number (sym (field_behind d n bytes) i))))
      ∙ append_assoc (entries_as f w d bytes) (entries_as f w n (drop (w * d) bytes)) (le_bytes w (f (le_number (field (w * n) w (drop (w * d) bytes)))))

  pub fit_then : (d n : ℕ) (bytes : List ℕ) → AllFit f w d bytes → AllFit f w n (drop (w * d) bytes) → AllFit f w (d + n) bytes
  fit_then d n bytes first second b less = elim (cases_lt b d) [
    | inl low ↦ first b low
    | inr high ↦ (
        let k : ℕ = b - d in
        let is : d + k ≡ b = omega (arith, high) in
        subst (λ (x : ℕ). f (le_number (field (w * x) w bytes)) < 256 ^ w) is (subst (λ (l : List ℕ). f (le_number l) < 256 ^ w) (field_behind d k bytes) (second k (omega (arith, less, high)))))
  ]

  -- entries pushed behind others
  pub pushed_more : (s t u : Stream) (a b c : List ℕ) (done n at : ℕ) → end_of s ≡ 256 → at ≡ 256 + w * done → PushedAs f w done 256 s t a b → PushedAs f w n at t u b c → PushedAs f w (done + n) 256 s u a c
  pushed_more s t u a b c done n at starts is first second =
      let e : drop at b ≡ drop (w * done) (drop 256 a) = first.pushed.behind at (omega (arith, first.pushed.ends, starts, is, length-entries f w done (drop 256 a))) ∙ ap (λ (k : ℕ). drop k a) (is ∙ omega arith) ∙ sym (drop-drop (w * done) 256 a) in
      record {
        pushed =
            pushed_as s u a c (entries_as f w done (drop 256 a) ++ entries_as f w n (drop (w * done) (drop 256 a))) (entries_as f w (done + n) (drop 256 a)) (entries_then done n (drop 256 a))
            (pushed_then s t u a b c (entries_as f w done (drop 256 a)) (entries_as f w n (drop (w * done) (drop 256 a))) first.pushed (subst (λ (l : List ℕ). Pushed t u b c (entries_as f w n l)) e second.pushed));
        fit = fit_then done n (drop 256 a) first.fit (subst (λ (l : List ℕ). AllFit f w n l) e second.fit);
      }

pub room_for : (w count most long : ℕ) → most ≡ long / w → count ≤ most → w * count ≤ long
room_for w count most long is low = omega (arith, mul-le-mul_left {m = count} {n = long / w} w (omega (arith, is, low)), div-add-mod long w)

pub some_room : (w long : ℕ) → 1 ≤ w → w ≤ long → 1 ≤ long / w
some_room w long some fits = elim (cases_lt (long / w) 1) [
  | inl none ↦ absurd (let z : long / w ≡ 0 = omega (arith, none) in let d = div-add-mod long w in let m : w * (long / w) ≡ 0 = ap (λ (k : ℕ). w * k) z ∙ omega arith in let l = mod_low in omega (arith, d, m, l, fits))
  | inr more ↦ omega (arith, more)
]
  where
    mod_low : long % w < w
    mod_low = mod-lt long some

-- what was read of entries, and what was made of it
module _ (places : ℕ → Option ℕ) (u u' w w' count at : ℕ) (old read : List ℕ) where
  read_is : w' ≡ w → read ≡ take (w' * count) (drop at old) → read ≡ take (w * count) (drop at old)
  read_is ew e = e ∙ ap (λ (n : ℕ). take (n * count) (drop at old)) ew

  pub written_is : (new : List ℕ) → u' ≡ u → w' ≡ w → read ≡ take (w' * count) (drop at old) → new ≡ entries_as (renamed u' places) w' count read → new ≡ entries_as (renamed u places) w count (drop at old)
  written_is new eu ew e is =
      let front = entries_front (renamed u places) w count (w * count) (drop at old) (omega arith) in
      is ∙ (λ i. entries_as (renamed (eu i) places) (ew i) count (read_is ew e i)) ∙ front

  pub fit_is : u' ≡ u → w' ≡ w → read ≡ take (w' * count) (drop at old) → AllFit (renamed u' places) w' count read → AllFit (renamed u places) w count (drop at old)
  fit_is eu ew e fit =
      fit_front (renamed u places) w count (w * count) (drop at old) (omega arith)
      (subst (λ (l : List ℕ). AllFit (renamed u places) w count l) (read_is ew e)
      (subst (λ (x : ℕ). AllFit (renamed u places) x count read) ew
      (subst (λ (x : ℕ). AllFit (renamed x places) w' count read) eu fit)))
