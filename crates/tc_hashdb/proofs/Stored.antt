-- Puts and outs as steps of the map.
use Rattle.std.proofs.Common.{rules, ◌≡◌, ◌∙◌, ℕ, ◌≤◌, ◌<◌, Bool, true, false, cond, List, [], ◌∷◌, ◌++◌, length, refl, sym, ap, subst, inl}
use Rattle.std.specs.Prelude.{IfSome, IsSome, Option, Some, None, option_map, is_some, unwrap_or, nat_le}
use Rattle.std.specs.FinMap.{empty, get, insert, remove}
use Rattle.tc_base.specs.Maps.{Map}
use Rattle.tc_maps.proofs.Bytes.{size-empty}
use Rattle.tc_base.specs.declared.kind.Mode.{Mode}
use Rattle.tc_base.specs.declared.kind.Mode.TheVariants.{Over, Keep, Cat}
use Rattle.tc_space.specs.Changes.{is_in, out_of, put_in, put_value}
use Rattle.tc_space.specs.Frames.{In, Reads, Writes}
use Rattle.tc_space.specs.Stores.{IsReady, Only}
use Rattle.tc_space.specs.declared.space.Space.{Ghosts}
use Rattle.tc_hash.specs.declared.hash.Hash.{Hash}
use Rattle.tc_hash.specs.declared.put.Put.{Put}
use Rattle.tc_hash.specs.declared.put.Put.TheVariants as put
use Rattle.tc_hash.specs.Creating.{Clears}
use Rattle.tc_hash.specs.Keeping.{SameMap, SameShape, ShowsRegion, StaysOpen, file_of, holds}
use Rattle.tc_hash.specs.Putting.{Answers, LacksWithin, StoresWithin, TakesLen}
use Rattle.tc_model.specs.Maps.{with_value, without}
use Rattle.tc_hashdb.specs.declared.holding.HashEngine.{HashEngine}
use Rattle.tc_hashdb.specs.Changing.{KeepsHead, LacksRoomFor, Step, Takes, after, head_open, stored_in}
use Rattle.tc_hashdb.specs.Counting.{IsCountedWithout}
use Rattle.tc_hashdb.specs.Filling.{FillsMap}
use Rattle.tc_hashdb.specs.Holding.{Means}
use Rattle.tc_hashdb.specs.Layouts.{lead_of}
use Rattle.tc_hashdb.specs.Laying.{none_leads}
use Rattle.tc_hashdb.proofs.Counted.{counts_out}
use Rattle.tc_hashdb.proofs.Filled.{fills_up}
use Rattle.tc_hashdb.proofs.Kept.{Counts, in_of, reads_again, shows_still, writes_again}

-- ---- values that may be stored

le_true : (n : ℕ) → n ≤ 16777216 → nat_le n 16777216 ≡ true
le_true n le = search (rules, le)

le_false : (n : ℕ) → 16777216 < n → nat_le n 16777216 ≡ false
le_false n lt = search (rules, lt)

value_allowed : (m : Map) (key v : List ℕ) → length v ≤ 16777216 → with_value m key v ≡ Some (insert m key v)
value_allowed m key v le = ap (λ b. option_map (insert m key) (cond b (Some v) None)) (le_true (length v) le)

value_too_long : (m : Map) (key v : List ℕ) → 16777216 < length v → with_value m key v ≡ None
value_too_long m key v lt = ap (λ b. option_map (insert m key) (cond b (Some v) None)) (le_false (length v) lt)

-- ---- the step

pub stored_put : (mode : Mode) (m : Map) (key value : List ℕ) → (mode ≡ Keep → get m key ≡ None) → length (put_value mode (get m key) value) ≤ 16777216 → stored_in mode key value m ≡ Some (put_in mode key value m)
stored_put Over m key value free le = value_allowed m key value le
stored_put Keep m key value free le = ap (λ o. cond (is_some o) None (with_value m key value)) (free refl) ∙ value_allowed m key value le
stored_put Cat m key value free le = value_allowed m key (unwrap_or (get m key) [] ++ value) le

pub stored_held : (mode : Mode) (m : Map) (key value : List ℕ) → mode ≡ Keep → IsSome (get m key) → stored_in mode key value m ≡ None
stored_held Over m key value keep some = absurd cc
stored_held Keep m key value keep some = ap (λ b. cond b None (with_value m key value)) some
stored_held Cat m key value keep some = absurd cc

keep_none : (b : Bool) (o : Option Map) → o ≡ None → cond b None o ≡ None
keep_none true o is = refl
keep_none false o is = is

pub stored_long : (mode : Mode) (m : Map) (key value : List ℕ) → 16777216 < length (put_value mode (get m key) value) → stored_in mode key value m ≡ None
stored_long Over m key value lt = value_too_long m key value lt
stored_long Keep m key value lt = keep_none (is_some (get m key)) (with_value m key value) (value_too_long m key value lt)
stored_long Cat m key value lt = value_too_long m key (unwrap_or (get m key) [] ++ value) lt

module _ {S : Type 0} (s : Ghosts S) where
  -- ---- what fails changes nothing

  pub takes_nothing : (f : Step) (v v' : HashEngine S) (a b : S) → KeepsHead v v' → Reads s (Means s) v v' a b → ((m : Map) → Means s v a m → f m ≡ None) → Takes s f false v v' a b
  takes_nothing f v v' a b head reads none = record {
    sound = reads.sound;
    others = record { same = λ t g other. reads.now t g };
    numbers = head;
    made = λ yes. absurd cc;
    fails = λ no m means. none m means;
    same = λ no. reads;
  }

  held_true : (key : List ℕ) (m : Map) (taken : Bool) → taken ≡ is_in key m → taken ≡ true → without m key ≡ Some (remove m key)
  held_true key m taken is so = ap (λ b. cond b (Some (remove m key)) None) (sym is ∙ so)

  held_false : (key : List ℕ) (m : Map) (taken : Bool) → taken ≡ is_in key m → taken ≡ false → without m key ≡ None
  held_false key m taken is so = ap (λ b. cond b (Some (remove m key)) None) (sym is ∙ so)

  pub takes_of : (f : Step) (g : Map → Map) (v w : HashEngine S) (a b : S) → KeepsHead v w → Writes s (Only 0) (Means s) g v w a b → ((m : Map) → Means s v a m → f m ≡ Some (g m)) → Takes s f true v w a b
  takes_of f g v w a b head writes is = record {
    sound = writes.sound;
    others = writes.others;
    numbers = head;
    made = λ yes m means. (g m, is m means, writes.means m means);
    fails = λ no. absurd cc;
    same = λ no. absurd cc;
  }

  -- ---- puts

  pub takes_put : (mode : Mode) (key value : List ℕ) (was : Option ℕ) (v w : HashEngine S) (a b : S) → IsReady s (Means s) v a → StoresWithin s mode key value 16777216 was v.hash w.hash a b → StaysOpen v.hash w.hash
      → ((m : Map) → Means s v a m → Counts w.total (put_in mode key value m)) → Takes s (stored_in mode key value) true v w a b
  takes_put mode key value was v w a b ready stores stays counted = takes_of (stored_in mode key value) (put_in mode key value) v w a b (head_open v w stays)
      (writes_again s (put_in mode key value) v w a b ready stores.puts.0.writes stays.map.file stays.map.sort_same counted (λ m means. shows_still s v w.hash a b m means stays.map.region_same stores.puts.1.front))
      (λ m means. stored_put mode m key value (λ keep. stores.puts.0.absent keep m (in_of s v a m means)) (stores.fits m (in_of s v a m means)))

  -- what wasn't stored is held and to be kept, or has too many bytes
  pub takes_no_put : (mode : Mode) (key value : List ℕ) (p : Put) (v w : HashEngine S) (a b : S) → ((was : Option ℕ) → p ≡ put.Stored was → ⊥) → Answers s mode key value 16777216 p v.hash w.hash a b → StaysOpen v.hash w.hash → w.total ≡ v.total → Takes s (stored_in mode key value) false v w a b
  takes_no_put mode key value (put.Stored was) v w a b other x stays total = absurd (other was refl)
  takes_no_put mode key value put.Held v w a b other x stays total = takes_nothing (stored_in mode key value) v w a b (head_open v w stays) (reads_again s v w a b x.reads stays.map.file stays.map.sort_same stays.map.region_same total) (λ m means. stored_held mode m key value x.keep (x.there m (in_of s v a m means)))
  takes_no_put mode key value put.TooLong v w a b other x stays total = takes_nothing (stored_in mode key value) v w a b (head_open v w stays) (reads_again s v w a b x.looks stays.map.file stays.map.sort_same stays.map.region_same total) (λ m means. stored_long mode m key value (x.long m (in_of s v a m means)))

  pub stored_so : (mode : Mode) (key value : List ℕ) (most : ℕ) (p : Put) (was : Option ℕ) (h h' : Hash S) (a b : S) → p ≡ put.Stored was → Answers s mode key value most p h h' a b → StoresWithin s mode key value most was h h' a b
  stored_so mode key value most p was h h' a b e x = subst (λ q. Answers s mode key value most q h h' a b) e x

  pub lacks_put : (mode : Mode) (key value : List ℕ) (v : HashEngine S) (a b : S) → LacksWithin s mode key value 16777216 v.hash a b → LacksRoomFor s (stored_in mode key value) v a b
  lacks_put mode key value v a b lacks = record {
    by = λ m means.
        let held = in_of s v a m means in
        subst (λ n. FillsMap s b m n) (sym (ap (λ o. unwrap_or o m) (stored_put mode m key value (λ keep. lacks.lacks.free keep m held) (lacks.fits m held))))
        (fills_up s mode key value v.hash a b m means.1.file held lacks.lacks.block);
  }

  -- ---- outs

  pub takes_out : (key : List ℕ) (old long : ℕ) (v w : HashEngine S) (a b : S) → IsReady s (Means s) v a → TakesLen s key (Some old) v.hash w.hash a b → StaysOpen v.hash w.hash → long ≡ length key → IfSome w.total (λ n. IsCountedWithout long (Some old) v.total n) → Takes s (λ m. without m key) true v w a b
  takes_out key old long v w a b ready takes stays is_long counted = takes_of (λ m. without m key) (out_of key) v w a b (head_open v w stays)
      (writes_again s (out_of key) v w a b ready (takes.out.out refl) stays.map.file stays.map.sort_same (λ m means. counts_out v.total w.total m key long old is_long (takes.was_is m (in_of s v a m means)) means.1.counted counted)
      (λ m means. shows_still s v w.hash a b m means stays.map.region_same (takes.own refl m (in_of s v a m means)).takes.front))
      (λ m means. held_true key m true (takes.out.held m (in_of s v a m means)) refl)

  pub takes_none : (key : List ℕ) (v w : HashEngine S) (a b : S) → TakesLen s key None v.hash w.hash a b → StaysOpen v.hash w.hash → w.total ≡ v.total → Takes s (λ m. without m key) false v w a b
  takes_none key v w a b takes stays total = takes_nothing (λ m. without m key) v w a b (head_open v w stays) (reads_again s v w a b (takes.out.none refl) stays.map.file stays.map.sort_same stays.map.region_same total) (λ m means. held_false key m false (takes.out.held m (in_of s v a m means)) refl)

  pub takes_cleared : (v w : HashEngine S) (a b : S) → IsReady s (Means s) v a → Writes s (Only (file_of v.hash)) (In s file_of holds) (λ m. empty) v.hash w.hash a b → SameMap v.hash w.hash → SameShape v.hash w.hash → Clears s v.hash w.hash b → w.total ≡ Some 0 → Takes s (λ m. Some empty) true v w a b
  takes_cleared v w a b ready writes stays shape clears total = takes_of (λ m. Some empty) (λ m. empty) v w a b (record {
    same = λ i. (shape.options i ∷ shape.apow i ∷ shape.fpow i ∷ shape.buckets i ∷ []) ++ stays.region_same i;
    lead = none_leads w.hash.body.head (lead_of v.hash.body.head) clears.is_new;
  })
      (writes_again s (λ m. empty) v w a b ready writes stays.file shape.kind (λ m means. subst (λ o. Counts o empty) (sym total) (sym size-empty)) (λ m means. subst (λ f. ShowsRegion w.hash (s.now b f)) means.1.file (clears.region means.0)))
      (λ m means. refl)

  -- the undo log is full
  pub lacks_log : (f : Step) (v : HashEngine S) (a b : S) → (s.tells → s.log_full b) → LacksRoomFor s f v a b
  lacks_log f v a b full = record { by = λ m means. inl (full means.0) }

  -- ---- a step that was made, or that left all as it was

  pub takes_writes : (f : Step) (done : Bool) (v v' : HashEngine S) (a b : S) → Takes s f done v v' a b → Writes s (Only 0) (Means s) (after f) v v' a b
  takes_writes f true v v' a b takes = record {
    sound = takes.sound;
    means = λ m means. let made = takes.made refl m means in subst (λ n. Means s v' b n) (sym (ap (λ o. unwrap_or o m) made.1)) made.2;
    others = takes.others;
  }
  takes_writes f false v v' a b takes = record {
    sound = takes.sound;
    means = λ m means. subst (λ n. Means s v' b n) (sym (ap (λ o. unwrap_or o m) (takes.fails refl m means))) ((takes.same refl).means m means);
    others = takes.others;
  }
