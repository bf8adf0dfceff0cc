-- Values set, one key after the other.
use Rattle.std.proofs.Common.{◌≡◌, ◌∙◌, ℕ, List, [], ◌∷◌, ◌++◌, refl, sym, ap, subst, append_assoc}
use Rattle.std.proofs.lemmas.List.{append-nil}
use Rattle.std.specs.FinMap.{entries}
use Rattle.std.specs.List.Sorted.{IsStrictlySortedBy}
use Rattle.std.specs.Map.{keys_of}
use Rattle.tc_base.specs.Maps.{Map}
use Rattle.tc_base.specs.Orders.{lexical}
use Rattle.tc_base.specs.declared.seq.Pair.{Pair}
use Rattle.std.specs.BTreeMap.{BTreeMap, IsOrdered}
use Rattle.tc_maps.specs.Sizes.{entries_on, map_seen}
use Rattle.tc_maps.proofs.Mapped.{same_entries}
use Rattle.tc_space.specs.Frames.{Keeps, Writes, keeps_refl, keeps_then, writes_then}
use Rattle.tc_space.specs.Stores.{IsReady, Only, ready_writes}
use Rattle.tc_space.specs.declared.space.Space.{Ghosts}
use Rattle.tc_hashdb.specs.declared.holding.HashEngine.{HashEngine}
use Rattle.tc_hashdb.specs.Changing.{KeepsHead, all_set, head_refl, head_then, last_values, set_entries, set_one}
use Rattle.tc_hashdb.specs.Filling.{FillsKey, FillsMap}
use Rattle.tc_hashdb.specs.Holding.{Means}
use Rattle.tc_hashdb.proofs.Several.{all_entries, fills_on, last_set, set_next}

abbrev Entry : Type 0
Entry = List ℕ × List ℕ

module _ {S : Type 0} (s : Ghosts S) where
  -- these entries were set, and those are left of all
  pub record SetSoFar (v u : HashEngine S) (a b : S) (all rest : List Entry) : Type 0 where
    pub done : List Entry
    pub split : all ≡ done ++ rest
    pub writes : Writes s (Only 0) (Means s) (λ m. set_entries m done) v u a b
    pub numbers : KeepsHead v u
    pub keeps : Keeps s a b

  pub set_start : (v : HashEngine S) (a : S) (all : List Entry) → s.sound a → SetSoFar v v a a all all
  set_start v a all sound = record {
    done = [];
    split = refl;
    writes = record { sound = sound; means = λ m means. means; others = record { same = λ t g other. refl } };
    numbers = head_refl v;
    keeps = keeps_refl s a;
  }

  pub set_ready : (v u : HashEngine S) (a b : S) (all rest : List Entry) → SetSoFar v u a b all rest → IsReady s (Means s) v a → IsReady s (Means s) u b
  set_ready v u a b all rest so_far ready = ready_writes s (Means s) (Only 0) (λ m. set_entries m so_far.done) v u a b so_far.writes ready

  pub set_more : (v u w : HashEngine S) (a b c : S) (all rest next : List Entry) (e : Entry) (key value : List ℕ) (h : SetSoFar v u a b all rest) → rest ≡ e ∷ next → key ≡ e.0 → value ≡ e.1 → Writes s (Only 0) (Means s) (λ m. set_one m key value) u w b c → KeepsHead u w → Keeps s b c → SetSoFar v w a c all next
  set_more v u w a b c all rest next e key value h is key_is value_is writes head keeps =
      let both = writes_then s (Means s) (Only 0) (λ m. set_entries m h.done) (λ m. set_one m key value) v u w a b c h.writes writes in
      record {
        done = h.done ++ e ∷ [];
        split = h.split ∙ (ap (λ l. h.done ++ l) is ∙ sym (append_assoc h.done (e ∷ []) next));
        writes = record {
          sound = both.sound;
          others = both.others;
          means = λ m means. subst (λ n. Means s w c n) ((λ i. set_one (set_entries m h.done) (key_is i) (value_is i)) ∙ sym (set_next h.done e m)) (both.means m means);
        };
        numbers = head_then v u w h.numbers head;
        keeps = keeps_then s a b c h.keeps keeps;
      }

  pub set_end : (v u : HashEngine S) (a b : S) (all rest : List Entry) (m : Map) (h : SetSoFar v u a b all rest) → rest ≡ [] → all ≡ entries_on [] m → Writes s (Only 0) (Means s) (λ n. set_entries n (entries m)) v u a b
  set_end v u a b all rest m h none is = subst (λ l. Writes s (Only 0) (Means s) (λ n. set_entries n l) v u a b)
      (sym (append-nil h.done) ∙ (ap (λ l. h.done ++ l) (sym none) ∙ (sym h.split ∙ (is ∙ all_entries m))))
      h.writes

  pub set_full : (v u : HashEngine S) (a b c : S) (all rest next : List Entry) (e : Entry) (key value : List ℕ) (n : Map) (h : SetSoFar v u a b all rest) → rest ≡ e ∷ next → key ≡ e.0 → value ≡ e.1 → all ≡ entries_on [] n → IsStrictlySortedBy lexical (keys_of all) → ((m : Map) → Means s u b m → FillsKey s c m key value) → (m : Map) → Means s v a m → FillsMap s c m (set_entries m (entries n))
  set_full v u a b c all rest next e key value n h is key_is value_is all_is rising full m means =
      subst (λ l. FillsMap s c m (set_entries m l)) (all_is ∙ all_entries n)
      (fills_on (s.limit c 0) (s.log_full c) (s.brought c) (s.now c 0) all h.done next e m rising (h.split ∙ ap (λ l. h.done ++ l) is)
      (subst (λ k. FillsKey s c (set_entries m h.done) k e.1) key_is (subst (λ w. FillsKey s c (set_entries m h.done) key w) value_is (full (set_entries m h.done) (h.writes.means m means)))))

  -- ---- the last value of each key

  pub writes_last : (v u : HashEngine S) (a b : S) (pairs : List Pair) (m : Map) → m ≡ last_values pairs → IsStrictlySortedBy lexical (keys_of (entries m)) → Writes s (Only 0) (Means s) (λ n. set_entries n (entries m)) v u a b → Writes s (Only 0) (Means s) (all_set pairs) v u a b
  writes_last v u a b pairs m is rising writes = record {
    sound = writes.sound;
    others = writes.others;
    means = λ n means. subst (λ x. Means s u b x) (ap (λ x. set_entries n (entries x)) is ∙ last_set pairs n (subst (λ x. IsStrictlySortedBy lexical (keys_of (entries x))) is rising)) (writes.means n means);
  }

  pub full_last : (c : S) (pairs : List Pair) (m n : Map) → m ≡ last_values pairs → IsStrictlySortedBy lexical (keys_of (entries m)) → FillsMap s c n (set_entries n (entries m)) → FillsMap s c n (all_set pairs n)
  full_last c pairs m n is rising full = subst (λ x. FillsMap s c n x) (ap (λ x. set_entries n (entries x)) is ∙ last_set pairs n (subst (λ x. IsStrictlySortedBy lexical (keys_of (entries x))) is rising)) full

-- the keys that an ordered map is seen to have rise
pub rising_seen : (b : BTreeMap (List ℕ) (List ℕ)) (m : Map) → m ≡ map_seen b → IsOrdered lexical b → IsStrictlySortedBy lexical (keys_of (entries m))
rising_seen b m is sorted = subst (λ x. IsStrictlySortedBy lexical (keys_of (entries x))) (sym is) (subst (λ l. IsStrictlySortedBy lexical (keys_of l)) (sym (same_entries b.entries sorted)) sorted)
