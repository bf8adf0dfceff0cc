-- Ids that are listed.
use Rattle.std.proofs.Common.{◌≡◌, ◌∙◌, ℕ, ◌≤◌, ◌<◌, ◌^◌, ◌-◌, ◌/◌, true, ◌&&◌, List, [], ◌∷◌, ◌++◌, map, filter, length, refl, sym, ap, arith}
use Rattle.std.specs.Prelude.{Option, IsSome, nat_eq, nat_le, nat_lt}
use Rattle.std.proofs.Math.Nat.{div-le_self}
use Rattle.std.specs.List.{starts_with}
use Rattle.std.specs.Fmt.{decimal}
use Rattle.std.specs.FinMap.{contains_key-keys, get, keys}
use Rattle.tc_space.specs.declared.space.Space.{Ghosts}
use Rattle.tc_model.specs.Arrays.{Array}
use Rattle.tc_model.specs.Apply.{keys_from}
use Rattle.tc_model.specs.Contents.{Contents}
use Rattle.tc_model.specs.Stores.{all_keys}
use Rattle.ty_base.specs.Holding.{Held}
use Rattle.hf_head.specs.FixedHeads.{cell}
use Rattle.tc_fixed.specs.Holding.{Means}
use Rattle.tc_fixed.specs.Listing as listing
use Rattle.tc_fixed.specs.Listing.{ids_in}
use Rattle.tc_engine.specs.Changes.{first_of}
use Rattle.tc_fixeddb.specs.declared.holding.FixedEngine.{FixedEngine}
use Rattle.tc_fixeddb.specs.Holding.{HoldsIds}
use Rattle.tc_fixeddb.specs.Lifting.{means_of}
use Rattle.tc_fixeddb.proofs.Fronts.{begins_not, front_is}
use Rattle.tc_fixeddb.proofs.Joining.{all_pass, le_is, lt_is, map_filter, map_first, no_texts, none_pass}

-- an id that is held is small
held_small : {S : Type 0} (s : Ghosts S) (e : FixedEngine S) (a : S) (m : Array) (id : ℕ) → Means s e.fixed a m → IsSome (get m id) → id ≤ 2 ^ 40
held_small s e a m id means some =
    let last : id ≤ e.fixed.tally.greatest = (means.1.fills.map.within id some).1 in
    let allowed : e.fixed.tally.greatest ≤ (e.fixed.limit - 256) / cell e.fixed.width = means.1.shape.allowed in
    let less : (e.fixed.limit - 256) / cell e.fixed.width ≤ e.fixed.limit - 256 = div-le_self (e.fixed.limit - 256) (cell e.fixed.width) in
    let limit : e.fixed.limit ≤ 2 ^ 40 = means.1.shape.limit_most in
    omega (arith, last, allowed, less, limit)

module _ {S : Type 0} (s : Ghosts S) (e : FixedEngine S) (a : S) (most : Option ℕ) where
  pub all_listed : (before after : List ℕ) → before ≡ [] → ((m : Array) → Means s e.fixed a m → after ≡ before ++ listing.first_of most (ids_in m 0 (2 ^ 64 - 1))) → (c : Contents) → Held s HoldsIds e a c → map (λ id. decimal id) after ≡ first_of most (all_keys c)
  all_listed before after none listed c h =
      let m : Array = h.1.ids in
      let all : ids_in m 0 (2 ^ 64 - 1) ≡ keys m = all_pass (λ id. nat_le 0 id && nat_lt id (2 ^ 64 - 1)) (keys m) (λ q any.
      ap (λ b. nat_le 0 q && b) (lt_is q (2 ^ 64 - 1) (omega (arith, held_small s e a m q (means_of s e a c h) (contains_key-keys m q ∙ any)))) ∙ ap (λ b. b && true) (le_is 0 q (omega arith))) in
      ap (map (λ id. decimal id)) (listed m (means_of s e a c h) ∙ (ap (λ (l : List ℕ). l ++ listing.first_of most (ids_in m 0 (2 ^ 64 - 1))) none ∙ ap (listing.first_of most) all))
      ∙ (map_first (λ id. decimal id) most (keys m) ∙ ap (λ d. first_of most (all_keys d)) (sym h.1.is))

  -- those that begin with the text of a number
  pub beginning_listed : (p found : List ℕ) (n : ℕ) → p ≡ decimal n → ((m : Array) → Means s e.fixed a m → found ≡ listing.first_of most (filter (λ id. starts_with nat_eq (decimal id) (decimal n)) (keys m))) → (c : Contents) → Held s HoldsIds e a c → map (λ id. decimal id) found ≡ first_of most (keys_from c p)
  beginning_listed p found n spelled listed c h =
      let m : Array = h.1.ids in
      ap (map (λ id. decimal id)) (listed m (means_of s e a c h))
      ∙ (map_first (λ id. decimal id) most (filter (λ id. starts_with nat_eq (decimal id) (decimal n)) (keys m))
      ∙ ap (first_of most) (map_filter (λ id. decimal id) (λ t. starts_with nat_eq t (decimal n)) (keys m) ∙ (λ i. keys_from (sym h.1.is i) (sym spelled i))))

  -- and none where the prefix is that of no id
  pub none_listed : (p found : List ℕ) → 0 < length p → ((n : ℕ) → 1 ≤ n → n ≤ 2 ^ 40 → p ≡ decimal n → ⊥) → found ≡ [] → (c : Contents) → Held s HoldsIds e a c → map (λ id. decimal id) found ≡ first_of most (keys_from c p)
  none_listed p found some other none c h =
      let m : Array = h.1.ids in
      let no_id : filter (λ id. starts_with nat_eq (decimal id) p) (keys m) ≡ [] = none_pass (λ id. starts_with nat_eq (decimal id) p) (keys m) (λ q any.
      let held : IsSome (get m q) = contains_key-keys m q ∙ any in
      let small : q ≤ 2 ^ 40 = held_small s e a m q (means_of s e a c h) held in
      let one : 1 ≤ q = ((means_of s e a c h).1.fills.map.within q held).0 in
      begins_not (decimal q) p (λ front. let is = front_is p q one (omega (arith, small)) some front in other is.0 is.2 (omega (arith, is.3, small)) is.1)) in
      ap (map (λ id. decimal id)) none
      ∙ (no_texts most ∙ ap (first_of most) (sym (ap (λ d. keys_from d p) h.1.is ∙ (sym (map_filter (λ id. decimal id) (λ t. starts_with nat_eq t p) (keys m)) ∙ ap (map (λ id. decimal id)) no_id))))

each_begins : (ts : List (List ℕ)) → filter (λ t. starts_with nat_eq t []) ts ≡ ts
each_begins [] = refl
each_begins (t ∷ ts) = ap (λ l. t ∷ l) (each_begins ts)

pub whole_prefix : (c : Contents) (p : List ℕ) → length p ≡ 0 → all_keys c ≡ keys_from c p
whole_prefix c [] none = sym (each_begins (all_keys c))
whole_prefix c (b ∷ p) none = absurd (omega (arith, none))
