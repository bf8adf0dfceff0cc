-- Pairs stored one after the other: all, or none.
use Rattle.std.proofs.Common.{rules, ◌≡◌, ◌∙◌, ℕ, ◌≤◌, Bool, true, false, ◌&&◌, cond, List, [], ◌∷◌, take, refl, sym, ap, subst}
use Rattle.std.specs.Prelude.{Option, Some, None, option_map, option_and_then, is_some, unwrap_or, max, nat_le, fold}
use Rattle.std.specs.FinMap.{insert}
use Rattle.tc_base.specs.declared.seq.Pair.{Pair}
use Rattle.tc_base.specs.declared.kind.Mode.TheVariants.{Over}
use Rattle.tc_space.specs.Frames.{Writes}
use Rattle.tc_space.specs.Stores.{Only}
use Rattle.tc_space.specs.declared.space.Space.{Ghosts}
use Rattle.tc_model.specs.Arrays.{Array, as_id, greatest, id_of, least, number_named, with_cell}
use Rattle.tc_model.specs.Contents.{Contents, fixed}
use Rattle.tc_model.specs.Stores.{store}
use Rattle.tc_engine.specs.Changes.{all_stored}
use Rattle.tc_engine.specs.Effects.{IsFull, Makes}
use Rattle.tc_fixed.specs.declared.fixed.Fixed.{Fixed}
use Rattle.tc_fixed.specs.Cells.{end_of}
use Rattle.tc_fixed.specs.Holding.{HasNoRoom, Means, SameShape, max_id_of, width_of}
use Rattle.tc_fixeddb.specs.declared.holding.FixedEngine.{FixedEngine}
use Rattle.tc_fixeddb.specs.Changing.{AllNamed, all_set, set_at}
use Rattle.tc_fixeddb.specs.Layouts.{layout_of}
use Rattle.tc_fixeddb.specs.Holding.{Fills, HoldsIds}
use Rattle.tc_fixeddb.specs.Lifting.{as_contents, full_up, made_up}
use Rattle.tc_fixeddb.specs.Naming.{all_named, is_named, least_with}
use Rattle.tc_fixeddb.proofs.Asked.{fails, takes_writes}
use Rattle.tc_fixeddb.proofs.Ends.{Positive, greatest_with, least_inserted, positive_with}
use Rattle.tc_fixeddb.proofs.Stored.{cut_allowed}

abbrev storing : Option Contents → List Pair → Option Contents
storing o ps = fold (λ o p. option_and_then (λ c. store Over c p.key p.value) o) o ps

storing_none : (ps : List Pair) → storing None ps ≡ None
storing_none [] = refl
storing_none (p ∷ ps) = storing_none ps

le_from : (m n : ℕ) → nat_le m n ≡ true → m ≤ n
le_from m n e = search (rules, e)

left_of : (a b : Bool) → (a && b) ≡ true → a ≡ true
left_of true b e = refl
left_of false b e = e

some_id : (n id : ℕ) (b : Bool) → (b ≡ true → 1 ≤ n) → cond b (Some n) None ≡ Some id → 1 ≤ id
some_id n id true one is = subst (λ k. 1 ≤ k) (ap (λ o. unwrap_or o n) is) (one refl)
some_id n id false one is = let never : false ≡ true = ap is_some is in absurd cc

one_at_least : (most n id : ℕ) → as_id most n ≡ Some id → 1 ≤ id
one_at_least most n id is = some_id n id (nat_le 1 n && nat_le n most) (λ e. le_from 1 n (left_of (nat_le 1 n) (nat_le n most) e)) is

module _ {S : Type 0} (f : Fixed S) (small : width_of f ≤ 1048576) where
  abbrev IsStoredBy : List Pair → Array → Type 0
  IsStoredBy ps m = storing (Some (as_contents f m)) ps ≡ cond (all_named (max_id_of f) (least m) (greatest m) ps) (Some (as_contents f (all_set (width_of f) (max_id_of f) ps m))) None

  -- one pair, and those behind it
  stored_on : (m : Array) (p : Pair) (ps : List Pair) → Positive m → ((n : Array) → Positive n → IsStoredBy ps n) → (o : Option ℕ) → id_of (max_id_of f) m p.key ≡ o → storing (option_map (fixed (width_of f) (max_id_of f)) (option_and_then (λ id. with_cell (width_of f) m id p.value) o)) ps
      ≡ cond (is_named o (λ id. all_named (max_id_of f) (least_with (least m) id) (max (greatest m) id) ps)) (Some (as_contents f (all_set (width_of f) (max_id_of f) ps (set_at (width_of f) m o p.value)))) None
  stored_on m p ps some rest None is = storing_none ps
  stored_on m p ps some rest (Some id) is =
      let n : Array = insert m id (take (width_of f) p.value) in
      ap (λ x. storing (option_map (fixed (width_of f) (max_id_of f)) x) ps) (cut_allowed (width_of f) m id p.value small)
      ∙ (rest n (positive_with m id (take (width_of f) p.value) (one_at_least (max_id_of f) (number_named m p.key) id is) some)
      ∙ (λ i. cond (all_named (max_id_of f) (least_inserted m id (take (width_of f) p.value) some i) (greatest_with m id (take (width_of f) p.value) i) ps) (Some (as_contents f (all_set (width_of f) (max_id_of f) ps n))) None))

  stored_each : (ps : List Pair) (m : Array) → Positive m → IsStoredBy ps m
  stored_each [] m some = refl
  stored_each (p ∷ ps) m some = stored_on m p ps some (λ n more. stored_each ps n more) (id_of (max_id_of f) m p.key) refl

module _ {S : Type 0} (s : Ghosts S) where
  each_is : (e : FixedEngine S) (a : S) (pairs texts : List Pair) (b : Bool) → texts ≡ pairs → AllNamed e.fixed texts b → (m : Array) → Means s e.fixed a m → all_stored pairs (as_contents e.fixed m) ≡ cond b (Some (as_contents e.fixed (all_set (width_of e.fixed) (max_id_of e.fixed) pairs m))) None
  each_is e a pairs texts b same names m means =
      stored_each e.fixed means.1.shape.width_most pairs m (λ id held. (means.1.fills.map.within id held).0)
      ∙ ap (λ x. cond x (Some (as_contents e.fixed (all_set (width_of e.fixed) (max_id_of e.fixed) pairs m))) None) (ap (all_named (max_id_of e.fixed) (least m) (greatest m)) (sym same) ∙ sym (names.by (s.now a 0) m means.1))

  pub stores_none : (e : FixedEngine S) (a : S) (pairs texts : List Pair) (b : Bool) → s.sound a → texts ≡ pairs → AllNamed e.fixed texts b → b ≡ false → Makes s (Only 0) layout_of HoldsIds (all_stored pairs) false e e a a
  stores_none e a pairs texts b sound same names not = made_up s (all_stored pairs) (λ m. None) false e e a a (fails s e.fixed a sound) (λ m means. record { is = each_is e a pairs texts b same names m means ∙ ap (λ x. cond x (Some (as_contents e.fixed (all_set (width_of e.fixed) (max_id_of e.fixed) pairs m))) None) not })

  pub stores_all : (e e' : FixedEngine S) (a b : S) (pairs texts others : List Pair) (t : Bool) → texts ≡ pairs → others ≡ pairs → AllNamed e.fixed texts t → t ≡ true → Writes s (Only 0) (Means s) (all_set (width_of e.fixed) (max_id_of e.fixed) others) e.fixed e'.fixed a b → SameShape e.fixed e'.fixed → Makes s (Only 0) layout_of HoldsIds (all_stored pairs) true e e' a b
  stores_all e e' a b pairs texts others t same again names is writes shape = made_up s (all_stored pairs) (λ m. Some (all_set (width_of e.fixed) (max_id_of e.fixed) others m)) true e e' a b (takes_writes s (all_set (width_of e.fixed) (max_id_of e.fixed) others) e.fixed e'.fixed a b writes shape)
      (λ m means. record { is = each_is e a pairs texts t same names m means ∙ ap (λ x. cond x (Some (as_contents e.fixed (all_set (width_of e.fixed) (max_id_of e.fixed) pairs m))) None) is ∙ ap (λ ps. Some (as_contents e.fixed (all_set (width_of e.fixed) (max_id_of e.fixed) ps m))) (sym again) })

  pub store_all_full : (e : FixedEngine S) (a b : S) (pairs texts others : List Pair) (t : Bool) → texts ≡ pairs → others ≡ pairs → AllNamed e.fixed texts t → t ≡ true → ((m : Array) → Means s e.fixed a m → HasNoRoom (s.limit b 0) (s.log_full b) (end_of (width_of e.fixed) (greatest (all_set (width_of e.fixed) (max_id_of e.fixed) others m)))) → IsFull s HoldsIds (λ x y. Fills s) (all_stored pairs) e a b
  store_all_full e a b pairs texts others t same again names is full = full_up s (all_stored pairs) (λ m. Some (all_set (width_of e.fixed) (max_id_of e.fixed) others m)) e a b (record { by = λ m means. (all_set (width_of e.fixed) (max_id_of e.fixed) others m, refl, full m means) })
      (λ m means. record { is = each_is e a pairs texts t same names m means ∙ ap (λ x. cond x (Some (as_contents e.fixed (all_set (width_of e.fixed) (max_id_of e.fixed) pairs m))) None) is ∙ ap (λ ps. Some (as_contents e.fixed (all_set (width_of e.fixed) (max_id_of e.fixed) ps m))) (sym again) })
