-- Calls on the array, as the trait of engines says them.
use Rattle.std.specs.Prelude.{◌≡◌, ℕ, Bool, true, false, cond, List, Some, None, option_map, option_and_then, is_some, unwrap_or, nat_le, ◌&&◌}
use Rattle.std.proofs.Common.{◌∙◌, sym, ap, subst, inl, inr, ⊎_elim}
use Rattle.std.specs.FinMap.{get}
use Rattle.std.specs.Fmt.{decimal}
use Rattle.tc_space.specs.Frames.{Reads, Refuses}
use Rattle.tc_space.specs.Stores as stores
use Rattle.tc_space.specs.Stores.{Only}
use Rattle.tc_space.specs.declared.space.Space.{Ghosts}
use Rattle.tc_model.specs.Arrays.{Array, id_of, named, number_named}
use Rattle.tc_model.specs.Contents.{Contents, fixed}
use Rattle.ty_base.specs.Holding.{Held, IsReady}
use Rattle.tc_engine.specs.Changes.{Change}
use Rattle.tc_engine.specs.Effects.{IsFull, Makes}
use Rattle.tc_fixed.specs.declared.fixed.Fixed.{Fixed}
use Rattle.tc_fixed.specs.Holding.{Means, SameShape, max_id_of, width_of}
use Rattle.tc_fixed.specs.Shapes.{most_id}
use Rattle.tc_fixeddb.specs.declared.holding.FixedEngine.{FixedEngine}
use Rattle.tc_fixeddb.specs.Changing.{LacksRoomFor, Step, Takes}
use Rattle.tc_fixeddb.specs.Layouts.{layout_of, no_numbers}
use Rattle.tc_fixeddb.specs.Holding.{Fills, HoldsIds, IsFound, Names}

module _ {S : Type 0} where
  -- ids in the shape of an array
  abbrev pub as_contents : Fixed S → Array → Contents
  as_contents f m = fixed (width_of f) (max_id_of f) m

  pub same_contents : (v v' : Fixed S) (m : Array) → SameShape v v' → as_contents v m ≡ as_contents v' m
  same_contents v v' m same = λ i. fixed (sym same.width i) (most_id (sym same.width i) (sym same.limit i)) m

  -- a change of contents is a step of the ids
  pub record IsStep (f : Fixed S) (change : Change) (step : Step) (m : Array) : Type 0 where
    pub is : change (as_contents f m) ≡ option_map (λ n. as_contents f n) (step m)

module _ {S : Type 0} (s : Ghosts S) where
  -- the ids that are held
  pub means_of : (e : FixedEngine S) (a : S) (c : Contents) (h : Held s HoldsIds e a c) → Means s e.fixed a (h.1.ids)
  means_of e a c h = (h.0, h.1.holds_them)

  pub held_again : (e e' : FixedEngine S) (b : S) (m : Array) → SameShape e.fixed e'.fixed → Means s e'.fixed b m → Held s HoldsIds e' b (as_contents e.fixed m)
  held_again e e' b m same means = (means.0, record { ids = m; is = same_contents e.fixed e'.fixed m same; holds_them = means.1 })

  pub ready_down : (e : FixedEngine S) (a : S) → IsReady s HoldsIds e a → stores.IsReady s (Means s) e.fixed a
  ready_down e a ready = record { sound = ready.sound; held = λ t. let h = ready.held t in (h.1.ids, (t, h.1.holds_them)) }

  pub reads_up : (e e' : FixedEngine S) (a b : S) → Reads s (Means s) e.fixed e'.fixed a b → SameShape e.fixed e'.fixed → Reads s (Held s HoldsIds) e e' a b
  reads_up e e' a b reads same = record {
    now = reads.now;
    touched = reads.touched;
    sound = reads.sound;
    means = λ c h. subst (λ d. Held s HoldsIds e' b d) (sym h.1.is) (held_again e e' b h.1.ids same (reads.means h.1.ids (means_of e a c h)));
  }

  pub refuses_up : (e e' : FixedEngine S) (a b : S) → Refuses s (Means s) e.fixed e'.fixed a b → SameShape e.fixed e'.fixed → Refuses s (Held s HoldsIds) e e' a b
  refuses_up e e' a b refuses same = ⊎_elim (λ spoiled. inl spoiled) (λ reads. inr (reads_up e e' a b reads same)) refuses

  pub made_up : (change : Change) (step : Step) (done : Bool) (e e' : FixedEngine S) (a b : S) → Takes s step done e.fixed e'.fixed a b → ((m : Array) → Means s e.fixed a m → IsStep e.fixed change step m) → Makes s (Only 0) layout_of HoldsIds change done e e' a b
  made_up change step done e e' a b takes is_step = record {
    sound = takes.sound;
    others = takes.others;
    numbered = λ c h. no_numbers (s.now a) (s.now b);
    made = λ yes c h.
        let made = takes.made yes h.1.ids (means_of e a c h) in
        (as_contents e.fixed made.0, ap change h.1.is ∙ (is_step h.1.ids (means_of e a c h)).is ∙ ap (option_map (λ n. as_contents e.fixed n)) made.1, held_again e e' b made.0 takes.shape made.2);
    fails = λ not c h. ap change h.1.is ∙ (is_step h.1.ids (means_of e a c h)).is ∙ ap (option_map (λ n. as_contents e.fixed n)) (takes.fails not h.1.ids (means_of e a c h));
    same = λ not. reads_up e e' a b (takes.same not) takes.shape;
  }

  pub full_up : (change : Change) (step : Step) (e : FixedEngine S) (a b : S) → LacksRoomFor s step e.fixed a b → ((m : Array) → Means s e.fixed a m → IsStep e.fixed change step m) → IsFull s HoldsIds (λ x y. Fills s) change e a b
  full_up change step e a b lacks is_step = record {
    by = λ c h.
        let less = lacks.by h.1.ids (means_of e a c h) in
        let after : change c ≡ Some (as_contents e.fixed less.0) = ap change h.1.is ∙ (is_step h.1.ids (means_of e a c h)).is ∙ ap (option_map (λ n. as_contents e.fixed n)) less.1 in
        subst (λ d. Fills s b c d) (sym (ap (λ o. unwrap_or o c) after)) less.2;
  }

-- ---- keys

some_is : (n id : ℕ) (b : Bool) → cond b (Some n) None ≡ Some id → n ≡ id
some_is n id true is = ap (λ o. unwrap_or o n) is
some_is n id false is = let never : false ≡ true = ap is_some is in absurd cc

-- the number that a key names is the id
pub number_is : (most : ℕ) (m : Array) (key : List ℕ) (id : ℕ) → Some id ≡ id_of most m key → decimal id ≡ named m key
number_is most m key id is = ap decimal (sym (some_is (number_named m key) id (nat_le 1 (number_named m key) && nat_le (number_named m key) most) (sym is)))

module _ {S : Type 0} (s : Ghosts S) where
  pub found_none : (e : FixedEngine S) (a : S) (key : List ℕ) → Names e.fixed key None → (c : Contents) → Held s HoldsIds e a c → IsFound c key None
  found_none e a key names c h = subst (λ d. IsFound d key None) (sym h.1.is) (record { value = ap (λ o. option_and_then (λ id. get h.1.ids id) o) (names.by (s.now a 0) h.1.ids h.1.holds_them); name = tt })

  -- nothing is held of an id that is named
  pub found_absent : (e : FixedEngine S) (a : S) (key : List ℕ) (id : ℕ) → Names e.fixed key (Some id) → ((m : Array) → Means s e.fixed a m → None ≡ get m id) → (c : Contents) → Held s HoldsIds e a c → IsFound c key None
  found_absent e a key id names none c h = subst (λ d. IsFound d key None) (sym h.1.is) (record {
    value = none h.1.ids (means_of s e a c h) ∙ ap (λ o. option_and_then (λ id. get h.1.ids id) o) (names.by (s.now a 0) h.1.ids h.1.holds_them);
    name = tt;
  })

  pub found_some : (e : FixedEngine S) (a : S) (key : List ℕ) (id : ℕ) (value : List ℕ) → Names e.fixed key (Some id) → ((m : Array) → Means s e.fixed a m → Some value ≡ get m id) → (c : Contents) → Held s HoldsIds e a c → IsFound c key (Some (id, value))
  found_some e a key id value names some c h = subst (λ d. IsFound d key (Some (id, value))) (sym h.1.is) (record {
    value = some h.1.ids (means_of s e a c h) ∙ ap (λ o. option_and_then (λ id. get h.1.ids id) o) (names.by (s.now a 0) h.1.ids h.1.holds_them);
    name = number_is (max_id_of e.fixed) h.1.ids key id (names.by (s.now a 0) h.1.ids h.1.holds_them);
  })
