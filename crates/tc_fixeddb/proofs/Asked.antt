-- Requests on keys as steps of the ids.
use Rattle.std.proofs.Common.{◌≡◌, ◌∙◌, ℕ, ◌≤◌, ◌<◌, Bool, true, false, cond, List, [], ◌∷◌, ◌++◌, length, map, refl, sym, ap, subst, arith}
use Rattle.std.specs.Prelude.{Option, Some, None, option_map, option_and_then, option_to_list, is_some, unwrap_or, fold}
use Rattle.std.specs.Fmt.{decimal}
use Rattle.tc_base.specs.Lists.{pair}
use Rattle.std.specs.FinMap.{empty, get, remove}
use Rattle.tc_base.specs.declared.seq.Pair.{Pair}
use Rattle.tc_base.specs.declared.kind.Mode.{Mode}
use Rattle.tc_base.specs.declared.kind.Mode.TheVariants.{Over, Keep, Cat}
use Rattle.tc_space.specs.Frames.{Writes, reads_refl}
use Rattle.tc_space.specs.Stores.{Only}
use Rattle.tc_space.specs.declared.space.Space.{Ghosts}
use Rattle.tc_model.specs.Arrays.{Array, id_of, with_cell}
use Rattle.tc_model.specs.Contents.{Contents, fixed}
use Rattle.tc_model.specs.Maps.{without}
use Rattle.tc_model.specs.Rows.{texts_of}
use Rattle.tc_model.specs.Stores.{all_pairs, clear, first_pair, put_last, replied}
use Rattle.ty_base.specs.Holding.{Held}
use Rattle.tc_engine.specs.Changes.{all_cleared, all_gone, all_pushed, stored, taken}
use Rattle.tc_engine.specs.Effects.{IsFull, Makes}
use Rattle.tc_engine.specs.Rows.{item_row}
use Rattle.tc_fixed.specs.declared.fixed.Fixed.{Fixed}
use Rattle.tc_fixed.specs.Holding.{Means, SameShape, max_id_of, width_of}
use Rattle.tc_fixeddb.specs.declared.holding.FixedEngine.{FixedEngine}
use Rattle.tc_fixeddb.specs.Changing.{LacksRoomFor, Takes, all_out, out_at, out_named, stored_at}
use Rattle.tc_fixeddb.specs.Layouts.{layout_of}
use Rattle.tc_fixeddb.specs.Holding.{Fills, HoldsIds, IsFound, Names}
use Rattle.tc_fixeddb.specs.Lifting.{IsStep, as_contents, full_up, made_up}

-- a branch that fails fails also behind a change of its answer
drawn_out : {A B : Type 0} (f : A → B) (b : Bool) (o : Option A) → cond b None (option_map f o) ≡ option_map f (cond b None o)
drawn_out f true o = refl
drawn_out f false o = refl

module _ {S : Type 0} where
  pub stored_step : (f : Fixed S) (mode : Mode) (m : Array) (key value : List ℕ) (id : ℕ) → id_of (max_id_of f) m key ≡ Some id → IsStep f (stored mode key value) (stored_at mode (width_of f) id value) m
  stored_step f Over m key value id is = record { is = ap (λ o. option_map (fixed (width_of f) (max_id_of f)) (option_and_then (λ k. with_cell (width_of f) m k value) o)) is }
  stored_step f Keep m key value id is = record {
    is = ap (λ o. cond (is_some (option_and_then (λ k. get m k) o)) None (option_map (fixed (width_of f) (max_id_of f)) (option_and_then (λ k. with_cell (width_of f) m k value) o))) is
        ∙ drawn_out (fixed (width_of f) (max_id_of f)) (is_some (get m id)) (with_cell (width_of f) m id value);
  }
  stored_step f Cat m key value id is = record { is = ap (λ o. option_map (fixed (width_of f) (max_id_of f)) (option_and_then (λ k. with_cell (width_of f) m k (unwrap_or (option_and_then (λ j. get m j) o) [] ++ value)) o)) is }

  pub unstored_step : (f : Fixed S) (mode : Mode) (m : Array) (key value : List ℕ) → id_of (max_id_of f) m key ≡ None → IsStep f (stored mode key value) (λ n. None) m
  unstored_step f Over m key value is = record { is = ap (λ o. option_map (fixed (width_of f) (max_id_of f)) (option_and_then (λ k. with_cell (width_of f) m k value) o)) is }
  unstored_step f Keep m key value is = record { is = ap (λ o. cond (is_some (option_and_then (λ k. get m k) o)) None (option_map (fixed (width_of f) (max_id_of f)) (option_and_then (λ k. with_cell (width_of f) m k value) o))) is }
  unstored_step f Cat m key value is = record { is = ap (λ o. option_map (fixed (width_of f) (max_id_of f)) (option_and_then (λ k. with_cell (width_of f) m k (unwrap_or (option_and_then (λ j. get m j) o) [] ++ value)) o)) is }

  pub taken_step : (f : Fixed S) (m : Array) (key : List ℕ) (id : ℕ) → id_of (max_id_of f) m key ≡ Some id → IsStep f (taken key) (λ n. without n id) m
  taken_step f m key id is = record { is = ap (λ o. option_map (fixed (width_of f) (max_id_of f)) (option_and_then (without m) o)) is }

module _ {S : Type 0} (s : Ghosts S) where
  named_now : (e : FixedEngine S) (a : S) (m : Array) (key text : List ℕ) (o : Option ℕ) → text ≡ key → Names e.fixed text o → Means s e.fixed a m → id_of (max_id_of e.fixed) m key ≡ o
  named_now e a m key text o same names means = ap (id_of (max_id_of e.fixed) m) (sym same) ∙ sym (names.by (s.now a 0) m means.1)

  pub stores : (e e' : FixedEngine S) (a b : S) (mode : Mode) (key text value : List ℕ) (id : ℕ) (done : Bool) → text ≡ key → Names e.fixed text (Some id) → Takes s (stored_at mode (width_of e.fixed) id value) done e.fixed e'.fixed a b → Makes s (Only 0) layout_of HoldsIds (stored mode key value) done e e' a b
  stores e e' a b mode key text value id done same names takes = made_up s (stored mode key value) (stored_at mode (width_of e.fixed) id value) done e e' a b takes (λ m means. stored_step e.fixed mode m key value id (named_now e a m key text (Some id) same names means))

  pub store_full : (e : FixedEngine S) (a b : S) (mode : Mode) (key text value : List ℕ) (id : ℕ) → text ≡ key → Names e.fixed text (Some id) → LacksRoomFor s (stored_at mode (width_of e.fixed) id value) e.fixed a b → IsFull s HoldsIds (λ x y. Fills s) (stored mode key value) e a b
  store_full e a b mode key text value id same names lacks = full_up s (stored mode key value) (stored_at mode (width_of e.fixed) id value) e a b lacks (λ m means. stored_step e.fixed mode m key value id (named_now e a m key text (Some id) same names means))

  pub takes_out : (e e' : FixedEngine S) (a b : S) (key text : List ℕ) (id : ℕ) (done : Bool) → text ≡ key → Names e.fixed text (Some id) → Takes s (λ m. without m id) done e.fixed e'.fixed a b → Makes s (Only 0) layout_of HoldsIds (taken key) done e e' a b
  takes_out e e' a b key text id done same names takes = made_up s (taken key) (λ m. without m id) done e e' a b takes (λ m means. taken_step e.fixed m key id (named_now e a m key text (Some id) same names means))

  pub clears : (e e' : FixedEngine S) (a b : S) (done : Bool) → Takes s (λ m. Some empty) done e.fixed e'.fixed a b → Makes s (Only 0) layout_of HoldsIds all_gone done e e' a b
  clears e e' a b done takes = made_up s all_gone (λ m. Some empty) done e e' a b takes (λ m means. record { is = refl })

  -- ---- what fails changes nothing

  pub fails : (v : Fixed S) (a : S) → s.sound a → Takes s (λ m. None) false v v a a
  fails v a sound = record {
    sound = sound;
    others = record { same = λ t g other. refl };
    shape = record { width = refl; limit = refl };
    made = λ done. absurd cc;
    fails = λ not m means. refl;
    same = λ not. reads_refl s (Means s) v a sound;
  }

  keeps_all : (v : Fixed S) (a : S) → s.sound a → Takes s (λ m. Some m) true v v a a
  keeps_all v a sound = record {
    sound = sound;
    others = record { same = λ t g other. refl };
    shape = record { width = refl; limit = refl };
    made = λ done m means. (m, refl, means);
    fails = λ not. absurd cc;
    same = λ not. absurd cc;
  }

  pub store_none : (e : FixedEngine S) (a : S) (mode : Mode) (key text value : List ℕ) → s.sound a → text ≡ key → Names e.fixed text None → Makes s (Only 0) layout_of HoldsIds (stored mode key value) false e e a a
  store_none e a mode key text value sound same names = made_up s (stored mode key value) (λ m. None) false e e a a (fails e.fixed a sound) (λ m means. unstored_step e.fixed mode m key value (named_now e a m key text None same names means))

  pushing_none : (ps : List Pair) → fold (λ o p. option_and_then (λ (c : Contents). put_last c p.key p.value) o) None ps ≡ None
  pushing_none [] = refl
  pushing_none (p ∷ ps) = pushing_none ps

  pub push_some : (e : FixedEngine S) (a : S) (ps : List Pair) → s.sound a → 0 < length ps → Makes s (Only 0) layout_of HoldsIds (all_pushed ps) false e e a a
  push_some e a [] sound some = absurd (omega (arith, some))
  push_some e a (p ∷ ps) sound some = made_up s (all_pushed (p ∷ ps)) (λ m. None) false e e a a (fails e.fixed a sound) (λ m means. record { is = pushing_none ps })

  pub push_no : (e : FixedEngine S) (a : S) (ps : List Pair) → s.sound a → length ps ≤ 0 → Makes s (Only 0) layout_of HoldsIds (all_pushed ps) true e e a a
  push_no e a [] sound none = made_up s (all_pushed []) (λ m. Some m) true e e a a (keeps_all e.fixed a sound) (λ m means. record { is = refl })
  push_no e a (p ∷ ps) sound none = absurd (omega (arith, none))

  -- ---- many

  cleared_one : (f : Fixed S) (m : Array) (key : List ℕ) → clear (as_contents f m) key ≡ as_contents f (out_named (max_id_of f) m key)
  cleared_one f m key = elim (id_of (max_id_of f) m key) as (λ o. unwrap_or (option_map (fixed (width_of f) (max_id_of f)) (option_and_then (without m) o)) (as_contents f m) ≡ as_contents f (out_at m o)) [
    | None ↦ refl
    | Some id ↦ elim (is_some (get m id)) as (λ b. unwrap_or (option_map (fixed (width_of f) (max_id_of f)) (cond b (Some (remove m id)) None)) (as_contents f m) ≡ as_contents f (cond b (remove m id) m)) [
      | true ↦ refl
      | false ↦ refl
    ]
  ]

  pub cleared_all : (f : Fixed S) (m : Array) (keys : List (List ℕ)) → fold clear (as_contents f m) keys ≡ as_contents f (all_out (max_id_of f) keys m)
  cleared_all f m [] = refl
  cleared_all f m (key ∷ keys) = ap (λ c. fold clear c keys) (cleared_one f m key) ∙ cleared_all f (out_named (max_id_of f) m key) keys

  pub takes_writes : (g : Array → Array) (v w : Fixed S) (a b : S) → Writes s (Only 0) (Means s) g v w a b → SameShape v w → Takes s (λ m. Some (g m)) true v w a b
  takes_writes g v w a b writes shape = record {
    sound = writes.sound;
    others = writes.others;
    shape = shape;
    made = λ done m means. (g m, refl, writes.means m means);
    fails = λ not. absurd cc;
    same = λ not. absurd cc;
  }

  pub clears_all : (e e' : FixedEngine S) (a b : S) (keys texts : List (List ℕ)) → texts ≡ keys → Writes s (Only 0) (Means s) (all_out (max_id_of e.fixed) texts) e.fixed e'.fixed a b → SameShape e.fixed e'.fixed → Makes s (Only 0) layout_of HoldsIds (all_cleared keys) true e e' a b
  clears_all e e' a b keys texts same writes shape = made_up s (all_cleared keys) (λ m. Some (all_out (max_id_of e.fixed) texts m)) true e e' a b (takes_writes (all_out (max_id_of e.fixed) texts) e.fixed e'.fixed a b writes shape) (λ m means. record { is = ap (λ c. Some c) (cleared_all e.fixed m keys ∙ ap (λ ks. as_contents e.fixed (all_out (max_id_of e.fixed) ks m)) (sym same)) })

  -- ---- rows of a key

  all_is_first : (e : FixedEngine S) (a : S) (c : Contents) (key : List ℕ) → Held s HoldsIds e a c → all_pairs c key ≡ first_pair c key
  all_is_first e a c key h = subst (λ d. all_pairs d key ≡ first_pair d key) (sym h.1.is) refl

  pub items_of : (e : FixedEngine S) (a : S) (c : Contents) (key text : List ℕ) (id : ℕ) (value bytes : List ℕ) (o : Option (ℕ × List ℕ)) → text ≡ key → bytes ≡ value → o ≡ Some (id, value) → Held s HoldsIds e a c → IsFound c text o → item_row (decimal id) ∷ item_row bytes ∷ [] ≡ map item_row (texts_of (all_pairs c key))
  items_of e a c key text id value bytes o same shown is h found =
      let here : IsFound c key (Some (id, value)) = subst (λ t. IsFound c t (Some (id, value))) same (subst (λ x. IsFound c text x) is found) in
      ap (λ b. item_row (decimal id) ∷ item_row b ∷ []) shown
      ∙ sym (ap (λ ps. map item_row (texts_of ps)) (all_is_first e a c key h)
      ∙ (ap (λ x. map item_row (texts_of (map (pair (replied c key)) (option_to_list x)))) (sym here.value) ∙ ap (λ t. item_row t ∷ item_row value ∷ []) (sym here.name)))

  pub items_none : (e : FixedEngine S) (a : S) (c : Contents) (key text : List ℕ) (o : Option (ℕ × List ℕ)) → text ≡ key → o ≡ None → Held s HoldsIds e a c → IsFound c text o → [] ≡ map item_row (texts_of (all_pairs c key))
  items_none e a c key text o same none h found =
      let here : IsFound c key None = subst (λ t. IsFound c t None) same (subst (λ x. IsFound c text x) none found) in
      sym (ap (λ ps. map item_row (texts_of ps)) (all_is_first e a c key h)
      ∙ ap (λ x. map item_row (texts_of (map (pair (replied c key)) (option_to_list x)))) (sym here.value))
