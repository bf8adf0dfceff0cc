-- Calls on the map, as the trait of engines says them.
use Rattle.std.specs.Prelude.{◌≡◌, Bool, true, false, Option, Some, None, option_map, unwrap_or, Result, Ok, Err, OnErr}
use Rattle.std.proofs.Common.{◌∙◌, refl, sym, ap, subst, inl, inr, ⊎_elim}
use Rattle.tc_base.specs.Maps.{Map}
use Rattle.tc_space.specs.Frames.{Reads, Refuses}
use Rattle.tc_space.specs.Stores as stores
use Rattle.tc_space.specs.declared.space.Space.{Ghosts}
use Rattle.tc_model.specs.Contents.{Contents, hash}
use Rattle.tc_space.specs.Stores.{Only}
use Rattle.ty_base.specs.Holding.{Held, IsReady, KeepsNumbers}
use Rattle.tc_engine.specs.Changes.{Change, wanted}
use Rattle.tc_engine.specs.Effects.{IsFull, Makes}
use Rattle.tc_hashdb.specs.declared.holding.HashEngine.{HashEngine}
use Rattle.tc_hashdb.specs.Changing.{KeepsHead, LacksRoomFor, Step, Takes, after}
use Rattle.tc_hashdb.specs.Filling.{Fills, FillsMap}
use Rattle.tc_hashdb.specs.Holding.{HoldsKeys, Means}
use Rattle.tc_hashdb.specs.Layouts.{layout_of}
use Rattle.tc_hashdb.specs.Laying.{kept_layout}

-- a change of contents is a step of the map
pub record IsStep (change : Change) (step : Step) (m : Map) : Type 0 where
  pub is : change (hash false m) ≡ option_map (hash false) (step m)

module _ {S : Type 0} (s : Ghosts S) where
  -- the map that is held
  pub means_of : (e : HashEngine S) (a : S) (c : Contents) (h : Held s HoldsKeys e a c) → Means s e a (h.1.map)
  means_of e a c h = (h.0, h.1.holds_map)

  pub held_again : (e : HashEngine S) (a : S) (m : Map) → Means s e a m → Held s HoldsKeys e a (hash false m)
  held_again e a m means = (means.0, record { map = m; is = refl; holds_map = means.1 })

  pub ready_down : (e : HashEngine S) (a : S) → IsReady s HoldsKeys e a → stores.IsReady s (Means s) e a
  ready_down e a ready = record { sound = ready.sound; held = λ t. let h = ready.held t in (h.1.map, (t, h.1.holds_map)) }

  pub reads_up : (e e' : HashEngine S) (a b : S) → Reads s (Means s) e e' a b → Reads s (Held s HoldsKeys) e e' a b
  reads_up e e' a b reads = record {
    now = reads.now;
    touched = reads.touched;
    sound = reads.sound;
    means = λ c h. subst (λ d. Held s HoldsKeys e' b d) (sym h.1.is) (held_again e' b h.1.map (reads.means h.1.map (means_of e a c h)));
  }

  pub refuses_up : (e e' : HashEngine S) (a b : S) → Refuses s (Means s) e e' a b → Refuses s (Held s HoldsKeys) e e' a b
  refuses_up e e' a b refuses = ⊎_elim (λ spoiled. inl spoiled) (λ reads. inr (reads_up e e' a b reads)) refuses

  pub refused_up : {T E : Type 0} (r : Result T E) (e e' : HashEngine S) (a b : S) → OnErr r (Refuses s (Means s) e e' a b) → OnErr r (Refuses s (Held s HoldsKeys) e e' a b)
  refused_up (Ok x) e e' a b refused = tt
  refused_up (Err x) e e' a b refused = refuses_up e e' a b refused

  -- the numbers of the file are those that are held, before and behind
  pub head_numbers : (e e' : HashEngine S) (a b : S) (m n : Map) → KeepsHead e e' → Means s e a m → Means s e' b n → KeepsNumbers (layout_of (s.now a)) (layout_of (s.now b))
  head_numbers e e' a b m n same before now = kept_layout e e' (s.now a 0) (s.now b 0) m n before.1 now.1 same

  made_numbered : {f : Step} (done : Bool) (e e' : HashEngine S) (a b : S) → Takes s f done e e' a b → (m : Map) → Means s e a m → KeepsNumbers (layout_of (s.now a)) (layout_of (s.now b))
  made_numbered true e e' a b takes m means = let made = takes.made refl m means in head_numbers e e' a b m made.0 takes.numbers means made.2
  made_numbered false e e' a b takes m means = head_numbers e e' a b m m takes.numbers means ((takes.same refl).means m means)

  pub made_up : (change : Change) (step : Step) (done : Bool) (e e' : HashEngine S) (a b : S) → Takes s step done e e' a b → ((m : Map) → IsStep change step m) → Makes s (Only 0) layout_of HoldsKeys change done e e' a b
  made_up change step done e e' a b takes is_step = record {
    sound = takes.sound;
    others = takes.others;
    numbered = λ c h. made_numbered done e e' a b takes h.1.map (means_of e a c h);
    made = λ yes c h.
        let made = takes.made yes h.1.map (means_of e a c h) in
        (hash false made.0, ap change h.1.is ∙ (is_step h.1.map).is ∙ ap (option_map (hash false)) made.1, held_again e' b made.0 made.2);
    fails = λ not c h. ap change h.1.is ∙ (is_step h.1.map).is ∙ ap (option_map (hash false)) (takes.fails not h.1.map (means_of e a c h));
    same = λ not. reads_up e e' a b (takes.same not);
  }

  wanted_is : (m : Map) (o : Option Map) → unwrap_or (option_map (hash false) o) (hash false m) ≡ hash false (unwrap_or o m)
  wanted_is m None = refl
  wanted_is m (Some n) = refl

  fills_up : {space : S} (m n : Map) → FillsMap s space m n → Fills s space (hash false m) (hash false n)
  fills_up m n full = full

  pub full_up : (change : Change) (step : Step) (e : HashEngine S) (a b : S) → LacksRoomFor s step e a b → ((m : Map) → IsStep change step m) → IsFull s HoldsKeys (λ x a b. Fills s b) change e a b
  full_up change step e a b lacks is_step = record {
    by = λ c h.
        let m : Map = h.1.map in
        let is : wanted change c ≡ hash false (after step m) = ap (wanted change) h.1.is ∙ (ap (λ o. unwrap_or o (hash false m)) (is_step m).is ∙ wanted_is m (step m)) in
        subst (λ d. Fills s b c d) (sym is) (subst (λ d. Fills s b d (hash false (after step m))) (sym h.1.is) (fills_up m (after step m) (lacks.by m (means_of e a c h))));
  }
