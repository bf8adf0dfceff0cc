-- Requests on keys as steps of the map.
use Rattle.std.proofs.Common.{◌≡◌, ◌∙◌, ℕ, ◌≤◌, ◌<◌, Bool, true, false, cond, List, [], ◌∷◌, length, refl, sym, ap, subst, arith}
use Rattle.std.specs.Prelude.{Option, Some, None, option_map, is_some, map, filter, nat_eq}
use Rattle.std.specs.FinMap.{empty, get, keys}
use Rattle.std.specs.List.{list_all, starts_with}
use Rattle.tc_base.specs.Maps.{Map}
use Rattle.tc_base.specs.declared.kind.Mode.{Mode}
use Rattle.tc_base.specs.declared.kind.Mode.TheVariants.{Over, Keep, Cat}
use Rattle.tc_base.specs.declared.seq.Pair.{Pair}
use Rattle.tc_space.specs.Frames.{Writes, reads_refl}
use Rattle.tc_space.specs.Stores.{Only}
use Rattle.tc_space.specs.declared.space.Space.{Ghosts}
use Rattle.tc_model.specs.Apply.{keys_from}
use Rattle.tc_model.specs.Contents.{Contents, hash}
use Rattle.tc_model.specs.Maps.{with_value, without}
use Rattle.tc_model.specs.Stores.{all_keys}
use Rattle.ty_base.specs.Holding.{Held}
use Rattle.tc_engine.specs.Changes.{all_cleared, all_gone, all_pushed, all_stored, first_of, stored, taken}
use Rattle.tc_engine.specs.Effects.{IsFull, Makes}
use Rattle.tc_engine.specs.Rows.{Adds, item_row}
use Rattle.tc_engine.specs.declared.rows.Rows.{Rows}
use Rattle.tc_hashdb.specs.declared.holding.HashEngine.{HashEngine}
use Rattle.tc_hashdb.specs.Changing.{KeepsHead, LacksRoomFor, Takes, all_out, all_set, head_refl, is_short, stored_in}
use Rattle.tc_hashdb.specs.Filling.{Fills, FillsMap}
use Rattle.tc_hashdb.specs.Holding.{HoldsKeys, Means}
use Rattle.tc_hashdb.specs.Layouts.{layout_of}
use Rattle.tc_hashdb.specs.Lifting.{IsStep, full_up, made_up, means_of}
use Rattle.tc_hashdb.proofs.Several.{cleared_all, pushed_none, stored_all}

-- a branch that fails fails also behind a change of its answer
drawn_out : {A B : Type 0} (f : A → B) (b : Bool) (o : Option A) → cond b None (option_map f o) ≡ option_map f (cond b None o)
drawn_out f true o = refl
drawn_out f false o = refl

stored_step : (mode : Mode) (key value : List ℕ) (m : Map) → stored mode key value (hash false m) ≡ option_map (hash false) (stored_in mode key value m)
stored_step Over key value m = refl
stored_step Keep key value m = drawn_out (hash false) (is_some (get m key)) (with_value m key value)
stored_step Cat key value m = refl

module _ {S : Type 0} (s : Ghosts S) where
  is_stored : (mode : Mode) (key text value bytes : List ℕ) → text ≡ key → bytes ≡ value → (m : Map) → IsStep (stored mode key value) (stored_in mode text bytes) m
  is_stored mode key text value bytes same given m = record { is = stored_step mode key value m ∙ (λ i. option_map (hash false) (stored_in mode (sym same i) (sym given i) m)) }

  pub stores : (e e' : HashEngine S) (a b : S) (mode : Mode) (key text value bytes : List ℕ) (done : Bool) → text ≡ key → bytes ≡ value → Takes s (stored_in mode text bytes) done e e' a b → Makes s (Only 0) layout_of HoldsKeys (stored mode key value) done e e' a b
  stores e e' a b mode key text value bytes done same given takes = made_up s (stored mode key value) (stored_in mode text bytes) done e e' a b takes (is_stored mode key text value bytes same given)

  pub store_full : (e : HashEngine S) (a b : S) (mode : Mode) (key text value bytes : List ℕ) → text ≡ key → bytes ≡ value → LacksRoomFor s (stored_in mode text bytes) e a b → IsFull s HoldsKeys (λ x a b. Fills s b) (stored mode key value) e a b
  store_full e a b mode key text value bytes same given lacks = full_up s (stored mode key value) (stored_in mode text bytes) e a b lacks (is_stored mode key text value bytes same given)

  is_taken : (key text : List ℕ) → text ≡ key → (m : Map) → IsStep (taken key) (λ n. without n text) m
  is_taken key text same m = record { is = ap (λ k. option_map (hash false) (without m k)) (sym same) }

  pub takes_key : (e e' : HashEngine S) (a b : S) (key text : List ℕ) (done : Bool) → text ≡ key → Takes s (λ m. without m text) done e e' a b → Makes s (Only 0) layout_of HoldsKeys (taken key) done e e' a b
  takes_key e e' a b key text done same takes = made_up s (taken key) (λ m. without m text) done e e' a b takes (is_taken key text same)

  pub take_full : (e : HashEngine S) (a b : S) (key text : List ℕ) → text ≡ key → LacksRoomFor s (λ m. without m text) e a b → IsFull s HoldsKeys (λ x a b. Fills s b) (taken key) e a b
  take_full e a b key text same lacks = full_up s (taken key) (λ m. without m text) e a b lacks (is_taken key text same)

  pub clears : (e e' : HashEngine S) (a b : S) (done : Bool) → Takes s (λ m. Some empty) done e e' a b → Makes s (Only 0) layout_of HoldsKeys all_gone done e e' a b
  clears e e' a b done takes = made_up s all_gone (λ m. Some empty) done e e' a b takes (λ m. record { is = refl })

  pub clear_full : (e : HashEngine S) (a b : S) → LacksRoomFor s (λ m. Some empty) e a b → IsFull s HoldsKeys (λ x a b. Fills s b) all_gone e a b
  clear_full e a b lacks = full_up s all_gone (λ m. Some empty) e a b lacks (λ m. record { is = refl })

  -- ---- what fails changes nothing

  fails : (e : HashEngine S) (a : S) → s.sound a → Takes s (λ m. None) false e e a a
  fails e a sound = record {
    sound = sound;
    others = record { same = λ t g other. refl };
    numbers = head_refl e;
    made = λ done. absurd cc;
    fails = λ not m means. refl;
    same = λ not. reads_refl s (Means s) e a sound;
  }

  keeps_all : (e : HashEngine S) (a : S) → s.sound a → Takes s (λ m. Some m) true e e a a
  keeps_all e a sound = record {
    sound = sound;
    others = record { same = λ t g other. refl };
    numbers = head_refl e;
    made = λ done m means. (m, refl, means);
    fails = λ not. absurd cc;
    same = λ not. absurd cc;
  }

  pub push_some : (e : HashEngine S) (a : S) (ps : List Pair) → s.sound a → 0 < length ps → Makes s (Only 0) layout_of HoldsKeys (all_pushed ps) false e e a a
  push_some e a [] sound some = absurd (omega (arith, some))
  push_some e a (p ∷ ps) sound some = made_up s (all_pushed (p ∷ ps)) (λ m. None) false e e a a (fails e a sound) (λ m. record { is = pushed_none m p ps })

  pub push_no : (e : HashEngine S) (a : S) (ps : List Pair) → s.sound a → length ps ≤ 0 → Makes s (Only 0) layout_of HoldsKeys (all_pushed ps) true e e a a
  push_no e a [] sound none = made_up s (all_pushed []) (λ m. Some m) true e e a a (keeps_all e a sound) (λ m. record { is = refl })
  push_no e a (p ∷ ps) sound none = absurd (omega (arith, none))

  -- ---- many

  wrote_all : (g : Map → Map) (v w : HashEngine S) (a b : S) → KeepsHead v w → Writes s (Only 0) (Means s) g v w a b → Takes s (λ m. Some (g m)) true v w a b
  wrote_all g v w a b head writes = record {
    sound = writes.sound;
    others = writes.others;
    numbers = head;
    made = λ done m means. (g m, refl, writes.means m means);
    fails = λ not. absurd cc;
    same = λ not. absurd cc;
  }

  lacks_all : (g : Map → Map) (v : HashEngine S) (a b : S) → ((m : Map) → Means s v a m → FillsMap s b m (g m)) → LacksRoomFor s (λ m. Some (g m)) v a b
  lacks_all g v a b full = record { by = full }

  all_clear : (keys texts : List (List ℕ)) → texts ≡ keys → (m : Map) → IsStep (all_cleared keys) (λ n. Some (all_out texts n)) m
  all_clear keys texts same m = record { is = ap (λ c. Some c) (cleared_all m keys ∙ ap (λ ks. hash false (all_out ks m)) (sym same)) }

  pub clears_all : (e e' : HashEngine S) (a b : S) (keys texts : List (List ℕ)) → texts ≡ keys → KeepsHead e e' → Writes s (Only 0) (Means s) (all_out texts) e e' a b → Makes s (Only 0) layout_of HoldsKeys (all_cleared keys) true e e' a b
  clears_all e e' a b keys texts same head writes = made_up s (all_cleared keys) (λ m. Some (all_out texts m)) true e e' a b (wrote_all (all_out texts) e e' a b head writes) (all_clear keys texts same)

  pub clear_all_full : (e : HashEngine S) (a b : S) (keys texts : List (List ℕ)) → texts ≡ keys → ((m : Map) → Means s e a m → FillsMap s b m (all_out texts m)) → IsFull s HoldsKeys (λ x a b. Fills s b) (all_cleared keys) e a b
  clear_all_full e a b keys texts same full = full_up s (all_cleared keys) (λ m. Some (all_out texts m)) e a b (lacks_all (all_out texts) e a b full) (all_clear keys texts same)

  short_step : (pairs texts : List Pair) (b : Bool) → texts ≡ pairs → b ≡ list_all is_short texts → (m : Map) → all_stored pairs (hash false m) ≡ cond b (Some (hash false (all_set pairs m))) None
  short_step pairs texts b same short m = stored_all m pairs ∙ ap (λ x. cond x (Some (hash false (all_set pairs m))) None) (sym (short ∙ ap (list_all is_short) same))

  all_store : (pairs texts : List Pair) (b : Bool) → texts ≡ pairs → b ≡ list_all is_short texts → b ≡ true → (m : Map) → IsStep (all_stored pairs) (λ n. Some (all_set pairs n)) m
  all_store pairs texts b same short so m = record { is = short_step pairs texts b same short m ∙ ap (λ x. cond x (Some (hash false (all_set pairs m))) None) so }

  pub stores_none : (e : HashEngine S) (a : S) (pairs texts : List Pair) (b : Bool) → s.sound a → texts ≡ pairs → b ≡ list_all is_short texts → b ≡ false → Makes s (Only 0) layout_of HoldsKeys (all_stored pairs) false e e a a
  stores_none e a pairs texts b sound same short not = made_up s (all_stored pairs) (λ m. None) false e e a a (fails e a sound) (λ m. record { is = short_step pairs texts b same short m ∙ ap (λ x. cond x (Some (hash false (all_set pairs m))) None) not })

  pub stores_all : (e e' : HashEngine S) (a b : S) (pairs texts : List Pair) (short : Bool) → texts ≡ pairs → short ≡ list_all is_short texts → short ≡ true → KeepsHead e e' → Writes s (Only 0) (Means s) (all_set pairs) e e' a b → Makes s (Only 0) layout_of HoldsKeys (all_stored pairs) true e e' a b
  stores_all e e' a b pairs texts short same is so head writes = made_up s (all_stored pairs) (λ m. Some (all_set pairs m)) true e e' a b (wrote_all (all_set pairs) e e' a b head writes) (all_store pairs texts short same is so)

  pub store_all_full : (e : HashEngine S) (a b : S) (pairs texts : List Pair) (short : Bool) → texts ≡ pairs → short ≡ list_all is_short texts → short ≡ true → ((m : Map) → Means s e a m → FillsMap s b m (all_set pairs m)) → IsFull s HoldsKeys (λ x a b. Fills s b) (all_stored pairs) e a b
  store_all_full e a b pairs texts short same is so full = full_up s (all_stored pairs) (λ m. Some (all_set pairs m)) e a b (lacks_all (all_set pairs) e a b full) (all_store pairs texts short same is so)

  -- ---- keys listed

  pub listed : (e : HashEngine S) (a : S) (c : Contents) (prefix text : List ℕ) (most : Option ℕ) (all found texts : List (List ℕ)) (r r' : Rows) → text ≡ prefix → texts ≡ found → ((m : Map) → Means s e a m → all ≡ keys m) → found ≡ first_of most (filter (λ k. starts_with nat_eq k text) all) → Held s HoldsKeys e a c → Adds r r' (map item_row texts) → Adds r r' (map item_row (first_of most (keys_from c prefix)))
  listed e a c prefix text most all found texts r r' same shown is_all is h adds =
      let every : all ≡ all_keys c = is_all h.1.map (means_of s e a c h) ∙ ap all_keys (sym h.1.is) in
      subst (λ l. Adds r r' (map item_row l)) (shown ∙ (is ∙ (λ i. first_of most (filter (λ k. starts_with nat_eq k (same i)) (every i))))) adds
