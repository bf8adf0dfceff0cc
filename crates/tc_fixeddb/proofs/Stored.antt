-- Steps of the ids, by the calls on the array.
use Rattle.std.proofs.lemmas.List.{length-take}
use Rattle.std.proofs.Common.{rules, ◌≡◌, ◌∙◌, inl, inr, ⊎_elim, ℕ, ◌≤◌, Bool, true, false, cond, List, [], ◌++◌, length, take, refl, sym, ap, subst, arith}
use Rattle.std.specs.Prelude.{Option, Some, None, option_map, is_some, unwrap_or, nat_le}
use Rattle.std.specs.FinMap.{empty, get, insert, remove}
use Rattle.tc_space.specs.Frames.{Reads, Writes}
use Rattle.tc_space.specs.Stores.{Only, TakesOut}
use Rattle.tc_space.specs.declared.space.Space.{Ghosts}
use Rattle.tc_base.specs.declared.kind.Mode.TheVariants.{Over, Keep, Cat}
use Rattle.tc_model.specs.Arrays.{Array, greatest, id_of, with_cell}
use Rattle.tc_model.specs.Maps.{without}
use Rattle.tc_fixed.specs.declared.fixed.Fixed.{Fixed}
use Rattle.tc_fixed.specs.Cells.{end_of}
use Rattle.tc_fixed.specs.Holding.{HasNoRoom, Means, SameShape, max_id_of, width_of}
use Rattle.tc_fixeddb.specs.Changing.{LacksRoomFor, Takes, set_at, stored_at}
use Rattle.tc_fixeddb.specs.Holding.{Names}
use Rattle.tc_fixeddb.proofs.Ends.{greatest_with}

le_is : (m n : ℕ) → m ≤ n → nat_le m n ≡ true
le_is m n le = search (rules, le)

pub none_of : {A : Type 0} (o : Option A) → is_some o ≡ false → o ≡ None
none_of None not = refl
none_of (Some x) not = cc

-- a value that is cut to a width is short enough
pub cut_allowed : (width : ℕ) (m : Array) (id : ℕ) (value : List ℕ) → width ≤ 1048576 → with_cell width m id value ≡ Some (insert m id (take width value))
cut_allowed width m id value small =
    let short : length (take width value) ≤ 16777216 = omega (arith, small, length-take width value) in
    ap (λ b. option_map (insert m id) (cond b (Some (take width value)) None)) (le_is (length (take width value)) 16777216 short)

none_is : (o : Option (List ℕ)) → None ≡ option_map length o → is_some o ≡ false
none_is None e = refl
none_is (Some v) e = let never : false ≡ true = ap is_some e in absurd cc

some_is : (n : ℕ) (o : Option (List ℕ)) → Some n ≡ option_map length o → is_some o ≡ true
some_is n None e = let never : true ≡ false = ap is_some e in absurd cc
some_is n (Some v) e = refl

-- what passes the end of one id's cell passes that of the greatest id with it
pub no_room : (limit width id : ℕ) (log : Type 0) (m : Array) (value : List ℕ) → HasNoRoom limit log (end_of width id) → HasNoRoom limit log (end_of width (greatest (insert m id value)))
no_room limit width id log m value full =
    let more : id ≤ greatest (insert m id value) = omega (arith, greatest_with m id value) in
    let ends : end_of width id ≤ end_of width (greatest (insert m id value)) = search (arith, more) in
    ⊎_elim (λ past. inl (omega (arith, past, ends))) (λ logged. inr logged) full

module _ {S : Type 0} (s : Ghosts S) where
  small : (v : Fixed S) (a : S) (m : Array) → Means s v a m → width_of v ≤ 1048576
  small v a m means = means.1.shape.width_most

  pub shapes : (u v w : Fixed S) → SameShape u v → SameShape v w → SameShape u w
  shapes u v w first second = record { width = second.width ∙ first.width; limit = second.limit ∙ first.limit }

  pub over_takes : (v w : Fixed S) (a b : S) (id : ℕ) (value : List ℕ) → Writes s (Only 0) (Means s) (λ m. insert m id (take (width_of v) value)) v w a b → SameShape v w → Takes s (stored_at Over (width_of v) id value) true v w a b
  over_takes v w a b id value writes shape = record {
    sound = writes.sound;
    others = writes.others;
    shape = shape;
    made = λ done m means. (insert m id (take (width_of v) value), cut_allowed (width_of v) m id value (small v a m means), writes.means m means);
    fails = λ not. absurd cc;
    same = λ not. absurd cc;
  }

  pub new_takes : (v u w : Fixed S) (a b c : S) (id : ℕ) (value : List ℕ) → Reads s (Means s) v u a b → SameShape v u → ((m : Array) → Means s v a m → None ≡ option_map length (get m id)) → Writes s (Only 0) (Means s) (λ m. insert m id (take (width_of u) value)) u w b c → SameShape u w → Takes s (stored_at Keep (width_of v) id value) true v w a c
  new_takes v u w a b c id value reads same none writes shape = record {
    sound = writes.sound;
    others = record { same = λ t g other. writes.others.same t g other ∙ reads.now t g };
    shape = shapes v u w same shape;
    made = λ done m means. (insert m id (take (width_of u) value), ap (λ x. cond x None (with_cell (width_of v) m id value)) (none_is (get m id) (none m means)) ∙ (ap (λ n. with_cell n m id value) (sym same.width) ∙ cut_allowed (width_of u) m id value (small u b m (reads.means m means))), writes.means m (reads.means m means));
    fails = λ not. absurd cc;
    same = λ not. absurd cc;
  }

  pub new_fails : (v u : Fixed S) (a b : S) (id n : ℕ) (value : List ℕ) → Reads s (Means s) v u a b → SameShape v u → ((m : Array) → Means s v a m → Some n ≡ option_map length (get m id)) → Takes s (stored_at Keep (width_of v) id value) false v u a b
  new_fails v u a b id n value reads same some = record {
    sound = reads.sound;
    others = record { same = λ t g other. reads.now t g };
    shape = same;
    made = λ done. absurd cc;
    fails = λ not m means. ap (λ x. cond x None (with_cell (width_of v) m id value)) (some_is n (get m id) (some m means));
    same = λ not. reads;
  }

  pub behind_takes : (v u w : Fixed S) (a b c : S) (id : ℕ) (found : Option (List ℕ)) (value more : List ℕ) → Reads s (Means s) v u a b → SameShape v u → ((m : Array) → Means s v a m → found ≡ get m id) → value ≡ unwrap_or found [] ++ more → Writes s (Only 0) (Means s) (λ m. insert m id (take (width_of u) value)) u w b c → SameShape u w → Takes s (stored_at Cat (width_of v) id more) true v w a c
  behind_takes v u w a b c id found value more reads same is joined writes shape = record {
    sound = writes.sound;
    others = record { same = λ t g other. writes.others.same t g other ∙ reads.now t g };
    shape = shapes v u w same shape;
    made = λ done m means. (insert m id (take (width_of u) value), ap (λ o. with_cell (width_of v) m id (unwrap_or o [] ++ more)) (sym (is m means)) ∙ (ap (with_cell (width_of v) m id) (sym joined) ∙ (ap (λ n. with_cell n m id value) (sym same.width) ∙ cut_allowed (width_of u) m id value (small u b m (reads.means m means)))), writes.means m (reads.means m means));
    fails = λ not. absurd cc;
    same = λ not. absurd cc;
  }

  pub over_full : (v : Fixed S) (a b : S) (id : ℕ) (value : List ℕ) → (s.tells → HasNoRoom (s.limit b 0) (s.log_full b) (end_of (width_of v) id)) → LacksRoomFor s (stored_at Over (width_of v) id value) v a b
  over_full v a b id value full = record { by = λ m means. (insert m id (take (width_of v) value), cut_allowed (width_of v) m id value (small v a m means), no_room (s.limit b 0) (width_of v) id (s.log_full b) m (take (width_of v) value) (full means.0)) }

  pub new_full : (v u : Fixed S) (a b c : S) (id : ℕ) (value : List ℕ) → Reads s (Means s) v u a b → SameShape v u → ((m : Array) → Means s v a m → None ≡ option_map length (get m id)) → (s.tells → HasNoRoom (s.limit c 0) (s.log_full c) (end_of (width_of u) id)) → LacksRoomFor s (stored_at Keep (width_of v) id value) v a c
  new_full v u a b c id value reads same none full = record { by = λ m means. (insert m id (take (width_of v) value), ap (λ x. cond x None (with_cell (width_of v) m id value)) (none_is (get m id) (none m means)) ∙ cut_allowed (width_of v) m id value (small v a m means), no_room (s.limit c 0) (width_of v) id (s.log_full c) m (take (width_of v) value) (subst (λ n. HasNoRoom (s.limit c 0) (s.log_full c) (end_of n id)) same.width (full means.0))) }

  pub behind_full : (v u : Fixed S) (a b c : S) (id : ℕ) (found : Option (List ℕ)) (value more : List ℕ) → Reads s (Means s) v u a b → SameShape v u → ((m : Array) → Means s v a m → found ≡ get m id) → value ≡ unwrap_or found [] ++ more → (s.tells → HasNoRoom (s.limit c 0) (s.log_full c) (end_of (width_of u) id)) → LacksRoomFor s (stored_at Cat (width_of v) id more) v a c
  behind_full v u a b c id found value more reads same is joined full = record { by = λ m means. (insert m id (take (width_of v) value), ap (λ o. with_cell (width_of v) m id (unwrap_or o [] ++ more)) (sym (is m means)) ∙ (ap (with_cell (width_of v) m id) (sym joined) ∙ cut_allowed (width_of v) m id value (small v a m means)), no_room (s.limit c 0) (width_of v) id (s.log_full c) m (take (width_of v) value) (subst (λ n. HasNoRoom (s.limit c 0) (s.log_full c) (end_of n id)) same.width (full means.0))) }

  pub out_takes : (v w : Fixed S) (a b : S) (id : ℕ) (done : Bool) → TakesOut s (Only 0) (Means s) (λ m. is_some (get m id)) (λ m. remove m id) done v w a b → SameShape v w → Takes s (λ m. without m id) done v w a b
  out_takes v w a b id true out shape = record {
    sound = (out.out refl).sound;
    others = (out.out refl).others;
    shape = shape;
    made = λ done m means. (remove m id, ap (λ x. cond x (Some (remove m id)) None) (sym (out.held m means)), (out.out refl).means m means);
    fails = λ not. absurd cc;
    same = λ not. absurd cc;
  }
  out_takes v w a b id false out shape = record {
    sound = (out.none refl).sound;
    others = record { same = λ t g other. (out.none refl).now t g };
    shape = shape;
    made = λ done. absurd cc;
    fails = λ not m means. ap (λ x. cond x (Some (remove m id)) None) (sym (out.held m means));
    same = λ not. out.none refl;
  }

  pub clear_takes : (v w : Fixed S) (a b : S) → Writes s (Only 0) (Means s) (λ m. empty) v w a b → SameShape v w → Takes s (λ m. Some empty) true v w a b
  clear_takes v w a b writes shape = record {
    sound = writes.sound;
    others = writes.others;
    shape = shape;
    made = λ done m means. (empty, refl, writes.means m means);
    fails = λ not. absurd cc;
    same = λ not. absurd cc;
  }

  pub named_full : (v : Fixed S) (a b : S) (key : List ℕ) (id : ℕ) (value : List ℕ) → Names v key (Some id) → (s.tells → HasNoRoom (s.limit b 0) (s.log_full b) (end_of (width_of v) id)) → (m : Array) → Means s v a m → HasNoRoom (s.limit b 0) (s.log_full b) (end_of (width_of v) (greatest (set_at (width_of v) m (id_of (max_id_of v) m key) value)))
  named_full v a b key id value names full m means = subst (λ o. HasNoRoom (s.limit b 0) (s.log_full b) (end_of (width_of v) (greatest (set_at (width_of v) m o value)))) (names.by (s.now a 0) m means.1) (no_room (s.limit b 0) (width_of v) id (s.log_full b) m (take (width_of v) value) (full means.0))
