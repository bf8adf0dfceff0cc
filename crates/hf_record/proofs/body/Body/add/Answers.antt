use Rattle.std.proofs.Common.{◌≡◌, ◌∙◌, ◌⊎◌, inr, ℕ, ◌+◌, ◌/◌, ◌%◌, ◌^◌, ◌<◌, ◌≤◌, false, List, length, take, max, sym, ap, subst, arith}
use Rattle.tc_base.specs.Files.{wrote}
use Rattle.tc_reach.proofs.Handed.{err_handed}
use Rattle.tc_space.specs.Frames.{Brought}
use Rattle.tc_space.specs.Ranges.{Passes}
use Rattle.hf_head.specs.Heads.{is_large, unit}
use Rattle.hf_pool.specs.Pools.{frees, Lends, Takes}
use Rattle.hf_layout.specs.Frees.{HasNone}
use Rattle.hf_record.specs.Filling.{reach}
use Rattle.hf_record.specs.Moves.{Added}
use Rattle.hf_record.proofs.Differ.{beside_after, beside_wrote, edits_then, edits_wrote}
use Rattle.hf_record.proofs.Room.{err_inner, not_past}
use Rattle.hf_record.proofs.Spared.{leaves_first, length_wrote}
use Rattle.hf_record.proofs.Valid.{is_data, is_valid}
use Rattle.hf_record.proofs.Writing.{added_taken, few_taken, no_room, part_inside, taken_front, taken_inside, taken_long, taken_same, too_long}
use Rattle.hf_record.proofs.body.Body.add.Goals as goal

pub returns-in_err-place-clause-full : goal.returns-in_err-place-clause-full
returns-in_err-place-clause-full g c = λ full t.
    let self = c.args.self.now in
    let p = c.in_err-place.ensures.full (err_handed c.from_residual.result c.in_err-place.field-0.0 _ c.from_residual.ensures.1 full) in
    let m = c.requires.may.held t in
    inr (not_past g.S.Space g.met.S.Space.within self.file (p.0 + length c.args.bytes.now) 5 c.args.space.now c.take.new.space t c.requires.may.sound (is_data self.file self.data)
    (part_inside c.reach-most.result (unit self.head) self.head.first self.pool p.0 (length c.args.bytes.now) p.1 m.1.pieces (g.S.Space.now c.args.space.now self.file) self.unit_is m.1.is.laid p.2 p.3 c.requires.sized.aligned) p.4)

pub returns-then-not-has_room-clause-full : goal.returns-then-not-has_room-clause-full
returns-then-not-has_room-clause-full g c = λ full t.
    let self = c.args.self.now in
    let h = self.head in
    let m = c.requires.may.held t in
    let s = g.S.Space in
    let before : List ℕ = s.now c.args.space.now self.file in
    let cut = c.in_ok-place.ensures.file.bytes t in
    let b = c.full_in.ensures.full (err_inner c.full_in.result _ full) self.file in
    let on = taken_long c.reach-most.result (unit h) h.first self.pool c.take.new.self c.in_ok-place.place (length c.args.bytes.now) m.1.pieces before (s.now c.take.new.space self.file) m.1.is.laid c.in_ok-place.ensures.taken cut in
    let still : HasNone (frees self.pool) (reach h) (length c.args.bytes.now) → Brought s self.file c.args.space.now c.full_in.new.space = λ none. record {
      brought = b.brought;
      same = λ u. b.same u ∙ cut.same (subst (λ (n : ℕ). HasNone (frees self.pool) n (length c.args.bytes.now)) (sym c.reach-most.ensures) none);
    } in
    no_room h (unit h) h.first self.pool c.take.new.self c.in_ok-place.place (length c.args.bytes.now) _ _ _ _ m.1.pieces before m.1.is.laid (omega (arith, c.size.ensures, c.if-size-gt-FILE_MOST.false)) (omega (arith, on, ap length (b.same t))) still (subst (λ (n : ℕ). Takes n self.pool c.take.new.self (length c.args.bytes.now) c.in_ok-place.place) c.reach-most.ensures c.in_ok-place.ensures.taken)
    (subst (λ (e : ℕ). (2 ^ 40 < e) ⊎ ((is_large h ≡ false) × (2 ^ 32 ≤ c.in_ok-place.place / unit h))) c.size-2.ensures (c.has_room.ensures.none c.if-not-has_room.true))

pub returns-then-not-has_room-clause-cause : goal.returns-then-not-has_room-clause-cause
returns-then-not-has_room-clause-cause g c = λ is. let rose = c.full_in.ensures.fault (err_inner c.full_in.result _ is) in omega (arith, rose, c.take.ensures.writes.keeps.later)

pub write_at-requires-clause-reaches : goal.write_at-requires-clause-reaches
write_at-requires-clause-reaches g c =
    let self = c.args.self.now in
    record {
      file = is_data self.file self.data;
      inside = λ t. (let m = c.requires.may.held t in (taken_inside c.reach-most.result (unit self.head) self.head.first self.pool c.take.new.self c.in_ok-place.place (length c.args.bytes.now) m.1.pieces (g.S.Space.now c.args.space.now self.file) (g.S.Space.now c.take.new.space self.file) m.1.is.laid c.in_ok-place.ensures.taken (c.in_ok-place.ensures.file.bytes t)).1);
    }

pub returns-in_err-write_at-clause-full : goal.returns-in_err-write_at-clause-full
returns-in_err-write_at-clause-full g c = λ full t.
    let self = c.args.self.now in
    let h = self.head in
    let m = c.requires.may.held t in
    let is = err_handed c.from_residual-in_err-write_at.result c.in_err-write_at.field-0.0 _ c.from_residual-in_err-write_at.ensures.1 full in
    let before : List ℕ = g.S.Space.now c.args.space.now self.file in
    let on = taken_long c.reach-most.result (unit h) h.first self.pool c.take.new.self c.in_ok-place.place (length c.args.bytes.now) m.1.pieces before (g.S.Space.now c.take.new.space self.file) m.1.is.laid c.in_ok-place.ensures.taken (c.in_ok-place.ensures.file.bytes t) in
    let later = c.write_at.ensures.writes.keeps.same_limit in
    let limits : g.S.Space.limit c.write_at.new.space self.file ≡ g.S.Space.limit c.args.space.now self.file = ap (λ (l : ℕ → ℕ). l self.file) (later ∙ c.take.ensures.writes.keeps.same_limit) in
    let same = c.in_err-write_at.ensures.same is in
    let still : HasNone (frees self.pool) (reach h) (length c.args.bytes.now) → g.S.Space.limit c.write_at.new.space self.file < c.in_ok-place.place + length c.args.bytes.now → Brought g.S.Space self.file c.args.space.now c.write_at.new.space = λ none past. record {
      brought = c.in_err-write_at.ensures.brought is (omega (arith, past, ap (λ (l : ℕ → ℕ). l self.file) later));
      same = λ u. same u self.file ∙ (c.in_ok-place.ensures.file.bytes u).same (subst (λ (n : ℕ). HasNone (frees self.pool) n (length c.args.bytes.now)) (sym c.reach-most.ensures) none);
    } in
    too_long h (unit h) h.first self.pool c.take.new.self c.in_ok-place.place (length c.args.bytes.now) (g.S.Space.limit c.write_at.new.space self.file) _ _ (g.S.Space.log_full c.write_at.new.space) m.1.pieces before m.1.is.laid (subst (λ (n : ℕ). Takes n self.pool c.take.new.self (length c.args.bytes.now) c.in_ok-place.place) c.reach-most.ensures c.in_ok-place.ensures.taken)
    (omega (arith, limits, g.met.S.Space.within c.args.space.now self.file t c.requires.may.sound (is_data self.file self.data))) (omega (arith, on, ap length (c.in_err-write_at.ensures.same is t self.file))) still
    (subst (λ (l : ℕ → ℕ). Passes (l self.file) (g.S.Space.log_full c.write_at.new.space) c.in_ok-place.place (length c.args.bytes.now)) (sym later) (c.in_err-write_at.ensures.full is))

pub returns-clause-added : goal.returns-clause-added
returns-clause-added g c =
    let self = c.args.self.now in
    let h = self.head in
    let most : ℕ = c.reach-most.result in
    let u : ℕ = unit h in
    let v = is_valid h self.valid in
    let place : ℕ = c.in_ok-place.place in
    let bytes : List ℕ = c.args.bytes.now in
    let size : ℕ = length bytes in
    let before : List ℕ = g.S.Space.now c.args.space.now self.file in
    let middle : List ℕ = g.S.Space.now c.take.new.space self.file in
    let after : List ℕ = g.S.Space.now c.write_at.new.space self.file in
    let room = c.has_room.ensures.room c.if-not-has_room.false in
    let taken = c.in_ok-place.ensures.taken in
    let inside = λ (t : g.S.Space.tells). (let m = c.requires.may.held t in (taken_inside most u h.first self.pool c.take.new.self place size m.1.pieces before middle m.1.is.laid taken (c.in_ok-place.ensures.file.bytes t)).1) in
    record {
      added = λ t r ps is whole laid.
          let lends = subst (λ (n : ℕ). Lends most n self.pool.size (frees self.pool) (frees c.take.new.self) size place before middle) self.unit_is (c.in_ok-place.ensures.file.lends t) in
          subst (λ (b : List ℕ). Added u h.first c.take.new.self.size ps (frees c.take.new.self) place r before b)
          (sym ((c.in_ok-write_at.ensures.wrote t).here ∙ ap (λ (b : List ℕ). wrote place b middle) is))
          (added_taken most u h.first self.pool c.take.new.self place size ps before middle r laid whole (sym (ap length is)) taken (c.in_ok-place.ensures.file.bytes t) lends);
      named = record { aligned = subst (λ (n : ℕ). place % n ≡ 0) self.unit_is c.in_ok-place.ensures.file.aligned; fits = room.0 };
      low = omega (arith, room.1, c.size-2.ensures);
      taken = subst (λ (n : ℕ). Takes n self.pool c.take.new.self size place) c.reach-most.ensures taken;
      spares = record {
        edits = edits_then g.S.Space self.file 5 size (size + 5) c.args.space.now c.take.new.space c.write_at.new.space (omega arith)
            (record {
              others = c.in_ok-place.ensures.file.others;
              few = λ t. (let m = c.requires.may.held t in few_taken most u h.first self.pool c.take.new.self place size m.1.pieces before middle m.1.is.laid taken (c.in_ok-place.ensures.file.bytes t));
            })
            (edits_wrote g.S.Space self.file place size bytes c.take.new.space c.write_at.new.space inside (omega arith) c.in_ok-write_at.ensures.wrote);
        front = λ t.
            let m = c.requires.may.held t in
            leaves_first h before after v (ap (λ (l : List ℕ). take h.first l) (c.in_ok-write_at.ensures.wrote t).here ∙ taken_front most u h.first self.pool c.take.new.self place size m.1.pieces bytes before middle m.1.is.laid taken (c.in_ok-place.ensures.file.bytes t));
        notes = c.take.ensures.notes;
      };
      beside = λ t.
          let m = c.requires.may.held t in
          beside_after place size 5 0 5 before middle after (omega arith) (few_taken most u h.first self.pool c.take.new.self place size m.1.pieces before middle m.1.is.laid taken (c.in_ok-place.ensures.file.bytes t))
          (beside_wrote place bytes middle after (inside t) (c.in_ok-write_at.ensures.wrote t).here);
      long = λ t.
          let m = c.requires.may.held t in
          let same = taken_same most u h.first self.pool c.take.new.self place size m.1.pieces before middle self.unit_is c.requires.sized.aligned m.1.is.laid taken (c.in_ok-place.ensures.file.bytes t) in
          ap length (c.in_ok-write_at.ensures.wrote t).here ∙ length_wrote place bytes middle (inside t) ∙ ap (λ (n : ℕ). max n (place + size)) same;
    }
