use Rattle.std.proofs.Common.{◌≡◌, ◌∙◌, ℕ, ◌+◌, ◌-◌, None, List, length, refl, sym, ap, subst, arith}
use Rattle.tc_base.specs.Files.{wrote}
use Rattle.tc_reach.proofs.Handed.{err_handed}
use Rattle.hf_block.specs.Pieces.{IsWhole, Piece, Record, held, spell}
use Rattle.hf_layout.specs.Frees.{Frees, none}
use Rattle.hf_layout.specs.Layout.{HasBlock, LaidOut}
use Rattle.hf_pool.specs.Pools.{frees, GoesBack, notes_refl}
use Rattle.hf_record.specs.Moves.{IsGiven, IsWithin, Replaced}
use Rattle.hf_record.proofs.Differ.{beside_more, beside_then, beside_wrote, edits_more, edits_then, edits_wrote}
use Rattle.hf_record.proofs.Room.{not_past}
use Rattle.hf_record.proofs.Spared.{leaves_first, length_over}
use Rattle.hf_record.proofs.Valid.{is_data, is_valid}
use Rattle.hf_record.proofs.Writing.{over_front, over_inside, over_whole, rest_within}
use Rattle.hf_record.proofs.body.Body.write_over.Goals as goal

pub write_at-requires-clause-reaches : goal.write_at-requires-clause-reaches
write_at-requires-clause-reaches g c =
    let self = c.args.self.now in
    record {
      file = is_data self.file self.data;
      inside = λ t. (let k = c.requires.replaces t in omega (arith, over_inside self.pool.unit self.head.first self.pool.size k.pieces (frees self.pool) c.args.at c.args.room k.r (g.S.Space.now c.args.space.now self.file) k.aligned k.laid k.block k.unpooled k.whole));
    }

pub returns-in_err-write_at-clause-full : goal.returns-in_err-write_at-clause-full
returns-in_err-write_at-clause-full g c = λ full t.
    let self = c.args.self.now in
    let k = c.requires.replaces t in
    not_past g.S.Space g.met.S.Space.within self.file c.args.at (length c.args.bytes.now) c.args.space.now c.write_at.new.space t c.requires.sound (is_data self.file self.data)
    (omega (arith, k.few, over_inside self.pool.unit self.head.first self.pool.size k.pieces (frees self.pool) c.args.at c.args.room k.r (g.S.Space.now c.args.space.now self.file) k.aligned k.laid k.block k.unpooled k.whole))
    (c.in_err-write_at.ensures.full (err_handed c.from_residual.result c.in_err-write_at.field-0.0 _ c.from_residual.ensures.1 full))

pub returns-then-size-room-clause-over : goal.returns-then-size-room-clause-over
returns-then-size-room-clause-over g c =
    let self = c.args.self.now in
    let h = self.head in
    let u : ℕ = self.pool.unit in
    let at : ℕ = c.args.at in
    let free : Frees = frees self.pool in
    let bytes : List ℕ = c.args.bytes.now in
    let size : ℕ = length bytes in
    let before : List ℕ = g.S.Space.now c.args.space.now self.file in
    let after : List ℕ = g.S.Space.now c.write_at.new.space self.file in
    let inside = λ (t : g.S.Space.tells). (let k = c.requires.replaces t in over_inside u h.first self.pool.size k.pieces free at c.args.room k.r before k.aligned k.laid k.block k.unpooled k.whole) in
    let over : (t : g.S.Space.tells) (ps : List Piece) (r : Record) → bytes ≡ spell (held r) → IsWhole u (held r) → LaidOut u h.first self.pool.size ps free none before → HasBlock h.first ps at c.args.room → free at ≡ None → Replaced u h.first self.pool.size ps free at r before after = λ t ps r is whole laid block unpooled. (
    let n = ap length is in
    let e : after ≡ wrote at (spell (held r)) before = (c.in_ok-write_at.ensures.wrote t).here ∙ ap (λ (b : List ℕ). wrote at b before) is in
    subst (λ (b : List ℕ). Replaced u h.first self.pool.size ps free at r before b) (sym e)
    (over_whole u h.first self.pool.size ps free at c.args.room r before (c.requires.replaces t).aligned laid block unpooled whole (omega (arith, n, c.size.ensures, c.if-size-room.true, (c.requires.replaces t).few)))) in
    record {
      replaced = over;
      spares = record {
        edits = edits_more g.S.Space self.file size (size + 5) c.args.space.now c.write_at.new.space (omega arith) (edits_wrote g.S.Space self.file at size bytes c.args.space.now c.write_at.new.space (λ t. omega (arith, inside t)) (omega arith) c.in_ok-write_at.ensures.wrote);
        front = λ t. (let k = c.requires.replaces t in leaves_first h before after (is_valid h self.valid) (over t k.pieces k.r k.is k.whole k.laid k.block k.unpooled).front);
        notes = notes_refl self.pool;
      };
      beside = λ t. beside_more at size 0 5 before after (omega arith) (beside_wrote at bytes before after (omega (arith, inside t)) (c.in_ok-write_at.ensures.wrote t).here);
      long = λ t. ap length (c.in_ok-write_at.ensures.wrote t).here ∙ length_over at bytes before (omega (arith, inside t, (c.requires.replaces t).few));
    }

pub returns-then-size-room-clause-pool : goal.returns-then-size-room-clause-pool
returns-then-size-room-clause-pool g c = record { end = refl; whole = λ le q. refl; rest = λ lt. absurd (omega (arith, lt, c.size.ensures, c.if-size-room.true)) }

pub give_back-requires : goal.give_back-requires
give_back-requires g c =
    let self = c.args.self.now in
    let u : ℕ = self.pool.unit in
    let end : ℕ = self.pool.size in
    let free : Frees = frees self.pool in
    let before : List ℕ = g.S.Space.now c.args.space.now self.file in
    record {
      sound = c.in_ok-write_at.ensures.outcome.ok;
      within = λ t.
          let k = c.requires.replaces t in
          let n = ap length k.is in
          subst (λ (m : List ℕ). IsWithin u end free (c.args.at + length c.args.bytes.now) (c.args.room - length c.args.bytes.now) (length m)) (sym (c.in_ok-write_at.ensures.wrote t).here)
          (subst (λ (b : List ℕ). IsWithin u end free (c.args.at + length b) (c.args.room - length b) (length (wrote c.args.at b before))) (sym k.is)
          (rest_within u self.head.first end k.pieces free c.args.at c.args.room k.r before k.aligned k.laid k.block k.unpooled k.whole (omega (arith, n, c.size.ensures, c.if-size-room.false))));
    }

pub returns-clause-over : goal.returns-clause-over
returns-clause-over g c =
    let gave = c.in_ok-give_back.ensures.given in
    let self = c.args.self.now in
    let h = self.head in
    let u : ℕ = self.pool.unit in
    let at : ℕ = c.args.at in
    let room : ℕ = c.args.room in
    let free : Frees = frees self.pool in
    let free' : Frees = frees c.give_back.new.self.pool in
    let bytes : List ℕ = c.args.bytes.now in
    let size : ℕ = length bytes in
    let before : List ℕ = g.S.Space.now c.args.space.now self.file in
    let after : List ℕ = g.S.Space.now c.give_back.new.space self.file in
    let inside = λ (t : g.S.Space.tells). (let k = c.requires.replaces t in over_inside u h.first self.pool.size k.pieces free at room k.r before k.aligned k.laid k.block k.unpooled k.whole) in
    let over : (t : g.S.Space.tells) (ps : List Piece) (r : Record) → bytes ≡ spell (held r) → IsWhole u (held r) → LaidOut u h.first self.pool.size ps free none before → HasBlock h.first ps at c.args.room → free at ≡ None → Replaced u h.first self.pool.size ps free' at r before after = λ t ps r is whole laid block unpooled. (
    let here = (c.in_ok-write_at.ensures.wrote t).here in
    let n = ap length is in
    let given = subst (λ (b : List ℕ). IsGiven g.S.Space.tells free free' (at + length b) (room - length b) (wrote at b before) after) is (subst (λ (m : List ℕ). IsGiven g.S.Space.tells free free' (at + length bytes) (room - length bytes) m after) here gave.given) in
    let back = subst (λ (b : List ℕ). GoesBack u free free' (at + length b) (room - length b) (wrote at b before) after) is (subst (λ (m : List ℕ). GoesBack u free free' (at + length bytes) (room - length bytes) m after) here (gave.back t)) in
    over_front u h.first self.pool.size ps free at room r before (c.requires.replaces t).aligned laid block unpooled whole (omega (arith, n, c.size.ensures, c.if-size-room.false)) free' g.S.Space.tells after t given back) in
    record {
      replaced = over;
      spares = record {
        edits = edits_then g.S.Space self.file size 5 (size + 5) c.args.space.now c.write_at.new.space c.give_back.new.space (omega arith)
            (edits_wrote g.S.Space self.file at size bytes c.args.space.now c.write_at.new.space (λ t. omega (arith, inside t)) (omega arith) c.in_ok-write_at.ensures.wrote) gave.edits;
        front = λ t. (let k = c.requires.replaces t in leaves_first h before after (is_valid h self.valid) (over t k.pieces k.r k.is k.whole k.laid k.block k.unpooled).front);
        notes = gave.notes;
      };
      beside = λ t. beside_then at size 0 5 5 before (g.S.Space.now c.write_at.new.space self.file) after (omega arith) (beside_wrote at bytes before (g.S.Space.now c.write_at.new.space self.file) (omega (arith, inside t)) (c.in_ok-write_at.ensures.wrote t).here) (gave.edits.few t);
      long = λ t. gave.long t ∙ ap length (c.in_ok-write_at.ensures.wrote t).here ∙ length_over at bytes before (omega (arith, inside t, (c.requires.replaces t).few));
    }

pub returns-clause-pool : goal.returns-clause-pool
returns-clause-pool g c =
    let gave = c.in_ok-give_back.ensures.given in
    record {
      end = gave.same_size;
      whole = λ le q. absurd (omega (arith, le, c.size.ensures, c.if-size-room.false));
      rest = λ lt. record { size = gave.same_size; start = gave.given.start; total = gave.given.total; back = gave.given.back };
    }
