use Rattle.std.proofs.Common.{◌≡◌, ◌∙◌, ℕ, ◌+◌, List, length, refl, sym, ap, subst, arith}
use Rattle.std.specs.FinMap.{insert}
use Rattle.hf_head.specs.Heads.{unit}
use Rattle.hf_block.specs.Pieces.{Record, held, size_of, IsWhole}
use Rattle.hf_chain.specs.declared.heads.RecHead.{RecHead}
use Rattle.hf_layout.proofs.Shares.{ends, ends_within}
use Rattle.hf_layout.proofs.Standing.{record_is_block}
use Rattle.hf_layout.specs.Frees.{Frees, none}
use Rattle.hf_layout.specs.Layout.{LaidOut}
use Rattle.hf_pool.specs.Pools.{frees}
use Rattle.hf_record.specs.Allocating.{HoldsWritten, Shortens}
use Rattle.hf_record.specs.Changing.{record_in, size_in}
use Rattle.hf_record.specs.Moves.{MayReplace, Replaced}
use Rattle.hf_record.specs.Costs.{FewBeside}
use Rattle.hf_record.proofs.Bytes.{written_zeros}
use Rattle.hf_record.proofs.Finding.{here_record}
use Rattle.hf_tree.specs.Links.{width}
use Rattle.hf_record.proofs.Room.{err_as}
use Rattle.hf_record.proofs.Spared.{spares_more}
use Rattle.hf_record.proofs.Valid.{is_valid}
use Rattle.hf_record.proofs.Writing.{over_done}
use Rattle.hf_record.proofs.body.Body.replace.Goals as goal

pub write_over-requires : goal.write_over-requires
write_over-requires g c =
    let self = c.args.self.now in
    let h = self.head in
    let p = c.args.place.now in
    let end : ℕ = self.pool.size in
    let free : Frees = frees self.pool in
    let before : List ℕ = g.S.Space.now c.args.space.now self.file in
    let are = c.in-Ok.ensures.bytes in
    let v = is_valid h self.valid in
    record {
      sound = c.requires.ready.may.sound;
      replaces = λ t.
          let m = c.requires.ready.may.held t in
          let it = here_record h end m.1.pieces free m.1.places m.0 before c.args.key.now v m.1.is p.at p.from (c.requires.ready.found.here t) in
          let b = record_is_block (unit h) h.first end p.at m.1.pieces free none before it.r m.1.is.laid it.is in
          subst (λ (u : ℕ). MayReplace u h.first end free p.at c.args.room c.as_slice.result.now before) (sym self.unit_is)
          (record {
            pieces = m.1.pieces;
            r = record_in h p.rec.hash p.rec.left p.rec.right c.args.key.now c.args.value.now;
            laid = m.1.is.laid;
            block = (b.0.0, b.0.1, b.0.2 ∙ sym ((c.requires.ready.block t).is it.r it.has));
            unpooled = b.1;
            aligned = v.numbers.first_aligned;
            is = c.as_slice.ensures ∙ are.is;
            whole = are.whole;
            few = omega (arith, ap length c.as_slice.ensures, are.long, c.requires.fits.within);
          });
    }

pub returns-clause-put : goal.returns-clause-put
returns-clause-put g c =
    let self = c.args.self.now in
    let h = self.head in
    let p = c.args.place.now in
    let key : List ℕ = c.args.key.now in
    let value : List ℕ = c.args.value.now in
    let end : ℕ = self.pool.size in
    let free : Frees = frees self.pool in
    let free' : Frees = frees c.write_over.new.self.pool in
    let before : List ℕ = g.S.Space.now c.args.space.now self.file in
    let after : List ℕ = g.S.Space.now c.write_over.new.space self.file in
    let v = is_valid h self.valid in
    let same = self.unit_is in
    let r : Record = record_in h p.rec.hash p.rec.left p.rec.right key value in
    let are = c.in-Ok.ensures.bytes in
    let long_as : length c.as_slice.result.now ≡ size_in self key value = ap length c.as_slice.ensures ∙ are.long in
    let over = c.in_ok-write_over.ensures.over in
    let short = c.in_ok-write_over.ensures.pool in
    record {
      sound = c.in_ok-write_over.ensures.outcome.ok;
      map = λ t n m.
          let it = here_record h end m.pieces free m.places n before key v m.is p.at p.from (c.requires.ready.found.here t) in
          let b = record_is_block (unit h) h.first end p.at m.pieces free none before it.r m.is.laid it.is in
          let head = c.requires.ready.found.known.is t it.r it.has in
          let done = over.replaced t m.pieces r (c.as_slice.ensures ∙ are.is) (subst (λ (u : ℕ). IsWhole u (held r)) (sym same) are.whole) (subst (λ (u : ℕ). LaidOut u h.first end m.pieces free none before) (sym same) m.is.laid) (b.0.0, b.0.1, b.0.2 ∙ sym ((c.requires.ready.block t).is it.r it.has)) b.1 in
          let o = subst (λ (u : ℕ). Replaced u h.first end m.pieces free' p.at r before after) same done in
          subst (λ (k : ℕ). HoldsWritten h c.write_over.new.self.pool.size free' (insert n key value) key p.at k after) (sym (ap length are.is) ∙ are.long)
          (subst (λ (x : ℕ). HoldsWritten h x free' (insert n key value) key p.at (size_of (held r)) after) (sym short.end)
          (over_done h end free free' n key p.at r before after v m it o refl (ap (λ (z : RecHead). z.hash) head) (ap (λ (z : RecHead). z.left) head) (ap (λ (z : RecHead). z.right) head) refl (written_zeros (width h) p.rec.hash p.rec.left p.rec.right key value (unit h))));
      spares = spares_more g.S.Space (length c.as_slice.result.now + 5) (size_in self key value + 5) self c.write_over.new.self c.args.space.now c.write_over.new.space (omega (arith, long_as)) over.spares;
      beside = λ t. subst (λ (n : ℕ). FewBeside p.at n 5 before after) long_as (over.beside t);
      long = λ t.
          let m = c.requires.ready.may.held t in
          let it = here_record h end m.1.pieces free m.1.places m.0 before key v m.1.is p.at p.from (c.requires.ready.found.here t) in
          let b = record_is_block (unit h) h.first end p.at m.1.pieces free none before it.r m.1.is.laid it.is in
          let high = ends_within (unit h) h.first m.1.pieces b.0.0 p.at b.0.1 in
          let last = ends (unit h) h.first end m.1.pieces free none before m.1.is.laid in
          let room = (c.requires.ready.block t).is it.r it.has in
          omega (arith, over.long t, c.requires.fits.within, high.1, last, m.1.is.laid.within, b.0.2, room);
    }

pub returns-clause-pool : goal.returns-clause-pool
returns-clause-pool g c =
    let self = c.args.self.now in
    let long_as : length c.as_slice.result.now ≡ size_in self c.args.key.now c.args.value.now = ap length c.as_slice.ensures ∙ c.in-Ok.ensures.bytes.long in
    subst (λ (k : ℕ). Shortens k c.args.place.now.at c.args.room self.pool c.write_over.new.self.pool) long_as c.in_ok-write_over.ensures.pool

pub returns-in-Err-clause-full : goal.returns-in-Err-clause-full
returns-in-Err-clause-full g c = λ full t. absurd (omega (arith, c.in-Err.ensures.full (err_as c.in-Err.e _ full), c.requires.fits.most))
