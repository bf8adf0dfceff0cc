use Rattle.std.proofs.Common.{◌≡◌, ◌∙◌, inl, inr, ⊎_elim, ℕ, ◌+◌, ◌%◌, List, length, max, refl, sym, ap, subst, arith}
use Rattle.std.specs.FinMap.{insert}
use Rattle.tc_base.specs.Maps.{Map}
use Rattle.tc_reach.proofs.Handed.{err_handed}
use Rattle.hf_head.specs.declared.head.Head.{Head}
use Rattle.hf_head.specs.Heads.{is_large, unit}
use Rattle.hf_block.proofs.Blocking.{wide_most}
use Rattle.hf_block.specs.Pieces.{Record}
use Rattle.hf_layout.specs.Frees.{Frees}
use Rattle.hf_pool.specs.Pools.{Takes, frees}
use Rattle.hf_record.specs.Allocating.{HoldsWritten}
use Rattle.hf_record.specs.Changing.{record_in, size_in}
use Rattle.hf_chain.specs.Chains.{MayHang}
use Rattle.hf_chain.specs.Differs.{OnlyLinks}
use Rattle.hf_chain.specs.Linking.{ChangesBy, IsHung}
use Rattle.hf_record.specs.Filling.{reach}
use Rattle.hf_record.specs.Holding.{Has}
use Rattle.hf_record.specs.Moves.{Added, LacksPlace}
use Rattle.hf_record.proofs.Bytes.{written_zeros}
use Rattle.hf_record.proofs.Differ.{beside_then, edits_then}
use Rattle.hf_record.specs.Costs.{FewBeside, FewDiffer}
use Rattle.hf_tree.specs.Links.{width}
use Rattle.hf_record.proofs.Puts.{may_hang, put_done, rehung}
use Rattle.hf_record.proofs.Room.{along, err_inner, err_of, not_past}
use Rattle.hf_record.proofs.Spared.{leaves_links, leaves_then}
use Rattle.hf_record.proofs.Valid.{is_data, is_valid}
use Rattle.hf_record.proofs.body.Body.hang_new.Goals as goal

pub add-requires-clause-sized : goal.add-requires-clause-sized
add-requires-clause-sized g c =
    let are = c.in-Ok.ensures.bytes in
    let n = ap length c.as_slice.ensures in
    let m = ap length are.is in
    record { some = omega (arith, n, m, are.whole.size.some); most = omega (arith, n, are.most); aligned = ap (λ (k : ℕ). k % unit c.args.self.now.head) (n ∙ m) ∙ are.whole.size.aligned }

pub hang-requires-clause-gap : goal.hang-requires-clause-gap
hang-requires-clause-gap g c = λ t.
    let self = c.args.self.now in
    let h = self.head in
    let r : Record = record_in h c.second_hash.result 0 0 c.args.key.now c.args.value.now in
    let are = c.in-Ok.ensures.bytes in
    let m = c.requires.may.held t in
    let a = c.in_ok-place.ensures.added.added t r m.1.pieces (c.as_slice.ensures ∙ are.is) are.whole m.1.is.laid in
    let P : Head → ℕ → Type 0 = λ x f. MayHang x c.in_ok-place.place c.args.to.now (g.S.Space.now c.add.new.space f) in
    along P c.add.new.self.head h c.add.new.self.file self.file c.add.ensures.stays.head c.add.ensures.stays.file
    (may_hang h self.pool.size c.add.new.self.pool.size (frees self.pool) (frees c.add.new.self.pool) c.in_ok-place.place r (g.S.Space.now c.args.space.now self.file) (g.S.Space.now c.add.new.space self.file) (g.S.Space.now c.add.new.space self.file) c.args.key.now c.args.to.now (is_valid h self.valid) (c.requires.gap t) refl c.second_hash.ensures refl refl refl m.0 m.1 a)

pub returns-clause-put : goal.returns-clause-put
returns-clause-put g c =
    let self = c.args.self.now in
    let h = self.head in
    let end : ℕ = self.pool.size in
    let end' : ℕ = c.add.new.self.pool.size in
    let key : List ℕ = c.args.key.now in
    let value : List ℕ = c.args.value.now in
    let long : ℕ = size_in self key value in
    let before : List ℕ = g.S.Space.now c.args.space.now self.file in
    let middle : List ℕ = g.S.Space.now c.add.new.space self.file in
    let after : List ℕ = g.S.Space.now c.hang.new.space self.file in
    let place : ℕ = c.in_ok-place.place in
    let free' : Frees = frees c.add.new.self.pool in
    let r : Record = record_in h c.second_hash.result 0 0 key value in
    let are = c.in-Ok.ensures.bytes in
    let v = is_valid h self.valid in
    let adds = c.in_ok-place.ensures.added in
    let P : Head → ℕ → Type 0 = λ x f. ChangesBy g.S.Space f (IsHung x place c.args.to.now) c.add.new.space c.hang.new.space in
    let hung : P h self.file = along P h c.add.new.self.head self.file c.add.new.self.file (sym c.add.ensures.stays.head) (sym c.add.ensures.stays.file) c.in_ok-hang.ensures.hung in
    let long_as : length c.as_slice.result.now ≡ long = ap length c.as_slice.ensures ∙ are.long in
    let added : (t : g.S.Space.tells) (n : Map) (m : Has self before n) → Added (unit h) h.first end' m.pieces free' place r before middle = λ t n m. adds.added t r m.pieces (c.as_slice.ensures ∙ are.is) are.whole m.is.laid in
    let links : g.S.Space.tells → OnlyLinks h 1 middle after = λ t. (let m = c.requires.may.held t in (rehung h end end' (frees self.pool) free' place r before middle after key c.args.to.now v (c.requires.gap t) refl c.second_hash.ensures refl refl refl m.0 m.1 (added t m.0 m.1) (hung.here t)).rest) in
    let few_links : (t : g.S.Space.tells) → FewDiffer 8 middle after = λ t. (let x = links t in record { ranges = x.ranges; few = omega (arith, x.few, wide_most (is_large h)); differ = x.differ }) in
    record {
      place = place;
      puts = record {
        sound = c.in_ok-hang.ensures.outcome.ok;
        map = λ t n m.
            subst (λ (k : ℕ). HoldsWritten h end' free' (insert n key value) key place k after) (sym (ap length are.is) ∙ are.long)
            (put_done h end end' (frees self.pool) free' place r before middle after key c.args.to.now v (c.requires.gap t) refl c.second_hash.ensures refl refl refl n m (added t n m) adds.low (hung.here t) (written_zeros (width h) c.second_hash.result 0 0 key value (unit h)));
        spares = record {
          edits = edits_then g.S.Space self.file (length c.as_slice.result.now + 5) 8 (long + 13) c.args.space.now c.add.new.space c.hang.new.space (omega (arith, long_as))
              adds.spares.edits
              (record { others = hung.others; few = few_links });
          front = λ t. leaves_then h before middle after (adds.spares.front t) (leaves_links h 1 middle after (links t));
          notes = adds.spares.notes;
        };
        beside = λ t. beside_then place long 5 8 13 before middle after (omega arith) (subst (λ (n : ℕ). FewBeside place n 5 before middle) long_as (adds.beside t)) (few_links t);
        long = λ t. (links t).long ∙ adds.long t ∙ ap (λ (n : ℕ). max (length before) (place + n)) long_as;
      };
      takes = subst (λ (k : ℕ). Takes (reach h) self.pool c.add.new.self.pool k place) long_as adds.taken;
    }

pub returns-in_err-place-clause-full : goal.returns-in_err-place-clause-full
returns-in_err-place-clause-full g c = λ full t.
    ⊎_elim (λ none. inr (none.0, inr none.1)) (λ log. inl log) (subst (λ (k : ℕ). LacksPlace g.S.Space c.args.self.now c.args.space.now c.add.new.space k) (ap length c.as_slice.ensures ∙ c.in-Ok.ensures.bytes.long)
    (c.in_err-place.ensures.full (err_handed c.from_residual.result c.in_err-place.field-0.0 _ c.from_residual.ensures.1 full) t))

pub returns-in-Err-clause-full : goal.returns-in-Err-clause-full
returns-in-Err-clause-full g c = λ full t. let f = c.refused_for.ensures.full (err_inner c.refused_for.result _ full) in inr (f.1 c.args.self.now.file, inl (c.in-Err.ensures.full (err_of c.in-Err.e _ f.0)))

pub returns-in_err-hang-clause-full : goal.returns-in_err-hang-clause-full
returns-in_err-hang-clause-full g c = λ full t.
    let i = c.in_err-hang.ensures.full (err_handed c.from_residual-in_err-hang.result c.in_err-hang.field-0.0 _ c.from_residual-in_err-hang.ensures.1 full) in
    inl (not_past g.S.Space g.met.S.Space.within c.add.new.self.file _ _ c.add.new.space c.hang.new.space t c.in_ok-place.ensures.outcome.ok (is_data c.add.new.self.file c.add.new.self.data) (i.inside t) i.passes)

pub returns-in-Err-clause-cause : goal.returns-in-Err-clause-cause
returns-in-Err-clause-cause g c = λ is. ⊎_elim (λ was. absurd (c.in-Err.ensures.fault (err_of c.in-Err.e _ was))) (λ rose. rose) (c.refused_for.ensures.fault (err_inner c.refused_for.result _ is))
