use Rattle.std.proofs.Common.{◌≡◌, ◌∙◌, ℕ, List, length, take, drop, arith, ap, sym, Some}
use Rattle.std.proofs.lemmas.List.{take_at}
use Rattle.hf_head.specs.Heads.{unit}
use Rattle.hf_pool.specs.Pools.{frees}
use Rattle.hf_chain.specs.declared.heads.RecHead.{RecHead}
use Rattle.hf_record.proofs.Finding.{here_record}
use Rattle.hf_record.proofs.Searched.{found_head}
use Rattle.hf_record.proofs.Valid.{is_data, is_valid}
use Rattle.hf_record.proofs.Values.{value_in_bytes, value_inside, value_start}
use Rattle.hf_record.proofs.body.Body.value_at.Goals as goal

pub read_into-requires-clause-reaches : goal.read_into-requires-clause-reaches
read_into-requires-clause-reaches g c =
    let self = c.args.self.now in
    record {
      file = is_data self.file self.data;
      inside = λ t.
          let bytes : List ℕ = g.S.Space.now c.args.space.now self.file in
          let p = c.args.place.now in
          let held = c.requires.may.held t in
          let w = found_head g.S.Space self c.args.key.now c.args.space.now held.0 p t held.1 c.requires.found in
          let start = value_start (unit self.head) w.r p.rec p.at _ _ bytes w.has.is w.head (c.requires.found.known.long t) c.saturating_add.ensures c.saturating_add-start.ensures in
          omega (arith, start, value_inside (unit self.head) w.r p.at bytes w.has.is, ap (λ (x : RecHead). x.value) w.head, c.in_ok-value.ensures.len, c.deref_mut.ensures.len);
    }

pub returns-clause-value : goal.returns-clause-value
returns-clause-value g c = λ t m has.
    let self = c.args.self.now in
    let bytes : List ℕ = g.S.Space.now c.args.space.now self.file in
    let p = c.args.place.now in
    let it = here_record self.head self.pool.size has.pieces (frees self.pool) has.places m bytes c.args.key.now (is_valid self.head self.valid) has.is p.at p.from (c.requires.found.here t) in
    let head = c.requires.found.known.is t it.r it.has in
    let start = value_start (unit self.head) it.r p.rec p.at _ _ bytes it.has.is head (c.requires.found.known.long t) c.saturating_add.ensures c.saturating_add-start.ensures in
    let long : length c.deref_mut.result.now ≡ length it.r.value = omega (arith, c.in_ok-value.ensures.len, c.deref_mut.ensures.len, ap (λ (x : RecHead). x.value) head) in
    let value : c.read_into.new.into ≡ it.r.value = c.in_ok-read_into.ensures.bytes t ∙ (λ i. take (long i) (drop (start i) bytes)) ∙ value_in_bytes (unit self.head) it.r p.at bytes it.has.is in
    let now = c.from_vec.ensures ∙ take_at c.read_into.new.into _ _ (omega (arith, ap length value, c.in_ok-value.ensures.len, ap (λ (x : RecHead). x.value) head)) ∙ value in
    it.value_is ∙ ap (λ (l : List ℕ). Some l) (sym now)

pub returns-clause-size : goal.returns-clause-size
returns-clause-size g c =
    let same : length c.read_into.new.into ≡ length c.deref_mut.result.now = c.read_into.auto.into in
    let e = c.from_vec.ensures ∙ take_at c.read_into.new.into _ _ (omega (arith, same, c.deref_mut.ensures.len, c.in_ok-value.ensures.len)) in
    omega (arith, ap length e, same, c.deref_mut.ensures.len, c.in_ok-value.ensures.len)

pub returns-clause-counted : goal.returns-clause-counted
returns-clause-counted g c = omega (arith, c.read_into.ensures.counted, c.deref_mut.ensures.len, c.in_ok-value.ensures.len)
