use Rattle.std.proofs.Common.{◌∙◌, inl, inr, ⊎_elim, ℕ, None, List, length, refl, sym, subst, arith}
use Rattle.std.specs.FinMap.{remove}
use Rattle.tc_base.specs.Maps.{Map}
use Rattle.tc_reach.proofs.Handed.{err_handed, on_err_any}
use Rattle.hf_head.specs.Heads.{is_large, unit}
use Rattle.hf_block.proofs.Blocking.{wide_most}
use Rattle.hf_layout.specs.Frees.{Frees, none}
use Rattle.hf_pool.specs.Pools.{frees, GoesBack}
use Rattle.hf_tree.specs.Views.{with_key}
use Rattle.hf_chain.specs.Chains.{Rehung}
use Rattle.hf_chain.specs.Costs.{Paid}
use Rattle.hf_record.specs.Holding.{HasMap}
use Rattle.hf_record.specs.Moves.{IsWithin}
use Rattle.hf_record.proofs.Differ.{edits_then}
use Rattle.hf_record.proofs.Finding.{here_record}
use Rattle.hf_record.proofs.Outs.{given_front, is_here, may_unhang, out_done, within}
use Rattle.hf_record.proofs.Room.{not_past}
use Rattle.hf_record.proofs.Spared.{leaves_first, leaves_links, leaves_then}
use Rattle.hf_record.proofs.Valid.{is_data, is_valid}
use Rattle.hf_record.proofs.body.Body.take_out.Goals as goal

pub unhang-requires-clause-hangs : goal.unhang-requires-clause-hangs
unhang-requires-clause-hangs g c =
    let self = c.args.self.now in
    let p = c.args.place.now in
    record {
      here = λ t.
          let m = c.requires.may.held t in
          may_unhang self.head self.pool.size (frees self.pool) m.0 c.args.key.now p.at c.args.room p.from (g.S.Space.now c.args.space.now self.file) (is_valid self.head self.valid) (c.requires.found.here t) m.1;
      known = c.requires.found.known;
    }

pub give_back-requires : goal.give_back-requires
give_back-requires g c =
    let self = c.args.self.now in
    let h = self.head in
    let p = c.args.place.now in
    let end : ℕ = self.pool.size in
    let free : Frees = frees self.pool in
    let before : List ℕ = g.S.Space.now c.args.space.now self.file in
    let middle : List ℕ = g.S.Space.now c.unhang.new.space self.file in
    let v = is_valid h self.valid in
    record {
      sound = c.in_ok-unhang.ensures.outcome.ok;
      within = λ t.
          let m = c.requires.may.held t in
          let s = c.requires.found.here t in
          let it = here_record h end m.1.pieces free m.1.places m.0 before c.args.key.now v m.1.is p.at p.from s in
          let x = c.in_ok-unhang.ensures.out.here t end m.1.pieces free none m.1.places c.args.key.now m.1.is.laid m.1.is.widths (is_here h end free m.0 c.args.key.now p.at c.args.room p.from before v s m.1) in
          subst (λ (u : ℕ). IsWithin u end free p.at c.args.room (length middle)) (sym self.unit_is)
          (within h end free m.0 c.args.key.now p.at c.args.room p.from before v s m.1 middle x ((c.requires.block t).is it.r it.has));
    }

pub returns-clause-out : goal.returns-clause-out
returns-clause-out g c =
    let gave = c.in_ok-give_back.ensures.given in
    let self = c.args.self.now in
    let h = self.head in
    let p = c.args.place.now in
    let key : List ℕ = c.args.key.now in
    let end : ℕ = self.pool.size in
    let free : Frees = frees self.pool in
    let now : Frees = frees c.give_back.new.self.pool in
    let before : List ℕ = g.S.Space.now c.args.space.now self.file in
    let middle : List ℕ = g.S.Space.now c.unhang.new.space self.file in
    let after : List ℕ = g.S.Space.now c.give_back.new.space self.file in
    let v = is_valid h self.valid in
    let out : (t : g.S.Space.tells) (n : Map) (m : HasMap h end free n before) → Rehung h end m.pieces free none (with_key m.places key None) 2 before middle = λ t n m. c.in_ok-unhang.ensures.out.here t end m.pieces free none m.places key m.is.laid m.is.widths (is_here h end free n key p.at c.args.room p.from before v (c.requires.found.here t) m) in
    record {
      sound = c.in_ok-give_back.ensures.outcome.ok;
      map = λ t n m.
          let s = c.requires.found.here t in
          let it = here_record h end m.pieces free m.places n before key v m.is p.at p.from s in
          let back = subst (λ (u : ℕ). GoesBack u free now p.at c.args.room middle after) self.unit_is (gave.back t) in
          subst (λ (e : ℕ). HasMap h e now (remove n key) after) (sym gave.same_size)
          (out_done h end free n key p.at c.args.room p.from before v s m middle (out t n m) ((c.requires.block t).is it.r it.has) now g.S.Space.tells after t gave.given back);
      spares = record {
        edits = edits_then g.S.Space self.file 16 5 21 c.args.space.now c.unhang.new.space c.give_back.new.space (omega arith)
            (record {
              others = c.in_ok-unhang.ensures.out.others;
              few = λ t. (let m = c.requires.may.held t in let x = out t m.0 m.1 in record { ranges = x.rest.ranges; few = omega (arith, x.rest.few, wide_most (is_large h)); differ = x.rest.differ });
            })
            gave.edits;
        front = λ t.
            let m = c.requires.may.held t in
            let s = c.requires.found.here t in
            let it = here_record h end m.1.pieces free m.1.places m.0 before key v m.1.is p.at p.from s in
            let x = out t m.0 m.1 in
            let w = within h end free m.0 key p.at c.args.room p.from before v s m.1 middle x ((c.requires.block t).is it.r it.has) in
            leaves_then h before middle after (leaves_links h 2 before middle x.rest)
            (leaves_first h middle after v (given_front (unit h) h.first end x.pieces free now none p.at c.args.room g.S.Space.tells middle after t x.is it.lies.low (omega (arith, w.inside)) gave.given));
        notes = gave.notes;
      };
      long = λ t. (let m = c.requires.may.held t in gave.long t ∙ (out t m.0 m.1).rest.long);
    }

pub returns-clause-pool : goal.returns-clause-pool
returns-clause-pool g c = let gave = c.in_ok-give_back.ensures.given in record { size = gave.same_size; start = gave.given.start; total = gave.given.total; back = gave.given.back }

pub returns-in_err-unhang-clause-full : goal.returns-in_err-unhang-clause-full
returns-in_err-unhang-clause-full g c = λ full.
    let self = c.args.self.now in
    let is = err_handed c.from_residual.result c.in_err-unhang.field-0.0 _ c.from_residual.ensures.1 full in
    let (spoiled, i) = c.in_err-unhang.ensures.full is in (
      spoiled,
      λ t. not_past g.S.Space g.met.S.Space.within self.file _ _ c.args.space.now c.unhang.new.space t c.requires.may.sound (is_data self.file self.data) (i.inside t) i.passes,
    )

pub returns-in_err-give_back-clause-full : goal.returns-in_err-give_back-clause-full
returns-in_err-give_back-clause-full g c = λ full. (c.in_err-give_back.ensures.outcome.err, c.in_err-give_back.ensures.full (err_handed c.from_residual-in_err-give_back.result c.in_err-give_back.field-0.0 _ c.from_residual-in_err-give_back.ensures.1 full))

pub returns-clause-paid : goal.returns-clause-paid
returns-clause-paid g c = subst (λ (n : ℕ). Paid 40 c.args.steps.now c.unhang.new.steps (g.S.Space.bytes_read c.args.space.now) n) (sym c.give_back.ensures.writes.counted) c.unhang.ensures.paid

pub returns-in_err-give_back-clause-paid : goal.returns-in_err-give_back-clause-paid
returns-in_err-give_back-clause-paid g c = subst (λ (n : ℕ). Paid 40 c.args.steps.now c.unhang.new.steps (g.S.Space.bytes_read c.args.space.now) n) (sym c.give_back.ensures.writes.counted) c.unhang.ensures.paid

pub returns-in_err-unhang-clause-refused : goal.returns-in_err-unhang-clause-refused
returns-in_err-unhang-clause-refused g c = on_err_any c.from_residual.result (⊎_elim (λ r. inr (r, refl)) (λ s. inl s) c.in_err-unhang.ensures.outcome.err)
