use Rattle.std.proofs.Common.{◌≡◌, ◌∙◌, inl, inr, ⊎_elim, ℕ, ◌+◌, List, suc, take, drop, ap, subst, arith}
use Rattle.std.proofs.lemmas.List.{take_all}
use Rattle.tc_base.specs.declared.seq.Pair.{Pair}
use Rattle.tc_hash.proofs.Enlarged.{ends_behind, ends_more, lacks_end, parted_at, put_more, still_nothing}
use Rattle.tc_hash.proofs.Stored.{stays_then}
use Rattle.tc_hash.specs.Keeping.{Means, Turns, file_of}
use Rattle.tc_hash.specs.Packing.{blocks_long, with_pairs}
use Rattle.tc_reach.proofs.Handed.{err_handed}
use Rattle.tc_space.specs.Frames.{keeps_then}
use Rattle.tc_space.specs.Stores.{Only, ready_writes}
use Rattle.tc_hash.proofs.hash.Hash.put_pairs.Goals as goal

pub insert_absent-requires : goal.insert_absent-requires
insert_absent-requires g c = record { ready = ready_writes g.S.Space (Means g.S.Space) (Only (file_of c.args.self.now)) _ c.args.self.now c.loop-i.self c.args.space.now c.loop-i.space c.loop-i.invariant.writes c.requires.ready }

pub returns-in_err-insert_absent-clause-full : goal.returns-in_err-insert_absent-clause-full
returns-in_err-insert_absent-clause-full g c = λ full t. ⊎_elim
    (λ log. inl log)
    (λ lacks. inr (record {
      before = take c.loop-i.i c.args.pairs.now;
      pair = c.at-pair.result.now;
      after = drop (suc c.loop-i.i) c.args.pairs.now;
      are = parted_at c.loop-i.i c.args.pairs.now c.at-pair.result.now c.at-pair.ensures;
      lacks = lacks;
    }))
    (lacks_end g.S.Space c.args.self.now c.loop-i.self c.insert_absent.new.space _ _ _ _ _ c.as_slice.ensures c.as_slice-in-loop-i.ensures c.loop-i.invariant.stays c.loop-i.invariant.nothing c.loop-i.invariant.ends c.loop-i.space (c.in_err-insert_absent.ensures.full (err_handed c.from_residual.result c.in_err-insert_absent.field-0.0 _ c.from_residual.ensures.1 full) t))

pub loop-i-preserved : goal.loop-i-preserved
loop-i-preserved g c = record {
  writes = put_more g.S.Space c.args.self.now c.loop-i.self c.insert_absent.new.self c.args.space.now c.loop-i.space c.insert_absent.new.space c.args.pairs.now c.loop-i.i c.at-pair.result.now _ _ c.as_slice.ensures c.as_slice-in-loop-i.ensures c.at-pair.ensures c.loop-i.invariant.stays c.loop-i.invariant.writes c.in_ok-insert_absent.ensures.put.gives;
  nothing = still_nothing _ _ c.in_ok-insert_absent.ensures.put.place c.loop-i.self.body.pool c.insert_absent.new.self.body.pool c.in_ok-insert_absent.ensures.put.takes c.loop-i.invariant.nothing;
  ends = ends_more g.S.Space c.args.self.now c.loop-i.self c.insert_absent.new.self c.args.pairs.now c.loop-i.i c.at-pair.result.now _ _ c.as_slice.ensures c.as_slice-in-loop-i.ensures c.at-pair.ensures c.loop-i.invariant.stays (ends_behind _ _ c.in_ok-insert_absent.ensures.put.place c.loop-i.self.body.pool c.insert_absent.new.self.body.pool c.in_ok-insert_absent.ensures.put.takes c.loop-i.invariant.nothing) c.loop-i.invariant.ends;
  front = λ t. subst (λ (f : ℕ). take 256 (g.S.Space.now c.insert_absent.new.space f) ≡ take 256 (g.S.Space.now c.loop-i.space f)) c.loop-i.invariant.stays.map.file (c.in_ok-insert_absent.ensures.put.gives.front t) ∙ c.loop-i.invariant.front t;
  keeps = keeps_then g.S.Space c.args.space.now c.loop-i.space c.insert_absent.new.space c.loop-i.invariant.keeps c.insert_absent.ensures.keeps;
  stays = stays_then c.args.self.now c.loop-i.self c.insert_absent.new.self c.loop-i.invariant.stays c.insert_absent.ensures.stays;
}

pub returns-clause-put : goal.returns-clause-put
returns-clause-put g c =
    let i = c.loop-i.invariant in
    let all : take c.loop-i.i c.args.pairs.now ≡ c.args.pairs.now = take_all c.loop-i.i c.args.pairs.now (omega (arith, c.loop-i-test.false, c.len-i-end.ensures)) in
    record {
      writes = subst (λ (ps : List Pair). Turns g.S.Space (λ m. with_pairs m ps) c.args.self.now c.loop-i.self c.args.space.now c.loop-i.space) all i.writes;
      nothing = i.nothing;
      ends = i.ends ∙ ap (λ (ps : List Pair). c.args.self.now.body.pool.size + blocks_long c.args.self.now.body.head ps) all;
      front = i.front;
    }
