use Rattle.std.proofs.Common.{◌∙◌, inl, inr, ⊎_elim, ℕ, List, ap, subst}
use Rattle.tc_hash.proofs.Enlarged.{in_before, large_before, packed_after, writes_before}
use Rattle.tc_hash.proofs.Records.{can_change, looks_again, refuses_after, still_ready, turns_after}
use Rattle.tc_hash.proofs.Stored.{from_done, from_refused}
use Rattle.tc_hash.specs.Keeping.{Means}
use Rattle.tc_hash.specs.declared.hash.Hash.{Hash}
use Rattle.tc_hash.specs.Packing.{ArePairs}
use Rattle.tc_reach.proofs.Handed.{on_err_any}
use Rattle.tc_space.specs.Frames.{refuses_then}
use Rattle.tc_space.specs.Stores.{ready_reads}
use Rattle.tc_hash.proofs.hash.Hash.enlarge.Goals as goal

pub pairs_of-requires : goal.pairs_of-requires
pairs_of-requires g c = can_change g.S.Space c.keys.new.self c.keys.new.space (ready_reads g.S.Space (Means g.S.Space) c.args.self.now c.keys.new.self c.args.space.now c.keys.new.space c.keys.ensures.reads c.requires)

pub write_large-requires : goal.write_large-requires
write_large-requires g c = record {
  ready = still_ready g.S.Space c.keys.new.self c.keys.new.space c.pairs_of.new.space c.pairs_of.ensures.reads (ready_reads g.S.Space (Means g.S.Space) c.args.self.now c.keys.new.self c.args.space.now c.keys.new.space c.keys.ensures.reads c.requires);
  are = λ m w.
      let v = c.keys.new.self in
      let old = in_before g.S.Space c.args.self.now v c.args.space.now c.pairs_of.new.space m c.keys.ensures.same (λ t f. c.pairs_of.ensures.reads.files t f ∙ c.keys.ensures.reads.now t f) w in
      let now = c.keys.ensures.reads.means m old in
      subst (λ (ks : List (List ℕ)). ArePairs m ks c.in_ok-pairs.pairs) (c.in_ok-keys.ensures.value m old) (c.in_ok-pairs.ensures.pairs w.0 m now.1.map.has);
}

pub returns-clause-packed : goal.returns-clause-packed
returns-clause-packed g c = from_done _ c.write_large.ensures.packed (λ packed. packed_after g.S.Space c.args.self.now c.keys.new.self c.write_large.new.self c.args.space.now c.keys.new.space c.write_large.new.space c.keys.ensures.reads c.keys.ensures.stays.map.file
    (turns_after g.S.Space _ c.keys.new.self c.write_large.new.self c.keys.new.space c.pairs_of.new.space c.write_large.new.space c.pairs_of.ensures.reads packed))

pub returns-clause-refused : goal.returns-clause-refused
returns-clause-refused g c = from_refused _ c.write_large.ensures.refused (λ refused. refuses_then g.S.Space (Means g.S.Space) c.args.self.now c.keys.new.self c.write_large.new.self c.args.space.now c.keys.new.space c.write_large.new.space c.keys.ensures.reads
    (refuses_after g.S.Space c.keys.new.self c.write_large.new.self c.keys.new.space c.pairs_of.new.space c.write_large.new.space c.pairs_of.ensures.reads refused))

pub returns-clause-full : goal.returns-clause-full
returns-clause-full g c = λ full t. ⊎_elim
    (λ log. inl log)
    (λ large. inr (large_before g.S.Space c.args.self.now c.keys.new.self c.args.space.now c.pairs_of.new.space c.write_large.new.space c.keys.ensures.same (λ u f. c.pairs_of.ensures.reads.files u f ∙ c.keys.ensures.reads.now u f) large))
    (c.write_large.ensures.full full t)

pub returns-in_err-keys-clause-refused : goal.returns-in_err-keys-clause-refused
returns-in_err-keys-clause-refused g c = on_err_any c.from_residual.result (inr c.keys.ensures.reads)

pub returns-in_err-pairs-clause-refused : goal.returns-in_err-pairs-clause-refused
returns-in_err-pairs-clause-refused g c = on_err_any c.from_residual-in_err-pairs.result (refuses_then g.S.Space (Means g.S.Space) c.args.self.now c.keys.new.self c.keys.new.self c.args.space.now c.keys.new.space c.pairs_of.new.space c.keys.ensures.reads (inr (looks_again g.S.Space c.keys.new.self c.keys.new.space c.pairs_of.new.space c.pairs_of.ensures.reads)))

pub returns-in_err-keys-clause-left : goal.returns-in_err-keys-clause-left
returns-in_err-keys-clause-left g c = on_err_any _ (inr (ap (λ (h : Hash _). h.body.head) c.keys.ensures.same))

pub returns-in_err-pairs-clause-left : goal.returns-in_err-pairs-clause-left
returns-in_err-pairs-clause-left g c = on_err_any _ (inr (ap (λ (h : Hash _). h.body.head) c.keys.ensures.same))

pub returns-clause-left : goal.returns-clause-left
returns-clause-left g c = from_refused _ c.write_large.ensures.left (λ left. ⊎_elim (λ spoiled. inl spoiled) (λ same. inr (same ∙ ap (λ (h : Hash _). h.body.head) c.keys.ensures.same)) left)

pub returns-clause-writes : goal.returns-clause-writes
returns-clause-writes g c = from_done _ c.write_large.ensures.writes (λ writes. writes_before g.S.Space c.args.self.now c.keys.new.self c.write_large.new.self c.args.space.now c.pairs_of.new.space c.write_large.new.space c.keys.ensures.same (λ u f. c.pairs_of.ensures.reads.files u f ∙ c.keys.ensures.reads.now u f) writes)
