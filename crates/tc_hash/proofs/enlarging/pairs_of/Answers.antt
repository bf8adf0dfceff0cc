use Rattle.std.proofs.Common.{◌∙◌, ℕ, List, length, sym, ap, subst}
use Rattle.hf_record.proofs.Records.{can_after}
use Rattle.hf_record.specs.Holding.{Has}
use Rattle.std.proofs.lemmas.Iterator.Adapters.{YieldsList-from_vec}
use Rattle.std.proofs.lemmas.Iterator.Consumers.{YieldsList-end}
use Rattle.tc_hash.proofs.Enlarged.{mapped_same, one_pair}
use Rattle.tc_hash.specs.Packing.{ArePairs}
use Rattle.tc_space.specs.Frames.{only_reads_then}
use Rattle.tc_hash.proofs.enlarging.pairs_of.Goals as goal

pub add_pair-requires : goal.add_pair-requires
add_pair-requires g c = can_after g.S.Space c.args.body.now c.args.space.now c.loop-key.space c.loop-key.invariant.reads c.requires

pub loop-key-preserved : goal.loop-key-preserved
loop-key-preserved g c = record {
  reads = only_reads_then g.S.Space c.args.space.now c.loop-key.space c.add_pair.new.space c.loop-key.invariant.reads c.add_pair.ensures.reads;
  are = λ t m has.
      let now = subst (λ (l : List ℕ). Has c.args.body.now l m) (sym (c.loop-key.invariant.reads.files t c.args.body.now.file)) has in
      let w = c.in_ok-add_pair.ensures.added t m now in
      one_pair m c.loop-key.yielded c.loop-key.pairs c.add_pair.new.pairs (record { key = c.in-Some.key; value = w.0 }) (c.loop-key.invariant.are t m has) w.1 w.2;
}

pub returns-clause-pairs : goal.returns-clause-pairs
returns-clause-pairs g c = λ t m has.
    let gives = c.into_iter-key-iterator.ensures.into_iter_gives in
    let road = YieldsList-from_vec {s = c.into_iter-key-iterator.result} c.args.keys (gives.0 ∙ c.into_vec-key-items.ensures) (gives.1 ∙ (c.into_vec-key-items.result.ok.0 ∙ ap length c.into_vec-key-items.ensures)) in
    let end_of = YieldsList-end road c.loop-key.yielded c.loop-key.key-iterator c.loop-key.yielded_by c.next.result c.next.new.self c.in-None.is c.next.ensures.steps in
    subst (λ (ks : List (List ℕ)). ArePairs m ks c.loop-key.pairs) (sym (mapped_same c.loop-key.yielded) ∙ end_of.0) (c.loop-key.invariant.are t m has)
