use Rattle.std.proofs.Common.{ℕ, List, refl, arith}
use Rattle.tc_hash.proofs.Fronted.{anew_as, numbers_left}
use Rattle.tc_hash.proofs.KeysRead.{can_list}
use Rattle.tc_hash.proofs.Packed.{packed_fills, packed_holds}
use Rattle.tc_hash.proofs.Records.{from_looks}
use Rattle.tc_reach.proofs.Handed.{on_err_any}
use Rattle.tc_hash.proofs.hash.Hash.pack_kept.Goals as goal

pub pack_file-requires : goal.pack_file-requires
pack_file-requires g c = can_list g.S.Space c.args.self.now c.head_now-head.result c.args.space.now c.head_now-head.ensures (omega arith) (omega arith) c.requires

pub returns-in-Ok-clause-packed : goal.returns-in-Ok-clause-packed
returns-in-Ok-clause-packed g c =
    let self = c.args.self.now in
    let old : List ℕ = g.S.Space.now c.args.space.now self.body.file in
    let new : List ℕ = g.S.Space.now c.pack_file.new.space self.body.file in
    let done = c.in_ok-end.ensures in
    record {
      sound = done.done.0;
      means = λ m w. (
        w.0,
        anew_as _ self.body.head c.in-Ok.pool self.records new m refl refl refl refl c.in-Ok.ensures.noted
            (packed_holds self.body.head c.head_now-head.result self.body.pool c.in-Ok.pool self.records self.region m old new c.in_ok-end.end c.head_now-head.ensures (done.packed w.0) c.in-Ok.ensures.size c.in-Ok.ensures.nothing w.1.map) (numbers_left self.body.head old new (done.head w.0) w.1.numbers),
      );
      others = done.done.1;
    }

pub returns-in-Ok-clause-moves : goal.returns-in-Ok-clause-moves
returns-in-Ok-clause-moves g c =
    let self = c.args.self.now in
    let done = c.in_ok-end.ensures in
    record {
      head = refl;
      front = λ t. done.head t;
      blocks = λ m w. packed_fills self.body.head c.head_now-head.result self.body.pool c.in-Ok.pool self.records self.region m (g.S.Space.now c.args.space.now self.body.file) (g.S.Space.now c.pack_file.new.space self.body.file) c.in_ok-end.end c.head_now-head.ensures (done.packed w.0) c.in-Ok.ensures.size w.1.map;
    }

pub returns-in_err-end-clause-refused : goal.returns-in_err-end-clause-refused
returns-in_err-end-clause-refused g c = on_err_any c.from_residual.result (from_looks g.S.Space c.args.self.now c.args.space.now c.pack_file.new.space c.in_err-end.ensures.refused)
