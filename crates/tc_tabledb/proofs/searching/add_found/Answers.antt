use Rattle.std.proofs.Common.{◌≤◌, length, arith}
use Rattle.tc_engine.specs.Rows.{adds_nothing, extends_refl, extends_then}
use Rattle.tc_tabledb.proofs.Searched.{all_added, found_added}
use Rattle.tc_tabledb.proofs.searching.add_found.Goals as goal

pub loop-i-init : goal.loop-i-init
loop-i-init c = record { added = adds_nothing c.args.into.now; front = extends_refl c.args.into.now }

pub loop-i-preserved : goal.loop-i-preserved
loop-i-preserved c = record {
  added = found_added c.args.into.now c.loop-i.into c.add_one.new.into c.args.found.now c.loop-i.i c.at.result.now c.at.ensures c.loop-i.invariant.added c.in_ok-add_one.ensures.added;
  front = extends_then c.args.into.now c.loop-i.into c.add_one.new.into c.loop-i.invariant.front c.add_one.ensures.front;
}

pub returns-clause-added : goal.returns-clause-added
returns-clause-added c =
    let all : length c.args.found.now ≤ c.loop-i.i = omega arith in
    all_added c.args.into.now c.loop-i.into c.args.found.now c.loop-i.i all c.loop-i.invariant.added
