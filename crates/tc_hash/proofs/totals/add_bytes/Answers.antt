use Rattle.std.proofs.Common.{ap, arith}
use Rattle.hf_head.specs.Heads.{unit}
use Rattle.hf_tree.proofs.Fields.{at_inside}
use Rattle.hf_chain.specs.declared.heads.RecHead.{RecHead}
use Rattle.tc_hash.proofs.totals.add_bytes.Goals as goal

pub head_at-requires-clause-inside : goal.head_at-requires-clause-inside
head_at-requires-clause-inside g c = λ t. let w = (c.requires.there t).0 in omega (arith, at_inside (unit c.args.head.now) w.r c.args.place (g.S.Space.now c.args.space.now c.args.file) w.has.is)

pub returns-in-Some-clause-added : goal.returns-in-Some-clause-added
returns-in-Some-clause-added g c = λ t r has.
    let head = c.in_ok-rec.ensures.head t r has in
    omega (arith, c.in-Some.ensures, ap (λ (x : RecHead). x.key) head, ap (λ (x : RecHead). x.value) head)
