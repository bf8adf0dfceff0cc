use Rattle.std.proofs.lemmas.Result.{on_ok_weaker}
use Rattle.hf_chain.proofs.Settings.{gap_inside, name_fits, hung}
use Rattle.hf_chain.proofs.hanging.hang.Goals as goal

pub set_link-requires-clause-inside : goal.set_link-requires-clause-inside
set_link-requires-clause-inside g c = λ t. gap_inside c.args.head.now c.args.at c.args.to.now (g.S.Space.now c.args.space.now c.args.file) c.requires.ready.valid (c.requires.gap t)

pub set_link-requires-clause-fits : goal.set_link-requires-clause-fits
set_link-requires-clause-fits g c = name_fits c.args.head.now c.args.at c.unit.result c.unit.ensures c.requires.names

pub returns-clause-hung : goal.returns-clause-hung
returns-clause-hung g c = on_ok_weaker c.set_link.result (λ wrote. record {
  here = λ t end ps frees lent places key laid widths can.
      hung c.args.head.now end ps frees lent (g.S.Space.now c.args.space.now c.args.file) (g.S.Space.now c.set_link.new.space c.args.file) places key c.args.at c.unit.result c.args.to.now c.requires.ready.valid laid widths can c.unit.ensures c.requires.names (wrote t).here;
  others = record { same = λ t. (wrote t).others };
})
    c.set_link.ensures.wrote
