use Rattle.std.proofs.Common.{◌∙◌}
use Rattle.tc_space.specs.Frames.{In}
use Rattle.tc_space.specs.Stores.{ready_puts, ready_reads}
use Rattle.tests_space.proofs.Gets.{get_put}
use Rattle.tests_space.proofs.maps.put_and_get.Goals as goal

pub get-requires : goal.get-requires
get-requires g c = ready_puts g.R.S.Space (In g.R.S.Space g.R.Records.file_of g.R.Records.holds) _ _ _ _ _ _ _ _ c.in_ok-put.ensures.put c.requires

pub returns-clause-found : goal.returns-clause-found
returns-clause-found g c = λ told.
    let held = c.requires.held told in
    c.in_ok-found.ensures.value _ (c.in_ok-put.ensures.put.writes.means held.0 held.1) ∙ get_put held.0 c.args.key.now c.args.value.now

pub returns-clause-ready : goal.returns-clause-ready
returns-clause-ready g c =
    let ready = ready_puts g.R.S.Space (In g.R.S.Space g.R.Records.file_of g.R.Records.holds) _ _ _ _ _ _ _ _ c.in_ok-put.ensures.put c.requires in
    ready_reads g.R.S.Space (In g.R.S.Space g.R.Records.file_of g.R.Records.holds) _ _ _ _ c.get.ensures.reads ready
