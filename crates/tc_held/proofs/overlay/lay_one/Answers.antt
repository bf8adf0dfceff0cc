use Rattle.std.proofs.Common.{arith, refl}
use Rattle.tc_held.proofs.Showing.{copied_shows, lay_none, lays_here, lays_there}
use Rattle.tc_held.proofs.overlay.lay_one.Goals as goal

pub returns-then-piece-file-clause-lays : goal.returns-then-piece-file-clause-lays
returns-then-piece-file-clause-lays c = lays_there c.args.bytes.now c.args.piece c.args.file c.args.at c.args.into.now c.if-piece-file.true

pub returns-then-from-to-clause-lays : goal.returns-then-from-to-clause-lays
returns-then-from-to-clause-lays c =
    let p = c.args.piece in
    let into = c.args.into.now in
    let from = c.max-from.result in
    let to = c.min-to.result in
    lays_here c.args.bytes.now p c.args.file c.args.at into _ c.if-piece-file.false (λ old begins shows.
    copied_shows c.args.bytes.now into c.copy_from_slice.new.self p c.args.at from to _ _ _ refl refl refl c.max-from.ensures (omega (arith, c.min-to.ensures, c.saturating_add.ensures, c.requires.small.small)) c.if-from-to.true c.requires.lies c.copy_from_slice.ensures.after old begins shows)

pub returns-else-from-to-clause-lays : goal.returns-else-from-to-clause-lays
returns-else-from-to-clause-lays c =
    lays_here c.args.bytes.now c.args.piece c.args.file c.args.at c.args.into.now c.args.into.now c.if-piece-file.false
    (λ old begins shows. lay_none c.args.bytes.now old c.args.into.now c.args.piece c.args.at c.requires.lies begins (omega (arith, c.if-from-to.false, c.max-from.ensures, c.min-to.ensures, c.saturating_add.ensures, c.requires.small.small)) shows)
