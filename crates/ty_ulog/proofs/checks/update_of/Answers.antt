use Rattle.std.proofs.Common.{sym, subst, arith, rules}
use Rattle.ty_ulog.specs.declared.record.Record.{Record}
use Rattle.ty_ulog.specs.Records.{seen}
use Rattle.ty_ulog.specs.Updates.{IsUpdating}
use Rattle.ty_ulog.proofs.Taken.{same_record, are_update}
use Rattle.ty_ulog.proofs.checks.update_of.Goals as goal

pub returns-then-not-is_one : goal.returns-then-not-is_one
returns-then-not-is_one c = λ r u e. c.is_one.ensures.no (search rules) r u.fits e

pub returns-then-not-branch : goal.returns-then-not-branch
returns-then-not-branch c = λ r u e.
    let read = c.look_record-r.ensures in
    let same = same_record c.args.bytes.now (seen c.look_record-r.result) r read.0 read.1.is u.fits e in
    let yes = c.in_ok-is_update.ensures.updating.1 (subst (λ (q : Record). IsUpdating q.request) (sym same) u.updating) in
    absurd cc

pub returns : goal.returns
returns c =
    let read = c.look_record-r.ensures in
    let one = c.is_one.ensures.yes (search rules) in
    are_update c.args.bytes.now one.0 (seen c.look_record-r.result) read.0 (λ i. omega (arith, c.type_inv.bytes i)) one.1.is read.1.is (c.in_ok-is_update.ensures.updating.0 c.if-not-branch.false)
