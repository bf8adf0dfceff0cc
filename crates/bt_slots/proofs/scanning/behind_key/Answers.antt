use Rattle.std.proofs.Common.{sym, subst, ℕ}
use Rattle.std.proofs.lemmas.Result.{on_err_weaker}
use Rattle.bt_page.specs.Spelled.{AtFront}
use Rattle.bt_page.proofs.Runs.{if_ok_both}
use Rattle.bt_page.proofs.AtFronts.{TwoFit, two_bytes, entry_short}
use Rattle.bt_slots.proofs.Scanned.{entry_scanned, short_front}
use Rattle.bt_slots.proofs.scanning.behind_key.Goals as goal

pub returns-clause-found : goal.returns-clause-found
returns-clause-found c =
    let a = c.requires.are in
    let f = subst (λ (n : ℕ). AtFront TwoFit two_bytes c.args.bytes.now (a.0, n) c.args.key.now) (sym c.from.ensures) (short_front a.0 c.args.size c.args.bytes.now c.args.key.now a.1 c.requires.size a.2) in
    if_ok_both _ (λ _ long found. entry_scanned c.args.bytes.now c.args.key.now _ a.0 c.from.result f long found) c.behind.ensures.long c.behind.ensures.found

pub returns-clause-bad : goal.returns-clause-bad
returns-clause-bad c =
    let a = c.requires.are in
    let f = subst (λ (n : ℕ). AtFront TwoFit two_bytes c.args.bytes.now (a.0, n) c.args.key.now) (sym c.from.ensures) (short_front a.0 c.args.size c.args.bytes.now c.args.key.now a.1 c.requires.size a.2) in
    on_err_weaker _ (entry_short c.args.bytes.now c.args.key.now a.0 c.from.result f) c.behind.ensures.bad
