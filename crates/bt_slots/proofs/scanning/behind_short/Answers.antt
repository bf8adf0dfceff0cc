use Rattle.std.proofs.Common.{◌≡◌, ◌+◌, arith}
use Rattle.std.proofs.lemmas.Result.{on_err_weaker}
use Rattle.bt_page.proofs.Runs.{if_ok_both}
use Rattle.bt_slots.proofs.Scanned.{short_found, short_none}
use Rattle.bt_slots.proofs.scanning.behind_short.Goals as goal

pub returns-clause-found : goal.returns-clause-found
returns-clause-found c =
    let n : c.from.result + c.from-2.result ≡ c.args.key + c.args.first = omega (arith, c.from.ensures, c.from-2.ensures) in
    if_ok_both _ (λ _ long found. short_found c.args.key c.args.first _ c.args.bytes.now c.args.texts.now _ c.requires.are c.requires.key c.requires.first n long found) c.behind.ensures.long c.behind.ensures.found

pub returns-clause-bad : goal.returns-clause-bad
returns-clause-bad c =
    let n : c.from.result + c.from-2.result ≡ c.args.key + c.args.first = omega (arith, c.from.ensures, c.from-2.ensures) in
    on_err_weaker _ (short_none c.args.key c.args.first _ c.args.bytes.now c.args.texts.now c.requires.are c.requires.key c.requires.first n) c.behind.ensures.bad
