use Rattle.std.proofs.Common.{◌≡◌, ◌∙◌, sym, ap, arith, length, take}
use Rattle.std.proofs.lemmas.List.{take_at, places}
use Rattle.tc_io.specs.Images.{now}
use Rattle.ud_log.specs.Log.{magic}
use Rattle.ud_log.specs.Undo.{agrees, broken}
use Rattle.ud_log.proofs.Scanning.{magic_read, broken_one}
use Rattle.tc_undo.proofs.scan.front_of.Goals as goal

pub returns-then-not-begins_well-clause-broken : goal.returns-then-not-begins_well-clause-broken
returns-then-not-begins_well-clause-broken g c = λ t.
    let log = now (g.V.Volume.calls c.args.vol.now) 1 in
    let r = c.read.new.into in
    let n = c.min-n.result in
    let long : length r ≡ n = grind (arith, places, c.read.auto.into, c.min-n.ensures) in
    let there : r ≡ take n log = c.in_ok-read.ensures.bytes t ∙ ap (λ k. take k log) (sym c.read.auto.into ∙ long) in
    let tested : c.begins_well.result ≡ agrees magic (take n log) = c.begins_well.ensures ∙ ap (agrees magic) (take_at r _ n long ∙ there) in
    broken_one log (sym (magic_read log n c.args.len c.min-n.ensures (c.requires.len t)) ∙ sym tested ∙ c.if-not-begins_well.true) ∙ ap broken (sym c.rule.ensures)

pub returns-clause-magic : goal.returns-clause-magic
returns-clause-magic g c = λ t.
    let log = now (g.V.Volume.calls c.args.vol.now) 1 in
    let r = c.read.new.into in
    let n = c.min-n.result in
    let long : length r ≡ n = grind (arith, places, c.read.auto.into, c.min-n.ensures) in
    let there : r ≡ take n log = c.in_ok-read.ensures.bytes t ∙ ap (λ k. take k log) (sym c.read.auto.into ∙ long) in
    let tested : c.begins_well.result ≡ agrees magic (take n log) = c.begins_well.ensures ∙ ap (agrees magic) (take_at r _ n long ∙ there) in
    sym (magic_read log n c.args.len c.min-n.ensures (c.requires.len t)) ∙ sym tested ∙ c.if-not-begins_well.false
