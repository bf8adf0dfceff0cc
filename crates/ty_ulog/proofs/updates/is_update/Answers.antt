use Rattle.std.proofs.Common.{ℕ, List, sym, ap, ◌∙◌, rules}
use Rattle.ty_ulog.specs.Pieces.{command_of, told_by}
use Rattle.ty_ulog.proofs.Sole.{spelled, told, told_by_code, command_tells}
use Rattle.ty_ulog.proofs.updates.is_update.Goals as goal

pub returns-then-not-is_alone-clause-updating : goal.returns-then-not-is_alone-clause-updating
returns-then-not-is_alone-clause-updating c = let no = c.is_alone.ensures.no (search rules) in (λ t. absurd cc, λ u. absurd (no u))

pub returns-then-not-is_alone-clause-told : goal.returns-then-not-is_alone-clause-told
returns-then-not-is_alone-clause-told c = sym (c.is_alone.ensures.none (search rules))

pub returns-in-Some-clause-updating : goal.returns-in-Some-clause-updating
returns-in-Some-clause-updating c =
    let bytes = c.args.bytes.now in
    let t = c.is_alone.ensures.yes (search rules) in
    let e = spelled bytes t.0 t t.1 t.3 in
    let says = ap (λ (l : List ℕ). told_by (command_of l)) (sym e) ∙ ap told_by (sym c.command_of.ensures) ∙ sym c.told_by.ensures ∙ c.in-Some.is in
    (told bytes t.0 t.1 e c.in-Some.updates (command_tells t.0 c.in-Some.updates says)).0

pub returns-in-Some-clause-told : goal.returns-in-Some-clause-told
returns-in-Some-clause-told c =
    let bytes = c.args.bytes.now in
    let t = c.is_alone.ensures.yes (search rules) in
    let e = spelled bytes t.0 t t.1 t.3 in
    let says = ap (λ (l : List ℕ). told_by (command_of l)) (sym e) ∙ ap told_by (sym c.command_of.ensures) ∙ sym c.told_by.ensures ∙ c.in-Some.is in
    (told bytes t.0 t.1 e c.in-Some.updates (command_tells t.0 c.in-Some.updates says)).1

pub returns-clause-updating : goal.returns-clause-updating
returns-clause-updating c =
    let bytes = c.args.bytes.now in
    let p = c.in_ok-request.ensures in
    let t = c.is_alone.ensures.yes (search rules) in
    (told_by_code bytes c.in_ok-request.request p.0 (spelled bytes c.in_ok-request.request t p.0 p.1) c.is_updating.result c.is_updating.ensures.0 c.is_updating.ensures.1).0

pub returns-clause-told : goal.returns-clause-told
returns-clause-told c =
    let bytes = c.args.bytes.now in
    let p = c.in_ok-request.ensures in
    let t = c.is_alone.ensures.yes (search rules) in
    (told_by_code bytes c.in_ok-request.request p.0 (spelled bytes c.in_ok-request.request t p.0 p.1) c.is_updating.result c.is_updating.ensures.0 c.is_updating.ensures.1).1
