use Rattle.std.proofs.Common.{◌+◌, ℕ, max, length, rules, ap, ◌∙◌}
use Rattle.ty_look.proofs.Ongoing.{seen_anew}
use Rattle.ty_look.proofs.looking.look_anew.Goals as goal

pub returns-then-eq-clause-seen : goal.returns-then-eq-clause-seen
returns-then-eq-clause-seen c =
    seen_anew c.args.seen.now c.args.bytes.now c.max-seen.result c.take-front.result c.requires c.take-front.ensures.reading (search rules)
    (c.max-seen.ensures ∙ ap (λ (n : ℕ). max n (length c.args.bytes.now + 1)) c.announced.ensures)
