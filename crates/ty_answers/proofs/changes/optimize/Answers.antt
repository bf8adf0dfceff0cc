use Rattle.std.proofs.Common.{rules, ⊎_elim}
use Rattle.ty_answers.proofs.Making.{packed}
use Rattle.ty_answers.proofs.changes.optimize.Goals as goal

pub returns-clause-tight : goal.returns-clause-tight
returns-clause-tight g c = c.in_ok-pack.ensures.tight

pub returns-clause-answers : goal.returns-clause-answers
returns-clause-answers g c = packed g.E.S.Space g.E.Storage.own g.E.Storage.layout g.E.Storage.holds c.args.engine.now c.pack.new.self c.args.space.now c.pack.new.space c.args.reply.now c.done.new.reply
    c.in_ok-pack.ensures.sound c.in_ok-pack.ensures.others c.in_ok-pack.ensures.packed c.in_ok-pack.ensures.formed (search rules)

pub returns-in_err-pack-clause-full : goal.returns-in_err-pack-clause-full
returns-in_err-pack-clause-full g c = λ full t.
    let held = c.requires.held t in
    ⊎_elim (λ log. log) (λ large. absurd (let never = large.0 in cc)) (c.in_err-pack.ensures.full (search (rules, full)) held.0 (t, held.1))
