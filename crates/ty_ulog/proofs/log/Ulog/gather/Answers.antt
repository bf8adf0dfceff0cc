use Rattle.std.proofs.Common.{[], ◌∷◌, ◌++◌, ap, refl}
use Rattle.ty_ulog.specs.declared.log.Ulog.{Ulog}
use Rattle.ty_ulog.proofs.Noting.{gathers_noted, gathers_one, note_lacks, write_lacks}
use Rattle.ty_ulog.proofs.log.Ulog.gather.Goals as goal

pub returns-in-Ok-clause-gathers : goal.returns-in-Ok-clause-gathers
returns-in-Ok-clause-gathers g c = gathers_one g.S.Space c.flush_much.result c.args.own c.args.now c.args.request.now c.args.self.now _ _ c.args.space.now _ c.args.batch.now _ _ c.flush_much.ensures.gathers c.requires.few c.in-Ok.ensures.noted refl

pub returns-in-Ok-clause-full : goal.returns-in-Ok-clause-full
returns-in-Ok-clause-full g c = λ e ticks asked u a h.
    let lacks = c.flush_much.ensures.full e in
    write_lacks g.S.Space _ c.args.own (ticks ++ c.args.now ∷ []) (asked ++ c.args.request.now ∷ []) u _ a c.args.space.now _ _
    (gathers_noted g.S.Space c.args.own c.args.now ticks asked c.args.request.now u c.args.self.now _ a c.args.space.now c.args.batch.now _ h c.requires.few c.in-Ok.ensures.noted refl) c.flush_much.ensures.frame.keeps.same_limit lacks.0 lacks.1

pub returns-in-Err-clause-full : goal.returns-in-Err-clause-full
returns-in-Err-clause-full g c = λ e ticks asked u a h. note_lacks g.S.Space _ c.args.own c.args.now ticks asked c.args.request.now u c.args.self.now a c.args.space.now _ c.args.batch.now h (c.in-Err.ensures.full e) (ap (λ (w : Ulog). w.last) c.in-Err.ensures.err)
