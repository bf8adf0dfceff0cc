use Rattle.std.proofs.Common.{rules, refl}
use Rattle.std.specs.Prelude.{Result, Ok, Err, OnOk}
use Rattle.ty_rounds.proofs.linking.look_peer.Goals as goal

on : {E A P Q : Type 0} (r : Result A E) → (P → Q) → OnOk r P → OnOk r Q
on (Ok x) f h = f h
on (Err e) f h = tt

pub returns-in-Called-clause-looks : goal.returns-in-Called-clause-looks
returns-in-Called-clause-looks g c = on c.look_behind.result (λ b. record { was = c.in-Called.caller; caller = c.look_behind.new.caller; role_is = c.in-Called.is; is = refl; behind = b }) c.look_behind.ensures.looks

pub returns-in-Called-clause-full : goal.returns-in-Called-clause-full
returns-in-Called-clause-full g c = λ full a is. search rules
