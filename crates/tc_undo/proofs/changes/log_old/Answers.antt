use Rattle.std.proofs.Common.{◌≡◌, ◌+◌, length, take, drop, ◌∷◌, ◌∙◌, sym, ap, subst, arith, rules, List, ℕ}
use Rattle.std.proofs.lemmas.List.{take_at, places}
use Rattle.tc_io.specs.Images.{now, Calls, written}
use Rattle.ud_log.specs.Log.{framed}
use Rattle.ud_state.specs.Since.{quiet_same}
use Rattle.ud_state.proofs.Open.{now_log}
use Rattle.tc_undo.specs.Ahead.{IsPending, Joins, Waits, ahead}
use Rattle.tc_undo.proofs.Ahead.{entry_grows, entry_logs, logging_pending}
use Rattle.tc_undo.proofs.Volumes.{stays_quiet_then}
use Rattle.tc_undo.proofs.changes.log_old.Goals as goal

pub push-requires-clause-few : goal.push-requires-clause-few
push-requires-clause-few g c = grind (arith, places, c.requires.entry.few)

pub push-requires-clause-pending : goal.push-requires-clause-pending
push-requires-clause-pending g c = λ t. subst (λ (d : Calls). IsPending (ahead d c.args.waiting.now)) (sym (c.read.ensures.calls t)) (logging_pending (c.requires.logging t))

pub push-requires-clause-waits : goal.push-requires-clause-waits
push-requires-clause-waits g c = λ t. subst (λ (d : Calls). Waits d c.args.waiting.now c.args.end) (sym (c.read.ensures.calls t)) (c.requires.waits t)

pub returns-in_err-read-clause-quiet : goal.returns-in_err-read-clause-quiet
returns-in_err-read-clause-quiet g c = record { stays = search rules; quiet = λ t. quiet_same _ _ (c.read.ensures.calls t) }

pub returns-in_err-push-clause-quiet : goal.returns-in_err-push-clause-quiet
returns-in_err-push-clause-quiet g c = stays_quiet_then g.V.Volume c.args.vol.now c.read.new.self c.push.new.vol (record { stays = search rules; quiet = λ t. quiet_same _ _ (c.read.ensures.calls t) }) c.push.ensures.quiet

pub returns-clause-quiet : goal.returns-clause-quiet
returns-clause-quiet g c = stays_quiet_then g.V.Volume c.args.vol.now c.read.new.self c.push.new.vol (record { stays = search rules; quiet = λ t. quiet_same _ _ (c.read.ensures.calls t) }) c.push.ensures.quiet

pub returns-clause-logs : goal.returns-clause-logs
returns-clause-logs g c = λ t.
    let calls = g.V.Volume.calls c.args.vol.now in
    let w = c.args.waiting.now in
    let cs = ahead calls w in
    let new = ahead (g.V.Volume.calls c.push.new.vol) c.push.new.waiting in
    let f = c.args.file in
    let n = c.args.n in
    let p = c.requires.entry in
    let r = c.read.new.into in
    let b = take (20 + n) c.frame.new.entry in
    let long : length r ≡ n = grind (arith, places, c.read.auto.into) in
    let old : r ≡ take n (drop c.args.at (now cs f)) = c.in_ok-read.ensures.bytes t ∙ ap (λ k. take k (drop c.args.at (now calls f))) (sym c.read.auto.into ∙ long) ∙ ap (λ (l : List ℕ). take n (drop c.args.at l)) (sym (now_log calls _ f p.data_file)) in
    let bytes : b ≡ framed f c.args.at r = c.frame.ensures ∙ ap (λ (l : List ℕ). framed f c.args.at l) (take_at r _ n long) in
    let joins = subst (λ (d : Calls). Joins ((1, written c.args.end b) ∷ ahead d w) new) (c.read.ensures.calls t) (c.in_ok-push.ensures.joins t) in
    entry_logs cs new c.args.recorded.now f c.args.from c.args.at n c.args.end b r (c.requires.logging t) p.data_file p.some p.few p.inside (p.within t) (c.requires.waits t).end_is old bytes joins

pub returns-clause-grows : goal.returns-clause-grows
returns-clause-grows g c = λ t.
    let calls = g.V.Volume.calls c.args.vol.now in
    let w = c.args.waiting.now in
    let cs = ahead calls w in
    let new = ahead (g.V.Volume.calls c.push.new.vol) c.push.new.waiting in
    let f = c.args.file in
    let n = c.args.n in
    let p = c.requires.entry in
    let r = c.read.new.into in
    let b = take (20 + n) c.frame.new.entry in
    let long : length r ≡ n = grind (arith, places, c.read.auto.into) in
    let old : r ≡ take n (drop c.args.at (now cs f)) = c.in_ok-read.ensures.bytes t ∙ ap (λ k. take k (drop c.args.at (now calls f))) (sym c.read.auto.into ∙ long) ∙ ap (λ (l : List ℕ). take n (drop c.args.at l)) (sym (now_log calls _ f p.data_file)) in
    let bytes : b ≡ framed f c.args.at r = c.frame.ensures ∙ ap (λ (l : List ℕ). framed f c.args.at l) (take_at r _ n long) in
    let joins = subst (λ (d : Calls). Joins ((1, written c.args.end b) ∷ ahead d w) new) (c.read.ensures.calls t) (c.in_ok-push.ensures.joins t) in
    entry_grows cs new c.args.recorded.now f c.args.from c.args.at n c.args.end b r (c.requires.logging t) p.data_file p.some p.few p.inside (p.within t) (c.requires.waits t).end_is old bytes joins

pub returns-clause-waits : goal.returns-clause-waits
returns-clause-waits g c = λ t.
    let b = take (20 + c.args.n) c.frame.new.entry in
    let long : length b ≡ 20 + c.args.n = grind (arith, places, c.requires.entry.few) in
    let end : c.args.end + length b ≡ c.args.end + 20 + c.args.n = omega (arith, long) in
    subst (λ k. Waits (g.V.Volume.calls c.push.new.vol) c.push.new.waiting k) end (c.in_ok-push.ensures.waits t)
