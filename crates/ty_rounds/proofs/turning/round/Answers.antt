use Rattle.std.proofs.Common.{rules}
use Rattle.std.specs.Prelude.{Result, Ok, Err, OnOk}
use Rattle.tc_space.specs.Frames.{keeps_then}
use Rattle.ty_rounds.specs.Serving.{of_client}
use Rattle.ty_rounds.specs.Works.{work}
use Rattle.ty_rounds.proofs.Parts.{link_full, none_listed, none_met, round_done}
use Rattle.ty_rounds.proofs.turning.round.Goals as goal

on : {E A P Q : Type 0} (r : Result A E) → (P → Q) → OnOk r P → OnOk r Q
on (Ok x) f h = f h
on (Err e) f h = tt

pub look-requires-clause-alone : goal.look-requires-clause-alone
look-requires-clause-alone g c = let link = c.in_ok-serve_all.ensures.serves.link in (none_listed c.serve_all.new.batch.taken link.0, none_met c.serve_all.new.batch.gap link.1)

pub returns-clause-rounds : goal.returns-clause-rounds
returns-clause-rounds g c = on c.look.result (round_done g.B.S.Space g.B.Storage.own g.B.Storage.layout g.B.Storage.holds c.args.logged.now (work c.serve_all.new.batch) (work c.look.new.batch) _ _ _ _ _ _ _ _ _ _ _ _ c.in_ok-serve_all.ensures.serves) c.look.ensures.looks

pub returns-in_err-serve_all-clause-full : goal.returns-in_err-serve_all-clause-full
returns-in_err-serve_all-clause-full g c = λ is. λ d h b ks same hold. of_client (c.in_err-serve_all.ensures.full (search (rules, is)) d h b ks same hold)

pub returns-clause-full : goal.returns-clause-full
returns-clause-full g c = λ is. let b = g.B.Storage in
    link_full g.B.S.Space b.own b.layout b.holds (b.fills_since c.serve_all.new.space c.look.new.space) (b.fills_since c.args.space.now c.look.new.space) c.args.logged.now (work c.serve_all.new.batch) _ _ _ _ _ _ _ _ c.in_ok-serve_all.ensures.serves
    (λ t. (g.met.B.Storage.since_more c.args.space.now c.serve_all.new.space c.look.new.space (c.serve_all.ensures.keeps.steady t).leaves.later).fills) (c.look.ensures.full is)

pub returns-clause-keeps : goal.returns-clause-keeps
returns-clause-keeps g c = keeps_then g.B.S.Space c.args.space.now c.serve_all.new.space c.look.new.space c.serve_all.ensures.keeps c.look.ensures.keeps
