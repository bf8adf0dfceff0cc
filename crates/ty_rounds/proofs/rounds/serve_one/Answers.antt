use Rattle.std.proofs.Common.{rules, ◌≡◌, true, refl, ap}
use Rattle.std.specs.Prelude.{◌&&◌}
use Rattle.std.proofs.lemmas.Bool.{and_parts}
use Rattle.ty_rounds.specs.Peers.{has_whole, is_client}
use Rattle.ty_rounds.specs.Works.{listed, gaps_of}
use Rattle.ty_rounds.proofs.Few.{quiet_piece}
use Rattle.ty_rounds.proofs.ServingLaws.{gone_idle, waits_idle, none_idle, idle_ready, one_ready, one_full}
use Rattle.ty_rounds.proofs.rounds.serve_one.Goals as goal

pub returns-then-not-p-clause-served : goal.returns-then-not-p-clause-served
returns-then-not-p-clause-served g c = λ l is. idle_ready g.B.S.Space g.B.Storage.own g.B.Storage.layout g.B.Storage.holds l _ c.args.base.now c.args.space.now c.args.walk.now c.args.p.now c.requires.ready c.requires.calm (λ d h. none_idle l _ _ d c.args.walk.now c.args.p.now _ h refl (quiet_piece c.args.p.now (c.requires.calm (search rules))))

pub returns-then-p-clause-served : goal.returns-then-p-clause-served
returns-then-p-clause-served g c = λ l is. idle_ready g.B.S.Space g.B.Storage.own g.B.Storage.layout g.B.Storage.holds l _ c.args.base.now c.args.space.now c.args.walk.now c.args.p.now c.requires.ready c.requires.calm (λ d h. gone_idle l _ _ d c.args.walk.now c.args.p.now h (search rules))

pub returns-then-not-all_taken-clause-served : goal.returns-then-not-all_taken-clause-served
returns-then-not-all_taken-clause-served g c = λ l is. idle_ready g.B.S.Space g.B.Storage.own g.B.Storage.layout g.B.Storage.holds l _ c.args.base.now c.args.space.now c.args.walk.now c.args.p.now c.requires.ready c.requires.calm (λ d h. waits_idle l _ _ d c.args.walk.now c.args.p.now _ h refl (search rules))

pub returns-then-not-has_piece-clause-served : goal.returns-then-not-has_piece-clause-served
returns-then-not-has_piece-clause-served g c = λ l is. idle_ready g.B.S.Space g.B.Storage.own g.B.Storage.layout g.B.Storage.holds l _ c.args.base.now c.args.space.now c.args.walk.now c.args.p.now c.requires.ready c.requires.calm (λ d h. none_idle l _ _ d c.args.walk.now c.args.p.now _ h refl (search rules))

pub returns-clause-served : goal.returns-clause-served
returns-clause-served g c = λ l is.
    let p = c.args.p.now in
    let both : (is_client p.role && has_whole p) ≡ true = search rules in
    one_ready g.B.S.Space g.B.Storage.own g.B.Storage.layout g.B.Storage.holds l c.args.terms is _ _ c.args.base.now c.serve.new.base c.args.space.now c.serve.new.space c.args.walk.now c.serve.new.walk p c.owe_repl.new.p c.serve.new.self c.in_ok-served.served (search rules) (and_parts (is_client p.role) (has_whole p) both).0 (search rules) (search rules)
    c.in_ok-served.ensures.served (λ x feeds. c.in_ok-owe_repl.ensures.owes l x is feeds) (record { commits = c.in_ok-add.ensures.commits; updates = c.in_ok-add.ensures.updates; labels = c.in_ok-add.ensures.labels }) (record { taken_is = ap listed c.add.ensures.taken; gap_is = ap gaps_of c.add.ensures.gap }) c.requires.ready c.in_ok-served.ensures.leaves

pub returns-in_err-served-clause-full : goal.returns-in_err-served-clause-full
returns-in_err-served-clause-full g c = λ full l is.
    let p = c.args.p.now in
    let both : (is_client p.role && has_whole p) ≡ true = search rules in
    one_full g.B.S.Space g.B.Storage.own g.B.Storage.layout g.B.Storage.holds l c.args.terms is _ _ (λ d e x. x) c.args.base.now c.args.space.now c.args.walk.now p (search rules) (and_parts (is_client p.role) (has_whole p) both).0 (search rules) (c.in_err-served.ensures.full (search (rules, full)))

pub add-requires : goal.add-requires
add-requires g c = record { label = c.in_ok-served.ensures.served.served.notes.labelled }
