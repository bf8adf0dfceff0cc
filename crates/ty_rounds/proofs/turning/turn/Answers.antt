use Rattle.std.proofs.Common.{rules, refl, sym, subst, ◌∙◌}
use Rattle.std.specs.Prelude.{Ok}
use Rattle.ty_base.proofs.Refusals.{err_is}
use Rattle.ty_base.specs.Holding.{Laid, frame_of}
use Rattle.ty_world.specs.World.{is_quiet}
use Rattle.ty_rounds.specs.Books.{settings_of}
use Rattle.ty_rounds.specs.Joining.{Joins}
use Rattle.ty_rounds.specs.Servers.{state}
use Rattle.ty_rounds.specs.Turns.{MeetsFor}
use Rattle.ty_rounds.specs.Works.{work}
use Rattle.ty_rounds.specs.Spans.{IsSpan}
use Rattle.ty_rounds.proofs.FollowLaws.{told_all, told_copied, told_keeps, told_kept, told_refl}
use Rattle.ty_rounds.proofs.JoinLaws.{kept_joins, may_join, span_held, wired_as}
use Rattle.ty_rounds.proofs.Laying.{laid_turns, round_laid}
use Rattle.ty_rounds.proofs.ReadyAgain.{ready_again}
use Rattle.ty_rounds.proofs.Turned.{Rest, alone_wire, copy_ends, dial_ends, finish_ends, hear_ends, keep_ends, meets_for, round_ends, went_ends, whole_turn}
use Rattle.ty_rounds.proofs.turning.turn.Goals as goal

pub returns-in_err-dial-clause-told : goal.returns-in_err-dial-clause-told
returns-in_err-dial-clause-told g c = rw (err_is c.from_residual.result _ c.from_residual.ensures.1) (dial_ends g.B.S.Space g.W.Wire g.B.Storage.own g.B.Storage.layout g.met.B.Storage.no_logs.1 g.B.Storage.holds g.B.Storage.reopens g.B.Storage.fills_since _ _ c.args.space.now _ _ _ (state c.args.server.now) _ c.in_err-dial.field-0.0 c.in_err-dial.ensures.err (record { sound = c.requires.ready.base_is.sound; only = λ o t l. g.met.B.S.Space.only_kept c.args.space.now o t c.requires.ready.base_is.sound l; clean = λ t. g.met.B.S.Space.clean c.args.space.now t c.requires.ready.base_is.sound c.requires.ready.untouched }))

pub returns-in_err-dial-clause-laid : goal.returns-in_err-dial-clause-laid
returns-in_err-dial-clause-laid g c = λ l. rw (err_is c.from_residual.result _ c.from_residual.ensures.1) (laid_turns g.B.S.Space g.W.Wire g.B.Storage.holds g.B.Storage.reopens g.B.Storage.own g.B.Storage.layout g.B.Storage.fills_since _ _ _ c.args.space.now _ _ _ _ _ _ _ (dial_ends g.B.S.Space g.W.Wire g.B.Storage.own g.B.Storage.layout g.met.B.Storage.no_logs.1 g.B.Storage.holds (Laid g.B.Storage.own g.B.Storage.layout (frame_of g.B.Storage.layout (g.B.S.Space.now c.args.space.now)) g.B.Storage.reopens) g.B.Storage.fills_since _ _ c.args.space.now _ _ _ (state c.args.server.now) _ c.in_err-dial.field-0.0 c.in_err-dial.ensures.err (record { sound = c.requires.ready.base_is.sound; only = λ o t l. g.met.B.S.Space.only_kept c.args.space.now o t c.requires.ready.base_is.sound l; clean = λ t. g.met.B.S.Space.clean c.args.space.now t c.requires.ready.base_is.sound c.requires.ready.untouched })) l)

pub returns-in_err-ev-clause-told : goal.returns-in_err-ev-clause-told
returns-in_err-ev-clause-told g c = rw (err_is c.from_residual-in_err-ev.result _ c.from_residual-in_err-ev.ensures.1) (whole_turn g.B.S.Space g.W.Wire g.B.Storage.own g.B.Storage.layout g.met.B.Storage.no_logs.1 g.B.Storage.holds g.B.Storage.reopens g.B.Storage.fills_since _ _ _ c.args.space.now _ _ _ _ _ _ (state c.args.server.now) _ c.dial.new.peers.items c.in_ok-dial.ensures.told
    (hear_ends g.B.S.Space g.W.Wire g.B.Storage.own g.B.Storage.layout g.met.B.Storage.no_logs.1 g.B.Storage.holds g.B.Storage.reopens g.B.Storage.fills_since _ _ c.args.space.now _ _ _ _ _ _ _ c.in_err-ev.field-0.0 c.in_err-ev.ensures.err (record { sound = c.requires.ready.base_is.sound; only = λ o t l. g.met.B.S.Space.only_kept c.args.space.now o t c.requires.ready.base_is.sound l; clean = λ t. g.met.B.S.Space.clean c.args.space.now t c.requires.ready.base_is.sound c.requires.ready.untouched })))

pub returns-in_err-ev-clause-laid : goal.returns-in_err-ev-clause-laid
returns-in_err-ev-clause-laid g c = λ l. rw (err_is c.from_residual-in_err-ev.result _ c.from_residual-in_err-ev.ensures.1) (laid_turns g.B.S.Space g.W.Wire g.B.Storage.holds g.B.Storage.reopens g.B.Storage.own g.B.Storage.layout g.B.Storage.fills_since _ _ _ c.args.space.now _ _ _ _ _ _ _ (whole_turn g.B.S.Space g.W.Wire g.B.Storage.own g.B.Storage.layout g.met.B.Storage.no_logs.1 g.B.Storage.holds (Laid g.B.Storage.own g.B.Storage.layout (frame_of g.B.Storage.layout (g.B.S.Space.now c.args.space.now)) g.B.Storage.reopens) g.B.Storage.fills_since _ _ _ c.args.space.now _ _ _ _ _ _ (state c.args.server.now) _ c.dial.new.peers.items c.in_ok-dial.ensures.told
    (hear_ends g.B.S.Space g.W.Wire g.B.Storage.own g.B.Storage.layout g.met.B.Storage.no_logs.1 g.B.Storage.holds (Laid g.B.Storage.own g.B.Storage.layout (frame_of g.B.Storage.layout (g.B.S.Space.now c.args.space.now)) g.B.Storage.reopens) g.B.Storage.fills_since _ _ c.args.space.now _ _ _ _ _ _ _ c.in_err-ev.field-0.0 c.in_err-ev.ensures.err (record { sound = c.requires.ready.base_is.sound; only = λ o t l. g.met.B.S.Space.only_kept c.args.space.now o t c.requires.ready.base_is.sound l; clean = λ t. g.met.B.S.Space.clean c.args.space.now t c.requires.ready.base_is.sound c.requires.ready.untouched }))) l)

pub returns-in_err-round-clause-told : goal.returns-in_err-round-clause-told
returns-in_err-round-clause-told g c = rw (err_is c.from_residual-in_err-round.result _ c.from_residual-in_err-round.ensures.1) (whole_turn g.B.S.Space g.W.Wire g.B.Storage.own g.B.Storage.layout g.met.B.Storage.no_logs.1 g.B.Storage.holds g.B.Storage.reopens g.B.Storage.fills_since _ _ _ c.args.space.now _ _ _ _ _ _ (state c.args.server.now) _ c.dial.new.peers.items c.in_ok-dial.ensures.told
    (round_ends g.B.S.Space g.W.Wire g.B.Storage.own g.B.Storage.layout g.met.B.Storage.no_logs.1 g.B.Storage.holds g.B.Storage.reopens g.B.Storage.fills_since _ _ c.args.space.now c.round.new.space _ _ _ _ _ _ c.listen.new.peers.items _ c.in_ok-ev.ev c.in_err-round.field-0.0 c.in_ok-ev.ensures.ok c.in_err-round.ensures.not_wire c.round.ensures.keeps (record { sound = c.requires.ready.base_is.sound; only = λ o t l. g.met.B.S.Space.only_kept c.args.space.now o t c.requires.ready.base_is.sound l; clean = λ t. g.met.B.S.Space.clean c.args.space.now t c.requires.ready.base_is.sound c.requires.ready.untouched }) (λ t u o le l. g.met.B.S.Space.earlier c.round.new.space t u o le l) (λ e. c.in_err-round.ensures.full (search (rules, e)))))

pub returns-in_err-round-clause-laid : goal.returns-in_err-round-clause-laid
returns-in_err-round-clause-laid g c = λ l. rw (err_is c.from_residual-in_err-round.result _ c.from_residual-in_err-round.ensures.1) (laid_turns g.B.S.Space g.W.Wire g.B.Storage.holds g.B.Storage.reopens g.B.Storage.own g.B.Storage.layout g.B.Storage.fills_since _ _ _ c.args.space.now _ _ _ _ _ _ _ (whole_turn g.B.S.Space g.W.Wire g.B.Storage.own g.B.Storage.layout g.met.B.Storage.no_logs.1 g.B.Storage.holds (Laid g.B.Storage.own g.B.Storage.layout (frame_of g.B.Storage.layout (g.B.S.Space.now c.args.space.now)) g.B.Storage.reopens) g.B.Storage.fills_since _ _ _ c.args.space.now _ _ _ _ _ _ (state c.args.server.now) _ c.dial.new.peers.items c.in_ok-dial.ensures.told
    (round_ends g.B.S.Space g.W.Wire g.B.Storage.own g.B.Storage.layout g.met.B.Storage.no_logs.1 g.B.Storage.holds (Laid g.B.Storage.own g.B.Storage.layout (frame_of g.B.Storage.layout (g.B.S.Space.now c.args.space.now)) g.B.Storage.reopens) g.B.Storage.fills_since _ _ c.args.space.now c.round.new.space _ _ _ _ _ _ c.listen.new.peers.items _ c.in_ok-ev.ev c.in_err-round.field-0.0 c.in_ok-ev.ensures.ok c.in_err-round.ensures.not_wire c.round.ensures.keeps (record { sound = c.requires.ready.base_is.sound; only = λ o t l. g.met.B.S.Space.only_kept c.args.space.now o t c.requires.ready.base_is.sound l; clean = λ t. g.met.B.S.Space.clean c.args.space.now t c.requires.ready.base_is.sound c.requires.ready.untouched }) (λ t u o le l. g.met.B.S.Space.earlier c.round.new.space t u o le l) (λ e. c.in_err-round.ensures.full (search (rules, e))))) l)

pub returns-in_err-keep_round-clause-told : goal.returns-in_err-keep_round-clause-told
returns-in_err-keep_round-clause-told g c = rw (err_is c.from_residual-in_err-keep_round.result _ c.from_residual-in_err-keep_round.ensures.1) (whole_turn g.B.S.Space g.W.Wire g.B.Storage.own g.B.Storage.layout g.met.B.Storage.no_logs.1 g.B.Storage.holds g.B.Storage.reopens g.B.Storage.fills_since _ _ _ c.args.space.now _ _ _ _ _ _ (state c.args.server.now) _ c.dial.new.peers.items c.in_ok-dial.ensures.told
    (keep_ends g.B.S.Space g.W.Wire g.B.Storage.own g.B.Storage.layout g.met.B.Storage.no_logs.1 g.B.Storage.holds g.B.Storage.reopens g.B.Storage.fills_since _ c.round.new.base _ _ c.args.space.now c.round.new.space c.keep_round.new.space _ _ _ _ _ _ _ c.round.new.walk _ c.listen.new.peers.items c.round.new.peers.items _ c.in_ok-ev.ev (work c.round.new.batch) c.in_err-keep_round.field-0.0 c.in_ok-ev.ensures.ok c.in_err-keep_round.ensures.not_wire c.in_ok-round.ensures.rounds c.round.ensures.keeps c.in_err-keep_round.ensures.keeps c.keep_round.ensures.idle c.keep_round.ensures.follows.same_names (record { sound = c.requires.ready.base_is.sound; only = λ o t l. g.met.B.S.Space.only_kept c.args.space.now o t c.requires.ready.base_is.sound l; clean = λ t. g.met.B.S.Space.clean c.args.space.now t c.requires.ready.base_is.sound c.requires.ready.untouched }) (λ t u o le l. g.met.B.S.Space.earlier c.keep_round.new.space t u o le l) (λ t full d e. g.met.B.Storage.fills_then c.args.server.now.base c.args.space.now c.keep_round.new.space d e (g.met.B.Storage.log_fills c.args.server.now.base c.args.space.now c.keep_round.new.space d e full))))

pub returns-in_err-keep_round-clause-laid : goal.returns-in_err-keep_round-clause-laid
returns-in_err-keep_round-clause-laid g c = λ l. rw (err_is c.from_residual-in_err-keep_round.result _ c.from_residual-in_err-keep_round.ensures.1) (laid_turns g.B.S.Space g.W.Wire g.B.Storage.holds g.B.Storage.reopens g.B.Storage.own g.B.Storage.layout g.B.Storage.fills_since _ _ _ c.args.space.now _ _ _ _ _ _ _ (whole_turn g.B.S.Space g.W.Wire g.B.Storage.own g.B.Storage.layout g.met.B.Storage.no_logs.1 g.B.Storage.holds (Laid g.B.Storage.own g.B.Storage.layout (frame_of g.B.Storage.layout (g.B.S.Space.now c.args.space.now)) g.B.Storage.reopens) g.B.Storage.fills_since _ _ _ c.args.space.now _ _ _ _ _ _ (state c.args.server.now) _ c.dial.new.peers.items c.in_ok-dial.ensures.told
    (keep_ends g.B.S.Space g.W.Wire g.B.Storage.own g.B.Storage.layout g.met.B.Storage.no_logs.1 g.B.Storage.holds (Laid g.B.Storage.own g.B.Storage.layout (frame_of g.B.Storage.layout (g.B.S.Space.now c.args.space.now)) g.B.Storage.reopens) g.B.Storage.fills_since _ c.round.new.base _ _ c.args.space.now c.round.new.space c.keep_round.new.space _ _ _ _ _ _ _ c.round.new.walk _ c.listen.new.peers.items c.round.new.peers.items _ c.in_ok-ev.ev (work c.round.new.batch) c.in_err-keep_round.field-0.0 c.in_ok-ev.ensures.ok c.in_err-keep_round.ensures.not_wire c.in_ok-round.ensures.rounds c.round.ensures.keeps (round_laid g.B.S.Space g.B.Storage.own g.B.Storage.layout g.B.Storage.holds g.B.Storage.reopens (work c.round.new.batch) _ _ _ _ _ _ c.args.space.now c.round.new.space c.keep_round.new.space _ c.in_ok-round.ensures.rounds.served.leaves c.in_err-keep_round.ensures.laid) c.keep_round.ensures.idle c.keep_round.ensures.follows.same_names (record { sound = c.requires.ready.base_is.sound; only = λ o t l. g.met.B.S.Space.only_kept c.args.space.now o t c.requires.ready.base_is.sound l; clean = λ t. g.met.B.S.Space.clean c.args.space.now t c.requires.ready.base_is.sound c.requires.ready.untouched }) (λ t u o le l. g.met.B.S.Space.earlier c.keep_round.new.space t u o le l) (λ t full d e. g.met.B.Storage.fills_then c.args.server.now.base c.args.space.now c.keep_round.new.space d e (g.met.B.Storage.log_fills c.args.server.now.base c.args.space.now c.keep_round.new.space d e full)))) l)

pub returns-in_err-copy_kept-clause-told : goal.returns-in_err-copy_kept-clause-told
returns-in_err-copy_kept-clause-told g c = rw (err_is c.from_residual-in_err-copy_kept.result _ c.from_residual-in_err-copy_kept.ensures.1, c.in_err-copy_kept.ensures.volume) (whole_turn g.B.S.Space g.W.Wire g.B.Storage.own g.B.Storage.layout g.met.B.Storage.no_logs.1 g.B.Storage.holds g.B.Storage.reopens g.B.Storage.fills_since _ _ _ c.args.space.now _ _ _ _ _ _ (state c.args.server.now) _ c.dial.new.peers.items c.in_ok-dial.ensures.told
    (copy_ends g.B.S.Space g.W.Wire g.B.Storage.own g.B.Storage.layout g.met.B.Storage.no_logs.1 g.B.Storage.holds g.B.Storage.reopens g.B.Storage.fills_since _ c.round.new.base c.keep_round.new.base _ c.args.space.now c.round.new.space c.keep_round.new.space c.copy_kept.new.space _ _ _ _ _ c.keep_round.new.logged _ c.round.new.walk _ c.listen.new.peers.items c.round.new.peers.items _ c.in_ok-ev.ev (work c.round.new.batch) (record {
      hears = c.in_ok-ev.ensures.ok;
      rounds = c.in_ok-round.ensures.rounds;
      keeps = c.round.ensures.keeps;
      kept = c.in_ok-keep_round.ensures.keeps;
      idle = c.keep_round.ensures.idle;
      names = c.keep_round.ensures.follows.same_names;
      copies = c.copy_kept.ensures.copies;
      only = c.copy_kept.ensures.only;
      none = c.copy_kept.ensures.none;
      clean = (record { sound = c.requires.ready.base_is.sound; only = λ o t l. g.met.B.S.Space.only_kept c.args.space.now o t c.requires.ready.base_is.sound l; clean = λ t. g.met.B.S.Space.clean c.args.space.now t c.requires.ready.base_is.sound c.requires.ready.untouched });
      clean_kept = (record { sound = c.in_ok-keep_round.ensures.keeps.kept.ready.sound; only = λ o t l. g.met.B.S.Space.only_kept c.keep_round.new.space o t c.in_ok-keep_round.ensures.keeps.kept.ready.sound l; clean = λ t. g.met.B.S.Space.clean c.keep_round.new.space t c.in_ok-keep_round.ensures.keeps.kept.ready.sound c.in_ok-keep_round.ensures.keeps.kept.untouched });
    }) (λ t u o le l. g.met.B.S.Space.earlier c.copy_kept.new.space t u o le l)))

pub returns-in_err-copy_kept-clause-laid : goal.returns-in_err-copy_kept-clause-laid
returns-in_err-copy_kept-clause-laid g c = λ l. rw (err_is c.from_residual-in_err-copy_kept.result _ c.from_residual-in_err-copy_kept.ensures.1, c.in_err-copy_kept.ensures.volume) (laid_turns g.B.S.Space g.W.Wire g.B.Storage.holds g.B.Storage.reopens g.B.Storage.own g.B.Storage.layout g.B.Storage.fills_since _ _ _ c.args.space.now _ _ _ _ _ _ _ (whole_turn g.B.S.Space g.W.Wire g.B.Storage.own g.B.Storage.layout g.met.B.Storage.no_logs.1 g.B.Storage.holds (Laid g.B.Storage.own g.B.Storage.layout (frame_of g.B.Storage.layout (g.B.S.Space.now c.args.space.now)) g.B.Storage.reopens) g.B.Storage.fills_since _ _ _ c.args.space.now _ _ _ _ _ _ (state c.args.server.now) _ c.dial.new.peers.items c.in_ok-dial.ensures.told
    (copy_ends g.B.S.Space g.W.Wire g.B.Storage.own g.B.Storage.layout g.met.B.Storage.no_logs.1 g.B.Storage.holds (Laid g.B.Storage.own g.B.Storage.layout (frame_of g.B.Storage.layout (g.B.S.Space.now c.args.space.now)) g.B.Storage.reopens) g.B.Storage.fills_since _ c.round.new.base c.keep_round.new.base _ c.args.space.now c.round.new.space c.keep_round.new.space c.copy_kept.new.space _ _ _ _ _ c.keep_round.new.logged _ c.round.new.walk _ c.listen.new.peers.items c.round.new.peers.items _ c.in_ok-ev.ev (work c.round.new.batch) (record {
      hears = c.in_ok-ev.ensures.ok;
      rounds = c.in_ok-round.ensures.rounds;
      keeps = c.round.ensures.keeps;
      kept = round_laid g.B.S.Space g.B.Storage.own g.B.Storage.layout g.B.Storage.holds g.B.Storage.reopens (work c.round.new.batch) _ _ _ _ _ _ c.args.space.now c.round.new.space c.keep_round.new.space _ c.in_ok-round.ensures.rounds.served.leaves c.in_ok-keep_round.ensures.laid;
      idle = c.keep_round.ensures.idle;
      names = c.keep_round.ensures.follows.same_names;
      copies = c.copy_kept.ensures.copies;
      only = c.copy_kept.ensures.only;
      none = c.copy_kept.ensures.none;
      clean = (record { sound = c.requires.ready.base_is.sound; only = λ o t l. g.met.B.S.Space.only_kept c.args.space.now o t c.requires.ready.base_is.sound l; clean = λ t. g.met.B.S.Space.clean c.args.space.now t c.requires.ready.base_is.sound c.requires.ready.untouched });
      clean_kept = (record { sound = c.in_ok-keep_round.ensures.keeps.kept.ready.sound; only = λ o t l. g.met.B.S.Space.only_kept c.keep_round.new.space o t c.in_ok-keep_round.ensures.keeps.kept.ready.sound l; clean = λ t. g.met.B.S.Space.clean c.keep_round.new.space t c.in_ok-keep_round.ensures.keeps.kept.ready.sound c.in_ok-keep_round.ensures.keeps.kept.untouched });
    }) (λ t u o le l. g.met.B.S.Space.earlier c.copy_kept.new.space t u o le l))) l)

pub returns-in_err-finish-clause-told : goal.returns-in_err-finish-clause-told
returns-in_err-finish-clause-told g c = rw (err_is c.from_residual-in_err-finish.result _ c.from_residual-in_err-finish.ensures.1) (whole_turn g.B.S.Space g.W.Wire g.B.Storage.own g.B.Storage.layout g.met.B.Storage.no_logs.1 g.B.Storage.holds g.B.Storage.reopens g.B.Storage.fills_since _ _ _ c.args.space.now _ _ _ _ _ _ (state c.args.server.now) _ c.dial.new.peers.items c.in_ok-dial.ensures.told
    (finish_ends g.B.S.Space g.W.Wire g.B.Storage.own g.B.Storage.layout g.met.B.Storage.no_logs.1 g.B.Storage.holds g.B.Storage.reopens g.B.Storage.fills_since _ c.round.new.base c.keep_round.new.base _ c.args.space.now c.round.new.space c.keep_round.new.space c.copy_kept.new.space c.finish.new.space _ c.listen.new.wire c.finish.new.wire _ _ _ c.keep_round.new.logged _ c.round.new.walk _ c.listen.new.peers.items c.round.new.peers.items c.join_kept.new.peers.items c.finish.new.peers.items _ c.in_ok-ev.ev (work c.round.new.batch) c.finish.result c.in_err-finish.field-0.0 (λ is. c.in_err-finish.ensures.never_full (search (rules, is))) (alone_wire c.args.server.now.logged c.keep_round.new.logged c.in_err-finish.field-0.0 c.in_ok-keep_round.ensures.same c.in_err-finish.ensures.alone) (record { sound = c.finish.ensures.told.reads.is_sound; only = λ o t l. g.met.B.S.Space.only_kept c.finish.new.space o t c.finish.ensures.told.reads.is_sound l; clean = λ t. g.met.B.S.Space.clean c.finish.new.space t c.finish.ensures.told.reads.is_sound (c.finish.ensures.told.reads.untouched ∙ c.copy_kept.ensures.only.touched ∙ c.in_ok-keep_round.ensures.keeps.kept.untouched) }) (record {
      steps = record {
        hears = c.in_ok-ev.ensures.ok;
        rounds = c.in_ok-round.ensures.rounds;
        keeps = c.round.ensures.keeps;
        kept = c.in_ok-keep_round.ensures.keeps;
        idle = c.keep_round.ensures.idle;
        names = c.keep_round.ensures.follows.same_names;
        copies = c.copy_kept.ensures.copies;
        only = c.copy_kept.ensures.only;
        none = c.copy_kept.ensures.none;
        clean = (record { sound = c.requires.ready.base_is.sound; only = λ o t l. g.met.B.S.Space.only_kept c.args.space.now o t c.requires.ready.base_is.sound l; clean = λ t. g.met.B.S.Space.clean c.args.space.now t c.requires.ready.base_is.sound c.requires.ready.untouched });
        clean_kept = (record { sound = c.in_ok-keep_round.ensures.keeps.kept.ready.sound; only = λ o t l. g.met.B.S.Space.only_kept c.keep_round.new.space o t c.in_ok-keep_round.ensures.keeps.kept.ready.sound l; clean = λ t. g.met.B.S.Space.clean c.keep_round.new.space t c.in_ok-keep_round.ensures.keeps.kept.ready.sound c.in_ok-keep_round.ensures.keeps.kept.untouched });
      };
      made = c.in_ok-copy_kept.ensures.made;
      joins = subst (λ qs. Joins (work c.round.new.batch) c.args.server.now.logged c.keep_round.new.logged c.round.new.peers.items qs) (sym c.join_kept.ensures) (kept_joins c.round.new.batch.commits (work c.round.new.batch) c.args.server.now.logged c.keep_round.new.logged c.round.new.peers.items c.in_ok-keep_round.ensures.same c.keep_round.ensures.still (c.in_ok-round.ensures.rounds.served.links (c.in_ok-ev.ensures.ok.links c.args.server.now.logged (c.in_ok-dial.ensures.told.links c.requires.ready.links))));
      finishes = c.finish.ensures.told;
    })))

pub returns-in_err-finish-clause-laid : goal.returns-in_err-finish-clause-laid
returns-in_err-finish-clause-laid g c = λ l. rw (err_is c.from_residual-in_err-finish.result _ c.from_residual-in_err-finish.ensures.1) (laid_turns g.B.S.Space g.W.Wire g.B.Storage.holds g.B.Storage.reopens g.B.Storage.own g.B.Storage.layout g.B.Storage.fills_since _ _ _ c.args.space.now _ _ _ _ _ _ _ (whole_turn g.B.S.Space g.W.Wire g.B.Storage.own g.B.Storage.layout g.met.B.Storage.no_logs.1 g.B.Storage.holds (Laid g.B.Storage.own g.B.Storage.layout (frame_of g.B.Storage.layout (g.B.S.Space.now c.args.space.now)) g.B.Storage.reopens) g.B.Storage.fills_since _ _ _ c.args.space.now _ _ _ _ _ _ (state c.args.server.now) _ c.dial.new.peers.items c.in_ok-dial.ensures.told
    (finish_ends g.B.S.Space g.W.Wire g.B.Storage.own g.B.Storage.layout g.met.B.Storage.no_logs.1 g.B.Storage.holds (Laid g.B.Storage.own g.B.Storage.layout (frame_of g.B.Storage.layout (g.B.S.Space.now c.args.space.now)) g.B.Storage.reopens) g.B.Storage.fills_since _ c.round.new.base c.keep_round.new.base _ c.args.space.now c.round.new.space c.keep_round.new.space c.copy_kept.new.space c.finish.new.space _ c.listen.new.wire c.finish.new.wire _ _ _ c.keep_round.new.logged _ c.round.new.walk _ c.listen.new.peers.items c.round.new.peers.items c.join_kept.new.peers.items c.finish.new.peers.items _ c.in_ok-ev.ev (work c.round.new.batch) c.finish.result c.in_err-finish.field-0.0 (λ is. c.in_err-finish.ensures.never_full (search (rules, is))) (alone_wire c.args.server.now.logged c.keep_round.new.logged c.in_err-finish.field-0.0 c.in_ok-keep_round.ensures.same c.in_err-finish.ensures.alone) (record { sound = c.finish.ensures.told.reads.is_sound; only = λ o t l. g.met.B.S.Space.only_kept c.finish.new.space o t c.finish.ensures.told.reads.is_sound l; clean = λ t. g.met.B.S.Space.clean c.finish.new.space t c.finish.ensures.told.reads.is_sound (c.finish.ensures.told.reads.untouched ∙ c.copy_kept.ensures.only.touched ∙ c.in_ok-keep_round.ensures.keeps.kept.untouched) }) (record {
      steps = record {
        hears = c.in_ok-ev.ensures.ok;
        rounds = c.in_ok-round.ensures.rounds;
        keeps = c.round.ensures.keeps;
        kept = round_laid g.B.S.Space g.B.Storage.own g.B.Storage.layout g.B.Storage.holds g.B.Storage.reopens (work c.round.new.batch) _ _ _ _ _ _ c.args.space.now c.round.new.space c.keep_round.new.space _ c.in_ok-round.ensures.rounds.served.leaves c.in_ok-keep_round.ensures.laid;
        idle = c.keep_round.ensures.idle;
        names = c.keep_round.ensures.follows.same_names;
        copies = c.copy_kept.ensures.copies;
        only = c.copy_kept.ensures.only;
        none = c.copy_kept.ensures.none;
        clean = (record { sound = c.requires.ready.base_is.sound; only = λ o t l. g.met.B.S.Space.only_kept c.args.space.now o t c.requires.ready.base_is.sound l; clean = λ t. g.met.B.S.Space.clean c.args.space.now t c.requires.ready.base_is.sound c.requires.ready.untouched });
        clean_kept = (record { sound = c.in_ok-keep_round.ensures.keeps.kept.ready.sound; only = λ o t l. g.met.B.S.Space.only_kept c.keep_round.new.space o t c.in_ok-keep_round.ensures.keeps.kept.ready.sound l; clean = λ t. g.met.B.S.Space.clean c.keep_round.new.space t c.in_ok-keep_round.ensures.keeps.kept.ready.sound c.in_ok-keep_round.ensures.keeps.kept.untouched });
      };
      made = c.in_ok-copy_kept.ensures.made;
      joins = subst (λ qs. Joins (work c.round.new.batch) c.args.server.now.logged c.keep_round.new.logged c.round.new.peers.items qs) (sym c.join_kept.ensures) (kept_joins c.round.new.batch.commits (work c.round.new.batch) c.args.server.now.logged c.keep_round.new.logged c.round.new.peers.items c.in_ok-keep_round.ensures.same c.keep_round.ensures.still (c.in_ok-round.ensures.rounds.served.links (c.in_ok-ev.ensures.ok.links c.args.server.now.logged (c.in_ok-dial.ensures.told.links c.requires.ready.links))));
      finishes = c.finish.ensures.told;
    }))) l)

pub returns-clause-told : goal.returns-clause-told
returns-clause-told g c = whole_turn g.B.S.Space g.W.Wire g.B.Storage.own g.B.Storage.layout g.met.B.Storage.no_logs.1 g.B.Storage.holds g.B.Storage.reopens g.B.Storage.fills_since _ _ _ c.args.space.now _ _ _ _ _ _ (state c.args.server.now) _ c.dial.new.peers.items c.in_ok-dial.ensures.told
    (subst (λ d. Rest g.B.S.Space g.W.Wire g.B.Storage.own g.B.Storage.layout g.met.B.Storage.no_logs.1 g.B.Storage.holds g.B.Storage.reopens g.B.Storage.fills_since (Ok c.outcome.result) c.args.server.now.base c.keep_round.new.base c.args.space.now c.finish.new.space c.dial.new.wire c.finish.new.wire (g.K.Clock.answers c.args.clock.now) (g.K.Clock.answers c.keep_round.new.clock) c.args.server.now.logged c.args.server.now.walk c.dial.new.peers.items (record { logged = c.keep_round.new.logged; due = d; walk = c.round.new.walk; peers = c.finish.new.peers.items })) (sym c.is_quiet-server.ensures) (subst (λ o. Rest g.B.S.Space g.W.Wire g.B.Storage.own g.B.Storage.layout g.met.B.Storage.no_logs.1 g.B.Storage.holds g.B.Storage.reopens g.B.Storage.fills_since (Ok o) c.args.server.now.base c.keep_round.new.base c.args.space.now c.finish.new.space c.dial.new.wire c.finish.new.wire (g.K.Clock.answers c.args.clock.now) (g.K.Clock.answers c.keep_round.new.clock) c.args.server.now.logged c.args.server.now.walk c.dial.new.peers.items (record { logged = c.keep_round.new.logged; due = is_quiet c.in_ok-ev.ev; walk = c.round.new.walk; peers = c.finish.new.peers.items })) (sym c.outcome.ensures) (went_ends g.B.S.Space g.W.Wire g.B.Storage.own g.B.Storage.layout g.met.B.Storage.no_logs.1 g.B.Storage.holds g.B.Storage.reopens g.B.Storage.fills_since _ c.round.new.base c.keep_round.new.base c.args.space.now c.round.new.space c.keep_round.new.space c.copy_kept.new.space c.finish.new.space _ c.listen.new.wire c.finish.new.wire _ _ _ c.keep_round.new.logged _ c.round.new.walk _ c.listen.new.peers.items c.round.new.peers.items c.join_kept.new.peers.items c.finish.new.peers.items c.in_ok-ev.ev (work c.round.new.batch) c.round.new.batch.gap refl (record { sound = c.finish.ensures.told.reads.is_sound; only = λ o t l. g.met.B.S.Space.only_kept c.finish.new.space o t c.finish.ensures.told.reads.is_sound l; clean = λ t. g.met.B.S.Space.clean c.finish.new.space t c.finish.ensures.told.reads.is_sound (c.finish.ensures.told.reads.untouched ∙ c.copy_kept.ensures.only.touched ∙ c.in_ok-keep_round.ensures.keeps.kept.untouched) }) (record {
      steps = record {
        hears = c.in_ok-ev.ensures.ok;
        rounds = c.in_ok-round.ensures.rounds;
        keeps = c.round.ensures.keeps;
        kept = c.in_ok-keep_round.ensures.keeps;
        idle = c.keep_round.ensures.idle;
        names = c.keep_round.ensures.follows.same_names;
        copies = c.copy_kept.ensures.copies;
        only = c.copy_kept.ensures.only;
        none = c.copy_kept.ensures.none;
        clean = (record { sound = c.requires.ready.base_is.sound; only = λ o t l. g.met.B.S.Space.only_kept c.args.space.now o t c.requires.ready.base_is.sound l; clean = λ t. g.met.B.S.Space.clean c.args.space.now t c.requires.ready.base_is.sound c.requires.ready.untouched });
        clean_kept = (record { sound = c.in_ok-keep_round.ensures.keeps.kept.ready.sound; only = λ o t l. g.met.B.S.Space.only_kept c.keep_round.new.space o t c.in_ok-keep_round.ensures.keeps.kept.ready.sound l; clean = λ t. g.met.B.S.Space.clean c.keep_round.new.space t c.in_ok-keep_round.ensures.keeps.kept.ready.sound c.in_ok-keep_round.ensures.keeps.kept.untouched });
      };
      made = c.in_ok-copy_kept.ensures.made;
      joins = subst (λ qs. Joins (work c.round.new.batch) c.args.server.now.logged c.keep_round.new.logged c.round.new.peers.items qs) (sym c.join_kept.ensures) (kept_joins c.round.new.batch.commits (work c.round.new.batch) c.args.server.now.logged c.keep_round.new.logged c.round.new.peers.items c.in_ok-keep_round.ensures.same c.keep_round.ensures.still (c.in_ok-round.ensures.rounds.served.links (c.in_ok-ev.ensures.ok.links c.args.server.now.logged (c.in_ok-dial.ensures.told.links c.requires.ready.links))));
      finishes = c.in_ok-finish.ensures.told;
    }))))

pub returns-clause-laid : goal.returns-clause-laid
returns-clause-laid g c = λ l. laid_turns g.B.S.Space g.W.Wire g.B.Storage.holds g.B.Storage.reopens g.B.Storage.own g.B.Storage.layout g.B.Storage.fills_since _ _ _ c.args.space.now _ _ _ _ _ _ _ (whole_turn g.B.S.Space g.W.Wire g.B.Storage.own g.B.Storage.layout g.met.B.Storage.no_logs.1 g.B.Storage.holds (Laid g.B.Storage.own g.B.Storage.layout (frame_of g.B.Storage.layout (g.B.S.Space.now c.args.space.now)) g.B.Storage.reopens) g.B.Storage.fills_since _ _ _ c.args.space.now _ _ _ _ _ _ (state c.args.server.now) _ c.dial.new.peers.items c.in_ok-dial.ensures.told
    (subst (λ d. Rest g.B.S.Space g.W.Wire g.B.Storage.own g.B.Storage.layout g.met.B.Storage.no_logs.1 g.B.Storage.holds (Laid g.B.Storage.own g.B.Storage.layout (frame_of g.B.Storage.layout (g.B.S.Space.now c.args.space.now)) g.B.Storage.reopens) g.B.Storage.fills_since (Ok c.outcome.result) c.args.server.now.base c.keep_round.new.base c.args.space.now c.finish.new.space c.dial.new.wire c.finish.new.wire (g.K.Clock.answers c.args.clock.now) (g.K.Clock.answers c.keep_round.new.clock) c.args.server.now.logged c.args.server.now.walk c.dial.new.peers.items (record { logged = c.keep_round.new.logged; due = d; walk = c.round.new.walk; peers = c.finish.new.peers.items })) (sym c.is_quiet-server.ensures) (subst (λ o. Rest g.B.S.Space g.W.Wire g.B.Storage.own g.B.Storage.layout g.met.B.Storage.no_logs.1 g.B.Storage.holds (Laid g.B.Storage.own g.B.Storage.layout (frame_of g.B.Storage.layout (g.B.S.Space.now c.args.space.now)) g.B.Storage.reopens) g.B.Storage.fills_since (Ok o) c.args.server.now.base c.keep_round.new.base c.args.space.now c.finish.new.space c.dial.new.wire c.finish.new.wire (g.K.Clock.answers c.args.clock.now) (g.K.Clock.answers c.keep_round.new.clock) c.args.server.now.logged c.args.server.now.walk c.dial.new.peers.items (record { logged = c.keep_round.new.logged; due = is_quiet c.in_ok-ev.ev; walk = c.round.new.walk; peers = c.finish.new.peers.items })) (sym c.outcome.ensures) (went_ends g.B.S.Space g.W.Wire g.B.Storage.own g.B.Storage.layout g.met.B.Storage.no_logs.1 g.B.Storage.holds (Laid g.B.Storage.own g.B.Storage.layout (frame_of g.B.Storage.layout (g.B.S.Space.now c.args.space.now)) g.B.Storage.reopens) g.B.Storage.fills_since _ c.round.new.base c.keep_round.new.base c.args.space.now c.round.new.space c.keep_round.new.space c.copy_kept.new.space c.finish.new.space _ c.listen.new.wire c.finish.new.wire _ _ _ c.keep_round.new.logged _ c.round.new.walk _ c.listen.new.peers.items c.round.new.peers.items c.join_kept.new.peers.items c.finish.new.peers.items c.in_ok-ev.ev (work c.round.new.batch) c.round.new.batch.gap refl (record { sound = c.finish.ensures.told.reads.is_sound; only = λ o t l. g.met.B.S.Space.only_kept c.finish.new.space o t c.finish.ensures.told.reads.is_sound l; clean = λ t. g.met.B.S.Space.clean c.finish.new.space t c.finish.ensures.told.reads.is_sound (c.finish.ensures.told.reads.untouched ∙ c.copy_kept.ensures.only.touched ∙ c.in_ok-keep_round.ensures.keeps.kept.untouched) }) (record {
      steps = record {
        hears = c.in_ok-ev.ensures.ok;
        rounds = c.in_ok-round.ensures.rounds;
        keeps = c.round.ensures.keeps;
        kept = round_laid g.B.S.Space g.B.Storage.own g.B.Storage.layout g.B.Storage.holds g.B.Storage.reopens (work c.round.new.batch) _ _ _ _ _ _ c.args.space.now c.round.new.space c.keep_round.new.space _ c.in_ok-round.ensures.rounds.served.leaves c.in_ok-keep_round.ensures.laid;
        idle = c.keep_round.ensures.idle;
        names = c.keep_round.ensures.follows.same_names;
        copies = c.copy_kept.ensures.copies;
        only = c.copy_kept.ensures.only;
        none = c.copy_kept.ensures.none;
        clean = (record { sound = c.requires.ready.base_is.sound; only = λ o t l. g.met.B.S.Space.only_kept c.args.space.now o t c.requires.ready.base_is.sound l; clean = λ t. g.met.B.S.Space.clean c.args.space.now t c.requires.ready.base_is.sound c.requires.ready.untouched });
        clean_kept = (record { sound = c.in_ok-keep_round.ensures.keeps.kept.ready.sound; only = λ o t l. g.met.B.S.Space.only_kept c.keep_round.new.space o t c.in_ok-keep_round.ensures.keeps.kept.ready.sound l; clean = λ t. g.met.B.S.Space.clean c.keep_round.new.space t c.in_ok-keep_round.ensures.keeps.kept.ready.sound c.in_ok-keep_round.ensures.keeps.kept.untouched });
      };
      made = c.in_ok-copy_kept.ensures.made;
      joins = subst (λ qs. Joins (work c.round.new.batch) c.args.server.now.logged c.keep_round.new.logged c.round.new.peers.items qs) (sym c.join_kept.ensures) (kept_joins c.round.new.batch.commits (work c.round.new.batch) c.args.server.now.logged c.keep_round.new.logged c.round.new.peers.items c.in_ok-keep_round.ensures.same c.keep_round.ensures.still (c.in_ok-round.ensures.rounds.served.links (c.in_ok-ev.ensures.ok.links c.args.server.now.logged (c.in_ok-dial.ensures.told.links c.requires.ready.links))));
      finishes = c.in_ok-finish.ensures.told;
    }))))) l

pub keep_round-requires : goal.keep_round-requires
keep_round-requires g c = record { may = record { may = record { ready = c.in_ok-round.ensures.rounds.served.ready; untouched = λ e. (c.in_ok-round.ensures.rounds.served.leaves.reads e).untouched ∙ c.requires.ready.untouched }; fit = c.in_ok-round.ensures.rounds.served.fit (c.in_ok-ev.ensures.ok.links c.args.server.now.logged (c.in_ok-dial.ensures.told.links c.requires.ready.links)) } }

pub join_kept-requires : goal.join_kept-requires
join_kept-requires g c = may_join c.args.server.now.logged c.keep_round.new.logged c.round.new.peers.items c.in_ok-keep_round.ensures.same (c.in_ok-round.ensures.rounds.served.links (c.in_ok-ev.ensures.ok.links c.args.server.now.logged (c.in_ok-dial.ensures.told.links c.requires.ready.links)))

pub returns-clause-ready : goal.returns-clause-ready
returns-clause-ready g c = ready_again g.B.S.Space g.W.Wire g.B.Storage.own g.B.Storage.layout g.B.Storage.holds _ c.keep_round.new.logged _ (work c.round.new.batch) _ c.round.new.base c.keep_round.new.base c.args.space.now c.round.new.space c.keep_round.new.space c.copy_kept.new.space c.finish.new.space _ c.dial.new.wire c.listen.new.wire c.finish.new.wire _ c.round.new.walk _ c.dial.new.peers.items c.listen.new.peers.items c.round.new.peers.items c.join_kept.new.peers.items c.finish.new.peers.items c.in_ok-ev.ev
    (record {
      was = c.requires.ready;
      dials = c.in_ok-dial.ensures.told;
      hears = c.in_ok-ev.ensures.ok;
      rounds = c.in_ok-round.ensures.rounds;
      kept = c.in_ok-keep_round.ensures.keeps.kept.ready;
      untouched = c.in_ok-keep_round.ensures.keeps.kept.untouched;
      copies = c.copy_kept.ensures.only;
      joins = subst (λ qs. Joins (work c.round.new.batch) c.args.server.now.logged c.keep_round.new.logged c.round.new.peers.items qs) (sym c.join_kept.ensures) (kept_joins c.round.new.batch.commits (work c.round.new.batch) c.args.server.now.logged c.keep_round.new.logged c.round.new.peers.items c.in_ok-keep_round.ensures.same c.keep_round.ensures.still (c.in_ok-round.ensures.rounds.served.links (c.in_ok-ev.ensures.ok.links c.args.server.now.logged (c.in_ok-dial.ensures.told.links c.requires.ready.links))));
      finishes = c.in_ok-finish.ensures.told;
      opened = c.finish.ensures.opened;
      wired = c.in_ok-finish.ensures.wired;
    })

pub returns-clause-same : goal.returns-clause-same
returns-clause-same g c = c.in_ok-keep_round.ensures.same

pub returns-clause-met : goal.returns-clause-met
returns-clause-met g c = subst (MeetsFor (settings_of c.args.server.now.logged)) (sym c.outcome.ensures) (meets_for (settings_of c.args.server.now.logged) c.in_ok-ev.ev c.round.new.batch.gap (c.in_ok-round.ensures.rounds.served.fit (c.in_ok-ev.ensures.ok.links c.args.server.now.logged (c.in_ok-dial.ensures.told.links c.requires.ready.links))).met)

pub copy_kept-requires-clause-sound : goal.copy_kept-requires-clause-sound
copy_kept-requires-clause-sound g c = c.in_ok-keep_round.ensures.keeps.kept.ready.sound

pub copy_kept-requires-clause-untouched : goal.copy_kept-requires-clause-untouched
copy_kept-requires-clause-untouched g c = c.in_ok-keep_round.ensures.keeps.kept.untouched

pub finish-requires-clause-wired : goal.finish-requires-clause-wired
finish-requires-clause-wired g c = wired_as _ _ _ ((subst (λ qs. Joins (work c.round.new.batch) c.args.server.now.logged c.keep_round.new.logged c.round.new.peers.items qs) (sym c.join_kept.ensures) (kept_joins c.round.new.batch.commits (work c.round.new.batch) c.args.server.now.logged c.keep_round.new.logged c.round.new.peers.items c.in_ok-keep_round.ensures.same c.keep_round.ensures.still (c.in_ok-round.ensures.rounds.served.links (c.in_ok-ev.ensures.ok.links c.args.server.now.logged (c.in_ok-dial.ensures.told.links c.requires.ready.links))))).numbers ∙ c.in_ok-round.ensures.rounds.served.numbers) c.in_ok-ev.ensures.wired.0

pub finish-requires-clause-calm : goal.finish-requires-clause-calm
finish-requires-clause-calm g c = subst (IsSpan _) (sym c.join_kept.ensures) (span_held _ c.round.new.batch.commits c.keep_round.new.logged c.round.new.peers.items c.in_ok-round.ensures.span)

pub finish-requires-clause-few : goal.finish-requires-clause-few
finish-requires-clause-few g c =
    let stay = c.in_ok-dial.ensures.told.stay c.requires.ready.none_over in
    let heard = c.in_ok-ev.ensures.ok.few stay.0 (c.in_ok-dial.ensures.told.introduced c.requires.ready.introduced) in
    (subst (λ qs. Joins (work c.round.new.batch) c.args.server.now.logged c.keep_round.new.logged c.round.new.peers.items qs) (sym c.join_kept.ensures) (kept_joins c.round.new.batch.commits (work c.round.new.batch) c.args.server.now.logged c.keep_round.new.logged c.round.new.peers.items c.in_ok-keep_round.ensures.same c.keep_round.ensures.still (c.in_ok-round.ensures.rounds.served.links (c.in_ok-ev.ensures.ok.links c.args.server.now.logged (c.in_ok-dial.ensures.told.links c.requires.ready.links))))).few.waiting (c.in_ok-round.ensures.rounds.served.waiting (heard.waiting (stay.1.waiting c.requires.ready.waiting)))

pub finish-requires-clause-sound : goal.finish-requires-clause-sound
finish-requires-clause-sound g c = c.copy_kept.ensures.only.sound

pub returns-in_err-dial-clause-follows : goal.returns-in_err-dial-clause-follows
returns-in_err-dial-clause-follows g c = told_refl g.B.S.Space c.args.space.now

pub returns-in_err-ev-clause-follows : goal.returns-in_err-ev-clause-follows
returns-in_err-ev-clause-follows g c = told_refl g.B.S.Space c.args.space.now

pub returns-in_err-round-clause-follows : goal.returns-in_err-round-clause-follows
returns-in_err-round-clause-follows g c = told_keeps g.B.S.Space c.args.space.now c.round.new.space c.round.ensures.keeps

pub returns-in_err-keep_round-clause-follows : goal.returns-in_err-keep_round-clause-follows
returns-in_err-keep_round-clause-follows g c = told_kept g.B.S.Space c.args.space.now c.round.new.space c.keep_round.new.space c.round.ensures.keeps c.keep_round.ensures.follows

pub returns-in_err-copy_kept-clause-follows : goal.returns-in_err-copy_kept-clause-follows
returns-in_err-copy_kept-clause-follows g c = told_copied g.B.S.Space c.args.space.now c.round.new.space c.keep_round.new.space c.copy_kept.new.space c.round.ensures.keeps c.keep_round.ensures.follows c.copy_kept.ensures.only

pub returns-in_err-finish-clause-follows : goal.returns-in_err-finish-clause-follows
returns-in_err-finish-clause-follows g c = told_all g.B.S.Space c.args.space.now c.round.new.space c.keep_round.new.space c.copy_kept.new.space c.finish.new.space c.round.ensures.keeps c.keep_round.ensures.follows c.copy_kept.ensures.only c.finish.ensures.told.reads

pub returns-clause-follows : goal.returns-clause-follows
returns-clause-follows g c = told_all g.B.S.Space c.args.space.now c.round.new.space c.keep_round.new.space c.copy_kept.new.space c.finish.new.space c.round.ensures.keeps c.keep_round.ensures.follows c.copy_kept.ensures.only c.finish.ensures.told.reads
