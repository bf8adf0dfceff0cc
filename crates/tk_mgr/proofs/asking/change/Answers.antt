use Rattle.std.proofs.Common.{◌≡◌, rules, false}
use Rattle.std.specs.Prelude.{Some}
use Rattle.tk_mgr.specs.Managing.{with_contents}
use Rattle.tk_mgr.specs.Tasks.{asked}
use Rattle.ty_base.proofs.Refusals.{err_is}
use Rattle.ty_base.specs.Holding.{Laid, is_idle, leaves_less}
use Rattle.ty_rounds.proofs.Laying.{kept_like, moves_like}
use Rattle.tk_mgr.proofs.Ends.{asked_mark, asked_stood, carries_kept, carries_refused, carries_unkept}
use Rattle.tk_mgr.proofs.asking.change.Goals as goal

pub returns-clause-carries : goal.returns-clause-carries
returns-clause-carries g c = λ m h.
    let s = g.B.S.Space in
    let w = c.in_ok-applied.ensures.answers m.contents h.has.held in
    let k = c.in_ok-save.ensures.kept in
    let n = with_contents m (asked (Some c.args.request) m.contents) in
    let has = asked_mark s g.B.Storage.reopens g.B.Storage.holds c.args.request c.in_ok-applied.applied _ _ _ _ _ m g.met.B.Storage.no_logs.1 c.in_ok-applied.ensures.leaves w h.has in
    carries_kept s g.B.Storage.reopens g.B.Storage.holds (Some c.args.request) c.in_ok-applied.applied.ok _ c.save.new.base _ c.ask.new.space _ m w.ok
    (record { sound = c.requires.may.sound; only = λ o t l. g.met.B.S.Space.only_kept c.args.space.now o t c.requires.may.sound l; clean = λ t. g.met.B.S.Space.clean c.args.space.now t c.requires.may.sound c.requires.may.untouched })
    (record { sound = k.ready.sound; only = λ o t l. g.met.B.S.Space.only_kept c.save.new.space o t k.ready.sound l; clean = λ t. g.met.B.S.Space.clean c.save.new.space t k.ready.sound k.untouched })
    c.in_ok-applied.ensures.keeps
    (c.in_ok-save.ensures.moments n has)
    (k.marks n has (asked_stood s g.B.Storage.reopens g.B.Storage.holds c.args.request c.in_ok-applied.applied _ _ _ _ _ m c.requires.packs_none c.in_ok-applied.ensures.leaves w h))
    h

pub returns-in_err-save-clause-carries : goal.returns-in_err-save-clause-carries
returns-in_err-save-clause-carries g c = λ m h.
    let s = g.B.S.Space in
    let w = c.in_ok-applied.ensures.answers m.contents h.has.held in
    let n = with_contents m (asked (Some c.args.request) m.contents) in
    rw (err_is c.from_residual-in_err-save.result _ c.from_residual-in_err-save.ensures.1) (carries_unkept s g.B.Storage.reopens g.B.Storage.holds (Some c.args.request) c.in_err-save.field-0.0 _ _ c.ask.new.space _ m
    (λ is. c.in_err-save.ensures.not_sink (search (rules, is)))
    (record { sound = c.requires.may.sound; only = λ o t l. g.met.B.S.Space.only_kept c.args.space.now o t c.requires.may.sound l; clean = λ t. g.met.B.S.Space.clean c.args.space.now t c.requires.may.sound c.requires.may.untouched })
    c.in_ok-applied.ensures.keeps
    (c.in_err-save.ensures.moments n (asked_mark s g.B.Storage.reopens g.B.Storage.holds c.args.request c.in_ok-applied.applied _ _ _ _ _ m g.met.B.Storage.no_logs.1 c.in_ok-applied.ensures.leaves w h.has))
    h)

pub returns-in_err-save-clause-full : goal.returns-in_err-save-clause-full
returns-in_err-save-clause-full g c = λ is d h. let e = asked (Some c.args.request) d in g.met.B.Storage.fills_then c.args.base.now c.args.space.now c.save.new.space d e (g.met.B.Storage.log_fills c.args.base.now c.args.space.now c.save.new.space d e (c.in_err-save.ensures.full (search (rules, is)) h.0))

pub returns-in_err-applied-clause-full : goal.returns-in_err-applied-clause-full
returns-in_err-applied-clause-full g c = λ is d h. g.met.B.Storage.fills_then c.args.base.now c.args.space.now c.ask.new.space d (asked (Some c.args.request) d) ((c.in_err-applied.ensures.full (search (rules, is))).by d h)

-- ---- laid out like what was there

pub returns-in_err-applied-clause-laid : goal.returns-in_err-applied-clause-laid
returns-in_err-applied-clause-laid g c = λ l m h.
    let b = g.B.Storage in
    rw (err_is c.from_residual.result _ c.from_residual.ensures.1) (carries_refused g.B.S.Space (Laid b.own b.layout l b.reopens) b.holds (Some c.args.request) c.in_err-applied.field-0.0 c.args.base.now c.args.space.now c.ask.new.space m
    (λ is. c.in_err-applied.ensures.not_sink (search (rules, is)))
    (record { sound = c.requires.may.sound; only = λ o t l. g.met.B.S.Space.only_kept c.args.space.now o t c.requires.may.sound l; clean = λ t. g.met.B.S.Space.clean c.args.space.now t c.requires.may.sound c.requires.may.untouched })
    c.ask.ensures.keeps h)

pub returns-in_err-save-clause-laid : goal.returns-in_err-save-clause-laid
returns-in_err-save-clause-laid g c = λ l m h.
    let s = g.B.S.Space in
    let b = g.B.Storage in
    let like = Laid b.own b.layout l b.reopens in
    let a = c.in_ok-applied.applied in
    let w = c.in_ok-applied.ensures.answers m.contents h.has.held in
    let n = with_contents m (asked (Some c.args.request) m.contents) in
    let leaves = leaves_less s b.own b.layout (is_idle c.args.request a) (a.updated ≡ false) c.args.space.now c.ask.new.space (λ none. (none, c.requires.packs_none)) c.in_ok-applied.ensures.leaves in
    rw (err_is c.from_residual-in_err-save.result _ c.from_residual-in_err-save.ensures.1) (carries_unkept s like b.holds (Some c.args.request) c.in_err-save.field-0.0 c.args.base.now c.args.space.now c.ask.new.space c.save.new.space m
    (λ is. c.in_err-save.ensures.not_sink (search (rules, is)))
    (record { sound = c.requires.may.sound; only = λ o t l. g.met.B.S.Space.only_kept c.args.space.now o t c.requires.may.sound l; clean = λ t. g.met.B.S.Space.clean c.args.space.now t c.requires.may.sound c.requires.may.untouched })
    c.in_ok-applied.ensures.keeps
    (moves_like s b.own b.layout b.holds b.reopens l a.updated c.ask.new.base c.args.space.now c.ask.new.space c.save.new.space h.stand.like leaves c.save.ensures.moved n
    (asked_mark s like b.holds c.args.request a _ _ _ _ _ m g.met.B.Storage.no_logs.1 c.in_ok-applied.ensures.leaves w h.has))
    h)

pub returns-clause-laid : goal.returns-clause-laid
returns-clause-laid g c = λ l m h.
    let s = g.B.S.Space in
    let b = g.B.Storage in
    let like = Laid b.own b.layout l b.reopens in
    let a = c.in_ok-applied.applied in
    let w = c.in_ok-applied.ensures.answers m.contents h.has.held in
    let n = with_contents m (asked (Some c.args.request) m.contents) in
    let leaves = leaves_less s b.own b.layout (is_idle c.args.request a) (a.updated ≡ false) c.args.space.now c.ask.new.space (λ none. (none, c.requires.packs_none)) c.in_ok-applied.ensures.leaves in
    let k = kept_like s b.own b.layout b.holds b.reopens l a.updated c.ask.new.base c.save.new.base c.args.space.now c.ask.new.space c.save.new.space h.stand.like leaves c.in_ok-save.ensures.laid in
    let has = asked_mark s like b.holds c.args.request a _ _ _ _ _ m g.met.B.Storage.no_logs.1 c.in_ok-applied.ensures.leaves w h.has in
    carries_kept s like b.holds (Some c.args.request) a.ok c.args.base.now c.save.new.base c.args.space.now c.ask.new.space c.save.new.space m w.ok
    (record { sound = c.requires.may.sound; only = λ o t l. g.met.B.S.Space.only_kept c.args.space.now o t c.requires.may.sound l; clean = λ t. g.met.B.S.Space.clean c.args.space.now t c.requires.may.sound c.requires.may.untouched })
    (record { sound = k.ready.sound; only = λ o t x. g.met.B.S.Space.only_kept c.save.new.space o t k.ready.sound x; clean = λ t. g.met.B.S.Space.clean c.save.new.space t k.ready.sound k.untouched })
    c.in_ok-applied.ensures.keeps
    (moves_like s b.own b.layout b.holds b.reopens l a.updated c.ask.new.base c.args.space.now c.ask.new.space c.save.new.space h.stand.like leaves c.save.ensures.moved n has)
    (k.marks n has (asked_stood s like b.holds c.args.request a _ _ _ _ _ m c.requires.packs_none c.in_ok-applied.ensures.leaves w h))
    h
