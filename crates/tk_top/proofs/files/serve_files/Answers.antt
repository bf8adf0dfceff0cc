use Rattle.std.proofs.Common.{◌≡◌, inl, inr, ⊎_elim, true, false, [], refl, rules, sym, subst, ◌∙◌}
use Rattle.tc_model.specs.Contents.{Contents}
use Rattle.tk_top.specs.declared.ends.End.{End}
use Rattle.ty_base.specs.Holding.{Laid}
use Rattle.ty_base.specs.Opening.{OpensTo}
use Rattle.ty_base.specs.declared.errors.AnyErr.TheVariants as any
use Rattle.tk_top.specs.Over.{Judged}
use Rattle.tk_top.specs.Serving.{Begins, RunsOver}
use Rattle.tk_top.specs.Staying.{BreaksOver}
use Rattle.ty_world.specs.Logs.{plain}
use Rattle.ty_rounds.specs.Kept.{HoldsMark}
use Rattle.tk_top.specs.Starts.{plainly}
use Rattle.tk_top.proofs.Kept.{ended_not, full_err, full_opened, judged_err, over_opened, over_refused}
use Rattle.tk_top.proofs.Fresh.{fresh}
use Rattle.tk_top.proofs.files.serve_files.Goals as goal

pub returns-in-Err-clause-told : goal.returns-in-Err-clause-told
returns-in-Err-clause-told g c = let s = g.B.S.Space in let b = g.B.Storage in let w = g.W.Wire in
    subst (λ end. RunsOver s w plainly b.reopens (g.B.Opens.shaped g.B.Opens.usual) end c.args.turns c.args.at.now c.args.space.now c.open_kept.new.space c.args.wire.now c.args.wire.now (Begins s (OpensTo c.args.kind b.reopens) c.args.space.now)) (sym c.from.ensures)
    (over_refused s w b.reopens (OpensTo c.args.kind b.reopens) (g.B.Opens.shaped g.B.Opens.usual) (λ files d h. h.stand) plainly (Begins s (OpensTo c.args.kind b.reopens) c.args.space.now) c.in-Err.e c.args.turns c.args.at.now c.args.space.now c.open_kept.new.space c.args.wire.now
    (fresh g.B.S.Space c.args.space.now g.met.B.S.Space.only_kept g.met.B.S.Space.clean c.requires.sound c.requires.untouched)
    (g.met.B.S.Space.earlier c.open_kept.new.space) c.open_kept.ensures.follows.same_names c.open_kept.ensures.moments (λ m h. h) (λ m h on. absurd (let e : false ≡ true = on in cc)))

pub returns-in-Err-clause-judged : goal.returns-in-Err-clause-judged
returns-in-Err-clause-judged g c = let s = g.B.S.Space in let opens = OpensTo c.args.kind g.B.Storage.reopens in
    let full : c.in-Err.e ≡ any.Full → s.tells → (d : Contents) × opens (s.now c.args.space.now) d = λ is t. let x = c.in-Err.ensures.full (search rules) t in (x.contents, x.stand) in
    let breaks = BreaksOver s (g.B.Opens.breaks c.args.kind) c.args.space.now c.open_kept.new.space in
    subst (λ (end : End). Judged end (s.tells → (d : Contents) × opens (s.now c.args.space.now) d) breaks) (sym c.from.ensures)
    (judged_err c.in-Err.e (s.tells → (d : Contents) × opens (s.now c.args.space.now) d) breaks c.in-Err.ensures.broken full)

pub returns-in-Err-clause-full : goal.returns-in-Err-clause-full
returns-in-Err-clause-full g c = λ is. let e : c.in-Err.e ≡ any.Full = full_err c.in-Err.e (sym c.from.ensures ∙ is) in record { which = inl (λ t. let new = c.in-Err.ensures.full (search rules) t in (new.empty, new.full)) }

pub returns-clause-told : goal.returns-clause-told
returns-clause-told g c = let s = g.B.S.Space in let b = g.B.Storage in let w = g.W.Wire in
    over_opened s w b.reopens (OpensTo c.args.kind b.reopens) (g.B.Opens.shaped g.B.Opens.usual) (λ files d h. h.stand) plainly (HoldsMark s b.holds b.reopens c.in-Ok.base c.open_kept.new.space) c.serve_base.result c.args.turns c.args.at.now c.args.space.now c.open_kept.new.space c.serve_base.new.space c.args.wire.now c.serve_base.new.wire
    (fresh g.B.S.Space c.args.space.now g.met.B.S.Space.only_kept g.met.B.S.Space.clean c.requires.sound c.requires.untouched)
    c.open_kept.ensures.follows.same_names c.open_kept.ensures.moments c.in-Ok.ensures.opened.marks (λ m h on. absurd (let e : false ≡ true = on in cc))
    c.in-Ok.ensures.opened.still
    c.serve_base.ensures.told

pub returns-clause-full : goal.returns-clause-full
returns-clause-full g c = λ is. let s = g.B.S.Space in let b = g.B.Storage in
    record {
      which = inr (full_opened (b.fills_since c.open_kept.new.space c.serve_base.new.space) (b.fills_since c.args.space.now c.serve_base.new.space) (λ at size. ⊥) plain (Begins s (OpensTo c.args.kind b.reopens) c.args.space.now) (HoldsMark s b.holds b.reopens c.in-Ok.base c.open_kept.new.space) [] (g.W.Wire.transcript c.args.wire.now) (g.W.Wire.transcript c.serve_base.new.wire) c.in-Ok.ensures.opened.marks
          (λ m h. (g.met.B.Storage.since_more c.args.space.now c.open_kept.new.space c.serve_base.new.space (c.open_kept.ensures.moments m h).leaves.later).fills) (c.serve_base.ensures.full is));
    }

pub returns-in-Err-clause-guards : goal.returns-in-Err-clause-guards
returns-in-Err-clause-guards g c = let other = ended_not c.in-Err.e in record {
  begun = inl refl;
  copied = inl c.open_kept.ensures.follows.same_names;
  spared = λ t damaged. (c.open_kept.ensures.there t damaged.some).spared damaged.none;
  sound = λ out. absurd (⊎_elim (λ is. other.0 (sym c.from.ensures ∙ is)) (λ is. other.1 (sym c.from.ensures ∙ is)) out);
}

pub returns-clause-guards : goal.returns-clause-guards
returns-clause-guards g c = let stands = c.in-Ok.ensures.opened.stands in record {
  begun = inr stands;
  copied = inr stands;
  spared = λ t damaged. let x = stands t in absurd (damaged.none x.0 x.1);
  sound = c.serve_base.ensures.sound;
}

pub returns-in-Err-clause-laid : goal.returns-in-Err-clause-laid
returns-in-Err-clause-laid g c = λ l. let s = g.B.S.Space in let b = g.B.Storage in let w = g.W.Wire in
    subst (λ end. RunsOver s w plainly (Laid b.own b.layout l b.reopens) (g.B.Opens.shaped g.B.Opens.usual) end c.args.turns c.args.at.now c.args.space.now c.open_kept.new.space c.args.wire.now c.args.wire.now (Begins s (OpensTo c.args.kind (Laid b.own b.layout l b.reopens)) c.args.space.now)) (sym c.from.ensures)
    (over_refused s w (Laid b.own b.layout l b.reopens) (OpensTo c.args.kind (Laid b.own b.layout l b.reopens)) (g.B.Opens.shaped g.B.Opens.usual) (λ files d h. h.stand) plainly (Begins s (OpensTo c.args.kind (Laid b.own b.layout l b.reopens)) c.args.space.now) c.in-Err.e c.args.turns c.args.at.now c.args.space.now c.open_kept.new.space c.args.wire.now
    (fresh g.B.S.Space c.args.space.now g.met.B.S.Space.only_kept g.met.B.S.Space.clean c.requires.sound c.requires.untouched)
    (g.met.B.S.Space.earlier c.open_kept.new.space) c.open_kept.ensures.follows.same_names (c.open_kept.ensures.moved l) (λ m h. h) (λ m h on. absurd (let e : false ≡ true = on in cc)))

pub returns-clause-laid : goal.returns-clause-laid
returns-clause-laid g c = λ l. let s = g.B.S.Space in let b = g.B.Storage in let w = g.W.Wire in
    over_opened s w (Laid b.own b.layout l b.reopens) (OpensTo c.args.kind (Laid b.own b.layout l b.reopens)) (g.B.Opens.shaped g.B.Opens.usual) (λ files d h. h.stand) plainly (HoldsMark s b.holds (Laid b.own b.layout l b.reopens) c.in-Ok.base c.open_kept.new.space) c.serve_base.result c.args.turns c.args.at.now c.args.space.now c.open_kept.new.space c.serve_base.new.space c.args.wire.now c.serve_base.new.wire
    (fresh g.B.S.Space c.args.space.now g.met.B.S.Space.only_kept g.met.B.S.Space.clean c.requires.sound c.requires.untouched)
    c.open_kept.ensures.follows.same_names (c.open_kept.ensures.moved l) (c.in-Ok.ensures.laid l) (λ m h on. absurd (let e : false ≡ true = on in cc))
    c.in-Ok.ensures.opened.still
    (c.serve_base.ensures.laid l)
