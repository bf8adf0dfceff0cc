use Rattle.std.proofs.Common.{ap, arith, inr, sym, subst, ◌∙◌, ◌≡◌, []}
use Rattle.std.proofs.lemmas.List.{nil_from_length}
use Rattle.std.specs.Prelude.{Err}
use Rattle.tk_top.specs.declared.ends.End.{End}
use Rattle.tk_top.specs.declared.ends.End.TheVariants.{Done, VolumeFault}
use Rattle.ty_base.specs.Holding.{Laid, no_layout}
use Rattle.ty_rounds.specs.Kept.{StandFor}
use Rattle.tk_mgr.specs.Managing.{with_contents}
use Rattle.tk_top.specs.Ends.{end_of}
use Rattle.tk_top.specs.Making.{CanBeMade, InShape, JudgedMaking, MakesShaped, MakingOver}
use Rattle.tk_top.specs.Serving.{Begins}
use Rattle.tc_base.specs.Files.{Files}
use Rattle.tc_model.specs.Contents.{Contents}
use Rattle.ty_world.specs.World.{Mark}
use Rattle.tk_top.specs.Staying.{BreaksOver}
use Rattle.tk_top.proofs.Staying.{breaks_over}
use Rattle.tk_top.proofs.Kept.{commit_moves, steady_moves}
use Rattle.tk_top.proofs.Made.{can_be_made, making_err, making_over}
use Rattle.tk_top.proofs.Managed.{unbegun_of}
use Rattle.tk_top.proofs.Fresh.{fresh}
use Rattle.tk_top.proofs.Laying.{stays_beside}
use Rattle.tk_top.proofs.making.make_opened.Goals as goal

pub returns-in-Err-clause-made : goal.returns-in-Err-clause-made
returns-in-Err-clause-made g c = let s = g.B.S.Space in let b = g.B.Storage in let old = c.args.space.now in let mid = c.create.new.space in
    let shaped = g.B.Opens.shaped c.args.shape.now in let anew = g.B.Opens.anew c.args.shape.now in
    let by : (like : Files → Contents → Type 0) → (first : Mark) → Begins s like old first → MakingOver s like shaped anew (end_of c.in-Err.e) old mid first = λ like first h.
    making_over like shaped anew s (end_of c.in-Err.e) old mid first
    (fresh s old g.met.B.S.Space.only_kept g.met.B.S.Space.clean c.requires.sound c.requires.untouched)
    (g.met.B.S.Space.earlier mid) h
    (steady_moves s like old mid (with_contents first anew) (c.in-Err.ensures.keeps.steady h.0))
    (unbegun_of c.in-Err.e).not_refused (λ is. absurd ((unbegun_of c.in-Err.e).not_done is))
    in subst (λ (end : End). MakesShaped s b.reopens shaped anew end old mid) (sym c.from.ensures) (record { stands = by b.reopens; shaped = by (InShape b.reopens shaped) })

pub returns-in-Ok-commit-clause-made : goal.returns-in-Ok-commit-clause-made
returns-in-Ok-commit-clause-made g c = let s = g.B.S.Space in let b = g.B.Storage in let old = c.args.space.now in let mid = c.create.new.space in let new = c.commit.new.self in
    let shaped = g.B.Opens.shaped c.args.shape.now in let anew = g.B.Opens.anew c.args.shape.now in
    let by : (like : Files → Contents → Type 0) → (s.tells → like (s.now mid) anew) → (first : Mark) → Begins s like old first → MakingOver s like shaped anew Done old new first = λ like stands first h.
    let created = c.in-Ok.ensures.created h.0 in
    let stand : StandFor like (s.now mid) (with_contents first anew) = record { contents = stands h.0; log = c.in-Ok.ensures.usable.others.same h.0 2 g.met.B.Storage.no_logs.1 ∙ h.1.log } in
    making_over like shaped anew s Done old new first
    (fresh s old g.met.B.S.Space.only_kept g.met.B.S.Space.clean c.requires.sound c.requires.untouched)
    (g.met.B.S.Space.earlier new) h
    (commit_moves s like old mid new (with_contents first anew) (c.in-Ok.ensures.keeps.steady h.0) (c.in-Ok-commit.ensures.moments h.0) stand)
    (λ is. absurd cc)
    (λ is o l. record {
      reopen = record { files = s.now mid; is = g.met.B.S.Space.only_kept new o h.0 c.in-Ok-commit.ensures.outcome.ok l ∙ c.in-Ok-commit.ensures.kept h.0; stand = stand };
      some = created.some;
      numbered = created.numbers;
    })
    in record {
      stands = by b.reopens (λ t. (c.in-Ok.ensures.created t).stand);
      shaped = by (InShape b.reopens shaped) (λ t. record { stand = (c.in-Ok.ensures.created t).stand; shape = inr (c.in-Ok.ensures.created t).numbers });
    }

pub returns-in-Err-commit-clause-made : goal.returns-in-Err-commit-clause-made
returns-in-Err-commit-clause-made g c = let s = g.B.S.Space in let b = g.B.Storage in let old = c.args.space.now in let mid = c.create.new.space in let new = c.commit.new.self in
    let shaped = g.B.Opens.shaped c.args.shape.now in let anew = g.B.Opens.anew c.args.shape.now in
    let by : (like : Files → Contents → Type 0) → (s.tells → like (s.now mid) anew) → (first : Mark) → Begins s like old first → MakingOver s like shaped anew VolumeFault old new first = λ like stands first h.
    let stand : StandFor like (s.now mid) (with_contents first anew) = record { contents = stands h.0; log = c.in-Ok.ensures.usable.others.same h.0 2 g.met.B.Storage.no_logs.1 ∙ h.1.log } in
    making_over like shaped anew s VolumeFault old new first
    (fresh s old g.met.B.S.Space.only_kept g.met.B.S.Space.clean c.requires.sound c.requires.untouched)
    (g.met.B.S.Space.earlier new) h
    (commit_moves s like old mid new (with_contents first anew) (c.in-Ok.ensures.keeps.steady h.0) (c.commit.ensures.moments h.0) stand)
    (λ is. absurd cc) (λ is. absurd cc)
    in record {
      stands = by b.reopens (λ t. (c.in-Ok.ensures.created t).stand);
      shaped = by (InShape b.reopens shaped) (λ t. record { stand = (c.in-Ok.ensures.created t).stand; shape = inr (c.in-Ok.ensures.created t).numbers });
    }

pub returns-in-Err-clause-there : goal.returns-in-Err-clause-there
returns-in-Err-clause-there g c = λ t some. absurd (some (nil_from_length _ (omega (arith, c.len.ensures t))))

pub returns-in-Ok-commit-clause-there : goal.returns-in-Ok-commit-clause-there
returns-in-Ok-commit-clause-there g c = λ t some. absurd (some (nil_from_length _ (omega (arith, c.len.ensures t))))

pub returns-in-Err-commit-clause-there : goal.returns-in-Err-commit-clause-there
returns-in-Err-commit-clause-there g c = λ t some. absurd (some (nil_from_length _ (omega (arith, c.len.ensures t))))

pub returns-in-Err-clause-judged : goal.returns-in-Err-clause-judged
returns-in-Err-clause-judged g c = let s = g.B.S.Space in let old = c.args.space.now in let new = c.create.new.space in let breaks = BreaksOver s g.B.Opens.breaks_new old new in
    let like = g.B.Storage.reopens in
    let empty : s.tells → s.now old 0 ≡ [] = λ t. nil_from_length _ (omega (arith, c.len.ensures t)) in
    subst (λ (end : End). JudgedMaking end (s.tells → CanBeMade like (s.now old)) breaks ((s.tells → s.now old 0 ≡ [] → ⊥) × (new ≡ old))) (sym c.from.ensures)
    (making_err c.in-Err.e _ _ breaks (λ full. can_be_made s like old empty (c.in-Err.ensures.beside (ap (λ e. Err e) full))) (breaks_over s g.B.Opens.breaks_new c.in-Err.e old new c.in-Err.ensures.broken c.in-Err.ensures.refused.sound))

pub returns-in-Ok-commit-clause-judged : goal.returns-in-Ok-commit-clause-judged
returns-in-Ok-commit-clause-judged g c = can_be_made g.B.S.Space g.B.Storage.reopens c.args.space.now (λ t. nil_from_length _ (omega (arith, c.len.ensures t))) c.in-Ok.ensures.stood

-- ---- files beside them

pub returns-in-Err-clause-laid : goal.returns-in-Err-clause-laid
returns-in-Err-clause-laid g c = λ l first h. let s = g.B.S.Space in let b = g.B.Storage in let like = Laid b.own no_layout l b.reopens in let old = c.args.space.now in let mid = c.create.new.space in
    subst (λ (end : End). MakingOver s like (g.B.Opens.shaped c.args.shape.now) (g.B.Opens.anew c.args.shape.now) end old mid first) (sym c.from.ensures)
    (making_over like (g.B.Opens.shaped c.args.shape.now) (g.B.Opens.anew c.args.shape.now) s (end_of c.in-Err.e) old mid first
    (fresh g.B.S.Space old g.met.B.S.Space.only_kept g.met.B.S.Space.clean c.requires.sound c.requires.untouched)
    (g.met.B.S.Space.earlier mid) h
    (steady_moves s like old mid (with_contents first (g.B.Opens.anew c.args.shape.now)) (c.in-Err.ensures.keeps.steady h.0))
    (unbegun_of c.in-Err.e).not_refused (λ is. absurd ((unbegun_of c.in-Err.e).not_done is)))

pub returns-in-Ok-commit-clause-laid : goal.returns-in-Ok-commit-clause-laid
returns-in-Ok-commit-clause-laid g c = λ l first h. let s = g.B.S.Space in let b = g.B.Storage in let like = Laid b.own no_layout l b.reopens in let old = c.args.space.now in let mid = c.create.new.space in let new = c.commit.new.self in
    let created = c.in-Ok.ensures.created h.0 in
    let stand : StandFor like (s.now mid) (with_contents first (g.B.Opens.anew c.args.shape.now)) = record { contents = stays_beside s b.own b.reopens l old mid first.contents (g.B.Opens.anew c.args.shape.now) h.0 c.in-Ok.ensures.usable.others h.1.contents created.stand; log = c.in-Ok.ensures.usable.others.same h.0 2 g.met.B.Storage.no_logs.1 ∙ h.1.log } in
    making_over like (g.B.Opens.shaped c.args.shape.now) (g.B.Opens.anew c.args.shape.now) s Done old new first
    (fresh g.B.S.Space old g.met.B.S.Space.only_kept g.met.B.S.Space.clean c.requires.sound c.requires.untouched)
    (g.met.B.S.Space.earlier new) h
    (commit_moves s like old mid new (with_contents first (g.B.Opens.anew c.args.shape.now)) (c.in-Ok.ensures.keeps.steady h.0) (c.in-Ok-commit.ensures.moments h.0) stand)
    (λ is. absurd cc)
    (λ is o x. record {
      reopen = record { files = s.now mid; is = g.met.B.S.Space.only_kept new o h.0 c.in-Ok-commit.ensures.outcome.ok x ∙ c.in-Ok-commit.ensures.kept h.0; stand = stand };
      some = created.some;
      numbered = created.numbers;
    })

pub returns-in-Err-commit-clause-laid : goal.returns-in-Err-commit-clause-laid
returns-in-Err-commit-clause-laid g c = λ l first h. let s = g.B.S.Space in let b = g.B.Storage in let like = Laid b.own no_layout l b.reopens in let old = c.args.space.now in let mid = c.create.new.space in let new = c.commit.new.self in
    let created = c.in-Ok.ensures.created h.0 in
    let stand : StandFor like (s.now mid) (with_contents first (g.B.Opens.anew c.args.shape.now)) = record { contents = stays_beside s b.own b.reopens l old mid first.contents (g.B.Opens.anew c.args.shape.now) h.0 c.in-Ok.ensures.usable.others h.1.contents created.stand; log = c.in-Ok.ensures.usable.others.same h.0 2 g.met.B.Storage.no_logs.1 ∙ h.1.log } in
    making_over like (g.B.Opens.shaped c.args.shape.now) (g.B.Opens.anew c.args.shape.now) s VolumeFault old new first
    (fresh g.B.S.Space old g.met.B.S.Space.only_kept g.met.B.S.Space.clean c.requires.sound c.requires.untouched)
    (g.met.B.S.Space.earlier new) h
    (commit_moves s like old mid new (with_contents first (g.B.Opens.anew c.args.shape.now)) (c.in-Ok.ensures.keeps.steady h.0) (c.commit.ensures.moments h.0) stand)
    (λ is. absurd cc) (λ is. absurd cc)
