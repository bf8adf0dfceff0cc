use Rattle.std.proofs.Common.{ℕ, List, refl, sym, subst}
use Rattle.hf_head.specs.Heads.{unit}
use Rattle.hf_pool.specs.Pools.{frees}
use Rattle.tc_hash.specs.Sections.{IsListOf, section_of}
use Rattle.tc_reach.proofs.Handed.{if_err_handed}
use Rattle.tc_space.specs.declared.errors.OpenErr.{OpenErr}
use Rattle.tc_hash.specs.Opening.{IsNoList}
use Rattle.tc_hash.proofs.Opened.{fault_no_list}
use Rattle.tc_hash.proofs.open.judge_section.Goals as goal

pub returns-in_err-read_section-clause-other : goal.returns-in_err-read_section-clause-other
returns-in_err-read_section-clause-other g c = if_err_handed c.from_residual.result _ (λ (e : OpenErr). IsNoList g.S.Space.tells c.args.file (unit c.args.head.now) (frees c.args.pool.now) (section_of c.args.head.now (g.S.Space.now c.args.space.now c.args.file)) e) c.from_residual.ensures.1 (fault_no_list g.S.Space.tells c.args.file (unit c.args.head.now) (frees c.args.pool.now) (section_of c.args.head.now (g.S.Space.now c.args.space.now c.args.file)) _ refl)

pub returns-then-not-is_list-clause-other : goal.returns-then-not-is_list-clause-other
returns-then-not-is_list-clause-other g c = λ f rule named. (
  c.broken.ensures,
  λ t l.
      c.is_list.ensures.other c.if-not-is_list.true (subst (λ (u : ℕ). IsListOf u (frees c.args.pool.now) c.read_section.new.into) (sym c.requires.unit) (subst (λ (s : List ℕ). IsListOf (unit c.args.head.now) (frees c.args.pool.now) s) (sym (c.in_ok-read_section.ensures.bytes t)) l)),
)

pub returns-clause-list : goal.returns-clause-list
returns-clause-list g c = λ t. subst (λ (u : ℕ). IsListOf u (frees c.args.pool.now) (section_of c.args.head.now (g.S.Space.now c.args.space.now c.args.file))) c.requires.unit (subst (λ (s : List ℕ). IsListOf c.args.pool.now.unit (frees c.args.pool.now) s) (c.in_ok-read_section.ensures.bytes t) (c.is_list.ensures.list c.if-not-is_list.false))
