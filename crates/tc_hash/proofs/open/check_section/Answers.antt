use Rattle.std.proofs.Common.{refl}
use Rattle.hf_head.specs.Heads.{unit}
use Rattle.hf_pool.specs.Pools.{frees}
use Rattle.tc_hash.specs.Sections.{section_of}
use Rattle.tc_reach.proofs.Handed.{if_err_handed}
use Rattle.tc_space.specs.declared.errors.OpenErr.{OpenErr}
use Rattle.tc_hash.specs.Opening.{IsNoList}
use Rattle.tc_hash.proofs.Opened.{memory_no_list}
use Rattle.tc_hash.proofs.open.check_section.Goals as goal

pub returns-in_err-section-clause-other : goal.returns-in_err-section-clause-other
returns-in_err-section-clause-other g c = if_err_handed c.from_residual.result _ (λ (e : OpenErr). IsNoList g.S.Space.tells c.args.file (unit c.args.head.now) (frees c.args.pool.now) (section_of c.args.head.now (g.S.Space.now c.args.space.now c.args.file)) e) c.from_residual.ensures.1 (memory_no_list g.S.Space.tells c.args.file (unit c.args.head.now) (frees c.args.pool.now) (section_of c.args.head.now (g.S.Space.now c.args.space.now c.args.file)) _ refl)
