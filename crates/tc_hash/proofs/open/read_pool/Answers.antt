use Rattle.std.proofs.Common.{◌≡◌, ◌∙◌, ℕ, ◌%◌, ◌^◌, ◌≤◌, List, length, refl, sym, ap, subst, arith, lit<}
use Rattle.std.proofs.Math.Nat.{pow-le-pow_right}
use Rattle.hf_head.specs.Heads.{unit}
use Rattle.hf_block.specs.Rows.{StandApart}
use Rattle.hf_pool.specs.Pools.{frees}
use Rattle.tc_hash.specs.Sections.{IsListOf, section_of}
use Rattle.tc_reach.proofs.Handed.{if_err_handed}
use Rattle.tc_space.specs.declared.errors.OpenErr.{OpenErr}
use Rattle.tc_hash.specs.Opening.{Breaks}
use Rattle.tc_hash.proofs.Opened.{all_read, breaks_memory, err_is, laid_surveyed, links_break, no_list_breaks}
use Rattle.tc_hash.proofs.open.read_pool.Goals as goal

pub check-requires-clause-facts : goal.check-requires-clause-facts
check-requires-clause-facts g c = λ t. let w = c.requires.found t in record { pieces = w.pieces; is = w.is.facts }

pub returns-in-Err-clause-broken : goal.returns-in-Err-clause-broken
returns-in-Err-clause-broken g c = links_break g.S.Space.tells c.args.file c.args.head.now (g.S.Space.now c.args.space.now c.args.file) c.args.found.now c.in-Err.e c.refusal.result c.refusal.ensures c.requires.head.valid c.requires.head.is c.requires.found
    (λ rule named t ps l. c.in-Err.ensures.broken rule (err_is c.in-Err.e rule named) t ps l)

pub build-requires-clause-unit : goal.build-requires-clause-unit
build-requires-clause-unit g c =
    let p : 2 ^ 4 ≤ 2 ^ c.args.head.now.apow = pow-le-pow_right (lit< tt) c.requires.head.valid.powers.0 in
    omega (arith, p, c.unit.ensures)

pub build-requires-clause-size : goal.build-requires-clause-size
build-requires-clause-size g c = subst (λ (u : ℕ). c.args.head.now.size % u ≡ 0) (sym c.unit.ensures) c.requires.head.valid.numbers.size_aligned

pub build-requires-clause-blocks : goal.build-requires-clause-blocks
build-requires-clause-blocks g c = subst (λ (u : ℕ). StandApart u c.args.head.now.first c.args.head.now.size c.args.found.now.frees) (sym c.unit.ensures) c.requires.apart

pub returns-in_err-pool-clause-broken : goal.returns-in_err-pool-clause-broken
returns-in_err-pool-clause-broken g c = if_err_handed c.from_residual.result _ (λ (e : OpenErr). Breaks g.S.Space.tells c.args.head.now.kind c.args.file (g.S.Space.now c.args.space.now c.args.file) e) c.from_residual.ensures.1 (breaks_memory g.S.Space.tells c.args.head.now.kind c.args.file (g.S.Space.now c.args.space.now c.args.file) _ refl)

pub check_section-requires-clause-holds : goal.check_section-requires-clause-holds
check_section-requires-clause-holds g c = record {
  sound = c.in-Ok.ensures.reads.is_sound;
  data_file = c.requires.head.data_file;
  inside = λ t. omega (arith, c.requires.head.valid.numbers.size_least, (c.requires.found t).is.facts.has.within, ap length (c.in-Ok.ensures.reads.files t c.args.file));
}

pub returns-clause-pool : goal.returns-clause-pool
returns-clause-pool g c = record { unit_is = c.in_ok-pool.ensures.unit ∙ c.unit.ensures; end_is = c.in_ok-pool.ensures.size; noted = c.in_ok-pool.ensures.anew }

pub returns-clause-read : goal.returns-clause-read
returns-clause-read g c = λ t.
    let file : List ℕ = g.S.Space.now c.args.space.now c.args.file in
    all_read c.args.head.now (frees c.in_ok-pool.pool) file c.args.found.now c.requires.head.valid (c.requires.head.is t) (c.requires.found t) (c.in-Ok.ensures.hold t) (laid_surveyed c.args.head.now c.unit.result (frees c.in_ok-pool.pool) file c.args.found.now c.unit.ensures c.in_ok-pool.ensures.laid)
    (subst (λ (l : List ℕ). IsListOf (unit c.args.head.now) (frees c.in_ok-pool.pool) (section_of c.args.head.now l)) (c.in-Ok.ensures.reads.files t c.args.file) (c.in_ok-check_section.ensures.list t))

pub returns-in_err-check_section-clause-broken : goal.returns-in_err-check_section-clause-broken
returns-in_err-check_section-clause-broken g c =
    let file : List ℕ = g.S.Space.now c.args.space.now c.args.file in
    if_err_handed c.from_residual-in_err-check_section.result c.in_err-check_section.field-0.0 (λ (e : OpenErr). Breaks g.S.Space.tells c.args.head.now.kind c.args.file file e) c.from_residual-in_err-check_section.ensures.1
    (no_list_breaks g.S.Space.tells c.args.file c.args.head.now (frees c.in_ok-pool.pool) file c.args.found.now c.in_err-check_section.field-0.0
    (λ f rule named. let w = c.in_err-check_section.ensures.other f rule named in (w.0, λ t l. w.1 t (subst (λ (x : List ℕ). IsListOf (unit c.args.head.now) (frees c.in_ok-pool.pool) (section_of c.args.head.now x)) (sym (c.in-Ok.ensures.reads.files t c.args.file)) l)))
    c.requires.head.valid c.requires.head.is c.requires.found c.in-Ok.ensures.hold (λ t. laid_surveyed c.args.head.now c.unit.result (frees c.in_ok-pool.pool) file c.args.found.now c.unit.ensures c.in_ok-pool.ensures.laid))
