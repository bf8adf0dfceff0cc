use Rattle.std.proofs.Common.{◌≡◌, ◌∙◌, ℕ, ◌+◌, ◌*◌, List, ◌++◌, Some, sym, ap, subst, arith, take, length}
use Rattle.tc_base.specs.Vnum.{vnum}
use Rattle.hf_pool.specs.Pools.{frees}
use Rattle.tc_hash.proofs.Reading.{behind_first, no_number, pair_found, same_number, units_small}
use Rattle.tc_hash.proofs.section.read_pair.Goals as goal

pub returns-in_default-read_vnum-clause-none : goal.returns-in_default-read_vnum-clause-none
returns-in_default-read_vnum-clause-none c = λ b rest some is there.
    let few = units_small c.args.pool.now.unit c.args.pool.now.size (c.args.before + b.0) b.1 (frees c.args.pool.now) c.args.pool.now.some c.requires.size c.args.pool.now.within there in
    let same = same_number c.read_vnum.result c.in-Ok.difference c.in-Ok.len b.0 (length (vnum b.0)) c.in-Ok.is (c.read_vnum.ensures.again b.0 (vnum b.1 ++ rest) (omega (arith, few.0)) is) in
    let tail = behind_first c.in-Ok.difference c.in-Ok.len c.args.bytes.now b rest same c.in-Ok.ensures.found.1 is in
    no_number c.read_vnum-2.result c.in_default-read_vnum.field-0 (b.1, length (vnum b.1)) c.in_default-read_vnum.is (c.read_vnum-2.ensures.again b.1 rest (omega (arith, few.1)) (c.behind.ensures ∙ tail))

pub returns-then-difference-eq0-clause-none : goal.returns-then-difference-eq0-clause-none
returns-then-difference-eq0-clause-none c = λ b rest some is there.
    let few = units_small c.args.pool.now.unit c.args.pool.now.size (c.args.before + b.0) b.1 (frees c.args.pool.now) c.args.pool.now.some c.requires.size c.args.pool.now.within there in
    let same = same_number c.read_vnum.result c.in-Ok.difference c.in-Ok.len b.0 (length (vnum b.0)) c.in-Ok.is (c.read_vnum.ensures.again b.0 (vnum b.1 ++ rest) (omega (arith, few.0)) is) in
    absurd (omega (arith, same, some, c.if-difference-eq0.true))

pub returns-then-difference-gt-FILE_MOST-clause-none : goal.returns-then-difference-gt-FILE_MOST-clause-none
returns-then-difference-gt-FILE_MOST-clause-none c = λ b rest some is there.
    let few = units_small c.args.pool.now.unit c.args.pool.now.size (c.args.before + b.0) b.1 (frees c.args.pool.now) c.args.pool.now.some c.requires.size c.args.pool.now.within there in
    let same = same_number c.read_vnum.result c.in-Ok.difference c.in-Ok.len b.0 (length (vnum b.0)) c.in-Ok.is (c.read_vnum.ensures.again b.0 (vnum b.1 ++ rest) (omega (arith, few.0)) is) in
    absurd (omega (arith, same, few.0, c.if-difference-gt-FILE_MOST.true))

pub returns-then-not-is_free-clause-none : goal.returns-then-not-is_free-clause-none
returns-then-not-is_free-clause-none c = λ b rest some is there.
    let few = units_small c.args.pool.now.unit c.args.pool.now.size (c.args.before + b.0) b.1 (frees c.args.pool.now) c.args.pool.now.some c.requires.size c.args.pool.now.within there in
    let same = same_number c.read_vnum.result c.in-Ok.difference c.in-Ok.len b.0 (length (vnum b.0)) c.in-Ok.is (c.read_vnum.ensures.again b.0 (vnum b.1 ++ rest) (omega (arith, few.0)) is) in
    let tail = behind_first c.in-Ok.difference c.in-Ok.len c.args.bytes.now b rest same c.in-Ok.ensures.found.1 is in
    let size = same_number c.read_vnum-2.result c.in-Ok-read_vnum.size c.in-Ok-read_vnum.more b.1 (length (vnum b.1)) c.in-Ok-read_vnum.is (c.read_vnum-2.ensures.again b.1 rest (omega (arith, few.1)) (c.behind.ensures ∙ tail)) in
    c.is_free.ensures.not c.if-not-is_free.true (subst (λ (n : ℕ). frees c.args.pool.now (c.args.pool.now.unit * (c.args.before + n)) ≡ Some (c.args.pool.now.unit * c.in-Ok-read_vnum.size)) (sym same) (subst (λ (n : ℕ). frees c.args.pool.now (c.args.pool.now.unit * (c.args.before + b.0)) ≡ Some (c.args.pool.now.unit * n)) (sym size) there))

pub returns-clause-some : goal.returns-clause-some
returns-clause-some c =
    pair_found c.args.pool.now.unit c.args.before c.in-Ok.difference c.in-Ok-read_vnum.size c.in-Ok.len c.in-Ok-read_vnum.more (frees c.args.pool.now) c.args.bytes.now
    (omega (arith, c.if-difference-eq0.false)) c.in-Ok.ensures.found.1 c.in-Ok.ensures.found.2 c.in-Ok-read_vnum.ensures.found.1 (ap (λ (l : List ℕ). take c.in-Ok-read_vnum.more l) (sym c.behind.ensures) ∙ c.in-Ok-read_vnum.ensures.found.2)
    (λ n rest low is. sym (same_number c.read_vnum.result c.in-Ok.difference c.in-Ok.len n (length (vnum n)) c.in-Ok.is (c.read_vnum.ensures.again n rest low is)))
    (λ n rest low is. sym (same_number c.read_vnum-2.result c.in-Ok-read_vnum.size c.in-Ok-read_vnum.more n (length (vnum n)) c.in-Ok-read_vnum.is (c.read_vnum-2.ensures.again n rest low (c.behind.ensures ∙ is))))
    (c.is_free.ensures.free c.if-not-is_free.false)
