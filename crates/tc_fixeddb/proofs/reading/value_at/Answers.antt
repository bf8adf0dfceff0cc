use Rattle.std.proofs.Common.{◌≤◌, ◌∙◌, ℕ, ap, subst, sym, arith}
use Rattle.std.specs.Prelude.{Option, Some, IfSome, option_map, take}
use Rattle.tc_fixed.specs.Holding.{width_of}
use Rattle.tc_fixeddb.proofs.Cut.{read_front}
use Rattle.tc_fixeddb.proofs.reading.value_at.Goals as goal

pub returns-in_default-clause-value : goal.returns-in_default-clause-value
returns-in_default-clause-value g c = λ m means. let read = c.in_ok-long.ensures.value m means in ap (option_map (λ n. take n c.get.new.into)) (sym c.in_default.is) ∙ read.value

pub returns-clause-value : goal.returns-clause-value
returns-clause-value g c = λ m means.
    let fits = subst (λ (o : Option ℕ). IfSome o (λ n. n ≤ width_of c.args.fixed.now)) c.in-Some.is c.in_ok-long.ensures.fits in
    ap (λ l. Some l) (c.from_vec.ensures ∙ c.truncate.ensures.items)
    ∙ read_front c.in-Some.long c.resize.new.self.len c.get.new.into _ _ c.in_ok-long.field-0 c.in-Some.is (omega (arith, fits, c.in_ok-resize.ensures.len, c.width.ensures.value)) (c.in_ok-long.ensures.value m means)
