use Rattle.std.proofs.Common.{◌≡◌, length, eq-eqb}
use Rattle.ty_wire.specs.declared.reading.Front.TheVariants.{Whole, Part, Bad}
use Rattle.ty_ulog.proofs.Sole.{not_alone, none_told}
use Rattle.ty_ulog.proofs.updates.is_alone.Goals as goal

pub returns-in-Whole-clause-no : goal.returns-in-Whole-clause-no
returns-in-Whole-clause-no c = λ is u. not_alone c.args.bytes.now (Whole c.in-Whole.n) c.in-Whole.ensures.reading (λ e. let s : c.in-Whole.n ≡ length c.args.bytes.now = cc in let t = eq-eqb c.in-Whole.n (length c.args.bytes.now) s in absurd cc) u

pub returns-in-Whole-clause-none : goal.returns-in-Whole-clause-none
returns-in-Whole-clause-none c = λ is. none_told c.args.bytes.now (Whole c.in-Whole.n) c.in-Whole.ensures.reading (λ e. let s : c.in-Whole.n ≡ length c.args.bytes.now = cc in let t = eq-eqb c.in-Whole.n (length c.args.bytes.now) s in absurd cc)

pub returns-in-Part-clause-no : goal.returns-in-Part-clause-no
returns-in-Part-clause-no c = λ is u. not_alone c.args.bytes.now Part c.in-Part.ensures.reading (λ e. absurd cc) u

pub returns-in-Part-clause-none : goal.returns-in-Part-clause-none
returns-in-Part-clause-none c = λ is. none_told c.args.bytes.now Part c.in-Part.ensures.reading (λ e. absurd cc)

pub returns-in-Bad-clause-no : goal.returns-in-Bad-clause-no
returns-in-Bad-clause-no c = λ is u. not_alone c.args.bytes.now Bad c.in-Bad.ensures.reading (λ e. absurd cc) u

pub returns-in-Bad-clause-none : goal.returns-in-Bad-clause-none
returns-in-Bad-clause-none c = λ is. none_told c.args.bytes.now Bad c.in-Bad.ensures.reading (λ e. absurd cc)
