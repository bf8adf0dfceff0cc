use Rattle.std.proofs.Common.{◌≡◌, ℕ, length, eq-eqb, subst}
use Rattle.std.proofs.lemmas.Bool.{eqb-true}
use Rattle.ty_ulog.specs.Records.{IsReadRecord}
use Rattle.ty_ulog.specs.declared.reading.RecTake.TheVariants.{Whole, Part, Bad}
use Rattle.ty_ulog.proofs.Taken.{not_one, one_read}
use Rattle.ty_ulog.proofs.checks.is_one.Goals as goal

pub returns-in-Whole-clause-yes : goal.returns-in-Whole-clause-yes
returns-in-Whole-clause-yes c = λ is. one_read c.args.bytes.now (subst (λ (n : ℕ). IsReadRecord c.args.bytes.now (Whole n)) (eqb-true c.in-Whole.n (length c.args.bytes.now) is) c.in-Whole.ensures.reading)

pub returns-in-Whole-clause-no : goal.returns-in-Whole-clause-no
returns-in-Whole-clause-no c = λ is. not_one c.args.bytes.now (Whole c.in-Whole.n) c.in-Whole.ensures.reading (λ e. let s : c.in-Whole.n ≡ length c.args.bytes.now = cc in let t = eq-eqb c.in-Whole.n (length c.args.bytes.now) s in absurd cc)

pub returns-in-Part-clause-no : goal.returns-in-Part-clause-no
returns-in-Part-clause-no c = λ is. not_one c.args.bytes.now Part c.in-Part.ensures.reading (λ e. absurd cc)

pub returns-in-Bad-clause-no : goal.returns-in-Bad-clause-no
returns-in-Bad-clause-no c = λ is. not_one c.args.bytes.now Bad c.in-Bad.ensures.reading (λ e. absurd cc)
