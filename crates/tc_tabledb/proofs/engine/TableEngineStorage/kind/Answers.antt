use Rattle.std.proofs.Common.{◌≡◌, refl, sym, subst}
use Rattle.tc_base.specs.declared.kind.Kind.TheVariants as kind
use Rattle.tc_model.specs.Contents.{Contents, kind_of}
use Rattle.tc_tabledb.proofs.engine.TableEngineStorage.kind.Goals as goal

pub returns : goal.returns
returns g c = λ files x h. subst (λ (y : Contents). kind.Table ≡ kind_of y) (sym h.is) refl
