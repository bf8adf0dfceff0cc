use Rattle.std.proofs.Common.{false, refl}
use Rattle.tc_treedb.proofs.Asked.{order_exact, order_total}
use Rattle.tc_treedb.proofs.laws.lexical_tree.Goals as goal

pub returns : goal.returns
returns g c = record {
  store = c.hash_store.ensures;
  of = record { cmp = refl; code = refl; total = order_total false; exact = order_exact false };
  kind = record {
    out = λ t bytes m held. held;
    back = λ t bytes m held. held;
    records = λ t bytes m held. held;
    numbers = λ t. refl;
    lead = λ t. refl;
    head = λ t. refl;
    high = λ t. refl;
    tight = λ t from form bytes tight. tight;
    packs = λ t from form bytes tight. tight;
  };
}
