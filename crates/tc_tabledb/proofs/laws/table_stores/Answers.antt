use Rattle.std.proofs.Common.{false, refl, true}
use Rattle.tc_base.specs.OrderLaws.{order_exact, order_total}
use Rattle.tc_tabledb.proofs.laws.table_stores.Goals as goal

pub returns : goal.returns
returns g c = record {
  store = c.hash_store.ensures;
  lexical = record {
    of = record { cmp = refl; code = refl; total = order_total false; exact = order_exact false };
    file = λ b. refl;
    into = λ b bytes ps held. held;
    from = λ b bytes ps held. held;
    made = λ b. refl;
    lead = λ b. refl;
    stands = λ made bytes ps stands. stands;
    fills = λ b old new ps qs fills. fills;
    bare = λ b old new lacks. lacks;
    tight = λ b from form bytes tight. tight;
    packed = λ from form bytes packed. packed;
    slack = λ bytes. refl;
  };
  decimal = record {
    of = record { cmp = refl; code = refl; total = order_total true; exact = order_exact true };
    file = λ b. refl;
    into = λ b bytes ps held. held;
    from = λ b bytes ps held. held;
    made = λ b. refl;
    lead = λ b. refl;
    stands = λ made bytes ps stands. stands;
    fills = λ b old new ps qs fills. fills;
    bare = λ b old new lacks. lacks;
    tight = λ b from form bytes tight. tight;
    packed = λ from form bytes packed. packed;
    slack = λ bytes. refl;
  };
}
