use Rattle.std.proofs.Common.{◌∙◌, ◌∷◌, ap, sym, drop}
use Rattle.tc_base.specs.Lists.{first, values}
use Rattle.tc_space.specs.Changes.{first_in, put_first, put_value}
use Rattle.tc_space.specs.Frames.{others_refl}
use Rattle.tc_base.proofs.Rising.{rises_with}
use Rattle.tc_memstores.proofs.multi.MemMultiMulti.put.Goals as goal

pub returns-clause-put : goal.returns-clause-put
returns-clause-put g c =
    let key = c.args.key.now in
    let value = c.args.value.now in
    record {
      writes = record {
        sound = c.requires.sound;
        means = λ ps held. (held.0, (c.in-Ok.ensures.put c.if-not-stored.false ∙ ap (put_first g.O.Order.cmp c.args.mode key value) held.1.0, rises_with g.met.O.Order.total ps key (put_value c.args.mode (first ps key) value ∷ drop 1 (values ps key)) held.1.1));
        others = others_refl g.S.Space _ c.args.space.now;
      };
      absent = λ keep ps held. ap (first_in key) (sym held.1.0) ∙ c.in-Ok.ensures.absent c.if-not-stored.false keep;
    }
