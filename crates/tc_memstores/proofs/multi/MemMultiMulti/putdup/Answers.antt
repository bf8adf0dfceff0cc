use Rattle.std.proofs.Common.{◌∙◌, ◌++◌, ◌∷◌, [], ap}
use Rattle.tc_base.specs.Lists.{values}
use Rattle.tc_space.specs.Changes.{put_last}
use Rattle.tc_space.specs.Frames.{others_refl}
use Rattle.tc_base.proofs.Rising.{rises_with}
use Rattle.tc_memstores.proofs.multi.MemMultiMulti.putdup.Goals as goal

pub returns-clause-put : goal.returns-clause-put
returns-clause-put g c =
    let key = c.args.key.now in
    let value = c.args.value.now in
    record {
      sound = c.requires.sound;
      means = λ ps held. (held.0, (c.in-Ok.ensures.ok ∙ ap (put_last g.O.Order.cmp key value) held.1.0, rises_with g.met.O.Order.total ps key (values ps key ++ value ∷ []) held.1.1));
      others = others_refl g.S.Space _ c.args.space.now;
    }
