use Rattle.std.proofs.Common.{◌∙◌, [], ap, refl}
use Rattle.tc_space.specs.Changes.{has_pair, all_out}
use Rattle.tc_space.specs.Frames.{others_refl}
use Rattle.tc_base.proofs.Rising.{rises_with}
use Rattle.tc_memstores.proofs.multi.MemMultiMulti.out_all.Goals as goal

pub returns-clause-out : goal.returns-clause-out
returns-clause-out g c =
    let key = c.args.key.now in
    record {
      held = λ ps held. c.in-Ok.ensures.held ∙ ap (has_pair key) held.1.0;
      out = λ is. record {
        sound = c.requires.sound;
        means = λ ps held. (held.0, (c.in-Ok.ensures.out is ∙ ap (all_out g.O.Order.cmp key) held.1.0, rises_with g.met.O.Order.total ps key ([]) held.1.1));
        others = others_refl g.S.Space _ c.args.space.now;
      };
      none = λ is. record {
        now = λ told f. refl;
        touched = refl;
        sound = c.requires.sound;
        means = λ ps held. (held.0, (c.in-Ok.ensures.none is ∙ held.1.0, held.1.1));
      };
    }
