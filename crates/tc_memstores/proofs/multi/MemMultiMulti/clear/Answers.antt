use Rattle.tc_space.specs.Frames.{others_refl}
use Rattle.tc_memstores.proofs.multi.MemMultiMulti.clear.Goals as goal

pub returns-clause-cleared : goal.returns-clause-cleared
returns-clause-cleared g c = record {
  sound = c.requires.sound;
  means = λ ps held. (held.0, (c.new.ensures, tt));
  others = others_refl g.S.Space _ c.args.space.now;
}
