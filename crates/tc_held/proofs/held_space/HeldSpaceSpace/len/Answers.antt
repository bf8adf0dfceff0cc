use Rattle.std.proofs.Common.{◌∙◌, ap, get_or}
use Rattle.tc_undo.specs.Usable.{data_file}
use Rattle.tc_held.proofs.held_space.HeldSpaceSpace.len.Goals as goal

pub place-requires : goal.place-requires
place-requires g c = data_file c.args.file c.requires.file

pub returns : goal.returns
returns g c = λ t. ap (λ k. get_or c.args.self.now.lens k 0) c.place.ensures.place ∙ (c.requires.sound.lens_are t).at c.args.file (data_file c.args.file c.requires.file)
