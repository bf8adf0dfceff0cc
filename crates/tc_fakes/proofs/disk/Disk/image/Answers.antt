use Rattle.std.proofs.Common.{◌∙◌, rules}
use Rattle.tc_fakes.specs.History.{calls_of}
use Rattle.tc_fakes.proofs.ChosenImages.{picked_are_images}
use Rattle.tc_fakes.proofs.disk.Disk.image.Goals as goal

pub returns-clause-possible : goal.returns-clause-possible
returns-clause-possible c = picked_are_images c.args.choice.now (search rules) (calls_of c.args.self.now.history.items) (calls_of c.in_ok-disk.disk.history.items) (λ f. c.in_ok-disk.ensures.loads f ∙ c.in_ok-images.ensures.each f)
