use Rattle.std.proofs.Common.{◌≡◌, length, rules, refl}
use Rattle.tc_space.proofs.Nothing.{wrote_nothing}
use Rattle.tc_space.proofs.no_space.NoSpaceSpace.write.Goals as goal

pub returns-then-is_empty-clause-wrote : goal.returns-then-is_empty-clause-wrote
returns-then-is_empty-clause-wrote c = λ told. record { here = let none : length c.args.bytes.now ≡ 0 = search rules in wrote_nothing c.args._at c.args.bytes.now none; others = λ g other. refl }
