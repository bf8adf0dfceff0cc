use Rattle.std.proofs.Common.{refl}
use Rattle.tc_tabledb.proofs.laws.hash_store.Goals as goal

pub returns : goal.returns
returns g c = record {
  into = λ h bytes m held. held;
  from = λ h bytes m held. held;
  file = λ h. refl;
  sort = λ h. refl;
  lacks = λ h a b key value lacks. lacks;
  large = λ h a b lacks. lacks;
  numbers = λ h. refl;
  lead = λ h. refl;
  stands = λ kind numbers bytes m region file. file;
  filled = λ h ps filled. filled;
  tight = λ h from form bytes tight. tight;
  packs = λ h from form bytes tight. tight;
  packed = λ from form bytes packed. packed;
  slack = λ bytes. refl;
}
