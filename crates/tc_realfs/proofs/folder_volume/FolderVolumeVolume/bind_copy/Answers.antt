use Rattle.std.proofs.Common.{◌≡◌, Some}
use Rattle.std.proofs.lemmas.Result.{IfOk-at_ok}
use Rattle.tc_realfs.specs.Labelled.{text_in}
use Rattle.tc_realfs.specs.declared.bound_copy.BoundCopy.{BoundCopy}
use Rattle.tc_realfs.proofs.folder_volume.FolderVolumeVolume.bind_copy.Goals as goal

pub returns-clause-label : goal.returns-clause-label
returns-clause-label g c = IfOk-at_ok (λ (copy : BoundCopy). text_in copy.label ≡ Some c.args.label.now) c.in_ok-copy.ensures.value c.open-opened.ensures
