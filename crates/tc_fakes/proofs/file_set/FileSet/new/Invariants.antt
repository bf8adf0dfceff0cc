use Rattle.std.proofs.Common.{◌≡◌, [], replicate}
use Rattle.tc_fakes.proofs.file_set.FileSet.new.Given as goal

abbrev pub invariant-loop-file : goal.invariant-loop-file
invariant-loop-file l = l.files.items ≡ replicate l._file []
