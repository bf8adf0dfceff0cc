use Rattle.std.proofs.Common.{◌≡◌, ◌++◌, ◌*◌, drop, length}
use Rattle.hf_pack.specs.Moving.{AllFit, entries_as, renamed_by}
use Rattle.hf_pack.proofs.entries.rename_each.Given as goal

abbrev pub invariant-loop-i : goal.invariant-loop-i
invariant-loop-i l = record {
  so : l.entries ≡ entries_as (renamed_by l.unit l.targets) l.width l.i l.fn.entries ++ drop (l.width * l.i) l.fn.entries;
  fit : AllFit (renamed_by l.unit l.targets) l.width l.i l.fn.entries;
  long : length l.entries ≡ length l.fn.entries;
}
