use Rattle.std.proofs.Common.{arith, rules, subst, sym}
use Rattle.tc_io.specs.Copies.{copy_of}
use Rattle.tc_io.specs.Images.{Calls, now}
use Rattle.tk_copy.specs.Copying.{CopiesFile}
use Rattle.tk_copy.proofs.Spoiled.{data_other, stays_refl, stays_then}
use Rattle.tk_copy.proofs.Steps.{all_copied, changes_refl, changes_then, more_copied, none_copied}
use Rattle.tk_copy.proofs.copying.copy_all.Goals as goal

pub loop-i-init : goal.loop-i-init
loop-i-init g c = record { bound = c.requires.bound; copied = λ t. none_copied _ _; spoiled = λ t. stays_refl _; changes = changes_refl g.V.Volume c.args.vol.now }

pub copy_file-requires-clause-file : goal.copy_file-requires-clause-file
copy_file-requires-clause-file g c = (c.file_at.ensures.low, λ is. data_other c.file_at.result c.file_at.ensures.is_data (sym is))

pub returns-in_err-copy_file-clause-spoiled : goal.returns-in_err-copy_file-clause-spoiled
returns-in_err-copy_file-clause-spoiled g c = λ t. stays_then _ (copy_of (g.V.Volume.names c.loop-i.vol)) _ (c.loop-i.invariant.spoiled t) (c.copy_file.ensures.spoiled t)

pub loop-i-preserved : goal.loop-i-preserved
loop-i-preserved g c =
    let v = g.V.Volume in
    record {
      bound = search rules;
      copied = λ t. more_copied (now (v.calls c.args.vol.now)) (copy_of (v.names c.loop-i.vol)) (copy_of (v.names c.copy_file.new.vol)) c.loop-i.i c.file_at.result (omega arith) c.file_at.ensures.place c.file_at.ensures.is_data (c.loop-i.invariant.copied t)
          (subst (λ (d : Calls). CopiesFile (copy_of (v.names c.loop-i.vol)) (copy_of (v.names c.copy_file.new.vol)) c.file_at.result (now d c.file_at.result)) (c.loop-i.invariant.changes.files t) (c.in_ok-copy_file.ensures.copied t));
      spoiled = λ t. stays_then _ (copy_of (v.names c.loop-i.vol)) _ (c.loop-i.invariant.spoiled t) (c.copy_file.ensures.spoiled t);
      changes = changes_then v c.args.vol.now c.loop-i.vol c.copy_file.new.vol c.loop-i.invariant.changes c.copy_file.ensures.changes;
    }

pub returns-clause-copied : goal.returns-clause-copied
returns-clause-copied g c = λ t. all_copied _ _ c.loop-i.i (omega arith) (c.loop-i.invariant.copied t)
