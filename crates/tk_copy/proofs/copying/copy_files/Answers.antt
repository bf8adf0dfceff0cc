use Rattle.std.proofs.Common.{◌∙◌, ℕ, List, ap, subst}
use Rattle.std.specs.Prelude.{Option, is_some}
use Rattle.tc_io.specs.Copies.{IsCopied, copy_of}
use Rattle.tc_io.specs.Images.{Calls, now}
use Rattle.ud_log.specs.Undo.{data_of}
use Rattle.tk_copy.specs.Copying.{Copies}
use Rattle.tk_copy.proofs.Spoiled.{copied_under, made_under, none_made}
use Rattle.tk_copy.proofs.copying.copy_files.Goals as goal

pub returns-in_err-bind_copy-clause-makes : goal.returns-in_err-bind_copy-clause-makes
returns-in_err-bind_copy-clause-makes g c = λ t. none_made _ c.args.label.now _ _ c.bind_copy.ensures.told (c.bind_copy.ensures.copies t)

pub copy_bound-requires : goal.copy_bound-requires
copy_bound-requires g c = record { bound = (c.bind_copy.ensures.bound, ap (λ (o : Option (List ℕ)). is_some o) c.in_ok-bind_copy.ensures.label) }

pub returns-in_err-copy_bound-clause-makes : goal.returns-in_err-copy_bound-clause-makes
returns-in_err-copy_bound-clause-makes g c = λ t.
    let v = g.V.Volume in
    let b = v.names c.bind_copy.new.self in
    let n = v.names c.copy_bound.new.vol in
    let changes = c.copy_bound.ensures.changes in
    made_under _ c.args.label.now (v.names c.args.vol.now) b n c.in_ok-bind_copy.ensures.label changes.label (c.bind_copy.ensures.copies t) (changes.told ∙ c.bind_copy.ensures.told)
    (subst (λ (d : Calls). Copies (data_of (now d)) (copy_of b) (copy_of n)) (c.bind_copy.ensures.calls t) (c.copy_bound.ensures.moments t)) (changes.others t)

pub returns-clause-makes : goal.returns-clause-makes
returns-clause-makes g c = λ t.
    let v = g.V.Volume in
    let b = v.names c.bind_copy.new.self in
    let n = v.names c.copy_bound.new.vol in
    let changes = c.copy_bound.ensures.changes in
    made_under _ c.args.label.now (v.names c.args.vol.now) b n c.in_ok-bind_copy.ensures.label changes.label (c.bind_copy.ensures.copies t) (changes.told ∙ c.bind_copy.ensures.told)
    (subst (λ (d : Calls). Copies (data_of (now d)) (copy_of b) (copy_of n)) (c.bind_copy.ensures.calls t) (c.copy_bound.ensures.moments t)) (changes.others t)

pub returns-clause-copied : goal.returns-clause-copied
returns-clause-copied g c = λ t.
    let v = g.V.Volume in
    let b = v.names c.bind_copy.new.self in
    let n = v.names c.copy_bound.new.vol in
    copied_under _ c.args.label.now (v.names c.args.vol.now) b n c.in_ok-bind_copy.ensures.label c.copy_bound.ensures.changes.label (c.bind_copy.ensures.copies t)
    (subst (λ (d : Calls). IsCopied (data_of (now d)) (copy_of n)) (c.bind_copy.ensures.calls t) (c.in_ok-copy_bound.ensures.copied t))
