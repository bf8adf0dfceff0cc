use Rattle.std.proofs.Common.{◌+◌, ◌-◌, length, take, ℕ, List, ap, sym, ◌∙◌, subst, arith, length-take}
use Rattle.tc_base.specs.Files.{wrote}
use Rattle.tc_io.proofs.Writes.{all_written}
use Rattle.tc_held.specs.Held.{TakesAll}
use Rattle.tc_held.proofs.Taking.{lies_at, takes_over_at}
use Rattle.tc_held.proofs.held.Held.change.Goals as goal

pub put_at-requires : goal.put_at-requires
put_at-requires c =
    let old = c.args.self.now in
    omega (arith, lies_at old.bytes.items old.pieces.items c.args.i c.args.piece c.requires.tidy c.requires.is, c.requires.covers.begins, c.requires.covers.ends, ap (λ (l : List ℕ). length l) c.deref_mut.ensures.value, c.min-n.ensures, length-take c.min-n.result c.args.data.now)

pub returns-clause-takes : goal.returns-clause-takes
returns-clause-takes c =
    let old = c.args.self.now in
    let p = c.args.piece in
    let x = take c.min-n.result c.args.data.now in
    let start : ℕ = p.from + (c.args.at - p.at) in
    let long = c.put_at.auto.into ∙ ap (λ (l : List ℕ). length l) c.deref_mut.ensures.value in
    let new = all_written old.bytes.len old.bytes.items c.put_at.new.into long (old.bytes.ok.0 ∙ sym long) ∙ c.put_at.ensures ∙ ap (λ (l : List ℕ). wrote start x l) c.deref_mut.ensures.value in
    subst (λ (b : List ℕ). TakesAll c.args.file c.args.at x old.bytes.items old.pieces.items b old.pieces.items) (sym new)
    (takes_over_at c.args.file c.args.at x old.bytes.items old.pieces.items c.args.i p c.requires.tidy c.requires.is c.requires.covers (omega (arith, c.requires.covers.begins, c.requires.covers.ends, c.min-n.ensures, length-take c.min-n.result c.args.data.now)))
