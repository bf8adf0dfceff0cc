use Rattle.std.proofs.Common.{◌≡◌, ap, sym, ◌∙◌, ◌++◌, List, ℕ}
use Rattle.std.specs.Prelude.{Option, Some}
use Rattle.std.proofs.lemmas.List.{append-nil}
use Rattle.ty_memc.specs.Answers.{value_lines}
use Rattle.ty_memc.specs.Seen.{seen_value}
use Rattle.ty_pieces.specs.Pieces.{got}
use Rattle.ty_core.proofs.Texting.{ready_after, seen_as}
use Rattle.ty_core.proofs.texts.add_lines.Goals as goal

pub returns-in_ok-write_value-in-Some-clause-adds : goal.returns-in_ok-write_value-in-Some-clause-adds
returns-in_ok-write_value-in-Some-clause-adds g c = λ replica w d h.
    let f = c.in_ok-is_held.ensures.got in
    let seen : seen_value c.value_of.result ≡ got replica d w c.args.key.now = (seen_as c.in_ok-is_held.is_held c.as_slice-2.result.now _ (seen_value c.value_of.result) _ c.as_slice-2.ensures c.value_of.ensures (f.long d h) (f.value replica w d h ∙ ap (λ (k : List ℕ). got replica d w k) (c.in_ok-asked.ensures ∙ c.as_slice.ensures))) in
    c.in_ok-write_value-in-Some.ensures.ok
    ∙ (ap (λ (k : List ℕ). c.args.waiting.now ++ value_lines k (Some c.in-Some.value.now)) c.as_slice-in-Some.ensures ∙ ap (λ (o : Option (List ℕ)). c.args.waiting.now ++ value_lines c.args.key.now o) (sym (ap seen_value c.in-Some.is) ∙ seen))

-- the key isn't held
pub returns-in-None-clause-adds : goal.returns-in-None-clause-adds
returns-in-None-clause-adds g c = λ replica w d h.
    let f = c.in_ok-is_held.ensures.got in
    let seen : seen_value c.value_of.result ≡ got replica d w c.args.key.now = (seen_as c.in_ok-is_held.is_held c.as_slice-2.result.now _ (seen_value c.value_of.result) _ c.as_slice-2.ensures c.value_of.ensures (f.long d h) (f.value replica w d h ∙ ap (λ (k : List ℕ). got replica d w k) (c.in_ok-asked.ensures ∙ c.as_slice.ensures))) in
    sym (append-nil c.args.waiting.now) ∙ ap (λ (o : Option (List ℕ)). c.args.waiting.now ++ value_lines c.args.key.now o) (sym (ap seen_value c.in-None.is) ∙ seen)

pub returns-in_ok-write_value-in-Some-clause-ready : goal.returns-in_ok-write_value-in-Some-clause-ready
returns-in_ok-write_value-in-Some-clause-ready g c = ready_after g.B.S.Space g.B.Storage.holds c.args.base.now c.fetch.new.base c.args.space.now c.fetch.new.space c.requires.ready c.in_ok-is_held.ensures.reads

pub returns-in-None-clause-ready : goal.returns-in-None-clause-ready
returns-in-None-clause-ready g c = ready_after g.B.S.Space g.B.Storage.holds c.args.base.now c.fetch.new.base c.args.space.now c.fetch.new.space c.requires.ready c.in_ok-is_held.ensures.reads
