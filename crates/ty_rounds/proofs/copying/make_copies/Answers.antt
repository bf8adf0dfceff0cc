use Rattle.std.proofs.Common.{rules, ◌≡◌, ◌∙◌, ℕ, List, length, map, take, ap, refl, subst, arith}
use Rattle.std.proofs.lemmas.List.{take_all}
use Rattle.tc_base.specs.LabelTexts.{text_of}
use Rattle.tc_base.specs.declared.label.Label.{Label}
use Rattle.tc_io.specs.Copies.{IsCopied}
use Rattle.ty_rounds.specs.Copying.{AreMade, RoundCopies}
use Rattle.ty_rounds.proofs.CopyLaws.{MakesOne, label_more, labels_parted, no_labels, none_yet, one_copies, one_failed, one_made}
use Rattle.ty_rounds.proofs.Copied.{only_then}
use Rattle.ty_rounds.proofs.copying.make_copies.Goals as goal

pub loop-label-init : goal.loop-label-init
loop-label-init g c = record { front = none_yet g.S.Space c.args.space.now c.requires.sound; counted = refl }

pub copy-requires-clause-sound : goal.copy-requires-clause-sound
copy-requires-clause-sound g c = c.loop-label.invariant.front.only.sound

pub copy-requires-clause-untouched : goal.copy-requires-clause-untouched
copy-requires-clause-untouched g c = c.loop-label.invariant.front.only.touched ∙ c.requires.untouched

pub loop-label-preserved : goal.loop-label-preserved
loop-label-preserved g c =
    let s = g.S.Space in
    let i = c.loop-label.label-index in
    let text : c.as_slice.result.now ≡ text_of c.label-item.result = search rules in
    let f = c.loop-label.invariant.front in
    record {
      front = one_made s c.args.space.now c.loop-label.space c.copy.new.self (map text_of (take i c.args.labels.now)) _ (text_of c.label-item.result) i (label_more c.args.labels.now i c.label-item.result c.loop-label-test.true c.label-item.is) f
          (subst (λ (l : List ℕ). MakesOne s l c.loop-label.space c.copy.new.self) text c.copy.ensures.copies)
          (subst (λ (l : List ℕ). s.tells → IsCopied (s.now c.loop-label.space) ((s.names c.copy.new.self).copies l)) text c.in_ok-copy.ensures.copied)
          (f.only.touched ∙ c.requires.untouched) c.copy.ensures.touched c.copy.ensures.sound;
      counted = c.copy.ensures.counted ∙ c.loop-label.invariant.counted;
    }

pub returns-in_err-copy-clause-copies : goal.returns-in_err-copy-clause-copies
returns-in_err-copy-clause-copies g c =
    let s = g.S.Space in
    let i = c.loop-label.label-index in
    let text : c.as_slice.result.now ≡ text_of c.label-item.result = search rules in
    one_failed s c.args.space.now c.loop-label.space c.copy.new.self (map text_of (take i c.args.labels.now)) _ _ (text_of c.label-item.result) i (labels_parted c.args.labels.now i c.label-item.result c.loop-label-test.true c.label-item.is) c.loop-label.invariant.front
    (subst (λ (l : List ℕ). MakesOne s l c.loop-label.space c.copy.new.self) text c.copy.ensures.copies)

pub returns-in_err-copy-clause-only : goal.returns-in_err-copy-clause-only
returns-in_err-copy-clause-only g c =
    let f = c.loop-label.invariant.front in
    only_then g.S.Space c.args.space.now c.loop-label.space c.copy.new.self f.only (one_copies g.S.Space c.loop-label.space c.copy.new.self c.as_slice.result.now c.copy.ensures.copies (f.only.touched ∙ c.requires.untouched) c.copy.ensures.touched c.copy.ensures.sound)

pub returns-in_err-copy-clause-none : goal.returns-in_err-copy-clause-none
returns-in_err-copy-clause-none g c = λ e. absurd (no_labels c.args.labels.now c.loop-label.label-index e c.loop-label-test.true)

pub returns-in_err-copy-clause-counted : goal.returns-in_err-copy-clause-counted
returns-in_err-copy-clause-counted g c = c.copy.ensures.counted ∙ c.loop-label.invariant.counted

pub returns-clause-copies : goal.returns-clause-copies
returns-clause-copies g c = λ t. subst (λ (ls : List Label). RoundCopies (g.S.Space.now c.args.space.now) (map text_of ls) (g.S.Space.names c.args.space.now) (g.S.Space.names c.loop-label.space)) (take_all _ _ (omega (arith, c.loop-label-test.false))) (c.loop-label.invariant.front.copies t)

pub returns-clause-made : goal.returns-clause-made
returns-clause-made g c = λ t. subst (λ (ls : List Label). AreMade (g.S.Space.now c.args.space.now) (map text_of ls) (g.S.Space.names c.loop-label.space)) (take_all _ _ (omega (arith, c.loop-label-test.false))) (c.loop-label.invariant.front.made t)

pub returns-clause-only : goal.returns-clause-only
returns-clause-only g c = c.loop-label.invariant.front.only

pub returns-clause-none : goal.returns-clause-none
returns-clause-none g c = λ e. c.loop-label.invariant.front.still (let none : length c.args.labels.now ≡ 0 = ap length e in omega (arith, none, c.loop-label.auto.label-index-end))

pub returns-clause-counted : goal.returns-clause-counted
returns-clause-counted g c = c.loop-label.invariant.counted
