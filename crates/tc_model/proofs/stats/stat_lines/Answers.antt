use Rattle.std.proofs.Common.{◌≡◌, ◌∙◌, ◌++◌, List, ℕ, sym, subst, append_assoc}
use Rattle.std.specs.Prelude.{IfOk, codes}
use Rattle.std.specs.Fmt.{decimal}
use Rattle.tc_model.specs.Stats.{line, text_of}
use Rattle.tc_model.proofs.stats.stat_lines.Goals as goal

abbrev lines_of : List ℕ → List ℕ → List ℕ → List ℕ
lines_of kind rnum bytes = line (codes "type") kind ++ (line (codes "rnum") rnum ++ line (codes "size") bytes)

lines : (kind rnum bytes : List ℕ) → codes "type\t" ++ (kind ++ (codes "\nrnum\t" ++ (rnum ++ (codes "\nsize\t" ++ (bytes ++ codes "\n"))))) ≡ lines_of kind rnum bytes
lines kind rnum bytes = sym (simp append_assoc)

pub returns : goal.returns
returns c =
    let text : c.as_bytes.result.now ≡ text_of c.args.kind c.args.rnum c.args.size =
    c.as_bytes.ensures.value ∙ c.in_ok-text.ensures.ok ∙ lines c.kind_text.result.now (decimal c.args.rnum) (decimal c.args.size) ∙ (λ i. lines_of (c.kind_text.ensures i) (decimal c.args.rnum) (decimal c.args.size)) in
    subst (λ (v : List ℕ). IfOk c.from_slice.result (λ o. o ≡ v)) text c.from_slice.ensures
