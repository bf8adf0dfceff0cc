-- A copy that was made and is let go.
use Rattle.std.proofs.Common.{◌∙◌, ℕ, List, sym, ap, subst}
use Rattle.tc_base.specs.Files.{Files}
use Rattle.tc_io.specs.Copies.{CopyMoments, IsCopied, LetsCopyGo, MakesCopy, Named}
use Rattle.tc_io.specs.Images.{Calls}

module _ (kept : Files) (label : List ℕ) (tells : Type 0) (a b c : Named) (ended : LetsCopyGo tells b c) (t : tells) where
  pub still_makes : MakesCopy kept label a b → MakesCopy kept label a c
  still_makes makes = record {
    told = ended.told ∙ makes.told;
    moments = subst (λ (of : List ℕ → Calls). CopyMoments kept (a.copies label) (of label)) (sym (ended.copies t)) makes.moments;
    others = record { others = λ l other. ap (λ (of : List ℕ → Calls). of l) (ended.copies t) ∙ makes.others.others l other };
  }

  pub still_copied : IsCopied kept (b.copies label) → IsCopied kept (c.copies label)
  still_copied copied = subst (λ (of : List ℕ → Calls). IsCopied kept (of label)) (sym (ended.copies t)) copied
