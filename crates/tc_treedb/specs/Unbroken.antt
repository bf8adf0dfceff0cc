-- Files that stand for contents break no rule.
use Rattle.std.specs.Prelude.{◌≡◌, ℕ}
use Rattle.std.specs.FinMap.{get}
use Rattle.std.proofs.Common.{◌∙◌, sym, ap, subst, ⊎_elim}
use Rattle.tc_base.specs.Files.{Files}
use Rattle.tc_base.specs.declared.kind.Kind.{Kind}
use Rattle.tc_base.specs.declared.kind.Kind.TheVariants as kinds
use Rattle.tc_base.specs.declared.kind.Rule.{Rule}
use Rattle.tc_model.specs.Contents.{Contents, kind_of}
use Rattle.ty_base.specs.Opening.{OpensTo}
use Rattle.tc_hash.proofs.Unbroken.{stands_unbroken as unbroken}
use Rattle.tc_treedb.specs.Holding.{BreaksAs, BreaksRule, Reopens}
use Rattle.tc_treedb.specs.OneTree.{tree_unbroken}

contents_tree : (kind : Kind) (files : Files) (c : Contents) → OpensTo kind Reopens files c → kind ≡ kinds.Tree
contents_tree kind files c opens = sym opens.kind_is ∙ ⊎_elim (λ none. ap (λ (d : Contents). kind_of d) none.1) (λ file. ap (λ (d : Contents). kind_of d) file.is) opens.stand

pub stands_unbroken : (kind : Kind) (files : Files) (c : Contents) (file : ℕ) (rule : Rule) → OpensTo kind Reopens files c → BreaksAs kind files file rule → ⊥
stands_unbroken kind files c file rule opens breaks =
    let breaks_main : BreaksRule files file rule = subst (λ k. BreaksAs k files file rule) (contents_tree kind files c opens) breaks in
    ⊎_elim
    (λ none. breaks_main.some none.0)
    (λ main. ⊎_elim (λ l. unbroken 1 (files 0) (get main.stands.records) rule main.stands.file.is l) (λ b. tree_unbroken (files 0) main.held rule main.stands b) breaks_main.broken)
    opens.stand
