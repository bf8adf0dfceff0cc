-- Files that stand for contents break no rule.
use Rattle.std.specs.Prelude.{◌≡◌, ◌≢◌, ◌⊎◌, ℕ, Bool, true, false, List, [], ◌∷◌, ◌++◌}
use Rattle.std.specs.FinMap.{get}
use Rattle.std.proofs.Common.{◌∙◌, sym, ap, subst, ⊎_elim}
use Rattle.tc_base.specs.Files.{Files}
use Rattle.tc_base.specs.declared.kind.Kind.{Kind}
use Rattle.tc_base.specs.declared.kind.Kind.TheVariants as kinds
use Rattle.tc_base.specs.declared.kind.Rule.{Rule}
use Rattle.tc_model.specs.Contents.{Contents, kind_of}
use Rattle.ty_base.specs.Opening.{OpensTo}
use Rattle.tc_tabledb.specs.Files.{AreEmpty, AreFilesOf, AreNone, Reopens, index_files}
use Rattle.tc_tabledb.specs.Opening.{BreaksAs, BreaksNew, BreaksTable, IsLowest}
use Rattle.tc_tabledb.specs.OneTable.{table_unbroken}

contents_table : (kind : Kind) (files : Files) (c : Contents) → OpensTo kind Reopens files c → kind ≡ kinds.Table
contents_table kind files c opens = sym opens.kind_is ∙ ⊎_elim (λ (none : AreNone files c). ap (λ (d : Contents). kind_of d) none.is) (λ (file : AreFilesOf files c). ap (λ (d : Contents). kind_of d) file.is) opens.stand

pub stands_unbroken : (kind : Kind) (files : Files) (c : Contents) (file : ℕ) (rule : Rule) → OpensTo kind Reopens files c → BreaksAs kind files file rule → ⊥
stands_unbroken kind files c file rule opens breaks = table_unbroken files c file rule opens.stand (subst (λ k. BreaksAs k files file rule) (contents_table kind files c opens) breaks)
