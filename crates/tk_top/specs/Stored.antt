-- The kinds of database in files that stand today.
use Rattle.std.specs.Prelude.{ℕ, List}
use Rattle.tc_base.specs.Files.{Files}
use Rattle.tc_base.specs.declared.kind.Form.{Form}
use Rattle.tc_base.specs.declared.kind.Kind.{Kind}
use Rattle.tc_base.specs.declared.kind.Kind.TheVariants as kind
use Rattle.tc_base.specs.declared.kind.Rule.{Rule}
use Rattle.tc_model.specs.Contents.{Contents}
use Rattle.ty_base.specs.Holding.{Layout}
use Rattle.tc_space.specs.Stores.{Only}
use Rattle.tc_fixed.specs.Holding.{HasNoRoom}
use Rattle.tc_hash.specs.Repacking.{IsPackedFrom}
use Rattle.tc_hashdb.specs.Filling.{FillsWith, LacksLargeWith}
use Rattle.tc_hashdb.specs.Holding as hash
use Rattle.tc_hashdb.specs.Informing as hash_lines
use Rattle.tc_hashdb.specs.Layouts as hash_layout
use Rattle.tc_hashdb.specs.Shapes as hash_shape
use Rattle.tc_fixeddb.specs.Holding as fixed
use Rattle.tc_fixeddb.specs.Layouts as fixed_layout
use Rattle.tc_fixeddb.specs.Shapes as fixed_shape
use Rattle.tc_tabledb.specs.Files as table
use Rattle.tc_tabledb.specs.Filling as table_fills
use Rattle.tc_tabledb.specs.Holding.{ArePackedFrom}
use Rattle.tc_tabledb.specs.Informing as table_lines
use Rattle.tc_tabledb.specs.Laying as table_layout
use Rattle.tc_tabledb.specs.Opening as table_opening
use Rattle.tc_tabledb.specs.Shapes as table_shape
use Rattle.tc_treedb.specs.Filling as tree_fills
use Rattle.tc_treedb.specs.Holding as tree
use Rattle.tc_treedb.specs.Informing as tree_lines
use Rattle.tc_treedb.specs.Layouts as tree_layout
use Rattle.tc_treedb.specs.Shapes as tree_shape
use Rattle.tk_top.specs.declared.words.Shape.{Shape}
use Rattle.tk_top.specs.declared.words.Shape.TheVariants as shapes
use Rattle.tk_top.specs.declared.words.Stored.{Stored}
use Rattle.tk_top.specs.declared.words.Stored.TheVariants.{Fixed, Hash, Table, Tree}

abbrev pub kind_in : Stored → Kind
kind_in Hash = kind.Hash
kind_in Tree = kind.Tree
kind_in Fixed = kind.Fixed
kind_in Table = kind.Table

-- files, read with an empty undo log, stand for contents
abbrev pub reopens_of : Stored → Files → Contents → Type 0
reopens_of Hash = hash.Reopens
reopens_of Tree = tree.Reopens
reopens_of Fixed = fixed.Reopens
reopens_of Table = table.Reopens

-- the first rule that files break, and the file that breaks it
abbrev pub breaks_of : Stored → Files → ℕ → Rule → Type 0
breaks_of Hash = hash.BreaksAs kind.Hash
breaks_of Tree = tree.BreaksAs kind.Tree
breaks_of Fixed = fixed.BreaksAs kind.Fixed
breaks_of Table = table_opening.BreaksAs kind.Table

-- what an inspection tells of files
abbrev pub lines_in : Stored → Files → List ℕ → Type 0
lines_in Hash = hash_lines.Lines
lines_in Tree = tree_lines.Lines
lines_in Fixed = fixed.Lines
lines_in Table = table_lines.IsTold

-- its files
abbrev pub own_of : Stored → ℕ → Type 0
own_of Hash = Only 0
own_of Tree = Only 0
own_of Fixed = Only 0
own_of Table = table.IsTableFile

-- how files are laid out
abbrev pub layout_of : Stored → Files → Layout
layout_of Hash = hash_layout.layout_of
layout_of Tree = tree_layout.layout_of
layout_of Fixed = fixed_layout.layout_of
layout_of Table = table_layout.layout_of

-- files are packed from others in a form: of a fixed-length file all are
abbrev pub packed_in : Stored → Files → Form → Files → Type 0
packed_in Hash from form files = IsPackedFrom (from 0) form (files 0)
packed_in Tree from form files = IsPackedFrom (from 0) form (files 0)
packed_in Fixed from form files = Unit {0}
packed_in Table from form files = ArePackedFrom from form files

-- a limit is reached between contents and those that a request makes of them: that of the undo log, or of the length of files, as they were brought to where they are kept
abbrev pub fills_of : Stored → (ℕ → ℕ) → Type 0 → Type 0 → Files → Contents → Contents → Type 0
fills_of Hash limits log_is_full brought files before after = FillsWith (limits 0) log_is_full brought (files 0) before after
fills_of Tree limits log_is_full brought files before after = tree_fills.FillsWith (limits 0) log_is_full brought (files 0) before after
fills_of Fixed limits log_is_full brought files before after = HasNoRoom (limits 0) log_is_full (fixed.length_with after)
fills_of Table limits log_is_full brought files before after = table_fills.FillsWith limits log_is_full brought files before after

-- so it is where files that were these are written anew in the large form, which then are so long; a fixed-length file has none
abbrev pub lacks_large_of : Stored → (ℕ → ℕ) → (ℕ → ℕ) → Type 0 → Files → Contents → Type 0
lacks_large_of Hash limits lengths brought first c = LacksLargeWith (limits 0) (lengths 0) brought (first 0) c
lacks_large_of Tree limits lengths brought first c = tree_fills.LacksLargeWith (limits 0) (lengths 0) brought (first 0) c
lacks_large_of Fixed limits lengths brought first c = ⊥
lacks_large_of Table limits lengths brought first c = table_fills.LacksLargeWith (limits 0) (lengths 0) brought (first 0) c

-- ---- files made anew

abbrev pub stored_as : Shape → Stored
stored_as (shapes.Hash shape) = Hash
stored_as (shapes.Tree shape) = Tree
stored_as (shapes.Fixed shape) = Fixed
stored_as (shapes.Table shape) = Table

-- the numbers of a file that an opening makes
abbrev pub usual_of : Stored → Shape
usual_of Hash = shapes.Hash hash_shape.usual
usual_of Tree = shapes.Tree tree_shape.usual
usual_of Fixed = shapes.Fixed fixed_shape.usual
usual_of Table = shapes.Table table_shape.usual

-- the rules that files beside an empty main file may break: of a table those of index files, which are to be empty then; the other kinds have no file but that
abbrev pub breaks_new_of : Shape → Files → ℕ → Rule → Type 0
breaks_new_of (shapes.Table shape) files file rule = table_opening.BreaksNew files file rule
breaks_new_of _ files file rule = ⊥

-- no data, in that shape
abbrev pub anew_of : Shape → Contents
anew_of (shapes.Hash shape) = hash_shape.anew shape
anew_of (shapes.Tree shape) = tree_shape.anew shape
anew_of (shapes.Fixed shape) = fixed_shape.anew shape
anew_of (shapes.Table shape) = table_shape.anew shape

-- the head of the main file has these numbers
abbrev pub numbers_of : Shape → Files → Type 0
numbers_of (shapes.Hash shape) = hash_shape.Shaped shape
numbers_of (shapes.Tree shape) = tree_shape.Shaped shape
numbers_of (shapes.Fixed shape) = fixed_shape.Shaped shape
numbers_of (shapes.Table shape) = table_shape.Shaped shape

-- there is no room for such a file: of so many bytes of the main file, with the bytes that it was brought to, or of the undo log
abbrev pub lacks_of : Shape → ℕ → Type 0 → Type 0 → List ℕ → Type 0
lacks_of (shapes.Hash shape) limit log_is_full brought bytes = hash_shape.LacksSections limit log_is_full shape
lacks_of (shapes.Tree shape) limit log_is_full brought bytes = tree_shape.LacksNew limit log_is_full brought bytes shape
lacks_of (shapes.Fixed shape) limit log_is_full brought bytes = HasNoRoom limit log_is_full 256
lacks_of (shapes.Table shape) limit log_is_full brought bytes = table_shape.LacksSections limit log_is_full shape
