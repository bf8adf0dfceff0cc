-- What an inspection tells of the files of a table.
use Rattle.std.specs.Prelude.{◌≡◌, ℕ, Bool, List, [], ◌∷◌, ◌++◌, codes, flat_map, take, if◌then◌else◌}
use Rattle.std.specs.FinMap.{entries}
use Rattle.tc_base.specs.Files.{Files}
use Rattle.tc_base.specs.Maps.{Map}
use Rattle.hf_head.specs.declared.head.Head.{Head}
use Rattle.hf_head.specs.Heads.{head_in, is_large, unit}
use Rattle.tc_engine.specs.Lines.{line}
use Rattle.tc_model.specs.Contents.{Contents, Indexes, table}
use Rattle.tc_model.specs.declared.query.IndexKind.{IndexKind}
use Rattle.tc_model.specs.declared.query.IndexKind.TheVariants as kinds
use Rattle.tc_table.specs.Valued.{with_values}
use Rattle.tc_tabledb.specs.Files.{AreFilesOf}

-- the numbers of file 0
abbrev pub head_lines : Head → List ℕ
head_lines h = line (codes "bucket number: ") h.buckets ++ (line (codes "alignment: ") (unit h) ++ (line (codes "free pool power: ") h.fpow ++ (line (codes "file size: ") h.size ++ line (codes "first record: ") h.first)))

-- the word of a type
abbrev pub kind_word : IndexKind → List ℕ
kind_word kinds.Lexical = codes "lexical"
kind_word kinds.Decimal = codes "decimal"
kind_word kinds.Token = codes "token"

-- a line an index
abbrev pub index_line : List ℕ → List ℕ → List ℕ
index_line name word = codes "index " ++ (name ++ (codes ": " ++ (word ++ 10 ∷ [])))

-- the word of each index by its column's name
abbrev pub words_of : Indexes → Map
words_of indexes = with_values kind_word indexes

-- by name ascending
abbrev pub index_lines : Indexes → List ℕ
index_lines indexes = flat_map (λ e. index_line e.0 e.1) (entries (words_of indexes))

-- the large form is told
abbrev pub form_line : Bool → List ℕ
form_line large = if large then codes "option: large" ++ 10 ∷ [] else []

-- by the bytes of file 0 and the indexes
abbrev pub lines_of : List ℕ → Indexes → List ℕ
lines_of bytes indexes = let h = head_in (take 256 bytes) in head_lines h ++ (index_lines indexes ++ form_line (is_large h))

-- the files stand for a table, and these are its lines
pub record IsTold (files : Files) (text : List ℕ) : Type 0 where
  pub contents : Contents
  pub stand : AreFilesOf files contents
  pub are : text ≡ lines_of (files 0) stand.indexes
