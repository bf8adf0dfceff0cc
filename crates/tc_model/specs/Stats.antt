-- The text that stat gives: three lines of a word, a tab and a value.
use Rattle.std.specs.Prelude.{ℕ, List, [], ◌∷◌, ◌++◌, codes}
use Rattle.std.specs.Fmt.{decimal}
use Rattle.tc_base.specs.declared.kind.Kind.{Kind}
use Rattle.tc_base.specs.declared.kind.Kind.TheVariants.{Hash, Tree, Fixed, Table, MemHash, MemTree}
use Rattle.tc_model.specs.Contents.{Contents, kind_of}
use Rattle.tc_model.specs.Stores.{count, size_of}

abbrev pub kind_text : Kind → List ℕ
kind_text Hash = codes "hash"
kind_text Tree = codes "B+ tree"
kind_text Fixed = codes "fixed-length"
kind_text Table = codes "table"
kind_text MemHash = codes "on-memory hash"
kind_text MemTree = codes "on-memory tree"

abbrev pub line : List ℕ → List ℕ → List ℕ
line name value = name ++ (9 ∷ (value ++ 10 ∷ []))

abbrev pub text_of : Kind → ℕ → ℕ → List ℕ
text_of kind rnum size = line (codes "type") (kind_text kind) ++ (line (codes "rnum") (decimal rnum) ++ line (codes "size") (decimal size))

abbrev pub stat_text : Contents → List ℕ
stat_text c = text_of (kind_of c) (count c) (size_of c)
