-- What an inspection tells of a hash file.
use Rattle.std.specs.Prelude.{◌≡◌, ℕ, Bool, List, [], ◌++◌, ◌∷◌, codes, take, if◌then◌else◌}
use Rattle.tc_base.specs.Files.{Files}
use Rattle.hf_head.specs.declared.head.Head.{Head}
use Rattle.hf_head.specs.Heads.{head_in, is_large, unit}
use Rattle.tc_engine.specs.Lines.{line}

-- the large form is told
abbrev pub form_line : Bool → List ℕ
form_line large = if large then codes "option: large" ++ 10 ∷ [] else []

abbrev pub lines_of : Head → List ℕ
lines_of h = line (codes "bucket number: ") h.buckets ++ (line (codes "alignment: ") (unit h) ++ (line (codes "free pool power: ") h.fpow ++ (line (codes "file size: ") h.size ++ (line (codes "first record: ") h.first ++ form_line (is_large h)))))

-- as the head of file 0 says
abbrev pub Lines : Files → List ℕ → Type 0
Lines files text = text ≡ lines_of (head_in (take 256 (files 0)))
