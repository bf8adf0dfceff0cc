-- What the code holds of a line, seen as what it says.
use Rattle.std.specs.Prelude.{◌≡◌, ℕ, List, Option, Some, None}
use Rattle.std.specs.Borrow.{Bor}
use Rattle.ty_memc.specs.declared.text.Text.{Text}
use Rattle.ty_memc.specs.declared.lines.Storing.{Storing}
use Rattle.ty_memc.specs.declared.lines.Heading.{Heading}
use Rattle.ty_memc.specs.declared.lines.Heading.TheVariants as heading
use Rattle.ty_memc.specs.Lines.{Line, stores, says, closes}

-- what a function returned, seen by view, is what a definition makes
abbrev pub Gives : {X Y : Type 0} → (X → Y) → Option X → Option Y → Type 0
Gives view None made = made ≡ None
Gives view (Some x) made = made ≡ Some (view x)

abbrev pub stored : Storing → Line
stored s = stores s.word s.key.now s.size s.quiet

abbrev pub Says : Heading → Line → Type 0
Says (heading.Stores s) line = line ≡ stored s
Says heading.Says line = (t : Text) × (line ≡ says t)
Says heading.Closes line = line ≡ closes

abbrev pub seen_value : Option (Bor (List ℕ)) → Option (List ℕ)
seen_value None = None
seen_value (Some b) = Some b.now
