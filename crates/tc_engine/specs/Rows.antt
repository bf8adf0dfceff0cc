-- Rows of a reply: spelled one behind the other, as many as have room.
use Rattle.std.specs.Prelude.{◌≡◌, ◌<◌, ◌≤◌, ◌+◌, ℕ, Bool, true, false, List, [], ◌∷◌, ◌++◌, length, map, Option, Some, None}
use Rattle.std.proofs.Common.{◌∙◌, refl, sym, ap, subst, append_assoc}
use Rattle.std.proofs.lemmas.List.{append-nil}
use Rattle.ty_wire.specs.Prefixes.{IsPrefix}
use Rattle.ty_wire.specs.Spelling.{size}
use Rattle.tc_base.specs.declared.seq.Pair.{Pair}
use Rattle.tc_model.specs.Rows.{texts_of}
use Rattle.tc_engine.specs.declared.rows.Rows.{Rows}

-- a text with its size in front
abbrev pub item_row : List ℕ → List ℕ
item_row text = size text ++ text

-- a key and a value with their sizes in front
abbrev pub pair_row : List ℕ → List ℕ → List ℕ
pair_row key value = size key ++ (size value ++ (key ++ value))

abbrev pub pair_rows : List Pair → List (List ℕ)
pair_rows ps = map (λ p. pair_row p.key p.value) ps

-- a row each for key and value
abbrev pub text_rows : List Pair → List (List ℕ)
text_rows ps = map item_row (texts_of ps)

abbrev pub joined : List (List ℕ) → List ℕ
joined [] = []
joined (row ∷ rows) = row ++ joined rows

abbrev pub bytes_of : Rows → List ℕ
bytes_of r = r.bytes

abbrev pub count_of : Rows → ℕ
count_of r = r.count

abbrev pub most_of : Rows → ℕ
most_of r = r.most

abbrev pub is_long : Rows → Bool
is_long r = r.long

-- behind a front stand these rows; or it is long, since they have more bytes than it takes
pub record Gathered (r : Rows) (front : List ℕ) (rows : List (List ℕ)) : Type 0 where
  pub bytes : r.long ≡ false → r.bytes ≡ front ++ joined rows
  pub count : r.long ≡ false → r.count ≡ length rows
  pub room : r.long ≡ false → length (joined rows) + r.room ≡ r.most
  pub long : r.long ≡ true → r.most < length (joined rows)
  pub behind : IsPrefix front r.bytes

-- so many bytes more have room
pub record HasRoom (r : Rows) (n : ℕ) : Type 0 where
  pub not_long : r.long ≡ false
  pub fits : n ≤ r.room

-- so many bytes have no room, or it is long already
abbrev pub LacksRoom : Rows → ℕ → Type 0
LacksRoom r n = r.long ≡ false → r.room < n

-- these rows came behind those that were there
pub record Adds (old new : Rows) (rows : List (List ℕ)) : Type 0 where
  pub most : most_of new ≡ most_of old
  pub gathered : (front : List ℕ) (before : List (List ℕ)) → Gathered old front before → Gathered new front (before ++ rows)

-- the bytes that were there still stand in front
abbrev pub Extends : Rows → Rows → Type 0
Extends old new = IsPrefix (bytes_of old) (bytes_of new)

-- the row of a value where there is one, and whether there is
pub record IsItem (value : Option (List ℕ)) (found : Bool) (old new : Rows) : Type 0 where
  pub there : found ≡ true → (text : List ℕ) × (value ≡ Some text) × Adds old new (item_row text ∷ [])
  pub none : found ≡ false → (value ≡ None) × Adds old new []

-- the rows of texts where there are any, and whether there are
pub record AreItems (texts : Option (List (List ℕ))) (found : Bool) (old new : Rows) : Type 0 where
  pub there : found ≡ true → (items : List (List ℕ)) × (texts ≡ Some items) × Adds old new (map item_row items)
  pub none : found ≡ false → (texts ≡ None) × Adds old new []

-- ---- one call behind another

pub adds_nothing : (a : Rows) → Adds a a []
adds_nothing a = record { most = refl; gathered = λ front before g. subst (Gathered a front) (sym (append-nil before)) g }

pub adds_then : (a b c : Rows) (xs ys : List (List ℕ)) → Adds a b xs → Adds b c ys → Adds a c (xs ++ ys)
adds_then a b c xs ys first second = record {
  most = second.most ∙ first.most;
  gathered = λ front before g. subst (Gathered c front) (append_assoc before xs ys) (second.gathered front (before ++ xs) (first.gathered front before g));
}

pub extends_refl : (a : Rows) → Extends a a
extends_refl a = ([], sym (append-nil (bytes_of a)))

pub extends_then : (a b c : Rows) → Extends a b → Extends b c → Extends a c
extends_then a b c first second = (first.0 ++ second.0, second.1 ∙ (ap (λ t. t ++ second.0) first.1 ∙ append_assoc (bytes_of a) first.0 second.0))
