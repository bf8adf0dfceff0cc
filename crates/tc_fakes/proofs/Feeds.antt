-- Reads added to a script one at a time.
use Rattle.std.proofs.Common.{◌≡◌, ◌≤◌, ℕ, List, [], ◌∷◌, ◌++◌, length, map, refl, sym, ap, ◌∙◌, append_assoc}
use Rattle.std.specs.Prelude.{All}
use Rattle.std.specs.List.{flat_map}
use Rattle.std.proofs.lemmas.List.{append-nil, map-append, nil_from_length}
use Rattle.std.proofs.lemmas.List.Elements.{All-nil, All-push}
use Rattle.std.proofs.lemmas.Grind.{flat_map-append}
use Rattle.tc_io.specs.declared.act.Act.{Act}
use Rattle.tc_io.specs.declared.act.Act.TheVariants.{Read}
use Rattle.tc_fakes.specs.Feeding.{AddsReads}

abbrev all : List (List ℕ) → List ℕ
all parts = flat_map (λ p. p) parts

-- these pieces were added, and the rest is to come
pub record Fed (bytes : List ℕ) (piece conn : ℕ) (before now : List Act) (rest : List ℕ) : Type 0 where
  pub parts : List (List ℕ)
  pub whole : bytes ≡ flat_map (λ p. p) parts ++ rest
  pub sizes : All (λ p. (1 ≤ length p) × (length p ≤ piece)) parts
  pub acts_are : now ≡ before ++ map (Read conn) parts

pub fed_none : (bytes : List ℕ) (piece conn : ℕ) (before : List Act) → Fed bytes piece conn before before bytes
fed_none bytes piece conn before = record {
  parts = [];
  whole = refl;
  sizes = All-nil (λ p. (1 ≤ length p) × (length p ≤ piece));
  acts_are = sym (append-nil before);
}

pub fed_more : (bytes : List ℕ) (piece conn : ℕ) (before now now' : List Act) (rest part behind : List ℕ) → Fed bytes piece conn before now rest → rest ≡ part ++ behind → 1 ≤ length part → length part ≤ piece → now' ≡ now ++ Read conn part ∷ []
    → Fed bytes piece conn before now' behind
fed_more bytes piece conn before now now' rest part behind f split some few more = record {
  parts = f.parts ++ part ∷ [];
  whole =
      f.whole ∙ ap (λ (l : List ℕ). all f.parts ++ l) (split ∙ ap (λ (l : List ℕ). l ++ behind) (sym (append-nil part))) ∙ sym (append_assoc (all f.parts) (all (part ∷ [])) behind)
      ∙ ap (λ (l : List ℕ). l ++ behind) (sym (flat_map-append (λ p. p) f.parts (part ∷ [])));
  sizes = All-push (λ p. (1 ≤ length p) × (length p ≤ piece)) f.parts part f.sizes (some, few);
  acts_are = more ∙ ap (λ (l : List Act). l ++ Read conn part ∷ []) f.acts_are ∙ append_assoc before (map (Read conn) f.parts) (Read conn part ∷ []) ∙ ap (λ (l : List Act). before ++ l) (sym (map-append (Read conn) f.parts (part ∷ [])));
}

pub fed_all : (bytes : List ℕ) (piece conn : ℕ) (before now : List Act) (rest : List ℕ) → Fed bytes piece conn before now rest → length rest ≡ 0 → AddsReads before now conn bytes piece
fed_all bytes piece conn before now rest f none =
    (f.parts, record { whole = f.whole ∙ ap (λ (l : List ℕ). all f.parts ++ l) (nil_from_length rest none) ∙ append-nil (all f.parts); sizes = f.sizes }, f.acts_are)
