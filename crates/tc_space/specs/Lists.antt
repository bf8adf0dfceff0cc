-- What a list of pairs over one file was made with, what its calls keep of it, and when one has no room.
use Rattle.std.specs.Prelude.{◌≡◌, ◌≤◌, ◌⊎◌, ℕ, List, Bool, false, Option, None, Result, OnErr, OnOk}
use Rattle.tc_base.specs.declared.kind.Form.{Form}
use Rattle.tc_base.specs.declared.kind.Mode.{Mode}
use Rattle.tc_base.specs.declared.kind.Mode.TheVariants.{Keep}
use Rattle.tc_base.specs.declared.seq.Pair.{Pair}
use Rattle.tc_space.specs.Stores.{KeepsTight, in_form}

-- the type byte of its file, and the numbers that the file's head fixes; the order byte; how many keys a leaf may have, and how many entries a node; and the record `column` beside the pairs, if there is one
pub record Made : Type 0 where
  pub sort : ℕ
  pub numbers : List ℕ
  pub code : ℕ
  pub leaf : ℕ
  pub node : ℕ
  pub column : Option (List ℕ)

-- the file stays, and what the list was made with, and no more lies free in front of the first block than did
pub record StaysList {V : Type 0} (file_of : V → ℕ) (made : V → Made) (lead : V → ℕ) (old new : V) : Type 0 where
  pub file : file_of new ≡ file_of old
  pub made_same : made new ≡ made old
  pub leads : lead new ≤ lead old

-- what a list was made with, once its file is written in this form
abbrev pub made_in : Form → Made → Made
made_in form made = record made { numbers = in_form form made.numbers }

-- of a packing: the file stays; what the list was made with is so in that form, with no more free in front of the first block, and where it was refused that stays, or the space may not be
-- used any more
pub record PacksList {S V T E : Type 0} (flag : S → Bool) (file_of : V → ℕ) (made : V → Made) (lead : V → ℕ) (form : Form) (result : Result T E) (old new : V) (space : S) : Type 0 where
  pub file : file_of new ≡ file_of old
  pub formed : OnOk result (made new ≡ made_in form (made old))
  pub leads : OnOk result (lead new ≤ lead old)
  pub left : OnErr result ((flag space ≡ false) ⊎ (made new ≡ made old))

-- besides, what was packed is so still, over the same bytes
pub record StaysPacked {V : Type 0} (file_of : V → ℕ) (made : V → Made) (lead : V → ℕ) (tight : V → List ℕ → Form → List ℕ → Type 0) (old new : V) : Type 0 where
  pub file : file_of new ≡ file_of old
  pub made_same : made new ≡ made old
  pub leads : lead new ≤ lead old
  pub stays_tight : KeepsTight tight old new

-- a limit is reached, by the list and the space before the call and as the space stands at its end, on the way from the pairs that were held to those that the call was to make of them
pub record FullFrom {S V : Type 0} (Means : V → S → List Pair → Type 0) (fills : V → S → S → List Pair → List Pair → Type 0) (f : List Pair → List Pair) (v : V) (old new : S) : Type 0 where
  pub by : (ps : List Pair) → Means v old ps → fills v old new ps (f ps)

-- so it is of a put, where with Keep the key isn't held
pub record FullPutFrom {S V : Type 0} (Means : V → S → List Pair → Type 0) (fills : V → S → S → List Pair → List Pair → Type 0) (mode : Mode) (found : List Pair → Option (List ℕ)) (f : List Pair → List Pair) (v : V) (old new : S) : Type 0 where
  pub free : mode ≡ Keep → (ps : List Pair) → Means v old ps → found ps ≡ None
  pub by : (ps : List Pair) → Means v old ps → fills v old new ps (f ps)
