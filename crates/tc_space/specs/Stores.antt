-- What a call does to a map, or to a list of pairs, that is kept in one file of a space.
use Rattle.std.specs.Prelude.{◌≡◌, ◌⊎◌, ℕ, ◌+◌, ◌-◌, ◌^◌, ◌≤◌, min, List, [], ◌∷◌, ◌++◌, Bool, true, false, Option, None, IsSome, Result, IfOk, OnErr, OnOk}
use Rattle.std.specs.FinMap.{get}
use Rattle.std.proofs.Common.{inl, inr, ⊎_elim, refl, arith}
use Rattle.tc_base.specs.Maps.{Map}
use Rattle.tc_base.specs.declared.kind.Form.{Form}
use Rattle.tc_base.specs.declared.kind.Form.TheVariants as forms
use Rattle.tc_base.specs.declared.kind.Mode.{Mode}
use Rattle.tc_base.specs.declared.kind.Mode.TheVariants.{Keep}
use Rattle.tc_base.specs.declared.seq.Pair.{Pair}
use Rattle.tc_space.specs.Changes.{put_value}
use Rattle.tc_space.specs.Frames.{In, Reads, Refuses, Writes}
use Rattle.tc_space.specs.declared.space.Space.{Ghosts}

-- it may be called: the space is sound and, where its files are told, something is held
pub record IsReady {S V M : Type 0} (s : Ghosts S) (Means : V → S → M → Type 0) (v : V) (space : S) : Type 0 where
  pub sound : s.sound space
  pub held : s.tells → (m : M) × Means v space m

-- its own file
abbrev pub Only : ℕ → ℕ → Type 0
Only file g = g ≡ file

-- the file, its type, its numbers, the region and the count of gets stay, and no more lies free in front of the first block than did
pub record StaysMap {V : Type 0} (file_of sort : V → ℕ) (numbers region : V → List ℕ) (lead gets : V → ℕ) (old new : V) : Type 0 where
  pub file : file_of new ≡ file_of old
  pub sort_same : sort new ≡ sort old
  pub numbers_same : numbers new ≡ numbers old
  pub region_same : region new ≡ region old
  pub leads : lead new ≤ lead old
  pub gets_same : gets new ≡ gets old

-- the file, its type, its numbers and the region stay, no more lies free in front of the first block, and a get is counted
pub record CountsGet {V : Type 0} (file_of sort : V → ℕ) (numbers region : V → List ℕ) (lead gets : V → ℕ) (old new : V) : Type 0 where
  pub file : file_of new ≡ file_of old
  pub sort_same : sort new ≡ sort old
  pub numbers_same : numbers new ≡ numbers old
  pub region_same : region new ≡ region old
  pub leads : lead new ≤ lead old
  pub counted : gets new ≡ min (gets old + 1) (2 ^ 64 - 1)

-- the region has these bytes, and all else that is told stays
pub record SetsRegion {V : Type 0} (file_of sort : V → ℕ) (numbers region : V → List ℕ) (lead gets : V → ℕ) (bytes : List ℕ) (old new : V) : Type 0 where
  pub file : file_of new ≡ file_of old
  pub sort_same : sort new ≡ sort old
  pub numbers_same : numbers new ≡ numbers old
  pub region_is : region new ≡ bytes
  pub leads : lead new ≤ lead old
  pub gets_same : gets new ≡ gets old

-- the options of a file once it is written in this form, and its numbers, which begin with them
abbrev pub options_in : Form → ℕ → ℕ
options_in forms.Keep options = options
options_in forms.Large options = 1

abbrev pub in_form : Form → List ℕ → List ℕ
in_form form [] = []
in_form form (options ∷ numbers) = options_in form options ∷ numbers

-- of a packing: the file, its type, the region and the count of gets stay; its numbers are those of that form, with no more free in front of the first block, and where it was refused they
-- stay, or the space may not be used any more
pub record PacksMap {S V T E : Type 0} (flag : S → Bool) (file_of sort : V → ℕ) (numbers region : V → List ℕ) (lead gets : V → ℕ) (form : Form) (result : Result T E) (old new : V) (space : S) : Type 0 where
  pub file : file_of new ≡ file_of old
  pub sort_same : sort new ≡ sort old
  pub region_same : region new ≡ region old
  pub gets_same : gets new ≡ gets old
  pub formed : OnOk result (numbers new ≡ in_form form (numbers old))
  pub leads : OnOk result (lead new ≤ lead old)
  pub left : OnErr result ((flag space ≡ false) ⊎ (numbers new ≡ numbers old))

-- a put gave the key a value. With Keep there was none
pub record Puts {S V M : Type 0} (s : Ghosts S) (own : ℕ → Type 0) (Means : V → S → M → Type 0) (mode : Mode) (found : M → Option (List ℕ)) (f : M → M) (v v' : V) (old new : S) : Type 0 where
  pub writes : Writes s own Means f v v' old new
  pub absent : mode ≡ Keep → (m : M) → Means v old m → found m ≡ None

-- a put was refused since the key is held and was to be kept. Nothing has changed
pub record Exists {S V M : Type 0} (s : Ghosts S) (Means : V → S → M → Type 0) (mode : Mode) (found : M → Option (List ℕ)) (v v' : V) (old new : S) : Type 0 where
  pub keep : mode ≡ Keep
  pub there : (m : M) → Means v old m → IsSome (found m)
  pub reads : Reads s Means v v' old new

-- what was there was taken out, and this says whether anything was. Else nothing has changed
pub record TakesOut {S V M : Type 0} (s : Ghosts S) (own : ℕ → Type 0) (Means : V → S → M → Type 0) (has : M → Bool) (f : M → M) (taken : Bool) (v v' : V) (old new : S) : Type 0 where
  pub held : (m : M) → Means v old m → taken ≡ has m
  pub out : taken ≡ true → Writes s own Means f v v' old new
  pub none : taken ≡ false → Reads s Means v v' old new

-- a limit is reached, as the space stands, on the way from what was held to what the call was to make of it
pub record FullBy {S V M : Type 0} (Means : V → S → M → Type 0) (fills : V → S → M → M → Type 0) (f : M → M) (v : V) (old new : S) : Type 0 where
  pub by : (m : M) → Means v old m → fills v new m (f m)

-- a put to a map had no room. With Keep the key isn't held; and the undo log is full, or there was no block for the record of the key with its value
pub record FullPut {S V : Type 0} (s : Ghosts S) (Means : V → S → Map → Type 0) (lacks : V → S → S → List ℕ → List ℕ → Type 0) (mode : Mode) (key value : List ℕ) (v : V) (old new : S) : Type 0 where
  pub free : mode ≡ Keep → (m : Map) → Means v old m → get m key ≡ None
  pub by : (m : Map) → Means v old m → s.log_full new ⊎ lacks v old new key (put_value mode (get m key) value)

-- a packing had no room: the undo log is full, or a file written anew in the large form had none
abbrev pub FullPack : {S V : Type 0} → Ghosts S → (V → S → S → Type 0) → Form → V → S → S → Type 0
FullPack s lacks_large form v old new = s.tells → s.log_full new ⊎ ((form ≡ forms.Large) × lacks_large v old new)

-- an emptying had no room: the undo log is full, or what stands in an empty file had none
abbrev pub FullClear : {S V : Type 0} → Ghosts S → (V → S → S → Type 0) → V → S → S → Type 0
FullClear s lacks_bare v old new = s.tells → s.log_full new ⊎ lacks_bare v old new

-- what was packed from bytes in a form is so still, over the same bytes
abbrev pub KeepsTight : {V : Type 0} → (V → List ℕ → Form → List ℕ → Type 0) → V → V → Type 0
KeepsTight tight old new = (from : List ℕ) (form : Form) (bytes : List ℕ) → tight old from form bytes → tight new from form bytes

-- a counter rose by at least as much as the count of gets did, or stands where it stops
pub record Ticks (gets gets' steps steps' : ℕ) : Type 0 where
  pub rises : steps ≤ steps'
  pub enough : (gets' + steps ≤ gets + steps') ⊎ (2 ^ 64 - 1 ≤ steps')

-- ---- the same of a store of one file, by the members that it has

module _ {S V M : Type 0} (s : Ghosts S) (file : V → ℕ) (holds : V → List ℕ → M → Type 0) where
  abbrev pub ReadyIn : V → S → Type 0
  ReadyIn v space = IsReady s (In s file holds) v space

  -- it answers this of whatever is held
  abbrev pub AnswersIn : {A E : Type 0} → Result A E → (M → A) → V → S → Type 0
  AnswersIn result f v space = IfOk result (λ x. (m : M) → In s file holds v space m → x ≡ f m)

  abbrev pub ReadsIn : V → V → S → S → Type 0
  ReadsIn v v' old new = Reads s (In s file holds) v v' old new

  abbrev pub WritesIn : (M → M) → V → V → S → S → Type 0
  WritesIn f v v' old new = Writes s (Only (file v)) (In s file holds) f v v' old new

  abbrev pub RefusesIn : {A E : Type 0} → Result A E → V → V → S → S → Type 0
  RefusesIn result v v' old new = OnErr result (Refuses s (In s file holds) v v' old new)

  abbrev pub PutsIn : Mode → (M → Option (List ℕ)) → (M → M) → V → V → S → S → Type 0
  PutsIn mode found f v v' old new = Puts s (Only (file v)) (In s file holds) mode found f v v' old new

  abbrev pub ExistsIn : Mode → (M → Option (List ℕ)) → V → V → S → S → Type 0
  ExistsIn mode found v v' old new = Exists s (In s file holds) mode found v v' old new

  abbrev pub TakesIn : {E : Type 0} → Result Bool E → (M → Bool) → (M → M) → V → V → S → S → Type 0
  TakesIn result has f v v' old new = IfOk result (λ taken. TakesOut s (Only (file v)) (In s file holds) has f taken v v' old new)

  -- the bytes that its file has then are this of whatever was held
  abbrev pub BringsIn : (List ℕ → M → Type 0) → V → S → S → Type 0
  BringsIn is v old new = (m : M) → In s file holds v old m → is (s.now new (file v)) m

  -- of whatever was held: it was packed in that form from the bytes that its file had
  abbrev pub TightIn : (V → List ℕ → Form → List ℕ → Type 0) → Form → V → V → S → S → Type 0
  TightIn tight form v v' old new = (m : M) → In s file holds v old m → tight v' (s.now old (file v)) form (s.now new (file v))

  -- from which bytes it was packed, and in which form, from those in that form its file is packed now
  abbrev pub PacksIn : (V → List ℕ → Form → List ℕ → Type 0) → (List ℕ → Form → List ℕ → Type 0) → V → S → S → Type 0
  PacksIn tight packed v old new = (from : List ℕ) (form : Form) (m : M) → tight v from form (s.now old (file v)) → In s file holds v old m → packed from form (s.now new (file v))

  -- of whatever was held: no byte at the end of its file holds nothing
  abbrev pub TrimsIn : (List ℕ → ℕ) → V → S → S → Type 0
  TrimsIn slack v old new = (m : M) → In s file holds v old m → slack (s.now new (file v)) ≡ 0

  abbrev pub FullIn : (V → S → M → M → Type 0) → (M → M) → V → S → S → Type 0
  FullIn fills f v old new = FullBy (In s file holds) fills f v old new

-- ---- of a map

module _ {S V : Type 0} (s : Ghosts S) (file : V → ℕ) (holds : V → List ℕ → Map → Type 0) where
  abbrev pub FullPutIn : (V → S → S → List ℕ → List ℕ → Type 0) → Mode → List ℕ → List ℕ → V → S → S → Type 0
  FullPutIn lacks mode key value v old new = FullPut s (In s file holds) lacks mode key value v old new

  -- where a key that wasn't held was put into a file with the records of these pairs alone, the file has that of one pair more, behind them
  abbrev pub FillsMore : (V → List Pair → Type 0) → List ℕ → List ℕ → V → V → S → Type 0
  FillsMore filled key value v v' old = (m : Map) (ps : List Pair) → In s file holds v old m → get m key ≡ None → filled v ps → filled v' (ps ++ record { key = key; value = value } ∷ [])

-- ---- it may be called again

module _ {S V M : Type 0} (s : Ghosts S) (Means : V → S → M → Type 0) where
  pub ready_reads : (v v' : V) (a b : S) → Reads s Means v v' a b → IsReady s Means v a → IsReady s Means v' b
  ready_reads v v' a b reads ready = record { sound = reads.sound; held = λ t. let h = ready.held t in (h.0, reads.means h.0 h.1) }

  module _ (own : ℕ → Type 0) where
    pub ready_writes : (f : M → M) (v v' : V) (a b : S) → Writes s own Means f v v' a b → IsReady s Means v a → IsReady s Means v' b
    ready_writes f v v' a b writes ready = record { sound = writes.sound; held = λ t. let h = ready.held t in (f h.0, writes.means h.0 h.1) }

    pub ready_puts : (mode : Mode) (found : M → Option (List ℕ)) (f : M → M) (v v' : V) (a b : S) → Puts s own Means mode found f v v' a b → IsReady s Means v a → IsReady s Means v' b
    ready_puts mode found f v v' a b puts ready = ready_writes f v v' a b puts.writes ready

    pub ready_takes : (has : M → Bool) (f : M → M) (taken : Bool) (v v' : V) (a b : S) → TakesOut s own Means has f taken v v' a b → IsReady s Means v a → IsReady s Means v' b
    ready_takes has f true v v' a b takes ready = ready_writes f v v' a b (takes.out refl) ready
    ready_takes has f false v v' a b takes ready = ready_reads v v' a b (takes.none refl) ready

  pub ready_exists : (mode : Mode) (found : M → Option (List ℕ)) (v v' : V) (a b : S) → Exists s Means mode found v v' a b → IsReady s Means v a → IsReady s Means v' b
  ready_exists mode found v v' a b exists ready = ready_reads v v' a b exists.reads ready

pub ticks_then : (g h i s t u : ℕ) → Ticks g h s t → Ticks h i t u → Ticks g i s u
ticks_then g h i s t u first second = record {
  rises = omega (arith, first.rises, second.rises);
  enough = ⊎_elim (λ more. ⊎_elim (λ so_far. inl (omega (arith, so_far, more))) (λ full. inr (omega (arith, full, second.rises))) first.enough) (λ full. inr full) second.enough;
}
