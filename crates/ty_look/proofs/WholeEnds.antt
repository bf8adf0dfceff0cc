-- Where all sizes are there, what they announce is a request's length.
use Rattle.std.proofs.Common.{◌≡◌, inl, inr, ℕ, ◌+◌, ◌<◌, ◌≤◌, max, Bool, true, false, nat_eq, List, [], ◌∷◌, ◌++◌, length, Ok, Err, refl, sym, ap, subst, ◌∙◌, append_assoc, arith, length-append}
use Rattle.std.specs.Prelude.{Option, Some, ◌||◌}
use Rattle.std.specs.Int.{w32, to_be_bytes}
use Rattle.std.proofs.lemmas.Bool.{cases_lt, cond-true, cond-false}
use Rattle.tc_base.specs.declared.request.Request.{Request}
use Rattle.tc_base.specs.declared.request.Request.TheVariants.{Put, PutKeep, PutCat, PutShl, PutNr, Out, Get, MGet, Vsiz, IterInit, IterNext, FwmKeys, AddInt, AddDouble, Ext, Sync, Optimize, Vanish, Copy, Restore, SetMst, Rnum, Size, Stat, Misc, Repl}
use Rattle.tc_base.specs.Reading.{Front, ◌>>=◌}
use Rattle.tc_base.proofs.Exact.{parted}
use Rattle.tc_base.proofs.ExactFields.{chosen}
use Rattle.ty_wire.specs.Form.{Field, text, word, long, Heads, Values, heads, long_bytes, head_bytes, header, AllFit, body, Form, form_bytes, FormFits}
use Rattle.ty_wire.specs.Form as form
use Rattle.ty_wire.specs.Spelling.{form as form_of, spelling, Fits}
use Rattle.ty_wire.specs.Prefixes.{IsPart}
use Rattle.ty_wire.specs.Reading.{heads_then, Entry, plain, command_of, entries}
use Rattle.ty_look.specs.Seen.{numbers_size, HasSizes, HasList, Announces, end_from, end_at, entry_end, pick_end, or_none, command_end, announced_at}
use Rattle.ty_wire.proofs.ExactForms.{AllSmall, exact_head}
use Rattle.ty_wire.proofs.Requests.{IsLittle, AllLittle, all_little, find, heads_same}
use Rattle.ty_look.proofs.FieldEnds.{texts_size, ends_from, heads_stay}

abbrev is_list : ℕ → Bool
is_list c = nat_eq c 0x31 || nat_eq c 0x90

-- the table has the fields of a request without a list under its command
abbrev IsKind : Form → Type 0
IsKind (form.plain c fs v) = (is_list c ≡ false) × (build : Values fs → Request) × (find entries c ≡ Some (plain c fs build))
IsKind (form.counted c fs v most items) = Unit {0}

kind : (r : Request) → IsKind (form_of r)
kind (Put key value) = (refl, _, refl)
kind (PutKeep key value) = (refl, _, refl)
kind (PutCat key value) = (refl, _, refl)
kind (PutShl key value width) = (refl, _, refl)
kind (PutNr key value) = (refl, _, refl)
kind (Out key) = (refl, _, refl)
kind (Get key) = (refl, _, refl)
kind (Vsiz key) = (refl, _, refl)
kind IterInit = (refl, _, refl)
kind IterNext = (refl, _, refl)
kind (FwmKeys prefix maximum) = (refl, _, refl)
kind (AddInt key number) = (refl, _, refl)
kind (AddDouble key integer fraction) = (refl, _, refl)
kind (Ext name options key value) = (refl, _, refl)
kind Sync = (refl, _, refl)
kind (Optimize text') = (refl, _, refl)
kind Vanish = (refl, _, refl)
kind (Copy path) = (refl, _, refl)
kind (Restore path timestamp options) = (refl, _, refl)
kind (SetMst host port timestamp options) = (refl, _, refl)
kind Rnum = (refl, _, refl)
kind Size = (refl, _, refl)
kind Stat = (refl, _, refl)
kind (Repl timestamp server) = (refl, _, refl)
kind (MGet keys) = tt
kind (Misc name options args) = tt

-- ---- a list is told by its command

listed : (f : Form) (c : ℕ) (b rest : List ℕ) → IsKind f → is_list c ≡ true → form_bytes f ≡ 0xC8 ∷ c ∷ (b ++ rest) → HasList f
listed (form.plain d fs v) c b rest k is e =
    let same = (heads_same d c _ _ e).0 in
    let wrong : is_list c ≡ false = ap is_list (sym same) ∙ k.0 in
    absurd cc
listed (form.counted d fs v most items) c b rest k is e = tt

pub lists_at : (c : ℕ) (b : List ℕ) → is_list c ≡ true → (r : Request) → Fits r → IsPart (0xC8 ∷ c ∷ b) (spelling r) → HasList (form_of r)
unfolding spelling
lists_at c b is r fits p = listed (form_of r) c b p.0 (kind r) is p.2

pub list_announces : (n : ℕ) (f : Form) → HasList f → Announces n f
list_announces n (form.plain c fs v) h = absurd h
list_announces n (form.counted c fs v most items) h = tt

pub none_announced : (f : Form) → Announces 0 f
none_announced (form.plain c fs v) = inl (omega arith)
none_announced (form.counted c fs v most items) = tt

exactly : (n k : ℕ) (f : Form) → Announces n f → HasSizes k f → k < n → n ≡ length (form_bytes f)
exactly n k (form.plain c fs v) (inl few) sizes more = absurd (omega (arith, few, sizes, more))
exactly n k (form.plain c fs v) (inr is) sizes more = is
exactly n k (form.counted c fs v most items) a sizes more = absurd sizes

pub spelled_exactly : (n k : ℕ) (r : Request) → Announces n (form_of r) → HasSizes k (form_of r) → k < n → n ≡ length (spelling r)
unfolding spelling
spelled_exactly n k r a sizes more = exactly n k (form_of r) a sizes more

-- ---- the sizes of a request

find_little : (es : List Entry) → AllLittle es → (c : ℕ) (e : Entry) → find es c ≡ Some e → IsLittle e
find_little [] little c e found = absurd cc
find_little (d ∷ es) little c e found = elim (chosen (nat_eq c (command_of d)) (Some d) (find es c) (Some e) found) [
  | inl h ↦ subst IsLittle (same d e h.1) little.0
  | inr h ↦ find_little es little.1 c e h.1
]
  where
    same : (a b : Entry) → ◌≡◌ {A = Option Entry} (Some a) (Some b) → a ≡ b
    same a b e = cc

picked_end : (es : List Entry) (c : ℕ) (e : Entry) (b : List ℕ) → find es c ≡ Some e → pick_end es c b ≡ entry_end e b
picked_end [] c e b found = absurd cc
picked_end (d ∷ es) c e b found = elim (chosen (nat_eq c (command_of d)) (Some d) (find es c) (Some e) found) [
  | inl h ↦ cond-true _ _ _ h.0 ∙ ap (λ (k : Entry). entry_end k b) (same d e h.1)
  | inr h ↦ cond-false _ _ _ h.0 ∙ picked_end es c e b h.1
]
  where
    same : (a b : Entry) → ◌≡◌ {A = Option Entry} (Some a) (Some b) → a ≡ b
    same a b e = cc

heads_again : {A : Type 0} (fs : List Field) (k : Heads fs → List ℕ → Front A) (h : Heads fs) (x : List ℕ) → AllSmall fs → AllFit fs h → heads_then fs k (header fs h ++ x) ≡ k h x
heads_again [] k h x small fit = refl
heads_again (f ∷ fs) k h x small fit =
    ap (heads_then (f ∷ fs) k) (append_assoc (head_bytes f h.0) (header fs h.1) x)
    ∙ ap (λ (r : Front ℕ). r >>= λ n. heads_then fs (λ ns. k (n.0, ns)) n.1) ((exact_head f small.0).again h.0 (head_bytes f h.0) (header fs h.1 ++ x) (fit.0, refl))
    ∙ heads_again fs (λ ns. k (h.0, ns)) h.1 x small.1 fit.1

header_size : (fs : List Field) (h : Heads fs) → length (header fs h) ≡ numbers_size fs
header_size [] h = refl
header_size (text most ∷ fs) h = omega (arith, header_size fs h.1, length-append (to_be_bytes w32 h.0) (header fs h.1))
header_size (word ∷ fs) h = omega (arith, header_size fs h.1, length-append (to_be_bytes w32 h.0) (header fs h.1))
header_size (long ∷ fs) h = omega (arith, header_size fs h.1, length-append (long_bytes h.0) (header fs h.1))

body_size : (fs : List Field) (v : Values fs) → length (body fs v) ≡ texts_size fs (heads fs v)
body_size [] v = refl
body_size (text most ∷ fs) v = omega (arith, body_size fs v.1, length-append v.0 (body fs v.1))
body_size (word ∷ fs) v = body_size fs v.1
body_size (long ∷ fs) v = body_size fs v.1

-- ---- what they announce

none_yet : (fs : List Field) (b : List ℕ) (r : Front ℕ) → r ≡ end_at fs b → length b < numbers_size fs → or_none r ≡ 0
none_yet fs b (Ok y) e short = absurd (omega (arith, short, (heads_stay fs (λ h rest. Ok (end_from 2 fs h, rest)) (λ h rest. Ok (end_from 2 fs h, rest)) b y (sym e)).3.inside))
none_yet fs b (Err d) e short = refl

all_there : (fs : List Field) (h : Heads fs) (b rest behind : List ℕ) → AllSmall fs → AllFit fs h → b ++ rest ≡ header fs h ++ behind → numbers_size fs ≤ length b → or_none (end_at fs b) ≡ end_from 2 fs h
all_there fs h b rest behind small fit e le = elim (parted b rest (header fs h) behind e) [
  | inl short ↦ absurd (omega (arith, le, short.1, header_size fs h, ap length short.2, length-append b short.0))
  | inr past ↦ ap (λ (l : List ℕ). or_none (end_at fs l)) past.1 ∙ ap or_none (heads_again fs (λ h rest. Ok (end_from 2 fs h, rest)) h past.0 small fit)
]

plain_announces : (c : ℕ) (fs : List Field) (v : Values fs) (b rest : List ℕ) (n : ℕ) → AllSmall fs → AllFit fs (heads fs v) → header fs (heads fs v) ++ body fs v ≡ b ++ rest → 0 < length rest → n ≡ max (or_none (end_at fs b)) (2 + length b + 1)
    → Announces n (form.plain c fs v)
plain_announces c fs v b rest n small fit e some is = elim (cases_lt (length b) (numbers_size fs)) [
  | inl short ↦ inl (omega (arith, is, short, none_yet fs b (end_at fs b) refl short))
  | inr there ↦
      let h = heads fs v in
      let size = length-append (header fs h) (body fs v) in
      let parts = ap length e ∙ length-append b rest in
      inr (omega (arith, is, some, size, parts, all_there fs h b rest (body fs v) small fit (sym e) there, ends_from fs 2 h, header_size fs h, body_size fs v))
]

announces : (f : Form) (bytes rest : List ℕ) (n : ℕ) → IsKind f → FormFits f → form_bytes f ≡ bytes ++ rest → 0 < length rest → n ≡ max (announced_at bytes) (length bytes + 1) → Announces n f
unfolding announced_at
announces (form.counted c fs v most items) bytes rest n k fits e some is = tt
announces (form.plain c fs v) [] rest n k fits e some is = inl (omega (arith, is))
announces (form.plain c fs v) (m ∷ []) rest n k fits e some is = inl (omega (arith, is))
announces (form.plain c fs v) (m ∷ d ∷ b) rest n k fits e some is =
    let first : m ≡ 0xC8 = cc in
    let same : d ≡ c = cc in
    let behind : header fs (heads fs v) ++ body fs v ≡ b ++ rest = cc in
    let told : command_end m (d ∷ b) ≡ or_none (end_at fs b) = ap (λ (x : ℕ). command_end x (d ∷ b)) first ∙ ap (λ (x : ℕ). command_end 0xC8 (x ∷ b)) same ∙ ap or_none (picked_end entries c (plain c fs k.1) b k.2) in
    plain_announces c fs v b rest n (find_little entries all_little c (plain c fs k.1) k.2) fits behind some (omega (arith, is, told))

pub announced_exactly : (r : Request) → Fits r → (bytes : List ℕ) → IsPart bytes (spelling r) → (n : ℕ) → n ≡ max (announced_at bytes) (length bytes + 1) → Announces n (form_of r)
unfolding spelling
announced_exactly r fits bytes p n is = announces (form_of r) bytes p.0 n (kind r) fits.0 p.2 p.1 is
