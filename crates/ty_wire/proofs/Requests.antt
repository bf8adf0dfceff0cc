-- Reading a request is exact.
use Rattle.std.proofs.Common.{◌≡◌, ◌⊎◌, inl, inr, ℕ, ◌+◌, ◌^◌, ◌<◌, ◌≤◌, Bool, true, false, cond, List, [], ◌∷◌, ◌++◌, length, Ok, Err, refl, sym, ap, subst, ◌∙◌, arith, length-append}
use Rattle.std.specs.Prelude.{Option, Some, None, nat_eq, FitsSigned}
use Rattle.std.specs.Int.{w32, to_be_bytes, cast_signed, cast_unsigned}
use Rattle.std.proofs.lemmas.Bool.{cases_eq, ne_eqb}
use Rattle.std.proofs.lemmas.List.{append-nil}
use Rattle.std.proofs.Common.{eq-eqb}
use Rattle.std.proofs.lemmas.Int.{of_z-to_z, to_z-of_z}
use Rattle.std.proofs.Math.Facts.{sfits_to_z}
use Rattle.tc_base.specs.declared.request.Request.{Request}
use Rattle.tc_base.specs.declared.request.Request.TheVariants.{Put, PutKeep, PutCat, PutShl, PutNr, Out, Get, MGet, Vsiz, IterInit, IterNext, FwmKeys, AddInt, AddDouble, Ext, Sync, Optimize, Vanish, Copy, Restore, SetMst, Rnum, Size, Stat, Misc, Repl}
use Rattle.tc_base.specs.declared.fields.NotWhole.TheVariants.{Bad}
use Rattle.tc_base.specs.Reading.{Front, ◌>>=◌}
use Rattle.tc_base.proofs.Exact.{IsExact, Then, Tagged, Cases, exact_then, exact_done, exact_as, exact_case, exact_none, exact_tagged}
use Rattle.ty_wire.specs.Form.{Field, text, word, long, Heads, Values, heads, header, AllFit, body, items_bytes, AllShort, head_bytes, long_bytes, Form, form_bytes, FormFits}
use Rattle.ty_wire.specs.Form as form
use Rattle.ty_wire.specs.Spelling.{form as form_of, spelling, Fits, InRange, key_text}
use Rattle.ty_wire.specs.Reading.{taken_by, room, Entry, plain, counted, command_of, read_by, values_at, counted_at, entries, pick, fields_at, command_at, request_at}
use Rattle.ty_wire.proofs.ExactForms.{Ends, AllSmall, IsForm, exact_values, Lot, IsCounted, exact_counted}

-- ---- one entry of the table

abbrev pub Of : Entry → Request → List ℕ → Type 0
Of (plain c fs build) r t = (v : Values fs) × (r ≡ build v) × IsForm fs v t
Of (counted c fs most build) r t = (l : Lot fs) × (r ≡ build l.0 l.1) × IsCounted fs most l t

abbrev pub IsLittle : Entry → Type 0
IsLittle (plain c fs build) = AllSmall fs
IsLittle (counted c fs most build) = AllSmall fs × (most < 2 ^ 32)

exact_map : {A B : Type 0} (S : A → List ℕ → Type 0) (f : A → B) (p : List ℕ → Front A) → IsExact S p → IsExact (Then S (λ x. Ends (f x))) (λ bytes. p bytes >>= λ x. Ok (f x.0, x.1))
exact_map S f p h = exact_then S (λ x. Ends (f x)) p (λ x rest. Ok (f x, rest)) h (λ x. exact_done (f x)) (λ x. (f x, [], (refl, refl)))

no_more : (t front back : List ℕ) → t ≡ front ++ back → back ≡ [] → t ≡ front
no_more t front back parts none = parts ∙ ap (λ (l : List ℕ). front ++ l) none ∙ append-nil front

exact_entry : (e : Entry) → IsLittle e → IsExact (Of e) (read_by e)
exact_entry (plain c fs build) little =
    exact_as (Then (IsForm fs) (λ v. Ends (build v))) (Of (plain c fs build)) _
    (λ r t h. (h.0, h.4.0, subst (IsForm fs h.0) (sym (no_more t h.1 h.2 h.5 h.4.1)) h.3))
    (λ r t h. (h.0, t, [], h.2, (h.1, refl), sym (append-nil t)))
    (exact_map (IsForm fs) build (values_at fs) (exact_values fs little))
exact_entry (counted c fs most build) little =
    exact_as (Then (IsCounted fs most) (λ l. Ends (build l.0 l.1))) (Of (counted c fs most build)) _
    (λ r t h. (h.0, h.4.0, subst (IsCounted fs most h.0) (sym (no_more t h.1 h.2 h.5 h.4.1)) h.3))
    (λ r t h. (h.0, t, [], h.2, (h.1, refl), sym (append-nil t)))
    (exact_map (IsCounted fs most) (λ l. build l.0 l.1) (counted_at fs most) (exact_counted fs most little.0 little.1))

-- ---- the table

abbrev pub Picked : List Entry → ℕ → Request → List ℕ → Type 0
Picked [] c r t = ⊥
Picked (e ∷ es) c r t = Cases c (command_of e) (Of e) (Picked es c) r t

abbrev pub AllLittle : List Entry → Type 0
AllLittle [] = Unit {0}
AllLittle (e ∷ es) = IsLittle e × AllLittle es

exact_pick : (es : List Entry) → AllLittle es → (c : ℕ) → IsExact (Picked es c) (pick es c)
exact_pick [] little c = exact_none
exact_pick (e ∷ es) little c = exact_case c (command_of e) (Of e) (Picked es c) (read_by e) (pick es c) (exact_entry e little.0) (exact_pick es little.1 c)

key_small : 1048576 < 2 ^ 32
key_small = omega arith

value_small : 16777216 < 2 ^ 32
value_small = omega arith

pub all_little : AllLittle entries
all_little = (
  (key_small, (value_small, tt)),
  (
    (key_small, (value_small, tt)),
    (
      (key_small, (value_small, tt)),
      (
        (key_small, (value_small, (tt, tt))),
        (
          (key_small, (value_small, tt)),
          (
            (key_small, tt),
            (
              (key_small, tt),
              (
                (tt, key_small),
                (
                  (key_small, tt),
                  (
                    (key_small, tt),
                    (
                      (key_small, tt),
                      (
                        tt,
                        (
                          tt,
                          (
                            tt,
                            (
                              tt,
                              (
                                tt,
                                (
                                  tt,
                                  (
                                    tt,
                                    (
                                      (key_small, (tt, tt)),
                                      (
                                        (key_small, (tt, tt)),
                                        (
                                          (key_small, (tt, (tt, tt))),
                                          (
                                            (key_small, (tt, (key_small, (value_small, tt)))),
                                            ((key_small, (tt, (tt, tt))), ((key_small, (tt, (tt, (tt, tt)))), (((key_small, (tt, tt)), value_small), ((tt, (tt, tt)), tt)))),
                                          ),
                                        ),
                                      ),
                                    ),
                                  ),
                                ),
                              ),
                            ),
                          ),
                        ),
                      ),
                    ),
                  ),
                ),
              ),
            ),
          ),
        ),
      ),
    ),
  ),
)

-- ---- from the table to the spelling

abbrev Spelled : ℕ → Request → List ℕ → Type 0
Spelled c r t = Fits r × (spelling r ≡ 0xC8 ∷ c ∷ t)

-- what an entry builds has the entry's form
abbrev pub Sound : Entry → Type 0
Sound (plain c fs build) = (v : Values fs) → AllFit fs (heads fs v) → (form_of (build v) ≡ form.plain c fs v) × InRange (build v)
Sound (counted c fs most build) = ((l : Lot fs) → (form_of (build l.0 l.1) ≡ form.counted c fs l.0 most l.1) × InRange (build l.0 l.1)) × ((h : Heads fs) → AllFit fs h → taken_by fs h ≤ 33554426)

abbrev pub AllSound : List Entry → Type 0
AllSound [] = Unit {0}
AllSound (e ∷ es) = Sound e × AllSound es

fields_length : (fs : List Field) (v : Values fs) → length (header fs (heads fs v)) + length (body fs v) ≡ taken_by fs (heads fs v)
fields_length [] v = refl
fields_length (text most ∷ fs) v = omega (arith, fields_length fs v.1, length-append (to_be_bytes w32 (length v.0)) (header fs (heads fs v.1)), length-append v.0 (body fs v.1))
fields_length (word ∷ fs) v = omega (arith, fields_length fs v.1, length-append (to_be_bytes w32 v.0) (header fs (heads fs v.1)))
fields_length (long ∷ fs) v = omega (arith, fields_length fs v.1, length-append (long_bytes v.0) (header fs (heads fs v.1)))

whole_length : (c : ℕ) (fs : List Field) (most : ℕ) (l : Lot fs) → length (form_bytes (form.counted c fs l.0 most l.1)) ≡ 6 + taken_by fs (heads fs l.0) + length (items_bytes l.1)
whole_length c fs most l =
    let behind = body fs l.0 ++ items_bytes l.1 in
    omega (arith, fields_length fs l.0, length-append (header fs (heads fs l.0)) (to_be_bytes w32 (length l.1) ++ behind), length-append (to_be_bytes w32 (length l.1)) behind, length-append (body fs l.0) (items_bytes l.1))

entry_to : (e : Entry) → Sound e → (r : Request) (t : List ℕ) → Of e r t → Spelled (command_of e) r t
unfolding spelling
entry_to (plain c fs build) sound r t h =
    let s = sound h.0 h.2.0 in
    subst (λ (q : Request). Spelled c q t) (sym h.1)
    ((subst FormFits (sym s.0) h.2.0, s.1), ap form_bytes s.0 ∙ ap (λ (l : List ℕ). 0xC8 ∷ c ∷ l) (sym h.2.1))
entry_to (counted c fs most build) sound r t h =
    let l = h.0 in
    let s = sound.0 l in
    let fits : length (form_bytes (form.counted c fs l.0 most l.1)) ≤ 33554432 = omega (arith, whole_length c fs most l, h.2.2, sound.1 (heads fs l.0) h.2.0) in
    subst (λ (q : Request). Spelled c q t) (sym h.1)
    ((subst FormFits (sym s.0) (h.2.0, h.2.1, fits), s.1), ap form_bytes s.0 ∙ ap (λ (z : List ℕ). 0xC8 ∷ c ∷ z) (sym h.2.3))

picked_to : (es : List Entry) → AllSound es → (c : ℕ) (r : Request) (t : List ℕ) → Picked es c r t → Spelled c r t
picked_to [] sound c r t h = absurd h
picked_to (e ∷ es) sound c r t (inl h) = subst (λ (k : ℕ). Spelled k r t) (sym h.0) (entry_to e sound.0 r t h.1)
picked_to (e ∷ es) sound c r t (inr h) = picked_to es sound.1 c r t h.1

signed_form : (v : Values (key_text ∷ word ∷ [])) → v.1.0 ≤ 4294967295 → (form_of (FwmKeys v.0 (cast_signed w32 v.1.0)) ≡ form.plain 0x58 (key_text ∷ word ∷ []) v) × FitsSigned w32 (cast_signed w32 v.1.0)
signed_form v fits =
    (ap (λ (n : ℕ). form.plain 0x58 (key_text ∷ word ∷ []) (v.0, (n, tt))) (of_z-to_z w32 v.1.0 (omega (arith, fits))), sfits_to_z {w = w32} (omega (arith, fits)))

all_sound : AllSound entries
all_sound = (
  λ v f. (refl, tt),
  (
    λ v f. (refl, tt),
    (
      λ v f. (refl, tt),
      (
        λ v f. (refl, tt),
        (
          λ v f. (refl, tt),
          (
            λ v f. (refl, tt),
            (
              λ v f. (refl, tt),
              (
                (λ l. (refl, tt), λ h f. omega arith),
                (
                  λ v f. (refl, tt),
                  (
                    λ v f. (refl, tt),
                    (
                      λ v f. (refl, tt),
                      (
                        λ v f. (refl, tt),
                        (
                          λ v f. (refl, tt),
                          (
                            λ v f. (refl, tt),
                            (
                              λ v f. (refl, tt),
                              (
                                λ v f. (refl, tt),
                                (
                                  λ v f. (refl, tt),
                                  (
                                    λ v f. (refl, tt),
                                    (
                                      λ v f. signed_form v f.1.0,
                                      (
                                        λ v f. (refl, tt),
                                        (
                                          λ v f. (refl, tt),
                                          (
                                            λ v f. (refl, tt),
                                            (λ v f. (refl, tt), (λ v f. (refl, tt), ((λ l. (refl, tt), λ h f. omega (arith, f.0)), (λ v f. (refl, tt), tt)))),
                                          ),
                                        ),
                                      ),
                                    ),
                                  ),
                                ),
                              ),
                            ),
                          ),
                        ),
                      ),
                    ),
                  ),
                ),
              ),
            ),
          ),
        ),
      ),
    ),
  ),
)

-- ---- from the spelling to the table

abbrev pub find : List Entry → ℕ → Option Entry
find [] c = None
find (e ∷ es) c = cond (nat_eq c (command_of e)) (Some e) (find es c)

test_of : (b : Bool) (x y : Option Entry) (e : Entry) → cond b (Some e) y ≡ x → (b ≡ true) ⊎ (b ≡ false)
test_of true x y e h = inl refl
test_of false x y e h = inr refl

same_some : (a b : Entry) → ◌≡◌ {A = Option Entry} (Some a) (Some b) → a ≡ b
same_some a b e = cc

picked_at : (es : List Entry) (c : ℕ) (e : Entry) (r : Request) (t : List ℕ) → find es c ≡ Some e → Of e r t → Picked es c r t
picked_at [] c e r t found h = absurd cc
picked_at (d ∷ es) c e r t found h = elim (cases_eq c (command_of d)) [
  | inl is ↦
      let here : cond (nat_eq c (command_of d)) (Some d) (find es c) ≡ Some d = ap (λ (b : Bool). cond b (Some d) (find es c)) (eq-eqb c (command_of d) is) in
      inl (is, subst (λ (k : Entry). Of k r t) (sym (same_some d e (sym here ∙ found))) h)
  | inr other ↦
      let there : cond (nat_eq c (command_of d)) (Some d) (find es c) ≡ find es c = ap (λ (b : Bool). cond b (Some d) (find es c)) (ne_eqb c (command_of d) other) in
      inr (other, picked_at es c e r t (sym there ∙ found) h)
]

pub heads_same : (c d : ℕ) (x y : List ℕ) → 0xC8 ∷ c ∷ x ≡ 0xC8 ∷ d ∷ y → (c ≡ d) × (x ≡ y)
heads_same c d x y e = (cc, cc)

from_plain : (c : ℕ) (fs : List Field) (build : Values fs → Request) (v : Values fs) (r : Request) → find entries c ≡ Some (plain c fs build) → r ≡ build v → form_of r ≡ form.plain c fs v → Fits r
    → (d : ℕ) (t : List ℕ) → spelling r ≡ 0xC8 ∷ d ∷ t → Picked entries d r t
unfolding spelling
from_plain c fs build v r found is has fits d t e =
    let whole : 0xC8 ∷ c ∷ (header fs (heads fs v) ++ body fs v) ≡ 0xC8 ∷ d ∷ t = sym (ap form_bytes has) ∙ e in
    let s = heads_same c d _ t whole in
    subst (λ (k : ℕ). Picked entries k r t) s.0 (picked_at entries c (plain c fs build) r t found (v, is, (subst FormFits has fits.0, sym s.1)))

from_counted : (c : ℕ) (fs : List Field) (most : ℕ) (build : Values fs → List (List ℕ) → Request) (l : Lot fs) (r : Request) → find entries c ≡ Some (counted c fs most build) → r ≡ build l.0 l.1 → form_of r ≡ form.counted c fs l.0 most l.1 → Fits r
    → (d : ℕ) (t : List ℕ) → spelling r ≡ 0xC8 ∷ d ∷ t → Picked entries d r t
unfolding spelling
from_counted c fs most build l r found is has fits d t e =
    let whole : 0xC8 ∷ c ∷ (header fs (heads fs l.0) ++ (to_be_bytes w32 (length l.1) ++ (body fs l.0 ++ items_bytes l.1))) ≡ 0xC8 ∷ d ∷ t = sym (ap form_bytes has) ∙ e in
    let s = heads_same c d _ t whole in
    let f = subst FormFits has fits.0 in
    let left : length (items_bytes l.1) ≤ room fs (heads fs l.0) = omega (arith, whole_length c fs most l, f.2) in
    subst (λ (k : ℕ). Picked entries k r t) s.0 (picked_at entries c (counted c fs most build) r t found (l, is, (f.0, f.1, left, sym s.1)))

picked_back : (r : Request) → Fits r → (d : ℕ) (t : List ℕ) → spelling r ≡ 0xC8 ∷ d ∷ t → Picked entries d r t
picked_back (Put key value) fits d t e = from_plain 0x10 _ _ (key, (value, tt)) (Put key value) refl refl refl fits d t e
picked_back (PutKeep key value) fits d t e = from_plain 0x11 _ _ (key, (value, tt)) (PutKeep key value) refl refl refl fits d t e
picked_back (PutCat key value) fits d t e = from_plain 0x12 _ _ (key, (value, tt)) (PutCat key value) refl refl refl fits d t e
picked_back (PutShl key value width) fits d t e = from_plain 0x13 _ _ (key, (value, (width, tt))) (PutShl key value width) refl refl refl fits d t e
picked_back (PutNr key value) fits d t e = from_plain 0x18 _ _ (key, (value, tt)) (PutNr key value) refl refl refl fits d t e
picked_back (Out key) fits d t e = from_plain 0x20 _ _ (key, tt) (Out key) refl refl refl fits d t e
picked_back (Get key) fits d t e = from_plain 0x30 _ _ (key, tt) (Get key) refl refl refl fits d t e
picked_back (Vsiz key) fits d t e = from_plain 0x38 _ _ (key, tt) (Vsiz key) refl refl refl fits d t e
picked_back IterInit fits d t e = from_plain 0x50 _ _ tt IterInit refl refl refl fits d t e
picked_back IterNext fits d t e = from_plain 0x51 _ _ tt IterNext refl refl refl fits d t e
picked_back (AddInt key number) fits d t e = from_plain 0x60 _ _ (key, (number, tt)) (AddInt key number) refl refl refl fits d t e
picked_back (AddDouble key integer fraction) fits d t e = from_plain 0x61 _ _ (key, (integer, (fraction, tt))) (AddDouble key integer fraction) refl refl refl fits d t e
picked_back (Ext name options key value) fits d t e = from_plain 0x68 _ _ (name, (options, (key, (value, tt)))) (Ext name options key value) refl refl refl fits d t e
picked_back Sync fits d t e = from_plain 0x70 _ _ tt Sync refl refl refl fits d t e
picked_back (Optimize text') fits d t e = from_plain 0x71 _ _ (text', tt) (Optimize text') refl refl refl fits d t e
picked_back Vanish fits d t e = from_plain 0x72 _ _ tt Vanish refl refl refl fits d t e
picked_back (Copy path) fits d t e = from_plain 0x73 _ _ (path, tt) (Copy path) refl refl refl fits d t e
picked_back (Restore path timestamp options) fits d t e = from_plain 0x74 _ _ (path, (timestamp, (options, tt))) (Restore path timestamp options) refl refl refl fits d t e
picked_back (SetMst host port timestamp options) fits d t e = from_plain 0x78 _ _ (host, (port, (timestamp, (options, tt)))) (SetMst host port timestamp options) refl refl refl fits d t e
picked_back Rnum fits d t e = from_plain 0x80 _ _ tt Rnum refl refl refl fits d t e
picked_back Size fits d t e = from_plain 0x81 _ _ tt Size refl refl refl fits d t e
picked_back Stat fits d t e = from_plain 0x88 _ _ tt Stat refl refl refl fits d t e
picked_back (Repl timestamp server) fits d t e = from_plain 0xA0 _ _ (timestamp, (server, tt)) (Repl timestamp server) refl refl refl fits d t e
picked_back (MGet keys) fits d t e = from_counted 0x31 _ _ _ (tt, keys) (MGet keys) refl refl refl fits d t e
picked_back (Misc name options args) fits d t e = from_counted 0x90 _ _ _ ((name, (options, tt)), args) (Misc name options args) refl refl refl fits d t e
picked_back (FwmKeys prefix maximum) fits d t e = from_plain 0x58 _ _ (prefix, (cast_unsigned w32 maximum, tt)) (FwmKeys prefix maximum) refl (ap (FwmKeys prefix) (sym (to_z-of_z w32 maximum fits.1))) refl fits d t e

-- ---- a request

abbrev pub Spells : Request → List ℕ → Type 0
Spells r t = Fits r × (t ≡ spelling r)

abbrev Nothing : Request → List ℕ → Type 0
Nothing r t = ⊥

abbrev Command : ℕ → Request → List ℕ → Type 0
Command magic = Cases magic 0xC8 (Tagged (Picked entries)) Nothing

command_to : (magic : ℕ) (r : Request) (t back : List ℕ) → Command magic r back → t ≡ magic ∷ back → Spells r t
command_to magic r t back (inl m) e =
    let c = m.1 in
    let s = picked_to entries all_sound c.0 r c.1 c.2 in
    (s.0, e ∙ ap (λ (n : ℕ). n ∷ back) m.0 ∙ ap (λ (l : List ℕ). 0xC8 ∷ l) c.3 ∙ sym s.1)
command_to magic r t back (inr nothing) e = absurd nothing.1

spells_to : (r : Request) (t : List ℕ) → Tagged Command r t → Spells r t
spells_to r t h = command_to h.0 r t h.1 h.2 h.3

-- each spelling begins so
begins : (r : Request) → (c : ℕ) × (t : List ℕ) × (spelling r ≡ 0xC8 ∷ c ∷ t)
unfolding spelling
begins r = form_begins (form_of r)
  where
    form_begins : (f : Form) → (c : ℕ) × (t : List ℕ) × (form_bytes f ≡ 0xC8 ∷ c ∷ t)
    form_begins (form.plain c fs v) = (c, _, refl)
    form_begins (form.counted c fs v most items) = (c, _, refl)

spells_back : (r : Request) (t : List ℕ) → Spells r t → Tagged Command r t
spells_back r t h =
    let b = begins r in
    (0xC8, b.0 ∷ b.1, inl (refl, (b.0, b.1, picked_back r h.0 b.0 b.1 b.2, refl)), h.1 ∙ b.2)

exact_fields : (c : ℕ) → IsExact (Picked entries c) (fields_at c)
unfolding fields_at
exact_fields c = exact_pick entries all_little c

some_picked : (r : Request) × (t : List ℕ) × Picked entries 0x50 r t
some_picked = (IterInit, [], picked_at entries 0x50 (plain 0x50 [] (λ v. IterInit)) IterInit [] refl (tt, refl, (tt, refl)))

exact_command : (magic : ℕ) → IsExact (Command magic) (command_at magic)
exact_command magic = exact_case magic 0xC8 (Tagged (Picked entries)) Nothing _ (λ rest. Err Bad) (exact_tagged (Picked entries) fields_at 0x50 exact_fields some_picked) exact_none

pub exact_request : IsExact Spells request_at
unfolding request_at
exact_request = exact_as (Tagged Command) Spells _ spells_to spells_back (exact_tagged Command command_at 0xC8 exact_command (some_picked.0, 0x50 ∷ some_picked.1, inl (refl, (0x50, some_picked.1, some_picked.2, refl))))
