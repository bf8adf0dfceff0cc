-- Reading an update record is exact.
use Rattle.std.proofs.Common.{◌≡◌, ℕ, ◌+◌, ◌*◌, ◌/◌, ◌%◌, ◌≤◌, List, [], ◌∷◌, ◌++◌, take, Ok, Err, refl, sym, ap, subst, ◌∙◌, arith, inl, inr}
use Rattle.std.specs.Int.{w16, w32, to_be_bytes}
use Rattle.std.proofs.lemmas.List.{append-nil, append_assoc}
use Rattle.tc_base.specs.declared.fields.NotWhole.TheVariants.{Bad}
use Rattle.tc_base.specs.Reading.{Front, ◌>>=◌}
use Rattle.tc_base.proofs.Exact.{IsExact, Then, Tagged, Cases, exact_then, exact_done, exact_as, exact_case, exact_none, exact_tagged}
use Rattle.ty_wire.specs.Form.{Field, Heads, Values, heads, header, AllFit, head_bytes, long_bytes}
use Rattle.ty_wire.specs.Spelling.{size}
use Rattle.ty_wire.specs.Reading.{head_at as one_at, heads_then, values_at}
use Rattle.ty_wire.proofs.ExactForms.{IsForm, AllSmall, Ends, exact_head, exact_values}
use Rattle.ty_ulog.specs.declared.record.Record.{Record}
use Rattle.ty_ulog.specs.Records.{tail_bytes, record_bytes, Fits, fields, record_of, behind_tag, record_at, head_at}

four : (a b c d a' b' c' d' : ℕ) → a ≡ a' → b ≡ b' → c ≡ c' → d ≡ d' → a ∷ b ∷ c ∷ d ∷ [] ≡ a' ∷ b' ∷ c' ∷ d' ∷ []
four a b c d a' b' c' d' e f g h = λ i. e i ∷ f i ∷ g i ∷ h i ∷ []

-- the two ids, as one number of four bytes
ids_bytes : (n : ℕ) → to_be_bytes w32 n ≡ to_be_bytes w16 (n / 65536) ++ to_be_bytes w16 (n % 65536)
ids_bytes n = four _ _ _ _ _ _ _ _ (omega arith) (omega arith) (omega arith) (omega arith)

abbrev pub IsTail : Record → List ℕ → Type 0
IsTail r t = Fits r × (t ≡ tail_bytes r)

abbrev pub IsRecord : Record → List ℕ → Type 0
IsRecord r t = Fits r × (t ≡ record_bytes r)

to_tail : (v : Values fields) (t : List ℕ) → IsForm fields v t → IsTail (record_of v) t
to_tail v t h = (
  record { stamp = h.0.0; before = h.0.1.0; server = omega (arith, h.0.1.1.0); master = omega arith; request = h.0.1.1.1.0 },
  h.1 ∙ ap (λ (l : List ℕ). header fields (heads fields v) ++ l) (append-nil v.1.1.1.0)
      ∙ ap (λ (ids : List ℕ). long_bytes v.0 ++ (long_bytes v.1.0 ++ (ids ++ (size v.1.1.1.0 ++ v.1.1.1.0)))) (ids_bytes v.1.1.0),
)

abbrev values_of : Record → Values fields
values_of r = (r.stamp, (r.before, (r.server * 65536 + r.master, (r.request, tt))))

same_record : (r : Record) → Fits r → r ≡ record_of (values_of r)
same_record r f =
    let s : r.server ≡ (r.server * 65536 + r.master) / 65536 = omega (arith, f.master) in
    let m : r.master ≡ (r.server * 65536 + r.master) % 65536 = omega (arith, f.master) in
    λ i. record { stamp = r.stamp; before = r.before; server = s i; master = m i; request = r.request }

of_tail : (r : Record) (t : List ℕ) → IsTail r t → IsForm fields (values_of r) t
of_tail r t h =
    let ids : r.server * 65536 + r.master ≤ 4294967295 = omega (arith, h.0.server, h.0.master) in
    let s : r.server ≡ (r.server * 65536 + r.master) / 65536 = omega (arith, h.0.master) in
    let m : r.master ≡ (r.server * 65536 + r.master) % 65536 = omega (arith, h.0.master) in (
      (h.0.stamp, (h.0.before, (ids, (h.0.request, tt)))),
      h.1 ∙ ap (λ (n : ℕ). long_bytes r.stamp ++ (long_bytes r.before ++ (to_be_bytes w16 n ++ (to_be_bytes w16 r.master ++ (size r.request ++ r.request))))) s
          ∙ ap (λ (n : ℕ). long_bytes r.stamp ++ (long_bytes r.before ++ (to_be_bytes w16 ((r.server * 65536 + r.master) / 65536) ++ (to_be_bytes w16 n ++ (size r.request ++ r.request))))) m
          ∙ ap (λ (n : List ℕ). long_bytes r.stamp ++ (long_bytes r.before ++ (n ++ (size r.request ++ r.request)))) (sym (ids_bytes (r.server * 65536 + r.master)))
          ∙ ap (λ (l : List ℕ). header fields (heads fields (values_of r)) ++ l) (sym (append-nil r.request)),
    )

no_more : (t front back : List ℕ) → t ≡ front ++ back → back ≡ [] → t ≡ front
no_more t front back parts none = parts ∙ ap (λ (l : List ℕ). front ++ l) none ∙ append-nil front

small : AllSmall fields
small = (tt, (tt, (tt, (omega arith, tt))))

exact_tail : IsExact IsTail (λ rest. values_at fields rest >>= λ v. Ok (record_of v.0, v.1))
exact_tail =
    exact_as (Then (IsForm fields) (λ v. Ends (record_of v))) IsTail _
    (λ r t h. subst (λ (q : Record). IsTail q t) (sym h.4.0) (to_tail h.0 t (subst (IsForm fields h.0) (sym (no_more t h.1 h.2 h.5 h.4.1)) h.3)))
    (λ r t h. (values_of r, t, [], of_tail r t h, (same_record r h.0, refl), sym (append-nil t)))
    (exact_then (IsForm fields) (λ v. Ends (record_of v)) (values_at fields) (λ v rest. Ok (record_of v, rest)) (exact_values fields small) (λ v. exact_done (record_of v)) (λ v. (record_of v, [], (refl, refl))))

zeros : Record
zeros = record { stamp = 0; before = 0; server = 0; master = 0; request = [] }

zeros_fit : Fits zeros
unfolding zeros
zeros_fit = record { stamp = omega arith; before = omega arith; server = omega arith; master = omega arith; request = omega arith }

abbrev Tail : ℕ → Record → List ℕ → Type 0
Tail b = Cases b 0xC9 IsTail (λ r t. ⊥)

tagged : (r : Record) (t : List ℕ) → Tagged Tail r t → IsRecord r t
unfolding record_bytes
tagged r t h = elim h.2 [
  | inl k ↦ (k.1.0, h.3 ∙ ap (λ (b : ℕ). b ∷ h.1) k.0 ∙ ap (λ (l : List ℕ). 0xC9 ∷ l) k.1.1)
  | inr k ↦ absurd k.1
]

untagged : (r : Record) (t : List ℕ) → IsRecord r t → Tagged Tail r t
unfolding record_bytes
untagged r t h = (0xC9, tail_bytes r, inl (refl, (h.0, refl)), h.1)

pub exact_record : IsExact IsRecord record_at
unfolding record_at
exact_record =
    exact_as (Tagged Tail) IsRecord _ tagged untagged
    (exact_tagged Tail behind_tag 0xC9
    (λ b. exact_case b 0xC9 IsTail (λ r t. ⊥) (λ rest. values_at fields rest >>= λ v. Ok (record_of v.0, v.1)) (λ rest. Err Bad) exact_tail exact_none)
    (zeros, tail_bytes zeros, inl (refl, (zeros_fit, refl))))

-- ---- the head alone

heads_again : {A : Type 0} (fs : List Field) (k : Heads fs → List ℕ → Front A) (h : Heads fs) (rest : List ℕ) → AllSmall fs → AllFit fs h → heads_then fs k (header fs h ++ rest) ≡ k h rest
heads_again [] k h rest small fit = refl
heads_again {A} (f ∷ fs) k h rest small fit =
    ap (λ (l : List ℕ). one_at f l >>= λ n. heads_then fs (λ ns. k (n.0, ns)) n.1) (append_assoc (head_bytes f h.0) (header fs h.1) rest)
    ∙ rw ((exact_head f small.0).again h.0 (head_bytes f h.0) (header fs h.1 ++ rest) (fit.0, refl)) (heads_again fs (λ ns. k (h.0, ns)) h.1 rest small.1 fit.1)

pub head_is : (r : Record) (head : List ℕ) → Fits r → head ≡ take 25 (record_bytes r) → head_at head ≡ Ok (heads fields (values_of r), [])
unfolding record_bytes head_at
head_is r head f e =
    let t = of_tail r (tail_bytes r) (f, refl) in
    let parts : head ≡ 0xC9 ∷ header fields (heads fields (values_of r)) = e ∙ ap (λ (l : List ℕ). take 25 (0xC9 ∷ l)) t.1 in
    ap head_at parts ∙ heads_again fields (λ h rest. Ok (h, rest)) (heads fields (values_of r)) [] small t.0
