-- Fields, and texts with a count, are read exactly.
use Rattle.std.proofs.Common.{◌≡◌, inl, inr, ℕ, zero, suc, ◌+◌, ◌-◌, ◌*◌, ◌/◌, ◌%◌, ◌^◌, ◌<◌, ◌≤◌, min, List, [], ◌∷◌, ◌++◌, length, replicate, Ok, refl, sym, ap, subst, ◌∙◌, append_assoc, arith, length-append}
use Rattle.std.specs.Int.{w32, to_be_bytes}
use Rattle.std.proofs.lemmas.List.{append-nil, length-replicate, nil_from_length}
use Rattle.tc_base.specs.declared.fields.NotWhole.TheVariants.{Part}
use Rattle.tc_base.specs.Reading.{Front, ◌>>=◌, size_at, bytes_at}
use Rattle.tc_base.proofs.Exact.{IsBytes, IsBytes-rest, IsExact, Then, bind_ok, bind_err, parted, exact_then, exact_done, exact_as}
use Rattle.tc_base.proofs.ExactFields.{IsSize, exact_size, exact_bytes}
use Rattle.ty_wire.specs.Form.{Field, text, word, long, Heads, Values, heads, long_bytes, head_bytes, HeadFits, header, AllFit, body, items_bytes, AllShort}
use Rattle.ty_wire.proofs.ItemLemmas.{count_short}
use Rattle.ty_wire.specs.Reading.{long_at, head_at, heads_then, body_then, values_at, room, items_at, counted_at}

abbrev IsText : ℕ → List ℕ → List ℕ → Type 0
IsText n xs t = (length xs ≡ n) × (t ≡ xs)

abbrev pub Ends : {A : Type 0} → A → A → List ℕ → Type 0
Ends r z t = (z ≡ r) × (t ≡ [])

-- ---- numbers

abbrev pub IsLong : ℕ → List ℕ → Type 0
IsLong n t = (n < 18446744073709551616) × (t ≡ long_bytes n)

upper : (a b : ℕ) → b ≤ 4294967295 → (a * 4294967296 + b) / 4294967296 ≡ a
upper a b le = omega arith

lower : (a b : ℕ) → b ≤ 4294967295 → (a * 4294967296 + b) % 4294967296 ≡ b
lower a b le = omega arith

halves : (n : ℕ) → n / 4294967296 * 4294967296 + n % 4294967296 ≡ n
halves n = omega arith

exact_long : IsExact IsLong long_at
exact_long =
    exact_as (Then (IsSize 4294967295) (λ hi. Then (IsSize 4294967295) (λ lo. Ends (hi * 4294967296 + lo)))) IsLong _
    (λ n t h.
    let hi = h.0 in
    let back = h.4 in
    let lo = back.0 in
    let is : n ≡ hi * 4294967296 + lo = back.4.0 in
    let last : back.2 ≡ [] = back.4.1 in
    let a : to_be_bytes w32 hi ≡ to_be_bytes w32 (n / 4294967296) = ap (to_be_bytes w32) (sym (ap (λ (k : ℕ). k / 4294967296) is ∙ upper hi lo back.3.0)) in
    let b : to_be_bytes w32 lo ≡ to_be_bytes w32 (n % 4294967296) = ap (to_be_bytes w32) (sym (ap (λ (k : ℕ). k % 4294967296) is ∙ lower hi lo back.3.0)) in
    let tail : h.2 ≡ to_be_bytes w32 (n % 4294967296) = back.5 ∙ ap (λ (l : List ℕ). back.1 ++ l) last ∙ append-nil back.1 ∙ back.3.1 ∙ b in
    (omega (arith, is, h.3.0, back.3.0), h.5 ∙ ap (λ (l : List ℕ). l ++ h.2) (h.3.1 ∙ a) ∙ ap (λ (l : List ℕ). to_be_bytes w32 (n / 4294967296) ++ l) tail))
    (λ n t h.
    let hi = n / 4294967296 in
    let lo = n % 4294967296 in
    (hi, to_be_bytes w32 hi, to_be_bytes w32 lo, (omega (arith, h.0), refl), (lo, to_be_bytes w32 lo, [], (omega arith, refl), (sym (halves n), refl), sym (append-nil (to_be_bytes w32 lo))), h.1))
    (exact_then (IsSize 4294967295) (λ hi. Then (IsSize 4294967295) (λ lo. Ends (hi * 4294967296 + lo))) (size_at 4294967295) (λ hi rest. size_at 4294967295 rest >>= λ lo. Ok (hi * 4294967296 + lo.0, lo.1)) (exact_size 4294967295 (omega arith))
    (λ hi. exact_then (IsSize 4294967295) (λ lo. Ends (hi * 4294967296 + lo)) (size_at 4294967295) (λ lo rest. Ok (hi * 4294967296 + lo, rest)) (exact_size 4294967295 (omega arith)) (λ lo. exact_done (hi * 4294967296 + lo)) (λ lo. (hi * 4294967296 + lo, [], (refl, refl))))
    (λ hi. (hi * 4294967296 + 0, to_be_bytes w32 0 ++ [], (0, to_be_bytes w32 0, [], (omega arith, refl), (refl, refl), refl))))

abbrev pub IsHead : Field → ℕ → List ℕ → Type 0
IsHead f n t = HeadFits f n × (t ≡ head_bytes f n)

-- a field whose limit fits four bytes
abbrev pub IsSmall : Field → Type 0
IsSmall (text most) = most < 2 ^ 32
IsSmall word = Unit {0}
IsSmall long = Unit {0}

abbrev pub AllSmall : List Field → Type 0
AllSmall [] = Unit {0}
AllSmall (f ∷ fs) = IsSmall f × AllSmall fs

pub exact_head : (f : Field) → IsSmall f → IsExact (IsHead f) (head_at f)
exact_head (text most) small = exact_size most small
exact_head word small = exact_size 4294967295 (omega arith)
exact_head long small = exact_long

some_head : (f : Field) → (n : ℕ) × (t : List ℕ) × IsHead f n t
some_head (text most) = (0, to_be_bytes w32 0, (omega arith, refl))
some_head word = (0, to_be_bytes w32 0, (omega arith, refl))
some_head long = (0, long_bytes 0, (omega arith, refl))

-- ---- numbers and sizes, and what follows them

abbrev pub Headed : {A : Type 0} → (fs : List Field) → (Heads fs → A → List ℕ → Type 0) → A → List ℕ → Type 0
Headed fs S y t = (h : Heads fs) × (back : List ℕ) × AllFit fs h × S h y back × (t ≡ header fs h ++ back)

some_headed : {A : Type 0} (fs : List Field) (S : Heads fs → A → List ℕ → Type 0) → ((h : Heads fs) → (y : A) × (t : List ℕ) × S h y t) → (y : A) × (t : List ℕ) × Headed fs S y t
some_headed [] S some = let s = some tt in (s.0, s.1, (tt, s.1, tt, s.2, refl))
some_headed (f ∷ fs) S some =
    let n = some_head f in
    let s = some_headed fs (λ ns. S (n.0, ns)) (λ ns. some (n.0, ns)) in
    let d = s.2 in
    (s.0, (head_bytes f n.0 ++ header fs d.0) ++ d.1, ((n.0, d.0), d.1, (n.2.0, d.2), d.3, refl))

pub exact_heads : {A : Type 0} (fs : List Field) (S : Heads fs → A → List ℕ → Type 0) (k : Heads fs → List ℕ → Front A) → AllSmall fs → ((h : Heads fs) → IsExact (S h) (k h)) → ((h : Heads fs) → (y : A) × (t : List ℕ) × S h y t) → IsExact (Headed fs S) (heads_then fs k)
exact_heads [] S k small each some =
    exact_as (S tt) (Headed [] S) _ (λ y t s. (tt, t, tt, s, refl)) (λ y t h. subst (S tt y) (sym h.4) h.3) (each tt)
exact_heads {A} (f ∷ fs) S k small each some =
    exact_as (Then (IsHead f) (λ n. Headed fs (λ ns. S (n, ns)))) (Headed (f ∷ fs) S) _
    (λ y t h.
    let d = h.4 in
    ((h.0, d.0), d.1, (h.3.0, d.2), d.3, h.5 ∙ ap (λ (l : List ℕ). l ++ h.2) h.3.1 ∙ ap (λ (l : List ℕ). head_bytes f h.0 ++ l) d.4 ∙ sym (append_assoc (head_bytes f h.0) (header fs d.0) d.1)))
    (λ y t h.
    (h.0.0, head_bytes f h.0.0, header fs h.0.1 ++ h.1, (h.2.0, refl), (h.0.1, h.1, h.2.1, h.3, refl), h.4 ∙ append_assoc (head_bytes f h.0.0) (header fs h.0.1) h.1))
    (exact_then (IsHead f) (λ n. Headed fs (λ ns. S (n, ns))) (head_at f) (λ n. heads_then fs (λ ns. k (n, ns))) (exact_head f small.0)
    (λ n. exact_heads fs (λ ns. S (n, ns)) (λ ns. k (n, ns)) small.1 (λ ns. each (n, ns)) (λ ns. some (n, ns)))
    (λ n. some_headed fs (λ ns. S (n, ns)) (λ ns. some (n, ns))))

-- ---- the texts that they announce, and what follows them

abbrev pub Bodied : {A : Type 0} → (fs : List Field) → Heads fs → (Values fs → A → List ℕ → Type 0) → A → List ℕ → Type 0
Bodied fs h S y t = (v : Values fs) × (back : List ℕ) × (heads fs v ≡ h) × S v y back × (t ≡ body fs v ++ back)

some_bodied : {A : Type 0} (fs : List Field) (h : Heads fs) (S : Values fs → A → List ℕ → Type 0) → ((v : Values fs) → (y : A) × (t : List ℕ) × S v y t) → (y : A) × (t : List ℕ) × Bodied fs h S y t
some_bodied [] h S some = let s = some tt in (s.0, s.1, (tt, s.1, refl, s.2, refl))
some_bodied (text most ∷ fs) h S some =
    let x : List ℕ = replicate h.0 0 in
    let len : length x ≡ h.0 = length-replicate {A = ℕ} h.0 0 in
    let s = some_bodied fs h.1 (λ v. S (x, v)) (λ v. some (x, v)) in
    let d = s.2 in
    (s.0, (x ++ body fs d.0) ++ d.1, ((x, d.0), d.1, (λ i. (len i, d.2 i)), d.3, refl))
some_bodied (word ∷ fs) h S some =
    let s = some_bodied fs h.1 (λ v. S (h.0, v)) (λ v. some (h.0, v)) in
    let d = s.2 in
    (s.0, s.1, ((h.0, d.0), d.1, (λ i. (h.0, d.2 i)), d.3, d.4))
some_bodied (long ∷ fs) h S some =
    let s = some_bodied fs h.1 (λ v. S (h.0, v)) (λ v. some (h.0, v)) in
    let d = s.2 in
    (s.0, s.1, ((h.0, d.0), d.1, (λ i. (h.0, d.2 i)), d.3, d.4))

pub exact_body : {A : Type 0} (fs : List Field) (h : Heads fs) (S : Values fs → A → List ℕ → Type 0) (k : Values fs → List ℕ → Front A) → ((v : Values fs) → IsExact (S v) (k v)) → ((v : Values fs) → (y : A) × (t : List ℕ) × S v y t) → IsExact (Bodied fs h S) (body_then fs h k)
exact_body [] h S k each some =
    exact_as (S tt) (Bodied [] h S) _ (λ y t s. (tt, t, refl, s, refl)) (λ y t b. subst (S tt y) (sym b.4) b.3) (each tt)
exact_body {A} (text most ∷ fs) h S k each some =
    exact_as (Then (IsText h.0) (λ x. Bodied fs h.1 (λ v. S (x, v)))) (Bodied (text most ∷ fs) h S) _
    (λ y t b.
    let d = b.4 in
    let x = b.0 in
    ((x, d.0), d.1, (λ i. (b.3.0 i, d.2 i)), d.3, b.5 ∙ ap (λ (l : List ℕ). l ++ b.2) b.3.1 ∙ ap (λ (l : List ℕ). x ++ l) d.4 ∙ sym (append_assoc x (body fs d.0) d.1)))
    (λ y t b.
    (b.0.0, b.0.0, body fs b.0.1 ++ b.1, ((λ i. (b.2 i).0), refl), (b.0.1, b.1, (λ i. (b.2 i).1), b.3, refl), b.4 ∙ append_assoc b.0.0 (body fs b.0.1) b.1))
    (exact_then (IsText h.0) (λ x. Bodied fs h.1 (λ v. S (x, v))) (bytes_at h.0) (λ x. body_then fs h.1 (λ v. k (x, v))) (exact_bytes h.0)
    (λ x. exact_body fs h.1 (λ v. S (x, v)) (λ v. k (x, v)) (λ v. each (x, v)) (λ v. some (x, v)))
    (λ x. some_bodied fs h.1 (λ v. S (x, v)) (λ v. some (x, v))))
exact_body {A} (word ∷ fs) h S k each some =
    exact_as (Bodied fs h.1 (λ v. S (h.0, v))) (Bodied (word ∷ fs) h S) _
    (λ y t b. ((h.0, b.0), b.1, (λ i. (h.0, b.2 i)), b.3, b.4))
    (λ y t b. (b.0.1, b.1, (λ i. (b.2 i).1), subst (λ (n : ℕ). S (n, b.0.1) y b.1) (λ i. (b.2 i).0) b.3, b.4))
    (exact_body fs h.1 (λ v. S (h.0, v)) (λ v. k (h.0, v)) (λ v. each (h.0, v)) (λ v. some (h.0, v)))
exact_body {A} (long ∷ fs) h S k each some =
    exact_as (Bodied fs h.1 (λ v. S (h.0, v))) (Bodied (long ∷ fs) h S) _
    (λ y t b. ((h.0, b.0), b.1, (λ i. (h.0, b.2 i)), b.3, b.4))
    (λ y t b. (b.0.1, b.1, (λ i. (b.2 i).1), subst (λ (n : ℕ). S (n, b.0.1) y b.1) (λ i. (b.2 i).0) b.3, b.4))
    (exact_body fs h.1 (λ v. S (h.0, v)) (λ v. k (h.0, v)) (λ v. each (h.0, v)) (λ v. some (h.0, v)))

-- ---- fields alone

abbrev pub IsForm : (fs : List Field) → Values fs → List ℕ → Type 0
IsForm fs v t = AllFit fs (heads fs v) × (t ≡ header fs (heads fs v) ++ body fs v)

pub exact_values : (fs : List Field) → AllSmall fs → IsExact (IsForm fs) (values_at fs)
exact_values fs small =
    exact_as (Headed fs (λ h. Bodied fs h (λ v. Ends v))) (IsForm fs) _
    (λ v t d.
    let b = d.3 in
    let is : v ≡ b.0 = b.3.0 in
    let same : heads fs v ≡ d.0 = ap (heads fs) is ∙ b.2 in
    let tail : d.1 ≡ body fs v = b.4 ∙ ap (λ (l : List ℕ). body fs b.0 ++ l) b.3.1 ∙ append-nil (body fs b.0) ∙ ap (body fs) (sym is) in
    (subst (AllFit fs) (sym same) d.2, d.4 ∙ ap (λ (l : List ℕ). header fs d.0 ++ l) tail ∙ ap (λ (h : Heads fs). header fs h ++ body fs v) (sym same)))
    (λ v t d. (heads fs v, body fs v, d.0, (v, [], refl, (refl, refl), sym (append-nil (body fs v))), d.1))
    (exact_heads fs (λ h. Bodied fs h (λ v. Ends v)) (λ h. body_then fs h (λ v rest. Ok (v, rest))) small
    (λ h. exact_body fs h (λ v. Ends v) (λ v rest. Ok (v, rest)) (λ v. exact_done v) (λ v. (v, [], (refl, refl))))
    (λ h. some_bodied fs h (λ v. Ends v) (λ v. (v, [], (refl, refl)))))

-- ---- texts with a count

pub exact_then_if : {A B : Type 0} (P : A → Type 0) (S : A → List ℕ → Type 0) (T : A → B → List ℕ → Type 0) (p : List ℕ → Front A) (q : A → List ℕ → Front B)
    → ((x : A) (t : List ℕ) → S x t → P x) → IsExact S p → ((x : A) → P x → IsExact (T x) (q x)) → ((x : A) → P x → (y : B) × (t : List ℕ) × T x y t) → IsExact (Then S T) (λ bytes. p bytes >>= λ x. q x.0 x.1)
exact_then_if {A} {B} P S T p q holds first second some = record {
  found = λ bytes y rest fits e.
      let a = bind_ok (p bytes) (λ x. q x.0 x.1) (y, rest) e in
      let f = first.found bytes a.0.0 a.0.1 fits a.1 in
      let fits_rest : IsBytes a.0.1 = IsBytes-rest f.0 a.0.1 (subst IsBytes f.2 fits) in
      let s = (second a.0.0 (holds a.0.0 f.0 f.1)).found a.0.1 y rest fits_rest a.2 in
      (f.0 ++ s.0, (a.0.0, f.0, s.0, f.1, s.1, refl), f.2 ∙ ap (λ (l : List ℕ). f.0 ++ l) s.2 ∙ sym (append_assoc f.0 s.0 rest));
  again = λ y text rest h.
      let regrouped : text ++ rest ≡ h.1 ++ (h.2 ++ rest) = ap (λ (l : List ℕ). l ++ rest) h.5 ∙ append_assoc h.1 h.2 rest in
      ap (λ (l : List ℕ). p l >>= λ x. q x.0 x.1) regrouped ∙ rw (first.again h.0 h.1 (h.2 ++ rest) h.3) ((second h.0 (holds h.0 h.1 h.3)).again y h.2 rest h.4);
  part = λ bytes fits e.
      elim (bind_err (p bytes) (λ x. q x.0 x.1) Part e) [
        | inl e ↦
            let f = first.part bytes fits e in
            let s = some f.0 (holds f.0 (bytes ++ f.1) f.3) in
            (s.0, f.1 ++ s.1, omega (arith, f.2, length-append f.1 s.1), (f.0, bytes ++ f.1, s.1, f.3, s.2, sym (append_assoc bytes f.1 s.1)))
        | inr a ↦
            let f = first.found bytes a.0.0 a.0.1 fits a.1 in
            let fits_rest : IsBytes a.0.1 = IsBytes-rest f.0 a.0.1 (subst IsBytes f.2 fits) in
            let s = (second a.0.0 (holds a.0.0 f.0 f.1)).part a.0.1 fits_rest a.2 in
            (s.0, s.1, s.2, (a.0.0, f.0, a.0.1 ++ s.1, f.1, s.3, ap (λ (l : List ℕ). l ++ s.1) f.2 ∙ append_assoc f.0 a.0.1 s.1))
      ];
  cut = λ y bytes more some_more h.
      elim (parted bytes more h.1 h.2 h.5) [
        | inl short ↦ rw (first.cut h.0 bytes short.0 short.1 (subst (S h.0) short.2 h.3)) refl
        | inr past ↦ ap (λ (l : List ℕ). p l >>= λ x. q x.0 x.1) past.1 ∙ rw (first.again h.0 h.1 past.0 h.3) ((second h.0 (holds h.0 h.1 h.3)).cut y past.0 more some_more (subst (T h.0 y) past.2 h.4))
      ];
}

-- so many texts within their limit, in the room that is left
abbrev pub AreItems : ℕ → ℕ → ℕ → List (List ℕ) → List ℕ → Type 0
AreItems most n left xs t = (length xs ≡ n) × AllShort most xs × (t ≡ items_bytes xs) × (length (items_bytes xs) ≤ left)

some_items : (most n left : ℕ) → 4 * n ≤ left → (xs : List (List ℕ)) × (t : List ℕ) × AreItems most n left xs t
some_items most zero left le = ([], [], (refl, tt, refl, omega arith))
some_items most (suc n) left le =
    let s = some_items most n (left - 4) (omega (arith, le)) in
    ([] ∷ s.0, items_bytes ([] ∷ s.0), (ap suc s.2.0, (omega arith, s.2.1), refl, omega (arith, s.2.3, le)))

room_for : (n left s : ℕ) → 4 * suc n ≤ left → s ≤ left - 4 * suc n → 4 * n ≤ left - 4 - s
room_for n left s le fits = omega (arith, le, fits)

first_size : (x : List ℕ) (xs : List (List ℕ)) → length (items_bytes (x ∷ xs)) ≡ 4 + length x + length (items_bytes xs)
first_size x xs = omega (arith, length-append (to_be_bytes w32 (length x)) (x ++ items_bytes xs), length-append x (items_bytes xs))

abbrev Later : ℕ → ℕ → ℕ → ℕ → List (List ℕ) → List ℕ → Type 0
Later most n left s = Then (IsText s) (λ x. Then (AreItems most n (left - 4 - s)) (λ xs. Ends (x ∷ xs)))

abbrev limit_of : ℕ → ℕ → ℕ → ℕ
limit_of most n left = min most (left - 4 * suc n)

items_to : (most n left : ℕ) → 4 * suc n ≤ left → (xs : List (List ℕ)) (t : List ℕ) → Then (IsSize (limit_of most n left)) (Later most n left) xs t → AreItems most (suc n) left xs t
items_to most n left le xs t h =
    let s = h.0 in
    let d = h.4 in
    let x = d.0 in
    let e = d.4 in
    let ys = e.0 in
    let is : xs ≡ x ∷ ys = e.4.0 in
    let len : length x ≡ s = d.3.0 in
    let items = e.3 in
    let size_fits : s ≤ min most (left - 4 * suc n) = h.3.0 in
    let tail : d.2 ≡ items_bytes ys = e.5 ∙ ap (λ (l : List ℕ). e.1 ++ l) e.4.1 ∙ append-nil e.1 ∙ items.2 in
    let text_is : t ≡ items_bytes (x ∷ ys) =
    h.5 ∙ ap (λ (l : List ℕ). l ++ h.2) (h.3.1 ∙ ap (to_be_bytes w32) (sym len))
    ∙ ap (λ (l : List ℕ). to_be_bytes w32 (length x) ++ l) (d.5 ∙ ap (λ (l : List ℕ). l ++ d.2) d.3.1 ∙ ap (λ (l : List ℕ). x ++ l) tail) in
    subst (λ (zs : List (List ℕ)). AreItems most (suc n) left zs t) (sym is)
    (ap suc items.0, (omega (arith, size_fits, len), items.1), text_is, omega (arith, first_size x ys, items.3, size_fits, len, le))

items_back : (most n left : ℕ) (xs : List (List ℕ)) (t : List ℕ) → AreItems most (suc n) left xs t → Then (IsSize (limit_of most n left)) (Later most n left) xs t
items_back most n left [] t h = absurd (omega (arith, h.0))
items_back most n left (x ∷ xs) t h =
    let few : length xs ≡ n = omega (arith, h.0) in
    let all = first_size x xs in
    let least = count_short xs in (
      length x,
      to_be_bytes w32 (length x),
      x ++ items_bytes xs,
      (omega (arith, h.1.0, h.3, all, least, few), refl),
      (x, x, items_bytes xs, (refl, refl), (xs, items_bytes xs, [], (few, h.1.1, refl, omega (arith, h.3, all)), (refl, refl), sym (append-nil (items_bytes xs))), refl),
      h.2,
    )

pub exact_items : (most n left : ℕ) → most < 2 ^ 32 → 4 * n ≤ left → IsExact (AreItems most n left) (items_at most n left)
exact_items most zero left small le =
    exact_as (Ends []) (AreItems most zero left) _
    (λ xs t h. (ap length h.0, subst (AllShort most) (sym h.0) tt, h.1 ∙ ap items_bytes (sym h.0), omega (arith, ap (λ (l : List (List ℕ)). length (items_bytes l)) h.0)))
    (λ xs t h. let none = nil_from_length xs h.0 in (none, h.2 ∙ ap items_bytes none))
    (exact_done [])
exact_items most (suc n) left small le =
    exact_as (Then (IsSize (limit_of most n left)) (Later most n left)) (AreItems most (suc n) left) _ (items_to most n left le) (items_back most n left)
    (exact_then_if (λ s. s ≤ left - 4 * suc n) (IsSize (limit_of most n left)) (Later most n left) (size_at (limit_of most n left)) (λ s rest. bytes_at s rest >>= λ x. items_at most n (left - 4 - s) x.1 >>= λ xs. Ok (x.0 ∷ xs.0, xs.1))
    (λ s t is. omega (arith, is.0))
    (exact_size (limit_of most n left) (omega (arith, small)))
    (λ s fits. exact_then (IsText s) (λ x. Then (AreItems most n (left - 4 - s)) (λ xs. Ends (x ∷ xs))) (bytes_at s) (λ x rest. items_at most n (left - 4 - s) rest >>= λ xs. Ok (x ∷ xs.0, xs.1)) (exact_bytes s)
    (λ x. exact_then (AreItems most n (left - 4 - s)) (λ xs. Ends (x ∷ xs)) (items_at most n (left - 4 - s)) (λ xs rest. Ok (x ∷ xs, rest)) (exact_items most n (left - 4 - s) small (room_for n left s le fits)) (λ xs. exact_done (x ∷ xs)) (λ xs. (x ∷ xs, [], (refl, refl))))
    (λ x. let z = some_items most n (left - 4 - s) (room_for n left s le fits) in (x ∷ z.0, z.1 ++ [], (z.0, z.1, [], z.2, (refl, refl), refl))))
    (λ s fits.
    let x : List ℕ = replicate s 0 in
    let z = some_items most n (left - 4 - s) (room_for n left s le fits) in
    (x ∷ z.0, x ++ (z.1 ++ []), (x, x, z.1 ++ [], (length-replicate {A = ℕ} s 0, refl), (z.0, z.1, [], z.2, (refl, refl), refl), refl))))

-- ---- fields, a count, and texts

abbrev pub Lot : List Field → Type 0
Lot fs = Values fs × List (List ℕ)

abbrev Behind : (fs : List Field) → ℕ → Heads fs → Lot fs → List ℕ → Type 0
Behind fs most h = Then (IsSize (room fs h / 4)) (λ n. Bodied fs h (λ v. Then (AreItems most n (room fs h)) (λ xs. Ends (v, xs))))

abbrev pub IsCounted : (fs : List Field) → ℕ → Lot fs → List ℕ → Type 0
IsCounted fs most l t =
    AllFit fs (heads fs l.0) × AllShort most l.1 × (length (items_bytes l.1) ≤ room fs (heads fs l.0))
    × (t ≡ header fs (heads fs l.0) ++ (to_be_bytes w32 (length l.1) ++ (body fs l.0 ++ items_bytes l.1)))

counted_to : (fs : List Field) (most : ℕ) (l : Lot fs) (t : List ℕ) → Headed fs (Behind fs most) l t → IsCounted fs most l t
counted_to fs most l t d =
    let h = d.0 in
    let c = d.3 in
    let n = c.0 in
    let b = c.4 in
    let v = b.0 in
    let e = b.3 in
    let xs = e.0 in
    let is : l ≡ (v, xs) = e.4.0 in
    let same : heads fs v ≡ h = b.2 in
    let items = e.3 in
    let tail : b.1 ≡ items_bytes xs = e.5 ∙ ap (λ (z : List ℕ). e.1 ++ z) e.4.1 ∙ append-nil e.1 ∙ items.2 in
    let behind : c.2 ≡ body fs v ++ items_bytes xs = b.4 ∙ ap (λ (z : List ℕ). body fs v ++ z) tail in
    let sized : d.1 ≡ to_be_bytes w32 (length xs) ++ (body fs v ++ items_bytes xs) = c.5 ∙ ap (λ (z : List ℕ). z ++ c.2) (c.3.1 ∙ ap (to_be_bytes w32) (sym items.0)) ∙ ap (λ (z : List ℕ). to_be_bytes w32 (length xs) ++ z) behind in
    let text_is : t ≡ header fs (heads fs v) ++ (to_be_bytes w32 (length xs) ++ (body fs v ++ items_bytes xs)) = d.4 ∙ ap (λ (z : List ℕ). header fs h ++ z) sized ∙ ap (λ (k : Heads fs). header fs k ++ (to_be_bytes w32 (length xs) ++ (body fs v ++ items_bytes xs))) (sym same) in
    subst (λ (m : Lot fs). IsCounted fs most m t) (sym is) (subst (AllFit fs) (sym same) d.2, items.1, subst (λ (k : Heads fs). length (items_bytes xs) ≤ room fs k) (sym same) items.3, text_is)

counted_back : (fs : List Field) (most : ℕ) (l : Lot fs) (t : List ℕ) → IsCounted fs most l t → Headed fs (Behind fs most) l t
counted_back fs most l t h =
    let hs = heads fs l.0 in
    let xs = l.1 in
    let count : length xs ≤ room fs hs / 4 = omega (arith, h.2, count_short xs) in (
      hs,
      to_be_bytes w32 (length xs) ++ (body fs l.0 ++ items_bytes xs),
      h.0,
      (
        length xs,
        to_be_bytes w32 (length xs),
        body fs l.0 ++ items_bytes xs,
        (count, refl),
        (l.0, items_bytes xs, refl, (xs, items_bytes xs, [], (refl, h.1, refl, h.2), (refl, refl), sym (append-nil (items_bytes xs))), refl),
        refl,
      ),
      h.3,
    )

pub exact_counted : (fs : List Field) (most : ℕ) → AllSmall fs → most < 2 ^ 32 → IsExact (IsCounted fs most) (counted_at fs most)
exact_counted fs most small little =
    exact_as (Headed fs (Behind fs most)) (IsCounted fs most) _ (counted_to fs most) (counted_back fs most)
    (exact_heads fs (Behind fs most) (λ h rest. size_at (room fs h / 4) rest >>= λ n. body_then fs h (λ v rest. items_at most n.0 (room fs h) rest >>= λ xs. Ok ((v, xs.0), xs.1)) n.1) small
    (λ h. exact_then_if (λ n. 4 * n ≤ room fs h) (IsSize (room fs h / 4)) (λ n. Bodied fs h (λ v. Then (AreItems most n (room fs h)) (λ xs. Ends (v, xs)))) (size_at (room fs h / 4))
    (λ n. body_then fs h (λ v rest. items_at most n (room fs h) rest >>= λ xs. Ok ((v, xs.0), xs.1)))
    (λ n t is. omega (arith, is.0))
    (exact_size (room fs h / 4) (omega arith))
    (λ n fits. exact_body fs h (λ v. Then (AreItems most n (room fs h)) (λ xs. Ends (v, xs))) (λ v rest. items_at most n (room fs h) rest >>= λ xs. Ok ((v, xs.0), xs.1))
    (λ v. exact_then (AreItems most n (room fs h)) (λ xs. Ends (v, xs)) (items_at most n (room fs h)) (λ xs rest. Ok ((v, xs), rest)) (exact_items most n (room fs h) little fits) (λ xs. exact_done (v, xs)) (λ xs. ((v, xs), [], (refl, refl))))
    (λ v. let z = some_items most n (room fs h) fits in ((v, z.0), z.1 ++ [], (z.0, z.1, [], z.2, (refl, refl), refl))))
    (λ n fits. some_bodied fs h (λ v. Then (AreItems most n (room fs h)) (λ xs. Ends (v, xs))) (λ v. let z = some_items most n (room fs h) fits in ((v, z.0), z.1 ++ [], (z.0, z.1, [], z.2, (refl, refl), refl)))))
    (λ h. let s = some_bodied fs h (λ v. Then (AreItems most 0 (room fs h)) (λ xs. Ends (v, xs))) (λ v. let z = some_items most 0 (room fs h) (omega arith) in ((v, z.0), z.1 ++ [], (z.0, z.1, [], z.2, (refl, refl), refl))) in
    (s.0, to_be_bytes w32 0 ++ s.1, (0, to_be_bytes w32 0, s.1, (omega arith, refl), s.2, refl))))
