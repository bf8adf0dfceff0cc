-- A pool section read pair by pair.
use Rattle.std.proofs.Common.{◌≡◌, ◌∙◌, ℕ, ◌+◌, ◌*◌, ◌^◌, ◌<◌, ◌≤◌, List, [], ◌∷◌, ◌++◌, length, take, drop, refl, sym, ap, subst, arith, length-take, length-drop}
use Rattle.std.proofs.lemmas.Bool.{cases_lt, lt-ltb, le-ltb}
use Rattle.std.proofs.Common.{inl, inr}
use Rattle.std.proofs.Math.Nat.{mul-le-mul_right}
use Rattle.std.proofs.lemmas.List.{take-append-drop, drop-drop, drop_at}
use Rattle.std.specs.Prelude.{Result, Ok, Err}
use Rattle.tc_base.specs.declared.number.NumErr.{NumErr}
use Rattle.tc_base.specs.Vnum.{vnum, groups}
use Rattle.hf_layout.specs.Frees.{Frees, IsThere}
use Rattle.hf_pool.specs.Multiples.{LieWithin}
use Rattle.hf_tree.specs.Standing.{Lists}
use Rattle.tc_hash.specs.Sections.{IsEnd, IsListOf, IsNoPair, IsPair}

pub two_front : (bytes : List ℕ) (a b : ℕ) → IsEnd (a ∷ b ∷ bytes) → (a ≡ 0) × (b ≡ 0)
two_front bytes a b (rest, is) = (cc, cc)

vnum_zero : vnum 0 ≡ 0 ∷ []
unfolding vnum groups
vnum_zero = refl

-- the bytes of a list of which some are at the front
front_long : (n : ℕ) (bytes xs : List ℕ) → take n bytes ≡ xs → n ≡ length xs → n ≤ length bytes
front_long n bytes xs is long = omega (arith, ap length is, long, length-take n bytes)

-- a spelling isn't empty
vnum_some : (n : ℕ) → 0 < length (vnum n)
unfolding vnum groups
vnum_some n = elim (cases_lt n 128) [
  | inl low ↦ (let e = lt-ltb n 128 low in rw e (omega arith))
  | inr high ↦ (let e = le-ltb n 128 high in rw e (omega arith))
]

-- in units a free block's place and size are small
pub units_small : (u end place size : ℕ) (frees : Frees) → 5 ≤ u → end ≤ 2 ^ 40 → LieWithin end frees → IsThere frees (u * place) (u * size) → (place ≤ 2 ^ 40) × (size < 2 ^ 32)
units_small u end place size frees five low within there =
    let w = within (u * place) (u * size) there in
    let p : 1 * place ≤ u * place = mul-le-mul_right place (omega (arith, five)) in
    let s : 1 * size ≤ u * size = mul-le-mul_right size (omega (arith, five)) in
    (omega (arith, p, w.2, low), omega (arith, s, w.1))

abbrev Number : Type 0
Number = Result (ℕ × ℕ) NumErr

pub same_number : (r : Number) (d len n long : ℕ) → r ≡ Ok (d, len) → r ≡ Ok (n, long) → d ≡ n
same_number r d len n long e f = let s : ◌≡◌ {A = Number} (Ok (d, len)) (Ok (n, long)) = sym e ∙ f in let t : ◌≡◌ {A = ℕ × ℕ} (d, len) (n, long) = cc in ap (λ (x : ℕ × ℕ). x.0) t

pub no_number : (r : Number) (e : NumErr) (x : ℕ × ℕ) → r ≡ Err e → r ≡ Ok x → ⊥
no_number r e x f g = let s : ◌≡◌ {A = Number} (Err e) (Ok x) = sym f ∙ g in cc

-- what stands behind the first number of a pair
pub behind_first : (d len : ℕ) (bytes : List ℕ) (b : ℕ × ℕ) (rest : List ℕ) → d ≡ b.0 → len ≡ length (vnum d) → bytes ≡ vnum b.0 ++ (vnum b.1 ++ rest) → drop len bytes ≡ vnum b.1 ++ rest
behind_first d len bytes b rest e long is = ap (drop len) is ∙ drop_at (vnum b.0) (vnum b.1 ++ rest) len (ap (λ (n : ℕ). length (vnum n)) (sym e) ∙ sym long)

pub pair_found : (u before d s len more : ℕ) (frees : Frees) (bytes : List ℕ) → 0 < d → len ≡ length (vnum d) → take len bytes ≡ vnum d → more ≡ length (vnum s) → take more (drop len bytes) ≡ vnum s
    → ((n : ℕ) (rest : List ℕ) → n < 2 ^ 64 → bytes ≡ vnum n ++ rest → n ≡ d) → ((n : ℕ) (rest : List ℕ) → n < 2 ^ 64 → drop len bytes ≡ vnum n ++ rest → n ≡ s)
    → IsThere frees (u * (before + d)) (u * s) → IsPair u frees before bytes (before + d) (len + more)
pair_found u before d s len more frees bytes some long front long2 front2 only only2 there =
    let in1 : len ≤ length bytes = front_long len bytes (vnum d) front long in
    let in2 : more ≤ length (drop len bytes) = front_long more (drop len bytes) (vnum s) front2 long2 in
    let behind : drop more (drop len bytes) ≡ drop (len + more) bytes = drop-drop more len bytes in
    let e2 : drop len bytes ≡ vnum s ++ drop (len + more) bytes = sym (take-append-drop more (drop len bytes)) ∙ ap (λ (l : List ℕ). l ++ drop more (drop len bytes)) front2 ∙ ap (λ (l : List ℕ). vnum s ++ l) behind in
    let e1 : bytes ≡ vnum d ++ drop len bytes = sym (take-append-drop len bytes) ∙ ap (λ (l : List ℕ). l ++ drop len bytes) front in
    record {
      difference = d;
      size = s;
      some = some;
      is = e1 ∙ ap (λ (l : List ℕ). vnum d ++ l) e2;
      there = there;
      place_is = refl;
      long = omega (arith, long, vnum_some d);
      within = omega (arith, in1, in2, length-drop len bytes);
      only = λ b rest is small0 small1.
          let first : b.0 ≡ d = only b.0 (vnum b.1 ++ rest) small0 is in
          let tail : drop len bytes ≡ vnum b.1 ++ rest = ap (drop len) is ∙ drop_at (vnum b.0) (vnum b.1 ++ rest) len (ap (λ (n : ℕ). length (vnum n)) first ∙ sym long) in
          let second : b.1 ≡ s = only2 b.1 rest small1 tail in
          (first, second, sym (drop_at (vnum b.1) rest more (ap (λ (n : ℕ). length (vnum n)) second ∙ sym long2)) ∙ sym (ap (drop more) tail) ∙ behind);
    }

-- the section was read up to a place in it, and to a place in units
pub record Listing (u : ℕ) (frees : Frees) (section : List ℕ) (at place : ℕ) : Type 0 where
  pub within : at ≤ length section
  pub low : place ≤ 2 ^ 40
  pub to : (blocks : List (ℕ × ℕ)) → Lists u frees place (drop at section) blocks → IsListOf u frees section
  pub from : IsListOf u frees section → (blocks : List (ℕ × ℕ)) × Lists u frees place (drop at section) blocks

pub listing_none : (u : ℕ) (frees : Frees) (section : List ℕ) → Listing u frees section 0 0
listing_none u frees section = record { within = omega arith; low = omega arith; to = λ blocks l. (blocks, l); from = λ l. l }

pub listing_more : (u end : ℕ) (frees : Frees) (section : List ℕ) (at place next len : ℕ) → 5 ≤ u → end ≤ 2 ^ 40 → LieWithin end frees → next ≤ 2 ^ 40 → IsPair u frees place (drop at section) next len → Listing u frees section at place → Listing u frees section (at + len) next
listing_more u end frees section at place next len five small inside low pair old = record {
  within = omega (arith, old.within, pair.within, length-drop at section);
  low = low;
  to = λ blocks l. old.to ((pair.difference, pair.size) ∷ blocks) (
    drop len (drop at section),
    pair.some,
    pair.is,
    subst (λ (n : ℕ). IsThere frees (u * n) (u * pair.size)) pair.place_is pair.there,
    subst (λ (n : ℕ). Lists u frees n (drop len (drop at section)) blocks) pair.place_is (subst (λ (bytes : List ℕ). Lists u frees next bytes blocks) (sym (drop-drop len at section)) l),
  );
  from = λ all. let l = old.from all in rest l.0 l.1;
}
  where
    rest : (blocks : List (ℕ × ℕ)) → Lists u frees place (drop at section) blocks → (more : List (ℕ × ℕ)) × Lists u frees next (drop (at + len) section) more
    rest [] l = absurd (
        let o = pair.only (0, 0) l.0 (l.1 ∙ ap (λ (z : List ℕ). z ++ (z ++ l.0)) (sym vnum_zero)) (omega arith) (omega arith) in
        omega (arith, o.0, pair.some))
    rest (b ∷ blocks) l =
        let few = units_small u end (place + b.0) b.1 frees five small inside l.3 in
        let o = pair.only b l.0 l.2 (omega (arith, few.0)) (omega (arith, few.1)) in
        let here : place + b.0 ≡ next = ap (λ (n : ℕ). place + n) o.0 ∙ sym pair.place_is in
        (blocks, subst (λ (n : ℕ). Lists u frees n (drop (at + len) section) blocks) here (subst (λ (bytes : List ℕ). Lists u frees (place + b.0) bytes blocks) (o.2 ∙ drop-drop len at section) l.4))

-- what is read next is no pair and no end: the section is no list
pub listing_bad : (u : ℕ) (frees : Frees) (section : List ℕ) (at place : ℕ) → (IsEnd (drop at section) → ⊥) → IsNoPair u frees place (drop at section) → Listing u frees section at place → IsListOf u frees section → ⊥
listing_bad u frees section at place other none old all = let l = old.from all in rest l.0 l.1
  where
    rest : (blocks : List (ℕ × ℕ)) → Lists u frees place (drop at section) blocks → ⊥
    rest [] l = other l
    rest (b ∷ blocks) l = none b l.0 l.1 l.2 l.3
