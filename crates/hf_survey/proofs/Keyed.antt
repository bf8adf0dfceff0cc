-- Keys that facts speak of, compared.
use Rattle.std.proofs.Common.{◌≡◌, ◌≢◌, ◌∙◌, ℕ, ◌+◌, ◌-◌, ◌<◌, List, length, take, drop, refl, sym, ap, subst, arith, Some, Bool, true, false}
use Rattle.std.specs.Prelude.{slice_get, IsTrue}
use Rattle.std.specs.Ordering.{nat_cmp, on, then_cmp, ordering_then}
use Rattle.std.specs.declared.cmp.Ordering.{Ordering}
use Rattle.std.specs.declared.cmp.Ordering.TheVariants.{Less, Equal, Greater}
use Rattle.std.specs.Cmp.Lexicographic.{slice_cmp}
use Rattle.std.proofs.lemmas.Cmp.{ranked}
use Rattle.tc_base.specs.Hashes.{second}
use Rattle.hf_head.specs.declared.head.Head.{Head}
use Rattle.hf_head.specs.Heads.{unit}
use Rattle.hf_tree.specs.Keys.{key_cmp}
use Rattle.hf_survey.specs.declared.facts.Fact.{Fact}
use Rattle.hf_survey.specs.declared.reaching.Item.{Item}
use Rattle.hf_survey.specs.Facts.{IsFactOf, front_of}
use Rattle.hf_survey.specs.Orders.{AreTrue, HasKey, key_in, ComparesBy, IsBetweenBy}
use Rattle.hf_chain.proofs.Fronts.{key_at, key_inside}
use Rattle.hf_survey.proofs.Lists.{same_item}

pub same_long : (a b : ℕ) → Equal ≡ nat_cmp a b → a ≡ b
same_long a b e = ranked a b Equal e

then_first : (a b : Ordering) → a ≢ Equal → a ≡ ordering_then a b
then_first Less b ne = refl
then_first Equal b ne = absurd (ne refl)
then_first Greater b ne = refl

cmp_second : (x y : List ℕ) (o : Ordering) → o ≡ nat_cmp (second x) (second y) → o ≢ Equal → o ≡ key_cmp x y
unfolding key_cmp
cmp_second x y o e ne = e ∙ then_first (nat_cmp (second x) (second y)) (then_cmp (on length nat_cmp) (slice_cmp nat_cmp) x y) (λ f. ne (e ∙ f))

cmp_rest : (x y : List ℕ) (o : Ordering) → Equal ≡ nat_cmp (second x) (second y) → o ≡ ordering_then (nat_cmp (length x) (length y)) (slice_cmp nat_cmp x y) → o ≡ key_cmp x y
unfolding key_cmp
cmp_rest x y o same e = e ∙ ap (λ (z : Ordering). ordering_then z (ordering_then (nat_cmp (length x) (length y)) (slice_cmp nat_cmp x y))) same

key_of : (h : Head) (x : Fact) (file : List ℕ) (w : IsFactOf h x file) → key_in x file ≡ w.r.key
key_of h x file w = (λ i. take (w.is i).long (drop ((w.is i).place + (w.is i).ahead) file)) ∙ key_at (unit h) w.r x.place file w.has.is

second_of : (h : Head) (x : Fact) (file : List ℕ) → IsFactOf h x file → x.second ≡ second (key_in x file)
second_of h x file w = ap (λ (z : Fact). z.second) w.is ∙ ap second (sym (key_of h x file w))

long_of : (h : Head) (x : Fact) (file : List ℕ) → IsFactOf h x file → x.long ≡ length (key_in x file)
long_of h x file w = ap (λ (z : Fact). z.long) w.is ∙ ap length (sym (key_of h x file w))

pub has_key : (h : Head) (x : Fact) (file : List ℕ) → IsFactOf h x file → HasKey x file
has_key h x file w = record {
  inside = omega (arith, key_inside (unit h) w.r x.place file w.has.is, ap (λ (z : Fact). z.ahead) w.is, ap (λ (z : Fact). z.long) w.is);
  is = ap (λ (z : Fact). z.front) w.is ∙ ap front_of (sym (key_of h x file w));
}

pub by_second : (h : Head) (a b : Fact) (file : List ℕ) (o : Ordering) → IsFactOf h a file → IsFactOf h b file → o ≡ nat_cmp a.second b.second → o ≢ Equal → o ≡ key_cmp (key_in a file) (key_in b file)
by_second h a b file o u w e ne = cmp_second (key_in a file) (key_in b file) o (e ∙ (λ i. nat_cmp (second_of h a file u i) (second_of h b file w i))) ne

pub by_long : (h : Head) (a b : Fact) (file : List ℕ) (o : Ordering) → IsFactOf h a file → IsFactOf h b file → Equal ≡ nat_cmp a.second b.second → o ≡ nat_cmp a.long b.long → o ≢ Equal → o ≡ key_cmp (key_in a file) (key_in b file)
by_long h a b file o u w same e ne =
    let x : List ℕ = key_in a file in
    let y : List ℕ = key_in b file in
    let f : o ≡ nat_cmp (length x) (length y) = e ∙ (λ i. nat_cmp (long_of h a file u i) (long_of h b file w i)) in
    cmp_rest x y o (same ∙ (λ i. nat_cmp (second_of h a file u i) (second_of h b file w i))) (f ∙ then_first (nat_cmp (length x) (length y)) (slice_cmp nat_cmp x y) (λ g. ne (f ∙ g)))

pub by_key : (h : Head) (a b : Fact) (file : List ℕ) (o : Ordering) → IsFactOf h a file → IsFactOf h b file → Equal ≡ nat_cmp a.second b.second → Equal ≡ nat_cmp a.long b.long → o ≡ slice_cmp nat_cmp (key_in a file) (key_in b file) → o ≡ key_cmp (key_in a file) (key_in b file)
by_key h a b file o u w same long e =
    let x : List ℕ = key_in a file in
    let y : List ℕ = key_in b file in
    let f : Equal ≡ nat_cmp (length x) (length y) = long ∙ (λ i. nat_cmp (long_of h a file u i) (long_of h b file w i)) in
    cmp_rest x y o (same ∙ (λ i. nat_cmp (second_of h a file u i) (second_of h b file w i))) (e ∙ ap (λ (z : Ordering). ordering_then z (slice_cmp nat_cmp x y)) f)

-- ---- a record between those that it hangs left of and right of

pub compares_one : (facts : List Fact) (a other : Fact) (number : ℕ) (o wanted : Ordering) (file : List ℕ) → slice_get facts (number - 1) ≡ Some other → o ≡ key_cmp (key_in a file) (key_in other file) → o ≡ wanted → ComparesBy facts a number wanted file
compares_one facts a other number o wanted file at is same j b n atb =
    let k : j ≡ number - 1 = omega (arith, n) in
    let s : b ≡ other = same_item (slice_get facts j) b other atb (ap (slice_get facts) k ∙ at) in
    ap (λ (z : Fact). key_cmp (key_in a file) (key_in z file)) s ∙ sym is ∙ same

pub compares_is : (facts : List Fact) (a other : Fact) (number : ℕ) (o wanted : Ordering) (file : List ℕ) → number ≢ 0 → slice_get facts (number - 1) ≡ Some other → o ≡ key_cmp (key_in a file) (key_in other file) → ComparesBy facts a number wanted file → o ≡ wanted
compares_is facts a other number o wanted file some at is all = is ∙ all (number - 1) other (omega (arith, some)) at

pub compares_none : (facts : List Fact) (a : Fact) (number : ℕ) (wanted : Ordering) (file : List ℕ) → number ≡ 0 → ComparesBy facts a number wanted file
compares_none facts a number wanted file none j b n at = absurd (omega (arith, none, n))

pub between_one : (facts : List Fact) (x : Item) (a : Fact) (file : List ℕ) → slice_get facts (x.number - 1) ≡ Some a → ComparesBy facts a x.above Greater file → ComparesBy facts a x.below Less file → IsBetweenBy facts x file
between_one facts x a file at above below i f n atf =
    let k : i ≡ x.number - 1 = omega (arith, n) in
    let s : f ≡ a = same_item (slice_get facts i) f a atf (ap (slice_get facts) k ∙ at) in
    (subst (λ (z : Fact). ComparesBy facts z x.above Greater file) (sym s) above, subst (λ (z : Fact). ComparesBy facts z x.below Less file) (sym s) below)

pub between_is : (facts : List Fact) (x : Item) (a : Fact) (file : List ℕ) → 0 < x.number → slice_get facts (x.number - 1) ≡ Some a → IsBetweenBy facts x file → ComparesBy facts a x.above Greater file × ComparesBy facts a x.below Less file
between_is facts x a file some at all = all (x.number - 1) a (omega (arith, some)) at

-- of a space that reads as it did
pub fact_at_file : (h : Head) (x : Fact) (now old : List ℕ) → now ≡ old → IsFactOf h x old → IsFactOf h x now
fact_at_file h x now old e w = subst (λ (l : List ℕ). IsFactOf h x l) (sym e) w

pub true_at_file : (h : Head) (facts : List Fact) (now old : List ℕ) → now ≡ old → AreTrue h facts old → AreTrue h facts now
true_at_file h facts now old e w = subst (λ (l : List ℕ). AreTrue h facts l) (sym e) w

pub compares_at_file : (facts : List Fact) (a : Fact) (number : ℕ) (wanted : Ordering) (now old : List ℕ) → now ≡ old → ComparesBy facts a number wanted now → ComparesBy facts a number wanted old
compares_at_file facts a number wanted now old e w = subst (λ (l : List ℕ). ComparesBy facts a number wanted l) e w

pub compares_at_now : (facts : List Fact) (a : Fact) (number : ℕ) (wanted : Ordering) (now old : List ℕ) → now ≡ old → ComparesBy facts a number wanted old → ComparesBy facts a number wanted now
compares_at_now facts a number wanted now old e w = subst (λ (l : List ℕ). ComparesBy facts a number wanted l) (sym e) w

pub between_at_file : (facts : List Fact) (x : Item) (now old : List ℕ) → now ≡ old → IsBetweenBy facts x now → IsBetweenBy facts x old
between_at_file facts x now old e w = subst (λ (l : List ℕ). IsBetweenBy facts x l) e w

pub between_at_now : (facts : List Fact) (x : Item) (now old : List ℕ) → now ≡ old → IsBetweenBy facts x old → IsBetweenBy facts x now
between_at_now facts x now old e w = subst (λ (l : List ℕ). IsBetweenBy facts x l) (sym e) w

pub not_both : (b : Bool) → b ≡ false → IsTrue b → ⊥
not_both true h i = cc
not_both false h i = cc

pub true_false : (b : Bool) → b ≡ true → b ≡ false → ⊥
true_false b h i = cc
