-- The order of keys is total.
use Rattle.std.proofs.Common.{◌≡◌, ◌∙◌, ℕ, refl, sym, ap, List, [], ◌∷◌, length}
use Rattle.std.specs.Ordering.{nat_cmp, ordering_reverse}
use Rattle.std.specs.declared.cmp.Ordering.{Ordering}
use Rattle.std.specs.declared.cmp.Ordering.TheVariants.{Less, Equal, Greater}
use Rattle.std.specs.Cmp.{IsTotalOrder}
use Rattle.std.specs.Cmp.Lexicographic.{slice_cmp}
use Rattle.std.proofs.lemmas.Cmp.{then_total, on_total, nat_cmp_total, nat_list_cmp_total, tied_itself, ranked}
use Rattle.tc_base.specs.Hashes.{second}
use Rattle.hf_tree.specs.Keys.{Key, key_cmp}

pub three : {G : Type 0} (o : Ordering) → (o ≡ Less → G) → (o ≡ Equal → G) → (o ≡ Greater → G) → G
three Less a b c = a refl
three Equal a b c = b refl
three Greater a b c = c refl

pub key_total : IsTotalOrder key_cmp
unfolding key_cmp
key_total = then_total (on_total second nat_cmp_total) (then_total (on_total length nat_cmp_total) nat_list_cmp_total)

pub same_key : (k : Key) → key_cmp k k ≡ Equal
same_key k = tied_itself key_total k

pub turned : (a b : Key) → key_cmp a b ≡ Greater → key_cmp b a ≡ Less
turned a b h = key_total.antisymm b a ∙ ap ordering_reverse h

pub turned_back : (a b : Key) → key_cmp a b ≡ Less → key_cmp b a ≡ Greater
turned_back a b h = key_total.antisymm b a ∙ ap ordering_reverse h

pub less_then : (a b c : Key) → key_cmp a b ≡ Less → key_cmp b c ≡ Less → key_cmp a c ≡ Less
less_then a b c h i = key_total.trans a b c h i

pub greater_then : (a b c : Key) → key_cmp a b ≡ Greater → key_cmp b c ≡ Greater → key_cmp a c ≡ Greater
greater_then a b c h i = turned_back c a (less_then c b a (turned b c i) (turned a b h))

nat_equal : (a b : ℕ) → nat_cmp a b ≡ Equal → a ≡ b
nat_equal a b h = ranked a b Equal (sym h)

pub slice_equal : (a b : List ℕ) → slice_cmp nat_cmp a b ≡ Equal → a ≡ b
slice_equal [] [] h = refl
slice_equal [] (y ∷ ys) h = cc
slice_equal (x ∷ xs) [] h = cc
slice_equal (x ∷ xs) (y ∷ ys) h = three (nat_cmp x y) (λ e. let c : Less ≡ Equal = rw e at h in cc) (λ e. let i : slice_cmp nat_cmp xs ys ≡ Equal = rw e at h in let t = slice_equal xs ys i in let u = nat_equal x y e in cc) (λ e. let c : Greater ≡ Equal = rw e at h in cc)

pub equal_same : (a b : Key) → key_cmp a b ≡ Equal → a ≡ b
unfolding key_cmp
equal_same a b h = three (nat_cmp (second a) (second b)) (λ e. let c : Less ≡ Equal = rw e at h in cc)
    (λ e. let i = rw e at h in three (nat_cmp (length a) (length b)) (λ f. let c : Less ≡ Equal = rw f at i in cc) (λ f. slice_equal a b (rw f at i)) (λ f. let c : Greater ≡ Equal = rw f at i in cc))
    (λ e. let c : Greater ≡ Equal = rw e at h in cc)
