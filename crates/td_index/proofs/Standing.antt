-- What a tree stands for after a part is added or taken out.
use Rattle.std.proofs.Common.{◌≡◌, ◌∙◌, ℕ, zero, suc, ◌+◌, ◌≤◌, Bool, true, false, cond, List, [], ◌∷◌, refl, sym, ap, arith}
use Rattle.std.specs.Prelude.{is_some}
use Rattle.std.specs.Cmp.{IsTotalOrder}
use Rattle.std.specs.declared.cmp.Ordering.{Ordering}
use Rattle.std.proofs.lemmas.Map.Lookups.{CmpEqualImpliesEq}
use Rattle.tc_base.specs.Lists.{first}
use Rattle.tc_base.specs.Texts.{is_text}
use Rattle.tc_space.specs.Changes.{first_out, has_pair, put_last}
use Rattle.tc_space.specs.Frames.{In, Writes}
use Rattle.tc_space.specs.Stores.{Only, TakesOut}
use Rattle.tc_space.specs.declared.space.Space.{Ghosts}
use Rattle.tc_space.specs.declared.multi.Multi as multi
use Rattle.td_index.specs.Entries.{Firsts, has_zero, Gains, Loses, Stands, entry, less_one, one, owed, owed_parts, times, with_firsts}
use Rattle.td_index.proofs.Counting.{clash, taken_out}
use Rattle.td_index.proofs.Listing.{held_is, is_held, times_last, times_less}
use Rattle.td_index.proofs.Parting.{owed_as, owed_more, parted_entry, with_same}

less_absent : (x : List ℕ) (xs : List (List ℕ)) → times x xs ≡ 0 → less_one x xs ≡ xs
less_absent x [] none = refl
less_absent x (y ∷ ys) none = elim (is_text x y) as (λ t. one t + times x ys ≡ 0 → cond t ys (y ∷ less_one x ys) ≡ y ∷ ys) [
  | true ↦ λ e. absurd (omega (arith, e))
  | false ↦ λ e. ap (λ (l : List (List ℕ)). y ∷ l) (less_absent x ys (omega (arith, e)))
] none

-- with the parts in another order
reordered : (h : Firsts) (key : List ℕ) (fs gs : List (List ℕ)) → ((v : List ℕ) → times v gs ≡ times v fs) → (x : List ℕ) → owed (with_firsts key fs h) x ≡ owed (with_firsts key gs h) x
reordered h key fs gs same x = owed_as (with_firsts key fs h) (with_firsts key gs h) (λ k v. at k v (is_text k key)) x
  where
    at : (k v : List ℕ) (t : Bool) → times v (cond t gs (h k)) ≡ times v (cond t fs (h k))
    at k v true = same v
    at k v false = refl

owed_same : (h : Firsts) (key x : List ℕ) → owed (with_firsts key (h key) h) x ≡ owed h x
owed_same h key x = sym (owed_as h (with_firsts key (h key) h) (with_same h key (h key) refl) x)

owed_entry : (h : Firsts) (part key : List ℕ) → has_zero part ≡ false → owed h (entry part key) ≡ times part (h key)
owed_entry h part key whole = ap (owed_parts h) (parted_entry part key whole)

module _ {S M O : Type 0} (s : Ghosts S) (m : multi.Ghosts M S O) (cmp : List ℕ → List ℕ → Ordering) (total : IsTotalOrder cmp) (exact : CmpEqualImpliesEq cmp) where
  pub gained : (t t' : M) (a b : S) (part key e : List ℕ) → e ≡ entry part key → has_zero part ≡ false → Writes s (Only (m.file_of t)) (In s m.file_of m.holds) (put_last cmp e []) t t' a b → Gains s m part key t t' a b
  gained t t' a b part key e is whole w = record {
    sound = w.sound;
    means = λ h st. record {
      pairs = put_last cmp e [] st.pairs;
      held = w.means st.pairs st.held;
      exact = λ x. omega (arith, times_last cmp total exact x e [] st.pairs, ap (λ (l : List ℕ). one (is_text x l)) is, st.exact x, owed_more h part key x (h key) whole, owed_same h key x);
    };
    others = w.others;
  }

  there : (h : Firsts) (t : M) (a : S) (st : Stands s m t a h) (part key e : List ℕ) → e ≡ entry part key → has_zero part ≡ false → is_some (first st.pairs e) ≡ true → 1 ≤ times part (h key)
  there h t a st part key e is whole has = omega (arith, held_is e st.pairs has, st.exact e, ap (owed h) is, owed_entry h part key whole)

  absent : (h : Firsts) (t : M) (a : S) (st : Stands s m t a h) (part key e : List ℕ) → e ≡ entry part key → has_zero part ≡ false → is_some (first st.pairs e) ≡ false → times part (h key) ≡ 0
  absent h t a st part key e is whole has = none (times part (h key)) refl
    where
      none : (n : ℕ) → times part (h key) ≡ n → times part (h key) ≡ 0
      none zero eq = eq
      none (suc n) eq = clash (is_some (first st.pairs e)) (is_held e st.pairs (omega (arith, eq, st.exact e, ap (owed h) is, owed_entry h part key whole))) has

  owed_less : (h : Firsts) (part key x : List ℕ) → has_zero part ≡ false → 1 ≤ times part (h key) → owed h x ≡ one (is_text x (entry part key)) + owed (with_firsts key (less_one part (h key)) h) x
  owed_less h part key x whole some =
      sym (owed_same h key x)
      ∙ (reordered h key (h key) (part ∷ less_one part (h key)) (λ v. sym (taken_out part v (h key) some)) x
      ∙ owed_more h part key x (less_one part (h key)) whole)

  pub lost : (t t' : M) (a b : S) (part key e : List ℕ) (taken : Bool) → e ≡ entry part key → has_zero part ≡ false → TakesOut s (Only (m.file_of t)) (In s m.file_of m.holds) (has_pair e) (first_out cmp e) taken t t' a b → Loses s m part key t t' a b
  lost t t' a b part key e true is whole out =
      let w = out.out refl in
      record {
        sound = w.sound;
        means = λ h st.
            let has : is_some (first st.pairs e) ≡ true = sym (out.held st.pairs st.held) in
            record {
              pairs = first_out cmp e st.pairs;
              held = w.means st.pairs st.held;
              exact = λ x. omega (arith, times_less cmp total exact x e st.pairs has, ap (λ (l : List ℕ). one (is_text x l)) is, st.exact x, owed_less h part key x whole (there h t a st part key e is whole has));
            };
        others = w.others;
      }
  lost t t' a b part key e false is whole out =
      let r = out.none refl in
      record {
        sound = r.sound;
        means = λ h st.
            let has : is_some (first st.pairs e) ≡ false = sym (out.held st.pairs st.held) in
            let same : less_one part (h key) ≡ h key = less_absent part (h key) (absent h t a st part key e is whole has) in
            record {
              pairs = st.pairs;
              held = r.means st.pairs st.held;
              exact = λ x. st.exact x ∙ (sym (owed_same h key x) ∙ ap (λ (fs : List (List ℕ)). owed (with_firsts key fs h) x) (sym same));
            };
        others = record { same = λ tells g other. r.now tells g };
      }

-- ---- the same parts in another order

module _ {S M O : Type 0} (s : Ghosts S) (m : multi.Ghosts M S O) where
  pub stands_as : (t : M) (a : S) (h g : Firsts) → ((k v : List ℕ) → times v (g k) ≡ times v (h k)) → Stands s m t a h → Stands s m t a g
  stands_as t a h g each st = record { pairs = st.pairs; held = st.held; exact = λ x. st.exact x ∙ owed_as h g each x }
