-- What a line announces and says is within the limits.
use Rattle.std.proofs.Common.{◌≡◌, ℕ, ◌≤◌, Bool, true, false, cond, not, leb, List, [], ◌∷◌, refl, subst}
use Rattle.std.specs.Prelude.{Option, Some, None, codes, ◌&&◌, ◌-◌, ◌^◌}
use Rattle.std.specs.List.{list_all}
use Rattle.std.proofs.lemmas.Bool.{leb-true, and_parts}
use Rattle.tc_base.specs.Decimal.{decimal}
use Rattle.tc_base.specs.Texts.{is_text}
use Rattle.ty_memc.specs.declared.text.Text.{Text}
use Rattle.ty_memc.specs.declared.text.Text.TheVariants.{Get, Delete, Count, Version}
use Rattle.ty_memc.specs.declared.text.Word.{Word}
use Rattle.ty_memc.specs.Fitting.{TextFits, LineFits}
use Rattle.ty_memc.specs.Words.{◌>>=◌, only_if, front, is_end}
use Rattle.ty_memc.specs.Lines.{Line, stores, says, closes, are_digits, number, quiet, is_key, is_time, storing, store_line, counts, begun, or_closes, or_other, plain, line_of}

-- ---- what holds of a line that is put together from options

bind_has : {A : Type 0} (P : Line → Type 0) → P closes → (o : Option A) (f : A → Option Line) → ((x : A) → o ≡ Some x → P (or_closes (f x))) → P (or_closes (o >>= f))
bind_has P none None f h = none
bind_has P none (Some x) f h = h x refl

pub number_le : (digits limit : ℕ) (w : List ℕ) (n : ℕ) → number digits limit w ≡ Some n → n ≤ limit
number_le digits limit w n e = go (only_if (are_digits digits w) (decimal w)) e
  where
    some_same : (a b : ℕ) → ◌≡◌ {A = Option ℕ} (Some a) (Some b) → a ≡ b
    some_same a b e = cc

    within : (m : ℕ) (b : Bool) → leb m limit ≡ b → cond {A = Option ℕ} b (Some m) None ≡ Some n → n ≤ limit
    within m true is e = subst (λ (k : ℕ). k ≤ limit) (some_same m n e) (leb-true m limit is)
    within m false is e = absurd cc

    go : (o : Option ℕ) → (o >>= λ m. only_if (leb m limit) m) ≡ Some n → n ≤ limit
    go None e = absurd cc
    go (Some m) e = within m (leb m limit) refl e

only_has : (P : Line → Type 0) → P closes → (b : Bool) (l : Line) → (b ≡ true → P l) → P (or_closes (only_if b l))
only_has P none true l h = h refl
only_has P none false l h = none

store_has : (P : Line → Type 0) → P closes → (word : Word) (ws : List (List ℕ)) → ((key : List ℕ) (size : ℕ) (q : Bool) → is_key key ≡ true → size ≤ 16777216 → P (stores word key size q)) → P (or_closes (store_line word ws))
store_has P none word ws h =
    bind_has P none (front ws) _ (λ k ek. bind_has P none (front k.1) _ (λ f ef. bind_has P none (front f.1) _ (λ t et. bind_has P none (front t.1) _ (λ s es.
    bind_has P none (number 8 16777216 s.0) _ (λ n en. bind_has P none (quiet s.1) _ (λ q eq.
    only_has P none (is_key k.0 && (are_digits 10 f.0 && is_time t.0)) (stores word k.0 n q) (λ e. h k.0 n q (and_parts (is_key k.0) (are_digits 10 f.0 && is_time t.0) e).0 (number_le 8 16777216 s.0 n en))))))))

-- ---- the keys of a line that says all

-- of what is said, where something is
abbrev SomeFits : Option Text → Type 0
SomeFits None = Unit {0}
SomeFits (Some t) = TextFits t

said_fits : {A : Type 0} (o : Option A) (f : A → Option Text) → ((x : A) → SomeFits (f x)) → SomeFits (o >>= f)
said_fits None f h = tt
said_fits (Some x) f h = h x

kept_fits : (b : Bool) (t : Text) → (b ≡ true → TextFits t) → SomeFits (only_if b t)
kept_fits true t h = h refl
kept_fits false t h = tt

either_fits : (b : Bool) (o p : Option Text) → SomeFits o → SomeFits p → SomeFits (cond b o p)
either_fits true o p h k = h
either_fits false o p h k = k

counts_fit : (down : Bool) (ws : List (List ℕ)) → SomeFits (counts down ws)
counts_fit down ws = said_fits (front ws) _ (λ k. said_fits (front k.1) _ (λ n. said_fits (number 20 (2 ^ 64 - 1) n.0) _ (λ by. said_fits (quiet n.1) _ (λ q. kept_fits (is_key k.0) (Count k.0 by down q) (λ e. e)))))

plain_fits : (w : List ℕ) (ws : List (List ℕ)) → SomeFits (plain w ws)
plain_fits w ws =
    either_fits (is_text w (codes "get")) _ _ (kept_fits (not (is_end ws) && list_all is_key ws) (Get ws) (λ e. (and_parts (not (is_end ws)) (list_all is_key ws) e).1))
    (either_fits (is_text w (codes "delete")) _ _ (said_fits (front ws) _ (λ k. said_fits (quiet k.1) _ (λ q. kept_fits (is_key k.0) (Delete k.0 q) (λ e. e))))
    (either_fits (is_text w (codes "incr")) _ _ (counts_fit false ws)
    (either_fits (is_text w (codes "decr")) _ _ (counts_fit true ws)
    (either_fits (is_text w (codes "flush_all")) _ _ (said_fits (quiet ws) _ (λ q. tt)) (kept_fits (is_text w (codes "version") && is_end ws) Version (λ e. tt))))))

other_fits : (o : Option Text) → SomeFits o → TextFits (or_other o)
other_fits None h = tt
other_fits (Some t) h = h

bare_fits : (b : Bool) (t : Text) → TextFits t → LineFits (cond b closes (says t))
bare_fits true t h = tt
bare_fits false t h = h

pub line_fits : (ws : List (List ℕ)) → LineFits (line_of ws)
unfolding line_of
line_fits [] = tt
line_fits (w ∷ ws) = go (storing w)
  where
    go : (o : Option Word) → LineFits (begun o w ws)
    go (Some word) = store_has LineFits tt word ws (λ key size q fits small. (fits, small))
    go None = bare_fits (is_text w (codes "quit") && is_end ws) (or_other (plain w ws)) (other_fits (plain w ws) (plain_fits w ws))

-- ---- a storing word never says all

abbrev StaysOpen : Line → Type 0
StaysOpen (stores word key size quiet) = Unit {0}
StaysOpen (says text) = ⊥
StaysOpen closes = Unit {0}

pub never_says : (word : Word) (ws : List (List ℕ)) (t : Text) → or_closes (store_line word ws) ≡ says t → ⊥
never_says word ws t e = subst StaysOpen e (store_has StaysOpen tt word ws (λ key size q fits small. tt))
