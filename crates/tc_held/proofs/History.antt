-- What stood at each moment, once what stands is told as well.
use Rattle.std.proofs.Common.{◌≡◌, ◌⊎◌, inl, inr, ⊎_elim, ℕ, suc, ◌+◌, ◌<◌, ◌≤◌, min, List, [], ◌∷◌, ◌++◌, length, refl, sym, ap, subst, ◌∙◌, arith, All, Bool, true, false, Option, length-append}
use Rattle.std.specs.Prelude.{if◌then◌else◌}
use Rattle.std.proofs.lemmas.Bool.{cases_lt, lt-ltb, le-ltb}
use Rattle.std.proofs.lemmas.List.Elements.{All-head, All-nil, All-push, All-tail, All-weaker}
use Rattle.tc_base.specs.Files.{Files}
use Rattle.tc_space.specs.Effects.{FollowsIn, Stays}
use Rattle.tc_space.specs.Frames.{Follows, Keeps}
use Rattle.tc_space.specs.Moments.{LeavesOnly, Past, Steady}
use Rattle.tc_space.specs.declared.space.Space.{Ghosts}
use Rattle.tc_held.specs.Held.{over}
use Rattle.tc_held.specs.History.{IsNoLater, LeftFrom, Rises, files_in, moment_in, stood_at, stood_from}
use Rattle.tc_held.specs.Laws.{now_low, stood_now}
use Rattle.tc_held.specs.declared.held.Held.{Held}

pub on_off : {b : Bool} → b ≡ true → b ≡ false → ⊥
on_off {b} on off = cc

-- ---- of those that were told

module _ {S : Type 0} (s : Ghosts S) where
  -- it stood at this moment or later
  from_here : (n : ℕ) (q : S × Held) (qs : List (S × Held)) (last : S × Held) (t : ℕ) → t ≤ s.moment q.0 + n → stood_from s n (q ∷ qs) last t ≡ q
  from_here n q qs last t le = ap (λ (b : Bool). if b then stood_from s (suc n) qs last t else q) (le-ltb (s.moment q.0 + n) t le)

  -- or earlier
  from_rest : (n : ℕ) (q : S × Held) (qs : List (S × Held)) (last : S × Held) (t : ℕ) → s.moment q.0 + n < t → stood_from s n (q ∷ qs) last t ≡ stood_from s (suc n) qs last t
  from_rest n q qs last t lt = ap (λ (b : Bool). if b then stood_from s (suc n) qs last t else q) (lt-ltb (s.moment q.0 + n) t lt)

  -- once the last is told as well
  stood_before : (n : ℕ) (p : List (S × Held)) (x y : S × Held) (t : ℕ) → t ≤ s.moment x.0 + (n + length p) → stood_from s n (p ++ x ∷ []) y t ≡ stood_from s n p x t
  stood_before n [] x y t le = from_here n x [] y t (omega (arith, le))
  stood_before n (z ∷ p) x y t le = ⊎_elim
      (λ lt. from_rest n z (p ++ x ∷ []) y t lt ∙ (stood_before (suc n) p x y t (omega (arith, le)) ∙ sym (from_rest n z p x t lt)))
      (λ ge. from_here n z (p ++ x ∷ []) y t ge ∙ sym (from_here n z p x t ge))
      (cases_lt (s.moment z.0 + n) t)

  -- behind all of them
  stood_past : (below : S) (n : ℕ) (p : List (S × Held)) (last : S × Held) (t : ℕ) → All (IsNoLater s below) p → s.moment below + (n + length p) ≤ t → stood_from s n p last t ≡ last
  stood_past below n [] last t all le = refl
  stood_past below n (z ∷ p) last t all le =
      let low : s.moment z.0 ≤ s.moment below = All-head (IsNoLater s below) z p all in
      from_rest n z p last t (omega (arith, low, le)) ∙ stood_past below (suc n) p last t (All-tail (IsNoLater s below) z p all) (omega (arith, le))

  low_from : (below : S) (n : ℕ) (p : List (S × Held)) (last : S × Held) (t : ℕ) → All (IsNoLater s below) p → s.moment last.0 ≤ s.moment below → s.moment (stood_from s n p last t).0 ≤ s.moment below
  low_from below n [] last t all low = low
  low_from below n (z ∷ p) last t all low = ⊎_elim
      (λ lt. subst (λ (q : S × Held). s.moment q.0 ≤ s.moment below) (sym (from_rest n z p last t lt)) (low_from below (suc n) p last t (All-tail (IsNoLater s below) z p all) low))
      (λ ge. subst (λ (q : S × Held). s.moment q.0 ≤ s.moment below) (sym (from_here n z p last t ge)) (All-head (IsNoLater s below) z p all))
      (cases_lt (s.moment z.0 + n) t)

module _ {S : Type 0} (s : Ghosts S) (past : List (S × Held)) (below : S) (held : Held) where
  stood_then : (t : ℕ) → t < moment_in s past below → stood_at s past below held t ≡ stood_from s 0 past (below, held) t
  stood_then t lt = ap (λ (b : Bool). if b then stood_from s 0 past (below, held) t else (below, held)) (lt-ltb t (moment_in s past below) lt)

  low_at : All (IsNoLater s below) past → (t : ℕ) → s.moment (stood_at s past below held t).0 ≤ s.moment below
  low_at all t = ⊎_elim
      (λ lt. subst (λ (q : S × Held). s.moment q.0 ≤ s.moment below) (sym (stood_then t lt)) (low_from s below 0 past (below, held) t all (omega arith)))
      (λ ge. subst (λ (q : S × Held). s.moment q.0 ≤ s.moment below) (sym (stood_now s past below held t ge)) (omega arith))
      (cases_lt t (moment_in s past below))

-- where nothing was told
pub stood_none : {S : Type 0} (s : Ghosts S) (past : List (S × Held)) (below : S) (held : Held) (t : ℕ) → length past ≡ 0 → stood_at s past below held t ≡ (below, held)
stood_none s [] below held t none = ⊎_elim (λ lt. stood_then s [] below held t lt) (λ ge. stood_now s [] below held t ge) (cases_lt t (moment_in s [] below))
stood_none s (q ∷ qs) below held t none = absurd (omega (arith, none))

-- what a space that was just opened leaves, the one below leaves
pub held_opened : {S : Type 0} {s : Ghosts S} {past : List (S × Held)} {below : S} {held : Held} (t : ℕ) (o : Option Files) (l : LeftFrom s past below held t o) → length past ≡ 0 → s.left below (min l.at (s.moment below)) o
held_opened {S} {s} {past} {below} {held} t o l none = subst (λ (q : S × Held). s.left below (min l.at (s.moment q.0)) o) (stood_none s past below held l.at none) l.left

pub rises_none : {S : Type 0} (s : Ghosts S) (past : List (S × Held)) (below : S) → past ≡ [] → Rises s past below
rises_none {S} s past below none = record { each = λ t. subst (λ (l : List (S × Held)). All (IsNoLater s below) l) (sym none) (All-nil (IsNoLater s below)) }

-- ---- a call, before which what stands is told

module _ {S T : Type 0} (s : Ghosts S) (past : T → List (S × Held)) (below : T → S) (held : T → Held) (a b : T) (made : past b ≡ past a ++ (below a, held a) ∷ []) where
  abbrev n : ℕ
  n = length (past a)

  abbrev moment_of : T → ℕ
  moment_of x = moment_in s (past x) (below x)

  abbrev files_of : T → ℕ → Files
  files_of x t = files_in s (past x) (below x) (held x) t

  abbrev left_of : T → ℕ → Option Files → Type 0
  left_of x = LeftFrom s (past x) (below x) (held x)

  abbrev stood_of : T → ℕ → S × Held
  stood_of x t = stood_at s (past x) (below x) (held x) t

  one_more : length (past b) ≡ n + 1
  one_more = omega (arith, ap (λ (l : List (S × Held)). length l) made, length-append (past a) ((below a, held a) ∷ []))

  module _ (all : All (IsNoLater s (below a)) (past a)) where
    from_told : (t : ℕ) → t ≤ moment_of a → stood_from s 0 (past a) (below a, held a) t ≡ stood_of a t
    from_told t le = ⊎_elim
        (λ lt. sym (stood_then s (past a) (below a) (held a) t lt))
        (λ ge. stood_past s (below a) 0 (past a) (below a, held a) t all (omega (arith, ge)) ∙ sym (stood_now s (past a) (below a) (held a) t ge))
        (cases_lt t (moment_of a))

    as_stood : s.moment (below a) ≤ s.moment (below b) → (t : ℕ) → t ≤ moment_of a → stood_of b t ≡ stood_of a t
    as_stood later t le =
        stood_then s (past b) (below b) (held b) t (omega (arith, le, later, one_more))
        ∙ (subst (λ (l : List (S × Held)). stood_from s 0 l (below b, held b) t ≡ stood_from s 0 (past a) (below a, held a) t) (sym made) (stood_before s 0 (past a) (below a, held a) (below b, held b) t (omega (arith, le)))
        ∙ from_told t le)

    -- behind what was told
    stood_late : (t : ℕ) → moment_of a < t → stood_of b t ≡ (below b, held b)
    stood_late t late = ⊎_elim
        (λ lt. stood_then s (past b) (below b) (held b) t lt ∙ subst (λ (l : List (S × Held)). stood_from s 0 l (below b, held b) t ≡ (below b, held b)) (sym made)
        (stood_past s (below a) 0 (past a ++ (below a, held a) ∷ []) (below b, held b) t (All-push (IsNoLater s (below a)) (past a) (below a, held a) all (omega arith)) (omega (arith, late, length-append (past a) ((below a, held a) ∷ [])))))
        (λ ge. stood_now s (past b) (below b) (held b) t ge)
        (cases_lt t (moment_of b))

    pub past_told : Past s.moment s.files_at (below a) (below b) → Past moment_of files_of a b
    past_told was = record {
      later = let later = was.later in omega (arith, later, one_more);
      same = λ t le.
          ap (λ (q : S × Held). over q.1 (s.files_at (below b) (s.moment q.0))) (as_stood was.later t le)
          ∙ ap (λ (fs : Files). over (stood_of a t).1 fs) (was.same (s.moment (stood_of a t).0) (low_at s (past a) (below a) (held a) all t));
    }

  -- the space below went on to a later moment, so this one does
  pub rises_told : (s.tells → s.moment (below a) ≤ s.moment (below b)) → Rises s (past a) (below a) → Rises s (past b) (below b)
  rises_told later rises = record {
    each = λ t. subst (λ (l : List (S × Held)). All (IsNoLater s (below b)) l) (sym made)
        (All-push (IsNoLater s (below b)) (past a) (below a, held a)
        (All-weaker (IsNoLater s (below a)) (IsNoLater s (below b)) (λ (q : S × Held) low. omega (arith, low, later t)) (past a) (rises.each t))
        (later t));
  }

  module _ (earlier : (x : S) (t u : ℕ) (o : Option Files) → t ≤ u → s.left x u o → s.left x t o) (rises : Rises s (past a) (below a)) (told : s.tells) where
    -- what it leaves from a moment of the space below on was left before the call
    back : (P : Option Files → Type 0) → LeavesOnly s.moment s.left (below a) (below b) P → (t at : ℕ) (o : Option Files) → t ≤ at → s.left (below b) (min at (s.moment (stood_of a at).0)) o → left_of a t o ⊎ P o
    back P leaves t at o since l =
        let low = low_at s (past a) (below a) (held a) (rises.each told) at in
        ⊎_elim
        (λ was. inl (record { at = at; since = since; left = was }))
        (λ p. inr p)
        (leaves.each (min at (s.moment (stood_of a at).0)) o (omega (arith, low)) l)

    pub leaves_told : (P : Option Files → Type 0) → LeavesOnly s.moment s.left (below a) (below b) P → LeavesOnly moment_of left_of a b P
    leaves_told P leaves = record {
      later = omega (arith, one_more, leaves.later);
      each = λ t o le l. ⊎_elim
          (λ late.
          let from : s.left (below b) (min l.at (s.moment (below b))) o = subst (λ (q : S × Held). s.left (below b) (min l.at (s.moment q.0)) o) (stood_late (rises.each told) l.at late) l.left in
          let low : s.moment (below a) ≤ min l.at (s.moment (below b)) = omega (arith, late, leaves.later) in
          back P leaves t (moment_of a) o le (subst (λ (k : ℕ). s.left (below b) k o) (sym (now_low s (past a) (below a) (held a) (moment_of a) (omega arith))) (earlier (below b) (s.moment (below a)) (min l.at (s.moment (below b))) o low from)))
          (λ early. back P leaves t l.at o l.since (subst (λ (q : S × Held). s.left (below b) (min l.at (s.moment q.0)) o) (as_stood (rises.each told) leaves.later l.at early) l.left))
          (cases_lt (moment_of a) l.at);
    }

  module _ (earlier : (x : S) (t u : ℕ) (o : Option Files) → t ≤ u → s.left x u o → s.left x t o) (rises : Rises s (past a) (below a)) where
    pub steady_told : s.tells → Steady s.moment s.files_at s.left s.kept (below a) (below b) → Steady moment_of files_of left_of (λ x. s.kept (below x)) a b
    steady_told told steady = record {
      same = steady.same;
      leaves = leaves_told earlier rises told (λ o. o ≡ s.kept (below a)) steady.leaves;
      past = past_told (rises.each told) steady.past;
    }

    -- a call that keeps the space below keeps what stands over it
    pub stays_told : Keeps s (below a) (below b) → Stays s.tells moment_of files_of left_of (λ x. s.kept (below x)) (λ x. s.faults (below x)) (λ x. s.limit (below x)) (λ x. s.names (below x)) a b
    stays_told keeps = record {
      steady = λ told. steady_told told (keeps.steady told);
      follows = record { later = keeps.later; same_limit = keeps.same_limit; same_names = keeps.same_names };
    }

  pub follows_told : Follows s (below a) (below b) → FollowsIn (λ x. s.faults (below x)) (λ x. s.limit (below x)) (λ x. s.names (below x)) a b
  follows_told f = record { later = f.later; same_limit = f.same_limit; same_names = f.same_names }
