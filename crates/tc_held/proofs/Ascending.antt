-- Pieces that ascend, parted by a place.
use Rattle.std.proofs.Common.{◌≡◌, ⊎_elim, ℕ, zero, suc, ◌+◌, ◌-◌, ◌<◌, ◌≤◌, List, [], ◌∷◌, ◌++◌, length, take, drop, get_or, sym, ◌∙◌, ap, subst, arith, All}
use Rattle.std.proofs.lemmas.Bool.{cases_lt}
use Rattle.std.proofs.lemmas.List.{drop_all, get_or-drop, length-drop}
use Rattle.std.proofs.lemmas.List.Elements.{All-cons, All-get_or, All-head, All-nil, All-tail, All-weaker}
use Rattle.tc_undo.specs.declared.piece.Piece.{Piece}
use Rattle.tc_held.specs.Pieces.{Ascend, BeginsBehind, Covers, EndsBefore, EndsBehind, InFront, IsAt, NextIs, Parts, blank}

-- ---- what is true of one piece and of all behind it, or in front of it

pub rest_all : (P : Piece → Type 0) → ((p q : Piece) → InFront p q → P p → P q) → (ps : List Piece) (i : ℕ) → Ascend ps → i < length ps → P (get_or ps i blank) → All P (drop i ps)
rest_all P up [] i asc low is = absurd (omega (arith, low))
rest_all P up (p ∷ ps) zero asc low is = All-cons P p ps is (All-weaker (InFront p) P (λ (q : Piece) fr. up p q fr is) ps asc.0)
rest_all P up (p ∷ ps) (suc i) asc low is = rest_all P up ps i asc.1 (omega (arith, low)) is

pub front_all : (P : Piece → Type 0) → ((p q : Piece) → InFront p q → P q → P p) → (ps : List Piece) (i : ℕ) → Ascend ps → i < length ps → P (get_or ps i blank) → All P (take (suc i) ps)
front_all P down [] i asc low is = absurd (omega (arith, low))
front_all P down (p ∷ ps) zero asc low is = All-cons P p [] is (All-nil P)
front_all P down (p ∷ ps) (suc i) asc low is =
    let low' : i < length ps = omega (arith, low) in
    All-cons P p (take (suc i) ps) (down p (get_or ps i blank) (All-get_or (InFront p) ps i blank low' asc.0) is) (front_all P down ps i asc.1 low' is)

before_down : (f at : ℕ) (p q : Piece) → InFront p q → EndsBefore f at q → EndsBefore f at p
before_down f at p q fr is = record {
  files = omega (arith, fr.files, is.files);
  places = λ same.
      let both : p.file ≡ q.file = omega (arith, same, fr.files, is.files) in
      omega (arith, fr.places both, is.places (sym both ∙ same));
}

behind_up : (f at : ℕ) (p q : Piece) → InFront p q → EndsBehind f at p → EndsBehind f at q
behind_up f at p q fr is = record {
  files = omega (arith, fr.files, is.files);
  places = λ same.
      let both : p.file ≡ q.file = omega (arith, same, fr.files, is.files) in
      omega (arith, fr.places both, is.places (both ∙ same));
}

begins_up : (f at : ℕ) (p q : Piece) → InFront p q → BeginsBehind f at p → BeginsBehind f at q
begins_up f at p q fr is = record {
  files = omega (arith, fr.files, is.files);
  places = λ same.
      let both : p.file ≡ q.file = omega (arith, same, fr.files, is.files) in
      omega (arith, fr.places both, is.places (both ∙ same));
}

pub begins_if : (f at end : ℕ) (p : Piece) → EndsBehind f at p → (p.file ≡ f → end ≤ p.at) → BeginsBehind f end p
begins_if f at end p is past = record { files = is.files; places = past }

pub rest_at : (P : Piece → Type 0) (ps : List Piece) (n i : ℕ) → n ≤ i → i < length ps → All P (drop n ps) → P (get_or ps i blank)
rest_at P ps n i from low all =
    let there : n + (i - n) ≡ i = omega (arith, from) in
    subst P (get_or-drop n ps (i - n) blank ∙ ap (λ k. get_or ps k blank) there) (all (i - n) blank (omega (arith, low, from, length-drop n ps)))

-- behind a piece that begins there all do
pub begin_rest : (f at : ℕ) (ps : List Piece) (i : ℕ) → Ascend ps → (i < length ps → BeginsBehind f at (get_or ps i blank)) → i ≤ length ps → All (BeginsBehind f at) (drop i ps)
begin_rest f at ps i asc next inside = ⊎_elim
    (λ low. rest_all (BeginsBehind f at) (begins_up f at) ps i asc low (next low))
    (λ high. subst (λ (l : List Piece). All (BeginsBehind f at) l) (sym (drop_all i ps (omega (arith, high)))) (All-nil (BeginsBehind f at)))
    (cases_lt i (length ps))

-- ---- the search by halves

pub record Halves (f at : ℕ) (ps : List Piece) (low high : ℕ) : Type 0 where
  pub order : low ≤ high
  pub inside : high ≤ length ps
  pub front : All (EndsBefore f at) (take low ps)
  pub rest : All (EndsBehind f at) (drop high ps)

pub halves_none : (f at : ℕ) (ps : List Piece) → Halves f at ps 0 (length ps)
halves_none f at ps = record {
  order = omega arith;
  inside = omega arith;
  front = All-nil (EndsBefore f at);
  rest = subst (λ (l : List Piece). All (EndsBehind f at) l) (sym (drop_all (length ps) ps (omega arith))) (All-nil (EndsBehind f at));
}

module _ (f at : ℕ) (ps : List Piece) (low high middle : ℕ) (asc : Ascend ps) (h : Halves f at ps low high) (from : low ≤ middle) (to : middle < high) where
  pub halves_up : EndsBefore f at (get_or ps middle blank) → Halves f at ps (middle + 1) high
  halves_up is =
      let next : suc middle ≡ middle + 1 = omega arith in
      record {
        order = omega (arith, to);
        inside = h.inside;
        front = subst (λ k. All (EndsBefore f at) (take k ps)) next (front_all (EndsBefore f at) (before_down f at) ps middle asc (omega (arith, to, h.inside)) is);
        rest = h.rest;
      }

  pub halves_down : EndsBehind f at (get_or ps middle blank) → Halves f at ps low middle
  halves_down is = record {
    order = from;
    inside = omega (arith, to, h.inside);
    front = h.front;
    rest = rest_all (EndsBehind f at) (behind_up f at) ps middle asc (omega (arith, to, h.inside)) is;
  }

pub halves_end : (f at : ℕ) (ps : List Piece) (low high : ℕ) → Halves f at ps low high → high ≤ low → Parts f at ps low
halves_end f at ps low high h met = let same : high ≡ low = omega (arith, h.order, met) in
    record { inside = omega (arith, h.order, h.inside); front = h.front; rest = subst (λ k. All (EndsBehind f at) (drop k ps)) same h.rest }

-- ---- a piece more, or one of them

pub all_middle : (P : Piece → Type 0) (front rest : List Piece) (y : Piece) → All P (front ++ rest) → P y → All P (front ++ y ∷ rest)
all_middle P [] rest y all is = All-cons P y rest is all
all_middle P (a ∷ front) rest y all is = All-cons P a (front ++ y ∷ rest) (All-head P a (front ++ rest) all) (all_middle P front rest y (All-tail P a (front ++ rest) all) is)

pub ascend_insert : (front rest : List Piece) (x : Piece) → Ascend (front ++ rest) → All (λ (p : Piece). InFront p x) front → All (InFront x) rest → Ascend (front ++ x ∷ rest)
ascend_insert [] rest x asc before behind = (behind, asc)
ascend_insert (p ∷ front) rest x asc before behind = (
  all_middle (InFront p) front rest x asc.0 (All-head (λ (q : Piece). InFront q x) p front before),
  ascend_insert front rest x asc.1 (All-tail (λ (q : Piece). InFront q x) p front before) behind,
)

-- the others, without it
pub all_without : (P : Piece → Type 0) (front rest : List Piece) (y : Piece) → All P (front ++ y ∷ rest) → All P (front ++ rest)
all_without P [] rest y all = All-tail P y rest all
all_without P (a ∷ front) rest y all = All-cons P a (front ++ rest) (All-head P a (front ++ y ∷ rest) all) (all_without P front rest y (All-tail P a (front ++ y ∷ rest) all))

pub ascend_without : (front rest : List Piece) (x : Piece) → Ascend (front ++ x ∷ rest) → Ascend (front ++ rest)
ascend_without [] rest x asc = asc.1
ascend_without (p ∷ front) rest x asc = (all_without (InFront p) front rest x asc.0, ascend_without front rest x asc.1)

pub all_front : (P : Piece → Type 0) (front rest : List Piece) → All P (front ++ rest) → All P front
all_front P [] rest all = All-nil P
all_front P (a ∷ front) rest all = All-cons P a front (All-head P a (front ++ rest) all) (all_front P front rest (All-tail P a (front ++ rest) all))

pub all_rest : (P : Piece → Type 0) (front rest : List Piece) → All P (front ++ rest) → All P rest
all_rest P [] rest all = all
all_rest P (a ∷ front) rest all = all_rest P front rest (All-tail P a (front ++ rest) all)

-- the one between is behind those in front of it, and in front of the rest
pub ascend_front : (front rest : List Piece) (x : Piece) → Ascend (front ++ x ∷ rest) → All (λ (p : Piece). InFront p x) front
ascend_front [] rest x asc = All-nil (λ (p : Piece). InFront p x)
ascend_front (p ∷ front) rest x asc = All-cons (λ (q : Piece). InFront q x) p front (All-head (InFront p) x rest (all_rest (InFront p) front (x ∷ rest) asc.0)) (ascend_front front rest x asc.1)

pub ascend_rest : (front rest : List Piece) (x : Piece) → Ascend (front ++ x ∷ rest) → All (InFront x) rest
ascend_rest [] rest x asc = asc.0
ascend_rest (p ∷ front) rest x asc = ascend_rest front rest x asc.1

-- ---- the piece at the index where a place parts them

module _ (f at : ℕ) (ps : List Piece) (i : ℕ) (p : Piece) (parts : Parts f at ps i) (is : IsAt ps i p) where
  next_behind : EndsBehind f at p
  next_behind = subst (EndsBehind f at) (sym is.is) (rest_at (EndsBehind f at) ps i i (omega arith) is.inside parts.rest)

  pub covers_next : p.file ≡ f → p.at ≤ at → Covers f at p
  covers_next same begins = record { file = same; begins = begins; ends = next_behind.places same }

  pub begins_next : (p.file ≡ f → at < p.at) → BeginsBehind f (at + 1) p
  begins_next far = record { files = next_behind.files; places = λ same. omega (arith, far same) }

pub next_is : (P : Piece → Type 0) (ps : List Piece) (i : ℕ) (p : Piece) → IsAt ps i p → P p → NextIs P ps i
next_is P ps i p is it = λ low. subst P is.is it

pub next_none : (P : Piece → Type 0) (ps : List Piece) (i : ℕ) → length ps ≤ i → NextIs P ps i
next_none P ps i none = λ low. absurd (omega (arith, low, none))
