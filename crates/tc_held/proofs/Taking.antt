-- Bytes are written over what is held.
use Rattle.std.proofs.Common.{◌≡◌, ◌⊎◌, inl, inr, ⊎_elim, ℕ, suc, ◌+◌, ◌-◌, ◌^◌, ◌<◌, ◌≤◌, List, [], ◌∷◌, ◌++◌, length, take, drop, get_or, set, refl, sym, ◌∙◌, ap, subst, arith, true, All, length-append, length-take}
use Rattle.std.proofs.lemmas.List.{append-nil, drop_all, drop_more, places, same_lists, set_split, take-append-drop, take_all}
use Rattle.std.proofs.lemmas.List.Elements.{All-drop, All-get_or, All-head, All-tail, All-take, All-weaker}
use Rattle.tc_base.specs.Files.{Files, wrote}
use Rattle.ud_log.specs.Undo.{is_data}
use Rattle.ud_log.proofs.Places.{length-wrote}
use Rattle.ud_state.proofs.Changing.{length_write}
use Rattle.tc_undo.specs.Guards.{IsSmall}
use Rattle.tc_undo.specs.Pieces.{LiesIn, laid}
use Rattle.tc_undo.specs.declared.piece.Piece.{Piece}
use Rattle.tc_held.specs.Pieces.{BeginsBehind, Covers, EndsBefore, EndsBelow, EndsHere, HasBytes, InFront, IsAt, Parts, blank}
use Rattle.tc_held.specs.Held.{AreReached, AreTidy, Takes, TakesAll, over_all}
use Rattle.tc_held.specs.declared.held.Held.{Held}
use Rattle.tc_held.proofs.Ascending.{all_middle, all_front, all_rest, all_without, ascend_front, ascend_insert, ascend_rest, ascend_without, begin_rest}
use Rattle.tc_held.proofs.Laying.{between_here, between_reached, between_there, changed_here, changed_reached, changed_there, laid_longer, longer_made, longer_reached, longer_there, needs_between, needs_few, needs_more, reached_as, wrote_more, wrote_none}

-- ---- nothing

pub takes_none : (file at : ℕ) (bytes : List ℕ) (ps : List Piece) → AreTidy bytes ps → TakesAll file at [] bytes ps bytes ps
takes_none file at bytes ps tidy = record {
  tidy = tidy;
  below = λ bound all low. all;
  written = λ under r begins. record { here = sym (wrote_none at (over_all bytes ps under file)); others = λ g other. refl };
  reaches = λ under r begins. r;
}

-- bytes more, of no piece
pub takes_longer : (file at : ℕ) (bytes more : List ℕ) (ps : List Piece) → AreTidy bytes ps → length bytes + length more ≤ 2 ^ 23 → TakesAll file at [] bytes ps (bytes ++ more) ps
takes_longer file at bytes more ps tidy few = record {
  tidy = record {
    small = tidy.small;
    lie = lie_longer;
    full = tidy.full;
    ascend = tidy.ascend;
    few = omega (arith, few, length-append bytes more);
    spent = omega (arith, tidy.spent, length-append bytes more);
  };
  below = λ bound all low. all;
  written = λ under r begins. record {
    here = laid_longer bytes more ps file (under file) tidy.lie ∙ sym (wrote_none at (over_all bytes ps under file));
    others = λ g other. laid_longer bytes more ps g (under g) tidy.lie;
  };
  reaches = λ under r begins f. reached_as bytes (bytes ++ more) ps f (under f) (under f) tidy.lie lie_longer (omega arith) (r f);
}
  where
    lie_longer : All (LiesIn (bytes ++ more)) ps
    lie_longer = All-weaker (LiesIn bytes) (LiesIn (bytes ++ more)) (λ (p : Piece) lies. omega (arith, lies, length-append bytes more)) ps tidy.lie

-- ---- a piece more

module _ (file at : ℕ) (x bytes : List ℕ) (front rest : List Piece) (isd : is_data file ≡ true) (some : 1 ≤ length x) (small : at + length x ≤ 2 ^ 40) (few : length bytes + length x ≤ 2 ^ 23) (tidy : AreTidy bytes (front ++ rest)) (before : All (EndsBefore file at) front) (behind : All (BeginsBehind file (at + length x)) rest)
    (lie_front : All (LiesIn bytes) front) (lie_rest : All (LiesIn bytes) rest) where
  abbrev q : Piece
  q = record { file = file; at = at; from = length bytes; size = length x }

  in_front : All (λ (p : Piece). InFront p q) front
  in_front = λ k d low. let b = before k d low in record { files = b.files; places = b.places; beside = inl (lie_front k d low) }

  in_rest : All (InFront q) rest
  in_rest = λ k d low. let b = behind k d low in record { files = b.files; places = λ same. b.places (sym same); beside = inr (lie_rest k d low) }

  begins : All (BeginsBehind file at) rest
  begins = All-weaker (BeginsBehind file (at + length x)) (BeginsBehind file at) (λ (p : Piece) b. record { files = b.files; places = λ same. omega (arith, b.places same) }) rest behind

  reaches_between : (under : Files) → AreReached bytes (front ++ rest) under → at ≤ length (over_all bytes (front ++ rest) under file) → AreReached (bytes ++ x) (front ++ q ∷ rest) under
  reaches_between under r low f =
      between_reached bytes x front rest q refl refl tidy.lie f (under f) (r f) (λ same. subst (λ h. All (BeginsBehind h at) rest) same begins)
      (λ same. subst (λ h. at ≤ length (laid bytes (front ++ rest) h (under h))) same low)

  tidy_between : AreTidy (bytes ++ x) (front ++ q ∷ rest)
  tidy_between = record {
    small = all_middle IsSmall front rest q tidy.small (record { data_file = isd; small = small });
    lie = all_middle (LiesIn (bytes ++ x)) front rest q (All-weaker (LiesIn bytes) (LiesIn (bytes ++ x)) (λ (p : Piece) lies. omega (arith, lies, length-append bytes x)) (front ++ rest) tidy.lie) (omega (arith, length-append bytes x));
    full = all_middle HasBytes front rest q tidy.full (record { some = some });
    ascend = ascend_insert front rest q tidy.ascend in_front in_rest;
    few = omega (arith, few, length-append bytes x);
    spent = omega (arith, tidy.spent, length-append bytes x, needs_between front rest q, needs_few (length x));
  }

  pub takes_between : TakesAll file at x bytes (front ++ rest) (bytes ++ x) (front ++ q ∷ rest)
  takes_between = record {
    tidy = tidy_between;
    below = λ bound all low. all_middle (EndsBelow bound) front rest q all low;
    written = λ under r low. record {
      here = between_here bytes x front rest q refl refl tidy.lie file (under file) (r file) refl behind;
      others = λ g other. between_there bytes x front rest q refl refl tidy.lie g (under g) (λ is. other (sym is));
    };
    reaches = reaches_between;
  }

-- ---- other bytes for a piece

module _ (file at : ℕ) (x bytes : List ℕ) (front rest : List Piece) (p : Piece) (k : ℕ) (is : p.file ≡ file) (at_is : at ≡ p.at + k) (fits : k + length x ≤ p.size) (tidy : AreTidy bytes (front ++ p ∷ rest)) (lies : LiesIn bytes p) where
  abbrev other_bytes : List ℕ
  other_bytes = wrote (p.from + k) x bytes

  as_long : length other_bytes ≡ length bytes
  as_long = length-wrote (p.from + k) x bytes (omega (arith, fits, lies))

  tidy_changed : AreTidy other_bytes (front ++ p ∷ rest)
  tidy_changed = record {
    small = tidy.small;
    lie = All-weaker (LiesIn bytes) (LiesIn other_bytes) (λ (r : Piece) its. omega (arith, its, as_long)) (front ++ p ∷ rest) tidy.lie;
    full = tidy.full;
    ascend = tidy.ascend;
    few = omega (arith, tidy.few, as_long);
    spent = omega (arith, tidy.spent, as_long);
  }

  here_changed : (under : Files) → AreReached bytes (front ++ p ∷ rest) under → over_all other_bytes (front ++ p ∷ rest) under file ≡ wrote (p.at + k) x (over_all bytes (front ++ p ∷ rest) under file)
  here_changed under r = changed_here bytes x front rest p k tidy.lie (ascend_front front rest p tidy.ascend) (ascend_rest front rest p tidy.ascend) fits file (under file) is (r file)

  pub takes_changed : TakesAll file at x bytes (front ++ p ∷ rest) other_bytes (front ++ p ∷ rest)
  takes_changed = record {
    tidy = tidy_changed;
    below = λ bound all low. all;
    written = λ under r low. record {
      here = here_changed under r ∙ ap (λ n. wrote n x (over_all bytes (front ++ p ∷ rest) under file)) (sym at_is);
      others = λ g other. changed_there bytes x front rest p k tidy.lie (ascend_front front rest p tidy.ascend) (ascend_rest front rest p tidy.ascend) fits g (under g) (λ same. other (sym same ∙ is));
    };
    reaches = λ under r low f. changed_reached bytes x front rest p k tidy.lie (ascend_front front rest p tidy.ascend) (ascend_rest front rest p tidy.ascend) fits f (under f) (front ++ p ∷ rest) tidy.lie (r f);
  }

-- ---- a piece that becomes longer

module _ (file at : ℕ) (x bytes : List ℕ) (front rest : List Piece) (p : Piece) (is : p.file ≡ file) (ends : p.at + p.size ≡ at) (last : p.from + p.size ≡ length bytes) (small : at + length x ≤ 2 ^ 40) (few : length bytes + length x ≤ 2 ^ 23) (tidy : AreTidy bytes (front ++ p ∷ rest)) (behind : All (BeginsBehind file (at + length x)) rest) where
  abbrev longer : Piece
  longer = record { file = p.file; at = p.at; from = p.from; size = p.size + length x }

  -- all others lie in front of its bytes
  lower : (r : Piece) → LiesIn bytes r → HasBytes r → (r.from + r.size ≤ p.from) ⊎ (p.from + p.size ≤ r.from) → r.from + r.size ≤ p.from
  lower r lies full side = ⊎_elim (λ low. low) (λ high. absurd (omega (arith, high, lies, full.some, last))) side

  before_it : All (λ (r : Piece). InFront r longer) front
  before_it = λ k d low.
      let b = ascend_front front rest p tidy.ascend k d low in
      record { files = b.files; places = b.places; beside = inl (lower (get_or front k d) (all_front (LiesIn bytes) front (p ∷ rest) tidy.lie k d low) (all_front HasBytes front (p ∷ rest) tidy.full k d low) b.beside) }

  behind_it : All (InFront longer) rest
  behind_it = λ k d low.
      let b = ascend_rest front rest p tidy.ascend k d low in
      let lies = All-tail (LiesIn bytes) p rest (all_rest (LiesIn bytes) front (p ∷ rest) tidy.lie) k d low in
      let full = All-tail HasBytes p rest (all_rest HasBytes front (p ∷ rest) tidy.full) k d low in
      record {
        files = b.files;
        places = λ same. omega (arith, ends, (behind k d low).places (sym same ∙ is));
        beside = inr (lower (get_or rest k d) lies full (⊎_elim (λ high. inr high) (λ first. inl first) b.beside));
      }

  tidy_longer : AreTidy (bytes ++ x) (front ++ longer ∷ rest)
  tidy_longer = record {
    small = all_middle IsSmall front rest longer (all_without IsSmall front rest p tidy.small) (record { data_file = (All-head IsSmall p rest (all_rest IsSmall front (p ∷ rest) tidy.small)).data_file; small = omega (arith, small, ends) });
    lie = all_middle (LiesIn (bytes ++ x)) front rest longer (All-weaker (LiesIn bytes) (LiesIn (bytes ++ x)) (λ (r : Piece) lies. omega (arith, lies, length-append bytes x)) (front ++ rest) (all_without (LiesIn bytes) front rest p tidy.lie)) (omega (arith, last, length-append bytes x));
    full = all_middle HasBytes front rest longer (all_without HasBytes front rest p tidy.full) (record { some = omega (arith, (All-head HasBytes p rest (all_rest HasBytes front (p ∷ rest) tidy.full)).some) });
    ascend = ascend_insert front rest longer (ascend_without front rest p tidy.ascend) before_it behind_it;
    few = omega (arith, few, length-append bytes x);
    spent = omega (arith, tidy.spent, length-append bytes x, needs_between front rest p, needs_between front rest longer, needs_more p.size (length x));
  }

  pub takes_longer_piece : TakesAll file at x bytes (front ++ p ∷ rest) (bytes ++ x) (front ++ longer ∷ rest)
  takes_longer_piece = record {
    tidy = tidy_longer;
    below = λ bound all low. all_middle (EndsBelow bound) front rest longer (all_without (EndsBelow bound) front rest p all) (subst (λ h. p.at + (p.size + length x) ≤ bound h) (sym is) (omega (arith, low, ends)));
    written = λ under r low. record {
      here = longer_made bytes x front rest p last tidy.lie file (under file) (r file) is (subst (λ n. All (BeginsBehind file (n + length x)) rest) (sym ends) behind) ∙ ap (λ n. wrote n x (over_all bytes (front ++ p ∷ rest) under file)) ends;
      others = λ g other. longer_there bytes x front rest p last tidy.lie g (under g) (λ same. other (sym same ∙ is));
    };
    reaches = λ under r low f. longer_reached bytes x front rest p last tidy.lie f (under f) (r f);
  }

-- ---- at an index

pub takes_at : (file at : ℕ) (x bytes : List ℕ) (ps : List Piece) (i : ℕ) → AreTidy bytes ps → is_data file ≡ true → 1 ≤ length x → at + length x ≤ 2 ^ 40 → length bytes + length x ≤ 2 ^ 23 → Parts file at ps i → (i < length ps → BeginsBehind file (at + length x) (get_or ps i blank))
    → TakesAll file at x bytes ps (bytes ++ x) (take i ps ++ record { file = file; at = at; from = length bytes; size = length x } ∷ drop i ps)
takes_at file at x bytes ps i tidy isd some small few parts next =
    let whole = take-append-drop i ps in
    subst (λ (l : List Piece). TakesAll file at x bytes l (bytes ++ x) (take i ps ++ record { file = file; at = at; from = length bytes; size = length x } ∷ drop i ps)) whole
    (takes_between file at x bytes (take i ps) (drop i ps) isd some small few (subst (λ (l : List Piece). AreTidy bytes l) (sym whole) tidy) parts.front (begin_rest file (at + length x) ps i tidy.ascend next parts.inside)
    (All-take (LiesIn bytes) i ps tidy.lie) (All-drop (LiesIn bytes) i ps tidy.lie))

pub takes_end : (file at : ℕ) (x bytes : List ℕ) (ps : List Piece) (i : ℕ) (p : Piece) → AreTidy bytes ps → EndsHere bytes ps i file at p → at + length x ≤ 2 ^ 40 → length bytes + length x ≤ 2 ^ 23 → (i < length ps → BeginsBehind file (at + length x) (get_or ps i blank))
    → TakesAll file at x bytes ps (bytes ++ x) (set ps (i - 1) (record { file = p.file; at = p.at; from = p.from; size = p.size + length x }))
takes_end file at x bytes ps i p tidy here small few next =
    let j : ℕ = i - 1 in
    let on : suc j ≡ i = omega (arith, here.front) in
    let whole : take j ps ++ p ∷ drop i ps ≡ ps = ap (λ (l : List Piece). take j ps ++ l) (split j on here.is) ∙ take-append-drop j ps in
    let new : Piece = record { file = p.file; at = p.at; from = p.from; size = p.size + length x } in
    let made : set ps j new ≡ take j ps ++ new ∷ drop i ps = set_split ps j new here.is.inside ∙ ap (λ k. take j ps ++ new ∷ drop k ps) on in
    subst (λ (l : List Piece). TakesAll file at x bytes ps (bytes ++ x) l) (sym made)
    (subst (λ (l : List Piece). TakesAll file at x bytes l (bytes ++ x) (take j ps ++ new ∷ drop i ps)) whole
    (takes_longer_piece file at x bytes (take j ps) (drop i ps) p here.file here.ends here.last small few (subst (λ (l : List Piece). AreTidy bytes l) (sym whole) tidy) (begin_rest file (at + length x) ps i tidy.ascend next (omega (arith, on, here.is.inside)))))
  where
    split : (j : ℕ) → suc j ≡ i → IsAt ps j p → p ∷ drop i ps ≡ drop j ps
    split j on is =
        let next : j + 1 ≡ i = omega (arith, on) in
        ap (λ (q : Piece). q ∷ drop i ps) is.is ∙ ap (λ k. get_or ps j blank ∷ drop k ps) (sym next) ∙ sym (drop_more ps j blank is.inside)

pub takes_over : (file at : ℕ) (x bytes : List ℕ) (ps : List Piece) (i : ℕ) → AreTidy bytes ps → i < length ps → let p = get_or ps i blank in Covers file at p → at - p.at + length x ≤ p.size → TakesAll file at x bytes ps (wrote (p.from + (at - p.at)) x bytes) ps
takes_over file at x bytes ps i tidy low covers fits =
    let p = get_or ps i blank in
    let whole : take i ps ++ p ∷ drop (i + 1) ps ≡ ps = ap (λ (l : List Piece). take i ps ++ l) (sym (drop_more ps i blank low)) ∙ take-append-drop i ps in
    subst (λ (l : List Piece). TakesAll file at x bytes l (wrote (p.from + (at - p.at)) x bytes) l) whole
    (takes_changed file at x bytes (take i ps) (drop (i + 1) ps) p (at - p.at) covers.file (omega (arith, covers.begins)) fits (subst (λ (l : List Piece). AreTidy bytes l) (sym whole) tidy) (All-get_or (LiesIn bytes) ps i blank low tidy.lie))

-- ---- one after the other

pub takes_then : (file at : ℕ) (x y : List ℕ) (b0 b1 b2 : List ℕ) (p0 p1 p2 : List Piece) → TakesAll file at x b0 p0 b1 p1 → TakesAll file (at + length x) y b1 p1 b2 p2 → TakesAll file at (x ++ y) b0 p0 b2 p2
takes_then file at x y b0 b1 b2 p0 p1 p2 first second = record {
  tidy = second.tidy;
  below = λ bound all low. second.below bound (first.below bound all (omega (arith, low, length-append x y))) (omega (arith, low, length-append x y));
  written = λ under r low.
      let w1 = first.written under r low in
      let w2 = second.written under (first.reaches under r low) (next under r low) in
      record {
        here = w2.here ∙ ap (λ (l : List ℕ). wrote (at + length x) y l) w1.here ∙ wrote_more at x y (over_all b0 p0 under file) low;
        others = λ g other. w2.others g other ∙ w1.others g other;
      };
  reaches = λ under r low. second.reaches under (first.reaches under r low) (next under r low);
}
  where
    next : (under : Files) → AreReached b0 p0 under → at ≤ length (over_all b0 p0 under file) → at + length x ≤ length (over_all b1 p1 under file)
    next under r low = omega (arith, ap (λ (l : List ℕ). length l) (first.written under r low).here, length_write at x (over_all b0 p0 under file) low)

-- ---- as the code has them

-- a vector behind a slice of all of it
pub all_set : (n : ℕ) (xs ys : List Piece) → length ys ≡ length xs → n ≡ length ys → take n (ys ++ drop (length ys) xs) ≡ ys
all_set n xs ys long is = ap (λ (l : List Piece). take n (ys ++ l)) (drop_all (length ys) xs (omega (arith, long))) ∙ ap (λ (l : List Piece). take n l) (append-nil ys) ∙ take_all n ys (omega (arith, is))

pub takes_as : (file at : ℕ) (x x' b0 b b' : List ℕ) (p0 p p' : List Piece) → x' ≡ x → b' ≡ b → p' ≡ p → TakesAll file at x b0 p0 b p → TakesAll file at x' b0 p0 b' p'
takes_as file at x x' b0 b b' p0 p p' ex eb ep it =
    subst (λ (y : List ℕ). TakesAll file at y b0 p0 b' p') (sym ex) (subst (λ (c : List ℕ). TakesAll file at x b0 p0 c p') (sym eb) (subst (λ (l : List Piece). TakesAll file at x b0 p0 b l) (sym ep) it))

pub lies_at : (bytes : List ℕ) (ps : List Piece) (i : ℕ) (p : Piece) → AreTidy bytes ps → IsAt ps i p → LiesIn bytes p
lies_at bytes ps i p tidy is = subst (LiesIn bytes) (sym is.is) (All-get_or (LiesIn bytes) ps i blank is.inside tidy.lie)

pub takes_over_at : (file at : ℕ) (x bytes : List ℕ) (ps : List Piece) (i : ℕ) (p : Piece) → AreTidy bytes ps → IsAt ps i p → Covers file at p → at - p.at + length x ≤ p.size → TakesAll file at x bytes ps (wrote (p.from + (at - p.at)) x bytes) ps
takes_over_at file at x bytes ps i p tidy is covers fits =
    subst (λ (q : Piece). Covers file at q → at - q.at + length x ≤ q.size → TakesAll file at x bytes ps (wrote (q.from + (at - q.at)) x bytes) ps) (sym is.is) (takes_over file at x bytes ps i tidy is.inside) covers fits

take_on : (done n : ℕ) (all : List ℕ) → done + n ≤ length all → take done all ++ take n (drop done all) ≡ take (done + n) all
take_on done n all fits = same_lists _ _ (grind (arith, places)) (λ k d low. grind (arith, places))

pub takes_on : (file at : ℕ) (all rest : List ℕ) (done n : ℕ) (h0 h1 h2 : Held) → done ≤ length all → rest ≡ drop done all → Takes file at (take done all) h0 h1 → Takes file (at + done) (take n rest) h1 h2 → done + n ≤ length all → Takes file at (take (done + n) all) h0 h2
takes_on file at all rest done n h0 h1 h2 le is first second fits =
    let long : length (take done all) ≡ done = length-take done all ∙ omega (arith, le) in
    let next = subst (λ k. Takes file (at + k) (take n (drop done all)) h1 h2) (sym long) (subst (λ (l : List ℕ). Takes file (at + done) (take n l) h1 h2) is second) in
    subst (λ (l : List ℕ). Takes file at l h0 h2) (take_on done n all fits)
    (takes_then file at (take done all) (take n (drop done all)) h0.bytes.items h1.bytes.items h2.bytes.items h0.pieces.items h1.pieces.items h2.pieces.items first next)
