-- Bytes that show a file show it with pieces laid over it.
use Rattle.std.proofs.Common.{All, ◌≡◌, ⊎_elim, ℕ, ◌+◌, ◌-◌, ◌<◌, ◌≤◌, ◌⊎◌, inl, inr, min, max, List, [], ◌∷◌, ◌++◌, length, take, drop, get_or, refl, sym, ◌∙◌, ap, subst, arith}
use borrow.Rule.Slice.PartMut.{put_mid}
use Rattle.std.proofs.lemmas.Bool.{cases_eq, cases_lt}
use Rattle.std.proofs.lemmas.List.{append-nil, places, same_lists, length-take, length-drop, get_or-take, get_or-drop, take-append-drop}
use Rattle.std.proofs.lemmas.List.Elements.{All-drop, All-head, All-tail, All-take, All-weaker}
use Rattle.tc_base.specs.Files.{wrote}
use Rattle.tc_undo.specs.Pieces.{LiesIn, laid, laid_one, part, reached}
use Rattle.tc_io.proofs.Writes.{part_written}
use Rattle.ud_log.proofs.Places.{wrote_before, wrote_inside, wrote_behind}
use Rattle.ud_state.proofs.Changing.{length_write}
use Rattle.tc_undo.proofs.Putting.{laid_here, laid_there}
use Rattle.tc_undo.specs.declared.piece.Piece.{Piece}
use Rattle.tc_held.specs.Lengths.{part_size}
use Rattle.tc_held.specs.Pieces.{Ascend, BeginsBehind, EndsBefore, Misses, Parts, blank}
use Rattle.tc_held.specs.Shown.{LaysOne, LaysSome, Shows}
use Rattle.tc_held.proofs.Ascending.{begin_rest}

-- bytes that show the whole stretch are the stretch
pub shown_all : (into : List ℕ) (at : ℕ) (old : List ℕ) → at + length into ≤ length old → Shows into at old → into ≡ take (length into) (drop at old)
shown_all into at old fits shows = same_lists _ _ (grind (arith, places)) (λ k d low. grind (arith, places, shows.each k))

part_at : (bytes : List ℕ) (p : Piece) (j : ℕ) → j < p.size → get_or (part bytes p) j 0 ≡ get_or bytes (p.from + j) 0
part_at bytes p j low = get_or-take p.size (drop p.from bytes) j 0 low ∙ get_or-drop p.from bytes j 0

-- one piece, of this file
module _ (bytes old into new : List ℕ) (p : Piece) (at from to : ℕ) (lies : LiesIn bytes p) (begins : p.at ≤ length old) (from_is : from ≡ max p.at at) (to_is : to ≡ min (p.at + p.size) (at + length into)) (long : length new ≡ length into)
    (stays : (k : ℕ) → k < length into → (at + k < from) ⊎ (to ≤ at + k) → get_or new k 0 ≡ get_or into k 0)
    (gets : (k : ℕ) → k < length into → from ≤ at + k → at + k < to → get_or new k 0 ≡ get_or bytes (p.from + (at + k - p.at)) 0) (shows : Shows into at old) where
  abbrev data_is : List ℕ
  data_is = part bytes p

  at_place : (k : ℕ) → k < length new → at + k < length (wrote p.at data_is old) → get_or new k 0 ≡ get_or (wrote p.at data_is old) (at + k) 0
  at_place k low high =
      let size : length data_is ≡ p.size = part_size bytes p lies in
      let whole : length (wrote p.at data_is old) ≡ max (length old) (p.at + length data_is) = length_write p.at data_is old begins in
      ⊎_elim
      (λ before. stays k (omega (arith, low, long)) (inl before) ∙ shows.each k (omega (arith, low, long)) (omega (arith, before, from_is, begins)) ∙ sym (wrote_before p.at data_is old (at + k) begins (omega (arith, before, from_is))))
      (λ after. ⊎_elim
      (λ inside.
      gets k (omega (arith, low, long)) after inside ∙ sym (part_at bytes p (at + k - p.at) (omega (arith, after, inside, from_is, to_is)))
      ∙ sym (wrote_inside p.at data_is old (at + k) begins (omega (arith, after, from_is)) (omega (arith, inside, to_is, size))))
      (λ behind. stays k (omega (arith, low, long)) (inr behind) ∙ shows.each k (omega (arith, low, long)) (omega (arith, behind, to_is, low, long, high, whole, size)) ∙ sym (wrote_behind p.at data_is old (at + k) begins (omega (arith, behind, to_is, low, long, size))))
      (cases_lt (at + k) to))
      (cases_lt (at + k) from)

  pub lay_shows : Shows new at (wrote p.at data_is old)
  lay_shows = record { each = at_place }

pub lays_here : (bytes : List ℕ) (p : Piece) (f at : ℕ) (into new : List ℕ) → p.file ≡ f → ((old : List ℕ) → p.at ≤ length old → Shows into at old → Shows new at (wrote p.at (part bytes p) old)) → LaysOne bytes p f at into new
lays_here bytes p f at into new is lays = record { each = λ old begins shows. subst (λ (l : List ℕ). Shows new at l) (sym (laid_here bytes p f old is)) (lays old (begins is) shows) }

pub lays_there : (bytes : List ℕ) (p : Piece) (f at : ℕ) (into : List ℕ) → (p.file ≡ f → ⊥) → LaysOne bytes p f at into into
lays_there bytes p f at into other = record { each = λ old begins shows. subst (λ (l : List ℕ). Shows into at l) (sym (laid_there bytes p f old other)) shows }

-- a piece that has nothing of the stretch
module _ (bytes old into : List ℕ) (p : Piece) (at : ℕ) (lies : LiesIn bytes p) (begins : p.at ≤ length old) (none : min (p.at + p.size) (at + length into) ≤ max p.at at) (shows : Shows into at old) where
  pub lay_none : Shows into at (wrote p.at (part bytes p) old)
  lay_none = lay_shows bytes old into into p at (max p.at at) (min (p.at + p.size) (at + length into)) lies begins refl refl refl (λ k low out. refl) (λ k low after inside. absurd (omega (arith, none, after, inside))) shows

-- ---- all pieces

pub some_none : (bytes : List ℕ) (ps : List Piece) (f at : ℕ) (old into : List ℕ) → reached bytes ps f old → Shows into at old → LaysSome bytes ps f at old into ps
some_none bytes ps f at old into r shows = record { mid = old; shows = shows; reached_rest = r; same = refl }

pub some_more : (bytes : List ℕ) (ps : List Piece) (f at : ℕ) (old into new : List ℕ) (p : Piece) (rest : List Piece) → LaysSome bytes ps f at old into (p ∷ rest) → LaysOne bytes p f at into new → LaysSome bytes ps f at old new rest
some_more bytes ps f at old into new p rest some lays = record { mid = laid_one bytes p f some.mid; shows = lays.each some.mid some.reached_rest.0 some.shows; reached_rest = some.reached_rest.1; same = some.same }

pub some_all : (bytes : List ℕ) (ps : List Piece) (f at : ℕ) (old into : List ℕ) → LaysSome bytes ps f at old into [] → Shows into at (laid bytes ps f old)
some_all bytes ps f at old into some = subst (λ (l : List ℕ). Shows into at l) some.same some.shows

-- the part of a piece that lies in the stretch is copied
module _ (bytes into src : List ℕ) (p : Piece) (at from to place n start : ℕ) (place_is : place ≡ from - at) (n_is : n ≡ to - from) (start_is : start ≡ p.from + (from - p.at)) (from_is : from ≡ max p.at at) (to_is : to ≡ min (p.at + p.size) (at + length into)) (some : from < to) (lies : LiesIn bytes p)
    (src_is : src ≡ take (start + n - start) (drop start bytes)) where
  src_long : length src ≡ n
  src_long = ap length src_is ∙ length-take (start + n - start) (drop start bytes) ∙ omega (arith, length-drop start bytes, start_is, n_is, from_is, to_is, some, lies)

  is_wrote : put_mid place (place + n - place) into src ≡ wrote place src into
  is_wrote = part_written place n into src src_long

  fits : place + n ≤ length into
  fits = omega (arith, place_is, n_is, from_is, to_is, some)

  copied_long : length (put_mid place (place + n - place) into src) ≡ length into
  copied_long = ap length is_wrote ∙ length_write place src into (omega (arith, fits)) ∙ omega (arith, fits, src_long)

  src_at : (j : ℕ) → j < n → get_or src j 0 ≡ get_or bytes (start + j) 0
  src_at j low = ap (λ (l : List ℕ). get_or l j 0) src_is ∙ get_or-take (start + n - start) (drop start bytes) j 0 (omega (arith, low)) ∙ get_or-drop start bytes j 0

  copied_stays : (k : ℕ) → k < length into → (at + k < from) ⊎ (to ≤ at + k) → get_or (put_mid place (place + n - place) into src) k 0 ≡ get_or into k 0
  copied_stays k low out =
      ap (λ (l : List ℕ). get_or l k 0) is_wrote
      ∙ ⊎_elim (λ before. wrote_before place src into k (omega (arith, fits)) (omega (arith, before, place_is, from_is))) (λ behind. wrote_behind place src into k (omega (arith, fits)) (omega (arith, behind, place_is, n_is, src_long, from_is, some))) out

  copied_gets : (k : ℕ) → k < length into → from ≤ at + k → at + k < to → get_or (put_mid place (place + n - place) into src) k 0 ≡ get_or bytes (p.from + (at + k - p.at)) 0
  copied_gets k low after inside =
      let there : start + (k - place) ≡ p.from + (at + k - p.at) = omega (arith, start_is, place_is, from_is, after) in
      ap (λ (l : List ℕ). get_or l k 0) is_wrote
      ∙ wrote_inside place src into k (omega (arith, fits)) (omega (arith, after, place_is, from_is)) (omega (arith, inside, place_is, n_is, src_long, from_is))
      ∙ src_at (k - place) (omega (arith, after, inside, place_is, n_is, from_is)) ∙ ap (λ j. get_or bytes j 0) there

  pub copied_shows : (old : List ℕ) → p.at ≤ length old → Shows into at old → Shows (put_mid place (place + n - place) into src) at (wrote p.at (part bytes p) old)
  copied_shows old begins shows = lay_shows bytes old into (put_mid place (place + n - place) into src) p at from to lies begins from_is to_is copied_long copied_stays copied_gets shows

-- ---- pieces that have nothing of the stretch

pub lays_miss : (bytes : List ℕ) (p : Piece) (f at : ℕ) (into : List ℕ) → LiesIn bytes p → Misses f at (at + length into) p → LaysOne bytes p f at into into
lays_miss bytes p f at into lies misses = ⊎_elim
    (λ is. lays_here bytes p f at into into is (λ old begins shows. lay_none bytes old into p at lies begins (none (misses.each is)) shows))
    (λ other. lays_there bytes p f at into other)
    (cases_eq p.file f)
  where
    none : (p.at + p.size ≤ at) ⊎ (at + length into ≤ p.at) → min (p.at + p.size) (at + length into) ≤ max p.at at
    none apart = ⊎_elim (λ before. omega (arith, before)) (λ behind. omega (arith, behind)) apart

pub some_skip : (bytes : List ℕ) (ps : List Piece) (f at : ℕ) (old into : List ℕ) (front rest : List Piece) → All (LiesIn bytes) front → All (Misses f at (at + length into)) front → LaysSome bytes ps f at old into (front ++ rest) → LaysSome bytes ps f at old into rest
some_skip bytes ps f at old into [] rest lie miss some = some
some_skip bytes ps f at old into (p ∷ front) rest lie miss some =
    some_skip bytes ps f at old into front rest (All-tail (LiesIn bytes) p front lie) (All-tail (Misses f at (at + length into)) p front miss)
    (some_more bytes ps f at old into into p (front ++ rest) some (lays_miss bytes p f at into (All-head (LiesIn bytes) p front lie) (All-head (Misses f at (at + length into)) p front miss)))

miss_before : (f at end : ℕ) (p : Piece) → EndsBefore f at p → Misses f at end p
miss_before f at end p is = record { each = λ same. inl (is.places same) }

miss_behind : (f at end : ℕ) (p : Piece) → BeginsBehind f end p → Misses f at end p
miss_behind f at end p is = record { each = λ same. inr (is.places same) }

-- those in front of the first that ends behind the place
pub some_first : (bytes : List ℕ) (ps : List Piece) (f at : ℕ) (old into : List ℕ) (i : ℕ) → All (LiesIn bytes) ps → Parts f at ps i → reached bytes ps f old → Shows into at old → LaysSome bytes ps f at old into (drop i ps)
some_first bytes ps f at old into i lie parts r shows =
    some_skip bytes ps f at old into (take i ps) (drop i ps) (All-take (LiesIn bytes) i ps lie)
    (All-weaker (EndsBefore f at) (Misses f at (at + length into)) (λ (p : Piece) is. miss_before f at (at + length into) p is) (take i ps) parts.front)
    (subst (λ (l : List Piece). LaysSome bytes ps f at old into l) (sym (take-append-drop i ps)) (some_none bytes ps f at old into r shows))

-- those from the first on that begins behind the stretch
pub some_last : (bytes : List ℕ) (ps : List Piece) (f at : ℕ) (old into : List ℕ) (i : ℕ) → All (LiesIn bytes) ps → Ascend ps → i ≤ length ps → (i < length ps → BeginsBehind f (at + length into) (get_or ps i blank)) → LaysSome bytes ps f at old into (drop i ps) → Shows into at (laid bytes ps f old)
some_last bytes ps f at old into i lie asc inside next some =
    some_all bytes ps f at old into
    (some_skip bytes ps f at old into (drop i ps) [] (All-drop (LiesIn bytes) i ps lie)
    (All-weaker (BeginsBehind f (at + length into)) (Misses f at (at + length into)) (λ (p : Piece) is. miss_behind f at (at + length into) p is) (drop i ps) (begin_rest f (at + length into) ps i asc next inside))
    (subst (λ (l : List Piece). LaysSome bytes ps f at old into l) (sym (append-nil (drop i ps))) some))

-- bytes of which those inside the file were read show it
pub shows_read : (into : List ℕ) (at n : ℕ) (old : List ℕ) → (length old ≤ at + n) ⊎ (length into ≤ n) → take n into ≡ take n (drop at old) → Shows into at old
shows_read into at n old whole is = record { each = λ k low high. place k (few k low high) }
  where
    few : (k : ℕ) → k < length into → at + k < length old → k < n
    few k low high = ⊎_elim (λ ends. omega (arith, ends, high)) (λ all. omega (arith, all, low)) whole

    place : (k : ℕ) → k < n → get_or into k 0 ≡ get_or old (at + k) 0
    place k low = sym (get_or-take n into k 0 low) ∙ ap (λ (l : List ℕ). get_or l k 0) is ∙ get_or-take n (drop at old) k 0 low ∙ get_or-drop at old k 0
