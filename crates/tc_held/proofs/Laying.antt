-- What pieces make of a file when one comes between them, or gets other bytes.
use Rattle.std.proofs.Common.{◌≡◌, ◌⊎◌, inl, inr, ⊎_elim, ℕ, ◌+◌, ◌*◌, ◌≤◌, List, [], ◌∷◌, ◌++◌, length, refl, sym, ◌∙◌, ap, arith, All, length-append, if◌then◌else◌, ◌==◌}
use Rattle.std.proofs.lemmas.Bool.{cases_eq}
use Rattle.std.proofs.lemmas.List.{places, same_lists}
use Rattle.std.proofs.lemmas.List.Elements.{All-head, All-tail, All-weaker}
use Rattle.tc_base.specs.Files.{wrote}
use Rattle.ud_log.proofs.Places.{length-wrote}
use Rattle.ud_state.proofs.Changing.{length_write}
use Rattle.tc_undo.specs.Pieces.{LiesIn, laid, laid_one, needs_all, part, reached}
use Rattle.tc_undo.specs.Room.{needs}
use Rattle.tc_undo.specs.declared.piece.Piece.{Piece}
use Rattle.tc_undo.proofs.Putting.{laid_here, laid_there}
use Rattle.tc_held.specs.Lengths.{part_size}
use Rattle.tc_held.specs.Pieces.{BeginsBehind, InFront}
use Rattle.tc_held.proofs.Ascending.{all_rest}

-- ---- writes

-- a write in front of another
wrote_apart : (at q : ℕ) (x y old : List ℕ) → at + length x ≤ q → q ≤ length old → wrote q y (wrote at x old) ≡ wrote at x (wrote q y old)
unfolding wrote
wrote_apart at q x y old apart within = same_lists _ _ (grind (arith, places)) (λ k d low. grind (arith, places))

-- a write over what was just written
wrote_over : (at k : ℕ) (x y old : List ℕ) → k + length x ≤ length y → at ≤ length old → wrote at (wrote k x y) old ≡ wrote (at + k) x (wrote at y old)
unfolding wrote
wrote_over at k x y old within begins = same_lists _ _ (grind (arith, places)) (λ i d low. grind (arith, places))

-- and behind it
pub wrote_more : (at : ℕ) (x y old : List ℕ) → at ≤ length old → wrote (at + length x) y (wrote at x old) ≡ wrote at (x ++ y) old
unfolding wrote
wrote_more at x y old begins = same_lists _ _ (grind (arith, places)) (λ i d low. grind (arith, places))

pub wrote_none : (at : ℕ) (old : List ℕ) → wrote at [] old ≡ old
unfolding wrote
wrote_none at old = same_lists _ _ (grind (arith, places)) (λ i d low. grind (arith, places))

-- more bytes are there for what is as long
wrote_longer : (at : ℕ) (x y old older : List ℕ) → length x ≡ length y → length old ≤ length older → length (wrote at x old) ≤ length (wrote at y older)
unfolding wrote
wrote_longer at x y old older same le = grind (arith, places)

-- a write makes nothing shorter
pub wrote_grows : (at : ℕ) (x old : List ℕ) → length old ≤ length (wrote at x old)
unfolding wrote
wrote_grows at x old = grind (arith, places)

-- ---- what a piece has

part_longer : (bytes more : List ℕ) (p : Piece) → LiesIn bytes p → part (bytes ++ more) p ≡ part bytes p
part_longer bytes more p lies = same_lists _ _ (grind (arith, places)) (λ k d low. grind (arith, places))

-- of a piece whose bytes were added last
part_added : (bytes put : List ℕ) (p : Piece) → p.from ≡ length bytes → p.size ≡ length put → part (bytes ++ put) p ≡ put
part_added bytes put p from size = same_lists _ _ (grind (arith, places)) (λ k d low. grind (arith, places))

-- of a piece that became longer by them
part_lengthened : (bytes put : List ℕ) (p : Piece) → p.from + p.size ≡ length bytes → part (bytes ++ put) (record { file = p.file; at = p.at; from = p.from; size = p.size + length put }) ≡ part bytes p ++ put
part_lengthened bytes put p last = same_lists _ _ (grind (arith, places)) (λ k d low. grind (arith, places))

part_before : (bytes x : List ℕ) (from : ℕ) (q : Piece) → from + length x ≤ length bytes → q.from + q.size ≤ from → part (wrote from x bytes) q ≡ part bytes q
unfolding wrote
part_before bytes x from q within apart = same_lists _ _ (grind (arith, places)) (λ k d low. grind (arith, places))

part_behind : (bytes x : List ℕ) (from : ℕ) (q : Piece) → from + length x ≤ length bytes → from + length x ≤ q.from → part (wrote from x bytes) q ≡ part bytes q
unfolding wrote
part_behind bytes x from q within apart = same_lists _ _ (grind (arith, places)) (λ k d low. grind (arith, places))

part_changed : (bytes x : List ℕ) (k : ℕ) (p : Piece) → LiesIn bytes p → k + length x ≤ p.size → part (wrote (p.from + k) x bytes) p ≡ wrote k x (part bytes p)
unfolding wrote
part_changed bytes x k p lies within = same_lists _ _ (grind (arith, places)) (λ i d low. grind (arith, places))

-- ---- pieces over other bytes that have the same for them

abbrev SamePart : List ℕ → List ℕ → Piece → Type 0
SamePart a b p = part a p ≡ part b p

laid_one_same : (a b : List ℕ) (p : Piece) (f : ℕ) (old : List ℕ) → part a p ≡ part b p → laid_one a p f old ≡ laid_one b p f old
unfolding laid_one
laid_one_same a b p f old same = ap (λ (l : List ℕ). if p.file == f then wrote p.at l old else old) same

laid_same : (a b : List ℕ) (ps : List Piece) (f : ℕ) (old : List ℕ) → All (SamePart a b) ps → laid a ps f old ≡ laid b ps f old
laid_same a b [] f old all = refl
laid_same a b (p ∷ ps) f old all = ap (λ (l : List ℕ). laid a ps f l) (laid_one_same a b p f old (All-head (SamePart a b) p ps all)) ∙ laid_same a b ps f (laid_one b p f old) (All-tail (SamePart a b) p ps all)

pub laid_longer : (bytes more : List ℕ) (ps : List Piece) (f : ℕ) (old : List ℕ) → All (LiesIn bytes) ps → laid (bytes ++ more) ps f old ≡ laid bytes ps f old
laid_longer bytes more ps f old lie = laid_same (bytes ++ more) bytes ps f old (All-weaker (LiesIn bytes) (SamePart (bytes ++ more) bytes) (λ (p : Piece) lies. part_longer bytes more p lies) ps lie)

laid_append : (bytes : List ℕ) (ps qs : List Piece) (f : ℕ) (old : List ℕ) → laid bytes (ps ++ qs) f old ≡ laid bytes qs f (laid bytes ps f old)
laid_append bytes [] qs f old = refl
laid_append bytes (p ∷ ps) qs f old = laid_append bytes ps qs f (laid_one bytes p f old)

-- ---- pieces begin inside a file as those in front of them leave it

reached_front : (bytes : List ℕ) (ps qs : List Piece) (f : ℕ) (old : List ℕ) → reached bytes (ps ++ qs) f old → reached bytes ps f old
reached_front bytes [] qs f old r = tt
reached_front bytes (p ∷ ps) qs f old r = (r.0, reached_front bytes ps qs f (laid_one bytes p f old) r.1)

reached_rest : (bytes : List ℕ) (ps qs : List Piece) (f : ℕ) (old : List ℕ) → reached bytes (ps ++ qs) f old → reached bytes qs f (laid bytes ps f old)
reached_rest bytes [] qs f old r = r
reached_rest bytes (p ∷ ps) qs f old r = reached_rest bytes ps qs f (laid_one bytes p f old) r.1

reached_both : (bytes : List ℕ) (ps qs : List Piece) (f : ℕ) (old : List ℕ) → reached bytes ps f old → reached bytes qs f (laid bytes ps f old) → reached bytes (ps ++ qs) f old
reached_both bytes [] qs f old first second = second
reached_both bytes (p ∷ ps) qs f old first second = (first.0, reached_both bytes ps qs f (laid_one bytes p f old) first.1 second)

one_longer : (a b : List ℕ) (p : Piece) (f : ℕ) (old older : List ℕ) → LiesIn a p → LiesIn b p → length old ≤ length older → length (laid_one a p f old) ≤ length (laid_one b p f older)
one_longer a b p f old older in_a in_b le = ⊎_elim
    (λ is. omega (arith, ap (λ (l : List ℕ). length l) (laid_here a p f old is), ap (λ (l : List ℕ). length l) (laid_here b p f older is), wrote_longer p.at (part a p) (part b p) old older (part_size a p in_a ∙ sym (part_size b p in_b)) le))
    (λ other. omega (arith, ap (λ (l : List ℕ). length l) (laid_there a p f old other), ap (λ (l : List ℕ). length l) (laid_there b p f older other), le))
    (cases_eq p.file f)

-- a piece makes no file shorter
pub one_more : (bytes : List ℕ) (p : Piece) (f : ℕ) (old : List ℕ) → (p.file ≡ f → p.at ≤ length old) → length old ≤ length (laid_one bytes p f old)
one_more bytes p f old begins = ⊎_elim
    (λ is. omega (arith, ap (λ (l : List ℕ). length l) (laid_here bytes p f old is), length_write p.at (part bytes p) old (begins is)))
    (λ other. omega (arith, ap (λ (l : List ℕ). length l) (laid_there bytes p f old other)))
    (cases_eq p.file f)

-- of a file that is longer, and with other bytes
pub reached_as : (a b : List ℕ) (ps : List Piece) (f : ℕ) (old older : List ℕ) → All (LiesIn a) ps → All (LiesIn b) ps → length old ≤ length older → reached a ps f old → reached b ps f older
reached_as a b [] f old older in_a in_b le r = tt
reached_as a b (p ∷ ps) f old older in_a in_b le r = (
  λ is. omega (arith, r.0 is, le),
  reached_as a b ps f (laid_one a p f old) (laid_one b p f older) (All-tail (LiesIn a) p ps in_a) (All-tail (LiesIn b) p ps in_b)
      (one_longer a b p f old older (All-head (LiesIn a) p ps in_a) (All-head (LiesIn b) p ps in_b) le) r.1,
)

-- a place in front of pieces that is inside the file with them is inside it without them
begins_front : (bytes : List ℕ) (ps : List Piece) (f at : ℕ) (old : List ℕ) → All (BeginsBehind f at) ps → reached bytes ps f old → at ≤ length (laid bytes ps f old) → at ≤ length old
begins_front bytes [] f at old behind r low = low
begins_front bytes (p ∷ ps) f at old behind r low = ⊎_elim
    (λ is. omega (arith, r.0 is, (All-head (BeginsBehind f at) p ps behind).places is))
    (λ other. omega (arith, ap (λ (l : List ℕ). length l) (laid_there bytes p f old other), begins_front bytes ps f at (laid_one bytes p f old) (All-tail (BeginsBehind f at) p ps behind) r.1 low))
    (cases_eq p.file f)

-- ---- a write in front of pieces

one_apart : (bytes : List ℕ) (p : Piece) (f at : ℕ) (x old : List ℕ) → BeginsBehind f (at + length x) p → (p.file ≡ f → p.at ≤ length old) → laid_one bytes p f (wrote at x old) ≡ wrote at x (laid_one bytes p f old)
one_apart bytes p f at x old behind begins = ⊎_elim
    (λ is. laid_here bytes p f (wrote at x old) is ∙ wrote_apart at p.at x (part bytes p) old (behind.places is) (begins is) ∙ ap (λ (l : List ℕ). wrote at x l) (sym (laid_here bytes p f old is)))
    (λ other. laid_there bytes p f (wrote at x old) other ∙ ap (λ (l : List ℕ). wrote at x l) (sym (laid_there bytes p f old other)))
    (cases_eq p.file f)

laid_apart : (bytes : List ℕ) (ps : List Piece) (f at : ℕ) (x old : List ℕ) → All (BeginsBehind f (at + length x)) ps → reached bytes ps f old → laid bytes ps f (wrote at x old) ≡ wrote at x (laid bytes ps f old)
laid_apart bytes [] f at x old behind r = refl
laid_apart bytes (p ∷ ps) f at x old behind r =
    ap (λ (l : List ℕ). laid bytes ps f l) (one_apart bytes p f at x old (All-head (BeginsBehind f (at + length x)) p ps behind) r.0)
    ∙ laid_apart bytes ps f at x (laid_one bytes p f old) (All-tail (BeginsBehind f (at + length x)) p ps behind) r.1

-- ---- a piece between others

module _ (bytes x : List ℕ) (front rest : List Piece) (q : Piece) (from : q.from ≡ length bytes) (size : q.size ≡ length x) (lie : All (LiesIn bytes) (front ++ rest)) (f : ℕ) (old : List ℕ) where
  abbrev more : List ℕ
  more = bytes ++ x

  abbrev mid : List ℕ
  mid = laid more front f old

  pub between_there : (q.file ≡ f → ⊥) → laid more (front ++ q ∷ rest) f old ≡ laid bytes (front ++ rest) f old
  between_there other =
      laid_append more front (q ∷ rest) f old ∙ ap (λ (l : List ℕ). laid more rest f l) (laid_there more q f mid other)
      ∙ sym (laid_append more front rest f old) ∙ laid_longer bytes x (front ++ rest) f old lie

  lie_more : (ps : List Piece) → All (LiesIn bytes) ps → All (LiesIn more) ps
  lie_more ps all = All-weaker (LiesIn bytes) (LiesIn more) (λ (p : Piece) lies. omega (arith, lies, length-append bytes x)) ps all

  module _ (r : reached bytes (front ++ rest) f old) where
    reached_more : reached more (front ++ rest) f old
    reached_more = reached_as bytes more (front ++ rest) f old old lie (lie_more (front ++ rest) lie) (omega arith) r

    rest_more : reached more rest f mid
    rest_more = reached_rest more front rest f old reached_more

    pub between_here : q.file ≡ f → All (BeginsBehind f (q.at + length x)) rest → laid more (front ++ q ∷ rest) f old ≡ wrote q.at x (laid bytes (front ++ rest) f old)
    between_here is behind =
        laid_append more front (q ∷ rest) f old
        ∙ ap (λ (l : List ℕ). laid more rest f l) (laid_here more q f mid is ∙ ap (λ (l : List ℕ). wrote q.at l mid) (part_added bytes x q from size))
        ∙ laid_apart more rest f q.at x mid behind rest_more
        ∙ ap (λ (l : List ℕ). wrote q.at x l) (sym (laid_append more front rest f old) ∙ laid_longer bytes x (front ++ rest) f old lie)

    pub between_reached : (q.file ≡ f → All (BeginsBehind f q.at) rest) → (q.file ≡ f → q.at ≤ length (laid bytes (front ++ rest) f old)) → reached more (front ++ q ∷ rest) f old
    between_reached behind begins =
        let begins_mid : q.file ≡ f → q.at ≤ length mid = λ is.
        begins_front more rest f q.at mid (behind is) rest_more
        (omega (arith, begins is, ap (λ (l : List ℕ). length l) (sym (laid_append more front rest f old) ∙ laid_longer bytes x (front ++ rest) f old lie))) in
        let in_rest = lie_more rest (all_rest (LiesIn bytes) front rest lie) in
        reached_both more front (q ∷ rest) f old (reached_front more front rest f old reached_more)
        (begins_mid, reached_as more more rest f mid (laid_one more q f mid) in_rest in_rest (one_more more q f mid begins_mid) rest_more)

-- ---- other bytes for a piece

module _ (bytes x : List ℕ) (front rest : List Piece) (p : Piece) (k : ℕ) (lie : All (LiesIn bytes) (front ++ p ∷ rest)) (before : All (λ (q : Piece). InFront q p) front) (behind : All (InFront p) rest) (fits : k + length x ≤ p.size) (f : ℕ) (old : List ℕ) where
  abbrev other : List ℕ
  other = wrote (p.from + k) x bytes

  its_lies : LiesIn bytes p
  its_lies = All-head (LiesIn bytes) p rest (all_rest (LiesIn bytes) front (p ∷ rest) lie)

  same_beside : (q : Piece) → (q.from + q.size ≤ p.from) ⊎ (p.from + p.size ≤ q.from) → SamePart other bytes q
  same_beside q beside = ⊎_elim
      (λ low. part_before bytes x (p.from + k) q (omega (arith, fits, its_lies)) (omega (arith, low)))
      (λ high. part_behind bytes x (p.from + k) q (omega (arith, fits, its_lies)) (omega (arith, high, fits)))
      beside

  same_front : All (SamePart other bytes) front
  same_front = All-weaker (λ (q : Piece). InFront q p) (SamePart other bytes) (λ (q : Piece) fr. same_beside q fr.beside) front before

  same_rest : All (SamePart other bytes) rest
  same_rest = All-weaker (InFront p) (SamePart other bytes) (λ (q : Piece) fr. same_beside q (⊎_elim (λ a. inr a) (λ b. inl b) fr.beside)) rest behind

  abbrev below : List ℕ
  below = laid bytes front f old

  parted : laid other (front ++ p ∷ rest) f old ≡ laid bytes rest f (laid_one other p f below)
  parted =
      laid_append other front (p ∷ rest) f old ∙ laid_same other bytes rest f (laid_one other p f (laid other front f old)) same_rest
      ∙ ap (λ (l : List ℕ). laid bytes rest f (laid_one other p f l)) (laid_same other bytes front f old same_front)

  pub changed_there : (p.file ≡ f → ⊥) → laid other (front ++ p ∷ rest) f old ≡ laid bytes (front ++ p ∷ rest) f old
  changed_there isnt =
      parted ∙ ap (λ (l : List ℕ). laid bytes rest f l) (laid_there other p f below isnt ∙ sym (laid_there bytes p f below isnt))
      ∙ sym (laid_append bytes front (p ∷ rest) f old)

  pub changed_reached : (ps : List Piece) → All (LiesIn bytes) ps → reached bytes ps f old → reached other ps f old
  changed_reached ps all r =
      let long : length other ≡ length bytes = length-wrote (p.from + k) x bytes (omega (arith, fits, its_lies)) in
      reached_as bytes other ps f old old all (All-weaker (LiesIn bytes) (LiesIn other) (λ (q : Piece) lies. omega (arith, lies, long)) ps all) (omega arith) r

  module _ (is : p.file ≡ f) (r : reached bytes (front ++ p ∷ rest) f old) where
    rest_reached : reached bytes (p ∷ rest) f below
    rest_reached = reached_rest bytes front (p ∷ rest) f old r

    abbrev with_it : List ℕ
    with_it = laid_one bytes p f below

    one_changed : laid_one other p f below ≡ wrote (p.at + k) x with_it
    one_changed =
        laid_here other p f below is ∙ ap (λ (l : List ℕ). wrote p.at l below) (part_changed bytes x k p its_lies fits)
        ∙ wrote_over p.at k x (part bytes p) below (omega (arith, fits, part_size bytes p its_lies)) (rest_reached.0 is)
        ∙ ap (λ (l : List ℕ). wrote (p.at + k) x l) (sym (laid_here bytes p f below is))

    rest_behind : All (BeginsBehind f (p.at + k + length x)) rest
    rest_behind = All-weaker (InFront p) (BeginsBehind f (p.at + k + length x)) (λ (q : Piece) fr. record { files = omega (arith, fr.files, is); places = λ same. omega (arith, fits, fr.places (is ∙ sym same)) }) rest behind

    pub changed_here : laid other (front ++ p ∷ rest) f old ≡ wrote (p.at + k) x (laid bytes (front ++ p ∷ rest) f old)
    changed_here =
        parted ∙ ap (λ (l : List ℕ). laid bytes rest f l) one_changed
        ∙ laid_apart bytes rest f (p.at + k) x with_it rest_behind rest_reached.1
        ∙ ap (λ (l : List ℕ). wrote (p.at + k) x l) (sym (laid_append bytes front (p ∷ rest) f old))

-- ---- a piece that becomes longer, whose bytes are the last

module _ (bytes x : List ℕ) (front rest : List Piece) (p : Piece) (last : p.from + p.size ≡ length bytes) (lie : All (LiesIn bytes) (front ++ p ∷ rest)) (f : ℕ) (old : List ℕ) where
  abbrev longer : Piece
  longer = record { file = p.file; at = p.at; from = p.from; size = p.size + length x }

  abbrev all_bytes : List ℕ
  all_bytes = bytes ++ x

  abbrev first : List ℕ
  first = laid all_bytes front f old

  lies_it : LiesIn bytes p
  lies_it = All-head (LiesIn bytes) p rest (all_rest (LiesIn bytes) front (p ∷ rest) lie)

  lie_all : (ps : List Piece) → All (LiesIn bytes) ps → All (LiesIn all_bytes) ps
  lie_all ps all = All-weaker (LiesIn bytes) (LiesIn all_bytes) (λ (q : Piece) lies. omega (arith, lies, length-append bytes x)) ps all

  it_same : laid_one bytes p f first ≡ laid_one all_bytes p f first
  it_same = laid_one_same bytes all_bytes p f first (sym (part_longer bytes x p lies_it))

  longer_here : p.file ≡ f → p.at ≤ length first → laid_one all_bytes longer f first ≡ wrote (p.at + p.size) x (laid_one all_bytes p f first)
  longer_here is begins =
      laid_here all_bytes longer f first is ∙ ap (λ (l : List ℕ). wrote p.at l first) (part_lengthened bytes x p last)
      ∙ sym (wrote_more p.at (part bytes p) x first begins) ∙ ap (λ n. wrote (p.at + n) x (wrote p.at (part bytes p) first)) (part_size bytes p lies_it)
      ∙ ap (λ (l : List ℕ). wrote (p.at + p.size) x l) (sym (laid_here bytes p f first is) ∙ it_same)

  back : laid all_bytes rest f (laid_one all_bytes p f first) ≡ laid bytes (front ++ p ∷ rest) f old
  back = sym (laid_append all_bytes front (p ∷ rest) f old) ∙ laid_longer bytes x (front ++ p ∷ rest) f old lie

  pub longer_there : (p.file ≡ f → ⊥) → laid all_bytes (front ++ longer ∷ rest) f old ≡ laid bytes (front ++ p ∷ rest) f old
  longer_there other =
      laid_append all_bytes front (longer ∷ rest) f old ∙ ap (λ (l : List ℕ). laid all_bytes rest f l) (laid_there all_bytes longer f first other ∙ sym (laid_there all_bytes p f first other)) ∙ back

  module _ (r : reached bytes (front ++ p ∷ rest) f old) where
    reached_all : reached all_bytes (front ++ p ∷ rest) f old
    reached_all = reached_as bytes all_bytes (front ++ p ∷ rest) f old old lie (lie_all (front ++ p ∷ rest) lie) (omega arith) r

    rest_all : reached all_bytes (p ∷ rest) f first
    rest_all = reached_rest all_bytes front (p ∷ rest) f old reached_all

    pub longer_made : p.file ≡ f → All (BeginsBehind f (p.at + p.size + length x)) rest → laid all_bytes (front ++ longer ∷ rest) f old ≡ wrote (p.at + p.size) x (laid bytes (front ++ p ∷ rest) f old)
    longer_made is behind =
        laid_append all_bytes front (longer ∷ rest) f old ∙ ap (λ (l : List ℕ). laid all_bytes rest f l) (longer_here is (rest_all.0 is))
        ∙ laid_apart all_bytes rest f (p.at + p.size) x (laid_one all_bytes p f first) behind rest_all.1 ∙ ap (λ (l : List ℕ). wrote (p.at + p.size) x l) back

    as_long : length (laid_one all_bytes p f first) ≤ length (laid_one all_bytes longer f first)
    as_long = ⊎_elim
        (λ is. omega (arith, ap (λ (l : List ℕ). length l) (longer_here is (rest_all.0 is)), wrote_grows (p.at + p.size) x (laid_one all_bytes p f first)))
        (λ other. omega (arith, ap (λ (l : List ℕ). length l) (laid_there all_bytes longer f first other), ap (λ (l : List ℕ). length l) (laid_there all_bytes p f first other)))
        (cases_eq p.file f)

    pub longer_reached : reached all_bytes (front ++ longer ∷ rest) f old
    longer_reached =
        let in_rest = lie_all rest (All-tail (LiesIn bytes) p rest (all_rest (LiesIn bytes) front (p ∷ rest) lie)) in
        reached_both all_bytes front (longer ∷ rest) f old (reached_front all_bytes front (p ∷ rest) f old reached_all)
        (rest_all.0, reached_as all_bytes all_bytes rest f (laid_one all_bytes p f first) (laid_one all_bytes longer f first) in_rest in_rest as_long rest_all.1)

-- ---- what the log needs

pub needs_between : (front rest : List Piece) (q : Piece) → needs_all (front ++ q ∷ rest) ≡ needs_all (front ++ rest) + needs q.size
needs_between [] rest q = omega arith
needs_between (p ∷ front) rest q = omega (arith, needs_between front rest q)

pub needs_few : (n : ℕ) → needs n ≤ 21 * n
needs_few n = omega arith

pub needs_more : (m n : ℕ) → needs (m + n) ≤ needs m + 21 * n
needs_more m n = omega arith
