-- What is held over a space becomes more, or goes there.
use Rattle.std.proofs.Common.{◌≡◌, ◌≢◌, inl, inr, ⊎_elim, ℕ, zero, suc, ◌+◌, ◌^◌, ◌≤◌, max, List, [], ◌∷◌, ◌++◌, length, take, drop, set, true, refl, sym, ◌∙◌, ap, subst, arith, All}
use Rattle.std.proofs.lemmas.Bool.{cases_eq}
use Rattle.std.proofs.lemmas.List.{get_or-set_other, get_or-set_same, length-set, length-take, take_all, take-append-drop}
use Rattle.std.proofs.lemmas.List.Elements.{All-nil}
use Rattle.tc_base.specs.Files.{Files, wrote}
use Rattle.tc_space.specs.Ranges.{IsDataFile}
use Rattle.tc_space.specs.declared.space.Space.{Ghosts}
use Rattle.ud_log.specs.Undo.{is_data, length_of, place_of}
use Rattle.ud_log.proofs.Logs.{data_below, place_low, place_one}
use Rattle.ud_state.specs.State.{AreLens}
use Rattle.ud_state.proofs.Changing.{length_write}
use Rattle.tc_undo.specs.Guards.{IsSmall}
use Rattle.tc_undo.specs.Pieces.{Fits, LiesIn, Reached, laid, needs_all, reached}
use Rattle.tc_undo.specs.Room.{needs}
use Rattle.tc_undo.specs.declared.piece.Piece.{Piece}
use Rattle.tc_undo.proofs.Putting.{laid_here, laid_there}
use Rattle.tc_held.specs.Lengths.{over_bare}
use Rattle.tc_held.specs.Pieces.{EndsBelow, HasBytes}
use Rattle.tc_held.specs.Held.{AreTidy, IsHeld, IsTidy, Takes, Written, over}
use Rattle.tc_held.specs.declared.held.Held.{Held}
use Rattle.tc_held.proofs.Laying.{wrote_more}

tidy_empty : AreTidy [] []
tidy_empty = record { small = All-nil IsSmall; lie = All-nil (LiesIn []); full = All-nil HasBytes; ascend = tt; few = omega arith; spent = omega arith }

pub tidy_bare : (held : Held) → held.pieces.items ≡ [] → held.bytes.items ≡ [] → IsTidy held
tidy_bare held none bare = subst (λ (b : List ℕ). AreTidy b held.pieces.items) (sym bare) (subst (λ (l : List Piece). AreTidy [] l) (sym none) tidy_empty)

-- a write behind another
pub written_then : (file at : ℕ) (x y z : List ℕ) (a b c : Files) → x ++ y ≡ z → at ≤ length (a file) → Written file at x a b → Written file (at + length x) y b c → Written file at z a c
written_then file at x y z a b c whole begins first second = record {
  here = second.here ∙ ap (λ (l : List ℕ). wrote (at + length x) y l) first.here ∙ wrote_more at x y (a file) begins ∙ ap (λ (l : List ℕ). wrote at l (a file)) whole;
  others = λ g other. second.others g other ∙ first.others g other;
}

-- of bytes of which the first were held and the others went below
pub written_rest : (file at done : ℕ) (bs rest : List ℕ) (a b c : Files) → done ≤ length bs → rest ≡ drop done bs → at ≤ length (a file) → Written file at (take done bs) a b → Written file (at + done) rest b c → Written file at bs a c
written_rest file at done bs rest a b c le is begins first second =
    let long : length (take done bs) ≡ done = length-take done bs ∙ omega (arith, le) in
    written_then file at (take done bs) rest bs a b c (ap (λ (l : List ℕ). take done bs ++ l) is ∙ take-append-drop done bs) begins first
    (subst (λ k. Written file (at + k) rest b c) (sym long) second)

-- or all were
pub written_all : (file at done : ℕ) (bs : List ℕ) (a b : Files) → done ≡ length bs → Written file at (take done bs) a b → Written file at bs a b
written_all file at done bs a b is first = subst (λ (l : List ℕ). Written file at l a b) (take_all done bs (omega (arith, is))) first

-- a write of one piece, as the space below makes it
module _ (file at : ℕ) (new : List ℕ) (under under' : Files) (is : (f : ℕ) → under' f ≡ laid new (record { file = file; at = at; from = 0; size = length new } ∷ []) f (under f)) where
  abbrev one : Piece
  one = record { file = file; at = at; from = 0; size = length new }

  pub one_written : Written file at new under under'
  one_written = record {
    here = is file ∙ laid_here new one file (under file) refl ∙ ap (λ (l : List ℕ). wrote at l (under file)) (take_all (length new) new (omega arith));
    others = λ g other. is g ∙ laid_there new one g (under g) (λ same. other (sym same));
  }

-- nothing is held over files that are others already
pub written_bare : (file at : ℕ) (new : List ℕ) (a b c : Files) (held : Held) → held.pieces.items ≡ [] → ((f : ℕ) → b f ≡ a f) → Written file at new b c → Written file at new a (over held c)
written_bare file at new a b c held none same w = record {
  here = over_bare held c none file ∙ w.here ∙ ap (λ (l : List ℕ). wrote at new l) (same file);
  others = λ g other. over_bare held c none g ∙ w.others g other ∙ same g;
}

-- the same of files that are the same
pub written_same : (file at : ℕ) (new : List ℕ) (a b c : Files) → ((f : ℕ) → b f ≡ a f) → Written file at new b c → Written file at new a c
written_same file at new a b c same w = record {
  here = w.here ∙ ap (λ (l : List ℕ). wrote at new l) (same file);
  others = λ g other. w.others g other ∙ same g;
}

-- what is held stands over other files as over these
pub over_same : (held : Held) (under under' : Files) (f : ℕ) → under' f ≡ under f → over held under' f ≡ over held under f
over_same held under under' f same = ap (λ (l : List ℕ). laid held.bytes.items held.pieces.items f l) same

-- it may be made where it begins in its file
pub one_reached : (file at : ℕ) (new : List ℕ) (under : Files) → at ≤ length (under file) → Reached new (record { file = file; at = at; from = 0; size = length new } ∷ []) under
one_reached file at new under begins = record { each = λ f isd. (λ same. subst (λ h. at ≤ length (under h)) same begins, tt) }

-- the same of lists that are these
pub carried : (P : List ℕ → List Piece → Type 0) (bytes bytes' : List ℕ) (ps ps' : List Piece) → bytes' ≡ bytes → ps' ≡ ps → P bytes ps → P bytes' ps'
carried P bytes bytes' ps ps' b p it = subst (λ (l : List ℕ). P l ps') (sym b) (subst (λ (l : List Piece). P bytes l) (sym p) it)

module _ {S : Type 0} (s : Ghosts S) (logged : S → ℕ) where
  -- nothing is held
  pub held_bare : (below : S) (held : Held) → IsTidy held → held.pieces.items ≡ [] → logged below ≤ 2 ^ 62 → IsHeld s logged below held
  held_bare below held tidy none low = record {
    tidy = tidy;
    limits = subst (λ (l : List Piece). All (EndsBelow (s.limit below)) l) (sym none) (All-nil (EndsBelow (s.limit below)));
    reaches = λ t f. subst (λ (l : List Piece). reached held.bytes.items l f (s.now below f)) (sym none) tt;
    room = omega (arith, low, ap needs_all none);
  }

  module _ (below : S) (held : Held) (is : IsHeld s logged below held) where
    abbrev ps : List Piece
    ps = held.pieces.items

    abbrev bytes : List ℕ
    bytes = held.bytes.items

    pub needs_most : needs_all ps ≤ 2 ^ 28
    needs_most = omega (arith, is.tidy.spent, is.tidy.few)

    pub all_fit : All (Fits (s.limit below) bytes) ps
    all_fit = λ k d low. record { data_file = (is.tidy.small k d low).data_file; below = is.limits k d low; inside = is.tidy.lie k d low }

    pub all_reached : s.tells → Reached bytes ps (s.now below)
    all_reached t = record { each = λ f isd. is.reaches t f }

    -- ---- more is held

    module _ (file at : ℕ) (x : List ℕ) (held' : Held) (takes : Takes file at x held held') (low : at + length x ≤ s.limit below file) (begins : s.tells → at ≤ length (over held (s.now below) file)) where
      pub held_takes : logged below + 2 ^ 28 ≤ 2 ^ 62 → IsHeld s logged below held'
      held_takes room = record {
        tidy = takes.tidy;
        limits = takes.below (s.limit below) is.limits low;
        reaches = λ t. takes.reaches (s.now below) (is.reaches t) (begins t);
        room = omega (arith, room, takes.tidy.spent, takes.tidy.few);
      }

      pub over_takes : s.tells → Written file at x (over held (s.now below)) (over held' (s.now below))
      over_takes t = takes.written (s.now below) (is.reaches t) (begins t)

    -- ---- the space stays as it is

    pub held_same : (below' : S) → s.limit below' ≡ s.limit below → (s.tells → (f : ℕ) → s.now below' f ≡ s.now below f) → logged below' ≡ logged below → IsHeld s logged below' held
    held_same below' limit now log = record {
      tidy = is.tidy;
      limits = subst (λ (l : ℕ → ℕ). All (EndsBelow l) ps) (sym limit) is.limits;
      reaches = λ t f. subst (λ (l : List ℕ). reached bytes ps f l) (sym (now t f)) (is.reaches t f);
      room = omega (arith, log, is.room);
    }

-- what is left begins where that ends which was written
pub written_long : (file at : ℕ) (x : List ℕ) (a b : Files) → at ≤ length (a file) → Written file at x a b → length (b file) ≡ max (length (a file)) (at + length x)
written_long file at x a b begins w = ap (λ (l : List ℕ). length l) w.here ∙ length_write at x (a file) begins

pub written_reaches : (file at done : ℕ) (bs : List ℕ) (a b : Files) → done ≤ length bs → at ≤ length (a file) → Written file at (take done bs) a b → at + done ≤ length (b file)
written_reaches file at done bs a b le begins w = omega (arith, written_long file at (take done bs) a b begins w, length-take done bs, le)

-- ---- how long the files are

-- once one of them changed
pub lens_set : (lens : List ℕ) (old new : Files) (file i n : ℕ) → is_data file ≡ true → i ≡ place_of file → n ≡ length (new file) → ((g : ℕ) → g ≢ file → new g ≡ old g) → AreLens lens old → AreLens (set lens i n) new
lens_set lens old new file i n isd place is others are = subst (λ k. AreLens (set lens k n) new) (sym place) (record {
  long = length-set lens (place_of file) n ∙ are.long;
  at = λ g isg. ⊎_elim
      (λ same. subst (λ h. length_of (set lens (place_of file) n) h ≡ length (new h)) (sym same) (get_or-set_same lens (place_of file) n 0 (omega (arith, are.long, place_low file isd)) ∙ is))
      (λ other. get_or-set_other lens (place_of file) (place_of g) n 0 (λ e. other (place_one g file isg isd e)) ∙ are.at g isg ∙ ap (λ (l : List ℕ). length l) (sym (others g other)))
      (cases_eq g file);
})

-- of files that are the same
pub lens_same : (lens : List ℕ) (old new : Files) → ((g : ℕ) → new g ≡ old g) → AreLens lens old → AreLens lens new
lens_same lens old new same are = record { long = are.long; at = λ g isg. are.at g isg ∙ ap (λ (l : List ℕ). length l) (sym (same g)) }

pub of_data : (f : ℕ) → is_data f ≡ true → IsDataFile f
of_data zero is = inl refl
of_data (suc zero) is = absurd cc
of_data (suc (suc k)) is = inr (omega arith, data_below (suc (suc k)) is)

pub needs_less : (m n : ℕ) → m ≤ n → needs m ≤ needs n
needs_less m n le = omega (arith, le)
