-- Pieces whose old bytes are on the disk are written, one after the other.
use Rattle.std.proofs.Common.{◌≡◌, ℕ, ◌+◌, ◌-◌, ◌^◌, ◌<◌, ◌≤◌, List, ◌∷◌, length, take, drop, get_or, refl, sym, ◌∙◌, subst, arith, true, Bool, length-take, length-drop}
use Rattle.std.proofs.lemmas.Bool.Decides.{nat_tests}
use Rattle.std.proofs.lemmas.List.{places, drop_more}
use Rattle.tc_base.specs.Files.{Files, wrote}
use Rattle.tc_io.specs.Images.{written, Calls, now}
use Rattle.ud_log.specs.Entries.{Entry}
use Rattle.ud_log.specs.Undo.{is_data}
use Rattle.ud_state.specs.State.{IsOpen, Secured, Tx, Unchanged}
use Rattle.ud_state.proofs.Open.{tx_write}
use Rattle.tc_undo.specs.Guards.{Guards, KeepsInside, SecuredAll}
use Rattle.tc_undo.specs.Pieces.{LiesIn, laid_one, part, reached, Reached}
use Rattle.tc_undo.specs.Runs.{blank}
use Rattle.tc_undo.specs.declared.piece.Piece.{Piece}

length_wrote_below : (at : ℕ) (bytes old : List ℕ) (m : ℕ) → at ≤ length old → length old ≤ m → at + length bytes ≤ m → length (wrote at bytes old) ≤ m
unfolding wrote
length_wrote_below at bytes old m le low high = grind (arith, places)

-- a guarded stretch gets other bytes
pub put_tx : (cs c1 : Calls) (kept : Files) (es : List Entry) (f at : ℕ) (bytes : List ℕ) → Tx cs kept es → is_data f ≡ true → at ≤ length (now cs f) → at + length bytes ≤ 2 ^ 40 → Guards kept es f at (at + length bytes)
    → c1 ≡ (f, written at bytes) ∷ cs → Tx c1 kept es
put_tx cs c1 kept es f at bytes tx isd within small guards made =
    subst (λ (c : Calls). Tx c kept es) (sym made) (tx_write cs kept es f at bytes tx isd within (length_wrote_below at bytes (now cs f) (2 ^ 40) within (tx.fits f isd) small) guards.each)

-- a stretch that the log guards may be written
pub secured_by : (cs : Calls) (recorded : List ℕ) (ps : List Piece) (s : SecuredAll cs recorded ps) (f from to : ℕ) → Guards s.kept s.es f from to → Secured cs recorded f from to
secured_by cs recorded ps s f from to guard = record { kept = s.kept; es = s.es; tx = s.tx; records = s.records; logged = λ q low high below has. guard.each q low high below }

-- ---- what one of them makes of the files

pub laid_here : (bytes : List ℕ) (p : Piece) (f : ℕ) (old : List ℕ) → p.file ≡ f → laid_one bytes p f old ≡ wrote p.at (part bytes p) old
unfolding laid_one
laid_here bytes p f old is = grind (arith, nat_tests)

pub laid_there : (bytes : List ℕ) (p : Piece) (f : ℕ) (old : List ℕ) → (p.file ≡ f → ⊥) → laid_one bytes p f old ≡ old
unfolding laid_one
laid_there bytes p f old other = grind (arith, nat_tests)

pub next_pieces : (ps : List Piece) (i : ℕ) → i < length ps → drop i ps ≡ get_or ps i blank ∷ drop (i + 1) ps
next_pieces ps i low = drop_more ps i blank low

pub begins_inside : (bytes : List ℕ) (p : Piece) (rest : List Piece) (files : Files) → is_data p.file ≡ true → Reached bytes (p ∷ rest) files → p.at ≤ length (files p.file)
begins_inside bytes p rest files isd r = (r.each p.file isd).0 refl

pub open_all : (cs : Calls) (recorded : List ℕ) (ps : List Piece) (end : ℕ) (changed : List Bool) → SecuredAll cs recorded ps → end ≡ length (now cs 1) → Unchanged cs changed → IsOpen cs end recorded changed
open_all cs recorded ps end changed s is u = record { kept = s.kept; es = s.es; tx = s.tx; log = is; records = s.records; unchanged = u }

pub inside_refl : (lens : List ℕ) (ps : List Piece) → KeepsInside lens lens ps
inside_refl lens ps = record { each = λ limits below inside. inside }

pub reached_same : (bytes : List ℕ) (ps : List Piece) (old new : Files) → ((f : ℕ) → is_data f ≡ true → new f ≡ old f) → Reached bytes ps old → Reached bytes ps new
reached_same bytes ps old new same r = record { each = λ f isd. subst (λ (l : List ℕ). reached bytes ps f l) (sym (same f isd)) (r.each f isd) }

-- the piece's bytes, as the code cuts them out
pub part_long : (bytes : List ℕ) (p : Piece) → LiesIn bytes p → length (take (p.from + p.size - p.from) (drop p.from bytes)) ≡ p.size
part_long bytes p lies = length-take (p.from + p.size - p.from) (drop p.from bytes) ∙ omega (arith, length-drop p.from bytes, lies)
