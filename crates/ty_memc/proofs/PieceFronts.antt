-- The piece at the front, by its reading and by its spelling.
use Rattle.std.proofs.Common.{◌≡◌, inl, inr, ℕ, ◌<◌, Bool, true, false, List, ◌++◌, length, drop, Ok, Err, refl, sym, ap, subst, ◌∙◌, arith, length-append, length-drop}
use Rattle.std.specs.Prelude.{is_ok}
use Rattle.tc_base.specs.Bytes.{IsBytes}
use Rattle.tc_base.specs.declared.fields.NotWhole.{NotWhole}
use Rattle.tc_base.specs.declared.fields.NotWhole.TheVariants as not_whole
use Rattle.tc_base.specs.declared.request.Request.{Request}
use Rattle.tc_base.specs.Reading.{Front as Answer, ◌>>=◌, mapped}
use Rattle.tc_base.proofs.Exact.{bind_err}
use Rattle.ty_wire.specs.declared.reading.Front.{Front}
use Rattle.ty_wire.specs.declared.reading.Front.TheVariants.{Whole, Part, Bad}
use Rattle.ty_wire.specs.Prefixes.{IsPrefix}
use Rattle.ty_wire.specs.Reading.{request_at}
use Rattle.ty_wire.specs.Spelling.{spelling, Fits}
use Rattle.ty_wire.specs.Taking.{IsRead, Takes}
use Rattle.ty_wire.proofs.Answered.{partly, taken}
use Rattle.ty_look.proofs.Ongoing.{seen_more}
use Rattle.ty_memc.specs.declared.text.Text.{Text}
use Rattle.ty_memc.specs.declared.text.Piece.{Piece}
use Rattle.ty_memc.specs.declared.text.Piece.TheVariants as piece
use Rattle.ty_memc.specs.declared.pieces.SeenPiece.{SeenPiece}
use Rattle.ty_memc.specs.Reading.{text_at}
use Rattle.ty_memc.specs.Taking.{IsTextRead}
use Rattle.ty_memc.specs.Grammar.{begins_text, Spells, piece_at}
use Rattle.ty_memc.specs.Fronts.{HasNoText, TakesText, IsPieceRead, TakesAs, TakesPiece, IsPieceSeen}
use Rattle.ty_memc.proofs.BadStays.{bad_stays}
use Rattle.ty_memc.proofs.Parts.{text_part}
use Rattle.ty_memc.proofs.Spelled.{text_found, text_again}
use Rattle.ty_memc.proofs.SeenTexts.{text_seen_more}
use Rattle.ty_memc.proofs.PieceGrammar.{pieces, at_request, at_text}
use Rattle.ty_memc.proofs.RequestSizes.{part_small}

-- ---- by reading

pub request_read : (bytes : List ℕ) (f : Front) → begins_text bytes ≡ false → IsRead bytes f → IsPieceRead bytes f
request_read bytes (Whole n) is h = (piece.Request h.0, h.1, at_request bytes is ∙ ap (λ (r : Answer Request). r >>= λ y. Ok (piece.Request y.0, y.1)) h.2)
request_read bytes Part is h = at_request bytes is ∙ ap (λ (r : Answer Request). r >>= λ y. Ok (piece.Request y.0, y.1)) h
request_read bytes Bad is h = at_request bytes is ∙ ap (λ (r : Answer Request). r >>= λ y. Ok (piece.Request y.0, y.1)) h

pub text_read : (bytes : List ℕ) (f : Front) → begins_text bytes ≡ true → IsTextRead bytes f → IsPieceRead bytes f
text_read bytes (Whole n) is h = (piece.Text h.0, h.1, at_text bytes is ∙ ap (λ (r : Answer Text). r >>= λ y. Ok (piece.Text y.0, y.1)) h.2)
text_read bytes Part is h = at_text bytes is ∙ ap (λ (r : Answer Text). r >>= λ y. Ok (piece.Text y.0, y.1)) h
text_read bytes Bad is h = at_text bytes is ∙ ap (λ (r : Answer Text). r >>= λ y. Ok (piece.Text y.0, y.1)) h

-- ---- by the grammar

no_text : (bytes : List ℕ) (d : NotWhole) → text_at bytes ≡ Err d → HasNoText bytes
no_text bytes d e t text rest s is = let w = sym e ∙ ap text_at is ∙ text_again t text rest s in cc

pub text_takes : (bytes : List ℕ) (f : Front) → IsTextRead bytes f → TakesText bytes f
text_takes bytes (Whole n) h =
    let g = text_found bytes h.0 (drop n bytes) h.2 in
    (h.0, g.text, drop n bytes, g.spells, omega (arith, ap length g.parts, length-append g.text (drop n bytes), length-drop n bytes, h.1), g.parts)
text_takes bytes Part h = (no_text bytes not_whole.Part h, text_part bytes h)
text_takes bytes Bad h = λ more. no_text (bytes ++ more) not_whole.Bad (bad_stays bytes more h)

pub takes_text : (bytes : List ℕ) (f : Front) → begins_text bytes ≡ true → TakesText bytes f → TakesPiece bytes f
takes_text bytes f is h = subst (λ (b : Bool). TakesAs b bytes f) (sym is) h

pub takes_request : (bytes : List ℕ) (f : Front) → begins_text bytes ≡ false → Takes bytes f → TakesPiece bytes f
takes_request bytes f is h = subst (λ (b : Bool). TakesAs b bytes f) (sym is) h

-- ---- either is spelled where it is whole; else none is, and a part is short

pub piece_there : (bytes : List ℕ) (n : ℕ) → IsBytes bytes → IsPieceRead bytes (Whole n) → (x : Piece) × (text : List ℕ) × (rest : List ℕ) × Spells x text × (length text ≡ n) × (bytes ≡ text ++ rest)
piece_there bytes n b h =
    let g = pieces.found bytes h.0 (drop n bytes) b h.2 in
    (h.0, g.0, drop n bytes, g.1, omega (arith, ap length g.2, length-append g.0 (drop n bytes), length-drop n bytes, h.1), g.2)

pub none_there : (bytes : List ℕ) (d : NotWhole) → piece_at bytes ≡ Err d → (x : Piece) (text rest : List ℕ) → Spells x text → bytes ≡ text ++ rest → ⊥
none_there bytes d e x text rest s is = let w = sym e ∙ ap piece_at is ∙ pieces.again x text rest s in cc

mapped_err : {A : Type 0} (f : A → Piece) (p : List ℕ → Answer A) (bytes : List ℕ) (d : NotWhole) → mapped f p bytes ≡ Err d → p bytes ≡ Err d
mapped_err f p bytes d e = elim (bind_err (p bytes) (λ y. Ok (f y.0, y.1)) d e) [
  | inl a ↦ a
  | inr a ↦ absurd (let bad = a.2 in cc)
]

pub part_few : (bytes : List ℕ) → IsBytes bytes → piece_at bytes ≡ Err not_whole.Part → length bytes < 33554432
part_few bytes b e = go (begins_text bytes) refl
  where
    go : (t : Bool) → begins_text bytes ≡ t → length bytes < 33554432
    go true is = let l = text_part bytes (mapped_err piece.Text text_at bytes not_whole.Part (sym (at_text bytes is) ∙ e)) in omega (arith, l)
    go false is = let p = partly bytes b (mapped_err piece.Request request_at bytes not_whole.Part (sym (at_request bytes is) ∙ e)) in part_small bytes p.0 p.1 p.2

-- ---- what was seen holds whatever comes behind

pub piece_seen_more : (seen : SeenPiece) (bytes more : List ℕ) → IsPieceSeen seen bytes → IsPieceSeen seen (bytes ++ more)
piece_seen_more seen bytes more s = record { request = seen_more seen.request bytes more s.request; text = text_seen_more seen.text bytes more s.text }

-- ---- as it is read

ok_mapped : {A : Type 0} (f : A → Piece) (p : List ℕ → Answer A) (bytes : List ℕ) → is_ok (mapped f p bytes) ≡ true → is_ok (p bytes) ≡ true
ok_mapped {A} f p bytes ok = go (p bytes) refl
  where
    go : (r : Answer A) → p bytes ≡ r → is_ok r ≡ true
    go (Ok x) e = refl
    go (Err d) e =
        let bad : mapped f p bytes ≡ Err d = ap (λ (r : Answer A). r >>= λ y. Ok (f y.0, y.1)) e in
        let no : is_ok (mapped f p bytes) ≡ false = ap is_ok bad in
        absurd cc

pub ok_text : (bytes : List ℕ) → begins_text bytes ≡ true → is_ok (piece_at bytes) ≡ true → is_ok (text_at bytes) ≡ true
ok_text bytes is e = ok_mapped piece.Text text_at bytes (sym (ap is_ok (at_text bytes is)) ∙ e)

pub request_there : (bytes : List ℕ) → IsBytes bytes → begins_text bytes ≡ false → is_ok (piece_at bytes) ≡ true → (r : Request) × Fits r × IsPrefix (spelling r) bytes
request_there bytes b first ok = go (request_at bytes) refl (ok_mapped piece.Request request_at bytes (sym (ap is_ok (at_request bytes first)) ∙ ok))
  where
    go : (x : Answer Request) → request_at bytes ≡ x → is_ok x ≡ true → (r : Request) × Fits r × IsPrefix (spelling r) bytes
    go (Ok x) e ok = let t = taken bytes x.0 x.1 b e in (x.0, t.fits, (x.1, t.parts))
    go (Err d) e ok = absurd cc
