-- Requests and text commands are a grammar of pieces.
use Rattle.std.proofs.Common.{◌≡◌, ℕ, ◌<◌, Bool, true, false, List, [], ◌∷◌, ◌++◌, length, Ok, refl, sym, ap, subst, ◌∙◌, arith, length-append, append_assoc}
use Rattle.std.proofs.lemmas.Bool.{cond-true, cond-false}
use Rattle.tc_base.specs.Bytes.{IsBytes}
use Rattle.tc_base.specs.declared.request.Request.{Request}
use Rattle.tc_base.specs.Reading.{Front, ◌>>=◌, mapped}
use Rattle.tc_base.proofs.Exact.{bind_ok, same_whole}
use Rattle.ty_wire.specs.Form.{Form, plain, counted, form_bytes}
use Rattle.ty_wire.specs.Reading.{request_at}
use Rattle.ty_wire.specs.Spelling.{form, spelling, Fits}
use Rattle.ty_wire.proofs.Answered.{taken, whole}
use Rattle.ty_memc.specs.declared.text.Text.{Text}
use Rattle.ty_memc.specs.declared.text.Piece.{Piece}
use Rattle.ty_memc.specs.declared.text.Piece.TheVariants as piece
use Rattle.ty_memc.specs.Reading.{text_at}
use Rattle.ty_memc.specs.Grammar.{SpellsText, begins_text, Spells, piece_at, IsGrammar}
use Rattle.ty_memc.proofs.Spelled.{text_found, text_again}
use Rattle.ty_memc.proofs.RequestFronts.{request_more, request_less}

-- ---- which of the two stands at the front

pub at_request : (bytes : List ℕ) → begins_text bytes ≡ false → piece_at bytes ≡ mapped piece.Request request_at bytes
unfolding piece_at
at_request bytes is = cond-false _ _ _ is

pub at_text : (bytes : List ℕ) → begins_text bytes ≡ true → piece_at bytes ≡ mapped piece.Text text_at bytes
unfolding piece_at
at_text bytes is = cond-true _ _ _ is

form_begins : (f : Form) (rest : List ℕ) → begins_text (form_bytes f ++ rest) ≡ false
form_begins (plain command fs values) rest = refl
form_begins (counted command fs values most items) rest = refl

pub request_begins : (r : Request) (bytes rest : List ℕ) → bytes ≡ spelling r ++ rest → begins_text bytes ≡ false
unfolding spelling
request_begins r bytes rest is = ap begins_text is ∙ form_begins (form r) rest

-- ---- what is read

-- the request or the command that was read, where one was
pub data Found (bytes : List ℕ) (x : Piece) (rest : List ℕ) : Type 0 where
  found_request : (r : Request) → x ≡ piece.Request r → begins_text bytes ≡ false → request_at bytes ≡ Ok (r, rest) → Found bytes x rest
  found_text : (t : Text) → x ≡ piece.Text t → begins_text bytes ≡ true → text_at bytes ≡ Ok (t, rest) → Found bytes x rest

mapped_ok : {A : Type 0} (f : A → Piece) (p : List ℕ → Front A) (bytes : List ℕ) (x : Piece) (rest : List ℕ) → mapped f p bytes ≡ Ok (x, rest) → (a : A) × (x ≡ f a) × (p bytes ≡ Ok (a, rest))
mapped_ok {A} f p bytes x rest e =
    let a = bind_ok (p bytes) (λ y. Ok (f y.0, y.1)) (x, rest) e in
    let s = same_whole (f a.0.0) x a.0.1 rest a.2 in
    (a.0.0, sym s.0, a.1 ∙ ap (λ (l : List ℕ). Ok (a.0.0, l)) s.1)

pub found : (bytes : List ℕ) (x : Piece) (rest : List ℕ) → piece_at bytes ≡ Ok (x, rest) → Found bytes x rest
found bytes x rest e = go (begins_text bytes) refl
  where
    go : (t : Bool) → begins_text bytes ≡ t → Found bytes x rest
    go true is = let m = mapped_ok piece.Text text_at bytes x rest (sym (at_text bytes is) ∙ e) in found_text m.0 m.1 is m.2
    go false is = let m = mapped_ok piece.Request request_at bytes x rest (sym (at_request bytes is) ∙ e) in found_request m.0 m.1 is m.2

-- ---- what is spelled

pub again_request : (r : Request) (bytes rest : List ℕ) → Fits r → bytes ≡ spelling r ++ rest → piece_at bytes ≡ Ok (piece.Request r, rest)
again_request r bytes rest fits is = at_request bytes (request_begins r bytes rest is) ∙ ap (λ (r : Front Request). r >>= λ y. Ok (piece.Request y.0, y.1)) (whole bytes r rest fits is)

pub again_text : (t : Text) (bytes rest : List ℕ) → begins_text bytes ≡ true → text_at bytes ≡ Ok (t, rest) → piece_at bytes ≡ Ok (piece.Text t, rest)
again_text t bytes rest is e = at_text bytes is ∙ ap (λ (r : Front Text). r >>= λ y. Ok (piece.Text y.0, y.1)) e

text_longer : (text rest : List ℕ) → begins_text text ≡ true → begins_text (text ++ rest) ≡ true
text_longer [] rest is = absurd cc
text_longer (b ∷ text) rest is = is

request_longer : (bytes rest : List ℕ) → 0 < length bytes → begins_text bytes ≡ false → begins_text (bytes ++ rest) ≡ false
request_longer [] rest some is = absurd (omega (arith, some))
request_longer (b ∷ bytes) rest some is = is

again : (x : Piece) (text rest : List ℕ) → Spells x text → piece_at (text ++ rest) ≡ Ok (x, rest)
again (piece.Request r) text rest s = again_request r (text ++ rest) rest s.0 (ap (λ (l : List ℕ). l ++ rest) s.1)
again (piece.Text t) text rest s = again_text t (text ++ rest) rest (text_longer text rest s.0) (text_again t text rest s.1)

-- ---- the grammar

text_shorter : (text rest : List ℕ) → begins_text (text ++ rest) ≡ true → 0 < length text → begins_text text ≡ true
text_shorter [] rest is some = absurd (omega (arith, some))
text_shorter (b ∷ text) rest is some = is

some_text : (t : Text) (text : List ℕ) → SpellsText t text → 0 < length text
some_text t text s = omega (arith, ap length s.parts, length-append s.line (10 ∷ s.value))

spelled : (bytes : List ℕ) (x : Piece) (rest : List ℕ) → IsBytes bytes → Found bytes x rest → (text : List ℕ) × Spells x text × (bytes ≡ text ++ rest)
spelled bytes x rest b (found_request r is first e) = let t = taken bytes r rest b e in (spelling r, subst (λ (y : Piece). Spells y (spelling r)) (sym is) (t.fits, refl), t.parts)
spelled bytes x rest b (found_text t is first e) =
    let f = text_found bytes t rest e in
    (f.text, subst (λ (y : Piece). Spells y f.text) (sym is) (text_shorter f.text rest (sym (ap begins_text f.parts) ∙ first) (some_text t f.text f.spells), f.spells), f.parts)

behind : (bytes more : List ℕ) (x : Piece) (rest : List ℕ) → Found bytes x rest → piece_at (bytes ++ more) ≡ Ok (x, rest ++ more)
behind bytes more x rest (found_request r is first e) =
    let l = request_less bytes (r, rest) e in
    at_request (bytes ++ more) (request_longer bytes more (omega (arith, l)) first)
    ∙ ap (λ (q : Front Request). q >>= λ y. Ok (piece.Request y.0, y.1)) (request_more bytes more (r, rest) e)
    ∙ ap (λ (y : Piece). Ok (y, rest ++ more)) (sym is)
behind bytes more x rest (found_text t is first e) =
    let f = text_found bytes t rest e in
    again_text t (bytes ++ more) (rest ++ more) (text_longer bytes more first) (ap text_at (ap (λ (l : List ℕ). l ++ more) f.parts ∙ append_assoc f.text rest more) ∙ text_again t f.text (rest ++ more) f.spells) ∙ ap (λ (y : Piece). Ok (y, rest ++ more)) (sym is)

shorter : (bytes : List ℕ) (x : Piece) (rest : List ℕ) → Found bytes x rest → length rest < length bytes
shorter bytes x rest (found_request r is first e) = request_less bytes (r, rest) e
shorter bytes x rest (found_text t is first e) = let f = text_found bytes t rest e in let s = some_text t f.text f.spells in omega (arith, s, ap length f.parts, length-append f.text rest)

pub pieces : IsGrammar Spells piece_at
pieces = record {
  found = λ bytes x rest b e. spelled bytes x rest b (found bytes x rest e);
  again = again;
  more = λ bytes more x rest e. behind bytes more x rest (found bytes x rest e);
  less = λ bytes x rest e. shorter bytes x rest (found bytes x rest e);
}
