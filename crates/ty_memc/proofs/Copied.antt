-- A command that is copied from the bytes at the front.
use Rattle.std.proofs.Common.{◌≡◌, ℕ, ◌+◌, ◌<◌, ◌≤◌, ◌⊎◌, inl, inr, Bool, true, false, cond, ltb, min, List, ◌∷◌, length, take, drop, Result, Ok, Err, refl, sym, ap, ◌∙◌, arith}
use Rattle.std.specs.Prelude.{Option, Some, None, codes, ◌&&◌, is_ok, IfOk}
use Rattle.std.specs.List.{list_all}
use Rattle.tc_base.specs.Texts.{is_text}
use Rattle.tc_base.specs.declared.fields.NotWhole.{NotWhole}
use Rattle.tc_base.specs.declared.fields.NotWhole.TheVariants.{Part, Bad}
use Rattle.tc_base.specs.Reading.{Front, ◌>>=◌}
use Rattle.ty_memc.specs.declared.text.Text.{Text}
use Rattle.ty_memc.specs.declared.text.Text.TheVariants.{Store}
use Rattle.ty_memc.specs.declared.text.Word.{Word}
use Rattle.ty_memc.specs.Words.{words, front, is_end}
use Rattle.ty_memc.specs.Lines.{stores, says, closes, storing, begun, or_other, plain, line_of, is_key}
use Rattle.ty_memc.specs.Reading.{line_len, without_return, data_at, said, text_at}
use Rattle.ty_memc.specs.Taking.{IsLineEnd}
use Rattle.ty_memc.proofs.Fronts.{line_now, too_long, no_line}
use Rattle.ty_memc.proofs.Headings.{front_some}
use Rattle.ty_memc.proofs.Storing.{never_says}
use Rattle.std.proofs.lemmas.Bool.{ltb-true, ltb-false}

pub if_ok : {A E : Type 0} {P Q : A → Type 0} (r : Result A E) → ((x : A) → P x → Q x) → IfOk r P → IfOk r Q
if_ok (Ok x) f h = f x h
if_ok (Err e) f h = tt

-- ---- a line that says all

pub says_only : (ws : List (List ℕ)) (w : List ℕ) (rest : List (List ℕ)) (t : Text) → front ws ≡ Some (w, rest) → line_of ws ≡ says t → line_of ws ≡ says (or_other (plain w rest))
unfolding line_of
says_only ws w rest t e is = ap line_of first ∙ go (storing w) (sym (ap line_of first) ∙ is)
  where
    first : ws ≡ w ∷ rest
    first = front_some ws w rest e

    last : (b : Bool) → cond b closes (says (or_other (plain w rest))) ≡ says t → cond b closes (says (or_other (plain w rest))) ≡ says (or_other (plain w rest))
    last true e = absurd cc
    last false e = refl

    go : (o : Option Word) → begun o w rest ≡ says t → begun o w rest ≡ says (or_other (plain w rest))
    go (Some word) e = absurd (never_says word rest t e)
    go None e = last (is_text w (codes "quit") && is_end rest) e

pub all_keys : (ws : List (List ℕ)) (w : List ℕ) (rest : List (List ℕ)) → front ws ≡ Some (w, rest) → is_key w ≡ true → list_all is_key rest ≡ list_all is_key ws
all_keys ws w rest e k = ap (λ (b : Bool). b && list_all is_key rest) (sym k) ∙ ap (list_all is_key) (sym (front_some ws w rest e))

pub not_keys : (ws : List (List ℕ)) (w : List ℕ) (rest : List (List ℕ)) → front ws ≡ Some (w, rest) → is_key w ≡ false → false ≡ list_all is_key ws
not_keys ws w rest e k = ap (λ (b : Bool). b && list_all is_key rest) (sym k) ∙ ap (list_all is_key) (sym (front_some ws w rest e))

-- ---- what stands at the front

not_whole : (bytes : List ℕ) (d : NotWhole) → is_ok (text_at bytes) ≡ true → text_at bytes ≡ Err d → ⊥
not_whole bytes d whole e = let x : is_ok (text_at bytes) ≡ false = ap is_ok e in cc

pub has_feed : (bytes : List ℕ) → is_ok (text_at bytes) ≡ true → min 2048 (length bytes) ≤ line_len bytes → ⊥
has_feed bytes whole long = elim (split (length bytes)) [
  | inl few ↦ not_whole bytes Part whole (no_line bytes (omega (arith, long, few)) few)
  | inr many ↦ not_whole bytes Bad whole (too_long bytes (omega (arith, long, many)))
]
  where
    go : (n : ℕ) (b : Bool) → ltb n 2048 ≡ b → (n ≤ 2047) ⊎ (2048 ≤ n)
    go n true e = let l = ltb-true n 2048 e in inl (omega (arith, l))
    go n false e = inr (ltb-false n 2048 e)

    split : (n : ℕ) → (n ≤ 2047) ⊎ (2048 ≤ n)
    split n = go n (ltb n 2048) refl

pub no_close : (bytes line : List ℕ) (at : ℕ) → is_ok (text_at bytes) ≡ true → IsLineEnd at bytes → line ≡ without_return (take at bytes) → line_of (words line) ≡ closes → ⊥
no_close bytes line at whole e is told = not_whole bytes Bad whole (line_now bytes line at closes e is told)

pub has_value : (bytes line rest : List ℕ) (at : ℕ) (word : Word) (key : List ℕ) (size : ℕ) (quiet : Bool) (d : NotWhole) → is_ok (text_at bytes) ≡ true → IsLineEnd at bytes → line ≡ without_return (take at bytes) → rest ≡ drop (at + 1) bytes
    → line_of (words line) ≡ stores word key size quiet → data_at size rest ≡ Err d → ⊥
has_value bytes line rest at word key size quiet d whole e is behind told none =
    not_whole bytes d whole (line_now bytes line at (stores word key size quiet) e is told ∙ ap (said (stores word key size quiet)) (sym behind) ∙ ap (λ (r : Front (List ℕ)). r >>= λ v. Ok (Store word key v.0 quiet, v.1)) none)

pub stored_there : (bytes line rest : List ℕ) (at : ℕ) (word : Word) (key : List ℕ) (size : ℕ) (quiet : Bool) (value last : List ℕ) → IsLineEnd at bytes → line ≡ without_return (take at bytes) → rest ≡ drop (at + 1) bytes
    → line_of (words line) ≡ stores word key size quiet → data_at size rest ≡ Ok (value, last) → (left : List ℕ) × (text_at bytes ≡ Ok (Store word key value quiet, left))
stored_there bytes line rest at word key size quiet value last e is behind told there =
    (last, line_now bytes line at (stores word key size quiet) e is told ∙ ap (said (stores word key size quiet)) (sym behind) ∙ ap (λ (r : Front (List ℕ)). r >>= λ v. Ok (Store word key v.0 quiet, v.1)) there)

pub said_there : (bytes line : List ℕ) (at : ℕ) (t : Text) → IsLineEnd at bytes → line ≡ without_return (take at bytes) → line_of (words line) ≡ says t → (left : List ℕ) × (text_at bytes ≡ Ok (t, left))
said_there bytes line at t e is told = (drop (at + 1) bytes, line_now bytes line at (says t) e is told)

pub line_end : (bytes : List ℕ) (at : ℕ) → at ≡ line_len bytes → at < min 2048 (length bytes) → IsLineEnd at bytes
line_end bytes at is less = record { is = is; within = omega (arith, less); short = omega (arith, less) }
