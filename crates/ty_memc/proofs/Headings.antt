-- What a line says, by its first word.
use Rattle.std.proofs.Common.{◌≡◌, Bool, true, false, cond, List, [], ◌∷◌, ℕ, refl, ap, ◌∙◌}
use Rattle.std.specs.Prelude.{Option, Some, None, codes, ◌&&◌}
use Rattle.tc_base.specs.Texts.{is_text}
use Rattle.ty_memc.specs.declared.text.Word.{Word}
use Rattle.ty_memc.specs.declared.text.Text.TheVariants.{Other}
use Rattle.ty_memc.specs.Words.{front, is_end}
use Rattle.ty_memc.specs.Lines.{Line, says, closes, storing, store_line, begun, or_closes, or_other, plain, line_of}

pub front_none : (ws : List (List ℕ)) → front ws ≡ None → ws ≡ []
front_none [] e = refl
front_none (w ∷ ws) e = absurd cc

pub front_some : (ws : List (List ℕ)) (w : List ℕ) (rest : List (List ℕ)) → front ws ≡ Some (w, rest) → ws ≡ w ∷ rest
front_some [] w rest e = absurd cc
front_some (x ∷ xs) w rest e =
    let p : ◌≡◌ {A = List ℕ × List (List ℕ)} (x, xs) (w, rest) = cc in
    (λ i. (p i).0 ∷ (p i).1)

pub no_words : (ws : List (List ℕ)) → front ws ≡ None → line_of ws ≡ says Other
unfolding line_of
no_words ws e = ap line_of (front_none ws e)

begins : (ws : List (List ℕ)) (w : List ℕ) (rest : List (List ℕ)) (o : Option Word) → front ws ≡ Some (w, rest) → storing w ≡ o → line_of ws ≡ begun o w rest
unfolding line_of
begins ws w rest o e is = ap line_of (front_some ws w rest e) ∙ ap (λ (x : Option Word). begun x w rest) is

pub stores_line : (ws : List (List ℕ)) (w : List ℕ) (rest : List (List ℕ)) (word : Word) (l : Line) → front ws ≡ Some (w, rest) → storing w ≡ Some word → store_line word rest ≡ Some l → line_of ws ≡ l
stores_line ws w rest word l e is line = begins ws w rest (Some word) e is ∙ ap or_closes line

pub bad_store : (ws : List (List ℕ)) (w : List ℕ) (rest : List (List ℕ)) (word : Word) → front ws ≡ Some (w, rest) → storing w ≡ Some word → store_line word rest ≡ None → line_of ws ≡ closes
bad_store ws w rest word e is line = begins ws w rest (Some word) e is ∙ ap or_closes line

pub quits : (ws : List (List ℕ)) (w : List ℕ) (rest : List (List ℕ)) → front ws ≡ Some (w, rest) → storing w ≡ None → (is_text w (codes "quit") && is_end rest) ≡ true → line_of ws ≡ closes
quits ws w rest e is quit = begins ws w rest None e is ∙ ap (λ (b : Bool). cond b closes (says (or_other (plain w rest)))) quit

pub says_plain : (ws : List (List ℕ)) (w : List ℕ) (rest : List (List ℕ)) → front ws ≡ Some (w, rest) → storing w ≡ None → (is_text w (codes "quit") && is_end rest) ≡ false → line_of ws ≡ says (or_other (plain w rest))
says_plain ws w rest e is quit = begins ws w rest None e is ∙ ap (λ (b : Bool). cond b closes (says (or_other (plain w rest)))) quit
