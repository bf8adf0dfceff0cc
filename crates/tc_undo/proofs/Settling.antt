-- From what recovery finds to what it makes.
use Rattle.std.proofs.Common.{◌≡◌, ◌≤◌, ◌<◌, ⊎_elim, ℕ, List, [], length, ap, sym, subst, ◌∙◌, true, false, Bool, cond, Result, Ok, Err, refl}
use Rattle.ud_state.specs.Recovery.{Ready}
use Rattle.std.proofs.lemmas.Bool.{cases_lt}
use Rattle.tc_base.specs.Files.{Files, resized}
use Rattle.tc_base.specs.declared.kind.Rule.{Rule}
use Rattle.tc_io.specs.Images.{Calls, now}
use Rattle.ud_log.specs.Log.{entries, magic}
use Rattle.ud_log.specs.Undo.{is_data, agrees, all_short, lens_of, length_of, of_file, Log, nothing, undoes, broken, rule, by_log, undo, undone_all, data_of}
use Rattle.ud_log.proofs.Scanning.{says_nothing, broken_one}
use Rattle.ud_state.specs.State.{AreLens, Durable}
use Rattle.ud_log.specs.Entries.{undone}
use Rattle.ud_log.proofs.Places.{length-put_back, length-resized}
use Rattle.ud_state.proofs.Replaying.{inside_lens}
use Rattle.ud_state.proofs.Writing.{lens_are}
use Rattle.ud_state.proofs.Recovery.{ready_nothing}
use Rattle.tc_undo.specs.Found.{FindsUndo, FindsNothing, Finds}

pub undo_of : (b : Bool) (files : Files) (lens : List ℕ) (end : ℕ) → b ≡ true → Finds b files lens end → FindsUndo files lens end
undo_of true files lens end is f = f
undo_of false files lens end is f = absurd cc

pub nothing_of : (b : Bool) (files : Files) (lens : List ℕ) (end : ℕ) → b ≡ false → Finds b files lens end → FindsNothing files lens
nothing_of true files lens end is f = absurd cc
nothing_of false files lens end is f = f

-- the same files
pub finds_as : (b : Bool) (a c : Files) (lens : List ℕ) (end : ℕ) → ((f : ℕ) → c f ≡ a f) → Finds b a lens end → Finds b c lens end
finds_as b a c lens end same f = subst (λ (fs : Files). Finds b fs lens end) (λ i g. sym (same g) i) f

pub undo_gives : (files : Files) (lens : List ℕ) (end : ℕ) → FindsUndo files lens end → undo (files 1) files ≡ Ok (undone_all lens (entries (files 1)) files)
undo_gives files lens end f = ap (λ (l : Log). by_log l files) f.log

pub nothing_gives : (files : Files) (lens : List ℕ) → all_short lens ≡ true → FindsNothing files lens → undo (files 1) files ≡ Ok (data_of files)
nothing_gives files lens short f =
    let few : all_short (lens_of files) ≡ true = ap all_short (sym (lens_are lens files f.are)) ∙ short in
    ap (λ (l : Log). by_log l files) f.log ∙ ap (λ b. cond b (Ok (data_of files)) (Err (rule 5))) few

pub finds_files : (b : Bool) (files : Files) (lens : List ℕ) (end : ℕ) → all_short lens ≡ true → Finds b files lens end → (fs : Files) × (undo (files 1) files ≡ Ok fs)
finds_files true files lens end short f = (undone_all lens (entries (files 1)) files, undo_gives files lens end f)
finds_files false files lens end short f = (data_of files, nothing_gives files lens short f)

same_ok : (a b : Files) (w : Result Files Rule) → w ≡ Ok a → w ≡ Ok b → a ≡ b
same_ok a b w x y = let left : Result Files Rule = Ok a in let right : Result Files Rule = Ok b in let both : left ≡ right = sym x ∙ y in cc

pub ready_undo : (cs : Calls) (files : Files) (lens : List ℕ) (end : ℕ) → FindsUndo files lens end → Ready cs (undone_all lens (entries (files 1)) files) → (fs : Files) → undo (files 1) files ≡ Ok fs → Ready cs fs
ready_undo cs files lens end f ready fs is = subst (Ready cs) (same_ok _ fs (undo (files 1) files) (undo_gives files lens end f) is) ready

pub ready_none : (cs : Calls) (files : Files) (lens : List ℕ) → all_short lens ≡ true → FindsNothing files lens → ((f : ℕ) → now cs f ≡ files f) → Durable cs 1 → ((f : ℕ) → is_data f ≡ true → Durable cs f) → (fs : Files) → undo (files 1) files ≡ Ok fs → Ready cs fs
ready_none cs files lens short f same log there fs is =
    let here : now cs ≡ files = λ i g. same g i in
    let found : FindsNothing (now cs) lens = subst (λ (x : Files). FindsNothing x lens) (sym here) f in
    subst (Ready cs) (ap data_of here ∙ same_ok (data_of files) fs (undo (files 1) files) (nothing_gives files lens short f) is) (ready_nothing cs lens found.log found.are short log there)

-- a log that undoes something has its header
pub undo_long : (files : Files) (lens : List ℕ) (end : ℕ) → FindsUndo files lens end → 152 ≤ length (files 1)
undo_long files lens end f = ⊎_elim
    (λ low. agreed (agrees magic (files 1)) refl low)
    (λ high. high)
    (cases_lt (length (files 1)) 152)
  where
    agreed : (b : Bool) → agrees magic (files 1) ≡ b → length (files 1) < 152 → 152 ≤ length (files 1)
    agreed true is low = let both : nothing ≡ undoes lens (entries (files 1)) = sym (says_nothing (files 1) is low) ∙ f.log in absurd cc
    agreed false is low = let both : broken (rule 1) ≡ undoes lens (entries (files 1)) = sym (broken_one (files 1) is) ∙ f.log in absurd cc

-- the lengths that recovery answers are those of what it makes
pub finds_lens : (b : Bool) (files : Files) (lens : List ℕ) (end : ℕ) → all_short lens ≡ true → Finds b files lens end → (fs : Files) → undo (files 1) files ≡ Ok fs → AreLens lens fs
finds_lens true files lens end short f fs is = subst (AreLens lens) (same_ok _ fs (undo (files 1) files) (undo_gives files lens end f) is) (record {
  long = f.long;
  at = λ g isg. sym (ap (λ b. length (cond b (undone (length_of lens g) (of_file g (entries (files 1))) (files g)) [])) isg ∙ length-put_back (length_of lens g) (of_file g (entries (files 1))) (resized (length_of lens g) (files g)) (inside_lens lens (entries (files 1)) g f.inside) (length-resized (length_of lens g) (files g)));
})
finds_lens false files lens end short f fs is = subst (AreLens lens) (same_ok _ fs (undo (files 1) files) (nothing_gives files lens short f) is) (record {
  long = f.are.long;
  at = λ g isg. f.are.at g isg ∙ sym (ap (λ b. length (cond b (files g) [])) isg);
})

pub lens_same : (lens : List ℕ) (a b : Files) → a ≡ b → AreLens lens a → AreLens lens b
lens_same lens a b is are = subst (AreLens lens) is are

pub lens_now : (lens : List ℕ) (files : Files) → AreLens lens (data_of files) → AreLens lens files
lens_now lens files are = record { long = are.long; at = λ g isg. are.at g isg ∙ ap (λ b. length (cond b (files g) [])) isg }
