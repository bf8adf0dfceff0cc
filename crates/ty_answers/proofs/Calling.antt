-- Misc requests, as they are called.
use Rattle.std.proofs.Common.{◌≡◌, ◌∙◌, ℕ, Bool, true, false, cond, List, Option, Some, None, option_map, option_and_then, refl, sym, ap, subst}
use Rattle.std.specs.Prelude.{◌%◌, ◌==◌, ◌&&◌}
use Rattle.tc_base.specs.Files.{Files}
use Rattle.tc_base.specs.declared.request.Reply.TheVariants as reply
use Rattle.tc_base.specs.declared.request.Reply.{Reply}
use Rattle.tc_space.specs.declared.space.Space.{Ghosts}
use Rattle.tc_model.specs.declared.misc.Misc.{Misc}
use Rattle.tc_model.specs.Apply.{Effect, called}
use Rattle.tc_model.specs.Contents.{Contents, kind_of}
use Rattle.tc_model.specs.Meaning as meaning
use Rattle.tc_model.specs.Meaning.{are_short, done, keys_of}
use Rattle.tc_model.specs.Misc.{misc_of, updates_call}
use Rattle.ty_base.specs.Holding.{Held, Layout}
use Rattle.ty_answers.specs.Answers.{Answered, Answers, IsFullBy, Request, contents_of}
use Rattle.ty_answers.specs.Calls.{meant}

both_quiet : (done less more : Bool) → (less ≡ true → more ≡ true) → (done && more) ≡ false → (done && less) ≡ false
both_quiet true true more rises i = sym (rises refl) ∙ i
both_quiet true false more rises i = refl
both_quiet false less more rises i = refl

abbrev told : Option (Contents × List (List ℕ)) → Effect
told o = option_map (λ x. (x.0, reply.List x.1)) o

short_done : (m : Misc) (c : Contents) → are_short (keys_of m) ≡ true → done m c ≡ meaning.meaning m c
unfolding done
short_done m c short = ap (λ b. cond b (meaning.meaning m c) None) short

long_done : (m : Misc) (c : Contents) → are_short (keys_of m) ≡ false → done m c ≡ None
unfolding done
long_done m c long = ap (λ b. cond b (meaning.meaning m c) None) long

called_done : (name : List ℕ) (options : ℕ) (args : List (List ℕ)) (m : Misc) (c : Contents) → (options % 2 == 1 && updates_call name args) ≡ false → misc_of name args (kind_of c) ≡ Some m → called name options args c ≡ told (done m c)
called_done name options args m c kept is =
    ap (λ b. cond b None (told (option_and_then (λ m. done m c) (misc_of name args (kind_of c))))) kept
    ∙ ap (λ o. told (option_and_then (λ m. done m c) o)) is

-- what a name and arguments that are a request mean
pub called_is : (name : List ℕ) (options : ℕ) (args : List (List ℕ)) (m : Misc) (c : Contents) → (options % 2 == 1 && updates_call name args) ≡ false → misc_of name args (kind_of c) ≡ Some m → are_short (keys_of m) ≡ true → meant m c ≡ called name options args c
called_is name options args m c kept is short = sym (called_done name options args m c kept is ∙ ap told (short_done m c short))

pub called_long : (name : List ℕ) (options : ℕ) (args : List (List ℕ)) (m : Misc) (c : Contents) → (options % 2 == 1 && updates_call name args) ≡ false → misc_of name args (kind_of c) ≡ Some m → are_short (keys_of m) ≡ false → called name options args c ≡ None
called_long name options args m c kept is long = called_done name options args m c kept is ∙ ap told (long_done m c long)

module _ {S E : Type 0} (s : Ghosts S) (own : ℕ → Type 0) (layout : Files → Layout) (holds : E → Files → Contents → Type 0) where
  pub shown : (effect other : Request) (refusal : Reply) (updating done : Bool) (e e' : E) (a b : S) (old new : List ℕ) → ((c : Contents) → Held s holds e a c → other c ≡ effect c) → Answers s own layout holds other refusal updating done e e' a b old new → Answers s own layout holds effect refusal updating done e e' a b old new
  shown effect other refusal updating done e e' a b old new same n = record {
    sound = n.sound;
    others = n.others;
    numbered = n.numbered;
    answered = λ c h. let x = n.answered c h in (x.0, x.1, subst (λ y. Answered y refusal done c x.0 old new) (same c h) x.2);
    idle = n.idle;
  }

  -- what is shown of a request that may update is shown of one that does
  pub quieter : (effect : Request) (refusal : Reply) (less more done : Bool) (e e' : E) (a b : S) (old new : List ℕ) → (less ≡ true → more ≡ true) → Answers s own layout holds effect refusal less done e e' a b old new → Answers s own layout holds effect refusal more done e e' a b old new
  quieter effect refusal less more done e e' a b old new rises n = record {
    sound = n.sound;
    others = n.others;
    numbered = n.numbered;
    answered = n.answered;
    idle = λ i. n.idle (both_quiet done less more rises i);
  }

module _ {S E : Type 0} (s : Ghosts S) (holds : E → Files → Contents → Type 0) where
  pub shown_full : (fills : E → S → S → Contents → Contents → Type 0) (effect other : Request) (e : E) (a b : S) → ((c : Contents) → Held s holds e a c → other c ≡ effect c) → IsFullBy s holds fills other e a b → IsFullBy s holds fills effect e a b
  shown_full fills effect other e a b same full = record { by = λ c h. subst (λ y. fills e a b c (contents_of y c)) (same c h) (full.by c h) }
