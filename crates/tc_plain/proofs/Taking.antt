-- What a step leaves, by what its effect is.
use Rattle.std.proofs.Common.{◌≡◌, ◌<◌, ◌≤◌, ◌+◌, ℕ, zero, suc, true, false, List, [], ◌∷◌, ◌++◌, length, drop, get_or, refl, sym, ap, subst, ◌∙◌, arith}
use Rattle.std.specs.Prelude.{slice_index_or, Result, Ok, Err, IfOk, Some, None, option_map}
use Rattle.std.proofs.lemmas.Bool.{leb-true}
use Rattle.tc_base.specs.declared.request.Request.{Request}
use Rattle.tc_base.specs.declared.request.Request.TheVariants.{IterInit, IterNext, Repl}
use Rattle.tc_base.specs.declared.request.Reply.{Reply}
use Rattle.tc_base.specs.declared.request.Reply.TheVariants as reply
use Rattle.ty_wire.specs.Spelling.{reply_bytes, HasSpelling}
use Rattle.tc_model.specs.declared.applied.Applied.{Applied}
use Rattle.tc_plain.specs.declared.apply.Way.TheVariants.{Begin, Step as Next, Link, Plain}
use Rattle.tc_model.specs.Contents.{Contents, Walk}
use Rattle.tc_model.specs.Apply.{Step, Effect, applied, effect, fits, refused, told, took, stepped, next_in, next_of, updates}
use Rattle.tc_model.specs.Applying.{Applies}
use Rattle.tc_model.specs.Steps.{IsAt, IsNext}
use Rattle.tc_plain.specs.Bodies.{way_of}

pub short : (answer : Reply) → fits answer ≡ true → HasSpelling answer
short answer e = let le : length (reply_bytes answer) ≤ 67108864 = leb-true _ _ e in omega (arith, le)

told_fits : (r : Request) (answer : Reply) (after : Contents) (v : Walk) (c : Contents) (w : Walk) → fits answer ≡ true → told r answer after v c w ≡ record { contents = after; walk = v; reply = answer; ok = true }
told_fits r answer after v c w e = rw e refl

told_long : (r : Request) (answer : Reply) (after : Contents) (v : Walk) (c : Contents) (w : Walk) → fits answer ≡ false → told r answer after v c w ≡ refused r c w
told_long r answer after v c w e = rw e refl

-- an effect whose reply fits
pub takes : (r : Request) (o : Effect) (after : Contents) (answer : Reply) (c : Contents) (w : Walk) (a : Applied) (old new : List ℕ) → Some (after, answer) ≡ o → fits answer ≡ true → a.ok ≡ true → a.updated ≡ updates r → new ≡ old ++ reply_bytes answer
    → Applies (took r o c w) r a after w old new
takes r o after answer c w a old new is f done upd bytes =
    subst (λ (s : Step). Applies s r a after w old new) (sym (told_fits r answer after w c w f) ∙ ap (λ (o : Effect). took r o c w) is) (record { contents = refl; walk = refl; bytes = bytes; ok = done; updated = upd })

pub fails : (r : Request) (o : Effect) (c b : Contents) (w : Walk) (a : Applied) (old new : List ℕ) → None ≡ o → b ≡ c → Applies (refused r c w) r a c w old new → Applies (took r o c w) r a b w old new
fails r o c b w a old new is same h = subst (λ (b : Contents). Applies (took r o c w) r a b w old new) (sym same) (subst (λ (o : Effect). Applies (took r o c w) r a c w old new) is h)

pub too_long : (r : Request) (o : Effect) (after : Contents) (answer : Reply) (c b : Contents) (w : Walk) (a : Applied) (old new : List ℕ) → Some (after, answer) ≡ o → fits answer ≡ false → b ≡ c → Applies (refused r c w) r a c w old new
    → Applies (took r o c w) r a b w old new
too_long r o after answer c b w a old new is f same h =
    subst (λ (b : Contents). Applies (took r o c w) r a b w old new) (sym same) (subst (λ (s : Step). Applies s r a c w old new) (sym (told_long r answer after w c w f) ∙ ap (λ (o : Effect). took r o c w) is) h)

pub ok_more : {A E : Type 0} {P Q : A → Type 0} (r : Result A E) → ((x : A) → P x → Q x) → IfOk r P → IfOk r Q
ok_more (Ok x) f h = f x h
ok_more (Err e) f h = tt

-- ---- the walk

pub steps : (c : Contents) (w v : Walk) (n : ℕ) (key : List ℕ) (a : Applied) (old new : List ℕ) → IsNext c w n key → fits (reply.Value key) ≡ true → v ≡ option_map (drop n) w → a.ok ≡ true → a.updated ≡ false → new ≡ old ++ reply_bytes (reply.Value key)
    → Applies (applied IterNext c w) IterNext a c v old new
steps c w v n key a old new i f is done upd bytes =
    subst (λ (s : Step). Applies s IterNext a c v old new) (sym (told_fits IterNext (reply.Value key) c (Some i.rest) c w f) ∙ ap (λ o. stepped IterNext o c w) (sym i.next))
    (record { contents = refl; walk = is ∙ i.left; bytes = bytes; ok = done; updated = upd })

pub no_step : (c : Contents) (w : Walk) (a : Applied) (old new : List ℕ) → next_in c w ≡ None → Applies (refused IterNext c w) IterNext a c w old new → Applies (applied IterNext c w) IterNext a c w old new
no_step c w a old new is h = subst (λ o. Applies (stepped IterNext o c w) IterNext a c w old new) (sym is) h

pub long_step : (c : Contents) (w : Walk) (n : ℕ) (key : List ℕ) (a : Applied) (old new : List ℕ) → IsNext c w n key → fits (reply.Value key) ≡ false → Applies (refused IterNext c w) IterNext a c w old new → Applies (applied IterNext c w) IterNext a c w old new
long_step c w n key a old new i f h =
    subst (λ (s : Step). Applies s IterNext a c w old new) (sym (told_long IterNext (reply.Value key) c (Some i.rest) c w f) ∙ ap (λ o. stepped IterNext o c w) (sym i.next)) h

-- a place in the list has one item, whatever stands for those that are missing
same_at : (xs : List (List ℕ)) (i : ℕ) (d e : List ℕ) → i < length xs → get_or xs i d ≡ get_or xs i e
same_at [] i d e lt = absurd (omega arith)
same_at (x ∷ xs) zero d e lt = refl
same_at (x ∷ xs) (suc i) d e lt = same_at xs i d e (omega arith)

pub next_is : (c b : Contents) (w : Walk) (keys : List (List ℕ)) (i : ℕ) (key d : List ℕ) → Some keys ≡ w → b ≡ c → IsAt b keys i → key ≡ get_or keys i d → IsNext c w (i + 1) key
next_is c b w keys i key d is same at here =
    let item : slice_index_or keys i [] ≡ key = same_at keys i [] d at.inside ∙ sym here in
    subst (λ (w : Walk). IsNext c w (i + 1) key) is (record {
      rest = drop (i + 1) keys;
      next = ap (λ (c : Contents). next_of c keys) (sym same) ∙ at.next ∙ ap (λ k. Some (k, drop (i + 1) keys)) item;
      left = refl;
      there = omega (arith, at.inside);
    })

-- ---- which request goes which way

pub begin_only : (r : Request) → way_of r ≡ Begin → IterInit ≡ r
begin_only IterInit e = refl
begin_only _ e = absurd cc

pub step_only : (r : Request) → way_of r ≡ Next → IterNext ≡ r
step_only IterNext e = refl
step_only _ e = absurd cc

pub link_only : (r : Request) (c : Contents) (w : Walk) → way_of r ≡ Link → (applied r c w ≡ record { contents = c; walk = w; reply = reply.Silent; ok = true }) × (updates r ≡ false)
link_only (Repl timestamp server) c w e = (refl, refl)
link_only _ c w e = absurd cc

pub plain_is : (r : Request) (c : Contents) (w : Walk) → way_of r ≡ Plain → took r (effect r c) c w ≡ applied r c w
plain_is IterInit c w e = absurd cc
plain_is IterNext c w e = absurd cc
plain_is (Repl timestamp server) c w e = absurd cc
plain_is _ c w e = refl
