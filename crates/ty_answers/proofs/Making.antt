-- From what an engine made of contents to what a request is answered.
use Rattle.std.proofs.Common.{◌≡◌, ◌∙◌, ℕ, Bool, true, false, cond, List, [], ◌∷◌, ◌++◌, length, take, Option, Some, None, Result, Ok, Err, unwrap_or, inr, refl, sym, ap, subst}
use Rattle.std.specs.Prelude.{IfOk, OnOk}
use Rattle.tc_base.specs.Files.{Files}
use Rattle.tc_base.specs.declared.kind.Form.TheVariants.{Keep}
use Rattle.tc_base.specs.declared.request.Reply.{Reply}
use Rattle.tc_base.specs.declared.request.Reply.TheVariants as answer
use Rattle.tc_space.specs.Frames.{Keeps, OnlyReads, Others, Reads, Refuses, only_reads_refl, only_reads_then, others_refl, others_then}
use Rattle.tc_space.specs.declared.space.Space.{Ghosts}
use Rattle.ty_wire.specs.Prefixes.{IsPrefix}
use Rattle.ty_wire.specs.Spelling.{reply_bytes}
use Rattle.tc_model.specs.Contents.{Contents}
use Rattle.tc_model.specs.Apply.{fits}
use Rattle.ty_base.specs.Holding.{FormsHeld, Held, IsReady, KeepsFills, Layout, forms_keep, numbers_refl, numbers_stay, numbers_then}
use Rattle.tc_engine.specs.Changes.{Change}
use Rattle.tc_engine.specs.Effects.{IsFull, Makes}
use Rattle.ty_answers.specs.Answers.{Answered, Answers, IsFullBy, Request, changed_by, contents_of, done_reply, told_by}
use Rattle.ty_answers.specs.declared.voice.Voice.{Voice}
use Rattle.ty_answers.specs.declared.voice.Voice.TheVariants.{Plain, Silent, Misc}

pub voice_fits : (v : Voice) → fits (done_reply v) ≡ true
voice_fits Plain = refl
voice_fits Silent = refl
voice_fits Misc = refl

take_front : (xs ys : List ℕ) → take (length xs) (xs ++ ys) ≡ xs
take_front [] ys = refl
take_front (x ∷ xs) ys = ap (λ t. x ∷ t) (take_front xs ys)

-- what was said stands, or a refusal in its place
pub closed : (done : Bool) (answer refusal : Reply) (old mid new : List ℕ) → mid ≡ old ++ reply_bytes answer → new ≡ cond done mid (take (length old) mid ++ reply_bytes refusal) → new ≡ old ++ reply_bytes (cond done answer refusal)
closed true answer refusal old mid new m n = n ∙ m
closed false answer refusal old mid new m n = n ∙ ap (λ t. t ++ reply_bytes refusal) (ap (take (length old)) m ∙ take_front old (reply_bytes answer))

-- what was said and taken back or not stands behind what was there
pub kept_front : (old said mid new : List ℕ) (begin : ℕ) → begin ≡ length old → mid ≡ old ++ said → IsPrefix (take begin mid) new → IsPrefix old new
kept_front old said mid new begin b m p = subst (λ t. IsPrefix t new) (ap (λ n. take n mid) b ∙ (ap (take (length old)) m ∙ take_front old said)) p

pub if_ok : {A F : Type 0} {P Q : A → Type 0} (r : Result A F) → ((x : A) → P x → Q x) → IfOk r P → IfOk r Q
if_ok (Ok x) f h = f x h
if_ok (Err e) f h = tt

pub only_reads : {S E : Type 0} (s : Ghosts S) (Means : E → S → Contents → Type 0) (e e' : E) (a b : S) → Keeps s a b → Reads s Means e e' a b → OnlyReads s a b
only_reads s Means e e' a b keeps reads = record { keeps = keeps; files = reads.now; untouched = reads.touched; is_sound = reads.sound }

pub on_ok : {A F : Type 0} {P Q : Type 0} (r : Result A F) → (P → Q) → OnOk r P → OnOk r Q
on_ok (Ok x) f h = f h
on_ok (Err e) f h = tt

-- a change that was made, of which this was said
said_made : (answer refusal : Reply) (c d : Contents) (o : Option Contents) (old new : List ℕ) → fits answer ≡ true → o ≡ Some d → new ≡ old ++ reply_bytes answer → Answered (changed_by answer (λ _. o) c) refusal true c d old new
said_made answer refusal c d None old new fit is bytes = absurd cc
said_made answer refusal c d (Some x) old new fit is bytes = record {
  ok = sym fit;
  contents = let k = ap (λ b. cond b x c) fit in cc;
  bytes = bytes ∙ ap (λ t. old ++ reply_bytes t) (sym (ap (λ b. cond b answer refusal) fit));
}

-- one that fails
said_failed : (answer refusal : Reply) (c : Contents) (o : Option Contents) (old new : List ℕ) → o ≡ None → new ≡ old ++ reply_bytes refusal → Answered (changed_by answer (λ _. o) c) refusal false c c old new
said_failed answer refusal c None old new is bytes = record { ok = refl; contents = refl; bytes = bytes }
said_failed answer refusal c (Some x) old new is bytes = absurd cc

same_wanted : (answer : Reply) (c : Contents) (o : Option Contents) → fits answer ≡ true → unwrap_or o c ≡ contents_of (changed_by answer (λ _. o) c) c
same_wanted answer c None fit = refl
same_wanted answer c (Some x) fit = sym (ap (λ b. cond b x c) fit)

module _ {S E : Type 0} (s : Ghosts S) (own : ℕ → Type 0) (layout : Files → Layout) (holds : E → Files → Contents → Type 0) where
  -- an engine's change, answered
  pub made : (answer refusal : Reply) (f : Change) (done : Bool) (e e' : E) (a b : S) (old new : List ℕ) → fits answer ≡ true → Makes s own layout holds f done e e' a b → Keeps s a b → new ≡ old ++ reply_bytes (cond done answer refusal) → Answers s own layout holds (changed_by answer f) refusal true done e e' a b old new
  made answer refusal f true e e' a b old new fit m keeps bytes = record {
    sound = m.sound;
    others = m.others;
    numbered = m.numbered;
    answered = λ c h. let g = m.made refl c h in (g.0, g.2, said_made answer refusal c g.0 (f c) old new fit g.1 bytes);
    idle = λ no_change. absurd cc;
  }
  made answer refusal f false e e' a b old new fit m keeps bytes = record {
    sound = m.sound;
    others = m.others;
    numbered = m.numbered;
    answered = λ c h. (c, (m.same refl).means c h, said_failed answer refusal c (f c) old new (m.fails refl c h) bytes);
    idle = λ no_change. only_reads s (Held s holds) e e' a b keeps (m.same refl);
  }

  -- files that are packed in the form that they have
  pub packed : (e e' : E) (a b : S) (old new : List ℕ) → s.sound b → Others s own a b → ((c : Contents) → Held s holds e a c → Held s holds e' b c) → FormsHeld s holds layout Keep e a b → new ≡ old ++ reply_bytes answer.Done
      → Answers s own layout holds (told_by (λ c. Some answer.Done)) answer.Fail true true e e' a b old new
  packed e e' a b old new sound others remains formed bytes = record {
    sound = sound;
    others = others;
    numbered = λ c h. forms_keep (layout (s.now a)) (layout (s.now b)) (formed c h);
    answered = λ c h. (c, remains c h, record { ok = refl; contents = refl; bytes = bytes });
    idle = λ no_change. absurd cc;
  }

  -- where the change fails, nothing has changed
  pub unmade : (f : Change) (done : Bool) (e e' : E) (a b : S) → Makes s own layout holds f done e e' a b → done ≡ false → Refuses s (Held s holds) e e' a b
  unmade f done e e' a b m is = inr (m.same is)

  -- a request that has no effect on what is held
  pub failed : (effect : Request) (refusal : Reply) (updating : Bool) (e : E) (a : S) (old new : List ℕ) → IsReady s holds e a → new ≡ old ++ reply_bytes refusal → ((c : Contents) → Held s holds e a c → effect c ≡ None) → Answers s own layout holds effect refusal updating false e e a a old new
  failed effect refusal updating e a old new ready bytes none = record {
    sound = ready.sound;
    others = others_refl s own a;
    numbered = λ c h. numbers_refl (layout (s.now a));
    answered = λ c h. (c, h, subst (λ x. Answered x refusal false c c old new) (sym (none c h)) (record { ok = refl; contents = refl; bytes = bytes }));
    idle = λ i. only_reads_refl s a ready.sound;
  }

  -- a request behind a read, which may have shown what its effect is
  pub after_reads : (effect shown : Request) (refusal : Reply) (updating done : Bool) (e f g : E) (a b d : S) (old new : List ℕ) → Reads s (Held s holds) e f a b → Keeps s a b → ((c : Contents) → Held s holds e a c → shown c ≡ effect c) → Answers s own layout holds shown refusal updating done f g b d old new → Answers s own layout holds effect refusal updating done e g a d old new
  after_reads effect shown refusal updating done e f g a b d old new reads keeps same n = record {
    sound = n.sound;
    others = others_then s own a b d (record { same = λ t g other. reads.now t g }) n.others;
    numbered = λ c h. numbers_then (layout (s.now a)) (layout (s.now b)) (layout (s.now d)) (numbers_stay (layout (s.now a)) (layout (s.now b)) (λ i. layout (λ g. reads.now h.0 g i))) (n.numbered c (reads.means c h));
    answered = λ c h. let x = n.answered c (reads.means c h) in (x.0, x.1, subst (λ y. Answered y refusal done c x.0 old new) (same c h) x.2);
    idle = λ i. only_reads_then s a b d (only_reads s (Held s holds) e f a b keeps reads) (n.idle i);
  }

  pub fails_by : {F : Type 0} (effect : Request) (refusal : Reply) (updating : Bool) (e : E) (a : S) (old new : List ℕ) (r : Result Bool F) → IsReady s holds e a → ((c : Contents) → Held s holds e a c → effect c ≡ None) → IfOk r (λ done. (done ≡ false) × (new ≡ old ++ reply_bytes refusal)) → IfOk r (λ done. Answers s own layout holds effect refusal updating done e e a a old new)
  fails_by effect refusal updating e a old new (Ok done) ready none said = subst (λ d. Answers s own layout holds effect refusal updating d e e a a old new) (sym said.0) (failed effect refusal updating e a old new ready said.1 none)
  fails_by effect refusal updating e a old new (Err x) ready none said = tt

module _ {S E : Type 0} (s : Ghosts S) (holds : E → Files → Contents → Type 0) where
  pub full_by : (fills : E → S → S → Contents → Contents → Type 0) (answer : Reply) (f : Change) (e : E) (a b : S) → fits answer ≡ true → IsFull s holds fills f e a b → IsFullBy s holds fills (changed_by answer f) e a b
  full_by fills answer f e a b fit full = record { by = λ c h. subst (λ d. fills e a b c d) (same_wanted answer c (f c) fit) (full.by c h) }

  pub full_after : (fills : E → S → S → Contents → Contents → Type 0) (effect shown : Request) (e f : E) (a b d : S) → Reads s (Held s holds) e f a b → KeepsFills s fills e f a b → ((c : Contents) → Held s holds e a c → shown c ≡ effect c) → IsFullBy s holds fills shown f b d → IsFullBy s holds fills effect e a d
  full_after fills effect shown e f a b d reads keeps same full = record { by = λ c h. subst (λ y. fills e a d c (contents_of y c)) (same c h) (keeps h.0 d c _ (full.by c (reads.means c h))) }
