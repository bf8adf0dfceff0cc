-- From the effect of a request to the step that it makes.
use Rattle.std.proofs.Common.{◌≡◌, ◌∙◌, ℕ, Bool, true, false, cond, List, ◌++◌, Some, None, refl, sym, ap, subst}
use Rattle.std.specs.Prelude.{◌&&◌, option_map}
use Rattle.tc_base.specs.Files.{Files}
use Rattle.tc_base.specs.Labels.{is_label}
use Rattle.tc_base.specs.declared.kind.Kind.{Kind}
use Rattle.tc_base.specs.declared.request.Request.{Request}
use Rattle.tc_base.specs.declared.request.Request.TheVariants.{AddDouble, AddInt, Copy, Ext, FwmKeys, Get, IterInit, IterNext, MGet, Misc, Optimize, Out, Put, PutCat, PutKeep, PutNr, PutShl, Repl, Restore, Rnum, SetMst, Size, Stat, Sync, Vanish, Vsiz}
use Rattle.tc_base.specs.declared.request.Reply.{Reply}
use Rattle.tc_base.specs.declared.request.Reply.TheVariants as answer
use Rattle.tc_space.specs.Frames.{only_reads_refl, others_refl}
use Rattle.tc_space.specs.declared.space.Space.{Ghosts}
use Rattle.ty_wire.specs.Spelling.{reply_bytes}
use Rattle.tc_model.specs.Contents.{Contents, Walk, is_stored, kind_of}
use Rattle.tc_model.specs.Apply.{Effect, Step, applied, copied, effect, fits, refusal_of, refused, took, updates}
use Rattle.tc_model.specs.Packing.{is_optimize}
use Rattle.ty_base.specs.Holding.{FillsAll, Held, Layout, may_write, numbers_refl}
use Rattle.ty_answers.specs.Answers.{Answered, Answers, IsFullBy, contents_of, told_by}
use Rattle.ty_answers.specs.Answers as answers
use Rattle.ty_answers.specs.Steps.{Ends, IsFullStep, Steps}

-- a request that doesn't look at the walk
abbrev pub is_plain : Request → Bool
is_plain IterInit = false
is_plain IterNext = false
is_plain (Repl timestamp server) = false
is_plain _ = true

choice : (b : Bool) → cond b true false ≡ b
choice true = refl
choice false = refl

same_either : (b : Bool) (w : Walk) → cond b w w ≡ w
same_either true w = refl
same_either false w = refl

ends_if : (b : Bool) (p q : Step) (done : Bool) (d : Contents) (w : Walk) (old new : List ℕ) → d ≡ cond b p.contents q.contents → w ≡ cond b p.walk q.walk → done ≡ cond b p.ok q.ok → new ≡ old ++ reply_bytes (cond b p.reply q.reply) → Ends (cond b p q) done d w old new
ends_if true p q done d w old new contents walk ok bytes = record { contents = contents; walk = walk; ok = ok; bytes = bytes }
ends_if false p q done d w old new contents walk ok bytes = record { contents = contents; walk = walk; ok = ok; bytes = bytes }

took_ends : (r : Request) (e : Effect) (done : Bool) (c d : Contents) (w : Walk) (old new : List ℕ) → Answered e (refusal_of r) done c d old new → Ends (took r e c w) done d w old new
took_ends r None done c d w old new a = record { contents = a.contents; walk = refl; ok = a.ok; bytes = a.bytes }
took_ends r (Some x) done c d w old new a = ends_if (fits x.1) (record { contents = x.0; walk = w; reply = x.1; ok = true }) (refused r c w) done d w old new a.contents (sym (same_either (fits x.1) w)) (a.ok ∙ sym (choice (fits x.1))) a.bytes

plain_applied : (r : Request) (c : Contents) (w : Walk) → is_plain r ≡ true → applied r c w ≡ took r (effect r c) c w
plain_applied (Put key value) c w plain = refl
plain_applied (PutKeep key value) c w plain = refl
plain_applied (PutCat key value) c w plain = refl
plain_applied (PutShl key value width) c w plain = refl
plain_applied (PutNr key value) c w plain = refl
plain_applied (Out key) c w plain = refl
plain_applied (Get key) c w plain = refl
plain_applied (MGet keys) c w plain = refl
plain_applied (Vsiz key) c w plain = refl
plain_applied (FwmKeys prefix maximum) c w plain = refl
plain_applied (AddInt key number) c w plain = refl
plain_applied (AddDouble key integer fraction) c w plain = refl
plain_applied (Ext name options key value) c w plain = refl
plain_applied Sync c w plain = refl
plain_applied (Optimize text') c w plain = refl
plain_applied Vanish c w plain = refl
plain_applied (Copy path) c w plain = refl
plain_applied (Restore path timestamp options) c w plain = refl
plain_applied (SetMst host port timestamp options) c w plain = refl
plain_applied Rnum c w plain = refl
plain_applied Size c w plain = refl
plain_applied Stat c w plain = refl
plain_applied (Misc name options args) c w plain = refl
plain_applied IterInit c w plain = absurd cc
plain_applied IterNext c w plain = absurd cc
plain_applied (Repl timestamp server) c w plain = absurd cc

cond_contents : (b : Bool) (p q : Step) → (cond b p q).contents ≡ cond b p.contents q.contents
cond_contents true p q = refl
cond_contents false p q = refl

pub took_contents : (r : Request) (e : Effect) (c : Contents) (w : Walk) → contents_of e c ≡ (took r e c w).contents
took_contents r None c w = refl
took_contents r (Some x) c w = sym (cond_contents (fits x.1) (record { contents = x.0; walk = w; reply = x.1; ok = true }) (refused r c w))

copy_answered : (may done : Bool) (c : Contents) (old new : List ℕ) → done ≡ may → new ≡ old ++ reply_bytes (cond done answer.Done answer.Fail) → Answered (option_map (λ a. (c, a)) (cond may (Some answer.Done) None)) answer.Fail done c c old new
copy_answered true true c old new is said = record { ok = refl; contents = refl; bytes = said }
copy_answered false false c old new is said = record { ok = refl; contents = refl; bytes = said }
copy_answered true false c old new is said = absurd (let f : false ≡ true = is in cc)
copy_answered false true c old new is said = absurd (let f : true ≡ false = is in cc)

module _ {S E : Type 0} (s : Ghosts S) (own : ℕ → Type 0) (layout : Files → Layout) (holds : E → Files → Contents → Type 0) where
  -- an arm of the dispatch: what was shown is the effect of the request
  pub arm : (r shape : Request) (shown : answers.Request) (refusal : Reply) (updating done : Bool) (e e' : E) (a b : S) (w : Walk) (old new : List ℕ) → r ≡ shape → is_plain shape ≡ true → ((c : Contents) → shown c ≡ effect shape c) → refusal ≡ refusal_of shape → updating ≡ updates shape → Answers s own layout holds shown refusal updating done e e' a b old new → Steps s own layout holds r done e e' a b w w old new
  arm r shape shown refusal updating done e e' a b w old new is plain same refuses up n = subst (λ q. Steps s own layout holds q done e e' a b w w old new) (sym is) (record {
    sound = n.sound;
    others = n.others;
    numbered = n.numbered;
    applied_is = λ c h. let x = n.answered c h in (x.0, x.1, subst (λ q. Ends q done x.0 w old new) (sym (plain_applied shape c w plain)) (took_ends shape (effect shape c) done c x.0 w old new (subst (λ q. Answered (effect shape c) q done c x.0 old new) refuses (subst (λ q. Answered q refusal done c x.0 old new) (same c) x.2))));
    idle = λ i plain. n.idle (ap (λ q. done && q) up ∙ i);
  })

  -- whether what is held may be copied
  pub copy_arm : (r : Request) (text : List ℕ) (kind : Kind) (done : Bool) (e : E) (a : S) (w : Walk) (old new : List ℕ) → r ≡ Copy text → s.sound a → ((c : Contents) → Held s holds e a c → kind ≡ kind_of c)
      → (done ≡ (is_label text && is_stored kind)) × (new ≡ old ++ reply_bytes (cond done answer.Done answer.Fail)) → Steps s own layout holds r done e e a a w w old new
  copy_arm r text kind done e a w old new is sound same n = arm r (Copy text) (told_by (copied text)) answer.Fail false done e e a a w old new is refl (λ c. refl) refl refl (record {
    sound = sound;
    others = others_refl s own a;
    numbered = λ c h. numbers_refl (layout (s.now a));
    answered = λ c h. (c, h, copy_answered (is_label text && is_stored (kind_of c)) done c old new (n.0 ∙ ap (λ (k : Kind). is_label text && is_stored k) (same c h)) n.1);
    idle = λ i. only_reads_refl s a sound;
  })

  -- a packing, which may have written
  pub packing_arm : (r : Request) (text : List ℕ) (done : Bool) (e e' : E) (a b : S) (w : Walk) (old new : List ℕ) → r ≡ Optimize text → Answers s own layout holds (told_by (λ c. Some answer.Done)) answer.Fail true done e e' a b old new → Steps s own layout holds r done e e' a b w w old new
  packing_arm r text done e e' a b w old new is n = subst (λ q. Steps s own layout holds q done e e' a b w w old new) (sym is) (record {
    sound = n.sound;
    others = n.others;
    numbered = n.numbered;
    applied_is = λ c h. let x = n.answered c h in (x.0, x.1, took_ends (Optimize text) (effect (Optimize text) c) done c x.0 w old new x.2);
    idle = λ i packs. absurd (let f : true ≡ false = packs in cc);
  })

module _ {S E : Type 0} (s : Ghosts S) (holds : E → Files → Contents → Type 0) where
  pub full_arm : (fills : E → S → S → Contents → Contents → Type 0) (r shape : Request) (shown : answers.Request) (e : E) (a b : S) (w : Walk) → r ≡ shape → is_plain shape ≡ true → may_write shape ≡ true → is_optimize shape ≡ false → ((c : Contents) → shown c ≡ effect shape c) → IsFullBy s holds fills shown e a b → IsFullStep s holds fills r w e a b
  full_arm fills r shape shown e a b w is plain may changes same full = subst (λ q. IsFullStep s holds fills q w e a b) (sym is) (record {
    writes = may;
    packs = λ packs. absurd (let never : true ≡ false = sym packs ∙ changes in cc);
    by = λ c h. subst (λ d. fills e a b c d) (ap (λ q. contents_of q c) (same c) ∙ (took_contents shape (effect shape c) c w ∙ ap (λ q. q.contents) (sym (plain_applied shape c w plain)))) (full.by c h);
  })

  pub full_packing : (fills : E → S → S → Contents → Contents → Type 0) (r : Request) (text : List ℕ) (e : E) (a b : S) (w : Walk) → r ≡ Optimize text → (s.tells → FillsAll (fills e a b)) → IsFullStep s holds fills r w e a b
  full_packing fills r text e a b w is full = subst (λ q. IsFullStep s holds fills q w e a b) (sym is) (record { writes = refl; packs = λ packs t. full t; by = λ c h. full h.0 c (applied (Optimize text) c w).contents })
