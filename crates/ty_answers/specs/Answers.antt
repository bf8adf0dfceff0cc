-- What a request leaves of an engine, and of the bytes of replies.
use Rattle.std.specs.Prelude.{◌≡◌, ◌++◌, ◌&&◌, ℕ, Bool, true, false, List, [], Option, Some, None, Result, IfOk, IsErrOf, if◌then◌else◌, option_map}
use Rattle.tc_base.specs.Files.{Files}
use Rattle.tc_base.specs.declared.request.Reply.{Reply}
use Rattle.tc_base.specs.declared.request.Reply.TheVariants as reply
use Rattle.tc_space.specs.Frames.{OnlyReads, Others}
use Rattle.tc_space.specs.declared.errors.RecErr.{RecErr}
use Rattle.tc_space.specs.declared.errors.RecErr.TheVariants as rec
use Rattle.tc_space.specs.declared.space.Space.{Ghosts}
use Rattle.ty_wire.specs.Spelling.{reply_bytes}
use Rattle.tc_model.specs.Contents.{Contents}
use Rattle.tc_model.specs.Apply.{Effect, fits}
use Rattle.ty_base.specs.Holding.{Held, KeepsNumbers, Layout}
use Rattle.tc_engine.specs.Changes.{Change}
use Rattle.ty_answers.specs.declared.voice.Voice.{Voice}
use Rattle.ty_answers.specs.declared.voice.Voice.TheVariants.{Plain, Silent, Misc}

-- how a change is answered, and how its refusal
abbrev pub done_reply : Voice → Reply
done_reply Plain = reply.Done
done_reply Silent = reply.Silent
done_reply Misc = reply.List []

abbrev pub fail_reply : Voice → Reply
fail_reply Plain = reply.Fail
fail_reply Silent = reply.Silent
fail_reply Misc = reply.FailMisc

-- ---- effects as functions of contents

abbrev pub Request : Type 0
Request = Contents → Effect

-- a change that is answered so
abbrev pub changed_by : Reply → Change → Request
changed_by answer f c = option_map (λ d. (d, answer)) (f c)

-- contents stay, and are answered so
abbrev pub told_by : (Contents → Option Reply) → Request
told_by f c = option_map (λ answer. (c, answer)) (f c)

-- ---- a request's end: it fails where it has no effect, or where its reply would be too long

abbrev pub whole : Effect → Bool
whole None = false
whole (Some e) = fits e.1

abbrev pub contents_of : Effect → Contents → Contents
contents_of None c = c
contents_of (Some e) c = if fits e.1 then e.0 else c

abbrev pub reply_of : Effect → Reply → Reply
reply_of None refusal = refusal
reply_of (Some e) refusal = if fits e.1 then e.1 else refusal

pub record Answered (e : Effect) (refusal : Reply) (done : Bool) (c d : Contents) (old new : List ℕ) : Type 0 where
  pub ok : done ≡ whole e
  pub contents : d ≡ contents_of e c
  pub bytes : new ≡ old ++ reply_bytes (reply_of e refusal)

-- the request is answered, and the numbers of the files stay; where nothing was updated, nothing was written
pub record Answers {S E : Type 0} (s : Ghosts S) (own : ℕ → Type 0) (layout : Files → Layout) (holds : E → Files → Contents → Type 0) (effect : Request) (refusal : Reply) (updating : Bool) (done : Bool) (e e' : E) (a b : S) (old new : List ℕ) : Type 0 where
  pub sound : s.sound b
  pub others : Others s own a b
  pub numbered : (c : Contents) → Held s holds e a c → KeepsNumbers (layout (s.now a)) (layout (s.now b))
  pub answered : (c : Contents) → Held s holds e a c → (d : Contents) × Held s holds e' b d × Answered (effect c) refusal done c d old new
  pub idle : (done && updating) ≡ false → OnlyReads s a b

-- a limit is reached, as the space stands, between the contents and those that the request was to leave
pub record IsFullBy {S E : Type 0} (s : Ghosts S) (holds : E → Files → Contents → Type 0) (fills : E → S → S → Contents → Contents → Type 0) (effect : Request) (e : E) (a b : S) : Type 0 where
  pub by : (c : Contents) → Held s holds e a c → fills e a b c (contents_of (effect c) c)

-- ---- by the result of a call

-- a refusal comes for want of memory alone
abbrev pub OnlyMemory : {T : Type 0} → Result T RecErr → Type 0
OnlyMemory result = (IsErrOf result rec.Fault → ⊥) × (IsErrOf result rec.Full → ⊥)

module _ {S E : Type 0} (s : Ghosts S) (own : ℕ → Type 0) (layout : Files → Layout) (holds : E → Files → Contents → Type 0) where
  -- a request that may change contents
  abbrev pub AnswersBy : Result Bool RecErr → Request → Reply → Bool → E → E → S → S → List ℕ → List ℕ → Type 0
  AnswersBy result effect refusal updating e e' a b old new = IfOk result (λ done. Answers s own layout holds effect refusal updating done e e' a b old new)

  -- one that only asks
  abbrev pub TellsBy : Result Bool RecErr → Request → Reply → E → E → S → S → List ℕ → List ℕ → Type 0
  TellsBy result effect refusal e e' a b old new = IfOk result (λ done. Answers s own layout holds effect refusal false done e e' a b old new)

  -- one that is a change, by how it is answered
  abbrev pub AnswersChange : Result Bool RecErr → Voice → Change → E → E → S → S → List ℕ → List ℕ → Type 0
  AnswersChange result voice f e e' a b old new = IfOk result (λ done. Answers s own layout holds (changed_by (done_reply voice) f) (fail_reply voice) true done e e' a b old new)

module _ {S E : Type 0} (s : Ghosts S) (holds : E → Files → Contents → Type 0) (fills : E → S → S → Contents → Contents → Type 0) (result : Result Bool RecErr) where
  abbrev pub FullAnswer : Request → E → S → S → Type 0
  FullAnswer effect e a b = IsErrOf result rec.Full → IsFullBy s holds fills effect e a b

  abbrev pub FullChange : Voice → Change → E → S → S → Type 0
  FullChange voice f e a b = IsErrOf result rec.Full → IsFullBy s holds fills (changed_by (done_reply voice) f) e a b
