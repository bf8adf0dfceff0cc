-- A step of the walk.
use Rattle.std.specs.Prelude.{◌≡◌, ◌++◌, ℕ, true, List, Option, MatchOption}
use Rattle.tc_base.specs.declared.request.Reply.TheVariants as reply
use Rattle.tc_base.specs.declared.request.Request.TheVariants.{IterNext}
use Rattle.ty_wire.specs.Spelling.{reply_bytes}
use Rattle.tc_model.specs.Contents.{Contents, Walk}
use Rattle.tc_model.specs.Apply.{applied, fits, refused}
use Rattle.tc_model.specs.Steps.{IsNext}

-- a request for the next key fails, and was answered so
pub record Fails (c : Contents) (w : Walk) (old new : List ℕ) : Type 0 where
  pub step : applied IterNext c w ≡ refused IterNext c w
  pub bytes : new ≡ old ++ reply_bytes reply.Fail

-- the next key was answered, and with it so many are to be left behind
pub record SaysKey (c : Contents) (w : Walk) (n : ℕ) (old new : List ℕ) : Type 0 where
  pub key : List ℕ
  pub next : IsNext c w n key
  pub fits_in : fits (reply.Value key) ≡ true
  pub bytes : new ≡ old ++ reply_bytes (reply.Value key)

abbrev pub SaysNext : Contents → Walk → Option ℕ → List ℕ → List ℕ → Type 0
SaysNext c w o old new = MatchOption o (Fails c w old new) (λ n. SaysKey c w n old new)
