-- The effects of misc requests, and how they are answered.
use Rattle.std.specs.Prelude.{ℕ, Bool, true, false, List, Result, option_map}
use Rattle.tc_base.specs.Files.{Files}
use Rattle.tc_base.specs.declared.request.Reply.TheVariants as reply
use Rattle.tc_space.specs.declared.errors.RecErr.{RecErr}
use Rattle.tc_space.specs.declared.space.Space.{Ghosts}
use Rattle.tc_model.specs.Contents.{Contents}
use Rattle.tc_model.specs.Apply.{called}
use Rattle.tc_model.specs.Misc.{updates_call}
use Rattle.tc_model.specs.declared.misc.Misc.{Misc}
use Rattle.tc_model.specs.declared.misc.Misc.TheVariants.{Put, PutRow, Out, PutList, PutDups, OutList, PutDup, Vanish, SetIndex, Search}
use Rattle.tc_model.specs.Meaning.{meaning}
use Rattle.ty_base.specs.Holding.{Layout}
use Rattle.tc_engine.specs.Changes.{takes_out}
use Rattle.ty_answers.specs.Answers.{AnswersBy, Request}

-- what it means, with its elements as a reply
abbrev pub meant : Misc → Request
meant m c = option_map (λ o. (o.0, reply.List o.1)) (meaning m c)

-- it may change a database
abbrev pub misc_updates : Misc → Bool
misc_updates (Put mode key value) = true
misc_updates (PutRow mode key columns) = true
misc_updates (Out key) = true
misc_updates (PutList pairs) = true
misc_updates (PutDups pairs) = true
misc_updates (OutList keys) = true
misc_updates (PutDup key value) = true
misc_updates Vanish = true
misc_updates (SetIndex column code) = true
misc_updates (Search conditions) = takes_out conditions
misc_updates _ = false

module _ {S E : Type 0} (s : Ghosts S) (own : ℕ → Type 0) (layout : Files → Layout) (holds : E → Files → Contents → Type 0) where
  -- a call by its name
  abbrev pub AnswersCalled : Result Bool RecErr → List ℕ → ℕ → List (List ℕ) → E → E → S → S → List ℕ → List ℕ → Type 0
  AnswersCalled result name options args e e' a b old new = AnswersBy s own layout holds result (called name options args) reply.FailMisc (updates_call name args) e e' a b old new

  -- a search with these conditions
  abbrev pub AnswersSearch : Result Bool RecErr → List (List ℕ) → E → E → S → S → List ℕ → List ℕ → Type 0
  AnswersSearch result conditions e e' a b old new = AnswersBy s own layout holds result (meant (Search conditions)) reply.FailMisc (takes_out conditions) e e' a b old new
