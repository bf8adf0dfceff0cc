-- The data that is stored, as contents.
use Rattle.tc_plain.specs.declared.contents.Data.{Data}
use Rattle.tc_plain.specs.declared.contents.Data.TheVariants.{Hash, Tree, Fixed, Table}
use Rattle.std.specs.Prelude.{◌≡◌, ℕ, List, Option, option_map, Result, IfOk}
use Rattle.tc_base.specs.declared.request.Reply.{Reply}
use Rattle.tc_plain.specs.declared.meaning.Outcome.{Outcome}
use Rattle.tc_plain.specs.declared.effects.Effect.{Effect}
use Rattle.tc_model.specs.Contents.{Contents, hash, tree, fixed, table}

abbrev pub contents_of : Data → Contents
contents_of (Hash memory m) = hash memory m
contents_of (Tree memory decimal ps) = tree memory decimal ps
contents_of (Fixed width most ids) = fixed width most ids
contents_of (Table rows indexes) = table rows indexes

-- a function answered data of these contents, or none
abbrev pub Makes : {E : Type 0} → Result (Option Data) E → Option Contents → Type 0
Makes result c = IfOk result (λ o. option_map contents_of o ≡ c)

abbrev pub outcome_seen : Outcome → Contents × List (List ℕ)
outcome_seen o = (contents_of o.after, o.items)

abbrev pub effect_seen : Effect → Contents × Reply
effect_seen e = (contents_of e.after, e.answer)
