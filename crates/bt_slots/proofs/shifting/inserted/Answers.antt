use Rattle.std.proofs.Common.{◌∙◌, sym, subst}
use Rattle.std.specs.List.{All}
use Rattle.bt_slots.specs.Changes.{shifted, MayShift}
use Rattle.bt_slots.proofs.Changes.{inserted_behind, inserted_shifted}
use Rattle.bt_slots.proofs.shifting.inserted.Goals as goal

pub shift_behind-requires-clause-may : goal.shift_behind-requires-clause-may
shift_behind-requires-clause-may c = subst (All (MayShift c.args.from c.args.to)) (sym (inserted_behind c.args.starts.items _ c.args.index c.args.from c.requires.inside c.in_ok-insert.ensures.items)) c.requires.may

pub returns : goal.returns
returns c = c.shift_behind.ensures ∙ inserted_shifted c.args.starts.items _ c.args.index c.args.from c.requires.inside c.in_ok-insert.ensures.items (shifted c.args.from c.args.to)
