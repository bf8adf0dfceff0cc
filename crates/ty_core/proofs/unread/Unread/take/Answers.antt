use Rattle.ty_core.proofs.unread.Unread.take.Goals as goal

pub sight-self-inside-requires-clause-seen : goal.sight-self-inside-requires-clause-seen
sight-self-inside-requires-clause-seen c = c.new-self-inside.ensures _
