use Rattle.std.proofs.Common.{inl, inr}
use Rattle.tc_space.specs.Frames.{keeps_then}
use Rattle.bt_tree.specs.Meaning.{file_in}
use Rattle.bt_tree.specs.Paging.{brings_over}
use Rattle.bt_tree.proofs.Descents.{err_is}
use Rattle.bt_tree.proofs.Tellings.{rose_since}
use Rattle.bt_tree.proofs.tree.Tree.refuse.Goals as goal

pub returns-in-Err-clause-full : goal.returns-in-Err-clause-full
returns-in-Err-clause-full g c = λ is. inr (c.in-Err.ensures.full (err_is _ _ is))

pub returns-in-Err-clause-cause : goal.returns-in-Err-clause-cause
returns-in-Err-clause-cause g c = λ is. c.in-Err.ensures.cause (err_is _ _ is)

pub full_in-requires : goal.full_in-requires
full_in-requires g c = record { sound = c.in_default.ensures.sound }

pub returns-clause-full : goal.returns-clause-full
returns-clause-full g c = λ is.
    let b = c.full_in.ensures.full is (file_in g.R.Records c.args.self.now) in
    inl (b.brought, brings_over g.R.S.Space g.R.Records c.args.self.now c.args.space.now c.bring.new.space c.full_in.new.space b.same c.in_default.ensures.brings)

pub returns-clause-still : goal.returns-clause-still
returns-clause-still g c = record {
  keeps = keeps_then g.R.S.Space c.args.space.now c.bring.new.space c.full_in.new.space c.bring.ensures.still.keeps c.full_in.ensures.writes.keeps;
  made = c.bring.ensures.still.made;
  head = c.bring.ensures.still.head;
  height = c.bring.ensures.still.height;
  column = c.bring.ensures.still.column;
  path = c.bring.ensures.still.path;
}

pub returns-clause-cause : goal.returns-clause-cause
returns-clause-cause g c = λ is. rose_since _ _ _ c.bring.ensures.still.keeps.later (c.full_in.ensures.fault is)
