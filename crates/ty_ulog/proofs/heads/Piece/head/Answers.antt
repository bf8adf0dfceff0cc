use Rattle.std.proofs.Common.{arith}
use Rattle.ty_ulog.proofs.Pieces.{head_shown, none_long, none_short}
use Rattle.ty_ulog.proofs.heads.Piece.head.Goals as goal

pub returns-then-self-at-lt25-clause-finds : goal.returns-then-self-at-lt25-clause-finds
returns-then-self-at-lt25-clause-finds g c = record { inside = tt; heads = λ t. none_short _ _ _ (c.requires.shows t).end_is c.if-self-at-lt25.true }

pub returns-in_default-clause-finds : goal.returns-in_default-clause-finds
returns-in_default-clause-finds g c = record {
  inside = tt;
  heads = λ t r rest f parts. c.in_default.ensures.record r f (head_shown _ _ _ c.args.at _ (c.in_ok-hold.ensures.shows t) c.part.ensures.bytes (omega arith) c.in_ok-hold.ensures.covers r rest parts);
}

pub returns-then-head-self-clause-finds : goal.returns-then-head-self-clause-finds
returns-then-head-self-clause-finds g c = record {
  inside = tt;
  heads = λ t.
      none_long _ c.args.at _ c.in-Some.head (c.requires.shows t).end_is
      (λ r rest f parts. c.in-Some.ensures.record r f (head_shown _ _ _ c.args.at _ (c.in_ok-hold.ensures.shows t) c.part.ensures.bytes (omega arith) c.in_ok-hold.ensures.covers r rest parts)) (omega (arith, c.hold.ensures.place.1));
}

pub returns-clause-finds : goal.returns-clause-finds
returns-clause-finds g c = record {
  inside = (c.in-Some.ensures.some.0, omega (arith, c.hold.ensures.place.1));
  heads = λ t r rest f parts. c.in-Some.ensures.record r f (head_shown _ _ _ c.args.at _ (c.in_ok-hold.ensures.shows t) c.part.ensures.bytes (omega arith) c.in_ok-hold.ensures.covers r rest parts);
}
