-- Entries one behind the other.
use Rattle.std.proofs.Common.{List, [], ◌∷◌, ◌++◌, ◌≡◌, ◌∙◌, refl}
use Rattle.tc_io.specs.declared.wire.Entry.{Entry}
use Rattle.ty_world.specs.World.{World, happens, world_after, AllOf, AllAsked, AllCame}
use Rattle.ty_rounds.specs.Holding.{Same}

pub after_more : (xs ys : List Entry) (w : World) → world_after (xs ++ ys) w ≡ world_after ys (world_after xs w)
after_more [] ys w = refl
after_more (x ∷ xs) ys w = after_more xs ys (happens w x)

pub asked_more : (xs ys : List Entry) (w : World) → AllAsked w xs → AllAsked (world_after xs w) ys → AllAsked w (xs ++ ys)
asked_more [] ys w a b = b
asked_more (x ∷ xs) ys w a b = (a.0, asked_more xs ys (happens w x) a.1 b)

pub came_more : (xs ys : List Entry) (w : World) → AllCame w xs → AllCame (world_after xs w) ys → AllCame w (xs ++ ys)
came_more [] ys w a b = b
came_more (x ∷ xs) ys w a b = (a.0, came_more xs ys (happens w x) a.1 b)

pub all_more : (P : Entry → Type 0) (xs ys : List Entry) → AllOf P xs → AllOf P ys → AllOf P (xs ++ ys)
all_more P [] ys a b = b
all_more P (x ∷ xs) ys a b = (a.0, all_more P xs ys a.1 b)

pub all_are : (P Q : Entry → Type 0) → ((e : Entry) → P e → Q e) → (xs : List Entry) → AllOf P xs → AllOf Q xs
all_are P Q f [] a = tt
all_are P Q f (x ∷ xs) a = (f x a.0, all_are P Q f xs a.1)

pub same_refl : (w : World) → Same w w
same_refl w = record { is_same = refl; mark = refl; records = refl; ticks = refl; due = refl; gaps = refl; looked = refl; walk = refl; marks = refl; copies = refl; shut = refl; events = refl; opens = refl; given = refl }

pub same_then : (w v u : World) → Same w v → Same v u → Same w u
same_then w v u a b = record {
  is_same = b.is_same ∙ a.is_same;
  mark = b.mark ∙ a.mark;
  records = b.records ∙ a.records;
  ticks = b.ticks ∙ a.ticks;
  due = b.due ∙ a.due;
  gaps = b.gaps ∙ a.gaps;
  looked = b.looked ∙ a.looked;
  walk = b.walk ∙ a.walk;
  marks = b.marks ∙ a.marks;
  copies = b.copies ∙ a.copies;
  shut = b.shut ∙ a.shut;
  events = b.events ∙ a.events;
  opens = b.opens ∙ a.opens;
  given = b.given ∙ a.given;
}
