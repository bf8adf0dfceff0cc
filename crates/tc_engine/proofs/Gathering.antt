-- Rows that come behind others.
use Rattle.std.proofs.Common.{◌≡◌, ◌∙◌, ◌+◌, ◌<◌, ℕ, Bool, true, false, List, [], ◌∷◌, ◌++◌, length, refl, sym, ap, append_assoc, arith, length-append}
use Rattle.std.proofs.lemmas.List.{append-nil}
use Rattle.tc_engine.specs.Rows.{Adds, HasRoom, LacksRoom, joined}
use Rattle.tc_engine.specs.declared.rows.Rows.{Rows}

pub joined_append : (xs ys : List (List ℕ)) → joined (xs ++ ys) ≡ joined xs ++ joined ys
joined_append [] ys = refl
joined_append (x ∷ xs) ys = ap (λ t. x ++ t) (joined_append xs ys) ∙ sym (append_assoc x (joined xs) (joined ys))

pub joined_one : (xs : List (List ℕ)) (row : List ℕ) → joined (xs ++ row ∷ []) ≡ joined xs ++ row
joined_one xs row = joined_append xs (row ∷ []) ∙ ap (λ t. joined xs ++ t) (append-nil row)

one_longer : (xs : List (List ℕ)) (row : List ℕ) → length (joined (xs ++ row ∷ [])) ≡ length (joined xs) + length row
one_longer xs row = ap length (joined_one xs row) ∙ length-append (joined xs) row

-- a row that had room
pub adds_row : (old new : Rows) (row : List ℕ) → HasRoom old (length row) → new.bytes ≡ old.bytes ++ row → new.count ≡ old.count + 1 → new.room + length row ≡ old.room → new.most ≡ old.most → new.long ≡ old.long → Adds old new (row ∷ [])
adds_row old new row has bytes count room most long = record {
  most = most;
  gathered = λ front before g. record {
    bytes = λ short. bytes ∙ (ap (λ t. t ++ row) (g.bytes has.not_long) ∙ (append_assoc front (joined before) row ∙ ap (λ t. front ++ t) (sym (joined_one before row))));
    count = λ short. omega (arith, count, g.count has.not_long, length-append before (row ∷ []));
    room = λ short. omega (arith, one_longer before row, room, most, g.room has.not_long);
    long = λ is. absurd (let h = has.not_long in cc);
    behind = let rest = g.behind in (rest.0 ++ row, bytes ∙ (ap (λ t. t ++ row) rest.1 ∙ append_assoc front rest.0 row));
  };
}

no_room : (old : Rows) (row : List ℕ) (before : List (List ℕ)) (b : Bool) → b ≡ old.long → (old.long ≡ true → old.most < length (joined before)) → (old.long ≡ false → length (joined before) + old.room ≡ old.most) → LacksRoom old (length row) → old.most < length (joined (before ++ row ∷ []))
no_room old row before true is long room lacks = omega (arith, one_longer before row, long (sym is))
no_room old row before false is long room lacks = omega (arith, one_longer before row, room (sym is), lacks (sym is))

-- a row that had none
pub adds_long : (old new : Rows) (row : List ℕ) → LacksRoom old (length row) → new.bytes ≡ old.bytes → new.most ≡ old.most → new.long ≡ true → Adds old new (row ∷ [])
adds_long old new row lacks bytes most long = record {
  most = most;
  gathered = λ front before g. record {
    bytes = λ short. absurd cc;
    count = λ short. absurd cc;
    room = λ short. absurd cc;
    long = λ is. let h = no_room old row before old.long refl g.long g.room lacks in omega (arith, h, most);
    behind = let rest = g.behind in (rest.0, bytes ∙ rest.1);
  };
}

pub three_behind : (a b c d x y z : List ℕ) → b ≡ a ++ x → c ≡ b ++ y → d ≡ c ++ z → d ≡ a ++ (x ++ (y ++ z))
three_behind a b c d x y z first second third = third ∙ (ap (λ t. t ++ z) (second ∙ ap (λ t. t ++ y) first) ∙ (append_assoc (a ++ x) y z ∙ append_assoc a x (y ++ z)))
