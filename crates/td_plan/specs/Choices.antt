-- The condition that an index serves.
use Rattle.std.specs.Prelude.{◌≡◌, ℕ, ◌<◌, Bool, true, false, ◌&&◌, ◌||◌, not, ◌==◌, List, length, nat_le, Some, slice_get}
use Rattle.tc_base.specs.Texts.{is_text}
use Rattle.tc_model.specs.declared.query.Query.{Query}
use Rattle.tc_model.specs.declared.query.Cond.{Cond}
use Rattle.tc_model.specs.declared.query.IndexKind.{IndexKind}
use Rattle.tc_model.specs.declared.query.IndexKind.TheVariants.{Lexical, Decimal, Token}
use Rattle.tc_model.specs.Texts.{not_empty, tokens}
use Rattle.td_plan.specs.declared.choice.Indexed.{Indexed}
use Rattle.td_plan.specs.declared.choice.Choice.{Choice}

-- the operators that ask for all tokens of an expression, and for some
abbrev pub asks_all : ℕ → Bool
asks_all n = n == 4 || (n == 15 || n == 16)

abbrev pub asks_some : ℕ → Bool
asks_some n = n == 5 || n == 17

-- what an index of a type serves: equality and beginnings, comparisons of numbers, tokens where the expression has one
abbrev pub serves : IndexKind → ℕ → List ℕ → Bool
serves Lexical n e = n == 0 || n == 2
serves Decimal n e = nat_le 8 n && nat_le n 13
serves Token n e = (asks_all n || asks_some n) && nat_le 1 (length (tokens e))

-- of a column, neither negated nor kept from indexes
abbrev pub is_plain : Cond → Bool
is_plain c = not c.negated && (not c.unindexed && not_empty c.column)

abbrev pub is_served : Cond → Indexed → Bool
is_served c x = is_plain c && (is_text x.column c.column && serves x.kind c.operator c.expression)

-- no item in front of a place passes
abbrev pub NoneBefore : {A : Type 0} → (A → Bool) → List A → ℕ → Type 0
NoneBefore {A} test xs n = (i : ℕ) (x : A) → i < n → slice_get xs i ≡ Some x → test x ≡ false

-- the first item that passes stands there
pub record IsFirst {A : Type 0} (test : A → Bool) (xs : List A) (n : ℕ) : Type 0 where
  pub here : (x : A) × (slice_get xs n ≡ Some x) × (test x ≡ true)
  pub before : NoneBefore test xs n

-- no index serves it
abbrev pub IsUnserved : List Indexed → Cond → Type 0
IsUnserved indexes c = NoneBefore (is_served c) indexes (length indexes)

abbrev pub NoneServed : Query → List Indexed → ℕ → Type 0
NoneServed q indexes n = (i : ℕ) (c : Cond) → i < n → slice_get q.conds i ≡ Some c → IsUnserved indexes c

-- the condition at that place is the first that is served, by the index at the other
pub record IsChosen (q : Query) (indexes : List Indexed) (x : Choice) : Type 0 where
  pub served : (c : Cond) × (slice_get q.conds x.cond ≡ Some c) × IsFirst (is_served c) indexes x.index
  pub first : NoneServed q indexes x.cond
