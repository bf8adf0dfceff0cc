-- The operators of conditions.
use Rattle.std.specs.Prelude.{ℕ, ℤ, Bool, false, ◌&&◌, ◌||◌, not, ◌==◌, List, [], ◌∷◌, length, nat_eq, nat_le, Option, Some, None, int_lt, int_le, if◌then◌else◌}
use Rattle.std.specs.List.{list_any, list_all, starts_with, ends_with}
use Rattle.tc_base.specs.Decimal.{text_number}
use Rattle.tc_base.specs.Texts.{is_text}
use Rattle.tc_model.specs.Texts.{is_among, tokens}

abbrev pub Test : Type 0
Test = List ℕ → List ℕ → Bool

-- w stands somewhere in v
abbrev pub includes : Test
includes [] w = starts_with nat_eq [] w
includes (b ∷ v) w = starts_with nat_eq (b ∷ v) w || includes v w

abbrev pub same_number : ℤ → ℤ → Bool
same_number a b = int_le a b && int_le b a

-- the first two of some texts have a number between theirs, both included, in either order
abbrev pub is_between : ℤ → List (List ℕ) → Bool
is_between n (x ∷ y ∷ rest) = (int_le (text_number x) n && int_le n (text_number y)) || (int_le (text_number y) n && int_le n (text_number x))
is_between n _ = false

-- all tokens of e are tokens of v, and some are
abbrev pub all_tokens : Test
all_tokens v e = list_all (λ t. is_among t (tokens v)) (tokens e)

abbrev pub some_token : Test
some_token v e = list_any (λ t. is_among t (tokens v)) (tokens e)

-- texts stand among others one after the other
abbrev pub follow : List (List ℕ) → List (List ℕ) → Bool
follow [] es = starts_with is_text [] es
follow (v ∷ vs) es = starts_with is_text (v ∷ vs) es || follow vs es

-- ---- the table, a test of the column's bytes v and the expression e a line

abbrev pub Operator : Type 0
Operator = ℕ × Test

abbrev pub text_operators : List Operator
text_operators = (15, λ v e. follow (tokens v) (tokens e)) ∷ (16, λ v e. all_tokens v e) ∷ (17, λ v e. some_token v e) ∷ []

abbrev pub numbers_operators : List Operator
numbers_operators = (13, λ v e. is_between (text_number v) (tokens e)) ∷ (14, λ v e. list_any (λ t. same_number (text_number v) (text_number t)) (tokens e)) ∷ text_operators

abbrev pub number_operators : List Operator
number_operators =
    (8, λ v e. same_number (text_number v) (text_number e))
    ∷ (9, λ v e. int_lt (text_number e) (text_number v))
    ∷ (10, λ v e. int_le (text_number e) (text_number v))
    ∷ (11, λ v e. int_lt (text_number v) (text_number e))
    ∷ (12, λ v e. int_le (text_number v) (text_number e))
    ∷ numbers_operators

abbrev pub token_operators : List Operator
token_operators =
    (4, λ v e. all_tokens v e)
    ∷ (5, λ v e. some_token v e)
    ∷ (6, λ v e. is_among v (tokens e))
    ∷ number_operators

abbrev pub operators : List Operator
operators =
    (0, λ v e. is_text v e)
    ∷ (1, λ v e. includes v e)
    ∷ (2, λ v e. starts_with nat_eq v e)
    ∷ (3, λ v e. ends_with nat_eq v e)
    ∷ token_operators

abbrev pub meets_in : List Operator → ℕ → Test
meets_in [] n v e = false
meets_in (o ∷ os) n v e = if n == o.0 then o.1 v e else meets_in os n v e

-- false of a column that the row lacks
abbrev pub meets : ℕ → Option (List ℕ) → List ℕ → Bool
meets n None e = false
meets n (Some v) e = meets_in operators n v e

-- ---- which are accepted

abbrev pub is_operator : ℕ → Bool
is_operator n = list_any (λ o. n == o.0) operators

-- 13 asks for two tokens at least
abbrev pub is_complete : ℕ → List ℕ → Bool
is_complete operator expression = not (operator == 13) || nat_le 2 (length (tokens expression))
