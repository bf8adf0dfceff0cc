-- Where the connections that stir stand.
use Rattle.std.specs.Prelude.{◌≡◌, ◌≤◌, ◌<◌, ℕ, Bool, false, true, List, length, get_or, Option}
use Rattle.std.specs.Option.{ForSome}
use Rattle.ty_rounds.specs.Ready.{Each, IsCalm}
use Rattle.ty_rounds.specs.declared.peer.Peer.{Peer}
use Rattle.ty_rounds.specs.declared.span.Span.{Span}

-- whatever stirs stands from the one place on and in front of the other, and what doesn't stir is quiet
pub record IsSpan (s : Span) (ps : List Peer) : Type 0 where
  pub ordered : s.from ≤ s.to
  pub within : s.to ≤ length ps
  pub calm : Each IsCalm ps
  pub all : (i : ℕ) (p : Peer) → i < length ps → p ≡ get_or ps i p → p.stirs ≡ true → (s.from ≤ i) × (i < s.to)

-- where a span is kept, whatever stirs stands in it
abbrev pub MayBeSpan : Option Span → List Peer → Type 0
MayBeSpan kept ps = ForSome kept (λ s. (s.from ≤ s.to) × (s.to ≤ length ps) × ((i : ℕ) (p : Peer) → i < length ps → p ≡ get_or ps i p → p.stirs ≡ true → (s.from ≤ i) × (i < s.to)))

-- the places of the one span, and a place, and no more than it takes for them
pub record Adds (s t : Span) (place : ℕ) : Type 0 where
  pub there : (t.from ≤ place) × (place < t.to)
  pub keeps : (i : ℕ) → s.from ≤ i → i < s.to → (t.from ≤ i) × (i < t.to)
  pub within : (n : ℕ) → s.to ≤ n → place < n → t.to ≤ n

-- the same span, or a place more where what stands there stirs
pub record AddsStirring (s t : Span) (place : ℕ) (stirs : Bool) : Type 0 where
  pub more : stirs ≡ true → Adds s t place
  pub same : stirs ≡ false → t ≡ s
