-- What was seen of a text command holds whatever comes behind.
use Rattle.std.proofs.Common.{ℕ, List, ◌++◌, arith}
use Rattle.std.specs.Prelude.{Option, Some, None, MatchOption}
use Rattle.ty_memc.specs.declared.looking.Value.{Value}
use Rattle.ty_memc.specs.declared.looking.SeenText.{SeenText}
use Rattle.ty_memc.specs.Taking.{Awaits, IsTextSeen}
use Rattle.ty_memc.proofs.Feeds.{len_grows}
use Rattle.ty_memc.proofs.Fronts.{awaits_more}

more_of : (o : Option Value) (bytes more : List ℕ) → MatchOption o (Unit {0}) (λ v. Awaits v bytes) → MatchOption o (Unit {0}) (λ v. Awaits v (bytes ++ more))
more_of None bytes more h = tt
more_of (Some v) bytes more h = awaits_more v bytes more h

pub text_seen_more : (seen : SeenText) (bytes more : List ℕ) → IsTextSeen seen bytes → IsTextSeen seen (bytes ++ more)
text_seen_more seen bytes more s = let g = len_grows bytes more in record { passed = omega (arith, s.passed, g); value = more_of seen.value bytes more s.value }
