-- A link that has no room, as an earlier space stands.
use Rattle.std.proofs.Common.{◌≡◌, ℕ, length, subst, arith}
use Rattle.tc_space.specs.Ranges.{Passes}
use Rattle.tc_space.specs.declared.space.Space.{Ghosts}
use Rattle.hf_head.specs.declared.head.Head.{Head}
use Rattle.hf_tree.specs.Links.{place_of, width}
use Rattle.hf_chain.specs.Limits.{IsFull}

pub full_then : {S : Type 0} (s : Ghosts S) (h : Head) (file : ℕ) (old mid new : S) → s.limit mid ≡ s.limit old → (s.tells → length (s.now mid file) ≡ length (s.now old file)) → IsFull s h file mid new → IsFull s h file old new
full_then s h file old mid new limits long is = record {
  link = is.link;
  inside = λ t. omega (arith, is.inside t, long t);
  passes = subst (λ (l : ℕ → ℕ). Passes (l file) (s.log_full new) (place_of (width h) is.link) (width h)) limits is.passes;
}
