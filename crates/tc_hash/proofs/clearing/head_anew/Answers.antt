use Rattle.std.proofs.Common.{Bool, subst}
use Rattle.hf_head.specs.declared.head.Head.{Head}
use Rattle.tc_hash.specs.Creating.{IsNew}
use Rattle.tc_hash.proofs.Cleared.{anew_fields, may_be, new_first}
use Rattle.tc_hash.proofs.clearing.head_anew.Goals as goal

pub new_head-requires : goal.new_head-requires
new_head-requires c = may_be c.args.head.now c.requires

pub returns-clause-new : goal.returns-clause-new
returns-clause-new c = let h : Head = c.args.head.now in subst (λ (b : Bool). IsNew h.kind h.apow h.fpow h.buckets b c.new_head.result) c.is_large.ensures c.new_head.ensures.new

pub returns-clause-low : goal.returns-clause-low
returns-clause-low c = let h : Head = c.args.head.now in new_first h c.new_head.result c.requires (subst (λ (b : Bool). IsNew h.kind h.apow h.fpow h.buckets b c.new_head.result) c.is_large.ensures c.new_head.ensures.new)

pub returns-clause-fields : goal.returns-clause-fields
returns-clause-fields c = let h : Head = c.args.head.now in anew_fields h c.new_head.result c.requires (subst (λ (b : Bool). IsNew h.kind h.apow h.fpow h.buckets b c.new_head.result) c.is_large.ensures c.new_head.ensures.new)
