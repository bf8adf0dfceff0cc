use Rattle.std.proofs.Common.{arith}
use Rattle.tc_hash.proofs.Sectioned.{section_made}
use Rattle.tc_hash.proofs.settle.new_section.Goals as goal

pub returns : goal.returns
returns c = record { section = section_made c.args.body.now c.args.old.now c.append_zeros-2.new.into c.new-section.result c.pairs.new.into c.append_zeros.new.into c.section_size.result c.saturating_sub.result c.saturating_sub-2.result c.in_ok-pairs.ensures.ok c.new-section.ensures c.section_size.ensures.value c.in_ok-append_zeros.ensures.ok (omega (arith, c.saturating_sub.ensures, c.len.ensures, c.len-2.ensures)) c.in_ok-append_zeros-2.ensures.ok (omega (arith, c.saturating_sub-2.ensures, c.len-3.ensures, c.len-4.ensures)) }
