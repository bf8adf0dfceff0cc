use Rattle.std.proofs.Common.{◌-◌, ◌∙◌, ◌≡◌, ℕ, length, ap, arith}
use Rattle.std.specs.Prelude.{option_map}
use Rattle.std.proofs.lemmas.Result.{on_ok_weaker}
use Rattle.tc_fixed.specs.Listing.{ids_in}
use Rattle.tc_fixeddb.proofs.Joining.{lists_on}
use Rattle.tc_fixeddb.proofs.prefixes.add_range.Goals as goal

pub returns-clause-listed : goal.returns-clause-listed
returns-clause-listed g c =
    let count : c.len.result ≡ length c.args.into.now.items = omega (arith, c.len.ensures) in
    on_ok_weaker _ (λ listed. lists_on g.S.Space c.args.most c.rest_of-rest.result (λ m. ids_in m c.args.from c.args.to) c.args.fixed.now c.args.space.now c.args.into.now.items c.ids_in.new.into.items
    (c.rest_of-rest.ensures ∙ ap (λ (k : ℕ). option_map (λ n. n - k) c.args.most) count) listed)
    c.ids_in.ensures.listed
