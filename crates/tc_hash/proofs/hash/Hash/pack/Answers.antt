use Rattle.std.proofs.Common.{◌∙◌, inl, inr, ⊎_elim, sym, ap}
use Rattle.tc_base.specs.declared.kind.Form.{Form}
use Rattle.tc_hash.specs.Packing.{options_for}
use Rattle.tc_hash.proofs.Enlarged.{options_one}
use Rattle.tc_hash.proofs.Stored.{both_ok, from_done}
use Rattle.tc_hash.proofs.Tight.{enlarged_as, kept_as, lacks_large, numbered_open}
use Rattle.tc_reach.proofs.Handed.{on_err_any}
use Rattle.tc_hash.proofs.hash.Hash.pack.Goals as goal

pub returns-in-Keep-clause-full : goal.returns-in-Keep-clause-full
returns-in-Keep-clause-full g c = λ full t. inl (c.pack_kept.ensures.full full t)

pub returns-then-is_large-clause-full : goal.returns-then-is_large-clause-full
returns-then-is_large-clause-full g c = λ full t. inl (c.pack_kept-then-is_large.ensures.full full t)

pub returns-else-is_large-clause-full : goal.returns-else-is_large-clause-full
returns-else-is_large-clause-full g c = λ full t. ⊎_elim (λ log. inl log) (λ lacks. inr (c.in-Large.is, lacks_large g.S.Space c.args.self.now c.args.space.now c.enlarge.new.space (sym c.is_large.ensures ∙ c.if-is_large.false) lacks)) (c.enlarge.ensures.full full t)

pub returns-in-Keep-clause-left : goal.returns-in-Keep-clause-left
returns-in-Keep-clause-left g c = on_err_any _ (inr c.pack_kept.ensures.stays.head)

pub returns-then-is_large-clause-left : goal.returns-then-is_large-clause-left
returns-then-is_large-clause-left g c = on_err_any _ (inr c.pack_kept-then-is_large.ensures.stays.head)

pub returns-in-Keep-clause-stays : goal.returns-in-Keep-clause-stays
returns-in-Keep-clause-stays g c = numbered_open c.args.self.now c.pack_kept.new.self c.pack_kept.ensures.stays

pub returns-then-is_large-clause-stays : goal.returns-then-is_large-clause-stays
returns-then-is_large-clause-stays g c = numbered_open c.args.self.now c.pack_kept-then-is_large.new.self c.pack_kept-then-is_large.ensures.stays

pub returns-in-Keep-clause-packs : goal.returns-in-Keep-clause-packs
returns-in-Keep-clause-packs g c =
    let v = c.args.self.now in
    let same = ap (λ (f : Form). options_for f v) c.in-Keep.is in
    both_ok c.pack_kept.result (λ packs moves. kept_as g.S.Space c.args.form v c.pack_kept.new.self c.args.space.now c.pack_kept.new.space same c.pack_kept.ensures.stays.map packs moves) c.pack_kept.ensures.packs c.pack_kept.ensures.moves

pub returns-then-is_large-clause-packs : goal.returns-then-is_large-clause-packs
returns-then-is_large-clause-packs g c =
    let v = c.args.self.now in
    let same = ap (λ (f : Form). options_for f v) c.in-Large.is ∙ sym (options_one v.body.head (sym c.is_large.ensures ∙ c.if-is_large.true)) in
    both_ok c.pack_kept-then-is_large.result (λ packs moves. kept_as g.S.Space c.args.form v c.pack_kept-then-is_large.new.self c.args.space.now c.pack_kept-then-is_large.new.space same c.pack_kept-then-is_large.ensures.stays.map packs moves) c.pack_kept-then-is_large.ensures.packs c.pack_kept-then-is_large.ensures.moves

pub returns-else-is_large-clause-packs : goal.returns-else-is_large-clause-packs
returns-else-is_large-clause-packs g c = from_done c.enlarge.result c.enlarge.ensures.writes (λ writes. enlarged_as g.S.Space c.args.form c.args.self.now c.enlarge.new.self c.args.space.now c.enlarge.new.space c.in-Large.is (sym c.is_large.ensures ∙ c.if-is_large.false) writes)
