use Rattle.std.proofs.Common.{Some, inl, inr, sym}
use Rattle.std.specs.FinMap.{entries}
use Rattle.tc_reach.proofs.Handed.{err_handed, on_err_any}
use Rattle.tc_space.specs.Frames.{reads_refl}
use Rattle.tc_engine.specs.Changes.{all_stored}
use Rattle.tc_hashdb.proofs.Setting.{rising_seen}
use Rattle.tc_tabledb.proofs.Fully.{pairs_fill}
use Rattle.tc_tabledb.proofs.Lifting.{full_up, makes_none, puts_made, ready_down}
use Rattle.tc_tabledb.proofs.Manies.{pairs_put, stored_no, stored_yes, texts_put}
use Rattle.tc_tabledb.proofs.holding.TableEngine.store_each.Goals as goal

pub put_texts-requires : goal.put_texts-requires
put_texts-requires g c = ready_down g.S.Space _ _ _ c.args.self.now c.args.space.now c.requires

pub returns-in_err-are_stored-clause-refused : goal.returns-in_err-are_stored-clause-refused
returns-in_err-are_stored-clause-refused g c = on_err_any _ (inr (reads_refl g.S.Space _ c.args.self.now c.args.space.now c.requires.sound))

pub returns-in_err-texts-clause-refused : goal.returns-in_err-texts-clause-refused
returns-in_err-texts-clause-refused g c = on_err_any _ (inr (reads_refl g.S.Space _ c.args.self.now c.args.space.now c.requires.sound))

pub returns-in_err-put_texts-clause-refused : goal.returns-in_err-put_texts-clause-refused
returns-in_err-put_texts-clause-refused g c = on_err_any _ (inl c.in_err-put_texts.ensures.spoiled)

pub returns-in_err-put_texts-clause-full : goal.returns-in_err-put_texts-clause-full
returns-in_err-put_texts-clause-full g c = λ full. full_up g.S.Space _ _ _ (all_stored c.args.pairs) (λ rows. Some (pairs_put c.args.pairs rows)) c.args.self.now c.args.space.now c.put_texts.new.space (stored_yes c.args.pairs c.as_slice.result.now c.in_ok-are_stored.field-0 c.as_slice.ensures c.in_ok-are_stored.ensures c.if-not-branch.false)
    (λ x h. pairs_fill g.S.Space _ _ _ _ _ c.table_stores.ensures c.args.pairs c.as_slice.result.now c.in_ok-are_stored.field-0 c.in_ok-texts.texts c.as_slice.ensures c.in_ok-are_stored.ensures c.if-not-branch.false c.in_ok-texts.ensures
    (rising_seen c.texts.inside.entries c.in_ok-texts.texts (sym c.texts.view_is) c.texts.invariant.sorted) c.args.self.now c.args.space.now c.put_texts.new.space x h (c.in_err-put_texts.ensures.full (err_handed c.from_residual-in_err-put_texts.result c.in_err-put_texts.field-0.0 _ c.from_residual-in_err-put_texts.ensures.1 full)))

pub returns-then-not-branch-clause-makes : goal.returns-then-not-branch-clause-makes
returns-then-not-branch-clause-makes g c = makes_none g.S.Space _ _ _ c.table_stores.ensures.store (all_stored c.args.pairs) c.args.self.now c.args.space.now c.requires.sound (stored_no c.args.pairs c.as_slice.result.now c.in_ok-are_stored.field-0 c.as_slice.ensures c.in_ok-are_stored.ensures c.if-not-branch.true)

pub returns-clause-makes : goal.returns-clause-makes
returns-clause-makes g c = puts_made g.S.Space _ _ _ c.table_stores.ensures.store (all_stored c.args.pairs) (entries c.in_ok-texts.texts) (pairs_put c.args.pairs) c.args.self.now _ c.args.space.now c.put_texts.new.space c.requires c.put_texts.ensures.stays c.in_ok-put_texts.ensures.puts
    (texts_put c.args.pairs c.as_slice.result.now c.in_ok-are_stored.field-0 c.in_ok-texts.texts c.as_slice.ensures c.in_ok-are_stored.ensures c.if-not-branch.false c.in_ok-texts.ensures (rising_seen c.texts.inside.entries c.in_ok-texts.texts (sym c.texts.view_is) c.texts.invariant.sorted))
    (stored_yes c.args.pairs c.as_slice.result.now c.in_ok-are_stored.field-0 c.as_slice.ensures c.in_ok-are_stored.ensures c.if-not-branch.false) (λ x. tt)
