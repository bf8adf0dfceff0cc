use Rattle.std.proofs.Common.{Ok, sym, ◌∙◌}
use Rattle.ty_memc.specs.declared.text.Text.{Text}
use Rattle.ty_memc.specs.declared.text.Text.TheVariants.{Store}
use Rattle.ty_memc.proofs.Copied.{if_ok, has_feed, has_value, no_close, stored_there, said_there, line_end}
use Rattle.ty_memc.proofs.reading.read_text.Goals as goal

pub unreachable-requires : goal.unreachable-requires
unreachable-requires c = has_feed c.args.bytes.now c.requires c.in_default.ensures

pub unreachable-requires-in_default-read_data : goal.unreachable-requires-in_default-read_data
unreachable-requires-in_default-read_data c =
    has_value c.args.bytes.now _ _ c.in-Some.at _ _ _ _ _ c.requires (line_end c.args.bytes.now c.in-Some.at c.in-Some.ensures.0 c.in-Some.ensures.1) c.split_line.ensures.line (c.split_line.ensures.rest) c.in-Stores.ensures c.in_default-read_data.ensures

pub unreachable-requires-in-Closes : goal.unreachable-requires-in-Closes
unreachable-requires-in-Closes c = no_close c.args.bytes.now _ c.in-Some.at c.requires (line_end c.args.bytes.now c.in-Some.at c.in-Some.ensures.0 c.in-Some.ensures.1) c.split_line.ensures.line c.in-Closes.ensures

pub returns-in_ok-value-in-Stores : goal.returns-in_ok-value-in-Stores
returns-in_ok-value-in-Stores c =
    let s = stored_there c.args.bytes.now _ _ c.in-Some.at _ _ _ _ _ _ (line_end c.args.bytes.now c.in-Some.at c.in-Some.ensures.0 c.in-Some.ensures.1) c.split_line.ensures.line c.split_line.ensures.rest c.in-Stores.ensures c.in-Ok.ensures in
    (s.0, s.1 ∙ (λ i. Ok (Store c.in-Stores.storing.word (sym c.in_ok-key-in-Stores.ensures i) (sym c.in_ok-value-in-Stores.ensures i) c.in-Stores.storing.quiet, s.0)))

pub returns-in-Says : goal.returns-in-Says
returns-in-Says c = if_ok c.read_plain.result (λ (t : Text) is. said_there c.args.bytes.now _ c.in-Some.at t (line_end c.args.bytes.now c.in-Some.at c.in-Some.ensures.0 c.in-Some.ensures.1) c.split_line.ensures.line is) c.read_plain.ensures
