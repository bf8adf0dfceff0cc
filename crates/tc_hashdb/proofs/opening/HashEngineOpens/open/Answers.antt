use Rattle.std.proofs.Common.{rules, ◌≡◌, ◌∙◌, false, length, refl, sym, ap, arith, inr}
use Rattle.std.proofs.lemmas.Result.{IfErr-weaker}
use Rattle.std.specs.FinMap.{empty}
use Rattle.tc_base.specs.declared.kind.Kind.TheVariants as kinds
use Rattle.tc_model.specs.Contents.{hash}
use Rattle.ty_base.proofs.Refusals.{breaks_all, breaks_none, if_err_of, no_bytes, on_err_of}
use Rattle.tc_hashdb.specs.Holding.{BreaksAs}
use Rattle.tc_hashdb.proofs.Made.{all_opened, made_laid, made_usual, read_laid, all_stand, made_opens, main_opened, main_opens, opened_shows}
use Rattle.tc_hashdb.proofs.opening.HashEngineOpens.open.Goals as goal

pub returns-then-len-eq0-clause-stands : goal.returns-then-len-eq0-clause-stands
returns-then-len-eq0-clause-stands g c = all_stand g.S.Space c.create.result c.args.kind c.args.space.now (search (rules, c.ne.ensures, c.if-ne.false)) (λ t. sym (c.len.ensures t) ∙ c.if-len-eq0.true)

pub returns-then-len-eq0-clause-opened : goal.returns-then-len-eq0-clause-opened
returns-then-len-eq0-clause-opened g c = all_opened g.S.Space c.create.result c.args.kind c.args.space.now c.create.new.space (λ t. sym (c.len.ensures t) ∙ c.if-len-eq0.true) c.create.ensures.created

pub returns-then-len-eq0-clause-full : goal.returns-then-len-eq0-clause-full
returns-then-len-eq0-clause-full g c = λ full t.
    let is : kinds.Hash ≡ c.args.kind = search (rules, c.ne.ensures, c.if-ne.false) in
    record {
      empty = no_bytes (g.S.Space.now c.args.space.now 0) (sym (c.len.ensures t) ∙ c.if-len-eq0.true);
      contents = hash false empty;
      stand = made_opens c.args.kind (g.S.Space.now c.args.space.now) is (sym (c.len.ensures t) ∙ c.if-len-eq0.true);
      full = c.create.ensures.full full t;
    }

pub returns-clause-stands : goal.returns-clause-stands
returns-clause-stands g c = λ t.
    let is : kinds.Hash ≡ c.args.kind = search (rules, c.ne.ensures, c.if-ne.false) in
    main_opens g.S.Space c.in_ok-hash.hash c.args.kind c.args.space.now is (c.in_ok-hash.ensures.stands t)

pub returns-clause-opened : goal.returns-clause-opened
returns-clause-opened g c = λ t. main_opened g.S.Space _ c.args.kind c.args.space.now c.open.new.space (λ zero. omega (arith, c.if-len-eq0.false, c.len.ensures t, zero)) (c.open.ensures.reads.files t 0) c.in_ok-hash.ensures.file.0 c.in_ok-hash.ensures.file.1 refl (c.in_ok-hash.ensures.holds t)
    (opened_shows g.S.Space c.in_ok-hash.hash c.args.space.now c.open.new.space (c.open.ensures.reads.files t 0) (c.in_ok-hash.ensures.stands t))

pub returns-then-len-eq0-clause-usable : goal.returns-then-len-eq0-clause-usable
returns-then-len-eq0-clause-usable g c = made_usual g.S.Space c.create.result c.args.space.now c.create.new.space c.create.ensures.created c.create.ensures.usable

pub returns-clause-usable : goal.returns-clause-usable
returns-clause-usable g c = record {
  sound = c.open.ensures.reads.is_sound;
  others = record { same = λ t n other. c.open.ensures.reads.files t n };
  made = λ t none. absurd (let zero = ap length none in omega (arith, c.if-len-eq0.false, c.len.ensures t, zero));
}

pub returns-then-len-eq0-clause-broken : goal.returns-then-len-eq0-clause-broken
returns-then-len-eq0-clause-broken g c = IfErr-weaker _ _ _ (λ e none. breaks_none e g.S.Space.tells (BreaksAs c.args.kind (g.S.Space.now c.args.space.now)) none) c.create.ensures.broken

pub returns-in_err-hash-clause-refused : goal.returns-in_err-hash-clause-refused
returns-in_err-hash-clause-refused g c = record { left = on_err_of _ (inr c.open.ensures.reads); cause = search rules; sound = if_err_of _ (λ e. breaks_all e _ c.open.ensures.reads) }

pub returns-then-len-eq0-clause-laid : goal.returns-then-len-eq0-clause-laid
returns-then-len-eq0-clause-laid g c = made_laid g.S.Space c.create.result c.args.space.now c.create.new.space (λ t. sym (c.len.ensures t) ∙ c.if-len-eq0.true) c.create.ensures.created

pub returns-clause-laid : goal.returns-clause-laid
returns-clause-laid g c = read_laid g.S.Space c.args.space.now c.open.new.space (λ t. c.open.ensures.reads.files t)
