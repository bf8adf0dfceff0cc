use Rattle.std.proofs.Common.{◌≡◌, ◌∙◌, ℕ, List, length, take, drop, refl, sym, ap, subst, arith}
use Rattle.std.specs.Prelude.{Option, MatchOption}
use Rattle.std.proofs.lemmas.List.{length-take}
use Rattle.ty_ulog.specs.declared.reading.Head.{Head}
use Rattle.ty_ulog.specs.declared.record.Record.{Record}
use Rattle.ty_ulog.specs.Records.{record_bytes}
use Rattle.ty_ulog.specs.Log.{IsUpdate}
use Rattle.ty_ulog.specs.Pieces.{AreUpdate, Heads}
use Rattle.ty_ulog.proofs.Pieces.{ahead_passed, ahead_same, is_none, none_of_size, shows_from, size_of, some_in, update_there}
use Rattle.ty_ulog.proofs.ahead.Ahead.next.Goals as goal

pub hold-requires-clause-ahead : goal.hold-requires-clause-ahead
hold-requires-clause-ahead g c = λ t. ahead_same _ _ _ (c.head.ensures.reads.files t 2) (c.in_ok-head.ensures.goes.ahead t)

pub hold-requires-clause-head : goal.hold-requires-clause-head
hold-requires-clause-head g c = let room = some_in _ c.in-Some.head _ c.in-Some.is c.in_ok-head.ensures.some in (room.0, room.2)

pub first_bytes-requires : goal.first_bytes-requires
first_bytes-requires g c = omega (arith, ap (λ (l : List ℕ). length l) c.as_slice.ensures, c.in_ok-hold.ensures.held c.if-not-branch.false)

pub returns-in_default-clause-update : goal.returns-in_default-clause-update
returns-in_default-clause-update g c = λ t r rest u parts.
    let heads = subst (Heads (drop c.args.self.now.at (g.S.Space.now c.args.space.now 2))) c.in_default.is (c.in_ok-head.ensures.heads t) in
    let e = heads r rest u.fits parts in
    absurd cc

pub returns-then-not-branch-clause-update : goal.returns-then-not-branch-clause-update
returns-then-not-branch-clause-update g c = λ t.
    let file = g.S.Space.now c.args.space.now 2 in
    let heads = subst (Heads (drop c.args.self.now.at file)) c.in-Some.is (c.in_ok-head.ensures.heads t) in
    let none = c.in_ok-hold.ensures.none c.if-not-branch.true t in
    none_of_size file c.args.self.now.at c.in-Some.head heads (λ r rest u long parts. none r rest u long ((λ i. drop (c.in_ok-head.ensures.goes.at_is i) (c.head.ensures.reads.files t 2 i)) ∙ parts))

pub returns-in_default-2-clause-update : goal.returns-in_default-2-clause-update
returns-in_default-2-clause-update g c = λ t.
    let file = g.S.Space.now c.args.space.now 2 in
    let heads = subst (Heads (drop c.args.self.now.at file)) c.in-Some.is (c.in_ok-head.ensures.heads t) in
    let bytes : List ℕ = c.first_bytes.result.now in
    let none = subst (λ (o : Option Head). MatchOption o ((r : Record) → IsUpdate r → bytes ≡ record_bytes r → ⊥) (AreUpdate bytes)) c.in_default-2.is c.in_ok-update.ensures in
    is_none file c.hold.new.self.held.items bytes c.args.self.now.at c.in-Some.head
    (shows_from c.args.self.now c.hold.new.self _ _ (c.in_ok-hold.ensures.goes.at_is ∙ c.in_ok-head.ensures.goes.at_is) (c.head.ensures.reads.files t 2) (c.in_ok-hold.ensures.goes.ahead t))
    (c.first_bytes.ensures ∙ ap (take c.in-Some.head.size) c.as_slice.ensures) (c.in_ok-hold.ensures.held c.if-not-branch.false) heads none

pub returns-clause-update : goal.returns-clause-update
returns-clause-update g c = λ t.
    let file = g.S.Space.now c.args.space.now 2 in
    let bytes : List ℕ = c.first_bytes.result.now in
    let are = subst (λ (o : Option Head). MatchOption o ((r : Record) → IsUpdate r → bytes ≡ record_bytes r → ⊥) (AreUpdate bytes)) c.in-Some-2.is c.in_ok-update.ensures in
    update_there file c.hold.new.self.held.items bytes c.args.self.now.at c.in-Some.head.size c.in-Some-2.update
    (shows_from c.args.self.now c.hold.new.self _ _ (c.in_ok-hold.ensures.goes.at_is ∙ c.in_ok-head.ensures.goes.at_is) (c.head.ensures.reads.files t 2) (c.in_ok-hold.ensures.goes.ahead t))
    (c.first_bytes.ensures ∙ ap (take c.in-Some.head.size) c.as_slice.ensures) (c.in_ok-hold.ensures.held c.if-not-branch.false) are

pub returns-clause-moved : goal.returns-clause-moved
returns-clause-moved g c =
    let room = some_in _ c.in-Some.head _ c.in-Some.is c.in_ok-head.ensures.some in
    let bytes : List ℕ = c.first_bytes.result.now in
    let are = subst (λ (o : Option Head). MatchOption o ((r : Record) → IsUpdate r → bytes ≡ record_bytes r → ⊥) (AreUpdate bytes)) c.in-Some-2.is c.in_ok-update.ensures in
    let le = c.in_ok-hold.ensures.held c.if-not-branch.false in
    let size : c.in-Some-2.update.size ≡ c.in-Some.head.size = omega (arith, size_of bytes c.in-Some-2.update are, ap (λ (l : List ℕ). length l) c.first_bytes.ensures, length-take c.in-Some.head.size c.as_slice.result.now, ap (λ (l : List ℕ). length l) c.as_slice.ensures, le) in
    (omega (arith, size, room.1), omega (arith, size, c.in_ok-hold.ensures.goes.at_is, c.in_ok-head.ensures.goes.at_is))

pub returns-clause-ahead : goal.returns-clause-ahead
returns-clause-ahead g c = λ t.
    ahead_passed c.hold.new.self _ _ c.in-Some.head.size (ahead_same _ _ _ (sym (c.head.ensures.reads.files t 2)) (c.in_ok-hold.ensures.goes.ahead t)) refl refl c.advance.ensures.items (c.in_ok-hold.ensures.held c.if-not-branch.false)

pub returns-then-not-branch-clause-ahead : goal.returns-then-not-branch-clause-ahead
returns-then-not-branch-clause-ahead g c = λ t. ahead_same _ _ _ (sym (c.head.ensures.reads.files t 2)) (c.in_ok-hold.ensures.goes.ahead t)

pub returns-in_default-2-clause-ahead : goal.returns-in_default-2-clause-ahead
returns-in_default-2-clause-ahead g c = λ t. ahead_same _ _ _ (sym (c.head.ensures.reads.files t 2)) (c.in_ok-hold.ensures.goes.ahead t)
