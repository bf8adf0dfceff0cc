use Rattle.std.proofs.Common.{◌∙◌, ℕ, List, take, sym, ap, subst}
use Rattle.hf_head.specs.Heads.{head_in}
use Rattle.hf_pool.specs.Pools.{frees}
use Rattle.tc_hash.proofs.Fronted.{anew_as, numbers_is}
use Rattle.tc_hash.proofs.Opened.{holds_end, read_holds, read_stands}
use Rattle.tc_hash.specs.Standing.{StandsWith}
use Rattle.tc_hash.proofs.hash.Hash.open.Goals as goal

pub held_open-requires-clause-unit : goal.held_open-requires-clause-unit
held_open-requires-clause-unit g c = c.in_ok-head.ensures.pool.unit_is

pub returns-clause-stands : goal.returns-clause-stands
returns-clause-stands g c = λ t.
    let w = c.in_ok-head.ensures.read t in
    let p = c.in_ok-head.field-0 in
    let x = read_stands c.args.kind (g.S.Space.now c.args.space.now c.args.file) p.head w.0 (frees p.pool) w.1 in
    (x.0, subst (λ (r : List ℕ). StandsWith c.args.kind (g.S.Space.now c.args.space.now c.args.file) x.0 r) (sym c.held_open.ensures.rest.1) x.1)

pub returns-clause-holds : goal.returns-clause-holds
returns-clause-holds g c = λ t m stands.
    let w = c.in_ok-head.ensures.read t in
    let p = c.in_ok-head.field-0 in
    let e = c.held_open.ensures in
    anew_as c.held_open.result p.head p.pool p.head.records (g.S.Space.now c.read_parts.new.space c.args.file) m e.body.1 e.body.2 e.rest.0 e.rest.2 c.in_ok-head.ensures.pool.noted
    (holds_end p.head p.pool m (g.S.Space.now c.args.space.now c.args.file) (g.S.Space.now c.read_parts.new.space c.args.file) (c.in_ok-head.ensures.reads.files t c.args.file) c.in_ok-head.ensures.pool.end_is
    (read_holds c.args.kind (g.S.Space.now c.args.space.now c.args.file) p.head w.0 (frees p.pool) m w.1 stands))
    (numbers_is p.head (head_in (take 256 (g.S.Space.now c.read_parts.new.space c.args.file))) (ap (λ (l : List ℕ). head_in (take 256 l)) (c.in_ok-head.ensures.reads.files t c.args.file) ∙ w.1.opens.spells.fields))

pub returns-clause-head : goal.returns-clause-head
returns-clause-head g c = λ t. ap (λ (l : List ℕ). head_in (take 256 l)) (c.in_ok-head.ensures.reads.files t c.args.file) ∙ (c.in_ok-head.ensures.read t).1.opens.spells.fields ∙ sym c.held_open.ensures.body.1
