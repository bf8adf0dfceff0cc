use Rattle.std.proofs.Common.{inl, inr, refl}
use Rattle.hf_survey.proofs.Named.{ascending, names_all, bad_entry, bad_chain}
use Rattle.hf_survey.proofs.checking.broken_link.Goals as goal

pub entries_named-requires-clause-looks : goal.entries_named-requires-clause-looks
entries_named-requires-clause-looks g c = record { sound = c.requires.sound; data_file = c.requires.file; shows = λ t. c.new-window.ensures (g.S.Space.now c.args.space.now c.args.file) }

pub returns-then-not-branch-clause-broken : goal.returns-then-not-branch-clause-broken
returns-then-not-branch-clause-broken g c = λ t ps a once.
    let n = c.in_ok-entries_named.ensures.no c.if-not-branch.true t (ascending c.args.head.now ps (g.S.Space.now c.args.space.now c.args.file) c.args.facts.now c.requires.buckets.valid a) in
    inl (refl, bad_entry c.args.head.now ps (g.S.Space.now c.args.space.now c.args.file) c.args.facts.now c.requires.buckets.valid a n.0 n.1 n.2)

pub returns-then-not-chains_named-clause-broken : goal.returns-then-not-chains_named-clause-broken
returns-then-not-chains_named-clause-broken g c = λ t ps a once.
    inl (refl, bad_chain c.args.head.now ps (g.S.Space.now c.args.space.now c.args.file) c.args.facts.now c.requires.buckets.valid a (c.chains_named.ensures.no c.if-not-chains_named.true (ascending c.args.head.now ps (g.S.Space.now c.args.space.now c.args.file) c.args.facts.now c.requires.buckets.valid a)))

pub returns-clause-broken : goal.returns-clause-broken
returns-clause-broken g c = λ t ps a once.
    let names = names_all c.args.head.now ps (g.S.Space.now c.args.space.now c.args.file) c.args.facts.now c.requires.buckets.valid a (c.in_ok-entries_named.ensures.yes c.if-not-branch.false t) (c.chains_named.ensures.yes c.if-not-chains_named.false) in
    inr (names, inl (refl, once names))
