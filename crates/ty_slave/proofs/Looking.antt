-- What the record at the front of a link comes to.
use Rattle.std.proofs.Common.{◌≡◌, ◌<◌, ℕ, Bool, true, List, drop, Ok, sym, ap, subst, ◌∙◌}
use Rattle.std.specs.Prelude.{Result, Err, IfOk, OnErr}
use Rattle.tc_base.specs.Bytes.{IsBytes}
use Rattle.tc_base.proofs.Exact.{same_whole}
use Rattle.ty_ulog.specs.declared.record.Record.{Record}
use Rattle.ty_ulog.specs.Records.{record_at, Fits}
use Rattle.ty_ulog.proofs.Taken.{taken}
use Rattle.ty_slave.specs.declared.link.Step.{Step}
use Rattle.ty_slave.specs.Lines.{HasNext, IsNext, Line, TakesThis, TakesUpdate, judged, looked}

pub looked_front : (l : Line) (s : Step) (held n : ℕ) (bytes rest : List ℕ) (q r : Record) → record_at bytes ≡ Ok (q, drop n bytes) → record_at bytes ≡ Ok (r, rest) → s ≡ judged held r → l.held ≡ held
    → (s, record l { unread = drop n bytes }) ≡ looked l (record_at bytes)
looked_front l s held n bytes rest q r e f is h =
    let same = same_whole q r (drop n bytes) rest (sym e ∙ f) in
    let first : s ≡ judged l.held q = is ∙ ap (λ (x : Record). judged held x) (sym same.0) ∙ ap (λ (k : ℕ). judged k q) (sym h) in
    let both : ◌≡◌ {A = Step × Line} (s, record l { unread = drop n bytes }) (judged l.held q, record l { unread = drop n bytes }) = λ i. (first i, record l { unread = drop n bytes }) in
    both ∙ ap (looked l) (sym e)

-- what was judged is what the front comes to
pub looked_on : {E : Type 0} (o : Result Step E) (held n : ℕ) (bytes rest : List ℕ) (q r : Record) → record_at bytes ≡ Ok (q, drop n bytes) → record_at bytes ≡ Ok (r, rest) → IfOk o (λ s. s ≡ judged held r)
    → IfOk o (λ s. (l : Line) → l.held ≡ held → (s, record l { unread = drop n bytes }) ≡ looked l (record_at bytes))
looked_on (Ok s) held n bytes rest q r e f is = λ l h. looked_front l s held n bytes rest q r e f is h
looked_on (Err x) held n bytes rest q r e f is = tt

-- what is to be taken was read off the front, so it is within the limits
pub takes_on : {E : Type 0} (o : Result Step E) (bytes rest : List ℕ) (r : Record) → IsBytes bytes → record_at bytes ≡ Ok (r, rest) → IfOk o (TakesThis r) → IfOk o TakesUpdate
takes_on (Ok s) bytes rest r fits e takes = λ q is.
    let t = takes q is in
    record { fits = subst Fits (sym t.0) (taken bytes r rest fits e).fits; updating = t.1 }
takes_on (Err x) bytes rest r fits e takes = tt

pub has_next : {E : Type 0} (o : Result Step E) (held : ℕ) (bytes rest : List ℕ) (r : Record) → record_at bytes ≡ Ok (r, rest) → OnErr o (IsNext held r) → OnErr o (HasNext held bytes)
has_next (Ok s) held bytes rest r e next = tt
has_next (Err x) held bytes rest r e next = record { front = r; rest = rest; reads = e; next = next }

-- ---- where memory is wanting

on_err : {A E : Type 0} (o : Result A E) (P : Type 0) → P → OnErr o P
on_err (Ok x) P p = tt
on_err (Err e) P p = p

pub next_on : {A E : Type 0} (o : Result A E) (held : ℕ) (r : Record) → r.before ≡ held → held < r.stamp → OnErr o (IsNext held r)
next_on o held r follows later = on_err o (IsNext held r) (record { follows = follows; later = later })

pub next_in : {A E : Type 0} (o : Result A E) (held : ℕ) (bytes unread : List ℕ) → HasNext held bytes → bytes ≡ unread → OnErr o (HasNext held unread)
next_in o held bytes unread has e = on_err o (HasNext held unread) (subst (HasNext held) e has)

pub next_named : {A E : Type 0} (o : Result A E) (named : Bool) (held : ℕ) (unread : List ℕ) → OnErr o (HasNext held unread) → named ≡ true → OnErr o ((named ≡ true) × HasNext held unread)
next_named (Ok x) named held unread has is = tt
next_named (Err e) named held unread has is = (is, has)
