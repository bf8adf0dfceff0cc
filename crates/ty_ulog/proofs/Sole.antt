-- When bytes are one whole updating request.
use Rattle.std.proofs.Common.{◌≡◌, ℕ, ◌≤◌, Bool, true, false, cond, List, [], ◌∷◌, ◌++◌, length, drop, Ok, refl, sym, ap, subst, ◌∙◌, arith, length-append, length-drop}
use Rattle.std.specs.Prelude.{◌↔◌, IsTrue, is_some, Some, None}
use Rattle.std.proofs.lemmas.List.{append-nil, nil_from_length}
use Rattle.tc_base.specs.declared.request.Request.{Request}
use Rattle.tc_base.specs.declared.request.Request.TheVariants as request
use Rattle.tc_base.specs.Reading.{Front}
use Rattle.tc_base.proofs.Exact.{same_whole}
use Rattle.ty_wire.specs.declared.reading.Front.{Front as Answer}
use Rattle.ty_wire.specs.declared.reading.Front.TheVariants.{Whole, Part, Bad}
use Rattle.ty_wire.specs.Prefixes.{IsPrefix}
use Rattle.ty_wire.specs.Taking.{IsRead, Takes}
use Rattle.ty_wire.specs.Spelling.{spelling, Fits}
use Rattle.ty_wire.specs.Updating.{IsUpdating as Changes}
use Rattle.ty_wire.specs.Reading.{request_at}
use Rattle.ty_wire.proofs.Answered.{whole, alone as one_alone}
use Rattle.ty_ulog.specs.Updates.{alone, sole_update, update_in, IsUpdating}
use Rattle.ty_wire.specs.Updating.{updates}
use Rattle.ty_ulog.specs.Pieces.{command_of, told_by}
use Rattle.ty_wire.proofs.UpdateTest.{updates_is, updates_if, updates_only}

-- bytes that spell a request are read as it, with nothing behind
pub reads_alone : (bytes : List ℕ) (q : Request) → Fits q → bytes ≡ spelling q → request_at bytes ≡ Ok (q, [])
reads_alone bytes q f e = whole bytes q [] f (e ∙ sym (append-nil (spelling q)))

-- ---- bytes that aren't one whole request

pub not_alone : (bytes : List ℕ) (f : Answer) → IsRead bytes f → (f ≡ Whole (length bytes) → ⊥) → IsUpdating bytes → ⊥
not_alone bytes (Whole n) read ne u =
    let w = reads_alone bytes u.request u.fits u.spells in
    let none : drop n bytes ≡ [] = (same_whole read.0 u.request (drop n bytes) [] (sym read.2 ∙ w)).1 in
    ne (ap Whole (let le = read.1 in omega (arith, le, ap length none, length-drop n bytes)))
not_alone bytes Part read ne u = let w = reads_alone bytes u.request u.fits u.spells in absurd cc
not_alone bytes Bad read ne u = let w = reads_alone bytes u.request u.fits u.spells in absurd cc

is_alone : (bytes : List ℕ) (q : Request) (rest : List ℕ) → request_at bytes ≡ Ok (q, rest) → update_in bytes ≡ alone q rest
unfolding update_in
is_alone bytes q rest e = ap sole_update e

not_whole : (bytes : List ℕ) (n : ℕ) (q : Request) (l : List ℕ) → l ≡ drop n bytes → n ≤ length bytes → (Whole n ≡ Whole (length bytes) → ⊥) → is_some (alone q l) ≡ false
not_whole bytes n q [] e le ne = absurd (ne (ap Whole (let d : length (drop n bytes) ≡ 0 = sym (ap length e) in omega (arith, d, length-drop n bytes, le))))
not_whole bytes n q (b ∷ l) e le ne = refl

pub none_told : (bytes : List ℕ) (f : Answer) → IsRead bytes f → (f ≡ Whole (length bytes) → ⊥) → is_some (update_in bytes) ≡ false
unfolding update_in
none_told bytes (Whole n) read ne = ap is_some (is_alone bytes read.0 (drop n bytes) read.2) ∙ not_whole bytes n read.0 (drop n bytes) refl read.1 ne
none_told bytes Part read ne = ap (λ (f : Front Request). is_some (sole_update f)) read
none_told bytes Bad read ne = ap (λ (f : Front Request). is_some (sole_update f)) read

-- ---- bytes that are

-- they spell the request that is read off them
pub spelled : (bytes : List ℕ) (q : Request) → Takes bytes (Whole (length bytes)) → Fits q → IsPrefix (spelling q) bytes → bytes ≡ spelling q
spelled bytes q t f p =
    let same : t.0 ≡ q = one_alone bytes t.0 q t.1 f t.3 p in
    let len : length (spelling q) ≡ length bytes = subst (λ (s : Request). length (spelling s) ≡ length bytes) same t.2 in
    let none : length p.0 ≡ 0 = omega (arith, len, ap length p.1, length-append (spelling q) p.0) in
    p.1 ∙ ap (λ (l : List ℕ). spelling q ++ l) (nil_from_length p.0 none) ∙ append-nil (spelling q)

alone_test : (q : Request) → is_some (alone q []) ≡ updates q
alone_test q = go (updates q)
  where
    go : (b : Bool) → is_some (cond b (Some q) None) ≡ b
    go true = refl
    go false = refl

told_so : (bytes : List ℕ) (q : Request) → Fits q → bytes ≡ spelling q → is_some (update_in bytes) ≡ updates q
told_so bytes q f e = ap is_some (is_alone bytes q [] (reads_alone bytes q f e)) ∙ alone_test q

-- what says whether the request changes contents says whether they are one that does
pub told : (bytes : List ℕ) (q : Request) → Fits q → bytes ≡ spelling q → (b : Bool) → b ≡ updates q → (IsTrue b ↔ IsUpdating bytes) × (b ≡ is_some (update_in bytes))
told bytes q f e b is = (
  (
    λ t. record { request = q; fits = f; spells = e; changes = updates_only q (sym is ∙ t) },
    λ u.
        let same : u.request ≡ q = one_alone bytes u.request q u.fits f ([], u.spells ∙ sym (append-nil (spelling u.request))) ([], e ∙ sym (append-nil (spelling q))) in
        is ∙ updates_if q (subst Changes same u.changes),
  ),
  is ∙ sym (told_so bytes q f e),
)

pub told_by_code : (bytes : List ℕ) (q : Request) → Fits q → bytes ≡ spelling q → (b : Bool) → (b ≡ true → Changes q) → (Changes q → b ≡ true) → (IsTrue b ↔ IsUpdating bytes) × (b ≡ is_some (update_in bytes))
told_by_code bytes q f e b only back = told bytes q f e b (updates_is b q only back)

-- the request of bytes that are one updating request
pub update_is : (bytes : List ℕ) (u : IsUpdating bytes) → update_in bytes ≡ Some u.request
update_is bytes u = is_alone bytes u.request [] (reads_alone bytes u.request u.fits u.spells) ∙ go (updates u.request) (updates_if u.request u.changes)
  where
    go : (b : Bool) → b ≡ true → cond b (Some u.request) None ≡ Some u.request
    go true e = refl
    go false e = absurd cc

-- ---- how long they are

-- what is within the limits of its fields has at most the bytes that a record's request may have
fits_short : (q : Request) → Fits q → Changes q → length (spelling q) ≤ 33554432
unfolding spelling
fits_short (request.Put key value) f u = omega (arith, f.0.0, f.0.1.0, length-append key (value ++ []), length-append value [])
fits_short (request.PutKeep key value) f u = omega (arith, f.0.0, f.0.1.0, length-append key (value ++ []), length-append value [])
fits_short (request.PutCat key value) f u = omega (arith, f.0.0, f.0.1.0, length-append key (value ++ []), length-append value [])
fits_short (request.PutShl key value width) f u = omega (arith, f.0.0, f.0.1.0, length-append key (value ++ []), length-append value [])
fits_short (request.PutNr key value) f u = omega (arith, f.0.0, f.0.1.0, length-append key (value ++ []), length-append value [])
fits_short (request.Out key) f u = omega (arith, f.0.0, length-append key [])
fits_short (request.AddInt key number) f u = omega (arith, f.0.0, length-append key [])
fits_short request.Vanish f u = omega arith
fits_short (request.Misc name options args) f u = f.0.2
fits_short _ f u = absurd u

pub updating_short : (bytes : List ℕ) → IsUpdating bytes → length bytes ≤ 33554432
updating_short bytes u = subst (λ (l : List ℕ). length l ≤ 33554432) (sym u.spells) (fits_short u.request u.fits u.changes)

-- ---- told by the command

-- each request's command says whether it updates, but a misc's
pub command_tells : (q : Request) (b : Bool) → told_by (command_of (spelling q)) ≡ Some b → b ≡ updates q
unfolding spelling
command_tells (request.Put key value) b e = cc
command_tells (request.PutKeep key value) b e = cc
command_tells (request.PutCat key value) b e = cc
command_tells (request.PutShl key value width) b e = cc
command_tells (request.PutNr key value) b e = cc
command_tells (request.Out key) b e = cc
command_tells (request.Get key) b e = cc
command_tells (request.MGet keys) b e = cc
command_tells (request.Vsiz key) b e = cc
command_tells request.IterInit b e = cc
command_tells request.IterNext b e = cc
command_tells (request.FwmKeys prefix maximum) b e = cc
command_tells (request.AddInt key number) b e = cc
command_tells (request.AddDouble key integer fraction) b e = cc
command_tells (request.Ext name options key value) b e = cc
command_tells request.Sync b e = cc
command_tells (request.Optimize text) b e = cc
command_tells request.Vanish b e = cc
command_tells (request.Copy path) b e = cc
command_tells (request.Restore path timestamp options) b e = cc
command_tells (request.SetMst host port timestamp options) b e = cc
command_tells request.Rnum b e = cc
command_tells request.Size b e = cc
command_tells request.Stat b e = cc
command_tells (request.Misc name options args) b e = absurd cc
command_tells (request.Repl timestamp server) b e = cc
