-- What stands at the front, once its line was read.
use Rattle.std.proofs.Common.{◌≡◌, ℕ, ◌+◌, ◌<◌, ◌≤◌, Bool, true, false, cond, eqb, List, [], ◌∷◌, ◌++◌, length, take, drop, Ok, Err, sym, ap, subst, ◌∙◌, arith, length-append, length-drop, append_assoc}
use Rattle.std.proofs.lemmas.List.{append-nil, drop-append-le, drop-drop}
use Rattle.std.proofs.lemmas.List.Sums.{prefix_len-le-length}
use Rattle.tc_base.specs.declared.fields.NotWhole.{NotWhole}
use Rattle.tc_base.specs.declared.fields.NotWhole.TheVariants.{Part, Bad}
use Rattle.tc_base.specs.Reading.{◌>>=◌, Front, bytes_at}
use Rattle.tc_base.proofs.Exact.{bind_ok, same_whole}
use Rattle.ty_wire.proofs.Stays.{bytes_stay, rest_is}
use Rattle.ty_memc.specs.declared.text.Text.{Text}
use Rattle.ty_memc.specs.declared.text.Text.TheVariants.{Store}
use Rattle.ty_memc.specs.declared.text.Word.{Word}
use Rattle.ty_memc.specs.declared.looking.Value.{Value}
use Rattle.ty_memc.specs.Words.{words}
use Rattle.ty_memc.specs.Lines.{Line, stores, says, closes, line_of}
use Rattle.ty_memc.specs.Reading.{is_inside, line_len, without_return, byte_is, data_at, said, text_at}
use Rattle.ty_memc.specs.Taking.{Awaits, IsLineEnd}
use Rattle.ty_memc.proofs.Feeds.{line_stays, line_part, line_bad}

-- ---- the end of a value

byte_ok : (b : ℕ) (bytes : List ℕ) (x : Unit {0}) (rest : List ℕ) → byte_is b bytes ≡ Ok (x, rest) → rest ≡ drop 1 bytes
byte_ok b [] x rest e = absurd cc
byte_ok b (c ∷ bytes) x rest e = go (eqb c b) e
  where
    go : (t : Bool) → cond {A = Front (Unit {0})} t (Ok (tt, bytes)) (Err Bad) ≡ Ok (x, rest) → rest ≡ bytes
    go true e = sym (same_whole tt x bytes rest e).1
    go false e = absurd cc

byte_some : (b : ℕ) (bytes : List ℕ) (x : Unit {0}) (rest : List ℕ) → byte_is b bytes ≡ Ok (x, rest) → 0 < length bytes
byte_some b [] x rest e = absurd cc
byte_some b (c ∷ bytes) x rest e = omega arith

pub record Ended (size : ℕ) (bytes v rest : List ℕ) : Type 0 where
  pub len : size + 2 ≤ length bytes
  pub rest_is : rest ≡ drop (size + 2) bytes

pub data_ends : (size : ℕ) (bytes v rest : List ℕ) → data_at size bytes ≡ Ok (v, rest) → Ended size bytes v rest
data_ends size bytes v rest e =
    let a = bind_ok (bytes_at size bytes) (λ v. byte_is 13 v.1 >>= λ r. byte_is 10 r.1 >>= λ f. Ok (v.0, f.1)) (v, rest) e in
    let b = bind_ok (byte_is 13 a.0.1) (λ r. byte_is 10 r.1 >>= λ f. Ok (a.0.0, f.1)) (v, rest) a.2 in
    let c = bind_ok (byte_is 10 b.0.1) (λ f. Ok (a.0.0, f.1)) (v, rest) b.2 in
    let stay = bytes_stay size bytes a.0.0 a.0.1 a.1 in
    let first : a.0.1 ≡ drop size bytes = rest_is (bytes_at size) bytes a.0.0 size a.0.1 stay a.1 in
    let second : b.0.1 ≡ drop 1 a.0.1 = byte_ok 13 a.0.1 b.0.0 b.0.1 b.1 in
    let third : c.0.1 ≡ drop 1 b.0.1 = byte_ok 10 b.0.1 c.0.0 c.0.1 c.1 in
    let last : c.0.1 ≡ rest = (same_whole a.0.0 v c.0.1 rest c.2).1 in
    let some = byte_some 13 a.0.1 b.0.0 b.0.1 b.1 in
    let more = byte_some 10 b.0.1 c.0.0 c.0.1 c.1 in
    record {
      len = omega (arith, stay.inside, some, more, ap length first, length-drop size bytes, ap length second, length-drop 1 a.0.1);
      rest_is = sym last ∙ third ∙ ap (drop 1) (second ∙ ap (drop 1) first ∙ drop-drop 1 size bytes) ∙ drop-drop 1 (size + 1) bytes ∙ ap (λ (n : ℕ). drop n bytes) (omega arith);
    }

-- ---- where its line was read

awaited : (v : Value) (bytes : List ℕ) (a : Awaits v bytes) → text_at bytes ≡ (data_at v.size (drop v.at bytes) >>= λ x. Ok (a.build x.0, x.1))
awaited v bytes a = ap text_at (sym (append-nil bytes)) ∙ a.reads [] ∙ ap (λ (l : List ℕ). data_at v.size (drop v.at l) >>= λ x. Ok (a.build x.0, x.1)) (append-nil bytes)

pub value_whole : (v : Value) (bytes x rest : List ℕ) → Awaits v bytes → data_at v.size (drop v.at bytes) ≡ Ok (x, rest) → (t : Text) × (v.at + v.size + 2 ≤ length bytes) × (text_at bytes ≡ Ok (t, drop (v.at + v.size + 2) bytes))
value_whole v bytes x rest a e =
    let d = data_ends v.size (drop v.at bytes) x rest e in (
      a.build x,
      omega (arith, d.len, length-drop v.at bytes, a.inside),
      awaited v bytes a ∙ ap (λ (r : Front (List ℕ)). r >>= λ x. Ok (a.build x.0, x.1)) e
          ∙ ap (λ (l : List ℕ). Ok (a.build x, l)) (d.rest_is ∙ drop-drop (v.size + 2) v.at bytes ∙ ap (λ (n : ℕ). drop n bytes) (omega arith)),
    )

pub value_less : (v : Value) (bytes : List ℕ) (d : NotWhole) → Awaits v bytes → data_at v.size (drop v.at bytes) ≡ Err d → text_at bytes ≡ Err d
value_less v bytes d a e = awaited v bytes a ∙ ap (λ (r : Front (List ℕ)). r >>= λ x. Ok (a.build x.0, x.1)) e

-- ---- where it ends

pub line_reads : (bytes line : List ℕ) (at : ℕ) (l : Line) (more : List ℕ) → IsLineEnd at bytes → line ≡ without_return (take at bytes) → line_of (words line) ≡ l → text_at (bytes ++ more) ≡ said l (drop (at + 1) bytes ++ more)
unfolding text_at
line_reads bytes line at l more e is told =
    ap (λ (r : Front (List ℕ)). r >>= λ l. said (line_of (words l.0)) l.1) (line_stays bytes at more e)
    ∙ ap (λ (x : Line). said x (drop (at + 1) bytes ++ more)) (ap (λ (y : List ℕ). line_of (words y)) (sym is) ∙ told)

pub line_now : (bytes line : List ℕ) (at : ℕ) (l : Line) → IsLineEnd at bytes → line ≡ without_return (take at bytes) → line_of (words line) ≡ l → text_at bytes ≡ said l (drop (at + 1) bytes)
line_now bytes line at l e is told = ap text_at (sym (append-nil bytes)) ∙ line_reads bytes line at l [] e is told ∙ ap (said l) (append-nil (drop (at + 1) bytes))

pub line_awaits : (bytes line : List ℕ) (at : ℕ) (word : Word) (key : List ℕ) (size : ℕ) (quiet : Bool) → IsLineEnd at bytes → line ≡ without_return (take at bytes) → line_of (words line) ≡ stores word key size quiet
    → Awaits (record { at = at + 1; size = size }) bytes
line_awaits bytes line at word key size quiet e is told = record {
  inside = omega (arith, e.within);
  build = λ value. Store word key value quiet;
  reads = λ more. line_reads bytes line at (stores word key size quiet) more e is told ∙ ap (λ (l : List ℕ). data_at size l >>= λ x. Ok (Store word key x.0 quiet, x.1)) (sym (drop-append-le (at + 1) bytes more (omega (arith, e.within))));
}

pub line_whole : (bytes line : List ℕ) (at : ℕ) (t : Text) → IsLineEnd at bytes → line ≡ without_return (take at bytes) → line_of (words line) ≡ says t → (t : Text) × (at + 1 ≤ length bytes) × (text_at bytes ≡ Ok (t, drop (at + 1) bytes))
line_whole bytes line at t e is told = (t, omega (arith, e.within), line_now bytes line at (says t) e is told)

pub line_closes : (bytes line : List ℕ) (at : ℕ) → IsLineEnd at bytes → line ≡ without_return (take at bytes) → line_of (words line) ≡ closes → text_at bytes ≡ Err Bad
line_closes bytes line at e is told = line_now bytes line at closes e is told

-- ---- where it doesn't end yet

pub too_long : (bytes : List ℕ) → 2048 ≤ line_len bytes → text_at bytes ≡ Err Bad
unfolding text_at
too_long bytes long = ap (λ (r : Front (List ℕ)). r >>= λ l. said (line_of (words l.0)) l.1) (line_bad bytes long)

pub no_line : (bytes : List ℕ) → length bytes ≤ line_len bytes → length bytes ≤ 2047 → text_at bytes ≡ Err Part
unfolding text_at line_len
no_line bytes long short =
    let is : line_len bytes ≡ length bytes = omega (arith, long, prefix_len-le-length is_inside bytes) in
    ap (λ (r : Front (List ℕ)). r >>= λ l. said (line_of (words l.0)) l.1) (line_part bytes long short is)

-- ---- what was seen holds whatever comes behind

pub awaits_more : (v : Value) (bytes more : List ℕ) → Awaits v bytes → Awaits v (bytes ++ more)
awaits_more v bytes more a = record {
  inside = omega (arith, a.inside, length-append bytes more);
  build = a.build;
  reads = λ rest. subst (λ (l : List ℕ). text_at l ≡ (data_at v.size (drop v.at l) >>= λ x. Ok (a.build x.0, x.1))) (sym (append_assoc bytes more rest)) (a.reads (more ++ rest));
}
